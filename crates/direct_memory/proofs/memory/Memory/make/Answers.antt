use Rattle.std.proofs.Common.{◌≡◌, ℕ, ◌+◌, ◌-◌, ◌*◌, ◌<◌, ◌≤◌, [], ◌∷◌, ◌++◌, length, replicate, Some, vec_items, sym, ap, ◌∙◌, arith}
use lib.Seq.{sets}
use Rattle.std.proofs.lemmas.Bool.{cond-true, lt-ltb}
use Rattle.std.proofs.lemmas.List.{length_push}
use Rattle.device.specs.Uses.{resting_use}
use Rattle.direct_memory.specs.Held.{shape}
use Rattle.direct_memory.specs.Tables.{pool_slots}
use Rattle.direct_memory.specs.Views.{buffer_words, holdings, pool_at}
use Rattle.direct_memory.specs.declared.layout.PoolSlot.{PoolSlot}
use Rattle.direct_memory.specs.declared.words.Region.{Region}
use Rattle.direct_memory.proofs.Changing.{grown_in, with_slots}
use Rattle.direct_memory.proofs.Keeping.{booked_above, fits, refilled_sets}
use Rattle.direct_memory.proofs.Shaping.{count_pool}
use Rattle.direct_memory.proofs.memory.Memory.make.Goals as goal

pub invariant_of-self : goal.invariant_of-self
invariant_of-self c =
    let m = c.args.self.now in
    let n = m.numbers in
    let g = c.buffer_region.result in
    let zeros = replicate {A = ℕ} g.size 0 in
    let written : c.zero.new.words ≡ sets (vec_items m.words) g.start zeros = c.zero.ensures ∙ ap (λ t. sets t g.start zeros) c.deref_mut.ensures.value in
    let above : pool_at (shape n) ≤ g.start = omega (arith, ap (λ (x : Region). x.start) c.buffer_region.ensures.value) in
    let longer : length (pool_slots c.push.new.self) ≡ length (pool_slots n.pool) + 1 = ap length c.push.ensures ∙ length_push (pool_slots n.pool) _ in
    ((n.laid, (n.whole, (n.small, (n.fits, (n.listed, (omega arith, (n.bounded, tt))))))), (m.room, (booked_above m c.zero.new.words zeros g.start written above, tt)))

pub returns-clause-answer : goal.returns-clause-answer
returns-clause-answer c =
    let m = c.args.self.now in
    let can = lt-ltb 0 (m.numbers.most - length (pool_slots m.numbers.pool)) (omega arith) in
    ap Some (c.len-made.ensures ∙ sym (count_pool (shape m.numbers) (vec_items m.words) (fits m))) ∙ sym (cond-true _ _ _ can)

pub returns-clause-after : goal.returns-clause-after
returns-clause-after c =
    let m = c.args.self.now in
    let n = m.numbers in
    let ws = vec_items m.words in
    let size = buffer_words (shape n) in
    let k = pool_at (shape n) + length (pool_slots n.pool) * buffer_words (shape n) in
    let zeros = replicate {A = ℕ} (buffer_words (shape n)) 0 in
    let p : PoolSlot = record { kind = c.args.kind; state = resting_use c.args.kind } in
    let at : c.buffer_region.result ≡ record { start = k; size = size } = c.buffer_region.ensures.value ∙ ap (λ (i : ℕ). record { start = pool_at (shape n) + i * size; size = size }) c.len-made.ensures in
    let written : c.zero.new.words ≡ sets ws k zeros =
    c.zero.ensures ∙ ap (λ (g : Region). sets c.deref_mut.result.now g.start (replicate {A = ℕ} g.size 0)) at ∙ ap (λ t. sets t k zeros) c.deref_mut.ensures.value in
    let slots : pool_slots c.push.new.self ≡ pool_slots n.pool ++ p ∷ [] = c.push.ensures ∙ ap (λ u. pool_slots n.pool ++ record { kind = c.args.kind; state = u } ∷ []) c.resting_use.ensures in
    let more : length (pool_slots n.pool) < n.most = omega (arith, c.len-made.ensures) in
    let can = lt-ltb 0 (n.most - length (pool_slots n.pool)) (omega arith) in
    ap (λ t. holdings (with_slots (shape n) (pool_slots c.push.new.self)) t) (refilled_sets m c.zero.new.words zeros k written)
    ∙ ap (λ ps. holdings (with_slots (shape n) ps) (sets ws k zeros)) slots
    ∙ grown_in (shape n) ws (fits m) c.args.kind more
    ∙ sym (cond-true _ _ _ can)

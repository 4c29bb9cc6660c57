use Rattle.std.proofs.Common.{ℕ, ◌+◌, ◌<◌, set, vec_items, sym, ap, ◌∙◌, arith}
use Rattle.std.proofs.lemmas.Bool.{cond-false, cond-true}
use Rattle.direct_memory.specs.Held.{shape}
use Rattle.direct_memory.specs.Lies.{place_of}
use Rattle.direct_memory.specs.Layouts.{words_for}
use Rattle.direct_memory.specs.Views.{holdings}
use Rattle.direct_memory.proofs.Changing.{stored_in, word_high, word_in, word_past}
use Rattle.direct_memory.proofs.Keeping.{booked_set, fits}
use Rattle.direct_memory.proofs.memory.Memory.store.Goals as goal

pub returns-in_default : goal.returns-in_default
returns-in_default c =
    let m = c.args.self.now in
    let none = word_past (shape m.numbers) (vec_items m.words) (fits m) c.args.source c.args.word c.in_default.ensures in
    record { answer = sym none; after = sym (cond-false _ _ _ none) }

pub returns-then-word-region : goal.returns-then-word-region
returns-then-word-region c =
    let m = c.args.self.now in
    let l = c.in-Some.ensures in
    let none = word_high (shape m.numbers) (vec_items m.words) (fits m) c.args.source c.args.word l.there (omega (arith, l.size)) in
    record { answer = sym none; after = sym (cond-false _ _ _ none) }

pub invariant_of-self : goal.invariant_of-self
invariant_of-self c =
    let m = c.args.self.now in
    let l = c.in-Some.ensures in
    record { room = m.room; books = booked_set m (c.in-Some.region.start + c.args.word) c.args.value (omega (arith, l.below)) }

pub returns : goal.returns
returns c =
    let m = c.args.self.now in
    let ws = vec_items m.words in
    let l = c.in-Some.ensures in
    let inside : c.args.word < words_for (place_of m c.args.source).size = omega (arith, l.size) in
    let one = word_in (shape m.numbers) ws (fits m) c.args.source c.args.word l.there inside in
    record {
      answer = sym one;
      after = ap (λ (n : ℕ). holdings (shape m.numbers) (set ws (n + c.args.word) c.args.value)) l.start
          ∙ stored_in (shape m.numbers) ws (fits m) c.args.source c.args.word c.args.value l.there inside
          ∙ sym (cond-true _ _ _ one);
    }

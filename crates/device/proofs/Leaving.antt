-- What a command leaves.
use Rattle.std.proofs.Common.{◌≡◌, ℕ, ◌/◌, ◌≤◌, Bool, true, false, eqb, List, length, get_or, take, drop, set, sym, refl, ap, ◌∙◌, ⊎_elim, arith, length-set, length-take}
use lib.Seq.{length-sets}
use Rattle.std.proofs.lemmas.List.{get_or-set_other, get_or-set_same, set_past}
use Rattle.std.proofs.lemmas.Bool.{both_ways, cases_eq, cases_lt, cond_both, eqb-false, eq-eqb}
use Rattle.device.specs.declared.buffers.BufferRef.{BufferRef}
use Rattle.device.specs.declared.buffers.BufferRef.TheVariants as buffer
use Rattle.device.specs.declared.buffers.BufferUses.{BufferUses}
use Rattle.device.specs.declared.commands.BufferCopy.{BufferCopy}
use Rattle.device.specs.declared.commands.Command.{Command}
use Rattle.device.specs.declared.commands.Command.TheVariants.{Transition, Copy, Begin, Dispatch, End}
use Rattle.device.specs.declared.commands.ValidationDispatch.{ValidationDispatch}
use Rattle.device.specs.Calls.{block_of, block_words}
use Rattle.device.specs.Dispatches.{dispatched, entries_of, pool_words, window}
use Rattle.device.specs.Laws.{Leaves, alters_buffer, answers, is_block, is_pool, writes}
use Rattle.device.specs.Meaning.{Meaning, Holdings, Buffer, Block, no_buffer, no_block, with_mark}
use Rattle.device.specs.Plays.{copied, lawful, obeyed, played, put_state, put_words, with_state, with_words}
use Rattle.device.proofs.Drawing.{ran_length, ran_outside}
use Rattle.device.proofs.Runs.{get_d_sets_outside}

-- one item of a list replaced by another that has the same f: every item has the same f as before
set_keeps : {X Y : Type 0} (f : X → Y) (l : List X) (i k : ℕ) (x d : X) → f x ≡ f (get_or l i d) → f (get_or (set l i x) k d) ≡ f (get_or l k d)
set_keeps f l i k x d e =
    ⊎_elim
    (λ p. ⊎_elim
    (λ h. rw p (ap f (get_or-set_same l i x d h) ∙ e))
    (λ h. ap (λ t. f (get_or t k d)) (set_past l i x h))
    (cases_lt i (length l)))
    (λ q. ap f (get_or-set_other l i k x d q))
    (cases_eq k i)

other : {X : Type 0} (l : List X) (i k : ℕ) (x d : X) → eqb i k ≡ false → get_or (set l i x) k d ≡ get_or l k d
other l i k x d e = get_or-set_other l i k x d (λ p. eqb-false i k e (sym p))

-- what a pool buffer's words leave that are replaced by as many
module _ (h : Holdings) (i : ℕ) (ws : List ℕ) (long : length ws ≡ length (pool_words i h)) where
  words_count : length (put_words i ws h).pool ≡ length h.pool
  words_count = length-set h.pool i (with_words ws (get_or h.pool i no_buffer))

  words_kind : (k : ℕ) → (get_or (put_words i ws h).pool k no_buffer).kind ≡ (get_or h.pool k no_buffer).kind
  words_kind k = set_keeps (λ (b : Buffer). b.kind) h.pool i k (with_words ws (get_or h.pool i no_buffer)) no_buffer refl

  words_length : (k : ℕ) → length (get_or (put_words i ws h).pool k no_buffer).words ≡ length (get_or h.pool k no_buffer).words
  words_length k = set_keeps (λ (b : Buffer). length b.words) h.pool i k (with_words ws (get_or h.pool i no_buffer)) no_buffer long

  -- word j of buffer k, if j of the written one is as it was
  words_word : (k j : ℕ) → (i ≡ k → get_or ws j 0 ≡ get_or (pool_words i h) j 0) → get_or (get_or (put_words i ws h).pool k no_buffer).words j 0 ≡ get_or (get_or h.pool k no_buffer).words j 0
  words_word k j same =
      ⊎_elim
      (λ p. set_keeps (λ (b : Buffer). get_or b.words j 0) h.pool i k (with_words ws (get_or h.pool i no_buffer)) no_buffer (same p))
      (λ q. ap (λ (b : Buffer). get_or b.words j 0) (get_or-set_other h.pool i k (with_words ws (get_or h.pool i no_buffer)) no_buffer (λ p. q (sym p))))
      (cases_eq i k)

-- what a change of use leaves
module _ (u : BufferUses) (h : Holdings) where
  state_sources : (r : BufferRef) → (put_state r u h).sources ≡ h.sources
  state_sources (buffer.Pool i) = refl
  state_sources (buffer.Staging b) = refl

  state_answers : (r : BufferRef) → answers (put_state r u h) ≡ answers h
  state_answers (buffer.Pool i) = refl
  state_answers (buffer.Staging b) = rw (length-set h.staging.blocks b.number (block_of (block_words b h) u))

  state_count : (r : BufferRef) → length (put_state r u h).pool ≡ length h.pool
  state_count (buffer.Pool i) = length-set h.pool i (with_state u (get_or h.pool i no_buffer))
  state_count (buffer.Staging b) = refl

  state_buffer : (r : BufferRef) (k : ℕ) → is_pool r k ≡ false → get_or (put_state r u h).pool k no_buffer ≡ get_or h.pool k no_buffer
  state_buffer (buffer.Pool i) k e = other h.pool i k (with_state u (get_or h.pool i no_buffer)) no_buffer e
  state_buffer (buffer.Staging b) k e = refl

  -- whatever of a buffer is not its use
  state_keeps : {Y : Type 0} (f : Buffer → Y) → ((b : Buffer) → f (with_state u b) ≡ f b) → (r : BufferRef) (k : ℕ) → f (get_or (put_state r u h).pool k no_buffer) ≡ f (get_or h.pool k no_buffer)
  state_keeps f same (buffer.Pool i) k = set_keeps f h.pool i k (with_state u (get_or h.pool i no_buffer)) no_buffer (same (get_or h.pool i no_buffer))
  state_keeps f same (buffer.Staging b) k = refl

  state_block : (r : BufferRef) (k : ℕ) → is_block r k ≡ false → get_or (put_state r u h).staging.blocks k no_block ≡ get_or h.staging.blocks k no_block
  state_block (buffer.Pool i) k e = refl
  state_block (buffer.Staging b) k e = other h.staging.blocks b.number k (block_of (block_words b h) u) no_block e

  state_staged : (r : BufferRef) (k : ℕ) → (get_or (put_state r u h).staging.blocks k no_block).words ≡ (get_or h.staging.blocks k no_block).words
  state_staged (buffer.Pool i) k = refl
  state_staged (buffer.Staging b) k = set_keeps (λ (x : Block). x.words) h.staging.blocks b.number k (block_of (block_words b h) u) no_block refl

copied_length : (c : BufferCopy) (h : Holdings) → length (copied c h) ≡ length (pool_words c.buffer h)
copied_length c h = length-sets (pool_words c.buffer h) (c.dst_offset / 4) (take (c.size / 4) (drop (c.src_offset / 4) (block_words c.block h)))

copied_few : (c : BufferCopy) (h : Holdings) → length (take (c.size / 4) (drop (c.src_offset / 4) (block_words c.block h))) ≤ c.size / 4
copied_few c h = simp length-take (omega arith)

dispatched_length : (d : ValidationDispatch) (h : Holdings) → length (dispatched d h) ≡ length (pool_words d.destination h)
dispatched_length d h = ran_length h.properties.first_instances (window d h) (entries_of d h) (pool_words d.destination h)

abbrev with_after : Meaning → Bool → Bool → Meaning
with_after m o k = record { holds = m.holds; pass_open = o; marked = k }

never : (c : Command) (m n : Meaning) → lawful c m ≡ true → lawful c m ≡ false → n ≡ with_mark m
never c m n yes-lawful no-lawful = absurd (both_ways (lawful c m) no-lawful yes-lawful)

-- a command that leaves all that is held
module _ (c : Command) (m : Meaning) where
  held_stays : (o k : Bool) → (lawful c m ≡ false → with_after m o k ≡ with_mark m) → (lawful c m ≡ true → k ≡ m.marked) → Leaves c m (with_after m o k)
  held_stays o k unlawful lawful_mark = record {
    unlawful = unlawful;
    mark = lawful_mark;
    sources = refl;
    answered = refl;
    count = refl;
    buffers = λ i _. refl;
    kinds = λ i. refl;
    lengths = λ i. refl;
    words = λ i k _. refl;
    blocks = λ i _. refl;
    staged = λ i. refl;
  }

  -- a lawful one that writes as many words to a pool buffer as it has
  written_only : (i : ℕ) (ws : List ℕ) → lawful c m ≡ true → length ws ≡ length (pool_words i m.holds)
      → ((k : ℕ) → alters_buffer c k ≡ false → eqb i k ≡ false)
      → ((k j : ℕ) → i ≡ k → writes c m.holds k j ≡ false → get_or ws j 0 ≡ get_or (pool_words i m.holds) j 0)
      → Leaves c m (record { holds = put_words i ws m.holds; pass_open = m.pass_open; marked = m.marked })
  written_only i ws ok long altered outside = record {
    unlawful = never c m (record { holds = put_words i ws m.holds; pass_open = m.pass_open; marked = m.marked }) ok;
    mark = λ _. refl;
    sources = refl;
    answered = refl;
    count = words_count m.holds i ws long;
    buffers = λ k e. other m.holds.pool i k (with_words ws (get_or m.holds.pool i no_buffer)) no_buffer (altered k e);
    kinds = λ k. words_kind m.holds i ws long k;
    lengths = λ k. words_length m.holds i ws long k;
    words = λ k j out. words_word m.holds i ws long k j (λ p. outside k j p out);
    blocks = λ k _. refl;
    staged = λ k. refl;
  }

leaves_lawful : (c : Command) (m : Meaning) → lawful c m ≡ true → Leaves c m (obeyed c m)
leaves_lawful (Transition b) m ok = record {
  unlawful = never (Transition b) m (obeyed (Transition b) m) ok;
  mark = λ _. refl;
  sources = state_sources b.to m.holds b.buffer;
  answered = state_answers b.to m.holds b.buffer;
  count = state_count b.to m.holds b.buffer;
  buffers = λ i e. state_buffer b.to m.holds b.buffer i e;
  kinds = λ i. state_keeps b.to m.holds (λ (x : Buffer). x.kind) (λ _. refl) b.buffer i;
  lengths = λ i. state_keeps b.to m.holds (λ (x : Buffer). length x.words) (λ _. refl) b.buffer i;
  words = λ i k _. state_keeps b.to m.holds (λ (x : Buffer). get_or x.words k 0) (λ _. refl) b.buffer i;
  blocks = λ i e. state_block b.to m.holds b.buffer i e;
  staged = λ i. state_staged b.to m.holds b.buffer i;
}
leaves_lawful (Copy c) m ok =
    written_only (Copy c) m c.buffer (copied c m.holds) ok (copied_length c m.holds) (λ _ e. e)
    (λ i k p out. get_d_sets_outside (take (c.size / 4) (drop (c.src_offset / 4) (block_words c.block m.holds))) (pool_words c.buffer m.holds) (c.dst_offset / 4) (c.size / 4) k 0 (copied_few c m.holds) (rw (eq-eqb c.buffer i p) at out))
leaves_lawful Begin m ok = held_stays Begin m true m.marked (never Begin m (obeyed Begin m) ok) (λ _. refl)
leaves_lawful (Dispatch d) m ok =
    written_only (Dispatch d) m d.destination (dispatched d m.holds) ok (dispatched_length d m.holds) (λ _ e. e)
    (λ i k p out. ran_outside m.holds.properties.first_instances (window d m.holds) (entries_of d m.holds) (pool_words d.destination m.holds) k (rw (eq-eqb d.destination i p) at out))
leaves_lawful End m ok = held_stays End m false m.marked (never End m (obeyed End m) ok) (λ _. refl)

leaves_unlawful : (c : Command) (m : Meaning) → lawful c m ≡ false → Leaves c m (with_mark m)
leaves_unlawful c m wrong = held_stays c m m.pass_open true (λ _. refl) (λ right. absurd (both_ways (lawful c m) wrong right))

pub leaves : (c : Command) (m : Meaning) → Leaves c m (played c m)
leaves c m =
    cond_both (lawful c m) (obeyed c m) (with_mark m) (λ n. Leaves c m n) (leaves_lawful c m) (leaves_unlawful c m)

-- the same, where what the command makes of a device is known by an equation
pub leaves_to : (c : Command) (m n : Meaning) → n ≡ played c m → Leaves c m n
leaves_to c m n e = rw e (leaves c m)

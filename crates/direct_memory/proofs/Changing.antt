-- What each write makes of what is held.
use Rattle.std.proofs.Common.{◌≡◌, ℕ, suc, ◌+◌, ◌-◌, ◌*◌, ◌<◌, ◌≤◌, true, false, List, [], ◌∷◌, ◌++◌, length, get_or, set, replicate, sym, refl, ap, ◌∙◌, arith}
use lib.Seq.{sets}
use Rattle.std.proofs.lemmas.List.{length-replicate, length_push}
use Rattle.std.proofs.lemmas.Bool.{lt-ltb, le-ltb}
use Rattle.device.specs.Calls.{grown, has_word, replaced, source_of}
use Rattle.device.specs.Meaning.{Block, Buffer, Holdings, Source}
use Rattle.device.specs.Uses.{resting_use}
use Rattle.device.specs.declared.buffers.PoolKind.{PoolKind}
use Rattle.direct_memory.specs.Cells.{cell, part, reads}
use Rattle.direct_memory.specs.Layouts.{words_for}
use Rattle.direct_memory.specs.Views.{Shape, blocks_in, buffer_of, buffer_words, holdings, pool_at, pool_cells, pool_in, sources_in}
use Rattle.direct_memory.specs.declared.layout.PoolSlot.{PoolSlot}
use Rattle.direct_memory.proofs.Celling.{reads-++, reads_above}
use Rattle.direct_memory.proofs.Shaping.{Fits, no_place, buffer_end, frame_blocks_above, frame_blocks_below, frame_pool, frame_sources, pool_laid, source_at_lem, source_end, source_long, source_past, source_written}
use Rattle.direct_memory.proofs.Wording.{length_part, part_sets_in, sets_over}

abbrev holding : List Source → List Buffer → List Block → Shape → Holdings
holding ss ps bs s = record { sources = ss; pool = ps; staging = record { blocks = bs; free = s.size - s.used }; makeable = s.most - length s.slots; properties = s.properties }

same : {ss ss' : List Source} {ps ps' : List Buffer} {bs bs' : List Block} (s : Shape) → ss ≡ ss' → ps ≡ ps' → bs ≡ bs' → holding ss ps bs s ≡ holding ss' ps' bs' s
same s p q r = rw (p, q, r)

abbrev pub with_slots : Shape → List PoolSlot → Shape
with_slots s ps = record { sources = s.sources; staging = s.staging; size = s.size; blocks = s.blocks; used = s.used; slots = ps; most = s.most; properties = s.properties }

-- one more pool buffer
pool_push : (ps : List PoolSlot) (p : PoolSlot) (at n : ℕ) → pool_cells (ps ++ p ∷ []) at n ≡ pool_cells ps at n ++ cell (at + length ps * n) n (buffer_of p) ∷ []
pool_push [] p at n = let e : at ≡ at + 0 * n = omega arith in ap (λ (k : ℕ). cell k n (buffer_of p) ∷ []) e
pool_push (q ∷ ps) p at n =
    let e : at + n + length ps * n ≡ at + suc (length ps) * n = omega arith in
    ap (λ t. cell at n (buffer_of q) ∷ t) (pool_push ps p (at + n) n ∙ ap (λ (k : ℕ). pool_cells ps (at + n) n ++ cell k n (buffer_of p) ∷ []) e)

-- store
module _ (s : Shape) (ws : List ℕ) (f : Fits s ws) where
  pub word_in : (i w : ℕ) → i < length s.sources → w < words_for (get_or s.sources i no_place).size → has_word i w (holdings s ws) ≡ true
  word_in i w h l = rw (source_long s ws f i h) (lt-ltb w (words_for (get_or s.sources i no_place).size) l)

  pub word_high : (i w : ℕ) → i < length s.sources → words_for (get_or s.sources i no_place).size ≤ w → has_word i w (holdings s ws) ≡ false
  word_high i w h l = rw (source_long s ws f i h) (le-ltb w (words_for (get_or s.sources i no_place).size) l)

  pub word_past : (i w : ℕ) → length s.sources ≤ i → has_word i w (holdings s ws) ≡ false
  word_past i w h = rw (source_past s ws f i h) (le-ltb w 0 (omega arith))

  pub stored_in : (i w v : ℕ) → i < length s.sources → w < words_for (get_or s.sources i no_place).size → holdings s (set ws ((get_or s.sources i no_place).start + w) v) ≡ replaced i w v (holdings s ws)
  stored_in i w v h l =
      let p = get_or s.sources i no_place in
      let at = source_at_lem s ws f i h in
      let e = source_end s ws f i h in
      same s
      (source_written s ws f i w (p.start + w) (v ∷ []) h refl (omega arith)
      ∙ ap (λ (x : Source). set (sources_in s ws) i (source_of x.size (set x.words w v))) (sym at))
      (frame_pool s ws f (v ∷ []) (p.start + w) (omega arith))
      (frame_blocks_below s ws f (v ∷ []) (p.start + w) (omega arith))

  -- make
  pub grown_in : (kind : PoolKind) → length s.slots < s.most
      → holdings (with_slots s (s.slots ++ record { kind = kind; state = resting_use kind } ∷ [])) (sets ws (pool_at s + length s.slots * buffer_words s) (replicate (buffer_words s) 0)) ≡ grown kind (holdings s ws)
  grown_in kind h =
      let n = buffer_words s in
      let k = pool_at s + length s.slots * buffer_words s in
      let zeros = replicate {A = ℕ} (buffer_words s) 0 in
      let us = sets ws k zeros in
      let p : PoolSlot = record { kind = kind; state = resting_use kind } in
      let long : length (replicate {A = ℕ} (buffer_words s) 0) ≡ buffer_words s = length-replicate {A = ℕ} (buffer_words s) 0 in
      let end : pool_at s + length s.slots * buffer_words s + buffer_words s ≤ length ws = buffer_end s ws f (length s.slots) h in
      let old : pool_in s us ≡ pool_in s ws = reads_above (pool_cells s.slots (pool_at s) n) (pool_at s) k zeros ws k (pool_laid s ws f) (omega arith) in
      let fresh : part k n us ≡ zeros = part_sets_in k n zeros ws 0 k (omega arith) (omega arith) ∙ sets_over zeros (part k n ws) (length_part k n ws end ∙ sym long) in
      let pool : reads (pool_cells (s.slots ++ p ∷ []) (pool_at s) n) us ≡ pool_in s ws ++ buffer_of p zeros ∷ [] =
      ap (λ t. reads t us) (pool_push s.slots p (pool_at s) n)
      ∙ reads-++ (pool_cells s.slots (pool_at s) n) (cell k n (buffer_of p) ∷ []) us
      ∙ ap (λ t. t ++ buffer_of p (part k n us) ∷ []) old
      ∙ ap (λ t. pool_in s ws ++ buffer_of p t ∷ []) fresh in
      let left : s.most - length (s.slots ++ p ∷ []) ≡ s.most - length s.slots - 1 = rw (length_push s.slots p) (omega arith) in
      let below : sources_in s us ≡ sources_in s ws = frame_sources s ws f zeros k (omega arith) in
      let staged : blocks_in s us ≡ blocks_in s ws = frame_blocks_above s ws f zeros k (omega arith) in
      rw (below, pool, staged, left)

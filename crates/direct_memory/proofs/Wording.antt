-- Runs of words written into a list, and parts of it.
use Rattle.std.proofs.Common.{◌≡◌, ℕ, suc, ◌+◌, ◌-◌, ◌<◌, ◌≤◌, List, [], ◌∷◌, ◌++◌, length, take, drop, set, sym, refl, ap, ◌∙◌, arith, length-drop, length-take, drop-set-lt}
use lib.Seq.{sets, sets-eq, take-set-lt, take-set-le, drop-set-add}
use borrow.Rule.Slice.PartMut.{put_mid}
use Rattle.std.proofs.lemmas.List.{append-nil, take_all, take-take, take-append-le, drop-append-le, drop_all, drop-drop, drop-take}
use Rattle.std.proofs.lemmas.Slice.{put_mid-paste}
use Rattle.std.specs.List.{copy_within}
use Rattle.std.proofs.Math.Seq.{drop-append-add}
use Rattle.direct_memory.specs.Cells.{part}

pub length_part : (a n : ℕ) (ws : List ℕ) → a + n ≤ length ws → length (part a n ws) ≡ n
length_part a n ws h = simp (length-take, length-drop) (omega arith)

-- a part of lists that stand one after another
pub part-append_left : (a n : ℕ) (xs ys : List ℕ) → a + n ≤ length xs → part a n (xs ++ ys) ≡ part a n xs
part-append_left a n xs ys h =
    let inside : n ≤ length (drop a xs) = simp length-drop (omega arith) in
    rw (drop-append-le a xs ys (omega arith)) (take-append-le n (drop a xs) ys inside)

pub part-append_right : (a n b : ℕ) (xs ys : List ℕ) → a ≡ length xs + b → part a n (xs ++ ys) ≡ part b n ys
part-append_right a n b xs ys e = rw (e, drop-append-add xs ys b)

-- a write to a range of a slice
pub put_mid_sets : (a k n : ℕ) (xs ys : List ℕ) → n ≡ k → n ≡ length ys → a + n ≤ length xs → put_mid a k xs ys ≡ sets xs a ys
put_mid_sets a k n xs ys e f h =
    put_mid-paste a k xs ys ys n refl e f
    ∙ ap (λ t. take a xs ++ t ++ drop (a + n) xs) (take_all n ys (omega arith))
    ∙ ap (λ (j : ℕ). take a xs ++ ys ++ drop (a + j) xs) f
    ∙ sym (sets-eq ys xs a (omega arith))

-- a part copied to a place
pub copy_within_sets : (a n k to : ℕ) (ws : List ℕ) → k ≡ a + n → k ≤ length ws → to + n ≤ length ws → copy_within ws a k to ≡ sets ws to (part a n ws)
copy_within_sets a n k to ws e h l =
    let size : k - a ≡ n = omega arith in
    let long : length (part a n ws) ≡ n = length_part a n ws (omega arith) in
    rw (size, sets-eq (part a n ws) ws to (omega arith), long)

-- what a write leaves of a part, and what it does inside one
module _ (at n : ℕ) where
  part_set_in : (ws : List ℕ) (i k v : ℕ) → k ≡ at + i → i < n → part at n (set ws k v) ≡ set (part at n ws) i v
  part_set_in ws i k v e h = rw e (ap (take n) (drop-set-add at ws i v) ∙ take-set-lt n (drop at ws) i v h)

  part_set_below : (ws : List ℕ) (k v : ℕ) → k < at → part at n (set ws k v) ≡ part at n ws
  part_set_below ws k v h = ap (take n) (drop-set-lt at ws k v h)

  part_set_above : (ws : List ℕ) (k v : ℕ) → at + n ≤ k → part at n (set ws k v) ≡ part at n ws
  part_set_above ws k v h =
      let e : k ≡ at + (k - at) = omega arith in
      let f : n ≤ k - at = omega arith in
      ap (λ (j : ℕ). part at n (set ws j v)) e ∙ ap (take n) (drop-set-add at ws (k - at) v) ∙ take-set-le n (drop at ws) (k - at) v f

  pub part_sets_in : (vs ws : List ℕ) (off k : ℕ) → k ≡ at + off → off + length vs ≤ n → part at n (sets ws k vs) ≡ sets (part at n ws) off vs
  part_sets_in [] ws off k e h = refl
  part_sets_in (v ∷ vs) ws off k e h =
      part_sets_in vs (set ws k v) (suc off) (suc k) (omega arith) (omega arith)
      ∙ ap (λ l. sets l (suc off) vs) (part_set_in ws off k v e (omega arith))

  pub part_sets_below : (vs ws : List ℕ) (k : ℕ) → k + length vs ≤ at → part at n (sets ws k vs) ≡ part at n ws
  part_sets_below [] ws k h = refl
  part_sets_below (v ∷ vs) ws k h = part_sets_below vs (set ws k v) (suc k) (omega arith) ∙ part_set_below ws k v (omega arith)

  pub part_sets_above : (vs ws : List ℕ) (k : ℕ) → at + n ≤ k → part at n (sets ws k vs) ≡ part at n ws
  part_sets_above [] ws k h = refl
  part_sets_above (v ∷ vs) ws k h = part_sets_above vs (set ws k v) (suc k) (omega arith) ∙ part_set_above ws k v (omega arith)

-- a part of a part
pub part_part : (at n from k : ℕ) (ws : List ℕ) → from + k ≤ n → part from k (part at n ws) ≡ part (at + from) k ws
part_part at n from k ws h =
    let e : n ≡ from + (n - from) = omega arith in
    ap (λ (j : ℕ). take k (drop from (take j (drop at ws)))) e
    ∙ ap (take k) (drop-take from (n - from) (drop at ws))
    ∙ take-take k (n - from) (drop from (drop at ws)) (omega arith)
    ∙ ap (take k) (drop-drop from at ws)

-- a list all written over
pub sets_over : (vs ws : List ℕ) → length ws ≡ length vs → sets ws 0 vs ≡ vs
sets_over vs ws e =
    let none : drop (0 + length vs) ws ≡ [] = drop_all (0 + length vs) ws (omega arith) in
    sets-eq vs ws 0 (omega arith) ∙ rw none (append-nil vs)

-- Entries in words, handled one after another.
use Rattle.std.proofs.Common.{◌≡◌, ℕ, zero, suc, ◌+◌, ◌<◌, ◌≤◌, Bool, true, ◌&&◌, List, [], ◌∷◌, ◌++◌, map, length, get_or, take, drop, refl, ap, ◌∙◌, sym, arith}
use Rattle.std.proofs.lemmas.List.Edits.{sets}
use Rattle.std.specs.List.{list_all}
use Rattle.std.proofs.lemmas.List.Sums.{AllPass-from_list_all}
use Rattle.std.specs.Simd.{first_chunks}
use Rattle.std.proofs.lemmas.List.{take_more, get_or-take, map-append}
use Rattle.std.proofs.lemmas.Bool.{and_parts, leb-true}
use Rattle.entry.specs.Entries.{entry_from}
use Rattle.entry.specs.declared.metadata.MetadataEntry.{MetadataEntry}
use Rattle.device.specs.Dispatches.{all_inside, drawn, entries_from, inside, place_at, place_words, ran}
use Rattle.device.proofs.Drawing.{ran_length}

-- an entry is the first four of its words
entry_front : (ws : List ℕ) → entry_from (take 4 ws) ≡ entry_from ws
entry_front ws = rw (get_or-take 4 ws 0 0 (omega arith), get_or-take 4 ws 1 0 (omega arith), get_or-take 4 ws 2 0 (omega arith), get_or-take 4 ws 3 0 (omega arith))

pub entries_chunks : (ws : List ℕ) (n : ℕ) → map entry_from (first_chunks 4 n ws) ≡ entries_from ws n
entries_chunks ws zero = refl
entries_chunks ws (suc n) = rw (entry_front ws, entries_chunks (drop 4 ws) n)

pub all_inside_map : (w n : ℕ) (cs : List (List ℕ)) → list_all (λ c. inside w n (entry_from c)) cs ≡ all_inside w n (map entry_from cs)
all_inside_map w n [] = refl
all_inside_map w n (c ∷ cs) = ap (λ b. inside w n (entry_from c) && b) (all_inside_map w n cs)

inside_at : (w n : ℕ) (cs : List (List ℕ)) (i : ℕ) (d : List ℕ) → i < length cs → all_inside w n (map entry_from cs) ≡ true → inside w n (entry_from (get_or cs i d)) ≡ true
inside_at w n cs i d h ok = AllPass-from_list_all (λ c. inside w n (entry_from c)) cs (all_inside_map w n cs ∙ ok) i d h

ran_push : (allowed : Bool) (w : List ℕ) (xs : List MetadataEntry) (e : MetadataEntry) (ws : List ℕ) → ran allowed w (xs ++ e ∷ []) ws ≡ sets (ran allowed w xs ws) (place_at e) (drawn allowed w e)
ran_push allowed w [] e ws = refl
ran_push allowed w (x ∷ xs) e ws = ran_push allowed w xs e (sets ws (place_at x) (drawn allowed w x))

-- the next turn of a run over entries of four words each
module _ (allowed : Bool) (w : List ℕ) (cs : List (List ℕ)) (i : ℕ) (d ws vs : List ℕ) (e : MetadataEntry) (next : e ≡ entry_from (get_or cs i d)) (h : i < length cs) (before : vs ≡ ran allowed w (map entry_from (take i cs)) ws) where
  pub place_fits : all_inside (length w) (length ws) (map entry_from cs) ≡ true → place_at e + place_words e ≤ length vs
  place_fits ok =
      let lies : inside (length w) (length ws) e ≡ true = rw next (inside_at (length w) (length ws) cs i d h ok) in
      omega (arith, ap length before ∙ ran_length allowed w (map entry_from (take i cs)) ws, leb-true (place_at e + place_words e) (length ws) (and_parts _ _ lies).1)

  pub run_more : (us : List ℕ) → us ≡ sets vs (place_at e) (drawn allowed w e) → us ≡ ran allowed w (map entry_from (take (i + 1) cs)) ws
  run_more us new =
      new ∙ rw (before, next, take_more cs i d h, map-append) (sym (ran_push allowed w (map entry_from (take i cs)) (entry_from (get_or cs i d)) ws))

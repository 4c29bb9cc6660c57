-- A place by the rule comes after all the places before it.
use Rattle.std.proofs.Common.{◌≡◌, ℕ, ◌+◌, ◌<◌, ◌≤◌, Bool, true, false, cond, leb, ◌⊎◌, List, [], ◌∷◌, ◌++◌, Some, None, Ok, Err, Option, sym, refl, subst, inl, inr, arith, leb-false, leb-true}
use Rattle.std.proofs.lemmas.Option.{cond_some}
use Rattle.std.proofs.lemmas.Grind.{common_steps}
use Rattle.std.specs.List.{AllByRecursion}
use Rattle.command.specs.declared.refusal.Refusal.{Refusal}
use Rattle.places.specs.declared.current.CurrentEntry.{CurrentEntry}
use Rattle.places.specs.Laid.{Span, span, Follows, Chained, Laid, EndsAfter, Ends, Apart, Within, Next}
use Rattle.places.specs.Placed.{entry, placed, past, fits, numbered, answered}

-- q comes right after the end c of what stands there
abbrev Continues : ℕ → CurrentEntry → Span → Type 0
Continues room c q =
    ((q.place.index ≡ c.index) × (q.place.offset ≡ c.offset) × (c.offset + q.size ≤ room))
    ⊎ ((q.place.index ≡ c.index + 1) × (q.place.offset ≡ 0) × (room < c.offset + q.size))

abbrev Behind : CurrentEntry → Span → Type 0
Behind c s = (s.place.index ≤ c.index) × (s.place.index ≡ c.index → s.place.offset + s.size ≤ c.offset)

behind_step : (room : ℕ) (c : CurrentEntry) (s t : Span) → Follows room s t → Behind c t → Behind c s
behind_step room c s t (inl f) b = (omega (arith, f.0, b.0), λ e. let k : t.place.index ≡ c.index = omega (arith, f.0, e) in omega (arith, f.1, b.1 k))
behind_step room c s t (inr f) b = (omega (arith, f.0, b.0), λ e. absurd (omega (arith, f.0, b.0, e)))

apart_at : (room : ℕ) (c : CurrentEntry) (s q : Span) → Behind c s → Continues room c q → Apart q s
apart_at room c s q b (inl f) e = let k : s.place.index ≡ c.index = omega (arith, f.0, e) in inr (omega (arith, f.1, b.1 k))
apart_at room c s q b (inr f) e = absurd (omega (arith, f.0, b.0, e))

follows_end : (room : ℕ) (c : CurrentEntry) (s q : Span) → (c.index ≡ s.place.index) × (c.offset ≡ s.place.offset + s.size) → Continues room c q → Follows room s q
follows_end room c s q e (inl f) = inl (omega (arith, f.0, e.0), omega (arith, f.1, e.1), omega (arith, f.2, e.1))
follows_end room c s q e (inr f) = inr (omega (arith, f.0, e.0), f.1, omega (arith, f.2, e.1))

module _ (room : ℕ) (c : CurrentEntry) (q : Span) (n : Continues room c q) where
  chained : (s : Span) (ts : List Span) → Chained room s ts → EndsAfter c s ts → Chained room s (ts ++ q ∷ [])
  chained s [] h e = (follows_end room c s q e n, tt)
  chained s (t ∷ ts) h e = (h.0, chained t ts h.1 e)

  ends : (s : Span) (ts : List Span) → EndsAfter (past q.place q.size) s (ts ++ q ∷ [])
  ends s [] = (refl, refl)
  ends s (t ∷ ts) = ends t ts

  behind : (s : Span) (ts : List Span) → Chained room s ts → EndsAfter c s ts → Behind c s × AllByRecursion (Apart q) (s ∷ ts)
  behind s [] h e =
      let b : Behind c s = (omega (arith, e.0), λ k. omega (arith, e.1)) in
      (b, (apart_at room c s q b n, tt))
  behind s (t ∷ ts) h e =
      let r = behind t ts h.1 e in
      let b = behind_step room c s t h.0 r.0 in
      (b, (apart_at room c s q b n, r.1))

  within : q.size ≤ room → Within room q
  within z = at n
    where
      at : Continues room c q → Within room q
      at (inl f) = omega (arith, f.1, f.2)
      at (inr f) = omega (arith, f.1)

continues : (room size : ℕ) (c : CurrentEntry) (b : Bool) → leb (c.offset + size) room ≡ b → Continues room c (span (cond b c (entry (c.index + 1) 0)) size)
continues room size c true e = inl (refl, refl, leb-true (c.offset + size) room e)
continues room size c false e = inr (refl, refl, leb-false (c.offset + size) room e)

-- the place of the rule, after any places that end where it begins
pub next_placed : (room size : ℕ) (c : Option CurrentEntry) (spans : List Span) → Laid room spans → Ends c spans → Next room spans (Some (past (placed c size room) size)) (span (placed c size room) size)
next_placed room size None [] l e = record { laid = (refl, refl, tt); ends = (refl, refl); apart = tt; within = λ z. omega (arith, z) }
next_placed room size None (s ∷ ts) l e = absurd e
next_placed room size (Some c) [] l e = absurd e
next_placed room size (Some c) (s ∷ ts) l e =
    let q = span (placed (Some c) size room) size in
    let n : Continues room c q = continues room size c (leb (c.offset + size) room) refl in
    record {
      laid = (l.0, l.1, chained room c q n s ts l.2 e);
      ends = ends room c q n s ts;
      apart = (behind room c q n s ts l.2 e).1;
      within = within room c q n;
    }

-- the same of a place that is known to be the rule's
pub next_numbered : (room size : ℕ) (c : Option CurrentEntry) (p : CurrentEntry) → Some p ≡ cond (numbered (placed c size room)) (Some (placed c size room)) None → (spans : List Span) → Laid room spans → Ends c spans → Next room spans (Some (past p size)) (span p size)
next_numbered room size c p q spans l e =
    subst (λ (r : CurrentEntry). Next room spans (Some (past r size)) (span r size)) (cond_some _ _ _ (sym q)).1 (next_placed room size c spans l e)

pub answered_ok : (c : Option CurrentEntry) (size room : ℕ) (can : ℕ → Bool) (p : CurrentEntry) → answered c size room can ≡ Ok p → placed c size room ≡ p
answered_ok None size room can p e = grind (arith, common_steps)
answered_ok (Some c) size room can p e = grind (arith, common_steps)

-- no supply has a buffer whose number is past 64 bits
pub answered_past : (c : Option CurrentEntry) (size room : ℕ) (can : ℕ → Bool) → (fits c size room ≡ true → None ≡ c) → numbered (placed c size room) ≡ false → answered c size room can ≡ Err Refusal.NoBuffer
answered_past None size room can f e = grind (arith, common_steps)
answered_past (Some c) size room can f e = grind (arith, common_steps)

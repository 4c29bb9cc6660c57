-- Places that were laid one after another are apart and inside.
use Rattle.std.proofs.Common.{◌≡◌, ℕ, ◌≤◌, List, [], ◌∷◌, inl, inr, arith}
use Rattle.std.proofs.ByRecursion.{All-weaker}
use Rattle.std.specs.List.{AllByRecursion}
use Rattle.places.specs.Laid.{Span, Follows, Chained, Within, Before, Pairwise, LaidApart}

before_step : (room : ℕ) (s t : Span) → Follows room s t → Before s t
before_step room s t (inl f) = (omega (arith, f.0), λ e. omega (arith, f.1))
before_step room s t (inr f) = (omega (arith, f.0), λ e. absurd (omega (arith, f.0, e)))

before_trans : (s t u : Span) → Before s t → Before t u → Before s u
before_trans s t u a b = (
  omega (arith, a.0, b.0),
  λ e.
      let p : s.place.index ≡ t.place.index = omega (arith, a.0, b.0, e) in
      let q : t.place.index ≡ u.place.index = omega (arith, a.0, b.0, e) in
      omega (arith, a.1 p, b.1 q),
)

before_all : (room : ℕ) (s : Span) (ts : List Span) → Chained room s ts → AllByRecursion (Before s) ts
before_all room s [] c = tt
before_all room s (t ∷ ts) c =
    let b = before_step room s t c.0 in
    (b, All-weaker (Before t) (Before s) (λ u. before_trans s t u b) ts (before_all room t ts c.1))

pairwise : (room : ℕ) (s : Span) (ts : List Span) → Chained room s ts → Pairwise Before (s ∷ ts)
pairwise room s [] c = (tt, tt)
pairwise room s (t ∷ ts) c = (before_all room s (t ∷ ts) c, pairwise room t ts c.1)

within_step : (room : ℕ) (s t : Span) → Follows room s t → t.size ≤ room → Within room t
within_step room s t (inl f) z = omega (arith, f.1, f.2)
within_step room s t (inr f) z = omega (arith, f.1, z)

within_all : (room : ℕ) (s : Span) (ts : List Span) → Chained room s ts → AllByRecursion (λ x. x.size ≤ room) ts → AllByRecursion (Within room) ts
within_all room s [] c z = tt
within_all room s (t ∷ ts) c z = (within_step room s t c.0 z.0, within_all room t ts c.1 z.1)

pub laid_apart : LaidApart
laid_apart room [] l z = (tt, tt)
laid_apart room (s ∷ ts) l z = (pairwise room s ts l.2, (omega (arith, l.1, z.0), within_all room s ts l.2 z.1))

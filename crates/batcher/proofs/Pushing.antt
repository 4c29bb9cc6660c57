-- One more draw at the end of what is recorded.
use Rattle.std.proofs.Common.{◌≡◌, ℕ, ◌+◌, ◌<◌, ◌≤◌, true, cond, eqb, List, [], ◌∷◌, ◌++◌, sym, refl, ap, ◌∙◌, inl, inr, append_assoc, append-nil, arith}
use Rattle.std.proofs.lemmas.Bool.Decides.{nat_tests}
use Rattle.std.specs.List.{AllZip}
use Rattle.batcher.specs.declared.records.BatchKey.{BatchKey}
use Rattle.batcher.specs.declared.records.IndirectDraw.{IndirectDraw}
use Rattle.batcher.specs.Holds.{tally, Ranked, Opens}
use Rattle.batcher.specs.Keys.{same_key}

module _ {X Y : Type 0} (R : X → Y → Type 0) where
  pub paired_push : (xs : List X) (ys : List Y) (x : X) (y : Y) → AllZip R xs ys → R x y → AllZip R (xs ++ x ∷ []) (ys ++ y ∷ [])
  paired_push [] [] x y p r = (r, tt)
  paired_push [] (z ∷ ys) x y p r = absurd p
  paired_push (z ∷ xs) [] x y p r = absurd p
  paired_push (z ∷ xs) (v ∷ ys) x y p r = (p.0, paired_push xs ys x y p.1 r)

  pub paired_weaker : (S : X → Y → Type 0) → ((x : X) (y : Y) → R x y → S x y) → (xs : List X) (ys : List Y) → AllZip R xs ys → AllZip S xs ys
  paired_weaker S f [] [] p = tt
  paired_weaker S f [] (y ∷ ys) p = p
  paired_weaker S f (x ∷ xs) [] p = p
  paired_weaker S f (x ∷ xs) (y ∷ ys) p = (f x y p.0, paired_weaker S f xs ys p.1)

pub same_key_lem : (j k : BatchKey) → same_key j k ≡ true → j ≡ k
same_key_lem j k e =
    let a : j.source ≡ k.source = grind (arith, nat_tests) in
    let b : j.window ≡ k.window = grind (arith, nat_tests) in
    let c : j.destination ≡ k.destination = grind (arith, nat_tests) in
    λ i. record { source = a i; window = b i; destination = c i }

pub tally_push : (i : ℕ) (ds : List IndirectDraw) (d : IndirectDraw) → tally i (ds ++ d ∷ []) ≡ tally i ds + cond (eqb d.batch i) 1 0
tally_push i [] d = omega arith
tally_push i (e ∷ ds) d = omega (arith, tally_push i ds d)

pub ranked_push : (earlier ds : List IndirectDraw) (d : IndirectDraw) → Ranked earlier ds → d.rank ≡ tally d.batch (earlier ++ ds) → Ranked earlier (ds ++ d ∷ [])
ranked_push earlier [] d r e = (simp append-nil at e, tt)
ranked_push earlier (x ∷ ds) d r e = (r.0, ranked_push (earlier ++ x ∷ []) ds d r.1 (rw append_assoc e))

pub opens_old : (n : ℕ) (ds : List IndirectDraw) (m : ℕ) (d : IndirectDraw) → Opens n ds m → d.batch < m → Opens n (ds ++ d ∷ []) m
opens_old n [] m d e h = inl (omega (arith, e), e)
opens_old n (x ∷ ds) m d (inl o) h = inl (o.0, opens_old n ds m d o.1 h)
opens_old n (x ∷ ds) m d (inr o) h = inr (o.0, opens_old (n + 1) ds m d o.1 h)

pub opens_new : (n : ℕ) (ds : List IndirectDraw) (m : ℕ) (d : IndirectDraw) → Opens n ds m → d.batch ≡ m → Opens n (ds ++ d ∷ []) (m + 1)
opens_new n [] m d e h = inr (h ∙ sym e, ap (λ (k : ℕ). k + 1) e)
opens_new n (x ∷ ds) m d (inl o) h = inl (o.0, opens_new n ds m d o.1 h)
opens_new n (x ∷ ds) m d (inr o) h = inr (o.0, opens_new (n + 1) ds m d o.1 h)

pub opens_up : (n : ℕ) (ds : List IndirectDraw) (m : ℕ) → Opens n ds m → n ≤ m
opens_up n [] m e = omega (arith, e)
opens_up n (x ∷ ds) m (inl o) = opens_up n ds m o.1
opens_up n (x ∷ ds) m (inr o) = omega (arith, opens_up (n + 1) ds m o.1)

-- a batch that is not there yet has no draws
pub tally_none : (n : ℕ) (ds : List IndirectDraw) (m : ℕ) → Opens n ds m → tally m ds ≡ 0
tally_none n [] m o = refl
tally_none n (x ∷ ds) m (inl o) =
    let up = opens_up n ds m o.1 in
    let r = tally_none n ds m o.1 in
    grind (arith, nat_tests)
tally_none n (x ∷ ds) m (inr o) =
    let up = opens_up (n + 1) ds m o.1 in
    let r = tally_none (n + 1) ds m o.1 in
    grind (arith, nat_tests)

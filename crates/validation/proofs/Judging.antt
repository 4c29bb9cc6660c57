-- The check against the limits, in the words of what is bound.
use Rattle.std.proofs.Common.{◌≡◌, ℕ, ◌+◌, ◌^◌, ◌<◌, ◌≤◌, Bool, ◌↔◌, List, get_or, replicate, arith}
use Rattle.std.proofs.lemmas.Bool.Decides.{nat_tests}
use Rattle.command.specs.declared.family.DrawCommandFamily.{DrawCommandFamily}
use Rattle.command.specs.declared.family.DrawCommandFamily.TheVariants.{Draw, DrawIndexed}
use Rattle.render.specs.declared.direct.DrawLimits.{DrawLimits}
use Rattle.render.specs.Bound.{Bound}
use Rattle.render.specs.Laws.{LimitsDecide}
use Rattle.entry.specs.Verdicts.{first_instance_at, judged, word_count}
use Rattle.validation.specs.Laws.{CarriesWords, FirstInstanceRule}

three_words : (f : DrawCommandFamily) → (3 ≤ word_count f) × (first_instance_at f < word_count f)
three_words Draw = (omega arith, omega arith)
three_words DrawIndexed = (omega arith, omega arith)

module _ (b : Bound) (l : DrawLimits) (allowed : Bool) (ws : List ℕ) (decides : LimitsDecide b l) (fits : (k : ℕ) → k < word_count l.family → get_or ws k 0 < 2 ^ 32) where
  decided : ((get_or ws 2 0 + get_or ws 0 0 ≤ l.vertex_or_index_limit) × (get_or ws (first_instance_at l.family) 0 + get_or ws 1 0 ≤ l.instance_limit)) ↔ CarriesWords b l.family ws
  decided =
      let three = three_words l.family in
      decides (get_or ws 0 0) (get_or ws 1 0) (get_or ws 2 0) (get_or ws (first_instance_at l.family) 0) (fits 0 (omega arith)) (fits 1 (omega arith)) (fits 2 (omega arith)) (fits (first_instance_at l.family) three.1)

  pub unaltered : CarriesWords b l.family ws → FirstInstanceRule allowed l.family ws → judged allowed l.family l.vertex_or_index_limit l.instance_limit ws ≡ ws
  unaltered carried rule = let within = decided.1 carried in grind (arith, nat_tests)

  pub zeroed : (CarriesWords b l.family ws × FirstInstanceRule allowed l.family ws → ⊥) → judged allowed l.family l.vertex_or_index_limit l.instance_limit ws ≡ replicate (word_count l.family) 0
  zeroed never = let said = decided in grind (arith, nat_tests, never)

-- What the words that are drawn owe to what is bound and to the source.
use Rattle.std.specs.Prelude.{◌≡◌, ℕ, Bool, true, ◌⊎◌, List, length, replicate, IfOk, Some, Result, slice_index}
use Rattle.command.specs.declared.family.DrawCommandFamily.{DrawCommandFamily}
use Rattle.command.specs.declared.refusal.Refusal.{Refusal}
use Rattle.render.specs.Bound.{Bound}
use Rattle.render.specs.Carries.{Carries}
use Rattle.entry.specs.Entries.{unpacked}
use Rattle.entry.specs.Verdicts.{word_count, first_instance_at, verdict, argument_words}
use Rattle.validation.specs.declared.follow.Followed.{Followed}
use Rattle.validation.specs.declared.follow.Request.{Request}
use Rattle.validation.specs.declared.follow.Rules.{Rules}
use Rattle.validation.specs.Follows.{arguments_at, window_words}

-- what is bound carries the draw of these words
abbrev pub CarriesWords : Bound → DrawCommandFamily → List ℕ → Type 0
CarriesWords b f ws = Carries b f (slice_index ws 0) (slice_index ws 1) (slice_index ws 2) (slice_index ws (first_instance_at f))

-- the first instance is 0, or others are allowed
abbrev pub FirstInstanceRule : Bool → DrawCommandFamily → List ℕ → Type 0
FirstInstanceRule allowed f ws = (slice_index ws (first_instance_at f) ≡ 0) ⊎ (allowed ≡ true)

-- The source holds all of the draw's words, and the check of the packed entry reads them in its window. They are drawn
-- unaltered exactly where what is bound carries them and the first instance may be what it is, and else as many zeros.
pub record DrawnLaw (b : Bound) (r : Rules) (q : Request) (f : Followed) : Type 0 where
  pub whole : length (arguments_at f.limits.family q) ≡ word_count f.limits.family
  pub inside : verdict r.first_instance_allowed (unpacked f.entry) (window_words r.settings q) ≡ Some (argument_words f.arguments)
  pub unaltered : CarriesWords b f.limits.family (arguments_at f.limits.family q) → FirstInstanceRule r.first_instance_allowed f.limits.family (arguments_at f.limits.family q) → argument_words f.arguments ≡ arguments_at f.limits.family q
  pub zeroed : (CarriesWords b f.limits.family (arguments_at f.limits.family q) × FirstInstanceRule r.first_instance_allowed f.limits.family (arguments_at f.limits.family q) → ⊥) → argument_words f.arguments ≡ replicate (word_count f.limits.family) 0

abbrev pub LawAnswered : Bound → Rules → Request → Result Followed Refusal → Type 0
LawAnswered b r q answer = IfOk answer (DrawnLaw b r q)

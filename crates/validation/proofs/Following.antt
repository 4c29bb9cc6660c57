-- What is settled of a draw that nothing refuses.
use Rattle.std.proofs.Common.{◌≡◌, ℕ, ◌+◌, ◌/◌, ◌^◌, ◌<◌, List, get_or, drop, Some, None, Option, refl, ap, ◌∙◌, arith, get_or-drop, get_or-take}
use Rattle.std.proofs.lemmas.Bool.Decides.{nat_tests}
use Rattle.command.specs.Family.{is_indexed}
use Rattle.command.specs.declared.family.DrawCommandFamily.{DrawCommandFamily}
use Rattle.command.specs.declared.family.DrawCommandFamily.TheVariants.{Draw, DrawIndexed}
use Rattle.render.specs.declared.direct.DrawLimits.{DrawLimits}
use Rattle.render.specs.Bound.{Bound}
use Rattle.render.specs.Laws.{LimitsDecide}
use Rattle.entry.specs.declared.validate.Arguments.{Arguments}
use Rattle.entry.specs.declared.validate.Arguments.TheVariants as arguments
use Rattle.entry.specs.Entries.{family_by, packed, unpacked}
use Rattle.entry.specs.Verdicts.{argument_family, argument_words, checked, judged, on_words, verdict, word_count, words_of}
use Rattle.validation.specs.Follows.{Stands, arguments_at, arguments_of, drawn, entry_for, followed, offset_in_window, window_words}
use Rattle.validation.specs.declared.follow.Request.{Request}
use Rattle.validation.specs.declared.follow.Rules.{Rules}
use Rattle.validation.proofs.Reading.{at_fits, reads, words_whole}
use Rattle.validation.specs.Laws.{DrawnLaw}
use Rattle.validation.proofs.Judging.{unaltered, zeroed}

-- the words and the family make the arguments
named : (x : Arguments) (f : DrawCommandFamily) (ws : List ℕ) → argument_words x ≡ ws → argument_family x ≡ f → x ≡ arguments_of f ws
named (arguments.Draw vs) Draw ws e k = ap arguments.Draw e
named (arguments.Draw vs) DrawIndexed ws e k = cc
named (arguments.DrawIndexed vs) Draw ws e k = cc
named (arguments.DrawIndexed vs) DrawIndexed ws e k = ap arguments.DrawIndexed e

words_back : (f : DrawCommandFamily) (ws : List ℕ) → argument_words (arguments_of f ws) ≡ ws
words_back Draw ws = refl
words_back DrawIndexed ws = refl

family_back : (f : DrawCommandFamily) → family_by (is_indexed f) ≡ f
family_back Draw = refl
family_back DrawIndexed = refl

-- the packed entry says of which family the draw is
family_packed : (l : DrawLimits) (src dst : ℕ) → src < 2 ^ 32 → (unpacked (entry_for l src dst)).family ≡ l.family
family_packed l src dst h =
    elim l.family as (λ f. (unpacked (packed (is_indexed f) src dst l.vertex_or_index_limit l.instance_limit)).family ≡ f) [
      | Draw ↦ grind (arith, nat_tests)
      | DrawIndexed ↦ grind (arith, nat_tests)
    ]

args_fit : (f : DrawCommandFamily) (q : Request) → ((k : ℕ) → get_or q.source.words.now k 0 < 2 ^ 32) → (k : ℕ) → k < word_count f → get_or (arguments_at f q) k 0 < 2 ^ 32
args_fit f q fits k h =
    let ws = q.source.words.now in
    let same : get_or (arguments_at f q) k 0 ≡ get_or ws (q.offset / 4 + k) 0 = get_or-take (word_count f) (drop (q.offset / 4) ws) k 0 h ∙ get_or-drop (q.offset / 4) ws k 0 in
    rw same (fits (q.offset / 4 + k))

module _ (r : Rules) (l : DrawLimits) (q : Request) (stands : Stands q.source l.family q.offset) where
  abbrev place : ℕ
  place = offset_in_window r.settings q

  -- an answer of the entry's kind, with the words that the check leaves
  abbrev judged_in_window : Option (List ℕ)
  judged_in_window = checked r.first_instance_allowed (family_by (is_indexed l.family)) (place / 4) l.vertex_or_index_limit l.instance_limit (window_words r.settings q)

  judged_is : judged_in_window ≡ Some (drawn r l q)
  judged_is =
      ap (λ (f : DrawCommandFamily). checked r.first_instance_allowed f (place / 4) l.vertex_or_index_limit l.instance_limit (window_words r.settings q)) (family_back l.family)
      ∙ ap (on_words (judged r.first_instance_allowed l.family l.vertex_or_index_limit l.instance_limit)) (reads r.settings l.family q stands)

  pub answer_is : (x : Option Arguments) → ((y : Arguments) → x ≡ Some y → argument_family y ≡ (unpacked (entry_for l place q.dst_offset)).family) → words_of x ≡ judged_in_window → x ≡ Some (arguments_of l.family (drawn r l q))
  answer_is None kind words = let is = judged_is in cc
  answer_is (Some y) kind words =
      let is = judged_is in
      let same : argument_words y ≡ drawn r l q = cc in
      ap Some (named y l.family (drawn r l q) same (kind y refl ∙ family_packed l place q.dst_offset (at_fits r.settings l.family q stands)))

  pub law_is : ((k : ℕ) → get_or q.source.words.now k 0 < 2 ^ 32) → verdict r.first_instance_allowed (unpacked (entry_for l place q.dst_offset)) (window_words r.settings q) ≡ words_of (Some (arguments_of l.family (drawn r l q))) → (b : Bound) → LimitsDecide b l → DrawnLaw b r q (followed r l q)
  law_is fits inside b decides =
      let back = words_back l.family (drawn r l q) in
      record { whole = words_whole r.settings l.family q stands; inside = inside; unaltered = λ carried rule. back ∙ unaltered b l r.first_instance_allowed (arguments_at l.family q) decides (args_fit l.family q fits) carried rule; zeroed = λ never. back ∙ zeroed b l r.first_instance_allowed (arguments_at l.family q) decides (args_fit l.family q fits) never }

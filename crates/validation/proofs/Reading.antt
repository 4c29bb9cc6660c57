-- A draw's arguments are the same words in the source and in the window that serves them.
use Rattle.std.proofs.Common.{◌≡◌, ℕ, ◌+◌, ◌-◌, ◌*◌, ◌/◌, ◌%◌, ◌^◌, ◌<◌, ◌≤◌, List, length, take, drop, Some, refl, ap, ◌∙◌, arith, length-drop, length-take, take-take, drop-drop}
use Rattle.std.proofs.lemmas.Slice.{between_is}
use Rattle.std.proofs.lemmas.Bool.Decides.{nat_tests}
use Rattle.command.proofs.Lawfuls.{src_most}
use Rattle.command.specs.Family.{src_stride}
use Rattle.command.specs.declared.family.DrawCommandFamily.{DrawCommandFamily}
use Rattle.command.specs.declared.family.DrawCommandFamily.TheVariants.{Draw, DrawIndexed}
use Rattle.command.specs.declared.settings.Settings.{Settings}
use Rattle.entry.proofs.Windows.{window_law}
use Rattle.entry.specs.Verdicts.{read_arguments, word_count}
use Rattle.entry.specs.Window.{WindowLaw, src_offsets}
use Rattle.validation.specs.Follows.{Stands, arguments_at, binding_size, dynamic_offset, offset_in_window, window_words}
use Rattle.validation.specs.declared.follow.Request.{Request}

stride_words : (f : DrawCommandFamily) → src_stride f ≡ 4 * word_count f
stride_words Draw = refl
stride_words DrawIndexed = refl

-- n words from k on in a part of m words from j on
part_of : (n k j m : ℕ) (ws : List ℕ) → k + n ≤ m → take n (drop k (take m (drop j ws))) ≡ take n (drop (j + k) ws)
part_of n k j m ws h =
    let short : n ≤ m - k = omega arith in
    rw (← between_is (drop j ws) k m) (take-take n (m - k) (drop k (drop j ws)) short ∙ ap (take n) (drop-drop k j ws))

module _ (s : Settings) (f : DrawCommandFamily) (q : Request) (stands : Stands q.source f q.offset) where
  serves : WindowLaw s.alignment s.largest_binding q.source.size q.offset (src_stride f) (binding_size s q) (src_offsets s.alignment s.largest_binding q.source.size q.offset)
  serves = window_law s.alignment s.largest_binding q.source.size q.offset (src_stride f) s.ok (src_most f) stands.lies

  -- windows begin at whole words
  start_whole : dynamic_offset s q % 4 ≡ 0
  start_whole = let aligned = serves.aligned in let ok = s.ok in grind (arith, nat_tests)

  long : length q.source.words.now ≡ (q.source.size + 3) / 4
  long = let source = stands.source in grind (arith, nat_tests)

  pub at_whole : offset_in_window s q % 4 ≡ 0
  at_whole = omega (arith, serves.whole, start_whole, stands.four)

  pub at_fits : offset_in_window s q < 2 ^ 32
  at_fits = let source = stands.source in let inside = serves.inside in let reached = serves.reached in grind (arith, nat_tests)

  fits_window : offset_in_window s q / 4 + word_count f ≤ binding_size s q / 4
  fits_window = omega (arith, stride_words f, serves.reached)

  window_long : length (window_words s q) ≡ binding_size s q / 4
  window_long = simp (length-take, length-drop) (omega (arith, long, serves.inside, start_whole))

  pub reads : read_arguments f (offset_in_window s q / 4) (window_words s q) ≡ Some (arguments_at f q)
  reads =
      let same : dynamic_offset s q / 4 + offset_in_window s q / 4 ≡ q.offset / 4 = omega (arith, serves.whole, start_whole, stands.four) in
      let part = part_of (word_count f) (offset_in_window s q / 4) (dynamic_offset s q / 4) (binding_size s q / 4) q.source.words.now fits_window in
      grind (arith, nat_tests, window_long, fits_window, same, part)

  pub words_whole : length (arguments_at f q) ≡ word_count f
  words_whole = simp (length-take, length-drop) (omega (arith, stride_words f, long, stands.four, stands.lies))

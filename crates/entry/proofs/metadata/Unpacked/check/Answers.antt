use Rattle.std.proofs.Common.{◌≡◌, ℕ, ◌≤◌, ◌/◌, List, length, length-drop, slice_range, arith, refl}
use Rattle.std.proofs.lemmas.Bool.Decides.{nat_tests}
use Rattle.std.proofs.lemmas.List.{take_rest}
use Rattle.command.specs.declared.family.DrawCommandFamily.{DrawCommandFamily}
use Rattle.entry.specs.Verdicts.{read_arguments}
use Rattle.entry.proofs.metadata.Unpacked.check.Goals as goal

-- words that begin at a place of a window are those of the window from there on
read_past : (f : DrawCommandFamily) (o : ℕ) (w : List ℕ) → o ≤ length w → read_arguments f 0 (slice_range w o (length w)) ≡ read_arguments f o w
read_past f o w h = let long = length-drop o w in rw (take_rest w o) (grind (arith, nat_tests))

pub returns-clause-words : goal.returns-clause-words
returns-clause-words c = λ l il p q.
    let u = c.args.self.now in
    let place = c.in_ok-words.ensures.lookup.0 in
    let same = read_past u.family (u.src_offset / 4) c.args.window.now place.0 in
    let words = c.in_ok-arguments.ensures.words in
    let kind = c.in_ok-arguments.ensures.kind c.in_ok-arguments.arguments refl in
    let judged = c.judge.ensures.words l il p q in
    grind (arith, same, words, kind, judged, place.2)

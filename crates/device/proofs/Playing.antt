-- Playing a list of commands, piece by piece; the mark.
use Rattle.std.proofs.Common.{◌≡◌, ℕ, ◌+◌, ◌<◌, true, List, [], ◌∷◌, ◌++◌, length, get_or, take, refl, ap, ◌∙◌}
use Rattle.std.proofs.lemmas.List.{take_more}
use Rattle.std.proofs.lemmas.Bool.{cond_both}
use Rattle.device.specs.declared.commands.Command.{Command}
use Rattle.device.specs.Calls.{can_fill, can_make, can_open, extended, grown, has_word, replaced, written}
use Rattle.device.specs.Laws.{LeavesAll, MarkNeverFalls}
use Rattle.device.specs.Meaning.{Meaning, with_holdings, with_mark}
use Rattle.device.specs.Plays.{lawful, obeyed, play_all, played}
use Rattle.device.proofs.Leaving.{leaves}

pub play_all-++ : (xs ys : List Command) (m : Meaning) → play_all (xs ++ ys) m ≡ play_all ys (play_all xs m)
play_all-++ [] ys m = refl
play_all-++ (x ∷ xs) ys m = play_all-++ xs ys (played x m)

pub play_all_more : (cs : List Command) (i : ℕ) (d : Command) (m : Meaning) → i < length cs → play_all (take (i + 1) cs) m ≡ played (get_or cs i d) (play_all (take i cs) m)
play_all_more cs i d m h =
    ap (λ xs. play_all xs m) (take_more cs i d h) ∙ play_all-++ (take i cs) (get_or cs i d ∷ []) m

marked_command : (c : Command) (m : Meaning) → m.marked ≡ true → (played c m).marked ≡ true
marked_command c m h = cond_both (lawful c m) (obeyed c m) (with_mark m) (λ n. n.marked ≡ true) (λ _. h) (λ _. refl)

pub mark_never_falls : MarkNeverFalls
mark_never_falls m h = record {
  make = λ k. cond_both (can_make m.holds) (with_holdings m (grown k m.holds)) m (λ n. n.marked ≡ true) (λ _. h) (λ _. h);
  open_block = λ bytes. cond_both (can_open bytes m.holds) (with_holdings m (extended bytes m.holds)) m (λ n. n.marked ≡ true) (λ _. h) (λ _. h);
  fill = λ b offset ws. cond_both (can_fill b offset m.holds) (with_holdings m (written b offset ws m.holds)) (with_mark m) (λ n. n.marked ≡ true) (λ _. h) (λ _. refl);
  release = h;
  store = λ s w v. cond_both (has_word s w m.holds) (with_holdings m (replaced s w v m.holds)) m (λ n. n.marked ≡ true) (λ _. h) (λ _. h);
  command = λ c. marked_command c m h;
}

pub leaves_all : (cs : List Command) (m : Meaning) → LeavesAll m (play_all cs m)
leaves_all [] m = record { mark = λ h. h; sources = refl; answered = refl }
leaves_all (c ∷ cs) m =
    let rest = leaves_all cs (played c m) in
    let step = leaves c m in
    record { mark = λ h. rest.mark (marked_command c m h); sources = rest.sources ∙ step.sources; answered = rest.answered ∙ step.answered }

-- the same, where what they make of a device is known by an equation
pub leaves_all_to : (cs : List Command) (m n : Meaning) → n ≡ play_all cs m → LeavesAll m n
leaves_all_to cs m n e = rw e (leaves_all cs m)

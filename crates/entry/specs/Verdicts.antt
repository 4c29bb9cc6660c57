-- What the check of one entry leaves of the arguments that it reads in its window.
use Rattle.std.specs.Prelude.{ℕ, ◌+◌, ◌/◌, Bool, cond, ◌&&◌, ◌||◌, List, length, take, drop, replicate, Some, None, Option, ◌==◌, nat_le, slice_index}
use Rattle.command.specs.declared.args.DrawArgs.{DrawArgs}
use Rattle.command.specs.declared.family.DrawCommandFamily.{DrawCommandFamily}
use Rattle.command.specs.declared.family.DrawCommandFamily.TheVariants.{Draw, DrawIndexed}
use Rattle.entry.specs.declared.metadata.Unpacked.{Unpacked}
use Rattle.entry.specs.declared.validate.Arguments.{Arguments}
use Rattle.entry.specs.declared.validate.Arguments.TheVariants as arguments

-- count, instances, first, then the first instance, which the base vertex precedes where the draw is indexed
abbrev pub word_count : DrawCommandFamily → ℕ
word_count Draw = 4
word_count DrawIndexed = 5

abbrev pub first_instance_at : DrawCommandFamily → ℕ
first_instance_at Draw = 3
first_instance_at DrawIndexed = 4

-- the words of one draw from a word offset on, if the window holds them all
abbrev pub read_arguments : DrawCommandFamily → ℕ → List ℕ → Option (List ℕ)
read_arguments f o w = cond (nat_le (o + word_count f) (length w)) (Some (take (word_count f) (drop o w))) None

-- neither range passes its limit, and the first instance is 0 unless others are allowed
abbrev pub kept : Bool → (limit ilimit : ℕ) → (count inst first finst : ℕ) → Bool
kept allowed limit ilimit count inst first finst = nat_le (first + count) limit && (nat_le (finst + inst) ilimit && (finst == 0 || allowed))

-- the words as they are where they are kept, else as many zeros
abbrev pub judged : Bool → DrawCommandFamily → (limit ilimit : ℕ) → List ℕ → List ℕ
judged allowed f limit ilimit ws = cond (kept allowed limit ilimit (slice_index ws 0) (slice_index ws 1) (slice_index ws 2) (slice_index ws (first_instance_at f))) ws (replicate (word_count f) 0)

abbrev pub on_words : (List ℕ → List ℕ) → Option (List ℕ) → Option (List ℕ)
on_words f None = None
on_words f (Some ws) = Some (f ws)

-- a draw of family f whose arguments begin at word o of window w
abbrev pub checked : Bool → DrawCommandFamily → (o limit ilimit : ℕ) → List ℕ → Option (List ℕ)
checked allowed f o limit ilimit w = on_words (judged allowed f limit ilimit) (read_arguments f o w)

abbrev pub verdict : Bool → Unpacked → List ℕ → Option (List ℕ)
verdict allowed u w = checked allowed u.family (u.src_offset / 4) u.vertex_or_index_limit u.instance_limit w

abbrev pub argument_words : Arguments → List ℕ
argument_words (arguments.Draw ws) = ws
argument_words (arguments.DrawIndexed ws) = ws

abbrev pub argument_family : Arguments → DrawCommandFamily
argument_family (arguments.Draw ws) = Draw
argument_family (arguments.DrawIndexed ws) = DrawIndexed

abbrev pub words_of : Option Arguments → Option (List ℕ)
words_of None = None
words_of (Some a) = Some (argument_words a)

-- the four words that the limits are about
abbrev pub draw_args_of : Arguments → DrawArgs
draw_args_of a = let ws = argument_words a in record { count = slice_index ws 0; instances = slice_index ws 1; first = slice_index ws 2; first_instance = slice_index ws (first_instance_at (argument_family a)) }

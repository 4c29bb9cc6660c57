-- Kinds of draws, and the bytes that one takes.
use Rattle.std.specs.Prelude.{ℕ, ◌+◌, ◌%◌, Bool, true, false, cond, not, [], ◌∷◌, Some, None, Option, Ok, Err, Result, ◌==◌, nat_lt}
use Rattle.command.specs.Checks.{first}
use Rattle.command.specs.declared.family.DrawCommandFamily.{DrawCommandFamily}
use Rattle.command.specs.declared.family.DrawCommandFamily.TheVariants.{Draw, DrawIndexed}
use Rattle.command.specs.declared.refusal.Refusal.{Refusal}
use Rattle.command.specs.declared.refusal.Refusal.TheVariants.{IndirectBufferOverrun, UnalignedIndirectBufferOffset, UnknownKind}

-- kind 0 draws vertices in order, kind 1 by an index buffer; there is no other
abbrev pub family_of : ℕ → Option DrawCommandFamily
family_of kind = cond (kind == 0) (Some Draw) (cond (kind == 1) (Some DrawIndexed) None)

-- a number that is no kind is refused as unknown
abbrev pub or_unknown : Option DrawCommandFamily → Result DrawCommandFamily Refusal
or_unknown (Some f) = Ok f
or_unknown None = Err UnknownKind

abbrev pub family_answer : ℕ → Result DrawCommandFamily Refusal
family_answer kind = or_unknown (family_of kind)

abbrev pub kind_of : DrawCommandFamily → ℕ
kind_of Draw = 0
kind_of DrawIndexed = 1

abbrev pub src_stride : DrawCommandFamily → ℕ
src_stride Draw = 16
src_stride DrawIndexed = 20

abbrev pub dst_stride : DrawCommandFamily → ℕ
dst_stride Draw = 16
dst_stride DrawIndexed = 20

abbrev pub is_indexed : DrawCommandFamily → Bool
is_indexed Draw = false
is_indexed DrawIndexed = true

-- the arguments of a draw stand at a multiple of four, inside their source
abbrev pub argument_answer : (DrawCommandFamily → ℕ) → DrawCommandFamily → ℕ → ℕ → Result (Unit {0}) Refusal
argument_answer src f size offset =
    first ((not (offset % 4 == 0), UnalignedIndirectBufferOffset) ∷ (nat_lt size (offset + src f), IndirectBufferOverrun) ∷ []) (Ok tt)

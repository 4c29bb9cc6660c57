-- Windows over a source: how long one is, and where it begins for a draw at an offset.
use Rattle.std.specs.Prelude.{◌≡◌, ℕ, ◌+◌, ◌-◌, ◌*◌, ◌/◌, ◌%◌, ◌≤◌, min, cond, ◌==◌, nat_le}
use Rattle.entry.specs.declared.window.SrcOffsets.{SrcOffsets}

-- the length of every window over a source of s bytes, with alignment a and at most m bytes to a window
abbrev pub binding_size_of : (a m s : ℕ) → ℕ
binding_size_of a m s = cond (nat_le s m) s (cond (nat_le (s % a) (m % a)) (m - m % a + s % a) (m - m % a - a + s % a))

-- how far apart windows of b bytes begin: 20 bytes of arguments that begin in one stride end in the same window
abbrev pub offset_stride : (a b : ℕ) → ℕ
offset_stride a b = (b - 20) / a * a

abbrev pub stepped_offset : (b d s o : ℕ) → ℕ
stepped_offset b d s o = cond (d == 0) 0 (min (s - b) (o / d * d))

-- where the window begins that serves offset o
abbrev pub dynamic_offset_of : (a m s o : ℕ) → ℕ
dynamic_offset_of a m s o = stepped_offset (binding_size_of a m s) (offset_stride a (binding_size_of a m s)) s o

-- where offset o lies in that window
abbrev pub window_offset : (a m s o : ℕ) → ℕ
window_offset a m s o = o - dynamic_offset_of a m s o

abbrev pub src_offsets : (a m s o : ℕ) → SrcOffsets
src_offsets a m s o = record { dynamic_offset = dynamic_offset_of a m s o; offset = window_offset a m s o }

-- What every split of an offset owes, for arguments of d bytes that lie inside the source, in windows of b bytes.
pub record WindowLaw (a m s o d b : ℕ) (w : SrcOffsets) : Type 0 where
  pub whole : w.dynamic_offset + w.offset ≡ o
  pub aligned : w.dynamic_offset % a ≡ 0
  pub inside : w.dynamic_offset + b ≤ s
  pub bounded : b ≤ m
  pub reached : w.offset + d ≤ b

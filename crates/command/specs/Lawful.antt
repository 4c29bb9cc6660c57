-- Which settings fit one another.
use Rattle.std.specs.Prelude.{ℕ, ◌+◌, ◌*◌, ◌%◌, ◌^◌, Bool, ◌&&◌, ◌||◌, ◌==◌, nat_le, nat_lt}

abbrev pub lawful_alignment : ℕ → Bool
lawful_alignment a = a == 32 || (a == 64 || (a == 128 || a == 256))

-- The largest binding holds two alignments and the arguments of one indexed draw, and its bytes are counted in 32 bits.
abbrev pub lawful : ℕ → ℕ → Bool
lawful a m = lawful_alignment a && (nat_le (2 * a + 20) m && nat_lt m (2 ^ 32))

-- Buffers and blocks hold whole entries of 16 bytes, a buffer holds any one draw, and a block any one buffer's entries.
abbrev pub lawful_sizes : ℕ → ℕ → Bool
lawful_sizes buffer block =
    (buffer % 16 == 0) && (block % 16 == 0 && (nat_le 32 buffer && (nat_le buffer 1048560 && (nat_le buffer block && nat_le block 67108864))))

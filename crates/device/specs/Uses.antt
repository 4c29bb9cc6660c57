-- Uses of buffers.
use Rattle.std.specs.Prelude.{ℕ, Bool, cond, ◌==◌}
use Rattle.device.specs.declared.buffers.BufferUses.{BufferUses}
use Rattle.device.specs.declared.buffers.BufferUses.TheVariants.{MapWrite, CopySrc, CopyDst, StorageReadOnly, StorageReadWrite, Indirect}
use Rattle.device.specs.declared.buffers.PoolKind.{PoolKind}
use Rattle.device.specs.declared.buffers.PoolKind.TheVariants.{Destination, Metadata}

abbrev pub use_code : BufferUses → ℕ
use_code MapWrite = 0
use_code CopySrc = 1
use_code CopyDst = 2
use_code StorageReadOnly = 3
use_code StorageReadWrite = 4
use_code Indirect = 5

-- the use of a number that a word may hold: `use_code` read back
abbrev pub use_from : ℕ → BufferUses
use_from n =
    cond (n == 0) MapWrite (cond (n == 1) CopySrc (cond (n == 2) CopyDst (cond (n == 3) StorageReadOnly (cond (n == 4) StorageReadWrite Indirect))))

abbrev pub same_use : BufferUses → BufferUses → Bool
same_use u v = use_code u == use_code v

-- the use in which a pool buffer is made, and which it has between runs
abbrev pub resting_use : PoolKind → BufferUses
resting_use Destination = Indirect
resting_use Metadata = StorageReadOnly

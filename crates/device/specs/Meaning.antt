-- What a device is to its callers.
use Rattle.std.specs.Prelude.{◌≡◌, ℕ, ◌+◌, ◌/◌, ◌^◌, ◌<◌, Bool, true, false, cond, List, [], length, Some, None, Option, nat_lt, slice_index_or}
use Rattle.std.specs.List.{AllByRecursion}
use Rattle.device.specs.declared.buffers.BufferUses.{BufferUses}
use Rattle.device.specs.declared.buffers.BufferUses.TheVariants.{MapWrite}
use Rattle.device.specs.declared.buffers.PoolKind.{PoolKind}
use Rattle.device.specs.declared.buffers.PoolKind.TheVariants.{Destination}
use Rattle.device.specs.declared.properties.Properties.{Properties}

-- where arguments of draws come from: a size in bytes, and the bytes as words, the last of them perhaps in part
pub record Source : Type 0 where
  pub size : ℕ
  pub words : List ℕ

pub record Buffer : Type 0 where
  pub kind : PoolKind
  pub words : List ℕ
  pub state : BufferUses

pub record Block : Type 0 where
  pub words : List ℕ
  pub state : BufferUses

-- staging blocks in the order of opening, and the bytes that are left for more
pub record Staging : Type 0 where
  pub blocks : List Block
  pub free : ℕ

-- pool buffers stand in the order of making; `makeable` more can be made
pub record Holdings : Type 0 where
  pub sources : List Source
  pub pool : List Buffer
  pub staging : Staging
  pub makeable : ℕ
  pub properties : Properties

pub record Meaning : Type 0 where
  pub holds : Holdings
  pub pass_open : Bool
  pub marked : Bool

-- what stands where there is nothing
abbrev pub no_source : Source
no_source = record { size = 0; words = [] }

abbrev pub no_buffer : Buffer
no_buffer = record { kind = Destination; words = []; state = MapWrite }

abbrev pub no_block : Block
no_block = record { words = []; state = MapWrite }

abbrev pub with_sources : Holdings → List Source → Holdings
with_sources h ss = record { sources = ss; pool = h.pool; staging = h.staging; makeable = h.makeable; properties = h.properties }

abbrev pub with_pool : Holdings → List Buffer → Holdings
with_pool h bs = record { sources = h.sources; pool = bs; staging = h.staging; makeable = h.makeable; properties = h.properties }

abbrev pub with_staging : Holdings → List Block → ℕ → Holdings
with_staging h bs n = record { sources = h.sources; pool = h.pool; staging = record { blocks = bs; free = n }; makeable = h.makeable; properties = h.properties }

abbrev pub with_blocks : Holdings → List Block → Holdings
with_blocks h bs = with_staging h bs h.staging.free

abbrev pub with_makeable : Holdings → ℕ → Holdings
with_makeable h n = record { sources = h.sources; pool = h.pool; staging = h.staging; makeable = n; properties = h.properties }

abbrev pub with_holdings : Meaning → Holdings → Meaning
with_holdings m h = record { holds = h; pass_open = m.pass_open; marked = m.marked }

-- the error mark is raised, and nothing else changes
abbrev pub with_mark : Meaning → Meaning
with_mark m = record { holds = m.holds; pass_open = m.pass_open; marked = true }

-- the bytes of a source, if there is such a source
abbrev pub source_size : ℕ → List Source → Option ℕ
source_size i ss = cond (nat_lt i (length ss)) (Some (slice_index_or ss i no_source).size) None

-- What every device owes of a source: its bytes are counted in 32 bits, four of them to a word of 32 bits.
pub record SoundSource (s : Source) : Type 0 where
  pub small : s.size < 2 ^ 32
  pub whole : length s.words ≡ (s.size + 3) / 4
  pub fits : AllByRecursion (λ w. w < 2 ^ 32) s.words

abbrev pub Sound : List Source → Type 0
Sound ss = AllByRecursion SoundSource ss

-- a device that nothing was asked of yet; its sources may hold anything
pub record New (m : Meaning) : Type 0 where
  pub pool : m.holds.pool ≡ []
  pub blocks : m.holds.staging.blocks ≡ []
  pub closed : m.pass_open ≡ false
  pub unmarked : m.marked ≡ false

-- What a direct device's memory holds.
use Rattle.std.specs.Prelude.{cond, vec_items}
use Rattle.device.specs.Meaning.{Holdings}
use Rattle.device.specs.Plays.{carried, lies}
use Rattle.device.specs.declared.commands.Command.{Command}
use Rattle.direct_memory.specs.Tables.{pool_slots, source_places}
use Rattle.direct_memory.specs.Views.{Shape, holdings}
use Rattle.direct_memory.specs.declared.memory.Memory.{Memory}
use Rattle.direct_memory.specs.declared.numbers.Numbers.{Numbers}

abbrev pub shape : Numbers → Shape
shape n = record {
  sources = source_places n.sources;
  staging = n.staging_start;
  size = n.staging_size;
  blocks = n.blocks;
  used = n.used;
  slots = pool_slots n.pool;
  most = n.most;
  properties = n.properties;
}

abbrev pub held : Memory → Holdings
held m = holdings (shape m.numbers) (vec_items m.words)

-- what a command makes of memory, if it lies in it
abbrev pub outcome : Command → Holdings → Holdings
outcome c h = cond (lies c h) (carried c h) h

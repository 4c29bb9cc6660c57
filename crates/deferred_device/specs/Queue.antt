-- Commands that are held back over a device.
use Rattle.std.specs.Prelude.{cond, List, [], ◌∷◌, ◌++◌, length, ◌==◌}
use Rattle.device.specs.declared.commands.Command.{Command}
use Rattle.device.specs.Meaning.{Meaning}
use Rattle.device.specs.Plays.{play_all}

-- what is held, the oldest first, and what the device below is
pub record Queue : Type 0 where
  pub held : List Command
  pub below : Meaning

abbrev pub queue : List Command → Meaning → Queue
queue cs m = record { held = cs; below = m }

-- a deferred device is what the device below is once all that is held was played
abbrev pub meant : Queue → Meaning
meant q = play_all q.held q.below

abbrev pub flushed : Queue → Queue
flushed q = record { held = []; below = meant q }

abbrev pub more : Command → Queue → Queue
more c q = record { held = q.held ++ c ∷ []; below = q.below }

-- one more is held, and all are played where they are 256
abbrev pub queued : Command → Queue → Queue
queued c q = cond (length (more c q).held == 256) (flushed (more c q)) (more c q)

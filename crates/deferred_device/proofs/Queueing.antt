-- What a queue of commands means, and what it leaves as it was.
use Rattle.std.proofs.Common.{◌≡◌, List, [], ◌∷◌, ◌++◌, length, ap}
use Rattle.device.specs.declared.commands.Command.{Command}
use Rattle.device.specs.Laws.{Answers}
use Rattle.device.specs.Meaning.{Meaning}
use Rattle.device.specs.Plays.{play_all, played}
use Rattle.device.proofs.Playing.{leaves_all, play_all-++}

-- one more command held means what it does to the device
pub play_push : (cs : List Command) (c : Command) (m : Meaning) → play_all (cs ++ c ∷ []) m ≡ played c (play_all cs m)
play_push cs c m = play_all-++ cs (c ∷ []) m

-- no command changes the answer to a question
module _ (cs : List Command) (m : Meaning) where
  pub same_sources : (play_all cs m).holds.sources ≡ m.holds.sources
  same_sources = (leaves_all cs m).sources

  pub same_makeable : (play_all cs m).holds.makeable ≡ m.holds.makeable
  same_makeable = ap (λ (a : Answers). a.makeable) (leaves_all cs m).answered

  pub same_blocks : length (play_all cs m).holds.staging.blocks ≡ length m.holds.staging.blocks
  same_blocks = ap (λ (a : Answers). a.blocks) (leaves_all cs m).answered

  pub same_free : (play_all cs m).holds.staging.free ≡ m.holds.staging.free
  same_free = ap (λ (a : Answers). a.free) (leaves_all cs m).answered

  pub same_properties : (play_all cs m).holds.properties ≡ m.holds.properties
  same_properties = ap (λ (a : Answers). a.properties) (leaves_all cs m).answered

pub ruleset same_answers = (same_sources, same_makeable, same_blocks, same_free, same_properties)

use Rattle.std.proofs.Common.{◌≡◌, map, take}
use Rattle.arrayvec.specs.ArrayVec.{array_vec_len}
use Rattle.exports.specs.Bound.{raw_of}
use Rattle.exports.proofs.bound.bind_steps.Given as goal

abbrev pub invariant-loop-step : goal.invariant-loop-step
invariant-loop-step l = record {
  raw : l.raw.items ≡ map raw_of (take l.step-index l.steps);
  len : array_vec_len l.raw ≡ l.step-index;
}

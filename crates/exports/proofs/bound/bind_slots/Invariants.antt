use Rattle.std.proofs.Common.{◌≡◌, drop}
use Rattle.render.specs.Bound.{bound}
use Rattle.exports.specs.Bound.{slots_bound}
use Rattle.exports.proofs.bound.bind_slots.Given as goal

abbrev pub invariant-loop-number : goal.invariant-loop-number
invariant-loop-number l = slots_bound l.number (drop l.number l.slots) (bound l.bindings) ≡ slots_bound 0 l.slots (bound l.initial.bindings)

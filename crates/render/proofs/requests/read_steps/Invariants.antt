use Rattle.std.proofs.Common.{◌≡◌, true, length, take}
use Rattle.render.specs.Bound.{listed}
use Rattle.render.specs.Requests.{well_formed, step_list}
use Rattle.render.proofs.requests.read_steps.Given as goal

abbrev pub invariant-loop-step : goal.invariant-loop-step
invariant-loop-step l = record {
  well : well_formed (take l.step-index l.raw) ≡ true;
  kept : listed l.steps ≡ step_list (take l.step-index l.raw);
  len : length (listed l.steps) ≡ l.step-index;
}

use Rattle.device.proofs.Leaving.{leaves_to}
use Rattle.device.proofs.play.play.Goals as goal

pub returns-in-Transition-clause-leaves : goal.returns-in-Transition-clause-leaves
returns-in-Transition-clause-leaves g c = leaves_to _ _ _ (cc)

pub returns-in-Copy-clause-leaves : goal.returns-in-Copy-clause-leaves
returns-in-Copy-clause-leaves g c = leaves_to _ _ _ (cc)

pub returns-in-Dispatch-clause-leaves : goal.returns-in-Dispatch-clause-leaves
returns-in-Dispatch-clause-leaves g c = leaves_to _ _ _ (cc)

-- A step of it.
use Rattle.run_places.proofs.Given.ScenesMay.{may_reclaim}
use Rattle.run_executor.proofs.ReclaimsAll.Reclaims.{leads, given_then}
use Rattle.run_executor.proofs.reclaiming.FullReclamation.step.Goals as goal

pub step_nobodys-told-requires : goal.step_nobodys-told-requires
step_nobodys-told-requires g c = may_reclaim c.requires.0 (λ m. c.requires.1) _ _ c.requires.3 c.requires.4 _ c.requires.5.held

pub returns-clause-leads : goal.returns-clause-leads
returns-clause-leads g c = λ same hash s i lists at.
    leads same hash _ s i lists _ at _ _ c.step_nobodys-told.result c.step_nobodys-told.ensures.told c.step_nobodys-told.ensures.rest _ c.leave.ensures

pub returns-clause-given : goal.returns-clause-given
returns-clause-given g c = given_then c.args.executor.now c.step_nobodys-told.new.self c.leave.new.executor c.step_nobodys-told.result c.step_nobodys-told.ensures.rest c.leave.ensures

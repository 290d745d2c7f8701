use Rattle.seize_model.proofs.Alone.Whole.Enter.{enter_may, enter_history}
use Rattle.seize_model.proofs.Alone.Spared.Steps.{enter_spares}
use Rattle.seize_model.proofs.Alone.Spared.Links.{enter_links}
use Rattle.seize_model.proofs.calls.enter.Goals as goal

pub step-requires : goal.step-requires
step-requires g c = let r = c.requires in enter_may g.T.Defers.defers r.0 r.1 c.args.memory.now r.2 r.3 c.args.slot r.4

pub returns-clause-history : goal.returns-clause-history
returns-clause-history g c = λ batch_size roots h had out. enter_history g.T.Defers.defers batch_size roots c.args.memory.now h had c.args.slot out c.step.new.memory (c.step.new.self, c.step.result) c.step.ensures

pub returns-clause-spares : goal.returns-clause-spares
returns-clause-spares g c =
    let r = c.requires in
    enter_spares c.args.memory.now c.step.new.memory (record { slot = c.args.slot }) (c.step.new.self, c.step.result)
    (enter_may g.T.Defers.defers r.0 r.1 c.args.memory.now r.2 r.3 c.args.slot r.4) c.step.ensures

pub returns-clause-links : goal.returns-clause-links
returns-clause-links g c =
    let r = c.requires in
    enter_links c.args.memory.now c.step.new.memory (record { slot = c.args.slot }) (c.step.new.self, c.step.result)
    (enter_may g.T.Defers.defers r.0 r.1 c.args.memory.now r.2 r.3 c.args.slot r.4) c.step.ensures

use Rattle.std.proofs.Common.{subst, sym, [], refl, ◌∙◌}
use Rattle.seize.specs.declared.advance.Advance.TheVariants.{Done, Refused}
use Rattle.seize.specs.declared.rows.register.Register.{Register}
use Rattle.seize_model.proofs.Alone.Whole.Register.{RegistersStill, register_begins, register_may, register_still, register_fewer, register_told}
use Rattle.seize_model.proofs.Alone.Spared.Operations.{spares_same, spares_twice}
use Rattle.seize_model.proofs.Alone.Spared.Steps.{register_spares}
use Rattle.seize_model.proofs.Alone.Spared.Links.{register_links}
use Rattle.seize_model.proofs.calls.register.Goals as goal

pub loop-slot-init : goal.loop-slot-init
loop-slot-init g c = record {
  still = λ batch_size roots h had.
      subst (λ (r : Register). RegistersStill g.T.Defers.defers batch_size roots c.args.memory.now h had c.args.enters c.args.memory.now r) (sym c.new-row.ensures)
      (register_begins g.T.Defers.defers batch_size roots c.args.memory.now h had c.args.enters);
  spares = spares_same c.args.memory.now;
  links = λ b. refl;
}

pub step-requires : goal.step-requires
step-requires g c =
    let r = c.requires in
    register_may g.T.Defers.defers r.0 r.1 c.args.memory.now r.2 r.3 c.args.enters c.loop-slot.memory c.loop-slot.row (c.loop-slot.invariant.still r.0 r.1 r.2 r.3)

pub loop-slot-smaller : goal.loop-slot-smaller
loop-slot-smaller g c = register_fewer c.loop-slot.memory c.step.new.memory c.loop-slot.row c.step.new.self c.step.result c.in-Goes.is c.step.ensures

pub loop-slot-preserved : goal.loop-slot-preserved
loop-slot-preserved g c = record {
  still = λ batch_size roots h had.
      register_still g.T.Defers.defers batch_size roots c.args.memory.now h had c.args.enters c.loop-slot.memory c.loop-slot.row (c.loop-slot.invariant.still batch_size roots h had)
      c.step.new.memory c.step.new.self c.step.result c.in-Goes.is c.step.ensures;
  spares = (let r = c.requires in
      spares_twice c.args.memory.now c.loop-slot.memory c.step.new.memory [] [] c.loop-slot.invariant.spares
      (register_spares c.loop-slot.memory c.step.new.memory c.loop-slot.row (c.step.new.self, c.step.result)
      (register_may g.T.Defers.defers r.0 r.1 c.args.memory.now r.2 r.3 c.args.enters c.loop-slot.memory c.loop-slot.row (c.loop-slot.invariant.still r.0 r.1 r.2 r.3)) c.step.ensures));
  links = (let r = c.requires in
      λ b. register_links c.loop-slot.memory c.step.new.memory c.loop-slot.row (c.step.new.self, c.step.result)
      (register_may g.T.Defers.defers r.0 r.1 c.args.memory.now r.2 r.3 c.args.enters c.loop-slot.memory c.loop-slot.row (c.loop-slot.invariant.still r.0 r.1 r.2 r.3)) c.step.ensures b ∙ c.loop-slot.invariant.links b);
}

pub returns-in-Done-clause-told : goal.returns-in-Done-clause-told
returns-in-Done-clause-told g c = λ batch_size roots h had.
    register_told g.T.Defers.defers batch_size roots c.args.memory.now h had c.args.enters c.loop-slot.memory c.loop-slot.row (c.loop-slot.invariant.still batch_size roots h had)
    c.step.new.memory c.step.new.self c.step.result (Done c.in-Done.slot) c.in-Done.is c.step.ensures

pub returns-in-Done-clause-spares : goal.returns-in-Done-clause-spares
returns-in-Done-clause-spares g c = (let r = c.requires in
    spares_twice c.args.memory.now c.loop-slot.memory c.step.new.memory [] [] c.loop-slot.invariant.spares
    (register_spares c.loop-slot.memory c.step.new.memory c.loop-slot.row (c.step.new.self, c.step.result)
    (register_may g.T.Defers.defers r.0 r.1 c.args.memory.now r.2 r.3 c.args.enters c.loop-slot.memory c.loop-slot.row (c.loop-slot.invariant.still r.0 r.1 r.2 r.3)) c.step.ensures))

pub returns-in-Refused-clause-told : goal.returns-in-Refused-clause-told
returns-in-Refused-clause-told g c = λ batch_size roots h had.
    register_told g.T.Defers.defers batch_size roots c.args.memory.now h had c.args.enters c.loop-slot.memory c.loop-slot.row (c.loop-slot.invariant.still batch_size roots h had)
    c.step.new.memory c.step.new.self c.step.result (Refused c.in-Refused.fault) c.in-Refused.is c.step.ensures

pub returns-in-Refused-clause-spares : goal.returns-in-Refused-clause-spares
returns-in-Refused-clause-spares g c = (let r = c.requires in
    spares_twice c.args.memory.now c.loop-slot.memory c.step.new.memory [] [] c.loop-slot.invariant.spares
    (register_spares c.loop-slot.memory c.step.new.memory c.loop-slot.row (c.step.new.self, c.step.result)
    (register_may g.T.Defers.defers r.0 r.1 c.args.memory.now r.2 r.3 c.args.enters c.loop-slot.memory c.loop-slot.row (c.loop-slot.invariant.still r.0 r.1 r.2 r.3)) c.step.ensures))

pub returns-in-Done-clause-links : goal.returns-in-Done-clause-links
returns-in-Done-clause-links g c = (let r = c.requires in
    λ b. register_links c.loop-slot.memory c.step.new.memory c.loop-slot.row (c.step.new.self, c.step.result)
    (register_may g.T.Defers.defers r.0 r.1 c.args.memory.now r.2 r.3 c.args.enters c.loop-slot.memory c.loop-slot.row (c.loop-slot.invariant.still r.0 r.1 r.2 r.3)) c.step.ensures b ∙ c.loop-slot.invariant.links b)

pub returns-in-Refused-clause-links : goal.returns-in-Refused-clause-links
returns-in-Refused-clause-links g c = (let r = c.requires in
    λ b. register_links c.loop-slot.memory c.step.new.memory c.loop-slot.row (c.step.new.self, c.step.result)
    (register_may g.T.Defers.defers r.0 r.1 c.args.memory.now r.2 r.3 c.args.enters c.loop-slot.memory c.loop-slot.row (c.loop-slot.invariant.still r.0 r.1 r.2 r.3)) c.step.ensures b ∙ c.loop-slot.invariant.links b)

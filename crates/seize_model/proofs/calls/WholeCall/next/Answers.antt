use Rattle.std.proofs.Common.{arith}
use Rattle.seize.specs.declared.rows.settle.Settled.TheVariants.{Gave, Done}
use Rattle.seize_model.specs.Alone.Alone.{row_of}
use Rattle.seize_model.proofs.Alone.Whole.Steps.{call_may, call_still, call_told_as, call_fewer, call_no_more, stepped_left}
use Rattle.seize_model.proofs.Alone.Whole.Ends.{call_ends}
use Rattle.seize_model.proofs.calls.WholeCall.next.Goals as goal

pub step-requires : goal.step-requires
step-requires g c =
    let r = c.requires in
    call_may g.T.Defers.defers r.0 r.1 r.2 r.3 r.4 (row_of c.loop-value.self) c.loop-value.memory r.5 (c.loop-value.invariant.mid r.0 r.1 r.2 r.3 r.4 r.5 r.6)

pub loop-value-init : goal.loop-value-init
loop-value-init g c = record { mid = λ batch_size roots m h request given mid. mid; fewer = omega arith }

pub loop-value-preserved : goal.loop-value-preserved
loop-value-preserved g c =
    let r = c.requires in
    let may = call_may g.T.Defers.defers r.0 r.1 r.2 r.3 r.4 (row_of c.loop-value.self) c.loop-value.memory r.5 (c.loop-value.invariant.mid r.0 r.1 r.2 r.3 r.4 r.5 r.6) in
    let more = call_no_more g.T.Defers.defers c.loop-value.memory c.step.new.memory c.loop-value.self c.step.new.self c.step.result may c.step.ensures in
    record {
      mid = λ batch_size roots m h request given mid.
          call_still g.T.Defers.defers batch_size roots m h request c.loop-value.memory given c.step.new.memory c.loop-value.self c.step.new.self c.step.result c.in-Goes.is
          (c.loop-value.invariant.mid batch_size roots m h request given mid) c.step.ensures;
      fewer = omega (arith, more, c.loop-value.invariant.fewer);
    }

pub returns-in-Gave-clause-fewer : goal.returns-in-Gave-clause-fewer
returns-in-Gave-clause-fewer g c = λ some.
    let less = call_fewer g.T.Defers.defers c.loop-value.memory c.step.new.memory c.loop-value.self c.step.new.self c.step.result c.in-Gave.value c.in-Gave.is c.step.ensures in
    omega (arith, less, c.loop-value.invariant.fewer)

pub returns-in-Gave-clause-goes : goal.returns-in-Gave-clause-goes
returns-in-Gave-clause-goes g c = λ batch_size roots m h request given mid.
    call_told_as g.T.Defers.defers batch_size roots m h request c.loop-value.memory given c.step.new.memory c.loop-value.self c.step.new.self c.step.result (Gave c.in-Gave.value) c.in-Gave.is
    (c.loop-value.invariant.mid batch_size roots m h request given mid) c.step.ensures

pub returns-in-Done-clause-goes : goal.returns-in-Done-clause-goes
returns-in-Done-clause-goes g c = λ batch_size roots m h request given mid.
    call_told_as g.T.Defers.defers batch_size roots m h request c.loop-value.memory given c.step.new.memory c.loop-value.self c.step.new.self c.step.result Done c.in-Done.is
    (c.loop-value.invariant.mid batch_size roots m h request given mid) c.step.ensures

pub returns-in-Gave-clause-left : goal.returns-in-Gave-clause-left
returns-in-Gave-clause-left g c = λ batch_size roots m h request given mid b is.
    stepped_left g.T.Defers.defers batch_size roots m h request c.loop-value.memory given c.step.new.memory c.loop-value.self c.step.new.self c.step.result
    (c.loop-value.invariant.mid batch_size roots m h request given mid) c.step.ensures b 0 is

pub returns-in-Done-clause-left : goal.returns-in-Done-clause-left
returns-in-Done-clause-left g c = λ batch_size roots m h request given mid b is.
    stepped_left g.T.Defers.defers batch_size roots m h request c.loop-value.memory given c.step.new.memory c.loop-value.self c.step.new.self c.step.result
    (c.loop-value.invariant.mid batch_size roots m h request given mid) c.step.ensures b 0 is

pub loop-value-smaller : goal.loop-value-smaller
loop-value-smaller g c =
    let r = c.requires in
    call_ends g.T.Defers.defers r.0 r.1 r.2 r.3 r.4 c.loop-value.memory r.5 c.step.new.memory c.loop-value.self c.step.new.self c.step.result c.in-Goes.is
    (c.loop-value.invariant.mid r.0 r.1 r.2 r.3 r.4 r.5 r.6) c.step.ensures

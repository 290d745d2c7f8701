use Rattle.std.proofs.Common.{arith, ap, sym, ◌∙◌}
use Rattle.seize_acts.specs.Reclaims.AllReclaimed.{is_within}
use Rattle.seize_acts.proofs.Reclaims.AllReclaimed.Traces.{is_point, reclaim_may, reclaim_still, reclaim_gave, flush_still}
use Rattle.seize_acts.proofs.Reclaims.AllReclaimed.Weights.{row_less, row_falls, row_not_done}
use Rattle.seize_acts.proofs.reclaiming.ReclaimingAll.finish_row.Goals as goal

pub step-requires : goal.step-requires
step-requires g c =
    let r = c.requires in
    reclaim_may g.T.Defers.defers g.T.LeftOver.left_over r.0 r.1 r.2 r.3 r.4 c.steps.self.all c.steps.memory r.5 (c.steps.invariant.come r.0 r.1 r.2 r.3 r.4 r.5 r.6)

pub steps-init : goal.steps-init
steps-init g c = record {
  come = λ batch_size roots m h lists given mid. mid;
  no_more = omega arith;
  less = λ e. (e, omega arith);
  gives = λ batch_size roots m h s settle e mid some. (settle, e, mid);
}

pub steps-preserved : goal.steps-preserved
steps-preserved g c =
    let r = c.requires in
    let now = c.steps.invariant.come r.0 r.1 r.2 r.3 r.4 r.5 r.6 in
    let inside = sym c.is_within.ensures ∙ c.steps-test.true in
    let k = reclaim_still g.T.Defers.defers g.T.LeftOver.left_over r.0 r.1 r.2 r.3 r.4 c.steps.self.all c.steps.memory r.5 now c.step.new.memory c.step.new.self c.step.result c.step.ensures c.in-Goes.is in
    record {
      come = λ batch_size roots m h lists given mid.
          (reclaim_still g.T.Defers.defers g.T.LeftOver.left_over batch_size roots m h lists c.steps.self.all c.steps.memory given (c.steps.invariant.come batch_size roots m h lists given mid)
          c.step.new.memory c.step.new.self c.step.result c.step.ensures c.in-Goes.is).0;
      no_more = omega (arith, k.1, c.steps.invariant.no_more);
      less = λ e.
          let before = c.steps.invariant.less e in
          let one =
          row_less g.T.Defers.defers g.T.LeftOver.left_over r.0 r.1 r.2 r.3 r.4 c.steps.self.all c.steps.memory r.5 c.step.new.memory (c.step.new.self, c.step.result)
          (is_point g.T.Defers.defers g.T.LeftOver.left_over r.0 r.1 r.2 r.3 r.4 c.steps.self.all c.steps.memory r.5 now) inside before.0 c.step.ensures in
          let a = one.0 in
          let b = before.1 in (one.1, omega (arith, a, b));
      gives = λ batch_size roots m h s settle e mid some.
          let at = c.steps.invariant.gives batch_size roots m h s settle e mid some in
          flush_still g.T.Defers.defers g.T.LeftOver.left_over batch_size roots m h c.steps.self.all s at.0 at.1 c.steps.memory at.2 some c.step.new.memory c.step.new.self c.step.result c.step.ensures c.in-Goes.is;
    }

pub steps-smaller : goal.steps-smaller
steps-smaller g c =
    let r = c.requires in
    let now = c.steps.invariant.come r.0 r.1 r.2 r.3 r.4 r.5 r.6 in
    let inside = sym c.is_within.ensures ∙ c.steps-test.true in
    row_falls g.T.Defers.defers g.T.LeftOver.left_over r.0 r.1 r.2 r.3 r.4 c.steps.self.all c.steps.memory r.5 c.step.new.memory (c.step.new.self, c.step.result)
    (is_point g.T.Defers.defers g.T.LeftOver.left_over r.0 r.1 r.2 r.3 r.4 c.steps.self.all c.steps.memory r.5 now) inside c.step.ensures c.in-Goes.is

pub returns-in-Gave-clause-fewer : goal.returns-in-Gave-clause-fewer
returns-in-Gave-clause-fewer g c = λ some.
    let r = c.requires in
    let k = reclaim_gave g.T.Defers.defers g.T.LeftOver.left_over r.0 r.1 r.2 r.3 r.4 c.steps.self.all c.steps.memory r.5 (c.steps.invariant.come r.0 r.1 r.2 r.3 r.4 r.5 r.6)
    c.step.new.memory c.step.new.self c.step.result c.step.ensures c.in-Gave.value c.in-Gave.is in
    omega (arith, k.1, c.steps.invariant.no_more)

pub returns-in-Gave-clause-no_more : goal.returns-in-Gave-clause-no_more
returns-in-Gave-clause-no_more g c =
    let r = c.requires in
    let k = reclaim_gave g.T.Defers.defers g.T.LeftOver.left_over r.0 r.1 r.2 r.3 r.4 c.steps.self.all c.steps.memory r.5 (c.steps.invariant.come r.0 r.1 r.2 r.3 r.4 r.5 r.6)
    c.step.new.memory c.step.new.self c.step.result c.step.ensures c.in-Gave.value c.in-Gave.is in
    omega (arith, k.1, c.steps.invariant.no_more)

pub returns-in-Gave-clause-goes : goal.returns-in-Gave-clause-goes
returns-in-Gave-clause-goes g c = λ batch_size roots m h lists given mid.
    (reclaim_gave g.T.Defers.defers g.T.LeftOver.left_over batch_size roots m h lists c.steps.self.all c.steps.memory given (c.steps.invariant.come batch_size roots m h lists given mid)
    c.step.new.memory c.step.new.self c.step.result c.step.ensures c.in-Gave.value c.in-Gave.is).0

pub returns-clause-gives : goal.returns-clause-gives
returns-clause-gives g c = λ batch_size roots m h s settle e mid some.
    let at = c.steps.invariant.gives batch_size roots m h s settle e mid some in
    absurd (let outside = sym c.is_within.ensures ∙ c.steps-test.false in let k = ap is_within at.1 in cc (outside, k))

pub unreachable-requires : goal.unreachable-requires
unreachable-requires g c =
    let r = c.requires in
    row_not_done g.T.Defers.defers g.T.LeftOver.left_over r.0 r.1 r.2 r.3 r.4 c.steps.self.all c.steps.memory r.5 c.step.new.memory (c.step.new.self, c.step.result)
    (sym c.is_within.ensures ∙ c.steps-test.true) c.step.ensures c.in-Done.is

use Rattle.std.proofs.Common.{◌≡◌, ◌<◌, Bool, true, false, refl, arith}
use Rattle.seize_acts.specs.Reclaims.AllReclaimed.{is_flushing, weight_at}
use Rattle.seize_acts.proofs.Reclaims.AllReclaimed.Traces.{is_point, reclaim_may, reclaim_still, reclaim_gave, reclaim_done, flush_begun}
use Rattle.seize_acts.proofs.Reclaims.AllReclaimed.Weights.{point_lower}
use Rattle.seize_acts.proofs.reclaiming.ReclaimingAll.next.Goals as goal

pub points-init : goal.points-init
points-init g c =
    let r = c.requires in
    record {
      come = λ batch_size roots m h lists given mid. (c.in_default.ensures.goes batch_size roots m h lists given mid).0;
      no_more = c.in_default.ensures.no_more;
      rests = (c.in_default.ensures.goes r.0 r.1 r.2 r.3 r.4 r.5 r.6).1;
    }

pub step-requires : goal.step-requires
step-requires g c =
    let r = c.requires in
    reclaim_may g.T.Defers.defers g.T.LeftOver.left_over r.0 r.1 r.2 r.3 r.4 c.points.self.all c.points.memory r.5 (c.points.invariant.come r.0 r.1 r.2 r.3 r.4 r.5 r.6)

pub returns-in-Gave-clause-fewer : goal.returns-in-Gave-clause-fewer
returns-in-Gave-clause-fewer g c = λ some.
    let r = c.requires in
    let k = reclaim_gave g.T.Defers.defers g.T.LeftOver.left_over r.0 r.1 r.2 r.3 r.4 c.points.self.all c.points.memory r.5 (c.points.invariant.come r.0 r.1 r.2 r.3 r.4 r.5 r.6)
    c.step.new.memory c.step.new.self c.step.result c.step.ensures c.in-Gave.value c.in-Gave.is in
    omega (arith, k.1, c.points.invariant.no_more)

pub returns-in-Gave-clause-goes : goal.returns-in-Gave-clause-goes
returns-in-Gave-clause-goes g c = λ batch_size roots m h lists given mid.
    (reclaim_gave g.T.Defers.defers g.T.LeftOver.left_over batch_size roots m h lists c.points.self.all c.points.memory given (c.points.invariant.come batch_size roots m h lists given mid)
    c.step.new.memory c.step.new.self c.step.result c.step.ensures c.in-Gave.value c.in-Gave.is).0

pub returns-in-Done-clause-goes : goal.returns-in-Done-clause-goes
returns-in-Done-clause-goes g c = λ batch_size roots m h lists given mid.
    reclaim_done g.T.Defers.defers g.T.LeftOver.left_over batch_size roots m h lists c.points.self.all c.points.memory given (c.points.invariant.come batch_size roots m h lists given mid)
    c.step.new.memory c.step.new.self c.step.result c.step.ensures c.in-Done.is

pub finish_row-requires-in-points : goal.finish_row-requires-in-points
finish_row-requires-in-points g c =
    let r = c.requires in (
      r.0,
      r.1,
      r.2,
      r.3,
      r.4,
      r.5,
      (reclaim_still g.T.Defers.defers g.T.LeftOver.left_over r.0 r.1 r.2 r.3 r.4 c.points.self.all c.points.memory r.5 (c.points.invariant.come r.0 r.1 r.2 r.3 r.4 r.5 r.6)
          c.step.new.memory c.step.new.self c.step.result c.step.ensures c.in-Goes.is).0,
    )

pub returns-in-Some-finish_row-clause-goes : goal.returns-in-Some-finish_row-clause-goes
returns-in-Some-finish_row-clause-goes g c = λ batch_size roots m h lists given mid.
    c.in-Some-finish_row.ensures.goes batch_size roots m h lists given
    (reclaim_still g.T.Defers.defers g.T.LeftOver.left_over batch_size roots m h lists c.points.self.all c.points.memory given (c.points.invariant.come batch_size roots m h lists given mid)
    c.step.new.memory c.step.new.self c.step.result c.step.ensures c.in-Goes.is).0

pub points-preserved : goal.points-preserved
points-preserved g c =
    let r = c.requires in
    let now = reclaim_still g.T.Defers.defers g.T.LeftOver.left_over r.0 r.1 r.2 r.3 r.4 c.points.self.all c.points.memory r.5 (c.points.invariant.come r.0 r.1 r.2 r.3 r.4 r.5 r.6)
    c.step.new.memory c.step.new.self c.step.result c.step.ensures c.in-Goes.is in
    record {
      come = λ batch_size roots m h lists given mid.
          (c.in_default-finish_row.ensures.goes batch_size roots m h lists given
          (reclaim_still g.T.Defers.defers g.T.LeftOver.left_over batch_size roots m h lists c.points.self.all c.points.memory given (c.points.invariant.come batch_size roots m h lists given mid)
          c.step.new.memory c.step.new.self c.step.result c.step.ensures c.in-Goes.is).0).0;
      no_more = omega (arith, now.1, c.in_default-finish_row.ensures.no_more, c.points.invariant.no_more);
      rests = (c.in_default-finish_row.ensures.goes r.0 r.1 r.2 r.3 r.4 r.5 now.0).1;
    }

pub points-smaller : goal.points-smaller
points-smaller g c = by (is_flushing c.step.new.self.stands) refl
  where
    low : weight_at c.step.new.self c.step.new.self.stands < weight_at c.points.self.all c.points.self.all.stands
    low =
        let r = c.requires in
        point_lower g.T.Defers.defers g.T.LeftOver.left_over r.0 r.1 r.2 r.3 r.4 c.points.self.all c.points.memory r.5 c.step.new.memory (c.step.new.self, c.step.result)
        (is_point g.T.Defers.defers g.T.LeftOver.left_over r.0 r.1 r.2 r.3 r.4 c.points.self.all c.points.memory r.5 (c.points.invariant.come r.0 r.1 r.2 r.3 r.4 r.5 r.6)) c.points.invariant.rests
        c.step.ensures c.in-Goes.is

    by : (flushing : Bool) → is_flushing c.step.new.self.stands ≡ flushing
        → weight_at c.finish_row-in-points.new.self.all c.finish_row-in-points.new.self.all.stands < weight_at c.points.self.all c.points.self.all.stands
    by false e = let less = c.in_default-finish_row.ensures.less refl e in let l = low in omega (arith, less, l)
    by true e =
        let r = c.requires in
        let k = flush_begun g.T.Defers.defers g.T.LeftOver.left_over r.0 r.1 r.2 r.3 r.4 c.points.self.all c.points.memory r.5 (c.points.invariant.come r.0 r.1 r.2 r.3 r.4 r.5 r.6)
        c.step.new.memory c.step.new.self c.step.result c.step.ensures c.points.invariant.rests c.in-Goes.is e in
        absurd (c.in_default-finish_row.ensures.gives r.0 r.1 c.step.new.memory k.ended k.slot k.settle k.stands k.midway k.some refl)

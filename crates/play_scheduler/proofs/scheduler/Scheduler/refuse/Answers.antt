-- An event is refused that is kept out.
use Rattle.std.proofs.Common.{refl, sym}
use Rattle.play_scheduler.proofs.Refused.{is_making, not_making, noted, refused_plays}
use Rattle.play_scheduler.proofs.scheduler.Scheduler.refuse.Goals as goal

pub returns-in_default : goal.returns-in_default
returns-in_default g c =
    let p = c.args.self.now in
    let other = not_making c.args.event c.in_default.not-MakeMap in
    let kept = other.0 c.busy.result.outcome c.busy.ensures.outcome in
    let mapped = noted p p _ _ (sym (other.1 p.is_mapped)) refl in
    record {
      outcome = kept;
      steps = c.busy.ensures.steps;
      effects = c.busy.ensures.effects;
      mapped = mapped;
      plays = λ same hash terms log is out. refused_plays same hash terms log p is c.args.event out c.busy.result kept c.busy.ensures.steps c.busy.ensures.effects p mapped;
    }

pub returns : goal.returns
returns g c =
    let p = c.args.self.now in
    let making = is_making c.args.event _ c.in-MakeMap.mode c.in-MakeMap.capacity c.in-MakeMap.is in
    let kept = making.0 c.refuse_map.result.outcome c.refuse_map.ensures.outcome in
    let mapped = noted p c.refuse_map.new.self _ _ (sym (making.1 p.is_mapped)) c.refuse_map.ensures.mapped in
    record {
      outcome = kept;
      steps = c.refuse_map.ensures.steps;
      effects = c.refuse_map.ensures.effects;
      mapped = mapped;
      plays = λ same hash terms log is out.
          refused_plays same hash terms log p is c.args.event out c.refuse_map.result kept c.refuse_map.ensures.steps c.refuse_map.ensures.effects c.refuse_map.new.self mapped;
    }

-- What is left of a schedule and of a list, event by event.
use Rattle.std.proofs.Common.{sym, ◌∙◌}
use Rattle.run_names.specs.Crews.Crew.{held_by}
use Rattle.run_names.proofs.Crews.Lists.{none_kept, none_told, on_kept}
use Rattle.run_names.proofs.finished.holds_just.Goals as goal

pub returns-in_default-split_first : goal.returns-in_default-split_first
returns-in_default-split_first g c =
    let l = c.loop-kept in
    c.is_empty.ensures ∙ none_told g.R.Runner.same_event g.R.Runner.same_outcome c.args.number l.schedule.now l.outcomes.now l.left.now c.in_default-split_first.ensures.cases ∙ sym l.invariant

pub returns-in_default-left_after : goal.returns-in_default-left_after
returns-in_default-left_after g c =
    let l = c.loop-kept in
    sym (l.invariant
    ∙ on_kept g.R.Runner.same_event g.R.Runner.same_outcome c.args.number l.schedule.now c.in-Some.later.now l.outcomes.now c.in-Some-split_first.others.now l.left.now c.in-Some.kept.now c.in-Some-split_first.outcome.now
    c.in-Some.ensures.cases.0 c.in-Some-split_first.ensures.cases.0
    ∙ c.in_default-left_after.ensures.other (held_by c.args.number c.in-Some.later.now c.in-Some-split_first.others.now))

pub loop-kept-preserved : goal.loop-kept-preserved
loop-kept-preserved g c =
    let l = c.loop-kept in
    l.invariant
    ∙ on_kept g.R.Runner.same_event g.R.Runner.same_outcome c.args.number l.schedule.now c.in-Some.later.now l.outcomes.now c.in-Some-split_first.others.now l.left.now c.in-Some.kept.now c.in-Some-split_first.outcome.now
    c.in-Some.ensures.cases.0 c.in-Some-split_first.ensures.cases.0
    ∙ c.in-Some-left_after.ensures.rest (held_by c.args.number c.in-Some.later.now c.in-Some-split_first.others.now)

pub returns : goal.returns
returns g c =
    let l = c.loop-kept in
    c.is_empty-2.ensures ∙ none_kept g.R.Runner.same_event g.R.Runner.same_outcome c.args.number l.schedule.now l.outcomes.now l.left.now c.in_default.ensures.cases ∙ sym l.invariant

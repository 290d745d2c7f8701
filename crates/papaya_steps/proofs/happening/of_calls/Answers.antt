-- An event of a call.
use Rattle.std.proofs.Common.{ap, refl}
use Rattle.std.proofs.lemmas.Result.{IfOk-weaker}
use Rattle.papaya_steps.proofs.WholeRuns.Happened.{due_so, goes_if, may_play, next_if, still, still_if}
use Rattle.play_events.proofs.Events.OfCalls.Happens.{ask_if, begin_if, go_if, step_if, stop_keeps, told_keeps, whole_if}
use Rattle.papaya_steps.specs.WholeRuns.Kinds.{event_of_call}
use Rattle.papaya_steps.proofs.WholeRuns.GoingOn.{begin_acts, go_acts, next_acts, reply_acts, step_acts, stop_acts, whole_acts}
use Rattle.papaya_steps.proofs.happening.of_calls.Goals as goal

pub begin-requires : goal.begin-requires
begin-requires g c = may_play g.K.PartialEq.eq (g.S.Hashes.hash c.args.scheduler.now.logged.executor.hasher) (event_of_call c.args.event) _ (ap event_of_call c.in-Begin.is) c.args.scheduler.now c.requires

pub returns-in-Begin-clause-happens : goal.returns-in-Begin-clause-happens
returns-in-Begin-clause-happens g c =
    still_if g.K.PartialEq.eq (g.S.Hashes.hash c.args.scheduler.now.logged.executor.hasher) (event_of_call c.args.event) _ (ap event_of_call c.in-Begin.is) c.args.scheduler.now c.args.is_first c.begin.new.self refl c.begin.result
    c.begin.ensures.steps c.begin.ensures.quiet
    (IfOk-weaker c.begin.result _ _ (λ played plays. λ terms log first holds out. plays terms log (due_so g.K.PartialEq.eq (g.S.Hashes.hash c.args.scheduler.now.logged.executor.hasher) (event_of_call c.args.event) _ (ap event_of_call c.in-Begin.is) c.args.scheduler.now terms log holds out)) c.begin.ensures.plays)

pub returns-in-Begin-clause-keeps : goal.returns-in-Begin-clause-keeps
returns-in-Begin-clause-keeps g c =
    begin_if g.K.PartialEq.eq (g.S.Hashes.hash c.args.scheduler.now.logged.executor.hasher) c.args.scheduler.now c.begin.new.self (event_of_call c.args.event) c.in-Begin.caller c.in-Begin.guard c.in-Begin.map c.in-Begin.call (ap event_of_call c.in-Begin.is) c.begin.result
    c.begin.ensures.steps c.begin.ensures.plays c.begin.ensures.began c.begin.ensures.given

pub step-requires : goal.step-requires
step-requires g c = may_play g.K.PartialEq.eq (g.S.Hashes.hash c.args.scheduler.now.logged.executor.hasher) (event_of_call c.args.event) _ (ap event_of_call c.in-Step.is) c.args.scheduler.now c.requires

pub returns-in-Step-clause-happens : goal.returns-in-Step-clause-happens
returns-in-Step-clause-happens g c =
    goes_if g.K.PartialEq.eq (g.S.Hashes.hash c.args.scheduler.now.logged.executor.hasher) (event_of_call c.args.event) _ (ap event_of_call c.in-Step.is) c.args.scheduler.now c.args.is_first c.step.new.scheduler (λ terms log played finds. finds) c.step.result
    c.step.ensures.plays

pub returns-in-Step-clause-keeps : goal.returns-in-Step-clause-keeps
returns-in-Step-clause-keeps g c =
    step_if g.K.PartialEq.eq (g.S.Hashes.hash c.args.scheduler.now.logged.executor.hasher) c.args.scheduler.now c.step.new.scheduler (event_of_call c.args.event) c.in-Step.caller c.in-Step.refuse (ap event_of_call c.in-Step.is) c.step.result c.step.ensures.plays
    c.step.ensures.took c.step.ensures.refused

pub go-requires : goal.go-requires
go-requires g c = may_play g.K.PartialEq.eq (g.S.Hashes.hash c.args.scheduler.now.logged.executor.hasher) (event_of_call c.args.event) _ (ap event_of_call c.in-Go.is) c.args.scheduler.now c.requires

pub returns-in-Go-clause-happens : goal.returns-in-Go-clause-happens
returns-in-Go-clause-happens g c =
    goes_if g.K.PartialEq.eq (g.S.Hashes.hash c.args.scheduler.now.logged.executor.hasher) (event_of_call c.args.event) _ (ap event_of_call c.in-Go.is) c.args.scheduler.now c.args.is_first c.go.new.scheduler (λ terms log played finds. finds) c.go.result
    c.go.ensures.plays

pub returns-in-Go-clause-keeps : goal.returns-in-Go-clause-keeps
returns-in-Go-clause-keeps g c =
    go_if g.K.PartialEq.eq (g.S.Hashes.hash c.args.scheduler.now.logged.executor.hasher) c.args.scheduler.now c.go.new.scheduler (event_of_call c.args.event) c.in-Go.caller c.in-Go.refuse (ap event_of_call c.in-Go.is) c.go.result c.go.ensures.plays c.go.ensures.took
    c.go.ensures.refused

pub one_call-requires : goal.one_call-requires
one_call-requires g c = may_play g.K.PartialEq.eq (g.S.Hashes.hash c.args.scheduler.now.logged.executor.hasher) (event_of_call c.args.event) _ (ap event_of_call c.in-OneCall.is) c.args.scheduler.now c.requires

pub returns-in-OneCall-clause-happens : goal.returns-in-OneCall-clause-happens
returns-in-OneCall-clause-happens g c =
    goes_if g.K.PartialEq.eq (g.S.Hashes.hash c.args.scheduler.now.logged.executor.hasher) (event_of_call c.args.event) _ (ap event_of_call c.in-OneCall.is) c.args.scheduler.now c.args.is_first c.one_call.new.scheduler (λ terms log played finds. finds) c.one_call.result
    c.one_call.ensures.plays

pub returns-in-OneCall-clause-keeps : goal.returns-in-OneCall-clause-keeps
returns-in-OneCall-clause-keeps g c =
    whole_if g.K.PartialEq.eq (g.S.Hashes.hash c.args.scheduler.now.logged.executor.hasher) c.args.scheduler.now c.one_call.new.scheduler (event_of_call c.args.event) c.in-OneCall.guard c.in-OneCall.map c.in-OneCall.call (ap event_of_call c.in-OneCall.is)
    c.one_call.result c.one_call.ensures.plays c.one_call.ensures.took

pub next-requires : goal.next-requires
next-requires g c = may_play g.K.PartialEq.eq (g.S.Hashes.hash c.args.scheduler.now.logged.executor.hasher) (event_of_call c.args.event) _ (ap event_of_call c.in-Next.is) c.args.scheduler.now c.requires

pub returns-in-Next-clause-happens : goal.returns-in-Next-clause-happens
returns-in-Next-clause-happens g c =
    next_if g.K.PartialEq.eq (g.S.Hashes.hash c.args.scheduler.now.logged.executor.hasher) (event_of_call c.args.event) c.in-Next.caller (ap event_of_call c.in-Next.is) c.args.scheduler.now c.args.is_first c.next.new.scheduler c.next.result c.next.ensures.plays

pub returns-in-Next-clause-keeps : goal.returns-in-Next-clause-keeps
returns-in-Next-clause-keeps g c =
    ask_if g.K.PartialEq.eq (g.S.Hashes.hash c.args.scheduler.now.logged.executor.hasher) c.args.scheduler.now c.next.new.scheduler (event_of_call c.args.event) c.in-Next.caller (ap event_of_call c.in-Next.is) c.next.result c.next.ensures.plays c.next.ensures.took

pub replied-requires : goal.replied-requires
replied-requires g c = (g.K.PartialEq.eq, g.S.Hashes.hash c.args.scheduler.now.logged.executor.hasher, may_play g.K.PartialEq.eq (g.S.Hashes.hash c.args.scheduler.now.logged.executor.hasher) (event_of_call c.args.event) _ (ap event_of_call c.in-Replied.is) c.args.scheduler.now c.requires)

pub returns-in-Replied-clause-happens : goal.returns-in-Replied-clause-happens
returns-in-Replied-clause-happens g c =
    let plays = c.replied.ensures.plays g.K.PartialEq.eq (g.S.Hashes.hash c.args.scheduler.now.logged.executor.hasher) in
    still g.K.PartialEq.eq (g.S.Hashes.hash c.args.scheduler.now.logged.executor.hasher) (event_of_call c.args.event) _ (ap event_of_call c.in-Replied.is) c.args.scheduler.now c.args.is_first c.replied.new.self refl c.replied.result c.replied.ensures.steps c.replied.ensures.quiet
    (λ terms log first holds out. plays terms log (due_so g.K.PartialEq.eq (g.S.Hashes.hash c.args.scheduler.now.logged.executor.hasher) (event_of_call c.args.event) _ (ap event_of_call c.in-Replied.is) c.args.scheduler.now terms log holds out))

pub returns-in-Replied-clause-keeps : goal.returns-in-Replied-clause-keeps
returns-in-Replied-clause-keeps g c =
    told_keeps g.K.PartialEq.eq (g.S.Hashes.hash c.args.scheduler.now.logged.executor.hasher) c.args.scheduler.now c.replied.new.self (event_of_call c.args.event) c.in-Replied.caller c.in-Replied.reply (ap event_of_call c.in-Replied.is) c.replied.result
    c.replied.ensures.steps (c.replied.ensures.plays g.K.PartialEq.eq (g.S.Hashes.hash c.args.scheduler.now.logged.executor.hasher)) (c.replied.ensures.told g.K.PartialEq.eq (g.S.Hashes.hash c.args.scheduler.now.logged.executor.hasher))
    (c.replied.ensures.stays g.K.PartialEq.eq (g.S.Hashes.hash c.args.scheduler.now.logged.executor.hasher)) c.replied.ensures.given

pub stop-requires : goal.stop-requires
stop-requires g c = (g.K.PartialEq.eq, g.S.Hashes.hash c.args.scheduler.now.logged.executor.hasher, may_play g.K.PartialEq.eq (g.S.Hashes.hash c.args.scheduler.now.logged.executor.hasher) (event_of_call c.args.event) _ (ap event_of_call c.in-Stop.is) c.args.scheduler.now c.requires)

pub returns-in-Stop-clause-happens : goal.returns-in-Stop-clause-happens
returns-in-Stop-clause-happens g c =
    let plays = c.stop.ensures.plays g.K.PartialEq.eq (g.S.Hashes.hash c.args.scheduler.now.logged.executor.hasher) in
    still g.K.PartialEq.eq (g.S.Hashes.hash c.args.scheduler.now.logged.executor.hasher) (event_of_call c.args.event) _ (ap event_of_call c.in-Stop.is) c.args.scheduler.now c.args.is_first c.stop.new.self refl c.stop.result c.stop.ensures.steps c.stop.ensures.quiet
    (λ terms log first holds out. plays terms log (due_so g.K.PartialEq.eq (g.S.Hashes.hash c.args.scheduler.now.logged.executor.hasher) (event_of_call c.args.event) _ (ap event_of_call c.in-Stop.is) c.args.scheduler.now terms log holds out))

pub returns-in-Stop-clause-keeps : goal.returns-in-Stop-clause-keeps
returns-in-Stop-clause-keeps g c =
    stop_keeps g.K.PartialEq.eq (g.S.Hashes.hash c.args.scheduler.now.logged.executor.hasher) c.args.scheduler.now c.stop.new.self (event_of_call c.args.event) c.in-Stop.caller (ap event_of_call c.in-Stop.is) c.stop.result
    c.stop.ensures.steps (c.stop.ensures.plays g.K.PartialEq.eq (g.S.Hashes.hash c.args.scheduler.now.logged.executor.hasher)) (c.stop.ensures.stopped g.K.PartialEq.eq (g.S.Hashes.hash c.args.scheduler.now.logged.executor.hasher))
    (c.stop.ensures.stays g.K.PartialEq.eq (g.S.Hashes.hash c.args.scheduler.now.logged.executor.hasher)) c.stop.ensures.given

pub returns-in-Begin-clause-acts : goal.returns-in-Begin-clause-acts
returns-in-Begin-clause-acts g c = begin_acts g.K.PartialEq.eq g.S.Hashes.hash (event_of_call c.args.event) c.args.scheduler.now c.begin.new.self c.in-Begin.caller c.in-Begin.guard c.in-Begin.map c.in-Begin.call (ap event_of_call c.in-Begin.is) c.begin.result c.begin.ensures.steps c.begin.ensures.began c.begin.ensures.given

pub returns-in-Step-clause-acts : goal.returns-in-Step-clause-acts
returns-in-Step-clause-acts g c = step_acts g.K.PartialEq.eq g.S.Hashes.hash (event_of_call c.args.event) c.args.scheduler.now c.step.new.scheduler c.in-Step.caller c.in-Step.refuse (ap event_of_call c.in-Step.is) 1 c.step.result c.step.ensures.took c.step.ensures.given

pub returns-in-Go-clause-acts : goal.returns-in-Go-clause-acts
returns-in-Go-clause-acts g c = go_acts g.K.PartialEq.eq g.S.Hashes.hash (event_of_call c.args.event) c.args.scheduler.now c.go.new.scheduler c.in-Go.caller c.in-Go.refuse (ap event_of_call c.in-Go.is) _ c.go.result c.go.ensures.took c.go.ensures.given

pub returns-in-OneCall-clause-acts : goal.returns-in-OneCall-clause-acts
returns-in-OneCall-clause-acts g c = whole_acts g.K.PartialEq.eq g.S.Hashes.hash (event_of_call c.args.event) c.args.scheduler.now c.one_call.new.scheduler c.in-OneCall.guard c.in-OneCall.map c.in-OneCall.call (ap event_of_call c.in-OneCall.is) c.one_call.result c.one_call.ensures.took c.one_call.ensures.given

pub returns-in-Next-clause-acts : goal.returns-in-Next-clause-acts
returns-in-Next-clause-acts g c = next_acts g.K.PartialEq.eq g.S.Hashes.hash (event_of_call c.args.event) c.args.scheduler.now c.next.new.scheduler c.in-Next.caller (ap event_of_call c.in-Next.is) c.next.result c.next.ensures.took c.next.ensures.given

pub returns-in-Replied-clause-acts : goal.returns-in-Replied-clause-acts
returns-in-Replied-clause-acts g c = reply_acts g.K.PartialEq.eq g.S.Hashes.hash (event_of_call c.args.event) c.args.scheduler.now c.replied.new.self c.in-Replied.caller c.in-Replied.reply (ap event_of_call c.in-Replied.is) c.replied.result c.replied.ensures.steps (c.replied.ensures.plays g.K.PartialEq.eq) (c.replied.ensures.told g.K.PartialEq.eq) (c.replied.ensures.stays g.K.PartialEq.eq) c.replied.ensures.given

pub returns-in-Stop-clause-acts : goal.returns-in-Stop-clause-acts
returns-in-Stop-clause-acts g c = stop_acts g.K.PartialEq.eq g.S.Hashes.hash (event_of_call c.args.event) c.args.scheduler.now c.stop.new.self c.in-Stop.caller (ap event_of_call c.in-Stop.is) c.stop.result c.stop.ensures.steps (c.stop.ensures.plays g.K.PartialEq.eq) (c.stop.ensures.stopped g.K.PartialEq.eq) (c.stop.ensures.stays g.K.PartialEq.eq) c.stop.ensures.given

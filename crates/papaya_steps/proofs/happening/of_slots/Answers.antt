-- An event of the setup, of registrations or of guards.
use Rattle.std.proofs.Common.{ap, refl}
use Rattle.std.proofs.lemmas.Result.{IfOk-weaker}
use Rattle.papaya_steps.proofs.WholeRuns.Gives.{gave, gave_none, gave_none_if}
use Rattle.papaya_steps.proofs.WholeRuns.Happened.{due_so, may_play, still, still_if}
use Rattle.play_events.proofs.Events.OfRows.{others_keep, others_keep_if, rows_keep}
use Rattle.play_events.proofs.Events.OfSetups.{others_set, setup_keeps, setup_keeps_if}
use Rattle.papaya_steps.specs.WholeRuns.Kinds.{event_of_slots}
use Rattle.papaya_steps.proofs.WholeRuns.GoingOn.{choice_acts, nothing_acts, row_acts}
use Rattle.papaya_steps.proofs.happening.of_slots.Goals as goal

pub collector-requires : goal.collector-requires
collector-requires g c = (g.K.PartialEq.eq, g.S.Hashes.hash c.args.scheduler.now.logged.executor.hasher, may_play g.K.PartialEq.eq (g.S.Hashes.hash c.args.scheduler.now.logged.executor.hasher) (event_of_slots c.args.event) _ (ap event_of_slots c.in-Collector.is) c.args.scheduler.now c.requires)

pub returns-in-Collector-clause-happens : goal.returns-in-Collector-clause-happens
returns-in-Collector-clause-happens g c =
    let plays = c.collector.ensures.plays g.K.PartialEq.eq (g.S.Hashes.hash c.args.scheduler.now.logged.executor.hasher) in
    still g.K.PartialEq.eq (g.S.Hashes.hash c.args.scheduler.now.logged.executor.hasher) (event_of_slots c.args.event) _ (ap event_of_slots c.in-Collector.is) c.args.scheduler.now c.args.is_first c.args.scheduler.now refl c.collector.result c.collector.ensures.steps c.collector.ensures.quiet
    (λ terms log first holds out. plays terms log first (due_so g.K.PartialEq.eq (g.S.Hashes.hash c.args.scheduler.now.logged.executor.hasher) (event_of_slots c.args.event) _ (ap event_of_slots c.in-Collector.is) c.args.scheduler.now terms log holds out))

pub hash-requires : goal.hash-requires
hash-requires g c = (g.K.PartialEq.eq, g.S.Hashes.hash c.args.scheduler.now.logged.executor.hasher, may_play g.K.PartialEq.eq (g.S.Hashes.hash c.args.scheduler.now.logged.executor.hasher) (event_of_slots c.args.event) _ (ap event_of_slots c.in-Hash.is) c.args.scheduler.now c.requires)

pub returns-in-Hash-clause-happens : goal.returns-in-Hash-clause-happens
returns-in-Hash-clause-happens g c =
    let plays = c.hash.ensures.plays g.K.PartialEq.eq (g.S.Hashes.hash c.args.scheduler.now.logged.executor.hasher) in
    still g.K.PartialEq.eq (g.S.Hashes.hash c.args.scheduler.now.logged.executor.hasher) (event_of_slots c.args.event) _ (ap event_of_slots c.in-Hash.is) c.args.scheduler.now c.args.is_first c.args.scheduler.now refl c.hash.result c.hash.ensures.steps c.hash.ensures.quiet
    (λ terms log first holds out. plays terms log (due_so g.K.PartialEq.eq (g.S.Hashes.hash c.args.scheduler.now.logged.executor.hasher) (event_of_slots c.args.event) _ (ap event_of_slots c.in-Hash.is) c.args.scheduler.now terms log holds out))

pub choose-requires : goal.choose-requires
choose-requires g c = (g.K.PartialEq.eq, g.S.Hashes.hash c.args.scheduler.now.logged.executor.hasher, may_play g.K.PartialEq.eq (g.S.Hashes.hash c.args.scheduler.now.logged.executor.hasher) (event_of_slots c.args.event) _ (ap event_of_slots c.in-Choose.is) c.args.scheduler.now c.requires)

pub returns-in-Choose-clause-happens : goal.returns-in-Choose-clause-happens
returns-in-Choose-clause-happens g c =
    still_if g.K.PartialEq.eq (g.S.Hashes.hash c.args.scheduler.now.logged.executor.hasher) (event_of_slots c.args.event) _ (ap event_of_slots c.in-Choose.is) c.args.scheduler.now c.args.is_first c.choose.new.self refl c.choose.result c.choose.ensures.steps c.choose.ensures.quiet
    (IfOk-weaker c.choose.result _ _ (λ played all. let plays = all g.K.PartialEq.eq (g.S.Hashes.hash c.args.scheduler.now.logged.executor.hasher) in λ terms log first holds out. plays terms log (due_so g.K.PartialEq.eq (g.S.Hashes.hash c.args.scheduler.now.logged.executor.hasher) (event_of_slots c.args.event) _ (ap event_of_slots c.in-Choose.is) c.args.scheduler.now terms log holds out)) c.choose.ensures.plays)

pub register-requires : goal.register-requires
register-requires g c = (g.K.PartialEq.eq, g.S.Hashes.hash c.args.scheduler.now.logged.executor.hasher, may_play g.K.PartialEq.eq (g.S.Hashes.hash c.args.scheduler.now.logged.executor.hasher) (event_of_slots c.args.event) _ (ap event_of_slots c.in-Register.is) c.args.scheduler.now c.requires)

pub returns-in-Register-clause-happens : goal.returns-in-Register-clause-happens
returns-in-Register-clause-happens g c =
    still_if g.K.PartialEq.eq (g.S.Hashes.hash c.args.scheduler.now.logged.executor.hasher) (event_of_slots c.args.event) _ (ap event_of_slots c.in-Register.is) c.args.scheduler.now c.args.is_first c.register.new.self refl c.register.result c.register.ensures.steps c.register.ensures.quiet
    (IfOk-weaker c.register.result _ _ (λ played all. let plays = all g.K.PartialEq.eq (g.S.Hashes.hash c.args.scheduler.now.logged.executor.hasher) in λ terms log first holds out. plays terms log (due_so g.K.PartialEq.eq (g.S.Hashes.hash c.args.scheduler.now.logged.executor.hasher) (event_of_slots c.args.event) _ (ap event_of_slots c.in-Register.is) c.args.scheduler.now terms log holds out)) c.register.ensures.plays)

pub unregister-requires : goal.unregister-requires
unregister-requires g c = (g.K.PartialEq.eq, g.S.Hashes.hash c.args.scheduler.now.logged.executor.hasher, may_play g.K.PartialEq.eq (g.S.Hashes.hash c.args.scheduler.now.logged.executor.hasher) (event_of_slots c.args.event) _ (ap event_of_slots c.in-Unregister.is) c.args.scheduler.now c.requires)

pub returns-in-Unregister-clause-happens : goal.returns-in-Unregister-clause-happens
returns-in-Unregister-clause-happens g c =
    still_if g.K.PartialEq.eq (g.S.Hashes.hash c.args.scheduler.now.logged.executor.hasher) (event_of_slots c.args.event) _ (ap event_of_slots c.in-Unregister.is) c.args.scheduler.now c.args.is_first c.unregister.new.self refl c.unregister.result c.unregister.ensures.steps c.unregister.ensures.quiet
    (IfOk-weaker c.unregister.result _ _ (λ played all. let plays = all g.K.PartialEq.eq (g.S.Hashes.hash c.args.scheduler.now.logged.executor.hasher) in λ terms log first holds out. plays terms log (due_so g.K.PartialEq.eq (g.S.Hashes.hash c.args.scheduler.now.logged.executor.hasher) (event_of_slots c.args.event) _ (ap event_of_slots c.in-Unregister.is) c.args.scheduler.now terms log holds out)) c.unregister.ensures.plays)

pub enter-requires : goal.enter-requires
enter-requires g c = (g.K.PartialEq.eq, g.S.Hashes.hash c.args.scheduler.now.logged.executor.hasher, may_play g.K.PartialEq.eq (g.S.Hashes.hash c.args.scheduler.now.logged.executor.hasher) (event_of_slots c.args.event) _ (ap event_of_slots c.in-Enter.is) c.args.scheduler.now c.requires)

pub returns-in-Enter-clause-happens : goal.returns-in-Enter-clause-happens
returns-in-Enter-clause-happens g c =
    still_if g.K.PartialEq.eq (g.S.Hashes.hash c.args.scheduler.now.logged.executor.hasher) (event_of_slots c.args.event) _ (ap event_of_slots c.in-Enter.is) c.args.scheduler.now c.args.is_first c.enter.new.self refl c.enter.result c.enter.ensures.steps c.enter.ensures.quiet
    (IfOk-weaker c.enter.result _ _ (λ played all. let plays = all g.K.PartialEq.eq (g.S.Hashes.hash c.args.scheduler.now.logged.executor.hasher) in λ terms log first holds out. plays terms log (due_so g.K.PartialEq.eq (g.S.Hashes.hash c.args.scheduler.now.logged.executor.hasher) (event_of_slots c.args.event) _ (ap event_of_slots c.in-Enter.is) c.args.scheduler.now terms log holds out)) c.enter.ensures.plays)

pub own-requires : goal.own-requires
own-requires g c = (g.K.PartialEq.eq, g.S.Hashes.hash c.args.scheduler.now.logged.executor.hasher, may_play g.K.PartialEq.eq (g.S.Hashes.hash c.args.scheduler.now.logged.executor.hasher) (event_of_slots c.args.event) _ (ap event_of_slots c.in-Own.is) c.args.scheduler.now c.requires)

pub returns-in-Own-clause-happens : goal.returns-in-Own-clause-happens
returns-in-Own-clause-happens g c =
    still_if g.K.PartialEq.eq (g.S.Hashes.hash c.args.scheduler.now.logged.executor.hasher) (event_of_slots c.args.event) _ (ap event_of_slots c.in-Own.is) c.args.scheduler.now c.args.is_first c.own.new.self refl c.own.result c.own.ensures.steps c.own.ensures.quiet
    (IfOk-weaker c.own.result _ _ (λ played all. let plays = all g.K.PartialEq.eq (g.S.Hashes.hash c.args.scheduler.now.logged.executor.hasher) in λ terms log first holds out. plays terms log (due_so g.K.PartialEq.eq (g.S.Hashes.hash c.args.scheduler.now.logged.executor.hasher) (event_of_slots c.args.event) _ (ap event_of_slots c.in-Own.is) c.args.scheduler.now terms log holds out)) c.own.ensures.plays)

pub refresh-requires : goal.refresh-requires
refresh-requires g c = (g.K.PartialEq.eq, g.S.Hashes.hash c.args.scheduler.now.logged.executor.hasher, may_play g.K.PartialEq.eq (g.S.Hashes.hash c.args.scheduler.now.logged.executor.hasher) (event_of_slots c.args.event) _ (ap event_of_slots c.in-Refresh.is) c.args.scheduler.now c.requires)

pub returns-in-Refresh-clause-happens : goal.returns-in-Refresh-clause-happens
returns-in-Refresh-clause-happens g c =
    still_if g.K.PartialEq.eq (g.S.Hashes.hash c.args.scheduler.now.logged.executor.hasher) (event_of_slots c.args.event) _ (ap event_of_slots c.in-Refresh.is) c.args.scheduler.now c.args.is_first c.refresh.new.self refl c.refresh.result c.refresh.ensures.steps c.refresh.ensures.quiet
    (IfOk-weaker c.refresh.result _ _ (λ played all. let plays = all g.K.PartialEq.eq (g.S.Hashes.hash c.args.scheduler.now.logged.executor.hasher) in λ terms log first holds out. plays terms log (due_so g.K.PartialEq.eq (g.S.Hashes.hash c.args.scheduler.now.logged.executor.hasher) (event_of_slots c.args.event) _ (ap event_of_slots c.in-Refresh.is) c.args.scheduler.now terms log holds out)) c.refresh.ensures.plays)

pub flush-requires : goal.flush-requires
flush-requires g c = (g.K.PartialEq.eq, g.S.Hashes.hash c.args.scheduler.now.logged.executor.hasher, may_play g.K.PartialEq.eq (g.S.Hashes.hash c.args.scheduler.now.logged.executor.hasher) (event_of_slots c.args.event) _ (ap event_of_slots c.in-Flush.is) c.args.scheduler.now c.requires)

pub returns-in-Flush-clause-happens : goal.returns-in-Flush-clause-happens
returns-in-Flush-clause-happens g c =
    still_if g.K.PartialEq.eq (g.S.Hashes.hash c.args.scheduler.now.logged.executor.hasher) (event_of_slots c.args.event) _ (ap event_of_slots c.in-Flush.is) c.args.scheduler.now c.args.is_first c.flush.new.self refl c.flush.result c.flush.ensures.steps c.flush.ensures.quiet
    (IfOk-weaker c.flush.result _ _ (λ played all. let plays = all g.K.PartialEq.eq (g.S.Hashes.hash c.args.scheduler.now.logged.executor.hasher) in λ terms log first holds out. plays terms log (due_so g.K.PartialEq.eq (g.S.Hashes.hash c.args.scheduler.now.logged.executor.hasher) (event_of_slots c.args.event) _ (ap event_of_slots c.in-Flush.is) c.args.scheduler.now terms log holds out)) c.flush.ensures.plays)

pub drop_guard-requires : goal.drop_guard-requires
drop_guard-requires g c = (g.K.PartialEq.eq, g.S.Hashes.hash c.args.scheduler.now.logged.executor.hasher, may_play g.K.PartialEq.eq (g.S.Hashes.hash c.args.scheduler.now.logged.executor.hasher) (event_of_slots c.args.event) _ (ap event_of_slots c.in-DropGuard.is) c.args.scheduler.now c.requires)

pub returns-in-DropGuard-clause-happens : goal.returns-in-DropGuard-clause-happens
returns-in-DropGuard-clause-happens g c =
    still_if g.K.PartialEq.eq (g.S.Hashes.hash c.args.scheduler.now.logged.executor.hasher) (event_of_slots c.args.event) _ (ap event_of_slots c.in-DropGuard.is) c.args.scheduler.now c.args.is_first c.drop_guard.new.self refl c.drop_guard.result c.drop_guard.ensures.steps c.drop_guard.ensures.quiet
    (IfOk-weaker c.drop_guard.result _ _ (λ played all. let plays = all g.K.PartialEq.eq (g.S.Hashes.hash c.args.scheduler.now.logged.executor.hasher) in λ terms log first holds out. plays terms log (due_so g.K.PartialEq.eq (g.S.Hashes.hash c.args.scheduler.now.logged.executor.hasher) (event_of_slots c.args.event) _ (ap event_of_slots c.in-DropGuard.is) c.args.scheduler.now terms log holds out)) c.drop_guard.ensures.plays)

pub forget-requires : goal.forget-requires
forget-requires g c = (g.K.PartialEq.eq, g.S.Hashes.hash c.args.scheduler.now.logged.executor.hasher, may_play g.K.PartialEq.eq (g.S.Hashes.hash c.args.scheduler.now.logged.executor.hasher) (event_of_slots c.args.event) _ (ap event_of_slots c.in-Forget.is) c.args.scheduler.now c.requires)

pub returns-in-Forget-clause-happens : goal.returns-in-Forget-clause-happens
returns-in-Forget-clause-happens g c =
    let plays = c.forget.ensures.plays g.K.PartialEq.eq (g.S.Hashes.hash c.args.scheduler.now.logged.executor.hasher) in
    still g.K.PartialEq.eq (g.S.Hashes.hash c.args.scheduler.now.logged.executor.hasher) (event_of_slots c.args.event) _ (ap event_of_slots c.in-Forget.is) c.args.scheduler.now c.args.is_first c.forget.new.self refl c.forget.result c.forget.ensures.steps c.forget.ensures.quiet
    (λ terms log first holds out. plays terms log (due_so g.K.PartialEq.eq (g.S.Hashes.hash c.args.scheduler.now.logged.executor.hasher) (event_of_slots c.args.event) _ (ap event_of_slots c.in-Forget.is) c.args.scheduler.now terms log holds out))

pub returns-in-Collector-clause-back : goal.returns-in-Collector-clause-back
returns-in-Collector-clause-back g c = gave_none g.K.PartialEq.eq (g.S.Hashes.hash c.args.scheduler.now.logged.executor.hasher) (event_of_slots c.args.event) _ (ap event_of_slots c.in-Collector.is) c.args.scheduler.now (λ did none. none) c.collector.result c.args.back.now.items

pub returns-in-Hash-clause-back : goal.returns-in-Hash-clause-back
returns-in-Hash-clause-back g c = gave_none g.K.PartialEq.eq (g.S.Hashes.hash c.args.scheduler.now.logged.executor.hasher) (event_of_slots c.args.event) _ (ap event_of_slots c.in-Hash.is) c.args.scheduler.now (λ did none. none) c.hash.result c.args.back.now.items

pub returns-in-Choose-clause-back : goal.returns-in-Choose-clause-back
returns-in-Choose-clause-back g c = gave_none_if g.K.PartialEq.eq (g.S.Hashes.hash c.args.scheduler.now.logged.executor.hasher) (event_of_slots c.args.event) _ (ap event_of_slots c.in-Choose.is) c.args.scheduler.now (λ did none. none) c.choose.result c.args.back.now.items

pub returns-in-Register-clause-back : goal.returns-in-Register-clause-back
returns-in-Register-clause-back g c = gave g.K.PartialEq.eq (g.S.Hashes.hash c.args.scheduler.now.logged.executor.hasher) (event_of_slots c.args.event) _ (ap event_of_slots c.in-Register.is) c.args.scheduler.now c.register.result c.args.back.now.items c.register.new.back.items c.register.ensures.back

pub returns-in-Unregister-clause-back : goal.returns-in-Unregister-clause-back
returns-in-Unregister-clause-back g c = gave g.K.PartialEq.eq (g.S.Hashes.hash c.args.scheduler.now.logged.executor.hasher) (event_of_slots c.args.event) _ (ap event_of_slots c.in-Unregister.is) c.args.scheduler.now c.unregister.result c.args.back.now.items c.unregister.new.back.items c.unregister.ensures.back

pub returns-in-Enter-clause-back : goal.returns-in-Enter-clause-back
returns-in-Enter-clause-back g c = gave g.K.PartialEq.eq (g.S.Hashes.hash c.args.scheduler.now.logged.executor.hasher) (event_of_slots c.args.event) _ (ap event_of_slots c.in-Enter.is) c.args.scheduler.now c.enter.result c.args.back.now.items c.enter.new.back.items c.enter.ensures.back

pub returns-in-Own-clause-back : goal.returns-in-Own-clause-back
returns-in-Own-clause-back g c = gave g.K.PartialEq.eq (g.S.Hashes.hash c.args.scheduler.now.logged.executor.hasher) (event_of_slots c.args.event) _ (ap event_of_slots c.in-Own.is) c.args.scheduler.now c.own.result c.args.back.now.items c.own.new.back.items c.own.ensures.back

pub returns-in-Refresh-clause-back : goal.returns-in-Refresh-clause-back
returns-in-Refresh-clause-back g c = gave g.K.PartialEq.eq (g.S.Hashes.hash c.args.scheduler.now.logged.executor.hasher) (event_of_slots c.args.event) _ (ap event_of_slots c.in-Refresh.is) c.args.scheduler.now c.refresh.result c.args.back.now.items c.refresh.new.back.items c.refresh.ensures.back

pub returns-in-Flush-clause-back : goal.returns-in-Flush-clause-back
returns-in-Flush-clause-back g c = gave g.K.PartialEq.eq (g.S.Hashes.hash c.args.scheduler.now.logged.executor.hasher) (event_of_slots c.args.event) _ (ap event_of_slots c.in-Flush.is) c.args.scheduler.now c.flush.result c.args.back.now.items c.flush.new.back.items c.flush.ensures.back

pub returns-in-DropGuard-clause-back : goal.returns-in-DropGuard-clause-back
returns-in-DropGuard-clause-back g c = gave g.K.PartialEq.eq (g.S.Hashes.hash c.args.scheduler.now.logged.executor.hasher) (event_of_slots c.args.event) _ (ap event_of_slots c.in-DropGuard.is) c.args.scheduler.now c.drop_guard.result c.args.back.now.items c.drop_guard.new.back.items c.drop_guard.ensures.back

pub returns-in-Forget-clause-back : goal.returns-in-Forget-clause-back
returns-in-Forget-clause-back g c = gave_none g.K.PartialEq.eq (g.S.Hashes.hash c.args.scheduler.now.logged.executor.hasher) (event_of_slots c.args.event) _ (ap event_of_slots c.in-Forget.is) c.args.scheduler.now (λ did none. none) c.forget.result c.args.back.now.items

pub returns-in-Register-clause-rows : goal.returns-in-Register-clause-rows
returns-in-Register-clause-rows g c = rows_keep g.K.PartialEq.eq (g.S.Hashes.hash c.args.scheduler.now.logged.executor.hasher) (event_of_slots c.args.event) _ (ap event_of_slots c.in-Register.is) c.args.scheduler.now c.register.new.self refl c.register.result c.register.ensures.works

pub returns-in-Unregister-clause-rows : goal.returns-in-Unregister-clause-rows
returns-in-Unregister-clause-rows g c = rows_keep g.K.PartialEq.eq (g.S.Hashes.hash c.args.scheduler.now.logged.executor.hasher) (event_of_slots c.args.event) _ (ap event_of_slots c.in-Unregister.is) c.args.scheduler.now c.unregister.new.self refl c.unregister.result c.unregister.ensures.works

pub returns-in-Enter-clause-rows : goal.returns-in-Enter-clause-rows
returns-in-Enter-clause-rows g c = rows_keep g.K.PartialEq.eq (g.S.Hashes.hash c.args.scheduler.now.logged.executor.hasher) (event_of_slots c.args.event) _ (ap event_of_slots c.in-Enter.is) c.args.scheduler.now c.enter.new.self refl c.enter.result c.enter.ensures.works

pub returns-in-Own-clause-rows : goal.returns-in-Own-clause-rows
returns-in-Own-clause-rows g c = rows_keep g.K.PartialEq.eq (g.S.Hashes.hash c.args.scheduler.now.logged.executor.hasher) (event_of_slots c.args.event) _ (ap event_of_slots c.in-Own.is) c.args.scheduler.now c.own.new.self refl c.own.result c.own.ensures.works

pub returns-in-Refresh-clause-rows : goal.returns-in-Refresh-clause-rows
returns-in-Refresh-clause-rows g c = rows_keep g.K.PartialEq.eq (g.S.Hashes.hash c.args.scheduler.now.logged.executor.hasher) (event_of_slots c.args.event) _ (ap event_of_slots c.in-Refresh.is) c.args.scheduler.now c.refresh.new.self refl c.refresh.result c.refresh.ensures.works

pub returns-in-Flush-clause-rows : goal.returns-in-Flush-clause-rows
returns-in-Flush-clause-rows g c = rows_keep g.K.PartialEq.eq (g.S.Hashes.hash c.args.scheduler.now.logged.executor.hasher) (event_of_slots c.args.event) _ (ap event_of_slots c.in-Flush.is) c.args.scheduler.now c.flush.new.self refl c.flush.result c.flush.ensures.works

pub returns-in-DropGuard-clause-rows : goal.returns-in-DropGuard-clause-rows
returns-in-DropGuard-clause-rows g c = rows_keep g.K.PartialEq.eq (g.S.Hashes.hash c.args.scheduler.now.logged.executor.hasher) (event_of_slots c.args.event) _ (ap event_of_slots c.in-DropGuard.is) c.args.scheduler.now c.drop_guard.new.self refl c.drop_guard.result c.drop_guard.ensures.works

pub returns-in-Collector-clause-rows : goal.returns-in-Collector-clause-rows
returns-in-Collector-clause-rows g c = others_keep g.K.PartialEq.eq (g.S.Hashes.hash c.args.scheduler.now.logged.executor.hasher) (event_of_slots c.args.event) _ (ap event_of_slots c.in-Collector.is) c.args.scheduler.now c.args.scheduler.now refl c.collector.result

pub returns-in-Hash-clause-rows : goal.returns-in-Hash-clause-rows
returns-in-Hash-clause-rows g c = others_keep g.K.PartialEq.eq (g.S.Hashes.hash c.args.scheduler.now.logged.executor.hasher) (event_of_slots c.args.event) _ (ap event_of_slots c.in-Hash.is) c.args.scheduler.now c.args.scheduler.now refl c.hash.result

pub returns-in-Choose-clause-rows : goal.returns-in-Choose-clause-rows
returns-in-Choose-clause-rows g c = others_keep_if g.K.PartialEq.eq (g.S.Hashes.hash c.args.scheduler.now.logged.executor.hasher) (event_of_slots c.args.event) _ (ap event_of_slots c.in-Choose.is) c.args.scheduler.now c.choose.new.self refl c.choose.result

pub returns-in-Forget-clause-rows : goal.returns-in-Forget-clause-rows
returns-in-Forget-clause-rows g c = others_keep g.K.PartialEq.eq (g.S.Hashes.hash c.args.scheduler.now.logged.executor.hasher) (event_of_slots c.args.event) _ (ap event_of_slots c.in-Forget.is) c.args.scheduler.now c.forget.new.self refl c.forget.result

pub returns-in-Collector-clause-setups : goal.returns-in-Collector-clause-setups
returns-in-Collector-clause-setups g c = setup_keeps g.K.PartialEq.eq (g.S.Hashes.hash c.args.scheduler.now.logged.executor.hasher) (event_of_slots c.args.event) _ (ap event_of_slots c.in-Collector.is) c.args.scheduler.now c.args.scheduler.now c.collector.result c.collector.ensures.works

pub returns-in-Hash-clause-setups : goal.returns-in-Hash-clause-setups
returns-in-Hash-clause-setups g c = setup_keeps g.K.PartialEq.eq (g.S.Hashes.hash c.args.scheduler.now.logged.executor.hasher) (event_of_slots c.args.event) _ (ap event_of_slots c.in-Hash.is) c.args.scheduler.now c.args.scheduler.now c.hash.result c.hash.ensures.works

pub returns-in-Choose-clause-setups : goal.returns-in-Choose-clause-setups
returns-in-Choose-clause-setups g c = setup_keeps_if g.K.PartialEq.eq (g.S.Hashes.hash c.args.scheduler.now.logged.executor.hasher) (event_of_slots c.args.event) _ (ap event_of_slots c.in-Choose.is) c.args.scheduler.now c.choose.new.self c.choose.result c.choose.ensures.works

pub returns-in-Forget-clause-setups : goal.returns-in-Forget-clause-setups
returns-in-Forget-clause-setups g c = setup_keeps g.K.PartialEq.eq (g.S.Hashes.hash c.args.scheduler.now.logged.executor.hasher) (event_of_slots c.args.event) _ (ap event_of_slots c.in-Forget.is) c.args.scheduler.now c.forget.new.self c.forget.result c.forget.ensures.works

pub returns-in-Register-clause-setups : goal.returns-in-Register-clause-setups
returns-in-Register-clause-setups g c = others_set g.K.PartialEq.eq (g.S.Hashes.hash c.args.scheduler.now.logged.executor.hasher) (event_of_slots c.args.event) _ (ap event_of_slots c.in-Register.is) c.args.scheduler.now c.register.new.self refl c.register.result

pub returns-in-Unregister-clause-setups : goal.returns-in-Unregister-clause-setups
returns-in-Unregister-clause-setups g c = others_set g.K.PartialEq.eq (g.S.Hashes.hash c.args.scheduler.now.logged.executor.hasher) (event_of_slots c.args.event) _ (ap event_of_slots c.in-Unregister.is) c.args.scheduler.now c.unregister.new.self refl c.unregister.result

pub returns-in-Enter-clause-setups : goal.returns-in-Enter-clause-setups
returns-in-Enter-clause-setups g c = others_set g.K.PartialEq.eq (g.S.Hashes.hash c.args.scheduler.now.logged.executor.hasher) (event_of_slots c.args.event) _ (ap event_of_slots c.in-Enter.is) c.args.scheduler.now c.enter.new.self refl c.enter.result

pub returns-in-Own-clause-setups : goal.returns-in-Own-clause-setups
returns-in-Own-clause-setups g c = others_set g.K.PartialEq.eq (g.S.Hashes.hash c.args.scheduler.now.logged.executor.hasher) (event_of_slots c.args.event) _ (ap event_of_slots c.in-Own.is) c.args.scheduler.now c.own.new.self refl c.own.result

pub returns-in-Refresh-clause-setups : goal.returns-in-Refresh-clause-setups
returns-in-Refresh-clause-setups g c = others_set g.K.PartialEq.eq (g.S.Hashes.hash c.args.scheduler.now.logged.executor.hasher) (event_of_slots c.args.event) _ (ap event_of_slots c.in-Refresh.is) c.args.scheduler.now c.refresh.new.self refl c.refresh.result

pub returns-in-Flush-clause-setups : goal.returns-in-Flush-clause-setups
returns-in-Flush-clause-setups g c = others_set g.K.PartialEq.eq (g.S.Hashes.hash c.args.scheduler.now.logged.executor.hasher) (event_of_slots c.args.event) _ (ap event_of_slots c.in-Flush.is) c.args.scheduler.now c.flush.new.self refl c.flush.result

pub returns-in-DropGuard-clause-setups : goal.returns-in-DropGuard-clause-setups
returns-in-DropGuard-clause-setups g c = others_set g.K.PartialEq.eq (g.S.Hashes.hash c.args.scheduler.now.logged.executor.hasher) (event_of_slots c.args.event) _ (ap event_of_slots c.in-DropGuard.is) c.args.scheduler.now c.drop_guard.new.self refl c.drop_guard.result

pub returns-in-Register-clause-acts : goal.returns-in-Register-clause-acts
returns-in-Register-clause-acts g c = row_acts g.K.PartialEq.eq g.S.Hashes.hash (event_of_slots c.args.event) c.args.scheduler.now c.register.new.self _ (ap event_of_slots c.in-Register.is) refl c.register.result c.register.ensures.steps c.register.ensures.works c.register.ensures.given

pub returns-in-Unregister-clause-acts : goal.returns-in-Unregister-clause-acts
returns-in-Unregister-clause-acts g c = row_acts g.K.PartialEq.eq g.S.Hashes.hash (event_of_slots c.args.event) c.args.scheduler.now c.unregister.new.self _ (ap event_of_slots c.in-Unregister.is) refl c.unregister.result c.unregister.ensures.steps c.unregister.ensures.works c.unregister.ensures.given

pub returns-in-Enter-clause-acts : goal.returns-in-Enter-clause-acts
returns-in-Enter-clause-acts g c = row_acts g.K.PartialEq.eq g.S.Hashes.hash (event_of_slots c.args.event) c.args.scheduler.now c.enter.new.self _ (ap event_of_slots c.in-Enter.is) refl c.enter.result c.enter.ensures.steps c.enter.ensures.works c.enter.ensures.given

pub returns-in-Own-clause-acts : goal.returns-in-Own-clause-acts
returns-in-Own-clause-acts g c = row_acts g.K.PartialEq.eq g.S.Hashes.hash (event_of_slots c.args.event) c.args.scheduler.now c.own.new.self _ (ap event_of_slots c.in-Own.is) refl c.own.result c.own.ensures.steps c.own.ensures.works c.own.ensures.given

pub returns-in-Refresh-clause-acts : goal.returns-in-Refresh-clause-acts
returns-in-Refresh-clause-acts g c = row_acts g.K.PartialEq.eq g.S.Hashes.hash (event_of_slots c.args.event) c.args.scheduler.now c.refresh.new.self _ (ap event_of_slots c.in-Refresh.is) refl c.refresh.result c.refresh.ensures.steps c.refresh.ensures.works c.refresh.ensures.given

pub returns-in-Flush-clause-acts : goal.returns-in-Flush-clause-acts
returns-in-Flush-clause-acts g c = row_acts g.K.PartialEq.eq g.S.Hashes.hash (event_of_slots c.args.event) c.args.scheduler.now c.flush.new.self _ (ap event_of_slots c.in-Flush.is) refl c.flush.result c.flush.ensures.steps c.flush.ensures.works c.flush.ensures.given

pub returns-in-DropGuard-clause-acts : goal.returns-in-DropGuard-clause-acts
returns-in-DropGuard-clause-acts g c = row_acts g.K.PartialEq.eq g.S.Hashes.hash (event_of_slots c.args.event) c.args.scheduler.now c.drop_guard.new.self _ (ap event_of_slots c.in-DropGuard.is) refl c.drop_guard.result c.drop_guard.ensures.steps c.drop_guard.ensures.works c.drop_guard.ensures.given

pub returns-in-Choose-clause-acts : goal.returns-in-Choose-clause-acts
returns-in-Choose-clause-acts g c = choice_acts g.K.PartialEq.eq g.S.Hashes.hash (event_of_slots c.args.event) c.args.scheduler.now c.choose.new.self _ (ap event_of_slots c.in-Choose.is) c.choose.result c.choose.ensures.steps c.choose.ensures.works

pub returns-in-Collector-clause-acts : goal.returns-in-Collector-clause-acts
returns-in-Collector-clause-acts g c = nothing_acts g.K.PartialEq.eq g.S.Hashes.hash (event_of_slots c.args.event) c.args.scheduler.now c.args.scheduler.now _ (ap event_of_slots c.in-Collector.is) c.collector.result c.collector.ensures.steps c.collector.ensures.works.1.0 c.collector.ensures.works.1.1 c.collector.ensures.works.0 refl

pub returns-in-Hash-clause-acts : goal.returns-in-Hash-clause-acts
returns-in-Hash-clause-acts g c = nothing_acts g.K.PartialEq.eq g.S.Hashes.hash (event_of_slots c.args.event) c.args.scheduler.now c.args.scheduler.now _ (ap event_of_slots c.in-Hash.is) c.hash.result c.hash.ensures.steps c.hash.ensures.works.1.0 c.hash.ensures.works.1.1 c.hash.ensures.works.0 refl

pub returns-in-Forget-clause-acts : goal.returns-in-Forget-clause-acts
returns-in-Forget-clause-acts g c = nothing_acts g.K.PartialEq.eq g.S.Hashes.hash (event_of_slots c.args.event) c.args.scheduler.now c.forget.new.self _ (ap event_of_slots c.in-Forget.is) c.forget.result c.forget.ensures.steps c.forget.ensures.works.1.0 c.forget.ensures.works.1.1 c.forget.ensures.works.0 refl

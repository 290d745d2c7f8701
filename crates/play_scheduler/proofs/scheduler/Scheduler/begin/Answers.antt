-- A call begins under a guard.
use Rattle.std.specs.Prelude.{true, false}
use Rattle.std.proofs.Common.{[], Bool, subst}
use Rattle.seize_words.specs.declared.fault.Fault.TheVariants.{Busy}
use Rattle.run_schedules.specs.Schedules.After.{moment}
use Rattle.run_schedules.specs.declared.event.Event.TheVariants.{Begin}
use Rattle.run_schedules.specs.declared.outcome.Outcome.TheVariants.{Goes, Refused}
use Rattle.play_scheduler.proofs.Busy.{none_quiet}
use Rattle.play_scheduler.specs.Played.{BeginsSo}
use Rattle.play_scheduler.proofs.Begun.{begins_call, begins_none}
use Rattle.play_scheduler.proofs.Rights.{so_played}
use Rattle.play_scheduler.proofs.scheduler.Scheduler.begin.Goals as goal

pub begins-requires : goal.begins-requires
begins-requires g c = let r = c.requires in (r.0, moment r.1, r.2.played)

pub returns-then-branch-clause-plays : goal.returns-then-branch-clause-plays
returns-then-branch-clause-plays g c =
    λ terms log due.
    let hash = g.S.Hashes.hash c.args.self.now.logged.executor.hasher in
    let own = c.args.caller in
    let guard = c.args.guard in
    let map = c.args.map.now in
    so_played g.K.PartialEq.eq hash terms log c.begins.new.self (Begin own guard map c.args.call) c.quietly.result Goes 0 [] c.quietly.ensures.outcome c.quietly.ensures.steps
    c.quietly.ensures.effects
    (begins_call g.K.PartialEq.eq hash terms log own guard map c.args.call c.args.self.now c.begins.new.self due
    (subst (λ (b : Bool). BeginsSo g.K.PartialEq.eq hash terms (moment log) own guard map c.args.call b c.args.self.now c.begins.new.self) c.if-branch.true
    (c.in_ok-begins.ensures.begins terms (moment log) due.played)))

pub returns-else-branch-clause-plays : goal.returns-else-branch-clause-plays
returns-else-branch-clause-plays g c =
    λ terms log due.
    let hash = g.S.Hashes.hash c.args.self.now.logged.executor.hasher in
    let own = c.args.caller in
    let guard = c.args.guard in
    let map = c.args.map.now in
    so_played g.K.PartialEq.eq hash terms log c.begins.new.self (Begin own guard map c.args.call) c.busy.result (Refused Busy) 0 [] c.busy.ensures.outcome c.busy.ensures.steps c.busy.ensures.effects
    (begins_none g.K.PartialEq.eq hash terms log own guard map c.args.call c.args.self.now c.begins.new.self due
    (subst (λ (b : Bool). BeginsSo g.K.PartialEq.eq hash terms (moment log) own guard map c.args.call b c.args.self.now c.begins.new.self) c.if-branch.false
    (c.in_ok-begins.ensures.begins terms (moment log) due.played)))

pub returns-then-branch-clause-quiet : goal.returns-then-branch-clause-quiet
returns-then-branch-clause-quiet g c = none_quiet c.quietly.result.outcome c.quietly.result.effects.items c.quietly.ensures.effects

pub returns-else-branch-clause-quiet : goal.returns-else-branch-clause-quiet
returns-else-branch-clause-quiet g c = none_quiet c.busy.result.outcome c.busy.result.effects.items c.busy.ensures.effects

pub returns-then-branch-clause-began : goal.returns-then-branch-clause-began
returns-then-branch-clause-began g c =
    λ terms m stands. (
      true,
      subst (λ (b : Bool). BeginsSo g.K.PartialEq.eq (g.S.Hashes.hash c.args.self.now.logged.executor.hasher) terms m c.args.caller c.args.guard c.args.map.now c.args.call b c.args.self.now c.begins.new.self)
          c.if-branch.true (c.in_ok-begins.ensures.begins terms m stands),
      c.quietly.ensures.effects,
      c.quietly.ensures.outcome,
    )

pub returns-else-branch-clause-began : goal.returns-else-branch-clause-began
returns-else-branch-clause-began g c =
    λ terms m stands. (
      false,
      subst (λ (b : Bool). BeginsSo g.K.PartialEq.eq (g.S.Hashes.hash c.args.self.now.logged.executor.hasher) terms m c.args.caller c.args.guard c.args.map.now c.args.call b c.args.self.now c.begins.new.self)
          c.if-branch.false (c.in_ok-begins.ensures.begins terms m stands),
      c.busy.ensures.effects,
      c.busy.ensures.outcome,
    )

-- A slot is taken, or none.
use Rattle.std.proofs.Common.{arith, subst}
use Rattle.run_shows.specs.declared.row.RowTold.{RowTold}
use Rattle.run_shows.specs.declared.row.SlotCall.TheVariants as call
use Rattle.run_logged.specs.Rows.Rows.{RowRan}
use Rattle.play_scheduler.proofs.SlotTaken.{told_one}
use Rattle.play_scheduler.proofs.scheduler.Scheduler.take_slot.Goals as goal

pub run_row-requires : goal.run_row-requires
run_row-requires g c =
    let r = c.requires in
    record { fits = omega arith; may = (r.0, r.1, r.4.name, r.3, r.4.scene, r.4.shown); begins = tt }

pub unreachable-requires : goal.unreachable-requires
unreachable-requires g c =
    let r = c.requires in
    told_one r.0 r.1 r.2 r.3 c.args.self.now r.4 c.args.enters c.in_ok-told.told c.args.effects.now.items c.run_row.new.effects.items c.run_row.new.self.logged c.in_ok-told.ensures.ran
    c.in_default.not-Registered c.in_default.not-Refused

pub returns-in-Registered-clause-taken : goal.returns-in-Registered-clause-taken
returns-in-Registered-clause-taken g c =
    subst (λ (x : RowTold _). RowRan 0 (call.Register c.args.enters) x c.args.effects.now.items c.run_row.new.effects.items c.args.self.now.logged c.run_row.new.self.logged) c.in-Registered.is
    c.in_ok-told.ensures.ran

pub returns-in-Refused-clause-taken : goal.returns-in-Refused-clause-taken
returns-in-Refused-clause-taken g c =
    subst (λ (x : RowTold _). RowRan 0 (call.Register c.args.enters) x c.args.effects.now.items c.run_row.new.effects.items c.args.self.now.logged c.run_row.new.self.logged) c.in-Refused.is
    c.in_ok-told.ensures.ran

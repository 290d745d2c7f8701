-- What a caller does with a slot runs.
use Rattle.run_logged.proofs.Given.ShedsKeptGiven.{given_on}
use Rattle.run_logged.proofs.Rows.RunRow.{begun_there, has_run, in_its_slot}
use Rattle.play_scheduler.proofs.Backs.{brought}
use Rattle.play_scheduler.proofs.scheduler.Scheduler.run_row.Goals as goal

pub run_on_slot-requires : goal.run_on_slot-requires
run_on_slot-requires g c =
    let r = c.requires.may in
    begun_there c.args.slot c.args.called c.in_ok-caller.caller c.args.self.now.logged c.begin_on_slot.new.self c.begin_on_slot.new.self
    (in_its_slot _ c.args.slot c.in_ok-caller.caller c.requires.fits c.in_ok-caller.ensures.number) c.requires.begins
    c.in_ok-caller.ensures.leads r.0 r.1 r.2 r.3 r.4 r.5

pub returns-clause-ran : goal.returns-clause-ran
returns-clause-ran g c =
    let r = c.requires.may in
    let e = c.in_ok-told.ensures in
    has_run c.args.slot c.args.called c.in_ok-caller.caller c.args.self.now.logged c.begin_on_slot.new.self c.run_on_slot.new.self
    (in_its_slot _ c.args.slot c.in_ok-caller.caller c.requires.fits c.in_ok-caller.ensures.number) c.requires.begins
    c.in_ok-caller.ensures.leads r.0 r.1 r.2 r.3 r.4 r.5 c.in_ok-told.told _ _ c.in_ok-caller.ensures.begun c.in_ok-caller.ensures.notes c.begin_on_slot.ensures.given e.goes e.comes e.last e.used e.ran e.tells

pub returns-in_err-told-clause-given : goal.returns-in_err-told-clause-given
returns-in_err-told-clause-given g c = given_on c.args.self.now.logged.executor c.begin_on_slot.new.self.executor c.run_on_slot.new.self.executor c.begin_on_slot.ensures.given c.run_on_slot.ensures.given

pub returns-clause-given : goal.returns-clause-given
returns-clause-given g c = given_on c.args.self.now.logged.executor c.begin_on_slot.new.self.executor c.run_on_slot.new.self.executor c.begin_on_slot.ensures.given c.run_on_slot.ensures.given

pub returns-clause-back : goal.returns-clause-back
returns-clause-back g c =
    brought c.args.slot c.args.called c.in_ok-caller.caller c.args.self.now.logged c.begin_on_slot.new.self _ _ _ _
    (in_its_slot _ c.args.slot c.in_ok-caller.caller c.requires.fits c.in_ok-caller.ensures.number) c.requires.begins c.in_ok-caller.ensures.leads c.in_ok-told.ensures.back

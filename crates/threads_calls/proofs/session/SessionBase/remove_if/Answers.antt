use Rattle.std.proofs.Common.{refl}
use Rattle.papaya_raw.specs.CallAsks.{removing_if}
use Rattle.threads_callers.specs.Given.StepsAsking.{MayTest, TestSays}
use Rattle.threads_callers.specs.Given.ViewsLooks.{shown_in}
use Rattle.threads_callers.specs.declared.answers.Found.{Found}
use Rattle.threads_calls.proofs.Asks.{answered_by, may_test, shows_asked, testing}
use Rattle.threads_callers.proofs.Named.{removed_there}
use Rattle.threads_calls.proofs.session.SessionBase.remove_if.Goals as goal

pub removes_if-ran-requires-clause-may : goal.removes_if-ran-requires-clause-may
removes_if-ran-requires-clause-may g c =
    let x = c.args.self.now in let its = c.setting_in-setting.result in let hashed = c.hash_by-hash.result in let key = g.Q.Equivalent.stands_for c.args.key.now in (
      testing,
      may_test g.K.PartialEq.eq g.S.Hashes.hash x.caller.seat.view x.setting its x.hasher.now key hashed x.slot (removing_if its hashed key) x.caller.lone c.requires.inside x.free x.knows
          c.setting_in-setting.ensures c.hash_by-hash.ensures refl,
    )

pub returns-in-Ok-clause-removed : goal.returns-in-Ok-clause-removed
returns-in-Ok-clause-removed g c =
    let call = removing_if {V = g.row.V.Denot} c.setting_in-setting.result c.hash_by-hash.result (g.Q.Equivalent.stands_for c.args.key.now) in (
      c.in-Ok.told,
      answered_by g.K.PartialEq.eq g.S.Hashes.hash (TestSays (MayTest g.F.Fn c.args.test)) {call = call} {made = call} c.args.self.now.caller.seat.view c.removes_if-ran.new.self.seat.view refl c.told_of.ensures c.in-Ok.is
          c.removes_if-ran.ensures.answered,
      c.removed.ensures,
    )

pub returns-in-Ok-clause-shown : goal.returns-in-Ok-clause-shown
returns-in-Ok-clause-shown g c =
    let call = removing_if {V = g.row.V.Denot} c.setting_in-setting.result c.hash_by-hash.result (g.Q.Equivalent.stands_for c.args.key.now) in let w = c.removes_if-ran.new.self.seat.view in
    removed_there (shown_in w.held) (λ (f : Found). f.word) c.in-Ok.told
    (shows_asked g.K.PartialEq.eq g.S.Hashes.hash (TestSays (MayTest g.F.Fn c.args.test)) {call = call} {made = call} c.args.self.now.caller.seat.view w refl c.told_of.ensures c.in-Ok.is c.removes_if-ran.ensures.answered)
    c.removed.result c.removed.ensures

pub returns-clause-refused : goal.returns-clause-refused
returns-clause-refused g c =
    let call = removing_if {V = g.row.V.Denot} c.setting_in-setting.result c.hash_by-hash.result (g.Q.Equivalent.stands_for c.args.key.now) in
    answered_by g.K.PartialEq.eq g.S.Hashes.hash (TestSays (MayTest g.F.Fn c.args.test)) {call = call} {made = call} c.args.self.now.caller.seat.view c.removes_if-ran.new.self.seat.view refl c.told_of.ensures c.in-Err.is
    c.removes_if-ran.ensures.answered

pub returns-in-Ok-clause-asked : goal.returns-in-Ok-clause-asked
returns-in-Ok-clause-asked g c = c.removes_if-ran.ensures.answered.asked

pub returns-clause-asked : goal.returns-clause-asked
returns-clause-asked g c = c.removes_if-ran.ensures.answered.asked

use Rattle.std.proofs.Common.{sym, ◌∙◌}
use Rattle.threads_calls.proofs.Whole.{has_room, may_reserve, no_room}
use Rattle.threads_calls.proofs.session.SessionBase.reserve.Goals as goal

pub does-ran-requires : goal.does-ran-requires
does-ran-requires g c =
    let x = c.args.self.now in record {
      may =
          may_reserve g.K.PartialEq.eq g.S.Hashes.hash x.caller.seat.view x.setting c.setting_in-setting.result x.hasher.now x.slot x.caller.lone c.requires.inside x.free x.knows
          c.setting_in-setting.ensures c.args.additional c.new-call.result c.new-call.ensures;
    }

pub returns-in-Ok-clause-done : goal.returns-in-Ok-clause-done
returns-in-Ok-clause-done g c =
    has_room g.K.PartialEq.eq g.S.Hashes.hash c.args.self.now.caller.seat.view c.does-ran.new.self.seat.view c.setting_in-setting.result c.args.additional c.new-call.result c.new-call.ensures
    c.does-ran.ensures.called c.in-Ok.field-0 (sym c.told_of.ensures ∙ c.in-Ok.is) c.does-ran.ensures.fits

pub returns-in-Err-clause-refused : goal.returns-in-Err-clause-refused
returns-in-Err-clause-refused g c =
    no_room g.K.PartialEq.eq g.S.Hashes.hash c.args.self.now.caller.seat.view c.does-ran.new.self.seat.view c.setting_in-setting.result c.args.additional c.new-call.result c.new-call.ensures
    c.does-ran.ensures.called c.in-Err.fault (sym c.told_of.ensures ∙ c.in-Err.is)

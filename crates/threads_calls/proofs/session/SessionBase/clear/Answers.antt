use Rattle.std.proofs.Common.{sym, ◌∙◌}
use Rattle.threads_calls.proofs.Whole.{has_cleared, may_clear, not_cleared}
use Rattle.threads_calls.proofs.session.SessionBase.clear.Goals as goal

pub does-ran-requires : goal.does-ran-requires
does-ran-requires g c =
    let x = c.args.self.now in record {
      may =
          may_clear g.K.PartialEq.eq g.S.Hashes.hash x.caller.seat.view x.setting c.setting_in-setting.result x.hasher.now x.slot x.caller.lone c.requires.inside x.free x.knows
          c.setting_in-setting.ensures c.clear-call.result c.clear-call.ensures;
    }

pub returns-in-Ok-clause-cleared : goal.returns-in-Ok-clause-cleared
returns-in-Ok-clause-cleared g c =
    has_cleared g.K.PartialEq.eq g.S.Hashes.hash c.args.self.now.caller.seat.view c.does-ran.new.self.seat.view c.setting_in-setting.result c.clear-call.result c.clear-call.ensures
    c.does-ran.ensures.called c.in-Ok.field-0 (sym c.told_of.ensures ∙ c.in-Ok.is) c.does-ran.ensures.fits

pub returns-in-Err-clause-refused : goal.returns-in-Err-clause-refused
returns-in-Err-clause-refused g c =
    not_cleared g.K.PartialEq.eq g.S.Hashes.hash c.args.self.now.caller.seat.view c.does-ran.new.self.seat.view c.setting_in-setting.result c.clear-call.result c.clear-call.ensures
    c.does-ran.ensures.called c.in-Err.fault (sym c.told_of.ensures ∙ c.in-Err.is)

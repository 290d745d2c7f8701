use Rattle.std.specs.Fn.{FnOnceReturns}
use Rattle.std.proofs.Common.{refl}
use Rattle.threads_callers.specs.Given.StepsAsking.{MakingSays}
use Rattle.threads_callers.specs.Given.ViewsLooks.{shown_in}
use Rattle.threads_callers.proofs.Given.StepsAnswering.{answers_one}
use Rattle.threads_calls.proofs.Asks.{answered_by, asked_by, first, may_make, shows_asked}
use Rattle.threads_callers.proofs.Named.{there_shown}
use Rattle.threads_calls.proofs.session.SessionBase.try_insert_with.Goals as goal

pub makes_pair-ran-requires-clause-may : goal.makes_pair-ran-requires-clause-may
makes_pair-ran-requires-clause-may g c =
    let x = c.args.self.now in (
      first,
      refl,
      may_make g.K.PartialEq.eq g.S.Hashes.hash x.caller.seat.view x.setting c.setting_in-setting.result x.hasher.now c.args.key c.hash_of-hash.result x.slot c.try_insert_with-call.result
          x.caller.lone c.requires.inside x.free x.knows c.setting_in-setting.ensures c.hash_of-hash.ensures c.try_insert_with-call.ensures,
    )

pub there-requires : goal.there-requires
there-requires g c =
    let v = c.args.self.now.caller.seat.view in let w = c.makes_pair-ran.new.self.seat.view in
    answers_one g.K.PartialEq.eq g.S.Hashes.hash (MakingSays {K = g.row.K.Denot} (FnOnceReturns g.F.FnOnce c.args.make tt)) c.args.key c.in-Ok.answer v w
    (asked_by g.K.PartialEq.eq g.S.Hashes.hash (MakingSays {K = g.row.K.Denot} (FnOnceReturns g.F.FnOnce c.args.make tt)) v w c.try_insert_with-call.ensures c.makes_pair-ran.ensures.answered)
    (answered_by g.K.PartialEq.eq g.S.Hashes.hash (MakingSays {K = g.row.K.Denot} (FnOnceReturns g.F.FnOnce c.args.make tt)) v w c.try_insert_with-call.ensures c.told_of.ensures c.in-Ok.is c.makes_pair-ran.ensures.answered)

pub returns-in-Ok-clause-tried : goal.returns-in-Ok-clause-tried
returns-in-Ok-clause-tried g c = (
  c.in-Ok.answer,
  answered_by g.K.PartialEq.eq g.S.Hashes.hash (MakingSays {K = g.row.K.Denot} (FnOnceReturns g.F.FnOnce c.args.make tt)) c.args.self.now.caller.seat.view c.makes_pair-ran.new.self.seat.view c.try_insert_with-call.ensures c.told_of.ensures c.in-Ok.is c.makes_pair-ran.ensures.answered,
  c.is_put.ensures,
  c.there.ensures,
)

pub returns-in-Ok-clause-shown : goal.returns-in-Ok-clause-shown
returns-in-Ok-clause-shown g c =
    let w = c.makes_pair-ran.new.self.seat.view in
    there_shown (shown_in w.held) c.in-Ok.answer c.there.result.word c.there.ensures
    (shows_asked g.K.PartialEq.eq g.S.Hashes.hash (MakingSays {K = g.row.K.Denot} (FnOnceReturns g.F.FnOnce c.args.make tt)) c.args.self.now.caller.seat.view w c.try_insert_with-call.ensures c.told_of.ensures c.in-Ok.is c.makes_pair-ran.ensures.answered)

pub returns-in-Err-clause-refused : goal.returns-in-Err-clause-refused
returns-in-Err-clause-refused g c =
    answered_by g.K.PartialEq.eq g.S.Hashes.hash (MakingSays {K = g.row.K.Denot} (FnOnceReturns g.F.FnOnce c.args.make tt)) c.args.self.now.caller.seat.view c.makes_pair-ran.new.self.seat.view c.try_insert_with-call.ensures c.told_of.ensures c.in-Err.is c.makes_pair-ran.ensures.answered

pub returns-in-Ok-clause-asked : goal.returns-in-Ok-clause-asked
returns-in-Ok-clause-asked g c = asked_by g.K.PartialEq.eq g.S.Hashes.hash (MakingSays {K = g.row.K.Denot} (FnOnceReturns g.F.FnOnce c.args.make tt)) c.args.self.now.caller.seat.view c.makes_pair-ran.new.self.seat.view c.try_insert_with-call.ensures c.makes_pair-ran.ensures.answered

pub returns-in-Err-clause-asked : goal.returns-in-Err-clause-asked
returns-in-Err-clause-asked g c = asked_by g.K.PartialEq.eq g.S.Hashes.hash (MakingSays {K = g.row.K.Denot} (FnOnceReturns g.F.FnOnce c.args.make tt)) c.args.self.now.caller.seat.view c.makes_pair-ran.new.self.seat.view c.try_insert_with-call.ensures c.makes_pair-ran.ensures.answered

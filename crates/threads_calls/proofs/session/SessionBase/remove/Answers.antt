use Rattle.std.proofs.Common.{refl}
use Rattle.papaya_raw.specs.CallPoints.{removing}
use Rattle.threads_callers.specs.Given.ViewsLooks.{shown_in}
use Rattle.threads_callers.specs.declared.answers.Found.{Found}
use Rattle.threads_calls.proofs.Keys.{may_remove}
use Rattle.threads_callers.proofs.Named.{removed_there, was_removed}
use Rattle.threads_calls.proofs.session.SessionBase.remove.Goals as goal

pub removes-requires : goal.removes-requires
removes-requires g c =
    let x = c.args.self.now in let its = c.setting_in-setting.result in let hashed = c.hash_by-hash.result in let key = g.Q.Equivalent.stands_for c.args.key.now in record {
      may =
          may_remove g.K.PartialEq.eq g.S.Hashes.hash x.caller.seat.view x.setting its x.hasher.now key hashed x.slot (removing its hashed key) x.caller.lone c.requires.inside
          x.free x.knows c.setting_in-setting.ensures c.hash_by-hash.ensures c.hash_by-hash.type_inv refl;
    }

pub returns-in-Ok-clause-removed : goal.returns-in-Ok-clause-removed
returns-in-Ok-clause-removed g c =
    (c.in-Ok.answer, c.in-Ok.ensures.called.ran, was_removed (λ (f : Found). f.word) c.removed.result c.in-Ok.answer c.removed.ensures)

pub returns-in-Ok-clause-taken : goal.returns-in-Ok-clause-taken
returns-in-Ok-clause-taken g c = (c.in-Ok.answer, c.in-Ok.ensures.called.ran, c.removed.ensures)

pub returns-in-Ok-clause-shown : goal.returns-in-Ok-clause-shown
returns-in-Ok-clause-shown g c =
    removed_there (shown_in c.removes.new.self.seat.view.held) (λ (f : Found). f.word) c.in-Ok.answer c.in-Ok.ensures.called.shows c.removed.result c.removed.ensures

pub returns-in-Err-clause-refused : goal.returns-in-Err-clause-refused
returns-in-Err-clause-refused g c = c.in-Err.ensures.called.ran

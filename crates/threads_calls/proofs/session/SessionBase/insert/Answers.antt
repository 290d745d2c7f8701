use Rattle.std.specs.Prelude.{Err}
use Rattle.std.proofs.Common.{refl, sym, subst}
use Rattle.papaya_raw.specs.CallPoints.{inserting}
use Rattle.threads_callers.specs.Given.ActsActs.{Insert}
use Rattle.seize_words.specs.declared.fault.Fault.{Fault}
use Rattle.threads_callers.specs.Given.ErrandsCalling.{outcome_of}
use Rattle.threads_callers.specs.Given.ErrandsLooking.{HasRun}
use Rattle.map_tables.specs.declared.node.Node.TheVariants.{Pair}
use Rattle.threads_callers.specs.Given.ViewsLooks.{shown_in}
use Rattle.threads_callers.specs.declared.answers.Found.{Found}
use Rattle.threads_callers.proofs.Answered.{back_by, one_back, ran_by, shows_by}
use Rattle.threads_calls.proofs.Keys.{may_insert}
use Rattle.threads_callers.proofs.Named.{replaced_there, was_replaced}
use Rattle.threads_calls.proofs.session.SessionBase.insert.Goals as goal

pub stores-ran-requires : goal.stores-ran-requires
stores-ran-requires g c =
    let x = c.args.self.now in record {
      may =
          may_insert g.K.PartialEq.eq g.S.Hashes.hash x.caller.seat.view x.setting c.setting_in-setting.result x.hasher.now c.args.key c.hash_of-hash.result x.slot
          (inserting c.setting_in-setting.result c.hash_of-hash.result c.args.key c.args.value)
          x.caller.lone c.requires.inside x.free x.knows c.setting_in-setting.ensures c.hash_of-hash.ensures c.hash_of-hash.type_inv c.args.value refl;
    }

pub returns-in-Ok-clause-stored : goal.returns-in-Ok-clause-stored
returns-in-Ok-clause-stored g c = (
  c.in-Ok.answer,
  ran_by g.K.PartialEq.eq g.S.Hashes.hash c.args.self.now.caller.seat.view c.stores-ran.new.self.seat.view
      c.in-Ok.is c.stores-ran.ensures.called,
  was_replaced (λ (f : Found). f.word) c.replaced.result c.in-Ok.answer c.replaced.ensures,
)

pub returns-in-Ok-clause-replaced : goal.returns-in-Ok-clause-replaced
returns-in-Ok-clause-replaced g c = (
  c.in-Ok.answer,
  ran_by g.K.PartialEq.eq g.S.Hashes.hash c.args.self.now.caller.seat.view c.stores-ran.new.self.seat.view
      c.in-Ok.is c.stores-ran.ensures.called,
  c.replaced.ensures,
)

pub returns-in-Ok-clause-shown : goal.returns-in-Ok-clause-shown
returns-in-Ok-clause-shown g c =
    let w = c.stores-ran.new.self.seat.view in
    replaced_there (shown_in w.held) (λ (f : Found). f.word) c.in-Ok.answer (shows_by g.K.PartialEq.eq g.S.Hashes.hash c.args.self.now.caller.seat.view w c.in-Ok.is c.stores-ran.ensures.called)
    c.replaced.result c.replaced.ensures

pub returns-in-Err-clause-refused : goal.returns-in-Err-clause-refused
returns-in-Err-clause-refused g c =
    let u = c.args.self.now.caller.seat.view in let w = c.stores-ran.new.self.seat.view in
    subst (λ (fault : Fault). HasRun g.K.PartialEq.eq g.S.Hashes.hash (Insert c.args.key c.args.value) (outcome_of (Err fault)) u w) (sym c.refused.ensures.fault)
    (ran_by g.K.PartialEq.eq g.S.Hashes.hash u w c.in-Err.is c.stores-ran.ensures.called)

pub refused-requires : goal.refused-requires
refused-requires g c = record {
  back = (
    c.args.key,
    c.args.value,
    back_by g.K.PartialEq.eq g.S.Hashes.hash c.args.self.now.caller.seat.view c.stores-ran.new.self.seat.view c.in-Err.is c.stores-ran.ensures.called
        (Pair c.args.key c.args.value) refl,
  );
}

pub returns-in-Err-clause-back : goal.returns-in-Err-clause-back
returns-in-Err-clause-back g c =
    one_back c.stores-ran.result.unstored c.refused.result.key c.args.key c.refused.result.value c.args.value c.refused.ensures.back
    (back_by g.K.PartialEq.eq g.S.Hashes.hash c.args.self.now.caller.seat.view c.stores-ran.new.self.seat.view c.in-Err.is c.stores-ran.ensures.called
    (Pair c.args.key c.args.value) refl)

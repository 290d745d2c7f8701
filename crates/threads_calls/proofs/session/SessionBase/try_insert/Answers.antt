use Rattle.std.specs.Prelude.{Err}
use Rattle.std.proofs.Common.{refl, sym, subst}
use Rattle.papaya_raw.specs.CallPoints.{trying_to_insert}
use Rattle.threads_callers.specs.Given.ActsActs.{TryToInsert}
use Rattle.seize_words.specs.declared.fault.Fault.{Fault}
use Rattle.threads_callers.specs.Given.ErrandsCalling.{outcome_of}
use Rattle.threads_callers.specs.Given.ErrandsLooking.{HasRun}
use Rattle.map_tables.specs.declared.node.Node.TheVariants.{Pair}
use Rattle.threads_callers.specs.Given.ViewsLooks.{shown_in}
use Rattle.threads_callers.proofs.Answered.{back_by, came_back, one_back, ran_by, shows_by}
use Rattle.threads_calls.proofs.Keys.{may_try}
use Rattle.threads_callers.proofs.Named.{there_shown}
use Rattle.threads_calls.proofs.session.SessionBase.try_insert.Goals as goal

pub stores-ran-requires : goal.stores-ran-requires
stores-ran-requires g c =
    let x = c.args.self.now in record {
      may =
          may_try g.K.PartialEq.eq g.S.Hashes.hash x.caller.seat.view x.setting c.setting_in-setting.result x.hasher.now c.args.key c.hash_of-hash.result x.slot
          (trying_to_insert c.setting_in-setting.result c.hash_of-hash.result c.args.key c.args.value)
          x.caller.lone c.requires.inside x.free x.knows c.setting_in-setting.ensures c.hash_of-hash.ensures c.hash_of-hash.type_inv c.args.value refl;
    }

pub returns-in-Ok-clause-tried : goal.returns-in-Ok-clause-tried
returns-in-Ok-clause-tried g c = (
  c.in-Ok.answer,
  ran_by g.K.PartialEq.eq g.S.Hashes.hash c.args.self.now.caller.seat.view c.stores-ran.new.self.seat.view
      c.in-Ok.is c.stores-ran.ensures.called,
  c.came_of.ensures.stored,
)

pub there-requires : goal.there-requires
there-requires g c =
    (back_by g.K.PartialEq.eq g.S.Hashes.hash c.args.self.now.caller.seat.view c.stores-ran.new.self.seat.view c.in-Ok.is c.stores-ran.ensures.called
    (Pair c.args.key c.args.value) refl).1

pub returns-in-Ok-clause-there : goal.returns-in-Ok-clause-there
returns-in-Ok-clause-there g c = (
  c.in-Ok.answer,
  ran_by g.K.PartialEq.eq g.S.Hashes.hash c.args.self.now.caller.seat.view c.stores-ran.new.self.seat.view
      c.in-Ok.is c.stores-ran.ensures.called,
  c.there.ensures,
)

pub returns-in-Ok-clause-shown : goal.returns-in-Ok-clause-shown
returns-in-Ok-clause-shown g c =
    let w = c.stores-ran.new.self.seat.view in
    there_shown (shown_in w.held) c.in-Ok.answer c.there.result.word c.there.ensures
    (shows_by g.K.PartialEq.eq g.S.Hashes.hash c.args.self.now.caller.seat.view w c.in-Ok.is c.stores-ran.ensures.called)

pub came_of-requires : goal.came_of-requires
came_of-requires g c = record {
  back = (
    c.args.key,
    c.args.value,
    back_by g.K.PartialEq.eq g.S.Hashes.hash c.args.self.now.caller.seat.view c.stores-ran.new.self.seat.view c.in-Ok.is c.stores-ran.ensures.called
        (Pair c.args.key c.args.value) refl,
  );
}

pub returns-in-Ok-clause-present : goal.returns-in-Ok-clause-present
returns-in-Ok-clause-present g c =
    came_back c.args.key c.args.value c.came_of.result c.in-Ok.answer c.stores-ran.result.unstored c.came_of.ensures.stored c.came_of.ensures.back
    (back_by g.K.PartialEq.eq g.S.Hashes.hash c.args.self.now.caller.seat.view c.stores-ran.new.self.seat.view c.in-Ok.is c.stores-ran.ensures.called
    (Pair c.args.key c.args.value) refl)

pub returns-in-Err-clause-refused : goal.returns-in-Err-clause-refused
returns-in-Err-clause-refused g c =
    let u = c.args.self.now.caller.seat.view in let w = c.stores-ran.new.self.seat.view in
    subst (λ (fault : Fault). HasRun g.K.PartialEq.eq g.S.Hashes.hash (TryToInsert c.args.key c.args.value) (outcome_of (Err fault)) u w) (sym c.refused.ensures.fault)
    (ran_by g.K.PartialEq.eq g.S.Hashes.hash u w c.in-Err.is c.stores-ran.ensures.called)

pub refused-requires : goal.refused-requires
refused-requires g c = record {
  back = (
    c.args.key,
    c.args.value,
    back_by g.K.PartialEq.eq g.S.Hashes.hash c.args.self.now.caller.seat.view c.stores-ran.new.self.seat.view c.in-Err.is c.stores-ran.ensures.called
        (Pair c.args.key c.args.value) refl,
  );
}

pub returns-in-Err-clause-back : goal.returns-in-Err-clause-back
returns-in-Err-clause-back g c =
    one_back c.stores-ran.result.unstored c.refused.result.key c.args.key c.refused.result.value c.args.value c.refused.ensures.back
    (back_by g.K.PartialEq.eq g.S.Hashes.hash c.args.self.now.caller.seat.view c.stores-ran.new.self.seat.view c.in-Err.is c.stores-ran.ensures.called
    (Pair c.args.key c.args.value) refl)

use Rattle.std.specs.Prelude.{suc, Result}
use Rattle.std.proofs.Common.{inr, refl, sym, subst, ◌∙◌}
use Rattle.seize_words.specs.declared.fault.Fault.{Fault}
use Rattle.map_measures.specs.ByKey.ByKey.{by_key}
use Rattle.papaya_raw.specs.declared.machines.progress.Answer.{Answer}
use Rattle.threads_steps.specs.Asking.{HasAnswered, MayTest, PausedSo, TestSays, removes_if}
use Rattle.threads_rule.specs.Errands.Calling.{wanted_of}
use Rattle.threads_steps.specs.declared.within.asking.Halt.{Halt}
use Rattle.threads_rule.proofs.Errands.Beginnings.{begun_as, stays_on}
use Rattle.threads_steps.proofs.Pausing.{answered, calls_stay_told, ended_on, gone_on, none_said, stays_there_told, them_on}
use Rattle.threads_steps.proofs.within.Within.removes_if.Goals as goal

pub begins_on_as-requires : goal.begins_on_as-requires
begins_on_as-requires g c = let m = c.requires.may.1.may in record { inside = (m.slot, m.inside); knows = (m.map, m.knows, m.only); free = m.free }

pub loop-init : goal.loop-init
loop-init g c =
    let m = c.requires.may in (
      (
        m.0,
        begun_as g.K.PartialEq.eq g.S.Hashes.hash removes_if m.0 c.args.hasher.now (by_key g.Q.Equivalent.stands_for c.args.machine.now) c.args.self.now.seat.now.view c.begins_on_as.new.self.seat.now.view m.1 c.begins_on_as.ensures.begins,
      ),
      record { slot = refl; map = refl },
      refl,
      λ told. refl,
      (0, refl),
    )

pub runs_on_by-requires : goal.runs_on_by-requires
runs_on_by-requires g c = let is = c.loop.invariant.0 in record { calls = (removes_if, is.0, is.1) }

pub says-requires : goal.says-requires
says-requires g c =
    let is = c.loop.invariant.0 in record {
      asks = (
        is.0,
        subst (λ (p : Halt). PausedSo removes_if is.0 c.args.hasher.now (by_key g.Q.Equivalent.stands_for c.runs_on_by.new.machine) p c.loop.self.seat.now.view c.runs_on_by.new.self.seat.now.view) c.in-Asks.is
            (c.runs_on_by.ensures.paused removes_if is.0 is.1),
      );
      callable = c.requires.callable;
    }

pub returns-in-Ended-clause-answered : goal.returns-in-Ended-clause-answered
returns-in-Ended-clause-answered g c =
    let u = c.args.self.now.seat.now.view in let b = c.begins_on_as.new.self.seat.now.view in let v = c.loop.self.seat.now.view in let w = c.runs_on_by.new.self.seat.now.view in
    let is = c.loop.invariant.0 in let says = TestSays (MayTest g.F.Fn c.args.test.now) in
    let ended = subst (λ (p : Halt). PausedSo removes_if is.0 c.args.hasher.now (by_key g.Q.Equivalent.stands_for c.runs_on_by.new.machine) p v w) c.in-Ended.is (c.runs_on_by.ensures.paused removes_if is.0 is.1) in
    let gone = gone_on g.K.PartialEq.eq g.S.Hashes.hash says c.loop.invariant.4.0 c.runs_on_by.ensures.gone.0 b v w c.loop.invariant.4.1
    (none_said g.K.PartialEq.eq g.S.Hashes.hash says c.runs_on_by.ensures.gone.0 v w c.runs_on_by.ensures.gone.1) in
    subst (λ (r : Result Answer Fault). HasAnswered g.K.PartialEq.eq g.S.Hashes.hash says (wanted_of (by_key g.Q.Equivalent.stands_for c.args.machine.now)) r u w) (sym c.ran.ensures.told)
    (answered g.K.PartialEq.eq g.S.Hashes.hash says (wanted_of (by_key g.Q.Equivalent.stands_for c.args.machine.now)) c.in-Ended.told u b w gone.0 c.begins_on_as.ensures.begins (ended_on c.in-Ended.told b v w c.loop.invariant.3 ended)
    (stays_on b v w c.loop.invariant.1 c.runs_on_by.ensures.stays) gone.1)

pub returns-in-Ended-clause-same : goal.returns-in-Ended-clause-same
returns-in-Ended-clause-same g c = c.runs_on_by.ensures.same ∙ c.loop.invariant.2 ∙ c.begins_on_as.ensures.same

pub loop-preserved : goal.loop-preserved
loop-preserved g c =
    let b = c.begins_on_as.new.self.seat.now.view in let v = c.loop.self.seat.now.view in let w = c.runs_on_by.new.self.seat.now.view in let x = c.says.new.self.seat.now.view in
    let is = c.loop.invariant.0 in let says = TestSays (MayTest g.F.Fn c.args.test.now) in
    let asks = subst (λ (p : Halt). PausedSo removes_if is.0 c.args.hasher.now (by_key g.Q.Equivalent.stands_for c.runs_on_by.new.machine) p v w) c.in-Asks.is (c.runs_on_by.ensures.paused removes_if is.0 is.1) in
    let gone = gone_on g.K.PartialEq.eq g.S.Hashes.hash says c.loop.invariant.4.0 c.runs_on_by.ensures.gone.0 b v w c.loop.invariant.4.1
    (none_said g.K.PartialEq.eq g.S.Hashes.hash says c.runs_on_by.ensures.gone.0 v w c.runs_on_by.ensures.gone.1) in (
      (is.0, c.says.ensures.goes is.0 asks),
      stays_on b w x (stays_on b v w c.loop.invariant.1 c.runs_on_by.ensures.stays) (stays_there_told says w x c.says.ensures.told),
      c.says.ensures.same ∙ c.runs_on_by.ensures.same ∙ c.loop.invariant.2,
      them_on b w x (them_on b v w c.loop.invariant.3 c.runs_on_by.ensures.them) (calls_stay_told says w x c.says.ensures.told),
      (suc gone.0, (w, gone.1, inr c.says.ensures.told)),
    )

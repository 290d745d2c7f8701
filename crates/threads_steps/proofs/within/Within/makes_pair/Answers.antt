use Rattle.std.specs.Fn.{FnOnceReturns}
use Rattle.std.specs.Prelude.{Result}
use Rattle.std.proofs.Common.{◌≡◌, refl, sym, subst}
use Rattle.seize_words.specs.declared.fault.Fault.{Fault}
use Rattle.papaya_raw.specs.declared.machines.progress.Answer.{Answer}
use Rattle.threads_steps.specs.Asking.{HasAnswered, MakingSays, PausedSo, makes_pair}
use Rattle.threads_rule.specs.Errands.Calling.{wanted_of}
use Rattle.threads_steps.specs.declared.within.asking.Halt.{Halt}
use Rattle.threads_rule.proofs.Errands.Beginnings.{begun_as, stays_on}
use Rattle.threads_steps.proofs.Pausing.{answered, ended_on, gone_as, gone_on, made_so, none_said}
use Rattle.threads_steps.proofs.within.Within.makes_pair.Goals as goal

pub begins-requires : goal.begins-requires
begins-requires g c = let m = c.requires.may.2.may in record { inside = (m.slot, m.inside); knows = (m.map, m.knows, m.only); free = m.free }

pub runs_on-requires : goal.runs_on-requires
runs_on-requires g c =
    let m = c.requires.may in record {
      calls = (
        makes_pair,
        m.0,
        begun_as g.K.PartialEq.eq g.S.Hashes.hash makes_pair m.0 c.args.hasher.now c.args.machine.now c.args.self.now.seat.now.view c.begins.new.self.seat.now.view m.2 c.begins.ensures.begins,
      );
    }

pub returns-in-Ended-clause-answered : goal.returns-in-Ended-clause-answered
returns-in-Ended-clause-answered g c =
    let m = c.requires.may in let u = c.args.self.now.seat.now.view in let v = c.begins.new.self.seat.now.view in let w = c.runs_on.new.self.seat.now.view in
    let says = MakingSays {K = g.row.K.Denot} (FnOnceReturns g.F.FnOnce c.args.make tt) in
    let under = begun_as g.K.PartialEq.eq g.S.Hashes.hash makes_pair m.0 c.args.hasher.now c.args.machine.now u v m.2 c.begins.ensures.begins in
    let ended = subst (λ (p : Halt). PausedSo makes_pair m.0 c.args.hasher.now c.runs_on.new.machine p v w) c.in-Ended.is (c.runs_on.ensures.paused makes_pair m.0 under) in
    subst (λ (r : Result Answer Fault). HasAnswered g.K.PartialEq.eq g.S.Hashes.hash says (wanted_of c.args.machine.now) r u w) (sym c.ran.ensures.told)
    (answered g.K.PartialEq.eq g.S.Hashes.hash says (wanted_of c.args.machine.now) c.in-Ended.told u v w c.runs_on.ensures.gone.0 c.begins.ensures.begins ended c.runs_on.ensures.stays
    (none_said g.K.PartialEq.eq g.S.Hashes.hash says c.runs_on.ensures.gone.0 v w c.runs_on.ensures.gone.1))

pub stores_made-requires : goal.stores_made-requires
stores_made-requires g c =
    let m = c.requires.may in let u = c.args.self.now.seat.now.view in let v = c.begins.new.self.seat.now.view in let w = c.runs_on.new.self.seat.now.view in
    let under = begun_as g.K.PartialEq.eq g.S.Hashes.hash makes_pair m.0 c.args.hasher.now c.args.machine.now u v m.2 c.begins.ensures.begins in record {
      asks = (
        m.0,
        m.1,
        subst (λ (p : Halt). PausedSo makes_pair m.0 c.args.hasher.now c.runs_on.new.machine p v w) c.in-Asks.is (c.runs_on.ensures.paused makes_pair m.0 under),
      );
    }

pub returns-in-Asks-clause-answered : goal.returns-in-Asks-clause-answered
returns-in-Asks-clause-answered g c =
    let u = c.args.self.now.seat.now.view in let v = c.begins.new.self.seat.now.view in let w = c.runs_on.new.self.seat.now.view in let x = c.stores_made.new.self.seat.now.view in
    let says = MakingSays {K = g.row.K.Denot} (FnOnceReturns g.F.FnOnce c.args.make tt) in
    let first = none_said g.K.PartialEq.eq g.S.Hashes.hash says c.runs_on.ensures.gone.0 v w c.runs_on.ensures.gone.1 in
    let then_made = gone_as g.K.PartialEq.eq g.S.Hashes.hash (MakingSays {K = g.row.K.Denot} (λ (made : g.row.V.Denot). made ≡ c.make-value.result)) says
    (made_so (FnOnceReturns g.F.FnOnce c.args.make tt) c.make-value.result c.make-value.ensures) c.stores_made.ensures.gone.0 w x c.stores_made.ensures.gone.1 in
    let gone = gone_on g.K.PartialEq.eq g.S.Hashes.hash says c.runs_on.ensures.gone.0 c.stores_made.ensures.gone.0 v w x first then_made in
    answered g.K.PartialEq.eq g.S.Hashes.hash says (wanted_of c.args.machine.now) c.stores_made.result.told u v x gone.0 c.begins.ensures.begins
    (ended_on c.stores_made.result.told v w x c.runs_on.ensures.them c.stores_made.ensures.ended) (stays_on v w x c.runs_on.ensures.stays c.stores_made.ensures.stays) gone.1

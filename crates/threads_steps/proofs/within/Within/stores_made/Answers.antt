use Rattle.std.specs.Prelude.{ℕ, Option, None, Result}
use Rattle.std.proofs.Common.{◌≡◌, inr, refl, sym, subst, ◌∙◌}
use Rattle.seize_words.specs.declared.fault.Fault.{Fault}
use Rattle.papaya_raw.specs.declared.machines.asking.MachineReply.TheVariants.{Insert}
use Rattle.papaya_raw.specs.declared.machines.progress.Answer.{Answer}
use Rattle.threads_steps.specs.Asking.{MakingSays, PausedSo, makes_pair}
use Rattle.threads_rule.specs.Errands.Calling.{HasEnded, IsAsking, outcome_of}
use Rattle.threads_kinds.specs.CallKinds.Kinds.{stage_after}
use Rattle.threads_steps.specs.declared.within.asking.Halt.{Halt}
use Rattle.threads_rule.proofs.Errands.Beginnings.{stays_on}
use Rattle.threads_steps.proofs.Pausing.{asks_missing, asks_no_more, calls_told, gone_on, gone_once, none_said, stays_told}
use Rattle.threads_steps.proofs.Told.{asks_none}
use Rattle.threads_steps.proofs.within.Within.stores_made.Goals as goal

pub tells-requires : goal.tells-requires
tells-requires g c = let is = c.requires.asks in record { asks = (makes_pair, is.0, is.2, (tt, is.1)) }

pub runs_on-pause-requires : goal.runs_on-pause-requires
runs_on-pause-requires g c =
    let is = c.requires.asks in record { calls = (makes_pair, stage_after is.0 c.args.pair (Insert c.args.value), c.tells.ensures.goes makes_pair is.0 is.2 (tt, is.1)) }

pub outcome-told-requires : goal.outcome-told-requires
outcome-told-requires g c =
    let is = c.requires.asks in
    let none = asks_missing is.0 c.args.hasher.now c.args.self.now.seat.now.view c.args.pair c.args.machine.now is.2 in
    let paused = c.runs_on-pause.ensures.paused makes_pair (stage_after is.0 c.args.pair (Insert c.args.value)) (c.tells.ensures.goes makes_pair is.0 is.2 (tt, is.1)) in
    record {
      ended =
          asks_no_more is.0 c.args.hasher.now c.runs_on-pause.new.machine c.args.value c.args.self.now.seat.now.view c.tells.new.self.seat.now.view c.runs_on-pause.new.self.seat.now.view c.runs_on-pause.result
          (subst (λ (o : Option ℕ). PausedSo makes_pair (stage_after is.0 o (Insert c.args.value)) c.args.hasher.now c.runs_on-pause.new.machine c.runs_on-pause.result c.tells.new.self.seat.now.view c.runs_on-pause.new.self.seat.now.view)
          none paused);
    }

pub returns-clause-ended : goal.returns-clause-ended
returns-clause-ended g c =
    let is = c.requires.asks in let v = c.args.self.now.seat.now.view in let u = c.tells.new.self.seat.now.view in let w = c.runs_on-pause.new.self.seat.now.view in
    let paused = c.runs_on-pause.ensures.paused makes_pair (stage_after is.0 c.args.pair (Insert c.args.value)) (c.tells.ensures.goes makes_pair is.0 is.2 (tt, is.1)) in
    let ended : HasEnded c.outcome-told.result u w =
    subst (λ (p : Halt). PausedSo makes_pair (stage_after is.0 c.args.pair (Insert c.args.value)) c.args.hasher.now c.runs_on-pause.new.machine p u w) c.outcome-told.ensures paused in
    subst (λ (r : Result Answer Fault). HasEnded r v w) (sym c.ran.ensures.told)
    (record { free = ended.free; told = ended.told ∙ calls_told c.args.machine.now (Insert c.args.value) v u c.tells.ensures.told (outcome_of c.outcome-told.result); shows = ended.shows })

pub returns-clause-gone : goal.returns-clause-gone
returns-clause-gone g c =
    let is = c.requires.asks in let v = c.args.self.now.seat.now.view in let u = c.tells.new.self.seat.now.view in let w = c.runs_on-pause.new.self.seat.now.view in
    let says = MakingSays {K = g.row.K.Denot} (λ (made : g.row.V.Denot). made ≡ c.args.value) in
    let none = subst (λ (o : Option ℕ). IsAsking makes_pair is.0 c.args.hasher.now o c.args.machine.now v) (asks_missing is.0 c.args.hasher.now v c.args.pair c.args.machine.now is.2) is.2 in
    gone_on g.K.PartialEq.eq g.S.Hashes.hash says 1 c.runs_on-pause.ensures.gone.0 v u w
    (gone_once g.K.PartialEq.eq g.S.Hashes.hash says v u
    (inr (c.args.machine.now, None, Insert c.args.value, is.2.at.works, asks_none makes_pair is.0 c.args.hasher.now v c.args.machine.now none, refl, c.tells.ensures.told)))
    (none_said g.K.PartialEq.eq g.S.Hashes.hash says c.runs_on-pause.ensures.gone.0 u w c.runs_on-pause.ensures.gone.1)

pub returns-clause-stays : goal.returns-clause-stays
returns-clause-stays g c =
    let v = c.args.self.now.seat.now.view in let u = c.tells.new.self.seat.now.view in let w = c.runs_on-pause.new.self.seat.now.view in
    stays_on v u w (stays_told c.args.machine.now (Insert c.args.value) v u c.tells.ensures.told) c.runs_on-pause.ensures.stays

use Rattle.std.specs.Prelude.{Ok}
use Rattle.std.proofs.Common.{◌∙◌, ap, inr, refl, sym}
use Rattle.std.proofs.lemmas.Result.{IfOk-weaker}
use Rattle.papaya_json.proofs.sets.set_of.Goals as goal

pub returns-in-Ok-clause-filled : goal.returns-in-Ok-clause-filled
returns-in-Ok-clause-filled g c = c.filled.ensures.filled

pub returns-in-Ok-clause-number : goal.returns-in-Ok-clause-number
returns-in-Ok-clause-number g c = IfOk-weaker c.filled.result _ _ (λ it is. c.in-Ok.ensures.number ∙ ap (λ m. Ok m.map.collector.number) (sym is)) c.filled.ensures.same

pub returns-in-Ok-clause-hasher : goal.returns-in-Ok-clause-hasher
returns-in-Ok-clause-hasher g c = IfOk-weaker c.filled.result _ _ (λ it is. ap (λ m. m.map.hasher) is ∙ c.in-Ok.ensures.hasher) c.filled.ensures.same

pub returns-in-Ok-clause-mode : goal.returns-in-Ok-clause-mode
returns-in-Ok-clause-mode g c = IfOk-weaker c.filled.result _ _ (λ it is. ap (λ m. m.map.setting.mode) is ∙ c.in-Ok.ensures.mode) c.filled.ensures.same

pub returns-in-Ok-clause-fault : goal.returns-in-Ok-clause-fault
returns-in-Ok-clause-fault g c = c.filled.ensures.fault

pub returns-in-Err-clause-fault : goal.returns-in-Err-clause-fault
returns-in-Err-clause-fault g c = inr (c.in-Err.fault, refl)

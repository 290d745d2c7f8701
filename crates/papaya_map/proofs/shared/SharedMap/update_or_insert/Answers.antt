use Rattle.std.proofs.Common.{sym, ◌∙◌}
use Rattle.std.proofs.lemmas.Result.{IfOk-weaker}
use Rattle.papaya_map.proofs.shared.SharedMap.update_or_insert.Goals as goal

pub returns-clause-own : goal.returns-clause-own
returns-clause-own g c = IfOk-weaker c.update_or_insert.result _ _ (λ _ _. sym c.number.ensures ∙ c.if-number-self.false) c.update_or_insert.ensures.updated

pub returns-clause-foreign : goal.returns-clause-foreign
returns-clause-foreign g c = λ other. absurd (other (sym c.number.ensures ∙ c.if-number-self.false))

pub returns-clause-stopped : goal.returns-clause-stopped
returns-clause-stopped g c = λ own. c.update_or_insert.ensures.stopped

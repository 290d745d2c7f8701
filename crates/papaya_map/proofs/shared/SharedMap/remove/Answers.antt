use Rattle.std.proofs.Common.{sym, ◌∙◌}
use Rattle.std.proofs.lemmas.Result.{IfOk-weaker}
use Rattle.papaya_map.proofs.shared.SharedMap.remove.Goals as goal

pub returns-clause-own : goal.returns-clause-own
returns-clause-own g c = IfOk-weaker c.take.result _ _ (λ _ _. sym c.number.ensures ∙ c.if-number-self.false) c.take.ensures.removed

pub returns-clause-foreign : goal.returns-clause-foreign
returns-clause-foreign g c = λ other. absurd (other (sym c.number.ensures ∙ c.if-number-self.false))

pub returns-clause-refused : goal.returns-clause-refused
returns-clause-refused g c = λ own. c.take.ensures.refused

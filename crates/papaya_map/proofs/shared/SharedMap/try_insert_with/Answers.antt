use Rattle.std.proofs.Common.{sym, ◌∙◌}
use Rattle.std.proofs.lemmas.Result.{IfOk-weaker}
use Rattle.papaya_map.proofs.shared.SharedMap.try_insert_with.Goals as goal

pub returns-clause-own : goal.returns-clause-own
returns-clause-own g c = IfOk-weaker c.try_insert_with.result _ _ (λ _ _. sym c.number.ensures ∙ c.if-number-self.false) c.try_insert_with.ensures.tried

pub returns-clause-foreign : goal.returns-clause-foreign
returns-clause-foreign g c = λ other. absurd (other (sym c.number.ensures ∙ c.if-number-self.false))

pub returns-clause-refused : goal.returns-clause-refused
returns-clause-refused g c = λ own. c.try_insert_with.ensures.refused

pub returns-clause-asked : goal.returns-clause-asked
returns-clause-asked g c = λ own. c.try_insert_with.ensures.asked

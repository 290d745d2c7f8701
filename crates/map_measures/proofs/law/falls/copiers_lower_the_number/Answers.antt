-- Each step of a copier.
use Rattle.map_measures.proofs.Falls.Laws.{copiers_fall, blocking_copiers_fall, late_copiers_fall}
use Rattle.map_measures.proofs.law.falls.copiers_lower_the_number.Goals as goal

pub returns : goal.returns
returns c d = record { incremental = copiers_fall _; blocking = blocking_copiers_fall _; late = late_copiers_fall _ }

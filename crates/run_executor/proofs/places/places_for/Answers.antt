-- A map begins with none, or with a power of two.
use Rattle.run_executor.proofs.Named.FirstLens.{power_is_first, none_is_first}
use Rattle.run_executor.proofs.places.places_for.Goals as goal

pub returns-then-capacity-eq0-clause-first : goal.returns-then-capacity-eq0-clause-first
returns-then-capacity-eq0-clause-first c = none_is_first

pub returns-else-capacity-eq0-clause-first : goal.returns-else-capacity-eq0-clause-first
returns-else-capacity-eq0-clause-first c = let e = c.in_ok-entries.ensures.in_words in power_is_first c.in_ok-entries.entries e.0.0 e.1

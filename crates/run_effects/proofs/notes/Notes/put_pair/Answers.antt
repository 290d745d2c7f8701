-- A pair that is stored has its number, and is counted.
use Rattle.std.proofs.Common.{ap, ◌+◌}
use Rattle.run_effects.specs.Effects.Known.{Known}
use Rattle.run_effects.proofs.notes.Notes.put_pair.Goals as goal

abbrev one_more : Known → Known
one_more known = record known { stored = known.stored + 1 }

pub returns-clause-ok : goal.returns-clause-ok
returns-clause-ok c = ap one_more c.in_ok-put.ensures.ok

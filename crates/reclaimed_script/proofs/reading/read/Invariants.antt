use Rattle.std.proofs.Common.{◌<◌}
use Rattle.reclaimed_script.proofs.ReadingLemmas.{ReadTo}
use Rattle.reclaimed_script.proofs.reading.read.Given as goal

abbrev pub invariant-loop : goal.invariant-loop
invariant-loop g l = record { idle_few : l.idle < 1000000; reads : ReadTo (g.R.Read.remaining l.initial.input) (g.R.Read.remaining l.input) l.parser }

-- Where a call has answered, it has counted what its answer tells.
use Rattle.std.specs.Prelude.{◌≡◌}
use Rattle.std.proofs.Common.{ap, sym}
use Rattle.papaya_raw.specs.declared.machines.answer.KeyAnswer.{KeyAnswer}
use Rattle.papaya_raw.specs.declared.machines.asking.Asking.TheVariants as asking
use Rattle.papaya_raw.specs.declared.machines.call.Calling.{Calling}
use Rattle.papaya_raw.specs.declared.machines.call.Calling.TheVariants as at
use Rattle.owner_facts.specs.Given.PointsTold.{HasAnswered}
use Rattle.owner_facts.specs.Alone.Counted.{counted_for, counted_end, counted_at}

pub answered_counted : (answer : KeyAnswer) (stands : Calling) → HasAnswered answer stands → counted_at stands ≡ counted_for answer
answered_counted answer (at.Drops end) a = ap counted_end a
answered_counted answer (at.Over end) a = ap counted_end a
answered_counted answer at.Makes a = absurd a
answered_counted answer (at.Looks lookup) a = absurd a
answered_counted answer at.Roots a = absurd a
answered_counted answer at.Probes a = absurd a
answered_counted answer (at.Tries word new) a = absurd a
answered_counted answer (at.Counts removed) a = absurd a
answered_counted answer at.Nexts a = absurd a
answered_counted answer (at.Firsts making) a = absurd a
answered_counted answer (at.Allocs making) a = absurd a
answered_counted answer (at.Helps copier goal) a = absurd a
answered_counted answer (at.Copies copier) a = absurd a
answered_counted answer (at.Asks (asking.Absent gap)) a = ap counted_for (sym a)
answered_counted answer (at.Asks (asking.Present word)) a = ap counted_for (sym a)
answered_counted answer (at.Asks (asking.Fills word)) a = absurd a
answered_counted answer (at.Asks (asking.GivesUp word)) a = absurd a
answered_counted answer (at.Disposes dispose end) a = absurd a

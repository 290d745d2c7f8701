use Rattle.std.proofs.Common.{refl, sym, ◌∙◌}
use Rattle.threads_callers.proofs.Passing.{back_rests}
use Rattle.threads_callers.proofs.caller.pass.sends.Goals as goal

pub errand_with-requires-clause-own : goal.errand_with-requires-clause-own
errand_with-requires-clause-own g c = c.requires.own

pub errand_with-requires-clause-home : goal.errand_with-requires-clause-home
errand_with-requires-clause-home g c = c.requires.home

pub errand_with-requires-clause-asks : goal.errand_with-requires-clause-asks
errand_with-requires-clause-asks g c = (
  sym c.requires.own.0,
  refl,
  c.requires.own.1 ∙ sym c.requires.own.0,
  refl,
  c.requires.lone,
  c.requires.map,
  c.requires.may,
  c.requires.back,
)

pub errand_with-requires-clause-ends : goal.errand_with-requires-clause-ends
errand_with-requires-clause-ends g c = λ answer w did. back_rests w did.0

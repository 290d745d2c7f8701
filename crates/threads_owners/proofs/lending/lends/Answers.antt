use Rattle.std.proofs.Common.{refl, sym, ◌∙◌}
use Rattle.seize_callers.proofs.Keeping.{none_away}
use Rattle.threads_callers.proofs.Passing.{back_rests}
use Rattle.threads_owners.proofs.lending.lends.Goals as goal

pub errand_with_two-requires-clause-own : goal.errand_with_two-requires-clause-own
errand_with_two-requires-clause-own g c = (c.requires.own, c.args.guard.now.own, c.requires.one)

pub errand_with_two-requires-clause-home : goal.errand_with_two-requires-clause-home
errand_with_two-requires-clause-home g c = none_away c.args.pass.now.seat.away c.args.pass.now.home

pub errand_with_two-requires-clause-asks : goal.errand_with_two-requires-clause-asks
errand_with_two-requires-clause-asks g c = record {
  memory = sym c.requires.own;
  one = c.requires.one ∙ sym c.requires.own;
  guards = refl;
  owns = refl;
  back = c.args.pass.now.back;
  may = c.requires.may;
  ends = c.requires.ends;
}

pub errand_with_two-requires-clause-ends : goal.errand_with_two-requires-clause-ends
errand_with_two-requires-clause-ends g c = λ answer w did. back_rests w did.0

pub returns-clause-lent : goal.returns-clause-lent
returns-clause-lent g c = c.errand_with_two.ensures.did.1

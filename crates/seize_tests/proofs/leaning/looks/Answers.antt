use Rattle.std.proofs.Common.{refl, sym, subst, ◌∙◌}
use Rattle.seize_tests.specs.BlocksTests.Leaned.{IsUpright}
use Rattle.seize_tests.proofs.BlocksTests.Leaners.{comes}
use Rattle.seize_tests.proofs.leaning.looks.Goals as goal

pub seat-seat-requires : goal.seat-seat-requires
seat-seat-requires c = comes

pub errand_with-requires-clause-asks : goal.errand_with-requires-clause-asks
errand_with-requires-clause-asks c = (c.requires.0 ∙ sym c.seat-seat.ensures.0, refl, c.requires.1, c.seat-seat.ensures.1)

pub errand_with-requires-clause-ends : goal.errand_with-requires-clause-ends
errand_with-requires-clause-ends c = λ answer w did. subst IsUpright (sym did.1) tt

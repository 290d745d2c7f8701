use Rattle.std.specs.Prelude.{◌≡◌}
use Rattle.std.proofs.Common.{sym, subst}
use Rattle.seize_words.specs.OneMemory.Op.{Store}
use Rattle.seize_words.specs.declared.at.At.TheVariants.{Root}
use Rattle.seize_seats.specs.Seats.State.{Allows}
use Rattle.seize_seats.specs.Seats.Errands.{TurnsUnlent}
use Rattle.seize_tests.specs.declared.part.Part.{Part}
use Rattle.seize_tests.specs.declared.part.Part.TheVariants.{Clears}
use Rattle.seize_tests.specs.BlocksTests.Leaned.{IsUpright, Leans, IsLeaned, leaned}
use Rattle.seize_tests.proofs.BlocksTests.Leaners.{NoneKept, clears, stores}
use Rattle.seize_tests.proofs.leaning.clears.Goals as goal

pub part-requires-clause-may : goal.part-requires-clause-may
part-requires-clause-may c =
    let s = c.args.keeper.now in
    subst (λ (v : Part). TurnsUnlent IsLeaned NoneKept Leans s.id v (λ w. w ≡ Clears)) (sym c.requires.1) (clears s.id)

pub part-requires-clause-errand : goal.part-requires-clause-errand
part-requires-clause-errand c = λ home rests w told. subst IsUpright (sym told) tt

pub part-requires-clause-leans : goal.part-requires-clause-leans
part-requires-clause-leans c = λ w told n leans. absurd (subst (λ (x : Part). Leans x n) told leans)

pub store-requires-clause-may : goal.store-requires-clause-may
store-requires-clause-may c =
    let s = c.part.new.seat in
    subst (λ (v : Part). Allows IsLeaned NoneKept s.id v (Store (Root 0) 0) (leaned v (Store (Root 0) 0))) (sym c.part.ensures.goes) (stores s.id)

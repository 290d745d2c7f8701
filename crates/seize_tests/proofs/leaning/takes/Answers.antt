use Rattle.std.proofs.Common.{sym, subst}
use Rattle.seize_words.specs.OneMemory.Op.{Exchange}
use Rattle.seize_words.specs.declared.at.At.TheVariants.{Root}
use Rattle.seize_seats.specs.Seats.State.{Allows}
use Rattle.seize_tests.specs.declared.part.Part.{Part}
use Rattle.seize_tests.specs.BlocksTests.Leaned.{IsLeaned, leaned}
use Rattle.seize_tests.proofs.BlocksTests.Leaners.{NoneKept, takes}
use Rattle.seize_tests.proofs.leaning.takes.Goals as goal

pub exchange-requires-clause-may : goal.exchange-requires-clause-may
exchange-requires-clause-may c =
    let s = c.args.keeper.now in
    subst (λ (v : Part). Allows IsLeaned NoneKept s.id v (Exchange (Root 0) 0 1) (leaned v (Exchange (Root 0) 0 1))) (sym c.requires.1) (takes s.id)

use Rattle.seize_tests.proofs.BlocksTests.Threes.{meets}
use Rattle.seize_tests.proofs.adding.pair.Goals as goal

pub meet-requires-clause-may : goal.meet-requires-clause-may
meet-requires-clause-may g c = meets c.args.one.now.id c.args.one.now.view c.seat-other.result.id c.seat-other.result.view

pub meet-requires-clause-leans : goal.meet-requires-clause-leans
meet-requires-clause-leans g c = λ v u told. (λ n none. absurd none, λ n none. absurd none)

use Rattle.seize_tests.proofs.BlocksTests.Threes.{makes, comes, meets}
use Rattle.seize_tests.proofs.adding.no_addition_to_a_word_of_a_block_is_lost.Goals as goal

pub make-made-requires-clause-may : goal.make-made-requires-clause-may
make-made-requires-clause-may g c = makes c.seat-first.result.id 7 c.seat-first.result.view

pub seat-second-requires : goal.seat-second-requires
seat-second-requires g c = comes

pub seat-last-requires : goal.seat-last-requires
seat-last-requires g c = comes

pub meet-requires-clause-may : goal.meet-requires-clause-may
meet-requires-clause-may g c = let s = c.make-made.new.seat in meets s.id s.view c.seat-second.result.id c.seat-second.result.view

pub meet-requires-clause-leans : goal.meet-requires-clause-leans
meet-requires-clause-leans g c = λ v u told. (λ n none. absurd none, λ n none. absurd none)

pub meet-requires-in-Ok-clause-may : goal.meet-requires-in-Ok-clause-may
meet-requires-in-Ok-clause-may g c = let s = c.meet.new.one in meets s.id s.view c.seat-last.result.id c.seat-last.result.view

pub meet-requires-in-Ok-clause-leans : goal.meet-requires-in-Ok-clause-leans
meet-requires-in-Ok-clause-leans g c = λ v u told. (λ n none. absurd none, λ n none. absurd none)

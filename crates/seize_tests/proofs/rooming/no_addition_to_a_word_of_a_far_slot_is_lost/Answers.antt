use Rattle.seize_tests.proofs.BlocksTests.Roomy.{comes}
use Rattle.seize_tests.proofs.rooming.no_addition_to_a_word_of_a_far_slot_is_lost.Goals as goal

pub seat-last-requires : goal.seat-last-requires
seat-last-requires g c = comes

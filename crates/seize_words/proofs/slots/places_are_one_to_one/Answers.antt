use Rattle.seize_words.proofs.OneMemory.Places.Buckets.{has_one_place}
use Rattle.seize_words.proofs.slots.places_are_one_to_one.Goals as goal

pub returns-clause-one_place : goal.returns-clause-one_place
returns-clause-one_place c = has_one_place

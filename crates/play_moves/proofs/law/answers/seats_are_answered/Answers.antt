-- What a seat knows of a call that has ended is so in the history.
use Rattle.play_moves.proofs.OneHistory.Answered.{calls_are_in_order, lookups_were_so, seats_are_answered}
use Rattle.play_moves.proofs.law.answers.seats_are_answered.Goals as goal

pub returns : goal.returns
returns c d = record { answered = λ same hash. seats_are_answered _ same hash; lookups = λ same hash. lookups_were_so _ same hash; order = λ same hash. calls_are_in_order _ same hash }

-- Lists of acts come to where they have led as they are played.
use Rattle.play_lists.proofs.Played.All.{lists_are_played}
use Rattle.play_lists.proofs.law.played.lists_are_played.Goals as goal

pub returns : goal.returns
returns c d = record { played = lists_are_played _ }

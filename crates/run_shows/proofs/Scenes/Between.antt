-- What a step of the end of a map does is none of a row.
use Rattle.std.specs.Prelude.{ℕ}
use Rattle.seize_acts.proofs.Given.SeizeAloneHistories.UsersTurn.{AreBetween}
use Rattle.many_maps.specs.FactsEnds.{Deed, Looks, TakesPair, LeavesTable, JoinsPair, TakesLeft, TakesCounter, WritesRoot, events_of}

pub deed_between : (T : Type 0) (i : ℕ) (deed : Deed) → AreBetween {T = T} (events_of i deed)
deed_between T i Looks = tt
deed_between T i (TakesPair b) = (tt, (tt, (tt, tt)))
deed_between T i (LeavesTable b further) = (tt, (tt, tt))
deed_between T i (JoinsPair b word) = (tt, tt)
deed_between T i (TakesLeft b) = (tt, tt)
deed_between T i (TakesCounter b) = (tt, tt)
deed_between T i (WritesRoot at word) = (tt, tt)

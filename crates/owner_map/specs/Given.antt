-- The words of the crates below in which the calls of a map speak, given on to who speaks of maps.
pub use Rattle.seize_words.specs.declared.refused.RefusedKey.{RefusedKey}
pub use Rattle.owner_rests.specs.Given.{Balanced, HoldsOn, IsLife, found_by, left_by, AreTooMany, IsUnmade, AnswersByTest, AskedAlong, KeepsOf}
pub use Rattle.owner_asks.specs.Given.LateFaults.{IsRoom}
pub use Rattle.map_straight.specs.Given.ReservesReserve.{needed}
pub use Rattle.owner_asks.specs.Given.OwnedRooms.{NeedTooMany, tables_for}
pub use Rattle.map_straight.specs.Shown.Chain.{CannotGrow, FirstHas}
pub use Rattle.owner_asks.specs.Pairs.Each.{found_is_so, left_are_so, ordered_are_so, put_are_so, puts_are_so, value_is_so}
pub use Rattle.owner_asks.specs.Pairs.Elements.{left_in}
pub use Rattle.owner_asks.specs.Pairs.Equals.{agree, agree_from_each, agree_itself, agree_through, agree_turned, with_no_values}
pub use Rattle.owner_rests.specs.ShowsPairs.Stored.{ClonesAreEqual}
pub use Rattle.owner_asks.specs.Pairs.Puts.{ClonesAreSame, Gave, IsCloneOf, last_put, last_taken, put, put_all}
pub use Rattle.owner_rests.specs.Rests.Held.{if_stored, if_tried, stored_computing, stored_in}
pub use Rattle.owner_rests.specs.ShowsPairs.Maps as SeqShowsMaps
pub use Rattle.owner_rests.specs.ShowsPairs.Stored as SeqShowsStored

-- The words of the crates below in which a map for one owner speaks of its memory, given on to it.
pub use Rattle.owner_calls.specs.Holds.Held.{Balanced, HoldsOn, IsLife, held_in}
pub use Rattle.owner_calls.specs.Owned.Owned.{Holds, found_by, hashed_by, left_by}
pub use Rattle.owner_calls.specs.Owned.Rooms.{AreTooMany, IsUnmade}
pub use Rattle.owner_calls.specs.Sifts.Retaining.{AnswersByTest, AskedAlong, KeepsOf}
pub use Rattle.owner_calls.specs.Given.WholeContents.{HasOneEach, pair_for}
pub use Rattle.owner_asks.specs.Steady.Steady.{HasOneTable}

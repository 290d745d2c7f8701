-- The words of the crates below, given on to the crates above: these list this crate in place of those.
pub use Rattle.owner_calls.specs.Given.LateFaults
pub use Rattle.owner_calls.specs.Owned.Rooms as OwnedRooms

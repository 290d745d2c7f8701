-- The words of the crates below, given on to the crates above: these list this crate in place of those.
pub use Rattle.seize_seats.specs.Seats.Lendings as SeizeSeatsLendings
pub use Rattle.seize_seats.specs.Seats.State as SeizeSeatsState

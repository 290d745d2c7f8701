-- The words of the crates below, given on to the crates above: these list this crate in place of those.
pub use Rattle.seize_moves.specs.Given.SeizeLaw
pub use Rattle.seize_moves.specs.Given.SeizeSequence
pub use Rattle.seize_moves.specs.Given.SeizeWorld
pub use Rattle.seize_moves.specs.Waiting.Changes as SeizeWaitingChanges
pub use Rattle.seize_moves.specs.Waiting.Handed as SeizeWaitingHanded
pub use Rattle.seize_moves.specs.Waiting.Held as SeizeWaitingHeld

-- The words of the crates below, given on to the crates above: these list this crate in place of those.
pub use Rattle.seize.specs.ReclaimAll as SeizeReclaimAll
pub use Rattle.seize.specs.World as SeizeWorld
pub use Rattle.seize.specs.declared as SeizeDeclared
pub use Rattle.seize_model.specs.Alone.Alone as SeizeAloneAlone
pub use Rattle.seize_model.specs.Ends.Holders as SeizeEndsHolders
pub use Rattle.seize_model.specs.Given.SeizeWaitingHeld
pub use Rattle.seize_model.specs.Sets.Reclaims as SeizeSetsReclaims

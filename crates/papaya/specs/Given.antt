-- The words of the crates below, given on to the crates above: these list this crate in place of those.
pub use Rattle.papaya_map.specs.Given.CallersDeclared
pub use Rattle.papaya_map.specs.Given.Onlookers
pub use Rattle.papaya_map.specs.Given.OwnedOwned
pub use Rattle.papaya_map.specs.Given.SessionsExtended
pub use Rattle.papaya_map.specs.Given.SessionsKept
pub use Rattle.papaya_map.specs.Given.SessionsOneMap
pub use Rattle.papaya_map.specs.Given.Swept

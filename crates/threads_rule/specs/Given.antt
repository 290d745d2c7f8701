-- The words of the crates below, given on to the crates above: these list this crate in place of those.
pub use Rattle.many_acts.specs.Acts.Acts as ActsActs
pub use Rattle.many_acts.specs.Lefts as ActsLefts
pub use Rattle.map_machines.specs.NewMap as ResizeNewMap
pub use Rattle.map_machines.specs.declared as ResizeDeclared
pub use Rattle.map_straight.specs.Given.RuleChart
pub use Rattle.seize_seats.specs.Seats.State as SeizeSeatsState
pub use Rattle.seize_views.specs.declared as SeizeViewsDeclared

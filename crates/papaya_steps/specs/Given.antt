-- The words of the crates below, given on to the crates above: these list this crate in place of those.
pub use Rattle.play_events.specs.Given.SchedulerPlayed

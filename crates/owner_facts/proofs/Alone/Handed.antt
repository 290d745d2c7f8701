-- What a call hands to the collector, by its own steps.
pub mod RootTurns
pub mod Fresh

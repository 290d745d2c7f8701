-- What the rule and the history refuse.
mod SampleHistory
pub mod SampleResizes

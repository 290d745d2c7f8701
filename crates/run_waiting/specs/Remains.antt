-- What ended maps have left over: it is behind the roots that a moment of a run says, while others go on.
pub mod Remains
pub mod Steps
pub mod Numbered
pub mod Slots

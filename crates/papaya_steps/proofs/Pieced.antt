-- The events of a run are pieces of the history of a list of acts: by each event the list goes on, and the log with it is the grouping of its history.
pub mod Quiet
pub mod CallsOn
pub mod StepCall
pub mod StepsCall
pub mod Taken
pub mod Replied
pub mod Stopped
pub mod Chosen
pub mod Begun
pub mod Walked
mod Chains
pub mod Ended
pub mod RowKinds
pub mod Rowed
pub mod Made
pub mod AllDone
pub mod First
pub mod Last

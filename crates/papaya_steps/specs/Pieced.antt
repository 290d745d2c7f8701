-- The events of a run are pieces of the history of a list of acts: by each event the list goes on, and the log with it is the grouping of its history.
pub mod SoFar
pub mod RowFor

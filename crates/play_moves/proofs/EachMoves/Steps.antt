-- By each kind of step the entries that are steps of calls find what they must.
pub mod TablesLast

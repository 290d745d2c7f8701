-- What makings of tables know as they begin, also where the length is one that no table has.
pub mod FirstBegins
pub mod TablesNeeded

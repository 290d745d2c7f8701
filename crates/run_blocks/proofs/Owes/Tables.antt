-- The table that a call has made.
pub mod Roles
pub mod Effects
pub mod Makes
pub mod Hosts
pub mod Kinds
pub mod Held
pub mod Linking
pub mod Leaves
pub mod Goes
pub mod Step
pub mod Calls
pub mod Between
pub mod Aside
pub mod RowsOnSlots
pub mod MakingsOfMaps
pub mod EndsOfMaps

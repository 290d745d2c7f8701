-- A map over a memory that has one owner: how it begins, what reservations keep to, and how much is left of its end.
pub mod AloneBegins
pub mod AloneReserves
pub mod FactsBegins
pub mod WholeBegins
pub mod MeasuresBegins
pub mod EndingsBegins
pub mod FactsAloneReserves
pub mod MeasuresEnds
pub mod EndingsEnds
pub mod EndingsReserves
pub mod Listed
pub mod FaultsBegins
pub mod NextTables

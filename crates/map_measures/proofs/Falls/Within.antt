-- Lookups and disposals.
pub mod Lookups
pub mod Disposals
pub mod DisposalRows

-- A pair is stored, replaced or removed.
pub mod Exchanges
pub mod ExchangesBlocking
mod ExchangesCommon
pub mod ExchangesIncremental
mod ExchangesLasting
mod Stored
mod StoredCommon
mod StoredLasts
pub mod StoresBlocking
pub mod StoresIncremental

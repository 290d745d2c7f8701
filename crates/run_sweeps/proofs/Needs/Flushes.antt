-- Flushes of slots that are active take nothing away.
pub mod Moves
pub mod Worlds

-- Histories of lists of acts are linearizable.
pub mod Shown
pub mod Coming
pub mod Linear

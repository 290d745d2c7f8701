-- Lemmas on straight code of the rows.
pub mod Leavings
pub mod Reclaimings
pub mod Retirements
pub mod Running

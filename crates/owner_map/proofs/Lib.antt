-- Lemmas on maps for one owner.
mod Did
pub mod Given

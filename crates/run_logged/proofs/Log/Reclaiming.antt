-- What a step by which all is reclaimed keeps, of what is held alone: no executor is needed for it.
pub mod Rest

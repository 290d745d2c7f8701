-- What calls on whole maps are for, in the words of a run.
pub mod Kept
pub mod Swept
pub mod Elsewhere

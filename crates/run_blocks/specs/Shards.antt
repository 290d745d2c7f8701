-- The words in which pairs of a map are counted: they are those of the moment, whoever takes a step.
pub mod Adds
pub mod ShardWords
pub mod ShardSteps

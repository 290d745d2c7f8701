-- The words in which pairs of a map are counted: they are those of the moment, whoever takes a step.
pub mod WordOps
pub mod Adds
pub mod KeyAdds
pub mod RestAdds
pub mod ShardKept
pub mod ShardCalls
pub mod ShardOthers
pub mod ShardBetween
pub mod ShardMakes
pub mod ShardNumbers

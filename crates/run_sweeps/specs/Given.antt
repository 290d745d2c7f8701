-- The words of the crates below, given on to the crates above: these list this crate in place of those.
pub use Rattle.run_finds.specs.Purposes.Purposes as PurposesPurposes
pub use Rattle.run_finds.specs.Purposes.Shards as PurposesShards
pub use Rattle.run_finds.specs.Shaping as FindsShaping
pub use Rattle.run_kept.specs.Ends

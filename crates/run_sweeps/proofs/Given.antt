-- What is so by the crates below, given on to the crates above: these list this crate in place of those.
pub use Rattle.run_finds.proofs.Capacities as FindsCapacities
pub use Rattle.run_finds.proofs.Grown as FindsGrown
pub use Rattle.run_finds.proofs.Linking as FindsLinking
pub use Rattle.run_finds.proofs.Lists as FindsLists
pub use Rattle.run_finds.proofs.Shaping as FindsShaping

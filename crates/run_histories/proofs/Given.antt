-- What is so by the crates below, given on to the crates above: these list this crate in place of those.
pub use Rattle.run_places.proofs.Hands.Asking as HandsAsking
pub use Rattle.run_places.proofs.Moments.MakingSteps as MomentsMakingSteps
pub use Rattle.run_places.proofs.Spots.Effects as SpotsEffects
pub use Rattle.run_places.proofs.Spots.Unreclaimed as SpotsUnreclaimed

-- What is so by the crates below, given on to the crates above: these list this crate in place of those.
pub use Rattle.owner_calls.proofs.Given.PointsLawful
pub use Rattle.seize_callers.proofs.Keeping
pub use Rattle.threads_kinds.proofs.CallKinds.Asking as CallKindsAsking
pub use Rattle.threads_kinds.proofs.CallKinds.Plans as CallKindsPlans
pub use Rattle.threads_kinds.proofs.CallKinds.Quiet as CallKindsQuiet
pub use Rattle.threads_rule.proofs.Errands.Beginnings as ErrandsBeginnings
pub use Rattle.threads_rule.proofs.Errands.Runs as ErrandsRuns
pub use Rattle.threads_rule.proofs.Errands.Stepping as ErrandsStepping
pub use Rattle.threads_rule.proofs.Errands.Sweeping as ErrandsSweeping
pub use Rattle.threads_rule.proofs.Views.Contents as ViewsContents
pub use Rattle.threads_rule.proofs.Views.Laws as ViewsLaws
pub use Rattle.threads_rule.proofs.Views.Leaves as ViewsLeaves

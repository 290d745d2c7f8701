-- What is so by the crates below, given on to the crates above: these list this crate in place of those.
pub use Rattle.threads_errands.proofs.Given.ErrandsBeginnings
pub use Rattle.threads_errands.proofs.Given.ErrandsRuns
pub use Rattle.threads_errands.proofs.Given.ErrandsSweeping
pub use Rattle.threads_errands.proofs.Given.Pausing
pub use Rattle.threads_errands.proofs.Given.StepsAnswering
pub use Rattle.threads_errands.proofs.Given.Told

-- Lemmas of the crates below, given on to the crates above: these list this crate in place of those.
pub use Rattle.threads_steps.proofs.Given.ErrandsBeginnings
pub use Rattle.threads_steps.proofs.Given.ErrandsRuns
pub use Rattle.threads_steps.proofs.Given.ErrandsSweeping
pub use Rattle.threads_steps.proofs.Given.ViewsContents
pub use Rattle.threads_steps.proofs.Given.ViewsLaws
pub use Rattle.threads_steps.proofs.Given.ViewsLeaves
pub use Rattle.threads_steps.proofs.Answering as StepsAnswering
pub use Rattle.threads_steps.proofs.Pausing
pub use Rattle.threads_steps.proofs.Shown as StepsShown
pub use Rattle.threads_steps.proofs.Told

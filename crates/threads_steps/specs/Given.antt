-- The words of the crates below, given on to the crates above: these list this crate in place of those.
pub use Rattle.map_measures.specs.ByKey.ByKey
pub use Rattle.owner_calls.specs.Owned.Owned as OwnedOwned
pub use Rattle.seize_callers.specs.Kept as SeizeCallersKept
pub use Rattle.threads_kinds.specs.CallKinds.Answers as CallKindsAnswers
pub use Rattle.threads_kinds.specs.CallKinds.Kinds as CallKindsKinds
pub use Rattle.threads_kinds.specs.CallKinds.Leads as CallKindsLeads
pub use Rattle.threads_kinds.specs.CallKinds.Shows as CallKindsShows
pub use Rattle.threads_kinds.specs.CallKinds.Sweeps as CallKindsSweeps
pub use Rattle.threads_rule.specs.Errands.Calling as ErrandsCalling
pub use Rattle.threads_rule.specs.Errands.Counting as ErrandsCounting
pub use Rattle.threads_rule.specs.Errands.Looking as ErrandsLooking
pub use Rattle.threads_rule.specs.Errands.Making as ErrandsMaking
pub use Rattle.threads_rule.specs.Errands.Sweeping as ErrandsSweeping
pub use Rattle.threads_rule.specs.Given.ActsActs
pub use Rattle.threads_rule.specs.Given.ActsLefts
pub use Rattle.threads_rule.specs.Views.Begun as ViewsBegun
pub use Rattle.threads_rule.specs.Views.Looks as ViewsLooks
pub use Rattle.threads_rule.specs.Views.Notes as ViewsNotes
pub use Rattle.threads_rule.specs.Views.Promises as ViewsPromises
pub use Rattle.threads_rule.specs.Views.Rule as ViewsRule
pub use Rattle.threads_rule.specs.Views.Told as ViewsTold
pub use Rattle.threads_rule.specs.declared as ViewsDeclared

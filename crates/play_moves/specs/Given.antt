-- The words of the crates below, given on to the crates above: these list this crate in place of those.
pub use Rattle.threads_rule.specs.Errands.Calling as ErrandsCalling
pub use Rattle.threads_rule.specs.Errands.Looking as ErrandsLooking
pub use Rattle.threads_rule.specs.Given.ActsActs
pub use Rattle.threads_rule.specs.Views.Begun as ViewsBegun
pub use Rattle.threads_rule.specs.Views.Listed as ViewsListed
pub use Rattle.threads_rule.specs.Views.Looks as ViewsLooks
pub use Rattle.threads_rule.specs.Views.Rule as ViewsRule
pub use Rattle.threads_rule.specs.declared as ViewsDeclared
pub use Rattle.run_schedules.specs.Given.RawDeclared

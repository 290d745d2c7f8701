-- What is so of the memory of a map for one owner, by the crates below, given on to the map.
pub use Rattle.owner_calls.proofs.Holds.Changes.{holds_its_own}
pub use Rattle.owner_calls.proofs.Holds.Lists.Lived.{balanced_first, balanced_more, balanced_still, kept_balances, lives_hold}
pub use Rattle.owner_calls.proofs.Owned.Walks.{holds_moves_none, holds_pairs, holds_stands}
pub use Rattle.owner_calls.proofs.Sifts.Over.Questions.{keeps_by_test}
pub use Rattle.owner_calls.proofs.Given.WholeContents.Below.{one_each_below}

-- What is so by the crates below, given on to the crates above: these list this crate in place of those.
pub use Rattle.play_lists.proofs.Agrees.Agree as AgreesAgree
pub use Rattle.play_lists.proofs.Agrees.Calls as AgreesCalls
pub use Rattle.play_lists.proofs.Agrees.Coming as AgreesComing
pub use Rattle.play_lists.proofs.Agrees.Entries as AgreesEntries
pub use Rattle.play_lists.proofs.Agrees.Fresh as AgreesFresh
pub use Rattle.play_lists.proofs.Agrees.GivenBack as AgreesGivenBack
pub use Rattle.play_lists.proofs.Agrees.Grants as AgreesGrants
pub use Rattle.play_lists.proofs.Agrees.Guards as AgreesGuards
pub use Rattle.play_lists.proofs.Agrees.Lists as AgreesLists
pub use Rattle.play_lists.proofs.Agrees.Names as AgreesNames
pub use Rattle.play_lists.proofs.Agrees.Numbers as AgreesNumbers
pub use Rattle.play_lists.proofs.Agrees.Openings as AgreesOpenings
pub use Rattle.play_lists.proofs.Agrees.Shards as AgreesShards
pub use Rattle.play_lists.proofs.Given.ActsAsSteps
pub use Rattle.play_lists.proofs.Given.ActsFurther
pub use Rattle.play_lists.proofs.Given.ActsLists
pub use Rattle.play_lists.proofs.Given.FindsEvents
pub use Rattle.play_lists.proofs.Given.FindsTables
pub use Rattle.play_lists.proofs.Given.FollowsCalls
pub use Rattle.play_lists.proofs.Given.FollowsFinds
pub use Rattle.play_lists.proofs.Given.OthersMakingGoes
pub use Rattle.play_lists.proofs.Given.RuleLaws
pub use Rattle.play_lists.proofs.MapsEnd.Places as MapsEndPlaces
pub use Rattle.play_lists.proofs.Played.Along as PlayedAlong
pub use Rattle.play_lists.proofs.Played.Noted as PlayedNoted
pub use Rattle.play_lists.proofs.Played.PlayedAs as PlayedPlayedAs
pub use Rattle.play_lists.proofs.Played.Tied as PlayedTied

-- What is so by the crates below, given on to the crates above: these list this crate in place of those.
pub use Rattle.owner_facts.proofs.Given.CallersRows
pub use Rattle.owner_facts.proofs.Given.CallersTogether
pub use Rattle.owner_facts.proofs.Given.FinishesBeside
pub use Rattle.owner_facts.proofs.Given.FinishesEnds
pub use Rattle.run_shows.proofs.Follows.Calling as FollowsCalling
pub use Rattle.run_shows.proofs.Follows.Calls as FollowsCalls
pub use Rattle.run_shows.proofs.Follows.Handed as FollowsHanded
pub use Rattle.run_shows.proofs.Follows.OfEach as FollowsOfEach
pub use Rattle.run_shows.proofs.Follows.Told as FollowsTold
pub use Rattle.run_shows.proofs.Others.Elsewhere as OthersElsewhere
pub use Rattle.run_shows.proofs.Others.EndBegins as OthersEndBegins
pub use Rattle.run_shows.proofs.Others.Ends as OthersEnds
pub use Rattle.run_shows.proofs.Others.MakingGoes as OthersMakingGoes
pub use Rattle.run_shows.proofs.Others.Outcomes as OthersOutcomes
pub use Rattle.run_shows.proofs.Others.Outside as OthersOutside
pub use Rattle.run_shows.proofs.Others.RowPlans as OthersRowPlans
pub use Rattle.run_shows.proofs.Others.Stays as OthersStays
pub use Rattle.run_shows.proofs.Scenes.Goes as ScenesGoes
pub use Rattle.run_shows.proofs.Scenes.May as ScenesMay
pub use Rattle.run_shows.proofs.Scenes.NoCall as ScenesNoCall
pub use Rattle.run_shows.proofs.Scenes.Rows as ScenesRows

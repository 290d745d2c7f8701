-- Each pair of the map stands in a block of its own.
use Rattle.owner_calls.proofs.Owned.Owned.Standing.{pairs_stand}
use Rattle.owner_calls.proofs.law.owned.pairs_stand_once.Goals as goal

pub returns : goal.returns
returns c d = pairs_stand

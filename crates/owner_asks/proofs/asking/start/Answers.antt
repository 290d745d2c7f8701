-- It comes to its end, or to a question, and what that is.
use Rattle.owner_asks.proofs.Asks.Asks.Ends.{begin_ends, begin_so}
use Rattle.owner_asks.proofs.asking.start.Goals as goal

pub run_skimming-requires : goal.run_skimming-requires
run_skimming-requires g c = let r = c.requires.begun in begin_ends _ _ _ _ r.1 r.2 r.3 r.0 _ c.requires.fresh _ r.4 r.5

pub returns-clause-starts : goal.returns-clause-starts
returns-clause-starts g c = λ xs kind its keys has begun. begin_so _ _ _ _ kind its keys xs _ c.requires.fresh _ has begun _ _ _ c.run_skimming.ensures

pub returns-clause-ran : goal.returns-clause-ran
returns-clause-ran g c = c.run_skimming.ensures

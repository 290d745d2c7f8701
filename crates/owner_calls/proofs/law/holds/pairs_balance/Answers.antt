-- What comes to the memory of a map for one owner, and what becomes of it.
use Rattle.owner_calls.proofs.Holds.Calls.Runs.{calls_begin, calls_store_alone, replies_put_none}
use Rattle.owner_calls.proofs.Holds.Lists.Lives.{lives_balance}
use Rattle.owner_calls.proofs.Holds.Runs.Hands.{rows_hand_out}
use Rattle.owner_calls.proofs.Holds.Lists.Balance.{what_leaves_balances, answers_balance}
use Rattle.owner_calls.proofs.Holds.Runs.None.{rooms_put_none, sweeps_put_none, refreshes_put_none, makings_put_none}
use Rattle.owner_calls.proofs.law.holds.pairs_balance.Goals as goal

pub returns : goal.returns
returns c d = record {
  begins = calls_begin _ _ _;
  calls = calls_store_alone _ _ _ _;
  replies = replies_put_none _ _ _;
  rooms = rooms_put_none _ _ _;
  sweeps = sweeps_put_none _ _ _;
  refreshes = refreshes_put_none _ _;
  rows = rows_hand_out _ _;
  makings = makings_put_none _ _;
  leaves = what_leaves_balances _ _;
  answers = answers_balance _ _;
  lives = lives_balance _ _;
}

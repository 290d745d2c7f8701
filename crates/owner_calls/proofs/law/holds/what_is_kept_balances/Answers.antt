-- One change after another.
use Rattle.owner_calls.proofs.Holds.Lists.Lived.{kept_balances, lives_hold}
use Rattle.owner_calls.proofs.law.holds.what_is_kept_balances.Goals as goal

pub returns : goal.returns
returns c d = record { kept = kept_balances _; lives = lives_hold _ }

-- Steps, replies and ends of calls find the calls that they are of; and what rows do is of no call.
use Rattle.std.specs.Prelude.{◌≡◌, ℕ, true, List, Some}
use Rattle.run_schedules.specs.Runs.Same.{is_same}
use Rattle.run_schedules.specs.Schedules.Moment.{UnderWay as CallThere}
use Rattle.run_schedules.specs.Schedules.Views.{call_of}
use Rattle.run_legal.proofs.Given.FindsGrown.{found_any}
use Rattle.run_schedules.specs.Deeds.Deeds.{Deed, Entry, Leaves, Opens, ReclaimsAll, Registers, Shuts, Tends, moment, named}
use Rattle.play_linear.proofs.Linear.RowsPlayed.{IsOfRow}
use Rattle.play_moves.specs.EachMoves.Own.{FindsItsCall, has_call}

module _ {K V : Type 0} (log : List (Entry K V)) where
  pub its_call : (i : ℕ) (c : CallThere K V) → call_of (named i) (moment log) ≡ Some c → has_call i log ≡ true
  its_call i c is = found_any (λ (d : CallThere K V). is_same d.caller (named i)) (moment log).calls c is

  pub rows_own : (d : Deed K V) → IsOfRow d → FindsItsCall log d
  rows_own (Registers s) is = tt
  rows_own (Opens s) is = tt
  rows_own (Shuts s) is = tt
  rows_own (Leaves s) is = tt
  rows_own (Tends s) is = tt
  rows_own (ReclaimsAll last) is = tt
  rows_own _ is = absurd is

-- What the making of a map comes to that is kept out.
use Rattle.std.specs.Prelude.{◌≡◌, ℕ, MatchOption}
use Rattle.seize_words.specs.declared.fault.Fault.TheVariants.{Busy}
use Rattle.papaya_raw.specs.Given.TablesDeclared.resize_mode.ResizeMode.{ResizeMode}
use Rattle.run_schedules.specs.Runs.Runs.{map_fault}
use Rattle.run_schedules.specs.declared.outcome.Outcome.{Outcome}
use Rattle.run_schedules.specs.declared.outcome.Outcome.TheVariants.{Refused}

-- the making of a map comes to this that is kept out: what is wrong in it is told first
abbrev pub IsMakingOut : {V : Type 0} → ResizeMode → ℕ → Outcome V → Type 0
IsMakingOut mode capacity outcome = MatchOption (map_fault mode capacity) (outcome ≡ Refused Busy) (λ fault. outcome ≡ Refused fault)

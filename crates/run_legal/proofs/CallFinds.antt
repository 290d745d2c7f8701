-- The effects of a step of a call find what they must, but for what is left.
use Rattle.std.specs.Prelude.{Bool, ℕ}
use Rattle.run_grows.proofs.Given.KeptCalls.{own_made}
use Rattle.run_grows.proofs.Given.SettlesHand.Calls.{calls_keep_owed}
use Rattle.run_grows.proofs.Given.FindsJoined.{parts_are_all}
use Rattle.run_grows.proofs.Given.FindsFound.{steps_find_parts}
use Rattle.std.proofs.Common.{ap, sym, ◌∙◌}
use Rattle.run_grows.specs.Given.SchedulesMoment.{UnderWay as CallThere}
use Rattle.run_legal.specs.CallRuns.{StepsFindAll}
use Rattle.run_grows.proofs.Given.General.{same_some as one_of}

module _ (K V : Type 0) (same : K → K → Bool) (hash : ℕ → K → ℕ) where
  pub steps_find_all : StepsFindAll K V same hash
  steps_find_all name m known s old new at whole kept map i u here said leads terms mask c c_is slot moments rest =
      let shown = whole.all.shown.calls map i u here in
      parts_are_all K V terms moments (name i) map _ m c c_is (ap (λ (x : CallThere K V). x.map) (one_of c shown.0 (sym c_is ∙ shown.1)) ∙ shown.2)
      (steps_find_parts K V same hash name m known s old new at
      (record { whole = whole; made = kept.made; tables = kept.tables; short = kept.short; looking = kept.looking; counts = kept.counts }) map i u here said leads terms mask c c_is slot moments)
      (calls_keep_owed K V same hash name m known s old new at whole kept.entries (own_made K V same hash name m known s old at whole kept) kept.owed map i u here said leads).0 rest

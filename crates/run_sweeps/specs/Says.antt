-- What a step says, in the words of an outcome, and how far its caller is then.
use Rattle.std.specs.Prelude.{ℕ, List, slice_set, Option, option_map, if◌then◌else◌}
use Rattle.std.specs.List.{remove}
use Rattle.papaya_raw.specs.Given.TablesDeclared.node.Node.{Node}
use Rattle.papaya_raw.specs.declared.machines.progress.Progress.{Progress}
use Rattle.papaya_raw.specs.declared.machines.progress.Progress.TheVariants as progress
use Rattle.run_schedules.specs.declared.outcome.Outcome.{Outcome}
use Rattle.run_schedules.specs.declared.outcome.Outcome.TheVariants.{Goes, Asks, Waits, Ready, Shows, Answered, Refused}
use Rattle.run_finds.specs.Given.EffectsKnown.{Known}
use Rattle.run_finds.specs.Given.NamedTelling.{answer_of, number_by, kept}
use Rattle.run_finds.specs.Given.ExecutorDeclared.caller.NamedCaller.{NamedCaller}
use Rattle.run_finds.specs.Given.ExecutorDeclared.caller.Stands.{Stands as HowFar}
use Rattle.run_finds.specs.Given.ExecutorDeclared.caller.Stands.TheVariants as far
use Rattle.run_finds.specs.Given.ExecutorDeclared.kind.CallKind.{CallKind}
use Rattle.run_finds.specs.Given.ScenesStepping.{has_ended}

module _ {K V : Type 0} (by : Known) where
  -- what a step says, in the words of an outcome, of a call of this kind that keeps this value
  abbrev pub outcome_of : CallKind → Option V → Progress (Node K V) → Outcome V
  outcome_of its value progress.Goes = Goes
  outcome_of its value (progress.Gave node) = Goes
  outcome_of its value (progress.Unstored node) = Goes
  outcome_of its value progress.Waits = Waits
  outcome_of its value (progress.Asks word) = Asks (option_map (number_by by) word)
  outcome_of its value progress.Ready = Ready
  outcome_of its value (progress.Pair word) = Shows (number_by by word)
  outcome_of its value (progress.Done said) = Answered (answer_of by its value said)
  outcome_of its value (progress.Refused fault) = Refused fault

  -- how far the call is then,
  abbrev pub far_then : Progress (Node K V) → HowFar
  far_then (progress.Asks word) = far.Asks (option_map (number_by by) word)
  far_then progress.Ready = far.Ready
  far_then (progress.Pair word) = far.Ready
  far_then _ = far.Goes

  -- its caller, if it has not ended,
  abbrev pub caller_then : NamedCaller V → Progress (Node K V) → NamedCaller V
  caller_then d (progress.Unstored node) = record d { stands = far.Goes; value = kept d.kind node d.value }
  caller_then d said = record d { stands = far_then said }

  -- and all callers
  abbrev pub callers_then : ℕ → NamedCaller V → Progress (Node K V) → List (NamedCaller V) → List (NamedCaller V)
  callers_then place d said calls = if has_ended said then remove calls place else slice_set calls place (caller_then d said)

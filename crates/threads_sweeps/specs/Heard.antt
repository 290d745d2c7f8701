-- What a step of a sweep tells, as far as something follows on it.
use Rattle.std.specs.Prelude.{◌≡◌, Some, None}
use Rattle.papaya_raw.specs.declared.machines.progress.Answer.TheVariants as said
use Rattle.papaya_raw.specs.declared.machines.progress.Progress.{Progress}
use Rattle.papaya_raw.specs.declared.machines.progress.Progress.TheVariants as progress
use Rattle.threads_calls.specs.Given.ErrandsCalling.{IsGoing, IsNoQuestion, outcome_of}
use Rattle.threads_calls.specs.Given.ErrandsSweeping.{swept_by}
use Rattle.threads_sweeps.specs.declared.hearing.Heard.{Heard}
use Rattle.threads_sweeps.specs.declared.hearing.Heard.TheVariants as heard

-- what a sweep may tell: it ends by that its pairs were gone over, and asks about a pair, if it asks
abbrev pub IsOfSweep : {T : Type 0} → Progress T → Type 0
IsOfSweep (progress.Done said.Swept) = Unit {0}
IsOfSweep (progress.Done answer) = ⊥
IsOfSweep (progress.Asks None) = ⊥
IsOfSweep told = Unit {0}

-- it has told just this
abbrev pub IsHeard : {T : Type 0} → Progress T → Heard → Type 0
IsHeard told heard.Goes = IsGoing told × IsNoQuestion told
IsHeard told heard.Ready = told ≡ progress.Ready
IsHeard told (heard.Shows word) = told ≡ progress.Pair word
IsHeard told (heard.Asks word) = told ≡ progress.Asks (Some word)
IsHeard told (heard.Ended end) = told ≡ outcome_of (swept_by end)

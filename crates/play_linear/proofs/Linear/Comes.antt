-- What a step of a call comes to, as it is played, is what its caller is told: the call means it, while its caller keeps the value that it is to tell back.
use Rattle.std.specs.Prelude.{◌≡◌, ℕ, Bool, List, [], Option, Some}
use Rattle.std.proofs.Common.{refl, subst}
use Rattle.play_lists.specs.Given.TablesDeclared.node.Node.{Node}
use Rattle.run_logged.specs.Given.RawDeclared.machines.answer.KeyAnswer.{KeyAnswer}
use Rattle.run_logged.specs.Given.RawDeclared.machines.answer.KeyAnswer.TheVariants as says
use Rattle.run_logged.specs.Given.RawDeclared.machines.progress.Answer.TheVariants as answers
use Rattle.run_logged.specs.Given.RawDeclared.machines.progress.Progress.{Progress}
use Rattle.run_logged.specs.Given.RawDeclared.machines.progress.Progress.TheVariants as progress
use Rattle.run_logged.specs.Given.CallersTogether.{UnderWay, OnKey, ForRoom, Counting, OverAll}
use Rattle.play_lists.specs.Given.FinishesMachines.{machine_of}
use Rattle.run_schedules.specs.declared.call.Call.{Call}
use Rattle.run_schedules.specs.declared.call.Call.TheVariants.{On}
use Rattle.run_schedules.specs.declared.call.OneKey.{OneKey}
use Rattle.run_schedules.specs.declared.call.OneKey.TheVariants.{Compute, TryInsert}
use Rattle.run_schedules.specs.declared.call.Reply.TheVariants.{Aborts}
use Rattle.run_schedules.specs.Schedules.Moment.{UnderWay as CallThere}
use Rattle.run_schedules.specs.Schedules.Views.{call_of, reply_to}
use Rattle.play_lists.specs.Given.EffectsEffects.{known_after}
use Rattle.play_lists.specs.Given.EffectsKnown.{Known}
use Rattle.play_lists.specs.Given.EffectsDeclared.acting.Acting.TheVariants as acts
use Rattle.play_lists.specs.Given.ScenesHeld.{Held, IsAt}
use Rattle.play_lists.specs.Given.ScenesScene.{Scene}
use Rattle.play_lists.specs.Given.ScenesStepping.{StepLeads}
use Rattle.run_logged.specs.Given.NamedSeen.{kind_of}
use Rattle.play_lists.specs.Given.HistoriesInEvent.{HasOutcomeSo, InEvent}
use Rattle.play_lists.specs.Given.HistoriesOtherCalls.{IsOnNoKey}
use Rattle.play_lists.proofs.Given.HistoriesAnyCall.InEvent.{events_begin, events_have_words}
use Rattle.run_sweeps.specs.Says.{outcome_of as outcome_as}
use Rattle.play_lists.specs.Given.ValuesValues.{KeepsValue}
use Rattle.play_lists.proofs.Given.ValuesValues.{inserts_tell_theirs}
use Rattle.run_sweeps.proofs.Quiet.Saying.{Tells, comes_so}
use Rattle.run_schedules.specs.Deeds.Deeds.{Entry, moment, named}
use Rattle.run_schedules.specs.Deeds.History.{past}
use Rattle.play_lists.specs.Played.Play.{outcome_of}
use Rattle.play_linear.specs.Linear.Shown.{RefinesAnswers}

-- what a step comes to, as it is played, is what it comes to in an event
same_outcome : {K V : Type 0} (known : Known) (call : Call K V) (value : Option V) (said : Progress (Node K V)) → outcome_as known (kind_of call) value said ≡ outcome_of known (kind_of call) value said
same_outcome known call value progress.Goes = refl
same_outcome known call value (progress.Gave node) = refl
same_outcome known call value (progress.Unstored node) = refl
same_outcome known call value progress.Waits = refl
same_outcome known call value (progress.Asks word) = refl
same_outcome known call value progress.Ready = refl
same_outcome known call value (progress.Pair word) = refl
same_outcome known call value (progress.Done said) = refl
same_outcome known call value (progress.Refused fault) = refl

module _ {K V : Type 0} (same : K → K → Bool) (hash : ℕ → K → ℕ) (history : List (Entry K V)) (known : Known) (s : Scene K V) (old new : Held K V) (at : IsAt same hash old s)
    (all : RefinesAnswers same (past history) (moment history) known s) (map i : ℕ) (u : UnderWay K V K) (here : s.calls map i ≡ Some u) (said : Progress (Node K V)) (leads : StepLeads same hash i said s old new)
    (d : CallThere K V) (d_is : call_of (named i) (moment history) ≡ Some d) (value : Option V) (keeps : KeepsValue d.call d.replies (machine_of u) value) where
  abbrev known_then : Known
  known_then = known_after (acts.Call i map) new.changed known

  midst : InEvent same named (past history) (moment history) map i d [] (moment history) known s u
  midst = events_begin K V same hash named (past history) (moment history) (refl, refl) known s old at all.whole all.dues all.as_called map i u here d d_is

  -- `compute` that was told to abort is one on a key, and its caller keeps the value
  aborts_with : (x : UnderWay K V K) → InEvent same named (past history) (moment history) map i d [] (moment history) known s x → (k : K) → d.call ≡ On (Compute k)
      → KeepsValue d.call d.replies (machine_of x) value → (about : Option ℕ) (w : V) → reply_to about d.replies ≡ Some (Aborts w) → value ≡ Some w
  aborts_with (OnKey x) there k is keep about w replied = (subst (λ (call : Call K V). KeepsValue call d.replies (machine_of (OnKey x)) value) is keep about w replied).1
  aborts_with (ForRoom x) there k is keep about w replied = absurd (subst IsOnNoKey is there.other)
  aborts_with (Counting x) there k is keep about w replied = absurd (subst IsOnNoKey is there.other)
  aborts_with (OverAll x) there k is keep about w replied = absurd (subst IsOnNoKey is there.other)

  tells : (one : OneKey K V) → d.call ≡ On one → (it : KeyAnswer) → said ≡ progress.Done (answers.Key it) → Tells known_then value d.replies one it
  tells (TryInsert k v) is (says.Found word) done_so =
      inserts_tell_theirs K V same hash named (moment history) known s old new at all.whole map i u here word (subst (λ (x : Progress (Node K V)). StepLeads same hash i x s old new) done_so leads) d d_is k v is value keeps
  tells (Compute k) is it done_so = λ about w replied. aborts_with u midst k is keeps about w replied
  tells _ is it done_so = tt

  pub steps_come_so : HasOutcomeSo known_then d.call d.replies said (outcome_of known_then (kind_of d.call) value said)
  steps_come_so =
      let words = events_have_words K V same hash named (past history) (moment history) map i d [] (moment history) known s u midst old new at said leads in
      subst (HasOutcomeSo known_then d.call d.replies said) (same_outcome known_then d.call value said) (comes_so known_then value d.replies d.call said words.0 words.1 tells)

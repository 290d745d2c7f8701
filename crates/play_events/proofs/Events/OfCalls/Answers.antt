-- What a step of a call on one key answers is told as the call means, as its caller keeps the value that it is to tell back; and what it asks, by the number of the pair about which it asks.
use Rattle.std.specs.Prelude.{◌≡◌, ℕ, Bool, List, Option, Some}
use Rattle.std.proofs.Common.{refl, sym, subst, ◌∙◌}
use Rattle.play_lists.specs.Given.TablesDeclared.node.Node.{Node}
use Rattle.play_stepping.specs.Given.RawDeclared.machines.answer.KeyAnswer.{KeyAnswer}
use Rattle.play_stepping.specs.Given.RawDeclared.machines.answer.KeyAnswer.TheVariants as says
use Rattle.play_stepping.specs.Given.RawDeclared.machines.progress.Answer.TheVariants as answers
use Rattle.play_stepping.specs.Given.RawDeclared.machines.progress.Progress.{Progress}
use Rattle.play_stepping.specs.Given.RawDeclared.machines.progress.Progress.TheVariants as progress
use Rattle.run_schedules.specs.declared.call.Call.{Call}
use Rattle.run_schedules.specs.declared.call.Call.TheVariants.{On}
use Rattle.run_schedules.specs.declared.call.OneKey.{OneKey}
use Rattle.run_schedules.specs.declared.call.OneKey.TheVariants.{TryInsert, Compute}
use Rattle.run_schedules.specs.declared.call.Reply.{Reply}
use Rattle.play_lists.specs.Given.EffectsEffects.{known_after}
use Rattle.play_lists.specs.Given.EffectsDeclared.acting.Acting.TheVariants as acts
use Rattle.play_lists.specs.Given.EffectsKnown.{Known}
use Rattle.play_lists.proofs.Given.HistoriesAnyCall.InEvent.{events_have_words}
use Rattle.play_lists.specs.Given.HistoriesInEvent.{InEvent, here_of}
use Rattle.run_schedules.specs.declared.effect.Effect.{Effect}
use Rattle.run_schedules.specs.Schedules.Entry.{Entry}
use Rattle.run_schedules.specs.Schedules.Moment.{UnderWay as CallThere, Moment}
use Rattle.play_stepping.specs.Given.CallersTogether.{UnderWay, CallOnKey, OnKey, ForRoom, Counting, OverAll}
use Rattle.play_lists.specs.Given.FinishesMachines.{machine_of}
use Rattle.play_lists.specs.Given.HistoriesOtherCalls.{IsOnNoKey}
use Rattle.play_lists.specs.Given.ValuesValues.{KeepsValue}
use Rattle.play_lists.proofs.Given.ValuesValues.{inserts_tell_theirs}
use Rattle.play_events.specs.Events.OfCalls.{LastStepsTell}
use Rattle.play_events.proofs.Events.OfCalls.Words.{tells_of}
use Rattle.play_lists.specs.Given.ScenesScene.{Scene}
use Rattle.play_lists.specs.Given.ScenesStepping.{StepLeads}
use Rattle.run_schedules.specs.Schedules.Transition.{past}
use Rattle.play_stepping.proofs.Given.QuietSaying.{Tells, comes_so}

-- a call on one key is under way as one
on_key : {K V : Type 0} (same : K → K → Bool) (name : ℕ → List ℕ) (log : List (Entry K V)) (beginning : Moment K V) (map i : ℕ) (c : CallThere K V) (done : List Effect) (m : Moment K V) (known : Known) (s : Scene K V)
    (u : UnderWay K V K) → InEvent same name (past log) beginning map i c done m known s u → (one : OneKey K V) → c.call ≡ On one → (x : CallOnKey K V K) × (u ≡ OnKey x)
on_key same name log beginning map i c done m known s (OnKey x) midst one is = (x, refl)
on_key same name log beginning map i c done m known s (ForRoom r) midst one is = absurd (subst IsOnNoKey is midst.other)
on_key same name log beginning map i c done m known s (Counting sum) midst one is = absurd (subst IsOnNoKey is midst.other)
on_key same name log beginning map i c done m known s (OverAll o) midst one is = absurd (subst IsOnNoKey is midst.other)

pub last_steps_tell : (K V : Type 0) (same : K → K → Bool) (hash : ℕ → K → ℕ) → LastStepsTell K V same hash
last_steps_tell K V same hash name terms log event beginning map i c steps done m known s u midst old new at said leads d d_is call_so replies_so value comes keeps =
    let words = events_have_words K V same hash name (past log) beginning map i c done m known s u midst.event_so old new at said leads in
    let by = known_after (acts.Call i map) new.changed known in
    (comes_so by value c.replies c.call said words.0 words.1 tells, tells_of same log m map by value c.call said comes)
  where
    here : s.calls map i ≡ Some u
    here = here_of same name (past log) beginning map i c done m known s u midst.event_so

    keeps_now : KeepsValue d.call d.replies (machine_of u) value
    keeps_now =
        subst (λ (x : Call K V). KeepsValue x d.replies (machine_of u) value) (sym call_so) (subst (λ (l : List (Option ℕ × Reply V)). KeepsValue c.call l (machine_of u) value) (sym replies_so) keeps)

    tells : (one : OneKey K V) → c.call ≡ On one → (it : KeyAnswer) → said ≡ progress.Done (answers.Key it) → Tells (known_after (acts.Call i map) new.changed known) value c.replies one it
    tells (TryInsert k v) is (says.Found word) done_so =
        inserts_tell_theirs K V same hash name m known s old new at midst.calls.whole map i u here word (subst (λ (x : Progress (Node K V)). StepLeads same hash i x s old new) done_so leads) d d_is k v
        (call_so ∙ is) value keeps_now
    tells (Compute k) is it done_so =
        let x = on_key same name log beginning map i c done m known s u midst.event_so (Compute k) is in
        λ about w replied. (subst (λ (p : UnderWay K V K). KeepsValue (On (Compute k)) c.replies (machine_of p) value) x.1 (subst (λ (call : Call K V). KeepsValue call c.replies (machine_of u) value) is keeps) about w replied).1
    tells _ is it done_so = tt

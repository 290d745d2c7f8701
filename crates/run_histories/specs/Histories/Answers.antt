-- What a call on one key answers without a change, in the words of a run, and when that was so.
use Rattle.std.specs.Prelude.{◌≡◌, ℕ, Bool, List, Option, Some, None}
use Rattle.run_places.specs.Given.SeizeWordsDeclared.fault.Fault.{Fault}
use Rattle.run_places.specs.Given.SeizeWordsDeclared.fault.Fault.TheVariants.{RemoveNothing}
use Rattle.run_places.specs.Given.SeizeWordsWord.{block_in}
use Rattle.run_places.specs.Given.RawDeclared.machines.answer.KeyAnswer.{KeyAnswer}
use Rattle.run_places.specs.Given.RawDeclared.machines.answer.KeyAnswer.TheVariants as answers
use Rattle.run_places.specs.Given.RawDeclared.machines.progress.Answer.TheVariants.{Key}
use Rattle.run_places.specs.Given.RawDeclared.machines.progress.Progress.TheVariants.{Done, Refused}
use Rattle.run_places.specs.Given.RunsDeclared.call.Response.{Response}
use Rattle.run_places.specs.Given.RunsDeclared.call.Call.TheVariants.{On}
use Rattle.run_places.specs.Given.RunsDeclared.call.OneKey.{OneKey}
use Rattle.run_places.specs.Given.RunsDeclared.call.Reply.{Reply}
use Rattle.run_places.specs.Given.SchedulesEffects.{with_effects}
use Rattle.run_places.specs.Given.SchedulesLinearizable.{meaning_at}
use Rattle.run_places.specs.Given.SchedulesLists.{OneOf}
use Rattle.run_places.specs.Given.SchedulesMoment.{UnderWay as CallThere, Moment}
use Rattle.run_places.specs.Given.SchedulesSequential.{Answers, Refuses, Leaves, Puts, Takes, means, key_of}
use Rattle.run_places.specs.Given.SchedulesViews.{call_of, finite_map, reply_to}
use Rattle.run_places.specs.Given.CallersTogether.{CallOnKey, OnKey}
use Rattle.run_places.specs.Given.EffectsEffects.{effects_of, known_after}
use Rattle.run_places.specs.Given.EffectsKnown.{Known}
use Rattle.run_places.specs.Given.EffectsDeclared.acting.Acting.TheVariants as acts
use Rattle.run_places.specs.Given.EffectsDeclared.role.Role.TheVariants as role
use Rattle.run_places.specs.Moments.Whole.{RefinesWhole}
use Rattle.run_histories.specs.Histories.Due.{RefinesPendingAnswers}
use Rattle.run_places.specs.Changes.Histories.{RefinesHistory}
use Rattle.run_places.specs.Given.ScenesHeld.{Held, IsAt}
use Rattle.run_places.specs.Given.ScenesScene.{Scene}
use Rattle.run_places.specs.Given.ScenesStepping.{StepLeads}
use Rattle.run_places.specs.Given.SchedulesTransition.{Past}

-- a word names the pair of this number
abbrev pub NamesPair : Known → ℕ → ℕ → Type 0
NamesPair known word n = known.roles (block_in word) ≡ role.Pair n

-- An answer that tells no change is told as what the call means, by the last reply for that, where its key's class has the pair that was found, or none.
abbrev pub IsAnsweredAs : {K V : Type 0} → Known → OneKey K V → List (Option ℕ × Reply V) → KeyAnswer → Response V → Type 0
IsAnsweredAs known one replies (answers.Found word) a = (n : ℕ) × NamesPair known word n × ((new : ℕ) → means one (reply_to (Some n) replies) (Some n) new ≡ Answers a Leaves)
IsAnsweredAs known one replies answers.Absent a = (new : ℕ) → means one (reply_to None replies) None new ≡ Answers a Leaves
IsAnsweredAs known one replies _ a = ⊥

-- One that tells a change is told as what the call means, by the last reply for what its key's class had, where it stores the pair of this number, or removes one.
abbrev pub IsAnsweredDone : {K V : Type 0} → Known → OneKey K V → List (Option ℕ × Reply V) → KeyAnswer → Response V → Type 0
IsAnsweredDone {K} {V} known one replies (answers.Stored word) a = (n : ℕ) × NamesPair known word n × (v : V) × (means one (reply_to None replies) None n ≡ Answers a (Puts v))
IsAnsweredDone {K} {V} known one replies (answers.Replaced old new) a =
    (o : ℕ) × (n : ℕ) × NamesPair known old o × NamesPair known new n × (v : V) × (means one (reply_to (Some o) replies) (Some o) n ≡ Answers a (Puts v))
IsAnsweredDone known one replies (answers.Removed word) a = (o : ℕ) × NamesPair known word o × ((new : ℕ) → means one (reply_to (Some o) replies) (Some o) new ≡ Answers a Takes)
IsAnsweredDone known one replies _ a = ⊥

module _ (K V : Type 0) (same : K → K → Bool) (hash : ℕ → K → ℕ) where
  -- The promise: an answer without a change is what the call means at a moment of it between two events, where no pair of its key's class has come or gone within
  -- the present event.
  abbrev pub AnswersWereSo : Type 0
  AnswersWereSo =
      (name : ℕ → List ℕ) (log : Past K V) (m : Moment K V) (known : Known) (s : Scene K V) (old new : Held K V) → IsAt same hash old s
      → RefinesWhole same name m known s → RefinesHistory same name log m known s
      → (map i : ℕ) (u : CallOnKey K V K) (here : s.calls map i ≡ Some (OnKey u)) (answer : KeyAnswer) (leads : StepLeads same hash i (Done (Key answer)) s old new)
      → (c : CallThere K V) → call_of (name i) m ≡ Some c → (one : OneKey K V) → c.call ≡ On one → finite_map same map m (key_of one) ≡ finite_map same map log.now (key_of one)
      → (a : Response V) → IsAnsweredAs (known_after (acts.Call i map) new.changed known) one c.replies answer a
      → OneOf (λ v. meaning_at same one c v ≡ Answers a Leaves) (log.since c.begun)

  -- The promise: an answer that tells a change is the one that the call owes since it has changed its map.
  abbrev pub AnswersArePending : Type 0
  AnswersArePending =
      (name : ℕ → List ℕ) (log : Past K V) (m : Moment K V) (known : Known) (s : Scene K V) (old new : Held K V) → IsAt same hash old s
      → RefinesWhole same name m known s → RefinesPendingAnswers same name log m known s
      → (map i : ℕ) (u : CallOnKey K V K) (here : s.calls map i ≡ Some (OnKey u)) (answer : KeyAnswer) (leads : StepLeads same hash i (Done (Key answer)) s old new)
      → (c : CallThere K V) → call_of (name i) m ≡ Some c → (one : OneKey K V) → c.call ≡ On one
      → (d : CallThere K V) → call_of (name i) (with_effects (Some (name i)) (Some map) (effects_of (acts.Call i map) known new.changed) m) ≡ Some d
      → (a : Response V) → IsAnsweredDone (known_after (acts.Call i map) new.changed known) one c.replies answer a → d.due ≡ Some a

  -- The promise: a call that is refused owes no answer; and where it was told to remove what is not there, that is what it means at a moment of it between two events.
  abbrev pub RefusalsWereSo : Type 0
  RefusalsWereSo =
      (name : ℕ → List ℕ) (log : Past K V) (m : Moment K V) (known : Known) (s : Scene K V) (old new : Held K V) → IsAt same hash old s
      → RefinesWhole same name m known s → RefinesPendingAnswers same name log m known s
      → (map i : ℕ) (u : CallOnKey K V K) (here : s.calls map i ≡ Some (OnKey u)) (fault : Fault) (leads : StepLeads same hash i (Refused fault) s old new)
      → (c : CallThere K V) → call_of (name i) m ≡ Some c → (one : OneKey K V) → c.call ≡ On one → finite_map same map m (key_of one) ≡ finite_map same map log.now (key_of one)
      → (d : CallThere K V) → call_of (name i) (with_effects (Some (name i)) (Some map) (effects_of (acts.Call i map) known new.changed) m) ≡ Some d
      → (d.due ≡ None) × (fault ≡ RemoveNothing → OneOf (λ v. meaning_at same one c v ≡ Refuses) (log.since c.begun))

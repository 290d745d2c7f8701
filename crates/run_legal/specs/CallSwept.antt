-- An event of a call does what it is for.
use Rattle.std.specs.Prelude.{◌≡◌, ◌⊎◌, ℕ, suc, Bool, List, ◌++◌, Some}
use Rattle.run_grows.specs.Given.TablesDeclared.node.Node.{Node}
use Rattle.run_grows.specs.Given.RawDeclared.machines.progress.Answer.TheVariants as answers
use Rattle.run_grows.specs.Given.RawDeclared.machines.progress.Progress.{Progress}
use Rattle.run_grows.specs.Given.RawDeclared.machines.progress.Progress.TheVariants as progress
use Rattle.run_grows.specs.Given.RunsDeclared.call.Response.TheVariants.{Absent, Completed, Counted}
use Rattle.run_grows.specs.Given.RunsDeclared.call.Call.{Call}
use Rattle.run_grows.specs.Given.RunsDeclared.call.Call.TheVariants.{Len, On, Walk}
use Rattle.run_grows.specs.Given.RunsDeclared.effect.Effect.{Effect}
use Rattle.run_grows.specs.Given.RunsDeclared.outcome.Outcome.{Outcome}
use Rattle.run_grows.specs.Given.RunsDeclared.outcome.Outcome.TheVariants.{Answered, Shows}
use Rattle.run_grows.specs.Given.SchedulesAfter.{moment}
use Rattle.run_grows.specs.Given.SchedulesBeginning.{at_work}
use Rattle.run_grows.specs.Given.SchedulesEntry.{Entry, acted_on}
use Rattle.run_grows.specs.Given.SchedulesMoment.{UnderWay as CallThere, Moment}
use Rattle.run_grows.specs.Given.SchedulesSweeps.{IsSwept}
use Rattle.run_grows.specs.Given.SchedulesTerms.{Terms, shards_of}
use Rattle.run_grows.specs.Given.CallersTogether.{UnderWay}
use Rattle.run_grows.specs.Given.EffectsEffects.{effects_of, known_after}
use Rattle.run_grows.specs.Given.EffectsKnown.{Known}
use Rattle.run_grows.specs.Given.EffectsDeclared.acting.Acting.TheVariants as acts
use Rattle.run_grows.specs.Given.FinishesMaps.{Standing}
use Rattle.run_sweeps.specs.Purposes.Swept.{EndsWithOutcome as IsToldSo, LosesNone, SaysNothing}
use Rattle.run_legal.specs.CallEvents.{InCallEvent}
use Rattle.run_grows.specs.Given.ScenesHeld.{Held, IsAt}
use Rattle.run_grows.specs.Given.ScenesScene.{Scene}
use Rattle.run_grows.specs.Given.ScenesStepping.{StepLeads}
use Rattle.run_grows.specs.Given.SchedulesTransition.{past}

module _ {K V : Type 0} (same : K → K → Bool) (log : List (Entry K V)) (m : Moment K V) (map : ℕ) (known : Known) (said : Progress (Node K V)) (told : Outcome V) where
  -- what is told of a call on a whole map: nothing, or the answer of its kind, as the last step says; of a walk a pair, or that all were shown, and then no key has lost its pair within the event
  abbrev pub OutcomeOf : Call K V → Type 0
  OutcomeOf (On one) = Unit {0}
  OutcomeOf Len = SaysNothing told ⊎ ((n : ℕ) × (told ≡ Answered (Counted n)) × IsToldSo known said told)
  OutcomeOf Walk =
      SaysNothing told ⊎ ((n : ℕ) × (told ≡ Shows n) × IsToldSo known said told) ⊎ ((told ≡ Answered Absent) × (said ≡ progress.Done answers.Swept) × LosesNone same (past log) m map)
  OutcomeOf _ = SaysNothing told ⊎ ((told ≡ Answered Completed) × IsToldSo known said told)

module _ (K V : Type 0) (same : K → K → Bool) (hash : ℕ → K → ℕ) where
  -- The promise: so it is of one that has come to its last step, if that is told so, and the map has as many shards as the terms say.
  abbrev pub CallsAreSwept : Type 0
  CallsAreSwept =
      (name : ℕ → List ℕ) (terms : Terms) (log : List (Entry K V)) (beginning : Moment K V) (map i : ℕ) (c : CallThere K V) (steps : ℕ) (done : List Effect) (m : Moment K V) (known : Known)
      (s : Scene K V) (u : UnderWay K V K) (e : Entry K V) → InCallEvent same name terms log e.event beginning map i c steps done m known s u
      → (old new : Held K V) → IsAt same hash old s → (said : Progress (Node K V)) → StepLeads same hash i said s old new
      → at_work e (moment log) ≡ beginning → acted_on e.event beginning ≡ Some map → e.effects ≡ done ++ effects_of (acts.Call i map) known new.changed
      → ((standing : Standing K) → s.maps map ≡ Some standing → suc standing.setting.mask ≡ shards_of terms)
      → OutcomeOf same log m map (known_after (acts.Call i map) new.changed known) said e.outcome c.call → IsSwept same terms log e

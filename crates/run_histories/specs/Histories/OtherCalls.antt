-- Reservations, countings, clearings, retainings and walks: what their steps change, and that their events are linearizable; so are those of no call.
use Rattle.std.specs.Prelude.{◌≡◌, ℕ, Bool, List, [], ◌++◌, flat_map, Some, None}
use Rattle.run_places.specs.Given.SeizeWordsDeclared.fault.Fault.TheVariants.{Busy}
use Rattle.run_places.specs.Given.TablesDeclared.node.Node.{Node}
use Rattle.run_places.specs.Given.RawDeclared.machines.progress.Progress.{Progress}
use Rattle.run_places.specs.Given.RunsDeclared.call.Call.{Call}
use Rattle.run_places.specs.Given.RunsDeclared.call.Call.TheVariants.{On}
use Rattle.run_places.specs.Given.RunsDeclared.outcome.Outcome.{Outcome}
use Rattle.run_places.specs.Given.RunsDeclared.outcome.Outcome.TheVariants.{Asks, Answered, Refused}
use Rattle.run_places.specs.Given.SchedulesLinearizable.{shift_of, RemovesOnly, AsksRight, Linearizes}
use Rattle.run_places.specs.Given.SchedulesMoment.{UnderWay as CallThere, Moment}
use Rattle.run_places.specs.Given.SchedulesSequential.{Shift}
use Rattle.run_places.specs.Given.SchedulesViews.{call_of}
use Rattle.run_places.specs.Given.CallersTogether.{UnderWay}
use Rattle.run_places.specs.Given.EffectsEffects.{effects_of}
use Rattle.run_places.specs.Given.EffectsKnown.{Known}
use Rattle.run_places.specs.Given.EffectsDeclared.acting.Acting.TheVariants as acts
use Rattle.run_places.specs.Moments.Whole.{RefinesWhole}
use Rattle.run_histories.specs.Histories.AsCalled.{RefinesAsCalled}
use Rattle.run_places.specs.Given.ScenesHeld.{Held, IsAt}
use Rattle.run_places.specs.Given.ScenesScene.{Scene}
use Rattle.run_places.specs.Given.ScenesStepping.{StepLeads}
use Rattle.run_places.specs.Given.SchedulesTransition.{Past, Transition, worked_by}

-- it is a reservation, a counting, a clearing, a retaining or a walk
abbrev pub IsOnNoKey : {K V : Type 0} → Call K V → Type 0
IsOnNoKey (On one) = ⊥
IsOnNoKey _ = Unit {0}

-- by it no call has terminated, and none asks
abbrev pub IsIdle : {V : Type 0} → Outcome V → Type 0
IsIdle (Answered a) = ⊥
IsIdle (Refused Busy) = Unit {0}
IsIdle (Refused fault) = ⊥
IsIdle (Asks question) = ⊥
IsIdle _ = Unit {0}

module _ (K V : Type 0) (same : K → K → Bool) (hash : ℕ → K → ℕ) where
  -- The promises: a step of such a call changes no pair, but one of a clearing may remove one, and one of a retaining one about which the last reply was no.
  abbrev pub OthersRemoveOnly : Type 0
  OthersRemoveOnly =
      (name : ℕ → List ℕ) (m : Moment K V) (known : Known) (s : Scene K V) (old new : Held K V) → IsAt same hash old s → RefinesWhole same name m known s
      → RefinesAsCalled same name m known s
      → (map i : ℕ) (u : UnderWay K V K) (here : s.calls map i ≡ Some u) (said : Progress (Node K V)) (leads : StepLeads same hash i said s old new)
      → (c : CallThere K V) → call_of (name i) m ≡ Some c → IsOnNoKey c.call
      → RemovesOnly same c.call c (flat_map shift_of (effects_of (acts.Call i map) known new.changed))

module _ (K V : Type 0) (same : K → K → Bool) where
  -- So do several steps,
  abbrev pub RemovalsAdd : Type 0
  RemovalsAdd = (call : Call K V) (c : CallThere K V) (done more : List Shift) → RemovesOnly same call c done → RemovesOnly same call c more
      → RemovesOnly same call c (done ++ more)

  -- and an event by which a call on no key removes only what it may, and asks what it may, is linearizable,
  abbrev pub OthersAreLinearizable : Type 0
  OthersAreLinearizable =
      (log : Past K V) (t : Transition K V) (own : List ℕ) (map : ℕ) (c : CallThere K V) → t.caller ≡ Some own → call_of own t.found ≡ Some c
      → t.map ≡ Some map → IsOnNoKey c.call → RemovesOnly same c.call c (flat_map shift_of t.effects)
      → ((d : CallThere K V) → call_of own (worked_by t) ≡ Some d → AsksRight same d.stands d (log.since d.begun) t.outcome)
      → Linearizes same log t

  -- and one that is no step of a call, and by which no pair comes or goes.
  abbrev pub NoCallsAreLinearizable : Type 0
  NoCallsAreLinearizable = (log : Past K V) (t : Transition K V) → t.caller ≡ None → flat_map shift_of t.effects ≡ [] → Linearizes same log t

  -- So is one that does nothing, and by which no call has terminated or asks.
  abbrev pub IdleAreLinearizable : Type 0
  IdleAreLinearizable = (log : Past K V) (t : Transition K V) → t.effects ≡ [] → IsIdle t.outcome → Linearizes same log t

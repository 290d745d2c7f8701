-- What lookups under way have read, where calls begin, step and come to an outcome meanwhile.
use Rattle.std.specs.Prelude.{◌≡◌, ℕ, Bool, true, false, List, Some, None, if◌then◌else◌, Option}
use Rattle.run_places.specs.Given.RunsSame.{is_same}
use Rattle.run_places.specs.Given.TablesDeclared.node.Node.{Node}
use Rattle.run_places.specs.Given.ResizeDeclared.lookup.Lookup.{Lookup}
use Rattle.run_places.specs.Given.ResizeDeclared.lookup.Looking.TheVariants as looking
use Rattle.run_places.specs.Given.RawDeclared.machines.call.Calling.TheVariants as at
use Rattle.run_places.specs.Given.RawDeclared.machines.progress.Progress.{Progress}
use Rattle.run_places.specs.Given.RunsDeclared.call.Call.{Call}
use Rattle.run_places.specs.Given.RunsDeclared.call.Reply.{Reply}
use Rattle.run_places.specs.Given.RunsDeclared.outcome.Outcome.{Outcome}
use Rattle.run_places.specs.Given.SchedulesBeginning.{with_call}
use Rattle.run_places.specs.Given.SchedulesEffects.{with_effects}
use Rattle.run_places.specs.Given.SchedulesEntry.{ends_call}
use Rattle.run_places.specs.Given.SchedulesMoment.{UnderWay as CallThere, Moment}
use Rattle.run_places.specs.Given.SchedulesViews.{call_of}
use Rattle.run_places.specs.Given.CallersTogether.{CallOnKey, UnderWay, OnKey}
use Rattle.run_places.specs.Given.EffectsEffects.{effects_of}
use Rattle.run_places.specs.Given.EffectsKnown.{Known}
use Rattle.run_places.specs.Given.EffectsDeclared.acting.Acting.TheVariants as acts
use Rattle.run_places.specs.Given.SeizeWorld.{Event as WorldEvent}
use Rattle.run_places.specs.Given.FinishesMaps.{Standing}
use Rattle.run_places.specs.Given.OthersRows.{scene_then}
use Rattle.run_places.specs.Given.RunsDeclared.effect.Effect.{Effect}
use Rattle.run_places.specs.Given.FollowsCalling.{NoneNamed, told, come_to}
use Rattle.run_places.specs.Moments.Whole.{RefinesWhole}
use Rattle.run_histories.specs.Promises.Reading.{looks, HasStood, RefinesReadings}
use Rattle.run_places.specs.Given.ScenesHeld.{Held, IsAt}
use Rattle.run_places.specs.Given.ScenesOnSlots.{HappensAt}
use Rattle.run_places.specs.Given.ScenesReplying.{scene_with}
use Rattle.run_places.specs.Given.ScenesScene.{Scene}
use Rattle.run_places.specs.Given.ScenesStepping.{StepLeads, scene_after}
use Rattle.run_places.specs.Given.SchedulesTransition.{Past}

module _ (K V : Type 0) (same : K → K → Bool) where
  -- The promises: so it is where a call has come to an outcome by the steps that it has made, if it is a lookup, and no other one has made some,
  abbrev pub CallsComeToReadings : Type 0
  CallsComeToReadings =
      (name : ℕ → List ℕ) (log : Past K V) (made : ℕ → ℕ) (m : Moment K V) (known : Known) (s : Scene K V) → RefinesWhole same name m known s → RefinesReadings name log made m s
      → (own : List ℕ) (outcome : Outcome V) (steps : ℕ) → (ends_call outcome ≡ true → NoneNamed name own s)
      → ((map i : ℕ) (u : UnderWay K V K) → s.calls map i ≡ Some u → (c : CallThere K V) → call_of (name i) m ≡ Some c → looks c.call ≡ true
      → made i ≡ (if is_same (name i) own then steps else 0))
      → RefinesReadings name log (λ i. 0) (come_to own outcome steps m) s

  -- it begins to look for its key, if it is a lookup
  abbrev pub BeginsToLook : UnderWay K V K → Call K V → Type 0
  BeginsToLook u call =
      looks call ≡ true → (k : CallOnKey K V K) × (l : Lookup) × (u ≡ OnKey k) × (k.call.stands ≡ at.Looks l) × (l.stands ≡ looking.Roots)

  -- and where one begins within the next event, by a name that no call under way has.
  abbrev pub CallsBeginReadings : Type 0
  CallsBeginReadings =
      (name : ℕ → List ℕ) (log : Past K V) (m : Moment K V) (known : Known) (s : Scene K V) → RefinesWhole same name m known s → RefinesReadings name log (λ i. 0) m s
      → (map i : ℕ) (u : UnderWay K V K) (call : Call K V) (guard : List ℕ) → NoneNamed name (name i) s → BeginsToLook u call → m.events ≡ log.entries
      → RefinesReadings name log (λ i. 0) (with_call (name i) guard call (Some map) m) (scene_with map i u s)

-- So it is where a call that is no lookup is told a reply.
abbrev pub CallsTakeReadings : Type 0 → Type 0 → Type 0
CallsTakeReadings K V =
    (name : ℕ → List ℕ) (log : Past K V) (made : ℕ → ℕ) (m : Moment K V) (s : Scene K V) → RefinesReadings name log made m s
    → (shown : (map i : ℕ) (u : UnderWay K V K) → s.calls map i ≡ Some u → (c : CallThere K V) × (call_of (name i) m ≡ Some c))
    → (map i : ℕ) (c : CallThere K V) → call_of (name i) m ≡ Some c → looks c.call ≡ false → (is_told : Reply V) (next : UnderWay K V K)
    → RefinesReadings name log made (told (name i) is_told m) (scene_with map i next s)

module _ (K V : Type 0) (same : K → K → Bool) (hash : ℕ → K → ℕ) where
  -- So it is after a step of a call that is no lookup.
  abbrev pub OthersPreserveReadings : Type 0
  OthersPreserveReadings =
      (name : ℕ → List ℕ) (log : Past K V) (made : ℕ → ℕ) (m : Moment K V) (known : Known) (s : Scene K V) (old new : Held K V) → IsAt same hash old s
      → RefinesWhole same name m known s → RefinesReadings name log made m s
      → (map i : ℕ) (u : UnderWay K V K) (here : s.calls map i ≡ Some u) (said : Progress (Node K V)) (leads : StepLeads same hash i said s old new)
      → (c : CallThere K V) → call_of (name i) m ≡ Some c → looks c.call ≡ false
      → (let to = leads map u here in
      RefinesReadings name log made (with_effects (Some (name i)) (Some map) (effects_of (acts.Call i map) known new.changed) m)
      (scene_after same s old new map i to.0 u to.1 said to.4))

  -- So it is where a row on a slot begins, or takes a step.
  abbrev pub RowsPreserveReadings : Type 0
  RowsPreserveReadings =
      (name : ℕ → List ℕ) (log : Past K V) (made : ℕ → ℕ) (m : Moment K V) (s : Scene K V) (old new : Held K V) (event : WorldEvent (Node K V))
      (happened : HappensAt same hash event s old new) (effects : List Effect) → RefinesReadings name log made m s
      → RefinesReadings name log made (with_effects None None effects m) (scene_then same hash event s old new happened)

-- And so it is by the work of no call, as that of makings and ends, which leaves calls, and the maps that have some.
abbrev pub OtherWorkPreservesReadings : Type 0 → Type 0 → Type 0
OtherWorkPreservesReadings K V =
    (name : ℕ → List ℕ) (log : Past K V) (made : ℕ → ℕ) (m : Moment K V) (s s2 : Scene K V) (of : Option ℕ) (effects : List Effect)
    → ((map i : ℕ) (u : UnderWay K V K) → s2.calls map i ≡ Some u → s.calls map i ≡ Some u)
    → ((map i : ℕ) (u : UnderWay K V K) → s2.calls map i ≡ Some u → (standing : Standing K) → s2.maps map ≡ Some standing → HasStood s.maps map standing)
    → RefinesReadings name log made m s → RefinesReadings name log made (with_effects None of effects m) s2

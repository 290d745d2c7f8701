-- Lookups that are under way at a moment of a run: what they have read so far.
use Rattle.std.specs.Prelude.{◌≡◌, ℕ, suc, ◌+◌, ◌==◌, ◌≤◌, Bool, true, false, List, [], Option, Some, if◌then◌else◌}
use Rattle.run_places.specs.Given.TablesChunks.{is_incremental}
use Rattle.run_places.specs.Given.TablesDeclared.node.Node.{Node}
use Rattle.run_places.specs.Given.ResizeDeclared.lookup.Lookup.{Lookup}
use Rattle.run_places.specs.Given.RawDeclared.machines.call.Calling.TheVariants as at
use Rattle.run_places.specs.Given.RawDeclared.machines.progress.Progress.{Progress}
use Rattle.run_places.specs.Given.RuleChart.{Chart}
use Rattle.run_places.specs.Given.RunsDeclared.call.Call.{Call}
use Rattle.run_places.specs.Given.RunsDeclared.call.Call.TheVariants.{On}
use Rattle.run_places.specs.Given.SchedulesMoment.{UnderWay as CallThere, Moment}
use Rattle.run_places.specs.Given.SchedulesSequential.{is_lookup}
use Rattle.run_places.specs.Given.SchedulesViews.{call_of}
use Rattle.run_places.specs.Given.CallersTogether.{UnderWay, OnKey}
use Rattle.run_places.specs.Given.FinishesMaps.{Standing}
use Rattle.run_places.specs.Given.EffectsEffects.{effects_of}
use Rattle.run_places.specs.Given.EffectsKnown.{Known}
use Rattle.run_places.specs.Given.EffectsDeclared.acting.Acting.TheVariants as acts
use Rattle.run_places.specs.Moments.Whole.{RefinesWhole}
use Rattle.run_histories.specs.Promises.Brief.{TablesLast, ReadsSince}
use Rattle.run_places.specs.Given.ScenesHeld.{Held, IsAt}
use Rattle.run_places.specs.Given.ScenesScene.{Scene}
use Rattle.run_places.specs.Given.ScenesStepping.{StepLeads, scene_after}
use Rattle.run_places.specs.Given.SchedulesTransition.{Past, further}
use Rattle.run_places.specs.Changes.Histories.{IsPast}
use Rattle.run_places.specs.Given.SchedulesEntry.{IfCall, acting}
use Rattle.run_places.specs.Given.SchedulesSteps.{IsBrief}

module _ {K V : Type 0} where
  -- the call is a lookup
  abbrev pub looks : Call K V → Bool
  looks (On one) = is_lookup one
  looks _ = false

  -- it looks for its key still, and has read so much by so many steps
  abbrev pub HasLooked : Bool → ℕ → Chart K → List (Moment K V) → ℕ → UnderWay K V K → Type 0
  HasLooked incremental map c moments steps (OnKey u) = (l : Lookup) × (u.call.stands ≡ at.Looks l) × ReadsSince incremental map c moments steps l.stands
  HasLooked incremental map c moments steps _ = ⊥

  -- with so many steps more the call of this caller has read few words
  abbrev pub HasReadFew : Past K V → Option (List ℕ) → ℕ → Moment K V → Type 0
  HasReadFew log caller steps m = IfCall (λ c. IsBrief c.call c (log.since c.begun) m (c.steps + steps)) (acting caller m)

-- Each lookup that is under way has made the steps of its moment, and those that its event has made so far, and has read no more than these. It began with an
-- event of the log, or with the next one.
pub record RefinesReadings {K V : Type 0} (name : ℕ → List ℕ) (log : Past K V) (made : ℕ → ℕ) (m : Moment K V) (s : Scene K V) : Type 0 where
  pub past : IsPast log
  pub begun : (map i : ℕ) (u : UnderWay K V K) → s.calls map i ≡ Some u → (c : CallThere K V) → call_of (name i) m ≡ Some c → looks c.call ≡ true → c.begun ≤ log.entries
  pub reads : (map i : ℕ) (u : UnderWay K V K) → s.calls map i ≡ Some u → (c : CallThere K V) → call_of (name i) m ≡ Some c → looks c.call ≡ true
      → (standing : Standing K) → s.maps map ≡ Some standing
      → HasLooked (is_incremental standing.setting.mode) map standing.chart (log.since c.begun) (c.steps + made i) u

-- the steps that a caller has made, with one more of this one
abbrev pub one_more_of : ℕ → (ℕ → ℕ) → ℕ → ℕ
one_more_of i made j = if j == i then suc (made j) else made j

-- a map that stands stood, with its setting, and has the tables that it had
abbrev pub HasStood : {K : Type 0} → (ℕ → Option (Standing K)) → ℕ → Standing K → Type 0
HasStood {K} maps map standing =
    (before : Standing K) × (maps map ≡ Some before) × (standing.setting ≡ before.setting) × TablesLast before.chart standing.chart

module _ {K V : Type 0} (name : ℕ → List ℕ) where
  -- Each lookup that is under way was so as it is, with as many steps; and each map that has calls stood, with its setting and its tables.
  pub record LookupsStay (made : ℕ → ℕ) (m : Moment K V) (s : Scene K V) (made2 : ℕ → ℕ) (m2 : Moment K V) (s2 : Scene K V) : Type 0 where
    pub calls : (map i : ℕ) (u : UnderWay K V K) → s2.calls map i ≡ Some u → (d : CallThere K V) → call_of (name i) m2 ≡ Some d → looks d.call ≡ true
        → (s.calls map i ≡ Some u)
        × (c : CallThere K V) × (call_of (name i) m ≡ Some c) × (looks c.call ≡ true) × (d.begun ≡ c.begun) × (d.steps + made2 i ≡ c.steps + made i)
    pub maps : (map i : ℕ) (u : UnderWay K V K) → s2.calls map i ≡ Some u → (standing : Standing K) → s2.maps map ≡ Some standing → HasStood s.maps map standing

module _ (K V : Type 0) (name : ℕ → List ℕ) where
  -- The promises: so lookups have read what they had read,
  abbrev pub ReadingsStay : Type 0
  ReadingsStay =
      (log : Past K V) (made made2 : ℕ → ℕ) (m m2 : Moment K V) (s s2 : Scene K V) → LookupsStay name made m s made2 m2 s2 → RefinesReadings name log made m s
      → RefinesReadings name log made2 m2 s2

  -- and where an event is over, and its moment is one of the log.
  abbrev pub EventsPreserveReadings : Type 0
  EventsPreserveReadings =
      (log : Past K V) (next : Moment K V) (made : ℕ → ℕ) (m : Moment K V) (s : Scene K V) → RefinesReadings name log made m s → next.events ≡ suc log.entries
      → RefinesReadings name (further next log) made m s

module _ (K V : Type 0) (same : K → K → Bool) (hash : ℕ → K → ℕ) where
  -- A step of a lookup does nothing to pairs, tables and blocks.
  abbrev pub LookupsDoNothing : Type 0
  LookupsDoNothing =
      (known : Known) (s : Scene K V) (old new : Held K V) (i : ℕ) (said : Progress (Node K V)) → StepLeads same hash i said s old new
      → (map : ℕ) (u : UnderWay K V K) → s.calls map i ≡ Some u → (incremental : Bool) (c : Chart K) (moments : List (Moment K V)) (steps : ℕ)
      → HasLooked incremental map c moments steps u → effects_of (acts.Call i map) known new.changed ≡ []

  -- By it the lookup has read no more than by a step more, where maps and tables are as they were at the end of the last event.
  abbrev pub LookupsPreserveReadings : Type 0
  LookupsPreserveReadings =
      (name : ℕ → List ℕ) (log : Past K V) (made : ℕ → ℕ) (m : Moment K V) (known : Known) (s : Scene K V) (old new : Held K V) → IsAt same hash old s
      → RefinesWhole same name m known s → RefinesReadings name log made m s → m.maps ≡ log.now.maps → m.tables ≡ log.now.tables
      → (map i : ℕ) (u : UnderWay K V K) (here : s.calls map i ≡ Some u) (said : Progress (Node K V)) (leads : StepLeads same hash i said s old new)
      → (c : CallThere K V) → call_of (name i) m ≡ Some c → looks c.call ≡ true
      → (let to = leads map u here in
      RefinesReadings name log (one_more_of i made) m (scene_after same s old new map i to.0 u to.1 said to.4))

  -- And with its next step it has read few words, by the moments of its call; so what has that as its last step reads briefly.
  abbrev pub EventsReadBriefly : Type 0
  EventsReadBriefly =
      (name : ℕ → List ℕ) (log : Past K V) (made : ℕ → ℕ) (m : Moment K V) (known : Known) (s : Scene K V) (e : Held K V) → IsAt same hash e s
      → RefinesWhole same name m known s → RefinesReadings name log made m s
      → (map i : ℕ) (u : UnderWay K V K) → s.calls map i ≡ Some u
      → (caller : Option (List ℕ)) → caller ≡ Some (name i) → (steps : ℕ) → steps ≤ suc (made i) → HasReadFew log caller steps m

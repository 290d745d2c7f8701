-- What is so at each moment of a run whose events come to what is right for them, and keep the promise `life`: tables, pairs and calls stay within what their maps have
-- had. So all that waits does so in order.
use Rattle.std.specs.Prelude.{◌≡◌, ℕ, ◌+◌, ◌<◌, ◌≤◌, ◌==◌, Bool, true, List, [], length, Option, Some}
use Rattle.std.specs.List.{AllByRecursion, list_any}
use Rattle.run_executor.specs.Given.RunsDeclared.effect.Effect.{Effect}
use Rattle.run_executor.specs.Given.RunsDeclared.effect.TableId.{TableId}
use Rattle.run_executor.specs.Given.RunsDeclared.event.Event.{Event}
use Rattle.run_executor.specs.Given.RunsDeclared.event.Event.TheVariants.{Stop}
use Rattle.run_executor.specs.Given.RunsDeclared.outcome.Outcome.{Outcome}
use Rattle.run_executor.specs.Given.RunsDeclared.outcome.Outcome.TheVariants.{Done}
use Rattle.run_executor.specs.Given.SchedulesAfter.{moment, after}
use Rattle.run_executor.specs.Given.SchedulesBeginning.{at_work}
use Rattle.run_executor.specs.Given.SchedulesComing.{is_ready}
use Rattle.run_executor.specs.Given.SchedulesEffects.{with_effects, AtEachEffect}
use Rattle.run_executor.specs.Given.SchedulesEntry.{Entry, caller_of, acted_on}
use Rattle.run_executor.specs.Given.SchedulesHanding.{MovesOn}
use Rattle.run_executor.specs.Given.SchedulesInTurn.{HasRightOutcome}
use Rattle.run_executor.specs.Given.SchedulesLives.{Finds}
use Rattle.run_executor.specs.Given.SchedulesMoment.{InMap, Deferral, UnderWay, MapThere, Moment, start}
use Rattle.run_executor.specs.Given.SchedulesTerms.{Terms}
use Rattle.run_executor.specs.Given.SchedulesViews.{call_of, tables_of}
use Rattle.run_finds.specs.Bounded.{TablesApart}
use Rattle.run_finds.specs.Endings.{AreNamed}
use Rattle.run_finds.specs.Events.{EndedHasNoObligation}
use Rattle.run_finds.specs.Life.{StoresOne}
use Rattle.run_finds.specs.Orderly.{WaitsInOrder}
use Rattle.run_finds.specs.TornDown.{StoredAreSomewhere}
use Rattle.run_finds.specs.Waiting.{owed_in}

module _ {K V : Type 0} where
  -- how many tables a map has had
  abbrev pub many_of : ℕ → Moment K V → ℕ
  many_of map m = length (tables_of map m)

  -- The map of a call is there, a table that it has made is for that map, and the pairs that it owes were stored there.
  pub record HasItsMap (m : Moment K V) (c : UnderWay K V) : Type 0 where
    pub there : list_any (λ (f : MapThere). f.number == c.map) m.maps ≡ true
    pub table : (t : TableId) → c.table ≡ Some t → t.map ≡ c.map
    pub owes : (n k : ℕ) → owed_in n c.owes ≡ 1 + k → (1 ≤ n) × (n ≤ length m.stored) × ((m.born n).map ≡ c.map)

  abbrev pub LiesNext : Moment K V → Deferral → Type 0
  LiesNext m d = (1 ≤ d.pair) × ((m.born d.pair).map ≡ d.behind.map) × ((m.born d.pair).turn < (m.spot d.pair).turn) × ((m.spot d.pair).turn ≡ d.behind.turn + 1)

  pub record IsWithin (m : Moment K V) : Type 0 where
    -- each table has a turn below how many its map has had, none is there twice, and each root has one that is no higher;
    pub tables : AllByRecursion (λ u. u.table.turn < many_of u.table.map m) m.tables
    pub apart : TablesApart m.tables
    pub roots : AllByRecursion (λ f. f.first ≤ many_of f.number m) m.maps
    pub made : AllByRecursion (λ f. f.number < m.made) m.maps
    -- each pair lies in a table of the map in which it was stored, which is that in which it is;
    pub spots : (n : ℕ) → 1 ≤ n → n ≤ length m.stored → (m.spot n).turn < many_of (m.born n).map m
    pub maps : (n map : ℕ) → m.place n ≡ InMap map → (1 ≤ n) × ((m.born n).map ≡ map)
    -- and each call has its map
    pub calls : AllByRecursion (HasItsMap m) m.calls
    -- and what waits behind a table of a map was stored there, in a table no later than this one, and lies in the next one
    pub behind : AllByRecursion (LiesNext m) m.deferred

  pub record AllIsInOrder (m : Moment K V) : Type 0 where
    pub waits : WaitsInOrder m
    pub named : AreNamed m
    pub somewhere : StoredAreSomewhere m
    pub within : IsWithin m

  -- the effects of a call are on its map
  abbrev pub ActsOn : Option (List ℕ) → Option ℕ → Moment K V → Type 0
  ActsOn caller acted m = (own : List ℕ) (c : UnderWay K V) → caller ≡ Some own → call_of own m ≡ Some c → acted ≡ Some c.map

  -- a walk that is stopped has no obligation
  abbrev pub StoppedHasNoObligation : Event K V → Outcome V → List (UnderWay K V) → Type 0
  StoppedHasNoObligation (Stop caller) Done calls = EndedHasNoObligation (Some caller) calls
  StoppedHasNoObligation event outcome calls = Unit {0}

  -- a walk that is ready has no obligation
  abbrev pub ReadyHasNoObligation : UnderWay K V → Type 0
  ReadyHasNoObligation c = is_ready c.stands ≡ true → c.owes ≡ []

  abbrev pub ReadyOweNone : Moment K V → Type 0
  ReadyOweNone m = AllByRecursion ReadyHasNoObligation m.calls

  -- An event comes to what is right for it, keeps the promise `life`, and stores one pair by each effect that stores.
  pub record GoesInOrder (terms : Terms) (log : List (Entry K V)) (e : Entry K V) : Type 0 where
    pub right : HasRightOutcome terms log e
    pub life : MovesOn terms log e
    pub stores : (let b = at_work e (moment log) in AtEachEffect (StoresOne (caller_of e.event)) (caller_of e.event) (acted_on e.event b) e.effects b)

-- The promises: so it is before all events,
abbrev pub AllInOrderAtFirst : Type 0 → Type 0 → Type 0
AllInOrderAtFirst K V = AllIsInOrder (start {K = K} {V = V})

-- after any effects that find what `life` asks,
abbrev pub LifePreservesOrder : Type 0 → Type 0 → Type 0
LifePreservesOrder K V =
    (terms : Terms) (caller : Option (List ℕ)) (acted : Option ℕ) (everything : Bool) (moments : List (Moment K V)) (effects : List Effect) (m : Moment K V)
    → AtEachEffect (λ v f. Finds terms caller acted everything moments v f × StoresOne caller v f) caller acted effects m → ActsOn caller acted m → AllIsInOrder m
    → AllIsInOrder (with_effects caller acted effects m)

-- and after each event that goes in order.
abbrev pub EventsPreserveOrder : Type 0 → Type 0 → Type 0
EventsPreserveOrder K V = (terms : Terms) (log : List (Entry K V)) (e : Entry K V) → GoesInOrder terms log e → AllIsInOrder (moment log) × ReadyOweNone (moment log) → AllIsInOrder (after e (moment log)) × ReadyOweNone (after e (moment log))

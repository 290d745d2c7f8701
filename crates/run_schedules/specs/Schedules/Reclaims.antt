-- What is reclaimed, and when: nothing within a critical section in which it left its map, all of it once everything is, and so much at most waits while
-- nobody is there.
use Rattle.std.specs.Prelude.{◌≡◌, ℕ, ◌+◌, ◌-◌, ◌*◌, ◌≤◌, ◌==◌, nat_le, nat_lt, max, Bool, true, false, not, ◌&&◌, ◌||◌, List, ◌++◌, length, filter, flat_map, MatchBool}
use Rattle.std.specs.List.{list_any, list_all}
use Rattle.run_schedules.specs.Runs.LifeCycle.{times}
use Rattle.run_schedules.specs.declared.event.Event.{Event}
use Rattle.run_schedules.specs.declared.event.Event.TheVariants.{ReclaimAll, Close}
use Rattle.run_schedules.specs.declared.outcome.Outcome.{Outcome}
use Rattle.run_schedules.specs.declared.outcome.Outcome.TheVariants.{Done}
use Rattle.run_schedules.specs.declared.effect.TableId.{TableId}
use Rattle.run_schedules.specs.declared.effect.Thing.{Thing}
use Rattle.run_schedules.specs.Schedules.Lists.{is_in, is_empty, numbers_from}
use Rattle.run_schedules.specs.Schedules.Things.{same_table, same_thing}
use Rattle.run_schedules.specs.Schedules.Terms.{Terms}
use Rattle.run_schedules.specs.Schedules.Moment.{Place, Out, Handed, Behind, TableThere, Moment}
use Rattle.run_schedules.specs.Schedules.Views.{is_waiting, places_below, is_stage, is_linked, is_retired, tables_of, chain_of}
use Rattle.run_schedules.specs.Schedules.Entry.{Entry}
use Rattle.run_schedules.specs.Schedules.After.{after, moment}
use Rattle.run_schedules.specs.Schedules.Transition.{Transition, transition}
use Rattle.run_schedules.specs.Schedules.Model.{thing_back, all_left}

abbrev pub is_handed : Place → Bool
is_handed Handed = true
is_handed _ = false

-- what ended maps left over comes last, by root
abbrev pub ComesLast : List Thing → List Thing → Type 0
ComesLast left things = (first : List Thing) × (things ≡ first ++ left)

module _ {K V : Type 0} where
  -- no call is under way, and no slot is active
  abbrev pub is_quiescent : Moment K V → Bool
  is_quiescent m = is_empty m.calls && is_empty m.there.guards

  -- a table of a living map after which there is another one
  abbrev pub has_next : Moment K V → TableId → Bool
  has_next m t =
      list_any (λ f. f.number == t.map) m.maps && list_any (λ u. same_table u.table t) (chain_of t.map m)
      && nat_lt (t.turn + 1) (length (tables_of t.map m))

  -- the pair is behind a table that passes the test
  abbrev pub is_behind : (TableId → Bool) → Moment K V → ℕ → Bool
  is_behind test m n = list_any (λ d. (d.pair == n) && test d.behind) m.deferred

  -- what was retired and not reclaimed
  abbrev pub waiting_things : Moment K V → ℕ
  waiting_things m = places_below is_handed m.place (length m.stored) + length (filter (λ u. is_retired u.stage) m.tables)

  -- A pair waits for a reason: it was retired, an ended map left it over, or it is behind a table that was retired and not reclaimed, or that a map has and
  -- that has a successor.
  abbrev pub has_reason : Moment K V → ℕ → Place → Bool
  has_reason m n Out = false
  has_reason m n Behind = is_behind (λ t. is_stage is_retired t m || has_next m t) m n
  has_reason m n _ = true

  -- and once everything was reclaimed, only for the last reason
  abbrev pub has_last_reason : Moment K V → ℕ → Place → Bool
  has_last_reason m n Behind = is_behind (has_next m) m n
  has_last_reason m n place = not (is_waiting place)

  -- a table is from the root of a living map on, or it was passed and handed over, or it ended with its map
  abbrev pub is_kept : Moment K V → TableThere → Bool
  is_kept m u = not (is_linked u.stage) || list_any (λ f. (f.number == u.table.map) && nat_le f.first u.table.turn) m.maps

  abbrev pub all_pairs : (ℕ → Bool) → Moment K V → Bool
  all_pairs test m = list_all test (numbers_from 1 (length m.stored))

  -- while nobody is there so much waits at most
  abbrev pub IsBounded : ℕ → Moment K V → Type 0
  IsBounded batch_size m = waiting_things m ≤ m.slots * (max batch_size (max m.slots 1) - 1)

  -- while no call is under way each pair waits, and each table is there, for a reason
  pub record IsOrderly (m : Moment K V) : Type 0 where
    pub pairs : all_pairs (λ n. has_reason m n (m.place n)) m ≡ true
    pub tables : list_all (is_kept m) m.tables ≡ true

  -- everything was reclaimed: no pair and no table waits but what is behind the tables of resizes that go on
  pub record IsEmptied (m : Moment K V) : Type 0 where
    pub pairs : all_pairs (λ n. has_last_reason m n (m.place n)) m ≡ true
    pub tables : list_all (λ u. not (is_retired u.stage)) m.tables ≡ true

  -- the collector has ended: each stored pair was reclaimed, once
  abbrev pub IsTornDown : Moment K V → Type 0
  IsTornDown m = all_pairs (λ n. times n m.given_back == 1) m ≡ true

  abbrev pub IfAll : Event K V → Outcome V → Moment K V → Moment K V → List Thing → Type 0
  IfAll ReclaimAll Done before m things = IsEmptied m × ComesLast (all_left before) things
  IfAll Close Done before m things = IsEmptied m × ComesLast (all_left before) things
  IfAll _ _ before m things = Unit {0}

  -- Nothing is reclaimed that left its map in a critical section that the entry does not end.
  abbrev pub Protects : Transition K V → Type 0
  Protects t = list_any (λ s. is_in same_thing s.thing (flat_map thing_back t.effects)) t.left.sheltered ≡ false

  abbrev pub IsProtected : List (Entry K V) → Entry K V → Type 0
  IsProtected log e = Protects (transition log e)

module _ {K V : Type 0} (terms : Terms) where
  pub record LeavesLittle (log : List (Entry K V)) (e : Entry K V) : Type 0 where
    pub bounded : MatchBool (is_quiescent (after e (moment log))) (IsBounded terms.batch_size (after e (moment log))) (Unit {0})
    pub orderly : MatchBool (is_empty (after e (moment log)).calls) (IsOrderly (after e (moment log))) (Unit {0})
    pub emptied : IfAll e.event e.outcome (moment log) (after e (moment log)) (flat_map thing_back e.effects)
    pub torn_down : MatchBool (after e (moment log)).is_closed (IsTornDown (after e (moment log))) (Unit {0})

-- A map that has had no table has counted nothing: so it is at each moment of a run whose events go in order.
use Rattle.std.specs.Prelude.{◌≡◌, ℕ, ◌+◌, ◌<◌, List}
use Rattle.std.specs.List.{AllByRecursion}
use Rattle.run_finds.specs.Given.SchedulesAfter.{after, moment}
use Rattle.run_finds.specs.Given.SchedulesEntry.{Entry}
use Rattle.run_finds.specs.Given.SchedulesMoment.{Moment, UnderWay, start}
use Rattle.run_finds.specs.Given.SchedulesTerms.{Terms}
use Rattle.run_finds.specs.Within.{AllIsInOrder, GoesInOrder, ReadyOweNone, many_of}

module _ {K V : Type 0} where
  -- a call that has something to count is on a map that has had a table
  abbrev pub HasTable : Moment K V → UnderWay K V → Type 0
  HasTable m c = 0 < c.gained + c.lost → 0 < many_of c.map m

  pub record TablelessUncounted (m : Moment K V) : Type 0 where
    pub maps : (of : ℕ) → many_of of m ≡ 0 → (shard : ℕ) → m.shards of shard ≡ 0
    pub calls : AllByRecursion (HasTable m) m.calls

-- The promises: so it is before all events, and after each one.
abbrev pub TablelessAtFirst : Type 0 → Type 0 → Type 0
TablelessAtFirst K V = TablelessUncounted (start {K = K} {V = V})

abbrev pub EventsPreserveTableless : Type 0 → Type 0 → Type 0
EventsPreserveTableless K V =
    (terms : Terms) (log : List (Entry K V)) (e : Entry K V) → GoesInOrder terms log e → AllIsInOrder (moment log) × ReadyOweNone (moment log) → TablelessUncounted (moment log)
    → TablelessUncounted (after e (moment log))

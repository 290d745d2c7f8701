-- As a map ends its tables go with it, and its pairs: each other table has the root before it that it had, and each pair that is in a map has that map. For maps are
-- found by their names, as by their numbers.
use Rattle.std.specs.Prelude.{◌≡◌, true, Some, None}
use Rattle.std.specs.List.{AllByRecursion, list_all}
use Rattle.run_executor.specs.Given.RunsDeclared.event.Event.{Event}
use Rattle.run_executor.specs.Given.RunsDeclared.event.Event.TheVariants.{MakeMap}
use Rattle.run_executor.specs.Given.RunsDeclared.outcome.Outcome.{Outcome}
use Rattle.run_executor.specs.Given.RunsDeclared.outcome.Outcome.TheVariants.{Done}
use Rattle.run_executor.specs.Given.SchedulesAfter.{after}
use Rattle.run_executor.specs.Given.SchedulesEffects.{worked}
use Rattle.run_executor.specs.Given.SchedulesEntry.{Entry}
use Rattle.run_executor.specs.Given.SchedulesHanding.{may_do, IsWhole}
use Rattle.run_executor.specs.Given.SchedulesMoment.{Moment}
use Rattle.run_executor.specs.Given.SchedulesReclaims.{is_kept}
use Rattle.run_executor.specs.Given.SchedulesViews.{map_of}
use Rattle.run_executor.specs.Given.MomentsNumbers.{AreFound}
use Rattle.run_finds.specs.TornDown.{StoredAreSomewhere}
use Rattle.run_finds.specs.Waiting.{PairsArePlaced}

module _ {K V : Type 0} where
  -- each map that is there is the one that is found by its name
  abbrev pub AreNamed : Moment K V → Type 0
  AreNamed m = AllByRecursion (λ f. map_of f.name m ≡ Some f) m.maps

  -- a map that the event makes has a name that none has
  abbrev pub MakesNew : Event K V → Outcome V → Moment K V → Type 0
  MakesNew (MakeMap name mode capacity) Done m = map_of name m ≡ None
  MakesNew _ _ m = Unit {0}

  -- What an event finds where it ends a map, and in which way it does: each map by its name and by its number; and its effects are those of such an event, and all of them.
  pub record EndsWhole (e : Entry K V) (m : Moment K V) : Type 0 where
    pub named : AreNamed m
    pub found : AreFound m
    pub may : list_all (may_do e.event m) e.effects ≡ true
    pub whole : IsWhole e.event e.outcome e.effects m (worked e m)

-- The promises: so it is after each event;
abbrev pub EventsPreserveNamed : Type 0 → Type 0 → Type 0
EventsPreserveNamed K V = (e : Entry K V) (m : Moment K V) → AreNamed m → MakesNew e.event e.outcome m → AreNamed (after e m)

-- each table that has a root before it has one after an event, if it has not gone;
abbrev pub EventsPreserveRoots : Type 0 → Type 0 → Type 0
EventsPreserveRoots K V =
    (e : Entry K V) (m : Moment K V) → EndsWhole e m → AllByRecursion (λ u. is_kept (worked e m) u ≡ true → is_kept (after e m) u ≡ true) (worked e m).tables

-- and each pair that is in a map has that map.
abbrev pub EventsPreserveSomewhere : Type 0 → Type 0 → Type 0
EventsPreserveSomewhere K V =
    (e : Entry K V) (m : Moment K V) → EndsWhole e m → PairsArePlaced (worked e m) → StoredAreSomewhere (worked e m) → StoredAreSomewhere (after e m)

-- On which map an event acts, by the scheduler before it and by what it comes to; and which single events it is of.
use Rattle.std.specs.Prelude.{ℕ, List, [], ◌∷◌, length, find, Option, Some, None, option_map, if◌then◌else◌}
use Rattle.run_schedules.specs.declared.shapes.Single.{Single}
use Rattle.run_schedules.specs.declared.shapes.Single.TheVariants as single
use Rattle.run_schedules.specs.declared.event.Event.{Event}
use Rattle.run_schedules.specs.declared.event.Event.TheVariants.{MakeMap, EndMap, Begin, Step, Go, OneCall, Next}
use Rattle.run_schedules.specs.declared.outcome.Outcome.{Outcome}
use Rattle.run_schedules.specs.declared.outcome.Outcome.TheVariants.{Done}
use Rattle.run_schedules.specs.Schedules.Entry.{is_busy, nameless}
use Rattle.play_events.specs.Given.NamedSeen.{is_named, number_named}
use Rattle.play_events.specs.Given.SchedulerDeclared.scheduler.Scheduler.{Scheduler}
use Rattle.papaya_steps.specs.declared.acting.ActedOn.{ActedOn}
use Rattle.papaya_steps.specs.declared.acting.ActedOn.TheVariants.{On, Calls, Makes}
use Rattle.papaya_steps.specs.declared.acting.Traced.{Traced}
use Rattle.papaya_steps.specs.declared.acting.Traced.TheVariants.{Whole, Begins, Runs, Steps}

module _ {K V S : Type 0} where
  -- the map that the call of this name is on
  abbrev pub called_map : List ℕ → Scheduler K V S → Option ℕ
  called_map own p = option_map (λ d. d.map) (find (is_named own) p.calls)

  abbrev pub acting_of : Event K V → Scheduler K V S → ActedOn
  acting_of (Step caller refuse) p = On (called_map caller p)
  acting_of (Go caller refuse) p = On (called_map caller p)
  acting_of (Next caller) p = On (called_map caller p)
  acting_of (OneCall guard name call) p = Calls (number_named name p.maps) (called_map nameless p)
  acting_of (MakeMap name mode capacity) p = Makes (length p.logged.executor.maps.items) (number_named name p.maps)
  acting_of (EndMap name) p = On (number_named name p.maps)
  acting_of _ p = On None

-- the first of two, if there is one
abbrev pub or_else : Option ℕ → Option ℕ → Option ℕ
or_else None other = other
or_else (Some n) other = Some n

-- the map on which it acts that came to this
abbrev pub map_acted : {V : Type 0} → ActedOn → Outcome V → Option ℕ
map_acted (On map) outcome = map
map_acted (Calls begun other) outcome = if is_busy outcome then other else or_else begun other
map_acted (Makes made other) Done = or_else other (Some made)
map_acted (Makes made other) outcome = other

abbrev pub traced : {K V : Type 0} → Event K V → Traced
traced (Begin caller guard map call) = Begins
traced (OneCall guard map call) = Runs
traced (Step caller refuse) = Steps
traced (Go caller refuse) = Steps
traced (Next caller) = Steps
traced _ = Whole

-- the single events of an event at this place, with so many steps
abbrev pub singles_as : ℕ → Traced → ℕ → List Single
singles_as place Whole steps = single.Whole place ∷ []
singles_as place Begins steps = single.Begin place ∷ []
singles_as place Runs steps = single.Begin place ∷ single.Steps place steps ∷ []
singles_as place Steps steps = single.Steps place steps ∷ []

-- What the definitions of what calls hand over refuse.
use Rattle.std.specs.Prelude.{◌≡◌, ℕ, true, false, List, [], ◌∷◌, Some}
use Rattle.std.proofs.Common.{refl, arith}
use Rattle.play_lists.specs.Given.TablesDeclared.resize_mode.ResizeMode.TheVariants.{Blocking}
use Rattle.run_schedules.specs.declared.call.Response.TheVariants.{Completed}
use Rattle.run_schedules.specs.declared.call.Call.TheVariants.{Clear}
use Rattle.run_schedules.specs.declared.effect.Effect.{Effect}
use Rattle.run_schedules.specs.declared.effect.Effect.TheVariants.{Deferred, Removed, Retired}
use Rattle.run_schedules.specs.declared.effect.TableId.{TableId}
use Rattle.run_schedules.specs.declared.effect.Thing.TheVariants.{APair, ATable}
use Rattle.run_schedules.specs.declared.event.Event.TheVariants.{Begin, MakeMap, Step}
use Rattle.run_schedules.specs.declared.outcome.Outcome.TheVariants.{Answered, Done, Goes}
use Rattle.run_schedules.specs.Schedules.Beginning.{fresh_call}
use Rattle.run_schedules.specs.Schedules.Effects.{with_effects}
use Rattle.run_schedules.specs.Schedules.Entry.{Entry, IfCall}
use Rattle.run_schedules.specs.Schedules.Handing.{IsClear}
use Rattle.run_schedules.specs.Schedules.Lives.{MayDefer}
use Rattle.run_schedules.specs.Schedules.Moment.{Moment, start}
use Rattle.run_schedules.specs.Schedules.Views.{call_of}
use Rattle.play_events.specs.Folded.Folded.{HandInOrder, HandsAllOver, handed, since, took}

abbrev own : List ℕ
own = 1 ∷ []

abbrev table : ℕ → TableId
table turn = record { map = 0; turn = turn }

-- a moment at which its call owes pair 4, and behind that the first table of map 0
abbrev owing : Moment ℕ ℕ
owing = record start { calls = record (fresh_call own [] Clear 0 0) { owes = APair 4 ∷ ATable (table 0) ∷ [] } ∷ [] }

abbrev Hand : List Effect → Type 0
Hand effects = HandInOrder (Some own) (Some 0) effects owing

-- it may retire both, one after another,
retires_both : Hand (Retired (APair 4) ∷ Retired (ATable (table 0)) ∷ [])
retires_both = ((ATable (table 0) ∷ [], refl), (([], refl), tt))

-- but not in another order,
retires_the_last_first : Hand (Retired (ATable (table 0)) ∷ Retired (APair 4) ∷ []) → ⊥
retires_the_last_first hands = let first = hands.0.1 in cc first

-- nor one of them twice,
retires_one_twice : Hand (Retired (APair 4) ∷ Retired (APair 4) ∷ []) → ⊥
retires_one_twice hands = let second = hands.1.0.1 in cc second

-- also where it puts it behind a table first,
defers_and_retires : Hand (Deferred 4 (table 0) ∷ Retired (APair 4) ∷ []) → ⊥
defers_and_retires hands = let second = hands.1.0.1 in cc second

-- nor what it does not owe.
retires_anything : Hand (Retired (APair 5) ∷ []) → ⊥
retires_anything hands = let first = hands.0.1 in cc first

-- One that has ended has not dropped one,
drops_one : IfCall IsClear (call_of own (with_effects (Some own) (Some 0) (Retired (APair 4) ∷ []) owing)) → ⊥
drops_one clear = let none = clear.owes in cc none

-- and none has put a pair behind a table that is not just before the one in which it lies.
defers_behind_another : MayDefer 0 owing 4 (table 1) → ⊥
defers_behind_another may = let next = may.1 in omega (arith, next)

-- Of a log what one caller did counts, since its call began: it removes pair 4, another one removes pair 5, and it retires pair 4.
abbrev by : List ℕ → Effect → Entry ℕ ℕ
by caller effect = record { event = Step caller false; outcome = Goes; steps = 1; effects = effect ∷ [] }

abbrev other : List ℕ
other = 2 ∷ []

abbrev log : List (Entry ℕ ℕ)
log = by own (Retired (APair 4)) ∷ by other (Removed 5) ∷ by own (Removed 4) ∷ by own (Removed 3) ∷ []

took_one : since took 1 own log ≡ APair 4 ∷ []
took_one = refl

handed_one : since handed 1 own log ≡ APair 4 ∷ []
handed_one = refl

-- What it took out before is another call's.
took_before : since took 0 own log ≡ APair 3 ∷ APair 4 ∷ []
took_before = refl

-- A call that has removed a pair, and ends without having handed it over, or with another one handed over, has not handed over what it took out.
abbrev begun : List (Entry ℕ ℕ)
begun =
    record { event = Begin own [] other Clear; outcome = Goes; steps = 0; effects = [] } ∷ record { event = MakeMap other Blocking 0; outcome = Done; steps = 1; effects = [] } ∷ []

abbrev ending : List Effect → Entry ℕ ℕ
ending effects = record { event = Step own false; outcome = Answered Completed; steps = 1; effects = effects }

ends_without_it : HandsAllOver begun (ending (Removed 4 ∷ [])) → ⊥
ends_without_it all = let none = all refl own refl (record (fresh_call own [] Clear 0 1) { lost = 1; owes = APair 4 ∷ [] }) refl in cc none

ends_with_another : HandsAllOver begun (ending (Removed 4 ∷ Retired (APair 5) ∷ [])) → ⊥
ends_with_another all = let one = all refl own refl (record (fresh_call own [] Clear 0 1) { lost = 1; owes = APair 4 ∷ []; has_handed = true }) refl in cc one

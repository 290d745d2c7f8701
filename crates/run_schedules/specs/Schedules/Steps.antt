-- How many steps calls take: each does one thing at most.
use Rattle.std.specs.Prelude.{◌≡◌, ℕ, ◌+◌, ◌≤◌, nat_le, Bool, true, false, List, filter, sum_by, Option, Some, None, MatchBool}
use Rattle.seize_words.specs.declared.fault.Fault.TheVariants.{Busy}
use Rattle.run_schedules.specs.Runs.Stopped.{most_steps}
use Rattle.run_schedules.specs.declared.call.Call.{Call}
use Rattle.run_schedules.specs.declared.call.Call.TheVariants.{On}
use Rattle.run_schedules.specs.declared.event.Event.{Event}
use Rattle.run_schedules.specs.declared.event.Event.TheVariants.{Step, Go, OneCall, Next}
use Rattle.run_schedules.specs.declared.effect.Effect.{Effect}
use Rattle.run_schedules.specs.declared.effect.Effect.TheVariants.{PairMade, TableMade, Replaced}
use Rattle.run_schedules.specs.declared.outcome.Outcome.{Outcome}
use Rattle.run_schedules.specs.declared.outcome.Outcome.TheVariants.{Goes, Asks, Waits, Ready, Refused}
use Rattle.run_schedules.specs.Schedules.Lists.{OneOf}
use Rattle.run_schedules.specs.Schedules.Sequential.{is_lookup}
use Rattle.run_schedules.specs.Schedules.Moment.{CallState, Going, Asking, Told, IsReady, UnderWay, TableThere, Moment}
use Rattle.run_schedules.specs.Schedules.Views.{map_at, grows_in_chunks, first_of, tables_of}
use Rattle.run_schedules.specs.Schedules.Entry.{Entry, IfCall, caller_of, acting}
use Rattle.run_schedules.specs.Schedules.Beginning.{at_work}
use Rattle.run_schedules.specs.Schedules.Effects.{worked}
use Rattle.run_schedules.specs.Schedules.After.{moment, moments_from}

-- What is made was asked for in the same step, and what is replaced gives way in the step that stores.
abbrev pub weight : Effect → ℕ
weight PairMade = 0
weight (TableMade t) = 0
weight (Replaced n) = 0
weight _ = 1

-- as many steps as one event may make: a call that goes on made all of them
abbrev pub MakesAll : {V : Type 0} → ℕ → Outcome V → Type 0
MakesAll steps Goes = steps ≡ most_steps
MakesAll steps _ = steps ≤ most_steps

-- one step is made by a call that was going, unless it asks, waits or is ready
abbrev pub MakesOne : {V : Type 0} → ℕ → Outcome V → Type 0
MakesOne steps (Asks q) = steps ≤ 1
MakesOne steps Waits = steps ≤ 1
MakesOne steps Ready = steps ≤ 1
MakesOne steps outcome = steps ≡ 1

-- at least one is made by a call that was going, unless it asks, waits or is ready
abbrev pub MakesSome : {V : Type 0} → ℕ → Outcome V → Type 0
MakesSome steps (Asks q) = Unit {0}
MakesSome steps Waits = Unit {0}
MakesSome steps Ready = Unit {0}
MakesSome steps outcome = 1 ≤ steps

-- how far a call is says which steps it makes: none without the reply that it wants, and one that has just got it may need none to go on
abbrev pub Steps : {V : Type 0} → Bool → CallState → ℕ → Outcome V → Type 0
Steps single (Asking q) steps outcome = steps ≡ 0
Steps single IsReady steps outcome = steps ≡ 0
Steps true Told steps outcome = steps ≤ 1
Steps true Going steps outcome = MakesOne steps outcome
Steps false Going steps outcome = MakesSome steps outcome × MakesAll steps outcome
Steps false stands steps outcome = MakesAll steps outcome

-- each of a call's effects is a step of its own
abbrev pub DoesFew : Option (List ℕ) → ℕ → List Effect → Type 0
DoesFew None steps effects = Unit {0}
DoesFew (Some caller) steps effects = sum_by weight effects ≤ steps

abbrev pub state_or : {K V : Type 0} → Option (UnderWay K V) → CallState
state_or None = Going
state_or (Some c) = c.stands

module _ {K V : Type 0} where
  abbrev pub MakesSteps : Event K V → CallState → ℕ → Outcome V → Type 0
  MakesSteps event stands steps (Refused Busy) = steps ≡ 0
  MakesSteps (Step caller refuse) stands steps outcome = Steps true stands steps outcome
  MakesSteps (Go caller refuse) stands steps outcome = Steps false stands steps outcome
  MakesSteps (OneCall guard map call) stands steps outcome = (1 ≤ steps) × MakesAll steps outcome
  MakesSteps (Next caller) stands steps outcome = 1 ≤ steps
  MakesSteps _ stands steps outcome = steps ≡ 0

-- a lookup reads the root, and of each table that it enters at most the words up to its last try, and what comes next; it enters none twice
abbrev pub may_read : List TableThere → ℕ
may_read tables = 1 + sum_by (λ t. t.shape.limit + 2) tables

module _ {K V : Type 0} where
  -- the tables that were tables of a map since its root had this turn
  abbrev pub met_from : ℕ → ℕ → Moment K V → List TableThere
  met_from map first m = filter (λ t. nat_le first t.table.turn) (tables_of map m)

  abbrev pub root_table : ℕ → Moment K V → List TableThere
  root_table map m = filter (λ t. nat_le t.table.turn (first_of map m)) (met_from map (first_of map m) m)

  -- in incremental mode it goes on from the root of a moment to all later tables; in blocking mode it stays in the root's
  abbrev pub ReadsFew : Bool → UnderWay K V → Moment K V → ℕ → Moment K V → Type 0
  ReadsFew true c now steps m = steps ≤ may_read (met_from c.map (first_of c.map m) now)
  ReadsFew false c now steps m = steps ≤ may_read (root_table c.map m)

  abbrev pub IsBrief : Call K V → UnderWay K V → List (Moment K V) → Moment K V → ℕ → Type 0
  IsBrief (On one) c moments now steps = MatchBool (is_lookup one) (OneOf (ReadsFew (grows_in_chunks (map_at c.map now)) c now steps) moments) (Unit {0})
  IsBrief _ c moments now steps = Unit {0}

  abbrev pub ReadsBriefly : List (Entry K V) → Entry K V → Moment K V → Type 0
  ReadsBriefly log e w = IfCall (λ c. IsBrief c.call c (moments_from c.begun log) w (c.steps + e.steps)) (acting (caller_of e.event) w)

  -- the event makes as many steps as it may, and does not more than these
  pub record TakesSteps (log : List (Entry K V)) (e : Entry K V) : Type 0 where
    pub makes : MakesSteps e.event (state_or (acting (caller_of e.event) (at_work e (moment log)))) e.steps e.outcome
    pub does : DoesFew (caller_of e.event) e.steps e.effects
    pub brief : ReadsBriefly log e (worked e (moment log))

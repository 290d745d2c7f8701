-- What is promised of a whole run, over every schedule.
use Rattle.std.specs.Prelude.{◌≡◌, ℕ, ◌==◌, Bool, ◌||◌, List, [], ◌∷◌, ◌++◌, length, map, filter, find, IsSorted, Option, option_map, if◌then◌else◌}
use Rattle.std.specs.List.{AllByRecursion}
use Rattle.std.specs.Ordering.{nat_cmp}
use Rattle.run_schedules.specs.declared.shapes.Single.{Single}
use Rattle.run_schedules.specs.declared.shapes.Single.TheVariants.{Whole, Begin as Begun, Steps}
use Rattle.run_schedules.specs.declared.ended.Living.{Living}
use Rattle.run_schedules.specs.declared.ended.Pair.{Pair}
use Rattle.run_schedules.specs.Runs.LifeCycle.{times}
use Rattle.run_schedules.specs.Runs.Log.{pair_at}
use Rattle.run_schedules.specs.Runs.Pairs.{numbers}
use Rattle.run_schedules.specs.Runs.Runs.{IsStored}
use Rattle.run_schedules.specs.declared.event.Event.{Event}
use Rattle.run_schedules.specs.declared.event.Event.TheVariants.{Begin, Step, Go, OneCall, Next}
use Rattle.run_schedules.specs.declared.outcome.Outcome.{Outcome}
use Rattle.run_schedules.specs.declared.effect.Effect.{Effect}
use Rattle.run_schedules.specs.declared.record.Run.{Run}
use Rattle.run_schedules.specs.Schedules.Terms.{Terms}
use Rattle.run_schedules.specs.Schedules.Moment.{Place, MapThere, Moment}
use Rattle.run_schedules.specs.Schedules.Views.{is_in_map, is_in_a_map, is_waiting, is_retired}
use Rattle.run_schedules.specs.Schedules.Entry.{Entry, is_busy}
use Rattle.run_schedules.specs.Schedules.After.{moment, AtEachEvent}
use Rattle.run_schedules.specs.Schedules.InTurn.{HasRightOutcome}
use Rattle.run_schedules.specs.Schedules.Steps.{TakesSteps}
use Rattle.run_schedules.specs.Schedules.Waiting.{WaitsLawfully}
use Rattle.run_schedules.specs.Schedules.Linearizable.{IsLinearizable}
use Rattle.run_schedules.specs.Schedules.Sweeps.{IsSwept}
use Rattle.run_schedules.specs.Schedules.Handing.{MovesOn}
use Rattle.run_schedules.specs.Schedules.Model.{IsByModel}
use Rattle.run_schedules.specs.Schedules.Reclaims.{IsProtected, LeavesLittle}

-- What is promised of each event, by the events before it, whatever calls are under way, ask or go on.
pub record IsLegal {K V : Type 0} (eq : K → K → Bool) (terms : Terms) (log : List (Entry K V)) (e : Entry K V) : Type 0 where
  -- it comes to what is right for it, and is refused in no other case
  pub right : HasRightOutcome terms log e
  -- each step of a call does one thing at most
  pub steps : TakesSteps log e
  -- a call waits only where what it is to go on with may be being copied, or another one has still to hand something over
  pub waits : WaitsLawfully eq log e
  -- each call on one key answers what one finite map answers at a moment within the call, and changes it in one step
  pub linearizable : IsLinearizable eq log e
  -- each call on a whole map does what it is for
  pub swept : IsSwept eq terms log e
  -- each pair, each table and each block moves forward through its life, and no call leaves anything behind
  pub life : MovesOn terms log e
  -- nothing is reclaimed while a guard is open in whose critical section it left its map
  pub protected : IsProtected log e
  -- what is reclaimed is what the waiting-set model reclaims, in its order, where calls come one after another
  pub by_model : IsByModel terms log e
  -- little waits while nobody is there, and each pair is reclaimed once in the end
  pub little : LeavesLittle terms log e

-- the log is one that a run may have
abbrev pub IsLegalLog : {K V : Type 0} → (K → K → Bool) → Terms → List (Entry K V) → Type 0
IsLegalLog eq terms log = AtEachEvent (IsLegal eq terms) log

module _ {K V : Type 0} where
  -- the log of a schedule, on top of an earlier log
  abbrev pub log_on : List (Entry K V) → List (Event K V) → List (Outcome V) → List ℕ → List (List Effect) → List (Entry K V)
  log_on log (e ∷ events) (o ∷ outcomes) (s ∷ steps) (f ∷ effects) =
      log_on (record { event = e; outcome = o; steps = s; effects = f } ∷ log) events outcomes steps effects
  log_on log _ _ _ _ = log

  abbrev pub log_of : List (Event K V) → Run K V → List (Entry K V)
  log_of schedule run = log_on [] schedule run.outcomes.items run.steps.items (map (λ v. v.items) run.effects.items)

  -- the single events of an event, by its place
  abbrev pub singles : ℕ → Event K V → ℕ → List Single
  singles place (Begin caller guard map call) steps = Begun place ∷ []
  singles place (OneCall guard map call) steps = Begun place ∷ Steps place steps ∷ []
  singles place (Step caller refuse) steps = Steps place steps ∷ []
  singles place (Go caller refuse) steps = Steps place steps ∷ []
  singles place (Next caller) steps = Steps place steps ∷ []
  singles place event steps = Whole place ∷ []

  abbrev pub singles_of : ℕ → Entry K V → List Single
  singles_of place e = if is_busy e.outcome then Whole place ∷ [] else singles place e.event e.steps

  -- the trace of a log: its single events, in order
  abbrev pub trace_of : List (Entry K V) → List Single
  trace_of [] = []
  trace_of (e ∷ log) = trace_of log ++ singles_of (length log) e

  -- these numbers, each once, are those at places that pass the test
  abbrev pub Lists : List ℕ → (Place → Bool) → Moment K V → Type 0
  Lists listed test m = (n : ℕ) → times n listed ≡ (if test (m.place n) then 1 else 0)

  -- each map that is there, in the order in which they were made, with its name and pairs
  abbrev pub ListsMaps : List Living → List MapThere → Moment K V → Type 0
  ListsMaps [] [] m = Unit {0}
  ListsMaps (living ∷ maps) (f ∷ there) m = (living.name ≡ f.name) × Lists living.pairs.items (is_in_map f.number) m × ListsMaps maps there m
  ListsMaps _ _ m = ⊥

  -- the pair of a number, reclaimed or not
  abbrev pub pair_of : Run K V → ℕ → Option (Pair K V)
  pair_of run n = find (λ p. p.number == n) (run.given_back ++ run.kept)

  -- what a run tells at its end is what its events say, also while calls are under way
  pub record ReportsEnd (m : Moment K V) (run : Run K V) : Type 0 where
    pub stored : run.stored ≡ length m.stored
    pub maps : ListsMaps run.maps.items m.maps m
    pub waiting : Lists run.waiting.items is_waiting m
    pub ascending : IsSorted nat_cmp run.waiting.items
    pub tables : run.tables ≡ length (filter (λ u. is_retired u.stage) m.tables)
    pub given_back : numbers run.given_back ≡ m.given_back
    pub contents : AllByRecursion (IsStored m.stored) run.given_back
    pub kept : Lists (numbers run.kept) (λ place. is_in_a_map place || is_waiting place) m
    pub pairs : (n : ℕ) → option_map (λ p. (p.key, p.value)) (pair_of run n) ≡ pair_at m.stored n

-- The run is one of this schedule: each event has its outcome, its steps and its effects, they make a legal log, and the run tells how that ends.
pub record IsRunOf {K V : Type 0} (eq : K → K → Bool) (terms : Terms) (schedule : List (Event K V)) (run : Run K V) : Type 0 where
  pub outcomes : length run.outcomes.items ≡ length schedule
  pub steps : length run.steps.items ≡ length schedule
  pub effects : length run.effects.items ≡ length schedule
  pub trace : run.trace.items ≡ trace_of (log_of schedule run)
  pub legal : IsLegalLog eq terms (log_of schedule run)
  pub tells : ReportsEnd (moment (log_of schedule run)) run

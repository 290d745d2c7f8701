-- The log of a schedule, one event longer; and the map on which an event acts.
use Rattle.std.specs.Prelude.{◌≡◌, ℕ, ◌+◌, Bool, true, false, List, [], ◌∷◌, ◌++◌, length, find, Option, Some, None, option_map, if◌then◌else◌}
use Rattle.std.proofs.Common.{refl, sym, ap, ◌∙◌, arith}
use Rattle.run_schedules.specs.declared.shapes.Single.{Single}
use Rattle.run_schedules.specs.declared.shapes.Single.TheVariants as single
use Rattle.run_schedules.specs.Runs.Same.{is_same}
use Rattle.run_schedules.proofs.Runs.Sames.{same_refl}
use Rattle.run_schedules.specs.declared.call.Call.{Call}
use Rattle.run_schedules.specs.declared.effect.Effect.{Effect}
use Rattle.run_schedules.specs.declared.event.Event.{Event}
use Rattle.run_schedules.specs.declared.event.Event.TheVariants.{Collector, Hash, Choose, Register, Unregister, Enter, Own, Refresh, Flush, DropGuard, Forget, ReclaimAll, Close, MakeMap, EndMap, ShowShape, Begin, Step, Go, Replied, OneCall, Next, Stop}
use Rattle.run_schedules.specs.declared.outcome.Outcome.{Outcome}
use Rattle.run_schedules.specs.declared.outcome.Outcome.TheVariants.{Done, Goes}
use Rattle.run_schedules.specs.Schedules.After.{moment}
use Rattle.run_schedules.specs.Schedules.Beginning.{at_work, begun, fresh_call, with_call}
use Rattle.run_schedules.specs.Schedules.Entry.{Entry, acted_on, is_busy, nameless}
use Rattle.run_schedules.specs.Schedules.Moment.{MapThere, UnderWay, Moment}
use Rattle.run_schedules.specs.Schedules.Runs.{log_on, singles, singles_of}
use Rattle.run_schedules.specs.Schedules.Terms.{Terms}
use Rattle.run_schedules.specs.Schedules.Views.{call_of, number_of}
use Rattle.play_events.proofs.Given.RowsLists.{found_alike}
use Rattle.play_events.specs.Given.SchedulerPlayed.{RefinesFor}
use Rattle.play_events.specs.Given.NamedSeen.{Seen, is_named, number_named, seen, seen_of}
use Rattle.play_events.specs.Given.ExecutorDeclared.caller.NamedCaller.{NamedCaller}
use Rattle.play_events.specs.Given.SchedulerDeclared.scheduler.Scheduler.{Scheduler}
use Rattle.play_events.proofs.Given.SchedulerMaps.{number_is}
use Rattle.papaya_steps.specs.WholeRuns.Acting.{acting_of, called_map, map_acted, or_else, singles_as, traced}
use Rattle.papaya_steps.specs.declared.acting.Traced.{Traced}
use Rattle.papaya_steps.specs.declared.acting.Traced.TheVariants.{Whole}

module _ {K V : Type 0} where
  -- one entry more
  pub log_more : (log : List (Entry K V)) (events : List (Event K V)) (outcomes : List (Outcome V)) (steps : List ℕ) (effects : List (List Effect)) (e : Event K V) (o : Outcome V) (s : ℕ) (f : List Effect)
      → length outcomes ≡ length events → length steps ≡ length events → length effects ≡ length events
      → log_on log (events ++ e ∷ []) (outcomes ++ o ∷ []) (steps ++ s ∷ []) (effects ++ f ∷ []) ≡ record { event = e; outcome = o; steps = s; effects = f } ∷ log_on log events outcomes steps effects
  log_more log [] [] [] [] e o s f a b c = refl
  log_more log [] (x ∷ outcomes) steps effects e o s f a b c = absurd (omega (arith, a))
  log_more log [] [] (x ∷ steps) effects e o s f a b c = absurd (omega (arith, b))
  log_more log [] [] [] (x ∷ effects) e o s f a b c = absurd (omega (arith, c))
  log_more log (y ∷ events) [] steps effects e o s f a b c = absurd (omega (arith, a))
  log_more log (y ∷ events) (x ∷ outcomes) [] effects e o s f a b c = absurd (omega (arith, b))
  log_more log (y ∷ events) (x ∷ outcomes) (z ∷ steps) [] e o s f a b c = absurd (omega (arith, c))
  log_more log (y ∷ events) (x ∷ outcomes) (z ∷ steps) (g ∷ effects) e o s f a b c =
      log_more (record { event = y; outcome = x; steps = z; effects = g } ∷ log) events outcomes steps effects e o s f (omega (arith, a)) (omega (arith, b)) (omega (arith, c))

  pub log_long : (log : List (Entry K V)) (events : List (Event K V)) (outcomes : List (Outcome V)) (steps : List ℕ) (effects : List (List Effect))
      → length outcomes ≡ length events → length steps ≡ length events → length effects ≡ length events → length (log_on log events outcomes steps effects) ≡ length events + length log
  log_long log [] [] [] [] a b c = omega arith
  log_long log [] (x ∷ outcomes) steps effects a b c = absurd (omega (arith, a))
  log_long log [] [] (x ∷ steps) effects a b c = absurd (omega (arith, b))
  log_long log [] [] [] (x ∷ effects) a b c = absurd (omega (arith, c))
  log_long log (y ∷ events) [] steps effects a b c = absurd (omega (arith, a))
  log_long log (y ∷ events) (x ∷ outcomes) [] effects a b c = absurd (omega (arith, b))
  log_long log (y ∷ events) (x ∷ outcomes) (z ∷ steps) [] a b c = absurd (omega (arith, c))
  log_long log (y ∷ events) (x ∷ outcomes) (z ∷ steps) (g ∷ effects) a b c =
      let more = log_long (record { event = y; outcome = x; steps = z; effects = g } ∷ log) events outcomes steps effects (omega (arith, a)) (omega (arith, b)) (omega (arith, c)) in omega (arith, more)

  -- so many events have come
  pub events_are : (log : List (Entry K V)) → (moment log).events ≡ length log
  events_are [] = refl
  events_are (e ∷ log) = let more = events_are log in omega (arith, more)

  -- the single events of an event, by what it is
  singles_so : (place steps : ℕ) (e : Event K V) → singles place e steps ≡ singles_as place (traced e) steps
  singles_so place steps (Collector setup) = refl
  singles_so place steps (Hash by) = refl
  singles_so place steps (Choose choice) = refl
  singles_so place steps (Register r) = refl
  singles_so place steps (Unregister r) = refl
  singles_so place steps (Enter g r) = refl
  singles_so place steps (Own g) = refl
  singles_so place steps (Refresh g) = refl
  singles_so place steps (Flush g) = refl
  singles_so place steps (DropGuard g) = refl
  singles_so place steps (Forget g) = refl
  singles_so place steps ReclaimAll = refl
  singles_so place steps Close = refl
  singles_so place steps (MakeMap n mode c) = refl
  singles_so place steps (EndMap n) = refl
  singles_so place steps (ShowShape n) = refl
  singles_so place steps (Begin c g n call) = refl
  singles_so place steps (Step c refuse) = refl
  singles_so place steps (Go c refuse) = refl
  singles_so place steps (Replied c reply) = refl
  singles_so place steps (OneCall g n call) = refl
  singles_so place steps (Next c) = refl
  singles_so place steps (Stop c) = refl

  pub singles_are : (place : ℕ) (e : Entry K V) → (if is_busy e.outcome then single.Whole place ∷ [] else singles_as place (traced e.event) e.steps) ≡ singles_of place e
  singles_are place e = ap (λ (l : List Single). if is_busy e.outcome then single.Whole place ∷ [] else l) (sym (singles_so place e.steps e.event))

  -- What an event begins moves no pair and no table.
  abbrev Same : (b m : Moment K V) → Type 0
  Same b m = (b.place ≡ m.place) × (b.deferred ≡ m.deferred) × (b.tables ≡ m.tables)

  called_same : (caller guard : List ℕ) (call : Call K V) (number : Option ℕ) (m : Moment K V) → Same (with_call caller guard call number m) m
  called_same caller guard call None m = (refl, refl, refl)
  called_same caller guard call (Some n) m = (refl, refl, refl)

  pub begun_same : (e : Event K V) (o : Outcome V) (m : Moment K V) → Same (begun e o m) m
  begun_same (Collector setup) o m = (refl, refl, refl)
  begun_same (Hash by) o m = (refl, refl, refl)
  begun_same (Choose choice) o m = (refl, refl, refl)
  begun_same (Register r) o m = (refl, refl, refl)
  begun_same (Unregister r) o m = (refl, refl, refl)
  begun_same (Enter g r) o m = (refl, refl, refl)
  begun_same (Own g) o m = (refl, refl, refl)
  begun_same (Refresh g) o m = (refl, refl, refl)
  begun_same (Flush g) o m = (refl, refl, refl)
  begun_same (DropGuard g) o m = (refl, refl, refl)
  begun_same (Forget g) o m = (refl, refl, refl)
  begun_same ReclaimAll o m = (refl, refl, refl)
  begun_same Close o m = (refl, refl, refl)
  begun_same (MakeMap n mode c) Done m = (refl, refl, refl)
  begun_same (MakeMap n mode c) o m = (refl, refl, refl)
  begun_same (EndMap n) o m = (refl, refl, refl)
  begun_same (ShowShape n) o m = (refl, refl, refl)
  begun_same (Begin c g n call) Goes m = called_same c g call (number_of n m) m
  begun_same (Begin c g n call) o m = (refl, refl, refl)
  begun_same (Step c refuse) o m = (refl, refl, refl)
  begun_same (Go c refuse) o m = (refl, refl, refl)
  begun_same (Replied c reply) o m = (refl, refl, refl)
  begun_same (OneCall g n call) o m = by (is_busy o)
    where
      by : (b : Bool) → Same (if b then m else with_call nameless g call (number_of n m) m) m
      by true = (refl, refl, refl)
      by false = called_same nameless g call (number_of n m) m
  begun_same (Next c) o m = (refl, refl, refl)
  begun_same (Stop c) o m = (refl, refl, refl)

seen_map : {K V : Type 0} (o : Option (UnderWay K V)) → option_map (λ (z : Seen). z.map) (option_map seen o) ≡ option_map (λ c. c.map) o
seen_map None = refl
seen_map (Some c) = refl

seen_map_of : {V : Type 0} (o : Option (NamedCaller V)) → option_map (λ (z : Seen). z.map) (option_map seen_of o) ≡ option_map (λ d. d.map) o
seen_map_of None = refl
seen_map_of (Some d) = refl

-- the first that passes of a longer list
found_last : {X : Type 0} (p : X → Bool) (f : X → ℕ) (x : X) → p x ≡ true → (xs : List X) → option_map f (find p (xs ++ x ∷ [])) ≡ or_else (option_map f (find p xs)) (Some (f x))
found_last p f x is [] = ap (λ (b : Bool). option_map f (if b then Some x else None)) is
found_last p f x is (y ∷ xs) = by (p y) (found_last p f x is xs)
  where
    by : (b : Bool) → option_map f (find p (xs ++ x ∷ [])) ≡ or_else (option_map f (find p xs)) (Some (f x))
        → option_map f (if b then Some y else find p (xs ++ x ∷ [])) ≡ or_else (option_map f (if b then Some y else find p xs)) (Some (f x))
    by true ih = refl
    by false ih = ih

module _ {K V S : Type 0} (same : K → K → Bool) (hash : K → ℕ) (terms : Terms) (m : Moment K V) (p : Scheduler K V S) (stands : RefinesFor same hash terms m p) (next : length p.logged.executor.maps.items ≡ m.made) where
  pub called_so : (own : List ℕ) → option_map (λ c. c.map) (call_of own m) ≡ called_map own p
  called_so own =
      sym (seen_map (call_of own m)) ∙ ap (option_map (λ (z : Seen). z.map)) (found_alike seen seen_of m.calls p.calls stands.calls.listed (λ z. is_same z.name own))
      ∙ seen_map_of (find (is_named own) p.calls)

  -- a whole call acts on its map, once it has begun
  begun_so : (g n : List ℕ) (call : Call K V) (number : Option ℕ) → option_map (λ c. c.map) (call_of nameless (with_call nameless g call number m)) ≡ or_else number (called_map nameless p)
  begun_so g n call None = called_so nameless
  begun_so g n call (Some k) = ap (λ (b : Bool). option_map (λ c. c.map) (if b then Some (fresh_call nameless g call k m.events) else find (λ c. is_same c.caller nameless) m.calls)) (same_refl nameless)

  pub acted_so : (e : Entry K V) → acted_on e.event (at_work e m) ≡ map_acted (acting_of e.event p) e.outcome
  acted_so e = by e.event e.outcome
    where
      by : (event : Event K V) (o : Outcome V) → acted_on event (begun event o m) ≡ map_acted (acting_of event p) o
      by (Step c refuse) o = called_so c
      by (Go c refuse) o = called_so c
      by (Next c) o = called_so c
      by (OneCall g n call) o = whole (is_busy o)
        where
          whole : (b : Bool) → option_map (λ c. c.map) (call_of nameless (if b then m else with_call nameless g call (number_of n m) m))
              ≡ (if b then called_map nameless p else or_else (number_named n p.maps) (called_map nameless p))
          whole true = called_so nameless
          whole false = begun_so g n call (number_of n m) ∙ ap (λ (x : Option ℕ). or_else x (called_map nameless p)) (number_is same hash terms m p stands n)
      by (MakeMap n mode c) Done =
          found_last (λ (f : MapThere). is_same f.name n) (λ f. f.number) _ (same_refl n) m.maps
          ∙ ap (λ (k : ℕ). or_else (number_of n m) (Some k)) (sym next) ∙ ap (λ (x : Option ℕ). or_else x (Some (length p.logged.executor.maps.items))) (number_is same hash terms m p stands n)
      by (MakeMap n mode c) o = number_is same hash terms m p stands n
      by (EndMap n) o = number_is same hash terms m p stands n
      by (Collector setup) o = refl
      by (Hash h) o = refl
      by (Choose choice) o = refl
      by (Register r) o = refl
      by (Unregister r) o = refl
      by (Enter g r) o = refl
      by (Own g) o = refl
      by (Refresh g) o = refl
      by (Flush g) o = refl
      by (DropGuard g) o = refl
      by (Forget g) o = refl
      by ReclaimAll o = refl
      by Close o = refl
      by (ShowShape n) o = refl
      by (Begin c g n call) Goes = refl
      by (Begin c g n call) o = refl
      by (Replied c reply) o = refl
      by (Stop c) o = refl

-- an event that is out of turn is a single event itself
pub by_turn : (place steps : ℕ) (t : Traced) (b : Bool) → singles_as place (if b then Whole else t) steps ≡ (if b then single.Whole place ∷ [] else singles_as place t steps)
by_turn place steps t true = refl
by_turn place steps t false = refl

-- Maps have no fewer tables at later moments of a run. So a call that makes a table behind the last one has found that full, at moments since it began.
use Rattle.std.specs.Prelude.{◌≡◌, ◌+◌, ◌≤◌, ◌==◌, nat_lt, ℕ, zero, suc, Bool, true, false, List, [], ◌∷◌, Option, Some, None, length, if◌then◌else◌}
use Rattle.std.proofs.Common.{refl, arith, inl, inr}
use Rattle.papaya_raw.specs.declared.machines.call.Calling.{Calling}
use Rattle.papaya_raw.specs.declared.machines.call.Calling.TheVariants as at
use Rattle.run_schedules.specs.declared.call.Call.{Call}
use Rattle.run_schedules.specs.declared.event.Event.{Event}
use Rattle.run_schedules.specs.declared.event.Event.TheVariants.{Begin, MakeMap, OneCall}
use Rattle.run_schedules.specs.declared.outcome.Outcome.{Outcome}
use Rattle.run_schedules.specs.declared.outcome.Outcome.TheVariants.{Done, Goes}
use Rattle.run_schedules.specs.Schedules.After.{after, moment, moments_from}
use Rattle.run_schedules.specs.Schedules.Beginning.{at_work, begun, with_call}
use Rattle.run_schedules.specs.Schedules.Entry.{Entry, acted_on, caller_of, is_busy, nameless}
use Rattle.run_schedules.specs.Schedules.Lists.{OneOf}
use Rattle.run_schedules.specs.Schedules.Moment.{Moment, UnderWay as CallThere, start}
use Rattle.run_schedules.specs.Schedules.Tries.{FindsTaken, Meets, try_at}
use Rattle.run_schedules.specs.Schedules.Views.{call_of, number_of}
use Rattle.run_finds.specs.Given.CallersTogether.{Counting, ForRoom, OnKey, OverAll, UnderWay}
use Rattle.run_finds.proofs.Given.ChangesLogs.{each_of}
use Rattle.run_finds.specs.Linking.{FoundFull, HasFoundFull}
use Rattle.run_finds.specs.Within.{many_of}
use Rattle.run_finds.proofs.Grows.Steps.{tables_have_been}
use Rattle.run_grows.specs.Grows.Tries.{HasTaken, MeetsBy, RefinesTries, TakenOrPassed, TriedAt, TablesLast}
use Rattle.run_grows.proofs.Grows.Finding.Alike.{many_same}
use Rattle.run_finds.specs.Given.ScenesScene.{Scene}
use Rattle.run_schedules.specs.Schedules.Transition.{Past, past}
use Rattle.std.specs.List.{AllByRecursion}

module _ {K V : Type 0} (map : ℕ) where
  call_tables : (caller guard : List ℕ) (call : Call K V) (o : Option ℕ) (m : Moment K V) → (with_call caller guard call o m).tables ≡ m.tables
  call_tables caller guard call None m = refl
  call_tables caller guard call (Some of) m = refl

  -- what an event begins links no table
  begun_tables : (event : Event K V) (outcome : Outcome V) (m : Moment K V) → (begun event outcome m).tables ≡ m.tables
  begun_tables (Begin caller guard name call) Goes m = call_tables caller guard call (number_of name m) m
  begun_tables (OneCall guard name call) outcome m = by (is_busy outcome)
    where
      by : (q : Bool) → (if q then m else with_call nameless guard call (number_of name m) m).tables ≡ m.tables
      by true = refl
      by false = call_tables nameless guard call (number_of name m) m
  begun_tables (MakeMap name mode capacity) Done m = refl
  begun_tables _ _ m = refl

  pub many_grows : (e : Entry K V) (m : Moment K V) → many_of map m ≤ many_of map (after e m)
  many_grows e m =
      let begins = many_same m (at_work e m) (begun_tables e.event e.outcome m) map in
      let works = tables_have_been K V (caller_of e.event) (acted_on e.event (at_work e m)) e.effects (at_work e m) map in
      omega (arith, begins, works)

-- so in a run no map had more tables at any moment than at the last one
module _ {K V : Type 0} where
  more_last : (e : Entry K V) (m : Moment K V) (moments : List (Moment K V)) → AllByRecursion (λ v. (map : ℕ) → many_of map v ≤ many_of map m) moments
      → AllByRecursion (λ v. (map : ℕ) → many_of map v ≤ many_of map (after e m)) moments
  more_last e m [] last = tt
  more_last e m (x ∷ moments) last = (λ map. (let few = last.0 map in let more = many_grows map e m in omega (arith, few, more)), more_last e m moments last.1)

  pub tables_last : (log : List (Entry K V)) → TablesLast (past log)
  tables_last [] begun = by (begun == 0)
    where
      by : (q : Bool) → AllByRecursion (λ (v : Moment K V). (map : ℕ) → many_of map v ≤ many_of map (start {K = K} {V = V})) (if q then start ∷ [] else [])
      by true = (λ map. omega arith, tt)
      by false = tt
  tables_last (e ∷ log) begun = by (nat_lt (length (e ∷ log)) begun) (tables_last log begun)
    where
      by : (q : Bool) → AllByRecursion (λ (v : Moment K V). (map : ℕ) → many_of map v ≤ many_of map (moment log)) (moments_from begun log)
          → AllByRecursion (λ (v : Moment K V). (map : ℕ) → many_of map v ≤ many_of map (moment (e ∷ log))) (if q then [] else moment (e ∷ log) ∷ moments_from begun log)
      by true before = tt
      by false before = (λ map. omega arith, more_last e (moment log) (moments_from begun log) before)

  -- what was so at a moment was so where the map had no more tables than later
  one_late : (map : ℕ) (P : Moment K V → Type 0) (now : Moment K V) (moments : List (Moment K V)) → AllByRecursion (λ v. (of : ℕ) → many_of of v ≤ many_of of now) moments → OneOf P moments
      → OneOf (λ x. P x × (many_of map x ≤ many_of map now)) moments
  one_late map P now [] last none = none
  one_late map P now (x ∷ moments) last (inl so) = inl (so, last.0 map)
  one_late map P now (x ∷ moments) last (inr there) = inr (one_late map P now moments last.1 there)

-- so tries at the last table meet what they meet at these moments
module _ {K V : Type 0} (map begun : ℕ) (log : Past K V) (since_last : TablesLast log) (m : Moment K V) (more : many_of map log.now ≤ many_of map m) (turn len hash : ℕ) (last : suc turn ≡ many_of map m) where
  abbrev moments : List (Moment K V)
  moments = m ∷ log.since begun

  module _ (try met before pairs : ℕ) (rest : Meets map turn len hash moments try before) (sum : met ≡ before + pairs) where
    abbrev Found : Moment K V → Type 0
    Found x = (b : ℕ) × (q : ℕ) × Meets map turn len hash moments try b × FindsTaken map (try_at turn len hash try) x q × (met ≡ b + q)

    found_at : (x : Moment K V) → many_of map x ≤ many_of map m → TakenOrPassed map (try_at turn len hash try, pairs) x → Found x
    found_at x few (inl found) = (before, pairs, rest, found, sum)
    found_at x few (inr passed) = absurd (omega (arith, few, passed, last))

    found_one : HasTaken map begun log m (try_at turn len hash try, pairs) → OneOf Found moments
    found_one (inr now) = inl (found_at m (omega arith) now)
    found_one (inl had) =
        inr (each_of (λ x. TakenOrPassed map (try_at turn len hash try, pairs) x × (many_of map x ≤ many_of map log.now)) Found (log.since begun)
        (λ x so. found_at x (let few = so.1 in omega (arith, few, more)) so.0) (one_late map (λ x. TakenOrPassed map (try_at turn len hash try, pairs) x) log.now (log.since begun) (since_last begun) had))

  meets_so : (tries met : ℕ) → MeetsBy (HasTaken map begun log m) turn len hash tries met → Meets map turn len hash moments tries met
  meets_so zero met so = so
  meets_so (suc try) met (before, pairs, rest, why, sum) = found_one try met before pairs (meets_so try before rest) sum why

-- The promise: what a call finds full it has found full since it began.
pub found_full_so : {K V : Type 0} (name : ℕ → List ℕ) (log : Past K V) → TablesLast log → (m : Moment K V) (s : Scene K V) → RefinesTries name log m s → (map i : ℕ) → many_of map log.now ≤ many_of map m
    → (u : UnderWay K V K) → s.calls map i ≡ Some u → (c : CallThere K V) → call_of (name i) m ≡ Some c → FoundFull map (many_of map m) (m ∷ log.since c.begun) u
found_full_so name log since_last m s tries map i more (OnKey u) here c c_is = by u.call.stands (tries map i (OnKey u) here c c_is)
  where
    by : (stands : Calling) → TriedAt (HasTaken map c.begun log m) u.call stands → HasFoundFull map (many_of map m) (m ∷ log.since c.begun) u.call stands
    by (at.Allocs making) so = λ last. (u.call.hash, meets_so map c.begun log since_last m more u.call.trial.table.turn u.call.trial.table.len u.call.hash last (suc u.call.trial.table.limit) u.call.trial.met so.1)
    by _ so = tt
found_full_so name log since_last m s tries map i more (ForRoom r) here c c_is = tt
found_full_so name log since_last m s tries map i more (Counting sum) here c c_is = tt
found_full_so name log since_last m s tries map i more (OverAll o) here c c_is = tt

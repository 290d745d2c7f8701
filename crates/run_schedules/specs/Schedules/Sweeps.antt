-- Calls on whole maps: walks, `clear`, `retain`, `len` and `reserve`.
use Rattle.std.specs.Prelude.{◌≡◌, ℕ, ◌+◌, ◌≤◌, Bool, true, false, not, ◌&&◌, ◌||◌, List, [], ◌∷◌, filter, length, nat_le, Option, Some, is_some, if◌then◌else◌, Result, Ok, Err}
use Rattle.std.specs.List.{list_all, AllByRecursion}
use Rattle.seize_words.specs.declared.fault.Fault.{Fault}
use Rattle.papaya_raw.specs.Given.TablesLengths.{len_of}
use Rattle.run_schedules.specs.Runs.Log.{pair_at, is_key}
use Rattle.run_schedules.specs.declared.call.Call.{Call}
use Rattle.run_schedules.specs.declared.call.Call.TheVariants.{Reserve, Clear, Retain, Len, Walk}
use Rattle.run_schedules.specs.declared.call.Response.TheVariants.{Absent, Completed, Counted}
use Rattle.run_schedules.specs.declared.call.Reply.{Reply}
use Rattle.run_schedules.specs.declared.call.Reply.TheVariants.{Decides}
use Rattle.run_schedules.specs.declared.outcome.Outcome.{Outcome}
use Rattle.run_schedules.specs.declared.outcome.Outcome.TheVariants.{Shows, Answered}
use Rattle.run_schedules.specs.Schedules.Lists.{OneOf, is_among, numbers_from}
use Rattle.run_schedules.specs.Schedules.Terms.{Terms, shards_of}
use Rattle.run_schedules.specs.Schedules.Counts.{Counts}
use Rattle.run_schedules.specs.Schedules.Moment.{UnderWay, TableThere, Moment}
use Rattle.run_schedules.specs.Schedules.Views.{finite_map, is_in_map, reply_to, first_of}
use Rattle.run_schedules.specs.Schedules.Entry.{Entry, IfCall}
use Rattle.run_schedules.specs.Schedules.Transition.{Past, Transition, call_left, past, transition, worked_by}
use Rattle.run_schedules.specs.Schedules.Steps.{met_from}

-- the reply was yes
abbrev pub is_yes : {V : Type 0} → Option (Reply V) → Bool
is_yes (Some (Decides true)) = true
is_yes _ = false

module _ {K V : Type 0} (eq : K → K → Bool) where
  -- how many of these pairs have such a key
  abbrev pub with_key : K → List (K × V) → List ℕ → ℕ
  with_key k stored [] = 0
  with_key k stored (n ∷ numbers) = (if is_key eq (pair_at stored n) k then 1 else 0) + with_key k stored numbers

  -- the key had a pair at each of these moments
  abbrev pub HasBeen : K → ℕ → List (Moment K V) → Type 0
  HasBeen k map moments = AllByRecursion (λ m. is_some (finite_map eq map m k) ≡ true) moments

  -- a key that had a pair all the time is shown once
  abbrev pub ShowsAll : UnderWay K V → List (Moment K V) → Moment K V → Type 0
  ShowsAll c moments now = (k : K) → HasBeen k c.map moments → with_key k now.stored c.shown ≡ 1

module _ {K V : Type 0} where
  -- a walk shows pairs that were in the map at a moment of it, and none twice
  abbrev pub MayShow : UnderWay K V → List (Moment K V) → ℕ → Type 0
  MayShow c moments n = OneOf (λ m. is_in_map c.map (m.place n) ≡ true) moments × (is_among n c.shown ≡ false)

  -- the pair was in the map at each of these moments, and still is
  abbrev pub stays : ℕ → List (Moment K V) → Moment K V → ℕ → Bool
  stays map moments now n = list_all (λ m. is_in_map map (m.place n)) moments && is_in_map map (now.place n)

  -- Of the pairs that were in the map all the time `clear` leaves none, and `retain` those about which the last reply was yes.
  abbrev pub ClearsAll : UnderWay K V → List (Moment K V) → Moment K V → Type 0
  ClearsAll c moments now = list_all (λ n. not (stays c.map moments now n)) (numbers_from 1 (length now.stored)) ≡ true

  abbrev pub RetainsOnly : UnderWay K V → List (Moment K V) → Moment K V → Type 0
  RetainsOnly c moments now =
      list_all (λ n. not (stays c.map moments now n) || is_yes (reply_to (Some n) c.replies)) (numbers_from 1 (length now.stored)) ≡ true

-- a table that can be had, and the root's is no shorter
abbrev pub Fits : Result ℕ Fault → ℕ → Type 0
Fits (Ok len) root = len ≤ root
Fits (Err fault) root = ⊥

module _ {K V : Type 0} where
  -- The tables that were the root of a map since its root had this turn, up to where it is now. The root of a moment is not enough: within one event of
  -- another call it may come to a table and leave it.
  abbrev pub roots_since : ℕ → ℕ → Moment K V → List TableThere
  roots_since first map now = filter (λ t. nat_le t.table.turn (first_of map now)) (met_from map first now)

module _ {K V : Type 0} (terms : Terms) where
  -- a reservation that is answered has counted so many pairs at moments of the call, and the root's table had room for so many more since then
  abbrev pub FindsRoom : ℕ → UnderWay K V → List (Moment K V) → Moment K V → Type 0
  FindsRoom more c moments now =
      (n : ℕ) × Counts (shards_of terms) c.map moments n
      × OneOf (λ m. OneOf (λ t. Fits (len_of (n + more)) t.shape.len) (roots_since (first_of c.map m) c.map now)) moments

module _ {K V : Type 0} (eq : K → K → Bool) (terms : Terms) where
  abbrev pub Sweeps : Call K V → UnderWay K V → List (Moment K V) → Moment K V → Outcome V → Type 0
  Sweeps Walk c moments now (Shows n) = MayShow c moments n
  Sweeps Walk c moments now (Answered Absent) = ShowsAll eq c moments now
  Sweeps Clear c moments now (Answered Completed) = ClearsAll c moments now
  Sweeps Retain c moments now (Answered Completed) = RetainsOnly c moments now
  Sweeps Len c moments now (Answered (Counted n)) = Counts (shards_of terms) c.map moments n
  Sweeps (Reserve more) c moments now (Answered Completed) = FindsRoom terms more c (now ∷ moments) now
  Sweeps _ c moments now _ = Unit {0}

  -- a call on a whole map does what it is for
  abbrev pub SweepsRight : Past K V → Transition K V → Type 0
  SweepsRight log t = IfCall (λ c. Sweeps c.call c (log.since c.begun) (worked_by t) t.outcome) (call_left t)

  abbrev pub IsSwept : List (Entry K V) → Entry K V → Type 0
  IsSwept log e = SweepsRight (past log) (transition log e)

-- Rows one after another: a caller begins a row and takes its steps until it rests, and nothing else happens meanwhile. What such rows give
-- back, and in which order, is what the waiting sets say.
use Rattle.std.specs.Prelude.{◌≡◌, ℕ, zero, suc, ◌+◌, ◌^◌, ◌<◌, List, [], ◌∷◌, ◌++◌, length, Option, Some, None}
use Rattle.seize.specs.declared.states.TheConstants.{LAST_SLOT}
use Rattle.seize.specs.Law.{Effect, Taken}
use Rattle.seize.specs.WaitingSets.{Change, Enters, Leaves, Refreshes, Retires, Flushes, Defers, Ends, Sets, further_of, all_changed, at_start as sets_at_start}
use Rattle.seize.specs.World.{World, Rests, Use, Vacant, Inside, Request, Register', Enter', Leave', LeaveOwned, Refresh, Unregister', Retire, Flush, Defer', Event, Begin, Step, Ends as EndsOwner, LeavesOver, Relinks, Clears, Begins, Steps', Happens, at_start}

-- what happens between two moments at which every row rests
pub data Turn (T : Type 0) : Type 0 where
  Whole : ℕ → Request → Turn T  -- this caller begins a row, which runs until it rests
  Between : Event T → Turn T  -- an event that is neither a row's beginning nor a step of one

-- an event of the users of what goes on
abbrev pub IsUsers : {T : Type 0} → Event T → Type 0
IsUsers (Begin i request) = ⊥
IsUsers (Step i) = ⊥
IsUsers (EndsOwner i o) = ⊥
IsUsers (LeavesOver i b further) = ⊥
IsUsers (Relinks i b word) = ⊥
IsUsers (Clears i b) = ⊥
IsUsers _ = Unit {0}

-- and one of what ends, too
abbrev pub IsBetween : {T : Type 0} → Event T → Type 0
IsBetween (Begin i request) = ⊥
IsBetween (Step i) = ⊥
IsBetween _ = Unit {0}

-- what it changes in the waiting sets: further values that are left over wait no more
abbrev pub ended_by : {T : Type 0} → Event T → List Change
ended_by (LeavesOver i b (c ∷ further)) = Ends b ∷ []
ended_by _ = []

-- the blocks that were reclaimed, in order
abbrev pub taken_in : List Effect → List ℕ
taken_in [] = []
taken_in (Taken b ∷ log) = taken_in log ++ b ∷ []
taken_in (_ ∷ log) = taken_in log

abbrev pub this_or : Use → ℕ → Option ℕ → Option ℕ
this_or Vacant s later = Some s
this_or _ s later = later

-- the first vacant one of so many slots, from this one on
abbrev pub first_vacant : ℕ → ℕ → (ℕ → Use) → Option ℕ
first_vacant zero s uses = None
first_vacant (suc slots) s uses = this_or (uses s) s (first_vacant slots (s + 1) uses)

-- the slot that a row takes which registers now
abbrev pub new_slot : (ℕ → Use) → Option ℕ
new_slot uses = first_vacant (LAST_SLOT + 1) 0 uses

abbrev pub entered_as : ℕ → Use → List Change
entered_as s (Inside rows) = Enters s ∷ []
entered_as s _ = []

abbrev pub entered_at : Option ℕ → (ℕ → Use) → List Change
entered_at None uses = []
entered_at (Some s) uses = entered_as s (uses s)

-- what a whole call changes in the waiting sets, by the uses of slots before it and after it: one that registers may be refused
abbrev pub changes : Request → (ℕ → Use) → (ℕ → Use) → List Change
changes (Register' enters) before after = entered_at (new_slot before) after
changes (Enter' s) before after = Enters s ∷ []
changes (Leave' s) before after = Leaves s ∷ []
changes (LeaveOwned s) before after = Leaves s ∷ []
changes (Refresh s) before after = Refreshes s ∷ []
changes (Unregister' s) before after = []
changes (Retire s b) before after = Retires s b ∷ []
changes (Flush s) before after = Flushes s ∷ []
changes (Defer' s b t) before after = Defers b t ∷ []

-- how much a number weighs: one, and one more for each that is behind it
abbrev pub weight : ℕ → Sets → ℕ
weight n w = suc (length (further_of n w.further))

abbrev pub weight_of_all : List ℕ → Sets → ℕ
weight_of_all [] w = 0
weight_of_all (n ∷ numbers) w = weight n w + weight_of_all numbers w

module _ {T : Type 0} (defers : T → Option ℕ) where
  -- the row of this caller takes so many steps, and rests after the last one
  abbrev pub RunsOn : ℕ → ℕ → World T → World T → Type 0
  RunsOn zero i w n = (w.row i ≡ Rests) × (n ≡ w)
  RunsOn (suc steps) i w n = (v : World T) × Steps' defers i (w.row i) w v × RunsOn steps i v n

  -- a whole call
  abbrev pub Calls : ℕ → ℕ → Request → World T → World T → Type 0
  Calls batch_size i request w n =
      (v : World T) × (steps : ℕ) × (w.row i ≡ Rests) × Begins defers batch_size i request w v × RunsOn steps i v n

  -- one turn after another, and all that they change in the waiting sets
  abbrev pub TakesTurns : ℕ → List (Turn T) → World T → World T → List Change → Type 0
  TakesTurns batch_size [] w n all = (n ≡ w) × (all ≡ [])
  TakesTurns batch_size (Whole i request ∷ turns) w n all =
      (v : World T) × (later : List Change) × Calls batch_size i request w v × TakesTurns batch_size turns v n later
      × (all ≡ changes request w.uses v.uses ++ later)
  TakesTurns batch_size (Between event ∷ turns) w n all =
      (v : World T) × (later : List Change) × IsBetween event × Happens defers batch_size event w v × TakesTurns batch_size turns v n later
      × (all ≡ ended_by event ++ later)

  -- The promise: after any turns from the start, a whole call reclaims what the waiting sets say, in that order. A batch size is a word.
  abbrev pub RowsFollowTheSets : Type 0
  RowsFollowTheSets =
      (batch_size roots : ℕ) (turns : List (Turn T)) (w n : World T) (before : List Change) (i : ℕ) (request : Request)
      → batch_size < 2 ^ 64 → TakesTurns batch_size turns (at_start defers roots) w before → Calls batch_size i request w n
      → taken_in n.log ≡ taken_in w.log ++ (all_changed batch_size (changes request w.uses n.uses) (all_changed batch_size before sets_at_start).sets).reclaimed

  -- and a slot that is taken is the least that was vacant
  abbrev pub NewSlotsAreLeast : Type 0
  NewSlotsAreLeast =
      (batch_size roots : ℕ) (turns : List (Turn T)) (w n : World T) (before : List Change) (i s : ℕ) (request : Request)
      → TakesTurns batch_size turns (at_start defers roots) w before → Calls batch_size i request w n
      → w.uses s ≡ Vacant → (n.uses s ≡ Vacant → ⊥) → new_slot w.uses ≡ Some s

  -- and what a block puts when it is reclaimed weighs together less than the block
  abbrev pub FurtherWeighLess : Type 0
  FurtherWeighLess =
      (batch_size roots : ℕ) (turns : List (Turn T)) (w : World T) (before : List Change) (b : ℕ)
      → batch_size < 2 ^ 64 → TakesTurns batch_size turns (at_start defers roots) w before
      → weight_of_all (further_of b (all_changed batch_size before sets_at_start).sets.further) (all_changed batch_size before sets_at_start).sets
      < weight b (all_changed batch_size before sets_at_start).sets

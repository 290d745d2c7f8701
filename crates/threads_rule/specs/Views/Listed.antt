-- What a list of acts tells of whoever did them: the calls of a seat, each with what its last step told, and what the newest of these steps has seen; which numbers maps got;
-- and that rows are on their callers' slots.
use Rattle.std.specs.Prelude.{◌≡◌, ℕ, suc, ◌/◌, ◌==◌, Bool, List, [], ◌∷◌, Option, Some, if◌then◌else◌}
use Rattle.seize_words.specs.OneMemory.Mem.{Mem}
use Rattle.map_tables.specs.declared.node.Node.{Node}
use Rattle.papaya_raw.specs.declared.machines.progress.Progress.{Progress}
use Rattle.many_acts.specs.Given.ScenesDeclared.callers.TheConstants.{SLOTS}
use Rattle.many_acts.specs.Acts.Acts.{Wanted, Get, Remove, TryToInsert, TryToInsertWith, GetKeyValue, ContainsKey, GetOrInsert, GetOrInsertWith, RemoveEntry, BeginsCall, StepsCall, BeginsMaking, Answer, OfCall}
use Rattle.many_acts.specs.Acts.AsSteps.{IsOwn}
use Rattle.many_acts.specs.Acts.Doings.{Doing, Does}
use Rattle.many_acts.specs.Acts.Lists.{Course, Reached, LedOn, on_by}
use Rattle.threads_rule.specs.Views.Told.{untold}

-- the seat of a caller
abbrev pub seat_of : ℕ → ℕ
seat_of caller = caller / SLOTS

-- a call that was begun: by which caller, on which map, and to do what; and what its last step has told
pub record Called (K V : Type 0) : Type 0 where
  pub caller : ℕ
  pub map : ℕ
  pub wanted : Wanted K V
  pub told : Progress (Node K V)

module _ {K V : Type 0} where
  -- What is begun for it: some that differ in what they answer have one machine.
  abbrev pub plain : Wanted K V → Wanted K V
  plain (GetKeyValue key) = Get key
  plain (ContainsKey key) = Get key
  plain (GetOrInsert key value) = TryToInsert key value
  plain (GetOrInsertWith key) = TryToInsertWith key
  plain (RemoveEntry key) = Remove key
  plain wanted = wanted

  -- of these calls the newest one of a caller has told this last
  abbrev pub has_progressed : ℕ → Progress (Node K V) → List (Called K V) → List (Called K V)
  has_progressed i told [] = []
  has_progressed i told (call ∷ before) = if call.caller == i then record call { told = told } ∷ before else call ∷ has_progressed i told before

  -- the newest one is this caller's
  abbrev pub IsNewest : ℕ → List (Called K V) → Type 0
  IsNewest i [] = ⊥
  IsNewest i (call ∷ before) = call.caller ≡ i

module _ {K V S : Type 0} where
  -- The calls of a seat, the newest first, once this was done and has told this.
  abbrev pub calls_then : ℕ → Doing K V S → Answer K V → List (Called K V) → List (Called K V)
  calls_then seat (Does (BeginsCall i m wanted)) told calls =
      if seat == seat_of i then record { caller = i; map = m; wanted = wanted; told = untold } ∷ calls else calls
  calls_then seat (Does (StepsCall i m g)) (OfCall told) calls = if seat == seat_of i then has_progressed i told calls else calls
  calls_then seat doing told calls = calls

  -- those that it has begun in a list of acts, each of which has told this, beside these
  abbrev pub calls_of : ℕ → List (Doing K V S) → List (Answer K V) → List (Called K V) → List (Called K V)
  calls_of seat (doing ∷ doings) (told ∷ answers) calls = calls_of seat doings answers (calls_then seat doing told calls)
  calls_of seat doings answers calls = calls

  -- the makings of a list have the numbers from the one up to the other, in order
  abbrev pub AreNumbered : ℕ → List (Doing K V S) → ℕ → Type 0
  AreNumbered k [] end = k ≡ end
  AreNumbered k (Does (BeginsMaking i m hasher given places) ∷ doings) end = (m ≡ k) × AreNumbered (suc k) doings end
  AreNumbered k (doing ∷ doings) end = AreNumbered k doings end

  -- an act is of its own, by some hashes of maps: so a row is on the slot of its caller
  abbrev pub IsItsOwn : (S → K → ℕ) → Doing K V S → Type 0
  IsItsOwn hash (Does act) = (hashes : ℕ → K → ℕ) × IsOwn hash hashes act
  IsItsOwn hash doing = Unit {0}

  -- Whose call has taken the newest step of a seat's calls, and the memory after it: once this was done, and has led to this memory.
  abbrev pub seen_then : ℕ → Doing K V S → Mem (Node K V) → Option (ℕ × Mem (Node K V)) → Option (ℕ × Mem (Node K V))
  seen_then seat (Does (StepsCall i m g)) memory seen = if seat == seat_of i then Some (i, memory) else seen
  seen_then seat doing memory seen = seen

module _ {K S : Type 0} (V : Type 0) (same : K → K → Bool) (hash : S → K → ℕ) (batch_size roots : ℕ) (slot : ℕ → ℕ) (course : Course V same hash batch_size roots slot) where
  -- and along a list of acts, from where these lead
  abbrev pub seen_of : ℕ → (doings : List (Doing K V S)) (x y : Reached V same hash batch_size roots slot) → LedOn V same hash batch_size roots slot course doings x y
      → Option (ℕ × Mem (Node K V)) → Option (ℕ × Mem (Node K V))
  seen_of seat [] x y led seen = seen
  seen_of seat (doing ∷ doings) x y (may, led) seen =
      let next = on_by V same hash batch_size roots slot course x doing may in seen_of seat doings next y led (seen_then seat doing next.0.0.world.memory seen)

-- An act is what one caller does at once, as plain data: it begins something, takes one step of what it has under way, or tells its call something.
use Rattle.std.specs.Prelude.{ℕ, Bool, [], Option, Some, None, Result}
use Rattle.run_shows.specs.Given.SeizeWorld.{Request}
use Rattle.run_shows.specs.Given.SeizeDeclared.advance.Advance.{Advance as Told}
use Rattle.run_shows.specs.Given.SeizeDeclared.rows.settle.Settled.{Settled}
use Rattle.seize_acts.specs.Acts.Answers.{Grant}
use Rattle.run_shows.specs.Given.TablesDeclared.node.Node.{Node}
use Rattle.run_shows.specs.Given.TablesDeclared.setting.Setting.{Setting}
use Rattle.run_shows.specs.Given.ResizeSum.{summing}
use Rattle.run_shows.specs.Given.ReservesReserve.{reserving}
use Rattle.run_shows.specs.Given.ReservesDeclared.sweep.Purpose.{Purpose}
use Rattle.run_shows.specs.Given.RawCallAsks.{computing, updating, updating_or_inserting, trying_to_insert_with, removing_if}
use Rattle.run_shows.specs.Given.RawCallPoints.{getting, removing, inserting, trying_to_insert}
use Rattle.run_shows.specs.Given.RawDeclared.machines.asking.MachineReply.{MachineReply}
use Rattle.run_shows.specs.Given.RawDeclared.machines.call.KeyCall.{KeyCall}
use Rattle.run_shows.specs.Given.RawDeclared.machines.progress.Progress.{Progress}
use Rattle.run_shows.specs.Given.TablesDeclared.node.Node.TheVariants as node
use Rattle.owner_facts.specs.Given.PointsSteps.{first_reply}
use Rattle.owner_facts.specs.Given.CallersAsked.{replies_before}
use Rattle.owner_facts.specs.Given.CallersKind.{gets, removes, inserts, tries_to_insert, computes, updates, updates_or_inserts, tries_to_insert_with, removes_if}
use Rattle.owner_facts.specs.Given.CallersOverAll.{begun_over_all}
use Rattle.owner_facts.specs.Given.CallersPairs.{Given, Begun, IsTold}
use Rattle.owner_facts.specs.Given.CallersTogether.{UnderWay, OnKey, ForRoom, Counting, OverAll, begun_at, in_slot}
use Rattle.owner_facts.specs.Given.FinishesMaps.{Standing}

-- what a caller wants of a map
pub data Wanted (K V : Type 0) : Type 0 where
  Get : K → Wanted K V
  Remove : K → Wanted K V
  Insert : K → V → Wanted K V
  TryToInsert : K → V → Wanted K V
  Compute : K → Wanted K V
  Update : K → Wanted K V
  UpdateOrInsert : K → Option V → Wanted K V  -- with what is to be stored where the key is missing, if that is told at first
  TryToInsertWith : K → Wanted K V
  RemoveIf : K → Wanted K V
  -- these do what others do, and answer otherwise
  GetKeyValue : K → Wanted K V
  ContainsKey : K → Wanted K V
  GetOrInsert : K → V → Wanted K V
  GetOrInsertWith : K → Wanted K V
  RemoveEntry : K → Wanted K V
  MakeRoom : ℕ → Wanted K V  -- for so many further pairs
  Count : Wanted K V
  GoOver : Purpose → Wanted K V

-- What is asked of who begins this, but for a counting, which needs no section.
abbrev pub UnlessToCount : {K V : Type 0} → Wanted K V → Type 0 → Type 0
UnlessToCount Count Asked = Unit {0}
UnlessToCount _ Asked = Asked

-- A grant is what the memory is free to choose at a step: the number of the block that is made, or that it refuses.
pub data Act (K V S : Type 0) : Type 0 where
  BeginsCall : ℕ → ℕ → Wanted K V → Act K V S  -- this caller begins to do this on this map
  StepsCall : ℕ → ℕ → Grant → Act K V S  -- its call on this map takes its next step
  TellsCall : ℕ → ℕ → MachineReply V → Act K V S  -- its call on this map is told this
  AsksCall : ℕ → ℕ → Act K V S  -- or is asked for its next pair
  StopsCall : ℕ → ℕ → Act K V S  -- or is given up, if it is a walk that is ready
  -- this caller begins to make this map, with this hasher and setting, and a first table of so many places, or none for 0
  BeginsMaking : ℕ → ℕ → S → Setting → ℕ → Act K V S
  StepsMaking : ℕ → Grant → Act K V S
  BeginsEnding : ℕ → ℕ → Act K V S  -- this caller begins to end this map
  StepsEnding : ℕ → Grant → Act K V S
  BeginsRow : ℕ → Request → Act K V S  -- this caller begins a row on its slot, between calls
  StepsRow : ℕ → Grant → Act K V S

-- what the caller is told
pub data Answer (K V : Type 0) : Type 0 where
  Nothing : Answer K V
  OfCall : Progress (Node K V) → Answer K V
  OfReply : Result Unit (MachineReply V) → Answer K V  -- whether it was taken: one that was not comes back
  OfAsking : Bool → Answer K V  -- whether the call was ready
  OfMaking : Told Setting → Answer K V
  OfEnding : Settled (Node K V) → Answer K V
  OfReclaiming : Settled (Node K V) → Answer K V

-- a caller works with the setting of the map, in its slot
abbrev pub its : {K : Type 0} → (ℕ → ℕ) → Standing K → ℕ → Setting
its slot s i = in_slot s.setting (slot i)

module _ {K V : Type 0} (same : K → K → Bool) (slot : ℕ → ℕ) (s : Standing K) (i : ℕ) where
  abbrev pub on_key : (K → Bool) → Given K V → KeyCall K V K → UnderWay K V K
  on_key keys pair call = OnKey (begun_at V same s.hash same s.setting slot s.chart keys pair call)

  -- what is under way as it begins to do this on a map that stands
  abbrev pub begun : Wanted K V → UnderWay K V K
  begun (Get key) = on_key (same key) (Begun gets None) (getting (its slot s i) (s.hash key) key)
  begun (Remove key) = on_key (same key) (Begun removes None) (removing (its slot s i) (s.hash key) key)
  begun (Insert key value) = on_key (same key) (Begun inserts (Some (node.Pair key value))) (inserting (its slot s i) (s.hash key) key value)
  begun (TryToInsert key value) = on_key (same key) (Begun tries_to_insert (Some (node.Pair key value))) (trying_to_insert (its slot s i) (s.hash key) key value)
  begun (Compute key) = on_key (same key) (IsTold computes (Some key) []) (computing (its slot s i) (s.hash key) key)
  begun (Update key) = on_key (same key) (IsTold updates (Some key) []) (updating (its slot s i) (s.hash key) key)
  begun (UpdateOrInsert key absent) =
      on_key (same key) (IsTold updates_or_inserts (Some key) (replies_before absent)) (updating_or_inserting (its slot s i) (s.hash key) key (first_reply absent))
  begun (TryToInsertWith key) = on_key (same key) (IsTold tries_to_insert_with (Some key) []) (trying_to_insert_with (its slot s i) (s.hash key) key)
  begun (RemoveIf key) = on_key (same key) (IsTold removes_if None []) (removing_if (its slot s i) (s.hash key) key)
  begun (GetKeyValue key) = on_key (same key) (Begun gets None) (getting (its slot s i) (s.hash key) key)
  begun (ContainsKey key) = on_key (same key) (Begun gets None) (getting (its slot s i) (s.hash key) key)
  begun (GetOrInsert key value) = on_key (same key) (Begun tries_to_insert (Some (node.Pair key value))) (trying_to_insert (its slot s i) (s.hash key) key value)
  begun (GetOrInsertWith key) = on_key (same key) (IsTold tries_to_insert_with (Some key) []) (trying_to_insert_with (its slot s i) (s.hash key) key)
  begun (RemoveEntry key) = on_key (same key) (Begun removes None) (removing (its slot s i) (s.hash key) key)
  begun (MakeRoom additional) = ForRoom (record { began = s.chart.now; reserve = reserving (its slot s i) additional })
  begun Count = Counting (summing (its slot s i))
  begun (GoOver purpose) = OverAll (begun_over_all s.chart.now (its slot s i) purpose)

-- The rule of maps: a list of acts has led to a scene, of which the memory is that of the state; and what each seat knows of its slot, of a map and of what it has
-- under way is so there, and the blocks that it knows to be held for it are there, and last.
use Rattle.std.specs.Prelude.{◌≡◌, ◌≢◌, ℕ, ◌+◌, ◌*◌, ◌<◌, Bool, List, [], Option, Some, None, true, false, ◌∷◌, ◌≤◌, ◌⊎◌}
use Rattle.std.specs.List.{AllByRecursion}
use Rattle.seize_words.specs.OneMemory.Mem.{Mem, value_at}
use Rattle.seize.specs.Law.{holds, owner_of}
use Rattle.seize.specs.World.{World, Use, Rests, IsInside}
use Rattle.map_tables.specs.Chunks.{is_incremental}
use Rattle.map_tables.specs.Nodes.{deferred_word}
use Rattle.map_tables.specs.declared.node.Node.{Node}
use Rattle.map_machines.specs.declared.new_map.NewMap.{NewMap}
use Rattle.papaya_raw.specs.declared.machines.machine.Machine.{Machine}
use Rattle.papaya_raw.specs.declared.machines.machine.Machine.TheVariants as kinds
use Rattle.many_acts.specs.Given.CallersClaims.{IsNoLookup}
use Rattle.many_acts.specs.Given.CallersRows.{IsUsedAlike, IsRowOn}
use Rattle.many_acts.specs.Given.CallersPairs.{Given, Begun, IsTold}
use Rattle.many_acts.specs.Given.CallersTogether.{UnderWay, OnKey}
use Rattle.many_acts.specs.Given.FinishesEndings.{Finishing}
use Rattle.many_acts.specs.Given.FinishesMachines.{machine_of}
use Rattle.many_acts.specs.Given.FinishesMakings.{Beginning}
use Rattle.many_acts.specs.Given.FinishesMaps.{Standing}
use Rattle.many_acts.specs.Given.ScenesScene.{Scene, slot_of}
use Rattle.many_acts.specs.Given.ScenesDeclared.callers.TheConstants.{SLOTS}
use Rattle.many_acts.specs.Lefts.{left_of}
use Rattle.many_acts.specs.Looks.Sees.{IsOwnOf}
use Rattle.many_acts.specs.Acts.Acts.{Wanted}
use Rattle.many_acts.specs.Acts.Doings.{Doing, reclaiming}
use Rattle.many_acts.specs.Acts.Lists.{Course, Reached, LedTo, nothing_done}
use Rattle.seize_seats.specs.Seats.State.{State, view_of}
use Rattle.seize_views.specs.Views.Rows.{row_of, use_of, IsPlain, IsShort, IsKnown, IsBounded}
use Rattle.seize_views.specs.declared.view.Began.TheVariants.{NotYet}
use Rattle.seize_views.specs.declared.view.Fixed.{Fixed}
use Rattle.seize_views.specs.declared.view.Has.{Has}
use Rattle.seize_views.specs.declared.view.Has.TheVariants.{Nothing as NoBlock}
use Rattle.seize_views.specs.declared.view.SlotView.{SlotView}
use Rattle.seize_views.specs.declared.view.SlotView.TheVariants as slot_view
use Rattle.threads_rule.specs.Views.Begun.{machine_for}
use Rattle.threads_rule.specs.Views.Listed.{Called, plain, calls_of, seen_of, AreNumbered, IsItsOwn, IsNewest}
use Rattle.threads_rule.specs.Views.Looks.{shown_in, IsAtTable}
use Rattle.threads_rule.specs.Views.Reclaims.{IsNextOf}
use Rattle.threads_rule.specs.Views.Told.{pair_in}
use Rattle.threads_rule.specs.declared.view.Map.{Map}
use Rattle.threads_rule.specs.declared.view.BegunCall.{BegunCall}
use Rattle.threads_rule.specs.declared.view.EndOfMap.{EndOfMap}
use Rattle.threads_rule.specs.declared.view.View.{View}
use Rattle.threads_rule.specs.declared.view.SeatWork.{SeatWork}
use Rattle.threads_rule.specs.declared.view.SeatWork.TheVariants.{Nothing, Calls, Makes, Ends}

-- A seat is another caller in each slot.
abbrev pub caller_at : ℕ → ℕ → ℕ
caller_at seat slot = seat * SLOTS + slot

abbrev pub IsSlot : ℕ → Type 0
IsSlot t = t < SLOTS

-- the slot that is held; a seat that holds none acts in the first one
abbrev pub held_slot : Option (ℕ × Use) → ℕ
held_slot None = 0
held_slot (Some slot) = slot.0

abbrev pub place_of : {T : Type 0} → SlotView T → ℕ
place_of v = held_slot (use_of v)

-- The slot of the caller that a seat is: that of the seat that it leans on, if it leans on one.
abbrev pub acts_in : {T : Type 0} → Option (ℕ × ℕ) → SlotView T → ℕ
acts_in None v = place_of v
acts_in (Some leant) v = leant.1

-- the slot within whose section it has calls under way: its own one, or that of the seat that it leans on
abbrev pub section_of : {T : Type 0} → Option (ℕ × ℕ) → SlotView T → Option ℕ
section_of (Some leant) v = Some leant.1
section_of None (slot_view.Inside t NoBlock) = Some t
section_of None v = None

-- where a seat stands: what it knows of its slot, and on whom it leans
abbrev pub side_of : {K V S : Type 0} → View K V S → SlotView (Node K V) × Option (ℕ × ℕ)
side_of v = (v.slot, v.under)

-- and on which owner of a map
abbrev pub stand_of : {K V S : Type 0} → View K V S → (SlotView (Node K V) × Option (ℕ × ℕ)) × Option ℕ
stand_of v = (side_of v, v.by)

-- who leans on a seat holds no slot
abbrev pub IsAside : {T : Type 0} → Option (ℕ × ℕ) → SlotView T → Type 0
IsAside None v = Unit {0}
IsAside (Some leant) v = v ≡ slot_view.Rests

-- it leans on the seat of this number
abbrev pub LeansOn : Option (ℕ × ℕ) → ℕ → Type 0
LeansOn None n = ⊥
LeansOn (Some leant) n = leant.0 ≡ n

-- it leans on the owner of this number
abbrev pub IsBy : Option ℕ → ℕ → Type 0
IsBy None n = ⊥
IsBy (Some owner) n = owner ≡ n

-- the one whose section it acts in
abbrev pub LeansUnder : {K V S : Type 0} → View K V S → ℕ → Type 0
LeansUnder v n = LeansOn v.under n

abbrev pub Leans : {K V S : Type 0} → View K V S → ℕ → Type 0
Leans v n = LeansUnder v n ⊎ IsBy v.by n

-- the seat of this number is within a section of the slot
abbrev pub IsLeant : {K V S : Type 0} → (ℕ → Option (View K V S)) → ℕ → ℕ → Type 0
IsLeant {K} {V} {S} view n t = (u : View K V S) × (view n ≡ Some u) × (u.slot ≡ slot_view.Inside t NoBlock)

-- the seat of this number has the map as its own that is known
abbrev pub IsOwner : {K V S : Type 0} → (ℕ → Option (View K V S)) → ℕ → Option (Map S) → Type 0
IsOwner view n None = ⊥
IsOwner {K} {V} {S} view n (Some map) = (u : View K V S) × (view n ≡ Some u) × (u.own ≡ Some map)

-- What one seat knows of maps beside what another one has as its own: the map that it knows is not that one, but where it leans on that seat; and none has two owners.
pub record AreApart {K V S : Type 0} (j k : ℕ) (v u : View K V S) (mine : Map S) : Type 0 where
  pub known : (map : Map S) → v.map ≡ Some map → map.number ≡ mine.number → v.by ≡ Some k
  pub owned : (map : Map S) → v.own ≡ Some map → map.number ≡ mine.number → j ≡ k

-- a seat that holds no slot and knows no map
abbrev pub at_rest : {K V S : Type 0} → View K V S
at_rest = record { slot = slot_view.Rests; under = None; map = None; by = None; own = None; work = Nothing; looks = []; held = []; began = NotYet; calls = [] }

-- the calls that a seat has begun; one that has not come has begun none
abbrev pub runs_of : {K V S : Type 0} → Option (View K V S) → List (BegunCall K V)
runs_of None = []
runs_of (Some v) = v.calls

-- what has been done, and the scene to which it has led
pub record MapsWorld (K V S : Type 0) : Type 0 where
  pub doings : List (Doing K V S)
  pub scene : Scene K V

-- the block is of this map, as the log tells
abbrev pub IsOfMap : {S T : Type 0} → Option (Map S) → ℕ → World T → Type 0
IsOfMap None b w = ⊥
IsOfMap (Some map) b w = owner_of b w.log ≡ map.setting.counter

-- the slot is used so, if one is held, however many rows work on it
abbrev pub IsUsedSo : {T : Type 0} → World T → Option (ℕ × Use) → Type 0
IsUsedSo w None = Unit {0}
IsUsedSo w (Some slot) = IsUsedAlike slot.1 (w.uses slot.0)

module _ {K V : Type 0} where
  -- a caller has nothing under way
  pub record IsIdle (s : Scene K V) (i : ℕ) : Type 0 where
    pub calls : (m : ℕ) → s.calls m i ≡ None
    pub makers : s.makers i ≡ None
    pub enders : s.enders i ≡ None
    pub row : s.world.row i ≡ Rests

  -- the machine is that of a call that may write: of neither a lookup nor a counting
  abbrev pub Writes : Machine K V K → Type 0
  Writes (kinds.Key call) = IsNoLookup call.stands
  Writes (kinds.Reserve reserve) = Unit {0}
  Writes (kinds.Count sum) = ⊥
  Writes (kinds.Sweep sweep) = Unit {0}

  -- it has nothing under way but this call
  pub record HasCall (s : Scene K V) (i m : ℕ) (machine : Machine K V K) : Type 0 where
    pub call : UnderWay K V K
    pub here : s.calls m i ≡ Some call
    pub is : machine_of call ≡ machine

  -- nothing but this making
  pub record HasMaking (s : Scene K V) (i m : ℕ) (hash : K → ℕ) (opening : NewMap) : Type 0 where
    pub making : Beginning K
    pub here : s.makers i ≡ Some making
    pub map : making.map ≡ m
    pub hashes : making.hash ≡ hash
    pub is : making.machine ≡ opening
    pub calls : (n : ℕ) → s.calls n i ≡ None

  -- how far the end of a map has come, and how much of it is left
  abbrev pub end_of : Finishing K V → EndOfMap
  end_of f = record { machine = f.machine; left = (left_of f).0; along = (left_of f).1 }

  -- it has nothing under way but the end of a map, which is this one
  pub record HasEnding (s : Scene K V) (i : ℕ) (end : EndOfMap) : Type 0 where
    pub ending : Finishing K V
    pub here : s.enders i ≡ Some ending
    pub is : end_of ending ≡ end
    pub calls : (n : ℕ) → s.calls n i ≡ None

  -- nothing but this row, and its slot is used so
  pub record HasRow (s : Scene K V) (i : ℕ) (v : SlotView (Node K V)) : Type 0 where
    pub row : s.world.row i ≡ row_of v
    pub slot : IsUsedSo s.world (use_of v)
    pub calls : (n : ℕ) → s.calls n i ≡ None
    pub makers : s.makers i ≡ None
    pub enders : s.enders i ≡ None

  -- the pair that a call under way was begun with, if with one
  abbrev pub given_pair : Given K V → Option (Node K V)
  given_pair (Begun kind pair) = pair
  given_pair (IsTold kind its asked) = None

  abbrev pub pair_of : UnderWay K V K → Option (Node K V)
  pair_of (OnKey u) = given_pair u.pair
  pair_of u = None

  -- these blocks with their values the newest step has seen of all these calls, which is one of the newest call, of this caller
  abbrev pub HasSeen : ℕ → List (Called K V) → Option (ℕ × Mem (Node K V)) → List (ℕ × Node K V) → Type 0
  HasSeen i calls seen looks =
      (b : ℕ) (x : Node K V) → shown_in looks b ≡ Some x → (memory : Mem (Node K V)) × (seen ≡ Some (i, memory)) × IsNewest i calls × (value_at memory b ≡ Some x)

  -- no map has this number or a later one, nor one that is being made
  abbrev pub IsFresh : Scene K V → ℕ → Type 0
  IsFresh s k = ((m : ℕ) → k ≤ m → s.maps m ≡ None) × ((i : ℕ) (b : Beginning K) → s.makers i ≡ Some b → b.map < k)

  -- what a seat knows of its row is so: a slot is taken, and not entered at once; the block that a settling is to look at has that value; and what is settled is so
  -- within so many steps
  pub record KnowsRow (fixed : Fixed) (s : Scene K V) (j : ℕ) (v : SlotView (Node K V)) : Type 0 where
    pub plain : IsPlain v
    pub short : IsShort v
    pub known : IsKnown deferred_word s.world v
    pub bounded : IsBounded deferred_word fixed s.world (caller_at j (place_of v)) v

module _ {K V S : Type 0} where
  -- Who leans on another seat has no call under way that may write, on a map in blocking mode.
  abbrev pub LooksAside : Option (ℕ × ℕ) → Option (Map S) → SeatWork K V S → Type 0
  LooksAside under map Nothing = Unit {0}
  LooksAside under map (Makes own m hasher opening) = Unit {0}
  LooksAside under map (Ends machine) = Unit {0}
  LooksAside None map (Calls machine) = Unit {0}
  LooksAside (Some leant) None (Calls machine) = Unit {0}
  LooksAside (Some leant) (Some map) (Calls machine) = is_incremental map.setting.mode ≡ false → Writes machine → ⊥

module _ {K V S : Type 0} (same : K → K → Bool) (hash : S → K → ℕ) where
  -- So it may begin to do this with the map, whichever slot it acts in.
  abbrev pub MayWant : Option (ℕ × ℕ) → Map S → Wanted K V → Type 0
  MayWant under map wanted = (t : ℕ) → LooksAside under (Some map) (Calls (machine_for same hash map t wanted))

  -- what it has under way, as this caller
  abbrev pub DoesSo : Scene K V → ℕ → Option (ℕ × ℕ) → SlotView (Node K V) → Option (Map S) → SeatWork K V S → Type 0
  DoesSo s i under slot map Nothing = HasRow s i slot
  DoesSo s i under slot None (Calls machine) = ⊥
  DoesSo s i under slot (Some map) (Calls machine) =
      (t : ℕ) × (section_of under slot ≡ Some t) × IsInside (s.world.uses t) × HasCall s i map.number machine × IsRowOn t (s.world.row i)
  DoesSo s i under slot map (Makes own m hasher opening) = (slot ≡ slot_view.Rests) × HasMaking s i m (hash hasher) opening × (s.world.row i ≡ Rests)
  DoesSo s i under slot map (Ends machine) = (slot ≡ slot_view.Rests) × HasEnding s i machine × (s.world.row i ≡ Rests)

  -- the map that it knows stands, as it knows it
  abbrev pub KnowsMap : Scene K V → Option (Map S) → Type 0
  KnowsMap s None = Unit {0}
  KnowsMap s (Some map) = (it : Standing K) × (s.maps map.number ≡ Some it) × (it.setting ≡ map.setting) × (it.hash ≡ hash map.hasher)

  -- the call that is under way was begun with the pair with which the newest of these began
  abbrev pub KnowsPair : Scene K V → ℕ → Option (Map S) → SeatWork K V S → List (BegunCall K V) → Type 0
  KnowsPair s i map Nothing runs = Unit {0}
  KnowsPair s i map (Makes own m hasher opening) runs = Unit {0}
  KnowsPair s i map (Ends machine) runs = Unit {0}
  KnowsPair s i None (Calls machine) runs = Unit {0}
  KnowsPair s i (Some map) (Calls machine) runs = (u : UnderWay K V K) → s.calls map.number i ≡ Some u → pair_of u ≡ pair_in runs

  -- the section within which it has calls under way holds the block, which is of the map that it knows
  abbrev pub IsInSection : Scene K V → Option (ℕ × ℕ) → SlotView (Node K V) → Option (Map S) → ℕ → Type 0
  IsInSection s under slot map b = (t : ℕ) × (section_of under slot ≡ Some t) × (holds t b s.world.log ≡ true) × IsOfMap map b s.world

  -- the call that is under way has it: as its own pair, or to reclaim it next, by a row of the collector; or the end of a map, which has come to this table
  abbrev pub IsOfCall : SeatWork K V S → ℕ → Type 0
  IsOfCall (Calls machine) b = IsOwnOf machine b ⊎ IsNextOf machine b
  IsOfCall (Ends end) b = IsAtTable end.machine end.machine.stands b
  IsOfCall work b = ⊥

  -- the block is there with this value, and why it lasts until the seat's next step
  abbrev pub IsHeld : Scene K V → Option (ℕ × ℕ) → SlotView (Node K V) → Option (Map S) → SeatWork K V S → ℕ × Node K V → Type 0
  IsHeld s under slot map work look = (value_at s.world.memory look.0 ≡ Some look.1) × (IsInSection s under slot map look.0 ⊎ IsOfCall work look.0)

  abbrev pub AllHeld : Scene K V → Option (ℕ × ℕ) → SlotView (Node K V) → Option (Map S) → SeatWork K V S → List (ℕ × Node K V) → Type 0
  AllHeld s under slot map work [] = Unit {0}
  AllHeld s under slot map work (look ∷ looks) = IsHeld s under slot map work look × AllHeld s under slot map work looks

  -- the last step of the end of a map has looked at the table to which that has come, which is there with this value
  abbrev pub KnowsTable : Scene K V → SeatWork K V S → List (ℕ × Node K V) → Type 0
  KnowsTable s (Ends end) looks = (b : ℕ) (x : Node K V) → shown_in looks b ≡ Some x → (value_at s.world.memory b ≡ Some x) × IsAtTable end.machine end.machine.stands b
  KnowsTable s work looks = Unit {0}

  -- A call that a seat knows of is this one of the list: it began as that does on this map, in the slot of its caller, and has told the same last.
  pub record IsRun (call : Called K V) (run : BegunCall K V) : Type 0 where
    pub map : Map S
    pub number : map.number ≡ call.map
    pub its : run.map ≡ call.map
    pub plainly : plain call.wanted ≡ call.wanted
    pub began : run.began ≡ machine_for same hash map (slot_of call.caller) call.wanted
    pub told : run.told ≡ call.told

  -- each of them, and there are no others
  abbrev pub AreRuns : List (Called K V) → List (BegunCall K V) → Type 0
  AreRuns [] [] = Unit {0}
  AreRuns (call ∷ calls) (run ∷ runs) = IsRun call run × AreRuns calls runs
  AreRuns calls runs = ⊥

  -- what a seat knows is so; in other slots it has nothing under way
  pub record Fits (s : Scene K V) (j : ℕ) (v : View K V S) : Type 0 where
    pub slot : IsSlot (acts_in v.under v.slot)
    pub does : DoesSo s (caller_at j (acts_in v.under v.slot)) v.under v.slot v.map v.work
    pub aside : IsAside v.under v.slot
    pub map : KnowsMap s v.map
    pub own : KnowsMap s v.own
    pub only : LooksAside v.under v.map v.work
    pub held : AllHeld s v.under v.slot v.map v.work v.held
    pub table : KnowsTable s v.work v.looks
    pub pair : KnowsPair s (caller_at j (acts_in v.under v.slot)) v.map v.work v.calls
    pub idle : (t : ℕ) → IsSlot t → t ≢ acts_in v.under v.slot → IsIdle s (caller_at j t)

  -- the scene is as the seats know it, and its memory is this one
  pub record AreSo (s : State (Node K V) (View K V S) (MapsWorld K V S)) (scene : Scene K V) : Type 0 where
    pub memory : s.memory ≡ scene.world.memory
    pub seats : (j : ℕ) (v : View K V S) → view_of s j ≡ Some v → Fits scene j v
    pub unborn : (j t : ℕ) → IsSlot t → view_of s j ≡ None → IsIdle scene (caller_at j t)
    pub leant : (j n t : ℕ) (v : View K V S) → view_of s j ≡ Some v → v.under ≡ Some (n, t) → IsLeant (view_of s) n t
    pub apart : (j k t : ℕ) (a b : Use) (v u : View K V S) → view_of s j ≡ Some v → view_of s k ≡ Some u → use_of v.slot ≡ Some (t, a) → use_of u.slot ≡ Some (t, b) → j ≡ k
    pub owned : (j n : ℕ) (v : View K V S) → view_of s j ≡ Some v → v.by ≡ Some n → IsOwner (view_of s) n v.map
    pub maps : (j k : ℕ) (v u : View K V S) (mine : Map S) → view_of s j ≡ Some v → view_of s k ≡ Some u → u.own ≡ Some mine → AreApart j k v u mine
    pub fresh : (k : ℕ) × IsFresh scene k × AreNumbered 0 s.world.doings k

  pub record Holds (fixed : Fixed) (s : State (Node K V) (View K V S) (MapsWorld K V S)) : Type 0 where
    pub course : Course V same hash fixed.batch_size fixed.roots slot_of
    pub reached : Reached V same hash fixed.batch_size fixed.roots slot_of
    pub led : LedTo V same hash fixed.batch_size fixed.roots slot_of course s.world.doings reached
    pub scene : s.world.scene ≡ reached.0.0
    pub nobody : reclaiming V same hash fixed.batch_size fixed.roots slot_of reached.0 ≡ None
    pub so : AreSo s s.world.scene
    pub rows : (j : ℕ) (v : View K V S) → view_of s j ≡ Some v → KnowsRow fixed s.world.scene j v.slot
    pub own : AllByRecursion (IsItsOwn hash) s.world.doings
    pub calls : (j : ℕ) → AreRuns (calls_of j s.world.doings reached.1 []) (runs_of (view_of s j))
    pub newest : (j : ℕ) (v : View K V S) (machine : Machine K V K) → view_of s j ≡ Some v → v.work ≡ Calls machine → IsNewest (caller_at j (acts_in v.under v.slot)) (calls_of j s.world.doings reached.1 [])
    pub seen : (j : ℕ) (v : View K V S) → view_of s j ≡ Some v
        → HasSeen (caller_at j (acts_in v.under v.slot)) (calls_of j s.world.doings reached.1 [])
        (seen_of V same hash fixed.batch_size fixed.roots slot_of course j s.world.doings (nothing_done V same hash fixed.batch_size fixed.roots slot_of course) reached led None) v.held

-- the section of the one's slot holds the block, which is of the map that the other one knows
abbrev pub KeepsFor : {K V S : Type 0} → View K V S → View K V S → MapsWorld K V S → ℕ → Type 0
KeepsFor {K} {V} u o w b = (t : ℕ) × (has : Has (Node K V)) × (u.slot ≡ slot_view.Inside t has) × (holds t b w.scene.world.log ≡ true) × (IsOfMap o.map b w.scene.world ⊎ IsOfMap o.own b w.scene.world)

-- The rule by which one seat acts alone in a memory of maps: while it seeks a slot the rule of maps holds, and all others rest; then a list of acts has led to where
-- it reclaims all, and what the others knew of maps is so still.
use Rattle.std.specs.Prelude.{◌≡◌, ◌⊎◌, ℕ, zero, suc, Bool, false, List, [], Option, Some, None, map}
use Rattle.std.specs.List.{AllByRecursion}
use Rattle.seize_words.specs.OneMemory.Mem.{Mem, Took, value_at}
use Rattle.seize_words.specs.OneMemory.Op.{Op, Out}
use Rattle.seize_words.specs.OneMemory.Plan.{Steps}
use Rattle.seize.specs.declared.rows.reclaim_all.ReclaimAll.{ReclaimAll}
use Rattle.seize.specs.declared.rows.reclaim_all.Reclaiming.TheVariants as at
use Rattle.seize.specs.declared.rows.register.Registering.TheVariants as register_at
use Rattle.seize.specs.declared.rows.settle.Settled.{Settled}
use Rattle.seize.specs.ReclaimAll.{reclaiming_all, clearing, reclaim_all_plan}
use Rattle.map_tables.specs.Nodes.{deferred_word, was_left}
use Rattle.map_tables.specs.declared.node.Node.{Node}
use Rattle.many_acts.specs.Given.ScenesScene.{Scene, slot_of}
use Rattle.many_acts.specs.Acts.Acts.{Answer}
use Rattle.many_acts.specs.Acts.Doings.{Doing, reclaiming}
use Rattle.many_acts.specs.Acts.Lists.{Course, Reached, LedTo}
use Rattle.seize_seats.specs.Seats.State.{State, view_of}
use Rattle.seize_views.specs.Views.Begun.{seeker_at}
use Rattle.seize_views.specs.declared.view.Fixed.{Fixed}
use Rattle.seize_views.specs.declared.view.SlotView.TheVariants as slot_view
use Rattle.seize_reclaims.specs.Empties.Asked.{HasTold}
use Rattle.seize_reclaims.specs.Renews.Rule.{SeeksAt, IsShown}
use Rattle.seize_reclaims.specs.declared.alone.Alone.{Alone}
use Rattle.seize_reclaims.specs.declared.alone.Alone.TheVariants.{Registers, Reclaims}
use Rattle.threads_rule.specs.Views.Listed.{AreNumbered, IsItsOwn, calls_of}
use Rattle.threads_rule.specs.Views.Notes.{SeatIsQuiescent}
use Rattle.threads_rule.specs.Views.Rule.{MapsWorld, Holds, KnowsMap, AreApart, AreRuns, IsFresh, runs_of}
use Rattle.threads_rule.specs.declared.view.Map.{Map}
use Rattle.threads_rule.specs.declared.view.View.{View}
use Rattle.threads_rule.specs.declared.view.SeatWork.TheVariants.{Nothing}
use Rattle.threads_reclaims.specs.declared.sole.Sole.{Sole}
use Rattle.threads_reclaims.specs.declared.sole.Sole.TheVariants.{Acts, Left}

-- within so many further steps it has come to its end, whichever they are
abbrev pub EndsIn : {K V : Type 0} → ℕ → Mem (Node K V) → ReclaimAll → Type 0
EndsIn {K} {V} zero m c = (c.stands ≡ at.Over → ⊥) → ⊥
EndsIn {K} {V} (suc k) m c =
    (c.stands ≡ at.Over → ⊥) → (m2 : Mem (Node K V)) (c2 : ReclaimAll) (progress : Settled (Node K V))
    → Steps Took value_at m (reclaim_all_plan deferred_word was_left c) m2 (c2, progress) → EndsIn k m2 c2

-- what is left over at roots, where there are no slots
abbrev pub none_in : ReclaimAll → ReclaimAll
none_in c = clearing c.roots

-- nobody looks at what another one may take
abbrev pub NobodyKeeps : {A W : Type 0} → A → A → W → ℕ → Type 0
NobodyKeeps u o w b = ⊥

module _ {K V : Type 0} where
  -- what it reclaims all by, once it has sought a slot
  abbrev pub all_for : Alone (Node K V) → ℕ → ReclaimAll
  all_for (Registers c size) roots = reclaiming_all size roots
  all_for (Reclaims c seen left) roots = c

module _ {K V S : Type 0} where
  -- with no slot, and on no seat leaning: it knows the map that it knew, and its own one
  abbrev pub freed : View K V S → View K V S
  freed v = record { slot = slot_view.Rests; under = None; map = v.map; by = None; own = v.own; work = Nothing; looks = []; held = []; began = v.began; calls = v.calls }

  -- what it knew when it had nothing under way
  abbrev pub plainly : Sole K V S → View K V S
  plainly (Acts a roots v) = v
  plainly (Left v) = v

  -- and knows again then
  abbrev pub kept_of : Sole K V S → View K V S
  kept_of v = freed (plainly v)

  abbrev pub acts_of : Sole K V S → Option (Alone (Node K V))
  acts_of (Acts a roots v) = Some a
  acts_of (Left v) = None

  -- what it reclaims all by
  abbrev pub all_in : Sole K V S → ReclaimAll
  all_in (Acts a roots v) = all_for a roots
  all_in (Left v) = reclaiming_all 0 0

  -- who acts begins to take a slot
  abbrev pub seeking : View K V S → View K V S
  seeking v = record { slot = slot_view.Registers (seeker_at 0 register_at.Begin); under = None; map = v.map; by = None; own = v.own; work = Nothing; looks = []; held = []; began = v.began; calls = v.calls }

  abbrev pub one_first : Fixed → View K V S → Sole K V S
  one_first fixed v = Acts (Registers (seeker_at 0 register_at.Begin) fixed.batch_size) fixed.roots (seeking v)

  -- what an operation tells the one that acts: how far it has come
  abbrev pub one_told : Sole K V S → Op (Node K V) → Out (Node K V) → Sole K V S → Type 0
  one_told (Acts a roots v) op out w = HasTold acts_of all_in none_in deferred_word was_left (Acts a roots v) a op out w × (kept_of w ≡ freed v)
  one_told (Left v) op out w = ⊥

  -- the state as seats knew it
  abbrev pub inside : State (Node K V) (Sole K V S) (MapsWorld K V S) → State (Node K V) (View K V S) (MapsWorld K V S)
  inside s = record { memory = s.memory; views = map plainly s.views; world = s.world }

  -- while the one that acts seeks a slot
  abbrev pub TakesAt : Fixed → Mem (Node K V) → Sole K V S → Type 0
  TakesAt fixed m (Acts (Registers c size) roots v) =
      (size ≡ fixed.batch_size) × (roots ≡ fixed.roots) × (v.slot ≡ slot_view.Registers c) × (v.under ≡ None) × (v.work ≡ Nothing) × (v.by ≡ None) × SeeksAt m c c.stands
  TakesAt fixed m (Acts (Reclaims c seen left) roots v) = ⊥
  TakesAt fixed m (Left v) = SeatIsQuiescent v

  -- the one that acts reclaims all by this, which it looks at, and comes to its end
  abbrev pub ReclaimsAt : Mem (Node K V) → ReclaimAll → Sole K V S → Type 0
  ReclaimsAt m c (Acts (Registers d size) roots v) = ⊥
  ReclaimsAt m c (Acts (Reclaims d seen left) roots v) = (d ≡ c) × EndsIn left m d × IsShown m seen
  ReclaimsAt m c (Left v) = Unit {0}

  -- one alone acts
  abbrev pub IsOne : State (Node K V) (Sole K V S) (MapsWorld K V S) → Type 0
  IsOne s = (j k roots more : ℕ) (a b : Alone (Node K V)) (v u : View K V S) → view_of s j ≡ Some (Acts a roots v) → view_of s k ≡ Some (Acts b more u) → j ≡ k

module _ {K V S : Type 0} (same : K → K → Bool) (hash : S → K → ℕ) (fixed : Fixed) where
  pub record Seeking (s : State (Node K V) (Sole K V S) (MapsWorld K V S)) : Type 0 where
    pub holds : Holds same hash fixed (inside s)
    pub seats : (j : ℕ) (v : Sole K V S) → view_of s j ≡ Some v → TakesAt fixed s.memory v
    pub one : IsOne s

  -- What seats knew of maps is so still, and their own ones stand; none leans on the owner of one; and their calls are those of the list.
  pub record AreAsWere (views : ℕ → Option (View K V S)) (doings : List (Doing K V S)) (answers : List (Answer K V)) (scene : Scene K V) : Type 0 where
    pub maps : (j : ℕ) (v : View K V S) → views j ≡ Some v → KnowsMap same hash scene v.map × KnowsMap same hash scene v.own
    pub alone : (j : ℕ) (v : View K V S) → views j ≡ Some v → v.by ≡ None
    pub apart : (j k : ℕ) (v u : View K V S) (mine : Map S) → views j ≡ Some v → views k ≡ Some u → u.own ≡ Some mine → AreApart j k v u mine
    pub fresh : (k : ℕ) × IsFresh scene k × AreNumbered 0 doings k
    pub own : AllByRecursion (IsItsOwn hash) doings
    pub calls : (j : ℕ) → AreRuns same hash (calls_of j doings answers []) (runs_of (views j))

  pub record Reclaiming (s : State (Node K V) (Sole K V S) (MapsWorld K V S)) : Type 0 where
    pub course : Course V same hash fixed.batch_size fixed.roots slot_of
    pub reached : Reached V same hash fixed.batch_size fixed.roots slot_of
    pub led : LedTo V same hash fixed.batch_size fixed.roots slot_of course s.world.doings reached
    pub scene : s.world.scene ≡ reached.0.0
    pub memory : s.memory ≡ reached.0.0.world.memory
    pub caller : ℕ
    pub machine : ReclaimAll
    pub here : reclaiming V same hash fixed.batch_size fixed.roots slot_of reached.0 ≡ Some (caller, machine)
    pub were : AreAsWere (view_of (inside s)) s.world.doings reached.1 reached.0.0
    pub seats : (j : ℕ) (v : Sole K V S) → view_of s j ≡ Some v → ReclaimsAt s.memory machine v
    pub one : IsOne s

  abbrev pub HoldsOne : State (Node K V) (Sole K V S) (MapsWorld K V S) → Type 0
  HoldsOne s = Seeking s ⊎ Reclaiming s

-- What is promised of lists of acts: after any of them each block behind which something may be put is somebody's, what ended maps have left is behind roots
-- that are nobody's, and once a caller has reclaimed all, nothing waits but pairs that are deferred on linked tables.
use Rattle.std.specs.Prelude.{◌≡◌, ◌⊎◌, ℕ, ◌<◌, ◌^◌, Bool, List, [], ◌∷◌, ◌++◌, None, IsSome}
use Rattle.run_shows.specs.Given.SeizeWordsDeclared.at.At.TheVariants.{Slot}
use Rattle.run_shows.specs.Given.SeizeWordsMem.{word_at}
use Rattle.run_shows.specs.Given.SeizeReclaimAll.{reclaiming_all, clearing}
use Rattle.run_shows.specs.Given.SeizeDeclared.rows.reclaim_all.ReclaimAll.{ReclaimAll}
use Rattle.run_shows.specs.Given.SeizeDeclared.rows.settle.Settled.{Settled}
use Rattle.run_shows.specs.Given.SeizeDeclared.rows.settle.Settled.TheVariants as settled
use Rattle.run_shows.specs.Given.SeizeDeclared.states.TheConstants.{HEAD}
use Rattle.seize_acts.specs.Acts.Answers.{Grant}
use Rattle.run_shows.specs.Given.TablesDeclared.node.Node.{Node}
use Rattle.run_shows.specs.Reclaims.Deferred.{OnlyPairsWait}
use Rattle.run_shows.specs.Reclaims.Reclaims.{AllIsReclaimed}
use Rattle.run_shows.specs.Reclaims.Slots.{AllRest, IsQuiescent}
use Rattle.many_acts.specs.Acts.Acts.{Act, Answer}
use Rattle.many_acts.specs.Acts.Doings.{Doing, StepsReclaiming, MayDo, reclaiming}
use Rattle.many_acts.specs.Acts.Leads.{MayBe, AllStand, Led}
use Rattle.many_acts.specs.Acts.Lists.{Course, Reached, LedTo, on_by}
use Rattle.many_acts.specs.Acts.Reclaiming.{IsReclaimingAll, ReclaimedOn}
use Rattle.many_acts.specs.Carries.Theirs.{AllAreTheirs}
use Rattle.run_shows.specs.Scenes.Scene.{Scene}

-- all that a scene has is somebody's
abbrev pub AreTheirs : {K V : Type 0} → Scene K V → Type 0
AreTheirs s = AllAreTheirs s.world s.maps s.calls s.enders

-- nobody has a call, makes a map or ends one, and no row is under way
pub record SceneIsQuiescent {K V : Type 0} (s : Scene K V) : Type 0 where
  pub no_calls : (m i : ℕ) → s.calls m i ≡ None
  pub no_makers : (i : ℕ) → s.makers i ≡ None
  pub no_enders : (i : ℕ) → s.enders i ≡ None
  pub rows : AllRest s.world

module _ {K S : Type 0} (V : Type 0) (same : K → K → Bool) (hash : S → K → ℕ) (batch_size roots : ℕ) (slot : ℕ → ℕ) where
  -- The promise of one act: where each such block is somebody's, each is then.
  abbrev pub ActsPreserveTheirs : Type 0
  ActsPreserveTheirs =
      (s n : Scene K V) → AllStand same hash batch_size roots slot s → AllStand same hash batch_size roots slot n → (act : Act K V S) → MayBe same hash batch_size roots slot act s
      → (told : Answer K V) → Led same hash batch_size roots slot act s told n → AreTheirs s → AreTheirs n

  -- All is reclaimed there, and nothing waits but pairs that are deferred on linked tables of maps that stand, in resizes that are unfinished.
  abbrev pub OnlyPairsAreLeft : Scene K V → Type 0
  OnlyPairsAreLeft s = AllIsReclaimed roots s.world s.maps × OnlyPairsWait s.world s.maps

  -- From here a caller that reclaims all has come to its end, in this scene, by steps, of each of which this is what the memory was free to choose.
  abbrev pub ReclaimsTo : ℕ → List Grant → Scene K V → (ℕ → List ℕ) → ReclaimAll → Scene K V → Type 0
  ReclaimsTo i [] s lists c n = ⊥
  ReclaimsTo i (g ∷ grants) s lists c n =
      (told : Settled (Node K V)) × (v : Scene K V) × (lists2 : ℕ → List ℕ) × (c2 : ReclaimAll) × ReclaimedOn V same batch_size roots slot s i lists c g told v lists2 c2
      × (((told ≡ settled.Done) × (v ≡ n)) ⊎ ReclaimsTo i grants v lists2 c2 n)

  -- The promise of caller i: where it reclaims all, there are steps by which it terminates.
  abbrev pub ReclaimingTerminates : ℕ → Type 0
  ReclaimingTerminates i =
      batch_size < 2 ^ 64 → (s : Scene K V) (lists : ℕ → List ℕ) (c : ReclaimAll) → IsReclaimingAll V same batch_size roots slot s i lists c
      → (grants : List Grant) × (n : Scene K V) × ReclaimsTo i grants s lists c n

  -- nobody has anything under way, nor reclaims all
  abbrev pub AllRestThere : Reached V same hash batch_size roots slot → Type 0
  AllRestThere x = SceneIsQuiescent x.0.0 × (reclaiming V same hash batch_size roots slot x.0 ≡ None)

  module _ (course : Course V same hash batch_size roots slot) where
    -- The promise: wherever a list of acts has led, each block behind which something may be put is somebody's.
    abbrev pub ListsPreserveTheirs : Type 0
    ListsPreserveTheirs =
        (doings : List (Doing K V S)) (x : Reached V same hash batch_size roots slot) → LedTo V same hash batch_size roots slot course doings x → AreTheirs x.0.0

    -- There, if nobody has anything under way, any caller may begin to reclaim all, with what is behind the roots then.
    abbrev pub ReclaimingBeginsThere : Type 0
    ReclaimingBeginsThere =
        batch_size < 2 ^ 64 → (doings : List (Doing K V S)) (x : Reached V same hash batch_size roots slot) → LedTo V same hash batch_size roots slot course doings x → AllRestThere x
        → (lists : ℕ → List ℕ) × ((i : ℕ)
        → (IsSome (word_at x.0.0.world.memory (Slot 0 HEAD)) → IsReclaimingAll V same batch_size roots slot x.0.0 i lists (reclaiming_all batch_size roots))
        × (IsQuiescent x.0.0.world → IsReclaimingAll V same batch_size roots slot x.0.0 i lists (clearing roots))
        × (word_at x.0.0.world.memory (Slot 0 HEAD) ≡ None → IsQuiescent x.0.0.world))

    -- And once it has come to its end only pairs are left.
    abbrev pub OnlyPairsWaitThere : Type 0
    OnlyPairsWaitThere =
        (doings : List (Doing K V S)) (x : Reached V same hash batch_size roots slot) → LedTo V same hash batch_size roots slot course doings x
        → (i : ℕ) (lists : ℕ → List ℕ) (c : ReclaimAll) → IsReclaimingAll V same batch_size roots slot x.0.0 i lists c
        → (grants : List Grant) (n : Scene K V) → ReclaimsTo i grants x.0.0 lists c n → OnlyPairsAreLeft n

    -- In one piece: there, if nobody has anything under way, any caller can reclaim all, so that only pairs are left.
    abbrev pub AllCanBeReclaimedThere : Type 0
    AllCanBeReclaimedThere =
        batch_size < 2 ^ 64 → (doings : List (Doing K V S)) (x : Reached V same hash batch_size roots slot) → LedTo V same hash batch_size roots slot course doings x → AllRestThere x
        → (i : ℕ) → (lists : ℕ → List ℕ) × (c : ReclaimAll) × (grants : List Grant) × (n : Scene K V) × ReclaimsTo i grants x.0.0 lists c n × OnlyPairsAreLeft n

    -- So a list goes on by which all is reclaimed, and other acts may come behind it: nobody has anything under way then.
    abbrev pub ListsReclaimAll : Type 0
    ListsReclaimAll =
        batch_size < 2 ^ 64 → (doings : List (Doing K V S)) (x : Reached V same hash batch_size roots slot) → LedTo V same hash batch_size roots slot course doings x → AllRestThere x
        → (i : ℕ) → (more : List (Doing K V S)) × (y : Reached V same hash batch_size roots slot) × LedTo V same hash batch_size roots slot course (doings ++ more) y
        × AllRestThere y × OnlyPairsAreLeft y.0.0

    -- Wherever a list has led, and then the last step of a caller that reclaims all, only pairs are left, and nobody has anything under way.
    abbrev pub OnlyPairsAreDeferred : Type 0
    OnlyPairsAreDeferred =
        (g : Grant) (doings : List (Doing K V S)) (x : Reached V same hash batch_size roots slot) → LedTo V same hash batch_size roots slot course doings x
        → (may : MayDo V same hash batch_size roots slot (StepsReclaiming g) x.0) → reclaiming V same hash batch_size roots slot (course.next x.0 (StepsReclaiming g) may) ≡ None
        → AllRestThere (on_by V same hash batch_size roots slot course x (StepsReclaiming g) may) × OnlyPairsAreLeft (course.next x.0 (StepsReclaiming g) may).0

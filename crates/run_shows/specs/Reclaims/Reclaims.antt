-- A caller reclaims all, with any number of maps on the collector, while nothing else is under way: whichever step it takes, the invariant of all holds, and at
-- its end nothing waits but what is deferred.
use Rattle.std.specs.Prelude.{◌≡◌, ◌≢◌, ℕ, ◌<◌, ◌≤◌, ◌^◌, ◌⊎◌, Bool, true, List, [], ◌∷◌, ◌++◌, Option, Some, None, IsSome}
use Rattle.seize_words.specs.OneMemory.Word.{link_to}
use Rattle.seize_words.specs.declared.at.At.TheVariants.{Root, Used, Slot, Entry}
use Rattle.seize_words.specs.OneMemory.Mem.{Mem, Can, Took, value_at, word_at}
use Rattle.seize_words.specs.OneMemory.Plan.{May, Steps}
use Rattle.seize.specs.declared.states.TheConstants.{HEAD, NEXT}
use Rattle.seize.specs.declared.rows.settle.Settled.{Settled}
use Rattle.seize.specs.declared.rows.settle.Settled.TheVariants as settled
use Rattle.seize.specs.declared.rows.reclaim_all.ReclaimAll.{ReclaimAll}
use Rattle.seize.specs.declared.rows.reclaim_all.Reclaiming.{Reclaiming}
use Rattle.seize.specs.declared.rows.reclaim_all.Reclaiming.TheVariants as at
use Rattle.seize.specs.Further.{ListFrom}
use Rattle.seize.specs.Law.{is_retired}
use Rattle.seize.specs.ReclaimAll.{reclaiming_all, clearing, reclaim_all_plan}
use Rattle.seize.specs.Sequence.{taken_in}
use Rattle.seize.specs.World.{World, LeftTo, Event, Runs, times, with_at}
use Rattle.seize_acts.specs.Reclaims.Roots.{all_lists}
use Rattle.seize_acts.specs.Acts.Reclaimed.{HasNothingLeft}
use Rattle.run_effects.specs.Given.TablesNodes.{deferred_word, was_left}
use Rattle.run_effects.specs.Given.TablesDeclared.node.Node.{Node}
use Rattle.many_maps.specs.Given.CallersTogether.{UnderWay}
use Rattle.many_maps.specs.Endings.{Finishing, EndingsTogether}
use Rattle.many_maps.specs.FactsEnds.{TakesLeft, WritesRoot, events_of}
use Rattle.many_maps.specs.Makings.{Beginning, IsFreeRoot}
use Rattle.many_maps.specs.Maps.{Standing, IsSameMap}
use Rattle.run_shows.specs.Reclaims.Deferred.{TablesCarryPairs, OnlyTheyCarry, OnlyPairsWait}
use Rattle.run_shows.specs.Reclaims.Slots.{AreItsRows, AllRest, IsQuiescent, OnSlotsAt, DoesAt}

-- the root is that of a map that stands
abbrev pub IsRootOf : {K : Type 0} → (ℕ → Option (Standing K)) → ℕ → Type 0
IsRootOf {K} maps r = (m : ℕ) × (s : Standing K) × (maps m ≡ Some s) × (s.setting.root ≡ r)

module _ {K V : Type 0} where
  -- The root is taken, and leads to this list of blocks, whose first one's value says that it was left over. Without such a list it is free, and leads nowhere.
  abbrev pub RootLeads : World (Node K V) → ℕ → List ℕ → Type 0
  RootLeads w r [] = IsFreeRoot w r
  RootLeads w r (b ∷ blocks) =
      ((value : Node K V) × (value_at w.memory b ≡ Some value) × (was_left value ≡ true))
      × ((word : ℕ) × (word_at w.memory (Root r) ≡ Some word) × ListFrom w.memory word (b ∷ blocks)) × (word_at w.memory (Used r) ≡ Some 1)

  module _ (roots : ℕ) (w : World (Node K V)) (maps : ℕ → Option (Standing K)) (lists : ℕ → List ℕ) where
    -- These lists are behind the roots that no map has which stands, but for one root of which nothing is said here. Their blocks are left over, and none
    -- stands there twice.
    pub record LeftBut (root : ℕ) : Type 0 where
      pub others : (r : ℕ) → r < roots → r ≢ root → IsRootOf maps r ⊎ RootLeads w r (lists r)
      pub none : (r : ℕ) → r < roots → IsRootOf maps r → lists r ≡ []
      pub left : (b : ℕ) → 0 < times b (all_lists lists roots) → (j : ℕ) × (w.hand b ≡ LeftTo j)
      pub once : (b : ℕ) → times b (all_lists lists roots) ≤ 1

    -- These lists are behind the roots: what maps have left that have ended. Each other root is a standing map's, or is free.
    abbrev pub LeftBehind : Type 0
    LeftBehind = LeftBut roots

    -- What is behind this root is being reclaimed: it is no standing map's, and taken. Nothing is behind those before it any more.
    pub record Opened (root : ℕ) : Type 0 where
      pub below : root < roots
      pub before : (r : ℕ) → r < root → lists r ≡ []
      pub but : LeftBut root
      pub apart : IsRootOf maps root → ⊥
      pub used : word_at w.memory (Used root) ≡ Some 1
      pub there : IsSome (word_at w.memory (Root root))

  -- What is so at each point: on slots what their rows say, and behind them that nothing is left of what slots had.
  module _ (batch_size roots i : ℕ) (c : ReclaimAll) (w : World (Node K V)) (maps : ℕ → Option (Standing K)) (lists : ℕ → List ℕ) where
    abbrev pub ReclaimingAt : Reclaiming → Type 0
    ReclaimingAt (at.Roots root) = IsQuiescent w × LeftBehind roots w maps lists × (root < roots) × ((r : ℕ) → r < root → lists r ≡ [])
    ReclaimingAt (at.Nexts root block) = IsQuiescent w × Opened roots w maps lists root × ((b : ℕ) × (rest : List ℕ) × (lists root ≡ b ∷ rest) × ListFrom w.memory block (b ∷ rest))
    ReclaimingAt (at.Takes root block next) =
        IsQuiescent w × Opened roots w maps lists root
        × ((b : ℕ) × (rest : List ℕ) × (lists root ≡ b ∷ rest) × (block ≡ link_to b) × (word_at w.memory (Entry b NEXT) ≡ Some next) × ListFrom w.memory next rest)
    ReclaimingAt (at.Empties root) = IsQuiescent w × Opened roots w maps lists root × (lists root ≡ [])
    ReclaimingAt (at.Unuses root) = IsQuiescent w × Opened roots w maps lists root × (lists root ≡ []) × (word_at w.memory (Root root) ≡ Some 0)
    ReclaimingAt at.Over = IsQuiescent w × LeftBehind roots w maps lists × ((r : ℕ) → r < roots → lists r ≡ [])
    ReclaimingAt p = (c.batch_size ≡ batch_size) × LeftBehind roots w maps lists × OnSlotsAt batch_size i c w p

  -- Nothing waits any more but what is put behind blocks that the collector does not have: no row is under way, nothing is retired, no slot is in use,
  -- none has a batch, and each root that no standing map has is free and leads nowhere. What is put behind a linked table of a map that stands is deferred there.
  pub record AllIsReclaimed (roots : ℕ) (w : World (Node K V)) (maps : ℕ → Option (Standing K)) : Type 0 where
    pub nothing : HasNothingLeft deferred_word w
    pub free : (r : ℕ) → r < roots → IsRootOf maps r ⊎ IsFreeRoot w r
    pub carry : TablesCarryPairs w maps

  -- What a step has reclaimed: nothing; or a block that was retired; or the next one of what was behind the first root that had something behind it. Its
  -- value is handed out. A step never waits.
  module _ (w w2 : World (Node K V)) (lists lists2 : ℕ → List ℕ) where
    abbrev pub HasTaken : ℕ → Type 0
    HasTaken b =
        ((is_retired b w.log ≡ true) × (taken_in w2.log ≡ taken_in w.log ++ b ∷ []) × (lists2 ≡ lists))
        ⊎ ((root : ℕ) × (rest : List ℕ) × ((r : ℕ) → r < root → lists r ≡ []) × (lists root ≡ b ∷ rest) × (lists2 ≡ with_at lists root rest) × (taken_in w2.log ≡ taken_in w.log))

    abbrev pub ReclaimingOutcome : Settled (Node K V) → Type 0
    ReclaimingOutcome settled.Goes = (lists2 ≡ lists) × (taken_in w2.log ≡ taken_in w.log)
    ReclaimingOutcome settled.Waits = ⊥
    ReclaimingOutcome (settled.Gave value) = (b : ℕ) × (value_at w.memory b ≡ Some value) × (value_at w2.memory b ≡ None) × HasTaken b
    ReclaimingOutcome settled.Done = (lists2 ≡ lists) × (w2 ≡ w)

-- The promise: if users have no other block behind which something may be put, then all that waits is so deferred.
abbrev pub WaitsOnTables : Type 0 → Type 0 → Type 0
WaitsOnTables K V = (roots : ℕ) (w : World (Node K V)) (maps : ℕ → Option (Standing K)) → AllIsReclaimed roots w maps → OnlyTheyCarry w maps → OnlyPairsWait w maps

module _ {K Q : Type 0} (V : Type 0) (same : K → K → Bool) (asks : Q → K → Bool) (batch_size roots : ℕ) (slot : ℕ → ℕ) where
  module _ (maps : ℕ → Option (Standing K)) (calls : ℕ → ℕ → Option (UnderWay K V Q)) (makers : ℕ → Option (Beginning K)) (enders : ℕ → Option (Finishing K V)) where
    -- The maps that stand do so together, and nobody has a call on one, makes one or ends one.
    pub record AllStandIdle (w : World (Node K V)) : Type 0 where
      pub together : EndingsTogether V same asks batch_size roots slot w maps calls makers enders
      pub no_calls : (m j : ℕ) → calls m j ≡ None
      pub no_makers : (j : ℕ) → makers j ≡ None
      pub no_enders : (j : ℕ) → enders j ≡ None

    -- So they do while caller i reclaims all, and it knows what its point says. These lists are behind the roots still.
    pub record ReclaimingTogether (w : World (Node K V)) (i : ℕ) (lists : ℕ → List ℕ) (c : ReclaimAll) : Type 0 where
      pub stand : AllStandIdle w
      pub roots_are : c.roots ≡ roots
      pub point : ReclaimingAt batch_size roots i c w maps lists c.stands

  module _ (maps : ℕ → Option (Standing K)) (calls : ℕ → ℕ → Option (UnderWay K V Q)) (makers : ℕ → Option (Beginning K)) (enders : ℕ → Option (Finishing K V)) (w : World (Node K V)) (i : ℕ) where
    -- Where no row is under way, a caller begins to reclaim all: with the slots, if one was ever taken; or with the roots, if no slot is in use and none has
    -- a batch, as where none was ever taken.
    abbrev pub ReclaimingBegins : Type 0
    ReclaimingBegins =
        (lists : ℕ → List ℕ) → batch_size < 2 ^ 64 → AllStandIdle maps calls makers enders w → AllRest w → LeftBehind roots w maps lists
        → (IsSome (word_at w.memory (Slot 0 HEAD)) → ReclaimingTogether maps calls makers enders w i lists (reclaiming_all batch_size roots))
        × (IsQuiescent w → ReclaimingTogether maps calls makers enders w i lists (clearing roots))
        × (word_at w.memory (Slot 0 HEAD) ≡ None → IsQuiescent w)

    -- Where a step leads from a point. It is made up of beginnings and steps of rows on slots, those of that point, or takes a block away that was left over, or
    -- writes a word of a root. Each map stands as it stood, and at the end all is reclaimed.
    pub record StepsOfReclaiming (lists : ℕ → List ℕ) (point : Reclaiming) (m2 : Mem (Node K V)) (c2 : ReclaimAll) (progress : Settled (Node K V)) : Type 0 where
      pub w2 : World (Node K V)
      pub events : List (Event (Node K V))
      pub its : AreItsRows i events ⊎ ((b : ℕ) × (events ≡ events_of i (TakesLeft b)))
          ⊎ ((root : ℕ) × ((events ≡ events_of i (WritesRoot (Root root) 0)) ⊎ (events ≡ events_of i (WritesRoot (Used root) 0))))
      pub runs : Runs deferred_word batch_size events w w2
      pub does : DoesAt batch_size i events w w2 point c2.stands
      pub memory : w2.memory ≡ m2
      pub maps2 : ℕ → Option (Standing K)
      pub as_they_were : (m : ℕ) → IsSameMap (maps m) (maps2 m)
      pub lists2 : ℕ → List ℕ
      pub told : ReclaimingOutcome w w2 lists lists2 progress
      pub next : ReclaimingTogether maps2 calls makers enders w2 i lists2 c2
      pub over : progress ≡ settled.Done → AllIsReclaimed roots w2 maps2

    -- The promise: whichever step of its reclaiming all the caller takes, it may take it.
    abbrev pub ReclaimingStands : Type 0
    ReclaimingStands =
        (lists : ℕ → List ℕ) (c : ReclaimAll) → batch_size < 2 ^ 64 → ReclaimingTogether maps calls makers enders w i lists c
        → May Can Took value_at w.memory (reclaim_all_plan deferred_word was_left c)
        × ((m2 : Mem (Node K V)) (c2 : ReclaimAll) (progress : Settled (Node K V))
        → Steps Took value_at w.memory (reclaim_all_plan deferred_word was_left c) m2 (c2, progress) → StepsOfReclaiming lists c.stands m2 c2 progress)

-- Everything that waits is reclaimed, as a whole call over a memory that has one owner, who is caller 0.
use Rattle.std.specs.Prelude.{◌≡◌, ◌≢◌, ◌⊎◌, ℕ, zero, suc, ◌+◌, ◌-◌, ◌*◌, ◌<◌, ◌^◌, Bool, true, false, List, [], ◌∷◌, ◌++◌, Option, Some, None, IsSome, if◌then◌else◌}
use Rattle.seize_words.specs.OneMemory.Word.{block_in}
use Rattle.seize_words.specs.declared.at.At.TheVariants.{Root, Slot}
use Rattle.seize_words.specs.OneMemory.Mem.{Mem, Took, value_at, word_at}
use Rattle.seize_words.specs.OneMemory.Plan.{Steps}
use Rattle.seize.specs.declared.states.TheConstants.{HEAD, LAST_SLOT}
use Rattle.seize.specs.declared.rows.settle.Settled.{Settled}
use Rattle.seize.specs.declared.rows.settle.Settled.TheVariants.{Goes, Waits, Gave, Done}
use Rattle.seize.specs.declared.rows.reclaim_all.ReclaimAll.{ReclaimAll}
use Rattle.seize.specs.declared.rows.reclaim_all.Reclaiming.{Reclaiming}
use Rattle.seize.specs.declared.rows.reclaim_all.Reclaiming.TheVariants as at
use Rattle.seize.specs.Law.{reachable, where_is, is_retired}
use Rattle.seize.specs.ReclaimAll.{reclaiming_all, clearing, reclaim_all_plan}
use Rattle.seize.specs.WaitingSets.{Sets, After, all_changed, all_reclaimed, at_start as sets_at_start}
use Rattle.seize.specs.World.{Vacant, times}
use Rattle.seize_model.specs.Sets.Reclaims.{NothingWaits}
use Rattle.seize_model.specs.Alone.Alone.{IsOfUsers, History, IsHistory, AreValues, Spares, SameLeft}
use Rattle.seize_acts.specs.Reclaims.Roots.{LeftAt, IsCleared}

-- the block can be reached, or a caller has it
abbrev pub IsKnown : History → ℕ → Type 0
IsKnown h b = (reachable b h.log ≡ true) ⊎ IsOfUsers (h.hand b)

-- a row within is under way
abbrev pub is_within : Reclaiming → Bool
is_within (at.Leaves slot leave) = true
is_within (at.Flushes slot settle) = true
is_within _ = false

-- and it is a flush
abbrev pub is_flushing : Reclaiming → Bool
is_flushing (at.Flushes slot settle) = true
is_flushing _ = false

-- How many points lie before it at most until it reclaims a value or has ended, rows counted as one: two for each slot that is still to settle, then two
-- rounds over the slots, then each slot that is given up, and six for each root. A flush that begins reclaims a value.
abbrev pub weight_at : ReclaimAll → Reclaiming → ℕ
weight_at c (at.Heads slot) = 2 * (LAST_SLOT + 1 - slot) + 3 * (LAST_SLOT + 1) + 6 * c.roots + 3
weight_at c (at.Retakes slot) = 2 * (LAST_SLOT + 1 - slot) + 3 * (LAST_SLOT + 1) + 6 * c.roots + 2
weight_at c (at.Leaves slot leave) = 2 * (LAST_SLOT + 1 - slot) + 3 * (LAST_SLOT + 1) + 6 * c.roots + 2
weight_at c (at.Batches slot) = (c.slots - slot) + (if c.again then c.slots + 1 else 0) + c.slots + 6 * c.roots + 2
weight_at c (at.Flushes slot settle) = 0
weight_at c (at.Frees slot) = (c.slots - slot) + 6 * c.roots + 1
weight_at c (at.Roots root) = 6 * (c.roots - root)
weight_at c (at.Nexts root block) = 6 * (c.roots - root) - 1
weight_at c (at.Takes root block next) = 6 * (c.roots - root) - 2
weight_at c (at.Empties root) = 6 * (c.roots - root) - 3
weight_at c (at.Unuses root) = 6 * (c.roots - root) - 4
weight_at c at.Over = 0

-- the waiting sets of a history
abbrev pub sets_in : ℕ → History → Sets
sets_in batch_size h = (all_changed batch_size h.before sets_at_start).sets

-- Whole calls have reclaimed these blocks, and have left all else as it was, but for how slots are used. No block that was known is among them.
pub record OnlyReclaims {T : Type 0} (m : Mem T) (h : History) (m2 : Mem T) (h2 : History) (back : List ℕ) : Type 0 where
  pub spares : Spares m m2 back
  pub gone : (b : ℕ) → 0 < times b back → value_at m2 b ≡ None
  pub links : SameLeft h m m2
  pub hands : (b : ℕ) → times b back ≡ 0 → h2.hand b ≡ h.hand b
  pub known : (b : ℕ) → IsKnown h b → (times b back ≡ 0) × (where_is b h2.log ≡ where_is b h.log)

module _ {T : Type 0} (defers : T → Option ℕ) (left_over : T → Bool) (batch_size roots : ℕ) (m : Mem T) (h : History) where
  -- what the waiting sets are in the end, and what they give back until then
  abbrev pub all : After
  all = all_reclaimed batch_size (sets_in batch_size h)

  -- All that waited is reclaimed. No slot is in use, no batch is there, and each block that was retired is reclaimed.
  pub record SlotsReclaimed (m2 : Mem T) (h2 : History) : Type 0 where
    pub happened : IsHistory defers batch_size roots m2 h2
    pub sets : sets_in batch_size h2 ≡ all.sets
    pub only : OnlyReclaims m h m2 h2 all.reclaimed
    pub vacant : (s : ℕ) → h2.uses s ≡ Vacant
    pub waits : NothingWaits all.sets
    pub retired : (b : ℕ) → is_retired b h2.log ≡ false

  module _ (lists : ℕ → List ℕ) where
    -- It may be begun: these lists are behind the roots, and what other roots name is known.
    pub record MayReclaimAll : Type 0 where
      pub size : batch_size < 2 ^ 64
      pub happened : IsHistory defers batch_size roots m h
      pub left : LeftAt left_over m h roots lists
      pub living : (r word : ℕ) → r < roots → lists r ≡ [] → word_at m (Root r) ≡ Some word → word ≢ 0 → IsKnown h (block_in word)

    -- It begins with the slots. Where no slot was ever taken it may begin with the roots: no slot is in use then, and none has a batch.
    abbrev pub Starts : ReclaimAll → Type 0
    Starts c =
        ((c ≡ reclaiming_all batch_size roots) × IsSome (word_at m (Slot 0 HEAD)))
        ⊎ ((c ≡ clearing roots) × ((s : ℕ) → h.uses s ≡ Vacant) × ((s : ℕ) → (sets_in batch_size h).open_batch s ≡ []))

    -- what was given back, before a step that told this and after it
    abbrev pub GivesBack : List T → Settled T → List T → Type 0
    GivesBack given Goes given2 = given2 ≡ given
    GivesBack given Waits given2 = given2 ≡ given
    GivesBack given (Gave value) given2 = given2 ≡ given ++ value ∷ []
    GivesBack given Done given2 = ⊥

    -- it has taken so many steps, which have given these values back, and stands here
    abbrev pub HasCome : ℕ → ReclaimAll → Mem T → List T → Type 0
    HasCome zero c m2 given = Starts c × (m2 ≡ m) × (given ≡ [])
    HasCome (suc steps) c m2 given =
        (c1 : ReclaimAll) × (m1 : Mem T) × (given1 : List T) × (progress : Settled T) × HasCome steps c1 m1 given1
        × Steps Took value_at m1 (reclaim_all_plan defers left_over c1) m2 (c, progress) × GivesBack given1 progress given

    -- It was begun on the memory m, with this history. Now it stands here, the memory is m2, and it has given these values back.
    pub record IsReclaiming (c : ReclaimAll) (m2 : Mem T) (given : List T) : Type 0 where
      pub may : MayReclaimAll
      pub steps : ℕ
      pub come : HasCome steps c m2 given

    -- It has ended. By way of a memory in which all slots are given up it gave back what the waiting sets say, in that order, and then what was behind
    -- the roots.
    pub record IsAllReclaimed (m2 : Mem T) (given : List T) : Type 0 where
      pub middle : Mem T
      pub between : History
      pub slots : SlotsReclaimed middle between
      pub waited : List T
      pub behind : List T
      pub order : given ≡ waited ++ behind
      pub values : AreValues defers batch_size roots m all.reclaimed waited
      pub cleared : IsCleared defers left_over batch_size roots middle between lists m2 behind

    -- it goes on with a value more, or no row is under way
    abbrev pub RowEnds : List T → ReclaimAll → Mem T → Option T → Type 0
    RowEnds given c m2 (Some value) = IsReclaiming c m2 (given ++ value ∷ [])
    RowEnds given c m2 None = IsReclaiming c m2 given × (is_within c.stands ≡ false)

    -- it goes on with a value more, or it has ended
    abbrev pub ReclaimsOn : List T → ReclaimAll → Mem T → Option T → Type 0
    ReclaimsOn given c m2 (Some value) = IsReclaiming c m2 (given ++ value ∷ [])
    ReclaimsOn given c m2 None = IsAllReclaimed m2 given

-- What ended maps left behind the roots is reclaimed, as a whole call over a memory that has one owner, who is caller 0.
use Rattle.std.specs.Prelude.{◌≡◌, ◌≢◌, ℕ, zero, suc, ◌<◌, ◌≤◌, Bool, true, false, List, [], ◌∷◌, ◌++◌, Option, Some, None, IsSome}
use Rattle.seize_words.specs.OneMemory.Word.{block_in, link_to}
use Rattle.seize_words.specs.declared.at.At.TheVariants.{Root, Used, Entry}
use Rattle.seize_words.specs.OneMemory.Mem.{Mem, value_at, word_at, block_of}
use Rattle.seize.specs.declared.states.TheConstants.{NEXT}
use Rattle.seize.specs.declared.rows.reclaim_all.ReclaimAll.{ReclaimAll}
use Rattle.seize.specs.declared.rows.reclaim_all.Reclaiming.{Reclaiming}
use Rattle.seize.specs.declared.rows.reclaim_all.Reclaiming.TheVariants as at
use Rattle.seize.specs.Further.{ListFrom}
use Rattle.seize.specs.World.{LeftTo, Vacant, times}
use Rattle.seize_model.specs.Alone.Alone.{History, IsHistory, AreValues, cleared}

-- the blocks that the roots below this number lead to, by ascending root
abbrev pub all_lists : (ℕ → List ℕ) → ℕ → List ℕ
all_lists lists zero = []
all_lists lists (suc r) = all_lists lists r ++ lists r

-- they were taken away, one after another
abbrev pub all_cleared : List ℕ → History → History
all_cleared [] h = h
all_cleared (b ∷ blocks) h = all_cleared blocks (cleared b h)

-- the word of a root that is free where it led to a list, and is as it was where it led to none
abbrev pub freed : List ℕ → Option ℕ → Option ℕ
freed [] word = word
freed (b ∷ blocks) word = Some 0

module _ {T : Type 0} (left_over : T → Bool) where
  -- A root's word leads to no block that was left over: it names none, or one whose value says that it was not. Or it leads to a list whose
  -- first block's value says that it was.
  abbrev pub LeadsTo : Mem T → History → ℕ → List ℕ → Type 0
  LeadsTo m h word [] = word ≢ 0 → (value : T) × (value_at m (block_in word) ≡ Some value) × (left_over value ≡ false) × (h.hand (block_in word) ≢ LeftTo 0)
  LeadsTo m h word (b ∷ blocks) = ((value : T) × (value_at m b ≡ Some value) × (left_over value ≡ true)) × ListFrom m word (b ∷ blocks)

  -- These lists are behind the roots, which are so many. Their blocks are left to caller 0, and none stands there twice.
  pub record LeftAt (m : Mem T) (h : History) (roots : ℕ) (lists : ℕ → List ℕ) : Type 0 where
    pub root : (r : ℕ) → r < roots → (word : ℕ) × (word_at m (Root r) ≡ Some word) × LeadsTo m h word (lists r)
    pub used : (r : ℕ) → r < roots → IsSome (word_at m (Used r))
    pub left : (b : ℕ) → 0 < times b (all_lists lists roots) → h.hand b ≡ LeftTo 0
    pub once : (b : ℕ) → times b (all_lists lists roots) ≤ 1

-- These blocks are gone. The roots below the one number that led to lists name nothing, and those below the other are free. All else is as it was.
pub record Frees {T : Type 0} (lists : ℕ → List ℕ) (named unused : ℕ) (m m2 : Mem T) (back : List ℕ) : Type 0 where
  pub gone : (b : ℕ) → 0 < times b back → block_of m2 b ≡ None
  pub others : (b : ℕ) → times b back ≡ 0 → block_of m2 b ≡ block_of m b
  pub slots : m2.slots ≡ m.slots
  pub choices : m2.choices ≡ m.choices
  pub root : (r : ℕ) → r < named → word_at m2 (Root r) ≡ freed (lists r) (word_at m (Root r))
  pub other_root : (r : ℕ) → named ≤ r → word_at m2 (Root r) ≡ word_at m (Root r)
  pub used : (r : ℕ) → r < unused → word_at m2 (Used r) ≡ freed (lists r) (word_at m (Used r))
  pub other_used : (r : ℕ) → unused ≤ r → word_at m2 (Used r) ≡ word_at m (Used r)

-- the roots below this number name nothing any more, if they led to lists
abbrev pub named_at : Reclaiming → ℕ → ℕ
named_at (at.Roots root) roots = root
named_at (at.Nexts root block) roots = root
named_at (at.Takes root block next) roots = root
named_at (at.Empties root) roots = root
named_at (at.Unuses root) roots = suc root
named_at _ roots = roots

-- and those below this one are free
abbrev pub unused_at : Reclaiming → ℕ → ℕ
unused_at (at.Roots root) roots = root
unused_at (at.Nexts root block) roots = root
unused_at (at.Takes root block next) roots = root
unused_at (at.Empties root) roots = root
unused_at (at.Unuses root) roots = root
unused_at _ roots = roots

-- a block on the list of a root is the next one, and these are behind it; those before it were reclaimed
pub record IsIn (lists : ℕ → List ℕ) (roots r b : ℕ) (rest back : List ℕ) : Type 0 where
  pub below : r < roots
  pub before : List ℕ
  pub order : back ≡ all_lists lists r ++ before
  pub list : lists r ≡ before ++ b ∷ rest

-- the list of a root, which led to one, was reclaimed
pub record IsPast (lists : ℕ → List ℕ) (roots r : ℕ) (back : List ℕ) : Type 0 where
  pub below : r < roots
  pub order : back ≡ all_lists lists (suc r)
  pub first : ℕ
  pub rest : List ℕ
  pub list : lists r ≡ first ∷ rest

-- what was reclaimed at each point
abbrev pub ReclaimedAtPoint : {T : Type 0} → Mem T → (ℕ → List ℕ) → ℕ → Reclaiming → List ℕ → Type 0
ReclaimedAtPoint m lists roots (at.Roots root) back = (root < roots) × (back ≡ all_lists lists root)
ReclaimedAtPoint m lists roots (at.Nexts root block) back = (b : ℕ) × (rest : List ℕ) × IsIn lists roots root b rest back × ListFrom m block (b ∷ rest)
ReclaimedAtPoint m lists roots (at.Takes root block next) back =
    (b : ℕ) × (rest : List ℕ) × IsIn lists roots root b rest back × (block ≡ link_to b) × (word_at m (Entry b NEXT) ≡ Some next) × ListFrom m next rest
ReclaimedAtPoint m lists roots (at.Empties root) back = IsPast lists roots root back
ReclaimedAtPoint m lists roots (at.Unuses root) back = IsPast lists roots root back
ReclaimedAtPoint m lists roots at.Over back = back ≡ all_lists lists roots
ReclaimedAtPoint m lists roots _ back = ⊥

module _ {T : Type 0} (defers : T → Option ℕ) (left_over : T → Bool) (batch_size roots : ℕ) (m : Mem T) (h : History) (lists : ℕ → List ℕ) where
  -- It was begun on the memory m, with this history and these lists, while no slot was in use. Now it stands here, the memory is m2, and it has given these values back.
  pub record IsClearing (c : ReclaimAll) (m2 : Mem T) (given : List T) : Type 0 where
    pub history : IsHistory defers batch_size roots m h
    pub left : LeftAt left_over m h roots lists
    pub vacant : (s : ℕ) → h.uses s ≡ Vacant
    pub roots_are : c.roots ≡ roots
    pub back : List ℕ
    pub stands : ReclaimedAtPoint m lists roots c.stands back
    pub now : IsHistory defers batch_size roots m2 (all_cleared back h)
    pub values : AreValues defers batch_size roots m back given
    pub frees : Frees lists (named_at c.stands roots) (unused_at c.stands roots) m m2 back

  -- It has ended: it gave the values of all these blocks back, in order, and the roots that led to them are free.
  pub record IsCleared (m2 : Mem T) (given : List T) : Type 0 where
    pub now : IsHistory defers batch_size roots m2 (all_cleared (all_lists lists roots) h)
    pub values : AreValues defers batch_size roots m (all_lists lists roots) given
    pub frees : Frees lists roots roots m m2 (all_lists lists roots)

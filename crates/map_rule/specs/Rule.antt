-- The rule of a map: what holds of its tables between any two single operations, whoever makes them.
use Rattle.std.specs.Prelude.{◌≡◌, ◌≢◌, ℕ, zero, suc, ◌+◌, ◌<◌, ◌≤◌, Bool, true, false, cond, Option, Some, None, ◌⊎◌, leb}
use Rattle.std.specs.Cmp.{IsEquivalence}
use Rattle.map_machines.specs.Given.TablesDeclared.status.TheConstants.Status.{PENDING, ABORTED, PROMOTED}
use Rattle.map_rule.specs.Chart.{Phase, Still, Copying, Copied, Place, Empty, Tombstone, Holds, Share, Free, Claimed, Done, Counted, Lost, Chart, is_marked, is_settled, is_taken, is_counted}

-- f added up below n
abbrev pub total : {X : Type 0} → (X → ℕ) → (ℕ → X) → ℕ → ℕ
total f d zero = 0
total f d (suc n) = total f d n + f (d n)

-- what a share stands for has been copied
abbrev pub is_past : Share → Bool
is_past (Done caller) = true
is_past Counted = true
is_past _ = false

-- nobody is to copy it any more
abbrev pub is_over : Share → Bool
is_over (Done caller) = true
is_over Counted = true
is_over Lost = true
is_over _ = false

-- no caller has the share yet
abbrev pub is_free : Share → Bool
is_free Free = true
is_free _ = false

-- in incremental mode, the share of a place is what the place says
abbrev pub Agrees : Share → Place → Type 0
Agrees Free place = is_marked place ≡ false
Agrees (Claimed caller) place = (n : ℕ) × (borrowed : Bool) × (place ≡ Holds n Copying borrowed)
Agrees (Done caller) place = is_settled place ≡ true
Agrees Counted place = is_settled place ≡ true
Agrees Lost place = ⊥

-- What keys are like: classes are classes, and the places of a key, in a table of some length, are places of it and those of its class.
pub record IsLawful {K : Type 0} (same : K → K → Bool) (spot : ℕ → K → ℕ → ℕ) : Type 0 where
  pub classes : IsEquivalence same
  pub respects : (len j : ℕ) (k other : K) → same k other ≡ true → spot len k j ≡ spot len other j
  pub within : (len j : ℕ) (k : K) → 0 < len → spot len k j < len

-- whether two keys are of one class; the place of a key at a try, in a table of a length; whether pairs move in incremental mode, or in blocking mode
module _ {K : Type 0} (same : K → K → Bool) (spot : ℕ → K → ℕ → ℕ) (incremental : Bool) where
  -- a key is one of this class
  abbrev pub is_of : K → Option K → Bool
  is_of k None = false
  is_of k (Some key) = same k key

  -- a place names a pair of the class
  abbrev pub names : (ℕ → Option K) → K → Place → Bool
  names keys k (Holds n phase borrowed) = is_of k (keys n)
  names keys k _ = false

  module _ (c : Chart K) where
    -- the place of the key at this try in the table
    abbrev pub tried : ℕ → K → ℕ → Place
    tried t k j = c.place t (spot (c.len t) k j)

    -- the tries before this one are passed: their places are taken, by other classes
    abbrev pub Passed : ℕ → K → ℕ → Type 0
    Passed t k j = (g : ℕ) → g < j → (is_taken incremental (tried t k g) ≡ true) × (names c.key k (tried t k g) ≡ false)

    -- the place is that of one of the key's tries, and all earlier ones are taken
    abbrev pub OnPath : ℕ → ℕ → K → Type 0
    OnPath t i k = (j : ℕ) × (j ≤ c.limit t) × (spot (c.len t) k j ≡ i) × ((g : ℕ) → g < j → is_taken incremental (tried t k g) ≡ true)

    -- a pair of the class stands in the table, and was copied from it
    abbrev pub WasCopied : ℕ → K → Type 0
    WasCopied t k = (i : ℕ) × (n : ℕ) × (borrowed : Bool) × (c.place t i ≡ Holds n Copied borrowed) × (is_of k (c.key n) ≡ true)

    -- each try of the key is taken
    abbrev pub Full : ℕ → K → Type 0
    Full t k = (j : ℕ) → j ≤ c.limit t → is_taken incremental (tried t k j) ≡ true

    -- The table is shut for the class: what it has of it was copied, and nothing more of it can come.
    abbrev pub Shut : ℕ → K → Type 0
    Shut t k =
        ((i n : ℕ) (phase : Phase) (borrowed : Bool) → c.place t i ≡ Holds n phase borrowed → is_of k (c.key n) ≡ true → phase ≡ Copied)
        × (WasCopied t k ⊎ Full t k)

    -- all tables before are shut for it
    abbrev pub ShutBefore : ℕ → K → Type 0
    ShutBefore t k = (u : ℕ) → u < t → Shut u k

    -- the pair stands in the root, too, which it is being copied from
    abbrev pub IsMoving : ℕ → Type 0
    IsMoving n = (i : ℕ) × (borrowed : Bool) × (c.place c.first i ≡ Holds n Copying borrowed)

    -- where a pair of the map stands: in incremental mode in the root or a later table, at once in the root
    abbrev pub IsHome : ℕ → Type 0
    IsHome t = cond incremental (c.first ≤ t) (t ≡ c.first)

    -- in both modes
    pub record Common : Type 0 where
      pub rooted : 0 < c.past → c.first < c.past
      pub rootless : c.past ≡ 0 → c.first ≡ 0
      pub lens : (t : ℕ) → t < c.past → (0 < c.len t) × (c.limit t < c.len t)
      -- a table that is not there yet
      pub unmade : (t i : ℕ) → c.past ≤ t → c.place t i ≡ Empty false
      pub unshared : (t i : ℕ) → c.past ≤ t → c.share t i ≡ Free
      pub uncounted : (t : ℕ) → c.past ≤ t → (c.claim t ≡ 0) × (c.copied t ≡ 0) × (c.status t ≡ PENDING)
      pub outside : (t i : ℕ) → t < c.past → c.len t ≤ i → c.place t i ≡ Empty false
      -- pairs have keys, and each was stored
      pub keyed : (t i n : ℕ) (phase : Phase) (borrowed : Bool) → c.place t i ≡ Holds n phase borrowed → (n < c.stored) × (k : K) × (c.key n ≡ Some k)
      pub unstored : (n : ℕ) → c.stored ≤ n → c.key n ≡ None
      -- a pair stands where its key is looked for, and its class stands at one place of a table, unless the table was aborted
      pub on_path : (t i n : ℕ) (phase : Phase) (borrowed : Bool) (k : K) → c.status t ≢ ABORTED → c.place t i ≡ Holds n phase borrowed → c.key n ≡ Some k → OnPath t i k
      pub once : (t i j n o : ℕ) (phase phase2 : Phase) (borrowed borrowed2 : Bool) (k : K) → c.status t ≢ ABORTED
          → c.place t i ≡ Holds n phase borrowed → c.place t j ≡ Holds o phase2 borrowed2 → is_of k (c.key n) ≡ true → is_of k (c.key o) ≡ true → i ≡ j
      -- only the root is marked
      pub unmarked : (t i : ℕ) → c.first < t → is_marked (c.place t i) ≡ false
      pub pending : (t : ℕ) → c.first < t → c.status t ≢ PROMOTED
      pub live : c.status c.first ≢ ABORTED
      pub counts : (t : ℕ) → c.first < t → t < c.past → c.copied t ≡ total is_counted (c.share t) (c.len c.first)
      -- the pairs of the map are those that stand uncopied at their homes
      pub stands : (n : ℕ) → c.current n ≡ true → (t : ℕ) × (i : ℕ) × (phase : Phase) × (borrowed : Bool) × (c.place t i ≡ Holds n phase borrowed) × (phase ≢ Copied) × IsHome t
      pub is_current : (t i n : ℕ) (phase : Phase) (borrowed : Bool) → c.place t i ≡ Holds n phase borrowed → phase ≢ Copied → IsHome t → c.current n ≡ true

    -- in incremental mode
    pub record Incremental : Type 0 where
      pub settled : (t i : ℕ) → t < c.first → i < c.len t → is_settled (c.place t i) ≡ true
      -- a class that stands in a table is shut in each earlier one from the root on, unless it is being copied from the root
      pub chain : (t u i n : ℕ) (phase : Phase) (borrowed : Bool) (k : K) → c.place u i ≡ Holds n phase borrowed → c.key n ≡ Some k → t < u → c.first ≤ t
          → Shut t k ⊎ ((t ≡ c.first) × (borrowed ≡ true) × IsMoving n)
      pub shares : (i : ℕ) → i < c.len c.first → Agrees (c.share (suc c.first) i) (c.place c.first i)
      pub only_next : (t i : ℕ) → suc c.first < t → c.share t i ≡ Free
      -- a pair that is not borrowed stands in no older table
      pub lent : (t u i j n : ℕ) (phase phase2 : Phase) (borrowed : Bool) → c.place t i ≡ Holds n phase false → c.place u j ≡ Holds n phase2 borrowed → t ≤ u
      pub never_aborted : (t : ℕ) → c.status t ≢ ABORTED

    -- in blocking mode
    pub record Blocking : Type 0 where
      pub marked_has_next : (i : ℕ) → is_marked (c.place c.first i) ≡ true → suc c.first < c.past
      pub plain : (t i n : ℕ) (phase : Phase) (borrowed : Bool) → c.place t i ≡ Holds n phase borrowed → (phase ≢ Copied) × (borrowed ≡ false)
      -- the target has pairs of the root, and all those that were copied
      pub targets : (t i n : ℕ) (phase : Phase) (borrowed : Bool) → c.first < t → c.status t ≢ ABORTED → c.place t i ≡ Holds n phase borrowed
          → (j : ℕ) × (j < c.len c.first) × (c.place c.first j ≡ Holds n Copying false) × (is_over (c.share t j) ≡ true)
      pub copies : (t j : ℕ) → c.first < t → c.status t ≢ ABORTED → is_past (c.share t j) ≡ true
          → (is_marked (c.place c.first j) ≡ true)
          × ((n : ℕ) (phase : Phase) (borrowed : Bool) → c.place c.first j ≡ Holds n phase borrowed → (i : ℕ) × (c.place t i ≡ Holds n Still false))
      pub claims : (t j : ℕ) → c.first < t → t < c.past → j < c.len c.first → is_free (c.share t j) ≡ leb (c.claim t) j
      -- what stands behind the root is a pair that is marked in it
      pub sources : (t i n : ℕ) (phase : Phase) (borrowed : Bool) → c.first < t → c.place t i ≡ Holds n phase borrowed → (j : ℕ) × (c.place c.first j ≡ Holds n Copying false)
      -- what the root has passed is marked
      pub left : (t i : ℕ) → t < c.first → c.status t ≢ ABORTED → i < c.len t → is_marked (c.place t i) ≡ true
      -- nothing behind the root was tombstone
      pub no_tombstone : (t i : ℕ) (mark : Bool) → c.first < t → c.place t i ≢ Tombstone mark
      -- only the last table can be promoted: one that was given up can't, and one behind another stands there because that one was
      pub aborted : (t : ℕ) → c.first < t → suc t < c.past → c.status t ≡ ABORTED
      pub given_up : (t : ℕ) → c.first < t → c.status t ≡ ABORTED → (j : ℕ) × (j < c.len c.first) × (c.share t j ≡ Lost)

    -- in the mode of the map
    abbrev pub InMode : Type 0
    InMode = cond incremental Incremental Blocking

    -- what holds of the tables of a map between any two moves
    pub record Rule : Type 0 where
      pub common : Common
      pub in_mode : InMode

-- a map without a table
abbrev pub no_table : {K : Type 0} → Chart K
no_table =
    record {
      past = 0;
      first = 0;
      len = λ t. 0;
      limit = λ t. 0;
      place = λ t i. Empty false;
      status = λ t. PENDING;
      claim = λ t. 0;
      copied = λ t. 0;
      share = λ t i. Free;
      stored = 0;
      key = λ n. None;
      current = λ n. false;
      now = 0;
      was = λ m n. false;
      passed = λ t. 0;
      from = λ t. 0;
    }

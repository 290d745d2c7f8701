-- What the words of a map's tables say. A table is known by its turn, and a pair by its number: unlike blocks, neither is used again.
use Rattle.std.specs.Prelude.{ℕ, Bool, true, false, cond, eqb, Option}

-- how far the copying of a pair is
pub data Phase : Type 0 where
  Still : Phase
  Copying : Phase  -- its place is marked
  Copied : Phase  -- a later table has it

-- what stands at a place of a table
pub data Place : Type 0 where
  Empty : Bool → Place  -- whether it is marked
  Tombstone : Bool → Place  -- whether it is marked; its pair was removed
  Holds : ℕ → Phase → Bool → Place  -- this pair, and whether it is borrowed: an older table had it before

-- who copies a place of the root into a later table
pub data Share : Type 0 where
  Free : Share
  Claimed : ℕ → Share  -- this caller is to
  Done : ℕ → Share  -- this caller has, and has not counted it
  Counted : Share
  Lost : Share  -- its caller has given that table up

-- the tables of a map and its pairs, as the words say them and as the callers know them
pub record Chart (K : Type 0) : Type 0 where
  pub past : ℕ  -- how many tables the map has had: their turns are the numbers below
  pub first : ℕ  -- the turn of the root
  pub len : ℕ → ℕ  -- by turn
  pub limit : ℕ → ℕ  -- by turn: the last try
  pub place : ℕ → ℕ → Place  -- by turn, and in it
  pub status : ℕ → ℕ  -- by turn
  pub claim : ℕ → ℕ  -- by turn
  pub copied : ℕ → ℕ  -- by turn
  pub share : ℕ → ℕ → Share  -- by the turn of the table that is copied into, and by place of the root
  pub stored : ℕ  -- how many pairs the map has had: their numbers are the numbers below
  pub key : ℕ → Option K  -- by pair
  pub current : ℕ → Bool  -- by pair: whether it is in the map
  pub now : ℕ  -- the moment: how often a pair was stored, replaced or removed
  pub was : ℕ → ℕ → Bool  -- by moment, and by pair: whether it was in the map
  pub passed : ℕ → ℕ  -- by turn: the moment at which the root left this table
  pub from : ℕ → ℕ  -- by turn: that of the root as this table was linked

-- f with v at k
abbrev pub put : {X : Type 0} → (ℕ → X) → ℕ → X → ℕ → X
put f k v j = cond (eqb j k) v (f j)

-- f with v at k in t
abbrev pub put_in : {X : Type 0} → (ℕ → ℕ → X) → ℕ → ℕ → X → ℕ → ℕ → X
put_in f t k v u j = cond (eqb u t) (cond (eqb j k) v (f u j)) (f u j)

-- the mark of copying is set
abbrev pub is_marked : Place → Bool
is_marked (Empty marked) = marked
is_marked (Tombstone marked) = marked
is_marked (Holds n Still borrowed) = false
is_marked (Holds n Copying borrowed) = true
is_marked (Holds n Copied borrowed) = true

-- where pairs move in incremental mode: nothing is left to copy, nor to be stored
abbrev pub is_settled : Place → Bool
is_settled (Empty marked) = marked
is_settled (Tombstone marked) = marked
is_settled (Holds n Still borrowed) = false
is_settled (Holds n Copying borrowed) = false
is_settled (Holds n Copied borrowed) = true

-- no later try of a key stops here; an empty place that is marked is passed where pairs move in incremental mode
abbrev pub is_taken : Bool → Place → Bool
is_taken incremental (Empty marked) = cond incremental marked false
is_taken incremental (Tombstone marked) = true
is_taken incremental (Holds n phase borrowed) = true

-- one for a share that is counted, for sums
abbrev pub is_counted : Share → ℕ
is_counted Counted = 1
is_counted _ = 0

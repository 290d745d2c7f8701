-- What a move leaves to all callers, and what it leaves to those who have not made it.
use Rattle.std.specs.Prelude.{◌≡◌, ℕ, ◌<◌, ◌≤◌, Bool, true, false}
use Rattle.map_rule.specs.Chart.{Copied, Holds, Chart, is_marked, is_settled, is_taken}
use Rattle.map_rule.specs.Rule.{Rule, no_table, IsLawful, Shut, names}
use Rattle.map_rule.specs.Moves.{Move, Marks, Skips, Unmarks, Puts, Covers, Claims, Counts, GivesUp, is_of_caller, after, Allowed}

module _ {K : Type 0} where
  -- a move is made by this caller, for the places that it copies
  abbrev pub IsBy : ℕ → Move K → Type 0
  IsBy i (Marks caller place) = caller ≡ i
  IsBy i (Skips caller t place) = caller ≡ i
  IsBy i (Unmarks caller place) = caller ≡ i
  IsBy i (Puts caller place t k j) = caller ≡ i
  IsBy i (Covers caller place) = caller ≡ i
  IsBy i (Claims caller t chunk) = caller ≡ i
  IsBy i (Counts caller t number) = caller ≡ i
  IsBy i (GivesUp caller t) = caller ≡ i
  IsBy i _ = ⊥

module _ {K : Type 0} (same : K → K → Bool) (spot : ℕ → K → ℕ → ℕ) (incremental : Bool) where
  -- from one state of the tables to a later one
  pub record Lasts (c c2 : Chart K) : Type 0 where
    pub past : c.past ≤ c2.past
    pub first : c.first ≤ c2.first
    pub lens : (t : ℕ) → t < c.past → (c2.len t ≡ c.len t) × (c2.limit t ≡ c.limit t)
    pub stored : c.stored ≤ c2.stored
    pub keys : (n : ℕ) → n < c.stored → c2.key n ≡ c.key n
    -- what is taken stays taken, and by the same class
    pub taken : (t i : ℕ) → is_taken incremental (c.place t i) ≡ true → is_taken incremental (c2.place t i) ≡ true
    pub others : (t i : ℕ) (k : K) → is_taken incremental (c.place t i) ≡ true → names same spot incremental c.key k (c.place t i) ≡ false
        → names same spot incremental c2.key k (c2.place t i) ≡ false
    pub copied : (t i n : ℕ) (borrowed : Bool) → c.place t i ≡ Holds n Copied borrowed → c2.place t i ≡ Holds n Copied borrowed
    pub settled : (t i : ℕ) → is_settled (c.place t i) ≡ true → is_settled (c2.place t i) ≡ true
    -- in incremental mode, what is shut stays shut; in blocking mode, what is marked stays as it is
    pub shut : (t : ℕ) (k : K) → incremental ≡ true → t < c.past → Shut same spot incremental c t k → Shut same spot incremental c2 t k
    pub frozen : (t i : ℕ) → incremental ≡ false → is_marked (c.place t i) ≡ true → c2.place t i ≡ c.place t i

  -- The promise: each move keeps the rule, leaves what lasts, and takes no other caller's shares.
  abbrev pub MoveKeeps : Move K → Chart K → Type 0
  MoveKeeps move c =
      Rule same spot incremental (after spot incremental move c) × Lasts c (after spot incremental move c)
      × ((i t j : ℕ) → (IsBy i move → ⊥) → is_of_caller i (c.share t j) ≡ true → (after spot incremental move c).share t j ≡ c.share t j)

  -- each move that is allowed does so
  abbrev pub MovesPreserveTheRule : Type 0
  MovesPreserveTheRule = IsLawful same spot → (move : Move K) (c : Chart K) → Rule same spot incremental c → Allowed same spot incremental move c → MoveKeeps move c

  -- and a map without a table meets it
  abbrev pub RuleBegins : Type 0
  RuleBegins = Rule same spot incremental no_table

  -- and what a caller has of the copying after another one's move it had before
  abbrev pub MovesGiveNoShares : Type 0
  MovesGiveNoShares = (move : Move K) (c : Chart K) (i t j : ℕ) → (IsBy i move → ⊥) → is_of_caller i ((after spot incremental move c).share t j) ≡ true
      → c.share t j ≡ (after spot incremental move c).share t j

-- The history of a map: which pairs it had at which moment, and when the root left which table.
use Rattle.std.specs.Prelude.{◌≡◌, ◌≢◌, ℕ, suc, ◌<◌, ◌≤◌, ◌⊎◌, Bool, true, false}
use Rattle.map_machines.specs.Given.TablesDeclared.status.TheConstants.Status.{ABORTED}
use Rattle.map_rule.specs.Chart.{Phase, Holds, Chart}
use Rattle.map_rule.specs.Rule.{Rule, IsLawful, no_table}
use Rattle.map_rule.specs.Moves.{Move, after, Allowed}

-- the table of this turn names the pair
abbrev pub Names : {K : Type 0} → Chart K → ℕ → ℕ → Type 0
Names c t n = (i : ℕ) × (phase : Phase) × (borrowed : Bool) × (c.place t i ≡ Holds n phase borrowed)

module _ {K : Type 0} (incremental : Bool) where
  -- what holds of the history of a map between any two moves
  pub record Moments (c : Chart K) : Type 0 where
    pub now_is : (n : ℕ) → c.was c.now n ≡ c.current n
    -- the root left its tables one after another
    pub passed_rise : (t u : ℕ) → t < u → u < c.first → c.passed t ≤ c.passed u
    pub passed_before : (t : ℕ) → t < c.first → c.passed t ≤ c.now
    -- in blocking mode, a table that the root has left names just the pairs that the map had then, unless it was aborted
    pub frozen : incremental ≡ false → (t n : ℕ) → t < c.first → c.status t ≢ ABORTED → (c.was (c.passed t) n ≡ true → Names c t n) × (Names c t n → c.was (c.passed t) n ≡ true)
    -- and one behind the root was linked while the root was where it is
    pub froms : incremental ≡ false → (t : ℕ) → c.first < t → t < c.past → c.from t ≡ c.first
    -- as was the one behind a table that was aborted
    pub follows : incremental ≡ false → (t : ℕ) → suc t < c.past → c.status t ≡ ABORTED → c.from (suc t) ≡ c.from t
    -- and the one behind a table that was not, while that one was the root
    pub next_from : incremental ≡ false → (t : ℕ) → suc t < c.past → c.status t ≢ ABORTED → c.from (suc t) ≡ t
    -- each but the first stands behind the root of that time
    pub earlier : (t : ℕ) → 0 < t → t < c.past → c.from t < t
    -- one that the root has come to, or has passed, was aborted, or all places of the root before were claimed for it
    pub claimed : incremental ≡ false → (t : ℕ) → 0 < t → t ≤ c.first → (c.status t ≡ ABORTED) ⊎ (c.len (c.from t) ≤ c.claim t)

  -- from one state of the tables to a later one: nothing of the history is forgotten, and what the root leaves it leaves from now on
  pub record Remembers (c c2 : Chart K) : Type 0 where
    pub now : c.now ≤ c2.now
    pub was : (m : ℕ) → m ≤ c.now → c2.was m ≡ c.was m
    pub passed : (t : ℕ) → t < c.first → c2.passed t ≡ c.passed t
    pub leaves : (t : ℕ) → c.first ≤ t → t < c2.first → c.now ≤ c2.passed t
    pub from : (t : ℕ) → t < c.past → c2.from t ≡ c.from t

-- a map without a table has one
abbrev pub HistoryBegins : Type 0 → Bool → Type 0
HistoryBegins K incremental = Moments {K = K} incremental no_table

module _ {K : Type 0} (same : K → K → Bool) (spot : ℕ → K → ℕ → ℕ) (incremental : Bool) where
  -- The promise: each move keeps the history, and adds to it.
  abbrev pub MovesPreserveTheHistory : Type 0
  MovesPreserveTheHistory =
      IsLawful same spot → (move : Move K) (c : Chart K) → Rule same spot incremental c → Moments incremental c → Allowed same spot incremental move c
      → Moments incremental (after spot incremental move c) × Remembers incremental c (after spot incremental move c)

-- A map in its memory, between any two single operations: its tables keep the rule, and its words show them.
use Rattle.std.specs.Prelude.{◌≡◌, ℕ, ◌+◌, ◌*◌, ◌%◌, ◌<◌, ◌≤◌, Bool, true, false, Some}
use Rattle.map_machines.specs.Given.SeizeWordsMem.{Mem}
use Rattle.map_machines.specs.Given.TablesChunks.{is_incremental}
use Rattle.map_machines.specs.Given.TablesProbes.{triangular}
use Rattle.map_machines.specs.Given.TablesDeclared.node.Node.{Node}
use Rattle.map_machines.specs.Given.TablesDeclared.resize_mode.ResizeMode.{ResizeMode}
use Rattle.map_machines.specs.Given.TablesDeclared.table.Table.{Table}
use Rattle.map_machines.specs.Given.TablesDeclared.trial.Trial.{Trial}
use Rattle.map_rule.specs.Chart.{Chart}
use Rattle.map_rule.specs.Rule.{Rule, Passed}
use Rattle.map_rule.specs.Moves.{MayChange}
use Rattle.map_rule.specs.Words.{Blocks, Represents}

-- the place of a hash at a try, in a table of a length
abbrev pub spot_at : ℕ → ℕ → ℕ → ℕ
spot_at len hash try = (hash + triangular try) % len

-- keys, of which those of one hash and some more have one class: what a call is asked with stands for these
pub record IsClass {K : Type 0} (same : K → K → Bool) (hash : K → ℕ) (keys : K → Bool) (code : ℕ) : Type 0 where
  pub hashes : (k : K) → keys k ≡ true → hash k ≡ code
  pub one : (k other : K) → keys k ≡ true → keys other ≡ same k other

module _ {K : Type 0} (hash : K → ℕ) where
  -- the place of a key at a try
  abbrev pub spot_of : ℕ → K → ℕ → ℕ
  spot_of len k try = spot_at len (hash k) try

module _ {K V : Type 0} (same : K → K → Bool) (hash : K → ℕ) where
  -- a map stands in a memory, with the word of this root
  pub record IsMap (mode : ResizeMode) (root : ℕ) (m : Mem (Node K V)) (c : Chart K) (blocks : Blocks) : Type 0 where
    pub rule : Rule same (spot_of hash) (is_incremental mode) c
    pub shows : Represents hash m c blocks root
    -- with a table that can be looked at, so can all those behind it
    pub later : (t u : ℕ) → t < u → u < c.past → blocks.table_known t ≡ true → blocks.table_known u ≡ true

module _ {K : Type 0} (c : Chart K) (blocks : Blocks) where
  -- what a machine knows of a table that it has entered: it is the one with this turn, and can still be looked at
  pub record IsTable (table : Table) (t : ℕ) : Type 0 where
    pub made : t < c.past
    pub known : blocks.table_known t ≡ true
    pub is : table ≡ record { link = blocks.table t * 2048; len = c.len t; limit = c.limit t; turn = t }

  -- it is at this try of a hash
  pub record IsTrial (trial : Trial) (code t j : ℕ) : Type 0 where
    pub table : IsTable trial.table t
    pub place : trial.probe.i ≡ spot_at (c.len t) code j
    pub try : trial.probe.len ≡ j
    pub most : j ≤ c.limit t

module _ {K : Type 0} (same : K → K → Bool) (hash : K → ℕ) (incremental : Bool) (c : Chart K) where
  -- No key of these was met at the tries before this one, nor in the tables before, where pairs move in incremental mode. In blocking mode the
  -- table is the root.
  abbrev pub NoneBefore : (K → Bool) → ℕ → ℕ → Type 0
  NoneBefore keys t j = (k : K) → keys k ≡ true → Passed same (spot_of hash) incremental c t k j × MayChange same (spot_of hash) incremental c t k

  -- these keys have no pair in the map
  abbrev pub IsAbsent : (K → Bool) → Type 0
  IsAbsent keys = (n : ℕ) (k : K) → c.current n ≡ true → c.key n ≡ Some k → keys k ≡ false

  -- this is the pair that the map has of these keys
  abbrev pub IsPair : (K → Bool) → ℕ → Type 0
  IsPair keys n = (c.current n ≡ true) × (k : K) × (c.key n ≡ Some k) × (keys k ≡ true)

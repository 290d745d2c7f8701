-- What a lookup knows, at each of its points.
use Rattle.std.specs.Prelude.{◌≡◌, ℕ, suc, Bool, true, false, Option, Some, None}
use Rattle.papaya_raw.specs.Given.TablesChunks.{is_incremental}
use Rattle.papaya_raw.specs.Given.TablesDeclared.resize_mode.ResizeMode.{ResizeMode}
use Rattle.map_rule.specs.Given.ResizeDeclared.lookup.Lookup.{Lookup}
use Rattle.map_rule.specs.Given.ResizeDeclared.lookup.Looking.{Looking}
use Rattle.map_rule.specs.Given.ResizeDeclared.lookup.Looking.TheVariants as at
use Rattle.map_rule.specs.Chart.{Phase, Holds, Chart}
use Rattle.map_rule.specs.Rule.{ShutBefore}
use Rattle.map_rule.specs.Words.{Blocks, place_word}
use Rattle.map_rule.specs.Maps.{spot_of, IsTable, IsTrial, NoneBefore, IsAbsent, IsPair}

-- keys of one class, and their hash
module _ {K : Type 0} (same : K → K → Bool) (hash : K → ℕ) (mode : ResizeMode) (root : ℕ) (keys : K → Bool) (code : ℕ) (c : Chart K) (blocks : Blocks) where
  -- what an answer says
  abbrev pub Answers : Option ℕ → Type 0
  Answers None = IsAbsent same hash (is_incremental mode) c keys
  Answers (Some word) =
      (n : ℕ) × (phase : Phase) × (borrowed : Bool) × IsPair same hash (is_incremental mode) c keys n × (word ≡ place_word hash c blocks (Holds n phase borrowed))

  -- what a lookup knows at a point, until it has answered
  abbrev pub LookingFacts : Looking → Type 0
  LookingFacts at.Roots = Unit {0}
  LookingFacts (at.Probes trial) =
      (t : ℕ) × (j : ℕ) × IsTrial c blocks trial code t j × NoneBefore same hash (is_incremental mode) c keys t j × (is_incremental mode ≡ false → t ≡ c.first)
  LookingFacts (at.Nexts table) =
      (is_incremental mode ≡ true) × (t : ℕ) × IsTable c blocks table t × ((k : K) → keys k ≡ true → ShutBefore same (spot_of hash) (is_incremental mode) c (suc t) k)
  LookingFacts (at.Over found) = ⊥

  -- what a lookup knows where it stands
  pub record LookupFacts (l : Lookup) : Type 0 where
    pub root_is : l.root ≡ root
    pub mode_is : l.mode ≡ mode
    pub hash_is : l.hash ≡ code
    pub point : LookingFacts l.stands

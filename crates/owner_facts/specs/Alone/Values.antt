-- Which blocks are in the memory during what runs alone, and with what values: those that were there when it began, the tables that were
-- linked since, and what was made and not linked.
use Rattle.std.specs.Prelude.{◌≡◌, ℕ, ◌<◌, ◌≤◌, true, Some, None, ◌⊎◌}
use Rattle.many_maps.specs.Given.SeizeWordsMem.{Mem, value_at}
use Rattle.many_maps.specs.Given.ResizeDeclared.new_map.Opening.{Opening}
use Rattle.many_maps.specs.Given.ResizeDeclared.new_map.Opening.TheVariants as opens
use Rattle.many_maps.specs.Given.RuleChart.{Chart}
use Rattle.many_maps.specs.Given.RuleWords.{Blocks}
use Rattle.many_maps.specs.Given.PointsMade.{IsMadeBy}

-- The memory was so, and is so.
module _ {T : Type 0} (m0 m : Mem T) where
  -- what was there is there, with its value, and nothing else has come but these
  pub record HasCome (Came : ℕ → Type 0) : Type 0 where
    pub stay : (b : ℕ) (x : T) → value_at m0 b ≡ Some x → value_at m b ≡ Some x
    pub came : (b : ℕ) (x : T) → value_at m b ≡ Some x → (value_at m0 b ≡ Some x) ⊎ Came b

  -- meanwhile, there are blocks that one caller alone has, too
  pub record IsComing (Came Mine : ℕ → Type 0) : Type 0 where
    pub stay : (b : ℕ) (x : T) → value_at m0 b ≡ Some x → value_at m b ≡ Some x
    pub came : (b : ℕ) (x : T) → value_at m b ≡ Some x → ((value_at m0 b ≡ Some x) ⊎ Came b) ⊎ Mine b
    -- for which no block is used that was there
    pub fresh : (b : ℕ) → Mine b → value_at m0 b ≡ None

-- those of a map that begins: the one of its counter, and the one of the table that it is to have
abbrev pub IsMadeByOpening : ℕ → Opening → ℕ → Type 0
IsMadeByOpening counter (opens.Tables making) b = (b ≡ counter) ⊎ IsMadeBy making.stands b
IsMadeByOpening counter (opens.Unmakes fault) b = b ≡ counter
IsMadeByOpening counter opens.Over b = b ≡ counter
IsMadeByOpening counter _ b = ⊥

module _ {K : Type 0} (c0 c : Chart K) (blocks : Blocks) where
  -- the block of a table that was linked since the map stood so
  abbrev pub IsLinkedSince : ℕ → Type 0
  IsLinkedSince b = (t : ℕ) × (c0.past ≤ t) × (t < c.past) × (blocks.table_known t ≡ true) × (b ≡ blocks.table t)

-- Where the links of a map lead, and what is promised of them: the root's leads to the first table, and each table's to the one behind.
use Rattle.std.specs.Prelude.{◌≡◌, ◌≢◌, ◌≤◌, ◌<◌, ℕ, suc, ◌*◌, ◌/◌, Bool, true, Some, ◌⊎◌}
use Rattle.map_machines.specs.Given.SeizeWordsDeclared.at.At.TheVariants.{Root}
use Rattle.map_machines.specs.Given.SeizeWordsMem.{Mem, value_at, word_at}
use Rattle.map_machines.specs.Given.TablesTablePlaces.{at_word}
use Rattle.map_machines.specs.Given.TablesDeclared.node.Node.{Node}
use Rattle.map_machines.specs.Given.TablesDeclared.node.Node.TheVariants as node
use Rattle.map_machines.specs.Given.TablesDeclared.resize_mode.ResizeMode.{ResizeMode}
use Rattle.map_machines.specs.Given.TablesDeclared.table.Table.{Table}
use Rattle.map_machines.specs.Given.TablesDeclared.table_words.TheConstants.{NEXT}
use Rattle.map_rule.specs.Chart.{Chart}
use Rattle.map_rule.specs.Maps.{IsMap, IsTable}
use Rattle.map_rule.specs.Words.{Blocks, next_word}

module _ {K : Type 0} (c : Chart K) (blocks : Blocks) where
  -- a link to the table with this turn
  abbrev pub IsLinkTo : ℕ → ℕ → Type 0
  IsLinkTo link t = (link ≡ blocks.table t * 2048) × (t < c.past) × (blocks.table_known t ≡ true)

  -- a link that was read leads to the table with this turn, or there was none yet
  abbrev pub LeadsTo : ℕ → ℕ → Type 0
  LeadsTo link t = ((link ≡ 0) × (c.past ≤ t)) ⊎ IsLinkTo link t

module _ (K V : Type 0) (same : K → K → Bool) (hash : K → ℕ) where
  -- the link of the root leads to the first table
  abbrev pub RootsLead : Type 0
  RootsLead =
      (mode : ResizeMode) (root : ℕ) (m : Mem (Node K V)) (c : Chart K) (blocks : Blocks) → IsMap same hash mode root m c blocks
      → (link : ℕ) → word_at m (Root root) ≡ Some link → LeadsTo c blocks link c.first

  -- the link of a table is there, and leads to the one behind
  abbrev pub NextsLead : Type 0
  NextsLead =
      (mode : ResizeMode) (root : ℕ) (m : Mem (Node K V)) (c : Chart K) (blocks : Blocks) → IsMap same hash mode root m c blocks
      → (table : Table) (t : ℕ) → IsTable c blocks table t
      → (word_at m (at_word table NEXT) ≡ Some (next_word hash c blocks t)) × ((link : ℕ) → word_at m (at_word table NEXT) ≡ Some link → LeadsTo c blocks link (suc t))

  -- what a link leads to is that table
  abbrev pub LinksHaveTables : Type 0
  LinksHaveTables =
      (mode : ResizeMode) (root : ℕ) (m : Mem (Node K V)) (c : Chart K) (blocks : Blocks) → IsMap same hash mode root m c blocks
      → (link t : ℕ) → IsLinkTo c blocks link t → (link ≢ 0) × (value_at m (link / 2048) ≡ Some (node.Table (c.len t) (c.limit t) t))

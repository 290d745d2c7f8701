-- Where a try says that its key is there, the pair of the word that it has read was looked at.
use Rattle.std.specs.Prelude.{◌==◌, if◌then◌else◌, Option, Some}
use Rattle.std.proofs.Common.{◌≡◌, ℕ, Bool, true, false, refl}
use Rattle.seize_words.specs.OneMemory.Word.{block_in}
use Rattle.map_tables.specs.Chunks.{is_incremental}
use Rattle.map_tables.specs.Finding.{finding, shut, vacant}
use Rattle.map_tables.specs.declared.finding.Aim.{Aim}
use Rattle.map_tables.specs.declared.finding.Aim.TheVariants as aims
use Rattle.map_tables.specs.declared.finding.Finding.TheVariants as found
use Rattle.map_tables.specs.declared.marks.TheConstants.{COPYING}
use Rattle.map_tables.specs.declared.node.Node.{Node}
use Rattle.map_tables.specs.declared.node.Node.TheVariants as nodes
use Rattle.map_tables.specs.declared.resize_mode.ResizeMode.{ResizeMode}
use Rattle.papaya_raw.specs.Call.{have_one_key}
use Rattle.map_machines.specs.Lookup.{names_pair}
use Rattle.threads_kinds.specs.CallKinds.Kinds.{PairIsVisible}

-- a word that names no pair says not that the key is there
shut_not : (aim : Aim) → shut aim ≡ found.There → ⊥
shut_not aims.Looks e = cc e
shut_not aims.Changes e = cc e
shut_not aims.Stores e = cc e

vacant_not : (incremental : Bool) (aim : Aim) (word : ℕ) → vacant incremental aim word ≡ found.There → ⊥
vacant_not incremental aim word = by (word == 0) (word == COPYING) incremental
  where
    by : (a b i : Bool) → (if a then found.Free else (if b then (if i then found.Passed else shut aim) else found.Passed)) ≡ found.There → ⊥
    by true b i e = cc e
    by false false i e = cc e
    by false true true e = cc e
    by false true false e = shut_not aim e

pub there_same : (mode : ResizeMode) (aim : Aim) (word : ℕ) (same : Bool) → finding mode aim word same ≡ found.There → same ≡ true
there_same mode aim word true e = refl
there_same mode aim word false e = absurd (by (block_in word == 0) e)
  where
    by : (b : Bool) → (if b then vacant (is_incremental mode) aim word else found.Passed) ≡ found.There → ⊥
    by true e = vacant_not (is_incremental mode) aim word e
    by false e = cc e

module _ {K V : Type 0} where
  -- a node that names a pair is one
  pub pair_named : (keys : K → Bool) (shown : ℕ → Option (Node K V)) (word : ℕ) (value : Node K V) → shown (block_in word) ≡ Some value → names_pair keys value ≡ true
      → PairIsVisible shown word
  pair_named keys shown word (nodes.Pair k v) e is = (k, v, e)
  pair_named keys shown word (nodes.Table len limit turn) e is = absurd (cc is)
  pair_named keys shown word nodes.Shards e is = absurd (cc is)

  pub one_key_named : (eq : K → K → Bool) (shown : ℕ → Option (Node K V)) (word : ℕ) (own value : Node K V) → shown (block_in word) ≡ Some value → have_one_key eq own value ≡ true
      → PairIsVisible shown word
  one_key_named eq shown word (nodes.Pair k v) value e is = pair_named (eq k) shown word value e is
  one_key_named eq shown word (nodes.Table len limit turn) value e is = absurd (cc is)
  one_key_named eq shown word nodes.Shards value e is = absurd (cc is)

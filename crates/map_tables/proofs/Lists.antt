-- Which word of a block holds its list of deferred pairs, if one does.
use Rattle.std.specs.Prelude.{◌==◌, if◌then◌else◌, Some, None}
use Rattle.std.proofs.Common.{◌≡◌, ℕ, ◌<◌, Bool, true, false, ap, arith}
use Rattle.std.proofs.lemmas.Bool.{ne_eqb}
use Rattle.map_tables.specs.Nodes.{deferred_word}
use Rattle.map_tables.specs.declared.node.Node.{Node}
use Rattle.map_tables.specs.declared.node.Node.TheVariants as node
use Rattle.map_tables.specs.declared.table_words.TheConstants.{DEFERRED}

module _ {K V : Type 0} where
  -- that of deferred pairs alone
  pub its_list : (value : Node K V) (field : ℕ) → deferred_word value ≡ Some field → field ≡ DEFERRED
  its_list (node.Pair key value) field e = absurd (cc e)
  its_list (node.Table len limit turn) field e = by (len == 0) e
    where
      by : (b : Bool) → (if b then None else Some DEFERRED) ≡ Some field → field ≡ DEFERRED
      by true e = absurd (cc e)
      by false e = cc e
  its_list node.Shards field e = absurd (cc e)

-- of a table with places
pub table_list : (K V : Type 0) (len limit turn : ℕ) → 0 < len → deferred_word {K = K} {V = V} (node.Table len limit turn) ≡ Some DEFERRED
table_list K V len limit turn some = ap (λ (b : Bool). if b then None else Some DEFERRED) (ne_eqb len 0 (λ z. omega (arith, z, some)))

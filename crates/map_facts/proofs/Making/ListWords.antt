-- A block with words enough has the word of its list of deferred pairs.
use Rattle.std.specs.Prelude.{◌==◌, if◌then◌else◌, Some, None}
use Rattle.std.proofs.Common.{ℕ, ◌<◌, Bool, true, false}
use Rattle.papaya_raw.specs.Given.SeizeWorld.{HasListWord}
use Rattle.papaya_raw.specs.Given.TablesNodes.{deferred_word}
use Rattle.papaya_raw.specs.Given.TablesDeclared.node.Node.{Node}
use Rattle.papaya_raw.specs.Given.TablesDeclared.node.Node.TheVariants as node
use Rattle.papaya_raw.specs.Given.TablesDeclared.table_words.TheConstants.{DEFERRED}

pub has_list_word : (K V : Type 0) (value : Node K V) (words : ℕ) → DEFERRED < words → HasListWord (deferred_word {K = K} {V = V}) (deferred_word value) words
has_list_word K V (node.Pair key value) words many = tt
has_list_word K V (node.Table len limit turn) words many = by (len == 0)
  where
    by : (b : Bool) → HasListWord (deferred_word {K = K} {V = V}) (if b then None else Some DEFERRED) words
    by true = tt
    by false = many
has_list_word K V node.Shards words many = tt

-- A step of the call that a seat has under way, by the rule: with an operation, or without one.
use Rattle.std.specs.Prelude.{◌⊎◌, ℕ, Bool}
use Rattle.seize_words.specs.OneMemory.Op.{Op, Out}
use Rattle.map_tables.specs.declared.node.Node.{Node}
use Rattle.threads_rule.specs.Views.Told.{told, turned}
use Rattle.threads_rule.specs.declared.view.View.{View}

module _ {K V S : Type 0} (same : K → K → Bool) (hash : S → K → ℕ) where
  abbrev pub HasStepped : View K V S → View K V S → Type 0
  HasStepped v w = ((op : Op (Node K V)) × (out : Out (Node K V)) × told same hash v op out w) ⊎ turned same hash v w

-- Choices of free block numbers come while maps are made and end, and calls are under way on others.
use Rattle.std.specs.Prelude.{ℕ, Bool, Option}
use Rattle.many_calls.specs.Given.SeizeWorld.{World, Chooses, Happens}
use Rattle.many_calls.specs.Given.TablesNodes.{deferred_word}
use Rattle.many_calls.specs.Given.TablesDeclared.node.Node.{Node}
use Rattle.many_calls.specs.Together.{UnderWay}
use Rattle.many_maps.specs.Endings.{Finishing, EndingsTogether}
use Rattle.many_maps.specs.Makings.{Beginning}
use Rattle.many_maps.specs.Maps.{Standing}

module _ {K Q : Type 0} (V : Type 0) (same : K → K → Bool) (asks : Q → K → Bool) (batch_size roots : ℕ) (slot : ℕ → ℕ) where
  -- The promise: which number the next block is to have is nothing to what stands together.
  abbrev pub ChoicesPreserveTheInvariant : Type 0
  ChoicesPreserveTheInvariant =
      (w : World (Node K V)) (maps : ℕ → Option (Standing K)) (calls : ℕ → ℕ → Option (UnderWay K V Q)) (makers : ℕ → Option (Beginning K)) (enders : ℕ → Option (Finishing K V))
      → EndingsTogether V same asks batch_size roots slot w maps calls makers enders → (choice : ℕ) (w2 : World (Node K V)) → Happens deferred_word batch_size (Chooses choice) w w2
      → EndingsTogether V same asks batch_size roots slot w2 maps calls makers enders

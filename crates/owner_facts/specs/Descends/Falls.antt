-- What is promised of the numbers of countings and of ends of maps: each step that goes on lowers them, whatever other callers have under way.
use Rattle.std.specs.Prelude.{◌≡◌, ℕ, Bool, [], ◌∷◌, ◌++◌, Option, Some}
use Rattle.many_maps.specs.Given.SeizeWordsMem.{Mem, Took, value_at}
use Rattle.many_maps.specs.Given.SeizeWordsPlan.{Steps}
use Rattle.many_maps.specs.Given.SeizeWorld.{World}
use Rattle.many_maps.specs.Given.SeizeDeclared.advance.Advance.TheVariants as progress
use Rattle.many_maps.specs.Given.SeizeDeclared.rows.settle.Settled.{Settled}
use Rattle.many_maps.specs.Given.SeizeDeclared.rows.settle.Settled.TheVariants as settled
use Rattle.many_maps.specs.Given.TablesDeclared.node.Node.{Node}
use Rattle.many_maps.specs.Given.ResizeSum.{sum_plan}
use Rattle.many_maps.specs.Given.ResizeDeclared.sum.Sum.{Sum}
use Rattle.many_maps.specs.Given.RawEndMap.{end_map_plan}
use Rattle.many_maps.specs.Given.RawDeclared.machines.end_map.EndMap.{EndMap}
use Rattle.many_maps.specs.Given.PointsMeasures.{IsBelow}
use Rattle.many_maps.specs.Given.PointsMeasuresTables.{number_of_sum}
use Rattle.many_maps.specs.Given.CallersTogether.{UnderWay}
use Rattle.many_maps.specs.Endings.{Finishing, EndingsTogether}
use Rattle.many_maps.specs.Makings.{Beginning}
use Rattle.many_maps.specs.Maps.{Standing}
use Rattle.owner_facts.specs.Descends.Numbers.{number_of_ending}

-- A step of a counting that goes on, in any memory, leaves fewer shards to be read.
abbrev pub CountingsFall : (K V : Type 0) → Type 0
CountingsFall K V =
    (sum sum2 : Sum) (m m2 : Mem (Node K V)) → Steps Took value_at m (sum_plan sum) m2 (sum2, progress.Goes) → IsBelow (number_of_sum sum2) (number_of_sum sum)

module _ {K Q : Type 0} (V : Type 0) (same : K → K → Bool) (asks : Q → K → Bool) (batch_size roots : ℕ) (slot : ℕ → ℕ) where
  -- The end of a map that goes on has a lower number then, whether it has reclaimed a block, which is the last one that it did, or none.
  abbrev pub Lowers : Finishing K V → Mem (Node K V) → Mem (Node K V) → EndMap × Settled (Node K V) → Type 0
  Lowers f m m2 (e, settled.Goes) = IsBelow (number_of_ending (record f { machine = e }) m2) (number_of_ending f m)
  Lowers f m m2 (e, settled.Gave value) = (b : ℕ) → IsBelow (number_of_ending (record f { machine = e; back = f.back ++ b ∷ [] }) m2) (number_of_ending f m)
  Lowers f m m2 (e, _) = Unit {0}

  -- So does each step of one, among calls, makings and other ends.
  abbrev pub EndingsFall : Type 0
  EndingsFall =
      (w : World (Node K V)) (maps : ℕ → Option (Standing K)) (calls : ℕ → ℕ → Option (UnderWay K V Q)) (makers : ℕ → Option (Beginning K)) (enders : ℕ → Option (Finishing K V))
      → EndingsTogether V same asks batch_size roots slot w maps calls makers enders → (i : ℕ) (f : Finishing K V) → enders i ≡ Some f
      → (m2 : Mem (Node K V)) (end : EndMap × Settled (Node K V)) → Steps Took value_at w.memory (end_map_plan f.machine) m2 end → Lowers f w.memory m2 end

  -- And whatever others have done meanwhile, while it stands where it stood its number is what it was.
  abbrev pub OthersLeaveEndings : Type 0
  OthersLeaveEndings =
      (w w2 : World (Node K V)) (maps maps2 : ℕ → Option (Standing K)) (calls calls2 : ℕ → ℕ → Option (UnderWay K V Q)) (makers makers2 : ℕ → Option (Beginning K))
      (enders enders2 : ℕ → Option (Finishing K V))
      → EndingsTogether V same asks batch_size roots slot w maps calls makers enders → EndingsTogether V same asks batch_size roots slot w2 maps2 calls2 makers2 enders2
      → (i : ℕ) (f : Finishing K V) → enders i ≡ Some f → enders2 i ≡ Some f → number_of_ending f w2.memory ≡ number_of_ending f w.memory

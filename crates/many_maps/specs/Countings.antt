-- Countings of the pairs of maps, among calls, reservations, makings and ends of maps.
use Rattle.std.specs.Prelude.{◌≡◌, ◌≢◌, ℕ, Bool, Option, Some, None}
use Rattle.many_calls.specs.Given.SeizeWordsMem.{Mem, Can, Took, value_at}
use Rattle.many_calls.specs.Given.SeizeWordsPlan.{May, Steps}
use Rattle.many_calls.specs.Given.SeizeWordsDeclared.fault.Fault.{Fault}
use Rattle.many_calls.specs.Given.SeizeWorld.{World, Rests}
use Rattle.many_calls.specs.Given.SeizeDeclared.advance.Advance.{Advance}
use Rattle.many_calls.specs.Given.SeizeDeclared.advance.Advance.TheVariants as progress
use Rattle.many_calls.specs.Given.TablesDeclared.node.Node.{Node}
use Rattle.many_calls.specs.Given.ResizeSum.{summing, sum_plan}
use Rattle.many_calls.specs.Given.ResizeDeclared.sum.Sum.{Sum}
use Rattle.many_maps.specs.Makings.{Beginning}
use Rattle.many_maps.specs.Maps.{Standing, with_call}
use Rattle.many_calls.specs.Together.{UnderWay, Counting, in_slot, next_of_counting}
use Rattle.many_maps.specs.Endings.{Finishing, EndingsTogether}

module _ {K Q : Type 0} (V : Type 0) (same : K → K → Bool) (asks : Q → K → Bool) (batch_size roots : ℕ) (slot : ℕ → ℕ) where
  -- A caller that has no call on any map, makes none and ends none, and has no row under way, begins to count the pairs of one, outside of any section too.
  abbrev pub CountingsBeginWithEndings : Type 0
  CountingsBeginWithEndings =
      (w : World (Node K V)) (maps : ℕ → Option (Standing K)) (calls : ℕ → ℕ → Option (UnderWay K V Q)) (makers : ℕ → Option (Beginning K)) (enders : ℕ → Option (Finishing K V))
      → EndingsTogether V same asks batch_size roots slot w maps calls makers enders
      → (i : ℕ) → makers i ≡ None → enders i ≡ None → ((n : ℕ) → calls n i ≡ None) → w.row i ≡ Rests
      → (m : ℕ) (s : Standing K) → maps m ≡ Some s
      → EndingsTogether V same asks batch_size roots slot w maps (with_call calls m i (Some (Counting (summing (in_slot s.setting (slot i)))))) makers enders

  -- The promise of their steps: nothing changes.
  abbrev pub CountingsPreserveWithEndings : Type 0
  CountingsPreserveWithEndings =
      (w : World (Node K V)) (maps : ℕ → Option (Standing K)) (calls : ℕ → ℕ → Option (UnderWay K V Q)) (makers : ℕ → Option (Beginning K)) (enders : ℕ → Option (Finishing K V))
      → EndingsTogether V same asks batch_size roots slot w maps calls makers enders
      → (m : ℕ) (s : Standing K) → maps m ≡ Some s → (i : ℕ) (sum : Sum) → calls m i ≡ Some (Counting sum)
      → May Can Took value_at w.memory (sum_plan sum)
      × ((m2 : Mem (Node K V)) (sum2 : Sum) (end : Advance ℕ) → Steps Took value_at w.memory (sum_plan sum) m2 (sum2, end)
      → (m2 ≡ w.memory) × (end ≢ progress.Waits) × ((fault : Fault) → end ≢ progress.Refused fault)
      × EndingsTogether V same asks batch_size roots slot w maps (with_call calls m i (next_of_counting sum2 end)) makers enders)

-- A caller that reclaims all comes to the end of it, whichever steps it takes.
use Rattle.std.specs.Prelude.{◌≡◌, ℕ, ◌<◌, ◌^◌, Bool, List, Option}
use Rattle.seize_words.specs.OneMemory.Mem.{Mem, Took, value_at}
use Rattle.seize_words.specs.OneMemory.Plan.{Steps}
use Rattle.seize.specs.declared.rows.settle.Settled.{Settled}
use Rattle.seize.specs.declared.rows.settle.Settled.TheVariants as settled
use Rattle.seize.specs.declared.rows.reclaim_all.ReclaimAll.{ReclaimAll}
use Rattle.seize.specs.ReclaimAll.{reclaim_all_plan}
use Rattle.seize.specs.World.{World}
use Rattle.run_effects.specs.Given.TablesNodes.{deferred_word, was_left}
use Rattle.run_effects.specs.Given.TablesDeclared.node.Node.{Node}
use Rattle.many_maps.specs.Given.CallersTogether.{UnderWay}
use Rattle.many_maps.specs.Endings.{Finishing}
use Rattle.many_maps.specs.Makings.{Beginning}
use Rattle.many_maps.specs.Maps.{Standing}
use Rattle.run_shows.specs.Reclaims.Reclaims.{ReclaimingTogether}

-- Each step that may be taken from here ends it, or leads to where it terminates: so there is no way on without an end.
pub data Terminates {K V : Type 0} : Mem (Node K V) → ReclaimAll → Type 0 where
  Comes : (m : Mem (Node K V)) → (c : ReclaimAll)
      → ((m2 : Mem (Node K V)) → (c2 : ReclaimAll) → (told : Settled (Node K V)) → Steps Took value_at m (reclaim_all_plan deferred_word was_left c) m2 (c2, told) → (told ≡ settled.Done → ⊥) → Terminates m2 c2)
      → Terminates m c

-- The promise: wherever it is under way, with any number of maps on the collector, it terminates.
abbrev pub ReclaimingEnds : {K Q : Type 0} (V : Type 0) (same : K → K → Bool) (asks : Q → K → Bool) (batch_size roots : ℕ) (slot : ℕ → ℕ) (maps : ℕ → Option (Standing K))
    (calls : ℕ → ℕ → Option (UnderWay K V Q)) (makers : ℕ → Option (Beginning K)) (enders : ℕ → Option (Finishing K V)) (w : World (Node K V)) (i : ℕ) → Type 0
ReclaimingEnds V same asks batch_size roots slot maps calls makers enders w i =
    (lists : ℕ → List ℕ) (c : ReclaimAll) → batch_size < 2 ^ 64 → ReclaimingTogether V same asks batch_size roots slot maps calls makers enders w i lists c → Terminates w.memory c

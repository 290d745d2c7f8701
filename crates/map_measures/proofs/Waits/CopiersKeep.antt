-- In incremental mode, that each copying that is not over has who ends it: after a step within a copier, and after one beside, whichever call took it.
use Rattle.std.specs.Prelude.{Option, Some, None}
use Rattle.std.specs.Int.{IsPowerOfTwo}
use Rattle.std.proofs.Common.{◌≡◌, ℕ, Bool, true, ◌⊎◌, subst}
use Rattle.seize_words.specs.OneMemory.Mem.{Mem, Took, value_at}
use Rattle.seize_words.specs.OneMemory.Plan.{Steps}
use Rattle.seize.specs.World.{World, with_at}
use Rattle.map_tables.specs.Chunks.{is_incremental}
use Rattle.map_tables.specs.declared.node.Node.{Node}
use Rattle.map_tables.specs.declared.setting.Setting.{Setting}
use Rattle.map_tables.specs.declared.table.Table.{Table}
use Rattle.map_machines.specs.Copier.{copier_plan}
use Rattle.map_machines.specs.declared.yielding.Yielding.{Yielding}
use Rattle.map_machines.specs.declared.yielding.Yielding.TheVariants as outcome
use Rattle.map_machines.specs.declared.copier.Copier.{Copier}
use Rattle.map_machines.specs.declared.copier.Copying.TheVariants as copies
use Rattle.many_calls.specs.Given.RuleChart.{Chart}
use Rattle.many_calls.specs.Given.RuleInWorld.{IsMapIn}
use Rattle.many_calls.specs.Given.RuleMaps.{spot_of}
use Rattle.many_calls.specs.Given.RuleMoves.{Move, after}
use Rattle.many_calls.specs.Given.RuleWords.{Blocks}
use Rattle.many_calls.proofs.Given.RuleWorld.WentIncremental.{rule_incremental}
use Rattle.many_calls.specs.Given.PointsFactsCopies.{CopierFacts}
use Rattle.many_calls.specs.Given.PointsSteps.{AreLawful}
use Rattle.many_calls.specs.Given.PointsTold.{IsBesideCopying, IsRowOfCopier}
use Rattle.many_calls.specs.Given.PointsToldMoves.{MovedAt}
use Rattle.many_calls.proofs.Given.PointsCopiers.CopiersWrote.{CopierMoved}
use Rattle.many_calls.proofs.Given.PointsCopiers.Points.{went_copier_moved}
use Rattle.many_calls.specs.Together.{UnderWay}
use Rattle.map_measures.specs.Waits.Others.{HaveEnds}
use Rattle.map_measures.proofs.Waits.CopiersEnd.{copier_ends}
use Rattle.map_measures.proofs.Waits.EndingCalls.{AnotherAt, copier_then, keeps_beside, keeps_copying}
use Rattle.map_measures.proofs.Waits.Endings.{beside}
use Rattle.map_measures.proofs.Waits.SameEnds.{Reached, ends_same}

module _ {K V Q : Type 0} (same : K → K → Bool) (hash : K → ℕ) (are : AreLawful same hash) (setting : Setting) (power : IsPowerOfTwo setting.initial) (mode : is_incremental setting.mode ≡ true)
    (w : World (Node K V)) (i : ℕ) (c : Chart K) (seen : Blocks) (map : IsMapIn same hash setting w c seen) (calls : ℕ → Option (UnderWay K V Q)) (ends : HaveEnds c calls)
    (m2 : Mem (Node K V)) (d : Chart K) (blocks2 : Blocks) (reached : Reached same hash setting are.lawful mode w i c seen map m2 d blocks2) (next : Option (UnderWay K V Q)) where
  pub beside_keeps : copier_then (calls i) ≡ None
      → (d ≡ c) ⊎ ((move : Move K) × IsBesideCopying move × (d ≡ after (spot_of hash) (is_incremental setting.mode) move c)) → HaveEnds d (with_at calls i next)
  beside_keeps within moved =
      keeps_beside calls i c d next ends within
      (beside (AnotherAt calls i copies.Promotes) (AnotherAt calls i copies.Announces) same hash c (rule_incremental same hash setting w c seen map mode) d
      (subst (λ (b : Bool). (d ≡ c) ⊎ ((move : Move K) × IsBesideCopying move × (d ≡ after (spot_of hash) b move c))) mode moved))

  pub copier_keeps : (copier : Copier) → copier_then (calls i) ≡ Some copier → CopierFacts same hash w i setting c seen copier → (IsRowOfCopier copier.stands → ⊥)
      → (b : Copier × Yielding (Node K V) Table) → Steps Took value_at w.memory (copier_plan hash copier) m2 b → (b.1 ≡ outcome.Goes → copier_then next ≡ Some b.0)
      → HaveEnds d (with_at calls i next)
  copier_keeps copier within facts none b inner goes = by (went_copier_moved same hash setting mode power are.lawful are.fits w i c seen map copier facts none m2 b inner)
    where
      by : CopierMoved same hash i setting w c seen (MovedAt hash i c copier copier.stands b) m2 b → HaveEnds d (with_at calls i next)
      by went =
          ends_same same hash setting are.lawful mode w i c seen map m2 d went.c2 blocks2 went.blocks2 reached
          (went.w2, went.memory, went.map, went.blocks_same, went.tables, went.moved)
          (with_at calls i next)
          (keeps_copying calls i c went.c2 next ends copier b.0 within (b.1 ≡ outcome.Goes) goes
          (copier_ends same hash i setting w c seen map mode copier facts.setting_is (AnotherAt calls i copies.Promotes) (AnotherAt calls i copies.Announces) m2 b went.c2
          facts inner went.told.3))

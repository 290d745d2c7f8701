-- Each step of a disposal that is none of a row of the collector.
use Rattle.std.specs.Prelude.{◌≡◌, ℕ, Bool}
use Rattle.std.proofs.Common.{refl, sym, subst}
use Rattle.map_rule.specs.Given.SeizeWordsMem.{Mem, Can, Took, value_at}
use Rattle.map_rule.specs.Given.SeizeWordsPlan.{May, Steps}
use Rattle.papaya_raw.specs.Given.SeizeWorld.{World}
use Rattle.papaya_raw.specs.Given.SeizeDeclared.rows.settle.Settled.{Settled}
use Rattle.papaya_raw.specs.Given.SeizeDeclared.rows.settle.Settled.TheVariants.{Goes}
use Rattle.map_rule.specs.Given.ResizeDispose.{plan_at, dispose_plan}
use Rattle.papaya_raw.specs.Given.TablesDeclared.node.Node.{Node}
use Rattle.papaya_raw.specs.Given.TablesDeclared.setting.Setting.{Setting}
use Rattle.map_rule.specs.Given.ResizeDeclared.dispose.Dispose.{Dispose}
use Rattle.map_rule.specs.Given.ResizeDeclared.dispose.Disposing.{Disposing}
use Rattle.map_rule.specs.Given.ResizeDeclared.dispose.Disposing.TheVariants as at
use Rattle.map_rule.specs.Chart.{Chart}
use Rattle.map_rule.specs.Words.{Blocks}
use Rattle.map_rule.specs.InWorld.{IsMapIn, StepSpec, SparesPairs}
use Rattle.map_facts.specs.FactsDisposes.{DisposingFacts, DisposeFacts}
use Rattle.map_facts.specs.Told.{DisposeOutcome, IsRowOf}
use Rattle.map_facts.specs.Measures.{IsBelow}
use Rattle.map_facts.specs.MeasuresDisposes.{number_of_dispose}
use Rattle.map_facts.proofs.Disposals.Reads.{Lowers, DisposeWent, may_reads, went_reads}
use Rattle.map_facts.proofs.Disposals.Walks.{may_walks, went_walks}
use Rattle.map_rule.proofs.World.WentTold.{went_as}
use Rattle.map_rule.proofs.World.WentStill.{went_still, spares_same}

module _ {K V : Type 0} (same : K → K → Bool) (hash : K → ℕ) (setting : Setting) where
  -- what a step of a disposal tells: it makes no move
  abbrev pub DisposeTells : ℕ → World (Node K V) → Chart K → Dispose × Settled (Node K V) → World (Node K V) → Chart K → Blocks → Type 0
  DisposeTells caller w c end w2 c2 blocks2 = SparesPairs w w2 × (c2 ≡ c) × DisposeOutcome w2 caller setting c2 blocks2 end

  module _ (w : World (Node K V)) (caller : ℕ) (c : Chart K) (blocks : Blocks) (map : IsMapIn same hash setting w c blocks) where
    module _ (d : Dispose) (f : DisposeFacts w caller setting c blocks d) where
      -- each point
      may_at : (stands : Disposing) → DisposingFacts w caller setting c blocks f.n f.t stands → (IsRowOf stands → ⊥) → May Can Took value_at w.memory (plan_at d stands)
      may_at (at.Settles settle) point none = absurd (none tt)
      may_at at.Reads point none = may_reads same hash setting w caller c blocks map d f
      may_at (at.Walks table) point none = may_walks same hash setting w caller c blocks map d f table point
      may_at (at.Defers defer) point none = absurd (none tt)
      may_at at.Over point none = tt

      pub may_dispose : (IsRowOf d.stands → ⊥) → May Can Took value_at w.memory (dispose_plan d)
      may_dispose none = may_at d.stands f.point none

      went_at : (stands : Disposing) → DisposingFacts w caller setting c blocks f.n f.t stands → (IsRowOf stands → ⊥) → (m2 : Mem (Node K V)) (end : Dispose × Settled (Node K V))
          → Steps Took value_at w.memory (plan_at d stands) m2 end → DisposeWent same hash setting w caller c blocks map d f stands m2 end
      went_at (at.Settles settle) point none m2 end s = absurd (none tt)
      went_at at.Reads point none m2 end s = went_reads same hash setting w caller c blocks map d f point m2 end s
      went_at (at.Walks table) point none m2 end s = went_walks same hash setting w caller c blocks map d f table point m2 end s
      went_at (at.Defers defer) point none m2 end s = absurd (none tt)
      went_at at.Over point none m2 end s =
          went_still same hash setting caller w c blocks map m2 s.0
          (λ w2 c2 blocks2. SparesPairs w w2 × (c2 ≡ c) × DisposeOutcome w2 caller setting c2 blocks2 end × Lowers same hash setting w caller c blocks map d f at.Over end c2 blocks2) (
            spares_same w,
            refl,
            subst (λ (x : Dispose × Settled (Node K V)). DisposeOutcome w caller setting c blocks x) (sym s.1) tt,
            subst (λ (x : Dispose × Settled (Node K V)). Lowers same hash setting w caller c blocks map d f at.Over x c blocks) (sym s.1) (λ goes. absurd (cc goes)),
          )

      -- A step of it that is none of a row of the collector: if it goes on, its number is lower.
      pub went_dispose_lowers : (IsRowOf d.stands → ⊥) → (m2 : Mem (Node K V)) (end : Dispose × Settled (Node K V)) → Steps Took value_at w.memory (dispose_plan d) m2 end
          → StepSpec same hash setting caller w c blocks m2
          (λ w2 c2 blocks2. SparesPairs w w2 × (c2 ≡ c) × DisposeOutcome w2 caller setting c2 blocks2 end
          × (end.1 ≡ Goes → IsBelow (number_of_dispose c2 blocks2 end.0) (number_of_dispose c blocks d)))
      went_dispose_lowers none m2 end s = went_at d.stands f.point none m2 end s

      pub went_dispose : (IsRowOf d.stands → ⊥) → (m2 : Mem (Node K V)) (end : Dispose × Settled (Node K V)) → Steps Took value_at w.memory (dispose_plan d) m2 end
          → StepSpec same hash setting caller w c blocks m2 (DisposeTells caller w c end)
      went_dispose none m2 end s =
          went_as same hash setting caller w c blocks m2
          (λ w2 c2 blocks2. SparesPairs w w2 × (c2 ≡ c) × DisposeOutcome w2 caller setting c2 blocks2 end × Lowers same hash setting w caller c blocks map d f d.stands end c2 blocks2) (DisposeTells caller w c end)
          (λ w2 c2 blocks2 map2 moved same_blocks told. (told.0, told.1, told.2)) (went_dispose_lowers none m2 end s)

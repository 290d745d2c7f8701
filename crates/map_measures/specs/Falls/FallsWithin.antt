-- What is promised of the number of a copier, within a call or elsewhere: each step that goes on lowers it, whatever other callers have under way.
use Rattle.std.specs.Prelude.{◌≡◌, ℕ, Bool, true, false, List, ◌∷◌}
use Rattle.seize_words.specs.OneMemory.Mem.{Mem, Took, value_at}
use Rattle.seize_words.specs.OneMemory.Plan.{Steps}
use Rattle.seize.specs.World.{World}
use Rattle.map_tables.specs.Chunks.{is_incremental}
use Rattle.map_tables.specs.declared.node.Node.{Node}
use Rattle.map_tables.specs.declared.setting.Setting.{Setting}
use Rattle.map_tables.specs.declared.table.Table.{Table}
use Rattle.map_machines.specs.Copier.{copier_plan}
use Rattle.map_machines.specs.declared.yielding.Yielding.{Yielding}
use Rattle.map_machines.specs.declared.yielding.Yielding.TheVariants.{Goes, Gave}
use Rattle.map_machines.specs.declared.copier.Copier.{Copier}
use Rattle.many_calls.specs.Given.RuleChart.{Chart}
use Rattle.many_calls.specs.Given.RuleWords.{Blocks}
use Rattle.many_calls.specs.Given.RuleInWorld.{IsMapIn, StepSpec}
use Rattle.many_calls.specs.Given.PointsFactsCopies.{CopierFacts}
use Rattle.many_calls.specs.Given.PointsFactsCopiesBlocking.{CopierFactsBlocking}
use Rattle.many_calls.specs.Given.PointsMeasures.{IsBelow}
use Rattle.many_calls.specs.Given.PointsSteps.{AreLawful}
use Rattle.many_calls.specs.Given.PointsTold.{IsRowOfCopier}
use Rattle.many_calls.specs.Given.LateLateCopies.{SupersededCopierFacts}
use Rattle.map_measures.specs.Falls.Room.{planned_in_copying, tables_to_come}
use Rattle.map_measures.specs.Falls.Copies.{number_of_copier}
use Rattle.map_measures.specs.Falls.CopiesBlocking.{number_of_copier_blocking}

-- What tells this has taken a step, and needs further ones. It may have handed out a value that was reclaimed.
abbrev pub GoesFurther : {T R : Type 0} → Yielding T R → Type 0
GoesFurther Goes = Unit {0}
GoesFurther (Gave value) = Unit {0}
GoesFurther _ = ⊥

-- the tables that can still be linked, and then its number
abbrev pub with_room : {K : Type 0} → (Chart K → Blocks → Copier → List ℕ) → Chart K → Blocks → Copier → List ℕ
with_room number c blocks p = tables_to_come c.past (planned_in_copying p.stands) ∷ number c blocks p

module _ {K : Type 0} (V : Type 0) (same : K → K → Bool) (hash : K → ℕ) where
  -- a step of a copier leads from here to there, where it goes on: whatever the tables are that the memory shows then, this number of the copier is lower
  abbrev pub CopierLowers : (Chart K → Blocks → Copier → List ℕ) → (setting : Setting) (w : World (Node K V)) (caller : ℕ) (c : Chart K) (blocks : Blocks) (p : Copier) → Type 0
  CopierLowers number setting w caller c blocks p =
      (m2 : Mem (Node K V)) (end : Copier × Yielding (Node K V) Table) → Steps Took value_at w.memory (copier_plan hash p) m2 end → GoesFurther end.1
      → (went : StepSpec same hash setting caller w c blocks m2 (λ w2 c2 blocks2. Unit {0}))
      → IsBelow (with_room number went.c2 went.blocks2 end.0) (with_room number c blocks p)

  -- so does each step, none of a row, of a copier that knows what its point knows: in incremental mode,
  abbrev pub CopiersFall : Type 0
  CopiersFall =
      AreLawful same hash → (setting : Setting) → is_incremental setting.mode ≡ true
      → (w : World (Node K V)) (caller : ℕ) (c : Chart K) (blocks : Blocks) (p : Copier)
      → IsMapIn same hash setting w c blocks → CopierFacts same hash w caller setting c blocks p → (IsRowOfCopier p.stands → ⊥)
      → CopierLowers number_of_copier setting w caller c blocks p

  -- in blocking mode,
  abbrev pub BlockingCopiersFall : Type 0
  BlockingCopiersFall =
      AreLawful same hash → (setting : Setting) → is_incremental setting.mode ≡ false
      → (w : World (Node K V)) (caller : ℕ) (c : Chart K) (blocks : Blocks) (p : Copier)
      → IsMapIn same hash setting w c blocks → CopierFactsBlocking same hash w caller setting c blocks p → (IsRowOfCopier p.stands → ⊥)
      → CopierLowers number_of_copier_blocking setting w caller c blocks p

  -- and there once the root has left the table that it copies
  abbrev pub SupersededCopiersFall : Type 0
  SupersededCopiersFall =
      AreLawful same hash → (setting : Setting) → is_incremental setting.mode ≡ false
      → (w : World (Node K V)) (caller : ℕ) (c : Chart K) (blocks : Blocks) (began : ℕ) (p : Copier)
      → IsMapIn same hash setting w c blocks → SupersededCopierFacts same hash w caller setting c blocks began p → (IsRowOfCopier p.stands → ⊥)
      → CopierLowers number_of_copier_blocking setting w caller c blocks p

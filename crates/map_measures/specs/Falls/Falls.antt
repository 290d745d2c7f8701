-- What is promised of the number of a call: each step that goes on lowers it, whatever other callers have under way.
use Rattle.std.specs.Prelude.{◌≡◌, ℕ, Bool, length, ◌⊎◌}
use Rattle.seize_words.specs.OneMemory.Mem.{Mem, Took, value_at}
use Rattle.seize_words.specs.OneMemory.Plan.{Steps}
use Rattle.seize.specs.World.{World}
use Rattle.many_calls.specs.Given.RawCall.{call_plan}
use Rattle.many_calls.specs.Given.RawDeclared.machines.answer.Called.{Called}
use Rattle.many_calls.specs.Given.RawDeclared.machines.answer.Called.TheVariants.{Goes, Gave, Unstored}
use Rattle.many_calls.specs.Given.RawDeclared.machines.call.KeyCall.{KeyCall}
use Rattle.map_tables.specs.declared.node.Node.{Node}
use Rattle.map_tables.specs.declared.setting.Setting.{Setting}
use Rattle.many_calls.specs.Given.RuleChart.{Chart}
use Rattle.many_calls.specs.Given.RuleWords.{Blocks}
use Rattle.many_calls.specs.Given.RuleInWorld.{IsMapIn, StepSpec}
use Rattle.many_calls.specs.Given.PointsFactsCalls.{Change, CallFacts}
use Rattle.many_calls.specs.Given.PointsMeasures.{IsBelow}
use Rattle.many_calls.specs.Given.PointsSteps.{AreLawful}
use Rattle.many_calls.specs.Given.PointsTold.{IsRowOfCall}
use Rattle.many_calls.specs.Given.LateLateCalls.{SupersededCallFacts}
use Rattle.map_measures.specs.Falls.Calls.{number_of_call}

-- A call that tells this has taken a step, and needs further ones. It may have handed out a value that was reclaimed, or its own pair, which was not stored.
abbrev pub GoesFurther : {T : Type 0} → Called T → Type 0
GoesFurther Goes = Unit {0}
GoesFurther (Gave value) = Unit {0}
GoesFurther (Unstored value) = Unit {0}
GoesFurther _ = ⊥

module _ {K Q : Type 0} (V : Type 0) (same : K → K → Bool) (hash : K → ℕ) (asks : Q → K → Bool) where
  -- A step of a call leads from here to there, where it goes on: whatever the tables are that the memory shows then, the number of the call is lower.
  abbrev pub Lowers : (setting : Setting) (w : World (Node K V)) (caller : ℕ) (c : Chart K) (blocks : Blocks) (p : KeyCall K V Q) → Type 0
  Lowers setting w caller c blocks p =
      (m2 : Mem (Node K V)) (end : KeyCall K V Q × Called (Node K V)) → Steps Took value_at w.memory (call_plan asks same hash p) m2 end → GoesFurther end.1
      → (went : StepSpec same hash setting caller w c blocks m2 (λ w2 c2 blocks2. Unit {0}))
      → IsBelow (number_of_call hash went.c2 went.blocks2 end.0) (number_of_call hash c blocks p)

  -- so does each step, none of a row of the collector, of a call that knows what its point knows
  abbrev pub CallsFall : Type 0
  CallsFall =
      AreLawful same hash → (setting : Setting) (w : World (Node K V)) (caller : ℕ) (c : Chart K) (blocks : Blocks) (keys : K → Bool) (change : Change) (p : KeyCall K V Q)
      → IsMapIn same hash setting w c blocks → CallFacts same hash asks w caller setting c blocks keys change p → (IsRowOfCall p.stands → ⊥)
      → Lowers setting w caller c blocks p

  -- and, in blocking mode, in a table that the root has left
  abbrev pub SupersededCallsFall : Type 0
  SupersededCallsFall =
      AreLawful same hash → (setting : Setting) (w : World (Node K V)) (caller : ℕ) (c : Chart K) (blocks : Blocks) (keys : K → Bool) (began : ℕ) (p : KeyCall K V Q)
      → IsMapIn same hash setting w c blocks → SupersededCallFacts same hash asks w caller setting c blocks keys began p → (IsRowOfCall p.stands → ⊥)
      → Lowers setting w caller c blocks p

  -- The steps of a row of the collector within a call leave its number as it is, but for the last, which lowers it: the tables stay as they are.
  abbrev pub RowsFall : Type 0
  RowsFall =
      (p : KeyCall K V Q) → IsRowOfCall p.stands → (m m2 : Mem (Node K V)) (end : KeyCall K V Q × Called (Node K V))
      → Steps Took value_at m (call_plan asks same hash p) m2 end → GoesFurther end.1 → (c : Chart K) (blocks : Blocks)
      → ((IsRowOfCall end.0.stands) × (number_of_call hash c blocks end.0 ≡ number_of_call hash c blocks p))
      ⊎ ((IsRowOfCall end.0.stands → ⊥) × IsBelow (number_of_call hash c blocks end.0) (number_of_call hash c blocks p))

-- a call always has as many numbers, so that its descents terminate
abbrev pub NumbersAreAsMany : (K V Q : Type 0) → Type 0
NumbersAreAsMany K V Q = (hash : K → ℕ) (c : Chart K) (blocks : Blocks) (p : KeyCall K V Q) → length (number_of_call hash c blocks p) ≡ 14

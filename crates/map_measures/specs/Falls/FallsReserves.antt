-- What is promised of the number of a reservation: each step that goes on lowers it, whatever other callers have under way.
use Rattle.std.specs.Prelude.{◌≡◌, ℕ, Bool, length, ◌⊎◌}
use Rattle.seize_words.specs.OneMemory.Mem.{Mem, Took, value_at}
use Rattle.seize_words.specs.OneMemory.Plan.{Steps}
use Rattle.seize.specs.World.{World}
use Rattle.map_tables.specs.declared.node.Node.{Node}
use Rattle.map_tables.specs.declared.setting.Setting.{Setting}
use Rattle.map_machines.specs.declared.yielding.Yielding.{Yielding}
use Rattle.map_sweeps.specs.Reserves.Reserve.{reserve_plan}
use Rattle.map_sweeps.specs.declared.reserve.Reserve.{Reserve}
use Rattle.many_calls.specs.Given.RuleChart.{Chart}
use Rattle.many_calls.specs.Given.RuleWords.{Blocks}
use Rattle.many_calls.specs.Given.RuleInWorld.{IsMapIn, StepSpec}
use Rattle.many_calls.specs.Given.PointsMeasures.{IsBelow}
use Rattle.many_calls.specs.Given.PointsSteps.{AreLawful}
use Rattle.many_calls.specs.Given.LateFactsReserves.{ReserveFacts}
use Rattle.many_calls.specs.Given.LateLateReserves.{SupersededReserveFacts}
use Rattle.many_calls.specs.Given.LateToldReserves.{IsRowOfReserve}
use Rattle.map_measures.specs.Falls.FallsWithin.{GoesFurther}
use Rattle.map_measures.specs.Falls.Reserves.{number_of_reserve}

module _ {K : Type 0} (V : Type 0) (same : K → K → Bool) (hash : K → ℕ) where
  -- A step of a reservation leads from here to there, where it goes on: whatever the tables are that the memory shows then, its number is lower.
  abbrev pub ReserveLowers : (setting : Setting) (w : World (Node K V)) (caller : ℕ) (c : Chart K) (blocks : Blocks) (p : Reserve) → Type 0
  ReserveLowers setting w caller c blocks p =
      (m2 : Mem (Node K V)) (end : Reserve × Yielding (Node K V) Unit) → Steps Took value_at w.memory (reserve_plan hash p) m2 end → GoesFurther end.1
      → (went : StepSpec same hash setting caller w c blocks m2 (λ w2 c2 blocks2. Unit {0}))
      → IsBelow (number_of_reserve went.c2 went.blocks2 end.0) (number_of_reserve c blocks p)

  -- so does each step, none of a row of the collector, of a reservation that knows what its point knows
  abbrev pub ReservesFall : Type 0
  ReservesFall =
      AreLawful same hash → (setting : Setting) (w : World (Node K V)) (caller : ℕ) (c : Chart K) (blocks : Blocks) (p : Reserve)
      → IsMapIn same hash setting w c blocks → ReserveFacts same hash w caller setting c blocks p → (IsRowOfReserve p.stands → ⊥)
      → ReserveLowers setting w caller c blocks p

  -- and, in blocking mode, in a table that the root has left
  abbrev pub SupersededReservesFall : Type 0
  SupersededReservesFall =
      AreLawful same hash → (setting : Setting) (w : World (Node K V)) (caller : ℕ) (c : Chart K) (blocks : Blocks) (began : ℕ) (p : Reserve)
      → IsMapIn same hash setting w c blocks → SupersededReserveFacts same hash w caller setting c blocks began p → (IsRowOfReserve p.stands → ⊥)
      → ReserveLowers setting w caller c blocks p

-- The steps of a row of the collector within a reservation leave its number as it is, but for the last, which lowers it: the tables stay as they are.
abbrev pub ReserveRowsFall : (K V : Type 0) → Type 0
ReserveRowsFall K V =
    (hash : K → ℕ) (p : Reserve) → IsRowOfReserve p.stands → (m m2 : Mem (Node K V)) (end : Reserve × Yielding (Node K V) Unit)
    → Steps Took value_at m (reserve_plan hash p) m2 end → GoesFurther end.1 → (c : Chart K) (blocks : Blocks)
    → ((IsRowOfReserve end.0.stands) × (number_of_reserve c blocks end.0 ≡ number_of_reserve c blocks p))
    ⊎ ((IsRowOfReserve end.0.stands → ⊥) × IsBelow (number_of_reserve c blocks end.0) (number_of_reserve c blocks p))

-- a reservation always has as many numbers, so that its descents terminate
abbrev pub ReserveNumbersAreAsMany : Type 0 → Type 0
ReserveNumbersAreAsMany K = (c : Chart K) (blocks : Blocks) (p : Reserve) → length (number_of_reserve c blocks p) ≡ 11

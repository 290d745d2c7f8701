-- What is promised of each step of a reservation, between any two steps of others, and of its first point.
use Rattle.std.specs.Prelude.{ℕ, Bool}
use Rattle.std.specs.Int.{IsPowerOfTwo}
use Rattle.map_facts.specs.Given.SeizeWordsMem.{Mem, Can, Took, value_at}
use Rattle.map_facts.specs.Given.SeizeWordsPlan.{May, Steps}
use Rattle.map_facts.specs.Given.SeizeWorld.{World}
use Rattle.map_facts.specs.Given.TablesDeclared.node.Node.{Node}
use Rattle.map_facts.specs.Given.TablesDeclared.setting.Setting.{Setting}
use Rattle.map_facts.specs.Given.ResizeDeclared.yielding.Yielding.{Yielding}
use Rattle.map_facts.specs.Given.ReservesReserve.{reserving, reserve_plan}
use Rattle.map_facts.specs.Given.ReservesDeclared.reserve.Reserve.{Reserve}
use Rattle.map_facts.specs.Given.RuleChart.{Chart}
use Rattle.map_facts.specs.Given.RuleWords.{Blocks}
use Rattle.map_facts.specs.Given.RuleInWorld.{IsMapIn, StepSpec, SparesPairs}
use Rattle.map_facts.specs.FactsIdle.{IsIdle}
use Rattle.map_facts.specs.Steps.{AreLawful}
use Rattle.map_facts_late.specs.FactsReserves.{ReserveFacts}
use Rattle.map_facts_late.specs.ToldReserves.{IsRowOfReserve, ReserveOutcome}

module _ {K : Type 0} (V : Type 0) (same : K → K → Bool) (hash : K → ℕ) where
  -- A reservation knows what its first point is to know, if its caller has no part in a copying.
  abbrev pub ReservesBegin : Type 0
  ReservesBegin =
      (setting : Setting) (w : World (Node K V)) (caller : ℕ) (c : Chart K) (blocks : Blocks) → IsIdle same hash w caller setting c blocks
      → (additional : ℕ) → ReserveFacts same hash w caller setting c blocks (reserving setting additional)

  -- Where a map stands in the collector's world, a reservation that knows what its point knows may take its step, if that is no step of a row of the
  -- collector. It makes one move at most, and the map stands where it leads. Pairs that callers made and have not linked are as they were.
  abbrev pub ReservesPreserveTheMap : Type 0
  ReservesPreserveTheMap =
      AreLawful same hash → (setting : Setting) → IsPowerOfTwo setting.initial
      → (w : World (Node K V)) (caller : ℕ) (c : Chart K) (blocks : Blocks) (p : Reserve)
      → IsMapIn same hash setting w c blocks → ReserveFacts same hash w caller setting c blocks p → (IsRowOfReserve p.stands → ⊥)
      → May Can Took value_at w.memory (reserve_plan hash p)
      × ((m2 : Mem (Node K V)) (p2 : Reserve) (outcome : Yielding (Node K V) Unit) → Steps Took value_at w.memory (reserve_plan hash p) m2 (p2, outcome)
      → StepSpec same hash setting caller w c blocks m2 (λ w2 c2 blocks2. SparesPairs w w2 × ReserveOutcome same hash caller setting c p w2 c2 blocks2 p2 outcome))

-- What is promised of a reservation once the root has left its table, in blocking mode, and of what it knows over steps of others.
use Rattle.std.specs.Prelude.{◌≡◌, ℕ, ◌≤◌, ◌⊎◌, Bool, false}
use Rattle.std.specs.Int.{IsPowerOfTwo}
use Rattle.map_facts.specs.Given.SeizeWordsMem.{Mem, Can, Took, value_at}
use Rattle.map_facts.specs.Given.SeizeWordsPlan.{May, Steps}
use Rattle.map_facts.specs.Given.SeizeWorld.{World}
use Rattle.map_facts.specs.Given.TablesChunks.{is_incremental}
use Rattle.map_facts.specs.Given.TablesDeclared.node.Node.{Node}
use Rattle.map_facts.specs.Given.TablesDeclared.setting.Setting.{Setting}
use Rattle.map_facts.specs.Given.ResizeDeclared.yielding.Yielding.{Yielding}
use Rattle.map_facts.specs.Given.ReservesReserve.{reserve_plan}
use Rattle.map_facts.specs.Given.ReservesDeclared.reserve.Reserve.{Reserve}
use Rattle.map_facts.specs.Given.RuleChart.{Chart}
use Rattle.map_facts.specs.Given.RuleWords.{Blocks}
use Rattle.map_facts.specs.Given.RuleMoments.{Moments}
use Rattle.map_facts.specs.Given.RuleInWorld.{IsMapIn, StepSpec, SparesPairs}
use Rattle.map_facts.specs.Others.{OthersStep}
use Rattle.map_facts.specs.Steps.{AreLawful}
use Rattle.map_facts_late.specs.Left.{ClaimsAreFew}
use Rattle.map_facts_late.specs.FactsReserves.{ReserveFacts}
use Rattle.map_facts_late.specs.ToldReserves.{IsRowOfReserve}
use Rattle.map_facts_late.specs.LateReserves.{SupersededReserveFacts}
use Rattle.map_facts_late.specs.LateToldReserves.{SupersededReserveOutcome}

module _ {K : Type 0} (V : Type 0) (same : K → K → Bool) (hash : K → ℕ) where
  -- A reservation in a table that the root has left may take its step, if that is none of a row of the collector, while claims are few. It makes one
  -- move at most, and the map stands where it leads. Pairs that callers made and have not linked are as they were.
  abbrev pub SupersededReservesPreserveTheMap : Type 0
  SupersededReservesPreserveTheMap =
      AreLawful same hash → (setting : Setting) → IsPowerOfTwo setting.initial
      → (w : World (Node K V)) (caller : ℕ) (c : Chart K) (blocks : Blocks) (began : ℕ) (p : Reserve)
      → IsMapIn same hash setting w c blocks → Moments (is_incremental setting.mode) c → ClaimsAreFew c
      → SupersededReserveFacts same hash w caller setting c blocks began p → (IsRowOfReserve p.stands → ⊥)
      → May Can Took value_at w.memory (reserve_plan hash p)
      × ((m2 : Mem (Node K V)) (p2 : Reserve) (outcome : Yielding (Node K V) Unit) → Steps Took value_at w.memory (reserve_plan hash p) m2 (p2, outcome)
      → StepSpec same hash setting caller w c blocks m2 (λ w2 c2 blocks2. SparesPairs w w2 × SupersededReserveOutcome same hash caller setting began c p w2 c2 blocks2 p2 outcome))

  -- While others step, a reservation that began at this moment knows on what its program point is to know; or, where the root leaves its table in
  -- blocking mode, what it is to know then, and it knows that on.
  abbrev pub ReservesKnowOn : Type 0
  ReservesKnowOn =
      AreLawful same hash → (setting : Setting) (caller : ℕ) (w w2 : World (Node K V)) (c c2 : Chart K) (blocks blocks2 : Blocks) → IsMapIn same hash setting w c blocks → IsMapIn same hash setting w2 c2 blocks2
      → Moments (is_incremental setting.mode) c → OthersStep same hash setting caller w c blocks w2 c2 blocks2 → (is_incremental setting.mode ≡ false → ClaimsAreFew c2)
      → (began : ℕ) → began ≤ c.now → (p : Reserve)
      → (ReserveFacts same hash w caller setting c blocks p
      → ReserveFacts same hash w2 caller setting c2 blocks2 p ⊎ SupersededReserveFacts same hash w2 caller setting c2 blocks2 began p)
      × (SupersededReserveFacts same hash w caller setting c blocks began p → SupersededReserveFacts same hash w2 caller setting c2 blocks2 began p)

-- What it is that a reservation terminates, with the rows of the collector that it begins.
use Rattle.std.specs.Prelude.{ℕ}
use Rattle.many_maps.specs.Given.SeizeWordsMem.{Mem, Took, value_at}
use Rattle.many_maps.specs.Given.SeizeWordsPlan.{Steps}
use Rattle.many_maps.specs.Given.ReservesReserve.{reserve_plan}
use Rattle.many_maps.specs.Given.TablesDeclared.node.Node.{Node}
use Rattle.many_maps.specs.Given.ResizeDeclared.yielding.Yielding.{Yielding}
use Rattle.many_maps.specs.Given.ResizeDeclared.yielding.Yielding.TheVariants as outcome
use Rattle.many_maps.specs.Given.ReservesDeclared.reserve.Reserve.{Reserve}
use Rattle.owner_facts.specs.Alone.Endings.{RunsEnd}

-- a reservation that tells this has not ended
abbrev pub HasMore : {T R : Type 0} → Yielding T R → Type 0
HasMore (outcome.Done end) = ⊥
HasMore (outcome.Refused fault) = ⊥
HasMore _ = Unit {0}

module _ {K V : Type 0} (hash : K → ℕ) where
  -- a reservation takes a step that is not its last, and leads from one memory to the next
  abbrev pub StepsOn : Reserve × Mem (Node K V) → Reserve × Mem (Node K V) → Type 0
  StepsOn x y = (end : Yielding (Node K V) Unit) × HasMore end × Steps Took value_at x.1 (reserve_plan hash x.0) y.1 (y.0, end)

  -- each run of its steps terminates
  abbrev pub Terminates : Reserve → Mem (Node K V) → Type 0
  Terminates p m = RunsEnd (Reserve × Mem (Node K V)) StepsOn (p, m)

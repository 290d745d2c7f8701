-- What is known of a map where one caller alone has a part in its copying, at each point of a reservation.
use Rattle.std.specs.Prelude.{ℕ, Bool, true, false}
use Rattle.many_maps.specs.Given.ResizeDeclared.yielding.Yielding.{Yielding}
use Rattle.many_maps.specs.Given.ResizeDeclared.yielding.Yielding.TheVariants as outcome
use Rattle.many_maps.specs.Given.ResizeDeclared.copier.Copier.{Copier}
use Rattle.many_maps.specs.Given.ReservesDeclared.reserve.Reserve.{Reserve}
use Rattle.many_maps.specs.Given.ReservesDeclared.reserve.Reserving.{Reserving}
use Rattle.many_maps.specs.Given.ReservesDeclared.reserve.Reserving.TheVariants as at
use Rattle.many_maps.specs.Given.RuleChart.{Chart}
use Rattle.many_maps.specs.Given.PointsMeasures.{OthersIdle}
use Rattle.many_maps.specs.Given.PointsFactsAloneBlocking.{AloneBlocking}
use Rattle.owner_facts.specs.Alone.FactsAlone.{AloneAt}
use Rattle.owner_facts.specs.Alone.FactsAloneCalls.{TablesAlone, AloneBetweenCalls}

module _ {K : Type 0} where
  -- what its copier knows, in the mode of the map
  abbrev pub CopierAlone : Bool → Chart K → Copier → Type 0
  CopierAlone true c copier = AloneAt c copier copier.stands
  CopierAlone false c copier = AloneBlocking c copier copier.stands

  -- Nobody is to promote a table, nor to say that one was promoted or given up, but where the reservation itself copies.
  abbrev pub ReservesAlone : Bool → Chart K → Reserving → Type 0
  ReservesAlone incremental c (at.Copies copier) = CopierAlone incremental c copier
  ReservesAlone incremental c _ = TablesAlone incremental c

  -- a reservation of this caller stands there, and no other caller has a part in a copying
  pub record IsLoneReserve (incremental : Bool) (caller : ℕ) (c : Chart K) (stands : Reserving) : Type 0 where
    pub idle : OthersIdle caller c
    pub point : ReservesAlone incremental c stands

-- where a step of a reservation that is alone leads: it never waits
abbrev pub LeadsReserve : {K T : Type 0} → Bool → ℕ → Chart K → Reserve × Yielding T Unit → Type 0
LeadsReserve incremental caller c (p, outcome.Goes) = IsLoneReserve incremental caller c p.stands
LeadsReserve incremental caller c (p, outcome.Waits) = ⊥
LeadsReserve incremental caller c (p, outcome.Gave value) = ⊥
LeadsReserve incremental caller c (p, outcome.Done end) = AloneBetweenCalls incremental caller c
LeadsReserve incremental caller c (p, outcome.Refused fault) = AloneBetweenCalls incremental caller c

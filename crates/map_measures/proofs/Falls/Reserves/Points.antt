-- Each step of a reservation that is none of a row and goes on leads to lower numbers.
use Rattle.std.proofs.Common.{ℕ, Bool, sym, subst}
use Rattle.seize_words.specs.OneMemory.Mem.{Mem, Took, value_at}
use Rattle.seize_words.specs.OneMemory.Plan.{Steps}
use Rattle.seize_acts.proofs.Given.SeizeRuleRows.Leaving.{steps_back}
use Rattle.map_tables.specs.Chunks.{is_incremental}
use Rattle.map_tables.specs.declared.node.Node.{Node}
use Rattle.map_tables.specs.declared.setting.Setting.{Setting}
use Rattle.map_tables.specs.declared.table.Table.{Table}
use Rattle.map_machines.specs.Copier.{copier_plan}
use Rattle.map_machines.specs.Sum.{summing}
use Rattle.map_machines.specs.declared.copier.Copier.{Copier}
use Rattle.map_machines.specs.declared.yielding.Yielding.{Yielding}
use Rattle.map_machines.specs.declared.yielding.Yielding.TheVariants as outcome
use Rattle.map_sweeps.specs.Reserves.Reserve.{copied, plan_at, reserve_plan}
use Rattle.map_sweeps.specs.declared.reserve.Reserve.{Reserve}
use Rattle.map_sweeps.specs.declared.reserve.Reserving.{Reserving}
use Rattle.map_sweeps.specs.declared.reserve.Reserving.TheVariants as at
use Rattle.many_calls.specs.Given.RuleChart.{Chart}
use Rattle.many_calls.specs.Given.RuleWords.{Blocks}
use Rattle.many_calls.specs.Given.PointsMeasures.{IsBelow}
use Rattle.many_calls.specs.Given.LateToldReserves.{IsRowOfReserve}
use Rattle.map_measures.specs.Falls.FallsWithin.{GoesFurther}
use Rattle.map_measures.specs.Falls.Reserves.{number_of_reserve}
use Rattle.map_measures.proofs.Falls.Onward.{Onward}
use Rattle.map_measures.proofs.Falls.Reserves.CopiesLower.{CopyFalls, copies_fall}
use Rattle.map_measures.proofs.Falls.Reserves.Lower.{Falls, leads, reads_fall, makes_fall, sums_fall, follows_fall, grows_fall}
use Rattle.map_measures.proofs.Falls.Reserves.Stands.{ReservingStands, ReserveStands}

module _ {K V : Type 0} (same : K → K → Bool) (hash : K → ℕ) (setting : Setting) (m : Mem (Node K V)) (c : Chart K) (blocks : Blocks) (m2 : Mem (Node K V)) (c2 : Chart K) (blocks2 : Blocks)
    (on : Onward same hash setting m c blocks m2 c2 blocks2) (p : Reserve) where
  module _ (end : Reserve × Yielding (Node K V) Unit) where
    abbrev FallsFrom : Reserving → Reserve × Yielding (Node K V) Unit → Type 0
    FallsFrom spot to = Falls same hash setting m c blocks m2 c2 blocks2 on p end spot to

    -- where its copier leads
    copied_falls : (copier : Copier) (none : IsRowOfReserve (at.Copies copier) → ⊥) (to : Copier × Yielding (Node K V) Table)
        → CopyFalls same hash setting m c blocks m2 c2 blocks2 on copier none (is_incremental p.setting.mode) to → FallsFrom (at.Copies copier) (copied p to)
    copied_falls copier none (next, outcome.Goes) falls goes = falls
    copied_falls copier none (next, outcome.Waits) falls goes = absurd goes
    copied_falls copier none (next, outcome.Gave value) falls goes = falls
    copied_falls copier none (next, outcome.Done root) falls goes = falls (summing p.setting)
    copied_falls copier none (next, outcome.Refused fault) falls goes = absurd goes

    on_at : (spot : Reserving) → ReservingStands setting m c blocks (is_incremental p.setting.mode) spot → (IsRowOfReserve spot → ⊥) → Steps Took value_at m (plan_at hash p spot) m2 end
        → FallsFrom spot end
    on_at at.Reads f none s = reads_fall same hash setting m c blocks m2 c2 blocks2 on p end s
    on_at (at.Makes making) f none s = makes_fall same hash setting m c blocks m2 c2 blocks2 on p end making f s
    on_at (at.Sums table sum) f none s = sums_fall same hash setting m c blocks m2 c2 blocks2 on p end table sum s
    on_at (at.Follows table need) (t, entered) none s = follows_fall same hash setting m c blocks m2 c2 blocks2 on p end table t entered need s
    on_at (at.Grows table making) (t, entered, f) none s = grows_fall same hash setting m c blocks m2 c2 blocks2 on p end table t entered making f s
    on_at (at.Copies copier) f none s =
        let b = steps_back (copied p) m m2 (copier_plan hash copier) end s in
        subst (λ (x : Reserve × Yielding (Node K V) Unit). FallsFrom (at.Copies copier) x) (sym b.2)
        (copied_falls copier none b.0 (copies_fall same hash setting m c blocks m2 c2 blocks2 on copier none (is_incremental p.setting.mode) f b.0 b.1))
    on_at at.Over f none s = leads same hash setting m c blocks m2 c2 blocks2 on p end at.Over _ s.1 (λ goes. absurd goes)
    on_at (at.Refused fault) f none s = leads same hash setting m c blocks m2 c2 blocks2 on p end (at.Refused fault) _ s.1 (λ goes. absurd goes)

  pub reserved_on : ReserveStands setting m c blocks p → (IsRowOfReserve p.stands → ⊥) → (end : Reserve × Yielding (Node K V) Unit) → Steps Took value_at m (reserve_plan hash p) m2 end
      → GoesFurther end.1 → IsBelow (number_of_reserve c2 blocks2 end.0) (number_of_reserve c blocks p)
  reserved_on f none end s = on_at end p.stands f none s

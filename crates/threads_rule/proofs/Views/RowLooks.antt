-- What a step of a call has seen that stands at a row of the collector: the block that the row is to reclaim next. And that row is the one that its caller has under way.
use Rattle.std.proofs.Common.{◌≡◌, ℕ, Bool, true, inl, inr, refl, sym, subst, ap, ◌∙◌}
use Rattle.seize_words.specs.OneMemory.Mem.{Mem}
use Rattle.seize.specs.Defer as defer
use Rattle.seize.specs.Defer.{defer_plan}
use Rattle.seize.specs.Settle.{settle_plan}
use Rattle.seize.specs.declared.advance.Advance.{Advance as Told}
use Rattle.seize.specs.declared.rows.defer.Defer.{Defer}
use Rattle.seize.specs.declared.rows.defer.Deferring.{Deferring}
use Rattle.seize.specs.declared.rows.defer.Deferring.TheVariants as deferring
use Rattle.seize.specs.declared.rows.settle.Settle.{Settle}
use Rattle.seize.specs.declared.rows.settle.Settled.{Settled}
use Rattle.seize.specs.declared.rows.settle.Settled.TheVariants as settled
use Rattle.map_tables.specs.Nodes.{deferred_word}
use Rattle.map_tables.specs.declared.node.Node.{Node}
use Rattle.map_tables.specs.declared.table.Table.{Table}
use Rattle.map_machines.specs.Copier as copier
use Rattle.map_machines.specs.Copier.{copier_plan}
use Rattle.map_machines.specs.CopierPromotes as promotes
use Rattle.map_machines.specs.Dispose as dispose
use Rattle.map_machines.specs.Dispose.{dispose_plan}
use Rattle.map_machines.specs.declared.copier.Copier.{Copier}
use Rattle.map_machines.specs.declared.copier.Copying.{Copying}
use Rattle.map_machines.specs.declared.copier.Copying.TheVariants as copies
use Rattle.map_machines.specs.declared.dispose.Dispose.{Dispose}
use Rattle.map_machines.specs.declared.dispose.Disposing.{Disposing}
use Rattle.map_machines.specs.declared.dispose.Disposing.TheVariants as disposes
use Rattle.map_machines.specs.declared.yielding.Yielding.{Yielding}
use Rattle.map_machines.specs.declared.yielding.Yielding.TheVariants as outcome
use Rattle.papaya_raw.specs.Given.ReservesReserve as reserve
use Rattle.papaya_raw.specs.Given.ReservesReserve.{reserve_plan}
use Rattle.papaya_raw.specs.Given.ReservesDeclared.reserve.Reserve.{Reserve}
use Rattle.papaya_raw.specs.Given.ReservesDeclared.reserve.Reserving.{Reserving}
use Rattle.papaya_raw.specs.Given.ReservesDeclared.reserve.Reserving.TheVariants as reserving
use Rattle.papaya_raw.specs.Given.SweepsSweep as sweep
use Rattle.papaya_raw.specs.Given.SweepsSweep.{sweep_plan}
use Rattle.papaya_raw.specs.Given.ReservesDeclared.sweep.Sweep.{Sweep}
use Rattle.papaya_raw.specs.Given.ReservesDeclared.sweep.Swept.{Swept}
use Rattle.papaya_raw.specs.Given.ReservesDeclared.sweep.Swept.TheVariants as swept
use Rattle.papaya_raw.specs.Given.ReservesDeclared.sweep.Sweeping.{Sweeping}
use Rattle.papaya_raw.specs.Given.ReservesDeclared.sweep.Sweeping.TheVariants as sweeping
use Rattle.papaya_raw.specs.Call as call
use Rattle.papaya_raw.specs.Call.{call_plan}
use Rattle.papaya_raw.specs.Machine as machines
use Rattle.papaya_raw.specs.Machine.{machine_plan}
use Rattle.papaya_raw.specs.declared.machines.answer.Called.{Called}
use Rattle.papaya_raw.specs.declared.machines.answer.Called.TheVariants as called
use Rattle.papaya_raw.specs.declared.machines.call.Calling.{Calling}
use Rattle.papaya_raw.specs.declared.machines.call.Calling.TheVariants as at
use Rattle.papaya_raw.specs.declared.machines.call.KeyCall.{KeyCall}
use Rattle.papaya_raw.specs.declared.machines.machine.Machine.{Machine}
use Rattle.papaya_raw.specs.declared.machines.machine.Machine.TheVariants as kinds
use Rattle.papaya_raw.specs.declared.machines.progress.Progress.{Progress}
use Rattle.many_acts.specs.Looks.Sees.{HasSeen, Continues}
use Rattle.many_acts.proofs.Looks.Sees.Operations.{loads, exchanges}
use Rattle.many_acts.proofs.Looks.Sees.Plans.{seen_as}
use Rattle.threads_rule.specs.Views.Reclaims.{copies_at_row, disposes_at_row, calls_at_row, reserves_at_row, sweeps_at_row, is_at_row, IsToReclaim, DisposesNext, CopiesNext, CallsNext, ReservesNext, SweepsNext, IsNextOf}
use Rattle.threads_rule.proofs.Views.Settled.{settle_sees}

module _ {K V : Type 0} (b : ℕ) (m n : Mem (Node K V)) where
  -- a block is put behind a table: nothing is seen
  defers_none : (d : Defer) (end : Defer × Told Unit) (stands : Deferring) → HasSeen b m (defer.plan_at d stands) n end → ⊥
  defers_none d end deferring.Reads saw = let l = loads b m n d.table_word end (defer.head_read d) saw in l.3.1
  defers_none d end (deferring.Links head) saw = saw.3
  defers_none d end (deferring.Pushes head) saw = elim (exchanges b m n d.table_word end (defer.after_push d) head d.block saw) as (λ _. ⊥) [
    | inl made ↦ made.1.1
    | inr found ↦ found.3.1
  ]
  defers_none d end deferring.Over saw = saw.2

  module _ (d : Dispose) (end : Dispose × Settled (Node K V)) where
    abbrev Disposes : Type 0
    Disposes = DisposesNext end.0.stands b × (end.1 ≡ settled.Goes)

    settles_on : (settle : Settle) (told : Settled (Node K V)) → end ≡ dispose.settled d (settle, told) → IsToReclaim settle b → told ≡ settled.Goes → Disposes
    settles_on settle told is next goes =
        let to = is ∙ ap (λ (x : Settled (Node K V)). dispose.settled d (settle, x)) goes in (
          subst (λ (x : Dispose × Settled (Node K V)). DisposesNext x.0.stands b) (sym to) next,
          ap (λ (x : Dispose × Settled (Node K V)). x.1) to,
        )

    disposes_at : (stands : Disposing) → disposes_at_row stands ≡ true → HasSeen b m (dispose.plan_at d stands) n end → Disposes
    disposes_at (disposes.Settles settle) row saw =
        let s = seen_as (dispose.settled d) b m (settle_plan deferred_word settle) n end saw in
        let r = settle_sees deferred_word b m n settle s.0 s.2 in settles_on s.0.0 s.0.1 s.1 r.0 r.1
    disposes_at (disposes.Defers defers) row saw =
        let s = seen_as (dispose.deferred d) b m (defer_plan defers) n end saw in absurd (defers_none defers s.0 defers.stands s.2)
    disposes_at disposes.Reads row saw = absurd (cc row)
    disposes_at (disposes.Walks table) row saw = absurd (cc row)
    disposes_at disposes.Over row saw = absurd (cc row)

  module _ (hash : K → ℕ) (p : Copier) (end : Copier × Yielding (Node K V) Table) where
    abbrev Copies : Type 0
    Copies = CopiesNext end.0.stands b × (end.1 ≡ outcome.Goes)

    retires_on : (rest : ℕ) (settle : Settle) (told : Settled (Node K V)) → end ≡ promotes.retired p rest (settle, told) → IsToReclaim settle b → told ≡ settled.Goes → Copies
    retires_on rest settle told is next goes =
        let to = is ∙ ap (λ (x : Settled (Node K V)). promotes.retired p rest (settle, x)) goes in (
          subst (λ (x : Copier × Yielding (Node K V) Table). CopiesNext x.0.stands b) (sym to) next,
          ap (λ (x : Copier × Yielding (Node K V) Table). x.1) to,
        )

    copies_at : (stands : Copying) → copies_at_row stands ≡ true → HasSeen b m (copier.plan_at hash p stands) n end → Copies
    copies_at (copies.Retires settle rest) row saw =
        let s = seen_as (promotes.retired p rest) b m (settle_plan deferred_word settle) n end saw in
        let r = settle_sees deferred_word b m n settle s.0 s.2 in retires_on rest s.0.0 s.0.1 s.1 r.0 r.1
    copies_at _ row saw = absurd (cc row)

  module _ {Q : Type 0} (asks : Q → K → Bool) (same : K → K → Bool) (hash : K → ℕ) (p : KeyCall K V Q) (end : KeyCall K V Q × Called (Node K V)) where
    abbrev Calls : Type 0
    Calls = CallsNext end.0.stands b × (end.1 ≡ called.Goes)

    calls_on : (to : KeyCall K V Q × Called (Node K V)) → end ≡ to → CallsNext to.0.stands b → to.1 ≡ called.Goes → Calls
    calls_on to is next goes =
        (subst (λ (x : KeyCall K V Q × Called (Node K V)). CallsNext x.0.stands b) (sym is) next, ap (λ (x : KeyCall K V Q × Called (Node K V)). x.1) is ∙ goes)

    calls_at : (stands : Calling) → calls_at_row stands ≡ true → HasSeen b m (call.plan_at asks same hash p stands) n end → Calls
    calls_at (at.Disposes d answer) row saw =
        let s = seen_as (call.disposed p answer) b m (dispose_plan d) n end saw in
        let r = disposes_at d s.0 d.stands row s.2 in
        calls_on (call.disposed p answer (s.0.0, settled.Goes)) (s.1 ∙ ap (λ (x : Settled (Node K V)). call.disposed p answer (s.0.0, x)) r.1) r.0 refl
    calls_at (at.Helps c goal) row saw =
        let s = seen_as (call.helped p goal) b m (copier_plan hash c) n end saw in
        let r = copies_at hash c s.0 c.stands row s.2 in
        calls_on (call.helped p goal (s.0.0, outcome.Goes)) (s.1 ∙ ap (λ (x : Yielding (Node K V) Table). call.helped p goal (s.0.0, x)) r.1) r.0 refl
    calls_at (at.Copies c) row saw =
        let s = seen_as (call.copied p) b m (copier_plan hash c) n end saw in
        let r = copies_at hash c s.0 c.stands row s.2 in
        calls_on (call.copied p (s.0.0, outcome.Goes)) (s.1 ∙ ap (λ (x : Yielding (Node K V) Table). call.copied p (s.0.0, x)) r.1) r.0 refl
    calls_at _ row saw = absurd (cc row)

  module _ (hash : K → ℕ) (p : Reserve) (end : Reserve × Yielding (Node K V) Unit) where
    abbrev Reserves : Type 0
    Reserves = ReservesNext end.0.stands b × (end.1 ≡ outcome.Goes)

    reserves_on : (to : Reserve × Yielding (Node K V) Unit) → end ≡ to → ReservesNext to.0.stands b → to.1 ≡ outcome.Goes → Reserves
    reserves_on to is next goes =
        (subst (λ (x : Reserve × Yielding (Node K V) Unit). ReservesNext x.0.stands b) (sym is) next, ap (λ (x : Reserve × Yielding (Node K V) Unit). x.1) is ∙ goes)

    reserves_at : (stands : Reserving) → reserves_at_row stands ≡ true → HasSeen b m (reserve.plan_at hash p stands) n end → Reserves
    reserves_at (reserving.Copies c) row saw =
        let s = seen_as (reserve.copied p) b m (copier_plan hash c) n end saw in
        let r = copies_at hash c s.0 c.stands row s.2 in
        reserves_on (reserve.copied p (s.0.0, outcome.Goes)) (s.1 ∙ ap (λ (x : Yielding (Node K V) Table). reserve.copied p (s.0.0, x)) r.1) r.0 refl
    reserves_at _ row saw = absurd (cc row)

  module _ (hash : K → ℕ) (p : Sweep) (end : Sweep × Swept (Node K V)) where
    abbrev Sweeps : Type 0
    Sweeps = SweepsNext end.0.stands b × (end.1 ≡ swept.Goes)

    sweeps_on : (to : Sweep × Swept (Node K V)) → end ≡ to → SweepsNext to.0.stands b → to.1 ≡ swept.Goes → Sweeps
    sweeps_on to is next goes =
        (subst (λ (x : Sweep × Swept (Node K V)). SweepsNext x.0.stands b) (sym is) next, ap (λ (x : Sweep × Swept (Node K V)). x.1) is ∙ goes)

    sweeps_at : (stands : Sweeping) → sweeps_at_row stands ≡ true → HasSeen b m (sweep.plan_at hash p stands) n end → Sweeps
    sweeps_at (sweeping.Copies c) row saw =
        let s = seen_as (sweep.copied p) b m (copier_plan hash c) n end saw in
        let r = copies_at hash c s.0 c.stands row s.2 in
        sweeps_on (sweep.copied p (s.0.0, outcome.Goes)) (s.1 ∙ ap (λ (x : Yielding (Node K V) Table). sweep.copied p (s.0.0, x)) r.1) r.0 refl
    sweeps_at (sweeping.Disposes d) row saw =
        let s = seen_as (sweep.disposed p) b m (dispose_plan d) n end saw in
        let r = disposes_at d s.0 d.stands row s.2 in
        sweeps_on (sweep.disposed p (s.0.0, settled.Goes)) (s.1 ∙ ap (λ (x : Settled (Node K V)). sweep.disposed p (s.0.0, x)) r.1) r.0 refl
    sweeps_at _ row saw = absurd (cc row)

  -- whichever call it is
  pub row_sees : (same : K → K → Bool) (hash : K → ℕ) (machine : Machine K V K) → is_at_row machine ≡ true → (next : Machine K V K) (told : Progress (Node K V))
      → HasSeen b m (machine_plan same same hash machine) n (next, told) → IsNextOf next b × Continues told
  row_sees same hash machine row next told saw = by machine row saw
    where
      on : (to : Machine K V K × Progress (Node K V)) → (next, told) ≡ to → IsNextOf to.0 b → Continues to.1 → IsNextOf next b × Continues told
      on to is its goes = (
        subst (λ (x : Machine K V K × Progress (Node K V)). IsNextOf x.0 b) (sym is) its,
        subst (λ (x : Machine K V K × Progress (Node K V)). Continues x.1) (sym is) goes,
      )

      by : (x : Machine K V K) → is_at_row x ≡ true → HasSeen b m (machine_plan same same hash x) n (next, told) → IsNextOf next b × Continues told
      by (kinds.Key c) r s =
          let f = seen_as machines.called b m (call_plan same same hash c) n (next, told) s in
          let k = calls_at same same hash c f.0 c.stands r f.2 in
          on (machines.called (f.0.0, called.Goes)) (f.1 ∙ ap (λ (x : Called (Node K V)). machines.called (f.0.0, x)) k.1) k.0 tt
      by (kinds.Reserve c) r s =
          let f = seen_as machines.reserved b m (reserve_plan hash c) n (next, told) s in
          let k = reserves_at hash c f.0 c.stands r f.2 in
          on (machines.reserved (f.0.0, outcome.Goes)) (f.1 ∙ ap (λ (x : Yielding (Node K V) Unit). machines.reserved (f.0.0, x)) k.1) k.0 tt
      by (kinds.Sweep c) r s =
          let f = seen_as machines.swept b m (sweep_plan hash c) n (next, told) s in
          let k = sweeps_at hash c f.0 c.stands r f.2 in
          on (machines.swept (f.0.0, swept.Goes)) (f.1 ∙ ap (λ (x : Swept (Node K V)). machines.swept (f.0.0, x)) k.1) k.0 tt
      by (kinds.Count c) r s = absurd (cc r)

-- A step that answers that its machine waits: for a copying, or at a row for whoever has the batch of its slot in hand; and the machine stands where it stood.
use Rattle.std.specs.Prelude.{◌≡◌, ℕ, Bool, Option, Some, ◌⊎◌}
use Rattle.std.proofs.Common.{inl, inr, refl, ap, sym, subst, ◌∙◌}
use Rattle.seize_words.specs.OneMemory.Mem.{Mem, Took, value_at}
use Rattle.seize_words.specs.OneMemory.Plan.{Steps}
use Rattle.map_measures.proofs.Given.SeizeRuleRows.Leaving.{steps_back}
use Rattle.seize.specs.World.{World, Rests}
use Rattle.seize.specs.declared.advance.Advance.{Advance as Counted}
use Rattle.seize.specs.declared.advance.Advance.TheVariants as counted
use Rattle.map_tables.specs.declared.node.Node.{Node}
use Rattle.map_measures.specs.Given.ResizeSum.{sum_plan}
use Rattle.map_measures.specs.Given.ResizeDeclared.yielding.Yielding.{Yielding}
use Rattle.map_measures.specs.Given.ResizeDeclared.yielding.Yielding.TheVariants as outcome
use Rattle.map_measures.specs.Given.ResizeDeclared.sum.Sum.{Sum}
use Rattle.papaya_raw.specs.Call.{call_plan}
use Rattle.papaya_raw.specs.Machine as machines
use Rattle.papaya_raw.specs.Machine.{machine_plan}
use Rattle.papaya_raw.specs.Progress.{of_called, of_outcome, of_swept, of_counting}
use Rattle.papaya_raw.specs.declared.machines.answer.Called.{Called}
use Rattle.papaya_raw.specs.declared.machines.answer.Called.TheVariants as called
use Rattle.papaya_raw.specs.declared.machines.call.KeyCall.{KeyCall}
use Rattle.papaya_raw.specs.declared.machines.machine.Machine.{Machine}
use Rattle.papaya_raw.specs.declared.machines.machine.Machine.TheVariants as kinds
use Rattle.papaya_raw.specs.declared.machines.progress.Progress.{Progress}
use Rattle.papaya_raw.specs.declared.machines.progress.Progress.TheVariants as progress
use Rattle.papaya_raw.specs.Given.ReservesReserve.{reserve_plan}
use Rattle.papaya_raw.specs.Given.ReservesDeclared.reserve.Reserve.{Reserve}
use Rattle.papaya_raw.specs.Given.ReservesDeclared.reserve.Reserving.{Reserving}
use Rattle.papaya_raw.specs.Given.ReservesDeclared.reserve.Reserving.TheVariants as reserving
use Rattle.papaya_raw.specs.Given.SweepsSweep.{sweep_plan}
use Rattle.papaya_raw.specs.Given.ReservesDeclared.sweep.Sweep.{Sweep}
use Rattle.papaya_raw.specs.Given.ReservesDeclared.sweep.Sweeping.{Sweeping}
use Rattle.papaya_raw.specs.Given.ReservesDeclared.sweep.Sweeping.TheVariants as sweeping
use Rattle.papaya_raw.specs.Given.ReservesDeclared.sweep.Swept.{Swept}
use Rattle.papaya_raw.specs.Given.ReservesDeclared.sweep.Swept.TheVariants as swept
use Rattle.map_tables.specs.Chunks.{is_incremental}
use Rattle.papaya_raw.specs.declared.machines.call.Calling.{Calling}
use Rattle.papaya_raw.specs.declared.machines.call.Calling.TheVariants as at
use Rattle.owner_facts.specs.Given.PointsTold.{IsRowOfCall}
use Rattle.owner_facts.specs.Given.PointsSteps.{AreLawful}
use Rattle.owner_facts.specs.Given.LateToldReserves.{IsRowOfReserve}
use Rattle.owner_facts.specs.Given.LateToldSweeps.{IsRowOfSweep}
use Rattle.owner_facts.specs.Given.CallersOverAll.{CallOverAll, row_of_sweep}
use Rattle.owner_facts.specs.Given.CallersRooms.{CallForRoom}
use Rattle.owner_facts.specs.Given.CallersSights.{seen_by}
use Rattle.owner_facts.specs.Given.CallersTogether.{UnderWay, CallOnKey, OnKey, ForRoom, Counting, OverAll, in_slot, IsAtPoint, Together}
use Rattle.owner_facts.proofs.Given.CallersTogether.Countings.{countings_stand_together}
use Rattle.owner_facts.specs.Given.FinishesEndings.{Finishing, EndingsTogether}
use Rattle.owner_facts.specs.Given.FinishesMachines.{machine_of}
use Rattle.owner_facts.specs.Given.FinishesMakings.{Beginning}
use Rattle.owner_facts.specs.Given.FinishesMaps.{Standing}
use Rattle.map_measures.specs.Waits.Waits as waits
use Rattle.map_measures.specs.Waits.Waits.{CallAwaits, AnotherHolds}
use Rattle.map_measures.proofs.Waits.Laws as laws
use Rattle.map_measures.proofs.Waits.Promised.{map_of}
use Rattle.owner_whole.proofs.Whole.Rows.Kinds.{copier_decided, row_decided}
use Rattle.owner_whole.proofs.Whole.Sweeps.Leads.{sweep_decided}
use Rattle.owner_whole.specs.Lowers.Numbers.{row_within}
use Rattle.owner_whole.specs.Lowers.Waits.{AwaitsItsPair, AwaitsACopying, StepsWait}
use Rattle.owner_whole.proofs.Lowers.ItsPair.{waits_for_its_pair}
use Rattle.owner_whole.proofs.Lowers.Stays.{key_stays, room_stays, sweep_stays}
use Rattle.owner_whole.proofs.Lowers.Unwritten.{key_unwritten, room_unwritten, sweep_unwritten}

-- What tells that its machine waits waits.

called_waits : {T : Type 0} (x : Called T) → of_called x ≡ progress.Waits → x ≡ called.Waits
called_waits called.Goes e = absurd (cc e)
called_waits called.Waits e = refl
called_waits (called.Gave value) e = absurd (cc e)
called_waits (called.Unstored value) e = absurd (cc e)
called_waits (called.Asks asked) e = absurd (cc e)
called_waits (called.Done answer) e = absurd (cc e)
called_waits (called.Refused fault) e = absurd (cc e)

pub outcome_waits : {T : Type 0} (x : Yielding T Unit) → of_outcome x ≡ progress.Waits → x ≡ outcome.Waits
outcome_waits outcome.Goes e = absurd (cc e)
outcome_waits outcome.Waits e = refl
outcome_waits (outcome.Gave value) e = absurd (cc e)
outcome_waits (outcome.Done end) e = absurd (cc e)
outcome_waits (outcome.Refused fault) e = absurd (cc e)

pub swept_waits : {T : Type 0} (x : Swept T) → of_swept x ≡ progress.Waits → x ≡ swept.Waits
swept_waits swept.Goes e = absurd (cc e)
swept_waits swept.Waits e = refl
swept_waits (swept.Gave value) e = absurd (cc e)
swept_waits swept.Ready e = absurd (cc e)
swept_waits (swept.Pair word) e = absurd (cc e)
swept_waits (swept.Asks word) e = absurd (cc e)
swept_waits swept.Done e = absurd (cc e)
swept_waits (swept.Refused fault) e = absurd (cc e)

counted_waits : {T : Type 0} (x : Counted ℕ) → ◌≡◌ {A = Progress T} (of_counting x) progress.Waits → x ≡ counted.Waits
counted_waits counted.Goes e = absurd (cc e)
counted_waits counted.Waits e = refl
counted_waits (counted.Done sum) e = absurd (cc e)
counted_waits (counted.Refused fault) e = absurd (cc e)

-- it is at a row, or at none
pub room_decided : (x : Reserving) → IsRowOfReserve x ⊎ (IsRowOfReserve x → ⊥)
room_decided (reserving.Copies copier) = copier_decided copier.stands
room_decided reserving.Reads = inr (λ h. h)
room_decided (reserving.Makes making) = inr (λ h. h)
room_decided (reserving.Sums table sum) = inr (λ h. h)
room_decided (reserving.Follows table need) = inr (λ h. h)
room_decided (reserving.Grows table making) = inr (λ h. h)
room_decided reserving.Over = inr (λ h. h)
room_decided (reserving.Refused fault) = inr (λ h. h)

-- the row within a sweep, by either name
same_row : (slot : ℕ) (x : Sweeping) → waits.row_of_sweep slot x ≡ row_of_sweep slot x
same_row slot (sweeping.Copies copier) = refl
same_row slot (sweeping.Disposes d) = refl
same_row slot sweeping.Reads = refl
same_row slot sweeping.Follows = refl
same_row slot sweeping.Ready = refl
same_row slot sweeping.Words = refl
same_row slot (sweeping.Asks word) = refl
same_row slot (sweeping.Tries word) = refl
same_row slot (sweeping.Counts removed) = refl
same_row slot sweeping.Over = refl
same_row slot (sweeping.Refused fault) = refl

module _ {K Q : Type 0} (V : Type 0) (same : K → K → Bool) (asks : Q → K → Bool) (batch_size roots : ℕ) (slot : ℕ → ℕ) where
  module _ (w : World (Node K V)) (maps : ℕ → Option (Standing K)) (calls : ℕ → ℕ → Option (UnderWay K V Q)) (makers : ℕ → Option (Beginning K)) (enders : ℕ → Option (Finishing K V))
      (all : EndingsTogether V same asks batch_size roots slot w maps calls makers enders) (m : ℕ) (s : Standing K) (here : maps m ≡ Some s) (i : ℕ)
      (m2 : Mem (Node K V)) (machine : Machine K V Q) where
    stands : Together V same s.hash asks s.setting slot w s.chart s.blocks s.sights (calls m)
    stands = all.makings.standing.each m s here

    lawful : AreLawful same s.hash
    lawful = (all.makings.standing.fit m s here).0

    abbrev Reason : UnderWay K V Q → Type 0
    Reason u = (m2 ≡ w.memory) × (machine ≡ machine_of u) × (AwaitsACopying s u ⊎ AnotherHolds w i (row_within (slot i) (machine_of u)))

    abbrev Steps' : UnderWay K V Q → Type 0
    Steps' u = Steps Took value_at w.memory (machine_plan asks same s.hash (machine_of u)) m2 (machine, progress.Waits)

    -- at a try, it has come to its own pair
    its : (u : CallOnKey K V Q) → calls m i ≡ Some (OnKey u) → (IsRowOfCall u.call.stands → ⊥) → (m3 : Mem (Node K V)) (q : KeyCall K V Q)
        → Steps Took value_at w.memory (call_plan asks same s.hash u.call) m3 (q, called.Waits)
        → CallAwaits s.chart (is_incremental s.setting.mode) u.call u.call.stands → AwaitsItsPair s u u.call.stands
    its u has none m3 q st = by u.call.stands refl
      where
        known : IsAtPoint V same s.hash asks s.setting slot w s.chart (seen_by s.blocks (s.sights (slot i))) i (OnKey u) → u.call.stands ≡ at.Probes
            → CallAwaits s.chart (is_incremental s.setting.mode) u.call at.Probes → AwaitsItsPair s u at.Probes
        known (inr (row, is_row, knows)) here awaits = absurd (none is_row)
        known (inl (rests, knows)) here awaits = elim knows.facts as (λ _. AwaitsItsPair s u at.Probes) [
          | inl facts ↦
              waits_for_its_pair same s.hash asks i (in_slot s.setting (slot i)) u.keys lawful w s.chart (seen_by s.blocks (s.sights (slot i)))
              (map_of V same s.hash asks s.setting slot w s.chart s.blocks s.sights (calls m) stands i (stands.inside i (OnKey u) has)) u.call u.change facts here m3 q st
          | inr late ↦ absurd (let blocking = late.1.blocking in let mode = awaits.0 in cc (blocking, mode))
        ]

        by : (x : Calling) → u.call.stands ≡ x → CallAwaits s.chart (is_incremental s.setting.mode) u.call x → AwaitsItsPair s u x
        by at.Probes here awaits = known (stands.stand i (OnKey u) has) here awaits
        by _ here awaits = tt

    at_key : (u : CallOnKey K V Q) → calls m i ≡ Some (OnKey u) → Steps' (OnKey u) → Reason (OnKey u)
    at_key u has st = elim (row_decided u.call.stands) as (λ _. Reason (OnKey u)) [
      | inl row ↦ let k = key_stays w.memory m2 s.hash same asks u.call row e.0.0 waiting in (
        k.1,
        machine_is ∙ ap kinds.Key k.0,
        inr (laws.call_rows_wait_for_a_holder V same s.hash asks s.setting slot w s.chart s.blocks s.sights (calls m) stands i u has row m2 e.0.0 waiting),
      )
      | inr none ↦
          (let h = laws.calls_wait_for_a_copying V same s.hash asks s.setting slot lawful w s.chart s.blocks s.sights (calls m) stands i u has none m2 e.0.0 waiting in
          (key_unwritten w.memory m2 s.hash same asks u.call none e.0.0 waiting, machine_is ∙ ap kinds.Key h.0, inl (h.1, its u has none m2 e.0.0 waiting h.1)))
    ]
      where
        e : (e : KeyCall K V Q × Called (Node K V)) × Steps Took value_at w.memory (call_plan asks same s.hash u.call) m2 e × ((machine, progress.Waits) ≡ machines.called e)
        e = steps_back machines.called w.memory m2 (call_plan asks same s.hash u.call) (machine, progress.Waits) st

        machine_is : machine ≡ kinds.Key e.0.0
        machine_is = ap (λ (x : Machine K V Q × Progress (Node K V)). x.0) e.2

        waiting : Steps Took value_at w.memory (call_plan asks same s.hash u.call) m2 (e.0.0, called.Waits)
        waiting = subst (λ (x : Called (Node K V)). Steps Took value_at w.memory (call_plan asks same s.hash u.call) m2 (e.0.0, x))
            (called_waits e.0.1 (sym (ap (λ (x : Machine K V Q × Progress (Node K V)). x.1) e.2))) e.1

    at_room : (r : CallForRoom) → calls m i ≡ Some (ForRoom r) → Steps' (ForRoom r) → Reason (ForRoom r)
    at_room r has st = elim (room_decided r.reserve.stands) as (λ _. Reason (ForRoom r)) [
      | inl row ↦ let k = room_stays w.memory m2 s.hash r.reserve row e.0.0 waiting in (
        k.1,
        machine_is ∙ ap kinds.Reserve k.0,
        inr (laws.room_rows_wait_for_a_holder V same s.hash asks s.setting slot w s.chart s.blocks s.sights (calls m) stands i r has row m2 e.0.0 waiting),
      )
      | inr none ↦
          (let h = laws.rooms_wait_for_a_copying V same s.hash asks s.setting slot lawful w s.chart s.blocks s.sights (calls m) stands i r has none m2 e.0.0 waiting in
          (room_unwritten w.memory m2 s.hash r.reserve none e.0.0 waiting, machine_is ∙ ap kinds.Reserve h.0, inl h.1))
    ]
      where
        e : (e : Reserve × Yielding (Node K V) Unit) × Steps Took value_at w.memory (reserve_plan s.hash r.reserve) m2 e × ((machine, progress.Waits) ≡ machines.reserved e)
        e = steps_back machines.reserved w.memory m2 (reserve_plan s.hash r.reserve) (machine, progress.Waits) st

        machine_is : machine ≡ kinds.Reserve e.0.0
        machine_is = ap (λ (x : Machine K V Q × Progress (Node K V)). x.0) e.2

        waiting : Steps Took value_at w.memory (reserve_plan s.hash r.reserve) m2 (e.0.0, outcome.Waits)
        waiting = subst (λ (x : Yielding (Node K V) Unit). Steps Took value_at w.memory (reserve_plan s.hash r.reserve) m2 (e.0.0, x))
            (outcome_waits e.0.1 (sym (ap (λ (x : Machine K V Q × Progress (Node K V)). x.1) e.2))) e.1

    at_sweep : (o : CallOverAll) → calls m i ≡ Some (OverAll o) → Steps' (OverAll o) → Reason (OverAll o)
    at_sweep o has st = elim (sweep_decided o.sweep.stands) as (λ _. Reason (OverAll o)) [
      | inl row ↦ let k = sweep_stays w.memory m2 s.hash o.sweep row e.0.0 waiting in (
        k.1,
        machine_is ∙ ap kinds.Sweep k.0,
        inr (subst (AnotherHolds w i) (same_row (slot i) o.sweep.stands)
            (laws.sweep_rows_wait_for_a_holder V same s.hash slot s.setting.batch_size w stands.ground.came i o.sweep row (its_row (stands.stand i (OverAll o) has)) m2 e.0.0 waiting)),
      )
      | inr none ↦ by none (stands.stand i (OverAll o) has)
    ]
      where
        e : (e : Sweep × Swept (Node K V)) × Steps Took value_at w.memory (sweep_plan s.hash o.sweep) m2 e × ((machine, progress.Waits) ≡ machines.swept e)
        e = steps_back machines.swept w.memory m2 (sweep_plan s.hash o.sweep) (machine, progress.Waits) st

        machine_is : machine ≡ kinds.Sweep e.0.0
        machine_is = ap (λ (x : Machine K V Q × Progress (Node K V)). x.0) e.2

        waiting : Steps Took value_at w.memory (sweep_plan s.hash o.sweep) m2 (e.0.0, swept.Waits)
        waiting = subst (λ (x : Swept (Node K V)). Steps Took value_at w.memory (sweep_plan s.hash o.sweep) m2 (e.0.0, x))
            (swept_waits e.0.1 (sym (ap (λ (x : Machine K V Q × Progress (Node K V)). x.1) e.2))) e.1

        StandsSo : Type 0
        StandsSo = IsAtPoint V same s.hash asks s.setting slot w s.chart (seen_by s.blocks (s.sights (slot i))) i (OverAll o)

        its_row : StandsSo → (w.row i ≡ Rests) ⊎ (w.row i ≡ waits.row_of_sweep (slot i) o.sweep.stands)
        its_row (inl h) = inl h.0
        its_row (inr h) = inr (h.0 ∙ sym (same_row (slot i) o.sweep.stands))

        by : (IsRowOfSweep o.sweep.stands → ⊥) → StandsSo → Reason (OverAll o)
        by none (inl h) =
            let a = laws.sweeps_wait_for_a_copying V same s.hash lawful (in_slot s.setting (slot i)) w i s.chart (seen_by s.blocks (s.sights (slot i))) o.began o.sweep
            (map_of V same s.hash asks s.setting slot w s.chart s.blocks s.sights (calls m) stands i (stands.inside i (OverAll o) has)) h.1.facts none m2 e.0.0 waiting in
            (sweep_unwritten w.memory m2 s.hash o.sweep none e.0.0 waiting, machine_is ∙ ap kinds.Sweep a.0, inl a.1)
        by none (inr h) = absurd (none h.1)

    -- a counting never waits
    at_sum : (sum : Sum) → calls m i ≡ Some (Counting sum) → Steps' (Counting sum) → Reason (Counting sum)
    at_sum sum has st =
        let e = steps_back machines.counted w.memory m2 (sum_plan sum) (machine, progress.Waits) st in
        absurd (((countings_stand_together same s.hash asks s.setting slot w s.chart s.blocks s.sights (calls m) stands i sum has).1 m2 e.0.0 e.0.1 e.1).1
        (counted_waits {T = Node K V} e.0.1 (sym (ap (λ (x : Machine K V Q × Progress (Node K V)). x.1) e.2))))

    reason : (u : UnderWay K V Q) → calls m i ≡ Some u → Steps' u → Reason u
    reason (OnKey u) has st = at_key u has st
    reason (ForRoom r) has st = at_room r has st
    reason (Counting sum) has st = at_sum sum has st
    reason (OverAll o) has st = at_sweep o has st

  pub steps_wait : StepsWait V same asks batch_size roots slot
  steps_wait w maps calls makers enders all m s here i u has m2 machine st = reason w maps calls makers enders all m s here i m2 machine u has st

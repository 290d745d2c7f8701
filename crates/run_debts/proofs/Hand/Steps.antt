-- A step of a row within a call, of whichever kind the call is: what the call has in hand goes with the effects of the step.
use Rattle.std.specs.Prelude.{◌≡◌, ℕ, Bool, true, List, [], Option, Some, None}
use Rattle.std.proofs.Common.{refl, ap, sym, subst, ◌∙◌, inl, inr}
use Rattle.run_places.specs.Given.TablesDeclared.node.Node.{Node}
use Rattle.run_places.specs.Given.ReservesReserve.{reserve_plan}
use Rattle.run_places.specs.Given.SweepsSweep.{sweep_plan}
use Rattle.run_places.specs.Given.RawCall.{call_plan}
use Rattle.run_places.specs.Given.RawMachine.{called as of_key, reserved as of_room, swept as of_sweep}
use Rattle.run_places.specs.Given.RawDeclared.machines.machine.Machine.{Machine}
use Rattle.run_places.specs.Given.RawDeclared.machines.machine.Machine.TheVariants as kinds
use Rattle.run_places.specs.Given.RawDeclared.machines.progress.Progress.{Progress}
use Rattle.run_places.specs.Given.RunsDeclared.effect.Effect.{Effect}
use Rattle.run_places.specs.Given.SchedulesMoment.{Moment}
use Rattle.run_places.specs.Given.EffectsDeclared.changed.Changed.{Changed}
use Rattle.run_places.specs.Given.EffectsDeclared.changed.Changed.TheVariants as changed
use Rattle.run_places.proofs.Given.RuleKeys.Always.{always_steps}
use Rattle.owner_facts.specs.Given.CallersOverAll.{CallOverAll}
use Rattle.owner_facts.specs.Given.CallersRooms.{CallForRoom}
use Rattle.owner_facts.specs.Given.CallersTogether.{UnderWay, CallOnKey, OnKey, ForRoom, Counting, OverAll}
use Rattle.run_places.specs.Given.EffectsEffects.{effects_of}
use Rattle.run_places.specs.Given.EffectsKnown.{Known}
use Rattle.run_places.specs.Given.EffectsDeclared.acting.Acting.TheVariants as acts
use Rattle.owner_facts.specs.Given.FinishesMachines.{machine_of}
use Rattle.run_places.specs.Given.FollowsShows.{Refines}
use Rattle.run_places.proofs.Given.FollowsSteps.{WentTo, went_to, DidSo, OfNoRow}
use Rattle.run_places.specs.Hands.Rows.{RowsReclaimNone}
use Rattle.run_places.proofs.Given.OthersOutcomes.{told_in}
use Rattle.owner_facts.specs.Given.PointsTold.{IsRowOfCall}
use Rattle.owner_facts.specs.Given.LateToldReserves.{IsRowOfReserve}
use Rattle.owner_facts.specs.Given.LateToldSweeps.{IsRowOfSweep}
use Rattle.run_debts.specs.Due.{RowObligation, due_in_row, RowTells, TellsNone, TellsRetired, TellsDeferred, OwnAreMade}
use Rattle.run_debts.specs.Entries.{EntriesAreBlank}
use Rattle.run_debts.specs.Hand.{in_hand, NotesPending}
use Rattle.run_debts.specs.Owed.{RowsHandOver}
use Rattle.run_debts.specs.Owing.{ObligationsGo}
use Rattle.run_debts.proofs.DueCalls.{rows_tell_due}
use Rattle.run_debts.proofs.Hand.Behind.{GoesDue, KeyKeeps, key_keeps, key_puts, RoomKeeps, room_keeps, room_puts, SweepKeeps, sweep_keeps, sweep_puts}
use Rattle.run_debts.proofs.Leaving.{has_gone}
use Rattle.run_debts.proofs.Hand.Rows.{KeepsBehind, PutsPair, row_goes}
use Rattle.run_places.proofs.Given.ScenesTold.{as_step}
use Rattle.run_places.specs.Given.ScenesHeld.{Held, IsAt}
use Rattle.run_places.specs.Given.ScenesScene.{Scene}
use Rattle.run_places.specs.Given.ScenesStepping.{StepLeads, StepsFrom, has_ended}

-- a row has in hand what it had, or nothing any more
goes_due : (caller map : ℕ) (known : Known) (effects : List Effect) (due due2 : Option RowObligation) → RowTells caller map known effects due due2 → GoesDue due due2
goes_due caller map known effects due due2 (TellsNone none same) = inl same
goes_due caller map known effects due due2 (TellsRetired word was gone are) = inr gone
goes_due caller map known effects due due2 (TellsDeferred word block place t len was its gone table are) = inr gone

module _ {K V : Type 0} (same : K → K → Bool) (hash : ℕ → K → ℕ) (name : ℕ → List ℕ) (m : Moment K V) (known : Known) (s : Scene K V) (old new : Held K V) (at_old : IsAt same hash old s)
    (shown : Refines same name m known s) (rows : RowsReclaimNone s) (entries : EntriesAreBlank s) (owning : OwnAreMade known s.world) (map i : ℕ) (u : UnderWay K V K) (under_way : s.calls map i ≡ Some u)
    (said : Progress (Node K V)) (leads : StepLeads same hash i said s old new) (other : OfNoRow same hash name m known s old new at_old shown map i u under_way said leads u (leads map u under_way).4.did → ⊥) where
  abbrev to : WentTo same hash name m known s old new at_old shown map i u under_way said leads
  to = went_to same hash name m known s old new at_old shown map i u under_way said leads

  abbrev told : Changed
  told = new.changed

  abbrev effects : List Effect
  effects = effects_of (acts.Call i map) known told

  its_row : RowTells i map known effects (due_in_row (machine_of u)) (due_in_row to.1)
  its_row = rows_tell_due K V same hash name m known s old new at_old shown rows entries owning map i u under_way said leads other

  abbrev Goal : Machine K V K → Type 0
  Goal machine = ObligationsGo m effects (in_hand known (machine_of u)) (in_hand known machine) × NotesPending known machine × (to.4.next ≡ None → in_hand known machine ≡ [])

  -- of the machine that it has come to
  come_to : (machine : Machine K V K) → to.1 ≡ machine → KeepsBehind known (in_hand known (machine_of u)) (in_hand known machine) (due_in_row (machine_of u)) (due_in_row machine)
      → (GoesDue (due_in_row (machine_of u)) (due_in_row machine) → NotesPending known machine) → PutsPair m known effects (due_in_row (machine_of u))
      → (has_ended said ≡ true → in_hand known machine ≡ []) → Goal to.1
  come_to machine is behind notes puts ended =
      let row = subst (λ (z : Machine K V K). RowTells i map known effects (due_in_row (machine_of u)) (due_in_row z)) is its_row in
      subst Goal (sym is) (
        row_goes m known effects i map (in_hand known (machine_of u)) (in_hand known machine) (due_in_row (machine_of u)) (due_in_row machine) puts behind row,
        notes (goes_due i map known effects (due_in_row (machine_of u)) (due_in_row machine) row),
        λ none. ended (has_gone same hash name m known s old new at_old shown map i u under_way said leads none),
      )

  -- the step, as one of this kind's machine
  stepped : (x : UnderWay K V K) → u ≡ x → StepsFrom same to.0.hash (machine_of x) old new to.1 said
  stepped x is = subst (λ (y : UnderWay K V K). StepsFrom same to.0.hash (machine_of y) old new to.1 said) is to.3

  abbrev Keeps : UnderWay K V K → Machine K V K → Type 0
  Keeps x machine =
      KeepsBehind known (in_hand known (machine_of x)) (in_hand known machine) (due_in_row (machine_of x)) (due_in_row machine)
      × (GoesDue (due_in_row (machine_of x)) (due_in_row machine) → NotesPending known machine)

  of_kind : (x : UnderWay K V K) → u ≡ x → (machine : Machine K V K) → to.1 ≡ machine → Keeps x machine → PutsPair m known effects (due_in_row (machine_of x))
      → (has_ended said ≡ true → in_hand known machine ≡ []) → Goal to.1
  of_kind x is machine machine_is keeps puts ended =
      let its = subst (λ (y : UnderWay K V K). Keeps y machine) (sym is) keeps in
      come_to machine machine_is its.0 its.1 (subst (λ (y : UnderWay K V K). PutsPair m known effects (due_in_row (machine_of y))) (sym is) puts) ended

  key_goes : (x : CallOnKey K V K) → u ≡ OnKey x → IsRowOfCall x.call.stands → NotesPending known (machine_of u) → Goal to.1
  key_goes x is row noted =
      let notes = subst (λ (y : UnderWay K V K). NotesPending known (machine_of y)) is noted in
      let inner = told_in old.memory new.memory told of_key (call_plan same same to.0.hash x.call) (to.1, said) (stepped (OnKey x) is) in
      let keeps = always_steps (KeyKeeps known same same to.0.hash x.call x.call.stands) old.memory new.memory (call_plan same same to.0.hash x.call) inner.0
      (key_keeps known same same to.0.hash x.call x.call.stands row notes)
      (as_step old.memory changed.Nothing (call_plan same same to.0.hash x.call) new.memory told inner.0 inner.2) in
      of_kind (OnKey x) is (kinds.Key inner.0.0) (ap (λ (z : Machine K V K × Progress (Node K V)). z.0) inner.1) (keeps.0, keeps.1) (λ word place e. key_puts known x.call.stands notes word place e) (λ e. keeps.2 (sym (ap (λ (z : Machine K V K × Progress (Node K V)). has_ended z.1) inner.1) ∙ e))

  room_goes : (x : CallForRoom) → u ≡ ForRoom x → IsRowOfReserve x.reserve.stands → NotesPending known (machine_of u) → Goal to.1
  room_goes x is row noted =
      let notes = subst (λ (y : UnderWay K V K). NotesPending known (machine_of y)) is noted in
      let inner = told_in old.memory new.memory told of_room (reserve_plan to.0.hash x.reserve) (to.1, said) (stepped (ForRoom x) is) in
      let keeps = always_steps (RoomKeeps V known to.0.hash x.reserve x.reserve.stands) old.memory new.memory (reserve_plan to.0.hash x.reserve) inner.0
      (room_keeps V known to.0.hash x.reserve x.reserve.stands row notes) (as_step old.memory changed.Nothing (reserve_plan to.0.hash x.reserve) new.memory told inner.0 inner.2) in
      of_kind (ForRoom x) is (kinds.Reserve inner.0.0) (ap (λ (z : Machine K V K × Progress (Node K V)). z.0) inner.1) (keeps.0, keeps.1) (λ word place e. absurd (room_puts x.reserve.stands word place e)) (λ e. keeps.2 (sym (ap (λ (z : Machine K V K × Progress (Node K V)). has_ended z.1) inner.1) ∙ e))

  sweep_goes : (x : CallOverAll) → u ≡ OverAll x → IsRowOfSweep x.sweep.stands → NotesPending known (machine_of u) → Goal to.1
  sweep_goes x is row noted =
      let notes = subst (λ (y : UnderWay K V K). NotesPending known (machine_of y)) is noted in
      let inner = told_in old.memory new.memory told of_sweep (sweep_plan to.0.hash x.sweep) (to.1, said) (stepped (OverAll x) is) in
      let keeps = always_steps (SweepKeeps V known to.0.hash x.sweep x.sweep.stands) old.memory new.memory (sweep_plan to.0.hash x.sweep) inner.0
      (sweep_keeps V known to.0.hash x.sweep x.sweep.stands row notes) (as_step old.memory changed.Nothing (sweep_plan to.0.hash x.sweep) new.memory told inner.0 inner.2) in
      of_kind (OverAll x) is (kinds.Sweep inner.0.0) (ap (λ (z : Machine K V K × Progress (Node K V)). z.0) inner.1) (keeps.0, keeps.1) (λ word place e. sweep_puts known x.sweep.stands notes word place e) (λ e. keeps.2 (sym (ap (λ (z : Machine K V K × Progress (Node K V)). has_ended z.1) inner.1) ∙ e))

  pub row_hands : NotesPending known (machine_of u) → Goal to.1
  row_hands notes = by u refl to.4.did other
    where
      by : (x : UnderWay K V K) → u ≡ x → (did : DidSo same hash name m known s old new at_old shown map i u under_way said leads x)
          → (OfNoRow same hash name m known s old new at_old shown map i u under_way said leads x did → ⊥) → Goal to.1
      by (OnKey x) is (p2, end, machine_is, told_is, inl step) none = absurd (none tt)
      by (OnKey x) is (p2, end, machine_is, told_is, inr (row, stayed)) none = key_goes x is row.is_row notes
      by (ForRoom x) is (p2, end, machine_is, told_is, inl step) none = absurd (none tt)
      by (ForRoom x) is (p2, end, machine_is, told_is, inr (row, stayed)) none = room_goes x is row.is_row notes
      by (Counting x) is did none = absurd (none tt)
      by (OverAll x) is (p2, end, machine_is, told_is, inl step) none = absurd (none tt)
      by (OverAll x) is (p2, end, machine_is, told_is, inr (row, stayed)) none = sweep_goes x is row.is_row notes

pub rows_hand_over : (K V : Type 0) (same : K → K → Bool) (hash : ℕ → K → ℕ) → RowsHandOver K V same hash
rows_hand_over K V same hash name m known s old new at_old shown rows entries owning map i u here said leads notes other =
    row_hands same hash name m known s old new at_old shown rows entries owning map i u here said leads other notes

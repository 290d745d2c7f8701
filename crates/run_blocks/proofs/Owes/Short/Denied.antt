-- A machine that is to be refused asks for nothing any more: it stays so by each step, until it is.
use Rattle.std.specs.Prelude.{◌≡◌, ℕ, ◌==◌, Bool, false, Some, ◌⊎◌}
use Rattle.std.proofs.Common.{refl, ap, sym, subst, ◌∙◌, inl, inr}
use Rattle.run_debts.specs.Given.SeizeWordsMem.{Mem, value_at}
use Rattle.run_debts.specs.Given.SeizeWordsOp.{Out, Add, Found, Stored, Exchanged, Made, Taken, Roomed}
use Rattle.run_debts.specs.Given.SeizeWordsPlan.{Ends}
use Rattle.run_debts.specs.Given.SeizeWordsDeclared.at.At.{At}
use Rattle.run_debts.specs.Given.SeizeWordsDeclared.fault.Fault.{Fault}
use Rattle.run_debts.specs.Given.TablesDeclared.node.Node.{Node}
use Rattle.run_debts.specs.Given.TablesDeclared.table.Table.{Table as Planned}
use Rattle.owner_calls.specs.Given.ResizeCopier.{copier_plan}
use Rattle.owner_calls.specs.Given.ResizeCopier as copiers
use Rattle.owner_calls.specs.Given.ResizeDeclared.copier.Copier.{Copier}
use Rattle.owner_calls.specs.Given.ResizeDeclared.copier.Copying.{Copying}
use Rattle.owner_calls.specs.Given.ResizeDeclared.copier.Copying.TheVariants as copying
use Rattle.owner_calls.specs.Given.ResizeDeclared.yielding.Yielding.{Yielding}
use Rattle.owner_calls.specs.Given.ResizeDeclared.yielding.Yielding.TheVariants as outcome
use Rattle.owner_calls.specs.Given.ReservesReserve.{reserve_plan}
use Rattle.owner_calls.specs.Given.ReservesReserve as reserves
use Rattle.run_debts.specs.Given.ReservesDeclared.reserve.Reserve.{Reserve}
use Rattle.run_debts.specs.Given.ReservesDeclared.reserve.Reserving.{Reserving}
use Rattle.run_debts.specs.Given.ReservesDeclared.reserve.Reserving.TheVariants as reserving
use Rattle.owner_calls.specs.Given.SweepsSweep.{sweep_plan}
use Rattle.owner_calls.specs.Given.SweepsSweep as sweeps
use Rattle.run_debts.specs.Given.ReservesDeclared.sweep.Sweep.{Sweep}
use Rattle.run_debts.specs.Given.ReservesDeclared.sweep.Sweeping.{Sweeping}
use Rattle.run_debts.specs.Given.ReservesDeclared.sweep.Sweeping.TheVariants as sweeping
use Rattle.run_debts.specs.Given.ReservesDeclared.sweep.Swept.{Swept}
use Rattle.run_debts.specs.Given.ReservesDeclared.sweep.Swept.TheVariants as swept
use Rattle.owner_calls.specs.Given.RawCall.{call_plan, helped, copied, dropped}
use Rattle.owner_calls.specs.Given.RawCall as calls
use Rattle.run_debts.specs.Given.RawMachine.{machine_plan, called as of_key, reserved as of_room, swept as of_sweep}
use Rattle.owner_calls.specs.Given.RawProgress.{of_called, of_outcome, of_swept}
use Rattle.run_debts.specs.Given.RawDeclared.machines.answer.Called.{Called}
use Rattle.run_debts.specs.Given.RawDeclared.machines.answer.Called.TheVariants as called
use Rattle.run_debts.specs.Given.RawDeclared.machines.answer.End.TheVariants as ends
use Rattle.run_debts.specs.Given.RawDeclared.machines.call.Calling.{Calling}
use Rattle.run_debts.specs.Given.RawDeclared.machines.call.Calling.TheVariants as calling
use Rattle.run_debts.specs.Given.RawDeclared.machines.call.KeyCall.{KeyCall}
use Rattle.run_debts.specs.Given.RawDeclared.machines.machine.Machine.{Machine}
use Rattle.run_debts.specs.Given.RawDeclared.machines.machine.Machine.TheVariants as kinds
use Rattle.run_debts.specs.Given.RawDeclared.machines.progress.Progress.{Progress}
use Rattle.run_debts.specs.Given.RawDeclared.machines.progress.Progress.TheVariants as said_so
use Rattle.owner_calls.specs.Given.RawCallPoints.{going, ending}
use Rattle.run_debts.specs.Given.TellsSeen.{seen_of}
use Rattle.run_debts.specs.Given.TellerTells.{observed_of}
use Rattle.run_debts.specs.Given.EffectsDeclared.changed.Changed.{Changed}
use Rattle.run_debts.proofs.Given.OthersOutcomes.{told_in}
use Rattle.run_blocks.specs.Owes.Short.{fault_in_copying, fault_in_calling, fault_in_reserving, fault_in_sweeping, fault_of}
use Rattle.run_blocks.proofs.Owes.Short.Effects.{NoneAsked}
use Rattle.run_blocks.proofs.Owes.Tables.Hosts.{Step, KeyRefuses, RoomRefuses, SweepRefuses, key_refuses, copier_refused, going_as, room_refuses, whole_on, table_on}
use Rattle.run_blocks.specs.Owes.Making.{making_in_copying, making_in_calling}
use Rattle.run_debts.specs.Given.ScenesStepping.{has_ended}

-- it is refused, or has not ended
abbrev pub EndsSo : {T : Type 0} → Fault → Progress T → Type 0
EndsSo fault said = (said ≡ said_so.Refused fault) ⊎ (has_ended said ≡ false)

module _ {K V : Type 0} (m m2 : Mem (Node K V)) (told : Changed) where
  -- an addition asks for nothing
  add_none : (at : At) (by : ℕ) (out : Out (Node K V)) → NoneAsked (observed_of (Add at by) out (seen_of m (Add at by) out))
  add_none at by (Found before) = tt
  add_none at by Stored = tt
  add_none at by (Exchanged r) = tt
  add_none at by (Made r) = tt
  add_none at by (Taken value) = tt
  add_none at by (Roomed r) = tt

  none_as : (x : Changed) → told ≡ x → NoneAsked x → NoneAsked told
  none_as x is none = subst NoneAsked (sym is) none

  -- of a copier
  module _ (hash : K → ℕ) (c : Copier) (end : Copier × Yielding (Node K V) Planned) where
    abbrev CopierStays : Fault → Type 0
    CopierStays fault = NoneAsked told × (fault_in_copying end.0.stands ≡ Some fault) × ((end.1 ≡ outcome.Refused fault) ⊎ (end.1 ≡ outcome.Goes))

    to_point : (d : Copier × Yielding (Node K V) Planned) (fault : Fault) → NoneAsked told → end ≡ d → fault_in_copying d.0.stands ≡ Some fault → d.1 ≡ outcome.Goes → CopierStays fault
    to_point d fault none is has goes =
        (none, ap (λ (y : Copier × Yielding (Node K V) Planned). fault_in_copying y.0.stands) is ∙ has, inr (ap (λ (y : Copier × Yielding (Node K V) Planned). y.1) is ∙ goes))

    copier_at : (p : Copying) → c.stands ≡ p → (fault : Fault) → fault_in_copying p ≡ Some fault → Step m m2 told (copiers.plan_at hash c p) end → CopierStays fault
    copier_at (copying.Tallies word f) at_p fault is s = to_point _ fault (none_as _ s.1.1 (add_none _ _ s.0)) s.2 is refl
    copier_at (copying.Unmarks word f) at_p fault is s = to_point _ fault (none_as _ s.1.1 tt) s.2 is refl
    copier_at (copying.Unclaims f) at_p fault is s = to_point _ fault (none_as _ s.1.1 tt) s.2 is refl
    copier_at (copying.Refused f) at_p fault is s =
        let one : f ≡ fault = cc is in (
          none_as _ s.2 tt,
          ap (λ (y : Copier × Yielding (Node K V) Planned). fault_in_copying y.0.stands) s.1 ∙ ap fault_in_copying at_p ∙ is,
          inl (ap (λ (y : Copier × Yielding (Node K V) Planned). y.1) s.1 ∙ ap (λ (x : Fault). outcome.Refused x) one),
        )
    copier_at _ at_p fault is s = absurd (cc is)

    copier_stays : (fault : Fault) → fault_in_copying c.stands ≡ Some fault → Step m m2 told (copier_plan hash c) end → CopierStays fault
    copier_stays fault is s = copier_at c.stands refl fault is s

  -- of a call on one key
  module _ (asks : K → K → Bool) (same : K → K → Bool) (hash : K → ℕ) (p : KeyCall K V K) (end : KeyCall K V K × Called (Node K V)) where
    abbrev KeyStays : Fault → Type 0
    KeyStays fault = NoneAsked told × (fault_in_calling end.0.stands ≡ Some fault) × EndsSo fault (of_called end.1)

    -- refused, or going on
    ends_as : (fault : Fault) → (end.1 ≡ called.Refused fault) ⊎ (end.1 ≡ called.Goes) → EndsSo fault (of_called end.1)
    ends_as fault so = elim so as (λ _. EndsSo fault (of_called end.1)) [
      | inl e ↦ inl (ap of_called e)
      | inr e ↦ inr (ap (λ (x : Called (Node K V)). has_ended (of_called x)) e)
    ]

    as_refused : (fault : Fault) → NoneAsked told → KeyRefuses m m2 told asks same hash p end fault → KeyStays fault
    as_refused fault none so = (none, so.0, ends_as fault so.1)

    -- by its copier
    module _ (stands : Copier → Calling) (f : Copier × Yielding (Node K V) Planned → KeyCall K V K × Called (Node K V)) (goes : (c : Copier) → f (c, outcome.Goes) ≡ going p (stands c))
        (refused : (c : Copier) (fault : Fault) → f (c, outcome.Refused fault) ≡ ending p (ends.Refused fault))
        (making : (c : Copier) → making_in_calling (stands c) ≡ making_in_copying c.stands) (fault_is : (c : Copier) → fault_in_calling (stands c) ≡ fault_in_copying c.stands) where
      by_copier : (it : Copier × Yielding (Node K V) Planned) → end ≡ f it → (fault : Fault) → (it.1 ≡ outcome.Refused fault) ⊎ (it.1 ≡ outcome.Goes) → fault_in_copying it.0.stands ≡ Some fault
          → KeyRefuses m m2 told asks same hash p end fault
      by_copier it is fault (inl e) has =
          key_refuses m m2 told asks same hash p end fault (p.own == 0) (is ∙ ap (λ (y : Yielding (Node K V) Planned). f (it.0, y)) e ∙ refused it.0 fault)
      by_copier it is fault (inr e) has =
          copier_refused m m2 told asks same hash p end stands making fault_is it.0 (going_as m m2 told asks same hash p end stands f goes it is e) fault has

    -- its own block is taken away

    still_there : (f fault : Fault) → f ≡ fault → p.stands ≡ calling.Drops (ends.Refused f) → end ≡ (p, called.Goes) → (fault_in_calling end.0.stands ≡ Some fault) × EndsSo fault (of_called end.1)
    still_there f fault one at_q is = (
      ap (λ (y : KeyCall K V K × Called (Node K V)). fault_in_calling y.0.stands) is ∙ ap fault_in_calling at_q ∙ ap (λ (x : Fault). Some x) one,
      inr (ap (λ (y : KeyCall K V K × Called (Node K V)). has_ended (of_called y.1)) is),
    )

    dropped_so : (out : Out (Node K V)) (f fault : Fault) → f ≡ fault → p.stands ≡ calling.Drops (ends.Refused f) → Ends (value_at m2) (dropped p (ends.Refused f) out) end
        → (fault_in_calling end.0.stands ≡ Some fault) × EndsSo fault (of_called end.1)
    dropped_so (Taken node) f fault one at_q is = (
      ap (λ (y : KeyCall K V K × Called (Node K V)). fault_in_calling y.0.stands) is ∙ ap (λ (x : Fault). Some x) one,
      inr (ap (λ (y : KeyCall K V K × Called (Node K V)). has_ended (of_called y.1)) is),
    )
    dropped_so (Found found) f fault one at_q is = still_there f fault one at_q is
    dropped_so Stored f fault one at_q is = still_there f fault one at_q is
    dropped_so (Exchanged r) f fault one at_q is = still_there f fault one at_q is
    dropped_so (Made r) f fault one at_q is = still_there f fault one at_q is
    dropped_so (Roomed r) f fault one at_q is = still_there f fault one at_q is

    key_at : (q : Calling) → p.stands ≡ q → (fault : Fault) → fault_in_calling q ≡ Some fault → Step m m2 told (calls.plan_at asks same hash p q) end → KeyStays fault
    key_at (calling.Helps copier goal) at_q fault is s =
        let it = told_in m m2 told (helped p goal) (copier_plan hash copier) end s in
        let so = copier_stays hash copier it.0 fault is it.2 in
        as_refused fault so.0 (by_copier (λ c. calling.Helps c goal) (helped p goal) (λ c. refl) (λ c f. refl) (λ c. refl) (λ c. refl) it.0 it.1 fault so.2 so.1)
    key_at (calling.Copies copier) at_q fault is s =
        let it = told_in m m2 told (copied p) (copier_plan hash copier) end s in
        let so = copier_stays hash copier it.0 fault is it.2 in
        as_refused fault so.0 (by_copier (λ c. calling.Copies c) (copied p) (λ c. refl) (λ c f. refl) (λ c. refl) (λ c. refl) it.0 it.1 fault so.2 so.1)
    key_at (calling.Drops (ends.Refused f)) at_q fault is s =
        let one : f ≡ fault = cc is in let so = dropped_so s.0 f fault one at_q s.2 in (none_as _ s.1.1 tt, so.0, so.1)
    key_at (calling.Over (ends.Refused f)) at_q fault is s =
        let one : f ≡ fault = cc is in (
          none_as _ s.2 tt,
          ap (λ (y : KeyCall K V K × Called (Node K V)). fault_in_calling y.0.stands) s.1 ∙ ap fault_in_calling at_q ∙ is,
          inl (ap (λ (y : KeyCall K V K × Called (Node K V)). of_called y.1) s.1 ∙ ap (λ (x : Fault). said_so.Refused x) one),
        )
    key_at _ at_q fault is s = absurd (cc is)

    key_stays : (fault : Fault) → fault_in_calling p.stands ≡ Some fault → Step m m2 told (call_plan asks same hash p) end → KeyStays fault
    key_stays fault is s = key_at p.stands refl fault is s

  -- of a reservation
  module _ (hash : K → ℕ) (r : Reserve) (end : Reserve × Yielding (Node K V) Unit) where
    abbrev RoomStays : Fault → Type 0
    RoomStays fault = NoneAsked told × RoomRefuses m m2 told hash r end fault

    by_whole : (it : Copier × Yielding (Node K V) Planned) → end ≡ reserves.copied r it → (fault : Fault) → (it.1 ≡ outcome.Refused fault) ⊎ (it.1 ≡ outcome.Goes) → fault_in_copying it.0.stands ≡ Some fault
        → RoomRefuses m m2 told hash r end fault
    by_whole it is fault (inl e) has = room_refuses m m2 told hash r end fault (is ∙ ap (λ (y : Yielding (Node K V) Planned). reserves.copied r (it.0, y)) e)
    by_whole it is fault (inr e) has =
        let on = whole_on m m2 told hash r end it is e in
        (ap (λ (y : Reserve × Yielding (Node K V) Unit). fault_in_reserving y.0.stands) on ∙ has, inr (ap (λ (y : Reserve × Yielding (Node K V) Unit). y.1) on))

    room_at : (q : Reserving) → r.stands ≡ q → (fault : Fault) → fault_in_reserving q ≡ Some fault → Step m m2 told (reserves.plan_at hash r q) end → RoomStays fault
    room_at (reserving.Copies copier) at_q fault is s =
        let it = told_in m m2 told (reserves.copied r) (copier_plan hash copier) end s in
        let so = copier_stays hash copier it.0 fault is it.2 in (so.0, by_whole it.0 it.1 fault so.2 so.1)
    room_at (reserving.Refused f) at_q fault is s =
        let one : f ≡ fault = cc is in (
          none_as _ s.2 tt,
          (
            ap (λ (y : Reserve × Yielding (Node K V) Unit). fault_in_reserving y.0.stands) s.1 ∙ ap fault_in_reserving at_q ∙ is,
            inl (ap (λ (y : Reserve × Yielding (Node K V) Unit). y.1) s.1 ∙ ap (λ (x : Fault). outcome.Refused x) one),
          ),
        )
    room_at _ at_q fault is s = absurd (cc is)

    room_stays : (fault : Fault) → fault_in_reserving r.stands ≡ Some fault → Step m m2 told (reserve_plan hash r) end → RoomStays fault
    room_stays fault is s = room_at r.stands refl fault is s

  -- of a sweep
  module _ (hash : K → ℕ) (c : Sweep) (end : Sweep × Swept (Node K V)) where
    abbrev SweepStays : Fault → Type 0
    SweepStays fault = NoneAsked told × SweepRefuses m m2 told hash c end fault

    by_table : (it : Copier × Yielding (Node K V) Planned) → end ≡ sweeps.copied c it → (fault : Fault) → (it.1 ≡ outcome.Refused fault) ⊎ (it.1 ≡ outcome.Goes) → fault_in_copying it.0.stands ≡ Some fault
        → SweepRefuses m m2 told hash c end fault
    by_table it is fault (inl e) has =
        let over = is ∙ ap (λ (y : Yielding (Node K V) Planned). sweeps.copied c (it.0, y)) e in
        (ap (λ (y : Sweep × Swept (Node K V)). fault_in_sweeping y.0.stands) over, inl (ap (λ (y : Sweep × Swept (Node K V)). y.1) over))
    by_table it is fault (inr e) has =
        let on = table_on m m2 told hash c end it is e in
        (ap (λ (y : Sweep × Swept (Node K V)). fault_in_sweeping y.0.stands) on ∙ has, inr (ap (λ (y : Sweep × Swept (Node K V)). y.1) on))

    sweep_at : (q : Sweeping) → c.stands ≡ q → (fault : Fault) → fault_in_sweeping q ≡ Some fault → Step m m2 told (sweeps.plan_at hash c q) end → SweepStays fault
    sweep_at (sweeping.Copies copier) at_q fault is s =
        let it = told_in m m2 told (sweeps.copied c) (copier_plan hash copier) end s in
        let so = copier_stays hash copier it.0 fault is it.2 in (so.0, by_table it.0 it.1 fault so.2 so.1)
    sweep_at (sweeping.Refused f) at_q fault is s =
        let one : f ≡ fault = cc is in (
          none_as _ s.2 tt,
          (
            ap (λ (y : Sweep × Swept (Node K V)). fault_in_sweeping y.0.stands) s.1 ∙ ap fault_in_sweeping at_q ∙ is,
            inl (ap (λ (y : Sweep × Swept (Node K V)). y.1) s.1 ∙ ap (λ (x : Fault). swept.Refused x) one),
          ),
        )
    sweep_at _ at_q fault is s = absurd (cc is)

    sweep_stays : (fault : Fault) → fault_in_sweeping c.stands ≡ Some fault → Step m m2 told (sweep_plan hash c) end → SweepStays fault
    sweep_stays fault is s = sweep_at c.stands refl fault is s

  -- of a call, whichever it is
  module _ (asks : K → K → Bool) (same : K → K → Bool) (hash : K → ℕ) (machine : Machine K V K) (said : Progress (Node K V)) where
    abbrev pub MachineStays : Fault → Type 0
    MachineStays fault = NoneAsked told × (fault_of machine ≡ Some fault) × EndsSo fault said

    stays_as : (y : Machine K V K) (z : Progress (Node K V)) (fault : Fault) → ◌≡◌ {A = Machine K V K × Progress (Node K V)} (machine, said) (y, z) → NoneAsked told → fault_of y ≡ Some fault
        → EndsSo fault z → MachineStays fault
    stays_as y z fault is none has ends_so = (
      none,
      ap (λ (q : Machine K V K × Progress (Node K V)). fault_of q.0) is ∙ has,
      subst (EndsSo fault) (sym (ap (λ (q : Machine K V K × Progress (Node K V)). q.1) is)) ends_so,
    )

    -- refused, or going on
    room_ends : (o : Yielding (Node K V) Unit) (fault : Fault) → (o ≡ outcome.Refused fault) ⊎ (o ≡ outcome.Goes) → EndsSo fault (of_outcome o)
    room_ends o fault (inl e) = inl (ap of_outcome e)
    room_ends o fault (inr e) = inr (ap (λ (x : Yielding (Node K V) Unit). has_ended (of_outcome x)) e)

    sweep_ends : (o : Swept (Node K V)) (fault : Fault) → (o ≡ swept.Refused fault) ⊎ (o ≡ swept.Goes) → EndsSo fault (of_swept o)
    sweep_ends o fault (inl e) = inl (ap of_swept e)
    sweep_ends o fault (inr e) = inr (ap (λ (x : Swept (Node K V)). has_ended (of_swept x)) e)

    pub machine_stays : (before : Machine K V K) (fault : Fault) → fault_of before ≡ Some fault → Step m m2 told (machine_plan asks same hash before) (machine, said) → MachineStays fault
    machine_stays (kinds.Key p) fault is s =
        let it = told_in m m2 told of_key (call_plan asks same hash p) (machine, said) s in
        let so = key_stays asks same hash p it.0 fault is it.2 in stays_as (kinds.Key it.0.0) (of_called it.0.1) fault it.1 so.0 so.1 so.2
    machine_stays (kinds.Reserve r) fault is s =
        let it = told_in m m2 told of_room (reserve_plan hash r) (machine, said) s in
        let so = room_stays hash r it.0 fault is it.2 in stays_as (kinds.Reserve it.0.0) (of_outcome it.0.1) fault it.1 so.0 so.1.0 (room_ends it.0.1 fault so.1.1)
    machine_stays (kinds.Sweep c) fault is s =
        let it = told_in m m2 told of_sweep (sweep_plan hash c) (machine, said) s in
        let so = sweep_stays hash c it.0 fault is it.2 in stays_as (kinds.Sweep it.0.0) (of_swept it.0.1) fault it.1 so.0 so.1.0 (sweep_ends it.0.1 fault so.1.1)
    machine_stays (kinds.Count sum) fault is s = absurd (cc is)

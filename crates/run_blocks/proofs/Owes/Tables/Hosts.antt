-- A step of a call, or of the making of a map, that is one of the making of a table within it: it goes on with that making.
use Rattle.std.specs.Prelude.{◌≡◌, ℕ, Bool, Option, Some, ◌==◌, true, false, ◌⊎◌, if◌then◌else◌}
use Rattle.std.proofs.Common.{refl, ap, subst, ◌∙◌, inl, inr}
use Rattle.run_debts.specs.Given.SeizeWordsMem.{Mem}
use Rattle.run_debts.specs.Given.SeizeWordsPlan.{Plan}
use Rattle.run_debts.specs.Given.SeizeWordsDeclared.fault.Fault.{Fault}
use Rattle.run_debts.specs.Given.SeizeDeclared.advance.Advance.{Advance as Counting}
use Rattle.run_debts.specs.Given.SeizeDeclared.advance.Advance.TheVariants as progress
use Rattle.run_debts.specs.Given.TablesDeclared.node.Node.{Node}
use Rattle.run_debts.specs.Given.TablesDeclared.table.Table.{Table as Planned}
use Rattle.run_debts.specs.Given.TablesDeclared.setting.Setting.{Setting}
use Rattle.owner_calls.specs.Given.ResizeCopier.{copier_plan}
use Rattle.owner_calls.specs.Given.ResizeCopier as copiers
use Rattle.owner_calls.specs.Given.ResizeCopierFurther.{grown, remade}
use Rattle.owner_calls.specs.Given.ResizeNewTable.{new_table_plan}
use Rattle.owner_calls.specs.Given.ResizeDeclared.copier.Copier.{Copier}
use Rattle.owner_calls.specs.Given.ResizeDeclared.copier.Copying.{Copying}
use Rattle.owner_calls.specs.Given.ResizeDeclared.copier.Copying.TheVariants as copying
use Rattle.owner_calls.specs.Given.ResizeDeclared.new_table.NewTable.{NewTable}
use Rattle.owner_calls.specs.Given.ResizeDeclared.yielding.Yielding.{Yielding}
use Rattle.owner_calls.specs.Given.ResizeDeclared.yielding.Yielding.TheVariants as outcome
use Rattle.run_debts.specs.Given.ResizeNewMap as new_map
use Rattle.owner_calls.specs.Given.ResizeDeclared.new_map.NewMap.{NewMap}
use Rattle.owner_calls.specs.Given.ResizeDeclared.new_map.Opening.{Opening}
use Rattle.owner_calls.specs.Given.ResizeDeclared.new_map.Opening.TheVariants as opening
use Rattle.owner_calls.specs.Given.ResizeCopierStates as copiers_at
use Rattle.owner_calls.specs.Given.ReservesReserve.{reserve_plan}
use Rattle.owner_calls.specs.Given.ReservesReserve as reserves
use Rattle.run_debts.specs.Given.ReservesDeclared.reserve.Reserve.{Reserve}
use Rattle.run_debts.specs.Given.ReservesDeclared.reserve.Reserving.{Reserving}
use Rattle.run_debts.specs.Given.ReservesDeclared.reserve.Reserving.TheVariants as reserving
use Rattle.owner_calls.specs.Given.SweepsSweep.{sweep_plan}
use Rattle.owner_calls.specs.Given.SweepsSweep as sweeps
use Rattle.run_debts.specs.Given.ReservesDeclared.sweep.Sweep.{Sweep}
use Rattle.run_debts.specs.Given.ReservesDeclared.sweep.Sweeping.{Sweeping}
use Rattle.run_debts.specs.Given.ReservesDeclared.sweep.Sweeping.TheVariants as sweeping
use Rattle.run_debts.specs.Given.ReservesDeclared.sweep.Swept.{Swept}
use Rattle.run_debts.specs.Given.ReservesDeclared.sweep.Swept.TheVariants as swept
use Rattle.owner_calls.specs.Given.SweepsSweepPoints as sweeps_at
use Rattle.owner_calls.specs.Given.RawCall.{call_plan, first_made, next_made, helped, copied}
use Rattle.owner_calls.specs.Given.RawCall as calls
use Rattle.run_debts.specs.Given.RawMachine.{machine_plan, called as of_key, reserved as of_room, swept as of_sweep}
use Rattle.owner_calls.specs.Given.RawProgress.{of_called, of_outcome, of_swept}
use Rattle.run_debts.specs.Given.RawDeclared.machines.answer.Called.{Called}
use Rattle.run_debts.specs.Given.RawDeclared.machines.answer.Called.TheVariants as called
use Rattle.run_debts.specs.Given.RawDeclared.machines.call.Calling.{Calling}
use Rattle.run_debts.specs.Given.RawDeclared.machines.call.Calling.TheVariants as calling
use Rattle.run_debts.specs.Given.RawDeclared.machines.call.KeyCall.{KeyCall}
use Rattle.run_debts.specs.Given.RawDeclared.machines.machine.Machine.{Machine}
use Rattle.run_debts.specs.Given.RawDeclared.machines.machine.Machine.TheVariants as kinds
use Rattle.run_debts.specs.Given.RawDeclared.machines.progress.Progress.{Progress}
use Rattle.run_debts.specs.Given.RawDeclared.machines.progress.Progress.TheVariants as said_so
use Rattle.owner_calls.specs.Given.RawCallPoints.{over, going}
use Rattle.run_debts.specs.Given.RawDeclared.machines.answer.End.TheVariants as ends
use Rattle.run_debts.specs.Given.TellerTells.{StepsObserved}
use Rattle.run_debts.specs.Given.EffectsDeclared.changed.Changed.{Changed}
use Rattle.run_debts.specs.Given.EffectsDeclared.changed.Changed.TheVariants as changed
use Rattle.run_debts.proofs.Given.OthersOutcomes.{told_in}
use Rattle.run_blocks.specs.Owes.Making.{making_of, making_in_copying, making_in_calling, making_in_reserving, making_in_sweeping, making_in_opening}
use Rattle.run_blocks.specs.Owes.Short.{fault_in_copying, fault_in_calling, fault_in_reserving, fault_in_sweeping, fault_of}

-- one of two, as what it stands for
pub either : {A B : Type 0} (f : A → B) (x y : A) {z : A} → (z ≡ x) ⊎ (z ≡ y) → (f z ≡ f x) ⊎ (f z ≡ f y)
either f x y {z} so = elim so as (λ _. (f z ≡ f x) ⊎ (f z ≡ f y)) [
  | inl e ↦ inl (ap f e)
  | inr e ↦ inr (ap f e)
]

module _ {K V : Type 0} (m m2 : Mem (Node K V)) (told : Changed) where
  abbrev pub Step : {R : Type 0} → Plan (Node K V) R → R → Type 0
  Step {R} plan end = StepsObserved K V R m changed.Nothing plan m2 told end

  -- the step was one of this making: where that goes on, it is so of what the making has come to, and where it is refused, so of the fault
  abbrev pub LeadsTo : (NewTable → Type 0) → (Fault → Type 0) → NewTable × Counting Planned → Type 0
  LeadsTo P R e = (e.1 ≡ progress.Goes → P e.0) × ((fault : Fault) → e.1 ≡ progress.Refused fault → R fault)

  abbrev pub Within : NewTable → (NewTable → Type 0) → (Fault → Type 0) → Type 0
  Within n P R = (e : NewTable × Counting Planned) × Step (new_table_plan n) e × LeadsTo P R e

  within : (k n : NewTable) (P : NewTable → Type 0) (R : Fault → Type 0) → ◌≡◌ {A = Option NewTable} (Some k) (Some n) → Within k P R → Within n P R
  within k n P R is so = let same : k ≡ n = cc is in subst (λ (x : NewTable). Within x P R) same so

  -- neither
  done_so : (P : NewTable → Type 0) (R : Fault → Type 0) (x : NewTable) (t : Planned) → LeadsTo P R (x, progress.Done t)
  done_so P R x t = (λ e. absurd (cc e), λ fault e. absurd (cc e))

  waits_so : (P : NewTable → Type 0) (R : Fault → Type 0) (x : NewTable) → LeadsTo P R (x, progress.Waits)
  waits_so P R x = (λ e. absurd (cc e), λ fault e. absurd (cc e))

  goes_so : (P : NewTable → Type 0) (R : Fault → Type 0) (x : NewTable) → P x → LeadsTo P R (x, progress.Goes)
  goes_so P R x so = (λ e. so, λ fault e. absurd (cc e))

  refused_so : (P : NewTable → Type 0) (R : Fault → Type 0) (x : NewTable) (f : Fault) → R f → LeadsTo P R (x, progress.Refused f)
  refused_so P R x f so = (λ e. absurd (cc e), λ fault is. let one : f ≡ fault = cc is in subst R one so)

  -- of a copier
  module _ (hash : K → ℕ) (c : Copier) (end : Copier × Yielding (Node K V) Planned) where
    abbrev CopierGoes : NewTable → Type 0
    CopierGoes x = (making_in_copying end.0.stands ≡ Some x) × (end.1 ≡ outcome.Goes)

    abbrev CopierRefuses : Fault → Type 0
    CopierRefuses fault = (fault_in_copying end.0.stands ≡ Some fault) × (end.1 ≡ outcome.Goes)

    copier_goes : (d : Copier × Yielding (Node K V) Planned) (x : NewTable) → end ≡ d → making_in_copying d.0.stands ≡ Some x → d.1 ≡ outcome.Goes → CopierGoes x
    copier_goes d x is making goes =
        (ap (λ (y : Copier × Yielding (Node K V) Planned). making_in_copying y.0.stands) is ∙ making, ap (λ (y : Copier × Yielding (Node K V) Planned). y.1) is ∙ goes)

    copier_refuses : (d : Copier × Yielding (Node K V) Planned) (fault : Fault) → end ≡ d → fault_in_copying d.0.stands ≡ Some fault → d.1 ≡ outcome.Goes → CopierRefuses fault
    copier_refuses d fault is refused goes =
        (ap (λ (y : Copier × Yielding (Node K V) Planned). fault_in_copying y.0.stands) is ∙ refused, ap (λ (y : Copier × Yielding (Node K V) Planned). y.1) is ∙ goes)

    -- it gives its mark back, having told what it has done, if anything
    refusing_fault : (word : ℕ) (fault : Fault) (q : Bool) → fault_in_copying (if q then copiers_at.standing c (copying.Unmarks word fault) else copiers_at.standing c (copying.Tallies word fault)).stands ≡ Some fault
    refusing_fault word fault true = refl
    refusing_fault word fault false = refl

    grown_so : (word code : ℕ) (e : NewTable × Counting Planned) → end ≡ grown c word code e → LeadsTo CopierGoes CopierRefuses e
    grown_so word code (x, progress.Goes) is = goes_so CopierGoes CopierRefuses x (copier_goes _ x is refl refl)
    grown_so word code (x, progress.Waits) is = waits_so CopierGoes CopierRefuses x
    grown_so word code (x, progress.Done t) is = done_so CopierGoes CopierRefuses x t
    grown_so word code (x, progress.Refused f) is = refused_so CopierGoes CopierRefuses x f (copier_refuses _ f is (refusing_fault word f (c.done == 0)) refl)

    remade_so : (e : NewTable × Counting Planned) → end ≡ remade c e → LeadsTo CopierGoes CopierRefuses e
    remade_so (x, progress.Goes) is = goes_so CopierGoes CopierRefuses x (copier_goes _ x is refl refl)
    remade_so (x, progress.Waits) is = waits_so CopierGoes CopierRefuses x
    remade_so (x, progress.Done t) is = done_so CopierGoes CopierRefuses x t
    remade_so (x, progress.Refused f) is = refused_so CopierGoes CopierRefuses x f (copier_refuses _ f is refl refl)

    copier_at : (p : Copying) (n : NewTable) → making_in_copying p ≡ Some n → Step (copiers.plan_at hash c p) end → Within n CopierGoes CopierRefuses
    copier_at (copying.Grows word code k) n is s =
        let it = told_in m m2 told (grown c word code) (new_table_plan k) end s in within k n CopierGoes CopierRefuses is (it.0, it.2, grown_so word code it.0 it.1)
    copier_at (copying.Remakes k) n is s = let it = told_in m m2 told (remade c) (new_table_plan k) end s in within k n CopierGoes CopierRefuses is (it.0, it.2, remade_so it.0 it.1)
    copier_at _ n is s = absurd (cc is)

    copier_within : (n : NewTable) → making_in_copying c.stands ≡ Some n → Step (copier_plan hash c) end → Within n CopierGoes CopierRefuses
    copier_within n is s = copier_at c.stands n is s

  -- of a call on one key
  module _ (asks : K → K → Bool) (same : K → K → Bool) (hash : K → ℕ) (p : KeyCall K V K) (end : KeyCall K V K × Called (Node K V)) where
    abbrev pub KeyGoes : NewTable → Type 0
    KeyGoes x = (making_in_calling end.0.stands ≡ Some x) × (end.1 ≡ called.Goes)

    -- it is refused, or goes on to be
    abbrev pub KeyRefuses : Fault → Type 0
    KeyRefuses fault = (fault_in_calling end.0.stands ≡ Some fault) × ((end.1 ≡ called.Refused fault) ⊎ (end.1 ≡ called.Goes))

    key_goes : (d : KeyCall K V K × Called (Node K V)) (x : NewTable) → end ≡ d → making_in_calling d.0.stands ≡ Some x → d.1 ≡ called.Goes → KeyGoes x
    key_goes d x is making goes = (ap (λ (y : KeyCall K V K × Called (Node K V)). making_in_calling y.0.stands) is ∙ making, ap (λ (y : KeyCall K V K × Called (Node K V)). y.1) is ∙ goes)

    pub key_refuses : (fault : Fault) (q : Bool) → end ≡ (if q then over p (ends.Refused fault) else going p (calling.Drops (ends.Refused fault))) → KeyRefuses fault
    key_refuses fault true is =
        (ap (λ (y : KeyCall K V K × Called (Node K V)). fault_in_calling y.0.stands) is, inl (ap (λ (y : KeyCall K V K × Called (Node K V)). y.1) is))
    key_refuses fault false is =
        (ap (λ (y : KeyCall K V K × Called (Node K V)). fault_in_calling y.0.stands) is, inr (ap (λ (y : KeyCall K V K × Called (Node K V)). y.1) is))

    first_so : (e : NewTable × Counting Planned) → end ≡ first_made p e → LeadsTo KeyGoes KeyRefuses e
    first_so (x, progress.Goes) is = goes_so KeyGoes KeyRefuses x (key_goes _ x is refl refl)
    first_so (x, progress.Waits) is = waits_so KeyGoes KeyRefuses x
    first_so (x, progress.Done t) is = done_so KeyGoes KeyRefuses x t
    first_so (x, progress.Refused f) is = refused_so KeyGoes KeyRefuses x f (key_refuses f (p.own == 0) is)

    next_so : (e : NewTable × Counting Planned) → end ≡ next_made p e → LeadsTo KeyGoes KeyRefuses e
    next_so (x, progress.Goes) is = goes_so KeyGoes KeyRefuses x (key_goes _ x is refl refl)
    next_so (x, progress.Waits) is = waits_so KeyGoes KeyRefuses x
    next_so (x, progress.Done t) is = done_so KeyGoes KeyRefuses x t
    next_so (x, progress.Refused f) is = refused_so KeyGoes KeyRefuses x f (key_refuses f (p.own == 0) is)

    -- its copier goes on
    module _ (stands : Copier → Calling) (making : (c : Copier) → making_in_calling (stands c) ≡ making_in_copying c.stands) (refused : (c : Copier) → fault_in_calling (stands c) ≡ fault_in_copying c.stands) where
      copier_on : (c : Copier) → end ≡ going p (stands c) → (x : NewTable) → making_in_copying c.stands ≡ Some x → KeyGoes x
      copier_on c is x has = key_goes _ x is (making c ∙ has) refl

      pub copier_refused : (c : Copier) → end ≡ going p (stands c) → (fault : Fault) → fault_in_copying c.stands ≡ Some fault → KeyRefuses fault
      copier_refused c is fault has =
          (ap (λ (y : KeyCall K V K × Called (Node K V)). fault_in_calling y.0.stands) is ∙ refused c ∙ has, inr (ap (λ (y : KeyCall K V K × Called (Node K V)). y.1) is))

    pub going_as : (stands : Copier → Calling) (f : Copier × Yielding (Node K V) Planned → KeyCall K V K × Called (Node K V)) → ((c : Copier) → f (c, outcome.Goes) ≡ going p (stands c))
        → (it : Copier × Yielding (Node K V) Planned) → end ≡ f it → it.1 ≡ outcome.Goes → end ≡ going p (stands it.0)
    going_as stands f so (c, o) is goes = is ∙ ap (λ (y : Yielding (Node K V) Planned). f (c, y)) goes ∙ so c

    key_at : (q : Calling) (n : NewTable) → making_in_calling q ≡ Some n → Step (calls.plan_at asks same hash p q) end → Within n KeyGoes KeyRefuses
    key_at (calling.Firsts k) n is s = let it = told_in m m2 told (first_made p) (new_table_plan k) end s in within k n KeyGoes KeyRefuses is (it.0, it.2, first_so it.0 it.1)
    key_at (calling.Allocs k) n is s = let it = told_in m m2 told (next_made p) (new_table_plan k) end s in within k n KeyGoes KeyRefuses is (it.0, it.2, next_so it.0 it.1)
    key_at (calling.Helps copier goal) n is s =
        let it = told_in m m2 told (helped p goal) (copier_plan hash copier) end s in
        let inner = copier_within hash copier it.0 n is it.2 in
        let on = going_as (λ c. calling.Helps c goal) (helped p goal) (λ c. refl) it.0 it.1 in (
          inner.0,
          inner.1,
          (
            λ goes. let so = inner.2.0 goes in copier_on (λ c. calling.Helps c goal) (λ c. refl) (λ c. refl) it.0.0 (on so.1) inner.0.0 so.0,
            λ fault goes. let so = inner.2.1 fault goes in copier_refused (λ c. calling.Helps c goal) (λ c. refl) (λ c. refl) it.0.0 (on so.1) fault so.0,
          ),
        )
    key_at (calling.Copies copier) n is s =
        let it = told_in m m2 told (copied p) (copier_plan hash copier) end s in
        let inner = copier_within hash copier it.0 n is it.2 in
        let on = going_as (λ c. calling.Copies c) (copied p) (λ c. refl) it.0 it.1 in (
          inner.0,
          inner.1,
          (
            λ goes. let so = inner.2.0 goes in copier_on (λ c. calling.Copies c) (λ c. refl) (λ c. refl) it.0.0 (on so.1) inner.0.0 so.0,
            λ fault goes. let so = inner.2.1 fault goes in copier_refused (λ c. calling.Copies c) (λ c. refl) (λ c. refl) it.0.0 (on so.1) fault so.0,
          ),
        )
    key_at _ n is s = absurd (cc is)

    pub key_within : (n : NewTable) → making_in_calling p.stands ≡ Some n → Step (call_plan asks same hash p) end → Within n KeyGoes KeyRefuses
    key_within n is s = key_at p.stands n is s

  -- of a reservation
  module _ (hash : K → ℕ) (r : Reserve) (end : Reserve × Yielding (Node K V) Unit) where
    abbrev pub RoomGoes : NewTable → Type 0
    RoomGoes x = (making_in_reserving end.0.stands ≡ Some x) × (end.1 ≡ outcome.Goes)

    abbrev pub RoomRefuses : Fault → Type 0
    RoomRefuses fault = (fault_in_reserving end.0.stands ≡ Some fault) × ((end.1 ≡ outcome.Refused fault) ⊎ (end.1 ≡ outcome.Goes))

    room_goes : (d : Reserve × Yielding (Node K V) Unit) (x : NewTable) → end ≡ d → making_in_reserving d.0.stands ≡ Some x → d.1 ≡ outcome.Goes → RoomGoes x
    room_goes d x is making goes = (ap (λ (y : Reserve × Yielding (Node K V) Unit). making_in_reserving y.0.stands) is ∙ making, ap (λ (y : Reserve × Yielding (Node K V) Unit). y.1) is ∙ goes)

    pub room_refuses : (fault : Fault) → end ≡ reserves.refusing r fault → RoomRefuses fault
    room_refuses fault is = (ap (λ (y : Reserve × Yielding (Node K V) Unit). fault_in_reserving y.0.stands) is, inl (ap (λ (y : Reserve × Yielding (Node K V) Unit). y.1) is))

    made_so : (e : NewTable × Counting Planned) → end ≡ reserves.made r e → LeadsTo RoomGoes RoomRefuses e
    made_so (x, progress.Goes) is = goes_so RoomGoes RoomRefuses x (room_goes _ x is refl refl)
    made_so (x, progress.Waits) is = waits_so RoomGoes RoomRefuses x
    made_so (x, progress.Done t) is = done_so RoomGoes RoomRefuses x t
    made_so (x, progress.Refused f) is = refused_so RoomGoes RoomRefuses x f (room_refuses f is)

    more_so : (t : Planned) (e : NewTable × Counting Planned) → end ≡ reserves.grown r t e → LeadsTo RoomGoes RoomRefuses e
    more_so t (x, progress.Goes) is = goes_so RoomGoes RoomRefuses x (room_goes _ x is refl refl)
    more_so t (x, progress.Waits) is = waits_so RoomGoes RoomRefuses x
    more_so t (x, progress.Done u) is = done_so RoomGoes RoomRefuses x u
    more_so t (x, progress.Refused f) is = refused_so RoomGoes RoomRefuses x f (room_refuses f is)

    pub whole_on : (it : Copier × Yielding (Node K V) Planned) → end ≡ reserves.copied r it → it.1 ≡ outcome.Goes → end ≡ (reserves.standing r (reserving.Copies it.0), outcome.Goes)
    whole_on (c, o) is goes = is ∙ ap (λ (y : Yielding (Node K V) Planned). reserves.copied r (c, y)) goes

    room_at : (q : Reserving) (n : NewTable) → making_in_reserving q ≡ Some n → Step (reserves.plan_at hash r q) end → Within n RoomGoes RoomRefuses
    room_at (reserving.Makes k) n is s = let it = told_in m m2 told (reserves.made r) (new_table_plan k) end s in within k n RoomGoes RoomRefuses is (it.0, it.2, made_so it.0 it.1)
    room_at (reserving.Grows t k) n is s = let it = told_in m m2 told (reserves.grown r t) (new_table_plan k) end s in within k n RoomGoes RoomRefuses is (it.0, it.2, more_so t it.0 it.1)
    room_at (reserving.Copies copier) n is s =
        let it = told_in m m2 told (reserves.copied r) (copier_plan hash copier) end s in
        let inner = copier_within hash copier it.0 n is it.2 in (
          inner.0,
          inner.1,
          (
            λ goes. let so = inner.2.0 goes in room_goes _ inner.0.0 (whole_on it.0 it.1 so.1) so.0 refl,
            λ fault goes.
                let so = inner.2.1 fault goes in
                let is_on = whole_on it.0 it.1 so.1 in
                (ap (λ (y : Reserve × Yielding (Node K V) Unit). fault_in_reserving y.0.stands) is_on ∙ so.0, inr (ap (λ (y : Reserve × Yielding (Node K V) Unit). y.1) is_on)),
          ),
        )
    room_at _ n is s = absurd (cc is)

    pub room_within : (n : NewTable) → making_in_reserving r.stands ≡ Some n → Step (reserve_plan hash r) end → Within n RoomGoes RoomRefuses
    room_within n is s = room_at r.stands n is s

  -- of a sweep
  module _ (hash : K → ℕ) (c : Sweep) (end : Sweep × Swept (Node K V)) where
    abbrev pub SweepGoes : NewTable → Type 0
    SweepGoes x = (making_in_sweeping end.0.stands ≡ Some x) × (end.1 ≡ swept.Goes)

    abbrev pub SweepRefuses : Fault → Type 0
    SweepRefuses fault = (fault_in_sweeping end.0.stands ≡ Some fault) × ((end.1 ≡ swept.Refused fault) ⊎ (end.1 ≡ swept.Goes))

    pub table_on : (it : Copier × Yielding (Node K V) Planned) → end ≡ sweeps.copied c it → it.1 ≡ outcome.Goes → end ≡ sweeps_at.going c (sweeping.Copies it.0)
    table_on (x, o) is goes = is ∙ ap (λ (y : Yielding (Node K V) Planned). sweeps.copied c (x, y)) goes

    sweep_at : (q : Sweeping) (n : NewTable) → making_in_sweeping q ≡ Some n → Step (sweeps.plan_at hash c q) end → Within n SweepGoes SweepRefuses
    sweep_at (sweeping.Copies copier) n is s =
        let it = told_in m m2 told (sweeps.copied c) (copier_plan hash copier) end s in
        let inner = copier_within hash copier it.0 n is it.2 in (
          inner.0,
          inner.1,
          (
            λ goes.
                let so = inner.2.0 goes in
                let is_on = table_on it.0 it.1 so.1 in
                (ap (λ (y : Sweep × Swept (Node K V)). making_in_sweeping y.0.stands) is_on ∙ so.0, ap (λ (y : Sweep × Swept (Node K V)). y.1) is_on),
            λ fault goes.
                let so = inner.2.1 fault goes in
                let is_on = table_on it.0 it.1 so.1 in
                (ap (λ (y : Sweep × Swept (Node K V)). fault_in_sweeping y.0.stands) is_on ∙ so.0, inr (ap (λ (y : Sweep × Swept (Node K V)). y.1) is_on)),
          ),
        )
    sweep_at _ n is s = absurd (cc is)

    pub sweep_within : (n : NewTable) → making_in_sweeping c.stands ≡ Some n → Step (sweep_plan hash c) end → Within n SweepGoes SweepRefuses
    sweep_within n is s = sweep_at c.stands n is s

  -- of the making of a map
  module _ (c : NewMap) (end : NewMap × Counting Setting) where
    abbrev pub OpeningGoes : NewTable → Type 0
    OpeningGoes x = (making_in_opening end.0.stands ≡ Some x) × (end.1 ≡ progress.Goes)

    abbrev pub Any : Fault → Type 0
    Any fault = Unit {0}

    opened_so : (e : NewTable × Counting Planned) → end ≡ new_map.opened c e → LeadsTo OpeningGoes Any e
    opened_so (x, progress.Goes) is =
        goes_so OpeningGoes Any x (ap (λ (y : NewMap × Counting Setting). making_in_opening y.0.stands) is, ap (λ (y : NewMap × Counting Setting). y.1) is)
    opened_so (x, progress.Waits) is = waits_so OpeningGoes Any x
    opened_so (x, progress.Done t) is = done_so OpeningGoes Any x t
    opened_so (x, progress.Refused f) is = refused_so OpeningGoes Any x f tt

    opening_at : (p : Opening) (n : NewTable) → making_in_opening p ≡ Some n → Step (new_map.plan_at c p) end → Within n OpeningGoes Any
    opening_at (opening.Tables k) n is s = let it = told_in m m2 told (new_map.opened c) (new_table_plan k) end s in within k n OpeningGoes Any is (it.0, it.2, opened_so it.0 it.1)
    opening_at _ n is s = absurd (cc is)

    pub opening_within : (n : NewTable) → making_in_opening c.stands ≡ Some n → Step (new_map.new_map_plan c) end → Within n OpeningGoes Any
    opening_within n is s = opening_at c.stands n is s

  -- of a call, whichever it is
  module _ (asks : K → K → Bool) (same : K → K → Bool) (hash : K → ℕ) (machine : Machine K V K) (said : Progress (Node K V)) where
    abbrev pub CallGoes : NewTable → Type 0
    CallGoes x = (making_of machine ≡ Some x) × (said ≡ said_so.Goes)

    abbrev pub CallRefuses : Fault → Type 0
    CallRefuses fault = (fault_of machine ≡ Some fault) × ((said ≡ said_so.Refused fault) ⊎ (said ≡ said_so.Goes))

    call_goes : (y : Machine K V K) (z : Progress (Node K V)) (x : NewTable) → ◌≡◌ {A = Machine K V K × Progress (Node K V)} (machine, said) (y, z) → making_of y ≡ Some x → z ≡ said_so.Goes → CallGoes x
    call_goes y z x is making goes =
        (ap (λ (q : Machine K V K × Progress (Node K V)). making_of q.0) is ∙ making, ap (λ (q : Machine K V K × Progress (Node K V)). q.1) is ∙ goes)

    pub call_refuses : (y : Machine K V K) (z : Progress (Node K V)) (fault : Fault) → ◌≡◌ {A = Machine K V K × Progress (Node K V)} (machine, said) (y, z) → fault_of y ≡ Some fault
        → (z ≡ said_so.Refused fault) ⊎ (z ≡ said_so.Goes) → CallRefuses fault
    call_refuses y z fault is refused ends_so = (
      ap (λ (q : Machine K V K × Progress (Node K V)). fault_of q.0) is ∙ refused,
      elim ends_so as (λ _. (said ≡ said_so.Refused fault) ⊎ (said ≡ said_so.Goes)) [
        | inl e ↦ inl (ap (λ (q : Machine K V K × Progress (Node K V)). q.1) is ∙ e)
        | inr e ↦ inr (ap (λ (q : Machine K V K × Progress (Node K V)). q.1) is ∙ e)
      ],
    )

    pub step_within : (before : Machine K V K) (n : NewTable) → making_of before ≡ Some n → Step (machine_plan asks same hash before) (machine, said) → Within n CallGoes CallRefuses
    step_within (kinds.Key p) n is s =
        let it = told_in m m2 told of_key (call_plan asks same hash p) (machine, said) s in
        let inner = key_within asks same hash p it.0 n is it.2 in (
          inner.0,
          inner.1,
          (
            λ goes. let so = inner.2.0 goes in call_goes (kinds.Key it.0.0) (of_called it.0.1) inner.0.0 it.1 so.0 (ap of_called so.1),
            λ fault goes. let so = inner.2.1 fault goes in call_refuses (kinds.Key it.0.0) (of_called it.0.1) fault it.1 so.0 (either of_called _ _ so.1),
          ),
        )
    step_within (kinds.Reserve r) n is s =
        let it = told_in m m2 told of_room (reserve_plan hash r) (machine, said) s in
        let inner = room_within hash r it.0 n is it.2 in (
          inner.0,
          inner.1,
          (
            λ goes. let so = inner.2.0 goes in call_goes (kinds.Reserve it.0.0) (of_outcome it.0.1) inner.0.0 it.1 so.0 (ap of_outcome so.1),
            λ fault goes. let so = inner.2.1 fault goes in call_refuses (kinds.Reserve it.0.0) (of_outcome it.0.1) fault it.1 so.0 (either of_outcome _ _ so.1),
          ),
        )
    step_within (kinds.Sweep c) n is s =
        let it = told_in m m2 told of_sweep (sweep_plan hash c) (machine, said) s in
        let inner = sweep_within hash c it.0 n is it.2 in (
          inner.0,
          inner.1,
          (
            λ goes. let so = inner.2.0 goes in call_goes (kinds.Sweep it.0.0) (of_swept it.0.1) inner.0.0 it.1 so.0 (ap of_swept so.1),
            λ fault goes. let so = inner.2.1 fault goes in call_refuses (kinds.Sweep it.0.0) (of_swept it.0.1) fault it.1 so.0 (either of_swept _ _ so.1),
          ),
        )
    step_within (kinds.Count sum) n is s = absurd (cc is)

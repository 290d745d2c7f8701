-- A step of a call, a reservation or a sweep in which a copier is under way is that copier's, and goes on where it goes on.
use Rattle.std.specs.Prelude.{Some, None}
use Rattle.std.proofs.Common.{◌≡◌, ℕ, Bool, false, refl, ap, sym, subst}
use Rattle.run_shows.specs.Given.SeizeWordsMem.{Mem, Took, value_at}
use Rattle.run_shows.specs.Given.SeizeWordsPlan.{Steps}
use Rattle.seize_acts.proofs.Given.SeizeRuleRows.Leaving.{steps_back}
use Rattle.run_shows.specs.Given.TablesDeclared.node.Node.{Node}
use Rattle.run_shows.specs.Given.TablesDeclared.table.Table.{Table}
use Rattle.run_shows.specs.Given.ResizeCopier.{copier_plan}
use Rattle.run_shows.specs.Given.ResizeDeclared.copier.Copier.{Copier}
use Rattle.run_shows.specs.Given.ResizeDeclared.yielding.Yielding.{Yielding}
use Rattle.run_shows.specs.Given.ResizeDeclared.yielding.Yielding.TheVariants as outcome
use Rattle.run_shows.specs.Given.ReservesReserve as reserves
use Rattle.run_shows.specs.Given.ReservesDeclared.reserve.Reserve.{Reserve}
use Rattle.run_shows.specs.Given.ReservesDeclared.reserve.Reserving.{Reserving}
use Rattle.run_shows.specs.Given.ReservesDeclared.reserve.Reserving.TheVariants as reserving
use Rattle.run_shows.specs.Given.SweepsSweep as sweeps
use Rattle.run_shows.specs.Given.ReservesDeclared.sweep.Sweep.{Sweep}
use Rattle.run_shows.specs.Given.ReservesDeclared.sweep.Sweeping.{Sweeping}
use Rattle.run_shows.specs.Given.ReservesDeclared.sweep.Sweeping.TheVariants as sweeping
use Rattle.run_shows.specs.Given.ReservesDeclared.sweep.Swept.{Swept}
use Rattle.run_shows.specs.Given.RawCall.{helped, copied, plan_at}
use Rattle.run_shows.specs.Given.RawDeclared.machines.answer.Called.{Called}
use Rattle.run_shows.specs.Given.RawDeclared.machines.call.KeyCall.{KeyCall}
use Rattle.run_shows.specs.Given.RawDeclared.machines.call.Calling.{Calling}
use Rattle.run_shows.specs.Given.RawDeclared.machines.call.Calling.TheVariants as at
use Rattle.owner_facts.specs.Given.PointsTold.{IsRowOfCopier, IsRowOfCall}
use Rattle.owner_facts.proofs.Given.PointsSteps.RootSteps.{call_is_promoting}
use Rattle.owner_facts.specs.Given.LateFactsReserves as rooms
use Rattle.owner_facts.specs.Given.LateFactsSweeps as over_all
use Rattle.owner_facts.specs.Given.LateToldReserves.{IsRowOfReserve}
use Rattle.owner_facts.specs.Given.LateToldSweeps.{IsRowOfSweep}
use Rattle.owner_facts.specs.Given.CallersOverAll.{CallOverAll, row_of_sweep}
use Rattle.owner_facts.specs.Given.CallersRooms.{CallForRoom, row_of_room}
use Rattle.owner_facts.specs.Given.CallersRows.{row_of, row_of_copier}
use Rattle.owner_facts.specs.Given.CallersTogether.{OnKey, ForRoom, OverAll, CallOnKey, next_of, next_for_room, next_over_all}
use Rattle.many_acts.specs.Carries.Theirs.{copier_of_call, copier_of_room, copier_of_sweep}
use Rattle.owner_facts.specs.Maps.EndingsReserves.{HasMore as IsOn}

pub it_is : (p x : Copier) → Some p ≡ Some x → p ≡ x
it_is p x is = cc is

module _ {K V Q : Type 0} (same : K → K → Bool) (hash : K → ℕ) (asks : Q → K → Bool) (p : KeyCall K V Q) (m m2 : Mem (Node K V)) (end : KeyCall K V Q × Called (Node K V)) where
  -- where this copier goes on, so does the call, with it
  abbrev CallGoesOn : Copier → KeyCall K V Q × Called (Node K V) → Type 0
  CallGoesOn q e = (copier_of_call e.0.stands ≡ Some q) × ((v : CallOnKey K V Q) → next_of v e.1 ≡ Some (OnKey v))

  -- the step is that of this copier
  abbrev pub CallCopies : Copier → Type 0
  CallCopies x = (e : Copier × Yielding (Node K V) Table) × Steps Took value_at m (copier_plan hash x) m2 e × (IsOn e.1 → CallGoesOn e.0 end)

  by_helped : (goal : Table) (e : Copier × Yielding (Node K V) Table) → IsOn e.1 → CallGoesOn e.0 (helped p goal e)
  by_helped goal (q, outcome.Goes) on = (refl, λ v. refl)
  by_helped goal (q, outcome.Waits) on = (refl, λ v. refl)
  by_helped goal (q, outcome.Gave value) on = (refl, λ v. refl)
  by_helped goal (q, outcome.Done table) on = absurd on
  by_helped goal (q, outcome.Refused fault) on = absurd on

  by_copied : (e : Copier × Yielding (Node K V) Table) → IsOn e.1 → CallGoesOn e.0 (copied p e)
  by_copied (q, outcome.Goes) on = (refl, λ v. refl)
  by_copied (q, outcome.Waits) on = (refl, λ v. refl)
  by_copied (q, outcome.Gave value) on = (refl, λ v. refl)
  by_copied (q, outcome.Done table) on = absurd on
  by_copied (q, outcome.Refused fault) on = absurd on

  pub call_copies : (stands : Calling) (x : Copier) → copier_of_call stands ≡ Some x → Steps Took value_at m (plan_at asks same hash p stands) m2 end → CallCopies x
  call_copies (at.Helps copier goal) x is s =
      let d = steps_back (helped p goal) m m2 (copier_plan hash copier) end s in
      subst CallCopies (it_is copier x is) (d.0, d.1, λ on. subst (CallGoesOn d.0.0) (sym d.2) (by_helped goal d.0 on))
  call_copies (at.Copies copier) x is s =
      let d = steps_back (copied p) m m2 (copier_plan hash copier) end s in
      subst CallCopies (it_is copier x is) (d.0, d.1, λ on. subst (CallGoesOn d.0.0) (sym d.2) (by_copied d.0 on))
  call_copies _ x is s = absurd (cc is)

-- the row that it stands at is that of its copier
pub call_row : (stands : Calling) (x : Copier) → copier_of_call stands ≡ Some x → (IsRowOfCall stands → IsRowOfCopier x.stands) × (IsRowOfCopier x.stands → IsRowOfCall stands)
call_row (at.Helps copier goal) x is =
    let e = it_is copier x is in (subst (λ (y : Copier). IsRowOfCopier y.stands) e, subst (λ (y : Copier). IsRowOfCopier y.stands) (sym e))
call_row (at.Copies copier) x is =
    let e = it_is copier x is in (subst (λ (y : Copier). IsRowOfCopier y.stands) e, subst (λ (y : Copier). IsRowOfCopier y.stands) (sym e))
call_row _ x is = absurd (cc is)

pub call_row_is : (slot : ℕ) (stands : Calling) (x : Copier) → copier_of_call stands ≡ Some x → row_of slot stands ≡ row_of_copier x.stands
call_row_is slot (at.Helps copier goal) x is = ap (λ (y : Copier). row_of_copier y.stands) (it_is copier x is)
call_row_is slot (at.Copies copier) x is = ap (λ (y : Copier). row_of_copier y.stands) (it_is copier x is)
call_row_is slot _ x is = absurd (cc is)

-- without one it makes no table the root
pub none_promotes : (stands : Calling) → copier_of_call stands ≡ None → call_is_promoting stands ≡ false
none_promotes (at.Helps copier goal) is = absurd (cc is)
none_promotes (at.Copies copier) is = absurd (cc is)
none_promotes _ is = refl

module _ {K V : Type 0} (Q : Type 0) (hash : K → ℕ) (p : Reserve) (m m2 : Mem (Node K V)) (end : Reserve × Yielding (Node K V) Unit) where
  abbrev RoomGoesOn : Copier → Reserve × Yielding (Node K V) Unit → Type 0
  RoomGoesOn q e = (copier_of_room e.0.stands ≡ Some q) × ((v : CallForRoom) → next_for_room {K = K} {V = V} {Q = Q} v e.1 ≡ Some (ForRoom v))

  abbrev pub RoomCopies : Copier → Type 0
  RoomCopies x = (e : Copier × Yielding (Node K V) Table) × Steps Took value_at m (copier_plan hash x) m2 e × (IsOn e.1 → RoomGoesOn e.0 end)

  by_room : (e : Copier × Yielding (Node K V) Table) → IsOn e.1 → RoomGoesOn e.0 (reserves.copied p e)
  by_room (q, outcome.Goes) on = (refl, λ v. refl)
  by_room (q, outcome.Waits) on = (refl, λ v. refl)
  by_room (q, outcome.Gave value) on = (refl, λ v. refl)
  by_room (q, outcome.Done table) on = absurd on
  by_room (q, outcome.Refused fault) on = absurd on

  pub room_copies : (stands : Reserving) (x : Copier) → copier_of_room stands ≡ Some x → Steps Took value_at m (reserves.plan_at hash p stands) m2 end → RoomCopies x
  room_copies (reserving.Copies copier) x is s =
      let d = steps_back (reserves.copied p) m m2 (copier_plan hash copier) end s in
      subst RoomCopies (it_is copier x is) (d.0, d.1, λ on. subst (RoomGoesOn d.0.0) (sym d.2) (by_room d.0 on))
  room_copies _ x is s = absurd (cc is)

pub room_row : (stands : Reserving) (x : Copier) → copier_of_room stands ≡ Some x → (IsRowOfReserve stands → IsRowOfCopier x.stands) × (IsRowOfCopier x.stands → IsRowOfReserve stands)
room_row (reserving.Copies copier) x is =
    let e = it_is copier x is in (subst (λ (y : Copier). IsRowOfCopier y.stands) e, subst (λ (y : Copier). IsRowOfCopier y.stands) (sym e))
room_row _ x is = absurd (cc is)

pub room_row_is : (stands : Reserving) (x : Copier) → copier_of_room stands ≡ Some x → row_of_room stands ≡ row_of_copier x.stands
room_row_is (reserving.Copies copier) x is = ap (λ (y : Copier). row_of_copier y.stands) (it_is copier x is)
room_row_is _ x is = absurd (cc is)

pub room_without : (stands : Reserving) → copier_of_room stands ≡ None → rooms.CopiesPairs stands → ⊥
room_without (reserving.Copies copier) is pairs = cc is
room_without _ is pairs = pairs

module _ {K V : Type 0} (Q : Type 0) (hash : K → ℕ) (p : Sweep) (m m2 : Mem (Node K V)) (end : Sweep × Swept (Node K V)) where
  abbrev SweepGoesOn : Copier → Sweep × Swept (Node K V) → Type 0
  SweepGoesOn q e = (copier_of_sweep e.0.stands ≡ Some q) × ((v : CallOverAll) → next_over_all {K = K} {V = V} {Q = Q} v e.1 ≡ Some (OverAll v))

  abbrev pub SweepCopies : Copier → Type 0
  SweepCopies x = (e : Copier × Yielding (Node K V) Table) × Steps Took value_at m (copier_plan hash x) m2 e × (IsOn e.1 → SweepGoesOn e.0 end)

  by_sweep : (e : Copier × Yielding (Node K V) Table) → IsOn e.1 → SweepGoesOn e.0 (sweeps.copied p e)
  by_sweep (q, outcome.Goes) on = (refl, λ v. refl)
  by_sweep (q, outcome.Waits) on = (refl, λ v. refl)
  by_sweep (q, outcome.Gave value) on = (refl, λ v. refl)
  by_sweep (q, outcome.Done table) on = absurd on
  by_sweep (q, outcome.Refused fault) on = absurd on

  pub sweep_copies : (stands : Sweeping) (x : Copier) → copier_of_sweep stands ≡ Some x → Steps Took value_at m (sweeps.plan_at hash p stands) m2 end → SweepCopies x
  sweep_copies (sweeping.Copies copier) x is s =
      let d = steps_back (sweeps.copied p) m m2 (copier_plan hash copier) end s in
      subst SweepCopies (it_is copier x is) (d.0, d.1, λ on. subst (SweepGoesOn d.0.0) (sym d.2) (by_sweep d.0 on))
  sweep_copies _ x is s = absurd (cc is)

pub sweep_row : (stands : Sweeping) (x : Copier) → copier_of_sweep stands ≡ Some x → (IsRowOfSweep stands → IsRowOfCopier x.stands) × (IsRowOfCopier x.stands → IsRowOfSweep stands)
sweep_row (sweeping.Copies copier) x is =
    let e = it_is copier x is in (subst (λ (y : Copier). IsRowOfCopier y.stands) e, subst (λ (y : Copier). IsRowOfCopier y.stands) (sym e))
sweep_row _ x is = absurd (cc is)

pub sweep_row_is : (slot : ℕ) (stands : Sweeping) (x : Copier) → copier_of_sweep stands ≡ Some x → row_of_sweep slot stands ≡ row_of_copier x.stands
sweep_row_is slot (sweeping.Copies copier) x is = ap (λ (y : Copier). row_of_copier y.stands) (it_is copier x is)
sweep_row_is slot _ x is = absurd (cc is)

pub sweep_without : (stands : Sweeping) → copier_of_sweep stands ≡ None → over_all.CopiesPairs stands → ⊥
sweep_without (sweeping.Copies copier) is pairs = cc is
sweep_without _ is pairs = pairs

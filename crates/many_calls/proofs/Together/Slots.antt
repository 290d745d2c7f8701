-- What a step of a row that retires or defers a block leaves of slots: each is used as it was, and the row works on its own on.
use Rattle.std.specs.Prelude.{Option}
use Rattle.std.proofs.Common.{◌≡◌, ℕ, ◌+◌, true, List, [], ◌∷◌, ap, sym, subst, ◌∙◌, refl}
use Rattle.seize_model.specs.Given.SeizeWordsMem.{Mem}
use Rattle.seize_model.specs.Given.SeizeDeclared.states.TheConstants.{LAST_SLOT}
use Rattle.seize_model.specs.Given.SeizeDeclared.advance.Advance.{Advance}
use Rattle.seize_model.specs.Given.SeizeDeclared.advance.Advance.TheVariants as progress
use Rattle.seize_model.specs.Given.SeizeDeclared.rows.settle.Settle.{Settle}
use Rattle.seize_model.specs.Given.SeizeDeclared.rows.settle.Settled.{Settled}
use Rattle.seize_model.specs.Given.SeizeDeclared.rows.settle.Settled.TheVariants as settled
use Rattle.seize_model.specs.Given.SeizeDeclared.rows.defer.Defer.{Defer}
use Rattle.seize_model.specs.Given.SeizeWorld.{World, Row, Rests, Registers, Enters, Settles, Leaves, Defers, Frees, Use, Vacant, Outside, Inside, Changing, Event, Runs, Steps', with_at, one_more, one_less, settles_on, defers_on}
use Rattle.seize_model.proofs.Given.SeizeMovesState.Ghost.{State}
use Rattle.seize_model.proofs.Given.SeizeRuleRows.Others.{users_rows}
use Rattle.seize_model.proofs.Given.SeizeRuleRows.Teams.{shares}
use Rattle.seize_model.proofs.Given.SeizeRuleRows.Told.{RowTold, SettleGoes, SettleEnds, LeaveSwaps, LeaveGoes, LeaveSettled, LeaveEnds, RegisterLooks, RegisterRefused, RegisterTakes, RegisterEnters, EntersSlot, FreesSlot, DeferGoes, DeferPushes, DeferEnds}
use Rattle.seize_model.proofs.Given.SeizeRuleWorld.Kept.{steps_next}
use Rattle.seize_model.proofs.Alone.Histories.Reached.{Reached}
use Rattle.seize_model.proofs.Alone.Histories.UsersTurn.{AreBetween, users_between, between_uses}
use Rattle.map_facts_late.specs.Given.ResizeDeclared.copier.Copying.{Copying}
use Rattle.map_facts_late.specs.Given.ResizeDeclared.dispose.Disposing.{Disposing}
use Rattle.map_facts_late.specs.Given.ResizeDeclared.dispose.Disposing.TheVariants as disposes
use Rattle.map_facts_late.specs.Given.ReservesDeclared.reserve.Reserving.{Reserving}
use Rattle.map_facts_late.specs.Given.ReservesDeclared.reserve.Reserving.TheVariants as reserving
use Rattle.map_facts_late.specs.Given.ReservesDeclared.sweep.Sweeping.{Sweeping}
use Rattle.map_facts_late.specs.Given.ReservesDeclared.sweep.Sweeping.TheVariants as sweeping
use Rattle.map_facts_late.specs.Given.RawDeclared.machines.call.Calling.{Calling}
use Rattle.map_facts_late.specs.Given.RawDeclared.machines.call.Calling.TheVariants as calls
use Rattle.map_facts_late.specs.Given.RuleInWorld.{AllUsers}
use Rattle.map_facts_late.proofs.Given.RuleWorld.Hands.{at_cases}
use Rattle.map_facts_late.specs.Given.PointsTold.{IsRowOf, IsRowOfCopier, IsRowOfCall}
use Rattle.map_facts_late.specs.ToldReserves.{IsRowOfReserve}
use Rattle.map_facts_late.specs.ToldSweeps.{IsRowOfSweep}
use Rattle.many_calls.specs.OverAll.{row_of_sweep}
use Rattle.many_calls.specs.Rooms.{row_of_room}
use Rattle.many_calls.specs.Rows.{IsRowOn, IsUsedAlike, LeavesSlots, row_of_disposal, row_of_copier, row_of}
use Rattle.many_calls.proofs.Together.RowsOfCopiers.{at_retirement}

pub alike_same : (u : Use) → IsUsedAlike u u
alike_same Vacant = refl
alike_same (Outside n) = (n, refl)
alike_same (Inside n) = (n, refl)
alike_same Changing = refl

pub alike_more : (u : Use) → IsUsedAlike u (one_more u)
alike_more Vacant = refl
alike_more (Outside n) = (n + 1, refl)
alike_more (Inside n) = (n + 1, refl)
alike_more Changing = refl

alike_less : (u : Use) → IsUsedAlike u (one_less u)
alike_less Vacant = refl
alike_less (Outside n) = (_, refl)
alike_less (Inside n) = (_, refl)
alike_less Changing = refl

pub alike_then : (u v x : Use) → IsUsedAlike u v → IsUsedAlike v x → IsUsedAlike u x
alike_then Vacant v x a b = subst (λ (y : Use). IsUsedAlike y x) a b
alike_then (Outside n) v x a b = subst (λ (y : Use). IsUsedAlike y x) a.1 b
alike_then (Inside n) v x a b = subst (λ (y : Use). IsUsedAlike y x) a.1 b
alike_then Changing v x a b = subst (λ (y : Use). IsUsedAlike y x) a b

-- where one slot is, all are
pub alike_at : (uses : ℕ → Use) (s : ℕ) (u : Use) → IsUsedAlike (uses s) u → (t : ℕ) → IsUsedAlike (uses t) (with_at uses s u t)
alike_at uses s u h t =
    at_cases (λ (v : Use). IsUsedAlike (uses t) v) uses s u t (λ e. subst (λ (x : ℕ). IsUsedAlike (uses x) u) (sym e) h) (λ ne. alike_same (uses t))

-- a row that is not one of these is none that shares its slot
not_shared : {X : Type 0} (row row2 : Row) → shares row ≡ true → row ≡ row2 → (shares row2 ≡ true → X) → X
not_shared row row2 shared is none = none (sym (ap shares is) ∙ shared)

on_slot_told : (n i s : ℕ) (row row2 : Row) (m m2 : State) (uses uses2 : ℕ → Use) → shares row ≡ true → RowTold n i row m uses row2 m2 uses2 → IsRowOn s row → IsRowOn s row2
on_slot_told n i s row row2 m m2 uses uses2 shared (SettleGoes c c2 e e2 same told) on = subst (IsRowOn s) (sym e2) (same ∙ subst (IsRowOn s) e on)
on_slot_told n i s row row2 m m2 uses uses2 shared (SettleEnds c e e2 over same) on = subst (IsRowOn s) (sym e2) tt
on_slot_told n i s row row2 m m2 uses uses2 shared (LeaveSwaps c again es p e e2 at lt word head same behind) on = not_shared row _ shared e (λ k. absurd (cc k))
on_slot_told n i s row row2 m m2 uses uses2 shared (LeaveGoes c settle settle2 e e2 at same told) on = not_shared row _ shared e (λ k. absurd (cc k))
on_slot_told n i s row row2 m m2 uses uses2 shared (LeaveSettled c settle e at over settled same) on = not_shared row _ shared e (λ k. absurd (cc k))
on_slot_told n i s row row2 m m2 uses uses2 shared (LeaveEnds c e at settled same) on = not_shared row _ shared e (λ k. absurd (cc k))
on_slot_told n i s row row2 m m2 uses uses2 shared (RegisterLooks c c2 e e2 at at2 enters same still) on = not_shared row _ shared e (λ k. absurd (cc k))
on_slot_told n i s row row2 m m2 uses uses2 shared (RegisterRefused c e e2 at same still) on = not_shared row _ shared e (λ k. absurd (cc k))
on_slot_told n i s row row2 m m2 uses uses2 shared (RegisterTakes c e at vacant takes still) on = not_shared row _ shared e (λ k. absurd (cc k))
on_slot_told n i s row row2 m m2 uses uses2 shared (RegisterEnters c e e2 at lt head same entered) on = not_shared row _ shared e (λ k. absurd (cc k))
on_slot_told n i s row row2 m m2 uses uses2 shared (EntersSlot c e e2 lt head same) on = not_shared row _ shared e (λ k. absurd (cc k))
on_slot_told n i s row row2 m m2 uses uses2 shared (FreesSlot c e e2 same) on = not_shared row _ shared e (λ k. absurd (cc k))
on_slot_told n i s row row2 m m2 uses uses2 shared (DeferGoes t c p e e2 at at2 same) on = subst (IsRowOn s) (sym e2) (subst (IsRowOn s) e on)
on_slot_told n i s row row2 m m2 uses uses2 shared (DeferPushes t b u k c e e2 at block word same) on = subst (IsRowOn s) (sym e2) (subst (IsRowOn s) e on)
on_slot_told n i s row row2 m m2 uses uses2 shared (DeferEnds t c e e2 over same) on = subst (IsRowOn s) (sym e2) tt

module _ {T : Type 0} (defers : T → Option ℕ) (size : ℕ) (w : World T) (r : Reached defers size w) (i : ℕ) (w2 : World T) where
  settles_alike : (c d : Settle) (m : Mem T) (p : Settled T) (t : ℕ) → IsUsedAlike (w.uses t) ((settles_on w i c m (d, p)).uses t)
  settles_alike c d m settled.Goes t = alike_same (w.uses t)
  settles_alike c d m settled.Waits t = alike_same (w.uses t)
  settles_alike c d m (settled.Gave value) t = alike_same (w.uses t)
  settles_alike c d m settled.Done t = alike_at w.uses c.slot (one_less (w.uses c.slot)) (alike_less (w.uses c.slot)) t

  defers_alike : (s : ℕ) (d : Defer) (m : Mem T) (p : Advance Unit) (t : ℕ) → IsUsedAlike (w.uses t) ((defers_on w i s m (d, p)).uses t)
  defers_alike s d m progress.Goes t = alike_same (w.uses t)
  defers_alike s d m progress.Waits t = alike_same (w.uses t)
  defers_alike s d m (progress.Done u) t = alike_at w.uses s (one_less (w.uses s)) (alike_less (w.uses s)) t
  defers_alike s d m (progress.Refused fault) t = alike_same (w.uses t)

  uses_alike : (row : Row) → shares row ≡ true → Steps' defers i row w w2 → (t : ℕ) → IsUsedAlike (w.uses t) (w2.uses t)
  uses_alike Rests shared k t = absurd k
  uses_alike (Registers c) shared k t = absurd (cc shared)
  uses_alike (Enters c) shared k t = absurd (cc shared)
  uses_alike (Settles c) shared k t = subst (λ (v : World T). IsUsedAlike (w.uses t) (v.uses t)) (sym k.3) (settles_alike c k.1.0 k.0 k.1.1 t)
  uses_alike (Leaves c) shared k t = absurd (cc shared)
  uses_alike (Defers s c) shared k t = subst (λ (v : World T). IsUsedAlike (w.uses t) (v.uses t)) (sym k.3) (defers_alike s k.1.0 k.0 k.1.1 t)
  uses_alike (Frees c) shared k t = absurd (cc shared)

  -- a step of a row that shares its slot
  pub step_leaves : (s : ℕ) → shares (w.row i) ≡ true → Steps' defers i (w.row i) w w2 → LeavesSlots s i w w2
  step_leaves s shared step = record {
    uses = uses_alike (w.row i) shared step;
    on_slot = on_slot_told (LAST_SLOT + 1) i s (w.row i) (w2.row i) r.good.state _ w.uses w2.uses shared (steps_next defers (LAST_SLOT + 1) size refl w w2 r.good r.sized i (w.row i) refl step).told;
  }

-- after a row has begun that works on this slot
pub begun_leaves : {T : Type 0} (s i : ℕ) (w v w2 : World T) → ((t : ℕ) → IsUsedAlike (w.uses t) (v.uses t)) → IsRowOn s (v.row i) → LeavesSlots s i v w2 → LeavesSlots s i w w2
begun_leaves s i w v w2 uses on l = record { uses = λ t. alike_then (w.uses t) (v.uses t) (w2.uses t) (uses t) (l.uses t); on_slot = λ before. l.on_slot on }

-- what is none of a row leaves all rows and slots
module _ {T : Type 0} (defers : T → Option ℕ) (size : ℕ) where
  pub between_rows : (events : List (Event T)) (w v : World T) → AreBetween events → Runs defers size events w v → v.row ≡ w.row
  between_rows [] w v u r = ap (λ (x : World T). x.row) r
  between_rows (e ∷ events) w v u r = between_rows events r.0 v u.1 r.2 ∙ users_rows defers size w r.0 e u.0 r.1

  between_same : (events : List (Event T)) (w v : World T) → AreBetween events → Runs defers size events w v → v.uses ≡ w.uses
  between_same [] w v u r = ap (λ (x : World T). x.uses) r
  between_same (e ∷ events) w v u r = between_same events r.0 v u.1 r.2 ∙ between_uses defers size w r.0 e u.0 r.1

  pub between_slots : (events : List (Event T)) (w v : World T) → AreBetween events → Runs defers size events w v → (s i : ℕ) → LeavesSlots s i w v
  between_slots events w v u r s i = record {
    uses = λ t. subst (λ (x : Use). IsUsedAlike (w.uses t) x) (sym (ap (λ (f : ℕ → Use). f t) (between_same events w v u r))) (alike_same (w.uses t));
    on_slot = subst (IsRowOn s) (sym (ap (λ (f : ℕ → Row). f i) (between_rows events w v u r)));
  }

-- as what users do
pub all_between : {T : Type 0} (events : List (Event T)) → AllUsers events → AreBetween events
all_between [] u = tt
all_between (e ∷ events) u = (users_between e u.0, all_between events u.1)

-- the rows of copiers and of disposals do
copier_shares : (x : Copying) → IsRowOfCopier x → shares (row_of_copier x) ≡ true
copier_shares = at_retirement (λ (x : Copying). shares (row_of_copier x) ≡ true) (λ settle rest. refl)

disposal_shares : (slot : ℕ) (x : Disposing) → IsRowOf x → shares (row_of_disposal slot x) ≡ true
disposal_shares slot (disposes.Settles settle) row = refl
disposal_shares slot (disposes.Defers defer) row = refl
disposal_shares slot disposes.Reads row = absurd row
disposal_shares slot (disposes.Walks table) row = absurd row
disposal_shares slot disposes.Over row = absurd row

pub call_shares : (slot : ℕ) (x : Calling) → IsRowOfCall x → shares (row_of slot x) ≡ true
call_shares slot (calls.Disposes dispose answer) row = disposal_shares slot dispose.stands row
call_shares slot (calls.Helps copier goal) row = copier_shares copier.stands row
call_shares slot (calls.Copies copier) row = copier_shares copier.stands row
call_shares slot _ row = absurd row

pub room_shares : (x : Reserving) → IsRowOfReserve x → shares (row_of_room x) ≡ true
room_shares (reserving.Copies copier) row = copier_shares copier.stands row
room_shares _ row = absurd row

pub sweep_shares : (slot : ℕ) (x : Sweeping) → IsRowOfSweep x → shares (row_of_sweep slot x) ≡ true
sweep_shares slot (sweeping.Copies copier) row = copier_shares copier.stands row
sweep_shares slot (sweeping.Disposes dispose) row = disposal_shares slot dispose.stands row
sweep_shares slot _ row = absurd row

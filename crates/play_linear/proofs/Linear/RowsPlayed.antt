-- A row that begins on a slot, its step, and one by which all is reclaimed, as they are played: the entry is linearizable, and what the moment shows of calls it shows then.
use Rattle.std.specs.Prelude.{◌≡◌, ◌==◌, ℕ, Bool, true, false, List, ◌∷◌, None, if◌then◌else◌}
use Rattle.std.proofs.Common.{refl, inl}
use Rattle.seize_acts.specs.Given.SeizeWorld.{Step}
use Rattle.seize_acts.specs.Given.SeizeDeclared.states.TheConstants.{ACTIVE}
use Rattle.seize_acts.specs.Given.SeizeDeclared.rows.leave.Leave.{Leave}
use Rattle.seize_acts.specs.Given.SeizeDeclared.rows.leave.Leaving.{Leaving}
use Rattle.seize_acts.specs.Given.SeizeDeclared.rows.leave.Leaving.TheVariants as leaves
use Rattle.seize_acts.specs.Given.SeizeDeclared.rows.reclaim_all.ReclaimAll.{ReclaimAll}
use Rattle.seize_acts.specs.Given.SeizeDeclared.rows.register.Registering.{Registering}
use Rattle.seize_acts.specs.Given.SeizeDeclared.rows.register.Registering.TheVariants as registers
use Rattle.seize_acts.specs.Given.SeizeDeclared.rows.settle.Settled.{Settled}
use Rattle.play_lists.specs.Given.TablesDeclared.node.Node.{Node}
use Rattle.run_schedules.specs.declared.effect.Effect.{Effect}
use Rattle.run_schedules.specs.declared.outcome.Outcome.{Outcome}
use Rattle.run_schedules.specs.Schedules.Effects.{with_effects}
use Rattle.run_schedules.specs.Schedules.Moment.{Moment}
use Rattle.play_lists.specs.Given.EffectsEffects.{effects_of, known_after}
use Rattle.play_lists.specs.Given.EffectsDeclared.acting.Acting.TheVariants as acts
use Rattle.play_lists.specs.Given.OthersRows.{scene_then}
use Rattle.play_lists.proofs.Given.OthersRowPlans.{row_tells}
use Rattle.play_lists.specs.Given.ScenesHeld.{Held, IsAt}
use Rattle.play_lists.specs.Given.ScenesOnSlots.{RowLeads}
use Rattle.play_lists.specs.Given.ScenesReclaiming.{IsReclaiming, ReclaimingLeads}
use Rattle.play_lists.specs.Given.ScenesScene.{IsOnSlot, Scene}
use Rattle.play_lists.specs.Given.ScenesDeclared.row.RowTold.{RowTold}
use Rattle.play_lists.specs.Given.ScenesDeclared.row.SlotRow.{SlotRow}
use Rattle.play_lists.specs.Given.ScenesDeclared.row.SlotRow.TheVariants as rows
use Rattle.play_lists.proofs.Given.ShedsReclaiming.Rows.{reclaiming_tells}
use Rattle.run_schedules.specs.Deeds.Deeds.{Deed, Entry, Leaves, Opens, ReclaimsAll, Registers, Shuts, Tends, after, caller_of, moment}
use Rattle.run_schedules.specs.Deeds.History.{IsLinearizable, past}
use Rattle.play_lists.specs.Played.Play.{State, is_over, is_refusal, leaves_as, registers_as, row_deed, settled_outcome}
use Rattle.play_lists.proofs.Played.Noted.{row_none}
use Rattle.play_linear.specs.Linear.Shown.{RefinesAnswers}
use Rattle.play_linear.proofs.Linear.CallEntries.{entry_answers, none_is_linearizable}
use Rattle.play_linear.proofs.Linear.Heard.{none_said}
use Rattle.play_linear.proofs.Linear.HeardAll.{AreHeard, AreHeardAt, all_heard}
use Rattle.play_linear.proofs.Linear.Like.{IsLike}
use Rattle.play_linear.proofs.Linear.OthersGo.{all_step, rows_step}
use Rattle.play_linear.proofs.Linear.Shifts.{rows_shift_none}

module _ {K V : Type 0} where
  -- one of a row, or of who reclaims all
  abbrev pub IsOfRow : Deed K V → Type 0
  IsOfRow (Registers s) = Unit {0}
  IsOfRow (Opens s) = Unit {0}
  IsOfRow (Shuts s) = Unit {0}
  IsOfRow (Leaves s) = Unit {0}
  IsOfRow (Tends s) = Unit {0}
  IsOfRow (ReclaimsAll last) = Unit {0}
  IsOfRow _ = ⊥

  -- leaves calls, pairs, maps and tables as its effects leave them
  pub rows_like : (d : Deed K V) → IsOfRow d → (o : Outcome V) (effects : List Effect) (refused : Bool) (m : Moment K V)
      → IsLike (with_effects None None effects m) (after (record { deed = d; outcome = o; effects = effects; refused = refused }) m)
  rows_like (Registers s) is o effects refused m = refl
  rows_like (Opens s) is o effects refused m = refl
  rows_like (Shuts s) is o effects refused m = refl
  rows_like (Leaves s) is o effects refused m = refl
  rows_like (Tends s) is o effects refused m = refl
  rows_like (ReclaimsAll last) is o effects refused m = refl
  rows_like _ is o effects refused m = absurd is

  pub no_caller : (d : Deed K V) → IsOfRow d → caller_of d ≡ None
  no_caller (Registers s) is = refl
  no_caller (Opens s) is = refl
  no_caller (Shuts s) is = refl
  no_caller (Leaves s) is = refl
  no_caller (Tends s) is = refl
  no_caller (ReclaimsAll last) is = refl
  no_caller _ is = absurd is

  if_row : (b : Bool) (d other : Deed K V) → IsOfRow d → IsOfRow other → IsOfRow (if b then d else other)
  if_row true d other one two = one
  if_row false d other one two = two

module _ (K V : Type 0) where
  registers_row : (stands : Registering) (s : ℕ) → IsOfRow {K = K} {V = V} (registers_as stands s)
  registers_row registers.Enter s = tt
  registers_row _ s = tt

  leaves_row : (c : Leave) (stands : Leaving) → IsOfRow {K = K} {V = V} (leaves_as c stands)
  leaves_row c leaves.Swaps = tt
  leaves_row c leaves.Over = if_row (c.becomes == ACTIVE) (Opens c.slot) (Leaves c.slot) tt tt
  leaves_row c _ = tt

  pub is_of_row : (row : SlotRow) → IsOfRow {K = K} {V = V} (row_deed row)
  is_of_row (rows.Registers c) = registers_row c.stands c.slot
  is_of_row (rows.Enters c) = tt
  is_of_row (rows.Leaves c) = leaves_row c c.stands
  is_of_row (rows.Flushes c) = tt
  is_of_row (rows.Frees c) = tt

module _ {K V S : Type 0} (same : K → K → Bool) (hash : ℕ → K → ℕ) (x : State K V S) (s : Scene K V) (old new : Held K V)
    (all : RefinesAnswers same (past x.history) (moment x.history) x.known s) (heard : AreHeard x) where
  module _ (at : IsAt same hash old s) (i : ℕ) (row : SlotRow) (here : IsOnSlot s i row) (said : RowTold (Node K V)) (leads : RowLeads same hash i said s old new) (o : Outcome V) where
    abbrev entry : Entry K V
    entry = record { deed = row_deed row; outcome = o; effects = effects_of acts.Row x.known new.changed; refused = is_refusal new.changed }

    pub played_rows_are_linearizable : IsLinearizable same x.history entry
    played_rows_are_linearizable =
        none_is_linearizable same x.history entry (no_caller (row_deed row) (is_of_row K V row))
        (rows_shift_none x.known new.changed (inl (row_tells old.memory new.memory new.changed ((leads row here).0, said) row (leads row here).1)))

    pub played_rows_answer : RefinesAnswers same (past (entry ∷ x.history)) (moment (entry ∷ x.history)) (known_after acts.Row new.changed x.known) (scene_then same hash (Step i) s old new (leads row here).2)
    played_rows_answer =
        entry_answers same x.history entry (with_effects None None entry.effects (moment x.history)) (known_after acts.Row new.changed x.known) (scene_then same hash (Step i) s old new (leads row here).2)
        (rows_step K V same hash (past x.history) (moment x.history) x.known s all old new at i said leads row here)
        (rows_like (row_deed row) (is_of_row K V row) o entry.effects entry.refused (moment x.history))

    pub played_rows_are_heard : AreHeardAt (moment (entry ∷ x.history)) x.now.calls
    played_rows_are_heard =
        all_heard x heard (moment (entry ∷ x.history)) (none_said entry (moment x.history) (row_none row) (no_caller (row_deed row) (is_of_row K V row))) x.now.calls (λ on j. refl)

  -- who reclaims all
  module _ (i : ℕ) (lists : ℕ → List ℕ) (before next : ReclaimAll) (told : Settled (Node K V)) (at : IsReclaiming same hash old s i lists before)
      (leads : ReclaimingLeads same hash s i lists old new before next told) where
    abbrev entry_of_all : Entry K V
    entry_of_all = record { deed = ReclaimsAll (is_over told); outcome = settled_outcome told; effects = effects_of acts.Row x.known new.changed; refused = is_refusal new.changed }

    pub reclaiming_is_linearizable : IsLinearizable same x.history entry_of_all
    reclaiming_is_linearizable = none_is_linearizable same x.history entry_of_all refl (rows_shift_none x.known new.changed (reclaiming_tells old.memory new.memory new.changed before before.stands (next, told) leads.0))

    pub reclaiming_answers : RefinesAnswers same (past (entry_of_all ∷ x.history)) (moment (entry_of_all ∷ x.history)) (known_after acts.Row new.changed x.known) (record s { world = leads.1.w2; maps = leads.1.maps2 })
    reclaiming_answers =
        entry_answers same x.history entry_of_all (with_effects None None entry_of_all.effects (moment x.history)) (known_after acts.Row new.changed x.known) (record s { world = leads.1.w2; maps = leads.1.maps2 })
        (all_step K V same hash (past x.history) (moment x.history) x.known s all old new i lists before next told at leads)
        (rows_like (ReclaimsAll (is_over told)) tt (settled_outcome told) entry_of_all.effects entry_of_all.refused (moment x.history))

    pub reclaiming_is_heard : AreHeardAt (moment (entry_of_all ∷ x.history)) x.now.calls
    reclaiming_is_heard = all_heard x heard (moment (entry_of_all ∷ x.history)) (none_said entry_of_all (moment x.history) (λ o calls. refl, λ m. refl) refl) x.now.calls (λ on j. refl)

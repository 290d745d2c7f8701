-- All that a row on a slot does it may do, wherever its steps have led.
use Rattle.std.specs.Prelude.{◌≡◌, ◌⊎◌, ◌&&◌, ℕ, Bool, true, false, List, []}
use Rattle.std.specs.List.{list_all}
use Rattle.std.proofs.Common.{refl, ap, sym, subst, inl, inr, ◌∙◌}
use Rattle.std.proofs.lemmas.List.Folds.{list_all-append}
use Rattle.run_grows.specs.Given.SeizeDeclared.rows.settle.Settle.{Settle}
use Rattle.run_grows.specs.Given.SeizeDeclared.rows.settle.Settling.{Settling}
use Rattle.run_grows.specs.Given.SeizeDeclared.rows.settle.Settling.TheVariants as settling
use Rattle.run_grows.specs.Given.SeizeWorld.{World, Rests, Settles, Begins}
use Rattle.run_grows.proofs.Given.SeizeMovesState.Ghost.{State}
use Rattle.run_grows.proofs.Given.SeizeRulePoints.Told.{part, part_at}
use Rattle.run_grows.specs.Given.TablesNodes.{deferred_word}
use Rattle.run_grows.specs.Given.TablesDeclared.node.Node.{Node}
use Rattle.run_grows.specs.Given.EffectsDeclared.changed.Changed.TheVariants as changed
use Rattle.run_grows.proofs.Given.CallersTogether.Came.{came_reached}
use Rattle.run_grows.specs.Given.RunsDeclared.effect.Effect.{Effect}
use Rattle.run_grows.specs.Given.RunsDeclared.event.Event.{Event}
use Rattle.run_grows.specs.Given.SchedulesEntry.{Entry}
use Rattle.run_grows.specs.Given.SchedulesTerms.{Terms}
use Rattle.run_grows.specs.Given.EffectsEffects.{effects_of}
use Rattle.run_grows.specs.Given.EffectsKnown.{Known}
use Rattle.run_grows.specs.Given.EffectsDeclared.acting.Acting.TheVariants as acts
use Rattle.run_grows.specs.Given.ScenesDeclared.row.RowTold.{RowTold}
use Rattle.run_grows.specs.Given.ScenesDeclared.row.RowTold.TheVariants as told
use Rattle.run_grows.specs.Given.ScenesDeclared.row.SlotCall.{SlotCall}
use Rattle.run_grows.specs.Given.ScenesDeclared.row.SlotCall.TheVariants as call
use Rattle.run_grows.specs.Given.ScenesDeclared.row.SlotRow.{SlotRow}
use Rattle.run_grows.specs.Given.ScenesDeclared.row.SlotRow.TheVariants as rows
use Rattle.run_legal.specs.Chains.{Come, RowSteps}
use Rattle.run_legal.specs.SlotEvents.{InSlotEvent}
use Rattle.run_legal.proofs.Chains.{chains_keep}
use Rattle.run_legal.proofs.Slots.{slot_events_go_on_so}
use Rattle.run_legal.specs.Works.Rows.{RowsDoTheirs, may_row, row_begun}
use Rattle.run_sweeps.proofs.Needs.Flushes.Moves.{FlushesOn}
use Rattle.run_sweeps.proofs.Needs.Flushes.Worlds.{Flushing, flush_begins, flush_steps}
use Rattle.run_sweeps.proofs.Needs.Steps.{IsNoOwn, IsTaking, asks_alone, does_nothing, enters_tell, flushes_tell, frees_tell, leaves_tell, reclaims_alone, registers_tell, takes_no_own}
use Rattle.run_grows.specs.Given.ScenesOnSlots.{RowSteps as StepsAs, row_then}
use Rattle.run_grows.proofs.Given.ScenesRows.{begun_there, never_rests, one_row}
use Rattle.run_grows.specs.Given.ScenesRows.{begun_row, request_of}
use Rattle.run_grows.specs.Given.ScenesScene.{row_of, slot_of}

-- a flush that takes nothing is not about to take a block away
never_takes : (i s : ℕ) (c : Settle) (m : State) → FlushesOn i s (part c) m → IsTaking c.stands → ⊥
never_takes i s c m on = by c.stands on
  where
    by : (p : Settling) → FlushesOn i s (part_at c.flushing p) m → IsTaking p → ⊥
    by (settling.Takes next) its is = its.knows
    by _ its is = is

-- the machine that is under way is the one that the world has
settle_there : (row : SlotRow) (c : Settle) → row_of row ≡ Settles c → row ≡ rows.Flushes c
settle_there (rows.Flushes d) c is = (let same_one : d ≡ c = cc is in ap rows.Flushes same_one)
settle_there (rows.Registers d) c is = absurd (cc is)
settle_there (rows.Enters d) c is = absurd (cc is)
settle_there (rows.Leaves d) c is = absurd (cc is)
settle_there (rows.Frees d) c is = absurd (cc is)

-- a row that goes on does so as it was told
pub goes_as : {K V : Type 0} (after row : SlotRow) (said : RowTold (Node K V)) → row_of row ≡ row_then after said → after ≡ row
goes_as after row told.Goes is = one_row after row (sym is)
goes_as after row told.Waits is = one_row after row (sym is)
goes_as after row (told.Gave value) is = one_row after row (sym is)
goes_as after row _ is = absurd (never_rests row is)

-- it is under way as what it began as; a flush takes nothing
module _ {K V : Type 0} (size i slot : ℕ) where
  abbrev IsAs : SlotCall → World (Node K V) → SlotRow → Type 0
  IsAs (call.Register enters) w (rows.Registers c) = Unit {0}
  IsAs call.Enter w (rows.Enters c) = Unit {0}
  IsAs call.Leave w (rows.Leaves c) = Unit {0}
  IsAs call.LeaveOwned w (rows.Leaves c) = Unit {0}
  IsAs call.Refresh w (rows.Leaves c) = Unit {0}
  IsAs call.Flush w (rows.Flushes c) = Flushing deferred_word size i slot w c
  IsAs call.Unregister w (rows.Frees c) = Unit {0}
  IsAs _ w _ = ⊥

module _ {K V : Type 0} (same : K → K → Bool) (hash : ℕ → K → ℕ) (name : ℕ → List ℕ) (terms : Terms) (log : List (Entry K V)) (event : Event K V) (i : ℕ) (called : SlotCall) (first : Known) (began : World (Node K V)) (size : ℕ) where
  abbrev IsUnder : World (Node K V) → Type 0
  IsUnder w = (row : SlotRow) → w.row i ≡ row_of row → IsAs size i (slot_of i) called w row

  abbrev DoesSo : Come K V → Type 0
  DoesSo x = InSlotEvent same name terms log event i called first began x.did x.now x.notes x.scene × IsUnder x.scene.world × (list_all (may_row called) x.did ≡ true)

  module _ (x y : Come K V) (step : RowSteps same hash terms i x y) (so : DoesSo x) where
    abbrev w2 : World (Node K V)
    w2 = (step.leads step.row step.here).2.0

    abbrev effects : List Effect
    effects = effects_of acts.Row x.notes y.held.changed

    same_kind : (r : SlotRow) → (step.leads step.row step.here).0 ≡ r → (row : SlotRow) → w2.row i ≡ row_of row → row ≡ r
    same_kind r is row here = sym (goes_as (step.leads step.row step.here).0 row step.said (sym here ∙ (step.leads step.row step.here).3)) ∙ is

    none_done : (n : SlotCall) → ((f : Effect) → may_row n f ≡ false) → effects ≡ [] → list_all (may_row n) effects ≡ true
    none_done n never none = ap (list_all (may_row n)) none

    no_own : (b : ℕ) → y.held.changed ≡ changed.Took b → IsNoOwn (x.notes.roles b)
    no_own b took =
        takes_no_own same hash name x.now x.notes x.scene x.held y.held step.is_at so.0.calls.whole.all.shown so.0.calls.kept.made so.0.calls.kept.tables i step.row step.here
        ((step.leads step.row step.here).0, step.said) (step.leads step.row step.here).1 (step.leads step.row step.here).2 b took

    flush_on : (c : Settle) → Flushing deferred_word size i (slot_of i) x.scene.world c → (row : SlotRow) → w2.row i ≡ row_of row → IsAs size i (slot_of i) call.Flush w2 row
    flush_on c on row there = by (flush_steps deferred_word size i (slot_of i) x.scene.world w2 c on (step.leads step.row step.here).2.1)
      where
        by : ((c2 : Settle) × Flushing deferred_word size i (slot_of i) w2 c2) ⊎ (w2.row i ≡ Rests) → IsAs size i (slot_of i) call.Flush w2 row
        by (inl (c2, on2)) = subst (IsAs size i (slot_of i) call.Flush w2) (sym (settle_there row c2 (sym there ∙ on2.row))) on2
        by (inr rests) = absurd (never_rests row (sym there ∙ rests))

    does : (n : SlotCall) (row : SlotRow) → IsAs size i (slot_of i) n x.scene.world row
        → StepsAs K V row x.held.memory y.held.memory y.held.changed ((step.leads step.row step.here).0, step.said)
        → (list_all (may_row n) effects ≡ true) × ((row2 : SlotRow) → w2.row i ≡ row_of row2 → IsAs size i (slot_of i) n w2 row2)
    does (call.Register enters) (rows.Registers c) its s = (
      asks_alone x.notes y.held.changed (registers_tell x.held.memory y.held.memory y.held.changed ((step.leads step.row step.here).0, step.said) c s),
      λ row2 here. subst (IsAs size i (slot_of i) (call.Register enters) w2) (sym (same_kind (rows.Registers s.0.0) (ap (λ (q : SlotRow × RowTold (Node K V)). q.0) s.2) row2 here)) tt,
    )
    does call.Enter (rows.Enters c) its s = (
      none_done call.Enter (λ f. refl)
          (does_nothing x.notes y.held.changed (enters_tell x.held.memory y.held.memory y.held.changed ((step.leads step.row step.here).0, step.said) c s)),
      λ row2 here. subst (IsAs size i (slot_of i) call.Enter w2) (sym (same_kind (rows.Enters s.0.0) (ap (λ (q : SlotRow × RowTold (Node K V)). q.0) s.2) row2 here)) tt,
    )
    does call.Unregister (rows.Frees c) its s = (
      none_done call.Unregister (λ f. refl)
          (does_nothing x.notes y.held.changed (frees_tell x.held.memory y.held.memory y.held.changed ((step.leads step.row step.here).0, step.said) c s)),
      λ row2 here. subst (IsAs size i (slot_of i) call.Unregister w2) (sym (same_kind (rows.Frees s.0.0) (ap (λ (q : SlotRow × RowTold (Node K V)). q.0) s.2) row2 here)) tt,
    )
    does call.Leave (rows.Leaves c) its s = (
      reclaims_alone x.notes y.held.changed
          (leaves_tell x.held.memory y.held.memory y.held.changed ((step.leads step.row step.here).0, step.said) c s) no_own,
      λ row2 here. subst (IsAs size i (slot_of i) call.Leave w2) (sym (same_kind (rows.Leaves s.0.0) (ap (λ (q : SlotRow × RowTold (Node K V)). q.0) s.2) row2 here)) tt,
    )
    does call.LeaveOwned (rows.Leaves c) its s = (
      reclaims_alone x.notes y.held.changed
          (leaves_tell x.held.memory y.held.memory y.held.changed ((step.leads step.row step.here).0, step.said) c s) no_own,
      λ row2 here. subst (IsAs size i (slot_of i) call.LeaveOwned w2) (sym (same_kind (rows.Leaves s.0.0) (ap (λ (q : SlotRow × RowTold (Node K V)). q.0) s.2) row2 here)) tt,
    )
    does call.Refresh (rows.Leaves c) its s = (
      reclaims_alone x.notes y.held.changed
          (leaves_tell x.held.memory y.held.memory y.held.changed ((step.leads step.row step.here).0, step.said) c s) no_own,
      λ row2 here. subst (IsAs size i (slot_of i) call.Refresh w2) (sym (same_kind (rows.Leaves s.0.0) (ap (λ (q : SlotRow × RowTold (Node K V)). q.0) s.2) row2 here)) tt,
    )
    does call.Flush (rows.Flushes c) its s = (
      none_done call.Flush (λ f. refl)
          (does_nothing x.notes y.held.changed
          (flushes_tell x.held.memory y.held.memory y.held.changed ((step.leads step.row step.here).0, step.said) c (never_takes i c.slot c its.good.state its.on) s)),
      flush_on c its,
    )
    does _ _ its s = absurd its

    pub does_on : DoesSo y
    does_on =
        let its = does called step.row (so.1 step.row step.here.1) (step.leads step.row step.here).1 in
        subst DoesSo (sym step.comes) (
          slot_events_go_on_so K V same hash name terms log event i called first began x.did x.now x.notes x.scene so.0 x.held y.held step.is_at step.size step.said step.leads step.row step.here,
          its.1,
          list_all-append (may_row called) x.did effects ∙ ap (λ (q : Bool). q && list_all (may_row called) effects) so.2 ∙ its.0,
        )

module _ (K V : Type 0) (same : K → K → Bool) (hash : ℕ → K → ℕ) where
  pub rows_do_theirs : RowsDoTheirs K V same hash
  rows_do_theirs name terms log known s old new at event i called leads inside midst n to chain =
      (chains_keep (DoesSo same hash name terms log event i called known s.world old.batch_size) (RowSteps same hash terms i)
      (λ x y step so. does_on same hash name terms log event i called known s.world old.batch_size x y step so) n (row_begun same hash log known s called i old new leads) to chain (midst, under, refl)).2
    where
      begun_as : (n : SlotCall) → called ≡ n → IsAs old.batch_size i (slot_of i) n leads.2.0 (begun_row (slot_of i) old.batch_size n)
      begun_as (call.Register enters) is = tt
      begun_as call.Enter is = tt
      begun_as call.Leave is = tt
      begun_as call.LeaveOwned is = tt
      begun_as call.Refresh is = tt
      begun_as call.Unregister is = tt
      begun_as call.Flush is =
          let reached = came_reached old.batch_size s.world at.together.makings.standing.came in
          flush_begins deferred_word old.batch_size i (slot_of i) s.world leads.2.0 reached.good reached.sized leads.2.1.0 (inside is)
          (subst (λ (c : SlotCall). Begins deferred_word old.batch_size i (request_of (slot_of i) c) s.world leads.2.0) is leads.2.1.1)

      under : (row : SlotRow) → leads.2.0.row i ≡ row_of row → IsAs old.batch_size i (slot_of i) called leads.2.0 row
      under row there =
          let same_one = one_row (begun_row (slot_of i) old.batch_size called) row (sym (begun_there deferred_word old.batch_size i s.world leads.2.0 (slot_of i) called leads.2.1.1) ∙ there) in
          subst (IsAs old.batch_size i (slot_of i) called leads.2.0) same_one (begun_as called refl)

-- A step of a call that copies pairs, none of a row: what its copier has in hand goes with the effects of the step, and the call has that in hand.
use Rattle.std.specs.Prelude.{◌≡◌, ℕ, ◌==◌, Bool, true, false, List, [], ◌∷◌, Some, None, if◌then◌else◌}
use Rattle.std.proofs.Common.{refl, sym, subst, ◌∙◌, inl, inr}
use Rattle.run_places.specs.Given.SeizeWorld.{IsInside}
use Rattle.run_places.specs.Given.TablesDeclared.node.Node.{Node}
use Rattle.run_places.specs.Given.TablesDeclared.table.Table.{Table}
use Rattle.run_places.specs.Given.ResizeCopier.{copier_plan}
use Rattle.run_places.specs.Given.ResizeDeclared.copier.Copier.{Copier}
use Rattle.run_places.specs.Given.ResizeDeclared.yielding.Yielding.{Yielding}
use Rattle.run_places.specs.Given.ResizeDeclared.yielding.Yielding.TheVariants as outcome
use Rattle.run_places.specs.Given.ReservesReserve as reserves
use Rattle.run_places.specs.Given.ReservesDeclared.reserve.Reserve.{Reserve}
use Rattle.run_places.specs.Given.SweepsSweep as sweeps
use Rattle.run_places.specs.Given.SweepsSweepPoints as points
use Rattle.run_places.specs.Given.ReservesDeclared.sweep.Sweep.{Sweep}
use Rattle.run_places.specs.Given.ReservesDeclared.sweep.Sweeping.TheVariants as sweeping
use Rattle.run_places.specs.Given.ReservesDeclared.sweep.Swept.{Swept}
use Rattle.run_places.specs.Given.RawCall.{helped, copied}
use Rattle.run_places.specs.Given.RawCallPoints.{going, over}
use Rattle.run_places.specs.Given.RawProgress.{of_called, of_outcome, of_swept}
use Rattle.run_places.specs.Given.RawDeclared.machines.answer.Called.{Called}
use Rattle.run_places.specs.Given.RawDeclared.machines.answer.End.{End}
use Rattle.run_places.specs.Given.RawDeclared.machines.answer.End.TheVariants as ends
use Rattle.run_places.specs.Given.RawDeclared.machines.call.Calling.TheVariants as at
use Rattle.run_places.specs.Given.RawDeclared.machines.call.KeyCall.{KeyCall}
use Rattle.run_places.specs.Given.RawDeclared.machines.progress.Progress.{Progress}
use Rattle.run_places.specs.Given.RunsDeclared.effect.Effect.{Effect}
use Rattle.run_places.specs.Given.RunsDeclared.effect.Effect.TheVariants as effect
use Rattle.run_places.specs.Given.RunsDeclared.effect.TableId.{TableId as TableTurn}
use Rattle.run_places.specs.Given.RunsDeclared.effect.Thing.{Thing}
use Rattle.run_places.specs.Given.SchedulesMoment.{Moment}
use Rattle.run_places.specs.Given.TellerTells.{StepsObserved}
use Rattle.run_places.specs.Given.EffectsDeclared.changed.Changed.TheVariants as changed
use Rattle.run_places.specs.Given.TablesChunks.{is_incremental}
use Rattle.owner_facts.specs.Given.PointsTold.{IsRowOfCopier}
use Rattle.owner_facts.proofs.Given.PointsSteps.RootSteps.{is_promoting}
use Rattle.owner_facts.specs.Given.CallersSights.{seen_by}
use Rattle.owner_facts.specs.Given.CallersTogether.{UnderWay, in_slot}
use Rattle.run_places.specs.Given.EffectsEffects.{effects_of}
use Rattle.run_places.specs.Given.EffectsKnown.{Known}
use Rattle.run_places.specs.Given.EffectsDeclared.acting.Acting.TheVariants as acts
use Rattle.owner_facts.specs.Given.FinishesMachines.{machine_of}
use Rattle.owner_facts.specs.Given.FinishesMaps.{Standing}
use Rattle.run_places.specs.Given.FollowsShows.{Refines}
use Rattle.run_places.proofs.Given.FollowsSteps.{WentTo, went_to, OfNoRow}
use Rattle.run_debts.specs.Hand.{tables_in_hand, in_hand_of_call, in_hand_of_room, in_hand_of_sweep, in_hand, NotesTables, NotesOfCall, NotesOfRoom, NotesOfSweep, NotesPending}
use Rattle.run_debts.specs.InHand.{TakesPair, pair_in_calling}
use Rattle.run_debts.specs.Owed.{PendingGoes}
use Rattle.run_debts.specs.Owing.{ObligationsGo}
use Rattle.run_debts.proofs.CopierTables.{KnowsTables}
use Rattle.run_debts.proofs.Hand.Asked.{NoneOfSweep, either_sweep, ending_none, sweeps_apart}
use Rattle.run_debts.proofs.Hand.Copiers.{GoesOrHas, CopierGoes, copier_goes}
use Rattle.run_debts.proofs.Leaving.{has_gone, leaves}
use Rattle.run_debts.proofs.Passed.{copier_none}
use Rattle.run_places.specs.Given.ScenesHeld.{Held, IsAt}
use Rattle.run_places.specs.Given.ScenesScene.{Scene, slot_of}
use Rattle.run_places.specs.Given.ScenesStepping.{StepLeads, has_ended}

module _ {K V : Type 0} (same : K → K → Bool) (hash : ℕ → K → ℕ) (name : ℕ → List ℕ) (m : Moment K V) (known : Known) (s : Scene K V) (old new : Held K V) (at_old : IsAt same hash old s)
    (shown : Refines same name m known s) (map i : ℕ) (u : UnderWay K V K) (under_way : s.calls map i ≡ Some u) (said : Progress (Node K V)) (leads : StepLeads same hash i said s old new) where
  abbrev to : WentTo same hash name m known s old new at_old shown map i u under_way said leads
  to = went_to same hash name m known s old new at_old shown map i u under_way said leads

  abbrev st : Standing K
  st = to.0

  abbrev effects : List Effect
  effects = effects_of (acts.Call i map) known new.changed

  -- its copier has taken the step, and the call has in hand what that has, if that has tables in hand or goes on; and once it has ended, it has nothing
  pub copying_goes : IsInside (s.world.uses (slot_of i)) → OfNoRow same hash name m known s old new at_old shown map i u under_way said leads u to.4.did
      → (p : Copier) → KnowsTables same st.hash s.world i (in_slot st.setting (slot_of i)) st.chart (seen_by st.blocks (st.sights (slot_of i))) p → (IsRowOfCopier p.stands → ⊥)
      → in_hand known (machine_of u) ≡ tables_in_hand known p p.stands → NotesTables known p p.stands → (r : Copier × Yielding (Node K V) Table)
      → StepsObserved K V (Copier × Yielding (Node K V) Table) old.memory changed.Nothing (copier_plan to.0.hash p) new.memory new.changed r
      → (GoesOrHas r → (in_hand known to.1 ≡ tables_in_hand known r.0 r.0.stands) × (NotesTables known r.0 r.0.stands → NotesPending known to.1))
      → (has_ended said ≡ true → in_hand known to.1 ≡ []) → ((n : ℕ) → TakesPair effects n → ⊥) → (is_promoting p.stands ≡ false → (t : TableTurn) → effects ≡ effect.Promoted t ∷ [] → ⊥)
      → PendingGoes K V same hash m known s old new map i u said under_way leads
  copying_goes inside own p knows row before notes r steps came ended no_pair no_table =
      let goes : CopierGoes same hash name m known s old new at_old shown map i u under_way said leads inside p knows r =
      copier_goes same hash name m known s old new at_old shown map i u under_way said leads inside p knows r row notes
      (λ other. leaves same hash name m known s old new at_old shown map i u under_way said leads own no_pair (no_table other)) steps in
      let it = came goes.2 in (
        subst (λ (l : List Thing). ObligationsGo m effects l (in_hand known to.1)) (sym before)
            (subst (λ (l : List Thing). ObligationsGo m effects (tables_in_hand known p p.stands) l) (sym it.0) goes.0),
        it.1 goes.1,
        λ none. ended (has_gone same hash name m known s old new at_old shown map i u under_way said leads none),
      )

module _ (known : Known) where
  -- a sweep that enters a table has nothing in hand
  beginning_none : (c : Sweep) → NoneOfSweep known (points.beginning c).stands
  beginning_none c = sweeps_apart known (points.removes c.purpose) sweeping.Words sweeping.Ready (refl, tt) (refl, tt)

  pub entering_none : (c : Sweep) (table : Table) → NoneOfSweep known (points.entering c table).stands
  entering_none c table =
      either_sweep known (is_incremental c.setting.mode) (record c { table = table; stands = sweeping.Follows }) (points.beginning (record c { table = table })) (refl, tt)
      (beginning_none (record c { table = table }))

module _ {K V : Type 0} (known : Known) where
  -- a copier that does not go on has none
  none_has : (p : Copier) (o : Yielding (Node K V) Table) → (o ≡ outcome.Goes → ⊥) → GoesOrHas (p, o) → (tables_in_hand known p p.stands ≡ []) × NotesTables known p p.stands
  none_has p o other (inl none) = copier_none known p p.stands none
  none_has p o other (inr goes) = absurd (other goes)

  -- where a call on one key has come to
  abbrev pub KeyThen : Copier × Yielding (Node K V) Table → KeyCall K V K × Called (Node K V) → Type 0
  KeyThen r e =
      (GoesOrHas r → (in_hand_of_call known e.0.stands ≡ tables_in_hand known r.0 r.0.stands) × (NotesTables known r.0 r.0.stands → NotesOfCall known e.0.stands))
      × (has_ended (of_called e.1) ≡ true → in_hand_of_call known e.0.stands ≡ []) × (pair_in_calling e.0.stands ≡ None)

  module _ (p : KeyCall K V K) where
    ending_pair : (end : End) → pair_in_calling (if p.own == 0 then over p end else going p (at.Drops end)).0.stands ≡ None
    ending_pair end = by (p.own == 0)
      where
        by : (b : Bool) → pair_in_calling (if b then over p end else going p (at.Drops end)).0.stands ≡ None
        by true = refl
        by false = refl

    pub helped_then : (goal : Table) (r : Copier × Yielding (Node K V) Table) → KeyThen r (helped p goal r)
    helped_then goal (c, outcome.Goes) = (λ has. (refl, λ notes. notes), λ e. absurd (cc e), refl)
    helped_then goal (c, outcome.Waits) = (λ has. (refl, λ notes. notes), λ e. absurd (cc e), refl)
    helped_then goal (c, outcome.Gave value) = (λ has. (refl, λ notes. notes), λ e. absurd (cc e), refl)
    helped_then goal (c, outcome.Done table) = (λ has. (sym (none_has c (outcome.Done table) (λ e. cc e) has).0, λ notes. tt), λ e. absurd (cc e), refl)
    helped_then goal (c, outcome.Refused fault) =
        let none = ending_none known p (ends.Refused fault) in
        (λ has. (none.0 ∙ sym (none_has c (outcome.Refused fault) (λ e. cc e) has).0, λ notes. none.1), λ e. none.0, ending_pair (ends.Refused fault))

    pub copied_then : (r : Copier × Yielding (Node K V) Table) → KeyThen r (copied p r)
    copied_then (c, outcome.Goes) = (λ has. (refl, λ notes. notes), λ e. absurd (cc e), refl)
    copied_then (c, outcome.Waits) = (λ has. (refl, λ notes. notes), λ e. absurd (cc e), refl)
    copied_then (c, outcome.Gave value) = (λ has. (refl, λ notes. notes), λ e. absurd (cc e), refl)
    copied_then (c, outcome.Done table) = (λ has. (sym (none_has c (outcome.Done table) (λ e. cc e) has).0, λ notes. tt), λ e. absurd (cc e), refl)
    copied_then (c, outcome.Refused fault) =
        let none = ending_none known p (ends.Refused fault) in
        (λ has. (none.0 ∙ sym (none_has c (outcome.Refused fault) (λ e. cc e) has).0, λ notes. none.1), λ e. none.0, ending_pair (ends.Refused fault))

  -- a reservation
  abbrev pub RoomThen : Copier × Yielding (Node K V) Table → Reserve × Yielding (Node K V) Unit → Type 0
  RoomThen r e =
      (GoesOrHas r → (in_hand_of_room known e.0.stands ≡ tables_in_hand known r.0 r.0.stands) × (NotesTables known r.0 r.0.stands → NotesOfRoom known e.0.stands))
      × (has_ended (of_outcome e.1) ≡ true → in_hand_of_room known e.0.stands ≡ [])

  pub room_then : (p : Reserve) (r : Copier × Yielding (Node K V) Table) → RoomThen r (reserves.copied p r)
  room_then p (c, outcome.Goes) = (λ has. (refl, λ notes. notes), λ e. absurd (cc e))
  room_then p (c, outcome.Waits) = (λ has. (refl, λ notes. notes), λ e. absurd (cc e))
  room_then p (c, outcome.Gave value) = (λ has. (refl, λ notes. notes), λ e. absurd (cc e))
  room_then p (c, outcome.Done table) = (λ has. (sym (none_has c (outcome.Done table) (λ e. cc e) has).0, λ notes. tt), λ e. absurd (cc e))
  room_then p (c, outcome.Refused fault) = (λ has. (sym (none_has c (outcome.Refused fault) (λ e. cc e) has).0, λ notes. tt), λ e. refl)

  -- a sweep
  abbrev pub SweepThen : Copier × Yielding (Node K V) Table → Sweep × Swept (Node K V) → Type 0
  SweepThen r e =
      (GoesOrHas r → (in_hand_of_sweep known e.0.stands ≡ tables_in_hand known r.0 r.0.stands) × (NotesTables known r.0 r.0.stands → NotesOfSweep known e.0.stands))
      × (has_ended (of_swept e.1) ≡ true → in_hand_of_sweep known e.0.stands ≡ [])

  pub sweep_then : (c : Sweep) (r : Copier × Yielding (Node K V) Table) → SweepThen r (sweeps.copied c r)
  sweep_then c (p, outcome.Goes) = (λ has. (refl, λ notes. notes), λ e. absurd (cc e))
  sweep_then c (p, outcome.Waits) = (λ has. (refl, λ notes. notes), λ e. absurd (cc e))
  sweep_then c (p, outcome.Gave value) = (λ has. (refl, λ notes. notes), λ e. absurd (cc e))
  sweep_then c (p, outcome.Done root) =
      let none = entering_none known c root in (λ has. (none.0 ∙ sym (none_has p (outcome.Done root) (λ e. cc e) has).0, λ notes. none.1), λ e. none.0)
  sweep_then c (p, outcome.Refused fault) = (λ has. (sym (none_has p (outcome.Refused fault) (λ e. cc e) has).0, λ notes. tt), λ e. refl)

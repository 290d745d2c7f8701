-- What waits behind tables does so where nothing happens to it, and none of it is reclaimed.
use Rattle.std.specs.Prelude.{◌≡◌, ◌⊎◌, ℕ, nat_lt, ◌&&◌, Bool, true, false, List, [], ◌∷◌, Some, None, if◌then◌else◌}
use Rattle.std.proofs.Common.{refl, ap, sym, subst, ◌∙◌, inl, inr}
use Rattle.run_debts.specs.Given.SeizeWordsMem.{Mem}
use Rattle.run_debts.specs.Given.SeizeWordsDeclared.at.At.TheVariants.{Root, Used, Slot, Entry, Word}
use Rattle.run_debts.specs.Given.SeizeLaw.{Effect as LogEffect}
use Rattle.run_debts.specs.Given.SeizeWorld.{World, Hand, Step, Begins}
use Rattle.run_debts.proofs.Given.SeizeAloneHistories.Reached.{Reached}
use Rattle.run_debts.specs.Given.TablesNodes.{deferred_word}
use Rattle.run_debts.specs.Given.TablesDeclared.node.Node.{Node}
use Rattle.run_debts.specs.Given.RunsDeclared.effect.Effect.{Effect}
use Rattle.run_debts.specs.Given.RunsDeclared.effect.Effect.TheVariants.{Asked, Reclaimed, Taken}
use Rattle.run_debts.specs.Given.RunsDeclared.effect.Growth.TheVariants.{ABucket}
use Rattle.run_debts.specs.Given.RunsDeclared.effect.TableId.{TableId}
use Rattle.run_debts.specs.Given.RunsDeclared.effect.Thing.TheVariants.{APair, ATable}
use Rattle.run_debts.specs.Given.SchedulesEffects.{AtEachEffect}
use Rattle.run_debts.specs.Given.SchedulesMoment.{Place, Behind, Moment}
use Rattle.run_debts.specs.Given.EffectsDeclared.changed.Changed.{Changed}
use Rattle.run_debts.specs.Given.EffectsDeclared.changed.Changed.TheVariants as changed
use Rattle.run_debts.proofs.Given.CallersTogether.Came.{came_reached}
use Rattle.run_debts.specs.Given.EffectsEffects.{names_same, taken_by, effects_of}
use Rattle.run_debts.specs.Given.EffectsKnown.{Known}
use Rattle.run_debts.specs.Given.EffectsDeclared.acting.Acting.TheVariants.{Row}
use Rattle.run_debts.specs.Given.EffectsDeclared.role.Role.{Role}
use Rattle.run_debts.specs.Given.EffectsDeclared.role.Role.TheVariants as role
use Rattle.run_debts.specs.Given.ScenesDeclared.row.RowTold.{RowTold}
use Rattle.run_debts.specs.Given.ScenesDeclared.row.SlotCall.{SlotCall}
use Rattle.run_debts.specs.Given.ScenesDeclared.row.SlotCall.TheVariants as call
use Rattle.run_debts.specs.Given.ScenesDeclared.row.SlotRow.{SlotRow}
use Rattle.run_debts.proofs.Given.FollowsOperations.{LeavesBy, operated_leaves}
use Rattle.run_debts.proofs.Given.OthersRowPlans.{TellsRow, row_tells, row_operated}
use Rattle.run_debts.specs.Given.SpotsOnSlots.{WaitUnreclaimed}
use Rattle.run_debts.specs.Given.SpotsUnreclaimed.{is_unreclaimed}
use Rattle.run_debts.specs.Given.MomentsEndings.{WaitsOn}
use Rattle.run_debts.proofs.Given.MomentsOnSlots.{begun_hands}
use Rattle.run_waiting.specs.Lives.Behind.{IsLeft, IsDeferredTo, EachWaits, RefinesWaiting, WaitingIsThere}
use Rattle.run_waiting.specs.Lives.Steps.{WaitingBegins, OthersLeaveWaiting, EndingsBeginWaiting, EffectsFindWaiting, RowsBeginWaiting, RowsPreserveWaiting, RowsFindWaiting}
use Rattle.run_waiting.specs.Lives.Waiting.{waits_behind}
use Rattle.run_waiting.proofs.Lives.Each.{each_on, found}
use Rattle.run_waiting.proofs.Lives.OnSlots.{row_waiting}
use Rattle.run_debts.proofs.Given.ScenesMay.{may_row}
use Rattle.run_debts.specs.Given.ScenesEnding.{ending_begun}
use Rattle.run_debts.specs.Given.ScenesHeld.{Held, IsAt}
use Rattle.run_debts.specs.Given.ScenesOnSlots.{HappensAt, RowSteps}
use Rattle.run_debts.specs.Given.ScenesRows.{request_of}
use Rattle.run_debts.specs.Given.ScenesScene.{IsOnSlot, Scene, slot_of}

-- by the same log, with the same hands
module _ {K V : Type 0} (known : Known) (w w2 : World (Node K V)) (waits : (b : ℕ) → waits_behind b w2.log ≡ waits_behind b w.log) (hands : w2.hand ≡ w.hand) where
  lies_as : (n : ℕ) (t : TableId) → IsDeferredTo known w n t → IsDeferredTo known w2 n t
  lies_as n t l = record { pair = l.pair; is_pair = l.is_pair; table = l.table; len = l.len; is_table = l.is_table; waits = by l.waits }
    where
      by : (waits_behind l.pair w.log ≡ Some l.table) ⊎ (IsLeft (w.hand l.pair) × IsLeft (w.hand l.table))
          → (waits_behind l.pair w2.log ≡ Some l.table) ⊎ (IsLeft (w2.hand l.pair) × IsLeft (w2.hand l.table))
      by (inl is) = inl (waits l.pair ∙ is)
      by (inr both) = inr (subst (λ (h : ℕ → Hand). IsLeft (h l.pair)) (sym hands) both.0, subst (λ (h : ℕ → Hand). IsLeft (h l.table)) (sym hands) both.1)

  waiting_as : (m : Moment K V) → RefinesWaiting m known w → RefinesWaiting m known w2
  waiting_as m each =
      each_on (λ n t. (m.place n ≡ Behind) × IsDeferredTo known w n t) (λ n t. (m.place n ≡ Behind) × IsDeferredTo known w2 n t) (λ n t p. (p.0, lies_as n t p.1)) m.deferred each

pub waiting_begins : (K V : Type 0) → WaitingBegins K V
waiting_begins K V roots = tt

pub others_leave_waiting : (K V : Type 0) → OthersLeaveWaiting K V
others_leave_waiting K V m v known w waiting deferred place =
    subst (EachWaits (λ n t. (v.place n ≡ Behind) × IsDeferredTo known w n t)) (sym deferred)
    (each_on (λ n t. (m.place n ≡ Behind) × IsDeferredTo known w n t) (λ n t. (v.place n ≡ Behind) × IsDeferredTo known w n t) (λ n t p. (ap (λ (f : ℕ → Place). f n) place ∙ p.0, p.1)) m.deferred waiting)

pub endings_begin_waiting : (K V : Type 0) → EndingsBeginWaiting K V
endings_begin_waiting K V m known s waiting map i standing = waiting_as known s.world (ending_begun map i standing s).world (λ b. refl) refl m waiting

pub waiting_is_there : (K V : Type 0) → WaitingIsThere K V
waiting_is_there K V m known w waiting t n among =
    let a = found (λ n t. (m.place n ≡ Behind) × IsDeferredTo known w n t) n t m.deferred waiting among in
    ap is_unreclaimed (ap m.place (sym a.number) ∙ a.so.0)

module _ {K V : Type 0} (m : Moment K V) (known : Known) (w : World (Node K V)) (waiting : RefinesWaiting m known w) where
  unreclaimed : (f : Effect) → WaitUnreclaimed m f
  unreclaimed (Reclaimed (ATable t)) = λ n among. waiting_is_there K V m known w waiting t n among
  unreclaimed (Reclaimed (APair n)) = tt
  unreclaimed _ = tt

  waits_on : (f : Effect) → WaitsOn m f
  waits_on (Taken t) = λ n among. waiting_is_there K V m known w waiting t n among
  waits_on _ = tt

  took_finds : (r : Role) → AtEachEffect WaitUnreclaimed None None (taken_by Row r) m
  took_finds role.Free = tt
  took_finds (role.OwnPair i) = (tt, tt)
  took_finds (role.OwnTable turn shape) = (tt, tt)
  took_finds (role.Pair k) = (tt, tt)
  took_finds (role.Table t len) = (unreclaimed (Reclaimed (ATable t)), tt)
  took_finds (role.Counter of) = tt

  nothing_finds : (q : Bool) → AtEachEffect WaitUnreclaimed None None (if q then [] else []) m
  nothing_finds true = tt
  nothing_finds false = tt

  roomed_finds : (q : Bool) → AtEachEffect WaitUnreclaimed None None (if q then [] else Asked ABucket ∷ []) m
  roomed_finds true = tt
  roomed_finds false = (tt, tt)

  pub row_finds : (told : Changed) → TellsRow told → AtEachEffect WaitUnreclaimed None None (effects_of Row known told) m
  row_finds changed.Nothing is = tt
  row_finds (changed.Wrote (Slot t field) old new) is = tt
  row_finds (changed.Wrote (Entry b field) old new) is = nothing_finds (names_same old new)
  row_finds (changed.Wrote (Root r) old new) is = absurd is
  row_finds (changed.Wrote (Used r) old new) is = absurd is
  row_finds (changed.Wrote (Word b field) old new) is = absurd is
  row_finds (changed.Made kind b) is = absurd is
  row_finds (changed.Unmade kind) is = absurd is
  row_finds (changed.Took b) is = took_finds (known.roles b)
  row_finds (changed.Roomed bucket had) is = roomed_finds (had && nat_lt bucket known.buckets)

pub effects_find_waiting : (K V : Type 0) → EffectsFindWaiting K V
effects_find_waiting K V m known s waiting f = (unreclaimed m known s.world waiting f, waits_on m known s.world waiting f)

-- a row that begins on a slot tells nothing
pub begun_log : {K V : Type 0} (size slot i : ℕ) (w v : World (Node K V)) (called : SlotCall) → Begins deferred_word size i (request_of slot called) w v → v.log ≡ w.log
begun_log size slot i w v (call.Register enters) h = ap (λ (x : World (Node _ _)). x.log) h
begun_log size slot i w v call.Enter h = ap (λ (x : World (Node _ _)). x.log) h.1
begun_log size slot i w v call.Leave h = ap (λ (x : World (Node _ _)). x.log) h.1
begun_log size slot i w v call.LeaveOwned h = ap (λ (x : World (Node _ _)). x.log) h.1
begun_log size slot i w v call.Refresh h = ap (λ (x : World (Node _ _)). x.log) h.1
begun_log size slot i w v call.Flush h = ap (λ (x : World (Node _ _)). x.log) h.1
begun_log size slot i w v call.Unregister h = ap (λ (x : World (Node _ _)). x.log) h.1

module _ (K V : Type 0) (same : K → K → Bool) (hash : ℕ → K → ℕ) where
  pub rows_begin_waiting : RowsBeginWaiting K V same hash
  rows_begin_waiting m known s old new waiting called i leads =
      let to = leads.2 in
      let logs = begun_log old.batch_size (slot_of i) i s.world to.0 called to.1.1 in
      waiting_as known s.world to.0 (λ b. ap (λ (l : List LogEffect). waits_behind b l) logs) (begun_hands old.batch_size (slot_of i) i s.world to.0 called to.1.1) m waiting

  module _ (s : Scene K V) (old new : Held K V) (at : IsAt same hash old s) (i : ℕ) (row : SlotRow) (here : IsOnSlot s i row) (end : SlotRow × RowTold (Node K V))
      (steps : RowSteps K V row old.memory new.memory new.changed end) (happened : HappensAt same hash (Step i) s old new) where
    pub left : LeavesBy s.world.memory happened.0.memory new.changed
    left =
        subst (λ (n : Mem (Node K V)). LeavesBy s.world.memory n new.changed) (sym happened.4.memory)
        (subst (λ (n : Mem (Node K V)). LeavesBy n new.memory new.changed) (sym at.memory)
        (operated_leaves old.memory new.memory new.changed
        (row_operated old.memory new.memory new.changed end row (may_row same hash old s at i row here) steps)))

    pub reached : Reached deferred_word old.batch_size s.world
    reached = came_reached old.batch_size s.world at.together.makings.standing.came

  pub rows_keep_waiting : RowsPreserveWaiting K V same hash
  rows_keep_waiting name m known s old new at whole waiting i told leads row here =
      let to = leads row here in
      row_waiting same name old.batch_size m known s whole.all.shown whole.blocks waiting at.together.makings.standing.came
      (reached s old new at i row here (to.0, told) to.1 to.2) i to.2.0 to.2.1 new.changed
      (row_tells old.memory new.memory new.changed (to.0, told) row to.1)
      (left s old new at i row here (to.0, told) to.1 to.2)

  pub rows_find_waiting : RowsFindWaiting K V same hash
  rows_find_waiting m known s old new waiting i told leads row here =
      let to = leads row here in
      row_finds m known s.world waiting new.changed (row_tells old.memory new.memory new.changed (to.0, told) row to.1)

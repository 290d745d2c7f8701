-- The table behind which a call is to put its pair is noted as it was after a step that is of no call: while its row is under way that block is there, and before that the call knows it anew.
use Rattle.std.specs.Prelude.{◌≡◌, ◌+◌, ℕ, Bool, List, Option, Some, None, IsSome}
use Rattle.std.proofs.Common.{refl, ap, sym, subst, ◌∙◌, inl, inr}
use Rattle.run_finds.specs.Given.SeizeWordsMem.{value_at}
use Rattle.run_finds.specs.Given.SeizeWordsDeclared.at.At.{At}
use Rattle.run_finds.specs.Given.SeizeFurther.{IsWordOf}
use Rattle.papaya_raw.specs.Given.SeizeWorld.{Defers, World, IsInside}
use Rattle.papaya_raw.specs.Given.SeizeDeclared.rows.defer.Defer.{Defer}
use Rattle.papaya_raw.specs.Given.SeizeDeclared.rows.defer.Deferring.{Deferring}
use Rattle.papaya_raw.specs.Given.SeizeDeclared.rows.defer.Deferring.TheVariants as deferring
use Rattle.papaya_raw.specs.Given.SeizeDeclared.states.TheConstants.{LAST_SLOT}
use Rattle.run_finds.proofs.Given.SeizeAloneHistories.Reached.{Reached}
use Rattle.run_finds.proofs.Given.SeizeRuleRows.Known.{FitsDefer, FitsRow, OnWay}
use Rattle.run_finds.proofs.Given.SeizeMemoryWords.View.{list_in, view}
use Rattle.papaya_raw.specs.Given.TablesNodes.{deferred_word}
use Rattle.papaya_raw.specs.Given.TablesDeclared.node.Node.{Node}
use Rattle.run_finds.specs.Given.ResizeDeclared.dispose.Disposing.{Disposing}
use Rattle.run_finds.specs.Given.ResizeDeclared.dispose.Disposing.TheVariants as disposing
use Rattle.run_finds.specs.Given.ResizeDeclared.copier.Copying.{Copying}
use Rattle.run_finds.specs.Given.ResizeDeclared.copier.Copying.TheVariants as copying
use Rattle.papaya_raw.specs.Given.ReservesDeclared.sweep.Sweeping.{Sweeping}
use Rattle.papaya_raw.specs.Given.ReservesDeclared.sweep.Sweeping.TheVariants as sweeping
use Rattle.papaya_raw.specs.declared.machines.call.Calling.{Calling}
use Rattle.papaya_raw.specs.declared.machines.call.Calling.TheVariants as calling
use Rattle.run_schedules.specs.Schedules.Moment.{Moment}
use Rattle.run_finds.specs.Given.RuleWords.{Blocks}
use Rattle.run_finds.specs.Given.CallersOverAll.{row_of_sweep}
use Rattle.run_finds.specs.Given.CallersRows.{row_of, row_of_disposal}
use Rattle.run_finds.specs.Given.CallersSights.{seen_by}
use Rattle.run_finds.specs.Given.CallersTogether.{Counting, ForRoom, OnKey, OverAll, Together, UnderWay}
use Rattle.run_finds.proofs.Given.CallersTogether.Came.{came_reached}
use Rattle.run_finds.specs.Given.EffectsKnown.{Known}
use Rattle.run_finds.specs.Given.FinishesMachines.{machine_of}
use Rattle.run_finds.specs.Given.FinishesMaps.{Standing}
use Rattle.run_finds.proofs.Given.FollowsOnward.{IsOfMap}
use Rattle.run_finds.specs.Given.MomentsWhole.{RefinesWhole}
use Rattle.run_finds.specs.Given.SettlesDue.{ToPut, due_in_calling, due_in_copying, due_in_defer, due_in_disposing, due_in_row, due_in_sweeping}
use Rattle.run_finds.specs.Puts.{IsDeferredOnTheLast, RefinesPuts}
use Rattle.run_finds.specs.Waits.{waits_in, waits_in_calling, waits_in_sweeping}
use Rattle.run_grows.proofs.Waits.Behind.{IsBehind, key_behind, room_never, sweep_behind}
use Rattle.run_kept.proofs.Given.ScenesMay.{standing_is}
use Rattle.run_finds.specs.Given.ScenesHeld.{Held, IsAt}
use Rattle.run_finds.specs.Given.ScenesScene.{Scene, slot_of}
use Rattle.run_finds.proofs.Given.SettlesHand.Behind.{settle_puts as never_put}

-- what has a list is there
listed : {K V : Type 0} (o : Option (Node K V)) (d : ℕ) → list_in deferred_word o ≡ Some d → IsSome o
listed None d is = absurd (cc is)
listed (Some value) d is = refl

-- A row that is to put a block behind another: that one is there.
module _ {K V : Type 0} {size : ℕ} (w : World (Node K V)) (r : Reached deferred_word size w) (i : ℕ) (word : ℕ) (place : At) (b : ℕ) (of : IsWordOf b place) where
  defer_there : (slot : ℕ) (c : Defer) → w.row i ≡ Defers slot c → due_in_defer c c.stands ≡ Some (ToPut word place) → IsSome (value_at w.memory b)
  defer_there slot c row due = there (way c.stands fits due)
    where
      fits : FitsDefer (LAST_SLOT + 1) i (view deferred_word w.memory) r.good.state r.good.extra slot c.block c.table_word c.stands
      fits = subst (FitsRow (LAST_SLOT + 1) i (view deferred_word w.memory) r.good.state r.good.extra _) row (r.good.rows i)

      way : (p : Deferring) → FitsDefer (LAST_SLOT + 1) i (view deferred_word w.memory) r.good.state r.good.extra slot c.block c.table_word p → due_in_defer c p ≡ Some (ToPut word place)
          → OnWay (LAST_SLOT + 1) i (view deferred_word w.memory) r.good.state r.good.extra slot c.block c.table_word × (c.table_word ≡ place)
      way deferring.Reads on e = (on, (let its = e in cc its))
      way (deferring.Links head) on e = (on, (let its = e in cc its))
      way (deferring.Pushes head) on e = (on.on, (let its = e in cc its))
      way deferring.Over on e = absurd (cc e)

      there : OnWay (LAST_SLOT + 1) i (view deferred_word w.memory) r.good.state r.good.extra slot c.block c.table_word × (c.table_word ≡ place) → IsSome (value_at w.memory b)
      there (on, its) =
          let one : b ≡ on.t = subst (IsWordOf b) (sym its ∙ on.at_is) of in
          subst (λ (k : ℕ). IsSome (value_at w.memory k)) (sym one) (listed (value_at w.memory on.t) on.d on.list)

  dispose_there : (slot : ℕ) (q : Disposing) → w.row i ≡ row_of_disposal slot q → due_in_disposing q ≡ Some (ToPut word place) → IsSome (value_at w.memory b)
  dispose_there slot (disposing.Defers defer) row due = defer_there slot defer row due
  dispose_there slot (disposing.Settles settle) row due = absurd (never_put settle settle.stands word place due)
  dispose_there slot disposing.Reads row due = absurd (cc due)
  dispose_there slot (disposing.Walks table) row due = absurd (cc due)
  dispose_there slot disposing.Over row due = absurd (cc due)

  copy_never : (q : Copying) → due_in_copying q ≡ Some (ToPut word place) → ⊥
  copy_never (copying.Retires settle rest) e = never_put settle settle.stands word place e
  copy_never _ e = cc e

  call_there : (slot : ℕ) (q : Calling) → w.row i ≡ row_of slot q → due_in_calling q ≡ Some (ToPut word place) → IsSome (value_at w.memory b)
  call_there slot (calling.Disposes dispose answer) row due = dispose_there slot dispose.stands row due
  call_there slot (calling.Helps copier goal) row due = absurd (copy_never copier.stands due)
  call_there slot (calling.Copies copier) row due = absurd (copy_never copier.stands due)
  call_there slot _ row due = absurd (cc due)

  sweep_there : (slot : ℕ) (q : Sweeping) → w.row i ≡ row_of_sweep slot q → due_in_sweeping q ≡ Some (ToPut word place) → IsSome (value_at w.memory b)
  sweep_there slot (sweeping.Disposes dispose) row due = dispose_there slot dispose.stands row due
  sweep_there slot (sweeping.Copies copier) row due = absurd (copy_never copier.stands due)
  sweep_there slot _ row due = absurd (cc due)

module _ {K V : Type 0} (same : K → K → Bool) (hash : ℕ → K → ℕ) (name : ℕ → List ℕ) (v : Moment K V) (known known2 : Known) (s t : Scene K V) (e : Held K V) (at : IsAt same hash e t)
    (whole : RefinesWhole same name v known2 t) (calls : t.calls ≡ s.calls) (roles : (b : ℕ) → IsSome (value_at t.world.memory b) → IsOfMap (known.roles b) → known2.roles b ≡ known.roles b)
    (puts : RefinesPuts known s) where
  reached : Reached deferred_word e.batch_size t.world
  reached = came_reached e.batch_size t.world at.together.makings.standing.came

  -- of one call: in its row it is to put its pair where it was
  module _ (map i : ℕ) (u : UnderWay K V K) (here : t.calls map i ≡ Some u) (word : ℕ) (place : At) (due : due_in_row (machine_of u) ≡ Some (ToPut word place)) where
    kept : ((b : ℕ) → IsWordOf b place → IsSome (value_at t.world.memory b)) → IsDeferredOnTheLast known2 map place (waits_in (machine_of u))
    kept there =
        let was = puts map i u (ap (λ (f : ℕ → ℕ → Option (UnderWay K V K)). f map i) (sym calls) ∙ here) word place due in
        (was.0, was.1, was.2, was.3, was.4, roles was.0 (there was.0 was.3) (subst IsOfMap (sym was.5) tt) ∙ was.5)

    its_map : (st : Standing K) × (t.maps map ≡ Some st)
    its_map = standing_is same hash e t at map i u here

    abbrev st : Standing K
    st = its_map.0

    abbrev seen : Blocks
    seen = seen_by st.blocks (st.sights (slot_of i))

    each : Together V same st.hash same st.setting slot_of t.world st.chart st.blocks st.sights (t.calls map)
    each = at.together.makings.standing.each map st its_map.1

    -- before its row it knows the table
    as_next : IsInside (t.world.uses (slot_of i)) → (waits : Option ℕ) → IsBehind word place t.world st.chart seen waits → IsDeferredOnTheLast known2 map place waits
    as_next inside waits (k, made, seen_there, its, goes_by) =
        let sight = (each.ground.sight (slot_of i) inside).0 in
        (st.blocks.table k, k, st.chart.len k, its, goes_by, (whole.all.shown.maps map st its_map.1).tables.roles k made (sight.tables k made seen_there))

  of_kind : (map i : ℕ) (u : UnderWay K V K) → t.calls map i ≡ Some u → (word : ℕ) (place : At) → due_in_row (machine_of u) ≡ Some (ToPut word place) → IsDeferredOnTheLast known2 map place (waits_in (machine_of u))
  of_kind map i (OnKey x) here word place due =
      elim ((each map i (OnKey x) here word place due).stand i (OnKey x) here) as (λ _. IsDeferredOnTheLast known2 map place (waits_in_calling x.call x.call.stands)) [
        | inl k ↦ as_next map i (OnKey x) here word place due ((each map i (OnKey x) here word place due).inside i (OnKey x) here) (waits_in_calling x.call x.call.stands)
            (key_behind word place t.world (st map i (OnKey x) here word place due).chart (seen map i (OnKey x) here word place due) same (st map i (OnKey x) here word place due).hash
            (st map i (OnKey x) here word place due).setting slot_of i k.0 x ((each map i (OnKey x) here word place due).stand i (OnKey x) here) x.call.stands refl due)
        | inr k ↦ kept map i (OnKey x) here word place due (λ b its. call_there t.world reached i word place b its (slot_of i) x.call.stands k.0 due)
      ]
  of_kind map i (OverAll o) here word place due =
      elim ((each map i (OverAll o) here word place due).stand i (OverAll o) here) as (λ _. IsDeferredOnTheLast known2 map place (waits_in_sweeping o.sweep o.sweep.stands)) [
        | inl k ↦ as_next map i (OverAll o) here word place due ((each map i (OverAll o) here word place due).inside i (OverAll o) here) (waits_in_sweeping o.sweep o.sweep.stands)
            (sweep_behind word place t.world (st map i (OverAll o) here word place due).chart (seen map i (OverAll o) here word place due) same (st map i (OverAll o) here word place due).hash
            (st map i (OverAll o) here word place due).setting slot_of i k.0 o ((each map i (OverAll o) here word place due).stand i (OverAll o) here) o.sweep.stands refl due)
        | inr k ↦ kept map i (OverAll o) here word place due (λ b its. sweep_there t.world reached i word place b its (slot_of i) o.sweep.stands k.0 due)
      ]
  of_kind map i (ForRoom r) here word place due = absurd (room_never word place r.reserve.stands due)
  of_kind map i (Counting sum) here word place due = absurd (cc due)

  pub puts_beside : RefinesPuts known2 t
  puts_beside = of_kind

-- Where a row within a call is to reclaim a block next, it is the row that the caller has under way.
use Rattle.std.specs.Prelude.{Some, cond}
use Rattle.std.proofs.Common.{◌≡◌, ℕ, Bool, true, false, inl, inr, refl, subst, ◌∙◌}
use Rattle.seize.specs.World.{World, Settles}
use Rattle.seize.specs.declared.rows.settle.Settle.{Settle}
use Rattle.map_tables.specs.Chunks.{is_incremental}
use Rattle.map_tables.specs.declared.node.Node.{Node}
use Rattle.map_tables.specs.declared.setting.Setting.{Setting}
use Rattle.map_machines.specs.declared.copier.Copier.{Copier}
use Rattle.map_machines.specs.declared.copier.Copying.{Copying}
use Rattle.map_machines.specs.declared.copier.Copying.TheVariants as copies
use Rattle.map_machines.specs.declared.dispose.Dispose.{Dispose}
use Rattle.map_machines.specs.declared.dispose.Disposing.{Disposing}
use Rattle.map_machines.specs.declared.dispose.Disposing.TheVariants as disposes
use Rattle.papaya_raw.specs.Given.ReservesDeclared.reserve.Reserving.{Reserving}
use Rattle.papaya_raw.specs.Given.ReservesDeclared.reserve.Reserving.TheVariants as reserving
use Rattle.papaya_raw.specs.Given.ReservesDeclared.sweep.Sweep.{Sweep}
use Rattle.papaya_raw.specs.Given.ReservesDeclared.sweep.Sweeping.{Sweeping}
use Rattle.papaya_raw.specs.Given.ReservesDeclared.sweep.Sweeping.TheVariants as sweeping
use Rattle.papaya_raw.specs.declared.machines.call.Calling.{Calling}
use Rattle.papaya_raw.specs.declared.machines.call.Calling.TheVariants as at
use Rattle.papaya_raw.specs.declared.machines.call.KeyCall.{KeyCall}
use Rattle.map_straight.specs.Given.RuleChart.{Chart}
use Rattle.map_straight.specs.Given.RuleWords.{Blocks}
use Rattle.many_acts.specs.Given.PointsFactsCalls.{Change, CallingFacts}
use Rattle.many_acts.specs.Given.PointsFactsCopies.{CopyingFacts, CopierFacts}
use Rattle.many_acts.specs.Given.PointsFactsCopiesBlocking.{CopyingFactsBlocking, CopierFactsBlocking}
use Rattle.many_acts.specs.Given.PointsFactsDisposes.{IsToRetire, DisposingFacts, DisposeFacts}
use Rattle.many_acts.specs.Given.LateFactsReserves.{IsEnding, CopiesWhole, ReservingFacts}
use Rattle.many_acts.specs.Given.LateFactsSweeps.{CopiesTable, SweepingFacts}
use Rattle.many_acts.specs.Given.LateLateCalls.{SupersededCalling}
use Rattle.many_acts.specs.Given.LateLateCopies.{SupersededCopying}
use Rattle.many_acts.specs.Given.LateLateReserves.{SupersededReserving}
use Rattle.many_acts.specs.Given.CallersOverAll.{row_of_sweep}
use Rattle.many_acts.specs.Given.CallersRooms.{row_of_room}
use Rattle.many_acts.specs.Given.CallersRows.{row_of_disposal, row_of_copier, row_of}
use Rattle.many_acts.specs.Given.CallersSights.{seen_by}
use Rattle.many_acts.specs.Given.CallersTogether.{UnderWay, OnKey, ForRoom, Counting, OverAll, Together, IsAtPoint, in_slot}
use Rattle.many_acts.specs.Given.FinishesMachines.{machine_of}
use Rattle.many_acts.specs.Given.FinishesMaps.{Standing}
use Rattle.many_acts.specs.Given.ScenesScene.{Scene, slot_of}
use Rattle.many_acts.specs.Acts.Leads.{AllStand}
use Rattle.seize_views.specs.Views.Rows.{IsReclaiming}
use Rattle.threads_rule.specs.Views.Reclaims.{IsToReclaim, DisposesNext, CopiesNext, CallsNext, ReservesNext, SweepsNext, IsNextOf}

-- the row is that of a settling which is to reclaim the block
abbrev pub RowReclaims : {T : Type 0} → World T → ℕ → ℕ → Type 0
RowReclaims w i b = (c : Settle) × (w.row i ≡ Settles c) × IsToReclaim c b

module _ (slot b : ℕ) where
  disposal_row : (stands : Disposing) → DisposesNext stands b → (c : Settle) × (row_of_disposal slot stands ≡ Settles c) × IsToReclaim c b
  disposal_row (disposes.Settles settle) next = (settle, refl, next)
  disposal_row _ next = absurd next

  copier_row : (stands : Copying) → CopiesNext stands b → (c : Settle) × (row_of_copier stands ≡ Settles c) × IsToReclaim c b
  copier_row (copies.Retires settle rest) next = (settle, refl, next)
  copier_row _ next = absurd next

  call_row : (stands : Calling) → CallsNext stands b → (c : Settle) × (row_of slot stands ≡ Settles c) × IsToReclaim c b
  call_row (at.Disposes dispose answer) next = disposal_row dispose.stands next
  call_row (at.Helps copier goal) next = copier_row copier.stands next
  call_row (at.Copies copier) next = copier_row copier.stands next
  call_row _ next = absurd next

  room_row : (stands : Reserving) → ReservesNext stands b → (c : Settle) × (row_of_room stands ≡ Settles c) × IsToReclaim c b
  room_row (reserving.Copies copier) next = copier_row copier.stands next
  room_row _ next = absurd next

  sweep_row : (stands : Sweeping) → SweepsNext stands b → (c : Settle) × (row_of_sweep slot stands ≡ Settles c) × IsToReclaim c b
  sweep_row (sweeping.Copies copier) next = copier_row copier.stands next
  sweep_row (sweeping.Disposes dispose) next = disposal_row dispose.stands next
  sweep_row _ next = absurd next

-- what has yet to be begun is not to reclaim a block next
module _ {K V : Type 0} (same : K → K → Bool) (hash : K → ℕ) (w : World (Node K V)) (caller : ℕ) (setting : Setting) (c : Chart K) (blocks : Blocks) (b : ℕ) where
  retire_begun : (settle : Settle) (block : ℕ) → IsToRetire w caller setting settle block → IsToReclaim settle b → ⊥
  retire_begun settle block to_retire next = subst (λ (x : Settle). IsReclaiming x.stands) to_retire.0 next.0

  disposing_begun : (n t : ℕ) (stands : Disposing) → DisposingFacts w caller setting c blocks n t stands → DisposesNext stands b → ⊥
  disposing_begun n t (disposes.Settles settle) (to_retire, nowhere) next = retire_begun settle (blocks.pair n) to_retire next
  disposing_begun n t disposes.Reads point next = next
  disposing_begun n t (disposes.Walks table) point next = next
  disposing_begun n t (disposes.Defers defer) point next = next
  disposing_begun n t disposes.Over point next = next

  dispose_begun : (d : Dispose) → DisposeFacts w caller setting c blocks d → DisposesNext d.stands b → ⊥
  dispose_begun d f next = disposing_begun f.n f.t d.stands f.point next

  copying_begun : (p : Copier) (stands : Copying) → CopyingFacts same hash w caller setting c blocks p stands → CopiesNext stands b → ⊥
  copying_begun p (copies.Retires settle rest) (s, below, to_retire, last, done, claims, known) next = retire_begun settle (blocks.table s) to_retire next
  copying_begun p _ point next = next

  blocking_begun : (p : Copier) (stands : Copying) → CopyingFactsBlocking same hash w caller setting c blocks p stands → CopiesNext stands b → ⊥
  blocking_begun p (copies.Retires settle rest) (s, unlinked, to_retire, further) next = retire_begun settle (blocks.table s) to_retire next
  blocking_begun p _ point next = next

  late_begun : (began : ℕ) (p : Copier) (stands : Copying) → SupersededCopying same hash w caller setting c blocks began p stands → CopiesNext stands b → ⊥
  late_begun began p (copies.Retires settle rest) (s, t, unlinked, to_retire, further) next = retire_begun settle (blocks.table s) to_retire next
  late_begun began p _ point next = next

  whole_begun : (p : Copier) → CopiesWhole same hash w caller setting c blocks p → CopiesNext p.stands b → ⊥
  whole_begun p facts next = by (is_incremental setting.mode) facts
    where
      by : (x : Bool) → cond x ((p.whole ≡ true) × CopierFacts same hash w caller setting c blocks p × IsEnding same hash w caller setting c blocks p p.stands)
          (CopierFactsBlocking same hash w caller setting c blocks p) → ⊥
      by true f = let its = f.1 in copying_begun p p.stands its.point next
      by false f = blocking_begun p p.stands f.point next

  module _ {Q : Type 0} (asks : Q → K → Bool) (keys : K → Bool) (change : Change) (began : ℕ) (p : KeyCall K V Q) where
    calling_begun : (stands : Calling) → CallingFacts same hash asks w caller setting c blocks keys change p stands → CallsNext stands b → ⊥
    calling_begun (at.Disposes dispose answer) (facts, tells) next = dispose_begun dispose facts next
    calling_begun (at.Helps copier goal) (its, incremental, part, t, entered, shut, facts) next = copying_begun copier copier.stands facts.point next
    calling_begun (at.Copies copier) (its, blocking, facts) next = blocking_begun copier copier.stands facts.point next
    calling_begun _ point next = next

    late_calling_begun : (stands : Calling) → SupersededCalling same hash asks w caller setting c blocks keys began p stands → CallsNext stands b → ⊥
    late_calling_begun (at.Copies copier) (its, facts) next = late_begun began copier copier.stands facts.point next
    late_calling_begun (at.Disposes dispose answer) point next = point
    late_calling_begun (at.Helps copier goal) point next = point
    late_calling_begun _ point next = next

  reserving_begun : (stands : Reserving) → ReservingFacts same hash w caller setting c blocks stands → ReservesNext stands b → ⊥
  reserving_begun (reserving.Copies copier) point next = whole_begun copier point next
  reserving_begun _ point next = next

  late_reserving_begun : (began : ℕ) (stands : Reserving) → SupersededReserving same hash w caller setting c blocks began stands → ReservesNext stands b → ⊥
  late_reserving_begun began (reserving.Copies copier) point next = late_begun began copier copier.stands point.point next
  late_reserving_begun began _ point next = next

  table_begun : (began : ℕ) (p : Copier) → CopiesTable same hash w caller setting c blocks began p → CopiesNext p.stands b → ⊥
  table_begun began p (inl whole) next = whole_begun p whole next
  table_begun began p (inr (blocking, late)) next = late_begun began p p.stands late.point next

  sweeping_begun : (began : ℕ) (p : Sweep) (stands : Sweeping) → SweepingFacts same hash w caller setting c blocks began p stands → SweepsNext stands b → ⊥
  sweeping_begun began p (sweeping.Copies copier) point next = table_begun began copier point next
  sweeping_begun began p (sweeping.Disposes dispose) (removes, t, at_place, facts) next = dispose_begun dispose facts next
  sweeping_begun began p _ point next = next

module _ {K V S : Type 0} (same : K → K → Bool) (hash : S → K → ℕ) (batch_size roots : ℕ) (scene : Scene K V) (all : AllStand same hash batch_size roots slot_of scene)
    (m : ℕ) (s : Standing K) (stands : scene.maps m ≡ Some s) (i b : ℕ) where
  abbrev w : World (Node K V)
  w = scene.world

  together : Together V same s.hash same s.setting slot_of w s.chart s.blocks s.sights (scene.calls m)
  together = all.makings.standing.each m s stands

  abbrev here : Setting
  here = in_slot s.setting (slot_of i)

  abbrev seen : Blocks
  seen = seen_by s.blocks (s.sights (slot_of i))

  -- whichever call it is
  pub row_reclaims : (u : UnderWay K V K) → scene.calls m i ≡ Some u → IsNextOf (machine_of u) b → RowReclaims w i b
  row_reclaims (OnKey u) has next = by (together.stand i (OnKey u) has)
    where
      by : IsAtPoint V same s.hash same s.setting slot_of w s.chart seen i (OnKey u) → RowReclaims w i b
      by (inl (rests, knows)) = elim knows.facts as (λ _. RowReclaims w i b) [
        | inl facts ↦ absurd (calling_begun same s.hash w i here s.chart seen b same u.keys u.change u.began u.call u.call.stands facts.point next)
        | inr late ↦ absurd (late_calling_begun same s.hash w i here s.chart seen b same u.keys u.change u.began u.call u.call.stands late.1.point next)
      ]
      by (inr (row, is_row, knows)) = let r = call_row (slot_of i) b u.call.stands next in (r.0, row ∙ r.1, r.2)
  row_reclaims (ForRoom r) has next = by (together.stand i (ForRoom r) has)
    where
      by : IsAtPoint V same s.hash same s.setting slot_of w s.chart seen i (ForRoom r) → RowReclaims w i b
      by (inl (rests, knows)) = elim knows.facts as (λ _. RowReclaims w i b) [
        | inl facts ↦ absurd (reserving_begun same s.hash w i here s.chart seen b r.reserve.stands facts.point next)
        | inr late ↦ absurd (late_reserving_begun same s.hash w i here s.chart seen b r.began r.reserve.stands late.point next)
      ]
      by (inr (row, is_row, knows)) = let x = room_row (slot_of i) b r.reserve.stands next in (x.0, row ∙ x.1, x.2)
  row_reclaims (Counting sum) has next = absurd next
  row_reclaims (OverAll o) has next = by (together.stand i (OverAll o) has)
    where
      by : IsAtPoint V same s.hash same s.setting slot_of w s.chart seen i (OverAll o) → RowReclaims w i b
      by (inl (rests, knows)) = absurd (sweeping_begun same s.hash w i here s.chart seen b o.began o.sweep o.sweep.stands knows.facts.point next)
      by (inr (row, is_row, knows)) = let x = sweep_row (slot_of i) b o.sweep.stands next in (x.0, row ∙ x.1, x.2)

-- Whoever takes a step that is none of a call, the rows within calls are as they were, and keep a block of the batch that they close.
use Rattle.std.specs.Prelude.{◌≡◌, ℕ, zero, suc, ◌<◌, Bool, Option, Some, None, is_some}
use Rattle.std.proofs.Common.{refl, ap, sym, subst, ◌∙◌, arith, inl, inr}
use Rattle.run_shows.specs.Given.SeizeWordsMem.{value_at}
use Rattle.run_shows.specs.Given.SeizeLaw.{Ended, holds}
use Rattle.run_shows.specs.Given.SeizeWorld.{World, Row, Runs, with_effect, times}
use Rattle.run_shows.proofs.Given.SeizeRuleRows.Others.{begins_others, steps_others}
use Rattle.run_shows.proofs.Given.SeizeAloneHistories.Reached.{Reached}
use Rattle.run_shows.specs.Given.TablesNodes.{deferred_word}
use Rattle.run_shows.specs.Given.TablesDeclared.node.Node.{Node}
use Rattle.run_shows.specs.Given.CallersTogether.{UnderWay}
use Rattle.run_shows.proofs.Given.CallersTogether.Came.{came_reached}
use Rattle.run_shows.proofs.Given.CallersTogether.Fits.{unless_on}
use Rattle.run_shows.proofs.Given.CallersTogether.Users.{events_rows}
use Rattle.run_shows.specs.Given.FinishesFactsEnds.{Deed, events_of, taken_by}
use Rattle.run_shows.specs.Given.FinishesMaps.{with_call}
use Rattle.run_places.specs.Hands.Others.{RowsBeginAside, RowsGoAside, MakingsGoAside, EndingsBeginAside, EndingsGoAside, CallsGoAside}
use Rattle.run_places.specs.Hands.Rows.{ReclaimsNone, HoldsOne, KeepsOne, RowsReclaimNone}
use Rattle.run_places.proofs.Hands.Asking.{which}
use Rattle.run_shows.proofs.Scenes.Between.{deed_between}
use Rattle.run_places.proofs.Hands.Guarded.{IsInStill, in_at_first, all_between_in, one_of_still, there_still, step_keeps_one, begin_keeps_one, runs_keep_one}
use Rattle.run_places.proofs.Hands.RowsOn.{RowSo, inside_of, kept_within}
use Rattle.run_places.proofs.Hands.SettlingRows.{one_kept}
use Rattle.run_shows.specs.Scenes.Ending.{ending_begun}
use Rattle.run_shows.specs.Scenes.Held.{Held, IsAt}
use Rattle.run_shows.specs.Scenes.Rows.{request_of}
use Rattle.run_shows.specs.Scenes.Scene.{HasNoCall, Scene, slot_of}
use Rattle.run_shows.proofs.Scenes.NoCall.{no_call}

module _ {K V : Type 0} (s : Scene K V) (rows : RowsReclaimNone s) (w2 : World (Node K V)) where
  -- the row of a call that is under way is as it was, and keeps its block of a batch
  abbrev IsSameRow : ℕ → Type 0
  IsSameRow j = (w2.row j ≡ s.world.row j) × KeepsOne (HoldsOne w2 (slot_of j)) (s.world.row j)

  row_so : (n j : ℕ) (x : UnderWay K V K) → s.calls n j ≡ Some x → IsSameRow j → RowSo w2 j
  row_so n j x is it = (
    subst ReclaimsNone (sym it.0) (rows.none n j x is),
    subst (KeepsOne (HoldsOne w2 (slot_of j))) (sym it.0) it.1,
  )

  -- so they reclaim nothing still
  rows_still : (rest : Scene K V) → rest.calls ≡ s.calls → rest.world ≡ w2 → ((n j : ℕ) (x : UnderWay K V K) → s.calls n j ≡ Some x → IsSameRow j) → RowsReclaimNone rest
  rows_still rest calls world each = record { none = λ n j x is. (so n j x is).0; one = λ n j x is. (so n j x is).1 }
    where
      so : (n j : ℕ) (x : UnderWay K V K) → rest.calls n j ≡ Some x → RowSo rest.world j
      so n j x is =
          let was = subst (λ (f : ℕ → ℕ → Option (UnderWay K V K)). f n j ≡ Some x) calls is in subst (λ (v : World (Node K V)). RowSo v j) (sym world) (row_so n j x was (each n j x was))

module _ {K V : Type 0} {size : ℕ} (w : World (Node K V)) (r : Reached deferred_word size w) (slot first : ℕ) (one : HoldsOne w slot first) where
  -- a step of the end of a map, which takes no block that a section holds
  end_keeps_one : (i : ℕ) (d : Deed) (w2 : World (Node K V)) → Runs deferred_word size (events_of i d) w w2 → ((t x : ℕ) → times x (taken_by d) ≡ 0 → holds t x w2.log ≡ holds t x w.log)
      → ((x : ℕ) → 0 < times x (taken_by d) → value_at w2.memory x ≡ None) → HoldsOne w2 slot first
  end_keeps_one i d w2 runs held gone = one_of_still w r slot first one w2 still (held slot one.block (by (times one.block (taken_by d)) refl) ∙ one.held)
    where
      still : IsInStill w r slot first one w2
      still = all_between_in w r slot first one (events_of i d) w w2 (deed_between (Node K V) i d) runs (in_at_first w r slot first one)

      by : (k : ℕ) → times one.block (taken_by d) ≡ k → times one.block (taken_by d) ≡ 0
      by zero e = e
      by (suc k) e =
          let none = ap is_some (gone one.block (omega (arith, e))) in
          let there = there_still w r slot first one w2 still in
          absurd (cc (none, there))

-- who has no call is no caller of one
module _ {K V : Type 0} (s : Scene K V) (i : ℕ) (none : HasNoCall s i) where
  another : (n j : ℕ) (x : UnderWay K V K) → s.calls n j ≡ Some x → j ≡ i → ⊥
  another n j x is e = no_call s i none (n, x, ap (s.calls n) (sym e) ∙ is)

module _ (K V : Type 0) (same : K → K → Bool) (hash : ℕ → K → ℕ) where
  reached : (s : Scene K V) (e : Held K V) → IsAt same hash e s → Reached deferred_word e.batch_size s.world
  reached s e at = came_reached e.batch_size s.world at.together.makings.standing.came

  pub rows_begin_aside : RowsBeginAside K V same hash
  rows_begin_aside s old new at rows called i leads =
      let to = leads.2 in
      rows_still s rows to.0 (record s { world = to.0; maps = to.2 }) refl refl (λ n j x is. (
        begins_others deferred_word old.batch_size s.world to.0 i j (another s i leads.1 n j x is) (request_of (slot_of i) called) to.1.1,
        one_kept (HoldsOne s.world (slot_of j)) (HoldsOne to.0 (slot_of j))
            (λ first one. begin_keeps_one s.world (reached s old at) (slot_of j) first one i (request_of (slot_of i) called) to.0 to.1) (s.world.row j) (rows.one n j x is),
      ))

  pub rows_go_aside : RowsGoAside K V same hash
  rows_go_aside s old new at rows i told leads row here =
      let to = (leads row here).2 in
      rows_still s rows to.0 (record s { world = to.0; maps = to.2 }) refl refl (λ n j x is. (
        steps_others deferred_word old.batch_size s.world to.0 i j (another s i here.0 n j x is) (s.world.row i) to.1,
        kept_within same hash s old at (HoldsOne to.0 (slot_of j)) n j x is
            (unless_on x (λ in_it first one. step_keeps_one s.world (reached s old at) (slot_of j) first one i to.0 in_it to.1) (inside_of same hash s old at n j x is)) (rows.one n j x is),
      ))

  pub makings_go_aside : MakingsGoAside K V same hash
  makings_go_aside s old new at rows i told leads b here =
      let step = (leads b here).2.step in
      rows_still s rows step.w2 (record s { world = step.w2 }) refl refl (λ n j x is. (
        ap (λ (f : ℕ → Row). f j) (events_rows old.batch_size step.events s.world step.w2 step.users step.runs),
        kept_within same hash s old at (HoldsOne step.w2 (slot_of j)) n j x is
            (unless_on x (λ in_it first one. runs_keep_one (slot_of j) first s.world (reached s old at) one step.events step.w2 in_it step.users step.runs) (inside_of same hash s old at n j x is))
            (rows.one n j x is),
      ))

  pub endings_go_aside : EndingsGoAside K V same hash
  endings_go_aside s old new at rows i told leads f here =
      let did = (leads f here).2 in
      rows_still s rows did.w2 (record s { world = did.w2 }) refl refl (λ n j x is. (
        ap (λ (g : ℕ → Row). g j) did.spares.rows,
        one_kept (HoldsOne s.world (slot_of j)) (HoldsOne did.w2 (slot_of j))
            (λ first one. end_keeps_one s.world (reached s old at) (slot_of j) first one i did.deed did.w2 did.runs did.spares.held did.spares.gone) (s.world.row j) (rows.one n j x is),
      ))

module _ (K V : Type 0) where
  pub endings_begin_aside : EndingsBeginAside K V
  endings_begin_aside s rows map i standing =
      rows_still s rows (with_effect s.world (Ended standing.setting.counter)) (ending_begun map i standing s) refl refl (λ n j x is. (
        refl,
        one_kept (HoldsOne s.world (slot_of j)) (HoldsOne (with_effect s.world (Ended standing.setting.counter)) (slot_of j))
            (λ first one. record { block = one.block; held = one.held; retired = one.retired; is_first = one.is_first }) (s.world.row j) (rows.one n j x is),
      ))

  pub calls_go_aside : CallsGoAside K V
  calls_go_aside s rows map i u here next = record { none = λ n j x is. (so n j x is).0; one = λ n j x is. (so n j x is).1 }
    where
      so : (n j : ℕ) (x : UnderWay K V K) → with_call s.calls map i next n j ≡ Some x → RowSo s.world j
      so n j x is = elim (which s.calls map i next n j x is) as (λ _. RowSo s.world j) [
        | inl its ↦ subst (λ (k : ℕ). RowSo s.world k) (sym its.1) (rows.none map i u here, rows.one map i u here)
        | inr was ↦ (rows.none n j x was.1, rows.one n j x was.1)
      ]

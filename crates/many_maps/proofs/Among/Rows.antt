-- A step of a row, within a call or between calls, spares each end of a map.
use Rattle.std.specs.Prelude.{Option, Some, None}
use Rattle.std.proofs.Common.{◌≡◌, ℕ, Bool, refl, subst}
use Rattle.many_calls.specs.Given.SeizeWorld.{World, Request, Begin, Step, Happens}
use Rattle.many_calls.specs.Given.TablesNodes.{deferred_word}
use Rattle.many_calls.specs.Given.TablesDeclared.node.Node.{Node}
use Rattle.many_maps.specs.Makings.{Beginning, AllMakingsStand}
use Rattle.many_maps.specs.Maps.{Standing}
use Rattle.many_calls.specs.Together.{OnKey, UnderWay, IsOfSlots, IsOneStep}
use Rattle.many_maps.proofs.Beside.Endings.Rows.{step_spares_end, slots_spare_end, one_step_spares_end}
use Rattle.many_maps.proofs.Beside.Endings.Spares.{SparesEnd}
use Rattle.many_maps.proofs.Beside.Makings.RowSteps.{same_setting, rows_stand_beside, guards_stand_beside}
use Rattle.many_maps.specs.Endings.{Finishing, EndingsTogether, AllEndingsStand, RowsPreserveWithEndings, GuardsPreserveWithEndings}
use Rattle.many_maps.proofs.Among.Beside.{IsSparedEnd, other_owner, endings_same}
use Rattle.many_maps.proofs.Among.Calls.{no_ender, ender_alone}

module _ {K Q : Type 0} (V : Type 0) (same : K → K → Bool) (asks : Q → K → Bool) (batch_size roots : ℕ) (slot : ℕ → ℕ)
    (w : World (Node K V)) (maps : ℕ → Option (Standing K)) (calls : ℕ → ℕ → Option (UnderWay K V Q)) (makers : ℕ → Option (Beginning K)) (enders : ℕ → Option (Finishing K V))
    (all : EndingsTogether V same asks batch_size roots slot w maps calls makers enders) where
  -- what stands on, with the makings, does so with the ends
  pub all_on : (w2 : World (Node K V)) → ((j : ℕ) (f : Finishing K V) → enders j ≡ Some f → IsSparedEnd batch_size w w2 j f) → (calls2 : ℕ → ℕ → Option (UnderWay K V Q))
      → ((j : ℕ) (f : Finishing K V) → enders j ≡ Some f → (m : ℕ) → calls2 m j ≡ None) → AllMakingsStand V same asks batch_size roots slot w2 maps calls2 makers
      → AllEndingsStand V same asks batch_size roots slot w2 maps calls2 makers enders
  all_on w2 spared calls2 alone2 (maps2, is, makings2) = (
    maps2,
    is,
    endings_same V same asks batch_size roots slot w maps calls makers enders all w2 spared maps2 calls2 makings2 alone2 (λ m s2 here. same_setting (maps m) (maps2 m) (is m) s2 here),
  )

  -- a row works for whichever owner
  step_spares : (i : ℕ) (w2 : World (Node K V)) → Happens deferred_word batch_size (Step i) w w2 → (j : ℕ) (f : Finishing K V) → enders j ≡ Some f → IsSparedEnd batch_size w w2 j f
  step_spares i w2 h j f ends = (f.setting.counter, λ has. refl, step_spares_end batch_size w all.makings.standing.came i w2 h f.setting.counter f.setting.root j)

  slots_spare : (i : ℕ) (w2 : World (Node K V)) (request : Request) → IsOfSlots request → Happens deferred_word batch_size (Begin i request) w w2 → (j : ℕ) (f : Finishing K V) → enders j ≡ Some f
      → IsSparedEnd batch_size w w2 j f
  slots_spare i w2 request of h j f ends = (f.setting.counter, λ has. refl, slots_spare_end batch_size w all.makings.standing.came f.setting.counter f.setting.root j i w2 request of h)

  -- but for the map that the call is on
  pub within_spares : (m : ℕ) (s : Standing K) → maps m ≡ Some s → (i : ℕ) (w2 : World (Node K V)) → IsOneStep s.setting i w w2 → (j : ℕ) (f : Finishing K V) → enders j ≡ Some f → IsSparedEnd batch_size w w2 j f
  within_spares m s here i w2 one j f ends =
      let o = other_owner f s.setting.counter (all.counters_apart j m f s ends here) in (
        o.0,
        o.1,
        subst (λ (size : ℕ). SparesEnd w w2 size o.0 f.setting.root j) (all.makings.standing.fit m s here).2
            (one_step_spares_end s.setting w (all.makings.standing.each m s here).ground.came o.0 f.setting.root j i o.2 w2 one),
      )

module _ {K Q : Type 0} (V : Type 0) (same : K → K → Bool) (asks : Q → K → Bool) (batch_size roots : ℕ) (slot : ℕ → ℕ) where
  pub rows_stand_among : RowsPreserveWithEndings V same asks batch_size roots slot
  rows_stand_among w maps calls makers enders all m s here i u has is_row =
      let leads = rows_stand_beside V same asks batch_size roots slot w maps calls makers all.makings m s here i u has is_row in (
        leads.0,
        λ m2 p2 progress st.
            let to = leads.1 m2 p2 progress st in
            record {
              is_row = is_row;
              step = to.step;
              together = all_on V same asks batch_size roots slot w maps calls makers enders all to.step.w2
                  (within_spares V same asks batch_size roots slot w maps calls makers enders all m s here i to.step.w2 to.step.happened) _
                  (ender_alone V same asks batch_size roots slot w maps calls makers enders all m i _ (no_ender V same asks batch_size roots slot w maps calls makers enders all m i (OnKey u) has)) to.together;
            },
      )

  pub guards_stand_among : GuardsPreserveWithEndings V same asks batch_size roots slot
  guards_stand_among w maps calls makers enders all i alone =
      let guards = guards_stand_beside V same asks batch_size roots slot w maps calls makers all.makings i alone in
      let none : (j : ℕ) (f : Finishing K V) → enders j ≡ Some f → (m : ℕ) → calls m j ≡ None = λ j f ends. (all.alone j f ends).0 in (
        λ request of apart w2 h. all_on V same asks batch_size roots slot w maps calls makers enders all w2 (slots_spare V same asks batch_size roots slot w maps calls makers enders all i w2 request of h) calls none
            (guards.0 request of apart w2 h),
        guards.1,
        λ w2 h. all_on V same asks batch_size roots slot w maps calls makers enders all w2 (step_spares V same asks batch_size roots slot w maps calls makers enders all i w2 h) calls none (guards.2 w2 h),
      )

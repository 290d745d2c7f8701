-- On the slot of a seat that has nothing under way no row works.
use Rattle.std.specs.Prelude.{Option, Some, None, eqb, cond, length}
use Rattle.std.proofs.Common.{◌≡◌, ℕ, ◌+◌, Bool, true, false, List, [], ◌∷◌, inl, inr, refl, sym, subst, ap, arith, ◌∙◌}
use Rattle.seize.specs.Law.{is_open}
use Rattle.seize.specs.World.{Row, Rests, Registers, Enters, Settles, Leaves, Defers, Frees, Use, Outside, Inside}
use Rattle.seize_model.specs.Given.SeizeWaitingHeld.{count, same as is_same}
use Rattle.map_tables.specs.Nodes.{deferred_word}
use Rattle.map_tables.specs.declared.node.Node.{Node}
use Rattle.many_acts.specs.Given.CallersRows.{IsRowOn}
use Rattle.seize_model.proofs.Given.SeizeMovesState.Ghost.{emptied}
use Rattle.seize_model.proofs.Given.SeizeRuleRows.Known.{works_on}
use Rattle.seize_model.proofs.Given.SeizeRuleRows.Teams.{UseFits, shares, is_shared}
use Rattle.many_acts.proofs.Given.CallersTogether.Came.{came_reached}
use Rattle.many_acts.specs.Given.ScenesScene.{Scene}
use Rattle.seize_model.proofs.Alone.Histories.Reached.{Reached}
use Rattle.seize_seats.specs.Seats.Errands.{IsUnlent}
use Rattle.seize_seats.specs.Seats.State.{State, view_of}
use Rattle.seize_views.specs.Views.Rows.{row_of, use_of, used_for}
use Rattle.seize_views.specs.declared.view.Deferral.TheVariants.{Puts}
use Rattle.seize_views.specs.declared.view.Fixed.{Fixed}
use Rattle.seize_views.specs.declared.view.SlotView.{SlotView}
use Rattle.seize_views.specs.declared.view.SlotView.TheVariants as slot_view
use Rattle.seize_views.specs.declared.view.Why.TheVariants.{Retiring}
use Rattle.threads_rule.specs.Views.Rule.{MapsWorld, DoesSo, AreSo, Holds, LeansOn, section_of, LeansUnder}
use Rattle.threads_rule.specs.declared.view.Map.{Map}
use Rattle.threads_rule.specs.declared.view.View.{View}
use Rattle.threads_rule.specs.declared.view.SeatWork.{SeatWork}
use Rattle.threads_rule.specs.declared.view.SeatWork.TheVariants.{Nothing, Calls, Makes, Ends}
use Rattle.threads_rule.proofs.Views.Leaves.{own_section}
use Rattle.threads_rule.proofs.Views.Moved.{scene_of, all_stand, are_so}
use Rattle.threads_rule.proofs.Views.Whose.{whose}
use Rattle.seize_words.proofs.General.{same_some}

-- a row that works beside others on a slot works on the one that it is on
on_slot : (row : Row) (s t : ℕ) → IsRowOn s row → works_on row ≡ t + 1 → shares row ≡ true → s ≡ t
on_slot (Settles c) s t is on sh = omega (arith, is, on)
on_slot (Defers a c) s t is on sh = omega (arith, is, on)
on_slot Rests s t is on sh = absurd (cc sh)
on_slot (Registers c) s t is on sh = absurd (cc sh)
on_slot (Enters c) s t is on sh = absurd (cc sh)
on_slot (Leaves c) s t is on sh = absurd (cc sh)
on_slot (Frees c) s t is on sh = absurd (cc sh)

no_rest : (row : Row) → shares row ≡ true → row ≡ Rests → ⊥
no_rest Rests sh e = cc sh
no_rest (Registers c) sh e = cc e
no_rest (Enters c) sh e = cc e
no_rest (Settles c) sh e = cc e
no_rest (Leaves c) sh e = cc e
no_rest (Defers a c) sh e = cc e
no_rest (Frees c) sh e = cc e

-- the row of a seat that works beside others works on the seat's slot
row_on_slot : {T : Type 0} (k : SlotView T) (t : ℕ) → works_on (row_of k) ≡ t + 1 → shares (row_of k) ≡ true → (b : Use) × (use_of k ≡ Some (t, b))
row_on_slot (slot_view.Settles c (Retiring way) seen left) t on sh =
    let is : c.slot ≡ t = omega (arith, on) in (used_for (Retiring way), ap (λ (a : ℕ). Some (a, used_for (Retiring way))) is)
row_on_slot (slot_view.Defers s (Puts a c)) t on sh = let is : s ≡ t = omega (arith, on) in (Inside 1, ap (λ (b : ℕ). Some (b, Inside 1)) is)
row_on_slot _ t on sh = absurd (cc sh)

same_here : (a : ℕ) (l : List ℕ) → (count a (a ∷ l) ≡ 0) → ⊥
same_here a l e = grind (arith, e)

module _ {K V S : Type 0} (same : K → K → Bool) (hash : S → K → ℕ) (fixed : Fixed) (s : State (Node K V) (View K V S) (MapsWorld K V S)) (h : Holds same hash fixed s)
    (id : ℕ) (v : View K V S) (at_id : view_of s id ≡ Some v) (free : v.work ≡ Nothing) (unlent : IsUnlent LeansUnder id s) (rests : row_of v.slot ≡ Rests) (t : ℕ) (u : Use) (uses : use_of v.slot ≡ Some (t, u)) where
  abbrev scene : Scene K V
  scene = scene_of same hash fixed s h

  so : AreSo same hash s scene
  so = are_so same hash fixed s h

  r : Reached deferred_word fixed.batch_size scene.world
  r = came_reached fixed.batch_size scene.world (all_stand same hash fixed s h).makings.standing.came

  -- whose row works beside others on the slot is no other seat
  other : (j : ℕ) (x : View K V S) (b : Use) → view_of s j ≡ Some x → use_of x.slot ≡ Some (t, b) → x ≡ v
  other j x b at is =
      let one = so.apart j id t b u x v at at_id is uses in same_some x v (sym at ∙ ap (view_of s) one ∙ at_id)

  -- so nobody's does
  by_work : (j a : ℕ) (x : View K V S) → view_of s j ≡ Some x → works_on (scene.world.row a) ≡ t + 1 → shares (scene.world.row a) ≡ true → (work : SeatWork K V S) (map : Option (Map S))
      → x.work ≡ work → DoesSo same hash scene a x.under x.slot map work → ⊥
  by_work j a x at on sh Nothing map is d =
      let slot = row_on_slot x.slot t (ap works_on (sym d.row) ∙ on) (ap shares (sym d.row) ∙ sh) in
      let one = other j x slot.0 at slot.1 in
      no_rest (scene.world.row a) sh (d.row ∙ ap (λ (y : View K V S). row_of y.slot) one ∙ rests)
  by_work j a x at on sh (Calls p) None is d = d
  by_work j a x at on sh (Calls p) (Some map) is d =
      by_under x.under refl (d.1 ∙ ap (λ (b : ℕ). Some b) (on_slot (scene.world.row a) d.0 t d.4 on sh))
    where
      by_under : (under : Option (ℕ × ℕ)) → x.under ≡ under → section_of under x.slot ≡ Some t → ⊥
      by_under None e section =
          let one = other j x (Inside 0) at (ap use_of (own_section x.slot t section)) in
          let work = sym is ∙ ap (λ (y : View K V S). y.work) one ∙ free in cc work
      by_under (Some leant) e section =
          let base = so.leant j leant.0 leant.1 x at e in
          let here = same_some leant.1 t section in
          let one = so.apart leant.0 id t (Inside 0) u base.0 v base.1 at_id (ap use_of base.2 ∙ ap (λ (b : ℕ). Some (b, Inside 0)) here) uses in
          unlent j x at (subst (λ (o : Option (ℕ × ℕ)). LeansOn o id) (sym e) one)
  by_work j a x at on sh (Makes mine m hasher opening) map is d = no_rest (scene.world.row a) sh d.2
  by_work j a x at on sh (Ends machine) map is d = no_rest (scene.world.row a) sh d.2

  nobody : (a : ℕ) → works_on (scene.world.row a) ≡ t + 1 → shares (scene.world.row a) ≡ true → ⊥
  nobody a on sh =
      elim (whose same hash scene (view_of s) so.seats so.unborn a) as (λ _. ⊥) [
        | inl idle ↦ no_rest (scene.world.row a) sh idle.row
        | inr k ↦ by_work k.seat a k.knows k.here on sh k.knows.work k.knows.map refl k.does
      ]

  -- the rows that work there, where it is shared
  none_there : (y : Use) → scene.world.uses t ≡ y → is_shared y ≡ true → r.good.used.team t ≡ []
  none_there y e shared = by (r.good.used.team t) refl
    where
      by : (l : List ℕ) → r.good.used.team t ≡ l → r.good.used.team t ≡ []
      by [] is = is
      by (a ∷ l) is = absurd (on_it (eqb (t + 1) (works_on (scene.world.row a))) refl)
        where
          c : count a (r.good.used.team t) ≡ is_same (t + 1) (works_on (scene.world.row a))
          c = r.good.used.teamed t a

          on_it : (z : Bool) → eqb (t + 1) (works_on (scene.world.row a)) ≡ z → ⊥
          on_it false f = same_here a l (ap (count a) (sym is) ∙ c ∙ ap (λ (z : Bool). cond z 1 0) f)
          on_it true f =
              let is_on : works_on (scene.world.row a) ≡ t + 1 = grind (arith, f) in nobody a is_on (r.good.used.kinds a t is_on ∙ ap is_shared e ∙ shared)

  pub none_inside : (k : ℕ) → scene.world.uses t ≡ Inside k → k ≡ 0
  none_inside k e =
      let team = none_there (Inside k) e refl in
      let fits = subst (λ (x : Use). UseFits x (emptied (r.good.state.head t)) (length (r.good.used.team t)) (is_open t r.good.state.log)) e (r.good.used.fits t) in sym fits.1 ∙ ap length team

  pub none_outside : (k : ℕ) → scene.world.uses t ≡ Outside k → k ≡ 0
  none_outside k e =
      let team = none_there (Outside k) e refl in
      let fits = subst (λ (x : Use). UseFits x (emptied (r.good.state.head t)) (length (r.good.used.team t)) (is_open t r.good.state.log)) e (r.good.used.fits t) in sym fits.1 ∙ ap length team

-- Nobody else settles on the slot of a seat that has a row under way: no two seats have one slot, and nobody leans on that seat.
use Rattle.std.specs.Prelude.{Option, Some, None}
use Rattle.std.proofs.Common.{◌≡◌, ℕ, Bool, ◌⊎◌, inl, inr, refl, sym, subst, ap, ◌∙◌}
use Rattle.seize.specs.World.{Row, Rests, Registers, Enters, Settles, Leaves, Defers, Frees, Use, Inside}
use Rattle.many_acts.specs.Given.CallersRows.{IsRowOn}
use Rattle.many_acts.specs.Given.ScenesScene.{Scene}
use Rattle.seize_acts.specs.Acts.Waits.{SettlesOn}
use Rattle.seize_acts.specs.Bounds.Bounds.{IsAloneOnSlot}
use Rattle.map_tables.specs.declared.node.Node.{Node}
use Rattle.seize_views.specs.Views.Rows.{row_of, use_of}
use Rattle.seize_views.specs.declared.view.Has.TheVariants.{Nothing as NoBlock}
use Rattle.seize_views.specs.declared.view.SlotView.{SlotView}
use Rattle.seize_views.specs.declared.view.SlotView.TheVariants as slot_view
use Rattle.seize_views.proofs.Views.Aside.{settles_used}
use Rattle.threads_rule.specs.Views.Rule.{IsSlot, IsIdle, HasRow, DoesSo, IsLeant, LeansOn, LeansUnder, Fits, caller_at, acts_in, section_of, place_of}
use Rattle.threads_rule.specs.declared.view.Map.{Map}
use Rattle.threads_rule.specs.declared.view.View.{View}
use Rattle.threads_rule.specs.declared.view.SeatWork.{SeatWork}
use Rattle.threads_rule.specs.declared.view.SeatWork.TheVariants.{Nothing, Calls, Makes, Ends}
use Rattle.threads_rule.proofs.Views.Leaves.{own_section}
use Rattle.threads_rule.proofs.Views.Whose.{Seated, whose}
use Rattle.seize_words.proofs.General.{same_some}

-- a row on a slot settles there, if it settles on any
settles_on : (row : Row) (s t : ℕ) → IsRowOn s row → SettlesOn t row → s ≡ t
settles_on (Settles c) s t is on = sym is ∙ on
settles_on (Leaves c) s t is on = sym is ∙ on
settles_on Rests s t is on = absurd on
settles_on (Registers c) s t is on = absurd on
settles_on (Enters c) s t is on = absurd on
settles_on (Defers a c) s t is on = absurd on
settles_on (Frees c) s t is on = absurd on

module _ {K V S : Type 0} (same : K → K → Bool) (hash : S → K → ℕ) (scene : Scene K V) (view : ℕ → Option (View K V S)) (seats : (j : ℕ) (v : View K V S) → view j ≡ Some v → Fits same hash scene j v)
    (unborn : (j t : ℕ) → IsSlot t → view j ≡ None → IsIdle scene (caller_at j t))
    (leant : (j n t : ℕ) (v : View K V S) → view j ≡ Some v → v.under ≡ Some (n, t) → IsLeant view n t)
    (apart : (j k t : ℕ) (a b : Use) (v u : View K V S) → view j ≡ Some v → view k ≡ Some u → use_of v.slot ≡ Some (t, a) → use_of u.slot ≡ Some (t, b) → j ≡ k) where
  -- whose row settles on a slot: it holds the slot, or leans on the seat that does
  pub record Has (a slot : ℕ) : Type 0 where
    pub seat : ℕ
    pub knows : View K V S
    pub here : view seat ≡ Some knows
    pub caller : a ≡ caller_at seat (acts_in knows.under knows.slot)
    pub has : ((used : Use) × (use_of knows.slot ≡ Some (slot, used))) ⊎ ((n : ℕ) × (knows.under ≡ Some (n, slot)))

  by_section : (slot : SlotView (Node K V)) (under : Option (ℕ × ℕ)) (t : ℕ) → section_of under slot ≡ Some t → ((used : Use) × (use_of slot ≡ Some (t, used))) ⊎ ((n : ℕ) × (under ≡ Some (n, t)))
  by_section slot None t is = inl (Inside 0, ap use_of (own_section slot t is))
  by_section slot (Some at) t is = inr (at.0, ap (λ (b : ℕ). Some (at.0, b)) (same_some at.1 t is))

  by_work : (a slot : ℕ) (k : Seated same hash scene view seats unborn a) → SettlesOn slot (scene.world.row a) → (work : SeatWork K V S) (map : Option (Map S))
      → DoesSo same hash scene a k.knows.under k.knows.slot map work → Has a slot
  by_work a slot k on Nothing map d =
      record { seat = k.seat; knows = k.knows; here = k.here; caller = k.caller; has = inl (settles_used k.knows.slot slot (subst (λ (x : Row). SettlesOn slot x) d.row on)) }
  by_work a slot k on (Calls p) None d = absurd d
  by_work a slot k on (Calls p) (Some map) d =
      let one = settles_on (scene.world.row a) d.0 slot d.4 on in
      record { seat = k.seat; knows = k.knows; here = k.here; caller = k.caller; has = by_section k.knows.slot k.knows.under slot (d.1 ∙ ap (λ (b : ℕ). Some b) one) }
  by_work a slot k on (Makes mine m hasher opening) map d = absurd (subst (λ (x : Row). SettlesOn slot x) d.2 on)
  by_work a slot k on (Ends machine) map d = absurd (subst (λ (x : Row). SettlesOn slot x) d.2 on)

  pub has_it : (a slot : ℕ) → SettlesOn slot (scene.world.row a) → Has a slot
  has_it a slot on =
      elim (whose same hash scene view seats unborn a) as (λ _. Has a slot) [
        | inl idle ↦ absurd (subst (λ (x : Row). SettlesOn slot x) idle.row on)
        | inr k ↦ by_work a slot k on k.knows.work k.knows.map k.does
      ]

  module _ (id : ℕ) (v : View K V S) (at : view id ≡ Some v) (own : v.under ≡ None) where
    -- it acts in the slot that it holds
    acts_there : acts_in v.under v.slot ≡ place_of v.slot
    acts_there = ap (λ (u : Option (ℕ × ℕ)). acts_in u v.slot) own

    -- whoever else settles on its slot leans on it
    others_lean : (t : ℕ) (u : Use) → use_of v.slot ≡ Some (t, u) → (k : ℕ) → (k ≡ caller_at id (place_of v.slot) → ⊥) → SettlesOn t (scene.world.row k)
        → (j : ℕ) × (x : View K V S) × (view j ≡ Some x) × (x.under ≡ Some (id, t)) × (v.slot ≡ slot_view.Inside t NoBlock)
    others_lean t u mine k ne on = by b.has
      where
        b : Has k t
        b = has_it k t on

        by : ((used : Use) × (use_of b.knows.slot ≡ Some (t, used))) ⊎ ((n : ℕ) × (b.knows.under ≡ Some (n, t)))
            → (j : ℕ) × (x : View K V S) × (view j ≡ Some x) × (x.under ≡ Some (id, t)) × (v.slot ≡ slot_view.Inside t NoBlock)
        by (inl (used, has)) =
            let seat = apart b.seat id t used u b.knows v b.here at has mine in
            let knows = same_some b.knows v (sym b.here ∙ ap view seat ∙ at) in
            absurd (ne (b.caller ∙ ap (λ (x : View K V S). caller_at b.seat (acts_in x.under x.slot)) knows ∙ ap (λ (a : ℕ). caller_at a (acts_in v.under v.slot)) seat
            ∙ ap (caller_at id) acts_there))
        by (inr (n, under)) =
            let base = leant b.seat n t b.knows b.here under in
            let one = apart n id t (Inside 0) u base.0 v base.1 at (ap use_of base.2) mine in
            let same_view = same_some base.0 v (sym base.1 ∙ ap view one ∙ at) in
            (b.seat, b.knows, b.here, under ∙ ap (λ (a : ℕ). Some (a, t)) one, ap (λ (x : View K V S). x.slot) (sym same_view) ∙ base.2)

    -- nobody else settles where a seat does that has a row under way
    pub alone_on_slot : HasRow scene (caller_at id (place_of v.slot)) v.slot → IsAloneOnSlot (caller_at id (place_of v.slot)) scene.world
    alone_on_slot has i slot ne mine its =
        let its_row = subst (λ (x : Row). SettlesOn slot x) has.row mine in
        let held = settles_used v.slot slot its_row in
        let l = others_lean slot held.0 held.1 i ne its in
        subst (λ (x : SlotView (Node K V)). SettlesOn slot (row_of x)) l.4 its_row

    -- nor on the slot of a seat on which nobody leans
    pub lone_on : ((j : ℕ) (x : View K V S) → view j ≡ Some x → LeansUnder x id → ⊥) → (t : ℕ) (u : Use) → use_of v.slot ≡ Some (t, u) → (k : ℕ) → (k ≡ caller_at id (place_of v.slot) → ⊥)
        → SettlesOn t (scene.world.row k) → ⊥
    lone_on unlent t u mine k ne on =
        let l = others_lean t u mine k ne on in unlent l.0 l.1 l.2 (subst (λ (o : Option (ℕ × ℕ)). LeansOn o id) (sym l.3) refl)

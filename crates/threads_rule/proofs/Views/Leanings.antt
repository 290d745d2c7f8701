-- A seat comes to lean on one that is within its section, and back.
use Rattle.std.specs.Prelude.{◌≢◌, Option, Some, None, slice_get, slice_set}
use Rattle.std.proofs.Common.{◌≡◌, ℕ, Bool, List, [], ◌⊎◌, inl, inr, refl, sym, subst, ap, ◌∙◌}
use Rattle.std.proofs.lemmas.Bool.{cases_eq}
use Rattle.map_tables.specs.declared.node.Node.{Node}
use Rattle.seize.specs.World.{Inside as WithinUse}
use Rattle.many_acts.specs.Given.ScenesScene.{Scene}
use Rattle.seize_seats.specs.Seats.State.{State, view_of, Goes}
use Rattle.seize_views.specs.Views.Rows.{row_of, use_of}
use Rattle.seize_views.specs.declared.view.Fixed.{Fixed}
use Rattle.seize_views.specs.declared.view.SlotView.{SlotView}
use Rattle.seize_views.specs.declared.view.SlotView.TheVariants.{Rests, Inside}
use Rattle.seize_views.specs.declared.view.Has.TheVariants.{Nothing as NoBlock}
use Rattle.seize_views.proofs.Views.Lists.{there, elsewhere}
use Rattle.threads_rule.specs.Views.Begun.{leaning}
use Rattle.threads_rule.specs.Views.Looks.{shown_in}
use Rattle.threads_rule.specs.Views.Promises.{LeaningsBegin, LeaningsEnd}
use Rattle.threads_rule.specs.Views.Rule.{MapsWorld, HasRow, DoesSo, LooksAside, KnowsPair, KnowsTable, IsIdle, IsSlot, IsLeant, IsAside, Fits, Holds, KeepsFor, caller_at, acts_in}
use Rattle.threads_rule.specs.declared.view.View.{View}
use Rattle.threads_rule.specs.declared.view.SeatWork.{SeatWork}
use Rattle.threads_rule.specs.declared.view.SeatWork.TheVariants.{Nothing}
use Rattle.threads_rule.proofs.Views.Leaves.{own_slot}
use Rattle.threads_rule.proofs.Views.Numbers.{first_slot}
use Rattle.threads_rule.proofs.Views.Views.{Had, views_hold}
use Rattle.seize_words.proofs.General.{same_some}

module _ {K V S : Type 0} (same : K → K → Bool) (hash : S → K → ℕ) (fixed : Fixed) (s : State (Node K V) (View K V S) (MapsWorld K V S)) (h : Holds same hash fixed s)
    (id : ℕ) (v : View K V S) (at_id : view_of s id ≡ Some v) (rests : v.slot ≡ Rests) (free : v.work ≡ Nothing) where
  abbrev scene : Scene K V
  scene = s.world.scene

  f : Fits same hash scene id v
  f = h.so.seats id v at_id

  does : HasRow scene (caller_at id (acts_in v.under v.slot)) v.slot
  does = subst (λ (x : SeatWork K V S). DoesSo same hash scene (caller_at id (acts_in v.under v.slot)) v.under v.slot v.map x) free f.does

  -- in each slot it has nothing under way
  idle : (t : ℕ) → IsSlot t → IsIdle scene (caller_at id t)
  idle t is = by (cases_eq t (acts_in v.under v.slot))
    where
      by : (t ≡ acts_in v.under v.slot) ⊎ (t ≢ acts_in v.under v.slot) → IsIdle scene (caller_at id t)
      by (inl e) =
          subst (λ (a : ℕ). IsIdle scene (caller_at id a)) (sym e)
          (record { calls = does.calls; makers = does.makers; enders = does.enders; row = does.row ∙ ap (λ (x : SlotView (Node K V)). row_of x) rests })
      by (inr ne) = f.idle t is ne

  module _ (under : Option (ℕ × ℕ)) (its_slot : IsSlot (acts_in under v.slot)) (on : (n t : ℕ) → under ≡ Some (n, t) → IsLeant (view_of s) n t) where
    abbrev w : View K V S
    w = leaning v under

    abbrev views : List (View K V S)
    views = slice_set s.views id w

    own : Fits same hash scene id w
    own =
        let none = idle (acts_in under v.slot) its_slot in
        let row : HasRow scene (caller_at id (acts_in under v.slot)) v.slot = record {
          row = none.row ∙ sym (ap (λ (x : SlotView (Node K V)). row_of x) rests);
          slot = does.slot;
          calls = none.calls;
          makers = none.makers;
          enders = none.enders;
        } in
        record {
          slot = its_slot;
          does = subst (λ (x : SeatWork K V S). DoesSo same hash scene (caller_at id (acts_in under v.slot)) under v.slot v.map x) (sym free) row;
          aside = aside under;
          map = f.map;
          own = f.own;
          only = subst (λ (x : SeatWork K V S). LooksAside under v.map x) (sym free) tt;
          held = tt;
          table = subst (λ (x : SeatWork K V S). KnowsTable same hash scene x []) (sym free) tt;
          pair = subst (λ (x : SeatWork K V S). KnowsPair same hash scene (caller_at id (acts_in under v.slot)) v.map x v.calls) (sym free) tt;
          idle = λ t is ne. idle t is;
        }
      where
        aside : (o : Option (ℕ × ℕ)) → IsAside o v.slot
        aside None = tt
        aside (Some leant) = rests

    here : (k : ℕ) → k ≡ id → slice_get views k ≡ Some w
    here k e = subst (λ (a : ℕ). slice_get views a ≡ Some w) (sym e) (there s.views id w v at_id)

    had : (k : ℕ) (x : View K V S) → slice_get views k ≡ Some x → (k ≡ id) ⊎ (k ≢ id) → Had same hash fixed s h views k x
    had k x at (inl e) =
        let one = same_some w x (sym (here k e) ∙ at) in
        record {
          knew = v;
          at = ap (view_of s) e ∙ at_id;
          slot = ap (λ (y : View K V S). y.slot) (sym one);
          under =
              inr (
                ap (λ (y : View K V S). y.work) (sym one) ∙ free,
                ap (λ (y : View K V S). y.held) (sym one),
                λ n t is. on n t (ap (λ (y : View K V S). y.under) one ∙ is),
              );
          own = ap (λ (y : View K V S). y.own) (sym one);
          known = inl (ap (λ (y : View K V S). y.map) (sym one), ap (λ (y : View K V S). y.by) (sym one));
          calls = ap (λ (y : View K V S). y.calls) (sym one);
          work = ap (λ (y : View K V S). y.work) (sym one);
          held = λ b y shown. (let none : shown_in w.held b ≡ Some y = ap (λ (z : View K V S). shown_in z.held b) one ∙ shown in absurd (cc none));
          fits = subst (λ (y : View K V S). Fits same hash scene k y) one (subst (λ (a : ℕ). Fits same hash scene a w) (sym e) own);
        }
    had k x at (inr ne) =
        let was = sym (elsewhere s.views id k w ne) ∙ at in
        record { knew = x; at = was; slot = refl; under = inl refl; own = refl; known = inl (refl, refl); calls = refl; work = refl; held = λ b y shown. shown; fits = h.so.seats k x was }

    unborn : (k : ℕ) → slice_get views k ≡ None → (k ≡ id) ⊎ (k ≢ id) → view_of s k ≡ None
    unborn k at (inl e) = let f = here k e in absurd (cc (f, at))
    unborn k at (inr ne) = sym (elsewhere s.views id k w ne) ∙ at

    goes : Goes (Holds same hash fixed) KeepsFor s s.memory id (λ x. x ≡ leaning v under)
    goes = (
      w,
      s.world,
      views_hold same hash fixed s h views (λ k x at. had k x at (cases_eq k id)) (λ k at. unborn k at (cases_eq k id)),
      λ j k b u o ne ne2 at at2 keeps. keeps,
      refl,
    )

-- two seats, each with its slot, are one
same_two : (j t n a : ℕ) → ◌≡◌ {A = Option (ℕ × ℕ)} (Some (j, t)) (Some (n, a)) → (j ≡ n) × (t ≡ a)
same_two j t n a is = let e : ◌≡◌ {A = ℕ × ℕ} (j, t) (n, a) = same_some (j, t) (n, a) is in (ap (λ (p : ℕ × ℕ). p.0) e, ap (λ (p : ℕ × ℕ). p.1) e)

module _ {K S : Type 0} (V : Type 0) (same : K → K → Bool) (hash : S → K → ℕ) where
  pub leanings_begin : LeaningsBegin V same hash
  leanings_begin fixed i j t v u rests own free inside s h at_i at_j apart =
      let its_slot : IsSlot t = its (own_slot u.under u.slot t (WithinUse 0) (h.so.seats j u at_j).aside (ap use_of inside)) in
      goes same hash fixed s h i v at_i rests free (Some (j, t)) its_slot (λ n a is. (u, at n a is, inside ∙ ap (λ (b : ℕ). Inside b NoBlock) (place n a is)))
    where
      its : u.under ≡ None → IsSlot t
      its lone =
          subst (λ (x : SlotView (Node K V)). IsSlot (acts_in None x)) inside (subst (λ (o : Option (ℕ × ℕ)). IsSlot (acts_in o u.slot)) lone (h.so.seats j u at_j).slot)

      at : (n a : ℕ) → ◌≡◌ {A = Option (ℕ × ℕ)} (Some (j, t)) (Some (n, a)) → view_of s n ≡ Some u
      at n a is = ap (view_of s) (sym (same_two j t n a is).0) ∙ at_j

      place : (n a : ℕ) → ◌≡◌ {A = Option (ℕ × ℕ)} (Some (j, t)) (Some (n, a)) → t ≡ a
      place n a is = (same_two j t n a is).1

  pub leanings_end : LeaningsEnd V same hash
  leanings_end fixed id v rests free s h at_id =
      goes same hash fixed s h id v at_id rests free None (subst (λ (x : SlotView (Node K V)). IsSlot (acts_in None x)) (sym rests) first_slot) (λ n t none. absurd (cc none))

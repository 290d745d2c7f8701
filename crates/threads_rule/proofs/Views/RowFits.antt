-- Where a row of a seat has begun, or has taken a step, what the seat knows of it is so.
use Rattle.std.specs.Prelude.{◌≢◌, ◌++◌, ◌∷◌, Option, Some, None}
use Rattle.std.proofs.Common.{◌≡◌, ℕ, Bool, [], ◌⊎◌, inl, inr, refl, sym, subst, ap, ◌∙◌}
use Rattle.std.proofs.lemmas.Bool.{cases_eq}
use Rattle.seize_words.specs.OneMemory.Mem.{Mem}
use Rattle.seize.specs.World.{World, Rests, Use, Vacant, Inside, IsInside}
use Rattle.map_tables.specs.Nodes.{deferred_word}
use Rattle.map_tables.specs.declared.node.Node.{Node}
use Rattle.many_acts.specs.Given.CallersRows.{IsUsedAlike}
use Rattle.many_acts.specs.Given.FinishesMaps.{Standing, IsSameMap}
use Rattle.many_acts.specs.Given.ScenesScene.{Scene, slot_of}
use Rattle.many_acts.specs.Acts.Acts.{Act}
use Rattle.many_acts.specs.Acts.Doings.{Does}
use Rattle.many_acts.specs.Acts.Leads.{AllStand}
use Rattle.seize_seats.specs.Seats.Errands.{IsUnlent}
use Rattle.seize_seats.specs.Seats.State.{State, view_of}
use Rattle.seize_views.specs.Views.Rows.{row_of, use_of, IsPlain, IsShort, IsKnown, IsBounded}
use Rattle.seize_views.specs.declared.view.Began.{Began}
use Rattle.seize_views.specs.declared.view.Fixed.{Fixed}
use Rattle.seize_views.specs.declared.view.SlotView.{SlotView}
use Rattle.seize_views.specs.declared.view.SlotView.TheVariants as slot_view
use Rattle.seize_views.specs.declared.view.Why.TheVariants.{Retiring, Ending}
use Rattle.seize_views.proofs.Views.InWorld.{slot_held, slot_of as same_number}
use Rattle.seize_views.proofs.Views.Moved.{not_vacant}
use Rattle.threads_rule.specs.Views.Listed.{AreNumbered}
use Rattle.threads_rule.specs.Views.Rule.{MapsWorld, IsSlot, IsIdle, IsUsedSo, HasRow, DoesSo, Fits, AreSo, KnowsRow, Holds, IsFresh, caller_at, acts_in, section_of, place_of, held_slot, LeansUnder}
use Rattle.threads_rule.specs.declared.view.Map.{Map}
use Rattle.threads_rule.specs.declared.view.View.{View}
use Rattle.threads_rule.specs.declared.view.SeatWork.{SeatWork}
use Rattle.threads_rule.specs.declared.view.SeatWork.TheVariants.{Nothing, Calls, Makes, Ends}
use Rattle.threads_rule.proofs.Views.Knows.{row_of_it}
use Rattle.threads_rule.proofs.Views.Leaves.{Leaves, own_slot, own_section, alike_vacant, map_on, all_last, own_idle}
use Rattle.threads_rule.proofs.Views.Moved.{scene_of, all_stand, are_so, Moved, knows_alike}
use Rattle.seize_words.proofs.General.{same_some}

-- the place is that of the slot that is held
pub held_place : (o p : Option (ℕ × Use)) → slot_held o ≡ slot_held p → held_slot o ≡ held_slot p
held_place None None e = refl
held_place None (Some q) e = absurd (cc e)
held_place (Some q) None e = absurd (cc e)
held_place (Some q) (Some r) e = cc e

-- who has no row under way has settled
rest_bounded : {K V : Type 0} (fixed : Fixed) (n : World (Node K V)) (c : ℕ) (u : SlotView (Node K V)) → row_of u ≡ Rests → IsBounded deferred_word fixed n c u
rest_bounded fixed n c (slot_view.Settles d (Retiring way) seen left) e = absurd (cc e)
rest_bounded fixed n c (slot_view.Settles d (Ending size way) seen left) e = absurd (cc e)
rest_bounded fixed n c slot_view.Rests e = tt
rest_bounded fixed n c (slot_view.Registers d) e = tt
rest_bounded fixed n c (slot_view.Outside t) e = tt
rest_bounded fixed n c (slot_view.Owes t d) e = tt
rest_bounded fixed n c (slot_view.Enters t) e = tt
rest_bounded fixed n c (slot_view.Inside t has) e = tt
rest_bounded fixed n c (slot_view.Leaves t size way) e = tt
rest_bounded fixed n c (slot_view.Left t size way) e = tt
rest_bounded fixed n c (slot_view.Frees t) e = tt
rest_bounded fixed n c (slot_view.Brings d y) e = tt
rest_bounded fixed n c (slot_view.Bears d) e = tt
rest_bounded fixed n c (slot_view.Watches t d) e = tt
rest_bounded fixed n c (slot_view.Under k t d) e = tt
rest_bounded fixed n c (slot_view.Joins block) e = tt
rest_bounded fixed n c (slot_view.Defers t d) e = tt
rest_bounded fixed n c (slot_view.Busy t) e = tt

module _ {K V S : Type 0} (same : K → K → Bool) (hash : S → K → ℕ) (fixed : Fixed) (s : State (Node K V) (View K V S) (MapsWorld K V S)) (h : Holds same hash fixed s)
    (id : ℕ) (v : View K V S) (at_id : view_of s id ≡ Some v) (own : v.under ≡ None) where
  abbrev pub scene : Scene K V
  scene = scene_of same hash fixed s h

  pub all : AllStand same hash fixed.batch_size fixed.roots slot_of scene
  all = all_stand same hash fixed s h

  pub so : AreSo same hash s scene
  so = are_so same hash fixed s h

  pub fits : Fits same hash scene id v
  fits = so.seats id v at_id

  abbrev pub place : ℕ
  place = place_of v.slot

  abbrev pub i : ℕ
  i = caller_at id place

  -- it acts in the slot that it holds
  acts_there : acts_in v.under v.slot ≡ place
  acts_there = ap (λ (u : Option (ℕ × ℕ)). acts_in u v.slot) own

  pub its_place : IsSlot place
  its_place = subst IsSlot acts_there fits.slot

  idle_else : (t : ℕ) → IsSlot t → t ≢ place → IsIdle scene (caller_at id t)
  idle_else t is ne = fits.idle t is (λ e. ne (e ∙ acts_there))

  pub knows : KnowsRow fixed scene id v.slot
  knows = subst (λ (x : Scene K V). KnowsRow fixed x id v.slot) h.scene (h.rows id v at_id)

  -- a slot that some seat has is used
  pub is_used : (j t : ℕ) (a : Use) (x : View K V S) → view_of s j ≡ Some x → use_of x.slot ≡ Some (t, a) → scene.world.uses t ≡ Vacant → ⊥
  is_used j t a x at uses none = by x.work x.map (so.seats j x at).does
    where
      there : (o : Option (ℕ × Use)) → o ≡ Some (t, a) → IsUsedSo scene.world o → IsUsedAlike a Vacant
      there o e f =
          subst (λ (u : Use). IsUsedAlike a u) none (subst (λ (p : Option (ℕ × Use)). IsUsedSo scene.world p) e f)

      lone : x.under ≡ None
      lone = own_slot x.under x.slot t a (so.seats j x at).aside uses

      by : (work : SeatWork K V S) (map : Option (Map S)) → DoesSo same hash scene (caller_at j (acts_in x.under x.slot)) x.under x.slot map work → ⊥
      by Nothing map d = not_vacant x.slot t a uses (alike_vacant a (there (use_of x.slot) uses d.slot))
      by (Calls p) None d = d
      by (Calls p) (Some map) d =
          let mine = sym (ap use_of (own_section x.slot d.0 (ap (λ (u : Option (ℕ × ℕ)). section_of u x.slot) (sym lone) ∙ d.1))) ∙ uses in
          subst (λ (u : Use). IsInside u) none (subst (λ (b : ℕ). IsInside (scene.world.uses b)) (same_number (d.0, Inside 0) (t, a) mine) d.2)
      by (Makes mine m hasher opening) map d = let two = sym (ap use_of d.0) ∙ uses in cc two
      by (Ends machine) map d = let two = sym (ap use_of d.0) ∙ uses in cc two

  module _ (free : v.work ≡ Nothing) where
    pub its : HasRow scene i v.slot
    its = row_of_it same hash scene id v fits own free

    module _ (u : SlotView (Node K V)) (began : Began) (n : World (Node K V)) (maps2 : ℕ → Option (Standing K)) (same_maps : (m : ℕ) → IsSameMap (scene.maps m) (maps2 m)) where
      abbrev pub next : Scene K V
      next = record scene { world = n; maps = maps2 }

      abbrev pub w : View K V S
      w = record { slot = u; under = None; map = v.map; by = v.by; own = v.own; work = Nothing; looks = []; held = []; began = began; calls = v.calls }

      pub maps_on : (m : ℕ) (r : Standing K) → scene.maps m ≡ Some r → (r2 : Standing K) × (maps2 m ≡ Some r2) × (r2.setting ≡ r.setting) × (r2.hash ≡ r.hash)
      maps_on m r is =
          let g = subst (λ (o : Option (Standing K)). IsSameMap o (maps2 m)) is (same_maps m) in (record r { blocks = g.0; sights = g.1 }, g.2, refl, refl)

      fresh_on : IsFresh next so.fresh.0
      fresh_on = (λ m above. subst (λ (o : Option (Standing K)). IsSameMap o (maps2 m)) (so.fresh.1.0 m above) (same_maps m), so.fresh.1.1)

      module _ (leaves : Leaves same hash fixed.batch_size scene next i (use_of v.slot)) (stand : leaves.ends ≡ None) (row : n.row i ≡ row_of u) (used : IsUsedSo n (use_of u))
          (stays : (row_of u ≡ Rests) ⊎ (slot_held (use_of u) ≡ slot_held (use_of v.slot))) (its_slot : IsSlot (place_of u)) where
        abbrev there : ℕ
        there = place_of u

        -- who goes on with its row is the same caller
        goes_on : (there ≡ place) ⊎ (there ≢ place) → (there ≡ place) ⊎ ((there ≢ place) × (row_of u ≡ Rests))
        goes_on (inl e) = inl e
        goes_on (inr ne) =
            elim stays as (λ _. (there ≡ place) ⊎ ((there ≢ place) × (row_of u ≡ Rests))) [
              | inl rests ↦ inr (ne, rests)
              | inr same ↦ absurd (ne (held_place (use_of u) (use_of v.slot) same))
            ]

        does : (there ≡ place) ⊎ ((there ≢ place) × (row_of u ≡ Rests)) → HasRow next (caller_at id there) u
        does (inl e) =
            subst (λ (a : ℕ). HasRow next (caller_at id a) u) (sym e)
            (record { row = row; slot = used; calls = its.calls; makers = its.makers; enders = its.enders })
        does (inr (ne, rests)) =
            let f = own_idle same hash scene next id place its_place fixed.batch_size (use_of v.slot) leaves idle_else there its_slot ne in
            record { row = f.row ∙ sym rests; slot = used; calls = f.calls; makers = f.makers; enders = f.enders }

        idle : (there ≡ place) ⊎ ((there ≢ place) × (row_of u ≡ Rests)) → (a : ℕ) → IsSlot a → a ≢ there → (a ≡ place) ⊎ (a ≢ place) → IsIdle next (caller_at id a)
        idle k a is other (inr ne) = own_idle same hash scene next id place its_place fixed.batch_size (use_of v.slot) leaves idle_else a is ne
        idle (inl e) a is other (inl here) = absurd (other (here ∙ sym e))
        idle (inr (ne, rests)) a is other (inl here) =
            subst (λ (b : ℕ). IsIdle next (caller_at id b)) (sym here)
            (record { calls = its.calls; makers = its.makers; enders = its.enders; row = row ∙ rests })

        bounds : IsBounded deferred_word fixed n i u → (there ≡ place) ⊎ ((there ≢ place) × (row_of u ≡ Rests)) → IsBounded deferred_word fixed n (caller_at id there) u
        bounds b (inl e) = subst (λ (a : ℕ). IsBounded deferred_word fixed n (caller_at id a) u) (sym e) b
        bounds b (inr (ne, rests)) = rest_bounded fixed n (caller_at id there) u rests

        pub go : IsUnlent LeansUnder id s → (act : Act K V S) → AreNumbered 0 (s.world.doings ++ Does act ∷ []) so.fresh.0 → (m : Mem (Node K V)) → m ≡ n.memory → IsPlain u → IsShort u → IsKnown deferred_word n u → IsBounded deferred_word fixed n i u
            → ((j t : ℕ) (a b : Use) (x : View K V S) → j ≢ id → view_of s j ≡ Some x → use_of x.slot ≡ Some (t, a) → use_of u ≡ Some (t, b) → ⊥)
            → Moved same hash fixed s h id act m w next
        go unlent act numbered m memory plain short known bounded alone = record {
          memory = memory;
          own = record {
            slot = its_slot;
            does = does (goes_on (cases_eq there place));
            aside = tt;
            map = map_on same hash scene next id place its_place fixed.batch_size (use_of v.slot) leaves v.map (all_last same hash scene next id place its_place fixed.batch_size (use_of v.slot) leaves stand v.map) fits.map;
            own = map_on same hash scene next id place its_place fixed.batch_size (use_of v.slot) leaves v.own (all_last same hash scene next id place its_place fixed.batch_size (use_of v.slot) leaves stand v.own) fits.own;
            only = tt;
            held = tt;
            table = tt;
            pair = tt;
            idle = λ a is other. idle (goes_on (cases_eq there place)) a is other (cases_eq a place);
          };
          place = place;
          its_slot = its_place;
          mine = use_of v.slot;
          leaves = leaves;
          theirs = λ j t a b x ne at uses mine. ne (so.apart j id t a b x v at at_id uses mine);
          alone = alone;
          under = λ x at. sym own ∙ ap (λ (y : View K V S). y.under) (same_some v x (sym at_id ∙ at));
          knows = knows_alike same hash fixed s h id v w at_id refl refl refl;
          gone = λ m e. absurd (cc (stand, e));
          leant = inr unlent;
          fresh = (so.fresh.0, fresh_on, numbered);
          row = record { plain = plain; short = short; known = known; bounded = bounds bounded (goes_on (cases_eq there place)) };
        }

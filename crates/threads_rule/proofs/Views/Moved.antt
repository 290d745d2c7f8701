-- An act of a seat makes the rule hold again, where it has left what the other seats know.
use Rattle.std.specs.Prelude.{◌≢◌, ◌++◌, length, Option, Some, None, slice_get, slice_set}
use Rattle.std.proofs.Common.{◌≡◌, ℕ, Bool, true, List, [], ◌∷◌, ◌⊎◌, inl, inr, refl, sym, subst, ap, ◌∙◌}
use Rattle.std.proofs.lemmas.Bool.{cases_eq}
use Rattle.seize_words.specs.OneMemory.Mem.{Mem}
use Rattle.seize.specs.Law.{holds}
use Rattle.seize.specs.World.{Use, Inside, IsInside}
use Rattle.map_tables.specs.declared.node.Node.{Node}
use Rattle.map_tables.specs.declared.setting.Setting.{Setting}
use Rattle.papaya_raw.specs.declared.machines.machine.Machine.{Machine}
use Rattle.many_acts.specs.Given.CallersTogether.{CameAbout}
use Rattle.many_acts.specs.Given.ScenesScene.{Scene, slot_of}
use Rattle.many_acts.specs.Acts.Acts.{Act, Answer}
use Rattle.many_acts.specs.Acts.Doings.{Does, MayDo}
use Rattle.many_acts.specs.Acts.Leads.{AllStand}
use Rattle.many_acts.specs.Acts.Lists.{Reached, LedTo, nothing_done, on_by}
use Rattle.seize_seats.specs.Seats.Errands.{IsUnlent}
use Rattle.seize_seats.specs.Seats.State.{State, view_of, Goes}
use Rattle.seize_views.specs.Views.Rows.{use_of}
use Rattle.seize_views.specs.declared.view.Fixed.{Fixed}
use Rattle.seize_views.proofs.Views.Lists.{there, elsewhere}
use Rattle.threads_rule.specs.Views.Listed.{Called, calls_then, calls_of, seen_then, seen_of, AreNumbered, IsItsOwn, IsNewest}
use Rattle.threads_rule.specs.Views.Rule.{MapsWorld, IsSlot, IsIdle, KnowsMap, IsOfMap, IsOwner, AreApart, IsBy, Fits, AreSo, KnowsRow, AreRuns, HasSeen, Holds, KeepsFor, IsLeant, LeansOn, LeansUnder, Leans, caller_at, acts_in, section_of, place_of, runs_of, IsFresh}
use Rattle.threads_rule.specs.declared.view.BegunCall.{BegunCall}
use Rattle.threads_rule.specs.declared.view.Map.{Map}
use Rattle.threads_rule.specs.declared.view.View.{View}
use Rattle.threads_rule.specs.declared.view.SeatWork.TheVariants.{Nothing, Calls}
use Rattle.threads_rule.proofs.Views.Alone.{alone_on_slot}
use Rattle.threads_rule.proofs.Views.Knows.{row_of_it, by_kind, knows_on}
use Rattle.threads_rule.proofs.Views.Listed.{as_long, calls_more, led_more}
use Rattle.threads_rule.proofs.Views.Leaves.{Leaves, Lasts, own_section, section_inside, inside_of, unborn_on, fits_on}
use Rattle.threads_rule.proofs.Views.Lasts.{of_call_lasts}
use Rattle.threads_rule.proofs.Views.Numbers.{seat_apart}
use Rattle.seize_words.proofs.General.{same_some, all_and_one as all_more}

module _ {K V S : Type 0} (same : K → K → Bool) (hash : S → K → ℕ) (fixed : Fixed) (s : State (Node K V) (View K V S) (MapsWorld K V S)) (h : Holds same hash fixed s) where
  abbrev pub scene_of : Scene K V
  scene_of = h.reached.0.0

  pub all_stand : AllStand same hash fixed.batch_size fixed.roots slot_of scene_of
  all_stand = h.reached.0.1

  pub are_so : AreSo same hash s scene_of
  are_so = subst (λ (x : Scene K V). AreSo same hash s x) h.scene h.so

  -- What a seat knows of maps after an act it knew before, or it is of a map that did not stand; and the map that is its own is so still, or nobody leans on it for that.
  pub record KnowsThen (id : ℕ) (x w : View K V S) : Type 0 where
    pub by : (n : ℕ) → w.by ≡ Some n → (x.by ≡ Some n) × (w.map ≡ x.map)
    pub own : (w.own ≡ x.own) ⊎ ((j : ℕ) (y : View K V S) → view_of s j ≡ Some y → y.by ≡ Some id → ⊥)
    pub map : (a : Map S) → w.map ≡ Some a → ((x.map ≡ Some a) × (w.by ≡ x.by)) ⊎ (scene_of.maps a.number ≡ None)
    pub mine : (a : Map S) → w.own ≡ Some a → (x.own ≡ Some a) ⊎ (scene_of.maps a.number ≡ None)
    pub apart : (a b : Map S) → w.map ≡ Some a → w.own ≡ Some b → (x.map ≡ Some a) ⊎ (x.own ≡ Some b)

  -- it knows what it knew
  pub knows_alike : (id : ℕ) (v w : View K V S) → view_of s id ≡ Some v → w.map ≡ v.map → w.by ≡ v.by → w.own ≡ v.own → (x : View K V S) → view_of s id ≡ Some x → KnowsThen id x w
  knows_alike id v w at_id map by own x at = subst (λ (y : View K V S). KnowsThen id y w) (same_some v x (sym at_id ∙ at)) (record {
    by = λ n e. (sym by ∙ e, map);
    own = inl own;
    map = λ a e. inl (sym map ∙ e, by);
    mine = λ a e. inl (sym own ∙ e);
    apart = λ a b e g. inl (sym map ∙ e);
  })

  -- who leans on a seat for a map leans on the owner of one
  pub nobody_by : (id : ℕ) (v : View K V S) → view_of s id ≡ Some v → v.own ≡ None → (j : ℕ) (y : View K V S) → view_of s j ≡ Some y → y.by ≡ Some id → ⊥
  nobody_by id v at_id none j y at e = no_owner y.map (are_so.owned j id y at e)
    where
      no_owner : (o : Option (Map S)) → IsOwner (view_of s) id o → ⊥
      no_owner None base = base
      no_owner (Some a) base = let its = ap (λ (x : View K V S). x.own) (same_some v base.0 (sym at_id ∙ base.1)) in let owns = base.2 in cc (none, its, owns)

  -- The seat has come to this view and this scene by this act, as the caller that it is in this place, and the others know what they knew: what changes of slots is its own.
  pub record Moved (id : ℕ) (act : Act K V S) (m : Mem (Node K V)) (w : View K V S) (n : Scene K V) : Type 0 where
    pub memory : m ≡ n.world.memory
    pub own : Fits same hash n id w
    pub place : ℕ
    pub its_slot : IsSlot place
    pub mine : Option (ℕ × Use)
    pub leaves : Leaves same hash fixed.batch_size scene_of n (caller_at id place) mine
    pub theirs : (j t : ℕ) (a b : Use) (x : View K V S) → j ≢ id → view_of s j ≡ Some x → use_of x.slot ≡ Some (t, a) → mine ≡ Some (t, b) → ⊥
    pub alone : (j t : ℕ) (a b : Use) (x : View K V S) → j ≢ id → view_of s j ≡ Some x → use_of x.slot ≡ Some (t, a) → use_of w.slot ≡ Some (t, b) → ⊥
    pub under : (x : View K V S) → view_of s id ≡ Some x → w.under ≡ x.under
    pub knows : (x : View K V S) → view_of s id ≡ Some x → KnowsThen id x w
    pub gone : (m : ℕ) → leaves.ends ≡ Some m → IsUnlent Leans id s × ((x : View K V S) → view_of s id ≡ Some x → (b : Map S) × (x.own ≡ Some b) × (b.number ≡ m))
    pub leant : ((mine ≡ None) × ((x : View K V S) → view_of s id ≡ Some x → w.slot ≡ x.slot)) ⊎ IsUnlent LeansUnder id s
    pub fresh : (k : ℕ) × IsFresh n k × AreNumbered 0 (s.world.doings ++ Does act ∷ []) k
    pub row : KnowsRow fixed n id w.slot

  -- What the act, which has told this, adds to the list: it is one of its own, tells nothing of another seat's calls, and of those of its seat what is known of them then, and of
  -- what they have seen.
  pub record Adds (id : ℕ) (act : Act K V S) (told : Answer K V) (v w : View K V S) (n : Scene K V) (calls : List (Called K V)) : Type 0 where
    pub own : IsItsOwn hash (Does act)
    pub others : (j : ℕ) → j ≢ id → (theirs : List (Called K V)) → calls_then j (Does act) told theirs ≡ theirs
    pub its : AreRuns same hash calls v.calls → AreRuns same hash (calls_then id (Does act) told calls) w.calls
    pub newest : (machine : Machine K V K) → w.work ≡ Calls machine → IsNewest (caller_at id (acts_in w.under w.slot)) (calls_then id (Does act) told calls)
    pub aside : (j : ℕ) → j ≢ id → (theirs : Option (ℕ × Mem (Node K V))) → seen_then j (Does act) n.world.memory theirs ≡ theirs
    pub seen : (before : Option (ℕ × Mem (Node K V)))
        → HasSeen (caller_at id (acts_in w.under w.slot)) (calls_then id (Does act) told calls) (seen_then id (Does act) n.world.memory before) w.held

  -- the slot that it had is no other seat's
  pub same_slot : (id : ℕ) (v w : View K V S) → view_of s id ≡ Some v → w.slot ≡ v.slot
      → (j t : ℕ) (a b : Use) (x : View K V S) → j ≢ id → view_of s j ≡ Some x → use_of x.slot ≡ Some (t, a) → use_of w.slot ≡ Some (t, b) → ⊥
  same_slot id v w at_id is j t a b x ne at uses its = ne (are_so.apart j id t a b x v at at_id uses (ap use_of (sym is) ∙ its))

  module _ (id : ℕ) (v : View K V S) (at_id : view_of s id ≡ Some v) (act : Act K V S) (may : MayDo V same hash fixed.batch_size fixed.roots slot_of (Does act) h.reached.0) (n : Scene K V)
      (comes : (h.course.next h.reached.0 (Does act) may).0 ≡ n) (m : Mem (Node K V)) (w : View K V S) (go : Moved id act m w n)
      (adds : Adds id act (h.course.told h.reached.0 (Does act) may) v w n (calls_of id s.world.doings h.reached.1 [])) where
    abbrev led_to : Reached V same hash fixed.batch_size fixed.roots slot_of
    led_to = on_by V same hash fixed.batch_size fixed.roots slot_of h.course h.reached (Does act) may

    led_then : (led : LedTo V same hash fixed.batch_size fixed.roots slot_of h.course (s.world.doings ++ Does act ∷ []) led_to)
        × ((j : ℕ) (seen : Option (ℕ × Mem (Node K V)))
        → seen_of V same hash fixed.batch_size fixed.roots slot_of h.course j (s.world.doings ++ Does act ∷ []) (nothing_done V same hash fixed.batch_size fixed.roots slot_of h.course) led_to led seen
        ≡ seen_then j (Does act) led_to.0.0.world.memory
        (seen_of V same hash fixed.batch_size fixed.roots slot_of h.course j s.world.doings (nothing_done V same hash fixed.batch_size fixed.roots slot_of h.course) h.reached h.led seen))
    led_then =
        led_more V same hash fixed.batch_size fixed.roots slot_of h.course s.world.doings (Does act) (nothing_done V same hash fixed.batch_size fixed.roots slot_of h.course) h.reached h.led may

    abbrev led : LedTo V same hash fixed.batch_size fixed.roots slot_of h.course (s.world.doings ++ Does act ∷ []) led_to
    led = led_then.0

    here : (j : ℕ) → j ≡ id → slice_get (slice_set s.views id w) j ≡ Some w
    here j e = subst (λ (a : ℕ). slice_get (slice_set s.views id w) a ≡ Some w) (sym e) (there s.views id w v at_id)

    before : (j : ℕ) → j ≢ id → view_of s j ≡ slice_get (slice_set s.views id w) j
    before j ne = sym (elsewhere s.views id j w ne)

    all_then : AllStand same hash fixed.batch_size fixed.roots slot_of n
    all_then = subst (λ (x : Scene K V). AllStand same hash fixed.batch_size fixed.roots slot_of x) comes led_to.0.1

    came : CameAbout fixed.batch_size n.world
    came = all_then.makings.standing.came

    -- on whom somebody leans is not the one who has left its slot, and is within its section still

    is_leant : (m2 t : ℕ) (x : View K V S) (j : ℕ) → view_of s j ≡ Some x → x.under ≡ Some (m2, t) → IsLeant (λ k. slice_get (slice_set s.views id w) k) m2 t
    is_leant m2 t x j at e = by (cases_eq m2 id)
      where
        base : IsLeant (view_of s) m2 t
        base = are_so.leant j m2 t x at e

        by : (m2 ≡ id) ⊎ (m2 ≢ id) → IsLeant (λ k. slice_get (slice_set s.views id w) k) m2 t
        by (inr ne) = (base.0, sym (before m2 ne) ∙ base.1, base.2)
        by (inl one) = elim go.leant as (λ _. IsLeant (λ k. slice_get (slice_set s.views id w) k) m2 t) [
          | inl stays ↦ (w, here m2 one, stays.1 base.0 (ap (view_of s) (sym one) ∙ base.1) ∙ base.2)
          | inr unlent ↦ absurd (unlent j x at (subst (λ (o : Option (ℕ × ℕ)). LeansOn o id) (sym e) one))
        ]

    not_mine : (j : ℕ) (x : View K V S) → j ≢ id → view_of s j ≡ Some x → (a : ℕ) → section_of x.under x.slot ≡ Some a → (u : Use) → go.mine ≡ Some (a, u) → ⊥
    not_mine j x ne at a section u mine = by x.under refl section
      where
        by : (under : Option (ℕ × ℕ)) → x.under ≡ under → section_of under x.slot ≡ Some a → ⊥
        by None e is = go.theirs j a (Inside 0) u x ne at (ap use_of (own_section x.slot a is)) mine
        by (Some at_it) e is = other (cases_eq at_it.0 id)
          where
            base : IsLeant (view_of s) at_it.0 at_it.1
            base = are_so.leant j at_it.0 at_it.1 x at e

            uses : use_of base.0.slot ≡ Some (a, Inside 0)
            uses = ap use_of base.2 ∙ ap (λ (b : ℕ). Some (b, Inside 0)) (same_some at_it.1 a is)

            other : (at_it.0 ≡ id) ⊎ (at_it.0 ≢ id) → ⊥
            other (inr ne2) = go.theirs at_it.0 a (Inside 0) u base.0 ne2 base.1 uses mine
            other (inl one) = elim go.leant as (λ _. ⊥) [
              | inl stays ↦ let none = stays.0 in cc (none, mine)
              | inr unlent ↦ unlent j x at (subst (λ (o : Option (ℕ × ℕ)). LeansOn o id) (sym e) one)
            ]

    within : (j : ℕ) (x : View K V S) → view_of s j ≡ Some x → (a : ℕ) → section_of x.under x.slot ≡ Some a → IsInside (scene_of.world.uses a)
    within j x at a section = section_inside same hash scene_of (view_of s) are_so.seats are_so.leant j x at a section

    -- the map that ends is known to nobody else

    knew : KnowsThen id v w
    knew = go.knows v at_id

    map_lasts : (j : ℕ) (x : View K V S) → j ≢ id → view_of s j ≡ Some x → (o : Option (Map S)) → x.map ≡ o → Lasts same hash scene_of n id go.place go.its_slot fixed.batch_size go.mine go.leaves o
    map_lasts j x ne at None e = tt
    map_lasts j x ne at (Some a) e = λ ends.
        let g = go.gone a.number ends in
        let b = g.1 v at_id in
        g.0 j x at (inr (subst (λ (o : Option ℕ). IsBy o id) (sym ((are_so.maps j id x v b.0 at at_id b.1).known a e (sym b.2))) refl))

    own_lasts : (j : ℕ) (x : View K V S) → j ≢ id → view_of s j ≡ Some x → (o : Option (Map S)) → x.own ≡ o → Lasts same hash scene_of n id go.place go.its_slot fixed.batch_size go.mine go.leaves o
    own_lasts j x ne at None e = tt
    own_lasts j x ne at (Some a) e = λ ends. let b = (go.gone a.number ends).1 v at_id in ne ((are_so.maps j id x v b.0 at at_id b.1).owned a e (sym b.2))

    seats : (j : ℕ) (x : View K V S) → slice_get (slice_set s.views id w) j ≡ Some x → (j ≡ id) ⊎ (j ≢ id) → Fits same hash n j x
    seats j x at (inl e) =
        subst (λ (y : View K V S). Fits same hash n j y) (same_some w x (sym (here j e) ∙ at)) (subst (λ (a : ℕ). Fits same hash n a w) (sym e) go.own)
    seats j x at (inr ne) =
        let at_j = before j ne ∙ at in
        fits_on same hash scene_of n id go.place go.its_slot fixed.batch_size go.mine go.leaves j x ne (λ t a uses u. go.theirs j t a u x ne at_j uses)
        (not_mine j x ne at_j) (within j x at_j)
        (λ b y is of.
        let f = are_so.seats j x at_j in
        of_call_lasts same hash fixed.batch_size fixed.roots scene_of n all_stand all_then (caller_at id go.place) go.mine go.leaves (caller_at j (acts_in x.under x.slot))
        (λ e. ne (seat_apart j id (acts_in x.under x.slot) go.place f.slot go.its_slot e)) b y is x.under x.slot x.map x.work f.does f.map of)
        (map_lasts j x ne at_j x.map refl) (own_lasts j x ne at_j x.own refl) (are_so.seats j x at_j)

    unborn : (j a : ℕ) → IsSlot a → slice_get (slice_set s.views id w) j ≡ None → (j ≡ id) ⊎ (j ≢ id) → IsIdle n (caller_at j a)
    unborn j a is at (inl e) = let f = here j e in absurd (cc (f, at))
    unborn j a is at (inr ne) =
        unborn_on same hash scene_of n id go.place go.its_slot fixed.batch_size go.mine go.leaves j a ne is (are_so.unborn j a is (before j ne ∙ at))

    apart : (j k t : ℕ) (a b : Use) (x y : View K V S) → slice_get (slice_set s.views id w) j ≡ Some x → slice_get (slice_set s.views id w) k ≡ Some y
        → use_of x.slot ≡ Some (t, a) → use_of y.slot ≡ Some (t, b) → (j ≡ id) ⊎ (j ≢ id) → (k ≡ id) ⊎ (k ≢ id) → j ≡ k
    apart j k t a b x y e f p q (inl one) (inl other) = one ∙ sym other
    apart j k t a b x y e f p q (inl one) (inr ne) =
        let own : use_of w.slot ≡ Some (t, a) = ap (λ (z : View K V S). use_of z.slot) (same_some w x (sym (here j one) ∙ e)) ∙ p in
        absurd (go.alone k t b a y ne (before k ne ∙ f) q own)
    apart j k t a b x y e f p q (inr ne) (inl other) =
        let own : use_of w.slot ≡ Some (t, b) = ap (λ (z : View K V S). use_of z.slot) (same_some w y (sym (here k other) ∙ f)) ∙ q in
        absurd (go.alone j t a b x ne (before j ne ∙ e) p own)
    apart j k t a b x y e f p q (inr ne) (inr ne2) = are_so.apart j k t a b x y (before j ne ∙ e) (before k ne2 ∙ f) p q

    abbrev after : MapsWorld K V S
    after = record { doings = s.world.doings ++ Does act ∷ []; scene = n }

    of_map : (o : Option (Map S)) → Lasts same hash scene_of n id go.place go.its_slot fixed.batch_size go.mine go.leaves o → KnowsMap same hash scene_of o → (t b : ℕ)
        → ((u : Use) → go.mine ≡ Some (t, u) → ⊥) → IsInside (scene_of.world.uses t) → holds t b scene_of.world.log ≡ true → IsOfMap o b scene_of.world
        → (holds t b n.world.log ≡ true) × IsOfMap o b n.world
    of_map None lasts known t b theirs is held of = absurd of
    of_map (Some a) lasts known t b theirs is held of =
        let g = go.leaves.held t b a.number known.0 theirs is lasts known.1 (of ∙ ap (λ (x : Setting). x.counter) (sym known.2)) held in (g.0, g.1 ∙ of)

    kept : (j k b : ℕ) (x o : View K V S) → j ≢ id → k ≢ id → view_of s j ≡ Some x → view_of s k ≡ Some o → KeepsFor x o s.world b → KeepsFor x o after b
    kept j k b x o ne ne2 at at_k keeps = by keep.4
      where
        keep : KeepsFor x o (record { doings = s.world.doings; scene = scene_of }) b
        keep = subst (λ (y : Scene K V). KeepsFor x o (record { doings = s.world.doings; scene = y }) b) h.scene keeps

        is : IsInside (scene_of.world.uses keep.0)
        is = inside_of same hash scene_of j keep.0 x keep.1 (are_so.seats j x at) keep.2

        theirs : (u : Use) → go.mine ≡ Some (keep.0, u) → ⊥
        theirs = λ u. go.theirs j keep.0 (Inside 0) u x ne at (ap use_of keep.2)

        by : IsOfMap o.map b scene_of.world ⊎ IsOfMap o.own b scene_of.world → KeepsFor x o after b
        by (inl of) =
            let g = of_map o.map (map_lasts k o ne2 at_k o.map refl) (are_so.seats k o at_k).map keep.0 b theirs is keep.3 of in (keep.0, keep.1, keep.2, g.0, inl g.1)
        by (inr of) =
            let g = of_map o.own (own_lasts k o ne2 at_k o.own refl) (are_so.seats k o at_k).own keep.0 b theirs is keep.3 of in (keep.0, keep.1, keep.2, g.0, inr g.1)

    -- on whom somebody leans that one has the map still

    is_owner : (j : ℕ) (x : View K V S) (m : ℕ) → view_of s j ≡ Some x → x.by ≡ Some m → (o : Option (Map S)) → IsOwner (view_of s) m o → IsOwner (λ k. slice_get (slice_set s.views id w) k) m o
    is_owner j x m at e None base = absurd base
    is_owner j x m at e (Some a) base = by (cases_eq m id)
      where
        by : (m ≡ id) ⊎ (m ≢ id) → IsOwner (λ k. slice_get (slice_set s.views id w) k) m (Some a)
        by (inr ne) = (base.0, sym (before m ne) ∙ base.1, base.2)
        by (inl one) =
            let its : v ≡ base.0 = same_some v base.0 (sym at_id ∙ ap (view_of s) (sym one) ∙ base.1) in
            elim knew.own as (λ _. IsOwner (λ k. slice_get (slice_set s.views id w) k) m (Some a)) [
              | inl same ↦ (w, here m one, same ∙ ap (λ (y : View K V S). y.own) its ∙ base.2)
              | inr nobody ↦ absurd (nobody j x at (e ∙ ap (λ (a : ℕ). Some a) one))
            ]

    owned : (j m : ℕ) (x : View K V S) → slice_get (slice_set s.views id w) j ≡ Some x → x.by ≡ Some m → (j ≡ id) ⊎ (j ≢ id) → IsOwner (λ k. slice_get (slice_set s.views id w) k) m x.map
    owned j m x at e (inr ne) = let at_j = before j ne ∙ at in is_owner j x m at_j e x.map (are_so.owned j m x at_j e)
    owned j m x at e (inl one) =
        let is = same_some w x (sym (here j one) ∙ at) in
        let k = knew.by m (ap (λ (y : View K V S). y.by) is ∙ e) in
        subst (λ (o : Option (Map S)). IsOwner (λ k. slice_get (slice_set s.views id w) k) m o) (sym k.1 ∙ ap (λ (y : View K V S). y.map) is)
        (is_owner id v m at_id k.0 v.map (are_so.owned id m v at_id k.0))

    -- a map that did not stand was known to nobody

    none_stood : (o : Option (Map S)) → KnowsMap same hash scene_of o → (a b : Map S) → o ≡ Some a → scene_of.maps b.number ≡ None → a.number ≡ b.number → ⊥
    none_stood None known a b e none same_number = cc e
    none_stood (Some c) known a b e none same_number =
        let there = known.1 in let number : c.number ≡ b.number = ap (λ (y : Map S). y.number) (same_some c a e) ∙ same_number in
        let here = ap scene_of.maps (sym number) ∙ there in cc (none, here)

    apart_then : (j k : ℕ) (x y : View K V S) (mine : Map S) → slice_get (slice_set s.views id w) j ≡ Some x → slice_get (slice_set s.views id w) k ≡ Some y → y.own ≡ Some mine
        → (j ≡ id) ⊎ (j ≢ id) → (k ≡ id) ⊎ (k ≢ id) → AreApart j k x y mine
    apart_then j k x y mine at at2 e (inr ne) (inr ne2) = are_so.maps j k x y mine (before j ne ∙ at) (before k ne2 ∙ at2) e
    apart_then j k x y mine at at2 e (inr ne) (inl one) =
        let at_j = before j ne ∙ at in
        let is = same_some w y (sym (here k one) ∙ at2) in
        let f = are_so.seats j x at_j in
        elim (knew.mine mine (ap (λ (z : View K V S). z.own) is ∙ e)) as (λ _. AreApart j k x y mine) [
          | inl had ↦
              let base = are_so.maps j id x v mine at_j at_id had in
              record { known = λ a g number. base.known a g number ∙ ap (λ (c : ℕ). Some c) (sym one); owned = λ a g number. base.owned a g number ∙ sym one }
          | inr none ↦ record {
            known = λ a g number. absurd (none_stood x.map f.map a mine g none number);
            owned = λ a g number. absurd (none_stood x.own f.own a mine g none number);
          }
        ]
    apart_then j k x y mine at at2 e (inl one) (inr ne) =
        let at_k = before k ne ∙ at2 in
        let is = same_some w x (sym (here j one) ∙ at) in
        let f = are_so.seats k y at_k in
        let base = are_so.maps id k v y mine at_id at_k e in
        record {
          known = λ a g number. elim (knew.map a (ap (λ (z : View K V S). z.map) is ∙ g)) as (λ _. x.by ≡ Some k) [
            | inl had ↦ ap (λ (z : View K V S). z.by) (sym is) ∙ had.1 ∙ base.known a had.0 number
            | inr none ↦ absurd (none_stood y.own f.own mine a e none (sym number))
          ];
          owned = λ a g number. elim (knew.mine a (ap (λ (z : View K V S). z.own) is ∙ g)) as (λ _. j ≡ k) [
            | inl had ↦ one ∙ base.owned a had number
            | inr none ↦ absurd (none_stood y.own f.own mine a e none (sym number))
          ];
        }
    apart_then j k x y mine at at2 e (inl one) (inl other) =
        let is = same_some w x (sym (here j one) ∙ at) in
        let is2 = same_some w y (sym (here k other) ∙ at2) in
        let f = are_so.seats id v at_id in
        record {
          known = λ a g number. known a (ap (λ (z : View K V S). z.map) is ∙ g) (ap (λ (z : View K V S). z.own) is2 ∙ e) number (ap (λ (z : View K V S). z.by) is) f (knew.map a (ap (λ (z : View K V S). z.map) is ∙ g))
              (knew.mine mine (ap (λ (z : View K V S). z.own) is2 ∙ e));
          owned = λ a g number. one ∙ sym other;
        }
      where
        known : (a : Map S) → w.map ≡ Some a → w.own ≡ Some mine → a.number ≡ mine.number → w.by ≡ x.by → Fits same hash scene_of id v
            → ((v.map ≡ Some a) × (w.by ≡ v.by)) ⊎ (scene_of.maps a.number ≡ None) → (v.own ≡ Some mine) ⊎ (scene_of.maps mine.number ≡ None) → x.by ≡ Some k
        known a g e2 number same_by f (inl had) (inl was) =
            sym same_by ∙ had.1 ∙ (are_so.maps id id v v mine at_id at_id was).known a had.0 number ∙ ap (λ (c : ℕ). Some c) (sym other)
        known a g e2 number same_by f (inl had) (inr none) = absurd (none_stood v.map f.map a mine had.0 none number)
        known a g e2 number same_by f (inr none) (inl was) = absurd (none_stood v.own f.own mine a was none (sym number))
        known a g e2 number same_by f (inr none) (inr none2) = elim (knew.apart a mine g e2) as (λ _. x.by ≡ Some k) [
          | inl had ↦ absurd (none_stood v.map f.map a mine had none2 number)
          | inr was ↦ absurd (none_stood v.own f.own mine a was none (sym number))
        ]

    -- what each seat knows of its row

    leant : (j m2 t : ℕ) (x : View K V S) → slice_get (slice_set s.views id w) j ≡ Some x → x.under ≡ Some (m2, t) → (j ≡ id) ⊎ (j ≢ id)
        → IsLeant (λ k. slice_get (slice_set s.views id w) k) m2 t
    leant j m2 t x at e (inr ne) = is_leant m2 t x j (before j ne ∙ at) e
    leant j m2 t x at e (inl one) =
        let is = same_some w x (sym (here j one) ∙ at) in is_leant m2 t v id at_id (sym (go.under v at_id) ∙ ap (λ (y : View K V S). y.under) is ∙ e)

    -- nobody else settles on the slot of a seat that has a row under way there

    row_on : (j : ℕ) (x : View K V S) → slice_get (slice_set s.views id w) j ≡ Some x → view_of s j ≡ Some x → j ≢ id → x.under ≡ None → x.work ≡ Nothing
        → KnowsRow fixed scene_of j x.slot → KnowsRow fixed n j x.slot
    row_on j x at at_j ne own free knows =
        let fits = are_so.seats j x at_j in
        let fits2 = seats j x at (inr ne) in
        let c = caller_at j (place_of x.slot) in
        let there : acts_in x.under x.slot ≡ place_of x.slot = ap (λ (u : Option (ℕ × ℕ)). acts_in u x.slot) own in
        let pass = go.leaves.passes c (λ e. ne (seat_apart j id (place_of x.slot) go.place (subst IsSlot there fits.slot) go.its_slot (sym e)))
        (alone_on_slot same hash scene_of (view_of s) are_so.seats are_so.unborn are_so.leant are_so.apart j x at_j own (row_of_it same hash scene_of j x fits own free))
        (alone_on_slot same hash n (λ k. slice_get (slice_set s.views id w) k) (λ k y e. seats k y e (cases_eq k id)) (λ k a is e. unborn k a is e (cases_eq k id))
        (λ k m2 t y e f. leant k m2 t y e f (cases_eq k id)) (λ k l t a b y z e f p q. apart k l t a b y z e f p q (cases_eq k id) (cases_eq l id)) j x at own (row_of_it same hash n j x fits2 own free)) in
        knows_on fixed j x scene_of n all_stand.makings.standing.came came (row_of_it same hash scene_of j x fits own free) (row_of_it same hash n j x fits2 own free)
        go.leaves.keeps pass.0 pass.1 knows

    rows : (j : ℕ) (x : View K V S) → slice_get (slice_set s.views id w) j ≡ Some x → (j ≡ id) ⊎ (j ≢ id) → KnowsRow fixed n j x.slot
    rows j x at (inl e) =
        subst (λ (y : View K V S). KnowsRow fixed n j y.slot) (same_some w x (sym (here j e) ∙ at)) (subst (λ (a : ℕ). KnowsRow fixed n a w.slot) (sym e) go.row)
    rows j x at (inr ne) =
        let at_j = before j ne ∙ at in
        by_kind same hash fixed scene_of n j x (are_so.seats j x at_j) (λ own free. row_on j x at at_j ne own free (subst (λ (y : Scene K V). KnowsRow fixed y j x.slot) h.scene (h.rows j x at_j)))

    -- the calls of each seat are those of the list

    abbrev told : Answer K V
    told = h.course.told h.reached.0 (Does act) may

    abbrev calls_before : ℕ → List (Called K V)
    calls_before j = calls_of j s.world.doings h.reached.1 []

    long : length h.reached.1 ≡ length s.world.doings
    long = as_long V same hash fixed.batch_size fixed.roots slot_of h.course s.world.doings h.reached h.led

    more : (j : ℕ) → calls_of j (s.world.doings ++ Does act ∷ []) led_to.1 [] ≡ calls_then j (Does act) told (calls_before j)
    more j = calls_more j s.world.doings h.reached.1 (Does act) told [] long

    still : (j : ℕ) → AreRuns same hash (calls_before j) (runs_of (view_of s j))
    still j = h.calls j

    calls : (j : ℕ) → (j ≡ id) ⊎ (j ≢ id) → AreRuns same hash (calls_of j (s.world.doings ++ Does act ∷ []) led_to.1 []) (runs_of (slice_get (slice_set s.views id w) j))
    calls j (inl e) =
        subst (λ (runs : List (BegunCall K V)). AreRuns same hash (calls_of j (s.world.doings ++ Does act ∷ []) led_to.1 []) runs) (ap runs_of (sym (here j e)))
        (subst (λ (c : List (Called K V)). AreRuns same hash c w.calls) (sym (more j))
        (subst (λ (a : ℕ). AreRuns same hash (calls_then a (Does act) told (calls_before a)) w.calls) (sym e)
        (adds.its (subst (λ (o : Option (View K V S)). AreRuns same hash (calls_before id) (runs_of o)) at_id (still id)))))
    calls j (inr ne) =
        subst (λ (runs : List (BegunCall K V)). AreRuns same hash (calls_of j (s.world.doings ++ Does act ∷ []) led_to.1 []) runs) (ap runs_of (before j ne))
        (subst (λ (c : List (Called K V)). AreRuns same hash c (runs_of (view_of s j))) (sym (more j ∙ adds.others j ne (calls_before j))) (still j))

    newest : (j : ℕ) (x : View K V S) (machine : Machine K V K) → slice_get (slice_set s.views id w) j ≡ Some x → x.work ≡ Calls machine → (j ≡ id) ⊎ (j ≢ id)
        → IsNewest (caller_at j (acts_in x.under x.slot)) (calls_of j (s.world.doings ++ Does act ∷ []) led_to.1 [])
    newest j x machine at works (inl e) =
        let is = same_some w x (sym (here j e) ∙ at) in
        subst (λ (c : List (Called K V)). IsNewest (caller_at j (acts_in x.under x.slot)) c) (sym (more j))
        (subst (λ (a : ℕ). IsNewest (caller_at a (acts_in x.under x.slot)) (calls_then a (Does act) told (calls_before a))) (sym e)
        (subst (λ (y : View K V S). IsNewest (caller_at id (acts_in y.under y.slot)) (calls_then id (Does act) told (calls_before id))) is
        (adds.newest machine (ap (λ (y : View K V S). y.work) is ∙ works))))
    newest j x machine at works (inr ne) =
        subst (λ (c : List (Called K V)). IsNewest (caller_at j (acts_in x.under x.slot)) c) (sym (more j ∙ adds.others j ne (calls_before j))) (h.newest j x machine (before j ne ∙ at) works)

    -- and what each holds of them was seen

    abbrev seen_before : ℕ → Option (ℕ × Mem (Node K V))
    seen_before j =
        seen_of V same hash fixed.batch_size fixed.roots slot_of h.course j s.world.doings (nothing_done V same hash fixed.batch_size fixed.roots slot_of h.course) h.reached h.led None

    abbrev seen_now : ℕ → Option (ℕ × Mem (Node K V))
    seen_now j =
        seen_of V same hash fixed.batch_size fixed.roots slot_of h.course j (s.world.doings ++ Does act ∷ []) (nothing_done V same hash fixed.batch_size fixed.roots slot_of h.course) led_to led None

    sees : (j : ℕ) → seen_now j ≡ seen_then j (Does act) n.world.memory (seen_before j)
    sees j = led_then.1 j None ∙ ap (λ (x : Scene K V). seen_then {S = S} j (Does act) x.world.memory (seen_before j)) comes

    seen : (j : ℕ) (x : View K V S) → slice_get (slice_set s.views id w) j ≡ Some x → (j ≡ id) ⊎ (j ≢ id)
        → HasSeen (caller_at j (acts_in x.under x.slot)) (calls_of j (s.world.doings ++ Does act ∷ []) led_to.1 []) (seen_now j) x.held
    seen j x at (inl e) =
        let is = same_some w x (sym (here j e) ∙ at) in
        subst (λ (o : Option (ℕ × Mem (Node K V))). HasSeen (caller_at j (acts_in x.under x.slot)) (calls_of j (s.world.doings ++ Does act ∷ []) led_to.1 []) o x.held) (sym (sees j))
        (subst (λ (c : List (Called K V)). HasSeen (caller_at j (acts_in x.under x.slot)) c (seen_then j (Does act) n.world.memory (seen_before j)) x.held) (sym (more j))
        (subst (λ (a : ℕ). HasSeen (caller_at a (acts_in x.under x.slot)) (calls_then a (Does act) told (calls_before a)) (seen_then a (Does act) n.world.memory (seen_before a)) x.held) (sym e)
        (subst (λ (y : View K V S). HasSeen (caller_at id (acts_in y.under y.slot)) (calls_then id (Does act) told (calls_before id)) (seen_then id (Does act) n.world.memory (seen_before id)) y.held) is
        (adds.seen (seen_before id)))))
    seen j x at (inr ne) =
        subst (λ (o : Option (ℕ × Mem (Node K V))). HasSeen (caller_at j (acts_in x.under x.slot)) (calls_of j (s.world.doings ++ Does act ∷ []) led_to.1 []) o x.held)
        (sym (sees j ∙ adds.aside j ne (seen_before j)))
        (subst (λ (c : List (Called K V)). HasSeen (caller_at j (acts_in x.under x.slot)) c (seen_before j) x.held) (sym (more j ∙ adds.others j ne (calls_before j))) (h.seen j x (before j ne ∙ at)))

    pub moved : (so : View K V S → Type 0) → so w → Goes (Holds same hash fixed) KeepsFor s m id so
    moved so is = (
      w,
      after,
      record {
        course = h.course;
        reached = led_to;
        led = led;
        scene = sym comes;
        nobody = (h.course.leads h.reached.0 (Does act) may).1;
        so = record {
          memory = go.memory;
          seats = λ j x at. seats j x at (cases_eq j id);
          unborn = λ j a slot at. unborn j a slot at (cases_eq j id);
          leant = λ j m2 t x at e. leant j m2 t x at e (cases_eq j id);
          apart = λ j k t a b x y e f p q. apart j k t a b x y e f p q (cases_eq j id) (cases_eq k id);
          owned = λ j m x at e. owned j m x at e (cases_eq j id);
          maps = λ j k x y mine at at2 e. apart_then j k x y mine at at2 e (cases_eq j id) (cases_eq k id);
          fresh = go.fresh;
        };
        rows = λ j x at. rows j x at (cases_eq j id);
        own = all_more (IsItsOwn hash) s.world.doings (Does act) h.own adds.own;
        calls = λ j. calls j (cases_eq j id);
        newest = λ j x machine at works. newest j x machine at works (cases_eq j id);
        seen = λ j x at. seen j x at (cases_eq j id);
      },
      λ j k b u o ne ne2 at at2 keeps. kept j k b u o ne ne2 at at2 keeps,
      is,
    )

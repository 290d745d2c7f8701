-- A seat comes to lean on one that owns a map, and knows that map then; and back.
use Rattle.std.specs.Prelude.{◌≢◌, Option, Some, None, slice_get, slice_set}
use Rattle.std.proofs.Common.{◌≡◌, ℕ, Bool, List, [], ◌⊎◌, inl, inr, refl, sym, subst, ap, ◌∙◌}
use Rattle.std.proofs.lemmas.Bool.{cases_eq}
use Rattle.map_tables.specs.declared.node.Node.{Node}
use Rattle.many_acts.specs.Given.ScenesScene.{Scene}
use Rattle.seize_seats.specs.Seats.State.{State, view_of, Goes}
use Rattle.seize_views.specs.declared.view.Fixed.{Fixed}
use Rattle.seize_views.proofs.Views.Lists.{there, elsewhere}
use Rattle.threads_rule.specs.Views.Looks.{shown_in}
use Rattle.threads_rule.specs.Views.Promises.{LoansBegin, LoansEnd}
use Rattle.threads_rule.specs.Views.Rule.{MapsWorld, DoesSo, KnowsMap, KnowsPair, LooksAside, KnowsTable, IsOwner, Fits, Holds, KeepsFor, caller_at, acts_in}
use Rattle.threads_rule.specs.declared.view.Map.{Map}
use Rattle.threads_rule.specs.declared.view.View.{View}
use Rattle.threads_rule.specs.declared.view.SeatWork.{SeatWork}
use Rattle.threads_rule.specs.declared.view.SeatWork.TheVariants.{Nothing}
use Rattle.threads_rule.proofs.Views.Views.{Had, views_hold}
use Rattle.seize_words.proofs.General.{same_some}

module _ {K V S : Type 0} (same : K → K → Bool) (hash : S → K → ℕ) (fixed : Fixed) (s : State (Node K V) (View K V S) (MapsWorld K V S)) (h : Holds same hash fixed s)
    (id : ℕ) (v : View K V S) (at_id : view_of s id ≡ Some v) (free : v.work ≡ Nothing) (map : Option (Map S)) (by : Option ℕ)
    (known : KnowsMap same hash s.world.scene map) (owner : (n : ℕ) → by ≡ Some n → IsOwner (view_of s) n map)
    (apart : (l : ℕ) (u : View K V S) (mine : Map S) → view_of s l ≡ Some u → u.own ≡ Some mine → (a : Map S) → map ≡ Some a → a.number ≡ mine.number → by ≡ Some l) where
  abbrev scene : Scene K V
  scene = s.world.scene

  abbrev w : View K V S
  w = record { slot = v.slot; under = v.under; map = map; by = by; own = v.own; work = v.work; looks = []; held = []; began = v.began; calls = v.calls }

  abbrev views : List (View K V S)
  views = slice_set s.views id w

  -- who has nothing under way knows what it knew, but for the map
  fits : Fits same hash scene id w
  fits =
      let f = h.so.seats id v at_id in
      record {
        slot = f.slot;
        does =
            subst (λ (x : SeatWork K V S). DoesSo same hash scene (caller_at id (acts_in v.under v.slot)) v.under v.slot map x) (sym free)
            (subst (λ (x : SeatWork K V S). DoesSo same hash scene (caller_at id (acts_in v.under v.slot)) v.under v.slot v.map x) free f.does);
        aside = f.aside;
        map = known;
        own = f.own;
        only = subst (λ (x : SeatWork K V S). LooksAside v.under map x) (sym free) tt;
        held = tt;
        table = subst (λ (x : SeatWork K V S). KnowsTable same hash scene x []) (sym free) tt;
        pair = subst (λ (x : SeatWork K V S). KnowsPair same hash scene (caller_at id (acts_in v.under v.slot)) map x v.calls) (sym free) tt;
        idle = f.idle;
      }

  here : (k : ℕ) → k ≡ id → slice_get views k ≡ Some w
  here k e = subst (λ (a : ℕ). slice_get views a ≡ Some w) (sym e) (there s.views id w v at_id)

  had : (k : ℕ) (x : View K V S) → slice_get views k ≡ Some x → (k ≡ id) ⊎ (k ≢ id) → Had same hash fixed s h views k x
  had k x at (inl e) =
      let one = same_some w x (sym (here k e) ∙ at) in
      record {
        knew = v;
        at = ap (view_of s) e ∙ at_id;
        slot = ap (λ (y : View K V S). y.slot) (sym one);
        under = inl (ap (λ (y : View K V S). y.under) (sym one));
        own = ap (λ (y : View K V S). y.own) (sym one);
        known = inr (
          (λ n e2. subst (λ (o : Option (Map S)). IsOwner (view_of s) n o) (ap (λ (y : View K V S). y.map) one) (owner n (ap (λ (y : View K V S). y.by) one ∙ e2))),
          λ l u mine at_l owns a g number. ap (λ (y : View K V S). y.by) (sym one) ∙ apart l u mine at_l owns a (ap (λ (y : View K V S). y.map) one ∙ g) number,
        );
        calls = ap (λ (y : View K V S). y.calls) (sym one);
        work = ap (λ (y : View K V S). y.work) (sym one);
        held = λ b y shown. (let none : shown_in w.held b ≡ Some y = ap (λ (z : View K V S). shown_in z.held b) one ∙ shown in absurd (cc none));
        fits = subst (λ (y : View K V S). Fits same hash scene k y) one (subst (λ (a : ℕ). Fits same hash scene a w) (sym e) fits);
      }
  had k x at (inr ne) =
      let was = sym (elsewhere s.views id k w ne) ∙ at in
      record {
        knew = x;
        at = was;
        slot = refl;
        under = inl refl;
        own = refl;
        known = inl (refl, refl);
        calls = refl;
        work = refl;
        held = λ b y shown. shown;
        fits = h.so.seats k x was;
      }

  unborn : (k : ℕ) → slice_get views k ≡ None → (k ≡ id) ⊎ (k ≢ id) → view_of s k ≡ None
  unborn k at (inl e) = let f = here k e in absurd (cc (f, at))
  unborn k at (inr ne) = sym (elsewhere s.views id k w ne) ∙ at

  goes : Goes (Holds same hash fixed) KeepsFor s s.memory id (λ x. x ≡ w)
  goes = (
    w,
    s.world,
    views_hold same hash fixed s h views (λ k x at. had k x at (cases_eq k id)) (λ k at. unborn k at (cases_eq k id)),
    λ j k b u o ne ne2 at at2 keeps. keeps,
    refl,
  )

module _ {K S : Type 0} (V : Type 0) (same : K → K → Bool) (hash : S → K → ℕ) where
  pub loans_begin : LoansBegin V same hash
  loans_begin fixed i j v u map free owns s h at_i at_j apart =
      goes same hash fixed s h i v at_i free (Some map) (Some j) (subst (λ (o : Option (Map S)). KnowsMap same hash s.world.scene o) owns (h.so.seats j u at_j).own)
      (λ n e. (u, ap (view_of s) (sym (same_some j n e)) ∙ at_j, owns))
      (λ l x mine at_l own a e number.
      ap (λ (n : ℕ). Some n) ((h.so.maps j l u x mine at_j at_l own).owned map owns (ap (λ (m : Map S). m.number) (same_some map a e) ∙ number)))

  pub loans_end : LoansEnd V same hash
  loans_end fixed id v free s h at_id =
      goes same hash fixed s h id v at_id free None None tt (λ n e. absurd (cc e)) (λ l u mine at_l owns a e number. absurd (cc e))

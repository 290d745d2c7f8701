-- A map that one seat knows is handed on to another one.
use Rattle.std.specs.Prelude.{◌≢◌, Option, Some, None, slice_get, slice_set}
use Rattle.std.proofs.Common.{◌≡◌, ℕ, Bool, List, [], ◌⊎◌, inl, inr, refl, sym, subst, ap, ◌∙◌}
use Rattle.std.proofs.lemmas.Bool.{cases_eq}
use Rattle.map_tables.specs.declared.node.Node.{Node}
use Rattle.many_acts.specs.Given.ScenesScene.{Scene}
use Rattle.seize_seats.specs.Seats.State.{State, view_of}
use Rattle.seize_views.specs.declared.view.Fixed.{Fixed}
use Rattle.seize_views.proofs.Views.Lists.{there, elsewhere}
use Rattle.threads_rule.specs.Views.Begun.{shown_map}
use Rattle.threads_rule.specs.Views.Looks.{shown_in}
use Rattle.threads_rule.specs.Views.Promises.{MapsAreHandedOn}
use Rattle.threads_rule.specs.Views.Rule.{MapsWorld, DoesSo, LooksAside, KnowsMap, KnowsPair, KnowsTable, Fits, Holds, caller_at, acts_in}
use Rattle.threads_rule.specs.declared.view.Map.{Map}
use Rattle.threads_rule.specs.declared.view.View.{View}
use Rattle.threads_rule.specs.declared.view.SeatWork.{SeatWork}
use Rattle.threads_rule.specs.declared.view.SeatWork.TheVariants.{Nothing}
use Rattle.threads_rule.proofs.Views.Views.{Had, views_hold}
use Rattle.seize_words.proofs.General.{same_some}

module _ {K V S : Type 0} (same : K → K → Bool) (hash : S → K → ℕ) (fixed : Fixed) (i j : ℕ) (v u : View K V S) (map : Map S) (knows : v.map ≡ Some map) (lone : v.by ≡ None) (free : u.work ≡ Nothing)
    (s : State (Node K V) (View K V S) (MapsWorld K V S)) (h : Holds same hash fixed s) (at_i : view_of s i ≡ Some v) (at_j : view_of s j ≡ Some u) (apart : i ≢ j) where
  abbrev q : View K V S
  q = shown_map u map

  abbrev views : List (View K V S)
  views = slice_set (slice_set s.views i v) j q

  abbrev scene : Scene K V
  scene = s.world.scene

  -- who has nothing under way knows what it knew, and the map
  given : Fits same hash scene j q
  given =
      let f = h.so.seats j u at_j in
      record {
        slot = f.slot;
        does =
            subst (λ (x : SeatWork K V S). DoesSo same hash scene (caller_at j (acts_in u.under u.slot)) u.under u.slot (Some map) x) (sym free)
            (subst (λ (x : SeatWork K V S). DoesSo same hash scene (caller_at j (acts_in u.under u.slot)) u.under u.slot u.map x) free f.does);
        aside = f.aside;
        map = subst (λ (x : Option (Map S)). KnowsMap same hash scene x) knows (h.so.seats i v at_i).map;
        own = f.own;
        only = subst (λ (x : SeatWork K V S). LooksAside u.under (Some map) x) (sym free) tt;
        held = tt;
        table = subst (λ (x : SeatWork K V S). KnowsTable same hash scene x []) (sym free) tt;
        pair = subst (λ (x : SeatWork K V S). KnowsPair same hash scene (caller_at j (acts_in u.under u.slot)) (Some map) x u.calls) (sym free) tt;
        idle = f.idle;
      }

  here : slice_get views j ≡ Some q
  here = there (slice_set s.views i v) j q u (elsewhere s.views i j v (λ e. apart (sym e)) ∙ at_j)

  -- each other seat has the view that it had
  before : (k : ℕ) → k ≢ j → slice_get views k ≡ view_of s k
  before k ne = elsewhere (slice_set s.views i v) j k q ne ∙ by (cases_eq k i)
    where
      by : (k ≡ i) ⊎ (k ≢ i) → slice_get (slice_set s.views i v) k ≡ slice_get s.views k
      by (inl e) = ap (slice_get (slice_set s.views i v)) e ∙ there s.views i v v at_i ∙ sym at_i ∙ ap (slice_get s.views) (sym e)
      by (inr other) = elsewhere s.views i k v other

  had : (k : ℕ) (x : View K V S) → slice_get views k ≡ Some x → (k ≡ j) ⊎ (k ≢ j) → Had same hash fixed s h views k x
  had k x at (inl e) =
      let one = same_some q x (sym here ∙ ap (slice_get views) (sym e) ∙ at) in
      record {
        knew = u;
        at = ap (view_of s) e ∙ at_j;
        slot = ap (λ (y : View K V S). y.slot) (sym one);
        under = inl (ap (λ (y : View K V S). y.under) (sym one));
        own = ap (λ (y : View K V S). y.own) (sym one);
        known = inr (
          (λ n e. (let none = ap (λ (y : View K V S). y.by) one in absurd (cc (none, e)))),
          λ l w mine at_l owns a e number.
              let same_map = same_some map a (ap (λ (y : View K V S). y.map) one ∙ e) in
              let lent = (h.so.maps i l v w mine at_i at_l owns).known map knows (ap (λ (m : Map S). m.number) same_map ∙ number) in absurd (cc (lone, lent)),
        );
        calls = ap (λ (y : View K V S). y.calls) (sym one);
        work = ap (λ (y : View K V S). y.work) (sym one);
        held = λ b y shown. (let none : shown_in q.held b ≡ Some y = ap (λ (z : View K V S). shown_in z.held b) one ∙ shown in absurd (cc none));
        fits = subst (λ (y : View K V S). Fits same hash scene k y) one (subst (λ (a : ℕ). Fits same hash scene a q) (sym e) given);
      }
  had k x at (inr ne) = let was = sym (before k ne) ∙ at in record { knew = x; at = was; slot = refl; under = inl refl; own = refl; known = inl (refl, refl); calls = refl; work = refl; held = λ b y shown. shown; fits = h.so.seats k x was }

  unborn : (k : ℕ) → slice_get views k ≡ None → (k ≡ j) ⊎ (k ≢ j) → view_of s k ≡ None
  unborn k at (inl e) = let f = ap (slice_get views) e in let g = here in absurd (cc (f, g, at))
  unborn k at (inr ne) = sym (before k ne) ∙ at

  handed : Holds same hash fixed record { memory = s.memory; views = views; world = s.world }
  handed = views_hold same hash fixed s h views (λ k x at. had k x at (cases_eq k j)) (λ k at. unborn k at (cases_eq k j))

module _ {K S : Type 0} (V : Type 0) (same : K → K → Bool) (hash : S → K → ℕ) where
  pub maps_are_handed_on : MapsAreHandedOn V same hash
  maps_are_handed_on fixed i j v u map knows lone free s h at_i at_j apart =
      (v, shown_map u map, handed same hash fixed i j v u map knows lone free s h at_i at_j apart, (refl, refl))

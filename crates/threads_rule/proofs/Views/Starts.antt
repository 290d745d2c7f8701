-- The rule starts, and seats come.
use Rattle.std.specs.Prelude.{◌++◌, Option, Some, None, slice_get}
use Rattle.std.proofs.Common.{◌≡◌, ℕ, Bool, List, [], ◌∷◌, ◌⊎◌, inl, inr, refl, sym, subst, ap, ◌∙◌}
use Rattle.seize.specs.World.{Use}
use Rattle.map_tables.specs.declared.node.Node.{Node}
use Rattle.papaya_raw.specs.declared.machines.machine.Machine.{Machine}
use Rattle.many_acts.specs.Given.ScenesScene.{Scene, slot_of, at_first}
use Rattle.many_acts.specs.Acts.Lists.{nothing_done}
use Rattle.many_acts.proofs.Acts.Lists.{lists_determine}
use Rattle.seize_seats.specs.Seats.State.{State, view_of}
use Rattle.seize_views.specs.Views.Rows.{use_of}
use Rattle.seize_views.proofs.Views.Lists.{with_last, with_more, none_before}
use Rattle.threads_rule.specs.Views.Promises.{RulesStart, SeatsCome}
use Rattle.threads_rule.specs.Views.Listed.{calls_of, seen_of, IsNewest}
use Rattle.threads_rule.specs.Views.Looks.{shown_in}
use Rattle.threads_rule.specs.Views.Rule.{MapsWorld, Fits, KnowsRow, AreRuns, HasSeen, IsIdle, IsSlot, caller_at, IsLeant, IsOwner, AreApart, acts_in, at_rest, runs_of}
use Rattle.threads_rule.specs.declared.view.BegunCall.{BegunCall}
use Rattle.threads_rule.specs.declared.view.Map.{Map}
use Rattle.threads_rule.specs.declared.view.View.{View}
use Rattle.threads_rule.specs.declared.view.SeatWork.TheVariants.{Calls}
use Rattle.threads_rule.proofs.Views.Knows.{knows_rests}
use Rattle.threads_rule.proofs.Views.Numbers.{first_slot}

module _ {K S : Type 0} (V : Type 0) (same : K → K → Bool) (hash : S → K → ℕ) where
  pub rules_start : RulesStart V same hash
  rules_start lawful fixed =
      let course = (lists_determine {V = V} same hash fixed.batch_size fixed.roots slot_of lawful).0 in (
        record { doings = []; scene = at_first fixed.roots },
        record {
          course = course;
          reached = nothing_done V same hash fixed.batch_size fixed.roots slot_of course;
          led = refl;
          scene = refl;
          nobody = refl;
          so = record {
            memory = refl;
            seats = λ j v e. absurd (cc e);
            unborn = λ j t is e. record { calls = λ m. refl; makers = refl; enders = refl; row = refl };
            leant = λ j n t v e f. absurd (cc e);
            apart = λ j k t a b v u e f p q. absurd (cc e);
            owned = λ j n v e f. absurd (cc e);
            maps = λ j k v u mine e f g. absurd (cc e);
            fresh = (0, ((λ m above. refl), (λ i b is. absurd (cc is))), refl);
          };
          rows = λ j v e. absurd (cc e);
          own = tt;
          calls = λ j. tt;
          newest = λ j v machine e works. absurd (cc e);
          seen = λ j v e. absurd (cc e);
        },
      )

  -- a seat had this view, or has come with it
  abbrev Came : State (Node K V) (View K V S) (MapsWorld K V S) → ℕ → View K V S → Type 0
  Came s j x = (view_of s j ≡ Some x) ⊎ ((view_of s j ≡ None) × (at_rest ≡ x))

  -- a seat that has come knows nothing, and has nothing under way
  newcomer : (scene : Scene K V) (j : ℕ) → ((t : ℕ) → IsSlot t → IsIdle scene (caller_at j t)) → Fits same hash scene j at_rest
  newcomer scene j idle =
      let first = idle 0 first_slot in
      record {
        slot = first_slot;
        aside = tt;
        does = record { row = first.row; slot = tt; calls = first.calls; makers = first.makers; enders = first.enders };
        map = tt;
        own = tt;
        only = tt;
        held = tt;
        table = tt;
        pair = tt;
        idle = λ t is ne. idle t is;
      }

  pub seats_come : SeatsCome V same hash
  seats_come fixed s h = (
    s.world,
    record {
      course = h.course;
      reached = h.reached;
      led = h.led;
      scene = h.scene;
      nobody = h.nobody;
      so = record {
        memory = h.so.memory;
        seats = λ j x e. fit j x (with_last s.views j at_rest x e);
        unborn = λ j t is e. h.so.unborn j t is (none_before s.views j at_rest e);
        leant = λ j n t x e f. leant j n t x f (with_last s.views j at_rest x e);
        apart = λ j k t a b x y e f p q. two j k t a b x y p q (with_last s.views j at_rest x e) (with_last s.views k at_rest y f);
        owned = λ j n x e f. owned j n x f (with_last s.views j at_rest x e);
        maps = λ j k x y mine e f g. maps j k x y mine g (with_last s.views j at_rest x e) (with_last s.views k at_rest y f);
        fresh = h.so.fresh;
      };
      rows = λ j x e. row j x (with_last s.views j at_rest x e);
      own = h.own;
      calls = λ j.
          subst (λ (runs : List (BegunCall K V)). AreRuns same hash (calls_of j s.world.doings h.reached.1 []) runs) (as_before j (slice_get (s.views ++ at_rest ∷ []) j) refl) (h.calls j);
      newest = λ j x machine e works. newest j x machine works (with_last s.views j at_rest x e);
      seen = λ j x e. seen j x (with_last s.views j at_rest x e);
    },
    λ b u o keeps. keeps,
  )
    where
      fit : (j : ℕ) (x : View K V S) → Came s j x → Fits same hash s.world.scene j x
      fit j x (inl e) = h.so.seats j x e
      fit j x (inr e) = subst (λ (y : View K V S). Fits same hash s.world.scene j y) e.1 (newcomer s.world.scene j (λ t is. h.so.unborn j t is e.0))

      row : (j : ℕ) (x : View K V S) → Came s j x → KnowsRow fixed s.world.scene j x.slot
      row j x (inl e) = h.rows j x e
      row j x (inr e) = knows_rests fixed s.world.scene j x.slot (ap (λ (y : View K V S). y.slot) (sym e.1))

      as_came : (j : ℕ) (x : View K V S) → Came s j x → runs_of (view_of s j) ≡ x.calls
      as_came j x (inl e) = ap runs_of e
      as_came j x (inr e) = ap runs_of e.0 ∙ ap (λ (y : View K V S). y.calls) e.1

      newest : (j : ℕ) (x : View K V S) (machine : Machine K V K) → x.work ≡ Calls machine → Came s j x → IsNewest (caller_at j (acts_in x.under x.slot)) (calls_of j s.world.doings h.reached.1 [])
      newest j x machine works (inl e) = h.newest j x machine e works
      newest j x machine works (inr e) = let none = ap (λ (y : View K V S). y.work) e.1 in absurd (cc (none, works))

      seen : (j : ℕ) (x : View K V S) → Came s j x
          → HasSeen (caller_at j (acts_in x.under x.slot)) (calls_of j s.world.doings h.reached.1 [])
          (seen_of V same hash fixed.batch_size fixed.roots slot_of h.course j s.world.doings (nothing_done V same hash fixed.batch_size fixed.roots slot_of h.course) h.reached h.led None) x.held
      seen j x (inl e) = h.seen j x e
      seen j x (inr e) = λ b y shown. (let none : shown_in (at_rest {K = K} {V = V} {S = S}).held b ≡ Some y = ap (λ (z : View K V S). shown_in z.held b) e.1 ∙ shown in absurd (cc none))

      as_before : (j : ℕ) (o : Option (View K V S)) → slice_get (s.views ++ at_rest ∷ []) j ≡ o → runs_of (view_of s j) ≡ runs_of o
      as_before j None e = ap runs_of (none_before s.views j at_rest e)
      as_before j (Some x) e = as_came j x (with_last s.views j at_rest x e)

      leant : (j n t : ℕ) (x : View K V S) → x.under ≡ Some (n, t) → Came s j x → IsLeant (λ k. slice_get (s.views ++ at_rest ∷ []) k) n t
      leant j n t x f (inl e) = let base = h.so.leant j n t x e f in (base.0, with_more s.views n at_rest base.0 base.1, base.2)
      leant j n t x f (inr e) = let none = ap (λ (y : View K V S). y.under) e.1 in absurd (cc (none, f))

      owner : (n : ℕ) (o : Option (Map S)) → IsOwner (view_of s) n o → IsOwner (λ k. slice_get (s.views ++ at_rest ∷ []) k) n o
      owner n None base = absurd base
      owner n (Some map) base = (base.0, with_more s.views n at_rest base.0 base.1, base.2)

      owned : (j n : ℕ) (x : View K V S) → x.by ≡ Some n → Came s j x → IsOwner (λ k. slice_get (s.views ++ at_rest ∷ []) k) n x.map
      owned j n x f (inl e) = owner n x.map (h.so.owned j n x e f)
      owned j n x f (inr e) = let none = ap (λ (y : View K V S). y.by) e.1 in absurd (cc (none, f))

      maps : (j k : ℕ) (x y : View K V S) (mine : Map S) → y.own ≡ Some mine → Came s j x → Came s k y → AreApart j k x y mine
      maps j k x y mine g (inl e) (inl f) = h.so.maps j k x y mine e f g
      maps j k x y mine g e (inr f) = let none = ap (λ (z : View K V S). z.own) f.1 in absurd (cc (none, g))
      maps j k x y mine g (inr e) (inl f) = record {
        known = λ a m number. (let none = ap (λ (z : View K V S). z.map) e.1 in absurd (cc (none, m)));
        owned = λ a m number. (let none = ap (λ (z : View K V S). z.own) e.1 in absurd (cc (none, m)));
      }

      no_slot : (x : View K V S) (t : ℕ) (a : Use) → at_rest ≡ x → use_of x.slot ≡ Some (t, a) → ⊥
      no_slot x t a e p = let f = ap (λ (y : View K V S). use_of y.slot) e in cc (f, p)

      two : (j k t : ℕ) (a b : Use) (x y : View K V S) → use_of x.slot ≡ Some (t, a) → use_of y.slot ≡ Some (t, b) → Came s j x → Came s k y → j ≡ k
      two j k t a b x y p q (inl e) (inl f) = h.so.apart j k t a b x y e f p q
      two j k t a b x y p q (inl e) (inr f) = absurd (no_slot y t b f.1 q)
      two j k t a b x y p q (inr e) f = absurd (no_slot x t a e.1 p)

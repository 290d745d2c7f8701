-- The rule holds of other views of the seats, where each has the slot that it had, and knows what is so.
use Rattle.std.specs.Prelude.{Option, Some, None, slice_get}
use Rattle.std.proofs.Common.{◌≡◌, ℕ, Bool, List, [], ◌⊎◌, inl, inr, refl, sym, subst, ap, ◌∙◌}
use Rattle.seize_words.specs.OneMemory.Mem.{Mem}
use Rattle.map_tables.specs.declared.node.Node.{Node}
use Rattle.papaya_raw.specs.declared.machines.machine.Machine.{Machine}
use Rattle.many_acts.specs.Given.ScenesScene.{slot_of}
use Rattle.many_acts.specs.Acts.Lists.{nothing_done}
use Rattle.seize_seats.specs.Seats.State.{State, view_of}
use Rattle.seize_views.specs.Views.Rows.{use_of}
use Rattle.seize_views.specs.declared.view.Fixed.{Fixed}
use Rattle.seize_views.specs.declared.view.SlotView.{SlotView}
use Rattle.threads_rule.specs.Views.Listed.{calls_of, seen_of, IsNewest}
use Rattle.threads_rule.specs.Views.Looks.{shown_in}
use Rattle.threads_rule.specs.Views.Rule.{MapsWorld, Fits, KnowsRow, AreRuns, HasSeen, Holds, caller_at, IsLeant, IsOwner, AreApart, acts_in, runs_of}
use Rattle.threads_rule.specs.declared.view.BegunCall.{BegunCall}
use Rattle.threads_rule.specs.declared.view.Map.{Map}
use Rattle.threads_rule.specs.declared.view.View.{View}
use Rattle.threads_rule.specs.declared.view.SeatWork.TheVariants.{Nothing, Calls}
use Rattle.seize_words.proofs.General.{same_some}

module _ {K V S : Type 0} (same : K → K → Bool) (hash : S → K → ℕ) (fixed : Fixed) (s : State (Node K V) (View K V S) (MapsWorld K V S)) (h : Holds same hash fixed s)
    (views : List (View K V S)) where
  -- what a seat knew that knows this now
  pub record Had (k : ℕ) (x : View K V S) : Type 0 where
    pub knew : View K V S
    pub at : view_of s k ≡ Some knew
    pub slot : x.slot ≡ knew.slot
    pub under : (x.under ≡ knew.under) ⊎ ((x.work ≡ Nothing) × (x.held ≡ []) × ((n t : ℕ) → x.under ≡ Some (n, t) → IsLeant (view_of s) n t))
    pub own : x.own ≡ knew.own
    pub known : ((x.map ≡ knew.map) × (x.by ≡ knew.by))
        ⊎ (((n : ℕ) → x.by ≡ Some n → IsOwner (view_of s) n x.map)
        × ((l : ℕ) (u : View K V S) (mine : Map S) → view_of s l ≡ Some u → u.own ≡ Some mine → (a : Map S) → x.map ≡ Some a → a.number ≡ mine.number → x.by ≡ Some l))
    pub calls : x.calls ≡ knew.calls
    pub work : x.work ≡ knew.work
    pub held : (b : ℕ) (y : Node K V) → shown_in x.held b ≡ Some y → shown_in knew.held b ≡ Some y
    pub fits : Fits same hash s.world.scene k x

  pub views_hold : ((k : ℕ) (x : View K V S) → slice_get views k ≡ Some x → Had k x) → ((k : ℕ) → slice_get views k ≡ None → view_of s k ≡ None)
      → Holds same hash fixed record { memory = s.memory; views = views; world = s.world }
  views_hold had none = record {
    course = h.course;
    reached = h.reached;
    led = h.led;
    scene = h.scene;
    nobody = h.nobody;
    so = record {
      memory = h.so.memory;
      seats = λ k x at. (had k x at).fits;
      unborn = λ k a is at. h.so.unborn k a is (none k at);
      leant = λ k n t x e f. leant n t (was_leant k n t x (had k x e) f);
      apart = λ k l t a b x y e f p r.
          let one = had k x e in
          let other = had l y f in
          h.so.apart k l t a b one.knew other.knew one.at other.at (sym (ap (λ (z : SlotView (Node K V)). use_of z) one.slot) ∙ p) (sym (ap (λ (z : SlotView (Node K V)). use_of z) other.slot) ∙ r);
      owned = λ k n x e f. owner n x.map (was_owner k n x (had k x e) f);
      maps = λ k l x y mine e f g. are_apart k l x y mine (had k x e) (had l y f) g;
      fresh = h.so.fresh;
    };
    rows = λ k x at. let o = had k x at in subst (λ (z : SlotView (Node K V)). KnowsRow fixed s.world.scene k z) (sym o.slot) (h.rows k o.knew o.at);
    own = h.own;
    calls = λ k.
        subst (λ (runs : List (BegunCall K V)). AreRuns same hash (calls_of k s.world.doings h.reached.1 []) runs) (as_before k (slice_get views k) refl) (h.calls k);
    newest = λ k x machine at works.
        let o = had k x at in newest k x machine works o o.under;
    seen = λ k x at. let o = had k x at in sees k x o o.under;
  }
    where
      seen : ℕ → Option (ℕ × Mem (Node K V))
      seen k =
          seen_of V same hash fixed.batch_size fixed.roots slot_of h.course k s.world.doings (nothing_done V same hash fixed.batch_size fixed.roots slot_of h.course) h.reached h.led None

      -- who acts where it acted
      same_place : (x u : View K V S) → x.slot ≡ u.slot → x.under ≡ u.under → acts_in u.under u.slot ≡ acts_in x.under x.slot
      same_place x u slot under = ap (acts_in u.under) (sym slot) ∙ ap (λ (o : Option (ℕ × ℕ)). acts_in o x.slot) (sym under)

      newest : (k : ℕ) (x : View K V S) (machine : Machine K V K) → x.work ≡ Calls machine → (o : Had k x)
          → (x.under ≡ o.knew.under) ⊎ ((x.work ≡ Nothing) × (x.held ≡ []) × ((n t : ℕ) → x.under ≡ Some (n, t) → IsLeant (view_of s) n t))
          → IsNewest (caller_at k (acts_in x.under x.slot)) (calls_of k s.world.doings h.reached.1 [])
      newest k x machine works o (inl is) =
          subst (λ (a : ℕ). IsNewest (caller_at k a) (calls_of k s.world.doings h.reached.1 [])) (same_place x o.knew o.slot is) (h.newest k o.knew machine o.at (sym o.work ∙ works))
      newest k x machine works o (inr (free, none, leant)) = absurd (cc (free, works))

      sees : (k : ℕ) (x : View K V S) (o : Had k x)
          → (x.under ≡ o.knew.under) ⊎ ((x.work ≡ Nothing) × (x.held ≡ []) × ((n t : ℕ) → x.under ≡ Some (n, t) → IsLeant (view_of s) n t))
          → HasSeen (caller_at k (acts_in x.under x.slot)) (calls_of k s.world.doings h.reached.1 []) (seen k) x.held
      sees k x o (inl is) = λ b y shown.
          subst (λ (a : ℕ). HasSeen (caller_at k a) (calls_of k s.world.doings h.reached.1 []) (seen k) o.knew.held) (same_place x o.knew o.slot is) (h.seen k o.knew o.at) b y (o.held b y shown)
      sees k x o (inr (free, none, leant)) = λ b y shown. (let some = sym (ap (λ (l : List (ℕ × Node K V)). shown_in l b) none) ∙ shown in absurd (cc some))

      was_leant : (k n t : ℕ) (x : View K V S) → Had k x → x.under ≡ Some (n, t) → IsLeant (view_of s) n t
      was_leant k n t x o f = elim o.under as (λ _. IsLeant (view_of s) n t) [
        | inl is ↦ h.so.leant k n t o.knew o.at (sym is ∙ f)
        | inr (free, none, leant) ↦ leant n t f
      ]

      -- who was within a section is within it
      leant : (n t : ℕ) → IsLeant (view_of s) n t → IsLeant (slice_get views) n t
      leant n t base = by (slice_get views n) refl
        where
          by : (o : Option (View K V S)) → slice_get views n ≡ o → IsLeant (slice_get views) n t
          by None e = let gone = none n e in let here = base.1 in absurd (cc (gone, here))
          by (Some x) e = let o = had n x e in (x, e, o.slot ∙ ap (λ (y : View K V S). y.slot) (same_some o.knew base.0 (sym o.at ∙ base.1)) ∙ base.2)

      -- who had a map as its own has it

      was_owner : (k n : ℕ) (x : View K V S) → Had k x → x.by ≡ Some n → IsOwner (view_of s) n x.map
      was_owner k n x o e = elim o.known as (λ _. IsOwner (view_of s) n x.map) [
        | inl same_map ↦ subst (λ (m : Option (Map S)). IsOwner (view_of s) n m) (sym same_map.0) (h.so.owned k n o.knew o.at (sym same_map.1 ∙ e))
        | inr other ↦ other.0 n e
      ]

      owner : (n : ℕ) (map : Option (Map S)) → IsOwner (view_of s) n map → IsOwner (slice_get views) n map
      owner n None base = absurd base
      owner n (Some map) base = by (slice_get views n) refl
        where
          by : (o : Option (View K V S)) → slice_get views n ≡ o → IsOwner (slice_get views) n (Some map)
          by None e = let gone = none n e in let here = base.1 in absurd (cc (gone, here))
          by (Some x) e = let o = had n x e in (x, e, o.own ∙ ap (λ (y : View K V S). y.own) (same_some o.knew base.0 (sym o.at ∙ base.1)) ∙ base.2)

      are_apart : (k l : ℕ) (x y : View K V S) (mine : Map S) → Had k x → Had l y → y.own ≡ Some mine → AreApart k l x y mine
      are_apart k l x y mine o p g =
          let base = h.so.maps k l o.knew p.knew mine o.at p.at (sym p.own ∙ g) in
          record {
            known = λ a e number. elim o.known as (λ _. x.by ≡ Some l) [
              | inl same_map ↦ same_map.1 ∙ base.known a (sym same_map.0 ∙ e) number
              | inr other ↦ other.1 l p.knew mine p.at (sym p.own ∙ g) a e number
            ];
            owned = λ a e number. base.owned a (sym o.own ∙ e) number;
          }

      as_before : (k : ℕ) (o : Option (View K V S)) → slice_get views k ≡ o → runs_of (view_of s k) ≡ runs_of o
      as_before k None e = ap runs_of (none k e)
      as_before k (Some x) e = let one = had k x e in ap runs_of one.at ∙ sym one.calls

-- What is known to be held for a seat is there, with its value.
use Rattle.std.specs.Prelude.{Option, Some, IsSome, ◌==◌, if◌then◌else◌}
use Rattle.std.proofs.Common.{◌≡◌, ℕ, Bool, true, false, List, [], ◌∷◌, refl, sym, subst, ap, ◌∙◌, eqb-true}
use Rattle.seize_words.specs.OneMemory.Mem.{Mem, value_at}
use Rattle.map_tables.specs.declared.node.Node.{Node}
use Rattle.many_acts.specs.Given.ScenesScene.{Scene}
use Rattle.seize_seats.specs.Seats.State.{State, view_of}
use Rattle.seize_views.specs.declared.view.SlotView.{SlotView}
use Rattle.threads_rule.specs.Views.Looks.{shown_in}
use Rattle.threads_rule.specs.Views.Promises.{HeldAreShown}
use Rattle.threads_rule.specs.Views.Rule.{MapsWorld, IsHeld, AllHeld, Holds}
use Rattle.threads_rule.specs.declared.view.Map.{Map}
use Rattle.threads_rule.specs.declared.view.View.{View}
use Rattle.threads_rule.specs.declared.view.SeatWork.{SeatWork}
use Rattle.seize_words.proofs.General.{same_some}

module _ {K V S : Type 0} (same : K → K → Bool) (hash : S → K → ℕ) where
  pub value_of : (scene : Scene K V) (under : Option (ℕ × ℕ)) (slot : SlotView (Node K V)) (map : Option (Map S)) (work : SeatWork K V S) (b : ℕ) (x : Node K V) (looks : List (ℕ × Node K V))
      → AllHeld same hash scene under slot map work looks → shown_in looks b ≡ Some x
      → value_at scene.world.memory b ≡ Some x
  value_of scene under slot map work b x [] held is = absurd (cc is)
  value_of scene under slot map work b x (look ∷ looks) held is = by (b == look.0) refl is (value_of scene under slot map work b x looks held.1)
    where
      by : (k : Bool) → (b == look.0) ≡ k → (if k then Some look.1 else shown_in looks b) ≡ Some x → (shown_in looks b ≡ Some x → value_at scene.world.memory b ≡ Some x)
          → value_at scene.world.memory b ≡ Some x
      by true e f rest = ap (value_at scene.world.memory) (eqb-true b look.0 e) ∙ held.0.0 ∙ f
      by false e f rest = rest f

  -- and why it lasts
  pub held_of : (scene : Scene K V) (under : Option (ℕ × ℕ)) (slot : SlotView (Node K V)) (map : Option (Map S)) (work : SeatWork K V S) (b : ℕ) (x : Node K V) (looks : List (ℕ × Node K V))
      → AllHeld same hash scene under slot map work looks → shown_in looks b ≡ Some x → IsHeld same hash scene under slot map work (b, x)
  held_of scene under slot map work b x [] held is = absurd (cc is)
  held_of scene under slot map work b x (look ∷ looks) held is = by (b == look.0) refl is (held_of scene under slot map work b x looks held.1)
    where
      by : (k : Bool) → (b == look.0) ≡ k → (if k then Some look.1 else shown_in looks b) ≡ Some x → (shown_in looks b ≡ Some x → IsHeld same hash scene under slot map work (b, x))
          → IsHeld same hash scene under slot map work (b, x)
      by true e f rest =
          subst (λ (y : Node K V). IsHeld same hash scene under slot map work (b, y)) (same_some look.1 x f)
          (subst (λ (a : ℕ). IsHeld same hash scene under slot map work (a, look.1)) (sym (eqb-true b look.0 e)) held.0)
      by false e f rest = rest f

module _ {K S : Type 0} (V : Type 0) (same : K → K → Bool) (hash : S → K → ℕ) where
  pub held_are_shown : HeldAreShown V same hash
  held_are_shown fixed id b v x is = (λ t h at. subst IsSome (sym (here t h at)) refl, λ y of. same_some y x (sym of.3 ∙ here of.0 of.1 of.2))
    where
      here : (t : State (Node K V) (View K V S) (MapsWorld K V S)) → Holds same hash fixed t → view_of t id ≡ Some v → value_at t.memory b ≡ Some x
      here t h at =
          ap (λ (m : Mem (Node K V)). value_at m b) h.so.memory ∙ value_of same hash t.world.scene v.under v.slot v.map v.work b x v.held (h.so.seats id v at).held is

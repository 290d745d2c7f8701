-- What a caller shows is there, with its value.
use Rattle.std.specs.Prelude.{Option, Some, None, IsSome}
use Rattle.std.proofs.Common.{◌≡◌, ℕ, Bool, refl, sym, ap, ◌∙◌}
use Rattle.seize_blocks.specs.Given.SeizeSeatsLendings.{VisibleTo, IsValueOf}
use Rattle.map_tables.specs.declared.node.Node.{Node}
use Rattle.seize_views.specs.declared.view.Fixed.{Fixed}
use Rattle.threads_rule.specs.Views.Looks.{shown_in}
use Rattle.threads_rule.specs.Views.Rule.{Holds}
use Rattle.threads_rule.specs.declared.view.EndOfMap.{EndOfMap}
use Rattle.threads_rule.specs.declared.view.View.{View}
use Rattle.threads_rule.specs.declared.view.SeatWork.{SeatWork}
use Rattle.threads_rule.specs.declared.view.SeatWork.TheVariants.{Nothing, Calls, Makes, Ends}
use Rattle.threads_rule.proofs.Views.Laws.{endings_are_shown, held_are_shown}
use Rattle.threads_steps.specs.Made.{looked_in}

module _ {K V S : Type 0} (same : K → K → Bool) (hash : S → K → ℕ) (fixed : Fixed) (id : ℕ) (v : View K V S) (b : ℕ) where
  abbrev Is : Type 0
  Is = VisibleTo (Holds same hash fixed) id v b × ((y : Node K V) → IsValueOf (Holds same hash fixed) id v b y → shown_in v.held b ≡ Some y)

  by : (o : Option (Node K V)) → shown_in v.held b ≡ o → IsSome o → Is
  by None e some = absurd (cc some)
  by (Some x) e some = let k = held_are_shown V same hash fixed id b v x e in (k.0, λ y of. e ∙ ap Some (sym (k.1 y of)))

  pub is_shown : IsSome (shown_in v.held b) → Is
  is_shown some = by (shown_in v.held b) refl some

  -- and so is what the last step of the end of its map has looked at
  abbrev IsSeen : SeatWork K V S → Type 0
  IsSeen work = VisibleTo (Holds same hash fixed) id v b × ((y : Node K V) → IsValueOf (Holds same hash fixed) id v b y → looked_in work v.looks b ≡ Some y)

  pub is_looked : IsSome (looked_in v.work v.looks b) → IsSeen v.work
  is_looked = by_work v.work refl
    where
      by_end : (end : EndOfMap) → v.work ≡ Ends end → (o : Option (Node K V)) → shown_in v.looks b ≡ o → IsSome o → IsSeen (Ends end)
      by_end end works None e some = absurd (cc some)
      by_end end works (Some x) e some = let k = endings_are_shown V same hash fixed id b v end x works e in (k.0, λ y of. e ∙ ap Some (sym (k.1 y of)))

      by_work : (work : SeatWork K V S) → v.work ≡ work → IsSome (looked_in work v.looks b) → IsSeen work
      by_work (Ends end) works some = by_end end works (shown_in v.looks b) refl some
      by_work Nothing works some = absurd (cc some)
      by_work (Calls machine) works some = absurd (cc some)
      by_work (Makes own m hasher opening) works some = absurd (cc some)

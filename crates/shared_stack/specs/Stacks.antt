-- What becomes of the stack at a root.
use Rattle.std.specs.Prelude.{ℕ, List, [], ◌≡◌, ◌≢◌, ◌⊎◌, Some}
use Rattle.seize_views.specs.Views.Notes.{looked_at, written_at}
use Rattle.seize_views.specs.declared.view.Deed.{Deed}
use Rattle.shared_stack.specs.declared.pile.Pile.{Pile}
use Rattle.shared_stack.specs.declared.stack.Popped.{Popped}
use Rattle.shared_stack.specs.declared.stack.Popped.TheVariants.{Value, Empty, Missed}
use Rattle.shared_stack.specs.Piles.{values}
use Rattle.std.specs.declared.alloc.Global.{Global}
use Rattle.std.specs.declared.sync.Arc.{Arc}

-- what a guard of this type has seen last, has done last at a root, and is lent
module _ {V G : Type 0} (seen : G → ℕ) (did : G → Deed (Pile V)) (lends : G → ℕ → Pile V → Type 0) where
  -- a guard that had looked at this root, and found these values there: those of the block that it saw, or none where it saw none
  pub record Found (then : G) (root : ℕ) (there : List V) : Type 0 where
    pub looked : seen then ≢ 0 → looked_at (did then) ≡ Some (root, seen then)
    pub lent : ((seen then ≡ 0) × (there ≡ [])) ⊎ ((pile : Pile V) × lends then (seen then) pile × (there ≡ values pile))

  -- a guard has put a pile at this root in the place of the block that it had found there, and its values come of those that it had found so
  pub record Replaces (now : G) (root : ℕ) (so : List V → List V → Type 0) : Type 0 where
    pub then : G
    pub old : List V
    pub found : Found then root old
    pub pile : Pile V
    pub put : written_at (did now) ≡ Some (root, Some pile, seen then)
    pub new : so old (values pile)

module _ {V : Type 0} where
  -- where a value was popped it is so
  abbrev pub IfValue : Popped V → (Arc V Global → Type 0) → Type 0
  IfValue (Value value) so = so value
  IfValue Empty so = Unit {0}
  IfValue Missed so = Unit {0}

  -- where there was none this is so
  abbrev pub IfEmpty : Popped V → Type 0 → Type 0
  IfEmpty (Value value) so = Unit {0}
  IfEmpty Empty so = so
  IfEmpty Missed so = Unit {0}

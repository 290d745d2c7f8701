-- A caller's operation is allowed, whether it is the next one of its row or another one that the rule allows, and tells no more than what is noted.
use Rattle.std.specs.Prelude.{Option, Some}
use Rattle.std.proofs.Common.{◌≡◌, ◌⊎◌, ℕ, inl, inr}
use Rattle.seize_words.specs.OneMemory.Op.{Op, Out, Rewrite}
use Rattle.seize_seats.specs.Seats.State.{State, Allows, Owns}
use Rattle.seize_views.specs.Views.Content.{RowsAreObserved, RowsContinueIn}
use Rattle.seize_views.specs.Views.Notes.{noted_observed}
use Rattle.seize_views.specs.Views.Promises.{op_of}
use Rattle.seize_views.specs.declared.view.Fixed.{Fixed}
use Rattle.seize_views.specs.declared.view.Noted.{Noted}
use Rattle.seize_callers.specs.Made.{IsAllowed}
use Rattle.seize_callers.proofs.Drives.{not_rewrite}

module _ {T V W B : Type 0} (holds : Fixed → State T V W → Type 0) (keeps : V → V → W → ℕ → Type 0) (notes : V → Noted T) (beside : V → B) (defers : T → Option ℕ)
    (then : V → Op T → Out T → V → Type 0) (fixed : Fixed) (id : ℕ) (v : V) where
  abbrev Can : Op T → Type 0
  Can op = (op_of defers (notes v).knows ≡ Some op) ⊎ IsAllowed holds keeps notes beside defers then fixed id v op

  pub may_make : RowsContinueIn holds keeps notes beside defers then → (op : Op T) → Can op → Allows (holds fixed) keeps id v op (then v op)
  may_make rows op (inl next) = rows fixed id v op next
  may_make rows op (inr allowed) = allowed.may

  pub has_told : RowsAreObserved notes beside defers then → (op : Op T) → Can op → (out : Out T) (w : V) → then v op out w
      → noted_observed defers (notes v) op out (notes w) × (beside w ≡ beside v)
  has_told told op (inl next) out w so = told v w op out next so
  has_told told op (inr allowed) out w so = allowed.told out w so

  -- no row replaces a value
  pub has_alone : (b : ℕ) (x : T) → Can (Rewrite b x) → Owns (holds fixed) keeps id v b
  has_alone b x (inl next) = absurd (not_rewrite defers (notes v).knows b x next)
  has_alone b x (inr allowed) = allowed.alone

-- What was put in the place of what was found.
use Rattle.std.proofs.Common.{ℕ, [], ◌∷◌, ◌≡◌, ◌≢◌, Bool, true, false, Option, Some, None, IfSome, IfNone, Result, Ok, Err, IfOk, is_ok, Bor, refl, sym, inl, inr, true≢false}
use Rattle.seize_views.specs.declared.view.Deed.{Deed}
use Rattle.seize_views.specs.Views.Notes.{looked_at, written_at}
use Rattle.shared_stack.specs.declared.pile.Pile.{Pile}
use Rattle.shared_stack.specs.Piles.{values}
use Rattle.shared_stack.specs.Stacks.{Replaces}

-- what is so of an answer that was Ok
pub done : {A B P : Type 0} (r : Result A B) → is_ok r ≡ true → IfOk r (λ _. P) → P
done (Ok a) is so = so
done (Err e) is so = absurd (true≢false (sym is))

-- a look that tells of no block leaves none known
pub looks : {seen : ℕ} {L : Type 0} (b : Bool) → (b ≡ true → L) → (b ≡ false → seen ≡ 0) → seen ≢ 0 → L
looks true so none some = so refl
looks false so none some = absurd (some (none refl))

module _ {V G : Type 0} (seen : G → ℕ) (did : G → Deed (Pile V)) (lends : G → ℕ → Pile V → Type 0) (then now : G) (root : ℕ) (pile : Pile V)
    (looked : seen then ≢ 0 → looked_at (did then) ≡ Some (root, seen then)) (put : written_at (did now) ≡ Some (root, Some pile, seen then)) where
  -- a value was put on top of what was lent, or of nothing
  pub pushes : (r : Option (Bor (Pile V))) (x : V) → IfSome r (λ p. lends then (seen then) p.now) → IfNone r (seen then ≡ 0)
      → IfSome r (λ p. values pile ≡ x ∷ values p.now) → IfNone r (values pile ≡ x ∷ []) → Replaces seen did lends now root (λ old new. new ≡ x ∷ old)
  pushes None x lent none over alone =
      record { then = then; old = []; found = record { looked = looked; lent = inl (none, refl) }; pile = pile; put = put; new = alone }
  pushes (Some p) x lent none over alone =
      record { then = then; old = values p.now; found = record { looked = looked; lent = inr (p.now, lent, refl) }; pile = pile; put = put; new = over }

  -- the topmost value was taken off
  pub pops : (p : Pile V) (x : V) → lends then (seen then) p → values p ≡ x ∷ values pile → Replaces seen did lends now root (λ old new. old ≡ x ∷ new)
  pops p x lent parted =
      record { then = then; old = values p; found = record { looked = looked; lent = inr (p, lent, refl) }; pile = pile; put = put; new = parted }

-- What a walk has shown, and what it has still to show.
use Rattle.std.proofs.Common.{◌≡◌, List, [], ◌∷◌, ◌++◌, map, Option, Some, None, ap, sym, ◌∙◌, append-nil}
use Rattle.std.specs.Iterator.{Drains, Yields, YieldsFirstBy}

module _ {S A B : Type 0} (view : A → B) (rest : S → List B) where
  -- what was to be shown is what was shown, and then what is still to be shown
  pub so_far : (s : S) (xs : List A) (t : S) → Yields (YieldsFirstBy view rest) s xs t → rest s ≡ map view xs ++ rest t
  so_far s [] t y = ap rest y
  so_far s (x ∷ xs) t y = y.1 ∙ ap (λ l. view x ∷ l) (so_far y.0 xs t y.2)

  pub this_one : (s : S) (xs : List A) (t : S) (x : A) (u : S) (r : Option A) → Yields (YieldsFirstBy view rest) s xs t → r ≡ Some x → YieldsFirstBy view rest t r u → rest s ≡ map view xs ++ (view x ∷ rest u)
  this_one s xs t x u None y is step = absurd (cc is)
  this_one s xs t x u (Some z) y is step = let same : z ≡ x = cc is in so_far s xs t y ∙ ap (λ l. map view xs ++ l) (step ∙ ap (λ w. view w ∷ rest u) same)

  pub shown_all : (s : S) (xs : List A) (t u : S) (r : Option A) → Yields (YieldsFirstBy view rest) s xs t → r ≡ None → YieldsFirstBy view rest t r u → map view xs ≡ rest s
  shown_all s xs t u None y is step = sym (so_far s xs t y ∙ ap (λ l. map view xs ++ l) step.0 ∙ append-nil (map view xs))
  shown_all s xs t u (Some z) y is step = absurd (cc is)

  -- what a walk shows that was run to its end is all that was to come
  pub shown_to_end : (s : S) (xs : List A) → Drains (YieldsFirstBy view rest) s xs → map view xs ≡ rest s
  shown_to_end s [] d = let went = d.1 in sym (ap rest went.1 ∙ went.2.0)
  shown_to_end s (x ∷ xs) d =
      let went = d.1 in let first = went.1 in ap (λ l. view x ∷ l) (shown_to_end first.0 xs (d.0, (went.0, first.2, went.2))) ∙ sym first.1

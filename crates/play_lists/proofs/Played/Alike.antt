-- What is told alike of two things is told alike of them after the same changes.
use Rattle.std.specs.Prelude.{◌≢◌, ◌⊎◌, Option, Some, None, option_map}
use Rattle.std.proofs.Common.{◌≡◌, ℕ, inl, inr, refl, ap, sym, ◌∙◌}
use Rattle.std.proofs.lemmas.Bool.{cases_eq}
use Rattle.seize.specs.World.{Rests, with_at}
use Rattle.many_acts.proofs.Given.CallersTogether.At.{at_same, at_other}
use Rattle.many_acts.specs.Given.FinishesMaps.{with_call}
use Rattle.many_acts.proofs.Given.ScenesRows.{never_rests}
use Rattle.many_acts.proofs.Acts.Counts as counts
use Rattle.many_acts.specs.Given.ScenesDeclared.row.SlotRow.{SlotRow}
use Rattle.play_lists.specs.Played.Reached.{row_or_rests}
use Rattle.run_finds.proofs.Given.General.{same_some}

-- what is there in one is there in the other
pub there_too : {A B C : Type 0} (f : A → C) (g : B → C) (o : Option A) (p : Option B) → option_map f o ≡ option_map g p → (b : B) → p ≡ Some b → (a : A) × (o ≡ Some a) × (f a ≡ g b)
there_too f g None p is b e = (let none : None ≡ Some (g b) = is ∙ ap (option_map g) e in absurd (cc none))
there_too f g (Some a) p is b e = (a, refl, same_some (f a) (g b) (is ∙ ap (option_map g) e))

pub both_at : {X Y Z : Type 0} (f : X → Z) (g : Y → Z) (a : ℕ → X) (b : ℕ → Y) (k : ℕ) (v : X) (w : Y) → f v ≡ g w → ((j : ℕ) → f (a j) ≡ g (b j)) → (j : ℕ) → f (with_at a k v j) ≡ g (with_at b k w j)
both_at f g a b k v w here others j = by (cases_eq j k)
  where
    by : (j ≡ k) ⊎ (j ≢ k) → f (with_at a k v j) ≡ g (with_at b k w j)
    by (inl e) = ap f (at_same a k v j e) ∙ here ∙ ap g (sym (at_same b k w j e))
    by (inr ne) = ap f (at_other a k v j ne) ∙ others j ∙ ap g (sym (at_other b k w j ne))

-- the call that has changed, and those of other callers
module _ {X : Type 0} (calls : ℕ → ℕ → Option X) (m i : ℕ) (it : Option X) where
  pub its_call : with_call calls m i it m i ≡ it
  its_call = counts.its_call calls i m i m it refl refl

  pub others_call : (k j : ℕ) → j ≢ i → with_call calls m i it k j ≡ calls k j
  others_call k j ne = counts.other_call calls j k i m it (λ e f. ne (sym e))

-- a row that rests is none
pub none_rests : (o : Option SlotRow) → row_or_rests o ≡ Rests → o ≡ None
none_rests None e = refl
none_rests (Some row) e = absurd (never_rests row e)

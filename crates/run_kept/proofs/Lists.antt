-- What is so of lists in which none passes a test.
use Rattle.std.specs.Prelude.{◌≡◌, Bool, true, false, ◌||◌, List, [], ◌∷◌}
use Rattle.std.specs.List.{AllByRecursion, list_any}
use Rattle.std.proofs.Common.{refl}

-- where none passes a test, each may be taken to fail it
pub all_but : {X : Type 0} (P Q : X → Type 0) (q : X → Bool) → ((x : X) → q x ≡ false → P x → Q x) → (xs : List X) → list_any q xs ≡ false → AllByRecursion P xs → AllByRecursion Q xs
all_but P Q q so [] none all = tt
all_but P Q q so (x ∷ xs) none all = both (q x) refl none (λ f. all_but P Q q so xs f all.1)
  where
    both : (b : Bool) → q x ≡ b → (b || list_any q xs) ≡ false → (list_any q xs ≡ false → AllByRecursion Q xs) → Q x × AllByRecursion Q xs
    both true e f ih = absurd (cc f)
    both false e f ih = (so x e all.0, ih f)

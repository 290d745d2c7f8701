-- What stands for a key is of the class of the keys equal to it.
use Rattle.std.specs.Cmp.{IsEquivalence}
use Rattle.std.specs.Prelude.{◌%◌, fold}
use Rattle.std.proofs.Common.{◌≡◌, ℕ, ◌^◌, Bool, true, List, ap, sym, ◌∙◌}
use Rattle.map_tables.proofs.Classes.{asked_equal, one_class}
use Rattle.map_straight.specs.Given.RuleMaps.{IsClass}
use Rattle.owner_calls.specs.Owned.Owned.{hashed_by}

module _ {K S H : Type 0} (eq : K → K → Bool) (finish : H → ℕ) (write : H → List ℕ → H) (build : S → H) (input : K → List (List ℕ)) (hasher : S) where
  pub is_class : {Q : Type 0} (asks : Q → K → Bool) (q_input : Q → List (List ℕ)) (stands_for : Q → K) → ((asked : Q) (key : K) → asks asked key ≡ eq (stands_for asked) key)
      → ((asked : Q) → q_input asked ≡ input (stands_for asked)) → IsEquivalence eq → ((x y : K) → eq x y ≡ true → input x ≡ input y)
      → (asked : Q) → IsClass eq (hashed_by finish write build input hasher) (asks asked) (hashed_by finish write build q_input hasher asked)
  is_class asks q_input stands_for stands hashed classes respects asked = record {
    hashes = λ k is.
        ap (λ (written : List (List ℕ)). finish (fold write (build hasher) written) % 2 ^ 64)
        (sym (hashed asked ∙ respects (stands_for asked) k (asked_equal eq classes stands_for asks stands asked k is)));
    one = λ k other is. one_class eq classes stands_for asks stands asked k other is;
  }

-- Keys whose hashes come from what they write are lawful.
use Rattle.std.specs.Cmp.{IsEquivalence}
use Rattle.std.proofs.Common.{◌≡◌, ℕ, ◌+◌, ◌<◌, ◌^◌, Bool, true, List, ap, arith}
use Rattle.std.specs.Prelude.{◌%◌}
use Rattle.std.proofs.Math.Nat.{mod-lt}
use Rattle.papaya_raw.specs.Given.TablesProbes.{triangular}
use Rattle.map_rule.specs.Maps.{spot_at}
use Rattle.map_facts.specs.Steps.{AreLawful}

module _ {K : Type 0} (eq : K → K → Bool) (input : K → List (List ℕ)) (classes : IsEquivalence eq) (respects : (x y : K) → eq x y ≡ true → input x ≡ input y) (number : List (List ℕ) → ℕ) where
  abbrev hashed : K → ℕ
  hashed k = number (input k) % 2 ^ 64

  pub are_lawful : AreLawful eq (λ k. number (input k) % 2 ^ 64)
  are_lawful = record {
    lawful = record {
      classes = classes;
      respects = λ len j k other same. ap (λ (w : List (List ℕ)). spot_at len (number w % 2 ^ 64) j) (respects k other same);
      within = λ len j k some. mod-lt (hashed k + triangular j) some;
    };
    fits = λ k. word (number (input k));
  }
    where
      word : (n : ℕ) → n % 2 ^ 64 < 2 ^ 64
      word n = omega arith

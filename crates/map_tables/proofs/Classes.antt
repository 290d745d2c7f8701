-- What stands for a key is equivalent to a whole class of equal keys.
use Rattle.std.specs.Cmp.{IsEquivalence}
use Rattle.std.specs.Prelude.{IsTrue}
use Rattle.std.proofs.Common.{◌≡◌, Bool, sym, ◌∙◌}

module _ {K Q : Type 0} (eq : K → K → Bool) (classes : IsEquivalence eq) (stands_for : Q → K) (asks : Q → K → Bool)
    (stands : (asked : Q) (key : K) → asks asked key ≡ eq (stands_for asked) key) where
  -- it is equal to the one that it stands for
  pub asked_equal : (asked : Q) (key : K) → IsTrue (asks asked key) → IsTrue (eq (stands_for asked) key)
  asked_equal asked key is = sym (stands asked key) ∙ is

  pub one_class : (asked : Q) (key other : K) → IsTrue (asks asked key) → asks asked other ≡ eq key other
  one_class asked key other is = stands asked other ∙ classes.congr (stands_for asked) key other (asked_equal asked key is)

-- The laws of pairs in another order.
use Rattle.owner_asks.specs.Pairs.Orders.{FoundInAnyOrder, LeftInAnyOrder, ApartInAnyOrder, PutIsFound, OthersStay}
use Rattle.owner_asks.specs.Pairs.Equals.{AgreeAtEachKey, AgreeInAnyOrder, agree_at_each, agree_from_each}
use Rattle.owner_asks.specs.Pairs.Puts.{LastIsFound}
use Rattle.owner_asks.specs.Pairs.Each.{FoundPasses}
use Rattle.std.specs.Prelude.{◌≡◌, if◌then◌else◌, Bool, true, false, [], ◌∷◌, Some, IfSome}
use Rattle.std.proofs.Common.{◌∙◌, refl}
use Rattle.owner_asks.proofs.Pairs.Equals as equals
use Rattle.owner_asks.proofs.Pairs.Orders as orders
use Rattle.owner_calls.specs.Owned.Owned.{found_by, left_by}

module _ (K V : Type 0) where
  pub found_in_any_order : FoundInAnyOrder K V
  found_in_any_order same classes keys class xs ys apart order = orders.found_same same classes keys class xs ys apart order

  pub left_in_any_order : LeftInAnyOrder K V
  left_in_any_order keys xs ys order = orders.left_same keys xs ys order

  pub apart_in_any_order : ApartInAnyOrder K V
  apart_in_any_order same classes xs ys apart order = orders.apart_same same classes xs ys apart order

  pub put_is_found : PutIsFound K V
  put_is_found keys xs = (orders.none_found keys xs, λ x its. orders.put_found keys xs x its)

  pub others_stay : OthersStay K V
  others_stay keys others apart xs =
      (orders.others_found keys others apart xs, λ x its. orders.others_found_behind keys others apart (left_by keys xs) x its ∙ orders.others_found keys others apart xs)

  pub found_passes : FoundPasses K V
  found_passes keys [] = tt
  found_passes keys (x ∷ xs) = by (keys x.0) refl (found_passes keys xs)
    where
      by : (b : Bool) → keys x.0 ≡ b → IfSome (found_by keys xs) (λ y. keys y.0 ≡ true) → IfSome (if b then Some x else found_by keys xs) (λ y. keys y.0 ≡ true)
      by true passes rest = passes
      by false fails rest = rest

pub agree_at_each_key : (K V : Type 0) → AgreeAtEachKey K V
agree_at_each_key K V same classes equal xs ys = (λ so. agree_at_each same equal classes xs ys so, λ each. agree_from_each same equal xs ys each)

pub agree_in_any_order : (K V : Type 0) → AgreeInAnyOrder K V
agree_in_any_order K V same classes equal itself xs ys apart order = equals.same_in_any_order same classes equal itself xs ys apart order

pub last_is_found : (K V : Type 0) → LastIsFound K V
last_is_found K V same classes old given x q = (equals.last_found same classes old given x q, equals.others_as_before same classes old given x q)

-- What holds of every pair: of the one that is found, of those that are left, and of all once another one is put. The properties are any: so these are lemmas
-- beside the definitions, since no clause can range over properties.
use Rattle.std.specs.Prelude.{◌≡◌, if◌then◌else◌, Bool, true, false, List, [], ◌∷◌, ◌++◌, Some, IfSome, option_map}
use Rattle.std.specs.List.{All}
use Rattle.std.specs.List.Sorted.{IsPermutation}
use Rattle.std.proofs.Common.{refl}
use Rattle.std.proofs.lemmas.List.Elements.{All-cons, All-head, All-push, All-tail}
use Rattle.std.proofs.lemmas.List.Sorted.{All-permutation, IsPermutation-sym}
use Rattle.owner_calls.specs.Owned.Owned.{found_by, left_by}
use Rattle.owner_asks.specs.Pairs.Puts.{put, put_all}

-- The key of the pair that is found passes the test.
abbrev pub FoundPasses : Type 0 → Type 0 → Type 0
FoundPasses K V = (keys : K → Bool) (xs : List (K × V)) → IfSome (found_by keys xs) (λ x. keys x.0 ≡ true)

module _ {K V : Type 0} (P : K × V → Type 0) where
  -- what holds of every pair holds of the one that is found
  pub found_is_so : (keys : K → Bool) (xs : List (K × V)) → All P xs → IfSome (found_by keys xs) P
  found_is_so keys [] all = tt
  found_is_so keys (x ∷ xs) all = by (keys x.0) (found_is_so keys xs (All-tail P x xs all))
    where
      by : (b : Bool) → IfSome (found_by keys xs) P → IfSome (if b then Some x else found_by keys xs) P
      by true rest = All-head P x xs all
      by false rest = rest

  -- what follows of a pair whose key passes is so of the value that is found
  pub value_is_so : (Q : V → Type 0) (keys : K → Bool) (xs : List (K × V)) → ((x : K × V) → keys x.0 ≡ true → P x → Q x.1) → All P xs → IfSome (option_map (λ x. x.1) (found_by keys xs)) Q
  value_is_so Q keys [] so all = tt
  value_is_so Q keys (x ∷ xs) so all = by (keys x.0) refl (value_is_so Q keys xs so (All-tail P x xs all))
    where
      by : (b : Bool) → keys x.0 ≡ b → IfSome (option_map (λ y. y.1) (found_by keys xs)) Q → IfSome (option_map (λ y. y.1) (if b then Some x else found_by keys xs)) Q
      by true passes rest = so x passes (All-head P x xs all)
      by false fails rest = rest

  -- what holds of every pair holds of those that are left without some keys
  pub left_are_so : (keys : K → Bool) (xs : List (K × V)) → All P xs → All P (left_by keys xs)
  left_are_so keys [] all = all
  left_are_so keys (x ∷ xs) all = by (keys x.0) (left_are_so keys xs (All-tail P x xs all))
    where
      by : (b : Bool) → All P (left_by keys xs) → All P (if b then left_by keys xs else x ∷ left_by keys xs)
      by true rest = rest
      by false rest = All-cons P x (left_by keys xs) (All-head P x xs all) rest

  -- and of the same ones in another order, as after a change that was refused
  pub ordered_are_so : (xs ys : List (K × V)) → IsPermutation ys xs → All P xs → All P ys
  ordered_are_so xs ys order all = All-permutation P xs ys (IsPermutation-sym ys xs order) all

  -- and of all, once a pair of which it holds was put in the place of those of some keys
  pub put_are_so : (keys : K → Bool) (x : K × V) (xs ys : List (K × V)) → P x → All P xs → IsPermutation ys (left_by keys xs ++ (x ∷ [])) → All P ys
  put_are_so keys x xs ys its all order = ordered_are_so (left_by keys xs ++ (x ∷ [])) ys order (All-push P (left_by keys xs) x (left_are_so keys xs all) its)

  -- and once several of which it holds were put one after another
  pub puts_are_so : (same : K → K → Bool) (given xs : List (K × V)) → All P given → All P xs → All P (put_all same xs given)
  puts_are_so same [] xs given all = all
  puts_are_so same (y ∷ ys) xs given all =
      puts_are_so same ys (put same xs y) (All-tail P y ys given) (All-push P (left_by (same y.0) xs) y (left_are_so (same y.0) xs all) (All-head P y ys given))

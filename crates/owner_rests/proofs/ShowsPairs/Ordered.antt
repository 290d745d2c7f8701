-- Pairs in another order: what a closure keeps of them, and that their keys are apart where a class has at most one.
use Rattle.std.specs.Prelude.{if◌then◌else◌}
use Rattle.std.specs.List.{AllByRecursion, IsDistinct}
use Rattle.std.specs.List.Sorted.{IsPermutation}
use Rattle.std.specs.Map.{keys_of}
use Rattle.std.proofs.Common.{◌≡◌, Bool, true, false, List, [], ◌∷◌, map, filter, Some, None, refl, sym, subst}
use Rattle.std.proofs.lemmas.List.Sorted.{IsPermutation-trans, IsPermutation-map}
use denote.Ref.{Bor}
use Rattle.std.specs.Fn.{Mut}
use Rattle.owner_rests.specs.Given.{HasOneEach, KeepsOf, pair_for}
use Rattle.owner_asks.proofs.Pairs.Orders.{kept_in_any_order, lifts}

-- a closure that keeps some of the pairs keeps the same ones in another order
module _ {F K V : Type 0} (g : Mut F (Bor K × (Bor V × Unit {0})) Bool) (f : F) where
  pub keeps_same : (xs ys kept : List (K × V)) → IsPermutation xs ys → KeepsOf g f xs kept → (left : List (K × V)) × KeepsOf g f ys left × IsPermutation kept left
  keeps_same xs ys kept order k =
      let along = lifts (λ (y : (K × V) × Bool). y.0) xs ys order k.answered k.all in
      let left = map (λ (y : (K × V) × Bool). y.0) (filter (λ y. y.1) along.0) in (
        left,
        record {
          answered = along.0;
          all = along.1;
          asked = k.asked;
          each_once = IsPermutation-trans k.asked k.answered along.0 k.each_once along.2;
          last = k.last;
          along = k.along;
          kept_are = refl;
        },
        subst (λ zs. IsPermutation zs left) (sym k.kept_are)
            (IsPermutation-map (λ y. y.0) (filter (λ y. y.1) k.answered) (filter (λ y. y.1) along.0) (kept_in_any_order (λ y. y.1) k.answered along.0 along.2)),
      )

module _ {K V : Type 0} (same : K → K → Bool) where
  -- where a class has at most one pair, each key is apart from the others
  pub apart_each : (xs : List (K × V)) → HasOneEach same xs → IsDistinct same (keys_of xs)
  unfolding IsDistinct
  apart_each [] one = tt
  apart_each (x ∷ xs) one = (from xs one.0, apart_each xs one.1)
    where
      from : (ys : List (K × V)) → pair_for same x.0 ys ≡ None → AllByRecursion (λ k. same x.0 k ≡ false) (keys_of ys)
      from [] none = tt
      from (y ∷ ys) none = by (same x.0 y.0) refl none (from ys)
        where
          by : (b : Bool) → same x.0 y.0 ≡ b → (if b then Some y else pair_for same x.0 ys) ≡ None → (pair_for same x.0 ys ≡ None → AllByRecursion (λ k. same x.0 k ≡ false) (keys_of ys))
              → (same x.0 y.0 ≡ false) × AllByRecursion (λ k. same x.0 k ≡ false) (keys_of ys)
          by true e some more = absurd (cc some)
          by false e none more = (e, more none)

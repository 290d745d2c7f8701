-- What was removed is not found; and of what is kept by a test, that is so which the test tells.
use Rattle.std.specs.Prelude.{◌≡◌, if◌then◌else◌, Bool, true, false, List, [], ◌∷◌, None, Some, Result, Ok, Err, MatchResult, OnOk, filter}
use Rattle.std.specs.List.{All}
use Rattle.std.specs.List.Sorted.{IsPermutation}
use Rattle.std.proofs.Common.{refl, sym, subst}
use Rattle.std.proofs.lemmas.List.Elements.{All-nil, All-cons, All-head, All-tail, All-weaker, filter_passes}
use Rattle.papaya_seq.specs.Pairs.{found_by, left_by}
use Rattle.papaya_seq.specs.Each.{ordered_are_so}

module _ {K V : Type 0} (keys : K → Bool) where
  abbrev Fails : K × V → Type 0
  Fails x = keys x.0 ≡ false

  left_fail : (xs : List (K × V)) → All Fails (left_by keys xs)
  left_fail [] = All-nil Fails
  left_fail (x ∷ xs) = by (keys x.0) refl (left_fail xs)
    where
      by : (b : Bool) → keys x.0 ≡ b → All Fails (left_by keys xs) → All Fails (if b then left_by keys xs else x ∷ left_by keys xs)
      by true is rest = rest
      by false is rest = All-cons Fails x (left_by keys xs) is rest

  none_of : (xs : List (K × V)) → All Fails xs → found_by keys xs ≡ None
  none_of [] all = refl
  none_of (x ∷ xs) all =
      subst (λ (b : Bool). (if b then Some x else found_by keys xs) ≡ None) (sym (All-head Fails x xs all)) (none_of xs (All-tail Fails x xs all))

  -- none of those that are left has such a key
  pub none_left : (xs ys : List (K × V)) → IsPermutation ys (left_by keys xs) → found_by keys ys ≡ None
  none_left xs ys order = none_of ys (ordered_are_so Fails (left_by keys xs) ys order (left_fail xs))

-- Of values that a test kept that is so which the test tells, in whatever order they are.
pub kept_pass : {K V : Type 0} (test : K → V → Bool) (P : V → Type 0) → ((k : K) (v : V) → test k v ≡ true → P v) → (xs ys : List (K × V)) → IsPermutation ys (filter (λ (x : K × V). test x.0 x.1) xs)
    → All (λ (x : K × V). P x.1) ys
kept_pass {K} {V} test P tells xs ys order =
    let passing = λ (x : K × V). test x.0 x.1 in
    ordered_are_so (λ (x : K × V). P x.1) (filter passing xs) ys order
    (All-weaker (λ (x : K × V). passing x ≡ true) (λ (x : K × V). P x.1) (λ x. tells x.0 x.1) (filter passing xs) (filter_passes passing xs))

-- what follows where a call was done
pub where_ok : {T E : Type 0} (r : Result T E) {P Q : Type 0} → (P → Q) → OnOk r P → OnOk r Q
where_ok (Ok x) follows p = follows p
where_ok (Err e) follows p = tt

-- what is so where a call was done, once it was
pub on_ok : {T E : Type 0} (P : Type 0) (r : Result T E) (x : T) → r ≡ Ok x → OnOk r P → P
on_ok {T} {E} P r x is = subst (λ (q : Result T E). OnOk q P) is

-- and what is so where it was done
pub ok_of : {T E : Type 0} (P : T → Type 0) (Q : E → Type 0) (r : Result T E) (x : T) → r ≡ Ok x → MatchResult r P Q → P x
ok_of {T} {E} P Q r x is m = subst (λ (q : Result T E). MatchResult q P Q) is m

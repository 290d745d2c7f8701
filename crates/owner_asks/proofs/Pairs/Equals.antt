-- One look for each pair of a map decides whether another one of its length has the same pairs.
use Rattle.std.specs.Prelude.{if◌then◌else◌}
use Rattle.std.specs.Cmp.{IsEquivalence}
use Rattle.std.specs.List.{AllByRecursion, IsDistinct, list_all}
use Rattle.std.specs.List.Sorted.{IsPermutation}
use Rattle.std.specs.Map.{keys_of}
use Rattle.std.specs.Option.{option_eq}
use Rattle.std.proofs.Common.{◌≡◌, ◌≢◌, ◌+◌, ◌≤◌, Bool, true, false, ◌&&◌, List, [], ◌∷◌, ◌++◌, length, Option, Some, None, is_some, option_map, inl, inr, refl, ap, sym, subst, ◌∙◌, arith}
use Rattle.std.proofs.lemmas.Bool.{true≢false}
use Rattle.std.proofs.lemmas.Map.Keys.{IsDistinct-head, IsDistinct-tail}
use Rattle.owner_calls.specs.Owned.Owned.{found_by, left_by}
use Rattle.owner_asks.specs.Pairs.Equals.{agree, agree_at, agree_at_each, agree_at_equals, agree_from_each, agree_itself, none_or_passing, with_no_values}
use Rattle.owner_asks.proofs.Pairs.Orders.{found_same, others_found, others_found_behind, put_found}
use Rattle.owner_asks.specs.Pairs.Puts.{put, put_all}
use Rattle.owner_asks.proofs.Pairs.Puts.{in_midst_of_keys, put_last}
use Rattle.seize_words.proofs.General.{all_so as each_so}

pub each_and : {X : Type 0} (P : X → Type 0) (xs : List X) (y : X) → AllByRecursion P xs → P y → AllByRecursion P (xs ++ (y ∷ []))
each_and P [] y so its = (its, tt)
each_and P (x ∷ xs) y so its = (so.0, each_and P xs y so.1 its)

-- a test that a Bool passes, or not
yes_or_no : (b : Bool) → (b ≡ true → ⊥) → b ≡ false
yes_or_no true no' = absurd (no' refl)
yes_or_no false no' = refl

all_keys : {K V : Type 0} (test : K → Bool) (xs : List (K × V)) → AllByRecursion (λ x. test x.0 ≡ true) xs → list_all test (keys_of xs) ≡ true
all_keys test [] all = refl
all_keys test (x ∷ xs) all = ap (λ b. b && list_all test (keys_of xs)) all.0 ∙ all_keys test xs all.1

fewer_left : {K V : Type 0} (keys : K → Bool) (xs : List (K × V)) → length (left_by keys xs) ≤ length xs
fewer_left keys [] = omega arith
fewer_left keys (x ∷ xs) = by (keys x.0) (fewer_left keys xs)
  where
    by : (b : Bool) → length (left_by keys xs) ≤ length xs → length (if b then left_by keys xs else x ∷ left_by keys xs) ≤ length (x ∷ xs)
    by true so = omega (arith, so)
    by false so = omega (arith, so)

one_fewer : {K V : Type 0} (keys : K → Bool) (xs : List (K × V)) → is_some (found_by keys xs) ≡ true → length (left_by keys xs) + 1 ≤ length xs
one_fewer keys [] there = absurd (true≢false (sym there))
one_fewer keys (x ∷ xs) there = by (keys x.0) (fewer_left keys xs) (one_fewer keys xs) there
  where
    by : (b : Bool) → length (left_by keys xs) ≤ length xs → (is_some (found_by keys xs) ≡ true → length (left_by keys xs) + 1 ≤ length xs)
        → is_some (if b then Some x else found_by keys xs) ≡ true → length (if b then left_by keys xs else x ∷ left_by keys xs) + 1 ≤ length (x ∷ xs)
    by true few more so = omega (arith, few)
    by false few more so = let e = more so in omega (arith, e)

-- what does not equal a key does not equal what equals it
apart_from : {K : Type 0} (same : K → K → Bool) → IsEquivalence same → (x y : K) → same x y ≡ false → (k : K) → same x k ≡ true → same y k ≡ false
apart_from same classes x y other k is = classes.symm y k ∙ sym (classes.congr x k y is) ∙ other

module _ {K V : Type 0} (same : K → K → Bool) (classes : IsEquivalence same) where
  -- each key is found there
  abbrev AreThere : List (K × V) → List (K × V) → Type 0
  AreThere ys xs = AllByRecursion (λ x. is_some (found_by (same x.0) ys) ≡ true) xs

  still_there : (x : K × V) (ys xs : List (K × V)) → AllByRecursion (λ k. same x.0 k ≡ false) (keys_of xs) → AreThere ys xs → AreThere (left_by (same x.0) ys) xs
  still_there x ys [] apart there = tt
  still_there x ys (y ∷ xs) apart there =
      (ap is_some (others_found (same x.0) (same y.0) (apart_from same classes x.0 y.0 apart.0) ys) ∙ there.0, still_there x ys xs apart.1 there.1)

  -- keys that are apart, and are all found, are no more than are there
  pub no_more : (xs ys : List (K × V)) → IsDistinct same (keys_of xs) → AreThere ys xs → length xs ≤ length ys
  no_more [] ys apart there = omega arith
  no_more (x ∷ xs) ys apart there =
      let few = one_fewer (same x.0) ys there.0 in
      let rest = no_more xs (left_by (same x.0) ys) (IsDistinct-tail same x.0 (keys_of xs) apart) (still_there x ys xs (IsDistinct-head same x.0 (keys_of xs) apart) there.1) in
      omega (arith, few, rest)

  or_later : (b : Bool) (x : K × V) (r : Option (K × V)) → is_some r ≡ true → is_some (if b then Some x else r) ≡ true
  or_later true x r so = refl
  or_later false x r so = so

  own_there : (xs : List (K × V)) → AreThere xs xs
  own_there [] = tt
  own_there (x ∷ xs) = (
    ap (λ (b : Bool). is_some (if b then Some x else found_by (same x.0) xs)) (classes.refl x.0),
    each_so (λ y. is_some (found_by (same y.0) xs) ≡ true) (λ y. is_some (found_by (same y.0) (x ∷ xs)) ≡ true) (λ y so. or_later (same y.0 x.0) x (found_by (same y.0) xs) so) xs (own_there xs),
  )

  -- where no two keys are equal, each pair is found by its key
  own_found : (front : List (K × V)) (x : K × V) (back : List (K × V)) → IsDistinct same (keys_of (front ++ (x ∷ back))) → found_by (same x.0) (front ++ (x ∷ back)) ≡ Some x
  own_found [] x back apart = ap (λ (b : Bool). if b then Some x else found_by (same x.0) back) (classes.refl x.0)
  own_found (y ∷ front) x back apart =
      ap (λ (b : Bool). if b then Some y else found_by (same x.0) (front ++ (x ∷ back)))
      (classes.symm x.0 y.0 ∙ in_midst_of_keys (λ k. same y.0 k ≡ false) front x back (IsDistinct-head same y.0 (keys_of (front ++ (x ∷ back))) apart))
      ∙ own_found front x back (IsDistinct-tail same y.0 (keys_of (front ++ (x ∷ back))) apart)

  -- a key with no pair is apart from all
  none_equal : (q : K) (xs : List (K × V)) → found_by (same q) xs ≡ None → AllByRecursion (λ k. same q k ≡ false) (keys_of xs)
  none_equal q [] none = tt
  none_equal q (x ∷ xs) none = by (same q x.0) refl (none_equal q xs) none
    where
      by : (b : Bool) → same q x.0 ≡ b → (found_by (same q) xs ≡ None → AllByRecursion (λ k. same q k ≡ false) (keys_of xs)) → (if b then Some x else found_by (same q) xs) ≡ None
          → (same q x.0 ≡ false) × AllByRecursion (λ k. same q k ≡ false) (keys_of xs)
      by true is more some = absurd (cc some)
      by false is more some = (is, more some)

  module _ (equal : V → V → Bool) (xs ys : List (K × V)) where
    -- these are found in the other list, with equal values
    abbrev pub AreFound : List (K × V) → Type 0
    AreFound part = AllByRecursion (λ x. agree_at same equal xs ys x.0 ≡ true) part

    by_value : (x : K × V) (o : Option (K × V)) → option_eq (λ a b. equal a.1 b.1) (Some x) o ≡ option_eq equal (Some x.1) (option_map (λ y. y.1) o)
    by_value x None = refl
    by_value x (Some y) = refl

    both_some : (p q : Option (K × V)) → option_eq (λ a b. equal a.1 b.1) p q ≡ true → is_some p ≡ true → is_some q ≡ true
    both_some None q so there = absurd (true≢false (sym there))
    both_some (Some x) None so there = absurd (true≢false (sym so))
    both_some (Some x) (Some y) so there = refl

    both_none : (q : Option (K × V)) → (is_some q ≡ true → ⊥) → option_eq (λ (a b : K × V). equal a.1 b.1) None q ≡ true
    both_none None no' = refl
    both_none (Some x) no' = absurd (no' refl)

    module _ (apart : IsDistinct same (keys_of xs)) where
      -- what was looked for, and what came of it
      module _ (front : List (K × V)) (x : K × V) (back : List (K × V)) (is : xs ≡ front ++ (x ∷ back)) (found : Bool)
          (told : found ≡ option_eq equal (Some x.1) (option_map (λ y. y.1) (found_by (same x.0) ys))) where
        its : agree_at same equal xs ys x.0 ≡ found
        its =
            ap (λ o. option_eq (λ a b. equal a.1 b.1) o (found_by (same x.0) ys)) (ap (found_by (same x.0)) is ∙ own_found front x back (subst (λ l. IsDistinct same (keys_of l)) is apart))
            ∙ by_value x (found_by (same x.0) ys) ∙ sym told

        pub one_more_found : found ≡ true → AreFound front → AreFound (front ++ (x ∷ []))
        one_more_found its_is so = each_and (λ y. agree_at same equal xs ys y.0 ≡ true) front x so (its ∙ its_is)

        pub one_not_found : found ≡ false → false ≡ agree same equal xs ys
        one_not_found no' = sym (yes_or_no (agree same equal xs ys) (λ agreed. true≢false (sym (agree_at_each same equal classes xs ys agreed x.0) ∙ its ∙ no')))

      there_by : (part : List (K × V)) → AreThere xs part → AreFound part → AreThere ys part
      there_by [] own found = tt
      there_by (x ∷ part) own found = (both_some (found_by (same x.0) xs) (found_by (same x.0) ys) found.0 own.0, there_by part own.1 found.1)

      -- the other one, which has as many, has no further key
      none_there : length xs ≡ length ys → AreFound xs → (q : K) → found_by (same q) xs ≡ None → (o : Option (K × V)) → found_by (same q) ys ≡ o → is_some o ≡ true → ⊥
      unfolding IsDistinct
      none_there as_many so q none None is some = true≢false (sym some)
      none_there as_many so q none (Some y) is some =
          let over = no_more ((q, y.1) ∷ xs) ys (none_equal q xs none, apart) (ap is_some is, there_by xs (own_there xs) so) in
          absurd (omega (arith, over, as_many))

      pub all_found : length xs ≡ length ys → AreFound xs → true ≡ agree same equal xs ys
      all_found as_many so = sym (agree_from_each same equal xs ys each)
        where
          each : (q : K) → agree_at same equal xs ys q ≡ true
          each q =
              elim (none_or_passing same (agree_at same equal xs ys) q xs (all_keys (agree_at same equal xs ys) xs so)) [
                | inl none ↦ ap (λ o. option_eq (λ a b. equal a.1 b.1) o (found_by (same q) ys)) none ∙ both_none (found_by (same q) ys) (none_there as_many so q none (found_by (same q) ys) refl)
                | inr k ↦ agree_at_equals same equal classes xs ys q k.0 k.1 ∙ k.2
              ]

module _ {K V : Type 0} (same : K → K → Bool) (classes : IsEquivalence same) (equal : V → V → Bool) (xs ys : List (K × V)) where
  there_from : (zs ws : List (K × V)) → ((q : K) → is_some (found_by (same q) zs) ≡ true → is_some (found_by (same q) ws) ≡ true) → AreThere same classes ws zs
  there_from zs ws so = each_so (λ x. is_some (found_by (same x.0) zs) ≡ true) (λ x. is_some (found_by (same x.0) ws) ≡ true) (λ x. so x.0) zs (own_there same classes zs)

  other_some : (p q : Option (K × V)) → option_eq (λ a b. equal a.1 b.1) p q ≡ true → is_some q ≡ true → is_some p ≡ true
  other_some p None so there = absurd (true≢false (sym there))
  other_some None (Some y) so there = absurd (true≢false (sym so))
  other_some (Some x) (Some y) so there = refl

  pub lengths_differ : IsDistinct same (keys_of xs) → IsDistinct same (keys_of ys) → length xs ≢ length ys → false ≡ agree same equal xs ys
  lengths_differ apart_here apart_there differ =
      sym (yes_or_no (agree same equal xs ys) (λ agreed.
      let each = agree_at_each same equal classes xs ys agreed in
      let few = no_more same classes xs ys apart_here (there_from xs ys (λ q. both_some same classes equal xs ys (found_by (same q) xs) (found_by (same q) ys) (each q))) in
      let many = no_more same classes ys xs apart_there (there_from ys xs (λ q. other_some (found_by (same q) xs) (found_by (same q) ys) (each q))) in
      differ (omega (arith, few, many))))

pub no_values : {K : Type 0} (xs : List (K × Unit {0})) → with_no_values (keys_of xs) ≡ xs
no_values [] = refl
no_values (x ∷ xs) = ap (λ l. x ∷ l) (no_values xs)

module _ {K V : Type 0} (same : K → K → Bool) (classes : IsEquivalence same) where
  pub same_in_any_order : (equal : V → V → Bool) → ((x : V) → equal x x ≡ true) → (xs ys : List (K × V)) → IsDistinct same (keys_of xs) → IsPermutation xs ys → agree same equal xs ys ≡ true
  same_in_any_order equal itself xs ys apart order =
      agree_from_each same equal xs ys
      (λ q. ap (option_eq (λ (x y : K × V). equal x.1 y.1) (found_by (same q) xs)) (found_same same classes (same q) (classes.congr q) xs ys apart order)
      ∙ agree_at_each same equal classes xs xs (agree_itself same equal itself xs) q)

  pub last_found : (old given : List (K × V)) (x : K × V) (q : K) → same x.0 q ≡ true → found_by (same q) (put_all same old (given ++ (x ∷ []))) ≡ Some x
  last_found old given x q is =
      ap (found_by (same q)) (put_last same old given x) ∙ (λ i. found_by (λ k. sym (classes.congr x.0 q k is) i) (put same (put_all same old given) x))
      ∙ put_found (same x.0) (put_all same old given) x (classes.refl x.0)

  pub others_as_before : (old given : List (K × V)) (x : K × V) (q : K) → same x.0 q ≡ false
      → found_by (same q) (put_all same old (given ++ (x ∷ []))) ≡ found_by (same q) (put_all same old given)
  others_as_before old given x q other =
      let apart = apart_from same classes x.0 q other in
      ap (found_by (same q)) (put_last same old given x) ∙ others_found_behind (same x.0) (same q) apart (left_by (same x.0) (put_all same old given)) x (classes.refl x.0)
      ∙ others_found (same x.0) (same q) apart (put_all same old given)

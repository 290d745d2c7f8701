-- What a stable sort by a key gives is the list in ascending order: in two lists that ascend, the items of each key stand in one order only if the lists are one.
use Rattle.std.proofs.Common.{◌≡◌, ℕ, suc, ◌<◌, ◌≤◌, Bool, true, false, cond, List, [], ◌∷◌, ◌++◌, length, get_or, map, refl, sym, ap, ◌∙◌, append_assoc, arith}
use Rattle.std.specs.Prelude.{nat_eq, nat_lt, filter, fold}
use Rattle.std.specs.Ordering.{nat_cmp, is_lt}
use Rattle.std.specs.List.Sorted.{IsNonDecreasingBy, IsStableByKey, ties}
use Rattle.std.proofs.lemmas.Bool.{cond_both, ltb-true, ltb-false, eqb-true, eq-eqb, ne_eqb}
use Rattle.std.proofs.lemmas.Bool.Decides.{nat_tests}
use Rattle.std.proofs.lemmas.List.{append-nil}
use Rattle.reclaimed_engine.specs.PrintedText.Ascending.{placed, ascending}

-- the two cases of a step that keeps or leaves an item
left_out : {X : Type 0} (b : Bool) (x : X) (xs ys : List X) → cond b (x ∷ xs) xs ≡ cond b (x ∷ ys) ys → xs ≡ ys
left_out true x xs ys e = cc
left_out false x xs ys e = e

kept_before : {X : Type 0} (b : Bool) (x : X) (xs ys : List X) → cond b (x ∷ (xs ++ ys)) (xs ++ ys) ≡ cond b (x ∷ xs) xs ++ ys
kept_before true x xs ys = refl
kept_before false x xs ys = refl

kept_alone : {X : Type 0} (b : Bool) (x : X) (xs : List X) → cond b (x ∷ []) [] ++ xs ≡ cond b (x ∷ xs) xs
kept_alone true x xs = refl
kept_alone false x xs = refl

alone : {X : Type 0} (b : Bool) (x : X) (xs : List X) → (b ≡ true → xs ≡ []) → cond b (x ∷ xs) xs ≡ xs ++ cond b (x ∷ []) []
alone true x xs h = let none : xs ≡ [] = h refl in rw none refl
alone false x xs h = sym (append-nil xs)

mapped_cond : {X Y : Type 0} (b : Bool) (f : X → Y) (xs ys : List X) → map f (cond b xs ys) ≡ cond b (map f xs) (map f ys)
mapped_cond true f xs ys = refl
mapped_cond false f xs ys = refl

module _ {X : Type 0} (key : X → ℕ) where
  -- each key is at least n
  abbrev AtLeast : ℕ → List X → Type 0
  AtLeast n [] = Unit {0}
  AtLeast n (x ∷ xs) = (n ≤ key x) × AtLeast n xs

  abbrev Ascends : List X → Type 0
  Ascends [] = Unit {0}
  Ascends (x ∷ xs) = AtLeast (key x) xs × Ascends xs

  -- whether the two have one key
  abbrev same : X → X → Bool
  same x y = nat_eq (key x) (key y)

  at_least_less : (m n : ℕ) (xs : List X) → m ≤ n → AtLeast n xs → AtLeast m xs
  at_least_less m n [] le h = tt
  at_least_less m n (x ∷ xs) le h = (omega (arith, h.0), at_least_less m n xs le h.1)

  none_same : (z : X) (n : ℕ) (xs : List X) → key z < n → AtLeast n xs → filter (same z) xs ≡ []
  none_same z n [] lt h = refl
  none_same z n (x ∷ xs) lt h =
      let le : n ≤ key x = h.0 in
      let differs : nat_eq (key z) (key x) ≡ false = ne_eqb (key z) (key x) (λ e. omega arith) in
      rw differs (none_same z n xs lt h.1)

  same_first : (x : X) (xs : List X) → filter (same x) (x ∷ xs) ≡ x ∷ filter (same x) xs
  same_first x xs = let e : nat_eq (key x) (key x) ≡ true = eq-eqb (key x) (key x) refl in rw e refl

  not_below : (x : X) (xs : List X) (y : X) (ys : List X) → Ascends (y ∷ ys) → filter (same x) (x ∷ xs) ≡ filter (same x) (y ∷ ys) → key x < key y → ⊥
  not_below x xs y ys up e lt =
      let none = none_same x (key y) (y ∷ ys) lt (omega arith, up.0) in
      let first = same_first x xs in
      let no : x ∷ filter (same x) xs ≡ [] = sym first ∙ (e ∙ none) in cc

  heads : (x : X) (xs : List X) (y : X) (ys : List X) → key x ≡ key y → filter (same x) (x ∷ xs) ≡ filter (same x) (y ∷ ys) → x ≡ y
  heads x xs y ys k e =
      let first = same_first x xs in
      let equal : nat_eq (key x) (key y) ≡ true = eq-eqb (key x) (key y) k in
      let second : filter (same x) (y ∷ ys) ≡ y ∷ filter (same x) ys = rw equal refl in
      let both : x ∷ filter (same x) xs ≡ y ∷ filter (same x) ys = sym first ∙ (e ∙ second) in cc

  -- two lists that ascend are one if the items of each key are
  one_ascent : (xs ys : List X) → Ascends xs → Ascends ys → ((z : X) → filter (same z) xs ≡ filter (same z) ys) → xs ≡ ys
  one_ascent [] [] up vp e = refl
  one_ascent [] (y ∷ ys) up vp e = let no : [] ≡ y ∷ filter (same y) ys = e y ∙ same_first y ys in absurd cc
  one_ascent (x ∷ xs) [] up vp e = let no : [] ≡ x ∷ filter (same x) xs = sym (e x) ∙ same_first x xs in absurd cc
  one_ascent (x ∷ xs) (y ∷ ys) up vp e =
      let low : key x < key y → ⊥ = not_below x xs y ys vp (e x) in
      let high : key y < key x → ⊥ = not_below y ys x xs up (sym (e y)) in
      let k : key x ≡ key y = omega (arith, low, high) in
      let first : x ≡ y = heads x xs y ys k (e x) in
      let rest : (z : X) → filter (same z) xs ≡ filter (same z) ys = λ z. left_out (same z x) x (filter (same z) xs) (filter (same z) ys) (e z ∙ ap (λ (w : X). filter (same z) (w ∷ ys)) (sym first)) in
      let others : xs ≡ ys = one_ascent xs ys up.1 vp.1 rest in cc

  placed_at_least : (n : ℕ) (p : X) (xs : List X) → n ≤ key p → AtLeast n xs → AtLeast n (placed key xs p)
  placed_at_least n p [] le h = (le, tt)
  placed_at_least n p (x ∷ xs) le h =
      cond_both (nat_lt (key p) (key x)) (p ∷ x ∷ xs) (x ∷ placed key xs p) (AtLeast n) (λ _. (le, h)) (λ _. (h.0, placed_at_least n p xs le h.1))

  placed_ascends : (p : X) (xs : List X) → Ascends xs → Ascends (placed key xs p)
  placed_ascends p [] up = (tt, tt)
  placed_ascends p (x ∷ xs) up =
      cond_both (nat_lt (key p) (key x)) (p ∷ x ∷ xs) (x ∷ placed key xs p) Ascends
      (λ t. let lt : key p < key x = ltb-true (key p) (key x) t in
      ((omega arith, at_least_less (key p) (key x) xs (omega arith) up.0), up))
      (λ t. let le : key x ≤ key p = ltb-false (key p) (key x) t in
      (placed_at_least (key x) p xs le up.0, placed_ascends p xs up.1))

  -- an item before those of greater keys
  same_before : (z p x : X) (xs : List X) → Ascends (x ∷ xs) → key p < key x → filter (same z) (p ∷ x ∷ xs) ≡ filter (same z) (x ∷ xs) ++ filter (same z) (p ∷ [])
  same_before z p x xs up lt =
      alone (same z p) p (filter (same z) (x ∷ xs))
      (λ t. let k : key z ≡ key p = eqb-true (key z) (key p) t in none_same z (key x) (x ∷ xs) (omega arith) (omega arith, up.0))

  placed_same : (z p : X) (xs : List X) → Ascends xs → filter (same z) (placed key xs p) ≡ filter (same z) xs ++ filter (same z) (p ∷ [])
  placed_same z p [] up = refl
  placed_same z p (x ∷ xs) up =
      cond_both (nat_lt (key p) (key x)) (p ∷ x ∷ xs) (x ∷ placed key xs p) (λ l. filter (same z) l ≡ filter (same z) (x ∷ xs) ++ filter (same z) (p ∷ []))
      (λ t. same_before z p x xs up (ltb-true (key p) (key x) t))
      (λ t. ap (λ (l : List X). cond (same z x) (x ∷ l) l) (placed_same z p xs up.1) ∙ kept_before (same z x) x (filter (same z) xs) (filter (same z) (p ∷ [])))

  all_ascend : (done xs : List X) → Ascends done → Ascends (fold (placed key) done xs)
  all_ascend done [] up = up
  all_ascend done (x ∷ xs) up = all_ascend (placed key done x) xs (placed_ascends x done up)

  all_same : (z : X) (done xs : List X) → Ascends done → filter (same z) (fold (placed key) done xs) ≡ filter (same z) done ++ filter (same z) xs
  all_same z done [] up = sym (append-nil (filter (same z) done))
  all_same z done (x ∷ xs) up =
      all_same z (placed key done x) xs (placed_ascends x done up)
      ∙ (ap (λ (l : List X). l ++ filter (same z) xs) (placed_same z x done up)
      ∙ (append_assoc (filter (same z) done) (filter (same z) (x ∷ [])) (filter (same z) xs)
      ∙ ap (λ (l : List X). filter (same z) done ++ l) (kept_alone (same z x) x (filter (same z) xs))))

  at_least_from : (n : ℕ) (xs : List X) → ((j : ℕ) (d : X) → j < length xs → n ≤ key (get_or xs j d)) → AtLeast n xs
  at_least_from n [] h = tt
  at_least_from n (x ∷ xs) h = (h 0 x (omega arith), at_least_from n xs (λ j d l. h (suc j) d (omega arith)))

  ascends_from : (xs : List X) → IsNonDecreasingBy key xs → Ascends xs
  ascends_from [] h = tt
  ascends_from (x ∷ xs) h =
      (at_least_from (key x) xs (λ j d l. h 0 (suc j) d (omega arith) (omega arith)), ascends_from xs (λ i j d le l. h (suc i) (suc j) d (omega arith) (omega arith)))

  -- ties of the order of the keys are items of one key
  ties_same : (x y : X) → ties (λ a b. is_lt (nat_cmp (key a) (key b))) x y ≡ same x y
  ties_same x y = grind (arith, nat_tests)

  filters_same : (p q : X → Bool) → ((x : X) → p x ≡ q x) → (xs : List X) → filter p xs ≡ filter q xs
  filters_same p q e [] = refl
  filters_same p q e (x ∷ xs) = let t = e x in let rest = filters_same p q e xs in cc

  -- what a stable sort by the key gives
  pub ascending_is : (xs ys : List X) → IsNonDecreasingBy key ys → IsStableByKey key nat_cmp xs ys → ys ≡ ascending key xs
  ascending_is xs ys sorted stable =
      one_ascent ys (ascending key xs) (ascends_from ys sorted) (all_ascend [] xs tt)
      (λ z. let tied = ties_same z in
      sym (filters_same _ (same z) tied ys) ∙ (stable z ∙ (filters_same _ (same z) tied xs ∙ sym (all_same z [] xs tt))))

-- items that are read by a function keep their order
placed-map : {X Y : Type 0} (key : Y → ℕ) (f : X → Y) (xs : List X) (x : X) → map f (placed (λ z. key (f z)) xs x) ≡ placed key (map f xs) (f x)
placed-map key f [] x = refl
placed-map key f (first ∷ rest) x = let others = placed-map key f rest x in mapped_cond (nat_lt (key (f x)) (key (f first))) f (x ∷ first ∷ rest) (first ∷ placed (λ z. key (f z)) rest x) ∙ ap (λ (l : List _). cond (nat_lt (key (f x)) (key (f first))) (f x ∷ f first ∷ map f rest) (f first ∷ l)) others

fold_placed-map : {X Y : Type 0} (key : Y → ℕ) (f : X → Y) (done xs : List X) → map f (fold (placed (λ z. key (f z))) done xs) ≡ fold (placed key) (map f done) (map f xs)
fold_placed-map key f done [] = refl
fold_placed-map key f done (x ∷ xs) = fold_placed-map key f (placed (λ z. key (f z)) done x) xs ∙ ap (λ (l : List _). fold (placed key) l (map f xs)) (placed-map key f done x)

pub ascending-map : {X Y : Type 0} (key : Y → ℕ) (f : X → Y) (xs : List X) → map f (ascending (λ z. key (f z)) xs) ≡ ascending key (map f xs)
ascending-map key f xs = fold_placed-map key f [] xs

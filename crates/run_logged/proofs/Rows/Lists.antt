-- Lists: what is found, and what becomes of it, on two lists of which the same is seen.
use Rattle.std.specs.Prelude.{◌≡◌, ◌≤◌, ◌+◌, ℕ, zero, suc, Bool, true, false, not, cond, ◌||◌, ◌&&◌, List, [], ◌∷◌, length, filter, find, map, is_some, Option, Some, None, option_map, slice_set, slice_get, slice_index_or, nat_lt, position, if◌then◌else◌}
use Rattle.std.specs.List.{AllByRecursion, list_any, list_all, position_or_len, remove}
use Rattle.std.proofs.lemmas.Bool.{lt-ltb}
use Rattle.std.proofs.lemmas.List.Folds.{find_at}
use Rattle.std.proofs.Common.{refl, ap, sym, subst, ◌∙◌, arith}
use Rattle.run_kept.proofs.Lists.{all_but}

one_more : (n : ℕ) → suc n ≡ 1 + n
one_more n = omega arith

module _ {X : Type 0} where
  -- whether one is found
  pub is_found : (p : X → Bool) (xs : List X) → is_some (find p xs) ≡ list_any p xs
  is_found p [] = refl
  is_found p (x ∷ xs) = one (p x) (is_found p xs)
    where
      one : (b : Bool) → is_some (find p xs) ≡ list_any p xs → is_some (cond b (Some x) (find p xs)) ≡ (b || list_any p xs)
      one true e = refl
      one false e = e

  -- one that is found passes, and is one of them
  pub found_passes : (p : X → Bool) (xs : List X) (x : X) → find p xs ≡ Some x → p x ≡ true
  found_passes p [] x is = absurd (cc is)
  found_passes p (y ∷ xs) x is = one (p y) refl is (found_passes p xs x)
    where
      one : (b : Bool) → p y ≡ b → cond b (Some y) (find p xs) ≡ Some x → (find p xs ≡ Some x → p x ≡ true) → p x ≡ true
      one true e f ih = ap p (sym (the y x f)) ∙ e
        where
          the : (a b : X) → Some a ≡ Some b → a ≡ b
          the a b s = cc s
      one false e f ih = ih f

  pub found_has : (P : X → Type 0) (p : X → Bool) (xs : List X) (x : X) → find p xs ≡ Some x → AllByRecursion P xs → P x
  found_has P p [] x is all = absurd (cc is)
  found_has P p (y ∷ xs) x is all = one (p y) is (λ f. found_has P p xs x f all.1)
    where
      the : (a b : X) → Some a ≡ Some b → a ≡ b
      the a b s = cc s

      one : (b : Bool) → cond b (Some y) (find p xs) ≡ Some x → (find p xs ≡ Some x → P x) → P x
      one true f ih = subst P (the y x f) all.0
      one false f ih = ih f

  -- where one passes, one of which all is known does
  pub one_of : (P : X → Type 0) (p : X → Bool) (xs : List X) → list_any p xs ≡ true → AllByRecursion P xs → (x : X) × P x × (p x ≡ true)
  one_of P p [] any all = absurd (cc any)
  one_of P p (x ∷ xs) any all = one (p x) refl any (λ f. one_of P p xs f all.1)
    where
      one : (b : Bool) → p x ≡ b → (b || list_any p xs) ≡ true → (list_any p xs ≡ true → (y : X) × P y × (p y ≡ true)) → (y : X) × P y × (p y ≡ true)
      one true e f ih = (x, all.0, e)
      one false e f ih = ih f

  -- of all another fact follows
  pub all_so : (P Q : X → Type 0) → ((x : X) → P x → Q x) → (xs : List X) → AllByRecursion P xs → AllByRecursion Q xs
  all_so P Q so [] all = tt
  all_so P Q so (x ∷ xs) all = (so x all.0, all_so P Q so xs all.1)

-- what is read at a place where one stands
pub got : {X : Type 0} (xs : List X) (k : ℕ) (x z : X) → slice_get xs k ≡ Some x → slice_index_or xs k z ≡ x
got [] k x z e = absurd (cc e)
got (y ∷ xs) zero x z e = cc e
got (y ∷ xs) (suc k) x z e = got xs k x z e

-- what is seen of a list
module _ {X Z : Type 0} (f : X → Z) where
  pub found_map : (p : Z → Bool) (xs : List X) → find p (map f xs) ≡ option_map f (find (λ x. p (f x)) xs)
  found_map p [] = refl
  found_map p (x ∷ xs) = one (p (f x)) (found_map p xs)
    where
      one : (b : Bool) → find p (map f xs) ≡ option_map f (find (λ y. p (f y)) xs) → cond b (Some (f x)) (find p (map f xs)) ≡ option_map f (cond b (Some x) (find (λ y. p (f y)) xs))
      one true e = refl
      one false e = e

  pub any_map : (p : Z → Bool) (xs : List X) → list_any p (map f xs) ≡ list_any (λ x. p (f x)) xs
  any_map p [] = refl
  any_map p (x ∷ xs) = ap (λ (b : Bool). p (f x) || b) (any_map p xs)

  pub all_map : (p : Z → Bool) (xs : List X) → list_all p (map f xs) ≡ list_all (λ x. p (f x)) xs
  all_map p [] = refl
  all_map p (x ∷ xs) = ap (λ (b : Bool). p (f x) && b) (all_map p xs)

  -- a change that is not seen
  pub unseen : (change : X → X) → ((x : X) → f (change x) ≡ f x) → (xs : List X) → map f (map change xs) ≡ map f xs
  unseen change same [] = refl
  unseen change same (x ∷ xs) = ap (λ (z : Z). z ∷ map f (map change xs)) (same x) ∙ ap (λ (l : List Z). f x ∷ l) (unseen change same xs)

-- two lists of which the same is seen
module _ {X Y Z : Type 0} (f : X → Z) (g : Y → Z) (xs : List X) (ys : List Y) (alike : map f xs ≡ map g ys) where
  pub found_alike : (p : Z → Bool) → option_map f (find (λ x. p (f x)) xs) ≡ option_map g (find (λ y. p (g y)) ys)
  found_alike p = sym (found_map f p xs) ∙ ap (find p) alike ∙ found_map g p ys

  pub any_alike : (p : Z → Bool) → list_any (λ x. p (f x)) xs ≡ list_any (λ y. p (g y)) ys
  any_alike p = sym (any_map f p xs) ∙ ap (list_any p) alike ∙ any_map g p ys

  pub all_alike : (p : Z → Bool) → list_all (λ x. p (f x)) xs ≡ list_all (λ y. p (g y)) ys
  all_alike p = sym (all_map f p xs) ∙ ap (list_all p) alike ∙ all_map g p ys

-- both are none, or both are some, of which the same is seen
pub both_some : {X Y Z : Type 0} (f : X → Z) (g : Y → Z) (a : Option X) (b : Option Y) → option_map f a ≡ option_map g b → (y : Y) → b ≡ Some y → (x : X) × (a ≡ Some x) × (f x ≡ g y)
both_some f g None b e y is = absurd (let h = e ∙ ap (option_map g) is in cc h)
both_some f g (Some x) b e y is = (x, refl, the (f x) (g y) (e ∙ ap (option_map g) is))
  where
    the : {Z : Type 0} (c d : Z) → Some c ≡ Some d → c ≡ d
    the c d s = cc s

pub both_none : {X Y Z : Type 0} (f : X → Z) (g : Y → Z) (a : Option X) (b : Option Y) → option_map f a ≡ option_map g b → b ≡ None → a ≡ None
both_none f g None b e is = refl
both_none f g (Some x) b e is = absurd (let h = e ∙ ap (option_map g) is in cc h)

pub as_some : {X Y Z : Type 0} (f : X → Z) (g : Y → Z) (a : Option X) (b : Option Y) → option_map f a ≡ option_map g b → is_some a ≡ is_some b
as_some f g None None e = refl
as_some f g (Some x) (Some y) e = refl
as_some f g None (Some y) e = absurd (cc e)
as_some f g (Some x) None e = absurd (cc e)

module _ {X : Type 0} (p : X → Bool) where
  pub none_kept : (xs : List X) → list_any p xs ≡ false → filter p xs ≡ []
  none_kept [] e = refl
  none_kept (x ∷ xs) e = one (p x) e (none_kept xs)
    where
      one : (b : Bool) → (b || list_any p xs) ≡ false → (list_any p xs ≡ false → filter p xs ≡ []) → cond b (x ∷ filter p xs) (filter p xs) ≡ []
      one true f ih = absurd (cc f)
      one false f ih = ih f

  -- where one is found at a place, one passes, and where none is, none does
  pub placed : (xs : List X) → nat_lt (position_or_len p xs) (length xs) ≡ list_any p xs
  placed [] = refl
  placed (x ∷ xs) = one (p x) (placed xs)
    where
      further : (a b : ℕ) → nat_lt (1 + a) (suc b) ≡ nat_lt a b
      further a b = grind arith

      one : (b : Bool) → nat_lt (position_or_len p xs) (length xs) ≡ list_any p xs → nat_lt (cond (not b) (1 + position_or_len p xs) 0) (length (x ∷ xs)) ≡ (b || list_any p xs)
      one true e = lt-ltb 0 (suc (length xs)) (omega arith)
      one false e = further (position_or_len p xs) (length xs) ∙ e

  by_place : (b : Bool) (n : ℕ) (o : Option ℕ) → o ≡ cond b (Some n) None → is_some o ≡ b
  by_place true n o e = ap is_some e
  by_place false n o e = ap is_some e

  pub place_some : (xs : List X) (place : Option ℕ) → place ≡ position p xs → is_some place ≡ list_any p xs
  place_some xs place is = by_place (nat_lt (position_or_len p xs) (length xs)) (position_or_len p xs) place is ∙ placed xs

  pub place_is : (xs : List X) (place : ℕ) → Some place ≡ position p xs → place ≡ position_or_len p xs
  place_is xs place is = by (nat_lt (position_or_len p xs) (length xs)) is
    where
      by : (b : Bool) → Some place ≡ cond b (Some (position_or_len p xs)) None → place ≡ position_or_len p xs
      by true e = cc e
      by false e = absurd (cc e)

  -- what stands there is what is found
  pub place_found : (xs : List X) (place : ℕ) → Some place ≡ position p xs → slice_get xs place ≡ find p xs
  place_found xs place is = ap (slice_get xs) (place_is xs place is) ∙ sym (find_at p xs)

-- Two lists of which the same is seen, where one at most passes a test of that: what becomes of that one in both.
module _ {X Y Z : Type 0} (f : X → Z) (g : Y → Z) (p : Z → Bool) where
  heads : {z w : Z} {zs ws : List Z} → z ∷ zs ≡ w ∷ ws → (z ≡ w) × (zs ≡ ws)
  heads e = (cc e, cc e)

  -- nothing changes behind it
  untouched : (change : X → X) (xs : List X) → list_any (λ x. p (f x)) xs ≡ false → map f (map (λ x. if p (f x) then change x else x) xs) ≡ map f xs
  untouched change [] none = refl
  untouched change (x ∷ xs) none = one (p (f x)) refl none (untouched change xs)
    where
      one : (b : Bool) → p (f x) ≡ b → (b || list_any (λ y. p (f y)) xs) ≡ false
          → (list_any (λ y. p (f y)) xs ≡ false → map f (map (λ y. if p (f y) then change y else y) xs) ≡ map f xs)
          → f (if p (f x) then change x else x) ∷ map f (map (λ y. if p (f y) then change y else y) xs) ≡ f x ∷ map f xs
      one true e h ih = absurd (cc h)
      one false e h ih =
          ap (λ (b : Bool). f (if b then change x else x) ∷ map f (map (λ y. if p (f y) then change y else y) xs)) e ∙ ap (λ (l : List Z). f x ∷ l) (ih h)

  all_stay : (xs : List X) → list_any (λ x. p (f x)) xs ≡ false → filter (λ x. not (p (f x))) xs ≡ xs
  all_stay [] none = refl
  all_stay (x ∷ xs) none = one (p (f x)) none (all_stay xs)
    where
      one : (b : Bool) → (b || list_any (λ y. p (f y)) xs) ≡ false → (list_any (λ y. p (f y)) xs ≡ false → filter (λ y. not (p (f y))) xs ≡ xs)
          → cond (not b) (x ∷ filter (λ y. not (p (f y))) xs) (filter (λ y. not (p (f y))) xs) ≡ x ∷ xs
      one true h ih = absurd (cc h)
      one false h ih = ap (λ (l : List X). x ∷ l) (ih h)

  some_kept : (zs : List Y) → list_any (λ y. p (g y)) zs ≡ true → length (filter (λ y. p (g y)) zs) ≤ 0 → ⊥
  some_kept [] h l = cc h
  some_kept (y ∷ zs) h l = one (p (g y)) h l (some_kept zs)
    where
      one : (b : Bool) → (b || list_any (λ w. p (g w)) zs) ≡ true → length (cond b (y ∷ filter (λ w. p (g w)) zs) (filter (λ w. p (g w)) zs)) ≤ 0
          → (list_any (λ w. p (g w)) zs ≡ true → length (filter (λ w. p (g w)) zs) ≤ 0 → ⊥) → ⊥
      one true h2 l2 ih = omega (arith, l2)
      one false h2 l2 ih = ih h2 l2

  -- none passes behind the first one
  none_behind : (xs : List X) (ys : List Y) → map f xs ≡ map g ys → suc (length (filter (λ y. p (g y)) ys)) ≤ 1 → list_any (λ x. p (f x)) xs ≡ false
  none_behind xs ys alike once = any_alike f g xs ys alike p ∙ by (list_any (λ y. p (g y)) ys) refl
    where
      by : (b : Bool) → list_any (λ y. p (g y)) ys ≡ b → list_any (λ y. p (g y)) ys ≡ false
      by true e = absurd (some_kept ys e (omega (arith, once)))
      by false e = e

  -- it is another one
  pub changed_at : (change : X → X) (new : Y) (xs : List X) (ys : List Y) → map f xs ≡ map g ys → length (filter (λ y. p (g y)) ys) ≤ 1 → list_any (λ y. p (g y)) ys ≡ true
      → ((x : X) (y : Y) → find (λ y. p (g y)) ys ≡ Some y → f x ≡ g y → f (change x) ≡ g new)
      → map f (map (λ x. if p (f x) then change x else x) xs) ≡ map g (slice_set ys (position_or_len (λ y. p (g y)) ys) new)
  changed_at change new [] [] alike once there so = absurd (cc there)
  changed_at change new [] (y ∷ ys) alike once there so = absurd (cc alike)
  changed_at change new (x ∷ xs) [] alike once there so = absurd (cc alike)
  changed_at change new (x ∷ xs) (y ∷ ys) alike once there so = one (p (g y)) refl once there so (changed_at change new xs ys (heads alike).1)
    where
      two : (f x ≡ g y) × (map f xs ≡ map g ys)
      two = heads alike

      Rest : List X
      Rest = map (λ z. if p (f z) then change z else z) xs

      one : (b : Bool) → p (g y) ≡ b → length (cond b (y ∷ filter (λ z. p (g z)) ys) (filter (λ z. p (g z)) ys)) ≤ 1 → (b || list_any (λ z. p (g z)) ys) ≡ true
          → ((z : X) (w : Y) → cond b (Some y) (find (λ v. p (g v)) ys) ≡ Some w → f z ≡ g w → f (change z) ≡ g new)
          → (length (filter (λ z. p (g z)) ys) ≤ 1 → list_any (λ z. p (g z)) ys ≡ true → ((z : X) (w : Y) → find (λ v. p (g v)) ys ≡ Some w → f z ≡ g w → f (change z) ≡ g new)
          → map f Rest ≡ map g (slice_set ys (position_or_len (λ z. p (g z)) ys) new))
          → f (if p (f x) then change x else x) ∷ map f Rest ≡ map g (slice_set (y ∷ ys) (cond (not b) (1 + position_or_len (λ z. p (g z)) ys) 0) new)
      one true e o t s ih =
          ap (λ (b : Bool). f (if b then change x else x) ∷ map f Rest) (ap p two.0 ∙ e) ∙ ap (λ (z : Z). z ∷ map f Rest) (s x y refl two.0)
          ∙ ap (λ (l : List Z). g new ∷ l) (untouched change xs (none_behind xs ys two.1 o) ∙ two.1)
      one false e o t s ih =
          ap (λ (b : Bool). f (if b then change x else x) ∷ map f Rest) (ap p two.0 ∙ e) ∙ ap (λ (z : Z). z ∷ map f Rest) two.0
          ∙ ap (λ (l : List Z). g y ∷ l) (ih o t s)
          ∙ ap (λ (n : ℕ). map g (slice_set (y ∷ ys) n new)) (one_more (position_or_len (λ z. p (g z)) ys))

  -- or it goes
  pub removed_at : (xs : List X) (ys : List Y) → map f xs ≡ map g ys → length (filter (λ y. p (g y)) ys) ≤ 1 → list_any (λ y. p (g y)) ys ≡ true
      → map f (filter (λ x. not (p (f x))) xs) ≡ map g (remove ys (position_or_len (λ y. p (g y)) ys))
  removed_at [] [] alike once there = absurd (cc there)
  removed_at [] (y ∷ ys) alike once there = absurd (cc alike)
  removed_at (x ∷ xs) [] alike once there = absurd (cc alike)
  removed_at (x ∷ xs) (y ∷ ys) alike once there = one (p (g y)) refl once there (removed_at xs ys (heads alike).1)
    where
      two : (f x ≡ g y) × (map f xs ≡ map g ys)
      two = heads alike

      Rest : List X
      Rest = filter (λ z. not (p (f z))) xs

      one : (b : Bool) → p (g y) ≡ b → length (cond b (y ∷ filter (λ z. p (g z)) ys) (filter (λ z. p (g z)) ys)) ≤ 1 → (b || list_any (λ z. p (g z)) ys) ≡ true
          → (length (filter (λ z. p (g z)) ys) ≤ 1 → list_any (λ z. p (g z)) ys ≡ true → map f Rest ≡ map g (remove ys (position_or_len (λ z. p (g z)) ys)))
          → map f (cond (not (p (f x))) (x ∷ Rest) Rest) ≡ map g (remove (y ∷ ys) (cond (not b) (1 + position_or_len (λ z. p (g z)) ys) 0))
      one true e o t ih = ap (λ (b : Bool). map f (cond (not b) (x ∷ Rest) Rest)) (ap p two.0 ∙ e) ∙ ap (map f) (all_stay xs (none_behind xs ys two.1 o)) ∙ two.1
      one false e o t ih =
          ap (λ (b : Bool). map f (cond (not b) (x ∷ Rest) Rest)) (ap p two.0 ∙ e) ∙ ap (λ (z : Z). z ∷ map f Rest) two.0 ∙ ap (λ (l : List Z). g y ∷ l) (ih o t)
          ∙ ap (λ (n : ℕ). map g (remove (y ∷ ys) n)) (one_more (position_or_len (λ z. p (g z)) ys))

-- one of a list is another one
module _ {X : Type 0} where
  none_after : (p : X → Bool) (ys : List X) → length (filter p ys) ≤ 0 → list_any p ys ≡ false
  none_after p [] l = refl
  none_after p (y ∷ ys) l = two (p y) l (none_after p ys)
    where
      two : (b : Bool) → length (cond b (y ∷ filter p ys) (filter p ys)) ≤ 0 → (length (filter p ys) ≤ 0 → list_any p ys ≡ false) → (b || list_any p ys) ≡ false
      two true l2 ih = absurd (omega (arith, l2))
      two false l2 ih = ih l2

  pub set_all : (P Q : X → Type 0) (p : X → Bool) (new : X) → Q new → ((x : X) → p x ≡ false → P x → Q x) → (xs : List X) → AllByRecursion P xs → length (filter p xs) ≤ 1
      → AllByRecursion Q (slice_set xs (position_or_len p xs) new)
  set_all P Q p new here so [] all once = tt
  set_all P Q p new here so (x ∷ xs) all once = one (p x) refl once (set_all P Q p new here so xs all.1)
    where
      one : (b : Bool) → p x ≡ b → length (cond b (x ∷ filter p xs) (filter p xs)) ≤ 1 → (length (filter p xs) ≤ 1 → AllByRecursion Q (slice_set xs (position_or_len p xs) new))
          → AllByRecursion Q (slice_set (x ∷ xs) (cond (not b) (1 + position_or_len p xs) 0) new)
      one true e o ih = (here, all_but P Q p so xs (none_after p xs (omega (arith, o))) all.1)
      one false e o ih = subst (λ (n : ℕ). AllByRecursion Q (slice_set (x ∷ xs) n new)) (one_more (position_or_len p xs)) (so x e all.0, ih o)

  pub set_count : (q : X → Bool) (xs : List X) (k : ℕ) (old new : X) → slice_get xs k ≡ Some old → q new ≡ q old → length (filter q (slice_set xs k new)) ≡ length (filter q xs)
  set_count q [] k old new is same = refl
  set_count q (x ∷ xs) zero old new is same =
      let e : x ≡ old = cc is in ap (λ (b : Bool). length (cond b (new ∷ filter q xs) (filter q xs))) (same ∙ ap q (sym e)) ∙ one (q x)
    where
      one : (b : Bool) → length (cond b (new ∷ filter q xs) (filter q xs)) ≡ length (cond b (x ∷ filter q xs) (filter q xs))
      one true = refl
      one false = refl
  set_count q (x ∷ xs) (suc k) old new is same = one (q x) (set_count q xs k old new is same)
    where
      one : (b : Bool) → length (filter q (slice_set xs k new)) ≡ length (filter q xs) → length (cond b (x ∷ filter q (slice_set xs k new)) (filter q (slice_set xs k new))) ≡ length (cond b (x ∷ filter q xs) (filter q xs))
      one true e = ap suc e
      one false e = e

  pub set_any : (q : X → Bool) (xs : List X) (k : ℕ) (old new : X) → slice_get xs k ≡ Some old → q new ≡ q old → list_any q (slice_set xs k new) ≡ list_any q xs
  set_any q [] k old new is same = refl
  set_any q (x ∷ xs) zero old new is same = let e : x ≡ old = cc is in ap (λ (b : Bool). b || list_any q xs) (same ∙ ap q (sym e))
  set_any q (x ∷ xs) (suc k) old new is same = ap (λ (b : Bool). q x || b) (set_any q xs k old new is same)

-- one of a list goes
module _ {X : Type 0} where
  pub removed_all : (P Q : X → Type 0) (p : X → Bool) → ((x : X) → p x ≡ false → P x → Q x) → (xs : List X) → AllByRecursion P xs → length (filter p xs) ≤ 1
      → AllByRecursion Q (remove xs (position_or_len p xs))
  removed_all P Q p so [] all once = tt
  removed_all P Q p so (x ∷ xs) all once = one (p x) refl once (removed_all P Q p so xs all.1)
    where
      one : (b : Bool) → p x ≡ b → length (cond b (x ∷ filter p xs) (filter p xs)) ≤ 1 → (length (filter p xs) ≤ 1 → AllByRecursion Q (remove xs (position_or_len p xs)))
          → AllByRecursion Q (remove (x ∷ xs) (cond (not b) (1 + position_or_len p xs) 0))
      one true e o ih = all_but P Q p so xs (none_after p xs (omega (arith, o))) all.1
      one false e o ih = subst (λ (n : ℕ). AllByRecursion Q (remove (x ∷ xs) n)) (one_more (position_or_len p xs)) (so x e all.0, ih o)

  pub removed_count : (q : X → Bool) (xs : List X) (k : ℕ) → length (filter q (remove xs k)) ≤ length (filter q xs)
  removed_count q [] zero = omega arith
  removed_count q [] (suc k) = omega arith
  removed_count q (x ∷ xs) zero = one (q x)
    where
      one : (b : Bool) → length (filter q xs) ≤ length (cond b (x ∷ filter q xs) (filter q xs))
      one true = omega arith
      one false = omega arith
  removed_count q (x ∷ xs) (suc k) = one (q x) (removed_count q xs k)
    where
      one : (b : Bool) → length (filter q (remove xs k)) ≤ length (filter q xs) → length (cond b (x ∷ filter q (remove xs k)) (filter q (remove xs k))) ≤ length (cond b (x ∷ filter q xs) (filter q xs))
      one true l = omega (arith, l)
      one false l = l

  pub removed_any : (q : X → Bool) (xs : List X) (k : ℕ) (old : X) → slice_get xs k ≡ Some old → q old ≡ false → list_any q (remove xs k) ≡ list_any q xs
  removed_any q [] zero old is fails = refl
  removed_any q [] (suc k) old is fails = refl
  removed_any q (x ∷ xs) zero old is fails = let e : x ≡ old = cc is in ap (λ (b : Bool). b || list_any q xs) (sym (ap q e ∙ fails))
  removed_any q (x ∷ xs) (suc k) old is fails = ap (λ (b : Bool). q x || b) (removed_any q xs k old is fails)

-- where one passes a test whose passers pass another one, one passes that
any_too : {X : Type 0} (p q : X → Bool) (xs : List X) → AllByRecursion (λ x. q x ≡ true → p x ≡ true) xs → list_any q xs ≡ true → list_any p xs ≡ true
any_too p q [] so any = absurd (cc any)
any_too p q (x ∷ xs) so any = one (q x) (p x) so.0 any (any_too p q xs so.1)
  where
    one : (a b : Bool) → (a ≡ true → b ≡ true) → (a || list_any q xs) ≡ true → (list_any q xs ≡ true → list_any p xs ≡ true) → (b || list_any p xs) ≡ true
    one true true h any ih = refl
    one false true h any ih = refl
    one true false h any ih = absurd (let f = h refl in cc f)
    one false false h any ih = ih any

-- and if one alone passes that, the one that is found by it passes the first
pub found_once : {X : Type 0} (p q : X → Bool) (xs : List X) → AllByRecursion (λ x. q x ≡ true → p x ≡ true) xs → length (filter p xs) ≤ 1 → list_any q xs ≡ true
    → (y : X) → find p xs ≡ Some y → q y ≡ true
found_once p q [] so few any y is = absurd (cc any)
found_once {X} p q (x ∷ xs) so few any y is = one (p x) (q x) refl so.0 few any is (λ l a f. found_once p q xs so.1 l a y f)
  where
    the : (a b : X) → Some a ≡ Some b → a ≡ b
    the a b s = cc s

    one : (a b : Bool) → q x ≡ b → (b ≡ true → a ≡ true) → length (cond a (x ∷ filter p xs) (filter p xs)) ≤ 1 → (b || list_any q xs) ≡ true → cond a (Some x) (find p xs) ≡ Some y
        → (length (filter p xs) ≤ 1 → list_any q xs ≡ true → find p xs ≡ Some y → q y ≡ true) → q y ≡ true
    one true true e h l any f ih = ap q (sym (the x y f)) ∙ e
    one true false e h l any f ih = absurd (some_kept (λ z. z) (λ z. z) p xs (any_too p q xs so.1 any) (omega (arith, l)))
    one false true e h l any f ih = absurd (let k = h refl in cc k)
    one false false e h l any f ih = ih l any f

-- of one that is written at a place: it is read there, and where it is seen as the one before it, so is the list, and tests find what they found
module _ {X : Type 0} where
  pub set_get : (xs : List X) (k : ℕ) (old new : X) → slice_get xs k ≡ Some old → slice_get (slice_set xs k new) k ≡ Some new
  set_get [] k old new is = absurd (cc is)
  set_get (x ∷ xs) zero old new is = refl
  set_get (x ∷ xs) (suc k) old new is = set_get xs k old new is

  pub set_seen : {Z : Type 0} (g : X → Z) (xs : List X) (k : ℕ) (old new : X) → slice_get xs k ≡ Some old → g new ≡ g old → map g (slice_set xs k new) ≡ map g xs
  set_seen g [] k old new is same = refl
  set_seen {Z} g (x ∷ xs) zero old new is same = let e : x ≡ old = cc is in ap (λ (z : Z). z ∷ map g xs) (same ∙ ap g (sym e))
  set_seen {Z} g (x ∷ xs) (suc k) old new is same = ap (λ (l : List Z). g x ∷ l) (set_seen g xs k old new is same)

  pub set_itself : (xs : List X) (k : ℕ) (x : X) → slice_get xs k ≡ Some x → slice_set xs k x ≡ xs
  set_itself [] k x is = refl
  set_itself (y ∷ xs) zero x is = let e : y ≡ x = cc is in ap (λ (z : X). z ∷ xs) (sym e)
  set_itself (y ∷ xs) (suc k) x is = ap (λ (l : List X). y ∷ l) (set_itself xs k x is)

  set_long : (xs : List X) (k : ℕ) (new : X) → length (slice_set xs k new) ≡ length xs
  set_long [] k new = refl
  set_long (x ∷ xs) zero new = refl
  set_long (x ∷ xs) (suc k) new = ap suc (set_long xs k new)

  set_first : (p : X → Bool) (xs : List X) (k : ℕ) (old new : X) → slice_get xs k ≡ Some old → p new ≡ p old → position_or_len p (slice_set xs k new) ≡ position_or_len p xs
  set_first p [] k old new is same = refl
  set_first p (x ∷ xs) zero old new is same = let e : x ≡ old = cc is in ap (λ (b : Bool). cond (not b) (1 + position_or_len p xs) 0) (same ∙ ap p (sym e))
  set_first p (x ∷ xs) (suc k) old new is same = ap (λ (n : ℕ). cond (not (p x)) (1 + n) 0) (set_first p xs k old new is same)

  pub set_position : (p : X → Bool) (xs : List X) (k : ℕ) (old new : X) → slice_get xs k ≡ Some old → p new ≡ p old → position p (slice_set xs k new) ≡ position p xs
  set_position p xs k old new is same =
      ap (λ (n : ℕ). cond (nat_lt n (length (slice_set xs k new))) (Some n) None) (set_first p xs k old new is same)
      ∙ ap (λ (n : ℕ). cond (nat_lt (position_or_len p xs) n) (Some (position_or_len p xs)) None) (set_long xs k new)

-- the first one, where it passes, is found at once
pub first_position : {X : Type 0} (p : X → Bool) (x : X) (xs : List X) → p x ≡ true → Some 0 ≡ position p (x ∷ xs)
first_position p x xs is =
    ap (λ (q : Bool). cond q (Some 0) None) (sym (lt-ltb 0 (length (x ∷ xs)) (omega arith)))
    ∙ ap (λ (b : Bool). cond (nat_lt (cond (not b) (1 + position_or_len p xs) 0) (length (x ∷ xs))) (Some (cond (not b) (1 + position_or_len p xs) 0)) None) (sym is)

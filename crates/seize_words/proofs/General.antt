-- What is so of Booleans, numbers, options and lists, whatever they stand for.
use Rattle.std.specs.Prelude.{Bool, IsSome, None, Option, Some, false, is_some, map, nat_le, nat_lt, option_map, slice_get, slice_set, true, ℕ, ◌+◌, ◌==◌, ◌||◌, ◌≡◌, ◌≤◌, ◌⊎◌}
use Rattle.std.proofs.Common.{List, [], ap, arith, inl, inr, length, refl, subst, suc, sym, zero, ◌&&◌, ◌++◌, ◌<◌, ◌∷◌}
use Rattle.std.specs.List.{AllByRecursion}

pub same_some : {X : Type 0} (x y : X) → Some x ≡ Some y → x ≡ y
same_some x y e = cc e

pub some_is : {T : Type 0} (o : Option T) (t : T) → o ≡ Some t → IsSome o
some_is o t is = subst IsSome (sym is) refl

pub some_there : {X : Type 0} (o : Option X) → IsSome o → (x : X) × (o ≡ Some x)
some_there None h = absurd (cc h)
some_there (Some x) h = (x, refl)

pub none_is : {X : Type 0} (o : Option X) → ((x : X) → o ≡ Some x → ⊥) → o ≡ None
none_is None never = refl
none_is (Some x) never = absurd (never x refl)

pub none_of : {X : Type 0} (o : Option X) → is_some o ≡ false → o ≡ None
none_of None is = refl
none_of (Some x) is = absurd (cc is)

pub none_mapped : {X Y : Type 0} (f : X → Y) (o : Option X) → option_map f o ≡ None → o ≡ None
none_mapped f None e = refl
none_mapped f (Some x) e = absurd (cc e)

pub true_or_false : (b : Bool) → (b ≡ true) ⊎ (b ≡ false)
true_or_false true = inl refl
true_or_false false = inr refl

pub true_not_false : true ≡ false → ⊥
true_not_false h = cc

pub false_not_true : false ≡ true → ⊥
false_not_true h = cc

pub both_true : (x y : Bool) → (x && y) ≡ true → (x ≡ true) × (y ≡ true)
both_true true y h = (refl, h)
both_true false y h = absurd (cc)

pub both_false : (a b : Bool) → (a || b) ≡ false → (a ≡ false) × (b ≡ false)
both_false true b e = absurd (cc e)
both_false false b e = (refl, e)

pub and_true : (a b : Bool) → a ≡ true → b ≡ true → (a && b) ≡ true
and_true a b p q = rw (p, q) refl

pub and_false : (a b : Bool) → b ≡ false → (a && b) ≡ false
and_false true b e = e
and_false false b e = refl

pub or_first : (a b : Bool) → a ≡ true → (a || b) ≡ true
or_first a b e = ap (λ z. z || b) e

pub or_second : (b c : Bool) → c ≡ true → (b || c) ≡ true
or_second true c is = refl
or_second false c is = is

pub or_either : (a b : Bool) → (a ≡ true) ⊎ (b ≡ true) → (a || b) ≡ true
or_either a b (inl is) = ap (λ (x : Bool). x || b) is
or_either true b (inr is) = refl
or_either false b (inr is) = is

pub either : {A B : Type 0} → (A → ⊥) → (B → ⊥) → A ⊎ B → ⊥
either f g (inl a) = f a
either f g (inr b) = g b

pub at_most_itself : (n : ℕ) → n ≤ n
at_most_itself n = omega arith

pub less_true : (a b : ℕ) → a < b → nat_lt a b ≡ true
less_true a b l = grind (arith, l)

pub less_false : (a b : ℕ) → b ≤ a → nat_lt a b ≡ false
less_false a b l = grind (arith, l)

pub less_so : (a b : ℕ) → nat_lt a b ≡ true → a < b
less_so a b l = grind (arith, l)

pub less_not : (a b : ℕ) → nat_lt a b ≡ false → b ≤ a
less_not a b l = grind (arith, l)

pub at_most_true : (a b : ℕ) → a ≤ b → nat_le a b ≡ true
at_most_true a b l = grind (arith, l)

pub equal_so : (a b : ℕ) → (a == b) ≡ true → a ≡ b
equal_so a b e = grind (arith, e)

pub equal_itself : (i : ℕ) → (i == i) ≡ true
equal_itself i = grind arith

pub none_less : (k : ℕ) → (0 < k → ⊥) → k ≡ 0
none_less zero none = refl
none_less (suc k) none = absurd (none (omega arith))

pub and_nothing : (s : ℕ) → s + 0 ≡ s
and_nothing s = omega arith

pub nothing_and : (n : ℕ) → 0 + n ≡ n
nothing_and n = omega arith

pub no_length : (l : List ℕ) → length l ≡ 0 → l ≡ []
no_length [] e = refl
no_length (b ∷ l) e = absurd (omega (arith, e))

pub cons_same : (a b : ℕ) (xs ys : List ℕ) → a ≡ b → xs ≡ ys → a ∷ xs ≡ b ∷ ys
cons_same a b xs ys e f = cc (e, f)

pub length_and_one : (l : List ℕ) (b : ℕ) → length (l ++ b ∷ []) ≡ length l + 1
length_and_one [] b = refl
length_and_one (c ∷ l) b = let k = length_and_one l b in omega (arith, k)

pub map_append : {X Y : Type 0} (g : X → Y) (a b : List X) → map g (a ++ b) ≡ map g a ++ map g b
map_append g [] b = refl
map_append {Y = Y} g (x ∷ a) b = ap (λ (l : List Y). g x ∷ l) (map_append g a b)

pub set_same : {X : Type 0} (xs : List X) (i : ℕ) (x : X) → slice_get xs i ≡ Some x → slice_set xs i x ≡ xs
set_same [] i x is = absurd (cc)
set_same (y ∷ ys) zero x is = cc
set_same (y ∷ ys) (suc i) x is = ap (λ zs. y ∷ zs) (set_same ys i x is)

pub all_so : {X : Type 0} (P Q : X → Type 0) → ((x : X) → P x → Q x) → (xs : List X) → AllByRecursion P xs → AllByRecursion Q xs
all_so P Q so [] all = tt
all_so P Q so (x ∷ xs) all = (so x all.0, all_so P Q so xs all.1)

pub all_and_one : {X : Type 0} (P : X → Type 0) (xs : List X) (x : X) → AllByRecursion P xs → P x → AllByRecursion P (xs ++ x ∷ [])
all_and_one P [] x all one = (one, tt)
all_and_one P (y ∷ xs) x all one = (all.0, all_and_one P xs x all.1 one)

pub all_append : {X : Type 0} (P : X → Type 0) (xs ys : List X) → AllByRecursion P xs → AllByRecursion P ys → AllByRecursion P (xs ++ ys)
all_append P [] ys a b = b
all_append P (x ∷ xs) ys a b = (a.0, all_append P xs ys a.1 b)

-- Arrays after a write at one index: what the places of tables say after one of them was written.
use Rattle.std.proofs.Common.{◌≡◌, ◌≢◌, ℕ, ◌<◌, Bool, true, false, cond, eqb, Option, Some, ◌⊎◌, inl, inr, refl, sym, subst, ◌∙◌, arith, eqb-true}
use Rattle.std.proofs.lemmas.Bool.{eqb-false}
use Rattle.map_rule.specs.Chart.{Phase, Place, Empty, Holds, put, put_in, is_marked, is_settled, is_taken}

-- what holds of two values holds of the one that a test chooses
pub chosen : {X : Type 0} (P : X → Type 0) (b : Bool) (x y : X) → P x → P y → P (cond b x y)
chosen P true x y p q = p
chosen P false x y p q = q

pub put_here : {X : Type 0} (f : ℕ → X) (k : ℕ) (v : X) → put f k v k ≡ v
put_here f k v = grind arith

pub put_elsewhere : {X : Type 0} (f : ℕ → X) (k : ℕ) (v : X) (j : ℕ) → j ≢ k → put f k v j ≡ f j
put_elsewhere f k v j h = grind arith

pub put_cases : {X : Type 0} (f : ℕ → X) (k : ℕ) (v : X) (j : ℕ) → ((j ≡ k) × (put f k v j ≡ v)) ⊎ ((j ≢ k) × (put f k v j ≡ f j))
put_cases f k v j = at (eqb j k) (eqb-true j k) (eqb-false j k)
  where
    at : (p : Bool) → (p ≡ true → j ≡ k) → (p ≡ false → j ≢ k) → ((j ≡ k) × (cond p v (f j) ≡ v)) ⊎ ((j ≢ k) × (cond p v (f j) ≡ f j))
    at true e g = inl (e refl, refl)
    at false e g = inr (g refl, refl)

-- a place after a write is the one that was written, or is as it was
pub put_in_cases : {X : Type 0} (f : ℕ → ℕ → X) (t i : ℕ) (v : X) (u j : ℕ)
    → ((u ≡ t) × (j ≡ i) × (put_in f t i v u j ≡ v)) ⊎ (put_in f t i v u j ≡ f u j)
put_in_cases f t i v u j = at (eqb u t) (eqb j i) (eqb-true u t) (eqb-true j i)
  where
    at : (p q : Bool) → (p ≡ true → u ≡ t) → (q ≡ true → j ≡ i)
        → ((u ≡ t) × (j ≡ i) × (cond p (cond q v (f u j)) (f u j) ≡ v)) ⊎ (cond p (cond q v (f u j)) (f u j) ≡ f u j)
    at true true e g = inl (e refl, g refl, refl)
    at true false e g = inr refl
    at false q e g = inr refl

pub put_in_here : {X : Type 0} (f : ℕ → ℕ → X) (t i : ℕ) (v : X) → put_in f t i v t i ≡ v
put_in_here f t i v = grind arith

pub put_in_elsewhere : {X : Type 0} (f : ℕ → ℕ → X) (t i : ℕ) (v : X) (u j : ℕ) → u ≢ t → put_in f t i v u j ≡ f u j
put_in_elsewhere f t i v u j h = grind arith

-- a place that was not empty is as it was
pub marked_stays : (f : ℕ → ℕ → Place) (t i : ℕ) (v : Place) (u j : ℕ) → f t i ≡ Empty false → is_marked (f u j) ≡ true → put_in f t i v u j ≡ f u j
marked_stays f t i v u j empty h = grind arith

pub settled_stays : (f : ℕ → ℕ → Place) (t i : ℕ) (v : Place) (u j : ℕ) → f t i ≡ Empty false → is_settled (f u j) ≡ true → put_in f t i v u j ≡ f u j
settled_stays f t i v u j empty h = grind arith

pub taken_stays : (incremental : Bool) (f : ℕ → ℕ → Place) (t i : ℕ) (v : Place) (u j : ℕ) → f t i ≡ Empty false → is_taken incremental (f u j) ≡ true → put_in f t i v u j ≡ f u j
taken_stays incremental f t i v u j empty h = grind arith

-- a pair stands where it was put, or where it stood
pub holds_cases : (f : ℕ → ℕ → Place) (t i m : ℕ) (phase2 : Phase) (borrowed2 : Bool) (u j n : ℕ) (phase : Phase) (borrowed : Bool) → put_in f t i (Holds m phase2 borrowed2) u j ≡ Holds n phase borrowed
    → ((u ≡ t) × (j ≡ i) × (n ≡ m) × (phase ≡ phase2) × (borrowed ≡ borrowed2)) ⊎ (f u j ≡ Holds n phase borrowed)
holds_cases f t i m phase2 borrowed2 u j n phase borrowed e = by_cases (put_in_cases f t i (Holds m phase2 borrowed2) u j)
  where
    by_cases : ((u ≡ t) × (j ≡ i) × (put_in f t i (Holds m phase2 borrowed2) u j ≡ Holds m phase2 borrowed2)) ⊎ (put_in f t i (Holds m phase2 borrowed2) u j ≡ f u j)
        → ((u ≡ t) × (j ≡ i) × (n ≡ m) × (phase ≡ phase2) × (borrowed ≡ borrowed2)) ⊎ (f u j ≡ Holds n phase borrowed)
    by_cases (inl a) = let h = sym e ∙ a.2 in inl (a.0, a.1, cc, cc, cc)
    by_cases (inr a) = inr (sym a ∙ e)

-- what stands somewhere after one place of one table has changed: the new value there, or what stood
pub stands_new : {X : Type 0} (f : ℕ → ℕ → X) (t k : ℕ) (v w : X) (u j : ℕ) → put_in f t k v u j ≡ w
    → ((u ≡ t) × (j ≡ k) × (v ≡ w)) ⊎ (((u ≡ t) → (j ≡ k) → ⊥) × (f u j ≡ w))
stands_new {X} f t k v w u j = at (eqb u t) (eqb-true u t) (eqb-false u t) (eqb j k) (eqb-true j k) (eqb-false j k)
  where
    at : (a : Bool) → (a ≡ true → u ≡ t) → (a ≡ false → u ≡ t → ⊥) → (b : Bool) → (b ≡ true → j ≡ k) → (b ≡ false → j ≡ k → ⊥)
        → cond a (cond b v (f u j)) (f u j) ≡ w → ((u ≡ t) × (j ≡ k) × (v ≡ w)) ⊎ (((u ≡ t) → (j ≡ k) → ⊥) × (f u j ≡ w))
    at true e ne true l nl h = inl (e refl, l refl, h)
    at true e ne false l nl h = inr ((λ p q. nl refl q), h)
    at false e ne b l nl h = inr ((λ p q. ne refl p), h)

-- what stood somewhere stands there still, if it is not what has changed
pub stood_elsewhere : {X : Type 0} (f : ℕ → ℕ → X) (t k : ℕ) (v w : X) (u j : ℕ) → f u j ≡ w → f t k ≢ w → put_in f t k v u j ≡ w
stood_elsewhere f t k v w u j e ne = grind (arith, e, ne)

-- what is taken stays taken, where what is put is
pub stays_taken : (incremental : Bool) (f : ℕ → ℕ → Place) (t k : ℕ) (v : Place) (u j : ℕ) → is_taken incremental v ≡ true
    → is_taken incremental (f u j) ≡ true → is_taken incremental (put_in f t k v u j) ≡ true
stays_taken incremental f t k v u j new old = at (eqb u t) (eqb j k)
  where
    at : (a b : Bool) → is_taken incremental (cond a (cond b v (f u j)) (f u j)) ≡ true
    at true true = new
    at true false = old
    at false b = old

-- what holds of each place, after a change of one
pub put_in_one : {X : Type 0} (P : ℕ → ℕ → X → Type 0) (f : ℕ → ℕ → X) (t i : ℕ) (v : X) → P t i v → ((u j : ℕ) → P u j (f u j)) → (u j : ℕ) → P u j (put_in f t i v u j)
put_in_one P f t i v new old u j = at (eqb u t) (eqb-true u t)
  where
    there : (y : Bool) → (y ≡ true → j ≡ i) → P t j (cond y v (f t j))
    there true e = subst (λ (x : ℕ). P t x v) (sym (e refl)) new
    there false e = old t j

    at : (y : Bool) → (y ≡ true → u ≡ t) → P u j (cond y (cond (eqb j i) v (f u j)) (f u j))
    at true e = subst (λ (x : ℕ). P x j (cond (eqb j i) v (f x j))) (sym (e refl)) (there (eqb j i) (eqb-true j i))
    at false e = old u j

-- what is said of a place of another table or another place
pub filled_elsewhere : (place : ℕ → ℕ → Place) (t i : ℕ) (v : Place) (u j : ℕ) (w : Place)
    → put_in place t i v u j ≡ w → (u ≡ t → j ≡ i → ⊥) → place u j ≡ w
filled_elsewhere place t i v u j w e other = grind arith

-- a pair stands where it stood
pub stays_held : (place : ℕ → ℕ → Place) (t i : ℕ) (v : Place) → place t i ≡ Empty false
    → (u j m : ℕ) (phase : Phase) (borrowed : Bool) → place u j ≡ Holds m phase borrowed → put_in place t i v u j ≡ Holds m phase borrowed
stays_held place t i v e u j m phase borrowed f = grind arith

-- a pair has a key, and was stored
pub filled_keyed : {K : Type 0} (place : ℕ → ℕ → Place) (key : ℕ → Option K) (stored t i n : ℕ) (phase : Phase) (borrowed : Bool) (v : Place) → v ≡ Holds n phase borrowed
    → n < stored → (k : K) → key n ≡ Some k
    → ((u j m : ℕ) (phase : Phase) (borrowed : Bool) → place u j ≡ Holds m phase borrowed → (m < stored) × (k : K) × (key m ≡ Some k))
    → (u j m : ℕ) (phase2 : Phase) (borrowed2 : Bool) → put_in place t i v u j ≡ Holds m phase2 borrowed2 → (m < stored) × (k : K) × (key m ≡ Some k)
filled_keyed {K} place key stored t i n phase borrowed v h l k e old = put_in_one
    (λ u j w. (m : ℕ) (phase2 : Phase) (borrowed2 : Bool) → w ≡ Holds m phase2 borrowed2 → (m < stored) × (k : K) × (key m ≡ Some k))
    place t i v (λ m phase2 borrowed2 f. (grind arith, k, grind arith)) old

-- a class that the table had not, now stands there once
pub filled_once : (place : ℕ → ℕ → Place) (is_of_class : ℕ → Bool) (t i n : ℕ) (phase : Phase) (borrowed : Bool) (v : Place) (u : ℕ) → v ≡ Holds n phase borrowed
    → (u ≡ t → is_of_class n ≡ true → (j m : ℕ) (phase2 : Phase) (borrowed2 : Bool) → place t j ≡ Holds m phase2 borrowed2 → is_of_class m ≡ true → ⊥)
    → (j j2 m o : ℕ) (phase2 phase3 : Phase) (borrowed2 borrowed3 : Bool)
    → (place u j ≡ Holds m phase2 borrowed2 → place u j2 ≡ Holds o phase3 borrowed3 → is_of_class m ≡ true → is_of_class o ≡ true → j ≡ j2)
    → put_in place t i v u j ≡ Holds m phase2 borrowed2 → put_in place t i v u j2 ≡ Holds o phase3 borrowed3 → is_of_class m ≡ true → is_of_class o ≡ true → j ≡ j2
filled_once place is_of_class t i n phase borrowed v u h new j j2 m o phase2 phase3 borrowed2 borrowed3 old e e2 f f2 = grind (arith, new, old)

-- The lists of the pairs of maps: a further one comes, and one gets a pair.
use Rattle.std.specs.Prelude.{◌==◌, is_some, slice_index_or, slice_set, MatchOption, Option, Some, None, if◌then◌else◌}
use Rattle.std.specs.Global.{Vec}
use Rattle.std.proofs.Common.{◌≡◌, ◌<◌, ◌≤◌, ℕ, zero, suc, Bool, true, false, List, [], ◌∷◌, ◌++◌, length, refl, sym, ap, ◌∙◌, arith, eqb-true}
use Rattle.std.proofs.lemmas.Bool.{eq-eqb}
use Rattle.run_effects.specs.Tallies.ByMap.{list_at}

pub list_more : (lists : List (Vec ℕ)) (v : Vec ℕ) → v.items ≡ [] → (n : ℕ) → list_at (lists ++ v ∷ []) n ≡ list_at lists n
list_more [] v none zero = none
list_more [] v none (suc n) = refl
list_more (x ∷ lists) v none zero = refl
list_more (x ∷ lists) v none (suc n) = list_more lists v none n

set_same : (lists : List (Vec ℕ)) (k : ℕ) (v : Vec ℕ) → k < length lists → list_at (slice_set lists k v) k ≡ v.items
set_same [] k v less = absurd (omega (arith, less))
set_same (x ∷ lists) zero v less = refl
set_same (x ∷ lists) (suc k) v less = set_same lists k v (omega (arith, less))

set_other : (lists : List (Vec ℕ)) (k : ℕ) (v : Vec ℕ) (n : ℕ) → (n ≡ k → ⊥) → list_at (slice_set lists k v) n ≡ list_at lists n
set_other [] k v n other = refl
set_other (x ∷ lists) zero v zero other = absurd (other refl)
set_other (x ∷ lists) zero v (suc n) other = refl
set_other (x ∷ lists) (suc k) v zero other = refl
set_other (x ∷ lists) (suc k) v (suc n) other = set_other lists k v n (λ e. other (omega (arith, e)))

-- who is read there, and where none is
pub list_read : (lists : List (Vec ℕ)) (k : ℕ) (v : Vec ℕ) → v ≡ slice_index_or lists k v → k < length lists → list_at lists k ≡ v.items
list_read [] k v is less = absurd (omega (arith, less))
list_read (x ∷ lists) zero v is less = ap (λ (w : Vec ℕ). w.items) (sym is)
list_read (x ∷ lists) (suc k) v is less = list_read lists k v is (omega (arith, less))

pub none_past : {T : Type 0} (A : Type 0) (P : T → Type 0) (r : Option T) → is_some r ≡ false → MatchOption r A P → A
none_past A P None none told = told
none_past A P (Some v) none told = absurd (cc none)

pub list_past : (lists : List (Vec ℕ)) (k : ℕ) → length lists ≤ k → list_at lists k ≡ []
list_past [] k past = refl
list_past (x ∷ lists) zero past = absurd (omega (arith, past))
list_past (x ∷ lists) (suc k) past = list_past lists k (omega (arith, past))

-- the list of a map gets a pair
pub list_pushed : (lists : List (Vec ℕ)) (k pair : ℕ) (old new : Vec ℕ) → old ≡ slice_index_or lists k old → k < length lists → new.items ≡ old.items ++ pair ∷ [] → (n : ℕ)
    → list_at (slice_set lists k new) n ≡ (if n == k then list_at lists n ++ pair ∷ [] else list_at lists n)
list_pushed lists k pair old new is less more n = by (n == k) refl
  where
    by : (b : Bool) → (n == k) ≡ b → list_at (slice_set lists k new) n ≡ (if b then list_at lists n ++ pair ∷ [] else list_at lists n)
    by true e =
        let one : n ≡ k = eqb-true n k e in
        ap (list_at (slice_set lists k new)) one ∙ set_same lists k new less ∙ more ∙ ap (λ (l : List ℕ). l ++ pair ∷ []) (sym (list_read lists k old is less)) ∙ ap (λ (m : ℕ). list_at lists m ++ pair ∷ []) (sym one)
    by false e = set_other lists k new n (λ one. let same : (n == k) ≡ true = eq-eqb n k one in cc (same, e))

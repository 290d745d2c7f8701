-- What the finite map has of a key's class is the number of a pair that is in the map with such a key; and if it has none, there is none.
use Rattle.std.specs.Prelude.{◌≡◌, List, length, ◌≢◌, ℕ, zero, suc, ◌<◌, ◌≤◌, Bool, true, false, ◌&&◌, Option, Some, None, if◌then◌else◌, ◌⊎◌}
use Rattle.std.proofs.Common.{refl, ap, subst, ◌∙◌, arith, inl, inr}
use Rattle.std.proofs.lemmas.Bool.{cases_eq}
use Rattle.run_shows.specs.Given.RunsLog.{pair_at, is_key}
use Rattle.run_shows.specs.Given.SchedulesMoment.{Place, Moment}
use Rattle.run_shows.specs.Given.SchedulesViews.{is_in_map, found_below, finite_map}

module _ {K V : Type 0} (eq : K → K → Bool) (map : ℕ) (k : K) (m : Moment K V) where
  -- the pair of a number is in the map, and has such a key
  abbrev pub is_its : ℕ → Bool
  is_its q = is_in_map map (m.place q) && is_key eq (pair_at m.stored q) k

  abbrev pub FoundIn : ℕ → Option ℕ → Type 0
  FoundIn n None = (q : ℕ) → 0 < q → q ≤ n → is_its q ≡ true → ⊥
  FoundIn n (Some q) = (0 < q) × (q ≤ n) × (is_its q ≡ true)

  -- one more number
  further : (n : ℕ) → is_its (suc n) ≡ false → (o : Option ℕ) → FoundIn n o → FoundIn (suc n) o
  further n e None rest = λ q above l is. by q above l is (cases_eq q (suc n))
    where
      by : (q : ℕ) → 0 < q → q ≤ suc n → is_its q ≡ true → (q ≡ suc n) ⊎ (q ≢ suc n) → ⊥
      by q above l is (inl same) = (let it : is_its (suc n) ≡ true = subst (λ (x : ℕ). is_its x ≡ true) same is in cc (it, e))
      by q above l is (inr ne) = rest q above (omega (arith, l, ne)) is
  further n e (Some q) rest = (rest.0, (let l = rest.1 in omega (arith, l)), rest.2)

  pub found : (n : ℕ) → FoundIn n (found_below eq map k m n)
  found zero = λ q above l is. omega (arith, above, l)
  found (suc n) = by (is_its (suc n)) refl (found n)
    where
      by : (b : Bool) → is_its (suc n) ≡ b → FoundIn n (found_below eq map k m n) → FoundIn (suc n) (if b then Some (suc n) else found_below eq map k m n)
      by true e rest = (omega arith, omega arith, e)
      by false e rest = further n e (found_below eq map k m n) rest

-- it has the same where pairs are where they were, and no other one was stored
module _ {K V : Type 0} (eq : K → K → Bool) (map : ℕ) (k : K) (m m2 : Moment K V) (place : m2.place ≡ m.place) (stored : m2.stored ≡ m.stored) where
  its_alike : (q : ℕ) → is_its eq map k m2 q ≡ is_its eq map k m q
  its_alike q =
      ap (λ (f : ℕ → Place). is_in_map map (f q) && is_key eq (pair_at m2.stored q) k) place
      ∙ ap (λ (xs : List (K × V)). is_in_map map (m.place q) && is_key eq (pair_at xs q) k) stored

  found_alike : (n : ℕ) → found_below eq map k m2 n ≡ found_below eq map k m n
  found_alike zero = refl
  found_alike (suc n) =
      ap (λ (b : Bool). if b then Some (suc n) else found_below eq map k m2 n) (its_alike (suc n))
      ∙ ap (λ (o : Option ℕ). if is_its eq map k m (suc n) then Some (suc n) else o) (found_alike n)

  pub map_alike : finite_map eq map m2 k ≡ finite_map eq map m k
  map_alike = found_alike (length m2.stored) ∙ ap (λ (xs : List (K × V)). found_below eq map k m (length xs)) stored

-- As the places of the first tries are distinct, they are all places.
use Rattle.std.proofs.Common.{◌≡◌, ℕ, zero, suc, ◌+◌, ◌^◌, ◌<◌, ◌≤◌, Bool, true, false, List, [], ◌∷◌, length, inl, inr, refl, arith, sym, ap}
use Rattle.std.specs.List.{list_any, AllByRecursion, IsDistinct}
use Rattle.std.proofs.Math.Dec.{eqb}
use Rattle.std.proofs.Math.Nat.{mod-lt}
use Rattle.std.proofs.lemmas.Bool.{ne_eqb}
use Rattle.std.proofs.lemmas.Bool.Decides.{eqb_tells}
use Rattle.std.proofs.lemmas.Map.Steps.{length-le_from_distinct_below}
use Rattle.std.proofs.lemmas.Nat.{pow_pos}
use Rattle.map_tables.specs.Probes.{triangular, place_at, HasAllPlaces}
use Rattle.map_tables.proofs.Places.{has_distinct_places}

-- the places of so many tries
abbrev places_of : ℕ → ℕ → ℕ → List ℕ
places_of hash bits zero = []
places_of hash bits (suc tries) = place_at hash bits tries ∷ places_of hash bits tries

length-places_of : (hash bits tries : ℕ) → length (places_of hash bits tries) ≡ tries
length-places_of hash bits zero = refl
length-places_of hash bits (suc tries) = ap suc (length-places_of hash bits tries)

tried : (hash bits tries place : ℕ) → list_any (eqb place) (places_of hash bits tries) ≡ true → (try : ℕ) × (try < tries) × (place_at hash bits try ≡ place)
tried hash bits zero place found = absurd (cc)
tried hash bits (suc tries) place found =
    elim (eqb_tells place (place_at hash bits tries)) as (λ _. (try : ℕ) × (try < suc tries) × (place_at hash bits try ≡ place)) [
      | inl same ↦ (tries, omega arith, sym same.1)
      | inr other ↦ (let before = tried hash bits tries place (rw other.0 at found) in
          (before.0, (let below = before.1 in omega (arith, below)), before.2))
    ]

-- a later try is at none of these places
elsewhere : (hash bits try tries : ℕ) → try < 2 ^ bits → tries ≤ try → AllByRecursion (λ place. eqb (place_at hash bits try) place ≡ false) (places_of hash bits tries)
elsewhere hash bits try zero few before = tt
elsewhere hash bits try (suc tries) few before = (
  ne_eqb (place_at hash bits try) (place_at hash bits tries) (λ same. (let one = has_distinct_places hash bits try tries few (omega arith) same in omega (arith, one))),
  elsewhere hash bits try tries few (omega arith),
)

distinct : (hash bits tries : ℕ) → tries ≤ 2 ^ bits → IsDistinct eqb (places_of hash bits tries)
unfolding IsDistinct
distinct hash bits zero few = tt
distinct hash bits (suc tries) few = (elsewhere hash bits tries tries (omega arith) (omega arith), distinct hash bits tries (omega arith))

none_of : (place : ℕ) (places : List ℕ) → list_any (eqb place) places ≡ false → AllByRecursion (λ other. eqb place other ≡ false) places
none_of place [] none = tt
none_of place (first ∷ places) none =
    elim (eqb_tells place first) as (λ _. AllByRecursion (λ other. eqb place other ≡ false) (first ∷ places)) [
      | inl same ↦ absurd (let test = rw same.0 at none in cc test)
      | inr other ↦ (other.0, none_of place places (rw other.0 at none))
    ]

-- no place is left over, since there would be more distinct places than there are places
left_over : (hash bits place : ℕ) → place < 2 ^ bits → list_any (eqb place) (places_of hash bits (2 ^ bits)) ≡ false → ⊥
unfolding IsDistinct
left_over hash bits place few none =
    let places : List ℕ = places_of hash bits (2 ^ bits) in
    let all_distinct : IsDistinct eqb (place ∷ places) = (none_of place places none, distinct hash bits (2 ^ bits) (omega arith)) in
    let within : (other : ℕ) → list_any (eqb other) (place ∷ places) ≡ true → other < 2 ^ bits = λ other found.
    elim (eqb_tells other place) as (λ _. other < 2 ^ bits) [
      | inl same ↦ (let is = same.1 in omega (arith, is))
      | inr another ↦ (let try = tried hash bits (2 ^ bits) other (rw another.0 at found) in
          let below = mod-lt (hash + triangular try.0) (pow_pos bits) in
          let is = try.2 in
          omega (arith, below, is))
    ] in
    let count = length-le_from_distinct_below (place ∷ places) (2 ^ bits) all_distinct within in
    let len = length-places_of hash bits (2 ^ bits) in
    omega (arith, count, len)

reached : (hash bits place : ℕ) (found : Bool) → place < 2 ^ bits → list_any (eqb place) (places_of hash bits (2 ^ bits)) ≡ found
    → (try : ℕ) × (try < 2 ^ bits) × (place_at hash bits try ≡ place)
reached hash bits place true few is = tried hash bits (2 ^ bits) place is
reached hash bits place false few is = absurd (left_over hash bits place few is)

pub has_all_places : (hash bits : ℕ) → HasAllPlaces hash bits
has_all_places hash bits place few = reached hash bits place _ few refl

-- A map that is to begin with as many places as it is asked for begins so by the pairs for which it has places.
use Rattle.std.specs.Prelude.{zero, suc, nat_lt, Some, None, ◌≤◌, ◌<◌, ◌*◌, ◌/◌, ◌^◌, ◌==◌, max, if◌then◌else◌}
use Rattle.std.proofs.Common.{◌≡◌, ℕ, Bool, true, false, refl, sym, ap, subst, arith, eqb-true, ◌∙◌}
use Rattle.std.proofs.lemmas.Bool.{ltb-true}
use Rattle.std.proofs.lemmas.Nat.{pow_pos}
use Rattle.std.proofs.Math.Nat.{pow-suc}
use Rattle.map_tables.specs.Lengths.{places_for}
use Rattle.map_tables.specs.Powers.{next_power}
use Rattle.map_tables.specs.declared.resize_mode.ResizeMode.{ResizeMode}
use Rattle.map_tables.specs.declared.resize_mode.ResizeMode.TheVariants.{Blocking, Incremental}
use Rattle.map_tables.specs.declared.setting.Setting.{Setting}
use Rattle.map_tables.proofs.Logarithms.{next-power-unique}
use Rattle.run_finds.specs.Given.NamedPlaces.{IsFirstLen, first_places}
use Rattle.play_lists.specs.Played.Play.{pairs_for}
use Rattle.run_schedules.specs.Runs.Runs.{map_fault}
use Rattle.play_lists.specs.Agrees.Places.{ArePlaces}

-- so many places are those for so many pairs
abbrev back : ℕ → ℕ
back places = places_for (pairs_for places)

-- a power of two is 1, or even
few_places : (places bits : ℕ) → places ≡ 2 ^ bits → (back places ≤ places) × (places / 2 < max 1 (back places)) × (1 ≤ pairs_for places)
few_places places zero is = let one : places ≡ 1 = is in (omega (arith, one), omega (arith, one), omega (arith, one))
few_places places (suc bits) is =
    even places (2 ^ bits) (is ∙ pow-suc 2 bits) (pow_pos bits)
  where
    even : (p h : ℕ) → p ≡ h * 2 → 1 ≤ h → (back p ≤ p) × (p / 2 < max 1 (back p)) × (1 ≤ pairs_for p)
    even p h e some = (omega (arith, e, some), omega (arith, e, some), omega (arith, e, some))

pub first_back : (places : ℕ) → IsFirstLen places → first_places (pairs_for places) ≡ places
first_back places first = by (places == 0) refl
  where
    by : (q : Bool) → (places == 0) ≡ q → first_places (pairs_for places) ≡ places
    by true e = let none = eqb-true places 0 e in subst (λ (n : ℕ). first_places (pairs_for n) ≡ n) (sym none) refl
    by false e =
        let some : max places 1 ≡ places = grind (arith, e) in
        let power : places ≡ 2 ^ first.0.0 = sym some ∙ first.0.1 in
        let few = few_places places first.0.0 power in
        let most = first.1.most in
        let is = next-power-unique (back places) places first.0.0 (omega (arith, few.0, most)) power few.0 few.1 in
        let l = few.2 in
        let not_none : (pairs_for places == 0) ≡ false = grind (arith, l) in
        ap (λ (b : Bool). if b then 0 else next_power (back places)) not_none ∙ sym is

few_none : {X : Type 0} (x : X) (n : ℕ) → n ≤ 2 ^ 48 → (if nat_lt (2 ^ 48) n then Some x else None) ≡ None
few_none {X} x n few = by (nat_lt (2 ^ 48) n) refl
  where
    by : (q : Bool) → nat_lt (2 ^ 48) n ≡ q → (if q then Some x else None) ≡ None
    by true many = absurd (let more = ltb-true (2 ^ 48) n many in omega (arith, more, few))
    by false e = refl

-- That so many pairs are no fault is so by the table that they need, and by the mode.
no_fault : (mode : ResizeMode) (capacity pairs : ℕ) → map_fault mode capacity ≡ None → places_for pairs ≤ 2 ^ 48 → map_fault mode pairs ≡ None
no_fault (Incremental zero) capacity pairs none few = absurd (cc none)
no_fault (Incremental (suc chunk)) capacity pairs none few = few_none _ (places_for pairs) few
no_fault Blocking capacity pairs none few = few_none _ (places_for pairs) few

-- So a capacity without a fault asks for places with which a map is made.
pub asked_places : (given : Setting) (mode : ResizeMode) (capacity places : ℕ) → given.mode ≡ mode → map_fault mode capacity ≡ None → IsFirstLen places → given.initial ≡ max places 1 → ArePlaces given places
asked_places given mode capacity places mode_is none first initial =
    (ap (λ (m : ResizeMode). map_fault m (pairs_for places)) mode_is ∙ no_fault mode capacity (pairs_for places) none (few (places == 0) refl), sym (first_back places first), initial)
  where
    few : (q : Bool) → (places == 0) ≡ q → back places ≤ 2 ^ 48
    few true e = let nothing = eqb-true places 0 e in subst (λ (n : ℕ). back n ≤ 2 ^ 48) (sym nothing) (omega arith)
    few false e =
        let some : max places 1 ≡ places = grind (arith, e) in
        let least = (few_places places first.0.0 (sym some ∙ first.0.1)).0 in
        let most = first.1.most in
        omega (arith, least, most)

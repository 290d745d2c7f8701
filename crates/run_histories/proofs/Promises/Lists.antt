-- Lists of things, and of those who shelter them.
use Rattle.std.specs.Prelude.{◌≡◌, ℕ, zero, suc, ◌<◌, ◌≤◌, nat_lt, Bool, true, false, List, [], ◌∷◌, ◌++◌, map, flat_map, Some, if◌then◌else◌}
use Rattle.std.specs.List.{AllByRecursion}
use Rattle.std.proofs.Common.{refl, ap, sym, subst, arith}
use Rattle.std.proofs.lemmas.Bool.Decides.{nat_tests}
use Rattle.std.proofs.lemmas.List.{append_assoc}
use Rattle.std.proofs.lemmas.List.Concat.{flat_map-cons}
use Rattle.run_places.specs.Given.RunsPresent.{guard_of}
use Rattle.run_places.specs.Given.RunsSame.{is_same}
use Rattle.run_places.specs.Given.RunsDeclared.holders.NamedGuard.{NamedGuard}
use Rattle.run_places.proofs.Given.RunsLaws.{same_tells}
use Rattle.run_places.specs.Given.RunsDeclared.effect.Thing.{Thing}
use Rattle.run_places.specs.Given.RunsDeclared.effect.Thing.TheVariants.{ATable}
use Rattle.run_places.specs.Given.SchedulesEffects.{passed}
use Rattle.run_places.specs.Given.SchedulesMoment.{Sheltered}
use Rattle.run_places.proofs.Given.General.{all_append}

pub all_of : {X : Type 0} (P Q : X → Type 0) (xs : List X) → ((x : X) → P x → Q x) → AllByRecursion P xs → AllByRecursion Q xs
all_of P Q [] f all = tt
all_of P Q (x ∷ xs) f all = (f x all.0, all_of P Q xs f all.1)

-- a table that is passed has a turn from the root's on
pub passed_all : (P : Thing → Type 0) (of first n : ℕ) → ((k : ℕ) → first ≤ k → k < n → P (ATable (record { map = of; turn = k }))) → AllByRecursion P (passed of first n)
passed_all P of first zero each = tt
passed_all P of first (suc n) each = by (nat_lt n first) refl (passed_all P of first n (λ k l less. each k l (omega (arith, less))))
  where
    by : (q : Bool) → nat_lt n first ≡ q → AllByRecursion P (passed of first n) → AllByRecursion P (if q then [] else passed of first n ++ ATable (record { map = of; turn = n }) ∷ [])
    by true e before = tt
    by false e before =
        all_append P (passed of first n) (ATable (record { map = of; turn = n }) ∷ []) before (each n (grind (arith, nat_tests, e)) (omega arith), tt)

-- one of the guards is found by its name
module _ (all : List NamedGuard) where
  abbrev pub IsFound : NamedGuard → Type 0
  IsFound g = (found : NamedGuard) × (guard_of g.name all ≡ Some found)

found_in : (before : List NamedGuard) (g : NamedGuard) (rest : List NamedGuard) → IsFound (before ++ g ∷ rest) g
found_in [] g rest = (g, ap (λ (q : Bool). if q then Some g else guard_of g.name rest) ((same_tells g.name g.name).1 refl))
found_in (x ∷ before) g rest = by (is_same x.name g.name) (found_in before g rest)
  where
    by : (q : Bool) → IsFound (before ++ g ∷ rest) g → (found : NamedGuard) × ((if q then Some x else guard_of g.name (before ++ g ∷ rest)) ≡ Some found)
    by true later = (x, refl)
    by false later = later

found_from : (before guards : List NamedGuard) → AllByRecursion (IsFound (before ++ guards)) guards
found_from before [] = tt
found_from before (g ∷ guards) =
    (found_in before g guards, subst (λ (gs : List NamedGuard). AllByRecursion (IsFound gs) guards) (append_assoc before (g ∷ []) guards) (found_from (before ++ g ∷ []) guards))

pub all_found : (guards : List NamedGuard) → AllByRecursion (IsFound guards) guards
all_found guards = found_from [] guards

-- each guard shelters each of these things
module _ (P : Sheltered → Type 0) (T : Thing → Type 0) (g : NamedGuard) (each : (x : Thing) → T x → P (record { guard = g.name; thing = x })) where
  one_shelters : (things : List Thing) → AllByRecursion T things → AllByRecursion P (map (λ x. record { guard = g.name; thing = x }) things)
  one_shelters [] all = tt
  one_shelters (x ∷ things) all = (each x all.0, one_shelters things all.1)

pub all_shelter : (P : Sheltered → Type 0) (T : Thing → Type 0) (things : List Thing) → AllByRecursion T things
    → (guards : List NamedGuard) → AllByRecursion (λ g. (x : Thing) → T x → P (record { guard = g.name; thing = x })) guards
    → AllByRecursion P (flat_map (λ g. map (λ x. record { guard = g.name; thing = x }) things) guards)
all_shelter P T things all [] each = tt
all_shelter P T things all (g ∷ guards) each =
    subst (AllByRecursion P) (sym (flat_map-cons (λ (g : NamedGuard). map (λ x. record { guard = g.name; thing = x }) things) g guards))
    (all_append P (map (λ x. record { guard = g.name; thing = x }) things) (flat_map (λ (g : NamedGuard). map (λ x. record { guard = g.name; thing = x }) things) guards)
    (one_shelters P T g each.0 things all) (all_shelter P T things all guards each.1))

-- nobody shelters anything, where there is no thing
abbrev pub nothing_by : NamedGuard → List Sheltered
nothing_by g = map (λ (x : Thing). record { guard = g.name; thing = x }) []

pub none_shelter : (guards : List NamedGuard) → flat_map nothing_by guards ≡ []
none_shelter [] = refl
none_shelter (g ∷ guards) = subst (λ (xs : List Sheltered). xs ≡ []) (sym (flat_map-cons nothing_by g guards)) (none_shelter guards)

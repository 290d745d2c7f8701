-- Which tables calls owe, once an effect of a call has changed what it owes.
use Rattle.std.specs.Prelude.{◌≡◌, ℕ, zero, suc, ◌≤◌, ◌<◌, ◌⊎◌, Bool, true, false, cond, ◌||◌, List, [], ◌∷◌, ◌++◌, find, map, Some, if◌then◌else◌}
use Rattle.std.specs.List.{list_any}
use Rattle.std.proofs.Common.{refl, ap, sym, subst, ◌∙◌, arith, inl, inr}
use Rattle.std.proofs.lemmas.Bool.{cases_eq, or_left, or_right, le-ltb}
use Rattle.run_executor.specs.Given.RunsSame.{is_same}
use Rattle.run_executor.specs.Given.RunsDeclared.effect.TableId.{TableId}
use Rattle.run_executor.specs.Given.RunsDeclared.effect.Thing.{Thing}
use Rattle.run_executor.specs.Given.RunsDeclared.effect.Thing.TheVariants.{APair, ATable}
use Rattle.run_executor.specs.Given.SchedulesEffects.{passed}
use Rattle.run_executor.specs.Given.SchedulesLists.{is_in, without_one}
use Rattle.run_executor.specs.Given.SchedulesMoment.{UnderWay}
use Rattle.run_executor.specs.Given.SchedulesThings.{same_table, same_thing}
use Rattle.run_executor.proofs.Given.FollowsCalls.{IsOfSame, changed}
use Rattle.run_executor.proofs.Given.SpotsUnreclaimed.{table_is, same_itself}

-- among things

pub still_in : (t : TableId) (xs ys : List Thing) → is_in same_thing (ATable t) xs ≡ true → is_in same_thing (ATable t) (xs ++ ys) ≡ true
still_in t [] ys e = absurd (cc e)
still_in t (x ∷ xs) ys e = by (same_thing (ATable t) x) e (still_in t xs ys)
  where
    by : (q : Bool) → (q || is_in same_thing (ATable t) xs) ≡ true → (is_in same_thing (ATable t) xs ≡ true → is_in same_thing (ATable t) (xs ++ ys) ≡ true)
        → (q || is_in same_thing (ATable t) (xs ++ ys)) ≡ true
    by true e rest = refl
    by false e rest = rest e

pub then_in : (t : TableId) (xs ys : List Thing) → is_in same_thing (ATable t) ys ≡ true → is_in same_thing (ATable t) (xs ++ ys) ≡ true
then_in t [] ys e = e
then_in t (x ∷ xs) ys e = or_right (same_thing (ATable t) x) (is_in same_thing (ATable t) (xs ++ ys)) (then_in t xs ys e)

-- a table that is not the thing stays where that goes
pub in_without : (t : TableId) (y : Thing) (things : List Thing) → (y ≡ ATable t → ⊥) → is_in same_thing (ATable t) things ≡ true → is_in same_thing (ATable t) (without_one same_thing y things) ≡ true
in_without t y [] apart e = absurd (cc e)
in_without t y (z ∷ things) apart e = by (same_thing y z) refl (same_thing (ATable t) z) refl (in_without t y things apart)
  where
    Its : Bool → Type 0
    Its q = (q || is_in same_thing (ATable t) things) ≡ true

    Goal : Bool → Type 0
    Goal q = is_in same_thing (ATable t) (if q then things else z ∷ without_one same_thing y things) ≡ true

    one_thing : (a b c : Thing) → same_thing a c ≡ true → same_thing b c ≡ true → a ≡ b
    one_thing (APair n) (APair k) (APair p) e f = ap (λ (q : ℕ). APair q) (let one : n ≡ k = grind (arith, e, f) in one)
    one_thing (ATable a) (ATable b) (ATable c) e f = ap (λ (q : TableId). ATable q) (table_is a c e ∙ sym (table_is b c f))
    one_thing (APair n) b (ATable c) e f = absurd (cc e)
    one_thing (ATable a) b (APair p) e f = absurd (cc e)
    one_thing a (APair k) (ATable c) e f = absurd (cc f)
    one_thing a (ATable b) (APair p) e f = absurd (cc f)

    by : (q : Bool) → same_thing y z ≡ q → (b : Bool) → same_thing (ATable t) z ≡ b
        → (is_in same_thing (ATable t) things ≡ true → is_in same_thing (ATable t) (without_one same_thing y things) ≡ true) → Goal (same_thing y z)
    by true is true it rest = absurd (apart (one_thing y (ATable t) z is it))
    by true is false it rest = subst Goal (sym is) (subst Its it e)
    by false is true it rest = subst Goal (sym is) (or_left (same_thing (ATable t) z) (is_in same_thing (ATable t) (without_one same_thing y things)) it)
    by false is false it rest = subst Goal (sym is) (or_right (same_thing (ATable t) z) (is_in same_thing (ATable t) (without_one same_thing y things)) (rest (subst Its it e)))

-- a table that a root passes is among those
pub passed_in : (map first turn u : ℕ) → first ≤ u → u < turn → is_in same_thing (ATable (record { map = map; turn = u })) (passed map first turn) ≡ true
passed_in map first zero u l below = absurd (omega (arith, below))
passed_in map first (suc n) u l below = subst Goal (sym (le-ltb n first (omega (arith, l, below)))) (by (cases_eq u n) (passed_in map first n u l))
  where
    it : TableId
    it = record { map = map; turn = u }

    Goal : Bool → Type 0
    Goal q = is_in same_thing (ATable it) (if q then [] else passed map first n ++ ATable (record { map = map; turn = n }) ∷ []) ≡ true

    by : (u ≡ n) ⊎ (u ≡ n → ⊥) → (u < n → is_in same_thing (ATable it) (passed map first n) ≡ true) → Goal false
    by (inl e) rest = then_in it (passed map first n) (ATable (record { map = map; turn = n }) ∷ [])
        (or_left (same_table it (record { map = map; turn = n })) false (subst (λ (q : ℕ). same_table it (record { map = map; turn = q }) ≡ true) e (same_itself it)))
    by (inr ne) rest = still_in it (passed map first n) (ATable (record { map = map; turn = n }) ∷ []) (rest (omega (arith, below, ne)))

-- among what calls owe

module _ {K V : Type 0} (own : List ℕ) (change : UnderWay K V → UnderWay K V) (same : (c : UnderWay K V) → IsOfSame c (change c)) (t : TableId) where
  abbrev pub owes_it : UnderWay K V → Bool
  owes_it c = is_in same_thing (ATable t) c.owes

  -- what is owed is owed still, if the change leaves that
  pub owed_still : ((c : UnderWay K V) → owes_it c ≡ true → owes_it (change c) ≡ true) → (calls : List (UnderWay K V)) → list_any owes_it calls ≡ true → list_any owes_it (map (changed change same own) calls) ≡ true
  owed_still keeps [] e = e
  owed_still keeps (c ∷ calls) e = by (owes_it c) refl e (owed_still keeps calls)
    where
      one : (q : Bool) → owes_it c ≡ true → owes_it (if q then change c else c) ≡ true
      one true e = keeps c e
      one false e = e

      by : (q : Bool) → owes_it c ≡ q → (q || list_any owes_it calls) ≡ true → (list_any owes_it calls ≡ true → list_any owes_it (map (changed change same own) calls) ≡ true)
          → (owes_it (changed change same own c) || list_any owes_it (map (changed change same own) calls)) ≡ true
      by true is e rest = or_left (owes_it (changed change same own c)) (list_any owes_it (map (changed change same own) calls)) (one (is_same c.caller own) is)
      by false is e rest = or_right (owes_it (changed change same own c)) (list_any owes_it (map (changed change same own) calls)) (rest e)

  -- and so is what the call of this caller owes then
  pub owed_now : (calls : List (UnderWay K V)) (c : UnderWay K V) → find (λ d. is_same d.caller own) calls ≡ Some c → owes_it (change c) ≡ true → list_any owes_it (map (changed change same own) calls) ≡ true
  owed_now [] c is e = absurd (cc is)
  owed_now (d ∷ calls) c is e = by (is_same d.caller own) refl is (λ further. owed_now calls c further e)
    where
      by : (q : Bool) → is_same d.caller own ≡ q → cond q (Some d) (find (λ x. is_same x.caller own) calls) ≡ Some c
          → (find (λ x. is_same x.caller own) calls ≡ Some c → list_any owes_it (map (changed change same own) calls) ≡ true)
          → (owes_it (changed change same own d) || list_any owes_it (map (changed change same own) calls)) ≡ true
      by true its found rest =
          let it : d ≡ c = cc found in
          or_left (owes_it (changed change same own d)) (list_any owes_it (map (changed change same own) calls))
          (ap (λ (q : Bool). owes_it (if q then change d else d)) its ∙ (ap (λ (x : UnderWay K V). owes_it (change x)) it ∙ e))
      by false its found rest = or_right (owes_it (changed change same own d)) (list_any owes_it (map (changed change same own) calls)) (rest found)

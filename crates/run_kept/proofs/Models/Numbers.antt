-- Things have numbers of their own, and keep them as others come; what a row on a slot does brings none.
use Rattle.std.specs.Prelude.{◌||◌, flat_map, if◌then◌else◌}
use Rattle.std.proofs.Common.{◌≡◌, ℕ, suc, Bool, true, false, List, [], ◌∷◌, ◌++◌, refl, ap, sym, subst, arith, ◌∙◌}
use Rattle.std.proofs.lemmas.List.Concat.{flat_map-cons}
use Rattle.seize.specs.WaitingSets.{Change}
use Rattle.run_schedules.specs.Schedules.Lists.{is_in}
use Rattle.run_schedules.specs.Schedules.Model.{came, number_in, handing}
use Rattle.run_schedules.specs.Schedules.Moment.{Moment}
use Rattle.run_schedules.specs.Schedules.Things.{same_thing}
use Rattle.run_schedules.specs.declared.effect.Effect.{Effect}
use Rattle.run_schedules.specs.declared.effect.Effect.TheVariants as effect
use Rattle.run_schedules.specs.declared.effect.Thing.{Thing}
use Rattle.run_schedules.specs.declared.effect.Thing.TheVariants.{APair, ATable}
use Rattle.run_executor.specs.Given.EffectsKnown.{Known}
use Rattle.run_executor.specs.Given.EffectsDeclared.role.Role.{Role}
use Rattle.run_executor.specs.Given.EffectsDeclared.role.Role.TheVariants as role
use Rattle.run_executor.specs.Given.SpotsUnreclaimed.{RefinesUnreclaimed}
use Rattle.run_blocks.specs.Given.PromisesSheltered.{IsOfThing}
use Rattle.run_blocks.proofs.Given.PromisesShelters.Rows.{things_are}
use Rattle.run_kept.specs.Models.Alike.{IsOneToOne}
use Rattle.run_kept.specs.Models.Numbers.{things_of, HasNumber, EachIsOnce, IsOfRow, AreOfRow}

-- two things with one number, of which one came into a map
pub numbers_once : (things : List Thing) (x y : Thing) → is_in same_thing x things ≡ true → number_in things x ≡ number_in things y → x ≡ y
numbers_once [] x y p e = absurd (cc p)
numbers_once (z ∷ things) x y p e = by (same_thing x z) (same_thing y z) refl refl p e (numbers_once things x y)
  where
    by : (a b : Bool) → same_thing x z ≡ a → same_thing y z ≡ b → (a || is_in same_thing x things) ≡ true
        → (if a then 0 else suc (number_in things x)) ≡ (if b then 0 else suc (number_in things y))
        → (is_in same_thing x things ≡ true → number_in things x ≡ number_in things y → x ≡ y) → x ≡ y
    by true true i j p e ih = things_are x z i ∙ sym (things_are y z j)
    by true false i j p e ih = absurd (omega (arith, e))
    by false true i j p e ih = absurd (omega (arith, e))
    by false false i j p e ih = ih p (omega (arith, e))

-- others that come behind them change no number

module _ (more : List Thing) where
  pub still_in : (things : List Thing) (x : Thing) → is_in same_thing x things ≡ true → is_in same_thing x (things ++ more) ≡ true
  still_in [] x p = absurd (cc p)
  still_in (z ∷ things) x p = by (same_thing x z) p (still_in things x)
    where
      by : (a : Bool) → (a || is_in same_thing x things) ≡ true → (is_in same_thing x things ≡ true → is_in same_thing x (things ++ more) ≡ true)
          → (a || is_in same_thing x (things ++ more)) ≡ true
      by true p ih = refl
      by false p ih = ih p

  pub same_number : (things : List Thing) (x : Thing) → is_in same_thing x things ≡ true → number_in (things ++ more) x ≡ number_in things x
  same_number [] x p = absurd (cc p)
  same_number (z ∷ things) x p = by (same_thing x z) p (same_number things x)
    where
      by : (a : Bool) → (a || is_in same_thing x things) ≡ true → (is_in same_thing x things ≡ true → number_in (things ++ more) x ≡ number_in things x)
          → (if a then 0 else suc (number_in (things ++ more) x)) ≡ (if a then 0 else suc (number_in things x))
      by true p ih = refl
      by false p ih = ap suc (ih p)

-- a role is that of one thing

pub one_thing : (x y : Thing) (r : Role) → IsOfThing x r → IsOfThing y r → x ≡ y
one_thing (APair n) (APair k) r p q = ap APair (cc (p, q))
one_thing (APair n) (ATable t) r p q = absurd (let a = q.1 in cc (p, a))
one_thing (ATable t) (APair n) r p q = absurd (let a = p.1 in cc (a, q))
one_thing (ATable t) (ATable u) r p q = ap ATable (let a = p.1 in let b = q.1 in cc (a, b))

pub the_thing : (x : Thing) (r : Role) → IsOfThing x r → things_of r ≡ x ∷ []
the_thing (APair n) r p = ap things_of p
the_thing (ATable t) r p = ap things_of p.1

pub has_one : (known : Known) (things : List Thing) → EachIsOnce known → IsOneToOne (HasNumber known things)
has_one known things once = record {
  left = λ b n k p q.
      let same = one_thing p.0 q.0 (known.roles b) p.1 q.1 in
      sym p.3 ∙ ap (number_in things) same ∙ q.3;
  right = λ b d n p q.
      let same = numbers_once things p.0 q.0 p.2 (p.3 ∙ sym q.3) in
      once b d q.0 (subst (λ (x : Thing). IsOfThing x (known.roles b)) same p.1) q.1;
}

-- a moment that shows the blocks notes each thing once
pub noted_once : {K V : Type 0} (m : Moment K V) (known : Known) → ((b d n : ℕ) → known.roles b ≡ role.Pair n → known.roles d ≡ role.Pair n → b ≡ d)
    → RefinesUnreclaimed m known → EachIsOnce known
noted_once m known pairs shows b d (APair n) p q = pairs b d n p q
noted_once m known pairs shows b d (ATable t) p q = shows.tables_once b d p.0 q.0 t p.1 q.1

-- what a row on a slot does

pub none_came : (effects : List Effect) → AreOfRow effects → flat_map came effects ≡ []
none_came [] all = refl
none_came (e ∷ effects) all = flat_map-cons came e effects ∙ ap (λ (xs : List Thing). xs ++ flat_map came effects) (by e all.0) ∙ none_came effects all.1
  where
    by : (e : Effect) → IsOfRow e → came e ≡ []
    by (effect.Asked growth) is = refl
    by effect.PairGivenUp is = refl
    by (effect.TableGivenUp t) is = refl
    by (effect.Reclaimed x) is = refl
    by _ is = absurd is

pub none_handed : (things : List Thing) (slot : ℕ) (effects : List Effect) → AreOfRow effects → flat_map (handing things slot) effects ≡ []
none_handed things slot [] all = refl
none_handed things slot (e ∷ effects) all =
    flat_map-cons (handing things slot) e effects ∙ ap (λ (cs : List Change). cs ++ flat_map (handing things slot) effects) (by e all.0) ∙ none_handed things slot effects all.1
  where
    by : (e : Effect) → IsOfRow e → handing things slot e ≡ []
    by (effect.Asked growth) is = refl
    by effect.PairGivenUp is = refl
    by (effect.TableGivenUp t) is = refl
    by (effect.Reclaimed x) is = refl
    by _ is = absurd is

pub both_of_row : (done effects : List Effect) → AreOfRow done → AreOfRow effects → AreOfRow (done ++ effects)
both_of_row [] effects a b = b
both_of_row (e ∷ done) effects a b = (a.0, both_of_row done effects a.1 b)

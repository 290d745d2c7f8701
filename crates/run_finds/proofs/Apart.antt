-- No table is there twice, also after an effect.
use Rattle.std.specs.Prelude.{◌≡◌, Bool, true, false, ◌||◌, List, [], ◌∷◌, ◌++◌, map}
use Rattle.std.specs.List.{AllByRecursion, list_any}
use Rattle.std.proofs.Common.{refl, ap, ◌∙◌}
use Rattle.run_executor.specs.Given.RunsDeclared.effect.TableId.{TableId}
use Rattle.run_executor.specs.Given.SchedulesMoment.{TableThere}
use Rattle.run_executor.specs.Given.SchedulesThings.{same_table}
use Rattle.run_finds.specs.Bounded.{TablesApart}

-- some table of these is this one
abbrev is_one : TableId → List TableThere → Bool
is_one t us = list_any (λ v. same_table v.table t) us

neither : (p q : Bool) → p ≡ false → q ≡ false → (p || q) ≡ false
neither true q none other = absurd (cc none)
neither false q none other = other

left_none : (p q : Bool) → (p || q) ≡ false → p ≡ false
left_none true q none = none
left_none false q none = refl

right_none : (p q : Bool) → (p || q) ≡ false → q ≡ false
right_none true q none = absurd (cc none)
right_none false q none = none

none_append : (t : TableId) (us : List TableThere) (x : TableThere) → is_one t us ≡ false → same_table x.table t ≡ false → is_one t (us ++ x ∷ []) ≡ false
none_append t [] x none other = neither (same_table x.table t) false other refl
none_append t (u ∷ us) x none other =
    neither (same_table u.table t) (is_one t (us ++ x ∷ [])) (left_none (same_table u.table t) (is_one t us) none)
    (none_append t us x (right_none (same_table u.table t) (is_one t us) none) other)

-- one more, which is none of them
pub apart_append : (us : List TableThere) (x : TableThere) → TablesApart us → AllByRecursion (λ u. same_table x.table u.table ≡ false) us → TablesApart (us ++ x ∷ [])
apart_append [] x apart new = (refl, tt)
apart_append (u ∷ us) x apart new = (none_append u.table us x apart.0 new.0, apart_append us x apart.1 new.1)

-- what changes but keeps its name
module _ (f : TableThere → TableThere) (keeps : (u : TableThere) → (f u).table ≡ u.table) where
  same_one : (t : TableId) (us : List TableThere) → is_one t (map f us) ≡ is_one t us
  same_one t [] = refl
  same_one t (u ∷ us) = ap (λ (v : TableId). same_table v t || is_one t (map f us)) (keeps u) ∙ ap (λ (q : Bool). same_table u.table t || q) (same_one t us)

  pub apart_under : (us : List TableThere) → TablesApart us → TablesApart (map f us)
  apart_under [] apart = tt
  apart_under (u ∷ us) apart = (ap (λ (t : TableId). is_one t (map f us)) (keeps u) ∙ (same_one u.table us ∙ apart.0), apart_under us apart.1)

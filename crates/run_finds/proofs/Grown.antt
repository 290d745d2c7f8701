-- What is found in lists; how many tables a map has had, and where pairs lie, after an effect.
use Rattle.std.specs.Prelude.{◌≡◌, ℕ, ◌+◌, ◌≤◌, ◌==◌, Bool, true, false, cond, ◌||◌, List, [], ◌∷◌, ◌++◌, length, filter, find, Option, Some, None}
use Rattle.std.specs.List.{AllByRecursion, list_any}
use Rattle.std.proofs.Common.{refl, ap, sym, subst, ◌∙◌, arith, length-append}
use Rattle.std.proofs.lemmas.List.Elements.{filter-append}
use Rattle.run_executor.specs.Given.RunsSame.{is_same}
use Rattle.run_executor.specs.Given.RunsDeclared.shapes.TableShape.{TableShape}
use Rattle.run_executor.specs.Given.RunsDeclared.effect.Effect.{Effect}
use Rattle.run_executor.specs.Given.RunsDeclared.effect.Effect.TheVariants as effect
use Rattle.run_executor.specs.Given.RunsDeclared.effect.Spot.{Spot}
use Rattle.run_executor.specs.Given.RunsDeclared.effect.TableId.{TableId}
use Rattle.run_executor.specs.Given.RunsDeclared.effect.Thing.TheVariants.{APair, ATable}
use Rattle.run_executor.specs.Given.SchedulesEffects.{born_by, spot_by, with_effect}
use Rattle.run_executor.specs.Given.SchedulesGrowing.{IsNextRoot}
use Rattle.run_executor.specs.Given.SchedulesMoment.{Place, UnderWay, IsLinked, IsRetired, IsReclaimed, IsTaken, TableThere, Moment}
use Rattle.run_executor.specs.Given.SchedulesViews.{tables_of}
use Rattle.run_executor.proofs.Given.FollowsCalling.{is_same_is}
use Rattle.run_finds.specs.Waiting.{AreApart}
use Rattle.run_finds.specs.Within.{many_of}
use Rattle.run_finds.proofs.Lists.{none_of_them, all_so}
use Rattle.run_finds.proofs.Somewhere.{is_storing}
use Rattle.run_finds.proofs.Tables.{same_length}

-- lists

module _ {X : Type 0} (test : X → Bool) where
  -- what is found passes, and one does
  pub found_of : (P : X → Type 0) (xs : List X) (x : X) → AllByRecursion P xs → find test xs ≡ Some x → (test x ≡ true) × P x
  found_of P [] x all is = absurd (cc is)
  found_of P (y ∷ ys) x all is = by (test y) refl is (found_of P ys x all.1)
    where
      by : (q : Bool) → test y ≡ q → cond q (Some y) (find test ys) ≡ Some x → (find test ys ≡ Some x → (test x ≡ true) × P x) → (test x ≡ true) × P x
      by true e here rest = let it : y ≡ x = cc here in (ap test (sym it) ∙ e, subst P it all.0)
      by false e here rest = rest here

  pub found_any : (xs : List X) (x : X) → find test xs ≡ Some x → list_any test xs ≡ true
  found_any [] x is = absurd (cc is)
  found_any (y ∷ ys) x is = by (test y) is (found_any ys x)
    where
      by : (q : Bool) → cond q (Some y) (find test ys) ≡ Some x → (find test ys ≡ Some x → list_any test ys ≡ true) → (q || list_any test ys) ≡ true
      by true here rest = refl
      by false here rest = rest here

  -- and where one does, one is found
  pub any_found : (xs : List X) → list_any test xs ≡ true → (x : X) × (find test xs ≡ Some x)
  any_found [] any = absurd (cc any)
  any_found (y ∷ ys) any = by (test y) any (any_found ys)
    where
      by : (q : Bool) → (q || list_any test ys) ≡ true → (list_any test ys ≡ true → (x : X) × (find test ys ≡ Some x)) → (x : X) × (cond q (Some y) (find test ys) ≡ Some x)
      by true e rest = (y, refl)
      by false e rest = rest e

-- of callers that are apart only the one that is found has the name
pub only_one : {K V : Type 0} (own : List ℕ) (calls : List (UnderWay K V)) (c : UnderWay K V) → AreApart calls → find (λ d. is_same d.caller own) calls ≡ Some c
    → AllByRecursion (λ d. is_same d.caller own ≡ true → d ≡ c) calls
only_one own [] c apart is = tt
only_one {K} {V} own (d ∷ calls) c apart is = by (is_same d.caller own) refl is (only_one own calls c apart.1)
  where
    by : (q : Bool) → is_same d.caller own ≡ q → cond q (Some d) (find (λ x. is_same x.caller own) calls) ≡ Some c
        → (find (λ x. is_same x.caller own) calls ≡ Some c → AllByRecursion (λ x. is_same x.caller own ≡ true → x ≡ c) calls)
        → AllByRecursion (λ x. is_same x.caller own ≡ true → x ≡ c) (d ∷ calls)
    by true e here rest =
        let it : d ≡ c = cc here in
        let none = subst (λ (l : List ℕ). list_any (λ x. is_same x.caller l) calls ≡ false) (is_same_is d.caller own e) apart.0 in
        ((λ same. it), all_so (λ x. is_same x.caller own ≡ false) (λ x. is_same x.caller own ≡ true → x ≡ c) (λ x no_one same. absurd (cc (no_one, same))) calls (none_of_them (λ x. is_same x.caller own) calls none))
    by false e here rest = ((λ same. absurd (cc (e, same))), rest here)

-- tables of a map

-- pairs stored are born where they were
pub born_same : (acted : Option ℕ) (f : Effect) (born : ℕ → TableId) → is_storing f ≡ false → born_by acted f born ≡ born
born_same None f born e = refl
born_same (Some of) (effect.Stored n s) born e = absurd (cc e)
born_same (Some of) _ born e = refl

module _ {K V : Type 0} where
  pub many_grow : (caller : Option (List ℕ)) (acted : Option ℕ) (m : Moment K V) (f : Effect) (of : ℕ) → many_of of m ≤ many_of of (with_effect caller acted f m)
  many_grow caller acted m (effect.Linked t shape) of =
      let new : TableThere = record { table = t; shape = shape; stage = IsLinked } in
      let parts : length (filter (λ (u : TableThere). u.table.map == of) (m.tables ++ new ∷ [])) ≡ length (tables_of of m ++ filter (λ (u : TableThere). u.table.map == of) (new ∷ [])) =
      ap length (filter-append (λ (u : TableThere). u.table.map == of) m.tables (new ∷ [])) in
      let sum = length-append (tables_of of m) (filter (λ (u : TableThere). u.table.map == of) (new ∷ [])) in
      omega (arith, parts, sum)
  many_grow caller acted m (effect.Retired (ATable t)) of = let same = same_length t IsRetired of m.tables in omega (arith, same)
  many_grow caller acted m (effect.Reclaimed (ATable t)) of = let same = same_length t IsReclaimed of m.tables in omega (arith, same)
  many_grow caller acted m (effect.Taken t) of = let same = same_length t IsTaken of m.tables in omega (arith, same)
  many_grow caller acted m (effect.Retired (APair n)) of = omega arith
  many_grow caller acted m (effect.Reclaimed (APair n)) of = omega arith
  many_grow caller acted m _ of = omega arith

-- a table that has just been linked
abbrev pub linked_as : TableId → TableShape → TableThere
linked_as t shape = record { table = t; shape = shape; stage = IsLinked }

-- the root comes to no earlier table
pub comes_on : (q : Bool) (first turn : ℕ) (tables : List TableThere) → IsNextRoot q first turn tables → first ≤ turn
comes_on true first turn tables next = let is : turn ≡ first + 1 = next in omega (arith, is)
comes_on false first turn tables next = let l = next.0 in omega (arith, l)

-- the effect says where a pair lies
abbrev pub is_moving : Effect → Bool
is_moving (effect.Stored n s) = true
is_moving (effect.Copied n s) = true
is_moving (effect.Promoted t) = true
is_moving _ = false

pub spot_same : (q : Bool) (place : ℕ → Place) (copy : ℕ → Spot) (f : Effect) (spot : ℕ → Spot) → is_moving f ≡ false → spot_by q place copy f spot ≡ spot
spot_same q place copy (effect.Stored n s) spot e = absurd (cc e)
spot_same q place copy (effect.Copied n s) spot e = absurd (cc e)
spot_same q place copy (effect.Promoted t) spot e = absurd (cc e)
spot_same true place copy _ spot e = refl
spot_same false place copy _ spot e = refl

-- it stores none, either
pub stores_none : (f : Effect) → is_moving f ≡ false → is_storing f ≡ false
stores_none (effect.Stored n s) e = absurd (cc e)
stores_none _ e = refl

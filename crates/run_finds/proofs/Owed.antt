-- How often a pair stands among what calls owe: an effect of a call changes that by what it does to what this call owes.
pub mod Tables
use Rattle.std.specs.Prelude.{◌≡◌, ℕ, zero, suc, ◌+◌, ◌==◌, nat_lt, Bool, true, false, not, cond, ◌||◌, List, [], ◌∷◌, ◌++◌, find, map, Option, Some, if◌then◌else◌}
use Rattle.std.specs.List.{AllByRecursion, list_any}
use Rattle.std.proofs.Common.{refl, ap, sym, subst, ◌∙◌, arith}
use Rattle.std.proofs.lemmas.Bool.{or_parts, or_from}
use Rattle.run_executor.specs.Given.RunsSame.{is_same}
use Rattle.run_executor.specs.Given.RunsDeclared.call.Call.{Call}
use Rattle.run_executor.specs.Given.RunsDeclared.call.Call.TheVariants as call
use Rattle.run_executor.specs.Given.RunsDeclared.effect.TableId.{TableId}
use Rattle.run_executor.specs.Given.RunsDeclared.effect.Thing.{Thing}
use Rattle.run_executor.specs.Given.RunsDeclared.effect.Thing.TheVariants.{APair, ATable}
use Rattle.run_executor.specs.Given.SchedulesAfter.{without_call}
use Rattle.run_executor.specs.Given.SchedulesEffects.{passed, due_for}
use Rattle.run_executor.specs.Given.SchedulesLists.{is_in, without_one}
use Rattle.run_executor.specs.Given.SchedulesMoment.{UnderWay}
use Rattle.run_executor.specs.Given.SchedulesThings.{same_thing}
use Rattle.run_executor.proofs.Given.FollowsCalling.{is_same_is}
use Rattle.run_executor.proofs.Given.FollowsCalls.{IsOfSame, changed, of_same}
use Rattle.run_finds.specs.Waiting.{once_if, owed_in, owed_by, AreApart, EndedOweNothing}

-- among things

pub owed_append : (n : ℕ) (xs ys : List Thing) → owed_in n (xs ++ ys) ≡ owed_in n xs + owed_in n ys
owed_append n [] ys = omega arith
owed_append n (x ∷ xs) ys = let rest = owed_append n xs ys in omega (arith, rest)

-- the thing is this pair: what other pairs are it, that pair is
pub same_pair : (n k : ℕ) (x : Thing) → same_thing (APair n) x ≡ true → same_thing (APair k) x ≡ same_thing (APair k) (APair n)
same_pair n k (APair p) e = ap (λ (q : ℕ). same_thing (APair k) (APair q)) (sym (number_is n p e))
  where
    number_is : (a b : ℕ) → (a == b) ≡ true → a ≡ b
    number_is a b e = grind (arith, e)
same_pair n k (ATable t) e = absurd (cc e)

-- a pair that is there is there once more than without it, and other pairs as often
pub owed_without : (n k : ℕ) (things : List Thing) → is_in same_thing (APair n) things ≡ true
    → owed_in k (without_one same_thing (APair n) things) + once_if (same_thing (APair k) (APair n)) ≡ owed_in k things
owed_without n k [] there = absurd (cc there)
owed_without n k (x ∷ things) there = by (same_thing (APair n) x) refl there (owed_without n k things)
  where
    Goal : Bool → Type 0
    Goal q = owed_in k (if q then things else x ∷ without_one same_thing (APair n) things) + once_if (same_thing (APair k) (APair n)) ≡ owed_in k (x ∷ things)

    by : (q : Bool) → same_thing (APair n) x ≡ q → (q || is_in same_thing (APair n) things) ≡ true
        → (is_in same_thing (APair n) things ≡ true → owed_in k (without_one same_thing (APair n) things) + once_if (same_thing (APair k) (APair n)) ≡ owed_in k things)
        → Goal (same_thing (APair n) x)
    by true is e rest = subst Goal (sym is) (let it : once_if (same_thing (APair k) x) ≡ once_if (same_thing (APair k) (APair n)) = ap once_if (same_pair n k x is) in omega (arith, it))
    by false is e rest = subst Goal (sym is) (let it = rest e in omega (arith, it))

-- a table that goes leaves pairs
pub table_without : (k : ℕ) (t : TableId) (things : List Thing) → owed_in k (without_one same_thing (ATable t) things) ≡ owed_in k things
table_without k t [] = refl
table_without k t (x ∷ things) = by (same_thing (ATable t) x) refl (table_without k t things)
  where
    Goal : Bool → Type 0
    Goal q = owed_in k (if q then things else x ∷ without_one same_thing (ATable t) things) ≡ owed_in k (x ∷ things)

    no_pair : (y : Thing) → same_thing (ATable t) y ≡ true → same_thing (APair k) y ≡ false
    no_pair (APair n) e = absurd (cc e)
    no_pair (ATable u) e = refl

    by : (q : Bool) → same_thing (ATable t) x ≡ q → owed_in k (without_one same_thing (ATable t) things) ≡ owed_in k things → Goal (same_thing (ATable t) x)
    by true is rest = subst Goal (sym is) (let none : once_if (same_thing (APair k) x) ≡ 0 = ap once_if (no_pair x is) in omega (arith, none))
    by false is rest = subst Goal (sym is) (ap (λ (q : ℕ). once_if (same_thing (APair k) x) + q) rest)

-- tables that a root passes are no pairs
pub passed_none : (k map first turn : ℕ) → owed_in k (passed map first turn) ≡ 0
passed_none k map first zero = refl
passed_none k map first (suc n) = by (nat_lt n first) (passed_none k map first n)
  where
    by : (q : Bool) → owed_in k (passed map first n) ≡ 0 → owed_in k (if q then [] else passed map first n ++ ATable (record { map = map; turn = n }) ∷ []) ≡ 0
    by true rest = refl
    by false rest = owed_append k (passed map first n) (ATable (record { map = map; turn = n }) ∷ []) ∙ (omega (arith, rest))

-- a pair that is owed is owed once at least
pub owed_there : (n : ℕ) (things : List Thing) → is_in same_thing (APair n) things ≡ true → (m : ℕ) × (owed_in n things ≡ 1 + m)
owed_there n [] there = absurd (cc there)
owed_there n (x ∷ things) there = by (same_thing (APair n) x) refl there (owed_there n things)
  where
    by : (q : Bool) → same_thing (APair n) x ≡ q → (q || is_in same_thing (APair n) things) ≡ true
        → (is_in same_thing (APair n) things ≡ true → (m : ℕ) × (owed_in n things ≡ 1 + m)) → (m : ℕ) × (owed_in n (x ∷ things) ≡ 1 + m)
    by true is e rest = (owed_in n things, ap (λ (q : Bool). once_if q + owed_in n things) is)
    by false is e rest = let it = rest e in let more = it.1 in let none : once_if (same_thing (APair n) x) ≡ 0 = ap once_if is in (it.0, omega (arith, none, more))

-- among what calls owe

-- a call that owes an answer owes the same things, and has the table that it had
pub due_keeps : {K V : Type 0} (its : Call K V) (c : UnderWay K V) (old : Option ℕ) (new : ℕ) → ((due_for its c old new).owes ≡ c.owes) × ((due_for its c old new).table ≡ c.table)
due_keeps (call.On one) c old new = (refl, refl)
due_keeps (call.Reserve n) c old new = (refl, refl)
due_keeps call.Clear c old new = (refl, refl)
due_keeps call.Retain c old new = (refl, refl)
due_keeps call.Len c old new = (refl, refl)
due_keeps call.Walk c old new = (refl, refl)

module _ {K V : Type 0} (own : List ℕ) (change : UnderWay K V → UnderWay K V) (same : (c : UnderWay K V) → IsOfSame c (change c)) where
  -- whether a call is of this caller, its own change makes no other one of it
  pub named_still : (caller : List ℕ) (calls : List (UnderWay K V)) → list_any (λ d. is_same d.caller caller) (map (changed change same own) calls) ≡ list_any (λ d. is_same d.caller caller) calls
  named_still caller [] = refl
  named_still caller (c ∷ calls) =
      ap (λ (l : List ℕ). is_same l caller || list_any (λ d. is_same d.caller caller) (map (changed change same own) calls)) (of_same change same own c).0
      ∙ ap (λ (q : Bool). is_same c.caller caller || q) (named_still caller calls)

  pub apart_still : (calls : List (UnderWay K V)) → AreApart calls → AreApart (map (changed change same own) calls)
  apart_still [] apart = tt
  apart_still (c ∷ calls) apart = (
    ap (λ (l : List ℕ). list_any (λ d. is_same d.caller l) (map (changed change same own) calls)) (of_same change same own c).0
        ∙ (named_still c.caller calls ∙ apart.0),
    apart_still calls apart.1,
  )

  module _ (n : ℕ) where
    abbrev owes : UnderWay K V → ℕ
    owes c = owed_in n c.owes

    -- calls of others owe what they owed
    others_owe : (calls : List (UnderWay K V)) → list_any (λ d. is_same d.caller own) calls ≡ false → owed_by n (map (changed change same own) calls) ≡ owed_by n calls
    others_owe [] none = refl
    others_owe (c ∷ calls) none =
        let two = or_parts (is_same c.caller own) (list_any (λ d. is_same d.caller own) calls) none in
        let here : owed_in n (changed change same own c).owes ≡ owed_in n c.owes = ap (λ (q : Bool). owed_in n (if q then change c else c).owes) two.0 in
        let rest = others_owe calls two.1 in
        omega (arith, here, rest)

    -- so do all where the change keeps what is owed of the pair
    pub all_owe : ((c : UnderWay K V) → owed_in n (change c).owes ≡ owed_in n c.owes) → (calls : List (UnderWay K V)) → owed_by n (map (changed change same own) calls) ≡ owed_by n calls
    all_owe keeps [] = refl
    all_owe keeps (c ∷ calls) =
        let here : owed_in n (changed change same own c).owes ≡ owed_in n c.owes = by (is_same c.caller own) in
        let rest = all_owe keeps calls in
        omega (arith, here, rest)
      where
        by : (q : Bool) → owed_in n (if q then change c else c).owes ≡ owed_in n c.owes
        by true = keeps c
        by false = refl

    -- the call of this caller owes what the change says
    pub its_owe : (calls : List (UnderWay K V)) → AreApart calls → (c : UnderWay K V) → find (λ d. is_same d.caller own) calls ≡ Some c
        → owed_by n (map (changed change same own) calls) + owed_in n c.owes ≡ owed_by n calls + owed_in n (change c).owes
    its_owe [] apart c is = absurd (cc is)
    its_owe (d ∷ calls) apart c is = by (is_same d.caller own) refl is (its_owe calls apart.1 c)
      where
        by : (q : Bool) → is_same d.caller own ≡ q → cond q (Some d) (find (λ x. is_same x.caller own) calls) ≡ Some c
            → (find (λ x. is_same x.caller own) calls ≡ Some c → owed_by n (map (changed change same own) calls) + owed_in n c.owes ≡ owed_by n calls + owed_in n (change c).owes)
            → owed_by n (map (changed change same own) (d ∷ calls)) + owed_in n c.owes ≡ owed_by n (d ∷ calls) + owed_in n (change c).owes
        by true e found rest =
            let it : d ≡ c = cc found in
            let name : d.caller ≡ own = is_same_is d.caller own e in
            let others = others_owe calls (subst (λ (l : List ℕ). list_any (λ x. is_same x.caller l) calls ≡ false) name apart.0) in
            let here : owed_in n (changed change same own d).owes ≡ owed_in n (change c).owes =
            ap (λ (q : Bool). owed_in n (if q then change d else d).owes) e ∙ ap (λ (x : UnderWay K V). owed_in n (change x).owes) it in
            let was : owed_in n d.owes ≡ owed_in n c.owes = ap owes it in
            omega (arith, others, here, was)
        by false e found rest =
            let here : owed_in n (changed change same own d).owes ≡ owed_in n d.owes = ap (λ (q : Bool). owed_in n (if q then change d else d).owes) e in
            let more = rest found in
            omega (arith, here, more)

-- what a call that is found owes is owed
pub owed_at_least : {K V : Type 0} (n : ℕ) (own : List ℕ) (calls : List (UnderWay K V)) (c : UnderWay K V) → find (λ d. is_same d.caller own) calls ≡ Some c
    → (m : ℕ) × (owed_by n calls ≡ owed_in n c.owes + m)
owed_at_least n own [] c is = absurd (cc is)
owed_at_least n own (d ∷ calls) c is = by (is_same d.caller own) is (owed_at_least n own calls c)
  where
    by : (q : Bool) → cond q (Some d) (find (λ x. is_same x.caller own) calls) ≡ Some c
        → (find (λ x. is_same x.caller own) calls ≡ Some c → (m : ℕ) × (owed_by n calls ≡ owed_in n c.owes + m)) → (m : ℕ) × (owed_by n (d ∷ calls) ≡ owed_in n c.owes + m)
    by true found rest = let it : d ≡ c = cc found in (owed_by n calls, ap (λ (x : UnderWay _ _). owed_in n x.owes + owed_by n calls) it)
    by false found rest = let more = rest found in (owed_in n d.owes + more.0, (let e = more.1 in omega (arith, e)))

-- a call that owes nothing may go

module _ {K V : Type 0} (own : List ℕ) where
  -- none of a caller comes where some go
  fewer_named : (caller : List ℕ) (calls : List (UnderWay K V)) → list_any (λ d. is_same d.caller caller) calls ≡ false → list_any (λ d. is_same d.caller caller) (without_call own calls) ≡ false
  fewer_named caller [] none = refl
  fewer_named caller (c ∷ calls) none = by (not (is_same c.caller own)) (fewer_named caller calls two.1)
    where
      two : (is_same c.caller caller ≡ false) × (list_any (λ d. is_same d.caller caller) calls ≡ false)
      two = or_parts (is_same c.caller caller) (list_any (λ d. is_same d.caller caller) calls) none

      by : (q : Bool) → list_any (λ d. is_same d.caller caller) (without_call own calls) ≡ false
          → list_any (λ d. is_same d.caller caller) (cond q (c ∷ without_call own calls) (without_call own calls)) ≡ false
      by true rest = or_from (is_same c.caller caller) (list_any (λ d. is_same d.caller caller) (without_call own calls)) two.0 rest
      by false rest = rest

  fewer_apart : (calls : List (UnderWay K V)) → AreApart calls → AreApart (without_call own calls)
  fewer_apart [] apart = tt
  fewer_apart (c ∷ calls) apart = by (not (is_same c.caller own)) (fewer_apart calls apart.1)
    where
      by : (q : Bool) → AreApart (without_call own calls) → AreApart (cond q (c ∷ without_call own calls) (without_call own calls))
      by true rest = (fewer_named c.caller calls apart.0, rest)
      by false rest = rest

  fewer_owe : (n : ℕ) (calls : List (UnderWay K V)) → AllByRecursion (λ c. is_same c.caller own ≡ true → c.owes ≡ []) calls → owed_by n (without_call own calls) ≡ owed_by n calls
  fewer_owe n [] none = refl
  fewer_owe n (c ∷ calls) none = by (is_same c.caller own) refl (fewer_owe n calls none.1)
    where
      Goal : Bool → Type 0
      Goal q = owed_by n (cond (not q) (c ∷ without_call own calls) (without_call own calls)) ≡ owed_by n (c ∷ calls)

      by : (q : Bool) → is_same c.caller own ≡ q → owed_by n (without_call own calls) ≡ owed_by n calls → Goal (is_same c.caller own)
      by true is rest = subst Goal (sym is) (let it : owed_in n c.owes ≡ 0 = ap (owed_in n) (none.0 is) in omega (arith, it, rest))
      by false is rest = subst Goal (sym is) (ap (λ (q : ℕ). owed_in n c.owes + q) rest)

pub ended_owe_nothing : (K V : Type 0) → EndedOweNothing K V
ended_owe_nothing K V own calls apart none = ((λ n. fewer_owe own n calls none), fewer_apart own calls apart)

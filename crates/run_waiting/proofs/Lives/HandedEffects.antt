-- What effects do to what is handed over: which of them hand nothing over, and leave what was handed over as it is; and which of those that waited wait still.
use Rattle.std.specs.Prelude.{◌≡◌, ◌⊎◌, ℕ, ◌≤◌, ◌==◌, Bool, true, false, not, ◌&&◌, ◌||◌, List, [], ◌∷◌, length, filter, map, Option, Some, if◌then◌else◌}
use Rattle.std.specs.List.{list_any}
use Rattle.std.proofs.Common.{refl, ap, sym, ◌∙◌, inl, inr, arith}
use Rattle.std.proofs.lemmas.Bool.{cases_eq, eq-eqb}
use Rattle.run_debts.specs.Given.RunsDeclared.effect.Effect.{Effect}
use Rattle.run_debts.specs.Given.RunsDeclared.effect.Effect.TheVariants.{Asked, PairMade, PairGivenUp, TableMade, TableGivenUp, Linked, Promoted, Copied, Stored, Replaced, Removed, Counted, Deferred, Retired, Reclaimed, Ended, Taken}
use Rattle.run_debts.specs.Given.RunsDeclared.effect.TableId.{TableId}
use Rattle.run_debts.specs.Given.RunsDeclared.effect.Thing.TheVariants.{APair, ATable}
use Rattle.run_debts.specs.Given.SchedulesEffects.{at_stage, in_map, place_by, with_effect, with_effects, AtEachEffect}
use Rattle.run_debts.specs.Given.SchedulesLists.{is_among, put}
use Rattle.run_debts.specs.Given.SchedulesMoment.{Place, Out, Handed as IsHanded, Behind, Left, GivenBack, Stage, IsLinked, IsRetired, IsReclaimed, IsTaken, TableThere, Deferral, Moment}
use Rattle.run_debts.specs.Given.SchedulesReclaims.{is_handed}
use Rattle.run_debts.specs.Given.SchedulesThings.{same_table}
use Rattle.run_debts.specs.Given.SchedulesViews.{behind, is_stage, is_retired}
use Rattle.run_debts.specs.Given.EffectsEffects.{carried}
use Rattle.run_debts.specs.Given.EffectsDeclared.role.Role.{Role}
use Rattle.run_debts.specs.Given.EffectsDeclared.role.Role.TheVariants as role
use Rattle.run_debts.specs.Given.FollowsFinds.{FindsMap}
use Rattle.run_debts.proofs.Given.FollowsAlike.{put_here, put_elsewhere}
use Rattle.run_debts.proofs.Given.SpotsElsewhere.{stored_grows}
use Rattle.run_debts.proofs.Given.SpotsHanding.{HandsNothing, AllHandNothing}
use Rattle.run_debts.proofs.Given.SpotsUnreclaimed.{any_either, same_itself, table_is}
use Rattle.run_debts.specs.Due.{retired_effects}
use Rattle.run_waiting.specs.Lives.Handed.{is_deferred}
use Rattle.run_debts.proofs.Given.General.{both_true as and_both, or_second as or_right}

-- the effect hands something over: it retires a pair or a table, or what waits behind a table as it reclaims that
abbrev pub IsHanding : Effect → Type 0
IsHanding (Retired x) = Unit {0}
IsHanding (Reclaimed (ATable t)) = Unit {0}
IsHanding _ = ⊥

abbrev pub NoneHands : List Effect → Type 0
NoneHands [] = Unit {0}
NoneHands (f ∷ effects) = (IsHanding f → ⊥) × NoneHands effects

-- what passes a test once it has changed passes another one before
any_back : {X : Type 0} (p q : X → Bool) (f : X → X) → ((x : X) → p (f x) ≡ true → q x ≡ true) → (xs : List X) → list_any p (map f xs) ≡ true → list_any q xs ≡ true
any_back p q f turn [] e = absurd (cc e)
any_back p q f turn (x ∷ xs) e = by (p (f x)) refl e (any_back p q f turn xs)
  where
    by : (z : Bool) → p (f x) ≡ z → (z || list_any p (map f xs)) ≡ true → (list_any p (map f xs) ≡ true → list_any q xs ≡ true) → (q x || list_any q xs) ≡ true
    by true is k rest = ap (λ (z : Bool). z || list_any q xs) (turn x is)
    by false is k rest = or_right (q x) (list_any q xs) (rest k)

-- the table is this one, and is retired
abbrev Test : TableId → TableThere → Bool
Test t x = same_table x.table t && is_retired x.stage

stage_back : (t u : TableId) (to : Stage) → is_retired to ≡ false → (xs : List TableThere) → list_any (Test t) (map (at_stage u to) xs) ≡ true → list_any (Test t) xs ≡ true
stage_back t u to none xs e = any_back (Test t) (Test t) (at_stage u to) turn xs e
  where
    turn : (x : TableThere) → Test t (at_stage u to x) ≡ true → Test t x ≡ true
    turn x is = by (same_table x.table u) is
      where
        by : (z : Bool) → Test t (if z then record x { stage = to } else x) ≡ true → Test t x ≡ true
        by true k = absurd (let both = (and_both (same_table x.table t) (is_retired to) k).1 in cc (both, none))
        by false k = k

linked_back : (t : TableId) (new : TableThere) (xs : List TableThere) → (Test t new ≡ true → ⊥) → (list_any (Test t) xs ≡ true) ⊎ (Test t new ≡ true) → list_any (Test t) xs ≡ true
linked_back t new xs none (inl is) = is
linked_back t new xs none (inr is) = absurd (none is)

-- a pair that is handed over then was so before
put_back : (n k : ℕ) (to : Place) (place : ℕ → Place) → is_handed to ≡ false → is_handed (put k to place n) ≡ true → is_handed (place n) ≡ true
put_back n k to place none is = elim (cases_eq n k) as (λ _. is_handed (place n) ≡ true) [
  | inl e ↦ absurd (let its = ap is_handed (put_here k to place n e) in cc (its, is, none))
  | inr ne ↦ sym (ap is_handed (put_elsewhere k to place n ne)) ∙ is
]

in_map_not : (o : Option ℕ) → is_handed (in_map o) ≡ false
in_map_not (Some k) = refl
in_map_not _ = refl

module _ {K V : Type 0} (caller : Option (List ℕ)) (acted : Option ℕ) where
  -- a table that is retired then was so before
  module _ (t : TableId) where
    retired_one : (f : Effect) (m : Moment K V) → (IsHanding f → ⊥) → is_stage is_retired t (with_effect caller acted f m) ≡ true → is_stage is_retired t m ≡ true
    retired_one (Linked u shape) m none is =
        let new : TableThere = record { table = u; shape = shape; stage = IsLinked } in
        linked_back t new m.tables (λ e. let both = (and_both (same_table u t) false e).1 in cc both) (any_either (Test t) m.tables new is)
    retired_one (Retired x) m none is = absurd (none tt)
    retired_one (Reclaimed (ATable u)) m none is = absurd (none tt)
    retired_one (Reclaimed (APair n)) m none is = is
    retired_one (Taken u) m none is = stage_back t u IsTaken refl m.tables is
    retired_one (Asked growth) m none is = is
    retired_one PairMade m none is = is
    retired_one PairGivenUp m none is = is
    retired_one (TableMade u) m none is = is
    retired_one (TableGivenUp u) m none is = is
    retired_one (Promoted u) m none is = is
    retired_one (Copied n s) m none is = is
    retired_one (Stored n s) m none is = is
    retired_one (Replaced n) m none is = is
    retired_one (Removed n) m none is = is
    retired_one (Counted s) m none is = is
    retired_one (Deferred n u) m none is = is
    retired_one (Ended n) m none is = is

    pub retired_back : (effects : List Effect) (m : Moment K V) → NoneHands effects → is_stage is_retired t (with_effects caller acted effects m) ≡ true → is_stage is_retired t m ≡ true
    retired_back [] m none is = is
    retired_back (f ∷ effects) m none is = retired_one f m none.0 (retired_back effects (with_effect caller acted f m) none.1 is)

    -- also where one is reclaimed
    pub reclaimed_back : (u : TableId) (m : Moment K V) → is_stage is_retired t (with_effects caller acted (Reclaimed (ATable u) ∷ []) m) ≡ true → is_stage is_retired t m ≡ true
    reclaimed_back u m is = stage_back t u IsReclaimed refl m.tables is

    -- or where another one is retired
    pub retired_other : (u : TableId) → same_table u t ≡ false → (m : Moment K V) → is_stage is_retired t (with_effects caller acted (Retired (ATable u) ∷ []) m) ≡ true → is_stage is_retired t m ≡ true
    retired_other u apart m is = any_back (Test t) (Test t) (at_stage u IsRetired) turn m.tables is
      where
        turn : (x : TableThere) → Test t (at_stage u IsRetired x) ≡ true → Test t x ≡ true
        turn x k = by (same_table x.table u) refl k
          where
            by : (z : Bool) → same_table x.table u ≡ z → Test t (if z then record x { stage = IsRetired } else x) ≡ true → Test t x ≡ true
            by true here e =
                absurd (let both : same_table u t ≡ true = ap (λ (y : TableId). same_table y t) (sym (table_is x.table u here)) ∙ (and_both (same_table x.table t) true e).0 in cc (both, apart))
            by false here e = e

    -- and that one is retired no more
    pub reclaimed_not : (m : Moment K V) → is_stage is_retired t (with_effects caller acted (Reclaimed (ATable t) ∷ []) m) ≡ true → ⊥
    reclaimed_not m is = none_any m.tables (any_back (Test t) (λ x. false) (at_stage t IsReclaimed) turn m.tables is)
      where
        none_any : (xs : List TableThere) → list_any (λ x. false) xs ≡ true → ⊥
        none_any [] e = cc e
        none_any (x ∷ xs) e = none_any xs e

        turn : (x : TableThere) → Test t (at_stage t IsReclaimed x) ≡ true → false ≡ true
        turn x k = by (same_table x.table t) refl k
          where
            by : (z : Bool) → same_table x.table t ≡ z → Test t (if z then record x { stage = IsReclaimed } else x) ≡ true → false ≡ true
            by true here e = absurd (let both = (and_both (same_table x.table t) false e).1 in cc both)
            by false here e = absurd (let both = (and_both (same_table x.table t) (is_retired x.stage) e).0 in cc (both, here))

  -- a pair that is handed over then was so before
  module _ (n : ℕ) where
    handed_one : (f : Effect) (m : Moment K V) → (IsHanding f → ⊥) → is_handed (place_by acted m.deferred f m.place n) ≡ true → is_handed (m.place n) ≡ true
    handed_one (Stored k s) m none is = put_back n k (in_map acted) m.place (in_map_not acted) is
    handed_one (Replaced k) m none is = put_back n k Out m.place refl is
    handed_one (Removed k) m none is = put_back n k Out m.place refl is
    handed_one (Deferred k t) m none is = put_back n k Behind m.place refl is
    handed_one (Retired x) m none is = absurd (none tt)
    handed_one (Reclaimed (APair k)) m none is = put_back n k GivenBack m.place refl is
    handed_one (Reclaimed (ATable t)) m none is = absurd (none tt)
    handed_one (Ended k) m none is = put_back n k GivenBack m.place refl is
    handed_one (Taken t) m none is = by (is_among n (behind t m.deferred)) is
      where
        by : (q : Bool) → is_handed (if q then Left else m.place n) ≡ true → is_handed (m.place n) ≡ true
        by true e = absurd (cc e)
        by false e = e
    handed_one (Asked growth) m none is = is
    handed_one PairMade m none is = is
    handed_one PairGivenUp m none is = is
    handed_one (TableMade u) m none is = is
    handed_one (TableGivenUp u) m none is = is
    handed_one (Linked u shape) m none is = is
    handed_one (Promoted u) m none is = is
    handed_one (Copied k s) m none is = is
    handed_one (Counted s) m none is = is

    pub handed_back : (effects : List Effect) (m : Moment K V) → NoneHands effects → is_handed ((with_effects caller acted effects m).place n) ≡ true → is_handed (m.place n) ≡ true
    handed_back [] m none is = is
    handed_back (f ∷ effects) m none is = handed_one f m none.0 (handed_back effects (with_effect caller acted f m) none.1 is)

  -- what was handed over is so still after effects that hand nothing over, and find their pairs in the map
  module _ (map_number : ℕ) where
    still_one : (f : Effect) (m : Moment K V) → HandsNothing f → FindsMap map_number m f → (n : ℕ) → n ≤ length m.stored → is_handed (m.place n) ≡ true → is_handed (place_by acted m.deferred f m.place n) ≡ true
    still_one (Deferred k t) m hands finds n l is = absurd hands
    still_one (Retired x) m hands finds n l is = absurd hands
    still_one (Reclaimed x) m hands finds n l is = absurd hands
    still_one (Ended k) m hands finds n l is = absurd hands
    still_one (Taken t) m hands finds n l is = absurd hands
    still_one (Stored k s) m hands finds n l is = ap is_handed (put_elsewhere k (in_map acted) m.place n (λ e. let at_k = finds.0 in omega (arith, e, at_k, l))) ∙ is
    still_one (Replaced k) m hands finds n l is =
        ap is_handed (put_elsewhere k Out m.place n (λ e. (let both : is_handed (m.place n) ≡ false = ap is_handed (ap m.place e ∙ finds) in cc (both, is)))) ∙ is
    still_one (Removed k) m hands finds n l is =
        ap is_handed (put_elsewhere k Out m.place n (λ e. (let both : is_handed (m.place n) ≡ false = ap is_handed (ap m.place e ∙ finds) in cc (both, is)))) ∙ is
    still_one (Asked growth) m hands finds n l is = is
    still_one PairMade m hands finds n l is = is
    still_one PairGivenUp m hands finds n l is = is
    still_one (TableMade t) m hands finds n l is = is
    still_one (TableGivenUp t) m hands finds n l is = is
    still_one (Linked t shape) m hands finds n l is = is
    still_one (Promoted t) m hands finds n l is = is
    still_one (Copied k s) m hands finds n l is = is
    still_one (Counted s) m hands finds n l is = is

    pub still_handed : (effects : List Effect) (m : Moment K V) → AllHandNothing effects → AtEachEffect (FindsMap map_number) caller acted effects m
        → (n : ℕ) → n ≤ length m.stored → is_handed (m.place n) ≡ true → is_handed ((with_effects caller acted effects m).place n) ≡ true
    still_handed [] m hands finds n l is = is
    still_handed (f ∷ effects) m hands finds n l is =
        still_handed effects (with_effect caller acted f m) hands.1 finds.1 n (let more = stored_grows caller acted (f ∷ []) m in omega (arith, l, more)) (still_one f m hands.0 finds.0 n l is)

-- effects that hand nothing over, as calls have them
pub hands_none : (effects : List Effect) → AllHandNothing effects → NoneHands effects
hands_none [] all = tt
hands_none (f ∷ effects) all = (one f all.0, hands_none effects all.1)
  where
    one : (g : Effect) → HandsNothing g → IsHanding g → ⊥
    one (Retired x) hands its = hands
    one (Reclaimed x) hands its = hands
    one _ hands its = its

-- what waits behind some table waits behind this one, or behind another one
pub deferred_split : (n : ℕ) (t : TableId) (ds : List Deferral) → is_deferred n ds ≡ true
    → (is_among n (behind t ds) ≡ true) ⊎ (is_deferred n (filter (λ d. not (same_table d.behind t)) ds) ≡ true)
deferred_split n t [] e = absurd (cc e)
deferred_split n t (d ∷ ds) e = by (same_table d.behind t) (n == d.pair) refl e (deferred_split n t ds)
  where
    Rest : Type 0
    Rest = is_deferred n ds ≡ true → (is_among n (behind t ds) ≡ true) ⊎ (is_deferred n (filter (λ x. not (same_table x.behind t)) ds) ≡ true)

    Then : Bool → Type 0
    Then q =
        (is_among n (map (λ x. x.pair) (if q then d ∷ filter (λ x. same_table x.behind t) ds else filter (λ x. same_table x.behind t) ds)) ≡ true)
        ⊎ (is_deferred n (if not q then d ∷ filter (λ x. not (same_table x.behind t)) ds else filter (λ x. not (same_table x.behind t)) ds) ≡ true)

    by : (q r : Bool) → (n == d.pair) ≡ r → (r || is_deferred n ds) ≡ true → Rest → Then q
    by true true is k rest = inl (ap (λ (z : Bool). z || is_among n (behind t ds)) is)
    by false true is k rest = inr (ap (λ (z : Bool). z || is_deferred n (filter (λ x. not (same_table x.behind t)) ds)) is)
    by true false is k rest = elim (rest k) as (λ _. Then true) [
      | inl its ↦ inl (or_right (n == d.pair) (is_among n (behind t ds)) its)
      | inr other ↦ inr other
    ]
    by false false is k rest = elim (rest k) as (λ _. Then false) [
      | inl its ↦ inl its
      | inr other ↦ inr (or_right (n == d.pair) (is_deferred n (filter (λ x. not (same_table x.behind t)) ds)) other)
    ]

-- it waits behind a table that is named
pub deferred_at : (n : ℕ) (ds : List Deferral) → is_deferred n ds ≡ true → (t : TableId) × (is_among n (behind t ds) ≡ true)
deferred_at n [] e = absurd (cc e)
deferred_at n (d ∷ ds) e = by (n == d.pair) refl e (deferred_at n ds)
  where
    Found : Type 0
    Found = (t : TableId) × (is_among n (behind t (d ∷ ds)) ≡ true)

    further : (t : TableId) → is_among n (behind t ds) ≡ true → is_among n (behind t (d ∷ ds)) ≡ true
    further t its = at (same_table d.behind t)
      where
        at : (q : Bool) → is_among n (map (λ x. x.pair) (if q then d ∷ filter (λ x. same_table x.behind t) ds else filter (λ x. same_table x.behind t) ds)) ≡ true
        at true = or_right (n == d.pair) (is_among n (behind t ds)) its
        at false = its

    here : (n == d.pair) ≡ true → (q : Bool) → same_table d.behind d.behind ≡ q → q ≡ true
        → is_among n (map (λ x. x.pair) (if q then d ∷ filter (λ x. same_table x.behind d.behind) ds else filter (λ x. same_table x.behind d.behind) ds)) ≡ true
    here is true same so = ap (λ (z : Bool). z || is_among n (behind d.behind ds)) is
    here is false same so = absurd (cc so)

    by : (r : Bool) → (n == d.pair) ≡ r → (r || is_deferred n ds) ≡ true → (is_deferred n ds ≡ true → (t : TableId) × (is_among n (behind t ds) ≡ true)) → Found
    by true is k rest = (d.behind, here is (same_table d.behind d.behind) refl (same_itself d.behind))
    by false is k rest = (let found = rest k in (found.0, further found.0 found.1))

-- as the row of a call retires a block, or puts one behind a table
module _ {K V : Type 0} (caller : Option (List ℕ)) (acted : Option ℕ) (m : Moment K V) (n : ℕ) where
  -- it is handed over, or waits behind a table
  abbrev pub Away : List Effect → Type 0
  Away fs = (is_handed ((with_effects caller acted fs m).place n) ≡ true) ⊎ (is_deferred n (with_effects caller acted fs m).deferred ≡ true)

  pub put_away : (t : TableId) (r : Role) → is_handed (m.place n) ≡ true → Away (carried t r)
  put_away t (role.Pair k) so = elim (cases_eq n k) as (λ _. Away (Deferred k t ∷ [])) [
    | inl e ↦ inr (ap (λ (z : Bool). z || is_deferred n m.deferred) (eq-eqb n k e))
    | inr ne ↦ inl (ap is_handed (put_elsewhere k Behind m.place n ne) ∙ so)
  ]
  put_away t role.Free so = inl so
  put_away t (role.OwnPair j) so = inl so
  put_away t (role.OwnTable turn shape) so = inl so
  put_away t (role.Table x len) so = inl so
  put_away t (role.Counter of) so = inl so

  pub retired_away : (r : Role) → is_handed (m.place n) ≡ true → Away (retired_effects r)
  retired_away (role.Pair k) so = elim (cases_eq n k) as (λ _. Away (Retired (APair k) ∷ [])) [
    | inl e ↦ inl (ap is_handed (put_here k IsHanded m.place n e))
    | inr ne ↦ inl (ap is_handed (put_elsewhere k IsHanded m.place n ne) ∙ so)
  ]
  retired_away (role.Table x len) so = inl so
  retired_away role.Free so = inl so
  retired_away (role.OwnPair j) so = inl so
  retired_away (role.OwnTable turn shape) so = inl so
  retired_away (role.Counter of) so = inl so

  -- and what waited does so
  pub list_put : (t : TableId) (r : Role) → is_deferred n m.deferred ≡ true → is_deferred n (with_effects caller acted (carried t r) m).deferred ≡ true
  list_put t (role.Pair k) so = or_right (n == k) (is_deferred n m.deferred) so
  list_put t role.Free so = so
  list_put t (role.OwnPair j) so = so
  list_put t (role.OwnTable turn shape) so = so
  list_put t (role.Table x len) so = so
  list_put t (role.Counter of) so = so

  pub list_retired : (r : Role) → is_deferred n m.deferred ≡ true → is_deferred n (with_effects caller acted (retired_effects r) m).deferred ≡ true
  list_retired (role.Pair k) so = so
  list_retired (role.Table x len) so = so
  list_retired role.Free so = so
  list_retired (role.OwnPair j) so = so
  list_retired (role.OwnTable turn shape) so = so
  list_retired (role.Counter of) so = so

-- Effects that find what they must leave each pair that has left its map in one place, once.
use Rattle.std.specs.Prelude.{◌≡◌, ℕ, ◌+◌, ◌≤◌, ◌==◌, Bool, true, false, List, [], ◌∷◌, ◌++◌, length, Option, Some, None}
use Rattle.std.proofs.Common.{refl, ap, sym, subst, ◌∙◌, arith, inl, inr, append-nil}
use Rattle.std.proofs.lemmas.Bool.{cases_eq}
use Rattle.run_executor.specs.Given.RunsLifeCycle.{times}
use Rattle.run_executor.specs.Given.RunsDeclared.effect.Effect.{Effect}
use Rattle.run_executor.specs.Given.RunsDeclared.effect.Effect.TheVariants as effect
use Rattle.run_executor.specs.Given.RunsDeclared.effect.Spot.{Spot}
use Rattle.run_executor.specs.Given.RunsDeclared.effect.TableId.{TableId}
use Rattle.run_executor.specs.Given.RunsDeclared.effect.Thing.TheVariants.{APair, ATable}
use Rattle.run_executor.specs.Given.SchedulesEffects.{in_map, place_by, deferred_by, pairs_back, passed, call_by, calls_by, with_effect}
use Rattle.run_executor.specs.Given.SchedulesEntry.{ByCall}
use Rattle.run_executor.specs.Given.SchedulesLists.{is_in, put, without_one}
use Rattle.run_executor.specs.Given.SchedulesMoment.{Place, Unborn, InMap, Out, Handed, Behind, Left, GivenBack, UnderWay, Moment}
use Rattle.run_executor.specs.Given.SchedulesThings.{same_thing}
use Rattle.run_executor.specs.Given.SchedulesViews.{call_of, first_of, is_in_a_map}
use Rattle.run_executor.proofs.Given.FollowsAlike.{put_elsewhere}
use Rattle.run_executor.proofs.Given.FollowsCalls.{changed_same}
use Rattle.run_executor.proofs.Given.SpotsElsewhere.{stored_grows}
use Rattle.run_finds.specs.Waiting.{is_unborn, is_out, is_behind_one, is_back, is_let_go, once_if, owed_in, put_in, owed_by, AreApart, PairsArePlaced, HasPairPending, TakesOut, FindsPlaced, PlacedAtFirst, EffectsPreservePlaced, OthersPreservePlaced}
use Rattle.run_finds.proofs.Counted.{Counts, gains, loses, stays, lets_go, others_stay, born_stay}
use Rattle.run_finds.proofs.Owed.{due_keeps, owed_append, owed_without, table_without, passed_none, owed_there, apart_still, all_owe, its_owe, owed_at_least}
use Rattle.run_executor.proofs.Given.General.{and_nothing as plus_none}

pub placed_at_first : (K V : Type 0) → PlacedAtFirst K V
placed_at_first K V = record { owed = λ n. refl; put = λ n. refl; back = λ n. refl; stored = λ n e. absurd (cc e); apart = tt }

pub others_keep_placed : (K V : Type 0) → OthersPreservePlaced K V
others_keep_placed K V m v h place deferred given stored owed apart = record {
  owed = λ n. owed n ∙ (h.owed n ∙ sym (ap (λ (p : Place). once_if (is_out p)) (place n)));
  put = λ n. ap (put_in n) deferred ∙ (h.put n ∙ sym (ap (λ (p : Place). once_if (is_behind_one p)) (place n)));
  back = λ n. ap (times n) given ∙ (h.back n ∙ sym (ap (λ (p : Place). once_if (is_back p)) (place n)));
  stored = λ n e. subst (λ (l : List (K × V)). n ≤ length l) (sym stored) (h.stored n (sym (ap is_unborn (place n)) ∙ e));
  apart = apart;
}

other_way : (x y : ℕ) → x + y ≡ y + x
other_way x y = omega arith

-- a number that comes last
one_last : (k n : ℕ) (xs : List ℕ) → times k (xs ++ n ∷ []) ≡ times k xs + once_if (k == n)
one_last k n [] = other_way (once_if (k == n)) 0
one_last k n (x ∷ xs) = let rest = one_last k n xs in omega (arith, rest)

-- what a place is

is_the_one : (p : Place) → is_behind_one p ≡ true → p ≡ Behind
is_the_one Behind e = refl
is_the_one Unborn e = absurd (cc e)
is_the_one (InMap map) e = absurd (cc e)
is_the_one Out e = absurd (cc e)
is_the_one Handed e = absurd (cc e)
is_the_one Left e = absurd (cc e)
is_the_one GivenBack e = absurd (cc e)

-- one at such a place is not with its call, behind no table, not back, and was stored, as far as this says
pub record IsNone (p : Place) : Type 0 where
  pub out : is_out p ≡ false
  pub put : is_behind_one p ≡ false
  pub back : is_back p ≡ false

unborn_is_none : (p : Place) → is_unborn p ≡ true → IsNone p
unborn_is_none Unborn e = record { out = refl; put = refl; back = refl }
unborn_is_none (InMap map) e = absurd (cc e)
unborn_is_none Out e = absurd (cc e)
unborn_is_none Handed e = absurd (cc e)
unborn_is_none Behind e = absurd (cc e)
unborn_is_none Left e = absurd (cc e)
unborn_is_none GivenBack e = absurd (cc e)

in_map_is_none : (p : Place) → is_in_a_map p ≡ true → IsNone p × (is_unborn p ≡ false)
in_map_is_none (InMap map) e = (record { out = refl; put = refl; back = refl }, refl)
in_map_is_none Unborn e = absurd (cc e)
in_map_is_none Out e = absurd (cc e)
in_map_is_none Handed e = absurd (cc e)
in_map_is_none Behind e = absurd (cc e)
in_map_is_none Left e = absurd (cc e)
in_map_is_none GivenBack e = absurd (cc e)

let_go_is_none : (p : Place) → is_let_go p ≡ true → IsNone p × (is_unborn p ≡ false)
let_go_is_none Handed e = (record { out = refl; put = refl; back = refl }, refl)
let_go_is_none Left e = (record { out = refl; put = refl; back = refl }, refl)
let_go_is_none Unborn e = absurd (cc e)
let_go_is_none (InMap map) e = absurd (cc e)
let_go_is_none Out e = absurd (cc e)
let_go_is_none Behind e = absurd (cc e)
let_go_is_none GivenBack e = absurd (cc e)

-- one that is out
pub record IsJustOut (p : Place) : Type 0 where
  pub out : is_out p ≡ true
  pub put : is_behind_one p ≡ false
  pub back : is_back p ≡ false
  pub born : is_unborn p ≡ false

out_is : (p : Place) → is_out p ≡ true → IsJustOut p
out_is Out e = record { out = refl; put = refl; back = refl; born = refl }
out_is Unborn e = absurd (cc e)
out_is (InMap map) e = absurd (cc e)
out_is Handed e = absurd (cc e)
out_is Behind e = absurd (cc e)
out_is Left e = absurd (cc e)
out_is GivenBack e = absurd (cc e)

new_is_none : (acted : Option ℕ) → IsNone (in_map acted)
new_is_none None = record { out = refl; put = refl; back = refl }
new_is_none (Some map) = record { out = refl; put = refl; back = refl }

-- the effect changes nothing of what is owed of pairs
abbrev pub keeps_owed : Effect → Bool
keeps_owed (effect.Replaced n) = false
keeps_owed (effect.Removed n) = false
keeps_owed (effect.Deferred n t) = false
keeps_owed (effect.Retired (APair n)) = false
keeps_owed _ = true

module _ {K V : Type 0} where
  pub its_same : (m : Moment K V) (f : Effect) (c : UnderWay K V) (n : ℕ) → keeps_owed f ≡ true → owed_in n (call_by m f c).owes ≡ owed_in n c.owes
  its_same m (effect.Asked growth) c n e = refl
  its_same m effect.PairMade c n e = refl
  its_same m effect.PairGivenUp c n e = refl
  its_same m (effect.TableMade t) c n e = refl
  its_same m (effect.TableGivenUp t) c n e = refl
  its_same m (effect.Linked t shape) c n e = refl
  its_same m (effect.Promoted t) c n e =
      let more = owed_append n c.owes (passed t.map (first_of t.map m) t.turn) in
      let none = passed_none n t.map (first_of t.map m) t.turn in
      omega (arith, more, none)
  its_same m (effect.Copied k s) c n e = refl
  its_same m (effect.Stored k s) c n e = ap (owed_in n) (due_keeps c.call c c.replacing k).0
  its_same m (effect.Replaced k) c n e = absurd (cc e)
  its_same m (effect.Removed k) c n e = absurd (cc e)
  its_same m (effect.Counted s) c n e = refl
  its_same m (effect.Deferred k t) c n e = absurd (cc e)
  its_same m (effect.Retired (APair k)) c n e = absurd (cc e)
  its_same m (effect.Retired (ATable t)) c n e = table_without n t c.owes
  its_same m (effect.Reclaimed x) c n e = refl
  its_same m (effect.Ended k) c n e = refl
  its_same m (effect.Taken t) c n e = refl

  module _ (acted : Option ℕ) (m : Moment K V) (h : PairsArePlaced m) where
    owed_same : (caller : Option (List ℕ)) (f : Effect) (n : ℕ) → keeps_owed f ≡ true → owed_by n (calls_by caller (call_by m f) m.calls) ≡ owed_by n m.calls
    owed_same None f n e = refl
    owed_same (Some own) f n e = all_owe own (call_by m f) (changed_same m f) n (λ c. its_same m f c n e) m.calls

    apart_after : (caller : Option (List ℕ)) (f : Effect) → AreApart (calls_by caller (call_by m f) m.calls)
    apart_after None f = h.apart
    apart_after (Some own) f = apart_still own (call_by m f) (changed_same m f) m.calls h.apart

    back_same : (n : ℕ) → times n (m.given_back ++ []) ≡ times n m.given_back
    back_same n = ap (times n) (append-nil m.given_back)

    back_more : (n k : ℕ) → times k (m.given_back ++ n ∷ []) ≡ times k m.given_back + once_if (k == n)
    back_more n k = one_last k n m.given_back

    put_more : (n : ℕ) (t : TableId) (k : ℕ) → put_in k (record { pair = n; behind = t } ∷ m.deferred) ≡ put_in k m.deferred + once_if (k == n)
    put_more n t k = other_way (once_if (k == n)) (put_in k m.deferred)

    more_stored : (caller : Option (List ℕ)) (f : Effect) (k : ℕ) → k ≤ length m.stored → k ≤ length (with_effect caller acted f m).stored
    more_stored caller f k l = let more : length m.stored ≤ length (with_effect caller acted f m).stored = stored_grows caller acted (f ∷ []) m in omega (arith, l, more)

    -- pairs that are put elsewhere were stored
    put_stored : (n : ℕ) (to : Place) → is_unborn (m.place n) ≡ false → (k : ℕ) → is_unborn (put n to m.place k) ≡ false → k ≤ length m.stored
    put_stored n to born k now = elim (cases_eq k n) as (λ _. k ≤ length m.stored) [
      | inl e ↦ subst (λ (q : ℕ). q ≤ length m.stored) (sym e) (h.stored n born)
      | inr ne ↦ h.stored k (sym (ap is_unborn (put_elsewhere n to m.place k ne)) ∙ now)
    ]

    -- an effect that moves no pair
    quiet : (caller : Option (List ℕ)) (f : Effect) → keeps_owed f ≡ true → place_by acted m.deferred f m.place ≡ m.place → deferred_by f m.deferred ≡ m.deferred → pairs_back f ≡ []
        → PairsArePlaced (with_effect caller acted f m)
    quiet caller f keeps place deferred back = record {
      owed = λ n. owed_same caller f n keeps ∙ (h.owed n ∙ sym (ap (λ (p : ℕ → Place). once_if (is_out (p n))) place));
      put = λ n. ap (put_in n) deferred ∙ (h.put n ∙ sym (ap (λ (p : ℕ → Place). once_if (is_behind_one (p n))) place));
      back = λ n. ap (λ (l : List ℕ). times n (m.given_back ++ l)) back ∙ (back_same n ∙ (h.back n ∙ sym (ap (λ (p : ℕ → Place). once_if (is_back (p n))) place)));
      stored = λ n e. more_stored caller f n (h.stored n (sym (ap (λ (p : ℕ → Place). is_unborn (p n)) place) ∙ e));
      apart = apart_after caller f;
    }

    -- a pair is stored under the next number
    stores : (caller : Option (List ℕ)) (n : ℕ) (s : Spot) → FindsPlaced caller m (effect.Stored n s) → PairsArePlaced (with_effect caller acted (effect.Stored n s) m)
    stores caller n s finds = record {
      owed = stays is_out m.place n (in_map acted) (λ k. owed_by k m.calls) (λ k. owed_by k (calls_by caller (call_by m f) m.calls)) h.owed new.out was.out (λ k. owed_same caller f k refl);
      put = stays is_behind_one m.place n (in_map acted) (λ k. put_in k m.deferred) (λ k. put_in k m.deferred) h.put new.put was.put (λ k. refl);
      back = stays is_back m.place n (in_map acted) (λ k. times k m.given_back) (λ k. times k (m.given_back ++ [])) h.back new.back was.back back_same;
      stored = λ k now. elim (cases_eq k n) as (λ _. k ≤ length (with_effect caller acted f m).stored) [
        | inl e ↦ (let last : length (with_effect caller acted f m).stored ≡ n = finds.1 in omega (arith, e, last))
        | inr ne ↦ more_stored caller f k (h.stored k (sym (ap is_unborn (put_elsewhere n (in_map acted) m.place k ne)) ∙ now))
      ];
      apart = apart_after caller f;
    }
      where
        f : Effect
        f = effect.Stored n s

        new : IsNone (in_map acted)
        new = new_is_none acted

        was : IsNone (m.place n)
        was = unborn_is_none (m.place n) (by (is_unborn (m.place n)) refl)
          where
            by : (q : Bool) → is_unborn (m.place n) ≡ q → is_unborn (m.place n) ≡ true
            by true e = e
            by false e = absurd (let l = h.stored n e in let next = finds.0 in omega (arith, l, next))

    -- a call takes a pair out of a map
    module _ (own : List ℕ) (f : Effect) (n : ℕ) (c : UnderWay K V) (c_is : call_of own m ≡ Some c) where
      takes : (call_by m f c).owes ≡ c.owes ++ APair n ∷ [] → is_in_a_map (m.place n) ≡ true → Counts is_out (put n Out m.place) (λ k. owed_by k (calls_by (Some own) (call_by m f) m.calls))
      takes owes there = gains is_out m.place n Out (λ k. owed_by k m.calls) (λ k. owed_by k (calls_by (Some own) (call_by m f) m.calls)) h.owed refl (in_map_is_none (m.place n) there).0.out more
        where
          more : (k : ℕ) → owed_by k (calls_by (Some own) (call_by m f) m.calls) ≡ owed_by k m.calls + once_if (k == n)
          more k =
              let its = its_owe own (call_by m f) (changed_same m f) k m.calls h.apart c c_is in
              let all : owed_in k (call_by m f c).owes ≡ owed_in k c.owes + owed_in k (APair n ∷ []) = ap (owed_in k) owes ∙ owed_append k c.owes (APair n ∷ []) in
              let one : owed_in k (APair n ∷ []) ≡ once_if (k == n) = plus_none (once_if (k == n)) in
              omega (arith, its, all, one)

      -- it owes a pair, which is out then
      is_owed : is_in same_thing (APair n) c.owes ≡ true → IsJustOut (m.place n)
      is_owed there = out_is (m.place n) (by (is_out (m.place n)) refl)
        where
          by : (q : Bool) → is_out (m.place n) ≡ q → is_out (m.place n) ≡ true
          by true e = e
          by false e = absurd (
              let some = owed_there n c.owes there in let one = some.1 in
              let all = owed_at_least n own m.calls c c_is in let its = all.1 in
              let none : owed_by n m.calls ≡ 0 = h.owed n ∙ ap once_if e in
              omega (arith, one, its, none)
              )

      -- and hands it over
      hands : (call_by m f c).owes ≡ without_one same_thing (APair n) c.owes → is_in same_thing (APair n) c.owes ≡ true → (to : Place) → is_out to ≡ false
          → Counts is_out (put n to m.place) (λ k. owed_by k (calls_by (Some own) (call_by m f) m.calls))
      hands owes there to is_not = loses is_out m.place n to (λ k. owed_by k m.calls) (λ k. owed_by k (calls_by (Some own) (call_by m f) m.calls)) h.owed is_not (is_owed there).out fewer
        where
          fewer : (k : ℕ) → owed_by k (calls_by (Some own) (call_by m f) m.calls) + once_if (k == n) ≡ owed_by k m.calls
          fewer k =
              let its = its_owe own (call_by m f) (changed_same m f) k m.calls h.apart c c_is in
              let less = owed_without n k c.owes there in
              let now : owed_in k (call_by m f c).owes ≡ owed_in k (without_one same_thing (APair n) c.owes) = ap (owed_in k) owes in
              let one : once_if (same_thing (APair k) (APair n)) ≡ once_if (k == n) = refl in
              omega (arith, its, less, now, one)

    taken_out : (caller : Option (List ℕ)) (n : ℕ) (f : Effect) → TakesOut caller m n → ((c : UnderWay K V) → (call_by m f c).owes ≡ c.owes ++ APair n ∷ []) → place_by acted m.deferred f m.place ≡ put n Out m.place
        → deferred_by f m.deferred ≡ m.deferred → pairs_back f ≡ [] → PairsArePlaced (with_effect caller acted f m)
    taken_out None n f finds owes place deferred back = absurd finds
    taken_out (Some own) n f finds owes place deferred back = by (call_of own m) refl finds
      where
        Placed : (ℕ → Place) → Type 0
        Placed p = Counts is_out p (λ k. owed_by k (calls_by (Some own) (call_by m f) m.calls)) × Counts is_behind_one p (λ k. put_in k (deferred_by f m.deferred))
            × Counts is_back p (λ k. times k (m.given_back ++ pairs_back f)) × ((k : ℕ) → is_unborn (p k) ≡ false → k ≤ length m.stored)

        by : (o : Option (UnderWay K V)) → call_of own m ≡ o → ByCall (λ c. is_in_a_map (m.place n) ≡ true) o → PairsArePlaced (with_effect (Some own) acted f m)
        by None is none = absurd none
        by (Some c) is there =
            let was = in_map_is_none (m.place n) there in
            let all = subst Placed (sym place) (
              takes own f n c is (owes c) there,
              stays is_behind_one m.place n Out (λ k. put_in k m.deferred) (λ k. put_in k (deferred_by f m.deferred)) h.put refl was.0.put (λ k. ap (put_in k) deferred),
              stays is_back m.place n Out (λ k. times k m.given_back) (λ k. times k (m.given_back ++ pairs_back f)) h.back refl was.0.back (λ k. ap (λ (l : List ℕ). times k (m.given_back ++ l)) back ∙ back_same k),
              put_stored n Out was.1,
            ) in
            record { owed = all.0; put = all.1; back = all.2; stored = λ k e. more_stored (Some own) f k (all.3 k e); apart = apart_after (Some own) f }

    -- a call puts a pair behind a table
    defers : (caller : Option (List ℕ)) (n : ℕ) (t : TableId) → HasPairPending caller m n → PairsArePlaced (with_effect caller acted (effect.Deferred n t) m)
    defers None n t finds = absurd finds
    defers (Some own) n t finds = by (call_of own m) refl finds
      where
        f : Effect
        f = effect.Deferred n t

        by : (o : Option (UnderWay K V)) → call_of own m ≡ o → ByCall (λ c. is_in same_thing (APair n) c.owes ≡ true) o → PairsArePlaced (with_effect (Some own) acted f m)
        by None is none = absurd none
        by (Some c) is there =
            let was = is_owed own f n c is there in record {
              owed = hands own f n c is refl there Behind refl;
              put = gains is_behind_one m.place n Behind (λ k. put_in k m.deferred) (λ k. put_in k (deferred_by f m.deferred)) h.put refl was.put (put_more n t);
              back = stays is_back m.place n Behind (λ k. times k m.given_back) (λ k. times k (m.given_back ++ [])) h.back refl was.back back_same;
              stored = λ k e. more_stored (Some own) f k (put_stored n Behind was.born k e);
              apart = apart_after (Some own) f;
            }

    -- or retires it
    retires : (caller : Option (List ℕ)) (n : ℕ) → HasPairPending caller m n → PairsArePlaced (with_effect caller acted (effect.Retired (APair n)) m)
    retires None n finds = absurd finds
    retires (Some own) n finds = by (call_of own m) refl finds
      where
        f : Effect
        f = effect.Retired (APair n)

        by : (o : Option (UnderWay K V)) → call_of own m ≡ o → ByCall (λ c. is_in same_thing (APair n) c.owes ≡ true) o → PairsArePlaced (with_effect (Some own) acted f m)
        by None is none = absurd none
        by (Some c) is there =
            let was = is_owed own f n c is there in record {
              owed = hands own f n c is refl there Handed refl;
              put = stays is_behind_one m.place n Handed (λ k. put_in k m.deferred) (λ k. put_in k m.deferred) h.put refl was.put (λ k. refl);
              back = stays is_back m.place n Handed (λ k. times k m.given_back) (λ k. times k (m.given_back ++ [])) h.back refl was.back back_same;
              stored = λ k e. more_stored (Some own) f k (put_stored n Handed was.born k e);
              apart = apart_after (Some own) f;
            }

    -- a pair is given back
    gives_back : (caller : Option (List ℕ)) (n : ℕ) (f : Effect) → keeps_owed f ≡ true → IsNone (m.place n) × (is_unborn (m.place n) ≡ false) → place_by acted m.deferred f m.place ≡ put n GivenBack m.place
        → deferred_by f m.deferred ≡ m.deferred → pairs_back f ≡ n ∷ [] → PairsArePlaced (with_effect caller acted f m)
    gives_back caller n f keeps was place deferred back =
        let all = subst Placed (sym place) (
          stays is_out m.place n GivenBack (λ k. owed_by k m.calls) (λ k. owed_by k (calls_by caller (call_by m f) m.calls)) h.owed refl was.0.out (λ k. owed_same caller f k keeps),
          stays is_behind_one m.place n GivenBack (λ k. put_in k m.deferred) (λ k. put_in k (deferred_by f m.deferred)) h.put refl was.0.put (λ k. ap (put_in k) deferred),
          gains is_back m.place n GivenBack (λ k. times k m.given_back) (λ k. times k (m.given_back ++ pairs_back f)) h.back refl was.0.back (λ k. ap (λ (l : List ℕ). times k (m.given_back ++ l)) back ∙ back_more n k),
          put_stored n GivenBack was.1,
        ) in
        record { owed = all.0; put = all.1; back = all.2; stored = λ k e. more_stored caller f k (all.3 k e); apart = apart_after caller f }
      where
        Placed : (ℕ → Place) → Type 0
        Placed p = Counts is_out p (λ k. owed_by k (calls_by caller (call_by m f) m.calls)) × Counts is_behind_one p (λ k. put_in k (deferred_by f m.deferred))
            × Counts is_back p (λ k. times k (m.given_back ++ pairs_back f)) × ((k : ℕ) → is_unborn (p k) ≡ false → k ≤ length m.stored)

    -- a table is reclaimed, and what is behind it retired
    reclaims : (caller : Option (List ℕ)) (t : TableId) → PairsArePlaced (with_effect caller acted (effect.Reclaimed (ATable t)) m)
    reclaims caller t = record {
      owed = λ k. owed_same caller f k refl ∙ others_stay t Handed m.place m.deferred h.put is_out refl refl is_the_one (λ n. owed_by n m.calls) h.owed k;
      put = lets_go t Handed m.place m.deferred h.put refl;
      back = λ k. back_same k ∙ others_stay t Handed m.place m.deferred h.put is_back refl refl is_the_one (λ n. times n m.given_back) h.back k;
      stored = λ k e. more_stored caller f k (h.stored k (born_stay t Handed m.place m.deferred h.put is_unborn k e refl is_the_one));
      apart = apart_after caller f;
    }
      where
        f : Effect
        f = effect.Reclaimed (ATable t)

    -- or it ends with its map, and what is behind it is left over
    ends : (caller : Option (List ℕ)) (t : TableId) → PairsArePlaced (with_effect caller acted (effect.Taken t) m)
    ends caller t = record {
      owed = λ k. owed_same caller f k refl ∙ others_stay t Left m.place m.deferred h.put is_out refl refl is_the_one (λ n. owed_by n m.calls) h.owed k;
      put = lets_go t Left m.place m.deferred h.put refl;
      back = λ k. back_same k ∙ others_stay t Left m.place m.deferred h.put is_back refl refl is_the_one (λ n. times n m.given_back) h.back k;
      stored = λ k e. more_stored caller f k (h.stored k (born_stay t Left m.place m.deferred h.put is_unborn k e refl is_the_one));
      apart = apart_after caller f;
    }
      where
        f : Effect
        f = effect.Taken t

    -- whichever effect it is
    one_keeps : (caller : Option (List ℕ)) (f : Effect) → FindsPlaced caller m f → PairsArePlaced (with_effect caller acted f m)
    one_keeps caller (effect.Asked growth) finds = quiet caller (effect.Asked growth) refl refl refl refl
    one_keeps caller effect.PairMade finds = quiet caller effect.PairMade refl refl refl refl
    one_keeps caller effect.PairGivenUp finds = quiet caller effect.PairGivenUp refl refl refl refl
    one_keeps caller (effect.TableMade t) finds = quiet caller (effect.TableMade t) refl refl refl refl
    one_keeps caller (effect.TableGivenUp t) finds = quiet caller (effect.TableGivenUp t) refl refl refl refl
    one_keeps caller (effect.Linked t shape) finds = quiet caller (effect.Linked t shape) refl refl refl refl
    one_keeps caller (effect.Promoted t) finds = quiet caller (effect.Promoted t) refl refl refl refl
    one_keeps caller (effect.Copied n s) finds = quiet caller (effect.Copied n s) refl refl refl refl
    one_keeps caller (effect.Counted s) finds = quiet caller (effect.Counted s) refl refl refl refl
    one_keeps caller (effect.Retired (ATable t)) finds = quiet caller (effect.Retired (ATable t)) refl refl refl refl
    one_keeps caller (effect.Stored n s) finds = stores caller n s finds
    one_keeps caller (effect.Replaced n) finds = taken_out caller n (effect.Replaced n) finds (λ c. refl) refl refl refl
    one_keeps caller (effect.Removed n) finds = taken_out caller n (effect.Removed n) finds (λ c. refl) refl refl refl
    one_keeps caller (effect.Deferred n t) finds = defers caller n t finds
    one_keeps caller (effect.Retired (APair n)) finds = retires caller n finds
    one_keeps caller (effect.Reclaimed (APair n)) finds = gives_back caller n (effect.Reclaimed (APair n)) refl (let_go_is_none (m.place n) finds) refl refl refl
    one_keeps caller (effect.Reclaimed (ATable t)) finds = reclaims caller t
    one_keeps caller (effect.Ended n) finds = gives_back caller n (effect.Ended n) refl (in_map_is_none (m.place n) finds) refl refl refl
    one_keeps caller (effect.Taken t) finds = ends caller t

pub effects_keep_placed : (K V : Type 0) → EffectsPreservePlaced K V
effects_keep_placed K V caller acted [] m finds h = h
effects_keep_placed K V caller acted (f ∷ effects) m finds h = effects_keep_placed K V caller acted effects (with_effect caller acted f m) finds.1 (one_keeps acted m h caller f finds.0)

-- Each pair that was stored, and is placed, is found as it was stored: among those that were given back, or those that are left.
use Rattle.std.specs.Prelude.{◌≡◌, ◌≤◌, ◌<◌, ◌+◌, ◌==◌, ◌||◌, ℕ, zero, suc, Bool, true, false, List, [], ◌∷◌, ◌++◌, length, find, Option, Some, None, option_map, slice_get, ◌⊎◌, if◌then◌else◌}
use Rattle.std.specs.List.{AllByRecursion}
use Rattle.std.proofs.Common.{refl, sym, ap, subst, ◌∙◌, arith, eqb-true, inl, inr}
use Rattle.std.proofs.lemmas.Bool.{cases_lt, eq-eqb}
use Rattle.run_schedules.specs.declared.ended.Pair.{Pair}
use Rattle.run_schedules.specs.Runs.LifeCycle.{times}
use Rattle.run_schedules.specs.Runs.Log.{pair_at}
use Rattle.run_schedules.specs.Runs.Pairs.{numbers}
use Rattle.run_schedules.specs.Runs.Runs.{IsStored}
use Rattle.run_schedules.proofs.Runs.Pairs.Held.{numbers-append, times-append}
use Rattle.run_schedules.specs.declared.call.Call.{Call}
use Rattle.run_schedules.specs.declared.effect.Effect.{Effect}
use Rattle.run_schedules.specs.declared.effect.Effect.TheVariants as effect
use Rattle.run_schedules.specs.declared.effect.Thing.TheVariants.{APair, ATable}
use Rattle.run_schedules.specs.declared.event.Event.{Event}
use Rattle.run_schedules.specs.declared.event.Event.TheVariants.{Begin, MakeMap, OneCall}
use Rattle.run_schedules.specs.declared.outcome.Outcome.{Outcome}
use Rattle.run_schedules.specs.declared.outcome.Outcome.TheVariants.{Done, Goes}
use Rattle.run_schedules.specs.declared.record.Run.{Run}
use Rattle.run_schedules.specs.Schedules.After.{moment}
use Rattle.run_schedules.specs.Schedules.Beginning.{begun, with_call}
use Rattle.run_schedules.specs.Schedules.Effects.{in_map, pairs_back, place_by, with_effect, with_effects}
use Rattle.run_schedules.specs.Schedules.Entry.{Entry, acted_on, caller_of, is_busy, nameless}
use Rattle.run_schedules.specs.Schedules.Moment.{Place, Moment}
use Rattle.run_schedules.specs.Schedules.Moment as at
use Rattle.run_schedules.specs.Schedules.Runs.{Lists, pair_of}
use Rattle.run_schedules.specs.Schedules.Views.{is_in_a_map, is_waiting, number_of}
use Rattle.run_effects.specs.Tallies.Told.{AreBack, ArePlaced}
use Rattle.run_schedules.proofs.Given.General.{all_append as joined}

-- a pair that is placed as given back was given back
abbrev pub BackIsTold : (ℕ → Place) → List ℕ → Type 0
BackIsTold place back = (n : ℕ) → place n ≡ at.GivenBack → 1 ≤ times n back

module _ (place : ℕ → Place) (back : List ℕ) (told : BackIsTold place back) where
  -- so it is where others are elsewhere than given back
  elsewhere : (n : ℕ) (there : Place) (q : Bool) → (there ≡ at.GivenBack → ⊥) → (if q then there else place n) ≡ at.GivenBack → 1 ≤ times n (back ++ [])
  elsewhere n there true not is = absurd (not is)
  elsewhere n there false not is = let a = told n is in let b = times-append n back [] in omega (arith, a, b)

  -- where all are as they were,
  still : (n : ℕ) → place n ≡ at.GivenBack → 1 ≤ times n (back ++ [])
  still n is = let a = told n is in let b = times-append n back [] in omega (arith, a, b)

  -- and where one is given back, and told
  given : (n k : ℕ) (q : Bool) → (n == k) ≡ q → (if q then at.GivenBack else place n) ≡ at.GivenBack → 1 ≤ times n (back ++ k ∷ [])
  given n k true here is = let a = times-append n back (k ∷ []) in let b = ap (λ (x : Bool). (if x then 1 else 0) + 0) here in omega (arith, a, b)
  given n k false here is = let a = told n is in let b = times-append n back (k ∷ []) in omega (arith, a, b)

module _ {K V : Type 0} where
  back_by : (map : Option ℕ) (m : Moment K V) (f : Effect) → BackIsTold m.place m.given_back → BackIsTold (place_by map m.deferred f m.place) (m.given_back ++ pairs_back f)
  back_by map m (effect.Stored k s) told n is = elsewhere m.place m.given_back told n (in_map map) (n == k) (no_map map) is
    where
      no_map : (o : Option ℕ) → in_map o ≡ at.GivenBack → ⊥
      no_map None e = cc e
      no_map (Some x) e = cc e
  back_by map m (effect.Replaced k) told n is = elsewhere m.place m.given_back told n at.Out (n == k) (λ e. cc e) is
  back_by map m (effect.Removed k) told n is = elsewhere m.place m.given_back told n at.Out (n == k) (λ e. cc e) is
  back_by map m (effect.Retired (APair k)) told n is = elsewhere m.place m.given_back told n at.Handed (n == k) (λ e. cc e) is
  back_by map m (effect.Retired (ATable t)) told n is = still m.place m.given_back told n is
  back_by map m (effect.Deferred k t) told n is = elsewhere m.place m.given_back told n at.Behind (n == k) (λ e. cc e) is
  back_by map m (effect.Reclaimed (APair k)) told n is = given m.place m.given_back told n k (n == k) refl is
  back_by map m (effect.Reclaimed (ATable t)) told n is = elsewhere m.place m.given_back told n at.Handed _ (λ e. cc e) is
  back_by map m (effect.Ended k) told n is = given m.place m.given_back told n k (n == k) refl is
  back_by map m (effect.Taken t) told n is = elsewhere m.place m.given_back told n at.Left _ (λ e. cc e) is
  back_by map m (effect.Asked g) told n is = still m.place m.given_back told n is
  back_by map m effect.PairMade told n is = still m.place m.given_back told n is
  back_by map m effect.PairGivenUp told n is = still m.place m.given_back told n is
  back_by map m (effect.TableMade t) told n is = still m.place m.given_back told n is
  back_by map m (effect.TableGivenUp t) told n is = still m.place m.given_back told n is
  back_by map m (effect.Linked t shape) told n is = still m.place m.given_back told n is
  back_by map m (effect.Promoted t) told n is = still m.place m.given_back told n is
  back_by map m (effect.Copied k s) told n is = still m.place m.given_back told n is
  back_by map m (effect.Counted s) told n is = still m.place m.given_back told n is

  back_by_all : (caller : Option (List ℕ)) (map : Option ℕ) (effects : List Effect) (m : Moment K V) → BackIsTold m.place m.given_back
      → BackIsTold (with_effects caller map effects m).place (with_effects caller map effects m).given_back
  back_by_all caller map [] m told = told
  back_by_all caller map (f ∷ effects) m told = back_by_all caller map effects (with_effect caller map f m) (back_by map m f told)

  -- what begins has no part in it
  called : (own guard : List ℕ) (call : Call K V) (number : Option ℕ) (m : Moment K V) → BackIsTold m.place m.given_back
      → BackIsTold (with_call own guard call number m).place (with_call own guard call number m).given_back
  called own guard call None m told = told
  called own guard call (Some k) m told = told

  back_begun : (event : Event K V) (o : Outcome V) (m : Moment K V) → BackIsTold m.place m.given_back → BackIsTold (begun event o m).place (begun event o m).given_back
  back_begun (Begin caller guard map call) Goes m told = called caller guard call (number_of map m) m told
  back_begun (MakeMap map mode capacity) Done m told = told
  back_begun (OneCall guard map call) o m told = by (is_busy o)
    where
      by : (b : Bool) → (let x = if b then m else with_call nameless guard call (number_of map m) m in BackIsTold x.place x.given_back)
      by true = told
      by false = called nameless guard call (number_of map m) m told
  back_begun _ o m told = told

  -- at each moment of a log
  pub back_told : (log : List (Entry K V)) → BackIsTold (moment log).place (moment log).given_back
  back_told [] = λ n is. absurd (cc is)
  back_told (e ∷ log) =
      let b = begun e.event e.outcome (moment log) in back_by_all (caller_of e.event) (acted_on e.event b) e.effects b (back_begun e.event e.outcome (moment log) (back_told log))

  -- what is found of a number in a list is a pair of that number
  finds : (n : ℕ) (pairs : List (Pair K V)) (stored : List (K × V)) → AllByRecursion (IsStored stored) pairs → (o : Option (Pair K V)) → find (λ p. p.number == n) pairs ≡ o
      → ((p : Pair K V) × (o ≡ Some p) × (pair_at stored n ≡ Some (p.key, p.value))) ⊎ ((o ≡ None) × (times n (numbers pairs) ≡ 0))
  finds n [] stored all o is = inr (sym is, refl)
  finds n (p ∷ pairs) stored all o is = by (p.number == n) refl is (finds n pairs stored all.1 o)
    where
      Found : List (Pair K V) → Type 0
      Found xs = ((x : Pair K V) × (o ≡ Some x) × (pair_at stored n ≡ Some (x.key, x.value))) ⊎ ((o ≡ None) × (times n (numbers xs) ≡ 0))

      apart : (q : Bool) → (p.number == n) ≡ false → (n == p.number) ≡ q → ◌≡◌ {A = ℕ} (if q then 1 else 0) 0
      apart true other e = absurd (let same = eq-eqb p.number n (sym (eqb-true n p.number e)) in cc (same, other))
      apart false other e = refl

      more : (p.number == n) ≡ false → Found pairs → Found (p ∷ pairs)
      more e (inl there) = inl there
      more e (inr none) = inr (none.0, let a = apart (n == p.number) e refl in let b = none.1 in omega (arith, a, b))

      by : (q : Bool) → (p.number == n) ≡ q → (if q then Some p else find (λ x. x.number == n) pairs) ≡ o → (find (λ x. x.number == n) pairs ≡ o → Found pairs) → Found (p ∷ pairs)
      by true e f rest = inl (p, sym f, subst (λ (k : ℕ). pair_at stored k ≡ Some (p.key, p.value)) (eqb-true p.number n e) all.0)
      by false e f rest = more e (rest f)

  -- there is no pair of a number that none has had
  none_past : (stored : List (K × V)) (k : ℕ) → length stored ≤ k → slice_get stored k ≡ None
  none_past [] k past = refl
  none_past (x ∷ stored) zero past = absurd (omega (arith, past))
  none_past (x ∷ stored) (suc k) past = none_past stored k (omega (arith, past))

  module _ (m : Moment K V) (run : Run K V) (told : BackIsTold m.place m.given_back) (placed : ArePlaced m) (back : AreBack m run.given_back)
      (kept : Lists (numbers run.kept) (λ place. is_in_a_map place || is_waiting place) m)
      (as_stored : AllByRecursion (IsStored m.stored) run.kept) where
    -- one that is neither given back nor left is nowhere
    nowhere : (n : ℕ) → times n (numbers (run.given_back ++ run.kept)) ≡ 0 → (place : Place) → m.place n ≡ place → place ≡ at.Unborn
    nowhere n none place is = by place is
      where
        apart : times n (numbers run.given_back) + times n (numbers run.kept) ≡ 0
        apart = sym (ap (times n) (numbers-append run.given_back run.kept) ∙ times-append n (numbers run.given_back) (numbers run.kept)) ∙ none

        one : (p : Place) → m.place n ≡ p → ◌≡◌ {A = ℕ} (if is_in_a_map p || is_waiting p then 1 else 0) 1 → ⊥
        one p e some = let a = kept n in let b = ap {B = ℕ} (λ (x : Place). if is_in_a_map x || is_waiting x then 1 else 0) e in omega (arith, apart, a, b, some)

        by : (p : Place) → m.place n ≡ p → p ≡ at.Unborn
        by at.Unborn e = refl
        by (at.InMap map) e = absurd (one (at.InMap map) e refl)
        by at.Out e = absurd (one at.Out e refl)
        by at.Handed e = absurd (one at.Handed e refl)
        by at.Behind e = absurd (one at.Behind e refl)
        by at.Left e = absurd (one at.Left e refl)
        by at.GivenBack e = absurd (let a = told n e in let b = ap (times n) back.told in omega (arith, apart, a, b))

    unstored : (n : ℕ) → m.place n ≡ at.Unborn → pair_at m.stored n ≡ None
    unstored zero e = refl
    unstored (suc k) e = by (cases_lt k (length m.stored))
      where
        by : (k < length m.stored) ⊎ (length m.stored ≤ k) → slice_get m.stored k ≡ None
        by (inl less) = absurd (placed (suc k) (omega arith) (omega (arith, less)) e)
        by (inr past) = none_past m.stored k past

    pub pairs_found : (n : ℕ) → option_map (λ p. (p.key, p.value)) (pair_of run n) ≡ pair_at m.stored n
    pairs_found n =
        (elim (finds n (run.given_back ++ run.kept) m.stored (joined (IsStored m.stored) run.given_back run.kept back.contents as_stored) (pair_of run n) refl)
        as (λ _. option_map (λ p. (p.key, p.value)) (pair_of run n) ≡ pair_at m.stored n) [
          | inl there ↦ ap (option_map (λ (p : Pair K V). (p.key, p.value))) there.1 ∙ sym there.2
          | inr none ↦ ap (option_map (λ (p : Pair K V). (p.key, p.value))) none.0 ∙ sym (unstored n (nowhere n none.1 (m.place n) refl))
        ])

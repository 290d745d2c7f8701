-- Calls once an event is over: each has its map, and one that the event ends owes nothing.
use Rattle.std.specs.Prelude.{◌≡◌, ℕ, ◌+◌, ◌==◌, Bool, true, false, not, List, [], ◌∷◌, find, map, Option, Some, None, option_map, if◌then◌else◌}
use Rattle.std.specs.List.{AllByRecursion, list_any}
use Rattle.std.proofs.Common.{refl, ap, sym, subst, ◌∙◌}
use Rattle.run_executor.specs.Given.RunsSame.{is_same}
use Rattle.run_executor.specs.Given.RunsDeclared.effect.Effect.{Effect}
use Rattle.run_executor.specs.Given.RunsDeclared.event.Event.{Event}
use Rattle.run_executor.specs.Given.RunsDeclared.event.Event.TheVariants as event
use Rattle.run_executor.specs.Given.RunsDeclared.outcome.Outcome.{Outcome}
use Rattle.run_executor.specs.Given.RunsDeclared.outcome.Outcome.TheVariants as outcome
use Rattle.run_executor.specs.Given.SchedulesAfter.{without_call, stepped, calls_on, with_outcome, replied}
use Rattle.run_executor.specs.Given.SchedulesEffects.{with_effects, with_effect, AtEachEffect}
use Rattle.run_executor.specs.Given.SchedulesEntry.{IfCall, ends_call, caller_of, acting, acted_on}
use Rattle.run_executor.specs.Given.SchedulesHanding.{LeavesOf, is_clear_outcome}
use Rattle.run_executor.specs.Given.SchedulesMoment.{UnderWay, MapThere, Moment}
use Rattle.run_finds.specs.Events.{ended_by, EndedHasNoObligation}
use Rattle.run_finds.specs.Waiting.{owed_in, AreApart}
use Rattle.run_finds.specs.Within.{HasItsMap, ActsOn, StoppedHasNoObligation}
use Rattle.run_finds.proofs.Events.{OwesSame, comes_same, told_same}
use Rattle.run_finds.proofs.Lists.{none_of_them, all_so}
use Rattle.run_finds.proofs.Tables.{all_under, all_kept}
use Rattle.run_finds.proofs.Grown.{any_found, only_one}

-- calls once an event is over

is_clear : {V : Type 0} (came : Outcome V) → ends_call came ≡ true → is_clear_outcome came ≡ true
is_clear outcome.Ready ends = refl
is_clear came ends = ends

module _ {K V : Type 0} where
  pub acts : (its : Event K V) (b : Moment K V) → ActsOn (caller_of its) (acted_on its b) b
  acts (event.EndMap name) b own c caller c_is = absurd (cc caller)
  acts (event.MakeMap name mode capacity) b own c caller c_is = absurd (cc caller)
  acts its b own c caller c_is =
      ap (λ (who : Option (List ℕ)). option_map (λ (d : UnderWay K V). d.map) (acting who b)) caller ∙ ap (option_map (λ (d : UnderWay K V). d.map)) c_is

  pub both_at : (P Q : Moment K V → Effect → Type 0) (caller : Option (List ℕ)) (acted : Option ℕ) (effects : List Effect) (m : Moment K V) → AtEachEffect P caller acted effects m → AtEachEffect Q caller acted effects m
      → AtEachEffect (λ v f. P v f × Q v f) caller acted effects m
  both_at P Q caller acted [] m all also = tt
  both_at P Q caller acted (f ∷ effects) m all also = ((all.0, also.0), both_at P Q caller acted effects (with_effect caller acted f m) all.1 also.1)

  -- who is left has its map, if all had
  module _ (w : Moment K V) where
    same_has : (c d : UnderWay K V) → OwesSame c d → HasItsMap w c → HasItsMap w d
    same_has c d same its = record {
      there = subst (λ (q : ℕ). list_any (λ (f : MapThere). f.number == q) w.maps ≡ true) (sym same.0.1) its.there;
      table = λ t is. its.table t (sym same.2 ∙ is) ∙ sym same.0.1;
      owes = λ n k e. (let it = its.owes n k (sym (ap (owed_in n) same.1) ∙ e) in (it.0, it.1, it.2 ∙ sym same.0.1));
    }

    changed_has : (own : List ℕ) (change : UnderWay K V → UnderWay K V) → ((c : UnderWay K V) → OwesSame c (change c)) → (calls : List (UnderWay K V)) → AllByRecursion (HasItsMap w) calls
        → AllByRecursion (HasItsMap w) (map (λ c. if is_same c.caller own then change c else c) calls)
    changed_has own change same calls all =
        all_under (λ (c : UnderWay K V). if is_same c.caller own then change c else c) (HasItsMap w) (HasItsMap w) (λ c its. by c its (is_same c.caller own)) calls all
      where
        by : (c : UnderWay K V) → HasItsMap w c → (q : Bool) → HasItsMap w (if q then change c else c)
        by c its true = same_has c (change c) (same c) its
        by c its false = its

    fewer_have : (own : List ℕ) (calls : List (UnderWay K V)) → AllByRecursion (HasItsMap w) calls → AllByRecursion (HasItsMap w) (without_call own calls)
    fewer_have own calls all =
        all_so (λ c. HasItsMap w c × (not (is_same c.caller own) ≡ true)) (HasItsMap w) (λ c its. its.0) (without_call own calls) (all_kept (HasItsMap w) (λ c. not (is_same c.caller own)) calls all)

    stepped_have : (caller : Option (List ℕ)) (came : Outcome V) (steps : ℕ) (calls : List (UnderWay K V)) → AllByRecursion (HasItsMap w) calls → AllByRecursion (HasItsMap w) (stepped caller came steps calls)
    stepped_have None came steps calls all = all
    stepped_have (Some own) came steps calls all = by (ends_call came)
      where
        change : UnderWay K V → UnderWay K V
        change c = with_outcome came (record c { steps = c.steps + steps })

        by : (q : Bool) → AllByRecursion (HasItsMap w) (if q then without_call own calls else map (λ c. if is_same c.caller own then with_outcome came (record c { steps = c.steps + steps }) else c) calls)
        by true = fewer_have own calls all
        by false = changed_has own (λ c. with_outcome came (record c { steps = c.steps + steps })) (λ c. comes_same came (record c { steps = c.steps + steps })) calls all

    pub over_have : (its : Event K V) (came : Outcome V) (steps : ℕ) (calls : List (UnderWay K V)) → AllByRecursion (HasItsMap w) calls → AllByRecursion (HasItsMap w) (calls_on its came steps calls)
    over_have (event.Replied caller reply) outcome.Goes steps calls all = changed_has caller (λ c. replied reply c c.stands) (λ c. told_same reply c c.stands) calls all
    over_have (event.Stop caller) outcome.Done steps calls all = fewer_have caller calls all
    over_have its came steps calls all = stepped_have (caller_of its) came steps calls all

  -- a call that an event ends owes nothing
  pub none_of_name : (own : List ℕ) (calls : List (UnderWay K V)) → AreApart calls → IfCall (λ c. c.owes ≡ []) (find (λ c. is_same c.caller own) calls) → AllByRecursion (λ c. is_same c.caller own ≡ true → c.owes ≡ []) calls
  none_of_name own calls apart clear = by (find (λ c. is_same c.caller own) calls) refl clear
    where
      none : (q : Bool) → list_any (λ c. is_same c.caller own) calls ≡ q → find (λ c. is_same c.caller own) calls ≡ None → AllByRecursion (λ c. is_same c.caller own ≡ true → c.owes ≡ []) calls
      none true any is = absurd (let some = any_found (λ c. is_same c.caller own) calls any in let two : None ≡ Some some.0 = sym is ∙ some.1 in cc two)
      none false no_one is = all_so (λ c. is_same c.caller own ≡ false) (λ c. is_same c.caller own ≡ true → c.owes ≡ []) (λ c other same. absurd (cc (other, same))) calls (none_of_them (λ c. is_same c.caller own) calls no_one)

      by : (o : Option (UnderWay K V)) → find (λ c. is_same c.caller own) calls ≡ o → IfCall (λ c. c.owes ≡ []) o → AllByRecursion (λ c. is_same c.caller own ≡ true → c.owes ≡ []) calls
      by None is nothing = none (list_any (λ c. is_same c.caller own) calls) refl is
      by (Some c) is owes = all_so (λ d. is_same d.caller own ≡ true → d ≡ c) (λ d. is_same d.caller own ≡ true → d.owes ≡ []) (λ d one same. ap (λ (x : UnderWay K V). x.owes) (one same) ∙ owes) calls (only_one own calls c apart is)

  pub if_clear : (came : Outcome V) (o : Option (UnderWay K V)) → is_clear_outcome came ≡ true → IfCall (LeavesOf (is_clear_outcome came) came) o → IfCall (λ (c : UnderWay K V). c.owes ≡ []) o
  if_clear came None clear its_leaves = tt
  if_clear came (Some c) clear its_leaves = (subst (λ (q : Bool). LeavesOf q came c) clear its_leaves).0.owes

  -- an event that is no call's leaves calls as they are
  pub calls_stay : (acted : Option ℕ) (effects : List Effect) (m : Moment K V) → (with_effects None acted effects m).calls ≡ m.calls
  calls_stay acted [] m = refl
  calls_stay acted (f ∷ effects) m = calls_stay acted effects (with_effect None acted f m)

  pub ended_owes_none : (its : Event K V) (came : Outcome V) (w : Moment K V) → AreApart w.calls → IfCall (LeavesOf (is_clear_outcome came) came) (acting (caller_of its) w) → StoppedHasNoObligation its came w.calls
      → EndedHasNoObligation (ended_by its came) w.calls
  ended_owes_none (event.Stop caller) outcome.Done w apart leaves stops = stops
  ended_owes_none its came w apart leaves stops = by (ends_call came) refl
    where
      of : (o : Option (List ℕ)) → (IfCall (λ (c : UnderWay K V). c.owes ≡ []) (acting o w)) → EndedHasNoObligation o w.calls
      of None clear = tt
      of (Some own) clear = none_of_name own w.calls apart clear

      by : (q : Bool) → ends_call came ≡ q → EndedHasNoObligation (if q then caller_of its else None) w.calls
      by true ends = of (caller_of its) (if_clear came (acting (caller_of its) w) (is_clear came ends) leaves)
      by false goes = tt

-- Each call of the moment of a history is under way in the scene: so it stays as calls begin, go on and end, and as anything else happens.
use Rattle.std.specs.Prelude.{◌≡◌, ◌+◌, ℕ, Bool, true, false, not, List, [], ◌∷◌, map as list_map, Option, Some, None, if◌then◌else◌}
use Rattle.std.specs.List.{AllByRecursion, list_any}
use Rattle.std.proofs.Common.{refl, ap, sym, ◌∙◌, inl, inr}
use Rattle.std.proofs.lemmas.Bool.{cases_eq}
use Rattle.run_schedules.specs.Runs.Same.{is_same}
use Rattle.run_schedules.specs.declared.effect.Effect.{Effect}
use Rattle.run_schedules.specs.declared.outcome.Outcome.{Outcome}
use Rattle.run_schedules.specs.Schedules.After.{with_outcome, stepped, without_call}
use Rattle.run_schedules.specs.Schedules.Effects.{call_by, calls_by, with_effect, with_effects}
use Rattle.run_schedules.specs.Schedules.Entry.{ends_call}
use Rattle.run_schedules.specs.Schedules.Moment.{Moment, UnderWay as CallThere}
use Rattle.run_legal.specs.Given.CallersTogether.{UnderWay}
use Rattle.run_legal.specs.Given.FinishesMaps.{with_call}
use Rattle.run_legal.specs.Given.FollowsCalling.{NoneNamed}
use Rattle.run_legal.specs.Given.ScenesScene.{Scene}
use Rattle.run_legal.proofs.Given.CallersTogether.At.{at_other, at_same}
use Rattle.run_legal.proofs.Given.FollowsCalling.{is_same_is, is_same_refl}
use Rattle.play_linear.proofs.Given.FollowsCalls.{IsOfSame, changed, changed_same}
use Rattle.run_legal.proofs.Given.FindsLists.{all_so, one_of_them}
use Rattle.play_linear.proofs.Given.FindsTables.{all_kept, all_under}
use Rattle.run_schedules.specs.Deeds.Deeds.{named}
use Rattle.play_moves.specs.Moves.Order.{AreUnderWay, IsUnderWay}

-- what a caller has in a table of calls where one is changed
module _ {X : Type 0} (calls : ℕ → ℕ → Option X) (map i : ℕ) (o : Option X) where
  pub with_own : with_call calls map i o map i ≡ o
  with_own = ap (λ (f : ℕ → Option X). f i) (at_same calls map _ map refl) ∙ at_same (calls map) i o i refl

  pub with_other : (n j : ℕ) → (j ≡ i → ⊥) → with_call calls map i o n j ≡ calls n j
  with_other n j ne = elim (cases_eq n map) as (λ _. with_call calls map i o n j ≡ calls n j) [
    | inl e ↦ ap (λ (f : ℕ → Option X). f j) (at_same calls map _ n e) ∙ (at_other (calls map) i o j ne ∙ ap (λ (k : ℕ). calls k j) (sym e))
    | inr other ↦ ap (λ (f : ℕ → Option X). f j) (at_other calls map _ n other)
  ]

module _ {K V : Type 0} where
  -- another call of the same caller, on the same map
  same_under : (s : Scene K V) (c d : CallThere K V) → IsOfSame c d → IsUnderWay s c → IsUnderWay s d
  same_under s c d same it = (it.0, same.0 ∙ it.1, (it.2.0, ap (λ (k : ℕ). s.calls k it.0) same.1 ∙ it.2.1))

  -- where calls of the scene are as they were
  pub still_under : (m : Moment K V) (s t : Scene K V) → t.calls ≡ s.calls → (calls : List (CallThere K V)) → AllByRecursion (IsUnderWay s) calls → AllByRecursion (IsUnderWay t) calls
  still_under m s t same calls all =
      all_so (IsUnderWay s) (IsUnderWay t) (λ c it. (it.0, it.1, (it.2.0, ap (λ (f : ℕ → ℕ → Option (UnderWay K V K)). f c.map it.0) same ∙ it.2.1))) calls all

  -- by effects
  pub effects_under : (s : Scene K V) (caller : Option (List ℕ)) (acted : Option ℕ) (effects : List Effect) (m : Moment K V) → AreUnderWay m s → AreUnderWay (with_effects caller acted effects m) s
  effects_under s caller acted [] m all = all
  effects_under s caller acted (f ∷ effects) m all = effects_under s caller acted effects (with_effect caller acted f m) (one caller)
    where
      one : (who : Option (List ℕ)) → AllByRecursion (IsUnderWay s) (calls_by who (call_by m f) m.calls)
      one None = all
      one (Some own) =
          all_under (changed (call_by m f) (changed_same m f) own) (IsUnderWay s) (IsUnderWay s) (λ c it. by c it (is_same c.caller own)) m.calls all
        where
          by : (c : CallThere K V) → IsUnderWay s c → (q : Bool) → IsUnderWay s (if q then call_by m f c else c)
          by c it true = same_under s c (call_by m f c) (changed_same m f c) it
          by c it false = it

  -- no call of the moment has the name of a caller that has none in the scene
  pub none_named : (m : Moment K V) (s : Scene K V) → AreUnderWay m s → (i : ℕ) → NoneNamed named (named i) s → list_any (λ (d : CallThere K V). is_same d.caller (named i)) m.calls ≡ false
  none_named m s all i none = by (list_any (λ (d : CallThere K V). is_same d.caller (named i)) m.calls) refl
    where
      by : (q : Bool) → list_any (λ (d : CallThere K V). is_same d.caller (named i)) m.calls ≡ q → q ≡ false
      by false any = refl
      by true any = absurd (
          let it = one_of_them (λ (d : CallThere K V). is_same d.caller (named i)) (IsUnderWay s) m.calls any all in
          let names : named it.2.0 ≡ named i = sym it.2.1 ∙ is_same_is it.0.caller (named i) it.1 in
          let apart = none it.0.map it.2.0 it.2.2.0 it.2.2.1 in
          let one : is_same (named i) (named it.2.0) ≡ true = ap (λ (l : List ℕ). is_same (named i) l) names ∙ is_same_refl (named i) in cc (apart, one)
          )

module _ {K V : Type 0} (s t : Scene K V) (map i : ℕ) where
  -- where the call of a caller begins
  pub begins_under : (x : UnderWay K V K) → t.calls ≡ with_call s.calls map i (Some x) → NoneNamed named (named i) s → (c : CallThere K V) → c.caller ≡ named i → c.map ≡ map → (calls : List (CallThere K V))
      → AllByRecursion (IsUnderWay s) calls → AllByRecursion (IsUnderWay t) (c ∷ calls)
  begins_under x calls_are none c caller on calls all = (
    (i, caller, (x, ap (λ (f : ℕ → ℕ → Option (UnderWay K V K)). f c.map i) calls_are ∙ (ap (λ (k : ℕ). with_call s.calls map i (Some x) k i) on ∙ with_own s.calls map i (Some x)))),
    all_so (IsUnderWay s) (IsUnderWay t)
        (λ d it. (
          it.0,
          it.1,
          (it.2.0, ap (λ (f : ℕ → ℕ → Option (UnderWay K V K)). f d.map it.0) calls_are ∙ (with_other s.calls map i (Some x) d.map it.0 (other d it) ∙ it.2.1)),
        )) calls all,
  )
    where
      other : (d : CallThere K V) → (it : IsUnderWay s d) → it.0 ≡ i → ⊥
      other d it same =
          (let apart = none d.map it.0 it.2.0 it.2.1 in
          let one : is_same (named i) (named it.0) ≡ true = ap (λ (k : ℕ). is_same (named i) (named k)) same ∙ is_same_refl (named i) in cc (apart, one))

  -- where it goes on, if the caller has no other one
  module _ (x : UnderWay K V K) (calls_are : t.calls ≡ with_call s.calls map i (Some x)) (alone : (n : ℕ) (y : UnderWay K V K) → s.calls n i ≡ Some y → n ≡ map) where
    pub stays_under : (c : CallThere K V) → IsUnderWay s c → IsUnderWay t c
    stays_under c it = elim (cases_eq it.0 i) as (λ _. IsUnderWay t c) [
      | inl e ↦
          (let on : c.map ≡ map = alone c.map it.2.0 (ap (λ (j : ℕ). s.calls c.map j) (sym e) ∙ it.2.1) in
          (i, it.1 ∙ ap named e, (x, ap (λ (f : ℕ → ℕ → Option (UnderWay K V K)). f c.map i) calls_are ∙ (ap (λ (k : ℕ). with_call s.calls map i (Some x) k i) on ∙ with_own s.calls map i (Some x)))))
      | inr ne ↦ (it.0, it.1, (it.2.0, ap (λ (f : ℕ → ℕ → Option (UnderWay K V K)). f c.map it.0) calls_are ∙ (with_other s.calls map i (Some x) c.map it.0 ne ∙ it.2.1)))
    ]

    pub goes_under : (change : CallThere K V → CallThere K V) → ((c : CallThere K V) → IsOfSame c (change c)) → (calls : List (CallThere K V)) → AllByRecursion (IsUnderWay s) calls
        → AllByRecursion (IsUnderWay t) (list_map (λ c. if is_same c.caller (named i) then change c else c) calls)
    goes_under change same calls all =
        all_under (λ (c : CallThere K V). if is_same c.caller (named i) then change c else c) (IsUnderWay s) (IsUnderWay t) (λ c it. by c (stays_under c it) (is_same c.caller (named i))) calls all
      where
        by : (c : CallThere K V) → IsUnderWay t c → (q : Bool) → IsUnderWay t (if q then change c else c)
        by c it true = same_under t c (change c) (same c) it
        by c it false = it

  -- where it is over
  pub ends_under : (o : Option (UnderWay K V K)) → t.calls ≡ with_call s.calls map i o → (calls : List (CallThere K V)) → AllByRecursion (IsUnderWay s) calls → AllByRecursion (IsUnderWay t) (without_call (named i) calls)
  ends_under o calls_are calls all =
      all_so (λ c. IsUnderWay s c × (not (is_same c.caller (named i)) ≡ true)) (IsUnderWay t)
      (λ c it. (
        it.0.0,
        it.0.1,
        (it.0.2.0, ap (λ (f : ℕ → ℕ → Option (UnderWay K V K)). f c.map it.0.0) calls_are ∙ (with_other s.calls map i o c.map it.0.0 (other c it.0 it.1) ∙ it.0.2.1)),
      )) (without_call (named i) calls) (all_kept (IsUnderWay s) (λ c. not (is_same c.caller (named i))) calls all)
    where
      other : (c : CallThere K V) (it : IsUnderWay s c) → not (is_same c.caller (named i)) ≡ true → it.0 ≡ i → ⊥
      other c it apart same =
          (let one : is_same c.caller (named i) ≡ true = ap (λ (l : List ℕ). is_same l (named i)) (it.1 ∙ ap named same) ∙ is_same_refl (named i) in
          let gone : not (is_same c.caller (named i)) ≡ false = ap not one in cc (apart, gone))

  -- after a step, by which it goes on or is over
  pub stepped_under : (next : Option (UnderWay K V K)) → t.calls ≡ with_call s.calls map i next → ((n : ℕ) (y : UnderWay K V K) → s.calls n i ≡ Some y → n ≡ map) → (o : Outcome V)
      → (ends_call o ≡ false → (x : UnderWay K V K) × (next ≡ Some x)) → ((c : CallThere K V) → IsOfSame c (with_outcome o (record c { steps = c.steps + 1 }))) → (calls : List (CallThere K V))
      → AllByRecursion (IsUnderWay s) calls → AllByRecursion (IsUnderWay t) (stepped (Some (named i)) o 1 calls)
  stepped_under next calls_are alone o goes same calls all = by (ends_call o) refl
    where
      change : CallThere K V → CallThere K V
      change c = with_outcome o (record c { steps = c.steps + 1 })

      by : (q : Bool) → ends_call o ≡ q → AllByRecursion (IsUnderWay t) (if q then without_call (named i) calls else list_map (λ c. if is_same c.caller (named i) then with_outcome o (record c { steps = c.steps + 1 }) else c) calls)
      by true over = ends_under next calls_are calls all
      by false on = let x = goes on in goes_under x.0 (calls_are ∙ ap (with_call s.calls map i) x.1) alone (λ c. with_outcome o (record c { steps = c.steps + 1 })) same calls all

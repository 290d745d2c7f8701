-- The calls that were under way are there after a step, each by its caller's name, on its map.
use Rattle.std.specs.Prelude.{◌≡◌, ◌≢◌, ℕ, Bool, true, false, cond, List, [], ◌∷◌, find, map, Option, Some, if◌then◌else◌, ◌⊎◌}
use Rattle.std.proofs.Common.{refl, ap, sym, subst, ◌∙◌, inl, inr}
use Rattle.std.proofs.lemmas.Bool.{cases_eq}
use Rattle.seize.specs.World.{with_at}
use Rattle.run_effects.specs.Given.RunsSame.{is_same}
use Rattle.run_effects.specs.Given.RunsDeclared.call.Call.{Call}
use Rattle.run_effects.specs.Given.RunsDeclared.call.Call.TheVariants as call
use Rattle.run_effects.specs.Given.RunsDeclared.effect.Effect.{Effect}
use Rattle.run_effects.specs.Given.RunsDeclared.effect.Effect.TheVariants as effect
use Rattle.run_effects.specs.Given.SchedulesEffects.{due_for, call_by, with_effect, with_effects}
use Rattle.run_effects.specs.Given.SchedulesMoment.{UnderWay as CallThere, Moment}
use Rattle.run_effects.specs.Given.SchedulesViews.{call_of}
use Rattle.many_maps.specs.Given.CallersTogether.{UnderWay}
use Rattle.many_maps.proofs.Given.CallersTogether.At.{at_other, at_same}
use Rattle.many_maps.specs.Maps.{with_call}
use Rattle.run_shows.specs.Follows.Calls.{IsCalled, RefinesCalls}

module _ {K V : Type 0} where
  -- the call is the same one of the same caller, on the same map
  abbrev pub IsOfSame : CallThere K V → CallThere K V → Type 0
  IsOfSame c d = (d.caller ≡ c.caller) × (d.map ≡ c.map) × (d.call ≡ c.call)

  pub due_same : (its : Call K V) (c : CallThere K V) (old : Option ℕ) (new : ℕ) → IsOfSame c (due_for its c old new)
  due_same (call.On one) c old new = (refl, refl, refl)
  due_same (call.Reserve n) c old new = (refl, refl, refl)
  due_same call.Clear c old new = (refl, refl, refl)
  due_same call.Retain c old new = (refl, refl, refl)
  due_same call.Len c old new = (refl, refl, refl)
  due_same call.Walk c old new = (refl, refl, refl)

  -- an effect makes it no other one
  pub changed_same : (m : Moment K V) (f : Effect) (c : CallThere K V) → IsOfSame c (call_by m f c)
  changed_same m (effect.Asked growth) c = (refl, refl, refl)
  changed_same m effect.PairMade c = (refl, refl, refl)
  changed_same m effect.PairGivenUp c = (refl, refl, refl)
  changed_same m (effect.TableMade t) c = (refl, refl, refl)
  changed_same m (effect.TableGivenUp t) c = (refl, refl, refl)
  changed_same m (effect.Linked t shape) c = (refl, refl, refl)
  changed_same m (effect.Promoted t) c = (refl, refl, refl)
  changed_same m (effect.Copied n s) c = (refl, refl, refl)
  changed_same m (effect.Stored n s) c = due_same c.call c c.replacing n
  changed_same m (effect.Replaced n) c = (refl, refl, refl)
  changed_same m (effect.Removed n) c = due_same c.call c (Some n) _
  changed_same m (effect.Counted s) c = (refl, refl, refl)
  changed_same m (effect.Deferred n t) c = (refl, refl, refl)
  changed_same m (effect.Retired x) c = (refl, refl, refl)
  changed_same m (effect.Reclaimed x) c = (refl, refl, refl)
  changed_same m (effect.Ended n) c = (refl, refl, refl)
  changed_same m (effect.Taken t) c = (refl, refl, refl)

  module _ (change : CallThere K V → CallThere K V) (same : (c : CallThere K V) → IsOfSame c (change c)) (own : List ℕ) where
    abbrev pub changed : CallThere K V → CallThere K V
    changed c = if is_same c.caller own then change c else c

    pub of_same : (c : CallThere K V) → IsOfSame c (changed c)
    of_same c = by (is_same c.caller own)
      where
        by : (q : Bool) → IsOfSame c (if q then change c else c)
        by true = same c
        by false = (refl, refl, refl)

    -- each call is found by the name by which it was
    pub found : (name : List ℕ) (cs : List (CallThere K V)) (c : CallThere K V) → find (λ x. is_same x.caller name) cs ≡ Some c → find (λ x. is_same x.caller name) (map changed cs) ≡ Some (changed c)
    found name [] c is = absurd (cc is)
    found name (x ∷ cs) c is = by (is_same x.caller name) refl (λ later. found name cs c later)
      where
        rest : Option (CallThere K V)
        rest = find (λ y. is_same y.caller name) (map changed cs)

        by : (q : Bool) → is_same x.caller name ≡ q → (find (λ y. is_same y.caller name) cs ≡ Some c → find (λ y. is_same y.caller name) (map changed cs) ≡ Some (changed c))
            → find (λ y. is_same y.caller name) (map changed (x ∷ cs)) ≡ Some (changed c)
        by true e further =
            let it : x ≡ c = (let here : cond true (Some x) (find (λ y. is_same y.caller name) cs) ≡ Some c = ap (λ z. cond z (Some x) (find (λ y. is_same y.caller name) cs)) (sym e) ∙ is in cc here) in
            ap (λ z. cond z (Some (changed x)) rest) (ap (λ (l : List ℕ). is_same l name) (of_same x).0 ∙ e) ∙ ap (λ (y : CallThere K V). Some (changed y)) it
        by false e further =
            let later : find (λ y. is_same y.caller name) cs ≡ Some c = ap (λ z. cond z (Some x) (find (λ y. is_same y.caller name) cs)) (sym e) ∙ is in
            ap (λ z. cond z (Some (changed x)) rest) (ap (λ (l : List ℕ). is_same l name) (of_same x).0 ∙ e) ∙ further later

  module _ (own : List ℕ) (acted : ℕ) (name : List ℕ) where
    one_effect : (f : Effect) (m : Moment K V) (c : CallThere K V) → call_of name m ≡ Some c → (d : CallThere K V) × (call_of name (with_effect (Some own) (Some acted) f m) ≡ Some d) × (d.map ≡ c.map) × (d.call ≡ c.call)
    one_effect f m c is =
        (changed (call_by m f) (changed_same m f) own c, found (call_by m f) (changed_same m f) own name m.calls c is, (of_same (call_by m f) (changed_same m f) own c).1, (of_same (call_by m f) (changed_same m f) own c).2)

    all_effects : (effects : List Effect) (m : Moment K V) (c : CallThere K V) → call_of name m ≡ Some c
        → (d : CallThere K V) × (call_of name (with_effects (Some own) (Some acted) effects m) ≡ Some d) × (d.map ≡ c.map) × (d.call ≡ c.call)
    all_effects [] m c is = (c, is, refl, refl)
    all_effects (f ∷ effects) m c is =
        let first = one_effect f m c is in
        let rest = all_effects effects (with_effect (Some own) (Some acted) f m) first.0 first.1 in (rest.0, rest.1, rest.2 ∙ first.2, rest.3 ∙ first.3)

  module _ (same : K → K → Bool) where
    -- what it is called before it is called after
    abbrev pub CalledOn : UnderWay K V K → UnderWay K V K → Type 0
    CalledOn u x = (its : Call K V) → IsCalled same u its → IsCalled same x its

    -- a call that is under way after a step was so before
    pub was_there : (calls : ℕ → ℕ → Option (UnderWay K V K)) (of i : ℕ) (u : UnderWay K V K) → calls of i ≡ Some u → (next : Option (UnderWay K V K))
        → ((x : UnderWay K V K) → next ≡ Some x → CalledOn u x) → (n j : ℕ) (x : UnderWay K V K) → with_call calls of i next n j ≡ Some x → (y : UnderWay K V K) × (calls n j ≡ Some y) × CalledOn y x
    was_there calls of i u here next on n j x is = by (cases_eq n of) (cases_eq j i)
      where
        its_map : n ≡ of → with_at (calls of) i next j ≡ Some x
        its_map e = ap (λ (g : ℕ → Option (UnderWay K V K)). g j) (sym (at_same calls of (with_at (calls of) i next) n e)) ∙ is

        by : (n ≡ of) ⊎ (n ≢ of) → (j ≡ i) ⊎ (j ≢ i) → (y : UnderWay K V K) × (calls n j ≡ Some y) × CalledOn y x
        by (inl e) (inl f) = (u, ap (λ (k : ℕ). calls k j) e ∙ ap (calls of) f ∙ here, on x (sym (at_same (calls of) i next j f) ∙ its_map e))
        by (inl e) (inr ne) = (x, ap (λ (k : ℕ). calls k j) e ∙ sym (at_other (calls of) i next j ne) ∙ its_map e, λ its called. called)
        by (inr ne) f = (x, ap (λ (g : ℕ → Option (UnderWay K V K)). g j) (sym (at_other calls of (with_at (calls of) i next) n ne)) ∙ is, λ its called. called)

    -- so they are there after a step, too
    pub calls_on : (name : ℕ → List ℕ) (own : List ℕ) (acted : ℕ) (effects : List Effect) (m : Moment K V) (calls : ℕ → ℕ → Option (UnderWay K V K)) (of i : ℕ) (u : UnderWay K V K)
        → calls of i ≡ Some u → (next : Option (UnderWay K V K)) → ((x : UnderWay K V K) → next ≡ Some x → CalledOn u x)
        → RefinesCalls same name m calls → RefinesCalls same name (with_effects (Some own) (Some acted) effects m) (with_call calls of i next)
    calls_on name own acted effects m calls of i u here next on shown n j x is =
        let before = was_there calls of i u here next on n j x is in
        let there = shown n j before.0 before.1 in
        let after = all_effects own acted (name j) effects m there.0 there.1 in
        (after.0, after.1, after.2 ∙ there.2, subst (IsCalled same x) (sym after.3) (before.2 there.0.call there.3))

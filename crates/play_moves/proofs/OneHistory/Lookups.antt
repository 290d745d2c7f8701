-- A lookup owes nothing, and so it is answered what the finite map of its map has for the key at a moment since it began.
use Rattle.std.specs.Prelude.{◌+◌, ◌++◌, length, flat_map, Option, Some, None, if◌then◌else◌}
use Rattle.std.proofs.Common.{◌≡◌, ℕ, Bool, true, false, List, [], ◌∷◌, inl, inr, refl, sym, subst, ap, ◌∙◌}
use Rattle.run_legal.specs.Given.HistoriesDue.{HasPendingAnswer, RefinesPendingAnswers}
use Rattle.run_legal.specs.Given.PointsFactsCalls.{Change, Unchanged, Stored as HasStored, Replaced as HasReplaced, Removed as HasRemoved}
use Rattle.run_legal.specs.Given.CallersTogether.{UnderWay as UnderWayIn, OnKey, ForRoom, Counting, OverAll}
use Rattle.run_legal.specs.Given.EffectsKnown.{Known}
use Rattle.run_legal.specs.Given.FinishesMaps.{Standing}
use Rattle.run_legal.specs.Given.FollowsCalls.{IsCalled}
use Rattle.run_schedules.specs.Runs.Same.{is_same}
use Rattle.run_legal.specs.Given.ScenesScene.{Scene}
use Rattle.run_schedules.specs.declared.call.Response.{Response}
use Rattle.run_schedules.specs.declared.call.Call.{Call}
use Rattle.run_schedules.specs.declared.call.Call.TheVariants as calls
use Rattle.run_schedules.specs.declared.call.OneKey.TheVariants.{Get}
use Rattle.run_schedules.specs.declared.effect.Effect.{Effect}
use Rattle.run_schedules.specs.declared.effect.Effect.TheVariants as effect
use Rattle.run_schedules.specs.declared.outcome.Outcome.TheVariants.{Answered}
use Rattle.run_schedules.specs.Schedules.Effects.{call_by, due_for, with_effect, with_effects}
use Rattle.run_schedules.specs.Schedules.Linearizable.{Changes, ChangesOnce, Ends, AnswersDue, IsRight, IsRightOf, meaning_at, shift_of, there_for}
use Rattle.run_schedules.specs.Schedules.Lists.{OneOf}
use Rattle.run_schedules.specs.Schedules.Moment.{Moment, UnderWay}
use Rattle.run_schedules.specs.Schedules.Sequential.{Leaves, Answers, looked, shifts}
use Rattle.run_schedules.specs.Schedules.Transition.{Past, Transition, call_left}
use Rattle.run_schedules.specs.Schedules.Views.{call_of, finite_map}
use Rattle.run_schedules.specs.Deeds.Deeds.{Entry, Steps, acted_on, moment, named}
use Rattle.run_schedules.specs.Deeds.History.{IsLinearizable, moments_from, past, transition}
use Rattle.play_linear.proofs.Given.FollowsCalls.{changed, changed_same, found, of_same}
use Rattle.run_legal.proofs.Given.PromisesBrief.Shown.{one_as as one_so}
use Rattle.run_schedules.proofs.Given.General.{same_some}

module _ {K V : Type 0} (same : K → K → Bool) (log : Past K V) (m : Moment K V) (known : Known) (s : Scene K V) (dues : RefinesPendingAnswers same named log m known s) where
  -- a lookup has changed nothing
  none_owed : (number : ℕ → ℕ) (stored : ℕ) (key : K) (c : UnderWay K V) (change : Change) → HasPendingAnswer number stored (Get key) c change → c.due ≡ None
  none_owed number stored key c Unchanged owes = owes
  none_owed number stored key c (HasStored n) (less, a, v, means, due) = absurd (cc means)
  none_owed number stored key c (HasReplaced o n) (old, less, a, v, means, due) = absurd (cc means)
  none_owed number stored key c (HasRemoved o) (old, a, new, means, due) = absurd (cc means)

  -- and owes nothing
  pub lookup_owes : (map i : ℕ) (u : UnderWayIn K V K) → s.calls map i ≡ Some u → (standing : Standing K) → s.maps map ≡ Some standing → (c : UnderWay K V) → call_of (named i) m ≡ Some c
      → (key : K) → c.call ≡ calls.On (Get key) → c.due ≡ None
  lookup_owes map i u here standing stands c is key call_is =
      let shown = dues.history.shown.calls map i u here in
      by u here (subst (λ (call : Call K V). IsCalled same u call) (ap (λ (d : UnderWay K V). d.call) (same_some shown.0 c (sym shown.1 ∙ is)) ∙ call_is) shown.3)
    where
      by : (u : UnderWayIn K V K) → s.calls map i ≡ Some u → IsCalled same u (calls.On (Get key)) → c.due ≡ None
      by (OnKey v) here its = none_owed (dues.history.shown.number map) standing.chart.stored key c v.change (dues.owes map i v here standing stands c is (Get key) call_is)
      by (ForRoom r) here its = absurd its
      by (Counting sum) here its = absurd its
      by (OverAll o) here its = absurd its

both_none : {X : Type 0} (xs ys : List X) → xs ++ ys ≡ [] → (xs ≡ []) × (ys ≡ [])
both_none [] ys is = (refl, is)
both_none (x ∷ xs) ys is = absurd (cc is)

module _ {K V : Type 0} where
  -- an effect leaves it so when a call began,
  due_begun : (its : Call K V) (c : UnderWay K V) (old : Option ℕ) (new : ℕ) → (due_for its c old new).begun ≡ c.begun
  due_begun (calls.On one) c old new = refl
  due_begun _ c old new = refl

  still_begun : (m : Moment K V) (f : Effect) (c : UnderWay K V) → (call_by m f c).begun ≡ c.begun
  still_begun m (effect.Stored n s) c = due_begun c.call c c.replacing n
  still_begun m (effect.Removed p) c = due_begun c.call c (Some p) _
  still_begun m _ c = refl

  -- and what it owes, if it changes no map
  still_due : (m : Moment K V) (f : Effect) (c : UnderWay K V) → shift_of f ≡ [] → (call_by m f c).due ≡ c.due
  still_due m (effect.Stored n s) c none = absurd (cc none)
  still_due m (effect.Replaced p) c none = absurd (cc none)
  still_due m (effect.Removed p) c none = absurd (cc none)
  still_due m _ c none = refl

  -- the call after all its effects
  pub record IsLeft (i : ℕ) (effects : List Effect) (c : UnderWay K V) (m : Moment K V) : Type 0 where
    pub left : UnderWay K V
    pub here : call_of (named i) m ≡ Some left
    pub what : left.call ≡ c.call
    pub on : left.map ≡ c.map
    pub began : left.begun ≡ c.begun
    pub owes : flat_map shift_of effects ≡ [] → left.due ≡ c.due

  module _ (i : ℕ) (acted : Option ℕ) where
    is_left : (effects : List Effect) (m : Moment K V) (c : UnderWay K V) → call_of (named i) m ≡ Some c → IsLeft i effects c (with_effects (Some (named i)) acted effects m)
    is_left [] m c is = record { left = c; here = is; what = refl; on = refl; began = refl; owes = λ none. refl }
    is_left (f ∷ effects) m c is =
        let next = changed (call_by m f) (changed_same m f) (named i) c in
        let rest = is_left effects (with_effect (Some (named i)) acted f m) next (found (call_by m f) (changed_same m f) (named i) (named i) m.calls c is) in
        let kept = of_same (call_by m f) (changed_same m f) (named i) c in
        record {
          left = rest.left;
          here = rest.here;
          what = rest.what ∙ kept.2;
          on = rest.on ∙ kept.1;
          began = rest.began ∙ began (is_same c.caller (named i));
          owes = λ none.
              let both = both_none (shift_of f) (flat_map shift_of effects) none in rest.owes both.1 ∙ owes both.0 (is_same c.caller (named i));
        }
      where
        began : (q : Bool) → (if q then call_by m f c else c).begun ≡ c.begun
        began true = still_begun m f c
        began false = refl

        owes : shift_of f ≡ [] → (q : Bool) → (if q then call_by m f c else c).due ≡ c.due
        owes none true = still_due m f c none
        owes none false = refl

module _ {K V : Type 0} (same : K → K → Bool) (i : ℕ) (answer : Response V) (effects : List Effect) (refused : Bool) (log : List (Entry K V)) (there : UnderWay K V)
    (here : call_of (named i) (moment log) ≡ Some there) (key : K) (call_is : there.call ≡ calls.On (Get key)) (free : there.due ≡ None)
    (right : IsLinearizable same log (record { deed = Steps i; outcome = Answered answer; effects = effects; refused = refused })) where
  abbrev e : Entry K V
  e = record { deed = Steps i; outcome = Answered answer; effects = effects; refused = refused }

  abbrev t : Transition K V
  t = transition log e

  its : IsLeft i effects there (with_effects (Some (named i)) (acted_on (Steps i) (moment log)) effects (moment log))
  its = is_left i (acted_on (Steps i) (moment log)) effects (moment log) there here

  is_right : IsRight same (past log) t there its.left
  is_right =
      subst (λ (o : Option (UnderWay K V)). IsRightOf same (past log) t (Some there) o) its.here (subst (λ (o : Option (UnderWay K V)). IsRightOf same (past log) t o (call_left t)) here right)

  -- it has changed nothing
  none : flat_map shift_of effects ≡ []
  none = by (subst (λ (call : Call K V). Changes same call there (moment log) (flat_map shift_of effects)) call_is is_right.changes)
    where
      by : ChangesOnce same (Get key) there (moment log) (flat_map shift_of effects) → flat_map shift_of effects ≡ []
      by (inl is) = is
      by (inr (due, a, d, means, done)) =
          let leaves : d ≡ Leaves = cc means in done ∙ ap (shifts (there_for same (Get key) there (moment log)) (length (moment log).stored + 1)) leaves

  answers : OneOf (λ m. meaning_at same (Get key) its.left m ≡ Answers answer Leaves) (moments_from its.left.begun log)
  answers =
      subst (λ (due : Option (Response V)). AnswersDue same (Get key) its.left (moments_from its.left.begun log) due answer) (its.owes none ∙ free)
      (subst (λ (call : Call K V). Ends same call its.left (moments_from its.left.begun log) (Answered answer)) (its.what ∙ call_is) is_right.ends)

  pub so_then : (map : ℕ) → there.map ≡ map → OneOf (λ m. looked (finite_map same map m key) ≡ answer) (moments_from there.begun log)
  so_then map on =
      subst (λ (b : ℕ). OneOf (λ m. looked (finite_map same map m key) ≡ answer) (moments_from b log)) its.began
      (one_so (λ m. meaning_at same (Get key) its.left m ≡ Answers answer Leaves) (λ m. looked (finite_map same map m key) ≡ answer)
      (λ m means.
      let is : looked (finite_map same its.left.map m key) ≡ answer = cc means in subst (λ (a : ℕ). looked (finite_map same a m key) ≡ answer) (its.on ∙ on) is) (moments_from its.left.begun log) answers)

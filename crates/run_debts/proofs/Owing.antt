-- What a call owes follows the effects of its steps.
use Rattle.std.specs.Prelude.{◌≡◌, ℕ, ◌+◌, ◌||◌, Bool, true, false, MatchBool, List, [], ◌∷◌, Option, Some, if◌then◌else◌}
use Rattle.std.proofs.Common.{refl, ap, sym, subst, ◌∙◌}
use Rattle.std.proofs.lemmas.Bool.{eq-eqb}
use Rattle.run_places.specs.Given.RunsDeclared.call.Call.{Call}
use Rattle.run_places.specs.Given.RunsDeclared.call.Call.TheVariants as call
use Rattle.run_places.specs.Given.RunsDeclared.effect.Effect.{Effect}
use Rattle.run_places.specs.Given.RunsDeclared.effect.Effect.TheVariants as effect
use Rattle.run_places.specs.Given.RunsDeclared.effect.Thing.{Thing}
use Rattle.run_places.specs.Given.RunsDeclared.effect.Thing.TheVariants.{APair, ATable}
use Rattle.run_places.specs.Given.SchedulesEffects.{AtEachEffect, call_by, due_for, with_effect, with_effects}
use Rattle.run_places.specs.Given.SchedulesEntry.{ByCall, acting}
use Rattle.run_places.specs.Given.SchedulesLists.{is_in, without_one}
use Rattle.run_places.specs.Given.SchedulesLives.{is_first_table}
use Rattle.run_places.specs.Given.SchedulesMoment.{UnderWay as CallThere, Moment}
use Rattle.run_places.specs.Given.SchedulesThings.{same_thing}
use Rattle.run_places.specs.Given.SchedulesViews.{call_of}
use Rattle.run_places.proofs.Changes.Changes.{acted_on}
use Rattle.run_debts.specs.Owing.{HandsOver, leaves_owed, AllLeave, ObligationsGo, KeepsOwed, TakesOut, PutsOver, Passes, HandsFirst, FindsObligation, ObligationsFollow}
use Rattle.run_places.proofs.Spots.Unreclaimed.{same_itself as table_itself}

pub thing_itself : (x : Thing) → same_thing x x ≡ true
thing_itself (APair n) = eq-eqb n n refl
thing_itself (ATable t) = table_itself t

-- the first one is there, and without it the others are
first_in : (x : Thing) (rest : List Thing) → is_in same_thing x (x ∷ rest) ≡ true
first_in x rest = ap (λ (q : Bool). q || is_in same_thing x rest) (thing_itself x)

without_first : (x : Thing) (rest : List Thing) → without_one same_thing x (x ∷ rest) ≡ rest
without_first x rest = ap (λ (q : Bool). if q then rest else x ∷ without_one same_thing x rest) (thing_itself x)

match_both : (q : Bool) (A B : Type 0) → A → B → MatchBool q A B
match_both true A B a b = a
match_both false A B a b = b

module _ {K V : Type 0} where
  pub due_owes : (its : Call K V) (c : CallThere K V) (old : Option ℕ) (new : ℕ) → ((due_for its c old new).owes ≡ c.owes) × ((due_for its c old new).has_handed ≡ c.has_handed)
  due_owes (call.On one) c old new = (refl, refl)
  due_owes (call.Reserve n) c old new = (refl, refl)
  due_owes call.Clear c old new = (refl, refl)
  due_owes call.Retain c old new = (refl, refl)
  due_owes call.Len c old new = (refl, refl)
  due_owes call.Walk c old new = (refl, refl)

  pub leaves : (m : Moment K V) (f : Effect) (c : CallThere K V) → leaves_owed f ≡ true → (call_by m f c).owes ≡ c.owes
  leaves m (effect.Asked growth) c e = refl
  leaves m effect.PairMade c e = refl
  leaves m effect.PairGivenUp c e = refl
  leaves m (effect.TableMade t) c e = refl
  leaves m (effect.TableGivenUp t) c e = refl
  leaves m (effect.Linked t shape) c e = refl
  leaves m (effect.Promoted t) c e = absurd (cc e)
  leaves m (effect.Copied n s) c e = refl
  leaves m (effect.Stored n s) c e = (due_owes c.call c c.replacing n).0
  leaves m (effect.Replaced n) c e = absurd (cc e)
  leaves m (effect.Removed n) c e = absurd (cc e)
  leaves m (effect.Counted s) c e = refl
  leaves m (effect.Deferred n t) c e = absurd (cc e)
  leaves m (effect.Retired x) c e = absurd (cc e)
  leaves m (effect.Reclaimed x) c e = refl
  leaves m (effect.Ended n) c e = refl
  leaves m (effect.Taken t) c e = refl

  none_found : (m : Moment K V) (f : Effect) (c : CallThere K V) → leaves_owed f ≡ true → FindsObligation m f c
  none_found m (effect.Deferred n t) c e = absurd (cc e)
  none_found m (effect.Retired x) c e = absurd (cc e)
  none_found m _ c e = tt

  module _ (own : List ℕ) (map : ℕ) where
    abbrev Finds : List Effect → Moment K V → Type 0
    Finds effects m = AtEachEffect (λ v f. ByCall (FindsObligation v f) (acting (Some own) v)) (Some own) (Some map) effects m

    abbrev Follows : List Effect → Moment K V → List Thing → Type 0
    Follows effects m after = Finds effects m × (d : CallThere K V) × (call_of own (with_effects (Some own) (Some map) effects m) ≡ Some d) × (d.owes ≡ after)

    found : (f : Effect) (m : Moment K V) (c : CallThere K V) → call_of own m ≡ Some c → FindsObligation m f c → ByCall (FindsObligation m f) (acting (Some own) m)
    found f m c is finds = subst (ByCall (FindsObligation m f)) (sym is) finds

    all_leave : (effects : List Effect) (m : Moment K V) (c : CallThere K V) → call_of own m ≡ Some c → AllLeave effects → Follows effects m c.owes
    all_leave [] m c is all = (tt, c, is, refl)
    all_leave (f ∷ fs) m c is all =
        let rest = all_leave fs (with_effect (Some own) (Some map) f m) (call_by m f c) (acted_on own map f m c is) all.1 in
        ((found f m c is (none_found m f c all.0), rest.0), rest.1, rest.2, rest.3 ∙ leaves m f c all.0)

    one_follows : (f : Effect) (m : Moment K V) (c : CallThere K V) → call_of own m ≡ Some c → (after : List Thing) → FindsObligation m f c → (call_by m f c).owes ≡ after → Follows (f ∷ []) m after
    one_follows f m c is after finds owes = ((found f m c is finds, tt), call_by m f c, acted_on own map f m c is, owes)

    -- what is handed over is the first that it owes
    hands_found : (f : Effect) (x : Thing) (m : Moment K V) (c : CallThere K V) (after : List Thing) → HandsOver f x → c.owes ≡ x ∷ after → FindsObligation m f c × ((call_by m f c).owes ≡ after)
    hands_found (effect.Deferred n t) x m c after is owes =
        let all : c.owes ≡ APair n ∷ after = owes ∙ ap (λ (y : Thing). y ∷ after) is in
        (ap (is_in same_thing (APair n)) all ∙ first_in (APair n) after, ap (without_one same_thing (APair n)) all ∙ without_first (APair n) after)
    hands_found (effect.Retired (APair n)) x m c after is owes =
        let all : c.owes ≡ APair n ∷ after = owes ∙ ap (λ (y : Thing). y ∷ after) is in
        (ap (is_in same_thing (APair n)) all ∙ first_in (APair n) after, ap (without_one same_thing (APair n)) all ∙ without_first (APair n) after)
    hands_found (effect.Retired (ATable t)) x m c after is owes =
        let all : c.owes ≡ ATable t ∷ after = owes ∙ ap (λ (y : Thing). y ∷ after) is in (
          match_both m.is_alone _ _ (ap (is_first_table t) all ∙ table_itself t) (ap (is_in same_thing (ATable t)) all ∙ first_in (ATable t) after),
          ap (without_one same_thing (ATable t)) all ∙ without_first (ATable t) after,
        )
    hands_found _ x m c after is owes = absurd is

    follows : (effects : List Effect) (m : Moment K V) (c : CallThere K V) → call_of own m ≡ Some c → (after : List Thing) → ObligationsGo m effects c.owes after → Follows effects m after
    follows effects m c is after (KeepsOwed all e) = subst (Follows effects m) (sym e) (all_leave effects m c is all)
    follows effects m c is after (TakesOut p are e) =
        subst (λ (l : List Effect). Follows l m after) (sym are) (one_follows (effect.Removed p) m c is after tt (sym e))
    follows effects m c is after (PutsOver p n s are e) =
        let d = call_by m (effect.Replaced p) c in
        let v = with_effect (Some own) (Some map) (effect.Replaced p) m in
        let d_is = acted_on own map (effect.Replaced p) m c is in
        subst (λ (l : List Effect). Follows l m after) (sym are) (
          (found (effect.Replaced p) m c is tt, (found (effect.Stored n s) v d d_is tt, tt)),
          call_by v (effect.Stored n s) d,
          acted_on own map (effect.Stored n s) v d d_is,
          (due_owes d.call d d.replacing n).0 ∙ sym e,
        )
    follows effects m c is after (Passes t are e) = subst (λ (l : List Effect). Follows l m after) (sym are) (one_follows (effect.Promoted t) m c is after tt (sym e))
    follows effects m c is after (HandsFirst f x are hands owes) =
        let it = hands_found f x m c after hands owes in subst (λ (l : List Effect). Follows l m after) (sym are) (one_follows f m c is after it.0 it.1)

pub owes_follow : (K V : Type 0) → ObligationsFollow K V
owes_follow K V own map effects m c is after go = follows own map effects m c is after go

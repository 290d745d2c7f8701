-- What effects leave of what a call owes: one that shifts no pair leaves it, and one that stores or removes a pair makes it what the call means then.
use Rattle.std.specs.Prelude.{◌≡◌, ℕ, Bool, true, false, List, [], ◌∷◌, ◌++◌, flat_map, Some, if◌then◌else◌}
use Rattle.std.proofs.Common.{refl, ap, sym, ◌∙◌}
use Rattle.run_shows.specs.Given.RunsSame.{is_same}
use Rattle.run_shows.specs.Given.RunsDeclared.effect.Effect.{Effect}
use Rattle.run_shows.specs.Given.RunsDeclared.effect.Effect.TheVariants as effect
use Rattle.run_shows.specs.Given.SchedulesEffects.{call_by, with_effect, with_effects}
use Rattle.run_shows.specs.Given.SchedulesLinearizable.{shift_of}
use Rattle.run_shows.specs.Given.SchedulesMoment.{UnderWay as CallThere, Moment}
use Rattle.run_shows.specs.Given.SchedulesSequential.{Shift}
use Rattle.run_shows.specs.Given.SchedulesViews.{call_of}
use Rattle.run_shows.proofs.Follows.Calls.{changed_same, changed, found}

pub none_of : (xs ys : List Shift) → xs ++ ys ≡ [] → (xs ≡ []) × (ys ≡ [])
none_of [] ys e = (refl, e)
none_of (x ∷ xs) ys e = absurd (cc e)

module _ {K V : Type 0} where
  effect_due : (m : Moment K V) (f : Effect) (c : CallThere K V) → shift_of f ≡ [] → (call_by m f c).due ≡ c.due
  effect_due m (effect.Asked growth) c none = refl
  effect_due m effect.PairMade c none = refl
  effect_due m effect.PairGivenUp c none = refl
  effect_due m (effect.TableMade t) c none = refl
  effect_due m (effect.TableGivenUp t) c none = refl
  effect_due m (effect.Linked t shape) c none = refl
  effect_due m (effect.Promoted t) c none = refl
  effect_due m (effect.Copied n s) c none = refl
  effect_due m (effect.Stored n s) c none = absurd (cc none)
  effect_due m (effect.Replaced n) c none = absurd (cc none)
  effect_due m (effect.Removed n) c none = absurd (cc none)
  effect_due m (effect.Counted s) c none = refl
  effect_due m (effect.Deferred n t) c none = refl
  effect_due m (effect.Retired x) c none = refl
  effect_due m (effect.Reclaimed x) c none = refl
  effect_due m (effect.Ended n) c none = refl
  effect_due m (effect.Taken t) c none = refl

  module _ (own : List ℕ) (acted : ℕ) (name : List ℕ) where
    if_due : (m : Moment K V) (f : Effect) (c : CallThere K V) (q : Bool) → is_same c.caller own ≡ q → (is_same c.caller own ≡ true → shift_of f ≡ []) → (if q then call_by m f c else c).due ≡ c.due
    if_due m f c true e none = effect_due m f c (none e)
    if_due m f c false e none = refl

    -- a call owes what it owed, after effects of others, or where none shifts a pair
    pub effects_due : (effects : List Effect) (m : Moment K V) (c : CallThere K V) → call_of name m ≡ Some c → (is_same c.caller own ≡ true → flat_map shift_of effects ≡ [])
        → (d : CallThere K V) × (call_of name (with_effects (Some own) (Some acted) effects m) ≡ Some d) × (d.due ≡ c.due)
    effects_due [] m c is none = (c, is, refl)
    effects_due (f ∷ effects) m c is none =
        let d = changed (call_by m f) (changed_same m f) own c in
        let rest = effects_due effects (with_effect (Some own) (Some acted) f m) d (found (call_by m f) (changed_same m f) own name m.calls c is)
        (λ e. (none_of (shift_of f) (flat_map shift_of effects) (none (as_before (is_same c.caller own) refl e))).1) in
        (rest.0, rest.1, rest.2 ∙ if_due m f c (is_same c.caller own) refl (λ e. (none_of (shift_of f) (flat_map shift_of effects) (none e)).0))
      where
        as_before : (q : Bool) → is_same c.caller own ≡ q → is_same (if q then call_by m f c else c).caller own ≡ true → is_same c.caller own ≡ true
        as_before true e there = ap (λ (l : List ℕ). is_same l own) (sym (changed_same m f c).0) ∙ there
        as_before false e there = there

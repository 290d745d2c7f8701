-- The effects of an operation leave a call replacing nothing: what is replaced gives way to what is stored by the same operation.
use Rattle.std.specs.Prelude.{◌≡◌, ℕ, Bool, true, false, List, [], ◌∷◌, Option, Some, None, if◌then◌else◌}
use Rattle.std.proofs.Common.{refl, ap, sym, ◌∙◌}
use Rattle.run_shows.specs.Given.RunsSame.{is_same}
use Rattle.run_shows.specs.Given.RunsDeclared.call.Call.{Call}
use Rattle.run_shows.specs.Given.RunsDeclared.call.Call.TheVariants as call
use Rattle.run_shows.specs.Given.RunsDeclared.effect.Effect.{Effect}
use Rattle.run_shows.specs.Given.RunsDeclared.effect.Effect.TheVariants as effect
use Rattle.run_shows.specs.Given.SchedulesEffects.{due_for, call_by, with_effect, with_effects}
use Rattle.run_shows.specs.Given.SchedulesMoment.{UnderWay as CallThere, Moment}
use Rattle.run_shows.specs.Given.SchedulesViews.{call_of}
use Rattle.run_shows.specs.Given.EffectsDeclared.changed.Changed.{Changed}
use Rattle.run_shows.specs.Given.EffectsEffects.{effects_of}
use Rattle.run_shows.specs.Given.EffectsKnown.{Known}
use Rattle.run_shows.specs.Given.EffectsDeclared.acting.Acting.{Acting}
use Rattle.run_shows.specs.Given.EffectsDeclared.acting.Acting.TheVariants as acts
use Rattle.run_shows.proofs.Follows.Calls.{changed_same, changed as changed_if, found}
use Rattle.run_shows.proofs.Follows.OfEach.{OfEach, each_operation_so}

-- the pair that a call replaces after an effect
abbrev pub replacing_by : Effect → Option ℕ → Option ℕ
replacing_by (effect.Replaced p) r = Some p
replacing_by (effect.Stored n s) r = None
replacing_by _ r = r

-- and after one after another
abbrev pub replacing_after : List Effect → Option ℕ → Option ℕ
replacing_after [] r = r
replacing_after (f ∷ effects) r = replacing_after effects (replacing_by f r)

abbrev pub Settles : List Effect → Type 0
Settles effects = replacing_after effects None ≡ None

module _ (caller map : ℕ) where
  abbrev its : Acting
  its = acts.Call caller map

  each_settles : (known : Known) → OfEach its known Settles
  each_settles known = record {
    nothing = refl;
    linked = λ turn shape. refl;
    deferred = λ n t. refl;
    stored = λ s. refl;
    replaced = λ old s. refl;
    removed = λ n. refl;
    copied = λ n s. refl;
    retired = λ x. refl;
    asked = refl;
    pair_made = refl;
    table_made = λ turn. refl;
    pair_given_up = refl;
    table_given_up = λ turn. refl;
  }

  pub all_settle : (known : Known) (told : Changed) → Settles (effects_of its known told)
  all_settle known told = each_operation_so its known Settles (each_settles known) (λ t. refl) (λ field. refl) (λ n. refl) (λ t. refl) refl told

module _ {K V : Type 0} where
  due_replacing : (its : Call K V) (c : CallThere K V) (old : Option ℕ) (new : ℕ)
      → ((due_for its c old new).replacing ≡ c.replacing) × ((due_for its c old new).replies ≡ c.replies) × ((due_for its c old new).stands ≡ c.stands)
  due_replacing (call.On one) c old new = (refl, refl, refl)
  due_replacing (call.Reserve n) c old new = (refl, refl, refl)
  due_replacing call.Clear c old new = (refl, refl, refl)
  due_replacing call.Retain c old new = (refl, refl, refl)
  due_replacing call.Len c old new = (refl, refl, refl)
  due_replacing call.Walk c old new = (refl, refl, refl)

  -- a call after effects: it has been told nothing, stands where it stood, and replaces this
  pub record IsOn (c d : CallThere K V) : Type 0 where
    pub caller : d.caller ≡ c.caller
    pub map : d.map ≡ c.map
    pub call : d.call ≡ c.call
    pub replies : d.replies ≡ c.replies
    pub stands : d.stands ≡ c.stands

  pub same_on : (c : CallThere K V) → IsOn c c
  same_on c = record { caller = refl; map = refl; call = refl; replies = refl; stands = refl }

  on_then : (c d e : CallThere K V) → IsOn c d → IsOn d e → IsOn c e
  on_then c d e h k = record { caller = k.caller ∙ h.caller; map = k.map ∙ h.map; call = k.call ∙ h.call; replies = k.replies ∙ h.replies; stands = k.stands ∙ h.stands }

  effect_on : (m : Moment K V) (f : Effect) (c : CallThere K V) → IsOn c (call_by m f c) × ((call_by m f c).replacing ≡ replacing_by f c.replacing)
  effect_on m (effect.Asked growth) c = (record { caller = refl; map = refl; call = refl; replies = refl; stands = refl }, refl)
  effect_on m effect.PairMade c = (record { caller = refl; map = refl; call = refl; replies = refl; stands = refl }, refl)
  effect_on m effect.PairGivenUp c = (record { caller = refl; map = refl; call = refl; replies = refl; stands = refl }, refl)
  effect_on m (effect.TableMade t) c = (record { caller = refl; map = refl; call = refl; replies = refl; stands = refl }, refl)
  effect_on m (effect.TableGivenUp t) c = (record { caller = refl; map = refl; call = refl; replies = refl; stands = refl }, refl)
  effect_on m (effect.Linked t shape) c = (record { caller = refl; map = refl; call = refl; replies = refl; stands = refl }, refl)
  effect_on m (effect.Promoted t) c = (record { caller = refl; map = refl; call = refl; replies = refl; stands = refl }, refl)
  effect_on m (effect.Copied n s) c = (same_on c, refl)
  effect_on m (effect.Stored n s) c =
      let same = changed_same m (effect.Stored n s) c in
      let due = due_replacing c.call c c.replacing n in
      (record { caller = same.0; map = same.1; call = same.2; replies = due.1; stands = due.2 }, refl)
  effect_on m (effect.Replaced n) c = (record { caller = refl; map = refl; call = refl; replies = refl; stands = refl }, refl)
  effect_on m (effect.Removed n) c =
      let same = changed_same m (effect.Removed n) c in
      let due = due_replacing c.call c (Some n) _ in
      (record { caller = same.0; map = same.1; call = same.2; replies = due.1; stands = due.2 }, due.0)
  effect_on m (effect.Counted s) c = (record { caller = refl; map = refl; call = refl; replies = refl; stands = refl }, refl)
  effect_on m (effect.Deferred n t) c = (record { caller = refl; map = refl; call = refl; replies = refl; stands = refl }, refl)
  effect_on m (effect.Retired x) c = (record { caller = refl; map = refl; call = refl; replies = refl; stands = refl }, refl)
  effect_on m (effect.Reclaimed x) c = (same_on c, refl)
  effect_on m (effect.Ended n) c = (same_on c, refl)
  effect_on m (effect.Taken t) c = (same_on c, refl)

  module _ (own : List ℕ) (acted : ℕ) (name : List ℕ) where
    -- of a call that has this name of its caller
    abbrev pub After : List Effect → CallThere K V → CallThere K V → Type 0
    After effects c d = IsOn c d × (d.replacing ≡ (if is_same c.caller own then replacing_after effects c.replacing else c.replacing))

    one_effect : (f : Effect) (m : Moment K V) (c : CallThere K V) (q : Bool) → is_same c.caller own ≡ q
        → IsOn c (if q then call_by m f c else c) × ((if q then call_by m f c else c).replacing ≡ (if q then replacing_by f c.replacing else c.replacing))
    one_effect f m c true e = effect_on m f c
    one_effect f m c false e = (same_on c, refl)

    -- each call is found after effects as it was before
    pub calls_after : (effects : List Effect) (m : Moment K V) (c : CallThere K V) → call_of name m ≡ Some c
        → (d : CallThere K V) × (call_of name (with_effects (Some own) (Some acted) effects m) ≡ Some d) × After effects c d
    calls_after [] m c is = (c, is, (same_on c, by_nothing (is_same c.caller own)))
      where
        by_nothing : (q : Bool) → c.replacing ≡ (if q then c.replacing else c.replacing)
        by_nothing true = refl
        by_nothing false = refl
    calls_after (f ∷ effects) m c is =
        let d = changed_if (call_by m f) (changed_same m f) own c in
        let here = found (call_by m f) (changed_same m f) own name m.calls c is in
        let rest = calls_after effects (with_effect (Some own) (Some acted) f m) d here in
        let first = one_effect f m c (is_same c.caller own) refl in
        (rest.0, rest.1, (on_then c d rest.0 first.0 rest.2.0, rest.2.1 ∙ by_both d first (is_same c.caller own) refl))
      where
        by_both : (d : CallThere K V)
            → IsOn c d × (d.replacing ≡ (if is_same c.caller own then replacing_by f c.replacing else c.replacing)) → (q : Bool) → is_same c.caller own ≡ q
            → (if is_same d.caller own then replacing_after effects d.replacing else d.replacing) ≡ (if is_same c.caller own then replacing_after (f ∷ effects) c.replacing else c.replacing)
        by_both d first true e =
            ap (λ z. if z then replacing_after effects d.replacing else d.replacing) (ap (λ (l : List ℕ). is_same l own) first.0.caller ∙ e)
            ∙ ap (replacing_after effects) (first.1 ∙ ap (λ z. if z then replacing_by f c.replacing else c.replacing) e)
            ∙ sym (ap (λ z. if z then replacing_after (f ∷ effects) c.replacing else c.replacing) e)
        by_both d first false e =
            ap (λ z. if z then replacing_after effects d.replacing else d.replacing) (ap (λ (l : List ℕ). is_same l own) first.0.caller ∙ e)
            ∙ first.1 ∙ ap (λ z. if z then replacing_by f c.replacing else c.replacing) e
            ∙ sym (ap (λ z. if z then replacing_after (f ∷ effects) c.replacing else c.replacing) e)

    -- so it replaces nothing after those of an operation
    pub replaces_none : (effects : List Effect) (c d : CallThere K V) → Settles effects → After effects c d → c.replacing ≡ None → d.replacing ≡ None
    replaces_none effects c d settles after none = after.1 ∙ by_name (is_same c.caller own)
      where
        by_name : (q : Bool) → (if q then replacing_after effects c.replacing else c.replacing) ≡ None
        by_name true = ap (replacing_after effects) none ∙ settles
        by_name false = none

-- Which effects of a step take something out of a map: the first one at most. A step of a call reclaims nothing but what was its own.
use Rattle.std.specs.Prelude.{◌≡◌, ℕ, Bool, true, false, List, [], ◌∷◌, ◌++◌, flat_map, Option, if◌then◌else◌}
use Rattle.std.specs.List.{AllByRecursion}
use Rattle.std.proofs.Common.{refl, ap, ◌∙◌, subst}
use Rattle.std.proofs.lemmas.List.Concat.{flat_map-cons}
use Rattle.run_places.specs.Given.RunsDeclared.effect.Effect.{Effect}
use Rattle.run_places.specs.Given.RunsDeclared.effect.Effect.TheVariants.{Asked, Promoted, Replaced, Removed, Reclaimed}
use Rattle.run_places.specs.Given.RunsDeclared.effect.Growth.TheVariants.{ABucket}
use Rattle.run_places.specs.Given.RunsDeclared.effect.Thing.{Thing}
use Rattle.run_places.specs.Given.SchedulesEffects.{out_by, shelter, with_effect, with_effects}
use Rattle.run_places.specs.Given.SchedulesModel.{thing_back}
use Rattle.run_places.specs.Given.SchedulesMoment.{Sheltered, Moment}
use Rattle.run_places.specs.Given.EffectsDeclared.changed.Changed.{Changed}
use Rattle.run_places.specs.Given.EffectsDeclared.changed.Changed.TheVariants as changed
use Rattle.run_places.specs.Given.EffectsEffects.{taken_by, named, effects_of}
use Rattle.run_places.specs.Given.EffectsKnown.{Known}
use Rattle.run_places.specs.Given.EffectsDeclared.acting.Acting.TheVariants.{Call}
use Rattle.run_places.proofs.Given.FollowsAlike.{is_calm, AllCalm}
use Rattle.run_places.proofs.Given.FollowsOfEach.{OfEach, led_so, operation_so}
use Rattle.run_histories.proofs.Promises.Lists.{none_shelter}

-- it takes nothing out of a map
abbrev pub KeepsIn : Effect → Type 0
KeepsIn (Promoted t) = ⊥
KeepsIn (Replaced n) = ⊥
KeepsIn (Removed n) = ⊥
KeepsIn _ = Unit {0}

-- but for the first one they take nothing out, and reclaim nothing
abbrev pub OutFirst : List Effect → Type 0
OutFirst [] = Unit {0}
OutFirst (f ∷ effects) = AllByRecursion KeepsIn effects

abbrev pub ReclaimNone : List Effect → Type 0
ReclaimNone effects = flat_map thing_back effects ≡ []

abbrev pub AreFew : List Effect → Type 0
AreFew effects = OutFirst effects × ReclaimNone effects

-- they take nothing out, and reclaim nothing
abbrev pub TakeNothing : List Effect → Type 0
TakeNothing effects = AllByRecursion KeepsIn effects × ReclaimNone effects

calm_keeps : (f : Effect) → is_calm f ≡ true → KeepsIn f
calm_keeps (Promoted t) e = absurd (cc e)
calm_keeps (Replaced n) e = absurd (cc e)
calm_keeps (Removed n) e = absurd (cc e)
calm_keeps _ e = tt

pub calm_keep : (effects : List Effect) → AllCalm effects → AllByRecursion KeepsIn effects
calm_keep [] all = tt
calm_keep (f ∷ effects) all = (calm_keeps f all.0, calm_keep effects all.1)

pub room_keeps : (q : Bool) → AllByRecursion KeepsIn (if q then [] else Asked ABucket ∷ [])
room_keeps true = tt
room_keeps false = (tt, tt)

calm_back : (f : Effect) → is_calm f ≡ true → thing_back f ≡ []
calm_back (Reclaimed x) e = absurd (cc e)
calm_back _ e = refl

calm_none : (effects : List Effect) → AllCalm effects → ReclaimNone effects
calm_none [] all = refl
calm_none (f ∷ effects) all =
    flat_map-cons thing_back f effects ∙ ap (λ (xs : List Thing). xs ++ flat_map thing_back effects) (calm_back f all.0) ∙ calm_none effects all.1

pub calm_nothing : (effects : List Effect) → AllCalm effects → TakeNothing effects
calm_nothing effects all = (calm_keep effects all, calm_none effects all)

module _ (caller map : ℕ) where
  each_few : (known : Known) → OfEach (Call caller map) known AreFew
  each_few known = record {
    nothing = (tt, refl);
    linked = λ turn shape. (tt, refl);
    deferred = λ n t. (tt, refl);
    stored = λ s. (tt, refl);
    replaced = λ old s. ((tt, tt), refl);
    removed = λ n. (tt, refl);
    copied = λ n s. (tt, refl);
    retired = λ x. (tt, refl);
    asked = (tt, refl);
    pair_made = ((tt, tt), refl);
    table_made = λ turn. ((tt, tt), refl);
    pair_given_up = (tt, refl);
    table_given_up = λ turn. (tt, refl);
  }

  -- of a block that is a caller's own
  abbrev pub TakesOwn : Known → Changed → Type 0
  TakesOwn known (changed.Took b) = AreFew (taken_by (Call caller map) (known.roles b))
  TakesOwn known _ = Unit {0}

  pub effects_few : (known : Known) (told : Changed) → TakesOwn known told → AreFew (effects_of (Call caller map) known told)
  effects_few known told own =
      operation_so (Call caller map) known AreFew (each_few known) told (λ r old new e. led_so (Call caller map) known AreFew (each_few known) (λ t. (tt, refl)) (named known old) (named known new))
      (λ b field old new of e is. (tt, refl)) (λ b e of_map. subst (TakesOwn known) e own) (λ bucket had e. (tt, refl))

-- an effect that takes nothing out shelters nothing more
module _ {K V : Type 0} (caller : Option (List ℕ)) (map : Option ℕ) where
  keeps_nothing : (f : Effect) (m : Moment K V) → KeepsIn f → out_by m f ≡ []
  keeps_nothing (Promoted t) m keeps = absurd keeps
  keeps_nothing (Replaced n) m keeps = absurd keeps
  keeps_nothing (Removed n) m keeps = absurd keeps
  keeps_nothing _ m keeps = refl

  keeps_one : (f : Effect) (m : Moment K V) → KeepsIn f → (with_effect caller map f m).sheltered ≡ m.sheltered
  keeps_one f m keeps = ap (λ things. shelter things m ++ m.sheltered) (keeps_nothing f m keeps) ∙ ap (λ (xs : List Sheltered). xs ++ m.sheltered) (none_shelter m.there.guards)

  pub keep_all : (effects : List Effect) (m : Moment K V) → AllByRecursion KeepsIn effects → (with_effects caller map effects m).sheltered ≡ m.sheltered
  keep_all [] m keeps = refl
  keep_all (f ∷ effects) m keeps = keep_all effects (with_effect caller map f m) keeps.1 ∙ keeps_one f m keeps.0

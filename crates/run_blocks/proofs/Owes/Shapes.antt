-- Which effects an operation of a call has together: none, or one; a pair gives way to the one that is stored by the same operation; and what is made was asked for.
use Rattle.std.specs.Prelude.{◌≡◌, ℕ, Bool, true, ◌&&◌, List, [], ◌∷◌}
use Rattle.std.specs.List.{list_all}
use Rattle.std.proofs.Common.{refl, ap}
use Rattle.run_debts.specs.Given.RunsDeclared.effect.Effect.{Effect}
use Rattle.run_debts.specs.Given.RunsDeclared.effect.Effect.TheVariants as effect
use Rattle.run_debts.specs.Given.RunsDeclared.effect.Growth.TheVariants.{ABlock}
use Rattle.run_debts.specs.Given.RunsDeclared.effect.Spot.{Spot}
use Rattle.run_debts.specs.Given.SchedulesHanding.{is_call_effect, is_made}
use Rattle.run_debts.specs.Given.EffectsDeclared.changed.Changed.{Changed}
use Rattle.run_debts.specs.Given.EffectsDeclared.changed.Changed.TheVariants as changed
use Rattle.run_debts.specs.Given.EffectsEffects.{table_at, named, effects_of}
use Rattle.run_debts.specs.Given.EffectsKnown.{Known}
use Rattle.run_debts.specs.Given.EffectsDeclared.acting.Acting.{Acting}
use Rattle.run_debts.specs.Given.EffectsDeclared.acting.Acting.TheVariants as acts
use Rattle.run_debts.proofs.Given.FollowsOfEach.{OfEach, led_so, operation_so}
use Rattle.run_debts.proofs.Given.FollowsOnward.{IsOfMap}

pub data Shaped : List Effect → Type 0 where
  TellsNothing : Shaped []
  TellsOne : (f : Effect) → is_call_effect f ≡ true → Shaped (f ∷ [])
  TellsOver : (p n : ℕ) (s : Spot) → Shaped (effect.Replaced p ∷ effect.Stored n s ∷ [])
  TellsMade : (f : Effect) → is_made f ≡ true → Shaped (effect.Asked ABlock ∷ f ∷ [])

module _ (caller map : ℕ) where
  abbrev its : Acting
  its = acts.Call caller map

  each_shaped : (known : Known) → OfEach its known Shaped
  each_shaped known = record {
    nothing = TellsNothing;
    linked = λ turn shape. TellsOne (effect.Linked (table_at its turn) shape) refl;
    deferred = λ n t. TellsOne (effect.Deferred n t) refl;
    stored = λ s. TellsOne (effect.Stored _ s) refl;
    replaced = λ old s. TellsOver old _ s;
    removed = λ n. TellsOne (effect.Removed n) refl;
    copied = λ n s. TellsOne (effect.Copied n s) refl;
    retired = λ x. TellsOne (effect.Retired x) refl;
    asked = TellsOne (effect.Asked ABlock) refl;
    pair_made = TellsMade effect.PairMade refl;
    table_made = λ turn. TellsMade (effect.TableMade (table_at its turn)) refl;
    pair_given_up = TellsOne effect.PairGivenUp refl;
    table_given_up = λ turn. TellsOne (effect.TableGivenUp (table_at its turn)) refl;
  }

  -- where it asks for no bucket, and takes away no pair and no table of a map
  pub all_shaped : (known : Known) (told : Changed) → ((bucket : ℕ) (had : Bool) → told ≡ changed.Roomed bucket had → ⊥) → ((b : ℕ) → told ≡ changed.Took b → IsOfMap (known.roles b) → ⊥)
      → Shaped (effects_of its known told)
  all_shaped known told no_bucket takes =
      operation_so its known Shaped (each_shaped known) told
      (λ r old new e. led_so its known Shaped (each_shaped known) (λ t. TellsOne (effect.Promoted t) refl) (named known old) (named known new))
      (λ b field old new of e is. TellsOne (effect.Counted field) refl) (λ b e of_map. absurd (takes b e of_map)) (λ bucket had e. absurd (no_bucket bucket had e))

-- each of them is one of a call
made_of_call : (f : Effect) → is_made f ≡ true → is_call_effect f ≡ true
made_of_call effect.PairMade e = refl
made_of_call (effect.TableMade t) e = refl
made_of_call _ e = absurd (cc e)

pub all_of_calls : (effects : List Effect) → Shaped effects → list_all is_call_effect effects ≡ true
all_of_calls _ TellsNothing = refl
all_of_calls _ (TellsOne f is) = ap (λ (q : Bool). q && true) is
all_of_calls _ (TellsOver p n s) = refl
all_of_calls _ (TellsMade f made) = ap (λ (q : Bool). q && true) (made_of_call f made)

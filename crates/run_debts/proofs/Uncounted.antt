-- A step counts only by a word of a map's count.
use Rattle.std.specs.Prelude.{◌≡◌, ℕ}
use Rattle.std.proofs.Common.{refl}
use Rattle.run_places.specs.Given.SeizeWordsDeclared.at.At.TheVariants.{Word}
use Rattle.run_places.specs.Given.EffectsDeclared.changed.Changed.{Changed}
use Rattle.run_places.specs.Given.EffectsDeclared.changed.Changed.TheVariants as changed
use Rattle.run_places.specs.Given.EffectsEffects.{named, effects_of}
use Rattle.run_places.specs.Given.EffectsKnown.{Known}
use Rattle.run_places.specs.Given.EffectsDeclared.acting.Acting.{Acting}
use Rattle.run_places.specs.Given.EffectsDeclared.acting.Acting.TheVariants as acts
use Rattle.run_places.specs.Given.EffectsDeclared.role.Role.TheVariants as role
use Rattle.run_debts.proofs.Gains.{NoneCounts}
use Rattle.run_places.proofs.Given.FollowsOfEach.{OfEach, led_so, taken_so, operation_so}

-- no word of a map's count is written
abbrev pub CountsNowhere : Known → Changed → Type 0
CountsNowhere known told = (b field old new of : ℕ) → told ≡ changed.Wrote (Word b field) old new → known.roles b ≡ role.Counter of → ⊥

module _ (caller map : ℕ) (known : Known) where
  abbrev its : Acting
  its = acts.Call caller map

  each_none : OfEach its known NoneCounts
  each_none = record {
    nothing = tt;
    linked = λ turn shape. (refl, tt);
    deferred = λ n t. (refl, tt);
    stored = λ s. (refl, tt);
    replaced = λ old s. (refl, (refl, tt));
    removed = λ n. (refl, tt);
    copied = λ n s. (refl, tt);
    retired = λ x. (refl, tt);
    asked = (refl, tt);
    pair_made = (refl, (refl, tt));
    table_made = λ turn. (refl, (refl, tt));
    pair_given_up = (refl, tt);
    table_given_up = λ turn. (refl, tt);
  }

  pub none_counts : (told : Changed) → CountsNowhere known told → NoneCounts (effects_of its known told)
  none_counts told never =
      operation_so its known NoneCounts each_none told (λ r old new e. led_so its known NoneCounts each_none (λ t. (refl, tt)) (named known old) (named known new))
      (λ b field old new of e is. absurd (never b field old new of e is)) (λ b e of_map. taken_so its known NoneCounts each_none (λ n. (refl, tt)) (λ t. (refl, tt)) (known.roles b) of_map) (λ bucket had e. (refl, tt))

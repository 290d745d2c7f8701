-- What an operation does that made no block: it makes no pair, and no table.
use Rattle.std.specs.Prelude.{◌≡◌, Bool, true, false, ◌&&◌, ◌||◌, nat_lt, List, [], ◌∷◌, if◌then◌else◌}
use Rattle.std.specs.List.{list_any}
use Rattle.std.proofs.Common.{refl, ap, ◌∙◌}
use Rattle.run_schedules.specs.declared.effect.Effect.{Effect}
use Rattle.run_schedules.specs.declared.effect.Effect.TheVariants as effect
use Rattle.run_schedules.specs.declared.effect.Growth.TheVariants.{ABucket}
use Rattle.run_schedules.specs.Schedules.Handing.{is_made}
use Rattle.run_blocks.specs.Given.TellerChanged.{is_made as is_block_made}
use Rattle.run_executor.specs.Given.EffectsDeclared.changed.Changed.{Changed}
use Rattle.run_executor.specs.Given.EffectsDeclared.changed.Changed.TheVariants as changed
use Rattle.run_executor.specs.Given.EffectsEffects.{effects_of}
use Rattle.run_executor.specs.Given.EffectsKnown.{Known}
use Rattle.run_executor.specs.Given.EffectsDeclared.acting.Acting.{Acting}
use Rattle.run_blocks.proofs.Owes.Short.Effects.{NoneOfGrowth, none_asked, of_growth}

not_made : (f : Effect) → of_growth f ≡ false → is_made f ≡ false
not_made effect.PairMade none = absurd (cc none)
not_made (effect.TableMade t) none = absurd (cc none)
not_made _ none = refl

all_unmade : (effects : List Effect) → NoneOfGrowth effects → list_any is_made effects ≡ false
all_unmade [] none = refl
all_unmade (f ∷ fs) none = ap (λ (q : Bool). q || list_any is_made fs) (not_made f none.0) ∙ all_unmade fs none.1

asks_alone : (q : Bool) → list_any is_made (if q then [] else effect.Asked ABucket ∷ []) ≡ false
asks_alone true = refl
asks_alone false = refl

module _ (its : Acting) (known : Known) where
  pub none_made : (told : Changed) → is_block_made told ≡ false → list_any is_made (effects_of its known told) ≡ false
  none_made changed.Nothing unmade = refl
  none_made (changed.Wrote at old new) unmade = all_unmade (effects_of its known (changed.Wrote at old new)) (none_asked its known (changed.Wrote at old new) tt)
  none_made (changed.Made kind b) unmade = absurd (cc unmade)
  none_made (changed.Unmade kind) unmade = refl
  none_made (changed.Took b) unmade = all_unmade (effects_of its known (changed.Took b)) (none_asked its known (changed.Took b) tt)
  none_made (changed.Roomed bucket had) unmade = asks_alone (had && nat_lt bucket known.buckets)

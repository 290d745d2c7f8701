-- Wherever a list has led, each entry of its history that was refused a growth has asked for it, and made nothing.
use Rattle.std.specs.Prelude.{true, false}
use Rattle.std.proofs.Common.{refl}
use Rattle.run_kept.specs.Given.EffectsDeclared.changed.Changed.{Changed}
use Rattle.run_kept.specs.Given.EffectsDeclared.changed.Changed.TheVariants as changes
use Rattle.run_kept.specs.Given.EffectsEffects.{effects_of}
use Rattle.run_kept.specs.Given.EffectsKnown.{Known}
use Rattle.run_kept.specs.Given.EffectsDeclared.acting.Acting.{Acting}
use Rattle.run_schedules.specs.Deeds.History.{Refuses}
use Rattle.play_lists.specs.Played.Play.{is_refusal}
use Rattle.play_lists.specs.Agrees.Grants.{EachRefuses}
use Rattle.play_lists.proofs.Agrees.Entries.{Grows}

pub refusals_so : (who : Acting) (known : Known) (changed : Changed) → Refuses (is_refusal changed) (effects_of who known changed)
refusals_so who known changes.Nothing = tt
refusals_so who known (changes.Wrote at old new) = tt
refusals_so who known (changes.Made kind b) = tt
refusals_so who known (changes.Unmade kind) = (refl, refl)
refusals_so who known (changes.Took b) = tt
refusals_so who known (changes.Roomed bucket true) = tt
refusals_so who known (changes.Roomed bucket false) = (refl, refl)

pub each_refuses : (K V : Type 0) → Grows K V EachRefuses
each_refuses K V = record { quiet = λ log d o its so. (tt, so); works = λ log who known changed d o its so. (refusals_so who known changed, so) }

-- What the end of a map does to the blocks that it takes.
use Rattle.std.specs.Prelude.{ℕ, List, flat_map}
use Rattle.run_schedules.specs.declared.effect.Effect.{Effect}
use Rattle.run_executor.specs.Given.EffectsEffects.{taken_by}
use Rattle.run_executor.specs.Given.EffectsKnown.{Known}
use Rattle.run_executor.specs.Given.EffectsDeclared.acting.Acting.TheVariants.{Ending}

-- what it is to the run that an end reclaims these blocks, of which this was known as it began
abbrev pub ended_as : ℕ → Known → List ℕ → List Effect
ended_as map first blocks = flat_map (λ b. taken_by (Ending map) (first.roles b)) blocks

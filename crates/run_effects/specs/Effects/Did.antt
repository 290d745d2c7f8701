-- The few effects of one operation, as a list.
use Rattle.std.specs.Prelude.{List, [], ◌∷◌}
use Rattle.run_schedules.specs.declared.effect.Effect.{Effect}
use Rattle.run_effects.specs.declared.did.Did.{Did}
use Rattle.run_effects.specs.declared.did.Did.TheVariants as did

abbrev pub listed : Did → List Effect
listed did.Nothing = []
listed (did.One effect) = effect ∷ []
listed (did.Two first second) = first ∷ second ∷ []

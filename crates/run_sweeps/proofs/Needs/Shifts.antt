-- What the making of a map does brings no pair to a map, and takes none out.
use Rattle.std.specs.Prelude.{◌≡◌, true, []}
use Rattle.std.proofs.Common.{refl}
use Rattle.run_schedules.specs.declared.effect.Effect.{Effect}
use Rattle.run_schedules.specs.declared.effect.Effect.TheVariants.{Asked, TableMade, Linked}
use Rattle.run_schedules.specs.declared.effect.Growth.TheVariants.{ABlock}
use Rattle.run_schedules.specs.Schedules.Handing.{is_first_making}
use Rattle.run_schedules.specs.Schedules.Linearizable.{shift_of}

pub making_none : (f : Effect) → is_first_making f ≡ true → shift_of f ≡ []
making_none (Asked ABlock) is = refl
making_none (TableMade t) is = refl
making_none (Linked t shape) is = refl
making_none _ is = absurd (cc is)

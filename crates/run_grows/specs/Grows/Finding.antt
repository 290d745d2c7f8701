-- What a moment shows of calls by which the effects of each of their steps find what they must.
use Rattle.std.specs.Prelude.{ℕ, List}
use Rattle.run_schedules.specs.Schedules.Moment.{Moment}
use Rattle.run_finds.specs.Given.EffectsKnown.{Known}
use Rattle.run_finds.specs.Capacities.{RefinesCapacities}
use Rattle.run_finds.specs.Growing.{RefinesGrowing}
use Rattle.run_finds.specs.Puts.{RefinesPuts}
use Rattle.run_finds.specs.Waits.{RefinesWaits}
use Rattle.run_grows.specs.Grows.Further.{RefinesFurther}
use Rattle.run_finds.specs.Given.ScenesScene.{Scene}

-- A call on one key makes a table only where it has what it stores where its key is missing, and a copier the one behind a table that has no place; each map that stands was made for the capacity that the moment says; a pair that a call has in hand lies no
-- further on than the root, or was copied past an older table, and is to be put behind the one just before its own.
pub record RefinesFinding {K V : Type 0} (name : ℕ → List ℕ) (m : Moment K V) (known : Known) (s : Scene K V) : Type 0 where
  pub growing : RefinesGrowing m s
  pub further : RefinesFurther m s
  pub capacities : RefinesCapacities m s
  pub waits : RefinesWaits name m s
  pub puts : RefinesPuts known s

-- How the pairs of a table are copied into the next one, which then becomes the root: what each step does.
use Rattle.std.specs.Prelude.{ℕ}
use Rattle.map_tables.specs.Given.SeizeWordsPlan.{Plan, Turn, Now}
use Rattle.map_tables.specs.declared.node.Node.{Node}
use Rattle.map_tables.specs.declared.table.Table.{Table}
use Rattle.map_machines.specs.declared.yielding.Yielding.{Yielding}
use Rattle.map_machines.specs.declared.yielding.Yielding.TheVariants.{Done, Refused}
use Rattle.map_machines.specs.declared.copier.Copier.{Copier}
use Rattle.map_machines.specs.declared.copier.Copying.{Copying}
use Rattle.map_machines.specs.declared.copier.Copying.TheVariants as at
use Rattle.map_machines.specs.CopierClaims.{begins, follows, asks, sees, claims}
use Rattle.map_machines.specs.CopierMarks.{marks, covers}
use Rattle.map_machines.specs.CopierPlaces.{probes, puts}
use Rattle.map_machines.specs.CopierFurther.{passes, grows, aborts, replaces, remakes}
use Rattle.map_machines.specs.CopierCounts.{counts, tallies, unmarks, unclaims}
use Rattle.map_machines.specs.CopierPromotes.{promotes, announces, succeeds, retires}

module _ {K V : Type 0} where
  -- each point
  abbrev pub plan_at : (K → ℕ) → Copier → Copying → Plan (Node K V) (Copier × Yielding (Node K V) Table)
  plan_at hash c at.Begins = begins c
  plan_at hash c at.Follows = follows c
  plan_at hash c at.Asks = asks c
  plan_at hash c at.Sees = sees c
  plan_at hash c at.Claims = claims c
  plan_at hash c at.Marks = marks hash c
  plan_at hash c (at.Probes word key table probe) = probes c word key table probe
  plan_at hash c (at.Puts word key table probe) = puts c word key table probe
  plan_at hash c (at.Covers word) = covers c word
  plan_at hash c (at.Passes word key table) = passes c word key table
  plan_at hash c (at.Grows word key making) = grows c word key making
  plan_at hash c at.Aborts = aborts c
  plan_at hash c at.Replaces = replaces c
  plan_at hash c (at.Remakes making) = remakes c making
  plan_at hash c at.Counts = counts c
  plan_at hash c (at.Tallies word fault) = tallies c word fault
  plan_at hash c (at.Unmarks word fault) = unmarks c word fault
  plan_at hash c (at.Unclaims fault) = unclaims c fault
  plan_at hash c at.Promotes = promotes c
  plan_at hash c at.Announces = announces c
  plan_at hash c (at.Succeeds table) = succeeds c table
  plan_at hash c (at.Retires settle rest) = retires c settle rest
  plan_at hash c at.Over = Turn (Now (c, Done c.target))
  plan_at hash c (at.Refused fault) = Turn (Now (c, Refused fault))

  -- what its next step does, where this function gives the hash of each key
  abbrev pub copier_plan : (K → ℕ) → Copier → Plan (Node K V) (Copier × Yielding (Node K V) Table)
  copier_plan hash c = plan_at hash c c.stands

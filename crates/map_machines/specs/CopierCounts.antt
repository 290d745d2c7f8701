-- How a copying counts what it has done, and how it takes back what it can't do.
use Rattle.std.specs.Prelude.{ℕ, ◌+◌, ◌%◌, ◌^◌, ◌==◌, if◌then◌else◌}
use Rattle.map_tables.specs.Given.SeizeWordsDeclared.fault.Fault.{Fault}
use Rattle.map_tables.specs.Given.SeizeWordsOp.{Out, Store, Add, Found}
use Rattle.map_tables.specs.Given.SeizeWordsPlan.{Plan, Then, Do, Now}
use Rattle.map_tables.specs.declared.node.Node.{Node}
use Rattle.map_tables.specs.declared.table.Table.{Table}
use Rattle.map_tables.specs.declared.table_words.TheConstants.{CLAIM, COPIED}
use Rattle.map_machines.specs.declared.yielding.Yielding.{Yielding}
use Rattle.map_machines.specs.declared.yielding.Yielding.TheVariants.{Goes}
use Rattle.map_machines.specs.declared.copier.Copier.{Copier}
use Rattle.map_machines.specs.declared.copier.Copying.TheVariants as at
use Rattle.map_tables.specs.TablePlaces.{at_word, at_place}
use Rattle.map_machines.specs.CopierStates.{standing, behind}

-- A pair could have no place, for want of a table. What was done is counted first: a place that is marked is never counted again.
abbrev pub refusing : Copier → ℕ → Fault → Copier
refusing c word fault = if c.done == 0 then standing c (at.Unmarks word fault) else standing c (at.Tallies word fault)

-- it ends without its copy
abbrev pub given_up : Copier → Fault → Copier
given_up c fault = standing c (at.Refused fault)

module _ {K V : Type 0} where
  -- further steps are needed
  abbrev pub to : Copier → Then (Node K V) (Copier × Yielding (Node K V) Table)
  to c = Now (c, Goes)

  -- the caller whose places make the count full promotes the next table
  abbrev pub counted : Copier → Out (Node K V) → Then (Node K V) (Copier × Yielding (Node K V) Table)
  counted c (Found count) =
      if (count + c.done) % 2 ^ 64 == c.source.len then to (record c { place = 0; end = 0; done = 0; stands = at.Promotes })
      else to (behind (record c { done = 0 }))
  counted c _ = to c

  -- adds the places done to those of all callers
  abbrev pub counts : Copier → Plan (Node K V) (Copier × Yielding (Node K V) Table)
  counts c = Do (Add (at_word c.target COPIED) c.done) (counted c)

  -- adds them, before the mark is taken back: the place that is marked makes sure that the count isn't full
  abbrev pub tallies : Copier → ℕ → Fault → Plan (Node K V) (Copier × Yielding (Node K V) Table)
  tallies c word fault = Do (Add (at_word c.target COPIED) c.done) (λ out. to (record c { done = 0; stands = at.Unmarks word fault }))

  -- takes the mark back
  abbrev pub unmarks : Copier → ℕ → Fault → Plan (Node K V) (Copier × Yielding (Node K V) Table)
  unmarks c word fault = Do (Store (at_place c.source c.place) word) (λ out. to (standing c (at.Unclaims fault)))

  -- sets the claim to 0, so that another caller comes to the place
  abbrev pub unclaims : Copier → Fault → Plan (Node K V) (Copier × Yielding (Node K V) Table)
  unclaims c fault = Do (Store (at_word c.target CLAIM) 0) (λ out. to (given_up c fault))

-- A call on a key within which another machine is under way.
use Rattle.std.specs.Prelude.{Bool, true, false}
use Rattle.seize.specs.declared.rows.settle.Settle.{Settle}
use Rattle.seize.specs.declared.rows.settle.Settled.{Settled}
use Rattle.seize.specs.declared.rows.settle.Settled.TheVariants as settled
use Rattle.map_tables.specs.declared.table.Table.{Table}
use Rattle.map_straight.specs.Given.ResizeDeclared.copier.Copier.{Copier}
use Rattle.map_straight.specs.Given.ResizeDeclared.dispose.Dispose.{Dispose}
use Rattle.map_straight.specs.Given.ResizeDeclared.dispose.Disposing.TheVariants as disposal
use Rattle.map_straight.specs.Given.ResizeDeclared.yielding.Yielding.{Yielding}
use Rattle.map_straight.specs.Given.ResizeDeclared.yielding.Yielding.TheVariants as outcome
use Rattle.papaya_raw.specs.declared.machines.answer.End.TheVariants as ends
use Rattle.papaya_raw.specs.declared.machines.answer.KeyAnswer.{KeyAnswer}
use Rattle.papaya_raw.specs.declared.machines.call.Calling.TheVariants as at
use Rattle.owner_calls.specs.declared.machines.OnKey.{OnKey}

module _ {K V Q S : Type 0} where
  -- it helps a resize, before it goes on to this table
  abbrev pub helping : OnKey K V Q S → Table → Copier → OnKey K V Q S
  helping u goal copier = record u { call = record u.call { stands = at.Helps copier goal } }

  -- it disposes of a pair, and retires that
  abbrev pub retiring : OnKey K V Q S → KeyAnswer → Dispose → Settle → OnKey K V Q S
  retiring u answer dispose settle = record u { call = record u.call { stands = at.Disposes (record dispose { stands = disposal.Settles settle }) answer } }

  -- it has ended with this answer
  abbrev pub answered : OnKey K V Q S → KeyAnswer → OnKey K V Q S
  answered u answer = record u { call = record u.call { stands = at.Over (ends.Answered answer) } }

-- a settling that tells this has ended
abbrev pub has_ended : {T : Type 0} → Settled T → Bool
has_ended settled.Done = true
has_ended _ = false

-- a copying that tells this takes a further step
abbrev pub takes_more : {T A : Type 0} → Yielding T A → Bool
takes_more (outcome.Done a) = false
takes_more (outcome.Refused fault) = false
takes_more _ = true

-- The steps so far have led to the present one.
use Rattle.map_straight.specs.Given.ResizeDeclared.dispose.Dispose.{Dispose}
use Rattle.papaya_raw.specs.declared.machines.answer.KeyAnswer.{KeyAnswer}
use Rattle.owner_whole.specs.Strides.Ending.{Leads}
use Rattle.owner_calls.specs.Owned.Inside.{retiring}
use Rattle.owner_calls.specs.Owned.Machines.{on_key_plan}
use Rattle.owner_calls.specs.declared.machines.OnKey.{OnKey}
use Rattle.owner_calls.proofs.inside.retires.Given as goal

abbrev pub invariant-loop : goal.invariant-loop
invariant-loop g l = record {
  leads : (u : OnKey g.row.K.Denot g.row.V.Denot g.row.Q.Denot g.row.S.Denot) (answer : KeyAnswer) (dispose : Dispose)
      → Leads (on_key_plan g.Q.Equivalent.equivalent g.K.PartialEq.eq g.S.Hashes.hash) (retiring u answer dispose l.fn.settle) l.fn.memory (retiring u answer dispose l.settle) l.memory;
}

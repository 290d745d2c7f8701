use Rattle.std.specs.Prelude.{suc, Some, None}
use Rattle.std.proofs.Common.{refl, ◌∙◌}
use Rattle.threads_updates.proofs.Tried.{computed_then, left_on, stopped_then, tried_err, tried_ok}
use Rattle.threads_updates.proofs.changing.changes.Goals as goal

pub loop-init : goal.loop-init
loop-init g c = ((0, refl), c.requires.inside, refl, refl, refl)

pub tries-requires-clause-inside : goal.tries-requires-clause-inside
tries-requires-clause-inside g c = c.loop.invariant.1

pub tries-requires-clause-may : goal.tries-requires-clause-may
tries-requires-clause-may g c = c.requires.may

pub returns-in-Ok-Some-clause-slot : goal.returns-in-Ok-Some-clause-slot
returns-in-Ok-Some-clause-slot g c = c.tries.ensures.slot ∙ c.loop.invariant.2

pub returns-in-Ok-Some-clause-map : goal.returns-in-Ok-Some-clause-map
returns-in-Ok-Some-clause-map g c = c.tries.ensures.map ∙ c.loop.invariant.3

pub returns-in-Ok-Some-clause-blocks : goal.returns-in-Ok-Some-clause-blocks
returns-in-Ok-Some-clause-blocks g c = c.tries.ensures.blocks ∙ c.loop.invariant.4

pub returns-in-Ok-Some-clause-done : goal.returns-in-Ok-Some-clause-done
returns-in-Ok-Some-clause-done g c =
    let Is = g.K.Clone.is_clone c.args.key.now in let Gives = g.D.Decides.gives c.args.decider.now in
    let v = c.args.session.now.caller.seat.view in let u = c.loop.session.caller.seat.view in let w = c.tries.new.session.caller.seat.view in let left = c.loop.invariant.0 in
    computed_then g.K.PartialEq.eq g.S.Hashes.hash Is Gives v left.0 u w left.1 c.in-Ok-Some.done
    (tried_ok g.K.PartialEq.eq g.S.Hashes.hash Is Gives u w c.tries.result _ (Some c.in-Ok-Some.done) c.in-Ok-Some.is c.in-Ok-Some.field-0-is c.tries.ensures.tried)

pub returns-in-Err-clause-slot : goal.returns-in-Err-clause-slot
returns-in-Err-clause-slot g c = c.tries.ensures.slot ∙ c.loop.invariant.2

pub returns-in-Err-clause-map : goal.returns-in-Err-clause-map
returns-in-Err-clause-map g c = c.tries.ensures.map ∙ c.loop.invariant.3

pub returns-in-Err-clause-blocks : goal.returns-in-Err-clause-blocks
returns-in-Err-clause-blocks g c = c.tries.ensures.blocks ∙ c.loop.invariant.4

pub returns-in-Err-clause-stopped : goal.returns-in-Err-clause-stopped
returns-in-Err-clause-stopped g c =
    let Is = g.K.Clone.is_clone c.args.key.now in let Gives = g.D.Decides.gives c.args.decider.now in
    let v = c.args.session.now.caller.seat.view in let u = c.loop.session.caller.seat.view in let w = c.tries.new.session.caller.seat.view in let left = c.loop.invariant.0 in
    stopped_then g.K.PartialEq.eq g.S.Hashes.hash Is Gives v left.0 u w left.1 c.in-Err.fault
    (tried_err g.K.PartialEq.eq g.S.Hashes.hash Is Gives u w c.tries.result c.in-Err.fault c.in-Err.is c.tries.ensures.tried)

pub loop-preserved : goal.loop-preserved
loop-preserved g c =
    let Is = g.K.Clone.is_clone c.args.key.now in let Gives = g.D.Decides.gives c.args.decider.now in
    let v = c.args.session.now.caller.seat.view in let u = c.loop.session.caller.seat.view in let w = c.tries.new.session.caller.seat.view in let left = c.loop.invariant.0 in (
      (
        suc left.0,
        left_on g.K.PartialEq.eq g.S.Hashes.hash Is Gives v left.0 u w left.1
            (tried_ok g.K.PartialEq.eq g.S.Hashes.hash Is Gives u w c.tries.result _ None c.in-Ok-None.is c.in-Ok-None.field-0-is c.tries.ensures.tried),
      ),
      c.tries.ensures.inside,
      c.tries.ensures.slot ∙ c.loop.invariant.2,
      c.tries.ensures.map ∙ c.loop.invariant.3,
      c.tries.ensures.blocks ∙ c.loop.invariant.4,
    )

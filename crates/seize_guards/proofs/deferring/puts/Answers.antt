use Rattle.std.proofs.Common.{refl, ◌∙◌}
use Rattle.seize_guards.proofs.deferring.puts.Goals as goal

pub loop-init : goal.loop-init
loop-init g c = (c.requires.puts, (refl, refl, refl), (refl, refl, refl))

pub pushes-requires-clause-own : goal.pushes-requires-clause-own
pushes-requires-clause-own g c = c.loop.invariant.2.0 ∙ c.requires.own

pub pushes-requires-clause-puts : goal.pushes-requires-clause-puts
pushes-requires-clause-puts g c = c.loop.invariant.0

pub returns-in-Ok-clause-notes : goal.returns-in-Ok-clause-notes
returns-in-Ok-clause-notes g c =
    let one = c.loop.invariant.1 in let two = c.pushes.ensures.notes in (two.0 ∙ one.0, two.1 ∙ one.1, two.2 ∙ one.2)

pub returns-in-Ok-clause-same : goal.returns-in-Ok-clause-same
returns-in-Ok-clause-same g c =
    let one = c.loop.invariant.2 in let two = c.pushes.ensures.same in (two.0 ∙ one.0, two.1 ∙ one.1, two.2 ∙ one.2)

pub loop-preserved : goal.loop-preserved
loop-preserved g c =
    let notes = c.loop.invariant.1 in let now = c.pushes.ensures.notes in
    let same = c.loop.invariant.2 in let still = c.pushes.ensures.same in
    (c.in-Err.ensures.again, (now.0 ∙ notes.0, now.1 ∙ notes.1, now.2 ∙ notes.2), (still.0 ∙ same.0, still.1 ∙ same.1, still.2 ∙ same.2))

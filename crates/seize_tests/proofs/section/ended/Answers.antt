-- A call that runs to its end.
use Rattle.std.proofs.Common.{[], ◌∷◌, ◌++◌, refl}
use Rattle.seize_model.specs.Alone.Alone.{called}
use Rattle.seize_tests.proofs.section.ended.Goals as goal

pub loop-value-init : goal.loop-value-init
loop-value-init c = λ size m h request given mid. (given, mid)

pub next-requires : goal.next-requires
next-requires c =
    let r = c.requires in
    let i = c.loop-value.invariant r.0 r.1 r.2 r.3 r.4 r.5 in
    (r.0, 0, r.1, r.2, r.3, i.0, i.1)

pub loop-value-preserved : goal.loop-value-preserved
loop-value-preserved c = λ size m h request given mid.
    let i = c.loop-value.invariant size m h request given mid in
    (i.0 ++ c.in-Some.value ∷ [], c.in-Some.ensures.goes size 0 m h request i.0 i.1)

pub returns : goal.returns
returns c = λ size m h request given mid.
    let i = c.loop-value.invariant size m h request given mid in
    let e = c.in_default.ensures.goes size 0 m h request i.0 i.1 in
    (called request e.0 h, e.1, refl)

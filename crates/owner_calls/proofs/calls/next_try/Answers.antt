-- The try that is passed is a step of the call.
use Rattle.std.specs.Prelude.{false}
use Rattle.std.proofs.Common.{sym, ap, ◌∙◌}
use Rattle.map_tables.specs.Finding.{finding, may_name}
use Rattle.map_tables.specs.Trials.{next_trial}
use Rattle.map_tables.specs.declared.finding.Aim.TheVariants.{Looks}
use Rattle.owner_calls.proofs.Owned.Lookups.Tries.{found_at}
use Rattle.owner_calls.proofs.Owned.Passing.{passes_if, try_can}
use Rattle.owner_calls.proofs.calls.next_try.Goals as goal

pub load-word-requires : goal.load-word-requires
load-word-requires g c =
    let r = c.requires in
    try_can g.Q.Equivalent.equivalent g.K.PartialEq.eq g.S.Hashes.hash c.args.memory.now r.0 c.args.trial r.1 r.2 _ _ c.look.ensures c.at.ensures

pub returns-in-Passed : goal.returns-in-Passed
returns-in-Passed g c = λ u probing of_hash of_mode.
    passes_if g.Q.Equivalent.equivalent g.K.PartialEq.eq g.S.Hashes.hash c.args.memory.now u c.args.trial c.load-word.result
    probing (found_at _ _ c.look.ensures _ _ c.at.ensures _ c.load-word.ensures.0) (ap (λ h. may_name h c.load-word.result) of_hash ∙ sym c.may_be.ensures ∙ c.if-may_be.false)
    (ap (λ mode. finding mode Looks c.load-word.result false) of_mode ∙ sym c.seen.ensures ∙ c.in-Passed.is) c.next.result (c.next.ensures ∙ ap next_trial c.meets.ensures)

-- It has come to what it was told, or its key and the value come back.
use Rattle.std.specs.Prelude.{None}
use Rattle.std.proofs.Common.{refl, sym, subst}
use Rattle.owner_asks.specs.Asks.Asking.{IsTaken}
use Rattle.papaya_raw.specs.declared.machines.asking.MachineReply.TheVariants as reply
use Rattle.owner_asks.proofs.updates.stored.Goals as goal

pub pair_of-key-requires : goal.pair_of-key-requires
pair_of-key-requires g c =
    let r = c.requires in (r.2, c.args.value, c.in-Err.ensures.value r.0 r.1 r.2 c.args.value _ r.3 (subst (λ t. IsTaken t None (reply.Insert c.args.value)) (sym r.4) tt) refl)

pub returns-in-Ok-clause-comes : goal.returns-in-Ok-clause-comes
returns-in-Ok-clause-comes g c = λ xs kind key p takes. c.in-Ok.ensures.ends xs kind _ _ None p (subst (λ t. IsTaken t None (reply.Insert c.args.value)) (sym takes) tt)

pub returns-in-Err-clause-comes : goal.returns-in-Err-clause-comes
returns-in-Err-clause-comes g c = λ xs kind key p takes.
    let taken = subst (λ t. IsTaken t None (reply.Insert c.args.value)) (sym takes) tt in
    let back = c.pair_of-key.ensures key c.args.value (c.in-Err.ensures.value xs kind key c.args.value _ p taken refl) in
    (c.in-Err.ensures.ends xs kind _ _ None p taken, back.0, back.1)

pub returns-in-Ok-clause-ran : goal.returns-in-Ok-clause-ran
returns-in-Ok-clause-ran g c = c.in-Ok.ensures.ran

pub returns-in-Err-clause-ran : goal.returns-in-Err-clause-ran
returns-in-Err-clause-ran g c = c.in-Err.ensures.ran

use Rattle.std.proofs.Common.{subst}
use Rattle.std.specs.Prelude.{ℕ, Option, IfSome}
use Rattle.seize.specs.World.{HasListWord}
use Rattle.seize_callers.proofs.Owning.{may_make_own}
use Rattle.seize_callers.proofs.caller.alone.Caller+T.brings.Goals as goal

pub make-requires-clause-may : goal.make-requires-clause-may
make-requires-clause-may g c =
    let x = c.args.self.now in let defers = g.T.Defers.defers in
    may_make_own defers x.blocks.now.words.fixed x.seat.id x.seat.view c.requires.rests c.args.value c.in-Some.words
    (subst (λ (o : Option ℕ). IfSome o (λ words. HasListWord defers (defers c.args.value) words)) c.in-Some.is c.words_for.ensures.words)

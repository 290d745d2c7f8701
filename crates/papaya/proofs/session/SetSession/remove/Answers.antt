use Rattle.std.proofs.Common.{sym, subst}
use Rattle.papaya.specs.OneSet.{SetGaveUp}
use Rattle.papaya.proofs.session.SetSession.remove.Goals as goal

pub returns-in-Ok-clause-taken : goal.returns-in-Ok-clause-taken
returns-in-Ok-clause-taken g c =
    subst (λ there. SetGaveUp g.K.PartialEq.eq g.S.Hashes.hash (g.Q.Equivalent.stands_for c.args.key.now) there c.args.self.now.session.base.caller c.take.new.self.base.caller) (sym c.is_some.ensures)
    c.in-Ok.ensures.removed

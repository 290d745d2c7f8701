use Rattle.std.proofs.Common.{inr}
use Rattle.std.proofs.lemmas.Result.{IfErr-weaker, IfOk-weaker}
use Rattle.papaya_sessions.proofs.session.Session.same.Goals as goal

pub returns-clause-compared : goal.returns-clause-compared
returns-clause-compared g c =
    IfOk-weaker c.all_there.result _ _
    (λ alike it. inr (
      c.len-count.new.self.base.caller,
      record { count = c.len-count.result; counted = c.len-count.ensures.counted; others = c.len-there.result; counted_there = c.len-there.ensures.counted; so = c.if-count-there.false },
      it,
    )) c.all_there.ensures.compared

pub returns-clause-refused : goal.returns-clause-refused
returns-clause-refused g c =
    IfErr-weaker c.all_there.result _ _
    (λ fault it. (
      c.len-count.new.self.base.caller,
      record { count = c.len-count.result; counted = c.len-count.ensures.counted; others = c.len-there.result; counted_there = c.len-there.ensures.counted; so = c.if-count-there.false },
      it,
    )) c.all_there.ensures.refused

use Rattle.seize_callers.proofs.Owning.{owns_own, may_rewrite_own, own_rewritten_told, own_was_told, own_did}
use Rattle.seize_callers.proofs.caller.alone.Caller+T.rewrites.Goals as goal

pub rewrite-requires-clause-alone : goal.rewrite-requires-clause-alone
rewrite-requires-clause-alone g c =
    let x = c.args.self.now in owns_own g.T.Defers.defers x.blocks.now.words.fixed x.seat.id x.seat.view c.args.block c.requires.brings

pub rewrite-requires-clause-may : goal.rewrite-requires-clause-may
rewrite-requires-clause-may g c =
    let x = c.args.self.now in
    may_rewrite_own g.T.Defers.defers x.blocks.now.words.fixed x.seat.id x.seat.view c.args.block c.args.value c.requires.brings c.requires.list

pub returns-clause-made : goal.returns-clause-made
returns-clause-made g c =
    own_rewritten_told g.T.Defers.defers c.args.self.now.seat.view.knows c.rewrite.new.seat.view.knows c.args.block c.args.value c.rewrite.result
    c.requires.brings c.rewrite.ensures.goes.0

pub returns-clause-back : goal.returns-clause-back
returns-clause-back g c = λ was is.
    own_was_told g.T.Defers.defers c.args.self.now.seat.view.knows c.rewrite.new.seat.view.knows c.args.block was c.args.value c.rewrite.result is
    c.rewrite.ensures.goes.0

pub returns-clause-did : goal.returns-clause-did
returns-clause-did g c =
    let x = c.args.self.now in
    own_did x.seat.view.knows c.args.block x.seat.view.did c.rewrite.new.seat.view.did c.args.value c.rewrite.result c.requires.brings c.rewrite.ensures.goes.1

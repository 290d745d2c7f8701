use Rattle.std.specs.Prelude.{ℕ, Some}
use Rattle.std.proofs.Common.{ap, ◌∙◌}
use Rattle.seize_views.specs.declared.view.Deed.TheVariants.{Wrote}
use Rattle.seize_callers.proofs.Deeds.{own_noted}
use Rattle.seize_callers.proofs.Owning.{may_link_own, own_linked_told}
use Rattle.seize_callers.proofs.caller.alone.Caller+T.links.Goals as goal

pub swap-requires-clause-may : goal.swap-requires-clause-may
swap-requires-clause-may g c =
    let x = c.args.self.now in
    may_link_own g.T.Defers.defers x.blocks.now.words.fixed x.seat.id x.seat.view c.args.block c.args.root c.marked-word.result c.requires.brings
    c.requires.root c.marked-word.ensures.names

pub returns-clause-is : goal.returns-clause-is
returns-clause-is g c =
    own_linked_told g.T.Defers.defers c.args.self.now.seat.view.knows c.swap.new.seat.view.knows c.args.block c.args.root c.marked-word.result
    c.swap.result c.requires.brings c.swap.ensures.goes.0

pub returns-clause-put : goal.returns-clause-put
returns-clause-put g c = λ value is.
    let x = c.args.self.now in
    own_noted x.seat.view.knows x.seat.view.did c.swap.new.seat.view.did c.args.root c.marked-word.result 0 c.args.block value is c.swap.result
    c.swap.ensures.goes.1 ∙ ap (λ (k : ℕ). Wrote c.args.root k (Some value) c.swap.result) c.marked-word.ensures.word

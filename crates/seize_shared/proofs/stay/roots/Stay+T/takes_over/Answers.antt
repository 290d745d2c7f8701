use Rattle.std.specs.Prelude.{Some}
use Rattle.std.proofs.Common.{Bool, ap, ◌∙◌}
use Rattle.seize_shared.proofs.OnThreads.Standing.{takes_inside}
use Rattle.seize_shared.proofs.stay.roots.Stay+T.takes_over.Goals as goal

-- within its section the block is in its hand then
pub retire-requires-clause-cut : goal.retire-requires-clause-cut
retire-requires-clause-cut g c =
    let x = c.args.self.now in
    takes_inside x.slot x.seen x.caller.seat.view.knows _ (x.stands ∙ ap (λ (y : Bool). Some (x.slot, y, x.seen)) c.if-self.true) c.takes_over.ensures.inside

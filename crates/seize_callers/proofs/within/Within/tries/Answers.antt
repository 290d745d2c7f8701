use Rattle.std.proofs.Common.{inl, sym, ap, ◌∙◌}
use Rattle.std.specs.Prelude.{Some}
use Rattle.seize_views.specs.Views.Promises.{op_of}
use Rattle.seize_callers.proofs.Seen.{seeks_here, seen_free, free_head}
use Rattle.seize_callers.proofs.within.Within.tries.Goals as goal

pub load-seen-requires : goal.load-seen-requires
load-seen-requires g c = inl (ap (op_of g.T.Defers.defers) (c.requires.seeks ∙ seeks_here c.args.slot c.requires.slot))

pub room-requires : goal.room-requires
room-requires g c =
    let notes = g.C.Content.notes in
    inl (ap (op_of g.T.Defers.defers)
    (seen_free g.row.T.Denot g.T.Defers.defers (notes c.args.self.now.seat.now.view).knows (notes c.load-seen.new.self.seat.now.view).knows c.args.slot c.load-seen.result
    (Some c.in-Some.bucket) (sym c.in-Some.is ∙ c.needed_bucket.ensures) (free_head c.load-seen.result c.else-seen-ne-NEVER.either)
    (c.requires.seeks ∙ seeks_here c.args.slot c.requires.slot) c.load-seen.ensures.2.0)
    )

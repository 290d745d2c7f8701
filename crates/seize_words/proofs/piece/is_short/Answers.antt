use Rattle.std.proofs.Common.{IsOk, refl, sym, ◌∙◌}
use denote.Param.{layout}
use Rattle.core.specs.Layout.{layout_align, layout_size}
use Rattle.seize_words.proofs.OneMemory.Pieces.{short_is}
use Rattle.seize_words.proofs.piece.is_short.Goals as goal

pub returns : goal.returns
returns g c said =
    let ok : IsOk c.extend.result = sym c.is_ok.ensures.value ∙ said in
    short_is (layout g.row.T) c.args.count (layout_size c.new.result) (layout_align c.new.result) (layout_size c.in-Ok.words) (layout_align c.in-Ok.words)
    c.new.ensures.size c.new.ensures.align c.in-Ok.ensures.ok.0 c.in-Ok.ensures.ok.1
    (c.if-not-may_hold.ensures refl).0 (c.in-Ok.ensures.succeeds.0 refl) (c.extend.ensures.succeeds.0 ok)

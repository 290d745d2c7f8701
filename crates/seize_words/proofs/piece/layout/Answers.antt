use Rattle.std.proofs.Common.{◌≡◌, ap, ◌∙◌, sym, arith}
use prog.Capped.{capped_is}
use prog.Memory.{capped}
use prog.RawLaws.{size-raw}
use denote.Param.{layout}
use Rattle.core.specs.Layout.{layout_align, layout_size}
use Rattle.seize_words.proofs.OneMemory.Pieces.{alignment_is, from_is, layout_is, size_is}
use Rattle.seize_words.proofs.piece.layout.Goals as goal

pub new-requires : goal.new-requires
new-requires g c = omega (arith, c.requires.value_fits, size-raw (layout g.row.T))

pub unreachable-requires-in_default-extend : goal.unreachable-requires-in_default-extend
unreachable-requires-in_default-extend g c =
    let e = c.in_default-extend.ensures.succeeds.1 (layout_is (layout g.row.T) c.args.count (layout_size c.new.result) (layout_align c.new.result) (layout_size c.in-Ok.words) (layout_align c.in-Ok.words)
    c.new.ensures.size c.new.ensures.align c.in-Ok.ensures.ok.0 c.in-Ok.ensures.ok.1 c.requires) in cc

pub returns-clause-layout : goal.returns-clause-layout
returns-clause-layout g c =
    let same : c.align.result ≡ layout_align c.in-Ok-extend.both = c.align.ensures.value ∙ c.pad_to_align-whole.ensures.align in (
      size_is (layout g.row.T) c.args.count (layout_size c.new.result) (layout_align c.new.result) (layout_size c.in-Ok.words) (layout_align c.in-Ok.words)
          c.new.ensures.size c.new.ensures.align c.in-Ok.ensures.ok.0 c.in-Ok.ensures.ok.1
          c.in-Ok-extend.from (layout_size c.in-Ok-extend.both) (layout_align c.in-Ok-extend.both) c.size.result c.in-Ok-extend.ensures.offset c.in-Ok-extend.ensures.size
          c.in-Ok-extend.ensures.align (c.size.ensures.value ∙ c.pad_to_align-whole.ensures.size) c.size.ensures.bound,
      ap capped (alignment_is (layout g.row.T) c.args.count (layout_size c.new.result) (layout_align c.new.result) (layout_size c.in-Ok.words) (layout_align c.in-Ok.words)
          c.new.ensures.size c.new.ensures.align c.in-Ok.ensures.ok.0 c.in-Ok.ensures.ok.1
          c.in-Ok-extend.from (layout_size c.in-Ok-extend.both) (layout_align c.in-Ok-extend.both) c.size.result c.in-Ok-extend.ensures.offset c.in-Ok-extend.ensures.size
          c.in-Ok-extend.ensures.align (c.size.ensures.value ∙ c.pad_to_align-whole.ensures.size) c.size.ensures.bound ∙ sym same) ∙ capped_is c.align.result c.align.type_inv,
    )

pub returns-clause-words : goal.returns-clause-words
returns-clause-words g c = from_is (layout g.row.T) c.args.count (layout_size c.new.result) (layout_align c.new.result) (layout_size c.in-Ok.words) (layout_align c.in-Ok.words)
    c.new.ensures.size c.new.ensures.align c.in-Ok.ensures.ok.0 c.in-Ok.ensures.ok.1 c.in-Ok-extend.from c.in-Ok-extend.ensures.offset

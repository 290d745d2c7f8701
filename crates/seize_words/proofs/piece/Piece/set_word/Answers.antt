use Rattle.std.proofs.Common.{ap, ◌∙◌}
use Rattle.core.specs.Mem.Slots.{slots_items}
use Rattle.seize_words.specs.OneMemory.Piece.{block_of, only_of}
use Rattle.seize_words.proofs.OneMemory.Pieces.{word_put}
use Rattle.seize_words.proofs.piece.Piece.set_word.Goals as goal

pub returns : goal.returns
returns g c =
    let p = c.self.inside in
    rw (← c.self.view_is)
    (ap (block_of (only_of (slots_items p.value) _)) c.put.ensures.items
    ∙ word_put (slots_items p.value) _ p.one (slots_items p.words) c.args.index c.args.word)

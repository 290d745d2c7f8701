-- The one shard says it.
use Rattle.std.proofs.Common.{◌∙◌, ap, sym}
use Rattle.seize_words.specs.OneMemory.Mem.{word_at}
use Rattle.seize_words.specs.declared.at.At.TheVariants.{Word}
use Rattle.owner_rests.proofs.Rests.Looks.{counted_so}
use Rattle.owner_rests.proofs.counting.count.Goals as goal

pub returns : goal.returns
returns g c = λ xs has.
    c.read.ensures ∙ counted_so _ _ _ _ xs has c.load-total.result c.load-total.type_inv
    (sym (ap (λ m. word_at m (Word c.args.setting.counter 0)) c.look-look.ensures) ∙ c.load-total.ensures.0)

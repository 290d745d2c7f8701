-- What the map finds, it finds in whatever order its pairs are.
use Rattle.std.specs.Option.{unwrap_or}
use Rattle.std.proofs.Common.{◌∙◌, ap}
use Rattle.seq_examples.proofs.word_count.count_of.Goals as goal

pub returns-clause-in_any_order : goal.returns-clause-in_any_order
returns-clause-in_any_order c = λ pairs order. c.unwrap_or.ensures ∙ ap (λ o. unwrap_or o 0) (c.copied.ensures ∙ c.get.ensures.in_any_order pairs order)

use Rattle.seize_blocks.proofs.blocks.Blocks.value.Goals as goal

pub value_for-requires-clause-shown : goal.value_for-requires-clause-shown
value_for-requires-clause-shown g c = λ t so at _. c.requires.shown t so at

pub returns : goal.returns
returns g c = let k = c.value_for.ensures in (k.0, k.1, k.2, k.4)

-- Choices of block numbers among calls, makings and ends of maps.
use Rattle.many_maps.proofs.Among.Choices.{choices_stand_among}
use Rattle.many_maps.proofs.law.choices_stand_among.Goals as goal

pub returns : goal.returns
returns c d = record { stands = choices_stand_among _ }

-- Countings among calls, makings and ends of maps.
use Rattle.many_maps.proofs.Among.Countings.{countings_begin_among, countings_stand_among}
use Rattle.many_maps.proofs.law.countings_stand_among.Goals as goal

pub returns : goal.returns
returns c d = record { begins = countings_begin_among _; steps = countings_stand_among _ }

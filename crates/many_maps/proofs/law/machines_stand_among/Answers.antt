-- Calls under way as machines, among calls, makings and ends of maps.
use Rattle.many_maps.proofs.Among.Machines.{machines_stand_among}
use Rattle.many_maps.proofs.Among.MachinesTold.{machines_told_among}
use Rattle.many_maps.proofs.law.machines_stand_among.Goals as goal

pub returns : goal.returns
returns c d = record { steps = machines_stand_among _; told = machines_told_among _ }

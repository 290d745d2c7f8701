use Rattle.threads_errands.proofs.Given.ViewsLaws.{seats_come}
use Rattle.papaya_maps.proofs.reclaiming.reclaimed.Goals as goal

pub seat-seat-requires : goal.seat-seat-requires
seat-seat-requires g c = seats_come g.row.V.Denot g.K.PartialEq.eq g.S.Hashes.hash c.args.shared.home.blocks.words.fixed

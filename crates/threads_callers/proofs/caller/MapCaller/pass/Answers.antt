use Rattle.threads_errands.proofs.Given.ViewsLaws.{seats_come}
use Rattle.threads_callers.proofs.caller.MapCaller.pass.Goals as goal

pub seat-seat-requires : goal.seat-seat-requires
seat-seat-requires g c = seats_come g.row.V.Denot g.K.PartialEq.eq g.S.Hashes.hash c.args.self.now.blocks.now.words.fixed

use Rattle.threads_ends.proofs.Ends.{begun_leans, may_begin}
use Rattle.threads_ends.proofs.ending.begins.Goals as goal
use Rattle.seize_words.proofs.General.{some_there}

pub part-requires-clause-may : goal.part-requires-clause-may
part-requires-clause-may g c =
    let v = c.args.seat.now.view in let map = some_there v.own c.requires.owns in
    may_begin g.K.PartialEq.eq g.S.Hashes.hash c.args.blocks.now.words.fixed c.args.seat.now.id v map.0 map.1 c.requires.rests c.requires.free

pub part-requires-clause-errand : goal.part-requires-clause-errand
part-requires-clause-errand g c = λ home rests w so. absurd (c.requires.away home)

pub part-requires-clause-leans : goal.part-requires-clause-leans
part-requires-clause-leans g c = λ w so n leans. begun_leans c.args.seat.now.view w n so leans

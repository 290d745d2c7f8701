use Rattle.std.proofs.Common.{sym, arith}
use Rattle.seize_blocks.proofs.Far.{bucket_of}
use Rattle.seize_blocks.proofs.blocks.Blocks.slot_place.Goals as goal

pub find_room-strip-requires : goal.find_room-strip-requires
find_room-strip-requires g c = let p = c.place_of-bucket in let r = c.requires in
    let b = bucket_of c.args.slot p.result.0 p.result.1 p.ensures.place r.far.0 r.far.1 in let low = b.0 in let few = b.1 in
    (r.own, sym c.args.self.now.lies.1, omega (arith, low), omega (arith, few), b.2, r.there)

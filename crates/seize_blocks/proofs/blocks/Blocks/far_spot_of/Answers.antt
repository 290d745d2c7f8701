-- A block whose number lies behind a door is found in the strip there.
use Rattle.std.proofs.Common.{arith, ap, sym, ◌∙◌}
use Rattle.seize_seats.specs.Seats.Owned.{Core}
use Rattle.seize_blocks.proofs.Indices.{its_index}
use Rattle.seize_blocks.proofs.blocks.Blocks.far_spot_of.Goals as goal

pub find-strip-requires : goal.find-strip-requires
find-strip-requires g c =
    let x = c.args.self.now in let door = c.door_of-door.ensures.door in let first = door.0 in let low = door.1 in let own = c.requires.own in (
      own.0,
      own.1,
      own.2,
      sym x.lies.1,
      door.3,
      x.strip.0.2,
      x.strip.1 ∙ sym x.counted.2,
      λ some. let below = (c.requires.far.1.1 some).0 in omega (arith, first, low, below),
      c.requires.shown,
    )

pub returns-clause-index : goal.returns-clause-index
returns-clause-index g c =
    let x = c.args.self.now in let is = c.requires.far.1 in let door = c.door_of-door.ensures.door in let e = c.find-strip.ensures in
    let at = c.door_of-door.ensures.index in let half = c.door_of-door.ensures.half in let begins = door.0 in let low = door.1 in let high = door.2 in let first = e.3 in let size = e.4 in let small = is.0 in (
      its_index c.find-strip.result.id c.args.block c.args.number is (ap (λ (k : Core). k.count) e.0 ∙ x.counted.1) (omega (arith, half, begins, first, size)) (omega (arith, begins, low, first))
          (omega (arith, begins, high, first, size)) c.door_of-door.result.2 (omega (arith, at, begins, first)),
      omega (arith, at, small),
    )

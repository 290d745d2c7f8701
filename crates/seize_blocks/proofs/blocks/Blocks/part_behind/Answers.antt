use Rattle.std.proofs.Common.{◌∙◌, subst, arith}
use denote.RawPtr.{InBlock}
use Rattle.seize_seats.proofs.Seats.Growing.Behind.{doubled}
use Rattle.seize_blocks.proofs.blocks.Blocks.part_behind.Goals as goal

pub returns-in-Some : goal.returns-in-Some
returns-in-Some g c = let l = c.look-strip.ensures in
    let there : InBlock c.look-strip.result.words = subst InBlock (c.in-Some.ensures.value ∙ c.places_in-place.ensures) c.in-Some.ensures.non_null in
    let twice = doubled c.args.self.now.words.id.least c.args.door c.args.first c.requires.1 in ((l.0, there), l.5, omega (arith, twice))

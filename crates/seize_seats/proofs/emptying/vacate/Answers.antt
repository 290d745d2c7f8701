use Rattle.std.proofs.Common.{◌<◌, length, ap, ◌∙◌, arith}
use Rattle.std.specs.Prelude.{map, slice_index_or}
use Rattle.core.specs.Mem.Slots.{slots_items, slots_filled, slots_len, slots_counts}
use Rattle.seize_seats.proofs.Seats.Growing.Behind.{full_behind}
use Rattle.seize_seats.specs.Plots.Pieces.{spot_of, first_spot, other_spots}
use Rattle.seize_seats.proofs.Plots.Spots.{spot_here, spots_after}
use Rattle.seize_seats.proofs.Plots.Emptied.{empty_before}
use Rattle.seize_seats.proofs.emptying.vacate.Goals as goal

pub end-requires : goal.end-requires
end-requires g c = let l = c.loop-index in let i = l.invariant in let r = c.requires in
    let lt : l.index < length (slots_items c.args.slots.now) = omega (arith, (slots_counts c.args.slots.now).0, r.0, c.loop-index-test.true) in
    let here = spot_here (slots_items c.args.slots.now) l.index c.take.result lt (c.take.ensures.value ∙ ap (λ xs. slice_index_or xs l.index c.take.result) i.4) in
    c.next-piece.ensures.1 ∙ ap (λ ss. (first_spot ss).1) i.5 ∙ ap (λ s. s.1) here ∙ ap (λ x. (spot_of x).1) c.in-None.is

pub loop-index-preserved : goal.loop-index-preserved
loop-index-preserved g c = let l = c.loop-index in let i = l.invariant in let t = c.take.ensures in let r = c.requires in
    let lt : l.index < length (slots_filled l.slots) = omega (arith, (slots_counts l.slots).1, i.3, r.0, c.loop-index-test.true) in (
      full_behind (slots_filled l.slots) (slots_filled c.take.new.self) l.index (slots_len l.slots) (slots_len c.take.new.self) t.filled t.places.count i.0,
      empty_before (slots_filled l.slots) (slots_filled c.take.new.self) l.index t.filled lt i.1,
      t.places.start ∙ i.2,
      t.places.count ∙ i.3,
      t.items ∙ i.4,
      c.next-piece.ensures.2 ∙ ap other_spots i.5 ∙ spots_after (map spot_of (slots_items c.args.slots.now)) l.index,
    )

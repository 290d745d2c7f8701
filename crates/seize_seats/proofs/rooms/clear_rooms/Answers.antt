use Rattle.std.proofs.Common.{◌≡◌, ◌+◌, ◌-◌, ◌<◌, List, length, suc, ℕ, ap, sym, ◌∙◌, subst, arith}
use denote.RawPtr.{Ptr, InBlock}
use Rattle.core.specs.Mem.Slots.{slots_items, slots_filled, slots_len, slots_counts}
use Rattle.seize_words.specs.OneMemory.Place.{capacity}
use Rattle.seize_seats.proofs.Seats.Growing.Behind.{full_behind}
use Rattle.seize_seats.proofs.Seats.Places.Grounds.{capacity_twice}
use Rattle.seize_seats.specs.Plots.Pieces.{AreBucketsBehind}
use Rattle.seize_seats.proofs.Plots.Buckets.{bucket_behind, none_behind}
use Rattle.seize_seats.proofs.rooms.clear_rooms.Goals as goal

pub new-requires : goal.new-requires
new-requires c = let l = c.loop-door in let i = l.invariant in
    let lt : l.door < length (slots_items l.doors) = omega (arith, (slots_counts l.doors).0, i.3, c.loop-door-test.true) in
    (bucket_behind l.door l.left.spots (slots_items l.doors) c.take.result l.auto.door lt c.take.ensures.value i.1).0

pub give_words-requires : goal.give_words-requires
give_words-requires c = let l = c.loop-door in let i = l.invariant in
    let lt : l.door < length (slots_items l.doors) = omega (arith, (slots_counts l.doors).0, i.3, c.loop-door-test.true) in
    let there : InBlock c.take.result = subst InBlock c.in-Some.ensures.value c.in-Some.ensures.non_null in
    let f = (bucket_behind l.door l.left.spots (slots_items l.doors) c.take.result l.auto.door lt c.take.ensures.value i.1).2 there in
    let n = c.next-piece.ensures in (
      n.0 ∙ ap (λ u. u.0) f.0 ∙ sym c.in-Some.ensures.value ∙ sym c.as_ptr.ensures,
      n.1 ∙ ap (λ u. u.1) f.0 ∙ sym i.0,
    )

pub over-requires : goal.over-requires
over-requires c = let l = c.loop-door in let i = l.invariant in
    let lt : l.door < length (slots_items l.doors) = omega (arith, (slots_counts l.doors).0, i.3, c.loop-door-test.true) in
    (bucket_behind l.door l.left.spots (slots_items l.doors) c.take.result l.auto.door lt c.take.ensures.value i.1).1 c.in-None.ensures.null

pub loop-door-preserved : goal.loop-door-preserved
loop-door-preserved c = let l = c.loop-door in let i = l.invariant in let low = l.auto.door in
    let lt : l.door < length (slots_items l.doors) = omega (arith, (slots_counts l.doors).0, i.3, c.loop-door-test.true) in
    let there : InBlock c.take.result = subst InBlock c.in-Some.ensures.value c.in-Some.ensures.non_null in
    let f = (bucket_behind l.door l.left.spots (slots_items l.doors) c.take.result low lt c.take.ensures.value i.1).2 there in
    let t = c.take.ensures in let twice = capacity_twice (l.door - 31) in let next : l.door + 1 - 31 ≡ suc (l.door - 31) = omega (arith, low) in
    let then : capacity (l.door + 1 - 31) ≡ capacity (suc (l.door - 31)) = ap capacity next in (
      omega (arith, i.0, twice, then),
      subst (λ (u : List (Ptr × ℕ) × List Ptr). AreBucketsBehind (l.door + 1) u.0 u.1) (λ k. (sym c.next-piece.ensures.2 k, sym t.items k)) f.1,
      full_behind (slots_filled l.doors) (slots_filled c.take.new.self) l.door (slots_len l.doors) (slots_len c.take.new.self) t.filled t.places.count i.2,
      t.places.count ∙ i.3,
      t.places.start ∙ i.4,
    )

pub over-requires-2 : goal.over-requires-2
over-requires-2 c = let l = c.loop-door in let i = l.invariant in
    none_behind l.door l.left.spots (slots_items l.doors) (omega (arith, (slots_counts l.doors).0, i.3, c.loop-door-test.false)) i.1

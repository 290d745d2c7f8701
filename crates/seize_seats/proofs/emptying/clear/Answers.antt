use Rattle.std.proofs.Common.{List, refl, sym, ◌∙◌, ◌≡◌, ◌<◌, ◌+◌, length, take, drop, subst, arith}
use Rattle.std.specs.Prelude.{slice_index_or}
use Rattle.std.proofs.lemmas.List.{length-take-le, get_or-take}
use denote.Param.{param}
use denote.RawPtr.{Ptr, InBlock}
use Rattle.core.specs.Mem.Slots.{slots_items, slots_filled, slots_len, slots_counts}
use Rattle.seize_seats.specs.Seats.Strips.{Strip}
use Rattle.seize_seats.specs.Seats.Plots.{HasFirst}
use Rattle.seize_seats.proofs.Seats.Growing.Behind.{Behind, behind, doubles, doubled, full_behind}
use Rattle.seize_seats.specs.contracts.kept.Kept.{the_row as KeptOf}
use Rattle.seize_seats.proofs.emptying.clear.Goals as goal

pub loop-door-init : goal.loop-door-init
loop-door-init g c = let r = c.requires in (omega arith, r.2, r.0, r.1, refl, refl)

pub new-requires : goal.new-requires
new-requires g c = let l = c.loop-door in let i = l.invariant in
    let first : List Ptr = take 32 (slots_items l.doors) in let size = length-take-le 32 (slots_items l.doors) (omega (arith, (slots_counts l.doors).0, i.3)) in
    let lt : l.door < length first = omega (arith, size, c.loop-door-test.true) in
    let here : c.take.result ≡ slice_index_or first l.door c.take.result = c.take.ensures.value ∙ sym (get_or-take 32 (slots_items l.doors) l.door c.take.result c.loop-door-test.true) in
    (behind (KeptOf (param 0 g.row.T)) c.args.least l.door l.count l.left.strips first c.take.result i.1 lt here i.0).0

pub give_up-left-requires : goal.give_up-left-requires
give_up-left-requires g c = let l = c.loop-door in let i = l.invariant in
    let first : List Ptr = take 32 (slots_items l.doors) in let size = length-take-le 32 (slots_items l.doors) (omega (arith, (slots_counts l.doors).0, i.3)) in
    let lt : l.door < length first = omega (arith, size, c.loop-door-test.true) in
    let here : c.take.result ≡ slice_index_or first l.door c.take.result = c.take.ensures.value ∙ sym (get_or-take 32 (slots_items l.doors) l.door c.take.result c.loop-door-test.true) in
    let there : InBlock c.take.result = subst InBlock c.in-Some.ensures.value c.in-Some.ensures.non_null in
    let f = (behind (KeptOf (param 0 g.row.T)) c.args.least l.door l.count l.left.strips first c.take.result i.1 lt here i.0).1 there in
    let same : c.as_ptr.result ≡ c.take.result = c.as_ptr.ensures ∙ c.cast.ensures ∙ c.in-Some.ensures.value in
    (subst (λ (p : Ptr). HasFirst (KeptOf (param 0 g.row.T)) p l.count l.left.strips) (sym same) f.0, f.1, f.2)

pub overflow_mul-count : goal.overflow_mul-count
overflow_mul-count g c = let l = c.loop-door in let i = l.invariant in
    let first : List Ptr = take 32 (slots_items l.doors) in let size = length-take-le 32 (slots_items l.doors) (omega (arith, (slots_counts l.doors).0, i.3)) in
    let lt : l.door < length first = omega (arith, size, c.loop-door-test.true) in
    let here : c.take.result ≡ slice_index_or first l.door c.take.result = c.take.ensures.value ∙ sym (get_or-take 32 (slots_items l.doors) l.door c.take.result c.loop-door-test.true) in
    let there : InBlock c.take.result = subst InBlock c.in-Some.ensures.value c.in-Some.ensures.non_null in
    let f = (behind (KeptOf (param 0 g.row.T)) c.args.least l.door l.count l.left.strips first c.take.result i.1 lt here i.0).1 there in
    record { fits = doubles (KeptOf (param 0 g.row.T)) l.count f.1 }

pub loop-door-preserved : goal.loop-door-preserved
loop-door-preserved g c = let l = c.loop-door in let i = l.invariant in
    let first : List Ptr = take 32 (slots_items l.doors) in let size = length-take-le 32 (slots_items l.doors) (omega (arith, (slots_counts l.doors).0, i.3)) in
    let lt : l.door < length first = omega (arith, size, c.loop-door-test.true) in
    let here : c.take.result ≡ slice_index_or first l.door c.take.result = c.take.ensures.value ∙ sym (get_or-take 32 (slots_items l.doors) l.door c.take.result c.loop-door-test.true) in
    let there : InBlock c.take.result = subst InBlock c.in-Some.ensures.value c.in-Some.ensures.non_null in
    let f = (behind (KeptOf (param 0 g.row.T)) c.args.least l.door l.count l.left.strips first c.take.result i.1 lt here i.0).1 there in
    let t = c.take.ensures in (
      doubled c.args.least l.door l.count i.0,
      subst (λ (u : List Strip × List Ptr). Behind (KeptOf (param 0 g.row.T)) c.args.least (l.door + 1) u.0 (drop (l.door + 1) (take 32 u.1)))
          (λ k. (sym c.give_up-left.ensures k, sym t.items k)) f.3,
      full_behind (slots_filled l.doors) (slots_filled c.take.new.self) l.door (slots_len l.doors) (slots_len c.take.new.self) t.filled t.places.count i.2,
      t.places.count ∙ i.3,
      t.places.start ∙ i.4,
      t.items ∙ i.5,
    )

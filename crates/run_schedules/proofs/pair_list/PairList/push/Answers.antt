use Rattle.std.proofs.Common.{rules, ◌≡◌, length, true, false}
use Rattle.std.specs.Option.{is_none}
use Rattle.run_schedules.proofs.Runs.PairLists.{none_there, places_kept, places_pushed, places_same, some_there}
use Rattle.run_schedules.proofs.pair_list.PairList.push.Goals as goal

pub invariant_of-self : goal.invariant_of-self
invariant_of-self g c = places_same c.self.inside.pairs.items c.self.inside.places.items c.reach.new.places.items c.self.invariant c.reach.ensures.same

pub invariant_of-self-in_err-push : goal.invariant_of-self-in_err-push
invariant_of-self-in_err-push g c =
    rw c.in_err-push.ensures.items
    (places_same c.self.inside.pairs.items c.self.inside.places.items c.reach.new.places.items c.self.invariant c.reach.ensures.same)

pub invariant_of-self-then-is_none : goal.invariant_of-self-then-is_none
invariant_of-self-then-is_none g c =
    let long : c.len-place.result ≡ length c.self.inside.pairs.items = search (rules, c.len-place.ensures) in
    let wide = places_same c.self.inside.pairs.items c.self.inside.places.items c.reach.new.places.items c.self.invariant c.reach.ensures.same in
    let is : is_none c.index.result.now ≡ true = search (rules, c.is_none.ensures, c.if-is_none.true) in
    rw (c.in_ok-push.ensures.items, long)
    (places_pushed c.self.inside.pairs.items c.reach.new.places.items wide c.args.pair
    (none_there c.reach.new.places.items c.args.pair.number c.index.result.now c.index.ensures is) c.in_ok-reach.ensures.ok)

pub invariant_of-self-else-is_none : goal.invariant_of-self-else-is_none
invariant_of-self-else-is_none g c =
    let wide = places_same c.self.inside.pairs.items c.self.inside.places.items c.reach.new.places.items c.self.invariant c.reach.ensures.same in
    let is : is_none c.index.result.now ≡ false = search (rules, c.is_none.ensures, c.if-is_none.false) in
    let there = some_there c.reach.new.places.items c.args.pair.number c.index.result.now c.index.ensures is c.in_ok-reach.ensures.ok in
    rw c.in_ok-push.ensures.items
    (places_kept c.self.inside.pairs.items c.reach.new.places.items wide c.args.pair there.0 there.1)

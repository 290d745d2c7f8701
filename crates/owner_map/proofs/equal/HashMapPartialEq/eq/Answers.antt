-- By what is found of each pair that the walk shows.
use Rattle.std.proofs.Common.{◌∷◌, [], map, ◌∙◌, ap, sym, subst}
use Rattle.std.proofs.lemmas.List.{map-append}
use Rattle.map_straight.specs.Shown.Coming.{pairs_to_come}
use Rattle.map_straight.specs.Shown.Lent.{pair_shown}
use Rattle.owner_asks.proofs.Pairs.Equals.{AreFound, all_found, lengths_differ, one_more_found, one_not_found}
use Rattle.owner_rests.proofs.ShowsPairs.Walked.{shown_all, this_one}
use Rattle.owner_map.proofs.equal.HashMapPartialEq.eq.Goals as goal

pub returns-then-len : goal.returns-then-len
returns-then-len g c =
    lengths_differ g.K.PartialEq.eq g.met.K.Eq.laws g.V.PartialEq.eq c.args.self.now.pairs c.args.other.now.pairs c.len.ensures.apart c.len-2.ensures.apart
    (λ as_many. c.if-len.true (c.len.ensures.len ∙ as_many ∙ sym c.len-2.ensures.len))

pub returns-then-not-has_equal : goal.returns-then-not-has_equal
returns-then-not-has_equal g c =
    let at = c.into_iter-key-iterator in
    one_not_found g.K.PartialEq.eq g.met.K.Eq.laws g.V.PartialEq.eq c.args.self.now.pairs c.args.other.now.pairs c.len.ensures.apart (map pair_shown c.loop-key.yielded) (c.in-Some.key.now, c.in-Some.value.now)
    (pairs_to_come c.next.new.self)
    (sym (ap pairs_to_come at.ensures.into_iter_gives ∙ c.iter-key-items.ensures.pairs)
    ∙ this_one pair_shown pairs_to_come at.result c.loop-key.yielded c.loop-key.key-iterator (c.in-Some.key, c.in-Some.value) c.next.new.self c.next.result c.loop-key.yielded_by c.in-Some.is c.next.ensures.steps)
    c.has_equal.result c.has_equal.ensures c.if-not-has_equal.true

pub loop-key-preserved : goal.loop-key-preserved
loop-key-preserved g c =
    let at = c.into_iter-key-iterator in
    subst (AreFound g.K.PartialEq.eq g.met.K.Eq.laws g.V.PartialEq.eq c.args.self.now.pairs c.args.other.now.pairs) (sym (map-append pair_shown c.loop-key.yielded ((c.in-Some.key, c.in-Some.value) ∷ [])))
    (one_more_found g.K.PartialEq.eq g.met.K.Eq.laws g.V.PartialEq.eq c.args.self.now.pairs c.args.other.now.pairs c.len.ensures.apart (map pair_shown c.loop-key.yielded) (c.in-Some.key.now, c.in-Some.value.now)
    (pairs_to_come c.next.new.self)
    (sym (ap pairs_to_come at.ensures.into_iter_gives ∙ c.iter-key-items.ensures.pairs)
    ∙ this_one pair_shown pairs_to_come at.result c.loop-key.yielded c.loop-key.key-iterator (c.in-Some.key, c.in-Some.value) c.next.new.self c.next.result c.loop-key.yielded_by c.in-Some.is c.next.ensures.steps)
    c.has_equal.result c.has_equal.ensures c.if-not-has_equal.false c.loop-key.invariant)

pub returns : goal.returns
returns g c =
    let at = c.into_iter-key-iterator in
    all_found g.K.PartialEq.eq g.met.K.Eq.laws g.V.PartialEq.eq c.args.self.now.pairs c.args.other.now.pairs c.len.ensures.apart (sym c.len.ensures.len ∙ c.if-len.false ∙ c.len-2.ensures.len)
    (subst (AreFound g.K.PartialEq.eq g.met.K.Eq.laws g.V.PartialEq.eq c.args.self.now.pairs c.args.other.now.pairs)
    (shown_all pair_shown pairs_to_come at.result c.loop-key.yielded c.loop-key.key-iterator c.next.new.self c.next.result c.loop-key.yielded_by c.in-None.is c.next.ensures.steps
    ∙ ap pairs_to_come at.ensures.into_iter_gives ∙ c.iter-key-items.ensures.pairs) c.loop-key.invariant)

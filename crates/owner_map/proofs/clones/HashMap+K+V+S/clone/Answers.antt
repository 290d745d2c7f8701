-- The clone of one more was stored, and at the end those of all.
use Rattle.std.proofs.Common.{[], ◌∷◌, map, ◌∙◌, ap, refl, sym, subst}
use Rattle.std.proofs.lemmas.List.{map-append}
use Rattle.map_straight.specs.Shown.Coming.{pairs_to_come}
use Rattle.map_straight.specs.Shown.Lent.{pair_shown}
use Rattle.owner_rests.specs.ShowsPairs.Stored.{IsMadeOfClones}
use Rattle.owner_asks.proofs.Pairs.Puts.{clones_same_apart}
use Rattle.owner_rests.proofs.ShowsPairs.Cloned.{clones_equal}
use Rattle.owner_rests.proofs.ShowsPairs.Stored.{clones_more, made_first}
use Rattle.owner_rests.proofs.ShowsPairs.Walked.{shown_all}
use Rattle.owner_map.proofs.clones.HashMap+K+V+S.clone.Goals as goal

pub loop-key-init : goal.loop-key-init
loop-key-init g c =
    let fresh = c.in_ok-map.ensures in (record { clones = []; each = tt; made = made_first g.K.PartialEq.eq c.in_ok-map.map fresh.pairs fresh.held fresh.last }, refl)

pub loop-key-preserved : goal.loop-key-preserved
loop-key-preserved g c =
    let inv = c.loop-key.invariant in (
      subst (λ l. IsMadeOfClones g.K.PartialEq.eq g.K.Clone.is_clone g.V.Clone.is_clone l c.put_clone.new.map) (sym (map-append pair_shown c.loop-key.yielded ((c.in-Some.key, c.in-Some.value) ∷ [])))
          (clones_more g.K.PartialEq.eq g.K.Clone.is_clone g.V.Clone.is_clone (map pair_shown c.loop-key.yielded) (c.in-Some.key.now, c.in-Some.value.now) c.loop-key.map c.put_clone.new.map inv.0 c.in_ok-put_clone.ensures.put),
      c.in_ok-put_clone.ensures.hasher ∙ inv.1,
    )

pub returns-clause-clones : goal.returns-clause-clones
returns-clause-clones g c =
    let at = c.into_iter-key-iterator in
    subst (λ l. IsMadeOfClones g.K.PartialEq.eq g.K.Clone.is_clone g.V.Clone.is_clone l c.loop-key.map)
    (shown_all pair_shown pairs_to_come at.result c.loop-key.yielded c.loop-key.key-iterator c.next.new.self c.next.result c.loop-key.yielded_by c.in-None.is c.next.ensures.steps
    ∙ ap pairs_to_come at.ensures.into_iter_gives ∙ c.iter-key-items.ensures.pairs) c.loop-key.invariant.0

pub returns-clause-same : goal.returns-clause-same
returns-clause-same g c = λ keys values.
    let all = returns-clause-clones g c in
    clones_same_apart g.K.PartialEq.eq g.K.Clone.is_clone g.V.Clone.is_clone keys values g.met.K.Eq.laws c.args.self.now.pairs all.clones c.loop-key.map.pairs c.iter-key-items.ensures.apart all.each all.made.pairs

pub returns-clause-equals : goal.returns-clause-equals
returns-clause-equals g c = λ equal keys values.
    let all = returns-clause-clones g c in
    clones_equal g.K.PartialEq.eq g.met.K.Eq.laws equal g.K.Clone.is_clone g.V.Clone.is_clone keys values c.args.self.now.pairs all.clones c.loop-key.map.pairs c.iter-key-items.ensures.apart all.each all.made.pairs

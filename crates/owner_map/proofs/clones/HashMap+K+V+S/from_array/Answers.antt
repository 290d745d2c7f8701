-- The clone of one more was stored, and at the end those of all.
use Rattle.std.proofs.Common.{[], ◌∷◌, ◌++◌, rules, subst, sym}
use Rattle.std.proofs.lemmas.List.{take_all}
use Rattle.std.proofs.lemmas.List.Elements.{all_zip_more}
use Rattle.owner_asks.specs.Pairs.Puts.{IsCloneOf}
use Rattle.owner_asks.proofs.Pairs.Puts.{clones_same}
use Rattle.owner_rests.specs.ShowsPairs.Stored.{IsMadeOfClones}
use Rattle.owner_rests.proofs.ShowsPairs.Stored.{made_first, made_more}
use Rattle.owner_map.proofs.clones.HashMap+K+V+S.from_array.Goals as goal

pub loop-item-init : goal.loop-item-init
loop-item-init g c =
    let fresh = c.in_ok-map.ensures in (record { clones = []; each = tt; made = made_first g.K.PartialEq.eq c.in_ok-map.map fresh.pairs fresh.held fresh.last }, fresh.hasher)

pub loop-item-preserved : goal.loop-item-preserved
loop-item-preserved g c =
    let more = c.in_ok-put_clone.ensures.put in let inv = c.loop-item.invariant.0 in (
      record {
        clones = inv.clones ++ (more.0 ∷ []);
        each = all_zip_more (IsCloneOf g.K.Clone.is_clone g.V.Clone.is_clone) c.args.items.now inv.clones c.loop-item.item-index c.item-item.result more.0 (search rules) c.item-item.is inv.each more.1;
        made = made_more g.K.PartialEq.eq inv.clones more.0 c.loop-item.map c.put_clone.new.map inv.made more.2;
      },
      subst g.S.Default.is_default (sym c.in_ok-put_clone.ensures.hasher) c.loop-item.invariant.1,
    )

pub returns-clause-clones : goal.returns-clause-clones
returns-clause-clones g c =
    subst (λ l. IsMadeOfClones g.K.PartialEq.eq g.K.Clone.is_clone g.V.Clone.is_clone l c.loop-item.map) (take_all c.loop-item.item-index c.args.items.now (search rules)) c.loop-item.invariant.0

pub returns-clause-same : goal.returns-clause-same
returns-clause-same g c = λ keys values.
    let all = returns-clause-clones g c in
    clones_same g.K.PartialEq.eq g.K.Clone.is_clone g.V.Clone.is_clone keys values c.args.items.now all.clones c.loop-item.map.pairs all.each all.made.pairs

pub returns-clause-hasher : goal.returns-clause-hasher
returns-clause-hasher g c = c.loop-item.invariant.1

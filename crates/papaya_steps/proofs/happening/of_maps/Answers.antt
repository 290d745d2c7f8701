-- An event of maps, or one that reclaims everything.
use Rattle.std.proofs.Common.{ap, length, refl, sym, ◌∙◌}
use Rattle.std.proofs.lemmas.Result.{IfOk-weaker}
use Rattle.papaya_steps.proofs.WholeRuns.Counts.{counts_as, counts_still}
use Rattle.papaya_steps.proofs.WholeRuns.Gives.{gave, gave_all, gave_none_if}
use Rattle.papaya_steps.proofs.WholeRuns.Happened.{due_so, may_give, may_map, may_play, still_if}
use Rattle.play_events.proofs.Events.OfAll.{all_keep, others_none}
use Rattle.play_events.proofs.Events.OfEnds.{ends_keep}
use Rattle.play_events.proofs.Events.OfMakings.{makings_keep}
use Rattle.play_events.proofs.Events.OfRows.{others_keep_if}
use Rattle.play_events.proofs.Events.OfSetups.{others_set, setup_keeps_if}
use Rattle.papaya_steps.specs.WholeRuns.Kinds.{event_of_maps}
use Rattle.papaya_steps.proofs.WholeRuns.GoingOn.{close_acts, end_acts, make_acts, nothing_acts_if, reclaim_acts}
use Rattle.papaya_steps.proofs.happening.of_maps.Goals as goal

pub make_map-requires : goal.make_map-requires
make_map-requires g c =
    let r = c.requires in
    (g.K.PartialEq.eq, g.S.Hashes.hash c.args.scheduler.now.logged.executor.hasher, r.0, r.1, may_map g.K.PartialEq.eq (g.S.Hashes.hash c.args.scheduler.now.logged.executor.hasher) (event_of_maps c.args.event) _ (ap event_of_maps c.in-MakeMap.is) c.args.scheduler.now r.0 r.1 r.2 r.3)

pub returns-in-MakeMap-clause-happens : goal.returns-in-MakeMap-clause-happens
returns-in-MakeMap-clause-happens g c =
    still_if g.K.PartialEq.eq (g.S.Hashes.hash c.args.scheduler.now.logged.executor.hasher) (event_of_maps c.args.event) _ (ap event_of_maps c.in-MakeMap.is) c.args.scheduler.now c.args.is_first c.make_map.new.scheduler refl c.make_map.result c.make_map.ensures.steps c.make_map.ensures.quiet
    (IfOk-weaker c.make_map.result _ _ (λ played all. let plays = all g.K.PartialEq.eq (g.S.Hashes.hash c.args.scheduler.now.logged.executor.hasher) in λ terms log first holds out. plays terms log (may_map g.K.PartialEq.eq (g.S.Hashes.hash c.args.scheduler.now.logged.executor.hasher) (event_of_maps c.args.event) _ (ap event_of_maps c.in-MakeMap.is) c.args.scheduler.now terms log holds out)) c.make_map.ensures.plays)

pub end_map-requires : goal.end_map-requires
end_map-requires g c = (g.K.PartialEq.eq, g.S.Hashes.hash c.args.scheduler.now.logged.executor.hasher, may_play g.K.PartialEq.eq (g.S.Hashes.hash c.args.scheduler.now.logged.executor.hasher) (event_of_maps c.args.event) _ (ap event_of_maps c.in-EndMap.is) c.args.scheduler.now c.requires)

pub returns-in-EndMap-clause-happens : goal.returns-in-EndMap-clause-happens
returns-in-EndMap-clause-happens g c =
    still_if g.K.PartialEq.eq (g.S.Hashes.hash c.args.scheduler.now.logged.executor.hasher) (event_of_maps c.args.event) _ (ap event_of_maps c.in-EndMap.is) c.args.scheduler.now c.args.is_first c.end_map.new.scheduler refl c.end_map.result c.end_map.ensures.steps c.end_map.ensures.quiet
    (IfOk-weaker c.end_map.result _ _ (λ played all. let plays = all g.K.PartialEq.eq (g.S.Hashes.hash c.args.scheduler.now.logged.executor.hasher) in λ terms log first holds out. plays terms log (due_so g.K.PartialEq.eq (g.S.Hashes.hash c.args.scheduler.now.logged.executor.hasher) (event_of_maps c.args.event) _ (ap event_of_maps c.in-EndMap.is) c.args.scheduler.now terms log holds out) holds.counts.apart) c.end_map.ensures.plays)

pub show_shape-requires : goal.show_shape-requires
show_shape-requires g c = (g.K.PartialEq.eq, g.S.Hashes.hash c.args.scheduler.now.logged.executor.hasher, may_play g.K.PartialEq.eq (g.S.Hashes.hash c.args.scheduler.now.logged.executor.hasher) (event_of_maps c.args.event) _ (ap event_of_maps c.in-ShowShape.is) c.args.scheduler.now c.requires)

pub returns-in-ShowShape-clause-happens : goal.returns-in-ShowShape-clause-happens
returns-in-ShowShape-clause-happens g c =
    still_if g.K.PartialEq.eq (g.S.Hashes.hash c.args.scheduler.now.logged.executor.hasher) (event_of_maps c.args.event) _ (ap event_of_maps c.in-ShowShape.is) c.args.scheduler.now c.args.is_first c.args.scheduler.now refl c.show_shape.result c.show_shape.ensures.steps c.show_shape.ensures.quiet
    (IfOk-weaker c.show_shape.result _ _ (λ played all. let plays = all g.K.PartialEq.eq (g.S.Hashes.hash c.args.scheduler.now.logged.executor.hasher) in λ terms log first holds out. plays terms log (due_so g.K.PartialEq.eq (g.S.Hashes.hash c.args.scheduler.now.logged.executor.hasher) (event_of_maps c.args.event) _ (ap event_of_maps c.in-ShowShape.is) c.args.scheduler.now terms log holds out)) c.show_shape.ensures.plays)

pub reclaim_all-requires : goal.reclaim_all-requires
reclaim_all-requires g c = (g.K.PartialEq.eq, g.S.Hashes.hash c.args.scheduler.now.logged.executor.hasher, may_give g.K.PartialEq.eq (g.S.Hashes.hash c.args.scheduler.now.logged.executor.hasher) (event_of_maps c.args.event) _ (ap event_of_maps c.in-ReclaimAll.is) c.args.scheduler.now c.requires)

pub returns-in-ReclaimAll-clause-happens : goal.returns-in-ReclaimAll-clause-happens
returns-in-ReclaimAll-clause-happens g c =
    still_if g.K.PartialEq.eq (g.S.Hashes.hash c.args.scheduler.now.logged.executor.hasher) (event_of_maps c.args.event) _ (ap event_of_maps c.in-ReclaimAll.is) c.args.scheduler.now c.args.is_first c.reclaim_all.new.scheduler refl c.reclaim_all.result c.reclaim_all.ensures.steps c.reclaim_all.ensures.quiet
    (IfOk-weaker c.reclaim_all.result _ _ (λ played all. let plays = all g.K.PartialEq.eq (g.S.Hashes.hash c.args.scheduler.now.logged.executor.hasher) in λ terms log first holds out. plays terms log (due_so g.K.PartialEq.eq (g.S.Hashes.hash c.args.scheduler.now.logged.executor.hasher) (event_of_maps c.args.event) _ (ap event_of_maps c.in-ReclaimAll.is) c.args.scheduler.now terms log holds out) holds.gives) c.reclaim_all.ensures.plays)

pub close-requires : goal.close-requires
close-requires g c = (g.K.PartialEq.eq, g.S.Hashes.hash c.args.scheduler.now.logged.executor.hasher, may_give g.K.PartialEq.eq (g.S.Hashes.hash c.args.scheduler.now.logged.executor.hasher) (event_of_maps c.args.event) _ (ap event_of_maps c.in-Close.is) c.args.scheduler.now c.requires)

pub returns-in-Close-clause-happens : goal.returns-in-Close-clause-happens
returns-in-Close-clause-happens g c =
    still_if g.K.PartialEq.eq (g.S.Hashes.hash c.args.scheduler.now.logged.executor.hasher) (event_of_maps c.args.event) _ (ap event_of_maps c.in-Close.is) c.args.scheduler.now c.args.is_first c.close.new.scheduler refl c.close.result c.close.ensures.steps c.close.ensures.quiet
    (IfOk-weaker c.close.result _ _ (λ played all. let plays = all g.K.PartialEq.eq (g.S.Hashes.hash c.args.scheduler.now.logged.executor.hasher) in λ terms log first holds out. plays terms log (due_so g.K.PartialEq.eq (g.S.Hashes.hash c.args.scheduler.now.logged.executor.hasher) (event_of_maps c.args.event) _ (ap event_of_maps c.in-Close.is) c.args.scheduler.now terms log holds out) holds.gives) c.close.ensures.plays)

pub returns-in-MakeMap-clause-back : goal.returns-in-MakeMap-clause-back
returns-in-MakeMap-clause-back g c = gave_none_if g.K.PartialEq.eq (g.S.Hashes.hash c.args.scheduler.now.logged.executor.hasher) (event_of_maps c.args.event) _ (ap event_of_maps c.in-MakeMap.is) c.args.scheduler.now (λ did none. none) c.make_map.result c.args.back.now.items

pub returns-in-EndMap-clause-back : goal.returns-in-EndMap-clause-back
returns-in-EndMap-clause-back g c = gave g.K.PartialEq.eq (g.S.Hashes.hash c.args.scheduler.now.logged.executor.hasher) (event_of_maps c.args.event) _ (ap event_of_maps c.in-EndMap.is) c.args.scheduler.now c.end_map.result c.args.back.now.items c.end_map.new.back.items c.end_map.ensures.back

pub returns-in-ShowShape-clause-back : goal.returns-in-ShowShape-clause-back
returns-in-ShowShape-clause-back g c = gave_none_if g.K.PartialEq.eq (g.S.Hashes.hash c.args.scheduler.now.logged.executor.hasher) (event_of_maps c.args.event) _ (ap event_of_maps c.in-ShowShape.is) c.args.scheduler.now (λ did none. none) c.show_shape.result c.args.back.now.items

pub returns-in-ReclaimAll-clause-back : goal.returns-in-ReclaimAll-clause-back
returns-in-ReclaimAll-clause-back g c = gave_all g.K.PartialEq.eq (g.S.Hashes.hash c.args.scheduler.now.logged.executor.hasher) (event_of_maps c.args.event) _ (ap event_of_maps c.in-ReclaimAll.is) c.args.scheduler.now c.reclaim_all.result c.args.back.now.items c.reclaim_all.new.back.items c.reclaim_all.ensures.back

pub returns-in-Close-clause-back : goal.returns-in-Close-clause-back
returns-in-Close-clause-back g c = gave_all g.K.PartialEq.eq (g.S.Hashes.hash c.args.scheduler.now.logged.executor.hasher) (event_of_maps c.args.event) _ (ap event_of_maps c.in-Close.is) c.args.scheduler.now c.close.result c.args.back.now.items c.close.new.back.items c.close.ensures.back

pub returns-in-MakeMap-clause-count : goal.returns-in-MakeMap-clause-count
returns-in-MakeMap-clause-count g c = counts_as (event_of_maps c.args.event) c.make_map.result (length c.args.scheduler.now.logged.executor.maps.items) (length c.make_map.new.scheduler.logged.executor.maps.items) _ (ap event_of_maps c.in-MakeMap.is) c.make_map.ensures.numbers

pub returns-in-EndMap-clause-count : goal.returns-in-EndMap-clause-count
returns-in-EndMap-clause-count g c = counts_still (event_of_maps c.args.event) c.end_map.result (length c.args.scheduler.now.logged.executor.maps.items) (length c.end_map.new.scheduler.logged.executor.maps.items) (λ n mode k made. (let two = sym (ap event_of_maps c.in-EndMap.is) ∙ made in cc two)) c.end_map.ensures.given.3

pub returns-in-ShowShape-clause-count : goal.returns-in-ShowShape-clause-count
returns-in-ShowShape-clause-count g c = counts_still (event_of_maps c.args.event) c.show_shape.result (length c.args.scheduler.now.logged.executor.maps.items) (length c.args.scheduler.now.logged.executor.maps.items) (λ n mode k made. (let two = sym (ap event_of_maps c.in-ShowShape.is) ∙ made in cc two)) refl

pub returns-in-ReclaimAll-clause-count : goal.returns-in-ReclaimAll-clause-count
returns-in-ReclaimAll-clause-count g c = counts_still (event_of_maps c.args.event) c.reclaim_all.result (length c.args.scheduler.now.logged.executor.maps.items) (length c.reclaim_all.new.scheduler.logged.executor.maps.items) (λ n mode k made. (let two = sym (ap event_of_maps c.in-ReclaimAll.is) ∙ made in cc two)) c.reclaim_all.ensures.given.3

pub returns-in-Close-clause-count : goal.returns-in-Close-clause-count
returns-in-Close-clause-count g c = counts_still (event_of_maps c.args.event) c.close.result (length c.args.scheduler.now.logged.executor.maps.items) (length c.close.new.scheduler.logged.executor.maps.items) (λ n mode k made. (let two = sym (ap event_of_maps c.in-Close.is) ∙ made in cc two)) c.close.ensures.given.3

pub returns-in-MakeMap-clause-rows : goal.returns-in-MakeMap-clause-rows
returns-in-MakeMap-clause-rows g c = makings_keep g.K.PartialEq.eq (g.S.Hashes.hash c.args.scheduler.now.logged.executor.hasher) (event_of_maps c.args.event) _ _ _ (ap event_of_maps c.in-MakeMap.is) c.args.scheduler.now c.make_map.new.scheduler c.make_map.result c.make_map.ensures.works

pub returns-in-EndMap-clause-rows : goal.returns-in-EndMap-clause-rows
returns-in-EndMap-clause-rows g c = ends_keep g.K.PartialEq.eq (g.S.Hashes.hash c.args.scheduler.now.logged.executor.hasher) (event_of_maps c.args.event) _ (ap event_of_maps c.in-EndMap.is) c.args.scheduler.now c.end_map.new.scheduler c.end_map.result c.end_map.ensures.works

pub returns-in-ShowShape-clause-rows : goal.returns-in-ShowShape-clause-rows
returns-in-ShowShape-clause-rows g c = others_keep_if g.K.PartialEq.eq (g.S.Hashes.hash c.args.scheduler.now.logged.executor.hasher) (event_of_maps c.args.event) _ (ap event_of_maps c.in-ShowShape.is) c.args.scheduler.now c.args.scheduler.now refl c.show_shape.result

pub returns-in-ReclaimAll-clause-rows : goal.returns-in-ReclaimAll-clause-rows
returns-in-ReclaimAll-clause-rows g c = others_keep_if g.K.PartialEq.eq (g.S.Hashes.hash c.args.scheduler.now.logged.executor.hasher) (event_of_maps c.args.event) _ (ap event_of_maps c.in-ReclaimAll.is) c.args.scheduler.now c.reclaim_all.new.scheduler refl c.reclaim_all.result

pub returns-in-Close-clause-rows : goal.returns-in-Close-clause-rows
returns-in-Close-clause-rows g c = others_keep_if g.K.PartialEq.eq (g.S.Hashes.hash c.args.scheduler.now.logged.executor.hasher) (event_of_maps c.args.event) _ (ap event_of_maps c.in-Close.is) c.args.scheduler.now c.close.new.scheduler refl c.close.result

pub returns-in-MakeMap-clause-all : goal.returns-in-MakeMap-clause-all
returns-in-MakeMap-clause-all g c = others_none g.K.PartialEq.eq (g.S.Hashes.hash c.args.scheduler.now.logged.executor.hasher) (event_of_maps c.args.event) _ (ap event_of_maps c.in-MakeMap.is) c.args.scheduler.now c.make_map.new.scheduler refl c.make_map.result

pub returns-in-EndMap-clause-all : goal.returns-in-EndMap-clause-all
returns-in-EndMap-clause-all g c = others_none g.K.PartialEq.eq (g.S.Hashes.hash c.args.scheduler.now.logged.executor.hasher) (event_of_maps c.args.event) _ (ap event_of_maps c.in-EndMap.is) c.args.scheduler.now c.end_map.new.scheduler refl c.end_map.result

pub returns-in-ShowShape-clause-all : goal.returns-in-ShowShape-clause-all
returns-in-ShowShape-clause-all g c = others_none g.K.PartialEq.eq (g.S.Hashes.hash c.args.scheduler.now.logged.executor.hasher) (event_of_maps c.args.event) _ (ap event_of_maps c.in-ShowShape.is) c.args.scheduler.now c.args.scheduler.now refl c.show_shape.result

pub returns-in-ReclaimAll-clause-all : goal.returns-in-ReclaimAll-clause-all
returns-in-ReclaimAll-clause-all g c = all_keep g.K.PartialEq.eq (g.S.Hashes.hash c.args.scheduler.now.logged.executor.hasher) (event_of_maps c.args.event) _ (ap event_of_maps c.in-ReclaimAll.is) c.args.scheduler.now c.reclaim_all.new.scheduler c.reclaim_all.result c.reclaim_all.ensures.works

pub returns-in-Close-clause-all : goal.returns-in-Close-clause-all
returns-in-Close-clause-all g c = all_keep g.K.PartialEq.eq (g.S.Hashes.hash c.args.scheduler.now.logged.executor.hasher) (event_of_maps c.args.event) _ (ap event_of_maps c.in-Close.is) c.args.scheduler.now c.close.new.scheduler c.close.result c.close.ensures.works

pub returns-in-ShowShape-clause-setups : goal.returns-in-ShowShape-clause-setups
returns-in-ShowShape-clause-setups g c = setup_keeps_if g.K.PartialEq.eq (g.S.Hashes.hash c.args.scheduler.now.logged.executor.hasher) (event_of_maps c.args.event) _ (ap event_of_maps c.in-ShowShape.is) c.args.scheduler.now c.args.scheduler.now c.show_shape.result c.show_shape.ensures.works

pub returns-in-MakeMap-clause-setups : goal.returns-in-MakeMap-clause-setups
returns-in-MakeMap-clause-setups g c = others_set g.K.PartialEq.eq (g.S.Hashes.hash c.args.scheduler.now.logged.executor.hasher) (event_of_maps c.args.event) _ (ap event_of_maps c.in-MakeMap.is) c.args.scheduler.now c.make_map.new.scheduler refl c.make_map.result

pub returns-in-EndMap-clause-setups : goal.returns-in-EndMap-clause-setups
returns-in-EndMap-clause-setups g c = others_set g.K.PartialEq.eq (g.S.Hashes.hash c.args.scheduler.now.logged.executor.hasher) (event_of_maps c.args.event) _ (ap event_of_maps c.in-EndMap.is) c.args.scheduler.now c.end_map.new.scheduler refl c.end_map.result

pub returns-in-ReclaimAll-clause-setups : goal.returns-in-ReclaimAll-clause-setups
returns-in-ReclaimAll-clause-setups g c = others_set g.K.PartialEq.eq (g.S.Hashes.hash c.args.scheduler.now.logged.executor.hasher) (event_of_maps c.args.event) _ (ap event_of_maps c.in-ReclaimAll.is) c.args.scheduler.now c.reclaim_all.new.scheduler refl c.reclaim_all.result

pub returns-in-Close-clause-setups : goal.returns-in-Close-clause-setups
returns-in-Close-clause-setups g c = others_set g.K.PartialEq.eq (g.S.Hashes.hash c.args.scheduler.now.logged.executor.hasher) (event_of_maps c.args.event) _ (ap event_of_maps c.in-Close.is) c.args.scheduler.now c.close.new.scheduler refl c.close.result

pub returns-in-MakeMap-clause-acts : goal.returns-in-MakeMap-clause-acts
returns-in-MakeMap-clause-acts g c = make_acts g.K.PartialEq.eq g.S.Hashes.hash (event_of_maps c.args.event) c.args.scheduler.now c.make_map.new.scheduler _ _ _ (ap event_of_maps c.in-MakeMap.is) c.make_map.result c.make_map.ensures.steps c.make_map.ensures.works c.make_map.ensures.numbers

pub returns-in-EndMap-clause-acts : goal.returns-in-EndMap-clause-acts
returns-in-EndMap-clause-acts g c = end_acts g.K.PartialEq.eq g.S.Hashes.hash (event_of_maps c.args.event) c.args.scheduler.now c.end_map.new.scheduler _ (ap event_of_maps c.in-EndMap.is) c.end_map.result c.end_map.ensures.steps c.end_map.ensures.works c.end_map.ensures.given

pub returns-in-ShowShape-clause-acts : goal.returns-in-ShowShape-clause-acts
returns-in-ShowShape-clause-acts g c = nothing_acts_if g.K.PartialEq.eq g.S.Hashes.hash (event_of_maps c.args.event) c.args.scheduler.now c.args.scheduler.now _ (ap event_of_maps c.in-ShowShape.is) c.show_shape.result c.show_shape.ensures.steps c.show_shape.ensures.works refl

pub returns-in-ReclaimAll-clause-acts : goal.returns-in-ReclaimAll-clause-acts
returns-in-ReclaimAll-clause-acts g c = reclaim_acts g.K.PartialEq.eq g.S.Hashes.hash (event_of_maps c.args.event) c.args.scheduler.now c.reclaim_all.new.scheduler (ap event_of_maps c.in-ReclaimAll.is) c.requires c.reclaim_all.result c.reclaim_all.ensures.steps c.reclaim_all.ensures.works c.reclaim_all.ensures.given

pub returns-in-Close-clause-acts : goal.returns-in-Close-clause-acts
returns-in-Close-clause-acts g c = close_acts g.K.PartialEq.eq g.S.Hashes.hash (event_of_maps c.args.event) c.args.scheduler.now c.close.new.scheduler (ap event_of_maps c.in-Close.is) c.requires c.close.result c.close.ensures.steps c.close.ensures.works c.close.ensures.given

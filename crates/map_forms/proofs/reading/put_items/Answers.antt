-- Each item is read, and its element put.
use Rattle.std.proofs.Common.{[], ◌∷◌, ◌++◌, refl, rules, subst}
use Rattle.std.proofs.lemmas.Fn.{FoldsTo-push}
use Rattle.std.proofs.lemmas.List.{take_all}
use Rattle.serde_json.specs.View.{items_view}
use Rattle.map_forms.specs.Arrays.{AreElementsOf}
use Rattle.map_forms.proofs.Readings.{one_behind}
use Rattle.map_forms.proofs.Read.{bad_among}
use Rattle.map_forms.proofs.reading.put_items.Goals as goal

pub loop-item-init : goal.loop-item-init
loop-item-init g c = ([], tt, refl)

pub loop-item-preserved : goal.loop-item-preserved
loop-item-preserved g c =
    let put = c.in-Ok.ensures.put in let so = c.loop-item.invariant in (
      so.0 ++ (put.0 ∷ []),
      one_behind g.K.JsonForm.in_range g.K.JsonForm.json_value g.K.PartialEq.eq c.args.items.now c.loop-item.item-index _ so.0 put.0 (search rules) c.item-item.is so.1 put.1,
      FoldsTo-push g.C.Puts.has_put c.args.into.now so.0 c.loop-item.into put.0 c.put_item.new.into so.2 put.2,
    )

pub returns-in-Err-clause-fault : goal.returns-in-Err-clause-fault
returns-in-Err-clause-fault g c =
    let so = c.loop-item.invariant in
    bad_among g.K.JsonForm.in_range g.K.JsonForm.json_value c.in-Err.why so.0 c.args.items.now c.loop-item.item-index _ (search rules) c.item-item.is so.1 c.in-Err.ensures.fault

pub returns-clause-put : goal.returns-clause-put
returns-clause-put g c =
    let so = c.loop-item.invariant in (
      so.0,
      subst (λ l. AreElementsOf g.K.JsonForm.in_range g.K.JsonForm.json_value so.0 (items_view l)) (take_all c.loop-item.item-index c.args.items.now (search rules)) so.1,
      so.2,
    )

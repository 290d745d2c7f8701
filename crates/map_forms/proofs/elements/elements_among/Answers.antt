-- Each item is read, and its element put.
use Rattle.std.proofs.Common.{[], ◌∷◌, ◌++◌, refl, rules, subst}
use Rattle.std.proofs.lemmas.List.{take_all}
use Rattle.std.proofs.lemmas.Result.{err_from_is_err_and}
use Rattle.serde_json.specs.View.{items_view}
use Rattle.map_forms.specs.Arrays.{AreElementsOf}
use Rattle.map_forms.proofs.Readings.{fault_at, goes_on, has_elements, none_yet, one_behind}
use Rattle.map_forms.proofs.elements.elements_among.Goals as goal

pub loop-item-init : goal.loop-item-init
loop-item-init g c = (none_yet g.K.JsonForm.in_range g.K.JsonForm.json_value g.K.PartialEq.eq _ c.in_ok-found.ensures.bare, ([], tt, c.in_ok-found.ensures.made))

pub loop-item-preserved : goal.loop-item-preserved
loop-item-preserved g c =
    let put = c.in_ok-put_element.ensures.put in
    let so = c.loop-item.invariant in (
      goes_on g.K.JsonForm.in_range g.K.JsonForm.json_value g.K.PartialEq.eq g.met.K.Eq.laws g.met.K.JsonForm.json_value_tells c.args.items.now c.loop-item.item-index _ _ _ (search rules)
          c.item-item.is so.0 (put.0, put.1, put.2),
      (
        so.1.0 ++ (put.0 ∷ []),
        one_behind g.K.JsonForm.in_range g.K.JsonForm.json_value g.K.PartialEq.eq c.args.items.now c.loop-item.item-index _ so.1.0 put.0 (search rules) c.item-item.is so.1.1 put.1,
        put.3 so.1.0 so.1.2,
      ),
    )

pub returns-in_err-put_element-clause-fault : goal.returns-in_err-put_element-clause-fault
returns-in_err-put_element-clause-fault g c =
    let p = err_from_is_err_and c.from_residual-in_err-put_element.result c.from_residual-in_err-put_element.ensures.1 in
    rw (p.1, p.2)
    (fault_at g.K.JsonForm.in_range g.K.JsonForm.json_value g.K.PartialEq.eq _ c.args.items.now c.loop-item.item-index _ _ (search rules) c.item-item.is c.loop-item.invariant.0
    c.in_err-put_element.ensures.fault)

pub returns-clause-elements : goal.returns-clause-elements
returns-clause-elements g c =
    has_elements g.K.JsonForm.in_range g.K.JsonForm.json_value g.K.PartialEq.eq c.args.items.now c.loop-item.item-index _ (search rules) c.loop-item.invariant.0

pub returns-clause-in_range : goal.returns-clause-in_range
returns-clause-in_range g c = c.loop-item.invariant.0.ranged

pub returns-clause-once : goal.returns-clause-once
returns-clause-once g c = c.loop-item.invariant.0.once

pub returns-clause-made : goal.returns-clause-made
returns-clause-made g c =
    let so = c.loop-item.invariant.1 in (
      so.0,
      (
        items_view c.args.items.now,
        refl,
        subst (λ l. AreElementsOf g.K.JsonForm.in_range g.K.JsonForm.json_value so.0 (items_view l)) (take_all c.loop-item.item-index c.args.items.now (search rules)) so.1,
      ),
      so.2,
    )

-- The list of a map is copied.
use Rattle.std.specs.Prelude.{is_some}
use Rattle.std.proofs.Common.{sym, ap, ◌∙◌}
use Rattle.std.proofs.lemmas.Result.{IfOk-weaker}
use Rattle.run_effects.specs.Tallies.ByMap.{list_at}
use Rattle.run_effects.proofs.Tallies.MapLists.{list_past, list_read, none_past}
use Rattle.run_effects.proofs.by_map.ByMap.pairs_of.Goals as goal

pub returns-in-Some : goal.returns-in-Some
returns-in-Some c =
    let found = c.in-Some.ensures.lookup in
    IfOk-weaker c.from_slice.result _ _ (λ pairs is.
    is ∙ c.as_slice.ensures.value ∙ sym (list_read c.deref.result.now c.args.map c.in-Some.pairs.now found.1 found.3.0) ∙ ap (λ l. list_at l c.args.map) c.deref.ensures.value) c.from_slice.ensures.items

pub returns-in-None : goal.returns-in-None
returns-in-None c =
    c.new.ensures.items
    ∙ sym (list_past c.deref.result.now c.args.map (none_past _ _ c.get.result (ap is_some c.in-None.is) c.get.ensures.lookup.3))
    ∙ ap (λ l. list_at l c.args.map) c.deref.ensures.value

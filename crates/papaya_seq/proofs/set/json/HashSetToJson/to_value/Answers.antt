-- The elements that its walk shows are those of the set.
use Rattle.std.specs.List.{All}
use Rattle.std.proofs.Common.{subst, ◌∙◌}
use Rattle.std.proofs.lemmas.List.Elements.{All-map}
use Rattle.std.proofs.lemmas.Result.{IfOk-weaker}
use Rattle.serde_json.specs.View.{view}
use Rattle.map_forms.specs.Arrays.{IsArrayOf}
use Rattle.map_straight.specs.Shown.Columns.{keys_to_come}
use Rattle.owner_map.proofs.Given.SeqShowsWalked.{shown_to_end}
use Rattle.papaya_seq.proofs.set.json.HashSetToJson.to_value.Goals as goal

pub returns : goal.returns
returns g c =
    IfOk-weaker c.array_of.result _ _
    (λ written w. let shown = shown_to_end (λ x. x.now) keys_to_come c.iter.result w.0 w.1 ∙ c.iter.ensures.elements in record {
      array = subst (λ xs. IsArrayOf g.K.JsonForm.json_value xs (view written)) shown w.3;
      in_range = subst (All g.K.JsonForm.in_range) shown (All-map g.K.JsonForm.in_range (λ x. x.now) w.0 w.2);
    }) c.array_of.ensures

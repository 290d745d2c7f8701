use Rattle.std.specs.Prelude.{List, take}
use Rattle.std.specs.List.{FoldsTo}
use Rattle.serde_json.specs.View.{items_view}
use Rattle.map_forms.specs.Arrays.{AreElementsOf}
use Rattle.map_forms.proofs.reading.put_items.Given as goal

-- so many items are read, and what they stand for was put there
abbrev pub invariant-loop-item : goal.invariant-loop-item
invariant-loop-item g l =
    (given : List g.row.K.Denot) × AreElementsOf g.K.JsonForm.in_range g.K.JsonForm.json_value given (items_view (take l.item-index l.items)) × FoldsTo g.C.Puts.has_put l.fn.into given l.into

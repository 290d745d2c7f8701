-- What is so of the items so far.
use Rattle.std.specs.Prelude.{List, take}
use Rattle.serde_json.specs.View.{items_view}
use Rattle.map_forms.specs.Arrays.{AreElementsOf}
use Rattle.map_forms.proofs.Readings.{AreRead}
use Rattle.map_forms.proofs.elements.elements_among.Given as goal

-- so many items are read, and what they stand for was put in, in their order
abbrev pub invariant-loop-item : goal.invariant-loop-item
invariant-loop-item g l =
    AreRead g.K.JsonForm.in_range g.K.JsonForm.json_value g.K.PartialEq.eq (take l.item-index l.items) (g.C.Gathers.elements l.found)
    × ((given : List g.row.K.Denot) × AreElementsOf g.K.JsonForm.in_range g.K.JsonForm.json_value given (items_view (take l.item-index l.items)) × g.C.Gathers.made_of l.found given)

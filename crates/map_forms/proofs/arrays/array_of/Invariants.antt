-- What is so of the elements so far.
use Rattle.std.specs.Prelude.{map, string_cmp}
use Rattle.std.specs.BTreeMap.{IsOrdered}
use Rattle.std.specs.List.{All}
use Rattle.map_forms.proofs.SortedItems.{AreSoFar}
use Rattle.map_forms.proofs.arrays.array_of.Given as goal

-- the elements so far are in range, and their values stand beside their texts, in order
abbrev pub invariant-loop-element : goal.invariant-loop-element
invariant-loop-element g l =
    All (λ x. g.K.JsonForm.in_range x.now) l.yielded × AreSoFar g.K.JsonForm.json_value (map (λ x. x.now) l.yielded) l.items.entries × IsOrdered string_cmp l.items

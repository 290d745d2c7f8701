-- Each element's value is put beside its text, and at the end the values are listed.
use Rattle.std.proofs.Common.{◌∷◌, [], map, rules, sym, subst}
use Rattle.std.proofs.lemmas.List.{map-append}
use Rattle.std.proofs.lemmas.List.Elements.{All-nil, All-push}
use Rattle.map_forms.proofs.SortedItems.{AreSoFar, none_yet, one_more, written_of}
use Rattle.map_forms.proofs.arrays.array_of.Goals as goal

pub loop-element-init : goal.loop-element-init
loop-element-init g c = (All-nil _, none_yet g.K.JsonForm.json_value _ c.new-items.ensures.empty, c.new-items.ensures.ordered)

pub loop-element-preserved : goal.loop-element-preserved
loop-element-preserved g c =
    let l = c.loop-element in (
      All-push (λ x. g.K.JsonForm.in_range x.now) l.yielded c.in-Some.element l.invariant.0 c.in_ok-put_item.ensures.in_range,
      subst (λ xs. AreSoFar g.K.JsonForm.json_value xs c.put_item.new.items.entries) (sym (map-append (λ x. x.now) l.yielded (c.in-Some.element ∷ [])))
          (one_more g.K.JsonForm.json_value (map (λ x. x.now) l.yielded) l.items.entries c.put_item.new.items.entries c.in-Some.element.now l.invariant.1 c.in_ok-put_item.ensures.item),
      c.in_ok-put_item.ensures.ordered,
    )

pub returns : goal.returns
returns g c =
    let l = c.loop-element in (
      l.yielded,
      search rules,
      l.invariant.0,
      written_of g.K.JsonForm.json_value (map (λ x. x.now) l.yielded) l.items.entries c.in_ok-listed.listed l.invariant.1 l.invariant.2 c.in_ok-listed.ensures,
    )

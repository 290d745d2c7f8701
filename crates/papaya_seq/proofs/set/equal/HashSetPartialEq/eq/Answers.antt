-- By the maps, which have no values.
use Rattle.std.specs.Prelude.{true}
use Rattle.std.proofs.Common.{◌∙◌, ap, sym}
use Rattle.owner_map.specs.Given.{agree, with_no_values}
use Rattle.papaya_seq.specs.Sets.{Set}
use Rattle.owner_map.proofs.Given.{no_values}
use Rattle.papaya_seq.proofs.set.equal.HashSetPartialEq.eq.Goals as goal

pub returns : goal.returns
returns g c =
    let mine = sym (no_values c.self.inside.map.pairs) ∙ ap (λ (x : Set g.row.K.Denot g.row.S.Denot). with_no_values x.elements) c.self.view_is in
    let theirs = sym (no_values c.other.inside.map.pairs) ∙ ap (λ (x : Set g.row.K.Denot g.row.S.Denot). with_no_values x.elements) c.other.view_is in
    c.eq.ensures ∙ (λ i. agree g.K.PartialEq.eq (λ _ _. true) (mine i) (theirs i))

-- By the clones of the map's keys.
use Rattle.std.specs.Prelude.{◌≡◌, true, length}
use Rattle.std.specs.List.Sorted.{IsPermutation}
use Rattle.std.specs.Map.{keys_of}
use Rattle.std.proofs.Common.{◌∙◌, refl, subst, sym}
use Rattle.std.proofs.lemmas.List.{length-map}
use Rattle.owner_map.specs.Given.{agree, with_no_values}
use Rattle.owner_map.proofs.Given.{no_values}
use Rattle.papaya_seq.specs.Sets.{Set, set_of}
use Rattle.papaya_seq.specs.Stored.{IsSetMadeOfClones}
use Rattle.papaya_seq.proofs.Sets.{keys_in_order}
use Rattle.papaya_seq.proofs.Stored.{keys_of_clones}
use Rattle.papaya_seq.proofs.set.clones.HashSet+K+S.clone.Goals as goal

pub returns-clause-clones : goal.returns-clause-clones
returns-clause-clones g c =
    let old = c.self.inside.map.pairs in let new = c.in_ok-map.map in
    subst (λ (x : Set g.row.K.Denot g.row.S.Denot). IsSetMadeOfClones g.K.PartialEq.eq g.K.Clone.is_clone x.elements (set_of new)) c.self.view_is
    (keys_of_clones g.K.PartialEq.eq g.K.Clone.is_clone (λ x y. y ≡ x) old new c.in_ok-map.ensures.clones)

pub returns-clause-same : goal.returns-clause-same
returns-clause-same g c = λ so.
    let old = c.self.inside.map.pairs in let new = c.in_ok-map.map.pairs in
    subst (λ (x : Set g.row.K.Denot g.row.S.Denot). IsPermutation (keys_of new) x.elements) c.self.view_is (keys_in_order new old (c.in_ok-map.ensures.same so (λ x y is. is)))

pub returns-clause-equals : goal.returns-clause-equals
returns-clause-equals g c = λ so.
    let old = c.self.inside.map.pairs in let new = c.in_ok-map.map.pairs in
    let both = c.in_ok-map.ensures.equals (λ x y. true) so (λ x y is. refl) in
    subst
    (λ (x : Set g.row.K.Denot g.row.S.Denot). (agree g.K.PartialEq.eq (λ a b. true) (with_no_values x.elements) (with_no_values (keys_of new)) ≡ true) × (length (keys_of new) ≡ length x.elements))
    c.self.view_is
    ((λ i. agree g.K.PartialEq.eq (λ a b. true) (no_values old i) (no_values new i)) ∙ both.0, length-map new (λ x. x.0) ∙ both.1 ∙ sym (length-map old (λ x. x.0)))

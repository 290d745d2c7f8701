-- What is left equals the new one nowhere.
use Rattle.std.specs.List.Sorted.{IsPermutation}
use Rattle.std.proofs.Common.{◌∷◌, [], ◌++◌, not, rules, subst}
use Rattle.std.proofs.lemmas.Fn.{filter_same}
use Rattle.std.proofs.lemmas.List.Sorted.{IsPermutation-refl}
use Rattle.map_forms.proofs.listed.ListedGathers.put.Goals as goal

pub returns-clause-put : goal.returns-clause-put
returns-clause-put g c =
    subst (λ xs. IsPermutation c.push.new.self.items (xs ++ c.args.element ∷ []))
    (filter_same _ (λ y. not (g.K.PartialEq.eq c.args.element y)) _ (λ x b f' k. search rules) c.args.self.now.elements.items c.retain.new.self.items c.retain.ensures.filtered)
    (subst (IsPermutation c.push.new.self.items) c.in_ok-push.ensures.items (IsPermutation-refl c.push.new.self.items))

-- The items are those of the array, as they are in a row.
use Rattle.std.proofs.Common.{◌∙◌, ap, inl, inr, refl, sym}
use Rattle.std.proofs.lemmas.Result.{IfErr-weaker}
use Rattle.serde_json.specs.Data.{array}
use Rattle.serde_json.specs.View.{items_view}
use Rattle.papaya_json.proofs.Written.{array_is, of_array, read_so}
use Rattle.papaya_json.proofs.sets.HashSetFromJson.from_value.Goals as goal

pub returns-in-Some-clause-read : goal.returns-in-Some-clause-read
returns-in-Some-clause-read g c =
    let r = c.set_of.ensures in
    let is = array_is _ _ (sym c.in-Some.ensures) ∙ ap (λ vs. array (items_view vs)) (sym c.deref.ensures.value) in
    read_so _ _ _ _ _ _ (λ m it. of_array _ _ _ _ _ _ _ is it) c.set_of.result r.filled r.hasher r.mode r.number r.ids

pub returns-in-Some-clause-fault : goal.returns-in-Some-clause-fault
returns-in-Some-clause-fault g c =
    let r = c.set_of.ensures in
    let is = array_is _ _ (sym c.in-Some.ensures) ∙ ap (λ vs. array (items_view vs)) (sym c.deref.ensures.value) in
    IfErr-weaker c.set_of.result _ _ (λ why fault. inr ((items_view c.deref.result.now, is, fault), r.ids)) r.fault

pub returns-in-None-clause-fault : goal.returns-in-None-clause-fault
returns-in-None-clause-fault g c = inl ((refl, sym c.in-None.ensures), refl)

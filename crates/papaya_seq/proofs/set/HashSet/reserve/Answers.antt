-- By the map's keys.
use Rattle.std.specs.Prelude.{◌≡◌, ◌⊎◌, ℕ, [], length, option_map, IfErr, OnOk}
use Rattle.std.specs.List.Sorted.{IsPermutation}
use Rattle.std.specs.Map.{keys_of}
use Rattle.std.proofs.Common.{ap, sym, subst, ◌∙◌}
use Rattle.std.proofs.lemmas.List.{length-map}
use Rattle.seize_words.specs.declared.fault.Fault.{Fault}
use Rattle.seize_words.specs.declared.fault.Fault.TheVariants.{Capacity}
use Rattle.owner_map.specs.Given.{CannotGrow, FirstHas, NeedTooMany, needed}
use Rattle.papaya_seq.specs.Sets.{KeepsIn, Set, set_of}
use Rattle.papaya_seq.proofs.Sets.{keys_held, keys_in_order}
use Rattle.papaya_seq.proofs.set.HashSet.reserve.Goals as goal

pub returns-clause-elements : goal.returns-clause-elements
returns-clause-elements g c =
    let new = c.reserve.new.self.pairs in
    subst (λ (x : Set g.row.K.Denot g.row.S.Denot). IsPermutation (keys_of new) x.elements) c.self.view_is (keys_in_order new c.self.inside.map.pairs c.reserve.ensures.pairs)

pub returns-clause-last : goal.returns-clause-last
returns-clause-last g c =
    let key = option_map (λ (x : g.row.K.Denot × Unit {0}). x.0) in (ap key c.reserve.ensures.last.0, ap key c.reserve.ensures.last.1)

pub returns-clause-room : goal.returns-clause-room
returns-clause-room g c =
    let as_many = sym (length-map c.self.inside.map.pairs (λ (x : g.row.K.Denot × Unit {0}). x.0)) ∙ ap (λ (x : Set g.row.K.Denot g.row.S.Denot). length x.elements) c.self.view_is in
    subst (λ (n : ℕ). OnOk c.reserve.result (FirstHas (needed c.args.additional n) c.reserve.new.self.tables)) as_many c.reserve.ensures.room

pub returns-clause-capacity : goal.returns-clause-capacity
returns-clause-capacity g c =
    let as_many = sym (length-map c.self.inside.map.pairs (λ (x : g.row.K.Denot × Unit {0}). x.0)) ∙ ap (λ (x : Set g.row.K.Denot g.row.S.Denot). length x.elements) c.self.view_is in
    subst (λ (n : ℕ). IfErr c.reserve.result (λ (fault : Fault). fault ≡ Capacity → CannotGrow c.reserve.new.self.tables ⊎ NeedTooMany c.args.additional n)) as_many c.reserve.ensures.capacity

pub returns-clause-refused : goal.returns-clause-refused
returns-clause-refused g c = λ many.
    let as_many = sym (length-map c.self.inside.map.pairs (λ (x : g.row.K.Denot × Unit {0}). x.0)) ∙ ap (λ (x : Set g.row.K.Denot g.row.S.Denot). length x.elements) c.self.view_is in
    c.reserve.ensures.refused (subst (NeedTooMany c.args.additional) (sym as_many) many)

pub returns-clause-keeps : goal.returns-clause-keeps
returns-clause-keeps g c =
    subst (λ (x : Set g.row.K.Denot g.row.S.Denot). KeepsIn [] x (set_of c.reserve.new.self)) c.self.view_is (keys_held [] c.self.inside.map c.reserve.new.self c.reserve.ensures.keeps)

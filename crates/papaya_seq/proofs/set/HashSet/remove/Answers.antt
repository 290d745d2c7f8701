-- By the map's keys.
use Rattle.std.specs.Prelude.{◌≤◌, [], find, is_some, option_map, length}
use Rattle.std.specs.List.Sorted.{IsPermutation}
use Rattle.std.specs.Map.{keys_of}
use Rattle.std.proofs.Common.{◌∙◌, ap, sym, subst}
use Rattle.std.proofs.lemmas.Result.{IfOk-weaker, MatchResult-weaker, on_ok_weaker, on_err_weaker}
use Rattle.owner_map.specs.Given.{left_by}
use Rattle.papaya_seq.specs.Sets.{KeepsIn, Set, left_in, set_of}
use Rattle.papaya_seq.proofs.Sets.{key_found, keys_are_found, keys_held, keys_in_order, keys_left}
use Rattle.papaya_seq.proofs.set.HashSet.remove.Goals as goal

pub returns-clause-some : goal.returns-clause-some
returns-clause-some g c =
    let test = g.Q.Equivalent.equivalent c.args.asked.now in
    IfOk-weaker c.take.result _ _
    (λ was so. so ∙ sym (keys_are_found test c.self.inside.map.pairs) ∙ ap (λ (x : Set g.row.K.Denot g.row.S.Denot). is_some (find test x.elements)) c.self.view_is) c.take.ensures.some

pub returns-clause-removed : goal.returns-clause-removed
returns-clause-removed g c =
    let test = g.Q.Equivalent.equivalent c.args.asked.now in let old = c.self.inside.map.pairs in let new = c.take.new.map.pairs in
    on_ok_weaker c.take.result
    (λ order.
    subst (λ (x : Set g.row.K.Denot g.row.S.Denot). IsPermutation (keys_of new) (left_in test x.elements)) c.self.view_is
    (subst (IsPermutation (keys_of new)) (keys_left test old) (keys_in_order new (left_by test old) order))) c.take.ensures.removed

pub returns-clause-refused : goal.returns-clause-refused
returns-clause-refused g c =
    let new = c.take.new.map.pairs in
    on_err_weaker c.take.result
    (λ order. subst (λ (x : Set g.row.K.Denot g.row.S.Denot). IsPermutation (keys_of new) x.elements) c.self.view_is (keys_in_order new c.self.inside.map.pairs order)) c.take.ensures.refused

pub returns-clause-last : goal.returns-clause-last
returns-clause-last g c =
    let test = g.Q.Equivalent.equivalent c.args.asked.now in
    let key = option_map (λ (x : g.row.K.Denot × Unit {0}). x.0) in
    MatchResult-weaker c.take.result c.take.ensures.last
    (λ _ so. (key_found test c.self.inside.map.pairs c.take.new.map.taken so.0 ∙ ap (λ (x : Set g.row.K.Denot g.row.S.Denot). find test x.elements) c.self.view_is, ap key so.1))
    (λ _ so. (ap key so.0, ap key so.1))

pub returns-clause-keeps : goal.returns-clause-keeps
returns-clause-keeps g c =
    subst (λ (x : Set g.row.K.Denot g.row.S.Denot). KeepsIn [] x (set_of c.take.new.map)) c.self.view_is (keys_held [] c.self.inside.map c.take.new.map c.take.ensures.keeps)

pub returns-clause-capacity : goal.returns-clause-capacity
returns-clause-capacity g c = c.take.ensures.capacity

pub returns-clause-steady : goal.returns-clause-steady
returns-clause-steady g c = λ few. c.take.ensures.steady (subst (λ (x : Set g.row.K.Denot g.row.S.Denot). length x.tables ≤ 1) (sym c.self.view_is) few)

pub returns-clause-steady_then : goal.returns-clause-steady_then
returns-clause-steady_then g c = λ few. c.take.ensures.steady_then (subst (λ (x : Set g.row.K.Denot g.row.S.Denot). length x.tables ≤ 1) (sym c.self.view_is) few)

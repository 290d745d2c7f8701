-- By the map's keys.
use Rattle.std.specs.Prelude.{◌≤◌, [], option_map, length}
use Rattle.std.specs.List.Sorted.{IsPermutation}
use Rattle.std.specs.Map.{keys_of}
use Rattle.std.proofs.Common.{ap, sym, subst}
use Rattle.std.proofs.lemmas.Result.{on_err_weaker}
use Rattle.papaya_seq.specs.Sets.{KeepsIn, Set, set_of}
use Rattle.papaya_seq.proofs.Sets.{keys_held, keys_in_order}
use Rattle.papaya_seq.proofs.set.HashSet.clear.Goals as goal

pub returns-clause-refused : goal.returns-clause-refused
returns-clause-refused g c =
    let new = c.clear.new.self.pairs in
    on_err_weaker c.clear.result
    (λ order. subst (λ (x : Set g.row.K.Denot g.row.S.Denot). IsPermutation (keys_of new) x.elements) c.self.view_is (keys_in_order new c.self.inside.map.pairs order)) c.clear.ensures.refused

pub returns-clause-last : goal.returns-clause-last
returns-clause-last g c =
    let key = option_map (λ (x : g.row.K.Denot × Unit {0}). x.0) in (ap key c.clear.ensures.last.0, ap key c.clear.ensures.last.1)

pub returns-clause-capacity : goal.returns-clause-capacity
returns-clause-capacity g c = c.clear.ensures.capacity

pub returns-clause-keeps : goal.returns-clause-keeps
returns-clause-keeps g c =
    subst (λ (x : Set g.row.K.Denot g.row.S.Denot). KeepsIn [] x (set_of c.clear.new.self)) c.self.view_is (keys_held [] c.self.inside.map c.clear.new.self c.clear.ensures.keeps)

pub returns-clause-steady : goal.returns-clause-steady
returns-clause-steady g c = λ few. c.clear.ensures.steady (subst (λ (x : Set g.row.K.Denot g.row.S.Denot). length x.tables ≤ 1) (sym c.self.view_is) few)

pub returns-clause-steady_then : goal.returns-clause-steady_then
returns-clause-steady_then g c = λ few. c.clear.ensures.steady_then (subst (λ (x : Set g.row.K.Denot g.row.S.Denot). length x.tables ≤ 1) (sym c.self.view_is) few)

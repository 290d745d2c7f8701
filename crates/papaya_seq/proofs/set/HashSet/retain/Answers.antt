-- The map asks the closure about the keys alone.
use denote.Param.Always.{always_mut, mut_by, mut_next}
use Rattle.std.specs.Prelude.{◌≤◌, [], filter, option_map, length}
use Rattle.std.specs.List.Sorted.{IsPermutation}
use Rattle.std.specs.Map.{keys_of}
use Rattle.std.proofs.Common.{ap, of_calls, refl, sym, subst}
use Rattle.std.proofs.lemmas.Result.{on_ok_weaker, on_err_weaker}
use Rattle.papaya_seq.specs.Sets.{KeepsElements, KeepsIn, Set, set_of}
use Rattle.papaya_seq.proofs.Sets.{asked_by_test, kept_in_order, keys_held, keys_in_order, keys_kept_of}
use Rattle.papaya_seq.proofs.set.HashSet.retain.Goals as goal

pub retain-requires : goal.retain-requires
retain-requires g c = record { callable = mut_by _ (λ s. always_mut g.F.FnMut s.0) (λ s a i. i) (λ s a r t i e. mut_next g.F.FnMut s.0 (a.0, tt) r t.0 t.0 (search of_calls) refl i) _ c.requires.callable }

pub returns-clause-done : goal.returns-clause-done
returns-clause-done g c =
    let new = c.retain.new.self.pairs in
    on_ok_weaker c.retain.result
    (λ d. (
      keys_of d.0,
      subst (λ (x : Set g.row.K.Denot g.row.S.Denot). KeepsElements g.F.FnMut c.args.keep x.elements (keys_of d.0)) c.self.view_is
          (keys_kept_of g.F.FnMut (λ s. s.0) (λ s next p q r e. search of_calls) _ c.self.inside.map.pairs d.0 d.1),
      keys_in_order new d.0 d.2,
    )) c.retain.ensures.done

pub returns-clause-by_test : goal.returns-clause-by_test
returns-clause-by_test g c = λ test so.
    let new = c.retain.new.self.pairs in
    on_ok_weaker c.retain.result
    (λ order. subst (λ (x : Set g.row.K.Denot g.row.S.Denot). IsPermutation (keys_of new) (filter test x.elements)) c.self.view_is (kept_in_order test new c.self.inside.map.pairs order))
    (c.retain.ensures.by_test (λ k v. test k) (asked_by_test g.F.FnMut (λ s. s.0) (λ s next p q r e. search of_calls) test _ so))

pub returns-clause-refused : goal.returns-clause-refused
returns-clause-refused g c =
    let new = c.retain.new.self.pairs in
    on_err_weaker c.retain.result
    (λ order. subst (λ (x : Set g.row.K.Denot g.row.S.Denot). IsPermutation (keys_of new) x.elements) c.self.view_is (keys_in_order new c.self.inside.map.pairs order)) c.retain.ensures.refused

pub returns-clause-last : goal.returns-clause-last
returns-clause-last g c =
    let key = option_map (λ (x : g.row.K.Denot × Unit {0}). x.0) in (ap key c.retain.ensures.last.0, ap key c.retain.ensures.last.1)

pub returns-clause-capacity : goal.returns-clause-capacity
returns-clause-capacity g c = c.retain.ensures.capacity

pub returns-clause-keeps : goal.returns-clause-keeps
returns-clause-keeps g c =
    subst (λ (x : Set g.row.K.Denot g.row.S.Denot). KeepsIn [] x (set_of c.retain.new.self)) c.self.view_is (keys_held [] c.self.inside.map c.retain.new.self c.retain.ensures.keeps)

pub returns-clause-steady : goal.returns-clause-steady
returns-clause-steady g c = λ few. c.retain.ensures.steady (subst (λ (x : Set g.row.K.Denot g.row.S.Denot). length x.tables ≤ 1) (sym c.self.view_is) few)

pub returns-clause-steady_then : goal.returns-clause-steady_then
returns-clause-steady_then g c = λ few. c.retain.ensures.steady_then (subst (λ (x : Set g.row.K.Denot g.row.S.Denot). length x.tables ≤ 1) (sym c.self.view_is) few)

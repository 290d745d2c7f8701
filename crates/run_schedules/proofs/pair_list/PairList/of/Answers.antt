use Rattle.std.proofs.Common.{rules, ◌≡◌, ◌∷◌, ◌++◌, [], arith, ap, sym, ◌∙◌, append-nil}
use Rattle.std.proofs.lemmas.List.{append_assoc}
use Rattle.run_schedules.proofs.Runs.PairLists.{none_left}
use Rattle.run_schedules.proofs.pair_list.PairList.of.Goals as goal

pub loop-pair-preserved : goal.loop-pair-preserved
loop-pair-preserved g c =
    let next : c.loop-pair.pair-iterator.rest.items ≡ c.in-Some.pair ∷ c.next.new.self.rest.items = let s = c.in-Some.ensures.steps in search rules in
    ap (λ l. l ++ c.next.new.self.rest.items) c.in_ok-push.ensures.ok
    ∙ append_assoc c.loop-pair.list (c.in-Some.pair ∷ []) c.next.new.self.rest.items
    ∙ ap (λ l. c.loop-pair.list ++ l) (sym next) ∙ c.loop-pair.invariant

pub returns : goal.returns
returns g c =
    let none = none_left c.loop-pair.pair-iterator.rest.items (let a = c.loop-pair.pair-iterator.rest.ok in let s = c.in-None.ensures.steps in omega (arith, a, s.0)) in
    sym (append-nil c.loop-pair.list) ∙ ap (λ l. c.loop-pair.list ++ l) (sym none) ∙ c.loop-pair.invariant

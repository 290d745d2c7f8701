use Rattle.std.proofs.Common.{◌≡◌, arith, rules, List, map, ap, subst, ◌∙◌}
use Rattle.std.specs.List.{filter_map}
use Rattle.std.specs.List.Sorted.{IsPermutation}
use Rattle.std.proofs.lemmas.Grind.{common_steps}
use Rattle.std.proofs.lemmas.List.Elements.{filter_map-append}
use Rattle.std.proofs.lemmas.List.Sorted.{IsNonDecreasingBy-from_sort_by_key, IsPermutation-map, answers_always}
use Rattle.reclaimed_engine.specs.PrintedText.Ascending.{ascending}
use Rattle.run_schedules.specs.Schedules.Runs.{pair_of}
use Rattle.reclaimed_engine.specs.PrintedText.Text.{WordPair}
use Rattle.reclaimed_engine.proofs.PrintedText.AscendingLemmas.{ascending_is, ascending-map}
use Rattle.reclaimed_engine.proofs.finals.in_order.Goals as goal

pub loop-number-preserved : goal.loop-number-preserved
loop-number-preserved c = grind (arith, common_steps, filter_map-append)

pub returns-clause-ascends : goal.returns-clause-ascends
returns-clause-ascends c =
    IsNonDecreasingBy-from_sort_by_key (λ pair. pair.now.key) c.sort_by_key.new.self.items c.in_ok-sort_by_key.ensures.sorted (λ a r q k. search rules)

pub returns-clause-complete : goal.returns-clause-complete
returns-clause-complete c =
    let all : map (λ pair. pair.now) c.loop-number.pairs.items ≡ filter_map (pair_of c.args.run.now) c.args.numbers.now = grind (arith, common_steps, c.loop-number.invariant) in
    subst (λ (pairs : List WordPair). IsPermutation pairs (map (λ pair. pair.now) c.sort_by_key.new.self.items)) all
    (IsPermutation-map (λ pair. pair.now) c.loop-number.pairs.items c.sort_by_key.new.self.items c.in_ok-sort_by_key.ensures.permutation)

pub returns-clause-exact : goal.returns-clause-exact
returns-clause-exact c =
    let sorted = IsNonDecreasingBy-from_sort_by_key (λ pair. pair.now.key) c.sort_by_key.new.self.items c.in_ok-sort_by_key.ensures.sorted (λ a r q k. search rules) in
    let stable = c.in_ok-sort_by_key.ensures.stable (λ pair. pair.now.key) (answers_always _ _ _ (λ f a r g h. search rules)) in
    let ordered = ascending_is (λ pair. pair.now.key) c.loop-number.pairs.items c.sort_by_key.new.self.items sorted stable in
    let read = ascending-map (λ pair. pair.key) (λ pair. pair.now) c.loop-number.pairs.items in
    let all : map (λ pair. pair.now) c.loop-number.pairs.items ≡ filter_map (pair_of c.args.run.now) c.args.numbers.now = grind (arith, common_steps, c.loop-number.invariant) in
    ap (map (λ pair. pair.now)) ordered ∙ (read ∙ ap (λ (pairs : List WordPair). ascending (λ pair. pair.key) pairs) all)

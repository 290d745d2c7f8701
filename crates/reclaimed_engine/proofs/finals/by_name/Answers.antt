use Rattle.std.proofs.Common.{◌≡◌, ◌^◌, arith, rules, List, map, ap, ◌∙◌}
use Rattle.std.proofs.lemmas.Grind.{common_steps}
use Rattle.std.proofs.lemmas.List.Sorted.{IsNonDecreasingBy-from_sort_by_key, answers_always}
use Rattle.run_schedules.specs.declared.ended.Living.{Living}
use Rattle.reclaimed_engine.specs.PrintedText.Text.{name_number, by_name}
use Rattle.reclaimed_engine.proofs.PrintedText.AscendingLemmas.{ascending_is, ascending-map}
use Rattle.reclaimed_engine.proofs.finals.by_name.Goals as goal

pub returns : goal.returns
returns c =
    let sorted = IsNonDecreasingBy-from_sort_by_key (λ living. name_number (2 ^ 120) living.now.name) c.sort_by_key.new.self.items c.in_ok-sort_by_key.ensures.sorted (λ a r q k. search rules) in
    let stable = c.in_ok-sort_by_key.ensures.stable (λ living. name_number (2 ^ 120) living.now.name) (answers_always _ _ _ (λ f a r g h. search rules)) in
    let ordered = ascending_is (λ living. name_number (2 ^ 120) living.now.name) c.loop-living.sorted.items c.sort_by_key.new.self.items sorted stable in
    let read = ascending-map (λ living. name_number (2 ^ 120) living.name) (λ living. living.now) c.loop-living.sorted.items in
    let all : map (λ living. living.now) c.loop-living.sorted.items ≡ c.args.maps.now = grind (arith, common_steps, c.loop-living.invariant) in
    ap (map (λ living. living.now)) ordered ∙ (read ∙ ap (λ (maps : List Living). by_name maps) all)

-- A list is added, while there are too few.
use Rattle.std.proofs.Common.{ap, ◌∙◌}
use Rattle.run_effects.specs.Tallies.ByMap.{list_at}
use Rattle.run_effects.proofs.Tallies.MapLists.{list_more}
use Rattle.run_effects.proofs.by_map.ByMap.reach.Goals as goal

pub loop-alloc-preserved : goal.loop-alloc-preserved
loop-alloc-preserved c = λ other.
    ap (λ l. list_at l other) c.in_ok-push.ensures.items ∙ list_more c.loop-alloc.self.lists.items c.new.result c.new.ensures.items other ∙ c.loop-alloc.invariant other

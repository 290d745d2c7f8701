-- Its runs from here on have a least bound.
use Rattle.std.proofs.Common.{sym, subst}
use Rattle.map_straight.specs.Given.ResizeLookup.{lookup_plan}
use Rattle.owner_whole.specs.Strides.Ending.{Ends}
use Rattle.owner_whole.proofs.Strides.Runs.Steps.{lowest_at}
use Rattle.owner_calls.proofs.looking.most.Goals as goal

pub invariant_of-result : goal.invariant_of-result
invariant_of-result g c = record {
  least = lowest_at (lookup_plan {V = g.row.V.Denot} (g.Q.Equivalent.equivalent c.of-asked.result.value)) _ _ _ _ c.of-lookup.ensures c.of-memory.ensures
      (subst (λ (q : g.row.Q.Denot). Ends (lookup_plan {V = g.row.V.Denot} (g.Q.Equivalent.equivalent q)) c.args.lookup.now c.args.memory.now) (sym c.of-asked.ensures) c.requires);
}

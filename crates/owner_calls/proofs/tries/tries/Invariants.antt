-- The lookup at the present try is one that the begun one comes to, and no further from its end.
use Rattle.std.proofs.Common.{◌≡◌, ◌≤◌, ◌-◌, ℕ, true}
use Rattle.map_straight.specs.Given.ResizeLookup.{lookup_plan}
use Rattle.map_straight.specs.Given.ResizeDeclared.lookup.Lookup.{Lookup}
use Rattle.map_straight.specs.Given.RuleChart.{Chart}
use Rattle.map_straight.specs.Given.RuleWords.{Blocks}
use Rattle.owner_whole.specs.Strides.Looking.{LooksIn, at_try}
use Rattle.owner_whole.specs.Strides.Within.{within}
use Rattle.owner_calls.proofs.tries.tries.Given as goal

abbrev pub invariant-loop-met : goal.invariant-loop-met
invariant-loop-met g l = record {
  looks : (hash : g.row.K.Denot → ℕ) (c : Chart g.row.K.Denot) (blocks : Blocks) (begun : Lookup) → LooksIn {V = g.row.V.Denot} g.K.PartialEq.eq hash (g.Q.Equivalent.equivalent l.asked) l.memory c blocks begun l.lookup
      → LooksIn {V = g.row.V.Denot} g.K.PartialEq.eq hash (g.Q.Equivalent.equivalent l.asked) l.memory c blocks begun (at_try l.lookup l.trial);
  nearer : (n : ℕ) → within (lookup_plan {V = g.row.V.Denot} (g.Q.Equivalent.equivalent l.asked)) n l.lookup l.memory ≡ true
      → (k : ℕ) × (k ≤ n) × (within (lookup_plan {V = g.row.V.Denot} (g.Q.Equivalent.equivalent l.asked)) k (at_try l.lookup l.trial) l.memory ≡ true);
}

abbrev pub decreases-loop-met : goal.decreases-loop-met
decreases-loop-met g l = l.trial.table.limit - l.trial.probe.len

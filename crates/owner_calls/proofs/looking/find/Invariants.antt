-- What a lookup keeps from step to step, and what each step lowers.
use Rattle.std.proofs.Common.{◌≡◌, ℕ}
use Rattle.owner_whole.specs.Strides.Looking.{LooksIn}
use Rattle.map_straight.specs.Given.RuleChart.{Chart}
use Rattle.map_straight.specs.Given.RuleWords.{Blocks}
use Rattle.owner_calls.proofs.looking.find.Given as goal

abbrev pub invariant-loop-found : goal.invariant-loop-found
invariant-loop-found g l = record {
  look : l.look.memory.now ≡ l.memory;
  looks : (hash : g.row.K.Denot → ℕ) (c : Chart g.row.K.Denot) (blocks : Blocks) → LooksIn {V = g.row.V.Denot} g.K.PartialEq.eq hash (g.Q.Equivalent.equivalent l.asked) l.memory c blocks l.fn.lookup l.fn.lookup
      → LooksIn {V = g.row.V.Denot} g.K.PartialEq.eq hash (g.Q.Equivalent.equivalent l.asked) l.memory c blocks l.fn.lookup l.lookup;
  memory : l.left.memory.value ≡ l.memory;
  lookup : l.left.lookup.value ≡ l.lookup;
  asked : l.left.asked.value ≡ l.asked;
}

abbrev pub decreases-loop-found : goal.decreases-loop-found
decreases-loop-found g l = l.left.least.0

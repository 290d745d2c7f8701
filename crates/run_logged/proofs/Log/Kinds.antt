-- What a call on a key was begun with says of which kind it is.
use Rattle.std.specs.Prelude.{ℕ, Bool}
use Rattle.papaya_raw.specs.Given.TablesDeclared.node.Node.{Node}
use Rattle.run_executor.specs.Given.SeizeWordsMem.{Mem}
use Rattle.run_kept.specs.Given.RuleChart.{Chart}
use Rattle.run_executor.specs.Given.RuleWords.{Blocks}
use Rattle.run_shows.specs.Given.PointsFactsCalls.{Change}
use Rattle.papaya_raw.specs.declared.machines.call.KeyCall.{KeyCall}
use Rattle.papaya_raw.specs.declared.machines.call.Calling.{Calling}
use Rattle.run_shows.specs.Given.CallersPairs.{Given, Begun, IsTold, KeepsGiven, IsOfKind, kind_of as kind_given}

-- What a call on a key was begun with, and told since, says of which kind it is.
pub of_kind : {K V : Type 0} (hash : K → ℕ) (m : Mem (Node K V)) (c : Chart K) (blocks : Blocks) (keys : K → Bool) (pair : Given K V) (change : Change) (p : KeyCall K V K) (stands : Calling)
    → KeepsGiven hash m c blocks keys pair change p stands → IsOfKind (kind_given pair) p stands
of_kind hash m c blocks keys (Begun kind pair) change p stands kept = kept.2
of_kind hash m c blocks keys (IsTold kind its asked) change p stands kept = kept.2

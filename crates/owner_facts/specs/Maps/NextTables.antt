-- The table after the last one, where a call that is alone counts the pairs for it.
use Rattle.std.specs.Prelude.{◌≡◌, ℕ, ◌≤◌, Bool, ◌⊎◌}
use Rattle.many_maps.specs.Given.SeizeWordsMem.{Mem, Took, value_at}
use Rattle.many_maps.specs.Given.SeizeWordsPlan.{Steps}
use Rattle.many_maps.specs.Given.SeizeWorld.{World}
use Rattle.many_maps.specs.Given.TablesLengths.{next_len}
use Rattle.many_maps.specs.Given.TablesDeclared.lengths.Reason.{Reason}
use Rattle.many_maps.specs.Given.TablesDeclared.lengths.Reason.TheVariants.{Full}
use Rattle.many_maps.specs.Given.TablesDeclared.node.Node.{Node}
use Rattle.many_maps.specs.Given.TablesDeclared.setting.Setting.{Setting}
use Rattle.many_maps.specs.Given.TablesDeclared.table.Table.{Table}
use Rattle.many_maps.specs.Given.ResizeNewTable.{standing, making_of}
use Rattle.many_maps.specs.Given.ResizeDeclared.new_table.NewTable.{NewTable}
use Rattle.many_maps.specs.Given.ResizeDeclared.new_table.Making.TheVariants as makes
use Rattle.many_maps.specs.Given.ResizeDeclared.sum.Sum.{Sum}
use Rattle.many_maps.specs.Given.RawCall.{call_plan}
use Rattle.many_maps.specs.Given.RawDeclared.machines.answer.Called.{Called}
use Rattle.many_maps.specs.Given.RawDeclared.machines.call.KeyCall.{KeyCall}
use Rattle.many_maps.specs.Given.RawDeclared.machines.call.Calling.{Calling}
use Rattle.many_maps.specs.Given.RawDeclared.machines.call.Calling.TheVariants as at
use Rattle.many_maps.specs.Given.RuleChart.{Chart}
use Rattle.many_maps.specs.Given.RuleRule.{IsLawful}
use Rattle.many_maps.specs.Given.RuleWords.{Blocks}
use Rattle.many_maps.specs.Given.RuleMaps.{spot_of}
use Rattle.many_maps.specs.Given.RuleInWorld.{IsMapIn}
use Rattle.many_maps.specs.Given.PointsFactsTables.{SumFacts}
use Rattle.owner_facts.specs.Alone.Counting.{pairs_in, count_ahead}
use Rattle.owner_facts.specs.Alone.Met.{MetMaking}

-- it counts on, and will come to how many pairs the map has, or makes the table for so many, whatever it has met
abbrev pub CountsOrMakes : {K T : Type 0} → Setting → Mem T → Chart K → NewTable → Table → Reason → Calling → Type 0
CountsOrMakes setting m c n before reason stands =
    ((sum : Sum) × (stands ≡ at.Allocs (standing n (makes.Sums before reason sum))) × SumFacts setting sum × (count_ahead setting m sum.stands ≡ pairs_in c))
    ⊎ (stands ≡ at.Allocs (standing n (making_of reason before (next_len (Full 0 0) before.len (pairs_in c) setting.initial))))

-- Where a call makes the table after the last one, has met no more pairs than the map has at any that it found full, and will count as many, a step leads there.
abbrev pub NextTablesGoByTheCounter : {K Q : Type 0} → Type 0 → (K → K → Bool) → (K → ℕ) → (Q → K → Bool) → Type 0
NextTablesGoByTheCounter {K} {Q} V same hash asks =
    IsLawful same (spot_of hash) → (setting : Setting) (w : World (Node K V)) (c : Chart K) (blocks : Blocks) → IsMapIn same hash setting w c blocks
    → (p : KeyCall K V Q) (n : NewTable) (before : Table) (reason : Reason) (sum : Sum) → p.stands ≡ at.Allocs n → n.setting ≡ setting → n.stands ≡ makes.Sums before reason sum
    → SumFacts setting sum → MetMaking w.memory p n.stands → p.trial.most ≤ pairs_in c → count_ahead setting w.memory sum.stands ≡ pairs_in c
    → (m2 : Mem (Node K V)) (end : KeyCall K V Q × Called (Node K V)) → Steps Took value_at w.memory (call_plan asks same hash p) m2 end
    → CountsOrMakes setting m2 c n before reason end.0.stands

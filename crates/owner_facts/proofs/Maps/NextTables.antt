-- A call that is alone makes the table after the last one for as many pairs as the counter says.
use Rattle.std.specs.Prelude.{◌≡◌, ℕ, ◌≤◌, Bool, Result}
use Rattle.std.proofs.Common.{ap, sym, subst, ◌∙◌, inl, inr}
use Rattle.many_maps.specs.Given.SeizeWordsDeclared.fault.Fault.{Fault}
use Rattle.many_maps.specs.Given.SeizeWordsMem.{Mem, Took, value_at}
use Rattle.many_maps.specs.Given.SeizeWordsPlan.{Steps, plan_as}
use Rattle.many_maps.proofs.Given.SeizeRuleRows.Leaving.{steps_back}
use Rattle.many_maps.specs.Given.SeizeWorld.{World}
use Rattle.many_maps.specs.Given.SeizeDeclared.advance.Advance.{Advance}
use Rattle.many_maps.specs.Given.SeizeDeclared.advance.Advance.TheVariants as progress
use Rattle.many_maps.specs.Given.TablesLengths.{next_len}
use Rattle.many_maps.specs.Given.TablesDeclared.lengths.Reason.{Reason}
use Rattle.many_maps.specs.Given.TablesDeclared.lengths.Reason.TheVariants.{Full}
use Rattle.many_maps.specs.Given.TablesDeclared.node.Node.{Node}
use Rattle.many_maps.specs.Given.TablesDeclared.setting.Setting.{Setting}
use Rattle.many_maps.specs.Given.TablesDeclared.table.Table.{Table}
use Rattle.many_maps.specs.Given.ResizeNewTable.{standing, making_of, counted, plan_at as making_at}
use Rattle.many_maps.specs.Given.ResizeSum.{sum_plan}
use Rattle.many_maps.specs.Given.ResizeDeclared.new_table.NewTable.{NewTable}
use Rattle.many_maps.specs.Given.ResizeDeclared.new_table.Making.{Making}
use Rattle.many_maps.specs.Given.ResizeDeclared.new_table.Making.TheVariants as makes
use Rattle.many_maps.specs.Given.ResizeDeclared.sum.Sum.{Sum}
use Rattle.many_maps.specs.Given.RawCall.{next_made, plan_at}
use Rattle.many_maps.specs.Given.RawDeclared.machines.answer.Called.{Called}
use Rattle.many_maps.specs.Given.RawDeclared.machines.call.KeyCall.{KeyCall}
use Rattle.many_maps.specs.Given.RawDeclared.machines.call.Calling.{Calling}
use Rattle.many_maps.specs.Given.RawDeclared.machines.call.Calling.TheVariants as at
use Rattle.many_maps.specs.Given.RuleChart.{Chart}
use Rattle.many_maps.specs.Given.RuleRule.{IsLawful}
use Rattle.many_maps.specs.Given.RuleWords.{Blocks}
use Rattle.many_maps.specs.Given.RuleMaps.{spot_of}
use Rattle.many_maps.specs.Given.RuleInWorld.{IsMapIn}
use Rattle.many_maps.proofs.Given.RuleWorld.WentWrote.{counter_of}
use Rattle.many_maps.specs.Given.PointsFactsTables.{SumFacts}
use Rattle.many_maps.specs.Given.PointsTold.{SumOutcome}
use Rattle.many_maps.proofs.Given.PointsMaking.Sum.{told_sum}
use Rattle.owner_facts.specs.Alone.Counting.{pairs_in, count_ahead}
use Rattle.owner_facts.specs.Alone.Met.{MetMaking}
use Rattle.owner_facts.proofs.Alone.Shards.Met.{goes_by_the_counter}
use Rattle.owner_facts.specs.Maps.NextTables.{CountsOrMakes, NextTablesGoByTheCounter}
use Rattle.owner_facts.proofs.Maps.Reserves.Sums.{Ahead, sum_ahead}

module _ {K V Q : Type 0} (same : K → K → Bool) (hash : K → ℕ) (asks : Q → K → Bool) (lawful : IsLawful same (spot_of hash)) (setting : Setting) (w : World (Node K V)) (c : Chart K) (blocks : Blocks)
    (map : IsMapIn same hash setting w c blocks) (p : KeyCall K V Q) (n : NewTable) (before : Table) (reason : Reason) (sum : Sum) (here : p.stands ≡ at.Allocs n) (of_setting : n.setting ≡ setting)
    (counting : n.stands ≡ makes.Sums before reason sum) (facts : SumFacts setting sum) (met : MetMaking w.memory p n.stands) (few : p.trial.most ≤ pairs_in c) (ahead : count_ahead setting w.memory sum.stands ≡ pairs_in c) where
  -- the length for so many pairs is the same, whatever was met
  same_len : (count : ℕ) → count ≡ pairs_in c → next_len reason before.len count n.setting.initial ≡ next_len (Full 0 0) before.len (pairs_in c) setting.initial
  same_len count counts =
      let so = subst (MetMaking w.memory p) counting met in
      ap (λ (x : Reason). next_len x before.len count n.setting.initial) so.1
      ∙ ap (λ (k : ℕ). next_len (Full p.trial.met p.trial.most) before.len k n.setting.initial) counts
      ∙ ap (λ (x : Setting). next_len (Full p.trial.met p.trial.most) before.len (pairs_in c) x.initial) of_setting
      ∙ goes_by_the_counter K c p.trial before.len setting.initial few

  module _ (m2 : Mem (Node K V)) (end : KeyCall K V Q × Called (Node K V)) where
    abbrev So : Type 0
    So = CountsOrMakes setting m2 c n before reason end.0.stands

    by_count : m2 ≡ w.memory → (b : Sum × Advance ℕ) → end ≡ next_made p (counted n before reason b) → SumOutcome setting b → Ahead setting w.memory sum facts.0 sum.stands b → So
    by_count kept (next, progress.Goes) e told comes =
        inl (next, ap (λ (x : KeyCall K V Q × Called (Node K V)). x.0.stands) e, told, subst (λ (m : Mem (Node K V)). count_ahead setting m next.stands ≡ pairs_in c) (sym kept) (comes ∙ ahead))
    by_count kept (next, progress.Waits) e told comes = absurd told
    by_count kept (next, progress.Refused fault) e told comes = absurd told
    by_count kept (next, progress.Done count) e told comes =
        inr (ap (λ (x : KeyCall K V Q × Called (Node K V)). x.0.stands) e
        ∙ ap (λ (r : Result ℕ Fault). at.Allocs (standing n (making_of reason before r))) (same_len count (comes ∙ ahead)))

    counts_next : Steps Took value_at w.memory (plan_at asks same hash p p.stands) m2 end → So
    counts_next s =
        let stepped = subst (λ (x : Calling). Steps Took value_at w.memory (plan_at asks same hash p x) m2 end) here s in
        let summed = subst (λ (x : Making). Steps Took value_at w.memory (plan_as (next_made p) (making_at n x)) m2 end) counting stepped in
        let made = steps_back (next_made p) w.memory m2 (plan_as (counted n before reason) (sum_plan sum)) end summed in
        let counts = steps_back (counted n before reason) w.memory m2 (sum_plan sum) made.0 made.1 in
        let told = told_sum setting w.memory (counter_of same hash setting w c blocks map) sum facts m2 counts.0 counts.1 in
        by_count told.0 counts.0 (made.2 ∙ ap (next_made p) counts.2) told.1 (sum_ahead setting w.memory sum facts.0 facts.1 m2 counts.0 counts.1)

pub next_tables_go_by_the_counter : {K Q : Type 0} (V : Type 0) (same : K → K → Bool) (hash : K → ℕ) (asks : Q → K → Bool) → NextTablesGoByTheCounter V same hash asks
next_tables_go_by_the_counter V same hash asks lawful setting w c blocks map p n before reason sum here of_setting counting facts met few ahead m2 end s =
    counts_next same hash asks lawful setting w c blocks map p n before reason sum here of_setting counting facts met few ahead m2 end s

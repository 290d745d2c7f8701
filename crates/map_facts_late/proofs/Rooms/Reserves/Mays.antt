-- A reservation may take its step beside its copying: each operation can be done, and what it looks at is there.
use Rattle.std.specs.Prelude.{◌≡◌, ℕ, suc, Bool}
use Rattle.std.specs.Int.{IsPowerOfTwo}
use Rattle.std.proofs.Common.{ap, sym, ◌∙◌}
use Rattle.map_facts.specs.Given.SeizeWordsDeclared.at.At.TheVariants.{Root, Word}
use Rattle.map_facts.specs.Given.SeizeWordsMem.{value_at, word_at, Can, Took}
use Rattle.map_facts.specs.Given.SeizeWordsPlan.{May}
use Rattle.map_facts.proofs.Given.SeizeWordsOneOwner.Operations.{may_load}
use Rattle.map_facts.proofs.Given.SeizeWordsPlans.{as_may}
use Rattle.map_facts.specs.Given.SeizeWorld.{World}
use Rattle.map_facts.specs.Given.ResizeNewTable.{first_table, table_reserved, new_table_plan}
use Rattle.map_facts.specs.Given.ResizeSum.{sum_plan}
use Rattle.map_facts.specs.Given.ResizeDeclared.new_table.NewTable.{NewTable}
use Rattle.map_facts.specs.Given.ResizeDeclared.yielding.Yielding.{Yielding}
use Rattle.map_facts.specs.Given.ResizeDeclared.yielding.Yielding.TheVariants as outcome
use Rattle.map_facts.specs.Given.ResizeDeclared.sum.Sum.{Sum}
use Rattle.map_facts.specs.Given.TablesTablePlaces.{at_word}
use Rattle.map_facts.specs.Given.TablesDeclared.node.Node.{Node}
use Rattle.map_facts.specs.Given.TablesDeclared.setting.Setting.{Setting}
use Rattle.map_facts.specs.Given.TablesDeclared.table.Table.{Table}
use Rattle.map_facts.specs.Given.TablesDeclared.table_words.TheConstants.{NEXT}
use Rattle.map_facts.specs.Given.ReservesReserve.{standing, counting, copying, needed, made, summed, grown, root_read, reads, next_read, follows, plan_at}
use Rattle.map_facts.specs.Given.ReservesDeclared.reserve.Reserve.{Reserve}
use Rattle.map_facts.specs.Given.ReservesDeclared.reserve.Reserving.TheVariants as at
use Rattle.map_facts.specs.Given.RuleChart.{Chart}
use Rattle.map_facts.specs.Given.RuleWords.{Blocks}
use Rattle.map_facts.specs.Given.RuleMaps.{IsTable}
use Rattle.map_facts.specs.Given.RuleInWorld.{IsMapIn}
use Rattle.map_facts.proofs.Given.RuleWords.LinksRead.{see_link}
use Rattle.map_facts.proofs.Given.RuleWords.LinksSeen.{root_leads, next_leads}
use Rattle.map_facts.proofs.Given.RuleWords.TablesSeen.{next_there}
use Rattle.map_facts.proofs.Given.RuleWorld.WentWrote.{counter_of}
use Rattle.map_facts.specs.FactsTables.{SumFacts, NewTableFacts}
use Rattle.map_facts.proofs.Making.NewTable.{may_new_table}
use Rattle.map_facts.proofs.Making.Sum.{may_sum}
use Rattle.map_facts.proofs.Given.General.{some_is as is_some_of}

module _ {K V : Type 0} where
  -- it makes a first table, or counts the pairs, by the root that it has read
  abbrev pub making_first : Reserve → Reserve × Yielding (Node K V) Unit
  making_first p = (standing p (at.Makes (first_table p.setting (needed p.additional 0))), outcome.Goes)

  abbrev pub counting_in : Reserve → Table → Reserve × Yielding (Node K V) Unit
  counting_in p table = (counting p table, outcome.Goes)

  -- it makes the table behind its own, or copies into it, by the link that it has read
  abbrev pub growing : Reserve → Table → ℕ → Reserve × Yielding (Node K V) Unit
  growing p table need = (standing p (at.Grows table (table_reserved p.setting table need)), outcome.Goes)

  abbrev pub copied_into : Reserve → Table → Table → Reserve × Yielding (Node K V) Unit
  copied_into p table next = (copying p table next, outcome.Goes)

module _ {K V : Type 0} (same : K → K → Bool) (hash : K → ℕ) (setting : Setting) (w : World (Node K V)) (c : Chart K) (blocks : Blocks)
    (map : IsMapIn same hash setting w c blocks) (p : Reserve) where
  module _ (setting_is : p.setting ≡ setting) where
    pub root_at : word_at w.memory (Root p.setting.root) ≡ word_at w.memory (Root setting.root)
    root_at = ap (λ (s : Setting). word_at w.memory (Root s.root)) setting_is

    pub may_reads : May Can Took value_at w.memory (reads p)
    may_reads = may_load w.memory (root_read p) (Root p.setting.root) (is_some_of _ _ (root_at ∙ map.map.shows.root_there))
        (λ link read. see_link hash w.memory c blocks setting.root map.map.shows link c.first
        (root_leads same hash setting.mode setting.root w.memory c blocks map.map link (sym root_at ∙ read)) (making_first p) (counting_in p))

  -- the pairs are counted
  pub may_sums : (table : Table) (sum : Sum) → SumFacts setting sum → May Can Took value_at w.memory (plan_at hash p (at.Sums table sum))
  may_sums table sum facts = as_may (summed p table) Can Took value_at w.memory (sum_plan sum) (may_sum setting w.memory (counter_of same hash setting w c blocks map) sum facts)

  -- the link to the table behind is read
  pub may_follows : (table : Table) (t : ℕ) → IsTable c blocks table t → (need : ℕ) → May Can Took value_at w.memory (follows p table need)
  may_follows table t entered need = may_load w.memory (next_read p table need) (at_word table NEXT) (is_some_of _ _ (next_there hash w.memory c blocks setting.root map.map.shows table t entered))
      (λ link read. see_link hash w.memory c blocks setting.root map.map.shows link (suc t)
      (next_leads same hash setting.mode setting.root w.memory c blocks map.map table t link entered read) (growing p table need) (copied_into p table))

  -- a table is made behind it, or a first one
  module _ (caller : ℕ) (initial_is : IsPowerOfTwo setting.initial) (making : NewTable) where
    pub may_grows : (table : Table) (t : ℕ) → NewTableFacts w caller setting c blocks (Word (blocks.table t) NEXT) (suc t) making
        → May Can Took value_at w.memory (plan_at hash p (at.Grows table making))
    may_grows table t facts = as_may (grown p table) Can Took value_at w.memory (new_table_plan making)
        (may_new_table same hash w setting c blocks map caller (Word (blocks.table t) NEXT) (suc t) initial_is making facts)

    pub may_makes : NewTableFacts w caller setting c blocks (Root setting.root) 0 making → May Can Took value_at w.memory (plan_at hash p (at.Makes making))
    may_makes facts = as_may (made p) Can Took value_at w.memory (new_table_plan making) (may_new_table same hash w setting c blocks map caller (Root setting.root) 0 initial_is making facts)

-- A step of a row leaves a caller within its section.
use Rattle.std.proofs.Common.{ℕ, sym, subst}
use Rattle.seize_model.specs.Given.SeizeWorld.{World, Steps'}
use Rattle.seize_model.proofs.Alone.Histories.NotTaken.{still_held}
use Rattle.seize_model.proofs.Alone.Histories.Reached.{Reached}
use Rattle.seize_model.proofs.Alone.Histories.Uses.{inside_kept}
use Rattle.map_facts_late.specs.Given.TablesNodes.{deferred_word}
use Rattle.map_facts_late.specs.Given.TablesDeclared.node.Node.{Node}
use Rattle.map_facts_late.specs.Given.TablesDeclared.setting.Setting.{Setting}
use Rattle.map_facts_late.specs.Given.RuleChart.{Chart}
use Rattle.map_facts_late.specs.Given.RuleWords.{Blocks}
use Rattle.many_calls.specs.Kept.{IsMaking, IsWithin}
use Rattle.many_calls.proofs.Rows.Beside.{users_hand, making_own}

module _ {K V : Type 0} (setting : Setting) (w : World (Node K V)) (c : Chart K) (blocks : Blocks) where
  -- a step of a row leaves the call within its section
  pub row_within : Reached deferred_word setting.batch_size w → (i : ℕ) (w2 : World (Node K V)) → Steps' deferred_word i (w.row i) w w2 → IsWithin w setting.slot c blocks setting
      → IsWithin w2 setting.slot c blocks setting
  row_within r i w2 step within = record {
    inside = inside_kept deferred_word setting.batch_size w r i w2 step setting.slot within.inside;
    tables = λ t made known. still_held deferred_word setting.batch_size w r i w2 step setting.slot (blocks.table t) within.inside (within.tables t made known);
    pairs = λ n was known. still_held deferred_word setting.batch_size w r i w2 step setting.slot (blocks.pair n) within.inside (within.pairs n was known);
    counter = subst IsMaking (sym (users_hand setting.batch_size w r i w2 step setting.counter (making_own (w.hand setting.counter) within.counter))) within.counter;
  }

-- A step of a sweep makes a table by its copier as that was to make it; and so does one that is told, or asked for its next pair.
use Rattle.std.specs.Prelude.{ℕ, ◌==◌, ◌&&◌, nat_lt, Bool, true, false, if◌then◌else◌, Ok, Err}
use Rattle.run_finds.specs.Given.SeizeWordsOp.{Out, Exchanged, Found}
use Rattle.run_finds.specs.Given.SeizeWordsWord.{block_in}
use Rattle.papaya_raw.specs.Given.SeizeDeclared.advance.Advance.{Advance}
use Rattle.papaya_raw.specs.Given.SeizeDeclared.rows.settle.Settled.{Settled}
use Rattle.papaya_raw.specs.Given.SeizeDeclared.rows.settle.Settled.TheVariants as settled
use Rattle.papaya_raw.specs.Given.TablesChunks.{is_incremental}
use Rattle.papaya_raw.specs.Given.TablesMarks.{has_mark}
use Rattle.papaya_raw.specs.Given.TablesDeclared.marks.TheConstants.{COPYING}
use Rattle.papaya_raw.specs.Given.TablesDeclared.node.Node.{Node}
use Rattle.papaya_raw.specs.Given.TablesDeclared.table.Table.{Table}
use Rattle.papaya_raw.specs.Given.ResizeCopier.{copier_plan}
use Rattle.papaya_raw.specs.Given.ResizeDispose.{dispose_plan}
use Rattle.run_finds.specs.Given.ResizeNewTable.{new_table_plan}
use Rattle.run_finds.specs.Given.ResizeDeclared.copier.Copier.{Copier}
use Rattle.run_finds.specs.Given.ResizeDeclared.dispose.Dispose.{Dispose}
use Rattle.run_finds.specs.Given.ResizeDeclared.new_table.NewTable.{NewTable}
use Rattle.run_finds.specs.Given.ResizeDeclared.yielding.Yielding.{Yielding}
use Rattle.run_finds.specs.Given.ResizeDeclared.yielding.Yielding.TheVariants as outcome
use Rattle.papaya_raw.specs.Given.SweepsSweep.{copied, disposed, next_read, plan_at, root_read, sweep_plan, tried, word_found}
use Rattle.papaya_raw.specs.Given.SweepsSweepPoints.{at_end, at_pair, beginning, entering, further, next_at, removes, reply_at, seen, tableless}
use Rattle.papaya_raw.specs.Given.ReservesDeclared.sweep.Purpose.{Purpose}
use Rattle.papaya_raw.specs.Given.ReservesDeclared.sweep.Purpose.TheVariants as purpose
use Rattle.papaya_raw.specs.Given.ReservesDeclared.sweep.Sweep.{Sweep}
use Rattle.papaya_raw.specs.Given.ReservesDeclared.sweep.Sweeping.{Sweeping}
use Rattle.papaya_raw.specs.Given.ReservesDeclared.sweep.Sweeping.TheVariants as at
use Rattle.papaya_raw.specs.Given.ReservesDeclared.sweep.Swept.{Swept}
use Rattle.papaya_raw.specs.Machine.{sweep_asked, sweep_replied, sweep_with_reply}
use Rattle.papaya_raw.specs.declared.machines.asking.MachineReply.{MachineReply}
use Rattle.papaya_raw.specs.declared.machines.asking.MachineReply.TheVariants as replies
use Rattle.run_finds.proofs.Given.RuleKeys.Always.{Always, AlwaysOf, always_if, always_plan_as}
use Rattle.run_finds.proofs.Shaping.{always_plan_more}
use Rattle.run_grows.specs.Grows.Further.{SweepMakes}
use Rattle.run_grows.proofs.Grows.Finding.Making.Copiers.{CopierBegins, CopierEnds, begun_makes, copier_makes}

-- what its copier may begin to make is such a making
abbrev pub SweepBegins : (NewTable → Type 0) → Sweeping → Type 0
SweepBegins Such (at.Copies copier) = CopierBegins Such copier copier.stands
SweepBegins Such _ = Unit {0}

module _ (Such : NewTable → Type 0) where
  -- of two, where both make such
  at_either : (b : Bool) (x y : Sweeping) → SweepMakes Such x → SweepMakes Such y → SweepMakes Such (if b then x else y)
  at_either true x y f g = f
  at_either false x y f g = g

  sweep_either : (b : Bool) (x y : Sweep) → SweepMakes Such x.stands → SweepMakes Such y.stands → SweepMakes Such (if b then x else y).stands
  sweep_either true x y f g = f
  sweep_either false x y f g = g

  -- by where it goes on
  beginning_makes : (c : Sweep) → SweepMakes Such (beginning c).stands
  beginning_makes c = at_either (removes c.purpose) at.Words at.Ready tt tt

  entering_makes : (c : Sweep) (table : Table) → SweepMakes Such (entering c table).stands
  entering_makes c table =
      sweep_either (is_incremental c.setting.mode) (record c { table = table; stands = at.Follows }) (beginning (record c { table = table })) tt (beginning_makes (record c { table = table }))

  tableless_makes : (c : Sweep) → SweepMakes Such (tableless c).stands
  tableless_makes c = at_either (removes c.purpose) at.Over at.Ready tt tt

  further_makes : (c : Sweep) → SweepMakes Such (further c).stands
  further_makes c = at_either _ at.Words (at_end c) tt (at_either (removes c.purpose && c.met) at.Follows at.Over tt tt)

  module _ (K V : Type 0) where
    abbrev pub SweepEnds : Sweep × Swept (Node K V) → Type 0
    SweepEnds end = SweepMakes Such end.0.stands

    either : (b : Bool) (x y : Sweep × Swept (Node K V)) → SweepEnds x → SweepEnds y → SweepEnds (if b then x else y)
    either true x y f g = f
    either false x y f g = g

    pair_makes : (c : Sweep) (p : Purpose) (word : ℕ) → SweepEnds (at_pair p c word)
    pair_makes c purpose.Walks word = tt
    pair_makes c purpose.Clears word = tt
    pair_makes c purpose.Retains word = tt

    seen_makes : (c : Sweep) (word : ℕ) → SweepEnds (seen c word)
    seen_makes c word =
        either (removes c.purpose && has_mark word COPYING) _ _ (further_makes (record c { met = true })) (either (block_in word == 0) _ _ (further_makes c) (pair_makes c c.purpose word))

    module _ (hash : K → ℕ) (goes : (n : NewTable) → Such n → AlwaysOf (λ (e : NewTable × Advance Table). Such e.0) (new_table_plan {K = K} {V = V} n)) (c : Sweep) (here : SweepMakes Such c.stands) where
      -- by a step of a machine within it
      pub copied_makes : (end : Copier × Yielding (Node K V) Table) → CopierEnds Such K V end → SweepEnds (copied c end)
      copied_makes (copier, outcome.Goes) so = so
      copied_makes (copier, outcome.Waits) so = so
      copied_makes (copier, outcome.Gave value) so = so
      copied_makes (copier, outcome.Done root) so = entering_makes c root
      copied_makes (copier, outcome.Refused fault) so = tt

      disposed_makes : (end : Dispose × Settled (Node K V)) → SweepEnds (disposed c end)
      disposed_makes (dispose, settled.Goes) = tt
      disposed_makes (dispose, settled.Waits) = tt
      disposed_makes (dispose, settled.Gave value) = tt
      disposed_makes (dispose, settled.Done) = further_makes c

      -- by the answer of an operation
      on_root : (out : Out (Node K V)) → Always SweepEnds (root_read c out)
      on_root (Found root) = always_if SweepEnds (root == 0) _ _ (tableless_makes c) (λ value. entering_makes c _)
      on_root _ = here

      on_next : (out : Out (Node K V)) → Always SweepEnds (next_read c out)
      on_next (Found link) = always_if SweepEnds (link == 0) _ _ (beginning_makes c) (λ value. begun_makes Such c.setting c.table _)
      on_next _ = here

      on_word : (out : Out (Node K V)) → Always SweepEnds (word_found c out)
      on_word (Found word) = seen_makes c word
      on_word _ = here

      on_tried : (word : ℕ) (out : Out (Node K V)) → Always SweepEnds (tried c word out)
      on_tried word (Exchanged (Ok found)) = tt
      on_tried word (Exchanged (Err found)) = seen_makes c found
      on_tried word _ = here

      pub point_makes : (stands : Sweeping) → SweepMakes Such stands → SweepBegins Such stands → AlwaysOf SweepEnds (plan_at hash c stands)
      point_makes at.Reads makes begins = on_root
      point_makes at.Follows makes begins = on_next
      point_makes (at.Copies copier) makes begins = always_plan_more (CopierEnds Such K V) SweepEnds (copied c) copied_makes (copier_plan hash copier) (copier_makes Such K V hash goes copier makes begins)
      point_makes at.Words makes begins = on_word
      point_makes (at.Tries word) makes begins = on_tried word
      point_makes (at.Counts removed) makes begins = λ out. tt
      point_makes (at.Disposes dispose) makes begins = always_plan_as SweepEnds (disposed c) disposed_makes (dispose_plan dispose)
      point_makes at.Ready makes begins = here
      point_makes (at.Asks word) makes begins = here
      point_makes at.Over makes begins = here
      point_makes (at.Refused fault) makes begins = here

      pub sweep_makes : SweepBegins Such c.stands → AlwaysOf SweepEnds (sweep_plan hash c)
      sweep_makes begins = point_makes c.stands here begins

  -- by a reply
  reply_at_makes : (c : Sweep) (stands : Sweeping) (keeps : Bool) → SweepMakes Such c.stands → SweepMakes Such (reply_at stands c keeps).stands
  reply_at_makes c (at.Asks word) keeps here = sweep_either keeps (further c) (record c { stands = at.Tries word }) (further_makes c) tt
  reply_at_makes c _ keeps here = here

  told_makes : {V : Type 0} (c : Sweep) (stands : Sweeping) (reply : MachineReply V) → SweepMakes Such c.stands → SweepMakes Such (sweep_with_reply stands c reply).0.stands
  told_makes c (at.Asks word) replies.Yes here = reply_at_makes c c.stands true here
  told_makes c (at.Asks word) replies.No here = reply_at_makes c c.stands false here
  told_makes c _ _ here = here

  pub reply_makes : {V : Type 0} (c : Sweep) (reply : MachineReply V) → SweepMakes Such c.stands → SweepMakes Such (sweep_replied c reply).0.stands
  reply_makes c reply here = told_makes c c.stands reply here

  -- and as it is asked for its next pair
  next_at_makes : (c : Sweep) (stands : Sweeping) → SweepMakes Such c.stands → SweepMakes Such (next_at stands c).stands
  next_at_makes c at.Ready here = at_either (nat_lt c.place c.table.len) at.Words at.Over tt tt
  next_at_makes c _ here = here

  pub asked_makes : (c : Sweep) → SweepMakes Such c.stands → SweepMakes Such (sweep_asked c).0.stands
  asked_makes c here = next_at_makes c c.stands here

-- A sweep stands to take a reply only where its step has said that it asks.
use Rattle.std.specs.Prelude.{◌≡◌, ℕ, ◌==◌, ◌&&◌, Bool, true, false, Ok, Err, if◌then◌else◌}
use Rattle.std.proofs.Common.{refl, sym, subst}
use Rattle.run_schedules.specs.Given.SeizeWordsOp.{Out, Found, Stored, Exchanged, Made, Taken, Roomed}
use Rattle.run_schedules.specs.Given.SeizeWordsWord.{block_in}
use Rattle.seize_acts.specs.Given.SeizeDeclared.rows.settle.Settled.{Settled}
use Rattle.seize_acts.specs.Given.SeizeDeclared.rows.settle.Settled.TheVariants as settled
use Rattle.play_lists.specs.Given.TablesMarks.{has_mark}
use Rattle.play_lists.specs.Given.TablesNodes.{table_seen}
use Rattle.play_lists.specs.Given.TablesDeclared.marks.TheConstants.{COPYING}
use Rattle.play_lists.specs.Given.TablesDeclared.node.Node.{Node}
use Rattle.play_lists.specs.Given.TablesDeclared.table.Table.{Table}
use Rattle.run_logged.specs.Given.ResizeCopier.{copier_plan}
use Rattle.run_logged.specs.Given.ResizeDispose.{dispose_plan}
use Rattle.run_logged.specs.Given.ResizeDeclared.copier.Copier.{Copier}
use Rattle.run_logged.specs.Given.ResizeDeclared.dispose.Dispose.{Dispose}
use Rattle.run_logged.specs.Given.ResizeDeclared.yielding.Yielding.{Yielding}
use Rattle.run_logged.specs.Given.ResizeDeclared.yielding.Yielding.TheVariants as outcome
use Rattle.run_logged.specs.Given.SweepsSweep.{word_found, tried, disposed, root_read, next_read, copied, plan_at}
use Rattle.run_logged.specs.Given.SweepsSweepPoints.{removes, beginning, tableless, entering, further, told, telling, at_pair, seen}
use Rattle.run_logged.specs.Given.ReservesDeclared.sweep.Purpose.{Purpose}
use Rattle.run_logged.specs.Given.ReservesDeclared.sweep.Purpose.TheVariants.{Walks, Clears, Retains}
use Rattle.run_logged.specs.Given.ReservesDeclared.sweep.Sweep.{Sweep}
use Rattle.run_logged.specs.Given.ReservesDeclared.sweep.Sweeping.{Sweeping}
use Rattle.run_logged.specs.Given.ReservesDeclared.sweep.Sweeping.TheVariants as at
use Rattle.run_logged.specs.Given.ReservesDeclared.sweep.Swept.{Swept}
use Rattle.run_logged.specs.Given.ReservesDeclared.sweep.Swept.TheVariants as ends
use Rattle.play_lists.proofs.Given.RuleKeys.Always.{Always, AlwaysOf, always_if, always_plan_as}

-- it takes no reply there
abbrev pub TakesNone : Sweeping → Type 0
TakesNone (at.Asks word) = ⊥
TakesNone _ = Unit {0}

module _ (K V : Type 0) (p : Sweep) where
  -- if it does, it was said that it asks
  abbrev pub AsksAloud : Sweep × Swept (Node K V) → Type 0
  AsksAloud (q, ends.Asks word) = Unit {0}
  AsksAloud (q, _) = TakesNone q.stands

  told_aloud : (q : Sweep) (stands : Sweeping) → q.stands ≡ stands → AsksAloud (q, told stands)
  told_aloud q (at.Asks word) is = tt
  told_aloud q at.Reads is = subst TakesNone (sym is) tt
  told_aloud q at.Follows is = subst TakesNone (sym is) tt
  told_aloud q (at.Copies copier) is = subst TakesNone (sym is) tt
  told_aloud q at.Ready is = subst TakesNone (sym is) tt
  told_aloud q at.Words is = subst TakesNone (sym is) tt
  told_aloud q (at.Tries word) is = subst TakesNone (sym is) tt
  told_aloud q (at.Counts removed) is = subst TakesNone (sym is) tt
  told_aloud q (at.Disposes dispose) is = subst TakesNone (sym is) tt
  told_aloud q at.Over is = subst TakesNone (sym is) tt
  told_aloud q (at.Refused fault) is = subst TakesNone (sym is) tt

  telling_aloud : (q : Sweep) → AsksAloud (telling q)
  telling_aloud q = told_aloud q q.stands refl

  pair_aloud : (purpose : Purpose) (word : ℕ) → AsksAloud (at_pair purpose p word)
  pair_aloud Walks word = tt
  pair_aloud Clears word = tt
  pair_aloud Retains word = tt

  seen_aloud : (word : ℕ) → AsksAloud (seen p word)
  seen_aloud word = by (removes p.purpose && has_mark word COPYING) (block_in word == 0)
    where
      by : (b z : Bool) → AsksAloud (if b then telling (further (record p { met = true })) else (if z then telling (further p) else at_pair p.purpose p word))
      by true z = telling_aloud (further (record p { met = true }))
      by false true = telling_aloud (further p)
      by false false = pair_aloud p.purpose word

  module _ (none : TakesNone p.stands) where
    found_aloud : (out : Out (Node K V)) → Always AsksAloud (word_found p out)
    found_aloud (Found word) = seen_aloud word
    found_aloud Stored = none
    found_aloud (Exchanged r) = none
    found_aloud (Made r) = none
    found_aloud (Taken value) = none
    found_aloud (Roomed r) = none

    tried_aloud : (word : ℕ) (out : Out (Node K V)) → Always AsksAloud (tried p word out)
    tried_aloud word (Exchanged (Ok found)) = tt
    tried_aloud word (Exchanged (Err found)) = seen_aloud found
    tried_aloud word (Found found) = none
    tried_aloud word Stored = none
    tried_aloud word (Made r) = none
    tried_aloud word (Taken value) = none
    tried_aloud word (Roomed r) = none

    root_aloud : (out : Out (Node K V)) → Always AsksAloud (root_read p out)
    root_aloud (Found root) = always_if AsksAloud (root == 0) _ _ (telling_aloud (tableless p)) (λ value. telling_aloud (entering p (table_seen root value)))
    root_aloud Stored = none
    root_aloud (Exchanged r) = none
    root_aloud (Made r) = none
    root_aloud (Taken value) = none
    root_aloud (Roomed r) = none

    next_aloud : (out : Out (Node K V)) → Always AsksAloud (next_read p out)
    next_aloud (Found link) = always_if AsksAloud (link == 0) _ _ (telling_aloud (beginning p)) (λ value. tt)
    next_aloud Stored = none
    next_aloud (Exchanged r) = none
    next_aloud (Made r) = none
    next_aloud (Taken value) = none
    next_aloud (Roomed r) = none

  disposed_aloud : (end : Dispose × Settled (Node K V)) → AsksAloud (disposed p end)
  disposed_aloud (d, settled.Goes) = tt
  disposed_aloud (d, settled.Waits) = tt
  disposed_aloud (d, settled.Gave value) = tt
  disposed_aloud (d, settled.Done) = telling_aloud (further p)

  copied_aloud : (end : Copier × Yielding (Node K V) Table) → AsksAloud (copied p end)
  copied_aloud (c, outcome.Goes) = tt
  copied_aloud (c, outcome.Waits) = tt
  copied_aloud (c, outcome.Gave value) = tt
  copied_aloud (c, outcome.Done root) = telling_aloud (entering p root)
  copied_aloud (c, outcome.Refused fault) = tt

  pub from : (hash : K → ℕ) (stands : Sweeping) → p.stands ≡ stands → AlwaysOf AsksAloud (plan_at hash p stands)
  from hash at.Reads is = root_aloud (subst TakesNone (sym is) tt)
  from hash at.Follows is = next_aloud (subst TakesNone (sym is) tt)
  from hash (at.Copies copier) is = always_plan_as AsksAloud (copied p) copied_aloud (copier_plan hash copier)
  from hash at.Words is = found_aloud (subst TakesNone (sym is) tt)
  from hash (at.Tries word) is = tried_aloud (subst TakesNone (sym is) tt) word
  from hash (at.Counts removed) is = λ out. tt
  from hash (at.Disposes dispose) is = always_plan_as AsksAloud (disposed p) disposed_aloud (dispose_plan dispose)
  from hash at.Ready is = subst TakesNone (sym is) tt
  from hash (at.Asks word) is = tt
  from hash at.Over is = subst TakesNone (sym is) tt
  from hash (at.Refused fault) is = subst TakesNone (sym is) tt

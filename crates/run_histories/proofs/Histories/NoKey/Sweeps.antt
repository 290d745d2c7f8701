-- A sweep keeps its purpose; where it says that it asks about a pair it stands there; and one that asks stays, and says so.
use Rattle.std.specs.Prelude.{◌≡◌, ℕ, ◌==◌, ◌&&◌, Bool, true, false, Some, Ok, Err, if◌then◌else◌}
use Rattle.std.proofs.Common.{refl, ap, subst}
use Rattle.run_places.specs.Given.SeizeWordsOp.{Out, Found, Stored, Exchanged, Made, Taken, Roomed}
use Rattle.run_places.specs.Given.SeizeWordsPlan.{plan_as}
use Rattle.run_places.specs.Given.SeizeWordsWord.{block_in}
use Rattle.run_places.specs.Given.SeizeDeclared.rows.settle.Settled.{Settled}
use Rattle.run_places.specs.Given.SeizeDeclared.rows.settle.Settled.TheVariants as settled
use Rattle.run_places.specs.Given.TablesChunks.{is_incremental}
use Rattle.run_places.specs.Given.TablesMarks.{has_mark}
use Rattle.run_places.specs.Given.TablesNodes.{table_seen}
use Rattle.run_places.specs.Given.TablesDeclared.marks.TheConstants.{COPYING}
use Rattle.run_places.specs.Given.TablesDeclared.node.Node.{Node}
use Rattle.run_places.specs.Given.TablesDeclared.table.Table.{Table}
use Rattle.run_places.specs.Given.ResizeCopier.{copier_plan}
use Rattle.run_places.specs.Given.ResizeDispose.{dispose_plan}
use Rattle.run_places.specs.Given.ResizeDeclared.copier.Copier.{Copier}
use Rattle.run_places.specs.Given.ResizeDeclared.dispose.Dispose.{Dispose}
use Rattle.run_places.specs.Given.ResizeDeclared.yielding.Yielding.{Yielding}
use Rattle.run_places.specs.Given.ResizeDeclared.yielding.Yielding.TheVariants as outcome
use Rattle.run_places.specs.Given.SweepsSweep.{word_found, tried, disposed, root_read, next_read, copied, plan_at}
use Rattle.run_places.specs.Given.SweepsSweepPoints.{removes, beginning, tableless, entering, further, told, telling, at_pair, seen}
use Rattle.run_places.specs.Given.ReservesDeclared.sweep.Purpose.{Purpose}
use Rattle.run_places.specs.Given.ReservesDeclared.sweep.Purpose.TheVariants.{Walks, Clears, Retains}
use Rattle.run_places.specs.Given.ReservesDeclared.sweep.Sweep.{Sweep}
use Rattle.run_places.specs.Given.ReservesDeclared.sweep.Sweeping.{Sweeping}
use Rattle.run_places.specs.Given.ReservesDeclared.sweep.Sweeping.TheVariants as at
use Rattle.run_places.specs.Given.ReservesDeclared.sweep.Swept.{Swept}
use Rattle.run_places.specs.Given.ReservesDeclared.sweep.Swept.TheVariants as ends
use Rattle.run_places.specs.Given.RawMachine.{swept}
use Rattle.run_places.specs.Given.RawDeclared.machines.machine.Machine.{Machine}
use Rattle.run_places.specs.Given.RawDeclared.machines.machine.Machine.TheVariants as kinds
use Rattle.run_places.specs.Given.RawDeclared.machines.progress.Progress.{Progress}
use Rattle.run_places.specs.Given.RawDeclared.machines.progress.Progress.TheVariants as progress
use Rattle.run_places.proofs.Given.RuleKeys.Always.{Always, AlwaysOf, always_if, always_plan_as}
use Rattle.run_places.specs.Given.TellerTells.{StepsObserved}
use Rattle.run_places.specs.Given.EffectsDeclared.changed.Changed.TheVariants.{Nothing}
use Rattle.run_histories.proofs.Histories.Asking.{always_turned, always_told}
use Rattle.run_places.specs.Given.ScenesHeld.{Held}
use Rattle.run_places.specs.Given.ScenesStepping.{StepsFrom}

module _ (K V : Type 0) (p : Sweep) where
  abbrev AsksSo : Swept (Node K V) → Sweeping → Type 0
  AsksSo (ends.Asks word) stands = stands ≡ at.Asks word
  AsksSo _ stands = Unit {0}

  told_so : (stands : Sweeping) → AsksSo (told stands) stands
  told_so (at.Asks word) = refl
  told_so at.Reads = tt
  told_so at.Follows = tt
  told_so (at.Copies copier) = tt
  told_so at.Ready = tt
  told_so at.Words = tt
  told_so (at.Tries word) = tt
  told_so (at.Counts removed) = tt
  told_so (at.Disposes dispose) = tt
  told_so at.Over = tt
  told_so (at.Refused fault) = tt

  abbrev Keeps : Sweep × Swept (Node K V) → Type 0
  Keeps (q, end) = (q.purpose ≡ p.purpose) × AsksSo end q.stands

  telling_keeps : (q : Sweep) → q.purpose ≡ p.purpose → Keeps (telling q)
  telling_keeps q e = (e, told_so q.stands)

  entering_keeps : (table : Table) → (entering p table).purpose ≡ p.purpose
  entering_keeps table = by (is_incremental p.setting.mode)
    where
      by : (b : Bool) → (if b then record p { table = table; stands = at.Follows } else beginning (record p { table = table })).purpose ≡ p.purpose
      by true = refl
      by false = refl

  pair_keeps : (purpose : Purpose) (word : ℕ) → Keeps (at_pair purpose p word)
  pair_keeps Walks word = (refl, tt)
  pair_keeps Clears word = (refl, tt)
  pair_keeps Retains word = (refl, refl)

  seen_keeps : (word : ℕ) → Keeps (seen p word)
  seen_keeps word = by (removes p.purpose && has_mark word COPYING) (block_in word == 0)
    where
      by : (b z : Bool) → Keeps (if b then telling (further (record p { met = true })) else (if z then telling (further p) else at_pair p.purpose p word))
      by true z = telling_keeps (further (record p { met = true })) refl
      by false true = telling_keeps (further p) refl
      by false false = pair_keeps p.purpose word

  found_keeps : (out : Out (Node K V)) → Always Keeps (word_found p out)
  found_keeps (Found word) = seen_keeps word
  found_keeps Stored = (refl, tt)
  found_keeps (Exchanged r) = (refl, tt)
  found_keeps (Made r) = (refl, tt)
  found_keeps (Taken value) = (refl, tt)
  found_keeps (Roomed r) = (refl, tt)

  tried_keeps : (word : ℕ) (out : Out (Node K V)) → Always Keeps (tried p word out)
  tried_keeps word (Exchanged (Ok found)) = (refl, tt)
  tried_keeps word (Exchanged (Err found)) = seen_keeps found
  tried_keeps word (Found found) = (refl, tt)
  tried_keeps word Stored = (refl, tt)
  tried_keeps word (Made r) = (refl, tt)
  tried_keeps word (Taken value) = (refl, tt)
  tried_keeps word (Roomed r) = (refl, tt)

  root_keeps : (out : Out (Node K V)) → Always Keeps (root_read p out)
  root_keeps (Found root) = always_if Keeps (root == 0) _ _ (telling_keeps (tableless p) refl) (λ value. telling_keeps (entering p (table_seen root value)) (entering_keeps (table_seen root value)))
  root_keeps Stored = (refl, tt)
  root_keeps (Exchanged r) = (refl, tt)
  root_keeps (Made r) = (refl, tt)
  root_keeps (Taken value) = (refl, tt)
  root_keeps (Roomed r) = (refl, tt)

  next_keeps : (out : Out (Node K V)) → Always Keeps (next_read p out)
  next_keeps (Found link) = always_if Keeps (link == 0) _ _ (telling_keeps (beginning p) refl) (λ value. (refl, tt))
  next_keeps Stored = (refl, tt)
  next_keeps (Exchanged r) = (refl, tt)
  next_keeps (Made r) = (refl, tt)
  next_keeps (Taken value) = (refl, tt)
  next_keeps (Roomed r) = (refl, tt)

  disposed_keeps : (end : Dispose × Settled (Node K V)) → Keeps (disposed p end)
  disposed_keeps (d, settled.Goes) = (refl, tt)
  disposed_keeps (d, settled.Waits) = (refl, tt)
  disposed_keeps (d, settled.Gave value) = (refl, tt)
  disposed_keeps (d, settled.Done) = telling_keeps (further p) refl

  copied_keeps : (end : Copier × Yielding (Node K V) Table) → Keeps (copied p end)
  copied_keeps (c, outcome.Goes) = (refl, tt)
  copied_keeps (c, outcome.Waits) = (refl, tt)
  copied_keeps (c, outcome.Gave value) = (refl, tt)
  copied_keeps (c, outcome.Done root) = telling_keeps (entering p root) (entering_keeps root)
  copied_keeps (c, outcome.Refused fault) = (refl, tt)

  from : (hash : K → ℕ) (stands : Sweeping) → p.stands ≡ stands → AlwaysOf Keeps (plan_at hash p stands)
  from hash at.Reads is = root_keeps
  from hash at.Follows is = next_keeps
  from hash (at.Copies copier) is = always_plan_as Keeps (copied p) copied_keeps (copier_plan hash copier)
  from hash at.Words is = found_keeps
  from hash (at.Tries word) is = tried_keeps word
  from hash (at.Counts removed) is = λ out. (refl, tt)
  from hash (at.Disposes dispose) is = always_plan_as Keeps (disposed p) disposed_keeps (dispose_plan dispose)
  from hash at.Ready is = (refl, tt)
  from hash (at.Asks word) is = (refl, is)
  from hash at.Over is = (refl, tt)
  from hash (at.Refused fault) is = (refl, tt)

module _ {K V : Type 0} where
  -- what is said that it asks it stands at to ask
  abbrev pub SaysSo : Progress (Node K V) → Sweeping → Type 0
  SaysSo (progress.Asks about) stands = (word : ℕ) × (about ≡ Some word) × (stands ≡ at.Asks word)
  SaysSo _ stands = Unit {0}

  -- a machine for a sweep, with this purpose
  abbrev pub SweepsOn : Purpose → Machine K V K × Progress (Node K V) → Type 0
  SweepsOn purpose (kinds.Sweep q, said) = (q.purpose ≡ purpose) × SaysSo said q.stands
  SweepsOn purpose (_, said) = ⊥

  as_machine : (p : Sweep) (end : Sweep × Swept (Node K V)) → Keeps K V p end → SweepsOn p.purpose (swept end)
  as_machine p (q, ends.Goes) so = (so.0, tt)
  as_machine p (q, ends.Waits) so = (so.0, tt)
  as_machine p (q, ends.Gave value) so = (so.0, tt)
  as_machine p (q, ends.Ready) so = (so.0, tt)
  as_machine p (q, ends.Pair word) so = (so.0, tt)
  as_machine p (q, ends.Asks word) so = (so.0, (word, refl, so.1))
  as_machine p (q, ends.Done) so = (so.0, tt)
  as_machine p (q, ends.Refused fault) so = (so.0, tt)

module _ {K V : Type 0} (same : K → K → Bool) (hash : K → ℕ) (old new : Held K V) (p : Sweep) (machine : Machine K V K) (said : Progress (Node K V))
    (steps : StepsFrom same hash (kinds.Sweep p) old new machine said) where
  pub sweeps_on : SweepsOn p.purpose (machine, said)
  sweeps_on =
      always_told (SweepsOn p.purpose) old.memory new.memory Nothing new.changed (plan_as swept (plan_at hash p p.stands)) (machine, said)
      (always_turned (Keeps K V p) (SweepsOn p.purpose) swept (as_machine p) (plan_at hash p p.stands) (from K V p hash p.stands refl)) steps

  abbrev StepsAt : Sweeping → Type 0
  StepsAt stands =
      StepsObserved K V (Machine K V K × Progress (Node K V)) old.memory Nothing (plan_as swept (plan_at hash p stands)) new.memory new.changed (machine, said)

  said_at : (word : ℕ) → StepsAt (at.Asks word) → (machine ≡ kinds.Sweep p) × (said ≡ progress.Asks (Some word))
  said_at word at_word = (
    ap (λ (x : Machine K V K × Progress (Node K V)). x.0) at_word.1,
    ap (λ (x : Machine K V K × Progress (Node K V)). x.1) at_word.1,
  )

  -- where it asks, it stays, and says so
  pub asks_still : (word : ℕ) → p.stands ≡ at.Asks word → (machine ≡ kinds.Sweep p) × (said ≡ progress.Asks (Some word))
  asks_still word stands = said_at word (subst StepsAt stands steps)

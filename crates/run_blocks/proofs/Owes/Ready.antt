-- A step after which a walk says that it is ready leaves it where it is asked for its next pair.
use Rattle.std.specs.Prelude.{◌≡◌, ℕ, ◌==◌, ◌&&◌, Bool, true, false, Ok, Err, if◌then◌else◌}
use Rattle.std.proofs.Common.{refl, ap, sym, ◌∙◌}
use Rattle.run_debts.specs.Given.SeizeWordsMem.{Mem}
use Rattle.run_debts.specs.Given.SeizeWordsOp.{Out, Found, Stored, Exchanged, Made, Taken, Roomed}
use Rattle.run_debts.specs.Given.SeizeWordsWord.{block_in}
use Rattle.run_debts.specs.Given.SeizeDeclared.advance.Advance.{Advance as Counting}
use Rattle.run_debts.specs.Given.SeizeDeclared.advance.Advance.TheVariants as counting
use Rattle.run_debts.specs.Given.SeizeDeclared.rows.settle.Settled.{Settled}
use Rattle.run_debts.specs.Given.SeizeDeclared.rows.settle.Settled.TheVariants as settled
use Rattle.owner_calls.specs.Given.TablesMarks.{has_mark}
use Rattle.run_debts.specs.Given.TablesDeclared.marks.TheConstants.{COPYING}
use Rattle.run_debts.specs.Given.TablesDeclared.node.Node.{Node}
use Rattle.run_debts.specs.Given.TablesDeclared.table.Table.{Table as Planned}
use Rattle.run_debts.specs.Given.TablesNodes.{table_seen}
use Rattle.owner_calls.specs.Given.ResizeCopier.{copier_plan}
use Rattle.owner_calls.specs.Given.ResizeDispose.{dispose_plan}
use Rattle.owner_calls.specs.Given.ResizeSum.{sum_plan}
use Rattle.owner_calls.specs.Given.ResizeDeclared.copier.Copier.{Copier}
use Rattle.owner_calls.specs.Given.ResizeDeclared.dispose.Dispose.{Dispose}
use Rattle.owner_calls.specs.Given.ResizeDeclared.yielding.Yielding.{Yielding}
use Rattle.owner_calls.specs.Given.ResizeDeclared.yielding.Yielding.TheVariants as outcome
use Rattle.owner_calls.specs.Given.ReservesReserve.{reserve_plan}
use Rattle.owner_calls.specs.Given.SweepsSweep.{sweep_plan}
use Rattle.owner_calls.specs.Given.SweepsSweep as sweeps
use Rattle.owner_calls.specs.Given.SweepsSweepPoints as points
use Rattle.run_debts.specs.Given.ReservesDeclared.sweep.Purpose.{Purpose}
use Rattle.run_debts.specs.Given.ReservesDeclared.sweep.Purpose.TheVariants as purpose
use Rattle.run_debts.specs.Given.ReservesDeclared.sweep.Sweep.{Sweep}
use Rattle.run_debts.specs.Given.ReservesDeclared.sweep.Sweeping.{Sweeping}
use Rattle.run_debts.specs.Given.ReservesDeclared.sweep.Sweeping.TheVariants as sweeping
use Rattle.run_debts.specs.Given.ReservesDeclared.sweep.Swept.{Swept}
use Rattle.run_debts.specs.Given.ReservesDeclared.sweep.Swept.TheVariants as swept
use Rattle.owner_calls.specs.Given.RawCall.{call_plan}
use Rattle.run_debts.specs.Given.RawMachine.{machine_plan, machine_asked, is_ready, called as of_key, reserved as of_room, swept as of_sweep, counted as of_sum}
use Rattle.owner_calls.specs.Given.RawProgress.{of_called, of_outcome, of_swept, of_counting}
use Rattle.run_debts.specs.Given.RawDeclared.machines.answer.Called.{Called}
use Rattle.run_debts.specs.Given.RawDeclared.machines.answer.Called.TheVariants as called
use Rattle.run_debts.specs.Given.RawDeclared.machines.machine.Machine.{Machine}
use Rattle.run_debts.specs.Given.RawDeclared.machines.machine.Machine.TheVariants as kinds
use Rattle.run_debts.specs.Given.RawDeclared.machines.progress.Progress.{Progress}
use Rattle.run_debts.specs.Given.RawDeclared.machines.progress.Progress.TheVariants as progress
use Rattle.owner_calls.proofs.Given.RuleKeys.Always.{Always, AlwaysOf, always_if, always_plan_as, always_steps}
use Rattle.run_debts.specs.Given.TellerTells.{StepsObserved}
use Rattle.run_debts.specs.Given.EffectsDeclared.changed.Changed.{Changed}
use Rattle.run_debts.specs.Given.EffectsDeclared.changed.Changed.TheVariants as changed
use Rattle.run_debts.proofs.Given.OthersOutcomes.{told_in}
use Rattle.run_debts.proofs.Given.ScenesTold.{as_step}

module _ (K V : Type 0) (hash : K → ℕ) (c : Sweep) where
  -- what says that it is ready is
  abbrev IsReadySo : Sweep × Swept (Node K V) → Type 0
  IsReadySo e = e.1 ≡ swept.Ready → is_ready e.0.stands ≡ true

  told_ready : (q : Sweeping) → ◌≡◌ {A = Swept (Node K V)} (points.told q) swept.Ready → is_ready q ≡ true
  told_ready sweeping.Ready e = refl
  told_ready _ e = absurd (cc e)

  telling_so : (x : Sweep) → IsReadySo (points.telling x)
  telling_so x e = told_ready x.stands e

  goes_so : (x : Sweep) → IsReadySo (x, swept.Goes)
  goes_so x e = absurd (cc e)

  by_test : (q : Bool) (x y : Sweep × Swept (Node K V)) → IsReadySo x → IsReadySo y → IsReadySo (if q then x else y)
  by_test true x y h k = h
  by_test false x y h k = k

  pair_so : (why : Purpose) (word : ℕ) → IsReadySo (points.at_pair why c word)
  pair_so purpose.Walks word e = absurd (cc e)
  pair_so purpose.Clears word e = absurd (cc e)
  pair_so purpose.Retains word e = absurd (cc e)

  seen_so : (word : ℕ) → IsReadySo (points.seen c word)
  seen_so word =
      by_test (points.removes c.purpose && has_mark word COPYING) _ _ (telling_so (points.further (record c { met = true })))
      (by_test (block_in word == 0) _ _ (telling_so (points.further c)) (pair_so c.purpose word))

  root_so : (out : Out (Node K V)) → Always IsReadySo (sweeps.root_read c out)
  root_so (Found root) = always_if IsReadySo (root == 0) _ _ (telling_so (points.tableless c)) (λ value. telling_so (points.entering c (table_seen root value)))
  root_so Stored = goes_so c
  root_so (Exchanged r) = goes_so c
  root_so (Made r) = goes_so c
  root_so (Taken value) = goes_so c
  root_so (Roomed r) = goes_so c

  next_so : (out : Out (Node K V)) → Always IsReadySo (sweeps.next_read c out)
  next_so (Found link) = always_if IsReadySo (link == 0) _ _ (telling_so (points.beginning c)) (λ value e. absurd (cc e))
  next_so Stored = goes_so c
  next_so (Exchanged r) = goes_so c
  next_so (Made r) = goes_so c
  next_so (Taken value) = goes_so c
  next_so (Roomed r) = goes_so c

  word_so : (out : Out (Node K V)) → Always IsReadySo (sweeps.word_found c out)
  word_so (Found word) = seen_so word
  word_so Stored = goes_so c
  word_so (Exchanged r) = goes_so c
  word_so (Made r) = goes_so c
  word_so (Taken value) = goes_so c
  word_so (Roomed r) = goes_so c

  tried_so : (word : ℕ) (out : Out (Node K V)) → Always IsReadySo (sweeps.tried c word out)
  tried_so word (Exchanged (Ok found)) = λ e. absurd (cc e)
  tried_so word (Exchanged (Err found)) = seen_so found
  tried_so word (Found found) = goes_so c
  tried_so word Stored = goes_so c
  tried_so word (Made r) = goes_so c
  tried_so word (Taken value) = goes_so c
  tried_so word (Roomed r) = goes_so c

  copied_so : (e : Copier × Yielding (Node K V) Planned) → IsReadySo (sweeps.copied c e)
  copied_so (x, outcome.Goes) is = absurd (cc is)
  copied_so (x, outcome.Waits) is = absurd (cc is)
  copied_so (x, outcome.Gave value) is = absurd (cc is)
  copied_so (x, outcome.Done root) is = telling_so (points.entering c root) is
  copied_so (x, outcome.Refused fault) is = absurd (cc is)

  disposed_so : (e : Dispose × Settled (Node K V)) → IsReadySo (sweeps.disposed c e)
  disposed_so (x, settled.Goes) is = absurd (cc is)
  disposed_so (x, settled.Waits) is = absurd (cc is)
  disposed_so (x, settled.Gave value) is = absurd (cc is)
  disposed_so (x, settled.Done) is = telling_so (points.further c) is

  sweep_at : (q : Sweeping) → c.stands ≡ q → AlwaysOf IsReadySo (sweeps.plan_at hash c q)
  sweep_at sweeping.Reads at_q = root_so
  sweep_at sweeping.Follows at_q = next_so
  sweep_at (sweeping.Copies copier) at_q = always_plan_as IsReadySo (sweeps.copied c) copied_so (copier_plan hash copier)
  sweep_at sweeping.Words at_q = word_so
  sweep_at (sweeping.Tries word) at_q = tried_so word
  sweep_at (sweeping.Counts removed) at_q = λ out e. absurd (cc e)
  sweep_at (sweeping.Disposes dispose) at_q = always_plan_as IsReadySo (sweeps.disposed c) disposed_so (dispose_plan dispose)
  sweep_at sweeping.Ready at_q = λ e. ap is_ready at_q
  sweep_at (sweeping.Asks word) at_q = λ e. absurd (cc e)
  sweep_at sweeping.Over at_q = λ e. absurd (cc e)
  sweep_at (sweeping.Refused fault) at_q = λ e. absurd (cc e)

  sweep_ready : AlwaysOf IsReadySo (sweep_plan hash c)
  sweep_ready = sweep_at c.stands refl

module _ {T : Type 0} where
  -- no other machine says so

  key_other : (x : Called T) → of_called x ≡ progress.Ready → ⊥
  key_other called.Goes e = cc e
  key_other called.Waits e = cc e
  key_other (called.Gave value) e = cc e
  key_other (called.Unstored value) e = cc e
  key_other (called.Asks about) e = cc e
  key_other (called.Done answer) e = cc e
  key_other (called.Refused fault) e = cc e

  room_other : (x : Yielding T Unit) → of_outcome x ≡ progress.Ready → ⊥
  room_other outcome.Goes e = cc e
  room_other outcome.Waits e = cc e
  room_other (outcome.Gave value) e = cc e
  room_other (outcome.Done end) e = cc e
  room_other (outcome.Refused fault) e = cc e

  count_other : (x : Counting ℕ) → ◌≡◌ {A = Progress T} (of_counting x) progress.Ready → ⊥
  count_other counting.Goes e = cc e
  count_other counting.Waits e = cc e
  count_other (counting.Done count) e = cc e
  count_other (counting.Refused fault) e = cc e

  sweep_says : (x : Swept T) → of_swept x ≡ progress.Ready → x ≡ swept.Ready
  sweep_says swept.Ready e = refl
  sweep_says swept.Goes e = absurd (cc e)
  sweep_says swept.Waits e = absurd (cc e)
  sweep_says (swept.Gave value) e = absurd (cc e)
  sweep_says (swept.Pair pair) e = absurd (cc e)
  sweep_says (swept.Asks pair) e = absurd (cc e)
  sweep_says swept.Done e = absurd (cc e)
  sweep_says (swept.Refused fault) e = absurd (cc e)

module _ {K V : Type 0} (asks : K → K → Bool) (same : K → K → Bool) (hash : K → ℕ) (m m2 : Mem (Node K V)) (told : Changed) (machine : Machine K V K) (said : Progress (Node K V)) (ready : said ≡ progress.Ready) where
  abbrev Both : Type 0
  Both = Machine K V K × Progress (Node K V)

  said_is : (y : Machine K V K) (z : Progress (Node K V)) → ◌≡◌ {A = Both} (machine, said) (y, z) → z ≡ progress.Ready
  said_is y z is = sym (ap (λ (q : Both). q.1) is) ∙ ready

  -- a machine that says that it is ready is asked for a pair
  pub ready_so : (before : Machine K V K) → StepsObserved K V Both m changed.Nothing (machine_plan asks same hash before) m2 told (machine, said) → (machine_asked machine).1 ≡ true
  ready_so (kinds.Key p) s = let it = told_in m m2 told of_key (call_plan asks same hash p) (machine, said) s in absurd (key_other it.0.1 (said_is (kinds.Key it.0.0) (of_called it.0.1) it.1))
  ready_so (kinds.Reserve r) s = let it = told_in m m2 told of_room (reserve_plan hash r) (machine, said) s in absurd (room_other it.0.1 (said_is (kinds.Reserve it.0.0) (of_outcome it.0.1) it.1))
  ready_so (kinds.Count sum) s = let it = told_in m m2 told of_sum (sum_plan sum) (machine, said) s in absurd (count_other it.0.1 (said_is (kinds.Count it.0.0) (of_counting it.0.1) it.1))
  ready_so (kinds.Sweep c) s =
      let it = told_in m m2 told of_sweep (sweep_plan hash c) (machine, said) s in
      let at_end = always_steps (IsReadySo K V hash c) m m2 (sweep_plan hash c) it.0 (sweep_ready K V hash c) (as_step m changed.Nothing (sweep_plan hash c) m2 told it.0 it.2) in
      ap (λ (q : Both). (machine_asked q.0).1) it.1 ∙ at_end (sweep_says it.0.1 (said_is (kinds.Sweep it.0.0) (of_swept it.0.1) it.1))

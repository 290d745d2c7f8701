-- Which machines are about to count after a step: none but those that have just changed their map.
use Rattle.std.specs.Prelude.{◌==◌, ◌&&◌, if◌then◌else◌}
use Rattle.std.proofs.Common.{◌≡◌, ℕ, Bool, true, false, refl, ap}
use Rattle.run_places.specs.Given.SeizeWordsMem.{Mem, Took, value_at}
use Rattle.run_places.specs.Given.SeizeWordsOp.{Out, Found, Stored, Exchanged, Made, Taken, Roomed}
use Rattle.run_places.specs.Given.SeizeWordsPlan.{Steps}
use Rattle.run_places.specs.Given.SeizeWordsWord.{block_in}
use Rattle.run_places.specs.Given.SeizeDeclared.rows.settle.Settled.{Settled}
use Rattle.run_places.specs.Given.SeizeDeclared.rows.settle.Settled.TheVariants as settled
use Rattle.run_places.specs.Given.TablesChunks.{is_incremental}
use Rattle.run_places.specs.Given.TablesMarks.{has_mark}
use Rattle.run_places.specs.Given.TablesDeclared.marks.TheConstants.{COPYING}
use Rattle.run_places.specs.Given.TablesDeclared.node.Node.{Node}
use Rattle.run_places.specs.Given.TablesDeclared.table.Table.{Table}
use Rattle.run_places.specs.Given.ResizeCopier.{copier_plan}
use Rattle.run_places.specs.Given.ResizeDispose.{dispose_plan}
use Rattle.run_places.specs.Given.ResizeDeclared.copier.Copier.{Copier}
use Rattle.run_places.specs.Given.ResizeDeclared.dispose.Dispose.{Dispose}
use Rattle.run_places.specs.Given.ResizeDeclared.yielding.Yielding.{Yielding}
use Rattle.run_places.specs.Given.ResizeDeclared.yielding.Yielding.TheVariants as outcome
use Rattle.run_places.specs.Given.SweepsSweep as sweeps
use Rattle.run_places.specs.Given.SweepsSweep.{sweep_plan}
use Rattle.run_places.specs.Given.SweepsSweepPoints as points
use Rattle.run_places.specs.Given.ReservesDeclared.sweep.Purpose.{Purpose}
use Rattle.run_places.specs.Given.ReservesDeclared.sweep.Purpose.TheVariants.{Walks, Clears, Retains}
use Rattle.run_places.specs.Given.ReservesDeclared.sweep.Sweep.{Sweep}
use Rattle.run_places.specs.Given.ReservesDeclared.sweep.Sweeping.{Sweeping}
use Rattle.run_places.specs.Given.ReservesDeclared.sweep.Sweeping.TheVariants as sweeping
use Rattle.run_places.specs.Given.ReservesDeclared.sweep.Swept.{Swept}
use Rattle.run_places.specs.Given.RawCall.{disposed, helped, copied, plan_at, call_plan}
use Rattle.run_places.specs.Given.RawCallPoints.{going, over, ending, counted}
use Rattle.run_places.specs.Given.RawDeclared.machines.answer.Called.{Called}
use Rattle.run_places.specs.Given.RawDeclared.machines.answer.End.{End}
use Rattle.run_places.specs.Given.RawDeclared.machines.answer.End.TheVariants as ends
use Rattle.run_places.specs.Given.RawDeclared.machines.answer.KeyAnswer.{KeyAnswer}
use Rattle.run_places.specs.Given.RawDeclared.machines.answer.KeyAnswer.TheVariants as answers
use Rattle.run_places.specs.Given.RawDeclared.machines.call.Calling.{Calling}
use Rattle.run_places.specs.Given.RawDeclared.machines.call.Calling.TheVariants as at
use Rattle.run_places.specs.Given.RawDeclared.machines.call.KeyCall.{KeyCall}
use Rattle.run_places.proofs.Given.RuleKeys.Always.{Always, AlwaysOf, always_if, always_plan_as, always_steps}
use Rattle.run_debts.specs.Counts.{counts_in_calling, counts_in_sweeping}

-- by where it stood: it has counted, or is past that, or it copies
abbrev pub IsBeyond : Calling → Type 0
IsBeyond (at.Counts removed) = Unit {0}
IsBeyond (at.Disposes dispose answer) = Unit {0}
IsBeyond (at.Helps copier goal) = Unit {0}
IsBeyond (at.Copies copier) = Unit {0}
IsBeyond (at.Over end) = Unit {0}
IsBeyond _ = ⊥

module _ {K V Q : Type 0} where
  -- the call is not about to count
  abbrev pub IsPast : KeyCall K V Q × Called (Node K V) → Type 0
  IsPast e = counts_in_calling e.0.stands ≡ false

  either : (b : Bool) (x y : KeyCall K V Q × Called (Node K V)) → IsPast x → IsPast y → IsPast (if b then x else y)
  either true x y f g = f
  either false x y f g = g

  module _ (p : KeyCall K V Q) where
    ending_past : (end : End) → IsPast (ending p end)
    ending_past end = either (p.own == 0) (over p end) (going p (at.Drops end)) refl refl

    disposed_past : (answer : KeyAnswer) (end : Dispose × Settled (Node K V)) → IsPast (disposed p answer end)
    disposed_past answer (d, settled.Goes) = refl
    disposed_past answer (d, settled.Waits) = refl
    disposed_past answer (d, settled.Gave value) = refl
    disposed_past answer (d, settled.Done) = refl

    helped_past : (goal : Table) (end : Copier × Yielding (Node K V) Table) → IsPast (helped p goal end)
    helped_past goal (c, outcome.Goes) = refl
    helped_past goal (c, outcome.Waits) = refl
    helped_past goal (c, outcome.Gave value) = refl
    helped_past goal (c, outcome.Done table) = refl
    helped_past goal (c, outcome.Refused fault) = ending_past (ends.Refused fault)

    copied_past : (end : Copier × Yielding (Node K V) Table) → IsPast (copied p end)
    copied_past (c, outcome.Goes) = refl
    copied_past (c, outcome.Waits) = refl
    copied_past (c, outcome.Gave value) = refl
    copied_past (c, outcome.Done table) = refl
    copied_past (c, outcome.Refused fault) = ending_past (ends.Refused fault)

    counted_past : (removed : ℕ) → IsPast (counted p removed)
    counted_past removed = either (removed == 0) (over p (ends.Answered (answers.Stored p.own))) _ refl refl

  past_at : (asks : Q → K → Bool) (same : K → K → Bool) (hash : K → ℕ) (p : KeyCall K V Q) (stands : Calling) → p.stands ≡ stands → IsBeyond stands → AlwaysOf IsPast (plan_at asks same hash p stands)
  past_at asks same hash p (at.Counts removed) is beyond = λ out. counted_past p removed
  past_at asks same hash p (at.Disposes dispose answer) is beyond = always_plan_as IsPast (disposed p answer) (disposed_past p answer) (dispose_plan dispose)
  past_at asks same hash p (at.Helps copier goal) is beyond = always_plan_as IsPast (helped p goal) (helped_past p goal) (copier_plan hash copier)
  past_at asks same hash p (at.Copies copier) is beyond = always_plan_as IsPast (copied p) (copied_past p) (copier_plan hash copier)
  past_at asks same hash p (at.Over end) is beyond = ap counts_in_calling is
  past_at asks same hash p _ is beyond = absurd beyond

  pub past_step : (asks : Q → K → Bool) (same : K → K → Bool) (hash : K → ℕ) (p : KeyCall K V Q) → IsBeyond p.stands → (m m2 : Mem (Node K V)) (end : KeyCall K V Q × Called (Node K V))
      → Steps Took value_at m (call_plan asks same hash p) m2 end → IsPast end
  past_step asks same hash p beyond m m2 end steps = always_steps IsPast m m2 (call_plan asks same hash p) end (past_at asks same hash p p.stands refl beyond) steps

-- a sweep is elsewhere than about to remove a pair
abbrev pub IsNoTry : Sweeping → Type 0
IsNoTry (sweeping.Tries word) = ⊥
IsNoTry _ = Unit {0}

module _ {T : Type 0} where
  -- the sweep is not about to count
  abbrev pub IsIdleSweep : Sweep × Swept T → Type 0
  IsIdleSweep e = counts_in_sweeping e.0.stands ≡ false

abbrev NoneToCount : Sweep → Type 0
NoneToCount p = counts_in_sweeping p.stands ≡ false

one_of_two : (b : Bool) (x y : Sweep) → NoneToCount x → NoneToCount y → NoneToCount (if b then x else y)
one_of_two true x y f g = f
one_of_two false x y f g = g

pub points_apart : (b : Bool) (x y : Sweeping) → counts_in_sweeping x ≡ false → counts_in_sweeping y ≡ false → counts_in_sweeping (if b then x else y) ≡ false
points_apart true x y f g = f
points_apart false x y f g = g

module _ (p : Sweep) where
  beginning_idle : NoneToCount (points.beginning p)
  beginning_idle = points_apart (points.removes p.purpose) sweeping.Words sweeping.Ready refl refl

  tableless_idle : NoneToCount (points.tableless p)
  tableless_idle = points_apart (points.removes p.purpose) sweeping.Over sweeping.Ready refl refl

  pub further_idle : NoneToCount (points.further p)
  further_idle = points_apart _ sweeping.Words (points.at_end p) refl (points_apart (points.removes p.purpose && p.met) sweeping.Follows sweeping.Over refl refl)

entering_idle : (p : Sweep) (table : Table) → NoneToCount (points.entering p table)
entering_idle p table = one_of_two (is_incremental p.setting.mode) (record p { table = table; stands = sweeping.Follows }) (points.beginning (record p { table = table })) refl (beginning_idle (record p { table = table }))

module _ (T : Type 0) (p : Sweep) where
  swept_either : (b : Bool) (x y : Sweep × Swept T) → IsIdleSweep x → IsIdleSweep y → IsIdleSweep (if b then x else y)
  swept_either true x y f g = f
  swept_either false x y f g = g

  pair_idle : (purpose : Purpose) (word : ℕ) → IsIdleSweep {T = T} (points.at_pair purpose p word)
  pair_idle Walks word = refl
  pair_idle Clears word = refl
  pair_idle Retains word = refl

  pub seen_idle : (word : ℕ) → IsIdleSweep {T = T} (points.seen p word)
  seen_idle word =
      swept_either (points.removes p.purpose && has_mark word COPYING) (points.telling (points.further (record p { met = true }))) _ (further_idle (record p { met = true }))
      (swept_either (block_in word == 0) (points.telling (points.further p)) (points.at_pair p.purpose p word) (further_idle p) (pair_idle p.purpose word))

  disposed_idle : (end : Dispose × Settled T) → IsIdleSweep {T = T} (sweeps.disposed p end)
  disposed_idle (d, settled.Goes) = refl
  disposed_idle (d, settled.Waits) = refl
  disposed_idle (d, settled.Gave value) = refl
  disposed_idle (d, settled.Done) = further_idle p

module _ (K V : Type 0) (p : Sweep) where
  copied_idle : (end : Copier × Yielding (Node K V) Table) → IsIdleSweep {T = Node K V} (sweeps.copied p end)
  copied_idle (c, outcome.Goes) = refl
  copied_idle (c, outcome.Waits) = refl
  copied_idle (c, outcome.Gave value) = refl
  copied_idle (c, outcome.Done root) = entering_idle p root
  copied_idle (c, outcome.Refused fault) = refl

  module _ (idle : NoneToCount p) where
    root_idle : (out : Out (Node K V)) → Always (IsIdleSweep {T = Node K V}) (sweeps.root_read p out)
    root_idle (Found root) = always_if (IsIdleSweep {T = Node K V}) (root == 0) _ _ (tableless_idle p) (λ value. entering_idle p _)
    root_idle Stored = idle
    root_idle (Exchanged r) = idle
    root_idle (Made r) = idle
    root_idle (Taken value) = idle
    root_idle (Roomed r) = idle

    follows_idle : (out : Out (Node K V)) → Always (IsIdleSweep {T = Node K V}) (sweeps.next_read p out)
    follows_idle (Found link) = always_if (IsIdleSweep {T = Node K V}) (link == 0) _ _ (beginning_idle p) (λ value. refl)
    follows_idle Stored = idle
    follows_idle (Exchanged r) = idle
    follows_idle (Made r) = idle
    follows_idle (Taken value) = idle
    follows_idle (Roomed r) = idle

    words_idle : (out : Out (Node K V)) → Always (IsIdleSweep {T = Node K V}) (sweeps.word_found p out)
    words_idle (Found word) = seen_idle (Node K V) p word
    words_idle Stored = idle
    words_idle (Exchanged r) = idle
    words_idle (Made r) = idle
    words_idle (Taken value) = idle
    words_idle (Roomed r) = idle

  idle_at : (hash : K → ℕ) (stands : Sweeping) → p.stands ≡ stands → IsNoTry stands → AlwaysOf (IsIdleSweep {T = Node K V}) (sweeps.plan_at hash p stands)
  idle_at hash sweeping.Reads is none = root_idle (ap counts_in_sweeping is)
  idle_at hash sweeping.Follows is none = follows_idle (ap counts_in_sweeping is)
  idle_at hash (sweeping.Copies copier) is none = always_plan_as (IsIdleSweep {T = Node K V}) (sweeps.copied p) copied_idle (copier_plan hash copier)
  idle_at hash sweeping.Words is none = words_idle (ap counts_in_sweeping is)
  idle_at hash (sweeping.Tries word) is none = absurd none
  idle_at hash (sweeping.Counts removed) is none = λ out. refl
  idle_at hash (sweeping.Disposes dispose) is none = always_plan_as (IsIdleSweep {T = Node K V}) (sweeps.disposed p) (disposed_idle (Node K V) p) (dispose_plan dispose)
  idle_at hash sweeping.Ready is none = ap counts_in_sweeping is
  idle_at hash (sweeping.Asks word) is none = ap counts_in_sweeping is
  idle_at hash sweeping.Over is none = ap counts_in_sweeping is
  idle_at hash (sweeping.Refused fault) is none = ap counts_in_sweeping is

  pub idle_step : (hash : K → ℕ) → IsNoTry p.stands → (m m2 : Mem (Node K V)) (end : Sweep × Swept (Node K V)) → Steps Took value_at m (sweep_plan hash p) m2 end → IsIdleSweep end
  idle_step hash none m m2 end steps = always_steps (IsIdleSweep {T = Node K V}) m m2 (sweep_plan hash p) end (idle_at hash p.stands refl none) steps

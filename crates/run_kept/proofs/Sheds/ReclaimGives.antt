-- A step by which all is reclaimed takes a block away only where it hands out what was in it.
use Rattle.std.specs.Prelude.{◌≡◌, ◌==◌, ℕ, Bool, true, false, Some, None, Ok, Err, if◌then◌else◌}
use Rattle.std.proofs.Common.{ap, sym, subst, ◌∙◌, inl, inr}
use Rattle.std.proofs.lemmas.Bool.{cases_eq}
use Rattle.run_schedules.specs.Given.SeizeWordsMem.{Mem, Took, value_at}
use Rattle.run_schedules.specs.Given.SeizeWordsOp.{Op, Out, Load, Store, Swap, Add, Or, Exchange, Make, Take, Rewrite, Room, Found, Exchanged, Made, Taken, Roomed}
use Rattle.run_schedules.specs.Given.SeizeWordsPlan.{Plan, Turn, Do, Now, Ends}
use Rattle.run_executor.specs.Given.SeizeWordsWord.{block_in}
use Rattle.seize.specs.Leave as leave
use Rattle.seize.specs.ReclaimAll as all
use Rattle.seize.specs.Settle as settle
use Rattle.seize.specs.declared.rows.leave.Leave.{Leave}
use Rattle.seize.specs.declared.rows.leave.Leaving.{Leaving}
use Rattle.seize.specs.declared.rows.leave.Leaving.TheVariants as leaving
use Rattle.seize.specs.declared.rows.reclaim_all.ReclaimAll.{ReclaimAll}
use Rattle.seize.specs.declared.rows.reclaim_all.Reclaiming.{Reclaiming}
use Rattle.seize.specs.declared.rows.reclaim_all.Reclaiming.TheVariants as at
use Rattle.seize.specs.declared.rows.settle.Settle.{Settle}
use Rattle.seize.specs.declared.rows.settle.Settled.{Settled}
use Rattle.seize.specs.declared.rows.settle.Settled.TheVariants as settled
use Rattle.seize.specs.declared.rows.settle.Settling.{Settling}
use Rattle.seize.specs.declared.rows.settle.Settling.TheVariants as settling
use Rattle.papaya_raw.specs.Given.TablesNodes.{deferred_word, was_left}
use Rattle.papaya_raw.specs.Given.TablesDeclared.node.Node.{Node}
use Rattle.run_executor.specs.Given.TellsSeen.{seen_of}
use Rattle.run_executor.specs.Given.TellerTells.{StepsObserved, observed_of}
use Rattle.run_executor.specs.Given.EffectsDeclared.changed.Changed.{Changed}
use Rattle.run_executor.specs.Given.EffectsDeclared.changed.Changed.TheVariants as changed
use Rattle.run_executor.proofs.Given.FollowsOperations.{LeavesBy}
use Rattle.run_executor.specs.Given.FollowsSteps.{TakesNone}
use Rattle.run_executor.proofs.Given.OthersOutcomes.{told_in}
use Rattle.run_executor.proofs.Given.OthersRowGives.{IsTakes}

module _ {T : Type 0} where
  -- an operation, and a plan, that takes no block away
  abbrev IsNoTake : Op T → Type 0
  IsNoTake (Take b) = ⊥
  IsNoTake _ = Unit {0}

  abbrev IsQuiet : {R : Type 0} → Plan T R → Type 0
  IsQuiet (Turn rest) = Unit {0}
  IsQuiet (Do op rest) = IsNoTake op

module _ {K V : Type 0} (m m2 : Mem (Node K V)) (told : Changed) where
  -- a value is handed out, or no block was taken away
  abbrev pub GivesOr : Settled (Node K V) → Type 0
  GivesOr (settled.Gave value) = Unit {0}
  GivesOr _ = TakesNone told

  or_none : TakesNone told → (x : Settled (Node K V)) → GivesOr x
  or_none none settled.Goes = none
  or_none none settled.Waits = none
  or_none none (settled.Gave value) = tt
  or_none none settled.Done = none

  op_quiet : (op : Op (Node K V)) (out : Out (Node K V)) → IsNoTake op → TakesNone (observed_of op out (seen_of m op out))
  op_quiet (Load place) out is = tt
  op_quiet (Store place word) out is = tt
  op_quiet (Swap place word) (Found before) is = tt
  op_quiet (Swap place word) _ is = tt
  op_quiet (Add place more) (Found before) is = tt
  op_quiet (Add place more) _ is = tt
  op_quiet (Or place bits) (Found before) is = tt
  op_quiet (Or place bits) _ is = tt
  op_quiet (Exchange place old new) (Exchanged (Ok word)) is = tt
  op_quiet (Exchange place old new) _ is = tt
  op_quiet (Make value words) (Made (Ok b)) is = tt
  op_quiet (Make value words) (Made (Err back)) is = tt
  op_quiet (Make value words) _ is = tt
  op_quiet (Take b) out is = absurd is
  op_quiet (Rewrite b value) out is = tt
  op_quiet (Room bucket) (Roomed roomed) is = tt
  op_quiet (Room bucket) _ is = tt

  quiet : {R : Type 0} (plan : Plan (Node K V) R) (end : R) → StepsObserved K V R m changed.Nothing plan m2 told end → IsQuiet plan → TakesNone told
  quiet (Turn rest) end s is = subst TakesNone (sym s.2) tt
  quiet (Do op rest) end s is = subst TakesNone (sym s.1.1) (op_quiet op s.0 is)

  module _ (c : Settle) (end : Settle × Settled (Node K V)) where
    quiet_at : (p : Settling) → (IsTakes p → ⊥) → IsQuiet (settle.plan_at (deferred_word {K = K} {V = V}) c p)
    quiet_at (settling.Takes next) none = absurd (none tt)
    quiet_at _ none = tt

    takes_gives : (next : ℕ) (out : Out (Node K V)) → Took m (Take (block_in c.reclaiming)) out m2 → Ends (value_at m2) (settle.given_back c next out) end → GivesOr end.1
    takes_gives next (Taken value) took e = subst (λ (x : Settle × Settled (Node K V)). GivesOr x.1) (sym e) tt
    takes_gives next _ took e = absurd took.0

    settle_gives : (p : Settling) → StepsObserved K V (Settle × Settled (Node K V)) m changed.Nothing (settle.plan_at deferred_word c p) m2 told end → GivesOr end.1
    settle_gives (settling.Takes next) s = takes_gives next s.0 s.1.0 s.2
    settle_gives p s = or_none (quiet (settle.plan_at deferred_word c p) end s (quiet_at p (λ h. h))) end.1

  module _ (c : Leave) (end : Leave × Settled (Node K V)) where
    settled_gives : (r : Settle × Settled (Node K V)) → GivesOr r.1 → GivesOr (leave.settled c r).1
    settled_gives (x, settled.Goes) g = g
    settled_gives (x, settled.Waits) g = g
    settled_gives (x, settled.Gave value) g = g
    settled_gives (x, settled.Done) g = g

    leave_gives : (p : Leaving) → StepsObserved K V (Leave × Settled (Node K V)) m changed.Nothing (leave.plan_at deferred_word c p) m2 told end → GivesOr end.1
    leave_gives leaving.Swaps s = or_none (quiet (leave.plan_at deferred_word c leaving.Swaps) end s tt) end.1
    leave_gives (leaving.Settles it) s =
        let inner = told_in m m2 told (leave.settled c) (settle.settle_plan deferred_word it) end s in
        subst (λ (x : Leave × Settled (Node K V)). GivesOr x.1) (sym inner.1) (settled_gives inner.0 (settle_gives it inner.0 it.stands inner.2))
    leave_gives leaving.Frees s = or_none (quiet (leave.plan_at deferred_word c leaving.Frees) end s tt) end.1
    leave_gives leaving.Over s = or_none (quiet (leave.plan_at deferred_word c leaving.Over) end s tt) end.1

  module _ (c : ReclaimAll) (end : ReclaimAll × Settled (Node K V)) where
    abbrev Told : Reclaiming → Type 0
    Told p = StepsObserved K V (ReclaimAll × Settled (Node K V)) m changed.Nothing (all.plan_at deferred_word was_left c p) m2 told end

    within_gives : {R : Type 0} (inside : R → ReclaimAll) (behind : ReclaimAll) (r : R × Settled (Node K V)) → GivesOr r.1 → GivesOr (all.within inside behind r).1
    within_gives inside behind (x, settled.Goes) g = g
    within_gives inside behind (x, settled.Waits) g = g
    within_gives inside behind (x, settled.Gave value) g = g
    within_gives inside behind (x, settled.Done) g = g

    left_gives : (root block next : ℕ) (out : Out (Node K V)) → Took m (Take (block_in block)) out m2 → Ends (value_at m2) (all.given_back c root next out) end → GivesOr end.1
    left_gives root block next (Taken value) took e = by (next == 0) e
      where
        by : (q : Bool) → Ends (value_at m2) (if q then Now (all.standing c (at.Empties root), settled.Gave value) else Now (all.standing c (at.Nexts root next), settled.Gave value)) end → GivesOr end.1
        by true is = subst (λ (x : ReclaimAll × Settled (Node K V)). GivesOr x.1) (sym is) tt
        by false is = subst (λ (x : ReclaimAll × Settled (Node K V)). GivesOr x.1) (sym is) tt
    left_gives root block next _ took e = absurd took.0

    pub reclaiming_gives : (p : Reclaiming) → Told p → GivesOr end.1
    reclaiming_gives (at.Leaves slot it) s =
        let inside : Leave → ReclaimAll = λ l. all.standing c (at.Leaves slot l) in
        let inner = told_in m m2 told (all.within inside (all.next_head c slot)) (leave.leave_plan deferred_word it) end s in
        subst (λ (x : ReclaimAll × Settled (Node K V)). GivesOr x.1) (sym inner.1) (within_gives inside (all.next_head c slot) inner.0 (leave_gives it inner.0 it.stands inner.2))
    reclaiming_gives (at.Flushes slot it) s =
        let inside : Settle → ReclaimAll = λ l. all.standing c (at.Flushes slot l) in
        let behind = all.next_batch (record c { again = true }) slot in
        let inner = told_in m m2 told (all.within inside behind) (settle.settle_plan deferred_word it) end s in
        subst (λ (x : ReclaimAll × Settled (Node K V)). GivesOr x.1) (sym inner.1) (within_gives inside behind inner.0 (settle_gives it inner.0 it.stands inner.2))
    reclaiming_gives (at.Takes root block next) s = left_gives root block next s.0 s.1.0 s.2
    reclaiming_gives (at.Heads slot) s = or_none (subst TakesNone (sym s.1.1) tt) end.1
    reclaiming_gives (at.Retakes slot) s = or_none (subst TakesNone (sym s.1.1) tt) end.1
    reclaiming_gives (at.Batches slot) s = or_none (subst TakesNone (sym s.1.1) tt) end.1
    reclaiming_gives (at.Frees slot) s = or_none (subst TakesNone (sym s.1.1) tt) end.1
    reclaiming_gives (at.Roots root) s = or_none (subst TakesNone (sym s.1.1) tt) end.1
    reclaiming_gives (at.Nexts root block) s = or_none (subst TakesNone (sym s.1.1) tt) end.1
    reclaiming_gives (at.Empties root) s = or_none (subst TakesNone (sym s.1.1) tt) end.1
    reclaiming_gives (at.Unuses root) s = or_none (subst TakesNone (sym s.1.1) tt) end.1
    reclaiming_gives at.Over s = or_none (subst TakesNone (sym s.2) tt) end.1

-- a block that was there, and is gone, was taken away
pub taken_gone : {K V : Type 0} (m m2 : Mem (Node K V)) (x : Changed) → LeavesBy m m2 x → (b : ℕ) (value : Node K V) → value_at m b ≡ Some value → value_at m2 b ≡ None → x ≡ changed.Took b
taken_gone m m2 changed.Nothing l b value is gone = absurd (let there = ((l b).there value is).1 in cc (there, gone))
taken_gone m m2 (changed.Wrote place before after) l b value is gone = absurd (let kept = l.2 b in cc (kept, is, gone))
taken_gone m m2 (changed.Made kind x) l b value is gone = elim (cases_eq b x) as (λ _. changed.Made kind x ≡ changed.Took b) [
  | inl e ↦ absurd (let none = ap (value_at m) e ∙ l.0 in cc (none, is))
  | inr ne ↦ absurd (let there = ((l.4 b ne).there value is).1 in cc (there, gone))
]
taken_gone m m2 (changed.Unmade kind) l b value is gone = absurd (let there = ((l b).there value is).1 in cc (there, gone))
taken_gone m m2 (changed.Took x) l b value is gone = elim (cases_eq b x) as (λ _. changed.Took x ≡ changed.Took b) [
  | inl e ↦ ap changed.Took (sym e)
  | inr ne ↦ absurd (let there = ((l.2 b ne).there value is).1 in cc (there, gone))
]
taken_gone m m2 (changed.Roomed bucket had) l b value is gone = absurd (let there = ((l b).there value is).1 in cc (there, gone))

-- A call on one key that has a pair in hand has it still after a step that is none of a row.
use Rattle.std.specs.Prelude.{◌≡◌, ℕ, ◌==◌, nat_lt, Bool, true, false, Option, Some, None, if◌then◌else◌}
use Rattle.std.proofs.Common.{refl, ap, subst, ◌∙◌, inl, inr}
use Rattle.run_places.specs.Given.SeizeWordsOp.{Out, Found}
use Rattle.run_places.specs.Given.SeizeWordsPlan.{Plan, Then, Turn, Do, Now, Seeing, Sure, then_as, plan_as}
use Rattle.run_places.specs.Given.SeizeWordsWord.{block_in}
use Rattle.run_places.specs.Given.SeizeDeclared.rows.settle.Settled.{Settled}
use Rattle.run_places.specs.Given.SeizeDeclared.rows.settle.Settled.TheVariants as settled
use Rattle.owner_facts.proofs.Given.SeizeMemoryWords.Named.{link-block}
use Rattle.run_places.specs.Given.TablesMarks.{link_in}
use Rattle.run_places.specs.Given.TablesNodes.{table_seen}
use Rattle.run_places.specs.Given.TablesDeclared.node.Node.{Node}
use Rattle.run_places.specs.Given.TablesDeclared.table.Table.{Table}
use Rattle.run_places.specs.Given.ResizeDispose.{dispose_plan, disposing}
use Rattle.run_places.specs.Given.ResizeDispose as disposes
use Rattle.run_places.specs.Given.ResizeDeclared.dispose.Dispose.{Dispose}
use Rattle.run_places.specs.Given.ResizeDeclared.dispose.Disposing.{Disposing}
use Rattle.run_places.specs.Given.ResizeDeclared.dispose.Disposing.TheVariants as disposal
use Rattle.run_places.specs.Given.SweepsSweep.{sweep_plan}
use Rattle.run_places.specs.Given.SweepsSweep as sweeps
use Rattle.run_places.specs.Given.ReservesDeclared.sweep.Sweep.{Sweep}
use Rattle.run_places.specs.Given.ReservesDeclared.sweep.Sweeping.{Sweeping}
use Rattle.run_places.specs.Given.ReservesDeclared.sweep.Sweeping.TheVariants as sweeping
use Rattle.run_places.specs.Given.ReservesDeclared.sweep.Swept.{Swept}
use Rattle.run_places.specs.Given.RawCall.{call_plan, plan_at, disposed}
use Rattle.run_places.specs.Given.RawCallPoints.{counted, going, over}
use Rattle.run_places.specs.Given.RawDeclared.machines.answer.Called.{Called}
use Rattle.run_places.specs.Given.RawDeclared.machines.answer.End.TheVariants as ends
use Rattle.run_places.specs.Given.RawDeclared.machines.answer.KeyAnswer.{KeyAnswer}
use Rattle.run_places.specs.Given.RawDeclared.machines.answer.KeyAnswer.TheVariants as answers
use Rattle.run_places.specs.Given.RawDeclared.machines.call.Calling.{Calling}
use Rattle.run_places.specs.Given.RawDeclared.machines.call.Calling.TheVariants as at
use Rattle.run_places.specs.Given.RawDeclared.machines.call.KeyCall.{KeyCall}
use Rattle.run_places.specs.Given.RawDeclared.machines.machine.Machine.TheVariants as kinds
use Rattle.run_places.specs.Given.EffectsDeclared.changed.Changed.TheVariants as changed
use Rattle.run_places.proofs.Given.RuleKeys.Always.{Always, AlwaysOf, always_if, always_steps}
use Rattle.owner_facts.specs.Given.PointsTold.{IsRowOf, IsRowOfCall}
use Rattle.owner_facts.specs.Given.LateToldSweeps.{IsRowOfSweep}
use Rattle.owner_facts.specs.Given.CallersTogether.{OnKey, OverAll}
use Rattle.run_places.proofs.Given.FollowsSteps.{went_to, DidSo, OfNoRow}
use Rattle.run_debts.specs.InHand.{pair_in_disposing, pair_in_calling, pair_in_sweeping, CallsHoldTheirs, SweepsTakePending, SweepsHoldTheirs}
use Rattle.run_debts.proofs.Keys.{steps}
use Rattle.run_debts.proofs.Rest.{sweep_takes, steps as sweep_steps}
use Rattle.run_debts.proofs.Taken.{disposal_word}
use Rattle.run_places.proofs.Given.ScenesTold.{as_step}
use Rattle.owner_facts.specs.Maps.EndingsEnds.{HasMore as IsGoingOn}

-- what is always so of a step is so as a step of its own
module _ {T A B : Type 0} (Q : A → Type 0) (P : B → Type 0) (f : A → B) (turn : (a : A) → Q a → P (f a)) where
  always_then : (rest : Then T A) → Always Q rest → Always P (then_as f rest)
  always_then (Now end) always = turn end always
  always_then (Seeing block rest) always = λ value. always_then (rest value) (always value)
  always_then (Sure fact rest) always = always_then rest always

  pub always_turned : (plan : Plan T A) → AlwaysOf Q plan → AlwaysOf P (plan_as f plan)
  always_turned (Turn rest) always = always_then rest always
  always_turned (Do op rest) always = λ out. always_then (rest out) (always out)

-- the word is of this block
abbrev pub IsOf : ℕ → Option ℕ → Type 0
IsOf block o = (word : ℕ) × (o ≡ Some word) × (block_in word ≡ block)

module _ (K V : Type 0) where
  -- a disposal that has no pair in hand is done
  abbrev pub IsDone : Dispose × Settled (Node K V) → Type 0
  IsDone q = q.1 ≡ settled.Done

  pub dispose_done : (d : Dispose) (stands : Disposing) → (IsRowOf stands → ⊥) → pair_in_disposing d stands ≡ None → AlwaysOf IsDone (disposes.plan_at {K = K} {V = V} d stands)
  dispose_done d (disposal.Settles settle) row e = absurd (row tt)
  dispose_done d (disposal.Defers defer) row e = absurd (row tt)
  dispose_done d disposal.Reads row e = absurd (cc e)
  dispose_done d (disposal.Walks table) row e = absurd (cc e)
  dispose_done d disposal.Over row e = refl

  -- a disposal has its pair in hand, and is not done
  abbrev Keeps : ℕ → Dispose × Settled (Node K V) → Type 0
  Keeps block e = IsOf block (pair_in_disposing e.0 e.0.stands) × IsGoingOn e.1

  module _ (d : Dispose) where
    compared_keeps : (root : ℕ) (table : Table) → Always (Keeps (block_in d.pair)) (disposes.compared {K = K} {V = V} d root table)
    compared_keeps root table = always_if (Keeps (block_in d.pair)) (nat_lt table.turn d.table.turn) _ _ ((d.pair, refl, refl), tt) ((d.pair, refl, refl), tt)

    walked_keeps : (is : IsOf (block_in d.pair) (pair_in_disposing d d.stands)) (table : ℕ) (out : Out (Node K V)) → Always (Keeps (block_in d.pair)) (disposes.walked d table out)
    walked_keeps is table (Found next) = always_if (Keeps (block_in d.pair)) (block_in next == block_in d.table.link) _ _ ((d.pair, refl, refl), tt) ((d.pair, refl, refl), tt)
    walked_keeps is table _ = (is, tt)

    root_keeps : (is : IsOf (block_in d.pair) (pair_in_disposing d d.stands)) (out : Out (Node K V)) → Always (Keeps (block_in d.pair)) (disposes.root_read d out)
    root_keeps is (Found root) = λ value. compared_keeps root (table_seen root value)
    root_keeps is _ = (is, tt)

    dispose_keeps : (p : Disposing) → d.stands ≡ p → (IsRowOf p → ⊥) → (word : ℕ) → pair_in_disposing d p ≡ Some word → AlwaysOf (Keeps (block_in word)) (disposes.plan_at {K = K} {V = V} d p)
    dispose_keeps disposal.Reads stands row word is =
        subst (λ (b : ℕ). AlwaysOf (Keeps b) (disposes.plan_at {K = K} {V = V} d disposal.Reads)) (let same : d.pair ≡ word = cc is in ap block_in same)
        (λ out. root_keeps (d.pair, ap (pair_in_disposing d) stands, refl) out)
    dispose_keeps (disposal.Walks table) stands row word is =
        subst (λ (b : ℕ). AlwaysOf (Keeps b) (disposes.plan_at {K = K} {V = V} d (disposal.Walks table))) (let same : d.pair ≡ word = cc is in ap block_in same)
        (λ out. walked_keeps (d.pair, ap (pair_in_disposing d) stands, refl) table out)
    dispose_keeps (disposal.Settles settle) stands row word is = absurd (row tt)
    dispose_keeps (disposal.Defers defer) stands row word is = absurd (row tt)
    dispose_keeps disposal.Over stands row word is = absurd (cc is)

  module _ (asks same : K → K → Bool) (hash : K → ℕ) (p : KeyCall K V K) where
    abbrev Holds : ℕ → KeyCall K V K × Called (Node K V) → Type 0
    Holds block e = IsOf block (pair_in_calling e.0.stands)

    disposed_holds : (block : ℕ) (answer : KeyAnswer) (q : Dispose × Settled (Node K V)) → Keeps block q → Holds block (disposed p answer q)
    disposed_holds block answer (d, settled.Goes) keeps = keeps.0
    disposed_holds block answer (d, settled.Waits) keeps = keeps.0
    disposed_holds block answer (d, settled.Gave value) keeps = keeps.0
    disposed_holds block answer (d, settled.Done) keeps = absurd keeps.1

    counted_holds : (removed word : ℕ) → (if removed == 0 then None else Some removed) ≡ Some word → Holds (block_in word) (counted p removed)
    counted_holds removed word is = by (removed == 0) is
      where
        by : (q : Bool) → (if q then None else Some removed) ≡ Some word
            → Holds (block_in word) (if q then over p (ends.Answered (answers.Stored p.own)) else going p (at.Disposes (disposing p.setting removed p.trial.table) (answers.Removed removed)))
        by true e = absurd (cc e)
        by false e = (
          link_in removed,
          disposal_word (disposing p.setting removed p.trial.table) removed (p.setting, p.trial.table, refl),
          link-block (block_in removed) ∙ (let same_word : removed ≡ word = cc e in ap block_in same_word),
        )

    call_holds : (stands : Calling) → (IsRowOfCall stands → ⊥) → (word : ℕ) → pair_in_calling stands ≡ Some word → AlwaysOf (Holds (block_in word)) (plan_at asks same hash p stands)
    call_holds (at.Counts removed) row word is = λ out. counted_holds removed word is
    call_holds (at.Disposes dispose answer) row word is =
        always_turned (Keeps (block_in word)) (Holds (block_in word)) (disposed p answer) (disposed_holds (block_in word) answer) (dispose_plan dispose) (dispose_keeps dispose dispose.stands refl row word is)
    call_holds _ row word is = absurd (cc is)

module _ (K V : Type 0) (hash : K → ℕ) (p : Sweep) where
  abbrev SweepHolds : ℕ → Sweep × Swept (Node K V) → Type 0
  SweepHolds block e = IsOf block (pair_in_sweeping e.0.stands)

  disposed_sweep : (block : ℕ) (q : Dispose × Settled (Node K V)) → Keeps K V block q → SweepHolds block (sweeps.disposed p q)
  disposed_sweep block (d, settled.Goes) keeps = keeps.0
  disposed_sweep block (d, settled.Waits) keeps = keeps.0
  disposed_sweep block (d, settled.Gave value) keeps = keeps.0
  disposed_sweep block (d, settled.Done) keeps = absurd keeps.1

  sweep_holds : (stands : Sweeping) → (IsRowOfSweep stands → ⊥) → (word : ℕ) → pair_in_sweeping stands ≡ Some word → AlwaysOf (SweepHolds (block_in word)) (sweeps.plan_at {V = V} hash p stands)
  sweep_holds (sweeping.Counts removed) row word is = λ out. (
    link_in removed,
    disposal_word (disposing p.setting removed p.table) removed (p.setting, p.table, refl),
    link-block (block_in removed) ∙ (let same_word : removed ≡ word = cc is in ap block_in same_word),
  )
  sweep_holds (sweeping.Disposes dispose) row word is =
      always_turned (Keeps K V (block_in word)) (SweepHolds (block_in word)) (sweeps.disposed p) (disposed_sweep (block_in word)) (dispose_plan dispose) (dispose_keeps K V dispose dispose.stands refl row word is)
  sweep_holds _ row word is = absurd (cc is)

pub calls_hold_theirs : (K V : Type 0) (same : K → K → Bool) (hash : ℕ → K → ℕ) → CallsHoldTheirs K V same hash
calls_hold_theirs K V same hash name m known s old new at_old shown map i x under_way said leads none word is =
    by (went_to same hash name m known s old new at_old shown map i (OnKey x) under_way said leads).4.did none
  where
    by : (did_so : DidSo same hash name m known s old new at_old shown map i (OnKey x) under_way said leads (OnKey x)) → OfNoRow same hash name m known s old new at_old shown map i (OnKey x) under_way said leads (OnKey x) did_so
        → (q : KeyCall K V K) × ((went_to same hash name m known s old new at_old shown map i (OnKey x) under_way said leads).1 ≡ kinds.Key q) × (word2 : ℕ) × (pair_in_calling q.stands ≡ Some word2)
        × (block_in word2 ≡ block_in word)
    by (p2, end, machine_is, told_is, inl (step, moved)) none =
        let it = always_steps (Holds K V same same (leads map (OnKey x) under_way).0.hash x.call (block_in word)) old.memory new.memory (call_plan same same (leads map (OnKey x) under_way).0.hash x.call) (p2, end)
        (call_holds K V same same (leads map (OnKey x) under_way).0.hash x.call x.call.stands step.no_row word is)
        (as_step old.memory changed.Nothing (call_plan same same (leads map (OnKey x) under_way).0.hash x.call) new.memory new.changed (p2, end)
        (steps same hash name m known s old new at_old shown map i x under_way said leads p2 end machine_is told_is)) in
        (p2, machine_is, it.0, it.1, it.2)
    by (p2, end, machine_is, told_is, inr row) none = absurd none

pub sweeps_take_in_hand : (K V : Type 0) (same : K → K → Bool) (hash : ℕ → K → ℕ) → SweepsTakePending K V same hash
sweeps_take_in_hand K V same hash name m known s old new at_old shown map i x under_way said leads none p are =
    sweep_takes same hash name m known s old new at_old shown map i (OverAll x) under_way said leads x refl
    (went_to same hash name m known s old new at_old shown map i (OverAll x) under_way said leads).4.did none p are

pub sweeps_hold_theirs : (K V : Type 0) (same : K → K → Bool) (hash : ℕ → K → ℕ) → SweepsHoldTheirs K V same hash
sweeps_hold_theirs K V same hash name m known s old new at_old shown map i x under_way said leads none word is =
    by (went_to same hash name m known s old new at_old shown map i (OverAll x) under_way said leads).4.did none
  where
    by : (did_so : DidSo same hash name m known s old new at_old shown map i (OverAll x) under_way said leads (OverAll x)) → OfNoRow same hash name m known s old new at_old shown map i (OverAll x) under_way said leads (OverAll x) did_so
        → (q : Sweep) × ((went_to same hash name m known s old new at_old shown map i (OverAll x) under_way said leads).1 ≡ kinds.Sweep q) × (word2 : ℕ) × (pair_in_sweeping q.stands ≡ Some word2)
        × (block_in word2 ≡ block_in word)
    by (p2, end, machine_is, told_is, inl (step, moved)) none =
        let it = always_steps (SweepHolds K V (leads map (OverAll x) under_way).0.hash x.sweep (block_in word)) old.memory new.memory (sweep_plan (leads map (OverAll x) under_way).0.hash x.sweep) (p2, end)
        (sweep_holds K V (leads map (OverAll x) under_way).0.hash x.sweep x.sweep.stands step.no_row word is)
        (as_step old.memory changed.Nothing (sweep_plan (leads map (OverAll x) under_way).0.hash x.sweep) new.memory new.changed (p2, end)
        (sweep_steps same hash name m known s old new at_old shown map i (OverAll x) under_way said leads x refl p2 end machine_is told_is)) in
        (p2, machine_is, it.0, it.1, it.2)
    by (p2, end, machine_is, told_is, inr row) none = absurd none

-- A step of a call under way, whichever its kind, leaves each block somebody's behind which something may be put.
use Rattle.std.specs.Prelude.{Option, Some, None}
use Rattle.std.proofs.Common.{◌≡◌, ℕ, ◌≤◌, ◌<◌, Bool, inl, inr, refl, arith, ap, sym, subst, ◌∙◌}
use Rattle.run_shows.specs.Given.SeizeWordsMem.{Mem, Took, value_at}
use Rattle.run_shows.specs.Given.SeizeWordsPlan.{Plan, Steps}
use Rattle.run_shows.specs.Given.SeizeWorld.{World}
use Rattle.seize_acts.proofs.Given.SeizeRuleRows.Leaving.{steps_back}
use Rattle.run_shows.specs.Given.TablesDeclared.node.Node.{Node}
use Rattle.run_shows.specs.Given.ResizeDeclared.yielding.Yielding.{Yielding}
use Rattle.run_shows.specs.Given.ResizeDeclared.yielding.Yielding.TheVariants as outcome
use Rattle.run_shows.specs.Given.ReservesReserve.{reserve_plan}
use Rattle.run_shows.specs.Given.ReservesDeclared.reserve.Reserve.{Reserve}
use Rattle.run_shows.specs.Given.SweepsSweep.{sweep_plan}
use Rattle.run_shows.specs.Given.ReservesDeclared.sweep.Sweep.{Sweep}
use Rattle.run_shows.specs.Given.ReservesDeclared.sweep.Swept.{Swept}
use Rattle.run_shows.specs.Given.ReservesDeclared.sweep.Swept.TheVariants as swept_as
use Rattle.run_shows.specs.Given.RawCall.{call_plan}
use Rattle.run_shows.specs.Given.RawMachine.{machine_plan, called, reserved, swept}
use Rattle.run_shows.specs.Given.RawProgress.{of_called, of_outcome, of_swept}
use Rattle.run_shows.specs.Given.ResizeDeclared.copier.Copier.{Copier}
use Rattle.run_shows.specs.Given.ResizeDeclared.sum.Sum.{Sum}
use Rattle.run_shows.specs.Given.RawDeclared.machines.answer.Called.{Called}
use Rattle.run_shows.specs.Given.RawDeclared.machines.answer.Called.TheVariants as called_as
use Rattle.run_shows.specs.Given.RawDeclared.machines.call.KeyCall.{KeyCall}
use Rattle.run_shows.specs.Given.RawDeclared.machines.machine.Machine.{Machine}
use Rattle.run_shows.specs.Given.RawDeclared.machines.machine.Machine.TheVariants as kinds
use Rattle.run_shows.specs.Given.RawDeclared.machines.progress.Answer.TheVariants as answers
use Rattle.run_shows.specs.Given.RawDeclared.machines.progress.Progress.{Progress}
use Rattle.run_shows.specs.Given.RawDeclared.machines.progress.Progress.TheVariants as progress
use Rattle.owner_facts.specs.Given.CallersTogether.{UnderWay, OnKey, ForRoom, Counting, OverAll, next_of_counting}
use Rattle.owner_facts.specs.Given.FinishesEndings.{Finishing, EndingsTogether}
use Rattle.owner_facts.specs.Given.FinishesMachines.{DidOfKind, machine_of}
use Rattle.owner_facts.specs.Given.FinishesMakings.{Beginning}
use Rattle.owner_facts.specs.Given.FinishesMaps.{Standing, IsSameMap, with_call}
use Rattle.run_shows.specs.Reclaims.Deferred.{IsLinkedTable}
use Rattle.many_acts.specs.Carries.Theirs.{copier_of, IsTheirs, AllAreTheirs}
use Rattle.many_acts.proofs.Carries.Guards.{theirs_by, same_on}
use Rattle.many_acts.proofs.Carries.Owed.{one_some, StandsOn, StandsOnAt, owed_on, owed_with}
use Rattle.many_acts.proofs.Carries.Promised.{calls_keep_theirs}
use Rattle.many_acts.proofs.Carries.Rooms.{rooms_keep_theirs}
use Rattle.many_acts.proofs.Carries.Sweeps.{sweeps_keep_theirs}
use Rattle.many_acts.proofs.Carries.Within.{rows_keep_theirs, room_rows_keep_theirs, sweep_rows_keep_theirs}

-- how far a call is tells how far its machine is, and that tells it
module _ {T : Type 0} where
  abbrev as_called : Progress T → Called T
  as_called progress.Waits = called_as.Waits
  as_called (progress.Gave value) = called_as.Gave value
  as_called (progress.Unstored value) = called_as.Unstored value
  as_called (progress.Asks pair) = called_as.Asks pair
  as_called (progress.Done (answers.Key answer)) = called_as.Done answer
  as_called (progress.Refused fault) = called_as.Refused fault
  as_called _ = called_as.Goes

  called_back : (x : Called T) → as_called (of_called x) ≡ x
  called_back called_as.Goes = refl
  called_back called_as.Waits = refl
  called_back (called_as.Gave value) = refl
  called_back (called_as.Unstored value) = refl
  called_back (called_as.Asks pair) = refl
  called_back (called_as.Done answer) = refl
  called_back (called_as.Refused fault) = refl

  abbrev as_outcome : Progress T → Yielding T Unit
  as_outcome progress.Waits = outcome.Waits
  as_outcome (progress.Gave value) = outcome.Gave value
  as_outcome (progress.Done answer) = outcome.Done tt
  as_outcome (progress.Refused fault) = outcome.Refused fault
  as_outcome _ = outcome.Goes

  outcome_back : (x : Yielding T Unit) → as_outcome (of_outcome x) ≡ x
  outcome_back outcome.Goes = refl
  outcome_back outcome.Waits = refl
  outcome_back (outcome.Gave value) = refl
  outcome_back (outcome.Done end) = refl
  outcome_back (outcome.Refused fault) = refl

  abbrev as_swept : Progress T → Swept T
  as_swept progress.Waits = swept_as.Waits
  as_swept (progress.Gave value) = swept_as.Gave value
  as_swept progress.Ready = swept_as.Ready
  as_swept (progress.Pair pair) = swept_as.Pair pair
  as_swept (progress.Asks (Some pair)) = swept_as.Asks pair
  as_swept (progress.Done answer) = swept_as.Done
  as_swept (progress.Refused fault) = swept_as.Refused fault
  as_swept _ = swept_as.Goes

  swept_back : (x : Swept T) → as_swept (of_swept x) ≡ x
  swept_back swept_as.Goes = refl
  swept_back swept_as.Waits = refl
  swept_back (swept_as.Gave value) = refl
  swept_back swept_as.Ready = refl
  swept_back (swept_as.Pair pair) = refl
  swept_back (swept_as.Asks pair) = refl
  swept_back swept_as.Done = refl
  swept_back (swept_as.Refused fault) = refl

-- what has one result has one argument
one_back : {A B : Type 0} (f : A → B) (back : B → A) → ((x : A) → back (f x) ≡ x) → (x y : A) → f x ≡ f y → x ≡ y
one_back f back is x y e = sym (is x) ∙ ap back e ∙ is y

same_key : {K V Q : Type 0} (a b : KeyCall K V Q) → ◌≡◌ {A = Machine K V Q} (kinds.Key a) (kinds.Key b) → a ≡ b
same_key a b e = cc e

same_reserve : {K V Q : Type 0} (a b : Reserve) → ◌≡◌ {A = Machine K V Q} (kinds.Reserve a) (kinds.Reserve b) → a ≡ b
same_reserve a b e = cc e

same_sweep : {K V Q : Type 0} (a b : Sweep) → ◌≡◌ {A = Machine K V Q} (kinds.Sweep a) (kinds.Sweep b) → a ≡ b
same_sweep a b e = cc e

-- the step of a machine is one of its call
module _ {K V Q : Type 0} (asks : Q → K → Bool) (same : K → K → Bool) (hash : K → ℕ) (m m2 : Mem (Node K V)) (machine : Machine K V Q) (told : Progress (Node K V)) where
  steps_at : {A B : Type 0} (plan : Plan (Node K V) (A × B)) (a a2 : A) (b b2 : B) → a ≡ a2 → b ≡ b2 → Steps Took value_at m plan m2 (a, b) → Steps Took value_at m plan m2 (a2, b2)
  steps_at {A} {B} plan a a2 b b2 e f s = subst (λ (x : A). Steps Took value_at m plan m2 (x, b2)) e (subst (λ (y : B). Steps Took value_at m plan m2 (a, y)) f s)

  key_steps : (p p2 : KeyCall K V Q) (end : Called (Node K V)) → machine ≡ kinds.Key p2 → told ≡ of_called end
      → Steps Took value_at m (machine_plan asks same hash (kinds.Key p)) m2 (machine, told) → Steps Took value_at m (call_plan asks same hash p) m2 (p2, end)
  key_steps p p2 end is tells s =
      let d = steps_back called m m2 (call_plan asks same hash p) (machine, told) s in
      steps_at (call_plan asks same hash p) d.0.0 p2 d.0.1 end
      (same_key d.0.0 p2 (sym (ap (λ (x : Machine K V Q × Progress (Node K V)). x.0) d.2) ∙ is))
      (one_back of_called as_called called_back d.0.1 end (sym (ap (λ (x : Machine K V Q × Progress (Node K V)). x.1) d.2) ∙ tells)) d.1

  room_steps : (p p2 : Reserve) (end : Yielding (Node K V) Unit) → machine ≡ kinds.Reserve p2 → told ≡ of_outcome end
      → Steps Took value_at m (machine_plan asks same hash (kinds.Reserve p)) m2 (machine, told) → Steps Took value_at m (reserve_plan hash p) m2 (p2, end)
  room_steps p p2 end is tells s =
      let d = steps_back reserved m m2 (reserve_plan hash p) (machine, told) s in
      steps_at (reserve_plan hash p) d.0.0 p2 d.0.1 end
      (same_reserve {K = K} {V = V} {Q = Q} d.0.0 p2 (sym (ap (λ (x : Machine K V Q × Progress (Node K V)). x.0) d.2) ∙ is))
      (one_back of_outcome as_outcome outcome_back d.0.1 end (sym (ap (λ (x : Machine K V Q × Progress (Node K V)). x.1) d.2) ∙ tells)) d.1

  sweep_steps : (p p2 : Sweep) (end : Swept (Node K V)) → machine ≡ kinds.Sweep p2 → told ≡ of_swept end
      → Steps Took value_at m (machine_plan asks same hash (kinds.Sweep p)) m2 (machine, told) → Steps Took value_at m (sweep_plan hash p) m2 (p2, end)
  sweep_steps p p2 end is tells s =
      let d = steps_back swept m m2 (sweep_plan hash p) (machine, told) s in
      steps_at (sweep_plan hash p) d.0.0 p2 d.0.1 end
      (same_sweep {K = K} {V = V} {Q = Q} d.0.0 p2 (sym (ap (λ (x : Machine K V Q × Progress (Node K V)). x.0) d.2) ∙ is))
      (one_back of_swept as_swept swept_back d.0.1 end (sym (ap (λ (x : Machine K V Q × Progress (Node K V)). x.1) d.2) ∙ tells)) d.1

-- no copier is within a counting
none_within : (K V Q : Type 0) (sum : Sum) (p : Copier) → copier_of {K = K} {V = V} {Q = Q} (Counting sum) ≡ Some p → ⊥
none_within K V Q sum p is = cc is

module _ {K Q : Type 0} (V : Type 0) (same : K → K → Bool) (asks : Q → K → Bool) (batch_size roots : ℕ) (slot : ℕ → ℕ)
    (w : World (Node K V)) (maps : ℕ → Option (Standing K)) (calls : ℕ → ℕ → Option (UnderWay K V Q)) (makers : ℕ → Option (Beginning K)) (enders : ℕ → Option (Finishing K V))
    (all : EndingsTogether V same asks batch_size roots slot w maps calls makers enders) (theirs : AllAreTheirs w maps calls enders)
    (m : ℕ) (s : Standing K) (here : maps m ≡ Some s) (i : ℕ) (m2 : Mem (Node K V)) (w2 : World (Node K V)) (maps2 : ℕ → Option (Standing K)) (next : Option (UnderWay K V Q)) where
  abbrev Then : Type 0
  Then = AllAreTheirs w2 maps2 (with_call calls m i next) enders

  -- it has come to just this
  come : (v : World (Node K V)) (maps3 : ℕ → Option (Standing K)) (it : Option (UnderWay K V Q)) → (w2 ≡ v) × (maps2 ≡ maps3) × (next ≡ it) → AllAreTheirs v maps3 (with_call calls m i it) enders → Then
  come v maps3 it (e, f, k) so =
      subst (λ (x : World (Node K V)). AllAreTheirs x maps2 (with_call calls m i next) enders) (sym e)
      (subst (λ (x : ℕ → Option (Standing K)). AllAreTheirs v x (with_call calls m i next) enders) (sym f)
      (subst (λ (x : Option (UnderWay K V Q)). AllAreTheirs v maps3 (with_call calls m i x) enders) (sym k) so))

  -- two ways in which a map stands as it stood have the same tables
  linked_alike : (v : World (Node K V)) (maps3 : ℕ → Option (Standing K)) (n : ℕ) (o : Option (Standing K)) → IsSameMap o (maps3 n) → IsSameMap o (maps2 n) → (r : Standing K) → maps3 n ≡ Some r
      → (b t : ℕ) → r.chart.first ≤ t → t < r.chart.past → b ≡ r.blocks.table t → IsLinkedTable v maps2 b
  linked_alike v maps3 n None one other r is b t from made at = absurd (cc (one, is))
  linked_alike v maps3 n (Some was) (blocks3, sights3, is3, part3) (blocks4, sights4, is4, part4) r is b t from made at =
      let e = one_some (maps3 n) (record was { blocks = blocks3; sights = sights3 }) r is3 is in (
        n,
        record was { blocks = blocks4; sights = sights4 },
        is4,
        t,
        subst (λ (x : Standing K). x.chart.first ≤ t) (sym e) from,
        subst (λ (x : Standing K). t < x.chart.past) (sym e) made,
        at ∙ ap (λ (x : Standing K). x.blocks.table t) (sym e) ∙ part3.tables t ∙ sym (part4.tables t),
      )

  alike_on : (maps3 : ℕ → Option (Standing K)) (n : ℕ) (o : Option (Standing K)) → IsSameMap o (maps3 n) → IsSameMap o (maps2 n) → StandsOnAt maps3 maps2 n
  alike_on maps3 n None one other r is = absurd (cc (one, is))
  alike_on maps3 n (Some was) (blocks3, sights3, is3, part3) (blocks4, sights4, is4, part4) r is =
      let e = one_some (maps3 n) (record was { blocks = blocks3; sights = sights3 }) r is3 is in (
        record was { blocks = blocks4; sights = sights4 },
        is4,
        subst (λ (x : Standing K). StandsOn x (record was { blocks = blocks4; sights = sights4 })) e
            (record { mode = refl; past = omega arith; tables = λ t made. part4.tables t ∙ sym (part3.tables t) }),
      )

  -- or to this, with its maps as they were
  stay : (v : World (Node K V)) (maps3 : ℕ → Option (Standing K)) (it : Option (UnderWay K V Q)) → ((n : ℕ) → IsSameMap (maps n) (maps3 n)) → (w2 ≡ v) × ((n : ℕ) → IsSameMap (maps n) (maps2 n)) × (next ≡ it)
      → AllAreTheirs v maps3 (with_call calls m i it) enders → Then
  stay v maps3 it same3 (e, same2, k) so = come v maps2 it (e, refl, k) (λ b can. by b (so b can))
    where
      by : (b : ℕ) → IsTheirs v maps3 (with_call calls m i it) enders b → IsTheirs v maps2 (with_call calls m i it) enders b
      by b (inl (n, r, is, t, from, made, at)) = inl (linked_alike v maps3 n (maps n) (same3 n) (same2 n) r is b t from made at)
      by b (inr (inl owed)) = inr (inl (owed_on v v maps3 maps2 (with_call calls m i it) enders enders b (λ n j u under. ((λ rests. rests), alike_on maps3 n (maps n) (same3 n) (same2 n))) owed))
      by b (inr (inr ending)) = inr (inr ending)

  pub kind_theirs : (u : UnderWay K V Q) → calls m i ≡ Some u → (machine : Machine K V Q) (told : Progress (Node K V)) → Steps Took value_at w.memory (machine_plan asks same s.hash (machine_of u)) m2 (machine, told)
      → DidOfKind V same asks batch_size roots slot w maps calls makers enders m s i m2 w2 maps2 next u machine told → Then
  kind_theirs (OnKey u) has machine told steps (p2, end, is, tells, inl (st, moved)) =
      come _ _ _ moved (calls_keep_theirs V same asks batch_size roots slot w maps calls makers enders all theirs m s here i u has st.no_row m2 p2 end
      (key_steps asks same s.hash w.memory m2 machine told u.call p2 end is tells steps) st)
  kind_theirs (OnKey u) has machine told steps (p2, end, is, tells, inr (st, stayed)) =
      stay st.step.w2 st.together.0 _ st.together.1 stayed (rows_keep_theirs V same asks batch_size roots slot w maps calls makers enders all theirs m s here i u has st.is_row m2 p2 end
      (key_steps asks same s.hash w.memory m2 machine told u.call p2 end is tells steps) st)
  kind_theirs (ForRoom r) has machine told steps (p2, end, is, tells, inl (st, moved)) =
      come _ _ _ moved (rooms_keep_theirs V same asks batch_size roots slot w maps calls makers enders all theirs m s here i r has st.no_row m2 p2 end
      (room_steps asks same s.hash w.memory m2 machine told r.reserve p2 end is tells steps) st)
  kind_theirs (ForRoom r) has machine told steps (p2, end, is, tells, inr (st, stayed)) =
      stay st.step.w2 st.together.0 _ st.together.1 stayed (room_rows_keep_theirs V same asks batch_size roots slot w maps calls makers enders all theirs m s here i r has st.is_row m2 p2 end
      (room_steps asks same s.hash w.memory m2 machine told r.reserve p2 end is tells steps) st)
  kind_theirs (Counting sum) has machine told steps (sum2, end, is, tells, still, (e, same2, k)) = come w maps2 (next_of_counting sum2 end) (e, refl, k) (λ b can.
      theirs_by w w maps maps2 calls enders (with_call calls m i (next_of_counting sum2 end)) same2 b
      (owed_with w w maps maps2 calls enders enders m i (next_of_counting sum2 end) b (λ n j v under ne. ((λ rests. rests), same_on w w maps maps2 calls enders n (same2 n)))
      (λ v under owes. absurd (none_within K V Q sum owes.0 (subst (λ (x : UnderWay K V Q). copier_of x ≡ Some owes.0) (one_some (calls m i) v (Counting sum) under has) owes.1)))) (theirs b can))
  kind_theirs (OverAll o) has machine told steps (p2, end, is, tells, inl (st, moved)) =
      come _ _ _ moved (sweeps_keep_theirs V same asks batch_size roots slot w maps calls makers enders all theirs m s here i o has st.no_row m2 p2 end
      (sweep_steps asks same s.hash w.memory m2 machine told o.sweep p2 end is tells steps) st)
  kind_theirs (OverAll o) has machine told steps (p2, end, is, tells, inr (st, stayed)) =
      stay st.step.w2 st.together.0 _ st.together.1 stayed (sweep_rows_keep_theirs V same asks batch_size roots slot w maps calls makers enders all theirs m s here i o has st.is_row m2 p2 end
      (sweep_steps asks same s.hash w.memory m2 machine told o.sweep p2 end is tells steps) st)

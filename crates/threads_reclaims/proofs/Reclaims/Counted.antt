-- Reclaiming all ends within a number of steps: each step is the only one that can be taken.
use Rattle.std.specs.Prelude.{Option, Some, None, nat_lt, ◌==◌, if◌then◌else◌}
use Rattle.std.proofs.Common.{◌≡◌, ℕ, suc, ◌<◌, ◌^◌, Bool, true, false, List, refl, sym, subst, ap, ◌∙◌}
use Rattle.seize_words.specs.OneMemory.Op.{Op, Out, Make, Room, Found, Stored, Exchanged, Made, Taken, Roomed}
use Rattle.std.specs.Option.{is_none}
use Rattle.seize_words.specs.OneMemory.Mem.{Mem, Took, value_at}
use Rattle.seize_words.specs.OneMemory.Plan.{Plan, Then, Turn, Do, Now, Seeing, Sure, Ends, Steps, then_as, plan_as}
use Rattle.seize.specs.declared.rows.leave.Leave.{Leave}
use Rattle.seize.specs.declared.rows.leave.Leaving.{Leaving}
use Rattle.seize.specs.declared.rows.leave.Leaving.TheVariants as leaving_at
use Rattle.seize.specs.declared.rows.settle.Settle.{Settle}
use Rattle.seize.specs.declared.rows.settle.Settling.{Settling}
use Rattle.seize.specs.declared.rows.settle.Settling.TheVariants as settling_at
use Rattle.seize.specs.declared.rows.settle.Settled.{Settled}
use Rattle.seize.specs.declared.rows.settle.Settled.TheVariants as settled
use Rattle.seize.specs.declared.rows.reclaim_all.ReclaimAll.{ReclaimAll}
use Rattle.seize.specs.declared.rows.reclaim_all.Reclaiming.{Reclaiming}
use Rattle.seize.specs.declared.rows.reclaim_all.Reclaiming.TheVariants as at
use Rattle.seize.specs.Leave as leave
use Rattle.seize.specs.Settle as settle
use Rattle.seize.specs.declared.states.TheConstants.{ACTIVE, NEVER, FREE}
use Rattle.seize.specs.ReclaimAll.{standing, next_head, next_batch, within, head_read, batch_read, root_read, next_read, given_back, plan_at, reclaim_all_plan}
use Rattle.map_tables.specs.Nodes.{deferred_word, was_left}
use Rattle.map_tables.specs.declared.node.Node.{Node}
use Rattle.many_acts.specs.Given.ScenesScene.{Scene}
use Rattle.many_acts.specs.Acts.Reclaiming.{IsReclaimingAll}
use Rattle.many_acts.proofs.Acts.Reclaiming.{reclaiming_is_by_acts}
use Rattle.run_shows.specs.Reclaims.Ends.{Terminates, Comes}
use Rattle.run_shows.proofs.Reclaims.Ends.All.{reclaiming_ends}
use Rattle.seize_acts.specs.Acts.Answers.{Grant, stepped}
use Rattle.seize_acts.proofs.Acts.Answers.{was_stepped}
use Rattle.seize_acts.proofs.Acts.Steps.{steps_so}
use Rattle.threads_reclaims.specs.Reclaims.Rule.{EndsIn}
use Rattle.seize_words.proofs.General.{same_some}

-- the memory has no choice how to answer it
abbrev IsSure : {T : Type 0} → Op T → Type 0
IsSure (Make value words) = ⊥
IsSure (Room bucket) = ⊥
IsSure _ = Unit {0}

abbrev IsSurePlan : {T R : Type 0} → Plan T R → Type 0
IsSurePlan (Turn rest) = Unit {0}
IsSurePlan (Do op rest) = IsSure op

sure_as : {T A B : Type 0} (f : A → B) (plan : Plan T A) → IsSurePlan plan → IsSurePlan (plan_as f plan)
sure_as f (Turn rest) sure = tt
sure_as f (Do op rest) sure = sure

module _ {T R : Type 0} (m : Mem T) (g : Grant) where
  by_op : (op : Op T) (rest : _) → IsSure op → stepped {R = R} m g (Do op rest) ≡ stepped m None (Do op rest)
  by_op (Make value words) rest sure = absurd sure
  by_op (Room bucket) rest sure = absurd sure
  by_op _ rest sure = refl

  any_grant : (plan : Plan T R) → IsSurePlan plan → stepped m g plan ≡ stepped m None plan
  any_grant (Turn rest) sure = refl
  any_grant (Do op rest) sure = by_op op rest sure

module _ {T : Type 0} (defers : T → Option ℕ) (left_over : T → Bool) where
  settle_sure : (c : Settle) (p : Settling) → IsSurePlan (settle.plan_at defers c p)
  settle_sure c settling_at.Over = tt
  settle_sure c _ = tt

  leave_sure : (c : Leave) (p : Leaving) → IsSurePlan (leave.plan_at defers c p)
  leave_sure c leaving_at.Swaps = tt
  leave_sure c (leaving_at.Settles s) = sure_as (leave.settled c) (settle.settle_plan defers s) (settle_sure s s.stands)
  leave_sure c leaving_at.Frees = tt
  leave_sure c leaving_at.Over = tt

  all_sure : (c : ReclaimAll) (p : Reclaiming) → IsSurePlan (plan_at defers left_over c p)
  all_sure c (at.Leaves s l) = sure_as (within (λ d. standing c (at.Leaves s d)) (next_head c s)) (leave.leave_plan defers l) (leave_sure l l.stands)
  all_sure c (at.Flushes s l) = sure_as (within (λ d. standing c (at.Flushes s d)) (next_batch (record c { again = true }) s)) (settle.settle_plan defers l) (settle_sure l l.stands)
  all_sure c _ = tt

-- ---- it tells that it has ended where it is over alone
abbrev NotDone : {T R : Type 0} → Then T (R × Settled T) → Type 0
NotDone {T} {R} rest = (shown : ℕ → Option T) (end : R × Settled T) → Ends shown rest end → end.1 ≡ settled.Done → ⊥

module _ {T R : Type 0} where
  goes_now : (r : R × Settled T) → (r.1 ≡ settled.Done → ⊥) → NotDone (Now r)
  goes_now r never shown end e done = never (sym (ap (λ (x : R × Settled T). x.1) e) ∙ done)

  either : (b : Bool) (x y : Then T (R × Settled T)) → NotDone x → NotDone y → NotDone (if b then x else y)
  either true x y p q = p
  either false x y p q = q

module _ {T R : Type 0} (inside : R → ReclaimAll) (behind : ReclaimAll) where
  within_not : (row : R) (told : Settled T) → (within inside behind (row, told)).1 ≡ settled.Done → ⊥
  within_not row settled.Goes e = cc e
  within_not row settled.Waits e = cc e
  within_not row (settled.Gave value) e = cc e
  within_not row settled.Done e = cc e

  as_not : (rest : Then T (R × Settled T)) → NotDone (then_as (within inside behind) rest)
  as_not (Now r) = goes_now (within inside behind r) (within_not r.0 r.1)
  as_not (Seeing block rest) = λ shown end e. as_not (rest e.0) shown end e.2
  as_not (Sure fact rest) = λ shown end e. as_not rest shown end e

module _ {T : Type 0} (defers : T → Option ℕ) (left_over : T → Bool) where
  abbrev End : Type 0
  End = ReclaimAll × Settled T

  goes : (c : ReclaimAll) → NotDone {T = T} (Now (c, settled.Goes))
  goes c = goes_now (c, settled.Goes) (λ e. cc e)

  head_not : (c : ReclaimAll) (s : ℕ) (o : Out T) → NotDone (head_read c s o)
  head_not c s (Found head) = either (head == NEVER) _ _ (goes _) (either (head == FREE) _ _ (goes _) (either (nat_lt head ACTIVE) _ _ (goes _) (goes _)))
  head_not c s Stored = goes c
  head_not c s (Taken x) = goes c
  head_not c s (Exchanged r) = goes c
  head_not c s (Made r) = goes c
  head_not c s (Roomed r) = goes c

  batch_not : (c : ReclaimAll) (s : ℕ) (o : Out T) → NotDone (batch_read c s o)
  batch_not c s (Found last) = either (last == 0) _ _ (goes _) (goes _)
  batch_not c s Stored = goes c
  batch_not c s (Taken x) = goes c
  batch_not c s (Exchanged r) = goes c
  batch_not c s (Made r) = goes c
  batch_not c s (Roomed r) = goes c

  root_not : (c : ReclaimAll) (root : ℕ) (o : Out T) → NotDone (root_read left_over c root o)
  root_not c root (Found block) = either (block == 0) _ _ (goes _) (λ shown end e. either (left_over e.0) _ _ (goes _) (goes _) shown end e.2)
  root_not c root Stored = goes c
  root_not c root (Taken x) = goes c
  root_not c root (Exchanged r) = goes c
  root_not c root (Made r) = goes c
  root_not c root (Roomed r) = goes c

  next_not : (c : ReclaimAll) (root block : ℕ) (o : Out T) → NotDone (next_read c root block o)
  next_not c root block (Found w) = goes _
  next_not c root block Stored = goes c
  next_not c root block (Taken x) = goes c
  next_not c root block (Exchanged r) = goes c
  next_not c root block (Made r) = goes c
  next_not c root block (Roomed r) = goes c

  given_not : (c : ReclaimAll) (root next : ℕ) (o : Out T) → NotDone (given_back c root next o)
  given_not c root next (Taken value) = either (next == 0) _ _ (goes_now (_, settled.Gave value) (λ e. cc e)) (goes_now (_, settled.Gave value) (λ e. cc e))
  given_not c root next (Found w) = goes c
  given_not c root next Stored = goes c
  given_not c root next (Exchanged r) = goes c
  given_not c root next (Made r) = goes c
  given_not c root next (Roomed r) = goes c

  module _ (m m2 : Mem T) (end : End) where
    inside_not : {R : Type 0} (inside : R → ReclaimAll) (behind : ReclaimAll) (plan : Plan T (R × Settled T)) → Steps Took value_at m (plan_as (within inside behind) plan) m2 end → end.1 ≡ settled.Done → ⊥
    inside_not inside behind (Turn rest) st = as_not inside behind rest (value_at m2) end st.1
    inside_not inside behind (Do op rest) st = as_not inside behind (rest st.0) (value_at m2) end st.2

    pub not_done : (c : ReclaimAll) (p : Reclaiming) → (p ≡ at.Over → ⊥) → Steps Took value_at m (plan_at defers left_over c p) m2 end → end.1 ≡ settled.Done → ⊥
    not_done c (at.Heads s) on st = head_not c s st.0 (value_at m2) end st.2
    not_done c (at.Retakes s) on st = goes _ (value_at m2) end st.2
    not_done c (at.Leaves s l) on st = inside_not (λ d. standing c (at.Leaves s d)) (next_head c s) (leave.leave_plan defers l) st
    not_done c (at.Batches s) on st = batch_not c s st.0 (value_at m2) end st.2
    not_done c (at.Flushes s l) on st = inside_not (λ d. standing c (at.Flushes s d)) (next_batch (record c { again = true }) s) (settle.settle_plan defers l) st
    not_done c (at.Frees s) on st = goes _ (value_at m2) end st.2
    not_done c (at.Roots root) on st = root_not c root st.0 (value_at m2) end st.2
    not_done c (at.Nexts root b) on st = next_not c root b st.0 (value_at m2) end st.2
    not_done c (at.Takes root b next) on st = given_not c root next st.0 (value_at m2) end st.2
    not_done c (at.Empties root) on st = goes _ (value_at m2) end st.2
    not_done c (at.Unuses root) on st = goes _ (value_at m2) end st.2
    not_done c at.Over on st = absurd (on refl)

module _ {K : Type 0} (V : Type 0) (same : K → K → Bool) (batch_size roots : ℕ) (slot : ℕ → ℕ) (word : batch_size < 2 ^ 64) where
  abbrev plan : ReclaimAll → Plan (Node K V) (ReclaimAll × Settled (Node K V))
  plan c = reclaim_all_plan deferred_word was_left c

  abbrev Outcome : Type 0
  Outcome = Mem (Node K V) × (ReclaimAll × Settled (Node K V))

  abbrev IsCounted : Mem (Node K V) → ReclaimAll → Type 0
  IsCounted m c = (k : ℕ) × EndsIn k m c

  abbrev All : Scene K V → ℕ → (ℕ → List ℕ) → ReclaimAll → Type 0
  All s i lists c = IsReclaimingAll V same batch_size roots slot s i lists c

  -- whoever reclaims all in a scene can take one step
  comes_to : (s : Scene K V) (i : ℕ) (lists : ℕ → List ℕ) (c : ReclaimAll) → All s i lists c → (m2 : Mem (Node K V)) (c2 : ReclaimAll) (told : Settled (Node K V))
      → Steps Took value_at s.world.memory (plan c) m2 (c2, told) → stepped s.world.memory None (plan c) ≡ Some (m2, (c2, told))
  comes_to s i lists c all m2 c2 told st =
      let may = (reclaiming_is_by_acts V same batch_size roots slot word s i lists c all).0 in
      let k = steps_so s.world.memory (plan c) m2 (c2, told) may st in
      sym (any_grant s.world.memory k.0 (plan c) (all_sure deferred_word was_left c c.stands)) ∙ k.1

  -- one more than where its step leads
  module _ (s : Scene K V) (i : ℕ) (lists : ℕ → List ℕ) (c : ReclaimAll) (all : All s i lists c)
      (again : (m2 : Mem (Node K V)) (c2 : ReclaimAll) (told : Settled (Node K V)) → Steps Took value_at s.world.memory (plan c) m2 (c2, told) → (told ≡ settled.Done → ⊥)
      → (s2 : Scene K V) (lists2 : ℕ → List ℕ) → All s2 i lists2 c2 → s2.world.memory ≡ m2 → IsCounted m2 c2) where
    further : (p : Outcome) → stepped s.world.memory None (plan c) ≡ Some p → (c.stands ≡ at.Over → ⊥) → IsCounted p.0 p.1.0
    further p some on =
        let st : Steps Took value_at s.world.memory (plan c) p.0 p.1 = was_stepped s.world.memory None (plan c) p some in
        let a = (reclaiming_is_by_acts V same batch_size roots slot word s i lists c all).2 None (ap is_none some) in
        let d = a.4 in
        let same_end : ◌≡◌ {A = Outcome} (d.memory, (a.3, a.0)) p = same_some (d.memory, (a.3, a.0)) p (sym d.computed ∙ some) in
        let end_is : a.3 ≡ p.1.0 = ap (λ (x : Outcome). x.1.0) same_end in
        again p.0 p.1.0 p.1.1 st (not_done deferred_word was_left s.world.memory p.0 p.1 c c.stands on st) a.1 a.2 (subst (λ (x : ReclaimAll). All a.1 i a.2 x) end_is a.5)
        (ap (λ (x : Scene K V). x.world.memory) d.comes ∙ d.did.memory ∙ ap (λ (x : Outcome). x.0) same_end)

    one_more : (o : Option Outcome) → stepped s.world.memory None (plan c) ≡ o → (c.stands ≡ at.Over → ⊥) → IsCounted s.world.memory c
    one_more None none on = (1, λ is m2 c2 told st. absurd (let k = comes_to s i lists c all m2 c2 told st in cc (none, k)))
    one_more (Some p) some on = let k = further p some on in (
      suc k.0,
      λ is m2 c2 told st.
          subst (λ (r : Outcome). EndsIn k.0 r.0 r.1.0) (same_some p (m2, (c2, told)) (sym some ∙ comes_to s i lists c all m2 c2 told st)) k.1,
    )

    next : (c.stands ≡ at.Over → ⊥) → IsCounted s.world.memory c
    next on = one_more (stepped s.world.memory None (plan c)) refl on

    at_point : (q : Reclaiming) → c.stands ≡ q → IsCounted s.world.memory c
    at_point at.Over is = (0, λ never. never is)
    at_point (at.Heads a) is = next (λ over. cc (is, over))
    at_point (at.Retakes a) is = next (λ over. cc (is, over))
    at_point (at.Leaves a l) is = next (λ over. cc (is, over))
    at_point (at.Batches a) is = next (λ over. cc (is, over))
    at_point (at.Flushes a l) is = next (λ over. cc (is, over))
    at_point (at.Frees a) is = next (λ over. cc (is, over))
    at_point (at.Roots root) is = next (λ over. cc (is, over))
    at_point (at.Nexts root b) is = next (λ over. cc (is, over))
    at_point (at.Takes root b n) is = next (λ over. cc (is, over))
    at_point (at.Empties root) is = next (λ over. cc (is, over))
    at_point (at.Unuses root) is = next (λ over. cc (is, over))

  counted : (m : Mem (Node K V)) (c : ReclaimAll) → Terminates m c → (s : Scene K V) (i : ℕ) (lists : ℕ → List ℕ) → All s i lists c → s.world.memory ≡ m → IsCounted m c
  counted m c (Comes _ _ more) s i lists all e =
      subst (λ (x : Mem (Node K V)). IsCounted x c) e (at_point s i lists c all (λ m2 c2 told st goes s2 lists2 all2 e2. counted m2 c2
      (more m2 c2 told (subst (λ (x : Mem (Node K V)). Steps Took value_at x (plan c) m2 (c2, told)) e st) goes) s2 i lists2 all2 e2) c.stands refl)

  -- IT ENDS WITHIN A NUMBER OF STEPS
  pub ends_in : (s : Scene K V) (i : ℕ) (lists : ℕ → List ℕ) (c : ReclaimAll) → All s i lists c → (k : ℕ) × EndsIn k s.world.memory c
  ends_in s i lists c all =
      counted s.world.memory c (reclaiming_ends V same same batch_size roots slot s.maps s.calls s.makers s.enders s.world i lists c word all) s i lists all refl

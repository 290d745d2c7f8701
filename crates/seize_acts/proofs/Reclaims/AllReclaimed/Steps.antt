-- Reclaiming everything, alone: what each step comes to.
use Rattle.std.specs.Prelude.{Option, IsSome}
use Rattle.std.proofs.Common.{◌≡◌, ℕ, ◌+◌, ◌<◌, ◌≤◌, Bool, true, false, List, [], ◌∷◌, ◌++◌, refl, arith, ap, sym, subst, ◌∙◌}
use Rattle.std.proofs.lemmas.List.{append-nil, append_assoc}
use Rattle.seize_words.specs.declared.at.At.TheVariants as name
use Rattle.seize_words.specs.OneMemory.Mem.{Mem, Took, value_at, word_at, with_word}
use Rattle.seize_words.specs.OneMemory.Plan.{Now, Steps}
use Rattle.seize_words.proofs.OneMemory.OneOwner.Operations.{stored}
use Rattle.seize.specs.declared.states.TheConstants.{HEAD, FREE, IDLE, LAST_SLOT}
use Rattle.seize.specs.declared.advance.Advance.{Advance}
use Rattle.seize.specs.declared.advance.Advance.TheVariants as progress
use Rattle.seize.specs.declared.rows.enter.Unregister.{Unregister}
use Rattle.seize.specs.declared.rows.settle.Settle.{Settle}
use Rattle.seize.specs.declared.rows.settle.Settled.{Settled}
use Rattle.seize.specs.declared.rows.settle.Settled.TheVariants.{Goes, Waits, Gave, Done}
use Rattle.seize.specs.declared.rows.leave.Leave.{Leave}
use Rattle.seize.specs.declared.rows.reclaim_all.ReclaimAll.{ReclaimAll}
use Rattle.seize.specs.declared.rows.reclaim_all.Reclaiming.{Reclaiming}
use Rattle.seize.specs.declared.rows.reclaim_all.Reclaiming.TheVariants as at
use Rattle.seize.specs.Enter.{unregister_plan}
use Rattle.seize.specs.Leave.{leave_plan}
use Rattle.seize.specs.Settle.{settle_plan}
use Rattle.seize.specs.ReclaimAll.{standing, next_head, next_batch, next_free, to, within, plan_at, reclaim_all_plan}
use Rattle.seize.specs.World.{Leaves, Settles, Flush, Leave', Request}
use Rattle.seize.specs.Sequence.{taken_in}
use Rattle.seize_model.specs.declared.calls.WholeCall.TheVariants as call
use Rattle.seize_model.specs.Alone.Alone.{History, IsHistory, at_rest, blocks_in, called, given_back, given_up, registered}
use Rattle.seize_acts.specs.Reclaims.AllReclaimed.{MayReclaimAll, IsAllReclaimed, OnlyReclaims, is_within}
use Rattle.seize_model.proofs.Given.SeizeRuleRows.Leaving.{steps_back}
use Rattle.seize_model.proofs.Given.SeizeRuleWorld.Rested.{Rested}
use Rattle.seize_model.proofs.Sets.Reclaims.Stages.{StageAt, retake_on, leave_on, head_on, flush_on, batch_on, give_up_on}
use Rattle.seize_acts.proofs.Reclaims.AllReclaimed.Calls.{leave_end, flush_end}
use Rattle.seize_acts.proofs.Reclaims.AllReclaimed.Only.{only_retaken, only_given_up}
use Rattle.seize_acts.proofs.Reclaims.AllReclaimed.Points.{SoFar, so_far_more, so_far_quiet, Within, OnSlots, OnRoots, AtSlots, AtRoots, Point, OneStage, arrives}
use Rattle.seize_model.proofs.Alone.Histories.Calls.{history_rested}
use Rattle.seize_acts.proofs.Reclaims.Roots.Cleared.{clear_to_go, comes, Comes}
use Rattle.seize_model.proofs.Alone.Whole.Enter.{unregister_calls, unregister_history}
use Rattle.seize_model.proofs.Alone.Whole.Midway.{taken_append}
use Rattle.seize_model.proofs.Alone.Whole.Retake.{retake_calls, retake_history}
use Rattle.seize_model.proofs.Alone.Whole.Steps.{WholeEnd, call_may, call_told, call_fewer, call_no_more}

module _ {T : Type 0} (defers : T → Option ℕ) (left_over : T → Bool) (batch_size roots : ℕ) (m : Mem T) (h : History) (lists : ℕ → List ℕ)
    (may : MayReclaimAll defers left_over batch_size roots m h lists) where
  abbrev Here : ReclaimAll → Mem T → List T → Type 0
  Here c m2 given = Point defers left_over batch_size roots m h lists c m2 given

  -- what a step comes to
  abbrev pub After : Mem T → List T → ReclaimAll → Mem T → Settled T → Type 0
  After m2 given c m3 Goes = Here c m3 given × (blocks_in m3 ≤ blocks_in m2)
  After m2 given c m3 Waits = Here c m3 given × (blocks_in m3 ≤ blocks_in m2)
  After m2 given c m3 (Gave value) = Here c m3 (given ++ value ∷ []) × (blocks_in m3 < blocks_in m2)
  After m2 given c m3 Done = IsAllReclaimed defers left_over batch_size roots m h lists m3 given

  same_blocks : (m2 m3 : Mem T) → m3 ≡ m2 → blocks_in m3 ≤ blocks_in m2
  same_blocks m2 m3 e = subst (λ (k : Mem T). blocks_in k ≤ blocks_in m2) (sym e) (omega arith)

  -- Whole calls have come there.
  pub record Arrived (c : ReclaimAll) (m4 : Mem T) (given : List T) : Type 0 where
    pub first : IsSome (word_at m (name.Slot 0 HEAD))
    pub h4 : History
    pub so_far : SoFar defers left_over batch_size roots m h lists m4 h4 given
    pub stage : OneStage defers left_over batch_size roots m h lists may c (at_rest defers m4 h4)

  pub arrived : (c : ReclaimAll) (m4 : Mem T) (given : List T) → Arrived c m4 given → Here c m4 given
  arrived c m4 given a = arrives defers left_over batch_size roots m h lists may a.first c m4 a.h4 given a.so_far a.stage

  -- it goes on
  goes_on : (m2 : Mem T) (given : List T) (m3 : Mem T) (end : ReclaimAll × Settled T) (c : ReclaimAll) → end ≡ (c, Goes) → Here c m3 given → blocks_in m3 ≤ blocks_in m2
      → After m2 given end.0 m3 end.1
  goes_on m2 given m3 end c e p le = subst (λ (q : ReclaimAll × Settled T). After m2 given q.0 m3 q.1) (sym e) (p, le)

  -- it has reclaimed nothing since these calls
  none_more : (given before more : List T) → given ≡ before ++ more → more ≡ [] → before ≡ given
  none_more given before more order none = sym (order ∙ ap (λ (l : List T). before ++ l) none ∙ append-nil before)

  module _ (c : ReclaimAll) (m2 : Mem T) (given : List T) (m3 : Mem T) (end : ReclaimAll × Settled T) where
    abbrev OnSlotsAt : Reclaiming → Type 0
    OnSlotsAt p = OnSlots defers left_over batch_size roots m h lists p c m2 given

    resting : (m1 : Mem T) (h1 : History) → IsHistory defers batch_size roots m1 h1 → Rested defers (LAST_SLOT + 1) batch_size (at_rest defers m1 h1)
    resting m1 h1 had = history_rested defers batch_size roots m1 h1 had

    -- whole calls have come there
    come_to : (p : Reclaiming) (x : OnSlotsAt p) (m4 : Mem T) (h4 : History) (given4 : List T) → SoFar defers left_over batch_size roots m h lists m4 h4 given4 → (c4 : ReclaimAll)
        → OneStage defers left_over batch_size roots m h lists may c4 (at_rest defers m4 h4) → given4 ≡ given → Arrived c4 m4 given
    come_to p x m4 h4 given4 s c4 st e = subst (λ (l : List T). Arrived c4 m4 l) e (record { first = x.first; h4 = h4; so_far = s; stage = st })

    -- with one step between two rows
    pub record Walks : Type 0 where
      pub goes : end.1 ≡ Goes
      pub there : Arrived end.0 m3 given
      pub no_more : blocks_in m3 ≤ blocks_in m2

    walks : (c4 : ReclaimAll) → end ≡ (c4, Goes) → Arrived c4 m3 given → blocks_in m3 ≤ blocks_in m2 → Walks
    walks c4 e a le = record {
      goes = ap (λ (q : ReclaimAll × Settled T). q.1) e;
      there = subst (λ (q : ReclaimAll × Settled T). Arrived q.0 m3 given) (sym e) a;
      no_more = le;
    }

    after_walk : Walks → After m2 given end.0 m3 end.1
    after_walk k = goes_on m2 given m3 end end.0 (ap (λ (r : Settled T). (end.0, r)) k.goes) (arrived end.0 m3 given k.there) k.no_more

    -- a look, after which the memory is the same
    look : (p : Reclaiming) (x : OnSlotsAt p) → m2 ≡ x.m1 → x.more ≡ []
        → (m3 ≡ x.m1) × (end.1 ≡ Goes) × OneStage defers left_over batch_size roots m h lists may end.0 (at_rest defers x.m1 x.h1) → Walks
    look p x same none k = record {
      goes = k.1;
      there = subst (λ (v : Mem T). Arrived end.0 v given) (sym k.0) (come_to p x x.m1 x.h1 x.before x.so_far end.0 k.2 (none_more given x.before x.more x.order none));
      no_more = same_blocks m2 m3 (k.0 ∙ sym same);
    }

    -- a row within goes on
    in_row : (c2 : ReclaimAll) (p : Reclaiming) (x : OnSlotsAt p) → c2.batch_size ≡ batch_size → c2.roots ≡ roots
        → StageAt defers (LAST_SLOT + 1) batch_size roots refl 0 (at_rest defers m h) c2.stands c2 (at_rest defers x.m1 x.h1) → (more2 given2 : List T)
        → Within defers left_over batch_size roots m h lists c2.stands x.m1 x.h1 m3 more2 → given2 ≡ x.before ++ more2 → Here c2 m3 given2
    in_row c2 p x ss rs here more2 given2 row order = AtSlots (record {
      first = x.first;
      m1 = x.m1;
      h1 = x.h1;
      before = x.before;
      more = more2;
      so_far = x.so_far;
      size_is = ss;
      roots_are = rs;
      here = here;
      row = row;
      order = order;
    })

    -- with one value more
    one_more : (p : Reclaiming) (x : OnSlotsAt p) (value : T) → given ++ value ∷ [] ≡ x.before ++ (x.more ++ value ∷ [])
    one_more p x value = ap (λ (l : List T). l ++ value ∷ []) x.order ∙ append_assoc x.before x.more (value ∷ [])

    -- a row has ended
    row_ends : (p : Reclaiming) (x : OnSlotsAt p) (request : Request) (e : WholeEnd defers batch_size roots x.m1 x.h1 request x.more m3)
        → OnlyReclaims x.m1 x.h1 m3 (called request e.effects x.h1) (given_back batch_size request x.h1) → (c4 : ReclaimAll)
        → OneStage defers left_over batch_size roots m h lists may c4 (at_rest defers m3 (called request e.effects x.h1)) → Here c4 m3 given
    row_ends p x request e only c4 st =
        arrived c4 m3 given
        (come_to p x m3 (called request e.effects x.h1) (x.before ++ x.more)
        (so_far_more defers left_over batch_size roots m h lists x.m1 m3 x.h1 (called request e.effects x.h1) x.before x.more (given_back batch_size request x.h1) x.so_far e.history
        (taken_append e.effects x.h1.log ∙ ap (λ (l : List ℕ). taken_in x.h1.log ++ l) e.gave) e.values only)
        c4 st (sym x.order))

    leaves_on : (s : ℕ) (l : Leave) (x : OnSlotsAt (at.Leaves s l)) (l2 : Leave) (p : Settled T) → Steps Took value_at m2 (leave_plan defers l) m3 (l2, p)
        → end ≡ within (λ (k : Leave). standing c (at.Leaves s k)) (next_head c s) (l2, p) → After m2 given end.0 m3 end.1
    leaves_on s l x l2 Goes st e =
        goes_on m2 given m3 end (standing c (at.Leaves s l2)) e
        (in_row (standing c (at.Leaves s l2)) (at.Leaves s l) x x.size_is x.roots_are x.here x.more given
        (call_told defers batch_size roots x.m1 x.h1 (Leave' s) m2 x.more m3 (call.Leaves l) (call.Leaves l2) Goes x.row st) x.order)
        (call_no_more defers m2 m3 (call.Leaves l) (call.Leaves l2) Goes (call_may defers batch_size roots x.m1 x.h1 (Leave' s) (Leaves l) m2 x.more x.row) st)
    leaves_on s l x l2 Waits st e =
        subst (λ (q : ReclaimAll × Settled T). After m2 given q.0 m3 q.1) (sym e) (
          in_row (standing c (at.Leaves s l2)) (at.Leaves s l) x x.size_is x.roots_are x.here x.more given
              (call_told defers batch_size roots x.m1 x.h1 (Leave' s) m2 x.more m3 (call.Leaves l) (call.Leaves l2) Waits x.row st) x.order,
          call_no_more defers m2 m3 (call.Leaves l) (call.Leaves l2) Waits (call_may defers batch_size roots x.m1 x.h1 (Leave' s) (Leaves l) m2 x.more x.row) st,
        )
    leaves_on s l x l2 (Gave value) st e =
        subst (λ (q : ReclaimAll × Settled T). After m2 given q.0 m3 q.1) (sym e) (
          in_row (standing c (at.Leaves s l2)) (at.Leaves s l) x x.size_is x.roots_are x.here (x.more ++ value ∷ []) (given ++ value ∷ [])
              (call_told defers batch_size roots x.m1 x.h1 (Leave' s) m2 x.more m3 (call.Leaves l) (call.Leaves l2) (Gave value) x.row st) (one_more (at.Leaves s l) x value),
          call_fewer defers m2 m3 (call.Leaves l) (call.Leaves l2) (Gave value) value refl st,
        )
    leaves_on s l x l2 Done st e =
        let k = leave_end defers batch_size roots x.m1 x.h1 x.so_far.now m2 x.more m3 (call.Leaves l) (call.Leaves l2) s x.row st in
        goes_on m2 given m3 end (next_head c s) e
        (row_ends (at.Leaves s l) x (Leave' s) k.0 k.1 (next_head c s)
        (leave_on defers (LAST_SLOT + 1) batch_size roots refl 0 (at_rest defers m h) c x.size_is x.roots_are s (at_rest defers x.m1 x.h1) (resting x.m1 x.h1 x.so_far.now)
        x.here.0 x.here.1 x.here.2 x.here.3 (at_rest defers m3 (called (Leave' s) k.0.effects x.h1)) k.0.calls))
        (call_no_more defers m2 m3 (call.Leaves l) (call.Leaves l2) Done (call_may defers batch_size roots x.m1 x.h1 (Leave' s) (Leaves l) m2 x.more x.row) st)

    flushes_on : (s : ℕ) (d : Settle) (x : OnSlotsAt (at.Flushes s d)) (d2 : Settle) (p : Settled T) → Steps Took value_at m2 (settle_plan defers d) m3 (d2, p)
        → end ≡ within (λ (k : Settle). standing c (at.Flushes s k)) (next_batch (record c { again = true }) s) (d2, p) → After m2 given end.0 m3 end.1
    flushes_on s d x d2 Goes st e =
        goes_on m2 given m3 end (standing c (at.Flushes s d2)) e
        (in_row (standing c (at.Flushes s d2)) (at.Flushes s d) x x.size_is x.roots_are x.here x.more given
        (call_told defers batch_size roots x.m1 x.h1 (Flush s) m2 x.more m3 (call.Settles d) (call.Settles d2) Goes x.row st) x.order)
        (call_no_more defers m2 m3 (call.Settles d) (call.Settles d2) Goes (call_may defers batch_size roots x.m1 x.h1 (Flush s) (Settles d) m2 x.more x.row) st)
    flushes_on s d x d2 Waits st e =
        subst (λ (q : ReclaimAll × Settled T). After m2 given q.0 m3 q.1) (sym e) (
          in_row (standing c (at.Flushes s d2)) (at.Flushes s d) x x.size_is x.roots_are x.here x.more given
              (call_told defers batch_size roots x.m1 x.h1 (Flush s) m2 x.more m3 (call.Settles d) (call.Settles d2) Waits x.row st) x.order,
          call_no_more defers m2 m3 (call.Settles d) (call.Settles d2) Waits (call_may defers batch_size roots x.m1 x.h1 (Flush s) (Settles d) m2 x.more x.row) st,
        )
    flushes_on s d x d2 (Gave value) st e =
        subst (λ (q : ReclaimAll × Settled T). After m2 given q.0 m3 q.1) (sym e) (
          in_row (standing c (at.Flushes s d2)) (at.Flushes s d) x x.size_is x.roots_are x.here (x.more ++ value ∷ []) (given ++ value ∷ [])
              (call_told defers batch_size roots x.m1 x.h1 (Flush s) m2 x.more m3 (call.Settles d) (call.Settles d2) (Gave value) x.row st) (one_more (at.Flushes s d) x value),
          call_fewer defers m2 m3 (call.Settles d) (call.Settles d2) (Gave value) value refl st,
        )
    flushes_on s d x d2 Done st e =
        let k = flush_end defers batch_size roots x.m1 x.h1 x.so_far.now m2 x.more m3 (call.Settles d) (call.Settles d2) s x.row st in
        goes_on m2 given m3 end (next_batch (record c { again = true }) s) e
        (row_ends (at.Flushes s d) x (Flush s) k.0 k.1 (next_batch (record c { again = true }) s)
        (flush_on defers (LAST_SLOT + 1) batch_size roots refl 0 (at_rest defers m h) c x.size_is x.roots_are s (at_rest defers x.m1 x.h1) (resting x.m1 x.h1 x.so_far.now)
        x.here.0 x.here.1 x.here.2 x.here.3 (at_rest defers m3 (called (Flush s) k.0.effects x.h1)) k.0.calls))
        (call_no_more defers m2 m3 (call.Settles d) (call.Settles d2) Done (call_may defers batch_size roots x.m1 x.h1 (Flush s) (Settles d) m2 x.more x.row) st)

    -- each point between two rows
    pub walks_on : (p : Reclaiming) → is_within p ≡ false → OnSlotsAt p → Steps Took value_at m2 (plan_at defers left_over c p) m3 end → Walks
    walks_on (at.Heads s) o x st =
        look (at.Heads s) x x.row.0 x.row.1
        (head_on defers (LAST_SLOT + 1) batch_size roots refl 0 (at_rest defers m h) c x.size_is x.roots_are s (at_rest defers x.m1 x.h1) (resting x.m1 x.h1 x.so_far.now) x.here.0 x.here.1 x.here.2 m3 end
        (subst (λ (k : Mem T). Steps Took value_at k (plan_at defers left_over c (at.Heads s)) m3 end) x.row.0 st))
    walks_on (at.Retakes s) o x st =
        let d = stored m2 (λ out. to (next_head c s)) (name.Slot s HEAD) IDLE m3 end st in
        let m4 = with_word x.m1 (name.Slot s HEAD) IDLE in
        let h4 = registered false s x.h1 in
        let same : m3 ≡ m4 = d.0 ∙ ap (λ (k : Mem T). with_word k (name.Slot s HEAD) IDLE) x.row.0 in
        let idle = x.here.2.idle in
        let had = retake_history defers batch_size roots x.m1 x.h1 x.so_far.now s x.here.1 x.here.3 idle in
        let calls = retake_calls defers batch_size roots x.m1 x.h1 x.so_far.now s x.here.1 x.here.3 idle in
        walks (next_head c s) d.1
        (subst (λ (k : Mem T). Arrived (next_head c s) k given) (sym same)
        (come_to (at.Retakes s) x m4 h4 x.before (so_far_quiet defers left_over batch_size roots m h lists x.m1 m4 x.h1 h4 x.before x.so_far had refl (only_retaken x.m1 x.h1 s x.here.3)) (next_head c s)
        (retake_on defers (LAST_SLOT + 1) batch_size roots refl 0 (at_rest defers m h) c x.size_is x.roots_are s (at_rest defers x.m1 x.h1) (resting x.m1 x.h1 x.so_far.now) x.here.0 x.here.1 x.here.2 x.here.3
        (at_rest defers m4 h4) calls refl)
        (none_more given x.before x.more x.order x.row.1)))
        (subst (λ (k : Mem T). blocks_in k ≤ blocks_in m2) (sym d.0) (omega arith))
    walks_on (at.Leaves s l) o x st = absurd (cc o)
    walks_on (at.Batches s) o x st =
        look (at.Batches s) x x.row.0 x.row.1
        (batch_on defers (LAST_SLOT + 1) batch_size roots refl 0 (at_rest defers m h) c x.size_is x.roots_are s (at_rest defers x.m1 x.h1) (resting x.m1 x.h1 x.so_far.now) x.here.0 x.here.1 m3 end
        (subst (λ (k : Mem T). Steps Took value_at k (plan_at defers left_over c (at.Batches s)) m3 end) x.row.0 st))
    walks_on (at.Flushes s d) o x st = absurd (cc o)
    walks_on (at.Frees s) o x st =
        let row : Unregister = record { slot = s } in
        let goes : Unregister × Advance Unit → ReclaimAll × Settled T = λ k. (next_free c s, Goes) in
        let back = steps_back goes m2 m3 (unregister_plan row) end st in
        let st1 = subst (λ (k : Mem T). Steps Took value_at k (unregister_plan row) m3 back.0) x.row.0 back.1 in
        let out = x.here.1.idle s (omega arith) x.here.0 in
        let h4 = given_up s x.h1 in
        let had = unregister_history defers batch_size roots x.m1 x.h1 x.so_far.now s out m3 back.0 st1 in
        let calls = unregister_calls defers batch_size roots x.m1 x.h1 x.so_far.now s out m3 back.0 st1 in
        let only = only_given_up defers batch_size roots x.m1 x.h1 x.so_far.now s out m3 back.0 st1 in
        let wrote = stored m2 (λ out. Now (row, progress.Done tt)) (name.Slot s HEAD) FREE m3 back.0 back.1 in
        walks (next_free c s) back.2
        (come_to (at.Frees s) x m3 h4 x.before (so_far_quiet defers left_over batch_size roots m h lists x.m1 m3 x.h1 h4 x.before x.so_far had refl only) (next_free c s)
        (give_up_on defers (LAST_SLOT + 1) batch_size roots refl 0 (at_rest defers m h) c x.size_is x.roots_are s (at_rest defers x.m1 x.h1) (resting x.m1 x.h1 x.so_far.now) x.here.0 x.here.1
        (at_rest defers m3 h4) calls)
        (none_more given x.before x.more x.order x.row.1))
        (subst (λ (k : Mem T). blocks_in k ≤ blocks_in m2) (sym wrote.0) (omega arith))
    walks_on (at.Roots root) o x st = absurd x.row
    walks_on (at.Nexts root block) o x st = absurd x.row
    walks_on (at.Takes root block next) o x st = absurd x.row
    walks_on (at.Empties root) o x st = absurd x.row
    walks_on (at.Unuses root) o x st = absurd x.row
    walks_on at.Over o x st = absurd x.row

    -- each point of the work on slots
    slots_on : (p : Reclaiming) → OnSlotsAt p → Steps Took value_at m2 (plan_at defers left_over c p) m3 end → After m2 given end.0 m3 end.1
    slots_on (at.Leaves s l) x st =
        let back = steps_back (within (λ (k : Leave). standing c (at.Leaves s k)) (next_head c s)) m2 m3 (leave_plan defers l) end st in
        leaves_on s l x back.0.0 back.0.1 back.1 back.2
    slots_on (at.Flushes s d) x st =
        let back = steps_back (within (λ (k : Settle). standing c (at.Flushes s k)) (next_batch (record c { again = true }) s)) m2 m3 (settle_plan defers d) end st in
        flushes_on s d x back.0.0 back.0.1 back.1 back.2
    slots_on (at.Heads s) x st = after_walk (walks_on (at.Heads s) refl x st)
    slots_on (at.Retakes s) x st = after_walk (walks_on (at.Retakes s) refl x st)
    slots_on (at.Batches s) x st = after_walk (walks_on (at.Batches s) refl x st)
    slots_on (at.Frees s) x st = after_walk (walks_on (at.Frees s) refl x st)
    slots_on (at.Roots root) x st = absurd x.row
    slots_on (at.Nexts root block) x st = absurd x.row
    slots_on (at.Takes root block next) x st = absurd x.row
    slots_on (at.Empties root) x st = absurd x.row
    slots_on (at.Unuses root) x st = absurd x.row
    slots_on at.Over x st = absurd x.row

    -- and of that on roots
    roots_on : (x : OnRoots defers left_over batch_size roots m h lists c m2 given) (p : Settled T)
        → Comes defers left_over batch_size roots x.middle x.between lists (clear_to_go c) m2 x.behind end.0 m3 p → After m2 given end.0 m3 p
    roots_on x Goes k = (
      AtRoots (record { middle = x.middle; between = x.between; slots = x.slots; waited = x.waited; behind = x.behind; order = x.order; values = x.values; clearing = k.0 }),
      k.2,
    )
    roots_on x Waits k = absurd k
    roots_on x (Gave value) k = (
      AtRoots (record {
        middle = x.middle;
        between = x.between;
        slots = x.slots;
        waited = x.waited;
        behind = x.behind ++ value ∷ [];
        order = ap (λ (l : List T). l ++ value ∷ []) x.order ∙ append_assoc x.waited x.behind (value ∷ []);
        values = x.values;
        clearing = k.0;
      }),
      k.1,
    )
    roots_on x Done k = record { middle = x.middle; between = x.between; slots = x.slots; waited = x.waited; behind = x.behind; order = x.order; values = x.values; cleared = k }

    pub point_on : Here c m2 given → Steps Took value_at m2 (reclaim_all_plan defers left_over c) m3 end → After m2 given end.0 m3 end.1
    point_on (AtSlots x) st = slots_on c.stands x st
    point_on (AtRoots x) st = roots_on x end.1 (comes defers left_over batch_size roots x.middle x.between lists c m2 x.behind x.clearing m3 end st)

-- What a step of the work on slots looks at: nothing, or one block, which is there.
use Rattle.std.specs.Prelude.{Option, Some, None, IsSome, nat_lt, ◌==◌, if◌then◌else◌}
use Rattle.std.proofs.Common.{◌≡◌, ℕ, Bool, true, false, refl, sym, subst, ap}
use Rattle.seize_words.specs.OneMemory.Mem.{Mem, value_at}
use Rattle.seize_words.specs.OneMemory.Op.{Out, Found, Stored, Exchanged, Made, Taken, Roomed}
use Rattle.seize_words.specs.OneMemory.Plan.{Plan, Then, Turn, Do, Now, Seeing, Sure, Ends, MaySee, then_as, plan_as}
use Rattle.seize.specs.declared.states.TheConstants.{NEVER, FREE, ACTIVE}
use Rattle.seize.specs.declared.rows.leave.Leave.{Leave}
use Rattle.seize.specs.declared.rows.leave.Leaving.{Leaving}
use Rattle.seize.specs.declared.rows.leave.Leaving.TheVariants as leaving_at
use Rattle.seize.specs.declared.rows.settle.Settle.{Settle}
use Rattle.seize.specs.declared.rows.settle.Settled.{Settled}
use Rattle.seize.specs.declared.rows.reclaim_all.ReclaimAll.{ReclaimAll}
use Rattle.seize.specs.declared.rows.reclaim_all.Reclaiming.{Reclaiming}
use Rattle.seize.specs.declared.rows.reclaim_all.Reclaiming.TheVariants as at
use Rattle.seize.specs.Leave as leave
use Rattle.seize.specs.Settle.{settle_plan}
use Rattle.seize.specs.ReclaimAll.{standing, next_head, next_batch, within, head_read, batch_read, plan_at}
use Rattle.seize_acts.specs.Quiet.Promises.{IsOnSlots}
use Rattle.seize_views.specs.Views.Rows.{IsLooked}
use Rattle.seize_views.specs.Views.Told.{shown_by}
use Rattle.seize_views.proofs.Views.Looks.{IsNow, rest_of, now_ends, looked}
use Rattle.seize_reclaims.specs.Renews.Rule.{IsShown}

module _ {T R : Type 0} where
  -- what may look at all that it looks at comes to an end
  pub may_end : (shown : ℕ → Option T) (rest : Then T R) → MaySee shown rest → (end : R) × Ends shown rest end
  may_end shown (Now end) may = (end, refl)
  may_end shown (Seeing block rest) may = by (shown block) refl may.0 (λ value e. may_end shown (rest value) (may.1 value e))
    where
      by : (o : Option T) → shown block ≡ o → IsSome o → ((value : T) → shown block ≡ Some value → (end : R) × Ends shown (rest value) end)
          → (end : R) × Ends shown (Seeing block rest) end
      by None e some later = absurd (cc some)
      by (Some value) e some later = let k = later value e in (k.0, (value, e, k.1))
  may_end shown (Sure fact rest) may = may_end shown rest may.1

module _ {T A B : Type 0} (f : A → B) (shown : ℕ → Option T) where
  ends_on : (rest : Then T A) (end : A) → Ends shown rest end → Ends shown (then_as f rest) (f end)
  ends_on (Now r) end e = ap f e
  ends_on (Seeing block rest) end e = (e.0, e.1, ends_on (rest e.0) end e.2)
  ends_on (Sure fact rest) end e = ends_on rest end e

  ends_from : (rest : Then T A) (end : B) → Ends shown (then_as f rest) end → (first : A) × Ends shown rest first × (end ≡ f first)
  ends_from (Now r) end e = (r, refl, e)
  ends_from (Seeing block rest) end e = let k = ends_from (rest e.0) end e.2 in (k.0, (e.0, e.1, k.1), k.2)
  ends_from (Sure fact rest) end e = ends_from rest end e

  rest_as : (plan : Plan T A) (out : Out T) → rest_of (plan_as f plan) out ≡ then_as f (rest_of plan out)
  rest_as (Turn rest) out = refl
  rest_as (Do op rest) out = refl

module _ {T : Type 0} (m : Mem T) where
  -- it comes to the same end by what was looked at, which is there
  abbrev pub Looked : {R : Type 0} → Then T R → R → Type 0
  Looked rest end = (seen : Option (ℕ × T)) × Ends (shown_by seen) rest end × IsShown m seen

  none_looked : {R : Type 0} (rest : Then T R) (end : R) → IsNow rest → Ends (value_at m) rest end → Looked rest end
  none_looked rest end is e = (None, now_ends (value_at m) (shown_by None) rest end is e, tt)

  looked_as : {A B : Type 0} (f : A → B) (plan : Plan T A) (out : Out T) (end : B)
      → ((first : A) → Ends (value_at m) (rest_of plan out) first → Looked (rest_of plan out) first)
      → Ends (value_at m) (rest_of (plan_as f plan) out) end → Looked (rest_of (plan_as f plan) out) end
  looked_as f plan out end inner e =
      let k = ends_from f (value_at m) (rest_of plan out) end (subst (λ (x : Then T _). Ends (value_at m) x end) (rest_as f (value_at m) plan out) e) in
      let l = inner k.0 k.1 in (
        l.0,
        subst (λ (x : Then T _). Ends (shown_by l.0) x end) (sym (rest_as f (value_at m) plan out))
            (subst (λ (x : _). Ends (shown_by l.0) (then_as f (rest_of plan out)) x) (sym k.2) (ends_on f (shown_by l.0) (rest_of plan out) k.0 l.1)),
        l.2,
      )

module _ {T : Type 0} (defers : T → Option ℕ) (left_over : T → Bool) (m : Mem T) (out : Out T) where
  either : {R : Type 0} (b : Bool) (x y : Then T R) → IsNow x → IsNow y → IsNow (if b then x else y)
  either true x y p q = p
  either false x y p q = q

  settle_looked : (c : Settle) (end : Settle × Settled T) → Ends (value_at m) (rest_of (settle_plan defers c) out) end → Looked m (rest_of (settle_plan defers c) out) end
  settle_looked c end e = let k = looked defers c c.stands out m end e in (k.0, k.1, shows k.0 k.2)
    where
      shows : (seen : Option (ℕ × T)) → IsLooked m end.0 seen → IsShown m seen
      shows None is = tt
      shows (Some seen) is = is.2

  list_now : (c : Leave) (o : Out T) → IsNow (leave.list_taken c o)
  list_now c (Found head) = either (nat_lt ACTIVE head) _ _ tt tt
  list_now c Stored = tt
  list_now c (Taken x) = tt
  list_now c (Exchanged r) = tt
  list_now c (Made r) = tt
  list_now c (Roomed r) = tt

  leave_looked : (c : Leave) (p : Leaving) (end : Leave × Settled T) → Ends (value_at m) (rest_of (leave.plan_at defers c p) out) end → Looked m (rest_of (leave.plan_at defers c p) out) end
  leave_looked c leaving_at.Swaps end e = none_looked m (leave.list_taken c out) end (list_now c out) e
  leave_looked c (leaving_at.Settles settle) end e = looked_as m (leave.settled c) (settle_plan defers settle) out end (settle_looked settle) e
  leave_looked c leaving_at.Frees end e = none_looked m (rest_of (leave.plan_at defers c leaving_at.Frees) out) end tt e
  leave_looked c leaving_at.Over end e = none_looked m (rest_of (leave.plan_at defers c leaving_at.Over) out) end tt e

  head_now : (c : ReclaimAll) (s : ℕ) (o : Out T) → IsNow (head_read c s o)
  head_now c s (Found head) = either (head == NEVER) _ _ tt (either (head == FREE) _ _ tt (either (nat_lt head ACTIVE) _ _ tt tt))
  head_now c s Stored = tt
  head_now c s (Taken x) = tt
  head_now c s (Exchanged r) = tt
  head_now c s (Made r) = tt
  head_now c s (Roomed r) = tt

  batch_now : (c : ReclaimAll) (s : ℕ) (o : Out T) → IsNow (batch_read c s o)
  batch_now c s (Found last) = either (last == 0) _ _ tt tt
  batch_now c s Stored = tt
  batch_now c s (Taken x) = tt
  batch_now c s (Exchanged r) = tt
  batch_now c s (Made r) = tt
  batch_now c s (Roomed r) = tt

  pub reclaim_looked : (c : ReclaimAll) (p : Reclaiming) → IsOnSlots p → (end : ReclaimAll × Settled T) → Ends (value_at m) (rest_of (plan_at defers left_over c p) out) end
      → Looked m (rest_of (plan_at defers left_over c p) out) end
  reclaim_looked c (at.Heads s) on end e = none_looked m (head_read c s out) end (head_now c s out) e
  reclaim_looked c (at.Retakes s) on end e = none_looked m (rest_of (plan_at defers left_over c (at.Retakes s)) out) end tt e
  reclaim_looked c (at.Leaves s l) on end e =
      looked_as m (within (λ (d : Leave). standing c (at.Leaves s d)) (next_head c s)) (leave.leave_plan defers l) out end (leave_looked l l.stands) e
  reclaim_looked c (at.Batches s) on end e = none_looked m (batch_read c s out) end (batch_now c s out) e
  reclaim_looked c (at.Flushes s l) on end e =
      looked_as m (within (λ (d : Settle). standing c (at.Flushes s d)) (next_batch (record c { again = true }) s)) (settle_plan defers l) out end (settle_looked l) e
  reclaim_looked c (at.Frees s) on end e = none_looked m (rest_of (plan_at defers left_over c (at.Frees s)) out) end tt e
  reclaim_looked c (at.Roots root) on end e = absurd on
  reclaim_looked c (at.Nexts root block) on end e = absurd on
  reclaim_looked c (at.Takes root block next) on end e = absurd on
  reclaim_looked c (at.Empties root) on end e = absurd on
  reclaim_looked c (at.Unuses root) on end e = absurd on
  reclaim_looked c at.Over on end e = absurd on

-- The work on slots ends within a number of steps: each step is the only one that can be taken.
use Rattle.std.specs.Prelude.{Option, Some, None}
use Rattle.std.proofs.Common.{◌≡◌, ℕ, suc, ◌<◌, ◌^◌, Bool, true, refl, sym, subst, ◌∙◌}
use Rattle.seize_words.specs.OneMemory.Op.{Op, Make, Room}
use Rattle.seize_words.specs.OneMemory.Mem.{Mem}
use Rattle.seize_words.specs.OneMemory.Plan.{Plan, Turn, Do, plan_as}
use Rattle.seize.specs.declared.rows.leave.Leave.{Leave}
use Rattle.seize.specs.declared.rows.leave.Leaving.{Leaving}
use Rattle.seize.specs.declared.rows.leave.Leaving.TheVariants as leaving_at
use Rattle.seize.specs.declared.rows.settle.Settle.{Settle}
use Rattle.seize.specs.declared.rows.settle.Settling.{Settling}
use Rattle.seize.specs.declared.rows.settle.Settling.TheVariants as settling_at
use Rattle.seize.specs.declared.rows.settle.Settled.{Settled}
use Rattle.seize.specs.declared.rows.reclaim_all.ReclaimAll.{ReclaimAll}
use Rattle.seize.specs.declared.rows.reclaim_all.Reclaiming.{Reclaiming}
use Rattle.seize.specs.declared.rows.reclaim_all.Reclaiming.TheVariants as at
use Rattle.seize.specs.Leave as leave
use Rattle.seize.specs.Settle as settle
use Rattle.seize.specs.ReclaimAll.{standing, next_head, next_batch, within, plan_at, reclaim_all_plan}
use Rattle.seize.specs.World.{World}
use Rattle.seize_acts.specs.Acts.Answers.{Grant, stepped}
use Rattle.seize_acts.proofs.Acts.Answers.{was_stepped}
use Rattle.seize_acts.proofs.Acts.Steps.{steps_so}
use Rattle.seize_acts.specs.Quiet.Promises.{IsOnSlots, DoneWithin, SlotsEnd}
use Rattle.seize_acts.proofs.Quiet.Promised.{slots_lead}
use Rattle.seize_acts.proofs.Quiet.Ends.All.{all_end}
use Rattle.seize_acts.proofs.Quiet.Ends.Frees.{Point, StepsFrom, LedFrom, Backward}

-- the memory has no choice how to answer it
abbrev IsSure : {T : Type 0} → Op T → Type 0
IsSure (Make value words) = ⊥
IsSure (Room bucket) = ⊥
IsSure _ = Unit {0}

abbrev IsSurePlan : {T R : Type 0} → Plan T R → Type 0
IsSurePlan (Turn rest) = Unit {0}
IsSurePlan (Do op rest) = IsSure op

sure_as : {T A B : Type 0} (f : A → B) (plan : Plan T A) → IsSurePlan plan → IsSurePlan (plan_as f plan)
sure_as f (Turn rest) sure = tt
sure_as f (Do op rest) sure = sure

module _ {T R : Type 0} (m : Mem T) (g : Grant) where
  by_op : (op : Op T) (rest : _) → IsSure op → stepped {R = R} m g (Do op rest) ≡ stepped m None (Do op rest)
  by_op (Make value words) rest sure = absurd sure
  by_op (Room bucket) rest sure = absurd sure
  by_op _ rest sure = refl

  any_grant : (plan : Plan T R) → IsSurePlan plan → stepped m g plan ≡ stepped m None plan
  any_grant (Turn rest) sure = refl
  any_grant (Do op rest) sure = by_op op rest sure

module _ {T : Type 0} (defers : T → Option ℕ) where
  settle_sure : (c : Settle) (p : Settling) → IsSurePlan (settle.plan_at defers c p)
  settle_sure c settling_at.Over = tt
  settle_sure c _ = tt

  leave_sure : (c : Leave) (p : Leaving) → IsSurePlan (leave.plan_at defers c p)
  leave_sure c leaving_at.Swaps = tt
  leave_sure c (leaving_at.Settles s) = sure_as (leave.settled c) (settle.settle_plan defers s) (settle_sure s s.stands)
  leave_sure c leaving_at.Frees = tt
  leave_sure c leaving_at.Over = tt

  module _ (left_over : T → Bool) where
    reclaim_sure : (c : ReclaimAll) (p : Reclaiming) → IsOnSlots p → IsSurePlan (plan_at defers left_over c p)
    reclaim_sure c (at.Heads s) on = tt
    reclaim_sure c (at.Retakes s) on = tt
    reclaim_sure c (at.Leaves s l) on = sure_as (within (λ d. standing c (at.Leaves s d)) (next_head c s)) (leave.leave_plan defers l) (leave_sure l l.stands)
    reclaim_sure c (at.Batches s) on = tt
    reclaim_sure c (at.Flushes s l) on = sure_as (within (λ d. standing c (at.Flushes s d)) (next_batch (record c { again = true }) s)) (settle.settle_plan defers l) (settle_sure l l.stands)
    reclaim_sure c (at.Frees s) on = tt
    reclaim_sure c (at.Roots root) on = absurd on
    reclaim_sure c (at.Nexts root block) on = absurd on
    reclaim_sure c (at.Takes root block next) on = absurd on
    reclaim_sure c (at.Empties root) on = absurd on
    reclaim_sure c (at.Unuses root) on = absurd on
    reclaim_sure c at.Over on = absurd on

    -- it has done with slots within a number of steps
    abbrev IsCounted : World T → ReclaimAll → Type 0
    IsCounted w c = (k : ℕ) × DoneWithin defers left_over k w.memory c

    module _ (size roots i : ℕ) (word : size < 2 ^ 64) where
      abbrev At : Type 0
      At = Point defers left_over size roots i word

      abbrev Outcome : Type 0
      Outcome = Mem T × (ReclaimAll × Settled T)

      module _ (x : At) (on : IsOnSlots x.c.stands)
          (next : (m2 : Mem T) (c2 : ReclaimAll) (told : Settled T) → StepsFrom defers left_over size roots i word x m2 c2 told → (led : LedFrom defers left_over size roots i word x m2 c2 told) × IsCounted led.w2 c2) where
        comes_to : (m2 : Mem T) (c2 : ReclaimAll) (told : Settled T) → StepsFrom defers left_over size roots i word x m2 c2 told
            → stepped x.w.memory None (reclaim_all_plan defers left_over x.c) ≡ Some (m2, (c2, told))
        comes_to m2 c2 told st =
            let may = (slots_lead defers left_over size roots i x.c x.w word x.came x.stage on).0 in
            let k = steps_so x.w.memory (reclaim_all_plan defers left_over x.c) m2 (c2, told) may st in
            sym (any_grant x.w.memory k.0 (reclaim_all_plan defers left_over x.c) (reclaim_sure x.c x.c.stands on)) ∙ k.1

        count_step : IsCounted x.w x.c
        count_step = by (stepped x.w.memory None (reclaim_all_plan defers left_over x.c)) refl
          where
            some_same : (p q : Outcome) → ◌≡◌ {A = Option Outcome} (Some p) (Some q) → p ≡ q
            some_same p q e = cc e

            by : (o : Option Outcome) → stepped x.w.memory None (reclaim_all_plan defers left_over x.c) ≡ o → IsCounted x.w x.c
            by None e = (1, λ is m2 c2 told st. absurd (let k = comes_to m2 c2 told st in cc (e, k)))
            by (Some p) e =
                let st = was_stepped x.w.memory None (reclaim_all_plan defers left_over x.c) p e in
                let q = next p.0 p.1.0 p.1.1 st in
                let k = q.1 in (
                  suc k.0,
                  λ is m2 c2 told st2.
                      subst (λ (r : Outcome). DoneWithin defers left_over k.0 r.0 r.1.0) (some_same p (m2, (c2, told)) (sym e ∙ comes_to m2 c2 told st2))
                      (subst (λ (m : Mem T). DoneWithin defers left_over k.0 m p.1.0) q.0.memory k.1),
                )

      counted_back : Backward defers left_over size roots i word IsCounted
      counted_back = record { past = λ x off. (0, off); step = count_step }

  pub slots_end : (left_over : T → Bool) → SlotsEnd defers left_over
  slots_end left_over size roots i c w word came st =
      all_end defers left_over size roots i word (IsCounted left_over) (counted_back left_over size roots i word) (record { w = w; c = c; came = came; stage = st })

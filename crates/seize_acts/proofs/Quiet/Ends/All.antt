-- From each point of the work on slots: what is so of whatever comes behind it is so there.
use Rattle.std.specs.Prelude.{Option, nat_lt, ◌==◌}
use Rattle.std.proofs.Common.{◌≡◌, ℕ, suc, ◌+◌, ◌<◌, ◌≤◌, ◌^◌, Bool, ◌⊎◌, ◌∙◌, inl, inr, refl, arith, ap, sym, subst, true, []}
use Rattle.seize_words.specs.declared.at.At.TheVariants as name
use Rattle.seize_words.specs.OneMemory.Mem.{Mem, Took, value_at}
use Rattle.seize_words.specs.OneMemory.Plan.{Steps}
use Rattle.seize_words.proofs.OneMemory.OneOwner.Operations.{loaded, stored}
use Rattle.seize.specs.declared.states.TheConstants.{HEAD, NEVER, FREE, IDLE, ACTIVE, LAST_SLOT}
use Rattle.seize.specs.declared.rows.leave.Leave.{Leave}
use Rattle.seize.specs.declared.rows.settle.Settle.{Settle}
use Rattle.seize.specs.declared.rows.settle.Settled.{Settled}
use Rattle.seize.specs.declared.rows.settle.Settled.TheVariants as settled
use Rattle.seize.specs.declared.rows.reclaim_all.ReclaimAll.{ReclaimAll}
use Rattle.seize.specs.declared.rows.reclaim_all.Reclaiming.{Reclaiming}
use Rattle.seize.specs.declared.rows.reclaim_all.Reclaiming.TheVariants as at
use Rattle.seize.specs.Leave.{leave_plan}
use Rattle.seize.specs.ReclaimAll.{standing, next_head, to, within, head_read, plan_at}
use Rattle.seize.specs.WaitingSets.{Sets, flushed}
use Rattle.seize.specs.World.{World, Settles, Leaves, Flush, Leave', IsOutside}
use Rattle.seize_model.proofs.Given.SeizeRuleRows.Leaving.{steps_back}
use Rattle.seize_model.proofs.Ends.Settling.Most.{is_going}
use Rattle.seize_model.proofs.Ends.Rows.Lone.{leave_to_go, leaves_lower}
use Rattle.seize_model.proofs.Given.SeizeWaitingFlushes.{flushed_frame}
use Rattle.seize_model.proofs.Sets.Turns.Begins.{Shown}
use Rattle.seize_acts.specs.Reclaims.AllReclaimed.{weight_at}
use Rattle.seize_acts.proofs.Reclaims.AllReclaimed.Weights.{weight, at_next_head, head_lower, lower, leave_less, none_to_go, row_to_go}
use Rattle.seize_acts.specs.Quiet.Slots.{Settling, Flushing, Within, StageAt}
use Rattle.seize_acts.specs.Quiet.Promises.{IsOnSlots}
use Rattle.seize_acts.proofs.Quiet.Slots.Facts.{outside_at, held_by, sets_now, shown_now}
use Rattle.seize_acts.proofs.Quiet.Slots.Rows.{lone_in}
use Rattle.seize_acts.proofs.Quiet.Ends.Flushes.{IsBatch, flush_ends}
use Rattle.seize_acts.proofs.Quiet.Ends.Frees.{IsFreeing, Point, Backward, leads, next_point, frees_end}
use Rattle.seize_acts.proofs.Quiet.Ends.Measures.{by_two}
use Rattle.seize_acts.proofs.Quiet.Ends.Rounds.{rounds_end}

-- it looks at heads, or leaves a slot
abbrev IsSettling : Reclaiming → Type 0
IsSettling (at.Heads s) = Unit {0}
IsSettling (at.Retakes s) = Unit {0}
IsSettling (at.Leaves s l) = Unit {0}
IsSettling _ = ⊥

settling_on : (p : Reclaiming) → IsSettling p → IsOnSlots p
settling_on (at.Heads s) on = tt
settling_on (at.Retakes s) on = tt
settling_on (at.Leaves s l) on = tt
settling_on (at.Batches s) on = absurd on
settling_on (at.Flushes s l) on = absurd on
settling_on (at.Frees s) on = absurd on
settling_on (at.Roots root) on = absurd on
settling_on (at.Nexts root block) on = absurd on
settling_on (at.Takes root block next) on = absurd on
settling_on (at.Empties root) on = absurd on
settling_on (at.Unuses root) on = absurd on
settling_on at.Over on = absurd on

module _ {T : Type 0} (defers : T → Option ℕ) (left_over : T → Bool) (size roots i : ℕ) (word : size < 2 ^ 64) (Q : World T → ReclaimAll → Type 0) (back : Backward defers left_over size roots i word Q) where
  abbrev At : Type 0
  At = Point defers left_over size roots i word

  abbrev Sure : At → Type 0
  Sure x = Q x.w x.c

  abbrev PointAt : At → Reclaiming → Type 0
  PointAt x p = StageAt defers size i x.c x.w p

  point_at : (x : At) (p : Reclaiming) → x.c.stands ≡ p → PointAt x p
  point_at x p is = subst (λ (q : Reclaiming). PointAt x q) is x.stage.here

  -- from the rounds on

  module _ (x : At) (s : ℕ) where
    batch_ends : x.c.stands ≡ at.Batches s → Sure x
    batch_ends is =
        let f = (point_at x (at.Batches s) is).1 in
        let outside = outside_at x.c.slots x.w.uses f.idle f.vacant in
        rounds_end defers left_over size roots i word Q back
        (record { x = x; s = s; is = is; sets = sets_now defers size x.w x.came f.rests outside; shown = shown_now defers size x.w x.came f.rests outside; quiet = refl })

    flush_row_ends : (l : Settle) → x.c.stands ≡ at.Flushes s l → Sure x
    flush_row_ends l is =
        let k = point_at x (at.Flushes s l) is in
        flush_ends defers left_over size roots i word Q back k.1.before s (sets_then k.1) (shown_then k.1)
        (λ y on shown. past (sets_then k.1) refl y on shown)
        (record { x = x; l = l; is = is; lt = k.0; h = k.1; before = refl })
      where
        outside : (h : Within defers size i (Flush s) (Flushing x.c.slots s x.c.again) (Settles l) x.w) → (t : ℕ) → IsOutside (h.before.uses t)
        outside h = outside_at x.c.slots h.before.uses h.so.idle h.so.vacant

        sets_then : (h : Within defers size i (Flush s) (Flushing x.c.slots s x.c.again) (Settles l) x.w) → Sets
        sets_then h = sets_now defers size h.before h.came h.so.rests (outside h)

        shown_then : (h : Within defers size i (Flush s) (Flushing x.c.slots s x.c.again) (Settles l) x.w) → Shown defers (LAST_SLOT + 1) size h.before (sets_then h)
        shown_then h = shown_now defers size h.before h.came h.so.rests (outside h)

        past : (sets : Sets) → sets.active ≡ [] → (y : At) → IsBatch y.c.stands ⊎ IsFreeing y.c y.c.stands
            → Shown defers (LAST_SLOT + 1) size y.w (flushed size s sets).sets → Sure y
        past sets quiet y (inl (t, is2)) shown =
            rounds_end defers left_over size roots i word Q back
            (record { x = y; s = t; is = is2; sets = (flushed size s sets).sets; shown = shown; quiet = (flushed_frame size s sets).active ∙ quiet })
        past sets quiet y (inr on) shown = frees_end defers left_over size roots i word Q back y on

  -- from each point, if from those before the rounds
  others_end : (x : At) → (IsSettling x.c.stands → Sure x) → Sure x
  others_end x settling = by x.c.stands refl
    where
      none : (p : Reclaiming) → x.c.stands ≡ p → (IsOnSlots p → ⊥) → Sure x
      none p is off = back.past x (subst (λ (q : Reclaiming). IsOnSlots q → ⊥) (sym is) off)

      by : (p : Reclaiming) → x.c.stands ≡ p → Sure x
      by (at.Heads s) is = settling (subst IsSettling (sym is) tt)
      by (at.Retakes s) is = settling (subst IsSettling (sym is) tt)
      by (at.Leaves s l) is = settling (subst IsSettling (sym is) tt)
      by (at.Batches s) is = batch_ends x s is
      by (at.Flushes s l) is = flush_row_ends x s l is
      by (at.Frees s) is = frees_end defers left_over size roots i word Q back x (subst (λ (q : Reclaiming). IsFreeing x.c q) (sym is) (point_at x (at.Frees s) is).0)
      by (at.Roots root) is = none (at.Roots root) is (λ on. on)
      by (at.Nexts root block) is = none (at.Nexts root block) is (λ on. on)
      by (at.Takes root block next) is = none (at.Takes root block next) is (λ on. on)
      by (at.Empties root) is = none (at.Empties root) is (λ on. on)
      by (at.Unuses root) is = none (at.Unuses root) is (λ on. on)
      by at.Over is = none at.Over is (λ on. on)

  -- before the rounds: fewer points lie before it, or the row has less to go

  abbrev AtHeads : Type 0
  AtHeads = (x : At) × IsSettling x.c.stands

  abbrev points_at : AtHeads → ℕ
  points_at x = weight x.0.c

  abbrev row_at : AtHeads → ℕ
  row_at x = row_to_go defers x.0.w.memory x.0.c.stands

  module _ (x : At) (m2 : Mem T) (c2 : ReclaimAll) (told : Settled T) where
    abbrev c : ReclaimAll
    c = x.c

    abbrev end : ReclaimAll × Settled T
    end = (c2, told)

    abbrev Falls : Reclaiming → Type 0
    Falls p = (weight c2 < weight_at c p) ⊎ ((weight c2 ≤ weight_at c p) × (row_to_go defers m2 c2.stands < row_to_go defers x.w.memory p))

    leave_falls : (s : ℕ) (l : Leave) → s < LAST_SLOT + 1 → (h : Within defers size i (Leave' s) (Settling s) (Leaves l) x.w) → (d : Leave) (o : Settled T)
        → Steps Took value_at x.w.memory (leave_plan defers l) m2 (d, o) → end ≡ within (λ (k : Leave). standing c (at.Leaves s k)) (next_head c s) (d, o) → Falls (at.Leaves s l)
    leave_falls s l lt h d o st e = inr ((leave_less c end s lt d o e).0, by o st e)
      where
        less : (o : Settled T) → Steps Took value_at x.w.memory (leave_plan defers l) m2 (d, o) → is_going o ≡ true → leave_to_go defers m2 d < leave_to_go defers x.w.memory l
        less o st going =
            leaves_lower defers size i x.w (lone_in defers size i (Leave' s) (Settling s) (λ v so. so.rests) (Leaves l) x.w h) (held_by defers size x.w x.came) l h.row_is m2 d o st going

        goes_on : (k : ℕ) → leave_to_go defers m2 d < k → c2 ≡ standing c (at.Leaves s d) → row_to_go defers m2 c2.stands < suc k
        goes_on k lt e = subst (λ (q : ReclaimAll). row_to_go defers m2 q.stands < suc k) (sym e) (omega (arith, lt))

        by : (o : Settled T) → Steps Took value_at x.w.memory (leave_plan defers l) m2 (d, o) → end ≡ within (λ (k : Leave). standing c (at.Leaves s k)) (next_head c s) (d, o)
            → row_to_go defers m2 c2.stands < suc (leave_to_go defers x.w.memory l)
        by settled.Goes st e = goes_on _ (less settled.Goes st refl) (ap (λ (p : ReclaimAll × Settled T). p.0) e)
        by settled.Waits st e = goes_on _ (less settled.Waits st refl) (ap (λ (p : ReclaimAll × Settled T). p.0) e)
        by (settled.Gave value) st e = goes_on _ (less (settled.Gave value) st refl) (ap (λ (p : ReclaimAll × Settled T). p.0) e)
        by settled.Done st e =
            subst (λ (q : ReclaimAll). row_to_go defers m2 q.stands < suc (leave_to_go defers x.w.memory l)) (sym (ap (λ (p : ReclaimAll × Settled T). p.0) e))
            (let z = none_to_go defers m2 (next_head c s).stands (at_next_head c s lt).1 in omega (arith, z))

    head_falls : (p : Reclaiming) → IsSettling p → PointAt x p → Steps Took value_at x.w.memory (plan_at defers left_over c p) m2 end → Falls p
    head_falls (at.Heads s) on k st =
        let d = loaded x.w.memory (head_read c s) (name.Slot s HEAD) m2 end st in
        inl (head_lower c end s (let l = k.1 in omega (arith, l)) (d.0 == NEVER) (d.0 == FREE) (nat_lt d.0 ACTIVE) (value_at x.w.memory) d.3)
    head_falls (at.Retakes s) on k st =
        let d = stored x.w.memory (λ out. to (next_head c s)) (name.Slot s HEAD) IDLE m2 end st in
        let z = (at_next_head c s (let l = k.1 in omega (arith, l))).0 in
        inl (lower c end (weight_at c (at.Retakes s)) (next_head c s) d.1 (omega (arith, z)))
    head_falls (at.Leaves s l) on k st =
        let back = steps_back (within (λ (d : Leave). standing c (at.Leaves s d)) (next_head c s)) x.w.memory m2 (leave_plan defers l) end st in
        leave_falls s l (let q = k.1 in omega (arith, q)) k.2 back.0.0 back.0.1 back.1 back.2
    head_falls (at.Batches s) on k st = absurd on
    head_falls (at.Flushes s l) on k st = absurd on
    head_falls (at.Frees s) on k st = absurd on
    head_falls (at.Roots root) on k st = absurd on
    head_falls (at.Nexts root block) on k st = absurd on
    head_falls (at.Takes root block next) on k st = absurd on
    head_falls (at.Empties root) on k st = absurd on
    head_falls (at.Unuses root) on k st = absurd on
    head_falls at.Over on k st = absurd on

  heads_step : (x : AtHeads) → ((y : AtHeads) → ((points_at y < points_at x) ⊎ ((points_at y ≤ points_at x) × (row_at y < row_at x))) → Sure y.0) → Sure x.0
  heads_step (x, on) below =
      let is = settling_on x.c.stands on in
      back.step x is (λ m2 c2 told st.
      let led = leads defers left_over size roots i word x is m2 c2 told st in
      let y = next_point defers left_over size roots i word x m2 c2 told led in
      let f = head_falls x m2 c2 told x.c.stands on x.stage.here st in (
        led,
        others_end y (λ still. below (y, still)
            (subst (λ (m : Mem T). (weight c2 < weight x.c) ⊎ ((weight c2 ≤ weight x.c) × (row_to_go defers m c2.stands < row_to_go defers x.w.memory x.c.stands))) (sym led.memory) f)),
      ))

  pub all_end : (x : At) → Sure x
  all_end x = others_end x (λ on. by_two points_at row_at (λ (y : AtHeads). Sure y.0) heads_step (x, on))

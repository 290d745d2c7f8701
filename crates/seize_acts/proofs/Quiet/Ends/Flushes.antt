-- From within a flush: what is so of whatever comes behind it is so there.
use Rattle.std.specs.Prelude.{Option, nat_lt, if◌then◌else◌}
use Rattle.std.proofs.Common.{◌≡◌, ℕ, ◌+◌, ◌-◌, ◌<◌, ◌≤◌, ◌^◌, Bool, true, false, ◌⊎◌, inl, inr, refl, arith, sym, subst}
use Rattle.seize_words.specs.OneMemory.Mem.{Mem, Took, value_at}
use Rattle.seize_words.specs.OneMemory.Plan.{Steps}
use Rattle.seize.specs.declared.states.TheConstants.{LAST_SLOT}
use Rattle.seize.specs.declared.rows.settle.Settle.{Settle}
use Rattle.seize.specs.declared.rows.settle.Settled.{Settled}
use Rattle.seize.specs.declared.rows.settle.Settled.TheVariants as settled
use Rattle.seize.specs.declared.rows.reclaim_all.ReclaimAll.{ReclaimAll}
use Rattle.seize.specs.declared.rows.reclaim_all.Reclaiming.{Reclaiming}
use Rattle.seize.specs.declared.rows.reclaim_all.Reclaiming.TheVariants as at
use Rattle.seize.specs.Settle.{settle_plan}
use Rattle.seize.specs.ReclaimAll.{standing, next_batch, within, plan_at}
use Rattle.seize.specs.Sequence.{Calls}
use Rattle.seize.specs.WaitingSets.{Sets, flushed}
use Rattle.seize.specs.World.{World, Rests, Settles, Flush, Steps', settles_on}
use Rattle.seize_model.proofs.Given.SeizeRuleRows.Leaving.{steps_back}
use Rattle.seize_model.proofs.Given.SeizeRuleRows.Others.{with_here}
use Rattle.seize_model.proofs.Sets.Turns.All.{calls_come}
use Rattle.seize_model.proofs.Sets.Turns.Begins.{Shown}
use Rattle.seize_acts.proofs.Acts.Ends.{to_go, step_less}
use Rattle.seize_acts.specs.Quiet.Slots.{Flushing, Within, Led}
use Rattle.seize_acts.specs.Quiet.Promises.{IsOnSlots}
use Rattle.seize_acts.proofs.Quiet.Slots.Came.{came_on}
use Rattle.seize_acts.proofs.Quiet.Slots.Facts.{held_by}
use Rattle.seize_acts.proofs.Quiet.Slots.Flushes.{flush_step, flush_by}
use Rattle.seize_acts.proofs.Quiet.Slots.Rows.{lone_in, more_in, ends_in, settle_waits_not}
use Rattle.seize_acts.proofs.Quiet.Ends.Measures.{by_two}
use Rattle.seize_acts.proofs.Quiet.Ends.Frees.{IsFreeing, Point, Backward}

-- it looks at a batch
abbrev pub IsBatch : Reclaiming → Type 0
IsBatch p = (s : ℕ) × (p ≡ at.Batches s)

-- behind a slot comes the next one, another round, or all are given up
pub rounds_on : (c : ReclaimAll) (s : ℕ) → s < c.slots
    → IsBatch (next_batch c s).stands ⊎ ((t : ℕ) × ((next_batch c s).stands ≡ at.Frees t) × (t < (next_batch c s).slots))
rounds_on c s lt = by (nat_lt s (c.slots - 1)) c.again
  where
    by : (b a : Bool)
        → IsBatch (if b then standing c (at.Batches (s + 1)) else (if a then record c { again = false; stands = at.Batches 0 } else standing c (at.Frees 0))).stands
        ⊎ ((t : ℕ) × ((if b then standing c (at.Batches (s + 1)) else (if a then record c { again = false; stands = at.Batches 0 } else standing c (at.Frees 0))).stands ≡ at.Frees t)
        × (t < (if b then standing c (at.Batches (s + 1)) else (if a then record c { again = false; stands = at.Batches 0 } else standing c (at.Frees 0))).slots))
    by true a = inl (s + 1, refl)
    by false true = inl (0, refl)
    by false false = inr (0, refl, omega (arith, lt))

module _ {T : Type 0} (defers : T → Option ℕ) (left_over : T → Bool) (size roots i : ℕ) (word : size < 2 ^ 64) (Q : World T → ReclaimAll → Type 0) (back : Backward defers left_over size roots i word Q) where
  abbrev pub At : Type 0
  At = Point defers left_over size roots i word

  abbrev pub Sure : At → Type 0
  Sure x = Q x.w x.c

  abbrev pub ShownIn : World T → Sets → Type 0
  ShownIn v sets = Shown defers (LAST_SLOT + 1) size v sets

  module _ (v : World T) (s : ℕ) (sets : Sets) (shown : ShownIn v sets)
      (past : (y : At) → IsBatch y.c.stands ⊎ IsFreeing y.c y.c.stands → ShownIn y.w (flushed size s sets).sets → Sure y) where
    pub record AtFlush : Type 0 where
      pub x : At
      pub l : Settle
      pub is : x.c.stands ≡ at.Flushes s l
      pub lt : s < x.c.slots
      pub h : Within defers size i (Flush s) (Flushing x.c.slots s x.c.again) (Settles l) x.w
      pub before : h.before ≡ v

    abbrev less : AtFlush → ℕ
    less f = to_go defers size i f.x.w

    module _ (f : AtFlush) (below : (g : AtFlush) → (less g < less f) ⊎ ((less g ≤ less f) × (0 < 0)) → Sure g.x) (m2 : Mem T) where
      abbrev w : World T
      w = f.x.w

      abbrev c : ReclaimAll
      c = f.x.c

      abbrev flushing_at : Settle → ReclaimAll
      flushing_at d = standing c (at.Flushes s d)

      abbrev behind : ReclaimAll
      behind = next_batch (record c { again = true }) s

      abbrev after : Settle → Settled T → World T
      after d o = settles_on w i f.l m2 (d, o)

      abbrev TakesTo : Settle → Settled T → Type 0
      TakesTo d o = Steps Took value_at w.memory (settle_plan defers f.l) m2 (d, o)

      abbrev LedBy : ReclaimAll × Settled T → Type 0
      LedBy end = (led : Led defers size i roots w (at.Flushes s f.l) m2 end.0 end.1) × Q led.w2 end.0

      step : (d : Settle) (o : Settled T) → TakesTo d o → Steps' defers i (w.row i) w (after d o)
      step d o t = flush_step defers left_over size roots i word w f.x.came c.batch_size c.slots c.roots c.again f.x.stage.size_is f.x.stage.roots_are s f.l f.lt f.h m2 (d, o) t

      abbrev led : (d : Settle) (o : Settled T) → TakesTo d o → Led defers size i roots w (at.Flushes s f.l) m2 (within flushing_at behind (d, o)).0 (within flushing_at behind (d, o)).1
      led d o t = flush_by defers left_over size roots i word w f.x.came c.batch_size c.slots c.roots c.again f.x.stage.size_is f.x.stage.roots_are s f.l f.lt f.h m2 (d, o) t

      lower : (d : Settle) (o : Settled T) → TakesTo d o → to_go defers size i (after d o) < less f
      lower d o t =
          step_less defers size i w (lone_in defers size i (Flush s) (Flushing c.slots s c.again) (λ x so. so.rests) (Settles f.l) w f.h) (held_by defers size w f.x.came) (w.row i) (after d o) refl (step d o t)

      on : (d : Settle) (o : Settled T) → TakesTo d o → (after d o).row i ≡ Settles d → (y : At) → y.w ≡ after d o → y.c ≡ flushing_at d → Sure y
      on d o t row y ew ec =
          below (record {
            x = y;
            l = d;
            is = subst (λ (k : ReclaimAll). k.stands ≡ at.Flushes s d) (sym ec) refl;
            lt = subst (λ (k : ReclaimAll). s < k.slots) (sym ec) f.lt;
            h = (moved y.w y.c ew ec).0;
            before = (moved y.w y.c ew ec).1;
          }) (inl (subst (λ (u : World T). to_go defers size i u < less f) (sym ew) (lower d o t)))
        where
          moved : (u : World T) (k : ReclaimAll) → u ≡ after d o → k ≡ flushing_at d → (h : Within defers size i (Flush s) (Flushing k.slots s k.again) (Settles d) u) × (h.before ≡ v)
          moved u k eu ek =
              subst (λ (x : World T). (h : Within defers size i (Flush s) (Flushing k.slots s k.again) (Settles d) x) × (h.before ≡ v)) (sym eu)
              (subst (λ (q : ReclaimAll). (h : Within defers size i (Flush s) (Flushing q.slots s q.again) (Settles d) (after d o)) × (h.before ≡ v)) (sym ek)
              (more_in defers size i (Flush s) (Flushing c.slots s c.again) (λ x so. so.rests) (Settles f.l) (Settles d) w (after d o) f.h (step d o t) row, f.before))

      over : (d : Settle) → TakesTo d settled.Done → (y : At) → y.w ≡ after d settled.Done → y.c ≡ behind → Sure y
      over d t y ew ec =
          past y (subst (λ (k : ReclaimAll). IsBatch k.stands ⊎ IsFreeing k k.stands) (sym ec) (kind (rounds_on (record c { again = true }) s f.lt)))
          (subst (λ (u : World T). ShownIn u (flushed size s sets).sets) (sym ew)
          (calls_come defers (LAST_SLOT + 1) size refl word i (Flush s) v (after d settled.Done) sets shown (subst (λ (b : World T). Calls defers size i (Flush s) b (after d settled.Done)) f.before call)).shown)
        where
          call : Calls defers size i (Flush s) f.h.before (after d settled.Done)
          call = ends_in defers size i (Flush s) (Flushing c.slots s c.again) (λ x so. so.rests) (Settles f.l) w (after d settled.Done) f.h (step d settled.Done t) (with_here w.row i Rests)

          kind : IsBatch behind.stands ⊎ ((t : ℕ) × (behind.stands ≡ at.Frees t) × (t < behind.slots)) → IsBatch behind.stands ⊎ IsFreeing behind behind.stands
          kind (inl b) = inl b
          kind (inr (t, is, lt)) = inr (subst (λ (p : Reclaiming). IsFreeing behind p) (sym is) lt)

      -- where a step has led
      abbrev to_point : (c2 : ReclaimAll) (o : Settled T) → Led defers size i roots w (at.Flushes s f.l) m2 c2 o → At
      to_point c2 o k = record { w = k.w2; c = c2; came = came_on defers size w k.w2 k.events f.x.came k.runs; stage = k.stage }

      by : (d : Settle) (o : Settled T) → TakesTo d o → LedBy (within flushing_at behind (d, o))
      by d settled.Goes t =
          let k = led d settled.Goes t in (k, on d settled.Goes t (with_here w.row i (Settles d)) (to_point (flushing_at d) settled.Goes k) refl refl)
      by d settled.Waits t =
          absurd (settle_waits_not defers size i w f.x.came (lone_in defers size i (Flush s) (Flushing c.slots s c.again) (λ x so. so.rests) (Settles f.l) w f.h) f.l d m2 f.h.row_is t)
      by d (settled.Gave value) t =
          let k = led d (settled.Gave value) t in (k, on d (settled.Gave value) t (with_here w.row i (Settles d)) (to_point (flushing_at d) (settled.Gave value) k) refl refl)
      by d settled.Done t = let k = led d settled.Done t in (k, over d t (to_point behind settled.Goes k) refl refl)

      flush_next : (c2 : ReclaimAll) (told : Settled T) → Steps Took value_at w.memory (plan_at defers left_over c (at.Flushes s f.l)) m2 (c2, told) → LedBy (c2, told)
      flush_next c2 told st =
          let k = steps_back (within flushing_at behind) w.memory m2 (settle_plan defers f.l) (c2, told) st in subst LedBy (sym k.2) (by k.0.0 k.0.1 k.1)

    flush_step_ends : (f : AtFlush) → ((g : AtFlush) → (less g < less f) ⊎ ((less g ≤ less f) × (0 < 0)) → Sure g.x) → Sure f.x
    flush_step_ends f below =
        back.step f.x (subst IsOnSlots (sym f.is) tt)
        (subst (λ (p : Reclaiming). (m2 : Mem T) (c2 : ReclaimAll) (told : Settled T) → Steps Took value_at f.x.w.memory (plan_at defers left_over f.x.c p) m2 (c2, told)
        → (led : Led defers size i roots f.x.w p m2 c2 told) × Q led.w2 c2) (sym f.is) (flush_next f below))

    pub flush_ends : (f : AtFlush) → Sure f.x
    flush_ends f = by_two less (λ (g : AtFlush). 0) (λ (g : AtFlush). Sure g.x) flush_step_ends f

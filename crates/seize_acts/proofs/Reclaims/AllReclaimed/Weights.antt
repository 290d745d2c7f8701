-- Reclaiming everything, alone: each step between two rows, and each row but one that reclaims a value, leaves fewer points before it.
use Rattle.std.specs.Prelude.{Option, nat_lt, ◌==◌, if◌then◌else◌}
use Rattle.std.proofs.Common.{◌≡◌, ℕ, suc, ◌+◌, ◌-◌, ◌*◌, ◌<◌, ◌≤◌, Bool, true, false, List, ◌⊎◌, inl, inr, refl, arith, ap, sym, subst}
use Rattle.seize_words.specs.declared.at.At.TheVariants as name
use Rattle.seize_words.specs.OneMemory.Mem.{Mem, Took, value_at}
use Rattle.seize_words.specs.OneMemory.Plan.{Ends, Steps}
use Rattle.seize_words.proofs.OneMemory.OneOwner.Operations.{loaded, stored}
use Rattle.seize.specs.declared.states.TheConstants.{HEAD, BATCH, NEVER, FREE, IDLE, ACTIVE, LAST_SLOT}
use Rattle.seize.specs.declared.advance.Advance.{Advance}
use Rattle.seize.specs.declared.rows.enter.Unregister.{Unregister}
use Rattle.seize.specs.declared.rows.settle.Settle.{Settle}
use Rattle.seize.specs.declared.rows.settle.Settled.{Settled}
use Rattle.seize.specs.declared.rows.settle.Settled.TheVariants.{Goes, Waits, Gave, Done}
use Rattle.seize.specs.declared.rows.leave.Leave.{Leave}
use Rattle.seize.specs.declared.rows.reclaim_all.ReclaimAll.{ReclaimAll}
use Rattle.seize.specs.declared.rows.reclaim_all.Reclaiming.{Reclaiming}
use Rattle.seize.specs.declared.rows.reclaim_all.Reclaiming.TheVariants as at
use Rattle.seize.specs.Enter.{unregister_plan}
use Rattle.seize.specs.Leave.{leaving, leave_plan}
use Rattle.seize.specs.Settle.{flushing, settle_plan}
use Rattle.seize.specs.ReclaimAll.{standing, first_root, first_batch, next_head, next_batch, next_free, to, within, head_read, batch_read, plan_at, reclaim_all_plan}
use Rattle.seize.specs.World.{Flush, Leave'}
use Rattle.seize_model.specs.declared.calls.WholeCall.TheVariants as call
use Rattle.seize_model.specs.Alone.Alone.{History}
use Rattle.seize_acts.specs.Reclaims.AllReclaimed.{is_within, is_flushing, weight_at}
use Rattle.seize_acts.specs.Reclaims.Roots.{ReclaimedAtPoint}
use Rattle.seize_model.proofs.Ends.Settling.Most.{settle_to_go}
use Rattle.seize_model.proofs.Ends.Rows.Lone.{leave_to_go}
use Rattle.seize_model.proofs.Given.SeizeRuleRows.Leaving.{steps_back}
use Rattle.seize_acts.proofs.Reclaims.AllReclaimed.Points.{OnSlots, Point, AtSlots, AtRoots}
use Rattle.seize_acts.proofs.Reclaims.Roots.Cleared.{clear_to_go, clear_still}
use Rattle.seize_model.proofs.Alone.Whole.Ends.{call_ends}
use Rattle.seize_words.proofs.General.{less_so as lt_of}

abbrev pub weight : ReclaimAll → ℕ
weight c = weight_at c c.stands

-- how many points lie before where it goes on, and that no row is under way there

abbrev pub Rested : ReclaimAll → ℕ → Type 0
Rested c k = (weight c ≤ k) × (is_within c.stands ≡ false)

pub at_first_root : (c : ReclaimAll) → Rested (first_root c) (6 * c.roots)
at_first_root c = by (c.roots == 0)
  where
    by : (b : Bool) → Rested (if b then standing c at.Over else standing c (at.Roots 0)) (6 * c.roots)
    by true = (omega arith, refl)
    by false = (omega arith, refl)

some_more : (b : Bool) (k : ℕ) → (if b then k else 0) ≤ k
some_more true k = omega arith
some_more false k = omega arith

pub at_first_batch : (c : ReclaimAll) → c.slots ≤ LAST_SLOT + 1 → Rested (first_batch c) (3 * (LAST_SLOT + 1) + 6 * c.roots + 3)
at_first_batch c le = by (c.slots == 0)
  where
    by : (b : Bool) → Rested (if b then first_root c else standing c (at.Batches 0)) (3 * (LAST_SLOT + 1) + 6 * c.roots + 3)
    by true = let k = at_first_root c in (let l = k.0 in omega (arith, l), k.1)
    by false = (let m = some_more c.again (c.slots + 1) in omega (arith, m, le), refl)

pub at_next_head : (c : ReclaimAll) (s : ℕ) → s < LAST_SLOT + 1 → Rested (next_head c s) (2 * (LAST_SLOT + 1 - s) + 3 * (LAST_SLOT + 1) + 6 * c.roots + 1)
at_next_head c s lt = by (nat_lt s LAST_SLOT) refl
  where
    by : (b : Bool) → nat_lt s LAST_SLOT ≡ b
        → Rested (if b then standing c (at.Heads (s + 1)) else first_batch (record c { slots = LAST_SLOT + 1 })) (2 * (LAST_SLOT + 1 - s) + 3 * (LAST_SLOT + 1) + 6 * c.roots + 1)
    by true e = (let l = lt_of s LAST_SLOT e in omega (arith, l), refl)
    by false e = let k = at_first_batch (record c { slots = LAST_SLOT + 1 }) (omega arith) in (let l = k.0 in omega (arith, l, lt), k.1)

pub at_next_batch : (c : ReclaimAll) (s : ℕ) → s < c.slots → (weight (next_batch c s) < weight_at c (at.Batches s)) × (is_within (next_batch c s).stands ≡ false)
at_next_batch c s lt = by (nat_lt s (c.slots - 1)) refl c.again
  where
    by : (b : Bool) → nat_lt s (c.slots - 1) ≡ b → (a : Bool)
        → (weight (if b then standing (record c { again = a }) (at.Batches (s + 1)) else (if a then record c { again = false; stands = at.Batches 0 } else standing (record c { again = a }) (at.Frees 0)))
        < (c.slots - s) + (if a then c.slots + 1 else 0) + c.slots + 6 * c.roots + 2)
        × (is_within (if b then standing (record c { again = a }) (at.Batches (s + 1)) else (if a then record c { again = false; stands = at.Batches 0 } else standing (record c { again = a }) (at.Frees 0))).stands ≡ false)
    by true e true = (let l = lt_of s (c.slots - 1) e in omega (arith, l), refl)
    by true e false = (let l = lt_of s (c.slots - 1) e in omega (arith, l), refl)
    by false e true = (omega (arith, lt), refl)
    by false e false = (omega (arith, lt), refl)

pub at_next_free : (c : ReclaimAll) (s : ℕ) → s < c.slots → (weight (next_free c s) < weight_at c (at.Frees s)) × (is_within (next_free c s).stands ≡ false)
at_next_free c s lt = by (nat_lt s (c.slots - 1)) refl
  where
    by : (b : Bool) → nat_lt s (c.slots - 1) ≡ b
        → (weight (if b then standing c (at.Frees (s + 1)) else first_root c) < (c.slots - s) + 6 * c.roots + 1) × (is_within (if b then standing c (at.Frees (s + 1)) else first_root c).stands ≡ false)
    by true e = (let l = lt_of s (c.slots - 1) e in omega (arith, l), refl)
    by false e = let k = at_first_root c in (let l = k.0 in omega (arith, l, lt), k.1)

-- how many steps a row within takes
abbrev pub row_to_go : {T : Type 0} → (T → Option ℕ) → Mem T → Reclaiming → ℕ
row_to_go defers m (at.Leaves slot leave) = suc (leave_to_go defers m leave)
row_to_go defers m (at.Flushes slot settle) = suc (settle_to_go defers m settle)
row_to_go defers m (at.Heads slot) = 0
row_to_go defers m (at.Retakes slot) = 0
row_to_go defers m (at.Batches slot) = 0
row_to_go defers m (at.Frees slot) = 0
row_to_go defers m (at.Roots root) = 0
row_to_go defers m (at.Nexts root block) = 0
row_to_go defers m (at.Takes root block next) = 0
row_to_go defers m (at.Empties root) = 0
row_to_go defers m (at.Unuses root) = 0
row_to_go defers m at.Over = 0

pub none_to_go : {T : Type 0} (defers : T → Option ℕ) (m : Mem T) (p : Reclaiming) → is_within p ≡ false → row_to_go defers m p ≡ 0
none_to_go defers m (at.Leaves slot leave) e = absurd (cc e)
none_to_go defers m (at.Flushes slot settle) e = absurd (cc e)
none_to_go defers m (at.Heads slot) e = refl
none_to_go defers m (at.Retakes slot) e = refl
none_to_go defers m (at.Batches slot) e = refl
none_to_go defers m (at.Frees slot) e = refl
none_to_go defers m (at.Roots root) e = refl
none_to_go defers m (at.Nexts root block) e = refl
none_to_go defers m (at.Takes root block next) e = refl
none_to_go defers m (at.Empties root) e = refl
none_to_go defers m (at.Unuses root) e = refl
none_to_go defers m at.Over e = refl

pub not_flushing : (p : Reclaiming) → is_within p ≡ false → is_flushing p ≡ false
not_flushing (at.Leaves slot leave) e = absurd (cc e)
not_flushing (at.Flushes slot settle) e = absurd (cc e)
not_flushing (at.Heads slot) e = refl
not_flushing (at.Retakes slot) e = refl
not_flushing (at.Batches slot) e = refl
not_flushing (at.Frees slot) e = refl
not_flushing (at.Roots root) e = refl
not_flushing (at.Nexts root block) e = refl
not_flushing (at.Takes root block next) e = refl
not_flushing (at.Empties root) e = refl
not_flushing (at.Unuses root) e = refl
not_flushing at.Over e = refl

module _ {T : Type 0} (c : ReclaimAll) (end : ReclaimAll × Settled T) where
  pub lower : (k : ℕ) (c4 : ReclaimAll) → end ≡ (c4, Goes) → weight c4 < k → weight end.0 < k
  lower k c4 e l = subst (λ (q : ReclaimAll × Settled T). weight q.0 < k) (sym e) l

  -- steps between two rows

  pub head_lower : (s : ℕ) → s < LAST_SLOT + 1 → (x y z : Bool) (shown : ℕ → Option T)
      → Ends shown (if x then to (first_batch (record c { slots = s })) else
      (if y then to (standing c (at.Retakes s)) else
      (if z then to (next_head c s) else to (standing c (at.Leaves s (leaving s c.batch_size IDLE false)))))) end
      → weight end.0 < weight_at c (at.Heads s)
  head_lower s lt true y z shown e = let k = (at_first_batch (record c { slots = s }) (omega (arith, lt))).0 in lower (weight_at c (at.Heads s)) (first_batch (record c { slots = s })) e (omega (arith, k, lt))
  head_lower s lt false true z shown e = lower (weight_at c (at.Heads s)) (standing c (at.Retakes s)) e (omega arith)
  head_lower s lt false false true shown e = let k = (at_next_head c s lt).0 in lower (weight_at c (at.Heads s)) (next_head c s) e (omega (arith, k))
  head_lower s lt false false false shown e = lower (weight_at c (at.Heads s)) (standing c (at.Leaves s (leaving s c.batch_size IDLE false))) e (omega arith)

  pub batch_lower : (s : ℕ) → s < c.slots → (x : Bool) (shown : ℕ → Option T) → Ends shown (if x then to (next_batch c s) else to (standing c (at.Flushes s (flushing s c.batch_size)))) end
      → weight end.0 < weight_at c (at.Batches s)
  batch_lower s lt true shown e = lower (weight_at c (at.Batches s)) (next_batch c s) e (at_next_batch c s lt).0
  batch_lower s lt false shown e = lower (weight_at c (at.Batches s)) (standing c (at.Flushes s (flushing s c.batch_size))) e (omega (arith, lt))

  pub leave_less : (s : ℕ) → s < LAST_SLOT + 1 → (l2 : Leave) (p : Settled T) → end ≡ within (λ (k : Leave). standing c (at.Leaves s k)) (next_head c s) (l2, p)
      → (weight end.0 ≤ weight_at c (at.Leaves s l2)) × (is_flushing end.0.stands ≡ false)
  leave_less s lt l2 Goes e = subst (λ (q : ReclaimAll × Settled T). (weight q.0 ≤ weight_at c (at.Leaves s l2)) × (is_flushing q.0.stands ≡ false)) (sym e) (omega arith, refl)
  leave_less s lt l2 Waits e = subst (λ (q : ReclaimAll × Settled T). (weight q.0 ≤ weight_at c (at.Leaves s l2)) × (is_flushing q.0.stands ≡ false)) (sym e) (omega arith, refl)
  leave_less s lt l2 (Gave value) e = subst (λ (q : ReclaimAll × Settled T). (weight q.0 ≤ weight_at c (at.Leaves s l2)) × (is_flushing q.0.stands ≡ false)) (sym e) (omega arith, refl)
  leave_less s lt l2 Done e =
      let k = at_next_head c s lt in
      subst (λ (q : ReclaimAll × Settled T). (weight q.0 ≤ weight_at c (at.Leaves s l2)) × (is_flushing q.0.stands ≡ false)) (sym e)
      (let l = k.0 in omega (arith, l), not_flushing (next_head c s).stands k.1)

module _ {T : Type 0} (defers : T → Option ℕ) (left_over : T → Bool) (batch_size roots : ℕ) (m : Mem T) (h : History) (lists : ℕ → List ℕ)
    (c : ReclaimAll) (m2 : Mem T) (given : List T) (m3 : Mem T) (end : ReclaimAll × Settled T) where
  abbrev OnSlotsAt : Reclaiming → Type 0
  OnSlotsAt p = OnSlots defers left_over batch_size roots m h lists p c m2 given

  slots_lower : (p : Reclaiming) → is_within p ≡ false → OnSlotsAt p → Steps Took value_at m2 (plan_at defers left_over c p) m3 end → weight end.0 < weight_at c p
  slots_lower (at.Heads s) o x st =
      let d = loaded m2 (head_read c s) (name.Slot s HEAD) m3 end st in head_lower c end s x.here.1 (d.0 == NEVER) (d.0 == FREE) (nat_lt d.0 ACTIVE) (value_at m2) d.3
  slots_lower (at.Retakes s) o x st =
      let d = stored m2 (λ out. to (next_head c s)) (name.Slot s HEAD) IDLE m3 end st in
      let k = (at_next_head c s x.here.1).0 in
      lower c end (weight_at c (at.Retakes s)) (next_head c s) d.1 (omega (arith, k))
  slots_lower (at.Batches s) o x st = let d = loaded m2 (batch_read c s) (name.Slot s BATCH) m3 end st in batch_lower c end s x.here.0 (d.0 == 0) (value_at m2) d.3
  slots_lower (at.Frees s) o x st =
      let row : Unregister = record { slot = s } in
      let goes : Unregister × Advance Unit → ReclaimAll × Settled T = λ k. (next_free c s, Goes) in
      let back = steps_back goes m2 m3 (unregister_plan row) end st in
      lower c end (weight_at c (at.Frees s)) (next_free c s) back.2 (at_next_free c s x.here.0).0
  slots_lower (at.Leaves s l) o x st = absurd (cc o)
  slots_lower (at.Flushes s d) o x st = absurd (cc o)
  slots_lower (at.Roots root) o x st = absurd x.row
  slots_lower (at.Nexts root block) o x st = absurd x.row
  slots_lower (at.Takes root block next) o x st = absurd x.row
  slots_lower (at.Empties root) o x st = absurd x.row
  slots_lower (at.Unuses root) o x st = absurd x.row
  slots_lower at.Over o x st = absurd x.row

  roots_weigh : (n : Mem T) (d : ReclaimAll) (p : Reclaiming) (back : List ℕ) → ReclaimedAtPoint n lists roots p back → weight_at d p ≡ clear_to_go (standing d p)
  roots_weigh n d (at.Roots root) back k = refl
  roots_weigh n d (at.Nexts root block) back k = refl
  roots_weigh n d (at.Takes root block next) back k = refl
  roots_weigh n d (at.Empties root) back k = refl
  roots_weigh n d (at.Unuses root) back k = refl
  roots_weigh n d at.Over back k = refl
  roots_weigh n d (at.Heads slot) back k = absurd k
  roots_weigh n d (at.Retakes slot) back k = absurd k
  roots_weigh n d (at.Leaves slot leave) back k = absurd k
  roots_weigh n d (at.Batches slot) back k = absurd k
  roots_weigh n d (at.Flushes slot settle) back k = absurd k
  roots_weigh n d (at.Frees slot) back k = absurd k

  pub point_lower : Point defers left_over batch_size roots m h lists c m2 given → is_within c.stands ≡ false → Steps Took value_at m2 (reclaim_all_plan defers left_over c) m3 end
      → (end.1 ≡ Goes) ⊎ (end.1 ≡ Waits) → weight end.0 < weight c
  point_lower (AtSlots x) o st going = slots_lower c.stands o x st
  point_lower (AtRoots x) o st going =
      let k = clear_still defers left_over batch_size roots x.middle x.between lists c m2 x.behind x.clearing m3 end.0 end.1 st going in
      let a = roots_weigh x.middle c c.stands x.clearing.back x.clearing.stands in
      let b = roots_weigh x.middle end.0 end.0.stands k.0.back k.0.stands in
      let l = k.1 in
      omega (arith, a, b, l)

  -- a row within

  less_at : (p : Reclaiming) → is_within p ≡ true → is_flushing p ≡ false → OnSlotsAt p → Steps Took value_at m2 (plan_at defers left_over c p) m3 end
      → (weight end.0 ≤ weight_at c p) × (is_flushing end.0.stands ≡ false)
  less_at (at.Leaves s l) o f x st =
      let back = steps_back (within (λ (k : Leave). standing c (at.Leaves s k)) (next_head c s)) m2 m3 (leave_plan defers l) end st in leave_less c end s x.here.1 back.0.0 back.0.1 back.2
  less_at (at.Flushes s d) o f x st = absurd (cc f)
  less_at (at.Heads s) o f x st = absurd (cc o)
  less_at (at.Retakes s) o f x st = absurd (cc o)
  less_at (at.Batches s) o f x st = absurd (cc o)
  less_at (at.Frees s) o f x st = absurd (cc o)
  less_at (at.Roots root) o f x st = absurd (cc o)
  less_at (at.Nexts root block) o f x st = absurd (cc o)
  less_at (at.Takes root block next) o f x st = absurd (cc o)
  less_at (at.Empties root) o f x st = absurd (cc o)
  less_at (at.Unuses root) o f x st = absurd (cc o)
  less_at at.Over o f x st = absurd (cc o)

  -- it is not on roots
  not_roots : (n : Mem T) (p : Reclaiming) (back : List ℕ) → is_within p ≡ true → ReclaimedAtPoint n lists roots p back → ⊥
  not_roots n (at.Leaves s l) back o k = k
  not_roots n (at.Flushes s d) back o k = k
  not_roots n (at.Heads s) back o k = k
  not_roots n (at.Retakes s) back o k = k
  not_roots n (at.Batches s) back o k = k
  not_roots n (at.Frees s) back o k = k
  not_roots n (at.Roots root) back o k = cc o
  not_roots n (at.Nexts root block) back o k = cc o
  not_roots n (at.Takes root block next) back o k = cc o
  not_roots n (at.Empties root) back o k = cc o
  not_roots n (at.Unuses root) back o k = cc o
  not_roots n at.Over back o k = cc o

  pub row_less : Point defers left_over batch_size roots m h lists c m2 given → is_within c.stands ≡ true → is_flushing c.stands ≡ false → Steps Took value_at m2 (reclaim_all_plan defers left_over c) m3 end
      → (weight end.0 ≤ weight c) × (is_flushing end.0.stands ≡ false)
  row_less (AtSlots x) o f st = less_at c.stands o f x st
  row_less (AtRoots x) o f st = absurd (not_roots x.middle c.stands x.clearing.back o x.clearing.stands)

  abbrev Falls : ℕ → Type 0
  Falls k = row_to_go defers m3 end.0.stands < k

  ended_row : (k : ℕ) (c4 : ReclaimAll) → end ≡ (c4, Goes) → is_within c4.stands ≡ false → Falls (suc k)
  ended_row k c4 e o =
      subst (λ (q : ReclaimAll × Settled T). row_to_go defers m3 q.0.stands < suc k) (sym e) (let z = none_to_go defers m3 c4.stands o in omega (arith, z))

  leave_falls : (s : ℕ) (l : Leave) (x : OnSlotsAt (at.Leaves s l)) (l2 : Leave) (p : Settled T) → Steps Took value_at m2 (leave_plan defers l) m3 (l2, p)
      → end ≡ within (λ (k : Leave). standing c (at.Leaves s k)) (next_head c s) (l2, p) → (end.1 ≡ Goes) ⊎ (end.1 ≡ Waits) → Falls (suc (leave_to_go defers m2 l))
  leave_falls s l x l2 Goes st e o =
      subst (λ (q : ReclaimAll × Settled T). row_to_go defers m3 q.0.stands < suc (leave_to_go defers m2 l)) (sym e)
      (let k = call_ends defers batch_size roots x.m1 x.h1 (Leave' s) m2 x.more m3 (call.Leaves l) (call.Leaves l2) Goes (inl refl) x.row st in omega (arith, k))
  leave_falls s l x l2 Waits st e o =
      subst (λ (q : ReclaimAll × Settled T). row_to_go defers m3 q.0.stands < suc (leave_to_go defers m2 l)) (sym e)
      (let k = call_ends defers batch_size roots x.m1 x.h1 (Leave' s) m2 x.more m3 (call.Leaves l) (call.Leaves l2) Waits (inr refl) x.row st in omega (arith, k))
  leave_falls s l x l2 (Gave value) st e (inl o) = absurd (let k = ap (λ (q : ReclaimAll × Settled T). q.1) e in cc (k, o))
  leave_falls s l x l2 (Gave value) st e (inr o) = absurd (let k = ap (λ (q : ReclaimAll × Settled T). q.1) e in cc (k, o))
  leave_falls s l x l2 Done st e o = ended_row (leave_to_go defers m2 l) (next_head c s) e (at_next_head c s x.here.1).1

  flush_falls : (s : ℕ) (d : Settle) (x : OnSlotsAt (at.Flushes s d)) (d2 : Settle) (p : Settled T) → Steps Took value_at m2 (settle_plan defers d) m3 (d2, p)
      → end ≡ within (λ (k : Settle). standing c (at.Flushes s k)) (next_batch (record c { again = true }) s) (d2, p) → (end.1 ≡ Goes) ⊎ (end.1 ≡ Waits) → Falls (suc (settle_to_go defers m2 d))
  flush_falls s d x d2 Goes st e o =
      subst (λ (q : ReclaimAll × Settled T). row_to_go defers m3 q.0.stands < suc (settle_to_go defers m2 d)) (sym e)
      (let k = call_ends defers batch_size roots x.m1 x.h1 (Flush s) m2 x.more m3 (call.Settles d) (call.Settles d2) Goes (inl refl) x.row st in omega (arith, k))
  flush_falls s d x d2 Waits st e o =
      subst (λ (q : ReclaimAll × Settled T). row_to_go defers m3 q.0.stands < suc (settle_to_go defers m2 d)) (sym e)
      (let k = call_ends defers batch_size roots x.m1 x.h1 (Flush s) m2 x.more m3 (call.Settles d) (call.Settles d2) Waits (inr refl) x.row st in omega (arith, k))
  flush_falls s d x d2 (Gave value) st e (inl o) = absurd (let k = ap (λ (q : ReclaimAll × Settled T). q.1) e in cc (k, o))
  flush_falls s d x d2 (Gave value) st e (inr o) = absurd (let k = ap (λ (q : ReclaimAll × Settled T). q.1) e in cc (k, o))
  flush_falls s d x d2 Done st e o = ended_row (settle_to_go defers m2 d) (next_batch (record c { again = true }) s) e (at_next_batch (record c { again = true }) s x.here.0).1

  falls_at : (p : Reclaiming) → is_within p ≡ true → OnSlotsAt p → Steps Took value_at m2 (plan_at defers left_over c p) m3 end → (end.1 ≡ Goes) ⊎ (end.1 ≡ Waits) → Falls (row_to_go defers m2 p)
  falls_at (at.Leaves s l) o x st g =
      let back = steps_back (within (λ (k : Leave). standing c (at.Leaves s k)) (next_head c s)) m2 m3 (leave_plan defers l) end st in leave_falls s l x back.0.0 back.0.1 back.1 back.2 g
  falls_at (at.Flushes s d) o x st g =
      let back = steps_back (within (λ (k : Settle). standing c (at.Flushes s k)) (next_batch (record c { again = true }) s)) m2 m3 (settle_plan defers d) end st in
      flush_falls s d x back.0.0 back.0.1 back.1 back.2 g
  falls_at (at.Heads s) o x st g = absurd (cc o)
  falls_at (at.Retakes s) o x st g = absurd (cc o)
  falls_at (at.Batches s) o x st g = absurd (cc o)
  falls_at (at.Frees s) o x st g = absurd (cc o)
  falls_at (at.Roots root) o x st g = absurd (cc o)
  falls_at (at.Nexts root block) o x st g = absurd (cc o)
  falls_at (at.Takes root block next) o x st g = absurd (cc o)
  falls_at (at.Empties root) o x st g = absurd (cc o)
  falls_at (at.Unuses root) o x st g = absurd (cc o)
  falls_at at.Over o x st g = absurd (cc o)

  pub row_falls : Point defers left_over batch_size roots m h lists c m2 given → is_within c.stands ≡ true → Steps Took value_at m2 (reclaim_all_plan defers left_over c) m3 end
      → (end.1 ≡ Goes) ⊎ (end.1 ≡ Waits) → Falls (row_to_go defers m2 c.stands)
  row_falls (AtSlots x) o st g = falls_at c.stands o x st g
  row_falls (AtRoots x) o st g = absurd (not_roots x.middle c.stands x.clearing.back o x.clearing.stands)

  -- a row within is not the end

  not_done : (A : Type 0) (inside : A → ReclaimAll) (behind : ReclaimAll) (a : A) (p : Settled T) → end ≡ within inside behind (a, p) → end.1 ≡ Done → ⊥
  not_done A inside behind a Goes e d = let k = ap (λ (q : ReclaimAll × Settled T). q.1) e in cc (k, d)
  not_done A inside behind a Waits e d = let k = ap (λ (q : ReclaimAll × Settled T). q.1) e in cc (k, d)
  not_done A inside behind a (Gave value) e d = let k = ap (λ (q : ReclaimAll × Settled T). q.1) e in cc (k, d)
  not_done A inside behind a Done e d = let k = ap (λ (q : ReclaimAll × Settled T). q.1) e in cc (k, d)

  not_done_at : (p : Reclaiming) → is_within p ≡ true → Steps Took value_at m2 (plan_at defers left_over c p) m3 end → end.1 ≡ Done → ⊥
  not_done_at (at.Leaves s l) o st d =
      let back = steps_back (within (λ (k : Leave). standing c (at.Leaves s k)) (next_head c s)) m2 m3 (leave_plan defers l) end st in
      not_done Leave (λ k. standing c (at.Leaves s k)) (next_head c s) back.0.0 back.0.1 back.2 d
  not_done_at (at.Flushes s f) o st d =
      let back = steps_back (within (λ (k : Settle). standing c (at.Flushes s k)) (next_batch (record c { again = true }) s)) m2 m3 (settle_plan defers f) end st in
      not_done Settle (λ k. standing c (at.Flushes s k)) (next_batch (record c { again = true }) s) back.0.0 back.0.1 back.2 d
  not_done_at (at.Heads s) o st d = cc o
  not_done_at (at.Retakes s) o st d = cc o
  not_done_at (at.Batches s) o st d = cc o
  not_done_at (at.Frees s) o st d = cc o
  not_done_at (at.Roots root) o st d = cc o
  not_done_at (at.Nexts root block) o st d = cc o
  not_done_at (at.Takes root block next) o st d = cc o
  not_done_at (at.Empties root) o st d = cc o
  not_done_at (at.Unuses root) o st d = cc o
  not_done_at at.Over o st d = cc o

  pub row_not_done : is_within c.stands ≡ true → Steps Took value_at m2 (reclaim_all_plan defers left_over c) m3 end → end.1 ≡ Done → ⊥
  row_not_done o st d = not_done_at c.stands o st d

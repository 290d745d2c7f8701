-- A settling goes on: its next operation may be made, and leads on.
use Rattle.std.specs.Prelude.{Option, Some, length}
use Rattle.std.proofs.Common.{◌≡◌, ℕ, ◌+◌, ◌<◌, Bool, true, false, refl, sym, subst, ap, ◌∙◌, inl, inr}
use Rattle.seize_words.specs.OneMemory.Mem.{Mem, Can, Took, value_at}
use Rattle.seize_words.specs.OneMemory.Op.{Op, Out}
use Rattle.seize_words.specs.OneMemory.Plan.{Plan, Turn, Do, Ends, Steps, May}
use Rattle.seize_words.proofs.OneMemory.Plans.{steps_as}
use Rattle.seize.specs.declared.states.TheConstants.{LAST_SLOT}
use Rattle.seize.specs.declared.rows.settle.Settle.{Settle}
use Rattle.seize.specs.declared.rows.settle.Settling.{Settling}
use Rattle.seize.specs.declared.rows.settle.Settling.TheVariants as at
use Rattle.seize.specs.declared.rows.settle.Settled.{Settled}
use Rattle.seize.specs.declared.rows.settle.Settled.TheVariants.{Goes, Waits, Gave, Done}
use Rattle.seize.specs.declared.rows.leave.Leave.{Leave}
use Rattle.seize.specs.declared.rows.leave.Leaving.TheVariants as leaving_at
use Rattle.seize.specs.Settle.{settle_plan, plan_at}
use Rattle.seize.specs.Leave.{standing, settled as leave_settled}
use Rattle.seize.specs.World.{World, Row, Use, Steps', settles_on, leaves_on, with_at}
use Rattle.seize.specs.World as world
use Rattle.seize_acts.proofs.Given.SeizeMemoryWords.View.{view}
use Rattle.seize_acts.proofs.Given.SeizeRuleRows.Others.{with_here}
use Rattle.seize_acts.proofs.Given.SeizeRuleRows.Known.{FitsRow}
use Rattle.seize_acts.proofs.Given.SeizeRulePoints.Known.{Fits as FitsSettle}
use Rattle.seize_acts.proofs.Given.SeizeRulePoints.Stepped.{IsGoing}
use Rattle.seize_acts.proofs.Given.SeizeRulePoints.Settle.{is_over, settle_steps}
use Rattle.seize_acts.proofs.Given.SeizeRuleWorld.Start.{words_good}
use Rattle.seize_straight.specs.Going.{DropGoes}
use Rattle.seize_acts.proofs.Given.SeizeAloneHistories.Reached.{Reached}
use Rattle.seize_acts.proofs.Acts.Answers.{ended}
use Rattle.seize_acts.proofs.Acts.Steps.{sees_end}
use Rattle.seize_acts.proofs.Given.SeizeEndsBatches.Rows.{settles_memory}
use Rattle.seize_acts.specs.Bounds.Bounds.{HasCounted, HasTried, IsAloneOnSlot, SettlesWithin, TriesWithin}
use Rattle.seize_views.specs.Views.Rows.{settles_for, used_for, leave_of, counting, IsLooked, IsBounded}
use Rattle.seize_views.specs.Views.Told.{shown_by, FollowsBy, told}
use Rattle.seize_views.specs.Views.Promises.{op_in}
use Rattle.seize_views.specs.declared.view.SlotView.{SlotView}
use Rattle.seize_views.specs.declared.view.Becomes.{Becomes}
use Rattle.seize_views.specs.declared.view.SlotView.TheVariants.{Settles}
use Rattle.seize_views.specs.declared.view.Why.{Why}
use Rattle.seize_views.specs.declared.view.Why.TheVariants.{Retiring, Ending}
use Rattle.seize_views.specs.declared.view.Fixed.{Fixed}
use Rattle.seize_acts.proofs.Bounds.Bounds.Passing.{steps_within}
use Rattle.seize_views.proofs.Views.InWorld.{IsLikeness, HasRow, GoesTo, MayMake, is_reached, may, used_as, slot_of}
use Rattle.seize_views.proofs.Views.Reclaims.{fits_settle, may_settle}
use Rattle.seize_views.proofs.Views.Looks.{rest_of, looked}
use Rattle.seize_acts.proofs.Given.SeizeRuleRows.Leave.{over_is}
use Rattle.seize_words.proofs.General.{same_some}

module _ {T R : Type 0} where
  -- what may be done, and is an operation, may be made, and comes to an end
  pub may_op : (m : Mem T) (plan : Plan T R) (op : Op T) → op_in plan ≡ Some op → May Can Took value_at m plan
      → Can m op
      × ((out : Out T) (n : Mem T) → Took m op out n → (end : R) × Steps Took value_at m plan n end × Ends (value_at n) (rest_of plan out) end)
  may_op m (Turn rest) op e may = absurd (cc e)
  may_op m (Do o rest) op e may =
      subst (λ (x : Op T). Can m x × ((out : Out T) (n : Mem T) → Took m x out n → (end : R) × Steps Took value_at m (Do o rest) n end
      × Ends (value_at n) (rest out) end)) (same_some o op e) (may.0, comes)
    where
      comes : (out : Out T) (n : Mem T) → Took m o out n → (end : R) × Steps Took value_at m (Do o rest) n end × Ends (value_at n) (rest out) end
      comes out n took =
          let s = sees_end (value_at n) (rest out) (may.1 out n took) in let d = ended (value_at n) (rest out) s.0 s.1 in (s.0, (out, took, d), d)

  pub follows : (shown : ℕ → Option T) (plan : Plan T R) (op : Op T) (out : Out T) (end : R) → op_in plan ≡ Some op → Ends shown (rest_of plan out) end
      → FollowsBy shown plan out end
  follows shown (Turn rest) op out end e ends = absurd (cc e)
  follows shown (Do o rest) op out end e ends = ends

module _ {T : Type 0} where
  further : (told : Settled T) → IsGoing told → DropGoes told
  further Goes going = tt
  further Waits going = tt
  further (Gave value) going = tt
  further Done going = absurd going

module _ {T : Type 0} (defers : T → Option ℕ) where
  -- a settling that makes an operation is not over
  not_over : (c : Settle) (p : Settling) (op : Op T) → op_in (plan_at defers c p) ≡ Some op → (y : Bool) → is_over p ≡ y → y ≡ false
  not_over c p op e false is = refl
  not_over c p op e true is = absurd (cc (subst (λ (q : Settling). op_in (plan_at defers c q) ≡ Some op) (over_is p is) e))

module _ {T : Type 0} (defers : T → Option ℕ) (fixed : Fixed) (Is : Use → Use → Type 0) (like : IsLikeness Is) (w : World T) (i : ℕ) (c : Settle) (why : Why)
    (seen : Option (ℕ × T)) (left : ℕ) (h : HasRow defers fixed Is w i (Settles c why seen left)) where
  abbrev v : SlotView T
  v = Settles c why seen left

  r : Reached defers fixed.batch_size w
  r = is_reached defers fixed w h.came

  -- what the settling relies on
  fits : FitsSettle (LAST_SLOT + 1) i (view defers w.memory) r.good.state r.good.extra c
  fits =
      fits_settle (LAST_SLOT + 1) i (view defers w.memory) r.good.state r.good.extra (length w.memory.slots) c why
      (subst (λ (row : Row). FitsRow (LAST_SLOT + 1) i (view defers w.memory) r.good.state r.good.extra (length w.memory.slots) row) h.row (r.good.rows i))

  -- the world after a step, by what it is for
  abbrev after : Why → Mem T → Settle × Settled T → World T
  after (Retiring x) m end = settles_on w i c m end
  after (Ending size way) m end = leaves_on w i (counting size way c) m (leave_settled (counting size way c) end)

  steps : (y : Why) (m : Mem T) (end : Settle × Settled T) → Steps Took value_at w.memory (settle_plan defers c) m end
      → Steps' defers i (settles_for y c) w (after y m end)
  steps (Retiring x) m end st = (m, end, st, refl)
  steps (Ending size way) m end st =
      let d : Leave = counting size way c in
      (m, leave_settled d end, steps_as (leave_settled d) Can Took value_at w.memory m (settle_plan defers c) end st, refl)

  memory : (y : Why) (m : Mem T) (end : Settle × Settled T) → m ≡ (after y m end).memory
  memory (Retiring x) m end = sym (settles_memory w i m c end.0 end.1)
  memory (Ending size way) m end = refl

  ending : (size : ℕ) (way : Becomes) (d : Settle) → d.slot ≡ c.slot
      → with_at w.row i (world.Leaves (standing (counting size way c) (leaving_at.Settles d))) i ≡ world.Leaves (counting size way d)
  ending size way d slot =
      with_here w.row i (world.Leaves (standing (counting size way c) (leaving_at.Settles d)))
      ∙ ap (λ (t : ℕ). world.Leaves (standing (leave_of t size way) (leaving_at.Settles d))) (sym slot)

  -- the row goes on
  row : (y : Why) (m : Mem T) (d : Settle) (p : Settled T) → IsGoing p → d.slot ≡ c.slot → (after y m (d, p)).row i ≡ settles_for y d
  row (Retiring x) m d Goes going slot = with_here w.row i (world.Settles d)
  row (Retiring x) m d Waits going slot = with_here w.row i (world.Settles d)
  row (Retiring x) m d (Gave value) going slot = with_here w.row i (world.Settles d)
  row (Retiring x) m d Done going slot = absurd going
  row (Ending size way) m d Goes going slot = ending size way d slot
  row (Ending size way) m d Waits going slot = ending size way d slot
  row (Ending size way) m d (Gave value) going slot = ending size way d slot
  row (Ending size way) m d Done going slot = absurd going

  uses : (y : Why) (m : Mem T) (d : Settle) (p : Settled T) → IsGoing p → d.slot ≡ c.slot → (after y m (d, p)).uses d.slot ≡ w.uses c.slot
  uses (Retiring x) m d Goes going slot = ap w.uses slot
  uses (Retiring x) m d Waits going slot = ap w.uses slot
  uses (Retiring x) m d (Gave value) going slot = ap w.uses slot
  uses (Retiring x) m d Done going slot = absurd going
  uses (Ending size way) m d Done going slot = absurd going
  uses (Ending size way) m d _ going slot = ap (λ (t : ℕ). with_at w.uses c.slot (w.uses c.slot) t) slot ∙ with_here w.uses c.slot (w.uses c.slot)

  used : (y : Why) (m : Mem T) (d : Settle) (p : Settled T) → IsGoing p → d.slot ≡ c.slot → Is (used_for y) (w.uses c.slot)
      → Is (used_for y) ((after y m (d, p)).uses d.slot)
  used y m d p going slot is = subst (λ (u : Use). Is (used_for y) u) (sym (uses y m d p going slot)) is

  -- fewer steps are left
  record Next (y : Why) (n : World T) : Type 0 where
    pub now : ℕ
    pub falls : now < left
    pub bounded : (d : Settle) (look : Option (ℕ × T)) → IsBounded defers fixed n i (Settles d y look now)

  next : (y : Why) → why ≡ y → (n : World T) → Steps' defers i (w.row i) w n → is_over c.stands ≡ false → Next y n
  next (Retiring x) e n step on =
      let had : TriesWithin defers fixed.batch_size i left w =
      subst (λ (y : Why). IsBounded defers fixed w i (Settles c y seen left)) e h.bounded in
      let k = steps_within defers (IsAloneOnSlot i) HasTried fixed.batch_size i left w n had not_tried step in
      record { now = k.0; falls = k.1; bounded = λ d look. k.2 }
    where
      tried : HasTried (settles_for (Retiring x) c) → c.stands ≡ at.Over
      tried is = is

      not_tried : HasTried (w.row i) → ⊥
      not_tried is =
          let over = tried (subst HasTried (h.row ∙ ap (λ (y : Why). settles_for y c) e) is) in absurd (cc (on, ap is_over over))
  next (Ending size way) e n step on =
      let had : SettlesWithin defers fixed.batch_size i left w =
      subst (λ (y : Why). IsBounded defers fixed w i (Settles c y seen left)) e h.bounded in
      let k = steps_within defers (IsAloneOnSlot i) HasCounted fixed.batch_size i left w n had not_counted step in
      record { now = k.0; falls = k.1; bounded = λ d look. k.2 }
    where
      counted : HasCounted (settles_for (Ending size way) c) → c.stands ≡ at.Over
      counted is = is

      not_counted : HasCounted (w.row i) → ⊥
      not_counted is =
          let over = counted (subst HasCounted (h.row ∙ ap (λ (y : Why). settles_for y c) e) is) in absurd (cc (on, ap is_over over))

  goes : (op : Op T) (out : Out T) (m : Mem T) (end : Settle × Settled T) → op_in (settle_plan defers c) ≡ Some op
      → Steps Took value_at w.memory (settle_plan defers c) m end → Ends (value_at m) (rest_of (settle_plan defers c) out) end
      → GoesTo defers fixed Is w i v m (told defers v op out)
  goes op out m end makes st ends =
      let went = settle_steps defers (LAST_SLOT + 1) i w.memory m r.good.state r.good.extra c end refl (words_good defers (LAST_SLOT + 1) w r.good)
      r.good.inv r.good.shows c.stands refl (not_over defers c c.stands op makes (is_over c.stands) refl) fits st in
      let slot : end.0.slot ≡ c.slot = went.0.slot_is in
      let look = looked defers c c.stands out m end ends in
      let n : World T = after why m end in
      let step = subst (λ (row : Row). Steps' defers i row w n) (sym h.row) (steps why m end st) in
      let k = next why refl n step (not_over defers c c.stands op makes (is_over c.stands) refl) in (
        Settles end.0 why look.0 k.now,
        n,
        record {
          step = steps why m end st;
          memory = memory why m end;
          row = row why m end.0 end.1 went.1 slot;
          used = used why m end.0 end.1 went.1 slot h.used;
          plain = tt;
          short = tt;
          known = subst (λ (x : Mem T). IsLooked x end.0 look.0) (memory why m end) look.2;
          bounded = k.bounded end.0 look.0;
          none = refl;
          slot = λ t b e. inl (used_for why, ap (λ (k : ℕ). used_as k (used_for why)) (sym slot ∙ slot_of (end.0.slot, used_for why) (t, b) e));
          place = inr (ap Some slot);
        },
        record {
          end = end;
          seen = look.0;
          now = k.now;
          follows = follows (shown_by look.0) (settle_plan defers c) op out end makes look.1;
          further = further end.1 went.1;
          slot = slot;
          falls = k.falls;
          view = refl;
        },
      )

  pub settles : (op : Op T) → op_in (settle_plan defers c) ≡ Some op → MayMake defers fixed Is w i v op (told defers v op)
  settles op makes =
      let k = may_op w.memory (settle_plan defers c) op makes (may_settle defers c why w.memory (may defers fixed Is w i v h)) in
      (k.0, λ out m took. let t = k.1 out m took in goes op out m t.0 makes t.1 t.2)

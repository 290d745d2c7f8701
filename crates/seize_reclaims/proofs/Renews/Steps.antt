-- A step on slots of the seat that reclaims all: it may be taken, and the rule holds after it.
use Rattle.std.specs.Prelude.{Option, Some, None}
use Rattle.std.proofs.Common.{◌≡◌, ℕ, zero, suc, ◌<◌, ◌^◌, Bool, refl, sym, subst, ap, arith}
use Rattle.seize_words.specs.OneMemory.Mem.{Mem, Can, Took, value_at}
use Rattle.seize_words.specs.OneMemory.Op.{Op, Out}
use Rattle.seize_words.specs.OneMemory.Plan.{Plan, Then, Turn, Do, Now, Ends, May, Steps}
use Rattle.seize.specs.declared.rows.reclaim_all.ReclaimAll.{ReclaimAll}
use Rattle.seize.specs.declared.rows.settle.Settled.{Settled}
use Rattle.seize.specs.declared.rows.settle.Settled.TheVariants as settled
use Rattle.seize.specs.ReclaimAll.{reclaim_all_plan}
use Rattle.seize.specs.World.{World}
use Rattle.seize_seats.specs.Seats.State.{State, view_of, Goes}
use Rattle.seize_acts.specs.Quiet.Slots.{Led, SlotsOutcome}
use Rattle.seize_acts.specs.Quiet.Promises.{IsOnSlots, DoneWithin}
use Rattle.seize_acts.proofs.Quiet.Promised.{slots_lead}
use Rattle.seize_views.specs.Views.Promises.{op_in}
use Rattle.seize_views.specs.Views.Rows.{Came}
use Rattle.seize_views.specs.Views.Told.{FollowsBy, shown_by}
use Rattle.seize_views.specs.declared.view.Fixed.{Fixed}
use Rattle.seize_views.proofs.Views.Looks.{rest_of}
use Rattle.seize_reclaims.specs.Renews.Rule.{IsShown, HasGone, IsAtPoint, HoldsAlone, KeepsNone, told}
use Rattle.seize_reclaims.specs.Renews.Promises.{ReclaimingContinues, ReclaimingTurns}
use Rattle.seize_reclaims.specs.declared.alone.Alone.{Alone}
use Rattle.seize_reclaims.specs.declared.alone.Alone.TheVariants.{Reclaims}
use Rattle.seize_reclaims.proofs.Renews.Looks.{may_end, reclaim_looked}
use Rattle.seize_reclaims.proofs.Renews.Moved.{moved}
use Rattle.seize_reclaims.proofs.Renews.Roots.{came_quiet, rows_stay, RootsStay}
use Rattle.seize_words.proofs.General.{same_some}

-- what one that works on slots tells
goes_on : {T : Type 0} (w w2 : World T) (o : Settled T) → SlotsOutcome w w2 o → HasGone o
goes_on w w2 settled.Goes h = tt
goes_on w w2 settled.Waits h = h
goes_on w w2 (settled.Gave value) h = tt
goes_on w w2 settled.Done h = h

-- the operation a plan that makes one
made : {T R : Type 0} (plan : Plan T R) (op : Op T) → op_in plan ≡ Some op → (rest : Out T → Then T R) × (plan ≡ Do op rest)
made {T} {R} (Turn rest) op e = absurd (cc e)
made {T} {R} (Do other rest) op e = (rest, ap (λ (o : Op T). Do o rest) (same_some other op e))

module _ {T : Type 0} (defers : T → Option ℕ) (left_over : T → Bool) (fixed : Fixed) (word : fixed.batch_size < 2 ^ 64) (s : State T (Alone T) (World T)) (id : ℕ)
    (c : ReclaimAll) (seen : Option (ℕ × T)) (left : ℕ) (on : IsOnSlots c.stands) (h : HoldsAlone defers left_over fixed s) (at_id : view_of s id ≡ Some (Reclaims c seen left)) where
  abbrev w : World T
  w = s.world

  abbrev P : Plan T (ReclaimAll × Settled T)
  P = reclaim_all_plan defers left_over c

  stands : IsAtPoint defers left_over fixed w id (Reclaims c seen left)
  stands = h.seats id (Reclaims c seen left) at_id

  leads : May Can Took value_at w.memory P
      × ((m2 : Mem T) (c2 : ReclaimAll) (o : Settled T) → Steps Took value_at w.memory P m2 (c2, o) → Led defers fixed.batch_size id 0 w c.stands m2 c2 o)
  leads = slots_lead defers left_over fixed.batch_size 0 id c w word (came_quiet defers fixed w h.came) stands.0 on

  -- fewer steps are left
  fewer : (k : ℕ) → DoneWithin defers left_over k w.memory c → (m2 : Mem T) (c2 : ReclaimAll) (o : Settled T) → Steps Took value_at w.memory P m2 (c2, o)
      → (now : ℕ) × (now < k) × DoneWithin defers left_over now m2 c2
  fewer zero within m2 c2 o st = absurd (within on)
  fewer (suc k) within m2 c2 o st = (k, omega arith, within on m2 c2 o st)

  module _ (m2 : Mem T) (c2 : ReclaimAll) (o : Settled T) (st : Steps Took value_at w.memory P m2 (c2, o)) (seen2 : Option (ℕ × T)) (shows : IsShown m2 seen2) where
    led : Led defers fixed.batch_size id 0 w c.stands m2 c2 o
    led = leads.1 m2 c2 o st

    less : (now : ℕ) × (now < left) × DoneWithin defers left_over now m2 c2
    less = fewer left stands.1 m2 c2 o st

    stay : Came defers fixed led.w2 × RootsStay defers fixed w led.w2
    stay = rows_stay defers fixed id led.events led.own w led.w2 h.came led.runs

    abbrev u : Alone T
    u = Reclaims c2 seen2 less.0

    goes : (so : Alone T → Type 0) → so u → Goes (HoldsAlone defers left_over fixed) KeepsNone s m2 id so
    goes so is =
        moved defers left_over fixed s id (Reclaims c seen left) u h at_id m2 led.w2 stay.0 led.memory stay.1
        (led.stage, subst (λ (m : Mem T). DoneWithin defers left_over less.0 m c2) (sym led.memory) less.2, subst (λ (m : Mem T). IsShown m seen2) (sym led.memory) shows) so is

  -- after an operation
  pub after_op : (op : Op T) → op_in P ≡ Some op
      → Can s.memory op × ((out : Out T) (m : Mem T) → Took s.memory op out m → Goes (HoldsAlone defers left_over fixed) KeepsNone s m id (told defers left_over (Reclaims c seen left) op out))
  after_op op is = by (made P op is)
    where
      by : (rest : Out T → Then T (ReclaimAll × Settled T)) × (P ≡ Do op rest)
          → Can s.memory op × ((out : Out T) (m : Mem T) → Took s.memory op out m → Goes (HoldsAlone defers left_over fixed) KeepsNone s m id (told defers left_over (Reclaims c seen left) op out))
      by (rest, plan) =
          let may : May Can Took value_at w.memory (Do op rest) = subst (λ (p : Plan T (ReclaimAll × Settled T)). May Can Took value_at w.memory p) plan leads.0 in (
            subst (λ (m : Mem T). Can m op) (sym h.memory) may.0,
            λ out m took.
                let took2 : Took w.memory op out m = subst (λ (x : Mem T). Took x op out m) h.memory took in
                let end = may_end (value_at m) (rest out) (may.1 out m took2) in
                let st : Steps Took value_at w.memory P m end.0 = subst (λ (p : Plan T (ReclaimAll × Settled T)). Steps Took value_at w.memory p m end.0) (sym plan) (out, took2, end.1) in
                let looks = reclaim_looked defers left_over m out c c.stands on end.0
                (subst (λ (p : Plan T (ReclaimAll × Settled T)). Ends (value_at m) (rest_of p out) end.0) (sym plan) end.1) in
                goes m end.0.0 end.0.1 st looks.0 looks.2 (told defers left_over (Reclaims c seen left) op out) (
                record {
                  end = end.0;
                  seen = looks.0;
                  now = (less m end.0.0 end.0.1 st looks.0 looks.2).0;
                  follows = follows plan out end.0 looks.0 looks.1;
                  goes = goes_on w (led m end.0.0 end.0.1 st looks.0 looks.2).w2 end.0.1 (led m end.0.0 end.0.1 st looks.0 looks.2).told;
                  falls = (less m end.0.0 end.0.1 st looks.0 looks.2).1;
                  view = refl;
                }
                ),
          )
        where
          follows : P ≡ Do op rest → (out : Out T) (end : ReclaimAll × Settled T) (seen2 : Option (ℕ × T)) → Ends (shown_by seen2) (rest_of P out) end → FollowsBy (shown_by seen2) P out end
          follows plan out end seen2 e =
              subst (λ (p : Plan T (ReclaimAll × Settled T)). FollowsBy (shown_by seen2) p out end) (sym plan)
              (subst (λ (p : Plan T (ReclaimAll × Settled T)). Ends (shown_by seen2) (rest_of p out) end) plan e)

  -- or without one
  pub after_turn : (c2 : ReclaimAll) (o : Settled T) → P ≡ Turn (Now (c2, o))
      → Goes (HoldsAlone defers left_over fixed) KeepsNone s s.memory id (λ x. (now : ℕ) × (now < left) × (x ≡ (Reclaims c2 None now)))
  after_turn c2 o plan =
      let st : Steps Took value_at w.memory P s.memory (c2, o) =
      subst (λ (p : Plan T (ReclaimAll × Settled T)). Steps Took value_at w.memory p s.memory (c2, o)) (sym plan) (h.memory, refl) in
      goes s.memory c2 o st None tt _ ((less s.memory c2 o st None tt).0, (less s.memory c2 o st None tt).1, refl)

module _ {T : Type 0} (defers : T → Option ℕ) (left_over : T → Bool) where
  pub reclaiming_goes_on : ReclaimingContinues defers left_over
  reclaiming_goes_on fixed id c seen left op word on is s h at_id = after_op defers left_over fixed word s id c seen left on h at_id op is

  pub reclaiming_turns : ReclaimingTurns defers left_over
  reclaiming_turns fixed id c c2 o seen left word on plan s h at_id = after_turn defers left_over fixed word s id c seen left on h at_id c2 o plan

-- A step of the machine of the one who has the memory to himself: whether it makes an operation, that it may be taken, and what he knows after it.
use Rattle.std.specs.Prelude.{◌==◌, Option, Some, None, if◌then◌else◌, nat_lt}
use Rattle.std.proofs.Common.{◌≡◌, ℕ, ◌<◌, Bool, true, false, refl, sym, subst, ap, ◌∙◌, arith}
use Rattle.seize_words.specs.OneMemory.Op.{Op, Out, Load, Store, Swap, Add, Or, Exchange, Make, Take, Rewrite, Room, Found, Stored, Exchanged, Made, Taken, Roomed}
use Rattle.seize_words.specs.OneMemory.Plan.{Plan, Then, Turn, Do, Now, Seeing, Sure, May, Steps, then_as, plan_as}
use Rattle.seize.specs.declared.states.TheConstants.{ACTIVE, NEVER, FREE}
use Rattle.seize.specs.declared.rows.leave.Leave.{Leave}
use Rattle.seize.specs.declared.rows.leave.Leaving.{Leaving}
use Rattle.seize.specs.declared.rows.leave.Leaving.TheVariants as leaving_at
use Rattle.seize.specs.declared.rows.settle.Settle.{Settle}
use Rattle.seize.specs.declared.rows.settle.Settling.{Settling}
use Rattle.seize.specs.declared.rows.settle.Settling.TheVariants as settling_at
use Rattle.seize.specs.declared.rows.settle.Settled.{Settled}
use Rattle.seize.specs.declared.rows.reclaim_all.ReclaimAll.{ReclaimAll}
use Rattle.seize.specs.declared.rows.reclaim_all.Reclaiming.{Reclaiming}
use Rattle.seize.specs.declared.rows.reclaim_all.Reclaiming.TheVariants as at
use Rattle.seize.specs.declared.rows.register.Register.{Register}
use Rattle.seize.specs.declared.rows.register.Registering.{Registering}
use Rattle.seize.specs.declared.rows.register.Registering.TheVariants as registering_at
use Rattle.seize.specs.Register as register
use Rattle.seize.specs.Leave as leave
use Rattle.seize.specs.Settle.{settle_plan}
use Rattle.seize.specs.Settle as settle
use Rattle.seize.specs.ReclaimAll.{standing, next_head, next_batch, within, head_read, batch_read, root_read, given_back, next_read, reclaim_all_plan, plan_at}
use Rattle.seize_words.proofs.General.{same_some}
use Rattle.seize_views.specs.Views.Promises.{op_in}
use Rattle.seize_views.specs.Views.Told.{FollowsBy}
use Rattle.seize_views.proofs.Views.Looks.{IsNow, LooksOnce, rest_of, once}
use Rattle.seize_views.proofs.Views.Makes.{IsDo, IsNoRewrite, may_by, was_made}
use Rattle.seize_reclaims.specs.Renews.One.{op_of_one, Passes}
use Rattle.seize_reclaims.specs.Renews.Rule.{ReclaimsOn}
use Rattle.seize_reclaims.specs.declared.alone.Alone.{Alone}
use Rattle.seize_reclaims.specs.declared.alone.Alone.TheVariants.{Registers, Reclaims}
use Rattle.seize_reclaims.specs.Empties.Emptying.{IsUnderWay, left_of, settling_over, leaving_over, passes_at}
use Rattle.seize_reclaims.specs.Empties.Asked.{OneTells, HasPassed}
use Rattle.seize_reclaims.specs.Empties.Made.{HasAlone, Can, Has, shown_as, shown_of}

module _ {T A B : Type 0} (f : A → B) where
  do_as : (plan : Plan T A) → IsDo plan → IsDo (plan_as f plan)
  do_as (Turn rest) is = absurd is
  do_as (Do op rest) is = tt

  now_as : (rest : Then T A) → IsNow rest → IsNow (then_as f rest)
  now_as (Now r) is = tt
  now_as (Seeing block rest) is = absurd is
  now_as (Sure fact rest) is = absurd is

  then_once : (rest : Then T A) → LooksOnce rest → LooksOnce (then_as f rest)
  then_once (Now r) is = tt
  then_once (Seeing block rest) is = λ value. now_as (rest value) (is value)
  then_once (Sure fact rest) is = absurd is

  once_as : (plan : Plan T A) (out : Out T) → LooksOnce (rest_of plan out) → LooksOnce (rest_of (plan_as f plan) out)
  once_as (Turn rest) out is = then_once rest is
  once_as (Do op rest) out is = then_once (rest out) is

either : {T R : Type 0} (b : Bool) (x y : Then T R) → LooksOnce x → LooksOnce y → LooksOnce (if b then x else y)
either true x y p q = p
either false x y p q = q

either_now : {T R : Type 0} (b : Bool) (x y : Then T R) → IsNow x → IsNow y → IsNow (if b then x else y)
either_now true x y p q = p
either_now false x y p q = q

module _ {T : Type 0} (defers : T → Option ℕ) (left_over : T → Bool) where
  -- ---- whether a step makes an operation
  settle_turns : (c : Settle) (p : Settling) → settling_over p ≡ true → (end : Settle × Settled T) × (settle.plan_at defers c p ≡ Turn (Now end))
  settle_turns c settling_at.Over is = (_, refl)
  settle_turns c _ is = absurd (cc is)

  leave_turns : (c : Leave) (p : Leaving) → leaving_over p ≡ true → (end : Leave × Settled T) × (leave.plan_at defers c p ≡ Turn (Now end))
  leave_turns c leaving_at.Over is = (_, refl)
  leave_turns c (leaving_at.Settles s) is =
      let k = settle_turns s s.stands is in (leave.settled c k.0, ap (plan_as (leave.settled c)) k.1)
  leave_turns c leaving_at.Swaps is = absurd (cc is)
  leave_turns c leaving_at.Frees is = absurd (cc is)

  pub turns_at : (c : ReclaimAll) (p : Reclaiming) → passes_at p ≡ true → (end : ReclaimAll × Settled T) × (plan_at defers left_over c p ≡ Turn (Now end))
  turns_at c (at.Leaves s l) is =
      let f = within (λ (d : Leave). standing c (at.Leaves s d)) (next_head c s) in let k = leave_turns l l.stands is in (f k.0, ap (plan_as f) k.1)
  turns_at c (at.Flushes s l) is =
      let f = within (λ (d : Settle). standing c (at.Flushes s d)) (next_batch (record c { again = true }) s) in
      let k = settle_turns l l.stands is in (f k.0, ap (plan_as f) k.1)
  turns_at c (at.Heads s) is = absurd (cc is)
  turns_at c (at.Retakes s) is = absurd (cc is)
  turns_at c (at.Batches s) is = absurd (cc is)
  turns_at c (at.Frees s) is = absurd (cc is)
  turns_at c (at.Roots root) is = absurd (cc is)
  turns_at c (at.Nexts root b) is = absurd (cc is)
  turns_at c (at.Takes root b next) is = absurd (cc is)
  turns_at c (at.Empties root) is = absurd (cc is)
  turns_at c (at.Unuses root) is = absurd (cc is)
  turns_at c at.Over is = absurd (cc is)

  settle_does : (c : Settle) (p : Settling) → settling_over p ≡ false → IsDo (settle.plan_at defers c p)
  settle_does c settling_at.Over is = absurd (cc is)
  settle_does c _ is = tt

  leave_does : (c : Leave) (p : Leaving) → leaving_over p ≡ false → IsDo (leave.plan_at defers c p)
  leave_does c leaving_at.Over is = absurd (cc is)
  leave_does c (leaving_at.Settles s) is = do_as (leave.settled c) (settle_plan defers s) (settle_does s s.stands is)
  leave_does c leaving_at.Swaps is = tt
  leave_does c leaving_at.Frees is = tt

  pub does_at : (c : ReclaimAll) (p : Reclaiming) → (p ≡ at.Over → ⊥) → passes_at p ≡ false → IsDo (plan_at defers left_over c p)
  does_at c (at.Leaves s l) ne is = do_as (within (λ (d : Leave). standing c (at.Leaves s d)) (next_head c s)) (leave.leave_plan defers l) (leave_does l l.stands is)
  does_at c (at.Flushes s l) ne is =
      do_as (within (λ (d : Settle). standing c (at.Flushes s d)) (next_batch (record c { again = true }) s)) (settle_plan defers l) (settle_does l l.stands is)
  does_at c at.Over ne is = absurd (ne refl)
  does_at c _ ne is = tt

  -- ---- it looks at one block at most
  list_once : (c : Leave) (o : Out T) → LooksOnce (leave.list_taken c o)
  list_once c (Found head) = either (nat_lt ACTIVE head) _ _ tt tt
  list_once c Stored = tt
  list_once c (Taken x) = tt
  list_once c (Exchanged r) = tt
  list_once c (Made r) = tt
  list_once c (Roomed r) = tt

  leave_once : (c : Leave) (p : Leaving) (out : Out T) → LooksOnce (rest_of (leave.plan_at defers c p) out)
  leave_once c leaving_at.Swaps out = list_once c out
  leave_once c (leaving_at.Settles s) out = once_as (leave.settled c) (settle_plan defers s) out (once defers s s.stands out)
  leave_once c leaving_at.Frees out = tt
  leave_once c leaving_at.Over out = tt

  head_once : (c : ReclaimAll) (s : ℕ) (o : Out T) → LooksOnce (head_read c s o)
  head_once c s (Found head) = either (head == NEVER) _ _ tt (either (head == FREE) _ _ tt (either (nat_lt head ACTIVE) _ _ tt tt))
  head_once c s Stored = tt
  head_once c s (Taken x) = tt
  head_once c s (Exchanged r) = tt
  head_once c s (Made r) = tt
  head_once c s (Roomed r) = tt

  batch_once : (c : ReclaimAll) (s : ℕ) (o : Out T) → LooksOnce (batch_read c s o)
  batch_once c s (Found last) = either (last == 0) _ _ tt tt
  batch_once c s Stored = tt
  batch_once c s (Taken x) = tt
  batch_once c s (Exchanged r) = tt
  batch_once c s (Made r) = tt
  batch_once c s (Roomed r) = tt

  root_once : (c : ReclaimAll) (root : ℕ) (o : Out T) → LooksOnce (root_read left_over c root o)
  root_once c root (Found block) = either (block == 0) _ _ tt (λ value. either_now (left_over value) _ _ tt tt)
  root_once c root Stored = tt
  root_once c root (Taken x) = tt
  root_once c root (Exchanged r) = tt
  root_once c root (Made r) = tt
  root_once c root (Roomed r) = tt

  given_once : (c : ReclaimAll) (root next : ℕ) (o : Out T) → LooksOnce (given_back c root next o)
  given_once c root next (Taken value) = either (next == 0) _ _ tt tt
  given_once c root next (Found w) = tt
  given_once c root next Stored = tt
  given_once c root next (Exchanged r) = tt
  given_once c root next (Made r) = tt
  given_once c root next (Roomed r) = tt

  next_once : (c : ReclaimAll) (root block : ℕ) (o : Out T) → LooksOnce (next_read c root block o)
  next_once c root block (Found w) = tt
  next_once c root block (Taken x) = tt
  next_once c root block Stored = tt
  next_once c root block (Exchanged r) = tt
  next_once c root block (Made r) = tt
  next_once c root block (Roomed r) = tt

  pub once_at : (c : ReclaimAll) (p : Reclaiming) (out : Out T) → LooksOnce (rest_of (plan_at defers left_over c p) out)
  once_at c (at.Heads s) out = head_once c s out
  once_at c (at.Retakes s) out = tt
  once_at c (at.Leaves s l) out =
      once_as (within (λ (d : Leave). standing c (at.Leaves s d)) (next_head c s)) (leave.leave_plan defers l) out (leave_once l l.stands out)
  once_at c (at.Batches s) out = batch_once c s out
  once_at c (at.Flushes s l) out =
      once_as (within (λ (d : Settle). standing c (at.Flushes s d)) (next_batch (record c { again = true }) s)) (settle_plan defers l) out (once defers l l.stands out)
  once_at c (at.Frees s) out = tt
  once_at c (at.Roots root) out = root_once c root out
  once_at c (at.Nexts root b) out = next_once c root b out
  once_at c (at.Takes root b next) out = given_once c root next out
  once_at c (at.Empties root) out = tt
  once_at c (at.Unuses root) out = tt
  once_at c at.Over out = tt

-- ---- it replaces no value
none_as : {T A B : Type 0} (f : A → B) (plan : Plan T A) → IsNoRewrite (op_in plan) → IsNoRewrite (op_in (plan_as f plan))
none_as f (Turn rest) is = tt
none_as f (Do op rest) is = is

module _ {T : Type 0} (defers : T → Option ℕ) (left_over : T → Bool) where
  settle_none : (c : Settle) (p : Settling) → IsNoRewrite (op_in (settle.plan_at defers c p))
  settle_none c settling_at.Over = tt
  settle_none c _ = tt

  leave_none : (c : Leave) (p : Leaving) → IsNoRewrite (op_in (leave.plan_at defers c p))
  leave_none c (leaving_at.Settles s) = none_as (leave.settled c) (settle_plan defers s) (settle_none s s.stands)
  leave_none c leaving_at.Swaps = tt
  leave_none c leaving_at.Frees = tt
  leave_none c leaving_at.Over = tt

  all_none : (c : ReclaimAll) (p : Reclaiming) → IsNoRewrite (op_in (plan_at defers left_over c p))
  all_none c (at.Leaves s l) = none_as (within (λ (d : Leave). standing c (at.Leaves s d)) (next_head c s)) (leave.leave_plan defers l) (leave_none l l.stands)
  all_none c (at.Flushes s l) =
      none_as (within (λ (d : Settle). standing c (at.Flushes s d)) (next_batch (record c { again = true }) s)) (settle_plan defers l) (settle_none l l.stands)
  all_none c _ = tt

  register_none : (c : Register) (p : Registering) → IsNoRewrite (op_in (register.plan_at {T = T} c p))
  register_none c registering_at.Begin = tt
  register_none c _ = tt

  one_none : (v : Alone T) → IsNoRewrite (op_of_one defers left_over v)
  one_none (Registers c size) = register_none c c.stands
  one_none (Reclaims c seen left) = all_none c c.stands

  pub not_rewrite : (v : Alone T) (b : ℕ) (x : T) → op_of_one defers left_over v ≡ Some (Rewrite b x) → ⊥
  not_rewrite v b x e = subst IsNoRewrite e (one_none v)

-- ---- a step over a memory of which it is known what may be done, and what it told
module _ {T M V B X : Type 0} (defers : T → Option ℕ) (left_over : T → Bool) (blocks : M → B) (view : M → V) (acts : V → Option (Alone T)) (all : V → ReclaimAll) (none : ReclaimAll → ReclaimAll)
    (beside : V → X) (then_ : V → Op T → Out T → V → Type 0) (owns : M → ℕ → Type 0) (allowed : M → Op T → Type 0) where
  abbrev CanOne : M → Op T → Type 0
  CanOne = Can owns allowed

  abbrev HasOne : M → Op T → Out T → M → Type 0
  HasOne = Has blocks view then_

  abbrev one : M → Option (Alone T)
  one m = acts (view m)

  abbrev shown : M → ℕ → Option T
  shown = shown_of defers left_over one

  abbrev plan : ReclaimAll → Plan T (ReclaimAll × Settled T)
  plan c = reclaim_all_plan defers left_over c

  -- his next operation may be made
  abbrev pub MayGoOn : M → Type 0
  MayGoOn m = (a : Alone T) (op : Op T) → one m ≡ Some a → op_of_one defers left_over a ≡ Some op → allowed m op

  has_alone : (m : M) (a : Alone T) (op : Op T) → op_of_one defers left_over a ≡ Some op → HasAlone (owns m) op
  has_alone m a (Rewrite b x) e = absurd (not_rewrite defers left_over a b x e)
  has_alone m a (Load at) e = tt
  has_alone m a (Store at word) e = tt
  has_alone m a (Swap at word) e = tt
  has_alone m a (Add at by) e = tt
  has_alone m a (Or at bits) e = tt
  has_alone m a (Exchange at old new) e = tt
  has_alone m a (Make x words) e = tt
  has_alone m a (Take b) e = tt
  has_alone m a (Room b) e = tt

  pub can_make : (m : M) → MayGoOn m → (a : Alone T) (op : Op T) → one m ≡ Some a → op_of_one defers left_over a ≡ Some op → CanOne m op
  can_make m law a op is e = record { alone = has_alone m a op e; may = law a op is e }

  module _ (tells : OneTells acts all none defers left_over beside then_) (m : M) (law : MayGoOn m) (c : ReclaimAll) (under : IsUnderWay c (one m)) (does : IsDo (plan c)) where
    told : (op : Op T) (out : Out T) (n : M) → HasOne m op out n → (a : Alone T) × (one n ≡ Some a) × ReclaimsOn defers left_over c under.1 out a
    told op out n made = (tells (view m) (view n) (Reclaims c under.0 under.1) op out under.2 made.1).0

    follows : (op : Op T) (out : Out T) (n : M) (made : HasOne m op out n) → FollowsBy (shown n) (plan c) out (told op out n made).2.end
    follows op out n made =
        let g = told op out n made in
        subst (λ (o : Option (Alone T)). FollowsBy (shown_as defers left_over o) (plan c) out g.2.end) (sym (g.1 ∙ ap (λ (a : Alone T). Some a) g.2.view)) g.2.follows

    pub may_step : May CanOne HasOne shown m (plan c)
    may_step =
        may_by CanOne HasOne shown m (plan c) does (λ op e. can_make m law (Reclaims c under.0 under.1) op under.2 e)
        (λ op out n e made. ((told op out n made).2.end, follows op out n made)) (λ out. once_at defers left_over c c.stands out)

    pub has_stepped : (n : M) (end : ReclaimAll × Settled T) → Steps HasOne shown m (plan c) n end
        → IsUnderWay end.0 (one n) × (left_of (one n) < left_of (one m)) × (blocks n ≡ blocks m) × (beside (view n) ≡ beside (view m))
    has_stepped n end st =
        let k = was_made CanOne HasOne shown m (plan c) n end does st in let t = told k.0 k.1 n k.2 in let g = t.2 in
        let same : end ≡ g.end = k.3 g.end (follows k.0 k.1 n k.2) in
        let is : one n ≡ Some (Reclaims g.end.0 g.seen g.now) = t.1 ∙ ap (λ (a : Alone T). Some a) g.view in (
          (g.seen, g.now, is ∙ ap (λ (x : ReclaimAll × Settled T). Some (Reclaims x.0 g.seen g.now)) (sym same)),
          (let before = ap left_of under.2 in let after = ap left_of is in let falls = g.falls in omega (arith, before, after, falls)),
          k.2.0,
          (tells (view m) (view n) (Reclaims c under.0 under.1) k.0 k.1 under.2 k.2.1).1,
        )

  -- a step that makes no operation, once the seat has turned
  module _ (m : M) (c : ReclaimAll) (v : V) (under : IsUnderWay c (acts v)) (passed : HasPassed acts defers left_over beside v (view m)) where
    turned : Passes defers left_over (Reclaims c under.0 under.1) passed.1
    turned = subst (λ (x : Alone T). Passes defers left_over x passed.1) (same_some passed.0 (Reclaims c under.0 under.1) (sym passed.2 ∙ under.2)) passed.4

    pub may_pass : May CanOne HasOne shown m (plan c)
    may_pass = subst (λ (p : Plan T (ReclaimAll × Settled T)). May CanOne HasOne shown m p) (sym turned.3) tt

    pub has_passed : (n : M) (end : ReclaimAll × Settled T) → Steps HasOne shown m (plan c) n end
        → IsUnderWay end.0 (one n) × (left_of (one n) < left_of (acts v)) × (blocks n ≡ blocks m) × (beside (view n) ≡ beside v)
    has_passed n end st =
        let k = subst (λ (p : Plan T (ReclaimAll × Settled T)). Steps HasOne shown m p n end) turned.3 st in
        let is : one n ≡ Some (Reclaims turned.0 None turned.2) = ap one k.0 ∙ passed.3 ∙ ap (λ (a : Alone T). Some a) turned.5 in (
          (None, turned.2, is ∙ ap (λ (x : ReclaimAll × Settled T). Some (Reclaims x.0 None turned.2)) (sym k.1)),
          (let before = ap left_of under.2 in let after = ap left_of is in let falls = turned.4 in omega (arith, before, after, falls)),
          ap blocks k.0,
          ap (λ (x : M). beside (view x)) k.0 ∙ passed.5,
        )

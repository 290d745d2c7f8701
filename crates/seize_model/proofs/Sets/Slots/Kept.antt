-- What a whole call that leaves a slot, flushes, or gives a slot up makes of the uses of slots.
use Rattle.std.specs.Prelude.{Option, if◌then◌else◌, nat_lt, ◌==◌}
use Rattle.std.proofs.Common.{◌≡◌, ℕ, zero, suc, ◌+◌, Bool, true, false, eqb, [], refl, subst, sym, ap, ◌∙◌, eqb-true}
use Rattle.seize.specs.Given.SeizeWordsDeclared.at.At.TheVariants as name
use Rattle.seize.specs.Given.SeizeWordsMem.{Mem, Took, value_at, with_word}
use Rattle.seize.specs.Given.SeizeWordsPlan.{Steps, Ends, Now}
use Rattle.seize.proofs.Given.SeizeWordsOneOwner.Operations.{swapped, stored}
use Rattle.seize.specs.declared.states.TheConstants.{HEAD, FREE, IDLE, ACTIVE, LAST_SLOT}
use Rattle.seize.specs.declared.rows.settle.Settle.{Settle}
use Rattle.seize.specs.declared.rows.settle.Settled.{Settled}
use Rattle.seize.specs.declared.rows.settle.Settled.TheVariants.{Goes, Waits, Gave, Done}
use Rattle.seize.specs.declared.rows.leave.Leave.{Leave}
use Rattle.seize.specs.declared.rows.leave.Leaving.{Leaving}
use Rattle.seize.specs.declared.rows.leave.Leaving.TheVariants as leaving
use Rattle.seize.specs.Settle.{settle_plan, counting_down, flushing}
use Rattle.seize.specs.Leave.{standing, counted_down, settled, list_taken, plan_at, leave_plan, leaving as leaving_slot}
use Rattle.seize.specs.World.{World, Row, Rests, Settles, Leaves, Frees, Use, Vacant, Outside, Inside, Changing, Leave', Flush, Unregister', Steps', one_more, one_less, with_at, with_use, with_row, after_step, left_as, leaves_on, settles_on}
use Rattle.seize.specs.Sequence.{RunsOn, Calls}
use Rattle.seize_rule.proofs.Rows.Leaving.{steps_back}
use Rattle.seize_rule.proofs.Rows.Others.{with_here, with_other}
use Rattle.seize_rule.proofs.World.Rested.{Rested}
use Rattle.seize_model.proofs.Sets.Turns.Heads.{WordOf, head_word}

abbrev pub IsOut : Use → Type 0
IsOut (Outside rows) = Unit {0}
IsOut _ = ⊥

out_zero : (u : Use) (v : ℕ) → WordOf u v → IsOut u → u ≡ Outside 0
out_zero Vacant v w o = absurd o
out_zero (Outside j) v w o = ap Outside w.1
out_zero (Inside j) v w o = absurd o
out_zero Changing v w o = absurd o

out_of : (u : Use) → u ≡ Outside 0 → IsOut u
out_of u e = subst (λ (x : Use). IsOut x) (sym e) tt

more_out : (u : Use) → IsOut u → IsOut (one_more u)
more_out Vacant o = absurd o
more_out (Outside j) o = tt
more_out (Inside j) o = absurd o
more_out Changing o = absurd o

less_out : (u : Use) → IsOut u → IsOut (one_less u)
less_out Vacant o = absurd o
less_out (Outside j) o = tt
less_out (Inside j) o = absurd o
less_out Changing o = absurd o

-- what holds of a slot's use, whether one row more works on it or one less
pub record Lasts (P : Use → Type 0) : Type 0 where
  pub more : (u : Use) → P u → P (one_more u)
  pub less : (u : Use) → P u → P (one_less u)

out_lasts : Lasts IsOut
out_lasts = record { more = more_out; less = less_out }

vacant_lasts : Lasts (λ u. u ≡ Vacant)
vacant_lasts = record { more = λ u e. ap one_more e; less = λ u e. ap one_less e }

at_use : (P : Use → Type 0) (uses : ℕ → Use) (f : Use → Use) (s t : ℕ) → ((u : Use) → P u → P (f u)) → P (uses t) → P (with_at uses s (f (uses s)) t)
at_use P uses f s t keeps o = by (eqb t s) (eqb-true t s)
  where
    by : (b : Bool) → (b ≡ true → t ≡ s) → P (if b then f (uses s) else uses t)
    by true e = keeps (uses s) (subst (λ (k : ℕ). P (uses k)) (e refl) o)
    by false e = o

-- a leaving row changes where it stands, and nothing else

counted_keeps : (c : Leave) → counted_down c ≡ standing c (counted_down c).stands
counted_keeps c = by c.frees
  where
    by : (t : Bool) → (if t then standing c leaving.Frees else standing c leaving.Over) ≡ standing c (if t then standing c leaving.Frees else standing c leaving.Over).stands
    by true = refl
    by false = refl

module _ {T : Type 0} (defers : T → Option ℕ) (mem : Mem T) (c : Leave) where
  -- it ends at its last point alone
  abbrev Keeps : Leaving → Leave × Settled T → Type 0
  Keeps p end = (end.0 ≡ standing c end.0.stands) × (end.1 ≡ Done → p ≡ leaving.Over)

  keeps_so : (p : Leaving) (end want : Leave × Settled T) → end ≡ want → Keeps p want → Keeps p end
  keeps_so p end want e k = subst (λ (q : Leave × Settled T). Keeps p q) (sym e) k

  settled_keeps : (d : Settle) (e : Settle × Settled T) → Keeps (leaving.Settles d) (settled c e)
  settled_keeps d (d2, Goes) = (refl, λ e. absurd (cc e))
  settled_keeps d (d2, Waits) = (refl, λ e. absurd (cc e))
  settled_keeps d (d2, Gave value) = (refl, λ e. absurd (cc e))
  settled_keeps d (d2, Done) = (counted_keeps c, λ e. absurd (cc e))

  keeps_at : (p : Leaving) (m : Mem T) (end : Leave × Settled T) → Steps Took value_at mem (plan_at defers c p) m end → Keeps p end
  keeps_at leaving.Swaps m end s =
      let d = swapped mem (list_taken c) (name.Slot c.slot HEAD) c.becomes m end s in
      by (value_at (with_word mem (name.Slot c.slot HEAD) c.becomes)) d.0 (nat_lt ACTIVE d.0) d.3
    where
      by : (shown : ℕ → Option T) (head : ℕ) (t : Bool) → Ends shown (if t then Now (standing c (leaving.Settles (counting_down c.slot c.batch_size head)), Goes) else Now (counted_down c, Goes)) end
          → Keeps leaving.Swaps end
      by shown head true e = keeps_so leaving.Swaps end (standing c (leaving.Settles (counting_down c.slot c.batch_size head)), Goes) e (refl, λ k. absurd (cc k))
      by shown head false e = keeps_so leaving.Swaps end (counted_down c, Goes) e (counted_keeps c, λ k. absurd (cc k))
  keeps_at (leaving.Settles settle) m end s =
      let k = steps_back (settled c) mem m (settle_plan defers settle) end s in
      keeps_so (leaving.Settles settle) end (settled c k.0) k.2 (settled_keeps settle k.0)
  keeps_at leaving.Frees m end s =
      let d = stored mem (λ out. Now (standing c leaving.Over, Goes)) (name.Slot c.slot HEAD) FREE m end s in
      keeps_so leaving.Frees end (standing c leaving.Over, Goes) d.1 (refl, λ k. absurd (cc k))
  keeps_at leaving.Over m end s = keeps_so leaving.Over end (c, Done) s.1 (refl, λ k. refl)

  leave_keeps : (m : Mem T) (end : Leave × Settled T) → Steps Took value_at mem (leave_plan defers c) m end → Keeps c.stands end
  leave_keeps m end s = keeps_at c.stands m end s

-- it leaves this slot, which is idle then, and stays taken
abbrev LeavesIdle : ℕ → Leave → Type 0
LeavesIdle s l = (l.slot ≡ s) × (l.becomes ≡ IDLE) × (l.frees ≡ false)

idle_kept : (s : ℕ) (l d : Leave) → d ≡ standing l d.stands → LeavesIdle s l → LeavesIdle s d
idle_kept s l d e h = subst (λ (k : Leave). LeavesIdle s k) (sym e) h

left_outside : (l : Leave) (u : Use) → l.stands ≡ leaving.Over → l.becomes ≡ IDLE → l.frees ≡ false → left_as l l.stands u ≡ Outside 0
left_outside l u over word keeps = ap (λ (p : Leaving). left_as l p u) over ∙ by l.becomes l.frees word keeps
  where
    by : (b : ℕ) (t : Bool) → b ≡ IDLE → t ≡ false → (if b == ACTIVE then Inside 0 else (if t then u else Outside 0)) ≡ Outside 0
    by b t e f = subst (λ (x : ℕ). (if x == ACTIVE then Inside 0 else (if t then u else Outside 0)) ≡ Outside 0) (sym e)
        (subst (λ (x : Bool). (if x then u else Outside 0) ≡ Outside 0) (sym f) refl)

module _ {T : Type 0} (defers : T → Option ℕ) (i : ℕ) where
  rests_on : (steps : ℕ) (w u : World T) → w.row i ≡ Rests → RunsOn defers steps i w u → u ≡ w
  rests_on zero w u e h = h.1
  rests_on (suc steps) w u e h = absurd (subst (λ (r : Row). Steps' defers i r w h.0) e h.1)

  -- leaving

  -- the slot is idle, and all others are used as before
  abbrev Idles : ℕ → World T → World T → Type 0
  Idles s v u = (u.uses s ≡ Outside 0) × ((t : ℕ) → (t ≡ s → ⊥) → u.uses t ≡ v.uses t)

  others_same : (s : ℕ) (v : World T) (l : Leave) (m : Mem T) (e : Leave × Settled T) → l.slot ≡ s → (t : ℕ) → (t ≡ s → ⊥) → (leaves_on v i l m e).uses t ≡ v.uses t
  others_same s v l m (d, o) is t ne = with_other v.uses l.slot t (left_as l l.stands (v.uses l.slot)) (λ k. ne (k ∙ is))

  idles_on : (s : ℕ) (v v2 u : World T) → ((t : ℕ) → (t ≡ s → ⊥) → v2.uses t ≡ v.uses t) → Idles s v2 u → Idles s v u
  idles_on s v v2 u same h = (h.0, λ t ne. h.1 t ne ∙ same t ne)

  leave_once : (steps s : ℕ) (v u : World T) (l : Leave) → LeavesIdle s l
      → ((v2 : World T) (d : Leave) → v2.row i ≡ Leaves d → LeavesIdle s d → RunsOn defers steps i v2 u → Idles s v2 u)
      → (m : Mem T) (e : Leave × Settled T) → (e.0 ≡ standing l e.0.stands) × (e.1 ≡ Done → l.stands ≡ leaving.Over) → RunsOn defers steps i (leaves_on v i l m e) u → Idles s v u
  leave_once steps s v u l idle rest m (d, Goes) k h =
      idles_on s v (leaves_on v i l m (d, Goes)) u (others_same s v l m (d, Goes) idle.0)
      (rest (leaves_on v i l m (d, Goes)) d (with_here v.row i (Leaves d)) (idle_kept s l d k.0 idle) h)
  leave_once steps s v u l idle rest m (d, Waits) k h =
      idles_on s v (leaves_on v i l m (d, Waits)) u (others_same s v l m (d, Waits) idle.0)
      (rest (leaves_on v i l m (d, Waits)) d (with_here v.row i (Leaves d)) (idle_kept s l d k.0 idle) h)
  leave_once steps s v u l idle rest m (d, Gave value) k h =
      idles_on s v (leaves_on v i l m (d, Gave value)) u (others_same s v l m (d, Gave value) idle.0)
      (rest (leaves_on v i l m (d, Gave value)) d (with_here v.row i (Leaves d)) (idle_kept s l d k.0 idle) h)
  leave_once steps s v u l idle rest m (d, Done) k h =
      let v2 = leaves_on v i l m (d, Done) in
      let same : u ≡ v2 = rests_on steps v2 u (with_here v.row i Rests) h in
      let here : v2.uses l.slot ≡ Outside 0 =
      with_here v.uses l.slot (left_as l l.stands (v.uses l.slot)) ∙ left_outside l (v.uses l.slot) (k.1 refl) idle.1 idle.2 in
      subst (λ (x : World T). Idles s v x) (sym same) (subst (λ (t : ℕ). v2.uses t ≡ Outside 0) idle.0 here, others_same s v l m (d, Done) idle.0)

  leave_runs : (steps s : ℕ) (v u : World T) (l : Leave) → v.row i ≡ Leaves l → LeavesIdle s l → RunsOn defers steps i v u → Idles s v u
  leave_runs zero s v u l is idle h = absurd (let e = h.0 in cc (e, is))
  leave_runs (suc steps) s v u l is idle h =
      let st : Steps' defers i (Leaves l) v h.0 = subst (λ (r : Row). Steps' defers i r v h.0) is h.1 in
      leave_once steps s v u l idle (λ v2 d is2 idle2 h2. leave_runs steps s v2 u d is2 idle2 h2) st.0 st.1 (leave_keeps defers v.memory l st.0 st.1 st.2)
      (subst (λ (x : World T). RunsOn defers steps i x u) st.3 h.2)

  -- a whole call that leaves
  pub leave_idles : (size s : ℕ) (w u : World T) → Calls defers size i (Leave' s) w u → Idles s w u
  leave_idles size s w u h =
      let v = with_use (with_row w i (Leaves (leaving_slot s size IDLE false))) s Changing in
      idles_on s w v u (λ t ne. with_other w.uses s t Changing ne)
      (leave_runs h.1 s v u (leaving_slot s size IDLE false) (with_here w.row i (Leaves (leaving_slot s size IDLE false))) (refl, refl, refl)
      (subst (λ (x : World T). RunsOn defers h.1 i x u) h.3.1 h.4))

  -- flushing

  module _ (P : Use → Type 0) (lasts : Lasts P) where
    settle_once : (steps t : ℕ) (v u : World T) (c : Settle) → P (v.uses t)
        → ((v2 : World T) (d : Settle) → v2.row i ≡ Settles d → P (v2.uses t) → RunsOn defers steps i v2 u → P (u.uses t))
        → (m : Mem T) (e : Settle × Settled T) → RunsOn defers steps i (settles_on v i c m e) u → P (u.uses t)
    settle_once steps t v u c o rest m (d, Goes) h = rest (settles_on v i c m (d, Goes)) d (with_here v.row i (Settles d)) o h
    settle_once steps t v u c o rest m (d, Waits) h = rest (settles_on v i c m (d, Waits)) d (with_here v.row i (Settles d)) o h
    settle_once steps t v u c o rest m (d, Gave value) h = rest (settles_on v i c m (d, Gave value)) d (with_here v.row i (Settles d)) o h
    settle_once steps t v u c o rest m (d, Done) h =
        subst (λ (x : World T). P (x.uses t)) (sym (rests_on steps (settles_on v i c m (d, Done)) u (with_here v.row i Rests) h)) (at_use P v.uses one_less c.slot t lasts.less o)

    settle_runs : (steps t : ℕ) (v u : World T) (c : Settle) → v.row i ≡ Settles c → P (v.uses t) → RunsOn defers steps i v u → P (u.uses t)
    settle_runs zero t v u c is o h = absurd (let e = h.0 in cc (e, is))
    settle_runs (suc steps) t v u c is o h =
        let st : Steps' defers i (Settles c) v h.0 = subst (λ (r : Row). Steps' defers i r v h.0) is h.1 in
        settle_once steps t v u c o (λ v2 d is2 o2 h2. settle_runs steps t v2 u d is2 o2 h2) st.0 st.1 (subst (λ (x : World T). RunsOn defers steps i x u) st.3 h.2)

    flush_lasts : (size s t : ℕ) (w u : World T) → Calls defers size i (Flush s) w u → P (w.uses t) → P (u.uses t)
    flush_lasts size s t w u h e =
        let v = with_use (with_row w i (Settles (flushing s size))) s (one_more (w.uses s)) in
        settle_runs h.1 t v u (flushing s size) (with_here w.row i (Settles (flushing s size))) (at_use P w.uses one_more s t lasts.more e) (subst (λ (x : World T). RunsOn defers h.1 i x u) h.3.1 h.4)

  -- a whole call that flushes leaves each slot outside that was
  pub flush_outside : (n size s t : ℕ) (last : n ≡ LAST_SLOT + 1) (w u : World T) → Rested defers n size u → Calls defers size i (Flush s) w u → w.uses t ≡ Outside 0 → u.uses t ≡ Outside 0
  flush_outside n size s t last w u r h e =
      out_zero (u.uses t) _ (head_word defers n size last u r t) (flush_lasts IsOut out_lasts size s t w u h (out_of (w.uses t) e))

  -- and each vacant that was
  pub flush_vacant : (size s t : ℕ) (w u : World T) → Calls defers size i (Flush s) w u → w.uses t ≡ Vacant → u.uses t ≡ Vacant
  flush_vacant size s t w u h e = flush_lasts (λ u. u ≡ Vacant) vacant_lasts size s t w u h e

  -- giving up

  -- a whole call that gives a slot up leaves it vacant, and all others as they were
  pub given_up_vacant : (size s : ℕ) (w u : World T) → Calls defers size i (Unregister' s) w u → (u.uses s ≡ Vacant) × ((t : ℕ) → (t ≡ s → ⊥) → u.uses t ≡ w.uses t)
  given_up_vacant size s w u h = given_once h.1 (subst (λ (x : World T). RunsOn defers h.1 i x u) h.3.1 h.4)
    where
      v : World T
      v = with_use (with_row w i (Frees (record { slot = s }))) s Changing

      given_once : (steps : ℕ) → RunsOn defers steps i v u → (u.uses s ≡ Vacant) × ((t : ℕ) → (t ≡ s → ⊥) → u.uses t ≡ w.uses t)
      given_once zero k = absurd (let e = k.0 in let r = with_here w.row i (Frees (record { slot = s })) in cc (e, r))
      given_once (suc steps) k =
          let st : Steps' defers i (Frees (record { slot = s })) v k.0 = subst (λ (r : Row). Steps' defers i r v k.0) (with_here w.row i (Frees (record { slot = s }))) k.1 in
          let v2 = with_use (after_step v i st.0 Rests []) s Vacant in
          let same : u ≡ v2 = rests_on steps v2 u (with_here v.row i Rests) (subst (λ (x : World T). RunsOn defers steps i x u) st.3 k.2) in (
            ap (λ (x : World T). x.uses s) same ∙ with_here v.uses s Vacant,
            λ t ne. ap (λ (x : World T). x.uses t) same ∙ with_other v.uses s t Vacant ne ∙ with_other w.uses s t Changing ne,
          )

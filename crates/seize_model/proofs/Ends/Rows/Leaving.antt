-- A leaving row takes no more steps, until it ends or waits, than a number of its memory and its machine, and each step lowers how many it still takes.
use Rattle.std.specs.Prelude.{Option, if◌then◌else◌, nat_lt}
use Rattle.std.proofs.Common.{◌≡◌, ℕ, zero, suc, ◌+◌, ◌*◌, ◌<◌, ◌≤◌, Bool, true, false, length, refl, arith, ap, sym, subst, ◌∙◌}
use Rattle.seize.specs.Given.SeizeWordsDeclared.at.At.TheVariants.{Slot}
use Rattle.seize.specs.Given.SeizeWordsMem.{Mem, Took, value_at, with_word}
use Rattle.seize.specs.Given.SeizeWordsPlan.{Steps, Ends, Now}
use Rattle.seize.proofs.Given.SeizeWordsOneOwner.Operations.{stored, swapped}
use Rattle.seize.specs.declared.states.TheConstants.{HEAD, ACTIVE, FREE, LAST_SLOT}
use Rattle.seize.specs.declared.rows.settle.Settle.{Settle}
use Rattle.seize.specs.declared.rows.settle.Settled.{Settled}
use Rattle.seize.specs.declared.rows.settle.Settled.TheVariants.{Goes, Waits, Gave, Done}
use Rattle.seize.specs.declared.rows.leave.Leave.{Leave}
use Rattle.seize.specs.declared.rows.leave.Leaving.{Leaving}
use Rattle.seize.specs.declared.rows.leave.Leaving.TheVariants as leaving
use Rattle.seize.specs.Settle.{settle_plan, counting_down}
use Rattle.seize.specs.Leave.{standing, counted_down, list_taken, settled, plan_at, leave_plan}
use Rattle.seize.specs.World.{World, Row, Leaves, Steps', leaves_on}
use Rattle.seize_rule.proofs.Given.SeizeMovesState.Ghost.{State}
use Rattle.seize_rule.proofs.Given.SeizeMemoryWords.View.{view}
use Rattle.seize_rule.proofs.Given.SeizeMemoryWords.Shows.{Extra}
use Rattle.seize_rule.proofs.Rows.Leaving.{steps_back}
use Rattle.seize_rule.proofs.Rows.Others.{with_here}
use Rattle.seize_model.proofs.Ends.Settling.Measure.{ends}
use Rattle.seize_model.proofs.Ends.Batches.Free.{plan_long}
use Rattle.seize_model.proofs.Ends.Batches.Rows.{leave_quiet}
use Rattle.seize_model.proofs.Ends.Rows.Run.{EndsWithin, to_go, to_go_falls}
use Rattle.seize_model.proofs.Ends.Settling.Most.{Lowers, most, not_over, ends_most}

-- how many steps a row takes at most that leaves
abbrev pub leave_most : ℕ → ℕ → Leaving → ℕ
leave_most n bound leaving.Swaps = suc (suc (suc (suc (bound * (10 * n + 22) + (10 * n + 20)))))
leave_most n bound (leaving.Settles settle) = suc (suc (suc (most n bound settle)))
leave_most n bound leaving.Frees = 2
leave_most n bound leaving.Over = 1

-- how many steps a leaving row takes, as long as its steps say so
abbrev pub leave_steps_left : {T : Type 0} → (T → Option ℕ) → (Settled T → Bool) → Mem T → Leave → ℕ
leave_steps_left defers goes mem c = to_go (leave_plan defers) goes (leave_most (LAST_SLOT + 1) (length mem.blocks + 1) c.stands) mem c

-- Of a world this lasts as a row steps, and where the row settles as it leaves, it has what it relies on.
pub record LastsSo {T : Type 0} (defers : T → Option ℕ) (i : ℕ) (Known : ℕ → Mem T → State → Extra → Settle → Type 0) (So : World T → Type 0) : Type 0 where
  pub steps : (w v : World T) → So w → Steps' defers i (w.row i) w v → So v
  pub settles : (w : World T) → So w → (c : Leave) (settle : Settle) → w.row i ≡ Leaves c → c.stands ≡ leaving.Settles settle
      → (m : State) × (x : Extra) × Known (length w.memory.blocks + 1) w.memory m x settle

module _ {T : Type 0} (defers : T → Option ℕ) (goes : Settled T → Bool) (stops : goes Done ≡ false) where
  -- behind its settling

  over_within : (k : ℕ) (mem : Mem T) (c : Leave) → c.stands ≡ leaving.Over → EndsWithin (leave_plan defers) goes (suc k) mem c
  over_within k mem c e mem2 end st going = absurd (done (subst (λ (p : Leaving). Steps Took value_at mem (plan_at defers c p) mem2 end) e st))
    where
      done : (mem2 ≡ mem) × (end ≡ (c, Done)) → ⊥
      done h = let a = ap (λ (q : Leave × Settled T). goes q.1) h.1 in cc (a, stops, going)

  frees_within : (k : ℕ) (mem : Mem T) (c : Leave) → c.stands ≡ leaving.Frees → EndsWithin (leave_plan defers) goes (suc (suc k)) mem c
  frees_within k mem c e mem2 end st going =
      let d = stored {R = Leave × Settled T} mem (λ out. Now (standing c leaving.Over, Goes)) (Slot c.slot HEAD) FREE mem2 end
      (subst (λ (p : Leaving). Steps Took value_at mem (plan_at defers c p) mem2 end) e st) in
      subst (λ (q : Leave × Settled T). EndsWithin (leave_plan defers) goes (suc k) mem2 q.0) (sym d.1) (over_within k mem2 (standing c leaving.Over) refl)

  down_within : (k : ℕ) (mem : Mem T) (c : Leave) → EndsWithin (leave_plan defers) goes (suc (suc k)) mem (counted_down c)
  down_within k mem c = one c.frees
    where
      one : (t : Bool) → EndsWithin (leave_plan defers) goes (suc (suc k)) mem (if t then standing c leaving.Frees else standing c leaving.Over)
      one true = frees_within k mem (standing c leaving.Frees) refl
      one false = over_within (suc k) mem (standing c leaving.Over) refl

module _ {T : Type 0} (defers : T → Option ℕ) (n i : ℕ) (goes : Settled T → Bool) (Known : ℕ → Mem T → State → Extra → Settle → Type 0) (lowers : Lowers defers n i goes Known) where
  -- a step of its settling
  settled_within : (k bound : ℕ) (mem mem2 : Mem T) (m : State) (x : Extra) (c : Leave) (settle : Settle) (end : Leave × Settled T) → Known bound mem m x settle
      → ((m2 : State) (x2 : Extra) (d : Settle) → Known bound mem2 m2 x2 d → ends n bound i m2 (view defers mem2) d < ends n bound i m (view defers mem) settle
      → EndsWithin (leave_plan defers) goes (suc (suc k)) mem2 (standing c (leaving.Settles d)))
      → Steps Took value_at mem (plan_at defers c (leaving.Settles settle)) mem2 end → goes end.1 ≡ true → EndsWithin (leave_plan defers) goes (suc (suc k)) mem2 end.0
  settled_within k bound mem mem2 m x c settle end r further st going =
      let b = steps_back (settled c) mem mem2 (settle_plan defers settle) end st in
      subst (λ (q : Leave × Settled T). EndsWithin (leave_plan defers) goes (suc (suc k)) mem2 q.0) (sym b.2)
      (one b.0.0 b.0.1 b.1 (sym (ap (λ (q : Leave × Settled T). goes q.1) b.2) ∙ going))
    where
      on : (d : Settle) (o : Settled T) → goes o ≡ true → Steps Took value_at mem (settle_plan defers settle) mem2 (d, o)
          → EndsWithin (leave_plan defers) goes (suc (suc k)) mem2 (standing c (leaving.Settles d))
      on d o went s =
          let h = lowers.on bound mem m x settle r mem2 (d, o) (not_over defers goes lowers.stops mem mem2 settle (d, o) s went) s went in
          further h.0 h.1 d h.2 h.3

      one : (d : Settle) (o : Settled T) → Steps Took value_at mem (settle_plan defers settle) mem2 (d, o) → goes (settled c (d, o)).1 ≡ true
          → EndsWithin (leave_plan defers) goes (suc (suc k)) mem2 (settled c (d, o)).0
      one d Goes s went = on d Goes went s
      one d Waits s went = on d Waits went s
      one d (Gave value) s went = on d (Gave value) went s
      one d Done s went = down_within defers goes lowers.stops k mem2 c

  settles_within : (k bound : ℕ) (mem : Mem T) (m : State) (x : Extra) (c : Leave) (settle : Settle) → c.stands ≡ leaving.Settles settle → Known bound mem m x settle
      → ends n bound i m (view defers mem) settle ≤ k → EndsWithin (leave_plan defers) goes (suc (suc (suc k))) mem c
  settles_within zero bound mem m x c settle e r le mem2 end st going =
      settled_within zero bound mem mem2 m x c settle end r (λ m2 x2 d r2 less. absurd (omega (arith, le, less)))
      (subst (λ (p : Leaving). Steps Took value_at mem (plan_at defers c p) mem2 end) e st) going
  settles_within (suc k) bound mem m x c settle e r le mem2 end st going =
      settled_within (suc k) bound mem mem2 m x c settle end r
      (λ m2 x2 d r2 less. settles_within k bound mem2 m2 x2 (standing c (leaving.Settles d)) d refl r2 (omega (arith, le, less)))
      (subst (λ (p : Leaving). Steps Took value_at mem (plan_at defers c p) mem2 end) e st) going

module _ {T : Type 0} (i : ℕ) where
  -- the row after a step after which it goes on
  pub leaving_on : (goes : Settled T → Bool) → goes Done ≡ false → (w : World T) (c d : Leave) (mem2 : Mem T) (o : Settled T) → goes o ≡ true
      → ((leaves_on w i c mem2 (d, o)).row i ≡ Leaves d) × ((leaves_on w i c mem2 (d, o)).memory ≡ mem2)
  leaving_on goes stops w c d mem2 Goes g = (with_here w.row i (Leaves d), refl)
  leaving_on goes stops w c d mem2 Waits g = (with_here w.row i (Leaves d), refl)
  leaving_on goes stops w c d mem2 (Gave value) g = (with_here w.row i (Leaves d), refl)
  leaving_on goes stops w c d mem2 Done g = absurd (cc (g, stops))

-- at a world of which this is so

module _ {T : Type 0} (defers : T → Option ℕ) (i : ℕ) (goes : Settled T → Bool) (Known : ℕ → Mem T → State → Extra → Settle → Type 0)
    (lowers : Lowers defers (LAST_SLOT + 1) i goes Known) (So : World T → Type 0) (lasts : LastsSo defers i Known So) where
  -- the world after its step
  leaves_so : (w : World T) → So w → (c : Leave) → w.row i ≡ Leaves c → (mem2 : Mem T) (end : Leave × Settled T)
      → Steps Took value_at w.memory (leave_plan defers c) mem2 end → So (leaves_on w i c mem2 end)
  leaves_so w so c is mem2 end st =
      lasts.steps w (leaves_on w i c mem2 end) so (subst (λ (r : Row). Steps' defers i r w (leaves_on w i c mem2 end)) (sym is) (mem2, end, st, refl))

  -- a row that settles within it, at a memory whose table of blocks is so long
  settling_within : (w : World T) → So w → (c : Leave) (settle : Settle) → w.row i ≡ Leaves c → c.stands ≡ leaving.Settles settle
      → (k : ℕ) → most (LAST_SLOT + 1) (length w.memory.blocks + 1) settle ≤ k → EndsWithin (leave_plan defers) goes (suc (suc (suc k))) w.memory c
  settling_within w so c settle is e k le =
      let r = lasts.settles w so c settle is e in
      let bound = length w.memory.blocks + 1 in
      let a = ends_most defers (LAST_SLOT + 1) bound i refl w.memory r.0 r.1 settle (lowers.among bound w.memory r.0 r.1 settle r.2) in
      settles_within defers (LAST_SLOT + 1) i goes Known lowers k bound w.memory r.0 r.1 c settle e r.2 (within _ _ _ a le)
    where
      within : (a b k : ℕ) → a ≤ b → b ≤ k → a ≤ k
      within a b k p q = omega (arith, p, q)

  swaps_within : (w : World T) → So w → (c : Leave) → w.row i ≡ Leaves c → c.stands ≡ leaving.Swaps
      → EndsWithin (leave_plan defers) goes (leave_most (LAST_SLOT + 1) (length w.memory.blocks + 1) leaving.Swaps) w.memory c
  swaps_within w so c is e mem2 end st going =
      let st2 = subst (λ (p : Leaving). Steps Took value_at w.memory (plan_at defers c p) mem2 end) e st in
      let d = swapped w.memory (list_taken c) (Slot c.slot HEAD) c.becomes mem2 end st2 in
      one d.0 (nat_lt ACTIVE d.0) (plan_long w.memory (plan_at defers c leaving.Swaps) mem2 end tt st2) d.3
    where
      enough : (a b : ℕ) → a ≡ b → most (LAST_SLOT + 1) (a + 1) (counting_down c.slot c.batch_size 0) ≤ (b + 1) * (10 * (LAST_SLOT + 1) + 22) + (10 * (LAST_SLOT + 1) + 20)
      enough a b e = omega (arith, e)

      one : (head : ℕ) (t : Bool) → length mem2.blocks ≡ length w.memory.blocks
          → Ends (value_at (with_word w.memory (Slot c.slot HEAD) c.becomes)) (if t then Now (standing c (leaving.Settles (counting_down c.slot c.batch_size head)), Goes) else Now (counted_down c, Goes)) end
          → EndsWithin (leave_plan defers) goes (suc (suc (suc ((length w.memory.blocks + 1) * (10 * (LAST_SLOT + 1) + 22) + (10 * (LAST_SLOT + 1) + 20))))) mem2 end.0
      one head true long z =
          let q = counting_down c.slot c.batch_size head in
          let c2 = standing c (leaving.Settles q) in
          let there = subst (λ (r : Leave × Settled T). Steps Took value_at w.memory (leave_plan defers c) mem2 r) z st in
          let v = leaves_on w i c mem2 (c2, Goes) in
          let now : v.row i ≡ Leaves c2 = with_here w.row i (Leaves c2) in
          subst (λ (r : Leave × Settled T). EndsWithin (leave_plan defers) goes (suc (suc (suc ((length w.memory.blocks + 1) * (10 * (LAST_SLOT + 1) + 22) + (10 * (LAST_SLOT + 1) + 20))))) mem2 r.0) (sym z)
          (settling_within v (leaves_so w so c is mem2 (c2, Goes) there) c2 q now refl
          ((length w.memory.blocks + 1) * (10 * (LAST_SLOT + 1) + 22) + (10 * (LAST_SLOT + 1) + 20)) (enough (length mem2.blocks) (length w.memory.blocks) long))
      one head false long z =
          subst (λ (r : Leave × Settled T). EndsWithin (leave_plan defers) goes (suc (suc (suc ((length w.memory.blocks + 1) * (10 * (LAST_SLOT + 1) + 22) + (10 * (LAST_SLOT + 1) + 20))))) mem2 r.0) (sym z)
          (down_within defers goes lowers.stops (suc ((length w.memory.blocks + 1) * (10 * (LAST_SLOT + 1) + 22) + (10 * (LAST_SLOT + 1) + 20))) mem2 c)

  leave_within : (w : World T) → So w → (c : Leave) → w.row i ≡ Leaves c → (p : Leaving) → c.stands ≡ p
      → EndsWithin (leave_plan defers) goes (leave_most (LAST_SLOT + 1) (length w.memory.blocks + 1) p) w.memory c
  leave_within w so c is leaving.Swaps e = swaps_within w so c is e
  leave_within w so c is (leaving.Settles settle) e = settling_within w so c settle is e (most (LAST_SLOT + 1) (length w.memory.blocks + 1) settle) (omega arith)
  leave_within w so c is leaving.Frees e = frees_within defers goes lowers.stops 0 w.memory c e
  leave_within w so c is leaving.Over e = over_within defers goes lowers.stops 0 w.memory c e

  -- a leaving row that goes on has less to go
  pub leave_falls : (w : World T) → So w → (c : Leave) → w.row i ≡ Leaves c
      → (mem2 : Mem T) (d : Leave) (o : Settled T) → Steps Took value_at w.memory (leave_plan defers c) mem2 (d, o) → goes o ≡ true
      → leave_steps_left defers goes mem2 d < leave_steps_left defers goes w.memory c
  leave_falls w so c is mem2 d o st going =
      let n = LAST_SLOT + 1 in
      let v = leaves_on w i c mem2 (d, o) in
      let next = leaving_on i goes lowers.stops w c d mem2 o going in
      let within2 = subst (λ (k : Mem T). EndsWithin (leave_plan defers) goes (leave_most n (length k.blocks + 1) d.stands) k d) next.1
      (leave_within v (leaves_so w so c is mem2 (d, o) st) d next.0 d.stands refl) in
      to_go_falls (leave_plan defers) goes (leave_most n (length w.memory.blocks + 1) c.stands) (leave_most n (length w.memory.blocks + 1) c.stands)
      (leave_most n (length mem2.blocks + 1) d.stands) (leave_most n (length mem2.blocks + 1) d.stands) w.memory mem2 c (d, o) (leave_quiet defers c c.stands)
      (leave_within w so c is c.stands refl) (same_le _) within2 (same_le _) st going
    where
      same_le : (k : ℕ) → k ≤ k
      same_le k = omega arith

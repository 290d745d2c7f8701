-- A row that is alone under way comes to its end: each of its steps leaves it less to go.
use Rattle.std.specs.Prelude.{Option, Some, None, IsSome, Ok, Err, ◌==◌, if◌then◌else◌}
use Rattle.std.proofs.Common.{◌≡◌, ℕ, zero, suc, ◌+◌, ◌<◌, ◌≤◌, Bool, true, false, [], ◌∷◌, inl, inr, refl, arith, ap, sym, subst, ◌∙◌}
use Rattle.seize_words.specs.OneMemory.Op.{Op, Out, Load, Store, Swap, Add, Or, Exchange, Make, Take, Rewrite, Room, Found, Stored, Made, Taken, Roomed}
use Rattle.seize_words.specs.OneMemory.Mem.{Mem, Can, Took, after, value_at, word_at}
use Rattle.seize_words.specs.OneMemory.Plan.{Plan, Turn, Do, May, Steps}
use Rattle.seize.specs.declared.states.TheConstants.{LAST_SLOT}
use Rattle.seize.specs.declared.advance.Advance.{Advance}
use Rattle.seize.specs.declared.advance.Advance.TheVariants as progress
use Rattle.seize.specs.declared.rows.settle.Settle.{Settle}
use Rattle.seize.specs.declared.rows.settle.Settled.{Settled}
use Rattle.seize.specs.declared.rows.settle.Settled.TheVariants as settled
use Rattle.seize.specs.declared.rows.leave.Leave.{Leave}
use Rattle.seize.specs.declared.rows.defer.Defer.{Defer}
use Rattle.seize.specs.declared.rows.register.Register.{Register}
use Rattle.seize.specs.Settle.{settle_plan}
use Rattle.seize.specs.Leave.{leave_plan}
use Rattle.seize.specs.Defer.{defer_plan}
use Rattle.seize.specs.Register.{register_plan}
use Rattle.seize.specs.Enter.{enter_plan, unregister_plan}
use Rattle.seize.specs.Law.{Entered}
use Rattle.seize.specs.World as world
use Rattle.seize.specs.World.{World, Row, Rests, Registers, Enters, Settles, Leaves, Defers, Frees, Steps', MayStep, settles_on, leaves_on, registers_on, defers_on, at_start}
use Rattle.seize_model.proofs.Given.SeizeRuleRows.Others.{with_here}
use Rattle.seize_model.proofs.Given.SeizeRuleWorld.Kept.{row_may}
use Rattle.seize_model.proofs.Given.SeizeRuleWorld.Rested.{Lone, steps_lone}
use Rattle.seize_model.proofs.Given.SeizeRuleWorld.Start.{start_good}
use Rattle.seize_model.proofs.Given.SeizeMemoryWords.View.{view}
use Rattle.seize_model.proofs.Ends.Batches.Held.{HoldsAlone}
use Rattle.seize_model.proofs.Ends.Batches.Rows.{HeldByRows, happens_held, runs_held, start_held, settles_alone}
use Rattle.seize_model.proofs.Ends.Rows.Register.{register_to_go, register_ends}
use Rattle.seize_model.proofs.Ends.Rows.Lone.{leave_to_go, settles_lower, leaves_lower}
use Rattle.seize_model.proofs.Ends.Rows.Defer.{Lower, defer_to_go, defer_ends}
use Rattle.seize_model.proofs.Ends.Settling.Most.{settle_to_go}
use Rattle.seize_model.proofs.Alone.Histories.Reached.{runs_reached}
use Rattle.seize_acts.specs.Acts.Answers.{Grant, then_on, exchanged, compared, taken, found, stored, answer, ends, stepped}
use Rattle.seize_acts.specs.Acts.Acts.{Step, became, row_steps, turns, turned, rests}
use Rattle.seize_acts.specs.Acts.Ends.{IdleWithin, LoneRowsEnd}
use Rattle.seize_acts.proofs.Acts.Answers.{some, answer_gives}
use Rattle.seize_acts.proofs.Acts.Begun.{rests_is}
use Rattle.seize_acts.proofs.Acts.Fine.{all_fine, row_stepped}
use Rattle.seize_acts.proofs.Acts.Steps.{sees_end, row_turns}
use Rattle.seize_words.proofs.General.{same_some}

-- a step that may be taken can be, with a choice of the memory

there : {X : Type 0} (o : Option X) → IsSome o → (x : X) × (o ≡ Some x)
there None some = absurd (cc some)
there (Some x) some = (x, refl)

module _ {T : Type 0} where
  can_answer : (m : Mem T) (op : Op T) → Can m op → (g : Grant) × (out : Out T) × (answer m g op ≡ Some out)
  can_answer m (Load at) can = let w = there (word_at m at) can in (None, Found w.0, ap found w.1)
  can_answer m (Store at v) can = let w = there (word_at m at) can in (None, Stored, ap stored w.1)
  can_answer m (Swap at v) can = let w = there (word_at m at) can in (None, Found w.0, ap found w.1)
  can_answer m (Add at v) can = let w = there (word_at m at) can in (None, Found w.0, ap found w.1)
  can_answer m (Or at v) can = let w = there (word_at m at) can in (None, Found w.0, ap found w.1)
  can_answer m (Exchange at old new) can = let w = there (word_at m at) can in (None, compared w.0 (w.0 == old), ap (exchanged old) w.1)
  can_answer m (Make value words) can = (None, Made (Err value), refl)
  can_answer m (Take b) can = let v = there (value_at m b) can in (None, Taken v.0, ap taken v.1)
  can_answer m (Rewrite b new) can = let v = there (value_at m b) can in (None, Taken v.0, ap taken v.1)
  can_answer m (Room bucket) can = (Some 0, Roomed (Ok tt), refl)

  can_step : {R : Type 0} (m : Mem T) (plan : Plan T R) → May Can Took value_at m plan → (g : Grant) × (p : Mem T × R) × (stepped m g plan ≡ Some p)
  can_step {R} m (Turn rest) may =
      let s = sees_end (value_at m) rest may in (None, (m, s.0), ap (λ (o : Option R). then_on o (λ x. Some (m, x))) s.1)
  can_step {R} m (Do op rest) may =
      let a = can_answer m op may.0 in
      let s = sees_end (value_at (after m op a.1)) (rest a.1) (may.1 a.1 (after m op a.1) (answer_gives m a.0 op a.1 a.2, refl)) in (
        a.0,
        (after m op a.1, s.0),
        ap (λ (o : Option (Out T)). then_on o (λ out. then_on (ends (value_at (after m op out)) (rest out)) (λ x. Some (after m op out, x)))) a.2
            ∙ ap (λ (o : Option R). then_on o (λ x. Some (after m op a.1, x))) s.1,
      )

module _ {T : Type 0} (defers : T → Option ℕ) (size i : ℕ) where
  -- how many steps a row takes at most that is alone
  abbrev pub row_to_go : Mem T → Row → ℕ
  row_to_go m Rests = 0
  row_to_go m (Registers c) = suc (register_to_go c)
  row_to_go m (Enters c) = 1
  row_to_go m (Settles c) = suc (settle_to_go defers m c)
  row_to_go m (Leaves c) = suc (leave_to_go defers m c)
  row_to_go m (Defers s c) = suc (defer_to_go m c)
  row_to_go m (Frees c) = 1

  abbrev pub to_go : World T → ℕ
  to_go w = row_to_go w.memory (w.row i)

  pub none_to_go : (m : Mem T) (row : Row) → row_to_go m row ≤ 0 → row ≡ Rests
  none_to_go m Rests le = refl
  none_to_go m (Registers c) le = absurd (omega (arith, le))
  none_to_go m (Enters c) le = absurd (omega (arith, le))
  none_to_go m (Settles c) le = absurd (omega (arith, le))
  none_to_go m (Leaves c) le = absurd (omega (arith, le))
  none_to_go m (Defers s c) le = absurd (omega (arith, le))
  none_to_go m (Frees c) le = absurd (omega (arith, le))

  -- where the row goes on as this one
  here : (w : World T) (m : Mem T) (row : Row) (k : ℕ) → row_to_go m row < k → row_to_go m (world.with_at w.row i row i) < k
  here w m row k less = subst (λ (r : Row). row_to_go m r < k) (sym (with_here w.row i row)) less

  more : (a b : ℕ) → a < b → suc a < suc b
  more a b less = omega (arith, less)

  some_left : (k : ℕ) → 0 < suc k
  some_left k = omega arith

  module _ (w : World T) (lone : Lone defers (LAST_SLOT + 1) size i w) (held : HeldByRows w) where
    registers_less : (c d : Register) (m : Mem T) (o : Advance ℕ) → Steps Took value_at w.memory (register_plan c) m (d, o)
        → to_go (registers_on w i c m (d, o)) < suc (register_to_go c)
    registers_less c d m progress.Goes st = here w m (Registers d) _ (more _ _ (register_ends w.memory c m (d, progress.Goes) st tt))
    registers_less c d m progress.Waits st = here w m (Registers d) _ (more _ _ (register_ends w.memory c m (d, progress.Waits) st tt))
    registers_less c d m (progress.Done s) st = here w m Rests _ (some_left (register_to_go c))
    registers_less c d m (progress.Refused fault) st = here w m Rests _ (some_left (register_to_go c))

    -- no batch is held but its own
    mine : (c : Settle) → w.row i ≡ Settles c → HoldsAlone (view defers w.memory) c
    mine c is = settles_alone w i lone.others held defers c is

    settles_less : (c d : Settle) (m : Mem T) (o : Settled T) → w.row i ≡ Settles c → Steps Took value_at w.memory (settle_plan defers c) m (d, o)
        → to_go (settles_on w i c m (d, o)) < suc (settle_to_go defers w.memory c)
    settles_less c d m settled.Goes is st =
        here w m (Settles d) _ (more _ _ (settles_lower defers size i w lone c is (mine c is) m (d, settled.Goes) st refl))
    settles_less c d m settled.Waits is st =
        here w m (Settles d) _ (more _ _ (settles_lower defers size i w lone c is (mine c is) m (d, settled.Waits) st refl))
    settles_less c d m (settled.Gave value) is st =
        here w m (Settles d) _ (more _ _ (settles_lower defers size i w lone c is (mine c is) m (d, settled.Gave value) st refl))
    settles_less c d m settled.Done is st = here w m Rests _ (some_left (settle_to_go defers w.memory c))

    leaves_less : (c d : Leave) (m : Mem T) (o : Settled T) → w.row i ≡ Leaves c → Steps Took value_at w.memory (leave_plan defers c) m (d, o)
        → to_go (leaves_on w i c m (d, o)) < suc (leave_to_go defers w.memory c)
    leaves_less c d m settled.Goes is st = here w m (Leaves d) _ (more _ _ (leaves_lower defers size i w lone held c is m d settled.Goes st refl))
    leaves_less c d m settled.Waits is st = here w m (Leaves d) _ (more _ _ (leaves_lower defers size i w lone held c is m d settled.Waits st refl))
    leaves_less c d m (settled.Gave value) is st =
        here w m (Leaves d) _ (more _ _ (leaves_lower defers size i w lone held c is m d (settled.Gave value) st refl))
    leaves_less c d m settled.Done is st = here w m Rests _ (some_left (leave_to_go defers w.memory c))

    defers_less : (s : ℕ) (c d : Defer) (m : Mem T) (o : Advance Unit) → w.row i ≡ Defers s c → Lower (defer_to_go w.memory c) m (d, o)
        → to_go (defers_on w i s m (d, o)) < suc (defer_to_go w.memory c)
    defers_less s c d m progress.Goes is (inl k) = here w m (Defers s d) _ (more _ _ k.1)
    defers_less s c d m progress.Goes is (inr e) = absurd (cc e)
    defers_less s c d m progress.Waits is (inl k) = absurd (let e = k.0 in cc e)
    defers_less s c d m progress.Waits is (inr e) = absurd (cc e)
    defers_less s c d m (progress.Done u) is l = here w m Rests _ (some_left (defer_to_go w.memory c))
    defers_less s c d m (progress.Refused fault) is (inl k) = absurd (let e = k.0 in cc e)
    defers_less s c d m (progress.Refused fault) is (inr e) = absurd (cc e)

    -- with each step there is less to go
    pub step_less : (row : Row) (u : World T) → w.row i ≡ row → Steps' defers i row w u → to_go u < row_to_go w.memory row
    step_less Rests u is st = absurd st
    step_less (Registers c) u is st = subst (λ (x : World T). to_go x < suc (register_to_go c)) (sym st.3) (registers_less c st.1.0 st.0 st.1.1 st.2)
    step_less (Enters c) u is st = subst (λ (x : World T). to_go x < 1) (sym st.3) (here w st.0 Rests 1 (some_left 0))
    step_less (Settles c) u is st =
        subst (λ (x : World T). to_go x < suc (settle_to_go defers w.memory c)) (sym st.3) (settles_less c st.1.0 st.0 st.1.1 is st.2)
    step_less (Leaves c) u is st = subst (λ (x : World T). to_go x < suc (leave_to_go defers w.memory c)) (sym st.3) (leaves_less c st.1.0 st.0 st.1.1 is st.2)
    step_less (Defers s c) u is st =
        subst (λ (x : World T). to_go x < suc (defer_to_go w.memory c)) (sym st.3)
        (defers_less s c st.1.0 st.0 st.1.1 is (defer_ends defers (LAST_SLOT + 1) w lone.good i s c is st.0 st.1 st.2))
    step_less (Frees c) u is st = subst (λ (x : World T). to_go x < 1) (sym st.3) (here w st.0 Rests 1 (some_left 0))

  -- what is known of a world in which it is alone
  pub record Alone (w : World T) : Type 0 where
    pub lone : Lone defers (LAST_SLOT + 1) size i w
    pub held : HeldByRows w

  pub stepped_alone : (w u : World T) → Alone w → Steps' defers i (w.row i) w u → Alone u
  stepped_alone w u a st = record {
    lone = steps_lone defers (LAST_SLOT + 1) size refl i w u a.lone st;
    held = happens_held defers size (world.Step i) w u a.lone.good st a.held;
  }

  -- its steps without an operation
  turned_on : (left : ℕ) (w n : World T) → Alone w → turned defers left i w ≡ Some n → Alone n × (to_go n ≤ to_go w)
  turned_on zero w n a e = subst (λ (x : World T). Alone x × (to_go x ≤ to_go w)) (same_some w n e) (a, omega arith)
  turned_on (suc left) w n a e = by (turns defers (w.row i)) (λ v b k. turned_on left v n b k) e
    where
      by : (y : Bool) → ((v : World T) → Alone v → turned defers left i v ≡ Some n → Alone n × (to_go n ≤ to_go v))
          → (if y then then_on (row_steps defers i (w.row i) None w) (turned defers left i) else Some w) ≡ Some n → Alone n × (to_go n ≤ to_go w)
      by true later k =
          let s = some (row_steps defers i (w.row i) None w) (turned defers left i) n k in
          let st = row_stepped defers size i (w.row i) None w s.0 s.1 in
          let l = later s.0 (stepped_alone w s.0 a st) s.2 in
          let less = step_less w a.lone a.held (w.row i) s.0 refl st in
          (l.0, (let le = l.1 in omega (arith, le, less)))
      by false later k = subst (λ (x : World T). Alone x × (to_go x ≤ to_go w)) (same_some w n k) (a, omega arith)

  -- there are such
  turned_there : (left : ℕ) (w : World T) → Alone w → (n : World T) × (turned defers left i w ≡ Some n)
  turned_there zero w a = (w, refl)
  turned_there (suc left) w a = by (turns defers (w.row i)) refl (λ v b. turned_there left v b)
    where
      by : (y : Bool) → turns defers (w.row i) ≡ y → ((v : World T) → Alone v → (u : World T) × (turned defers left i v ≡ Some u))
          → (n : World T) × ((if y then then_on (row_steps defers i (w.row i) None w) (turned defers left i) else Some w) ≡ Some n)
      by false e later = (w, refl)
      by true e later =
          let s = row_turns defers i (w.row i) w (row_may defers (LAST_SLOT + 1) size refl w a.lone.good i (w.row i) refl) e in
          let t = later s.0 (stepped_alone w s.0 a (row_stepped defers size i (w.row i) None w s.0 s.1)) in
          (t.0, ap (λ (o : Option (World T)). then_on o (turned defers left i)) s.1 ∙ t.1)

  -- a row under way has a next step
  made_of : {R : Type 0} (w : World T) (plan : Plan T R) (made : Mem T × R → World T) → May Can Took value_at w.memory plan
      → (g : Grant) × (u : World T) × (then_on (stepped w.memory g plan) (λ p. Some (made p)) ≡ Some u)
  made_of {R} w plan made may = let s = can_step w.memory plan may in (s.0, made s.1, ap (λ (o : Option (Mem T × R)). then_on o (λ p. Some (made p))) s.2)

  pub row_there : (row : Row) (w : World T) → rests row ≡ false → MayStep defers row w.memory
      → (g : Grant) × (u : World T) × (row_steps defers i row g w ≡ Some u)
  row_there Rests w e may = absurd (cc e)
  row_there (Registers c) w e may = made_of w (register_plan c) (λ p. registers_on w i c p.0 p.1) may
  row_there (Enters c) w e may =
      made_of w (enter_plan c) (λ p. world.with_use (world.after_step w i p.0 Rests (Entered c.slot ∷ [])) c.slot (world.Inside 0)) may
  row_there (Settles c) w e may = made_of w (settle_plan defers c) (λ p. settles_on w i c p.0 p.1) may
  row_there (Leaves c) w e may = made_of w (leave_plan defers c) (λ p. leaves_on w i c p.0 p.1) may
  row_there (Defers s c) w e may = made_of w (defer_plan c) (λ p. defers_on w i s p.0 p.1) may
  row_there (Frees c) w e may = made_of w (unregister_plan c) (λ p. world.with_use (world.after_step w i p.0 Rests []) c.slot world.Vacant) may

  next_there : (w : World T) → Alone w → rests (w.row i) ≡ false → (g : Grant) × (n : World T) × (became defers size (Step i g) w ≡ Some n)
  next_there w a e =
      let s = row_there (w.row i) w e (row_may defers (LAST_SLOT + 1) size refl w a.lone.good i (w.row i) refl) in
      let t = turned_there 2 s.1 (stepped_alone w s.1 a (row_stepped defers size i (w.row i) s.0 w s.1 s.2)) in
      (s.0, t.0, ap (λ (o : Option (World T)). then_on o (turned defers 2 i)) s.2 ∙ t.1)

  step_on : (g : Grant) (w n : World T) → Alone w → became defers size (Step i g) w ≡ Some n → Alone n × (to_go n < to_go w)
  step_on g w n a e =
      let s = some (row_steps defers i (w.row i) g w) (turned defers 2 i) n e in
      let st = row_stepped defers size i (w.row i) g w s.0 s.1 in
      let t = turned_on 2 s.0 n (stepped_alone w s.0 a st) s.2 in
      let less = step_less w a.lone a.held (w.row i) s.0 refl st in
      (t.0, (let le = t.1 in omega (arith, le, less)))

  rests_within : (k : ℕ) (w : World T) → Alone w → to_go w ≤ k → IdleWithin defers size k i w
  rests_within zero w a le = none_to_go w.memory (w.row i) le
  rests_within (suc k) w a le = by (rests (w.row i)) refl (λ n b less. rests_within k n b less)
    where
      by : (y : Bool) → rests (w.row i) ≡ y → ((n : World T) → Alone n → to_go n ≤ k → IdleWithin defers size k i n) → IdleWithin defers size (suc k) i w
      by true e later = inl (rests_is (w.row i) e)
      by false e later = inr (next_there w a e, (λ g n made. let t = step_on g w n a made in later n t.0 (let less = t.1 in omega (arith, le, less))))

pub lone_rows_end : {T : Type 0} (defers : T → Option ℕ) → LoneRowsEnd defers
lone_rows_end {T} defers size roots i acts w did others = (to_go defers size i w, rests_within defers size i (to_go defers size i w) w alone (omega arith))
  where
    alone : Alone defers size i w
    alone =
        let f = all_fine defers size acts (at_start defers roots) w did in
        let start = start_good defers (LAST_SLOT + 1) size roots in
        let r = runs_reached defers size f.0 (at_start defers roots) w (record { good = start; sized = λ j. tt }) f.1 in
        record {
          lone = record { good = r.good; sized = r.sized; others = others };
          held = runs_held defers size f.0 (at_start defers roots) w start (λ j. tt) f.1 (start_held defers size roots);
        }

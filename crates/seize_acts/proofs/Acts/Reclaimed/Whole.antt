-- A row that may begin while all others rest can come to its end, and that whole call is a list of its caller's acts.
use Rattle.std.specs.Prelude.{Option, Some, None, if◌then◌else◌, ◌++◌}
use Rattle.std.proofs.Common.{◌≡◌, ℕ, zero, suc, ◌+◌, ◌≤◌, Bool, true, false, List, [], ◌∷◌, refl, arith, ap, sym, subst, ◌∙◌}
use Rattle.seize_words.specs.OneMemory.Mem.{Mem}
use Rattle.seize_words.specs.OneMemory.Plan.{Plan, Turn, Do}
use Rattle.seize.specs.declared.states.TheConstants.{LAST_SLOT, IDLE}
use Rattle.seize.specs.declared.rows.register.Register.{Register}
use Rattle.seize.specs.declared.rows.register.Registering.TheVariants as registering
use Rattle.seize.specs.declared.rows.enter.Unregister.{Unregister}
use Rattle.seize.specs.Settle.{settle_plan, flushing}
use Rattle.seize.specs.Leave.{leave_plan, leaving as leaving_slot}
use Rattle.seize.specs.Defer.{defer_plan}
use Rattle.seize.specs.Register.{register_plan}
use Rattle.seize.specs.Enter.{enter_plan, unregister_plan}
use Rattle.seize.specs.Law.{Entered}
use Rattle.seize.specs.World as world
use Rattle.seize.specs.World.{World, Row, Rests, Registers, Enters, Settles, Leaves, Defers, Frees, Use, Vacant, Outside, Inside, Changing, Request, Register', Leave', Flush, Unregister', Steps', Begins, IsTaken, registers_on, settles_on, leaves_on, defers_on, with_use}
use Rattle.seize.specs.Sequence.{RunsOn, Calls, Whole, changes}
use Rattle.seize_model.proofs.Given.SeizeRuleRows.Others.{with_here}
use Rattle.seize_model.proofs.Given.SeizeRuleWorld.Kept.{row_may}
use Rattle.seize_model.proofs.Given.SeizeRuleWorld.Rested.{Rested, Lone, begins_lone, steps_lone, calls_rested}
use Rattle.seize_model.proofs.Ends.Batches.Rows.{HeldByRows, happens_held, turns_held}
use Rattle.seize_acts.specs.Acts.Answers.{Grant, then_on, stepped, is_turn}
use Rattle.seize_acts.specs.Acts.Acts.{Act, Begin, Step, AllDid, begun, rests, is_inside, is_outside, is_taken, row_steps, turns, turned, steps}
use Rattle.seize_acts.specs.Acts.Reclaimed.{is_reclaiming, AllReclaim}
use Rattle.seize_acts.proofs.Acts.Begun.{rests_is}
use Rattle.seize_acts.proofs.Acts.Ends.{Alone, to_go, none_to_go, row_there, step_less, stepped_alone}
use Rattle.seize_acts.proofs.Acts.Fine.{row_stepped}
use Rattle.seize_acts.proofs.Acts.Steps.{given_so, row_so}
use Rattle.seize_words.proofs.General.{equal_itself as same}

-- no row is under way, and no batch is in hand
pub record Calm {T : Type 0} (defers : T → Option ℕ) (size : ℕ) (w : World T) : Type 0 where
  pub rested : Rested defers (LAST_SLOT + 1) size w
  pub held : HeldByRows w

pub taken_so : (u : Use) → IsTaken u → is_taken u ≡ true
taken_so Vacant t = absurd t
taken_so (Outside n) t = refl
taken_so (Inside n) t = refl
taken_so Changing t = absurd t

module _ {T : Type 0} (defers : T → Option ℕ) (size i : ℕ) where
  -- a row that is alone runs to its end
  runs : (k : ℕ) (w : World T) → Alone defers size i w → to_go defers size i w ≤ k → (count : ℕ) × (n : World T) × RunsOn defers count i w n
  runs zero w a le = (0, w, (none_to_go defers size i w.memory (w.row i) le, refl))
  runs (suc k) w a le = by (rests (w.row i)) refl (λ n b less. runs k n b less)
    where
      by : (y : Bool) → rests (w.row i) ≡ y → ((n : World T) → Alone defers size i n → to_go defers size i n ≤ k
          → (count : ℕ) × (u : World T) × RunsOn defers count i n u)
          → (count : ℕ) × (n : World T) × RunsOn defers count i w n
      by true e later = (0, w, (rests_is (w.row i) e, refl))
      by false e later =
          let s = row_there defers size i (w.row i) w e (row_may defers (LAST_SLOT + 1) size refl w a.lone.good i (w.row i) refl) in
          let st = row_stepped defers size i (w.row i) s.0 w s.1 s.2 in
          let less = step_less defers size i w a.lone a.held (w.row i) s.1 refl st in
          let r = later s.1 (stepped_alone defers size i w s.1 a st) (omega (arith, le, less)) in
          (suc r.0, r.1, (s.1, st, r.2))

  pub calls_calm : (request : Request) (w v : World T) → Calm defers size w → Calls defers size i request w v → Calm defers size v
  calls_calm request w v calm h = record {
    rested = calls_rested defers (LAST_SLOT + 1) size refl i request w v calm.rested h;
    held = turns_held defers size (Whole i request ∷ []) w v (changes request w.uses v.uses ++ []) calm.rested (v, [], h, (refl, refl), refl) calm.held;
  }

  -- a row that may begin makes a whole call
  pub call_there : (request : Request) (w v : World T) → Calm defers size w → Begins defers size i request w v → (n : World T) × Calls defers size i request w n
  call_there request w v calm h =
      let a : Alone defers size i v = record {
        lone = begins_lone defers (LAST_SLOT + 1) size refl i request w v calm.rested h;
        held = happens_held defers size (world.Begin i request) w v calm.rested.good (calm.rested.rests i, h) calm.held;
      } in
      let r = runs (to_go defers size i v) v a (omega arith) in
      (r.1, (v, r.0, calm.rested.rests i, h, r.2))

  -- what a step without an operation comes to does not depend on the memory's choice

  turn_any : {R : Type 0} (m : Mem T) (g : Grant) (plan : Plan T R) → is_turn plan ≡ true → stepped m g plan ≡ stepped m None plan
  turn_any m g (Turn rest) e = refl
  turn_any m g (Do op rest) e = absurd (cc e)

  any_of : {R : Type 0} (w : World T) (g : Grant) (plan : Plan T R) (made : Mem T × R → World T) → is_turn plan ≡ true
      → then_on (stepped w.memory g plan) (λ p. Some (made p)) ≡ then_on (stepped w.memory None plan) (λ p. Some (made p))
  any_of {R} w g plan made e = ap (λ (o : Option (Mem T × R)). then_on o (λ p. Some (made p))) (turn_any w.memory g plan e)

  row_any : (row : Row) (g : Grant) (w : World T) → turns defers row ≡ true → row_steps defers i row g w ≡ row_steps defers i row None w
  row_any Rests g w e = absurd (cc e)
  row_any (Registers c) g w e = any_of w g (register_plan c) (λ p. registers_on w i c p.0 p.1) e
  row_any (Enters c) g w e = any_of w g (enter_plan c) (λ p. with_use (world.after_step w i p.0 Rests (Entered c.slot ∷ [])) c.slot (Inside 0)) e
  row_any (Settles c) g w e = any_of w g (settle_plan defers c) (λ p. settles_on w i c p.0 p.1) e
  row_any (Leaves c) g w e = any_of w g (leave_plan defers c) (λ p. leaves_on w i c p.0 p.1) e
  row_any (Defers s c) g w e = any_of w g (defer_plan c) (λ p. defers_on w i s p.0 p.1) e
  row_any (Frees c) g w e = any_of w g (unregister_plan c) (λ p. with_use (world.after_step w i p.0 Rests []) c.slot Vacant) e

  abbrev Lone' : World T → Type 0
  Lone' w = Lone defers (LAST_SLOT + 1) size i w

  step_so : (w v : World T) → Lone' w → Steps' defers i (w.row i) w v → (g : Grant) × (row_steps defers i (w.row i) g w ≡ Some v)
  step_so w v lone st = row_so defers i (w.row i) w v (row_may defers (LAST_SLOT + 1) size refl w lone.good i (w.row i) refl) st

  -- the steps without an operation belong to the act before them

  abbrev Folded : ℕ → ℕ → World T → World T → Option (World T) → Type 0
  Folded left count w n o = (u : World T) × (rest : ℕ) × (rest ≤ count) × (o ≡ Some u) × RunsOn defers rest i u n × Lone' u

  folded : (left count : ℕ) (w n : World T) → Lone' w → RunsOn defers count i w n → Folded left count w n (turned defers left i w)
  folded zero count w n lone h = (w, count, omega arith, refl, h, lone)
  folded (suc left) count w n lone h = by (turns defers (w.row i)) refl count h (λ more v lone2 h2. folded left more v n lone2 h2)
    where
      by : (y : Bool) → turns defers (w.row i) ≡ y → (all : ℕ) → RunsOn defers all i w n
          → ((more : ℕ) (v : World T) → Lone' v → RunsOn defers more i v n → Folded left more v n (turned defers left i v))
          → Folded (suc left) all w n (if y then then_on (row_steps defers i (w.row i) None w) (turned defers left i) else Some w)
      by false e all h ih = (w, all, omega arith, refl, h, lone)
      by true e zero h ih = absurd (let r = ap (turns defers) h.0 in cc (r, e))
      by true e (suc all) h ih =
          let t = ih all h.0 (steps_lone defers (LAST_SLOT + 1) size refl i w h.0 lone h.1) h.2 in
          let s = step_so w h.0 lone h.1 in (
            t.0,
            t.1,
            (let le = t.2 in omega (arith, le)),
            ap (λ (o : Option (World T)). then_on o (turned defers left i)) (sym (row_any (w.row i) s.0 w e) ∙ s.1) ∙ t.3,
            t.4,
            t.5,
          )

  -- these acts of this caller lead from here to there
  abbrev pub Reaches : World T → World T → Type 0
  Reaches w n = (acts : List (Act T)) × AllReclaim i acts × AllDid defers size acts w n

  pub stays : (w n : World T) → n ≡ w → Reaches w n
  stays w n e = ([], tt, e)

  pub reaches_on : (w v n : World T) → Reaches w v → Reaches v n → Reaches w n
  reaches_on w v n a b = both a.0 w a.1 a.2
    where
      both : (acts : List (Act T)) (x : World T) → AllReclaim i acts → AllDid defers size acts x v → Reaches x n
      both [] x all did = (b.0, b.1, subst (λ (y : World T). AllDid defers size b.0 y n) did b.2)
      both (act ∷ acts) x all did = let k = both acts did.0 all.1 did.2 in (act ∷ k.0, (all.0, k.1), (did.0, did.1, k.2))

  -- the rest of a row
  rest_reaches : (fuel count : ℕ) → count ≤ fuel → (w n : World T) → Lone' w → RunsOn defers count i w n → Reaches w n
  rest_reaches fuel zero le w n lone h = stays w n h.1
  rest_reaches zero (suc count) le w n lone h = absurd (omega (arith, le))
  rest_reaches (suc fuel) (suc count) le w n lone h =
      let s = step_so w h.0 lone h.1 in
      let f = folded 2 count h.0 n (steps_lone defers (LAST_SLOT + 1) size refl i w h.0 lone h.1) h.2 in
      let k = rest_reaches fuel f.1 (let a = f.2 in omega (arith, a, le)) f.0 n f.5 f.4 in
      (Step i s.0 ∷ k.0, (same i, k.1), (f.0, (ap (λ (o : Option (World T)). then_on o (turned defers 2 i)) s.1 ∙ f.3, tt), k.2))

  -- a row begins so
  record Opens (request : Request) (w v : World T) : Type 0 where
    computed : begun defers size i request w ≡ Some v
    busy : rests (v.row i) ≡ false
    mine : (g : Grant) → is_reclaiming {T = T} i (Begin i request g) ≡ true

  opens_reach : (request : Request) (w v n : World T) (count : ℕ) → Calm defers size w → Begins defers size i request w v → Opens request w v
      → RunsOn defers count i v n → Reaches w n
  opens_reach request w v n zero calm b o h = absurd (let r = ap rests h.0 in let q = o.busy in cc (r, q))
  opens_reach request w v n (suc count) calm b o h =
      let lone = begins_lone defers (LAST_SLOT + 1) size refl i request w v calm.rested b in
      let s = step_so v h.0 lone h.1 in
      let f = folded 2 count h.0 n (steps_lone defers (LAST_SLOT + 1) size refl i v h.0 lone h.1) h.2 in
      let k = rest_reaches f.1 f.1 (omega arith) f.0 n f.5 f.4 in
      let at_once : steps defers i s.0 v ≡ Some f.0 = ap (λ (x : Option (World T)). then_on x (turned defers 2 i)) s.1 ∙ f.3 in
      (Begin i request s.0 ∷ k.0, (o.mine s.0, k.1), (f.0, (began s.0 f.0 (rests (w.row i)) (ap rests (calm.rested.rests i)) at_once, tt), k.2))
    where
      began : (g : Grant) (u : World T) (y : Bool) → y ≡ true → steps defers i g v ≡ Some u
          → (if y then then_on (begun defers size i request w) (steps defers i g) else None) ≡ Some u
      began g u true e at_once = ap (λ (x : Option (World T)). then_on x (steps defers i g)) o.computed ∙ at_once
      began g u false e at_once = absurd (cc e)

  -- the four kinds of calls

  pub registers_reach : (w n : World T) → Calm defers size w → Calls defers size i (Register' false) w n → Reaches w n
  registers_reach w n calm h =
      let c : Register = record { slot = 0; enters = false; stands = registering.Begin } in
      opens_reach (Register' false) w h.0 n h.1 calm h.3
      (record { computed = ap Some (sym h.3); busy = ap rests (ap (λ (x : World T). x.row i) h.3 ∙ with_here w.row i (Registers c)); mine = λ g. same i }) h.4

  pub leaves_reach : (s : ℕ) (w n : World T) → Calm defers size w → Calls defers size i (Leave' s) w n → Reaches w n
  leaves_reach s w n calm h =
      opens_reach (Leave' s) w h.0 n h.1 calm h.3
      (record {
        computed = given_so (is_inside (w.uses s)) _ (ap is_inside h.3.0) ∙ ap Some (sym h.3.1);
        busy = ap rests (ap (λ (x : World T). x.row i) h.3.1 ∙ with_here w.row i (Leaves (leaving_slot s size IDLE false)));
        mine = λ g. same i;
      }) h.4

  pub flushes_reach : (s : ℕ) (w n : World T) → Calm defers size w → Calls defers size i (Flush s) w n → Reaches w n
  flushes_reach s w n calm h =
      opens_reach (Flush s) w h.0 n h.1 calm h.3
      (record {
        computed = given_so (is_taken (w.uses s)) _ (taken_so (w.uses s) h.3.0) ∙ ap Some (sym h.3.1);
        busy = ap rests (ap (λ (x : World T). x.row i) h.3.1 ∙ with_here w.row i (Settles (flushing s size)));
        mine = λ g. same i;
      }) h.4

  pub frees_reach : (s : ℕ) (w n : World T) → Calm defers size w → Calls defers size i (Unregister' s) w n → Reaches w n
  frees_reach s w n calm h =
      let gives : Unregister = record { slot = s } in
      opens_reach (Unregister' s) w h.0 n h.1 calm h.3
      (record {
        computed = given_so (is_outside (w.uses s)) _ (ap is_outside h.3.0) ∙ ap Some (sym h.3.1);
        busy = ap rests (ap (λ (x : World T). x.row i) h.3.1 ∙ with_here w.row i (Frees gives));
        mine = λ g. same i;
      }) h.4

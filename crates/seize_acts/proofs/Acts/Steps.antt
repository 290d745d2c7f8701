-- Each step that a memory took of a row is computed, from what the memory was seen to choose.
use Rattle.std.specs.Prelude.{Option, Some, None, Ok, Err, ◌&&◌, nat_lt, if◌then◌else◌}
use Rattle.std.proofs.Common.{◌≡◌, ℕ, zero, suc, IsSome, ◌<◌, ◌^◌, Bool, true, false, [], ◌∷◌, refl, sym, subst, ap, arith, ◌∙◌}
use Rattle.std.specs.Option.{is_none}
use Rattle.seize_words.specs.declared.block.Block.{Block}
use Rattle.seize_words.specs.OneMemory.Op.{Op, Out, Load, Store, Swap, Add, Or, Exchange, Make, Take, Rewrite, Room, Found, Stored, Exchanged, Made, Taken, Roomed}
use Rattle.seize_words.specs.OneMemory.Mem.{Mem, Gives, Took, Can, after, value_at, block_of, IsFreeNumber}
use Rattle.seize_words.specs.OneMemory.Plan.{Plan, Then, Turn, Do, Now, Seeing, Sure, Ends, Steps, May, MaySee}
use Rattle.seize.specs.Settle.{settle_plan}
use Rattle.seize.specs.Leave.{leave_plan}
use Rattle.seize.specs.Defer.{defer_plan}
use Rattle.seize.specs.Register.{register_plan}
use Rattle.seize.specs.Enter.{enter_plan, unregister_plan}
use Rattle.seize.specs.Law.{Entered}
use Rattle.seize.specs.World as world
use Rattle.seize.specs.World.{World, Row, Rests, Registers, Enters, Settles, Leaves, Defers, Frees, Steps', MayStep, at_start}
use Rattle.seize_model.proofs.Given.SeizeRuleWorld.Kept.{rows_may}
use Rattle.seize_acts.specs.Acts.Answers.{Grant, then_on, given, is_free, answer, ends, stepped, is_turn}
use Rattle.seize_acts.specs.Acts.Acts.{row_steps, turned, turns}
use Rattle.seize_acts.specs.Acts.Laws.{StepsAreActs}
use Rattle.seize_acts.proofs.Acts.Fine.{Fine, all_fine, both, one, row_stepped}

pub given_so : {X : Type 0} (y : Bool) (x : X) → y ≡ true → given y x ≡ Some x
given_so true x e = refl
given_so false x e = absurd (cc e)

module _ {T : Type 0} where
  free_so : (m : Mem T) (b : ℕ) → IsFreeNumber m b → b < 2 ^ 53 → is_free m b ≡ true
  free_so m b free fits = by (block_of m b) free.0
    where
      by : (o : Option (Block T)) → o ≡ None → (is_none o && nat_lt 0 b && nat_lt b (2 ^ 53)) ≡ true
      by None e = let pos = free.1 in grind (arith, pos, fits)
      by (Some x) e = absurd (cc e)

  -- what the memory was seen to choose
  abbrev granted : Out T → Grant
  granted (Made (Ok b)) = Some b
  granted (Roomed (Ok made)) = Some 0
  granted _ = None

  answer_so : (m : Mem T) (op : Op T) (out : Out T) → Can m op → Gives m op out → answer m (granted out) op ≡ Some out
  answer_so m (Load at) out can h = grind (arith, h)
  answer_so m (Store at w) out can h = grind (arith, can, h)
  answer_so m (Swap at w) out can h = grind (arith, h)
  answer_so m (Add at w) out can h = grind (arith, h)
  answer_so m (Or at w) out can h = grind (arith, h)
  answer_so m (Exchange at old new) out can h = grind (arith, h)
  answer_so m (Make value words) (Made (Ok b)) can h = given_so (is_free m b) (Made (Ok b)) (free_so m b h.0 h.1)
  answer_so m (Make value words) (Made (Err back)) can h = ap (λ (x : T). Some (Made (Err x))) (sym h)
  answer_so m (Make value words) (Found w) can h = absurd h
  answer_so m (Make value words) Stored can h = absurd h
  answer_so m (Make value words) (Exchanged w) can h = absurd h
  answer_so m (Make value words) (Taken w) can h = absurd h
  answer_so m (Make value words) (Roomed w) can h = absurd h
  answer_so m (Take b) out can h = grind (arith, h)
  answer_so m (Rewrite b value) out can h = grind (arith, h)
  answer_so m (Room bucket) out can h = grind (arith, h)

module _ {T R : Type 0} where
  ends_so : (shown : ℕ → Option T) (rest : Then T R) (end : R) → Ends shown rest end → ends shown rest ≡ Some end
  ends_so shown (Now r) end e = ap Some (sym e)
  ends_so shown (Seeing block rest) end e =
      ap (λ (o : Option T). then_on o (λ value. ends shown (rest value))) e.1 ∙ ends_so shown (rest e.0) end e.2
  ends_so shown (Sure fact rest) end e = ends_so shown rest end e

  -- what may look at all that it looks at comes to an outcome
  pub sees_end : (shown : ℕ → Option T) (rest : Then T R) → MaySee shown rest → (end : R) × (ends shown rest ≡ Some end)
  sees_end shown (Now end) may = (end, refl)
  sees_end shown (Seeing block rest) may = by (shown block) refl may.0 (λ value e. sees_end shown (rest value) (may.1 value e))
    where
      by : (o : Option T) → shown block ≡ o → IsSome o → ((value : T) → shown block ≡ Some value → (end : R) × (ends shown (rest value) ≡ Some end))
          → (end : R) × (then_on o (λ value. ends shown (rest value)) ≡ Some end)
      by None e some later = absurd (cc some)
      by (Some value) e some later = later value e
  sees_end shown (Sure fact rest) may = sees_end shown rest may.1

  -- the step comes to what it was seen to come to
  pub steps_so : (m : Mem T) (plan : Plan T R) (n : Mem T) (end : R) → May Can Took value_at m plan → Steps Took value_at m plan n end
      → (g : Grant) × (stepped m g plan ≡ Some (n, end))
  steps_so m (Turn rest) n end may h =
      subst (λ (v : Mem T). Ends (value_at v) rest end → (g : Grant) × (stepped m g (Turn rest) ≡ Some (v, end))) (sym h.0)
      (λ e. (None, ap (λ (o : Option R). then_on o (λ x. Some (m, x))) (ends_so (value_at m) rest end e))) h.1
  steps_so m (Do op rest) n end may h =
      subst (λ (v : Mem T). Ends (value_at v) (rest h.0) end → (g : Grant) × (stepped m g (Do op rest) ≡ Some (v, end))) (sym h.1.1)
      (λ e. (
        granted h.0,
        ap (λ (o : Option (Out T)). then_on o (λ out. then_on (ends (value_at (after m op out)) (rest out)) (λ x. Some (after m op out, x)))) (answer_so m op h.0 may.0 h.1.0)
            ∙ ap (λ (o : Option R). then_on o (λ x. Some (after m op h.0, x))) (ends_so (value_at (after m op h.0)) (rest h.0) end e),
      )) h.2

module _ {T : Type 0} (defers : T → Option ℕ) where
  -- of a plan, what its outcome makes of the world
  to : {R : Type 0} (w n : World T) (plan : Plan T R) (m : Mem T) (end : R) (made : Mem T × R → World T) → May Can Took value_at w.memory plan
      → Steps Took value_at w.memory plan m end → n ≡ made (m, end) → (g : Grant) × (then_on (stepped w.memory g plan) (λ p. Some (made p)) ≡ Some n)
  to {R} w n plan m end made may h e =
      let s = steps_so w.memory plan m end may h in
      (s.0, ap (λ (o : Option (Mem T × R)). then_on o (λ p. Some (made p))) s.1 ∙ ap Some (sym e))

  pub row_so : (i : ℕ) (row : Row) (w n : World T) → MayStep defers row w.memory → Steps' defers i row w n → (g : Grant) × (row_steps defers i row g w ≡ Some n)
  row_so i Rests w n may h = absurd h
  row_so i (Registers c) w n may h = to w n (register_plan c) h.0 h.1 (λ p. world.registers_on w i c p.0 p.1) may h.2 h.3
  row_so i (Enters c) w n may h =
      to w n (enter_plan c) h.0 h.1 (λ p. world.with_use (world.after_step w i p.0 Rests (Entered c.slot ∷ [])) c.slot (world.Inside 0)) may h.2 h.3
  row_so i (Settles c) w n may h = to w n (settle_plan defers c) h.0 h.1 (λ p. world.settles_on w i c p.0 p.1) may h.2 h.3
  row_so i (Leaves c) w n may h = to w n (leave_plan defers c) h.0 h.1 (λ p. world.leaves_on w i c p.0 p.1) may h.2 h.3
  row_so i (Defers s c) w n may h = to w n (defer_plan c) h.0 h.1 (λ p. world.defers_on w i s p.0 p.1) may h.2 h.3
  row_so i (Frees c) w n may h =
      to w n (unregister_plan c) h.0 h.1 (λ p. world.with_use (world.after_step w i p.0 Rests []) c.slot world.Vacant) may h.2 h.3

  -- a step without an operation comes to something
  turn_so : {R : Type 0} (w : World T) (plan : Plan T R) (made : Mem T × R → World T) → May Can Took value_at w.memory plan → is_turn plan ≡ true
      → (v : World T) × (then_on (stepped w.memory None plan) (λ p. Some (made p)) ≡ Some v)
  turn_so {R} w (Turn rest) made may e =
      let s = sees_end (value_at w.memory) rest may in
      (made (w.memory, s.0), ap (λ (o : Option R). then_on (then_on o (λ x. Some (w.memory, x))) (λ p. Some (made p))) s.1)
  turn_so w (Do op rest) made may e = absurd (cc e)

  pub row_turns : (i : ℕ) (row : Row) (w : World T) → MayStep defers row w.memory → turns defers row ≡ true → (v : World T) × (row_steps defers i row None w ≡ Some v)
  row_turns i Rests w may e = absurd (cc e)
  row_turns i (Registers c) w may e = turn_so w (register_plan c) (λ p. world.registers_on w i c p.0 p.1) may e
  row_turns i (Enters c) w may e = turn_so w (enter_plan c) (λ p. world.with_use (world.after_step w i p.0 Rests (Entered c.slot ∷ [])) c.slot (world.Inside 0)) may e
  row_turns i (Settles c) w may e = turn_so w (settle_plan defers c) (λ p. world.settles_on w i c p.0 p.1) may e
  row_turns i (Leaves c) w may e = turn_so w (leave_plan defers c) (λ p. world.leaves_on w i c p.0 p.1) may e
  row_turns i (Defers s c) w may e = turn_so w (defer_plan c) (λ p. world.defers_on w i s p.0 p.1) may e
  row_turns i (Frees c) w may e = turn_so w (unregister_plan c) (λ p. world.with_use (world.after_step w i p.0 Rests []) c.slot world.Vacant) may e

  module _ (size roots i : ℕ) where
    -- the steps behind it that make no operation come to something, too
    turned_so : (more : ℕ) (w : World T) → Fine defers size (at_start defers roots) w → (v : World T) × (turned defers more i w ≡ Some v)
    turned_so zero w seen = (w, refl)
    turned_so (suc more) w seen = by (turns defers (w.row i)) refl (λ v after. turned_so more v after)
      where
        by : (y : Bool) → turns defers (w.row i) ≡ y → ((v : World T) → Fine defers size (at_start defers roots) v → (u : World T) × (turned defers more i v ≡ Some u))
            → (v : World T) × ((if y then then_on (row_steps defers i (w.row i) None w) (turned defers more i) else Some w) ≡ Some v)
        by false e later = (w, refl)
        by true e later =
            let s = row_turns i (w.row i) w (rows_may defers size roots seen.0 w seen.1 i) e in
            let step = row_stepped defers size i (w.row i) None w s.0 s.1 in
            let t = later s.0 (both defers size (at_start defers roots) w s.0 seen (one defers size (world.Step i) w s.0 step)) in
            (t.0, ap (λ (o : Option (World T)). then_on o (turned defers more i)) s.1 ∙ t.1)

  pub steps_are_acts : StepsAreActs defers
  steps_are_acts size roots acts w n i h step =
      let seen = all_fine defers size acts (at_start defers roots) w h in
      let s = row_so i (w.row i) w n (rows_may defers size roots seen.0 w seen.1 i) step in
      let t = turned_so size roots i 2 n (both defers size (at_start defers roots) w n seen (one defers size (world.Step i) w n step)) in
      (s.0, t.0, s.1, t.1, ap (λ (o : Option (World T)). then_on o (turned defers 2 i)) s.1 ∙ t.1)

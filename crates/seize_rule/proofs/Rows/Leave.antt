-- Each step of a row that leaves a slot keeps the world good, and may be taken.
use Rattle.std.specs.Prelude.{Option, IsSome, if◌then◌else◌, nat_lt, ◌==◌}
use Rattle.std.proofs.Common.{◌≡◌, ℕ, ◌+◌, Bool, true, false, cond, [], ◌∷◌, length, refl, arith, subst, sym, ap, ◌∙◌, eqb-true}
use Rattle.std.proofs.lemmas.Bool.{eqb-false}
use Rattle.seize_moves.specs.Given.SeizeWordsDeclared.at.At.TheVariants as name
use Rattle.seize_moves.specs.Given.SeizeWordsMem.{Mem, value_at, word_at, with_word, Can, Took}
use Rattle.seize_moves.specs.Given.SeizeWordsPlan.{Now, Steps, Ends, May}
use Rattle.seize_moves.proofs.Given.SeizeWordsOneOwner.Operations.{stored, swapped, may_swap, may_store}
use Rattle.seize_moves.proofs.Given.SeizeWordsPlans.{as_may}
use Rattle.seize_moves.specs.Given.SeizeDeclared.states.TheConstants.{HEAD, FREE, ACTIVE, LAST_SLOT}
use Rattle.seize_moves.specs.Given.SeizeDeclared.rows.settle.Settle.{Settle}
use Rattle.seize_moves.specs.Given.SeizeDeclared.rows.settle.Settling.{Settling}
use Rattle.seize_moves.specs.Given.SeizeDeclared.rows.settle.Settling.TheVariants as settling
use Rattle.seize_moves.specs.Given.SeizeDeclared.rows.settle.Settled.{Settled}
use Rattle.seize_moves.specs.Given.SeizeDeclared.rows.settle.Settled.TheVariants.{Goes, Waits, Gave, Done}
use Rattle.seize_moves.specs.Given.SeizeDeclared.rows.leave.Leave.{Leave}
use Rattle.seize_moves.specs.Given.SeizeDeclared.rows.leave.Leaving.{Leaving}
use Rattle.seize_moves.specs.Given.SeizeDeclared.rows.leave.Leaving.TheVariants as leaving
use Rattle.seize_moves.specs.Given.SeizeLeave.{standing, counted_down, list_taken, settled, plan_at, leave_plan}
use Rattle.seize_moves.specs.Given.SeizeSettle as plans
use Rattle.seize_moves.specs.Given.SeizeLaw.{Entered}
use Rattle.seize_moves.specs.Given.SeizeWorld.{World, Row, Rests, Leaves, Vacant, Outside, Inside, with_at, with_use, after_step, left_row, left_as, leave_effects, leaves_on, settle_effects}
use Rattle.seize_moves.proofs.Moves.State.Ghost.{Active}
use Rattle.seize_moves.proofs.Memory.Words.View.{view}
use Rattle.seize_rule.proofs.Points.Known.{FitsAt, bare}
use Rattle.seize_rule.proofs.Rows.Known.{works_on, leaving_on, OnSlot, Settles_on, OverIs, word_of, head_of, FitsRow, FitsLeave}
use Rattle.seize_rule.proofs.Rows.Teams.{shares}
use Rattle.seize_rule.proofs.Points.Stepped.{IsGoing}
use Rattle.seize_rule.proofs.Words.Kept.{plan_lasts, settle_quiet}
use Rattle.seize_rule.proofs.Rows.Slots.{idle_head, head_went, head_there}
use Rattle.seize_rule.proofs.Points.Settle.{is_over, settle_steps}
use Rattle.seize_rule.proofs.Points.May.{may_at, see_if}
use Rattle.seize_rule.proofs.Rows.SectionEnds.{swaps_next}
use Rattle.seize_rule.proofs.Rows.Leaving.{steps_back, quiet_went, leaves_free_went, leaves_settles_went, leaves_settled_went, leaves_freed_went, leaves_idle_went, leaves_again_went}
use Rattle.seize_rule.proofs.World.Start.{words_good}
use Rattle.seize_rule.proofs.Rows.Sizes.{LeaveSized}
use Rattle.seize_rule.proofs.Points.Short.{settle_still}
use Rattle.seize_rule.proofs.Rows.Short.{tries_on, leave_tries, is_trying, calm}
use Rattle.seize_moves.proofs.Moves.State.Moves
use Rattle.seize_moves.proofs.Moves.Sets.Unmoved.{unmoved_kept, unmoved_same, freed_unmoved}
use Rattle.seize_rule.proofs.Rows.Told.{IsSettled, LeaveGoes, LeaveSettled, LeaveEnds}
use Rattle.seize_rule.proofs.World.Good.{Good, Next, next_after}

pub over_is : (p : Settling) → is_over p ≡ true → p ≡ settling.Over
over_is p e = grind arith

counted_settled : (c : Leave) → IsSettled (counted_down c).stands
counted_settled c = by c.frees
  where
    by : (t : Bool) → IsSettled (if t then standing c leaving.Frees else standing c leaving.Over).stands
    by true = tt
    by false = tt

module _ {T : Type 0} {size : ℕ} (defers : T → Option ℕ) (n : ℕ) (last : n ≡ LAST_SLOT + 1) (w : World T) (good : Good defers n size w) (i : ℕ) (c : Leave) (is : w.row i ≡ Leaves c) where
  fits : FitsLeave n i (view defers w.memory) good.state good.extra c.slot c.becomes c.frees c.stands
  fits = subst (λ (r : Row). FitsRow n i (view defers w.memory) good.state good.extra (length w.memory.slots) r) is (good.rows i)

  mine : shares (w.row i) ≡ false
  mine = ap shares is

  on_at : (p : Leaving) → c.stands ≡ p → works_on (w.row i) ≡ leaving_on c.slot c.frees p
  on_at p e = ap works_on is ∙ ap (leaving_on c.slot c.frees) e

  fits_at : (p : Leaving) → c.stands ≡ p → FitsLeave n i (view defers w.memory) good.state good.extra c.slot c.becomes c.frees p
  fits_at p e = subst (λ (q : Leaving). FitsLeave n i (view defers w.memory) good.state good.extra c.slot c.becomes c.frees q) e fits

  -- the world after a step at this point
  abbrev After : Leaving → Mem T → Leave × Settled T → World T
  After p mem2 end = with_use (after_step w i mem2 (left_row end.0 end.1) (leave_effects c p)) c.slot (left_as c p (w.uses c.slot))

  tries_at : (p : Leaving) → c.stands ≡ p → (t : ℕ) → tries_on (w.row i) t ≡ leave_tries p t
  tries_at p e t = ap (λ (r : Row). tries_on r t) is ∙ ap (λ (q : Leaving). leave_tries q t) e

  calm_at : (p : Leaving) → c.stands ≡ p → ((t : ℕ) → leave_tries p t ≡ false) → (t : ℕ) → tries_on (w.row i) t ≡ false
  calm_at p e h t = tries_at p e t ∙ h t

  both_go : (shown : ℕ → Option T) (t : Bool) (a b : Leave) (end : Leave × Settled T) → Ends shown (if t then Now (a, Goes) else Now (b, Goes)) end → end.1 ≡ Goes
  both_go shown true a b end e = ap (λ q. q.1) e
  both_go shown false a b end e = ap (λ q. q.1) e

  -- the settling within goes on
  still : (e : Settle) (o : Settled T) → IsGoing o → left_row (settled c (e, o)).0 (settled c (e, o)).1 ≡ Leaves (standing c (leaving.Settles e))
  still e Goes g = refl
  still e Waits g = refl
  still e (Gave value) g = refl
  still e Done g = absurd g

  settled_at : c.stands ≡ leaving.Over → IsSettled c.stands
  settled_at e = subst (λ (p : Leaving). IsSettled p) (sym e) tt

  settles_at : (settle : Settle) → c.stands ≡ leaving.Settles settle → settle.batch_size ≡ size → (mem2 : Mem T) (end : Leave × Settled T)
      → Steps Took value_at w.memory (plan_at defers c (leaving.Settles settle)) mem2 end → Next defers n size w good.state i (After (leaving.Settles settle) mem2 end)
  unfolding leaves_settles_went
  settles_at settle at sized mem2 end st =
      let k = steps_back (settled c) w.memory mem2 (plans.settle_plan defers settle) end st in
      subst (λ (q : Leave × Settled T). Next defers n size w good.state i (After (leaving.Settles settle) mem2 q)) (sym k.2) (one (is_over settle.stands) refl k.0 k.1)
    where
      r : Settles_on n i (view defers w.memory) good.state good.extra c.slot c.becomes c.frees settle
      r = fits_at (leaving.Settles settle) at

      one : (t : Bool) → is_over settle.stands ≡ t → (e : Settle × Settled T) → Steps Took value_at w.memory (plans.settle_plan defers settle) mem2 e
          → Next defers n size w good.state i (After (leaving.Settles settle) mem2 (settled c e))
      one false o e s =
          let words = words_good defers n w good in
          let st = settle_steps defers n i w.memory mem2 good.state good.extra settle e last words good.inv good.shows settle.stands refl o r.settles s in
          let may = may_at defers n i w.memory good.state good.extra settle good.inv good.shows words settle.stands r.settles in
          let lasts = plan_lasts defers n good.state.head w.memory good.stocked good.room (plans.settle_plan defers settle) mem2 e (settle_quiet defers settle settle.stands) may s in
          subst (λ (row : Row). Next defers n size w good.state i (with_use (after_step w i mem2 row (settle_effects settle settle.stands)) c.slot (w.uses c.slot))) (sym (still e.0 e.1 st.1))
          (next_after defers n w good i mem2 (Leaves (standing c (leaving.Settles e.0))) (settle_effects settle settle.stands) (with_at w.uses c.slot (w.uses c.slot))
          (leaves_settles_went defers n w good i c mine settle e.0 mem2 (on_at (leaving.Settles settle) at) r st.0 lasts
          (settle_still defers n i w.memory mem2 good.state good.extra settle e good.inv good.shows last sized r.settles s st.0 (w.row i) (Leaves (standing c (leaving.Settles e.0)))
          (tries_at (leaving.Settles settle) at) (λ t. refl)))
          (LeaveGoes c settle e.0 is refl at st.0.slot_is st.0.told))
      one true o e s = ended (over_is settle.stands o)
        where
          ended : settle.stands ≡ settling.Over → Next defers n size w good.state i (After (leaving.Settles settle) mem2 (settled c e))
          ended z =
              let turn = subst (λ (p : Settling). Steps Took value_at w.memory (plans.plan_at defers settle p) mem2 e) z s in
              let over = subst (λ (p : Settling). FitsAt n i (view defers w.memory) good.state good.extra (bare settle) p) z r.settles in
              subst (λ (q : Settle × Settled T). Next defers n size w good.state i (After (leaving.Settles settle) mem2 (settled c q))) (sym turn.1)
              (subst (λ (k : Mem T). Next defers n size w good.state i (After (leaving.Settles settle) k (counted_down c, Goes))) (sym turn.0)
              (subst (λ (p : Settling). Next defers n size w good.state i (with_use (after_step w i w.memory (Leaves (counted_down c)) (settle_effects settle p)) c.slot (w.uses c.slot))) (sym z)
              (let went = leaves_settled_went defers n w good i c mine settle (λ t. tries_at (leaving.Settles settle) at t ∙ calm settle t (ap is_trying z)) (on_at (leaving.Settles settle) at) r over in
              next_after defers n w good i w.memory (Leaves (counted_down c)) [] (with_at w.uses c.slot (w.uses c.slot)) went.0
              (LeaveSettled c settle is at z (counted_settled c) went.1))))

  over_at : (fr t : Bool) → c.frees ≡ fr → (c.becomes == ACTIVE) ≡ t → c.stands ≡ leaving.Over → OverIs fr n i good.state good.extra c.slot c.becomes
      → Next defers n size w good.state i (with_use (after_step w i w.memory Rests (if t then Entered c.slot ∷ [] else [])) c.slot (if t then Inside 0 else (if fr then w.uses c.slot else Outside 0)))
  unfolding leaves_freed_went leaves_idle_went leaves_again_went quiet_went
  over_at true true f e at r = absurd (let a = eqb-true c.becomes ACTIVE e in let b = r.1 in cc (sym a ∙ b))
  over_at true false f e at r =
      next_after defers n w good i w.memory Rests [] (with_at w.uses c.slot (w.uses c.slot))
      (leaves_freed_went defers n w good i c mine (calm_at leaving.Over at (λ t. refl)) (on_at leaving.Over at ∙ ap (λ t. cond t 0 (c.slot + 1)) f) r.0)
      (LeaveEnds c is (settled_at at) tt (unmoved_same n good.state))
  over_at false t f e at r = again_at r.0 t e r.1 r.2
    where
      on : works_on (w.row i) ≡ c.slot + 1
      on = on_at leaving.Over at ∙ ap (λ t. cond t 0 (c.slot + 1)) f

      again_at : (again t : Bool) → (c.becomes == ACTIVE) ≡ t → c.becomes ≡ word_of again → OnSlot n i good.state good.extra c.slot (head_of again)
          → Next defers n size w good.state i (with_use (after_step w i w.memory Rests (if t then Entered c.slot ∷ [] else [])) c.slot (if t then Inside 0 else Outside 0))
      again_at true true e word s =
          next_after defers n w good i w.memory Rests (Entered c.slot ∷ []) (with_at w.uses c.slot (Inside 0)) (leaves_again_went defers n w good i c mine (calm_at leaving.Over at (λ t. refl)) on s)
          (LeaveEnds c is (settled_at at) tt (unmoved_kept n good.state (Moves.reopened good.state c.slot) refl refl refl refl refl refl refl (λ c e. refl) refl))
      again_at true false e word s = absurd (eqb-false c.becomes ACTIVE e word)
      again_at false true e word s = absurd (let a = eqb-true c.becomes ACTIVE e in cc (sym a ∙ word))
      again_at false false e word s =
          next_after defers n w good i w.memory Rests [] (with_at w.uses c.slot (Outside 0)) (leaves_idle_went defers n w good i c mine (calm_at leaving.Over at (λ t. refl)) on s)
          (LeaveEnds c is (settled_at at) tt (unmoved_same n good.state))

  at_point : (p : Leaving) → c.stands ≡ p → LeaveSized size p → (mem2 : Mem T) (end : Leave × Settled T) → Steps Took value_at w.memory (plan_at defers c p) mem2 end → Next defers n size w good.state i (After p mem2 end)
  unfolding leaves_free_went head_went
  at_point leaving.Swaps at sized mem2 end st =
      let d = swapped w.memory (list_taken c) (name.Slot c.slot HEAD) c.becomes mem2 end st in
      let e : end.1 ≡ Goes = both_go (value_at (with_word w.memory (name.Slot c.slot HEAD) c.becomes)) (nat_lt ACTIVE d.0) _ _ end d.3 in
      swaps_next defers n w good i c is at mem2 end (After leaving.Swaps mem2 end) st (ap (λ (o : Settled T). with_use (after_step w i mem2 (left_row end.0 o) (leave_effects c leaving.Swaps)) c.slot (w.uses c.slot)) e)
  at_point (leaving.Settles settle) at sized mem2 end st = settles_at settle at sized mem2 end st
  at_point leaving.Frees at sized mem2 end st =
      let d = stored w.memory (λ out. Now (standing c leaving.Over, Goes)) (name.Slot c.slot HEAD) FREE mem2 end st in
      subst (λ (q : Leave × Settled T). Next defers n size w good.state i (After leaving.Frees mem2 q)) (sym d.1)
      (subst (λ (k : Mem T). Next defers n size w good.state i (After leaving.Frees k (standing c leaving.Over, Goes))) (sym d.0)
      (next_after defers n w good i (with_word w.memory (name.Slot c.slot HEAD) FREE) (Leaves (standing c leaving.Over)) [] (with_at w.uses c.slot Vacant)
      (leaves_free_went defers n w good i c mine (calm_at leaving.Frees at (λ t. refl)) (on_at leaving.Frees at) (fits_at leaving.Frees at))
      (LeaveEnds c is (subst (λ (p : Leaving). IsSettled p) (sym at) tt) tt
      (freed_unmoved n c.slot good.state (let h = idle_head (good.state.head c.slot) (fits_at leaving.Frees at).on.head in rw h refl)))))
  at_point leaving.Over at sized mem2 end st =
      subst (λ (q : Leave × Settled T). Next defers n size w good.state i (After leaving.Over mem2 q)) (sym st.1)
      (subst (λ (k : Mem T). Next defers n size w good.state i (After leaving.Over k (c, Done))) (sym st.0)
      (over_at c.frees (c.becomes == ACTIVE) refl refl at (fits_at leaving.Over at)))

  pub leaves_next : (w2 : World T) → LeaveSized size c.stands → (mem2 : Mem T) × (end : Leave × Settled T) × Steps Took value_at w.memory (leave_plan defers c) mem2 end × (w2 ≡ leaves_on w i c mem2 end) → Next defers n size w good.state i w2
  leaves_next w2 sized h = subst (λ (v : World T). Next defers n size w good.state i v) (sym h.3) (at_point c.stands refl sized h.0 h.1 h.2)

  slot_there : (s : ℕ) → OnSlot n i good.state good.extra c.slot (Active []) → IsSome (word_at w.memory (name.Slot c.slot HEAD))
  slot_there s r = head_there defers n w good i c.slot r.slot_lt (let h = r.head in grind (arith, h))

  may_point : (p : Leaving) → c.stands ≡ p → May Can Took value_at w.memory (plan_at defers c p)
  may_point leaving.Swaps at =
      may_swap w.memory (list_taken c) (name.Slot c.slot HEAD) c.becomes (slot_there 0 (fits_at leaving.Swaps at).on)
      (λ v e. see_if (value_at (with_word w.memory (name.Slot c.slot HEAD) c.becomes)) (nat_lt ACTIVE v) _ _ tt tt)
  may_point (leaving.Settles settle) at =
      as_may (settled c) Can Took value_at w.memory (plans.settle_plan defers settle)
      (may_at defers n i w.memory good.state good.extra settle good.inv good.shows (words_good defers n w good) settle.stands (fits_at (leaving.Settles settle) at).settles)
  may_point leaving.Frees at =
      let r = (fits_at leaving.Frees at).on in
      may_store {R = Leave × Settled T} w.memory (λ out. Now (standing c leaving.Over, Goes)) (name.Slot c.slot HEAD) FREE
      (head_there defers n w good i c.slot r.slot_lt (let h = r.head in grind (arith, h))) tt
  may_point leaving.Over at = tt

  pub leaves_may : May Can Took value_at w.memory (leave_plan defers c)
  leaves_may = may_point c.stands refl

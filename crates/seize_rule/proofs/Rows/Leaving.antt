-- Steps of a row that leaves a slot, behind the end of its section.
use Rattle.std.specs.Prelude.{Option, if◌then◌else◌}
use Rattle.std.proofs.Common.{◌≡◌, ℕ, ◌+◌, Bool, true, false, cond, eqb, [], ◌∷◌, length, refl, arith, subst, sym, ap, ◌∙◌, eqb-true}
use Rattle.std.proofs.Math.Path.{fun_ext}
use Rattle.seize_moves.specs.Given.SeizeWordsDeclared.at.At.TheVariants as name
use Rattle.seize_moves.specs.Given.SeizeWordsMem.{Mem, value_at, with_word, Took}
use Rattle.seize_moves.specs.Given.SeizeWordsPlan.{Plan, Then, Turn, Do, Now, Seeing, Sure, Steps, Ends, then_as, plan_as}
use Rattle.seize_moves.specs.Given.SeizeDeclared.states.TheConstants.{HEAD, FREE}
use Rattle.seize_moves.specs.Given.SeizeDeclared.rows.settle.Settle.{Settle}
use Rattle.seize_moves.specs.Given.SeizeDeclared.rows.leave.Leave.{Leave}
use Rattle.seize_moves.specs.Given.SeizeDeclared.rows.leave.Leaving.TheVariants as leaving
use Rattle.seize_moves.specs.Given.SeizeLeave.{standing, counted_down}
use Rattle.seize_moves.specs.Given.SeizeLaw.{Entered, is_open}
use Rattle.seize_moves.specs.Given.SeizeWorld.{World, Row, Rests, Leaves, Use, Vacant, Outside, Inside, with_at, settle_effects}
use Rattle.seize_moves.proofs.Moves.State.Ghost.{Head, Free, Idle, Active, emptied, is_active}
use Rattle.seize_moves.proofs.Moves.State.Together.{stays}
use Rattle.seize_moves.proofs.Moves.State.Moves
use Rattle.seize_moves.proofs.Moves.Moves.Slots.{freed_moves, reopened_moves}
use Rattle.seize_moves.proofs.Memory.Words.View.{view}
use Rattle.seize_moves.proofs.Memory.Words.Shows.{keeps_like}
use Rattle.seize_moves.proofs.Memory.Written.Heads.{freed_written, reopened_written}
use Rattle.seize_rule.proofs.Points.Known.{Over, bare}
use Rattle.seize_rule.proofs.Rows.Known.{works_on, Idles, OnSlot, Settles_on, Freeing, OverIs, head_of, word_of, FitsRow}
use Rattle.seize_rule.proofs.Rows.Teams.{Used, shares, used_same, alone_ends, no_other}
use Rattle.seize_moves.proofs.Memory.Words.Room.{room_heads}
use Rattle.seize_rule.proofs.Points.Told.{part}
use Rattle.seize_rule.proofs.Points.Stepped.{Stepped}
use Rattle.seize_rule.proofs.Rows.Slots.{idle_head, idles_after, head_went, head_there, stays_same}
use Rattle.seize_rule.proofs.Rows.Settled.{never_emptied, over_empty}
use Rattle.seize_rule.proofs.Words.Kept.{Lasts, settle_open}
use Rattle.seize_rule.proofs.Rows.Short.{tries_on, StillShort, still_short}
use Rattle.seize_rule.proofs.World.Good.{Good, RowWent}

-- what a step whose outcome is turned into another comes to
module _ {T A B : Type 0} (f : A → B) where
  ends_back : (shown : ℕ → Option T) (rest : Then T A) (end : B) → Ends shown (then_as f rest) end → (e : A) × Ends shown rest e × (end ≡ f e)
  ends_back shown (Now r) end h = (r, refl, h)
  ends_back shown (Seeing block rest) end h = let k = ends_back shown (rest h.0) end h.2 in (k.0, (h.0, h.1, k.1), k.2)
  ends_back shown (Sure fact rest) end h = ends_back shown rest end h

  pub steps_back : (mem mem2 : Mem T) (plan : Plan T A) (end : B) → Steps Took value_at mem (plan_as f plan) mem2 end
      → (e : A) × Steps Took value_at mem plan mem2 e × (end ≡ f e)
  steps_back mem mem2 (Turn rest) end s = let k = ends_back (value_at mem2) rest end s.1 in (k.0, (s.0, k.1), k.2)
  steps_back mem mem2 (Do op rest) end s = let k = ends_back (value_at mem2) (rest s.0) end s.2 in (k.0, (s.0, s.1, k.1), k.2)

pub with_same : {X : Type 0} (f : ℕ → X) (s : ℕ) → with_at f s (f s) ≡ f
with_same {X} f s = fun_ext (λ t. at t (eqb t s) (eqb-true t s))
  where
    at : (t : ℕ) (z : Bool) → (z ≡ true → t ≡ s) → (if z then f s else f t) ≡ f t
    at t true e = ap f (sym (e refl))
    at t false e = refl

pub active_head_of : (h : Head) → emptied h ≡ Active [] → is_active h ≡ true
active_head_of h e = grind (arith, e)

module _ {T : Type 0} {size : ℕ} (defers : T → Option ℕ) (n : ℕ) (w : World T) (good : Good defers n size w) (i : ℕ) (c : Leave) (mine : shares (w.row i) ≡ false) where
  -- no word is written and nothing moves
  unfoldable pub quiet_went : ((t : ℕ) → tries_on (w.row i) t ≡ false) → (row : Row) (uses2 : ℕ → Use) → FitsRow n i (view defers w.memory) good.state good.extra (length w.memory.slots) row
      → Used good.state.head good.state.log (with_at w.row i row) uses2 → RowWent defers n size w good.state good.extra i w.memory row [] uses2
  quiet_went none row uses2 fits used = record {
    slot = c.slot;
    m2 = good.state;
    x2 = good.extra;
    moved = stays n i c.slot good.state good.inv;
    written = record { shows = good.shows; keeps = keeps_like i (view defers w.memory) good.state good.extra (view defers w.memory) refl refl refl refl refl };
    pending = λ p. p;
    logged = refl;
    fits = fits;
    hands = good.hands;
    used = used;
    alone = λ j t ne q e. refl;
    room = good.room;
    stays = stays_same defers w.memory good.stocked;
    short = still_short n i c.slot size good.state good.state (w.row i) row (stays n i c.slot good.state good.inv).keeps refl none;
  }

  -- the slot is free again
  unfoldable pub leaves_free_went : ((t : ℕ) → tries_on (w.row i) t ≡ false) → works_on (w.row i) ≡ c.slot + 1 → Freeing n i good.state good.extra c.slot c.becomes c.frees
      → RowWent defers n size w good.state good.extra i (with_word w.memory (name.Slot c.slot HEAD) FREE) (Leaves (standing c leaving.Over)) [] (with_at w.uses c.slot Vacant)
  leaves_free_went none on r =
      let m = good.state in
      let s = c.slot in
      let h = idle_head (m.head s) r.on.head in
      let m2 = Moves.freed m s in
      let others : (t : ℕ) → (t ≡ s → ⊥) → (emptied (m2.head t) ≡ emptied (m.head t)) × (is_open t m2.log ≡ is_open t m.log) = (λ t ne. (grind (arith, ne), refl)) in
      let free : emptied (m2.head s) ≡ Free = grind arith in
      let really = r.really in
      let idles = idles_after i m m2 good.extra r.on.idles refl refl refl refl refl refl refl in
      head_went defers n w good i s FREE m2 good.extra (Leaves (standing c leaving.Over)) [] (with_at w.uses s Vacant)
      (head_there defers n w good i s r.on.slot_lt (grind (arith, h)))
      (freed_moves n i s m good.inv h) (freed_written n i s (view defers w.memory) m good.extra good.shows (rw h refl)) (λ p. p) refl
      (subst (λ (t : Bool). OverIs t n i m2 good.extra s c.becomes) (sym really) (idles, r.ends.word))
      good.hands
      (alone_ends i s m.head m2.head m.log m2.log w.row w.uses (Leaves (standing c leaving.Over)) Vacant good.used others on mine (ap (λ t. cond t 0 (s + 1)) really) (rw free refl))
      (λ j t ne q e. absurd (no_other i s m.head m2.head m.log m2.log w.row w.uses Rests Vacant good.used others on mine j ne (cc (q, e))))
      (room_heads n m.head m2.head w.memory (λ u e. grind (arith, h, e)) good.room) none refl

  -- a step of its settling
  unfoldable pub leaves_settles_went : (settle c2 : Settle) (mem2 : Mem T) → works_on (w.row i) ≡ c.slot + 1
      → Settles_on n i (view defers w.memory) good.state good.extra c.slot c.becomes c.frees settle
      → (st : Stepped n i settle (part settle) (view defers w.memory) good.state good.extra (view defers mem2) (settle_effects settle settle.stands) c2)
      → Lasts defers n good.state.head w.memory good.stocked good.room mem2 → StillShort n size good.state st.m2 (w.row i) (Leaves (standing c (leaving.Settles c2)))
      → RowWent defers n size w good.state good.extra i mem2 (Leaves (standing c (leaving.Settles c2))) (settle_effects settle settle.stands) (with_at w.uses c.slot (w.uses c.slot))
  leaves_settles_went settle c2 mem2 on r st lasts short =
      let m = good.state in
      let logged = st.logged in
      record {
        slot = settle.slot;
        m2 = st.m2;
        x2 = st.x2;
        moved = st.moved;
        written = st.written;
        pending = st.pending;
        logged = st.logged;
        fits = record {
          slot_is = st.slot_is ∙ r.slot_is;
          slot_lt = r.slot_lt;
          again = r.again;
          ends = r.ends;
          head = st.aside.heads c.slot ∙ r.head;
          settles = st.fits;
        };
        hands = st.aside.hands w.hand good.hands;
        used = subst (λ (u : ℕ → Use). Used st.m2.head st.m2.log (with_at w.row i (Leaves (standing c (leaving.Settles c2)))) u) (sym (with_same w.uses c.slot))
            (used_same i m.head st.m2.head m.log st.m2.log w.row w.uses (Leaves (standing c (leaving.Settles c2))) good.used (sym on) (λ t e. sym mine)
            st.aside.heads (λ t. rw logged (settle_open defers settle settle.stands m.log t)));
        alone = λ j t ne q e. st.aside.heads t;
        room = room_heads n m.head st.m2.head mem2 (λ u e. never_emptied (st.m2.head u) (m.head u) (st.aside.heads u) e) lasts.1;
        stays = lasts.0;
        short = short;
      }

  -- its settling is over
  pub leaves_settled_went : (settle : Settle) → ((t : ℕ) → tries_on (w.row i) t ≡ false) → works_on (w.row i) ≡ c.slot + 1
      → Settles_on n i (view defers w.memory) good.state good.extra c.slot c.becomes c.frees settle
      → Over n i good.state good.extra (bare settle) false
      → (g : RowWent defers n size w good.state good.extra i w.memory (Leaves (counted_down c)) [] (with_at w.uses c.slot (w.uses c.slot))) × (g.m2 ≡ good.state)
  unfolding quiet_went
  leaves_settled_went settle none on r over = by c.frees refl
    where
      idles : Idles i good.state good.extra
      idles = over_empty n i (view defers w.memory) good.state good.extra (bare settle) good.shows over

      same_use : (row : Row) → works_on row ≡ c.slot + 1 → shares row ≡ false → Used good.state.head good.state.log (with_at w.row i row) (with_at w.uses c.slot (w.uses c.slot))
      same_use row o e =
          subst (λ (u : ℕ → Use). Used good.state.head good.state.log (with_at w.row i row) u) (sym (with_same w.uses c.slot))
          (used_same i good.state.head good.state.head good.state.log good.state.log w.row w.uses row good.used (o ∙ sym on) (λ t q. e ∙ sym mine) (λ t. refl) (λ t. refl))

      idle : (a : Bool) → r.again ≡ a → c.frees ≡ true → emptied (good.state.head c.slot) ≡ Idle
      idle true z e = absurd (let k = r.ends.stays z in cc (k, e))
      idle false z e = r.head ∙ ap head_of z

      word : (a : Bool) → r.again ≡ a → c.frees ≡ true → c.becomes ≡ 2
      word true z e = absurd (let k = r.ends.stays z in cc (k, e))
      word false z e = r.ends.word ∙ ap word_of z

      by : (t : Bool) → c.frees ≡ t
          → (g : RowWent defers n size w good.state good.extra i w.memory (Leaves (if t then standing c leaving.Frees else standing c leaving.Over)) [] (with_at w.uses c.slot (w.uses c.slot))) × (g.m2 ≡ good.state)
      by true e = (
        quiet_went none (Leaves (standing c leaving.Frees)) (with_at w.uses c.slot (w.uses c.slot))
            (record { on = record { idles = idles; slot_lt = r.slot_lt; head = idle r.again refl e }; ends = record { word = word r.again refl e; stays = λ z. absurd (cc z) }; really = e })
            (same_use (Leaves (standing c leaving.Frees)) refl refl),
        refl,
      )
      by false e = (
        quiet_went none (Leaves (standing c leaving.Over)) (with_at w.uses c.slot (w.uses c.slot))
            (subst (λ (t : Bool). OverIs t n i good.state good.extra c.slot c.becomes) (sym e) (r.again, r.ends.word, record { idles = idles; slot_lt = r.slot_lt; head = r.head }))
            (same_use (Leaves (standing c leaving.Over)) (ap (λ t. cond t 0 (c.slot + 1)) e) refl),
        refl,
      )

  -- the last step of a row that has freed its slot
  unfoldable pub leaves_freed_went : ((t : ℕ) → tries_on (w.row i) t ≡ false) → works_on (w.row i) ≡ 0 → Idles i good.state good.extra
      → RowWent defers n size w good.state good.extra i w.memory Rests [] (with_at w.uses c.slot (w.uses c.slot))
  leaves_freed_went none off idles = quiet_went none Rests (with_at w.uses c.slot (w.uses c.slot)) idles
      (subst (λ (u : ℕ → Use). Used good.state.head good.state.log (with_at w.row i Rests) u) (sym (with_same w.uses c.slot))
      (used_same i good.state.head good.state.head good.state.log good.state.log w.row w.uses Rests good.used (sym off) (λ t q. sym mine) (λ t. refl) (λ t. refl)))

  -- the last step of a row that has left its slot
  unfoldable pub leaves_idle_went : ((t : ℕ) → tries_on (w.row i) t ≡ false) → works_on (w.row i) ≡ c.slot + 1 → OnSlot n i good.state good.extra c.slot Idle
      → RowWent defers n size w good.state good.extra i w.memory Rests [] (with_at w.uses c.slot (Outside 0))
  leaves_idle_went none on r = quiet_went none Rests (with_at w.uses c.slot (Outside 0)) r.idles
      (alone_ends i c.slot good.state.head good.state.head good.state.log good.state.log w.row w.uses Rests (Outside 0) good.used (λ t ne. (refl, refl)) on mine refl (r.head, refl))

  -- and of one that has refreshed it: a section begins
  unfoldable pub leaves_again_went : ((t : ℕ) → tries_on (w.row i) t ≡ false) → works_on (w.row i) ≡ c.slot + 1 → OnSlot n i good.state good.extra c.slot (Active [])
      → RowWent defers n size w good.state good.extra i w.memory Rests (Entered c.slot ∷ []) (with_at w.uses c.slot (Inside 0))
  leaves_again_went none on r =
      let m = good.state in
      let s = c.slot in
      let m2 = Moves.reopened m s in
      record {
        slot = s;
        m2 = m2;
        x2 = good.extra;
        moved = reopened_moves n i s m good.inv (active_head_of (m.head s) r.head);
        written = reopened_written n i s (view defers w.memory) m good.extra good.shows;
        pending = λ p. p;
        logged = refl;
        fits = idles_after i m m2 good.extra r.idles refl refl refl refl refl refl refl;
        hands = good.hands;
        used = alone_ends i s m.head m2.head m.log m2.log w.row w.uses Rests (Inside 0) good.used (λ t ne. (refl, grind (arith, ne))) on mine refl (r.head, refl, grind arith);
        alone = λ j t ne q e. refl;
        room = good.room;
        stays = stays_same defers w.memory good.stocked;
        short = still_short n i s size m m2 (w.row i) Rests (reopened_moves n i s m good.inv (active_head_of (m.head s) r.head)).keeps refl none;
      }

-- Steps of deferring rows at the world.
use Rattle.std.specs.Prelude.{Option, IsSome, ◌/◌}
use Rattle.std.proofs.Common.{◌≡◌, ℕ, ◌+◌, true, [], length, refl, arith, ap, sym, subst, ◌∙◌}
use Rattle.seize_moves.specs.Given.SeizeWordsDeclared.at.At.{At}
use Rattle.seize_moves.specs.Given.SeizeWordsDeclared.at.At.TheVariants.{Entry}
use Rattle.seize_moves.specs.Given.SeizeWordsMem.{Mem, Can, Took, value_at, word_at}
use Rattle.seize_moves.specs.Given.SeizeWordsPlan.{May, Steps}
use Rattle.seize_moves.proofs.Given.SeizeWordsOneOwner.Operations.{may_load, may_store, may_exchange}
use Rattle.seize_moves.specs.Given.SeizeDeclared.states.TheConstants.{NEXT}
use Rattle.seize_moves.specs.Given.SeizeDeclared.advance.Advance.{Advance}
use Rattle.seize_moves.specs.Given.SeizeDeclared.advance.Advance.TheVariants.{Goes, Waits, Done, Refused}
use Rattle.seize_moves.specs.Given.SeizeDeclared.rows.defer.Defer.{Defer}
use Rattle.seize_moves.specs.Given.SeizeDeclared.rows.defer.Deferring.{Deferring}
use Rattle.seize_moves.specs.Given.SeizeDeclared.rows.defer.Deferring.TheVariants as at
use Rattle.seize_moves.specs.Given.SeizeDefer.{defer_plan, plan_at, head_read, after_push, goes}
use Rattle.seize_moves.specs.Given.SeizeLaw.{is_open}
use Rattle.seize_moves.specs.Given.SeizeWorld.{World, Row, Rests, Defers, one_less, with_at, after_step, defers_on}
use Rattle.seize_moves.proofs.Moves.State.Ghost.{Head, State, emptied}
use Rattle.seize_moves.proofs.Moves.State.Moves.{ends_call}
use Rattle.seize_moves.proofs.Moves.Moves.Slots.{ends_call_moves}
use Rattle.seize_moves.proofs.Memory.Words.View.{view}
use Rattle.seize_moves.proofs.Memory.Words.Shows.{lives}
use Rattle.seize_moves.proofs.Memory.Words.Apart.{put_here}
use Rattle.seize_moves.proofs.Memory.Written.Heads.{ends_call_written}
use Rattle.seize_moves.proofs.Memory.Words.Room.{HasRoom}
use Rattle.seize_rule.proofs.Rows.Known.{works_on, OnWay, Deferred_to, FitsDefer, FitsRow}
use Rattle.seize_rule.proofs.Rows.Teams.{shares, is_shared, used_same, shared_ends}
use Rattle.seize_rule.proofs.Words.Kept.{IsQuietPlan, Lasts, plan_lasts}
use Rattle.seize_moves.proofs.Moves.State.Rule.{retirals}
use Rattle.seize_rule.proofs.Rows.Short.{tries_on, still_short}
use Rattle.seize_moves.proofs.Moves.Sets.Unmoved.{unmoved_kept}
use Rattle.seize_rule.proofs.Rows.Told.{RowTold, DeferGoes, DeferPushes, DeferEnds, IsOnWay}
use Rattle.seize_rule.proofs.World.Good.{Good, RowWent, Next, next_after}
use Rattle.seize_rule.proofs.Points.Retire.{of_link}
use Rattle.seize_rule.proofs.Rows.Slots.{stays_same}
use Rattle.seize_rule.proofs.Rows.Settled.{one_less_fits, one_less_shared}
use Rattle.seize_rule.proofs.Rows.Defer.{Deferring_went, DeferTold, Goes_on, Reaches, defer_reads, defer_links, defer_pushes}

module _ {T : Type 0} {size : ℕ} (defers : T → Option ℕ) (n : ℕ) (w : World T) (good : Good defers n size w) (i s : ℕ) (c : Defer) (is : w.row i ≡ Defers s c) where
  fits : FitsDefer n i (view defers w.memory) good.state good.extra s c.block c.table_word c.stands
  fits = subst (λ (row : Row). FitsRow n i (view defers w.memory) good.state good.extra (length w.memory.slots) row) is (good.rows i)

  at_point : (p : Deferring) → c.stands ≡ p → FitsDefer n i (view defers w.memory) good.state good.extra s c.block c.table_word p
  at_point p e = subst (λ (q : Deferring). FitsDefer n i (view defers w.memory) good.state good.extra s c.block c.table_word q) e fits

  -- the words that it uses are there
  next_there : OnWay n i (view defers w.memory) good.state good.extra s c.block c.table_word → IsSome (word_at w.memory (Entry (c.block / 2048) NEXT))
  next_there r =
      subst (λ (a : ℕ). IsSome (word_at w.memory (Entry a NEXT))) (sym (of_link c.block r.b r.block_is))
      (good.stocked.entries r.b NEXT (good.shows.lists.lived r.b ∙ ap lives r.life) (omega arith))

  list_there : OnWay n i (view defers w.memory) good.state good.extra s c.block c.table_word → IsSome (word_at w.memory c.table_word)
  list_there r = subst (λ (a : At). IsSome (word_at w.memory a)) (sym r.at_is) (good.stocked.lists r.t r.d r.list)

  may_at : (p : Deferring) → c.stands ≡ p → May Can Took value_at w.memory (plan_at c p)
  may_at at.Reads e = may_load w.memory (head_read c) c.table_word (list_there (at_point at.Reads e)) (λ a found. tt)
  may_at (at.Links head) e = may_store w.memory (λ out. goes c (at.Pushes head)) (Entry (c.block / 2048) NEXT) head (next_there (at_point (at.Links head) e)) tt
  may_at (at.Pushes head) e = may_exchange w.memory (after_push c) c.table_word head c.block (list_there (at_point (at.Pushes head) e).on) (λ a found. tt) (λ a found. tt)
  may_at at.Over e = tt

  pub defers_may : May Can Took value_at w.memory (defer_plan c)
  defers_may = may_at c.stands refl

  quiet : (p : Deferring) → IsQuietPlan (plan_at {T = T} c p)
  quiet at.Reads = tt
  quiet (at.Links head) = tt
  quiet (at.Pushes head) = tt
  quiet at.Over = tt

  on : works_on (w.row i) ≡ s + 1
  on = ap works_on is

  mine : shares (w.row i) ≡ true
  mine = ap shares is

  went : (c2 : Defer) (mem2 : Mem T) → Deferring_went n i s (view defers w.memory) good.state good.extra (view defers mem2) c c2
      → Lasts defers n good.state.head w.memory good.stocked good.room mem2 → RowWent defers n size w good.state good.extra i mem2 (Defers s c2) [] w.uses
  went c2 mem2 g lasts = record {
    slot = s;
    m2 = g.m2;
    x2 = g.x2;
    moved = g.moved;
    written = g.written;
    pending = g.pending;
    logged = g.logged;
    fits = g.fits;
    hands = g.hands w.hand good.hands;
    used = used_same i good.state.head g.m2.head good.state.log g.m2.log w.row w.uses (Defers s c2) good.used (sym on) (λ t e. sym mine)
        (λ t. ap (λ h. emptied (h t)) g.heads) (λ t. ap (is_open t) g.logged);
    alone = λ j t ne q e. ap (λ h. emptied (h t)) g.heads;
    room = subst (λ (h : ℕ → Head). HasRoom n h mem2) (sym g.heads) lasts.1;
    stays = lasts.0;
    short = still_short n i s size good.state g.m2 (w.row i) (Defers s c2) g.moved.keeps (ap retirals g.logged) (λ t. ap (λ (q : Row). tries_on q t) is);
  }

  over_went : Deferred_to n i good.state good.extra s → RowWent defers n size w good.state good.extra i w.memory Rests [] (with_at w.uses s (one_less (w.uses s)))
  over_went r =
      let m = good.state in
      let m2 = ends_call m i in
      let shared : is_shared (w.uses s) ≡ true = sym (good.used.kinds i s on) ∙ mine in
      record {
        slot = s;
        m2 = m2;
        x2 = good.extra;
        moved = ends_call_moves n i s m good.inv r.none;
        written = ends_call_written n i i (view defers w.memory) m good.extra good.shows;
        pending = λ p. p;
        logged = refl;
        fits = record {
          empty = record {
            loose = r.empty.loose;
            left = r.empty.left;
            pending = r.empty.pending;
            puts = r.empty.puts;
            closing = r.empty.closing;
            hand = r.empty.hand;
            pends = r.empty.pends;
            lefts = r.empty.lefts;
            put_first = r.empty.put_first;
            popped = r.empty.popped;
          };
          outside = record { section = put_here m.section i 0; defers = r.none };
        };
        hands = good.hands;
        used = shared_ends i s m.head m.head m.log m.log w.row w.uses Rests (one_less (w.uses s)) good.used (λ t ne. (refl, refl)) on mine refl
            (one_less_shared (w.uses s) shared)
            (λ k e. one_less_fits (w.uses s) (emptied (m.head s)) k (is_open s m.log) shared (rw e at (good.used.fits s)));
        alone = λ j t ne q e. refl;
        room = good.room;
        stays = stays_same defers w.memory good.stocked;
        short = still_short n i s size m m2 (w.row i) Rests (ends_call_moves n i s m good.inv r.none).keeps refl (λ t. ap (λ (q : Row). tries_on q t) is);
      }

  goes_on : (c2 : Defer) (mem2 : Mem T) (o : Advance Unit) → o ≡ Goes → defers_on w i s mem2 (c2, o) ≡ after_step w i mem2 (Defers s c2) []
  goes_on c2 mem2 Goes e = refl
  goes_on c2 mem2 Waits e = refl
  goes_on c2 mem2 (Done u) e = absurd (cc)
  goes_on c2 mem2 (Refused fault) e = refl

  row_told : (p : Deferring) → c.stands ≡ p → IsOnWay p → (c2 : Defer) (m2 : State) → DeferTold i c good.state c2 m2
      → RowTold n i (w.row i) good.state w.uses (Defers s c2) m2 w.uses
  row_told p here way c2 m2 (Goes_on q e later same) =
      DeferGoes s c q is (ap (λ (d : Defer). Defers s d) e) (subst (λ (r : Deferring). IsOnWay r) (sym here) way) later same
  row_told p here way c2 m2 (Reaches b t d e block word same) =
      DeferPushes s b t d c is (ap (λ (a : Defer). Defers s a) e) (subst (λ (r : Deferring). IsOnWay r) (sym here) way) block word same

  -- the row goes on
  goes_next : (p : Deferring) → c.stands ≡ p → IsOnWay p → (mem2 : Mem T) (end : Defer × Advance Unit) (w2 : World T) → Steps Took value_at w.memory (plan_at c c.stands) mem2 end
      → Deferring_went n i s (view defers w.memory) good.state good.extra (view defers mem2) c end.0 × (end.1 ≡ Goes) → w2 ≡ defers_on w i s mem2 end → Next defers n size w good.state i w2
  unfolding went
  goes_next p here way mem2 end w2 st g e =
      let lasts = plan_lasts defers n good.state.head w.memory good.stocked good.room (defer_plan c) mem2 end (quiet c.stands) defers_may st in
      subst (λ (v : World T). Next defers n size w good.state i v) (sym (e ∙ goes_on end.0 mem2 end.1 g.1))
      (next_after defers n w good i mem2 (Defers s end.0) [] w.uses (went end.0 mem2 g.0 lasts) (row_told p here way end.0 g.0.m2 g.0.told))

  next_at : (p : Deferring) → c.stands ≡ p → (mem2 : Mem T) (end : Defer × Advance Unit) (w2 : World T) → Steps Took value_at w.memory (plan_at c p) mem2 end
      → w2 ≡ defers_on w i s mem2 end → Next defers n size w good.state i w2
  unfolding over_went
  next_at at.Reads here mem2 end w2 st e =
      goes_next at.Reads here tt mem2 end w2 (subst (λ (q : Deferring). Steps Took value_at w.memory (plan_at c q) mem2 end) (sym here) st)
      (defer_reads defers n i s w.memory mem2 good.state good.extra c end good.inv good.shows (at_point at.Reads here) st) e
  next_at (at.Links head) here mem2 end w2 st e =
      goes_next (at.Links head) here tt mem2 end w2 (subst (λ (q : Deferring). Steps Took value_at w.memory (plan_at c q) mem2 end) (sym here) st)
      (defer_links defers n i s w.memory mem2 good.state good.extra c end good.inv good.shows head (at_point (at.Links head) here) (next_there (at_point (at.Links head) here)) st) e
  next_at (at.Pushes head) here mem2 end w2 st e =
      goes_next (at.Pushes head) here tt mem2 end w2 (subst (λ (q : Deferring). Steps Took value_at w.memory (plan_at c q) mem2 end) (sym here) st)
      (defer_pushes defers n i s w.memory mem2 good.state good.extra c end good.inv good.shows head (at_point (at.Pushes head) here) st) e
  next_at at.Over here mem2 end w2 st e =
      subst (λ (v : World T). Next defers n size w good.state i v) (sym (e ∙ ap (λ (q : Mem T). defers_on w i s q end) st.0 ∙ ap (λ (q : Defer × Advance Unit). defers_on w i s w.memory q) st.1))
      (next_after defers n w good i w.memory Rests [] (with_at w.uses s (one_less (w.uses s))) (over_went (at_point at.Over here))
      (DeferEnds s c is refl here (unmoved_kept n good.state (ends_call good.state i) refl refl refl refl refl refl refl (λ c e. refl) refl)))

  pub defers_next : (w2 : World T)
      → (mem2 : Mem T) × (end : Defer × Advance Unit) × Steps Took value_at w.memory (defer_plan c) mem2 end × (w2 ≡ defers_on w i s mem2 end) → Next defers n size w good.state i w2
  defers_next w2 st = next_at c.stands refl st.0 st.1 w2 st.2 st.3

-- What a step of a settling row comes to at the world, and its end.
use Rattle.std.specs.Prelude.{Option}
use Rattle.std.proofs.Common.{◌≡◌, ℕ, ◌+◌, Bool, true, false, List, [], ◌∷◌, length, refl, arith, subst, sym, ap, ◌∙◌}
use Rattle.seize_moves.specs.Given.SeizeWordsMem.{Mem, value_at, Can, Took}
use Rattle.seize_moves.specs.Given.SeizeWordsPlan.{May, Steps}
use Rattle.seize_moves.specs.Given.SeizeDeclared.rows.settle.Settle.{Settle}
use Rattle.seize_moves.specs.Given.SeizeDeclared.rows.settle.Settling.{Settling}
use Rattle.seize_moves.specs.Given.SeizeDeclared.rows.settle.Settling.TheVariants as at
use Rattle.seize_moves.specs.Given.SeizeDeclared.rows.settle.Settled.{Settled}
use Rattle.seize_moves.specs.Given.SeizeDeclared.rows.settle.Settled.TheVariants.{Goes, Waits, Gave, Done}
use Rattle.seize_moves.specs.Given.SeizeSettle.{settle_plan, plan_at}
use Rattle.seize_moves.specs.Given.SeizeLaw.{is_open}
use Rattle.seize_moves.specs.Given.SeizeWorld.{World, Row, Rests, Settles, Use, Vacant, Outside, Inside, Changing, one_less, with_at, after_step, settles_on, settle_effects}
use Rattle.seize_moves.proofs.Moves.State.Ghost.{Entry, Head, State, emptied, is_never}
use Rattle.seize_moves.proofs.Moves.State.Together.{stays}
use Rattle.seize_moves.proofs.Memory.Words.Chains.{Chain, blocks_of, waiting}
use Rattle.seize_moves.proofs.Memory.Words.View.{View, view}
use Rattle.seize_moves.proofs.Memory.Words.Shows.{Extra, Shows, keeps_like}
use Rattle.seize_rule.proofs.Points.Known.{FitsAt, bare, Over}
use Rattle.seize_rule.proofs.Rows.Known.{works_on, Idles, FitsRow}
use Rattle.seize_rule.proofs.Rows.Teams.{shares, is_shared, UseFits, used_same, shared_ends}
use Rattle.seize_moves.proofs.Memory.Words.Room.{room_heads}
use Rattle.seize_rule.proofs.Points.Told.{part}
use Rattle.seize_rule.proofs.Points.Stepped.{Stepped, IsGoing}
use Rattle.seize_rule.proofs.Rows.Slots.{stays_same}
use Rattle.seize_rule.proofs.Words.Kept.{Lasts, plan_lasts, settle_quiet, settle_open}
use Rattle.seize_rule.proofs.Rows.Short.{tries_on, is_trying, StillShort, still_short, calm}
use Rattle.seize_rule.proofs.Rows.Told.{SettleGoes, SettleEnds}
use Rattle.seize_rule.proofs.World.Good.{Good, RowWent, Next, next_after}

pub never_emptied : (h k : Head) → emptied h ≡ emptied k → is_never h ≡ false → is_never k ≡ false
never_emptied h k e f = grind arith

pub nothing : (w : ℕ) (next : ℕ → ℕ) (l : List ℕ) → w ≡ 0 → Chain 0 next w l → l ≡ []
nothing w next [] z k = refl
nothing w next (b ∷ l) z k = let p = k.0 in let q = k.1 in absurd (omega (arith, z, p, q))

pub no_entries : (w : ℕ) (next : ℕ → ℕ) (l : List Entry) → w ≡ 3 → Chain 3 next w (blocks_of l) → l ≡ []
no_entries w next [] z k = refl
no_entries w next (e ∷ l) z k = let p = k.0 in let q = k.1 in absurd (omega (arith, z, p, q))

-- a row whose settling is over has nothing in its hands
pub over_empty : (n i : ℕ) (f : View) (m : State) (x : Extra) (c : Settle) → Shows n f m x → Over n i m x c false → Idles i m x
over_empty n i f m x c v r =
    let hand : x.hand i ≡ 3 = (let a = r.rest.common.hand in let b = r.none_listed in grind (arith, a, b)) in
    let pends : x.pends i ≡ 0 = (let a = r.rest.common.pends in let b = r.none_pending in cc (a, b)) in
    let lefts : x.lefts i ≡ 0 = (let a = r.rest.common.lefts in let b = r.none_left in cc (a, b)) in
    let puts : x.put_first i ≡ 0 = (let a = r.rest.common.put_first in let b = r.rest.put r.none_left in cc (a, b)) in
    record {
      empty = record {
        loose = no_entries (x.hand i) f.links (m.loose i) hand (v.entries.loosed i);
        left = nothing (x.lefts i) f.nexts (m.left i) lefts (v.lists.lefted i);
        pending = nothing (x.pends i) f.nexts (m.pending i) pends (subst (λ (t : Bool). Chain 0 f.nexts (x.pends i) (waiting t (m.pending i))) r.rest.popped (v.lists.pended i));
        puts = nothing (x.put_first i) f.nexts (m.puts i) puts (v.lists.putted i);
        closing = r.rest.closing;
        hand = hand;
        pends = pends;
        lefts = lefts;
        put_first = puts;
        popped = r.rest.popped;
      };
      outside = r.rest.common.outside;
    }

-- one row less works on a slot
pub one_less_fits : (u : Use) (h : Head) (k : ℕ) (now : Bool) → is_shared u ≡ true → UseFits u h (k + 1) now → UseFits (one_less u) h k now
one_less_fits Vacant h k now s f = absurd (cc s)
one_less_fits (Outside j) h k now s f = let p = f.1 in (f.0, omega (arith, p))
one_less_fits (Inside j) h k now s f = let p = f.1 in (f.0, omega (arith, p), f.2)
one_less_fits Changing h k now s f = absurd (cc s)

pub one_less_shared : (u : Use) → is_shared u ≡ true → is_shared (one_less u) ≡ true
one_less_shared Vacant s = absurd (cc s)
one_less_shared (Outside j) s = refl
one_less_shared (Inside j) s = refl
one_less_shared Changing s = absurd (cc s)

module _ {T : Type 0} {size : ℕ} (defers : T → Option ℕ) (n : ℕ) (w : World T) (good : Good defers n size w) (i : ℕ) where
  settles_went : (c c2 : Settle) (mem2 : Mem T) → w.row i ≡ Settles c
      → (st : Stepped n i c (part c) (view defers w.memory) good.state good.extra (view defers mem2) (settle_effects c c.stands) c2)
      → Lasts defers n good.state.head w.memory good.stocked good.room mem2 → StillShort n size good.state st.m2 (w.row i) (Settles c2)
      → RowWent defers n size w good.state good.extra i mem2 (Settles c2) (settle_effects c c.stands) w.uses
  settles_went c c2 mem2 is st lasts short =
      let m = good.state in
      let on : works_on (w.row i) ≡ c.slot + 1 = ap works_on is in
      let mine : shares (w.row i) ≡ true = ap shares is in
      record {
        slot = c.slot;
        m2 = st.m2;
        x2 = st.x2;
        moved = st.moved;
        written = st.written;
        pending = st.pending;
        logged = st.logged;
        fits = st.fits;
        hands = st.aside.hands w.hand good.hands;
        used = used_same i m.head st.m2.head m.log st.m2.log w.row w.uses (Settles c2) good.used (let e = st.slot_is in cc (on, e)) (λ t e. sym mine)
            st.aside.heads (λ t. rw (st.logged) (settle_open defers c c.stands m.log t));
        alone = λ j t ne q e. st.aside.heads t;
        room = room_heads n m.head st.m2.head mem2 (λ u e. never_emptied (st.m2.head u) (m.head u) (st.aside.heads u) e) lasts.1;
        stays = lasts.0;
        short = short;
      }

  goes_on : (c c2 : Settle) (mem2 : Mem T) (o : Settled T) → IsGoing o → settles_on w i c mem2 (c2, o) ≡ after_step w i mem2 (Settles c2) (settle_effects c c.stands)
  goes_on c c2 mem2 Goes g = refl
  goes_on c c2 mem2 Waits g = refl
  goes_on c c2 mem2 (Gave value) g = refl
  goes_on c c2 mem2 Done g = absurd g

  -- a step of a settling row that is not its last
  pub settles_next : (c : Settle) (mem2 : Mem T) (end : Settle × Settled T) (w2 : World T) → w.row i ≡ Settles c
      → May Can Took value_at w.memory (settle_plan defers c) → Steps Took value_at w.memory (settle_plan defers c) mem2 end
      → (st : Stepped n i c (part c) (view defers w.memory) good.state good.extra (view defers mem2) (settle_effects c c.stands) end.0) → IsGoing end.1
      → StillShort n size good.state st.m2 (w.row i) (Settles end.0)
      → w2 ≡ settles_on w i c mem2 end → Next defers n size w good.state i w2
  unfolding settles_went
  settles_next c mem2 end w2 is may s st going short e =
      let lasts = plan_lasts defers n good.state.head w.memory good.stocked good.room (settle_plan defers c) mem2 end (settle_quiet defers c c.stands) may s in
      subst (λ (v : World T). Next defers n size w good.state i v) (sym e)
      (subst (λ (v : World T). Next defers n size w good.state i v) (sym (goes_on c end.0 mem2 end.1 going))
      (next_after defers n w good i mem2 (Settles end.0) (settle_effects c c.stands) w.uses (settles_went c end.0 mem2 is st lasts short)
      (SettleGoes c end.0 is refl st.slot_is st.told)))

  over_went : (c : Settle) → w.row i ≡ Settles c → c.stands ≡ at.Over → Over n i good.state good.extra (bare c) false
      → RowWent defers n size w good.state good.extra i w.memory Rests [] (with_at w.uses c.slot (one_less (w.uses c.slot)))
  over_went c is over r =
      let m = good.state in
      let on : works_on (w.row i) ≡ c.slot + 1 = ap works_on is in
      let mine : shares (w.row i) ≡ true = ap shares is in
      let shared : is_shared (w.uses c.slot) ≡ true = (let k = good.used.kinds i c.slot on in cc (k, mine)) in
      record {
        slot = c.slot;
        m2 = m;
        x2 = good.extra;
        moved = stays n i c.slot m good.inv;
        written = record { shows = good.shows; keeps = keeps_like i (view defers w.memory) m good.extra (view defers w.memory) refl refl refl refl refl };
        pending = λ p. p;
        logged = refl;
        fits = over_empty n i (view defers w.memory) m good.extra (bare c) good.shows r;
        hands = good.hands;
        used = shared_ends i c.slot m.head m.head m.log m.log w.row w.uses Rests (one_less (w.uses c.slot)) good.used (λ t ne. (refl, refl)) on mine refl
            (one_less_shared (w.uses c.slot) shared)
            (λ k e. one_less_fits (w.uses c.slot) (emptied (m.head c.slot)) k (is_open c.slot m.log) shared (rw e at (good.used.fits c.slot)));
        alone = λ j t ne q e. refl;
        room = good.room;
        stays = stays_same defers w.memory good.stocked;
        short = still_short n i c.slot size m m (w.row i) Rests (stays n i c.slot m good.inv).keeps refl (λ t. ap (λ (q : Row). tries_on q t) is ∙ calm c t (ap is_trying over));
      }

  -- its last step
  pub settles_over_next : (c : Settle) (mem2 : Mem T) (end : Settle × Settled T) (w2 : World T) → w.row i ≡ Settles c → c.stands ≡ at.Over
      → Steps Took value_at w.memory (settle_plan defers c) mem2 end → w2 ≡ settles_on w i c mem2 end → Next defers n size w good.state i w2
  unfolding over_went
  settles_over_next c mem2 end w2 is over s e =
      let r : Over n i good.state good.extra (bare c) false =
      subst (λ (p : Settling). FitsAt n i (view defers w.memory) good.state good.extra (bare c) p) over
      (subst (λ (row : Row). FitsRow n i (view defers w.memory) good.state good.extra (length w.memory.slots) row) is (good.rows i)) in
      let done : (mem2 ≡ w.memory) × (end ≡ (c, Done)) = subst (λ (p : Settling). Steps Took value_at w.memory (plan_at defers c p) mem2 end) over s in
      subst (λ (v : World T). Next defers n size w good.state i v) (sym e)
      (subst (λ (k : Mem T). Next defers n size w good.state i (settles_on w i c k end)) (sym done.0)
      (subst (λ (o : Settle × Settled T). Next defers n size w good.state i (settles_on w i c w.memory o)) (sym done.1)
      (next_after defers n w good i w.memory Rests [] (with_at w.uses c.slot (one_less (w.uses c.slot))) (over_went c is over r) (SettleEnds c is refl over refl))))

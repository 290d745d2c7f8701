-- A caller begins a row, and the world stays good.
use Rattle.std.specs.Prelude.{Option, Some, None, is_some, if◌then◌else◌}
use Rattle.std.proofs.Common.{◌≡◌, ℕ, ◌+◌, ◌<◌, ◌*◌, Bool, true, false, cond, eqb, List, [], ◌∷◌, length, refl, arith, subst, sym, ap, ◌∙◌, eqb-true}
use Rattle.std.proofs.lemmas.Bool.{eqb-false}
use Rattle.seize_moves.specs.Given.SeizeWordsDeclared.at.At.TheVariants.{Word}
use Rattle.seize_moves.specs.Given.SeizeWordsMem.{value_at}
use Rattle.seize_moves.specs.Given.SeizeDeclared.states.TheConstants.{IDLE, ACTIVE, LAST_SLOT}
use Rattle.seize_moves.specs.Given.SeizeDeclared.rows.register.Registering.TheVariants as registering
use Rattle.seize_moves.specs.Given.SeizeSettle.{retiring, flushing}
use Rattle.seize_moves.specs.Given.SeizeLeave.{leaving}
use Rattle.seize_moves.specs.Given.SeizeDefer.{deferring}
use Rattle.seize_moves.specs.Given.SeizeLaw.{Effect, Deferred, is_open, holds}
use Rattle.seize_moves.specs.Given.SeizeWorld.{World, Row, Rests, Registers, Enters, Settles, Leaves, Defers, Frees, Use, Vacant, Outside, Inside, Changing, Hand, Cutting, Handed, Request, Register', Enter', Leave', LeaveOwned, Refresh, Unregister', Retire, Flush, Defer', Begins, IsTaken, IsInside, IsNotLeft, one_more, with_at, with_row, with_use, with_hand, with_effect, MayCut}
use Rattle.seize_moves.proofs.Moves.State.Ghost.{put, Head, Idle, Active, Life, IsLinked, IsUnlinked, IsPending, IsDeferring, IsLeft, State, emptied, is_never}
use Rattle.seize_moves.proofs.Moves.State.Moves.{begins_retire, begins_call, begins_defer}
use Rattle.seize_moves.proofs.Moves.Moves.Blocks.{begins_retire_moves, begins_defer_moves}
use Rattle.seize_moves.proofs.Moves.Moves.Slots.{begins_call_moves}
use Rattle.seize_moves.proofs.Moves.State.Together.{stays}
use Rattle.seize_moves.proofs.Memory.Words.Named.{link}
use Rattle.seize_moves.proofs.Memory.Words.Chains.{last_of}
use Rattle.seize_moves.proofs.Memory.Words.View.{view, list_in}
use Rattle.seize_moves.proofs.Memory.Words.Shows.{Extra, CarrierIs, lives, keeps_like}
use Rattle.seize_moves.proofs.Memory.Written.Blocks.{to_retire, begins_retire_written, begins_defer_written}
use Rattle.seize_moves.proofs.Memory.Written.Heads.{begins_call_written}
use Rattle.seize_rule.proofs.Points.Aside.{AllHands, HandFits, standing_life, cut_stands}
use Rattle.seize_rule.proofs.Rows.Known.{works_on, Idles, OnSlot, FitsRow, word_of}
use Rattle.seize_rule.proofs.Rows.KnownLasts.{row_last}
use Rattle.seize_rule.proofs.Rows.Teams.{Used, shares, is_shared, UseFits, used_same, alone_begins, shared_begins}
use Rattle.seize_moves.proofs.Memory.Words.There.{live_pos}
use Rattle.seize_rule.proofs.Rows.Slots.{stays_same}
use Rattle.seize_rule.proofs.Rows.Short.{AllShort, StillShort, tries_on, still_short, short_after}
use Rattle.seize_moves.proofs.Moves.Sets.Unmoved.{is_in_wait, put_waits, Unmoved, unmoved_kept, unmoved_same}
use Rattle.seize_rule.proofs.Rows.Told.{BeginTold}
use Rattle.seize_rule.proofs.World.Good.{Good, RowWent, good_after, after_state}

more_fits : (u : Use) (h : Head) (k : ℕ) (now : Bool) → IsTaken u → UseFits u h k now → UseFits (one_more u) h (k + 1) now
more_fits Vacant h k now t f = absurd t
more_fits (Outside j) h k now t f = let p = f.1 in (f.0, omega (arith, p))
more_fits (Inside j) h k now t f = let p = f.1 in (f.0, omega (arith, p), f.2)
more_fits Changing h k now t f = absurd t

taken_shared : (u : Use) → IsTaken u → is_shared u ≡ true
taken_shared Vacant t = absurd t
taken_shared (Outside j) t = refl
taken_shared (Inside j) t = refl
taken_shared Changing t = absurd t

more_shared : (u : Use) → IsTaken u → is_shared (one_more u) ≡ true
more_shared Vacant t = absurd t
more_shared (Outside j) t = refl
more_shared (Inside j) t = refl
more_shared Changing t = absurd t

taken_head : (u : Use) (h : Head) (k : ℕ) (now : Bool) → IsTaken u → UseFits u (emptied h) k now → is_never h ≡ false
taken_head Vacant h k now t f = absurd t
taken_head (Outside j) h k now t f = let p = f.0 in grind (arith, p)
taken_head (Inside j) h k now t f = let p = f.0 in grind (arith, p)
taken_head Changing h k now t f = absurd t

pub inside_taken : (u : Use) → IsInside u → IsTaken u
inside_taken Vacant t = absurd t
inside_taken (Outside j) t = absurd t
inside_taken (Inside j) t = tt
inside_taken Changing t = absurd t

inside_open : (u : Use) (h : Head) (k : ℕ) (now : Bool) → IsInside u → UseFits u h k now → now ≡ true
inside_open Vacant h k now t f = absurd t
inside_open (Outside j) h k now t f = absurd t
inside_open (Inside j) h k now t f = f.2
inside_open Changing h k now t f = absurd t

module _ {T : Type 0} (defers : T → Option ℕ) (n size : ℕ) (last : n ≡ LAST_SLOT + 1) (w w2 : World T) (good : Good defers n size w) (i : ℕ) (rests : w.row i ≡ Rests) where
  idles : Idles i good.state good.extra
  idles = subst (λ (r : Row). FitsRow n i (view defers w.memory) good.state good.extra (length w.memory.slots) r) rests (good.rows i)

  none_on : works_on (w.row i) ≡ 0
  none_on = ap works_on rests

  below : (t : ℕ) → is_never (good.state.head t) ≡ false → t < n
  below t h = grind (arith, good.inv.slots.outside t)

  -- the world is good, in the state as it was
  abbrev Still : World T → Type 0
  Still v = (g : Good defers n size v) × (g.state ≡ good.state)

  -- nothing moves
  quiet_good : (r : Row) (uses2 : ℕ → Use) → FitsRow n i (view defers w.memory) good.state good.extra (length w.memory.slots) r
      → Used good.state.head good.state.log (with_at w.row i r) uses2
      → Still (record { memory = w.memory; row = with_at w.row i r; uses = uses2; hand = w.hand; log = w.log })
  quiet_good r uses2 fits used = let went : RowWent defers n size w good.state good.extra i w.memory r [] uses2 = record {
    slot = 0;
    m2 = good.state;
    x2 = good.extra;
    moved = stays n i 0 good.state good.inv;
    written = record { shows = good.shows; keeps = keeps_like i (view defers w.memory) good.state good.extra (view defers w.memory) refl refl refl refl refl };
    pending = λ p. p;
    logged = refl;
    fits = fits;
    hands = good.hands;
    used = used;
    alone = λ j t ne q e. refl;
    room = good.room;
    stays = stays_same defers w.memory good.stocked;
    short = still_short n i 0 size good.state good.state (w.row i) r (stays n i 0 good.state good.inv).keeps refl (λ t. ap (λ (q : Row). tries_on q t) rests);
  } in (good_after defers n w good i w.memory r [] uses2 went, after_state defers n w good i w.memory r [] uses2 went)

  -- a row begins alone on its slot, whose head is this
  alone_good : (s : ℕ) (r : Row) → length (good.used.team s) ≡ 0 → works_on r ≡ s + 1 → shares r ≡ false → UseFits Changing (emptied (good.state.head s)) 1 (is_open s good.state.log)
      → FitsRow n i (view defers w.memory) good.state good.extra (length w.memory.slots) r
      → Still (with_use (with_row w i r) s Changing)
  alone_good s r none on mine kind fits = quiet_good r (with_at w.uses s Changing) fits
      (alone_begins i s good.state.head good.state.head good.state.log good.state.log w.row w.uses r Changing good.used (λ t ne. (refl, refl)) none_on none on mine kind)

  on_slot : (s : ℕ) (h : Head) → emptied (good.state.head s) ≡ h → is_never h ≡ false → OnSlot n i good.state good.extra s h
  on_slot s h e taken = record { idles = idles; slot_lt = below s (one (good.state.head s) e); head = e }
    where
      one : (g : Head) → emptied g ≡ h → is_never g ≡ false
      one g k = grind (arith, k, taken)

  outside_at : (s : ℕ) → w.uses s ≡ Outside 0 → (emptied (good.state.head s) ≡ Idle) × (length (good.used.team s) ≡ 0)
  outside_at s e = rw e at (good.used.fits s)

  inside_at : (s : ℕ) → w.uses s ≡ Inside 0 → (emptied (good.state.head s) ≡ Active []) × (length (good.used.team s) ≡ 0) × (is_open s good.state.log ≡ true)
  inside_at s e = rw e at (good.used.fits s)

  registers_begin : (enters : Bool) → Still (with_row w i (Registers (record { slot = 0; enters = enters; stands = registering.Begin })))
  registers_begin enters =
      let r : Row = Registers (record { slot = 0; enters = enters; stands = registering.Begin }) in
      quiet_good r w.uses (record { idles = idles; first = refl; slot_lt = omega (arith, last) })
      (used_same i good.state.head good.state.head good.state.log good.state.log w.row w.uses r good.used (sym none_on) (λ s e. absurd (omega (arith, e))) (λ t. refl) (λ t. refl))

  leaves_begin : (s becomes : ℕ) (frees again : Bool) → becomes ≡ word_of again → (again ≡ true → frees ≡ false) → w.uses s ≡ Inside 0
      → Still (with_use (with_row w i (Leaves (leaving s size becomes frees))) s Changing)
  leaves_begin s becomes frees again word stays e =
      let p = inside_at s e in
      alone_good s (Leaves (leaving s size becomes frees)) p.1 refl refl (let q = p.0 in (rw q refl, refl))
      (record { on = on_slot s (Active []) p.0 refl; again = again; ends = record { word = word; stays = stays } })

  -- one more row works on the slot
  shared_used : (s : ℕ) (head2 : ℕ → Head) (log2 : List Effect) (r : Row) → IsTaken (w.uses s) → works_on r ≡ s + 1 → shares r ≡ true
      → ((t : ℕ) → emptied (head2 t) ≡ emptied (good.state.head t)) → ((t : ℕ) → is_open t log2 ≡ is_open t good.state.log)
      → Used head2 log2 (with_at w.row i r) (with_at w.uses s (one_more (w.uses s)))
  shared_used s head2 log2 r taken on mine heads opens =
      shared_begins i s good.state.head head2 good.state.log log2 w.row w.uses r (one_more (w.uses s)) good.used (λ t ne. (heads t, opens t)) none_on on mine
      (taken_shared (w.uses s) taken) (more_shared (w.uses s) taken)
      (rw (heads s, opens s) (more_fits (w.uses s) (emptied (good.state.head s)) (length (good.used.team s)) (is_open s good.state.log) taken (good.used.fits s)))

  taken_there : (s : ℕ) → IsTaken (w.uses s) → is_never (good.state.head s) ≡ false
  taken_there s taken = taken_head (w.uses s) (good.state.head s) (length (good.used.team s)) (is_open s good.state.log) taken (good.used.fits s)

  flushes_begin : (s : ℕ) → IsTaken (w.uses s) → Still (with_use (with_row w i (Settles (flushing s size))) s (one_more (w.uses s)))
  flushes_begin s taken =
      let there = taken_there s taken in
      let e = idles.empty in
      quiet_good (Settles (flushing s size)) (with_at w.uses s (one_more (w.uses s)))
      (record {
        retiring = record {
          rest = record {
            common = record { slot_lt = below s there; taken = there; outside = idles.outside; hand = e.hand; pends = e.pends; lefts = e.lefts; put_first = e.put_first };
            popped = e.popped;
            closing = e.closing;
            put = λ z. refl;
            put_last = sym (ap link (ap last_of e.puts));
            batch = tt;
            tries = λ z. (refl, refl, refl);
          };
          holds = refl;
          none_left = refl;
        };
      })
      (shared_used s good.state.head good.state.log (Settles (flushing s size)) taken refl refl (λ t. refl) (λ t. refl))

  hand_of : (b : ℕ) (h : Hand) → w.hand b ≡ h → HandFits h (good.state.life b)
  hand_of b h e = subst (λ (k : Hand). HandFits k (good.state.life b)) e (good.hands b)

  hands_put : (b : ℕ) (l : Life) → HandFits Handed l → AllHands (with_at w.hand b Handed) (put good.state.life b l)
  hands_put b l fits c = at (eqb c b)
    where
      at : (t : Bool) → HandFits (if t then Handed else w.hand c) (cond t l (good.state.life c))
      at true = fits
      at false = good.hands c

  -- the other rows know what they knew, row i what it is to know
  rows_then : (m2 : State) (x2 : Extra) (r : Row) → FitsRow n i (view defers w.memory) m2 x2 (length w.memory.slots) r
      → ((j : ℕ) → (j ≡ i → ⊥) → FitsRow n j (view defers w.memory) m2 x2 (length w.memory.slots) (w.row j))
      → (j : ℕ) → FitsRow n j (view defers w.memory) m2 x2 (length w.memory.slots) (with_at w.row i r j)
  rows_then m2 x2 r mine others j = one (eqb j i) (eqb-true j i) (eqb-false j i)
    where
      one : (y : Bool) → (y ≡ true → j ≡ i) → (y ≡ false → j ≡ i → ⊥) → FitsRow n j (view defers w.memory) m2 x2 (length w.memory.slots) (if y then r else w.row j)
      one true e f = subst (λ (a : ℕ). FitsRow n a (view defers w.memory) m2 x2 (length w.memory.slots) r) (sym (e refl)) mine
      one false e f = others j (f refl)

  -- and so are the open batches
  short_then : (m2 : State) (r : Row) → StillShort n size good.state m2 (w.row i) r → AllShort n size m2 (with_at w.row i r)
  short_then m2 r still = short_after n i size good.state m2 w.row r good.short still

  -- the block that it retires
  retires_begin : (s b holder : ℕ) → IsTaken (w.uses s) → w.hand b ≡ Cutting holder
      → (g : Good defers n size (with_hand (with_use (with_row w i (Settles (retiring s size (b * 2048)))) s (one_more (w.uses s))) b Handed))
      × (g.state ≡ begins_retire good.state i b)
  retires_begin s b holder taken has =
      let m = good.state in
      let x = good.extra in
      let f = view defers w.memory in
      let there = taken_there s taken in
      let e = idles.empty in
      let life : m.life b ≡ IsUnlinked holder = hand_of b (Cutting holder) has in
      let pos : 0 < b = live_pos w.memory b (good.shows.lists.lived b ∙ ap lives life) in
      let m2 = begins_retire m i b in
      let x2 = to_retire x i b in
      let moved = begins_retire_moves n i s m b holder good.inv life in
      let written = begins_retire_written n i b holder f m x good.shows life pos e.pending e.popped in
      let here : (g : ℕ → ℕ) (u : ℕ) → put g i u i ≡ u = (λ g u. grind arith) in (
        record {
          state = m2;
          extra = x2;
          inv = moved.inv;
          shows = written.shows;
          pending = good.pending;
          logged = good.logged;
          rows = rows_then m2 x2 (Settles (retiring s size (b * 2048)))
              (record {
                retiring = record {
                  rest = record {
                    common = record {
                      slot_lt = below s there;
                      taken = there;
                      outside = record { section = idles.outside.section; defers = idles.outside.defers };
                      hand = e.hand;
                      pends = here x.pends (link b);
                      lefts = e.lefts;
                      put_first = e.put_first;
                    };
                    popped = e.popped;
                    closing = e.closing;
                    put = λ z. refl;
                    put_last = sym (ap link (ap last_of e.puts));
                    batch = tt;
                    tries = λ z. absurd (cc z);
                  };
                  holds = refl;
                  none_left = refl;
                };
              })
              (λ j ne. row_last n i s j (length w.memory.slots) (length w.memory.slots) f f m m2 x x2 moved.keeps written.keeps good.inv good.shows moved.inv written.shows
              (λ c d h live. h) (omega arith) ne (w.row j) (λ t h. refl) (good.rows j));
          hands = hands_put b (IsPending i) refl;
          used = shared_used s m2.head m2.log (Settles (retiring s size (b * 2048))) taken refl refl (λ t. refl) (λ t. refl);
          room = good.room;
          stocked = good.stocked;
          short = short_then m2 (Settles (retiring s size (b * 2048))) (still_short n i s size m m2 (w.row i) (Settles (retiring s size (b * 2048))) moved.keeps refl (λ u. ap (λ (q : Row). tries_on q u) rests));
        },
        refl,
      )

  -- the block that it defers, and the one on whose list it goes
  defers_begin : (s b t field : ℕ) → IsInside (w.uses s) → MayCut i (w.hand b) → list_in defers (value_at w.memory b) ≡ None → list_in defers (value_at w.memory t) ≡ Some field
      → is_some (value_at w.memory t) ≡ true → holds s t w.log ≡ true → IsNotLeft (w.hand t)
      → (g : Good defers n size (with_effect (with_hand (with_use (with_row w i (Defers s (deferring (b * 2048) (Word t field)))) s (one_more (w.uses s))) b Handed) (Deferred b t)))
      × Unmoved n good.state g.state
  defers_begin s b t field inside has none list lives_t held not_left =
      let m = good.state in
      let x = good.extra in
      let f = view defers w.memory in
      let taken = inside_taken (w.uses s) inside in
      let there = taken_there s taken in
      let e = idles.empty in
      let o = inside_open (w.uses s) (emptied (m.head s)) (length (good.used.team s)) (is_open s m.log) inside (good.used.fits s) in
      let life : m.life b ≡ IsLinked = standing_life (w.hand b) (m.life b) (cut_stands i (w.hand b) has) (good.hands b) in
      let pos : 0 < b = live_pos w.memory b (good.shows.lists.lived b ∙ ap lives life) in
      let carries : (c : ℕ) → CarrierIs (m.life c) (m.carrier c) (f.lists c) = good.shows.lists.carriers in
      let no_carrier : m.carrier b ≡ false = no_carrier_at (f.lists b) none (m.life b) life (carries b) in
      let carrier : m.carrier t ≡ true = live_carrier t field list lives_t in
      let m1 = begins_call m i s in
      let moved1 = begins_call_moves n i s m good.inv o idles.outside.defers in
      let written1 = begins_call_written n i i s f m x good.shows in
      let m2 = begins_defer m1 i s b t in
      let on : put m.section i (s + 1) i ≡ s + 1 = here m.section (s + 1) in
      let moved2 = begins_defer_moves n i s m1 b t moved1.inv life no_carrier carrier on idles.outside.defers (subst (λ (l : List Effect). holds s t l ≡ true) (sym good.logged) held)
      (λ j left. no_left (w.hand t) j (m.life t) not_left left (good.hands t)) in
      let written2 = begins_defer_written n i s b t f m1 x written1.shows life in
      let k = length w.memory.slots in (
        record {
          state = m2;
          extra = x;
          inv = moved2.inv;
          shows = written2.shows;
          pending = good.pending;
          logged = ap (λ (l : List Effect). Deferred b t ∷ l) good.logged;
          rows = rows_then m2 x (Defers s (deferring (b * 2048) (Word t field)))
              (record {
                empty = record {
                  loose = e.loose;
                  left = e.left;
                  pending = e.pending;
                  puts = e.puts;
                  closing = e.closing;
                  hand = e.hand;
                  pends = e.pends;
                  lefts = e.lefts;
                  put_first = e.put_first;
                  popped = e.popped;
                };
                slot_lt = below s there;
                b = b;
                t = t;
                d = field;
                block_is = refl;
                some = pos;
                life = put_here m.life b (IsDeferring i s t);
                at_is = refl;
                list = list;
              })
              (λ j ne. row_last n i s j k k f f m1 m2 x x moved2.keeps written2.keeps moved1.inv written1.shows moved2.inv written2.shows (λ c d h live. h) (omega arith) ne (w.row j) (λ u h. refl)
              (row_last n i s j k k f f m m1 x x moved1.keeps written1.keeps good.inv good.shows moved1.inv written1.shows (λ c d h live. h) (omega arith) ne (w.row j) (λ u h. refl) (good.rows j)));
          hands = hands_put b (IsDeferring i s t) refl;
          used = shared_used s m2.head m2.log (Defers s (deferring (b * 2048) (Word t field))) taken refl refl (λ u. refl) (λ u. refl);
          room = good.room;
          stocked = good.stocked;
          short = short_then m2 (Defers s (deferring (b * 2048) (Word t field)))
              (λ u l q h. still_short n i s size m1 m2 (w.row i) (w.row i) moved2.keeps refl (λ v. ap (λ (p : Row). tries_on p v) rests) u l (ap (λ (p : Row). tries_on p u) rests)
              (λ e. still_short n i s size m m1 (w.row i) (w.row i) moved1.keeps refl (λ v. ap (λ (p : Row). tries_on p v) rests) u l (ap (λ (p : Row). tries_on p u) rests) h));
        },
        unmoved_kept n good.state m2 refl refl refl refl refl refl refl (put_waits m.life b (IsDeferring i s t) (ap is_in_wait life)) refl,
      )
    where
      here : (g : ℕ → ℕ) (u : ℕ) → put g i u i ≡ u
      here g u = grind arith

      put_here : (g : ℕ → Life) (k : ℕ) (u : Life) → put g k u k ≡ u
      put_here g k u = grind arith

      no_left : (h : Hand) (j : ℕ) (l : Life) → IsNotLeft h → l ≡ IsLeft j → HandFits h l → ⊥
      no_left h j l free e fits = grind (arith, free, e, fits)

      no_carrier_at : (o : Option ℕ) → o ≡ None → (y : Life) → y ≡ IsLinked → CarrierIs y (good.state.carrier b) o → good.state.carrier b ≡ false
      no_carrier_at o a y z h = grind arith

      live_carrier : (c d : ℕ) → list_in defers (value_at w.memory c) ≡ Some d → is_some (value_at w.memory c) ≡ true → good.state.carrier c ≡ true
      live_carrier c d a b = one (good.state.life c) (sym (good.shows.lists.lived c) ∙ b) (good.shows.lists.carriers c)
        where
          one : (y : Life) → lives y ≡ true → CarrierIs y (good.state.carrier c) (list_in defers (value_at w.memory c)) → good.state.carrier c ≡ true
          one y l h = grind (arith, a)

  -- the world after it began
  abbrev Begun : Request → World T → Type 0
  Begun request v = (g : Good defers n size v) × BeginTold n i request good.state g.state

  moved_not : {v : World T} → Still v → (g : Good defers n size v) × Unmoved n good.state g.state
  moved_not k = (k.0, subst (λ (m2 : State). Unmoved n good.state m2) (sym k.1) (unmoved_same n good.state))

  pub begins_next : (request : Request) → Begins defers size i request w w2 → Begun request w2
  begins_next (Register' enters) h = subst (λ (v : World T). Begun (Register' enters) v) (sym h) (moved_not (registers_begin enters))
  begins_next (Enter' s) h =
      let p = outside_at s h.0 in
      subst (λ (v : World T). Begun (Enter' s) v) (sym h.1)
      (moved_not (alone_good s (Enters (record { slot = s })) p.1 refl refl (let q = p.0 in (rw q refl, refl)) (on_slot s Idle p.0 refl)))
  begins_next (Leave' s) h = subst (λ (v : World T). Begun (Leave' s) v) (sym h.1) (moved_not (leaves_begin s IDLE false false refl (λ e. absurd (cc e)) h.0))
  begins_next (LeaveOwned s) h = subst (λ (v : World T). Begun (LeaveOwned s) v) (sym h.1) (moved_not (leaves_begin s IDLE true false refl (λ e. absurd (cc e)) h.0))
  begins_next (Refresh s) h = subst (λ (v : World T). Begun (Refresh s) v) (sym h.1) (moved_not (leaves_begin s ACTIVE false true refl (λ e. refl) h.0))
  begins_next (Unregister' s) h =
      let p = outside_at s h.0 in
      subst (λ (v : World T). Begun (Unregister' s) v) (sym h.1)
      (moved_not (alone_good s (Frees (record { slot = s })) p.1 refl refl (let q = p.0 in (rw q refl, refl)) (on_slot s Idle p.0 refl)))
  begins_next (Retire s b) h = subst (λ (v : World T). Begun (Retire s b) v) (sym h.2) (retires_begin s b h.1.0 h.0 h.1.1)
  begins_next (Flush s) h = subst (λ (v : World T). Begun (Flush s) v) (sym h.1) (flushes_begin s h.0)
  begins_next (Defer' s b t) h =
      let none = h.3 in
      let list = h.4 in
      subst (λ (v : World T). Begun (Defer' s b t) v) (sym h.7)
      (defers_begin s b t h.0 h.1 h.2 (rw (none.1) (none.2)) (rw (list.1) (list.2)) (rw (list.1) refl) h.5 h.6)

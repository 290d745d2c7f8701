-- The step by which a row takes a slot's list: its section ends.
use Rattle.std.specs.Prelude.{Option, if◌then◌else◌, nat_lt, ◌⊎◌}
use Rattle.std.proofs.Common.{◌≡◌, ℕ, ◌+◌, ◌<◌, ◌≤◌, Bool, true, false, cond, eqb, List, [], ◌∷◌, length, refl, arith, subst, sym, ap, inl, inr, ◌∙◌, eqb-true}
use Rattle.std.proofs.lemmas.Bool.{eqb-false}
use Rattle.seize_moves.specs.Given.SeizeWordsDeclared.at.At.TheVariants as name
use Rattle.seize_moves.specs.Given.SeizeWordsMem.{Mem, value_at, with_word, Took}
use Rattle.seize_moves.specs.Given.SeizeWordsPlan.{Steps}
use Rattle.seize_moves.proofs.Given.SeizeWordsOneOwner.Operations.{swapped}
use Rattle.seize_moves.proofs.Given.SeizeWordsPlans.{ends_if}
use Rattle.seize_moves.specs.Given.SeizeDeclared.states.TheConstants.{HEAD, ACTIVE}
use Rattle.seize_moves.specs.Given.SeizeDeclared.rows.settle.Settled.{Settled}
use Rattle.seize_moves.specs.Given.SeizeDeclared.rows.settle.Settled.TheVariants.{Goes}
use Rattle.seize_moves.specs.Given.SeizeDeclared.rows.leave.Leave.{Leave}
use Rattle.seize_moves.specs.Given.SeizeDeclared.rows.leave.Leaving.{Leaving}
use Rattle.seize_moves.specs.Given.SeizeDeclared.rows.leave.Leaving.TheVariants as leaving
use Rattle.seize_moves.specs.Given.SeizeSettle.{counting_down}
use Rattle.seize_moves.specs.Given.SeizeLeave.{standing, counted_down, list_taken, swaps}
use Rattle.seize_moves.specs.Given.SeizeLaw.{Left, is_open}
use Rattle.seize_moves.specs.Given.SeizeWorld.{World, Row, Rests, Leaves, Use, Vacant, Outside, Inside, Changing, with_at, with_use, after_step}
use Rattle.seize_moves.proofs.Moves.State.Ghost.{put, Entry, Head, Never, Free, Idle, Active, State, emptied, is_never}
use Rattle.seize_moves.proofs.Moves.State.Rule.{Inv, Moved, Pending, retirals}
use Rattle.seize_moves.proofs.Moves.State.Moves.{has_left, refreshed}
use Rattle.seize_moves.proofs.Moves.Moves.Slots.{has_left_moves, refreshed_moves}
use Rattle.seize_moves.proofs.Memory.Words.Chains.{Chain, blocks_of}
use Rattle.seize_moves.proofs.Memory.Words.View.{View, view}
use Rattle.seize_moves.proofs.Memory.Words.Named.{word_found}
use Rattle.seize_moves.proofs.Memory.Words.Shows.{Extra, Shows, Written}
use Rattle.seize_moves.proofs.Memory.Written.Heads.{left_off, active_head, has_left_written, refreshed_written}
use Rattle.seize_rule.proofs.Points.Known.{Fits}
use Rattle.seize_rule.proofs.Rows.Known.{works_on, Idles, Swaps, head_of, word_of, OverIs, FitsRow, FitsLeave}
use Rattle.seize_rule.proofs.Rows.Teams.{shares, is_shared, is_taken, UseFits, alone_goes, no_other}
use Rattle.seize_moves.proofs.Memory.Words.Room.{room_heads}
use Rattle.seize_rule.proofs.Rows.Slots.{head_went, head_there}
use Rattle.seize_rule.proofs.Rows.Settled.{no_entries, never_emptied}
use Rattle.seize_rule.proofs.Rows.Sections.{row_within}
use Rattle.seize_rule.proofs.Rows.Short.{tries_on, leave_tries}
use Rattle.seize_rule.proofs.Rows.Told.{list_off, IsBehindList, LeaveSwaps}
use Rattle.seize_rule.proofs.World.Good.{Good, RowWent, Next, next_after}

-- the list is in the row's hands, and the slot is left, or active anew
pub record Emptied (n i s : ℕ) (f : View) (m : State) (x : Extra) (es : List Entry) (again : Bool) : Type 0 where
  pub m2 : State
  pub moved : Moved n i s m m2
  pub written : Written n i f m x (record f { heads = put f.heads s (word_of again) }) m2 (left_off f x i s)
  pub pending : Pending m.stage m.counter → Pending m2.stage m2.counter
  pub logged : m2.log ≡ Left s ∷ m.log
  pub move : m2 ≡ list_off again m i s es
  pub life : m2.life ≡ m.life
  pub head : emptied (m2.head s) ≡ head_of again
  pub others : (t : ℕ) → (t ≡ s → ⊥) → emptied (m2.head t) ≡ emptied (m.head t)
  pub loose : m2.loose i ≡ es
  pub left : m2.left i ≡ m.left i
  pub pending_same : m2.pending i ≡ m.pending i
  pub puts : m2.puts i ≡ m.puts i
  pub closing : m2.closing i ≡ m.closing i
  pub section : m2.section i ≡ m.section i
  pub defers : m2.defers i ≡ m.defers i

pub emptied_so : (n i s : ℕ) (f : View) (m : State) (x : Extra) (es : List Entry) (again : Bool) → Inv n m → Shows n f m x → m.head s ≡ Active es → m.loose i ≡ []
    → ((j : ℕ) → m.section j ≡ s + 1 → ⊥) → Emptied n i s f m x es again
emptied_so n i s f m x es true inv v h none within = record {
  m2 = refreshed m i s es;
  moved = refreshed_moves n i s m es inv h none within;
  written = refreshed_written n i s es f m x v h none;
  pending = λ p. p;
  logged = refl;
  move = refl;
  life = refl;
  head = grind arith;
  others = λ t ne. grind (arith, ne);
  loose = grind arith;
  left = refl;
  pending_same = refl;
  puts = refl;
  closing = refl;
  section = refl;
  defers = refl;
}
emptied_so n i s f m x es false inv v h none within = record {
  m2 = has_left m i s es;
  moved = has_left_moves n i s m es inv h none within;
  written = has_left_written n i s es f m x v h none;
  pending = λ p. p;
  logged = refl;
  move = refl;
  life = refl;
  head = grind arith;
  others = λ t ne. grind (arith, ne);
  loose = grind arith;
  left = refl;
  pending_same = refl;
  puts = refl;
  closing = refl;
  section = refl;
  defers = refl;
}

pub active_of : (h : Head) → emptied h ≡ Active [] → (es : List Entry) × (h ≡ Active es)
active_of Idle e = absurd (cc e)
active_of (Active es) e = (es, refl)
active_of Never e = absurd (cc e)
active_of Free e = absurd (cc e)

not_never : (h : Head) (again : Bool) → emptied h ≡ head_of again → is_never h ≡ false
not_never h true e = grind (arith, e)
not_never h false e = grind (arith, e)

-- with a list it counts it down
pub listed_fits : (n i s size w : ℕ) (f g : View) (m : State) (x : Extra) (es : List Entry) (again : Bool) (d : Emptied n i s f m x es again)
    → Idles i m x → s < n → f.heads s ≡ w → 3 < w → Fits n i g d.m2 (left_off f x i s) (counting_down s size w)
listed_fits n i s size w f g m x es again d r lt is more = record {
  rest = record {
    common = record {
      slot_lt = lt;
      taken = not_never (d.m2.head s) again d.head;
      outside = record { section = (let a = d.section in let b = r.outside.section in cc (a, b)); defers = (let a = d.defers in let b = r.outside.defers in cc (a, b)) };
      hand = grind (arith, is, more);
      pends = r.empty.pends;
      lefts = r.empty.lefts;
      put_first = r.empty.put_first;
    };
    popped = r.empty.popped;
    closing = (let a = d.closing in let b = r.empty.closing in cc (a, b));
    put = λ e. refl;
    put_last = (let a = d.puts in let b = r.empty.puts in rw (a, b) refl);
    batch = tt;
    tries = λ e. absurd (cc e);
  };
  once = refl;
  none_left = refl;
  none_pending = refl;
  some = more;
}

-- without one it has nothing in its hands
pub unlisted_fits : (n i s : ℕ) (f : View) (m : State) (x : Extra) (es : List Entry) (again : Bool) (d : Emptied n i s f m x es again)
    → Idles i m x → f.heads s ≡ 3 → Chain 3 f.links (f.heads s) (blocks_of es) → Idles i d.m2 (left_off f x i s)
unlisted_fits n i s f m x es again d r is chain = record {
  empty = record {
    loose = (let a = d.loose in let b = no_entries (f.heads s) f.links es is chain in cc (a, b));
    left = (let a = d.left in let b = r.empty.left in cc (a, b));
    pending = (let a = d.pending_same in let b = r.empty.pending in cc (a, b));
    puts = (let a = d.puts in let b = r.empty.puts in cc (a, b));
    closing = (let a = d.closing in let b = r.empty.closing in cc (a, b));
    hand = grind (arith, is);
    pends = r.empty.pends;
    lefts = r.empty.lefts;
    put_first = r.empty.put_first;
    popped = r.empty.popped;
  };
  outside = record { section = (let a = d.section in let b = r.outside.section in cc (a, b)); defers = (let a = d.defers in let b = r.outside.defers in cc (a, b)) };
}

-- an active slot that a row is alone on is used by nobody else
changing : (u : Use) (k : ℕ) (now : Bool) → is_shared u ≡ false → UseFits u (Active []) k now → u ≡ Changing
changing Vacant k now s f = absurd f
changing (Outside j) k now s f = absurd (cc s)
changing (Inside j) k now s f = absurd (cc s)
changing Changing k now s f = refl

taken_of : (again : Bool) → is_taken (head_of again) ≡ true
taken_of true = refl
taken_of false = refl

module _ {T : Type 0} {size : ℕ} (defers : T → Option ℕ) (n : ℕ) (w : World T) (good : Good defers n size w) (i : ℕ) where
  -- what the row goes on as: alone on its slot
  pub swap_went : (s becomes : ℕ) (frees : Bool) (r : Swaps n i good.state good.extra s becomes frees) (es : List Entry)
      (d : Emptied n i s (view defers w.memory) good.state good.extra es r.again) (row : Row)
      → works_on (w.row i) ≡ s + 1 → shares (w.row i) ≡ false → works_on row ≡ s + 1 → shares row ≡ false → ((t : ℕ) → tries_on (w.row i) t ≡ false)
      → FitsRow n i (record (view defers w.memory) { heads = put (view defers w.memory).heads s becomes }) d.m2 (left_off (view defers w.memory) good.extra i s) (length w.memory.slots) row
      → RowWent defers n size w good.state good.extra i (with_word w.memory (name.Slot s HEAD) becomes) row (Left s ∷ []) (with_at w.uses s (w.uses s))
  swap_went s becomes frees r es d row on mine on2 mine2 none fits =
      let m = good.state in
      let word = r.ends.word in
      let was = r.on.head in
      let use_is = changing (w.uses s) (length (good.used.team s)) (is_open s m.log) (let k = good.used.kinds i s on in cc (k, mine)) (rw was at (good.used.fits s)) in
      let log_is = d.logged in
      let others : (t : ℕ) → (t ≡ s → ⊥) → (emptied (d.m2.head t) ≡ emptied (m.head t)) × (is_open t d.m2.log ≡ is_open t m.log) =
      (λ t ne. (d.others t ne, rw log_is (left_other t ne))) in
      let h2 = d.head in
      head_went defers n w good i s becomes d.m2 (left_off (view defers w.memory) good.extra i s) row (Left s ∷ []) (with_at w.uses s (w.uses s))
      (head_there defers n w good i s r.on.slot_lt (not_never (m.head s) true was))
      d.moved (rw word d.written) d.pending d.logged fits
      (rw (d.life) (good.hands))
      (alone_goes i s m.head d.m2.head m.log d.m2.log w.row w.uses row (w.uses s) good.used others on mine on2 mine2 (rw use_is refl)
      (rw (use_is, h2) (taken_of r.again, refl)))
      (λ j t ne q e. absurd (no_other i s m.head d.m2.head m.log d.m2.log w.row w.uses row (w.uses s) good.used others on mine j ne (cc (q, e))))
      (room_heads n m.head d.m2.head w.memory (λ u e. never_before u (d.others u) e) good.room) none (ap retirals d.logged)
    where
      never_before : (u : ℕ) → ((u ≡ s → ⊥) → emptied (d.m2.head u) ≡ emptied (good.state.head u)) → is_never (d.m2.head u) ≡ false → is_never (good.state.head u) ≡ false
      never_before u h e = at (eqb u s) (eqb-true u s) (eqb-false u s)
        where
          at : (z : Bool) → (z ≡ true → u ≡ s) → (z ≡ false → u ≡ s → ⊥) → is_never (good.state.head u) ≡ false
          at true p q = subst (λ (a : ℕ). is_never (good.state.head a) ≡ false) (sym (p refl)) (not_never (good.state.head s) true r.on.head)
          at false p q = never_emptied (d.m2.head u) (good.state.head u) (h (q refl)) e

      left_other : (t : ℕ) → (t ≡ s → ⊥) → is_open t (Left s ∷ good.state.log) ≡ is_open t good.state.log
      left_other t ne = by (eqb t s) (eqb-true t s)
        where
          by : (z : Bool) → (z ≡ true → t ≡ s) → cond z false (is_open t good.state.log) ≡ is_open t good.state.log
          by true p = absurd (ne (p refl))
          by false p = refl

module _ {T : Type 0} {size : ℕ} (defers : T → Option ℕ) (n : ℕ) (w : World T) (good : Good defers n size w) (i : ℕ) (c : Leave) (is : w.row i ≡ Leaves c) (at : c.stands ≡ leaving.Swaps) where
  row_fits : Swaps n i good.state good.extra c.slot c.becomes c.frees
  row_fits =
      subst (λ (p : Leaving). FitsLeave n i (view defers w.memory) good.state good.extra c.slot c.becomes c.frees p) at
      (subst (λ (row : Row). FitsRow n i (view defers w.memory) good.state good.extra (length w.memory.slots) row) is (good.rows i))

  row_on : works_on (w.row i) ≡ c.slot + 1
  row_on = let a : works_on (w.row i) ≡ works_on (Leaves c) = ap works_on is in rw at at a

  -- the section ends, and what was on the list is to be counted down
  pub swaps_next : (mem2 : Mem T) (end : Leave × Settled T) (w2 : World T) → Steps Took value_at w.memory (swaps c) mem2 end
      → w2 ≡ with_use (after_step w i mem2 (Leaves end.0) (Left c.slot ∷ [])) c.slot (w.uses c.slot) → Next defers n size w good.state i w2
  unfolding swap_went head_went
  swaps_next mem2 end w2 s e =
      let d = swapped w.memory (list_taken c) (name.Slot c.slot HEAD) c.becomes mem2 end s in
      subst (λ (v : World T). Next defers n size w good.state i v) (sym e)
      (subst (λ (k : Mem T). Next defers n size w good.state i (with_use (after_step w i k (Leaves end.0) (Left c.slot ∷ [])) c.slot (w.uses c.slot))) (sym d.2)
      (ended d.0 (word_found w.memory (name.Slot c.slot HEAD) d.0 d.1)
      (ends_if (value_at (with_word w.memory (name.Slot c.slot HEAD) c.becomes)) (nat_lt ACTIVE d.0) _ _ end d.3)))
    where
      m : State
      m = good.state

      f : View
      f = view defers w.memory

      es : (l : List Entry) × (m.head c.slot ≡ Active l)
      es = active_of (m.head c.slot) row_fits.on.head

      nobody : (j : ℕ) → m.section j ≡ c.slot + 1 → ⊥
      nobody j h = at_j (eqb j i) (eqb-true j i) (eqb-false j i)
        where
          on_j : works_on (w.row j) ≡ c.slot + 1
          on_j = row_within n j (length w.memory.slots) c.slot f m good.extra good.inv h (w.row j) (good.rows j)

          at_j : (z : Bool) → (z ≡ true → j ≡ i) → (z ≡ false → j ≡ i → ⊥) → ⊥
          at_j true p q = let a = row_fits.on.idles.outside.section in let b = p refl in let k : m.section i ≡ c.slot + 1 = subst (λ (y : ℕ). m.section y ≡ c.slot + 1) b h in omega (arith, a, k)
          at_j false p q = no_other i c.slot m.head m.head m.log m.log w.row w.uses Rests (w.uses c.slot) good.used (λ t ne. (refl, refl)) row_on (ap shares is) j (q refl) on_j

      d : Emptied n i c.slot f m good.extra es.0 row_fits.again
      d = emptied_so n i c.slot f m good.extra es.0 row_fits.again good.inv good.shows es.1 row_fits.on.idles.empty.loose nobody

      after_swap : (row : Row) (p : Leaving) → row ≡ Leaves (standing c p) → IsBehindList c.slot p → works_on row ≡ c.slot + 1 → shares row ≡ false
          → FitsRow n i (record f { heads = put f.heads c.slot c.becomes }) d.m2 (left_off f good.extra i c.slot) (length w.memory.slots) row
          → Next defers n size w good.state i (with_use (after_step w i (with_word w.memory (name.Slot c.slot HEAD) c.becomes) row (Left c.slot ∷ [])) c.slot (w.uses c.slot))
      after_swap row p stands_so behind o k fits =
          next_after defers n w good i (with_word w.memory (name.Slot c.slot HEAD) c.becomes) row (Left c.slot ∷ []) (with_at w.uses c.slot (w.uses c.slot))
          (swap_went defers n w good i c.slot c.becomes c.frees row_fits es.0 d row row_on (ap shares is) o k (λ t. ap (λ (r : Row). tries_on r t) is ∙ ap (λ (p : Leaving). leave_tries p t) at) fits)
          (LeaveSwaps c row_fits.again es.0 p is stands_so at row_fits.on.slot_lt row_fits.ends.word es.1 d.move behind)

      head_kept : emptied (d.m2.head c.slot) ≡ head_of row_fits.again
      head_kept = d.head

      counted_row : (t : Bool) → c.frees ≡ t → Idles i d.m2 (left_off f good.extra i c.slot)
          → Next defers n size w good.state i (with_use (after_step w i (with_word w.memory (name.Slot c.slot HEAD) c.becomes) (Leaves (if t then standing c leaving.Frees else standing c leaving.Over)) (Left c.slot ∷ [])) c.slot (w.uses c.slot))
      counted_row true e r = after_swap (Leaves (standing c leaving.Frees)) leaving.Frees refl tt refl refl
          (record { on = record { idles = r; slot_lt = row_fits.on.slot_lt; head = idle (row_fits.again) refl }; ends = record { word = word (row_fits.again) refl; stays = λ z. absurd (cc z) }; really = e })
        where
          idle : (a : Bool) → row_fits.again ≡ a → emptied (d.m2.head c.slot) ≡ Idle
          idle true z = absurd (let k = row_fits.ends.stays z in cc (k, e))
          idle false z = head_kept ∙ ap head_of z

          word : (a : Bool) → row_fits.again ≡ a → c.becomes ≡ 2
          word true z = absurd (let k = row_fits.ends.stays z in cc (k, e))
          word false z = row_fits.ends.word ∙ ap word_of z
      counted_row false e r = after_swap (Leaves (standing c leaving.Over)) leaving.Over refl tt (ap (λ t. cond t 0 (c.slot + 1)) e) refl
          (subst (λ (t : Bool). OverIs t n i d.m2 (left_off f good.extra i c.slot) c.slot c.becomes) (sym e)
          (row_fits.again, row_fits.ends.word, record { idles = r; slot_lt = row_fits.on.slot_lt; head = head_kept }))

      ended : (v : ℕ) → f.heads c.slot ≡ v
          → ((nat_lt ACTIVE v ≡ true) × (end ≡ (standing c (leaving.Settles (counting_down c.slot c.batch_size v)), Goes))) ⊎ ((nat_lt ACTIVE v ≡ false) × (end ≡ (counted_down c, Goes)))
          → Next defers n size w good.state i (with_use (after_step w i (with_word w.memory (name.Slot c.slot HEAD) c.becomes) (Leaves end.0) (Left c.slot ∷ [])) c.slot (w.uses c.slot))
      ended v h (inl (more, e)) =
          let big : 3 < v = grind (arith, more) in
          subst (λ (o : Leave × Settled T). Next defers n size w good.state i (with_use (after_step w i (with_word w.memory (name.Slot c.slot HEAD) c.becomes) (Leaves o.0) (Left c.slot ∷ [])) c.slot (w.uses c.slot))) (sym e)
          (after_swap (Leaves (standing c (leaving.Settles (counting_down c.slot c.batch_size v)))) (leaving.Settles (counting_down c.slot c.batch_size v)) refl (refl, refl) refl refl
          (record {
            slot_is = refl;
            slot_lt = row_fits.on.slot_lt;
            again = row_fits.again;
            ends = row_fits.ends;
            head = head_kept;
            settles = listed_fits n i c.slot c.batch_size v f (record f { heads = put f.heads c.slot c.becomes }) m good.extra es.0 row_fits.again d row_fits.on.idles row_fits.on.slot_lt h big;
          }))
      ended v h (inr (less, e)) =
          let small : v ≤ 3 = grind (arith, less) in
          let least = active_head n c.slot es.0 f m good.extra good.shows es.1 in
          let three : f.heads c.slot ≡ 3 = omega (arith, h, small, least) in
          let empty = unlisted_fits n i c.slot f m good.extra es.0 row_fits.again d row_fits.on.idles three (rw (es.1) at (good.shows.entries.headed c.slot)) in
          subst (λ (o : Leave × Settled T). Next defers n size w good.state i (with_use (after_step w i (with_word w.memory (name.Slot c.slot HEAD) c.becomes) (Leaves o.0) (Left c.slot ∷ [])) c.slot (w.uses c.slot))) (sym e)
          (counted_row c.frees refl empty)

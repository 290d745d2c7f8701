-- Steps of rows by which a slot is entered and given up.
use Rattle.std.specs.Prelude.{Option, Some, IsSome, ◌++◌, slice_set, slice_index_or}
use Rattle.std.proofs.Common.{◌≡◌, ℕ, ◌+◌, ◌<◌, false, List, [], ◌∷◌, length, refl, arith, subst, sym, ap}
use Rattle.std.proofs.lemmas.List.{length-set}
use Rattle.seize_moves.specs.Given.SeizeWordsDeclared.at.At.{At}
use Rattle.seize_moves.specs.Given.SeizeWordsDeclared.at.At.TheVariants as at
use Rattle.seize_moves.specs.Given.SeizeWordsMem.{Mem, value_at, word_at, with_word, Can, Took}
use Rattle.seize_moves.specs.Given.SeizeWordsPlan.{May, Steps, Now}
use Rattle.seize_moves.proofs.Given.SeizeWordsOneOwner.Operations.{stored, may_store}
use Rattle.seize_moves.specs.Given.SeizeDeclared.states.TheConstants.{HEAD, ACTIVE, FREE}
use Rattle.seize_moves.specs.Given.SeizeDeclared.advance.Advance.{Advance}
use Rattle.seize_moves.specs.Given.SeizeDeclared.advance.Advance.TheVariants.{Done}
use Rattle.seize_moves.specs.Given.SeizeDeclared.rows.enter.Enter.{Enter}
use Rattle.seize_moves.specs.Given.SeizeDeclared.rows.enter.Unregister.{Unregister}
use Rattle.seize_moves.specs.Given.SeizeEnter.{enter_plan, unregister_plan}
use Rattle.seize_moves.specs.Given.SeizeLaw.{Effect, Entered, is_open}
use Rattle.seize_moves.specs.Given.SeizeWorld.{World, Row, Rests, Enters, Frees, Use, Vacant, Inside, with_at, with_use, after_step, handed_by}
use Rattle.seize_moves.proofs.Moves.State.Ghost.{put, Head, Free, Idle, State, emptied, is_never}
use Rattle.seize_moves.proofs.Moves.State.Rule.{Moved, Pending, retirals}
use Rattle.seize_moves.proofs.Moves.State.Moves
use Rattle.seize_moves.proofs.Moves.Moves.Slots.{entered_moves, freed_moves}
use Rattle.seize_moves.proofs.Memory.Words.Named.{wrote}
use Rattle.seize_moves.proofs.Memory.Words.View.{View, view, view_head, list_in}
use Rattle.seize_moves.proofs.Memory.Words.Shows.{Extra, Written}
use Rattle.seize_moves.proofs.Memory.Written.Heads.{entered_written, freed_written}
use Rattle.seize_rule.proofs.Points.Aside.{AllHands}
use Rattle.seize_rule.proofs.Rows.Known.{works_on, Idles, OnSlot, FitsRow}
use Rattle.seize_rule.proofs.Rows.Teams.{Used, shares, alone_ends, no_other}
use Rattle.seize_moves.proofs.Memory.Words.There.{Stocked, stocked_written}
use Rattle.seize_moves.proofs.Memory.Words.Room.{HasRoom, slot_there, room_heads, room_written}
use Rattle.seize_rule.proofs.Rows.Short.{tries_on, still_short}
use Rattle.seize_moves.proofs.Moves.Sets.Unmoved.{freed_unmoved}
use Rattle.seize_rule.proofs.Rows.Told.{EntersSlot, FreesSlot}
use Rattle.seize_rule.proofs.World.Good.{Good, Stays, RowWent, Next, next_after}

-- a head without a list is what it is without its list
pub idle_head : (h : Head) → emptied h ≡ Idle → h ≡ Idle
idle_head h e = grind arith

-- nothing that a row without anything in its hands knows is of slots
pub idles_after : (i : ℕ) (m m2 : State) (x : Extra) → Idles i m x
    → m2.loose i ≡ m.loose i → m2.left i ≡ m.left i → m2.pending i ≡ m.pending i → m2.puts i ≡ m.puts i → m2.closing i ≡ m.closing i
    → m2.section i ≡ m.section i → m2.defers i ≡ m.defers i → Idles i m2 x
idles_after i m m2 x r loose left pending puts closing section defers = record {
  empty = record {
    loose = cc (loose, r.empty.loose);
    left = cc (left, r.empty.left);
    pending = cc (pending, r.empty.pending);
    puts = cc (puts, r.empty.puts);
    closing = cc (closing, r.empty.closing);
    hand = r.empty.hand;
    pends = r.empty.pends;
    lefts = r.empty.lefts;
    put_first = r.empty.put_first;
    popped = r.empty.popped;
  };
  outside = record { section = cc (section, r.outside.section); defers = cc (defers, r.outside.defers) };
}

module _ {T : Type 0} (defers : T → Option ℕ) where
  pub slots_length : (mem : Mem T) (name : At) (v : ℕ) → length (with_word mem name v).slots ≡ length mem.slots
  slots_length mem (at.Root r) v = refl
  slots_length mem (at.Used r) v = refl
  slots_length mem (at.Slot s i) v = length-set mem.slots s (slice_set (slice_index_or mem.slots s []) i v)
  slots_length mem (at.Entry b i) v = refl
  slots_length mem (at.Word b i) v = refl

  -- a word is written that was there
  pub stays_written : (mem : Mem T) (name : At) (v : ℕ) → IsSome (word_at mem name) → Stocked defers mem → Stays defers mem (with_word mem name v)
  stays_written mem name v some st = record {
    stocked = stocked_written defers mem name v (with_word mem name v) (wrote mem name v some) st;
    lists = λ c d h k. subst (λ (values : ℕ → Option T). list_in defers (values c) ≡ Some d) (sym (wrote mem name v some).values) h;
    more = let e = slots_length mem name v in omega (arith, e);
  }

  pub stays_same : (mem : Mem T) → Stocked defers mem → Stays defers mem mem
  stays_same mem st = record { stocked = st; lists = λ c d h k. h; more = omega arith }

module _ {T : Type 0} {size : ℕ} (defers : T → Option ℕ) (n : ℕ) (w : World T) (good : Good defers n size w) (i : ℕ) where
  -- the slot's head is written
  unfoldable pub head_went : (s v : ℕ) (m2 : State) (x2 : Extra) (row : Row) (effects : List Effect) (uses2 : ℕ → Use) → IsSome (word_at w.memory (at.Slot s HEAD))
      → Moved n i s good.state m2 → Written n i (view defers w.memory) good.state good.extra (record (view defers w.memory) { heads = put (view defers w.memory).heads s v }) m2 x2
      → (Pending good.state.stage good.state.counter → Pending m2.stage m2.counter) → m2.log ≡ effects ++ good.state.log
      → FitsRow n i (record (view defers w.memory) { heads = put (view defers w.memory).heads s v }) m2 x2 (length w.memory.slots) row
      → AllHands (handed_by effects w.hand) m2.life → Used m2.head m2.log (with_at w.row i row) uses2
      → ((j t : ℕ) → (j ≡ i → ⊥) → works_on (w.row j) ≡ t + 1 → t ≡ s → emptied (m2.head t) ≡ emptied (good.state.head t))
      → HasRoom n m2.head w.memory → ((t : ℕ) → tries_on (w.row i) t ≡ false) → retirals m2.log ≡ retirals good.state.log
      → RowWent defers n size w good.state good.extra i (with_word w.memory (at.Slot s HEAD) v) row effects uses2
  head_went s v m2 x2 row effects uses2 some moved written pending logged fits hands used alone room none same =
      let seen = view_head defers w.memory s v (with_word w.memory (at.Slot s HEAD) v) (wrote w.memory (at.Slot s HEAD) v some) in
      record {
        slot = s;
        m2 = m2;
        x2 = x2;
        moved = moved;
        written = subst (λ (g : View). Written n i (view defers w.memory) good.state good.extra g m2 x2) (sym seen) written;
        pending = pending;
        logged = logged;
        fits = subst (λ (g : View). FitsRow n i g m2 x2 (length (with_word w.memory (at.Slot s HEAD) v).slots) row) (sym seen)
            (subst (λ (k : ℕ). FitsRow n i (record (view defers w.memory) { heads = put (view defers w.memory).heads s v }) m2 x2 k row)
            (sym (slots_length defers w.memory (at.Slot s HEAD) v)) fits);
        hands = hands;
        used = used;
        alone = alone;
        room = room_written n m2.head w.memory (at.Slot s HEAD) v some room;
        stays = stays_written defers w.memory (at.Slot s HEAD) v some good.stocked;
        short = still_short n i s size good.state m2 (w.row i) row moved.keeps same none;
      }

  -- the head of a slot ever taken is there
  pub head_there : (s : ℕ) → s < n → is_never (good.state.head s) ≡ false → IsSome (word_at w.memory (at.Slot s HEAD))
  head_there s l taken = slot_there w.memory s HEAD good.room.bucketed (good.room.enough s s taken (omega arith) l) (omega arith)

  idle_there : (s : ℕ) → OnSlot n i good.state good.extra s Idle → IsSome (word_at w.memory (at.Slot s HEAD))
  idle_there s r = head_there s r.slot_lt (let h = idle_head (good.state.head s) r.head in grind (arith, h))

  -- a section begins
  enters_went : (c : Enter) → w.row i ≡ Enters c
      → RowWent defers n size w good.state good.extra i (with_word w.memory (at.Slot c.slot HEAD) ACTIVE) Rests (Entered c.slot ∷ []) (with_at w.uses c.slot (Inside 0))
  enters_went c is =
      let m = good.state in
      let s = c.slot in
      let r : OnSlot n i m good.extra s Idle = subst (λ (row : Row). FitsRow n i (view defers w.memory) m good.extra (length w.memory.slots) row) is (good.rows i) in
      let h = idle_head (m.head s) r.head in
      let m2 = Moves.entered m s in
      let on : works_on (w.row i) ≡ s + 1 = ap works_on is in
      let mine : shares (w.row i) ≡ false = ap shares is in
      let others : (t : ℕ) → (t ≡ s → ⊥) → (emptied (m2.head t) ≡ emptied (m.head t)) × (is_open t m2.log ≡ is_open t m.log) = (λ t ne. (grind (arith, ne), grind (arith, ne))) in
      head_went s ACTIVE m2 good.extra Rests (Entered s ∷ []) (with_at w.uses s (Inside 0)) (idle_there s r)
      (entered_moves n i s m good.inv h) (entered_written n i s (view defers w.memory) m good.extra good.shows (rw h refl)) (λ p. p) refl
      (idles_after i m m2 good.extra r.idles refl refl refl refl refl refl refl)
      good.hands
      (alone_ends i s m.head m2.head m.log m2.log w.row w.uses Rests (Inside 0) good.used others on mine refl (grind arith, refl, grind arith))
      (λ j t ne q e. absurd (no_other i s m.head m2.head m.log m2.log w.row w.uses Rests (Inside 0) good.used others on mine j ne (cc (q, e))))
      (room_heads n m.head m2.head w.memory (λ u e. grind (arith, h, e)) good.room) (λ t. ap (λ (r : Row). tries_on r t) is) refl

  pub enters_next : (c : Enter) (w2 : World T) → w.row i ≡ Enters c
      → (mem2 : Mem T) × (end : Enter × Advance Unit) × Steps Took value_at w.memory (enter_plan c) mem2 end × (w2 ≡ with_use (after_step w i mem2 Rests (Entered c.slot ∷ [])) c.slot (Inside 0))
      → Next defers n size w good.state i w2
  unfolding head_went enters_went
  enters_next c w2 is s =
      let d = stored w.memory (λ out. Now (c, Done tt)) (at.Slot c.slot HEAD) ACTIVE s.0 s.1 s.2 in
      let r : OnSlot n i good.state good.extra c.slot Idle = subst (λ (row : Row). FitsRow n i (view defers w.memory) good.state good.extra (length w.memory.slots) row) is (good.rows i) in
      let g = next_after defers n w good i (with_word w.memory (at.Slot c.slot HEAD) ACTIVE) Rests (Entered c.slot ∷ []) (with_at w.uses c.slot (Inside 0)) (enters_went c is)
      (EntersSlot c is refl r.slot_lt (idle_head (good.state.head c.slot) r.head) refl) in
      subst (λ (v : World T). Next defers n size w good.state i v) (sym s.3)
      (subst (λ (k : Mem T). Next defers n size w good.state i (with_use (after_step w i k Rests (Entered c.slot ∷ [])) c.slot (Inside 0))) (sym d.0) g)

  pub enters_may : (c : Enter) → w.row i ≡ Enters c → May Can Took value_at w.memory (enter_plan c)
  enters_may c is =
      let r : OnSlot n i good.state good.extra c.slot Idle = subst (λ (row : Row). FitsRow n i (view defers w.memory) good.state good.extra (length w.memory.slots) row) is (good.rows i) in
      may_store {R = Enter × Advance Unit} w.memory (λ out. Now (c, Done tt)) (at.Slot c.slot HEAD) ACTIVE (idle_there c.slot r) tt

  -- the slot is given up
  frees_went : (c : Unregister) → w.row i ≡ Frees c
      → RowWent defers n size w good.state good.extra i (with_word w.memory (at.Slot c.slot HEAD) FREE) Rests [] (with_at w.uses c.slot Vacant)
  frees_went c is =
      let m = good.state in
      let s = c.slot in
      let r : OnSlot n i m good.extra s Idle = subst (λ (row : Row). FitsRow n i (view defers w.memory) m good.extra (length w.memory.slots) row) is (good.rows i) in
      let h = idle_head (m.head s) r.head in
      let m2 = Moves.freed m s in
      let on : works_on (w.row i) ≡ s + 1 = ap works_on is in
      let mine : shares (w.row i) ≡ false = ap shares is in
      let others : (t : ℕ) → (t ≡ s → ⊥) → (emptied (m2.head t) ≡ emptied (m.head t)) × (is_open t m2.log ≡ is_open t m.log) = (λ t ne. (grind (arith, ne), refl)) in
      let free : emptied (m2.head s) ≡ Free = grind arith in
      head_went s FREE m2 good.extra Rests [] (with_at w.uses s Vacant) (idle_there s r)
      (freed_moves n i s m good.inv h) (freed_written n i s (view defers w.memory) m good.extra good.shows (rw h refl)) (λ p. p) refl
      (idles_after i m m2 good.extra r.idles refl refl refl refl refl refl refl)
      good.hands
      (alone_ends i s m.head m2.head m.log m2.log w.row w.uses Rests Vacant good.used others on mine refl (rw free refl))
      (λ j t ne q e. absurd (no_other i s m.head m2.head m.log m2.log w.row w.uses Rests Vacant good.used others on mine j ne (cc (q, e))))
      (room_heads n m.head m2.head w.memory (λ u e. grind (arith, h, e)) good.room) (λ t. ap (λ (r : Row). tries_on r t) is) refl

  pub frees_next : (c : Unregister) (w2 : World T) → w.row i ≡ Frees c
      → (mem2 : Mem T) × (end : Unregister × Advance Unit) × Steps Took value_at w.memory (unregister_plan c) mem2 end × (w2 ≡ with_use (after_step w i mem2 Rests []) c.slot Vacant)
      → Next defers n size w good.state i w2
  unfolding head_went frees_went
  frees_next c w2 is s =
      let d = stored w.memory (λ out. Now (c, Done tt)) (at.Slot c.slot HEAD) FREE s.0 s.1 s.2 in
      let r : OnSlot n i good.state good.extra c.slot Idle = subst (λ (row : Row). FitsRow n i (view defers w.memory) good.state good.extra (length w.memory.slots) row) is (good.rows i) in
      let g = next_after defers n w good i (with_word w.memory (at.Slot c.slot HEAD) FREE) Rests [] (with_at w.uses c.slot Vacant) (frees_went c is)
      (FreesSlot c is refl (freed_unmoved n c.slot good.state (let h = idle_head (good.state.head c.slot) r.head in rw h refl))) in
      subst (λ (v : World T). Next defers n size w good.state i v) (sym s.3)
      (subst (λ (k : Mem T). Next defers n size w good.state i (with_use (after_step w i k Rests []) c.slot Vacant)) (sym d.0) g)

  pub frees_may : (c : Unregister) → w.row i ≡ Frees c → May Can Took value_at w.memory (unregister_plan c)
  frees_may c is =
      let r : OnSlot n i good.state good.extra c.slot Idle = subst (λ (row : Row). FitsRow n i (view defers w.memory) good.state good.extra (length w.memory.slots) row) is (good.rows i) in
      may_store {R = Unregister × Advance Unit} w.memory (λ out. Now (c, Done tt)) (at.Slot c.slot HEAD) FREE (idle_there c.slot r) tt

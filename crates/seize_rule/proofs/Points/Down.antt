-- The point at which a row counts an entry down, and has the batch to reclaim where its counter was 1.
use Rattle.std.specs.Prelude.{if◌then◌else◌, ◌==◌, ◌/◌, ◌%◌, ◌^◌, ◌-◌, Option, IsSome, List, [], ◌∷◌}
use Rattle.std.proofs.Common.{◌≡◌, ℕ, ◌+◌, ◌<◌, ◌≤◌, Bool, true, false, cond, eqb, refl, arith, eqb-true, sym, subst, ◌∙◌, ap}
use Rattle.std.proofs.lemmas.Bool.{eqb-false}
use Rattle.seize_moves.specs.Given.SeizeWordsDeclared.at.At.TheVariants.{Entry}
use Rattle.seize_moves.specs.Given.SeizeWordsMem.{Mem, Took, value_at, word_at, with_word}
use Rattle.seize_moves.specs.Given.SeizeWordsPlan.{Steps, Ends, Now}
use Rattle.seize_moves.proofs.Given.SeizeWordsOneOwner.Operations.{added}
use Rattle.seize_moves.specs.Given.SeizeDeclared.states.TheConstants.{COUNT}
use Rattle.seize_moves.specs.Given.SeizeDeclared.rows.settle.Settle.{Settle}
use Rattle.seize_moves.specs.Given.SeizeDeclared.rows.settle.Settled.{Settled}
use Rattle.seize_moves.specs.Given.SeizeDeclared.rows.settle.Settled.TheVariants.{Goes}
use Rattle.seize_moves.specs.Given.SeizeSettle.{onward, counted_down, downs}
use Rattle.seize_moves.specs.Waiting.Held.{count}
use Rattle.seize_moves.proofs.Moves.State.Ghost.{State, put, is_in, counts, owes, was_put, total, Stage, Unused, Open, Closing, Closed, Dead, Life, IsIn, Loose, Debt}
use Rattle.seize_moves.proofs.Moves.State.Ghost as Ghosts
use Rattle.seize_moves.proofs.Moves.State.Rule.{Inv, IsLive, SameUnlessDead, SeenIs, AtStage, Pending}
use Rattle.seize_moves.proofs.Moves.State.Moves.{counted, gives_up}
use Rattle.seize_moves.proofs.Moves.Moves.Pushes.{counted_moves, first_loose, closed_at_zero}
use Rattle.seize_moves.proofs.Moves.State.Sums.{total_le, put_parts, put_le}
use Rattle.seize_moves.proofs.Moves.Moves.AtZero.{counted_gives_up, counted_gives_up_pending}
use Rattle.seize_moves.proofs.Memory.Words.Named.{link, link-block, wrote, words_of, word_found}
use Rattle.seize_moves.proofs.Memory.Words.Chains.{Chain, first_or, blocks_of}
use Rattle.seize_moves.proofs.Memory.Words.View.{View, view, view_count}
use Rattle.seize_moves.proofs.Memory.Words.Shows.{Spot, Nowhere, InHands, Extra, Shows, FirstIs, CountIs, DrainedIs, has_first}
use Rattle.seize_moves.proofs.Memory.Written.Counts.{in_hands, shut_loose, is_shut, counted_off, counted_written}
use Rattle.seize_moves.proofs.Memory.Written.Close.{first_in}
use Rattle.seize_moves.proofs.Memory.Written.Dooms.{given_up, gives_up_written}
use Rattle.seize_rule.proofs.Points.Aside.{aside_same, aside_then, aside_gives_up}
use Rattle.seize_rule.proofs.Points.Known.{AllFresh, Downs, bare, list_word}
use Rattle.seize_rule.proofs.Points.Told.{Plain, NoneLeft, onward_part}
use Rattle.seize_rule.proofs.Points.Told as tells
use Rattle.seize_rule.proofs.Points.NothingLeft.{none_left, none_pending}
use Rattle.seize_rule.proofs.Points.Stepped.{Stepped, HasWords, Went, went_written}
use Rattle.seize_rule.proofs.Points.Writes.{keeps_then}
use Rattle.seize_rule.proofs.Points.Onwards.{may_hold_on, onward_fits, onward_slot}
use Rattle.seize_rule.proofs.Points.Lists.{loose_lives}
use Rattle.seize_rule.proofs.Points.May.{shut_live as live_shut}

-- the batch of a loose entry has a first block, which the entry's block names
first_of_batch : (n i : ℕ) (f : View) (m : State) (x : Extra) (e : Ghosts.Entry) (es : List Ghosts.Entry) → Inv n m → Shows n f m x → m.loose i ≡ e ∷ es
    → (c : ℕ) × (l : List ℕ) × (m.blocks e.batch ≡ c ∷ l) × (f.firsts e.block ≡ link c)
first_of_batch n i f m x e es inv v is =
    one (m.stage e.batch) (m.blocks e.batch) refl (m.life e.block) (live_shut (m.stage e.batch) (shut_loose n i e es m inv is)) (loose_lives n i f m x e es v is).0
    (inv.places.boxed e.batch e.block) (v.linkage.first e.block)
  where
    one : (g : Stage) (bs : List ℕ) → m.blocks e.batch ≡ bs → (y : Life) → IsLive g ≡ true → y ≡ IsIn e.batch → SameUnlessDead g (count e.block bs) (is_in e.batch y)
        → FirstIs (f.firsts e.block) m.blocks y → (c : ℕ) × (l : List ℕ) × (m.blocks e.batch ≡ c ∷ l) × (f.firsts e.block ≡ link c)
    one g [] q y live k s h = absurd (none g y live k s)
      where
        none : (g : Stage) (y : Life) → IsLive g ≡ true → y ≡ IsIn e.batch → SameUnlessDead g 0 (is_in e.batch y) → ⊥
        none g y live k s = grind arith
    one g (c ∷ l) q y live k s h = (c, l, q, first y k h)
      where
        first : (y : Life) → y ≡ IsIn e.batch → FirstIs (f.firsts e.block) m.blocks y → f.firsts e.block ≡ link c
        first y k h = let w : f.firsts e.block ≡ first_or 0 (m.blocks e.batch) = rw k at h in cc (w, ap (first_or 0) q)

-- a counter that was not 1 is not 0 after it
still_some : (n i : ℕ) (m : State) (e : Ghosts.Entry) → n < 2 ^ 64 → Inv n m → is_shut (m.stage e.batch) ≡ true → m.debt e.batch (m.from i) ≡ Loose i
    → (m.counter e.batch ≡ 1 → ⊥) → 0 < (m.counter e.batch + (2 ^ 64 - 1)) % 2 ^ 64
still_some n i m e small inv shut hd other = one (m.stage e.batch) shut (inv.batches.tally e.batch)
  where
    inside : (t k : ℕ) (d : Debt) → d ≡ Loose i → SeenIs d t k → k ≤ n → t < n
    inside t k d e h l = grind arith

    owed : 0 < total owes (m.debt e.batch) n
    owed =
        let low = inside (m.from i) (m.seen e.batch) (m.debt e.batch (m.from i)) hd (inv.debts.scanned e.batch (m.from i)) (inv.debts.seen_le e.batch) in
        rw hd at (total_le owes (m.debt e.batch) n (m.from i) low)

    closed_some : (c o k w : ℕ) → c ≡ o → 0 < o → w ≡ o + k → w ≤ n → (c ≡ 1 → ⊥) → 0 < (c + (2 ^ 64 - 1)) % 2 ^ 64
    closed_some c o k w e p h l ne = omega (arith, small)

    closing_some : (c o k w : ℕ) → (c + k) % 2 ^ 64 ≡ 0 → 0 < o → w ≡ o + k → w ≤ n → 0 < (c + (2 ^ 64 - 1)) % 2 ^ 64
    closing_some c o k w e p h l = omega (arith, small)

    one : (g : Stage) → is_shut g ≡ true → AtStage n g (m.counter e.batch) (m.debt e.batch) (m.seen e.batch) (m.todo e.batch) → 0 < (m.counter e.batch + (2 ^ 64 - 1)) % 2 ^ 64
    one Unused s t = absurd (cc s)
    one (Open u) s t = absurd (cc s)
    one (Closing j) s t =
        closing_some (m.counter e.batch) (total owes (m.debt e.batch) n) (total counts (m.debt e.batch) n) (total was_put (m.debt e.batch) n) t.0 owed
        (put_parts (m.debt e.batch) n) (put_le (m.debt e.batch) n)
    one Closed s t =
        closed_some (m.counter e.batch) (total owes (m.debt e.batch) n) (total counts (m.debt e.batch) n) (total was_put (m.debt e.batch) n) t.0 owed
        (put_parts (m.debt e.batch) n) (put_le (m.debt e.batch) n) other
    one Dead s t = absurd (cc s)

still_pending : (n i : ℕ) (m : State) (e : Ghosts.Entry) (es : List Ghosts.Entry) → 0 < (m.counter e.batch + (2 ^ 64 - 1)) % 2 ^ 64
    → Pending m.stage m.counter → Pending (counted m i e es).stage (counted m i e es).counter
still_pending n i m e es some p y cl = at (eqb y e.batch)
  where
    at : (t : Bool) → 0 < cond t ((m.counter e.batch + (2 ^ 64 - 1)) % 2 ^ 64) (m.counter y)
    at false = p y cl
    at true = some

-- a list's word is of its first block, or says that none is left
pub word_of_list : (links : ℕ → ℕ) (w : ℕ) (l : List ℕ) → Chain 3 links w l → list_word w ≡ w
word_of_list links w [] k = grind arith
word_of_list links w (c ∷ l) k = let p = k.0 in let q = k.1 in one (omega arith)
  where
    one : 3 < w → list_word w ≡ w
    one h = grind arith

-- what the row knows with the list behind the first entry
module _ (n i : ℕ) (f : View) (m : State) (x : Extra) (c : Settle) (next batch : ℕ) (r : Downs n i f m x (bare c) next batch) where
  abbrev entry : Ghosts.Entry
  entry = r.owns.e

  put_none : c.put_first ≡ 0
  put_none = r.owns.lists.rest.put r.owns.lists.none_left

  list_behind : Shows n f m x → list_word next ≡ next
  list_behind v = let k = (rw r.owns.loose at (v.entries.loosed i)).2 in rw (r.owns.next_is) at (word_of_list f.links (f.links entry.block) (blocks_of r.owns.es) k)

  -- its word of the counter
  counter_word : Inv n m → Shows n f m x → (b : ℕ) (l : List ℕ) → m.blocks entry.batch ≡ b ∷ l → f.counts b ≡ m.counter entry.batch
  counter_word inv v b l is = at (m.stage entry.batch) (m.blocks entry.batch) (shut_loose n i entry r.owns.es m inv r.owns.loose) is (v.linkage.counted entry.batch)
    where
      at : (g : Stage) (bs : List ℕ) → is_shut g ≡ true → bs ≡ b ∷ l → CountIs f.counts g (m.counter entry.batch) bs → f.counts b ≡ m.counter entry.batch
      at g bs shut e h = grind arith

  debt_loose : Inv n m → m.debt entry.batch (m.from i) ≡ Loose i
  debt_loose inv = (first_loose m.loose m.from m.debt i entry r.owns.es inv.debts.loosed r.owns.loose).0

  some_counted : n < 2 ^ 64 → Inv n m → (m.counter entry.batch ≡ 1 → ⊥) → 0 < (m.counter entry.batch + (2 ^ 64 - 1)) % 2 ^ 64
  some_counted small inv other = still_some n i m entry small inv (shut_loose n i entry r.owns.es m inv r.owns.loose) (debt_loose inv) other

  nothing_left : Shows n f m x → NoneLeft i m
  nothing_left v =
      none_left n i f m x v (cc (r.owns.lists.rest.common.lefts, r.owns.lists.none_left)) (cc (r.owns.lists.rest.common.put_first, put_none))

  nothing_pending : Shows n f m x → m.pending i ≡ []
  nothing_pending v =
      let q = r.owns.lists.rest in
      none_pending n i f m x v c.slot c.list c.pending c.reclaiming c.put_first q.common q.popped r.owns.lists.none_pending

  -- it was not the last entry
  counted_stepped : n < 2 ^ 64 → Inv n m → Shows n f m x → (b : ℕ) (l : List ℕ) → m.blocks entry.batch ≡ b ∷ l → (m.counter entry.batch ≡ 1 → ⊥)
      → Stepped n i c Plain f m x (record f { counts = put f.counts b ((f.counts b + (2 ^ 64 - 1)) % 2 ^ 64) }) [] (onward (record c { list = next }))
  counted_stepped small inv v b l is other = record {
    m2 = counted m i entry r.owns.es;
    x2 = counted_off f x i entry;
    moved = counted_moves n i c.slot m entry r.owns.es small inv r.owns.loose (debt_loose inv);
    written = counted_written n i b l entry r.owns.es f m x inv v r.owns.loose is;
    pending = still_pending n i m entry r.owns.es (some_counted small inv other);
    logged = refl;
    aside = aside_same m (counted m i entry r.owns.es) refl refl;
    fits = onward_fits n i _ (counted m i entry r.owns.es) (counted_off f x i entry) (record c { list = next })
        (record {
          common = record {
            slot_lt = r.owns.lists.rest.common.slot_lt;
            taken = r.owns.lists.rest.common.taken;
            outside = record { section = r.owns.lists.rest.common.outside.section; defers = r.owns.lists.rest.common.outside.defers };
            hand = grind (arith, r.owns.next_is, list_behind v);
            pends = r.owns.lists.rest.common.pends;
            lefts = r.owns.lists.rest.common.lefts;
            put_first = r.owns.lists.rest.common.put_first;
          };
          popped = r.owns.lists.rest.popped;
          closing = r.owns.lists.rest.closing;
          put = r.owns.lists.rest.put;
          put_last = r.owns.lists.rest.put_last;
          batch = may_hold_on i m x c c.held (counted m i entry r.owns.es) (counted_off f x i entry) (record c { list = next }) refl refl refl refl refl refl refl refl r.owns.lists.rest.batch;
          tries = λ e. absurd (cc (e, r.owns.lists.once));
        })
        (λ ne. absurd (ne r.owns.lists.none_left));
    slot_is = onward_slot (record c { list = next });
    told = tells.Counts entry r.owns.es r.owns.loose (debt_loose inv) (some_counted small inv other)
        refl refl (onward_part (record c { list = next }) r.owns.lists.once) (nothing_left v) (nothing_pending v) r.owns.lists.rest.closing;
  }

  abbrev ended : State
  ended = gives_up (counted m i entry r.owns.es) i entry.batch

  abbrev ended_extra : Extra
  ended_extra = given_up (counted m i entry r.owns.es) (counted_off f x i entry) i entry.batch

  -- no list of its blocks was taken over yet
  batch_fresh : Inv n m → Shows n f m x → AllFresh x.drained (m.blocks entry.batch)
  batch_fresh inv v a some = one (m.stage entry.batch) (m.life a) (x.drained a) (live_shut (m.stage entry.batch) (shut_loose n i entry r.owns.es m inv r.owns.loose))
      (inv.places.boxed entry.batch a) (v.lists.drains a)
    where
      one : (g : Stage) (y : Life) (d : Bool) → IsLive g ≡ true → SameUnlessDead g (count a (m.blocks entry.batch)) (is_in entry.batch y) → DrainedIs y d → d ≡ false
      one g y d live k h = let p : 0 < is_in entry.batch y = same g live k in grind arith
        where
          same : (g : Stage) → IsLive g ≡ true → SameUnlessDead g (count a (m.blocks entry.batch)) (is_in entry.batch y) → 0 < is_in entry.batch y
          same g live k = grind (arith, some)

  -- it was: the batch is to be reclaimed
  ended_stepped : n < 2 ^ 64 → Inv n m → Shows n f m x → (b : ℕ) (l : List ℕ) → m.blocks entry.batch ≡ b ∷ l → batch ≡ link b → m.counter entry.batch ≡ 1
      → Stepped n i c Plain f m x (record f { counts = put f.counts b ((f.counts b + (2 ^ 64 - 1)) % 2 ^ 64) }) [] (onward (record c { list = next; reclaiming = batch }))
  ended_stepped small inv v b l is named last =
      let zero_is : (m.counter entry.batch + (2 ^ 64 - 1)) % 2 ^ 64 ≡ 0 = omega (arith, last) in
      let moves = counted_moves n i c.slot m entry r.owns.es small inv r.owns.loose (debt_loose inv) in
      let write = counted_written n i b l entry r.owns.es f m x inv v r.owns.loose is in
      let stage = closed_at_zero n i m entry small inv (debt_loose inv) zero_is in
      let second = gives_up_written n i entry.batch (record f { counts = put f.counts b ((f.counts b + (2 ^ 64 - 1)) % 2 ^ 64) }) (counted m i entry r.owns.es) (counted_off f x i entry)
      moves.inv write.shows stage (grind (arith, zero_is)) in
      record {
        m2 = ended;
        x2 = ended_extra;
        moved = counted_gives_up n i c.slot m entry r.owns.es small inv r.owns.loose (debt_loose inv) (nothing_left v).left zero_is;
        written = record {
          shows = second.shows;
          keeps = keeps_then n i c.slot f m x _ (counted m i entry r.owns.es) (counted_off f x i entry) _ ended_extra moves.keeps refl (first_kept v) write.keeps second.keeps;
        };
        pending = counted_gives_up_pending i m entry r.owns.es;
        logged = refl;
        aside = aside_then m (counted m i entry r.owns.es) ended [] (aside_same m (counted m i entry r.owns.es) refl refl) (aside_gives_up (counted m i entry r.owns.es) i entry.batch);
        fits = onward_fits n i _ ended ended_extra (record c { list = next; reclaiming = batch })
            (record {
              common = record {
                slot_lt = r.owns.lists.rest.common.slot_lt;
                taken = r.owns.lists.rest.common.taken;
                outside = record { section = r.owns.lists.rest.common.outside.section; defers = r.owns.lists.rest.common.outside.defers };
                hand = grind (arith, r.owns.next_is, list_behind v);
                pends = r.owns.lists.rest.common.pends;
                lefts = grind (arith, is, named);
                put_first = r.owns.lists.rest.common.put_first;
              };
              popped = r.owns.lists.rest.popped;
              closing = r.owns.lists.rest.closing;
              put = λ e. put_none;
              put_last = r.owns.lists.rest.put_last;
              batch = may_hold_on i m x c c.held ended ended_extra (record c { list = next; reclaiming = batch }) refl refl refl refl refl refl refl refl r.owns.lists.rest.batch;
              tries = λ e. absurd (cc (e, r.owns.lists.once));
            })
            (λ ne. rw (put_here m.left i (m.blocks entry.batch)) (batch_fresh inv v));
        slot_is = onward_slot (record c { list = next; reclaiming = batch });
        told = tells.CountsLast entry r.owns.es r.owns.loose (debt_loose inv) zero_is refl refl (onward_part (record c { list = next; reclaiming = batch }) r.owns.lists.once)
            (nothing_left v) (nothing_pending v) r.owns.lists.rest.closing;
      }
    where
      put_here : (l : ℕ → List ℕ) (k : ℕ) (v : List ℕ) → put l k v k ≡ v
      put_here l k v = grind arith

      first_kept : Shows n f m x → (j a : ℕ) → (j ≡ i → ⊥) → has_first j (m.life a) (x.spot a) ≡ true → has_first j (m.life a) (put x.spot entry.block Nowhere a) ≡ true
      first_kept v j a ne k = at (eqb a entry.block) (eqb-true a entry.block)
        where
          here : x.spot entry.block ≡ InHands i entry.batch
          here = in_hands x.spot i entry (m.loose i) r.owns.es r.owns.loose (v.entries.hands i entry.batch entry.block)

          at : (t : Bool) → (t ≡ true → a ≡ entry.block) → has_first j (m.life a) (cond t Nowhere (x.spot a)) ≡ true
          at false q = k
          at true q = absurd (not_other (x.spot a) (ap x.spot (q refl) ∙ here) k)
            where
              not_other : (p : Spot) → p ≡ InHands i entry.batch → has_first j (m.life a) p ≡ true → ⊥
              not_other p e h = grind arith

module _ {T : Type 0} (defers : T → Option ℕ) (n i : ℕ) (mem : Mem T) (m : State) (x : Extra) (c : Settle) (next batch : ℕ)
    (inv : Inv n m) (v : Shows n (view defers mem) m x) (r : Downs n i (view defers mem) m x (bare c) next batch) where
  -- the block that has the batch's counter
  first_block : (b : ℕ) × (l : List ℕ) × (m.blocks r.owns.e.batch ≡ b ∷ l) × (batch ≡ link b)
  first_block = let h = first_of_batch n i (view defers mem) m x r.owns.e r.owns.es inv v r.owns.loose in (h.0, h.1, h.2, sym r.batch_is ∙ h.3)

  counter_there : HasWords defers n mem m.head → IsSome (word_at mem (Entry (batch / 2048) COUNT))
  counter_there w =
      let h = first_block in
      let stage = live_shut (m.stage r.owns.e.batch) (shut_loose n i r.owns.e r.owns.es m inv r.owns.loose) in
      let life : m.life h.0 ≡ IsIn r.owns.e.batch = first_in n r.owns.e.batch h.0 h.1 m inv stage h.2 in
      let live : (view defers mem).live h.0 ≡ true = rw life at (v.lists.lived h.0) in
      rw (ap (λ u. u / 2048) h.3 ∙ link-block h.0) (w.entries h.0 COUNT (omega arith) live)

  -- what is seen after the addition
  abbrev less : ℕ → ℕ → View
  less b w = record (view defers mem) { counts = put (view defers mem).counts b ((w + (2 ^ 64 - 1)) % 2 ^ 64) }

  downs_to : n < 2 ^ 64 → (b : ℕ) (l : List ℕ) (w : ℕ) → m.blocks r.owns.e.batch ≡ b ∷ l → batch ≡ link b → w ≡ (view defers mem).counts b → (k : ℕ) → k ≡ b
      → (t : Bool) → (w == 1) ≡ t → Stepped n i c Plain (view defers mem) m x (less k w) [] (if t then onward (record c { list = next; reclaiming = batch }) else onward (record c { list = next }))
  downs_to small b l w is named word k at true q =
      subst (λ (u : ℕ). Stepped n i c Plain (view defers mem) m x (less u w) [] (onward (record c { list = next; reclaiming = batch }))) (sym at)
      (subst (λ (u : ℕ). Stepped n i c Plain (view defers mem) m x (less b u) [] (onward (record c { list = next; reclaiming = batch }))) (sym word)
      (ended_stepped n i (view defers mem) m x c next batch r small inv v b l is named
      (sym (counter_word n i (view defers mem) m x c next batch r inv v b l is) ∙ sym word ∙ eqb-true w 1 q)))
  downs_to small b l w is named word k at false q =
      subst (λ (u : ℕ). Stepped n i c Plain (view defers mem) m x (less u w) [] (onward (record c { list = next }))) (sym at)
      (subst (λ (u : ℕ). Stepped n i c Plain (view defers mem) m x (less b u) [] (onward (record c { list = next }))) (sym word)
      (counted_stepped n i (view defers mem) m x c next batch r small inv v b l is
      (λ one. eqb-false w 1 q (word ∙ counter_word n i (view defers mem) m x c next batch r inv v b l is ∙ one))))

  downs_ended : (w : ℕ) (t : Bool) (mem2 : Mem T) (end : Settle × Settled T) → IsSome (word_at mem (Entry (batch / 2048) COUNT))
      → mem2 ≡ with_word mem (Entry (batch / 2048) COUNT) ((w + (2 ^ 64 - 1)) % 2 ^ 64)
      → Ends (value_at (with_word mem (Entry (batch / 2048) COUNT) ((w + (2 ^ 64 - 1)) % 2 ^ 64)))
      (if t then Now (onward (record c { list = next; reclaiming = batch }), Goes) else Now (onward (record c { list = next }), Goes)) end
      → Stepped n i c Plain (view defers mem) m x (less (batch / 2048) w) [] (if t then onward (record c { list = next; reclaiming = batch }) else onward (record c { list = next }))
      → Went defers n i c Plain mem m x [] mem2 end
  downs_ended w true mem2 end some same e st =
      went_written defers n i c Plain mem m x [] mem2 (Entry (batch / 2048) COUNT) ((w + (2 ^ 64 - 1)) % 2 ^ 64) (less (batch / 2048) w)
      (onward (record c { list = next; reclaiming = batch })) Goes end tt e same
      (view_count defers mem (batch / 2048) ((w + (2 ^ 64 - 1)) % 2 ^ 64) (with_word mem (Entry (batch / 2048) COUNT) ((w + (2 ^ 64 - 1)) % 2 ^ 64))
      (wrote mem (Entry (batch / 2048) COUNT) ((w + (2 ^ 64 - 1)) % 2 ^ 64) some)) st
  downs_ended w false mem2 end some same e st =
      went_written defers n i c Plain mem m x [] mem2 (Entry (batch / 2048) COUNT) ((w + (2 ^ 64 - 1)) % 2 ^ 64) (less (batch / 2048) w)
      (onward (record c { list = next })) Goes end tt e same
      (view_count defers mem (batch / 2048) ((w + (2 ^ 64 - 1)) % 2 ^ 64) (with_word mem (Entry (batch / 2048) COUNT) ((w + (2 ^ 64 - 1)) % 2 ^ 64))
      (wrote mem (Entry (batch / 2048) COUNT) ((w + (2 ^ 64 - 1)) % 2 ^ 64) some)) st

  pub downs_steps : (mem2 : Mem T) (end : Settle × Settled T) → HasWords defers n mem m.head → n < 2 ^ 64 → Steps Took value_at mem (downs c next batch) mem2 end
      → Went defers n i c Plain mem m x [] mem2 end
  downs_steps mem2 end w small st =
      let d = added mem (counted_down c next batch) (Entry (batch / 2048) COUNT) (2 ^ 64 - 1) mem2 end st in
      let h = first_block in
      let at : batch / 2048 ≡ h.0 = ap (λ u. u / 2048) h.3 ∙ link-block h.0 in
      let word : d.0 ≡ (view defers mem).counts h.0 = sym (word_found mem (Entry (batch / 2048) COUNT) d.0 d.1) ∙ ap (λ b. words_of mem (Entry b COUNT)) at in
      downs_ended d.0 (d.0 == 1) mem2 end (counter_there w) d.2 d.3 (downs_to small h.0 h.1 d.0 h.2 h.3 word (batch / 2048) at (d.0 == 1) refl)

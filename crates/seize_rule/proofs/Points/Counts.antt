-- The program point by which a block is retired: it is counted in its batch, which is tried where it is long enough.
use Rattle.std.specs.Prelude.{Option, Some, IsSome, if◌then◌else◌, nat_lt, ◌/◌}
use Rattle.std.proofs.Common.{◌≡◌, ℕ, ◌+◌, ◌%◌, ◌^◌, Bool, true, false, List, [], ◌∷◌, ◌++◌, length, refl, arith, ap, sym, subst, ◌∙◌}
use Rattle.seize_moves.specs.Given.SeizeWordsDeclared.at.At.TheVariants.{Entry}
use Rattle.seize_moves.specs.Given.SeizeWordsOp.{Found}
use Rattle.seize_moves.specs.Given.SeizeWordsMem.{Mem, Took, value_at, word_at, with_word}
use Rattle.seize_moves.specs.Given.SeizeWordsPlan.{Steps, Ends}
use Rattle.seize_moves.proofs.Given.SeizeWordsOneOwner.Operations.{added}
use Rattle.seize_moves.specs.Given.SeizeDeclared.states.TheConstants.{COUNT}
use Rattle.seize_moves.specs.Given.SeizeDeclared.rows.settle.Settle.{Settle}
use Rattle.seize_moves.specs.Given.SeizeDeclared.rows.settle.Settled.{Settled}
use Rattle.seize_moves.specs.Given.SeizeDeclared.rows.settle.Settled.TheVariants.{Goes}
use Rattle.seize_moves.specs.Given.SeizeLaw.{Retired}
use Rattle.seize_moves.specs.Given.SeizeSettle.{scanning, onward, to, counted, counts}
use Rattle.seize_moves.specs.Waiting.Held.{count}
use Rattle.seize_moves.proofs.Moves.State.Ghost.{put, State, Stage, Open, Life, IsPending, is_in}
use Rattle.seize_moves.proofs.Moves.State.Rule.{Inv, SameUnlessDead, open_length}
use Rattle.seize_moves.proofs.Moves.State.Moves
use Rattle.seize_moves.proofs.Moves.Moves.Tries.{first_pending, appended_moves}
use Rattle.seize_moves.proofs.Memory.Words.Named.{link, word_found, wrote}
use Rattle.seize_moves.proofs.Memory.Words.Chains.{first_or, last_of, last_of-append}
use Rattle.seize_moves.proofs.Memory.Words.View.{View, view, view_count}
use Rattle.seize_moves.proofs.Memory.Words.Shows.{Extra, Shows, CountIs, ZeroIs, lives}
use Rattle.seize_moves.proofs.Memory.Written.Append.{appended_to, appended_written, head_or, first_more}
use Rattle.seize_rule.proofs.Points.Aside.{aside_appended}
use Rattle.seize_rule.proofs.Points.Told.{Plain, NoneLeft, length_word, Told, Appends, Fills, onward_part}
use Rattle.seize_rule.proofs.Points.NothingLeft.{nothing_left}
use Rattle.seize_rule.proofs.Points.Stepped.{Stepped, Went, went_written}
use Rattle.seize_rule.proofs.Points.Known.{CommonOf, HoldingOf, open_blocks, MayHold, Rest, Counts, Fits, bare}
use Rattle.seize_rule.proofs.Points.Onwards.{onward_fits, onward_slot}
use Rattle.seize_rule.proofs.Points.Retire.{of_link, open_stage}
use Rattle.seize_moves.proofs.Memory.Words.Apart.{put_here as here}

-- the link of a batch's first block, once b is in it
pub head_link : (b : ℕ) (l : List ℕ) → first_or (link b) l ≡ link (head_or b l)
head_link b [] = refl
head_link b (c ∷ l) = refl

-- the word that counts a batch
count_open : (counts : ℕ → ℕ) (b k s : ℕ) (g : Stage) (l : List ℕ) (y : Life) (i : ℕ) → g ≡ Open s → y ≡ IsPending i → CountIs counts g k l → ZeroIs (counts b) y
    → counts (head_or b l) ≡ length l % 2 ^ 64
count_open counts b k s g [] y i e f h z = rw f at z
count_open counts b k s g (d ∷ l) y i e f h z = rw e at h

same_open : (s a b : ℕ) (g : Stage) → g ≡ Open s → SameUnlessDead g a b → a ≡ b
same_open s a b g e h = grind arith

module _ (n i : ℕ) (f : View) (m : State) (x : Extra) (c : Settle) (inv : Inv n m) (v : Shows n f m x) (block : ℕ) (r : Counts n i f m x (bare c) block) where
  abbrev retired : State
  retired = Moves.appended m i r.b r.bs (m.open_batch c.slot)

  abbrev extra : Extra
  extra = appended_to x i r.b (m.open_batch c.slot)

  abbrev seen_then : View
  seen_then = record f { counts = put f.counts (head_or r.b (open_blocks m c)) ((f.counts (head_or r.b (open_blocks m c)) + 1) % 2 ^ 64) }

  held_then : HoldingOf i retired extra c.slot block 0 0 []
  held_then = let h = r.putting.batch in let y = m.open_batch c.slot in record {
    holder = h.holder;
    last = r.putting.block_is ∙ sym (ap link (ap last_of (here m.blocks y (m.blocks y ++ r.b ∷ [])) ∙ last_of-append r.b (m.blocks y)));
    behind = here x.behind y 0;
    seen = h.seen;
    todo = h.todo;
  }

  common_then : CommonOf n i retired extra c.slot c.list c.pending c.reclaiming c.put_first
  common_then = let p = r.putting.common in record {
    slot_lt = p.slot_lt;
    taken = p.taken;
    outside = record { section = p.outside.section; defers = p.outside.defers };
    hand = p.hand;
    pends = p.pends;
    lefts = p.lefts;
    put_first = p.put_first;
  }

  rest_then : Rest n i retired extra (bare (record c { last = block }))
  rest_then = let p = r.putting in record {
    common = common_then;
    popped = here x.popped i false;
    closing = p.closing;
    put = λ e. p.put;
    put_last = p.put_last;
    batch = subst (λ (t : Bool). MayHold t i retired extra (bare (record c { last = block }))) (sym p.holds) held_then;
    tries = λ e. absurd (cc (e, p.once));
  }

  goes_on : (t : Bool) → Fits n i seen_then retired extra (if t then onward (record c { last = block }) else scanning (record c { last = block }))
  goes_on true = onward_fits n i seen_then retired extra (record c { last = block }) rest_then (λ ne. absurd (ne r.putting.none_left))
  goes_on false = let p = r.putting in let y = m.open_batch c.slot in let e = here m.blocks y (m.blocks y ++ r.b ∷ []) in record {
    us = [];
    vs = open_blocks retired c;
    ts = [];
    tries = record {
      common = common_then;
      popped = here x.popped i false;
      closing = p.closing;
      put = p.put;
      put_last = p.put_last;
      batch = held_then;
      holds = p.holds;
      once = p.once;
      none_left = p.none_left;
      first = r.first ∙ sym (ap (first_or 0) e ∙ first_more r.b (m.blocks y));
      some = λ z. (let a = p.block_is in let q = p.some_block in omega arith);
      blocks = refl;
      marked = refl;
      marks_le = omega arith;
      active = tt;
    };
    used = refl;
    block_is = r.first ∙ sym (ap (first_or 0) e ∙ first_more r.b (m.blocks y));
    lt = let l = p.common.slot_lt in omega arith;
    below = λ t l. absurd (omega arith);
  }

  slot_same : (t : Bool) → (if t then onward (record c { last = block }) else scanning (record c { last = block })).slot ≡ c.slot
  slot_same true = onward_slot (record c { last = block })
  slot_same false = refl

  -- how long the batch is, as its word says
  pub count_is : f.counts (head_or r.b (open_blocks m c)) ≡ open_length m c.slot % 2 ^ 64
  count_is =
      let y = m.open_batch c.slot in
      count_open f.counts r.b (m.counter y) c.slot (m.stage y) (open_blocks m c) (m.life r.b) i (open_stage n i f m x c inv v r.putting.common.slot_lt)
      (first_pending n i m r.b r.bs inv r.putting.pending) (v.linkage.counted y) (v.linkage.zeros r.b)

  told_then : (t : Bool) → nat_lt (length_word m c.slot) c.batch_size ≡ t
      → Told n i c Plain m (if t then onward (record c { last = block }) else scanning (record c { last = block })) retired
  told_then t e = one t e (let p = r.putting in nothing_left n i f m x v c.slot c.list c.pending c.reclaiming c.put_first p.common p.none_left p.put)
    where
      one : (t : Bool) → nat_lt (length_word m c.slot) c.batch_size ≡ t → NoneLeft i m
          → Told n i c Plain m (if t then onward (record c { last = block }) else scanning (record c { last = block })) retired
      one true e none = Appends r.b r.bs r.putting.pending refl refl (onward_part (record c { last = block }) r.putting.once) none e
      one false e none = Fills r.b r.bs r.putting.pending refl refl refl none e (record { seen = r.putting.batch.seen; todo = r.putting.batch.todo })

  pub counts_stepped : (t : Bool) → nat_lt (length_word m c.slot) c.batch_size ≡ t → Stepped n i c Plain f m x seen_then (Retired r.b ∷ []) (if t then onward (record c { last = block }) else scanning (record c { last = block }))
  counts_stepped t less =
      let p = r.putting in
      let y = m.open_batch c.slot in
      let op = open_stage n i f m x c inv v p.common.slot_lt in
      let life = first_pending n i m r.b r.bs inv p.pending in
      record {
        m2 = retired;
        x2 = extra;
        moved = appended_moves n i c.slot m r.b r.bs y inv op p.batch.holder p.batch.seen p.pending life;
        written = appended_written n i c.slot r.b y r.bs f m x inv v p.pending p.popped op p.batch.holder p.some_block r.next (r.firsts ∙ r.first) p.batch.behind;
        pending = λ q. q;
        logged = refl;
        aside = aside_appended m i r.b r.bs y life;
        fits = goes_on t;
        slot_is = slot_same t;
        told = told_then t less;
      }

  -- the first block of the batch that b goes into
  pub head_lives : f.live (head_or r.b (open_blocks m c)) ≡ true
  head_lives = one (open_blocks m c) (λ a. same_open c.slot (count a (open_blocks m c)) _ (m.stage (m.open_batch c.slot)) (open_stage n i f m x c inv v r.putting.common.slot_lt) (inv.places.boxed (m.open_batch c.slot) a))
    where
      one : (l : List ℕ) → ((a : ℕ) → count a l ≡ is_in (m.open_batch c.slot) (m.life a)) → f.live (head_or r.b l) ≡ true
      one [] h = v.lists.lived r.b ∙ ap lives (first_pending n i m r.b r.bs inv r.putting.pending)
      one (d ∷ l) h = v.lists.lived d ∙ two (m.life d) (h d)
        where
          two : (y : Life) → count d (d ∷ l) ≡ is_in (m.open_batch c.slot) y → lives y ≡ true
          two y e = grind arith

module _ {T : Type 0} (defers : T → Option ℕ) (n i : ℕ) (mem mem2 : Mem T) (m : State) (x : Extra) (c : Settle) (end : Settle × Settled T)
    (inv : Inv n m) (v : Shows n (view defers mem) m x) where
  counted_at : (block : ℕ) (r : Counts n i (view defers mem) m x (bare c) block) (v2 : ℕ) → v2 ≡ ((view defers mem).counts (head_or r.b (open_blocks m c)) + 1) % 2 ^ 64
      → IsSome (word_at mem (Entry (head_or r.b (open_blocks m c)) COUNT)) → mem2 ≡ with_word mem (Entry (head_or r.b (open_blocks m c)) COUNT) v2
      → (t : Bool) → nat_lt (length_word m c.slot) c.batch_size ≡ t → Ends (value_at mem2) (if t then to {T = T} (onward (record c { last = block })) else to (scanning (record c { last = block }))) end
      → Went defers n i c Plain mem m x (Retired r.b ∷ []) mem2 end
  counted_at block r v2 is some e true less ends =
      let h = head_or r.b (open_blocks m c) in
      went_written defers n i c Plain mem m x (Retired r.b ∷ []) mem2 (Entry h COUNT) v2 _ (onward (record c { last = block })) Goes end tt ends e
      (view_count defers mem h v2 (with_word mem (Entry h COUNT) v2) (wrote mem (Entry h COUNT) v2 some) ∙ ap (λ u. record (view defers mem) { counts = put (view defers mem).counts h u }) is)
      (counts_stepped n i (view defers mem) m x c inv v block r true less)
  counted_at block r v2 is some e false less ends =
      let h = head_or r.b (open_blocks m c) in
      went_written defers n i c Plain mem m x (Retired r.b ∷ []) mem2 (Entry h COUNT) v2 _ (scanning (record c { last = block })) Goes end tt ends e
      (view_count defers mem h v2 (with_word mem (Entry h COUNT) v2) (wrote mem (Entry h COUNT) v2 some) ∙ ap (λ u. record (view defers mem) { counts = put (view defers mem).counts h u }) is)
      (counts_stepped n i (view defers mem) m x c inv v block r false less)

  pub counts_steps : (block : ℕ) → Counts n i (view defers mem) m x (bare c) block → Steps Took value_at mem (counts c block) mem2 end
      → Went defers n i c Plain mem m x (Retired (block / 2048) ∷ []) mem2 end
  counts_steps block r st =
      let h = head_or r.b (open_blocks m c) in
      let l = added mem (counted c block) (Entry (c.first / 2048) COUNT) 1 mem2 end st in
      let a : c.first / 2048 ≡ h = of_link c.first h (r.first ∙ head_link r.b (open_blocks m c)) in
      let found : word_at mem (Entry h COUNT) ≡ Some l.0 = ap (λ u. word_at mem (Entry u COUNT)) (sym a) ∙ l.1 in
      let w : l.0 ≡ (view defers mem).counts h = sym (word_found mem (Entry h COUNT) l.0 found) in
      let e : mem2 ≡ with_word mem (Entry h COUNT) ((l.0 + 1) % 2 ^ 64) = l.2 ∙ ap (λ u. with_word mem (Entry u COUNT) ((l.0 + 1) % 2 ^ 64)) a in
      subst (λ (u : ℕ). Went defers n i c Plain mem m x (Retired u ∷ []) mem2 end) (sym (of_link block r.b r.putting.block_is))
      (counted_at block r ((l.0 + 1) % 2 ^ 64) (ap (λ u. (u + 1) % 2 ^ 64) w) (rw found refl) e (nat_lt ((l.0 + 1) % 2 ^ 64) c.batch_size)
      (ap (λ u. nat_lt ((u + 1) % 2 ^ 64) c.batch_size) (sym (w ∙ count_is n i (view defers mem) m x c inv v block r)))
      (subst (λ (q : Mem T). Ends (value_at q) (counted c block (Found l.0)) end) (sym l.2) l.3))

-- What a row knows lasts while the others step.
use Rattle.std.proofs.Common.{◌≡◌, ℕ, ◌+◌, ◌<◌, Bool, true, false, eqb, List, [], ◌∷◌, arith}
use Rattle.seize_moves.specs.Given.SeizeDeclared.rows.settle.Settle.{Settle}
use Rattle.seize_moves.specs.Given.SeizeDeclared.rows.settle.Settling.{Settling}
use Rattle.seize_moves.specs.Given.SeizeDeclared.rows.settle.Settling.TheVariants as at
use Rattle.seize_moves.specs.Waiting.Held.{count}
use Rattle.seize_moves.proofs.Moves.State.Ghost.{Entry, Stage, Open, Closing, Life, IsPending, IsDoomed, State, list_of, is_doomed}
use Rattle.seize_moves.proofs.Moves.State.Rule.{IsOf, Inv, Keeps}
use Rattle.seize_moves.proofs.Memory.Words.Chains.{count_first}
use Rattle.seize_moves.proofs.Memory.Words.View.{View}
use Rattle.seize_moves.proofs.Memory.Words.Shows.{Spot, InHands, SpotLife, Extra, Shows, KeepsWords, has_next, has_first, has_own, is_in_hands, stands}
use Rattle.seize_moves.proofs.Memory.Written.Marks.{is_unspent_one}
use Rattle.seize_moves.proofs.Memory.Written.Append.{awaits}
use Rattle.seize_moves.proofs.Moves.Moves.Tries.{first_pending}
use Rattle.seize_moves.proofs.Moves.Moves.Takes.{first_doomed}
use Rattle.seize_rule.proofs.Points.Lost.{behind_grown}
use Rattle.seize_rule.proofs.Points.Known.{AllTaken, AllFresh, TakenBelow, Empty, Outside, Common, Holding, MayHold, open_blocks, Rest, Retiring, Putting, Batches, Ends, Appends, Counts, Tries, Shuts, Reads, Links, Pushed, Backs, Drains, Owns, FirstsOf, FitsAt}

of_open : (j s : ℕ) (holder : ℕ → ℕ) (g : Stage) → g ≡ Open s → holder s ≡ j + 1 → IsOf j holder g ≡ true
of_open j s holder g e h = grind arith

of_closing : (j : ℕ) (holder : ℕ → ℕ) (g : Stage) → g ≡ Closing j → IsOf j holder g ≡ true
of_closing j holder g e = grind arith

-- the first entry in a row's hands
pub in_hands : (spot : ℕ → Spot) (j : ℕ) (e : Entry) (es : List Entry) → stands e.block e.batch (e ∷ es) ≡ is_in_hands j e.batch (spot e.block) → spot e.block ≡ InHands j e.batch
in_hands spot j e es h = grind arith

module _ (n i s j : ℕ) (f g : View) (m m2 : State) (x y : Extra) (k : Keeps n i s m m2) (w : KeepsWords i f m x g y) (inv : Inv n m) (v : Shows n f m x)
    (ne : j ≡ i → ⊥) where
  pub all_taken_last : (ts : List ℕ) → AllTaken m.head ts → AllTaken m2.head ts
  all_taken_last [] h = tt
  all_taken_last (t ∷ ts) h = (k.taken_slots t h.0, all_taken_last ts h.1)

  below_last : (b : ℕ) → TakenBelow m.head b → TakenBelow m2.head b
  below_last b h t l = k.taken_slots t (h t l)

  pub empty_last : Empty j m x → Empty j m2 y
  empty_last r = let p = k.rows j ne in let q = w.rows j ne in record {
    loose = cc (p.loose, r.loose);
    left = cc (p.left, r.left);
    pending = cc (p.pending, r.pending);
    puts = cc (p.puts, r.puts);
    closing = cc (p.closing, r.closing);
    hand = cc (q.hand, r.hand);
    pends = cc (q.pends, r.pends);
    lefts = cc (q.lefts, r.lefts);
    put_first = cc (q.put_first, r.put_first);
    popped = cc (q.popped, r.popped);
  }

  pub outside_last : Outside j m → Outside j m2
  outside_last r = let p = k.rows j ne in record { section = cc (p.section, r.section); defers = cc (p.defers, r.defers) }

  common_last : (c : Settle) → Common n j m x c → Common n j m2 y c
  common_last c r = let q = w.rows j ne in record {
    slot_lt = r.slot_lt;
    taken = k.taken_slots c.slot r.taken;
    outside = outside_last r.outside;
    hand = cc (q.hand, r.hand);
    pends = cc (q.pends, r.pends);
    lefts = cc (q.lefts, r.lefts);
    put_first = cc (q.put_first, r.put_first);
  }

  -- the open batch that the row holds
  held_of : (c : Settle) → c.slot < n → m.holder c.slot ≡ j + 1 → IsOf j m.holder (m.stage (m.open_batch c.slot)) ≡ true
  held_of c l h = of_open j c.slot m.holder (m.stage (m.open_batch c.slot)) (inv.batches.mine c.slot l) h

  open_last : (c : Settle) → c.slot < n → m.holder c.slot ≡ j + 1 → open_blocks m2 c ≡ open_blocks m c
  open_last c l h = rw ((k.holding j c.slot ne h).1, open_blocks) ((k.batches j (m.open_batch c.slot) ne (held_of c l h)).blocks)

  holding_last : (c : Settle) (e o : ℕ) (ts : List ℕ) → c.slot < n → Holding j m x c e o ts → Holding j m2 y c e o ts
  holding_last c e o ts l r =
      let h = k.holding j c.slot ne r.holder in
      let p = k.batches j (m.open_batch c.slot) ne (held_of c l r.holder) in
      let q = w.batches j (m.open_batch c.slot) ne (held_of c l r.holder) in
      record {
        holder = cc (h.0, r.holder);
        last = rw (open_last c l r.holder) (r.last);
        behind = rw (h.1) (cc (q.behind, r.behind));
        seen = rw (h.1) (cc (p.seen, r.seen));
        todo = rw (h.1) (cc (p.todo, r.todo));
      }

  may_hold_last : (t : Bool) (c : Settle) → c.slot < n → MayHold t j m x c → MayHold t j m2 y c
  may_hold_last true c l r = holding_last c 0 0 [] l r
  may_hold_last false c l r = tt

  rest_last : (c : Settle) → Rest n j m x c → Rest n j m2 y c
  rest_last c r = let p = k.rows j ne in let q = w.rows j ne in record {
    common = common_last c r.common;
    popped = cc (q.popped, r.popped);
    closing = cc (p.closing, r.closing);
    put = r.put;
    put_last = rw (p.puts) (r.put_last);
    batch = may_hold_last c.held c r.common.slot_lt r.batch;
    tries = r.tries;
  }

  retiring_last : (c : Settle) (t : Bool) → Retiring n j m x c t → Retiring n j m2 y c t
  retiring_last c t r = record { rest = rest_last c r.rest; holds = r.holds; none_left = r.none_left }

  pending_next : (b : ℕ) (bs : List ℕ) → m.pending j ≡ b ∷ bs → g.nexts b ≡ f.nexts b
  pending_next b bs h = w.nexts j b ne (one (m.life b) (first_pending n j m b bs inv h))
    where
      one : (l : Life) → l ≡ IsPending j → has_next j m.holder m.stage l ≡ true
      one l e = grind arith

  pending_first : (b : ℕ) (bs : List ℕ) → m.pending j ≡ b ∷ bs → g.firsts b ≡ f.firsts b
  pending_first b bs h = w.firsts j b ne (one (x.spot b) (m.life b) (first_pending n j m b bs inv h) (v.entries.spots b))
    where
      one : (p : Spot) (l : Life) → l ≡ IsPending j → SpotLife p l → has_first j l p ≡ true
      one p l e h = grind arith

  putting_last : (c : Settle) (block b : ℕ) (bs : List ℕ) (e : ℕ) → Putting n j m x c block b bs e → Putting n j m2 y c block b bs e
  putting_last c block b bs e r = let p = k.rows j ne in let q = w.rows j ne in record {
    common = common_last c r.common;
    popped = cc (q.popped, r.popped);
    closing = cc (p.closing, r.closing);
    put = r.put;
    put_last = rw (p.puts) (r.put_last);
    batch = holding_last c e 0 [] r.common.slot_lt r.batch;
    holds = r.holds;
    once = r.once;
    none_left = r.none_left;
    pending = cc (p.pending, r.pending);
    block_is = r.block_is;
    some_block = r.some_block;
  }

  firsts_last : (c : Settle) (block : ℕ) (t : Bool) → FirstsOf t n j m x c block → FirstsOf t n j m2 y c block
  firsts_last c block true r = record { retiring = retiring_last c true r.retiring; some = r.some; once = r.once; none_pending = r.none_pending }
  firsts_last c block false r = record { b = r.b; bs = r.bs; putting = putting_last c block r.b r.bs 0 r.putting; some = r.some }

  abbrev batches_last : (c : Settle) (block : ℕ) → Batches n j m x c block → Batches n j m2 y c block
  batches_last c block r = record {
    b = r.b;
    bs = r.bs;
    putting = putting_last c block r.b r.bs 0 r.putting;
    first = rw (open_last c r.putting.common.slot_lt r.putting.batch.holder) (r.first);
  }

  abbrev ends_last : (c : Settle) (block : ℕ) → Ends n j f m x c block → Ends n j g m2 y c block
  ends_last c block r = record {
    batches = batches_last c block r.batches;
    firsts = cc (pending_first r.batches.b r.batches.bs r.batches.putting.pending, r.firsts);
  }

  appends_last : (c : Settle) (block : ℕ) → Appends n j f m x c block → Appends n j g m2 y c block
  appends_last c block r = record {
    ends = ends_last c block r.ends;
    next = cc (pending_next r.ends.batches.b r.ends.batches.bs r.ends.batches.putting.pending, r.next);
    some = r.some;
  }

  counts_last : (c : Settle) (block : ℕ) → Counts n j f m x c block → Counts n j g m2 y c block
  counts_last c block r = let o = open_last c r.putting.common.slot_lt r.putting.batch.holder in record {
    b = r.b;
    bs = r.bs;
    putting = rw o (putting_last c block r.b r.bs (awaits r.b (open_blocks m c)) r.putting);
    first = rw o (r.first);
    firsts = cc (pending_first r.b r.bs r.putting.pending, r.firsts);
    next = cc (pending_next r.b r.bs r.putting.pending, r.next);
  }

  tries_last : (c : Settle) (slot marks : ℕ) (us vs ts : List ℕ) → Tries n j m x c slot marks us vs ts → Tries n j m2 y c slot marks us vs ts
  tries_last c slot marks us vs ts r =
      let p = k.rows j ne in
      let q = w.rows j ne in
      let o = open_last c r.common.slot_lt r.batch.holder in
      record {
        common = common_last c r.common;
        popped = cc (q.popped, r.popped);
        closing = cc (p.closing, r.closing);
        put = r.put;
        put_last = rw (p.puts) (r.put_last);
        batch = holding_last c 0 slot ts r.common.slot_lt r.batch;
        holds = r.holds;
        once = r.once;
        none_left = r.none_left;
        first = rw o (r.first);
        some = r.some;
        blocks = rw o (r.blocks);
        marked = r.marked;
        marks_le = r.marks_le;
        active = all_taken_last ts r.active;
      }

  shuts_last : (c : Settle) (z : ℕ) (rs ts : List ℕ) (t : Bool) (left pushed : ℕ) → Shuts n j m x c z rs ts t left pushed → Shuts n j m2 y c z rs ts t left pushed
  shuts_last c z rs ts t left pushed r =
      let p = k.rows j ne in
      let q = w.rows j ne in
      let mine = of_closing j m.holder (m.stage z) r.stage in
      let a = k.batches j z ne mine in
      let b = w.batches j z ne mine in
      record {
        common = common_last c r.common;
        popped = cc (q.popped, r.popped);
        closing = cc (p.closing, r.closing);
        put = r.put;
        put_last = rw (p.puts) (r.put_last);
        batch = holding_last c 0 0 [] r.common.slot_lt r.batch;
        holds = r.holds;
        once = r.once;
        none_left = r.none_left;
        stage = cc (a.stage, r.stage);
        first = rw (a.blocks) (r.first);
        rest_is = cc (b.rest, r.rest_is);
        aimed_is = cc (b.aimed, r.aimed_is);
        todo = cc (a.todo, r.todo);
        done = cc (a.done, r.done);
        left_is = r.left_is;
        active = all_taken_last ts r.active;
        some = rw (a.blocks) (r.some);
      }

  shut_blocks : (z : ℕ) → m.stage z ≡ Closing j → m2.blocks z ≡ m.blocks z
  shut_blocks z h = (k.batches j z ne (of_closing j m.holder (m.stage z) h)).blocks

  abbrev reads_last : (c : Settle) (block left pushed : ℕ) (t : Bool) → Reads n j m x c block left pushed t → Reads n j m2 y c block left pushed t
  reads_last c block left pushed t r = record {
    y = r.y;
    before = r.before;
    d = r.d;
    rs = r.rs;
    t = r.t;
    ts = r.ts;
    shuts = shuts_last c r.y (r.d ∷ r.rs) (r.t ∷ r.ts) t left pushed r.shuts;
    blocks = cc (shut_blocks r.y r.shuts.stage, r.blocks);
    block_is = r.block_is;
    room = r.room;
  }

  abbrev links_last : (c : Settle) (block left pushed slot head : ℕ) → Links n j m x c block left pushed slot head → Links n j m2 y c block left pushed slot head
  links_last c block left pushed slot head r = record {
    reads = reads_last c block left pushed true r.reads;
    slot_is = r.slot_is;
    active = r.active;
    lost = λ d. let a = k.marked j r.reads.y r.reads.t ne r.reads.shuts.stage d in behind_grown (list_of (m.head r.reads.t)) (list_of (m2.head r.reads.t)) head c.lost a.1 (r.lost a.0);
  }

  -- the link of the block whose entry is to be pushed
  aimed_link : (z d : ℕ) (rs : List ℕ) → m.stage z ≡ Closing j → x.rest z ≡ d ∷ rs → g.links d ≡ f.links d
  aimed_link z d rs h e =
      let spot = is_unspent_one x.rest x.spot z d (v.entries.unspent z d) (grind (arith, count_first d rs)) in
      w.links j d ne (rw spot (of_closing j m.holder (m.stage z) h))

  pushed_last : (c : Settle) (block left pushed : ℕ) → Pushed n j m x c block left pushed → Pushed n j m2 y c block left pushed
  pushed_last c block left pushed r = record {
    y = r.y;
    before = r.before;
    d = r.d;
    e = r.e;
    rs = r.rs;
    t = r.t;
    ts = r.ts;
    shuts = shuts_last c r.y (r.e ∷ r.rs) (r.t ∷ r.ts) false left pushed r.shuts;
    blocks = cc (shut_blocks r.y r.shuts.stage, r.blocks);
    block_is = r.block_is;
    room = r.room;
  }

  -- the blocks that it is to take are not drained by others
  fresh_one : (a : ℕ) → 0 < count a (m.left j) → x.drained a ≡ false → y.drained a ≡ false
  fresh_one a some h = cc ((w.owns j a ne (own (m.life a) (inv.places.to_take j a))).drained, h)
    where
      own : (l : Life) → count a (m.left j) ≡ is_doomed j l → has_own j l ≡ true
      own l e = grind arith

  fresh_last : AllFresh x.drained (m.left j) → AllFresh y.drained (m2.left j)
  fresh_last h = rw ((k.rows j ne).left) (λ a some. fresh_one a some (h a some))

  backs_last : (c : Settle) (b : ℕ) (bs : List ℕ) (next : ℕ) → Backs n j m x c b bs next → Backs n j m2 y c b bs next
  backs_last c b bs next r = let p = k.rows j ne in let q = w.rows j ne in record {
    common = common_last c r.common;
    popped = cc (q.popped, r.popped);
    closing = cc (p.closing, r.closing);
    batch = may_hold_last c.held c r.common.slot_lt r.batch;
    once = r.once;
    left = cc (p.left, r.left);
    next_is = r.next_is;
    fresh = λ a some. fresh_one a (grind (arith, r.left)) (r.fresh a some);
  }

  -- the block that it is to take
  doomed_of : (b : ℕ) (bs : List ℕ) → m.left j ≡ b ∷ bs → m.life b ≡ IsDoomed j
  doomed_of b bs h = first_doomed n j m b bs inv h

  doomed_own : (b : ℕ) (bs : List ℕ) → m.left j ≡ b ∷ bs → has_own j (m.life b) ≡ true
  doomed_own b bs h = one (m.life b) (doomed_of b bs h)
    where
      one : (l : Life) → l ≡ IsDoomed j → has_own j l ≡ true
      one l e = grind arith

  abbrev drains_last : (c : Settle) (next word : ℕ) → Drains n j f m x c next word → Drains n j g m2 y c next word
  drains_last c next word r = let q = w.owns j r.b ne (doomed_own r.b r.bs r.backs.left) in record {
    b = r.b;
    bs = r.bs;
    backs = backs_last c r.b r.bs next r.backs;
    lists = cc (q.lists, r.lists);
    drained = cc (q.drained, r.drained);
    put_last = rw ((k.rows j ne).puts) (r.put_last);
  }

  none_last : (b : ℕ) (bs : List ℕ) → m.left j ≡ b ∷ bs → m.deferred b ≡ [] → m2.deferred b ≡ []
  none_last b bs l h = cc (k.lists j b ne (doomed_of b bs l), h)

  abbrev owns_last : (c : Settle) (next : ℕ) → Owns n j f m x c next → Owns n j g m2 y c next
  owns_last c next r =
      let spot = in_hands x.spot j r.e r.es (rw (r.loose) at (v.entries.hands j r.e.batch r.e.block)) in
      record {
        lists = record { rest = rest_last c r.lists.rest; once = r.lists.once; none_left = r.lists.none_left; none_pending = r.lists.none_pending; some = r.lists.some };
        e = r.e;
        es = r.es;
        loose = cc ((k.rows j ne).loose, r.loose);
        next_is = cc (w.links j r.e.block ne (rw spot (grind arith)), r.next_is);
      }

  -- at any point
  pub settle_last : (c : Settle) (p : Settling) → FitsAt n j f m x c p → FitsAt n j g m2 y c p
  settle_last c at.Sees r = record { retiring = retiring_last c false r.retiring }
  settle_last c at.Holds r = record { retiring = retiring_last c false r.retiring; free = r.free }
  settle_last c at.Pops r = record { retiring = retiring_last c true r.retiring; some = r.some }
  settle_last c (at.Firsts block) r = firsts_last c block (eqb block 0) r
  settle_last c (at.Batches block) r = batches_last c block r
  settle_last c (at.Ends block) r = ends_last c block r
  settle_last c (at.Appends block) r = appends_last c block r
  settle_last c (at.Counts block) r = counts_last c block r
  settle_last c (at.Scans slot block marks) r = record {
    us = r.us;
    vs = r.vs;
    ts = r.ts;
    tries = tries_last c slot marks r.us r.vs r.ts r.tries;
    used = r.used;
    block_is = r.block_is;
    lt = r.lt;
    below = below_last slot r.below;
  }
  settle_last c (at.Marks slot block marks) r = record {
    us = r.us;
    d = r.d;
    vs = r.vs;
    ts = r.ts;
    tries = tries_last c slot marks r.us (r.d ∷ r.vs) r.ts r.tries;
    used = r.used;
    block_is = r.block_is;
    lt = r.lt;
    below = below_last (slot + 1) r.below;
  }
  settle_last c (at.Marked slot block marks) r = record {
    us = r.us;
    d = r.d;
    vs = r.vs;
    ts = r.ts;
    tries = tries_last c (slot + 1) (marks + 1) r.us (r.d ∷ r.vs) r.ts r.tries;
    used = r.used;
    block_is = r.block_is;
    lt = r.lt;
    below = below_last (slot + 1) r.below;
  }
  settle_last c (at.Closes marks) r = record { us = r.us; vs = r.vs; ts = r.ts; tries = tries_last c n marks r.us r.vs r.ts r.tries; used = r.used }
  settle_last c (at.Reads block left pushed) r = reads_last c block left pushed false r
  settle_last c (at.Links block left pushed slot head) r = links_last c block left pushed slot head r
  settle_last c (at.Pushes block left pushed slot head) r = record {
    links = links_last c block left pushed slot head r.links;
    linked = cc (aimed_link r.links.reads.y r.links.reads.d r.links.reads.rs r.links.reads.shuts.stage r.links.reads.shuts.rest_is, r.linked);
  }
  settle_last c (at.Pushed block left pushed) r = pushed_last c block left pushed r
  settle_last c (at.Sums pushed) r = record { y = r.y; rs = r.rs; shuts = shuts_last c r.y r.rs [] false 0 pushed r.shuts }
  settle_last c at.Nexts r = record { rest = rest_last c r.rest; some = r.some; fresh = fresh_last r.fresh }
  settle_last c (at.Drains next word) r = drains_last c next word r
  settle_last c (at.Joins next more) r = record {
    word = r.word;
    drains = drains_last c next r.word r.drains;
    more_is = rw (k.lists j r.drains.b ne (doomed_of r.drains.b r.drains.bs r.drains.backs.left)) (r.more_is);
    more_some = r.more_some;
    some = r.some;
  }
  settle_last c (at.Tails next) r = record {
    b = r.b;
    bs = r.bs;
    backs = backs_last c r.b r.bs next r.backs;
    none = none_last r.b r.bs r.backs.left r.none;
    before = r.before;
    d = r.d;
    behind = r.behind;
    puts = cc ((k.rows j ne).puts, r.puts);
    put_last = r.put_last;
  }
  settle_last c (at.Takes next) r = record {
    b = r.b;
    bs = r.bs;
    backs = backs_last c r.b r.bs next r.backs;
    none = none_last r.b r.bs r.backs.left r.none;
    put_last = rw ((k.rows j ne).puts) (r.put_last);
  }
  settle_last c at.Puts r = let p = k.rows j ne in let q = w.rows j ne in record {
    common = common_last c r.common;
    popped = cc (q.popped, r.popped);
    closing = cc (p.closing, r.closing);
    batch = may_hold_last c.held c r.common.slot_lt r.batch;
    once = r.once;
    none_left = r.none_left;
    put_last = rw (p.puts) (r.put_last);
    some = r.some;
  }
  settle_last c at.Lists r = record { rest = rest_last c r.rest; once = r.once; none_left = r.none_left; none_pending = r.none_pending; some = r.some }
  settle_last c (at.Owns next) r = owns_last c next r
  settle_last c (at.Downs next batch) r =
      let spot = in_hands x.spot j r.owns.e r.owns.es (rw (r.owns.loose) at (v.entries.hands j r.owns.e.batch r.owns.e.block)) in
      record { owns = owns_last c next r.owns; batch_is = cc (w.firsts j r.owns.e.block ne (rw spot (grind arith)), r.batch_is) }
  settle_last c at.Gives r = record { rest = rest_last c r.rest; once = r.once; none_left = r.none_left; none_pending = r.none_pending; none_listed = r.none_listed; holds = r.holds }
  settle_last c at.Over r = record { rest = rest_last c r.rest; once = r.once; none_left = r.none_left; none_pending = r.none_pending; none_listed = r.none_listed; holds = r.holds }

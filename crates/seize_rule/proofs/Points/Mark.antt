-- The points by which slots are marked and the batch is closed.
use Rattle.std.specs.Prelude.{Option, if◌then◌else◌, ◌==◌, ◌/◌, ◌%◌, ◌^◌}
use Rattle.std.proofs.Common.{◌≡◌, ℕ, ◌+◌, ◌<◌, ◌≤◌, Bool, true, false, List, [], ◌∷◌, ◌++◌, length, refl, arith, ap, sym, subst, ◌∙◌, eqb-true}
use Rattle.std.proofs.lemmas.Bool.{eqb-false}
use Rattle.seize_moves.specs.Given.SeizeWordsDeclared.at.At.TheVariants.{Entry}
use Rattle.seize_moves.specs.Given.SeizeWordsMem.{Mem, Took, value_at, with_word}
use Rattle.seize_moves.specs.Given.SeizeWordsPlan.{Steps}
use Rattle.seize_moves.proofs.Given.SeizeWordsOneOwner.Operations.{loaded, stored}
use Rattle.seize_moves.specs.Given.SeizeDeclared.states.TheConstants.{LINK, NEXT, LAST_SLOT, COUNT}
use Rattle.seize_moves.specs.Given.SeizeDeclared.rows.settle.Settle.{Settle}
use Rattle.seize_moves.specs.Given.SeizeDeclared.rows.settle.Settling.TheVariants as at
use Rattle.seize_moves.specs.Given.SeizeDeclared.rows.settle.Settled.{Settled}
use Rattle.seize_moves.specs.Given.SeizeDeclared.rows.settle.Settled.TheVariants.{Goes}
use Rattle.seize_moves.specs.Given.SeizeSettle.{standing, behind, to, goes, marks_block, marked_next, marked, closed, closes}
use Rattle.seize_moves.proofs.Moves.State.Ghost.{put, State, Stage, Open, Life, is_in, Unused, Closing, Closed, Debt, was_put, total}
use Rattle.seize_moves.proofs.Moves.State.Rule.{Inv, SameUnlessDead, AtStage}
use Rattle.seize_moves.proofs.Moves.State.Moves
use Rattle.seize_moves.proofs.Moves.Moves.Tries.{marked_moves, closed_moves, passed_total, passed_put}
use Rattle.seize_moves.proofs.Memory.Words.Named.{link, words_of, word_found, wrote}
use Rattle.seize_moves.proofs.Memory.Words.Chains.{first_or, chain_behind, chain_begin, last_of}
use Rattle.seize_moves.proofs.Memory.Words.View.{View, view, view_link, view_count}
use Rattle.seize_moves.proofs.Memory.Words.Shows.{Extra, Shows, lives, RestIs}
use Rattle.seize_moves.proofs.Memory.Written.Marks.{marked_written}
use Rattle.seize_rule.proofs.Points.Aside.{aside_same}
use Rattle.seize_rule.proofs.Points.Told.{Trying, Marking, Pushing, part, Told, Marks as MarksIt, Closes as ClosesIt}
use Rattle.seize_rule.proofs.Points.NothingLeft.{nothing_left}
use Rattle.seize_rule.proofs.Points.Stepped.{Stepped, HasWords, quiet, Went, went_loaded, went_written}
use Rattle.seize_rule.proofs.Points.Known.{AllTaken, HoldingOf, open_blocks, Marks, Marked, Closes, Fits, bare, Shuts}
use Rattle.seize_rule.proofs.Points.Retire.{of_link, open_stage, open_chain, some_last}
-- what a head's word says
use Rattle.seize_rule.proofs.Points.Try.{taken_more, tries_on}
use Rattle.std.proofs.lemmas.List.{append_assoc}
use Rattle.seize_moves.specs.Waiting.Held.{count}
use Rattle.seize_moves.proofs.Memory.Written.Close.{closed_written}
use Rattle.seize_rule.proofs.Points.Scan.{behind_fits, behind_part}
use Rattle.seize_moves.proofs.Memory.Words.Apart.{put_here as here}
use Rattle.seize_rule.proofs.Points.May.{count_mid as count_in}
use Rattle.seize_moves.proofs.Given.General.{length_and_one as length-more}

length-both : (us vs : List ℕ) → length us ≤ length (us ++ vs)
length-both [] vs = omega arith
length-both (u ∷ us) vs = one (length-both us vs)
  where
    one : length us ≤ length (us ++ vs) → length (u ∷ us) ≤ length (u ∷ us ++ vs)
    one h = omega arith

module _ (n i : ℕ) (f : View) (m : State) (x : Extra) (c : Settle) (inv : Inv n m) (v : Shows n f m x) (last : n ≡ LAST_SLOT + 1) where
  -- a block of the open batch lives
  pub open_lives : c.slot < n → (us vs : List ℕ) (d : ℕ) → open_blocks m c ≡ us ++ d ∷ vs → f.live d ≡ true
  open_lives lt us vs d e =
      v.lists.lived d ∙ one (m.stage (m.open_batch c.slot)) (m.life d) (open_stage n i f m x c inv v lt) (inv.places.boxed (m.open_batch c.slot) d) (rw e (count_in us vs d))
    where
      one : (g : Stage) (y : Life) → g ≡ Open c.slot → SameUnlessDead g (count d (open_blocks m c)) (is_in (m.open_batch c.slot) y) → 0 < count d (open_blocks m c) → lives y ≡ true
      one g y e h some = grind arith

  marked_then : (slot block marks : ℕ) (r : Marks n i m x (bare c) slot block marks)
      → Stepped n i c (Marking slot) f m x (record f { links = put f.links r.d slot }) [] (standing c (at.Marked slot block marks))
  marked_then slot block marks r =
      let y = m.open_batch c.slot in
      let q = r.tries in
      let m2 = Moves.marked m y slot in
      let op = open_stage n i f m x c inv v q.common.slot_lt in
      record {
        m2 = m2;
        x2 = x;
        moved = marked_moves n i c.slot m y slot inv op q.batch.holder q.batch.seen r.lt;
        written = marked_written n i c.slot y r.d slot r.us r.vs f m x v op q.batch.holder q.blocks (r.used ∙ sym (ap length q.batch.todo ∙ q.marked));
        pending = λ p. p;
        logged = refl;
        aside = aside_same m m2 refl refl;
        slot_is = refl;
        told = MarksIt slot r.lt q.batch.seen refl refl refl;
        fits = record {
          us = r.us;
          d = r.d;
          vs = r.vs;
          ts = r.ts ++ slot ∷ [];
          tries = tries_on n i m m2 x c slot marks (slot + 1) (marks + 1) r.us (r.d ∷ r.vs) r.ts (r.ts ++ slot ∷ []) q refl refl refl refl refl refl refl refl
              (here m.seen y (slot + 1)) (here m.todo y (m.todo y ++ slot ∷ []) ∙ ap (λ l. l ++ slot ∷ []) q.batch.todo)
              (length-more r.ts slot ∙ ap (λ k. k + 1) q.marked) (let k = q.marks_le in omega arith) (taken_more m.head r.ts slot q.active (r.below slot (omega arith)));
          used = r.used;
          block_is = r.block_is;
          lt = r.lt;
          below = r.below;
        };
      }

  -- the block behind one of the open batch
  next_of_open : c.slot < n → x.behind (m.open_batch c.slot) ≡ 0 → (us vs : List ℕ) (d : ℕ) → open_blocks m c ≡ us ++ d ∷ vs → f.nexts d ≡ first_or 0 vs
  next_of_open lt none us vs d e =
      chain_begin 0 f.nexts (f.nexts d) vs
      (chain_behind 0 f.nexts (first_or 0 (us ++ d ∷ vs)) us (d ∷ vs) (rw (none, e) at (open_chain n i f m x c inv v lt))).2

  nexts_then : (slot block marks w : ℕ) (r : Marked n i m x (bare c) slot block marks) → w ≡ f.nexts r.d
      → Stepped n i c Trying f m x f [] (standing c (behind slot w ((marks + 1) % 2 ^ 64)))
  nexts_then slot block marks w r is =
      let q = r.tries in
      let k : (marks + 1) % 2 ^ 64 ≡ marks + 1 = (let a = q.marks_le in let b = r.lt in omega arith) in
      let e : open_blocks m c ≡ (r.us ++ r.d ∷ []) ++ r.vs = q.blocks ∙ sym (append_assoc r.us (r.d ∷ []) r.vs) in
      quiet n i c Trying f m x (standing c (behind slot w ((marks + 1) % 2 ^ 64))) inv v refl (behind_part c slot w ((marks + 1) % 2 ^ 64))
      (subst (λ (u : ℕ). Fits n i f m x (standing c (behind slot w u))) (sym k)
      (behind_fits n i f m x c last slot w (marks + 1) (r.us ++ r.d ∷ []) r.vs r.ts (record {
        common = q.common;
        popped = q.popped;
        closing = q.closing;
        put = q.put;
        put_last = q.put_last;
        batch = q.batch;
        holds = q.holds;
        once = q.once;
        none_left = q.none_left;
        first = q.first;
        some = q.some;
        blocks = e;
        marked = q.marked;
        marks_le = q.marks_le;
        active = q.active;
      }) (length-more r.us r.d ∙ ap (λ a. a + 1) r.used) (is ∙ next_of_open q.common.slot_lt q.batch.behind r.us r.vs r.d q.blocks) r.lt r.below))

module _ (n i : ℕ) (f : View) (m : State) (x : Extra) (c : Settle) (inv : Inv n m) (v : Shows n f m x) (marks : ℕ) (r : Closes n i m x (bare c) marks)
    (d : ℕ) (l : List ℕ) (blocks : open_blocks m c ≡ d ∷ l) where
  abbrev batch : ℕ
  batch = m.open_batch c.slot

  abbrev shut : State
  shut = Moves.closed n m i c.slot batch

  open_is : m.stage batch ≡ Open c.slot
  open_is = open_stage n i f m x c inv v r.tries.common.slot_lt

  unused : m.stage m.next ≡ Unused
  unused = inv.batches.fresh m.next (omega arith)

  other : batch ≡ m.next → ⊥
  other e = one (m.stage batch) (m.stage m.next) open_is unused (ap m.stage e)
    where
      one : (g h : Stage) → g ≡ Open c.slot → h ≡ Unused → g ≡ h → ⊥
      one g h a b e = grind arith

  elsewhere : {X : Type 0} (g : ℕ → X) (k j : ℕ) (u : X) → (k ≡ j → ⊥) → put g k u j ≡ g j
  elsewhere g k j u ne = grind arith

  -- the batch that opens in its place is empty
  held_then : HoldingOf i shut x c.slot 0 0 0 []
  held_then =
      let o = here m.open_batch c.slot m.next in
      let blank = inv.batches.blank m.next unused in
      let tally : AtStage n Unused (m.counter m.next) (m.debt m.next) (m.seen m.next) (m.todo m.next) = rw unused at (inv.batches.tally m.next) in
      record {
        holder = r.tries.batch.holder;
        last = sym (ap link (ap last_of (ap m.blocks o ∙ blank)));
        behind = ap x.behind o ∙ (rw unused at (v.linkage.linked m.next));
        seen = ap (put m.seen batch n) o ∙ elsewhere m.seen batch m.next n other ∙ tally.2;
        todo = ap m.todo o ∙ tally.3;
      }

  rests : (x.rest batch ≡ m.blocks batch) × (x.aimed batch ≡ false)
  rests = one (m.stage batch) open_is (v.entries.rests batch)
    where
      one : (g : Stage) → g ≡ Open c.slot → RestIs g (x.rest batch) (x.aimed batch) (m.blocks batch) → (x.rest batch ≡ m.blocks batch) × (x.aimed batch ≡ false)
      one g e h = (grind arith, grind arith)

  done_none : total was_put (put m.debt batch (Moves.passed_all n (m.debt batch)) batch) n ≡ 0
  done_none =
      let tally : AtStage n (Open c.slot) (m.counter batch) (m.debt batch) (m.seen batch) (m.todo batch) = rw open_is at (inv.batches.tally batch) in
      ap (λ (e : ℕ → Debt). total was_put e n) (here m.debt batch (Moves.passed_all n (m.debt batch))) ∙ passed_total was_put n (m.debt batch) passed_put ∙ tally.1

  shuts_then : (rs ts : List ℕ) → x.rest batch ≡ rs → r.ts ≡ ts → Shuts n i shut x (bare (record c { last = 0 })) batch rs ts false marks 0
  shuts_then rs ts a b = let q = r.tries in record {
    common = record {
      slot_lt = q.common.slot_lt;
      taken = q.common.taken;
      outside = record { section = q.common.outside.section; defers = q.common.outside.defers };
      hand = q.common.hand;
      pends = q.common.pends;
      lefts = q.common.lefts;
      put_first = q.common.put_first;
    };
    popped = q.popped;
    closing = here m.closing i (batch + 1);
    put = q.put;
    put_last = q.put_last;
    batch = held_then;
    holds = q.holds;
    once = q.once;
    none_left = q.none_left;
    stage = elsewhere (put m.stage batch (Closing i)) m.next batch (Open c.slot) (λ e. other (sym e)) ∙ here m.stage batch (Closing i);
    first = q.first;
    rest_is = a;
    aimed_is = rests.1;
    todo = q.batch.todo ∙ b;
    done = done_none;
    left_is = ap length (sym b) ∙ q.marked;
    active = subst (λ (k : List ℕ). AllTaken m.head k) b q.active;
    some = λ e. absurd (cc (sym blocks ∙ e));
  }

  read_fits : (ts : List ℕ) → r.ts ≡ ts → (marks ≡ 0 → ⊥) → Fits n i f shut x (record c { last = 0; stands = at.Reads c.first marks 0 })
  read_fits [] e some = absurd (some (sym r.tries.marked ∙ ap length e))
  read_fits (t ∷ ts) e some = record {
    y = batch;
    before = [];
    d = d;
    rs = l;
    t = t;
    ts = ts;
    shuts = shuts_then (d ∷ l) (t ∷ ts) (rests.0 ∙ blocks) e;
    blocks = blocks;
    block_is = r.tries.first ∙ ap (first_or 0) blocks;
    room =
        let a = length-both r.us r.vs in
        let b = r.used in
        let k = r.tries.marked in
        let o : length (r.us ++ r.vs) ≡ length (d ∷ l) = ap length (sym r.tries.blocks ∙ blocks) in
        let p : length r.ts ≡ length (t ∷ ts) = ap length e in
        omega arith;
  }

  none_marked : (ts : List ℕ) → r.ts ≡ ts → marks ≡ 0 → ts ≡ []
  none_marked [] e z = refl
  none_marked (t ∷ ts) e z = absurd (let k = r.tries.marked in let p : length r.ts ≡ length (t ∷ ts) = ap length e in omega arith)

  closed_fits : (t : Bool) → (marks == 0) ≡ t
      → Fits n i f shut x (if t then record c { last = 0; stands = at.Sums 0 } else record c { last = 0; stands = at.Reads c.first marks 0 })
  closed_fits true z =
      let k = eqb-true marks 0 z in
      record { y = batch; rs = x.rest batch; shuts = subst (λ (u : ℕ). Shuts n i shut x (bare (record c { last = 0 })) batch (x.rest batch) [] false u 0) k (shuts_then (x.rest batch) [] refl (none_marked r.ts refl k)) }
  closed_fits false z = read_fits r.ts refl (eqb-false marks 0 z)

  -- no more slots are marked than the batch has blocks
  few_marked : length (m.todo batch) ≤ length (m.blocks batch)
  few_marked =
      let q = r.tries in
      let a : length (m.todo batch) ≡ length r.us = ap length q.batch.todo ∙ q.marked ∙ sym r.used in
      let b : length (m.blocks batch) ≡ length (r.us ++ r.vs) = ap length q.blocks in
      let k = length-both r.us r.vs in
      omega (arith, a, b, k)

  told_then : (d : Settle) → part d ≡ Pushing → Told n i c Trying m d shut
  told_then e k = let q = r.tries in ClosesIt q.batch.seen few_marked (λ z. absurd (cc (sym blocks ∙ z))) refl refl k
      (nothing_left n i f m x v c.slot c.list c.pending c.reclaiming c.put_first q.common q.none_left q.put)

  pub closed_stepped : (t : Bool) → (marks == 0) ≡ t
      → Stepped n i c Trying f m x (record f { counts = put f.counts d 0 }) [] (if t then record c { last = 0; stands = at.Sums 0 } else record c { last = 0; stands = at.Reads c.first marks 0 })
  closed_stepped true z = let q = r.tries in record {
    m2 = shut;
    x2 = x;
    moved = closed_moves n i c.slot m batch inv open_is q.batch.holder q.closing (λ t a b. absurd (let s = q.batch.seen in omega arith));
    written = closed_written n i c.slot batch d l f m x inv v open_is q.batch.holder blocks q.batch.behind;
    pending = λ p y e. p y (still_closed y e);
    logged = refl;
    aside = aside_same m shut refl refl;
    slot_is = refl;
    told = told_then _ refl;
    fits = closed_fits true z;
  }
    where
      still_closed : (y : ℕ) → put (put m.stage batch (Closing i)) m.next (Open c.slot) y ≡ Closed → m.stage y ≡ Closed
      still_closed y e = grind arith
  closed_stepped false z = let q = r.tries in record {
    m2 = shut;
    x2 = x;
    moved = closed_moves n i c.slot m batch inv open_is q.batch.holder q.closing (λ t a b. absurd (let s = q.batch.seen in omega arith));
    written = closed_written n i c.slot batch d l f m x inv v open_is q.batch.holder blocks q.batch.behind;
    pending = λ p y e. p y (still_closed y e);
    logged = refl;
    aside = aside_same m shut refl refl;
    slot_is = refl;
    told = told_then _ refl;
    fits = closed_fits false z;
  }
    where
      still_closed : (y : ℕ) → put (put m.stage batch (Closing i)) m.next (Open c.slot) y ≡ Closed → m.stage y ≡ Closed
      still_closed y e = grind arith

module _ {T : Type 0} (defers : T → Option ℕ) (n i : ℕ) (mem mem2 : Mem T) (m : State) (x : Extra) (c : Settle) (end : Settle × Settled T)
    (inv : Inv n m) (v : Shows n (view defers mem) m x) (last : n ≡ LAST_SLOT + 1) (words : HasWords defers n mem m.head) where
  pub marks_steps : (slot block marks : ℕ) → Marks n i m x (bare c) slot block marks → Steps Took value_at mem (marks_block c slot block marks) mem2 end
      → Went defers n i c (Marking slot) mem m x [] mem2 end
  marks_steps slot block marks r st =
      let live = open_lives n i (view defers mem) m x c inv v last r.tries.common.slot_lt r.us r.vs r.d r.tries.blocks in
      let l = stored mem (λ out. goes c (at.Marked slot block marks)) (Entry (block / 2048) LINK) slot mem2 end st in
      let e : mem2 ≡ with_word mem (Entry r.d LINK) slot = l.0 ∙ ap (λ u. with_word mem (Entry u LINK) slot) (of_link block r.d r.block_is) in
      went_written defers n i c (Marking slot) mem m x [] mem2 (Entry r.d LINK) slot _ (standing c (at.Marked slot block marks)) Goes end tt l.1 e
      (view_link defers mem r.d slot (with_word mem (Entry r.d LINK) slot) (wrote mem (Entry r.d LINK) slot (words.entries r.d LINK (omega arith) live)))
      (marked_then n i (view defers mem) m x c inv v last slot block marks r)

  pub marked_steps : (slot block marks : ℕ) → Marked n i m x (bare c) slot block marks → Steps Took value_at mem (marked c slot block marks) mem2 end
      → Went defers n i c Trying mem m x [] mem2 end
  marked_steps slot block marks r st =
      let l = loaded mem (marked_next c slot marks) (Entry (block / 2048) NEXT) mem2 end st in
      let w : l.0 ≡ (view defers mem).nexts r.d =
      sym (word_found mem (Entry (block / 2048) NEXT) l.0 l.1) ∙ ap (λ u. words_of mem (Entry u NEXT)) (of_link block r.d r.block_is) in
      went_loaded defers n i c Trying mem m x [] mem2 (standing c (behind slot l.0 ((marks + 1) % 2 ^ 64))) Goes end tt l.3 l.2
      (nexts_then n i (view defers mem) m x c inv v last slot block marks l.0 r w)

  pub closes_steps : (marks : ℕ) → Closes n i m x (bare c) marks → Steps Took value_at mem (closes c marks) mem2 end → Went defers n i c Trying mem m x [] mem2 end
  closes_steps marks r st =
      let k = some_last c.last (open_blocks m c) r.tries.batch.last r.tries.some in
      let first : c.first ≡ link k.0 = r.tries.first ∙ ap (first_or 0) k.2 in
      let live = open_lives n i (view defers mem) m x c inv v last r.tries.common.slot_lt [] k.1 k.0 k.2 in
      let l = stored mem (λ out. to (closed c marks)) (Entry (c.first / 2048) COUNT) 0 mem2 end st in
      let e : mem2 ≡ with_word mem (Entry k.0 COUNT) 0 = l.0 ∙ ap (λ u. with_word mem (Entry u COUNT) 0) (of_link c.first k.0 first) in
      went_written defers n i c Trying mem m x [] mem2 (Entry k.0 COUNT) 0 _ (closed c marks) Goes end tt l.1 e
      (view_count defers mem k.0 0 (with_word mem (Entry k.0 COUNT) 0) (wrote mem (Entry k.0 COUNT) 0 (words.entries k.0 COUNT (omega arith) live)))
      (closed_stepped n i (view defers mem) m x c inv v marks r k.0 k.1 k.2 (marks == 0) refl)

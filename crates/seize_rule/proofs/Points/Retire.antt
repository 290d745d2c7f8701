-- The program points by which a block goes into its slot's open batch.
use Rattle.std.specs.Prelude.{Option, Some, is_some, if◌then◌else◌, ◌==◌, ◌/◌}
use Rattle.std.proofs.Common.{◌≡◌, ℕ, ◌<◌, Bool, true, false, eqb, List, [], ◌∷◌, refl, arith, ap, sym, subst, ◌∙◌, eqb-true}
use Rattle.std.proofs.lemmas.Bool.{eqb-false}
use Rattle.seize_moves.specs.Given.SeizeWordsDeclared.at.At.TheVariants.{Entry}
use Rattle.seize_moves.specs.Given.SeizeWordsOp.{Found}
use Rattle.seize_moves.specs.Given.SeizeWordsMem.{Mem, Took, value_at, word_at, with_word}
use Rattle.seize_moves.specs.Given.SeizeWordsPlan.{Steps, Ends}
use Rattle.seize_moves.proofs.Given.SeizeWordsOneOwner.Operations.{loaded, stored}
use Rattle.seize_moves.specs.Given.SeizeDeclared.states.TheConstants.{NEXT, FIRST}
use Rattle.seize_moves.specs.Given.SeizeDeclared.rows.settle.Settle.{Settle}
use Rattle.seize_moves.specs.Given.SeizeDeclared.rows.settle.Settled.{Settled}
use Rattle.seize_moves.specs.Given.SeizeDeclared.rows.settle.Settled.TheVariants.{Goes}
use Rattle.seize_moves.specs.Given.SeizeDeclared.rows.settle.Settling.TheVariants as at
use Rattle.seize_moves.specs.Given.SeizeSettle.{standing, scanning, ended, to, goes, popped as popped_out, pops, first_read, firsts, batches, ends, appends}
use Rattle.seize_moves.proofs.Moves.State.Ghost.{put, State, Open, Life, IsIn, IsPending}
use Rattle.seize_moves.proofs.Moves.State.Rule.{Inv}
use Rattle.seize_moves.proofs.Moves.State.Together.{stays}
use Rattle.seize_moves.proofs.Moves.Moves.Tries.{first_pending}
use Rattle.seize_moves.proofs.Memory.Words.Named.{link, link-block, words_of, word_found, wrote}
use Rattle.seize_moves.proofs.Memory.Words.Chains.{Chain, chain_cons, first_or, last_from, last_of}
use Rattle.seize_moves.proofs.Memory.Words.View.{View, view, view_first, view_next}
use Rattle.seize_moves.proofs.Memory.Words.Shows.{Extra, Shows, Written, FirstIs, lives, has_next}
use Rattle.seize_moves.proofs.Memory.Words.Apart.{unlisted_popped, boxed_none}
use Rattle.seize_moves.proofs.Memory.Written.Retire.{popped, popped_written, first_written, next_written, behind_written, ended_by, in_batch}
use Rattle.seize_moves.proofs.Memory.Written.Append.{awaits}
use Rattle.seize_rule.proofs.Points.Aside.{aside_same}
use Rattle.seize_rule.proofs.Points.Told.{Plain, flush_part, part, Stays, Begins}
use Rattle.seize_rule.proofs.Points.NothingLeft.{nothing_left, none_pending}
use Rattle.seize_rule.proofs.Points.Stepped.{HasWords, unmoved, quiet, Went, went_loaded, went_written}
use Rattle.seize_rule.proofs.Points.Known.{Holding, Putting, open_blocks, MayHold, Pops, Flushes, Firsts, Batches, Ends as EndsAt, Appends, FirstsOf, Fits, bare}

-- of links

pub of_link : (w b : ℕ) → w ≡ link b → w / 2048 ≡ b
of_link w b e = ap (λ a. a / 2048) e ∙ link-block b

last_pos : (e : ℕ) (next : ℕ → ℕ) (w c : ℕ) (l : List ℕ) → Chain e next w (c ∷ l) → 0 < last_from c l
last_pos e next w c [] k = k.0
last_pos e next w c (d ∷ l) k = last_pos e next (next c) d l k.2

-- blocks that are linked: none where there is no last one
pub no_last : (e : ℕ) (next : ℕ → ℕ) (w : ℕ) (l : List ℕ) → Chain e next w l → link (last_of l) ≡ 0 → l ≡ []
no_last e next w [] k h = refl
no_last e next w (c ∷ l) k h = absurd (let p = last_pos e next w c l k in omega arith)

pub some_last : (last : ℕ) (l : List ℕ) → last ≡ link (last_of l) → (last ≡ 0 → ⊥) → (c : ℕ) × (r : List ℕ) × (l ≡ c ∷ r) × (last ≡ link (last_from c r))
some_last last [] h ne = absurd (ne h)
some_last last (c ∷ l) h ne = (c, l, refl, h)

-- a block is retired
part_of_block : (block : ℕ) → (block ≡ 0 → ⊥) → flush_part (eqb block 0) ≡ Plain
part_of_block block ne = one (eqb block 0) (eqb-true block 0)
  where
    one : (t : Bool) → (t ≡ true → block ≡ 0) → flush_part t ≡ Plain
    one true e = absurd (ne (e refl))
    one false e = refl

module _ (n i : ℕ) (f : View) (m : State) (x : Extra) (c : Settle) (inv : Inv n m) (v : Shows n f m x) where
  -- the blocks of the open batch that the row holds
  pub open_stage : c.slot < n → m.stage (m.open_batch c.slot) ≡ Open c.slot
  open_stage l = inv.batches.mine c.slot l

  pub open_chain : c.slot < n → Chain (x.behind (m.open_batch c.slot)) f.nexts (first_or (x.behind (m.open_batch c.slot)) (open_blocks m c)) (open_blocks m c)
  open_chain l = rw (open_stage l) at (v.linkage.linked (m.open_batch c.slot))

  pub none_open : c.slot < n → c.last ≡ link (last_of (open_blocks m c)) → c.last ≡ 0 → open_blocks m c ≡ []
  none_open l e z = no_last (x.behind (m.open_batch c.slot)) f.nexts _ (open_blocks m c) (open_chain l) (cc (e, z))

  pub lives_pending : (b : ℕ) → m.life b ≡ IsPending i → f.live b ≡ true
  lives_pending b e = v.lists.lived b ∙ ap lives e

  -- the word of its batch's first block that the last one has
  pub first_of_last : c.slot < n → (d : ℕ) (l : List ℕ) → open_blocks m c ≡ d ∷ l → f.firsts (last_from d l) ≡ first_or 0 (open_blocks m c)
  first_of_last lt d l e = one (m.life (last_from d l)) (in_batch n c.slot (m.open_batch c.slot) d l m inv (open_stage lt) e).0 (v.linkage.first (last_from d l))
    where
      one : (y : Life) → y ≡ IsIn (m.open_batch c.slot) → FirstIs (f.firsts (last_from d l)) m.blocks y → f.firsts (last_from d l) ≡ first_or 0 (open_blocks m c)
      one y e h = rw e at h

  pub firsts_fits : (block : ℕ) (d : Settle) → (block ≡ 0 → ⊥) → Firsts n i m x d block → FirstsOf (eqb block 0) n i m x d block
  firsts_fits block d ne h = one (eqb block 0) (eqb-true block 0)
    where
      one : (t : Bool) → (t ≡ true → block ≡ 0) → FirstsOf t n i m x d block
      one true e = absurd (ne (e refl))
      one false e = h

module _ {T : Type 0} (defers : T → Option ℕ) (n i : ℕ) (mem mem2 : Mem T) (m : State) (x : Extra) (c : Settle) (end : Settle × Settled T)
    (inv : Inv n m) (v : Shows n (view defers mem) m x) where
  -- what the row knows then of the block that it retires
  popped_putting : (b : ℕ) (bs : List ℕ) (first : ℕ) → Pops n i m x (bare c) → m.pending i ≡ b ∷ bs → 0 < b → c.pending ≡ link b
      → Putting n i m (popped (view defers mem) x i b) (bare (record c { pending = (view defers mem).nexts b; first = first })) c.pending b bs 0
  popped_putting b bs first r pend some is =
      let q = r.retiring.rest in
      let h : Holding i m x (bare c) 0 0 [] = subst (λ (t : Bool). MayHold t i m x (bare c)) (r.retiring.holds) q.batch in
      record {
        common = record {
          slot_lt = q.common.slot_lt;
          taken = q.common.taken;
          outside = q.common.outside;
          hand = q.common.hand;
          pends = grind arith;
          lefts = q.common.lefts;
          put_first = q.common.put_first;
        };
        popped = grind arith;
        closing = q.closing;
        put = q.put r.retiring.none_left;
        put_last = q.put_last;
        batch = record { holder = h.holder; last = h.last; behind = h.behind; seen = h.seen; todo = h.todo };
        holds = r.retiring.holds;
        once = flushes r.retiring.none_left;
        none_left = r.retiring.none_left;
        pending = pend;
        block_is = is;
        some_block = some;
      }
    where
      flushes : c.reclaiming ≡ 0 → c.flushing ≡ false
      flushes k = one c.flushing refl
        where
          one : (t : Bool) → c.flushing ≡ t → t ≡ false
          one true e = absurd (r.some ((r.retiring.rest.tries e).0))
          one false e = refl

  -- the first block to be retired is taken off its list
  pops_at : (b : ℕ) (bs : List ℕ) → Pops n i m x (bare c) → m.pending i ≡ b ∷ bs → 0 < b → c.pending ≡ link b → (t : Bool) → (c.last == 0) ≡ t → mem2 ≡ mem
      → Ends (value_at mem) (if t then to {T = T} (record c { pending = (view defers mem).nexts b; first = c.pending; stands = at.Batches c.pending }) else to (record c { pending = (view defers mem).nexts b; stands = at.Firsts c.pending })) end
      → Went defers n i c Plain mem m x [] mem2 end
  pops_at b bs r pend some is true z same e =
      let q = r.retiring.rest in
      let h : Holding i m x (bare c) 0 0 [] = subst (λ (t : Bool). MayHold t i m x (bare c)) (r.retiring.holds) q.batch in
      went_loaded defers n i c Plain mem m x [] mem2 (record c { pending = (view defers mem).nexts b; first = c.pending; stands = at.Batches c.pending }) Goes end tt e same
      (record {
        m2 = m;
        x2 = popped (view defers mem) x i b;
        moved = stays n i c.slot m inv;
        written = popped_written n i b bs (view defers mem) m x v pend q.popped;
        pending = λ p. p;
        logged = refl;
        aside = aside_same m m refl refl;
        slot_is = refl;
        told = Stays refl refl;
        fits = record {
          b = b;
          bs = bs;
          putting = popped_putting b bs c.pending r pend some is;
          first = rw (none_open n i (view defers mem) m x c inv v q.common.slot_lt h.last (eqb-true c.last 0 z)) is;
        };
      })
  pops_at b bs r pend some is false z same e =
      let q = r.retiring.rest in
      let ne : c.pending ≡ 0 → ⊥ = r.some in
      went_loaded defers n i c Plain mem m x [] mem2 (record c { pending = (view defers mem).nexts b; stands = at.Firsts c.pending }) Goes end tt e same
      (record {
        m2 = m;
        x2 = popped (view defers mem) x i b;
        moved = stays n i c.slot m inv;
        written = popped_written n i b bs (view defers mem) m x v pend q.popped;
        pending = λ p. p;
        logged = refl;
        aside = aside_same m m refl refl;
        slot_is = refl;
        told = Stays refl (part_of_block c.pending ne);
        fits = firsts_fits n i (view defers mem) m (popped (view defers mem) x i b) c inv (popped_written n i b bs (view defers mem) m x v pend q.popped).shows c.pending _ ne (record {
          b = b;
          bs = bs;
          putting = popped_putting b bs c.first r pend some is;
          some = eqb-false c.last 0 z;
        });
      })

  pub pops_steps : Pops n i m x (bare c) → Steps Took value_at mem (pops c) mem2 end → Went defers n i c Plain mem m x [] mem2 end
  pops_steps r st =
      let l = loaded mem (popped_out c) (Entry (c.pending / 2048) NEXT) mem2 end st in
      let q = r.retiring.rest in
      let k = chain_cons 0 (view defers mem).nexts (x.pends i) (m.pending i) (λ e. r.some (sym q.common.pends ∙ e)) (rw q.popped at (v.lists.pended i)) in
      let is : c.pending ≡ link k.0 = sym q.common.pends ∙ k.4 in
      let w : l.0 ≡ (view defers mem).nexts k.0 = sym (word_found mem (Entry (c.pending / 2048) NEXT) l.0 l.1) ∙ ap (λ a. words_of mem (Entry a NEXT)) (of_link c.pending k.0 is) in
      pops_at k.0 k.1 r k.2 k.3 is (c.last == 0) refl l.2 (subst (λ (u : ℕ). Ends (value_at mem) (popped_out c (Found u)) end) w l.3)

  -- the first block of the open batch is asked for
  firsts_at : (block : ℕ) → Firsts n i m x (bare c) block → (t : Bool) → (block == 0) ≡ t → mem2 ≡ mem
      → Ends (value_at mem) (if t then to {T = T} (scanning (record c { first = first_or 0 (open_blocks m c) })) else to (record c { first = first_or 0 (open_blocks m c); stands = at.Batches block })) end
      → Went defers n i c (flush_part (eqb block 0)) mem m x [] mem2 end
  firsts_at block r true z same e = absurd (let p = r.putting.block_is in let q = r.putting.some_block in let k = eqb-true block 0 z in omega arith)
  firsts_at block r false z same e =
      let h = r.putting.batch in
      let k = some_last c.last (open_blocks m c) h.last r.some in
      went_loaded defers n i c (flush_part (eqb block 0)) mem m x [] mem2 (record c { first = first_or 0 (open_blocks m c); stands = at.Batches block }) Goes end tt e same
      (quiet n i c (flush_part (eqb block 0)) (view defers mem) m x (record c { first = first_or 0 (open_blocks m c); stands = at.Batches block }) inv v refl (sym (ap flush_part z)) (record {
        b = r.b;
        bs = r.bs;
        putting = record {
          common = r.putting.common;
          popped = r.putting.popped;
          closing = r.putting.closing;
          put = r.putting.put;
          put_last = r.putting.put_last;
          batch = r.putting.batch;
          holds = r.putting.holds;
          once = r.putting.once;
          none_left = r.putting.none_left;
          pending = r.putting.pending;
          block_is = r.putting.block_is;
          some_block = r.putting.some_block;
        };
        first = rw (k.2) refl;
      }))

  -- or the batch is to be tried
  flushes_at : (block : ℕ) → block ≡ 0 → Flushes n i m x (bare c) → (t : Bool) → (block == 0) ≡ t → mem2 ≡ mem
      → Ends (value_at mem) (if t then to {T = T} (scanning (record c { first = first_or 0 (open_blocks m c) })) else to (record c { first = first_or 0 (open_blocks m c); stands = at.Batches block })) end
      → Went defers n i c (flush_part (eqb block 0)) mem m x [] mem2 end
  flushes_at block zero_is r false z same e = absurd (eqb-false block 0 z zero_is)
  flushes_at block zero_is r true z same e =
      let q = r.retiring.rest in
      let h : Holding i m x (bare c) 0 0 [] = subst (λ (t : Bool). MayHold t i m x (bare c)) (r.retiring.holds) q.batch in
      went_loaded defers n i c (flush_part (eqb block 0)) mem m x [] mem2 (scanning (record c { first = first_or 0 (open_blocks m c) })) Goes end tt e same
      (unmoved n i c (flush_part (eqb block 0)) (view defers mem) m x (scanning (record c { first = first_or 0 (open_blocks m c) })) inv v refl
      (Begins refl (ap flush_part z) refl (nothing_left n i (view defers mem) m x v c.slot c.list c.pending c.reclaiming c.put_first q.common r.retiring.none_left (q.put r.retiring.none_left))
      (none_pending n i (view defers mem) m x v c.slot c.list c.pending c.reclaiming c.put_first q.common q.popped r.none_pending)
      (λ e. r.some (h.last ∙ ap link (ap last_of e)))
      (record { seen = h.seen; todo = h.todo }))
      (record {
        us = [];
        vs = open_blocks m c;
        ts = [];
        tries = record {
          common = q.common;
          popped = q.popped;
          closing = q.closing;
          put = q.put r.retiring.none_left;
          put_last = q.put_last;
          batch = h;
          holds = r.retiring.holds;
          once = r.once;
          none_left = r.retiring.none_left;
          first = refl;
          some = r.some;
          blocks = refl;
          marked = refl;
          marks_le = omega arith;
          active = tt;
        };
        used = refl;
        block_is = refl;
        lt = omega (arith, q.common.slot_lt);
        below = λ t l. absurd (omega arith);
      }))

  first_found : (w : ℕ) → word_at mem (Entry (c.last / 2048) FIRST) ≡ Some w → c.slot < n → c.last ≡ link (last_of (open_blocks m c)) → (c.last ≡ 0 → ⊥)
      → w ≡ first_or 0 (open_blocks m c)
  first_found w found lt last some =
      let k = some_last c.last (open_blocks m c) last some in
      sym (word_found mem (Entry (c.last / 2048) FIRST) w found) ∙ ap (λ a. words_of mem (Entry a FIRST)) (of_link c.last (last_from k.0 k.1) k.3)
      ∙ first_of_last n i (view defers mem) m x c inv v lt k.0 k.1 k.2

  pub firsts_steps : (block : ℕ) → FirstsOf (eqb block 0) n i m x (bare c) block → Steps Took value_at mem (firsts c block) mem2 end → Went defers n i c (flush_part (eqb block 0)) mem m x [] mem2 end
  firsts_steps block r st = let l = loaded mem (first_read c block) (Entry (c.last / 2048) FIRST) mem2 end st in one l.0 l.1 l.2 l.3 (eqb block 0) (eqb-true block 0) r
    where
      one : (w : ℕ) → word_at mem (Entry (c.last / 2048) FIRST) ≡ Some w → mem2 ≡ mem → Ends (value_at mem) (first_read c block (Found w)) end
          → (t : Bool) → (t ≡ true → block ≡ 0) → FirstsOf t n i m x (bare c) block → Went defers n i c (flush_part (eqb block 0)) mem m x [] mem2 end
      one w found same ends true e r =
          let h : Holding i m x (bare c) 0 0 [] = subst (λ (t : Bool). MayHold t i m x (bare c)) (r.retiring.holds) r.retiring.rest.batch in
          flushes_at block (e refl) r (block == 0) refl same
          (subst (λ (u : ℕ). Ends (value_at mem) (first_read c block (Found u)) end) (first_found w found r.retiring.rest.common.slot_lt h.last r.some) ends)
      one w found same ends false e r =
          firsts_at block r (block == 0) refl same
          (subst (λ (u : ℕ). Ends (value_at mem) (first_read c block (Found u)) end) (first_found w found r.putting.common.slot_lt r.putting.batch.last r.some) ends)

  -- the block is told its batch
  pub batches_steps : (block : ℕ) → HasWords defers n mem m.head → Batches n i m x (bare c) block → Steps Took value_at mem (batches c block) mem2 end
      → Went defers n i c Plain mem m x [] mem2 end
  batches_steps block has r st =
      let p = r.putting in
      let life = first_pending n i m r.b r.bs inv p.pending in
      let live = lives_pending n i (view defers mem) m x c inv v r.b life in
      let a = of_link block r.b p.block_is in
      let l = stored mem (λ out. goes c (at.Ends block)) (Entry (block / 2048) FIRST) c.first mem2 end st in
      let e : mem2 ≡ with_word mem (Entry r.b FIRST) c.first = l.0 ∙ ap (λ u. with_word mem (Entry u FIRST) c.first) a in
      went_written defers n i c Plain mem m x [] mem2 (Entry r.b FIRST) c.first _ (standing c (at.Ends block)) Goes end tt l.1 e
      (view_first defers mem r.b c.first (with_word mem (Entry r.b FIRST) c.first) (wrote mem (Entry r.b FIRST) c.first (has.entries r.b FIRST (omega arith) live)))
      (record {
        m2 = m;
        x2 = x;
        moved = stays n i c.slot m inv;
        written = first_written n i r.b c.first (view defers mem) m x v life;
        pending = λ p. p;
        logged = refl;
        aside = aside_same m m refl refl;
        slot_is = refl;
        told = Stays refl refl;
        fits = record { batches = r; firsts = grind arith };
      })

  -- it links to none
  ended_at : (block : ℕ) (r : EndsAt n i (view defers mem) m x (bare c) block) → Written n i (view defers mem) m x (record (view defers mem) { nexts = put (view defers mem).nexts r.batches.b 0 }) m x
      → (t : Bool) → (c.last == 0) ≡ t
      → Fits n i (record (view defers mem) { nexts = put (view defers mem).nexts r.batches.b 0 }) m x (standing c (if t then at.Counts block else at.Appends block))
  ended_at block r w true z =
      let p = r.batches.putting in
      let none = none_open n i (view defers mem) m x c inv v p.common.slot_lt p.batch.last (eqb-true c.last 0 z) in
      record {
        b = r.batches.b;
        bs = r.batches.bs;
        putting = record {
          common = p.common;
          popped = p.popped;
          closing = p.closing;
          put = p.put;
          put_last = p.put_last;
          batch = record { holder = p.batch.holder; last = p.batch.last; behind = p.batch.behind ∙ sym (ap (awaits r.batches.b) none); seen = p.batch.seen; todo = p.batch.todo };
          holds = p.holds;
          once = p.once;
          none_left = p.none_left;
          pending = p.pending;
          block_is = p.block_is;
          some_block = p.some_block;
        };
        first = r.batches.first;
        firsts = r.firsts;
        next = grind arith;
      }
  ended_at block r w false z = record {
    ends = record { batches = r.batches; firsts = r.firsts };
    next = grind arith;
    some = eqb-false c.last 0 z;
  }

  pub ends_steps : (block : ℕ) → HasWords defers n mem m.head → EndsAt n i (view defers mem) m x (bare c) block → Steps Took value_at mem (ends c block) mem2 end
      → Went defers n i c Plain mem m x [] mem2 end
  ends_steps block has r st =
      let p = r.batches.putting in
      let b = r.batches.b in
      let life = first_pending n i m b r.batches.bs inv p.pending in
      let live = lives_pending n i (view defers mem) m x c inv v b life in
      let a = of_link block b p.block_is in
      let l = stored mem (λ out. goes c (ended c block)) (Entry (block / 2048) NEXT) 0 mem2 end st in
      let e : mem2 ≡ with_word mem (Entry b NEXT) 0 = l.0 ∙ ap (λ u. with_word mem (Entry u NEXT) 0) a in
      let w = next_written n i b 0 (view defers mem) m x v (rw life refl)
      (unlisted_popped m.stage m.blocks m.left m.pending m.puts m.deferred m.carrier m.life x.popped i b r.batches.bs inv.places p.pending p.popped)
      (λ y live. boxed_none (m.stage y) (m.blocks y) b y (m.life b) (inv.places.boxed y b) (grind (arith, life)) live)
      (λ j ne h. other j ne (m.life b) life h) in
      went_written defers n i c Plain mem m x [] mem2 (Entry b NEXT) 0 _ (standing c (ended c block)) Goes end tt l.1 e
      (view_next defers mem b 0 (with_word mem (Entry b NEXT) 0) (wrote mem (Entry b NEXT) 0 (has.entries b NEXT (omega arith) live)))
      (record {
        m2 = m;
        x2 = x;
        moved = stays n i c.slot m inv;
        written = w;
        pending = λ p. p;
        logged = refl;
        aside = aside_same m m refl refl;
        slot_is = refl;
        told = Stays refl (ended_part (c.last == 0));
        fits = ended_at block r w (c.last == 0) refl;
      })
    where
      ended_part : (t : Bool) → part (standing c (if t then at.Counts block else at.Appends block)) ≡ Plain
      ended_part true = refl
      ended_part false = refl

      other : (j : ℕ) → (j ≡ i → ⊥) → (y : Life) → y ≡ IsPending i → has_next j m.holder m.stage y ≡ true → ⊥
      other j ne y e h = grind arith

  -- the block before links to it
  pub appends_steps : (block : ℕ) → HasWords defers n mem m.head → Appends n i (view defers mem) m x (bare c) block → Steps Took value_at mem (appends c block) mem2 end
      → Went defers n i c Plain mem m x [] mem2 end
  appends_steps block has r st =
      let p = r.ends.batches.putting in
      let b = r.ends.batches.b in
      let y = m.open_batch c.slot in
      let k = some_last c.last (open_blocks m c) p.batch.last r.some in
      let d = last_from k.0 k.1 in
      let op = open_stage n i (view defers mem) m x c inv v p.common.slot_lt in
      let life = first_pending n i m b r.ends.batches.bs inv p.pending in
      let mine = (in_batch n c.slot y k.0 k.1 m inv op k.2).0 in
      let live : is_some (value_at mem d) ≡ true = v.lists.lived d ∙ ap lives mine in
      let l = stored mem (λ out. goes c (at.Counts block)) (Entry (c.last / 2048) NEXT) block mem2 end st in
      let e : mem2 ≡ with_word mem (Entry d NEXT) block = l.0 ∙ ap (λ u. with_word mem (Entry u NEXT) block) (of_link c.last d k.3) in
      let apart : b ≡ d → ⊥ = (λ e. two (m.life b) (m.life d) life mine (ap m.life e)) in
      went_written defers n i c Plain mem m x [] mem2 (Entry d NEXT) block _ (standing c (at.Counts block)) Goes end tt l.1 e
      (view_next defers mem d block (with_word mem (Entry d NEXT) block) (wrote mem (Entry d NEXT) block (has.entries d NEXT (omega arith) live)))
      (record {
        m2 = m;
        x2 = ended_by x y block;
        moved = stays n i c.slot m inv;
        written = behind_written n i c.slot y k.0 block k.1 (view defers mem) m x inv v op p.batch.holder k.2;
        pending = λ p. p;
        logged = refl;
        aside = aside_same m m refl refl;
        slot_is = refl;
        told = Stays refl refl;
        fits = record {
          b = b;
          bs = r.ends.batches.bs;
          putting = record {
            common = record { slot_lt = p.common.slot_lt; taken = p.common.taken; outside = p.common.outside; hand = p.common.hand; pends = p.common.pends; lefts = p.common.lefts; put_first = p.common.put_first };
            popped = p.popped;
            closing = p.closing;
            put = p.put;
            put_last = p.put_last;
            batch = record { holder = p.batch.holder; last = p.batch.last; behind = here x.behind y block ∙ p.block_is ∙ sym (ap (awaits b) k.2); seen = p.batch.seen; todo = p.batch.todo };
            holds = p.holds;
            once = p.once;
            none_left = p.none_left;
            pending = p.pending;
            block_is = p.block_is;
            some_block = p.some_block;
          };
          first = r.ends.batches.first;
          firsts = r.ends.firsts;
          next = there (view defers mem).nexts d block b apart ∙ r.next;
        };
      })
    where
      two : (y z : Life) → y ≡ IsPending i → z ≡ IsIn (m.open_batch c.slot) → y ≡ z → ⊥
      two y z a b e = grind arith

      here : (g : ℕ → ℕ) (k u : ℕ) → put g k u k ≡ u
      here g k u = grind arith

      there : (g : ℕ → ℕ) (k u a : ℕ) → (a ≡ k → ⊥) → put g k u a ≡ g a
      there g k u a ne = grind arith

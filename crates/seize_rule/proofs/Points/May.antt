-- A settling row may take its next step: the words that it reads and writes are there.
use Rattle.std.specs.Prelude.{◌%◌, ◌^◌, ◌-◌, Option, Some, None, IsSome, if◌then◌else◌, nat_lt, ◌==◌, ◌/◌}
use Rattle.std.proofs.Common.{◌≡◌, ℕ, zero, suc, ◌+◌, ◌<◌, Bool, true, false, eqb, List, [], ◌∷◌, ◌++◌, refl, arith, ap, sym, subst, ◌∙◌}
use Rattle.seize_moves.specs.Given.SeizeWordsDeclared.at.At.TheVariants.{Slot, Entry, Word}
use Rattle.seize_moves.specs.Given.SeizeWordsMem.{Mem, Can, Took, value_at, word_at, with_word}
use Rattle.seize_moves.specs.Given.SeizeWordsPlan.{Then, May, MaySee}
use Rattle.seize_moves.proofs.Given.SeizeWordsOneOwner.Operations.{may_load, may_store, may_add, may_exchange, may_take}
use Rattle.seize_moves.specs.Given.SeizeDeclared.states.TheConstants.{HEAD, BATCH, NEXT, LINK, FIRST, COUNT, ACTIVE, NEVER, HELD}
use Rattle.seize_moves.specs.Given.SeizeDeclared.rows.settle.Settle.{Settle}
use Rattle.seize_moves.specs.Given.SeizeDeclared.rows.settle.Settling.{Settling}
use Rattle.seize_moves.specs.Given.SeizeDeclared.rows.settle.Settling.TheVariants as at
use Rattle.seize_moves.specs.Given.SeizeSettle as plans
use Rattle.seize_moves.specs.Given.SeizeSettle.{plan_at}
use Rattle.seize_moves.specs.Waiting.Held.{count}
use Rattle.seize_moves.proofs.Moves.State.Ghost.{Entry as Entry', Head, Stage, Closing, Life, IsIn, IsPending, State, is_never, is_in, is_doomed, is_pending}
use Rattle.seize_moves.proofs.Moves.State.Rule.{Inv, IsLive, SameUnlessDead}
use Rattle.seize_moves.proofs.Moves.Moves.Tries.{first_pending}
use Rattle.seize_moves.proofs.Memory.Words.Named.{link}
use Rattle.seize_moves.proofs.Memory.Words.Chains.{chain_cons, first_or, last_of, count_last, count_first}
use Rattle.seize_moves.proofs.Memory.Words.View.{View, view}
use Rattle.seize_moves.proofs.Memory.Words.Shows.{Extra, Shows, Spot, InHands, SpotLife, FirstIs, lives}
use Rattle.seize_moves.proofs.Memory.Written.Append.{head_or}
use Rattle.seize_moves.proofs.Memory.Written.Counts.{shut_loose, is_shut}
use Rattle.seize_rule.proofs.Points.Stepped.{HasWords}
use Rattle.seize_rule.proofs.Points.Known.{list_word, open_blocks, Holding, MayHold, AllTaken, FirstsOf, FitsAt, bare}
use Rattle.seize_rule.proofs.Points.KnownLasts.{in_hands}
use Rattle.seize_rule.proofs.Points.Retire.{of_link, open_stage}
use Rattle.seize_rule.proofs.Points.Counts.{head_lives, head_link}

pub see_if : {T R : Type 0} (shown : ℕ → Option T) (t : Bool) (a b : Then T R) → MaySee shown a → MaySee shown b → MaySee shown (if t then a else b)
see_if shown true a b p q = p
see_if shown false a b p q = q

taken_in : (head : ℕ → Head) (t : ℕ) (ts : List ℕ) → AllTaken head (t ∷ ts) → is_never (head t) ≡ false
taken_in head t ts h = h.0

-- blocks that live

module _ (n i : ℕ) (f : View) (m : State) (x : Extra) (inv : Inv n m) (v : Shows n f m x) where
  live_as : (b : ℕ) (l : Life) → m.life b ≡ l → lives l ≡ true → f.live b ≡ true
  live_as b l e h = v.lists.lived b ∙ ap lives e ∙ h

  -- a block of a batch that is not reclaimed
  pub live_in : (y b : ℕ) → IsLive (m.stage y) ≡ true → 0 < count b (m.blocks y) → f.live b ≡ true
  live_in y b live some = v.lists.lived b ∙ one (m.stage y) (m.life b) live (inv.places.boxed y b) some
    where
      one : (g : Stage) (l : Life) → IsLive g ≡ true → SameUnlessDead g (count b (m.blocks y)) (is_in y l) → 0 < count b (m.blocks y) → lives l ≡ true
      one g l live h some = grind arith

  live_left : (b : ℕ) → 0 < count b (m.left i) → f.live b ≡ true
  live_left b some = v.lists.lived b ∙ one (m.life b) (inv.places.to_take i b)
    where
      one : (l : Life) → count b (m.left i) ≡ is_doomed i l → lives l ≡ true
      one l h = grind arith

  live_put : (b : ℕ) → 0 < count b (m.puts i) → f.live b ≡ true
  live_put b some = v.lists.lived b ∙ one (m.life b) (inv.places.to_retire i b)
    where
      one : (l : Life) → count b (m.pending i) + count b (m.puts i) ≡ is_pending i l → lives l ≡ true
      one l h = grind arith

  live_pending : (b : ℕ) (bs : List ℕ) → m.pending i ≡ b ∷ bs → f.live b ≡ true
  live_pending b bs e = live_as b (IsPending i) (first_pending n i m b bs inv e) refl

  live_loose : (e : Entry') (es : List Entry') → m.loose i ≡ e ∷ es → f.live e.block ≡ true
  live_loose e es h = live_as e.block (IsIn e.batch) (one (x.spot e.block) (m.life e.block) (in_hands x.spot i e es (rw h at (v.entries.hands i e.batch e.block))) (v.entries.spots e.block)) refl
    where
      one : (p : Spot) (l : Life) → p ≡ InHands i e.batch → SpotLife p l → l ≡ IsIn e.batch
      one p l h k = grind arith

pub shut_live : (g : Stage) → is_shut g ≡ true → IsLive g ≡ true
shut_live g h = grind arith

count_last_of : (l : List ℕ) → (l ≡ [] → ⊥) → 0 < count (last_of l) l
count_last_of [] h = absurd (h refl)
count_last_of (c ∷ l) h = count_last c l

pub count_mid : (us vs : List ℕ) (d : ℕ) → 0 < count d (us ++ d ∷ vs)
count_mid [] vs d = grind arith
count_mid (u ∷ us) vs d = one (count_mid us vs d)
  where
    one : 0 < count d (us ++ d ∷ vs) → 0 < count d (u ∷ us ++ d ∷ vs)
    one h = omega arith

module _ {T : Type 0} (defers : T → Option ℕ) (n i : ℕ) (mem : Mem T) (m : State) (x : Extra) (c : Settle) (inv : Inv n m) (v : Shows n (view defers mem) m x)
    (words : HasWords defers n mem m.head) where
  -- the entry of a block that a word names
  entry_at : (w b k : ℕ) → w ≡ link b → k < 4 → (view defers mem).live b ≡ true → IsSome (word_at mem (Entry (w / 2048) k))
  entry_at w b k e l live = subst (λ (a : ℕ). IsSome (word_at mem (Entry a k))) (sym (of_link w b e)) (words.entries b k l live)

  -- the last block of the open batch that the row holds
  last_lives : c.slot < n → c.last ≡ link (last_of (open_blocks m c)) → (c.last ≡ 0 → ⊥) → (view defers mem).live (last_of (open_blocks m c)) ≡ true
  last_lives lt e ne =
      live_in n i (view defers mem) m x inv v (m.open_batch c.slot) (last_of (open_blocks m c)) (rw (open_stage n i (view defers mem) m x c inv v lt) refl)
      (count_last_of (open_blocks m c) (λ z. ne (e ∙ ap link (ap last_of z))))

  -- the first block of a batch
  first_lives : (y w : ℕ) → IsLive (m.stage y) ≡ true → w ≡ first_or 0 (m.blocks y) → (m.blocks y ≡ [] → ⊥) → IsSome (word_at mem (Entry (w / 2048) COUNT))
  first_lives y w live e ne = one (m.blocks y) refl
    where
      one : (l : List ℕ) → m.blocks y ≡ l → IsSome (word_at mem (Entry (w / 2048) COUNT))
      one [] h = absurd (ne h)
      one (d ∷ l) h = entry_at w d COUNT (e ∙ ap (first_or 0) h) (omega arith) (live_in n i (view defers mem) m x inv v y d live (rw h (count_first d l)))

  -- the heads of the slots up to the one behind those ever taken
  head_there : (slot : ℕ) → slot < n → is_never (m.head c.slot) ≡ false → ((t : ℕ) → t < slot → is_never (m.head t) ≡ false) → IsSome (word_at mem (Slot slot HEAD))
  head_there zero lt taken below = words.slots 0 HEAD (omega arith) (one (is_never (m.head 0)) refl)
    where
      one : (t : Bool) → is_never (m.head 0) ≡ t → is_never (m.head 0) ≡ false
      one true e = absurd (cc (inv.slots.prefix 0 c.slot (omega arith) e, taken))
      one false e = e
  head_there (suc t) lt taken below =
      let e : t + 1 ≡ suc t = omega arith in
      subst (λ (k : ℕ). IsSome (word_at mem (Slot k HEAD))) e (words.behind t HEAD (omega arith) (below t (omega arith)) (omega arith))

  batch_there : is_never (m.head c.slot) ≡ false → IsSome (word_at mem (Slot c.slot BATCH))
  batch_there taken = words.slots c.slot BATCH (omega arith) taken

  put_there : c.put_last ≡ link (last_of (m.puts i)) → (c.put_first ≡ 0 → ⊥) → x.put_first i ≡ c.put_first → IsSome (word_at mem (Entry (c.put_last / 2048) NEXT))
  put_there e ne is = entry_at c.put_last (last_of (m.puts i)) NEXT e (omega arith)
      (live_put n i (view defers mem) m x inv v (last_of (m.puts i)) (count_last_of (m.puts i) (λ z. ne (sym is ∙ (rw z at (v.lists.putted i))))))

  shut_lives : (y : ℕ) → m.stage y ≡ Closing i → (us vs : List ℕ) (d : ℕ) → m.blocks y ≡ us ++ d ∷ vs → (view defers mem).live d ≡ true
  shut_lives y h us vs d e = live_in n i (view defers mem) m x inv v y d (rw h refl) (rw e (count_mid us vs d))

  -- the block that is reclaimed
  left_is : (b : ℕ) (bs : List ℕ) → m.left i ≡ b ∷ bs → x.lefts i ≡ c.reclaiming → c.reclaiming ≡ link b
  left_is b bs e is = sym is ∙ (rw e at (v.lists.lefted i)).1

  left_value : (b : ℕ) (bs : List ℕ) → m.left i ≡ b ∷ bs → x.lefts i ≡ c.reclaiming → IsSome (value_at mem (c.reclaiming / 2048))
  left_value b bs e is =
      subst (λ (a : ℕ). IsSome (value_at mem a)) (sym (of_link c.reclaiming b (left_is b bs e is)))
      (live_left n i (view defers mem) m x inv v b (rw e (count_first b bs)))

  loose_is : (e : Entry') (es : List Entry') → m.loose i ≡ e ∷ es → x.hand i ≡ c.list → c.list ≡ link e.block
  loose_is e es h is = sym is ∙ (rw h at (v.entries.loosed i)).1

  firsts_may : (block : ℕ) (t : Bool) → FirstsOf t n i m x (bare c) block → May Can Took value_at mem (plans.firsts {T = T} c block)
  firsts_may block true r =
      let h : Holding i m x (bare c) 0 0 [] = subst (λ (t : Bool). MayHold t i m x (bare c)) r.retiring.holds r.retiring.rest.batch in
      may_load mem (plans.first_read c block) (Entry (c.last / 2048) FIRST)
      (entry_at c.last (last_of (open_blocks m c)) FIRST h.last (omega arith) (last_lives r.retiring.rest.common.slot_lt h.last r.some))
      (λ w e. see_if (value_at mem) (block == 0) _ _ tt tt)
  firsts_may block false r =
      let h = r.putting.batch in
      may_load mem (plans.first_read c block) (Entry (c.last / 2048) FIRST)
      (entry_at c.last (last_of (open_blocks m c)) FIRST h.last (omega arith) (last_lives r.putting.common.slot_lt h.last r.some))
      (λ w e. see_if (value_at mem) (block == 0) _ _ tt tt)

  drained_sees : (next : ℕ) (o : Option ℕ) → MaySee (value_at mem) (plans.drained_first {T = T} c next o)
  drained_sees next None = tt
  drained_sees next (Some word) = tt

  pub may_at : (p : Settling) → FitsAt n i (view defers mem) m x (bare c) p → May Can Took value_at mem (plan_at defers c p)
  may_at at.Sees r =
      may_load mem (plans.seen c) (Slot c.slot BATCH) (batch_there r.retiring.rest.common.taken) (λ w e. see_if (value_at mem) (w == HELD) _ _ tt tt)
  may_at at.Holds r = may_exchange mem (plans.taken_hold c) (Slot c.slot BATCH) c.last HELD (batch_there r.retiring.rest.common.taken) (λ w e. tt) (λ w e. tt)
  may_at at.Pops r =
      let q = r.retiring.rest in
      let k = chain_cons 0 (view defers mem).nexts (x.pends i) (m.pending i) (λ e. r.some (sym q.common.pends ∙ e)) (rw q.popped at (v.lists.pended i)) in
      may_load mem (plans.popped c) (Entry (c.pending / 2048) NEXT)
      (entry_at c.pending k.0 NEXT (sym q.common.pends ∙ k.4) (omega arith) (live_pending n i (view defers mem) m x inv v k.0 k.1 k.2))
      (λ w e. see_if (value_at mem) (c.last == 0) _ _ tt tt)
  may_at (at.Firsts block) r = firsts_may block (eqb block 0) r
  may_at (at.Batches block) r =
      may_store mem (λ out. plans.goes c (at.Ends block)) (Entry (block / 2048) FIRST) c.first
      (entry_at block r.b FIRST r.putting.block_is (omega arith) (live_pending n i (view defers mem) m x inv v r.b r.bs r.putting.pending)) tt
  may_at (at.Ends block) r =
      let q = r.batches in
      may_store mem (λ out. plans.goes c (plans.ended c block)) (Entry (block / 2048) NEXT) 0
      (entry_at block q.b NEXT q.putting.block_is (omega arith) (live_pending n i (view defers mem) m x inv v q.b q.bs q.putting.pending)) tt
  may_at (at.Appends block) r =
      let h = r.ends.batches.putting.batch in
      may_store mem (λ out. plans.goes c (at.Counts block)) (Entry (c.last / 2048) NEXT) block
      (entry_at c.last (last_of (open_blocks m c)) NEXT h.last (omega arith) (last_lives r.ends.batches.putting.common.slot_lt h.last r.some)) tt
  may_at (at.Counts block) r =
      may_add mem (plans.counted c block) (Entry (c.first / 2048) COUNT) 1
      (entry_at c.first (head_or r.b (open_blocks m c)) COUNT (r.first ∙ head_link r.b (open_blocks m c)) (omega arith) (head_lives n i (view defers mem) m x c inv v block r))
      (λ w e. see_if (value_at (with_word mem (Entry (c.first / 2048) COUNT) ((w + 1) % 2 ^ 64))) (nat_lt ((w + 1) % 2 ^ 64) c.batch_size) _ _ tt tt)
  may_at (at.Scans slot block marks) r =
      may_load mem (plans.scanned c slot block marks) (Slot slot HEAD) (head_there slot r.lt r.tries.common.taken r.below)
      (λ w e. see_if (value_at mem) (w == NEVER) _ _ tt (see_if (value_at mem) (nat_lt w ACTIVE) _ _ tt (see_if (value_at mem) (block == 0) _ _ tt tt)))
  may_at (at.Marks slot block marks) r =
      may_store mem (λ out. plans.goes c (at.Marked slot block marks)) (Entry (block / 2048) LINK) slot
      (entry_at block r.d LINK r.block_is (omega arith)
      (live_in n i (view defers mem) m x inv v (m.open_batch c.slot) r.d (rw (open_stage n i (view defers mem) m x c inv v r.tries.common.slot_lt) refl) (rw (r.tries.blocks) (count_mid r.us r.vs r.d)))) tt
  may_at (at.Marked slot block marks) r =
      may_load mem (plans.marked_next c slot marks) (Entry (block / 2048) NEXT)
      (entry_at block r.d NEXT r.block_is (omega arith)
      (live_in n i (view defers mem) m x inv v (m.open_batch c.slot) r.d (rw (open_stage n i (view defers mem) m x c inv v r.tries.common.slot_lt) refl) (rw (r.tries.blocks) (count_mid r.us r.vs r.d))))
      (λ w e. tt)
  may_at (at.Closes marks) r =
      may_store mem (λ out. plans.to (plans.closed c marks)) (Entry (c.first / 2048) COUNT) 0
      (first_lives (m.open_batch c.slot) c.first (rw (open_stage n i (view defers mem) m x c inv v r.tries.common.slot_lt) refl) r.tries.first
      (λ z. r.tries.some (r.tries.batch.last ∙ ap link (ap last_of z)))) tt
  may_at (at.Reads block left pushed) r =
      may_load mem (plans.slot_read c block left pushed) (Entry (block / 2048) LINK)
      (entry_at block r.d LINK r.block_is (omega arith) (shut_lives r.y r.shuts.stage r.before r.rs r.d r.blocks)) (λ w e. tt)
  may_at (at.Links block left pushed slot head) r =
      may_store mem (λ out. plans.goes c (at.Pushes block left pushed slot head)) (Entry (block / 2048) LINK) head
      (entry_at block r.reads.d LINK r.reads.block_is (omega arith) (shut_lives r.reads.y r.reads.shuts.stage r.reads.before r.reads.rs r.reads.d r.reads.blocks)) tt
  may_at (at.Pushes block left pushed slot head) r =
      may_exchange mem (plans.after_push c block left pushed slot) (Slot slot HEAD) head block
      (words.slots slot HEAD (omega arith) (subst (λ (t : ℕ). is_never (m.head t) ≡ false) (sym r.links.slot_is) (taken_in m.head r.links.reads.t r.links.reads.ts r.links.reads.shuts.active)))
      (λ w e. tt) (λ w e. see_if (value_at mem) (plans.needs_none c w) _ _ tt tt)
  may_at (at.Pushed block left pushed) r =
      may_load mem (plans.next_pushed c left pushed) (Entry (block / 2048) NEXT)
      (entry_at block r.d NEXT r.block_is (omega arith) (shut_lives r.y r.shuts.stage r.before (r.e ∷ r.rs) r.d r.blocks)) (λ w e. tt)
  may_at (at.Sums pushed) r =
      may_add mem (plans.summed c pushed) (Entry (c.first / 2048) COUNT) pushed
      (first_lives r.y c.first (rw (r.shuts.stage) refl) r.shuts.first r.shuts.some)
      (λ w e. see_if (value_at (with_word mem (Entry (c.first / 2048) COUNT) ((w + pushed) % 2 ^ 64))) ((w + pushed) % 2 ^ 64 == 0) _ _ tt tt)
  may_at at.Nexts r =
      let q = r.rest.common in
      let k = chain_cons 0 (view defers mem).nexts (x.lefts i) (m.left i) (λ e. r.some (sym q.lefts ∙ e)) (v.lists.lefted i) in
      may_load mem (plans.next_read defers c) (Entry (c.reclaiming / 2048) NEXT)
      (entry_at c.reclaiming k.0 NEXT (sym q.lefts ∙ k.4) (omega arith) (live_left n i (view defers mem) m x inv v k.0 (subst (λ (l : List ℕ). 0 < count k.0 l) (sym k.2) (count_first k.0 k.1))))
      (λ w e. (left_value k.0 k.1 k.2 q.lefts, λ value h. drained_sees w (defers value)))
  may_at (at.Drains next word) r =
      may_load mem (plans.drained c next) (Word (c.reclaiming / 2048) word)
      (subst (λ (a : ℕ). IsSome (word_at mem (Word a word))) (sym (of_link c.reclaiming r.b (left_is r.b r.bs r.backs.left r.backs.common.lefts))) (words.lists r.b word r.lists))
      (λ w e. see_if (value_at mem) (w == 0) _ _ tt (see_if (value_at mem) (c.put_first == 0) _ _ tt tt))
  may_at (at.Joins next more) r =
      may_store mem (λ out. plans.to (record c { put_last = more; stands = at.Tails next })) (Entry (c.put_last / 2048) NEXT) more
      (put_there r.drains.put_last r.some r.drains.backs.common.put_first) tt
  may_at (at.Tails next) r =
      may_load mem (plans.tail_read c next) (Entry (c.put_last / 2048) NEXT)
      (entry_at c.put_last r.d NEXT r.put_last (omega arith) (live_put n i (view defers mem) m x inv v r.d (rw (r.puts) (count_mid r.before r.behind r.d))))
      (λ w e. see_if (value_at mem) (w == 0) _ _ tt tt)
  may_at (at.Takes next) r =
      may_take mem (plans.given_back c next) (c.reclaiming / 2048) (left_value r.b r.bs r.backs.left r.backs.common.lefts) (λ value e. tt)
  may_at at.Puts r =
      may_store mem (λ out. plans.to (plans.with_put c)) (Entry (c.put_last / 2048) NEXT) c.pending (put_there r.put_last r.some r.common.put_first) tt
  may_at at.Lists r = may_load mem (plans.entry_read c) (Entry (c.list / 2048) LINK) (list_there r.some r.rest.common.hand) (λ w e. tt)
    where
      list_there : 3 < c.list → x.hand i ≡ list_word c.list → IsSome (word_at mem (Entry (c.list / 2048) LINK))
      list_there some is = one (m.loose i) refl
        where
          hand : x.hand i ≡ c.list
          hand = is ∙ (grind (arith, some))

          one : (l : List Entry') → m.loose i ≡ l → IsSome (word_at mem (Entry (c.list / 2048) LINK))
          one [] e = absurd (let h = rw e at (v.entries.loosed i) in let k = hand in omega arith)
          one (a ∷ es) e = entry_at c.list a.block LINK (loose_is a es e hand) (omega arith) (live_loose n i (view defers mem) m x inv v a es e)
  may_at (at.Owns next) r =
      let hand : x.hand i ≡ c.list = r.lists.rest.common.hand ∙ list_is c.list r.lists.some in
      may_load mem (plans.batch_read c next) (Entry (c.list / 2048) FIRST)
      (entry_at c.list r.e.block FIRST (loose_is r.e r.es r.loose hand) (omega arith) (live_loose n i (view defers mem) m x inv v r.e r.es r.loose)) (λ w e. tt)
    where
      list_is : (w : ℕ) → 3 < w → list_word w ≡ w
      list_is w h = grind (arith, h)
  may_at (at.Downs next batch) r =
      may_add mem (plans.counted_down c next batch) (Entry (batch / 2048) COUNT) (2 ^ 64 - 1) (down_there r.owns.e r.owns.es r.owns.loose r.batch_is)
      (λ w e. see_if (value_at (with_word mem (Entry (batch / 2048) COUNT) ((w + (2 ^ 64 - 1)) % 2 ^ 64))) (w == 1) _ _ tt tt)
    where
      down_there : (e : Entry') (es : List Entry') → m.loose i ≡ e ∷ es → (view defers mem).firsts e.block ≡ batch → IsSome (word_at mem (Entry (batch / 2048) COUNT))
      down_there e es h is = one (x.spot e.block) (m.life e.block) (m.stage e.batch) (in_hands x.spot i e es (rw h at (v.entries.hands i e.batch e.block))) (v.entries.spots e.block)
          (shut_loose n i e es m inv h) (v.linkage.first e.block) (inv.places.boxed e.batch e.block) refl
        where
          one : (p : Spot) (l : Life) (g : Stage) → p ≡ InHands i e.batch → SpotLife p l → is_shut g ≡ true → FirstIs ((view defers mem).firsts e.block) m.blocks l
              → SameUnlessDead g (count e.block (m.blocks e.batch)) (is_in e.batch l) → m.stage e.batch ≡ g → IsSome (word_at mem (Entry (batch / 2048) COUNT))
          one p l g a b shut first box live =
              let k : l ≡ IsIn e.batch = grind (arith, a, b) in
              let w : (view defers mem).firsts e.block ≡ first_or 0 (m.blocks e.batch) = rw k at first in
              first_lives e.batch batch (rw live (shut_live g shut)) (sym is ∙ w) (λ z. absurd (let some : count e.block (m.blocks e.batch) ≡ 1 = grind (arith, k, box, shut) in cc (some, z)))
  may_at at.Gives r =
      may_store mem (λ out. plans.to (record c { held = false; stands = at.Over })) (Slot c.slot BATCH) c.last (batch_there r.rest.common.taken) tt
  may_at at.Over r = tt

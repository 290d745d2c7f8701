-- The points at which a row takes over what was deferred until the block that it is about to reclaim.
use Rattle.std.specs.Prelude.{if◌then◌else◌, ◌==◌, ◌/◌, Option, Some, None, List, [], ◌∷◌, ◌++◌}
use Rattle.std.proofs.Common.{◌≡◌, ℕ, ◌+◌, ◌<◌, Bool, true, false, cond, eqb, refl, arith, eqb-true, sym, ◌∙◌, ap, append_assoc}
use Rattle.std.proofs.lemmas.Bool.{eqb-false}
use Rattle.seize_moves.specs.Given.SeizeWordsDeclared.at.At.TheVariants.{Entry, Word}
use Rattle.seize_moves.specs.Given.SeizeWordsMem.{Mem, Took, value_at}
use Rattle.seize_moves.specs.Given.SeizeWordsPlan.{Steps, Ends, Now}
use Rattle.seize_moves.proofs.Given.SeizeWordsOneOwner.Operations.{loaded}
use Rattle.seize_moves.specs.Given.SeizeDeclared.states.TheConstants.{NEXT}
use Rattle.seize_moves.specs.Given.SeizeDeclared.rows.settle.Settle.{Settle}
use Rattle.seize_moves.specs.Given.SeizeDeclared.rows.settle.Settling.TheVariants as at
use Rattle.seize_moves.specs.Given.SeizeDeclared.rows.settle.Settled.{Settled}
use Rattle.seize_moves.specs.Given.SeizeDeclared.rows.settle.Settled.TheVariants.{Goes}
use Rattle.seize_moves.specs.Given.SeizeSettle.{drained_first, next_read, nexts, drained as drained_on, drains, tail_read, tails, standing}
use Rattle.seize_moves.specs.Waiting.Held.{count}
use Rattle.seize_moves.proofs.Waiting.Counts.{none_counted}
use Rattle.seize_moves.proofs.Moves.State.Ghost.{State, put, Life, IsDoomed, is_doomed, is_pending, is_deferred, lies_with}
use Rattle.seize_moves.proofs.Moves.State.Rule.{Inv}
use Rattle.seize_moves.proofs.Moves.State.Moves.{drained}
use Rattle.seize_moves.proofs.Moves.Moves.Takes.{first_doomed, drained_moves}
use Rattle.seize_moves.proofs.Memory.Words.Named.{link, link-block, words_of, word_found, has}
use Rattle.seize_moves.proofs.Memory.Words.Chains.{Chain, first_or, last_of, last_of-append, chain_nil, chain_cons, chain_begin, chain_behind, count_first}
use Rattle.seize_moves.proofs.Memory.Words.View.{View, view, list_in}
use Rattle.seize_moves.proofs.Memory.Words.Shows.{Extra, Shows, CarrierIs, lives}
use Rattle.seize_rule.proofs.Points.Onwards.{may_hold_on}
use Rattle.seize_moves.proofs.Memory.Written.Puts.{drained_to, drained_written}
use Rattle.seize_rule.proofs.Points.Aside.{aside_drained}
use Rattle.seize_rule.proofs.Points.Known.{Backs, Nexts, Drains, Tails, bare}
use Rattle.seize_rule.proofs.Points.Told.{Plain, Draining}
use Rattle.seize_rule.proofs.Points.Told as tells
use Rattle.seize_rule.proofs.Points.Stepped.{Stepped, unmoved, quiet, Went, went_loaded}

-- the first block that a row has to take
module _ (n i : ℕ) (f : View) (m : State) (x : Extra) where
  pub first_left : (w : ℕ) → Shows n f m x → x.lefts i ≡ w → (w ≡ 0 → ⊥) → (b : ℕ) × (bs : List ℕ) × (m.left i ≡ b ∷ bs) × (0 < b) × (w ≡ link b) × (f.nexts b ≡ first_or 0 bs)
  first_left w v is some =
      let k = chain_cons 0 f.nexts (x.lefts i) (m.left i) (λ e. some (sym is ∙ e)) (v.lists.lefted i) in
      (k.0, k.1, k.2, k.3, sym is ∙ k.4, chain_begin 0 f.nexts (f.nexts k.0) k.1 k.5)

  pub next_left : (b : ℕ) (bs : List ℕ) → Shows n f m x → m.left i ≡ b ∷ bs → (x.lefts i ≡ link b) × (f.nexts b ≡ first_or 0 bs)
  next_left b bs v is = let k = rw is at (v.lists.lefted i) in (k.1, chain_begin 0 f.nexts (f.nexts b) bs k.2)

  pub left_lives : (b : ℕ) (bs : List ℕ) → Inv n m → Shows n f m x → m.left i ≡ b ∷ bs → f.live b ≡ true
  left_lives b bs inv v is = let l = first_doomed n i m b bs inv is in rw l at (v.lists.lived b)

  pub left_once : (b : ℕ) (bs : List ℕ) → Inv n m → m.left i ≡ b ∷ bs → count b bs ≡ 0
  left_once b bs inv is = one (m.life b) (rw is at (inv.places.to_take i b))
    where
      one : (y : Life) → count b (b ∷ bs) ≡ is_doomed i y → count b bs ≡ 0
      one y k = grind arith

  -- what it has put
  pub puts_none : (w : ℕ) → Shows n f m x → x.put_first i ≡ w → w ≡ 0 → m.puts i ≡ []
  puts_none w v is e = chain_nil 0 f.nexts (x.put_first i) (m.puts i) (omega arith) (is ∙ e) (v.lists.putted i)

  pub puts_some : (w : ℕ) → Shows n f m x → x.put_first i ≡ w → (w ≡ 0 → ⊥) → (c : ℕ) × (l : List ℕ) × (m.puts i ≡ c ∷ l)
  puts_some w v is some =
      let k = chain_cons 0 f.nexts (x.put_first i) (m.puts i) (λ e. some (sym is ∙ e)) (v.lists.putted i) in
      (k.0, k.1, k.2)

  pub put_lives : (c : ℕ) → Inv n m → Shows n f m x → 0 < count c (m.puts i) → f.live c ≡ true
  put_lives c inv v some = one (m.life c) (inv.places.to_retire i c) (v.lists.lived c)
    where
      one : (y : Life) → count c (m.pending i) + count c (m.puts i) ≡ is_pending i y → f.live c ≡ lives y → f.live c ≡ true
      one y k h = grind (arith, some)

  -- the list of a block that it is to take
  pub list_read : (b d : ℕ) → Shows n f m x → f.lists b ≡ Some d → x.drained b ≡ false → Chain 0 f.nexts (f.own b d) (m.deferred b)
  list_read b d v has fresh = rw (has, fresh) at (v.lists.deferring b)

  -- a block that holds no list has nothing deferred until it
  pub no_list : (b : ℕ) → Inv n m → Shows n f m x → m.life b ≡ IsDoomed i → f.lists b ≡ None → m.deferred b ≡ []
  no_list b inv v is none = none_counted (m.deferred b) (λ a. one a (m.life a) (m.carrier b) (bare_of (m.life b) (m.carrier b) (f.lists b) is none (v.lists.carriers b)) (inv.places.all_deferred b a) (λ h. (inv.places.carries a b h).1))
    where
      bare_of : (l : Life) (k : Bool) (o : Option ℕ) → l ≡ IsDoomed i → o ≡ None → CarrierIs l k o → k ≡ false
      bare_of l k o e h q = grind arith

      one : (a : ℕ) (y : Life) (k : Bool) → k ≡ false → count a (m.deferred b) ≡ is_deferred b y → (lies_with b y ≡ true → k ≡ true) → count a (m.deferred b) ≡ 0
      one a y k e g q = grind arith

-- the blocks behind the one that was drained
pub fresh_on : (drained : ℕ → Bool) (b : ℕ) (bs : List ℕ) (a : ℕ) → count b bs ≡ 0 → 0 < count a bs → drained a ≡ false → put drained b true a ≡ false
fresh_on drained b bs a none some h = at (eqb a b) (eqb-true a b)
  where
    at : (t : Bool) → (t ≡ true → a ≡ b) → cond t true (drained a) ≡ false
    at false q = h
    at true q = absurd (let e = q refl in let k : count a bs ≡ 0 = rw e none in omega (arith, k, some))

-- the row at a block that it is to take, with its words changed in nothing but what it has put
backs_on : (n i : ℕ) (m : State) (x : Extra) (c : Settle) (b : ℕ) (bs : List ℕ) (next w : ℕ) → Backs n i m x (bare c) b bs next → Backs n i m x (bare (record c { put_last = w })) b bs next
backs_on n i m x c b bs next w r = record {
  common = r.common;
  popped = r.popped;
  closing = r.closing;
  batch = may_hold_on i m x c c.held m x (record c { put_last = w }) refl refl refl refl refl refl refl refl r.batch;
  once = r.once;
  left = r.left;
  next_is = r.next_is;
  fresh = r.fresh;
}

module _ {T : Type 0} (defers : T → Option ℕ) (n i : ℕ) (mem : Mem T) (m : State) (x : Extra) (c : Settle) (inv : Inv n m) (v : Shows n (view defers mem) m x) where
  -- the block behind the first one is read, and whether the first has a list

  first_of : (r : Nexts n i m x (bare c))
      → (b : ℕ) × (bs : List ℕ) × (m.left i ≡ b ∷ bs) × (0 < b) × (c.reclaiming ≡ link b) × ((view defers mem).nexts b ≡ first_or 0 bs)
  first_of r = first_left n i (view defers mem) m x c.reclaiming v r.rest.common.lefts r.some

  here : (b : ℕ) → c.reclaiming ≡ link b → c.reclaiming / 2048 ≡ b
  here b e = ap (λ w. w / 2048) e ∙ link-block b

  not_flushing : Nexts n i m x (bare c) → c.flushing ≡ false
  not_flushing r = one c.flushing r.rest.tries
    where
      one : (t : Bool) → (t ≡ true → (c.pending ≡ 0) × (c.list ≡ 0) × (c.reclaiming ≡ 0)) → t ≡ false
      one false k = refl
      one true k = absurd (r.some (k refl).2)

  backs_of : (b : ℕ) (bs : List ℕ) (next : ℕ) → Nexts n i m x (bare c) → m.left i ≡ b ∷ bs → next ≡ first_or 0 bs → Backs n i m x (bare c) b bs next
  backs_of b bs next r is e = record {
    common = r.rest.common;
    popped = r.rest.popped;
    closing = r.rest.closing;
    batch = r.rest.batch;
    once = not_flushing r;
    left = is;
    next_is = e;
    fresh = λ a some. r.fresh a (rw is (more a some));
  }
    where
      more : (a : ℕ) → 0 < count a bs → 0 < count a (b ∷ bs)
      more a some = omega arith

  nexts_to : (b : ℕ) (bs : List ℕ) (next : ℕ) (o : Option ℕ) (mem2 : Mem T) (end : Settle × Settled T) → Nexts n i m x (bare c) → m.left i ≡ b ∷ bs → next ≡ first_or 0 bs
      → (view defers mem).lists b ≡ o → mem2 ≡ mem → Ends (value_at mem) (drained_first c next o) end → Went defers n i c Plain mem m x [] mem2 end
  nexts_to b bs next (Some word) mem2 end r is e has same ends =
      went_loaded defers n i c Plain mem m x [] mem2 (standing c (at.Drains next word)) Goes end tt ends same
      (quiet n i c Plain (view defers mem) m x (standing c (at.Drains next word)) inv v refl refl
      (record { b = b; bs = bs; backs = backs_of b bs next r is e; lists = has; drained = r.fresh b (rw is (count_first b bs)); put_last = r.rest.put_last }))
  nexts_to b bs next None mem2 end r is e has same ends =
      went_loaded defers n i c Plain mem m x [] mem2 (standing c (at.Takes next)) Goes end tt ends same
      (let none = no_list n i (view defers mem) m x b inv v (first_doomed n i m b bs inv is) has in
      unmoved n i c Plain (view defers mem) m x (standing c (at.Takes next)) inv v refl (tells.DrainsNone b bs is none refl refl refl)
      (record { b = b; bs = bs; backs = backs_of b bs next r is e; none = none; put_last = r.rest.put_last }))

  pub nexts_steps : (mem2 : Mem T) (end : Settle × Settled T) → Nexts n i m x (bare c) → Steps Took value_at mem (nexts defers c) mem2 end
      → Went defers n i c Plain mem m x [] mem2 end
  nexts_steps mem2 end r st =
      let d = loaded mem (next_read defers c) (Entry (c.reclaiming / 2048) NEXT) mem2 end st in
      let h = first_of r in
      let at = here h.0 h.4 in
      let word : d.0 ≡ first_or 0 h.1 = sym (word_found mem (Entry (c.reclaiming / 2048) NEXT) d.0 d.1) ∙ ap (λ b. words_of mem (Entry b NEXT)) at ∙ h.5 in
      let q : (value : T) × (value_at mem (c.reclaiming / 2048) ≡ Some value) × Ends (value_at mem) (drained_first c d.0 (defers value)) end = d.3 in
      let has : (view defers mem).lists h.0 ≡ defers q.0 = ap (λ b. list_in defers (value_at mem b)) (sym at) ∙ ap (list_in defers) q.1 in
      nexts_to h.0 h.1 d.0 (defers q.0) mem2 end r h.2 word has d.2 q.2

  -- its list is read

  block_at : (b : ℕ) (bs : List ℕ) (next : ℕ) → Backs n i m x (bare c) b bs next → c.reclaiming / 2048 ≡ b
  block_at b bs next r = here b (sym r.common.lefts ∙ (next_left n i (view defers mem) m x b bs v r.left).0)

  -- the list goes to the row, which has put none yet
  drained_stepped : (next word head : ℕ) (r : Drains n i (view defers mem) m x (bare c) next word) → (view defers mem).own r.b word ≡ head → (head ≡ 0 → ⊥) → c.put_first ≡ 0
      → Stepped n i c Plain (view defers mem) m x (view defers mem) [] (record c { put_first = head; put_last = head; stands = at.Tails next })
  drained_stepped next word head r is some none =
      let f = view defers mem in
      let life = first_doomed n i m r.b r.bs inv r.backs.left in
      let puts = puts_none n i f m x c.put_first v r.backs.common.put_first none in
      let k = chain_cons 0 f.nexts (f.own r.b word) (m.deferred r.b) (λ e. some (sym is ∙ e)) (list_read n i f m x r.b word v r.lists r.drained) in
      let once = left_once n i f m x r.b r.bs inv r.backs.left in
      record {
        m2 = drained m i r.b;
        x2 = drained_to x i r.b (f.own r.b word);
        moved = drained_moves n i c.slot m r.b inv life;
        written = drained_written n i r.b word f m x v life r.lists r.drained puts;
        pending = λ p. p;
        logged = refl;
        aside = aside_drained m i r.b;
        fits = record {
          b = r.b;
          bs = r.bs;
          backs = record {
            common = record {
              slot_lt = r.backs.common.slot_lt;
              taken = r.backs.common.taken;
              outside = record { section = r.backs.common.outside.section; defers = r.backs.common.outside.defers };
              hand = r.backs.common.hand;
              pends = r.backs.common.pends;
              lefts = r.backs.common.lefts;
              put_first = grind (arith, is);
            };
            popped = r.backs.popped;
            closing = r.backs.closing;
            batch = may_hold_on i m x c c.held (drained m i r.b) (drained_to x i r.b (f.own r.b word)) (record c { put_first = head; put_last = head }) refl refl refl refl refl refl refl refl r.backs.batch;
            once = r.backs.once;
            left = r.backs.left;
            next_is = r.backs.next_is;
            fresh = λ a in_bs. fresh_on x.drained r.b r.bs a once in_bs (r.backs.fresh a in_bs);
          };
          none = grind arith;
          before = [];
          d = k.0;
          behind = k.1;
          puts = grind (arith, puts, k.2);
          put_last = sym is ∙ k.4;
        };
        slot_is = refl;
        told = tells.Drains r.b r.bs r.backs.left refl refl refl;
      }

  drains_to : (next word head : ℕ) (s t : Bool) (mem2 : Mem T) (end : Settle × Settled T) (r : Drains n i (view defers mem) m x (bare c) next word)
      → (view defers mem).own r.b word ≡ head → (head == 0) ≡ s → (c.put_first == 0) ≡ t → mem2 ≡ mem
      → Ends (value_at mem) (if s then Now (standing c (at.Takes next), Goes)
      else (if t then Now (record c { put_first = head; put_last = head; stands = at.Tails next }, Goes) else Now (standing c (at.Joins next head), Goes))) end
      → Went defers n i c Plain mem m x [] mem2 end
  drains_to next word head true t mem2 end r is q p same e =
      went_loaded defers n i c Plain mem m x [] mem2 (standing c (at.Takes next)) Goes end tt e same
      (let none = chain_nil 0 (view defers mem).nexts ((view defers mem).own r.b word) (m.deferred r.b) (omega arith) (is ∙ eqb-true head 0 q)
      (list_read n i (view defers mem) m x r.b word v r.lists r.drained) in
      unmoved n i c Plain (view defers mem) m x (standing c (at.Takes next)) inv v refl (tells.DrainsNone r.b r.bs r.backs.left none refl refl refl)
      (record { b = r.b; bs = r.bs; backs = r.backs; none = none; put_last = r.put_last }))
  drains_to next word head false true mem2 end r is q p same e =
      went_loaded defers n i c Plain mem m x [] mem2 (record c { put_first = head; put_last = head; stands = at.Tails next }) Goes end tt e same
      (drained_stepped next word head r is (eqb-false head 0 q) (eqb-true c.put_first 0 p))
  drains_to next word head false false mem2 end r is q p same e =
      went_loaded defers n i c Plain mem m x [] mem2 (standing c (at.Joins next head)) Goes end tt e same
      (quiet n i c Plain (view defers mem) m x (standing c (at.Joins next head)) inv v refl refl
      (record {
        word = word;
        drains = r;
        more_is = sym is ∙ chain_begin 0 (view defers mem).nexts ((view defers mem).own r.b word) (m.deferred r.b) (list_read n i (view defers mem) m x r.b word v r.lists r.drained);
        more_some = eqb-false head 0 q;
        some = eqb-false c.put_first 0 p;
      }))

  pub drains_steps : (next word : ℕ) (mem2 : Mem T) (end : Settle × Settled T) → Drains n i (view defers mem) m x (bare c) next word
      → Steps Took value_at mem (drains c next word) mem2 end → Went defers n i c Plain mem m x [] mem2 end
  drains_steps next word mem2 end r st =
      let d = loaded mem (drained_on c next) (Word (c.reclaiming / 2048) word) mem2 end st in
      let is : (view defers mem).own r.b word ≡ d.0 = ap (λ b. words_of mem (Word b word)) (sym (block_at r.b r.bs next r.backs)) ∙ word_found mem (Word (c.reclaiming / 2048) word) d.0 d.1 in
      drains_to next word d.0 (d.0 == 0) (c.put_first == 0) mem2 end r is refl refl d.2 d.3

  -- the row goes along what was put, to the last one

  tail_chain : (next : ℕ) (r : Tails n i m x (bare c) next) → Chain 0 (view defers mem).nexts ((view defers mem).nexts r.d) r.behind
  tail_chain next r = (chain_behind 0 (view defers mem).nexts (x.put_first i) r.before (r.d ∷ r.behind) (rw (r.puts) at (v.lists.putted i))).2

  tail_at : (next : ℕ) (r : Tails n i m x (bare c) next) → c.put_last / 2048 ≡ r.d
  tail_at next r = ap (λ w. w / 2048) r.put_last ∙ link-block r.d

  tails_to : (next w : ℕ) (t : Bool) (mem2 : Mem T) (end : Settle × Settled T) (r : Tails n i m x (bare c) next) → (view defers mem).nexts r.d ≡ w → (w == 0) ≡ t → mem2 ≡ mem
      → Ends (value_at mem) (if t then Now (standing c (at.Takes next), Goes) else Now (record c { put_last = w; stands = at.Tails next }, Goes)) end
      → Went defers n i c Draining mem m x [] mem2 end
  tails_to next w true mem2 end r is q same e =
      let none : r.behind ≡ [] = chain_nil 0 (view defers mem).nexts ((view defers mem).nexts r.d) r.behind (omega arith) (is ∙ eqb-true w 0 q) (tail_chain next r) in
      let all : m.puts i ≡ r.before ++ r.d ∷ [] = r.puts ∙ ap (λ l. r.before ++ r.d ∷ l) none in
      went_loaded defers n i c Draining mem m x [] mem2 (standing c (at.Takes next)) Goes end tt e same
      (quiet n i c Draining (view defers mem) m x (standing c (at.Takes next)) inv v refl refl
      (record { b = r.b; bs = r.bs; backs = r.backs; none = r.none; put_last = r.put_last ∙ ap link (sym (last_of-append r.d r.before)) ∙ ap (λ l. link (last_of l)) (sym all) }))
  tails_to next w false mem2 end r is q same e =
      let k = chain_cons 0 (view defers mem).nexts ((view defers mem).nexts r.d) r.behind (λ z. eqb-false w 0 q (sym is ∙ z)) (tail_chain next r) in
      went_loaded defers n i c Draining mem m x [] mem2 (record c { put_last = w; stands = at.Tails next }) Goes end tt e same
      (quiet n i c Draining (view defers mem) m x (record c { put_last = w; stands = at.Tails next }) inv v refl refl
      (record {
        b = r.b;
        bs = r.bs;
        backs = backs_on n i m x c r.b r.bs next w r.backs;
        none = r.none;
        before = r.before ++ r.d ∷ [];
        d = k.0;
        behind = k.1;
        puts = r.puts ∙ ap (λ l. r.before ++ r.d ∷ l) k.2 ∙ sym (append_assoc r.before (r.d ∷ []) (k.0 ∷ k.1));
        put_last = sym is ∙ k.4;
      }))

  pub tails_steps : (next : ℕ) (mem2 : Mem T) (end : Settle × Settled T) → Tails n i m x (bare c) next → Steps Took value_at mem (tails c next) mem2 end
      → Went defers n i c Draining mem m x [] mem2 end
  tails_steps next mem2 end r st =
      let d = loaded mem (tail_read c next) (Entry (c.put_last / 2048) NEXT) mem2 end st in
      let is : (view defers mem).nexts r.d ≡ d.0 = ap (λ b. words_of mem (Entry b NEXT)) (sym (tail_at next r)) ∙ word_found mem (Entry (c.put_last / 2048) NEXT) d.0 d.1 in
      tails_to next d.0 (d.0 == 0) mem2 end r is refl d.2 d.3

-- The points at which what a block put is taken over, or an entry is counted: what is left is less.
use Rattle.std.specs.Prelude.{if◌then◌else◌, nat_lt, ◌==◌, ◌/◌, ◌%◌, ◌^◌, ◌-◌, IsSome, Option}
use Rattle.std.proofs.Common.{◌≡◌, ℕ, ◌+◌, ◌<◌, ◌≤◌, Bool, true, false, List, [], ◌∷◌, ◌++◌, length, refl, arith, ap, sym, subst, ◌∙◌, append_assoc}
use Rattle.std.proofs.lemmas.Bool.{eqb-false}
use Rattle.seize.specs.Given.SeizeWordsDeclared.at.At.TheVariants.{Entry, Word}
use Rattle.seize.specs.Given.SeizeWordsMem.{Mem, Took, value_at, word_at, with_word}
use Rattle.seize.specs.Given.SeizeWordsOp.{Found}
use Rattle.seize.specs.Given.SeizeWordsPlan.{Steps, Ends, Now}
use Rattle.seize.proofs.Given.SeizeWordsOneOwner.Operations.{loaded, stored, added}
use Rattle.seize.specs.declared.states.TheConstants.{NEXT, COUNT, ACTIVE}
use Rattle.seize.specs.declared.rows.settle.Settle.{Settle}
use Rattle.seize.specs.declared.rows.settle.Settling.{Settling}
use Rattle.seize.specs.declared.rows.settle.Settling.TheVariants as at
use Rattle.seize.specs.declared.rows.settle.Settled.{Settled}
use Rattle.seize.specs.declared.rows.settle.Settled.TheVariants.{Goes}
use Rattle.seize.specs.Settle as plans
use Rattle.seize_rule.specs.Given.SeizeWaitingHeld.{count}
use Rattle.seize_rule.proofs.Given.SeizeWaitingCounts.{count-append}
use Rattle.seize_rule.proofs.Given.SeizeMovesState.Ghost.{State, Life, put, is_deferred, is_pending}
use Rattle.seize_rule.proofs.Given.SeizeMovesState.Rule.{Inv}
use Rattle.seize_rule.proofs.Given.SeizeMovesState.Moves
use Rattle.seize_rule.proofs.Given.SeizeMemoryWords.Named.{link, link-block, words_of, word_found, wrote}
use Rattle.seize_rule.proofs.Given.SeizeMemoryWords.Chains.{Chain, blocks_of, chain_cons, chain_behind, count_first, first_or}
use Rattle.seize_rule.proofs.Given.SeizeMemoryWords.View.{View, view, view_count}
use Rattle.seize_rule.proofs.Given.SeizeMemoryWords.Shows.{Extra, Shows}
use Rattle.seize_rule.proofs.Points.Told.{Plain, Draining, part, part_at, Told}
use Rattle.seize_rule.proofs.Points.Known.{Fits, Backs, Drains, Joins, Tails, Downs, bare, list_word}
use Rattle.seize_rule.proofs.Points.Deferred.{next_left, list_read}
use Rattle.seize_rule.proofs.Points.Down.{word_of_list}
use Rattle.seize_rule.proofs.Given.SeizeMemoryWords.Sums.{blocks_long}
use Rattle.seize_model.proofs.Ends.Settling.Measure.{weighs, ahead_of, here, behind_of, behind_there}
use Rattle.seize_model.proofs.Ends.Settling.Moves.{Below, not_more, drained_so, drained_falls, puts_same, counted_less}
use Rattle.seize_model.proofs.Ends.Settling.Points.{at_point, downs_falls}

-- chains of the same words are equally long
chains_long : (e : ℕ) (next : ℕ → ℕ) (w : ℕ) (l k : List ℕ) → e < 4 → Chain e next w l → Chain e next w k → length l ≡ length k
chains_long e next w [] [] small a b = refl
chains_long e next w [] (d ∷ k) small a b = absurd (let p = b.0 in let q = b.1 in omega (arith, small, a))
chains_long e next w (c ∷ l) [] small a b = absurd (let p = a.0 in let q = a.1 in omega (arith, small, b))
chains_long e next w (c ∷ l) (d ∷ k) small a b =
    let p = a.1 in
    let q = b.1 in
    let same : c ≡ d = omega (arith, p, q) in
    let ih = chains_long e next (next c) l k small a.2 (subst (λ (u : ℕ). Chain e next (next u) k) (sym same) b.2) in
    omega (arith, ih)

-- the list that a row goes on with
onward_hand : (n i : ℕ) (g : View) (m : State) (x : Extra) (d : Settle) → Fits n i g m x (plans.onward d) → x.hand i ≡ list_word d.list
onward_hand n i g m x d = one (d.reclaiming == 0) (d.pending == 0) d.flushing (nat_lt ACTIVE d.list) d.held
  where
    batch : (h f z : Bool)
        → Fits n i g m x (if h then (if f then (if z then record d { flushing = false; stands = at.Gives } else record d { flushing = false; stands = at.Firsts 0 }) else plans.standing d at.Pops) else plans.standing d at.Sees)
        → x.hand i ≡ list_word d.list
    batch true true true r = r.rest.common.hand
    batch true true false r = r.retiring.rest.common.hand
    batch true false z r = r.retiring.rest.common.hand
    batch false f z r = r.retiring.rest.common.hand

    one : (a b f l h : Bool)
        → Fits n i g m x (if a then (if b then (if f then plans.with_batch d else (if l then plans.standing d at.Lists else (if h then plans.standing d at.Gives else plans.standing d at.Over))) else plans.with_batch d) else plans.standing d at.Nexts)
        → x.hand i ≡ list_word d.list
    one false b f l h r = r.rest.common.hand
    one true false f l h r = batch d.held d.flushing (d.last == 0) r
    one true true true l h r = batch d.held d.flushing (d.last == 0) r
    one true true false true h r = r.rest.common.hand
    one true true false false true r = r.rest.common.hand
    one true true false false false r = r.rest.common.hand

module _ {T : Type 0} (defers : T → Option ℕ) (n bound i : ℕ) (mem mem2 : Mem T) (m : State) (x : Extra) (c : Settle) (end : Settle × Settled T) (m2 : State)
    (inv : Inv n m) (v : Shows n (view defers mem) m x) (below : Below bound m.life) where
  abbrev Falls : Settling → Type 0
  Falls p = weighs n bound i m2 + here n (view defers mem2) (m2.puts i) end.0 < weighs n bound i m + at_point n (view defers mem) (m.puts i) c p

  -- an entry is counted
  pub downs_ends : (next batch : ℕ) (x2 : Extra) → Downs n i (view defers mem) m x (bare c) next batch → Told n i c Plain m end.0 m2 → Shows n (view defers mem2) m2 x2
      → Fits n i (view defers mem2) m2 x2 end.0 → Steps Took value_at mem (plans.downs c next batch) mem2 end → Falls (at.Downs next batch)
  downs_ends next batch x2 r told v2 fits st =
      let a = downs_falls defers n i mem mem2 m x c end (m.puts i) (m2.puts i) next batch st in
      let b = counted_less n bound i m inv c Plain end.0 m2 one_less told in
      omega (arith, a, b)
    where
      hand_by : (w : ℕ) (t : Bool) → Ends (value_at mem2) (if t then plans.to {T = T} (plans.onward (record c { list = next; reclaiming = batch })) else plans.to (plans.onward (record c { list = next }))) end
          → x2.hand i ≡ list_word next
      hand_by w true e =
          onward_hand n i (view defers mem2) m2 x2 (record c { list = next; reclaiming = batch }) (subst (λ (q : Settle × Settled T). Fits n i (view defers mem2) m2 x2 q.0) e fits)
      hand_by w false e = onward_hand n i (view defers mem2) m2 x2 (record c { list = next }) (subst (λ (q : Settle × Settled T). Fits n i (view defers mem2) m2 x2 q.0) e fits)

      one_less : length (m2.loose i) + 1 ≡ length (m.loose i)
      one_less =
          let d = added mem (plans.counted_down c next batch) (Entry (batch / 2048) COUNT) (2 ^ 64 - 1) mem2 end st in
          let k = (d.0 + (2 ^ 64 - 1)) % 2 ^ 64 in
          let hand = hand_by d.0 (d.0 == 1) (subst (λ (q : Mem T). Ends (value_at q) (plans.counted_down c next batch (Found d.0)) end) (sym d.2) d.3) in
          let there : IsSome (word_at mem (Entry (batch / 2048) COUNT)) = rw (d.1) refl in
          let links : (view defers mem2).links ≡ (view defers mem).links =
          ap (λ (q : Mem T). (view defers q).links) d.2
          ∙ ap (λ (g : View). g.links) (view_count defers mem (batch / 2048) k (with_word mem (Entry (batch / 2048) COUNT) k) (wrote mem (Entry (batch / 2048) COUNT) k there)) in
          let was : Chain 3 (view defers mem).links next (blocks_of r.owns.es) = rw (r.owns.next_is) at ((rw (r.owns.loose) at (v.entries.loosed i)).2) in
          let word = word_of_list (view defers mem).links next (blocks_of r.owns.es) was in
          let now : Chain 3 (view defers mem).links next (blocks_of (m2.loose i)) =
          subst (λ (u : ℕ). Chain 3 (view defers mem).links u (blocks_of (m2.loose i))) (hand ∙ word)
          (subst (λ (u : ℕ → ℕ). Chain 3 u (x2.hand i) (blocks_of (m2.loose i))) links (v2.entries.loosed i)) in
          let same = chains_long 3 (view defers mem).links next (blocks_of (m2.loose i)) (blocks_of r.owns.es) (omega arith) now was in
          let a = blocks_long (m2.loose i) in
          let b = blocks_long r.owns.es in
          let z = ap (length) r.owns.loose in
          omega (arith, same, a, b, z)

  -- the block that is reclaimed next
  block_at : (b : ℕ) (bs : List ℕ) (next : ℕ) → Backs n i m x (bare c) b bs next → c.reclaiming / 2048 ≡ b
  block_at b bs next r = ap (λ w. w / 2048) (sym r.common.lefts ∙ (next_left n i (view defers mem) m x b bs v r.left).0) ∙ link-block b

  to_takes : (p : Settling) (next : ℕ) → Told n i c (part_at c.flushing p) m end.0 m2 → end ≡ (plans.standing c (at.Takes next), Goes)
      → ahead_of n c + 2 < at_point n (view defers mem) (m.puts i) c p → Falls p
  to_takes p next told e h =
      let a = not_more n bound i m inv c (part_at c.flushing p) end.0 m2 told in
      let b : here n (view defers mem2) (m2.puts i) end.0 ≡ ahead_of n c + 2 = ap (λ (q : Settle × Settled T). here n (view defers mem2) (m2.puts i) q.0) e in
      omega (arith, a, b, h)

  -- it was taken over: the row stands at the first of it
  taken_over : (p : Settling) (b d : ℕ) (bs l : List ℕ) (put_first w next : ℕ) → m.left i ≡ b ∷ bs → m.deferred b ≡ d ∷ l → count d (m.puts i) ≡ 0 → part_at c.flushing p ≡ Plain
      → Told n i c (part_at c.flushing p) m end.0 m2 → end ≡ (record c { put_first = put_first; put_last = w; stands = at.Tails next }, Goes) → w ≡ link d
      → ahead_of n c + 2 < at_point n (view defers mem) (m.puts i) c p → Falls p
  taken_over p b d bs l put_first w next left list once plain told e word h =
      let c2 = record c { put_first = put_first; put_last = w; stands = at.Tails next } in
      let over : m2 ≡ Moves.drained m i b =
      drained_so n bound i m inv c (part_at c.flushing p) end.0 m2 b bs left (λ z. none (sym list ∙ z)) plain (ap (λ (q : Settle × Settled T). part q.0) e) told in
      let a = subst (λ (s : State). weighs n bound i s + length (m.deferred b) ≤ weighs n bound i m) (sym over) (drained_falls n bound i m inv b below) in
      let puts : m2.puts i ≡ m.puts i ++ d ∷ l = ap (λ (s : State). s.puts i) over ∙ put_here m.puts i (m.puts i ++ m.deferred b) ∙ ap (λ k. m.puts i ++ k) list in
      let named : w / 2048 ≡ d = ap (λ u. u / 2048) word ∙ link-block d in
      let behind : behind_of (w / 2048) (m2.puts i) ≡ length l = ap (λ u. behind_of u (m2.puts i)) named ∙ ap (behind_of d) puts ∙ behind_there d (m.puts i) l once in
      let z : here n (view defers mem2) (m2.puts i) end.0 ≡ here n (view defers mem2) (m2.puts i) c2 = ap (λ (q : Settle × Settled T). here n (view defers mem2) (m2.puts i) q.0) e in
      let k = ap (length) list in
      omega (arith, a, behind, z, k, h)
    where
      none : d ∷ l ≡ [] → ⊥
      none z = cc z

      put_here : (f : ℕ → List ℕ) (k : ℕ) (u : List ℕ) → put f k u k ≡ u
      put_here f k u = grind arith

  -- what was deferred is not put
  not_put : (b d : ℕ) (l : List ℕ) → m.deferred b ≡ d ∷ l → count d (m.puts i) ≡ 0
  not_put b d l list = one (m.life d) (inv.places.all_deferred b d) (inv.places.to_retire i d) (rw list (count_first d l))
    where
      one : (y : Life) → count d (m.deferred b) ≡ is_deferred b y → count d (m.pending i) + count d (m.puts i) ≡ is_pending i y → 0 < count d (m.deferred b) → count d (m.puts i) ≡ 0
      one y a b h = grind arith

  pub drains_ends : (next word : ℕ) → Drains n i (view defers mem) m x (bare c) next word → Told n i c Plain m end.0 m2 → Steps Took value_at mem (plans.drains c next word) mem2 end
      → Falls (at.Drains next word)
  drains_ends next word r told st =
      let d = loaded mem (plans.drained c next) (Word (c.reclaiming / 2048) word) mem2 end st in
      let is : (view defers mem).own r.b word ≡ d.0 = ap (λ b. words_of mem (Word b word)) (sym (block_at r.b r.bs next r.backs)) ∙ word_found mem (Word (c.reclaiming / 2048) word) d.0 d.1 in
      one d.0 (d.0 == 0) (c.put_first == 0) is refl d.3
    where
      one : (head : ℕ) (t u : Bool) → (view defers mem).own r.b word ≡ head → (head == 0) ≡ t
          → Ends (value_at mem) (if t then Now (plans.standing c (at.Takes next), Goes)
          else (if u then Now (record c { put_first = head; put_last = head; stands = at.Tails next }, Goes) else Now (plans.standing c (at.Joins next head), Goes))) end
          → Falls (at.Drains next word)
      one head true u is q e = to_takes (at.Drains next word) next told e (omega arith)
      one head false true is q e =
          let f = view defers mem in
          let k = chain_cons 0 f.nexts (f.own r.b word) (m.deferred r.b) (λ z. eqb-false head 0 q (sym is ∙ z)) (list_read n i f m x r.b word v r.lists r.drained) in
          taken_over (at.Drains next word) r.b k.0 r.bs k.1 head head next r.backs.left k.2 (not_put r.b k.0 k.1 k.2) refl told e (sym is ∙ k.4) (omega arith)
      one head false false is q e =
          let a = not_more n bound i m inv c Plain end.0 m2 told in
          let b : here n (view defers mem2) (m2.puts i) end.0 ≡ ahead_of n c + 3 = ap (λ (q : Settle × Settled T). here n (view defers mem2) (m2.puts i) q.0) e in
          omega (arith, a, b)

  pub joins_ends : (next more : ℕ) → Joins n i (view defers mem) m x (bare c) next more → Told n i c Plain m end.0 m2 → Steps Took value_at mem (plans.joins c next more) mem2 end
      → Falls (at.Joins next more)
  joins_ends next more r told st =
      let d = stored {R = Settle × Settled T} mem (λ out. Now (record c { put_last = more; stands = at.Tails next }, Goes)) (Entry (c.put_last / 2048) NEXT) more mem2 end st in
      one (m.deferred r.drains.b) refl r.more_is d.1
    where
      one : (l : List ℕ) → m.deferred r.drains.b ≡ l → more ≡ first_or 0 (m.deferred r.drains.b) → end ≡ (record c { put_last = more; stands = at.Tails next }, Goes) → Falls (at.Joins next more)
      one [] q h e = absurd (r.more_some (h ∙ ap (first_or 0) q))
      one (a ∷ l) q h e =
          taken_over (at.Joins next more) r.drains.b a r.drains.bs l c.put_first more next r.drains.backs.left q (not_put r.drains.b a l q) refl told e (h ∙ ap (first_or 0) q) (omega arith)

  -- the row goes along it
  pub tails_ends : (next : ℕ) → Tails n i m x (bare c) next → Told n i c Draining m end.0 m2 → Steps Took value_at mem (plans.tails c next) mem2 end → Falls (at.Tails next)
  tails_ends next r told st =
      let d = loaded mem (plans.tail_read c next) (Entry (c.put_last / 2048) NEXT) mem2 end st in
      let is : (view defers mem).nexts r.d ≡ d.0 = ap (λ b. words_of mem (Entry b NEXT)) (sym last_put) ∙ word_found mem (Entry (c.put_last / 2048) NEXT) d.0 d.1 in
      one d.0 (d.0 == 0) is refl d.3
    where
      last_put : c.put_last / 2048 ≡ r.d
      last_put = ap (λ w. w / 2048) r.put_last ∙ link-block r.d

      chain : Chain 0 (view defers mem).nexts ((view defers mem).nexts r.d) r.behind
      chain = (chain_behind 0 (view defers mem).nexts (x.put_first i) r.before (r.d ∷ r.behind) (rw (r.puts) at (v.lists.putted i))).2

      -- no block is put twice
      once : (a : ℕ) (u l : List ℕ) → m.puts i ≡ u ++ a ∷ l → count a u ≡ 0
      once a u l e = two (m.life a) (inv.places.to_retire i a) (ap (count a) e ∙ count-append a u (a ∷ l)) (count_first a l)
        where
          two : (y : Life) → count a (m.pending i) + count a (m.puts i) ≡ is_pending i y → count a (m.puts i) ≡ count a u + count a (a ∷ l) → 0 < count a (a ∷ l) → count a u ≡ 0
          two y p q h = grind arith

      one : (w : ℕ) (t : Bool) → (view defers mem).nexts r.d ≡ w → (w == 0) ≡ t
          → Ends (value_at mem) (if t then Now (plans.standing c (at.Takes next), Goes) else Now (record c { put_last = w; stands = at.Tails next }, Goes)) end → Falls (at.Tails next)
      one w true is q e = to_takes (at.Tails next) next told e (omega arith)
      one w false is q e =
          let k = chain_cons 0 (view defers mem).nexts ((view defers mem).nexts r.d) r.behind (λ z. eqb-false w 0 q (sym is ∙ z)) chain in
          let c2 = record c { put_last = w; stands = at.Tails next } in
          let a = not_more n bound i m inv c Draining end.0 m2 told in
          let same : m2.puts i ≡ m.puts i = puts_same n bound i m inv c Draining end.0 m2 refl (ap (λ (q : Settle × Settled T). part q.0) e) told in
          let was : behind_of (c.put_last / 2048) (m.puts i) ≡ length r.behind = ap (λ u. behind_of u (m.puts i)) last_put ∙ ap (behind_of r.d) r.puts ∙ behind_there r.d r.before r.behind (once r.d r.before r.behind r.puts) in
          let split : m.puts i ≡ (r.before ++ r.d ∷ []) ++ k.0 ∷ k.1 = r.puts ∙ ap (λ l. r.before ++ r.d ∷ l) k.2 ∙ sym (append_assoc r.before (r.d ∷ []) (k.0 ∷ k.1)) in
          let there : w / 2048 ≡ k.0 = ap (λ u. u / 2048) (sym is ∙ k.4) ∙ link-block k.0 in
          let now : behind_of (w / 2048) (m2.puts i) ≡ length k.1 = ap (λ u. behind_of u (m2.puts i)) there ∙ ap (behind_of k.0) (same ∙ split) ∙ behind_there k.0 (r.before ++ r.d ∷ []) k.1 (once k.0 (r.before ++ r.d ∷ []) k.1 split) in
          let z : here n (view defers mem2) (m2.puts i) end.0 ≡ here n (view defers mem2) (m2.puts i) c2 = ap (λ (q : Settle × Settled T). here n (view defers mem2) (m2.puts i) q.0) e in
          let j = ap (length) k.2 in
          omega (arith, a, was, now, z, j)

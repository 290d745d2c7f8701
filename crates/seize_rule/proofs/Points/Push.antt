-- The program point of the push: the exchange of a slot's head, which succeeds, finds another list, or finds the slot not active.
use Rattle.std.specs.Prelude.{Option, Some, if◌then◌else◌, nat_lt, ◌||◌, not}
use Rattle.std.proofs.Common.{◌≡◌, ℕ, suc, ◌+◌, ◌-◌, ◌%◌, ◌^◌, ◌<◌, ◌≤◌, Bool, true, false, List, [], ◌∷◌, ◌++◌, length, length-append, ◌⊎◌, refl, arith, ap, sym, subst, ◌∙◌, ltb-true, ltb-false, inl, inr}
use Rattle.seize_moves.specs.Given.SeizeWordsDeclared.at.At.TheVariants.{Slot}
use Rattle.seize_moves.specs.Given.SeizeWordsMem.{Mem, Took, value_at, word_at, with_word}
use Rattle.seize_moves.specs.Given.SeizeWordsPlan.{Steps, Ends}
use Rattle.seize_moves.proofs.Given.SeizeWordsOneOwner.Operations.{exchanged}
use Rattle.seize_moves.specs.Given.SeizeDeclared.states.TheConstants.{HEAD, ACTIVE, MOST_LOST}
use Rattle.seize_moves.specs.Given.SeizeDeclared.rows.settle.Settle.{Settle}
use Rattle.seize_moves.specs.Given.SeizeDeclared.rows.settle.Settled.{Settled}
use Rattle.seize_moves.specs.Given.SeizeDeclared.rows.settle.Settled.TheVariants.{Goes}
use Rattle.seize_moves.specs.Given.SeizeDeclared.rows.settle.Settling.TheVariants as at
use Rattle.seize_moves.specs.Given.SeizeSettle.{standing, to, goes, after_push, pushes, pushed_of}
use Rattle.seize_moves.proofs.Moves.State.Ghost.{put, Head, Never, Free, Idle, Active, Entry, Debt, Unscanned, Marked as MarkedDebt, Gone, Skipped, Owing, Loose, Counted, State, list_of, is_active, is_marked, is_never, was_put, total}
use Rattle.seize_moves.proofs.Moves.State.Rule.{Inv, HasLeft}
use Rattle.seize_moves.proofs.Moves.State.Sums.{total-put, put_le}
use Rattle.seize_moves.proofs.Moves.State.Moves.{pushed, missed}
use Rattle.seize_moves.proofs.Moves.Moves.Pushes.{first_marked, not_put, marked_seen, pushed_moves, missed_moves}
use Rattle.seize_moves.proofs.Moves.State.Together.{stays}
use Rattle.seize_moves.proofs.Memory.Words.Named.{link, word_found, wrote}
use Rattle.seize_moves.proofs.Memory.Words.Chains.{Chain, blocks_of, chain_behind, first_or}
use Rattle.seize_moves.proofs.Memory.Words.View.{View, view, view_head}
use Rattle.seize_moves.proofs.Memory.Words.Shows.{Spot, Nowhere, On, Extra, Shows, HeadIs, keeps_like}
use Rattle.seize_moves.proofs.Memory.Words.Apart.{put_here}
use Rattle.seize_moves.proofs.Memory.Written.Heads.{head_active}
use Rattle.seize_moves.proofs.Memory.Written.Pushes.{spent, pushed_written, missed_written}
use Rattle.seize_rule.proofs.Points.Aside.{aside_same, aside_pushed}
use Rattle.seize_rule.proofs.Points.Told.{part, Pushing}
use Rattle.seize_rule.proofs.Points.Told as tells
use Rattle.seize_rule.proofs.Points.Lost.{behind_lost, list_short, reads_lost}
use Rattle.seize_rule.proofs.Points.Stepped.{HasWords, Went, went_loaded, went_written}
use Rattle.seize_rule.proofs.Points.Known.{AllTaken, Behind, Shuts, Pushes, Pushed, Sums, FitsAt, bare}

-- a head below 3 is of a slot that isn't active
not_active : (n t : ℕ) (f : View) (m : State) (x : Extra) → Shows n f m x → f.heads t < 3 → is_active (m.head t) ≡ false
not_active n t f m x v low = one (m.head t) (v.entries.headed t)
  where
    one : (h : Head) → HeadIs f.links (f.heads t) h → is_active h ≡ false
    one Never s = refl
    one Free s = refl
    one Idle s = refl
    one (Active []) s = absurd (omega arith)
    one (Active (e ∷ es)) s = absurd (let p = s.0 in let q = s.1 in omega arith)

-- the slot to be passed was marked, and is one of the slots
module _ (n y t : ℕ) (ts : List ℕ) (m : State) (inv : Inv n m) (todo : m.todo y ≡ t ∷ ts) where
  was_marked : is_marked (m.debt y t) ≡ 1
  was_marked = first_marked m.todo m.debt y t ts inv.debts.marked todo

  not_yet : was_put (m.debt y t) ≡ 0
  not_yet = (not_put (m.debt y t) was_marked).2

  marked_slot : t < n
  marked_slot = let d = marked_seen (m.debt y t) t (m.seen y) was_marked (inv.debts.scanned y t) in let l = inv.debts.seen_le y in omega (arith, d, l)

  -- what the batch put with one more, or none
  one_put : (k : ℕ) → n < 2 ^ 64 → total was_put (m.debt y) n ≡ k → total was_put (put (m.debt y) t Owing) n ≡ (k + 1) % 2 ^ 64
  one_put k small is =
      let low = marked_slot in let d = not_yet in let le = put_le (put (m.debt y) t Owing) n in
      let sum = total-put was_put (m.debt y) t Owing n low in
      grind (arith, sum, le, d)

  none_put : (k : ℕ) → total was_put (m.debt y) n ≡ k → total was_put (put (m.debt y) t Skipped) n ≡ k
  none_put k is = let low = marked_slot in let d = not_yet in let sum = total-put was_put (m.debt y) t Skipped n low in grind (arith, sum, d)

  -- whether it is marked still, or has left since
  stays_or_left : (m.debt y t ≡ MarkedDebt) ⊎ (m.debt y t ≡ Gone)
  stays_or_left = one (m.debt y t) refl was_marked
    where
      one : (d : Debt) → m.debt y t ≡ d → is_marked d ≡ 1 → (m.debt y t ≡ MarkedDebt) ⊎ (m.debt y t ≡ Gone)
      one Unscanned e k = absurd (omega (arith, k))
      one MarkedDebt e k = inl e
      one Gone e k = inr e
      one Skipped e k = absurd (omega (arith, k))
      one Owing e k = absurd (omega (arith, k))
      one (Loose j) e k = absurd (omega (arith, k))
      one Counted e k = absurd (omega (arith, k))

-- where slots were taken they still are
taken_again : (head : ℕ → Head) (t : ℕ) (h : Head) (ts : List ℕ) → is_never h ≡ false → AllTaken head ts → AllTaken (put head t h) ts
taken_again head t h [] e k = tt
taken_again head t h (s ∷ ts) e k = (grind arith, taken_again head t h ts e k.1)

module _ (n i : ℕ) (m : State) (x : Extra) (c : Settle) (inv : Inv n m) where
  -- what the row knows where a slot was passed, whatever the head and the debts are now
  passed_shuts : (y d t left pushed more : ℕ) (rs ts : List ℕ) (p : Spot) (head : ℕ → Head) (debt : ℕ → ℕ → Debt)
      → Shuts n i m x (bare c) y (d ∷ rs) (t ∷ ts) true left pushed → is_never (head c.slot) ≡ false → AllTaken head ts → total was_put (debt y) n ≡ more
      → Shuts n i (record m { head = head; debt = debt; todo = put m.todo y ts }) (spent x y d rs p) (bare c) y rs ts false (left - 1) more
  passed_shuts y d t left pushed more rs ts p head debt s taken active done = record {
    common = record {
      slot_lt = s.common.slot_lt;
      taken = taken;
      outside = record { section = s.common.outside.section; defers = s.common.outside.defers };
      hand = s.common.hand;
      pends = s.common.pends;
      lefts = s.common.lefts;
      put_first = s.common.put_first;
    };
    popped = s.popped;
    closing = s.closing;
    put = s.put;
    put_last = s.put_last;
    batch = record { holder = s.batch.holder; last = s.batch.last; behind = s.batch.behind; seen = s.batch.seen; todo = open_todo };
    holds = s.holds;
    once = s.once;
    none_left = s.none_left;
    stage = s.stage;
    first = s.first;
    rest_is = grind arith;
    aimed_is = grind arith;
    todo = grind arith;
    done = done;
    left_is = length_less left (length ts) s.left_is;
    active = active;
    some = s.some;
  }
    where
      length_less : (a b : ℕ) → suc b ≡ a → b ≡ a - 1
      length_less a b h = omega arith

      open_todo : put m.todo y ts (m.open_batch c.slot) ≡ []
      open_todo = let op = inv.batches.mine c.slot s.common.slot_lt in let cl = s.stage in grind (arith, s.batch.todo)

-- the next entry is put, or all are
pushed_part : (c : Settle) (block left more : ℕ) → part (standing c (pushed_of block left more)) ≡ Pushing
pushed_part c block left more = one (nat_lt 1 left)
  where
    one : (q : Bool) → part (standing c (if q then at.Pushed block (left - 1) more else at.Sums more)) ≡ Pushing
    one true = refl
    one false = refl

-- where it goes on once a slot was passed
module _ (n i : ℕ) (g : View) (m : State) (x : Extra) (c : Settle) (y d left more : ℕ) (before rs ts : List ℕ) where
  passed_fits : (block : ℕ) → Shuts n i m x (bare c) y rs ts false (left - 1) more → m.blocks y ≡ before ++ d ∷ rs → block ≡ link d → length ts ≡ left - 1 → length ts ≤ length rs
      → 0 < left → (q : Bool) → nat_lt 1 left ≡ q → FitsAt n i g m x (bare c) (if q then at.Pushed block (left - 1) more else at.Sums more)
  passed_fits block s is at_block len room some true e = two rs ts s is len room (ltb-true 1 left e)
    where
      two : (rs ts : List ℕ) → Shuts n i m x (bare c) y rs ts false (left - 1) more → m.blocks y ≡ before ++ d ∷ rs → length ts ≡ left - 1 → length ts ≤ length rs → 1 < left
          → Pushed n i m x (bare c) block (left - 1) more
      two rs [] s is len room low = absurd (omega arith)
      two [] (t ∷ ts) s is len room low = absurd (omega arith)
      two (e ∷ rs) (t ∷ ts) s is len room low = record { y = y; before = before; d = d; e = e; rs = rs; t = t; ts = ts; shuts = s; blocks = is; block_is = at_block; room = omega arith }
  passed_fits block s is at_block len room some false e = none ts (left - 1) s len (let low = ltb-false 1 left e in omega arith)
    where
      none : (ts : List ℕ) (k : ℕ) → Shuts n i m x (bare c) y rs ts false k more → length ts ≡ k → k ≡ 0 → Sums n i m x (bare c) more
      none [] k s len z = record { y = y; rs = rs; shuts = subst (λ (a : ℕ). Shuts n i m x (bare c) y rs [] false a more) z s }
      none (t ∷ ts) k s len z = absurd (omega arith)

module _ {T : Type 0} (defers : T → Option ℕ) (n i : ℕ) (mem mem2 : Mem T) (m : State) (x : Extra) (c : Settle) (end : Settle × Settled T)
    (small : n < 2 ^ 64) (words : HasWords defers n mem m.head) (inv : Inv n m) (v : Shows n (view defers mem) m x) where
  -- the exchange succeeds: the entry is on the slot's list
  push_done : (block left k slot head w : ℕ) → Pushes n i (view defers mem) m x (bare c) block left k slot head → word_at mem (Slot slot HEAD) ≡ Some w → w ≡ head
      → mem2 ≡ with_word mem (Slot slot HEAD) block → end ≡ (standing c (pushed_of block left ((k + 1) % 2 ^ 64)), Goes) → Went defers n i c Pushing mem m x [] mem2 end
  push_done block left k slot head w r found same e ends =
      let q = r.links.reads in
      let p = q.shuts in
      let t = q.t in
      let here : word_at mem (Slot t HEAD) ≡ Some w = subst (λ (a : ℕ). word_at mem (Slot a HEAD) ≡ Some w) r.links.slot_is found in
      let word : (view defers mem).heads t ≡ head = word_found mem (Slot t HEAD) w here ∙ same in
      let active = head_active n t (view defers mem) m x v (omega (arith, word, r.links.active)) in
      let chain : Chain 0 (view defers mem).nexts (first_or 0 (m.blocks q.y)) (m.blocks q.y) = rw p.stage at (v.linkage.linked q.y) in
      let pos = chain_behind 0 (view defers mem).nexts (first_or 0 (m.blocks q.y)) q.before (q.d ∷ q.rs) (subst (λ (bs : List ℕ). Chain 0 (view defers mem).nexts (first_or 0 (m.blocks q.y)) bs) q.blocks chain) in
      let e2 : mem2 ≡ with_word mem (Slot t HEAD) (link q.d) = e ∙ ap (λ a. with_word mem (Slot a HEAD) block) r.links.slot_is ∙ ap (λ a. with_word mem (Slot t HEAD) a) q.block_is in
      went_written defers n i c Pushing mem m x [] mem2 (Slot t HEAD) (link q.d) _ (standing c (pushed_of block left ((k + 1) % 2 ^ 64))) Goes end tt ends e2
      (view_head defers mem t (link q.d) (with_word mem (Slot t HEAD) (link q.d)) (wrote mem (Slot t HEAD) (link q.d) (rw here refl)))
      (record {
        m2 = pushed m q.y t q.d active.0 q.ts;
        x2 = spent x q.y q.d q.rs (On t q.y);
        moved = pushed_moves n i c.slot m q.y t q.d active.0 q.ts inv p.stage p.todo active.1;
        written = pushed_written n i q.y t q.d active.0 q.ts q.rs (view defers mem) m x v p.stage p.rest_is p.aimed_is p.todo active.1 (r.linked ∙ sym word) pos.0;
        pending = λ z. z;
        logged = refl;
        aside = aside_pushed m q.y t q.d active.0 q.ts active.1;
        slot_is = refl;
        told = tells.Pushes q.y t q.d active.0 q.ts p.stage p.todo active.1 refl refl (pushed_part c block left ((k + 1) % 2 ^ 64));
        fits = passed_fits n i _ (pushed m q.y t q.d active.0 q.ts) (spent x q.y q.d q.rs (On t q.y)) c q.y q.d left ((k + 1) % 2 ^ 64) q.before q.rs q.ts block
            (passed_shuts n i m x c inv q.y q.d t left k ((k + 1) % 2 ^ 64) q.rs q.ts (On t q.y) (put m.head t (Active (record { block = q.d; batch = q.y } ∷ active.0)))
            (put m.debt q.y (put (m.debt q.y) t Owing)) p (grind (arith, p.common.taken)) (taken_again m.head t _ q.ts refl (p.active.1))
            (ap (λ d. total was_put d n) (put_here m.debt q.y (put (m.debt q.y) t Owing)) ∙ one_put n q.y t q.ts m inv p.todo k small p.done))
            q.blocks q.block_is (omega (arith, p.left_is)) q.room (omega (arith, p.left_is)) (nat_lt 1 left) refl;
      })

  -- the slot has left since it was marked
  push_missed : (block left k slot head : ℕ) (r : Pushes n i (view defers mem) m x (bare c) block left k slot head) → HasLeft m r.links.reads.y r.links.reads.t
      → mem2 ≡ mem → end ≡ (standing c (pushed_of block left k), Goes) → Went defers n i c Pushing mem m x [] mem2 end
  push_missed block left k slot head r gone e ends =
      let q = r.links.reads in
      let p = q.shuts in
      let t = q.t in
      went_loaded defers n i c Pushing mem m x [] mem2 (standing c (pushed_of block left k)) Goes end tt ends e
      (record {
        m2 = missed m q.y t q.ts;
        x2 = spent x q.y q.d q.rs Nowhere;
        moved = missed_moves n i c.slot m q.y t q.ts inv p.stage p.todo gone;
        written = missed_written n i q.y t q.d q.ts q.rs (view defers mem) m x v p.stage p.rest_is p.aimed_is p.todo;
        pending = λ z. z;
        logged = refl;
        aside = aside_same m (missed m q.y t q.ts) refl refl;
        slot_is = refl;
        told = tells.Misses q.y t q.ts p.stage p.todo gone refl refl (pushed_part c block left k);
        fits = passed_fits n i (view defers mem) (missed m q.y t q.ts) (spent x q.y q.d q.rs Nowhere) c q.y q.d left k q.before q.rs q.ts block
            (passed_shuts n i m x c inv q.y q.d t left k k q.rs q.ts Nowhere m.head
            (put m.debt q.y (put (m.debt q.y) t Skipped)) p p.common.taken p.active.1
            (ap (λ d. total was_put d n) (put_here m.debt q.y (put (m.debt q.y) t Skipped)) ∙ none_put n q.y t q.ts m inv p.todo k p.done))
            q.blocks q.block_is (omega (arith, p.left_is)) q.room (omega (arith, p.left_is)) (nat_lt 1 left) refl;
      })

  -- what is found at the head of the slot that it pushes on
  found_head : (block left k slot head w : ℕ) (r : Pushes n i (view defers mem) m x (bare c) block left k slot head) → word_at mem (Slot slot HEAD) ≡ Some w
      → (view defers mem).heads r.links.reads.t ≡ w
  found_head block left k slot head w r found =
      let t = r.links.reads.t in word_found mem (Slot t HEAD) w (subst (λ (a : ℕ). word_at mem (Slot a HEAD) ≡ Some w) r.links.slot_is found)

  -- and what the list is, with one exchange more lost
  found_list : (block left k slot head w : ℕ) (r : Pushes n i (view defers mem) m x (bare c) block left k slot head) → word_at mem (Slot slot HEAD) ≡ Some w → (w ≡ head → ⊥) → 2 < w
      → (es : List Entry) × (m.head r.links.reads.t ≡ Active es) × (m.debt r.links.reads.y r.links.reads.t ≡ MarkedDebt → Behind es w (c.lost + 1))
  found_list block left k slot head w r found other high =
      let t = r.links.reads.t in
      let word = found_head block left k slot head w r found in
      let a = head_active n t (view defers mem) m x v (omega (arith, word, high)) in
      let chain : Chain 3 (view defers mem).links w (blocks_of a.0) =
      subst (λ (u : ℕ). Chain 3 (view defers mem).links u (blocks_of a.0)) word (subst (λ (h : Head). HeadIs (view defers mem).links ((view defers mem).heads t) h) a.1 (v.entries.headed t)) in (
        a.0,
        a.1,
        λ d. behind_lost (view defers mem).links a.0 head c.lost w chain other (subst (λ (h : Head). Behind (list_of h) head c.lost) a.1 (r.links.lost d)),
      )

  -- its list has changed: the block is to be linked anew
  push_again : (block left k slot head w : ℕ) → Pushes n i (view defers mem) m x (bare c) block left k slot head → word_at mem (Slot slot HEAD) ≡ Some w → (w ≡ head → ⊥) → 2 < w → mem2 ≡ mem
      → end ≡ (record c { lost = c.lost + 1; stands = at.Links block left k slot w }, Goes) → Went defers n i c Pushing mem m x [] mem2 end
  push_again block left k slot head w r found other high e ends =
      let list = found_list block left k slot head w r found other high in
      went_loaded defers n i c Pushing mem m x [] mem2 (record c { lost = c.lost + 1; stands = at.Links block left k slot w }) Goes end tt ends e
      (record {
        m2 = m;
        x2 = x;
        moved = stays n i c.slot m inv;
        written = record { shows = v; keeps = keeps_like i (view defers mem) m x (view defers mem) refl refl refl refl refl };
        pending = λ z. z;
        logged = refl;
        aside = aside_same m m refl refl;
        slot_is = refl;
        told = tells.Stays refl refl;
        fits = record {
          reads = reads_lost n i m x (bare c) (c.lost + 1) block left k true r.links.reads;
          slot_is = r.links.slot_is;
          active = high;
          lost = λ d. subst (λ (h : Head). Behind (list_of h) w (c.lost + 1)) (sym list.1) (list.2 d);
        };
      })

  -- a slot that is marked still has no list of as many entries as the push has lost
  lost_all : (block left k slot head w : ℕ) (r : Pushes n i (view defers mem) m x (bare c) block left k slot head) → word_at mem (Slot slot HEAD) ≡ Some w → (w ≡ head → ⊥) → 2 < w
      → MOST_LOST ≤ c.lost → HasLeft m r.links.reads.y r.links.reads.t
  lost_all block left k slot head w r found other high most =
      elim (stays_or_left n r.links.reads.y r.links.reads.t r.links.reads.ts m inv r.links.reads.shuts.todo) as (λ _. HasLeft m r.links.reads.y r.links.reads.t) [
        | inl marked ↦ absurd (never marked)
        | inr gone ↦ inr gone
      ]
    where
      never : m.debt r.links.reads.y r.links.reads.t ≡ MarkedDebt → ⊥
      never marked =
          let list = found_list block left k slot head w r found other high in
          let b = list.2 marked in
          let short = list_short n (view defers mem) m x v words.few r.links.reads.t list.0 list.1 in
          let split = ap length b.split in
          let long = length-append b.front b.back in
          let many = b.many in
          omega (arith, short, split, long, many, most)

  push_failed : (block left k slot head w : ℕ) → Pushes n i (view defers mem) m x (bare c) block left k slot head → word_at mem (Slot slot HEAD) ≡ Some w → (w ≡ head → ⊥) → mem2 ≡ mem
      → (q z : Bool) → nat_lt w ACTIVE ≡ q → nat_lt c.lost MOST_LOST ≡ z
      → Ends (value_at mem) (if q || not z then goes {T = T} c (pushed_of block left k) else to (record c { lost = c.lost + 1; stands = at.Links block left k slot w })) end
      → Went defers n i c Pushing mem m x [] mem2 end
  push_failed block left k slot head w r found other e true z low few ends =
      let word = found_head block left k slot head w r found in
      push_missed block left k slot head r (inl (not_active n r.links.reads.t (view defers mem) m x v (let l = ltb-true w 3 low in omega (arith, word, l)))) e ends
  push_failed block left k slot head w r found other e false true high few ends = push_again block left k slot head w r found other (let h = ltb-false w 3 high in omega (arith, h)) e ends
  push_failed block left k slot head w r found other e false false high most ends =
      push_missed block left k slot head r
      (lost_all block left k slot head w r found other (let h = ltb-false w 3 high in omega (arith, h)) (ltb-false c.lost MOST_LOST most)) e ends

  pub pushes_steps : (block left k slot head : ℕ) → Pushes n i (view defers mem) m x (bare c) block left k slot head
      → Steps Took value_at mem (pushes c block left k slot head) mem2 end → Went defers n i c Pushing mem m x [] mem2 end
  pushes_steps block left k slot head r st =
      elim (exchanged mem (after_push c block left k slot) (Slot slot HEAD) head block mem2 end st) as (λ _. Went defers n i c Pushing mem m x [] mem2 end) [
        | inl a ↦ push_done block left k slot head a.0 r a.1.0 a.1.1 a.2 a.3
        | inr b ↦ push_failed block left k slot head b.0 r b.1.0 b.1.1 b.2 (nat_lt b.0 ACTIVE) (nat_lt c.lost MOST_LOST) refl refl b.3
      ]

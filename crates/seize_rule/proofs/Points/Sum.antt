-- The program point at which a row adds what it has put to its batch's counter, and reclaims the batch if that comes to zero.
use Rattle.std.specs.Prelude.{Option, Some, if◌then◌else◌, ◌==◌, ◌/◌, IsSome}
use Rattle.std.proofs.Common.{◌≡◌, ℕ, ◌+◌, ◌%◌, ◌^◌, ◌<◌, Bool, true, false, List, [], ◌∷◌, refl, arith, ap, sym, subst, ◌∙◌, eqb-true}
use Rattle.std.proofs.lemmas.Bool.{eqb-false}
use Rattle.seize_moves.specs.Given.SeizeWordsDeclared.at.At.TheVariants.{Entry}
use Rattle.seize_moves.specs.Given.SeizeWordsOp.{Found}
use Rattle.seize_moves.specs.Given.SeizeWordsMem.{Mem, Took, value_at, word_at, with_word}
use Rattle.seize_moves.specs.Given.SeizeWordsPlan.{Steps, Ends}
use Rattle.seize_moves.proofs.Given.SeizeWordsOneOwner.Operations.{added}
use Rattle.seize_moves.specs.Given.SeizeDeclared.states.TheConstants.{COUNT}
use Rattle.seize_moves.specs.Given.SeizeDeclared.rows.settle.Settle.{Settle}
use Rattle.seize_moves.specs.Given.SeizeDeclared.rows.settle.Settled.{Settled}
use Rattle.seize_moves.specs.Given.SeizeDeclared.rows.settle.Settled.TheVariants.{Goes}
use Rattle.seize_moves.specs.Given.SeizeSettle.{to, onward, summed as summed_out, sums}
use Rattle.seize_moves.specs.Waiting.Held.{count}
use Rattle.seize_moves.proofs.Moves.State.Ghost.{is_in, Stage, Closing, Closed, Life, State, was_put, total}
use Rattle.seize_moves.proofs.Moves.State.Rule.{Inv, IsOf, SameUnlessDead}
use Rattle.seize_moves.proofs.Moves.State.Moves.{summed, gives_up}
use Rattle.seize_moves.proofs.Moves.Moves.Pushes.{summed_moves}
use Rattle.seize_moves.proofs.Moves.Moves.AtZero.{summed_pending, summed_gives_up, summed_gives_up_pending}
use Rattle.seize_moves.proofs.Memory.Words.Named.{words_of, word_found, wrote}
use Rattle.seize_moves.proofs.Memory.Words.Chains.{first_or}
use Rattle.seize_moves.proofs.Memory.Words.View.{view, view_count}
use Rattle.seize_moves.proofs.Memory.Words.Shows.{Extra, Shows, CountIs, DrainedIs}
use Rattle.seize_moves.proofs.Memory.Words.Apart.{put_here}
use Rattle.seize_moves.proofs.Memory.Written.Close.{summed_written}
use Rattle.seize_moves.proofs.Memory.Written.Dooms.{given_up, then_gives_up}
use Rattle.seize_rule.proofs.Points.Aside.{aside_same, aside_then, aside_gives_up}
use Rattle.seize_rule.proofs.Points.Told.{Pushing, NoneLeft, onward_part}
use Rattle.seize_rule.proofs.Points.Told as tells
use Rattle.seize_rule.proofs.Points.NothingLeft.{none_left}
use Rattle.seize_rule.proofs.Points.Stepped.{Went, went_written}
use Rattle.seize_rule.proofs.Points.Known.{AllFresh, MayHold, Holding, Sums, bare}
use Rattle.seize_rule.proofs.Points.Onwards.{onward_fits, onward_slot}
use Rattle.seize_rule.proofs.Points.Retire.{of_link}

-- a list that isn't empty
pub some_first : (l : List ℕ) → (l ≡ [] → ⊥) → (d : ℕ) × (r : List ℕ) × (l ≡ d ∷ r)
some_first [] ne = absurd (ne refl)
some_first (d ∷ r) ne = (d, r, refl)

module _ {T : Type 0} (defers : T → Option ℕ) (n i : ℕ) (mem mem2 : Mem T) (m : State) (x : Extra) (c : Settle) (end : Settle × Settled T)
    (small : n < 2 ^ 64) (inv : Inv n m) (v : Shows n (view defers mem) m x) where
  -- the row holds its slot's batch as before
  held_again : (c2 : Settle) → c2.slot ≡ c.slot → c2.last ≡ c.last → (m2 : State) (x2 : Extra) → m2.holder ≡ m.holder → m2.blocks ≡ m.blocks → m2.open_batch ≡ m.open_batch
      → m2.seen ≡ m.seen → m2.todo ≡ m.todo → x2.behind ≡ x.behind → (t : Bool) → Holding i m x (bare c) 0 0 [] → MayHold t i m2 x2 (bare c2)
  held_again c2 slot last m2 x2 holder blocks open_batch seen todo behind false h = tt
  held_again c2 slot last m2 x2 holder blocks open_batch seen todo behind true h = record {
    holder = cc (h.holder, slot, holder);
    last = cc (h.last, slot, last, blocks, open_batch);
    behind = cc (h.behind, slot, open_batch, behind);
    seen = cc (h.seen, slot, open_batch, seen);
    todo = cc (h.todo, slot, open_batch, todo);
  }

  -- the blocks of a batch that lives have their lists
  fresh_blocks : (y : ℕ) → m.stage y ≡ Closing i → AllFresh x.drained (m.blocks y)
  fresh_blocks y cl a some = one (m.stage y) (count a (m.blocks y)) (m.life a) cl some (inv.places.boxed y a) (v.lists.drains a)
    where
      one : (g : Stage) (k : ℕ) (l : Life) → g ≡ Closing i → 0 < k → SameUnlessDead g k (is_in y l) → DrainedIs l (x.drained a) → x.drained a ≡ false
      one g k l e some h d = grind arith

  -- the word of its counter, with what was put
  abbrev sum : ℕ → ℕ → ℕ
  sum k d = (words_of mem (Entry d COUNT) + k) % 2 ^ 64

  counter_is : (y d : ℕ) (l : List ℕ) → m.stage y ≡ Closing i → m.blocks y ≡ d ∷ l → words_of mem (Entry d COUNT) ≡ m.counter y
  counter_is y d l cl is = one (m.stage y) (m.blocks y) cl is (v.linkage.counted y)
    where
      one : (g : Stage) (bs : List ℕ) → g ≡ Closing i → bs ≡ d ∷ l → CountIs (view defers mem).counts g (m.counter y) bs → (view defers mem).counts d ≡ m.counter y
      one g bs e is h = grind arith

  sum_is : (k : ℕ) (r : Sums n i m x (bare c) k) (d : ℕ) (l : List ℕ) → m.blocks r.y ≡ d ∷ l → sum k d ≡ (m.counter r.y + total was_put (m.debt r.y) n) % 2 ^ 64
  sum_is k r d l blocks = let e = counter_is r.y d l r.shuts.stage blocks in let h = r.shuts.done in ap (λ a. (a + k) % 2 ^ 64) e ∙ ap (λ a. (m.counter r.y + a) % 2 ^ 64) (sym h)

  nothing_left : (k : ℕ) (r : Sums n i m x (bare c) k) → NoneLeft i m
  nothing_left k r = let p = r.shuts in none_left n i (view defers mem) m x v (p.common.lefts ∙ p.none_left) (p.common.put_first ∙ p.put)

  -- other entries are still to be counted down
  sums_more : (k : ℕ) (r : Sums n i m x (bare c) k) (d : ℕ) (l : List ℕ) → m.blocks r.y ≡ d ∷ l → IsSome (word_at mem (Entry d COUNT))
      → mem2 ≡ with_word mem (Entry d COUNT) (sum k d) → 0 < sum k d → end ≡ (onward (record c { first = 0 }), Goes) → Went defers n i c Pushing mem m x [] mem2 end
  sums_more k r d l blocks there e some ends =
      let p = r.shuts in
      let some_sum : 0 < (m.counter r.y + total was_put (m.debt r.y) n) % 2 ^ 64 = subst (λ (a : ℕ). 0 < a) (sum_is k r d l blocks) some in
      went_written defers n i c Pushing mem m x [] mem2 (Entry d COUNT) (sum k d) _ (onward (record c { first = 0 })) Goes end tt ends e
      (view_count defers mem d (sum k d) (with_word mem (Entry d COUNT) (sum k d)) (wrote mem (Entry d COUNT) (sum k d) there))
      (record {
        m2 = summed n m i r.y;
        x2 = x;
        moved = summed_moves n i c.slot m r.y small inv p.stage p.todo;
        written = summed_written n i r.y d k l (view defers mem) m x inv v p.stage blocks (sym p.done);
        pending = summed_pending n i m r.y some_sum;
        logged = refl;
        aside = aside_same m (summed n m i r.y) refl refl;
        slot_is = onward_slot (record c { first = 0 });
        told = tells.Sums r.y p.stage p.todo some_sum refl refl (onward_part (record c { first = 0 }) p.once) (nothing_left k r);
        fits = onward_fits n i _ (summed n m i r.y) x (record c { first = 0 }) (record {
          common = record {
            slot_lt = p.common.slot_lt;
            taken = p.common.taken;
            outside = record { section = p.common.outside.section; defers = p.common.outside.defers };
            hand = p.common.hand;
            pends = p.common.pends;
            lefts = p.common.lefts;
            put_first = p.common.put_first;
          };
          popped = p.popped;
          closing = put_here m.closing i 0;
          put = λ z. p.put;
          put_last = p.put_last;
          batch = held_again (record c { first = 0 }) refl refl (summed n m i r.y) x refl refl refl refl refl refl c.held
              (record { holder = p.batch.holder; last = p.batch.last; behind = p.batch.behind; seen = p.batch.seen; todo = p.batch.todo });
          tries = λ z. absurd (cc (z, p.once));
        }) (λ left. absurd (left p.none_left));
      })

  -- all were counted down before: the batch is this row's to reclaim
  sums_zero : (k : ℕ) (r : Sums n i m x (bare c) k) (d : ℕ) (l : List ℕ) → m.blocks r.y ≡ d ∷ l → IsSome (word_at mem (Entry d COUNT))
      → mem2 ≡ with_word mem (Entry d COUNT) (sum k d) → sum k d ≡ 0 → end ≡ (onward (record c { reclaiming = c.first; first = 0 }), Goes) → Went defers n i c Pushing mem m x [] mem2 end
  sums_zero k r d l blocks there e zero_is ends =
      let p = r.shuts in
      let y = r.y in
      let zero_sum : (m.counter y + total was_put (m.debt y) n) % 2 ^ 64 ≡ 0 = sym (sum_is k r d l blocks) ∙ zero_is in
      let none : m.left i ≡ [] = (nothing_left k r).left in
      let sm = summed_moves n i c.slot m y small inv p.stage p.todo in
      let sw = summed_written n i y d k l (view defers mem) m x inv v p.stage blocks (sym p.done) in
      let m2 = gives_up (summed n m i y) i y in
      let x2 = given_up (summed n m i y) x i y in
      let c2 = record c { reclaiming = c.first; first = 0 } in
      went_written defers n i c Pushing mem m x [] mem2 (Entry d COUNT) (sum k d) _ (onward c2) Goes end tt ends e
      (view_count defers mem d (sum k d) (with_word mem (Entry d COUNT) (sum k d)) (wrote mem (Entry d COUNT) (sum k d) there))
      (record {
        m2 = m2;
        x2 = x2;
        moved = summed_gives_up n i c.slot m y small inv p.stage p.todo none zero_sum;
        written = then_gives_up n i y (view defers mem) _ m (summed n m i y) x x sw sm.inv (put_here m.stage y Closed) (put_here m.counter y _ ∙ zero_sum) (λ j ne h. other j ne (m.stage y) p.stage h);
        pending = summed_gives_up_pending n i m y;
        logged = refl;
        aside = aside_then m (summed n m i y) m2 [] (aside_same m (summed n m i y) refl refl) (aside_gives_up (summed n m i y) i y);
        slot_is = onward_slot c2;
        told = tells.SumsLast y p.stage p.todo zero_sum refl refl (onward_part c2 p.once) (nothing_left k r);
        fits = onward_fits n i _ m2 x2 c2 (record {
          common = record {
            slot_lt = p.common.slot_lt;
            taken = p.common.taken;
            outside = record { section = p.common.outside.section; defers = p.common.outside.defers };
            hand = p.common.hand;
            pends = p.common.pends;
            lefts = put_here x.lefts i (first_or 0 (m.blocks y)) ∙ sym p.first;
            put_first = p.common.put_first;
          };
          popped = p.popped;
          closing = put_here m.closing i 0;
          put = λ z. p.put;
          put_last = p.put_last;
          batch = held_again c2 refl refl m2 x2 refl refl refl refl refl refl c.held
              (record { holder = p.batch.holder; last = p.batch.last; behind = p.batch.behind; seen = p.batch.seen; todo = p.batch.todo });
          tries = λ z. absurd (cc (z, p.once));
        }) (λ left. subst (AllFresh x.drained) (sym (put_here m.left i (m.blocks y))) (fresh_blocks y p.stage));
      })
    where
      other : (j : ℕ) → (j ≡ i → ⊥) → (g : Stage) → g ≡ Closing i → IsOf j m.holder g ≡ true → ⊥
      other j ne g e h = grind arith

  sums_at : (k : ℕ) (r : Sums n i m x (bare c) k) (d : ℕ) (l : List ℕ) → m.blocks r.y ≡ d ∷ l → IsSome (word_at mem (Entry d COUNT)) → mem2 ≡ with_word mem (Entry d COUNT) (sum k d)
      → (q : Bool) → (sum k d == 0) ≡ q → Ends (value_at mem2) (if q then to {T = T} (onward (record c { reclaiming = c.first; first = 0 })) else to (onward (record c { first = 0 }))) end
      → Went defers n i c Pushing mem m x [] mem2 end
  sums_at k r d l blocks there e true zero_is ends = sums_zero k r d l blocks there e (eqb-true (sum k d) 0 zero_is) ends
  sums_at k r d l blocks there e false some ends = sums_more k r d l blocks there e (let ne = eqb-false (sum k d) 0 some in omega arith) ends

  pub sums_steps : (k : ℕ) → Sums n i m x (bare c) k → Steps Took value_at mem (sums c k) mem2 end → Went defers n i c Pushing mem m x [] mem2 end
  sums_steps k r st =
      let b = some_first (m.blocks r.y) r.shuts.some in
      let l = added mem (summed_out c k) (Entry (c.first / 2048) COUNT) k mem2 end st in
      let a : c.first / 2048 ≡ b.0 = of_link c.first b.0 (r.shuts.first ∙ ap (first_or 0) b.2) in
      let found : word_at mem (Entry b.0 COUNT) ≡ Some l.0 = ap (λ u. word_at mem (Entry u COUNT)) (sym a) ∙ l.1 in
      let w : l.0 ≡ words_of mem (Entry b.0 COUNT) = sym (word_found mem (Entry b.0 COUNT) l.0 found) in
      let e : mem2 ≡ with_word mem (Entry b.0 COUNT) (sum k b.0) = l.2 ∙ ap (λ u. with_word mem (Entry u COUNT) ((l.0 + k) % 2 ^ 64)) a ∙ ap (λ u. with_word mem (Entry b.0 COUNT) ((u + k) % 2 ^ 64)) w in
      sums_at k r b.0 b.1 b.2 (rw found refl) e (sum k b.0 == 0) refl
      (subst (λ (u : ℕ). Ends (value_at mem2) (summed_out c k (Found u)) end) w (subst (λ (q : Mem T). Ends (value_at q) (summed_out c k (Found l.0)) end) (sym l.2) l.3))

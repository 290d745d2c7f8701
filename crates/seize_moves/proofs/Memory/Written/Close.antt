-- Writes to the count of a batch: its closing, the addition of what was put, and the end of the batch.
use Rattle.std.proofs.Common.{◌≡◌, ℕ, ◌+◌, ◌%◌, ◌^◌, ◌<◌, Bool, true, false, cond, eqb, List, [], ◌∷◌, refl, arith, subst, sym, eqb-true}
use Rattle.std.proofs.lemmas.Bool.{eqb-false}
use Rattle.seize_moves.specs.Waiting.Held.{count}
use Rattle.seize_moves.proofs.Moves.State.Ghost.{put, is_in, State, Stage, Unused, Open, Closing, Closed, Life, IsIn, was_put, total}
use Rattle.seize_moves.proofs.Moves.State.Moves.{closed, summed}
use Rattle.seize_moves.proofs.Moves.State.Rule.{Inv, IsLive, SameUnlessDead}
use Rattle.seize_moves.proofs.Memory.Words.Chains.{Chain, count_first, first_or}
use Rattle.seize_moves.proofs.Memory.Words.View.{View}
use Rattle.seize_moves.proofs.Memory.Words.Shows.{Extra, Shows, Written, LinkedIs, EndIs, CountIs, ZeroIs, RestIs, batch_word, keeps_like}
use Rattle.seize_moves.proofs.Memory.Words.Apart.{boxed_none, counted_apart}
use Rattle.seize_moves.proofs.Moves.State.Sums.{put_one}

-- the first block of a batch that lives is in it
pub first_in : (n y c : ℕ) (l : List ℕ) (m : State) → Inv n m → IsLive (m.stage y) ≡ true → m.blocks y ≡ c ∷ l → m.life c ≡ IsIn y
first_in n y c l m inv live is = one (m.stage y) (count c (m.blocks y)) (m.life c) live (grind (arith, count_first c l)) (inv.places.boxed y c)
  where
    one : (g : Stage) (k : ℕ) (life : Life) → IsLive g ≡ true → 0 < k → SameUnlessDead g k (is_in y life) → life ≡ IsIn y
    one g k life live some h = grind arith

-- and is in no other one
pub not_first : (n y z c : ℕ) (m : State) → Inv n m → m.life c ≡ IsIn y → (z ≡ y → ⊥) → IsLive (m.stage z) ≡ true → count c (m.blocks z) ≡ 0
not_first n y z c m inv is ne live = boxed_none (m.stage z) (m.blocks z) c z (m.life c) (inv.places.boxed z c) (one (m.life c) is) live
  where
    one : (l : Life) → l ≡ IsIn y → is_in z l ≡ 0
    one l e = grind arith

-- a write to the count of the first block of batch y, which counts from then on as this stage and number say
pub count_put : (n y c v : ℕ) (l : List ℕ) (f : View) (m : State) (x : Extra) (stage : ℕ → Stage) (counter : ℕ → ℕ) → Inv n m → m.life c ≡ IsIn y
    → ((z : ℕ) → CountIs f.counts (m.stage z) (m.counter z) (m.blocks z)) → CountIs (put f.counts c v) (stage y) (counter y) (m.blocks y)
    → ((z : ℕ) → (z ≡ y → ⊥) → stage z ≡ m.stage z) → ((z : ℕ) → (z ≡ y → ⊥) → counter z ≡ m.counter z)
    → (z : ℕ) → CountIs (put f.counts c v) (stage z) (counter z) (m.blocks z)
count_put n y c v l f m x stage counter inv is old new same_stage same_counter z = at (eqb z y) (eqb-true z y) (eqb-false z y)
  where
    at : (t : Bool) → (t ≡ true → z ≡ y) → (t ≡ false → z ≡ y → ⊥) → CountIs (put f.counts c v) (stage z) (counter z) (m.blocks z)
    at true e o = subst (λ (a : ℕ). CountIs (put f.counts c v) (stage a) (counter a) (m.blocks a)) (sym (e refl)) new
    at false e o = rw (same_stage z (o refl), same_counter z (o refl))
        (counted_apart f.counts c v (m.counter z) (m.stage z) (m.blocks z) (not_first n y z c m inv is (o refl)) (old z))

pub zero_put : (y c v a : ℕ) (f : View) (m : State) → m.life c ≡ IsIn y → ZeroIs (f.counts a) (m.life a) → ZeroIs (put f.counts c v a) (m.life a)
zero_put y c v a f m is h = grind arith

-- row i closes batch y of slot s
pub closed_written : (n i s y c : ℕ) (l : List ℕ) (f : View) (m : State) (x : Extra) → Inv n m → Shows n f m x → m.stage y ≡ Open s → m.holder s ≡ i + 1
    → m.blocks y ≡ c ∷ l → x.behind y ≡ 0
    → Written n i f m x (record f { counts = put f.counts c 0 }) (closed n m i s y) x
closed_written n i s y c l f m x inv v op hold is none =
    let fresh : m.stage m.next ≡ Unused = inv.batches.fresh m.next (omega arith) in
    let blank : m.blocks m.next ≡ [] = inv.batches.blank m.next fresh in
    let life = first_in n y c l m inv (rw op refl) is in
    let zero_counter : m.counter y ≡ 0 = (rw op at (inv.batches.tally y)).0 in
    let apart : y ≡ m.next → ⊥ = (λ e. two y op fresh e) in
    record {
      shows = record {
        entries = record {
          headed = v.entries.headed;
          loosed = v.entries.loosed;
          marks = v.entries.marks;
          rests = λ z. rests z (m.stage z) (x.rest z) (m.blocks z) (x.aimed z) fresh refl (v.entries.rests z);
          on = v.entries.on;
          hands = v.entries.hands;
          unspent = v.entries.unspent;
          spots = v.entries.spots;
        };
        linkage = record {
          batched = λ t lt. batched t (v.linkage.batched t lt);
          linked = put_one (λ z g. LinkedIs f.nexts (x.behind z) g (m.blocks z)) (put m.stage y (Closing i)) m.next (Open s)
              (rw blank (sym (sym refl))) (put_one (λ z g. LinkedIs f.nexts (x.behind z) g (m.blocks z)) m.stage y (Closing i)
              (subst (λ (e : ℕ). Chain e f.nexts (first_or e (m.blocks y)) (m.blocks y)) none (rw op at (v.linkage.linked y))) v.linkage.linked);
          ended = put_one (λ z g. EndIs m.holder (x.behind z) g) (put m.stage y (Closing i)) m.next (Open s) (grind arith)
              (put_one (λ z g. EndIs m.holder (x.behind z) g) m.stage y (Closing i) tt v.linkage.ended);
          first = v.linkage.first;
          counted = put_one (λ z g. CountIs (put f.counts c 0) g (m.counter z) (m.blocks z)) (put m.stage y (Closing i)) m.next (Open s) (rw blank tt)
              (count_put n y c 0 l f m x (put m.stage y (Closing i)) m.counter inv life v.linkage.counted (rw is (grind arith)) (λ z ne. grind arith) (λ z ne. refl));
          zeros = λ a. zero_put y c 0 a f m life (v.linkage.zeros a);
        };
        lists = v.lists;
      };
      keeps = keeps_like i f m x _ refl refl refl refl refl;
    }
  where
    two : (y : ℕ) → m.stage y ≡ Open s → m.stage m.next ≡ Unused → y ≡ m.next → ⊥
    two y op fresh e = grind arith

    rests : (z : ℕ) (g : Stage) (rs bs : List ℕ) (a : Bool) → m.stage m.next ≡ Unused → m.stage z ≡ g → RestIs g rs a bs
        → RestIs (cond (eqb z m.next) (Open s) (cond (eqb z y) (Closing i) g)) rs a bs
    rests z g rs bs a fresh e h = grind arith

    batched : (t : ℕ) → f.batches t ≡ batch_word (m.holder t) (m.blocks (m.open_batch t)) → f.batches t ≡ batch_word (m.holder t) (m.blocks (put m.open_batch s m.next t))
    batched t h = grind arith

-- row i adds what was put
pub summed_written : (n i y c k : ℕ) (l : List ℕ) (f : View) (m : State) (x : Extra) → Inv n m → Shows n f m x → m.stage y ≡ Closing i → m.blocks y ≡ c ∷ l
    → k ≡ total was_put (m.debt y) n
    → Written n i f m x (record f { counts = put f.counts c ((f.counts c + k) % 2 ^ 64) }) (summed n m i y) x
summed_written n i y c k l f m x inv v cl is put_is =
    let life = first_in n y c l m inv (rw cl refl) is in
    let word : f.counts c ≡ m.counter y = rw (cl, is) at (v.linkage.counted y) in
    record {
      shows = record {
        entries = record {
          headed = v.entries.headed;
          loosed = v.entries.loosed;
          marks = v.entries.marks;
          rests = put_one (λ z g. RestIs g (x.rest z) (x.aimed z) (m.blocks z)) m.stage y Closed tt v.entries.rests;
          on = v.entries.on;
          hands = v.entries.hands;
          unspent = v.entries.unspent;
          spots = v.entries.spots;
        };
        linkage = record {
          batched = v.linkage.batched;
          linked = put_one (λ z g. LinkedIs f.nexts (x.behind z) g (m.blocks z)) m.stage y Closed (rw cl at (v.linkage.linked y)) v.linkage.linked;
          ended = put_one (λ z g. EndIs m.holder (x.behind z) g) m.stage y Closed tt v.linkage.ended;
          first = v.linkage.first;
          counted = count_put n y c ((f.counts c + k) % 2 ^ 64) l f m x (put m.stage y Closed) (put m.counter y ((m.counter y + total was_put (m.debt y) n) % 2 ^ 64)) inv life
              v.linkage.counted (rw is (closed_at word put_is)) (λ z ne. grind arith) (λ z ne. grind arith);
          zeros = λ a. zero_put y c ((f.counts c + k) % 2 ^ 64) a f m life (v.linkage.zeros a);
        };
        lists = v.lists;
      };
      keeps = keeps_like i f m x _ refl refl refl refl refl;
    }
  where
    closed_at : f.counts c ≡ m.counter y → k ≡ total was_put (m.debt y) n
        → CountIs (put f.counts c ((f.counts c + k) % 2 ^ 64)) (put m.stage y Closed y) (put m.counter y ((m.counter y + total was_put (m.debt y) n) % 2 ^ 64) y) (c ∷ l)
    closed_at e h = grind arith

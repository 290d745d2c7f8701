-- Writes by which a block goes into its slot's open batch.
use Rattle.std.proofs.Common.{◌≡◌, ℕ, ◌+◌, Bool, true, false, cond, eqb, List, ◌∷◌, refl, arith, subst, sym}
use Rattle.seize_moves.specs.Waiting.Held.{count}
use Rattle.seize_moves.proofs.Moves.State.Ghost.{put, is_in, State, Stage, Open, Life, IsIn, IsPending}
use Rattle.seize_moves.proofs.Moves.State.Rule.{Inv, IsOf, IsLive}
use Rattle.seize_moves.proofs.Moves.State.Sums.{put_both, put_one}
use Rattle.seize_moves.proofs.Memory.Words.Named.{link}
use Rattle.seize_moves.proofs.Memory.Words.Chains.{Chain, chain_apart, chain_end, count_last, waiting, first_or, last_from}
use Rattle.seize_moves.proofs.Memory.Words.View.{View}
use Rattle.seize_moves.proofs.Memory.Words.Shows.{Spot, Nowhere, Unspent, On, InHands, SpotLife, Extra, Shows, Written, LinkedIs, EndIs, has_next, has_first}
use Rattle.seize_moves.proofs.Memory.Words.Apart.{Unlisted, unlisted_in, boxed_none, linked_apart, deferred_apart, is_listed, next_put, next_put_of, put_some}

-- the first block to be retired is on its way: the word is of the ones behind it
abbrev pub popped : View → Extra → ℕ → ℕ → Extra
popped f x i b = record x { pends = put x.pends i (f.nexts b); popped = put x.popped i true }

pub popped_written : (n i b : ℕ) (bs : List ℕ) (f : View) (m : State) (x : Extra) → Shows n f m x → m.pending i ≡ b ∷ bs → x.popped i ≡ false
    → Written n i f m x f m (popped f x i b)
popped_written n i b bs f m x v is none = record {
  shows = record {
    entries = v.entries;
    linkage = v.linkage;
    lists = record {
      pended = put_both (λ j w p. Chain 0 f.nexts w (waiting p (m.pending j))) x.pends x.popped i (f.nexts b) true (rw is ((rw (is, none) at (v.lists.pended i)).2)) v.lists.pended;
      lefted = v.lists.lefted;
      putted = v.lists.putted;
      deferring = v.lists.deferring;
      nexted = v.lists.nexted;
      drains = v.lists.drains;
      lived = v.lists.lived;
      carriers = v.lists.carriers;
    };
  };
  keeps = record {
    rows = λ j ne. record { hand = refl; pends = grind arith; popped = grind arith; lefts = refl; put_first = refl };
    batches = λ j y ne k. record { rest = refl; aimed = refl; behind = refl };
    nexts = λ j c ne k. refl;
    firsts = λ j c ne k. refl;
    links = λ j c ne k. refl;
    spots = λ j c ne k. refl;
    owns = λ j c ne k. record { own = λ d has. refl; lists = refl; drained = refl };
  };
}

-- the word of its batch's first block is written into a block to be retired
pub first_written : (n i b w : ℕ) (f : View) (m : State) (x : Extra) → Shows n f m x → m.life b ≡ IsPending i
    → Written n i f m x (record f { firsts = put f.firsts b w }) m x
first_written n i b w f m x v is = record {
  shows = record {
    entries = v.entries;
    linkage = record {
      batched = v.linkage.batched;
      linked = v.linkage.linked;
      ended = v.linkage.ended;
      first = λ c. grind (arith, v.linkage.first c);
      counted = v.linkage.counted;
      zeros = v.linkage.zeros;
    };
    lists = v.lists;
  };
  keeps = record {
    rows = λ j ne. record { hand = refl; pends = refl; popped = refl; lefts = refl; put_first = refl };
    batches = λ j y ne k. record { rest = refl; aimed = refl; behind = refl };
    nexts = λ j c ne k. refl;
    firsts = λ j c ne k. kept j c (x.spot c) (m.life c) ne k (v.entries.spots c) refl;
    links = λ j c ne k. refl;
    spots = λ j c ne k. refl;
    owns = λ j c ne k. record { own = λ d has. refl; lists = refl; drained = refl };
  };
}
  where
    kept : (j c : ℕ) (p : Spot) (l : Life) → (j ≡ i → ⊥) → has_first j l p ≡ true → SpotLife p l → m.life c ≡ l → put f.firsts b w c ≡ f.firsts c
    kept j c Nowhere l ne k h e = grind arith
    kept j c (Unspent y) l ne k h e = grind arith
    kept j c (On t y) l ne k h e = grind arith
    kept j c (InHands u y) l ne k h e = grind arith

-- the link of a block that stands in no list, and that no other row links
pub next_written : (n i b w : ℕ) (f : View) (m : State) (x : Extra) → Shows n f m x
    → is_listed (m.life b) ≡ true → Unlisted b m.pending m.left m.puts m.deferred x.popped → ((y : ℕ) → IsLive (m.stage y) ≡ true → count b (m.blocks y) ≡ 0)
    → ((j : ℕ) → (j ≡ i → ⊥) → has_next j m.holder m.stage (m.life b) ≡ true → ⊥)
    → Written n i f m x (record f { nexts = put f.nexts b w }) m x
next_written n i b w f m x v listed none no_batch own = record {
  shows = record {
    entries = v.entries;
    linkage = record {
      batched = v.linkage.batched;
      linked = λ y. linked_apart f.nexts b w (x.behind y) (m.stage y) (m.blocks y) (no_batch y) (v.linkage.linked y);
      ended = v.linkage.ended;
      first = v.linkage.first;
      counted = v.linkage.counted;
      zeros = v.linkage.zeros;
    };
    lists = record {
      pended = λ j. chain_apart 0 f.nexts b w (x.pends j) (waiting (x.popped j) (m.pending j)) (none.in_pending j) (v.lists.pended j);
      lefted = λ j. chain_apart 0 f.nexts b w (x.lefts j) (m.left j) (none.in_left j) (v.lists.lefted j);
      putted = λ j. chain_apart 0 f.nexts b w (x.put_first j) (m.puts j) (none.in_puts j) (v.lists.putted j);
      deferring = λ t. deferred_apart f.nexts (f.own t) b w (f.lists t) (x.drained t) (m.deferred t) (none.in_deferred t) (v.lists.deferring t);
      nexted = λ c. next_put f.nexts m.life b w c listed (v.lists.nexted c);
      drains = v.lists.drains;
      lived = v.lists.lived;
      carriers = v.lists.carriers;
    };
  };
  keeps = record {
    rows = λ j ne. record { hand = refl; pends = refl; popped = refl; lefts = refl; put_first = refl };
    batches = λ j y ne k. record { rest = refl; aimed = refl; behind = refl };
    nexts = λ j c ne k. one j c (own j ne) k;
    firsts = λ j c ne k. refl;
    links = λ j c ne k. refl;
    spots = λ j c ne k. refl;
    owns = λ j c ne k. record { own = λ d has. refl; lists = refl; drained = refl };
  };
}
  where
    one : (j c : ℕ) → (has_next j m.holder m.stage (m.life b) ≡ true → ⊥) → has_next j m.holder m.stage (m.life c) ≡ true → put f.nexts b w c ≡ f.nexts c
    one j c h k = at (eqb c b) refl
      where
        at : (t : Bool) → eqb c b ≡ t → cond t w (f.nexts c) ≡ f.nexts c
        at true e = absurd (h (grind arith))
        at false e = refl

-- the link of the open batch's last block
abbrev pub ended_by : Extra → ℕ → ℕ → Extra
ended_by x y w = record x { behind = put x.behind y w }

pub in_batch : (n s y c : ℕ) (l : List ℕ) (m : State) → Inv n m → m.stage y ≡ Open s → m.blocks y ≡ c ∷ l
    → (m.life (last_from c l) ≡ IsIn y) × (count (last_from c l) (c ∷ l) ≡ 1)
in_batch n s y c l m inv op is = let some = count_last c l in let k = inv.places.boxed y (last_from c l) in (grind arith, grind arith)

pub behind_written : (n i s y c w : ℕ) (l : List ℕ) (f : View) (m : State) (x : Extra) → Inv n m → Shows n f m x → m.stage y ≡ Open s → m.holder s ≡ i + 1
    → m.blocks y ≡ c ∷ l → Written n i f m x (record f { nexts = put f.nexts (last_from c l) w }) m (ended_by x y w)
behind_written n i s y c w l f m x inv v op hold is =
    let b = last_from c l in
    let k = in_batch n s y c l m inv op is in
    let none = unlisted_in m.stage m.blocks m.left m.pending m.puts m.deferred m.carrier m.life x.popped y b inv.places k.0 in
    record {
      shows = record {
        entries = v.entries;
        linkage = record {
          batched = v.linkage.batched;
          linked = put_some (λ z e. LinkedIs (put f.nexts b w) e (m.stage z) (m.blocks z)) x.behind y w
              (subst (λ (g : Stage). LinkedIs (put f.nexts b w) w g (m.blocks y)) (sym op)
              (subst (λ (bs : List ℕ). Chain w (put f.nexts b w) (first_or w bs) bs) (sym is)
              (chain_end (x.behind y) w f.nexts (link c) c l (rw (op, is) at (v.linkage.linked y)) k.1)))
              (λ z ne. linked_apart f.nexts b w (x.behind z) (m.stage z) (m.blocks z) (boxed_none (m.stage z) (m.blocks z) b z (m.life b) (inv.places.boxed z b) (other z y (m.life b) ne k.0)) (v.linkage.linked z));
          ended = put_one (λ z e. EndIs m.holder e (m.stage z)) x.behind y w (grind arith) v.linkage.ended;
          first = v.linkage.first;
          counted = v.linkage.counted;
          zeros = v.linkage.zeros;
        };
        lists = record {
          pended = λ j. chain_apart 0 f.nexts b w (x.pends j) (waiting (x.popped j) (m.pending j)) (none.in_pending j) (v.lists.pended j);
          lefted = λ j. chain_apart 0 f.nexts b w (x.lefts j) (m.left j) (none.in_left j) (v.lists.lefted j);
          putted = λ j. chain_apart 0 f.nexts b w (x.put_first j) (m.puts j) (none.in_puts j) (v.lists.putted j);
          deferring = λ t. deferred_apart f.nexts (f.own t) b w (f.lists t) (x.drained t) (m.deferred t) (none.in_deferred t) (v.lists.deferring t);
          nexted = λ a. next_put_of f.nexts m.life b w a (IsIn y) k.0 refl (v.lists.nexted a);
          drains = v.lists.drains;
          lived = v.lists.lived;
          carriers = v.lists.carriers;
        };
      };
      keeps = record {
        rows = λ j ne. record { hand = refl; pends = refl; popped = refl; lefts = refl; put_first = refl };
        batches = λ j z ne k. record { rest = refl; aimed = refl; behind = kept_behind j z ne k };
        nexts = λ j a ne p. kept_next j a ne k.0 p;
        firsts = λ j a ne k. refl;
        links = λ j a ne k. refl;
        spots = λ j a ne k. refl;
        owns = λ j a ne k. record { own = λ d has. refl; lists = refl; drained = refl };
      };
    }
  where
    other : (z y : ℕ) (l : Life) → (z ≡ y → ⊥) → l ≡ IsIn y → is_in z l ≡ 0
    other z y l ne is = grind arith

    kept_behind : (j z : ℕ) → (j ≡ i → ⊥) → IsOf j m.holder (m.stage z) ≡ true → put x.behind y w z ≡ x.behind z
    kept_behind j z ne k = grind arith

    kept_next : (j a : ℕ) → (j ≡ i → ⊥) → m.life (last_from c l) ≡ IsIn y → has_next j m.holder m.stage (m.life a) ≡ true → put f.nexts (last_from c l) w a ≡ f.nexts a
    kept_next j a ne k p = at (eqb a (last_from c l)) refl
      where
        at : (t : Bool) → eqb a (last_from c l) ≡ t → cond t w (f.nexts a) ≡ f.nexts a
        at true e = absurd (let q : m.life a ≡ IsIn y = grind arith in grind arith)
        at false e = refl

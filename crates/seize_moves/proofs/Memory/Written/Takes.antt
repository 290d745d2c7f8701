-- A block is taken or dropped: all its words are gone.
use Rattle.std.specs.Prelude.{None}
use Rattle.std.proofs.Common.{◌≡◌, ℕ, Bool, true, false, cond, eqb, List, [], ◌∷◌, refl, arith}
use Rattle.seize_moves.specs.Waiting.Held.{count}
use Rattle.seize_moves.proofs.Moves.State.Ghost.{put, is_in, State, Life, IsFree, IsOwned, IsDoomed, IsLeft, of_dropper, list_of}
use Rattle.seize_moves.proofs.Moves.State.Moves.{taken, dropped}
use Rattle.seize_moves.proofs.Moves.State.Rule.{Inv, IsLive, SameUnlessDead}
use Rattle.seize_moves.proofs.Memory.Words.Chains.{Chain, chain_apart, waiting, blocks_of, marks_apart}
use Rattle.seize_moves.proofs.Memory.Words.View.{View, no_own}
use Rattle.seize_moves.proofs.Memory.Words.Shows.{Spot, Nowhere, Unspent, On, InHands, SpotLife, Extra, Entries, Linkage, Lists, Shows, KeepsWords, Written, FirstIs, ZeroIs, DeferredIs, NextIs, DrainedIs, CarrierIs, lives, is_on, is_in_hands, is_unspent, stands, has_next, has_entry, has_first, has_own}
use Rattle.seize_moves.proofs.Memory.Words.Apart.{boxed_none, linked_apart, deferred_apart, counted_apart, head_apart, count_blocks, count_waiting, is_doomed_first, unlisted_doomed, unlisted_dropped, put_both_some}

-- what is seen without block b
abbrev pub without : View → ℕ → View
without f b = record f {
  nexts = put f.nexts b 0;
  links = put f.links b 0;
  firsts = put f.firsts b 0;
  counts = put f.counts b 0;
  own = no_own f.own b;
  live = put f.live b false;
  lists = put f.lists b None;
}

-- the row is to take it, or has made it, or it is left to it
abbrev pub of_taker : ℕ → Life → Bool
of_taker i (IsLeft j) = eqb i j
of_taker i (IsOwned j) = eqb i j
of_taker i (IsDoomed j) = eqb i j
of_taker i _ = false

-- what is left where a block is gone that its row alone knows: one that it has to take, or never linked, or was left with
module _ (i b : ℕ) (f : View) (m : State) (x : Extra) where
  nowhere : (p : Spot) (l : Life) → of_taker i l ≡ true → SpotLife p l → p ≡ Nowhere
  nowhere p l e h = grind arith

  on_none : (t y : ℕ) → x.spot b ≡ Nowhere → stands b y (list_of (m.head t)) ≡ is_on t y (x.spot b) → stands b y (list_of (m.head t)) ≡ 0
  on_none t y e h = grind arith

  hands_none : (j y : ℕ) → x.spot b ≡ Nowhere → stands b y (m.loose j) ≡ is_in_hands j y (x.spot b) → stands b y (m.loose j) ≡ 0
  hands_none j y e h = grind arith

  rest_none : (z : ℕ) → x.spot b ≡ Nowhere → count b (x.rest z) ≡ is_unspent z (x.spot b) → count b (waiting (x.aimed z) (x.rest z)) ≡ 0
  rest_none z e h = let le = count_waiting b (x.aimed z) (x.rest z) in let none : count b (x.rest z) ≡ 0 = grind arith in omega arith

  spots : (a : ℕ) → x.spot b ≡ Nowhere → SpotLife (x.spot a) (m.life a) → SpotLife (x.spot a) (put m.life b IsFree a)
  spots a e h = grind arith

  no_batch : (y : ℕ) → SameUnlessDead (m.stage y) (count b (m.blocks y)) (is_in y (m.life b)) → of_taker i (m.life b) ≡ true → IsLive (m.stage y) ≡ true → count b (m.blocks y) ≡ 0
  no_batch y box life live = boxed_none (m.stage y) (m.blocks y) b y (m.life b) box (none (m.life b) life) live
    where
      none : (l : Life) → of_taker i l ≡ true → is_in y l ≡ 0
      none l e = grind arith

  first : (c : ℕ) → FirstIs (f.firsts c) m.blocks (m.life c) → FirstIs (put f.firsts b 0 c) m.blocks (put m.life b IsFree c)
  first c h = grind arith

  zeros : (c : ℕ) → ZeroIs (f.counts c) (m.life c) → ZeroIs (put f.counts b 0 c) (put m.life b IsFree c)
  zeros c h = grind arith

  deferring : (t : ℕ) (q : Bool) → DeferredIs (put f.nexts b 0) (f.own t) (f.lists t) (x.drained t) (m.deferred t)
      → DeferredIs (put f.nexts b 0) (λ d. cond q 0 (f.own t d)) (cond q None (f.lists t)) (cond q false (x.drained t)) (m.deferred t)
  deferring t true h = tt
  deferring t false h = h

  nexts : (c : ℕ) → NextIs (f.nexts c) (m.life c) → NextIs (put f.nexts b 0 c) (put m.life b IsFree c)
  nexts c h = grind arith

  drains : (c : ℕ) → DrainedIs (m.life c) (x.drained c) → DrainedIs (put m.life b IsFree c) (put x.drained b false c)
  drains c h = grind arith

  lived : (c : ℕ) → f.live c ≡ lives (m.life c) → put f.live b false c ≡ lives (put m.life b IsFree c)
  lived c h = grind arith

  carriers : (c : ℕ) → CarrierIs (m.life c) (m.carrier c) (f.lists c) → CarrierIs (put m.life b IsFree c) (m.carrier c) (put f.lists b None c)
  carriers c h = at (eqb c b)
    where
      at : (t : Bool) → CarrierIs (cond t IsFree (m.life c)) (m.carrier c) (cond t None (f.lists c))
      at true = tt
      at false = h

  kept_next : (j a : ℕ) → of_taker i (m.life b) ≡ true → (j ≡ i → ⊥) → has_next j m.holder m.stage (m.life a) ≡ true → put f.nexts b 0 a ≡ f.nexts a
  kept_next j a e ne k = grind arith

  kept_first : (j a : ℕ) (p : Spot) → of_taker i (m.life b) ≡ true → x.spot b ≡ Nowhere → (j ≡ i → ⊥) → has_first j (m.life a) p ≡ true → x.spot a ≡ p → put f.firsts b 0 a ≡ f.firsts a
  kept_first j a Nowhere e spot ne k is = grind arith
  kept_first j a (Unspent y) e spot ne k is = grind arith
  kept_first j a (On t y) e spot ne k is = grind arith
  kept_first j a (InHands u y) e spot ne k is = grind arith

  kept_link : (j a : ℕ) → x.spot b ≡ Nowhere → has_entry j m.holder m.stage (x.spot a) ≡ true → put f.links b 0 a ≡ f.links a
  kept_link j a e k = grind arith

  kept_own : (j a d : ℕ) → of_taker i (m.life b) ≡ true → (j ≡ i → ⊥) → has_own j (m.life a) ≡ true → no_own f.own b a d ≡ f.own a d
  kept_own j a d e ne k = grind arith

  kept_lists : (j a : ℕ) → of_taker i (m.life b) ≡ true → (j ≡ i → ⊥) → has_own j (m.life a) ≡ true → put f.lists b None a ≡ f.lists a
  kept_lists j a e ne k = grind arith

  kept_drained : (j a : ℕ) → of_taker i (m.life b) ≡ true → (j ≡ i → ⊥) → has_own j (m.life a) ≡ true → put x.drained b false a ≡ x.drained a
  kept_drained j a e ne k = grind arith

  gone_entries : of_taker i (m.life b) ≡ true → Entries f.links f.heads m.head m.loose m.todo m.stage m.blocks m.life x.spot x.rest x.aimed x.hand
      → Entries (put f.links b 0) f.heads m.head m.loose m.todo m.stage m.blocks (put m.life b IsFree) x.spot x.rest x.aimed x.hand
  gone_entries mine v =
      let spot = nowhere (x.spot b) (m.life b) mine (v.spots b) in
      record {
        headed = λ t. head_apart f.links b 0 (f.heads t) (m.head t) (λ y. on_none t y spot (v.on t y b)) (v.headed t);
        loosed = λ j. chain_apart 3 f.links b 0 (x.hand j) (blocks_of (m.loose j)) (count_blocks b (m.loose j) (λ y. hands_none j y spot (v.hands j y b))) (v.loosed j);
        marks = λ z. marks_apart f.links b 0 (waiting (x.aimed z) (x.rest z)) (waiting (x.aimed z) (m.todo z)) (rest_none z spot (v.unspent z b)) (v.marks z);
        rests = v.rests;
        on = v.on;
        hands = v.hands;
        unspent = v.unspent;
        spots = λ a. spots a spot (v.spots a);
      }

  gone_linkage : (n : ℕ) → Inv n m → of_taker i (m.life b) ≡ true → Linkage n f.batches f.nexts f.firsts f.counts m.holder m.open_batch m.blocks m.stage m.counter m.life x.behind
      → Linkage n f.batches (put f.nexts b 0) (put f.firsts b 0) (put f.counts b 0) m.holder m.open_batch m.blocks m.stage m.counter (put m.life b IsFree) x.behind
  gone_linkage n inv mine v = record {
    batched = v.batched;
    linked = λ y. linked_apart f.nexts b 0 (x.behind y) (m.stage y) (m.blocks y) (no_batch y (inv.places.boxed y b) mine) (v.linked y);
    ended = v.ended;
    first = λ c. first c (v.first c);
    counted = λ y. counted_apart f.counts b 0 (m.counter y) (m.stage y) (m.blocks y) (no_batch y (inv.places.boxed y b) mine) (v.counted y);
    zeros = λ c. zeros c (v.zeros c);
  }

  -- the row's list of blocks to take is another one afterwards
  gone_lists : (n : ℕ) (left : ℕ → List ℕ) (lefts : ℕ → ℕ) → Shows n f m x → ((j : ℕ) → count b (waiting (x.popped j) (m.pending j)) ≡ 0)
      → ((j : ℕ) → count b (m.puts j) ≡ 0) → ((t : ℕ) → count b (m.deferred t) ≡ 0) → ((j : ℕ) → Chain 0 (put f.nexts b 0) (lefts j) (left j))
      → Lists (put f.nexts b 0) (no_own f.own b) (put f.live b false) (put f.lists b None) m.pending left m.puts m.deferred m.carrier (put m.life b IsFree)
      x.pends lefts x.put_first x.popped (put x.drained b false)
  gone_lists n left lefts v in_pending in_puts in_deferred chains = record {
    pended = λ j. chain_apart 0 f.nexts b 0 (x.pends j) (waiting (x.popped j) (m.pending j)) (in_pending j) (v.lists.pended j);
    lefted = chains;
    putted = λ j. chain_apart 0 f.nexts b 0 (x.put_first j) (m.puts j) (in_puts j) (v.lists.putted j);
    deferring = λ t. deferring t (eqb t b) (deferred_apart f.nexts (f.own t) b 0 (f.lists t) (x.drained t) (m.deferred t) (in_deferred t) (v.lists.deferring t));
    nexted = λ c. nexts c (v.lists.nexted c);
    drains = λ c. drains c (v.lists.drains c);
    lived = λ c. lived c (v.lists.lived c);
    carriers = λ c. carriers c (v.lists.carriers c);
  }

  gone_keeps : (lefts : ℕ → ℕ) → of_taker i (m.life b) ≡ true → SpotLife (x.spot b) (m.life b) → ((j : ℕ) → (j ≡ i → ⊥) → lefts j ≡ x.lefts j)
      → KeepsWords i f m x (without f b) (record x { lefts = lefts; drained = put x.drained b false })
  gone_keeps lefts mine life same =
      let spot = nowhere (x.spot b) (m.life b) mine life in
      record {
        rows = λ j ne. record { hand = refl; pends = refl; popped = refl; lefts = same j ne; put_first = refl };
        batches = λ j z ne k. record { rest = refl; aimed = refl; behind = refl };
        nexts = λ j a ne k. kept_next j a mine ne k;
        firsts = λ j a ne k. kept_first j a (x.spot a) mine spot ne k refl;
        links = λ j a ne k. kept_link j a spot k;
        spots = λ j a ne k. refl;
        owns = λ j a ne k. record { own = λ d has. kept_own j a d mine ne k; lists = kept_lists j a mine ne k; drained = kept_drained j a mine ne k };
      }

-- row i goes on with the block behind it
abbrev pub taken_off : View → Extra → ℕ → ℕ → Extra
taken_off f x i b = record x { lefts = put x.lefts i (f.nexts b); drained = put x.drained b false }

pub taken_written : (n i b : ℕ) (bs : List ℕ) (f : View) (m : State) (x : Extra) → Inv n m → Shows n f m x → m.left i ≡ b ∷ bs → m.deferred b ≡ []
    → Written n i f m x (without f b) (taken m i b bs) (taken_off f x i b)
taken_written n i b bs f m x inv v is empty =
    let life = is_doomed_first m.stage m.blocks m.left m.pending m.puts m.deferred m.carrier m.life x.popped i b bs inv.places is in
    let none = unlisted_doomed m.stage m.blocks m.left m.pending m.puts m.deferred m.carrier m.life x.popped i b bs inv.places is in
    let mine : of_taker i (m.life b) ≡ true = rw life (grind arith) in
    record {
      shows = record {
        entries = gone_entries i b f m x mine v.entries;
        linkage = gone_linkage i b f m x n inv mine v.linkage;
        lists = gone_lists i b f m x n (put m.left i bs) (put x.lefts i (f.nexts b)) v none.in_pending none.in_puts none.in_deferred
            (put_both_some (λ j w l. Chain 0 (put f.nexts b 0) w l) x.lefts m.left i (f.nexts b) bs
            (chain_apart 0 f.nexts b 0 (f.nexts b) bs none.behind ((rw is at (v.lists.lefted i)).2))
            (λ j ne. chain_apart 0 f.nexts b 0 (x.lefts j) (m.left j) (none.in_left j ne) (v.lists.lefted j)));
      };
      keeps = gone_keeps i b f m x (put x.lefts i (f.nexts b)) mine (v.entries.spots b) (λ j ne. grind arith);
    }

dropper_takes : (i : ℕ) (l : Life) → of_dropper i l ≡ true → of_taker i l ≡ true
dropper_takes i l e = grind arith

-- a block is reclaimed that was never linked, or is left to a caller
abbrev pub dropped_off : Extra → ℕ → Extra
dropped_off x b = record x { drained = put x.drained b false }

pub dropped_written : (n i b : ℕ) (f : View) (m : State) (x : Extra) → Inv n m → Shows n f m x → of_dropper i (m.life b) ≡ true
    → Written n i f m x (without f b) (dropped m b) (dropped_off x b)
dropped_written n i b f m x inv v life =
    let none = unlisted_dropped m.stage m.blocks m.left m.pending m.puts m.deferred m.carrier m.life x.popped i b inv.places life in
    let mine = dropper_takes i (m.life b) life in
    record {
      shows = record {
        entries = gone_entries i b f m x mine v.entries;
        linkage = gone_linkage i b f m x n inv mine v.linkage;
        lists = gone_lists i b f m x n m.left x.lefts v none.in_pending none.in_puts none.in_deferred
            (λ j. chain_apart 0 f.nexts b 0 (x.lefts j) (m.left j) (none.in_left j) (v.lists.lefted j));
      };
      keeps = gone_keeps i b f m x x.lefts mine (v.entries.spots b) (λ j ne. refl);
    }

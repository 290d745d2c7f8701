-- Blocks that were deferred until one that is reclaimed: their list is taken over, and goes in front of what is to be retired.
use Rattle.std.specs.Prelude.{Option, Some, None}
use Rattle.std.proofs.Common.{◌≡◌, ℕ, ◌<◌, Bool, true, false, cond, eqb, List, [], ◌∷◌, ◌++◌, refl, arith, eqb-true}
use Rattle.seize_moves.specs.Waiting.Held.{count}
use Rattle.seize_moves.proofs.Moves.State.Ghost.{put, is_in, State, Life, IsPending, IsDoomed}
use Rattle.seize_moves.proofs.Moves.State.Moves.{drained, undeferred}
use Rattle.seize_moves.proofs.Moves.State.Rule.{Inv, IsLive}
use Rattle.seize_moves.proofs.Moves.State.Sums.{put_both}
use Rattle.seize_moves.proofs.Memory.Words.Chains.{Chain, chain_apart, chain_append, chain_end, count_last, waiting, last_from}
use Rattle.seize_moves.proofs.Memory.Words.View.{View}
use Rattle.seize_moves.proofs.Memory.Words.Shows.{Spot, SpotLife, Extra, Entries, Shows, Written, FirstIs, ZeroIs, DeferredIs, NextIs, DrainedIs, CarrierIs, lives, has_own, has_next}
use Rattle.seize_moves.proofs.Memory.Words.Apart.{boxed_none, linked_apart, deferred_apart, next_put_of, is_pending_put, unlisted_put, once_put, put_some, put_both_some}

-- what the words say of lives is the same of blocks that a row is to retire as of deferred ones

module _ (i b : ℕ) where
  spots_same : (p : Spot) (l : Life) → SpotLife p l → SpotLife p (undeferred i b l)
  spots_same p l h = grind arith

  first_same : (w : ℕ) (blocks : ℕ → List ℕ) (l : Life) → FirstIs w blocks l → FirstIs w blocks (undeferred i b l)
  first_same w blocks l h = grind arith

  zeros_same : (w : ℕ) (l : Life) → ZeroIs w l → ZeroIs w (undeferred i b l)
  zeros_same w l h = grind arith

  lived_same : (k : Bool) (l : Life) → k ≡ lives l → k ≡ lives (undeferred i b l)
  lived_same k l h = grind arith

  carriers_same : (l : Life) (k : Bool) (d : Option ℕ) → CarrierIs l k d → CarrierIs (undeferred i b l) k d
  carriers_same l k d h = grind arith

  nexts_same : (w : ℕ) (l : Life) → NextIs w l → NextIs w (undeferred i b l)
  nexts_same w l h = grind arith

  drains_same : (l : Life) (d : Bool) → DrainedIs l d → DrainedIs (undeferred i b l) d
  drains_same l d h = grind arith

  drains_put : (life : ℕ → Life) (drained : ℕ → Bool) (c : ℕ) → life b ≡ IsDoomed i → DrainedIs (life c) (drained c) → DrainedIs (undeferred i b (life c)) (put drained b true c)
  drains_put life drained c is h = at (eqb c b) (eqb-true c b)
    where
      at : (t : Bool) → (t ≡ true → c ≡ b) → DrainedIs (undeferred i b (life c)) (cond t true (drained c))
      at true e = let k = e refl in grind arith
      at false e = drains_same (life c) (drained c) h

  kept_drained : (j c : ℕ) (life : ℕ → Life) (drained : ℕ → Bool) → life b ≡ IsDoomed i → (j ≡ i → ⊥) → has_own j (life c) ≡ true → put drained b true c ≡ drained c
  kept_drained j c life drained is ne k = grind arith

  list_over : (nexts : ℕ → ℕ) (f : View) (m : State) (x : Extra) → ((t : ℕ) → (t ≡ b → ⊥) → DeferredIs nexts (f.own t) (f.lists t) (x.drained t) (m.deferred t))
      → (t : ℕ) → DeferredIs nexts (f.own t) (f.lists t) (put x.drained b true t) (put m.deferred b [] t)
  list_over nexts f m x = put_both_some (λ t d l. DeferredIs nexts (f.own t) (f.lists t) d l) x.drained m.deferred b true [] (gone (f.own b) (f.lists b))
    where
      gone : (own : ℕ → ℕ) (o : Option ℕ) → DeferredIs nexts own o true []
      gone own None = tt
      gone own (Some d) = tt

  entries_same : (f : View) (m : State) (x : Extra) → Entries f.links f.heads m.head m.loose m.todo m.stage m.blocks m.life x.spot x.rest x.aimed x.hand
      → Entries f.links f.heads m.head m.loose m.todo m.stage m.blocks (λ c. undeferred i b (m.life c)) x.spot x.rest x.aimed x.hand
  entries_same f m x v = record {
    headed = v.headed;
    loosed = v.loosed;
    marks = v.marks;
    rests = v.rests;
    on = v.on;
    hands = v.hands;
    unspent = v.unspent;
    spots = λ a. spots_same (x.spot a) (m.life a) (v.spots a);
  }

list_begins : (n b d : ℕ) (f : View) (m : State) (x : Extra) → Shows n f m x → f.lists b ≡ Some d → x.drained b ≡ false → Chain 0 f.nexts (f.own b d) (m.deferred b)
list_begins n b d f m x v has fresh = rw (has, fresh) at (v.lists.deferring b)

-- row i takes over the list of block b, with no blocks put before
abbrev pub drained_to : Extra → ℕ → ℕ → ℕ → Extra
drained_to x i b w = record x { put_first = put x.put_first i w; drained = put x.drained b true }

pub drained_written : (n i b d : ℕ) (f : View) (m : State) (x : Extra) → Shows n f m x → m.life b ≡ IsDoomed i → f.lists b ≡ Some d → x.drained b ≡ false
    → m.puts i ≡ [] → Written n i f m x f (drained m i b) (drained_to x i b (f.own b d))
drained_written n i b d f m x v is has fresh none = record {
  shows = record {
    entries = entries_same i b f m x v.entries;
    linkage = record {
      batched = v.linkage.batched;
      linked = v.linkage.linked;
      ended = v.linkage.ended;
      first = λ c. first_same i b (f.firsts c) m.blocks (m.life c) (v.linkage.first c);
      counted = v.linkage.counted;
      zeros = λ c. zeros_same i b (f.counts c) (m.life c) (v.linkage.zeros c);
    };
    lists = record {
      pended = v.lists.pended;
      lefted = v.lists.lefted;
      putted = put_both (λ j w l. Chain 0 f.nexts w l) x.put_first m.puts i (f.own b d) (m.puts i ++ m.deferred b) (rw none (list_begins n b d f m x v has fresh)) v.lists.putted;
      deferring = list_over i b f.nexts f m x (λ t ne. v.lists.deferring t);
      nexted = λ c. nexts_same i b (f.nexts c) (m.life c) (v.lists.nexted c);
      drains = λ c. drains_put i b m.life x.drained c is (v.lists.drains c);
      lived = λ c. lived_same i b (f.live c) (m.life c) (v.lists.lived c);
      carriers = λ c. carriers_same i b (m.life c) (m.carrier c) (f.lists c) (v.lists.carriers c);
    };
  };
  keeps = record {
    rows = λ j ne. record { hand = refl; pends = refl; popped = refl; lefts = refl; put_first = grind arith };
    batches = λ j z ne k. record { rest = refl; aimed = refl; behind = refl };
    nexts = λ j a ne k. refl;
    firsts = λ j a ne k. refl;
    links = λ j a ne k. refl;
    spots = λ j a ne k. refl;
    owns = λ j a ne k. record { own = λ d has. refl; lists = refl; drained = kept_drained i b j a m.life x.drained is ne k };
  };
}

pub kept_next : (i j c w a : ℕ) (f : View) (m : State) → m.life c ≡ IsPending i → (j ≡ i → ⊥) → has_next j m.holder m.stage (m.life a) ≡ true → put f.nexts c w a ≡ f.nexts a
kept_next i j c w a f m is ne p = at (eqb a c) (eqb-true a c)
  where
    not_other : (l : Life) → l ≡ IsPending i → has_next j m.holder m.stage l ≡ true → ⊥
    not_other l e h = grind arith

    at : (t : Bool) → (t ≡ true → a ≡ c) → cond t w (f.nexts a) ≡ f.nexts a
    at true e = absurd (not_other (m.life a) (ap_life (e refl)) p)
      where
        ap_life : a ≡ c → m.life a ≡ IsPending i
        ap_life k = grind arith
    at false e = refl

-- or behind those that were put before, of which the last one is linked to it
abbrev pub drained_too : Extra → ℕ → Extra
drained_too x b = record x { drained = put x.drained b true }

pub drained_more_written : (n i b d c : ℕ) (l : List ℕ) (f : View) (m : State) (x : Extra) → Inv n m → Shows n f m x → m.life b ≡ IsDoomed i → f.lists b ≡ Some d
    → x.drained b ≡ false → m.puts i ≡ c ∷ l
    → Written n i f m x (record f { nexts = put f.nexts (last_from c l) (f.own b d) }) (drained m i b) (drained_too x b)
drained_more_written n i b d c l f m x inv v is has fresh puts =
    let z = last_from c l in
    let w = f.own b d in
    let some : 0 < count (last_from c l) (m.puts i) = grind (arith, count_last c l) in
    let mine = is_pending_put m.stage m.blocks m.left m.pending m.puts m.deferred m.carrier m.life x.popped i z inv.places some in
    let none = unlisted_put m.stage m.blocks m.left m.pending m.puts m.deferred m.carrier m.life x.popped i z inv.places some in
    let once = once_put m.stage m.blocks m.left m.pending m.puts m.deferred m.carrier m.life x.popped i z inv.places some in
    record {
      shows = record {
        entries = entries_same i b f m x v.entries;
        linkage = record {
          batched = v.linkage.batched;
          linked = λ y. linked_apart f.nexts z w (x.behind y) (m.stage y) (m.blocks y) (no_batch y z mine) (v.linkage.linked y);
          ended = v.linkage.ended;
          first = λ c. first_same i b (f.firsts c) m.blocks (m.life c) (v.linkage.first c);
          counted = v.linkage.counted;
          zeros = λ c. zeros_same i b (f.counts c) (m.life c) (v.linkage.zeros c);
        };
        lists = record {
          pended = λ j. chain_apart 0 f.nexts z w (x.pends j) (waiting (x.popped j) (m.pending j)) (none.in_pending j) (v.lists.pended j);
          lefted = λ j. chain_apart 0 f.nexts z w (x.lefts j) (m.left j) (none.in_left j) (v.lists.lefted j);
          putted = put_some (λ j l. Chain 0 (put f.nexts z w) (x.put_first j) l) m.puts i (m.puts i ++ m.deferred b)
              (chain_append 0 w (put f.nexts z w) (x.put_first i) (m.puts i) (m.deferred b)
              (rw puts (chain_end 0 w f.nexts (x.put_first i) c l (rw puts at (v.lists.putted i)) (rw puts at (once.0))))
              (chain_apart 0 f.nexts z w w (m.deferred b) (none.in_deferred b) (list_begins n b d f m x v has fresh)))
              (λ j ne. chain_apart 0 f.nexts z w (x.put_first j) (m.puts j) (none.in_puts j ne) (v.lists.putted j));
          deferring = list_over i b (put f.nexts z w) f m x
              (λ t ne. deferred_apart f.nexts (f.own t) z w (f.lists t) (x.drained t) (m.deferred t) (none.in_deferred t) (v.lists.deferring t));
          nexted = λ c. nexts_same i b (put f.nexts z w c) (m.life c) (next_put_of f.nexts m.life z w c (IsPending i) mine refl (v.lists.nexted c));
          drains = λ c. drains_put i b m.life x.drained c is (v.lists.drains c);
          lived = λ c. lived_same i b (f.live c) (m.life c) (v.lists.lived c);
          carriers = λ c. carriers_same i b (m.life c) (m.carrier c) (f.lists c) (v.lists.carriers c);
        };
      };
      keeps = record {
        rows = λ j ne. record { hand = refl; pends = refl; popped = refl; lefts = refl; put_first = refl };
        batches = λ j y ne k. record { rest = refl; aimed = refl; behind = refl };
        nexts = λ j a ne k. kept_next i j z w a f m mine ne k;
        firsts = λ j a ne k. refl;
        links = λ j a ne k. refl;
        spots = λ j a ne k. refl;
        owns = λ j a ne k. record { own = λ d has. refl; lists = refl; drained = kept_drained i b j a m.life x.drained is ne k };
      };
    }
  where
    no_batch : (y z : ℕ) → m.life z ≡ IsPending i → IsLive (m.stage y) ≡ true → count z (m.blocks y) ≡ 0
    no_batch y z mine live = boxed_none (m.stage y) (m.blocks y) z y (m.life z) (inv.places.boxed y z) (none (m.life z) mine) live
      where
        none : (l : Life) → l ≡ IsPending i → is_in y l ≡ 0
        none l e = grind arith

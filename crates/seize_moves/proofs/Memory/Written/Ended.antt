-- A block is left over with its further values: no word is written, and the word that its list begins with means nothing from then on.
use Rattle.std.specs.Prelude.{Option, None, Some}
use Rattle.std.proofs.Common.{◌≡◌, ℕ, Bool, true, false, cond, eqb, [], refl, arith}
use Rattle.seize_moves.proofs.Moves.State.Ghost.{put, State, Life, IsUnlinked, IsLeft}
use Rattle.seize_moves.proofs.Moves.State.Moves.{left_with, left_over}
use Rattle.seize_moves.proofs.Memory.Words.View.{View}
use Rattle.seize_moves.proofs.Memory.Words.Shows.{Spot, SpotLife, Extra, Shows, Written, FirstIs, ZeroIs, DeferredIs, NextIs, DrainedIs, CarrierIs, lives, has_own}

-- its list is as if it was taken over
abbrev pub without_list : Extra → ℕ → Extra
without_list x b = record x { drained = put x.drained b true }

module _ (i b holder : ℕ) (f : View) (m : State) (x : Extra) (h : m.life b ≡ IsUnlinked holder) where
  abbrev life2 : ℕ → Life
  life2 = put (λ c. left_with i b (m.life c)) b (IsLeft i)

  spots : (c : ℕ) (p : Spot) → SpotLife p (m.life c) → SpotLife p (life2 c)
  spots c p k = grind (arith, h)

  first : (c w : ℕ) → FirstIs w m.blocks (m.life c) → FirstIs w m.blocks (life2 c)
  first c w k = grind (arith, h)

  zeros : (c : ℕ) → ZeroIs (f.counts c) (m.life c) → ZeroIs (f.counts c) (life2 c)
  zeros c k = grind (arith, h)

  nexts : (c w : ℕ) → NextIs w (m.life c) → NextIs w (life2 c)
  nexts c w k = grind (arith, h)

  drains : (c : ℕ) → DrainedIs (m.life c) (x.drained c) → DrainedIs (life2 c) (put x.drained b true c)
  drains c k = grind (arith, h)

  lived : (c : ℕ) (live : Bool) → live ≡ lives (m.life c) → live ≡ lives (life2 c)
  lived c live k = grind (arith, h)

  carriers : (c : ℕ) (o : Option ℕ) → CarrierIs (m.life c) (m.carrier c) o → CarrierIs (life2 c) (m.carrier c) o
  carriers c o k = grind (arith, h)

  deferring : (t : ℕ) → DeferredIs f.nexts (f.own t) (f.lists t) (x.drained t) (m.deferred t)
      → DeferredIs f.nexts (f.own t) (f.lists t) (put x.drained b true t) (put m.deferred b [] t)
  deferring t k = at (eqb t b) (f.lists t) k
    where
      at : (q : Bool) (o : Option ℕ) → DeferredIs f.nexts (f.own t) o (x.drained t) (m.deferred t)
          → DeferredIs f.nexts (f.own t) o (cond q true (x.drained t)) (cond q [] (m.deferred t))
      at true None k = tt
      at true (Some d) k = tt
      at false o k = k

  undrained : (j c : ℕ) → has_own j (m.life c) ≡ true → put x.drained b true c ≡ x.drained c
  undrained j c k = grind (arith, h)

  pub left_over_written : (n k : ℕ) → Shows n f m x → Written n k f m x f (left_over m i b) (without_list x b)
  left_over_written n k v = record {
    shows = record {
      entries = record {
        headed = v.entries.headed;
        loosed = v.entries.loosed;
        marks = v.entries.marks;
        rests = v.entries.rests;
        on = v.entries.on;
        hands = v.entries.hands;
        unspent = v.entries.unspent;
        spots = λ c. spots c (x.spot c) (v.entries.spots c);
      };
      linkage = record {
        batched = v.linkage.batched;
        linked = v.linkage.linked;
        ended = v.linkage.ended;
        first = λ c. first c (f.firsts c) (v.linkage.first c);
        counted = v.linkage.counted;
        zeros = λ c. zeros c (v.linkage.zeros c);
      };
      lists = record {
        pended = v.lists.pended;
        lefted = v.lists.lefted;
        putted = v.lists.putted;
        deferring = λ t. deferring t (v.lists.deferring t);
        nexted = λ c. nexts c (f.nexts c) (v.lists.nexted c);
        drains = λ c. drains c (v.lists.drains c);
        lived = λ c. lived c (f.live c) (v.lists.lived c);
        carriers = λ c. carriers c (f.lists c) (v.lists.carriers c);
      };
    };
    keeps = record {
      rows = λ j ne. record { hand = refl; pends = refl; popped = refl; lefts = refl; put_first = refl };
      batches = λ j y ne o. record { rest = refl; aimed = refl; behind = refl };
      nexts = λ j c ne o. refl;
      firsts = λ j c ne o. refl;
      links = λ j c ne o. refl;
      spots = λ j c ne o. refl;
      owns = λ j c ne o. record { own = λ d has. refl; lists = refl; drained = undrained j c o };
    };
  }

-- What a batch had put goes in front of what is to be retired.
use Rattle.std.proofs.Common.{◌≡◌, ℕ, ◌<◌, true, false, List, [], ◌∷◌, ◌++◌, refl, arith, append-nil}
use Rattle.seize_moves.specs.Waiting.Held.{count}
use Rattle.seize_moves.proofs.Moves.State.Ghost.{put, is_in, State, Life, IsPending}
use Rattle.seize_moves.proofs.Moves.State.Moves.{joined}
use Rattle.seize_moves.proofs.Moves.State.Rule.{Inv, IsLive}
use Rattle.seize_moves.proofs.Moves.State.Sums.{put_both}
use Rattle.seize_moves.proofs.Memory.Words.Chains.{Chain, chain_apart, chain_append, chain_end, count_last, waiting, last_from}
use Rattle.seize_moves.proofs.Memory.Words.View.{View}
use Rattle.seize_moves.proofs.Memory.Words.Shows.{Extra, Shows, Written}
use Rattle.seize_moves.proofs.Memory.Words.Apart.{boxed_none, linked_apart, deferred_apart, next_put_of, is_pending_put, unlisted_put, once_put, put_both_some}
use Rattle.seize_moves.proofs.Memory.Written.Puts.{kept_next}

-- row i has nothing put, and its list begins with what was put
abbrev pub joined_to : Extra → ℕ → Extra
joined_to x i = record x { pends = put x.pends i (x.put_first i); put_first = put x.put_first i 0 }

-- where nothing else is to be retired, no word is written
pub joined_alone_written : (n i : ℕ) (f : View) (m : State) (x : Extra) → Shows n f m x → m.pending i ≡ [] → x.popped i ≡ false
    → Written n i f m x f (joined m i) (joined_to x i)
joined_alone_written n i f m x v none pop = record {
  shows = record {
    entries = v.entries;
    linkage = v.linkage;
    lists = record {
      pended = put_both (λ j w l. Chain 0 f.nexts w (waiting (x.popped j) l)) x.pends m.pending i (x.put_first i) (m.puts i ++ m.pending i)
          (rw (pop, none) (rw append-nil (v.lists.putted i))) v.lists.pended;
      lefted = v.lists.lefted;
      putted = put_both (λ j w l. Chain 0 f.nexts w l) x.put_first m.puts i 0 [] refl v.lists.putted;
      deferring = v.lists.deferring;
      nexted = v.lists.nexted;
      drains = v.lists.drains;
      lived = v.lists.lived;
      carriers = v.lists.carriers;
    };
  };
  keeps = record {
    rows = λ j ne. record { hand = refl; pends = grind arith; popped = refl; lefts = refl; put_first = grind arith };
    batches = λ j z ne k. record { rest = refl; aimed = refl; behind = refl };
    nexts = λ j a ne k. refl;
    firsts = λ j a ne k. refl;
    links = λ j a ne k. refl;
    spots = λ j a ne k. refl;
    owns = λ j a ne k. record { own = λ d has. refl; lists = refl; drained = refl };
  };
}

-- else the last block put is linked to the rest
pub joined_written : (n i c : ℕ) (l : List ℕ) (f : View) (m : State) (x : Extra) → Inv n m → Shows n f m x → m.puts i ≡ c ∷ l → x.popped i ≡ false
    → Written n i f m x (record f { nexts = put f.nexts (last_from c l) (x.pends i) }) (joined m i) (joined_to x i)
joined_written n i c l f m x inv v puts pop =
    let z = last_from c l in
    let w = x.pends i in
    let some : 0 < count (last_from c l) (m.puts i) = grind (arith, count_last c l) in
    let mine = is_pending_put m.stage m.blocks m.left m.pending m.puts m.deferred m.carrier m.life x.popped i z inv.places some in
    let none = unlisted_put m.stage m.blocks m.left m.pending m.puts m.deferred m.carrier m.life x.popped i z inv.places some in
    let once = once_put m.stage m.blocks m.left m.pending m.puts m.deferred m.carrier m.life x.popped i z inv.places some in
    record {
      shows = record {
        entries = v.entries;
        linkage = record {
          batched = v.linkage.batched;
          linked = λ y. linked_apart f.nexts z w (x.behind y) (m.stage y) (m.blocks y) (no_batch y z mine) (v.linkage.linked y);
          ended = v.linkage.ended;
          first = v.linkage.first;
          counted = v.linkage.counted;
          zeros = v.linkage.zeros;
        };
        lists = record {
          pended = put_both_some (λ j u r. Chain 0 (put f.nexts z w) u (waiting (x.popped j) r)) x.pends m.pending i (x.put_first i) (m.puts i ++ m.pending i)
              (rw pop (chain_append 0 w (put f.nexts z w) (x.put_first i) (m.puts i) (m.pending i)
              (rw puts (chain_end 0 w f.nexts (x.put_first i) c l (rw puts at (v.lists.putted i)) (rw puts at (once.0))))
              (chain_apart 0 f.nexts z w w (m.pending i) once.1 (rw pop at (v.lists.pended i)))))
              (λ j ne. chain_apart 0 f.nexts z w (x.pends j) (waiting (x.popped j) (m.pending j)) (none.in_pending j) (v.lists.pended j));
          lefted = λ j. chain_apart 0 f.nexts z w (x.lefts j) (m.left j) (none.in_left j) (v.lists.lefted j);
          putted = put_both_some (λ j u r. Chain 0 (put f.nexts z w) u r) x.put_first m.puts i 0 [] refl
              (λ j ne. chain_apart 0 f.nexts z w (x.put_first j) (m.puts j) (none.in_puts j ne) (v.lists.putted j));
          deferring = λ t. deferred_apart f.nexts (f.own t) z w (f.lists t) (x.drained t) (m.deferred t) (none.in_deferred t) (v.lists.deferring t);
          nexted = λ a. next_put_of f.nexts m.life z w a (IsPending i) mine refl (v.lists.nexted a);
          drains = v.lists.drains;
          lived = v.lists.lived;
          carriers = v.lists.carriers;
        };
      };
      keeps = record {
        rows = λ j ne. record { hand = refl; pends = grind arith; popped = refl; lefts = refl; put_first = grind arith };
        batches = λ j y ne k. record { rest = refl; aimed = refl; behind = refl };
        nexts = λ j a ne k. kept_next i j z w a f m mine ne k;
        firsts = λ j a ne k. refl;
        links = λ j a ne k. refl;
        spots = λ j a ne k. refl;
        owns = λ j a ne k. record { own = λ d has. refl; lists = refl; drained = refl };
      };
    }
  where
    no_batch : (y z : ℕ) → m.life z ≡ IsPending i → IsLive (m.stage y) ≡ true → count z (m.blocks y) ≡ 0
    no_batch y z mine live = boxed_none (m.stage y) (m.blocks y) z y (m.life z) (inv.places.boxed y z) (none (m.life z) mine) live
      where
        none : (l : Life) → l ≡ IsPending i → is_in y l ≡ 0
        none l e = grind arith

-- One write after another: what both leave to the other rows.
use Rattle.std.proofs.Common.{◌≡◌, ℕ, true}
use Rattle.seize_moves.proofs.Moves.State.Ghost.{State, Stage, Life, IsFree, IsOwned, IsLinked, IsUnlinked, IsDeferring, IsDeferred, IsPending, IsIn, IsDoomed, IsLeft}
use Rattle.seize_moves.proofs.Moves.State.Rule.{IsOf, Keeps}
use Rattle.seize_moves.proofs.Moves.State.Together.{still_of}
use Rattle.seize_moves.proofs.Memory.Words.View.{View}
use Rattle.seize_moves.proofs.Memory.Words.Shows.{Spot, Nowhere, Unspent, On, InHands, Extra, KeepsWords, has_next, has_entry, has_first}

next_still : (j : ℕ) (h h2 : ℕ → ℕ) (g g2 : ℕ → Stage) (l : Life) → ((b : ℕ) → IsOf j h (g b) ≡ true → IsOf j h2 (g2 b) ≡ true) → has_next j h g l ≡ true → has_next j h2 g2 l ≡ true
next_still j h h2 g g2 IsFree of k = k
next_still j h h2 g g2 (IsOwned i) of k = k
next_still j h h2 g g2 IsLinked of k = k
next_still j h h2 g g2 (IsUnlinked i) of k = k
next_still j h h2 g g2 (IsDeferring i s t) of k = k
next_still j h h2 g g2 (IsDeferred t) of k = k
next_still j h h2 g g2 (IsPending i) of k = k
next_still j h h2 g g2 (IsIn b) of k = of b k
next_still j h h2 g g2 (IsDoomed i) of k = k
next_still j h h2 g g2 (IsLeft i) of k = k

entry_still : (j : ℕ) (h h2 : ℕ → ℕ) (g g2 : ℕ → Stage) (p : Spot) → ((b : ℕ) → IsOf j h (g b) ≡ true → IsOf j h2 (g2 b) ≡ true) → has_entry j h g p ≡ true → has_entry j h2 g2 p ≡ true
entry_still j h h2 g g2 Nowhere of k = k
entry_still j h h2 g g2 (Unspent b) of k = of b k
entry_still j h h2 g g2 (On t b) of k = k
entry_still j h h2 g g2 (InHands i b) of k = k

-- where the first move changes no life
pub keeps_then : (n i s : ℕ) (f : View) (m : State) (x : Extra) (g : View) (m2 : State) (y : Extra) (h : View) (z : Extra) → Keeps n i s m m2 → m2.life ≡ m.life
    → ((j c : ℕ) → (j ≡ i → ⊥) → has_first j (m.life c) (x.spot c) ≡ true → has_first j (m.life c) (y.spot c) ≡ true)
    → KeepsWords i f m x g y → KeepsWords i g m2 y h z → KeepsWords i f m x h z
keeps_then n i s f m x g m2 y h z k life first a b = record {
  rows = λ j ne. let p = a.rows j ne in let q = b.rows j ne in record {
    hand = cc (p.hand, q.hand);
    pends = cc (p.pends, q.pends);
    popped = cc (p.popped, q.popped);
    lefts = cc (p.lefts, q.lefts);
    put_first = cc (p.put_first, q.put_first);
  };
  batches = λ j c ne o. let p = a.batches j c ne o in let q = b.batches j c ne (of j ne c o) in record {
    rest = cc (p.rest, q.rest);
    aimed = cc (p.aimed, q.aimed);
    behind = cc (p.behind, q.behind);
  };
  nexts = λ j c ne o. cc (a.nexts j c ne o, b.nexts j c ne (rw life (next_still j m.holder m2.holder m.stage m2.stage (m.life c) (of j ne) o)));
  firsts = λ j c ne o. cc (a.firsts j c ne o, b.firsts j c ne (rw life (first j c ne o)));
  links = λ j c ne o. cc (a.links j c ne o, b.links j c ne (entry j c ne o));
  spots = λ j c ne o. cc (a.spots j c ne o, b.spots j c ne (entry j c ne o));
  owns = λ j c ne o. let p = a.owns j c ne o in let q = b.owns j c ne (rw life o) in record {
    own = λ d e. cc (p.own d e, q.own d (cc (p.lists, e)));
    lists = cc (p.lists, q.lists);
    drained = cc (p.drained, q.drained);
  };
}
  where
    of : (j : ℕ) → (j ≡ i → ⊥) → (c : ℕ) → IsOf j m.holder (m.stage c) ≡ true → IsOf j m2.holder (m2.stage c) ≡ true
    of j ne c o = still_of n i s j c m m2 k ne o

    entry : (j c : ℕ) → (j ≡ i → ⊥) → has_entry j m.holder m.stage (x.spot c) ≡ true → has_entry j m2.holder m2.stage (y.spot c) ≡ true
    entry j c ne o = rw (a.spots j c ne o) (entry_still j m.holder m2.holder m.stage m2.stage (x.spot c) (of j ne) o)

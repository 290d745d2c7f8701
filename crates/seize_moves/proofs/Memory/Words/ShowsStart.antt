-- A memory whose words are all 0 and that has no block shows the start.
use Rattle.std.specs.Prelude.{Option, Some, None, is_some, if◌then◌else◌}
use Rattle.std.proofs.Common.{◌≡◌, ℕ, ◌<◌, Bool, true, false, ltb, eqb, List, [], refl, ap}
use Rattle.seize_moves.proofs.Moves.State.Ghost.{opening, start}
use Rattle.seize.specs.Given.SeizeWordsDeclared.block.Block.{Block}
use Rattle.seize.specs.Given.SeizeWordsMem.{Mem, block_of, value_in, entry_in}
use Rattle.seize.specs.declared.states.TheConstants.{NEXT, COUNT}
use Rattle.seize_moves.proofs.Memory.Words.Named.{or_zero}
use Rattle.seize_moves.proofs.Memory.Words.View.{View, view, list_in}
use Rattle.seize_moves.proofs.Memory.Words.Shows.{Nowhere, Extra, Shows, LinkedIs, EndIs, RestIs, DeferredIs}

-- the rows have no lists
abbrev pub at_start : Extra
at_start = record {
  spot = λ c. Nowhere;
  rest = λ b. [];
  aimed = λ b. false;
  behind = λ b. 0;
  hand = λ i. 3;
  pends = λ i. 0;
  popped = λ i. false;
  lefts = λ i. 0;
  put_first = λ i. 0;
  drained = λ c. false;
}

pub shows_start : (n : ℕ) (f : View) → ((s : ℕ) → f.heads s ≡ 0) → ((s : ℕ) → s < n → f.batches s ≡ 0) → ((c : ℕ) → f.nexts c ≡ 0) → ((c : ℕ) → f.counts c ≡ 0)
    → ((c : ℕ) → f.live c ≡ false) → ((c : ℕ) → f.lists c ≡ None) → Shows n f (start n) at_start
shows_start n f heads batches nexts counts live lists = record {
  entries = record {
    headed = heads;
    loosed = λ i. refl;
    marks = λ b. tt;
    rests = λ b. rests (ltb b n) b;
    on = λ t b c. refl;
    hands = λ i b c. refl;
    unspent = λ b c. refl;
    spots = λ c. tt;
  };
  linkage = record {
    batched = batches;
    linked = λ b. linked (ltb b n) b;
    ended = λ b. ended (ltb b n) b;
    first = λ c. tt;
    counted = λ b. tt;
    zeros = counts;
  };
  lists = record {
    pended = λ i. refl;
    lefted = λ i. refl;
    putted = λ i. refl;
    deferring = λ t. deferring t (f.lists t) (lists t);
    nexted = nexts;
    drains = λ c. refl;
    lived = live;
    carriers = λ c. tt;
  };
}
  where
    rests : (q : Bool) (b : ℕ) → RestIs (opening b q) [] false []
    rests true b = (refl, refl)
    rests false b = (refl, refl, refl)

    linked : (q : Bool) (b : ℕ) → LinkedIs f.nexts 0 (opening b q) []
    linked true b = refl
    linked false b = refl

    ended : (q : Bool) (b : ℕ) → EndIs (λ s. 0) 0 (opening b q)
    ended true b = refl
    ended false b = tt

    deferring : (t : ℕ) (o : Option ℕ) → o ≡ None → DeferredIs f.nexts (f.own t) o false []
    deferring t None e = tt
    deferring t (Some d) e = absurd (cc)

module _ {T : Type 0} (defers : T → Option ℕ) (roots used choices : List ℕ) where
  -- a memory with roots and nothing else
  abbrev pub only_roots : Mem T
  only_roots = record { roots = roots; used = used; slots = []; blocks = []; choices = choices }

  pub no_block : (b : ℕ) → block_of only_roots b ≡ None
  no_block b = at (eqb b 0) None
    where
      at : (t : Bool) (o : Option (Block T)) → (if t then o else o) ≡ o
      at true o = refl
      at false o = refl

  pub shows_only_roots : (n : ℕ) → Shows n (view defers only_roots) (start n) at_start
  shows_only_roots n =
      shows_start n (view defers only_roots) (λ s. refl) (λ s lt. refl) (λ c. ap (λ o. or_zero (entry_in o NEXT)) (no_block c)) (λ c. ap (λ o. or_zero (entry_in o COUNT)) (no_block c))
      (λ c. ap (λ o. is_some (value_in o)) (no_block c)) (λ c. ap (λ o. list_in defers (value_in o)) (no_block c))

-- What the rest of a row's work comes to, in the waiting sets: blocks to be reclaimed, values that they put, blocks to be retired, entries to be
-- counted down. At the row's beginning it is what the sets say of the change.
use Rattle.std.specs.Prelude.{◌==◌, ◌||◌}
use Rattle.std.proofs.Common.{◌≡◌, ℕ, Bool, true, false, cond, List, [], ◌∷◌, ◌++◌, refl, ap, arith, append_assoc, sym}
use Rattle.std.proofs.lemmas.List.{append-nil}
use Rattle.seize.specs.WaitingSets.{Batch, Further, Sets, After, with_closed, giving, then_also, quietly, without, further_of, further_of_all, is_done, no_more, still_closed, size, retired_all, given, given_all, counted}
use Rattle.seize_moves.specs.Waiting.Held.{count}
use Rattle.seize_moves.specs.Waiting.Changes.{kept}
use Rattle.seize_moves.proofs.Waiting.Behind.{kept_nil, kept-append}
use Rattle.seize_moves.proofs.Waiting.Bound.{further_kept}

-- blocks are reclaimed, then what they put is retired, behind what the batch put before them, and then the rest
abbrev pub rest_given : ℕ → ℕ → ℕ → List ℕ → List ℕ → List ℕ → Sets → After
rest_given batch_size bound slot left puts pending w =
    then_also (giving left w) (retired_all batch_size bound slot ((puts ++ further_of_all left w.further) ++ pending))

-- entries are counted down: of these batches, passed ones and ones to come, newest first; what is closed meanwhile is newer
abbrev pub rest_counted : ℕ → ℕ → List Batch → List Batch → Sets → After
rest_counted batch_size slot passed to_come w =
    let a = given_all batch_size slot (no_more slot to_come) w in
    record { sets = with_closed a.sets (a.sets.closed ++ passed ++ still_closed slot to_come); reclaimed = a.reclaimed }

-- the closed batches are these
abbrev pub with_those : After → List Batch → After
with_those a closed = record { sets = with_closed a.sets closed; reclaimed = a.reclaimed }

-- numbers are given back, and then these are retired, with those behind others
abbrev pub gives_then : ℕ → ℕ → ℕ → List ℕ → List ℕ → Sets → List Further → List ℕ → After
gives_then batch_size bound slot numbers pending w further puts =
    let a = retired_all batch_size bound slot (puts ++ pending) (record w { further = further }) in record { sets = a.sets; reclaimed = numbers ++ a.reclaimed }

-- at the beginning

pub counted_begins : (batch_size slot : ℕ) (w : Sets) → counted batch_size slot w ≡ rest_counted batch_size slot [] w.closed (with_closed w [])
counted_begins batch_size slot w =
    let a = given_all batch_size slot (no_more slot w.closed) (with_closed w []) in
    ap (λ (l : List Batch). with_those a (l ++ still_closed slot w.closed)) (sym (append-nil a.sets.closed))

pub given_begins : (batch_size slot : ℕ) (numbers : List ℕ) (w : Sets)
    → given batch_size slot numbers w ≡ rest_given batch_size (size w) slot numbers [] [] w
given_begins batch_size slot numbers w =
    ap (λ (l : List ℕ). then_also (giving numbers w) (retired_all batch_size (size w) slot l)) (sym (append-nil (further_of_all numbers w.further)))

-- a batch that still waits is passed
pub still_passed : (batch_size slot : ℕ) (passed to_come : List Batch) (b : Batch) (w : Sets) → is_done slot b ≡ false
    → rest_counted batch_size slot passed (b ∷ to_come) w ≡ rest_counted batch_size slot (passed ++ record { retired = b.retired; waits_for = without slot b.waits_for } ∷ []) to_come w
still_passed batch_size slot passed to_come b w e = at (is_done slot b) e
  where
    r : Batch
    r = record { retired = b.retired; waits_for = without slot b.waits_for }

    moved : (closed : List Batch) → (closed ++ passed) ++ r ∷ still_closed slot to_come ≡ (closed ++ (passed ++ r ∷ [])) ++ still_closed slot to_come
    moved closed = cc (append_assoc closed passed (r ∷ []), append_assoc (closed ++ passed) (r ∷ []) (still_closed slot to_come))

    at : (y : Bool) → y ≡ false
        → with_those (given_all batch_size slot (cond y (b ∷ no_more slot to_come) (no_more slot to_come)) w)
        (((given_all batch_size slot (cond y (b ∷ no_more slot to_come) (no_more slot to_come)) w).sets.closed ++ passed) ++ cond y (still_closed slot to_come) (r ∷ still_closed slot to_come))
        ≡ rest_counted batch_size slot (passed ++ r ∷ []) to_come w
    at true f = absurd (cc f)
    at false f =
        let a = given_all batch_size slot (no_more slot to_come) w in
        ap (with_those a) (moved a.sets.closed)

-- a batch that the slot was the last one to wait for is reclaimed, and what that puts is retired before the next entry is counted
pub done_given : (batch_size slot : ℕ) (passed to_come : List Batch) (b : Batch) (w : Sets) → is_done slot b ≡ true
    → rest_counted batch_size slot passed (b ∷ to_come) w ≡ then_also (given batch_size slot b.retired w) (rest_counted batch_size slot passed to_come)
done_given batch_size slot passed to_come b w e = at (is_done slot b) e
  where
    r : Batch
    r = record { retired = b.retired; waits_for = without slot b.waits_for }

    at : (y : Bool) → y ≡ true
        → with_those (given_all batch_size slot (cond y (b ∷ no_more slot to_come) (no_more slot to_come)) w)
        (((given_all batch_size slot (cond y (b ∷ no_more slot to_come) (no_more slot to_come)) w).sets.closed ++ passed) ++ cond y (still_closed slot to_come) (r ∷ still_closed slot to_come))
        ≡ then_also (given batch_size slot b.retired w) (rest_counted batch_size slot passed to_come)
    at true f = refl
    at false f = absurd (cc f)

-- no entry is left
pub all_counted : (batch_size slot : ℕ) (passed : List Batch) (w : Sets) → rest_counted batch_size slot passed [] w ≡ quietly (with_closed w (w.closed ++ passed))
all_counted batch_size slot passed w = ap (λ (l : List Batch). quietly (with_closed w l)) (append-nil (w.closed ++ passed))

-- one block is reclaimed, with what it put

pub others_put : (n : ℕ) (numbers : List ℕ) (further : List Further) → count n numbers ≡ 0 → further_of_all numbers (kept (n ∷ []) further) ≡ further_of_all numbers further
others_put n [] further e = refl
others_put n (m ∷ numbers) further e =
    both (m == n) refl (further_kept m (n ∷ []) further) (others_put n numbers further (grind (arith, e)))
  where
    both : (y : Bool) → (m == n) ≡ y → further_of m (kept (n ∷ []) further) ≡ cond ((m == n) || false) [] (further_of m further)
        → further_of_all numbers (kept (n ∷ []) further) ≡ further_of_all numbers further
        → further_of m (kept (n ∷ []) further) ++ further_of_all numbers (kept (n ∷ []) further) ≡ further_of m further ++ further_of_all numbers further
    both true f a b = absurd (grind (arith, e, f))
    both false f a b = grind (arith, f, a, b)

pub one_given : (batch_size bound slot b : ℕ) (left puts pending : List ℕ) (w : Sets) → count b left ≡ 0
    → rest_given batch_size bound slot (b ∷ left) puts pending w
    ≡ then_also (giving (b ∷ []) w) (rest_given batch_size bound slot left (puts ++ further_of b w.further) pending)
one_given batch_size bound slot b left puts pending w e =
    let k = kept-append (b ∷ []) left w.further in
    let o = others_put b left w.further e in
    let a = append_assoc puts (further_of b w.further) (further_of_all left w.further) in
    both _ _ _ _ (sym k) (cc (a, o))
  where
    both : (f g : List Further) (l r : List ℕ) → f ≡ g → l ≡ r
        → gives_then batch_size bound slot (b ∷ left) pending w f l ≡ gives_then batch_size bound slot (b ∷ left) pending w g r
    both f g l r c d = cc

-- all are reclaimed: what they put is to be retired before the rest
pub all_given : (batch_size bound slot : ℕ) (puts pending : List ℕ) (w : Sets) → rest_given batch_size bound slot [] puts pending w ≡ retired_all batch_size bound slot (puts ++ pending) w
all_given batch_size bound slot puts pending w = both _ _ _ _ (kept_nil w.further) (append-nil puts)
  where
    both : (f g : List Further) (l r : List ℕ) → f ≡ g → l ≡ r
        → gives_then batch_size bound slot [] pending w f l ≡ gives_then batch_size bound slot [] pending w g r
    both f g l r c d = cc

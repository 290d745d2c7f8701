-- A place of a table is marked: what that leaves of all places, where pairs move in blocking mode.
use Rattle.std.proofs.Common.{◌≡◌, ℕ, ◌<◌, Bool, true, false, cond, eqb, eqb-true, refl, ap, sym, ◌∙◌, subst, arith}
use Rattle.map_rule.specs.Chart.{Phase, Still, Copying, Copied, Place, Empty, Tombstone, Holds, put_in, is_marked, is_taken}
use Rattle.map_rule.specs.Moves.{marked}
use Rattle.map_rule.proofs.Moves.SamePairs.{SamePairs, same_pairs, marked_keeps}

-- What a place says before and after, beside its pair: no pair is newly copied, what was marked is as it was, and a place is taken if and only if it was.
pub record Marking (p q : Place) : Type 0 where
  pub uncopied : (n : ℕ) (borrowed : Bool) → q ≡ Holds n Copied borrowed → p ≡ Holds n Copied borrowed
  pub frozen : is_marked p ≡ true → q ≡ p
  pub taken : is_taken false q ≡ is_taken false p

unchanged : (p : Place) → Marking p p
unchanged p = record { uncopied = λ n borrowed e. e; frozen = λ e. refl; taken = refl }

marking : (p : Place) → Marking p (marked p)
marking (Empty mark) = record { uncopied = λ n borrowed e. absurd (cc e); frozen = λ e. ap Empty (sym e); taken = refl }
marking (Tombstone mark) = record { uncopied = λ n borrowed e. absurd (cc e); frozen = λ e. ap Tombstone (sym e); taken = refl }
marking (Holds o Still lent) = record { uncopied = λ n borrowed e. absurd (cc e); frozen = λ e. absurd (cc e); taken = refl }
marking (Holds o Copying lent) = unchanged (Holds o Copying lent)
marking (Holds o Copied lent) = unchanged (Holds o Copied lent)

abbrev pub with_mark : (ℕ → ℕ → Place) → ℕ → ℕ → ℕ → ℕ → Place
with_mark place t i = put_in place t i (marked (place t i))

-- each place is as it was, or it is the one that is marked
pub one_marked : (place : ℕ → ℕ → Place) (t i u j : ℕ) → Marking (place u j) (with_mark place t i u j)
one_marked place t i u j = at (eqb u t) (eqb-true u t) (eqb j i) (eqb-true j i)
  where
    at : (a : Bool) → (a ≡ true → u ≡ t) → (b : Bool) → (b ≡ true → j ≡ i) → Marking (place u j) (cond a (cond b (marked (place t i)) (place u j)) (place u j))
    at false here b there = unchanged (place u j)
    at true here false there = unchanged (place u j)
    at true here true there = subst (λ (p : Place). Marking (place u j) (marked p)) (ap (place u) (there refl) ∙ ap (λ (v : ℕ). place v i) (here refl)) (marking (place u j))

pub pairs_stay : (place : ℕ → ℕ → Place) (t i : ℕ) → SamePairs place (with_mark place t i)
pairs_stay place t i = same_pairs place t i (marked (place t i)) (marked_keeps (place t i))

-- a place that holds a pair held it, which was copied if and only if it is
pub was_held : (place : ℕ → ℕ → Place) (t i u j n : ℕ) (phase : Phase) (borrowed : Bool) → with_mark place t i u j ≡ Holds n phase borrowed
    → (before : Phase) × (place u j ≡ Holds n before borrowed) × (before ≡ Copied → phase ≡ Copied) × (phase ≡ Copied → before ≡ Copied)
was_held place t i u j n phase borrowed e =
    let w = (pairs_stay place t i u j).earlier n phase borrowed e in
    let before : with_mark place t i u j ≡ Holds n Copied borrowed → place u j ≡ Holds n Copied borrowed = (one_marked place t i u j).uncopied n borrowed in
    (w.0, w.1, w.2, λ d. let f = before (e ∙ ap (λ (x : Phase). Holds n x borrowed) d) in let g = w.1 in cc)

pub still_held : (place : ℕ → ℕ → Place) (t i u j n : ℕ) (phase : Phase) (borrowed : Bool) → place u j ≡ Holds n phase borrowed
    → (now : Phase) × (with_mark place t i u j ≡ Holds n now borrowed) × (now ≡ Copied → phase ≡ Copied)
still_held place t i u j n phase borrowed e =
    let w = (pairs_stay place t i u j).later n phase borrowed e in
    let before : with_mark place t i u j ≡ Holds n Copied borrowed → place u j ≡ Holds n Copied borrowed = (one_marked place t i u j).uncopied n borrowed in
    (w.0, w.1, λ d. let f = before (w.1 ∙ ap (λ (x : Phase). Holds n x borrowed) d) in cc)

pub elsewhere : (place : ℕ → ℕ → Place) (t i u j : ℕ) → t < u → with_mark place t i u j ≡ place u j
elsewhere place t i u j l = grind arith

pub marked_there : (place : ℕ → ℕ → Place) (t i : ℕ) → with_mark place t i t i ≡ marked (place t i)
marked_there place t i = grind arith

pub still_marked : (p q : Place) → Marking p q → is_marked p ≡ true → is_marked q ≡ true
still_marked p q m e = rw (m.frozen e) e

pub marked_marked : (p : Place) → is_marked (marked p) ≡ true
marked_marked p = grind arith

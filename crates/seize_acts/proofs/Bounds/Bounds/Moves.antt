-- What the moves of a row leave in its hand: where it only tries its batch there is never more to be retired, and more to be taken only at the end of a try.
use Rattle.std.proofs.Common.{◌≡◌, ℕ, ◌+◌, List, [], ◌∷◌, length, refl, arith, ap, ◌∙◌}
use Rattle.seize.specs.declared.rows.settle.Settle.{Settle}
use Rattle.seize_model.proofs.Given.SeizeMovesState.Ghost.{State, Entry, put}
use Rattle.seize_model.proofs.Given.SeizeMovesState.Moves
use Rattle.seize_model.proofs.Given.SeizeRulePoints.Told.{Part, Plain, Draining, part, Told, Stays, Holds, HoldsNone, Gives, Begins, Appends, Fills, Skips, Passes, Finds, Marks, GivesUp, Closes, Pushes, Misses, Sums, SumsLast, Drains, DrainsNone, Takes, TakesLast, Joins, Counts, CountsLast}
use Rattle.seize_model.proofs.Given.SeizeMemoryWords.Apart.{put_here}

-- a block less is left to be taken
pub record TakenOff (j : ℕ) (m m2 : State) : Type 0 where
  pub left : length (m2.left j) + 1 ≡ length (m.left j)
  pub loose : m2.loose j ≡ m.loose j

module _ (n j : ℕ) (m m2 : State) (c : Settle) (p : Part) (c2 : Settle) where
  fewer : (q : State) (b : ℕ) (bs : List ℕ) → m.left j ≡ b ∷ bs → m2 ≡ q → q.loose ≡ m.loose → q.left ≡ put m.left j bs → TakenOff j m m2
  fewer q b bs is e loose left =
      let a = ap (λ (s : State). length (s.left j)) e ∙ ap (λ (f : ℕ → List ℕ). length (f j)) left ∙ ap (length) (put_here m.left j bs) in
      let l = ap (length) is in
      record { left = omega (arith, a, l); loose = ap (λ (s : State). s.loose j) e ∙ ap (λ (f : ℕ → List Entry). f j) loose }

  -- a block was reclaimed
  pub taken_off : p ≡ Draining → part c2 ≡ Plain → Told n j c p m c2 m2 → TakenOff j m m2
  taken_off pl dr (Takes b bs l d e q r) = fewer (Moves.taken m j b bs) b bs l e refl refl
  taken_off pl dr (TakesLast b l d e q r) = fewer (Moves.joined (Moves.taken m j b []) j) b [] l e refl refl
  taken_off pl dr (Stays e q) = absurd (cc (q, pl, dr))
  taken_off pl dr (Holds e q) = absurd (cc (q, pl, dr))
  taken_off pl dr (HoldsNone e q r s t u) = absurd (cc (q, pl))
  taken_off pl dr (Gives e q r) = absurd (cc (q, pl))
  taken_off pl dr (Begins e q r s t u v) = absurd (cc (q, pl))
  taken_off pl dr (Appends b bs pd e q r s t) = absurd (cc (q, pl))
  taken_off pl dr (Fills b bs pd e q r s t u) = absurd (cc (q, pl))
  taken_off pl dr (Skips t l s a e q r) = absurd (cc (q, pl))
  taken_off pl dr (Passes a e q r) = absurd (cc (q, pl))
  taken_off pl dr (Finds t l s a e q r) = absurd (cc (q, pl))
  taken_off pl dr (Marks t l s e q r) = absurd (cc (q, pl))
  taken_off pl dr (GivesUp t l s a k e q r u) = absurd (cc (q, pl))
  taken_off pl dr (Closes s k b e q r u) = absurd (cc (q, pl))
  taken_off pl dr (Pushes y t f es rest a b k e q r) = absurd (cc (q, pl))
  taken_off pl dr (Misses y t rest a b k e q r) = absurd (cc (q, pl))
  taken_off pl dr (Sums y a b k e q r u) = absurd (cc (q, pl))
  taken_off pl dr (SumsLast y a b k e q r u) = absurd (cc (q, pl))
  taken_off pl dr (Drains b bs l e q r) = absurd (cc (q, pl))
  taken_off pl dr (DrainsNone b bs l d e q r) = absurd (cc (q, pl))
  taken_off pl dr (Joins l e q r) = absurd (cc (q, pl))
  taken_off pl dr (Counts x xs l d k e q r u v w) = absurd (cc (q, pl))
  taken_off pl dr (CountsLast x xs l d k e q r u v w) = absurd (cc (q, pl))

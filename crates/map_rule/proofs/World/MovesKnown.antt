-- Which tables a move changes: such as can be looked at.
use Rattle.std.specs.Prelude.{◌≡◌, ℕ, ◌<◌, ◌≤◌, Bool, true}
use Rattle.std.proofs.Common.{refl, sym, subst, arith}
use Rattle.map_rule.specs.Chart.{Chart}
use Rattle.map_rule.specs.Moves.{Move, Links, Stores, Replaces, Removes, Marks, MarksBlocking, Skips, Unmarks, Puts, Covers, PutsLate, Claims, Reclaims, Counts, GivesUp, Aborts, Promotes, Announces, after}
use Rattle.map_rule.specs.Words.{Blocks}
use Rattle.map_rule.specs.InWorld.{SparesTables}
use Rattle.map_rule.specs.Lasts.{IsBy}
use Rattle.map_rule.proofs.Moves.Writes.{put_elsewhere, put_in_elsewhere}

module _ {K : Type 0} where
  -- the table that a move changes, and that it is not the root's of itself, can be looked at
  abbrev pub IsOfKnown : Blocks → Move K → Type 0
  IsOfKnown blocks (Stores t k j) = blocks.table_known t ≡ true
  IsOfKnown blocks (Replaces t i k) = blocks.table_known t ≡ true
  IsOfKnown blocks (Removes t i) = blocks.table_known t ≡ true
  IsOfKnown blocks (Puts caller i t k j) = blocks.table_known t ≡ true
  IsOfKnown blocks (PutsLate t i n) = blocks.table_known t ≡ true
  IsOfKnown blocks (Claims caller t chunk) = blocks.table_known t ≡ true
  IsOfKnown blocks (Reclaims t claim) = blocks.table_known t ≡ true
  IsOfKnown blocks (Counts caller t number) = blocks.table_known t ≡ true
  IsOfKnown blocks (Aborts t) = blocks.table_known t ≡ true
  IsOfKnown blocks (Announces t) = blocks.table_known t ≡ true
  IsOfKnown blocks _ = Unit {0}

  -- it is this caller's, if it is some caller's own, and changes what can be looked at
  abbrev pub IsItsMove : ℕ → Blocks → Move K → Type 0
  IsItsMove caller blocks move = ((i : ℕ) → IsBy i move → i ≡ caller) × IsOfKnown blocks move

  pub tables_same : (c : Chart K) (blocks : Blocks) → SparesTables c blocks c
  tables_same c blocks t made unknown = ((λ p. refl), refl, refl, refl)

  module _ (spot : ℕ → K → ℕ → ℕ) (incremental : Bool) (c : Chart K) (blocks : Blocks) (linked : (t : ℕ) → c.first ≤ t → t < c.past → blocks.table_known t ≡ true) (t : ℕ) (made : t < c.past) (unknown : blocks.table_known t ≡ true → ⊥) where
    abbrev Same : Chart K → Type 0
    Same c2 = ((p : ℕ) → c2.place t p ≡ c.place t p) × (c2.status t ≡ c.status t) × (c2.claim t ≡ c.claim t) × (c2.copied t ≡ c.copied t)

    other : (u : ℕ) → blocks.table_known u ≡ true → t ≡ u → ⊥
    other u known e = unknown (subst (λ (x : ℕ). blocks.table_known x ≡ true) (sym e) known)

    not_root : t ≡ c.first → ⊥
    not_root e = unknown (linked t (omega (arith, e)) made)

    pub same_after : (move : Move K) → IsOfKnown blocks move → Same (after spot incremental move c)
    same_after (Links len limit) known = ((λ p. refl), put_elsewhere c.status c.past _ t (omega (arith, made)), refl, refl)
    same_after (Stores u k j) known = ((λ p. put_in_elsewhere c.place u _ _ t p (other u known)), refl, refl, refl)
    same_after (Replaces u i k) known = ((λ p. put_in_elsewhere c.place u _ _ t p (other u known)), refl, refl, refl)
    same_after (Removes u i) known = ((λ p. put_in_elsewhere c.place u _ _ t p (other u known)), refl, refl, refl)
    same_after (Marks caller i) known = ((λ p. put_in_elsewhere c.place c.first _ _ t p not_root), refl, refl, refl)
    same_after (MarksBlocking i) known = ((λ p. put_in_elsewhere c.place c.first _ _ t p not_root), refl, refl, refl)
    same_after (Skips caller u i) known = ((λ p. put_in_elsewhere c.place c.first _ _ t p not_root), refl, refl, refl)
    same_after (Unmarks caller i) known = ((λ p. put_in_elsewhere c.place c.first _ _ t p not_root), refl, refl, refl)
    same_after (Puts caller i u k j) known = ((λ p. put_in_elsewhere c.place u _ _ t p (other u known)), refl, refl, refl)
    same_after (Covers caller i) known = ((λ p. put_in_elsewhere c.place c.first _ _ t p not_root), refl, refl, refl)
    same_after (PutsLate u i n) known = ((λ p. put_in_elsewhere c.place u _ _ t p (other u known)), refl, refl, refl)
    same_after (Claims caller u chunk) known = ((λ p. refl), refl, put_elsewhere c.claim u _ t (other u known), refl)
    same_after (Reclaims u claim) known = ((λ p. refl), refl, put_elsewhere c.claim u _ t (other u known), refl)
    same_after (Counts caller u number) known = ((λ p. refl), refl, refl, put_elsewhere c.copied u _ t (other u known))
    same_after (GivesUp caller u) known = ((λ p. refl), refl, refl, refl)
    same_after (Aborts u) known = ((λ p. refl), put_elsewhere c.status u _ t (other u known), refl, refl)
    same_after (Promotes u) known = ((λ p. refl), refl, refl, refl)
    same_after (Announces u) known = ((λ p. refl), put_elsewhere c.status u _ t (other u known), refl, refl)

  pub spares_moved : (spot : ℕ → K → ℕ → ℕ) (incremental : Bool) (c : Chart K) (blocks : Blocks) → ((t : ℕ) → c.first ≤ t → t < c.past → blocks.table_known t ≡ true)
      → (move : Move K) → IsOfKnown blocks move → SparesTables c blocks (after spot incremental move c)
  spares_moved spot incremental c blocks linked move known t made unknown = same_after spot incremental c blocks linked t made unknown move known

-- In incremental mode, a pair that has left the map is named nowhere where it wasn't.
use Rattle.std.proofs.Common.{◌≡◌, ℕ, ◌<◌, Bool, true, false, ◌⊎◌, inl, inr, arith, ap, sym, ◌∙◌}
use Rattle.map_rule.specs.Chart.{Phase, Still, Copying, Copied, Place, Empty, Tombstone, Holds, Chart, put_in}
use Rattle.map_rule.specs.Rule.{Rule}
use Rattle.map_rule.specs.Moves.{Move, Links, Stores, Replaces, Removes, Marks, MarksBlocking, Skips, Unmarks, Puts, Covers, PutsLate, Claims, Reclaims, Counts, GivesUp, Aborts, Promotes, Announces, marked, still_place, copied_place, lent_place, after, Allowed}
use Rattle.map_rule.proofs.Moves.Writes.{put_in_cases}

module _ {K : Type 0} (same : K → K → Bool) (spot : ℕ → K → ℕ → ℕ) (c : Chart K) (rule : Rule same spot true c) (n : ℕ) (was : n < c.stored) (left : c.current n ≡ false) where
  -- this place names the pair
  abbrev Named : Place → Bool → Type 0
  Named p borrowed = (phase : Phase) × (p ≡ Holds n phase borrowed)

  marked_named : (p : Place) (phase : Phase) (borrowed : Bool) → marked p ≡ Holds n phase borrowed → Named p borrowed
  marked_named (Empty m) phase borrowed e = absurd (cc e)
  marked_named (Tombstone m) phase borrowed e = absurd (cc e)
  marked_named (Holds o Still b) phase borrowed e = (Still, cc e)
  marked_named (Holds o Copying b) phase borrowed e = (Copying, cc e)
  marked_named (Holds o Copied b) phase borrowed e = (Copied, cc e)

  still_named : (p : Place) (phase : Phase) (borrowed : Bool) → still_place spot true p ≡ Holds n phase borrowed → Named p borrowed
  still_named (Empty m) phase borrowed e = absurd (cc e)
  still_named (Tombstone m) phase borrowed e = absurd (cc e)
  still_named (Holds o q b) phase borrowed e = (q, cc e)

  copied_named : (p : Place) (phase : Phase) (borrowed : Bool) → copied_place spot true p ≡ Holds n phase borrowed → Named p borrowed
  copied_named (Empty m) phase borrowed e = absurd (cc e)
  copied_named (Tombstone m) phase borrowed e = absurd (cc e)
  copied_named (Holds o q b) phase borrowed e = (q, cc e)

  -- one place was written, which names the pair only if it did before
  written : (u q : ℕ) (x : Place) → ((phase : Phase) (borrowed : Bool) → x ≡ Holds n phase borrowed → Named (c.place u q) borrowed)
      → (t p : ℕ) (phase : Phase) (borrowed : Bool) → put_in c.place u q x t p ≡ Holds n phase borrowed → Named (c.place t p) borrowed
  written u q x old t p phase borrowed e = by (put_in_cases c.place u q x t p)
    where
      by : ((t ≡ u) × (p ≡ q) × (put_in c.place u q x t p ≡ x)) ⊎ (put_in c.place u q x t p ≡ c.place t p) → Named (c.place t p) borrowed
      by (inl here) =
          let o = old phase borrowed (sym here.2 ∙ e) in (o.0, ap (λ (v : ℕ). c.place v p) here.0 ∙ ap (c.place u) here.1 ∙ o.1)
      by (inr kept) = (phase, sym kept ∙ e)

  stored_other : (x : Place) (phase : Phase) (borrowed : Bool) → Holds c.stored Still false ≡ Holds n phase borrowed → Named x borrowed
  stored_other x phase borrowed e = absurd (omega (arith, number e, was))
    where
      number : {phase : Phase} {b : Bool} → Holds c.stored Still false ≡ Holds n phase b → c.stored ≡ n
      number q = cc q

  -- what is put is in the map
  put_other : (i o : ℕ) (b : Bool) → c.place c.first i ≡ Holds o Copying b → (x : Place) (phase : Phase) (borrowed : Bool) → lent_place spot true (c.place c.first i) ≡ Holds n phase borrowed → Named x borrowed
  put_other i o b at x phase borrowed e =
      let is : o ≡ n = number (sym (ap (lent_place spot true) at) ∙ e) in
      let current = rule.common.is_current c.first i o Copying b at (λ q. absurd (cc q)) (omega arith) in
      absurd (let gone = ap c.current is in cc (gone, current, left))
    where
      number : {phase : Phase} {a : Bool} → Holds o Still true ≡ Holds n phase a → o ≡ n
      number q = cc q

  abbrev Unnamed : Chart K → Type 0
  Unnamed c2 = (t p : ℕ) (phase : Phase) (borrowed : Bool) → c2.place t p ≡ Holds n phase borrowed → Named (c.place t p) borrowed

  pub unnamed : (move : Move K) → Allowed same spot true move c → Unnamed (after spot true move c)
  unnamed (Links len limit) a t p phase borrowed e = (phase, e)
  unnamed (Stores u k g) a t p phase borrowed e = written u (spot (c.len u) k g) (Holds c.stored Still false) (stored_other (c.place u (spot (c.len u) k g))) t p phase borrowed e
  unnamed (Replaces u q k) a t p phase borrowed e = written u q (Holds c.stored Still false) (stored_other (c.place u q)) t p phase borrowed e
  unnamed (Removes u q) a t p phase borrowed e = written u q (Tombstone false) (λ phase borrowed e. absurd (cc e)) t p phase borrowed e
  unnamed (Marks caller q) a t p phase borrowed e = written c.first q (marked (c.place c.first q)) (marked_named (c.place c.first q)) t p phase borrowed e
  unnamed (MarksBlocking q) a t p phase borrowed e = absurd (cc a.0)
  unnamed (Skips caller u q) a t p phase borrowed e = absurd (cc a.0)
  unnamed (Unmarks caller q) a t p phase borrowed e = written c.first q (still_place spot true (c.place c.first q)) (still_named (c.place c.first q)) t p phase borrowed e
  unnamed (Puts caller q u k g) a t p phase borrowed e =
      written u (spot (c.len u) k g) (lent_place spot true (c.place c.first q)) (put_other q a.6.0 a.6.1 a.6.2 (c.place u (spot (c.len u) k g))) t p phase borrowed e
  unnamed (Covers caller q) a t p phase borrowed e = written c.first q (copied_place spot true (c.place c.first q)) (copied_named (c.place c.first q)) t p phase borrowed e
  unnamed (PutsLate u q m) a t p phase borrowed e = absurd (cc a.0)
  unnamed (Claims caller u chunk) a t p phase borrowed e = absurd (cc a.0)
  unnamed (Reclaims u claim) a t p phase borrowed e = (phase, e)
  unnamed (Counts caller u number) a t p phase borrowed e = (phase, e)
  unnamed (GivesUp caller u) a t p phase borrowed e = absurd (cc a)
  unnamed (Aborts u) a t p phase borrowed e = absurd (cc a.0)
  unnamed (Promotes u) a t p phase borrowed e = (phase, e)
  unnamed (Announces u) a t p phase borrowed e = (phase, e)

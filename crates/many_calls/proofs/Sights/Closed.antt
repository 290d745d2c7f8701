-- What a place names after a move its table named before, or the root did, or the table did that it was linked behind, or it is new.
use Rattle.std.specs.Prelude.{◌≡◌, ℕ, ◌<◌, Bool, false, ◌⊎◌}
use Rattle.std.proofs.Common.{sym, subst, ◌∙◌, inl, inr}
use Rattle.map_facts_late.specs.Given.TablesDeclared.status.TheConstants.Status.{ABORTED}
use Rattle.map_facts_late.specs.Given.RuleChart.{Phase, Still, Copying, Copied, Place, Empty, Tombstone, Holds, Chart, put_in}
use Rattle.map_facts_late.specs.Given.RuleMoves.{Move, Links, Stores, Replaces, Removes, Marks, MarksBlocking, Skips, Unmarks, Puts, Covers, PutsLate, Claims, Reclaims, Counts, GivesUp, Aborts, Promotes, Announces, marked, still_place, copied_place, lent_place, after, Allowed}
use Rattle.map_facts_late.proofs.Given.RuleMoves.Writes.{put_in_cases}

module _ {K : Type 0} (same : K → K → Bool) (spot : ℕ → K → ℕ → ℕ) (incremental : Bool) (c : Chart K) where
  -- the table was aborted, and the one names the pair that was the root as it was linked
  abbrev pub NamedBySource : ℕ → ℕ → Type 0
  NamedBySource t n = (t < c.first) × (c.status t ≡ ABORTED) × (p : ℕ) × (c.place (c.from t) p ≡ Holds n Copying false)

  -- its table named the pair before, or the root did, or its source, or the pair is new
  abbrev pub Named : ℕ → ℕ → Type 0
  Named t n =
      ((p : ℕ) × (phase : Phase) × (borrowed : Bool) × (c.place t p ≡ Holds n phase borrowed))
      ⊎ (((p : ℕ) × (phase : Phase) × (borrowed : Bool) × (c.place c.first p ≡ Holds n phase borrowed)) ⊎ (NamedBySource t n ⊎ (n ≡ c.stored)))

  marked_holds : (x : Place) (n : ℕ) (phase : Phase) (borrowed : Bool) → marked x ≡ Holds n phase borrowed → (before : Phase) × (x ≡ Holds n before borrowed)
  marked_holds (Empty m) n phase borrowed e = absurd (cc e)
  marked_holds (Tombstone m) n phase borrowed e = absurd (cc e)
  marked_holds (Holds o Still b) n phase borrowed e = (Still, cc e)
  marked_holds (Holds o Copying b) n phase borrowed e = (Copying, cc e)
  marked_holds (Holds o Copied b) n phase borrowed e = (Copied, cc e)

  still_holds : (x : Place) (n : ℕ) (phase : Phase) (borrowed : Bool) → still_place spot incremental x ≡ Holds n phase borrowed → (before : Phase) × (x ≡ Holds n before borrowed)
  still_holds (Empty m) n phase borrowed e = absurd (cc e)
  still_holds (Tombstone m) n phase borrowed e = absurd (cc e)
  still_holds (Holds o q b) n phase borrowed e = (q, cc e)

  copied_holds : (x : Place) (n : ℕ) (phase : Phase) (borrowed : Bool) → copied_place spot incremental x ≡ Holds n phase borrowed → (before : Phase) × (x ≡ Holds n before borrowed)
  copied_holds (Empty m) n phase borrowed e = absurd (cc e)
  copied_holds (Tombstone m) n phase borrowed e = absurd (cc e)
  copied_holds (Holds o q b) n phase borrowed e = (q, cc e)

  lent_holds : (x : Place) (n : ℕ) (phase : Phase) (borrowed : Bool) → lent_place spot incremental x ≡ Holds n phase borrowed → (before : Phase) × (lent : Bool) × (x ≡ Holds n before lent)
  lent_holds (Empty m) n phase borrowed e = absurd (cc e)
  lent_holds (Tombstone m) n phase borrowed e = absurd (cc e)
  lent_holds (Holds o q b) n phase borrowed e = (q, b, cc e)

  number : {a b : ℕ} {phase phase2 : Phase} {borrowed borrowed2 : Bool} → Holds a phase borrowed ≡ Holds b phase2 borrowed2 → a ≡ b
  number e = cc e

  -- one place was written
  written : (u q : ℕ) (x : Place) → ((n : ℕ) (phase : Phase) (borrowed : Bool) → x ≡ Holds n phase borrowed → Named u n)
      → (t p n : ℕ) (phase : Phase) (borrowed : Bool) → put_in c.place u q x t p ≡ Holds n phase borrowed → Named t n
  written u q x new t p n phase borrowed e = by (put_in_cases c.place u q x t p)
    where
      by : ((t ≡ u) × (p ≡ q) × (put_in c.place u q x t p ≡ x)) ⊎ (put_in c.place u q x t p ≡ c.place t p) → Named t n
      by (inl here) = subst (λ (v : ℕ). Named v n) (sym here.0) (new n phase borrowed (sym here.2 ∙ e))
      by (inr kept) = inl (p, phase, borrowed, sym kept ∙ e)

  root_place : (q : ℕ) (f : Place → Place) → ((n : ℕ) (phase : Phase) (borrowed : Bool) → f (c.place c.first q) ≡ Holds n phase borrowed → (before : Phase) × (c.place c.first q ≡ Holds n before borrowed))
      → (n : ℕ) (phase : Phase) (borrowed : Bool) → f (c.place c.first q) ≡ Holds n phase borrowed → Named c.first n
  root_place q f back n phase borrowed e = let b = back n phase borrowed e in inl (q, b.0, borrowed, b.1)

  -- a place of the root is marked
  marks : (q t p n : ℕ) (phase : Phase) (borrowed : Bool) → put_in c.place c.first q (marked (c.place c.first q)) t p ≡ Holds n phase borrowed → Named t n
  marks q = written c.first q (marked (c.place c.first q)) (root_place q marked (marked_holds (c.place c.first q)))

  pub names_before : (move : Move K) → Allowed same spot incremental move c
      → (t p n : ℕ) (phase : Phase) (borrowed : Bool) → (after spot incremental move c).place t p ≡ Holds n phase borrowed → Named t n
  names_before (Links len limit) a t p n phase borrowed e = inl (p, phase, borrowed, e)
  names_before (Stores u k g) a t p n phase borrowed e = written u (spot (c.len u) k g) (Holds c.stored Still false) (λ o q b f. inr (inr (inr (sym (number f))))) t p n phase borrowed e
  names_before (Replaces u q k) a t p n phase borrowed e = written u q (Holds c.stored Still false) (λ o x b f. inr (inr (inr (sym (number f))))) t p n phase borrowed e
  names_before (Removes u q) a t p n phase borrowed e = written u q (Tombstone false) (λ o x b f. absurd (cc f)) t p n phase borrowed e
  names_before (Marks caller q) a t p n phase borrowed e = marks q t p n phase borrowed e
  names_before (MarksBlocking q) a t p n phase borrowed e = marks q t p n phase borrowed e
  names_before (Skips caller u q) a t p n phase borrowed e = marks q t p n phase borrowed e
  names_before (Unmarks caller q) a t p n phase borrowed e =
      written c.first q (still_place spot incremental (c.place c.first q)) (root_place q (still_place spot incremental) (still_holds (c.place c.first q))) t p n phase borrowed e
  names_before (Puts caller q u k g) a t p n phase borrowed e =
      written u (spot (c.len u) k g) (lent_place spot incremental (c.place c.first q)) (λ o x b f. let h = lent_holds (c.place c.first q) o x b f in inr (inl (q, h.0, h.1, h.2))) t p n phase borrowed e
  names_before (Covers caller q) a t p n phase borrowed e =
      written c.first q (copied_place spot incremental (c.place c.first q)) (root_place q (copied_place spot incremental) (copied_holds (c.place c.first q))) t p n phase borrowed e
  names_before (PutsLate u q m) a t p n phase borrowed e =
      written u q (Holds m Still false) (λ o x b f. inr (inr (inl (subst (NamedBySource u) (number f) (a.1, a.3, a.7, a.8))))) t p n phase borrowed e
  names_before (Claims caller u chunk) a t p n phase borrowed e = inl (p, phase, borrowed, e)
  names_before (Reclaims u claim) a t p n phase borrowed e = inl (p, phase, borrowed, e)
  names_before (Counts caller u number) a t p n phase borrowed e = inl (p, phase, borrowed, e)
  names_before (GivesUp caller u) a t p n phase borrowed e = inl (p, phase, borrowed, e)
  names_before (Aborts u) a t p n phase borrowed e = inl (p, phase, borrowed, e)
  names_before (Promotes u) a t p n phase borrowed e = inl (p, phase, borrowed, e)
  names_before (Announces u) a t p n phase borrowed e = inl (p, phase, borrowed, e)

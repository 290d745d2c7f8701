-- Which changes of a map's tables leave a pair where it lies, and which tables come to name one.
use Rattle.std.specs.Prelude.{◌≡◌, ◌≢◌, ℕ, ◌<◌, Bool, true, false, cond, eqb}
use Rattle.std.proofs.Common.{refl, ap, sym, subst, ◌∙◌, arith, inl, inr}
use Rattle.std.proofs.lemmas.Bool.{cases_eq, cases_lt}
use Rattle.run_shows.specs.Given.TablesDeclared.status.TheConstants.Status.{PENDING, ABORTED, PROMOTED}
use Rattle.run_shows.specs.Given.RuleChart.{Phase, Still, Place, Empty, Tombstone, Holds, Chart, put, put_in}
use Rattle.run_shows.specs.Given.RuleRule.{Rule}
use Rattle.run_shows.specs.Given.RuleMoves.{Move, Links, Stores, Replaces, Removes, Marks, MarksBlocking, Skips, Unmarks, Puts, Covers, PutsLate, Claims, Reclaims, Counts, GivesUp, Aborts, Promotes, Announces, marked, still_place, copied_place, lent_place, without, Allowed, after}
use Rattle.run_shows.proofs.Given.RuleMoves.Writes.{put_here, put_elsewhere}
use Rattle.run_places.specs.Spots.Spots.{ThePair, named_by}
use Rattle.run_places.proofs.Spots.Names.{holds_is, other_pair, nobody, marked_names, still_names, copied_names, alike_same, alike_neither, SameOf, same_all, same_put, Keeps}

-- the move puts no such pair into a table, and the root does not move
abbrev pub Spares : {K : Type 0} → Chart K → ℕ → Move K → Type 0
Spares c n (Puts caller i t k j) = (b : Bool) → named_by (c.place c.first i) ≡ ThePair n b → ⊥
Spares c n (PutsLate t i o) = o ≢ n
Spares c n (Promotes t) = ⊥
Spares c n _ = Unit {0}

-- a place of a pair names no other one
pub names_other : (p : Place) (n o : ℕ) (phase : Phase) (borrowed : Bool) → p ≡ Holds o phase borrowed → o ≢ n → (b : Bool) → named_by p ≡ ThePair n b → ⊥
names_other p n o phase borrowed held ne b e = ne (other_pair o n borrowed b (sym (ap named_by held) ∙ e))

pub names_none : (p : Place) (mark : Bool) (n : ℕ) → p ≡ Empty mark → (b : Bool) → named_by p ≡ ThePair n b → ⊥
names_none p mark n empty b e = nobody n b (sym (ap named_by empty) ∙ e)

-- what is put into a later table names the pair that stood there
pub lent_named : {K : Type 0} (spot : ℕ → K → ℕ → ℕ) (incremental : Bool) (n : ℕ) (p : Place) (b : Bool) → named_by (lent_place spot incremental p) ≡ ThePair n b → (x : Bool) × (named_by p ≡ ThePair n x)
lent_named spot incremental n (Empty mark) b e = absurd (nobody n b e)
lent_named spot incremental n (Tombstone mark) b e = absurd (nobody n b e)
lent_named spot incremental n (Holds o phase borrowed) b e = (borrowed, ap (λ (x : ℕ). ThePair x borrowed) (other_pair o n incremental b e))

module _ {K : Type 0} (same : K → K → Bool) (spot : ℕ → K → ℕ → ℕ) (incremental : Bool) (c : Chart K) (rule : Rule same spot incremental c) where
  -- a pair that a place names was stored, in a table that is there
  pub named_stored : (t i n : ℕ) (b : Bool) → named_by (c.place t i) ≡ ThePair n b → n < c.stored
  named_stored t i n b e = let h = holds_is (c.place t i) n b e in (rule.common.keyed t i n h.0 b h.1).0

  pub named_made : (t i n : ℕ) (b : Bool) → named_by (c.place t i) ≡ ThePair n b → t < c.past
  named_made t i n b e = elim (cases_lt t c.past) as (λ _. t < c.past) [
    | inl l ↦ l
    | inr l ↦ absurd (names_none (c.place t i) false n (rule.common.unmade t i l) b e)
  ]

  module _ (n : ℕ) (old : n < c.stored) where
    new_apart : n ≢ c.stored
    new_apart e = omega (arith, old, e)

    -- a new pair at a place that names none, or another one
    stores_names : (t i : ℕ) → ((b : Bool) → named_by (c.place t i) ≡ ThePair n b → ⊥) → SameOf n c.place (put_in c.place t i (Holds c.stored Still false))
    stores_names t i none =
        same_put n c.place t i (Holds c.stored Still false) (alike_neither n (c.place t i) (Holds c.stored Still false) none (λ b e. new_apart (sym (other_pair c.stored n false b e))))

    -- a pair that is in the map after another one left is not that one
    module _ (t i o : ℕ) (borrowed : Bool) (held : c.place t i ≡ Holds o Still borrowed) where
      without_is : (x : ℕ) → without spot incremental (c.place t i) c.current x ≡ put c.current o false x
      without_is x = ap (λ (p : Place). without spot incremental p c.current x) held

      stays_other : without spot incremental (c.place t i) c.current n ≡ true → o ≢ n
      stays_other now e = absurd (let gone = ap (put c.current o false) (sym e) ∙ put_here c.current o false in let is = sym (without_is n) ∙ now in cc (gone, is))

      was_current : without spot incremental (c.place t i) c.current n ≡ true → c.current n ≡ true
      was_current now = sym (put_elsewhere c.current o false n (λ e. stays_other now (sym e))) ∙ sym (without_is n) ∙ now

    -- of the pairs that were there before
    old_current : (current : ℕ → Bool) → put current c.stored true n ≡ true → current n ≡ true
    old_current current now = sym (put_elsewhere current c.stored true n new_apart) ∙ now

    keeps_place : (d : Chart K) → d.current n ≡ c.current n → d.first ≡ c.first → d.status ≡ c.status → SameOf n c.place d.place → d.current n ≡ true → Keeps c d n
    keeps_place d current first status names now = record {
      current = sym current ∙ now;
      names = names;
      first = first;
      status = λ t i b ahead e live. subst (λ (f : ℕ → ℕ). f t ≢ ABORTED) status live;
    }

    abbrev d : Move K → Chart K
    d move = after spot incremental move c

    -- it lies where it lay
    pub keeps_move : (move : Move K) → Allowed same spot incremental move c → Spares c n move → (d move).current n ≡ true → Keeps c (d move) n
    keeps_move (Links len limit) allowed spares now = record {
      current = now;
      names = same_all n c.place;
      first = refl;
      status = λ t i b ahead e live. (let made = named_made t i n b e in
          subst (λ (x : ℕ). x ≢ ABORTED) (put_elsewhere c.status c.past (cond (eqb c.past 0) PROMOTED PENDING) t (λ z. omega (arith, made, z))) live);
    }
    keeps_move (Stores t k j) allowed spares now = record {
      current = (let is = old_current (without spot incremental (c.place t (spot (c.len t) k j)) c.current) now in
          sym (ap (λ (p : Place). without spot incremental p c.current n) allowed.3) ∙ is);
      names = stores_names t (spot (c.len t) k j) (names_none (c.place t (spot (c.len t) k j)) false n allowed.3);
      first = refl;
      status = λ u i b ahead e live. live;
    }
    keeps_move (Replaces t i k) allowed spares now =
        let still = allowed.0 in
        let is = old_current (without spot incremental (c.place t i) c.current) now in
        record {
          current = was_current t i still.0 still.1 still.2 is;
          names = stores_names t i (names_other (c.place t i) n still.0 Still still.1 still.2 (stays_other t i still.0 still.1 still.2 is));
          first = refl;
          status = λ u i b ahead e live. live;
        }
    keeps_move (Removes t i) allowed spares now =
        let still = allowed.1 in
        record {
          current = was_current t i still.0 still.1 still.2 now;
          names = same_put n c.place t i (Tombstone false)
              (alike_neither n (c.place t i) (Tombstone false) (names_other (c.place t i) n still.0 Still still.1 still.2 (stays_other t i still.0 still.1 still.2 now)) (λ b e. nobody n b e));
          first = refl;
          status = λ u i b ahead e live. live;
        }
    keeps_move (Marks caller i) allowed spares now =
        keeps_place (d (Marks caller i)) refl refl refl (same_put n c.place c.first i (marked (c.place c.first i)) (alike_same n (c.place c.first i) (marked (c.place c.first i)) (marked_names (c.place c.first i)))) now
    keeps_move (MarksBlocking i) allowed spares now =
        keeps_place (d (MarksBlocking i)) refl refl refl (same_put n c.place c.first i (marked (c.place c.first i)) (alike_same n (c.place c.first i) (marked (c.place c.first i)) (marked_names (c.place c.first i)))) now
    keeps_move (Skips caller t i) allowed spares now =
        keeps_place (d (Skips caller t i)) refl refl refl (same_put n c.place c.first i (marked (c.place c.first i)) (alike_same n (c.place c.first i) (marked (c.place c.first i)) (marked_names (c.place c.first i)))) now
    keeps_move (Unmarks caller i) allowed spares now =
        keeps_place (d (Unmarks caller i)) refl refl refl
        (same_put n c.place c.first i (still_place spot incremental (c.place c.first i)) (alike_same n (c.place c.first i) (still_place spot incremental (c.place c.first i)) (still_names spot incremental (c.place c.first i)))) now
    keeps_move (Puts caller i t k j) allowed spares now =
        keeps_place (d (Puts caller i t k j)) refl refl refl
        (same_put n c.place t (spot (c.len t) k j) (lent_place spot incremental (c.place c.first i))
        (alike_neither n (c.place t (spot (c.len t) k j)) (lent_place spot incremental (c.place c.first i)) (names_none (c.place t (spot (c.len t) k j)) false n allowed.4)
        (λ b e. let was = lent_named spot incremental n (c.place c.first i) b e in spares was.0 was.1))) now
    keeps_move (Covers caller i) allowed spares now =
        keeps_place (d (Covers caller i)) refl refl refl
        (same_put n c.place c.first i (copied_place spot incremental (c.place c.first i)) (alike_same n (c.place c.first i) (copied_place spot incremental (c.place c.first i)) (copied_names spot incremental (c.place c.first i)))) now
    keeps_move (PutsLate t i o) allowed spares now =
        keeps_place (d (PutsLate t i o)) refl refl refl
        (same_put n c.place t i (Holds o Still false) (alike_neither n (c.place t i) (Holds o Still false) (names_none (c.place t i) false n allowed.4) (λ b e. spares (other_pair o n false b e)))) now
    keeps_move (Claims caller t chunk) allowed spares now = keeps_place (d (Claims caller t chunk)) refl refl refl (same_all n c.place) now
    keeps_move (Reclaims t claim) allowed spares now = keeps_place (d (Reclaims t claim)) refl refl refl (same_all n c.place) now
    keeps_move (Counts caller t number) allowed spares now = keeps_place (d (Counts caller t number)) refl refl refl (same_all n c.place) now
    keeps_move (GivesUp caller t) allowed spares now = keeps_place (d (GivesUp caller t)) refl refl refl (same_all n c.place) now
    keeps_move (Aborts t) allowed spares now = record {
      current = now;
      names = same_all n c.place;
      first = refl;
      status = λ u i b ahead e live. elim (cases_eq u t) as (λ _. c.status u ≢ ABORTED) [
        | inl is ↦ absurd (live (ap (put c.status t ABORTED) is ∙ put_here c.status t ABORTED))
        | inr ne ↦ subst (λ (x : ℕ). x ≢ ABORTED) (put_elsewhere c.status t ABORTED u ne) live
      ];
    }
    keeps_move (Promotes t) allowed spares now = absurd spares
    keeps_move (Announces t) allowed spares now = record {
      current = now;
      names = same_all n c.place;
      first = refl;
      status = λ u i b ahead e live.
          (let before = allowed.0 in subst (λ (x : ℕ). x ≢ ABORTED) (put_elsewhere c.status t PROMOTED u (λ z. omega (arith, before, ahead, z))) live);
    }

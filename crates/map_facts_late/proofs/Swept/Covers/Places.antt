-- How the places of a table that is the root, or was, change by a move: each names the pair that it named, unless that is in the map no more, and what it
-- names else was stored just now.
use Rattle.std.proofs.Common.{◌≡◌, ◌≢◌, ℕ, suc, ◌<◌, ◌≤◌, Bool, true, false, ◌⊎◌, inl, inr, refl, arith, ap, sym, subst, ◌∙◌}
use Rattle.map_facts.specs.Given.TablesDeclared.status.TheConstants.Status.{ABORTED}
use Rattle.map_facts.specs.Given.RuleChart.{Phase, Still, Copying, Copied, Place, Empty, Tombstone, Holds, Chart, put, put_in}
use Rattle.map_facts.specs.Given.RuleRule.{Common}
use Rattle.map_facts.specs.Given.RuleMoves.{Move, Links, Stores, Replaces, Removes, Marks, MarksBlocking, Skips, Unmarks, Puts, Covers, PutsLate, Claims, Reclaims, Counts, GivesUp, Aborts, Promotes, Announces, marked, still_place, copied_place, lent_place, without, after, Allowed}
use Rattle.map_facts.proofs.Given.RuleMoves.Writes.{put_here, put_elsewhere, put_in_one, put_in_elsewhere}

module _ {K : Type 0} (c c2 : Chart K) where
  -- from one state of the tables to the next, at one place
  pub record Follows (p q : Place) : Type 0 where
    pub back : (n : ℕ) (phase : Phase) (borrowed : Bool) → q ≡ Holds n phase borrowed
        → ((before : Phase) × (lent : Bool) × (p ≡ Holds n before lent)) ⊎ ((c.stored ≤ n) × (c.now ≤ c2.now) × (c2.was c2.now n ≡ true))
    pub on : (n : ℕ) (phase : Phase) (borrowed : Bool) → p ≡ Holds n phase borrowed → ((later : Phase) × (lent : Bool) × (q ≡ Holds n later lent)) ⊎ (c2.current n ≡ false)

  pub follows_same : (p : Place) → Follows p p
  follows_same p = record { back = λ n phase borrowed e. inl (phase, borrowed, e); on = λ n phase borrowed e. inl (phase, borrowed, e) }

  -- the same pair, in another phase
  holds_same : (n : ℕ) (phase phase2 : Phase) (borrowed borrowed2 : Bool) → Follows (Holds n phase borrowed) (Holds n phase2 borrowed2)
  holds_same n phase phase2 borrowed borrowed2 = record {
    back = λ o later lent e. inl (phase, borrowed, (let same : n ≡ o = cc e in ap (λ (x : ℕ). Holds x phase borrowed) same));
    on = λ o before lent e. inl (phase2, borrowed2, (let same : n ≡ o = cc e in ap (λ (x : ℕ). Holds x phase2 borrowed2) same));
  }

  -- no pair before, and none then
  none_then : (p q : Place) → ((n : ℕ) (phase : Phase) (borrowed : Bool) → p ≢ Holds n phase borrowed) → ((n : ℕ) (phase : Phase) (borrowed : Bool) → q ≢ Holds n phase borrowed) → Follows p q
  none_then p q none none2 = record { back = λ n phase borrowed e. absurd (none2 n phase borrowed e); on = λ n phase borrowed e. absurd (none n phase borrowed e) }

  pub follows_marked : (p : Place) → Follows p (marked p)
  follows_marked (Empty mark) = none_then (Empty mark) (Empty true) (λ n phase borrowed e. cc e) (λ n phase borrowed e. cc e)
  follows_marked (Tombstone mark) = none_then (Tombstone mark) (Tombstone true) (λ n phase borrowed e. cc e) (λ n phase borrowed e. cc e)
  follows_marked (Holds n Still borrowed) = holds_same n Still Copying borrowed borrowed
  follows_marked (Holds n Copying borrowed) = follows_same (Holds n Copying borrowed)
  follows_marked (Holds n Copied borrowed) = follows_same (Holds n Copied borrowed)

  follows_still : (spot : ℕ → K → ℕ → ℕ) (incremental : Bool) (p : Place) → Follows p (still_place spot incremental p)
  follows_still spot incremental (Empty mark) = follows_same (Empty mark)
  follows_still spot incremental (Tombstone mark) = follows_same (Tombstone mark)
  follows_still spot incremental (Holds n phase borrowed) = holds_same n phase Still borrowed borrowed

  follows_copied : (spot : ℕ → K → ℕ → ℕ) (incremental : Bool) (p : Place) → Follows p (copied_place spot incremental p)
  follows_copied spot incremental (Empty mark) = follows_same (Empty mark)
  follows_copied spot incremental (Tombstone mark) = follows_same (Tombstone mark)
  follows_copied spot incremental (Holds n phase borrowed) = holds_same n phase Copied borrowed borrowed

  -- where one place changed
  follows_one : (f : ℕ → ℕ → Place) (u k : ℕ) (v : Place) → Follows (f u k) v → (t i : ℕ) → Follows (f t i) (put_in f u k v t i)
  follows_one f u k v there = put_in_one (λ (t i : ℕ) (q : Place). Follows (f t i) q) f u k v there (λ t i. follows_same (f t i))

  -- where another table changed
  follows_beside : (f : ℕ → ℕ → Place) (u k : ℕ) (v : Place) (t i : ℕ) → t ≢ u → Follows (f t i) (put_in f u k v t i)
  follows_beside f u k v t i other = subst (Follows (f t i)) (sym (put_in_elsewhere f u k v t i other)) (follows_same (f t i))

-- a place that another pair comes to, or that a pair leaves
module _ {K : Type 0} (spot : ℕ → K → ℕ → ℕ) (incremental : Bool) (c : Chart K) where
  gone : (p : Place) (n : ℕ) (phase : Phase) (borrowed : Bool) → p ≡ Holds n phase borrowed → without spot incremental p c.current n ≡ false
  gone (Empty mark) n phase borrowed e = absurd (cc e)
  gone (Tombstone mark) n phase borrowed e = absurd (cc e)
  gone (Holds o before lent) n phase borrowed e = let same : n ≡ o = cc e in subst (λ (x : ℕ). put c.current o false x ≡ false) (sym same) (put_here c.current o false)

  stores : (u k : ℕ) (key : K) → ((n : ℕ) (phase : Phase) (borrowed : Bool) → c.place u k ≡ Holds n phase borrowed → n < c.stored)
      → (c2 : Chart K) → c2.now ≡ suc c.now → c2.was ≡ put c.was (suc c.now) (put (without spot incremental (c.place u k) c.current) c.stored true)
      → c2.current ≡ put (without spot incremental (c.place u k) c.current) c.stored true → Follows c c2 (c.place u k) (Holds c.stored Still false)
  stores u k key keyed c2 now was current = record {
    back = λ n phase borrowed e. inr (let same : c.stored ≡ n = cc e in (omega (arith, same), omega (arith, now), is n same));
    on = λ n phase borrowed e. inr (
        ap (λ (f : ℕ → Bool). f n) current ∙ put_elsewhere (without spot incremental (c.place u k) c.current) c.stored true n (λ same. (let l = keyed n phase borrowed e in omega (arith, l, same)))
        ∙ gone (c.place u k) n phase borrowed e
        );
  }
    where
      is : (n : ℕ) → c.stored ≡ n → c2.was c2.now n ≡ true
      is n same =
          ap (λ (f : ℕ → ℕ → Bool). f c2.now n) was ∙ ap (λ (m : ℕ). put c.was (suc c.now) (put (without spot incremental (c.place u k) c.current) c.stored true) m n) now
          ∙ ap (λ (f : ℕ → Bool). f n) (put_here c.was (suc c.now) (put (without spot incremental (c.place u k) c.current) c.stored true))
          ∙ ap (put (without spot incremental (c.place u k) c.current) c.stored true) (sym same) ∙ put_here (without spot incremental (c.place u k) c.current) c.stored true

  removes : (u k : ℕ) (c2 : Chart K) → c2.current ≡ without spot incremental (c.place u k) c.current → Follows c c2 (c.place u k) (Tombstone false)
  removes u k c2 current = record {
    back = λ n phase borrowed e. absurd (cc e);
    on = λ n phase borrowed e. inr (ap (λ (f : ℕ → Bool). f n) current ∙ gone (c.place u k) n phase borrowed e);
  }

module _ {K : Type 0} (same : K → K → Bool) (spot : ℕ → K → ℕ → ℕ) (incremental : Bool) (c : Chart K) (common : Common same spot incremental c) (t : ℕ) (upto : t ≤ c.first) (live : c.status t ≢ ABORTED) where
  keyed : (u k n : ℕ) (phase : Phase) (borrowed : Bool) → c.place u k ≡ Holds n phase borrowed → n < c.stored
  keyed u k n phase borrowed e = (common.keyed u k n phase borrowed e).0

  -- each move
  pub place_follows : (move : Move K) → Allowed same spot incremental move c → (i : ℕ) → Follows c (after spot incremental move c) (c.place t i) ((after spot incremental move c).place t i)
  place_follows (Links len limit) a i = follows_same c (after spot incremental (Links len limit) c) (c.place t i)
  place_follows (Stores u k j) a i =
      follows_one c (after spot incremental (Stores u k j) c) c.place u (spot (c.len u) k j) (Holds c.stored Still false)
      (stores spot incremental c u (spot (c.len u) k j) k (keyed u (spot (c.len u) k j)) (after spot incremental (Stores u k j) c) refl refl refl) t i
  place_follows (Replaces u j k) a i =
      follows_one c (after spot incremental (Replaces u j k) c) c.place u j (Holds c.stored Still false)
      (stores spot incremental c u j k (keyed u j) (after spot incremental (Replaces u j k) c) refl refl refl) t i
  place_follows (Removes u j) a i =
      follows_one c (after spot incremental (Removes u j) c) c.place u j (Tombstone false) (removes spot incremental c u j (after spot incremental (Removes u j) c) refl) t i
  place_follows (Marks caller j) a i =
      follows_one c (after spot incremental (Marks caller j) c) c.place c.first j (marked (c.place c.first j)) (follows_marked c (after spot incremental (Marks caller j) c) (c.place c.first j)) t i
  place_follows (MarksBlocking j) a i =
      follows_one c (after spot incremental (MarksBlocking j) c) c.place c.first j (marked (c.place c.first j)) (follows_marked c (after spot incremental (MarksBlocking j) c) (c.place c.first j)) t i
  place_follows (Skips caller u j) a i =
      follows_one c (after spot incremental (Skips caller u j) c) c.place c.first j (marked (c.place c.first j)) (follows_marked c (after spot incremental (Skips caller u j) c) (c.place c.first j)) t i
  place_follows (Unmarks caller j) a i =
      follows_one c (after spot incremental (Unmarks caller j) c) c.place c.first j (still_place spot incremental (c.place c.first j))
      (follows_still c (after spot incremental (Unmarks caller j) c) spot incremental (c.place c.first j)) t i
  place_follows (Puts caller j u k try) a i =
      follows_beside c (after spot incremental (Puts caller j u k try) c) c.place u (spot (c.len u) k try) (lent_place spot incremental (c.place c.first j)) t i
      (λ e. (let l = a.0 in omega (arith, e, l, upto)))
  place_follows (Covers caller j) a i =
      follows_one c (after spot incremental (Covers caller j) c) c.place c.first j (copied_place spot incremental (c.place c.first j))
      (follows_copied c (after spot incremental (Covers caller j) c) spot incremental (c.place c.first j)) t i
  place_follows (PutsLate u j n) a i =
      follows_beside c (after spot incremental (PutsLate u j n) c) c.place u j (Holds n Still false) t i (λ e. live (ap c.status e ∙ a.3))
  place_follows (Claims caller u chunk) a i = follows_same c (after spot incremental (Claims caller u chunk) c) (c.place t i)
  place_follows (Reclaims u claim) a i = follows_same c (after spot incremental (Reclaims u claim) c) (c.place t i)
  place_follows (Counts caller u number) a i = follows_same c (after spot incremental (Counts caller u number) c) (c.place t i)
  place_follows (GivesUp caller u) a i = follows_same c (after spot incremental (GivesUp caller u) c) (c.place t i)
  place_follows (Aborts u) a i = follows_same c (after spot incremental (Aborts u) c) (c.place t i)
  place_follows (Promotes u) a i = follows_same c (after spot incremental (Promotes u) c) (c.place t i)
  place_follows (Announces u) a i = follows_same c (after spot incremental (Announces u) c) (c.place t i)

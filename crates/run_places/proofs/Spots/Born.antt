-- No table comes to name a pair that was stored in a later one, and the first table is never given up.
use Rattle.std.specs.Prelude.{◌≡◌, ◌≢◌, ℕ, ◌<◌, ◌≤◌, Bool, true, false, cond, eqb}
use Rattle.std.proofs.Common.{ap, sym, subst, ◌∙◌, arith, inl, inr}
use Rattle.std.proofs.lemmas.Bool.{cases_eq}
use Rattle.run_shows.specs.Given.TablesDeclared.status.TheConstants.Status.{PENDING, ABORTED, PROMOTED}
use Rattle.run_shows.specs.Given.RuleChart.{Still, Place, Tombstone, Holds, Chart, put, put_in}
use Rattle.run_shows.specs.Given.RuleRule.{Rule}
use Rattle.run_shows.specs.Given.RuleMoments.{Moments}
use Rattle.run_shows.specs.Given.RuleMoves.{Move, Links, Stores, Replaces, Removes, Marks, MarksBlocking, Skips, Unmarks, Puts, Covers, PutsLate, Claims, Reclaims, Counts, GivesUp, Aborts, Promotes, Announces, marked, still_place, copied_place, lent_place, Allowed, after}
use Rattle.run_shows.proofs.Given.RuleMoves.Writes.{put_here, put_elsewhere, put_in_one}
use Rattle.run_places.specs.Spots.Spots.{ThePair, named_by}
use Rattle.run_places.proofs.Spots.Moves.{lent_named}
use Rattle.run_places.proofs.Spots.Names.{other_pair, nobody, marked_names, still_names, copied_names}

module _ {K : Type 0} (same : K → K → Bool) (spot : ℕ → K → ℕ → ℕ) (incremental : Bool) (c : Chart K) (rule : Rule same spot incremental c) (moments : Moments incremental c) where
  module _ (whole : c.status 0 ≢ ABORTED) (n : ℕ) (old : n < c.stored) (born : ℕ) (before : (t i : ℕ) (b : Bool) → named_by (c.place t i) ≡ ThePair n b → born ≤ t) where
    abbrev Behind : Chart K → Type 0
    Behind d = (t i : ℕ) (b : Bool) → named_by (d.place t i) ≡ ThePair n b → born ≤ t

    one_put : (t i : ℕ) (v : Place) → ((b : Bool) → named_by v ≡ ThePair n b → born ≤ t) → (u y : ℕ) (b : Bool) → named_by (put_in c.place t i v u y) ≡ ThePair n b → born ≤ u
    one_put t i v new u y b e = put_in_one (λ (x : ℕ) (z : ℕ) (w : Place). (b : Bool) → named_by w ≡ ThePair n b → born ≤ x) c.place t i v new (λ x z. before x z) u y b e

    one_marked : (t i : ℕ) (v : Place) → named_by v ≡ named_by (c.place t i) → (u y : ℕ) (b : Bool) → named_by (put_in c.place t i v u y) ≡ ThePair n b → born ≤ u
    one_marked t i v same_name = one_put t i v (λ b e. before t i b (sym same_name ∙ e))

    new_pair : (t : ℕ) (b : Bool) → ThePair c.stored false ≡ ThePair n b → born ≤ t
    new_pair t b e = absurd (let z = other_pair c.stored n false b e in omega (arith, z, old))

    -- a pair that is put late was stored before
    pub late_born : (t i : ℕ) → Allowed same spot incremental (PutsLate t i n) c → born < t
    late_born t i allowed =
        let from = before (c.from t) allowed.7 false (ap named_by allowed.8) in
        let earlier = moments.earlier t not_first made in
        omega (arith, from, earlier)
      where
        not_first : 0 < t
        not_first = elim (cases_eq t 0) as (λ _. 0 < t) [
          | inl z ↦ absurd (whole (ap c.status (sym z) ∙ allowed.3))
          | inr z ↦ omega (arith, z)
        ]

        made : t < c.past
        made = elim (cases_eq c.past 0) as (λ _. t < c.past) [
          | inl none ↦ absurd (let r = rule.common.rootless none in let l = allowed.1 in omega (arith, r, l))
          | inr any ↦ (let r = rule.common.rooted (omega (arith, any)) in let l = allowed.1 in omega (arith, r, l))
        ]

    pub born_move : (move : Move K) → Allowed same spot incremental move c → Behind (after spot incremental move c)
    born_move (Links len limit) allowed = before
    born_move (Stores t k j) allowed = one_put t (spot (c.len t) k j) (Holds c.stored Still false) (new_pair t)
    born_move (Replaces t i k) allowed = one_put t i (Holds c.stored Still false) (new_pair t)
    born_move (Removes t i) allowed = one_put t i (Tombstone false) (λ b e. absurd (nobody n b e))
    born_move (Marks caller i) allowed = one_marked c.first i (marked (c.place c.first i)) (marked_names (c.place c.first i))
    born_move (MarksBlocking i) allowed = one_marked c.first i (marked (c.place c.first i)) (marked_names (c.place c.first i))
    born_move (Skips caller t i) allowed = one_marked c.first i (marked (c.place c.first i)) (marked_names (c.place c.first i))
    born_move (Unmarks caller i) allowed = one_marked c.first i (still_place spot incremental (c.place c.first i)) (still_names spot incremental (c.place c.first i))
    born_move (Puts caller i t k j) allowed = one_put t (spot (c.len t) k j) (lent_place spot incremental (c.place c.first i))
        (λ b e. let was = lent_named spot incremental n (c.place c.first i) b e in let l = before c.first i was.0 was.1 in let ahead = allowed.0 in omega (arith, l, ahead))
    born_move (Covers caller i) allowed = one_marked c.first i (copied_place spot incremental (c.place c.first i)) (copied_names spot incremental (c.place c.first i))
    born_move (PutsLate t i o) allowed = one_put t i (Holds o Still false)
        (λ b e. let l = late_born t i (subst (λ (x : ℕ). Allowed same spot incremental (PutsLate t i x) c) (other_pair o n false b e) allowed) in omega (arith, l))
    born_move (Claims caller t chunk) allowed = before
    born_move (Reclaims t claim) allowed = before
    born_move (Counts caller t number) allowed = before
    born_move (GivesUp caller t) allowed = before
    born_move (Aborts t) allowed = before
    born_move (Promotes t) allowed = before
    born_move (Announces t) allowed = before

  -- a table that begins is not given up
  first_status : (q : Bool) → cond q PROMOTED PENDING ≢ ABORTED
  first_status true e = omega (arith, e)
  first_status false e = omega (arith, e)

  one_status : (t x : ℕ) → (t ≡ 0 → x ≢ ABORTED) → c.status 0 ≢ ABORTED → put c.status t x 0 ≢ ABORTED
  one_status t x new whole = elim (cases_eq t 0) as (λ _. put c.status t x 0 ≢ ABORTED) [
    | inl e ↦ subst (λ (y : ℕ). y ≢ ABORTED) (sym (ap (put c.status t x) (sym e) ∙ put_here c.status t x)) (new e)
    | inr ne ↦ subst (λ (y : ℕ). y ≢ ABORTED) (sym (put_elsewhere c.status t x 0 (λ e. ne (sym e)))) whole
  ]

  pub whole_move : (move : Move K) → Allowed same spot incremental move c → c.status 0 ≢ ABORTED → (after spot incremental move c).status 0 ≢ ABORTED
  whole_move (Links len limit) allowed whole = one_status c.past (cond (eqb c.past 0) PROMOTED PENDING) (λ e. first_status (eqb c.past 0)) whole
  whole_move (Stores t k j) allowed whole = whole
  whole_move (Replaces t i k) allowed whole = whole
  whole_move (Removes t i) allowed whole = whole
  whole_move (Marks caller i) allowed whole = whole
  whole_move (MarksBlocking i) allowed whole = whole
  whole_move (Skips caller t i) allowed whole = whole
  whole_move (Unmarks caller i) allowed whole = whole
  whole_move (Puts caller i t k j) allowed whole = whole
  whole_move (Covers caller i) allowed whole = whole
  whole_move (PutsLate t i n) allowed whole = whole
  whole_move (Claims caller t chunk) allowed whole = whole
  whole_move (Reclaims t claim) allowed whole = whole
  whole_move (Counts caller t number) allowed whole = whole
  whole_move (GivesUp caller t) allowed whole = whole
  whole_move (Aborts t) allowed whole = one_status t ABORTED (λ e. absurd (let l = allowed.1 in omega (arith, e, l))) whole
  whole_move (Promotes t) allowed whole = whole
  whole_move (Announces t) allowed whole = one_status t PROMOTED (λ e z. omega (arith, z)) whole

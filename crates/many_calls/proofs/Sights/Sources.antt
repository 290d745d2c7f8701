-- With a table that was aborted, its source is seen, the one that was the root as it was linked: also after a step of some caller.
use Rattle.std.specs.Prelude.{◌≡◌, ℕ, zero, suc, ◌<◌, ◌≤◌, Bool, true, false, cond, eqb, ltb, ◌⊎◌}
use Rattle.std.proofs.Common.{refl, ap, sym, subst, ◌∙◌, inl, inr, arith}
use Rattle.std.proofs.lemmas.Bool.{cases_lt, cases_eq}
use Rattle.std.proofs.lemmas.Bool.Decides.{nat_tests}
use Rattle.map_facts_late.specs.Given.TablesChunks.{is_incremental}
use Rattle.map_facts_late.specs.Given.TablesDeclared.resize_mode.ResizeMode.{ResizeMode}
use Rattle.map_facts_late.specs.Given.TablesDeclared.status.TheConstants.Status.{PENDING, ABORTED, PROMOTED}
use Rattle.map_facts_late.specs.Given.RuleChart.{Chart}
use Rattle.map_facts_late.specs.Given.RuleRule.{Rule}
use Rattle.map_facts_late.specs.Given.RuleMoves.{Move, Links, Stores, Replaces, Removes, Marks, MarksBlocking, Skips, Unmarks, Puts, Covers, PutsLate, Claims, Reclaims, Counts, GivesUp, Aborts, Promotes, Announces, after, Allowed}
use Rattle.map_facts_late.specs.Given.RuleMoments.{Moments, Remembers}
use Rattle.map_facts_late.specs.Given.RuleMaps.{spot_of}
use Rattle.map_facts_late.specs.Given.RuleInWorld.{Moved}
use Rattle.map_facts_late.proofs.Given.RuleMoves.Writes.{put_cases}
use Rattle.many_calls.specs.Sights.{SourcesAreVisible}

-- one of two, by a bound
pub below : {X : Type 0} (n bound : ℕ) (x y : X) → n < bound → cond (ltb n bound) x y ≡ x
below n bound x y l = let e : ltb n bound ≡ true = grind (arith, nat_tests, l) in ap (λ (b : Bool). cond b x y) e

pub above : {X : Type 0} (n bound : ℕ) (x y : X) → bound ≤ n → cond (ltb n bound) x y ≡ y
above n bound x y l = let e : ltb n bound ≡ false = grind (arith, nat_tests, l) in ap (λ (b : Bool). cond b x y) e

-- a table that is aborted after a move was so before, or is behind the root in blocking mode
abbrev pub WasAborted : {K : Type 0} → Bool → Chart K → ℕ → Type 0
WasAborted incremental c t = (t < c.past) × ((c.status t ≡ ABORTED) ⊎ ((incremental ≡ false) × (c.first < t)))

module _ {K : Type 0} (same : K → K → Bool) (spot : ℕ → K → ℕ → ℕ) where
  -- the root was not aborted
  behind_root : (incremental : Bool) (c : Chart K) → Rule same spot incremental c → (t : ℕ) → c.first ≤ t → c.status t ≡ ABORTED → c.first < t
  behind_root incremental c rule t l aborted = elim (cases_eq t c.first) [
    | inl e ↦ absurd (rule.common.live (ap c.status (sym e) ∙ aborted))
    | inr other ↦ omega (arith, l, other)
  ]

  -- what is linked and was aborted has the root as its source
  pub aborted_from : (incremental : Bool) (c : Chart K) → Rule same spot incremental c → Moments incremental c
      → (t : ℕ) → c.first ≤ t → t < c.past → c.status t ≡ ABORTED → c.from t ≡ c.first
  aborted_from true c rule moments t l made aborted = absurd (rule.in_mode.never_aborted t aborted)
  aborted_from false c rule moments t l made aborted = moments.froms refl t (behind_root false c rule t l aborted) made

  -- the source of a table that was aborted is there
  pub source_made : (incremental : Bool) (c : Chart K) → Rule same spot incremental c → Moments incremental c
      → (t : ℕ) → t < c.past → c.status t ≡ ABORTED → c.from t < c.past
  source_made true c rule moments t made aborted = absurd (rule.in_mode.never_aborted t aborted)
  source_made false c rule moments (suc t) made aborted = let l = moments.earlier (suc t) (omega arith) made in omega (arith, l, made)
  source_made false c rule moments zero made aborted = elim (cases_lt 1 c.past) [
    | inl more ↦ (let l = moments.earlier 1 (omega arith) more in let e = moments.follows refl 0 more aborted in omega (arith, l, e, more))
    | inr alone ↦
        let r = rule.common.rooted made in
        absurd (rule.common.live (ap c.status (let e : c.first ≡ 0 = omega (arith, r, alone) in e) ∙ aborted))
  ]

  module _ (incremental : Bool) (c : Chart K) where
    new_table : (b : Bool) → cond b PROMOTED PENDING ≡ ABORTED → ⊥
    new_table true f = omega (arith, f)
    new_table false f = omega (arith, f)

    pub aborted_before : (move : Move K) → Allowed same spot incremental move c
        → (t : ℕ) → t < (after spot incremental move c).past → (after spot incremental move c).status t ≡ ABORTED → WasAborted incremental c t
    aborted_before (Links len limit) a t made e = elim (put_cases c.status c.past (cond (eqb c.past 0) PROMOTED PENDING) t) [
      | inl new ↦ absurd (new_table (eqb c.past 0) (sym new.1 ∙ e))
      | inr old ↦ (let ne = old.0 in omega (arith, made, ne), inl (sym old.1 ∙ e))
    ]
    aborted_before (Stores u k g) a t made e = (made, inl e)
    aborted_before (Replaces u q k) a t made e = (made, inl e)
    aborted_before (Removes u q) a t made e = (made, inl e)
    aborted_before (Marks caller q) a t made e = (made, inl e)
    aborted_before (MarksBlocking q) a t made e = (made, inl e)
    aborted_before (Skips caller u q) a t made e = (made, inl e)
    aborted_before (Unmarks caller q) a t made e = (made, inl e)
    aborted_before (Puts caller q u k g) a t made e = (made, inl e)
    aborted_before (Covers caller q) a t made e = (made, inl e)
    aborted_before (PutsLate u q m) a t made e = (made, inl e)
    aborted_before (Claims caller u chunk) a t made e = (made, inl e)
    aborted_before (Reclaims u claim) a t made e = (made, inl e)
    aborted_before (Counts caller u number) a t made e = (made, inl e)
    aborted_before (GivesUp caller u) a t made e = (made, inl e)
    aborted_before (Aborts u) a t made e = elim (put_cases c.status u ABORTED t) [
      | inl here ↦ (made, inr (a.0, subst (λ (v : ℕ). c.first < v) (sym here.0) a.1))
      | inr other ↦ (made, inl (sym other.1 ∙ e))
    ]
    aborted_before (Promotes u) a t made e = (made, inl e)
    aborted_before (Announces u) a t made e = elim (put_cases c.status u PROMOTED t) [
      | inl here ↦ absurd (let f = sym here.1 ∙ e in omega (arith, f))
      | inr other ↦ (made, inl (sym other.1 ∙ e))
    ]

    -- where the linked tables are seen, and sources
    module _ (rule : Rule same spot incremental c) (moments : Moments incremental c) (tables : ℕ → Bool)
        (linked : (t : ℕ) → c.first ≤ t → t < c.past → tables t ≡ true) (sources : SourcesAreVisible c tables) where
      -- the source of a table is there and is seen that was aborted then
      pub source_seen : (t : ℕ) → tables t ≡ true → WasAborted incremental c t → (c.from t < c.past) × (tables (c.from t) ≡ true)
      source_seen t known (made, inl aborted) = (source_made incremental c rule moments t made aborted, sources t made known aborted)
      source_seen t known (made, inr behind) =
          let l = behind.1 in
          let k : c.first < c.past = omega (arith, l, made) in
          let e = moments.froms behind.0 t l made in
          (subst (λ (u : ℕ). u < c.past) (sym e) k, ap tables e ∙ linked c.first (let r : c.first ≤ c.first = omega arith in r) k)

module _ {K : Type 0} (same : K → K → Bool) (hash : K → ℕ) (mode : ResizeMode) (caller : ℕ) (c c2 : Chart K) (rule : Rule same (spot_of hash) (is_incremental mode) c)
    (moments : Moments (is_incremental mode) c) (remembers : Remembers (is_incremental mode) c c2) (moved : Moved same hash mode caller c c2) where
  was_aborted : (t : ℕ) → t < c2.past → c2.status t ≡ ABORTED → WasAborted (is_incremental mode) c t
  was_aborted t made aborted = by moved
    where
      by : Moved same hash mode caller c c2 → WasAborted (is_incremental mode) c t
      by (inl still) = (subst (λ (x : Chart K). t < x.past) still made, inl (ap (λ (x : Chart K). x.status t) (sym still) ∙ aborted))
      by (inr (move, allowed, is, its)) =
          aborted_before same (spot_of hash) (is_incremental mode) c move allowed t (subst (λ (x : Chart K). t < x.past) is made)
          (ap (λ (x : Chart K). x.status t) (sym is) ∙ aborted)

  -- sources are seen after a step, whatever is seen of the tables that are new
  pub sources_then : (tables new : ℕ → Bool) → ((t : ℕ) → c.first ≤ t → t < c.past → tables t ≡ true) → SourcesAreVisible c tables
      → SourcesAreVisible c2 (λ t. cond (ltb t c.past) (tables t) (new t))
  sources_then tables new linked sources t made known aborted =
      let so = was_aborted t made aborted in
      let seen = source_seen same (spot_of hash) (is_incremental mode) c rule moments tables linked sources t (sym (below t c.past (tables t) (new t) so.0) ∙ known) so in
      ap (λ (u : ℕ). cond (ltb u c.past) (tables u) (new u)) (remembers.from t so.0)
      ∙ below (c.from t) c.past (tables (c.from t)) (new (c.from t)) seen.0 ∙ seen.1

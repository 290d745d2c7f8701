-- What moves leave of the claims of tables: each leaves that there are so many tables, and a new one without a claim; those beside copying leave the claims.
use Rattle.std.specs.Prelude.{◌≢◌, ◌<◌, ◌+◌, cond}
use Rattle.std.proofs.lemmas.Bool.{ne_eqb}
use Rattle.std.proofs.Common.{◌≡◌, ℕ, ◌≤◌, Bool, inl, inr, refl, ap, sym, subst, ◌∙◌, arith}
use Rattle.map_facts_late.specs.Given.TablesChunks.{is_incremental}
use Rattle.map_facts_late.specs.Given.TablesDeclared.resize_mode.ResizeMode.{ResizeMode}
use Rattle.map_facts_late.specs.Given.RuleChart.{Chart}
use Rattle.map_facts_late.specs.Given.RuleRule.{Rule}
use Rattle.map_facts_late.specs.Given.RuleMoves.{Move, Links, Stores, Replaces, Removes, Claims, Reclaims, Allowed, after}
use Rattle.map_facts_late.specs.Given.RuleMaps.{spot_of}
use Rattle.map_facts_late.specs.Given.RuleInWorld.{Moved}
use Rattle.map_facts_late.specs.Given.PointsTold.{IsBesideCopying, MovedBesideCopying}

module _ {K : Type 0} (spot : ℕ → K → ℕ → ℕ) (incremental : Bool) (c : Chart K) where
  past_after : (move : Move K) → c.past ≤ (after spot incremental move c).past
  past_after (Links len limit) = omega arith
  past_after _ = omega arith

  claim_after : (move : Move K) → IsBesideCopying move → (after spot incremental move c).claim ≡ c.claim
  claim_after (Links len limit) beside = refl
  claim_after (Stores t k try) beside = refl
  claim_after (Replaces t place k) beside = refl
  claim_after (Removes t place) beside = refl
  claim_after _ beside = absurd beside

module _ {K : Type 0} (hash : K → ℕ) (mode : ResizeMode) (c c2 : Chart K) where
  -- no table is lost
  pub past_moved : (same : K → K → Bool) (caller : ℕ) → Moved same hash mode caller c c2 → c.past ≤ c2.past
  past_moved same caller (inl e) = subst (λ (x : Chart K). c.past ≤ x.past) (sym e) (omega arith)
  past_moved same caller (inr (move, allowed, e, mine)) = subst (λ (x : Chart K). c.past ≤ x.past) (sym e) (past_after (spot_of hash) (is_incremental mode) c move)

  -- the claims are what they were
  pub claim_beside : MovedBesideCopying hash mode c c2 → c2.claim ≡ c.claim
  claim_beside (inl e) = ap (λ (x : Chart K). x.claim) e
  claim_beside (inr (move, beside, e)) = ap (λ (x : Chart K). x.claim) e ∙ claim_after (spot_of hash) (is_incremental mode) c move beside

-- a table that is not there yet keeps its claim, which is none
module _ {K : Type 0} (spot : ℕ → K → ℕ → ℕ) (incremental : Bool) (c : Chart K) (t : ℕ) (l : c.past ≤ t) where
  other_turn : (u : ℕ) → u < c.past → t ≢ u
  other_turn u made e = omega (arith, l, made, e)

  new_claim : (same : K → K → Bool) (move : Move K) → Allowed same spot incremental move c → (after spot incremental move c).claim t ≡ c.claim t
  new_claim same (Claims caller u chunk) a = ap (λ (b : Bool). cond b (c.claim u + chunk) (c.claim t)) (ne_eqb t u (other_turn u a.1))
  new_claim same (Reclaims u claim) a = ap (λ (b : Bool). cond b claim (c.claim t)) (ne_eqb t u (other_turn u a.1))
  new_claim same _ a = refl

module _ {K : Type 0} (same : K → K → Bool) (hash : K → ℕ) (mode : ResizeMode) (caller : ℕ) (c c2 : Chart K) (rule : Rule same (spot_of hash) (is_incremental mode) c) where
  -- a table that is linked by the step has none
  pub claim_new : Moved same hash mode caller c c2 → (t : ℕ) → c.past ≤ t → c2.claim t ≡ 0
  claim_new (inl e) t l = ap (λ (x : Chart K). x.claim t) e ∙ (rule.common.uncounted t l).0
  claim_new (inr (move, allowed, e, its)) t l = ap (λ (x : Chart K). x.claim t) e ∙ new_claim (spot_of hash) (is_incremental mode) c t l same move allowed ∙ (rule.common.uncounted t l).0

-- In blocking mode, the points at which a copier reads the status, the claim or the table behind, or has come to its end.
use Rattle.std.specs.Prelude.{nat_lt, if◌then◌else◌}
use Rattle.std.proofs.Common.{◌≡◌, ◌≢◌, ℕ, ◌≤◌, ◌==◌, Bool, true, false, ◌⊎◌, inl, inr, refl, ap, sym, subst, ◌∙◌, arith}
use Rattle.std.proofs.lemmas.Bool.{ltb-true, ltb-false, eqb-true, eqb-false}
use Rattle.map_rule.specs.Given.SeizeWordsMem.{Mem, Took, value_at}
use Rattle.map_rule.specs.Given.SeizeWordsPlan.{Now, Steps, Ends}
use Rattle.map_rule.proofs.Given.SeizeWordsOneOwner.Operations.{loaded}
use Rattle.map_rule.proofs.Given.SeizeWordsPlans.{ends_if}
use Rattle.papaya_raw.specs.Given.SeizeWorld.{World}
use Rattle.papaya_raw.specs.Given.TablesDeclared.node.Node.{Node}
use Rattle.map_rule.specs.Given.ResizeDeclared.yielding.Yielding.{Yielding}
use Rattle.map_rule.specs.Given.ResizeDeclared.yielding.Yielding.TheVariants.{Goes, Waits}
use Rattle.papaya_raw.specs.Given.TablesDeclared.setting.Setting.{Setting}
use Rattle.papaya_raw.specs.Given.TablesDeclared.status.TheConstants.Status.{ABORTED, PROMOTED}
use Rattle.papaya_raw.specs.Given.TablesDeclared.table.Table.{Table}
use Rattle.papaya_raw.specs.Given.TablesDeclared.table_words.TheConstants.{CLAIM, STATUS}
use Rattle.map_rule.specs.Given.ResizeDeclared.copier.Copier.{Copier}
use Rattle.map_rule.specs.Given.ResizeDeclared.copier.Copying.{Copying as Point}
use Rattle.map_rule.specs.Given.ResizeDeclared.copier.Copying.TheVariants as at
use Rattle.papaya_raw.specs.Given.TablesTablePlaces.{at_word}
use Rattle.map_rule.specs.Given.ResizeCopierStates.{standing, none_left}
use Rattle.map_rule.specs.Given.ResizeCopierClaims.{asks, sees, status_read, claim_read, to}
use Rattle.map_rule.specs.Chart.{Chart}
use Rattle.map_rule.specs.Words.{Blocks}
use Rattle.map_rule.specs.InWorld.{IsMapIn}
use Rattle.map_facts.specs.FactsCopiesBlocking.{RestsIn, CopyingFactsBlocking, CopierFactsBlocking}
use Rattle.map_rule.specs.Rule.{Rule}
use Rattle.map_rule.specs.Maps.{spot_of}
use Rattle.map_facts.specs.FactsAloneBlocking.{AloneBlocking}
use Rattle.papaya_raw.specs.Given.TablesChunks.{is_incremental}
use Rattle.map_facts.proofs.Steps.AloneCharts.{never_waits}
use Rattle.map_facts.proofs.Copiers.CopierWent.{CopierCame, copier_still, copier_goes}
use Rattle.map_rule.proofs.Words.TablesSeen.{len_is, turn_is}
use Rattle.map_facts.proofs.Blocking.Targets.{status_is, claim_is}

module _ {K V : Type 0} (same : K → K → Bool) (hash : K → ℕ) (caller : ℕ) (setting : Setting) (w : World (Node K V)) (c : Chart K) (blocks : Blocks)
    (map : IsMapIn same hash setting w c blocks) (p : Copier) (facts : CopierFactsBlocking same hash w caller setting c blocks p) where
  -- from this point
  abbrev CameTo : Point → Mem (Node K V) → Copier × Yielding (Node K V) Table → Type 0
  CameTo stands = CopierCame same hash caller setting w c blocks (AloneBlocking c p stands)

  goes : (stands : Point) (m2 : Mem (Node K V)) (end : Copier × Yielding (Node K V) Table) (q : Copier) → m2 ≡ w.memory → end ≡ (q, Goes) → q.setting ≡ setting
      → CopyingFactsBlocking same hash w caller setting c blocks q q.stands
      → (AloneBlocking c p stands → AloneBlocking c q q.stands) → CameTo stands m2 end
  goes stands = copier_goes same hash caller setting w c blocks (AloneBlocking c p stands) map

  module _ (t : ℕ) (rests : RestsIn same hash w caller setting c blocks p t) where
    target_turn : p.target.turn ≡ t
    target_turn = turn_is hash w.memory c blocks setting.root map.map.shows p.target t rests.0.2

    pub went_ask : is_incremental setting.mode ≡ false → (m2 : Mem (Node K V)) (end : Copier × Yielding (Node K V) Table) → Steps Took value_at w.memory (asks p) m2 end → CameTo at.Asks m2 end
    went_ask blocking m2 end s =
        let read = loaded w.memory (status_read p) (at_word p.target STATUS) m2 end s in
        by_promoted read.0 (cc (read.1, status_is same hash setting w c blocks map p t rests.0.2)) read.2 (ends_if (value_at w.memory) (read.0 == PROMOTED) _ _ end read.3)
      where
        rule_blocking : Rule same (spot_of hash) false c
        rule_blocking = subst (λ (b : Bool). Rule same (spot_of hash) b c) blocking map.map.rule

        by_spent : c.status t ≢ ABORTED → m2 ≡ w.memory → ((p.spent ≡ true) × (end ≡ (p, Waits))) ⊎ ((p.spent ≡ false) × (end ≡ (standing p at.Sees, Goes))) → CameTo at.Asks m2 end
        by_spent live still (inl e) = copier_still same hash caller setting w c blocks (AloneBlocking c p at.Asks) map m2 end (p, Waits) still e.1 facts
            (λ a. absurd (live (never_waits c same (spot_of hash) rule_blocking caller t rests.0.1 rests.0.2.made a.0 (λ j. rests.2 t j rests.0.1) (subst (λ (u : ℕ). c.len c.first ≤ c.claim u) target_turn (a.1.2 e.0)) a.1.0 a.1.1)))
        by_spent live still (inr e) =
            goes at.Asks m2 end (standing p at.Sees) still e.1 facts.setting_is (t, rests) (λ a. (a.0, a.1, e.0))

        by_aborted : (status : ℕ) → status ≡ c.status t → m2 ≡ w.memory
            → ((((status == ABORTED) ≡ true) × (end ≡ (record p { spent = false; stands = at.Replaces }, Goes)))
            ⊎ (((status == ABORTED) ≡ false) × Ends (value_at w.memory) (if p.spent then Now (p, Waits) else to (standing p at.Sees)) end)) → CameTo at.Asks m2 end
        by_aborted status e still (inl a) =
            let aborted : c.status t ≡ ABORTED = sym e ∙ eqb-true status ABORTED a.0 in
            goes at.Asks m2 end (record p { spent = false; stands = at.Replaces }) still a.1 facts.setting_is (t, rests, aborted) (λ a. (a.0, a.1, refl))
        by_aborted status e still (inr a) = by_spent (λ is. eqb-false status ABORTED a.0 (e ∙ is)) still (ends_if (value_at w.memory) p.spent _ _ end a.1)

        by_promoted : (status : ℕ) → status ≡ c.status t → m2 ≡ w.memory
            → (((status == PROMOTED) ≡ true) × (end ≡ (standing p at.Over, Goes))) ⊎ (((status == PROMOTED) ≡ false) × Ends (value_at w.memory) (if status == ABORTED then to (record p { spent = false; stands = at.Replaces }) else
            (if p.spent then Now (p, Waits) else to (standing p at.Sees))) end) → CameTo at.Asks m2 end
        by_promoted status e still (inl a) = absurd (map.map.rule.common.pending t rests.0.1 (sym e ∙ eqb-true status PROMOTED a.0))
        by_promoted status e still (inr a) = by_aborted status e still (ends_if (value_at w.memory) (status == ABORTED) _ _ end a.1)

    pub went_see : (m2 : Mem (Node K V)) (end : Copier × Yielding (Node K V) Table) → Steps Took value_at w.memory (sees p) m2 end → CameTo at.Sees m2 end
    went_see m2 end s =
        let read = loaded w.memory (claim_read p) (at_word p.target CLAIM) m2 end s in
        by_claim read.0 (cc (read.1, claim_is same hash setting w c blocks map p t rests.0.2)) read.2 (ends_if (value_at w.memory) (nat_lt read.0 p.source.len) _ _ end read.3)
      where
        none_left_is : none_left p ≡ record p { spent = true; stands = at.Asks }
        none_left_is = rw rests.0.3 refl

        by_claim : (claim : ℕ) → claim ≡ c.claim t → m2 ≡ w.memory
            → ((nat_lt claim p.source.len ≡ true) × (end ≡ (standing p at.Claims, Goes))) ⊎ ((nat_lt claim p.source.len ≡ false) × (end ≡ (none_left p, Goes))) → CameTo at.Sees m2 end
        by_claim claim e still (inl a) =
            let below = ltb-true claim p.source.len a.0 in
            let length = len_is hash w.memory c blocks setting.root map.map.shows p.source c.first rests.0.0 in
            let most = (map.map.shows.sized c.first rests.0.0.made).most in
            goes at.Sees m2 end (standing p at.Claims) still a.1 facts.setting_is (t, rests, omega (arith, below, length, most, e)) (λ alone. alone)
        by_claim claim e still (inr a) =
            goes at.Sees m2 end (record p { spent = true; stands = at.Asks }) still (a.1 ∙ ap (λ (q : Copier). (q, Goes)) none_left_is) facts.setting_is (t, rests)
            (λ alone. (
              alone.0,
              alone.1,
              λ spent. subst (λ (u : ℕ). c.len c.first ≤ c.claim u) (sym target_turn)
                  (let past = ltb-false claim p.source.len a.0 in let length = len_is hash w.memory c blocks setting.root map.map.shows p.source c.first rests.0.0 in omega (arith, past, length, e)),
            ))

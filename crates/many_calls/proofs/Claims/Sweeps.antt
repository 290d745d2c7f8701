-- What one step of a walk, a clearing or a retaining does to claims, in blocking mode.
use Rattle.std.specs.Prelude.{cond}
use Rattle.std.proofs.Common.{◌≡◌, ℕ, Bool, true, false, inl, inr, refl, ap, sym, subst}
use Rattle.seize_model.specs.Given.SeizeWordsMem.{Mem, Can, Took, value_at}
use Rattle.seize_model.specs.Given.SeizeWordsPlan.{May, Steps}
use Rattle.seize_model.specs.Given.SeizeWorld.{World}
use Rattle.map_facts_late.specs.Given.TablesChunks.{is_incremental}
use Rattle.map_facts_late.specs.Given.TablesDeclared.node.Node.{Node}
use Rattle.map_facts_late.specs.Given.TablesDeclared.setting.Setting.{Setting}
use Rattle.map_facts_late.specs.Given.TablesDeclared.table.Table.{Table}
use Rattle.map_facts_late.specs.Given.ResizeCopier.{copier_plan}
use Rattle.map_facts_late.specs.Given.ResizeDeclared.copier.Copier.{Copier}
use Rattle.map_facts_late.specs.Given.ResizeDeclared.copier.Copying.TheVariants as copies
use Rattle.map_facts_late.specs.Given.ResizeDeclared.yielding.Yielding.{Yielding}
use Rattle.map_facts_late.specs.Given.ResizeDeclared.yielding.Yielding.TheVariants as outcome
use Rattle.map_facts_late.specs.Given.SweepsSweep.{copied, plan_at, sweep_plan}
use Rattle.map_facts_late.specs.Given.SweepsSweepPoints.{entering}
use Rattle.map_facts_late.specs.Given.ReservesDeclared.sweep.Sweep.{Sweep}
use Rattle.map_facts_late.specs.Given.ReservesDeclared.sweep.Sweeping.{Sweeping}
use Rattle.map_facts_late.specs.Given.ReservesDeclared.sweep.Sweeping.TheVariants as at
use Rattle.map_facts_late.specs.Given.ReservesDeclared.sweep.Swept.{Swept}
use Rattle.map_facts_late.specs.Given.RuleChart.{Chart}
use Rattle.map_facts_late.specs.Given.RuleInWorld.{IsMapIn, StepSpec}
use Rattle.map_facts_late.specs.Given.RuleWords.{Blocks}
use Rattle.map_facts_late.specs.Given.PointsFactsCopies.{CopierFacts}
use Rattle.map_facts_late.specs.Given.PointsFactsCopiesBlocking.{CopierFactsBlocking}
use Rattle.map_facts_late.specs.FactsReserves.{IsEnding}
use Rattle.map_facts_late.specs.FactsSweeps.{CopiesPairs, CopiesTable, SweepingFacts, SweepFacts}
use Rattle.map_facts_late.specs.ToldSweeps.{OnlyRemoves, IsRowOfSweep, IsAtPointThen}
use Rattle.map_facts_late.proofs.Swept.Sweeps.Stands.{quiet_entering}
use Rattle.many_calls.specs.Claims.{ClaimsBy}
use Rattle.many_calls.specs.OverAll.{SweepClaims}
use Rattle.many_calls.proofs.Claims.Copiers.{IsOther}
use Rattle.many_calls.proofs.Claims.Knows.{CopierKnows, fresh_knows, late_knows}
use Rattle.many_calls.proofs.Claims.Within as within
use Rattle.many_calls.proofs.Together.Few.{quiet_claims_none}

-- it claims where its copier does
to_claim : (stage : Sweeping) (t : ℕ) → SweepClaims t stage → (copier : Copier) × (stage ≡ at.Copies copier) × (copier.stands ≡ copies.Claims)
to_claim (at.Copies copier) t to = (copier, refl, to.0)
to_claim at.Reads t to = absurd to
to_claim at.Follows t to = absurd to
to_claim at.Ready t to = absurd to
to_claim at.Words t to = absurd to
to_claim (at.Asks word) t to = absurd to
to_claim (at.Tries word) t to = absurd to
to_claim (at.Counts removed) t to = absurd to
to_claim (at.Disposes dispose) t to = absurd to
to_claim at.Over t to = absurd to
to_claim (at.Refused fault) t to = absurd to

module _ {K V : Type 0} (p : Sweep) (t : ℕ) where
  -- if it is to claim, so is the copier within it
  inner_to : (end : Copier × Yielding (Node K V) Table) → SweepClaims t (copied p end).0.stands → (end.0.stands ≡ copies.Claims) × (end.0.target.turn ≡ t)
  inner_to (copier, outcome.Goes) to = to
  inner_to (copier, outcome.Waits) to = to
  inner_to (copier, outcome.Gave value) to = to
  inner_to (copier, outcome.Done root) to = absurd (quiet_claims_none (entering p root).stands (quiet_entering p root) t to)
  inner_to (copier, outcome.Refused fault) to = absurd to

module _ {K V : Type 0} (same : K → K → Bool) (hash : K → ℕ) (w : World (Node K V)) (caller : ℕ) (setting : Setting) (c : Chart K) (blocks : Blocks)
    (blocking : is_incremental setting.mode ≡ false) (map : IsMapIn same hash setting w c blocks) (began : ℕ) (p : Sweep)
    (facts : SweepFacts same hash w caller setting c blocks began p) (none : IsRowOfSweep p.stands → ⊥) where
  -- what its copier knows
  copier_knows : (copier : Copier) → p.stands ≡ at.Copies copier → CopierKnows w caller setting c blocks copier copier.stands × (copier.setting ≡ setting)
  copier_knows copier is = by (subst (SweepingFacts same hash w caller setting c blocks began p) is facts.point)
    where
      by : CopiesTable same hash w caller setting c blocks began copier → CopierKnows w caller setting c blocks copier copier.stands × (copier.setting ≡ setting)
      by (inl whole) =
          let f = subst (λ (b : Bool). cond b ((copier.whole ≡ true) × CopierFacts same hash w caller setting c blocks copier × IsEnding same hash w caller setting c blocks copier copier.stands)
          (CopierFactsBlocking same hash w caller setting c blocks copier)) blocking whole in
          (fresh_knows same hash w caller setting c blocks map copier copier.stands f.point (λ row. none (subst IsRowOfSweep (sym is) row)), f.setting_is)
      by (inr (late_mode, late)) = (late_knows same hash w caller setting c blocks map copier began copier.stands late.point (λ row. none (subst IsRowOfSweep (sym is) row)), late.setting_is)

  module _ (m2 : Mem (Node K V)) (Told : World (Node K V) → Chart K → Blocks → Type 0) (went : StepSpec same hash setting caller w c blocks m2 Told)
      (beside : (CopiesPairs p.stands → ⊥) → OnlyRemoves hash setting.mode c went.c2) (p2 : Sweep) (end : Swept (Node K V)) (then : IsAtPointThen p p2 end)
      (may : May Can Took value_at w.memory (sweep_plan hash p)) (steps : Steps Took value_at w.memory (sweep_plan hash p) m2 (p2, end)) where
    abbrev Claims : Type 0
    Claims = ClaimsBy c went.c2 (λ t. SweepClaims t p.stands) (λ t. SweepClaims t p2.stands)

    -- while it copies nothing
    aside : (CopiesPairs p.stands → ⊥) → Claims
    aside idle = record {
      grows = λ t made. inl (ap (λ (f : ℕ → ℕ). f t) (by (beside idle)));
      sees = λ t to. let h = to_claim p2.stands t to in absurd (then.begins idle h.0 h.1 h.2);
    }
      where
        by : OnlyRemoves hash setting.mode c went.c2 → went.c2.claim ≡ c.claim
        by (inl e) = ap (λ (x : Chart K). x.claim) e
        by (inr (t, place, e)) = ap (λ (x : Chart K). x.claim) e

    -- while it copies
    module _ (copier : Copier) (is : p.stands ≡ at.Copies copier) where
      outer : Steps Took value_at w.memory (plan_at hash p (at.Copies copier)) m2 (p2, end)
      outer = subst (λ (s : Sweeping). Steps Took value_at w.memory (plan_at hash p s) m2 (p2, end)) is steps

      may_outer : May Can Took value_at w.memory (plan_at hash p (at.Copies copier))
      may_outer = subst (λ (s : Sweeping). May Can Took value_at w.memory (plan_at hash p s)) is may

      knows : CopierKnows w caller setting c blocks copier copier.stands × (copier.setting ≡ setting)
      knows = copier_knows copier is

      abbrev inner : (e : Copier × Yielding (Node K V) Table) × Steps Took value_at w.memory (copier_plan hash copier) m2 e × ((p2, end) ≡ copied p e)
      inner = within.inner same hash w caller setting c blocks blocking map m2 Told went (copied p) copier knows.0 knows.1 (p2, end) may_outer outer

      claims_inner : (t : ℕ) → SweepClaims t p2.stands → (inner.0.0.stands ≡ copies.Claims) × (inner.0.0.target.turn ≡ t)
      claims_inner t to = inner_to p t inner.0 (subst (SweepClaims t) (ap (λ (x : Sweep × Swept (Node K V)). x.0.stands) inner.2) to)

      copying : Claims
      copying = record {
        grows = λ t made. elim (within.grows same hash w caller setting c blocks blocking map m2 Told went (copied p) copier knows.0 knows.1 (p2, end) may_outer outer t made) [
          | inl e ↦ inl e
          | inr (claims, turn, other, most) ↦ inr (subst (SweepClaims t) (sym is) (claims, turn), λ to. subst IsOther (claims_inner t to).0 other, most)
        ];
        sees = λ t to.
            let claims = claims_inner t to in
            within.sees same hash w caller setting c blocks blocking map m2 Told went (copied p) copier knows.0 knows.1 (p2, end) may_outer outer t claims.0 claims.1;
      }

    pub sweep_claims_by : ClaimsBy c went.c2 (λ t. SweepClaims t p.stands) (λ t. SweepClaims t p2.stands)
    sweep_claims_by = by p.stands refl
      where
        by : (stands : Sweeping) → p.stands ≡ stands → Claims
        by (at.Copies copier) is = copying copier is
        by at.Reads is = aside (λ now. subst CopiesPairs is now)
        by at.Follows is = aside (λ now. subst CopiesPairs is now)
        by at.Ready is = aside (λ now. subst CopiesPairs is now)
        by at.Words is = aside (λ now. subst CopiesPairs is now)
        by (at.Asks word) is = aside (λ now. subst CopiesPairs is now)
        by (at.Tries word) is = aside (λ now. subst CopiesPairs is now)
        by (at.Counts removed) is = aside (λ now. subst CopiesPairs is now)
        by (at.Disposes dispose) is = aside (λ now. subst CopiesPairs is now)
        by at.Over is = aside (λ now. subst CopiesPairs is now)
        by (at.Refused fault) is = aside (λ now. subst CopiesPairs is now)

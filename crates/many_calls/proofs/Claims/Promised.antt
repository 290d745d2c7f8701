-- What one step of a call does to claims, in blocking mode.
use Rattle.std.proofs.Common.{◌≡◌, ℕ, ◌+◌, ◌^◌, ◌<◌, ◌≤◌, Bool, false, ◌⊎◌, inl, inr, refl, ap, sym, subst}
use Rattle.seize_model.specs.Given.SeizeWordsMem.{Mem, Can, Took, value_at}
use Rattle.seize_model.specs.Given.SeizeWordsPlan.{May, Steps}
use Rattle.seize_model.specs.Given.SeizeWorld.{World}
use Rattle.map_facts_late.specs.Given.TablesChunks.{is_incremental}
use Rattle.map_facts_late.specs.Given.TablesDeclared.node.Node.{Node}
use Rattle.map_facts_late.specs.Given.TablesDeclared.setting.Setting.{Setting}
use Rattle.map_facts_late.specs.Given.TablesDeclared.table.Table.{Table}
use Rattle.map_facts_late.specs.Given.ResizeCopier.{copier_plan}
use Rattle.map_facts_late.specs.Given.ResizeDeclared.copier.Copier.{Copier}
use Rattle.map_facts_late.specs.Given.ResizeDeclared.copier.Copying.TheVariants as copies
use Rattle.map_facts_late.specs.Given.ResizeDeclared.yielding.Yielding.{Yielding}
use Rattle.map_facts_late.specs.Given.ResizeDeclared.yielding.Yielding.TheVariants as outcome
use Rattle.map_facts_late.specs.Given.RawCall.{copied, plan_at, call_plan}
use Rattle.map_facts_late.specs.Given.RawDeclared.machines.answer.Called.{Called}
use Rattle.map_facts_late.specs.Given.RawDeclared.machines.call.KeyCall.{KeyCall}
use Rattle.map_facts_late.specs.Given.RawDeclared.machines.call.Calling.{Calling}
use Rattle.map_facts_late.specs.Given.RawDeclared.machines.call.Calling.TheVariants as at
use Rattle.map_facts_late.specs.Given.RuleChart.{Chart}
use Rattle.map_facts_late.specs.Given.RuleInWorld.{IsMapIn, StepSpec}
use Rattle.map_facts_late.specs.Given.RuleWords.{Blocks}
use Rattle.map_facts_late.specs.Given.PointsFactsCalls.{IsCopying, Change, Unchanged, CallingFacts, CallFacts}
use Rattle.map_facts_late.specs.Given.PointsTold.{IsRowOfCall, MovedBesideCopying}
use Rattle.map_facts_late.specs.LateCalls.{SupersededCallFacts, SupersededCalling}
use Rattle.many_calls.specs.Claims.{IsToClaim, ClaimsBy}
use Rattle.many_calls.proofs.Claims.Within as within
use Rattle.many_calls.proofs.Claims.Charts.{claim_beside}
use Rattle.many_calls.proofs.Claims.Knows.{CopierKnows, fresh_knows, late_knows}
use Rattle.many_calls.proofs.Claims.Copiers.{IsOther}
use Rattle.many_calls.proofs.Claims.Calls.{IsOtherCall, call_other, copied_other, ending_other}

-- a call that goes on elsewhere is not to claim
not_to : (stands : Calling) (t : ℕ) → IsOtherCall stands → IsToClaim t stands → ⊥
not_to (at.Copies copier) t other to = subst IsOther to.0 other
not_to _ t other to = to

-- if it is, so is the copier within it
inner_to : {K V Q : Type 0} (p : KeyCall K V Q) (t : ℕ) (end : Copier × Yielding (Node K V) Table) → IsToClaim t (copied p end).0.stands → (end.0.stands ≡ copies.Claims) × (end.0.target.turn ≡ t)
inner_to p t (copier, outcome.Goes) to = to
inner_to p t (copier, outcome.Waits) to = to
inner_to p t (copier, outcome.Gave value) to = to
inner_to p t (copier, outcome.Done table) to = absurd to
inner_to p t (copier, outcome.Refused fault) to = absurd (not_to _ t (ending_other p _) to)

module _ {K V Q : Type 0} (same : K → K → Bool) (hash : K → ℕ) (asks : Q → K → Bool) (w : World (Node K V)) (caller : ℕ) (setting : Setting) (c : Chart K) (blocks : Blocks)
    (blocking : is_incremental setting.mode ≡ false) (map : IsMapIn same hash setting w c blocks) (keys : K → Bool) (began : ℕ) (change : Change) (p : KeyCall K V Q)
    (facts : CallFacts same hash asks w caller setting c blocks keys change p ⊎ ((change ≡ Unchanged) × SupersededCallFacts same hash asks w caller setting c blocks keys began p))
    (none : IsRowOfCall p.stands → ⊥) where
  -- what its copier knows
  copier_knows : (copier : Copier) → p.stands ≡ at.Copies copier → CopierKnows w caller setting c blocks copier copier.stands × (copier.setting ≡ setting)
  copier_knows copier is = by facts
    where
      by : CallFacts same hash asks w caller setting c blocks keys change p ⊎ ((change ≡ Unchanged) × SupersededCallFacts same hash asks w caller setting c blocks keys began p)
          → CopierKnows w caller setting c blocks copier copier.stands × (copier.setting ≡ setting)
      by (inl fresh) =
          let f = subst (CallingFacts same hash asks w caller setting c blocks keys change p) is fresh.point in
          (fresh_knows same hash w caller setting c blocks map copier copier.stands f.2.point (λ row. none (subst IsRowOfCall (sym is) row)), f.2.setting_is)
      by (inr (nothing, late)) =
          let f = subst (SupersededCalling same hash asks w caller setting c blocks keys began p) is late.point in
          (late_knows same hash w caller setting c blocks map copier began copier.stands f.1.point (λ row. none (subst IsRowOfCall (sym is) row)), f.1.setting_is)

  -- it helps with no copying
  no_help : (copier : Copier) (goal : Table) → p.stands ≡ at.Helps copier goal → ⊥
  no_help copier goal is = by facts
    where
      by : CallFacts same hash asks w caller setting c blocks keys change p ⊎ ((change ≡ Unchanged) × SupersededCallFacts same hash asks w caller setting c blocks keys began p) → ⊥
      by (inl fresh) = let f = subst (CallingFacts same hash asks w caller setting c blocks keys change p) is fresh.point in let mode = f.1 in cc (mode, blocking)
      by (inr (nothing, late)) = subst (SupersededCalling same hash asks w caller setting c blocks keys began p) is late.point

  module _ (m2 : Mem (Node K V)) (Told : World (Node K V) → Chart K → Blocks → Type 0) (went : StepSpec same hash setting caller w c blocks m2 Told)
      (beside : (IsCopying p.stands → ⊥) → MovedBesideCopying hash setting.mode c went.c2) (p2 : KeyCall K V Q) (progress : Called (Node K V))
      (may : May Can Took value_at w.memory (call_plan asks same hash p)) (steps : Steps Took value_at w.memory (call_plan asks same hash p) m2 (p2, progress)) where
    -- while it copies nothing
    aside : (IsCopying p.stands → ⊥) → ClaimsBy c went.c2 (λ t. IsToClaim t p.stands) (λ t. IsToClaim t p2.stands)
    aside idle = record {
      grows = λ t made. inl (ap (λ (f : ℕ → ℕ). f t) (claim_beside hash setting.mode c went.c2 (beside idle)));
      sees = λ t to. absurd (not_to p2.stands t (call_other asks same hash p w.memory m2 (p2, progress) idle steps) to);
    }

    -- while it copies
    module _ (copier : Copier) (is : p.stands ≡ at.Copies copier) where
      outer : Steps Took value_at w.memory (plan_at asks same hash p (at.Copies copier)) m2 (p2, progress)
      outer = subst (λ (s : Calling). Steps Took value_at w.memory (plan_at asks same hash p s) m2 (p2, progress)) is steps

      may_outer : May Can Took value_at w.memory (plan_at asks same hash p (at.Copies copier))
      may_outer = subst (λ (s : Calling). May Can Took value_at w.memory (plan_at asks same hash p s)) is may

      knows : CopierKnows w caller setting c blocks copier copier.stands × (copier.setting ≡ setting)
      knows = copier_knows copier is

      abbrev inner : (e : Copier × Yielding (Node K V) Table) × Steps Took value_at w.memory (copier_plan hash copier) m2 e × ((p2, progress) ≡ copied p e)
      inner = within.inner same hash w caller setting c blocks blocking map m2 Told went (copied p) copier knows.0 knows.1 (p2, progress) may_outer outer

      stands_is : p2.stands ≡ (copied p inner.0).0.stands
      stands_is = ap (λ (x : KeyCall K V Q × Called (Node K V)). x.0.stands) inner.2

      grows : (t : ℕ) → t < c.past → (went.c2.claim t ≡ c.claim t) ⊎ (IsToClaim t p.stands × (IsToClaim t p2.stands → ⊥) × (went.c2.claim t ≤ c.claim t + 4096))
      grows t made = elim (within.grows same hash w caller setting c blocks blocking map m2 Told went (copied p) copier knows.0 knows.1 (p2, progress) may_outer outer t made) [
        | inl e ↦ inl e
        | inr (claims, turn, other, most) ↦ inr (
          subst (IsToClaim t) (sym is) (claims, turn),
          λ to. not_to (copied p inner.0).0.stands t (copied_other p inner.0 other) (subst (IsToClaim t) stands_is to),
          most,
        )
      ]

      sees : (t : ℕ) → IsToClaim t p2.stands → went.c2.claim t < 2 ^ 48
      sees t to =
          let claims = inner_to p t inner.0 (subst (IsToClaim t) stands_is to) in
          within.sees same hash w caller setting c blocks blocking map m2 Told went (copied p) copier knows.0 knows.1 (p2, progress) may_outer outer t claims.0 claims.1

      copying : ClaimsBy c went.c2 (λ t. IsToClaim t p.stands) (λ t. IsToClaim t p2.stands)
      copying = record { grows = grows; sees = sees }

    pub claims_by : ClaimsBy c went.c2 (λ t. IsToClaim t p.stands) (λ t. IsToClaim t p2.stands)
    claims_by = by p.stands refl
      where
        by : (stands : Calling) → p.stands ≡ stands → ClaimsBy c went.c2 (λ t. IsToClaim t p.stands) (λ t. IsToClaim t p2.stands)
        by (at.Copies copier) is = copying copier is
        by (at.Helps copier goal) is = absurd (no_help copier goal is)
        by _ is = aside (λ copies_now. subst IsCopying is copies_now)

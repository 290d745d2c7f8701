-- The points at which a copier reads the status or the claim of its target, or has come to its end, once the root has left its source.
use Rattle.std.specs.Prelude.{nat_lt, if◌then◌else◌}
use Rattle.std.proofs.Common.{◌≡◌, ℕ, ◌<◌, ◌==◌, Bool, true, false, ◌⊎◌, inl, inr, refl, ap, sym, subst, ◌∙◌, arith}
use Rattle.std.proofs.lemmas.Bool.{cases_lt, eqb-true}
use Rattle.map_facts.specs.Given.SeizeWordsMem.{Mem, Took, value_at}
use Rattle.map_facts.specs.Given.SeizeWordsPlan.{Now, Steps, Ends}
use Rattle.map_facts.proofs.Given.SeizeWordsOneOwner.Operations.{loaded}
use Rattle.map_facts.proofs.Given.SeizeWordsPlans.{ends_if}
use Rattle.map_facts.specs.Given.SeizeWorld.{World}
use Rattle.map_facts.specs.Given.TablesTablePlaces.{at_word}
use Rattle.map_facts.specs.Given.TablesDeclared.node.Node.{Node}
use Rattle.map_facts.specs.Given.TablesDeclared.setting.Setting.{Setting}
use Rattle.map_facts.specs.Given.TablesDeclared.status.TheConstants.Status.{ABORTED, PROMOTED}
use Rattle.map_facts.specs.Given.TablesDeclared.table.Table.{Table}
use Rattle.map_facts.specs.Given.TablesDeclared.table_words.TheConstants.{CLAIM, STATUS}
use Rattle.map_facts.specs.Given.ResizeCopierClaims.{asks, sees, status_read, claim_read, to}
use Rattle.map_facts.specs.Given.ResizeCopierStates.{standing, none_left}
use Rattle.map_facts.specs.Given.ResizeDeclared.copier.Copier.{Copier}
use Rattle.map_facts.specs.Given.ResizeDeclared.copier.Copying.TheVariants as at
use Rattle.map_facts.specs.Given.ResizeDeclared.yielding.Yielding.{Yielding}
use Rattle.map_facts.specs.Given.ResizeDeclared.yielding.Yielding.TheVariants.{Goes, Waits, Done}
use Rattle.map_facts.specs.Given.RuleChart.{Chart}
use Rattle.map_facts.specs.Given.RuleInWorld.{IsMapIn}
use Rattle.map_facts.specs.Given.RuleMaps.{IsTable}
use Rattle.map_facts.specs.Given.RuleMoments.{Moments}
use Rattle.map_facts.specs.Given.RuleWords.{Blocks}
use Rattle.map_facts.proofs.Blocking.Targets.{status_is}
use Rattle.map_facts.specs.FactsCopiesBlocking.{HasNoShares}
use Rattle.map_facts_late.specs.Left.{Left}
use Rattle.map_facts_late.specs.LateCopies.{CopiesSuperseded, SupersededCopierFacts}
use Rattle.map_facts_late.specs.LateTold.{SupersededCopierAfter}
use Rattle.map_facts_late.proofs.Copiers.LateWent.{LateCame, late_still, late_goes, late_on}

module _ {K V : Type 0} (same : K → K → Bool) (hash : K → ℕ) (caller : ℕ) (setting : Setting) (began : ℕ) (w : World (Node K V)) (c : Chart K) (blocks : Blocks)
    (map : IsMapIn same hash setting w c blocks) (moments : Moments false c) (p : Copier)
    (facts : SupersededCopierFacts same hash w caller setting c blocks began p) where
  module _ (u t : ℕ) (late : CopiesSuperseded same hash w caller setting c blocks began p u t) where
    -- the same copier at another point
    on : (q : Copier) → q.source ≡ p.source → q.target ≡ p.target → q.whole ≡ p.whole → CopiesSuperseded same hash w caller setting c blocks began q u t
    on q source target whole = late_on same hash caller setting began w c blocks p q source target whole u t late

    -- the target is the root's, or was
    over_at : c.status t ≡ PROMOTED → SupersededCopierAfter same hash caller setting began w c blocks (standing p at.Over, Goes)
    over_at promoted =
        elim (cases_lt t c.first) as (λ _. SupersededCopierAfter same hash caller setting began w c blocks (standing p at.Over, Goes)) [
          | inl l ↦ inr (record { setting_is = facts.setting_is; point = (t, late.target, left l, late.idle) })
          | inr h ↦ inl (record {
            setting_is = facts.setting_is;
            point = (subst (λ (x : ℕ). IsTable c blocks p.target x) (let over = late.over in omega (arith, h, over)) late.target, late.idle);
          })
        ]
      where
        left : t < c.first → Left c began t
        left l = record {
          behind = l;
          was_root = λ e. absurd (omega (arith, e, promoted));
          since = (let since = late.left.since in let rise = moments.passed_rise u t late.order l in omega (arith, since, rise));
        }

    pub went_ask : (m2 : Mem (Node K V)) (end : Copier × Yielding (Node K V) Table) → Steps Took value_at w.memory (asks p) m2 end
        → LateCame same hash caller setting began w c blocks m2 end
    went_ask m2 end s =
        let read = loaded w.memory (status_read p) (at_word p.target STATUS) m2 end s in
        by_promoted read.0 (cc (read.1, status_is same hash setting w c blocks map p t late.target)) read.2 (ends_if (value_at w.memory) (read.0 == PROMOTED) _ _ end read.3)
      where
        by_spent : m2 ≡ w.memory → ((p.spent ≡ true) × (end ≡ (p, Waits))) ⊎ ((p.spent ≡ false) × (end ≡ (standing p at.Sees, Goes)))
            → LateCame same hash caller setting began w c blocks m2 end
        by_spent still (inl e) = late_still same hash caller setting began w c blocks map m2 end (p, Waits) still e.1 facts
        by_spent still (inr e) =
            late_goes same hash caller setting began w c blocks map m2 end (standing p at.Sees) still e.1 facts.setting_is
            (u, t, on (standing p at.Sees) refl refl refl)

        by_aborted : (status : ℕ) → status ≡ c.status t → m2 ≡ w.memory
            → ((((status == ABORTED) ≡ true) × (end ≡ (record p { spent = false; stands = at.Replaces }, Goes)))
            ⊎ (((status == ABORTED) ≡ false) × Ends (value_at w.memory) (if p.spent then Now (p, Waits) else to (standing p at.Sees)) end)) → LateCame same hash caller setting began w c blocks m2 end
        by_aborted status e still (inl a) =
            late_goes same hash caller setting began w c blocks map m2 end (record p { spent = false; stands = at.Replaces }) still a.1 facts.setting_is
            (u, t, (on (record p { spent = false; stands = at.Replaces }) refl refl refl, sym e ∙ eqb-true status ABORTED a.0))
        by_aborted status e still (inr a) = by_spent still (ends_if (value_at w.memory) p.spent _ _ end a.1)

        by_promoted : (status : ℕ) → status ≡ c.status t → m2 ≡ w.memory
            → (((status == PROMOTED) ≡ true) × (end ≡ (standing p at.Over, Goes))) ⊎ (((status == PROMOTED) ≡ false) × Ends (value_at w.memory) (if status == ABORTED then to (record p { spent = false; stands = at.Replaces }) else
            (if p.spent then Now (p, Waits) else to (standing p at.Sees))) end) → LateCame same hash caller setting began w c blocks m2 end
        by_promoted status e still (inl a) =
            late_still same hash caller setting began w c blocks map m2 end (standing p at.Over, Goes) still a.1
            (over_at (sym e ∙ eqb-true status PROMOTED a.0))
        by_promoted status e still (inr a) = by_aborted status e still (ends_if (value_at w.memory) (status == ABORTED) _ _ end a.1)

    pub went_see : (m2 : Mem (Node K V)) (end : Copier × Yielding (Node K V) Table) → Steps Took value_at w.memory (sees p) m2 end
        → LateCame same hash caller setting began w c blocks m2 end
    went_see m2 end s =
        let read = loaded w.memory (claim_read p) (at_word p.target CLAIM) m2 end s in
        by_claim read.0 read.2 (ends_if (value_at w.memory) (nat_lt read.0 p.source.len) _ _ end read.3)
      where
        none_left_is : none_left p ≡ record p { spent = true; stands = at.Asks }
        none_left_is = rw late.whole refl

        by_claim : (claim : ℕ) → m2 ≡ w.memory
            → ((nat_lt claim p.source.len ≡ true) × (end ≡ (standing p at.Claims, Goes))) ⊎ ((nat_lt claim p.source.len ≡ false) × (end ≡ (none_left p, Goes)))
            → LateCame same hash caller setting began w c blocks m2 end
        by_claim claim still (inl a) =
            late_goes same hash caller setting began w c blocks map m2 end (standing p at.Claims) still a.1 facts.setting_is
            (u, t, on (standing p at.Claims) refl refl refl)
        by_claim claim still (inr a) =
            late_goes same hash caller setting began w c blocks map m2 end (record p { spent = true; stands = at.Asks }) still
            (a.1 ∙ ap (λ (q : Copier). (q, Goes)) none_left_is)
            facts.setting_is (u, t, on (record p { spent = true; stands = at.Asks }) refl refl refl)

  -- it has come to its end
  pub went_over : (t : ℕ) → IsTable c blocks p.target t → Left c began t → HasNoShares same hash w caller setting c blocks
      → (m2 : Mem (Node K V)) (end : Copier × Yielding (Node K V) Table)
      → (m2 ≡ w.memory) × (end ≡ (p, Done p.target)) → LateCame same hash caller setting began w c blocks m2 end
  went_over t target left none m2 end steps =
      late_still same hash caller setting began w c blocks map m2 end (p, Done p.target) steps.0 steps.1 ((t, target, inr left), none)

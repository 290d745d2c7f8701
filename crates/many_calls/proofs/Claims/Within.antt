-- What a step of a machine that copies does to claims, in blocking mode: a claim grows by its copier alone, which then goes on elsewhere.
use Rattle.std.specs.Prelude.{Some}
use Rattle.std.proofs.Common.{◌≡◌, ℕ, ◌+◌, ◌^◌, ◌<◌, ◌≤◌, Bool, true, false, ◌⊎◌, inl, inr, refl, ap, sym, subst, ◌∙◌, arith}
use Rattle.seize_model.specs.Given.SeizeWordsMem.{Mem, Can, Took, value_at, word_at}
use Rattle.seize_model.specs.Given.SeizeWordsPlan.{May, Steps, plan_as}
use Rattle.seize_model.specs.Given.SeizeWordsDeclared.at.At.TheVariants.{Word}
use Rattle.seize_model.proofs.Given.SeizeRuleRows.Leaving.{steps_back}
use Rattle.seize_model.specs.Given.SeizeWorld.{World}
use Rattle.map_facts_late.specs.Given.TablesChunks.{is_incremental}
use Rattle.map_facts_late.specs.Given.TablesDeclared.node.Node.{Node}
use Rattle.map_facts_late.specs.Given.TablesDeclared.setting.Setting.{Setting}
use Rattle.map_facts_late.specs.Given.TablesDeclared.table.Table.{Table}
use Rattle.map_facts_late.specs.Given.TablesDeclared.table_words.TheConstants.{CLAIM}
use Rattle.map_facts_late.specs.Given.ResizeCopier.{copier_plan}
use Rattle.map_facts_late.specs.Given.ResizeDeclared.copier.Copier.{Copier}
use Rattle.map_facts_late.specs.Given.ResizeDeclared.copier.Copying.TheVariants as copies
use Rattle.map_facts_late.specs.Given.ResizeDeclared.yielding.Yielding.{Yielding}
use Rattle.map_facts_late.specs.Given.RuleChart.{Chart}
use Rattle.map_facts_late.specs.Given.RuleInWorld.{IsMapIn, StepSpec}
use Rattle.map_facts_late.specs.Given.RuleWords.{Blocks}
use Rattle.map_facts_late.proofs.Given.RuleSpared.{PlanSpares, spares_as, step_spares}
use Rattle.many_calls.proofs.Claims.Charts.{past_moved}
use Rattle.many_calls.proofs.Claims.Knows.{CopierKnows}
use Rattle.many_calls.proofs.Claims.Copiers.{IsOther, copier_other}
use Rattle.many_calls.proofs.Claims.Grows.{claim_grows}
use Rattle.many_calls.proofs.Claims.Sees.{HasSeen, sees_few}

module _ {K V : Type 0} (same : K → K → Bool) (hash : K → ℕ) (w : World (Node K V)) (caller : ℕ) (setting : Setting) (c : Chart K) (blocks : Blocks)
    (blocking : is_incremental setting.mode ≡ false) (map : IsMapIn same hash setting w c blocks)
    (m2 : Mem (Node K V)) (Told : World (Node K V) → Chart K → Blocks → Type 0) (went : StepSpec same hash setting caller w c blocks m2 Told) where
  -- the claim of a table that can be looked at, as it is shown afterwards
  shown : (t : ℕ) → t < c.past → blocks.table_known t ≡ true → word_at m2 (Word (blocks.table t) CLAIM) ≡ Some (went.c2.claim t)
  shown t made known =
      let same_block = went.blocks_same.tables t made known in
      subst (λ (m : Mem (Node K V)). word_at m (Word (blocks.table t) CLAIM) ≡ Some (went.c2.claim t)) went.memory
      (subst (λ (b : ℕ). word_at went.w2.memory (Word b CLAIM) ≡ Some (went.c2.claim t)) same_block.0 (went.map.map.shows.tables t later same_block.1).claim)
    where
      later : t < went.c2.past
      later = let past = past_moved hash setting.mode c went.c2 same caller went.moved in omega (arith, made, past)

  -- the machine, whose steps are those of its copier
  module _ {R : Type 0} (wrap : Copier × Yielding (Node K V) Table → R) (copier : Copier) (knows : CopierKnows w caller setting c blocks copier copier.stands) (setting_is : copier.setting ≡ setting)
      (end : R) (may : May Can Took value_at w.memory (plan_as wrap (copier_plan hash copier))) (steps : Steps Took value_at w.memory (plan_as wrap (copier_plan hash copier)) m2 end) where
    pub inner : (e : Copier × Yielding (Node K V) Table) × Steps Took value_at w.memory (copier_plan hash copier) m2 e × (end ≡ wrap e)
    inner = steps_back wrap w.memory m2 (copier_plan hash copier) end steps

    copier_blocking : is_incremental copier.setting.mode ≡ false
    copier_blocking = ap (λ (s : Setting). is_incremental s.mode) setting_is ∙ blocking

    abbrev pub Grown : ℕ → Type 0
    Grown t = (went.c2.claim t ≡ c.claim t) ⊎ ((copier.stands ≡ copies.Claims) × (copier.target.turn ≡ t) × IsOther inner.0.0.stands × (went.c2.claim t ≤ c.claim t + 4096))

    grows_known : (t : ℕ) → t < c.past → blocks.table_known t ≡ true → Grown t
    grows_known t made known = by (claim_grows same hash w caller setting c blocks map copier knows copier_blocking m2 inner.0 inner.1 t made known kept (went.c2.claim t) (shown t made known))
      where
        kept : PlanSpares (Word (blocks.table t) CLAIM) (copier_plan {V = V} hash copier) → word_at m2 (Word (blocks.table t) CLAIM) ≡ Some (c.claim t)
        kept spares =
            step_spares (Word (blocks.table t) CLAIM) tt w.memory (c.claim t) (map.map.shows.tables t made known).claim (plan_as wrap (copier_plan hash copier)) m2 end
            (spares_as (Word (blocks.table t) CLAIM) wrap (copier_plan hash copier) spares) may steps

        by : (went.c2.claim t ≡ c.claim t) ⊎ ((copier.stands ≡ copies.Claims) × (copier.target.turn ≡ t) × (went.c2.claim t ≤ c.claim t + 4096)) → Grown t
        by (inl same_claim) = inl same_claim
        by (inr (claims, turn, most)) = inr (claims, turn, copier_other K V hash copier w caller setting c blocks w.memory m2 inner.0 knows (λ sees. absurd (cc (sees, claims))) inner.1, most)

    pub grows : (t : ℕ) → t < c.past → Grown t
    grows t made = by (blocks.table_known t) refl
      where
        by : (b : Bool) → blocks.table_known t ≡ b → Grown t
        by true known = grows_known t made known
        by false unknown = inl (went.tables t made (λ known. absurd (cc (known, unknown)))).2

    pub sees : (t : ℕ) → inner.0.0.stands ≡ copies.Claims → inner.0.0.target.turn ≡ t → went.c2.claim t < 2 ^ 48
    sees t claims turn = subst (λ (n : ℕ). went.c2.claim n < 2 ^ 48) (sym seen.target ∙ turn) (subst (λ (n : ℕ). n < 2 ^ 48) claim_is seen.few)
      where
        seen : HasSeen same hash w caller setting c blocks map copier knows m2 inner.0 inner.1
        seen = sees_few same hash w caller setting c blocks map copier knows m2 inner.0 inner.1 claims

        claim_is : seen.claim ≡ went.c2.claim seen.turn
        claim_is = let there = seen.shown in let now = shown seen.turn seen.made seen.known in cc (there, now)

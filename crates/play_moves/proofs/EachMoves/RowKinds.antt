-- Of which kind the effects of a step of a row on a slot are: none where a section begins or ends, asking for buckets where somebody registers, and reclaiming elsewhere.
use Rattle.std.specs.Prelude.{◌≡◌, ◌==◌, ℕ, true, false, List, [], if◌then◌else◌}
use Rattle.std.specs.List.{list_all}
use Rattle.std.proofs.Common.{refl, ap, sym, subst, ◌∙◌}
use Rattle.run_schedules.specs.Given.SeizeWordsDeclared.at.At.TheVariants.{Slot}
use Rattle.run_schedules.specs.Given.SeizeWordsMem.{Mem}
use Rattle.run_schedules.specs.Given.SeizeWordsOp.{Out, Swap, Found}
use Rattle.run_legal.specs.Given.SeizeLeave as leave
use Rattle.run_legal.specs.Given.SeizeRegister as register
use Rattle.run_legal.specs.Given.SeizeSettle as settle
use Rattle.seize_acts.specs.Given.SeizeDeclared.advance.Advance.{Advance}
use Rattle.seize_acts.specs.Given.SeizeDeclared.rows.leave.Leave.{Leave}
use Rattle.seize_acts.specs.Given.SeizeDeclared.rows.leave.Leaving.{Leaving}
use Rattle.seize_acts.specs.Given.SeizeDeclared.rows.leave.Leaving.TheVariants as leaving
use Rattle.seize_acts.specs.Given.SeizeDeclared.rows.register.Register.{Register}
use Rattle.seize_acts.specs.Given.SeizeDeclared.rows.register.Registering.{Registering}
use Rattle.seize_acts.specs.Given.SeizeDeclared.rows.register.Registering.TheVariants as registering
use Rattle.seize_acts.specs.Given.SeizeDeclared.rows.settle.Settle.{Settle}
use Rattle.seize_acts.specs.Given.SeizeDeclared.rows.settle.Settled.{Settled}
use Rattle.seize_acts.specs.Given.SeizeDeclared.rows.settle.Settling.{Settling}
use Rattle.seize_acts.specs.Given.SeizeDeclared.rows.settle.Settling.TheVariants as settling
use Rattle.seize_acts.specs.Given.SeizeDeclared.states.TheConstants.{ACTIVE}
use Rattle.run_legal.specs.Given.TablesNodes.{deferred_word}
use Rattle.run_legal.specs.Given.TablesDeclared.node.Node.{Node}
use Rattle.run_legal.specs.Given.TellsSeen.{seen_of}
use Rattle.run_legal.specs.Given.TellerTells.{StepsObserved, observed_of}
use Rattle.run_legal.specs.Given.EffectsDeclared.changed.Changed.{Changed}
use Rattle.run_legal.specs.Given.EffectsDeclared.changed.Changed.TheVariants as changed
use Rattle.run_schedules.specs.declared.effect.Effect.{Effect}
use Rattle.run_schedules.specs.Schedules.Handing.{asks_for_bucket, is_reclaiming}
use Rattle.run_legal.specs.Given.EffectsEffects.{effects_of}
use Rattle.run_legal.specs.Given.EffectsKnown.{Known}
use Rattle.run_legal.specs.Given.EffectsDeclared.acting.Acting.TheVariants as acts
use Rattle.run_legal.specs.Given.ScenesOnSlots.{RowSteps}
use Rattle.run_legal.specs.Given.ScenesDeclared.row.RowTold.{RowTold}
use Rattle.run_legal.specs.Given.ScenesDeclared.row.SlotRow.{SlotRow}
use Rattle.run_legal.specs.Given.ScenesDeclared.row.SlotRow.TheVariants as rows
use Rattle.run_legal.proofs.Given.NeedsSteps.{IsNoOwn, IsTaking, Tells, asks_alone, does_nothing, enters_tell, flushes_tell, frees_tell, leaves_tell, reclaims_alone, registers_tell}
use Rattle.run_schedules.specs.Deeds.Deeds.{Leaves, Opens, Registers, Shuts, Tends}
use Rattle.run_schedules.specs.Deeds.History.{may_do}
use Rattle.play_linear.specs.Given.PlayedPlay.{leaves_as, registers_as, row_deed}
use Rattle.play_moves.proofs.EachMoves.Parts.{all_also, none_may}

module _ {K V : Type 0} (m m2 : Mem (Node K V)) (told : Changed) (after : SlotRow × RowTold (Node K V)) (known : Known) where
  abbrev effects : List Effect
  effects = effects_of acts.Row known told

  -- Where a section begins or ends nothing is done:
  swaps_quietly : (slot field word : ℕ) (out : Out (Node K V)) → effects_of acts.Row known (observed_of (Swap (Slot slot field) word) out (seen_of m (Swap (Slot slot field) word) out)) ≡ []
  swaps_quietly slot field word (Found before) = refl
  swaps_quietly slot field word _ = refl

  pub enters_quietly : (c : Register) → RowSteps K V (rows.Registers c) m m2 told after → c.stands ≡ registering.Enter → effects ≡ []
  enters_quietly c s is =
      let it = subst (λ (p : Registering). StepsObserved K V (Register × Advance ℕ) m changed.Nothing (register.plan_at c p) m2 told s.0) is s.1 in ap (effects_of acts.Row known) it.1.1

  leaves_at : (c : Leave) (s : RowSteps K V (rows.Leaves c) m m2 told after) (p : Leaving) → c.stands ≡ p
      → StepsObserved K V (Leave × Settled (Node K V)) m changed.Nothing (leave.plan_at deferred_word c p) m2 told s.0
  leaves_at c s p is = subst (λ (q : Leaving). StepsObserved K V (Leave × Settled (Node K V)) m changed.Nothing (leave.plan_at deferred_word c q) m2 told s.0) is s.1

  pub ends_quietly : (c : Leave) → RowSteps K V (rows.Leaves c) m m2 told after → c.stands ≡ leaving.Swaps → effects ≡ []
  ends_quietly c s is = let it = leaves_at c s leaving.Swaps is in ap (effects_of acts.Row known) it.1.1 ∙ swaps_quietly c.slot _ c.becomes it.0

  pub left_quietly : (c : Leave) → RowSteps K V (rows.Leaves c) m m2 told after → c.stands ≡ leaving.Over → effects ≡ []
  left_quietly c s is = ap (effects_of acts.Row known) (leaves_at c s leaving.Over is).2

  -- who registers asks for buckets,
  registers_may : (c : Register) → RowSteps K V (rows.Registers c) m m2 told after → (p : Registering) → c.stands ≡ p → list_all (may_do {K = K} {V = V} (registers_as p c.slot)) effects ≡ true
  registers_may c s p is = by p is (all_also asks_for_bucket (may_do {K = K} {V = V} (Registers c.slot)) (λ f is. is) effects (asks_alone known told (registers_tell m m2 told after c s)))
    where
      by : (p : Registering) → c.stands ≡ p → list_all (may_do {K = K} {V = V} (Registers c.slot)) effects ≡ true → list_all (may_do {K = K} {V = V} (registers_as p c.slot)) effects ≡ true
      by registering.Enter is may = none_may {K = K} {V = V} (Opens c.slot) effects (enters_quietly c s is)
      by _ is may = may

  -- and what is taken away was no one's own: it is reclaimed.
  module _ (own : (b : ℕ) → told ≡ changed.Took b → IsNoOwn (known.roles b)) where
    pub leaves_reclaim : (c : Leave) → RowSteps K V (rows.Leaves c) m m2 told after → list_all is_reclaiming effects ≡ true
    leaves_reclaim c s = reclaims_alone known told (leaves_tell m m2 told after c s) own

    leaves_may : (c : Leave) → RowSteps K V (rows.Leaves c) m m2 told after → (p : Leaving) → c.stands ≡ p → list_all (may_do {K = K} {V = V} (leaves_as c p)) effects ≡ true
    leaves_may c s p is =
        by p is (all_also is_reclaiming (may_do {K = K} {V = V} (Leaves c.slot)) (λ f is. is) effects (leaves_reclaim c s))
      where
        by : (p : Leaving) → c.stands ≡ p → list_all (may_do {K = K} {V = V} (Leaves c.slot)) effects ≡ true → list_all (may_do {K = K} {V = V} (leaves_as c p)) effects ≡ true
        by leaving.Swaps is may = none_may {K = K} {V = V} (Shuts c.slot) effects (ends_quietly c s is)
        by leaving.Over is may = none_may {K = K} {V = V} (if c.becomes == ACTIVE then Opens c.slot else Leaves c.slot) effects (left_quietly c s is)
        by _ is may = may

    pub flushes_reclaim : (c : Settle) → RowSteps K V (rows.Flushes c) m m2 told after → (p : Settling) → c.stands ≡ p → list_all is_reclaiming effects ≡ true
    flushes_reclaim c s (settling.Takes next) is =
        let it = subst (λ (q : Settling). StepsObserved K V (Settle × Settled (Node K V)) m changed.Nothing (settle.plan_at deferred_word c q) m2 told s.0) is s.1 in
        reclaims_alone known told (subst (Tells true false) (sym it.1.1) refl) own
    flushes_reclaim c s _ is = ap (list_all is_reclaiming) (does_nothing known told (flushes_tell m m2 told after c (λ takes. subst IsTaking is takes) s))

    pub row_may : (row : SlotRow) → RowSteps K V row m m2 told after → list_all (may_do {K = K} {V = V} (row_deed row)) effects ≡ true
    row_may (rows.Registers c) s = registers_may c s c.stands refl
    row_may (rows.Enters c) s = none_may {K = K} {V = V} (Opens c.slot) effects (does_nothing known told (enters_tell m m2 told after c s))
    row_may (rows.Leaves c) s = leaves_may c s c.stands refl
    row_may (rows.Flushes c) s = all_also is_reclaiming (may_do {K = K} {V = V} (Tends c.slot)) (λ f is. is) effects (flushes_reclaim c s c.stands refl)
    row_may (rows.Frees c) s = none_may {K = K} {V = V} (Tends c.slot) effects (does_nothing known told (frees_tell m m2 told after c s))

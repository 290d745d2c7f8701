-- A step by which a call on one key waits changes nothing: it was a load, at a try, of how a copying stands, or of the batch of its slot.
use Rattle.std.proofs.Common.{◌≡◌, ℕ, Bool, refl, sym, ap, subst, ◌∙◌}
use Rattle.run_schedules.specs.Given.SeizeWordsMem.{Mem}
use Rattle.papaya_raw.specs.Given.SeizeDefer.{defer_plan}
use Rattle.papaya_raw.specs.Given.SeizeSettle.{settle_plan}
use Rattle.papaya_raw.specs.Given.SeizeSettle as settles
use Rattle.papaya_raw.specs.Given.SeizeDeclared.advance.Advance.{Advance as Counted}
use Rattle.papaya_raw.specs.Given.SeizeDeclared.advance.Advance.TheVariants as counts
use Rattle.papaya_raw.specs.Given.SeizeDeclared.rows.defer.Defer.{Defer}
use Rattle.papaya_raw.specs.Given.SeizeDeclared.rows.settle.Settle.{Settle}
use Rattle.papaya_raw.specs.Given.SeizeDeclared.rows.settle.Settled.{Settled}
use Rattle.papaya_raw.specs.Given.SeizeDeclared.rows.settle.Settled.TheVariants as settled
use Rattle.papaya_raw.specs.Given.SeizeDeclared.rows.settle.Settling.{Settling}
use Rattle.papaya_raw.specs.Given.SeizeDeclared.rows.settle.Settling.TheVariants as settling
use Rattle.run_finds.proofs.Given.SeizeEndsBatches.Held.{waits_held}
use Rattle.run_finds.proofs.Given.SeizeActsWaits.{deferring_never_waits}
use Rattle.papaya_raw.specs.Given.TablesNodes.{deferred_word}
use Rattle.papaya_raw.specs.Given.TablesDeclared.node.Node.{Node}
use Rattle.papaya_raw.specs.Given.TablesDeclared.table.Table.{Table}
use Rattle.papaya_raw.specs.Given.ResizeCopier.{copier_plan}
use Rattle.papaya_raw.specs.Given.ResizeCopier as copiers
use Rattle.papaya_raw.specs.Given.ResizeCopierPromotes.{retired}
use Rattle.papaya_raw.specs.Given.ResizeDispose.{dispose_plan}
use Rattle.papaya_raw.specs.Given.ResizeDispose as disposes
use Rattle.run_finds.specs.Given.ResizeDeclared.copier.Copier.{Copier}
use Rattle.run_finds.specs.Given.ResizeDeclared.copier.Copying.{Copying}
use Rattle.run_finds.specs.Given.ResizeDeclared.copier.Copying.TheVariants as copies
use Rattle.run_finds.specs.Given.ResizeDeclared.dispose.Dispose.{Dispose}
use Rattle.run_finds.specs.Given.ResizeDeclared.dispose.Disposing.{Disposing}
use Rattle.run_finds.specs.Given.ResizeDeclared.dispose.Disposing.TheVariants as disposing
use Rattle.run_finds.specs.Given.ResizeDeclared.yielding.Yielding.{Yielding}
use Rattle.run_finds.specs.Given.ResizeDeclared.yielding.Yielding.TheVariants as outcome
use Rattle.papaya_raw.specs.Call as calls
use Rattle.papaya_raw.specs.CallPoints.{ending}
use Rattle.papaya_raw.specs.declared.machines.answer.Called.{Called}
use Rattle.papaya_raw.specs.declared.machines.answer.Called.TheVariants as says
use Rattle.papaya_raw.specs.declared.machines.answer.End.{End}
use Rattle.papaya_raw.specs.declared.machines.answer.End.TheVariants as ends
use Rattle.papaya_raw.specs.declared.machines.answer.KeyAnswer.{KeyAnswer}
use Rattle.papaya_raw.specs.declared.machines.call.Calling.{Calling}
use Rattle.papaya_raw.specs.declared.machines.call.Calling.TheVariants as at
use Rattle.papaya_raw.specs.declared.machines.call.KeyCall.{KeyCall}
use Rattle.run_finds.specs.Given.PointsTold.{IsRowOf, IsRowOfCall, IsRowOfCopier}
use Rattle.run_finds.specs.Given.EffectsDeclared.changed.Changed.{Changed}
use Rattle.run_finds.specs.Given.EffectsDeclared.changed.Changed.TheVariants as changed
use Rattle.run_finds.proofs.Given.OthersOutcomes.{told_in}
use Rattle.run_kept.proofs.Given.WaitsCallPlans.{Continues, ending_goes}
use Rattle.run_kept.proofs.Given.OwesTables.Hosts.{Step}
use Rattle.run_finds.proofs.Given.ScenesTold.{as_step}

module _ {K V : Type 0} (m m2 : Mem (Node K V)) (told : Changed) where
  -- a row that settles waits where it has read the batch of its slot
  settle_quiet : (settle : Settle) (to : Settle × Settled (Node K V)) → Step m m2 told (settle_plan deferred_word settle) to → to.1 ≡ settled.Waits → told ≡ changed.Nothing
  settle_quiet settle (next, settled.Waits) s e =
      sees (subst (λ (p : Settling). Step m m2 told (settles.plan_at deferred_word settle p) (next, settled.Waits))
      (waits_held deferred_word m m2 settle next settle.stands (as_step m changed.Nothing (settle_plan deferred_word settle) m2 told (next, settled.Waits) s)).1 s)
    where
      sees : Step m m2 told (settles.plan_at deferred_word settle settling.Sees) (next, settled.Waits) → told ≡ changed.Nothing
      sees t = t.1.1
  settle_quiet settle (next, settled.Goes) s e = absurd (cc e)
  settle_quiet settle (next, settled.Gave value) s e = absurd (cc e)
  settle_quiet settle (next, settled.Done) s e = absurd (cc e)

  -- so does a disposal: what defers a block never waits
  module _ (d : Dispose) where
    by_settle : (settle : Settle) (to : Settle × Settled (Node K V)) → Step m m2 told (settle_plan deferred_word settle) to → (disposes.settled {T = Node K V} d to).1 ≡ settled.Waits
        → told ≡ changed.Nothing
    by_settle settle (next, settled.Waits) s e = settle_quiet settle (next, settled.Waits) s refl
    by_settle settle (next, settled.Goes) s e = absurd (cc e)
    by_settle settle (next, settled.Gave value) s e = absurd (cc e)
    by_settle settle (next, settled.Done) s e = absurd (cc e)

    by_defer : (defer : Defer) (to : Defer × Counted Unit) → Step m m2 told (defer_plan defer) to → (disposes.deferred {T = Node K V} d to).1 ≡ settled.Waits → told ≡ changed.Nothing
    by_defer defer (next, counts.Waits) s e = absurd (deferring_never_waits deferred_word defer next m m2 (as_step m changed.Nothing (defer_plan defer) m2 told (next, counts.Waits) s))
    by_defer defer (next, counts.Goes) s e = absurd (cc e)
    by_defer defer (next, counts.Done end) s e = absurd (cc e)
    by_defer defer (next, counts.Refused fault) s e = absurd (cc e)

    pub dispose_quiet : (stands : Disposing) → IsRowOf stands → (to : Dispose × Settled (Node K V)) → Step m m2 told (disposes.plan_at d stands) to → to.1 ≡ settled.Waits → told ≡ changed.Nothing
    dispose_quiet (disposing.Settles settle) row to s e =
        let it = told_in m m2 told (disposes.settled d) (settle_plan deferred_word settle) to s in
        by_settle settle it.0 it.2 (ap (λ (x : Dispose × Settled (Node K V)). x.1) (sym it.1) ∙ e)
    dispose_quiet (disposing.Defers defer) row to s e =
        let it = told_in m m2 told (disposes.deferred d) (defer_plan defer) to s in
        by_defer defer it.0 it.2 (ap (λ (x : Dispose × Settled (Node K V)). x.1) (sym it.1) ∙ e)
    dispose_quiet _ row to s e = absurd row

  -- and a copier that retires a table
  module _ (hash : K → ℕ) (p : Copier) where
    by_retired : (settle : Settle) (rest : ℕ) (to : Settle × Settled (Node K V)) → Step m m2 told (settle_plan deferred_word settle) to → (retired p rest to).1 ≡ outcome.Waits → told ≡ changed.Nothing
    by_retired settle rest (next, settled.Waits) s e = settle_quiet settle (next, settled.Waits) s refl
    by_retired settle rest (next, settled.Goes) s e = absurd (cc e)
    by_retired settle rest (next, settled.Gave value) s e = absurd (cc e)
    by_retired settle rest (next, settled.Done) s e = absurd (cc e)

    pub copier_quiet : (stands : Copying) → IsRowOfCopier stands → (to : Copier × Yielding (Node K V) Table) → Step m m2 told (copiers.plan_at hash p stands) to → to.1 ≡ outcome.Waits → told ≡ changed.Nothing
    copier_quiet (copies.Retires settle rest) row to s e =
        let it = told_in m m2 told (retired p rest) (settle_plan deferred_word settle) to s in
        by_retired settle rest it.0 it.2 (ap (λ (x : Copier × Yielding (Node K V) Table). x.1) (sym it.1) ∙ e)
    copier_quiet _ row to s e = absurd row

  -- a call on one key, at a row within it
  module _ (asks : K → K → Bool) (same : K → K → Bool) (hash : K → ℕ) (p : KeyCall K V K) where
    continues : (x : KeyCall K V K × Called (Node K V)) → Continues x → x.1 ≡ says.Waits → ⊥
    continues (q, says.Waits) on e = on
    continues (q, says.Goes) on e = cc e
    continues (q, says.Gave value) on e = cc e
    continues (q, says.Unstored value) on e = cc e
    continues (q, says.Asks about) on e = cc e
    continues (q, says.Done answer) on e = cc e
    continues (q, says.Refused fault) on e = cc e

    not_ending : (end : End) → (ending {V = V} p end).1 ≡ says.Waits → ⊥
    not_ending end e = continues (ending p end) (ending_goes p end) e

    by_dispose : (dispose : Dispose) (answer : KeyAnswer) → IsRowOf dispose.stands → (to : Dispose × Settled (Node K V)) → Step m m2 told (dispose_plan dispose) to
        → (calls.disposed p answer to).1 ≡ says.Waits → told ≡ changed.Nothing
    by_dispose dispose answer row (next, settled.Waits) s e = dispose_quiet dispose dispose.stands row (next, settled.Waits) s refl
    by_dispose dispose answer row (next, settled.Goes) s e = absurd (cc e)
    by_dispose dispose answer row (next, settled.Gave value) s e = absurd (cc e)
    by_dispose dispose answer row (next, settled.Done) s e = absurd (cc e)

    by_help : (copier : Copier) (goal : Table) → IsRowOfCopier copier.stands → (to : Copier × Yielding (Node K V) Table) → Step m m2 told (copier_plan hash copier) to
        → (calls.helped p goal to).1 ≡ says.Waits → told ≡ changed.Nothing
    by_help copier goal row (next, outcome.Waits) s e = copier_quiet hash copier copier.stands row (next, outcome.Waits) s refl
    by_help copier goal row (next, outcome.Goes) s e = absurd (cc e)
    by_help copier goal row (next, outcome.Gave value) s e = absurd (cc e)
    by_help copier goal row (next, outcome.Done table) s e = absurd (cc e)
    by_help copier goal row (next, outcome.Refused fault) s e = absurd (not_ending (ends.Refused fault) e)

    by_copy : (copier : Copier) → IsRowOfCopier copier.stands → (to : Copier × Yielding (Node K V) Table) → Step m m2 told (copier_plan hash copier) to
        → (calls.copied p to).1 ≡ says.Waits → told ≡ changed.Nothing
    by_copy copier row (next, outcome.Waits) s e = copier_quiet hash copier copier.stands row (next, outcome.Waits) s refl
    by_copy copier row (next, outcome.Goes) s e = absurd (cc e)
    by_copy copier row (next, outcome.Gave value) s e = absurd (cc e)
    by_copy copier row (next, outcome.Done table) s e = absurd (cc e)
    by_copy copier row (next, outcome.Refused fault) s e = absurd (not_ending (ends.Refused fault) e)

    pub row_quiet : (stands : Calling) → IsRowOfCall stands → (to : KeyCall K V K × Called (Node K V)) → Step m m2 told (calls.plan_at asks same hash p stands) to → to.1 ≡ says.Waits
        → told ≡ changed.Nothing
    row_quiet (at.Disposes dispose answer) row to s e =
        let it = told_in m m2 told (calls.disposed p answer) (dispose_plan dispose) to s in
        by_dispose dispose answer row it.0 it.2 (ap (λ (x : KeyCall K V K × Called (Node K V)). x.1) (sym it.1) ∙ e)
    row_quiet (at.Helps copier goal) row to s e =
        let it = told_in m m2 told (calls.helped p goal) (copier_plan hash copier) to s in
        by_help copier goal row it.0 it.2 (ap (λ (x : KeyCall K V K × Called (Node K V)). x.1) (sym it.1) ∙ e)
    row_quiet (at.Copies copier) row to s e =
        let it = told_in m m2 told (calls.copied p) (copier_plan hash copier) to s in
        by_copy copier row it.0 it.2 (ap (λ (x : KeyCall K V K × Called (Node K V)). x.1) (sym it.1) ∙ e)
    row_quiet _ row to s e = absurd row

    -- and at its try, where it has read a word
    pub try_quiet : (to : KeyCall K V K × Called (Node K V)) → Step m m2 told (calls.plan_at asks same hash p at.Probes) to → told ≡ changed.Nothing
    try_quiet to s = s.1.1

    -- or where it has read how a copying of a whole table stands
    pub asked_quiet : (copier : Copier) → copier.stands ≡ copies.Asks → (to : KeyCall K V K × Called (Node K V)) → Step m m2 told (calls.plan_at asks same hash p (at.Copies copier)) to
        → told ≡ changed.Nothing
    asked_quiet copier here to s =
        let it = told_in m m2 told (calls.copied p) (copier_plan hash copier) to s in
        read it.0 (subst (λ (q : Copying). Step m m2 told (copiers.plan_at hash copier q) it.0) here it.2)
      where
        read : (end : Copier × Yielding (Node K V) Table) → Step m m2 told (copiers.plan_at hash copier copies.Asks) end → told ≡ changed.Nothing
        read end t = t.1.1

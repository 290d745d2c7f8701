-- A step by which a reservation or a sweep waits: it was a load, or it has marked a place of a table, whose word names the same then. So it has no effect.
use Rattle.std.specs.Prelude.{◌%◌, ◌+◌, ◌^◌, bit_or, []}
use Rattle.std.proofs.Common.{◌≡◌, ℕ, ◌⊎◌, inl, inr, Bool, true, refl, sym, ap, subst, ◌∙◌, arith}
use Rattle.std.proofs.lemmas.Bool.{eq-eqb}
use Rattle.run_schedules.specs.Given.SeizeWordsDeclared.at.At.TheVariants.{Word}
use Rattle.run_schedules.specs.Given.SeizeWordsMem.{Mem}
use Rattle.run_schedules.specs.Given.SeizeWordsOp.{Found}
use Rattle.run_schedules.specs.Given.SeizeWordsWord.{block_in}
use Rattle.papaya_raw.specs.Given.SeizeDeclared.rows.settle.Settled.{Settled}
use Rattle.papaya_raw.specs.Given.SeizeDeclared.rows.settle.Settled.TheVariants as settled
use Rattle.papaya_raw.specs.Given.TablesDeclared.marks.TheConstants.{COPYING}
use Rattle.papaya_raw.specs.Given.TablesDeclared.node.Node.{Node}
use Rattle.papaya_raw.specs.Given.TablesDeclared.table.Table.{Table}
use Rattle.papaya_raw.specs.Given.TablesDeclared.table_words.TheConstants.{PLACES}
use Rattle.papaya_raw.specs.Given.ResizeCopier.{copier_plan}
use Rattle.papaya_raw.specs.Given.ResizeCopier as copiers
use Rattle.papaya_raw.specs.Given.ResizeDispose.{dispose_plan}
use Rattle.run_finds.specs.Given.ResizeDeclared.copier.Copier.{Copier}
use Rattle.run_finds.specs.Given.ResizeDeclared.copier.Copying.{Copying}
use Rattle.run_finds.specs.Given.ResizeDeclared.copier.Copying.TheVariants as copies
use Rattle.run_finds.specs.Given.ResizeDeclared.dispose.Dispose.{Dispose}
use Rattle.run_finds.specs.Given.ResizeDeclared.yielding.Yielding.{Yielding}
use Rattle.run_finds.specs.Given.ResizeDeclared.yielding.Yielding.TheVariants as outcome
use Rattle.papaya_raw.specs.Given.ReservesReserve as rooms
use Rattle.papaya_raw.specs.Given.ReservesDeclared.reserve.Reserve.{Reserve}
use Rattle.papaya_raw.specs.Given.ReservesDeclared.reserve.Reserving.{Reserving}
use Rattle.papaya_raw.specs.Given.ReservesDeclared.reserve.Reserving.TheVariants as reserves
use Rattle.papaya_raw.specs.Given.SweepsSweep as plans
use Rattle.papaya_raw.specs.Given.SweepsSweepPoints.{entering, further}
use Rattle.papaya_raw.specs.Given.ReservesDeclared.sweep.Sweep.{Sweep}
use Rattle.papaya_raw.specs.Given.ReservesDeclared.sweep.Swept.{Swept}
use Rattle.papaya_raw.specs.Given.ReservesDeclared.sweep.Swept.TheVariants as swept
use Rattle.papaya_raw.specs.Given.ReservesDeclared.sweep.Sweeping.{Sweeping}
use Rattle.papaya_raw.specs.Given.ReservesDeclared.sweep.Sweeping.TheVariants as sweeps
use Rattle.run_finds.proofs.Given.RuleWords.PlaceWordsWritten.{or_copying}
use Rattle.run_finds.specs.Given.RuleChart.{Chart}
use Rattle.run_finds.specs.Given.LateToldReserves.{IsRowOfReserve}
use Rattle.run_finds.specs.Given.LateToldSweeps.{IsRowOfSweep}
use Rattle.run_finds.specs.Given.EffectsDeclared.changed.Changed.{Changed}
use Rattle.run_finds.specs.Given.EffectsDeclared.changed.Changed.TheVariants as changed
use Rattle.run_finds.specs.Given.EffectsEffects.{effects_of, in_block, named, names_same}
use Rattle.run_finds.specs.Given.EffectsKnown.{Known}
use Rattle.run_finds.specs.Given.EffectsDeclared.acting.Acting.{Acting}
use Rattle.run_finds.specs.Given.EffectsDeclared.role.Role.{Role}
use Rattle.run_finds.specs.Given.EffectsDeclared.role.Role.TheVariants as role
use Rattle.run_finds.proofs.Given.OthersOutcomes.{told_in}
use Rattle.run_schedules.specs.declared.effect.TableId.{TableId as Numbered}
use Rattle.run_kept.proofs.Given.OwesTables.Hosts.{Step}
use Rattle.run_kept.proofs.Given.WaitsCopyings.{SweepsOn, telling_goes}
use Rattle.run_kept.specs.Given.WaitsWaits.{CopierAwaits}
use Rattle.run_sweeps.proofs.Quiet.QuietWaits.{copier_quiet, dispose_quiet}

-- a mark leaves what a word names
same_block : (word : ℕ) → block_in (bit_or word COPYING) ≡ block_in word
same_block word = omega (arith, or_copying word)

-- a word of this block was marked
abbrev pub Marked : Changed → ℕ → Type 0
Marked told b = (field : ℕ) × (old : ℕ) × (told ≡ changed.Wrote (Word b field) old (bit_or old COPYING))

-- a step that only reads, or, in incremental mode, marks a word of this block
abbrev pub IsQuiet : Bool → Changed → ℕ → Type 0
IsQuiet incremental told b = (told ≡ changed.Nothing) ⊎ ((incremental ≡ true) × Marked told b)

-- it has no effect, if that block is a table of a map
pub quiet_does : (acting : Acting) (known : Known) (incremental : Bool) (told : Changed) (b : ℕ)
    → (incremental ≡ true → (t : Numbered) × (len : ℕ) × (known.roles b ≡ role.Table t len)) → IsQuiet incremental told b → effects_of acting known told ≡ []
quiet_does acting known incremental told b table (inl nothing) = ap (λ (x : Changed). effects_of acting known x) nothing
quiet_does acting known incremental told b table (inr (mode, (field, old, is))) = by (table mode)
  where
    new : ℕ
    new = bit_or old COPYING

    by : (t : Numbered) × (len : ℕ) × (known.roles b ≡ role.Table t len) → effects_of acting known told ≡ []
    by (t, len, role_is) =
        ap (λ (x : Changed). effects_of acting known x) is
        ∙ ap (λ (r : Role). in_block acting r field known.stored (names_same old new) (named known old) (named known new)) role_is
        ∙ ap (λ (q : Bool). in_block acting (role.Table t len) field known.stored q (named known old) (named known new)) (eq-eqb (block_in old) (block_in new) (sym (same_block old)))

module _ {K V : Type 0} (m m2 : Mem (Node K V)) (told : Changed) (hash : K → ℕ) where
  -- within a copier
  marks_told : (p : Copier) (end : Copier × Yielding (Node K V) Table) → Step m m2 told (copiers.plan_at hash p copies.Marks) end → Marked told (block_in p.source.link)
  marks_told p end (Found word, (took, is), ends) = ((p.place + PLACES) % 2 ^ 64, word, is)
  marks_told p end (_, (took, is), ends) = absurd took.0

  pub copier_told : (c : Chart K) (incremental : Bool) (p : Copier) (stands : Copying) → p.stands ≡ stands → CopierAwaits c incremental p stands
      → (end : Copier × Yielding (Node K V) Table) → Step m m2 told (copier_plan hash p) end → IsQuiet incremental told (block_in p.source.link)
  copier_told c incremental p copies.Asks here awaits end s = inl (read (subst (λ (q : Copying). Step m m2 told (copiers.plan_at hash p q) end) here s))
    where
      read : Step m m2 told (copiers.plan_at hash p copies.Asks) end → told ≡ changed.Nothing
      read t = t.1.1
  copier_told c incremental p copies.Marks here awaits end s = inr (awaits.0, marks_told p end (subst (λ (q : Copying). Step m m2 told (copiers.plan_at hash p q) end) here s))
  copier_told c incremental p _ here none end s = absurd none

  -- a reservation
  module _ (r : Reserve) where
    room_within : (to : Copier × Yielding (Node K V) Table) → (rooms.copied r to).1 ≡ outcome.Waits → to.1 ≡ outcome.Waits
    room_within (next, outcome.Waits) e = refl
    room_within (next, outcome.Goes) e = absurd (cc e)
    room_within (next, outcome.Gave value) e = absurd (cc e)
    room_within (next, outcome.Done table) e = absurd (cc e)
    room_within (next, outcome.Refused fault) e = absurd (cc e)

    pub room_row_quiet : (stands : Reserving) → IsRowOfReserve stands → (to : Reserve × Yielding (Node K V) Unit) → Step m m2 told (rooms.plan_at hash r stands) to → to.1 ≡ outcome.Waits
        → told ≡ changed.Nothing
    room_row_quiet (reserves.Copies copier) row to s e =
        let it = told_in m m2 told (rooms.copied r) (copier_plan hash copier) to s in
        copier_quiet m m2 told hash copier copier.stands row it.0 it.2 (room_within it.0 (ap (λ (x : Reserve × Yielding (Node K V) Unit). x.1) (sym it.1) ∙ e))
    room_row_quiet _ row to s e = absurd row

    pub room_copier_told : (c : Chart K) (incremental : Bool) (copier : Copier) → CopierAwaits c incremental copier copier.stands → (to : Reserve × Yielding (Node K V) Unit)
        → Step m m2 told (rooms.plan_at hash r (reserves.Copies copier)) to → IsQuiet incremental told (block_in copier.source.link)
    room_copier_told c incremental copier awaits to s =
        let it = told_in m m2 told (rooms.copied r) (copier_plan hash copier) to s in copier_told c incremental copier copier.stands refl awaits it.0 it.2

  -- a sweep
  module _ (o : Sweep) where
    goes_not : (x : Sweep × Swept (Node K V)) → SweepsOn x → x.1 ≡ swept.Waits → ⊥
    goes_not (q, said) on e = subst (λ (y : Swept (Node K V)). SweepsOn {S = Sweep} (q, y)) e on

    sweep_within : (to : Copier × Yielding (Node K V) Table) → (plans.copied o to).1 ≡ swept.Waits → to.1 ≡ outcome.Waits
    sweep_within (next, outcome.Waits) e = refl
    sweep_within (next, outcome.Goes) e = absurd (cc e)
    sweep_within (next, outcome.Gave value) e = absurd (cc e)
    sweep_within (next, outcome.Done table) e = absurd (goes_not (plans.copied o (next, outcome.Done table)) (telling_goes K V (entering o table)) e)
    sweep_within (next, outcome.Refused fault) e = absurd (cc e)

    dispose_within : (to : Dispose × Settled (Node K V)) → (plans.disposed o to).1 ≡ swept.Waits → to.1 ≡ settled.Waits
    dispose_within (next, settled.Waits) e = refl
    dispose_within (next, settled.Goes) e = absurd (cc e)
    dispose_within (next, settled.Gave value) e = absurd (cc e)
    dispose_within (next, settled.Done) e = absurd (goes_not (plans.disposed o (next, settled.Done)) (telling_goes K V (further o)) e)

    pub sweep_row_quiet : (stands : Sweeping) → IsRowOfSweep stands → (to : Sweep × Swept (Node K V)) → Step m m2 told (plans.plan_at hash o stands) to → to.1 ≡ swept.Waits → told ≡ changed.Nothing
    sweep_row_quiet (sweeps.Copies copier) row to s e =
        let it = told_in m m2 told (plans.copied o) (copier_plan hash copier) to s in
        copier_quiet m m2 told hash copier copier.stands row it.0 it.2 (sweep_within it.0 (ap (λ (x : Sweep × Swept (Node K V)). x.1) (sym it.1) ∙ e))
    sweep_row_quiet (sweeps.Disposes dispose) row to s e =
        let it = told_in m m2 told (plans.disposed o) (dispose_plan dispose) to s in
        dispose_quiet m m2 told dispose dispose.stands row it.0 it.2 (dispose_within it.0 (ap (λ (x : Sweep × Swept (Node K V)). x.1) (sym it.1) ∙ e))
    sweep_row_quiet _ row to s e = absurd row

    pub sweep_copier_told : (c : Chart K) (incremental : Bool) (copier : Copier) → CopierAwaits c incremental copier copier.stands → (to : Sweep × Swept (Node K V))
        → Step m m2 told (plans.plan_at hash o (sweeps.Copies copier)) to → IsQuiet incremental told (block_in copier.source.link)
    sweep_copier_told c incremental copier awaits to s =
        let it = told_in m m2 told (plans.copied o) (copier_plan hash copier) to s in copier_told c incremental copier copier.stands refl awaits it.0 it.2

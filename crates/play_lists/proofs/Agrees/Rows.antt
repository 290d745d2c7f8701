-- How slots are in use after a step of a row, and after the beginning of one: who is within a section was so before, or the step is that by which the section begins.
use Rattle.std.specs.Prelude.{◌≢◌, ◌⊎◌, ◌==◌, Some, if◌then◌else◌}
use Rattle.std.proofs.Common.{◌≡◌, ℕ, Bool, true, false, [], ◌∷◌, inl, inr, refl, sym, subst}
use Rattle.std.proofs.lemmas.Bool.{cases_eq}
use Rattle.seize_acts.specs.Acts.Acts.{row_steps}
use Rattle.seize_acts.specs.Acts.Answers.{Grant, stepped, then_on}
use Rattle.seize_acts.proofs.Acts.Answers.{some, was_stepped}
use Rattle.run_schedules.specs.Given.SeizeWordsMem.{Mem, Took, value_at}
use Rattle.run_schedules.specs.Given.SeizeWordsPlan.{Plan, Steps}
use Rattle.seize.specs.Enter.{enter_plan, unregister_plan}
use Rattle.seize.specs.Law.{Entered}
use Rattle.seize.specs.Leave.{leave_plan}
use Rattle.seize.specs.Register.{plan_at, register_plan, registered}
use Rattle.seize.specs.Settle.{settle_plan}
use Rattle.seize.specs.World.{World, Rests, Use, Vacant, Outside, Inside, IsInside, after_step, left_as, leaves_on, one_less, registered_as, registered_use, registers_on, settles_on, with_at, with_use}
use Rattle.seize.specs.declared.advance.Advance.{Advance}
use Rattle.seize.specs.declared.advance.Advance.TheVariants as progress
use Rattle.seize.specs.declared.rows.leave.Leave.{Leave}
use Rattle.seize.specs.declared.rows.leave.Leaving.{Leaving}
use Rattle.seize.specs.declared.rows.leave.Leaving.TheVariants as leaves
use Rattle.seize.specs.declared.rows.register.Register.{Register}
use Rattle.seize.specs.declared.rows.register.Registering.{Registering}
use Rattle.seize.specs.declared.rows.register.Registering.TheVariants as registers
use Rattle.seize.specs.declared.rows.settle.Settle.{Settle}
use Rattle.seize.specs.declared.rows.settle.Settled.{Settled}
use Rattle.seize.specs.declared.rows.settle.Settled.TheVariants as settled
use Rattle.seize.specs.declared.states.TheConstants.{ACTIVE}
use Rattle.map_tables.specs.Nodes.{deferred_word}
use Rattle.map_tables.specs.declared.node.Node.{Node}
use Rattle.many_acts.proofs.Given.CallersTogether.At.{at_other, at_same}
use Rattle.many_acts.specs.Given.ScenesScene.{row_of}
use Rattle.many_acts.specs.Given.ScenesDeclared.row.SlotRow.{SlotRow}
use Rattle.many_acts.specs.Given.ScenesDeclared.row.SlotRow.TheVariants as rows
use Rattle.run_schedules.specs.Deeds.Deeds.{Deed, Leaves, Opens}
use Rattle.play_lists.specs.Played.Play.{leaves_as, registers_as, row_deed}
use Rattle.run_finds.proofs.Given.CallersTogether.RowSteps.{less_inside}
use Rattle.run_finds.proofs.Given.General.{same_some}

-- Who is within a section after a deed was so, or the section began by it; and where it ends one nobody is within that.
module _ (uses uses2 : ℕ → Use) where
  abbrev pub StaysInside : Type 0
  StaysInside = (s : ℕ) → IsInside (uses2 s) → IsInside (uses s)

  abbrev pub InsideBy : {K V : Type 0} → Deed K V → Type 0
  InsideBy (Opens t) = ((s : ℕ) → IsInside (uses2 s) → IsInside (uses s) ⊎ (s ≡ t)) × IsInside (uses2 t)
  InsideBy deed = StaysInside

-- one slot is in use otherwise
module _ (uses : ℕ → Use) (t : ℕ) (u : Use) where
  pub outside_at : (IsInside u → IsInside (uses t)) → StaysInside uses (with_at uses t u)
  outside_at so s in_it = by (cases_eq s t)
    where
      by : (s ≡ t) ⊎ (s ≢ t) → IsInside (uses s)
      by (inl e) = subst (λ (k : ℕ). IsInside (uses k)) (sym e) (so (subst IsInside (at_same uses t u s e) in_it))
      by (inr ne) = subst IsInside (at_other uses t u s ne) in_it

  inside_at : IsInside u → ((s : ℕ) → IsInside (with_at uses t u s) → IsInside (uses s) ⊎ (s ≡ t)) × IsInside (with_at uses t u t)
  inside_at in_u = (λ s in_it. by s in_it (cases_eq s t), subst IsInside (sym (at_same uses t u t refl)) in_u)
    where
      by : (s : ℕ) → IsInside (with_at uses t u s) → (s ≡ t) ⊎ (s ≢ t) → IsInside (uses s) ⊎ (s ≡ t)
      by s in_it (inl e) = inr e
      by s in_it (inr ne) = inl (subst IsInside (at_other uses t u s ne) in_it)

module _ {K V : Type 0} (i : ℕ) (w : World (Node K V)) where
  -- a step of a settling, of a registering, and of a leaving

  settles_stay : (c c2 : Settle) (m : Mem (Node K V)) (p : Settled (Node K V)) → StaysInside w.uses (settles_on w i c m (c2, p)).uses
  settles_stay c c2 m settled.Goes = λ s in_it. in_it
  settles_stay c c2 m settled.Waits = λ s in_it. in_it
  settles_stay c c2 m (settled.Gave value) = λ s in_it. in_it
  settles_stay c c2 m settled.Done = outside_at w.uses c.slot (one_less (w.uses c.slot)) (less_inside (w.uses c.slot))

  registers_stay : (c c2 : Register) (m : Mem (Node K V)) (p : Advance ℕ) → (IsInside (registered_as c) → ⊥) → StaysInside w.uses (registers_on w i c m (c2, p)).uses
  registers_stay c c2 m progress.Goes none = λ s in_it. in_it
  registers_stay c c2 m progress.Waits none = λ s in_it. in_it
  registers_stay c c2 m (progress.Done t) none = outside_at w.uses t (registered_as c) (λ in_it. absurd (none in_it))
  registers_stay c c2 m (progress.Refused fault) none = λ s in_it. in_it

  abbrev By : SlotRow → World (Node K V) → Type 0
  By row w2 = InsideBy w.uses w2.uses (row_deed {K = K} {V = V} row)

  -- a registering has not entered its slot, or enters it
  registers_by : (c : Register) (stands : Registering) → c.stands ≡ stands → (m : Mem (Node K V)) (end : Register × Advance ℕ) → (stands ≡ registers.Enter → end ≡ registered c)
      → InsideBy w.uses (registers_on w i c m end).uses (registers_as {K = K} {V = V} stands c.slot)
  registers_by c registers.Enter is m end enters =
      subst (λ (p : Register × Advance ℕ). InsideBy w.uses (registers_on w i c m p).uses (registers_as {K = K} {V = V} registers.Enter c.slot)) (sym (enters refl))
      (inside_at w.uses c.slot (registered_as c) (subst (λ (stands : Registering). IsInside (registered_use stands)) (sym is) tt))
  registers_by c registers.Begin is m end enters = registers_stay c end.0 m end.1 (λ in_it. subst (λ (stands : Registering). IsInside (registered_use stands)) is in_it)
  registers_by c registers.Look is m end enters = registers_stay c end.0 m end.1 (λ in_it. subst (λ (stands : Registering). IsInside (registered_use stands)) is in_it)
  registers_by c (registers.Widen bucket seen) is m end enters = registers_stay c end.0 m end.1 (λ in_it. subst (λ (stands : Registering). IsInside (registered_use stands)) is in_it)
  registers_by c (registers.Take seen) is m end enters = registers_stay c end.0 m end.1 (λ in_it. subst (λ (stands : Registering). IsInside (registered_use stands)) is in_it)
  registers_by c registers.Registered is m end enters = registers_stay c end.0 m end.1 (λ in_it. subst (λ (stands : Registering). IsInside (registered_use stands)) is in_it)
  registers_by c (registers.Refused fault) is m end enters = registers_stay c end.0 m end.1 (λ in_it. subst (λ (stands : Registering). IsInside (registered_use stands)) is in_it)

  -- a leaving ends its section, or is past that, or has begun it anew
  leaves_by : (c : Leave) (stands : Leaving) → InsideBy w.uses (with_at w.uses c.slot (left_as c stands (w.uses c.slot))) (leaves_as {K = K} {V = V} c stands)
  leaves_by c leaves.Swaps = outside_at w.uses c.slot (w.uses c.slot) (λ in_it. in_it)
  leaves_by c (leaves.Settles settle) = outside_at w.uses c.slot (w.uses c.slot) (λ in_it. in_it)
  leaves_by c leaves.Frees = outside_at w.uses c.slot Vacant (λ in_it. absurd in_it)
  leaves_by c leaves.Over = by (c.becomes == ACTIVE)
    where
      freed : (q : Bool) → IsInside (if q then w.uses c.slot else Outside 0) → IsInside (w.uses c.slot)
      freed true in_it = in_it
      freed false in_it = absurd in_it

      by : (q : Bool) → InsideBy w.uses (with_at w.uses c.slot (if q then Inside 0 else (if c.frees then w.uses c.slot else Outside 0))) {K = K} {V = V} (if q then Opens c.slot else Leaves c.slot)
      by true = inside_at w.uses c.slot (Inside 0) tt
      by false = outside_at w.uses c.slot (if c.frees then w.uses c.slot else Outside 0) (freed c.frees)

  module _ (g : Grant) (w2 : World (Node K V)) where
    -- where a step has come, by its machine's
    by_plan : {R : Type 0} (plan : Plan (Node K V) R) (made : Mem (Node K V) × R → World (Node K V)) (P : World (Node K V) → Type 0)
        → then_on (stepped w.memory g plan) (λ p. Some (made p)) ≡ Some w2 → ((p : Mem (Node K V) × R) → stepped w.memory g plan ≡ Some p → P (made p)) → P w2
    by_plan plan made P e so =
        let at = some (stepped w.memory g plan) (λ p. Some (made p)) w2 e in subst P (same_some (made at.0) w2 at.2) (so at.0 at.1)

    pub rows_by : (row : SlotRow) → row_steps deferred_word i (row_of row) g w ≡ Some w2 → By row w2
    rows_by (rows.Registers c) e =
        by_plan (register_plan c) (λ p. registers_on w i c p.0 p.1) (By (rows.Registers c)) e
        (λ p so. registers_by c c.stands refl p.0 p.1 (enters p so))
      where
        enters : (p : Mem (Node K V) × (Register × Advance ℕ)) → stepped w.memory g (register_plan c) ≡ Some p → c.stands ≡ registers.Enter → p.1 ≡ registered c
        enters p so is =
            (subst (λ (stands : Registering). Steps Took value_at w.memory (plan_at c stands) p.0 p.1) is (was_stepped w.memory g (register_plan c) p so)).2
    rows_by (rows.Enters c) e =
        by_plan (enter_plan c) (λ p. with_use (after_step w i p.0 Rests (Entered c.slot ∷ [])) c.slot (Inside 0)) (By (rows.Enters c)) e (λ p so. inside_at w.uses c.slot (Inside 0) tt)
    rows_by (rows.Leaves c) e = by_plan (leave_plan deferred_word c) (λ p. leaves_on w i c p.0 p.1) (By (rows.Leaves c)) e (λ p so. leaves_by c c.stands)
    rows_by (rows.Flushes c) e =
        by_plan (settle_plan deferred_word c) (λ p. settles_on w i c p.0 p.1) (By (rows.Flushes c)) e (λ p so. settles_stay c p.1.0 p.0 p.1.1)
    rows_by (rows.Frees c) e =
        by_plan (unregister_plan c) (λ p. with_use (after_step w i p.0 Rests []) c.slot Vacant) (By (rows.Frees c)) e (λ p so. outside_at w.uses c.slot Vacant (λ in_it. absurd in_it))

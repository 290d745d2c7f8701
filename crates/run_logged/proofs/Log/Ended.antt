-- How slots are used once a row has ended: each of its steps leads there.
use Rattle.std.specs.Prelude.{◌≡◌, ℕ, ◌+◌, ◌==◌, Bool, true, false, List, slice_set, nat_lt, Option, Some, None, Ok, Err, if◌then◌else◌}
use Rattle.std.proofs.Common.{refl, sym, ap, subst, ◌∙◌}
use Rattle.run_schedules.specs.Given.SeizeWordsMem.{Mem, Took, value_at}
use Rattle.run_schedules.specs.Given.SeizeWordsOp.{Out, Found, Exchanged, Roomed}
use Rattle.run_schedules.specs.Given.SeizeWordsPlan.{Steps}
use Rattle.run_schedules.specs.Given.SeizeWordsDeclared.fault.Fault.TheVariants.{SlotsUsedUp}
use Rattle.seize.specs.declared.states.TheConstants.{ACTIVE, LAST_SLOT}
use Rattle.seize.specs.declared.advance.Advance.{Advance}
use Rattle.seize.specs.declared.advance.Advance.TheVariants as progress
use Rattle.seize.specs.declared.rows.enter.Enter.{Enter}
use Rattle.seize.specs.declared.rows.enter.Unregister.{Unregister}
use Rattle.seize.specs.declared.rows.leave.Leave.{Leave}
use Rattle.seize.specs.declared.rows.leave.Leaving.{Leaving}
use Rattle.seize.specs.declared.rows.leave.Leaving.TheVariants as leaves
use Rattle.seize.specs.declared.rows.register.Register.{Register}
use Rattle.seize.specs.declared.rows.register.Registering.{Registering}
use Rattle.seize.specs.declared.rows.register.Registering.TheVariants as registers
use Rattle.seize.specs.declared.rows.settle.Settle.{Settle}
use Rattle.seize.specs.declared.rows.settle.Settled.{Settled}
use Rattle.seize.specs.declared.rows.settle.Settled.TheVariants as settled
use Rattle.seize.specs.Enter.{enter_plan, unregister_plan}
use Rattle.seize.specs.Leave as leave
use Rattle.seize.specs.Register as register
use Rattle.seize.specs.Settle.{settle_plan}
use Rattle.run_effects.proofs.Given.SeizeRuleRows.Leaving.{steps_back}
use Rattle.run_shows.proofs.Given.SeizeEndsBatches.Free.{Outcomes, PlanOutcomes, plan_outcome, if_outcome}
use Rattle.papaya_raw.specs.Given.TablesNodes.{deferred_word}
use Rattle.papaya_raw.specs.Given.TablesDeclared.node.Node.{Node}
use Rattle.run_effects.specs.declared.changed.Changed.{Changed}
use Rattle.run_effects.specs.declared.changed.Changed.TheVariants.{Nothing}
use Rattle.run_shows.specs.declared.row.RowTold.{RowTold}
use Rattle.run_shows.specs.declared.row.RowTold.TheVariants as told
use Rattle.run_shows.specs.declared.row.SlotChange.{SlotChange}
use Rattle.run_shows.specs.declared.row.SlotChange.TheVariants as change
use Rattle.run_shows.specs.declared.row.SlotRow.{SlotRow}
use Rattle.run_shows.specs.declared.row.SlotRow.TheVariants as rows
use Rattle.run_shows.specs.declared.row.SlotUse.{SlotUse}
use Rattle.run_shows.specs.declared.row.SlotUse.TheVariants as used
use Rattle.run_kept.specs.Sheds.Ended.{has_ended, taken_in_the_end, entered_as, left_in_the_end, uses_ended}
use Rattle.run_logged.specs.Log.OnSlots.{has_come}
use Rattle.run_logged.proofs.Log.RowsFall.{one_store}
use Rattle.run_shows.proofs.Scenes.Told.{as_step}
use Rattle.run_shows.specs.Scenes.OnSlots.{RowSteps}
use Rattle.run_shows.specs.Scenes.Rows.{change_of, left_by, of_registering, of_settling, taken_as, uses_after}

-- a registering takes its slot as it is to be used
module _ (c : Register) where
  abbrev Taken : Registering → Register × Advance ℕ → Type 0
  Taken p (c2, progress.Done slot) = taken_as p ≡ taken_in_the_end c p
  Taken p (c2, progress.Goes) = taken_in_the_end c2 c2.stands ≡ taken_in_the_end c p
  Taken p _ = Unit {0}

  further_so : (seen : ℕ) → Taken (registers.Take seen) (register.further c) × Taken registers.Look (register.further c)
  further_so seen = (by (nat_lt c.slot LAST_SLOT), on (nat_lt c.slot LAST_SLOT))
    where
      on : (t : Bool) → Taken registers.Look (if t then register.going (record c { slot = c.slot + 1 }) registers.Look else register.refused c SlotsUsedUp)
      on true = refl
      on false = tt

      by : (t : Bool) → Taken (registers.Take seen) (if t then register.going (record c { slot = c.slot + 1 }) registers.Look else register.refused c SlotsUsedUp)
      by true = refl
      by false = tt

  taking_so : (seen : ℕ) (o : Option ℕ) → Taken registers.Look (register.taking c seen o)
  taking_so seen None = refl
  taking_so seen (Some bucket) = refl

  module _ (T : Type 0) (p : Registering) (stands : c.stands ≡ p) where
    begun_so : (out : Out T) → p ≡ registers.Begin → Outcomes (Taken registers.Begin) (register.begun c out)
    begun_so (Roomed (Ok made)) e = refl
    begun_so (Roomed (Err fault)) e = tt
    begun_so _ e = ap (taken_in_the_end c) (stands ∙ e)

    looked_so : (out : Out T) → p ≡ registers.Look → Outcomes (Taken registers.Look) (register.looked c out)
    looked_so (Found head) e = by (register.can_be_taken head)
      where
        by : (t : Bool) → Taken registers.Look (if t then register.taking c head (register.bucket_needed c.slot) else register.further c)
        by true = taking_so head (register.bucket_needed c.slot)
        by false = (further_so head).1
    looked_so _ e = ap (taken_in_the_end c) (stands ∙ e)

    widened_so : (bucket seen : ℕ) (out : Out T) → p ≡ registers.Widen bucket seen → Outcomes (Taken (registers.Widen bucket seen)) (register.widened c seen out)
    widened_so bucket seen (Roomed (Ok made)) e = refl
    widened_so bucket seen (Roomed (Err fault)) e = tt
    widened_so bucket seen _ e = ap (taken_in_the_end c) (stands ∙ e)

    taken_so : (seen : ℕ) (out : Out T) → p ≡ registers.Take seen → Outcomes (Taken (registers.Take seen)) (register.taken c out)
    taken_so seen (Exchanged (Ok found)) e = by c.enters refl
      where
        by : (t : Bool) → c.enters ≡ t → Taken (registers.Take seen) (if t then register.going c registers.Enter else register.registered c)
        by true is = sym (ap (λ (b : Bool). if b then used.Inside else used.Outside) is)
        by false is = sym (ap (λ (b : Bool). if b then used.Inside else used.Outside) is)
    taken_so seen (Exchanged (Err found)) e = (further_so seen).0
    taken_so seen _ e = ap (taken_in_the_end c) (stands ∙ e)

  register_so : (T : Type 0) (p : Registering) → c.stands ≡ p → PlanOutcomes {T = T} (Taken p) (register.plan_at c p)
  register_so T registers.Begin stands = λ out. begun_so T registers.Begin stands out refl
  register_so T registers.Look stands = λ out. looked_so T registers.Look stands out refl
  register_so T (registers.Widen bucket seen) stands = λ out. widened_so T (registers.Widen bucket seen) stands bucket seen out refl
  register_so T (registers.Take seen) stands = λ out. taken_so T (registers.Take seen) stands seen out refl
  register_so T registers.Enter stands = λ out. refl
  register_so T registers.Registered stands = refl
  register_so T (registers.Refused fault) stands = tt

-- a leaving leaves its slot as it is to be used
module _ (T : Type 0) (c : Leave) (slots : List SlotUse) where
  abbrev LeftSo : Leaving → Leave × Settled T → Type 0
  LeftSo p (c2, settled.Done) = uses_after {T = T} (left_by c p) told.Done slots ≡ left_in_the_end c p slots
  LeftSo p (c2, _) = left_in_the_end c2 c2.stands (uses_after {T = T} (left_by c p) told.Goes slots) ≡ left_in_the_end c p slots

  -- its list is counted down
  counted_so : left_in_the_end (leave.counted_down c) (leave.counted_down c).stands slots ≡ (if c.frees then slice_set slots c.slot used.Vacant else slice_set slots c.slot (entered_as c))
  counted_so = by c.frees refl
    where
      to : Bool → List SlotUse
      to b = if b then slice_set slots c.slot used.Vacant else slice_set slots c.slot (entered_as c)

      by : (b : Bool) → c.frees ≡ b → left_in_the_end (if b then leave.standing c leaves.Frees else leave.standing c leaves.Over) (if b then leave.standing c leaves.Frees else leave.standing c leaves.Over).stands slots ≡ to c.frees
      by true e = ap (λ (b : Bool). if b then slice_set slots c.slot used.Vacant else slice_set (slice_set slots c.slot used.Vacant) c.slot (entered_as c)) e ∙ sym (ap to e)
      by false e = ap (λ (b : Bool). if b then slots else slice_set slots c.slot (entered_as c)) e ∙ sym (ap to e)

  list_so : (out : Out T) → c.stands ≡ leaves.Swaps → Outcomes (LeftSo leaves.Swaps) (leave.list_taken c out)
  list_so (Found head) e = if_outcome (LeftSo leaves.Swaps) (nat_lt ACTIVE head) _ _ refl counted_so
  list_so _ e = ap (λ (p : Leaving). left_in_the_end c p slots) e

  settled_so : (settle s2 : Settle) (o : Settled T) → LeftSo (leaves.Settles settle) (leave.settled c (s2, o))
  settled_so settle s2 settled.Goes = refl
  settled_so settle s2 settled.Waits = refl
  settled_so settle s2 (settled.Gave value) = refl
  settled_so settle s2 settled.Done = counted_so

  over_so : (f b : Bool)
      → uses_after {T = T} (if f then change.Stays else (if b then change.Becomes c.slot used.Inside else change.Becomes c.slot used.Outside)) told.Done slots
      ≡ (if f then slots else slice_set slots c.slot (if b then used.Inside else used.Outside))
  over_so true b = refl
  over_so false true = refl
  over_so false false = refl

  leave_so : (defers : T → Option ℕ) (mem mem2 : Mem T) (p : Leaving) → c.stands ≡ p → (end : Leave × Settled T) → Steps Took value_at mem (leave.plan_at defers c p) mem2 end → LeftSo p end
  leave_so defers mem mem2 leaves.Swaps e end st = plan_outcome (LeftSo leaves.Swaps) mem mem2 (leave.swaps c) end (λ out. list_so out e) st
  leave_so defers mem mem2 (leaves.Settles settle) e end st =
      let back = steps_back (leave.settled c) mem mem2 (settle_plan defers settle) end st in
      subst (λ (q : Leave × Settled T). LeftSo (leaves.Settles settle) q) (sym back.2) (settled_so settle back.0.0 back.0.1)
  leave_so defers mem mem2 leaves.Frees e end st = plan_outcome (LeftSo leaves.Frees) mem mem2 (leave.frees c) end (λ out. refl) st
  leave_so defers mem mem2 leaves.Over e end st = plan_outcome (LeftSo leaves.Over) mem mem2 (leave.plan_at defers c leaves.Over) end (over_so c.frees (c.becomes == ACTIVE)) st

-- Whichever row it is: how slots are used after its last step; and where it goes on, what it comes to from there is what it comes to.
module _ (K V : Type 0) (slots : List SlotUse) where
  abbrev EndsSo : SlotRow → SlotRow × RowTold (Node K V) → Type 0
  EndsSo row (after, it) =
      (has_ended it ≡ true → uses_after (change_of row) it slots ≡ uses_ended row it slots)
      × (has_come it ≡ false → (last : RowTold (Node K V)) → has_ended last ≡ true → uses_ended after last (uses_after (change_of row) it slots) ≡ uses_ended row last slots)

  registers_end : (c c2 : Register) (o : Advance ℕ) → Taken c c.stands (c2, o) → EndsSo (rows.Registers c) (rows.Registers c2, of_registering o)
  registers_end c c2 progress.Goes so = (λ e. absurd (cc e), λ e last. by last)
    where
      by : (last : RowTold (Node K V)) → has_ended last ≡ true → uses_ended (rows.Registers c2) last slots ≡ uses_ended (rows.Registers c) last slots
      by (told.Registered slot) h = ap (λ (v : SlotUse). slice_set slots slot v) so
      by told.Done h = refl
      by (told.Refused fault) h = refl
      by told.Goes h = absurd (cc h)
      by told.Waits h = absurd (cc h)
      by (told.Gave value) h = absurd (cc h)
  registers_end c c2 progress.Waits so = (λ e. absurd (cc e), λ e. absurd (cc e))
  registers_end c c2 (progress.Done slot) so = (λ e. ap (λ (v : SlotUse). slice_set slots slot v) so, λ e. absurd (cc e))
  registers_end c c2 (progress.Refused fault) so = (λ e. refl, λ e. absurd (cc e))

  -- a step that gives a value changes no more than one that gives none
  gave_as : (x : SlotChange) (value : Node K V) → uses_after {T = Node K V} x (told.Gave value) slots ≡ uses_after {T = Node K V} x told.Goes slots
  gave_as (change.Takes v) value = refl
  gave_as (change.Becomes slot v) value = refl
  gave_as change.Stays value = refl

  leaves_end : (c c2 : Leave) (o : Settled (Node K V)) → LeftSo (Node K V) c slots c.stands (c2, o) → EndsSo (rows.Leaves c) (rows.Leaves c2, of_settling o)
  leaves_end c c2 settled.Goes so = (λ e. absurd (cc e), λ e last h. so)
  leaves_end c c2 settled.Waits so = (λ e. absurd (cc e), λ e. absurd (cc e))
  leaves_end c c2 (settled.Gave value) so = (λ e. absurd (cc e), λ e last h. ap (left_in_the_end c2 c2.stands) (gave_as (left_by c c.stands) value) ∙ so)
  leaves_end c c2 settled.Done so = (λ e. so, λ e. absurd (cc e))

  pub rows_end : (mem mem2 : Mem (Node K V)) (row : SlotRow) (changed : Changed) (end : SlotRow × RowTold (Node K V)) → RowSteps K V row mem mem2 changed end → EndsSo row end
  rows_end mem mem2 (rows.Registers c) changed end st =
      subst (EndsSo (rows.Registers c)) (sym st.2)
      (registers_end c st.0.0 st.0.1 (plan_outcome (Taken c c.stands) mem mem2 (register.register_plan c) st.0 (register_so c (Node K V) c.stands refl) (as_step mem Nothing (register.register_plan c) mem2 changed st.0 st.1)))
  rows_end mem mem2 (rows.Enters c) changed end st = (
    λ e. refl,
    (let step = as_step mem Nothing (enter_plan c) mem2 changed st.0 st.1 in
        λ h. absurd (one_store end.1 st.0.1 (ap (λ (e : SlotRow × RowTold (Node K V)). e.1) st.2) (ap (λ (x : Enter × Advance Unit). x.1) step.2) h)),
  )
  rows_end mem mem2 (rows.Leaves c) changed end st =
      subst (EndsSo (rows.Leaves c)) (sym st.2)
      (leaves_end c st.0.0 st.0.1 (leave_so (Node K V) c slots deferred_word mem mem2 c.stands refl st.0 (as_step mem Nothing (leave.leave_plan deferred_word c) mem2 changed st.0 st.1)))
  rows_end mem mem2 (rows.Flushes c) changed end st = subst (EndsSo (rows.Flushes c)) (sym st.2) (λ e. refl, λ e last h. refl)
  rows_end mem mem2 (rows.Frees c) changed end st = (
    λ e. refl,
    (let step = as_step mem Nothing (unregister_plan c) mem2 changed st.0 st.1 in
        λ h. absurd (one_store end.1 st.0.1 (ap (λ (e : SlotRow × RowTold (Node K V)). e.1) st.2) (ap (λ (x : Unregister × Advance Unit). x.1) step.2) h)),
  )

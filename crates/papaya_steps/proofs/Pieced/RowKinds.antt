-- The row that an event works with is one of its kind at each step, and the event may have what it does.
use Rattle.std.specs.Prelude.{◌+◌, ◌==◌, Option, Some, None, Ok, Err, option_map, nat_lt, if◌then◌else◌}
use Rattle.std.proofs.Common.{◌≡◌, ℕ, Bool, true, false, List, refl, sym, ap, subst, ◌∙◌}
use Rattle.run_schedules.specs.Runs.Present.{Present, guard_of, has_registration, living_slot, registration_of, guards_on}
use Rattle.seize_words.specs.OneMemory.Mem.{Mem, Took, value_at}
use Rattle.seize_words.specs.OneMemory.Op.{Out, Found, Exchanged, Roomed}
use Rattle.seize_words.specs.OneMemory.Plan.{Steps}
use Rattle.seize_words.specs.declared.fault.Fault.TheVariants.{SlotsUsedUp}
use Rattle.seize.specs.Leave as leave
use Rattle.seize.specs.Register as register
use Rattle.seize.specs.Settle.{settle_plan}
use Rattle.seize.specs.declared.advance.Advance.{Advance}
use Rattle.seize.specs.declared.rows.leave.Leave.{Leave}
use Rattle.seize.specs.declared.rows.leave.Leaving.{Leaving}
use Rattle.seize.specs.declared.rows.leave.Leaving.TheVariants as leaves
use Rattle.seize.specs.declared.rows.register.Register.{Register}
use Rattle.seize.specs.declared.rows.register.Registering.{Registering}
use Rattle.seize.specs.declared.rows.register.Registering.TheVariants as registers
use Rattle.seize.specs.declared.rows.settle.Settle.{Settle}
use Rattle.seize.specs.declared.rows.settle.Settled.{Settled}
use Rattle.seize.specs.declared.rows.settle.Settled.TheVariants as settled
use Rattle.seize.specs.declared.states.TheConstants.{ACTIVE, IDLE, LAST_SLOT}
use Rattle.map_tables.specs.Nodes.{deferred_word}
use Rattle.map_tables.specs.declared.node.Node.{Node}
use Rattle.run_effects.specs.declared.changed.Changed.{Changed}
use Rattle.run_effects.specs.declared.changed.Changed.TheVariants.{Nothing}
use Rattle.play_events.specs.Given.CallersRows.{IsRowOn}
use Rattle.play_events.proofs.Given.ScenesTold.{as_step}
use Rattle.play_events.specs.Given.ScenesOnSlots.{RowSteps}
use Rattle.play_events.specs.Given.ScenesRows.{begun_row}
use Rattle.play_events.specs.Given.ScenesScene.{row_of}
use Rattle.play_events.specs.Given.ScenesDeclared.row.RowTold.{RowTold}
use Rattle.play_events.specs.Given.ScenesDeclared.row.SlotCall.{SlotCall}
use Rattle.play_events.specs.Given.ScenesDeclared.row.SlotCall.TheVariants as call
use Rattle.play_events.specs.Given.ScenesDeclared.row.SlotRow.{SlotRow}
use Rattle.play_events.specs.Given.ScenesDeclared.row.SlotRow.TheVariants as rows
use Rattle.run_schedules.specs.declared.event.Event.{Event}
use Rattle.run_schedules.specs.declared.event.Event.TheVariants as event
use Rattle.run_schedules.specs.Schedules.Moment.{Moment}
use Rattle.play_events.proofs.Given.SeizeEndsBatches.Free.{Outcomes, PlanOutcomes, if_outcome, plan_outcome}
use Rattle.run_effects.proofs.Given.SeizeRuleRows.Leaving.{steps_back}
use Rattle.play_events.specs.Given.SchedulerWorks.{IsAbout, IsItsRow, HasNoRow}
use Rattle.play_events.specs.Given.SchedulerDeclared.scheduler.Scheduler.{Scheduler}
use Rattle.play_events.specs.Given.NamedSeen.{free_slot}
use Rattle.run_schedules.specs.Deeds.Deeds.{Leaves, Opens}
use Rattle.play_events.specs.Given.PlayedPlay.{leaves_as, registers_as, row_deed}
use Rattle.play_events.specs.Given.GroupedGrouping.{MayHave, Names, IsShared}
use Rattle.papaya_steps.specs.Pieced.RowFor.{IsRowFor}

-- a registering that enters none goes on so
module _ (T : Type 0) (c : Register) (none : c.enters ≡ false) (never : c.stands ≡ registers.Enter → ⊥) where
  abbrev Short : Register × Advance ℕ → Type 0
  Short (c2, o) = (c2.enters ≡ false) × (c2.stands ≡ registers.Enter → ⊥)

  further_short : (t : Bool) → Short (if t then register.going (record c { slot = c.slot + 1 }) registers.Look else register.refused c SlotsUsedUp)
  further_short true = (none, λ e. cc e)
  further_short false = (none, λ e. cc e)

  taking_short : (seen : ℕ) (o : Option ℕ) → Short (register.taking c seen o)
  taking_short seen None = (none, λ e. cc e)
  taking_short seen (Some bucket) = (none, λ e. cc e)

  begun_short : (out : Out T) → Outcomes Short (register.begun c out)
  begun_short (Roomed (Ok made)) = (none, λ e. cc e)
  begun_short (Roomed (Err fault)) = (none, λ e. cc e)
  begun_short _ = (none, never)

  looked_short : (out : Out T) → Outcomes Short (register.looked c out)
  looked_short (Found head) = by (register.can_be_taken head)
    where
      by : (t : Bool) → Short (if t then register.taking c head (register.bucket_needed c.slot) else register.further c)
      by true = taking_short head (register.bucket_needed c.slot)
      by false = further_short (nat_lt c.slot LAST_SLOT)
  looked_short _ = (none, never)

  widened_short : (seen : ℕ) (out : Out T) → Outcomes Short (register.widened c seen out)
  widened_short seen (Roomed (Ok made)) = (none, λ e. cc e)
  widened_short seen (Roomed (Err fault)) = (none, λ e. cc e)
  widened_short seen _ = (none, never)

  taken_short : (out : Out T) → Outcomes Short (register.taken c out)
  taken_short (Exchanged (Ok found)) = subst (λ (b : Bool). Short (if b then register.going c registers.Enter else register.registered c)) (sym none) (none, λ e. cc e)
  taken_short (Exchanged (Err found)) = further_short (nat_lt c.slot LAST_SLOT)
  taken_short _ = (none, never)

  register_short : (p : Registering) → c.stands ≡ p → PlanOutcomes {T = T} Short (register.plan_at c p)
  register_short registers.Begin e = begun_short
  register_short registers.Look e = looked_short
  register_short (registers.Widen bucket seen) e = widened_short seen
  register_short (registers.Take seen) e = taken_short
  register_short registers.Enter e = absurd (never e)
  register_short registers.Registered e = (none, never)
  register_short (registers.Refused fault) e = (none, never)

-- a leaving leaves its slot as it is to
module _ (T : Type 0) (c : Leave) where
  abbrev Still : Leave × Settled T → Type 0
  Still (c2, o) = c2.becomes ≡ c.becomes

  counted_still : (leave.counted_down c).becomes ≡ c.becomes
  counted_still = by c.frees
    where
      by : (b : Bool) → (if b then leave.standing c leaves.Frees else leave.standing c leaves.Over).becomes ≡ c.becomes
      by true = refl
      by false = refl

  list_still : (out : Out T) → Outcomes Still (leave.list_taken c out)
  list_still (Found head) = if_outcome Still (nat_lt ACTIVE head) _ _ refl counted_still
  list_still _ = refl

  settled_still : (s2 : Settle) (o : Settled T) → Still (leave.settled c (s2, o))
  settled_still s2 settled.Goes = refl
  settled_still s2 settled.Waits = refl
  settled_still s2 (settled.Gave value) = refl
  settled_still s2 settled.Done = counted_still

  leave_still : (defers : T → Option ℕ) (mem mem2 : Mem T) (p : Leaving) (end : Leave × Settled T) → Steps Took value_at mem (leave.plan_at defers c p) mem2 end → Still end
  leave_still defers mem mem2 leaves.Swaps end st = plan_outcome Still mem mem2 (leave.swaps c) end list_still st
  leave_still defers mem mem2 (leaves.Settles settle) end st =
      let back = steps_back (leave.settled c) mem mem2 (settle_plan defers settle) end st in
      subst (λ (q : Leave × Settled T). Still q) (sym back.2) (settled_still back.0.0 back.0.1)
  leave_still defers mem mem2 leaves.Frees end st = plan_outcome Still mem mem2 (leave.frees c) end (λ out. refl) st
  leave_still defers mem mem2 leaves.Over end st = plan_outcome Still mem mem2 (leave.plan_at defers c leaves.Over) end refl st

module _ (K V : Type 0) (mem mem2 : Mem (Node K V)) (changed : Changed) (after : SlotRow) (said : RowTold (Node K V)) where
  -- by its step it stays of its kind
  pub keeps_row : (e : Event K V) (row : SlotRow) → IsRowFor e row → RowSteps K V row mem mem2 changed (after, said) → IsRowFor e after
  keeps_row (event.Register r) (rows.Registers c) is st =
      subst (λ (q : SlotRow × RowTold (Node K V)). IsRowFor {K = K} {V = V} (event.Register r) q.0) (sym st.2)
      (plan_outcome (Short (Node K V) c is.0 is.1) mem mem2 (register.register_plan c) st.0 (register_short (Node K V) c is.0 is.1 c.stands refl) (as_step mem Nothing (register.register_plan c) mem2 changed st.0 st.1))
  keeps_row (event.Own g) (rows.Registers c) is st = subst (λ (q : SlotRow × RowTold (Node K V)). IsRowFor {K = K} {V = V} (event.Own g) q.0) (sym st.2) tt
  keeps_row (event.Unregister r) (rows.Frees c) is st = subst (λ (q : SlotRow × RowTold (Node K V)). IsRowFor {K = K} {V = V} (event.Unregister r) q.0) (sym st.2) tt
  keeps_row (event.Enter g r) (rows.Enters c) is st = subst (λ (q : SlotRow × RowTold (Node K V)). IsRowFor {K = K} {V = V} (event.Enter g r) q.0) (sym st.2) tt
  keeps_row (event.Refresh g) (rows.Leaves c) is st = subst (λ (q : SlotRow × RowTold (Node K V)). IsRowFor {K = K} {V = V} (event.Refresh g) q.0) (sym st.2) tt
  keeps_row (event.DropGuard g) (rows.Leaves c) is st =
      subst (λ (q : SlotRow × RowTold (Node K V)). IsRowFor {K = K} {V = V} (event.DropGuard g) q.0) (sym st.2)
      (leave_still (Node K V) c deferred_word mem mem2 c.stands st.0 (as_step mem Nothing (leave.leave_plan deferred_word c) mem2 changed st.0 st.1) ∙ is)
  keeps_row (event.Flush g) (rows.Flushes c) is st = subst (λ (q : SlotRow × RowTold (Node K V)). IsRowFor {K = K} {V = V} (event.Flush g) q.0) (sym st.2) tt
  keeps_row _ _ is st = absurd is

-- as it begins it is of that kind
module _ {K V S : Type 0} (p : Scheduler K V S) (slot size : ℕ) where
  left_so : (guard : List ℕ) (b : Bool) → IsRowFor {K = K} {V = V} (event.DropGuard guard) (begun_row slot size (if b then call.Leave else call.LeaveOwned))
  left_so guard true = refl
  left_so guard false = refl

  pub begins_row : (e : Event K V) (called : SlotCall) → IsItsRow e p slot called → IsRowFor e (begun_row slot size called)
  begins_row (event.Register r) called is = subst (λ (c : SlotCall). IsRowFor {K = K} {V = V} (event.Register r) (begun_row slot size c)) (sym is) (refl, λ e. cc e)
  begins_row (event.Own g) called is = subst (λ (c : SlotCall). IsRowFor {K = K} {V = V} (event.Own g) (begun_row slot size c)) (sym is) tt
  begins_row (event.Unregister r) called is = subst (λ (c : SlotCall). IsRowFor {K = K} {V = V} (event.Unregister r) (begun_row slot size c)) (sym is.0) tt
  begins_row (event.Enter g r) called is = subst (λ (c : SlotCall). IsRowFor {K = K} {V = V} (event.Enter g r) (begun_row slot size c)) (sym is.0) tt
  begins_row (event.Refresh g) called is = subst (λ (c : SlotCall). IsRowFor {K = K} {V = V} (event.Refresh g) (begun_row slot size c)) (sym is.0) tt
  begins_row (event.DropGuard g) called is =
      subst (λ (c : SlotCall). IsRowFor {K = K} {V = V} (event.DropGuard g) (begun_row slot size c)) (sym is.0) (left_so g (has_registration slot p.there.registrations))
  begins_row (event.Flush g) called is = subst (λ (c : SlotCall). IsRowFor {K = K} {V = V} (event.Flush g) (begun_row slot size c)) (sym is.0) tt
  begins_row _ called is = absurd is

-- The event may have what it does, on its slot.
module _ {K V S : Type 0} (names : Names) (m : Moment K V) (p : Scheduler K V S) (there : m.there ≡ p.there) (slot : ℕ) where
  lives_by : (b : Bool) (o : Option ℕ) → (if b then None else o) ≡ Some slot → o ≡ Some slot
  lives_by true o e = absurd (cc e)
  lives_by false o e = e

  is_under : (guard : List ℕ) (s : ℕ) → s ≡ slot → living_slot (guard_of guard p.there.guards) ≡ Some slot → living_slot (guard_of guard m.there.guards) ≡ Some s
  is_under guard s on lives = ap (λ (t : Present). living_slot (guard_of guard t.guards)) there ∙ lives ∙ ap Some (sym on)

  is_registered : (registration : List ℕ) (s : ℕ) → s ≡ slot → option_map (λ r. r.slot) (registration_of registration p.there.registrations) ≡ Some slot
      → option_map (λ r. r.slot) (registration_of registration m.there.registrations) ≡ Some s
  is_registered registration s on found = ap (λ (t : Present). option_map (λ r. r.slot) (registration_of registration t.registrations)) there ∙ found ∙ ap Some (sym on)

  free_lives : (guard : List ℕ) → free_slot guard p.there p.calls ≡ Some slot → living_slot (guard_of guard p.there.guards) ≡ Some slot
  free_lives guard free = lives_by _ (living_slot (guard_of guard p.there.guards)) free

  registers_so : (r : List ℕ) (s : ℕ) (stands : Registering) → (stands ≡ registers.Enter → ⊥) → MayHave names m (event.Register r) (registers_as stands s)
  registers_so r s registers.Begin never = tt
  registers_so r s registers.Look never = tt
  registers_so r s (registers.Widen bucket head) never = tt
  registers_so r s (registers.Take head) never = tt
  registers_so r s registers.Enter never = absurd (never refl)
  registers_so r s registers.Registered never = tt
  registers_so r s (registers.Refused fault) never = tt

  owns_so : (g : List ℕ) (s : ℕ) (stands : Registering) → MayHave names m (event.Own g) (registers_as stands s)
  owns_so g s registers.Begin = tt
  owns_so g s registers.Look = tt
  owns_so g s (registers.Widen bucket head) = tt
  owns_so g s (registers.Take head) = tt
  owns_so g s registers.Enter = tt
  owns_so g s registers.Registered = tt
  owns_so g s (registers.Refused fault) = tt

  refreshes_so : (g : List ℕ) (c : Leave) (stands : Leaving) → living_slot (guard_of g m.there.guards) ≡ Some c.slot → MayHave names m (event.Refresh g) (leaves_as c stands)
  refreshes_so g c leaves.Swaps lives = lives
  refreshes_so g c (leaves.Settles settle) lives = lives
  refreshes_so g c leaves.Frees lives = lives
  refreshes_so g c leaves.Over lives = by (c.becomes == ACTIVE)
    where
      by : (q : Bool) → MayHave names m (event.Refresh g) (if q then Opens c.slot else Leaves c.slot)
      by true = lives
      by false = lives

  drops_so : (g : List ℕ) (c : Leave) (stands : Leaving) → c.becomes ≡ IDLE → living_slot (guard_of g m.there.guards) ≡ Some c.slot → MayHave names m (event.DropGuard g) (leaves_as c stands)
  drops_so g c leaves.Swaps idle lives = lives
  drops_so g c (leaves.Settles settle) idle lives = lives
  drops_so g c leaves.Frees idle lives = lives
  drops_so g c leaves.Over idle lives =
      subst (λ (n : ℕ). MayHave names m (event.DropGuard g) (if n == ACTIVE then Opens c.slot else Leaves c.slot)) (sym idle) lives

  -- where other guards are on its slot, the event has no row
  pub shared : (e : Event K V) → IsAbout e p slot → HasNoRow e p.there slot → IsShared m e
  shared (event.Unregister r) about none = (slot, is_registered r slot refl about.0, (λ z. none (ap (λ (t : Present). guards_on slot t.guards) (sym there) ∙ z)))
  shared (event.Enter g r) about none = (slot, is_registered r slot refl about.1, (λ z. none (ap (λ (t : Present). guards_on slot t.guards) (sym there) ∙ z)))
  shared (event.Refresh g) about none = (slot, is_under g slot refl (free_lives g about), (λ z. none (ap (λ (t : Present). guards_on slot t.guards) (sym there) ∙ z)))
  shared (event.DropGuard g) about none = (slot, is_under g slot refl (free_lives g about), (λ z. none (ap (λ (t : Present). guards_on slot t.guards) (sym there) ∙ z)))
  shared _ about none = absurd none

  pub may_row : (e : Event K V) → IsAbout e p slot → (row : SlotRow) → IsRowFor e row → IsRowOn slot (row_of row) → MayHave names m e (row_deed row)
  may_row (event.Register r) about (rows.Registers c) is on = registers_so r c.slot c.stands is.1
  may_row (event.Own g) about (rows.Registers c) is on = owns_so g c.slot c.stands
  may_row (event.Unregister r) about (rows.Frees c) is on = is_registered r c.slot on about.0
  may_row (event.Enter g r) about (rows.Enters c) is on = is_registered r c.slot on about.1
  may_row (event.Refresh g) about (rows.Leaves c) is on = refreshes_so g c c.stands (is_under g c.slot on (free_lives g about))
  may_row (event.DropGuard g) about (rows.Leaves c) is on = drops_so g c c.stands is (is_under g c.slot on (free_lives g about))
  may_row (event.Flush g) about (rows.Flushes c) is on = is_under g c.slot on about
  may_row _ about row is on = absurd is

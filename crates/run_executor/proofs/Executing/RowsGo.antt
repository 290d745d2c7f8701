-- A step of a row on a slot, in the world: how the row goes on, and how slots are used then.
use Rattle.std.specs.Prelude.{◌≡◌, ◌<◌, ◌+◌, ◌==◌, ℕ, Bool, true, false, [], ◌∷◌, length, Option, Some, None, Ok, Err, nat_lt, slice_index_or, slice_set, if◌then◌else◌}
use Rattle.std.proofs.Common.{refl, sym, ap, subst, ◌∙◌, arith}
use Rattle.seize_words.specs.OneMemory.Mem.{Mem, Took, value_at}
use Rattle.seize_words.specs.OneMemory.Op.{Out, Found, Exchanged, Roomed}
use Rattle.seize_words.specs.OneMemory.Plan.{Steps, Ends}
use Rattle.seize_words.specs.declared.fault.Fault.{Fault}
use Rattle.seize_words.specs.declared.fault.Fault.TheVariants.{SlotsUsedUp}
use Rattle.seize.specs.declared.states.TheConstants.{LAST_SLOT, ACTIVE}
use Rattle.seize.specs.declared.advance.Advance.{Advance}
use Rattle.seize.specs.declared.advance.Advance.TheVariants as progress
use Rattle.seize.specs.declared.rows.enter.Enter.{Enter}
use Rattle.seize.specs.declared.rows.enter.Unregister.{Unregister}
use Rattle.seize.specs.declared.rows.leave.Leave.{Leave}
use Rattle.seize.specs.declared.rows.leave.Leaving.{Leaving}
use Rattle.seize.specs.declared.rows.leave.Leaving.TheVariants as leaves
use Rattle.seize.specs.declared.rows.register.Register.{Register}
use Rattle.seize.specs.declared.rows.register.Registering.{Registering}
use Rattle.seize.specs.declared.rows.register.Registering.TheVariants as registers
use Rattle.seize.specs.declared.rows.settle.Settle.{Settle}
use Rattle.seize.specs.declared.rows.settle.Settled.{Settled}
use Rattle.seize.specs.declared.rows.settle.Settled.TheVariants as settled
use Rattle.seize.specs.Enter.{enter_plan, unregister_plan}
use Rattle.seize.specs.Law.{Entered}
use Rattle.seize.specs.Leave as leave
use Rattle.seize.specs.Register as register
use Rattle.seize.specs.Settle.{settle_plan}
use Rattle.seize.specs.World.{World, Row, Rests, Registers, Enters, Settles, Leaves, Frees, Use, Vacant, Outside, Inside, left_as, left_row, with_at, with_use, after_step, settles_on, leaves_on, registers_on, registered_use, Steps'}
use Rattle.run_places.proofs.Given.SeizeMovesState.Ghost.{State}
use Rattle.run_places.proofs.Given.SeizeRuleRows.Known.{FitsRow, FitsRegister, FitsLeave}
use Rattle.run_places.proofs.Given.SeizeRuleRows.Others.{with_here}
use Rattle.run_places.proofs.Given.SeizeRuleRows.Teams.{shares}
use Rattle.run_places.proofs.Given.SeizeMemoryWords.Shows.{Extra}
use Rattle.run_places.proofs.Given.SeizeMemoryWords.View.{view}
use Rattle.papaya_raw.specs.Given.TablesNodes.{deferred_word}
use Rattle.papaya_raw.specs.Given.TablesDeclared.node.Node.{Node}
use Rattle.run_places.specs.Given.EffectsDeclared.changed.Changed.{Changed}
use Rattle.run_places.specs.Given.EffectsDeclared.changed.Changed.TheVariants.{Nothing}
use Rattle.run_places.specs.Given.CallersRows.{IsRowOn, LeavesSlots}
use Rattle.run_places.proofs.Given.CallersTogether.Slots.{alike_same, alike_at, step_leaves}
use Rattle.run_executor.specs.declared.executor.Executor.{Executor}
use Rattle.run_places.specs.Given.ScenesDeclared.row.RowTold.{RowTold}
use Rattle.run_places.specs.Given.ScenesDeclared.row.SlotChange.{SlotChange}
use Rattle.run_places.specs.Given.ScenesDeclared.row.SlotChange.TheVariants as change
use Rattle.run_places.specs.Given.ScenesDeclared.row.SlotRow.{SlotRow}
use Rattle.run_places.specs.Given.ScenesDeclared.row.SlotRow.TheVariants as rows
use Rattle.run_places.specs.Given.ScenesDeclared.row.SlotUse.{SlotUse}
use Rattle.run_places.specs.Given.ScenesDeclared.row.SlotUse.TheVariants as used
use Rattle.run_places.specs.Given.ScenesDeclared.callers.TheConstants.{SLOTS}
use Rattle.run_executor.proofs.Executing.Again.{used_on}
use Rattle.run_executor.proofs.Executing.Uses.{reached, used_then}
use Rattle.run_executor.specs.Executing.IsThere.{HasRow, IsThere, IsUsedAs, use_at}
use Rattle.run_executor.specs.Executing.OnSlots.{row_on}
use Rattle.run_places.proofs.Given.ScenesOnSlots.{left_at}
use Rattle.run_places.proofs.Given.ScenesTold.{as_step}
use Rattle.run_places.specs.Given.ScenesOnSlots.{RowSteps}
use Rattle.run_places.specs.Given.ScenesRows.{change_of, left_by, of_registering, of_settling, of_storing, taken_as, uses_after}
use Rattle.run_places.specs.Given.ScenesScene.{Scene, row_of}

-- a registering answers the slot that it stands at
module _ {T : Type 0} (shown : ℕ → Option T) (c c2 : Register) (slot : ℕ) where
  abbrev Is : Register × Advance ℕ → Type 0
  Is end = (c2, progress.Done slot) ≡ end

  by_registered : Is (register.registered c) → slot ≡ c.slot
  by_registered is = same (ap (λ (x : Register × Advance ℕ). x.1) is)
    where
      same : ◌≡◌ {A = Advance ℕ} (progress.Done slot) (progress.Done c.slot) → slot ≡ c.slot
      same is = cc is

  not_going : (d : Register) → Is (d, progress.Goes) → slot ≡ c.slot
  not_going d is = absurd (let p = ap (λ (x : Register × Advance ℕ). x.1) is in cc p)

  not_refused : (d : Register) (fault : Fault) → Is (d, progress.Refused fault) → slot ≡ c.slot
  not_refused d fault is = absurd (let p = ap (λ (x : Register × Advance ℕ). x.1) is in cc p)

  by_further : (b : Bool) → Is (if b then register.going (record c { slot = c.slot + 1 }) registers.Look else register.refused c SlotsUsedUp) → slot ≡ c.slot
  by_further true is = not_going _ is
  by_further false is = not_refused _ _ is

  by_taking : (seen : ℕ) (bucket : Option ℕ) → Is (register.taking c seen bucket) → slot ≡ c.slot
  by_taking seen None is = not_going _ is
  by_taking seen (Some bucket) is = not_going _ is

  by_looked : (head : ℕ) (b : Bool) → Is (if b then register.taking c head (register.bucket_needed c.slot) else register.further c) → slot ≡ c.slot
  by_looked head true is = by_taking head (register.bucket_needed c.slot) is
  by_looked head false is = by_further (nat_lt c.slot LAST_SLOT) is

  by_taken : (b : Bool) → Is (if b then register.going c registers.Enter else register.registered c) → slot ≡ c.slot
  by_taken true is = not_going _ is
  by_taken false is = by_registered is

  begun_at : (out : Out T) → Ends shown (register.begun c out) (c2, progress.Done slot) → slot ≡ c.slot
  begun_at (Roomed (Ok made)) is = not_going _ is
  begun_at (Roomed (Err fault)) is = not_refused _ _ is
  begun_at _ is = not_going _ is

  looked_at : (out : Out T) → Ends shown (register.looked c out) (c2, progress.Done slot) → slot ≡ c.slot
  looked_at (Found head) is = by_looked head (register.can_be_taken head) is
  looked_at _ is = not_going _ is

  widened_at : (seen : ℕ) (out : Out T) → Ends shown (register.widened c seen out) (c2, progress.Done slot) → slot ≡ c.slot
  widened_at seen (Roomed (Ok made)) is = not_going _ is
  widened_at seen (Roomed (Err fault)) is = not_refused _ _ is
  widened_at seen _ is = not_going _ is

  taken_at : (out : Out T) → Ends shown (register.taken c out) (c2, progress.Done slot) → slot ≡ c.slot
  taken_at (Exchanged (Ok found)) is = by_taken c.enters is
  taken_at (Exchanged (Err found)) is = by_further (nat_lt c.slot LAST_SLOT) is
  taken_at _ is = not_going _ is

module _ {T : Type 0} (c c2 : Register) (slot : ℕ) (m m2 : Mem T) where
  registered_at : (p : Registering) → Steps Took value_at m (register.plan_at c p) m2 (c2, progress.Done slot) → slot ≡ c.slot
  registered_at registers.Begin st = begun_at (value_at m2) c c2 slot st.0 st.2
  registered_at registers.Look st = looked_at (value_at m2) c c2 slot st.0 st.2
  registered_at (registers.Widen bucket seen) st = widened_at (value_at m2) c c2 slot seen st.0 st.2
  registered_at (registers.Take seen) st = taken_at (value_at m2) c c2 slot st.0 st.2
  registered_at registers.Enter st = by_registered (value_at m2) c c2 slot st.2
  registered_at registers.Registered st = same (ap (λ (x : Register × Advance ℕ). x.1) st.1)
    where
      same : ◌≡◌ {A = Advance ℕ} (progress.Done slot) (progress.Done c.slot) → slot ≡ c.slot
      same is = cc is
  registered_at (registers.Refused fault) st = not_refused (value_at m2) c c2 slot c fault st.1

-- a slot that a row works on is one of so many
module _ (i : ℕ) (m : State) (x : Extra) where
  register_within : (k slot : ℕ) (p : Registering) → FitsRegister (LAST_SLOT + 1) i m x k slot p → slot < SLOTS
  register_within k slot registers.Begin h = omega (arith, h.slot_lt)
  register_within k slot registers.Look h = omega (arith, h.slot_lt)
  register_within k slot (registers.Widen bucket seen) h = omega (arith, h.sees.looks.slot_lt)
  register_within k slot (registers.Take seen) h = omega (arith, h.sees.looks.slot_lt)
  register_within k slot registers.Enter h = omega (arith, h.slot_lt)
  register_within k slot registers.Registered h = absurd h
  register_within k slot (registers.Refused fault) h = absurd h

-- a slot that is taken is used as it says
taken_so : (p : Registering) → IsUsedAs (taken_as p) (registered_use p)
taken_so registers.Enter = (0, refl)
taken_so _ = (0, refl)

module _ {K V S : Type 0} (same : K → K → Bool) (hash : K → ℕ) (e : Executor K V S) (s : Scene K V) (at : IsThere same hash e s) (i : ℕ) where
  abbrev uses_then : SlotChange → RowTold (Node K V) → World (Node K V) → Type 0
  uses_then change told w2 = (t : ℕ) → IsUsedAs (slice_index_or (uses_after change told e.slots.items) t used.Vacant) (w2.uses t)

  -- where a step of a row leads
  pub record Goes (row : SlotRow) (m2 : Mem (Node K V)) (end : SlotRow × RowTold (Node K V)) : Type 0 where
    pub w2 : World (Node K V)
    pub step : Steps' deferred_word i (row_of row) s.world w2
    pub memory : w2.memory ≡ m2
    pub row_is : HasRow (row_on {K = K} {V = V} end.0 end.1) (w2.row i)
    pub on_slot : (slot : ℕ) → IsRowOn slot (row_of row) → IsRowOn slot (w2.row i)
    pub uses : uses_then (change_of row) end.1 w2

  fits : (row : Row) → s.world.row i ≡ row → FitsRow (LAST_SLOT + 1) i (view deferred_word s.world.memory) (reached same hash e s at).good.state (reached same hash e s at).good.extra (length s.world.memory.slots) row
  fits row is = subst (FitsRow (LAST_SLOT + 1) i (view deferred_word s.world.memory) (reached same hash e s at).good.state (reached same hash e s at).good.extra (length s.world.memory.slots)) is ((reached same hash e s at).good.rows i)

  used_so : (slot : ℕ) → slot < SLOTS → (v : SlotUse) (u : Use) → IsUsedAs v u → (t : ℕ) → IsUsedAs (slice_index_or (slice_set e.slots.items slot v) t used.Vacant) (with_at s.world.uses slot u t)
  used_so slot within v u is = used_then e.slots.items s.world.uses at.uses slot (omega (arith, within, at.slots)) v u is

  here : (row : Row) → with_at s.world.row i row i ≡ row
  here row = with_here s.world.row i row

  module _ (m2 : Mem (Node K V)) where
    registers_go : (c c2 : Register) (p : Advance ℕ) → c.slot < SLOTS → Steps Took value_at s.world.memory (register.register_plan c) m2 (c2, p)
        → Goes (rows.Registers c) m2 (rows.Registers c2, of_registering p)
    registers_go c c2 progress.Goes within st = record {
      w2 = registers_on s.world i c m2 (c2, progress.Goes);
      step = (m2, (c2, progress.Goes), st, refl);
      memory = refl;
      row_is = here (Registers c2);
      on_slot = λ slot on. subst (IsRowOn slot) (sym (here (Registers c2))) tt;
      uses = at.uses;
    }
    registers_go c c2 progress.Waits within st = record {
      w2 = registers_on s.world i c m2 (c2, progress.Waits);
      step = (m2, (c2, progress.Waits), st, refl);
      memory = refl;
      row_is = here (Registers c2);
      on_slot = λ slot on. subst (IsRowOn slot) (sym (here (Registers c2))) tt;
      uses = at.uses;
    }
    registers_go c c2 (progress.Done slot) within st = record {
      w2 = registers_on s.world i c m2 (c2, progress.Done slot);
      step = (m2, (c2, progress.Done slot), st, refl);
      memory = refl;
      row_is = here Rests;
      on_slot = λ slot on. subst (IsRowOn slot) (sym (here Rests)) tt;
      uses = used_so slot (subst (λ (x : ℕ). x < SLOTS) (sym (registered_at c c2 slot s.world.memory m2 c.stands st)) within) (taken_as c.stands) (registered_use c.stands) (taken_so c.stands);
    }
    registers_go c c2 (progress.Refused fault) within st = record {
      w2 = registers_on s.world i c m2 (c2, progress.Refused fault);
      step = (m2, (c2, progress.Refused fault), st, refl);
      memory = refl;
      row_is = here Rests;
      on_slot = λ slot on. subst (IsRowOn slot) (sym (here Rests)) tt;
      uses = at.uses;
    }

    -- a row of one store has ended
    has_ended : (told : Advance Unit) (row : SlotRow) → told ≡ progress.Done tt → (it : Row) → it ≡ Rests → HasRow (row_on {K = K} {V = V} row (of_storing told)) it
    has_ended told row is it rests = subst (λ (x : Advance Unit). HasRow (row_on {K = K} {V = V} row (of_storing x)) it) (sym is) rests

    enters_go : (c c2 : Enter) (p : Advance Unit) → c.slot < SLOTS → Steps Took value_at s.world.memory (enter_plan c) m2 (c2, p) → Goes (rows.Enters c) m2 (rows.Enters c2, of_storing p)
    enters_go c c2 p within st = record {
      w2 = with_use (after_step s.world i m2 Rests (Entered c.slot ∷ [])) c.slot (Inside 0);
      step = (m2, (c2, p), st, refl);
      memory = refl;
      row_is = has_ended p (rows.Enters c2) (ap (λ (x : Enter × Advance Unit). x.1) st.2) _ (here Rests);
      on_slot = λ slot on. subst (IsRowOn slot) (sym (here Rests)) tt;
      uses = used_so c.slot within used.Inside (Inside 0) (0, refl);
    }

    frees_go : (c c2 : Unregister) (p : Advance Unit) → c.slot < SLOTS → Steps Took value_at s.world.memory (unregister_plan c) m2 (c2, p) → Goes (rows.Frees c) m2 (rows.Frees c2, of_storing p)
    frees_go c c2 p within st = record {
      w2 = with_use (after_step s.world i m2 Rests []) c.slot Vacant;
      step = (m2, (c2, p), st, refl);
      memory = refl;
      row_is = has_ended p (rows.Frees c2) (ap (λ (x : Unregister × Advance Unit). x.1) st.2) _ (here Rests);
      on_slot = λ slot on. subst (IsRowOn slot) (sym (here Rests)) tt;
      uses = used_so c.slot within used.Vacant Vacant refl;
    }

    -- a flush shares its slot
    settles_go : (c c2 : Settle) (p : Settled (Node K V)) → s.world.row i ≡ Settles c → Steps Took value_at s.world.memory (settle_plan deferred_word c) m2 (c2, p)
        → Goes (rows.Flushes c) m2 (rows.Flushes c2, of_settling p)
    settles_go c c2 p is st = record {
      w2 = settles_on s.world i c m2 (c2, p);
      step = (m2, (c2, p), st, refl);
      memory = by_memory p;
      row_is = by_row p;
      on_slot = λ slot on. (leaves_so slot).on_slot (subst (IsRowOn slot) (sym is) on);
      uses = λ t. used_on (use_at e t) (s.world.uses t) _ (at.uses t) ((leaves_so 0).uses t);
    }
      where
        leaves_so : (slot : ℕ) → LeavesSlots slot i s.world (settles_on s.world i c m2 (c2, p))
        leaves_so slot =
            step_leaves deferred_word e.batch_size s.world (reached same hash e s at) i (settles_on s.world i c m2 (c2, p)) slot (ap shares is)
            (subst (λ (r : Row). Steps' deferred_word i r s.world (settles_on s.world i c m2 (c2, p))) (sym is) (m2, (c2, p), st, refl))

        by_memory : (p : Settled (Node K V)) → (settles_on s.world i c m2 (c2, p)).memory ≡ m2
        by_memory settled.Goes = refl
        by_memory settled.Waits = refl
        by_memory (settled.Gave value) = refl
        by_memory settled.Done = refl

        by_row : (p : Settled (Node K V)) → HasRow (row_on {K = K} {V = V} (rows.Flushes c2) (of_settling p)) ((settles_on s.world i c m2 (c2, p)).row i)
        by_row settled.Goes = here (Settles c2)
        by_row settled.Waits = here (Settles c2)
        by_row (settled.Gave value) = here (Settles c2)
        by_row settled.Done = here Rests

    -- how the slot is used that is left
    module _ (c : Leave) (fits_leave : FitsLeave (LAST_SLOT + 1) i (view deferred_word s.world.memory) (reached same hash e s at).good.state (reached same hash e s at).good.extra c.slot c.becomes c.frees c.stands)
        (told : RowTold (Node K V)) where
      abbrev Left : SlotChange → Use → Type 0
      Left change u = (t : ℕ) → IsUsedAs (slice_index_or (uses_after change told e.slots.items) t used.Vacant) (with_at s.world.uses c.slot u t)

      stays : Left change.Stays (s.world.uses c.slot)
      stays t = used_on (use_at e t) (s.world.uses t) _ (at.uses t) (alike_at s.world.uses c.slot (s.world.uses c.slot) (alike_same (s.world.uses c.slot)) t)

      enters_again : (b : Bool) → c.slot < SLOTS
          → Left (if b then change.Becomes c.slot used.Inside else change.Becomes c.slot used.Outside) (if b then Inside 0 else Outside 0)
      enters_again true within = used_so c.slot within used.Inside (Inside 0) (0, refl)
      enters_again false within = used_so c.slot within used.Outside (Outside 0) (0, refl)

      over : (frees : Bool) → FitsLeave (LAST_SLOT + 1) i (view deferred_word s.world.memory) (reached same hash e s at).good.state (reached same hash e s at).good.extra c.slot c.becomes frees leaves.Over
          → Left (if frees then change.Stays else (if c.becomes == ACTIVE then change.Becomes c.slot used.Inside else change.Becomes c.slot used.Outside))
          (if c.becomes == ACTIVE then Inside 0 else (if frees then s.world.uses c.slot else Outside 0))
      over true h = subst (λ (b : ℕ). Left change.Stays (if b == ACTIVE then Inside 0 else s.world.uses c.slot)) (sym h.1) stays
      over false h = enters_again (c.becomes == ACTIVE) (omega (arith, h.2.slot_lt))

      left_so : (p : Leaving) → FitsLeave (LAST_SLOT + 1) i (view deferred_word s.world.memory) (reached same hash e s at).good.state (reached same hash e s at).good.extra c.slot c.becomes c.frees p
          → Left (left_by c p) (left_as c p (s.world.uses c.slot))
      left_so leaves.Swaps h = stays
      left_so (leaves.Settles settle) h = stays
      left_so leaves.Frees h = used_so c.slot (omega (arith, h.on.slot_lt)) used.Vacant Vacant refl
      left_so leaves.Over h = over c.frees h

    leaves_go : (c c2 : Leave) (p : Settled (Node K V)) → s.world.row i ≡ Leaves c → Steps Took value_at s.world.memory (leave.leave_plan deferred_word c) m2 (c2, p)
        → Goes (rows.Leaves c) m2 (rows.Leaves c2, of_settling p)
    leaves_go c c2 p is st = record {
      w2 = leaves_on s.world i c m2 (c2, p);
      step = (m2, (c2, p), st, refl);
      memory = refl;
      row_is = by_row p;
      on_slot = λ slot on. subst (IsRowOn slot) (sym (here (left_row c2 p))) (by_slot slot p on);
      uses = left_so c (fits (Leaves c) is) (of_settling p) c.stands (fits (Leaves c) is);
    }
      where
        by_row : (p : Settled (Node K V)) → HasRow (row_on {K = K} {V = V} (rows.Leaves c2) (of_settling p)) ((leaves_on s.world i c m2 (c2, p)).row i)
        by_row settled.Goes = here (Leaves c2)
        by_row settled.Waits = here (Leaves c2)
        by_row (settled.Gave value) = here (Leaves c2)
        by_row settled.Done = here Rests

        kept : c2.slot ≡ c.slot
        kept = left_at deferred_word c s.world.memory m2 (c2, p) c.stands st

        by_slot : (slot : ℕ) (p : Settled (Node K V)) → c.slot ≡ slot → IsRowOn slot (left_row c2 p)
        by_slot slot settled.Goes on = kept ∙ on
        by_slot slot settled.Waits on = kept ∙ on
        by_slot slot (settled.Gave value) on = kept ∙ on
        by_slot slot settled.Done on = tt

    -- whichever row it is
    pub goes : (row : SlotRow) (changed : Changed) (end : SlotRow × RowTold (Node K V)) → s.world.row i ≡ row_of row → RowSteps K V row s.world.memory m2 changed end → Goes row m2 end
    goes (rows.Registers c) changed end is st =
        subst (Goes (rows.Registers c) m2) (sym st.2)
        (registers_go c st.0.0 st.0.1 (register_within i (reached same hash e s at).good.state (reached same hash e s at).good.extra (length s.world.memory.slots) c.slot c.stands (fits (Registers c) is))
        (as_step s.world.memory Nothing (register.register_plan c) m2 changed st.0 st.1))
    goes (rows.Enters c) changed end is st =
        subst (Goes (rows.Enters c) m2) (sym st.2) (enters_go c st.0.0 st.0.1 (omega (arith, (fits (Enters c) is).slot_lt)) (as_step s.world.memory Nothing (enter_plan c) m2 changed st.0 st.1))
    goes (rows.Leaves c) changed end is st =
        subst (Goes (rows.Leaves c) m2) (sym st.2) (leaves_go c st.0.0 st.0.1 is (as_step s.world.memory Nothing (leave.leave_plan deferred_word c) m2 changed st.0 st.1))
    goes (rows.Flushes c) changed end is st =
        subst (Goes (rows.Flushes c) m2) (sym st.2) (settles_go c st.0.0 st.0.1 is (as_step s.world.memory Nothing (settle_plan deferred_word c) m2 changed st.0 st.1))
    goes (rows.Frees c) changed end is st =
        subst (Goes (rows.Frees c) m2) (sym st.2) (frees_go c st.0.0 st.0.1 (omega (arith, (fits (Frees c) is).slot_lt)) (as_step s.world.memory Nothing (unregister_plan c) m2 changed st.0 st.1))

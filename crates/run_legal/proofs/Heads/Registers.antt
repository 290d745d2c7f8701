-- A row that registers takes one slot at most, the first that was never taken, or one that was; and so a row of a caller leaves so many slots taken as it tells.
use Rattle.std.specs.Prelude.{◌<◌, max, nat_lt, eqb, Bool, true, false, Option, Some, None, IsSome, Ok, Err, if◌then◌else◌, length}
use Rattle.std.proofs.Common.{◌≡◌, ℕ, zero, suc, ◌+◌, ◌≤◌, eqb-true, refl, ap, sym, subst, ◌∙◌, arith, inl, inr}
use Rattle.std.proofs.lemmas.Bool.{eqb-false}
use Rattle.run_grows.specs.Given.SeizeWordsMem.{Mem, Took, after, value_at, with_word, word_at}
use Rattle.run_grows.specs.Given.SeizeWordsOp.{Out, Room, Roomed}
use Rattle.run_grows.specs.Given.SeizeWordsPlan.{Ends, Now, Steps}
use Rattle.run_grows.specs.Given.SeizeWordsDeclared.at.At.TheVariants.{Slot}
use Rattle.run_grows.specs.Given.SeizeWordsDeclared.fault.Fault.TheVariants.{SlotsUsedUp}
use Rattle.run_grows.proofs.Given.SeizeWordsOneOwner.Operations.{exchanged, loaded, stored}
use Rattle.run_grows.specs.Given.SeizeRegister.{begun, can_be_taken, further, going, looked, plan_at, refused, register_plan, registered, taken, taking, widened, bucket_needed}
use Rattle.run_grows.specs.Given.SeizeWorld.{World, Registers, SlotsTaken}
use Rattle.run_grows.specs.Given.SeizeDeclared.advance.Advance.{Advance}
use Rattle.run_grows.specs.Given.SeizeDeclared.advance.Advance.TheVariants as progress
use Rattle.run_grows.specs.Given.SeizeDeclared.rows.register.Register.{Register}
use Rattle.run_grows.specs.Given.SeizeDeclared.rows.register.Registering.{Registering}
use Rattle.run_grows.specs.Given.SeizeDeclared.rows.register.Registering.TheVariants as at
use Rattle.run_grows.specs.Given.SeizeDeclared.states.TheConstants.{ACTIVE, HEAD, IDLE, LAST_SLOT}
use Rattle.run_grows.proofs.Given.SeizeMovesState.Ghost.{is_never}
use Rattle.run_grows.proofs.Given.SeizeRulePoints.Known.{TakenBelow}
use Rattle.run_grows.proofs.Given.SeizeRulePoints.Try.{never_word}
use Rattle.run_grows.proofs.Given.SeizeRuleRows.Known.{FitsRegister}
use Rattle.run_grows.proofs.Given.SeizeRuleRows.Register.{room_view}
use Rattle.run_grows.proofs.Given.SeizeMemoryWords.Named.{words_of}
use Rattle.run_grows.proofs.Given.SeizeMemoryWords.View.{View, view}
use Rattle.run_grows.proofs.Given.SeizeRuleWorld.Good.{Good}
use Rattle.run_grows.specs.Given.TablesNodes.{deferred_word}
use Rattle.run_grows.specs.Given.TablesDeclared.node.Node.{Node}
use Rattle.run_grows.specs.Given.EffectsDeclared.changed.Changed.{Changed}
use Rattle.run_grows.specs.Given.EffectsDeclared.changed.Changed.TheVariants.{Nothing}
use Rattle.run_grows.proofs.Given.CallersTogether.Came.{came_reached}
use Rattle.run_grows.specs.Given.ScenesDeclared.row.RowTold.{RowTold}
use Rattle.run_grows.specs.Given.ScenesDeclared.row.RowTold.TheVariants as told
use Rattle.run_grows.specs.Given.ScenesDeclared.row.SlotCall.{SlotCall}
use Rattle.run_grows.specs.Given.ScenesDeclared.row.SlotCall.TheVariants as call
use Rattle.run_grows.specs.Given.ScenesDeclared.row.SlotRow.{SlotRow}
use Rattle.run_grows.specs.Given.ScenesDeclared.row.SlotRow.TheVariants as rows
use Rattle.run_grows.specs.Given.ExecutorDeclared.executor.Executor.{Executor}
use Rattle.run_grows.specs.Given.ExecutorDeclared.worker.Work.TheVariants.{OnSlot}
use Rattle.run_grows.specs.Given.ExecutorIsThere.{IsThere, held_by, work_of}
use Rattle.run_grows.specs.Given.ExecutorOnSlots.{RowStepHasOutcome, row_on}
use Rattle.run_grows.proofs.Given.ExecutorRowLeads.{has_row, held_row}
use Rattle.run_logged.specs.Log.OnSlots.{ContinuesFor, OnSlotLast, StepsOn, has_come}
use Rattle.run_legal.proofs.Heads.Rows.{KeepsTaken, Off, elsewhere, fits_at, from_up_to, idle_some, is_taken, no_change, now, positive, same_taken, slots_stay, step_taken, taken_word_of, up_to, written}
use Rattle.run_grows.proofs.Given.ScenesTold.{as_step}
use Rattle.run_grows.specs.Given.ScenesHeld.{Held, IsAt}
use Rattle.run_grows.specs.Given.ScenesOnSlots.{RowLeads, RowSteps}
use Rattle.run_grows.specs.Given.ScenesRows.{begun_row, of_registering}
use Rattle.run_grows.specs.Given.ScenesScene.{IsOnSlot, Scene, row_of}
use Rattle.run_grows.proofs.Given.General.{less_not as le_of, less_so as lt_of}

some_lt : (n : ℕ) → 0 < n → nat_lt 0 n ≡ true
some_lt n more = grind (arith, more)

-- it has taken its slot
abbrev pub has_taken : Registering → Bool
has_taken at.Enter = true
has_taken at.Registered = true
has_taken _ = false

module _ {T : Type 0} (k : ℕ) where
  -- so many slots were taken, as it stands
  abbrev pub RegisterSo : Mem T → Register → Type 0
  RegisterSo m c = SlotsTaken m (if has_taken c.stands then max k (c.slot + 1) else k)

  -- and after a step that told this
  abbrev pub ToldSo : Mem T → Register → Advance ℕ → Type 0
  ToldSo m c progress.Goes = RegisterSo m c
  ToldSo m c progress.Waits = ⊥
  ToldSo m c (progress.Done slot) = SlotsTaken m (max k (slot + 1))
  ToldSo m c (progress.Refused fault) = SlotsTaken m k

  abbrev pub EndSo : Mem T → Register × Advance ℕ → Type 0
  EndSo m end = ToldSo m end.0 end.1

module _ {T : Type 0} {size : ℕ} (defers : T → Option ℕ) (w : World T) (good : Good defers (LAST_SLOT + 1) size w) (i k : ℕ) (m2 : Mem T) (end : Register × Advance ℕ) where
  ends_so : (x : Register × Advance ℕ) → end ≡ x → EndSo k m2 x → EndSo k m2 end
  ends_so x is so = subst (λ (y : Register × Advance ℕ). EndSo k m2 y) (sym is) so

  module _ (slot : ℕ) (enters : Bool) where
    abbrev c : Registering → Register
    c p = record { slot = slot; enters = enters; stands = p }

    -- it goes on without a slot
    further_so : (p : Registering) → SlotsTaken m2 k → EndSo k m2 (further (c p))
    further_so p so = by (nat_lt slot LAST_SLOT)
      where
        by : (q : Bool) → EndSo k m2 (if q then going (record (c p) { slot = slot + 1 }) at.Look else refused (c p) SlotsUsedUp)
        by true = so
        by false = so

    taking_so : (p : Registering) (seen : ℕ) → SlotsTaken m2 k → (o : Option ℕ) → EndSo k m2 (taking (c p) seen o)
    taking_so p seen so (Some bucket) = so
    taking_so p seen so None = so

    looked_so : (p : Registering) (head : ℕ) → SlotsTaken m2 k → EndSo k m2 (if can_be_taken head then taking (c p) head (bucket_needed slot) else further (c p))
    looked_so p head so = by (can_be_taken head)
      where
        by : (q : Bool) → EndSo k m2 (if q then taking (c p) head (bucket_needed slot) else further (c p))
        by true = taking_so p head so (bucket_needed slot)
        by false = further_so p so

    -- room leaves heads
    room_taken : (bucket : ℕ) (out : Out T) → m2 ≡ after w.memory (Room bucket) out → SlotsTaken w.memory k → SlotsTaken m2 k
    room_taken bucket out is so = slots_stay w.memory m2 k (subst (λ (x : Mem T). KeepsTaken w.memory x) (sym is) (heads out)) so
      where
        heads : (o : Out T) → KeepsTaken w.memory (after w.memory (Room bucket) o)
        heads (Roomed (Ok made)) = same_taken w.memory (after w.memory (Room bucket) (Roomed (Ok made))) (λ s. ap (λ (g : View). g.heads s) (room_view defers w.memory bucket))
        heads _ = λ s. refl

    begun_so : SlotsTaken m2 k → (out : Out T) → Ends (value_at m2) (begun (c at.Begin) out) end → EndSo k m2 end
    begun_so so (Roomed (Ok made)) is = ends_so (going (c at.Begin) at.Look) is so
    begun_so so (Roomed (Err fault)) is = ends_so (refused (c at.Begin) fault) is so
    begun_so so _ is = ends_so (c at.Begin, progress.Goes) is so

    widened_so : (bucket seen : ℕ) → SlotsTaken m2 k → (out : Out T) → Ends (value_at m2) (widened (c (at.Widen bucket seen)) seen out) end → EndSo k m2 end
    widened_so bucket seen so (Roomed (Ok made)) is = ends_so (going (c (at.Widen bucket seen)) (at.Take seen)) is so
    widened_so bucket seen so (Roomed (Err fault)) is = ends_so (refused (c (at.Widen bucket seen)) fault) is so
    widened_so bucket seen so _ is = ends_so (c (at.Widen bucket seen), progress.Goes) is so

    -- a slot that was taken at some time
    ever_taken : (t : ℕ) → is_never (good.state.head t) ≡ false → is_taken w.memory t ≡ true
    ever_taken t ever =
        (let more =
        positive (words_of w.memory (Slot t HEAD)) (λ none.
        (let never = never_word (view defers w.memory).links (words_of w.memory (Slot t HEAD)) (good.state.head t) (good.shows.entries.headed t) none in cc (never, ever))) in
        some_lt (words_of w.memory (Slot t HEAD)) more)

    -- it takes its slot, behind which none was taken that is not below it
    takes_so : (m3 : Mem T) → m3 ≡ with_word w.memory (Slot slot HEAD) IDLE → IsSome (word_at w.memory (Slot slot HEAD)) → TakenBelow good.state.head slot → SlotsTaken w.memory k
        → SlotsTaken m3 (max k (slot + 1))
    takes_so m3 is some below so = subst (λ (x : Mem T). SlotsTaken x (max k (slot + 1))) (sym is)
        (from_up_to (with_word w.memory (Slot slot HEAD) IDLE) (max k (slot + 1)) (λ s l. first s l (eqb s slot) refl, λ s le. behind s le (eqb s slot) refl))
      where
        up : ((s : ℕ) → s < k → is_taken w.memory s ≡ true) × ((s : ℕ) → k ≤ s → is_taken w.memory s ≡ false)
        up = up_to w.memory k so

        here : is_taken (with_word w.memory (Slot slot HEAD) IDLE) slot ≡ true
        here = ap (nat_lt 0) (now w.memory slot IDLE some)

        was : (s : ℕ) → s < max k (slot + 1) → (s ≡ slot → ⊥) → (q : Bool) → nat_lt s k ≡ q → is_taken w.memory s ≡ true
        was s l ne true low = up.0 s (lt_of s k low)
        was s l ne false high = ever_taken s (below s (let h = le_of s k high in omega (arith, l, ne, h)))

        first : (s : ℕ) → s < max k (slot + 1) → (q : Bool) → eqb s slot ≡ q → is_taken (with_word w.memory (Slot slot HEAD) IDLE) s ≡ true
        first s l true e = subst (λ (x : ℕ). is_taken (with_word w.memory (Slot slot HEAD) IDLE) x ≡ true) (sym (eqb-true s slot e)) here
        first s l false e = ap (nat_lt 0) (elsewhere w.memory slot IDLE some s e) ∙ was s l (eqb-false s slot e) (nat_lt s k) refl

        behind : (s : ℕ) → max k (slot + 1) ≤ s → (q : Bool) → eqb s slot ≡ q → is_taken (with_word w.memory (Slot slot HEAD) IDLE) s ≡ false
        behind s le true e = absurd (let same = eqb-true s slot e in omega (arith, same, le))
        behind s le false e = ap (nat_lt 0) (elsewhere w.memory slot IDLE some s e) ∙ up.1 s (omega (arith, le))

    pub register_at : (p : Registering) → FitsRegister (LAST_SLOT + 1) i good.state good.extra (length w.memory.slots) slot p → RegisterSo k w.memory (c p)
        → Steps Took value_at w.memory (plan_at (c p) p) m2 end → EndSo k m2 end
    register_at at.Begin fits so st = begun_so (room_taken 0 st.0 st.1.1 so) st.0 st.2
    register_at at.Look fits so st =
        let d = loaded w.memory (looked (c at.Look)) (Slot slot HEAD) m2 end st in
        ends_so (if can_be_taken d.0 then taking (c at.Look) d.0 (bucket_needed slot) else further (c at.Look)) d.3
        (looked_so at.Look d.0 (slots_stay w.memory m2 k (no_change w.memory m2 d.2) so))
    register_at (at.Widen bucket seen) fits so st = widened_so bucket seen (room_taken bucket st.0 st.1.1 so) st.0 st.2
    register_at (at.Take seen) fits so st =
        elim (exchanged w.memory (taken (c (at.Take seen))) (Slot slot HEAD) seen IDLE m2 end st) as (λ _. EndSo k m2 end) [
          | inl d ↦ (let takes = takes_so m2 d.2 (subst (λ (o : Option ℕ). IsSome o) (sym d.1.0) refl) fits.sees.looks.below so in
              ends_so (if enters then going (c (at.Take seen)) at.Enter else registered (c (at.Take seen))) d.3 (by takes enters))
          | inr d ↦ ends_so (further (c (at.Take seen))) d.3 (further_so (at.Take seen) (slots_stay w.memory m2 k (no_change w.memory m2 d.2) so))
        ]
      where
        by : SlotsTaken m2 (max k (slot + 1)) → (q : Bool) → EndSo k m2 (if q then going (c (at.Take seen)) at.Enter else registered (c (at.Take seen)))
        by takes true = takes
        by takes false = takes
    register_at at.Enter fits so st =
        let d = stored {R = Register × Advance ℕ} w.memory (λ out. Now (registered (c at.Enter))) (Slot slot HEAD) ACTIVE m2 end st in
        ends_so (registered (c at.Enter)) d.1
        (subst (λ (x : Mem T). SlotsTaken x (max k (slot + 1))) (sym d.0)
        (slots_stay w.memory (with_word w.memory (Slot slot HEAD) ACTIVE) (max k (slot + 1)) (written w.memory slot ACTIVE (there fits) (omega arith) (idle_some defers w good i slot fits)) so))
      where
        there : FitsRegister (LAST_SLOT + 1) i good.state good.extra (length w.memory.slots) slot at.Enter → IsSome (word_at w.memory (Slot slot HEAD))
        there f =
            let some = idle_some defers w good i slot f in
            let it = taken_word_of w.memory slot (some_lt (words_of w.memory (Slot slot HEAD)) some) in
            subst (λ (o : Option ℕ). IsSome o) (sym it.1) refl
    register_at at.Registered fits so st = absurd fits
    register_at (at.Refused fault) fits so st = absurd fits

-- Rows of callers, from their beginnings to their ends.

-- a row that does not register
abbrev pub IsOther : SlotRow → Type 0
IsOther (rows.Registers c) = ⊥
IsOther _ = Unit {0}

abbrev pub IsOtherCall : SlotCall → Type 0
IsOtherCall (call.Register enters) = ⊥
IsOtherCall _ = Unit {0}

pub other_begun : (slot size : ℕ) (called : SlotCall) → IsOtherCall called → IsOther (begun_row slot size called)
other_begun slot size (call.Register enters) other = absurd other
other_begun slot size call.Enter other = tt
other_begun slot size call.Leave other = tt
other_begun slot size call.LeaveOwned other = tt
other_begun slot size call.Refresh other = tt
other_begun slot size call.Flush other = tt
other_begun slot size call.Unregister other = tt

other_off : (row : SlotRow) → IsOther row → Off (row_of row)
other_off (rows.Registers c) other = absurd other
other_off (rows.Enters c) other = tt
other_off (rows.Leaves c) other = tt
other_off (rows.Flushes c) other = tt
other_off (rows.Frees c) other = tt

module _ {K V : Type 0} where
  -- so many slots were taken once a row has told this that registers
  abbrev pub ThenSo : ℕ → Mem (Node K V) → RowTold (Node K V) → Type 0
  ThenSo k m (told.Registered slot) = SlotsTaken m (max k (slot + 1))
  ThenSo k m (told.Refused fault) = SlotsTaken m k
  ThenSo k m told = has_come told ≡ true → SlotsTaken m k

  then_so : (k : ℕ) (m : Mem (Node K V)) (c : Register) (p : Advance ℕ) → ToldSo k m c p → ThenSo k m (of_registering p)
  then_so k m c progress.Goes so = λ come. absurd (cc come)
  then_so k m c progress.Waits so = absurd so
  then_so k m c (progress.Done slot) so = so
  then_so k m c (progress.Refused fault) so = so

  other_after : (row : SlotRow) → IsOther row → (m m2 : Mem (Node K V)) (changed : Changed) (x : SlotRow × RowTold (Node K V)) → RowSteps K V row m m2 changed x → IsOther x.0
  other_after (rows.Registers c) other m m2 changed x steps = absurd other
  other_after (rows.Enters c) other m m2 changed x (end, steps, is) = subst (λ (y : SlotRow × RowTold (Node K V)). IsOther y.0) (sym is) tt
  other_after (rows.Leaves c) other m m2 changed x (end, steps, is) = subst (λ (y : SlotRow × RowTold (Node K V)). IsOther y.0) (sym is) tt
  other_after (rows.Flushes c) other m m2 changed x (end, steps, is) = subst (λ (y : SlotRow × RowTold (Node K V)). IsOther y.0) (sym is) tt
  other_after (rows.Frees c) other m m2 changed x (end, steps, is) = subst (λ (y : SlotRow × RowTold (Node K V)). IsOther y.0) (sym is) tt

  -- it goes on
  on_then : (row : SlotRow) (said : RowTold (Node K V)) → has_come said ≡ false → row_on {V = V} row said ≡ Some (OnSlot row)
  on_then row told.Goes going = refl
  on_then row (told.Gave value) going = refl
  on_then row _ going = absurd (cc going)

module _ {K V : Type 0} (same : K → K → Bool) (hash : ℕ → K → ℕ) (i k : ℕ) where
  module _ (s : Scene K V) (old new : Held K V) (at : IsAt same hash old s) (said : RowTold (Node K V)) (leads : RowLeads same hash i said s old new) where
    good : Good deferred_word (LAST_SLOT + 1) old.batch_size s.world
    good = (came_reached old.batch_size s.world at.together.makings.standing.came).good

    -- a step of one that does not register
    other_step : (row : SlotRow) (here : IsOnSlot s i row) → IsOther row → SlotsTaken old.memory k → SlotsTaken new.memory k
    other_step row here other so =
        let to = leads row here in
        let keeps = step_taken deferred_word s.world good i (s.world.row i) (subst Off (sym here.1) (other_off row other)) to.2.0 refl to.2.1 in
        subst (λ (x : Mem (Node K V)). SlotsTaken x k) to.2.4.memory
        (slots_stay s.world.memory to.2.0.memory k keeps (subst (λ (x : Mem (Node K V)). SlotsTaken x k) (sym at.memory) so))

    -- and of one that does
    register_step : (c : Register) (here : IsOnSlot s i (rows.Registers c)) → RegisterSo k old.memory c → (let to = leads (rows.Registers c) here in EndSo k new.memory to.1.0)
    register_step c here so =
        let to = leads (rows.Registers c) here in
        register_at deferred_word s.world good i k new.memory to.1.0 c.slot c.enters c.stands
        (fits_at deferred_word s.world good i (Registers c) here.1) (subst (λ (x : Mem (Node K V)). RegisterSo k x c) (sym at.memory) so)
        (subst (λ (x : Mem (Node K V)). Steps Took value_at x (register_plan c) new.memory to.1.0) (sym at.memory)
        (as_step old.memory Nothing (register_plan c) new.memory new.changed to.1.0 to.1.1))

module _ {K V S : Type 0} (same : K → K → Bool) (hash : K → ℕ) (i k : ℕ) where
  -- where the row of an executor's caller goes on
  pub record OthersGo (e : Executor K V S) : Type 0 where
    pub scene : Scene K V
    pub is_at : IsThere same hash e scene
    pub row : SlotRow
    pub here : work_of e i ≡ Some (OnSlot row)
    pub other : IsOther row
    pub taken : SlotsTaken e.memory.memory k

  pub record RegistersGo (e : Executor K V S) : Type 0 where
    pub scene : Scene K V
    pub is_at : IsThere same hash e scene
    pub register : Register
    pub here : work_of e i ≡ Some (OnSlot (rows.Registers register))
    pub taken : RegisterSo k e.memory.memory register

  module _ (mid new : Executor K V S) (said : RowTold (Node K V)) (step : StepsOn i said mid new) where
    other_goes : (r : OthersGo mid) → SlotsTaken new.memory.memory k
    other_goes r =
        let leads = step same hash r.scene r.is_at in
        other_step same (λ m. hash) i k r.scene (held_by mid) (held_by new) r.is_at.held said (held_row same hash r.scene mid new r.is_at i said leads) r.row (leads r.row r.here).0 r.other r.taken

    -- its step, as of the row that is on the slot
    abbrev registers_to : (r : RegistersGo mid) → RowStepHasOutcome same hash i said r.scene mid new (rows.Registers r.register)
    registers_to r =
        let leads = step same hash r.scene r.is_at in
        leads (rows.Registers r.register) (has_row same hash mid r.scene r.is_at i (rows.Registers r.register) (leads (rows.Registers r.register) r.here).0)

    register_goes : (r : RegistersGo mid) → EndSo k new.memory.memory (registers_to r).2.0
    register_goes r =
        let leads = step same hash r.scene r.is_at in
        register_step same (λ m. hash) i k r.scene (held_by mid) (held_by new) r.is_at.held said (held_row same hash r.scene mid new r.is_at i said leads) r.register
        (leads (rows.Registers r.register) r.here).0 r.taken

  others_go : (n : ℕ) (old new : Executor K V S) → ContinuesFor i n old new → OthersGo old → OthersGo new
  others_go zero old new gone q = subst OthersGo gone q
  others_go (suc n) old new (mid, said, gone, going, step) q =
      let r = others_go n old mid gone q in
      let to = step same hash r.scene r.is_at r.row r.here in
      record {
        scene = record r.scene { world = to.5.0; maps = to.5.2 };
        is_at = to.5.4;
        row = to.1;
        here = to.3 ∙ on_then to.1 said going;
        other = other_after r.row r.other mid.memory.memory new.memory.memory new.memory.changed (to.1, said) to.2;
        taken = other_goes mid new said step r;
      }

  registers_go : (n : ℕ) (old new : Executor K V S) → ContinuesFor i n old new → RegistersGo old → RegistersGo new
  registers_go zero old new gone q = subst RegistersGo gone q
  registers_go (suc n) old new (mid, said, gone, going, step) q =
      let r = registers_go n old mid gone q in
      let to = registers_to mid new said step r in
      let row_is : to.1 ≡ rows.Registers to.2.0.0 = ap (λ (x : SlotRow × RowTold (Node K V)). x.0) to.2.2 in
      record {
        scene = record r.scene { world = to.5.0; maps = to.5.2 };
        is_at = to.5.4;
        register = to.2.0.0;
        here = to.3 ∙ on_then to.1 said going ∙ ap (λ (x : SlotRow). Some (OnSlot x)) row_is;
        taken =
            by new.memory.memory to.2.0.0 to.2.0.1 (subst (λ (t : RowTold (Node K V)). has_come t ≡ false) (ap (λ (x : SlotRow × RowTold (Node K V)). x.1) to.2.2) going)
            (register_goes mid new said step r);
      }
    where
      by : (m : Mem (Node K V)) (c : Register) (p : Advance ℕ) → has_come {T = Node K V} (of_registering p) ≡ false → ToldSo k m c p → RegisterSo k m c
      by m c progress.Goes going so = so
      by m c progress.Waits going so = absurd (cc going)
      by m c (progress.Done slot) going so = absurd (cc going)
      by m c (progress.Refused fault) going so = absurd (cc going)

  -- so it is once its row has told its end
  pub others_taken : (said : RowTold (Node K V)) (old new : Executor K V S) → OnSlotLast i said old new → OthersGo old → SlotsTaken new.memory.memory k
  others_taken said old new (mid, n, gone, step) q = other_goes mid new said step (others_go n old mid gone q)

  pub registers_taken : (said : RowTold (Node K V)) (old new : Executor K V S) → OnSlotLast i said old new → RegistersGo old → ThenSo k new.memory.memory said
  registers_taken said old new (mid, n, gone, step) q =
      let r = registers_go n old mid gone q in
      let to = registers_to mid new said step r in
      subst (λ (t : RowTold (Node K V)). ThenSo k new.memory.memory t) (sym (ap (λ (x : SlotRow × RowTold (Node K V)). x.1) to.2.2))
      (then_so k new.memory.memory to.2.0.0 to.2.0.1 (register_goes mid new said step r))

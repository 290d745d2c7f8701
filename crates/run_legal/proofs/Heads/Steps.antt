-- Each step of a call, of a making, of an end, and of reclaiming all leaves the slots taken that were, and takes none.
use Rattle.std.specs.Prelude.{◌⊎◌, ◌<◌, ◌^◌, ◌%◌, ℕ, Bool, List, [], ◌∷◌, Option, Some, IsSome, Ok, bit_or}
use Rattle.std.specs.List.{AllByRecursion}
use Rattle.std.proofs.Common.{◌≡◌, ◌+◌, refl, ap, sym, subst, ◌∙◌, arith, inl, inr}
use Rattle.run_grows.specs.Given.SeizeWordsSlotWords.{slot_word}
use Rattle.run_grows.specs.Given.SeizeWordsMem.{Mem, Took, after, value_at, with_word, word_at}
use Rattle.run_grows.specs.Given.SeizeWordsOp.{Op, Out, Load, Store, Swap, Add, Or, Exchange, Make, Take, Rewrite, Room, Found, Exchanged, Made}
use Rattle.run_grows.specs.Given.SeizeWordsPlan.{Now, Steps}
use Rattle.run_grows.specs.Given.SeizeWordsDeclared.at.At.{At}
use Rattle.run_grows.specs.Given.SeizeWordsDeclared.at.At.TheVariants as name
use Rattle.run_grows.proofs.Given.SeizeWordsOneOwner.Operations.{stored}
use Rattle.run_grows.specs.Given.SeizeEnter.{unregister_plan}
use Rattle.run_grows.specs.Given.SeizeReclaimAll.{next_free, next_head, plan_at, reclaim_all_plan, to}
use Rattle.run_grows.specs.Given.SeizeSequence.{IsBetween, IsUsers}
use Rattle.run_grows.specs.Given.SeizeWorld.{World, Row, Rests, Request, Register', Enter', Leave', LeaveOwned, Refresh, Unregister', Retire, Flush, Defer', Event, Begin, Step, Makes, Drops, Links, Parts, Unlinks, Rewrites, Operates, Ends, LeavesOver, Relinks, Clears, Chooses, Begins, Happens, Runs, IsOwn, IsOwnOp, made_by}
use Rattle.run_grows.specs.Given.SeizeDeclared.advance.Advance.{Advance}
use Rattle.run_grows.specs.Given.SeizeDeclared.advance.Advance.TheVariants.{Done}
use Rattle.run_grows.specs.Given.SeizeDeclared.rows.enter.Unregister.{Unregister}
use Rattle.run_grows.specs.Given.SeizeDeclared.rows.reclaim_all.ReclaimAll.{ReclaimAll}
use Rattle.run_grows.specs.Given.SeizeDeclared.rows.reclaim_all.Reclaiming.{Reclaiming}
use Rattle.run_grows.specs.Given.SeizeDeclared.rows.reclaim_all.Reclaiming.TheVariants as at
use Rattle.run_grows.specs.Given.SeizeDeclared.rows.settle.Settled.{Settled}
use Rattle.run_grows.specs.Given.SeizeDeclared.rows.settle.Settled.TheVariants as settled
use Rattle.run_grows.specs.Given.SeizeDeclared.states.TheConstants.{FREE, HEAD, IDLE, LAST_SLOT}
use Rattle.run_grows.proofs.Given.SeizeRuleRows.Leaving.{steps_back}
use Rattle.run_grows.proofs.Given.SeizeRuleRows.Others.{with_here}
use Rattle.run_grows.proofs.Given.SeizeMemoryWords.Named.{or_zero, word_found}
use Rattle.run_grows.proofs.Given.SeizeRuleWorld.Good.{Good}
use Rattle.run_grows.proofs.Given.SeizeSetsTurns.Heads.{idle_word}
use Rattle.run_grows.proofs.Given.SeizeEndsBatches.Rows.{begins_memory}
use Rattle.run_grows.proofs.Given.SeizeAloneHistories.Reached.{Reached, happens_reached}
use Rattle.run_grows.specs.Given.TablesNodes.{deferred_word, was_left}
use Rattle.run_grows.specs.Given.TablesDeclared.node.Node.{Node}
use Rattle.run_grows.specs.Given.TablesDeclared.setting.Setting.{Setting}
use Rattle.run_grows.specs.Given.ResizeDeclared.copier.Copying.{Copying}
use Rattle.run_grows.specs.Given.ResizeDeclared.copier.Copying.TheVariants as copying
use Rattle.run_grows.specs.Given.ResizeDeclared.dispose.Disposing.{Disposing}
use Rattle.run_grows.specs.Given.ResizeDeclared.dispose.Disposing.TheVariants as disposing
use Rattle.run_grows.specs.Given.ReservesDeclared.reserve.Reserving.{Reserving}
use Rattle.run_grows.specs.Given.ReservesDeclared.reserve.Reserving.TheVariants as reserving
use Rattle.run_grows.specs.Given.ReservesDeclared.sweep.Sweeping.{Sweeping}
use Rattle.run_grows.specs.Given.ReservesDeclared.sweep.Sweeping.TheVariants as sweeping
use Rattle.run_grows.specs.Given.RuleInWorld.{AllUsers}
use Rattle.run_grows.specs.Given.SchedulesMoment.{Moment}
use Rattle.run_grows.specs.Given.RawDeclared.machines.call.Calling.{Calling}
use Rattle.run_grows.specs.Given.RawDeclared.machines.call.Calling.TheVariants as calling
use Rattle.run_grows.specs.Given.RawDeclared.machines.progress.Progress.{Progress as CallTold}
use Rattle.run_grows.specs.Given.EffectsDeclared.changed.Changed.TheVariants.{Nothing}
use Rattle.run_grows.specs.Given.CallersRows.{row_of, row_of_copier, row_of_disposal}
use Rattle.run_grows.specs.Given.CallersRooms.{row_of_room}
use Rattle.run_grows.specs.Given.CallersOverAll.{row_of_sweep}
use Rattle.run_grows.specs.Given.CallersSights.{seen_by}
use Rattle.run_grows.specs.Given.CallersTogether.{CameAbout, UnderWay, OnKey, ForRoom, Counting, OverAll, HandsOver, IsAtPoint}
use Rattle.run_grows.proofs.Given.CallersTogether.Came.{came_reached}
use Rattle.run_grows.specs.Given.EffectsKnown.{Known}
use Rattle.run_grows.specs.Given.FinishesEndings.{Finishing}
use Rattle.run_grows.specs.Given.FinishesFactsEnds.{TakesLeft, WritesRoot, events_of}
use Rattle.run_grows.specs.Given.FinishesMakings.{Beginning}
use Rattle.run_grows.specs.Given.MomentsWhole.{RefinesWhole}
use Rattle.run_grows.specs.Given.ReclaimsReclaims.{ReclaimingAt}
use Rattle.run_grows.specs.Given.ReclaimsSlots.{AreItsRows, DoesAt}
use Rattle.run_grows.specs.Given.SeizeQuietSlots.{BeginsAt}
use Rattle.run_grows.proofs.Given.SeizeQuietSlots.Facts.{rested_by}
use Rattle.run_grows.specs.Given.ScenesReclaiming.{IsReclaiming, ReclaimingLeads}
use Rattle.run_grows.proofs.Given.ModelsCalls.{OneStep, by_users, no_or, one_step}
use Rattle.run_legal.proofs.Heads.Rows.{KeepsTaken, Off, by_memory, no_change, same_taken, step_taken, written}
use Rattle.run_legal.proofs.OfAll.Sets.{none_of_rows}
use Rattle.run_grows.proofs.Given.ScenesTold.{as_step}
use Rattle.run_grows.specs.Given.ScenesEnding.{EndingLeads}
use Rattle.run_grows.specs.Given.ScenesHeld.{Held, IsAt}
use Rattle.run_grows.specs.Given.ScenesMaking.{MakingLeads}
use Rattle.run_grows.specs.Given.ScenesScene.{Scene, slot_of}
use Rattle.run_grows.specs.Given.ScenesStepping.{StepLeads}

-- What users do leaves the words of slots.

module _ {T : Type 0} (defers : T → Option ℕ) where
  own_word : (m : Mem T) (at : At) (v : ℕ) → IsOwn defers m at → (with_word m at v).slots ≡ m.slots
  own_word m (name.Root r) v own = refl
  own_word m (name.Used r) v own = refl
  own_word m (name.Slot s field) v own = absurd own
  own_word m (name.Entry b field) v own = absurd own
  own_word m (name.Word b field) v own = refl

  own_slots : (m : Mem T) (op : Op T) (out : Out T) → IsOwnOp defers m op → (after m op out).slots ≡ m.slots
  own_slots m (Load at) out own = refl
  own_slots m (Store at v) out own = own_word m at v own
  own_slots m (Swap at v) out own = own_word m at v own
  own_slots m (Add at v) (Found a) own = own_word m at ((a + v) % 2 ^ 64) own
  own_slots m (Add at v) _ own = refl
  own_slots m (Or at v) (Found a) own = own_word m at (bit_or a v) own
  own_slots m (Or at v) _ own = refl
  own_slots m (Exchange at old new) (Exchanged (Ok a)) own = own_word m at new own
  own_slots m (Exchange at old new) _ own = refl
  own_slots m (Make value words) out own = absurd own
  own_slots m (Take b) out own = absurd own
  own_slots m (Rewrite b value) out own = absurd own
  own_slots m (Room bucket) out own = absurd own

  made_slots : (w : World T) (i : ℕ) (m : Mem T) (out : Out T) → (made_by defers w i m out).memory.slots ≡ m.slots
  made_slots w i m (Made (Ok b)) = refl
  made_slots w i m _ = refl

  make_slots : (m : Mem T) (value : T) (words : ℕ) (out : Out T) → (after m (Make value words) out).slots ≡ m.slots
  make_slots m value words (Made (Ok b)) = refl
  make_slots m value words _ = refl

  module _ (size : ℕ) where
    user_slots : (e : Event T) → IsUsers e → (w v : World T) → Happens defers size e w v → v.memory.slots ≡ w.memory.slots
    user_slots (Begin i request) is w v h = absurd is
    user_slots (Step i) is w v h = absurd is
    user_slots (Makes i value words) is w v (out, m, list, took, so) =
        ap (λ (x : World T). x.memory.slots) so ∙ made_slots w i m out ∙ ap (λ (x : Mem T). x.slots) took.1 ∙ make_slots w.memory value words out
    user_slots (Drops i b) is w v (out, m, hand, took, so) = ap (λ (x : World T). x.memory.slots) so ∙ ap (λ (x : Mem T). x.slots) took.1
    user_slots (Links i b o) is w v (hand, so) = ap (λ (x : World T). x.memory.slots) so
    user_slots (Parts i b) is w v (hand, so) = ap (λ (x : World T). x.memory.slots) so
    user_slots (Unlinks i b) is w v (may, so) = ap (λ (x : World T). x.memory.slots) so
    user_slots (Rewrites i b value) is w v (was, m, hand, took, same, so) = ap (λ (x : World T). x.memory.slots) so ∙ ap (λ (x : Mem T). x.slots) took.1
    user_slots (Operates op) is w v (out, m, own, took, so) =
        ap (λ (x : World T). x.memory.slots) so ∙ ap (λ (x : Mem T). x.slots) took.1 ∙ own_slots w.memory op out own
    user_slots (Ends i o) is w v h = absurd is
    user_slots (LeavesOver i b further) is w v h = absurd is
    user_slots (Relinks i b word) is w v h = absurd is
    user_slots (Clears i b) is w v h = absurd is
    user_slots (Chooses choice) is w v so = ap (λ (x : World T). x.memory.slots) so

    users_slots : (events : List (Event T)) → AllUsers events → (w v : World T) → Runs defers size events w v → v.memory.slots ≡ w.memory.slots
    users_slots [] all w v runs = ap (λ (x : World T). x.memory.slots) runs
    users_slots (e ∷ events) all w v (u, h, runs) = users_slots events all.1 u v runs ∙ user_slots e all.0 w u h

pub by_slots : {T : Type 0} (m m2 : Mem T) → m2.slots ≡ m.slots → KeepsTaken m m2
by_slots m m2 same = same_taken m m2 (λ s. ap (λ (slots : List (List ℕ)). or_zero (slot_word slots s HEAD)) same)

-- Rows within calls are none that register.

disposal_off : (slot : ℕ) (p : Disposing) → Off (row_of_disposal slot p)
disposal_off slot (disposing.Settles settle) = tt
disposal_off slot (disposing.Defers defer) = tt
disposal_off slot _ = tt

copier_off : (p : Copying) → Off (row_of_copier p)
copier_off (copying.Retires settle rest) = tt
copier_off _ = tt

call_off : (slot : ℕ) (p : Calling) → Off (row_of slot p)
call_off slot (calling.Disposes dispose answer) = disposal_off slot dispose.stands
call_off slot (calling.Helps copier goal) = copier_off copier.stands
call_off slot (calling.Copies copier) = copier_off copier.stands
call_off slot _ = tt

room_off : (p : Reserving) → Off (row_of_room p)
room_off (reserving.Copies copier) = copier_off copier.stands
room_off _ = tt

sweep_off : (slot : ℕ) (p : Sweeping) → Off (row_of_sweep slot p)
sweep_off slot (sweeping.Copies copier) = copier_off copier.stands
sweep_off slot (sweeping.Disposes dispose) = disposal_off slot dispose.stands
sweep_off slot _ = tt

rests_off : (row : Row) → row ≡ Rests → Off row
rests_off row is = subst Off (sym is) tt

-- A call takes a step.
module _ {K V : Type 0} (same : K → K → Bool) (hash : ℕ → K → ℕ) (name : ℕ → List ℕ) (m : Moment K V) (known : Known) (s : Scene K V) (old new : Held K V) (at : IsAt same hash old s)
    (whole : RefinesWhole same name m known s) (map i : ℕ) (u : UnderWay K V K) (here : s.calls map i ≡ Some u) (told : CallTold (Node K V)) (leads : StepLeads same hash i told s old new) where
  abbrev w2 : World (Node K V)
  w2 = (leads map u here).4.w2

  abbrev size : ℕ
  size = old.batch_size

  -- its row is none that registers
  its_row : Off (s.world.row i)
  its_row = by u ((at.together.makings.standing.each map (leads map u here).0 (leads map u here).2).stand i u here)
    where
      by : (x : UnderWay K V K)
          → IsAtPoint V same (leads map u here).0.hash same (leads map u here).0.setting slot_of s.world (leads map u here).0.chart
          (seen_by (leads map u here).0.blocks ((leads map u here).0.sights (slot_of i))) i x → Off (s.world.row i)
      by (OnKey x) (inl is) = rests_off (s.world.row i) is.0
      by (OnKey x) (inr is) = subst Off (sym is.0) (call_off (slot_of i) x.call.stands)
      by (ForRoom x) (inl is) = rests_off (s.world.row i) is.0
      by (ForRoom x) (inr is) = subst Off (sym is.0) (room_off x.reserve.stands)
      by (Counting x) is = rests_off (s.world.row i) is.0
      by (OverAll x) (inl is) = rests_off (s.world.row i) is.0
      by (OverAll x) (inr is) = subst Off (sym is.0) (sweep_off (slot_of i) x.sweep.stands)

  reached : Reached deferred_word size s.world
  reached = came_reached size s.world at.together.makings.standing.came

  -- nor is one that hands something over, once it has begun
  begun_off : (request : Request) (begun : World (Node K V)) → HandsOver (leads map u here).0.setting i s.world request → Begins deferred_word size i request s.world begun → Off (begun.row i)
  begun_off (Retire t b) begun hands begins = subst Off (sym (ap (λ (x : World (Node K V)). x.row i) begins.2 ∙ with_here s.world.row i _)) tt
  begun_off (Defer' t b c) begun hands begins = subst Off (sym (ap (λ (x : World (Node K V)). x.row i) begins.7 ∙ with_here s.world.row i _)) tt
  begun_off (Register' enters) begun hands begins = absurd hands
  begun_off (Enter' t) begun hands begins = absurd hands
  begun_off (Leave' t) begun hands begins = absurd hands
  begun_off (LeaveOwned t) begun hands begins = absurd hands
  begun_off (Refresh t) begun hands begins = absurd hands
  begun_off (Unregister' t) begun hands begins = absurd hands
  begun_off (Flush t) begun hands begins = absurd hands

  pub call_taken : KeepsTaken s.world.memory w2.memory
  call_taken = elim (no_or same hash name m known s old new at whole map i u here told leads) as (λ _. KeepsTaken s.world.memory w2.memory) [
    | inl own ↦ (let by = by_users same hash name m known s old new at whole map i u here told leads own in
        by_slots s.world.memory w2.memory (users_slots deferred_word size by.events by.users s.world w2 by.runs))
    | inr other ↦ by_step (one_step same hash name m known s old new at whole map i u here told leads other)
  ]
    where
      by_step : OneStep same hash name m known s old new at whole map i u here told leads w2 → KeepsTaken s.world.memory w2.memory
      by_step (inl step) = step_taken deferred_word s.world reached.good i (s.world.row i) its_row w2 refl step
      by_step (inr (request, begun, hands, begins, step)) =
          let memory = begins_memory deferred_word size i request s.world begun begins.1 in
          let there = happens_reached deferred_word size (Begin i request) s.world begun reached begins in
          subst (λ (x : Mem (Node K V)). KeepsTaken x w2.memory) memory (step_taken deferred_word begun there.good i (begun.row i) (begun_off request begun hands begins.1) w2 refl step)

-- A making, or an end, takes a step.
module _ {K V : Type 0} (same : K → K → Bool) (hash : ℕ → K → ℕ) (s : Scene K V) (old new : Held K V) (i : ℕ) where
  pub making_taken : (said : Advance Setting) → MakingLeads same hash i said s old new → (b : Beginning K) → s.makers i ≡ Some b → KeepsTaken s.world.memory new.memory
  making_taken said leads b here =
      let did = (leads b here).2.step in
      by_slots s.world.memory new.memory (ap (λ (x : Mem (Node K V)). x.slots) (sym did.memory) ∙ users_slots deferred_word old.batch_size did.events did.users s.world did.w2 did.runs)

  pub ending_taken : (said : Settled (Node K V)) → EndingLeads same hash i said s old new → (f : Finishing K V) → s.enders i ≡ Some f → KeepsTaken s.world.memory new.memory
  ending_taken said leads f here =
      let did = (leads f here).2 in
      by_slots s.world.memory new.memory (ap (λ (x : Mem (Node K V)). x.slots) (sym did.memory) ∙ did.spares.slots)

-- Reclaiming all takes a step.
module _ {K V : Type 0} (same : K → K → Bool) (hash : ℕ → K → ℕ) (s : Scene K V) (old new : Held K V) (i : ℕ) (lists : ℕ → List ℕ) (before after : ReclaimAll) (said : Settled (Node K V))
    (under_way : IsReclaiming same hash old s i lists before) (leads : ReclaimingLeads same hash s i lists old new before after said) where
  abbrev w : World (Node K V)
  w = s.world

  abbrev w3 : World (Node K V)
  w3 = leads.1.w2

  came : CameAbout old.batch_size w
  came = under_way.under_way.stand.together.makings.standing.came

  good : Good deferred_word (LAST_SLOT + 1) old.batch_size w
  good = (came_reached old.batch_size w came).good

  steps : Steps Took value_at w.memory (reclaim_all_plan deferred_word was_left before) new.memory (after, said)
  steps =
      subst (λ (x : Mem (Node K V)). Steps Took value_at x (reclaim_all_plan deferred_word was_left before) new.memory (after, said)) (sym under_way.memory)
      (as_step old.memory Nothing (reclaim_all_plan deferred_word was_left before) new.memory new.changed (after, said) leads.0)

  module _ (batch slots all : ℕ) (again : Bool) where
    abbrev c : Reclaiming → ReclaimAll
    c p = record { batch_size = batch; roots = all; slots = slots; again = again; stands = p }

    abbrev Takes : Reclaiming → Type 0
    Takes p = Steps Took value_at w.memory (plan_at deferred_word was_left (c p) p) new.memory (after, said)

    abbrev Does : Reclaiming → Type 0
    Does p = DoesAt old.batch_size i leads.1.events w w3 p after.stands

    abbrev Here : Reclaiming → Type 0
    Here p = ReclaimingAt old.batch_size old.roots i (c p) w s.maps lists p

    -- a look, and a row that may begin
    begins_taken : (p : Reclaiming) → BeginsAt deferred_word old.batch_size i w w3 p → KeepsTaken w.memory w3.memory
    begins_taken (at.Leaves t l) begins = no_change w.memory w3.memory (begins_memory deferred_word old.batch_size i (Leave' t) w w3 begins)
    begins_taken (at.Flushes t d) begins = no_change w.memory w3.memory (begins_memory deferred_word old.batch_size i (Flush t) w w3 begins)
    begins_taken _ same_world = no_change w.memory w3.memory (ap (λ (x : World (Node K V)). x.memory) same_world)

    -- a head is written of a slot that was taken
    head_taken : (t v a : ℕ) → word_at w.memory (name.Slot t HEAD) ≡ Some a → 0 < a → 0 < v → new.memory ≡ with_word w.memory (name.Slot t HEAD) v → KeepsTaken w.memory w3.memory
    head_taken t v a is more some memory =
        by_memory w.memory (with_word w.memory (name.Slot t HEAD) v) w3.memory (leads.1.memory ∙ memory)
        (written w.memory t v (subst (λ (o : Option ℕ). IsSome o) (sym is) refl) some (let found = word_found w.memory (name.Slot t HEAD) a is in omega (arith, found, more)))

    roots_taken : (p : Reclaiming) → AllByRecursion IsBetween leads.1.events → KeepsTaken w.memory w3.memory
    roots_taken p between = by leads.1.its
      where
        ran : (events : List (Event (Node K V))) → leads.1.events ≡ events → Runs deferred_word old.batch_size events w w3
        ran events is = subst (λ (es : List (Event (Node K V))). Runs deferred_word old.batch_size es w w3) is leads.1.runs

        by : AreItsRows i leads.1.events ⊎ (((b : ℕ) × (leads.1.events ≡ events_of i (TakesLeft b)))
            ⊎ ((root : ℕ) × ((leads.1.events ≡ events_of i (WritesRoot (name.Root root) 0)) ⊎ (leads.1.events ≡ events_of i (WritesRoot (name.Used root) 0))))) → KeepsTaken w.memory w3.memory
        by (inl own) = no_change w.memory w3.memory (ap (λ (x : World (Node K V)). x.memory) (ran [] (none_of_rows i leads.1.events own between)))
        by (inr (inl (b, is))) = (let r = ran (events_of i (TakesLeft b)) is in
            by_slots w.memory w3.memory (ap (λ (x : World (Node K V)). x.memory.slots) r.2 ∙ (ap (λ (x : World (Node K V)). x.memory.slots) r.1.5 ∙ ap (λ (x : Mem (Node K V)). x.slots) r.1.4.1)))
        by (inr (inr (root, inl is))) = (let r = ran (events_of i (WritesRoot (name.Root root) 0)) is in
            by_slots w.memory w3.memory (ap (λ (x : World (Node K V)). x.memory.slots) r.2 ∙ user_slots deferred_word old.batch_size (Operates (Store (name.Root root) 0)) tt w r.0 r.1))
        by (inr (inr (root, inr is))) = (let r = ran (events_of i (WritesRoot (name.Used root) 0)) is in
            by_slots w.memory w3.memory (ap (λ (x : World (Node K V)). x.memory.slots) r.2 ∙ user_slots deferred_word old.batch_size (Operates (Store (name.Used root) 0)) tt w r.0 r.1))

    by_point : (p : Reclaiming) → Here p → Takes p → Does p → KeepsTaken w.memory w3.memory
    by_point (at.Heads t) point taking does = begins_taken after.stands does
    by_point (at.Retakes t) (ss, left, (none, lt, st, free)) taking does =
        let d = stored w.memory (λ out. to (next_head (c (at.Retakes t)) t)) (name.Slot t HEAD) IDLE new.memory (after, said) taking in
        head_taken t IDLE FREE free (omega arith) (omega arith) d.0
    by_point (at.Leaves t l) (ss, left, (none, lt, h)) taking does =
        step_taken deferred_word w good i (w.row i) (subst Off (sym h.row_is) tt) w3 refl does
    by_point (at.Batches t) point taking does = begins_taken after.stands does
    by_point (at.Flushes t d) (ss, left, (lt, h)) taking does =
        step_taken deferred_word w good i (w.row i) (subst Off (sym h.row_is) tt) w3 refl does
    by_point (at.Frees t) (ss, left, (lt, f)) taking does =
        let goes : Unregister × Advance Unit → ReclaimAll × Settled (Node K V) = λ ends. (next_free (c (at.Frees t)) t, settled.Goes) in
        let back = steps_back goes w.memory new.memory (unregister_plan (record { slot = t })) (after, said) taking in
        let d = stored {R = Unregister × Advance Unit} w.memory (λ out. Now (record { slot = t }, Done tt)) (name.Slot t HEAD) FREE new.memory back.0 back.1 in
        let few = f.few in
        head_taken t FREE IDLE
        (idle_word deferred_word (LAST_SLOT + 1) old.batch_size refl w (rested_by deferred_word old.batch_size w came f.rests) t (f.idle t (omega arith) lt) (omega (arith, lt, few))) (omega arith) (omega arith) d.0
    by_point (at.Roots root) point taking does = roots_taken (at.Roots root) does
    by_point (at.Nexts root block) point taking does = roots_taken (at.Nexts root block) does
    by_point (at.Takes root block next) point taking does = roots_taken (at.Takes root block next) does
    by_point (at.Empties root) point taking does = roots_taken (at.Empties root) does
    by_point (at.Unuses root) point taking does = roots_taken (at.Unuses root) does
    by_point at.Over point taking does = roots_taken at.Over does

  pub reclaiming_taken : KeepsTaken w.memory w3.memory
  reclaiming_taken = by_point before.batch_size before.slots before.roots before.again before.stands under_way.under_way.point steps leads.1.does

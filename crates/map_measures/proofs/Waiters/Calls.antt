-- In blocking mode, after each step of a call on one key, of a reservation, and of a sweep, that is none of a row, each copying that is not over has who ends it, if so before.
use Rattle.std.specs.Prelude.{◌==◌, if◌then◌else◌, Option, Some, None}
use Rattle.std.specs.Int.{IsPowerOfTwo}
use Rattle.std.proofs.Common.{◌≡◌, ℕ, Bool, true, ◌⊎◌, inl, inr, refl, ap, sym, subst, ◌∙◌, List, false}
use Rattle.seize_words.specs.OneMemory.Mem.{Mem, Took, value_at}
use Rattle.seize_words.specs.OneMemory.Plan.{Steps}
use Rattle.seize.specs.World.{World, with_at}
use Rattle.map_tables.specs.Chunks.{is_incremental}
use Rattle.map_tables.specs.declared.node.Node.{Node}
use Rattle.map_tables.specs.declared.setting.Setting.{Setting}
use Rattle.map_tables.specs.declared.table.Table.{Table}
use Rattle.map_machines.specs.Copier.{copier_plan}
use Rattle.map_machines.specs.declared.yielding.Yielding.{Yielding}
use Rattle.map_machines.specs.declared.yielding.Yielding.TheVariants as outcome
use Rattle.map_machines.specs.declared.copier.Copier.{Copier}
use Rattle.many_calls.specs.Given.RawDeclared.machines.answer.Called.{Called}
use Rattle.many_calls.specs.Given.RawDeclared.machines.call.KeyCall.{KeyCall}
use Rattle.many_calls.specs.Given.RawDeclared.machines.call.Calling.{Calling}
use Rattle.many_calls.specs.Given.RawDeclared.machines.call.Calling.TheVariants as at
use Rattle.many_calls.specs.Given.RuleChart.{Chart}
use Rattle.many_calls.specs.Given.RuleWords.{Blocks}
use Rattle.many_calls.specs.Given.PointsFactsCalls.{CallingFacts, IsCopying}
use Rattle.many_calls.specs.Given.PointsSteps.{AreLawful}
use Rattle.many_calls.specs.Given.PointsTold.{IsRowOfCall, IsRowOfCopier, MovedBesideCopying, IsBesideCopying, OnlyLinks}
use Rattle.map_tables.specs.declared.resize_mode.ResizeMode.{ResizeMode}
use Rattle.map_sweeps.specs.declared.reserve.Reserve.{Reserve}
use Rattle.map_sweeps.specs.declared.reserve.Reserving.{Reserving}
use Rattle.map_sweeps.specs.declared.reserve.Reserving.TheVariants as reserves
use Rattle.map_sweeps.specs.declared.sweep.Sweep.{Sweep}
use Rattle.map_sweeps.specs.declared.sweep.Sweeping.{Sweeping}
use Rattle.map_sweeps.specs.declared.sweep.Sweeping.TheVariants as sweeps
use Rattle.map_sweeps.specs.declared.sweep.Swept.{Swept}
use Rattle.many_calls.specs.Given.RuleMaps.{spot_of}
use Rattle.many_calls.specs.Given.RuleMoves.{Move, Links, Removes, after, Stores, Replaces}
use Rattle.many_calls.specs.Given.PointsFactsCopiesBlocking.{CopierFactsBlocking}
use Rattle.many_calls.specs.Given.LateFactsReserves.{CopiesPairs}
use Rattle.many_calls.specs.Given.LateFactsSweeps.{CopiesPairs as SweepCopies}
use Rattle.many_calls.specs.Given.LateToldReserves.{IsRowOfReserve}
use Rattle.many_calls.specs.Given.LateToldSweeps.{IsRowOfSweep, OnlyRemoves}
use Rattle.many_calls.specs.Given.RawCall.{plan_at, call_plan, copied}
use Rattle.many_calls.specs.Given.RawCallPoints.{ending, going, over}
use Rattle.many_calls.specs.Given.RawDeclared.machines.answer.Called.TheVariants as called
use Rattle.many_calls.specs.Given.RawDeclared.machines.answer.End.{End}
use Rattle.many_calls.specs.Given.RawDeclared.machines.answer.End.TheVariants as ends
use Rattle.map_sweeps.specs.Reserves.Reserve as room_plans
use Rattle.map_sweeps.specs.Sweeps.Sweep as sweep_plans
use Rattle.map_sweeps.specs.Sweeps.SweepPoints.{entering}
use Rattle.map_sweeps.specs.declared.sweep.Swept.TheVariants as swept
use Rattle.many_calls.specs.Given.LateLateCalls.{SupersededCalling}
use Rattle.many_calls.specs.Given.LateLateCopies.{SupersededCopierFacts}
use Rattle.many_calls.specs.Sights.{Visible, seen_by}
use Rattle.many_calls.specs.Together.{CallOnKey, UnderWay, OnKey, Together, StepsTogether, StepOutcome, Fresh, Late, change_observed, next_of, in_slot, ForRoom, OverAll, RoomStepsTogether, RoomOutcome, FreshRoom, LateRoom, next_for_room, next_over_all}
use Rattle.many_calls.specs.OverAll.{CallOverAll, come_to}
use Rattle.many_calls.specs.Rooms.{CallForRoom}
use Rattle.many_calls.specs.Sweeps.{SweepStepsTogether}
use Rattle.seize_acts.proofs.Given.SeizeRuleRows.Leaving.{steps_back}
use Rattle.many_calls.proofs.Together.At.{at_same}
use Rattle.many_calls.proofs.Given.LateSwept.Sweeps.Stands.{quiet_entering}
use Rattle.map_measures.specs.Waits.Others.{copier_in, copier_in_room, copier_in_sweep}
use Rattle.map_measures.proofs.Waits.EndingCalls.{copier_then}
use Rattle.map_measures.specs.Waiters.Blocking.{CallsPreserveEndsBlocking, HaveEndsBlocking, RoomsPreserveEndsBlocking, SweepsPreserveEndsBlocking}
use Rattle.map_measures.proofs.Waiters.Stands.{copier_knows}
use Rattle.map_measures.proofs.Waiters.Reached.{Reached}
use Rattle.map_measures.proofs.Waiters.Spent.{anywhere, unspent_at}
use Rattle.map_measures.proofs.Waiters.Own.{OwnSpent}
use Rattle.map_measures.proofs.Waiters.Begins.{IsNew, call_new}
use Rattle.map_measures.proofs.Waiters.BeginsRooms.{room_new}
use Rattle.map_measures.proofs.Waiters.BeginsSweeps.{quiet_none, sweep_new}
use Rattle.map_measures.proofs.Waiters.Steps.{beside_keeps, copier_keeps, its_map}

-- a copier that has just begun is as it is to be
new_spent : {K : Type 0} (c : Chart K) (o : Option Copier) → IsNew o → OwnSpent c o
new_spent c None new = tt
new_spent c (Some p) new = unspent_at c p p.stands (anywhere p p.stands new)

-- a change beside a copying makes no table the root
first_beside : {K : Type 0} (hash : K → ℕ) (b : Bool) (c d : Chart K) → (d ≡ c) ⊎ ((move : Move K) × IsBesideCopying move × (d ≡ after (spot_of hash) b move c)) → d.first ≡ c.first
first_beside hash b c d (inl is) = ap (λ (x : Chart _). x.first) is
first_beside hash b c d (inr (Links len limit, its, is)) = ap (λ (x : Chart _). x.first) is
first_beside hash b c d (inr (Stores t k j, its, is)) = ap (λ (x : Chart _). x.first) is
first_beside hash b c d (inr (Replaces t place k, its, is)) = ap (λ (x : Chart _). x.first) is
first_beside hash b c d (inr (Removes t place, its, is)) = ap (λ (x : Chart _). x.first) is
first_beside hash b c d (inr (_, its, is)) = absurd its

first_links : {K : Type 0} (hash : K → ℕ) (mode : ResizeMode) (c d : Chart K) → OnlyLinks hash mode c d → d.first ≡ c.first
first_links hash mode c d (inl is) = ap (λ (x : Chart _). x.first) is
first_links hash mode c d (inr (len, limit, is)) = ap (λ (x : Chart _). x.first) is

first_removes : {K : Type 0} (hash : K → ℕ) (mode : ResizeMode) (c d : Chart K) → OnlyRemoves hash mode c d → d.first ≡ c.first
first_removes hash mode c d (inl is) = ap (λ (x : Chart _). x.first) is
first_removes hash mode c d (inr (t, place, is)) = ap (λ (x : Chart _). x.first) is

-- where a step of its copier leads a call: it goes on within that, or has left it, which then does not go on
abbrev pub GoesWithin : {K V Q : Type 0} → Option (UnderWay K V Q) → Copier × Yielding (Node K V) Table → Type 0
GoesWithin next b = ((b.1 ≡ outcome.Goes → ⊥) × (copier_then next ≡ None)) ⊎ (copier_then next ≡ Some b.0)

module _ {K V Q : Type 0} (like : CallOnKey K V Q) where
  abbrev pub key_then : KeyCall K V Q × Called (Node K V) → Option (UnderWay K V Q)
  key_then end = next_of (record like { call = end.0 }) end.1

  key_none : (p : KeyCall K V Q) (progress : Called (Node K V)) → copier_in p.stands ≡ None → copier_then (key_then (p, progress)) ≡ None
  key_none p (called.Done answer) none = refl
  key_none p (called.Refused fault) none = refl
  key_none p _ none = none

  key_spent : (c : Chart K) (p : KeyCall K V Q) (progress : Called (Node K V)) → IsNew (copier_in p.stands) → OwnSpent c (copier_then (key_then (p, progress)))
  key_spent c p (called.Done answer) new = tt
  key_spent c p (called.Refused fault) new = tt
  key_spent c p _ new = new_spent c (copier_in p.stands) new

  ending_none : (p : KeyCall K V Q) (end : End) → copier_in (ending p end).0.stands ≡ None
  ending_none p end = by (p.own == 0)
    where
      by : (b : Bool) → copier_in (if b then over p end else going {V = V} p (at.Drops end)).0.stands ≡ None
      by true = refl
      by false = refl

  pub key_within : (p : KeyCall K V Q) (b : Copier × Yielding (Node K V) Table) (end : KeyCall K V Q × Called (Node K V)) → end ≡ copied p b → GoesWithin (key_then end) b
  key_within p (q, outcome.Goes) end e = inr (ap (λ (x : KeyCall K V Q × Called (Node K V)). copier_then (key_then x)) e)
  key_within p (q, outcome.Waits) end e = inr (ap (λ (x : KeyCall K V Q × Called (Node K V)). copier_then (key_then x)) e)
  key_within p (q, outcome.Gave value) end e = inr (ap (λ (x : KeyCall K V Q × Called (Node K V)). copier_then (key_then x)) e)
  key_within p (q, outcome.Done table) end e = inl ((λ goes. cc goes), ap (λ (x : KeyCall K V Q × Called (Node K V)). copier_then (key_then x)) e)
  key_within p (q, outcome.Refused fault) end e = inl (
    (λ goes. cc goes),
    ap (λ (x : KeyCall K V Q × Called (Node K V)). copier_then (key_then x)) e ∙ key_none (ending p (ends.Refused fault)).0 (ending p (ends.Refused fault)).1 (ending_none p (ends.Refused fault)),
  )

module _ {K V : Type 0} (Q : Type 0) where
  abbrev pub room_then : ℕ → Reserve × Yielding (Node K V) Unit → Option (UnderWay K V Q)
  room_then began end = next_for_room (record { began = began; reserve = end.0 }) end.1

  room_spent : (c : Chart K) (began : ℕ) (p : Reserve) (end : Yielding (Node K V) Unit) → IsNew (copier_in_room p.stands) → OwnSpent c (copier_then (room_then began (p, end)))
  room_spent c began p (outcome.Done it) new = tt
  room_spent c began p (outcome.Refused fault) new = tt
  room_spent c began p _ new = new_spent c (copier_in_room p.stands) new

  pub room_within : (began : ℕ) (p : Reserve) (b : Copier × Yielding (Node K V) Table) (end : Reserve × Yielding (Node K V) Unit) → end ≡ room_plans.copied p b → GoesWithin (room_then began end) b
  room_within began p (q, outcome.Goes) end e = inr (ap (λ (x : Reserve × Yielding (Node K V) Unit). copier_then (room_then began x)) e)
  room_within began p (q, outcome.Waits) end e = inr (ap (λ (x : Reserve × Yielding (Node K V) Unit). copier_then (room_then began x)) e)
  room_within began p (q, outcome.Gave value) end e = inr (ap (λ (x : Reserve × Yielding (Node K V) Unit). copier_then (room_then began x)) e)
  room_within began p (q, outcome.Done table) end e = inl ((λ goes. cc goes), ap (λ (x : Reserve × Yielding (Node K V) Unit). copier_then (room_then began x)) e)
  room_within began p (q, outcome.Refused fault) end e = inl ((λ goes. cc goes), ap (λ (x : Reserve × Yielding (Node K V) Unit). copier_then (room_then began x)) e)

  module _ (o : CallOverAll) (entered : ℕ) (done : List ℕ) where
    abbrev pub sweep_then : Sweep × Swept (Node K V) → Option (UnderWay K V Q)
    sweep_then end = next_over_all (come_to o entered done end.0) end.1

    sweep_none : (p : Sweep) (end : Swept (Node K V)) → copier_in_sweep p.stands ≡ None → copier_then (sweep_then (p, end)) ≡ None
    sweep_none p swept.Done none = refl
    sweep_none p (swept.Refused fault) none = refl
    sweep_none p _ none = none

    sweep_spent : (c : Chart K) (p : Sweep) (end : Swept (Node K V)) → IsNew (copier_in_sweep p.stands) → OwnSpent c (copier_then (sweep_then (p, end)))
    sweep_spent c p swept.Done new = tt
    sweep_spent c p (swept.Refused fault) new = tt
    sweep_spent c p _ new = new_spent c (copier_in_sweep p.stands) new

    pub sweep_within : (p : Sweep) (b : Copier × Yielding (Node K V) Table) (end : Sweep × Swept (Node K V)) → end ≡ sweep_plans.copied p b → GoesWithin (sweep_then end) b
    sweep_within p (q, outcome.Goes) end e = inr (ap (λ (x : Sweep × Swept (Node K V)). copier_then (sweep_then x)) e)
    sweep_within p (q, outcome.Waits) end e = inr (ap (λ (x : Sweep × Swept (Node K V)). copier_then (sweep_then x)) e)
    sweep_within p (q, outcome.Gave value) end e = inr (ap (λ (x : Sweep × Swept (Node K V)). copier_then (sweep_then x)) e)
    sweep_within p (q, outcome.Done root) end e = inl (
      (λ goes. cc goes),
      ap (λ (x : Sweep × Swept (Node K V)). copier_then (sweep_then x)) e
          ∙ sweep_none (entering p root) (sweep_plans.copied {V = V} p (q, outcome.Done root)).1 (quiet_none (entering p root).stands (quiet_entering p root)),
    )
    sweep_within p (q, outcome.Refused fault) end e = inl ((λ goes. cc goes), ap (λ (x : Sweep × Swept (Node K V)). copier_then (sweep_then x)) e)

module _ {K Q : Type 0} (V : Type 0) (same : K → K → Bool) (hash : K → ℕ) (asks : Q → K → Bool) (setting : Setting) (slot : ℕ → ℕ) where
  module _ (are : AreLawful same hash) (power : IsPowerOfTwo setting.initial) (mode : is_incremental setting.mode ≡ false)
      (w : World (Node K V)) (c : Chart K) (blocks : Blocks) (sights : ℕ → Visible) (calls : ℕ → Option (UnderWay K V Q))
      (s : Together V same hash asks setting slot w c blocks sights calls) (all : HaveEndsBlocking c calls) (i : ℕ) (m2 : Mem (Node K V)) where
    abbrev seen : Blocks
    seen = seen_by blocks (sights (slot i))

    abbrev its_setting : Setting
    its_setting = in_slot setting (slot i)

    -- what the copier within which a call stands then knows
    knows_then : (w2 : World (Node K V)) (d : Chart K) (blocks2 : Blocks) (sights2 : ℕ → Visible) (next : Option (UnderWay K V Q))
        → Together V same hash asks setting slot w2 d blocks2 sights2 (with_at calls i next) → (q : Copier) → copier_then next ≡ Some q → (IsRowOfCopier q.stands → ⊥)
        → CopierFactsBlocking same hash w2 i its_setting d (seen_by blocks2 (sights2 (slot i))) q
        ⊎ ((began : ℕ) × SupersededCopierFacts same hash w2 i its_setting d (seen_by blocks2 (sights2 (slot i))) began q)
    knows_then w2 d blocks2 sights2 (Some y) s2 q within row =
        copier_knows V same hash asks setting slot w2 d blocks2 sights2 (with_at calls i (Some y)) s2 mode i q y (at_same calls i (Some y) i refl) within row
    knows_then w2 d blocks2 sights2 None s2 q within row = absurd (cc within)

    module _ (u : CallOnKey K V Q) (has : calls i ≡ Some (OnKey u)) (none : IsRowOfCall u.call.stands → ⊥) (p2 : KeyCall K V Q) (progress : Called (Node K V))
        (steps : Steps Took value_at w.memory (call_plan asks same hash u.call) m2 (p2, progress))
        (leads : StepsTogether V same hash asks setting slot w c blocks sights calls i u m2 p2 progress) where
      abbrev like : CallOnKey K V Q
      like = record { keys = u.keys; pair = u.pair; began = u.began; change = change_observed V same hash asks setting slot leads.went.told; call = p2 }

      abbrev next : Option (UnderWay K V Q)
      next = next_of like progress

      abbrev After : Type 0
      After = HaveEndsBlocking leads.went.c2 (with_at calls i next)

      reached : Reached same hash its_setting mode w i c seen (its_map V same hash asks setting slot are power mode w c blocks sights calls s all i (OnKey u) has leads.inside) m2 leads.went.c2 leads.went.blocks2
      reached = (leads.went.w2, leads.went.memory, leads.went.map, leads.went.blocks_same, leads.went.tables, leads.went.moved)

      by_beside : copier_in u.call.stands ≡ None → (IsCopying u.call.stands → ⊥) → After
      by_beside within apart =
          beside_keeps V same hash asks setting slot are power mode w c blocks sights calls s all i (OnKey u) has leads.inside m2 leads.went.c2 leads.went.blocks2 reached next within none
          (first_beside hash (is_incremental setting.mode) c leads.went.c2 (told leads.went.told)) (key_spent like leads.went.c2 p2 progress (call_new asks same hash u.call w.memory m2 (p2, progress) within steps))
        where
          told : StepOutcome V same hash asks setting slot c i u p2 progress leads.went.w2 leads.went.c2 leads.went.blocks2 → MovedBesideCopying hash its_setting.mode c leads.went.c2
          told (Fresh fresh) = fresh.beside apart
          told (Late blocking same_change late) = late.beside apart

      by_copier : (copier : Copier) → u.call.stands ≡ at.Copies copier → After
      by_copier copier here =
          let b = steps_back (copied u.call) w.memory m2 (copier_plan hash copier) (p2, progress)
          (subst (λ (stands : Calling). Steps Took value_at w.memory (plan_at asks same hash u.call stands) m2 (p2, progress)) here steps) in
          copier_keeps V same hash asks setting slot are power mode w c blocks sights calls s all i (OnKey u) has leads.inside m2 leads.went.c2 leads.went.blocks2 reached next copier (ap copier_in here)
          (λ row. none (subst (λ (stands : Calling). IsRowOfCall stands) (sym here) row)) b.0 b.1 (key_within like u.call b.0 (p2, progress) b.2)
          leads.went.w2 (seen_by leads.blocks2 (leads.sights2 (slot i))) (knows_then leads.went.w2 leads.went.c2 leads.blocks2 leads.sights2 next leads.together b.0.0)

      no_help : (copier : Copier) (goal : Table) → u.call.stands ≡ at.Helps copier goal → ⊥
      no_help copier goal here = elim (s.stand i (OnKey u) has) as (λ _. ⊥) [
        | inl rests ↦ elim rests.1.facts as (λ _. ⊥) [
          | inl fresh ↦ (let f = subst (λ (q : Calling). CallingFacts same hash asks w i its_setting c seen u.keys u.change u.call q) here fresh.point in let yes = f.1 in cc (yes, mode))
          | inr late ↦ subst (λ (q : Calling). SupersededCalling same hash asks w i its_setting c seen u.keys u.began u.call q) here late.1.point
        ]
        | inr row ↦ none row.1
      ]

      key_at : (stands : Calling) → u.call.stands ≡ stands → After
      key_at (at.Helps copier goal) here = absurd (no_help copier goal here)
      key_at (at.Copies copier) here = by_copier copier here
      key_at _ here = by_beside (ap copier_in here) (λ copying. subst (λ (stands : Calling). IsCopying stands) here copying)

      call_keeps : After
      call_keeps = key_at u.call.stands refl

    module _ (r : CallForRoom) (has : calls i ≡ Some (ForRoom r)) (none : IsRowOfReserve r.reserve.stands → ⊥) (p2 : Reserve) (end : Yielding (Node K V) Unit)
        (steps : Steps Took value_at w.memory (room_plans.reserve_plan hash r.reserve) m2 (p2, end))
        (leads : RoomStepsTogether V same hash asks setting slot w c blocks sights calls i r m2 p2 end) where
      abbrev rooms_next : Option (UnderWay K V Q)
      rooms_next = next_for_room (record { began = r.began; reserve = p2 }) end

      abbrev RoomsAfter : Type 0
      RoomsAfter = HaveEndsBlocking leads.went.c2 (with_at calls i rooms_next)

      rooms_reached : Reached same hash its_setting mode w i c seen (its_map V same hash asks setting slot are power mode w c blocks sights calls s all i (ForRoom r) has leads.inside) m2 leads.went.c2 leads.went.blocks2
      rooms_reached = (leads.went.w2, leads.went.memory, leads.went.map, leads.went.blocks_same, leads.went.tables, leads.went.moved)

      room_beside : copier_in_room r.reserve.stands ≡ None → (CopiesPairs r.reserve.stands → ⊥) → RoomsAfter
      room_beside within apart =
          beside_keeps V same hash asks setting slot are power mode w c blocks sights calls s all i (ForRoom r) has leads.inside m2 leads.went.c2 leads.went.blocks2 rooms_reached rooms_next within none
          (first_links hash its_setting.mode c leads.went.c2 (told leads.went.told)) (room_spent Q leads.went.c2 r.began p2 end (room_new hash w.memory m2 r.reserve (p2, end) within steps))
        where
          told : RoomOutcome V same hash asks setting slot c i r p2 end leads.went.w2 leads.went.c2 leads.went.blocks2 → OnlyLinks hash its_setting.mode c leads.went.c2
          told (FreshRoom fresh) = fresh.beside apart
          told (LateRoom blocking late) = late.beside apart

      room_copier : (copier : Copier) → r.reserve.stands ≡ reserves.Copies copier → RoomsAfter
      room_copier copier here =
          let b = steps_back (room_plans.copied r.reserve) w.memory m2 (copier_plan hash copier) (p2, end)
          (subst (λ (stands : Reserving). Steps Took value_at w.memory (room_plans.plan_at hash r.reserve stands) m2 (p2, end)) here steps) in
          copier_keeps V same hash asks setting slot are power mode w c blocks sights calls s all i (ForRoom r) has leads.inside m2 leads.went.c2 leads.went.blocks2 rooms_reached rooms_next copier
          (ap copier_in_room here) (λ row. none (subst (λ (stands : Reserving). IsRowOfReserve stands) (sym here) row)) b.0 b.1 (room_within Q r.began r.reserve b.0 (p2, end) b.2)
          leads.went.w2 (seen_by leads.blocks2 (leads.sights2 (slot i))) (knows_then leads.went.w2 leads.went.c2 leads.blocks2 leads.sights2 rooms_next leads.together b.0.0)

      room_at : (stands : Reserving) → r.reserve.stands ≡ stands → RoomsAfter
      room_at (reserves.Copies copier) here = room_copier copier here
      room_at _ here = room_beside (ap copier_in_room here) (λ copying. subst (λ (stands : Reserving). CopiesPairs stands) here copying)

      room_keeps : RoomsAfter
      room_keeps = room_at r.reserve.stands refl

    module _ (o : CallOverAll) (has : calls i ≡ Some (OverAll o)) (none : IsRowOfSweep o.sweep.stands → ⊥) (p2 : Sweep) (end : Swept (Node K V))
        (steps : Steps Took value_at w.memory (sweep_plans.sweep_plan hash o.sweep) m2 (p2, end))
        (leads : SweepStepsTogether V same hash asks setting slot w c blocks sights calls i o m2 p2 end) where
      abbrev sweeps_next : Option (UnderWay K V Q)
      sweeps_next = next_over_all (come_to o leads.entered2 leads.done2 p2) end

      abbrev SweepsAfter : Type 0
      SweepsAfter = HaveEndsBlocking leads.went.c2 (with_at calls i sweeps_next)

      sweeps_reached : Reached same hash its_setting mode w i c seen (its_map V same hash asks setting slot are power mode w c blocks sights calls s all i (OverAll o) has leads.inside) m2 leads.went.c2 leads.went.blocks2
      sweeps_reached = (leads.went.w2, leads.went.memory, leads.went.map, leads.went.blocks_same, leads.went.tables, leads.went.moved)

      sweep_beside : copier_in_sweep o.sweep.stands ≡ None → (SweepCopies o.sweep.stands → ⊥) → SweepsAfter
      sweep_beside within apart =
          beside_keeps V same hash asks setting slot are power mode w c blocks sights calls s all i (OverAll o) has leads.inside m2 leads.went.c2 leads.went.blocks2 sweeps_reached sweeps_next within none
          (first_removes hash its_setting.mode c leads.went.c2 (leads.went.told.beside apart))
          (sweep_spent Q o leads.entered2 leads.done2 leads.went.c2 p2 end (sweep_new hash w.memory m2 o.sweep (p2, end) within steps))

      sweep_copier : (copier : Copier) → o.sweep.stands ≡ sweeps.Copies copier → SweepsAfter
      sweep_copier copier here =
          let b = steps_back (sweep_plans.copied o.sweep) w.memory m2 (copier_plan hash copier) (p2, end)
          (subst (λ (stands : Sweeping). Steps Took value_at w.memory (sweep_plans.plan_at hash o.sweep stands) m2 (p2, end)) here steps) in
          copier_keeps V same hash asks setting slot are power mode w c blocks sights calls s all i (OverAll o) has leads.inside m2 leads.went.c2 leads.went.blocks2 sweeps_reached sweeps_next copier
          (ap copier_in_sweep here) (λ row. none (subst (λ (stands : Sweeping). IsRowOfSweep stands) (sym here) row)) b.0 b.1
          (sweep_within Q o leads.entered2 leads.done2 o.sweep b.0 (p2, end) b.2)
          leads.went.w2 (seen_by leads.blocks2 (leads.sights2 (slot i))) (knows_then leads.went.w2 leads.went.c2 leads.blocks2 leads.sights2 sweeps_next leads.together b.0.0)

      sweep_at : (stands : Sweeping) → o.sweep.stands ≡ stands → SweepsAfter
      sweep_at (sweeps.Copies copier) here = sweep_copier copier here
      sweep_at _ here = sweep_beside (ap copier_in_sweep here) (λ copying. subst (λ (stands : Sweeping). SweepCopies stands) here copying)

      sweep_keeps : SweepsAfter
      sweep_keeps = sweep_at o.sweep.stands refl

  pub calls_keep_ends_blocking : CallsPreserveEndsBlocking V same hash asks setting slot
  calls_keep_ends_blocking are power mode w c blocks sights calls s all i u has none m2 p2 progress steps leads =
      call_keeps are power mode w c blocks sights calls s all i m2 u has none p2 progress steps leads

  pub rooms_keep_ends_blocking : RoomsPreserveEndsBlocking V same hash asks setting slot
  rooms_keep_ends_blocking are power mode w c blocks sights calls s all i r has none m2 p2 end steps leads =
      room_keeps are power mode w c blocks sights calls s all i m2 r has none p2 end steps leads

  pub sweeps_keep_ends_blocking : SweepsPreserveEndsBlocking V same hash asks setting slot
  sweeps_keep_ends_blocking are power mode w c blocks sights calls s all i o has none m2 p2 end steps leads =
      sweep_keeps are power mode w c blocks sights calls s all i m2 o has none p2 end steps leads

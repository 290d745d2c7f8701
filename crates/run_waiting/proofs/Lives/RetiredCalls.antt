-- The tables that the collector has after a step of a call, or of the making of a map, are retired, or rows within calls are to retire them.
use Rattle.std.specs.Prelude.{◌≡◌, ◌≢◌, ◌⊎◌, ℕ, Bool, true, List, [], ◌∷◌, Option, Some, None, if◌then◌else◌}
use Rattle.std.proofs.Common.{refl, ap, sym, subst, ◌∙◌, inl, inr}
use Rattle.std.proofs.lemmas.Bool.{cases_eq, ne_eqb}
use Rattle.run_debts.specs.Given.SeizeWordsMem.{value_at}
use Rattle.run_debts.specs.Given.SeizeWordsWord.{block_in}
use Rattle.run_debts.specs.Given.SeizeDeclared.advance.Advance.{Advance}
use Rattle.run_debts.specs.Given.SeizeDeclared.rows.defer.Deferring.{Deferring}
use Rattle.run_debts.specs.Given.SeizeDeclared.rows.defer.Deferring.TheVariants as deferring
use Rattle.run_debts.specs.Given.SeizeWorld.{World, Row, Rests, Hand, NoBlock, Making, InUse, Parting, Cutting, Handed, LeftTo, Request, Event, Begin, Step, Begins, Runs, Happens, Steps', with_at}
use Rattle.run_debts.proofs.Given.SeizeAloneHistories.NotTaken.{did, nobodys}
use Rattle.run_debts.proofs.Given.SeizeAloneHistories.Reached.{Reached, happens_reached}
use Rattle.run_debts.specs.Given.TablesNodes.{deferred_word}
use Rattle.run_debts.specs.Given.TablesDeclared.table_words.TheConstants.{DEFERRED}
use Rattle.run_debts.specs.Given.TablesDeclared.node.Node.{Node}
use Rattle.run_debts.specs.Given.TablesDeclared.node.Node.TheVariants as node
use Rattle.run_debts.specs.Given.TablesDeclared.setting.Setting.{Setting}
use Rattle.run_debts.specs.Given.ResizeDeclared.copier.Copying.{Copying}
use Rattle.run_debts.specs.Given.ResizeDeclared.copier.Copying.TheVariants as copying
use Rattle.run_debts.specs.Given.ResizeDeclared.dispose.Disposing.{Disposing}
use Rattle.run_debts.specs.Given.ResizeDeclared.dispose.Disposing.TheVariants as disposing
use Rattle.run_debts.specs.Given.ReservesDeclared.reserve.Reserving.{Reserving}
use Rattle.run_debts.specs.Given.ReservesDeclared.reserve.Reserving.TheVariants as reserving
use Rattle.run_debts.specs.Given.ReservesDeclared.sweep.Sweeping.{Sweeping}
use Rattle.run_debts.specs.Given.ReservesDeclared.sweep.Sweeping.TheVariants as sweeping
use Rattle.run_debts.specs.Given.RawDeclared.machines.call.Calling.{Calling}
use Rattle.run_debts.specs.Given.RawDeclared.machines.call.Calling.TheVariants as calling
use Rattle.run_debts.specs.Given.RawDeclared.machines.machine.Machine.{Machine}
use Rattle.run_debts.specs.Given.RawDeclared.machines.progress.Progress.{Progress as CallTold}
use Rattle.run_debts.specs.Given.RawDeclared.machines.progress.Progress.TheVariants as progress
use Rattle.run_debts.specs.Given.RunsDeclared.effect.Effect.{Effect}
use Rattle.run_debts.specs.Given.RunsDeclared.effect.Effect.TheVariants.{Reclaimed, Taken}
use Rattle.run_debts.specs.Given.RunsDeclared.effect.TableId.{TableId}
use Rattle.run_debts.specs.Given.RunsDeclared.effect.Thing.TheVariants.{APair, ATable}
use Rattle.run_debts.specs.Given.SchedulesEffects.{with_effects}
use Rattle.run_debts.specs.Given.SchedulesMoment.{Moment}
use Rattle.run_debts.specs.Given.SchedulesViews.{is_stage, is_retired}
use Rattle.run_debts.specs.Given.EffectsDeclared.changed.Changed.{Changed}
use Rattle.run_debts.specs.Given.RuleInWorld.{AllUsers}
use Rattle.run_debts.specs.Given.RuleWords.{Blocks}
use Rattle.run_debts.specs.Given.RuleChart.{Chart}
use Rattle.run_debts.specs.Given.CallersKept.{IsUsersOwn}
use Rattle.run_debts.specs.Given.CallersRows.{row_of, row_of_disposal, row_of_copier}
use Rattle.run_debts.specs.Given.CallersRooms.{row_of_room}
use Rattle.run_debts.specs.Given.CallersOverAll.{row_of_sweep}
use Rattle.run_debts.specs.Given.CallersSights.{seen_by}
use Rattle.run_debts.specs.Given.CallersTogether.{UnderWay, OnKey, ForRoom, Counting, OverAll, IsAtPoint, Together, IsOneStep}
use Rattle.run_debts.proofs.Given.CallersRows.Users.{events_not_handed, own_not_handed}
use Rattle.run_debts.proofs.Given.CallersTogether.At.{at_same, at_other}
use Rattle.run_debts.proofs.Given.CallersTogether.Came.{came_reached}
use Rattle.run_debts.proofs.Given.CallersTogether.Users.{events_rows}
use Rattle.run_debts.specs.Given.EffectsEffects.{carried, named, effects_of, known_after}
use Rattle.run_debts.specs.Given.EffectsKnown.{Known}
use Rattle.run_debts.specs.Given.EffectsDeclared.acting.Acting.{Acting}
use Rattle.run_debts.specs.Given.EffectsDeclared.acting.Acting.TheVariants as acts
use Rattle.run_debts.specs.Given.EffectsDeclared.role.Role.{Role}
use Rattle.run_debts.specs.Given.EffectsDeclared.role.Role.TheVariants as role
use Rattle.run_debts.specs.Given.FinishesMachines.{machine_of, ContinuesAs}
use Rattle.run_debts.specs.Given.FinishesMakings.{Beginning}
use Rattle.run_debts.specs.Given.FinishesMaps.{Standing}
use Rattle.run_debts.specs.Given.FollowsBlocks.{HasRole}
use Rattle.run_debts.proofs.Given.FollowsSteps.{WentTo, went_to, DidSo, OfNoRow}
use Rattle.run_debts.specs.Given.OthersMakings.{WasNew}
use Rattle.run_debts.proofs.Given.SpotsHanding.{HandsNothing, AllHandNothing}
use Rattle.run_debts.proofs.Given.SpotsSteps.{hands_nothing}
use Rattle.run_debts.specs.Given.MomentsWhole.{RefinesWhole}
use Rattle.run_debts.specs.Due.{RowObligation, due_in_defer, due_in_disposing, due_in_copying, due_in_calling, due_in_reserving, due_in_sweeping, due_in_row, retired_effects, RowTells, TellsNone, TellsRetired, TellsDeferred, OwnAreMade}
use Rattle.run_debts.specs.Entries.{EntriesAreBlank}
use Rattle.run_debts.proofs.DueCalls.{rows_tell_due}
use Rattle.run_waiting.specs.Lives.Retired.{IsPendingRetirement, IsToRetire, RefinesRetiredTables, CallsStay, MakingsPreserveRetired, CallsPreserveRetired}
use Rattle.run_waiting.proofs.Lives.Makings.{apart}
use Rattle.run_waiting.proofs.Lives.Retires.{HandedBy, Retires, PutsBehind, HadIt, begun_due, begun_handed, handed_before, not_over}
use Rattle.run_waiting.proofs.Lives.Stages.{EndsIt, NoneEnds, now_retired, still_retired, WasTable, role_back}
use Rattle.run_debts.specs.Given.ScenesHeld.{Held, IsAt}
use Rattle.run_debts.specs.Given.ScenesMaking.{MakingLeads}
use Rattle.run_debts.specs.Given.ScenesScene.{HasCall, Scene, slot_of}
use Rattle.run_debts.specs.Given.ScenesStepping.{StepLeads, scene_after}

-- where users do something, the collector had the block of a table that it has
pub users_handed : {K V : Type 0} (size b : ℕ) (events : List (Event (Node K V))) (w v : World (Node K V)) → Reached deferred_word size w → (value : Node K V) → value_at w.memory b ≡ Some value
    → AllUsers events → Runs deferred_word size events w v → v.hand b ≡ Handed → w.hand b ≡ Handed
users_handed {K} {V} size b events w v r value there users runs handed = by (w.hand b) refl
  where
    not_own : IsUsersOwn (w.hand b) → ⊥
    not_own own = let k = events_not_handed size b events w v users runs (own_not_handed (w.hand b) own) in rw handed at k

    by : (h : Hand) → w.hand b ≡ h → w.hand b ≡ Handed
    by NoBlock e = absurd (let none = nobodys deferred_word size w r b e in cc (none, there))
    by (Making i) e = absurd (not_own (subst IsUsersOwn (sym e) tt))
    by (InUse o) e = absurd (not_own (subst IsUsersOwn (sym e) tt))
    by (Parting i) e = absurd (not_own (subst IsUsersOwn (sym e) tt))
    by (Cutting i) e = absurd (not_own (subst IsUsersOwn (sym e) tt))
    by Handed e = e
    by (LeftTo i) e = absurd (not_own (subst IsUsersOwn (sym e) tt))

-- which effects end no table: those that hand nothing over, and those that a row within a call tells
module _ (t : TableId) where
  hands_none : (f : Effect) → HandsNothing f → EndsIt t f → ⊥
  hands_none (Reclaimed (ATable u)) hands ends = hands
  hands_none (Reclaimed (APair n)) hands ends = hands
  hands_none (Taken u) hands ends = hands
  hands_none _ hands ends = ends

  none_end : (effects : List Effect) → AllHandNothing effects → NoneEnds t effects
  none_end [] all = tt
  none_end (f ∷ effects) all = (hands_none f all.0, none_end effects all.1)

  retired_ends : (r : Role) → NoneEnds t (retired_effects r)
  retired_ends (role.Pair n) = (λ z. z, tt)
  retired_ends (role.Table u len) = (λ z. z, tt)
  retired_ends role.Free = tt
  retired_ends (role.OwnPair i) = tt
  retired_ends (role.OwnTable turn shape) = tt
  retired_ends (role.Counter of) = tt

  carried_ends : (u : TableId) (r : Role) → NoneEnds t (carried u r)
  carried_ends u (role.Pair n) = (λ z. z, tt)
  carried_ends u role.Free = tt
  carried_ends u (role.OwnPair i) = tt
  carried_ends u (role.OwnTable turn shape) = tt
  carried_ends u (role.Table x len) = tt
  carried_ends u (role.Counter of) = tt

  row_ends : (caller map : ℕ) (known : Known) (effects : List Effect) (before after : Option RowObligation) → RowTells caller map known effects before after → NoneEnds t effects
  row_ends caller map known effects before after (TellsNone none same) = subst (NoneEnds t) (sym none) tt
  row_ends caller map known effects before after (TellsRetired word was gone are) = subst (NoneEnds t) (sym are) (retired_ends (known.roles (block_in word)))
  row_ends caller map known effects before after (TellsDeferred word block place u len was its gone table are) = subst (NoneEnds t) (sym are) (carried_ends u (named known word))

-- what a call's machine has to retire is what its row has
module _ (b slot : ℕ) where
  disposing_due : (p : Disposing) → IsToRetire b (row_of_disposal slot p) → IsPendingRetirement b (due_in_disposing p)
  disposing_due (disposing.Settles settle) due = due
  disposing_due (disposing.Defers defer) due = absurd due
  disposing_due _ due = absurd due

  copying_due : (p : Copying) → IsToRetire b (row_of_copier p) → IsPendingRetirement b (due_in_copying p)
  copying_due (copying.Retires settle rest) due = due
  copying_due _ due = absurd due

  row_disposing : (p : Disposing) → IsPendingRetirement b (due_in_disposing p) → IsToRetire b (row_of_disposal slot p)
  row_disposing (disposing.Settles settle) due = due
  row_disposing (disposing.Defers defer) due = absurd (put_none defer.stands due)
    where
      put_none : (p : Deferring) → IsPendingRetirement b (due_in_defer defer p) → ⊥
      put_none deferring.Over due = due
      put_none deferring.Reads due = due
      put_none (deferring.Links head) due = due
      put_none (deferring.Pushes head) due = due
  row_disposing disposing.Reads due = absurd due
  row_disposing (disposing.Walks table) due = absurd due
  row_disposing disposing.Over due = absurd due

  row_copying : (p : Copying) → IsPendingRetirement b (due_in_copying p) → IsToRetire b (row_of_copier p)
  row_copying (copying.Retires settle rest) due = due
  row_copying _ due = absurd due

  calling_due : (p : Calling) → IsToRetire b (row_of slot p) → IsPendingRetirement b (due_in_calling p)
  calling_due (calling.Disposes dispose answer) due = disposing_due dispose.stands due
  calling_due (calling.Helps copier goal) due = copying_due copier.stands due
  calling_due (calling.Copies copier) due = copying_due copier.stands due
  calling_due _ due = absurd due

  row_calling : (p : Calling) → IsPendingRetirement b (due_in_calling p) → IsToRetire b (row_of slot p)
  row_calling (calling.Disposes dispose answer) due = row_disposing dispose.stands due
  row_calling (calling.Helps copier goal) due = row_copying copier.stands due
  row_calling (calling.Copies copier) due = row_copying copier.stands due
  row_calling _ due = absurd due

  reserving_due : (p : Reserving) → IsToRetire b (row_of_room p) → IsPendingRetirement b (due_in_reserving p)
  reserving_due (reserving.Copies copier) due = copying_due copier.stands due
  reserving_due _ due = absurd due

  row_reserving : (p : Reserving) → IsPendingRetirement b (due_in_reserving p) → IsToRetire b (row_of_room p)
  row_reserving (reserving.Copies copier) due = row_copying copier.stands due
  row_reserving _ due = absurd due

  sweeping_due : (p : Sweeping) → IsToRetire b (row_of_sweep slot p) → IsPendingRetirement b (due_in_sweeping p)
  sweeping_due (sweeping.Copies copier) due = copying_due copier.stands due
  sweeping_due (sweeping.Disposes dispose) due = disposing_due dispose.stands due
  sweeping_due _ due = absurd due

  row_sweeping : (p : Sweeping) → IsPendingRetirement b (due_in_sweeping p) → IsToRetire b (row_of_sweep slot p)
  row_sweeping (sweeping.Copies copier) due = row_copying copier.stands due
  row_sweeping (sweeping.Disposes dispose) due = row_disposing dispose.stands due
  row_sweeping _ due = absurd due

module _ {K V : Type 0} (same : K → K → Bool) (hash : K → ℕ) (setting : Setting) (w : World (Node K V)) (c : Chart K) (blocks : Blocks) (i b : ℕ) where
  abbrev StandsAt : UnderWay K V K → Type 0
  StandsAt u = IsAtPoint V same hash same setting slot_of w c blocks i u

  -- by its row
  pub due_of : (u : UnderWay K V K) → StandsAt u → IsToRetire b (w.row i) → IsPendingRetirement b (due_in_row (machine_of u))
  due_of (OnKey x) (inl (rests, knows)) due = absurd (subst (IsToRetire b) rests due)
  due_of (OnKey x) (inr (row, is_row, knows)) due = calling_due b (slot_of i) x.call.stands (subst (IsToRetire b) row due)
  due_of (ForRoom r) (inl (rests, knows)) due = absurd (subst (IsToRetire b) rests due)
  due_of (ForRoom r) (inr (row, is_row, knows)) due = reserving_due b (slot_of i) r.reserve.stands (subst (IsToRetire b) row due)
  due_of (Counting sum) (rests, facts, idle) due = absurd (subst (IsToRetire b) rests due)
  due_of (OverAll o) (inl (rests, knows)) due = absurd (subst (IsToRetire b) rests due)
  due_of (OverAll o) (inr (row, is_row, knows)) due = sweeping_due b (slot_of i) o.sweep.stands (subst (IsToRetire b) row due)

  -- by its machine, unless it has no row under way
  pub to_retire : (u : UnderWay K V K) → StandsAt u → (w.row i ≡ Rests → ⊥) → IsPendingRetirement b (due_in_row (machine_of u)) → IsToRetire b (w.row i)
  to_retire (OnKey x) (inl (rests, knows)) goes due = absurd (goes rests)
  to_retire (OnKey x) (inr (row, is_row, knows)) goes due = subst (IsToRetire b) (sym row) (row_calling b (slot_of i) x.call.stands due)
  to_retire (ForRoom r) (inl (rests, knows)) goes due = absurd (goes rests)
  to_retire (ForRoom r) (inr (row, is_row, knows)) goes due = subst (IsToRetire b) (sym row) (row_reserving b (slot_of i) r.reserve.stands due)
  to_retire (Counting sum) (rests, facts, idle) goes due = absurd (goes rests)
  to_retire (OverAll o) (inl (rests, knows)) goes due = absurd (goes rests)
  to_retire (OverAll o) (inr (row, is_row, knows)) goes due = subst (IsToRetire b) (sym row) (row_sweeping b (slot_of i) o.sweep.stands due)

-- what becomes of the tables
module _ {K V : Type 0} (size : ℕ) (m v : Moment K V) (known : Known) (s t : Scene K V) (shows : RefinesRetiredTables m known s) (roles : (b : ℕ) → HasRole s.world m.stored b (known.roles b))
    (owning : OwnAreMade known s.world) (reached : Reached deferred_word size s.world) where
  abbrev Then : ℕ → TableId → Type 0
  Then b x = (is_stage is_retired x v ≡ true) ⊎ ((j : ℕ) × HasCall t j × IsToRetire b (t.world.row j))

  -- one of a map, or of somebody's own, is in its block, and has a place
  table_there : (b len : ℕ) (x : TableId) → WasTable known b x len → (limit turn : ℕ) × (value_at s.world.memory b ≡ Some (node.Table len limit turn)) × (len ≢ 0)
  table_there b len x (inl is) = (let has = subst (HasRole s.world m.stored b) is (roles b) in (_, _, has.1, shows.lengths b len x is))
  table_there b len x (inr (turn, shape, is, e)) =
      (let has = subst (HasRole s.world m.stored b) is (roles b) in (_, _, has.1 ∙ ap (λ (n : ℕ). Some (node.Table n shape.limit turn)) e, λ z. has.0 (e ∙ z)))

  -- one that the collector had is noted as one of a map
  was_noted : (b len : ℕ) (x : TableId) → WasTable known b x len → s.world.hand b ≡ Handed → known.roles b ≡ role.Table x len
  was_noted b len x (inl is) handed = is
  was_noted b len x (inr (turn, shape, is, e)) handed = absurd (let made = (owning b turn shape is).1 in cc (made, handed))

  -- where the collector had it
  had : (b len : ℕ) (x : TableId) → WasTable known b x len → s.world.hand b ≡ Handed → (is_stage is_retired x m ≡ true → is_stage is_retired x v ≡ true)
      → ((j : ℕ) → HasCall s j → IsToRetire b (s.world.row j) → Then b x) → Then b x
  had b len x was handed still due = elim (shows.tables b len x (was_noted b len x was handed) handed) as (λ _. Then b x) [
    | inl so ↦ inl (still so)
    | inr its ↦ due its.0 its.1 its.2
  ]

  -- by users
  pub users_retired : (acting : Acting) (told : Changed) (events : List (Event (Node K V))) → AllUsers events → Runs deferred_word size events s.world t.world → CallsStay s t
      → ((x : TableId) → is_stage is_retired x m ≡ true → is_stage is_retired x v ≡ true) → RefinesRetiredTables v (known_after acting told known) t
  users_retired acting told events users runs stay still = record {
    tables = λ b len x is handed.
        let was = role_back acting known b len x told is in
        let value = table_there b len x was in
        let before = users_handed size b events s.world t.world reached (node.Table len value.0 value.1) value.2 users runs handed in
        had b len x was before (still x) (λ j call due.
        let row = subst (IsToRetire b) (sym (ap (λ (f : ℕ → Row). f j) (events_rows size events s.world t.world users runs))) due in
        elim (stay j call) as (λ _. Then b x) [
          | inl has ↦ inr (j, has, row)
          | inr rests ↦ absurd (subst (IsToRetire b) rests row)
        ]);
    lengths = λ b len x is. (table_there b len x (role_back acting known b len x told is)).3;
  }

module _ {K V : Type 0} (same : K → K → Bool) (hash : ℕ → K → ℕ) (name : ℕ → List ℕ) (m : Moment K V) (known : Known) (s : Scene K V) (old new : Held K V) (at : IsAt same hash old s)
    (whole : RefinesWhole same name m known s) (entries : EntriesAreBlank s) (owning : OwnAreMade known s.world) (shows : RefinesRetiredTables m known s) (map i : ℕ) (u : UnderWay K V K)
    (here : s.calls map i ≡ Some u) (said : CallTold (Node K V)) (leads : StepLeads same hash i said s old new) where
  abbrev to : WentTo same hash name m known s old new at whole.all.shown map i u here said leads
  to = went_to same hash name m known s old new at whole.all.shown map i u here said leads

  abbrev told : Changed
  told = new.changed

  abbrev effects : List Effect
  effects = effects_of (acts.Call i map) known told

  abbrev v : Moment K V
  v = with_effects (Some (name i)) (Some map) effects m

  abbrev known2 : Known
  known2 = known_after (acts.Call i map) told known

  abbrev s2 : Scene K V
  s2 = scene_after same s old new map i to.0 u to.1 said to.4

  abbrev size : ℕ
  size = to.0.setting.batch_size

  abbrev each : Together V same to.0.hash same to.0.setting slot_of s.world to.0.chart to.0.blocks to.0.sights (s.calls map)
  each = at.together.makings.standing.each map to.0 to.2

  reached : Reached deferred_word size s.world
  reached = came_reached size s.world each.ground.came

  -- of calls, this one's alone goes on otherwise, or not any more
  other_calls : (n j : ℕ) → (j ≡ i → ⊥) → s2.calls n j ≡ s.calls n j
  other_calls n j ne = elim (cases_eq n map) as (λ _. s2.calls n j ≡ s.calls n j) [
    | inl e ↦
        ap (λ (f : ℕ → Option (UnderWay K V K)). f j) (at_same s.calls map (with_at (s.calls map) i to.4.next) n e) ∙ at_other (s.calls map) i to.4.next j ne ∙ ap (λ (k : ℕ). s.calls k j) (sym e)
    | inr other ↦ ap (λ (f : ℕ → Option (UnderWay K V K)). f j) (at_other s.calls map (with_at (s.calls map) i to.4.next) n other)
  ]

  pub its_call : (u2 : UnderWay K V K) → to.4.next ≡ Some u2 → s2.calls map i ≡ Some u2
  its_call u2 e =
      ap (λ (f : ℕ → Option (UnderWay K V K)). f i) (at_same s.calls map (with_at (s.calls map) i to.4.next) map refl) ∙ at_same (s.calls map) i to.4.next i refl ∙ e

  pub stay : CallsStay s s2
  stay j (n, x, is) = elim (cases_eq j i) as (λ _. HasCall s2 j ⊎ (s2.world.row j ≡ Rests)) [
    | inl e ↦ subst (λ (k : ℕ). HasCall s2 k ⊎ (s2.world.row k ≡ Rests)) (sym e) (by to.4.next refl)
    | inr ne ↦ inl (n, x, other_calls n j ne ∙ is)
  ]
    where
      by : (o : Option (UnderWay K V K)) → to.4.next ≡ o → HasCall s2 i ⊎ (s2.world.row i ≡ Rests)
      by None e = inr (to.4.rests e)
      by (Some u2) e = inl (map, u2, its_call u2 e)

  -- it goes on where its row does
  pub goes_on : (to.4.w2.row i ≡ Rests → ⊥) → (u2 : UnderWay K V K) × (to.4.next ≡ Some u2) × (machine_of u2 ≡ to.1)
  goes_on on = by said to.4.goes_on
    where
      by : (x : CallTold (Node K V)) → ContinuesAs to.1 x to.4.next → (u2 : UnderWay K V K) × (to.4.next ≡ Some u2) × (machine_of u2 ≡ to.1)
      by (progress.Done answer) none = absurd (on (to.4.rests none))
      by (progress.Refused fault) none = absurd (on (to.4.rests none))
      by _ goes = goes

  abbrev Result : ℕ → TableId → Type 0
  Result = Then size m v known s s2 shows whole.all.shown.blocks.roles owning reached

  then_long : (b len : ℕ) (x : TableId) → known2.roles b ≡ role.Table x len → len ≢ 0
  then_long b len x is =
      (table_there size m v known s s2 shows whole.all.shown.blocks.roles owning reached b len x (role_back (acts.Call i map) known b len x told is)).3

  others_due : (b : ℕ) (x : TableId) (j : ℕ) → HasCall s j → (j ≡ i → ⊥) → IsToRetire b (s.world.row j) → Result b x
  others_due b x j call ne due =
      let row = subst (IsToRetire b) (sym (to.4.rows j ne)) due in
      elim (stay j call) as (λ _. Result b x) [
        | inl has ↦ inr (j, has, row)
        | inr rests ↦ absurd (subst (IsToRetire b) rests row)
      ]

  -- none of a row
  by_events : (w2 : World (Node K V)) → to.4.w2 ≡ w2 → (events : List (Event (Node K V))) → AllUsers events → Runs deferred_word size events s.world w2
      → OfNoRow same hash name m known s old new at whole.all.shown map i u here said leads u to.4.did → RefinesRetiredTables v known2 s2
  by_events w2 is events users runs own =
      users_retired size m v known s s2 shows whole.all.shown.blocks.roles owning reached (acts.Call i map) told events users
      (subst (λ (z : World (Node K V)). Runs deferred_word size events s.world z) (sym is) runs) stay
      (λ x so. still_retired x (Some (name i)) (Some map) effects m (none_end x effects (hands_nothing same hash name m known s old new at whole.all.shown map i u here said leads own)) so)

  -- of a row
  module _ (other : OfNoRow same hash name m known s old new at whole.all.shown map i u here said leads u to.4.did → ⊥) where
    tells : RowTells i map known effects (due_in_row (machine_of u)) (due_in_row to.1)
    tells = rows_tell_due K V same hash name m known s old new at whole.all.shown whole.all.rows entries owning map i u here said leads other

    still : (x : TableId) → is_stage is_retired x m ≡ true → is_stage is_retired x v ≡ true
    still x so = still_retired x (Some (name i)) (Some map) effects m (row_ends x i map known effects (due_in_row (machine_of u)) (due_in_row to.1) tells) so

    -- what its row is to retire
    its_due : (b len : ℕ) (x : TableId) → known.roles b ≡ role.Table x len → IsPendingRetirement b (due_in_row (machine_of u)) → (to.4.w2.row i ≡ Rests → ⊥) → Result b x
    its_due b len x table due on = by tells
      where
        by : RowTells i map known effects (due_in_row (machine_of u)) (due_in_row to.1) → Result b x
        by (TellsNone none alike) =
            let next = goes_on on in
            let st2 : Standing K = record to.0 { chart = to.4.its_map.0; blocks = to.4.its_map.1; sights = to.4.its_map.2 } in
            let stands = (to.4.together.makings.standing.each map st2 to.4.its_map.4).stand i next.0 (its_call next.0 next.1) in
            let due2 = subst (λ (z : Machine K V K). IsPendingRetirement b (due_in_row z)) (sym next.2) (subst (IsPendingRetirement b) (sym alike) due) in
            inr (i, (map, next.0, its_call next.0 next.1), to_retire same to.0.hash to.0.setting to.4.w2 st2.chart (seen_by st2.blocks (st2.sights (slot_of i))) i b next.0 stands on due2)
        by (TellsRetired word was gone are) =
            let names : block_in word ≡ b = subst (IsPendingRetirement b) was due in
            let alone = are ∙ ap (λ (k : ℕ). retired_effects (known.roles k)) names ∙ ap retired_effects table in
            inl (subst (λ (fs : List Effect). is_stage is_retired x (with_effects (Some (name i)) (Some map) fs m) ≡ true) (sym alone) (now_retired x m.tables (whole.blocks.tables b len x table)))
        by (TellsDeferred word block place y n was its gone noted are) = absurd (subst (IsPendingRetirement b) was due)

    module _ (w3 : World (Node K V)) (is : to.4.w2 ≡ w3) where
      goes_in : (b : ℕ) → IsToRetire b (w3.row i) → to.4.w2.row i ≡ Rests → ⊥
      goes_in b due rests = subst (IsToRetire b) (sym (ap (λ (z : World (Node K V)). z.row i) is) ∙ rests) due

      in_w3 : (b : ℕ) → s2.world.hand b ≡ Handed → w3.hand b ≡ Handed
      in_w3 b handed = sym (ap (λ (z : World (Node K V)). z.hand b) is) ∙ handed

      -- it takes a step
      stepped : Steps' deferred_word i (s.world.row i) s.world w3 → RefinesRetiredTables v known2 s2
      stepped step = record {
        tables = λ b len x noted handed.
            let was = role_back (acts.Call i map) known b len x told noted in
            let row = did deferred_word size s.world reached i w3 step in
            let before = handed_before row.effects s.world.hand b (sym (ap (λ (h : ℕ → Hand). h b) row.hands) ∙ in_w3 b handed) in
            let table = was_noted size m v known s s2 shows whole.all.shown.blocks.roles owning reached b len x was before in
            had size m v known s s2 shows whole.all.shown.blocks.roles owning reached b len x was before (still x) (λ j call due.
            elim (cases_eq j i) as (λ _. Result b x) [
              | inl e ↦
                  let mine = subst (λ (k : ℕ). IsToRetire b (s.world.row k)) e due in
                  its_due b len x table (due_of same to.0.hash to.0.setting s.world to.0.chart (seen_by to.0.blocks (to.0.sights (slot_of i))) i b u (each.stand i u here) mine)
                  (λ rests. not_over deferred_word size s.world w3 reached i step b mine (sym (ap (λ (z : World (Node K V)). z.row i) is) ∙ rests))
              | inr ne ↦ others_due b x j call ne due
            ]);
        lengths = then_long;
      }

      -- it begins with it
      began : (request : Request) (begun : World (Node K V)) → Happens deferred_word size (Begin i request) s.world begun → Happens deferred_word size (Step i) begun w3 → RefinesRetiredTables v known2 s2
      began request begun begin step = record { tables = λ b len x noted handed. by b len x (role_back (acts.Call i map) known b len x told noted) (hands b handed); lengths = then_long }
        where
          hands : (b : ℕ) → s2.world.hand b ≡ Handed → HandedBy deferred_word s.world request b
          hands b handed =
              let row = did deferred_word size begun (happens_reached deferred_word size (Begin i request) s.world begun reached begin) i w3 step in
              begun_handed deferred_word size i s.world begun b request begin.1 (handed_before row.effects begun.hand b (sym (ap (λ (h : ℕ → Hand). h b) row.hands) ∙ in_w3 b handed))

          by : (b len : ℕ) (x : TableId) → WasTable known b x len → HandedBy deferred_word s.world request b → Result b x
          by b len x was (Retires slot e) =
              let due = begun_due deferred_word size i s.world begun w3 slot b (subst (λ (r : Request). Begins deferred_word size i r s.world begun) e begin.1) step in
              let next = goes_on (goes_in b due) in
              inr (i, (map, next.0, its_call next.0 next.1), subst (λ (z : World (Node K V)). IsToRetire b (z.row i)) (sym is) due)
          by b len x was (PutsBehind value there none) =
              let its = table_there size m v known s s2 shows whole.all.shown.blocks.roles owning reached b len x was in
              let both : Some value ≡ Some (node.Table len its.0 its.1) = sym there ∙ its.2 in
              let one : value ≡ node.Table len its.0 its.1 = cc both in
              let lists : deferred_word value ≡ Some DEFERRED = ap deferred_word one ∙ ap (λ (q : Bool). if q then None else Some DEFERRED) (ne_eqb len 0 its.3) in
              absurd (cc (none, lists))
          by b len x was (HadIt before) =
              had size m v known s s2 shows whole.all.shown.blocks.roles owning reached b len x was before (still x) (λ j call due.
              others_due b x j call (λ e. subst (IsToRetire b) (ap s.world.row e ∙ begin.0) due) due)

      one_step : IsOneStep to.0.setting i s.world w3 → RefinesRetiredTables v known2 s2
      one_step (inl step) = stepped step
      one_step (inr (request, begun, over, begin, step)) = began request begun begin step

  pub kept_retired : RefinesRetiredTables v known2 s2
  kept_retired = by u to.4.did (λ own. own) (λ none. none)
    where
      Own : (x : UnderWay K V K) → DidSo same hash name m known s old new at whole.all.shown map i u here said leads x → Type 0
      Own x step = OfNoRow same hash name m known s old new at whole.all.shown map i u here said leads x step

      by : (x : UnderWay K V K) (step : DidSo same hash name m known s old new at whole.all.shown map i u here said leads x) → (Own x step → Own u to.4.did)
          → ((Own x step → ⊥) → Own u to.4.did → ⊥) → RefinesRetiredTables v known2 s2
      by (OnKey x) (p2, end, machine_is, told_is, inl (step, moved)) own no_own = by_events step.step.went.w2 moved.0 step.step.went.events step.step.went.users step.step.went.runs (own tt)
      by (OnKey x) (p2, end, machine_is, told_is, inr (row, stayed)) own no_own = one_step (no_own (λ z. z)) row.step.w2 stayed.0 row.step.happened
      by (ForRoom x) (p2, end, machine_is, told_is, inl (step, moved)) own no_own = by_events step.step.went.w2 moved.0 step.step.went.events step.step.went.users step.step.went.runs (own tt)
      by (ForRoom x) (p2, end, machine_is, told_is, inr (row, stayed)) own no_own = one_step (no_own (λ z. z)) row.step.w2 stayed.0 row.step.happened
      by (Counting x) (p2, end, machine_is, told_is, still_there, stayed) own no_own = by_events s.world stayed.0 [] tt refl (own tt)
      by (OverAll x) (p2, end, machine_is, told_is, inl (step, moved)) own no_own = by_events step.step.went.w2 moved.0 step.step.went.events step.step.went.users step.step.went.runs (own tt)
      by (OverAll x) (p2, end, machine_is, told_is, inr (row, stayed)) own no_own = one_step (no_own (λ z. z)) row.step.w2 stayed.0 row.step.happened

-- A making steps as users do, and ends no table.
module _ {K V : Type 0} (same : K → K → Bool) (hash : ℕ → K → ℕ) (name : ℕ → List ℕ) (m : Moment K V) (known : Known) (s : Scene K V) (old new : Held K V) (at : IsAt same hash old s)
    (whole : RefinesWhole same name m known s) (owning : OwnAreMade known s.world) (shows : RefinesRetiredTables m known s) (i : ℕ) (said : Advance Setting) (leads : MakingLeads same hash i said s old new)
    (b : Beginning K) (here : s.makers i ≡ Some b) (of : Option ℕ) (was_new : WasNew b.map said m) where
  pub making_retired : RefinesRetiredTables (with_effects None of (effects_of (acts.Making b.map) known new.changed) m) (known_after (acts.Making b.map) new.changed known) (record s { world = (leads b here).2.step.w2 })
  making_retired =
      let step = (leads b here).2.step in
      users_retired old.batch_size m (with_effects None of (effects_of (acts.Making b.map) known new.changed) m) known s (record s { world = step.w2 }) shows whole.all.shown.blocks.roles owning
      (came_reached old.batch_size s.world at.together.makings.standing.came) (acts.Making b.map) new.changed step.events step.users step.runs (λ j has. inl has)
      (λ x so. still_retired x None of (effects_of (acts.Making b.map) known new.changed) m ((apart same hash name m known s old new at whole i said leads b here of was_new).2 x) so)

pub calls_keep_retired : (K V : Type 0) (same : K → K → Bool) (hash : ℕ → K → ℕ) → CallsPreserveRetired K V same hash
calls_keep_retired K V same hash name m known s old new at whole entries owning shows map i u here told leads =
    kept_retired same hash name m known s old new at whole entries owning shows map i u here told leads

pub makings_keep_retired : (K V : Type 0) (same : K → K → Bool) (hash : ℕ → K → ℕ) → MakingsPreserveRetired K V same hash
makings_keep_retired K V same hash name m known s old new at whole owning shows i told leads b here of was_new =
    making_retired same hash name m known s old new at whole owning shows i told leads b here of was_new

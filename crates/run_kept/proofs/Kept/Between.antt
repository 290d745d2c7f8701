-- Between the steps of calls: where one begins, takes a reply, or is a walk that goes on or is given up, all that is kept is so then.
use Rattle.std.specs.Prelude.{◌≡◌, ◌⊎◌, ℕ, Bool, true, false, List, [], Option, Some, None}
use Rattle.std.proofs.Common.{refl, ap, sym, subst, ◌∙◌, inl, inr}
use Rattle.std.proofs.lemmas.Bool.{cases_eq}
use Rattle.seize.specs.World.{Rests, with_at}
use Rattle.papaya_raw.specs.Given.TablesDeclared.setting.Setting.{Setting}
use Rattle.papaya_raw.specs.Machine.{is_ready, machine_asked}
use Rattle.papaya_raw.specs.declared.machines.call.KeyCall.{KeyCall}
use Rattle.papaya_raw.specs.declared.machines.machine.Machine.TheVariants as kinds
use Rattle.papaya_raw.specs.Given.ReservesDeclared.sweep.Sweeping.{Sweeping}
use Rattle.papaya_raw.specs.Given.ReservesDeclared.sweep.Sweeping.TheVariants as sweeping
use Rattle.run_schedules.specs.Schedules.Beginning.{with_call}
use Rattle.run_schedules.specs.Schedules.Growing.{only_looks}
use Rattle.run_schedules.specs.Schedules.Moment.{Moment}
use Rattle.run_schedules.specs.declared.call.Call.{Call}
use Rattle.run_schedules.specs.declared.call.Call.TheVariants.{On, Reserve, Clear, Retain, Len, Walk}
use Rattle.run_executor.specs.Given.PointsSteps.{AreLawful}
use Rattle.run_executor.specs.Given.LateToldSweeps.{IsRowOfSweep}
use Rattle.run_executor.specs.Given.CallersOverAll.{CallOverAll}
use Rattle.run_executor.specs.Given.CallersRooms.{CallForRoom}
use Rattle.run_executor.specs.Given.CallersPairs.{Given}
use Rattle.run_executor.specs.Given.CallersTogether.{UnderWay, OnKey, ForRoom, Counting, OverAll, IsBegun, Gets, Removes, Inserts, TriesToInsert, Computes, Updates, UpdatesOrInserts, TriesToInsertWith, RemovesIf}
use Rattle.run_executor.proofs.Given.CallersTogether.At.{at_same, at_other}
use Rattle.run_executor.specs.Given.FinishesMachines.{machine_of}
use Rattle.run_executor.specs.Given.FinishesMaps.{Standing, with_call as with_in}
use Rattle.run_executor.specs.Given.FollowsCalling.{told}
use Rattle.run_executor.specs.Given.FollowsCalls.{IsCalled}
use Rattle.run_executor.specs.Given.HandsCalling.{IsBegunFor}
use Rattle.run_executor.specs.Given.OthersWalks.{given_up}
use Rattle.run_blocks.specs.Owes.Looking.{IsLooking}
use Rattle.run_blocks.specs.Owes.Made.{OwnsSo}
use Rattle.run_blocks.proofs.Owes.Between.{calls_begin_made, calls_begin_owning, calls_take_made, walks_go_on_made, walks_stop_made}
use Rattle.run_blocks.proofs.Owes.Looking.Between.{calls_begin_looking, lookups_begin, calls_take_looking, walks_go_on_looking, walks_stop_looking}
use Rattle.run_blocks.proofs.Owes.Short.Between.{calls_begin_short, calls_take_short, walks_go_on_short, walks_stop_short}
use Rattle.run_blocks.proofs.Owes.Grown.Between.{calls_begin_grown, machines_begin_grown, calls_take_grown, walks_go_on_grown, walks_stop_grown}
use Rattle.run_blocks.proofs.Owes.Tables.Between.{calls_begin_tables, calls_take_tables, walks_go_on_tables, walks_stop_tables}
use Rattle.run_blocks.specs.Given.SettlesCounts.{counts_in_sweeping, is_to_count}
use Rattle.run_blocks.specs.Given.SettlesOwed.{HasNothing}
use Rattle.run_blocks.proofs.Given.SettlesBetween.{calls_begin_counts, calls_begin_uncounted, calls_take_counts, walks_go_on_counts, walks_stop_counts}
use Rattle.run_blocks.proofs.Given.SettlesEntryScenes.{calls_go_on_entries}
use Rattle.run_blocks.proofs.Given.SettlesHand.Between.{calls_begin_owed, calls_take_owed, walks_go_on_owed, walks_stop_owed}
use Rattle.run_blocks.proofs.Given.SettlesHanding.{calls_begin_handing, calls_take_handing, walks_go_on_handing, walks_stop_handing}
use Rattle.run_waiting.specs.Lives.Behind.{WaitsOnce}
use Rattle.run_waiting.specs.Lives.Retired.{CallsStay}
use Rattle.run_waiting.proofs.Lives.HandedRows.{others_leave_handed}
use Rattle.run_waiting.proofs.Lives.LeftTables.{others_keep_left}
use Rattle.run_waiting.proofs.Lives.Lying.{others_leave_lying}
use Rattle.run_waiting.proofs.Lives.Order.{others_leave_order}
use Rattle.run_waiting.proofs.Lives.Reclaimed.{others_leave_retired}
use Rattle.run_waiting.proofs.Lives.Waiting.{others_leave_waiting}
use Rattle.run_blocks.specs.Given.WaitsOthers.{copier_in, copier_in_room, copier_in_sweep, copier_of}
use Rattle.run_kept.proofs.Kept.Ends.{calls_begin_ends, calls_take_ends, walks_go_on_ends, walks_stop_ends}
use Rattle.run_kept.specs.Kept.Steps.{CallsBeginKept, CallsTakeKept, WalksPreserveKept, WalksStopKept}
use Rattle.run_executor.proofs.Given.ScenesMay.{standing_is}
use Rattle.run_executor.specs.Given.ScenesBeginning.{Begins}
use Rattle.run_executor.specs.Given.ScenesHeld.{Held, IsAt}
use Rattle.run_executor.specs.Given.ScenesReplying.{scene_with, unless_stopped}
use Rattle.run_executor.specs.Given.ScenesScene.{HasCall, Scene, slot_of}

-- a call that begins has nothing in hand
module _ (K V : Type 0) (same : K → K → Bool) where
  key_begins : (hash : K → ℕ) (setting : Setting) (slot : ℕ → ℕ) (i : ℕ) (keys : K → Bool) (given : Given K V) (call : KeyCall K V K)
      → IsBegun V same hash same setting slot i keys given call → HasNothing K V (kinds.Key call)
  key_begins hash setting slot i keys given call (Gets q code few class) known = (refl, tt)
  key_begins hash setting slot i keys given call (Removes q code few class) known = (refl, tt)
  key_begins hash setting slot i keys given call (Inserts key value) known = (refl, tt)
  key_begins hash setting slot i keys given call (TriesToInsert key value) known = (refl, tt)
  key_begins hash setting slot i keys given call (Computes key) known = (refl, tt)
  key_begins hash setting slot i keys given call (Updates key) known = (refl, tt)
  key_begins hash setting slot i keys given call (UpdatesOrInserts key absent) known = (refl, tt)
  key_begins hash setting slot i keys given call (TriesToInsertWith key) known = (refl, tt)
  key_begins hash setting slot i keys given call (RemovesIf q code few class) known = (refl, tt)

  -- nor to count
  pub uncounted_at_first : (standing : Standing K) (i : ℕ) (u : UnderWay K V K) → Begins same standing i u → is_to_count (machine_of u) ≡ false
  uncounted_at_first standing i (OnKey u) begins = calls_begin_uncounted K V same standing.hash standing.setting slot_of i u.keys u.pair u.call begins.0
  uncounted_at_first standing i (ForRoom r) begins = refl
  uncounted_at_first standing i (Counting sum) begins = refl
  uncounted_at_first standing i (OverAll o) begins = subst (λ (x : CallOverAll). counts_in_sweeping x.sweep.stands ≡ false) (sym begins.1) refl

  -- it copies nothing yet
  key_copies_none : (hash : K → ℕ) (setting : Setting) (slot : ℕ → ℕ) (i : ℕ) (keys : K → Bool) (given : Given K V) (call : KeyCall K V K)
      → IsBegun V same hash same setting slot i keys given call → copier_in call.stands ≡ None
  key_copies_none hash setting slot i keys given call (Gets q code few class) = refl
  key_copies_none hash setting slot i keys given call (Removes q code few class) = refl
  key_copies_none hash setting slot i keys given call (Inserts key value) = refl
  key_copies_none hash setting slot i keys given call (TriesToInsert key value) = refl
  key_copies_none hash setting slot i keys given call (Computes key) = refl
  key_copies_none hash setting slot i keys given call (Updates key) = refl
  key_copies_none hash setting slot i keys given call (UpdatesOrInserts key absent) = refl
  key_copies_none hash setting slot i keys given call (TriesToInsertWith key) = refl
  key_copies_none hash setting slot i keys given call (RemovesIf q code few class) = refl

  copies_none_at_first : (standing : Standing K) (i : ℕ) (u : UnderWay K V K) → Begins same standing i u → copier_of u ≡ None
  copies_none_at_first standing i (OnKey u) begins = key_copies_none standing.hash standing.setting slot_of i u.keys u.pair u.call begins.0
  copies_none_at_first standing i (ForRoom r) begins = subst (λ (x : CallForRoom). copier_in_room x.reserve.stands ≡ None) (sym begins.1) refl
  copies_none_at_first standing i (Counting sum) begins = refl
  copies_none_at_first standing i (OverAll o) begins = subst (λ (x : CallOverAll). copier_in_sweep x.sweep.stands ≡ None) (sym begins.1) refl

  -- it has no block of its own
  owns_at_first : (standing : Standing K) (i : ℕ) (u : UnderWay K V K) → AreLawful same standing.hash → Begins same standing i u → OwnsSo (machine_of u)
  owns_at_first standing i (OnKey u) lawful begins = calls_begin_owning K V same standing.hash standing.setting slot_of i lawful u.keys u.pair u.call begins.0
  owns_at_first standing i (ForRoom r) lawful begins = tt
  owns_at_first standing i (Counting sum) lawful begins = tt
  owns_at_first standing i (OverAll o) lawful begins = tt

  -- and looks, if it only looks
  looks_at_first : (standing : Standing K) (i : ℕ) (u : UnderWay K V K) (call : Call K V) → Begins same standing i u → IsCalled same u call → IsBegunFor u call → only_looks call ≡ true → IsLooking (machine_of u)
  looks_at_first standing i (OnKey x) (On one) begins called begun looks =
      lookups_begin K V same standing.hash standing.setting slot_of i x.keys one [] x.call
      (subst (λ (g : Given K V). IsBegun V same standing.hash same standing.setting slot_of i x.keys g x.call) begun begins.0) looks
  looks_at_first standing i (OnKey x) (Reserve additional) begins called begun looks = absurd called
  looks_at_first standing i (OnKey x) Clear begins called begun looks = absurd called
  looks_at_first standing i (OnKey x) Retain begins called begun looks = absurd called
  looks_at_first standing i (OnKey x) Len begins called begun looks = absurd called
  looks_at_first standing i (OnKey x) Walk begins called begun looks = absurd called
  looks_at_first standing i (ForRoom r) (Reserve additional) begins called begun looks = absurd (cc looks)
  looks_at_first standing i (ForRoom r) (On one) begins called begun looks = absurd called
  looks_at_first standing i (ForRoom r) Clear begins called begun looks = absurd called
  looks_at_first standing i (ForRoom r) Retain begins called begun looks = absurd called
  looks_at_first standing i (ForRoom r) Len begins called begun looks = absurd called
  looks_at_first standing i (ForRoom r) Walk begins called begun looks = absurd called
  looks_at_first standing i (Counting sum) call begins called begun looks = tt
  looks_at_first standing i (OverAll o) Clear begins called begun looks = absurd (cc looks)
  looks_at_first standing i (OverAll o) Retain begins called begun looks = absurd (cc looks)
  looks_at_first standing i (OverAll o) Walk begins called begun looks = absurd (cc looks)
  looks_at_first standing i (OverAll o) (On one) begins called begun looks = absurd called
  looks_at_first standing i (OverAll o) (Reserve additional) begins called begun looks = absurd called
  looks_at_first standing i (OverAll o) Len begins called begun looks = absurd called

  nothing_at_first : (standing : Standing K) (i : ℕ) (u : UnderWay K V K) → Begins same standing i u → HasNothing K V (machine_of u)
  nothing_at_first standing i (OnKey u) begins = key_begins standing.hash standing.setting slot_of i u.keys u.pair u.call begins.0
  nothing_at_first standing i (ForRoom r) begins = subst (λ (x : CallForRoom). HasNothing K V (kinds.Reserve x.reserve)) (sym begins.1) (λ known. (refl, tt))
  nothing_at_first standing i (Counting sum) begins = λ known. (refl, tt)
  nothing_at_first standing i (OverAll o) begins = subst (λ (x : CallOverAll). HasNothing K V (kinds.Sweep x.sweep)) (sym begins.1) (λ known. (refl, tt))

-- of calls, this one alone goes on otherwise, or is under way no more
module _ {K V : Type 0} (s : Scene K V) (map i : ℕ) (next : Option (UnderWay K V K)) where
  abbrev calls2 : ℕ → ℕ → Option (UnderWay K V K)
  calls2 = with_in s.calls map i next

  other_calls : (n j : ℕ) → (j ≡ i → ⊥) → calls2 n j ≡ s.calls n j
  other_calls n j ne = elim (cases_eq n map) as (λ _. calls2 n j ≡ s.calls n j) [
    | inl e ↦
        ap (λ (f : ℕ → Option (UnderWay K V K)). f j) (at_same s.calls map (with_at (s.calls map) i next) n e) ∙ at_other (s.calls map) i next j ne ∙ ap (λ (k : ℕ). s.calls k j) (sym e)
    | inr other ↦ ap (λ (f : ℕ → Option (UnderWay K V K)). f j) (at_other s.calls map (with_at (s.calls map) i next) n other)
  ]

  its_call : calls2 map i ≡ next
  its_call = ap (λ (f : ℕ → Option (UnderWay K V K)). f i) (at_same s.calls map (with_at (s.calls map) i next) map refl) ∙ at_same (s.calls map) i next i refl

  pub calls_stay : (next ≡ None → s.world.row i ≡ Rests) → CallsStay s (record s { calls = calls2 })
  calls_stay rests j (n, x, is) = elim (cases_eq j i) as (λ _. HasCall (record s { calls = calls2 }) j ⊎ (s.world.row j ≡ Rests)) [
    | inl e ↦ subst (λ (k : ℕ). HasCall (record s { calls = calls2 }) k ⊎ (s.world.row k ≡ Rests)) (sym e) (by next refl)
    | inr ne ↦ inl (n, x, other_calls n j ne ∙ is)
  ]
    where
      by : (o : Option (UnderWay K V K)) → next ≡ o → HasCall (record s { calls = calls2 }) i ⊎ (s.world.row i ≡ Rests)
      by None e = inr (rests e)
      by (Some y) e = inl (map, y, its_call ∙ e)

-- a walk that is ready has no row under way
ready_row : (p : Sweeping) → is_ready p ≡ true → IsRowOfSweep p → ⊥
ready_row sweeping.Ready e row = row
ready_row _ e row = absurd (cc e)

module _ {K V : Type 0} (same : K → K → Bool) (hash : ℕ → K → ℕ) (s : Scene K V) (e : Held K V) (at : IsAt same hash e s) (map i : ℕ) where
  ready_rests : (u : UnderWay K V K) → s.calls map i ≡ Some u → (machine_asked (machine_of u)).1 ≡ true → s.world.row i ≡ Rests
  ready_rests (OverAll o) here ready =
      let its_map = standing_is same hash e s at map i (OverAll o) here in
      elim ((at.together.makings.standing.each map its_map.0 its_map.1).stand i (OverAll o) here) as (λ _. s.world.row i ≡ Rests) [
        | inl rests ↦ rests.0
        | inr row ↦ absurd (ready_row o.sweep.stands ready row.1)
      ]
  ready_rests (OnKey x) here ready = absurd (cc ready)
  ready_rests (ForRoom r) here ready = absurd (cc ready)
  ready_rests (Counting sum) here ready = absurd (cc ready)

-- where a walk is given up, tables and pairs are as they were
module _ {K V : Type 0} (own : List ℕ) (m : Moment K V) where
  given_tables : (stopped : Bool) → (given_up own stopped m).tables ≡ m.tables
  given_tables true = refl
  given_tables false = refl

  given_deferred : (stopped : Bool) → (given_up own stopped m).deferred ≡ m.deferred
  given_deferred true = refl
  given_deferred false = refl

  given_place : (stopped : Bool) → (given_up own stopped m).place ≡ m.place
  given_place true = refl
  given_place false = refl

module _ (K V : Type 0) (same : K → K → Bool) (hash : ℕ → K → ℕ) where
  pub calls_begin_kept : CallsBeginKept K V same hash
  calls_begin_kept name m known s old new at whole kept map i standing there u call guard begins called begun none rests at2 shows2 = record {
    entries = calls_go_on_entries K V s kept.entries map i (Some u) (inr rests);
    made = calls_begin_made K V name m known s kept.made map i u call guard none (owns_at_first K V same standing i u (at.together.makings.standing.fit map standing there).0 begins);
    tables = calls_begin_tables K V same hash name m known s old new at whole kept.tables map i u call guard none at2 shows2;
    looking = calls_begin_looking K V name m s kept.looking map i u call guard none (looks_at_first K V same standing i u call begins called begun);
    short = calls_begin_short K V name m s kept.short map i u call guard none;
    grown = calls_begin_grown K V name m s kept.grown map i u call guard none (machines_begin_grown K V same standing i u begins);
    counts = calls_begin_counts K V name m s kept.counts map i u call guard none (uncounted_at_first K V same standing i u begins);
    owed = calls_begin_owed K V name m known s kept.owed map i u call guard none (nothing_at_first K V same standing i u begins);
    handing = calls_begin_handing K V name m s kept.handing map i u call guard none rests;
    waiting = others_leave_waiting K V m v known s.world kept.waiting refl refl;
    once = kept.once;
    lying = others_leave_lying K V m v known s.world kept.lying refl;
    order = others_leave_order K V m v known s.world kept.order refl;
    retired = others_leave_retired K V m v known s (scene_with map i u s) kept.retired refl refl (calls_stay s map i (Some u) (λ is. absurd (cc is)));
    left = others_keep_left K V known s (scene_with map i u s) kept.left refl refl;
    handed = others_leave_handed K V m v known s (scene_with map i u s) kept.handed refl refl refl refl (calls_stay s map i (Some u) (λ is. absurd (cc is)));
    ends = calls_begin_ends s kept.ends map i name none u (copies_none_at_first K V same standing i u begins);
  }
    where
      v : Moment K V
      v = with_call (name i) guard call (Some map) m

  pub calls_take_kept : CallsTakeKept K V same hash
  calls_take_kept name m known s old new at whole kept map i u here reply next next_is is_told at2 shows2 = record {
    entries = calls_go_on_entries K V s kept.entries map i (Some next) (inl (u, here));
    made = calls_take_made K V same name m known s whole kept.made map i u here reply next next_is is_told;
    tables = calls_take_tables K V same hash name m known s old new at whole kept.tables map i u here reply next next_is is_told at2 shows2;
    looking = calls_take_looking K V same name m known s whole kept.looking map i u here reply next next_is is_told;
    short = calls_take_short K V same name m known s whole kept.short map i u here reply next next_is is_told;
    grown = calls_take_grown K V same name m known s whole kept.grown map i u here reply next next_is is_told;
    counts = calls_take_counts K V same name m known s whole kept.counts map i u here reply next next_is is_told;
    owed = calls_take_owed K V same name m known s whole kept.owed map i u here reply next next_is is_told;
    handing = calls_take_handing K V same name m s whole.all.shown.calls kept.handing map i u here next is_told;
    waiting = others_leave_waiting K V m v known s.world kept.waiting refl refl;
    once = kept.once;
    lying = others_leave_lying K V m v known s.world kept.lying refl;
    order = others_leave_order K V m v known s.world kept.order refl;
    retired = others_leave_retired K V m v known s (scene_with map i next s) kept.retired refl refl (calls_stay s map i (Some next) (λ is. absurd (cc is)));
    left = others_keep_left K V known s (scene_with map i next s) kept.left refl refl;
    handed = others_leave_handed K V m v known s (scene_with map i next s) kept.handed refl refl refl refl (calls_stay s map i (Some next) (λ is. absurd (cc is)));
    ends = calls_take_ends s kept.ends map i u here reply next next_is;
  }
    where
      v : Moment K V
      v = told (name i) is_told m

  pub walks_go_on_kept : WalksPreserveKept K V same hash
  walks_go_on_kept name m known s old new whole kept i leads map u here =
      let next = (leads map u here).0 in
      record {
        entries = calls_go_on_entries K V s kept.entries map i (Some next) (inl (u, here));
        made = walks_go_on_made K V same hash name m known s old new kept.made i leads map u here;
        tables = walks_go_on_tables K V same hash name m known s old new whole kept.tables i leads map u here;
        looking = walks_go_on_looking K V same hash name m s old new kept.looking i leads map u here;
        short = walks_go_on_short K V same hash name m s old new kept.short i leads map u here;
        grown = walks_go_on_grown K V same hash name m s old new kept.grown i leads map u here;
        counts = walks_go_on_counts K V same hash name m s old new kept.counts i leads map u here;
        owed = walks_go_on_owed K V same hash name m known s old new kept.owed i leads map u here;
        handing = walks_go_on_handing K V same hash name m s old new kept.handing i leads map u here;
        waiting = kept.waiting;
        once = kept.once;
        lying = kept.lying;
        order = kept.order;
        retired = others_leave_retired K V m m known s (scene_with map i next s) kept.retired refl refl (calls_stay s map i (Some next) (λ is. absurd (cc is)));
        left = others_keep_left K V known s (scene_with map i next s) kept.left refl refl;
        handed = others_leave_handed K V m m known s (scene_with map i next s) kept.handed refl refl refl refl (calls_stay s map i (Some next) (λ is. absurd (cc is)));
        ends = walks_go_on_ends s kept.ends map i u here next (leads map u here).1;
      }

  pub walks_stop_kept : WalksStopKept K V same hash
  walks_stop_kept name m known s old new at whole kept i stopped leads map u here none = record {
    entries = calls_go_on_entries K V s kept.entries map i (unless_stopped stopped u) (inl (u, here));
    made = walks_stop_made K V same hash name m known s old new whole.all.shown kept.made i stopped leads map u here none;
    tables = walks_stop_tables K V same hash name m known s old new whole kept.tables i stopped leads map u here none;
    looking = walks_stop_looking K V same hash name m known s old new whole kept.looking i stopped leads map u here none;
    short = walks_stop_short K V same hash name m known s old new whole kept.short i stopped leads map u here none;
    grown = walks_stop_grown K V same hash name m known s old new whole kept.grown i stopped leads map u here none;
    counts = walks_stop_counts K V same hash name m known s old new whole.all.shown kept.counts i stopped leads map u here none;
    owed = walks_stop_owed K V same hash name m known s old new whole.all.shown kept.owed i stopped leads map u here none;
    handing = walks_stop_handing K V same hash name m s old new whole.all.shown.calls kept.handing i stopped leads map u here none;
    waiting = others_leave_waiting K V m v known s.world kept.waiting (given_deferred (name i) m stopped) (given_place (name i) m stopped);
    once = subst WaitsOnce (sym (given_deferred (name i) m stopped)) kept.once;
    lying = others_leave_lying K V m v known s.world kept.lying (given_deferred (name i) m stopped);
    order = others_leave_order K V m v known s.world kept.order (given_deferred (name i) m stopped);
    retired = others_leave_retired K V m v known s (record s { calls = with_in s.calls map i (unless_stopped stopped u) }) kept.retired (given_tables (name i) m stopped) refl
        (calls_stay s map i (unless_stopped stopped u) (rests stopped refl));
    left = others_keep_left K V known s (record s { calls = with_in s.calls map i (unless_stopped stopped u) }) kept.left refl refl;
    handed = others_leave_handed K V m v known s (record s { calls = with_in s.calls map i (unless_stopped stopped u) }) kept.handed (given_place (name i) m stopped) (given_deferred (name i) m stopped)
        (given_tables (name i) m stopped) refl (calls_stay s map i (unless_stopped stopped u) (rests stopped refl));
    ends = walks_stop_ends s kept.ends map i u here stopped (leads map u here).0;
  }
    where
      v : Moment K V
      v = given_up (name i) stopped m

      rests : (q : Bool) → stopped ≡ q → unless_stopped q u ≡ None → s.world.row i ≡ Rests
      rests true is none_left = ready_rests same hash s old at map i u here (sym (leads map u here).0 ∙ is)
      rests false is none_left = absurd (cc none_left)

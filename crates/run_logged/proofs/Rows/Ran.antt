-- Where a row on a slot has led that ran: the executor is there, maps have the settings that they had, and others have under way what they had.
use Rattle.std.specs.Prelude.{◌≡◌, ◌≢◌, ℕ, zero, suc, Bool, false, List, Option, Some, None, option_map}
use Rattle.std.proofs.Common.{sym, ap, subst, ◌∙◌}
use Rattle.seize.specs.World.{World}
use Rattle.seize.specs.declared.advance.Advance.{Advance}
use Rattle.seize.specs.declared.rows.enter.Enter.{Enter}
use Rattle.seize.specs.declared.rows.enter.Unregister.{Unregister}
use Rattle.seize.specs.Enter.{enter_plan, unregister_plan}
use Rattle.run_schedules.specs.Given.SeizeWordsMem.{Mem}
use Rattle.run_effects.proofs.Given.SeizeRuleRows.Others.{begins_others, steps_others}
use Rattle.papaya_raw.specs.Given.TablesNodes.{deferred_word}
use Rattle.papaya_raw.specs.Given.TablesDeclared.node.Node.{Node}
use Rattle.run_effects.specs.declared.changed.Changed.{Changed}
use Rattle.run_effects.specs.declared.changed.Changed.TheVariants.{Nothing}
use Rattle.run_schedules.specs.declared.effect.Effect.{Effect}
use Rattle.run_schedules.specs.Schedules.Moment.{Moment}
use Rattle.run_executor.specs.declared.executor.Executor.{Executor}
use Rattle.run_shows.specs.declared.row.RowTold.{RowTold}
use Rattle.run_shows.specs.declared.row.RowTold.TheVariants as told
use Rattle.run_shows.specs.declared.row.SlotCall.{SlotCall}
use Rattle.run_shows.specs.declared.row.SlotRow.{SlotRow}
use Rattle.run_shows.specs.declared.row.SlotRow.TheVariants as rows
use Rattle.run_executor.specs.declared.worker.Work.TheVariants.{OnSlot}
use Rattle.run_shows.specs.Given.FinishesMaps.{IsSameMap, Standing}
use Rattle.run_logged.specs.Log.OnSlots.{ContinuesFor, OnSlotLast, StepsOn, has_come}
use Rattle.run_logged.specs.Log.Shown.{IsShown}
use Rattle.run_logged.specs.declared.logged.Logged.{Logged}
use Rattle.run_logged.proofs.Log.RowsFall.{under_way_on}
use Rattle.run_logged.specs.Rows.Rows.{RowRan}
use Rattle.run_logged.specs.Rows.Stores.{StoresOnce}
use Rattle.run_shows.proofs.Scenes.Told.{as_step}
use Rattle.run_executor.specs.Executing.IsThere.{IsThere, work_of}
use Rattle.run_executor.specs.Executing.OnSlots.{MayBegin, RowBeginsThere, row_on}
use Rattle.run_shows.specs.Scenes.OnSlots.{RowSteps}
use Rattle.run_shows.specs.Scenes.Rows.{begun_row, of_storing, request_of}
use Rattle.run_shows.specs.Scenes.Scene.{Scene, slot_of}

-- a map that is the same has its setting
setting_same : {K : Type 0} (before after : Option (Standing K)) → IsSameMap before after → option_map (λ st. st.setting) after ≡ option_map (λ st. st.setting) before
setting_same None after is = ap (option_map (λ st. st.setting)) is
setting_same (Some st) after is = ap (option_map (λ st. st.setting)) is.2

module _ {K V S : Type 0} (same : K → K → Bool) (hash : K → ℕ) (i : ℕ) (s : Scene K V) where
  -- From this scene a row of caller i has led to this executor.
  pub record Led (e : Executor K V S) : Type 0 where
    pub w : World (Node K V)
    pub maps : ℕ → Option (Standing K)
    pub at : IsThere same hash e (record s { world = w; maps = maps })
    pub settings : (n : ℕ) → option_map (λ st. st.setting) (maps n) ≡ option_map (λ st. st.setting) (s.maps n)
    pub rows : (j : ℕ) → j ≢ i → w.row j ≡ s.world.row j

  -- where it has begun,
  pub begun_led : (called : SlotCall) (old new : Executor K V S) → MayBegin old (slot_of i) called → RowBeginsThere same hash called i s old new → Led new
  begun_led called old new may leads =
      let to = (leads may).3.2 in
      record {
        w = to.0;
        maps = to.2;
        at = to.4;
        settings = λ n. setting_same (s.maps n) (to.2 n) (to.3 n);
        rows = λ j ne. begins_others deferred_word old.batch_size s.world to.0 i j ne (request_of (slot_of i) called) to.1.1;
      }

  -- and by each step of it,
  pub step_led : (old new : Executor K V S) (said : RowTold (Node K V)) (row : SlotRow) → work_of old i ≡ Some (OnSlot row) → StepsOn i said old new → Led old → Led new
  step_led old new said row here steps led =
      let then_at = record s { world = led.w; maps = led.maps } in
      let to = (steps same hash then_at led.at row here).5 in
      record {
        w = to.0;
        maps = to.2;
        at = to.4;
        settings = λ n. setting_same (led.maps n) (to.2 n) (to.3 n) ∙ led.settings n;
        rows = λ j ne. steps_others deferred_word old.batch_size led.w to.0 i j ne (led.w.row i) to.1 ∙ led.rows j ne;
      }

  -- by as many as it goes on for. It is under way then, as a row of which this is so, if each step keeps that.
  module _ (Is : SlotRow → Type 0) (keeps : (m m2 : Mem (Node K V)) (changed : Changed) (row after : SlotRow) (said : RowTold (Node K V)) → Is row → RowSteps K V row m m2 changed (after, said) → has_come said ≡ false → Is after) where
    abbrev pub OnWay : Executor K V S → Type 0
    OnWay e = Led e × ((row : SlotRow) × (work_of e i ≡ Some (OnSlot row)) × Is row)

    pub goes_led : (n : ℕ) (old new : Executor K V S) → ContinuesFor i n old new → OnWay old → OnWay new
    goes_led zero old new is way = subst OnWay is way
    goes_led (suc n) old new (mid, said, goes, not_yet, steps) way =
        let on = goes_led n old mid goes way in
        let leads = steps same hash (record s { world = on.0.w; maps = on.0.maps }) on.0.at on.1.0 on.1.1 in (
          step_led mid new said on.1.0 on.1.1 steps on.0,
          (leads.1, leads.3 ∙ under_way_on leads.1 said not_yet, keeps mid.memory.memory new.memory.memory new.memory.changed on.1.0 leads.1 said on.1.2 leads.2 not_yet),
        )

    -- and by the last one
    pub last_led : (old new : Executor K V S) (said : RowTold (Node K V)) → OnSlotLast i said old new → OnWay old
        → Led new × ((m m2 : Mem (Node K V)) × (changed : Changed) × (row after : SlotRow) × Is row × RowSteps K V row m m2 changed (after, said) × (work_of new i ≡ row_on after said))
    last_led old new said (mid, n, goes, steps) way =
        let on = goes_led n old mid goes way in
        let leads = steps same hash (record s { world = on.0.w; maps = on.0.maps }) on.0.at on.1.0 on.1.1 in (
          step_led mid new said on.1.0 on.1.1 steps on.0,
          (mid.memory.memory, new.memory.memory, new.memory.changed, on.1.0, leads.1, on.1.2, leads.2, leads.3),
        )

module _ (K V : Type 0) where
  -- its step is the last
  pub store_done : (m m2 : Mem (Node K V)) (changed : Changed) (row after : SlotRow) (said : RowTold (Node K V)) → StoresOnce row → RowSteps K V row m m2 changed (after, said) → said ≡ told.Done
  store_done m m2 changed (rows.Enters c) after said is st =
      let step = as_step m Nothing (enter_plan c) m2 changed st.0 st.1 in
      ap (λ (e : SlotRow × RowTold (Node K V)). e.1) st.2 ∙ ap (λ (x : Advance Unit). of_storing {T = Node K V} x) (ap (λ (x : Enter × Advance Unit). x.1) step.2)
  store_done m m2 changed (rows.Frees c) after said is st =
      let step = as_step m Nothing (unregister_plan c) m2 changed st.0 st.1 in
      ap (λ (e : SlotRow × RowTold (Node K V)). e.1) st.2 ∙ ap (λ (x : Advance Unit). of_storing {T = Node K V} x) (ap (λ (x : Unregister × Advance Unit). x.1) step.2)
  store_done m m2 changed (rows.Registers c) after said is st = absurd is
  store_done m m2 changed (rows.Leaves c) after said is st = absurd is
  store_done m m2 changed (rows.Flushes c) after said is st = absurd is

  pub store_keeps : (m m2 : Mem (Node K V)) (changed : Changed) (row after : SlotRow) (said : RowTold (Node K V)) → StoresOnce row → RowSteps K V row m m2 changed (after, said) → has_come said ≡ false → StoresOnce after
  store_keeps m m2 changed row after said is st not_yet = absurd (let h = ap (λ (x : RowTold (Node K V)). has_come x) (store_done m m2 changed row after said is st) in cc (h, not_yet))

-- What has begun, and what has run
module _ {K V S : Type 0} (same : K → K → Bool) (hash : K → ℕ) (name : ℕ → List ℕ) (m : Moment K V) (s : Scene K V) (old new : Logged K V S) (shown : IsShown same hash name m old s)
    (slot : ℕ) (called : SlotCall) (said : RowTold (Node K V)) (before after : List Effect) (ran : RowRan slot called said before after old new) (may : MayBegin old.executor slot called) where
  may_there : MayBegin old.executor (slot_of ran.caller) called
  may_there = subst (λ (x : ℕ). MayBegin old.executor x called) (sym ran.in_slot) may

  leads : RowBeginsThere same hash called ran.caller s old.executor ran.began.executor
  leads = (ran.begins same hash name m s shown may_there).0

  -- It is under way then, as the row that it began as.
  pub begun_way : (Is : SlotRow → Type 0) → Is (begun_row slot old.executor.batch_size called)
      → Led same hash ran.caller s ran.began.executor × ((row : SlotRow) × (work_of ran.began.executor ran.caller ≡ Some (OnSlot row)) × Is row)
  begun_way Is so = (
    begun_led same hash ran.caller s called old.executor ran.began.executor may_there leads,
    (
      begun_row (slot_of ran.caller) old.executor.batch_size called,
      (leads may_there).1,
      subst (λ (x : ℕ). Is (begun_row x old.executor.batch_size called)) (sym ran.in_slot) so,
    ),
  )

  -- One that begins by a call of one store ends done.
  module _ (once : StoresOnce (begun_row slot old.executor.batch_size called)) where
    ended : Led same hash ran.caller s new.executor × ((m m2 : Mem (Node K V)) × (changed : Changed) × (row after : SlotRow) × StoresOnce row × RowSteps K V row m m2 changed (after, said) × (work_of new.executor ran.caller ≡ row_on after said))
    ended = last_led same hash ran.caller s StoresOnce (store_keeps K V) ran.began.executor new.executor said ran.last (begun_way StoresOnce once)

    pub led_once : Led same hash ran.caller s new.executor
    led_once = ended.0

    pub done_once : said ≡ told.Done
    done_once = store_done K V ended.1.0 ended.1.1 ended.1.2 ended.1.3 ended.1.4 said ended.1.5 ended.1.6

    pub over_once : work_of new.executor ran.caller ≡ None
    over_once = ended.1.7 ∙ ap (λ (x : RowTold (Node K V)). row_on {K = K} {V = V} ended.1.4 x) done_once

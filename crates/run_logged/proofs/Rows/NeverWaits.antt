-- A row that leaves its slot, refreshes or flushes never waits where nobody has the batch of its slot in hand as it begins: it ends done.
use Rattle.std.specs.Prelude.{◌≡◌, ◌≢◌, ℕ, Bool, true, false, List, Option, Some, None}
use Rattle.std.proofs.Common.{refl, sym, ap, subst, ◌∙◌}
use Rattle.seize.specs.Leave.{leave_plan}
use Rattle.seize.specs.Settle.{settle_plan}
use Rattle.seize.specs.World.{Row}
use Rattle.seize.specs.declared.rows.settle.Settled.{Settled}
use Rattle.seize.specs.declared.rows.settle.Settled.TheVariants as settled
use Rattle.run_schedules.specs.Given.SeizeWordsMem.{Mem, Took, value_at}
use Rattle.run_schedules.specs.Given.SeizeWordsPlan.{Steps}
use Rattle.run_shows.specs.Given.SeizeEndsHolders.{has_batch}
use Rattle.run_shows.proofs.Given.SeizeActsWaits.{leaves_wait, settles_wait}
use Rattle.papaya_raw.specs.Given.TablesNodes.{deferred_word}
use Rattle.papaya_raw.specs.Given.TablesDeclared.node.Node.{Node}
use Rattle.run_effects.specs.declared.changed.Changed.{Changed}
use Rattle.run_effects.specs.declared.changed.Changed.TheVariants.{Nothing}
use Rattle.run_schedules.specs.declared.effect.Effect.{Effect}
use Rattle.run_schedules.specs.Schedules.Moment.{Moment}
use Rattle.run_shows.specs.Given.CallersRows.{IsRowOn}
use Rattle.run_executor.specs.declared.executor.Executor.{Executor}
use Rattle.run_shows.specs.declared.row.RowTold.{RowTold}
use Rattle.run_shows.specs.declared.row.RowTold.TheVariants as told
use Rattle.run_shows.specs.declared.row.SlotCall.{SlotCall}
use Rattle.run_shows.specs.declared.row.SlotRow.{SlotRow}
use Rattle.run_shows.specs.declared.row.SlotRow.TheVariants as rows
use Rattle.run_executor.specs.declared.worker.Work.{Work}
use Rattle.run_executor.specs.declared.worker.Work.TheVariants.{OnSlot}
use Rattle.run_logged.specs.Log.OnSlots.{has_come}
use Rattle.run_logged.specs.Log.Shown.{IsShown}
use Rattle.run_logged.specs.declared.logged.Logged.{Logged}
use Rattle.run_logged.specs.Rows.Rows.{RowRan}
use Rattle.run_logged.specs.Rows.Settling.{IsSettling}
use Rattle.run_logged.proofs.Rows.Holders.{good, held}
use Rattle.run_logged.proofs.Rows.Ran.{Led, begun_way, goes_led, step_led}
use Rattle.run_shows.proofs.Scenes.Told.{as_step}
use Rattle.run_executor.specs.Executing.IsThere.{HasRow, work_of}
use Rattle.run_executor.specs.Executing.OnSlots.{MayBegin, RowStepsThere, row_on}
use Rattle.run_shows.specs.Scenes.OnSlots.{RowSteps}
use Rattle.run_shows.specs.Scenes.Rows.{begun_row, of_settling}
use Rattle.run_shows.specs.Scenes.Scene.{Scene, row_of, slot_of}

module _ (K V : Type 0) where
  abbrev Told : Type 0
  Told = RowTold (Node K V)

  -- it stays one while it goes on,
  pub settling_keeps : (m m2 : Mem (Node K V)) (changed : Changed) (row after : SlotRow) (said : Told) → IsSettling row → RowSteps K V row m m2 changed (after, said) → has_come said ≡ false → IsSettling after
  settling_keeps m m2 changed (rows.Leaves c) after said is st not_yet = subst IsSettling (sym (ap (λ (x : SlotRow × Told). x.0) st.2)) tt
  settling_keeps m m2 changed (rows.Flushes c) after said is st not_yet = subst IsSettling (sym (ap (λ (x : SlotRow × Told). x.0) st.2)) tt
  settling_keeps m m2 changed (rows.Registers c) after said is st not_yet = absurd is
  settling_keeps m m2 changed (rows.Enters c) after said is st not_yet = absurd is
  settling_keeps m m2 changed (rows.Frees c) after said is st not_yet = absurd is

  -- and tells what a settling tells
  settling_tells : (m m2 : Mem (Node K V)) (changed : Changed) (row after : SlotRow) (said : Told) → IsSettling row → RowSteps K V row m m2 changed (after, said) → (o : Settled (Node K V)) × (said ≡ of_settling o)
  settling_tells m m2 changed (rows.Leaves c) after said is st = (st.0.1, ap (λ (x : SlotRow × Told). x.1) st.2)
  settling_tells m m2 changed (rows.Flushes c) after said is st = (st.0.1, ap (λ (x : SlotRow × Told). x.1) st.2)
  settling_tells m m2 changed (rows.Registers c) after said is st = absurd is
  settling_tells m m2 changed (rows.Enters c) after said is st = absurd is
  settling_tells m m2 changed (rows.Frees c) after said is st = absurd is

  waits_by : (o : Settled (Node K V)) (said : Told) → said ≡ of_settling o → said ≡ told.Waits → o ≡ settled.Waits
  waits_by settled.Goes said e w = absurd (let f = sym e ∙ w in cc f)
  waits_by settled.Waits said e w = refl
  waits_by (settled.Gave value) said e w = absurd (let f = sym e ∙ w in cc f)
  waits_by settled.Done said e w = absurd (let f = sym e ∙ w in cc f)

  done_by : (o : Settled (Node K V)) (said : Told) → said ≡ of_settling o → has_come said ≡ true → (said ≡ told.Waits → ⊥) → said ≡ told.Done
  done_by settled.Goes said e come never = absurd (let f = ap (λ (x : Told). has_come x) e in cc (f, come))
  done_by settled.Waits said e come never = absurd (never e)
  done_by (settled.Gave value) said e come never = absurd (let f = ap (λ (x : Told). has_come x) e in cc (f, come))
  done_by settled.Done said e come never = e

-- From this scene a row of caller i has led to this executor, and nobody else has the batch of its slot in hand.
module _ {K V S : Type 0} (same : K → K → Bool) (hash : K → ℕ) (i : ℕ) (s : Scene K V) (alone : (j : ℕ) → has_batch (slot_of i) (s.world.row j) ≡ true → ⊥)
    (e : Executor K V S) (led : Led same hash i s e) where
  abbrev then_at : Scene K V
  then_at = record s { world = led.w; maps = led.maps }

  -- so it is then
  alone_then : (slot : ℕ) → slot ≡ slot_of i → (j : ℕ) → j ≢ i → has_batch slot (led.w.row j) ≡ true → ⊥
  alone_then slot on j ne has =
      alone j (subst (λ (r : Row). has_batch (slot_of i) r ≡ true) (led.rows j ne) (subst (λ (t : ℕ). has_batch t (led.w.row j) ≡ true) on has))

  is_row : (row : SlotRow) → work_of e i ≡ Some (OnSlot row) → led.w.row i ≡ row_of row
  is_row row here = subst (λ (x : Option (Work K V)). HasRow x (led.w.row i)) here (led.at.rows i)

  is_on : (row : SlotRow) → work_of e i ≡ Some (OnSlot row) → IsRowOn (slot_of i) (row_of row)
  is_on row here = subst (IsRowOn (slot_of i)) (is_row row here) (led.at.held.on_slots i)

  -- by its next step it does not wait
  pub never_waits : (row : SlotRow) → work_of e i ≡ Some (OnSlot row) → IsSettling row → (m2 : Mem (Node K V)) (changed : Changed) (after : SlotRow)
      → RowSteps K V row e.memory.memory m2 changed (after, told.Waits) → ⊥
  never_waits (rows.Leaves c) here is m2 changed after st =
      let steps = subst (λ (m : Mem (Node K V)). Steps Took value_at m (leave_plan deferred_word c) m2 st.0) (sym led.at.held.memory)
      (as_step e.memory.memory Nothing (leave_plan deferred_word c) m2 changed st.0 st.1) in
      let waits = waits_by K V st.0.1 told.Waits (ap (λ (x : SlotRow × RowTold (Node K V)). x.1) st.2) refl in
      let other = leaves_wait deferred_word led.w (good same hash e then_at led.at) (held same hash e then_at led.at) i c st.0.0 m2 (is_row (rows.Leaves c) here)
      (subst (λ (o : Settled (Node K V)). Steps Took value_at led.w.memory (leave_plan deferred_word c) m2 (st.0.0, o)) waits steps) in
      alone_then c.slot (is_on (rows.Leaves c) here) other.0 other.2 other.1
  never_waits (rows.Flushes c) here is m2 changed after st =
      let steps = subst (λ (m : Mem (Node K V)). Steps Took value_at m (settle_plan deferred_word c) m2 st.0) (sym led.at.held.memory)
      (as_step e.memory.memory Nothing (settle_plan deferred_word c) m2 changed st.0 st.1) in
      let waits = waits_by K V st.0.1 told.Waits (ap (λ (x : SlotRow × RowTold (Node K V)). x.1) st.2) refl in
      let other = settles_wait deferred_word led.w (good same hash e then_at led.at) (held same hash e then_at led.at) i c st.0.0 m2 (is_row (rows.Flushes c) here)
      (subst (λ (o : Settled (Node K V)). Steps Took value_at led.w.memory (settle_plan deferred_word c) m2 (st.0.0, o)) waits steps) in
      alone_then c.slot (is_on (rows.Flushes c) here) other.0 other.2 other.1
  never_waits (rows.Registers c) here is m2 changed after st = absurd is
  never_waits (rows.Enters c) here is m2 changed after st = absurd is
  never_waits (rows.Frees c) here is m2 changed after st = absurd is

-- So it has ended done, where it has run.
module _ {K V S : Type 0} (same : K → K → Bool) (hash : K → ℕ) (name : ℕ → List ℕ) (m : Moment K V) (s : Scene K V) (old new : Logged K V S) (shown : IsShown same hash name m old s)
    (slot : ℕ) (called : SlotCall) (said : RowTold (Node K V)) (before after : List Effect) (ran : RowRan slot called said before after old new) (may : MayBegin old.executor slot called)
    (settles : IsSettling (begun_row slot old.executor.batch_size called)) (alone : (j : ℕ) → has_batch slot (s.world.row j) ≡ true → ⊥) where
  abbrev mid : Executor K V S
  mid = ran.last.0

  on : Led same hash ran.caller s mid × ((row : SlotRow) × (work_of mid ran.caller ≡ Some (OnSlot row)) × IsSettling row)
  on =
      goes_led same hash ran.caller s IsSettling (settling_keeps K V) ran.last.1 ran.began.executor mid ran.last.2
      (begun_way same hash name m s old new shown slot called said before after ran may IsSettling settles)

  last : RowStepsThere same hash ran.caller said (record s { world = on.0.w; maps = on.0.maps }) mid new.executor
  last = ran.last.3 same hash (record s { world = on.0.w; maps = on.0.maps }) on.0.at

  not_waits : said ≡ told.Waits → ⊥
  not_waits is =
      let to = last on.1.0 on.1.1 in
      never_waits same hash ran.caller s (λ j has. alone j (subst (λ (x : ℕ). has_batch x (s.world.row j) ≡ true) ran.in_slot has)) mid on.0 on.1.0 on.1.1 on.1.2
      new.executor.memory.memory new.executor.memory.changed to.1
      (subst (λ (x : RowTold (Node K V)). RowSteps K V on.1.0 mid.memory.memory new.executor.memory.memory new.executor.memory.changed (to.1, x)) is to.2)

  pub done_alone : said ≡ told.Done
  done_alone =
      let to = last on.1.0 on.1.1 in
      let tells = settling_tells K V mid.memory.memory new.executor.memory.memory new.executor.memory.changed on.1.0 to.1 said on.1.2 to.2 in
      done_by K V tells.0 said tells.1 ran.come not_waits

  pub led_alone : Led same hash ran.caller s new.executor
  led_alone = step_led same hash ran.caller s mid new.executor said on.1.0 on.1.1 ran.last.3 on.0

  pub over_alone : work_of new.executor ran.caller ≡ None
  over_alone = (last on.1.0 on.1.1).3 ∙ ap (λ (x : RowTold (Node K V)). row_on {K = K} {V = V} (last on.1.0 on.1.1).1 x) done_alone

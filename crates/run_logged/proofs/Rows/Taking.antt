-- A row that registers while no other takes or frees a slot takes the first vacant one, or is refused: how it has begun, goes on and ends.
use Rattle.std.specs.Prelude.{Some, None}
use Rattle.std.proofs.Common.{◌≡◌, ℕ, zero, suc, ◌+◌, Bool, true, false, List, length, ◌⊎◌, inl, inr, refl, sym, ap, subst, ◌∙◌, arith}
use Rattle.run_schedules.specs.Given.SeizeWordsDeclared.fault.Fault.{Fault}
use Rattle.run_schedules.specs.Given.SeizeWordsDeclared.fault.Fault.TheVariants.{Memory}
use Rattle.run_schedules.specs.Given.SeizeWordsMem.{Mem, Took, value_at}
use Rattle.run_schedules.specs.Given.SeizeWordsPlan.{Steps}
use Rattle.seize.specs.declared.states.TheConstants.{LAST_SLOT}
use Rattle.seize.specs.declared.advance.Advance.{Advance}
use Rattle.seize.specs.declared.advance.Advance.TheVariants as progress
use Rattle.seize.specs.declared.rows.register.Register.{Register}
use Rattle.seize.specs.declared.rows.register.Registering.{Registering}
use Rattle.seize.specs.declared.rows.register.Registering.TheVariants as at
use Rattle.seize.specs.Register.{register_plan}
use Rattle.seize.specs.Sequence.{new_slot}
use Rattle.seize.specs.World.{World, Row, Registers, Use, Begin, Step, Happens, Steps', registers_on}
use Rattle.run_effects.proofs.Given.SeizeRuleRows.Known.{FitsRow, FitsRegister, works_on}
use Rattle.run_effects.proofs.Given.SeizeRuleRows.Others.{begins_others, steps_others}
use Rattle.run_effects.proofs.Given.SeizeMemoryWords.View.{view}
use Rattle.run_shows.proofs.Given.SeizeRuleWorld.Good.{Good}
use Rattle.run_shows.proofs.Given.SeizeSetsSlots.Registers.{Comes, GoesOn, IsRefused, NoneOnVacant, RegistersOn, TakesFirst, WhyRefused, registers_apart}
use Rattle.papaya_raw.specs.Given.TablesNodes.{deferred_word}
use Rattle.papaya_raw.specs.Given.TablesDeclared.node.Node.{Node}
use Rattle.run_effects.specs.declared.changed.Changed.TheVariants as changed
use Rattle.run_shows.specs.Given.CallersTogether.{CameAbout}
use Rattle.run_shows.proofs.Given.CallersTogether.Came.{came_next, came_reached}
use Rattle.run_schedules.specs.declared.effect.Effect.{Effect}
use Rattle.run_schedules.specs.Schedules.Moment.{Moment}
use Rattle.run_executor.specs.declared.executor.Executor.{Executor}
use Rattle.run_shows.specs.declared.row.RowTold.{RowTold}
use Rattle.run_shows.specs.declared.row.RowTold.TheVariants as told
use Rattle.run_shows.specs.declared.row.SlotCall.TheVariants as call
use Rattle.run_shows.specs.declared.row.SlotRow.{SlotRow}
use Rattle.run_shows.specs.declared.row.SlotRow.TheVariants as rows
use Rattle.run_executor.specs.declared.worker.Work.TheVariants.{OnSlot}
use Rattle.run_logged.specs.Log.OnSlots.{ContinuesFor, OnSlotLast, has_come}
use Rattle.run_logged.specs.Log.Shown.{IsShown}
use Rattle.run_logged.specs.declared.logged.Logged.{Logged}
use Rattle.run_logged.specs.Rows.Rows.{RowRan}
use Rattle.run_logged.proofs.Rows.Ran.{Led, begun_led, step_led}
use Rattle.run_logged.proofs.Rows.Refusals.{found_none}
use Rattle.run_shows.proofs.Scenes.Told.{as_step}
use Rattle.run_executor.specs.Executing.IsThere.{held_by, work_of}
use Rattle.run_executor.specs.Executing.OnSlots.{RowBeginsThere, row_on}
use Rattle.run_shows.specs.Scenes.OnSlots.{RowBegins, RowSteps}
use Rattle.run_shows.specs.Scenes.Rows.{of_registering, request_of}
use Rattle.run_shows.specs.Scenes.Scene.{Scene, slot_of}
use Rattle.run_kept.proofs.Sheds.Held.{begun_held}
use Rattle.run_shows.proofs.Scenes.Rows.{begun_there}
use Rattle.run_shows.specs.Scenes.Held.{Held, IsAt}

module _ {K V : Type 0} (same : K → K → Bool) (hash : ℕ → K → ℕ) (i : ℕ) (s : Scene K V) (size : ℕ) (enters : Bool) (apart : NoneOnVacant i s.world) where
  -- It registers on in a world with this memory, which came about from the start, and in which the others have the rows that they had.
  pub record OnIt (e : Held K V) (c : Register) : Type 0 where
    pub w : World (Node K V)
    pub came : CameAbout size w
    pub memory : w.memory ≡ e.memory
    pub row : w.row i ≡ Registers c
    pub on : RegistersOn s.world.uses enters w c
    pub others : (j : ℕ) → (j ≡ i → ⊥) → w.row j ≡ s.world.row j

  -- what the last step of it has told: it was refused, and for want of memory by the operation that found none; or it has taken the first slot that was vacant
  abbrev pub Ends : Held K V → RowTold (Node K V) → Type 0
  Ends e said =
      ((fault : Fault) × (said ≡ told.Refused fault) × WhyRefused e.memory s.world.uses fault × (fault ≡ Memory → (bucket : ℕ) × (e.changed ≡ changed.Roomed bucket false)))
      ⊎ ((slot : ℕ) × (said ≡ told.Registered slot) × (new_slot s.world.uses ≡ Some slot))

  -- what a step of it leads to: it goes on, or it has ended
  abbrev pub Next : Held K V → SlotRow → RowTold (Node K V) → Type 0
  Next e after said = ((c2 : Register) × (said ≡ told.Goes) × (after ≡ rows.Registers c2) × OnIt e c2) ⊎ Ends e said

  module _ (e e2 : Held K V) (c : Register) (here : OnIt e c) (after : SlotRow) (said : RowTold (Node K V)) (went : RowSteps K V (rows.Registers c) e.memory e2.memory e2.changed (after, said)) where
    abbrev now : World (Node K V)
    now = here.w

    abbrev end : Register × Advance ℕ
    end = went.0

    steps : Steps Took value_at now.memory (register_plan c) e2.memory end
    steps =
        subst (λ (m : Mem (Node K V)). Steps Took value_at m (register_plan c) e2.memory end) (sym here.memory)
        (as_step e.memory changed.Nothing (register_plan c) e2.memory e2.changed end went.1)

    abbrev v : World (Node K V)
    v = registers_on now i c e2.memory end

    happens : Happens deferred_word size (Step i) now v
    happens = subst (λ (row : Row). Steps' deferred_word i row now v) (sym here.row) (e2.memory, end, steps, refl)

    good : Good deferred_word (LAST_SLOT + 1) size now
    good = (came_reached size now here.came).good

    apart_then : NoneOnVacant i now
    apart_then j t other at_it vacant =
        apart j t other (sym (ap works_on (here.others j other)) ∙ at_it) (sym (ap (λ (f : ℕ → Use). f t) here.on.uses_same) ∙ vacant)

    comes : Comes s.world.uses enters i v end
    comes = registers_apart deferred_word (LAST_SLOT + 1) refl now good i c here.row apart_then s.world.uses enters here.on v e2.memory end steps refl

    -- it stands where it goes on
    under : (fault : Fault) → c.stands ≡ at.Refused fault → ⊥
    under fault is =
        subst (λ (p : Registering). FitsRegister (LAST_SLOT + 1) i good.state good.extra (length now.memory.slots) c.slot p) is
        (subst (λ (row : Row). FitsRow (LAST_SLOT + 1) i (view deferred_word now.memory) good.state good.extra (length now.memory.slots) row) here.row (good.rows i))

    told_is : said ≡ of_registering end.1
    told_is = ap (λ (x : SlotRow × RowTold (Node K V)). x.1) went.2

    told_by : (end2 : Register × Advance ℕ) → end ≡ end2 → said ≡ of_registering end2.1
    told_by end2 is = told_is ∙ ap (λ (q : Register × Advance ℕ). of_registering {T = Node K V} q.1) is

    next_by : Comes s.world.uses enters i v end → Next e2 after said
    next_by (GoesOn c2 is row2 on2) =
        inl (
          c2,
          told_by (c2, progress.Goes) is,
          ap (λ (x : SlotRow × RowTold (Node K V)). x.0) went.2 ∙ ap (λ (q : Register × Advance ℕ). rows.Registers q.0) is,
          record {
            w = v;
            came = came_next size now v (Step i) here.came happens;
            memory = ap (λ (q : Register × Advance ℕ). (registers_on now i c e2.memory q).memory) is;
            row = row2;
            on = on2;
            others = λ j other. steps_others deferred_word size now v i j other (now.row i) happens ∙ here.others j other;
          },
        )
    next_by (IsRefused c2 fault is row2 used2 why) =
        inr (inl (
          fault,
          told_by (c2, progress.Refused fault) is,
          subst (λ (m : Mem (Node K V)). WhyRefused m s.world.uses fault) (ap (λ (q : Register × Advance ℕ). (registers_on now i c e2.memory q).memory) is) why,
          λ memory.
              found_none e.memory e2.memory e2.changed c end
              (ap (λ (q : Register × Advance ℕ). q.1) is ∙ ap progress.Refused memory) c.stands under went.1,
        ))
    next_by (TakesFirst c2 slot is row2 first used2) = inr (inr (slot, told_by (c2, progress.Done slot) is, first))

    pub next : Next e2 after said
    next = next_by comes

module _ {K V S : Type 0} (same : K → K → Bool) (hash : K → ℕ) (i : ℕ) (s : Scene K V) (size : ℕ) (enters : Bool) (apart : NoneOnVacant i s.world) where
  -- as long as it goes on,
  abbrev pub OnTheWay : Executor K V S → Type 0
  OnTheWay e = Led same hash i s e × ((c : Register) × (work_of e i ≡ Some (OnSlot (rows.Registers c))) × OnIt same (λ map. hash) i s size enters apart (held_by e) c)

  ended_come : (e : Executor K V S) (said : RowTold (Node K V)) → Ends same (λ map. hash) i s size enters apart (held_by e) said → has_come said ≡ true
  ended_come e said (inl (fault, is, why, asked)) = ap (λ (x : RowTold (Node K V)). has_come x) is
  ended_come e said (inr (slot, is, first)) = ap (λ (x : RowTold (Node K V)). has_come x) is

  goes_taking : (n : ℕ) (old new : Executor K V S) → ContinuesFor i n old new → OnTheWay old → OnTheWay new
  goes_taking zero old new is way = subst OnTheWay is way
  goes_taking (suc n) old new (mid, said, goes, not_yet, steps) way =
      let on = goes_taking n old mid goes way in
      let leads = steps same hash (record s { world = on.0.w; maps = on.0.maps }) on.0.at (rows.Registers on.1.0) on.1.1 in
      by leads.1 leads.3 (step_led same hash i s mid new said (rows.Registers on.1.0) on.1.1 steps on.0) (next same (λ map. hash) i s size enters apart (held_by mid) (held_by new) on.1.0 on.1.2 leads.1 said leads.2)
    where
      by : (after : SlotRow) → work_of new i ≡ row_on after said → Led same hash i s new → Next same (λ map. hash) i s size enters apart (held_by new) after said → OnTheWay new
      by after work led (inl (c2, is, after_is, on2)) =
          (led, (c2, work ∙ ap (λ (x : RowTold (Node K V)). row_on {K = K} {V = V} after x) is ∙ ap (λ (r : SlotRow). Some (OnSlot r)) after_is, on2))
      by after work led (inr ends) = absurd (let come = ended_come new said ends in cc (come, not_yet))

  -- and where it has come
  pub last_taking : (old new : Executor K V S) (said : RowTold (Node K V)) → has_come said ≡ true → OnSlotLast i said old new → OnTheWay old → Led same hash i s new × Ends same (λ map. hash) i s size enters apart (held_by new) said × (work_of new i ≡ None)
  last_taking old new said come (mid, n, goes, steps) way =
      let on = goes_taking n old mid goes way in
      let leads = steps same hash (record s { world = on.0.w; maps = on.0.maps }) on.0.at (rows.Registers on.1.0) on.1.1 in
      by leads.1 leads.3 (step_led same hash i s mid new said (rows.Registers on.1.0) on.1.1 steps on.0) (next same (λ map. hash) i s size enters apart (held_by mid) (held_by new) on.1.0 on.1.2 leads.1 said leads.2)
    where
      over : (after : SlotRow) → Ends same (λ map. hash) i s size enters apart (held_by new) said → row_on {K = K} {V = V} after said ≡ None
      over after (inl (fault, is, why, asked)) = ap (λ (x : RowTold (Node K V)). row_on {K = K} {V = V} after x) is
      over after (inr (slot, is, first)) = ap (λ (x : RowTold (Node K V)). row_on {K = K} {V = V} after x) is

      by : (after : SlotRow) → work_of new i ≡ row_on after said → Led same hash i s new → Next same (λ map. hash) i s size enters apart (held_by new) after said → Led same hash i s new × Ends same (λ map. hash) i s size enters apart (held_by new) said × (work_of new i ≡ None)
      by after work led (inl (c2, is, after_is, on2)) = absurd (let not_yet = ap (λ (x : RowTold (Node K V)). has_come x) is in cc (come, not_yet))
      by after work led (inr ends) = (led, ends, work ∙ over after ends)

-- So it is where it begins.
module _ {K V : Type 0} (same : K → K → Bool) (hash : ℕ → K → ℕ) (i : ℕ) (s : Scene K V) (enters : Bool) (apart : NoneOnVacant i s.world) where
  pub first_on : (old new : Held K V) → IsAt same hash old s → RowBegins same hash (call.Register enters) i s old new
      → OnIt same hash i s old.batch_size enters apart new (record { slot = 0; enters = enters; stands = at.Begin })
  first_on old new at_s leads =
      let to = leads.2 in
      record {
        w = to.0;
        came = came_next old.batch_size s.world to.0 (Begin i (request_of (slot_of i) (call.Register enters))) at_s.together.makings.standing.came to.1;
        memory = to.4.memory;
        row = begun_there deferred_word old.batch_size i s.world to.0 (slot_of i) (call.Register enters) to.1.1;
        on = record {
          uses_same = ap (λ (x : World (Node K V)). x.uses) to.1.1;
          enters_same = refl;
          looks = λ t from before_it vacant. omega (arith, before_it);
        };
        others = λ j other. begins_others deferred_word old.batch_size s.world to.0 i j other (request_of (slot_of i) (call.Register enters)) to.1.1;
      }

-- So has one that a scheduler has run.
module _ {K V S : Type 0} (same : K → K → Bool) (hash : K → ℕ) (name : ℕ → List ℕ) (m : Moment K V) (s : Scene K V) (old new : Logged K V S) (shown : IsShown same hash name m old s)
    (enters : Bool) (said : RowTold (Node K V)) (before after : List Effect) (ran : RowRan 0 (call.Register enters) said before after old new) (apart : NoneOnVacant ran.caller s.world) where
  abbrev i : ℕ
  i = ran.caller

  abbrev size : ℕ
  size = old.executor.batch_size

  leads : RowBeginsThere same hash (call.Register enters) i s old.executor ran.began.executor
  leads = (ran.begins same hash name m s shown tt).0

  on_first : OnIt same (λ map. hash) i s size enters apart (held_by ran.began.executor) (record { slot = 0; enters = enters; stands = at.Begin })
  on_first = first_on same (λ map. hash) i s enters apart (held_by old.executor) (held_by ran.began.executor) shown.is_at.held
      (begun_held same hash s old.executor ran.began.executor i (call.Register enters) tt leads)

  on_way : OnTheWay same hash i s size enters apart ran.began.executor
  on_way = (begun_led same hash i s (call.Register enters) old.executor ran.began.executor tt leads, (record { slot = 0; enters = enters; stands = at.Begin }, (leads tt).1, on_first))

  pub taken : Led same hash i s new.executor × Ends same (λ map. hash) i s size enters apart (held_by new.executor) said × (work_of new.executor i ≡ None)
  taken = last_taking same hash i s size enters apart ran.began.executor new.executor said ran.come ran.last on_way

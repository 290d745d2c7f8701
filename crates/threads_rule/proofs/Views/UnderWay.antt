-- What is so of a seat that has a call under way: the next step of it may be taken, and is that of an act.
use Rattle.std.specs.Prelude.{Option, Some, None, if◌then◌else◌}
use Rattle.std.specs.Option.{is_none}
use Rattle.std.proofs.Common.{◌≡◌, ℕ, Bool, List, ◌⊎◌, inl, inr, sym, subst, ap, ◌∙◌, refl, true, false, [], ◌∷◌}
use Rattle.seize_words.specs.OneMemory.Mem.{Mem, Can, Took, value_at}
use Rattle.seize_words.specs.OneMemory.Plan.{Plan, Steps, May}
use Rattle.seize_words.specs.OneMemory.Word.{block_in}
use Rattle.seize.specs.Law.{holds, owner_of, is_somewhere}
use Rattle.seize.specs.World.{IsInside, InUse}
use Rattle.map_tables.specs.Nodes.{deferred_word}
use Rattle.map_tables.specs.declared.node.Node.{Node}
use Rattle.map_tables.specs.declared.node.Node.TheVariants.{Pair}
use Rattle.map_tables.specs.declared.setting.Setting.{Setting}
use Rattle.map_machines.specs.declared.copier.Copying.{Copying}
use Rattle.map_machines.specs.declared.copier.Copying.TheVariants as copies
use Rattle.map_machines.specs.declared.dispose.Disposing.{Disposing}
use Rattle.map_machines.specs.declared.dispose.Disposing.TheVariants as disposes
use Rattle.papaya_raw.specs.Given.ReservesDeclared.reserve.Reserving.{Reserving}
use Rattle.papaya_raw.specs.Given.ReservesDeclared.reserve.Reserving.TheVariants as reserving
use Rattle.papaya_raw.specs.Given.ReservesDeclared.sweep.Sweeping.{Sweeping}
use Rattle.papaya_raw.specs.Given.ReservesDeclared.sweep.Sweeping.TheVariants as sweeping
use Rattle.many_acts.specs.Given.PointsTold.{IsRowOf, IsRowOfCopier, IsRowOfCall}
use Rattle.many_acts.specs.Given.LateToldReserves.{IsRowOfReserve}
use Rattle.many_acts.specs.Given.LateToldSweeps.{IsRowOfSweep}
use Rattle.papaya_raw.specs.Machine.{machine_plan}
use Rattle.papaya_raw.specs.declared.machines.call.Calling.{Calling}
use Rattle.papaya_raw.specs.declared.machines.call.Calling.TheVariants as at
use Rattle.papaya_raw.specs.declared.machines.machine.Machine.{Machine}
use Rattle.papaya_raw.specs.declared.machines.progress.Progress.{Progress}
use Rattle.papaya_raw.specs.declared.machines.progress.Progress.TheVariants as progress
use Rattle.many_acts.specs.Given.CallersRows.{IsRowOn}
use Rattle.many_acts.specs.Given.CallersTogether.{UnderWay, OnKey, ForRoom, Counting, OverAll}
use Rattle.many_acts.specs.Given.FinishesMachines.{machine_of}
use Rattle.many_acts.specs.Given.FinishesMaps.{Standing}
use Rattle.many_acts.specs.Given.ScenesScene.{Scene, slot_of}
use Rattle.many_acts.specs.Looks.Looks.{IsAtRow}
use Rattle.many_acts.specs.Looks.Sees.{HasSeen, Continues, IsOwnOf}
use Rattle.many_acts.proofs.Given.CallersRows.Defers.{used_stands}
use Rattle.many_acts.proofs.Given.CallersTogether.Came.{came_reached}
use Rattle.many_acts.proofs.Looks.Sees.Promised.{steps_see}
use Rattle.many_acts.specs.Acts.Acts.{Act, Answer, StepsCall}
use Rattle.many_acts.specs.Acts.Doings.{Does, MayDo}
use Rattle.many_acts.specs.Acts.Leads.{AllStand, CallCame, call_at, call_steps}
use Rattle.many_acts.specs.Acts.Lists.{AllMayStep, AllAreActs}
use Rattle.many_acts.proofs.Acts.Lists.{steps_are_acts}
use Rattle.seize_acts.proofs.Given.SeizeAloneHistories.Uses.{inside_open}
use Rattle.seize_acts.proofs.Given.SeizeMovesState.Logs.{reached_held}
use Rattle.seize_acts.specs.Acts.Answers.{Grant, then_on}
use Rattle.seize_model.proofs.Alone.Histories.Reached.{Reached}
use Rattle.seize_seats.specs.Seats.State.{State, view_of, Goes}
use Rattle.seize_views.specs.declared.view.Fixed.{Fixed}
use Rattle.threads_rule.specs.Views.Listed.{Called, calls_of, calls_then, has_progressed, IsNewest}
use Rattle.threads_rule.specs.Views.Rule.{MapsWorld, DoesSo, KnowsMap, KnowsPair, LooksAside, Writes, AreRuns, Fits, AreSo, Holds, KeepsFor, caller_at, acts_in, section_of, IsInSection, IsOfCall, AllHeld, KnowsTable}
use Rattle.threads_rule.specs.Views.Reclaims.{IsNextOf, copies_at_row, disposes_at_row, calls_at_row, reserves_at_row, sweeps_at_row, is_at_row}
use Rattle.threads_rule.specs.Views.Told.{HandsBack, call_after, called, newest_progress}
use Rattle.threads_rule.specs.declared.view.Map.{Map}
use Rattle.threads_rule.specs.declared.view.View.{View}
use Rattle.threads_rule.specs.declared.view.SeatWork.{SeatWork}
use Rattle.threads_rule.specs.declared.view.SeatWork.TheVariants.{Calls}
use Rattle.threads_rule.proofs.Views.Knows.{knows_within}
use Rattle.threads_rule.proofs.Views.Answered.{answered_there}
use Rattle.threads_rule.proofs.Views.Leaves.{Leaves, section_place, section_on, call_here, own_idle, map_on, all_last}
use Rattle.threads_rule.proofs.Views.Held.{value_of}
use Rattle.threads_rule.proofs.Views.Listed.{is_its, is_other, newest_on, newest_runs, numbered_on}
use Rattle.threads_rule.proofs.Views.Moved.{scene_of, all_stand, are_so, Moved, Adds, knows_alike, same_slot, moved}
use Rattle.threads_rule.proofs.Views.Next.{after, step_leaves, none_ends, step_held, step_fresh, own_does}
use Rattle.threads_rule.proofs.Views.Looked.{AllKnown, AllLooked, IsSo}
use Rattle.threads_rule.proofs.Views.Naming.{IsThere, Known, none_more, of_these, one_more, with_told}
use Rattle.threads_rule.proofs.Views.Shown.{is_read, pair_told, read_word, was_read}
use Rattle.threads_kinds.specs.CallKinds.Shows.{ReadsPlaces, AnswersWith, ProgressNamesPair, ToldAreVisible}
use Rattle.threads_rule.specs.Views.Looks.{shown_in}
use Rattle.threads_rule.proofs.Views.RowLooks.{row_sees}
use Rattle.threads_rule.proofs.Views.Numbers.{slot_at}
use Rattle.threads_rule.proofs.Views.Pairs.{newest_pair, step_hands, step_pair}
use Rattle.threads_rule.proofs.Views.Writers.{looks_aside_on, step_writes}
use Rattle.seize_words.proofs.General.{same_some}

-- a pair is known by what it is
pair_is : (A B : Type 0) (x y : A × B) → x ≡ y → (x.0 ≡ y.0) × (x.1 ≡ y.1)
pair_is A B x y e = (ap (λ (p : A × B). p.0) e, ap (λ (p : A × B). p.1) e)

module _ {K V S : Type 0} (same : K → K → Bool) (hash : S → K → ℕ) (fixed : Fixed) (s : State (Node K V) (View K V S) (MapsWorld K V S)) (h : Holds same hash fixed s)
    (id : ℕ) (v : View K V S) (at_id : view_of s id ≡ Some v) (map : Map S) (machine : Machine K V K) (knows : v.map ≡ Some map) (works : v.work ≡ Calls machine) where
  abbrev pub scene : Scene K V
  scene = scene_of same hash fixed s h

  pub all : AllStand same hash fixed.batch_size fixed.roots slot_of scene
  all = all_stand same hash fixed s h

  pub so : AreSo same hash s scene
  so = are_so same hash fixed s h

  pub fits : Fits same hash scene id v
  fits = so.seats id v at_id

  abbrev pub place : ℕ
  place = acts_in v.under v.slot

  pub does : DoesSo same hash scene (caller_at id place) v.under v.slot (Some map) (Calls machine)
  does =
      subst (λ (x : SeatWork K V S). DoesSo same hash scene (caller_at id place) v.under v.slot (Some map) x) works
      (subst (λ (x : Option (Map S)). DoesSo same hash scene (caller_at id place) v.under v.slot x v.work) knows fits.does)

  pub it : KnowsMap same hash scene (Some map)
  it = subst (λ (x : Option (Map S)). KnowsMap same hash scene x) knows fits.map

  -- the slot in which it acts is the one of its section
  pub section_is : section_of v.under v.slot ≡ Some place
  section_is = does.1 ∙ ap (λ (a : ℕ). Some a) (sym (section_place v.under v.slot does.0 does.1))

  pub inside : IsInside (scene.world.uses place)
  inside = subst (λ (a : ℕ). IsInside (scene.world.uses a)) (sym (section_place v.under v.slot does.0 does.1)) does.2

  pub on_row : IsRowOn place (scene.world.row (caller_at id place))
  on_row = subst (λ (a : ℕ). IsRowOn a (scene.world.row (caller_at id place))) (sym (section_place v.under v.slot does.0 does.1)) does.4

  abbrev pub i : ℕ
  i = caller_at id place

  abbrev pub step_plan : Plan (Node K V) (Machine K V K × Progress (Node K V))
  step_plan = machine_plan {K = K} {V = V} same same (hash map.hasher) machine

  -- the plan of the call in the scene is that of the machine
  plan_is : (P : (K → ℕ) → Machine K V K → Type 0) → P it.0.hash (machine_of does.3.call) → P (hash map.hasher) machine
  plan_is P p = subst (λ (f : K → ℕ). P f machine) it.3 (subst (λ (x : Machine K V K). P it.0.hash x) does.3.is p)

  plan_was : (P : (K → ℕ) → Machine K V K → Type 0) → P (hash map.hasher) machine → P it.0.hash (machine_of does.3.call)
  plan_was P p = subst (λ (f : K → ℕ). P f (machine_of does.3.call)) (sym it.3) (subst (λ (x : Machine K V K). P (hash map.hasher) x) (sym does.3.is) p)

  acts : AllMayStep V same hash fixed.batch_size fixed.roots slot_of scene × AllAreActs V same hash fixed.batch_size fixed.roots slot_of scene
  acts = steps_are_acts {V = V} same hash fixed.batch_size fixed.roots slot_of scene all

  pub may : May Can Took value_at scene.world.memory step_plan
  may =
      plan_is (λ (f : K → ℕ) (x : Machine K V K). May Can Took value_at scene.world.memory (machine_plan same same f x))
      (acts.0.calls map.number i it.0 does.3.call it.1 does.3.here)

  pub called_at : call_at scene i map.number ≡ Some (it.0, does.3.call)
  called_at =
      ap (λ (o : Option (Standing K)). then_on o (λ standing. then_on (scene.calls map.number i) (λ u. Some (standing, u)))) it.1
      ∙ ap (λ (o : Option (UnderWay K V K)). then_on o (λ u. Some (it.0, u))) does.3.here

  -- whoever stands at a row does so by its machine
  copies_none : (x : Copying) → copies_at_row x ≡ false → IsRowOfCopier x → ⊥
  copies_none (copies.Retires settle rest) is row = cc is
  copies_none _ is row = row

  disposes_none : (x : Disposing) → disposes_at_row x ≡ false → IsRowOf x → ⊥
  disposes_none (disposes.Settles settle) is row = cc is
  disposes_none (disposes.Defers defer) is row = cc is
  disposes_none _ is row = row

  calls_none : (x : Calling) → calls_at_row x ≡ false → IsRowOfCall x → ⊥
  calls_none (at.Disposes dispose answer) is row = disposes_none dispose.stands is row
  calls_none (at.Helps copier goal) is row = copies_none copier.stands is row
  calls_none (at.Copies copier) is row = copies_none copier.stands is row
  calls_none _ is row = row

  reserves_none : (x : Reserving) → reserves_at_row x ≡ false → IsRowOfReserve x → ⊥
  reserves_none (reserving.Copies copier) is row = copies_none copier.stands is row
  reserves_none _ is row = row

  sweeps_none : (x : Sweeping) → sweeps_at_row x ≡ false → IsRowOfSweep x → ⊥
  sweeps_none (sweeping.Copies copier) is row = copies_none copier.stands is row
  sweeps_none (sweeping.Disposes dispose) is row = disposes_none dispose.stands is row
  sweeps_none _ is row = row

  none_at : (u : UnderWay K V K) → is_at_row (machine_of u) ≡ false → IsAtRow u → ⊥
  none_at (OnKey u) is row = calls_none u.call.stands is row
  none_at (ForRoom r) is row = reserves_none r.reserve.stands is row
  none_at (Counting sum) is row = row
  none_at (OverAll o) is row = sweeps_none o.sweep.stands is row

  -- the section of its slot holds a block of the map
  abbrev pub IsOurs : ℕ → Type 0
  IsOurs b = (holds place b scene.world.log ≡ true) × (owner_of b scene.world.log ≡ it.0.setting.counter)

  -- what a step has seen the section of its slot holds, or its call has it, and goes on
  seen_lasts : (m2 : Mem (Node K V)) (next : Machine K V K) (told : Progress (Node K V)) (b : ℕ)
      → HasSeen b scene.world.memory step_plan m2 (next, told) → IsOurs b ⊎ ((IsOwnOf next b ⊎ IsNextOf next b) × Continues told)
  seen_lasts m2 next told b saw = by (is_at_row {K = K} {V = V} machine) refl
    where
      by : (x : Bool) → is_at_row {K = K} {V = V} machine ≡ x → IsOurs b ⊎ ((IsOwnOf next b ⊎ IsNextOf next b) × Continues told)
      by true row = let r = row_sees b scene.world.memory m2 same (hash map.hasher) machine row next told saw in inr (inr r.0, r.1)
      by false none =
          elim (steps_see V same same fixed.batch_size fixed.roots slot_of scene.world scene.maps scene.calls scene.makers scene.enders all map.number it.0 it.1
          i does.3.call does.3.here
          (none_at does.3.call (ap is_at_row does.3.is ∙ none)) m2 next told b
          (plan_was (λ (f : K → ℕ) (x : Machine K V K). HasSeen b scene.world.memory (machine_plan same same f x) m2 (next, told)) saw))
          as (λ _. IsOurs b ⊎ ((IsOwnOf next b ⊎ IsNextOf next b) × Continues told)) [
            | inl held ↦ inl (subst (λ (a : ℕ). holds a b scene.world.log ≡ true) (slot_at id place fits.slot) held.0, held.1)
            | inr own ↦ inr (inl own.0, own.1)
          ]

  -- what the memory took as a step is an act, which leads on
  module _ (m2 : Mem (Node K V)) (end : Machine K V K × Progress (Node K V)) (steps : Steps Took value_at scene.world.memory step_plan m2 end) where
    pub granted : (g : Grant) × (call_steps same hash fixed.batch_size fixed.roots slot_of scene g (it.0, does.3.call) ≡ Some (m2, end))
    granted =
        acts.1.calls map.number i it.0 does.3.call it.1 does.3.here m2 end
        (plan_was (λ (f : K → ℕ) (x : Machine K V K). Steps Took value_at scene.world.memory (machine_plan same same f x) m2 end) steps)

    pub may_do : MayDo V same hash fixed.batch_size fixed.roots slot_of (Does (StepsCall i map.number granted.0)) h.reached.0
    may_do = (
      ap is_none h.nobody,
      ap is_none (ap (λ (o : Option (Standing K × UnderWay K V K)). then_on o (call_steps same hash fixed.batch_size fixed.roots slot_of scene granted.0)) called_at ∙ granted.1),
    )

    pub came : CallCame same hash fixed.batch_size fixed.roots slot_of scene i map.number granted.0 (h.course.told h.reached.0 (Does (StepsCall i map.number granted.0)) may_do)
        (h.course.next h.reached.0 (Does (StepsCall i map.number granted.0)) may_do).0
    came = (h.course.leads h.reached.0 (Does (StepsCall i map.number granted.0)) may_do).0

    -- and it comes to what was made
    computed : call_steps same hash fixed.batch_size fixed.roots slot_of scene granted.0 (it.0, does.3.call) ≡ Some (came.memory, (came.machine, came.progress))
    computed =
        ap (λ (x : Standing K). call_steps same hash fixed.batch_size fixed.roots slot_of scene granted.0 (x, does.3.call)) (same_some it.0 came.standing (sym it.1 ∙ came.stands))
        ∙ ap (λ (x : UnderWay K V K). call_steps same hash fixed.batch_size fixed.roots slot_of scene granted.0 (came.standing, x))
        (same_some does.3.call came.call (sym does.3.here ∙ came.here))
        ∙ came.computed

    both : ◌≡◌ {A = Mem (Node K V) × (Machine K V K × Progress (Node K V))} (m2, end) (came.memory, (came.machine, came.progress))
    both = same_some (m2, end) (came.memory, (came.machine, came.progress)) (sym granted.1 ∙ computed)

    memory_is : m2 ≡ came.memory
    memory_is = (pair_is (Mem (Node K V)) (Machine K V K × Progress (Node K V)) (m2, end) (came.memory, (came.machine, came.progress)) both).0

    end_is : end ≡ (came.machine, came.progress)
    end_is = (pair_is (Mem (Node K V)) (Machine K V K × Progress (Node K V)) (m2, end) (came.memory, (came.machine, came.progress)) both).1

    abbrev n : Scene K V
    n =
        after same hash fixed.batch_size fixed.roots scene all id place map.number fits.slot came.standing came.stands came.call came.here inside on_row came.memory came.machine came.progress
        came.did

    leaves : Leaves same hash fixed.batch_size scene n i None
    leaves =
        step_leaves same hash fixed.batch_size fixed.roots scene all id place map.number fits.slot came.standing came.stands came.call came.here inside on_row came.memory came.machine came.progress
        came.did

    stand : leaves.ends ≡ None
    unfolding leaves
    stand =
        none_ends same hash fixed.batch_size fixed.roots scene all id place map.number fits.slot came.standing came.stands came.call came.here inside on_row came.memory came.machine came.progress
        came.did

    knows_pair : KnowsPair same hash scene i (Some map) (Calls machine) v.calls
    knows_pair =
        subst (λ (x : SeatWork K V S). KnowsPair same hash scene i (Some map) x v.calls) works
        (subst (λ (x : Option (Map S)). KnowsPair same hash scene i x v.work v.calls) knows fits.pair)

    -- and it is what is handed back
    pub hands : HandsBack v.calls end.1
    hands =
        subst (λ (e : Machine K V K × Progress (Node K V)). HandsBack v.calls e.1) (sym end_is)
        (step_hands same fixed.batch_size fixed.roots scene map.number came.standing i came.call came.memory came.machine came.progress came.did v.calls (knows_pair came.call came.here))

    -- what was held is held on, and what is in use then is held, too
    r2 : Reached deferred_word fixed.batch_size n.world
    r2 = came_reached fixed.batch_size n.world came.did.together.makings.standing.came

    abbrev IsHeldThen : ℕ → Type 0
    IsHeldThen b = (holds place b n.world.log ≡ true) × (owner_of b n.world.log ≡ map.setting.counter)

    its_counter : it.0.setting.counter ≡ map.setting.counter
    its_counter = ap (λ (x : Setting). x.counter) it.2

    held_on : (b : ℕ) → IsOurs b → IsHeldThen b
    held_on b ours = let g = leaves.held place b map.number it.0 (λ a e. cc e) inside (λ e. cc (stand, e)) it.1 ours.1 ours.0 in (g.0, g.1 ∙ ours.1 ∙ its_counter)

    used_held : (b o : ℕ) → n.world.hand b ≡ InUse o → holds place b n.world.log ≡ true
    used_held b o used =
        reached_held place b n.world.log (ap is_somewhere (used_stands deferred_word fixed.batch_size n.world r2 b used))
        (inside_open deferred_word fixed.batch_size n.world r2 place (section_on same hash scene n id place fits.slot fixed.batch_size None leaves place (λ a e. cc e) inside))

    -- whosever it is
    still_held : (b : ℕ) → holds place b scene.world.log ≡ true → holds place b n.world.log ≡ true
    still_held b held = (step_held same hash fixed.batch_size fixed.roots scene all id place map.number fits.slot came.standing came.stands came.call came.here inside on_row came.memory came.machine came.progress
        came.did place inside b held).0

    same_it : it.0 ≡ came.standing
    same_it = same_some it.0 came.standing (sym it.1 ∙ came.stands)

    -- a pair that the step tells is there, and its section holds it then: one that a sweep has read,
    abbrev IsIt : ℕ → Type 0
    IsIt word = IsThere {K = K} {V = V} IsHeldThen m2 word

    so_after : (word : ℕ) (key : K) (value : V) → value_at came.memory (block_in word) ≡ Some (Pair key value) → value_at m2 (block_in word) ≡ Some (Pair key value)
    so_after word key value is = ap (λ (x : Mem (Node K V)). value_at x (block_in word)) memory_is ∙ is

    told_there : ReadsPlaces machine → (word : ℕ) → ProgressNamesPair end.1 word → IsIt word
    told_there reads word tells =
        let its = subst (λ (x : UnderWay K V K). ReadsPlaces (machine_of x)) (same_some does.3.call came.call (sym does.3.here ∙ came.here))
        (subst (λ (x : Machine K V K). ReadsPlaces x) (sym does.3.is) reads) in
        let t = pair_told same fixed.batch_size fixed.roots scene all map.number came.standing came.stands i came.call came.here came.memory came.machine came.progress came.did its word
        (subst (λ (e : Machine K V K × Progress (Node K V)). ProgressNamesPair e.1 word) end_is tells) in (
          t.0,
          t.1,
          so_after word t.0 t.1 t.2,
          held_on (block_in word)
              (subst (λ (a : ℕ). holds a (block_in word) scene.world.log ≡ true) (slot_at id place fits.slot) t.3.0, t.3.1 ∙ ap (λ (x : Standing K). x.setting.counter) (sym same_it)),
        )

    -- or one with which a call has answered
    answer_there : (word : ℕ) → AnswersWith end.1 word → IsIt word
    answer_there word answers =
        let t = answered_there same fixed.batch_size fixed.roots scene all map.number came.standing came.stands i came.call came.here came.memory came.machine came.progress came.did word
        (subst (λ (e : Machine K V K × Progress (Node K V)). AnswersWith e.1 word) end_is answers) in (
          t.0,
          t.1,
          so_after word t.0 t.1 t.2,
          (
            elim t.3 as (λ _. holds place (block_in word) n.world.log ≡ true) [
              | inl held ↦
                  still_held (block_in word) (subst (λ (a : ℕ). holds a (block_in word) scene.world.log ≡ true) (slot_at id place fits.slot) held)
              | inr used ↦ used_held (block_in word) used.0 used.1
            ],
            t.4 ∙ ap (λ (x : Standing K). x.setting.counter) (sym same_it) ∙ its_counter,
          ),
        )

    -- what was looked at, with these pairs
    abbrev IsRead : ℕ → Type 0
    IsRead word = read_word machine end.1 ≡ Some word

    abbrev pub More : (ℕ → Type 0) → List (ℕ × Node K V) → Type 0
    More words looks = Known IsHeldThen scene.world.memory step_plan m2 end looks words

    module _ (looks : List (ℕ × Node K V)) where
      with_read : More (λ word. ⊥) looks → More IsRead looks
      with_read k = by (read_word machine end.1) refl
        where
          by : (o : Option ℕ) → read_word machine end.1 ≡ o → More IsRead looks
          by None none = of_these IsHeldThen scene.world.memory step_plan m2 end looks (λ word. ⊥) IsRead (λ word is. absurd (cc (is, none))) k
          by (Some word) is =
              let reads = was_read machine end.1 word is in
              of_these IsHeldThen scene.world.memory step_plan m2 end looks (λ other. (word ≡ other) ⊎ ⊥) IsRead (λ other its. inl (same_some word other (sym is ∙ its)))
              (one_more IsHeldThen scene.world.memory step_plan m2 end looks (λ other. ⊥) word (told_there reads.0 word reads.1) k)

      pub known : IsSo (value_at m2) looks → AllLooked scene.world.memory step_plan m2 end looks → More (λ word. AnswersWith end.1 word ⊎ IsRead word) looks
      known so_looks seen =
          with_told IsHeldThen scene.world.memory step_plan m2 end looks IsRead end.1 answer_there
          (with_read (none_more IsHeldThen scene.world.memory step_plan m2 end looks so_looks seen))

      pub shows_told : (k : More (λ word. AnswersWith end.1 word ⊎ IsRead word) looks) → ToldAreVisible machine end.1 (shown_in k.more)
      shows_told k = (λ reads word tells. k.shows word (inr (is_read machine end.1 reads word tells)), λ word answers. k.shows word (inl answers))

    -- with what is known of the blocks that it has looked at
    module _ (looks : List (ℕ × Node K V)) (seen : AllKnown IsHeldThen scene.world.memory step_plan m2 end looks) where
      abbrev w : View K V S
      w = called v map machine (came.machine, came.progress) looks

      -- of what was seen each block is held, and has its value
      of_on : (next : Machine K V K) (told : Progress (Node K V)) (b : ℕ) → IsOwnOf next b ⊎ IsNextOf next b → Continues told → IsOfCall same hash (call_after {S = S} next told) b
      of_on next (progress.Done answer) b of on = absurd on
      of_on next (progress.Refused fault) b of on = absurd on
      of_on next _ b of on = of

      looked_held : (more : List (ℕ × Node K V)) → AllKnown IsHeldThen scene.world.memory step_plan m2 (came.machine, came.progress) more
          → AllHeld same hash n v.under v.slot (Some map) (call_after came.machine came.progress) more
      looked_held [] each = tt
      looked_held (look ∷ more) each = ((there, by each.0), looked_held more each.2)
        where
          there : value_at n.world.memory look.0 ≡ Some look.1
          there = ap (λ (x : Mem (Node K V)). value_at x look.0) (came.did.memory ∙ sym memory_is) ∙ each.1

          why : IsOurs look.0 ⊎ ((IsOwnOf came.machine look.0 ⊎ IsNextOf came.machine look.0) × Continues came.progress)
              → IsInSection same hash n v.under v.slot (Some map) look.0 ⊎ IsOfCall same hash (call_after {S = S} came.machine came.progress) look.0
          why (inl ours) = let g = held_on look.0 ours in inl (place, section_is, g.0, g.1)
          why (inr (of, on)) = inr (of_on came.machine came.progress look.0 of on)

          by : HasSeen look.0 scene.world.memory step_plan m2 (came.machine, came.progress) ⊎ IsHeldThen look.0
              → IsInSection same hash n v.under v.slot (Some map) look.0 ⊎ IsOfCall same hash (call_after {S = S} came.machine came.progress) look.0
          by (inl saw) = why (seen_lasts m2 came.machine came.progress look.0 saw)
          by (inr then_held) = inl (place, section_is, then_held.0, then_held.1)

      held_then : AllHeld same hash n v.under v.slot v.map (call_after came.machine came.progress) looks
      held_then =
          subst (λ (x : Option (Map S)). AllHeld same hash n v.under v.slot x (call_after came.machine came.progress) looks) (sym knows)
          (looked_held looks (subst (λ (e : Machine K V K × Progress (Node K V)). AllKnown IsHeldThen scene.world.memory step_plan m2 e looks) end_is seen))

      -- it looks on, if it leans on another seat
      only_then : (told : Progress (Node K V)) → (Continues told → Writes came.machine → Writes machine) → LooksAside v.under (Some map) (call_after came.machine told)
      only_then (progress.Done answer) before = tt
      only_then (progress.Refused fault) before = tt
      only_then _ before =
          looks_aside_on v.under (Some map) machine came.machine (before tt)
          (subst (λ (x : SeatWork K V S). LooksAside v.under (Some map) x) works
          (subst (λ (x : Option (Map S)). LooksAside v.under x v.work) knows fits.only))

      its_steps : Steps Took value_at scene.world.memory step_plan m2 (came.machine, came.progress)
      its_steps = subst (λ (e : Machine K V K × Progress (Node K V)). Steps Took value_at scene.world.memory step_plan m2 e) end_is steps

      -- it ends no map
      no_end : (told : Progress (Node K V)) → KnowsTable same hash n (call_after came.machine told) looks
      no_end (progress.Done answer) = tt
      no_end (progress.Refused fault) = tt
      no_end _ = tt

      -- the call that goes on was begun with the pair that it was begun with
      pair_then : (told : Progress (Node K V)) → KnowsPair same hash n i (Some map) (call_after came.machine told) (newest_progress came.progress v.calls)
      pair_then (progress.Done answer) = tt
      pair_then (progress.Refused fault) = tt
      pair_then _ = λ x here.
          step_pair same fixed.batch_size fixed.roots scene map.number came.standing i came.call came.memory came.machine came.progress came.did x
          (sym (call_here scene.calls map.number i came.did.next) ∙ here) ∙ knows_pair came.call came.here ∙ sym (newest_pair came.progress v.calls)

      own : Fits same hash n id w
      own = record {
        slot = fits.slot;
        does =
            subst (λ (x : Option (Map S)). DoesSo same hash n i v.under v.slot x (call_after came.machine came.progress)) (sym knows)
            (own_does same hash fixed.batch_size fixed.roots scene all id place map.number fits.slot came.standing came.stands came.call came.here inside on_row came.memory came.machine came.progress
            came.did v.under v.slot fits.aside section_is map refl came.progress came.did.goes_on);
        aside = fits.aside;
        map = map_on same hash scene n id place fits.slot fixed.batch_size None leaves v.map (all_last same hash scene n id place fits.slot fixed.batch_size None leaves stand v.map) fits.map;
        own = map_on same hash scene n id place fits.slot fixed.batch_size None leaves v.own (all_last same hash scene n id place fits.slot fixed.batch_size None leaves stand v.own) fits.own;
        only = subst (λ (x : Option (Map S)). LooksAside v.under x (call_after came.machine came.progress)) (sym knows)
            (only_then came.progress (step_writes same (hash map.hasher) scene.world.memory m2 came.machine came.progress machine its_steps));
        held = held_then;
        table = no_end came.progress;
        pair = subst (λ (x : Option (Map S)). KnowsPair same hash n i x (call_after came.machine came.progress) (newest_progress came.progress v.calls)) (sym knows) (pair_then came.progress);
        idle = own_idle same hash scene n id place fits.slot fixed.batch_size None leaves fits.idle;
      }

      abbrev act : Act K V S
      act = StepsCall i map.number granted.0

      go : Moved same hash fixed s h id act m2 w n
      go = record {
        memory = memory_is ∙ sym came.did.memory;
        own = own;
        place = place;
        its_slot = fits.slot;
        mine = None;
        leaves = leaves;
        theirs = λ j t a b x ne at uses e. cc e;
        alone = same_slot same hash fixed s h id v w at_id refl;
        under = λ x at. ap (λ (y : View K V S). y.under) (same_some v x (sym at_id ∙ at));
        knows = knows_alike same hash fixed s h id v w at_id refl refl refl;
        gone = λ m e. absurd (cc (stand, e));
        leant = inl (refl, λ x at. ap (λ (y : View K V S). y.slot) (same_some v x (sym at_id ∙ at)));
        fresh = (
          so.fresh.0,
          step_fresh same hash fixed.batch_size fixed.roots scene all id place map.number fits.slot came.standing came.stands came.call came.here inside on_row came.memory came.machine came.progress
              came.did so.fresh.0 so.fresh.1,
          numbered_on s.world.doings (Does act ∷ []) 0 so.fresh.0 so.fresh.0 so.fresh.2 refl,
        );
        row = knows_within fixed n id place v.under v.slot fits.aside section_is;
      }

      -- what the step has told is what the call has told last
      abbrev calls : List (Called K V)
      calls = calls_of id s.world.doings h.reached.1 []

      its_newest : IsNewest i (calls_then id (Does act) (h.course.told h.reached.0 (Does act) may_do) calls)
      its_newest =
          subst (λ (told : Answer K V). IsNewest i (calls_then id (Does act) told calls)) (sym came.tells)
          (subst (λ (q : Bool). IsNewest i (if q then has_progressed i came.progress calls else calls)) (sym (is_its id place fits.slot))
          (newest_on i came.progress calls (h.newest id v machine at_id works)))

      adds : Adds same hash fixed s h id act (h.course.told h.reached.0 (Does act) may_do) v w n calls
      adds = record {
        own = ((λ a k. 0), tt);
        others = λ j ne theirs.
            ap (λ (told : Answer K V). calls_then j (Does act) told theirs) came.tells ∙ ap (λ (q : Bool). if q then has_progressed i came.progress theirs else theirs) (is_other j id place fits.slot ne);
        its = λ are.
            subst (λ (told : Answer K V). AreRuns same hash (calls_then id (Does act) told calls) w.calls) (sym came.tells)
            (subst (λ (q : Bool). AreRuns same hash (if q then has_progressed i came.progress calls else calls) w.calls) (sym (is_its id place fits.slot))
            (newest_runs same hash i came.progress calls v.calls (h.newest id v machine at_id works) are));
        newest = λ other on. its_newest;
        aside = λ j ne theirs. ap (λ (q : Bool). if q then Some (i, n.world.memory) else theirs) (is_other j id place fits.slot ne);
        seen = λ before b x shown. (
          n.world.memory,
          ap (λ (q : Bool). if q then Some (i, n.world.memory) else before) (is_its id place fits.slot),
          its_newest,
          value_of same hash n w.under w.slot w.map w.work b x w.held own.held shown,
        );
      }

      pub goes : (so : View K V S → Type 0) → so (called v map machine end looks) → Goes (Holds same hash fixed) KeepsFor s m2 id so
      goes so is =
          moved same hash fixed s h id v at_id act may_do n came.comes m2 w go adds so
          (subst (λ (e : Machine K V K × Progress (Node K V)). so (called v map machine e looks)) end_is is)

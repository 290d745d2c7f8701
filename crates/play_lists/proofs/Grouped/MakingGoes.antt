-- The making of a map, in the midst of an event: the list of acts goes on where it begins, and by each of its steps.
use Rattle.std.specs.Prelude.{◌-◌, ◌≢◌, ◌≤◌, ◌<◌, ◌+◌, ◌^◌, ◌==◌, ◌&&◌, ◌++◌, Some, None, Ok, Err, length, max, nat_lt, option_map, if◌then◌else◌}
use Rattle.std.specs.Int.{IsPowerOfTwo}
use Rattle.std.proofs.Common.{◌≡◌, ℕ, Bool, true, false, List, [], ◌∷◌, refl, sym, ap, subst, arith, ◌∙◌}
use Rattle.std.proofs.lemmas.Bool.{eq-eqb, ne_eqb}
use Rattle.seize_acts.specs.Acts.Answers.{Grant, stepped}
use Rattle.seize_acts.proofs.Acts.Answers.{was_stepped}
use Rattle.run_schedules.specs.Given.SeizeWordsMem.{Mem, Took, value_at}
use Rattle.run_schedules.specs.Given.SeizeWordsOp.{Out, Exchanged, Made}
use Rattle.run_schedules.specs.Given.SeizeWordsPlan.{Steps}
use Rattle.run_schedules.specs.Given.SeizeWordsDeclared.fault.Fault.TheVariants.{RootsUsedUp}
use Rattle.seize.specs.declared.advance.Advance.{Advance}
use Rattle.seize.specs.declared.advance.Advance.TheVariants as progress
use Rattle.seize_acts.proofs.Given.SeizeEndsBatches.Free.{Outcomes, plan_outcome}
use Rattle.seize_acts.proofs.Given.SeizeRuleRows.Leaving.{steps_back}
use Rattle.map_tables.specs.Lengths.{IsTableLen}
use Rattle.map_tables.specs.declared.node.Node.{Node}
use Rattle.map_tables.specs.declared.resize_mode.ResizeMode.{ResizeMode}
use Rattle.map_tables.specs.declared.setting.Setting.{Setting}
use Rattle.map_tables.specs.declared.table.Table.{Table}
use Rattle.run_kept.specs.Given.ResizeNewMap as new_map
use Rattle.run_finds.specs.Given.ResizeNewTable.{first_table, new_table_plan}
use Rattle.run_finds.specs.Given.ResizeDeclared.new_map.NewMap.{NewMap}
use Rattle.run_finds.specs.Given.ResizeDeclared.new_map.Opening.{Opening}
use Rattle.run_finds.specs.Given.ResizeDeclared.new_map.Opening.TheVariants as at
use Rattle.run_finds.specs.Given.ResizeDeclared.new_table.NewTable.{NewTable}
use Rattle.run_kept.specs.Given.EffectsDeclared.changed.Changed.{Changed}
use Rattle.many_acts.specs.Given.PointsSteps.{AreLawful}
use Rattle.many_acts.specs.Given.FinishesMakings.{Beginning}
use Rattle.many_acts.proofs.Given.CallersTogether.At.{at_same}
use Rattle.many_acts.specs.Given.ScenesScene.{Scene, slot_of}
use Rattle.run_schedules.specs.declared.effect.Effect.{Effect}
use Rattle.run_schedules.specs.declared.event.Event.{Event}
use Rattle.run_schedules.specs.declared.outcome.Outcome.{Outcome}
use Rattle.run_schedules.specs.Schedules.After.{moment}
use Rattle.run_schedules.specs.Schedules.Entry.{Entry}
use Rattle.run_kept.specs.Given.EffectsEffects.{effects_of, known_after}
use Rattle.run_kept.specs.Given.EffectsKnown.{Known}
use Rattle.run_kept.specs.Given.EffectsDeclared.acting.Acting.TheVariants as acting
use Rattle.run_finds.specs.Given.ExecutorIsThere.{IsThere, StaysGiven, making_in, work_of}
use Rattle.run_finds.specs.Given.ExecutorMaking.{MakesThere}
use Rattle.run_finds.specs.Given.ExecutorMakingBegins.{MakingBegins}
use Rattle.run_finds.specs.Given.ExecutorDeclared.executor.Executor.{Executor}
use Rattle.run_finds.specs.Given.ExecutorDeclared.caller.NamedCaller.{NamedCaller}
use Rattle.many_acts.specs.Acts.Acts.{Answer, BeginsMaking, Nothing, OfMaking, StepsMaking}
use Rattle.many_acts.specs.Acts.Doings.{Stage, reclaiming}
use Rattle.many_acts.specs.Acts.Leads.{Led}
use Rattle.many_acts.specs.Acts.Lists.{Course}
use Rattle.run_schedules.specs.Deeds.Deeds.{Deed, MapComes, MapFails, Makes, Entry as Act}
use Rattle.play_lists.specs.Drives.Executors.{AreSteps, Computes, IsAct}
use Rattle.play_lists.proofs.Drives.Executors.{executors_act}
use Rattle.play_lists.specs.Agrees.Places.{ArePlaces}
use Rattle.play_lists.specs.Agrees.Fresh.{comes_with, is_taken}
use Rattle.play_lists.specs.Played.Play.{Making, Now, State, has_root, is_refusal, made_on, making_begun, making_deed, making_outcome, making_stepped, pairs_for, play_act, worked}
use Rattle.play_lists.specs.Played.Reached.{IsOfStage, rows_beside}
use Rattle.play_lists.proofs.Played.PlayedAs.{played_as}
use Rattle.play_lists.proofs.Played.Tied.{making_tied}
use Rattle.play_lists.specs.Grouped.Called.{PlaysSo}
use Rattle.play_lists.specs.Grouped.Grouping.{MayHave, Names, refuses}
use Rattle.play_lists.specs.Grouped.Reach.{Reach}
use Rattle.play_lists.proofs.Grouped.Aside.{begun_aside, made_calls, making_aside, works_on}
use Rattle.play_lists.proofs.Grouped.Callers.{under}
use Rattle.play_lists.proofs.Grouped.Midst.{InEvent, event_begins, maps_of}
use Rattle.play_lists.proofs.Grouped.OneMore.{one_act}
use Rattle.run_finds.proofs.Given.General.{same_some}

-- by what a step tells, a making goes on, or was refused
abbrev pub is_on : {T : Type 0} → Advance T → Bool
is_on progress.Goes = true
is_on progress.Waits = true
is_on _ = false

abbrev pub is_refused : {T : Type 0} → Advance T → Bool
is_refused (progress.Refused fault) = true
is_refused _ = false

-- A making keeps the mode of its map, and with how many places that begins; and once it is refused it has no root.
module _ (K V : Type 0) (c : NewMap) where
  abbrev pub KeepsIts : NewMap × Advance Setting → Type 0
  KeepsIts (n, said) = (n.setting.mode ≡ c.setting.mode) × (n.len ≡ c.len) × (is_refused said ≡ true → has_root n.stands ≡ false)

  next_keeps : (t : Bool) → KeepsIts (if t then (record c { setting = new_map.at_root c.setting (c.setting.root + 1) }, progress.Goes) else new_map.refused c RootsUsedUp)
  next_keeps true = (refl, refl, λ r. absurd (cc r))
  next_keeps false = (refl, refl, λ r. refl)

  taken_keeps : (out : Out (Node K V)) → Outcomes KeepsIts (new_map.taken c out)
  taken_keeps (Exchanged (Ok free)) = (refl, refl, λ r. absurd (cc r))
  taken_keeps (Exchanged (Err used)) = next_keeps (nat_lt c.setting.root (c.roots - 1))
  taken_keeps _ = (refl, refl, λ r. absurd (cc r))

  shards_keep : (d : NewMap) → d.setting.mode ≡ c.setting.mode → d.len ≡ c.len → KeepsIts (new_map.with_shards d)
  shards_keep d mode len = by (d.len == 0)
    where
      by : (t : Bool) → KeepsIts (if t then new_map.done d else new_map.goes d (at.Tables (first_table d.setting d.len)))
      by true = (mode, len, λ r. absurd (cc r))
      by false = (mode, len, λ r. absurd (cc r))

  made_keeps : (out : Out (Node K V)) → Outcomes KeepsIts (new_map.made c out)
  made_keeps (Made (Ok block)) = shards_keep (record c { setting = new_map.with_counter c.setting block }) refl refl
  made_keeps (Made (Err value)) = (refl, refl, λ r. absurd (cc r))
  made_keeps _ = (refl, refl, λ r. absurd (cc r))

  opened_keeps : (making : NewTable) (said : Advance Table) → KeepsIts (new_map.opened c (making, said))
  opened_keeps making progress.Goes = (refl, refl, λ r. absurd (cc r))
  opened_keeps making progress.Waits = (refl, refl, λ r. absurd (cc r))
  opened_keeps making (progress.Done table) = (refl, refl, λ r. absurd (cc r))
  opened_keeps making (progress.Refused fault) = (refl, refl, λ r. absurd (cc r))

  steps_keep : (mem mem2 : Mem (Node K V)) (p : Opening) → c.stands ≡ p → (end : NewMap × Advance Setting) → Steps Took value_at mem (new_map.plan_at {K = K} {V = V} c p) mem2 end → KeepsIts end
  steps_keep mem mem2 at.Takes e end st = plan_outcome KeepsIts mem mem2 (new_map.takes c) end taken_keeps st
  steps_keep mem mem2 at.Shards e end st = plan_outcome KeepsIts mem mem2 (new_map.shards c) end made_keeps st
  steps_keep mem mem2 (at.Tables making) e end st =
      let back = steps_back (new_map.opened c) mem mem2 (new_table_plan making) end st in subst KeepsIts (sym back.2) (opened_keeps back.0.0 back.0.1)
  steps_keep mem mem2 (at.Unmakes fault) e end st = plan_outcome KeepsIts mem mem2 (new_map.unmakes c fault) end (λ out. (refl, refl, λ r. absurd (cc r))) st
  steps_keep mem mem2 (at.Frees fault) e end st = plan_outcome KeepsIts mem mem2 (new_map.frees c fault) end (λ out. (refl, refl, λ r. refl)) st
  steps_keep mem mem2 at.Over e end st = plan_outcome KeepsIts mem mem2 (new_map.plan_at {K = K} {V = V} c at.Over) end (refl, refl, λ r. absurd (cc r)) st
  steps_keep mem mem2 (at.Refused fault) e end st =
      plan_outcome KeepsIts mem mem2 (new_map.plan_at {K = K} {V = V} c (at.Refused fault)) end (refl, refl, λ r. ap has_root e) st

  pub making_keeps : (g : Grant) (mem mem2 : Mem (Node K V)) (end : NewMap × Advance Setting) → stepped mem g (new_map.new_map_plan {K = K} {V = V} c) ≡ Some (mem2, end) → KeepsIts end
  making_keeps g mem mem2 end is = steps_keep mem mem2 c.stands refl end (was_stepped mem g (new_map.new_map_plan {K = K} {V = V} c) (mem2, end) is)

module _ (K V : Type 0) where
  -- with which number a map comes by the step of a making, and whether one has it then
  making_comes : (n map : ℕ) (before after : NewMap) → map ≢ n → comes_with {K = K} {V = V} n (making_deed map before after) ≡ false
  making_comes n map before after ne = by (has_root before.stands) (has_root after.stands)
    where
      by : (b c : Bool) → comes_with {K = K} {V = V} n (if b then (if c then Makes map else MapFails map) else (if c then MapComes map after.setting.root after.setting.mode (pairs_for after.len) else Makes map)) ≡ false
      by true true = refl
      by true false = refl
      by false true = ne_eqb map n ne
      by false false = refl

  making_takes : (map : ℕ) (before after : NewMap) (outcome : Outcome V) (effects : List Effect) (refused : Bool) (history : List (Act K V)) → is_taken map history ≡ has_root before.stands
      → is_taken map (record { deed = making_deed map before after; outcome = outcome; effects = effects; refused = refused } ∷ history) ≡ has_root after.stands
  making_takes map before after outcome effects refused history was = by (has_root before.stands) (has_root after.stands) was
    where
      its : (map == map) ≡ true
      its = eq-eqb map map refl

      deed : Bool → Bool → Deed K V
      deed b c = if b then (if c then Makes map else MapFails map) else (if c then MapComes map after.setting.root after.setting.mode (pairs_for after.len) else Makes map)

      by : (b c : Bool) → is_taken map history ≡ b → is_taken map (record { deed = deed b c; outcome = outcome; effects = effects; refused = refused } ∷ history) ≡ c
      by true true is = is
      by true false is = ap (λ (q : Bool). if true && q then false else is_taken map history) its
      by false true is = ap (λ (q : Bool). if q then true else is_taken map history) its
      by false false is = is

module _ {K V S : Type 0} (i made : ℕ) (mode : ResizeMode) (places : ℕ) where
  -- The making that a caller has under way, as it is played, is of a map of this mode, that begins with so many places, and its number is taken while it has a root.
  pub record MakesSo (x : State K V S) : Type 0 where
    pub it : Making S
    pub here : x.now.makers i ≡ Some it
    pub taken : is_taken made x.history ≡ has_root it.machine.stands
    pub mode_is : it.machine.setting.mode ≡ mode
    pub places_are : it.machine.len ≡ places

  -- so it is after a step that told this, if it goes on; and if it was refused its number is not taken
  abbrev pub MakesThen : Advance Setting → State K V S → Type 0
  MakesThen said x = (is_on said ≡ true → MakesSo x) × (is_refused said ≡ true → is_taken made x.history ≡ false)

  -- what is so of a making that goes on
  made_then : (it : Making S) (next : NewMap) (said : Advance Setting) (now : Now K V S) → is_on said ≡ true → (made_on i it next said now).makers i ≡ Some (record it { machine = next })
  made_then it next progress.Goes now on = at_same now.makers i (Some (record it { machine = next })) i refl
  made_then it next progress.Waits now on = at_same now.makers i (Some (record it { machine = next })) i refl
  made_then it next (progress.Done setting) now on = absurd (cc on)
  made_then it next (progress.Refused fault) now on = absurd (cc on)

module _ {K V S : Type 0} (same : K → K → Bool) (by_hasher : S → K → ℕ) (shards : ℕ) (log : List (Entry K V)) (event : Event K V) (one : maps_of event ≡ 1) (calls : List (NamedCaller V)) (e e2 : Executor K V S) (given : StaysGiven e e2)
    (i : ℕ) (mode : ResizeMode) (places : ℕ) where
  abbrev At : (State K V S → Type 0) → Executor K V S → Known → Type 0
  At P x known = Reach same by_hasher e.hasher e.batch_size e.roots shards P x known

  -- It begins by the next number, by a caller that has nothing under way.
  pub making_begins : Course V same by_hasher e.batch_size e.roots slot_of → (its : Setting) → its.mode ≡ mode
      → ((s : Scene K V) → IsThere same (by_hasher e.hasher) e s → MakingBegins same (by_hasher e.hasher) its places i s e e2) → work_of e i ≡ None → AreLawful same (by_hasher e.hasher)
      → IsPowerOfTwo its.initial → its.batch_size ≡ e.batch_size → its.mask + 1 < 2 ^ 64 → its.mask + 1 ≡ shards → ArePlaces its places → 0 < e.roots → (max places 8 ≤ 2 ^ 48 → IsTableLen (max places 8)) → length e.maps.items ≡ (moment log).made
      → (outcome : Outcome V) → refuses outcome ≡ true → (noted : Known) → At (λ x. PlaysSo log calls x) e noted → At (λ x. InEvent log event [] 0 outcome calls x × MakesSo i (moment log).made mode places x) e2 noted
  making_begins any its mode_is begins fresh lawful power batches mask many are some sized next outcome refused noted at =
      one_act same by_hasher shards e e2 given any noted noted (λ x. PlaysSo log calls x) (λ x. InEvent log event [] 0 outcome calls x × MakesSo i (moment log).made mode places x)
      (BeginsMaking i (length e.maps.items) e.hasher its places) Nothing
      (refl, (many, are)) (λ s there. (executors_act V same by_hasher e e2 s there given i).1.making_begins its places (begins s there) fresh lawful power batches mask some sized)
      (λ x so. so.fresh (length e.maps.items) (omega (arith, next))) (λ value. value)
      (λ value aborts x y p stage there its_abort played knows so.
      (let came = played_as same by_hasher e.batch_size e.roots aborts x y (BeginsMaking i (length e.maps.items) e.hasher its places) played in
      let z = making_begun i e.roots (length e.maps.items) e.hasher its places x in
      let it : Making S = record { map = length e.maps.items; hasher = e.hasher; machine = new_map.opening its e.roots places } in (
        ap (λ (w : State K V S). w.known) came ∙ knows,
        subst (λ (w : State K V S). InEvent log event [] 0 outcome calls w × MakesSo i (moment log).made mode places w) (sym came) (
          begun_aside log event [] 0 outcome calls x (event_begins log event outcome refused calls x so) z.now refl,
          record { it = it; here = at_same x.now.makers i (Some it) i refl; taken = so.fresh (moment log).made (omega arith); mode_is = mode_is; places_are = refl },
        ),
      ))) at

  -- Its step, which said this: its entry is one of the event; and the executor is there then as it is in the end.
  module _ (map : ℕ) (map_is : map ≡ (moment log).made) (opening : NewMap) (has : making_in (work_of e i) ≡ Some (map, opening)) (said : Advance Setting)
      (leads : (s : Scene K V) → IsThere same (by_hasher e.hasher) e s → MakesThere same (by_hasher e.hasher) i said s e e2) (e3 : Executor K V S) (given3 : StaysGiven e e3)
      (lasts : (s n : Scene K V) → IsThere same (by_hasher e.hasher) e s → (g : Grant) → Led same by_hasher e.batch_size e.roots slot_of (StepsMaking i g) s (OfMaking said) n → IsThere same (by_hasher e.hasher) e2 n
      → IsThere same (by_hasher e.hasher) e3 n) (did did2 : List Effect) (noted noted2 : Known)
      (did_is : did2 ≡ did ++ effects_of (acting.Making map) noted e2.memory.changed) (noted_is : noted2 ≡ known_after (acting.Making map) e2.memory.changed noted) (outcome : Outcome V)
      (may : (opening next : NewMap) → opening.setting.mode ≡ mode → opening.len ≡ places → next.setting.mode ≡ mode → next.len ≡ places → (names : Names) → MayHave names (moment log) event (making_deed map opening next)) where
    abbrev Before : State K V S → Type 0
    Before x = InEvent log event did 0 outcome calls x × MakesSo i (moment log).made mode places x

    abbrev Then : State K V S → Type 0
    Then x = InEvent log event did2 0 (making_outcome said) calls x × MakesThen i (moment log).made mode places said x

    drive : (s : Scene K V) → IsThere same (by_hasher e.hasher) e s → AreSteps same by_hasher e e2 s (Computes e e2 (new_map.new_map_plan {K = K} {V = V} opening) said) (StepsMaking i) (OfMaking said)
    drive s there =
        let b = under (λ (b : Beginning K). (b.map, b.machine)) (s.makers i) (map, opening) (there.makers i ∙ has) in
        subst (λ (z : NewMap). AreSteps same by_hasher e e2 s (Computes e e2 (new_map.new_map_plan {K = K} {V = V} z) said) (StepsMaking i) (OfMaking said)) (ap (λ (q : ℕ × NewMap). q.1) b.2)
        ((executors_act V same by_hasher e e2 s there given i).1.making said (leads s there) b.0 b.1)

    module _ (g : Grant) (computed : Computes e e2 (new_map.new_map_plan {K = K} {V = V} opening) said g) where
      abbrev next_machine : NewMap
      next_machine = computed.0

      keeps : KeepsIts K V opening (next_machine, said)
      keeps = making_keeps K V opening g e.memory.memory e2.memory.memory (next_machine, said) computed.1.0

      -- it is an act that leads to where the executor is in the end
      is_act : (s : Scene K V) → IsThere same (by_hasher e.hasher) e s → IsAct same by_hasher e e3 s (StepsMaking i g) (OfMaking said)
      is_act s there =
          let act = ((drive s there).1 g computed).0 in
          record {
            may = act.may;
            to = act.to;
            led = act.led;
            there = lasts s act.to there g act.led act.there;
            wherever = λ n told all led. (let so = act.wherever n told all led in
                (so.0, lasts s n there g (subst (λ (t : Answer K V). Led same by_hasher e.batch_size e.roots slot_of (StepsMaking i g) s t n) so.0 led) so.1));
          }

      -- by the making as it is played
      by_it : (x y : State K V S) → Before x → (it : Making S) → x.now.makers i ≡ Some it → it.map ≡ map → it.machine ≡ opening → y ≡ making_stepped i it e2.memory.changed x (e2.memory.memory, (next_machine, said)) → x.known ≡ noted
          → (y.known ≡ noted2) × Then y
      by_it x y so it here its_map its_machine comes knows =
          let now = made_on i it next_machine said (record x.now { memory = e2.memory.memory }) in
          let z = worked (acting.Making map) e2.memory.changed (making_deed map opening next_machine) (making_outcome said) (OfMaking said) now x in
          let is : y ≡ z = comes ∙ ap (λ (k : ℕ). worked (acting.Making k) e2.memory.changed (making_deed k it.machine next_machine) (making_outcome said) (OfMaking said) now x) its_map
          ∙ ap (λ (v : NewMap). worked (acting.Making map) e2.memory.changed (making_deed map v next_machine) (making_outcome said) (OfMaking said) now x) its_machine in
          let one_it : so.1.it ≡ it = same_some so.1.it it (sym so.1.here ∙ here) in
          let machine : so.1.it.machine ≡ opening = ap (λ (m : Making S). m.machine) one_it ∙ its_machine in
          let mode_was : opening.setting.mode ≡ mode = ap (λ (v : NewMap). v.setting.mode) (sym machine) ∙ so.1.mode_is in
          let places_were : opening.len ≡ places = ap (λ (v : NewMap). v.len) (sym machine) ∙ so.1.places_are in
          let on = works_on log event did 0 outcome calls x so.0 now (made_calls i it next_machine said (record x.now { memory = e2.memory.memory })) (acting.Making map) e2.memory.changed (making_deed map opening next_machine)
          (making_outcome said) (OfMaking said) (making_aside map opening next_machine) (λ n l. making_comes K V n map opening next_machine (λ same_n. absurd (omega (arith, same_n, map_is, l, one))))
          (may opening next_machine mode_was places_were (keeps.0 ∙ mode_was) (keeps.1 ∙ places_were)) noted noted2 did2 knows did_is noted_is y is in
          let takes : is_taken (moment log).made y.history ≡ has_root next_machine.stands = ap (λ (w : State K V S). is_taken (moment log).made w.history) is
          ∙ subst (λ (k : ℕ). is_taken k (record { deed = making_deed map opening next_machine; outcome = making_outcome said; effects = effects_of (acting.Making map) x.known e2.memory.changed; refused = is_refusal e2.memory.changed } ∷ x.history) ≡ has_root next_machine.stands) map_is
          (making_takes K V map opening next_machine (making_outcome said) (effects_of (acting.Making map) x.known e2.memory.changed) (is_refusal e2.memory.changed) x.history
          (ap (λ (k : ℕ). is_taken k x.history) map_is ∙ so.1.taken ∙ ap (λ (v : NewMap). has_root v.stands) machine)) in (
            on.0,
            (
              on.1,
              (
                λ going. record {
                  it = record it { machine = next_machine };
                  here = ap (λ (w : State K V S). w.now.makers i) is ∙ made_then i (moment log).made mode places it next_machine said (record x.now { memory = e2.memory.memory }) going;
                  taken = takes;
                  mode_is = keeps.0 ∙ mode_was;
                  places_are = keeps.1 ∙ places_were;
                },
                λ refused. takes ∙ keeps.2 refused,
              ),
            ),
          )

      next : (value : V) (aborts : ℕ → V) (x y : State K V S) (p : Stage V same by_hasher e.batch_size e.roots slot_of) → IsOfStage by_hasher same e.batch_size e.roots p x.now
          → IsThere same (by_hasher e.hasher) e p.0 → play_act same by_hasher e.batch_size e.roots aborts (StepsMaking i g) x ≡ Some y → x.known ≡ noted → Before x → (y.known ≡ noted2) × Then y
      next value aborts x y p stage there played knows so =
          let act = (drive p.0 there).1 g computed in
          let led : Led same by_hasher e.batch_size e.roots slot_of (StepsMaking i g) p.0 (OfMaking said) act.0.to = act.0.led in
          let its : ◌≡◌ {A = ℕ × NewMap} (led.0.map, led.0.machine) (map, opening) =
          same_some (led.0.map, led.0.machine) (map, opening) (sym (ap (option_map (λ (b : Beginning K). (b.map, b.machine))) led.1) ∙ there.makers i ∙ has) in
          let tied = making_tied same by_hasher e.batch_size e.roots aborts p.0 act.0.to (rows_beside (reclaiming V same by_hasher e.batch_size e.roots slot_of p) p.0.world.row) x y stage.scene i g led.0 led.1
          (led.2, (led.3, led.4)) led.5 (played_as same by_hasher e.batch_size e.roots aborts x y (StepsMaking i g) played) in
          let end : ◌≡◌ {A = Mem (Node K V) × (NewMap × Advance Setting)} (led.2, (led.3, led.4)) (e2.memory.memory, (next_machine, said)) =
          same_some (led.2, (led.3, led.4)) (e2.memory.memory, (next_machine, said))
          (sym led.5 ∙ ap (λ (q : ℕ × NewMap). stepped p.0.world.memory g (new_map.new_map_plan {K = K} {V = V} q.1)) its
          ∙ ap (λ (m : Mem (Node K V)). stepped m g (new_map.new_map_plan {K = K} {V = V} opening)) there.held.memory ∙ computed.1.0) in
          let comes : y ≡ making_stepped i tied.it e2.memory.changed x (e2.memory.memory, (next_machine, said)) =
          tied.comes ∙ ap (λ (k : Changed). making_stepped i tied.it k x (led.2, (led.3, led.4))) act.1
          ∙ ap (λ (q : Mem (Node K V) × (NewMap × Advance Setting)). making_stepped i tied.it e2.memory.changed x q) end in
          by_it x y so tied.it tied.here (ap (λ (q : ℕ × ((K → ℕ) × NewMap)). q.0) tied.its ∙ ap (λ (q : ℕ × NewMap). q.0) its)
          (ap (λ (q : ℕ × ((K → ℕ) × NewMap)). q.1.1) tied.its ∙ ap (λ (q : ℕ × NewMap). q.1) its) comes knows

    -- So the list goes on by it.
    pub making_steps : Course V same by_hasher e.batch_size e.roots slot_of → At (λ x. Before x) e noted → At (λ x. Then x) e3 noted2
    making_steps any before =
        let to = before.leads any in
        let c = (drive to.0.0.0 to.3).0 in
        one_act same by_hasher shards e e3 given3 any noted noted2 (λ x. Before x) (λ x. Then x) (StepsMaking i c.0) (OfMaking said) (tt, tt) (is_act c.0 c.1) (λ x so. tt) (λ value. value)
        (λ value aborts x y p stage there its played knows so. next c.0 c.1 value aborts x y p stage there played knows so) before

-- An event whose making was refused once it had begun keeps its promises, and a run goes on with it: it just asks for blocks, so the moment stays as it is, without the map.
use Rattle.std.specs.Prelude.{◌≡◌, ◌≤◌, ◌⊎◌, ◌^◌, ◌++◌, ℕ, zero, suc, max, Bool, true, false, List, [], ◌∷◌, length, Option, Some, None, option_map}
use Rattle.std.specs.List.{list_all}
use Rattle.std.proofs.Common.{refl, sym, ap, subst, inr, ◌∙◌, arith}
use Rattle.std.proofs.lemmas.List.Folds.{list_all-append}
use Rattle.play_stepping.specs.Given.SeizeDeclared.advance.Advance.{Advance}
use Rattle.play_stepping.specs.Given.SeizeDeclared.advance.Advance.TheVariants as progress
use Rattle.play_stepping.specs.Given.SeizeWorld.{SlotsTaken}
use Rattle.play_lists.specs.Given.TablesDeclared.resize_mode.ResizeMode.{ResizeMode}
use Rattle.play_lists.specs.Given.TablesDeclared.setting.Setting.{Setting}
use Rattle.play_stepping.proofs.Given.CallersTogether.At.{at_same}
use Rattle.play_stepping.specs.Given.ExecutorDeclared.executor.Executor.{Executor}
use Rattle.play_lists.specs.Given.FinishesMakings.{Beginning}
use Rattle.play_lists.specs.Given.FinishesMaps.{Standing}
use Rattle.play_lists.specs.Given.OthersMakings.{WasNew}
use Rattle.run_schedules.specs.Given.SeizeWordsDeclared.fault.Fault.{Fault}
use Rattle.run_schedules.specs.Given.SeizeWordsDeclared.fault.Fault.TheVariants.{Memory}
use Rattle.run_schedules.specs.declared.effect.Effect.{Effect}
use Rattle.run_schedules.specs.declared.event.Event.TheVariants.{MakeMap}
use Rattle.run_schedules.specs.declared.outcome.Outcome.TheVariants.{Refused}
use Rattle.run_schedules.specs.Schedules.After.{moment}
use Rattle.run_schedules.specs.Schedules.Entry.{Entry, is_busy}
use Rattle.run_schedules.specs.Schedules.InTurn.{HasRightOutcome, is_growth}
use Rattle.run_schedules.specs.Schedules.Moment.{MapThere, Moment}
use Rattle.run_schedules.specs.Schedules.Terms.{Terms}
use Rattle.play_lists.specs.Given.EffectsEffects.{effects_of}
use Rattle.play_lists.specs.Given.EffectsKnown.{Known, known}
use Rattle.play_lists.specs.Given.EffectsDeclared.acting.Acting.TheVariants as acts
use Rattle.play_lists.specs.Given.EffectsDeclared.notes.Notes.{Notes}
use Rattle.run_legal.specs.CallEvents.{IsLegalBut}
use Rattle.run_legal.specs.Carried.{RefinesRun}
use Rattle.run_legal.specs.Chains.{Come}
use Rattle.run_legal.specs.MapEvents.{HasNotMade, InMakingEvent}
use Rattle.run_legal.proofs.Growths.{growths_leave}
use Rattle.run_legal.proofs.Heads.Chains.{makings_taken}
use Rattle.run_legal.proofs.Heads.Rows.{slots_stay}
use Rattle.run_legal.proofs.Maps.{unmade_maps}
use Rattle.run_legal.proofs.Refused.{refused_begins, refused_ends}
use Rattle.play_stepping.specs.Given.ReclaimsLeft.{LeftWithEndings}
use Rattle.play_stepping.specs.Given.LoggedGoes.{Far, GoesFor, MakingGoes, MakingOn, far}
use Rattle.play_stepping.specs.Given.LoggedMakings.{MakingCame, MakingIsBegun, given_back, is_over}
use Rattle.play_stepping.specs.Given.LoggedDeclared.logged.Logged.{Logged}
use Rattle.run_legal.proofs.Given.LoggedGivenBack.{at_given}
use Rattle.run_legal.proofs.Given.LogMakingsRun.{came_on}
use Rattle.play_stepping.specs.Given.SchedulerMapping.{MayMap}
use Rattle.play_stepping.specs.Given.SchedulerPlayed.{IsPlayed}
use Rattle.play_stepping.specs.Given.SchedulerWorks.{MakingHasRun}
use Rattle.play_stepping.specs.Given.SchedulerDeclared.played.Played.{Played}
use Rattle.play_stepping.specs.Given.SchedulerDeclared.scheduler.Scheduler.{Scheduler}
use Rattle.play_stepping.proofs.Given.SchedulerRights.{entry}
use Rattle.play_stepping.proofs.Mapping.MapsMade.{refused_never}
use Rattle.run_legal.proofs.Works.Reached.{makings_note_more}
use Rattle.play_events.proofs.Events.Refusals.{IsRefusedSo, MayBeRefused, refused_so}
use Rattle.play_events.specs.Events.Asked.{Holds}
use Rattle.play_events.specs.Events.OfCalls.{HaveShards, Runs, RunsOn}
use Rattle.play_events.proofs.Events.OfMakings.Begun.{begun_as, begun_in, begun_shown, none_begun}
use Rattle.play_events.proofs.Events.OfMakings.Chain.{IsUnder, MakingComes, just_goes, making_comes_on, making_under, none_made, none_new}
use Rattle.play_events.proofs.Events.OfRows.Chain.{come_by}
use Rattle.play_events.proofs.Events.OfRows.Lone.{alone_follows}
use Rattle.play_events.proofs.Events.OfRows.Over.{over_runs}
use Rattle.play_stepping.specs.Given.ExecutorIsThere.{IsThere, held_by}
use Rattle.play_lists.specs.Given.ScenesScene.{Scene}
use Rattle.play_lists.proofs.Given.ShedsHeld.{making_held}
use Rattle.play_lists.specs.Given.ScenesMaking.{MakingLeads}
use Rattle.play_stepping.proofs.Given.General.{both_true as and_both}

-- where all that was asked for were growths, so were those before, and those that follow
asked_before : (xs ys zs : List Effect) → zs ≡ xs ++ ys → list_all is_growth zs ≡ true → (list_all is_growth xs ≡ true) × (list_all is_growth ys ≡ true)
asked_before xs ys zs is all = and_both (list_all is_growth xs) (list_all is_growth ys) (sym (list_all-append is_growth xs ys) ∙ ap (list_all is_growth) (sym is) ∙ all)

-- Its steps, at the moment itself.
module _ {K V S : Type 0} (same : K → K → Bool) (hash : K → ℕ) (terms : Terms) (name : ℕ → List ℕ) (log : List (Entry K V)) (own : List ℕ) (mode : ResizeMode) (capacity i : ℕ) (b : Beginning K)
    (stood : ℕ → Option (Standing K)) where
  abbrev Comes : ℕ → Come K V → Far K V S → Type 0
  Comes n x f = MakingComes same hash terms name log own mode capacity i b (moment log) n x f

  -- it is on its way, and may be refused for want of memory alone if it has done anything
  abbrev Midway : ℕ → Come K V → Far K V S → Type 0
  Midway n x f =
      (y : MakingComes same hash terms name log own mode capacity i b (moment log) n x f) × (z : IsUnder i b stood y.scene) × (y.now ≡ moment log) × MayBeRefused f.effects z.0.stands

  module _ (n : ℕ) (x : Come K V) (mid to : Far K V S) (z : Midway n x mid) (step : MakingGoes i b.map mid to) (was_new : WasNew b.map step.said z.0.now) (none : HasNotMade step.said)
      (asks : list_all is_growth to.effects ≡ true) where
    abbrev did : List Effect
    did = effects_of (acts.Making b.map) (known mid.logged.notes) to.logged.executor.memory.changed

    did_ask : list_all is_growth did ≡ true
    did_ask = (asked_before mid.effects did to.effects step.is_noted.did asks).1

    abbrev refused_on : Comes (suc n) x to
    refused_on = making_comes_on same hash terms name log own mode capacity i b (moment log) n x mid to z.0 stood z.1 step was_new (inr (none, did_ask))

    still_there : refused_on.now ≡ moment log
    still_there = growths_leave (Some b.map) did z.0.now did_ask ∙ z.2

  module _ (few : max b.places 8 ≤ 2 ^ 48) (n : ℕ) (x : Come K V) (mid to : Far K V S) (z : Midway n x mid) (step : MakingGoes i b.map mid to) where
    abbrev d : Beginning K
    d = record b { machine = z.1.0 }

    abbrev goes : MakingLeads same (λ map. hash) i step.said z.0.scene (held_by mid.logged.executor) (held_by to.logged.executor)
    goes = making_held same hash z.0.scene mid.logged.executor to.logged.executor i step.said (step.leads same hash z.0.scene z.0.is_at)

    -- by what a step of it told
    refused_by : IsRefusedSo to.effects ((goes d z.1.1).0, step.said)
    refused_by =
        subst (λ (fs : List Effect). IsRefusedSo fs ((goes d z.1.1).0, step.said)) (sym step.is_noted.did)
        (refused_so b.map (known mid.logged.notes) mid.effects mid.logged.executor.memory.memory to.logged.executor.memory.memory to.logged.executor.memory.changed z.1.0
        (subst (λ (k : ℕ). max k 8 ≤ 2 ^ 48) (sym (z.0.is_at.held.together.makings.facts i d z.1.1).len_is) few) z.3 ((goes d z.1.1).0, step.said) (goes d z.1.1).1)

    may_still : is_over step.said ≡ false → MayBeRefused to.effects (goes d z.1.1).0.stands
    may_still more =
        subst (λ (said : Advance Setting). IsRefusedSo to.effects ((goes d z.1.1).0, said))
        (just_goes same (λ map. hash) z.0.scene (held_by mid.logged.executor) (held_by to.logged.executor) i d z.1.1 step.said goes more) refused_by

  refused_come : max b.places 8 ≤ 2 ^ 48 → (n : ℕ) (x : Come K V) (from to : Far K V S) → GoesFor (MakingOn i b.map) n from to → list_all is_growth to.effects ≡ true → Midway 0 x from → Midway n x to
  refused_come few zero x from to is asks at = subst (Midway 0 x) is at
  refused_come few (suc n) x from to (mid, went, on) asks at =
      let before = effects_of (acts.Making b.map) (known mid.logged.notes) to.logged.executor.memory.changed in
      let z = refused_come few n x from mid went (asked_before mid.effects before to.effects on.0.is_noted.did asks).0 at in
      let was = none_new b.map on.0.said z.0.now on.1 in
      let none = none_made on.0.said on.1 in (
        refused_on n x mid to z on.0 was none asks,
        making_under same hash terms name log own mode capacity i b (moment log) n x mid to z.0 stood z.1 on.0 on.1,
        still_there n x mid to z on.0 was none asks,
        may_still few n x mid to z on.0 on.1,
      )

module _ {K V S : Type 0} (same : K → K → Bool) (hash : K → ℕ) (terms : Terms) (log : List (Entry K V)) (own : List ℕ) (mode : ResizeMode) (capacity : ℕ) (played : Played V) (old new : Scheduler K V S)
    (holds : Holds same hash terms (moment log) old) (run : Runs same hash terms log old) (turn : (moment log).is_closed ≡ false) (calls : new.calls ≡ old.calls) (fault : Fault)
    (d : MakingHasRun played old new own mode capacity (progress.Refused fault)) where
  abbrev m : Moment K V
  m = moment log

  abbrev name : ℕ → List ℕ
  name = run.stands.name

  abbrev s : Scene K V
  s = run.stands.scene

  abbrev i : ℕ
  i = d.caller

  abbrev effects : List Effect
  effects = played.effects.items

  abbrev e : Entry K V
  e = entry (MakeMap own mode capacity) (Refused fault) played.steps effects

  abbrev b : Beginning K
  b = begun_as run holds d

  abbrev s1 : Scene K V
  s1 = begun_in run holds d

  at1 : IsThere same hash d.began.executor s1
  at1 = (begun_shown run holds d).is_at

  begins : MakingIsBegun same hash name m s d.given d.places i old.logged d.began
  begins = d.begins same hash name m s run.stands.shown

  -- it just asked for blocks, and was not refused as busy
  asks : list_all is_growth effects ≡ true
  asks =
      ap (list_all is_growth) d.ran.1
      ∙ (((d.ran.3 same hash name m s1 (begun_shown run holds d) b (at_same s.makers i (Some b) i refl) refl None).1 tt run.stands.shown.counted.numbered.numbers).3 tt).1

  abbrev may : MayMap same hash terms log (MakeMap own mode capacity) old
  may = record { due = record { played = run.stands; in_turn = turn }; lawful = holds.lawful; counts = holds.counts }

  never : is_busy {V = V} (Refused fault) ≡ false
  never =
      refused_never same hash terms log old own mode capacity may d.faultless d.free d.some d.places d.first d.given d.is_given i d.began begins (length old.logged.executor.maps.items) refl fault new.logged []
      effects refl d.ran d.finds

  -- any map of the next number, of which nothing is there yet
  abbrev there : MapThere
  there = record { name = own; number = m.made; root = 0; mode = mode; capacity = capacity; first = 0 }

  midst : InMakingEvent same name terms log (MakeMap own mode capacity) b.map m [] m (known d.began.notes) s1
  midst =
      subst (λ (k : Known). InMakingEvent same name terms log (MakeMap own mode capacity) b.map m [] m k s1) (sym (ap known d.noted))
      (refused_begins K V same (λ map. hash) name terms log (known old.logged.notes) s (held_by old.logged.executor) (held_by d.began.executor) run.stands.shown.is_at.held run.shows own mode capacity there refl i b (none_begun run holds d)
      holds.counts.next (λ made. absurd made) (alone_follows same hash terms log old run (MakeMap own mode capacity) refl) at1.held)

  abbrev x : Come K V
  x = come_by (far [] d.began) m s1

  first : Midway same hash terms name log own mode capacity i b s.maps 0 x (far [] d.began)
  first = (
    record {
      now = m;
      scene = s1;
      chain = refl;
      is_at = at1;
      size = d.stays.1 ∙ run.size;
      midst = midst;
      calls = refl;
      counted = (begun_shown run holds d).counted;
      firsts = refl;
    },
    (b.machine, at_same s.makers i (Some b) i refl, refl),
    refl,
    refl,
  )

  abbrev prev : Far K V S
  prev = d.gone.0

  abbrev mid : Logged K V S
  mid = d.gone.2

  abbrev last : MakingGoes i b.map prev (far effects mid)
  last = d.gone.3

  abbrev last_did : List Effect
  last_did = effects_of (acts.Making b.map) (known prev.logged.notes) mid.executor.memory.changed

  z : Midway same hash terms name log own mode capacity i b s.maps d.gone.1.0 x prev
  z = refused_come same hash terms name log own mode capacity i b s.maps d.first.1.most d.gone.1.0 x (far [] d.began) prev d.gone.1.1 (asked_before prev.effects last_did effects last.is_noted.did asks).0 first

  -- its last step
  none : HasNotMade last.said
  none = subst HasNotMade (sym d.gone.4) tt

  was : WasNew b.map last.said z.0.now
  was = subst (λ (t : Advance Setting). WasNew b.map t z.0.now) (sym d.gone.4) tt

  abbrev y : MakingComes same hash terms name log own mode capacity i b m (suc d.gone.1.0) x (far effects mid)
  y = refused_on same hash terms name log own mode capacity i b s.maps d.gone.1.0 x prev (far effects mid) z last was none asks

  still : y.now ≡ m
  still = still_there same hash terms name log own mode capacity i b s.maps d.gone.1.0 x prev (far effects mid) z last was none asks

  abbrev its : Beginning K
  its = record b { machine = z.1.0 }

  -- the executor has the settings that it had before the making
  abbrev here : MakingCame z.0.scene z.0.scene i its progress.Goes
  here = record { maker = (z.1.0, z.1.1); makers = λ j ne. refl; maps = refl; calls = refl; enders = refl; rows = refl; uses = refl }

  came : MakingCame z.0.scene y.scene i its last.said
  came =
      came_on z.0.scene i its z.0.scene here same (λ map. hash) (held_by prev.logged.executor) (held_by mid.executor) last.said
      (making_held same hash z.0.scene prev.logged.executor mid.executor i last.said (last.leads same hash z.0.scene z.0.is_at))

  at_end : IsThere same hash new.logged.executor y.scene
  at_end =
      at_given same hash b.map i z.0.scene y.scene prev.logged.executor z.0.is_at its z.1.1 refl mid.executor new.logged.executor d.gone.6 y.is_at last.said came
      (d.gone.7 ∙ ap (λ (t : Advance Setting). given_back b.map t mid.executor.maps.items) (sym d.gone.4))

  maps_are : y.scene.maps ≡ s.maps
  maps_are =
      unmade_maps same (λ map. hash) z.0.scene (held_by prev.logged.executor) (held_by mid.executor) z.0.is_at.held i its z.1.1 last.said
      (making_held same hash z.0.scene prev.logged.executor mid.executor i last.said (last.leads same hash z.0.scene z.0.is_at)) none ∙ z.1.2

  shards : HaveShards terms new.logged.executor
  shards n setting is =
      run.shards n setting
      (sym (run.stands.shown.is_at.maps n) ∙ sym (ap (λ (f : ℕ → Option (Standing K)). option_map (λ (st : Standing K). st.setting) (f n)) maps_are) ∙ at_end.maps n ∙ is)

  left_behind : LeftWithEndings new.logged.executor.roots y.scene.world y.scene.maps y.scene.makers y.scene.enders y.counted.remains.lists
  left_behind =
      subst (λ (r : ℕ). LeftWithEndings r y.scene.world y.scene.maps y.scene.makers y.scene.enders y.counted.remains.lists) (sym (ap (λ (c : Executor K V S). c.roots) d.gone.6)) y.counted.remains.left

  taken : SlotsTaken y.scene.world.memory (moment (e ∷ log)).slots
  taken =
      slots_stay s1.world.memory y.scene.world.memory m.slots (makings_taken same (λ map. hash) terms i b.map (suc d.gone.1.0) x (come_by (far effects mid) y.now y.scene) y.chain) run.taken

  -- no bucket of slots is forgotten
  grows : (known old.logged.notes).buckets ≤ (known new.logged.notes).buckets
  grows =
      subst (λ (n : Notes). (known old.logged.notes).buckets ≤ (known n).buckets) (sym d.gone.5)
      (makings_note_more same (λ map. hash) terms (known old.logged.notes) i b.map (suc d.gone.1.0) x (come_by (far effects mid) y.now y.scene) y.chain
      (subst (λ (k : Known). (known old.logged.notes).buckets ≤ k.buckets) (sym (ap known d.noted)) (omega arith)))

  -- it did nothing, unless it was refused memory
  or_nothing : (fault ≡ Memory) ⊎ (effects ≡ [])
  or_nothing =
      subst (λ (said : Advance Setting). IsRefusedSo effects ((last.leads same hash z.0.scene z.0.is_at its z.1.1).0, said)) d.gone.4
      (refused_by same hash terms name log own mode capacity i b s.maps d.first.1.most d.gone.1.0 x prev (far effects mid) z last)

  ends : HasRightOutcome terms log e → IsLegalBut same terms log e × RefinesRun same name terms (e ∷ log) (known mid.notes) y.scene
  ends right =
      refused_ends K V same name terms log (known old.logged.notes) (known mid.notes) s y.scene own mode capacity fault played.steps b.map effects
      (subst (λ (v : Moment K V). InMakingEvent same name terms log (MakeMap own mode capacity) b.map m effects v (known mid.notes) y.scene) still y.midst) asks or_nothing y.firsts never run.shows right

  pub refused_runs : IsPlayed same hash terms (e ∷ log) new → HasRightOutcome terms log e → RunsOn same hash terms log e new
  refused_runs so right =
      over_runs same hash terms log e old new run refl y.scene at_end y.counted.remains.lists left_behind calls y.calls so right (ends right).0
      (subst (λ (n : Notes). RefinesRun same name terms (e ∷ log) (known n) y.scene) (sym d.gone.5) (ends right).1) taken (ap (λ (c : Executor K V S). c.batch_size) d.gone.6 ∙ y.size) shards grows

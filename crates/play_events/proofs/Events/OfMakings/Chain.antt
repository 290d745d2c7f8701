-- The steps of an event that makes a map: it is in the midst of its work after each of them, and has found what it must.
use Rattle.std.specs.Prelude.{◌≡◌, ◌≢◌, ◌⊎◌, ◌==◌, ◌&&◌, ◌<◌, ◌++◌, ℕ, zero, suc, Bool, true, false, List, [], ◌∷◌, find, Option, Some, None}
use Rattle.std.specs.List.{list_all}
use Rattle.std.proofs.Common.{refl, sym, ap, subst, inl, inr, ◌∙◌}
use Rattle.std.proofs.lemmas.Bool.{cases_eq}
use Rattle.std.proofs.lemmas.List.Folds.{list_all-append}
use Rattle.play_stepping.specs.Given.SeizeDeclared.advance.Advance.{Advance}
use Rattle.play_stepping.specs.Given.SeizeDeclared.advance.Advance.TheVariants as progress
use Rattle.play_stepping.specs.Given.SeizeWorld.{with_at}
use Rattle.play_stepping.specs.Given.ResizeDeclared.new_map.NewMap.{NewMap}
use Rattle.play_lists.specs.Given.TablesDeclared.resize_mode.ResizeMode.{ResizeMode}
use Rattle.play_lists.specs.Given.TablesDeclared.setting.Setting.{Setting}
use Rattle.play_stepping.proofs.Given.CallersTogether.At.{at_other, at_same}
use Rattle.run_schedules.specs.Runs.Runs.{map_fault}
use Rattle.run_schedules.specs.declared.effect.Effect.{Effect}
use Rattle.run_schedules.specs.declared.effect.Effect.TheVariants.{Asked, Linked, TableMade}
use Rattle.run_schedules.specs.declared.effect.Growth.TheVariants.{ABlock}
use Rattle.run_schedules.specs.declared.event.Event.TheVariants.{MakeMap}
use Rattle.run_schedules.specs.Schedules.Effects.{AtEachEffect, maps_by, with_effect, with_effects}
use Rattle.run_schedules.specs.Schedules.Entry.{Entry}
use Rattle.run_schedules.specs.Schedules.Handing.{is_first_making}
use Rattle.run_schedules.specs.Schedules.Lives.{EventFinds}
use Rattle.run_schedules.specs.Schedules.Moment.{MapThere, Moment}
use Rattle.run_schedules.specs.Schedules.Terms.{Terms}
use Rattle.run_schedules.specs.Schedules.Views.{map_at}
use Rattle.play_lists.specs.Given.EffectsEffects.{effects_of, known_after}
use Rattle.play_lists.specs.Given.EffectsKnown.{Known, known}
use Rattle.play_lists.specs.Given.EffectsDeclared.acting.Acting.TheVariants as acts
use Rattle.play_lists.specs.Given.FinishesMakings.{Beginning, IsMade}
use Rattle.play_lists.specs.Given.FinishesMaps.{Standing}
use Rattle.play_lists.specs.Given.FollowsShows.{Refines}
use Rattle.play_lists.specs.Given.OthersMakings.{IsNew, WasNew, making_after}
use Rattle.play_lists.proofs.Given.OthersMakingGoes.{new_maps_stay}
use Rattle.play_lists.specs.Given.FindsLinking.{IsMadeFor}
use Rattle.play_lists.proofs.Given.FindsCapacities.{effects_keep_capacities}
use Rattle.run_legal.specs.Chains.{Chain, Come, MakingSteps}
use Rattle.run_legal.specs.MapEvents.{FindsItsMap, HasNotMade, InMakingEvent}
use Rattle.run_legal.proofs.Chains.{makings_chain}
use Rattle.run_legal.proofs.Maps.{unmade_maps}
use Rattle.run_legal.proofs.Given.GrowsFinding.Alike.{made_still}
use Rattle.run_legal.proofs.Slots.{each_join}
use Rattle.play_stepping.specs.Given.NeedsFirsts.{AllMakingsOpen}
use Rattle.play_stepping.specs.Given.NeedsMakings.{CountsTables, table_left}
use Rattle.play_stepping.proofs.Given.NeedsFirsts.{makings_go_on}
use Rattle.play_lists.proofs.Given.RemainsNumbered.{made_stays}
use Rattle.play_stepping.specs.Given.LoggedGoes.{Far, GoesFor, MakingGoes, MakingOn}
use Rattle.play_stepping.specs.Given.LoggedMakings.{is_over}
use Rattle.play_stepping.specs.Given.LoggedShown.{IsCounted}
use Rattle.play_stepping.proofs.Given.LoggedCounted.{counted_making_steps}
use Rattle.play_lists.proofs.Given.ShedsLeftNoted.{makings_note_left}
use Rattle.run_legal.proofs.Given.LogMakingSteps.{is_there}
use Rattle.play_lists.proofs.Given.ShedsHeld.{making_held, maps_below}
use Rattle.play_stepping.specs.Given.NamedPlaces.{first_places}
use Rattle.play_stepping.proofs.Given.NeedsMakings.{makings_do_theirs, makings_find_theirs}
use Rattle.play_stepping.proofs.Given.NeedsTablesMade.{makings_count_tables}
use Rattle.play_events.proofs.Events.OfRows.Chain.{come_as, come_by}
use Rattle.play_stepping.specs.Given.ExecutorIsThere.{IsThere, held_by}
use Rattle.play_stepping.specs.Given.ExecutorMaking.{MakesThere}
use Rattle.play_lists.specs.Given.ScenesScene.{Scene, slot_of}
use Rattle.play_lists.specs.Given.ScenesHeld.{Held, IsAt}
use Rattle.play_lists.specs.Given.ScenesMaking.{MakingLeads}
use Rattle.play_stepping.proofs.Given.General.{both_true as and_both}

-- By what a step of a making told: it goes on as another machine, of the same map.
module _ {K V : Type 0} (same : K → K → Bool) (hash : ℕ → K → ℕ) (s : Scene K V) (old new : Held K V) (i : ℕ) (b : Beginning K) (here : s.makers i ≡ Some b) where
  abbrev Leads : Advance Setting → Type 0
  Leads said = MakingLeads same hash i said s old new

  abbrev next_scene : (said : Advance Setting) → Leads said → Scene K V
  next_scene said leads = making_after same hash s old new i b (leads b here).0 (leads b here).2.step.w2 said (leads b here).3

  -- until the last step the making is under way, and the map is as new
  pub making_on : (said : Advance Setting) (leads : Leads said) → is_over said ≡ false → (next_scene said leads).makers i ≡ Some (record b { machine = (leads b here).0 })
  making_on progress.Goes leads more = at_same s.makers i (Some (record b { machine = (leads b here).0 })) i refl
  making_on progress.Waits leads more = absurd (leads b here).3
  making_on (progress.Done setting) leads more = absurd (cc more)
  making_on (progress.Refused fault) leads more = absurd (cc more)

  pub just_goes : (said : Advance Setting) → Leads said → is_over said ≡ false → said ≡ progress.Goes
  just_goes progress.Goes leads more = refl
  just_goes progress.Waits leads more = absurd (leads b here).3
  just_goes (progress.Done setting) leads more = absurd (cc more)
  just_goes (progress.Refused fault) leads more = absurd (cc more)

  pub calls_still : (said : Advance Setting) (leads : Leads said) → (next_scene said leads).calls ≡ s.calls
  calls_still progress.Goes leads = refl
  calls_still progress.Waits leads = absurd (leads b here).3
  calls_still (progress.Done setting) leads = refl
  calls_still (progress.Refused fault) leads = refl

  new_still : (name : ℕ → List ℕ) (m : Moment K V) (k : Known) → IsAt same hash old s → Refines same name m k s → (of : Option ℕ) (setting : Setting) (said : Advance Setting) → Leads said → is_over said ≡ false
      → IsNew b.map setting m → IsNew b.map setting (with_effects None of (effects_of (acts.Making b.map) k new.changed) m)
  new_still name m k at shows of setting progress.Goes leads more is_new = new_maps_stay K V same hash name m k s old new at shows i leads b here of setting is_new
  new_still name m k at shows of setting progress.Waits leads more is_new = absurd (leads b here).3
  new_still name m k at shows of setting (progress.Done answer) leads more is_new = absurd (cc more)
  new_still name m k at shows of setting (progress.Refused fault) leads more is_new = absurd (cc more)

  -- maps that stand then: those that stood, and that which was made, as it was to be
  made_maps : (said : Advance Setting) (leads : Leads said) (setting : Setting) → said ≡ progress.Done setting → (n : ℕ)
      → ((n ≢ b.map) × ((next_scene said leads).maps n ≡ s.maps n)) ⊎ ((standing : Standing K) × ((next_scene said leads).maps n ≡ Some standing) × (standing.setting.mask ≡ b.given.mask))
  made_maps progress.Goes leads setting is n = absurd (cc is)
  made_maps progress.Waits leads setting is n = absurd (leads b here).3
  made_maps (progress.Refused fault) leads setting is n = absurd (cc is)
  made_maps (progress.Done answer) leads setting is n = by (cases_eq n b.map)
    where
      c : (standing : Standing K) × IsMade V same same old.batch_size old.roots slot_of b answer standing
          × IsAt same hash new (record s { world = (leads b here).2.step.w2; maps = with_at s.maps b.map (Some standing); makers = with_at s.makers i None })
      c = (leads b here).3

      by : (n ≡ b.map) ⊎ (n ≢ b.map) → ((n ≢ b.map) × ((next_scene (progress.Done answer) leads).maps n ≡ s.maps n))
          ⊎ ((standing : Standing K) × ((next_scene (progress.Done answer) leads).maps n ≡ Some standing) × (standing.setting.mask ≡ b.given.mask))
      by (inl one) = inr (c.0, at_same s.maps b.map (Some c.0) n one, ap (λ (x : Setting). x.mask) (c.1.setting_is ∙ c.1.answer_is))
      by (inr ne) = inl (ne, at_other s.maps b.map (Some c.0) n ne)

-- effects of a making leave the maps that are there
pub maps_as_before : {K V : Type 0} (of : Option ℕ) (fs : List Effect) (m : Moment K V) → list_all is_first_making fs ≡ true → (with_effects None of fs m).maps ≡ m.maps
maps_as_before of [] m all = refl
maps_as_before of (f ∷ fs) m all =
    let both = and_both (is_first_making f) (list_all is_first_making fs) all in
    maps_as_before of fs (with_effect None of f m) both.1 ∙ by f both.0
  where
    by : (f : Effect) → is_first_making f ≡ true → maps_by f m.maps ≡ m.maps
    by (Asked ABlock) is = refl
    by (TableMade t) is = refl
    by (Linked t shape) is = refl
    by _ is = absurd (cc is)

-- what is told until the last step needs no new map
pub none_new : {K V : Type 0} (map : ℕ) (said : Advance Setting) (m : Moment K V) → is_over said ≡ false → WasNew map said m
none_new map progress.Goes m more = tt
none_new map progress.Waits m more = tt
none_new map (progress.Done setting) m more = absurd (cc more)
none_new map (progress.Refused fault) m more = absurd (cc more)

-- and has made no map
pub none_made : (said : Advance Setting) → is_over said ≡ false → HasNotMade said
none_made progress.Goes more = tt
none_made progress.Waits more = tt
none_made (progress.Done setting) more = absurd (cc more)
none_made (progress.Refused fault) more = absurd (cc more)

-- A making is under way, and maps stand as they stood.
module _ {K V : Type 0} (i : ℕ) (b : Beginning K) (stood : ℕ → Option (Standing K)) where
  abbrev pub IsUnder : Scene K V → Type 0
  IsUnder s = (z : NewMap) × (s.makers i ≡ Some (record b { machine = z })) × (s.maps ≡ stood)

-- The map is there, and is made for its capacity; and what was done since then found what it must.
module _ {K V : Type 0} (b : Beginning K) (began : Moment K V) (there : MapThere) where
  pub record HasFound (effects : List Effect) (m : Moment K V) (s : Scene K V) : Type 0 where
    pub made : m.made ≡ began.made
    pub made_for : IsMadeFor b.map m b.given
    pub found : AtEachEffect (EventFinds (Some b.map) false) None (Some b.map) effects began
    pub openings : AllMakingsOpen s
    pub there_is : map_at b.map m ≡ Some there

module _ {K V S : Type 0} (same : K → K → Bool) (hash : K → ℕ) (terms : Terms) (name : ℕ → List ℕ) (log : List (Entry K V)) (own : List ℕ) (mode : ResizeMode) (capacity i : ℕ) (b : Beginning K) (began : Moment K V) where
  -- So many steps of the making have led to where the run is: the executor is there in the scene, and the event is in its midst; what it did are effects of a making.
  pub record MakingComes (n : ℕ) (x : Come K V) (f : Far K V S) : Type 0 where
    pub now : Moment K V
    pub scene : Scene K V
    pub chain : Chain (MakingSteps same (λ map. hash) terms i b.map) n x (come_by f now scene)
    pub is_at : IsThere same hash f.logged.executor scene
    pub size : f.logged.executor.batch_size ≡ terms.batch_size
    pub midst : InMakingEvent same name terms log (MakeMap own mode capacity) b.map began f.effects now (known f.logged.notes) scene
    pub calls : scene.calls ≡ x.scene.calls
    pub counted : IsCounted now f.logged scene
    pub firsts : list_all is_first_making f.effects ≡ true

  module _ (n : ℕ) (x : Come K V) (mid to : Far K V S) (y : MakingComes n x mid) (stood : ℕ → Option (Standing K)) (it : IsUnder i b stood y.scene) (step : MakingGoes i b.map mid to) where
    abbrev d : Beginning K
    d = record b { machine = it.0 }

    abbrev went : MakesThere same hash i step.said y.scene mid.logged.executor to.logged.executor
    went = step.leads same hash y.scene y.is_at

    abbrev leads : MakingLeads same (λ map. hash) i step.said y.scene (held_by mid.logged.executor) (held_by to.logged.executor)
    leads = making_held same hash y.scene mid.logged.executor to.logged.executor i step.said went

    abbrev step_did : List Effect
    step_did = effects_of (acts.Making b.map) (known mid.logged.notes) to.logged.executor.memory.changed

    abbrev next : Scene K V
    next = next_scene same (λ map. hash) y.scene (held_by mid.logged.executor) (held_by to.logged.executor) i d it.1 step.said leads

    abbrev w : Moment K V
    w = with_effects None (Some b.map) step_did y.now

    -- what the step did are effects of a making
    pub step_firsts : list_all is_first_making step_did ≡ true
    step_firsts =
        makings_do_theirs K V same (λ map. hash) name y.now (known mid.logged.notes) y.scene (held_by mid.logged.executor) (held_by to.logged.executor) y.is_at.held y.midst.0.calls.whole.all.shown i step.said leads d it.1
        (y.midst.0.calls.whole.counters i d it.1)

    abbrev pub making_under : is_over step.said ≡ false → IsUnder i b stood next
    making_under more = (
      (leads d it.1).0,
      making_on same (λ map. hash) y.scene (held_by mid.logged.executor) (held_by to.logged.executor) i d it.1 step.said leads more,
      unmade_maps same (λ map. hash) y.scene (held_by mid.logged.executor) (held_by to.logged.executor) y.is_at.held i d it.1 step.said leads (none_made step.said more) ∙ it.2,
    )

    -- of each map that stands once it was made the count falls into as many shards as before, and of the new one as it was to begin
    pub masks : (setting : Setting) → step.said ≡ progress.Done setting → (k : ℕ)
        → (next.maps k ≡ stood k) ⊎ ((standing : Standing K) × (next.maps k ≡ Some standing) × (standing.setting.mask ≡ b.given.mask))
    masks setting is k = by (made_maps same (λ map. hash) y.scene (held_by mid.logged.executor) (held_by to.logged.executor) i d it.1 step.said leads setting is k)
      where
        by : ((k ≢ b.map) × (next.maps k ≡ y.scene.maps k)) ⊎ ((standing : Standing K) × (next.maps k ≡ Some standing) × (standing.setting.mask ≡ b.given.mask))
            → (next.maps k ≡ stood k) ⊎ ((standing : Standing K) × (next.maps k ≡ Some standing) × (standing.setting.mask ≡ b.given.mask))
        by (inl (ne, same_one)) = inl (same_one ∙ ap (λ (g : ℕ → Option (Standing K)). g k) it.2)
        by (inr made) = inr made

    -- it comes on, if it finds its map there, or just asks for blocks
    module _ (was_new : WasNew b.map step.said y.now) (finds : FindsItsMap b step.said (effects_of (acts.Making b.map) (known mid.logged.notes) to.logged.executor.memory.changed) y.now) where
      pub one : MakingSteps same (λ map. hash) terms i b.map (come_by mid y.now y.scene) (come_by to w next)
      one = record {
        is_at = y.is_at.held;
        size = y.size;
        said = step.said;
        leads = leads;
        making = d;
        here = it.1;
        map_is = refl;
        was_new = was_new;
        finds = finds;
        comes = come_as to.logged.executor w next to.effects (mid.effects ++ step_did) (known to.logged.notes) (known_after (acts.Making b.map) to.logged.executor.memory.changed (known mid.logged.notes))
            step.is_noted.did step.is_noted.noted;
      }

      pub next_midst : InMakingEvent same name terms log (MakeMap own mode capacity) b.map began to.effects w (known to.logged.notes) next
      next_midst = makings_chain K V same (λ map. hash) name terms log (MakeMap own mode capacity) i b.map began 1 (come_by mid y.now y.scene) (come_by to w next) (come_by mid y.now y.scene, refl, one) y.midst

      abbrev pub making_comes_on : MakingComes (suc n) x to
      making_comes_on = record {
        now = w;
        scene = next;
        chain = (come_by mid y.now y.scene, y.chain, one);
        is_at = is_there same hash mid.logged.executor to.logged.executor y.scene i step.said went d it.1;
        size = step.is_noted.given.1 ∙ y.size;
        midst = next_midst;
        calls = calls_still same (λ map. hash) y.scene (held_by mid.logged.executor) (held_by to.logged.executor) i d it.1 step.said leads ∙ y.calls;
        counted = counted_making_steps same (λ map. hash) mid.logged to.logged.executor to.logged.notes step.is_noted.given y.now y.scene y.is_at.held (maps_below same hash mid.logged.executor y.scene y.is_at) y.counted i step.said leads d it.1 (Some b.map) step.is_noted.noted
            (makings_note_left same (λ map. hash) name y.now (known mid.logged.notes) y.scene (held_by mid.logged.executor) (held_by to.logged.executor) y.is_at.held y.midst.0.calls.whole i step.said leads d it.1 (Some b.map) was_new next.world);
        firsts = ap (list_all is_first_making) step.is_noted.did ∙ list_all-append is_first_making mid.effects step_did ∙ ap (λ (q : Bool). q && list_all is_first_making step_did) y.firsts ∙ step_firsts;
      }

  -- The map is there, and is to be made so.
  module _ (there : MapThere) (faultless : map_fault there.mode there.capacity ≡ None) (places_are : b.places ≡ first_places there.capacity) (below : b.map < began.made) where
    module _ (n : ℕ) (x : Come K V) (mid to : Far K V S) (y : MakingComes n x mid) (stood : ℕ → Option (Standing K)) (it : IsUnder i b stood y.scene) (step : MakingGoes i b.map mid to)
        (was_new : WasNew b.map step.said y.now) (setting : Setting) (is_new : IsNew b.map setting y.now) (so : HasFound b began there mid.effects y.now y.scene) where
      abbrev pub comes_on : MakingComes (suc n) x to
      comes_on = making_comes_on n x mid to y stood it step was_new (inl (subst (λ (q : ℕ). b.map < q) (sym so.made) below, so.made_for))

      abbrev did_now : List Effect
      did_now = step_did n x mid to y stood it step

      abbrev its : Beginning K
      its = d n x mid to y stood it step

      abbrev goes : MakingLeads same (λ map. hash) i step.said y.scene (held_by mid.logged.executor) (held_by to.logged.executor)
      goes = leads n x mid to y stood it step

      shown_then : Refines same name comes_on.now (known_after (acts.Making b.map) to.logged.executor.memory.changed (known mid.logged.notes)) comes_on.scene
      shown_then = subst (λ (k : Known). Refines same name comes_on.now k comes_on.scene) step.is_noted.noted comes_on.midst.0.calls.whole.all.shown

      step_found : AtEachEffect (EventFinds (Some b.map) false) None (Some b.map) did_now y.now
      step_found =
          makings_find_theirs K V same (λ map. hash) name y.now (known mid.logged.notes) y.scene (held_by mid.logged.executor) (held_by to.logged.executor) y.is_at.held y.midst.0.calls.whole.all.shown y.midst.0.calls.kept.tables
          so.openings i step.said goes its it.1 (y.midst.0.calls.whole.counters i its it.1) (Some b.map) there so.there_is is_new.no_tables faultless places_are shown_then

      all_found : AtEachEffect (EventFinds (Some b.map) false) None (Some b.map) to.effects began
      all_found =
          subst (λ (fs : List Effect). AtEachEffect (EventFinds (Some b.map) false) None (Some b.map) fs began) (sym step.is_noted.did)
          (each_join (EventFinds (Some b.map) false) None (Some b.map) mid.effects did_now began so.found
          (subst (λ (z : Moment K V). AtEachEffect (EventFinds (Some b.map) false) None (Some b.map) did_now z) y.midst.0.worked step_found))

      pub found_on : HasFound b began there to.effects comes_on.now comes_on.scene
      found_on = record {
        made = made_stays None (Some b.map) did_now y.now ∙ so.made;
        made_for = made_still y.now comes_on.now b.map b.given (effects_keep_capacities K V None (Some b.map) did_now y.now b.map) so.made_for;
        found = all_found;
        openings = makings_go_on K V same (λ map. hash) y.scene (held_by mid.logged.executor) (held_by to.logged.executor) so.openings i step.said goes its it.1;
        there_is = ap (λ (fs : List MapThere). find (λ (f : MapThere). f.number == b.map) fs) (maps_as_before (Some b.map) did_now y.now (step_firsts n x mid to y stood it step)) ∙ so.there_is;
      }

      -- the map has as many tables as were made, but for one that the making has in hand
      pub counts_on : CountsTables b.map mid.effects y.now (table_left it.0 progress.Goes) → CountsTables b.map to.effects comes_on.now (table_left (goes its it.1).0 step.said)
      counts_on counts =
          subst (λ (fs : List Effect). CountsTables b.map fs comes_on.now (table_left (goes its it.1).0 step.said)) (sym step.is_noted.did)
          (makings_count_tables K V same (λ map. hash) name y.now (known mid.logged.notes) y.scene (held_by mid.logged.executor) (held_by to.logged.executor) y.is_at.held y.midst.0.calls.whole.all.shown y.midst.0.calls.kept.tables
          i step.said goes its it.1 (y.midst.0.calls.whole.counters i its it.1) (Some b.map) mid.effects counts shown_then)

      counts_still : is_over step.said ≡ false → CountsTables b.map mid.effects y.now (table_left it.0 progress.Goes) → CountsTables b.map to.effects comes_on.now (table_left (goes its it.1).0 progress.Goes)
      counts_still more counts =
          subst (λ (said : Advance Setting). CountsTables b.map to.effects comes_on.now (table_left (goes its it.1).0 said))
          (just_goes same (λ map. hash) y.scene (held_by mid.logged.executor) (held_by to.logged.executor) i its it.1 step.said goes more) (counts_on counts)

      new_on : is_over step.said ≡ false → IsNew b.map setting comes_on.now
      new_on more =
          new_still same (λ map. hash) y.scene (held_by mid.logged.executor) (held_by to.logged.executor) i its it.1 name y.now (known mid.logged.notes) y.is_at.held y.midst.0.calls.whole.all.shown (Some b.map) setting step.said goes more is_new

    module _ (setting : Setting) (stood : ℕ → Option (Standing K)) where
      -- It is on its way, the map is as new, and its tables are those that were made.
      abbrev pub Midway : ℕ → Come K V → Far K V S → Type 0
      Midway n x f =
          (y : MakingComes n x f) × (z : IsUnder i b stood y.scene) × IsNew b.map setting y.now × HasFound b began there f.effects y.now y.scene
          × CountsTables b.map f.effects y.now (table_left z.0 progress.Goes)

      pub makings_come : (n : ℕ) (x : Come K V) (from to : Far K V S) → GoesFor (MakingOn i b.map) n from to → Midway 0 x from → Midway n x to
      makings_come zero x from to is at = subst (Midway 0 x) is at
      makings_come (suc n) x from to (mid, went, on) at =
          let z = makings_come n x from mid went at in
          let was = none_new b.map on.0.said z.0.now on.1 in (
            comes_on n x mid to z.0 stood z.1 on.0 was setting z.2 z.3,
            making_under n x mid to z.0 stood z.1 on.0 on.1,
            new_on n x mid to z.0 stood z.1 on.0 was setting z.2 z.3 on.1,
            found_on n x mid to z.0 stood z.1 on.0 was setting z.2 z.3,
            counts_still n x mid to z.0 stood z.1 on.0 was setting z.2 z.3 on.1 z.4,
          )

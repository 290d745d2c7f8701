-- An event that ends a map keeps its promises, and a run goes on with it.
use Rattle.std.specs.Prelude.{◌≡◌, ◌≤◌, ◌≢◌, ◌⊎◌, ◌<◌, ◌+◌, ◌-◌, ◌^◌, ◌++◌, ℕ, zero, suc, Bool, true, false, List, [], ◌∷◌, map as each, Option, Some, None, option_map, Result, Ok, Err, IfOk}
use Rattle.std.specs.List.{list_all}
use Rattle.std.proofs.Common.{refl, sym, ap, subst, inl, inr, ◌∙◌, arith}
use Rattle.std.proofs.lemmas.Bool.{cases_eq}
use Rattle.std.proofs.lemmas.List.{append-nil}
use Rattle.play_stepping.specs.Given.SeizeDeclared.rows.settle.Settled.{Settled}
use Rattle.play_stepping.specs.Given.SeizeDeclared.rows.settle.Settled.TheVariants as settled
use Rattle.run_schedules.specs.Runs.Same.{is_same}
use Rattle.play_lists.specs.Given.TablesChunks.{is_incremental}
use Rattle.play_lists.specs.Given.TablesDeclared.node.Node.{Node}
use Rattle.play_stepping.proofs.Given.CallersTogether.At.{at_other, at_same}
use Rattle.play_lists.specs.Given.FinishesEndings.{Finishing, finishing_of}
use Rattle.play_lists.specs.Given.FinishesFactsEnds.{taken_by as taken_of}
use Rattle.play_lists.specs.Given.FinishesMaps.{Standing}
use Rattle.play_lists.specs.Given.FinishesOrders.{pairs_of}
use Rattle.play_stepping.specs.Given.RuleChart.{Chart}
use Rattle.play_stepping.specs.Given.MomentsEndings.{IsOfIts}
use Rattle.play_stepping.specs.Given.MomentsWholeEnds.{all_ended, tables_ended}
use Rattle.play_lists.specs.Given.OthersEndings.{ending_after}
use Rattle.play_lists.specs.Given.RuleInWorld.{IsMapIn}
use Rattle.play_lists.proofs.Given.RuleLaws.{current_is_known}
use Rattle.play_lists.specs.Given.FollowsMaps.{RefinesMap}
use Rattle.run_schedules.specs.declared.effect.Effect.{Effect}
use Rattle.run_schedules.specs.declared.effect.Effect.TheVariants.{Ended}
use Rattle.run_schedules.specs.declared.event.Event.{Event}
use Rattle.run_schedules.specs.declared.event.Event.TheVariants.{EndMap}
use Rattle.run_schedules.specs.declared.outcome.Outcome.TheVariants.{Done, Refused}
use Rattle.run_schedules.specs.Schedules.After.{moment}
use Rattle.run_schedules.specs.Schedules.Effects.{AtEachEffect, with_effects, worked}
use Rattle.run_schedules.specs.Schedules.Entry.{Entry}
use Rattle.run_schedules.specs.Schedules.Handing.{EndsMap, EndsNamed, IsWhole, may_do}
use Rattle.run_schedules.specs.Schedules.InTurn.{HasRightOutcome}
use Rattle.run_schedules.specs.Schedules.Lives.{Finds}
use Rattle.run_schedules.specs.Schedules.Moment.{MapThere, Moment}
use Rattle.run_schedules.specs.Schedules.Terms.{Terms, shards_of}
use Rattle.run_schedules.specs.Schedules.Views.{map_at, map_of, number_of}
use Rattle.play_lists.specs.Given.EffectsEffects.{effects_of, known_after}
use Rattle.play_lists.specs.Given.EffectsKnown.{Known, known}
use Rattle.play_lists.specs.Given.EffectsDeclared.acting.Acting.TheVariants as acts
use Rattle.play_lists.specs.Given.EffectsDeclared.role.Role.TheVariants as role
use Rattle.run_legal.proofs.Heads.Chains.{endings_taken}
use Rattle.run_legal.proofs.Heads.Rows.{slots_stay}
use Rattle.run_legal.specs.CallEvents.{IsLegalBut}
use Rattle.run_legal.specs.Carried.{RefinesRun}
use Rattle.run_legal.specs.Chains.{Chain, Come, EndSteps}
use Rattle.run_legal.specs.MapEvents.{InEndEvent}
use Rattle.run_legal.proofs.Chains.{ends_chain, ends_run_to_their_ends}
use Rattle.run_legal.proofs.MapsOver.{end_events_begin_so}
use Rattle.play_lists.proofs.Given.RemainsNumbered.{made_stays}
use Rattle.play_stepping.specs.Given.LoggedEnds.{EndCame, EndIsBegun, NotedStill, NotesMap, is_done}
use Rattle.play_stepping.specs.Given.Ends.{ended_as}
use Rattle.play_stepping.specs.Given.LoggedGoes.{EndGoes, EndOn, Far, GoesFor, far}
use Rattle.play_stepping.specs.Given.LoggedShown.{IsCounted, IsShown}
use Rattle.play_stepping.specs.Given.ShedsWaits.{ReportsLeft, ReportsWaiting}
use Rattle.play_stepping.proofs.Given.LoggedCounted.{counted_end_steps}
use Rattle.play_lists.proofs.Given.ShedsLeftNoted.{endings_note_left}
use Rattle.run_legal.proofs.Given.LogEndSteps.{end_there}
use Rattle.play_lists.proofs.Given.ShedsHeld.{ending_held}
use Rattle.run_legal.proofs.Given.LogEndTold.{did_end, ends_alone, noted_on}
use Rattle.play_stepping.proofs.Given.RowsLists.{found_has}
use Rattle.play_stepping.specs.Given.SchedulerMapping.{AreApart}
use Rattle.play_stepping.specs.Given.SchedulerPlayed.{IsInTurn, IsPlayed, entry_of}
use Rattle.play_stepping.specs.Given.SchedulerWorks.{HasEndedMap, WorksOnEnd}
use Rattle.play_stepping.specs.Given.SchedulerDeclared.played.Played.{Played}
use Rattle.play_stepping.specs.Given.SchedulerDeclared.scheduler.Scheduler.{Scheduler}
use Rattle.play_stepping.proofs.Mapping.MapsEnded.{here as ending_here, no_call, no_other, shown_mid}
use Rattle.play_stepping.proofs.Mapping.MapLists.{by_recursion}
use Rattle.play_stepping.proofs.Given.SchedulerMaps.{number_is}
use Rattle.play_stepping.proofs.Given.SchedulerRights.{entry, entry_is}
use Rattle.play_events.specs.Events.Asked.{Holds}
use Rattle.play_events.specs.Events.OfCalls.{HaveShards, Runs, RunsOn}
use Rattle.play_events.specs.Events.OfRows.{PreservesRun}
use Rattle.play_stepping.proofs.Given.NeedsEnds.{ends_find_all}
use Rattle.run_legal.proofs.Works.Reached.{ends_note_more}
use Rattle.play_events.proofs.Events.OfRows.Over.{over_runs}
use Rattle.play_events.proofs.Events.OfRows.Chain.{come_as, come_by}
use Rattle.play_events.proofs.Events.OfRows.Lone.{alone_follows}
use Rattle.play_events.proofs.Events.OfRows.Quiet.{refused_still, still_keeps}
use Rattle.play_stepping.proofs.Given.ExecutorFresh.{no_ending_yet}
use Rattle.play_stepping.specs.Given.ExecutorEnding.{EndsThere, NoCallOn}
use Rattle.play_stepping.specs.Given.ExecutorIsThere.{IsThere, held_by}
use Rattle.play_lists.specs.Given.ScenesEnding.{EndingLeads, ending_begun}
use Rattle.play_lists.specs.Given.ScenesScene.{Scene}
use Rattle.play_lists.specs.Given.ScenesHeld.{Held}

-- What an end does it may do: pairs end with their map, and then its tables.
module _ {K V : Type 0} (own : List ℕ) (m : Moment K V) where
  tables_may : (of t more : ℕ) → list_all (may_do (EndMap own) m) (tables_ended of t more) ≡ true
  tables_may of t zero = refl
  tables_may of t (suc more) = tables_may of (suc t) more

  pairs_may : (number : ℕ → ℕ) (ps : List ℕ) (rest : List Effect) → list_all (may_do (EndMap own) m) rest ≡ true → list_all (may_do (EndMap own) m) (each (λ n. Ended (number n)) ps ++ rest) ≡ true
  pairs_may number [] rest so = so
  pairs_may number (n ∷ ps) rest so = pairs_may number ps rest so

  all_may : (incremental : Bool) (of : ℕ) (number : ℕ → ℕ) (c : Chart K) → list_all (may_do (EndMap own) m) (all_ended incremental of number c) ≡ true
  all_may incremental of number c = pairs_may number (pairs_of incremental c) (tables_ended of c.first (c.past - c.first)) (tables_may of c.first (c.past - c.first))

-- By what a step of an end told: which maps stand then, and what goes on.
module _ {K V : Type 0} (same : K → K → Bool) (hash : ℕ → K → ℕ) (s : Scene K V) (old new : Held K V) (i : ℕ) (f : Finishing K V) (here : s.enders i ≡ Some f) where
  abbrev Leads : Settled (Node K V) → Type 0
  Leads said = EndingLeads same hash i said s old new

  abbrev next_scene : (said : Settled (Node K V)) → Leads said → Scene K V
  next_scene said leads = ending_after same hash s new i f (leads f here).0 (leads f here).2.w2 (leads f here).2.deed said (leads f here).3

  maps_stand : (said : Settled (Node K V)) (leads : Leads said) → (next_scene said leads).maps ≡ s.maps
  maps_stand settled.Goes leads = refl
  maps_stand settled.Waits leads = absurd (leads f here).3
  maps_stand (settled.Gave value) leads = refl
  maps_stand settled.Done leads = refl

  calls_stand : (said : Settled (Node K V)) (leads : Leads said) → (next_scene said leads).calls ≡ s.calls
  calls_stand settled.Goes leads = refl
  calls_stand settled.Waits leads = absurd (leads f here).3
  calls_stand (settled.Gave value) leads = refl
  calls_stand settled.Done leads = refl

  -- once it is over it is under way no more,
  ends_over : (said : Settled (Node K V)) (leads : Leads said) → is_done said ≡ true → (next_scene said leads).enders i ≡ None
  ends_over settled.Done leads over = at_same s.enders i None i refl
  ends_over settled.Goes leads over = absurd (cc over)
  ends_over settled.Waits leads over = absurd (cc over)
  ends_over (settled.Gave value) leads over = absurd (cc over)

  -- and until then it is, of the same map
  module _ (map : ℕ) (number : ℕ → ℕ) (first k : Known) (notes : NotesMap map number first f.setting f.chart f.blocks) where
    abbrev GoesOn : Scene K V → Type 0
    GoesOn s2 = (f2 : Finishing K V) × (s2.enders i ≡ Some f2) × NotesMap map number first f2.setting f2.chart f2.blocks × NotedStill first k f2.back

    ends_on : (said : Settled (Node K V)) (leads : Leads said) → is_done said ≡ false → NotedStill first k (f.back ++ taken_of (leads f here).2.deed) → GoesOn (next_scene said leads)
    ends_on settled.Goes leads more still =
        (_, at_same s.enders i _ i refl, notes, subst (NotedStill first k) (ap (λ (l : List ℕ). f.back ++ l) (leads f here).3.0 ∙ append-nil f.back) still)
    ends_on settled.Waits leads more still = absurd (leads f here).3
    ends_on (settled.Gave value) leads more still = (_, at_same s.enders i _ i refl, notes, subst (NotedStill first k) (ap (λ (l : List ℕ). f.back ++ l) (leads f here).3.2) still)
    ends_on settled.Done leads more still = absurd (cc more)

module _ {K V S : Type 0} (same : K → K → Bool) (hash : K → ℕ) (terms : Terms) (name : ℕ → List ℕ) (log : List (Entry K V)) (own : List ℕ) (i map : ℕ) (before : Known) (number : ℕ → ℕ) (first : Known)
    (stood : ℕ → Option (Standing K)) (gone : stood map ≡ None) (below : map < (moment log).made) where
  -- So many steps of the end have led to where the run is: the executor is there in the scene, in which the same maps stand, and the event is in its midst.
  record EndComes (n : ℕ) (x : Come K V) (f : Far K V S) : Type 0 where
    pub now : Moment K V
    pub scene : Scene K V
    pub chain : Chain (EndSteps same (λ map. hash) terms i map) n x (come_by f now scene)
    pub is_at : IsThere same hash f.logged.executor scene
    pub size : f.logged.executor.batch_size ≡ terms.batch_size
    pub midst : InEndEvent same name terms log (EndMap own) map (moment log) before i f.effects now (known f.logged.notes) scene
    pub made : now.made ≡ (moment log).made
    pub maps : scene.maps ≡ stood
    pub calls : scene.calls ≡ x.scene.calls
    pub counted : IsCounted now f.logged scene

  -- and it is under way, of this map
  abbrev IsUnder : Far K V S → Scene K V → Type 0
  IsUnder f s = (d : Finishing K V) × (s.enders i ≡ Some d) × NotesMap map number first d.setting d.chart d.blocks × NotedStill first (known f.logged.notes) d.back

  module _ (n : ℕ) (x : Come K V) (mid to : Far K V S) (y : EndComes n x mid) (it : IsUnder mid y.scene) (step : EndGoes i map mid to) where
    abbrev went : EndsThere same hash i step.said y.scene mid.logged.executor to.logged.executor
    went = step.leads same hash y.scene y.is_at

    abbrev leads : EndingLeads same (λ map. hash) i step.said y.scene (held_by mid.logged.executor) (held_by to.logged.executor)
    leads = ending_held same hash y.scene mid.logged.executor to.logged.executor i step.said went

    abbrev step_did : List Effect
    step_did = effects_of (acts.Ending map) (known mid.logged.notes) to.logged.executor.memory.changed

    no_map : y.scene.maps map ≡ None
    no_map = ap (λ (g : ℕ → Option (Standing K)). g map) y.maps ∙ gone

    abbrev next : Scene K V
    next = next_scene same (λ map. hash) y.scene (held_by mid.logged.executor) (held_by to.logged.executor) i it.0 it.1 step.said leads

    abbrev w : Moment K V
    w = with_effects None (Some map) step_did y.now

    its : AtEachEffect (IsOfIts map) None (Some map) step_did y.now
    its =
        let l = leads it.0 it.1 in
        ends_alone same (λ map. hash) name y.now (known mid.logged.notes) y.scene (held_by mid.logged.executor) (held_by to.logged.executor) y.is_at.held y.midst.0.calls.whole i it.0 it.1 l.0 step.said l.1 l.2 map no_map l.3 number first
        it.2 it.3

    did_its : step_did ≡ ended_as map first (taken_of (leads it.0 it.1).2.deed)
    did_its =
        let l = leads it.0 it.1 in
        did_end same (λ map. hash) name y.now (known mid.logged.notes) y.scene (held_by mid.logged.executor) (held_by to.logged.executor) y.is_at.held y.midst.0.calls.whole i it.0 it.1 l.0 step.said l.1 l.2 map no_map l.3 number first
        it.2 it.3

    one : EndSteps same (λ map. hash) terms i map (come_by mid y.now y.scene) (come_by to w next)
    one = record {
      is_at = y.is_at.held;
      size = y.size;
      said = step.said;
      leads = leads;
      ending = it.0;
      here = it.1;
      gone = no_map;
      below = subst (λ (q : ℕ). map < q) (sym y.made) below;
      its = its;
      comes = come_as to.logged.executor w next to.effects (mid.effects ++ step_did) (known to.logged.notes) (known_after (acts.Ending map) to.logged.executor.memory.changed (known mid.logged.notes))
          step.is_noted.did step.is_noted.noted;
    }

    abbrev end_comes_on : EndComes (suc n) x to
    end_comes_on = record {
      now = w;
      scene = next;
      chain = (come_by mid y.now y.scene, y.chain, one);
      is_at = end_there same hash mid.logged.executor to.logged.executor y.scene i step.said went it.0 it.1;
      size = step.is_noted.given.1 ∙ y.size;
      midst = ends_chain K V same (λ map. hash) name terms log (EndMap own) i map (moment log) before 1 (come_by mid y.now y.scene) (come_by to w next) (come_by mid y.now y.scene, refl, one) y.midst;
      made = made_stays None (Some map) step_did y.now ∙ y.made;
      maps = maps_stand same (λ map. hash) y.scene (held_by mid.logged.executor) (held_by to.logged.executor) i it.0 it.1 step.said leads ∙ y.maps;
      calls = calls_stand same (λ map. hash) y.scene (held_by mid.logged.executor) (held_by to.logged.executor) i it.0 it.1 step.said leads ∙ y.calls;
      counted = counted_end_steps same (λ map. hash) mid.logged to.logged.executor to.logged.notes step.is_noted.given y.now y.scene y.is_at.held y.counted i map step.said leads it.0 it.1 step.is_noted.noted first
          (taken_of (leads it.0 it.1).2.deed) did_its
          (endings_note_left same (λ map. hash) name y.now (known mid.logged.notes) y.scene (held_by mid.logged.executor) (held_by to.logged.executor) y.is_at.held y.midst.0.calls.whole i map step.said leads it.0 it.1 no_map);
    }

    end_under : is_done step.said ≡ false → IsUnder to next
    end_under more =
        let l = leads it.0 it.1 in
        ends_on same (λ map. hash) y.scene (held_by mid.logged.executor) (held_by to.logged.executor) i it.0 it.1 map number first (known to.logged.notes) it.2 step.said leads more
        (subst (λ (k : Known). NotedStill first k (it.0.back ++ taken_of l.2.deed)) (sym step.is_noted.noted)
        (noted_on same (λ map. hash) name y.now (known mid.logged.notes) y.scene (held_by mid.logged.executor) (held_by to.logged.executor) y.is_at.held y.midst.0.calls.whole i it.0 it.1 l.0 step.said l.1 l.2 map no_map l.3 number
        first it.2 it.3))

    end_over : is_done step.said ≡ true → next.enders i ≡ None
    end_over over = ends_over same (λ map. hash) y.scene (held_by mid.logged.executor) (held_by to.logged.executor) i it.0 it.1 step.said leads over

  abbrev Midway : ℕ → Come K V → Far K V S → Type 0
  Midway n x f = (y : EndComes n x f) × IsUnder f y.scene

  ends_come : (n : ℕ) (x : Come K V) (from to : Far K V S) → GoesFor (EndOn i map) n from to → Midway 0 x from → Midway n x to
  ends_come zero x from to is at = subst (Midway 0 x) is at
  ends_come (suc n) x from to (mid, went, on) at =
      let z = ends_come n x from mid went at in
      (end_comes_on n x mid to z.0 z.1 on.0, end_under n x mid to z.0 z.1 on.0 on.1)

module _ {K V S : Type 0} (same : K → K → Bool) (hash : K → ℕ) (terms : Terms) (log : List (Entry K V)) (own : List ℕ) (played : Played V) (old new : Scheduler K V S) (holds : Holds same hash terms (moment log) old)
    (run : Runs same hash terms log old) (turn : (moment log).is_closed ≡ false) (after : IsPlayed same hash terms (entry_of (EndMap own) played ∷ log) new)
    (right_so : HasRightOutcome terms log (entry_of (EndMap own) played)) where
  abbrev m : Moment K V
  m = moment log

  abbrev name : ℕ → List ℕ
  name = run.stands.name

  abbrev s : Scene K V
  s = run.stands.scene

  abbrev due : IsInTurn same hash terms log (EndMap own) old
  due = record { played = run.stands; in_turn = turn }

  small : terms.batch_size < 2 ^ 64
  small = subst (λ (n : ℕ). n < 2 ^ 64) run.size run.stands.shown.is_at.held.small

  abbrev KeepsAs : Entry K V → Type 0
  KeepsAs x = IsPlayed same hash terms (x ∷ log) new → HasRightOutcome terms log x → RunsOn same hash terms log x new

  -- the map has ended
  module _ (calls : new.calls ≡ old.calls) (done : played.outcome ≡ Done) (d : HasEndedMap played old new own) where
    abbrev i : ℕ
    i = d.caller

    abbrev map : ℕ
    map = d.number

    abbrev effects : List Effect
    effects = played.effects.items

    abbrev e : Entry K V
    e = entry (EndMap own) Done played.steps effects

    abbrev begun : EndIsBegun same hash name m s map i old.logged d.began
    begun = d.begins same hash name m s run.stands.shown

    abbrev none_on : NoCallOn old.logged.executor map
    none_on = no_call same hash terms log old own due map d.found d.free

    abbrev standing : Standing K
    standing = (begun none_on).0

    abbrev s1 : Scene K V
    s1 = ending_begun map i standing s

    at1 : IsThere same hash d.began.executor s1
    at1 = (begun none_on).4.is_at

    yet : s.enders i ≡ None
    yet = subst (λ (n : ℕ). s.enders n ≡ None) (sym d.fresh) (no_ending_yet same hash old.logged.executor s run.stands.shown.is_at 0 (omega arith))

    abbrev x : Come K V
    x = come_by (far [] d.began) m s1

    abbrev apart : AreApart m
    apart = holds.counts.apart

    acts_so : number_of own m ≡ Some map
    acts_so = number_is same hash terms m old run.stands own ∙ d.found

    -- its number was given before
    below : map < m.made
    below = by (map_of own m) refl
      where
        by : (o : Option MapThere) → map_of own m ≡ o → map < m.made
        by None is = absurd (let none = ap (option_map (λ (f : MapThere). f.number)) is in let some = acts_so in cc (none, some))
        by (Some f) is =
            let number_is_map : f.number ≡ map = (let some : Some f.number ≡ Some map = sym (ap (option_map (λ (f : MapThere). f.number)) is) ∙ acts_so in cc some) in
            subst (λ (n : ℕ). n < m.made) number_is_map (found_has (λ (f : MapThere). f.number < m.made) (λ (f : MapThere). is_same f.name own) m.maps f is (by_recursion _ m.maps apart.numbers.below))

    abbrev first_noted : Known
    first_noted = known d.began.notes

    begins_so : known d.began.notes ≡ known old.logged.notes
    begins_so = ap known d.noted

    midst : InEndEvent same name terms log (EndMap own) map m (known old.logged.notes) i [] m (known d.began.notes) s1
    midst =
        subst (λ (k : Known). InEndEvent same name terms log (EndMap own) map m (known old.logged.notes) i [] m k s1) (sym begins_so)
        (end_events_begin_so K V same (λ map. hash) name terms log (known old.logged.notes) s (held_by old.logged.executor) (held_by d.began.executor) run.stands.shown.is_at.held run.shows small own map i standing (begun none_on).1 yet at1.held
        (alone_follows same hash terms log old run (EndMap own) refl))

    abbrev number : ℕ → ℕ
    number = (begun none_on).3.0

    abbrev gone : s1.maps map ≡ None
    gone = at_same s.maps map None map refl

    abbrev Comes : ℕ → Far K V S → Type 0
    Comes n f = EndComes same hash terms name log own i map (known old.logged.notes) number first_noted s1.maps gone below n x f

    first : Midway same hash terms name log own i map (known old.logged.notes) number first_noted s1.maps gone below 0 x (far [] d.began)
    first = (
      record { now = m; scene = s1; chain = refl; is_at = at1; size = d.stays.1 ∙ run.size; midst = midst; made = refl; maps = refl; calls = refl; counted = (begun none_on).4.counted },
      (finishing_of standing s.world, at_same s.enders i (Some (finishing_of standing s.world)) i refl, (begun none_on).3.1, λ b none. refl),
    )

    -- and has come to its last step
    prev : Midway same hash terms name log own i map (known old.logged.notes) number first_noted s1.maps gone below d.gone.1.0 x d.gone.0
    prev = ends_come same hash terms name log own i map (known old.logged.notes) number first_noted s1.maps gone below d.gone.1.0 x (far [] d.began) d.gone.0 d.gone.1.1 first

    abbrev y : Comes (suc d.gone.1.0) (far effects new.logged)
    y = end_comes_on same hash terms name log own i map (known old.logged.notes) number first_noted s1.maps gone below d.gone.1.0 x d.gone.0 (far effects new.logged) prev.0 prev.1 d.gone.2

    over : y.scene.enders i ≡ None
    over = end_over same hash terms name log own i map (known old.logged.notes) number first_noted s1.maps gone below d.gone.1.0 x d.gone.0 (far effects new.logged) prev.0 prev.1 d.gone.2 d.gone.3

    chain : Chain (EndSteps same (λ map. hash) terms i map) (suc d.gone.1.0) (record { held = held_by d.began.executor; did = []; now = m; notes = known old.logged.notes; scene = s1 })
        (come_by (far effects new.logged) y.now y.scene)
    chain =
        subst (λ (k : Known). Chain (EndSteps same (λ map. hash) terms i map) (suc d.gone.1.0) (record { held = held_by d.began.executor; did = []; now = m; notes = k; scene = s1 })
        (come_by (far effects new.logged) y.now y.scene)) begins_so y.chain

    -- what all of it did, as the scheduler has it
    -- what waited is told as it ended
    abbrev LeftTells : (t : Scene K V) (gone_blocks : List ℕ) → EndCame s1 t i (finishing_of standing s.world) gone_blocks true → Type 0
    LeftTells t gone_blocks came =
        (began : Moment K V) → ReportsWaiting same map i (finishing_of standing s.world) began m first_noted s1.world → ReportsLeft map standing.chart began (known new.logged.notes) came.ender.2.0

    abbrev u : (t : Scene K V) × (gone_blocks : List ℕ) × (came : EndCame s1 t i (finishing_of standing s.world) gone_blocks true) × (d.ran.0 ≡ ended_as map first_noted gone_blocks)
        × NotedStill first_noted (known new.logged.notes) ([] ++ gone_blocks) × IsShown same hash name (with_effects None (Some map) d.ran.0 m) new.logged t
        × (true ≡ true → ◌≡◌ {A = List ℕ} [] [] → d.ran.0 ≡ all_ended (is_incremental standing.setting.mode) map number standing.chart)
        × LeftTells t gone_blocks came
    u =
        d.ran.3 same hash name m s1 (shown_mid same hash terms log old own due map d.found d.free d.began i begun) (finishing_of standing s.world)
        (ending_here same hash terms log old own due map d.found d.free d.began i begun) gone number first_noted (begun none_on).3.1 (λ b none. refl)

    did_all : effects ≡ d.ran.0
    did_all = d.ran.1

    worked_so : y.now ≡ with_effects None (Some map) d.ran.0 m
    worked_so = y.midst.0.worked ∙ ap (λ (fs : List Effect). with_effects None (Some map) fs m) did_all

    others : (n : ℕ) (st : Standing K) (there : MapThere) → y.scene.maps n ≡ Some st → map_at n y.now ≡ Some there → is_same there.name own ≡ false
    others n st there stands is =
        no_other same hash terms log old own due map d.found d.free d.began i begun new.logged [] effects refl d.ran d.over apart n st there
        (ap (λ (g : ℕ → Option (Standing K)). g n) u.2.maps ∙ sym (ap (λ (g : ℕ → Option (Standing K)). g n) y.maps) ∙ stands)
        (ap (map_at n) (sym worked_so) ∙ is)

    whole : IsWhole (EndMap own) Done effects m (worked e m)
    whole =
        subst (λ (o : Option ℕ). EndsNamed o effects m (with_effects None o effects m)) (sym acts_so)
        (subst (λ (fs : List Effect). EndsMap map fs m (with_effects None (Some map) fs m)) (sym (did_all ∙ u.6 refl refl)) (begun none_on).3.2)

    may_end : list_all (may_do (EndMap own) m) effects ≡ true
    may_end =
        subst (λ (fs : List Effect). list_all (may_do (EndMap own) m) fs ≡ true) (sym (did_all ∙ u.6 refl refl))
        (all_may own m (is_incremental standing.setting.mode) map number standing.chart)

    -- each pair that ends is in the map, and each table is linked
    in_map : IsMapIn same standing.hash standing.setting s.world standing.chart standing.blocks
    in_map = (run.stands.shown.is_at.held.together.makings.standing.each map standing (begun none_on).1).ground.map

    current_known : (n : ℕ) → standing.chart.current n ≡ true → (n < standing.chart.stored) × (standing.blocks.pair_known n ≡ true)
    current_known n current = current_is_known same standing.hash standing.setting s.world.memory standing.chart standing.blocks in_map.map.rule in_map.map.shows n current

    abbrev stood : RefinesMap map (run.shows.calls.whole.all.shown.number map) standing m (known old.logged.notes)
    stood = run.shows.calls.whole.all.shown.maps map standing (begun none_on).1

    same_number : (n : ℕ) → standing.chart.current n ≡ true → number n ≡ run.shows.calls.whole.all.shown.number map n
    same_number n current =
        let k = current_known n current in
        let noted = subst (λ (x : Known). x.roles (standing.blocks.pair n) ≡ role.Pair (number n)) begins_so ((begun none_on).3.1.pairs n current) in
        let both : role.Pair (number n) ≡ role.Pair (run.shows.calls.whole.all.shown.number map n) = sym noted ∙ stood.pairs.roles n k.0 k.1 in
        cc both

    finds : AtEachEffect (Finds terms None (Some map) false []) None (Some map) effects m
    finds =
        subst (λ (fs : List Effect). AtEachEffect (Finds terms None (Some map) false []) None (Some map) fs m) (sym (did_all ∙ u.6 refl refl))
        (ends_find_all K V m (known old.logged.notes) map (run.shows.calls.whole.all.shown.number map) number standing stood (begun none_on).2 (λ n current. (current_known n current).0) same_number)

    it : HasRightOutcome terms log e → IsLegalBut same terms log e × RefinesRun same name terms (e ∷ log) (known new.logged.notes) y.scene
    it right =
        ends_run_to_their_ends K V same (λ map. hash) name terms log (known old.logged.notes) s (held_by old.logged.executor) (held_by d.began.executor) run.stands.shown.is_at.held run.shows small own map i standing (begun none_on).1 yet at1.held
        (alone_follows same hash terms log old run (EndMap own) refl) (suc d.gone.1.0) (come_by (far effects new.logged) y.now y.scene) chain y.is_at.held played.steps effects refl acts_so over others may_end
        finds whole right

    shards : HaveShards terms new.logged.executor
    shards n setting is = by (cases_eq n map)
      where
        now_is : option_map (λ (st : Standing K). st.setting) (s1.maps n) ≡ Some setting
        now_is = ap (λ (g : ℕ → Option (Standing K)). option_map (λ (st : Standing K). st.setting) (g n)) (sym y.maps) ∙ y.is_at.maps n ∙ is

        by : (n ≡ map) ⊎ (n ≢ map) → setting.mask + 1 ≡ shards_of terms
        by (inl one) = absurd (let none = ap (option_map (λ (st : Standing K). st.setting)) (at_same s.maps map None n one) in cc (none, now_is))
        by (inr ne) = run.shards n setting (sym (run.stands.shown.is_at.maps n) ∙ sym (ap (option_map (λ (st : Standing K). st.setting)) (at_other s.maps map None n ne)) ∙ now_is)

    -- no bucket of slots is forgotten
    grows : (known old.logged.notes).buckets ≤ (known new.logged.notes).buckets
    grows =
        ends_note_more same (λ map. hash) terms (known old.logged.notes) i map (suc d.gone.1.0) (record { held = held_by d.began.executor; did = []; now = m; notes = known old.logged.notes; scene = s1 })
        (come_by (far effects new.logged) y.now y.scene) chain (omega arith)

    keeps_done : KeepsAs e
    keeps_done so right =
        over_runs same hash terms log e old new run refl y.scene y.is_at y.counted.remains.lists y.counted.remains.left calls y.calls so right (it right).0 (it right).1
        (slots_stay s1.world.memory y.scene.world.memory m.slots
        (endings_taken same (λ map. hash) terms i map (suc d.gone.1.0) (record { held = held_by d.began.executor; did = []; now = m; notes = known old.logged.notes; scene = s1 }) (come_by (far effects new.logged) y.now y.scene)
        chain) run.taken)
        y.size shards grows

    end_keeps : RunsOn same hash terms log (entry_of (EndMap own) played) new
    end_keeps = subst KeepsAs (sym (entry_is (EndMap own) played Done played.steps effects done refl refl)) keeps_done after right_so

  -- or nothing was done
  map_end_keeps : WorksOnEnd played old new own → RunsOn same hash terms log (entry_of (EndMap own) played) new
  map_end_keeps (calls, inl (fault, is, (none, still))) =
      subst KeepsAs (sym (entry_is (EndMap own) played (Refused fault) played.steps [] is refl none))
      (λ so right. still_keeps same hash terms log old run (entry (EndMap own) (Refused fault) played.steps []) new refl (refused_still log s.world (EndMap own) refl fault played.steps) still calls so right refl)
      after right_so
  map_end_keeps (calls, inr (done, d)) = end_keeps calls done d

-- So it is by what its function says.
module _ {K V S : Type 0} (same : K → K → Bool) (hash : K → ℕ) (event : Event K V) (own : List ℕ) (is : event ≡ EndMap own) (old new : Scheduler K V S) where
  pub ends_keep : {X : Type 0} → (result : Result (Played V) X) → IfOk result (λ played. WorksOnEnd played old new own) → IfOk result (λ played. PreservesRun same hash event played old new)
  ends_keep (Ok played) works =
      subst (λ (x : Event K V). PreservesRun same hash x played old new) (sym is) (λ of terms log holds run turn after right. map_end_keeps same hash terms log own played old new holds run turn after right works)
  ends_keep (Err x) works = tt

-- Events that make a map, or end one, from step to step.
use Rattle.std.specs.Prelude.{◌≡◌, ◌<◌, ℕ, Bool, List, ◌++◌, Option, Some, None}
use Rattle.std.proofs.Common.{refl, ap, sym, subst, ◌∙◌, inl, inr}
use Rattle.std.proofs.lemmas.Bool.{cases_eq}
use Rattle.run_grows.specs.Given.SeizeWorld.{World}
use Rattle.run_grows.specs.Given.SeizeDeclared.advance.Advance.{Advance as Making}
use Rattle.run_grows.specs.Given.SeizeDeclared.advance.Advance.TheVariants as progress
use Rattle.run_grows.specs.Given.SeizeDeclared.rows.settle.Settled.{Settled}
use Rattle.run_grows.specs.Given.SeizeDeclared.rows.settle.Settled.TheVariants as settled
use Rattle.run_grows.specs.Given.TablesDeclared.node.Node.{Node}
use Rattle.run_grows.specs.Given.TablesDeclared.setting.Setting.{Setting}
use Rattle.run_grows.specs.Given.RunsDeclared.effect.Effect.{Effect}
use Rattle.run_grows.specs.Given.SchedulesEffects.{with_effects}
use Rattle.run_grows.specs.Given.SchedulesModel.{sets_in, things_in}
use Rattle.run_grows.specs.Given.SchedulesMoment.{Moment}
use Rattle.run_grows.specs.Given.EffectsDeclared.changed.Changed.{Changed}
use Rattle.run_grows.specs.Given.CallersTogether.{UnderWay}
use Rattle.run_grows.proofs.Given.CallersTogether.At.{at_other}
use Rattle.run_grows.specs.Given.EffectsEffects.{effects_of, known_after, map_of}
use Rattle.run_grows.specs.Given.EffectsKnown.{Known}
use Rattle.run_grows.specs.Given.EffectsDeclared.acting.Acting.{Acting}
use Rattle.run_grows.specs.Given.EffectsDeclared.acting.Acting.TheVariants as acts
use Rattle.run_grows.specs.Given.FinishesEndings.{Finishing}
use Rattle.run_grows.specs.Given.FinishesMakings.{Beginning}
use Rattle.run_grows.specs.Given.FinishesMaps.{Standing}
use Rattle.run_grows.specs.Given.OthersEndings.{ending_after}
use Rattle.run_grows.specs.Given.OthersMakings.{making_after}
use Rattle.run_grows.specs.Given.MomentsWhole.{RefinesWhole}
use Rattle.run_grows.specs.Given.MomentsNumbers.{NumbersMaps, PairsAreBelow}
use Rattle.run_grows.proofs.Given.MomentsAfter.{effects_after}
use Rattle.run_grows.proofs.Given.MomentsNewMaps.{effects_keep_pairs}
use Rattle.run_grows.proofs.Given.MomentsNumbers.{steps_keep_numbers}
use Rattle.run_grows.proofs.Given.MomentsEnds.{endings_keep_whole}
use Rattle.run_grows.proofs.Given.MomentsMakingSteps.{makings_go_beside, makings_keep_whole}
use Rattle.run_grows.proofs.Given.KeptOthers.{endings_find_kept, endings_keep_kept, makings_keep_kept}
use Rattle.run_grows.proofs.Given.ShardsShardMakes.{makings_keep_counters}
use Rattle.run_grows.proofs.Given.ShardsShardOthers.{endings_keep_counters}
use Rattle.run_grows.proofs.Given.HistoriesAside.Stays.{as_called_stays, dues_stay}
use Rattle.run_grows.proofs.Given.HistoriesQuestions.{effects_keep_questions}
use Rattle.run_sweeps.proofs.Purposes.Elsewhere.{purposes_stay}
use Rattle.run_grows.specs.Given.PromisesProtected.{InMidst}
use Rattle.run_grows.specs.Given.PromisesReading.{HasStood}
use Rattle.run_grows.proofs.Given.PromisesBrief.Meanwhile.{other_work_keeps_readings, stands_so}
use Rattle.run_grows.proofs.Given.PromisesProtected.{endings_protect, makings_protect}
use Rattle.run_grows.proofs.Given.PromisesWeights.{grants_add_up, operations_are_single}
use Rattle.run_grows.specs.Given.ModelsEnds.{FollowsInEnd}
use Rattle.run_grows.specs.Given.ModelsMapEvents.{FollowsInMaking}
use Rattle.run_grows.proofs.Given.ModelsEnds.{ends_go_on}
use Rattle.run_grows.proofs.Given.ModelsMapEvents.{making_events_go_on}
use Rattle.run_legal.specs.MapEvents.{EndEventsContinue, FindsItsMap, HasNotMade, MakingEventsContinue}
use Rattle.run_grows.proofs.Given.ShardsShardKept.{none_shards}
use Rattle.run_grows.proofs.Grows.Limits.Shows.{endings_keep_limits, makings_keep_limits}
use Rattle.run_grows.proofs.Grows.Tries.Others.{endings_keep_tries, makings_keep_tries}
use Rattle.run_grows.proofs.Given.SpotsEffects.{AllAside}
use Rattle.run_legal.proofs.Sourced.{making_none, making_sources, so_aside}
use Rattle.run_grows.specs.Grows.Finding.{RefinesFinding}
use Rattle.run_grows.proofs.Grows.Finding.Alike.{stood_as}
use Rattle.run_grows.proofs.Grows.Finding.Aside.{endings_aside, makings_aside, makings_leave_spots}
use Rattle.run_grows.proofs.Grows.Finding.Beside.{finding_beside}
use Rattle.run_grows.proofs.Grows.Finding.Making.Lengths.{effects_keep_lengths}
use Rattle.run_grows.proofs.Grows.Finding.NextsOthers.{endings_keep_nexts, makings_keep_nexts}
use Rattle.run_grows.proofs.Grows.Finding.Others.{endings_keep_finding, makings_keep_finding}
use Rattle.run_grows.proofs.Given.FindsCapacities.{capacities_stay, effects_keep_capacities}
use Rattle.run_grows.proofs.Given.FindsGrows.Steps.{tables_have_been}
use Rattle.run_legal.proofs.Growths.{growths_leave}
use Rattle.run_legal.proofs.Uncounted.{none_counted}
use Rattle.run_grows.specs.Given.ScenesEnding.{EndingLeads}
use Rattle.run_grows.specs.Given.ScenesHeld.{Held, IsAt}
use Rattle.run_grows.specs.Given.ScenesMaking.{MakingLeads}
use Rattle.run_grows.specs.Given.ScenesScene.{Scene}
use Rattle.run_grows.specs.Given.SchedulesTransition.{past}
use Rattle.run_legal.specs.OneStep.{EndsStep, MakingsStep}

-- numbers of maps by what works on one that was made
module _ {K V : Type 0} (m : Moment K V) (numbers : NumbersMaps m × PairsAreBelow m) (map : ℕ) (below : map < m.made) (acting : Acting) (on_map : map_of acting ≡ map) (known : Known) (told : Changed) where
  pub numbers_then : (let v = with_effects None (Some map) (effects_of acting known told) m in NumbersMaps v × PairsAreBelow v)
  numbers_then = (
    steps_keep_numbers K V m numbers.0 None (Some map) acting known told (subst (λ (k : ℕ). k < m.made) (sym on_map) below),
    effects_keep_pairs K V m numbers.1 None (Some map) (effects_of acting known told) (λ n is. let one : map ≡ n = cc is in subst (λ (k : ℕ). k < m.made) one below),
  )

-- A step of a making.

module _ {K V : Type 0} (same : K → K → Bool) (hash : ℕ → K → ℕ) (s : Scene K V) (old new : Held K V) (at : IsAt same hash old s) (i : ℕ) (b : Beginning K) (here : s.makers i ≡ Some b) where
  abbrev led : (said : Making Setting) → MakingLeads same hash i said s old new → Scene K V
  led said leads = making_after same hash s old new i b (leads b here).0 (leads b here).2.step.w2 said (leads b here).3

  made_at : (said : Making Setting) (leads : MakingLeads same hash i said s old new) → IsAt same hash new (led said leads)
  made_at progress.Goes leads = (leads b here).3
  made_at progress.Waits leads = absurd (leads b here).3
  made_at (progress.Done setting) leads = (leads b here).3.2
  made_at (progress.Refused fault) leads = (leads b here).3

  made_world : (said : Making Setting) (leads : MakingLeads same hash i said s old new) → (led said leads).world ≡ (leads b here).2.step.w2
  made_world progress.Goes leads = refl
  made_world progress.Waits leads = absurd (leads b here).3
  made_world (progress.Done setting) leads = refl
  made_world (progress.Refused fault) leads = refl

  made_same : (said : Making Setting) (leads : MakingLeads same hash i said s old new) → (led said leads).calls ≡ s.calls
  made_same progress.Goes leads = refl
  made_same progress.Waits leads = refl
  made_same (progress.Done setting) leads = refl
  made_same (progress.Refused fault) leads = refl

  -- maps stand as they stood, as long as it has not made its own
  pub unmade_maps : (said : Making Setting) (leads : MakingLeads same hash i said s old new) → HasNotMade said → (led said leads).maps ≡ s.maps
  unmade_maps progress.Goes leads none = refl
  unmade_maps progress.Waits leads none = refl
  unmade_maps (progress.Done setting) leads none = absurd none
  unmade_maps (progress.Refused fault) leads none = refl

  made_calls : (said : Making Setting) (leads : MakingLeads same hash i said s old new) (n j : ℕ) (x : UnderWay K V K) → (led said leads).calls n j ≡ Some x → s.calls n j ≡ Some x
  made_calls said leads n j x is = subst (λ (calls : ℕ → ℕ → Option (UnderWay K V K)). calls n j ≡ Some x) (made_same said leads) is

  -- each map that has calls stood: the new one has none
  made_stood : (said : Making Setting) (leads : MakingLeads same hash i said s old new) (n j : ℕ) (x : UnderWay K V K) → (led said leads).calls n j ≡ Some x
      → (st : Standing K) → (led said leads).maps n ≡ Some st → HasStood s.maps n st
  made_stood progress.Goes leads n j x is st there = stands_so s.maps n st there
  made_stood progress.Waits leads n j x is st there = stands_so s.maps n st there
  made_stood (progress.Done setting) leads n j x is st there = elim (cases_eq n b.map) as (λ _. HasStood s.maps n st) [
    | inl e ↦ absurd (let none : s.calls n j ≡ None = at.together.makings.standing.only n j (ap s.maps e ∙ at.together.makings.coming i b here) in cc (none, is))
    | inr ne ↦ stands_so s.maps n st (sym (at_other s.maps b.map (Some (leads b here).3.0) n ne) ∙ there)
  ]
  made_stood (progress.Refused fault) leads n j x is st there = stands_so s.maps n st there

pub makings_step : (K V : Type 0) (same : K → K → Bool) (hash : ℕ → K → ℕ) → MakingsStep K V same hash
makings_step K V same hash name log m known s old new at calls i said leads b here was_new none_born finds = record {
  whole = then_whole;
  numbers = numbers_by finds;
  kept = makings_keep_kept K V same hash name m known s old new at whole calls.kept i said leads b here (Some b.map) was_new
      (made_at same hash s old new at i b here said leads) then_whole.all.shown;
  finding = finding_by finds;
  sources = making_sources K V same hash name m known then_known s old new i b here (Some b.map) effects aside calls.sources none_born said leads then_whole.all.shown;
  nexts = makings_keep_nexts K V same hash name log m known s old new calls.nexts at whole i said leads b here was_new;
  tries = makings_keep_tries K V same hash name log m known s old new calls.sources calls.tries at whole i said leads b here was_new (made_at same hash s old new at i b here said leads) then_whole;
  limits = makings_keep_limits K V same hash name log m known s old new calls.limits at whole i said leads b here was_new;
  counters = makings_keep_counters K V same hash name m known s old new at whole calls.counters i said leads b here (Some b.map);
  uncounted = none_counted None (Some b.map) effects m calls.uncounted (none_shards (Some b.map) effects m);
  dues = (dues_stay K V same hash name log).makings m known s old new at whole calls.dues i said leads b here (Some b.map) was_new;
  as_called = (as_called_stays K V same hash name).makings m known s old new at whole calls.as_called i said leads b here (Some b.map) was_new;
  questions = effects_keep_questions K V None (Some b.map) effects m calls.questions;
  purposes = (purposes_stay K V same hash name log).makings m known s old new at whole calls.purposes i said leads b here (Some b.map) was_new;
}
  where
    whole : RefinesWhole same name m known s
    whole = calls.whole

    effects : List Effect
    effects = effects_of (acts.Making b.map) known new.changed

    v : Moment K V
    v = with_effects None (Some b.map) effects m

    then_known : Known
    then_known = known_after (acts.Making b.map) new.changed known

    aside : AllAside effects
    aside = makings_aside same hash name m known s old new at whole.all.shown i said leads b here (Some b.map)

    then_whole : RefinesWhole same name v then_known (led same hash s old new at i b here said leads)
    then_whole = makings_keep_whole K V same hash name m known s old new at whole i said leads b here (Some b.map) was_new

    -- the map is there by its number, or the moment is as it was
    numbers_by : FindsItsMap b said effects m → NumbersMaps v × PairsAreBelow v
    numbers_by (inl there) = numbers_then m calls.numbers b.map there.0 (acts.Making b.map) refl known new.changed
    numbers_by (inr asks) = subst (λ (x : Moment K V). NumbersMaps x × PairsAreBelow x) (sym (growths_leave (Some b.map) effects m asks.1)) calls.numbers

    -- it was made for its capacity, or maps stand as they stood
    finding_by : FindsItsMap b said effects m → RefinesFinding name v then_known (led same hash s old new at i b here said leads)
    finding_by (inl there) =
        makings_keep_finding K V same hash name m known s old new at whole calls.finding i said leads b here was_new there.1 (made_at same hash s old new at i b here said leads) then_whole
    finding_by (inr asks) =
        finding_beside same hash name m v known then_known s (led same hash s old new at i b here said leads) new (made_at same hash s old new at i b here said leads) then_whole
        (makings_go_beside K V same hash name m known s old new at whole i said leads b here (Some b.map) was_new) calls.finding
        (makings_leave_spots same hash name m known s old new at whole.all.shown i said leads b here (Some b.map)) (tables_have_been K V None (Some b.map) effects m)
        (effects_keep_lengths None (Some b.map) effects m)
        (capacities_stay K V m v s (led same hash s old new at i b here said leads) calls.finding.capacities (λ n st is. effects_keep_capacities K V None (Some b.map) effects m n)
        (stood_as s (led same hash s old new at i b here said leads) (unmade_maps same hash s old new at i b here said leads asks.0)))

pub making_events_go_on_so : (K V : Type 0) (same : K → K → Bool) (hash : ℕ → K → ℕ) → MakingEventsContinue K V same hash
making_events_go_on_so K V same hash name terms log event beginning done m known s i b here midst old new at size said leads was_new finds = (
  record {
    of_maps = midst.0.of_maps;
    calls = makings_step K V same hash name (past log) m known s old new at midst.0.calls i said leads b here was_new midst.2 finds;
    reading = other_work_keeps_readings K V name (past log) (λ j. 0) m s (led same hash s old new at i b here said leads) (Some b.map) effects (made_calls same hash s old new at i b here said leads)
        (made_stood same hash s old new at i b here said leads) midst.0.reading;
    worked = ap (λ (x : Moment K V). with_effects None (Some b.map) effects x) midst.0.worked ∙ sym (effects_after None (Some b.map) done effects beginning);
    granted = grants_add_up done effects midst.0.granted (operations_are_single (acts.Making b.map) known new.changed).1;
    protects = subst (λ (w : World (Node K V)). InMidst event (done ++ effects) v then_known w) (sym (made_world same hash s old new at i b here said leads))
        (makings_protect K V same hash name m known s old new at whole i said leads b here (Some b.map) was_new event midst.0.of_maps done midst.0.protects);
  },
  λ alone. subst (λ (w : World (Node K V)). FollowsInMaking terms.batch_size terms.roots (things_in log) (sets_in terms.batch_size log) (done ++ effects) then_known w)
      (sym (made_world same hash s old new at i b here said leads))
      (subst (λ (n : ℕ). FollowsInMaking n terms.roots (things_in log) (sets_in terms.batch_size log) (done ++ effects) then_known (leads b here).2.step.w2) size
      (making_events_go_on K V same hash name m known s old new at whole i said leads b here (Some b.map) was_new terms.roots (things_in log) (sets_in terms.batch_size log) done
      (subst (λ (n : ℕ). FollowsInMaking n terms.roots (things_in log) (sets_in terms.batch_size log) done known s.world) (sym size) (midst.1 alone)))),
  making_none K V same hash name m known then_known s old new i b here (Some b.map) effects aside midst.0.calls.sources midst.2,
)
  where
    whole : RefinesWhole same name m known s
    whole = midst.0.calls.whole

    effects : List Effect
    effects = effects_of (acts.Making b.map) known new.changed

    v : Moment K V
    v = with_effects None (Some b.map) effects m

    then_known : Known
    then_known = known_after (acts.Making b.map) new.changed known

    aside : AllAside effects
    aside = makings_aside same hash name m known s old new at whole.all.shown i said leads b here (Some b.map)

-- A step of an end.

module _ {K V : Type 0} (same : K → K → Bool) (hash : ℕ → K → ℕ) (s : Scene K V) (old new : Held K V) (i : ℕ) (f : Finishing K V) (here : s.enders i ≡ Some f) where
  abbrev ended : (said : Settled (Node K V)) → EndingLeads same hash i said s old new → Scene K V
  ended said leads = ending_after same hash s new i f (leads f here).0 (leads f here).2.w2 (leads f here).2.deed said (leads f here).3

  ended_at : (said : Settled (Node K V)) (leads : EndingLeads same hash i said s old new) → IsAt same hash new (ended said leads)
  ended_at settled.Goes leads = (leads f here).3.1
  ended_at settled.Waits leads = absurd (leads f here).3
  ended_at (settled.Gave value) leads = (leads f here).3.3
  ended_at settled.Done leads = (leads f here).3.2

  ended_maps : (said : Settled (Node K V)) (leads : EndingLeads same hash i said s old new) → (ended said leads).maps ≡ s.maps
  ended_maps settled.Goes leads = refl
  ended_maps settled.Waits leads = refl
  ended_maps (settled.Gave value) leads = refl
  ended_maps settled.Done leads = refl

  ended_world : (said : Settled (Node K V)) (leads : EndingLeads same hash i said s old new) → (ended said leads).world ≡ (leads f here).2.w2
  ended_world settled.Goes leads = refl
  ended_world settled.Waits leads = absurd (leads f here).3
  ended_world (settled.Gave value) leads = refl
  ended_world settled.Done leads = refl

  ended_same : (said : Settled (Node K V)) (leads : EndingLeads same hash i said s old new) → (ended said leads).calls ≡ s.calls
  ended_same settled.Goes leads = refl
  ended_same settled.Waits leads = refl
  ended_same (settled.Gave value) leads = refl
  ended_same settled.Done leads = refl

  ended_calls : (said : Settled (Node K V)) (leads : EndingLeads same hash i said s old new) (n j : ℕ) (x : UnderWay K V K) → (ended said leads).calls n j ≡ Some x → s.calls n j ≡ Some x
  ended_calls said leads n j x is = subst (λ (calls : ℕ → ℕ → Option (UnderWay K V K)). calls n j ≡ Some x) (ended_same said leads) is

  ended_stood : (said : Settled (Node K V)) (leads : EndingLeads same hash i said s old new) (n j : ℕ) (x : UnderWay K V K) → (ended said leads).calls n j ≡ Some x
      → (st : Standing K) → (ended said leads).maps n ≡ Some st → HasStood s.maps n st
  ended_stood settled.Goes leads n j x is st there = stands_so s.maps n st there
  ended_stood settled.Waits leads n j x is st there = stands_so s.maps n st there
  ended_stood (settled.Gave value) leads n j x is st there = stands_so s.maps n st there
  ended_stood settled.Done leads n j x is st there = stands_so s.maps n st there

pub ends_step : (K V : Type 0) (same : K → K → Bool) (hash : ℕ → K → ℕ) → EndsStep K V same hash
ends_step K V same hash name log m known s old new at calls i said leads f here map not_there below its = record {
  whole = then_whole;
  numbers = numbers_then m calls.numbers map below (acts.Ending map) refl known new.changed;
  kept = endings_keep_kept K V same hash name m known s old new at whole calls.kept i said leads f here map not_there (ended_at same hash s old new i f here said leads);
  finding = endings_keep_finding K V same hash name m known s old new at whole calls.finding i f here said leads map not_there (ended_at same hash s old new i f here said leads) then_whole;
  sources = so_aside K V same name m known then_known s (ended same hash s old new i f here said leads) None (Some map) effects
      (endings_aside same hash name m known s old new at whole i said leads f here map not_there) calls.sources then_whole.all.shown
      (λ n st is. ap (λ (maps : ℕ → Option (Standing K)). maps n) (sym (ended_maps same hash s old new i f here said leads)) ∙ is);
  nexts = endings_keep_nexts K V same hash name log m known s old new calls.nexts at whole i f here said leads map not_there;
  tries = endings_keep_tries K V same hash name log m known s old new calls.sources calls.tries at whole i f here said leads map not_there (ended_at same hash s old new i f here said leads) then_whole;
  limits = endings_keep_limits K V same hash name log m known s old new calls.limits at whole i f here said leads map not_there;
  counters = endings_keep_counters K V same hash name m known s old new at calls.counters i said leads f here map;
  uncounted = none_counted None (Some map) effects m calls.uncounted (none_shards (Some map) effects m);
  dues = (dues_stay K V same hash name log).endings m known s old new at whole calls.dues i said leads f here map not_there its;
  as_called = (as_called_stays K V same hash name).endings m known s old new at whole calls.as_called i said leads f here map not_there its;
  questions = effects_keep_questions K V None (Some map) effects m calls.questions;
  purposes = (purposes_stay K V same hash name log).endings m known s old new at whole calls.purposes i said leads f here map not_there its;
}
  where
    whole : RefinesWhole same name m known s
    whole = calls.whole

    effects : List Effect
    effects = effects_of (acts.Ending map) known new.changed

    v : Moment K V
    v = with_effects None (Some map) effects m

    then_known : Known
    then_known = known_after (acts.Ending map) new.changed known

    then_whole : RefinesWhole same name v then_known (ended same hash s old new i f here said leads)
    then_whole = endings_keep_whole K V same hash name m known s old new at whole i said leads f here map not_there its
        (endings_find_kept K V same hash name m known s old new at whole calls.kept i said leads f here map not_there)

pub end_events_go_on_so : (K V : Type 0) (same : K → K → Bool) (hash : ℕ → K → ℕ) → EndEventsContinue K V same hash
end_events_go_on_so K V same hash name terms log event map beginning first done m known s i f here not_there midst old new at size below said leads its = (
  record {
    of_maps = midst.0.of_maps;
    calls = ends_step K V same hash name (past log) m known s old new at midst.0.calls i said leads f here map not_there below its;
    reading = other_work_keeps_readings K V name (past log) (λ j. 0) m s (ended same hash s old new i f here said leads) (Some map) effects (ended_calls same hash s old new i f here said leads)
        (ended_stood same hash s old new i f here said leads) midst.0.reading;
    worked = ap (λ (x : Moment K V). with_effects None (Some map) effects x) midst.0.worked ∙ sym (effects_after None (Some map) done effects beginning);
    granted = grants_add_up done effects midst.0.granted (operations_are_single (acts.Ending map) known new.changed).1;
    protects = subst (λ (w : World (Node K V)). InMidst event (done ++ effects) v then_known w) (sym (ended_world same hash s old new i f here said leads))
        (endings_protect K V same hash name m known s old new at whole i said leads f here map not_there event midst.0.of_maps done midst.0.protects);
  },
  λ alone. subst (λ (w : World (Node K V)). FollowsInEnd terms.batch_size terms.roots (things_in log) (sets_in terms.batch_size log) first i (done ++ effects) then_known w)
      (sym (ended_world same hash s old new i f here said leads))
      (subst (λ (n : ℕ). FollowsInEnd n terms.roots (things_in log) (sets_in terms.batch_size log) first i (done ++ effects) then_known (leads f here).2.w2) size
      (ends_go_on K V same hash name m known s old new at whole i said leads f here map not_there terms.roots (things_in log) (sets_in terms.batch_size log) first done
      (subst (λ (n : ℕ). FollowsInEnd n terms.roots (things_in log) (sets_in terms.batch_size log) first i done known s.world) (sym size) (midst.1 alone)))),
)
  where
    whole : RefinesWhole same name m known s
    whole = midst.0.calls.whole

    effects : List Effect
    effects = effects_of (acts.Ending map) known new.changed

    v : Moment K V
    v = with_effects None (Some map) effects m

    then_known : Known
    then_known = known_after (acts.Ending map) new.changed known

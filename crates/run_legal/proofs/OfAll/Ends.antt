-- An event that reclaims all, once all is reclaimed: it is legal but for what it comes to, all is back, and a run goes on with it.
use Rattle.std.specs.Prelude.{◌≡◌, ◌⊎◌, ◌<◌, ℕ, Bool, true, false, ◌&&◌, List, [], ◌∷◌, None, MatchBool, map, flat_map}
use Rattle.std.specs.List.{list_all}
use Rattle.std.proofs.Common.{refl, ap, sym, subst, ◌∙◌, arith, inl}
use Rattle.run_grows.specs.Given.SeizeLaw.{is_retired}
use Rattle.run_grows.specs.Given.SeizeWaitingSets.{Change}
use Rattle.run_grows.specs.Given.SeizeWorld.{World, Rests, times}
use Rattle.run_grows.specs.Given.SeizeDeclared.rows.settle.Settled.{Settled}
use Rattle.run_grows.specs.Given.TablesNodes.{deferred_word}
use Rattle.run_grows.specs.Given.TablesDeclared.node.Node.{Node}
use Rattle.run_grows.specs.Given.RunsPresent.{all_forgotten}
use Rattle.run_grows.specs.Given.RunsDeclared.effect.Effect.{Effect}
use Rattle.run_grows.specs.Given.RunsDeclared.effect.Effect.TheVariants.{Reclaimed}
use Rattle.run_grows.specs.Given.RunsDeclared.effect.Thing.TheVariants.{APair, ATable}
use Rattle.run_grows.specs.Given.RunsDeclared.event.Event.{Event}
use Rattle.run_grows.specs.Given.RunsDeclared.event.Event.TheVariants as event
use Rattle.run_grows.specs.Given.RunsDeclared.outcome.Outcome.TheVariants.{Done}
use Rattle.run_grows.specs.Given.SchedulesAfter.{after, moment}
use Rattle.run_grows.specs.Given.SchedulesBeginning.{at_work}
use Rattle.run_grows.specs.Given.SchedulesEffects.{with_effect, with_effects, AtEachEffect}
use Rattle.run_grows.specs.Given.SchedulesEntry.{Entry, acted_on, caller_of}
use Rattle.run_grows.specs.Given.SchedulesHanding.{gives_all, is_reclaiming, may_do}
use Rattle.run_grows.specs.Given.SchedulesInTurn.{HasRightOutcome, IsKeptOut}
use Rattle.run_grows.specs.Given.SchedulesInUse.{is_left}
use Rattle.run_grows.specs.Given.SchedulesLists.{is_empty}
use Rattle.run_grows.specs.Given.SchedulesLives.{Finds}
use Rattle.run_grows.specs.Given.SchedulesModel.{IsByModel, back_by_model, number_in, thing_back, things_in}
use Rattle.run_grows.specs.Given.SchedulesMoment.{Moment}
use Rattle.run_grows.specs.Given.SchedulesReclaims.{IsProtected}
use Rattle.run_grows.specs.Given.SchedulesTerms.{Terms}
use Rattle.run_grows.specs.Given.EffectsKnown.{Known}
use Rattle.run_grows.specs.Given.FinishesMakings.{IsFreeRoot}
use Rattle.run_grows.specs.Given.MomentsOnSlots.{HadRetired}
use Rattle.run_grows.specs.Given.SeizeReclaimsRoots.{all_lists}
use Rattle.run_grows.specs.Given.ReclaimsReclaims.{AllIsReclaimed, IsRootOf, ReclaimingOutcome}
use Rattle.run_grows.specs.Given.ScenesReclaiming.{ReclaimingHasOutcome}
use Rattle.run_grows.specs.Given.PromisesProtected.{EndsInside, InMidst, is_of_slots}
use Rattle.run_grows.specs.Given.PromisesSheltered.{SectionsHold}
use Rattle.run_grows.proofs.Given.PromisesProtected.{all_is_ended_protected, slot_events_end_protected}
use Rattle.run_grows.specs.Given.ModelsFollows.{IsFollowed}
use Rattle.run_grows.specs.Given.ModelsReclaims.{HasReclaimed}
use Rattle.run_grows.specs.Given.ModelsTurns.{CameByTurns}
use Rattle.run_grows.specs.Given.FindsLittle.{ReclaimsAll, WhereAll}
use Rattle.run_grows.specs.Given.FindsOrderly.{NothingIsRetired, is_left_over}
use Rattle.run_grows.proofs.Given.FindsBegun.{in_turn, not_kept_out, was_done}
use Rattle.run_grows.proofs.Given.FindsClosed.{none_there}
use Rattle.run_legal.specs.AllEvents.{AllCome, AllRunsToItsEnd, FindsPair, InAllEvent, all_begun, scene_in}
use Rattle.run_legal.specs.Between.{IsLike}
use Rattle.run_legal.specs.CallEvents.{IsLegalBut}
use Rattle.run_legal.specs.Carried.{IsSequential, RefinesRun}
use Rattle.run_legal.proofs.Between.{likes_show}
use Rattle.run_legal.proofs.Found.{none_at_rest}
use Rattle.run_legal.proofs.OfAll.BySets.{all_reclaim_by_sets}
use Rattle.run_legal.proofs.OfAll.Model.{all_is_followed, comes_last}
use Rattle.run_legal.proofs.OfAll.Points.{none_listed, nothing_behind}
use Rattle.run_legal.proofs.OfAll.Steps.{all_chain, all_events_begin, all_goes_on}
use Rattle.run_legal.proofs.Over.{reading_like, runs_go_on}
use Rattle.run_legal.proofs.SlotsAfter.{each_stores, like}
use Rattle.run_legal.proofs.SlotsEnd.{slots_are_legal_but}
use Rattle.run_grows.specs.Given.ScenesHeld.{IsAt}
use Rattle.run_grows.specs.Given.SchedulesTransition.{past}
use Rattle.run_grows.proofs.Given.General.{both_true as and_both}

-- What such an event is.

module _ {K V : Type 0} where
  of_slots : (its : Event K V) → gives_all its ≡ true → is_of_slots its ≡ true
  of_slots event.ReclaimAll of_all = refl
  of_slots event.Close of_all = refl
  of_slots _ of_all = absurd (cc of_all)

  where_all : (its : Event K V) → gives_all its ≡ true → (P : Type 0) → P → WhereAll {K = K} {V = V} its Done P
  where_all event.ReclaimAll of_all P p = p
  where_all event.Close of_all P p = p
  where_all _ of_all P p = absurd (cc of_all)

  may_reclaim : (its : Event K V) → gives_all its ≡ true → (m : Moment K V) (f : Effect) → is_reclaiming f ≡ true → may_do its m f ≡ true
  may_reclaim event.ReclaimAll of_all m f is = is
  may_reclaim event.Close of_all m f is = is
  may_reclaim _ of_all m f is = absurd (cc of_all)

  all_may : (its : Event K V) → gives_all its ≡ true → (m : Moment K V) (fs : List Effect) → list_all is_reclaiming fs ≡ true → list_all (may_do its m) fs ≡ true
  all_may its of_all m [] may = refl
  all_may its of_all m (f ∷ fs) may =
      let each = and_both (is_reclaiming f) (list_all is_reclaiming fs) may in
      ap (λ (q : Bool). q && list_all (may_do its m) fs) (may_reclaim its of_all m f each.0) ∙ all_may its of_all m fs each.1

  -- it ends all sections
  protects_all : (its : Event K V) → gives_all its ≡ true → (effects : List Effect) (m : Moment K V) (known : Known) (w : World (Node K V)) → InMidst its effects m known w
  protects_all event.ReclaimAll of_all effects m known w = (all_is_ended_protected K V effects m known w).0
  protects_all event.Close of_all effects m known w = (all_is_ended_protected K V effects m known w).1
  protects_all _ of_all effects m known w = absurd (cc of_all)

  ends_all : (its : Event K V) → gives_all its ≡ true → (m : Moment K V) (w : World (Node K V)) → EndsInside w its Done m.there
  ends_all event.ReclaimAll of_all m w = tt
  ends_all event.Close of_all m w = tt
  ends_all _ of_all m w = absurd (cc of_all)

  -- each table that it reclaims was retired, and each pair handed over, or left over
  each_finds : (terms : Terms) (fs : List Effect) (m : Moment K V) → list_all is_reclaiming fs ≡ true → AtEachEffect FindsPair None None fs m → AtEachEffect HadRetired None None fs m
      → AtEachEffect (Finds terms None None true []) None None fs m
  each_finds terms [] m may pairs had = tt
  each_finds terms (Reclaimed (APair n) ∷ fs) m may pairs had = (pairs.0, each_finds terms fs (with_effect None None (Reclaimed (APair n)) m) may pairs.1 had.1)
  each_finds terms (Reclaimed (ATable t) ∷ fs) m may pairs had = (had.0, each_finds terms fs (with_effect None None (Reclaimed (ATable t)) m) may pairs.1 had.1)
  each_finds terms (_ ∷ fs) m may pairs had = absurd (cc may)

  calls_still : (fs : List Effect) (m : Moment K V) → (with_effects None None fs m).calls ≡ m.calls
  calls_still [] m = refl
  calls_still (f ∷ fs) m = calls_still fs (with_effect None None f m)

last_of_three : (a b c : Bool) → (a && b && c) ≡ true → c ≡ true
last_of_three a b true is = refl
last_of_three true true false is = absurd (cc is)
last_of_three true false false is = absurd (cc is)
last_of_three false b false is = absurd (cc is)

module _ {K V : Type 0} (terms : Terms) (log : List (Entry K V)) (steps : ℕ) (effects : List Effect) where
  abbrev entry : Event K V → Entry K V
  entry its = record { event = its; outcome = Done; steps = steps; effects = effects }

  abbrev m : Moment K V
  m = moment log

  nobody_calls : is_left m ≡ true → m.calls ≡ []
  nobody_calls is = none_there m.calls (last_of_three (is_empty m.there.registrations) (all_forgotten m.there.guards) (is_empty m.calls) is)

  -- no call was under way
  pub none_called : (its : Event K V) → gives_all its ≡ true → HasRightOutcome terms log (entry its) → m.calls ≡ []
  none_called event.ReclaimAll of_all right =
      nobody_calls (in_turn terms log (entry event.ReclaimAll) (is_left m) _ (was_done V)
      (not_kept_out terms log (entry event.ReclaimAll) m.is_closed (IsKeptOut {K = K} {V = V} event.ReclaimAll (was_done V)) _ (was_done V) (λ out. out) right refl) refl)
  none_called event.Close of_all right =
      nobody_calls (and_both (is_left m) (is_empty m.maps) (in_turn terms log (entry event.Close) (is_left m && is_empty m.maps) _ (was_done V)
      (not_kept_out terms log (entry event.Close) m.is_closed (IsKeptOut {K = K} {V = V} event.Close (was_done V)) _ (was_done V) (λ out. out) right refl) refl)).0
  none_called _ of_all right = absurd (cc of_all)

  calls_then : (its : Event K V) → gives_all its ≡ true → (moment (entry its ∷ log)).calls ≡ m.calls
  calls_then event.ReclaimAll of_all = calls_still effects m
  calls_then event.Close of_all = calls_still effects m
  calls_then _ of_all = absurd (cc of_all)

  nothing_then : (its : Event K V) → gives_all its ≡ true → NothingIsRetired (with_effects None None effects m) → NothingIsRetired (moment (entry its ∷ log))
  nothing_then event.ReclaimAll of_all none = record { pairs = none.pairs; tables = none.tables; left = none.left }
  nothing_then event.Close of_all none = record { pairs = none.pairs; tables = none.tables; left = none.left }
  nothing_then _ of_all none = absurd (cc of_all)

module _ (K V : Type 0) (same : K → K → Bool) (hash : ℕ → K → ℕ) where
  pub all_runs_to_its_end : AllRunsToItsEnd K V same hash
  all_runs_to_its_end name terms log known s old small run its of_all before i all lists left behind begins n to over chain last done steps effects did pairs right = (but, reclaims, ran)
    where
      e : Entry K V
      e = record { event = its; outcome = Done; steps = steps; effects = effects }

      at_to : InAllEvent same name terms log known s.world lists to.come.did to.come.now to.come.notes to.come.scene to.all to.lists
      at_to = all_chain K V same hash name terms log known s.world lists i n (all_begun log known s old all lists) to chain (all_events_begin K V same hash name terms log known s run all lists left)

      at_over : InAllEvent same name terms log known s.world lists effects over.come.now over.come.notes over.come.scene over.all over.lists
      at_over = subst (λ (fs : List Effect). InAllEvent same name terms log known s.world lists fs over.come.now over.come.notes over.come.scene over.all over.lists) did
          (all_goes_on K V same hash name terms log known s.world lists i to over last at_to)

      -- nothing is behind the roots, and nothing is retired
      told : (last.leads.1.lists2 ≡ to.lists) × (last.leads.1.w2 ≡ to.come.scene.world)
      told = subst (λ (t : Settled (Node K V)). ReclaimingOutcome to.come.scene.world last.leads.1.w2 to.lists last.leads.1.lists2 t) done last.leads.1.told

      reclaimed : AllIsReclaimed to.come.held.roots last.leads.1.w2 last.leads.1.maps2
      reclaimed = last.leads.1.over done

      free : (r : ℕ) → r < to.come.held.roots → IsRootOf last.leads.1.maps2 r ⊎ IsFreeRoot to.come.scene.world r
      free r l = subst (λ (w : World (Node K V)). IsRootOf last.leads.1.maps2 r ⊎ IsFreeRoot w r) told.1 (reclaimed.free r l)

      none_behind : (r : ℕ) → r < terms.roots → to.lists r ≡ []
      none_behind r l =
          nothing_behind to.come.held.batch_size to.come.held.roots i to.all to.come.scene.world to.come.scene.maps to.lists last.leads.1.maps2 last.leads.1.as_they_were free to.all.stands
          last.under_way.under_way.point r (subst (λ (k : ℕ). r < k) (sym last.roots_are) l)

      nothing : all_lists over.lists terms.roots ≡ []
      nothing = ap (λ (ls : ℕ → List ℕ). all_lists ls terms.roots) (ap (λ (z : AllCome K V). z.lists) last.comes ∙ told.0) ∙ none_listed to.lists terms.roots none_behind

      all_rest : (j : ℕ) → over.come.scene.world.row j ≡ Rests
      all_rest j = subst (λ (z : AllCome K V). z.come.scene.world.row j ≡ Rests) (sym last.comes) (reclaimed.nothing.0 j)

      -- the scene is that of what is held
      there : IsAt same hash over.come.held over.come.scene
      there = subst (λ (z : AllCome K V). IsAt same hash over.come.held z.come.scene) (sym last.comes)
          (subst (λ (t : Settled (Node K V)). ReclaimingHasOutcome same hash to.come.scene i to.lists to.come.held over.come.held (scene_in to.come.scene last.leads.1.w2 last.leads.1.maps2)
          last.leads.1.lists2 over.all t) done last.leads.2).1

      none_retired : (b : ℕ) → is_retired b over.come.scene.world.log ≡ false
      none_retired b = subst (λ (z : AllCome K V). is_retired b z.come.scene.world.log ≡ false) (sym last.comes) (reclaimed.nothing.1 b)

      none_left : (k : ℕ) → is_left_over (over.come.now.place k) ≡ false
      none_left k = by (is_left_over (over.come.now.place k)) refl
        where
          by : (q : Bool) → is_left_over (over.come.now.place k) ≡ q → is_left_over (over.come.now.place k) ≡ false
          by true is =
              let held = at_over.left k is in
              let among : 0 < 0 = subst (λ (xs : List ℕ). 0 < times held.0 xs) nothing held.2 in
              absurd (omega (arith, among))
          by false is = is

      back : NothingIsRetired (with_effects None None effects (moment log))
      back = subst (λ (z : Moment K V). NothingIsRetired z) at_over.worked
          (none_at_rest K V same hash name over.come.now over.come.notes over.come.scene over.come.held there at_over.calls.kept all_rest none_retired none_left)

      reclaims : ReclaimsAll log e
      reclaims =
          let none : (moment (e ∷ log)).calls ≡ [] = calls_then terms log steps effects its of_all ∙ none_called terms log steps effects its of_all right in
          where_all its of_all _ (
            record { calls = none; nothing = nothing_then terms log steps effects its of_all back },
            comes_last terms log known s.world lists behind effects over.come.notes over.come.scene.world over.all over.lists at_over.turn nothing,
          )

      -- it keeps its promises
      on : is_of_slots its ≡ true
      on = of_slots its of_all

      may : list_all (may_do its (moment log)) effects ≡ true
      may = all_may its of_all (moment log) effects at_over.may

      finds : AtEachEffect (Finds terms None None (gives_all its) []) None None effects (moment log)
      finds = subst (λ (q : Bool). AtEachEffect (Finds terms None None q []) None None effects (moment log)) (sym of_all) (each_finds terms effects (moment log) at_over.may pairs at_over.had)

      safe : IsProtected log e × SectionsHold (after e (moment log)) over.come.notes over.come.scene.world
      safe = slot_events_end_protected K V log e over.come.now over.come.notes over.come.scene.world on at_over.worked
          (protects_all its of_all effects over.come.now over.come.notes over.come.scene.world) (ends_all its of_all (moment log) over.come.scene.world)

      has_reclaimed : (changes : List Change) → CameByTurns deferred_word terms.batch_size terms.roots s.world changes
          → HasReclaimed deferred_word terms.batch_size terms.roots s.world changes over.come.scene.world
      has_reclaimed changes came = all_reclaim_by_sets K V same hash terms small i n (all_begun log known s old all lists) to over begins chain last done changes came

      followed : IsSequential its log → IsFollowed terms log e over.come.notes over.come.scene.world
      followed alone =
          let follows = before alone in
          all_is_followed terms log known s.world lists behind effects over.come.notes over.come.scene.world over.all over.lists at_over.turn nothing its of_all steps at_over.may small at_over.once
          follows (has_reclaimed follows.before follows.came) over.come.now at_over.calls.whole.all.shown.blocks

      by_model : (q : Bool) → (after e (moment log)).is_alone ≡ q → IsByModel terms log e
      by_model true is = (followed is).0
      by_model false is =
          subst (λ (q : Bool). MatchBool q (map (number_in (things_in (e ∷ log))) (flat_map thing_back effects) ≡ back_by_model terms.batch_size log e) (Unit {0})) (sym is) tt

      but : IsLegalBut same terms log e
      but = slots_are_legal_but K V same terms log e on may finds at_over.granted refl safe.0 (by_model (after e (moment log)).is_alone refl)

      -- the moment after it shows what the next event needs
      is_like : IsLike over.come.now (moment (e ∷ log))
      is_like = subst (λ (z : Moment K V). IsLike z (moment (e ∷ log))) (sym at_over.worked) (like log Done steps effects its on)

      ran : RefinesRun same name terms (e ∷ log) over.come.notes over.come.scene
      ran =
          runs_go_on K V same name name terms log known over.come.notes s over.come.scene run e right but.life
          (each_stores its (moment log) on (caller_of its) (acted_on its (at_work e (moment log))) effects (at_work e (moment log)) may) reclaims
          (likes_show K V same name (past log) over.come.now (moment (e ∷ log)) over.come.notes over.come.scene at_over.calls is_like)
          (reading_like name log (λ j. 0) over.come.now (moment (e ∷ log)) over.come.scene at_over.reading is_like) safe.1 (λ alone. inl (followed alone).1)

-- Events that reclaim all keep their promises, and a run goes on with them.
use Rattle.std.specs.Prelude.{◌≡◌, ◌⊎◌, ◌<◌, ◌^◌, nat_lt, ℕ, suc, Bool, true, false, List, [], ◌∷◌, None, Result, Ok, Err, IfOk, slice_index_or, if◌then◌else◌, ◌≤◌}
use Rattle.std.proofs.Common.{refl, ap, sym, subst, inl, inr, ◌∙◌, arith}
use Rattle.play_stepping.specs.Given.SeizeReclaimAll.{clearing, reclaiming_all}
use Rattle.play_stepping.specs.Given.SeizeWorld.{World}
use Rattle.play_stepping.specs.Given.SeizeDeclared.rows.reclaim_all.ReclaimAll.{ReclaimAll}
use Rattle.play_stepping.specs.Given.SeizeDeclared.rows.settle.Settled.TheVariants as settled
use Rattle.play_lists.specs.Given.TablesDeclared.node.Node.{Node}
use Rattle.play_lists.specs.Given.FinishesMakings.{IsFreeRoot}
use Rattle.run_schedules.specs.Given.SeizeWordsDeclared.fault.Fault.TheVariants.{Busy}
use Rattle.run_schedules.specs.declared.event.Event.{Event}
use Rattle.run_schedules.specs.declared.event.Event.TheVariants as events
use Rattle.run_schedules.specs.declared.outcome.Outcome.{Outcome}
use Rattle.run_schedules.specs.declared.outcome.Outcome.TheVariants.{Done, Refused}
use Rattle.run_schedules.specs.Schedules.After.{moment}
use Rattle.run_schedules.specs.Schedules.Effects.{AtEachEffect}
use Rattle.run_schedules.specs.Schedules.Entry.{Entry, speaker}
use Rattle.run_schedules.specs.Schedules.Handing.{gives_all}
use Rattle.run_schedules.specs.Schedules.InTurn.{HasRightOutcome, IsKeptOut}
use Rattle.run_schedules.specs.Schedules.Moment.{Moment}
use Rattle.run_schedules.specs.Schedules.Terms.{Terms}
use Rattle.play_lists.specs.Given.EffectsKnown.{known}
use Rattle.play_stepping.specs.Given.ReclaimsLeft.{IsSomebodys, LeftWithEndings}
use Rattle.run_legal.specs.Given.ReclaimsReclaims.{IsRootOf}
use Rattle.play_lists.proofs.Given.ReclaimsLeft.Stays.{nothing_is_left}
use Rattle.play_stepping.specs.Given.ReclaimingReclaiming.{IsReclaimingThere, MayReclaim, NobodyHas}
use Rattle.play_lists.specs.Given.FindsLittle.{ReclaimsAll}
use Rattle.play_events.proofs.Folded.Steps.{none_in_order}
use Rattle.run_legal.proofs.Come.{events_bring_things}
use Rattle.run_legal.proofs.Heads.Chains.{all_step, all_taken}
use Rattle.run_legal.proofs.Heads.Rows.{slots_stay, taken_then}
use Rattle.run_legal.specs.AllEvents.{AllCome, AllSteps, BeginsAll, BehindRootsAreLeft, BehindRootsIsLeft, FindsPair, LeftIsBehindRoots, all_begun}
use Rattle.run_legal.specs.CallEvents.{IsLegalBut}
use Rattle.run_legal.specs.Carried.{RefinesRun}
use Rattle.run_legal.proofs.OfAll.Ends.{all_runs_to_its_end, none_called}
use Rattle.run_legal.proofs.OfAll.Pairs.{all_find_pairs}
use Rattle.play_stepping.specs.Given.LoggedGoes.{Far, ReclaimingGone, far}
use Rattle.play_stepping.specs.Given.LoggedShown.{IsShown}
use Rattle.run_legal.proofs.Given.LogReclaimsRun.{same_setting}
use Rattle.play_stepping.specs.Given.SchedulerAllWorks.{WorksOnAll}
use Rattle.play_stepping.specs.Given.SchedulerPlayed.{IsPlayed, entry_of}
use Rattle.play_stepping.specs.Given.SchedulerReclaiming.{MayGiveAll, are_gone}
use Rattle.play_stepping.specs.Given.ExecutorDeclared.caller.NamedCaller.{NamedCaller}
use Rattle.play_stepping.specs.Given.SchedulerDeclared.played.Played.{Played}
use Rattle.play_stepping.specs.Given.SchedulerDeclared.scheduler.Scheduler.{Scheduler}
use Rattle.play_stepping.proofs.Mapping.AllGiven.{may_reclaim, nobody_has}
use Rattle.play_stepping.proofs.Given.SchedulerRights.{entry, entry_is}
use Rattle.play_events.proofs.Events.OfCalls.Worth.{have_values_then, nobody_says}
use Rattle.play_events.specs.Events.Asked.{Holds, is_of_calls, is_of_maps}
use Rattle.play_events.specs.Events.OfAll.{PreservesAll}
use Rattle.play_events.specs.Events.OfCalls.{HaveValues, Runs, RunsOn}
use Rattle.run_legal.proofs.Works.Reached.{all_note_more}
use Rattle.play_events.proofs.Events.OfAll.Behind.{behind_so}
use Rattle.play_events.proofs.Events.OfAll.Chain.{AllComes, all_back, all_come, all_comes, is_over, leads, over_there, step_so, then_now, then_scene}
use Rattle.play_events.proofs.Events.OfCalls.Scenes.{AreNamed, its_named, stands_in}
use Rattle.play_events.proofs.Events.OfRows.Lone.{alone_follows}
use Rattle.play_events.proofs.Events.OfRows.Quiet.{IsStill, still_keeps}
use Rattle.play_events.proofs.Events.Reached.{reached_after}
use Rattle.play_events.proofs.Events.Remaining.{counted_in, gives_all as gives_all_in}
use Rattle.play_stepping.specs.Given.ExecutorIsThere.{IsThere, held_by}
use Rattle.play_lists.specs.Given.ScenesScene.{Scene}
pub mod Chain
pub mod Behind

module _ {K V : Type 0} where
  -- such an event speaks of no call
  speaks_of_none : (event : Event K V) → gives_all event ≡ true → speaker event ≡ None
  speaks_of_none events.ReclaimAll of_all = refl
  speaks_of_none events.Close of_all = refl
  speaks_of_none _ of_all = absurd (cc of_all)

  -- out of turn it changes nothing
  busy_still : (log : List (Entry K V)) (w : World (Node K V)) (event : Event K V) → gives_all event ≡ true → (steps : ℕ) → IsStill log w (entry event (Refused Busy) steps [])
  busy_still log w events.ReclaimAll of_all steps = record { caller = refl; no_call = refl; changes = refl; left = refl; enters = tt; whole = refl; leaves = tt; reclaims = tt }
  busy_still log w events.Close of_all steps = record { caller = refl; no_call = refl; changes = refl; left = refl; enters = tt; whole = refl; leaves = tt; reclaims = tt }
  busy_still log w _ of_all steps = absurd (cc of_all)

  -- kept out it is refused as busy
  out_busy : (event : Event K V) → gives_all event ≡ true → (outcome : Outcome V) → IsKeptOut event outcome → outcome ≡ Refused Busy
  out_busy events.ReclaimAll of_all outcome is = is
  out_busy events.Close of_all outcome is = is
  out_busy _ of_all outcome is = absurd (cc of_all)

  -- no event of a call, or of slots, is such a one
  pub calls_give_none : (event : Event K V) → is_of_calls event ≡ true → gives_all event ≡ false
  calls_give_none events.ReclaimAll of = absurd (cc of)
  calls_give_none events.Close of = absurd (cc of)
  calls_give_none _ of = refl

  pub slots_give_none : (event : Event K V) → is_of_maps event ≡ false → gives_all event ≡ false
  slots_give_none events.ReclaimAll of = absurd (cc of)
  slots_give_none events.Close of = absurd (cc of)
  slots_give_none _ of = refl

module _ {K V S : Type 0} (same : K → K → Bool) (hash : K → ℕ) (terms : Terms) (log : List (Entry K V)) (event : Event K V) (of_all : gives_all event ≡ true)
    (played : Played V) (old new : Scheduler K V S) (holds : Holds same hash terms (moment log) old) (run : Runs same hash terms log old) (after : IsPlayed same hash terms (entry_of event played ∷ log) new)
    (right_so : HasRightOutcome terms log (entry_of event played)) where
  abbrev m : Moment K V
  m = moment log

  abbrev name : ℕ → List ℕ
  name = run.stands.name

  abbrev s : Scene K V
  s = run.stands.scene

  abbrev taken : Bool
  taken = nat_lt 0 (known old.logged.notes).buckets

  -- what is behind the roots
  abbrev behind : ℕ → List ℕ
  behind = run.stands.shown.counted.remains.lists

  -- all of it may be reclaimed in that scene, and there are as many roots as the terms say
  abbrev gives : MayGiveAll old s
  gives = gives_all_in same hash terms m old run.stands holds.counts.apart.numbers.found

  roots_are : old.logged.executor.roots ≡ terms.roots
  roots_are = holds.counts.roots ∙ ap (λ (t : Terms). t.roots) run.stands.given

  -- which is what the moment says is left over
  its_left : LeftIsBehindRoots terms.roots m (known old.logged.notes) behind × BehindRootsIsLeft terms.roots m (known old.logged.notes) behind × BehindRootsAreLeft terms.roots m (known old.logged.notes) behind
  its_left = behind_so same hash terms log old run holds.counts.apart.numbers.found roots_are

  small : terms.batch_size < 2 ^ 64
  small = subst (λ (n : ℕ). n < 2 ^ 64) run.size run.stands.shown.is_at.held.small

  -- what is had of the entry
  abbrev Keeps : Entry K V → Type 0
  Keeps e = RunsOn same hash terms log e new × ReclaimsAll log e

  abbrev KeepsAs : Entry K V → Type 0
  KeepsAs e = IsPlayed same hash terms (e ∷ log) new → HasRightOutcome terms log e → Keeps e

  -- its steps have come to their end
  module _ (calls : new.calls ≡ old.calls) (gone : are_gone old.there old.calls ≡ true) (ran : ReclaimingGone taken [] played.effects.items old.logged new.logged) where
    abbrev e : Entry K V
    e = entry event Done played.steps played.effects.items

    nobody : NobodyHas old.logged.executor
    nobody = nobody_has same hash terms m old run.stands gone

    may : MayReclaim old.logged.executor s behind taken
    may = may_reclaim same hash terms m old run.stands gone gives

    abbrev first : ReclaimAll
    first = ran.0

    under : IsReclaimingThere same hash old.logged.executor s 0 behind first
    under = ran.1 same hash name m s 0 behind run.stands.shown nobody may

    abbrev mid : Far K V S × ReclaimAll
    mid = ran.2

    abbrev end : Far K V S × ReclaimAll
    end = (far played.effects.items new.logged, ran.4)

    y : AllComes same hash terms 0 s ran.3.0 (all_come (far [] old.logged, first) m s behind) mid
    y = all_comes same hash terms 0 s ran.3.0 (far [] old.logged, first) mid m s behind under roots_are run.size refl (λ k. refl) ran.3.1

    abbrev to : AllCome K V
    to = all_come mid y.now y.scene y.lists

    abbrev last_scene : Scene K V
    last_scene = then_scene same hash terms 0 mid end y.now y.scene y.lists y.under_way y.roots ran.5

    abbrev over : AllCome K V
    over = all_come end (then_now same hash terms 0 mid end y.now y.scene y.lists y.under_way y.roots ran.5) last_scene
        (leads same hash terms 0 mid end y.now y.scene y.lists y.under_way y.roots ran.5).1.lists2

    abbrev last : AllSteps same (λ map. hash) terms 0 to over
    last = step_so same hash terms 0 mid end y.now y.scene y.lists y.under_way y.roots ran.5 y.size

    done : ran.5.1 ≡ settled.Done
    done = is_over ran.5.1 ran.6

    begins : BeginsAll same (λ map. hash) terms 0 (all_begun log (known old.logged.notes) s (held_by old.logged.executor) first behind)
    begins = record {
      under_way = under.held;
      size = run.size;
      taken = taken;
      first = ran.7 ∙ ap (λ (b : ℕ). if taken then reclaiming_all b old.logged.executor.roots else clearing old.logged.executor.roots) run.size
          ∙ ap (λ (r : ℕ). if taken then reclaiming_all terms.batch_size r else clearing r) roots_are;
    }

    pairs : HasRightOutcome terms log e → AtEachEffect FindsPair None None played.effects.items m
    pairs right =
        all_find_pairs K V same (λ map. hash) name terms log (known old.logged.notes) s (held_by old.logged.executor) run.shows (none_called terms log played.steps played.effects.items event of_all right) 0 first
        behind its_left.0 its_left.2 (suc ran.3.0) over (to, y.chain, last)

    it : HasRightOutcome terms log e → IsLegalBut same terms log e × ReclaimsAll log e × RefinesRun same name terms (e ∷ log) (known new.logged.notes) last_scene
    it right =
        all_runs_to_its_end K V same (λ map. hash) name terms log (known old.logged.notes) s (held_by old.logged.executor) small run.shows event of_all
        (alone_follows same hash terms log old run event (speaks_of_none event of_all)) 0 first behind its_left.0 its_left.1 begins ran.3.0 to over y.chain last done played.steps played.effects.items refl
        (pairs right) right

    there : IsThere same hash new.logged.executor last_scene
    there = over_there same hash terms 0 mid end y.now y.scene y.lists y.under_way y.roots ran.5 done

    named : AreNamed name new.calls
    named = subst (λ (cs : List (NamedCaller V)). AreNamed name cs) (sym calls) (its_named same hash terms m old run.stands)

    -- each map stands as it stood
    stood : (k : ℕ) → slice_index_or new.logged.executor.maps.items k None ≡ slice_index_or old.logged.executor.maps.items k None
    stood k =
        sym (there.maps k) ∙ (same_setting (y.scene.maps k) ((leads same hash terms 0 mid end y.now y.scene y.lists y.under_way y.roots ran.5).1.maps2 k)
        ((leads same hash terms 0 mid end y.now y.scene y.lists y.under_way y.roots ran.5).1.as_they_were k) ∙ y.settings k) ∙ run.stands.shown.is_at.maps k

    -- nothing is left behind any root
    none_left : LeftWithEndings new.logged.executor.roots last_scene.world last_scene.maps last_scene.makers last_scene.enders (λ r. [])
    none_left =
        nothing_is_left K V new.logged.executor.roots last_scene.world last_scene.maps last_scene.makers last_scene.enders
        (λ r l. by r ((all_back same hash terms 0 mid end y.now y.scene y.lists y.under_way y.roots ran.5 done).free r (subst (λ (n : ℕ). r < n) ran.5.0.given.2 l)))
      where
        by : (r : ℕ) → IsRootOf last_scene.maps r ⊎ IsFreeRoot last_scene.world r → IsSomebodys last_scene.maps last_scene.makers last_scene.enders r ⊎ IsFreeRoot last_scene.world r
        by r (inl root) = inl (inl root)
        by r (inr free) = inr free

    values : HaveValues (moment (e ∷ log)) last_scene new.calls
    values =
        subst (λ (cs : List (NamedCaller V)). HaveValues (moment (e ∷ log)) last_scene cs) (sym calls)
        (have_values_then m (moment (e ∷ log)) (nobody_says e m (busy_still log s.world event of_all 0).no_call) s last_scene y.calls old.calls run.values)

    -- no bucket of slots is forgotten
    grows : (known old.logged.notes).buckets ≤ (known new.logged.notes).buckets
    grows = all_note_more same (λ map. hash) terms (known old.logged.notes) 0 (suc ran.3.0) (all_come (far [] old.logged, first) m s behind) over (to, y.chain, last) (omega arith)

    all_keeps : KeepsAs e
    all_keeps so right =
        let its = it right in
        let shown : IsShown same hash name (moment (e ∷ log)) new.logged last_scene = record {
          is_at = there;
          shows = its.2.calls.whole;
          kept = its.2.calls.kept;
          counted = counted_in same hash terms (moment (e ∷ log)) new so last_scene there (λ r. []) none_left;
        } in (
          record {
            legal = its.0;
            hands = none_in_order log e (busy_still log s.world event of_all 0).caller;
            runs = record {
              stands = stands_in same hash terms (moment (e ∷ log)) new so name last_scene shown named;
              shows = its.2;
              come = events_bring_things K V terms log e run.come its.0.life.finds;
              values = values;
              taken = slots_stay s.world.memory last_scene.world.memory m.slots
                  (taken_then s.world.memory y.scene.world.memory last_scene.world.memory
                  (all_taken same (λ map. hash) terms 0 ran.3.0 (all_begun log (known old.logged.notes) s (held_by old.logged.executor) first behind) to y.chain) (all_step same (λ map. hash) terms 0 to over last)) run.taken;
              size = ran.5.0.given.1 ∙ y.size;
              shards = λ n setting is. run.shards n setting (sym (stood n) ∙ is);
              reached = reached_after same hash terms log e old new right so grows run.reached;
            };
          },
          its.1,
        )

  pub works_keep : WorksOnAll played old new → Keeps (entry_of event played)
  works_keep (calls, inl (busy, (none, still))) =
      subst KeepsAs (sym (entry_is event played (Refused Busy) played.steps [] busy refl none))
      (λ so right.
      (let kept = busy_still log s.world event of_all played.steps in
      (still_keeps same hash terms log old run (entry event (Refused Busy) played.steps []) new refl kept still calls so right refl, kept.reclaims))) after right_so
  works_keep (calls, inr (done, gone, ran)) =
      subst KeepsAs (sym (entry_is event played Done played.steps played.effects.items done refl refl)) (all_keeps calls gone ran) after right_so

module _ {K V S : Type 0} (same : K → K → Bool) (hash : K → ℕ) (event : Event K V) (old new : Scheduler K V S) where
  -- so it is of one that is kept out,
  pub all_out : (mapped : Bool) → new ≡ record old { is_mapped = mapped } → (played : Played V) → IsKeptOut event played.outcome → played.effects.items ≡ [] → PreservesAll same hash event played old new
  all_out mapped same_but played out none = λ of_all terms log holds run after left.
      works_keep same hash terms log event of_all played old new holds run after left
      (ap (λ (p : Scheduler K V S). p.calls) same_but, inl (out_busy event of_all played.outcome out, (none, ap (λ (p : Scheduler K V S). p.logged) same_but)))

  -- and of one that does not reclaim all nothing is said
  pub none_keep : {X : Type 0} → gives_all event ≡ false → (result : Result (Played V) X) → IfOk result (λ played. PreservesAll same hash event played old new)
  none_keep none (Ok played) = λ of_all. absurd (cc (of_all, none))
  none_keep none (Err x) = tt

-- So it is by what a function says of an event in this form.
module _ {K V S : Type 0} (same : K → K → Bool) (hash : K → ℕ) (event form : Event K V) (is : event ≡ form) (old new : Scheduler K V S) where
  pub all_keep : {X : Type 0} → (result : Result (Played V) X) → IfOk result (λ played. WorksOnAll played old new) → IfOk result (λ played. PreservesAll same hash event played old new)
  all_keep (Ok played) works =
      subst (λ (x : Event K V). PreservesAll same hash x played old new) (sym is) (λ of_all terms log holds run after left. works_keep same hash terms log form of_all played old new holds run after left works)
  all_keep (Err x) works = tt

  -- of events of another form nothing is said
  pub others_none : {X : Type 0} → gives_all form ≡ false → (result : Result (Played V) X) → IfOk result (λ played. PreservesAll same hash event played old new)
  others_none none = none_keep same hash event old new (ap gives_all is ∙ none)

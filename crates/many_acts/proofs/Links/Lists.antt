-- Wherever a list of acts has led, the world is tied, what one more step unlinks no links lead to, and what callers see is closed.
use Rattle.std.specs.Prelude.{Some}
use Rattle.std.proofs.Common.{◌≡◌, ◌⊎◌, ◌<◌, ℕ, Bool, true, false, List, inl, inr, refl, arith, ap, sym, subst, ◌∙◌}
use Rattle.run_shows.specs.Given.SeizeWordsMem.{Mem, word_at}
use Rattle.run_shows.specs.Given.SeizeWordsDeclared.at.At.TheVariants.{Root, Used}
use Rattle.run_shows.specs.Given.SeizeLaw.{reachable}
use Rattle.run_shows.specs.Given.SeizeWorld.{World, InUse, Event, Runs, with_at}
use Rattle.run_shows.specs.Given.SeizeDeclared.advance.Advance.{Advance}
use Rattle.run_shows.specs.Given.SeizeDeclared.advance.Advance.TheVariants as progress
use Rattle.run_shows.specs.Given.SeizeDeclared.rows.settle.Settled.{Settled}
use Rattle.run_shows.specs.Given.SeizeDeclared.rows.settle.Settled.TheVariants as settled
use Rattle.seize_acts.proofs.Given.SeizeAloneHistories.Reached.{Reached as IsReached}
use Rattle.run_shows.specs.Given.TablesNodes.{deferred_word}
use Rattle.run_shows.specs.Given.TablesDeclared.node.Node.{Node}
use Rattle.run_shows.specs.Given.TablesDeclared.setting.Setting.{Setting}
use Rattle.run_shows.specs.Given.ResizeDeclared.new_map.NewMap.{NewMap}
use Rattle.run_shows.specs.Given.RawDeclared.machines.end_map.EndMap.{EndMap}
use Rattle.owner_facts.proofs.Given.CallersTogether.At.{at_same}
use Rattle.owner_facts.proofs.Given.CallersTogether.Came.{came_reached}
use Rattle.owner_facts.specs.Given.FinishesEndings.{Finishing, MakingStepsWithEndings, StepsOfEnding}
use Rattle.owner_facts.specs.Given.FinishesFactsEnds.{TakesLeft, WritesRoot, events_of}
use Rattle.owner_facts.specs.Given.FinishesMakings.{Beginning, IsFirstTable, StepsOfMaking}
use Rattle.run_shows.specs.Reclaims.Slots.{AreItsRows}
use Rattle.many_acts.specs.Acts.Acts.{Act, Answer, BeginsCall, StepsCall, TellsCall, AsksCall, StopsCall, BeginsMaking, StepsMaking, BeginsEnding, StepsEnding, BeginsRow, StepsRow}
use Rattle.many_acts.specs.Acts.Doings.{Doing, Does, BeginsReclaiming, BeginsClearing, StepsReclaiming, Chooses, Stage, HasDone}
use Rattle.many_acts.specs.Acts.Leads.{AllStand, Led, MakingCame, EndingCame}
use Rattle.many_acts.specs.Acts.Lists.{Course}
use Rattle.many_acts.specs.Carries.Lists.{AreTheirs}
use Rattle.many_acts.proofs.Carries.Acts.{acts_keep_theirs}
use Rattle.many_acts.proofs.Carries.Lists.{lists_keep_theirs, theirs_on}
use Rattle.many_acts.specs.Links.Lists.{ActsUnlink, ListsAreTied, ListsHold, ListsUnlink, ListsAreClosed}
use Rattle.many_acts.specs.Links.Tied.{LinksLead, UnlinksWhatNoneNames, unlinkings}
use Rattle.many_acts.proofs.Links.Closed.{scenes_are_closed}
use Rattle.many_acts.proofs.Links.Makings.{first_in_use, making_cut_off}
use Rattle.many_acts.proofs.Links.Steps.{deed_cut, rows_none, kind_cut}
use Rattle.many_acts.proofs.Links.Tied.{is_held_inside, scenes_are_tied}
use Rattle.many_acts.proofs.Links.Unlinked.{IsCutOff, begin_none, step_none}
use Rattle.run_shows.specs.Scenes.Scene.{Scene}

module _ {K V S : Type 0} (same : K → K → Bool) (hash : S → K → ℕ) (batch_size roots : ℕ) (slot : ℕ → ℕ) (s n : Scene K V) (all : AllStand same hash batch_size roots slot s) (stand : AllStand same hash batch_size roots slot n) (b : ℕ) where
  reached : IsReached deferred_word batch_size s.world
  reached = came_reached batch_size s.world all.makings.standing.came

  cut_off : (i : ℕ) (d : Beginning K) (m2 : Mem (Node K V)) (end : NewMap × Advance Setting)
      (st : StepsOfMaking V same same batch_size roots slot s.world s.maps s.calls s.makers i d m2 end)
      → (0 < b → IsFirstTable st.w2 end b → (o : ℕ) × (st.w2.hand b ≡ InUse o)) → IsCutOff b s.world st.w2
  cut_off i d m2 end st = making_cut_off V same same batch_size roots slot s.world s.maps s.calls s.makers i d m2 end st b reached

  to : (x : Scene K V) → n ≡ x → IsCutOff b s.world x.world → IsCutOff b s.world n.world
  to x is so = subst (λ (y : Scene K V). IsCutOff b s.world y.world) (sym is) so

  made : (i : ℕ) (d : Beginning K) (m2 : Mem (Node K V)) (machine : NewMap) (end : Advance Setting)
      (did : MakingStepsWithEndings V same same batch_size roots slot s.world s.maps s.calls s.makers s.enders i d m2 (machine, end))
      → MakingCame same hash batch_size roots slot s i d did.step.w2 machine n end → IsCutOff b s.world n.world
  made i d m2 machine progress.Goes did is = to _ is (cut_off i d m2 (machine, progress.Goes) did.step (λ some first. absurd first))
  made i d m2 machine progress.Waits did never = absurd never
  made i d m2 machine (progress.Done setting) did (standing, is_made, is) =
      to _ is (cut_off i d m2 (machine, progress.Done setting) did.step (λ some first. (
        standing.setting.counter,
        first_in_use V same same batch_size slot did.step.w2 (with_at s.maps d.map (Some standing)) s.calls (subst (AllStand same hash batch_size roots slot) is stand).makings.standing
            d.map standing (at_same s.maps d.map (Some standing) d.map refl) b some
            (ap (λ (y : Setting). word_at did.step.w2.memory (Root y.root)) is_made.setting_is ∙ first),
      )))
  made i d m2 machine (progress.Refused fault) did is = to _ is (cut_off i d m2 (machine, progress.Refused fault) did.step (λ some first. absurd first))

  ended : (i : ℕ) (f : Finishing K V) (m2 : Mem (Node K V)) (machine : EndMap) (end : Settled (Node K V))
      (did : StepsOfEnding V same same batch_size roots slot s.world s.maps s.calls s.makers s.enders i f m2 (machine, end))
      → EndingCame same hash batch_size roots slot s i f did.w2 did.deed machine n end → IsCutOff b s.world n.world
  ended i f m2 machine end did came = by end came
    where
      cut : IsCutOff b s.world did.w2
      cut = deed_cut batch_size b s.world reached i did.deed did.w2 did.runs

      by : (e : Settled (Node K V)) → EndingCame same hash batch_size roots slot s i f did.w2 did.deed machine n e → IsCutOff b s.world n.world
      by settled.Goes (none, is) = to _ is cut
      by settled.Waits never = absurd never
      by (settled.Gave value) (x, was, taken, is) = to _ is cut
      by settled.Done (none, finished, is) = to _ is cut

  pub act_cut : (act : Act K V S) (told : Answer K V) → Led same hash batch_size roots slot act s told n → IsCutOff b s.world n.world
  act_cut (BeginsCall i m wanted) told (standing, stands, none, is) = to _ is (inl refl)
  act_cut (StepsCall i m g) told led =
      to _ led.comes (kind_cut V same same batch_size roots slot s.world s.maps s.calls s.makers s.enders m led.standing i b led.memory led.did.w2 led.did.maps2 led.did.next
      all.makings.standing led.stands led.call led.here led.machine led.progress led.did.did)
  act_cut (TellsCall i m reply) told (standing, stands, u, next, here, machine_is, told_is, kind, is) = to _ is (inl refl)
  act_cut (AsksCall i m) told (u, here, told_is, is) = to _ is (inl refl)
  act_cut (StopsCall i m) told (u, here, told_is, is) = to _ is (inl refl)
  act_cut (BeginsMaking i map hasher given places) told (told_is, is) = to _ is (inl refl)
  act_cut (StepsMaking i g) told (d, makes, m2, machine, end, computed, told_is, did, came) = made i d m2 machine end did came
  act_cut (BeginsEnding i m) told (standing, stands, told_is, is) = to _ is (inl refl)
  act_cut (StepsEnding i g) told (f, ends, m2, machine, end, computed, told_is, did, came) = ended i f m2 machine end did came
  act_cut (BeginsRow i request) told (w2, happens, maps2, same_maps, told_is, is) = to _ is (inl (begin_none deferred_word batch_size b i request s.world w2 happens.1))
  act_cut (StepsRow i g) told (w2, computed, happens, maps2, same_maps, told_is, is) = to _ is (inl (step_none deferred_word batch_size b i s.world w2 reached happens))

-- what links lead to can be reached, so none lead to what can't
unlinked_unnamed : {K S : Type 0} (V : Type 0) (same : K → K → Bool) (hash : S → K → ℕ) (batch_size roots : ℕ) (slot : ℕ → ℕ) (w : World (Node K V)) (n : Scene K V) → AllStand same hash batch_size roots slot n → AreTheirs n
    → ((b : ℕ) → IsCutOff b w n.world) → UnlinksWhatNoneNames w n.world n.maps
unlinked_unnamed {K} V same hash batch_size roots slot w n stand theirs cut b more = by (cut b)
  where
    by : IsCutOff b w n.world → (reachable b w.log ≡ true) × (reachable b n.world.log ≡ false) × (LinksLead n.world n.maps b → ⊥)
    by (inl same_often) = absurd (omega (arith, same_often, more))
    by (inr (before, none)) = (before, none, λ lead. let there = scenes_are_tied V same hash batch_size roots slot n stand theirs b lead in cc (none, there))

pub acts_unlink : {K S : Type 0} (V : Type 0) (same : K → K → Bool) (hash : S → K → ℕ) (batch_size roots : ℕ) (slot : ℕ → ℕ) → ActsUnlink V same hash batch_size roots slot
acts_unlink V same hash batch_size roots slot s n all stand theirs act may told led =
    unlinked_unnamed V same hash batch_size roots slot s.world n stand (acts_keep_theirs V same hash batch_size roots slot s n all stand act may told led theirs)
    (λ b. act_cut same hash batch_size roots slot s n all stand b act told led)

module _ {K S : Type 0} (V : Type 0) (same : K → K → Bool) (hash : S → K → ℕ) (batch_size roots : ℕ) (slot : ℕ → ℕ) where
  -- a step of a caller that reclaims all
  module _ (s : Scene K V) (all : AllStand same hash batch_size roots slot s) (b : ℕ) where
    there : IsReached deferred_word batch_size s.world
    there = came_reached batch_size s.world all.makings.standing.came

    event_cut : (i : ℕ) (events : List (Event (Node K V))) (w2 : World (Node K V)) → Runs deferred_word batch_size events s.world w2
        → AreItsRows i events ⊎ (((x : ℕ) × (events ≡ events_of i (TakesLeft x)))
        ⊎ ((root : ℕ) × ((events ≡ events_of i (WritesRoot (Root root) 0)) ⊎ (events ≡ events_of i (WritesRoot (Used root) 0))))) → IsCutOff b s.world w2
    event_cut i events w2 runs (inl own) = inl (rows_none batch_size b i events own s.world w2 there runs)
    event_cut i events w2 runs (inr (inl (x, is))) =
        deed_cut batch_size b s.world there i (TakesLeft x) w2 (subst (λ (l : List (Event (Node K V))). Runs deferred_word batch_size l s.world w2) is runs)
    event_cut i events w2 runs (inr (inr (root, inl is))) =
        deed_cut batch_size b s.world there i (WritesRoot (Root root) 0) w2 (subst (λ (l : List (Event (Node K V))). Runs deferred_word batch_size l s.world w2) is runs)
    event_cut i events w2 runs (inr (inr (root, inr is))) =
        deed_cut batch_size b s.world there i (WritesRoot (Used root) 0) w2 (subst (λ (l : List (Event (Node K V))). Runs deferred_word batch_size l s.world w2) is runs)

  doing_cut : (p n : Stage V same hash batch_size roots slot) (doing : Doing K V S) (told : Answer K V) → HasDone V same hash batch_size roots slot doing p told n
      → (b : ℕ) → IsCutOff b p.0.world n.0.world
  doing_cut p n (Does act) told (led, idle) b = act_cut same hash batch_size roots slot p.0 n.0 p.1 n.1 b act told led
  doing_cut p n (BeginsReclaiming i) told (none, is, behind_is, begun) b = inl (ap (λ (x : Scene K V). unlinkings b x.world.log) is)
  doing_cut p n (BeginsClearing i) told (none, is, behind_is, begun) b = inl (ap (λ (x : Scene K V). unlinkings b x.world.log) is)
  doing_cut p n (Chooses choice) told (none, is, behind_is, idle) b = inl (ap (λ (x : Scene K V). unlinkings b x.world.log) is)
  doing_cut p n (StepsReclaiming g) told st b =
      to same hash batch_size roots slot p.0 n.0 p.1 n.1 b (record p.0 { world = st.did.did.w2; maps = st.did.did.maps2 }) st.did.comes
      (event_cut p.0 p.1 b st.caller st.did.did.events st.did.did.w2 st.did.did.runs st.did.did.its)

  module _ (course : Course V same hash batch_size roots slot) where
    pub lists_are_tied : ListsAreTied V same hash batch_size roots slot course
    lists_are_tied doings x led = scenes_are_tied V same hash batch_size roots slot x.0.0 x.0.1 (lists_keep_theirs V same hash batch_size roots slot course doings x led)

    pub lists_hold : ListsHold V same hash batch_size roots slot course
    lists_hold doings x led =
        is_held_inside V same same batch_size roots slot x.0.0.world x.0.0.maps x.0.0.calls x.0.0.makers x.0.0.enders x.0.1 (lists_keep_theirs V same hash batch_size roots slot course doings x led)

    pub lists_unlink : ListsUnlink V same hash batch_size roots slot course
    lists_unlink doings x led doing may =
        unlinked_unnamed V same hash batch_size roots slot x.0.0.world (course.next x.0 doing may).0 (course.next x.0 doing may).1
        (theirs_on V same hash batch_size roots slot course x doing may (lists_keep_theirs V same hash batch_size roots slot course doings x led))
        (doing_cut x.0 (course.next x.0 doing may) doing (course.told x.0 doing may) (course.leads x.0 doing may))

    pub lists_are_closed : ListsAreClosed V same hash batch_size roots slot course
    lists_are_closed doings x led = scenes_are_closed V same hash batch_size roots slot x.0.0 x.0.1

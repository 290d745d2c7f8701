-- A course: where each act leads, and each step of who reclaims all. Each next step may be taken, and is that of an act.
use Rattle.std.specs.Prelude.{◌≡◌, ◌⊎◌, ℕ, ◌<◌, ◌^◌, Bool, true, false, List, [], Option, Some, None, IsSome}
use Rattle.std.specs.Option.{is_none}
use Rattle.std.proofs.Common.{inl, inr, refl, sym, subst}
use Rattle.run_shows.specs.Given.SeizeWordsMem.{word_at}
use Rattle.run_shows.specs.Given.SeizeWordsDeclared.at.At.TheVariants.{Slot}
use Rattle.run_shows.specs.Given.SeizeReclaimAll.{reclaiming_all, clearing}
use Rattle.run_shows.specs.Given.SeizeWorld.{Use, Vacant, Outside, Inside, Changing, at_start}
use Rattle.run_shows.specs.Given.SeizeDeclared.rows.reclaim_all.ReclaimAll.{ReclaimAll}
use Rattle.run_shows.specs.Given.SeizeDeclared.rows.settle.Settled.{Settled}
use Rattle.run_shows.specs.Given.SeizeDeclared.rows.settle.Settled.TheVariants as settled
use Rattle.run_shows.specs.Given.SeizeDeclared.states.TheConstants.{HEAD}
use Rattle.seize_acts.specs.Acts.Answers.{Grant}
use Rattle.seize_acts.proofs.Acts.Begun.{rests_is}
use Rattle.seize_acts.proofs.Acts.Steps.{steps_so, row_so}
use Rattle.run_shows.specs.Given.TablesNodes.{deferred_word}
use Rattle.run_shows.specs.Given.TablesDeclared.node.Node.{Node}
use Rattle.run_shows.specs.Given.ResizeNewMap.{new_map_plan}
use Rattle.run_shows.specs.Given.RawEndMap.{end_map_plan}
use Rattle.run_shows.specs.Given.RawMachine.{machine_plan}
use Rattle.owner_facts.specs.Given.PointsSteps.{AreLawful}
use Rattle.owner_facts.specs.Given.CallersTogether.{UnderWay}
use Rattle.owner_facts.specs.Given.FinishesMachines.{machine_of}
use Rattle.owner_facts.specs.Given.FinishesMakings.{IsFreeRoot}
use Rattle.owner_facts.specs.Given.FinishesMaps.{Standing}
use Rattle.owner_facts.proofs.Given.FinishesAmong.Begins.{no_endings_begin}
use Rattle.owner_facts.proofs.Given.FinishesAmong.Machines.{machines_stand_among}
use Rattle.owner_facts.proofs.Given.FinishesAmong.Makings.{makings_stand_among}
use Rattle.owner_facts.proofs.Given.FinishesAmong.Own.Steps.{endings_stand}
use Rattle.owner_facts.proofs.Given.FinishesAmong.Rows.{guards_stand_among}
use Rattle.owner_facts.proofs.Given.FinishesBeside.Makings.Promised.{no_makings_begin}
use Rattle.owner_facts.proofs.Given.ManyMapsSamples.Beside.Makings.{start_roots}
use Rattle.owner_facts.proofs.Given.FinishesBeside.Maps.Comes.{no_maps_begin}
use Rattle.owner_facts.proofs.Given.PointsMaking.OwnTables.{zero_at}
use Rattle.run_shows.specs.Reclaims.Left.{IsSomebodys}
use Rattle.run_shows.specs.Reclaims.Slots.{IsQuiescent}
use Rattle.run_shows.proofs.Reclaims.Left.Stays.{left_is_left_behind, nothing_is_left}
use Rattle.run_shows.proofs.Reclaims.Promised.{reclaiming_begins}
use Rattle.many_acts.specs.Acts.Acts.{Act, Answer, Nothing, OfReclaiming, BeginsCall, StepsCall, TellsCall, AsksCall, StopsCall, BeginsMaking, StepsMaking, BeginsEnding, StepsEnding, BeginsRow, StepsRow}
use Rattle.many_acts.specs.Acts.Doings.{Doing, Does, BeginsReclaiming, BeginsClearing, StepsReclaiming, Chooses, scene_chosen, is_vacant, IsLeft, AllAreFree, SlotsAreFree, still, Stage, MayDo, HasDone}
use Rattle.many_acts.specs.Acts.Leads.{MayBe, AllStand, Led}
use Rattle.many_acts.specs.Acts.Lists.{AllMayStep, AllAreActs, StepsAreActs, Course, ListsDetermine}
use Rattle.many_acts.specs.Acts.Reclaiming.{IsReclaimingAll, ReclaimedOn}
use Rattle.many_acts.proofs.Acts.Calls.{call_begins, call_goes_on, call_told, call_asked, call_stops}
use Rattle.many_acts.proofs.Acts.Chosen.{chosen_stand, left_chosen}
use Rattle.many_acts.proofs.Acts.Left.{by_act as left_by_act}
use Rattle.many_acts.proofs.Acts.Makings.{making_begins, making_goes_on, ending_begins, ending_goes_on}
use Rattle.many_acts.proofs.Acts.Once.{is_determined}
use Rattle.many_acts.proofs.Acts.Reclaiming.{reclaiming_is_by_acts}
use Rattle.many_acts.proofs.Acts.Rows.{row_begins, row_goes_on}
use Rattle.run_shows.proofs.Scenes.NoCall.{none_is}
use Rattle.run_shows.specs.Scenes.Scene.{Scene, at_first}

-- what the tests say of a slot
vacant_is : (u : Use) → is_vacant u ≡ true → u ≡ Vacant
vacant_is Vacant e = refl
vacant_is (Outside n) e = absurd (cc e)
vacant_is (Inside n) e = absurd (cc e)
vacant_is Changing e = absurd (cc e)

is_there : {X : Type 0} (o : Option X) → is_none o ≡ false → IsSome o
is_there None e = absurd (cc e)
is_there (Some x) e = refl

module _ {K V S : Type 0} (same : K → K → Bool) (hash : S → K → ℕ) (batch_size roots : ℕ) (slot : ℕ → ℕ) where
  -- at first all stand together
  first : AllStand {V = V} same hash batch_size roots slot (at_first roots)
  first =
      no_endings_begin V same same batch_size roots slot (at_start deferred_word roots) (λ m. None) (λ m i. None) (λ i. None)
      (no_makings_begin V same same batch_size roots slot (at_start deferred_word roots) (λ m. None) (λ m i. None)
      (no_maps_begin V same same batch_size slot (at_start deferred_word roots) (roots, [], refl)) (start_roots {Q = K} V same same batch_size roots slot) (λ m s here. absurd (cc here)))

  module _ (s : Scene K V) (all : AllStand same hash batch_size roots slot s) where
    abbrev LeadsOn : Act K V S → Type 0
    LeadsOn act = (told : Answer K V) × (n : Scene K V) × Led same hash batch_size roots slot act s told n × AllStand same hash batch_size roots slot n

    leads_on : ((hasher : S) → AreLawful same (hash hasher)) → (act : Act K V S) → MayBe same hash batch_size roots slot act s → LeadsOn act
    leads_on lawful (BeginsCall i m wanted) may = (let to = call_begins same hash batch_size roots slot s all i m wanted may in (Nothing, to.0, to.1, to.2))
    leads_on lawful (StepsCall i m g) may = call_goes_on same hash batch_size roots slot s all i m g may
    leads_on lawful (TellsCall i m reply) may = call_told same hash batch_size roots slot s all i m may reply
    leads_on lawful (AsksCall i m) may = call_asked same hash batch_size roots slot s all i m may
    leads_on lawful (StopsCall i m) may = call_stops same hash batch_size roots slot s all i m may
    leads_on lawful (BeginsMaking i map hasher given places) may = (let to = making_begins same hash batch_size roots slot s all i map hasher (lawful hasher) given places may in (Nothing, to.0, to.1, to.2))
    leads_on lawful (StepsMaking i g) may = making_goes_on same hash batch_size roots slot s all i g may
    leads_on lawful (BeginsEnding i m) may = (let to = ending_begins same hash batch_size roots slot s all i m may in (Nothing, to.0, to.1, to.2))
    leads_on lawful (StepsEnding i g) may = ending_goes_on same hash batch_size roots slot s all i g may
    leads_on lawful (BeginsRow i request) may = (let to = row_begins same hash batch_size roots slot s all i request may in (Nothing, to.0, to.1, to.2))
    leads_on lawful (StepsRow i g) may = (let to = row_goes_on same hash batch_size roots slot s all i g may in (Nothing, to.0, to.1, to.2))

    pub all_may_step : AllMayStep V same hash batch_size roots slot s
    all_may_step = record {
      calls = λ m i standing u stands here. (machines_stand_among V same same batch_size roots slot s.world s.maps s.calls s.makers s.enders all m standing stands i u here).0;
      makings = λ i b makes. (makings_stand_among {Q = K} V same same batch_size roots slot s.world s.maps s.calls s.makers s.enders all i b makes).0;
      endings = λ i f ends. (endings_stand {Q = K} V same same batch_size roots slot s.world s.maps s.calls s.makers s.enders all i f ends).0;
      rows = λ i no_call. (guards_stand_among {Q = K} V same same batch_size roots slot s.world s.maps s.calls s.makers s.enders all i (λ m. none_is (s.calls m i) (no_call m))).1;
      standing = λ m i u here. standing_of m i u here (s.maps m) refl;
    }
      where
        standing_of : (m i : ℕ) (u : UnderWay K V K) → s.calls m i ≡ Some u → (it : Option (Standing K)) → s.maps m ≡ it → (standing : Standing K) × (s.maps m ≡ Some standing)
        standing_of m i u here None none = absurd (cc (here, all.makings.standing.only m i none))
        standing_of m i u here (Some standing) is = (standing, is)

    all_are_acts : AllAreActs V same hash batch_size roots slot s
    all_are_acts = record {
      calls = λ m i standing u stands here m2 end st. steps_so s.world.memory (machine_plan same same standing.hash (machine_of u)) m2 end (all_may_step.calls m i standing u stands here) st;
      makings = λ i b makes m2 end st. steps_so s.world.memory (new_map_plan b.machine) m2 end (all_may_step.makings i b makes) st;
      endings = λ i f ends m2 end st. steps_so s.world.memory (end_map_plan f.machine) m2 end (all_may_step.endings i f ends) st;
      rows = λ i no_call w2 st. row_so deferred_word i (s.world.row i) s.world w2 (all_may_step.rows i no_call) st;
    }

  pub steps_are_acts : StepsAreActs V same hash batch_size roots slot
  steps_are_acts s all = (all_may_step s all, all_are_acts s all)

  abbrev DoesOn : Stage V same hash batch_size roots slot → Doing K V S → Type 0
  DoesOn p doing = (told : Answer K V) × (n : Stage V same hash batch_size roots slot) × HasDone V same hash batch_size roots slot doing p told n

  -- who reclaims all may begin, where nobody has anything under way
  module _ (s : Scene K V) (all : AllStand same hash batch_size roots slot s) (lists : ℕ → List ℕ) (left : IsLeft roots s lists) (word : batch_size < 2 ^ 64) (free : AllAreFree s) where
    abbrev Begins : ReclaimAll → ℕ → Type 0
    Begins c i = IsReclaimingAll V same batch_size roots slot s i lists c

    begins : (i : ℕ) → (IsSome (word_at s.world.memory (Slot 0 HEAD)) → Begins (reclaiming_all batch_size roots) i)
        × (IsQuiescent s.world → Begins (clearing roots) i) × (word_at s.world.memory (Slot 0 HEAD) ≡ None → IsQuiescent s.world)
    begins i =
        reclaiming_begins V same same batch_size roots slot s.maps s.calls s.makers s.enders s.world i lists word
        (record { together = all; no_calls = λ m j. none_is (s.calls m j) (free.no_call m j); no_makers = λ j. none_is (s.makers j) (free.no_making j); no_enders = λ j. none_is (s.enders j) (free.no_ending j) })
        (λ j. rests_is (s.world.row j) (free.rest j))
        ((left_is_left_behind K V roots s.world s.maps s.makers s.enders lists (λ j. none_is (s.makers j) (free.no_making j)) (λ j. none_is (s.enders j) (free.no_ending j))).0 left)

    quiet : SlotsAreFree s → IsQuiescent s.world
    quiet slots = record { rests = λ j. rests_is (s.world.row j) (free.rest j); vacant = λ t. vacant_is (s.world.uses t) (slots.vacant t); none = slots.none }

  -- it goes on by a step, or has come to its end, where nothing is left behind roots
  module _ (s : Scene K V) (all : AllStand same hash batch_size roots slot s) (i : ℕ) (lists : ℕ → List ℕ) (c : ReclaimAll) (idle : IsReclaimingAll V same batch_size roots slot s i lists c)
      (g : Grant) (n : Scene K V) (lists2 : ℕ → List ℕ) (c2 : ReclaimAll) (idle2 : IsReclaimingAll V same batch_size roots slot n i lists2 c2) where
    abbrev Stepped : Type 0
    Stepped = DoesOn (s, all, inr (i, lists, c, idle)) (StepsReclaiming g)

    left_then : (told : Settled (Node K V)) → ReclaimedOn V same batch_size roots slot s i lists c g told n lists2 c2 → told ≡ settled.Done → IsLeft roots n (λ r. [])
    left_then told on done =
        subst (λ (x : Scene K V). IsLeft roots x (λ r. [])) (sym on.comes)
        (nothing_is_left K V roots on.did.w2 on.did.maps2 s.makers s.enders (λ r below. (elim ((on.did.over done).free r below)
        as (λ _. IsSomebodys on.did.maps2 s.makers s.enders r ⊎ IsFreeRoot on.did.w2 r) [
          | inl is ↦ inl (inl is)
          | inr is ↦ inr is
        ])))

    goes_by : (told : Settled (Node K V)) → still told (i, c2) ≡ Some (i, c2) → ReclaimedOn V same batch_size roots slot s i lists c g told n lists2 c2 → Stepped
    goes_by told goes on = (
      OfReclaiming told,
      (n, idle2.stand.together, inr (i, lists2, c2, idle2)),
      record {
        caller = i;
        machine = c;
        here = refl;
        end = told;
        lists = lists2;
        next = c2;
        did = on;
        tells = refl;
        goes_on = sym goes;
        behind_is = λ not_done. refl;
      },
    )

    stepped_by : (told : Settled (Node K V)) → ReclaimedOn V same batch_size roots slot s i lists c g told n lists2 c2 → Stepped
    stepped_by settled.Goes on = goes_by settled.Goes refl on
    stepped_by settled.Waits on = goes_by settled.Waits refl on
    stepped_by (settled.Gave value) on = goes_by (settled.Gave value) refl on
    stepped_by settled.Done on = (
      OfReclaiming settled.Done,
      (n, idle2.stand.together, inl ((λ r. []), left_then settled.Done on refl)),
      record {
        caller = i;
        machine = c;
        here = refl;
        end = settled.Done;
        lists = lists2;
        next = c2;
        did = on;
        tells = refl;
        goes_on = refl;
        behind_is = λ not_done. absurd (not_done refl);
      },
    )

  -- So each of what may be done leads on.
  does_on : ((hasher : S) → AreLawful same (hash hasher)) → (p : Stage V same hash batch_size roots slot) (doing : Doing K V S) → MayDo V same hash batch_size roots slot doing p → DoesOn p doing
  does_on lawful (s, all, inl (lists, left)) (Does act) (idle, may) =
      let to = leads_on s all lawful act may in
      let then = left_by_act same hash batch_size roots slot s to.1 all lists left act may to.0 to.2 in (to.0, (to.1, to.3, inl then), (to.2, refl))
  does_on lawful (s, all, inl (lists, left)) (BeginsReclaiming i) (idle, word, free, there) =
      (Nothing, (s, all, inr (i, lists, reclaiming_all batch_size roots, (begins s all lists left word free i).0 (is_there (word_at s.world.memory (Slot 0 HEAD)) there))), (refl, refl, refl, refl))
  does_on lawful (s, all, inl (lists, left)) (BeginsClearing i) (idle, word, free, slots) =
      (Nothing, (s, all, inr (i, lists, clearing roots, (begins s all lists left word free i).1 (quiet s all lists left word free slots))), (refl, refl, refl, refl))
  does_on lawful (s, all, inl (lists, left)) (StepsReclaiming g) (word, may) = absurd (cc may)
  does_on lawful (s, all, inr (i, lists, c, idle)) (StepsReclaiming g) (word, may) =
      let to = (reclaiming_is_by_acts V same batch_size roots slot word s i lists c idle).2 g may in stepped_by s all i lists c idle g to.1 to.2 to.3 to.5 to.0 to.4
  does_on lawful (s, all, inr (i, lists, c, reclaims)) (Does act) may = absurd (cc (may.0))
  does_on lawful (s, all, inr (j, lists, c, reclaims)) (BeginsReclaiming i) may = absurd (cc (may.0))
  does_on lawful (s, all, inr (j, lists, c, reclaims)) (BeginsClearing i) may = absurd (cc (may.0))
  does_on lawful (s, all, inl (lists, left)) (Chooses choice) idle =
      (Nothing, (scene_chosen choice s, chosen_stand V same hash batch_size roots slot s all choice, inl (lists, left_chosen choice roots s lists left)), (refl, refl, refl, refl))
  does_on lawful (s, all, inr (j, lists, c, reclaims)) (Chooses choice) may = absurd (cc may)

  -- at first all roots are free
  free_at_first : IsLeft {K = K} {V = V} roots (at_first roots) (λ r. [])
  free_at_first = nothing_is_left K V roots (at_start deferred_word roots) (λ m. None) (λ i. None) (λ i. None) (λ r below. inr (zero_at roots r below, zero_at roots r below))

  course : ((hasher : S) → AreLawful same (hash hasher)) → Course V same hash batch_size roots slot
  course lawful = record {
    first = first;
    left = free_at_first;
    next = λ p doing may. (does_on lawful p doing may).1;
    told = λ p doing may. (does_on lawful p doing may).0;
    leads = λ p doing may. (does_on lawful p doing may).2;
  }

  pub lists_determine : ListsDetermine V same hash batch_size roots slot
  lists_determine lawful = (course lawful, λ course. is_determined same hash batch_size roots slot course)

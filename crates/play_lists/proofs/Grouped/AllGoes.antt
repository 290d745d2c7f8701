-- All is reclaimed, in the midst of an event: the list of acts goes on where that begins, by each of its steps, and where it is over.
use Rattle.std.specs.Prelude.{◌<◌, ◌^◌, ◌++◌, Option, Some, None, option_map, length, slice_index_or, IsSome}
use Rattle.std.specs.Option.{is_none, is_some}
use Rattle.std.proofs.Common.{◌≡◌, ℕ, Bool, false, List, inl, inr, refl, sym, ap, subst, ◌∙◌}
use Rattle.seize_acts.specs.Acts.Acts.{rests}
use Rattle.seize_acts.specs.Acts.Answers.{Grant, stepped, then_on}
use Rattle.seize_acts.proofs.Quiet.Slots.Stages.{never_taken}
use Rattle.run_schedules.specs.Given.SeizeWordsMem.{Mem, Can, Took, value_at, word_at}
use Rattle.run_schedules.specs.Given.SeizeWordsPlan.{May}
use Rattle.run_schedules.specs.Given.SeizeWordsDeclared.at.At.TheVariants.{Slot}
use Rattle.seize.specs.ReclaimAll.{clearing, reclaim_all_plan, reclaiming_all}
use Rattle.seize.specs.World.{Rests}
use Rattle.seize.specs.declared.rows.reclaim_all.ReclaimAll.{ReclaimAll}
use Rattle.seize.specs.declared.rows.settle.Settled.{Settled}
use Rattle.seize.specs.declared.rows.settle.Settled.TheVariants as settled
use Rattle.seize.specs.declared.states.TheConstants.{HEAD}
use Rattle.map_tables.specs.Nodes.{deferred_word, was_left}
use Rattle.map_tables.specs.declared.node.Node.{Node}
use Rattle.run_kept.specs.Given.EffectsDeclared.changed.Changed.{Changed}
use Rattle.many_acts.specs.Given.CallersRows.{IsRowOn}
use Rattle.many_acts.specs.Given.FinishesEndings.{EndingsTogether, Finishing}
use Rattle.many_acts.specs.Given.FinishesMachines.{machine_of}
use Rattle.many_acts.specs.Given.FinishesMakings.{Beginning}
use Rattle.many_acts.specs.Given.FinishesMaps.{Standing}
use Rattle.many_acts.proofs.Given.ScenesGoes.{same_map_keeps}
use Rattle.many_acts.specs.Given.ScenesHeld.{Held}
use Rattle.many_acts.specs.Given.ScenesReclaiming.{ReclaimingOutcomeHolds}
use Rattle.many_acts.specs.Given.ScenesScene.{Scene, slot_of}
use Rattle.many_acts.specs.Given.ReclaimsReclaims.{AllIsReclaimed}
use Rattle.many_acts.specs.Given.ScenesDeclared.callers.TheConstants.{SLOTS}
use Rattle.run_schedules.specs.declared.effect.Effect.{Effect}
use Rattle.run_schedules.specs.declared.event.Event.{Event}
use Rattle.run_schedules.specs.declared.outcome.Outcome.{Outcome}
use Rattle.run_schedules.specs.Schedules.After.{moment}
use Rattle.run_schedules.specs.Schedules.Entry.{Entry}
use Rattle.run_kept.specs.Given.EffectsEffects.{effects_of, known_after}
use Rattle.run_kept.specs.Given.EffectsKnown.{Known}
use Rattle.run_kept.specs.Given.EffectsDeclared.acting.Acting.TheVariants as acting
use Rattle.run_finds.specs.Given.ExecutorIsThere.{HasRow, IsThere, IsUsedAs, StaysGiven, call_in, ending_in, held_by, making_in, use_at, work_of}
use Rattle.run_finds.specs.Given.ExecutorDeclared.executor.Executor.{Executor}
use Rattle.run_finds.specs.Given.ExecutorDeclared.worker.Work.{Work}
use Rattle.run_finds.specs.Given.ReclaimingReclaiming.{IsReclaimingThere, NobodyHas, ReclaimsThere}
use Rattle.run_finds.specs.Given.ExecutorDeclared.caller.NamedCaller.{NamedCaller}
use Rattle.many_acts.specs.Acts.Acts.{Answer, OfReclaiming}
use Rattle.many_acts.specs.Acts.AsSteps.{changed_of}
use Rattle.many_acts.specs.Acts.Doings.{AllAreFree, BeginsClearing, BeginsReclaiming, HasStepped, MayDo, SlotsAreFree, Stage, StepsReclaiming, behind, is_vacant, reclaiming, still}
use Rattle.many_acts.specs.Acts.Lists.{Course}
use Rattle.many_acts.specs.Acts.Reclaiming.{IsReclaimingAll, reclaiming_steps}
use Rattle.many_acts.proofs.Acts.Reclaiming.{reclaiming_is_by_acts}
use Rattle.run_schedules.specs.Deeds.Deeds.{ReclaimsAll}
use Rattle.play_lists.proofs.Drives.Told.{told_so}
use Rattle.play_lists.specs.Played.Play.{State, all_begun, all_stepped, is_over, play, settled_outcome}
use Rattle.play_lists.specs.Played.Reached.{IsOfStage}
use Rattle.play_lists.proofs.Played.PlayedAs.{reclaimed_as}
use Rattle.play_lists.specs.Grouped.Grouping.{MayHave, Names}
use Rattle.play_lists.specs.Grouped.Reach.{LeadsTo, Reach}
use Rattle.play_lists.proofs.Grouped.Aside.{all_aside, begun_aside, works_on}
use Rattle.play_lists.proofs.Grouped.Midst.{InEvent}
use Rattle.play_lists.proofs.Grouped.OneMore.{IsBy, as_led, as_reach, one_more}
use Rattle.run_finds.proofs.Given.General.{same_some, none_mapped as none_of}

-- a word that is there
there_is : {X : Type 0} (o : Option X) → IsSome o → is_none o ≡ false
there_is None some = absurd (cc some)
there_is (Some x) some = refl

-- whoever reclaims all is as far as the stage says
reclaimed_at : {K S : Type 0} (V : Type 0) (same : K → K → Bool) (by_hasher : S → K → ℕ) (b r : ℕ) (p : Stage V same by_hasher b r slot_of) (i : ℕ) (c : ReclaimAll) → reclaiming V same by_hasher b r slot_of p ≡ Some (i, c)
    → IsReclaimingAll V same b r slot_of p.0 i (behind V same by_hasher b r slot_of p) c
reclaimed_at V same by_hasher b r (s, all, inl left) i c is = absurd (cc is)
reclaimed_at V same by_hasher b r (s, all, inr (j, lists, d, idle)) i c is =
    let one : ◌≡◌ {A = ℕ × ReclaimAll} (j, d) (i, c) = same_some (j, d) (i, c) is in
    subst (λ (q : ℕ × ReclaimAll). IsReclaimingAll V same b r slot_of s q.0 lists q.1) one idle

-- a step of it that is not the last goes on
still_on : {T : Type 0} (said : Settled T) (it : ℕ × ReclaimAll) → is_over said ≡ false → still said it ≡ Some it
still_on settled.Goes it on = refl
still_on settled.Waits it on = refl
still_on (settled.Gave value) it on = refl
still_on settled.Done it on = absurd (cc on)

-- where a step of it leads, as it goes on, and where it is over
module _ {K V : Type 0} (same : K → K → Bool) (s : Scene K V) (i : ℕ) (lists : ℕ → List ℕ) (GoesOn : Scene K V → (ℕ → List ℕ) → ReclaimAll → Type 0) (Is : Scene K V → Type 0) (old new : Held K V) (s2 : Scene K V)
    (lists2 : ℕ → List ℕ) (all : ReclaimAll) where
  goes_on_there : (said : Settled (Node K V)) → is_over said ≡ false → ReclaimingOutcomeHolds same s i lists GoesOn Is old new s2 lists2 all said → GoesOn s2 lists2 all
  goes_on_there settled.Goes on comes = comes
  goes_on_there settled.Waits on comes = comes
  goes_on_there (settled.Gave value) on comes = comes
  goes_on_there settled.Done on comes = absurd (cc on)

  over_there : (said : Settled (Node K V)) → said ≡ settled.Done → ReclaimingOutcomeHolds same s i lists GoesOn Is old new s2 lists2 all said → AllIsReclaimed old.roots s2.world s2.maps × Is s2
  over_there said done comes = subst (λ (t : Settled (Node K V)). ReclaimingOutcomeHolds same s i lists GoesOn Is old new s2 lists2 all t) done comes

module _ {K V S : Type 0} (same : K → K → Bool) (by_hasher : S → K → ℕ) (h : S) (b r : ℕ) where
  -- Caller i reclaims all, as far as this, in what the executor holds.
  pub record IsAll (e : Executor K V S) (i : ℕ) (c : ReclaimAll) (p : Stage V same by_hasher b r slot_of) : Type 0 where
    pub here : reclaiming V same by_hasher b r slot_of p ≡ Some (i, c)
    pub memory : p.0.world.memory ≡ e.memory.memory
    pub maps : (m : ℕ) → option_map (λ standing. standing.setting) (p.0.maps m) ≡ slice_index_or e.maps.items m None
    pub hashes : (m : ℕ) (standing : Standing K) → p.0.maps m ≡ Some standing → standing.hash ≡ by_hasher h

module _ {K V S : Type 0} (same : K → K → Bool) (by_hasher : S → K → ℕ) (shards : ℕ) (log : List (Entry K V)) (event : Event K V) (calls : List (NamedCaller V))
    (may_all : (names : Names) (last : Bool) → MayHave names (moment log) event (ReclaimsAll last)) (e : Executor K V S) (any : Course V same by_hasher e.batch_size e.roots slot_of) (i : ℕ) where
  abbrev St : Type 0
  St = Stage V same by_hasher e.batch_size e.roots slot_of

  abbrev In : (did : List Effect) → Outcome V → State K V S → Type 0
  In did outcome x = InEvent log event did 0 outcome calls x

  abbrev All : Executor K V S → ReclaimAll → St → Type 0
  All x c p = IsAll same by_hasher e.hasher e.batch_size e.roots x i c p

  abbrev At : (St → Type 0) → (did : List Effect) → Outcome V → Known → Type 0
  At Stands did outcome noted = LeadsTo same by_hasher e.hasher e.batch_size e.roots shards Stands (In did outcome) noted

  -- It begins where nobody has anything under way: with the slots if one was ever taken, else with the roots.
  module _ (nobody : NobodyHas e) (did : List Effect) (outcome : Outcome V) (noted : Known) where
    abbrev There : St → Type 0
    There p = IsBy same by_hasher e.hasher e.batch_size e.roots shards (In did outcome) e noted p

    rest_there : (p : St) → IsThere same (by_hasher e.hasher) e p.0 → (j : ℕ) → p.0.world.row j ≡ Rests
    rest_there p there j = subst (λ (x : Option (Work K V)). HasRow x (p.0.world.row j)) (nobody j) (there.rows j)

    all_free : (p : St) → IsThere same (by_hasher e.hasher) e p.0 → AllAreFree p.0
    all_free p there = record {
      no_call = λ m j. ap is_none (none_of machine_of (p.0.calls m j) (there.calls m j ∙ ap (λ (x : Option (Work K V)). call_in x m) (nobody j)));
      no_making = λ j. ap is_none (none_of (λ (d : Beginning K). (d.map, d.machine)) (p.0.makers j) (there.makers j ∙ ap making_in (nobody j)));
      no_ending = λ j. ap is_none (none_of (λ (f : Finishing K V). f.machine) (p.0.enders j) (there.enders j ∙ ap ending_in (nobody j)));
      rest = λ j. ap rests (rest_there p there j);
    }

    slots_free : word_at e.memory.memory (Slot 0 HEAD) ≡ None → (p : St) → IsThere same (by_hasher e.hasher) e p.0 → SlotsAreFree p.0
    slots_free none p there =
        let quiet =
        never_taken deferred_word e.batch_size e.roots 0 p.0.world there.held.together.makings.standing.came (rest_there p there) (ap (λ (m : Mem (Node K V)). word_at m (Slot 0 HEAD)) there.held.memory ∙ none) in
        record { vacant = λ t. ap is_vacant (quiet.vacant t); none = λ t few. quiet.none t few }

    begun_all : (c : ReclaimAll) (p n : St) → There p → (n.0 ≡ p.0) → reclaiming V same by_hasher e.batch_size e.roots slot_of n ≡ Some (i, c) → All e c n
    begun_all c p n so is here = record {
      here = here;
      memory = ap (λ (s : Scene K V). s.world.memory) is ∙ so.1.held.memory;
      maps = λ m. ap (λ (s : Scene K V). option_map (λ standing. standing.setting) (s.maps m)) is ∙ so.1.maps m;
      hashes = λ m standing stands. so.1.held.hashes m standing (sym (ap (λ (s : Scene K V). s.maps m) is) ∙ stands);
    }

    begun_so : (c : ReclaimAll) (x y : State K V S) → y ≡ all_begun c x → x.known ≡ noted → In did outcome x → (y.known ≡ noted) × In did outcome y
    begun_so c x y is knows so = (
      ap (λ (w : State K V S). w.known) is ∙ knows,
      subst (In did outcome) (sym is) (begun_aside log event did 0 outcome calls x so (all_begun c x).now refl),
    )

    pub slots_begin : IsSome (word_at e.memory.memory (Slot 0 HEAD)) → Reach same by_hasher e.hasher e.batch_size e.roots shards (In did outcome) e noted
        → At (All e (reclaiming_all e.batch_size e.roots)) did outcome noted
    slots_begin some at =
        one_more same by_hasher e.hasher e.batch_size e.roots shards any noted noted (In did outcome) (In did outcome) There (All e (reclaiming_all e.batch_size e.roots)) (BeginsReclaiming i) tt
        (λ p so. (ap is_none so.0, so.1.held.small, all_free p so.1, there_is (word_at p.0.world.memory (Slot 0 HEAD)) (ap (λ (m : Mem (Node K V)). is_some (word_at m (Slot 0 HEAD))) so.1.held.memory ∙ some)))
        (λ told p n so done. begun_all (reclaiming_all e.batch_size e.roots) p n so done.1 done.3) (λ aborts x so. tt) (λ value. value)
        (λ value aborts x y p stage so its played knows was. begun_so (reclaiming_all e.batch_size e.roots) x y (sym (same_some (all_begun (reclaiming_all e.batch_size e.roots) x) y played)) knows was)
        (as_led same by_hasher e.hasher e.batch_size e.roots shards (In did outcome) e noted at)

    pub roots_begin : word_at e.memory.memory (Slot 0 HEAD) ≡ None → Reach same by_hasher e.hasher e.batch_size e.roots shards (In did outcome) e noted → At (All e (clearing e.roots)) did outcome noted
    roots_begin none at =
        one_more same by_hasher e.hasher e.batch_size e.roots shards any noted noted (In did outcome) (In did outcome) There (All e (clearing e.roots)) (BeginsClearing i) tt
        (λ p so. (ap is_none so.0, so.1.held.small, all_free p so.1, slots_free none p so.1)) (λ told p n so done. begun_all (clearing e.roots) p n so done.1 done.3) (λ aborts x so. tt) (λ value. value)
        (λ value aborts x y p stage so its played knows was. begun_so (clearing e.roots) x y (sym (same_some (all_begun (clearing e.roots) x) y played)) knows was)
        (as_led same by_hasher e.hasher e.batch_size e.roots shards (In did outcome) e noted at)

  -- Its step, which said this: its entry is one of the event.
  module _ (e2 : Executor K V S) (given : StaysGiven e e2) (nobody : NobodyHas e) (slots : length e.slots.items ≡ SLOTS) (small : e.batch_size < 2 ^ 64) (c c2 : ReclaimAll) (said : Settled (Node K V))
      (leads : (s : Scene K V) (lists : ℕ → List ℕ) → IsReclaimingThere same (by_hasher e.hasher) e s i lists c → ReclaimsThere same (by_hasher e.hasher) s i lists e e2 c c2 said) (did did2 : List Effect)
      (noted noted2 : Known) (did_is : did2 ≡ did ++ effects_of acting.Row noted e2.memory.changed) (noted_is : noted2 ≡ known_after acting.Row e2.memory.changed noted) (outcome : Outcome V) where
    -- where it stands in a scene
    reclaims_there : (p : St) → All e c p → IsReclaimingThere same (by_hasher e.hasher) e p.0 i (behind V same by_hasher e.batch_size e.roots slot_of p) c
    reclaims_there p so = record {
      held = record { memory = so.memory; under_way = reclaimed_at V same by_hasher e.batch_size e.roots p i c so.here; hashes = so.hashes; small = small };
      nobody = nobody;
      maps = so.maps;
      slots = slots;
    }

    abbrev led : (p : St) (so : All e c p) → ReclaimsThere same (by_hasher e.hasher) p.0 i (behind V same by_hasher e.batch_size e.roots slot_of p) e e2 c c2 said
    led p so = leads p.0 (behind V same by_hasher e.batch_size e.roots slot_of p) (reclaims_there p so)

    -- it is computed with some choice
    found : (p : St) → All e c p → (g : Grant) × (stepped e.memory.memory g (reclaim_all_plan deferred_word was_left c) ≡ Some (e2.memory.memory, (c2, said)))
        × (changed_of e.memory.memory g (reclaim_all_plan deferred_word was_left c) ≡ e2.memory.changed)
    found p so =
        let may = (reclaiming_is_by_acts V same e.batch_size e.roots slot_of small p.0 i (behind V same by_hasher e.batch_size e.roots slot_of p) c (reclaimed_at V same by_hasher e.batch_size e.roots p i c so.here)).0 in
        told_so e.memory.memory (reclaim_all_plan deferred_word was_left c) e2.memory.memory e2.memory.changed (c2, said)
        (subst (λ (m : Mem (Node K V)). May Can Took value_at m (reclaim_all_plan deferred_word was_left c)) so.memory may) (led p so).0

    module _ (g : Grant) (computed : stepped e.memory.memory g (reclaim_all_plan deferred_word was_left c) ≡ Some (e2.memory.memory, (c2, said)))
        (changed : changed_of e.memory.memory g (reclaim_all_plan deferred_word was_left c) ≡ e2.memory.changed) where
      may_step : (p : St) → All e c p → MayDo V same by_hasher e.batch_size e.roots slot_of (StepsReclaiming g) p
      may_step p so = (
        small,
        ap (λ (o : Option (ℕ × ReclaimAll)). is_none (then_on o (λ it. reclaiming_steps p.0 g it.1))) so.here
            ∙ ap (λ (m : Mem (Node K V)). is_none (stepped m g (reclaim_all_plan deferred_word was_left c))) so.memory ∙ ap is_none computed,
      )

      module _ (told : Answer K V) (p n : St) (so : All e c p) (st : HasStepped V same by_hasher e.batch_size e.roots slot_of g p told n) where
        it_is : ◌≡◌ {A = ℕ × ReclaimAll} (st.caller, st.machine) (i, c)
        it_is = same_some (st.caller, st.machine) (i, c) (sym st.here ∙ so.here)

        end_is : ◌≡◌ {A = Mem (Node K V) × (ReclaimAll × Settled (Node K V))} (st.did.memory, (st.next, st.end)) (e2.memory.memory, (c2, said))
        end_is = same_some (st.did.memory, (st.next, st.end)) (e2.memory.memory, (c2, said))
            (sym st.did.computed ∙ ap (λ (q : ℕ × ReclaimAll). reclaiming_steps p.0 g q.1) it_is ∙ ap (λ (m : Mem (Node K V)). stepped m g (reclaim_all_plan deferred_word was_left c)) so.memory ∙ computed)

        memory_then : n.0.world.memory ≡ e2.memory.memory
        memory_then = ap (λ (s : Scene K V). s.world.memory) st.did.comes ∙ st.did.did.memory ∙ ap (λ (q : Mem (Node K V) × (ReclaimAll × Settled (Node K V))). q.0) end_is

        keeps_then : (m : ℕ) → (option_map (λ standing. standing.setting) (n.0.maps m) ≡ option_map (λ standing. standing.setting) (p.0.maps m))
            × ((standing : Standing K) → n.0.maps m ≡ Some standing → standing.hash ≡ by_hasher e.hasher)
        keeps_then m =
            let keeps = same_map_keeps (by_hasher e.hasher) (p.0.maps m) (st.did.did.maps2 m) (so.hashes m) (st.did.did.as_they_were m) in (
              ap (λ (s : Scene K V). option_map (λ standing. standing.setting) (s.maps m)) st.did.comes ∙ keeps.setting,
              λ standing is. keeps.hashes standing (sym (ap (λ (s : Scene K V). s.maps m) st.did.comes) ∙ is),
            )

        -- settings are those of the executor then
        maps_by : ((m : ℕ) → option_map (λ standing. standing.setting) ((led p so).1.maps2 m) ≡ slice_index_or e2.maps.items m None) → (m : ℕ)
            → option_map (λ standing. standing.setting) (n.0.maps m) ≡ slice_index_or e2.maps.items m None
        maps_by there m = (keeps_then m).0 ∙ sym (same_map_keeps (by_hasher e.hasher) (p.0.maps m) ((led p so).1.maps2 m) (so.hashes m) ((led p so).1.as_they_were m)).setting ∙ there m

        here_then : is_over said ≡ false → reclaiming V same by_hasher e.batch_size e.roots slot_of n ≡ Some (i, c2)
        here_then on =
            st.goes_on ∙ ap (λ (q : Mem (Node K V) × (ReclaimAll × Settled (Node K V))). still q.1.1 (st.caller, q.1.0)) end_is ∙ ap (λ (q : ℕ × ReclaimAll). still said (q.0, c2)) it_is
            ∙ still_on said (i, c2) on

        goes_then : is_over said ≡ false → All e2 c2 n
        goes_then on =
            let there = goes_on_there same p.0 i (behind V same by_hasher e.batch_size e.roots slot_of p) (λ s lists all. IsReclaimingThere same (by_hasher e.hasher) e2 s i lists all) (IsThere same (by_hasher e.hasher) e2)
            (held_by e) (held_by e2) (record p.0 { world = (led p so).1.w2; maps = (led p so).1.maps2 }) (led p so).1.lists2 c2 said on (led p so).2 in
            record { here = here_then on; memory = memory_then; maps = maps_by there.maps; hashes = λ m standing stands. (keeps_then m).1 standing stands }

        -- and where it is over, the executor is there
        over_then : said ≡ settled.Done → (reclaiming V same by_hasher e.batch_size e.roots slot_of n ≡ None) × IsThere same (by_hasher e.hasher) e2 n.0
        over_then done =
            let there = over_there same p.0 i (behind V same by_hasher e.batch_size e.roots slot_of p) (λ s lists all. IsReclaimingThere same (by_hasher e.hasher) e2 s i lists all) (IsThere same (by_hasher e.hasher) e2)
            (held_by e) (held_by e2) (record p.0 { world = (led p so).1.w2; maps = (led p so).1.maps2 }) (led p so).1.lists2 c2 said done (led p so).2 in
            let end_done : st.end ≡ settled.Done = ap (λ (q : Mem (Node K V) × (ReclaimAll × Settled (Node K V))). q.1.1) end_is ∙ done in
            let nothing = (st.did.did.over end_done).nothing in
            let nothing2 = ((led p so).1.over done).nothing in
            let n2 : Scene K V = record p.0 { world = st.did.did.w2; maps = st.did.did.maps2 } in
            let idle = reclaimed_at V same by_hasher e.batch_size e.roots p i c so.here in (
              st.goes_on ∙ ap (λ (t : Settled (Node K V)). still t (st.caller, st.next)) end_done,
              record {
                held = record {
                  memory = memory_then;
                  together = subst (λ (x : ℕ). EndingsTogether V same same x e2.roots slot_of n.0.world n.0.maps n.0.calls n.0.makers n.0.enders) (sym given.1)
                      (subst (λ (x : ℕ). EndingsTogether V same same e.batch_size x slot_of n.0.world n.0.maps n.0.calls n.0.makers n.0.enders) (sym given.2) n.1);
                  hashes = λ m standing stands. (keeps_then m).1 standing stands;
                  hashes_made = λ j d makes. absurd (let none = ap (λ (s : Scene K V). s.makers j) st.did.comes ∙ idle.stand.no_makers j in cc (none, makes));
                  on_slots = λ j. subst (IsRowOn (slot_of j)) (sym (ap (λ (s : Scene K V). s.world.row j) st.did.comes ∙ nothing.0 j)) tt;
                  small = there.1.held.small;
                };
                maps = maps_by there.1.maps;
                calls = λ m j. ap (λ (s : Scene K V). option_map machine_of (s.calls m j)) st.did.comes ∙ there.1.calls m j;
                makers = λ j. ap (λ (s : Scene K V). option_map (λ d. (d.map, d.machine)) (s.makers j)) st.did.comes ∙ there.1.makers j;
                enders = λ j. ap (λ (s : Scene K V). option_map (λ f. f.machine) (s.enders j)) st.did.comes ∙ there.1.enders j;
                numbers = λ j d makes. there.1.numbers j d (sym (ap (λ (s : Scene K V). s.makers j) st.did.comes) ∙ makes);
                rows = λ j. subst (HasRow (work_of e2 j)) (sym (ap (λ (s : Scene K V). s.world.row j) st.did.comes ∙ nothing.0 j)) (subst (HasRow (work_of e2 j)) (nothing2.0 j) (there.1.rows j));
                slots = there.1.slots;
                uses = λ t. subst (IsUsedAs (use_at e2 t)) (sym (ap (λ (s : Scene K V). s.world.uses t) st.did.comes ∙ nothing.2 t)) (subst (IsUsedAs (use_at e2 t)) (nothing2.2 t) (there.1.uses t));
              },
            )

      next : (x y : State K V S) (p : St) → IsOfStage by_hasher same e.batch_size e.roots p x.now → All e c p → (aborts : ℕ → V) → play same by_hasher e.batch_size e.roots aborts (StepsReclaiming g) x ≡ Some y → x.known ≡ noted
          → In did outcome x → (y.known ≡ noted2) × In did2 (settled_outcome said) y
      next x y p stage so aborts played knows was =
          let came = reclaimed_as same by_hasher e.batch_size e.roots aborts x y g played in
          let memory : x.now.memory ≡ e.memory.memory = stage.scene.memory ∙ so.memory in
          let machine : came.0 ≡ c = same_some came.0 c (sym came.1 ∙ stage.all ∙ ap (option_map (λ (it : ℕ × ReclaimAll). it.1)) so.here) in
          let end : ◌≡◌ {A = Mem (Node K V) × (ReclaimAll × Settled (Node K V))} came.2 (e2.memory.memory, (c2, said)) = same_some came.2 (e2.memory.memory, (c2, said))
          (sym came.3 ∙ ap (λ (d : ReclaimAll). stepped x.now.memory g (reclaim_all_plan deferred_word was_left d)) machine ∙ ap (λ (m : Mem (Node K V)). stepped m g (reclaim_all_plan deferred_word was_left c)) memory ∙ computed) in
          let change : changed_of x.now.memory g (reclaim_all_plan deferred_word was_left came.0) ≡ e2.memory.changed =
          ap (λ (d : ReclaimAll). changed_of x.now.memory g (reclaim_all_plan deferred_word was_left d)) machine ∙ ap (λ (m : Mem (Node K V)). changed_of m g (reclaim_all_plan deferred_word was_left c)) memory ∙ changed in
          let z = all_stepped e2.memory.changed x (e2.memory.memory, (c2, said)) in
          let is : y ≡ z = came.4 ∙ ap (λ (k : Changed). all_stepped k x came.2) change ∙ ap (λ (q : Mem (Node K V) × (ReclaimAll × Settled (Node K V))). all_stepped e2.memory.changed x q) end in
          works_on log event did 0 outcome calls x was z.now refl acting.Row e2.memory.changed (ReclaimsAll (is_over said)) (settled_outcome said) (OfReclaiming said) (all_aside (is_over said)) (λ n l. refl)
          (λ names. may_all names (is_over said)) noted noted2 did2 knows did_is noted_is y is

    -- So the list goes on by it, or is over.
    pub all_steps : is_over said ≡ false → At (All e c) did outcome noted → At (All e2 c2) did2 (settled_outcome said) noted2
    all_steps on at =
        let to = at.leads any in
        let f = found to.0.0 to.2 in
        one_more same by_hasher e.hasher e.batch_size e.roots shards any noted noted2 (In did outcome) (In did2 (settled_outcome said)) (All e c) (All e2 c2) (StepsReclaiming f.0) tt (may_step f.0 f.1 f.2)
        (λ told p n so done. goes_then f.0 f.1 f.2 told p n so done on) (λ aborts x so. tt) (λ value. value) (λ value aborts x y p stage so its played knows was. next f.0 f.1 f.2 x y p stage so aborts played knows was) at

    pub all_ends : said ≡ settled.Done → At (All e c) did outcome noted → Reach same by_hasher e.hasher e.batch_size e.roots shards (In did2 (settled_outcome said)) e2 noted2
    all_ends done at =
        let to = at.leads any in
        let f = found to.0.0 to.2 in
        as_reach same by_hasher e.hasher e.batch_size e.roots shards (In did2 (settled_outcome said)) e2 noted2 given.0 given.1 given.2
        (one_more same by_hasher e.hasher e.batch_size e.roots shards any noted noted2 (In did outcome) (In did2 (settled_outcome said)) (All e c)
        (IsBy same by_hasher e.hasher e.batch_size e.roots shards (In did2 (settled_outcome said)) e2 noted2) (StepsReclaiming f.0) tt (may_step f.0 f.1 f.2)
        (λ told p n so done_it. over_then f.0 f.1 f.2 told p n so done_it done) (λ aborts x so. tt) (λ value. value)
        (λ value aborts x y p stage so its played knows was. next f.0 f.1 f.2 x y p stage so aborts played knows was) at)

    -- while it goes on nobody has anything under way
    pub nobody_then : is_over said ≡ false → At (All e c) did outcome noted → NobodyHas e2 × (length e2.slots.items ≡ SLOTS)
    nobody_then on at =
        let to = at.leads any in
        let p = to.0.0 in
        let there = goes_on_there same p.0 i (behind V same by_hasher e.batch_size e.roots slot_of p) (λ s lists all. IsReclaimingThere same (by_hasher e.hasher) e2 s i lists all) (IsThere same (by_hasher e.hasher) e2)
        (held_by e) (held_by e2) (record p.0 { world = (led p to.2).1.w2; maps = (led p to.2).1.maps2 }) (led p to.2).1.lists2 c2 said on (led p to.2).2 in
        (there.nobody, there.slots)

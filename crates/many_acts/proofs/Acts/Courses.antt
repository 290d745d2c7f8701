-- By any two courses an act leads from what is alike to what is alike.
use Rattle.std.specs.Prelude.{◌≢◌, ◌++◌, Option, Some, None, option_map}
use Rattle.std.specs.Option.{is_none}
use Rattle.std.proofs.Common.{◌≡◌, ℕ, Bool, true, false, [], ◌∷◌, ◌⊎◌, inl, inr, refl, ap, sym, subst, ◌∙◌}
use Rattle.std.proofs.lemmas.Bool.{cases_eq}
use Rattle.run_shows.specs.Given.SeizeWordsMem.{Mem}
use Rattle.run_shows.specs.Given.SeizeWorld.{World, Row, Rests, with_at}
use Rattle.run_shows.specs.Given.SeizeDeclared.advance.Advance.{Advance}
use Rattle.run_shows.specs.Given.SeizeDeclared.advance.Advance.TheVariants as progress
use Rattle.run_shows.specs.Given.SeizeDeclared.rows.settle.Settled.{Settled}
use Rattle.run_shows.specs.Given.SeizeDeclared.rows.settle.Settled.TheVariants as settled
use Rattle.seize_acts.specs.Acts.Acts.{row_steps}
use Rattle.seize_acts.specs.Acts.Answers.{Grant, stepped}
use Rattle.seize_acts.proofs.Given.SeizeRuleRows.Others.{begins_others, steps_others}
use Rattle.seize_acts.proofs.Given.SeizeEndsBatches.Rows.{begins_memory}
use Rattle.run_shows.specs.Given.TablesNodes.{deferred_word}
use Rattle.run_shows.specs.Given.TablesDeclared.node.Node.{Node}
use Rattle.run_shows.specs.Given.TablesDeclared.setting.Setting.{Setting}
use Rattle.run_shows.specs.Given.ResizeNewMap.{new_map_plan}
use Rattle.run_shows.specs.Given.ResizeSum.{summing}
use Rattle.run_shows.specs.Given.ResizeDeclared.new_map.NewMap.{NewMap}
use Rattle.run_shows.specs.Given.ReservesReserve.{reserving}
use Rattle.run_shows.specs.Given.SweepsSweepPoints.{sweeping}
use Rattle.run_shows.specs.Given.RawCallAsks.{computing, updating, updating_or_inserting, trying_to_insert_with, removing_if}
use Rattle.run_shows.specs.Given.RawCallPoints.{getting, removing, inserting, trying_to_insert}
use Rattle.run_shows.specs.Given.RawEndMap.{ending, end_map_plan}
use Rattle.run_shows.specs.Given.RawMachine.{machine_plan, machine_replied, machine_asked}
use Rattle.run_shows.specs.Given.RawDeclared.machines.end_map.EndMap.{EndMap}
use Rattle.run_shows.specs.Given.RawDeclared.machines.machine.Machine.{Machine}
use Rattle.run_shows.specs.Given.RawDeclared.machines.machine.Machine.TheVariants as kinds
use Rattle.run_shows.specs.Given.RawDeclared.machines.progress.Progress.{Progress as CallProgress}
use Rattle.owner_facts.specs.Given.PointsSteps.{first_reply}
use Rattle.owner_facts.specs.Given.CallersTogether.{UnderWay, OnKey, ForRoom, Counting, OverAll, in_slot}
use Rattle.owner_facts.proofs.Given.CallersTogether.At.{at_same, at_other}
use Rattle.owner_facts.proofs.Given.CallersTogether.Users.{events_rows}
use Rattle.owner_facts.specs.Given.FinishesEndings.{Finishing, finishing_of, waiting_by}
use Rattle.owner_facts.specs.Given.FinishesFactsEnds.{Deed}
use Rattle.owner_facts.specs.Given.FinishesMachines.{machine_of}
use Rattle.owner_facts.specs.Given.FinishesMakings.{Beginning}
use Rattle.owner_facts.specs.Given.FinishesMaps.{Standing, IsSameMap, with_call}
use Rattle.owner_facts.proofs.Given.FinishesAmong.Sweeps.{walks_stop_among}
use Rattle.run_shows.specs.Scenes.Making.{making_begun}
use Rattle.many_acts.specs.Acts.Acts.{Act, Answer, OfCall, OfReply, OfAsking, OfMaking, OfEnding, Wanted, Get, Remove, Insert, TryToInsert, Compute, Update, UpdateOrInsert, TryToInsertWith, RemoveIf, GetKeyValue, ContainsKey, GetOrInsert, GetOrInsertWith, RemoveEntry, MakeRoom, Count, GoOver, begun, BeginsCall, StepsCall, TellsCall, AsksCall, StopsCall, BeginsMaking, StepsMaking, BeginsEnding, StepsEnding, BeginsRow, StepsRow}
use Rattle.many_acts.specs.Acts.Courses.{set_up, AreAlike}
use Rattle.many_acts.specs.Acts.Leads.{MayBe, AllStand, Led, CallCame, MakingCame, EndingCame, asked_on}
use Rattle.many_acts.proofs.Acts.Calls.{asked_machine, ready_is}
use Rattle.many_acts.proofs.Acts.Counts.{its_call, other_call}
use Rattle.many_acts.proofs.Acts.Lists.{all_may_step}
use Rattle.many_acts.proofs.Acts.RowSteps.{row_step_alike, row_begin_alike}
use Rattle.run_shows.proofs.Scenes.NoCall.{none_is}
use Rattle.run_shows.proofs.Scenes.Goes.{goes_as}
use Rattle.run_shows.specs.Scenes.Replying.{unless_stopped}
use Rattle.run_shows.specs.Scenes.Scene.{Scene, HasNoCall}
use Rattle.run_shows.specs.Scenes.Stepping.{going_on}
use Rattle.run_shows.proofs.Given.General.{same_some, none_mapped as none_of}

-- what is there in both, if the same is told of both
told_both : {A B : Type 0} (f : A → B) (o p : Option A) → option_map f o ≡ option_map f p → (a b : A) → o ≡ Some a → p ≡ Some b → f a ≡ f b
told_both f o p is a b e g = same_some (f a) (f b) (sym (ap (option_map f) e) ∙ is ∙ ap (option_map f) g)

-- the same is told of both after the same changes in one place
pub both_at : {X Y : Type 0} (h : X → Y) (f g : ℕ → X) (k : ℕ) (v w : X) → h v ≡ h w → ((j : ℕ) → h (f j) ≡ h (g j)) → (j : ℕ) → h (with_at f k v j) ≡ h (with_at g k w j)
both_at h f g k v w here others j = by (cases_eq j k)
  where
    by : (j ≡ k) ⊎ (j ≢ k) → h (with_at f k v j) ≡ h (with_at g k w j)
    by (inl e) = ap h (at_same f k v j e) ∙ here ∙ ap h (sym (at_same g k w j e))
    by (inr ne) = ap h (at_other f k v j ne) ∙ others j ∙ ap h (sym (at_other g k w j ne))

-- a map that stands as it stood is set up as it was
pub same_set_up : {K : Type 0} (o p : Option (Standing K)) → IsSameMap o p → option_map set_up p ≡ option_map set_up o
same_set_up None p is = ap (option_map set_up) is
same_set_up (Some s) p (blocks, sights, is, part) = ap (option_map set_up) is

-- what a caller begins is said by how the map is set up
begins_as : {K V : Type 0} (same : K → K → Bool) (slot : ℕ → ℕ) (i : ℕ) (s t : Standing K) → set_up s ≡ set_up t → (wanted : Wanted K V) → machine_of (begun same slot s i wanted) ≡ machine_of (begun same slot t i wanted)
begins_as {K} same slot i s t e (Get key) = ap (λ (x : Setting × (K → ℕ)). kinds.Key (getting (in_slot x.0 (slot i)) (x.1 key) key)) e
begins_as {K} same slot i s t e (Remove key) = ap (λ (x : Setting × (K → ℕ)). kinds.Key (removing (in_slot x.0 (slot i)) (x.1 key) key)) e
begins_as {K} same slot i s t e (Insert key value) = ap (λ (x : Setting × (K → ℕ)). kinds.Key (inserting (in_slot x.0 (slot i)) (x.1 key) key value)) e
begins_as {K} same slot i s t e (TryToInsert key value) = ap (λ (x : Setting × (K → ℕ)). kinds.Key (trying_to_insert (in_slot x.0 (slot i)) (x.1 key) key value)) e
begins_as {K} same slot i s t e (Compute key) = ap (λ (x : Setting × (K → ℕ)). kinds.Key (computing (in_slot x.0 (slot i)) (x.1 key) key)) e
begins_as {K} same slot i s t e (Update key) = ap (λ (x : Setting × (K → ℕ)). kinds.Key (updating (in_slot x.0 (slot i)) (x.1 key) key)) e
begins_as {K} same slot i s t e (UpdateOrInsert key absent) = ap (λ (x : Setting × (K → ℕ)). kinds.Key (updating_or_inserting (in_slot x.0 (slot i)) (x.1 key) key (first_reply absent))) e
begins_as {K} same slot i s t e (TryToInsertWith key) = ap (λ (x : Setting × (K → ℕ)). kinds.Key (trying_to_insert_with (in_slot x.0 (slot i)) (x.1 key) key)) e
begins_as {K} same slot i s t e (RemoveIf key) = ap (λ (x : Setting × (K → ℕ)). kinds.Key (removing_if (in_slot x.0 (slot i)) (x.1 key) key)) e
begins_as {K} same slot i s t e (GetKeyValue key) = ap (λ (x : Setting × (K → ℕ)). kinds.Key (getting (in_slot x.0 (slot i)) (x.1 key) key)) e
begins_as {K} same slot i s t e (ContainsKey key) = ap (λ (x : Setting × (K → ℕ)). kinds.Key (getting (in_slot x.0 (slot i)) (x.1 key) key)) e
begins_as {K} same slot i s t e (GetOrInsert key value) = ap (λ (x : Setting × (K → ℕ)). kinds.Key (trying_to_insert (in_slot x.0 (slot i)) (x.1 key) key value)) e
begins_as {K} same slot i s t e (GetOrInsertWith key) = ap (λ (x : Setting × (K → ℕ)). kinds.Key (trying_to_insert_with (in_slot x.0 (slot i)) (x.1 key) key)) e
begins_as {K} same slot i s t e (RemoveEntry key) = ap (λ (x : Setting × (K → ℕ)). kinds.Key (removing (in_slot x.0 (slot i)) (x.1 key) key)) e
begins_as {K} same slot i s t e (MakeRoom additional) = ap (λ (x : Setting × (K → ℕ)). kinds.Reserve (reserving (in_slot x.0 (slot i)) additional)) e
begins_as {K} same slot i s t e Count = ap (λ (x : Setting × (K → ℕ)). kinds.Count (summing (in_slot x.0 (slot i)))) e
begins_as {K} same slot i s t e (GoOver purpose) = ap (λ (x : Setting × (K → ℕ)). kinds.Sweep (sweeping (in_slot x.0 (slot i)) purpose)) e

-- what is given up or not, as its machine
stopped_as : {K V Q : Type 0} (ready : Bool) (u : UnderWay K V Q) → option_map machine_of (unless_stopped ready u) ≡ unless_stopped ready (machine_of u)
stopped_as true u = refl
stopped_as false u = refl

module _ {K V S : Type 0} (same : K → K → Bool) (hash : S → K → ℕ) (batch_size roots : ℕ) (slot : ℕ → ℕ) where
  -- a walk that is given up has no row under way
  pub stop_rests : (s : Scene K V) → AllStand same hash batch_size roots slot s → (m i : ℕ) (u : UnderWay K V K) → s.calls m i ≡ Some u → (ready : Bool) → (machine_asked (machine_of u)).1 ≡ ready
      → unless_stopped ready u ≡ None → s.world.row i ≡ Rests
  stop_rests s all m i u here false asked none = absurd (cc none)
  stop_rests s all m i (OnKey k) here true asked none = absurd (cc asked)
  stop_rests s all m i (ForRoom r) here true asked none = absurd (cc asked)
  stop_rests s all m i (Counting sum) here true asked none = absurd (cc asked)
  stop_rests s all m i (OverAll o) here true asked none =
      let it = (all_may_step same hash batch_size roots slot s all).standing m i (OverAll o) here in
      (walks_stop_among V same same batch_size roots slot s.world s.maps s.calls s.makers s.enders all m it.0 it.1 i o here (ready_is o.sweep.stands asked)).1

  -- a step of a call leaves each map set up as it was
  maps_set_up : (s n : Scene K V) (i m : ℕ) (g : Grant) (told : Answer K V) (came : CallCame same hash batch_size roots slot s i m g told n) (k : ℕ)
      → option_map set_up (came.did.maps2 k) ≡ option_map set_up (s.maps k)
  maps_set_up s n i m g told came k = by (cases_eq k m)
    where
      by : (k ≡ m) ⊎ (k ≢ m) → option_map set_up (came.did.maps2 k) ≡ option_map set_up (s.maps k)
      by (inl e) = ap (option_map set_up) (ap came.did.maps2 e ∙ came.did.its_map.4) ∙ sym (ap (option_map set_up) (ap s.maps e ∙ came.stands))
      by (inr ne) = same_set_up (s.maps k) (came.did.maps2 k) (came.did.others k ne)

  module _ (s t n o : Scene K V) (all : AllStand same hash batch_size roots slot s) (all2 : AllStand same hash batch_size roots slot t) (alike : AreAlike s t) where
    abbrev Agree : Answer K V → Answer K V → Type 0
    Agree told told2 = AreAlike n o × (told ≡ told2)

    to : (x y : Scene K V) → n ≡ x → o ≡ y → AreAlike x y → AreAlike n o
    to x y e f so = subst (λ (z : Scene K V). AreAlike z o) (sym e) (subst (AreAlike x) (sym f) so)

    calls_on : (m i : ℕ) (next next2 : Option (UnderWay K V K)) → option_map machine_of next ≡ option_map machine_of next2 → (k j : ℕ)
        → option_map machine_of (with_call s.calls m i next k j) ≡ option_map machine_of (with_call t.calls m i next2 k j)
    calls_on m i next next2 e k j =
        both_at (λ (f : ℕ → Option (UnderWay K V K)). option_map machine_of (f j)) s.calls t.calls m (with_at (s.calls m) i next) (with_at (t.calls m) i next2)
        (both_at (option_map machine_of) (s.calls m) (t.calls m) i next next2 e (alike.calls m) j) (λ l. alike.calls l j) k

    -- one call is another one then
    with_calls : (m i : ℕ) (next next2 : Option (UnderWay K V K)) (w v : World (Node K V)) (maps2 maps3 : ℕ → Option (Standing K)) → option_map machine_of next ≡ option_map machine_of next2
        → (next ≡ None → w.row i ≡ v.row i) → w.memory ≡ v.memory → ((k : ℕ) → option_map set_up (maps2 k) ≡ option_map set_up (maps3 k))
        → ((j : ℕ) → j ≢ i → (w.row j ≡ s.world.row j) × (v.row j ≡ t.world.row j))
        → AreAlike (record s { world = w; maps = maps2; calls = with_call s.calls m i next }) (record t { world = v; maps = maps3; calls = with_call t.calls m i next2 })
    with_calls m i next next2 w v maps2 maps3 e rests memory maps others =
        record { memory = memory; maps = maps; calls = calls_on m i next next2 e; makers = alike.makers; enders = alike.enders; rows = λ j none. rows j none (cases_eq j i) }
      where
        rows : (j : ℕ) → ((k : ℕ) → is_none (with_call s.calls m i next k j) ≡ true) → (j ≡ i) ⊎ (j ≢ i) → w.row j ≡ v.row j
        rows j none (inl at) = ap w.row at ∙ rests (none_is next (ap is_none (sym (its_call s.calls j m i m next (sym at) refl)) ∙ none m)) ∙ ap v.row (sym at)
        rows j none (inr ne) =
            (others j ne).0 ∙ alike.rows j (λ k. ap is_none (sym (other_call s.calls j k i m next (λ it _. ne (sym it)))) ∙ none k) ∙ sym (others j ne).1

    -- but the world is as it was
    with_call_alone : (m i : ℕ) (next next2 : Option (UnderWay K V K)) → option_map machine_of next ≡ option_map machine_of next2 → (next ≡ None → s.world.row i ≡ t.world.row i)
        → n ≡ record s { calls = with_call s.calls m i next } → o ≡ record t { calls = with_call t.calls m i next2 } → AreAlike n o
    with_call_alone m i next next2 e rests is is2 =
        to (record s { calls = with_call s.calls m i next }) (record t { calls = with_call t.calls m i next2 }) is is2
        (with_calls m i next next2 s.world t.world s.maps t.maps e rests alike.memory alike.maps (λ j ne. (refl, refl)))

    machine_both : (m i : ℕ) (u u2 : UnderWay K V K) → s.calls m i ≡ Some u → t.calls m i ≡ Some u2 → machine_of u ≡ machine_of u2
    machine_both m i u u2 here here2 = told_both machine_of (s.calls m i) (t.calls m i) (alike.calls m i) u u2 here here2

    set_both : (m : ℕ) (it it2 : Standing K) → s.maps m ≡ Some it → t.maps m ≡ Some it2 → set_up it ≡ set_up it2
    set_both m it it2 stands stands2 = told_both set_up (s.maps m) (t.maps m) (alike.maps m) it it2 stands stands2

    some_rests : (u : UnderWay K V K) (i : ℕ) → ◌≡◌ {A = Option (UnderWay K V K)} (Some u) None → s.world.row i ≡ t.world.row i
    some_rests u i e = absurd (cc e)

    -- the step of a call
    module _ (i m : ℕ) (g : Grant) (told told2 : Answer K V) (came : CallCame same hash batch_size roots slot s i m g told n) (came2 : CallCame same hash batch_size roots slot t i m g told2 o) where
      abbrev End : Type 0
      End = Mem (Node K V) × (Machine K V K × CallProgress (Node K V))

      one_step : ◌≡◌ {A = End} (came.memory, (came.machine, came.progress)) (came2.memory, (came2.machine, came2.progress))
      one_step =
          same_some (came.memory, (came.machine, came.progress)) (came2.memory, (came2.machine, came2.progress))
          (sym came.computed ∙ ap (λ (x : Mem (Node K V)). stepped x g (machine_plan same same came.standing.hash (machine_of came.call))) alike.memory
          ∙ ap (λ (x : Setting × (K → ℕ)). stepped t.world.memory g (machine_plan same same x.1 (machine_of came.call))) (set_both m came.standing came2.standing came.stands came2.stands)
          ∙ ap (λ (x : Machine K V K). stepped t.world.memory g (machine_plan same same came2.standing.hash x)) (machine_both m i came.call came2.call came.here came2.here) ∙ came2.computed)

      next_both : option_map machine_of came.did.next ≡ option_map machine_of came2.did.next
      next_both =
          goes_as came.machine came.progress came.did.next came.did.goes_on ∙ ap (λ (x : End). going_on x.1.0 x.1.1) one_step
          ∙ sym (goes_as came2.machine came2.progress came2.did.next came2.did.goes_on)

      steps_agree : Agree told told2
      steps_agree = (
        to (record { world = came.did.w2; maps = came.did.maps2; calls = with_call s.calls m i came.did.next; makers = s.makers; enders = s.enders })
            (record { world = came2.did.w2; maps = came2.did.maps2; calls = with_call t.calls m i came2.did.next; makers = t.makers; enders = t.enders }) came.comes came2.comes
            (with_calls m i came.did.next came2.did.next came.did.w2 came2.did.w2 came.did.maps2 came2.did.maps2 next_both
            (λ none. came.did.rests none ∙ sym (came2.did.rests (none_of machine_of came2.did.next (sym next_both ∙ ap (option_map machine_of) none))))
            (came.did.memory ∙ ap (λ (x : End). x.0) one_step ∙ sym came2.did.memory)
            (λ k. maps_set_up s n i m g told came k ∙ alike.maps k ∙ sym (maps_set_up t o i m g told2 came2 k)) (λ j ne. (came.did.rows j ne, came2.did.rows j ne))),
        came.tells ∙ ap (λ (x : End). OfCall x.1.1) one_step ∙ sym came2.tells,
      )

    -- what a making tells
    made_agree : (i : ℕ) (b : Beginning K) (machine : NewMap) (w v : World (Node K V)) → w.memory ≡ v.memory → ((j : ℕ) → w.row j ≡ s.world.row j) → ((j : ℕ) → v.row j ≡ t.world.row j)
        → (end : Advance Setting) → MakingCame same hash batch_size roots slot s i b w machine n end → MakingCame same hash batch_size roots slot t i b v machine o end → AreAlike n o
    made_agree i b machine w v memory rows rows2 progress.Goes is is2 = to _ _ is is2 (record {
      memory = memory;
      maps = alike.maps;
      calls = alike.calls;
      makers = both_at (λ (x : Option (Beginning K)). x) s.makers t.makers i (Some (record b { machine = machine })) (Some (record b { machine = machine })) refl alike.makers;
      enders = alike.enders;
      rows = λ j none. rows j ∙ alike.rows j none ∙ sym (rows2 j);
    })
    made_agree i b machine w v memory rows rows2 progress.Waits never never2 = absurd never
    made_agree i b machine w v memory rows rows2 (progress.Done setting) (it, made, is) (it2, made2, is2) = to _ _ is is2 (record {
      memory = memory;
      maps = both_at (option_map set_up) s.maps t.maps b.map (Some it) (Some it2)
          (ap (λ (x : Setting). Some (x, it.hash)) (made.setting_is ∙ sym made2.setting_is) ∙ ap (λ (x : K → ℕ). Some (it2.setting, x)) (made.hash_is ∙ sym made2.hash_is)) alike.maps;
      calls = alike.calls;
      makers = both_at (λ (x : Option (Beginning K)). x) s.makers t.makers i None None refl alike.makers;
      enders = alike.enders;
      rows = λ j none. rows j ∙ alike.rows j none ∙ sym (rows2 j);
    })
    made_agree i b machine w v memory rows rows2 (progress.Refused fault) is is2 = to _ _ is is2 (record {
      memory = memory;
      maps = alike.maps;
      calls = alike.calls;
      makers = both_at (λ (x : Option (Beginning K)). x) s.makers t.makers i None None refl alike.makers;
      enders = alike.enders;
      rows = λ j none. rows j ∙ alike.rows j none ∙ sym (rows2 j);
    })

    -- what an end tells: only this caller's end is another one then
    with_ends : (i : ℕ) (next next2 : Option (Finishing K V)) (w v : World (Node K V)) → option_map (λ f. f.machine) next ≡ option_map (λ f. f.machine) next2 → w.memory ≡ v.memory → w.row ≡ s.world.row → v.row ≡ t.world.row
        → AreAlike (record s { world = w; enders = with_at s.enders i next }) (record t { world = v; enders = with_at t.enders i next2 })
    with_ends i next next2 w v e memory rows rows2 = record {
      memory = memory;
      maps = alike.maps;
      calls = alike.calls;
      makers = alike.makers;
      enders = both_at (option_map (λ (f : Finishing K V). f.machine)) s.enders t.enders i next next2 e alike.enders;
      rows = λ j none. ap (λ (r : ℕ → Row). r j) rows ∙ alike.rows j none ∙ ap (λ (r : ℕ → Row). r j) (sym rows2);
    }

    ended_agree : (i : ℕ) (f f2 : Finishing K V) (machine : EndMap) (w v : World (Node K V)) (deed deed2 : Deed) → w.memory ≡ v.memory → w.row ≡ s.world.row → v.row ≡ t.world.row
        → (end : Settled (Node K V)) → EndingCame same hash batch_size roots slot s i f w deed machine n end → EndingCame same hash batch_size roots slot t i f2 v deed2 machine o end → AreAlike n o
    ended_agree i f f2 machine w v deed deed2 memory rows rows2 settled.Goes (none, is) (none2, is2) = to _ _ is is2
        (with_ends i (Some (record f { machine = machine; waits = f.waits ++ waiting_by deed })) (Some (record f2 { machine = machine; waits = f2.waits ++ waiting_by deed2 })) w v refl memory rows rows2)
    ended_agree i f f2 machine w v deed deed2 memory rows rows2 settled.Waits never never2 = absurd never
    ended_agree i f f2 machine w v deed deed2 memory rows rows2 (settled.Gave value) (b, was, taken, is) (b2, was2, taken2, is2) = to _ _ is is2
        (with_ends i (Some (record f { machine = machine; back = f.back ++ b ∷ []; waits = f.waits ++ waiting_by deed }))
        (Some (record f2 { machine = machine; back = f2.back ++ b2 ∷ []; waits = f2.waits ++ waiting_by deed2 })) w v refl memory rows rows2)
    ended_agree i f f2 machine w v deed deed2 memory rows rows2 settled.Done (none, finished, is) (none2, finished2, is2) = to _ _ is is2 (with_ends i None None w v refl memory rows rows2)

    -- a row between calls has gone on
    with_rows : (i : ℕ) (w v : World (Node K V)) (maps2 maps3 : ℕ → Option (Standing K)) → ((m : ℕ) → IsSameMap (s.maps m) (maps2 m)) → ((m : ℕ) → IsSameMap (t.maps m) (maps3 m)) → w.memory ≡ v.memory
        → w.row i ≡ v.row i → ((j : ℕ) → j ≢ i → (w.row j ≡ s.world.row j) × (v.row j ≡ t.world.row j)) → AreAlike (record s { world = w; maps = maps2 }) (record t { world = v; maps = maps3 })
    with_rows i w v maps2 maps3 same2 same3 memory here others = record {
      memory = memory;
      maps = λ m. same_set_up (s.maps m) (maps2 m) (same2 m) ∙ alike.maps m ∙ sym (same_set_up (t.maps m) (maps3 m) (same3 m));
      calls = alike.calls;
      makers = alike.makers;
      enders = alike.enders;
      rows = λ j none. rows j none (cases_eq j i);
    }
      where
        rows : (j : ℕ) → HasNoCall s j → (j ≡ i) ⊎ (j ≢ i) → w.row j ≡ v.row j
        rows j none (inl at) = ap w.row at ∙ here ∙ ap v.row (sym at)
        rows j none (inr ne) = (others j ne).0 ∙ alike.rows j none ∙ sym (others j ne).1

    pub by_act : (act : Act K V S) → MayBe same hash batch_size roots slot act s → (told told2 : Answer K V) → Led same hash batch_size roots slot act s told n → Led same hash batch_size roots slot act t told2 o → Agree told told2
    by_act (BeginsCall i m wanted) may told told2 (it, stands, none, is) (it2, stands2, none2, is2) = (
      with_call_alone m i (Some (begun same slot it i wanted)) (Some (begun same slot it2 i wanted)) (ap Some (begins_as same slot i it it2 (set_both m it it2 stands stands2) wanted))
          (some_rests (begun same slot it i wanted) i) is is2,
      none ∙ sym none2,
    )
    by_act (StepsCall i m g) may told told2 came came2 = steps_agree i m g told told2 came came2
    by_act (TellsCall i m reply) may told told2 (it, stands, u, next, here, machine_is, told_is, kind, is) (it2, stands2, u2, next2, here2, machine_is2, told_is2, kind2, is2) =
        let one = machine_both m i u u2 here here2 in (
          with_call_alone m i (Some next) (Some next2) (ap Some (machine_is ∙ ap (λ (x : Machine K V K). (machine_replied x reply).0) one ∙ sym machine_is2)) (some_rests next i) is is2,
          told_is ∙ ap (λ (x : Machine K V K). OfReply (machine_replied x reply).1) one ∙ sym told_is2,
        )
    by_act (AsksCall i m) may told told2 (u, here, told_is, is) (u2, here2, told_is2, is2) =
        let one = machine_both m i u u2 here here2 in (
          with_call_alone m i (Some (asked_on u)) (Some (asked_on u2)) (ap Some (asked_machine u ∙ ap (λ (x : Machine K V K). (machine_asked x).0) one ∙ sym (asked_machine u2))) (some_rests (asked_on u) i) is is2,
          told_is ∙ ap (λ (x : Machine K V K). OfAsking (machine_asked x).1) one ∙ sym told_is2,
        )
    by_act (StopsCall i m) may told told2 (u, here, told_is, is) (u2, here2, told_is2, is2) =
        let one = machine_both m i u u2 here here2 in
        let both : option_map machine_of (unless_stopped (machine_asked (machine_of u)).1 u) ≡ option_map machine_of (unless_stopped (machine_asked (machine_of u2)).1 u2) =
        stopped_as (machine_asked (machine_of u)).1 u ∙ ap (λ (x : Machine K V K). unless_stopped (machine_asked x).1 x) one ∙ sym (stopped_as (machine_asked (machine_of u2)).1 u2) in (
          with_call_alone m i (unless_stopped (machine_asked (machine_of u)).1 u) (unless_stopped (machine_asked (machine_of u2)).1 u2) both
              (λ none. stop_rests s all m i u here (machine_asked (machine_of u)).1 refl none
              ∙ sym (stop_rests t all2 m i u2 here2 (machine_asked (machine_of u2)).1 refl
              (none_of machine_of (unless_stopped (machine_asked (machine_of u2)).1 u2) (sym both ∙ ap (option_map machine_of) none)))) is is2,
          told_is ∙ ap (λ (x : Machine K V K). OfAsking (machine_asked x).1) one ∙ sym told_is2,
        )
    by_act (BeginsMaking i map hasher given places) may told told2 (told_is, is) (told_is2, is2) = (
      to _ _ is is2 (record {
        memory = alike.memory;
        maps = alike.maps;
        calls = alike.calls;
        makers = both_at (λ (x : Option (Beginning K)). x) s.makers t.makers i (Some (making_begun (hash hasher) roots map given places)) (Some (making_begun (hash hasher) roots map given places)) refl alike.makers;
        enders = alike.enders;
        rows = alike.rows;
      }),
      told_is ∙ sym told_is2,
    )
    by_act (StepsMaking i g) may told told2 (b, makes, m2, machine, end, computed, told_is, did, came) (b2, makes2, m3, machine2, end2, computed2, told_is2, did2, came2) =
        let one : b ≡ b2 = same_some b b2 (sym makes ∙ alike.makers i ∙ makes2) in
        let step : ◌≡◌ {A = Mem (Node K V) × (NewMap × Advance Setting)} (m2, (machine, end)) (m3, (machine2, end2)) = same_some (m2, (machine, end)) (m3, (machine2, end2))
        (sym computed ∙ ap (λ (x : Mem (Node K V)). stepped x g (new_map_plan {K = K} {V = V} b.machine)) alike.memory
        ∙ ap (λ (x : Beginning K). stepped t.world.memory g (new_map_plan {K = K} {V = V} x.machine)) one ∙ computed2) in (
          made_agree i b machine did.step.w2 did2.step.w2 (did.step.memory ∙ ap (λ (x : Mem (Node K V) × (NewMap × Advance Setting)). x.0) step ∙ sym did2.step.memory)
              (λ j. ap (λ (r : ℕ → Row). r j) (events_rows batch_size did.step.events s.world did.step.w2 did.step.users did.step.runs))
              (λ j. ap (λ (r : ℕ → Row). r j) (events_rows batch_size did2.step.events t.world did2.step.w2 did2.step.users did2.step.runs)) end came
              (subst (λ (x : Mem (Node K V) × (NewMap × Advance Setting)). MakingCame same hash batch_size roots slot t i b did2.step.w2 x.1.0 o x.1.1) (sym step)
              (subst (λ (x : Beginning K). MakingCame same hash batch_size roots slot t i x did2.step.w2 machine2 o end2) (sym one) came2)),
          told_is ∙ ap (λ (x : Mem (Node K V) × (NewMap × Advance Setting)). OfMaking x.1.1) step ∙ sym told_is2,
        )
    by_act (BeginsEnding i m) may told told2 (it, stands, told_is, is) (it2, stands2, told_is2, is2) = (
      to _ _ is is2 (record {
        memory = alike.memory;
        maps = both_at (option_map set_up) s.maps t.maps m None None refl alike.maps;
        calls = alike.calls;
        makers = alike.makers;
        enders = both_at (option_map (λ (f : Finishing K V). f.machine)) s.enders t.enders i (Some (finishing_of it s.world)) (Some (finishing_of it2 t.world))
            (ap (λ (x : Setting × (K → ℕ)). Some (ending x.0 false)) (set_both m it it2 stands stands2)) alike.enders;
        rows = alike.rows;
      }),
      told_is ∙ sym told_is2,
    )
    by_act (StepsEnding i g) may told told2 (f, ends, m2, machine, end, computed, told_is, did, came) (f2, ends2, m3, machine2, end2, computed2, told_is2, did2, came2) =
        let one : f.machine ≡ f2.machine = told_both (λ (x : Finishing K V). x.machine) (s.enders i) (t.enders i) (alike.enders i) f f2 ends ends2 in
        let step : ◌≡◌ {A = Mem (Node K V) × (EndMap × Settled (Node K V))} (m2, (machine, end)) (m3, (machine2, end2)) = same_some (m2, (machine, end)) (m3, (machine2, end2))
        (sym computed ∙ ap (λ (x : Mem (Node K V)). stepped x g (end_map_plan {K = K} {V = V} f.machine)) alike.memory
        ∙ ap (λ (x : EndMap). stepped t.world.memory g (end_map_plan {K = K} {V = V} x)) one ∙ computed2) in (
          ended_agree i f f2 machine did.w2 did2.w2 did.deed did2.deed (did.memory ∙ ap (λ (x : Mem (Node K V) × (EndMap × Settled (Node K V))). x.0) step ∙ sym did2.memory) did.spares.rows did2.spares.rows end came
              (subst (λ (x : Mem (Node K V) × (EndMap × Settled (Node K V))). EndingCame same hash batch_size roots slot t i f2 did2.w2 did2.deed x.1.0 o x.1.1) (sym step) came2),
          told_is ∙ ap (λ (x : Mem (Node K V) × (EndMap × Settled (Node K V))). OfEnding x.1.1) step ∙ sym told_is2,
        )
    by_act (BeginsRow i request) may told told2 (w2, happens, maps2, same2, told_is, is) (v2, happens2, maps3, same3, told_is2, is2) = (
      to _ _ is is2 (with_rows i w2 v2 maps2 maps3 same2 same3
          (begins_memory deferred_word batch_size i request s.world w2 happens.1 ∙ alike.memory ∙ sym (begins_memory deferred_word batch_size i request t.world v2 happens2.1))
          (row_begin_alike deferred_word i batch_size request s.world t.world w2 v2 may.2 happens.1 happens2.1)
          (λ j ne. (begins_others deferred_word batch_size s.world w2 i j ne request happens.1, begins_others deferred_word batch_size t.world v2 i j ne request happens2.1))),
      told_is ∙ sym told_is2,
    )
    by_act (StepsRow i g) may told told2 (w2, computed, happens, maps2, same2, told_is, is) (v2, computed2, happens2, maps3, same3, told_is2, is2) =
        let on = row_step_alike deferred_word i (s.world.row i) g s.world t.world w2 v2 alike.memory computed
        (subst (λ (r : Row). row_steps deferred_word i r g t.world ≡ Some v2) (sym (alike.rows i may.0)) computed2) in (
          to _ _ is is2 (with_rows i w2 v2 maps2 maps3 same2 same3 on.0 on.1
              (λ j ne. (steps_others deferred_word batch_size s.world w2 i j ne (s.world.row i) happens, steps_others deferred_word batch_size t.world v2 i j ne (t.world.row i) happens2))),
          told_is ∙ sym told_is2,
        )

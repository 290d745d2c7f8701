-- A call that begins, takes a step, is told something, is asked for a pair, or is given up: all stand together then.
use Rattle.std.specs.Prelude.{◌≡◌, ℕ, Bool, true, false, [], Some, None}
use Rattle.std.specs.Option.{is_none}
use Rattle.std.specs.Result.{is_err}
use Rattle.std.proofs.Common.{refl, sym, ap, subst, ◌∙◌, inr}
use Rattle.run_shows.specs.Given.SeizeWorld.{with_at}
use Rattle.seize_acts.specs.Acts.Answers.{Grant, then_on}
use Rattle.seize_acts.proofs.Acts.Answers.{some, was_stepped}
use Rattle.seize_acts.proofs.Acts.Begun.{rests_is}
use Rattle.seize_acts.proofs.Given.SeizeRuleRows.Leaving.{with_same}
use Rattle.run_shows.specs.Given.SeizeWordsMem.{Mem}
use Rattle.run_shows.specs.Given.TablesDeclared.node.Node.{Node}
use Rattle.run_shows.specs.Given.TablesDeclared.node.Node.TheVariants as node
use Rattle.run_shows.specs.Given.ReservesDeclared.sweep.Sweep.{Sweep}
use Rattle.run_shows.specs.Given.ReservesDeclared.sweep.Sweeping.{Sweeping}
use Rattle.run_shows.specs.Given.ReservesDeclared.sweep.Sweeping.TheVariants as sweeping
use Rattle.run_shows.specs.Given.RawCallAsks.{absent_replied, present_replied, replied_at, computing, updating, updating_or_inserting, trying_to_insert_with, removing_if}
use Rattle.run_shows.specs.Given.RawCallPoints.{getting, removing, inserting, trying_to_insert}
use Rattle.run_shows.specs.Given.RawMachine.{machine_plan, machine_replied, machine_asked, is_ready, sweep_with_reply}
use Rattle.run_shows.specs.Given.RawDeclared.machines.asking.Asking.TheVariants as asking
use Rattle.run_shows.specs.Given.RawDeclared.machines.asking.Gap.{Gap}
use Rattle.run_shows.specs.Given.RawDeclared.machines.asking.MachineReply.{MachineReply}
use Rattle.run_shows.specs.Given.RawDeclared.machines.asking.MachineReply.TheVariants as reply
use Rattle.run_shows.specs.Given.RawDeclared.machines.asking.Takes.{Takes}
use Rattle.run_shows.specs.Given.RawDeclared.machines.asking.Takes.TheVariants as takes
use Rattle.run_shows.specs.Given.RawDeclared.machines.call.Calling.{Calling}
use Rattle.run_shows.specs.Given.RawDeclared.machines.call.Calling.TheVariants as at
use Rattle.run_shows.specs.Given.RawDeclared.machines.call.KeyCall.{KeyCall}
use Rattle.run_shows.specs.Given.RawDeclared.machines.machine.Machine.{Machine}
use Rattle.run_shows.specs.Given.RawDeclared.machines.machine.Machine.TheVariants as kinds
use Rattle.run_shows.specs.Given.RawDeclared.machines.progress.Progress.{Progress}
use Rattle.owner_facts.specs.Given.PointsSteps.{AreLawful, first_reply}
use Rattle.owner_facts.specs.Given.CallersAsked.{replies_before}
use Rattle.owner_facts.specs.Given.CallersKind.{gets, removes, inserts, tries_to_insert, computes, updates, updates_or_inserts, tries_to_insert_with, removes_if}
use Rattle.owner_facts.specs.Given.CallersPairs.{Given, Begun, IsTold}
use Rattle.run_shows.specs.Given.TablesChunks.{is_incremental}
use Rattle.owner_facts.specs.Given.CallersTogether.{UnderWay, OnKey, ForRoom, Counting, OverAll, FewWith, IsBegun}
use Rattle.owner_facts.specs.Given.CallersTogether as begins
use Rattle.owner_facts.specs.Given.FinishesEndings.{EndingsTogether}
use Rattle.owner_facts.specs.Given.FinishesMachines.{machine_of, MachineStepsWithEndings, RepliedOfKind}
use Rattle.owner_facts.specs.Given.FinishesMaps.{Standing, with_call}
use Rattle.owner_facts.proofs.Given.FinishesAmong.Calls.{calls_begin_among}
use Rattle.owner_facts.proofs.Given.FinishesAmong.Countings.{countings_begin_among}
use Rattle.owner_facts.proofs.Given.FinishesAmong.Machines.{machines_stand_among}
use Rattle.owner_facts.proofs.Given.FinishesAmong.MachinesTold.{machines_told_among}
use Rattle.owner_facts.proofs.Given.FinishesAmong.Rooms.{rooms_begin_among}
use Rattle.owner_facts.proofs.Given.FinishesAmong.Sweeps.{sweeps_begin_among, sweeps_told_among, walks_stop_among}
use Rattle.seize_acts.specs.Acts.Acts.{is_within}
use Rattle.many_acts.specs.Acts.Acts.{Wanted, Get, Remove, Insert, TryToInsert, Compute, Update, UpdateOrInsert, TryToInsertWith, RemoveIf, GetKeyValue, ContainsKey, GetOrInsert, GetOrInsertWith, RemoveEntry, MakeRoom, Count, GoOver, Answer, Nothing, OfCall, OfReply, OfAsking, BeginsCall, StepsCall, TellsCall, AsksCall, StopsCall, UnlessToCount, its, begun}
use Rattle.many_acts.specs.Acts.Leads.{MayBe, AllStand, Led, asked_on, call_at, call_steps}
use Rattle.many_acts.proofs.Acts.Tests.{some_is, inside_is, its_class}
use Rattle.run_shows.proofs.Scenes.NoCall.{none_is}
use Rattle.run_shows.specs.Scenes.Replying.{scene_with, unless_stopped}
use Rattle.run_shows.specs.Scenes.Scene.{Scene}
use Rattle.run_shows.proofs.Given.General.{same_some}

-- a stage that is ready is that one
pub ready_is : (stage : Sweeping) → is_ready stage ≡ true → stage ≡ sweeping.Ready
ready_is sweeping.Ready is = refl
ready_is _ is = absurd (cc is)

-- what was asked for its next pair has the machine that was asked
pub asked_machine : {K V : Type 0} (u : UnderWay K V K) → machine_of (asked_on u) ≡ (machine_asked (machine_of u)).0
asked_machine (OnKey k) = refl
asked_machine (ForRoom r) = refl
asked_machine (Counting sum) = refl
asked_machine (OverAll o) = refl

-- a machine that does not take a reply is as it was
module _ {K V Q : Type 0} (c : KeyCall K V Q) where
  absent_refused : (takes : Takes) (gap : Gap) (said : MachineReply V) → is_err (absent_replied takes c gap said).1 ≡ true → (absent_replied takes c gap said).0 ≡ c
  absent_refused takes.Values gap (reply.Insert value) e = absurd (cc e)
  absent_refused takes.Changes gap (reply.Insert value) e = absurd (cc e)
  absent_refused takes.Changes gap reply.Remove e = absurd (cc e)
  absent_refused takes.Changes gap reply.Abort e = absurd (cc e)
  absent_refused takes.Values gap _ e = refl
  absent_refused takes.Changes gap _ e = refl
  absent_refused takes.Choices gap reply e = refl
  absent_refused takes.Nothing gap reply e = refl

  present_refused : (takes : Takes) (word : ℕ) (reply : MachineReply V) → is_err (present_replied takes c word reply).1 ≡ true → (present_replied takes c word reply).0 ≡ c
  present_refused takes.Values word (reply.Insert value) e = absurd (cc e)
  present_refused takes.Changes word (reply.Insert value) e = absurd (cc e)
  present_refused takes.Changes word reply.Remove e = absurd (cc e)
  present_refused takes.Changes word reply.Abort e = absurd (cc e)
  present_refused takes.Choices word reply.Yes e = absurd (cc e)
  present_refused takes.Choices word reply.No e = absurd (cc e)
  present_refused takes.Values word _ e = refl
  present_refused takes.Changes word _ e = refl
  present_refused takes.Choices word _ e = refl
  present_refused takes.Nothing word reply e = refl

  key_refused : (stands : Calling) (reply : MachineReply V) → is_err (replied_at stands c reply).1 ≡ true → (replied_at stands c reply).0 ≡ c
  key_refused (at.Asks (asking.Absent gap)) reply e = absent_refused c.replies.takes gap reply e
  key_refused (at.Asks (asking.Present word)) reply e = present_refused c.replies.takes word reply e
  key_refused _ reply e = refl

sweep_refused : {V : Type 0} (stands : Sweeping) (c : Sweep) (reply : MachineReply V) → is_err (sweep_with_reply stands c reply).1 ≡ true → (sweep_with_reply stands c reply).0 ≡ c
sweep_refused (sweeping.Asks word) c reply.Yes e = absurd (cc e)
sweep_refused (sweeping.Asks word) c reply.No e = absurd (cc e)
sweep_refused (sweeping.Asks word) c _ e = refl
sweep_refused _ c reply e = refl

pub refused_same : {K V : Type 0} (machine : Machine K V K) (reply : MachineReply V) → is_err (machine_replied machine reply).1 ≡ true → (machine_replied machine reply).0 ≡ machine
refused_same (kinds.Key c) reply e = ap kinds.Key (key_refused c c.stands reply e)
refused_same (kinds.Sweep c) reply e = ap kinds.Sweep (sweep_refused c.stands c reply e)
refused_same (kinds.Reserve c) reply e = refl
refused_same (kinds.Count c) reply e = refl

-- what goes on as it was may have been told anything
pub told_nothing : {K V : Type 0} (same : K → K → Bool) (batch_size roots : ℕ) (slot : ℕ → ℕ) (standing : Standing K) (i : ℕ) (reply : MachineReply V) (u : UnderWay K V K)
    → RepliedOfKind V same same batch_size roots slot standing i u reply u
told_nothing same batch_size roots slot standing i reply (OnKey k) = inr refl
told_nothing same batch_size roots slot standing i reply (OverAll o) = inr refl
told_nothing same batch_size roots slot standing i reply (ForRoom r) = refl
told_nothing same batch_size roots slot standing i reply (Counting sum) = refl

module _ {K V S : Type 0} (same : K → K → Bool) (hash : S → K → ℕ) (batch_size roots : ℕ) (slot : ℕ → ℕ) (s : Scene K V) (all : AllStand same hash batch_size roots slot s) (i m : ℕ) where
  abbrev Stands : Scene K V → Type 0
  Stands n = AllStand same hash batch_size roots slot n

  -- a call and its map, where both are there
  both : (it : Standing K × UnderWay K V K) → call_at s i m ≡ Some it → (s.maps m ≡ Some it.0) × (s.calls m i ≡ Some it.1)
  both it is =
      let x = some (s.maps m) (λ standing. then_on (s.calls m i) (λ u. Some (standing, u))) it is in
      let y = some (s.calls m i) (λ u. Some (x.0, u)) it x.2 in
      let same_it : (x.0, y.0) ≡ it = same_some (x.0, y.0) it y.2 in
      (x.1 ∙ ap (λ (z : Standing K × UnderWay K V K). Some z.0) same_it, y.1 ∙ ap (λ (z : Standing K × UnderWay K V K). Some z.1) same_it)

  pub call_begins : (wanted : Wanted K V) → MayBe same hash batch_size roots slot (BeginsCall i m wanted) s
      → (n : Scene K V) × Led same hash batch_size roots slot (BeginsCall i m wanted) s Nothing n × Stands n
  call_begins wanted (free, rest, within, there, few) = (scene_with m i (begun same slot standing i wanted) s, (standing, stands, refl, refl), by wanted within (few standing stands))
    where
      standing : Standing K
      standing = (some_is (s.maps m) there).0

      stands : s.maps m ≡ Some standing
      stands = (some_is (s.maps m) there).1

      no_call : (n : ℕ) → s.calls n i ≡ None
      no_call n = none_is (s.calls n i) (free.no_call n)

      lawful : AreLawful same standing.hash
      lawful = (all.makings.standing.fit m standing stands).0

      FewSo : UnderWay K V K → Type 0
      FewSo u = is_incremental standing.setting.mode ≡ false → FewWith (s.calls m) i u

      on : is_within (s.world.uses (slot i)) ≡ true → (keys : K → Bool) (pair : Given K V) (call : KeyCall K V K) → IsBegun V same standing.hash same standing.setting slot i keys pair call
          → FewSo (OnKey (begins.begun_at V same standing.hash same standing.setting slot standing.chart keys pair call))
          → Stands (scene_with m i (OnKey (begins.begun_at V same standing.hash same standing.setting slot standing.chart keys pair call)) s)
      on within keys pair call is few_so =
          calls_begin_among V same same batch_size roots slot s.world s.maps s.calls s.makers s.enders all i (none_is (s.makers i) free.no_making) (none_is (s.enders i) free.no_ending)
          no_call (rests_is (s.world.row i) rest) (inside_is (s.world.uses (slot i)) within) m standing stands keys pair call is few_so

      by : (wanted : Wanted K V) → UnlessToCount wanted (is_within (s.world.uses (slot i)) ≡ true) → FewSo (begun same slot standing i wanted) → Stands (scene_with m i (begun same slot standing i wanted) s)
      by (Get key) within few_so = on within (same key) (Begun gets None) (getting (its slot standing i) (standing.hash key) key)
          (begins.Gets key (standing.hash key) (lawful.fits key) (its_class same standing.hash lawful key)) few_so
      by (Remove key) within few_so = on within (same key) (Begun removes None) (removing (its slot standing i) (standing.hash key) key)
          (begins.Removes key (standing.hash key) (lawful.fits key) (its_class same standing.hash lawful key)) few_so
      by (Insert key value) within few_so =
          on within (same key) (Begun inserts (Some (node.Pair key value))) (inserting (its slot standing i) (standing.hash key) key value) (begins.Inserts key value) few_so
      by (TryToInsert key value) within few_so =
          on within (same key) (Begun tries_to_insert (Some (node.Pair key value))) (trying_to_insert (its slot standing i) (standing.hash key) key value) (begins.TriesToInsert key value) few_so
      by (Compute key) within few_so = on within (same key) (IsTold computes (Some key) []) (computing (its slot standing i) (standing.hash key) key) (begins.Computes key) few_so
      by (Update key) within few_so = on within (same key) (IsTold updates (Some key) []) (updating (its slot standing i) (standing.hash key) key) (begins.Updates key) few_so
      by (UpdateOrInsert key absent) within few_so =
          on within (same key) (IsTold updates_or_inserts (Some key) (replies_before absent)) (updating_or_inserting (its slot standing i) (standing.hash key) key (first_reply absent))
          (begins.UpdatesOrInserts key absent) few_so
      by (TryToInsertWith key) within few_so =
          on within (same key) (IsTold tries_to_insert_with (Some key) []) (trying_to_insert_with (its slot standing i) (standing.hash key) key) (begins.TriesToInsertWith key) few_so
      by (RemoveIf key) within few_so = on within (same key) (IsTold removes_if None []) (removing_if (its slot standing i) (standing.hash key) key)
          (begins.RemovesIf key (standing.hash key) (lawful.fits key) (its_class same standing.hash lawful key)) few_so
      by (GetKeyValue key) within few_so = on within (same key) (Begun gets None) (getting (its slot standing i) (standing.hash key) key)
          (begins.Gets key (standing.hash key) (lawful.fits key) (its_class same standing.hash lawful key)) few_so
      by (ContainsKey key) within few_so = on within (same key) (Begun gets None) (getting (its slot standing i) (standing.hash key) key)
          (begins.Gets key (standing.hash key) (lawful.fits key) (its_class same standing.hash lawful key)) few_so
      by (GetOrInsert key value) within few_so =
          on within (same key) (Begun tries_to_insert (Some (node.Pair key value))) (trying_to_insert (its slot standing i) (standing.hash key) key value) (begins.TriesToInsert key value) few_so
      by (GetOrInsertWith key) within few_so =
          on within (same key) (IsTold tries_to_insert_with (Some key) []) (trying_to_insert_with (its slot standing i) (standing.hash key) key) (begins.TriesToInsertWith key) few_so
      by (RemoveEntry key) within few_so = on within (same key) (Begun removes None) (removing (its slot standing i) (standing.hash key) key)
          (begins.Removes key (standing.hash key) (lawful.fits key) (its_class same standing.hash lawful key)) few_so
      by (MakeRoom additional) within few_so =
          rooms_begin_among V same same batch_size roots slot s.world s.maps s.calls s.makers s.enders all i (none_is (s.makers i) free.no_making) (none_is (s.enders i) free.no_ending)
          no_call (rests_is (s.world.row i) rest) (inside_is (s.world.uses (slot i)) within) m standing stands additional few_so
      by Count within few_so =
          countings_begin_among V same same batch_size roots slot s.world s.maps s.calls s.makers s.enders all i (none_is (s.makers i) free.no_making) (none_is (s.enders i) free.no_ending)
          no_call (rests_is (s.world.row i) rest) m standing stands
      by (GoOver purpose) within few_so =
          sweeps_begin_among V same same batch_size roots slot s.world s.maps s.calls s.makers s.enders all i (none_is (s.makers i) free.no_making) (none_is (s.enders i) free.no_ending)
          no_call (rests_is (s.world.row i) rest) (inside_is (s.world.uses (slot i)) within) m standing stands purpose few_so

  abbrev Came : Grant → Type 0
  Came g = (told : Answer K V) × (n : Scene K V) × Led same hash batch_size roots slot (StepsCall i m g) s told n × Stands n

  came : (g : Grant) (standing : Standing K) (u : UnderWay K V K) → s.maps m ≡ Some standing → s.calls m i ≡ Some u
      → (m2 : Mem (Node K V)) (machine : Machine K V K) (progress : Progress (Node K V)) → call_steps same hash batch_size roots slot s g (standing, u) ≡ Some (m2, (machine, progress)) → Came g
  came g standing u stands here m2 machine progress computed =
      let did : MachineStepsWithEndings V same same batch_size roots slot s.world s.maps s.calls s.makers s.enders m standing i m2 u machine progress =
      (machines_stand_among V same same batch_size roots slot s.world s.maps s.calls s.makers s.enders all m standing stands i u here).1 m2 machine progress
      (was_stepped s.world.memory g (machine_plan same same standing.hash (machine_of u)) (m2, (machine, progress)) computed) in (
        OfCall progress,
        record { world = did.w2; maps = did.maps2; calls = with_call s.calls m i did.next; makers = s.makers; enders = s.enders },
        record {
          standing = standing;
          stands = stands;
          call = u;
          here = here;
          memory = m2;
          machine = machine;
          progress = progress;
          computed = computed;
          tells = refl;
          did = did;
          comes = refl;
        },
        did.together,
      )

  pub call_goes_on : (g : Grant) → MayBe same hash batch_size roots slot (StepsCall i m g) s → Came g
  call_goes_on g may =
      let found = some_is (then_on (call_at s i m) (call_steps same hash batch_size roots slot s g)) may in
      let it = some (call_at s i m) (call_steps same hash batch_size roots slot s g) found.0 found.1 in
      let here = both it.0 it.1 in
      came g it.0.0 it.0.1 here.0 here.1 found.0.0 found.0.1.0 found.0.1.1 it.2

  -- what goes on as it was stands as it did
  pub as_it_was : (u : UnderWay K V K) → s.calls m i ≡ Some u → Stands (scene_with m i u s)
  as_it_was u has = subst (λ x. EndingsTogether V same same batch_size roots slot s.world s.maps x s.makers s.enders) (sym unchanged) all
    where
      unchanged : with_call s.calls m i (Some u) ≡ s.calls
      unchanged = ap (λ x. with_call s.calls m i x) (sym has) ∙ (ap (λ x. with_at s.calls m x) (with_same (s.calls m) i) ∙ with_same s.calls m)

  -- all stand together once a call was asked
  pub asked_stands : (standing : Standing K) → s.maps m ≡ Some standing → (u : UnderWay K V K) → s.calls m i ≡ Some u → Stands (scene_with m i (asked_on u) s)
  asked_stands standing stands (OverAll o) has = (sweeps_told_among V same same batch_size roots slot s.world s.maps s.calls s.makers s.enders all m standing stands i o has).next
  asked_stands standing stands (OnKey k) has = as_it_was (OnKey k) has
  asked_stands standing stands (ForRoom r) has = as_it_was (ForRoom r) has
  asked_stands standing stands (Counting sum) has = as_it_was (Counting sum) has

  module _ (may : is_none (call_at s i m) ≡ false) where
    abbrev it : Standing K × UnderWay K V K
    it = (some_is (call_at s i m) may).0

    abbrev here : (s.maps m ≡ Some it.0) × (s.calls m i ≡ Some it.1)
    here = both it (some_is (call_at s i m) may).1

    pub call_told : (reply : MachineReply V) → (told : Answer K V) × (n : Scene K V) × Led same hash batch_size roots slot (TellsCall i m reply) s told n × Stands n
    call_told reply = by (is_err (machine_replied (machine_of it.1) reply).1) refl
      where
        by : (q : Bool) → is_err (machine_replied (machine_of it.1) reply).1 ≡ q → (told : Answer K V) × (n : Scene K V) × Led same hash batch_size roots slot (TellsCall i m reply) s told n × Stands n
        by true refused = (
          OfReply (machine_replied (machine_of it.1) reply).1,
          scene_with m i it.1 s,
          (it.0, here.0, it.1, it.1, here.1, sym (refused_same (machine_of it.1) reply refused), refl, (told_nothing same batch_size roots slot it.0 i reply it.1, λ e. refl), refl),
          as_it_was it.1 here.1,
        )
        by false takes =
            let so = (machines_told_among V same same batch_size roots slot s.world s.maps s.calls s.makers s.enders all m it.0 here.0 i it.1 here.1).0 reply in (
              OfReply (machine_replied (machine_of it.1) reply).1,
              scene_with m i so.0 s,
              (it.0, here.0, it.1, so.0, here.1, so.1, refl, (so.2, λ refused. absurd (let both : true ≡ false = sym refused ∙ takes in cc both)), refl),
              so.3,
            )

    pub call_asked : (told : Answer K V) × (n : Scene K V) × Led same hash batch_size roots slot (AsksCall i m) s told n × Stands n
    call_asked = (OfAsking (machine_asked (machine_of it.1)).1, scene_with m i (asked_on it.1) s, (it.1, here.1, refl, refl), asked_stands it.0 here.0 it.1 here.1)

    stops : (u : UnderWay K V K) → it.1 ≡ u → (ready : Bool) → (machine_asked (machine_of u)).1 ≡ ready
        → EndingsTogether V same same batch_size roots slot s.world s.maps (with_call s.calls m i (unless_stopped ready it.1)) s.makers s.enders
    stops u is false asked = as_it_was it.1 here.1
    stops (OnKey k) is true asked = absurd (cc asked)
    stops (ForRoom r) is true asked = absurd (cc asked)
    stops (Counting sum) is true asked = absurd (cc asked)
    stops (OverAll o) is true asked =
        (walks_stop_among V same same batch_size roots slot s.world s.maps s.calls s.makers s.enders all m it.0 here.0 i o (here.1 ∙ ap Some is) (ready_is o.sweep.stands asked)).0

    pub call_stops : (told : Answer K V) × (n : Scene K V) × Led same hash batch_size roots slot (StopsCall i m) s told n × Stands n
    call_stops = (
      OfAsking (machine_asked (machine_of it.1)).1,
      record s { calls = with_call s.calls m i (unless_stopped (machine_asked (machine_of it.1)).1 it.1) },
      (it.1, here.1, refl, refl),
      stops it.1 refl (machine_asked (machine_of it.1)).1 refl,
    )

-- An event that tells a reply to a call that takes it, or gives up a walk that is ready: it is legal, and the run goes on with it.
use Rattle.std.specs.Prelude.{◌≡◌, ℕ, Bool, true, false, List, [], ◌∷◌, position, slice_get, slice_set, Option, Some, None, option_map, Result, Ok, Err}
use Rattle.std.specs.Result.{is_err}
use Rattle.std.proofs.Common.{refl, ap, sym, subst, ◌∙◌, inl, inr}
use Rattle.std.specs.List.{AllByRecursion}
use Rattle.run_schedules.specs.Runs.Same.{is_same}
use Rattle.play_stepping.specs.Given.RawMachine.{machine_replied}
use Rattle.play_stepping.specs.Given.RawDeclared.machines.asking.MachineReply.{MachineReply}
use Rattle.run_schedules.specs.declared.call.Call.TheVariants.{On}
use Rattle.run_schedules.specs.declared.call.OneKey.{OneKey}
use Rattle.run_schedules.specs.declared.call.OneKey.TheVariants.{Compute, RemoveIf}
use Rattle.run_schedules.specs.declared.call.Reply.{Reply}
use Rattle.run_schedules.specs.declared.call.Reply.TheVariants.{Gives, Removes, Aborts, Decides}
use Rattle.run_schedules.specs.declared.event.Event.TheVariants.{Replied, Stop}
use Rattle.run_schedules.specs.declared.outcome.Outcome.TheVariants.{Done, Goes}
use Rattle.run_schedules.specs.Schedules.After.{moment, replied, slots_on}
use Rattle.run_schedules.specs.Given.SeizeWordsMem.{Mem}
use Rattle.play_stepping.specs.Given.SeizeWorld.{SlotsTaken}
use Rattle.play_lists.specs.Given.TablesDeclared.node.Node.{Node}
use Rattle.run_schedules.specs.Schedules.Entry.{Entry}
use Rattle.run_schedules.specs.Schedules.InTurn.{HasRightOutcome}
use Rattle.run_schedules.specs.Schedules.Moment.{Asking, Moment, CallState, Told as IsTold, UnderWay as CallThere}
use Rattle.run_schedules.specs.Schedules.Terms.{Terms}
use Rattle.run_schedules.specs.Schedules.Views.{call_of}
use Rattle.play_stepping.specs.Given.CallersTogether.{UnderWay}
use Rattle.play_lists.specs.Given.EffectsKnown.{Known, known}
use Rattle.play_lists.specs.Given.FinishesMachines.{machine_of}
use Rattle.play_lists.specs.Given.FinishesMaps.{Standing, with_call as with_call_of}
use Rattle.play_lists.specs.Given.FollowsCalling.{NoneNamed}
use Rattle.play_stepping.specs.Given.HandsAsked.{reply_to_machine}
use Rattle.play_lists.proofs.Given.FollowsCalling.{apart_back, is_same_refl}
use Rattle.play_stepping.proofs.Given.HandsAsking.{which}
use Rattle.play_stepping.specs.Given.ChangesChanges.{IsTaken}
use Rattle.play_stepping.specs.Given.RawDeclared.machines.machine.Machine.{Machine}
use Rattle.run_legal.proofs.Come.{events_bring_things}
use Rattle.run_legal.specs.CallEvents.{IsLegalBut}
use Rattle.run_legal.specs.Carried.{RefinesRun}
use Rattle.run_legal.proofs.Begun.{stopped_events_end, told_events_end}
use Rattle.play_stepping.specs.Given.ReclaimsLeft.{LeftWithEndings}
use Rattle.play_stepping.specs.Given.LoggedShown.{IsCounted}
use Rattle.play_stepping.specs.Given.NamedMachines.{IsAsFar}
use Rattle.play_stepping.specs.Given.SchedulerPlayed.{HasReplied, HasStopped, IsPlayed}
use Rattle.play_stepping.specs.Given.NamedSeen.{Seen, asks, fits, is_named, is_ready as is_ready_there, kind_of, kind_on, takes}
use Rattle.play_stepping.specs.Given.ExecutorDeclared.caller.NamedCaller.{NamedCaller}
use Rattle.play_stepping.specs.Given.ExecutorDeclared.caller.Stands.{Stands as HowFar}
use Rattle.play_stepping.specs.Given.ExecutorDeclared.caller.Stands.TheVariants as far
use Rattle.play_stepping.specs.Given.ExecutorDeclared.kind.CallKind.{CallKind}
use Rattle.play_stepping.specs.Given.SchedulerDeclared.scheduler.Scheduler.{Scheduler}
use Rattle.play_stepping.proofs.Given.SchedulerHere.{Here, here_at, read_here}
use Rattle.play_stepping.proofs.Given.SchedulerReplied.{asks_what, far_asks}
use Rattle.play_stepping.proofs.Given.SchedulerRights.{quiet}
use Rattle.play_stepping.proofs.Given.SchedulerStopped.{asked_ready, ready_parts, shows_is}
use Rattle.play_lists.specs.Given.ValuesValues.{KeepsValue}
use Rattle.play_lists.proofs.Given.ValuesValues.{values_taken}
use Rattle.play_stepping.proofs.Given.RowsLists.{all_so, found_has, set_all}
use Rattle.play_events.proofs.Events.OfCalls.Worth.{all_left, event_says, found_changed, found_unchanged, is_worth_then}
use Rattle.play_events.proofs.Folded.Steps.{idle_in_order}
use Rattle.play_events.specs.Events.OfCalls.{HaveValues, IsWorth, Runs, RunsOn}
use Rattle.play_events.proofs.Events.OfCalls.Scenes.{AreNamed, its_named, named_left, named_set, stands_in}
use Rattle.play_events.proofs.Events.Remaining.{counted_in}
use Rattle.play_events.proofs.Events.Reached.{reached_by}
use Rattle.play_stepping.specs.Given.ExecutorIsThere.{IsThere, PreservesSettings, held_by}
use Rattle.play_stepping.specs.Given.ExecutorReplying.{RepliesThere, StopsThere}
use Rattle.play_lists.specs.Given.ScenesReplying.{scene_with, unless_stopped}
use Rattle.play_lists.specs.Given.ScenesScene.{Scene}
use Rattle.play_lists.proofs.Given.ShedsHeld.{stop_held}
use Rattle.play_stepping.proofs.Given.General.{both_true as both, same_some as the_one}

-- a call takes a reply of its kind
taken_by : {K V : Type 0} (one : OneKey K V) (reply : Reply V) → fits (kind_on one) reply ≡ true → IsTaken one reply
taken_by (RemoveIf k) (Decides keeps) is = tt
taken_by (RemoveIf k) (Gives v) is = absurd (cc is)
taken_by (RemoveIf k) Removes is = absurd (cc is)
taken_by (RemoveIf k) (Aborts v) is = absurd (cc is)
taken_by (Compute k) (Decides keeps) is = absurd (cc is)
taken_by (Compute k) (Gives v) is = tt
taken_by (Compute k) Removes is = tt
taken_by (Compute k) (Aborts v) is = tt
taken_by _ reply is = tt

replied_name : {K V : Type 0} (reply : Reply V) (c : CallThere K V) (stands : CallState) → (replied reply c stands).caller ≡ c.caller
replied_name reply c (Asking q) = refl
replied_name reply c _ = refl

plain_ok : {X : Type 0} (r : Result Unit X) → is_err r ≡ false → r ≡ Ok tt
plain_ok (Ok tt) is = refl
plain_ok (Err x) is = absurd (cc is)

module _ {K V S : Type 0} (same : K → K → Bool) (hash : K → ℕ) (terms : Terms) (log : List (Entry K V)) (old : Scheduler K V S) (runs : Runs same hash terms log old) (own : List ℕ) (new : Scheduler K V S) where
  abbrev m : Moment K V
  m = moment log

  abbrev s : Scene K V
  s = runs.stands.scene

  abbrev name : ℕ → List ℕ
  name = runs.stands.name

  -- the run goes on in a scene with the same maps
  module _ (e : Entry K V) (nothing : e.effects ≡ []) (t : Scene K V) (run : RefinesRun same name terms (e ∷ log) (known old.logged.notes) t) (legal : IsLegalBut same terms log e) (is_at : IsThere same hash new.logged.executor t) (maps : t.maps ≡ s.maps)
      (left : LeftWithEndings new.logged.executor.roots t.world t.maps t.makers t.enders runs.stands.shown.counted.remains.lists) (notes : new.logged.notes ≡ old.logged.notes) (on_size : new.logged.executor.batch_size ≡ old.logged.executor.batch_size) (named : AreNamed name new.calls)
      (values : HaveValues (moment (e ∷ log)) t new.calls) (plays : IsPlayed same hash terms (e ∷ log) new) (right : HasRightOutcome terms log e) (memory : t.world.memory ≡ s.world.memory) (no_slot : slots_on e.outcome m.slots ≡ m.slots) where
    run_then : RefinesRun same name terms (e ∷ log) (known new.logged.notes) t
    run_then = subst (λ (k : Known). RefinesRun same name terms (e ∷ log) k t) (sym (ap known notes)) run

    counted : IsCounted (moment (e ∷ log)) new.logged t
    counted = counted_in same hash terms (moment (e ∷ log)) new plays t is_at runs.stands.shown.counted.remains.lists left

    pub then_on : RunsOn same hash terms log e new
    then_on = record {
      legal = legal;
      hands = idle_in_order log e nothing;
      runs = record {
        stands = stands_in same hash terms (moment (e ∷ log)) new plays name t (record { is_at = is_at; shows = run_then.calls.whole; kept = run_then.calls.kept; counted = counted }) named;
        shows = run_then;
        come = events_bring_things K V terms log e runs.come legal.life.finds;
        values = values;
        taken = subst (λ (x : Mem (Node K V)). SlotsTaken x (moment (e ∷ log)).slots) (sym memory) (subst (SlotsTaken s.world.memory) (sym no_slot) runs.taken);
        size = on_size ∙ runs.size;
        shards = λ n setting is. runs.shards n setting (sym (runs.stands.shown.is_at.maps n) ∙ ap (λ (f : ℕ → Option (Standing K)). option_map (λ (x : Standing K). x.setting) (f n)) (sym maps) ∙ is_at.maps n ∙ is);
        reached = reached_by same hash terms log e old new right plays (ap known notes) runs.reached;
      };
    }

  -- what is behind roots stays there, in a scene that differs in calls alone
  behind : PreservesSettings old.logged.executor new.logged.executor
      → LeftWithEndings new.logged.executor.roots s.world s.maps s.makers s.enders runs.stands.shown.counted.remains.lists
  behind given =
      subst (λ (r : ℕ). LeftWithEndings r s.world s.maps s.makers s.enders runs.stands.shown.counted.remains.lists) (sym given.2) runs.stands.shown.counted.remains.left

  -- a reply was told
  module _ (reply : Reply V) (has : HasReplied same hash own reply old new) (given : PreservesSettings old.logged.executor new.logged.executor) where
    abbrev here : Here same hash terms m old runs.stands own has.place
    here = here_at same hash terms m old runs.stands own has.place has.placed

    abbrev d : NamedCaller V
    d = here.caller

    abbrev u : UnderWay K V K
    u = here.way.0

    name_is : name d.number ≡ own
    name_is = here.way.2 ∙ here.named

    takes_it : takes d reply ≡ true
    takes_it = ap (λ (x : NamedCaller V). takes x reply) (sym (read_here same hash terms m old runs.stands own has.place here has.asked has.reads)) ∙ has.taken

    parts : (asks d.stands ≡ true) × (fits d.kind reply ≡ true)
    parts = both (asks d.stands) (fits d.kind reply) takes_it

    question : (q : Option ℕ) × (d.stands ≡ far.Asks q)
    question = asks_what d.stands parts.0

    asking : here.call.stands ≡ Asking question.0
    asking = far_asks here.call.stands question.0 (ap (λ (z : Seen). z.far) here.as_seen ∙ question.1)

    leads : RepliesThere same hash d.number (reply_to_machine reply) has.result s old.logged.executor new.logged.executor
    leads =
        subst (λ (t : MachineReply V). RepliesThere same hash d.number t has.result s old.logged.executor new.logged.executor) has.is_told
        (subst (λ (x : NamedCaller V). RepliesThere same hash x.number has.as_it has.result s old.logged.executor new.logged.executor)
        (read_here same hash terms m old runs.stands own has.place here has.whose has.reads_whose) (has.leads s runs.stands.shown.is_at))

    abbrev t : Scene K V
    t = scene_with d.map d.number (leads.1 d.map u here.way.1).1 s

    takes_ok : (machine_replied (machine_of u) (reply_to_machine reply)).1 ≡ Ok tt
    takes_ok = sym (leads.1 d.map u here.way.1).4 ∙ plain_ok has.result has.plain

    taken : (one : OneKey K V) → here.call.call ≡ On one → IsTaken one reply
    taken one is = taken_by one reply (sym (ap (λ (k : CallKind). fits k reply) (sym (ap (λ (z : Seen). z.kind) here.as_seen) ∙ ap kind_of is)) ∙ parts.1)

    abbrev e : List ℕ → Entry K V
    e x = quiet (Replied x reply) Goes

    abbrev told_caller : NamedCaller V
    told_caller = record d { stands = far.Goes; value = has.value }

    call_then : call_of own (moment (e own ∷ log)) ≡ Some (record here.call { stands = IsTold; replies = (question.0, reply) ∷ here.call.replies })
    call_then =
        found_changed own (λ (c : CallThere K V). replied reply c c.stands) (λ (c : CallThere K V). replied_name reply c c.stands) m.calls here.call here.call_is
        ∙ ap (λ (x : CallState). Some (replied reply here.call x)) asking

    -- and the caller keeps the value with which it was told to abort
    own_worth : IsWorth (moment (e own ∷ log)) t told_caller
    own_worth x there c is =
        elim (which s.calls d.map d.number (Some (leads.1 d.map u here.way.1).1) d.map d.number x there) as (λ _. KeepsValue c.call c.replies (machine_of x) has.value) [
          | inl at ↦ subst (λ (y : CallThere K V). KeepsValue y.call y.replies (machine_of x) has.value) (the_one _ c (sym call_then ∙ ap (λ (l : List ℕ). call_of l (moment (e own ∷ log))) (sym here.named) ∙ is))
              (subst (λ (y : UnderWay K V K). KeepsValue here.call.call ((question.0, reply) ∷ here.call.replies) (machine_of y) has.value) (the_one (leads.1 d.map u here.way.1).1 x at.2)
              (subst (λ (y : Machine K V K). KeepsValue here.call.call ((question.0, reply) ∷ here.call.replies) y has.value) (sym (leads.1 d.map u here.way.1).3)
              (subst (λ (v : Option V). KeepsValue here.call.call ((question.0, reply) ∷ here.call.replies) (machine_replied (machine_of u) (reply_to_machine reply)).0 v) (sym has.value_is)
              (values_taken K V same (λ map. hash) name m (known old.logged.notes) s (held_by old.logged.executor) runs.stands.shown.is_at.held runs.stands.shown.shows d.map d.number u here.way.1 (leads.1 d.map u here.way.1).0
              (leads.1 d.map u here.way.1).2 here.call (ap (λ (l : List ℕ). call_of l m) name_is ∙ here.call_is) question.0 asking reply takes_ok d.value
              (found_has (λ (z : NamedCaller V). IsWorth m s z) (is_named own) old.calls d here.found runs.values u here.way.1 here.call (ap (λ (l : List ℕ). call_of l m) here.named ∙ here.call_is))))))
          | inr apart ↦ absurd (apart.0 refl refl)
        ]

    -- and others theirs
    other_worth : (z : NamedCaller V) → is_named own z ≡ false → (name z.number ≡ z.name) × IsWorth m s z → IsWorth (moment (e own ∷ log)) t z
    other_worth z other (named, worth) x there c is =
        worth x
        (elim (which s.calls d.map d.number (Some (leads.1 d.map u here.way.1).1) z.map z.number x there) as (λ _. s.calls z.map z.number ≡ Some x) [
          | inl at ↦ absurd (let yes = ap (λ (l : List ℕ). is_same l own) (sym named ∙ ap name at.1 ∙ name_is) ∙ is_same_refl own in cc (other, yes))
          | inr apart ↦ apart.1
        ]) c (sym (found_unchanged own z.name other (λ (y : CallThere K V). replied reply y y.stands) (λ (y : CallThere K V). replied_name reply y y.stands) m.calls) ∙ is)

    values_told : HaveValues (moment (e own ∷ log)) t new.calls
    values_told =
        subst (HaveValues (moment (e own ∷ log)) t) (sym (has.calls d here.at))
        (subst (λ (n : ℕ). HaveValues (moment (e own ∷ log)) t (slice_set old.calls n told_caller)) (sym here.first)
        (set_all (λ (z : NamedCaller V). (name z.number ≡ z.name) × IsWorth m s z) (IsWorth (moment (e own ∷ log)) t) (is_named own) told_caller own_worth other_worth old.calls
        (both_all old.calls (its_named same hash terms m old runs.stands) runs.values) (runs.stands.calls.once own)))
      where
        both_all : (ds : List (NamedCaller V)) → AreNamed name ds → HaveValues m s ds → AllByRecursion (λ (z : NamedCaller V). (name z.number ≡ z.name) × IsWorth m s z) ds
        both_all [] named all = tt
        both_all (z ∷ ds) named all = ((named.0, all.0), both_all ds named.1 all.1)

    pub told_on : HasRightOutcome terms log (e own) → IsPlayed same hash terms (e own ∷ log) new → RunsOn same hash terms log (e own) new
    told_on right plays =
        let led = leads.1 d.map u here.way.1 in
        let on = subst (λ (x : List ℕ). IsLegalBut same terms log (e x) × RefinesRun same name terms (e x ∷ log) (known old.logged.notes) t) name_is
        (told_events_end K V same (λ map. hash) name terms log (known old.logged.notes) s (held_by old.logged.executor) (held_by new.logged.executor) runs.stands.shown.is_at.held runs.shows d.map d.number u here.way.1 here.call
        (ap (λ (x : List ℕ). call_of x m) name_is ∙ here.call_is) question.0 asking led.0 led.2 reply led.1 led.3 takes_ok led.5 taken led.7.held 0
        (subst (λ (x : List ℕ). HasRightOutcome terms log (e x)) (sym name_is) right)) in
        then_on (e own) refl t on.1 on.0 led.7 refl (behind given) has.notes given.1
        (subst (AreNamed name) (sym (has.calls d here.at)) (named_set name old.calls has.place (record d { stands = far.Goes; value = has.value }) here.way.2 (its_named same hash terms m old runs.stands))) values_told plays right refl refl

  -- a walk was given up
  module _ (has : HasStopped same hash own old new) (given : PreservesSettings old.logged.executor new.logged.executor) where
    placed : (Some has.place ≡ position (is_named own) old.calls) × (is_ready_there (slice_get old.calls has.place) ≡ true)
    placed = ready_parts same hash terms log old own runs.stands has.place has.ready

    abbrev there : Here same hash terms m old runs.stands own has.place
    there = here_at same hash terms m old runs.stands own has.place placed.0

    abbrev its : NamedCaller V
    its = there.caller

    named_so : name its.number ≡ own
    named_so = there.way.2 ∙ there.named

    far_is : its.stands ≡ far.Ready
    far_is = shows_is its.stands (sym (ap is_ready_there there.at) ∙ placed.1)

    led : StopsThere same hash its.number has.stopped s old.logged.executor new.logged.executor
    led = subst (λ (x : NamedCaller V). StopsThere same hash x.number has.stopped s old.logged.executor new.logged.executor)
        (read_here same hash terms m old runs.stands own has.place there has.whose has.reads) (has.leads s runs.stands.shown.is_at)

    is_stopped : has.stopped ≡ true
    is_stopped = (led.1 its.map there.way.0 there.way.1).0
        ∙ asked_ready its.kind (machine_of there.way.0) (subst (λ (x : HowFar). IsAsFar its.kind x (machine_of there.way.0)) far_is there.way.4.0)

    led_so : StopsThere same hash its.number true s old.logged.executor new.logged.executor
    led_so = subst (λ (q : Bool). StopsThere same hash its.number q s old.logged.executor new.logged.executor) is_stopped led

    abbrev after : Scene K V
    after = record s { calls = with_call_of s.calls its.map its.number (unless_stopped true there.way.0) }

    -- no other call has its name
    none_named : NoneNamed name (name its.number) after
    none_named n j x is = apart_back (name j) (name its.number) (by (is_same (name j) (name its.number)) refl)
      where
        by : (q : Bool) → is_same (name j) (name its.number) ≡ q → is_same (name j) (name its.number) ≡ false
        by false e = e
        by true e = elim (which s.calls its.map its.number None n j x is) as (λ _. is_same (name j) (name its.number) ≡ false) [
          | inl own_one ↦ absurd (let none = own_one.2 in cc none)
          | inr had ↦ absurd (let two = runs.stands.shown.shows.all.asked.apart n j its.map its.number x there.way.0 had.1 there.way.1 e in had.0 two.0 two.1)
        ]

    abbrev f : List ℕ → Entry K V
    f x = quiet (Stop x) Done

    values_stopped : HaveValues (moment (f own ∷ log)) after new.calls
    values_stopped =
        subst (λ (cs : List (NamedCaller V)). HaveValues (moment (f own ∷ log)) after cs) (sym has.calls)
        (all_left (IsWorth (moment (f own ∷ log)) after) old.calls has.place
        (all_so (IsWorth m s) (IsWorth (moment (f own ∷ log)) after)
        (λ z worth. is_worth_then m (moment (f own ∷ log)) (event_says (f own) m tt) s after z (λ x is. there_still z x is) worth) old.calls runs.values))
      where
        there_still : (z : NamedCaller V) (x : UnderWay K V K) → after.calls z.map z.number ≡ Some x → s.calls z.map z.number ≡ Some x
        there_still z x is = elim (which s.calls its.map its.number None z.map z.number x is) as (λ _. s.calls z.map z.number ≡ Some x) [
          | inl at ↦ absurd (let none = at.2 in cc none)
          | inr apart ↦ apart.1
        ]

    pub stopped_on : HasRightOutcome terms log (f own) → IsPlayed same hash terms (f own ∷ log) new → RunsOn same hash terms log (f own) new
    stopped_on right plays =
        let on = subst (λ (x : List ℕ). IsLegalBut same terms log (f x) × RefinesRun same name terms (f x ∷ log) (known old.logged.notes) after) named_so
        (stopped_events_end K V same (λ map. hash) name terms log (known old.logged.notes) s (held_by old.logged.executor) (held_by new.logged.executor) runs.stands.shown.is_at.held runs.shows its.number (stop_held same hash s old.logged.executor new.logged.executor its.number true led_so) its.map there.way.0
        there.way.1 0 none_named (subst (λ (x : List ℕ). HasRightOutcome terms log (f x)) (sym named_so) right)) in
        then_on (f own) refl after on.1 on.0 (led_so.1 its.map there.way.0 there.way.1).2 refl (behind given) has.notes given.1
        (subst (AreNamed name) (sym has.calls) (named_left name old.calls has.place (its_named same hash terms m old runs.stands))) values_stopped plays right refl refl

-- An event by which a call is told a reply: the list of acts goes on by that.
use Rattle.std.specs.Prelude.{◌≤◌, ◌==◌, ◌+◌, ◌⊎◌, Some, Result, Ok, Err, option_map, is_ok, length, slice_get, if◌then◌else◌}
use Rattle.std.specs.Result.{is_err}
use Rattle.std.proofs.Common.{◌≡◌, ℕ, Bool, true, false, List, [], ◌∷◌, inl, inr, refl, sym, ap, subst, ◌∙◌}
use Rattle.std.proofs.lemmas.Bool.{eq-eqb}
use Rattle.papaya_raw.specs.Machine.{machine_replied}
use Rattle.papaya_raw.specs.declared.machines.machine.Machine.{Machine}
use Rattle.play_events.specs.Given.FinishesMachines.{machine_of}
use Rattle.play_events.specs.Given.ScenesScene.{Scene, slot_of}
use Rattle.run_schedules.specs.declared.call.Reply.{Reply}
use Rattle.run_schedules.specs.declared.call.Reply.TheVariants as reply
use Rattle.run_schedules.specs.declared.event.Event.TheVariants as event
use Rattle.run_schedules.specs.declared.effect.Effect.{Effect}
use Rattle.run_schedules.specs.declared.outcome.Outcome.{Outcome}
use Rattle.run_schedules.specs.declared.outcome.Outcome.TheVariants as outcome
use Rattle.run_schedules.specs.Schedules.After.{moment}
use Rattle.run_schedules.specs.Schedules.Entry.{Entry}
use Rattle.run_schedules.specs.Schedules.Terms.{Terms, shards_of}
use Rattle.run_effects.specs.Effects.Known.{known}
use Rattle.seize_words.specs.declared.fault.Fault.TheVariants as fault
use Rattle.play_events.specs.Given.ExecutorIsThere.{IsThere, PreservesSettings, StaysGiven}
use Rattle.play_events.specs.Given.ExecutorReplying.{RepliesThere}
use Rattle.play_events.specs.Given.ExecutorDeclared.executor.Executor.{Executor}
use Rattle.play_events.specs.Given.HandsAsked.{reply_to_machine}
use Rattle.play_events.specs.Given.SchedulerPlayed.{HasReplied, IsPlayed, Replies as Told', entry_of}
use Rattle.play_events.proofs.Given.SchedulerHere.{here_at, read_here}
use Rattle.play_events.specs.Given.SchedulerDeclared.played.Played.{Played}
use Rattle.play_events.specs.Given.SchedulerDeclared.scheduler.Scheduler.{Scheduler}
use Rattle.play_events.specs.Given.NamedMachines.{aborted_by}
use Rattle.play_events.specs.Given.NamedSeen.{kind_of}
use Rattle.play_events.specs.Given.ExecutorDeclared.caller.NamedCaller.{NamedCaller}
use Rattle.play_events.specs.Given.ExecutorDeclared.caller.Stands.TheVariants as far
use Rattle.play_events.specs.Given.ActsActs.{OfReply, TellsCall}
use Rattle.play_events.specs.Given.ActsDoings.{Stage}
use Rattle.play_events.specs.Given.ActsLeads.{Led}
use Rattle.play_events.specs.Given.ActsLists.{Course}
use Rattle.run_schedules.specs.Deeds.Deeds.{Replies, Entry as Act}
use Rattle.play_events.specs.Given.DrivesExecutors.{IsAct}
use Rattle.play_events.proofs.Given.DrivesExecutors.{executors_act}
use Rattle.play_events.specs.Given.PlayedPlay.{Calling, State, call_replied, play_act, reply_for, replied_call}
use Rattle.play_events.specs.Given.PlayedReached.{IsOfStage}
use Rattle.play_events.proofs.Given.PlayedPlayedAs.{played_as}
use Rattle.play_events.specs.Given.GroupedCalled.{CallersAre, IsCalledAs, PlaysSo}
use Rattle.play_events.specs.Given.GroupedGrouping.{Names, number_called, refuses}
use Rattle.play_events.specs.Given.GroupedReach.{Reach}
use Rattle.play_events.proofs.Given.GroupedCallers.{call_beside, call_here, each_at, set_count, set_one, under}
use Rattle.play_events.proofs.Given.GroupedMidst.{InEvent, event_begins, event_ends, event_goes_on, at_rest}
use Rattle.play_events.proofs.Given.GroupedReached.{goes_at}
use Rattle.play_events.proofs.Given.GroupedOneMore.{one_act}
use Rattle.papaya_steps.specs.Pieced.SoFar.{ActsSoFar}
use Rattle.papaya_steps.proofs.Pieced.Quiet.{did_nothing, later_by}
use Rattle.papaya_steps.proofs.Pieced.StepCall.{HasCallIn}
use Rattle.papaya_steps.proofs.Pieced.Taken.{works_at}
use Rattle.seize_words.proofs.General.{same_some}

-- what the closure aborts with that is told so, if it is told to abort
abbrev abort_of : {V : Type 0} → Reply V → V → V
abort_of (reply.Aborts value) other = value
abort_of _ other = other

told_back : {V : Type 0} (told : Reply V) (other : V) → reply_for (abort_of told other) (reply_to_machine told) ≡ told
told_back (reply.Gives value) other = refl
told_back reply.Removes other = refl
told_back (reply.Aborts value) other = refl
told_back (reply.Decides true) other = refl
told_back (reply.Decides false) other = refl

taken : {A B : Type 0} (r : Result A B) → is_err r ≡ false → is_ok r ≡ true
taken (Ok a) plain = refl
taken (Err b) plain = absurd (cc plain)

module _ {K V S : Type 0} (same : K → K → Bool) (by_hasher : S → K → ℕ) (terms : Terms) (log : List (Entry K V)) (own : List ℕ) (told : Reply V) (played : Played V) (old new : Scheduler K V S)
    (did : HasReplied same (by_hasher old.logged.executor.hasher) own told old new) (d : NamedCaller V) (here : slice_get old.calls did.place ≡ Some d) (named : d.name ≡ own) (its : did.whose ≡ d)
    (later : (moment log).made + 0 ≤ (moment (entry_of (event.Replied own told) played ∷ log)).made) where
  abbrev e : Executor K V S
  e = old.logged.executor

  abbrev e2 : Executor K V S
  e2 = new.logged.executor

  abbrev entry : Act K V
  entry = record { deed = Replies d.number told; outcome = outcome.Goes; effects = []; refused = false }

  -- its caller goes on, by what it was told
  abbrev next_caller : NamedCaller V
  next_caller = record d { stands = far.Goes; value = did.value }

  module _ (names : Names) (x : State K V S) (so : CallersAre names old.calls x) (c : Calling K V) (at : x.now.calls d.map d.number ≡ Some c) (aborts : ℕ → V) (is_ok_then : is_ok (machine_replied c.machine did.as_it).1 ≡ true)
      (as_reply : reply_for (aborts (length x.told)) did.as_it ≡ told) where
    abbrev z : State K V S
    z = call_replied d.number d.map aborts did.as_it x c

    history_then : z.history ≡ entry ∷ x.history
    history_then =
        ap (λ (b : Bool). if b then record { deed = Replies d.number (reply_for (aborts (length x.told)) did.as_it); outcome = outcome.Goes; effects = []; refused = false } ∷ x.history else x.history) is_ok_then
        ∙ ap (λ (r : Reply V). record { deed = Replies d.number r; outcome = outcome.Goes; effects = []; refused = false } ∷ x.history) as_reply

    called : IsCalledAs names x d
    called = each_at (λ a. IsCalledAs names x a) old.calls did.place d here so.each

    one : called.call ≡ c
    one = same_some called.call c (sym called.here ∙ at)

    others : (a : NamedCaller V) → (a.number == d.number) ≡ false → IsCalledAs names x a → IsCalledAs names z a
    others a other is = record {
      name = is.name;
      call = is.call;
      here = call_beside x.now.calls d.map d.number (Some (replied_call (machine_replied c.machine did.as_it) (reply_for (aborts (length x.told)) did.as_it) c)) a.map a.number other ∙ is.here;
      kind = is.kind;
      value = is.value;
    }

    it_then : IsCalledAs names z next_caller
    it_then = record {
      name = called.name;
      call = replied_call (machine_replied c.machine did.as_it) (reply_for (aborts (length x.told)) did.as_it) c;
      here = call_here x.now.calls d.map d.number (Some (replied_call (machine_replied c.machine did.as_it) (reply_for (aborts (length x.told)) did.as_it) c));
      kind = ap (λ (a : Calling K V). kind_of a.call) (sym one) ∙ called.kind;
      value = ap (λ (b : Bool). if b then aborted_by (reply_for (aborts (length x.told)) did.as_it) else c.value) is_ok_then ∙ ap aborted_by as_reply ∙ sym did.value_is;
    }

    callers_then : CallersAre names new.calls z
    callers_then = subst (λ (l : List (NamedCaller V)). CallersAre names l z) (sym (did.calls d here)) (record {
      each = set_one (λ a. a.number == d.number) (λ a. IsCalledAs names x a) (λ a. IsCalledAs names z a) others next_caller it_then old.calls did.place d here (eq-eqb d.number d.number refl)
          (so.once d.number) so.each;
      once = λ n. subst (λ (k : ℕ). k ≤ 1) (sym (set_count (λ (a : NamedCaller V). a.number == n) old.calls did.place d next_caller here refl)) (so.once n);
    })

  -- played, it is a piece of one entry
  piece : (x : State K V S) → PlaysSo log old.calls x → (c : Calling K V) → x.now.calls d.map d.number ≡ Some c → (aborts : ℕ → V) → is_ok (machine_replied c.machine did.as_it).1 ≡ true
      → reply_for (aborts (length x.told)) did.as_it ≡ told → played.outcome ≡ outcome.Goes → played.steps ≡ 0 → played.effects.items ≡ []
      → PlaysSo (entry_of (event.Replied own told) played ∷ log) new.calls (call_replied d.number d.map aborts did.as_it x c)
  piece x so c at aborts is_ok_then as_reply goes none idle =
      let begins = event_begins log (event.Replied own told) at_rest refl old.calls x so in
      let z = call_replied d.number d.map aborts did.as_it x c in
      let callers = callers_then so.names x so.callers c at aborts is_ok_then as_reply in
      let name : IsCalledAs so.names x d = each_at (λ a. IsCalledAs so.names x a) old.calls did.place d here so.callers.each in
      let on = event_goes_on log (event.Replied own told) [] 0 at_rest old.calls new.calls x z begins entry (history_then so.names x so.callers c at aborts is_ok_then as_reply) (λ n l. refl) refl refl
      (subst (λ (n : List ℕ). number_called n so.names ≡ Some d.number) named name.name, refl) callers in
      event_ends log (event.Replied own told) played.effects.items played.steps played.outcome new.calls z later
      (subst (λ (o : Outcome V). InEvent log (event.Replied own told) played.effects.items played.steps o new.calls z) (sym goes)
      (subst (λ (n : ℕ). InEvent log (event.Replied own told) played.effects.items n outcome.Goes new.calls z) (sym none)
      (subst (λ (l : List Effect). InEvent log (event.Replied own told) l 0 outcome.Goes new.calls z) (sym idle) on)))

  -- So the list goes on by it.
  pub reply_goes : (any : Course V same by_hasher e.batch_size e.roots slot_of) → StaysGiven e e2 → HasCallIn d.number d.map e → played.outcome ≡ outcome.Goes → played.steps ≡ 0 → played.effects.items ≡ []
      → Reach same by_hasher e.hasher e.batch_size e.roots (shards_of terms) (PlaysSo log old.calls) e (known old.logged.notes)
      → Reach same by_hasher e.hasher e.batch_size e.roots (shards_of terms) (PlaysSo (entry_of (event.Replied own told) played ∷ log) new.calls) e2 (known new.logged.notes)
  reply_goes any given has goes none idle at =
      one_act same by_hasher (shards_of terms) e e2 given any (known old.logged.notes) (known new.logged.notes) (PlaysSo log old.calls) (PlaysSo (entry_of (event.Replied own told) played ∷ log) new.calls)
      (TellsCall d.number d.map did.as_it) (OfReply did.result) (tt, tt) is (λ x so. tt) (abort_of told) next at
    where
      is : (s : Scene K V) → IsThere same (by_hasher e.hasher) e s → IsAct same by_hasher e e2 s (TellsCall d.number d.map did.as_it) (OfReply did.result)
      is s there =
          let c = under machine_of (s.calls d.map d.number) has.0 (there.calls d.map d.number ∙ has.1) in
          (executors_act V same by_hasher e e2 s there given d.number).0.reply did.as_it did.result
          (subst (λ (i : ℕ). RepliesThere same (by_hasher e.hasher) i did.as_it did.result s e e2) (ap (λ (a : NamedCaller V). a.number) its) (did.leads s there)) d.map c.0 c.1

      next : (value : V) (aborts : ℕ → V) (x y : State K V S) (p : Stage V same by_hasher e.batch_size e.roots slot_of) → IsOfStage by_hasher same e.batch_size e.roots p x.now
          → IsThere same (by_hasher e.hasher) e p.0 → aborts (length x.told) ≡ abort_of told value → play_act same by_hasher e.batch_size e.roots aborts (TellsCall d.number d.map did.as_it) x ≡ Some y
          → x.known ≡ known old.logged.notes → PlaysSo log old.calls x
          → (y.known ≡ known new.logged.notes) × PlaysSo (entry_of (event.Replied own told) played ∷ log) new.calls y
      next value aborts x y p stage there aborts_so play knows so =
          let act = is p.0 there in
          let came = played_as same by_hasher e.batch_size e.roots aborts x y (TellsCall d.number d.map did.as_it) play in
          let led : Led same by_hasher e.batch_size e.roots slot_of (TellsCall d.number d.map did.as_it) p.0 (OfReply did.result) act.to = act.led in
          let machine : came.0.machine ≡ machine_of led.2 = same_some came.0.machine (machine_of led.2)
          (sym (ap (option_map (λ (c : Calling K V). c.machine)) came.1) ∙ stage.scene.calls d.map d.number ∙ ap (option_map machine_of) led.4) in
          let result : did.result ≡ (machine_replied (machine_of led.2) did.as_it).1 = cc (led.6) in
          let ok : is_ok (machine_replied came.0.machine did.as_it).1 ≡ true =
          ap (λ (v : Machine K V K). is_ok (machine_replied v did.as_it).1) machine ∙ ap is_ok (sym result) ∙ taken did.result did.plain in
          let reply_is : reply_for (aborts (length x.told)) did.as_it ≡ told =
          ap (λ (v : V). reply_for v did.as_it) aborts_so ∙ ap (reply_for (abort_of told value)) did.is_told ∙ told_back told value in (
            ap (λ (w : State K V S). w.known) came.2 ∙ knows ∙ ap known (sym did.notes),
            subst (PlaysSo (entry_of (event.Replied own told) played ∷ log) new.calls) (sym came.2) (piece x so came.0 came.1 aborts ok reply_is goes none idle),
          )

-- The event by which a reply is told, or is out of turn.
module _ {K V S : Type 0} (same : K → K → Bool) (by_hasher : S → K → ℕ) (any : (batch_size roots : ℕ) → Course V same by_hasher batch_size roots slot_of) (own : List ℕ) (told : Reply V) (played : Played V) (old new : Scheduler K V S)
    (idle : played.steps ≡ 0) (tells : Told' same (by_hasher old.logged.executor.hasher) own told played old new) (given : PreservesSettings old.logged.executor new.logged.executor) (terms : Terms) (log : List (Entry K V))
    (stands : IsPlayed same (by_hasher old.logged.executor.hasher) terms log old) (in_turn : (moment log).is_closed ≡ false) (next : length old.logged.executor.maps.items ≡ (moment log).made)
    (next2 : length new.logged.executor.maps.items ≡ (moment (entry_of (event.Replied own told) played ∷ log)).made) where
  abbrev Goes : Type 0
  Goes = ActsSoFar same by_hasher terms log old.logged old.calls → ActsSoFar same by_hasher terms (entry_of (event.Replied own told) played ∷ log) new.logged new.calls

  pub reply_goes_on : (played.outcome ≡ outcome.Goes) ⊎ (played.outcome ≡ outcome.Refused fault.Busy) → (played.outcome ≡ outcome.Refused fault.Busy → (new ≡ old) × (played.effects.items ≡ [])) → Goes
  reply_goes_on (inl goes) busy at =
      let it = tells goes in
      let here = here_at same (by_hasher old.logged.executor.hasher) terms (moment log) old stands own it.0.place it.0.placed in
      let its = read_here same (by_hasher old.logged.executor.hasher) terms (moment log) old stands own it.0.place here it.0.whose it.0.reads_whose in
      goes_at same by_hasher (shards_of terms) (PlaysSo log old.calls) (PlaysSo (entry_of (event.Replied own told) played ∷ log) new.calls) old.logged.executor new.logged.executor (known old.logged.notes) (known new.logged.notes)
      (λ course there. reply_goes same by_hasher terms log own told played old new it.0 here.caller here.at here.named its (later_by (event.Replied own told) played old new log refl given next next2) course
      (given.0, given.1, given.2) (works_at same (by_hasher old.logged.executor.hasher) terms (moment log) old stands it.0.place here.caller here.at) goes idle it.1 there)
      terms.batch_size terms.roots (any terms.batch_size terms.roots) at
  reply_goes_on (inr is) busy at =
      did_nothing (event.Replied own told) played old new same by_hasher idle (busy is).1 (ap (λ (p : Scheduler K V S). p.logged) (busy is).0) (ap (λ (p : Scheduler K V S). p.calls) (busy is).0) (λ m there. inl (ap refuses is)) terms log stands in_turn next next2
      at

-- What is so of a state that is played, and of the scene to which its acts have led, stays so by each act of a call: each entry so far is linearizable.
use Rattle.std.specs.Prelude.{◌≡◌, ℕ, Bool, true, false, Some, None, Result, Ok, Err, is_ok, is_err, length, option_map, if◌then◌else◌}
use Rattle.std.proofs.Common.{refl, ap, sym, subst, ◌∙◌}
use Rattle.seize_acts.specs.Acts.Acts.{rests}
use Rattle.seize_acts.specs.Acts.Answers.{Grant}
use Rattle.run_logged.specs.Given.RawMachine.{machine_asked, machine_replied}
use Rattle.run_logged.specs.Given.RawDeclared.machines.asking.MachineReply.{MachineReply as Told}
use Rattle.run_logged.specs.Given.RawDeclared.machines.machine.Machine.{Machine}
use Rattle.run_logged.specs.Given.RawDeclared.machines.progress.Progress.{Progress}
use Rattle.seize_acts.specs.Given.SeizeWorld.{Rests, Row}
use Rattle.play_lists.specs.Given.TablesDeclared.node.Node.{Node}
use Rattle.run_logged.specs.Given.CallersTogether.{UnderWay}
use Rattle.play_lists.specs.Given.FinishesMachines.{machine_of}
use Rattle.play_lists.specs.Given.FinishesMaps.{with_call}
use Rattle.play_lists.specs.Given.EffectsDeclared.changed.Changed.{Changed}
use Rattle.play_lists.proofs.Given.ScenesNoCall.{none_is}
use Rattle.play_lists.specs.Given.ScenesHeld.{Held, IsAt}
use Rattle.play_lists.specs.Given.ScenesReplying.{StopLeads, scene_with, unless_stopped}
use Rattle.play_lists.specs.Given.ScenesScene.{Scene, slot_of}
use Rattle.run_schedules.specs.declared.outcome.Outcome.TheVariants as outcome
use Rattle.run_logged.specs.Given.NamedMachines.{aborted_by}
use Rattle.play_lists.specs.Given.ActsActs.{Act, Answer, OfAsking, OfCall, OfReply, Wanted, begun, BeginsCall, StepsCall, TellsCall, AsksCall, StopsCall}
use Rattle.play_lists.specs.Given.ActsAsSteps.{LeadsAs, changed_by, held_in}
use Rattle.play_lists.specs.Given.ActsLeads.{Led, MayBe, asked_on}
use Rattle.play_lists.proofs.Given.ActsCalls.{refused_same}
use Rattle.run_schedules.specs.Deeds.Deeds.{Replies, Stops, moment}
use Rattle.play_lists.specs.Played.Play.{Calling, State, call_asked, call_begun, call_for, call_stepped, did, reply_for, replied_call}
use Rattle.play_lists.specs.Played.Reached.{IsOf}
use Rattle.play_lists.proofs.Played.Noted.{CallsAreNoted}
use Rattle.play_lists.proofs.Played.PlayedAs.{PlayedAs}
use Rattle.play_linear.proofs.Linear.BeginsPlayed.{played_asks, played_asks_are_heard, played_begins, played_begins_are_heard, played_stays, played_stays_heard, played_stops, played_stops_are_heard}
use Rattle.play_linear.proofs.Linear.HeardAll.{AreHeardAt}
use Rattle.play_linear.proofs.Linear.Holds.{Holds, onto}
use Rattle.play_linear.proofs.Linear.RepliesPlayed.{played_replies, played_replies_are_heard}
use Rattle.play_linear.proofs.Linear.StepsPlayed.{led, played_steps_answer, played_steps_are_heard, played_steps_are_linearizable, there_alike, there_is}
use Rattle.play_lists.proofs.Played.Tied.{call_tied}
use Rattle.run_schedules.proofs.Given.General.{same_some, none_mapped as nothing_told}

pub ok_is : {E : Type 0} (r : Result Unit E) → is_ok r ≡ true → r ≡ Ok tt
ok_is (Ok done) e = refl
ok_is (Err back) e = absurd (cc e)

pub err_is : {T E : Type 0} (r : Result T E) → is_ok r ≡ false → is_err r ≡ true
err_is (Ok done) e = absurd (cc e)
err_is (Err back) e = refl

pub resting : (row : Row) → rests row ≡ true → row ≡ Rests
resting Rests e = refl
resting _ e = absurd (cc e)

module _ {K V S : Type 0} (same : K → K → Bool) (by_hasher : S → K → ℕ) (hash : ℕ → K → ℕ) (batch_size roots : ℕ) (aborts : ℕ → V) (x y : State K V S) (s n : Scene K V) (rows rows2 : ℕ → Row)
    (is : IsOf by_hasher s rows x.now) (is_then : IsOf by_hasher n rows2 y.now) (before : Changed) (at : IsAt same hash (held_in batch_size roots before s) s) (holds : Holds same x s) (noted_then : CallsAreNoted y)
    (told : Answer K V) where
  abbrev old : Held K V
  old = held_in batch_size roots before s

  abbrev then_held : Act K V S → Held K V
  then_held act = held_in batch_size roots (changed_by same act s) n

  -- so it is of what this comes to
  comes_so : (z : State K V S) (l : Scene K V) → y ≡ z → n ≡ l → Holds same z l → Holds same y n
  comes_so z l y_is n_is so = onto same z l y n y_is n_is so

  noted_as : (z : State K V S) → y ≡ z → CallsAreNoted z
  noted_as z y_is = subst CallsAreNoted y_is noted_then

  pub its_machine : (m i : ℕ) (c : Calling K V) → x.now.calls m i ≡ Some c → (u : UnderWay K V K) → s.calls m i ≡ Some u → c.machine ≡ machine_of u
  its_machine m i c here u under =
      let there = there_alike (λ (z : Calling K V). z.machine) machine_of (x.now.calls m i) (s.calls m i) (is.calls m i) c here in
      there.2 ∙ ap machine_of (same_some there.0 u (sym there.1 ∙ under))

  -- a step
  pub steps_hold : (i m : ℕ) (g : Grant) → PlayedAs same by_hasher batch_size roots aborts x y (StepsCall i m g) → Led same by_hasher batch_size roots slot_of (StepsCall i m g) s told n
      → LeadsAs same by_hasher hash (StepsCall i m g) s told n old (then_held (StepsCall i m g)) → Holds same y n
  steps_hold i m g played came (said, answer, leads, goes) =
      let tied = call_tied same by_hasher batch_size roots aborts s n rows x y is i m g told came played in
      let new = then_held (StepsCall i m g) in
      let said_is : came.progress ≡ said = (let both : ◌≡◌ {A = Answer K V} (OfCall came.progress) (OfCall said) = sym came.tells ∙ answer in cc both) in
      let z : State K V S = call_stepped i m tied.it new.changed x (came.memory, (came.machine, said)) in
      let l : Scene K V = led same hash x s old new at holds.shows holds.noted holds.heard i m tied.it tied.here came.call came.here tied.machine said leads came.memory came.machine in
      let y_is : y ≡ z = tied.comes ∙ ap (λ (p : Progress (Node K V)). call_stepped i m tied.it new.changed x (came.memory, (came.machine, p))) said_is in
      let n_is : n ≡ l =
      goes m came.call (there_is same hash x s old new at holds.shows holds.noted holds.heard i m tied.it tied.here came.call came.here tied.machine said leads came.memory came.machine) in
      comes_so z l y_is n_is
      (record {
        shows = played_steps_answer same hash x s old new at holds.shows holds.noted holds.heard i m tied.it tied.here came.call came.here tied.machine said leads came.memory came.machine;
        noted = noted_as z y_is;
        heard = played_steps_are_heard same hash x s old new at holds.shows holds.noted holds.heard i m tied.it tied.here came.call came.here tied.machine said leads came.memory came.machine
            (subst (λ (q : State K V S). option_map (λ (c : Calling K V). c.machine) (q.now.calls m i) ≡ option_map machine_of (l.calls m i)) y_is
            (subst (λ (q : Scene K V). option_map (λ (c : Calling K V). c.machine) (y.now.calls m i) ≡ option_map machine_of (q.calls m i)) n_is (is_then.calls m i)));
        each = (
          played_steps_are_linearizable same hash x s old new at holds.shows holds.noted holds.heard i m tied.it tied.here came.call came.here tied.machine said leads came.memory came.machine,
          holds.each,
        );
      })

  -- one that is told something takes it, or is as it was
  pub told_hold : (i m : ℕ) (reply : Told V) → PlayedAs same by_hasher batch_size roots aborts x y (TellsCall i m reply) → Led same by_hasher batch_size roots slot_of (TellsCall i m reply) s told n
      → IsAt same hash (then_held (TellsCall i m reply)) n → Holds same y n
  told_hold i m reply (c, here, y_is) (standing, stands, u, next, under, next_is, told_is, kind, n_is) at2 = by (is_ok (machine_replied c.machine reply).1) refl
    where
      its : c.machine ≡ machine_of u
      its = its_machine m i c here u under

      new : Held K V
      new = then_held (TellsCall i m reply)

      z : Bool → State K V S
      z b = did b (Replies i (reply_for (aborts (length x.told)) reply)) outcome.Goes (OfReply (machine_replied c.machine reply).1)
          (record x.now { calls = with_call x.now.calls m i (Some (replied_call (machine_replied c.machine reply) (reply_for (aborts (length x.told)) reply) c)) }) x

      by : (b : Bool) → is_ok (machine_replied c.machine reply).1 ≡ b → Holds same y n
      by true ok =
          let taken = ok_is (machine_replied c.machine reply).1 ok in
          let so = played_replies same hash (aborts (length x.told)) x s old new at holds.shows holds.noted holds.heard i m c here u under its reply taken standing stands next next_is kind.0 (subst (IsAt same hash new) n_is at2) in
          comes_so (z true) (scene_with m i next s) (y_is ∙ ap z ok) n_is
          (record {
            shows = so.1;
            noted = noted_as (z true) (y_is ∙ ap z ok);
            heard = played_replies_are_heard same hash (aborts (length x.told)) x s old new at holds.shows holds.noted holds.heard i m c here u under its reply taken standing stands next next_is kind.0
                (subst (IsAt same hash new) n_is at2);
            each = (so.0, holds.each);
          })
      by false not =
          let refused = err_is (machine_replied c.machine reply).1 not in
          let as_it_was : replied_call (machine_replied c.machine reply) (reply_for (aborts (length x.told)) reply) c ≡ c =
          ap (λ (b : Bool). record c { machine = (machine_replied c.machine reply).0; value = if b then aborted_by (reply_for (aborts (length x.told)) reply) else c.value }) not
          ∙ ap (λ (w : Machine K V K). record c { machine = w }) (refused_same c.machine reply refused) in
          comes_so (z false) (scene_with m i u s) (y_is ∙ ap z not)
          (n_is ∙ ap (λ (w : UnderWay K V K). scene_with m i w s) (kind.1 (subst (λ (w : Machine K V K). is_err (machine_replied w reply).1 ≡ true) its refused)))
          (record {
            shows = played_stays same hash x s old new at holds.shows holds.heard i m holds.noted c here u under its;
            noted = noted_as (z false) (y_is ∙ ap z not);
            heard = subst (λ (w : Calling K V). AreHeardAt (moment x.history) (with_call x.now.calls m i (Some w))) (sym as_it_was)
                (played_stays_heard same hash x s old new at holds.shows holds.heard i m holds.noted c here u under its);
            each = holds.each;
          })

  -- One is asked for its next pair,
  pub asks_hold : (i m : ℕ) → PlayedAs same by_hasher batch_size roots aborts x y (AsksCall i m) → Led same by_hasher batch_size roots slot_of (AsksCall i m) s told n
      → LeadsAs same by_hasher hash (AsksCall i m) s told n old (then_held (AsksCall i m)) → Holds same y n
  asks_hold i m (c, here, y_is) (u, under, told_is, n_is) (ready, answer, leads, goes) =
      comes_so (call_asked i m x c) (scene_with m i (asked_on u) s) y_is n_is
      (record {
        shows = played_asks same hash x s old (then_held (AsksCall i m)) at holds.shows holds.heard i m holds.noted c here u under (its_machine m i c here u under) ready leads (goes m u under).0;
        noted = noted_as (call_asked i m x c) y_is;
        heard = played_asks_are_heard same hash x s old (then_held (AsksCall i m)) at holds.shows holds.heard i m holds.noted c here u under (its_machine m i c here u under);
        each = holds.each;
      })

  -- or given up, if it is a walk that is ready,
  pub stops_hold : (i m : ℕ) → PlayedAs same by_hasher batch_size roots aborts x y (StopsCall i m) → Led same by_hasher batch_size roots slot_of (StopsCall i m) s told n
      → LeadsAs same by_hasher hash (StopsCall i m) s told n old (then_held (StopsCall i m)) → Holds same y n
  stops_hold i m (c, here, y_is) (u, under, told_is, n_is) (stopped, answer, leads, goes) = by stopped (leads m u under).0 leads (goes m u under)
    where
      its : c.machine ≡ machine_of u
      its = its_machine m i c here u under

      new : Held K V
      new = then_held (StopsCall i m)

      z : Bool → State K V S
      z b = did b (Stops i) outcome.Done (OfAsking (machine_asked c.machine).1) (record x.now { calls = with_call x.now.calls m i (unless_stopped b c) }) x

      z_is : (b : Bool) → b ≡ (machine_asked (machine_of u)).1 → y ≡ z b
      z_is b b_is = y_is ∙ ap z (ap (λ (w : Machine K V K). (machine_asked w).1) its ∙ sym b_is)

      by : (b : Bool) → b ≡ (machine_asked (machine_of u)).1 → StopLeads same hash i b s old new → n ≡ record s { calls = with_call s.calls m i (unless_stopped b u) } → Holds same y n
      by true b_is leads_b n_b =
          let so = played_stops same hash x s old new at holds.shows holds.heard i m holds.noted c here u under its leads_b in
          comes_so (z true) (record s { calls = with_call s.calls m i (unless_stopped true u) }) (z_is true b_is) n_b
          (record {
            shows = so.1;
            noted = noted_as (z true) (z_is true b_is);
            heard = played_stops_are_heard same hash x s old new at holds.shows holds.heard i m holds.noted c here u under its;
            each = (so.0, holds.each);
          })
      by false b_is leads_b n_b =
          comes_so (z false) (scene_with m i u s) (z_is false b_is) n_b
          (record {
            shows = played_stays same hash x s old new at holds.shows holds.heard i m holds.noted c here u under its;
            noted = noted_as (z false) (z_is false b_is);
            heard = played_stays_heard same hash x s old new at holds.shows holds.heard i m holds.noted c here u under its;
            each = holds.each;
          })

  -- and one begins.
  pub begins_hold : (i m : ℕ) (wanted : Wanted K V) → PlayedAs same by_hasher batch_size roots aborts x y (BeginsCall i m wanted) → MayBe same by_hasher batch_size roots slot_of (BeginsCall i m wanted) s
      → LeadsAs same by_hasher hash (BeginsCall i m wanted) s told n old (then_held (BeginsCall i m wanted)) → Holds same y n
  begins_hold i m wanted (set, there, y_is) may (standing, stands, begins, memory, at2, n_is) =
      let new = then_held (BeginsCall i m wanted) in
      let no_call : (k : ℕ) → s.calls k i ≡ None = λ k. none_is (s.calls k i) (may.0.no_call k) in
      let none : (k : ℕ) → x.now.calls k i ≡ None = λ k. nothing_told (λ (c : Calling K V). c.machine) (x.now.calls k i) (is.calls k i ∙ ap (option_map machine_of) (no_call k)) in
      let z : State K V S = call_begun i m by_hasher (call_for wanted) x set in
      let so = played_begins same hash x s old new at holds.shows holds.heard i m by_hasher set standing stands wanted begins no_call none (resting (s.world.row i) may.1) at2 in
      comes_so z (scene_with m i (begun same slot_of standing i wanted) s) y_is n_is
      (record {
        shows = so.1;
        noted = noted_as z y_is;
        heard = played_begins_are_heard same hash x s old new at holds.shows holds.heard i m by_hasher set standing stands wanted begins no_call none (resting (s.world.row i) may.1) at2;
        each = (so.0, holds.each);
      })

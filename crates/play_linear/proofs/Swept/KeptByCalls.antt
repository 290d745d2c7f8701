-- What stays so by each kind of step stays so by each act of a call, as it is played.
use Rattle.std.specs.Prelude.{◌≡◌, ◌⊎◌, ℕ, Bool, true, false, List, Option, Some, None, Ok, is_ok, is_err, length, option_map}
use Rattle.std.proofs.Common.{refl, ap, sym, subst, ◌∙◌, inl, inr}
use Rattle.seize_acts.specs.Acts.Answers.{Grant}
use Rattle.run_logged.specs.Given.RawMachine.{machine_asked, machine_replied}
use Rattle.run_logged.specs.Given.RawDeclared.machines.asking.MachineReply.{MachineReply as Told}
use Rattle.run_logged.specs.Given.RawDeclared.machines.machine.Machine.{Machine}
use Rattle.run_logged.specs.Given.RawDeclared.machines.progress.Progress.{Progress}
use Rattle.seize_acts.specs.Given.SeizeWorld.{Row}
use Rattle.play_lists.specs.Given.TablesDeclared.node.Node.{Node}
use Rattle.run_logged.specs.Given.CallersTogether.{UnderWay}
use Rattle.play_lists.specs.Given.FinishesMachines.{RepliedOfKind, machine_of}
use Rattle.play_lists.specs.Given.FinishesMaps.{with_call}
use Rattle.play_lists.specs.Given.EffectsDeclared.changed.Changed.{Changed}
use Rattle.play_lists.proofs.Given.ScenesNoCall.{none_is}
use Rattle.play_lists.specs.Given.ScenesHeld.{Held, IsAt}
use Rattle.play_lists.specs.Given.ScenesReplying.{StopLeads, scene_with, unless_stopped}
use Rattle.play_lists.specs.Given.ScenesScene.{Scene, slot_of}
use Rattle.run_schedules.specs.declared.call.Reply.{Reply}
use Rattle.run_schedules.specs.declared.outcome.Outcome.TheVariants as outcome
use Rattle.run_schedules.specs.Schedules.Moment.{Asking}
use Rattle.play_lists.specs.Given.EffectsKnown.{Known}
use Rattle.play_lists.specs.Given.ValuesValues.{KeepsValue}
use Rattle.play_lists.specs.Given.ActsActs.{Act, Answer, OfCall, OfReply, OfAsking, Wanted, begun, BeginsCall, StepsCall, TellsCall, AsksCall, StopsCall}
use Rattle.play_lists.specs.Given.ActsAsSteps.{LeadsAs, changed_by, held_in}
use Rattle.play_lists.specs.Given.ActsLeads.{Led, MayBe, asked_on}
use Rattle.run_schedules.specs.Deeds.Deeds.{Entry, Replies, Stops, moment}
use Rattle.play_lists.specs.Played.Play.{Calling, State, call_asked, call_begun, call_for, call_stepped, did, reply_for, replied_call}
use Rattle.play_lists.specs.Played.Reached.{IsOf}
use Rattle.play_lists.proofs.Played.PlayedAs.{PlayedAs}
use Rattle.play_linear.proofs.Linear.BeginsPlayed.{asked_so, none_named, none_then, same_calls}
use Rattle.play_linear.proofs.Linear.CallActs.{err_is, its_machine, ok_is, resting}
use Rattle.play_linear.proofs.Linear.Heard.{IsHeard}
use Rattle.play_linear.proofs.Linear.Holds.{Holds}
use Rattle.play_linear.proofs.Linear.RepliesPlayed.{told_back}
use Rattle.play_linear.proofs.Linear.TakesReply.{TakesNone, refuses}
use Rattle.play_linear.proofs.Linear.StepsPlayed.{led, played_ended, there_is}
use Rattle.play_lists.proofs.Played.Tied.{call_tied}
use Rattle.play_linear.proofs.Swept.Kept.{IsKept, Now}
use Rattle.run_schedules.proofs.Given.General.{none_mapped as nothing_told}

module _ {K V S : Type 0} (same : K → K → Bool) (by_hasher : S → K → ℕ) (hash : ℕ → K → ℕ) (batch_size roots : ℕ) (aborts : ℕ → V) (R P : List (Entry K V) → Known → Scene K V → Type 0)
    (kept : IsKept same hash R P) (x y : State K V S) (s n : Scene K V) (rows : ℕ → Row)
    (is : IsOf by_hasher s rows x.now) (before : Changed) (at : IsAt same hash (held_in batch_size roots before s) s) (holds : Holds same x s) (other : R x.history x.known s) (so : P x.history x.known s)
    (told : Answer K V) where
  abbrev old : Held K V
  old = held_in batch_size roots before s

  abbrev then_held : Act K V S → Held K V
  then_held act = held_in batch_size roots (changed_by same act s) n

  abbrev Then : Type 0
  Then = Now same hash R P y.history y.known n

  -- so it is of what this comes to
  comes_so : (z : State K V S) (l : Scene K V) → y ≡ z → n ≡ l → Now same hash R P z.history z.known l → Then
  comes_so z l y_is n_is then_so = subst (λ (q : State K V S). Now same hash R P q.history q.known n) (sym y_is) (subst (Now same hash R P z.history z.known) (sym n_is) then_so)

  -- a step
  pub steps_kept : (i m : ℕ) (g : Grant) → PlayedAs same by_hasher batch_size roots aborts x y (StepsCall i m g) → Led same by_hasher batch_size roots slot_of (StepsCall i m g) s told n
      → LeadsAs same by_hasher hash (StepsCall i m g) s told n old (then_held (StepsCall i m g)) → Then
  steps_kept i m g played came (said, answer, leads, goes) =
      let tied = call_tied same by_hasher batch_size roots aborts s n rows x y is i m g told came played in
      let new = then_held (StepsCall i m g) in
      let said_is : came.progress ≡ said = (let both : ◌≡◌ {A = Answer K V} (OfCall came.progress) (OfCall said) = sym came.tells ∙ answer in cc both) in
      let z : State K V S = call_stepped i m tied.it new.changed x (came.memory, (came.machine, said)) in
      let it : IsHeard (moment x.history) i tied.it.call tied.it.machine tied.it.value = holds.heard m i tied.it tied.here in
      let its = there_is same hash x s old new at holds.shows holds.noted holds.heard i m tied.it tied.here came.call came.here tied.machine said leads came.memory came.machine in
      let l : Scene K V = led same hash x s old new at holds.shows holds.noted holds.heard i m tied.it tied.here came.call came.here tied.machine said leads came.memory came.machine in
      comes_so z l (tied.comes ∙ ap (λ (p : Progress (Node K V)). call_stepped i m tied.it new.changed x (came.memory, (came.machine, p))) said_is) (goes m came.call its)
      (kept.calls_step x.history x.known s old new at holds.shows other so m i came.call its said leads it.there it.is tied.it.call it.called tied.it.value
      (subst (λ (w : Machine K V K). KeepsValue it.there.call it.there.replies w tied.it.value) tied.machine it.keeps)
      (played_ended same hash x s old new at holds.shows holds.noted holds.heard i m tied.it tied.here came.call came.here tied.machine said leads came.memory came.machine))

  -- one that is told something takes it, or is as it was
  pub told_kept : (i m : ℕ) (reply : Told V) → PlayedAs same by_hasher batch_size roots aborts x y (TellsCall i m reply) → Led same by_hasher batch_size roots slot_of (TellsCall i m reply) s told n
      → IsAt same hash (then_held (TellsCall i m reply)) n → Then
  told_kept i m reply (c, here, y_is) (standing, stands, u, next, under, next_is, told_is, kind, n_is) at2 = by (is_ok (machine_replied c.machine reply).1) refl
    where
      its : c.machine ≡ machine_of u
      its = its_machine same by_hasher hash batch_size roots aborts x x s s rows rows is is before at holds holds.noted told m i c here u under

      new : Held K V
      new = then_held (TellsCall i m reply)

      said : Reply V
      said = reply_for (aborts (length x.told)) reply

      it : IsHeard (moment x.history) i c.call c.machine c.value
      it = holds.heard m i c here

      z : Bool → State K V S
      z b = did b (Replies i said) outcome.Goes (OfReply (machine_replied c.machine reply).1)
          (record x.now { calls = with_call x.now.calls m i (Some (replied_call (machine_replied c.machine reply) said c)) }) x

      by : (b : Bool) → is_ok (machine_replied c.machine reply).1 ≡ b → Then
      by true ok = comes_so (z true) (scene_with m i next s) (y_is ∙ ap z ok) n_is
          (kept.calls_take x.history x.known s old new at holds.shows other so m i u under it.there it.is asks.0 asks.1 standing stands said next
          (next_is ∙ ap (λ (t : Told V). (machine_replied (machine_of u) t).0) (sym (told_back (aborts (length x.told)) reply)))
          (subst (λ (t : Told V). (machine_replied (machine_of u) t).1 ≡ Ok tt) (sym (told_back (aborts (length x.told)) reply)) (subst (λ (w : Machine K V K). (machine_replied w reply).1 ≡ Ok tt) its taken))
          (subst (λ (t : Told V). RepliedOfKind V same same old.batch_size old.roots slot_of standing i u t next) (sym (told_back (aborts (length x.told)) reply)) kind.0) (subst (IsAt same hash new) n_is at2))
        where
          taken : (machine_replied c.machine reply).1 ≡ Ok tt
          taken = ok_is (machine_replied c.machine reply).1 ok

          asks : (question : Option ℕ) × (it.there.stands ≡ Asking question)
          asks = asking it.asks
            where
              asking : TakesNone c.machine ⊎ ((question : Option ℕ) × (it.there.stands ≡ Asking question)) → (question : Option ℕ) × (it.there.stands ≡ Asking question)
              asking (inl none) = absurd (refuses c.machine reply none taken)
              asking (inr its_question) = its_question
      by false not =
          let refused = err_is (machine_replied c.machine reply).1 not in
          comes_so (z false) (scene_with m i u s) (y_is ∙ ap z not)
          (n_is ∙ ap (λ (w : UnderWay K V K). scene_with m i w s) (kind.1 (subst (λ (w : Machine K V K). is_err (machine_replied w reply).1 ≡ true) its refused)))
          (λ shows. subst (P x.history x.known) (sym (same_calls s m i u under)) so)

  -- One is asked for its next pair,
  pub asks_kept : (i m : ℕ) → PlayedAs same by_hasher batch_size roots aborts x y (AsksCall i m) → Led same by_hasher batch_size roots slot_of (AsksCall i m) s told n
      → LeadsAs same by_hasher hash (AsksCall i m) s told n old (then_held (AsksCall i m)) → Then
  asks_kept i m (c, here, y_is) (u, under, told_is, n_is) (ready, answer, leads, goes) =
      comes_so (call_asked i m x c) (scene_with m i (asked_on u) s) y_is n_is
      (asked_so same hash x s old (then_held (AsksCall i m)) at holds.shows holds.heard i m holds.noted c here u under
      (its_machine same by_hasher hash batch_size roots aborts x x s s rows rows is is before at holds holds.noted told m i c here u under) (Now same hash R P x.history x.known) (λ shows. so)
      (λ o o_is walks on. kept.walks_go_on x.history x.known s old (then_held (AsksCall i m)) at holds.shows other so m i walks o o_is on) ready leads (goes m u under).0)

  -- or given up, if it is a walk that is ready,
  pub stops_kept : (i m : ℕ) → PlayedAs same by_hasher batch_size roots aborts x y (StopsCall i m) → Led same by_hasher batch_size roots slot_of (StopsCall i m) s told n
      → LeadsAs same by_hasher hash (StopsCall i m) s told n old (then_held (StopsCall i m)) → Then
  stops_kept i m (c, here, y_is) (u, under, told_is, n_is) (stopped, answer, leads, goes) = by stopped (leads m u under).0 leads (goes m u under)
    where
      its : c.machine ≡ machine_of u
      its = its_machine same by_hasher hash batch_size roots aborts x x s s rows rows is is before at holds holds.noted told m i c here u under

      new : Held K V
      new = then_held (StopsCall i m)

      z : Bool → State K V S
      z b = did b (Stops i) outcome.Done (OfAsking (machine_asked c.machine).1) (record x.now { calls = with_call x.now.calls m i (unless_stopped b c) }) x

      z_is : (b : Bool) → b ≡ (machine_asked (machine_of u)).1 → y ≡ z b
      z_is b b_is = y_is ∙ ap z (ap (λ (w : Machine K V K). (machine_asked w).1) its ∙ sym b_is)

      by : (b : Bool) → b ≡ (machine_asked (machine_of u)).1 → StopLeads same hash i b s old new → n ≡ record s { calls = with_call s.calls m i (unless_stopped b u) } → Then
      by true b_is leads_b n_b =
          comes_so (z true) (record s { calls = with_call s.calls m i (unless_stopped true u) }) (z_is true b_is) n_b
          (kept.walks_stop x.history x.known s old new at holds.shows other so m i leads_b u under (none_then same hash x s old new at holds.shows holds.heard i m holds.noted c here u under its))
      by false b_is leads_b n_b = comes_so (z false) (scene_with m i u s) (z_is false b_is) n_b (λ shows. subst (P x.history x.known) (sym (same_calls s m i u under)) so)

  -- and one begins.
  pub begins_kept : (i m : ℕ) (wanted : Wanted K V) → PlayedAs same by_hasher batch_size roots aborts x y (BeginsCall i m wanted) → MayBe same by_hasher batch_size roots slot_of (BeginsCall i m wanted) s
      → LeadsAs same by_hasher hash (BeginsCall i m wanted) s told n old (then_held (BeginsCall i m wanted)) → Then
  begins_kept i m wanted (set, there, y_is) may (standing, stands, begins, memory, at2, n_is) =
      let no_call : (k : ℕ) → s.calls k i ≡ None = λ k. none_is (s.calls k i) (may.0.no_call k) in
      let none : (k : ℕ) → x.now.calls k i ≡ None = λ k. nothing_told (λ (c : Calling K V). c.machine) (x.now.calls k i) (is.calls k i ∙ ap (option_map machine_of) (no_call k)) in
      let rests = resting (s.world.row i) may.1 in
      comes_so (call_begun i m by_hasher (call_for wanted) x set) (scene_with m i (begun same slot_of standing i wanted) s) y_is n_is
      (kept.calls_begin x.history x.known s old (then_held (BeginsCall i m wanted)) at holds.shows other so m i standing stands wanted begins
      (none_named same hash x s old (then_held (BeginsCall i m wanted)) at holds.shows holds.heard i m by_hasher set standing stands wanted begins no_call none rests at2) rests at2)

-- Where a call takes a reply, as it is played, the entry is linearizable, and what the moment shows of calls and of what they were told it shows then.
use Rattle.std.specs.Prelude.{◌≡◌, ◌⊎◌, ℕ, Bool, false, [], ◌∷◌, Option, Some, Ok, is_ok, if◌then◌else◌}
use Rattle.std.proofs.Common.{refl, ap, sym, subst, ◌∙◌, inl, inr}
use Rattle.run_logged.specs.Given.RawMachine.{machine_replied}
use Rattle.run_logged.specs.Given.RawDeclared.machines.asking.MachineReply.{MachineReply}
use Rattle.run_logged.specs.Given.RawDeclared.machines.asking.MachineReply.TheVariants as told
use Rattle.run_logged.specs.Given.RawDeclared.machines.machine.Machine.{Machine}
use Rattle.run_logged.specs.Given.CallersTogether.{UnderWay, OnKey, ForRoom, Counting, OverAll}
use Rattle.play_lists.specs.Given.FinishesMachines.{RepliedOfKind, machine_of}
use Rattle.play_lists.specs.Given.FinishesMaps.{Standing, with_call}
use Rattle.play_lists.specs.Given.FollowsCalls.{IsCalled}
use Rattle.run_logged.specs.Given.HandsAsked.{reply_to_machine}
use Rattle.run_schedules.specs.declared.call.Call.TheVariants.{On}
use Rattle.run_schedules.specs.declared.call.OneKey.{OneKey}
use Rattle.run_schedules.specs.declared.call.Reply.{Reply}
use Rattle.run_schedules.specs.declared.outcome.Outcome.TheVariants as outcome
use Rattle.run_schedules.specs.Schedules.Moment.{Asking, Told, UnderWay as CallThere}
use Rattle.play_lists.specs.Given.ScenesHeld.{Held, IsAt}
use Rattle.play_lists.specs.Given.ScenesReplying.{scene_with}
use Rattle.play_lists.specs.Given.ScenesScene.{Scene, slot_of}
use Rattle.run_logged.specs.Given.NamedMachines.{aborted_by}
use Rattle.run_logged.specs.Given.ChangesChanges.{IsTaken}
use Rattle.play_lists.specs.Given.ValuesValues.{KeepsValue}
use Rattle.play_lists.proofs.Given.ValuesValues.{values_taken}
use Rattle.run_schedules.specs.Deeds.Deeds.{Entry, Replies, moment, named}
use Rattle.run_schedules.specs.Deeds.History.{IsLinearizable, past}
use Rattle.play_lists.specs.Played.Play.{Calling, State, reply_for, replied_call}
use Rattle.play_lists.proofs.Played.Noted.{CallsAreNoted}
use Rattle.play_linear.specs.Linear.Shown.{RefinesAnswers}
use Rattle.play_linear.proofs.Linear.CallEntries.{replies_answer}
use Rattle.play_linear.proofs.Linear.Heard.{IsHeard, replies_aside, replies_itself}
use Rattle.play_linear.proofs.Linear.HeardAll.{AreHeard, AreHeardAt, none_other, one_heard}
use Rattle.play_linear.proofs.Linear.Taken.{replies_are_taken}
use Rattle.play_linear.proofs.Linear.TakesReply.{TakesNone, refuses, took_none}
use Rattle.run_schedules.proofs.Given.General.{same_some}

-- what is told so is told by that reply
pub told_back : {V : Type 0} (aborts : V) (told_it : MachineReply V) → reply_to_machine (reply_for aborts told_it) ≡ told_it
told_back aborts (told.Insert v) = refl
told_back aborts told.Remove = refl
told_back aborts told.Abort = refl
told_back aborts told.Yes = refl
told_back aborts told.No = refl

module _ {K V S : Type 0} (same : K → K → Bool) (hash : ℕ → K → ℕ) (aborts : V) (x : State K V S) (s : Scene K V) (old new : Held K V) (at : IsAt same hash old s)
    (all : RefinesAnswers same (past x.history) (moment x.history) x.known s) (noted : CallsAreNoted x) (heard : AreHeard x) (i m : ℕ) (c : Calling K V) (here : x.now.calls m i ≡ Some c)
    (u : UnderWay K V K) (under : s.calls m i ≡ Some u) (its : c.machine ≡ machine_of u) (said : MachineReply V) (taken : (machine_replied c.machine said).1 ≡ Ok tt)
    (standing : Standing K) (there : s.maps m ≡ Some standing) (next : UnderWay K V K) (next_is : machine_of next ≡ (machine_replied (machine_of u) said).0)
    (kind : RepliedOfKind V same same old.batch_size old.roots slot_of standing i u said next) (at2 : IsAt same hash new (scene_with m i next s)) where
  abbrev it : IsHeard (moment x.history) i c.call c.machine c.value
  it = heard m i c here

  abbrev d : CallThere K V
  d = it.there

  abbrev reply : Reply V
  reply = reply_for aborts said

  abbrev pub entry : Entry K V
  entry = record { deed = Replies i reply; outcome = outcome.Goes; effects = []; refused = false }

  asks : (question : Option ℕ) × (d.stands ≡ Asking question)
  asks = by it.asks
    where
      by : TakesNone c.machine ⊎ ((question : Option ℕ) × (d.stands ≡ Asking question)) → (question : Option ℕ) × (d.stands ≡ Asking question)
      by (inl none) = absurd (refuses c.machine said none taken)
      by (inr asking) = asking

  taken_so : (machine_replied (machine_of u) (reply_to_machine reply)).1 ≡ Ok tt
  taken_so = subst (λ (t : MachineReply V). (machine_replied (machine_of u) t).1 ≡ Ok tt) (sym (told_back aborts said)) (subst (λ (z : Machine K V K). (machine_replied z said).1 ≡ Ok tt) its taken)

  called : IsCalled same u d.call
  called =
      let shown = all.whole.all.shown.calls m i u under in
      subst (λ (z : CallThere K V). IsCalled same u z.call) (same_some shown.0 d (sym shown.1 ∙ it.is)) shown.3

  fits : (w : UnderWay K V K) → s.calls m i ≡ Some w → IsCalled same w d.call → (machine_replied (machine_of w) (reply_to_machine reply)).1 ≡ Ok tt → (one : OneKey K V) → d.call ≡ On one → IsTaken one reply
  fits (OnKey key) w_is is takes one on = replies_are_taken same hash named (moment x.history) x.known s old at all.whole m i key w_is d it.is one on reply takes
  fits (ForRoom r) w_is is takes one on = absurd (subst (IsCalled same (ForRoom r)) on is)
  fits (Counting sum) w_is is takes one on = absurd (subst (IsCalled same (Counting sum)) on is)
  fits (OverAll o) w_is is takes one on = absurd (subst (IsCalled same (OverAll o)) on is)

  pub played_replies : IsLinearizable same x.history entry × RefinesAnswers same (past (entry ∷ x.history)) (moment (entry ∷ x.history)) x.known (scene_with m i next s)
  played_replies =
      replies_answer same hash x.history x.known s old new at all m i u under d it.is asks.0 asks.1 standing there reply next
      (next_is ∙ ap (λ (t : MachineReply V). (machine_replied (machine_of u) t).0) (sym (told_back aborts said))) taken_so
      (subst (λ (t : MachineReply V). RepliedOfKind V same same old.batch_size old.roots slot_of standing i u t next) (sym (told_back aborts said)) kind) (fits u under called taken_so) at2

  itself : IsHeard (moment (entry ∷ x.history)) i c.call (machine_replied c.machine said).0 (aborted_by reply)
  itself = record {
    there = record d { stands = Told; replies = (asks.0, reply) ∷ d.replies };
    is = replies_itself i reply (moment x.history) d it.is asks.0 asks.1;
    called = it.called;
    keeps = subst (λ (z : Machine K V K). KeepsValue d.call ((asks.0, reply) ∷ d.replies) (machine_replied z said).0 (aborted_by reply)) (sym its)
        (subst (λ (t : MachineReply V). KeepsValue d.call ((asks.0, reply) ∷ d.replies) (machine_replied (machine_of u) t).0 (aborted_by reply)) (told_back aborts said)
        (values_taken K V same hash named (moment x.history) x.known s old at all.whole m i u under standing there d it.is asks.0 asks.1 reply taken_so c.value
        (subst (λ (z : Machine K V K). KeepsValue d.call d.replies z c.value) its it.keeps)));
    asks = inl (took_none c.machine said taken);
  }

  pub played_replies_are_heard : AreHeardAt (moment (entry ∷ x.history)) (with_call x.now.calls m i (Some (replied_call (machine_replied c.machine said) reply c)))
  played_replies_are_heard =
      one_heard x heard i m (Some (replied_call (machine_replied c.machine said) reply c)) (moment (entry ∷ x.history)) (replies_aside i reply (moment x.history)) own (none_other x noted i m c here)
    where
      own : (d2 : Calling K V) → ◌≡◌ {A = Option (Calling K V)} (Some (replied_call (machine_replied c.machine said) reply c)) (Some d2) → IsHeard (moment (entry ∷ x.history)) i d2.call d2.machine d2.value
      own d2 is =
          subst (λ (z : Calling K V). IsHeard (moment (entry ∷ x.history)) i z.call z.machine z.value) (same_some (replied_call (machine_replied c.machine said) reply c) d2 is)
          (subst (λ (b : Bool). IsHeard (moment (entry ∷ x.history)) i c.call (machine_replied c.machine said).0 (if b then aborted_by reply else c.value)) (sym (ap is_ok taken)) itself)

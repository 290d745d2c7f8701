-- A reply that a call on one key takes is one of its kind: a yes or no for `remove_if`, and for `compute` what is not.
use Rattle.std.specs.Prelude.{◌≡◌, ℕ, Bool, true, false, List, Some, Ok}
use Rattle.std.proofs.Common.{ap, subst, ◌∙◌, inl, inr}
use Rattle.run_logged.specs.Given.RawCallAsks.{absent_replied, present_replied, replied_at}
use Rattle.run_logged.specs.Given.RawMachine.{machine_replied}
use Rattle.run_logged.specs.Given.RawDeclared.machines.asking.Asking.TheVariants as asking
use Rattle.run_logged.specs.Given.RawDeclared.machines.asking.Gap.{Gap}
use Rattle.run_logged.specs.Given.RawDeclared.machines.asking.MachineReply.{MachineReply}
use Rattle.run_logged.specs.Given.RawDeclared.machines.asking.MachineReply.TheVariants as reply
use Rattle.run_logged.specs.Given.RawDeclared.machines.asking.Takes.{Takes}
use Rattle.run_logged.specs.Given.RawDeclared.machines.asking.Takes.TheVariants as takes
use Rattle.run_logged.specs.Given.RawDeclared.machines.call.Calling.{Calling}
use Rattle.run_logged.specs.Given.RawDeclared.machines.call.Calling.TheVariants as at
use Rattle.run_logged.specs.Given.RawDeclared.machines.call.KeyCall.{KeyCall}
use Rattle.run_logged.specs.Given.RawDeclared.machines.machine.Machine.TheVariants as kinds
use Rattle.run_logged.specs.Given.PointsTold.{IsRowOfCall}
use Rattle.run_logged.specs.Given.CallersAsked.{Asked}
use Rattle.run_logged.specs.Given.CallersPairs.{Given, kind_of}
use Rattle.run_logged.specs.Given.CallersSights.{seen_by}
use Rattle.run_logged.specs.Given.CallersTogether.{CallOnKey, OnKey, IsAtPoint as TogetherStands}
use Rattle.play_lists.specs.Given.FinishesMaps.{Standing}
use Rattle.run_schedules.specs.declared.call.Call.{Call}
use Rattle.run_schedules.specs.declared.call.Call.TheVariants.{On}
use Rattle.run_schedules.specs.declared.call.OneKey.{OneKey}
use Rattle.run_schedules.specs.declared.call.OneKey.TheVariants.{Compute, RemoveIf}
use Rattle.run_schedules.specs.declared.call.Reply.{Reply}
use Rattle.run_schedules.specs.declared.call.Reply.TheVariants.{Gives, Removes, Aborts, Decides}
use Rattle.run_schedules.specs.Schedules.Moment.{Moment, UnderWay as CallThere}
use Rattle.run_schedules.specs.Schedules.Views.{call_of}
use Rattle.play_lists.specs.Given.EffectsKnown.{Known}
use Rattle.run_logged.specs.Given.HandsAsked.{IsAskedAs, IsAskedOn, reply_to_machine, given_by}
use Rattle.play_lists.specs.Given.ScenesHeld.{Held, IsAt}
use Rattle.play_lists.specs.Given.ScenesScene.{Scene, slot_of}
use Rattle.run_logged.specs.Given.MomentsWhole.{RefinesWhole}
use Rattle.run_logged.specs.Given.ChangesChanges.{IsTaken}
use Rattle.play_lists.proofs.Given.ScenesMay.{standing_is}
use Rattle.run_logged.proofs.Log.Kinds.{of_kind}

module _ {K V Q : Type 0} where
  -- what is taken nowhere by calls that take such replies, one of them does not take
  module _ (t : Takes) (told : MachineReply V) (not_absent : (p : KeyCall K V Q) (gap : Gap) → (absent_replied t p gap told).1 ≡ Ok tt → ⊥)
      (not_present : (p : KeyCall K V Q) (word : ℕ) → (present_replied t p word told).1 ≡ Ok tt → ⊥) where
    refused : (stands : Calling) (p : KeyCall K V Q) → p.replies.takes ≡ t → (replied_at stands p told).1 ≡ Ok tt → ⊥
    refused (at.Asks (asking.Absent gap)) p is e = not_absent p gap (subst (λ (x : Takes). (absent_replied x p gap told).1 ≡ Ok tt) is e)
    refused (at.Asks (asking.Present word)) p is e = not_present p word (subst (λ (x : Takes). (present_replied x p word told).1 ≡ Ok tt) is e)
    refused _ p is e = cc e

  taken_choice : (k : K) (p : KeyCall K V Q) (r : Reply V) → p.replies.takes ≡ takes.Choices → (replied_at p.stands p (reply_to_machine r)).1 ≡ Ok tt → IsTaken (RemoveIf k) r
  taken_choice k p (Decides b) is e = tt
  taken_choice k p (Gives v) is e = refused takes.Choices (reply.Insert v) (λ p gap e. cc e) (λ p word e. cc e) p.stands p is e
  taken_choice k p Removes is e = refused takes.Choices reply.Remove (λ p gap e. cc e) (λ p word e. cc e) p.stands p is e
  taken_choice k p (Aborts w) is e = refused takes.Choices reply.Abort (λ p gap e. cc e) (λ p word e. cc e) p.stands p is e

  taken_change : (k : K) (p : KeyCall K V Q) (r : Reply V) → p.replies.takes ≡ takes.Changes → (replied_at p.stands p (reply_to_machine r)).1 ≡ Ok tt → IsTaken (Compute k) r
  taken_change k p (Decides true) is e = refused takes.Changes reply.Yes (λ p gap e. cc e) (λ p word e. cc e) p.stands p is e
  taken_change k p (Decides false) is e = refused takes.Changes reply.No (λ p gap e. cc e) (λ p word e. cc e) p.stands p is e
  taken_change k p _ is e = tt

  by_kind : (one : OneKey K V) (asked : List (Asked V)) (p : KeyCall K V Q) (r : Reply V) → p.replies.takes ≡ (kind_of (given_by one asked)).takes → (replied_at p.stands p (reply_to_machine r)).1 ≡ Ok tt → IsTaken one r
  by_kind (RemoveIf k) asked p r is e = taken_choice k p r is e
  by_kind (Compute k) asked p r is e = taken_change k p r is e
  by_kind _ asked p r is e = tt

  -- none in the midst of a row takes a reply
  not_in_row : (stands : Calling) (p : KeyCall K V Q) (told : MachineReply V) → (replied_at stands p told).1 ≡ Ok tt → IsRowOfCall stands → ⊥
  not_in_row (at.Asks it) p told e row = row
  not_in_row _ p told e row = cc e

module _ {K V : Type 0} (same : K → K → Bool) (hash : ℕ → K → ℕ) (name : ℕ → List ℕ) (m : Moment K V) (known : Known) (s : Scene K V) (e : Held K V) (is_at : IsAt same hash e s)
    (whole : RefinesWhole same name m known s) (map i : ℕ) (x : CallOnKey K V K) (here : s.calls map i ≡ Some (OnKey x)) (c : CallThere K V) (c_is : call_of (name i) m ≡ Some c) (one : OneKey K V)
    (one_is : c.call ≡ On one) (r : Reply V) (taken : (machine_replied (kinds.Key x.call) (reply_to_machine r)).1 ≡ Ok tt) where
  st : (standing : Standing K) × (s.maps map ≡ Some standing)
  st = standing_is same hash e s is_at map i (OnKey x) here

  on : IsAskedOn (whole.all.shown.number map) st.0.chart.stored known x one c
  on = subst (λ (z : Call K V). IsAskedAs (whole.all.shown.number map) st.0.chart.stored known x z c) one_is (whole.all.asked.each map i (OnKey x) here st.0 st.1 c c_is)

  takes_so : x.call.replies.takes ≡ (kind_of x.pair).takes
  takes_so = by ((is_at.together.makings.standing.each map st.0 st.1).stand i (OnKey x) here)
    where
      by : TogetherStands V same st.0.hash same st.0.setting slot_of s.world st.0.chart (seen_by st.0.blocks (st.0.sights (slot_of i))) i (OnKey x) → x.call.replies.takes ≡ (kind_of x.pair).takes
      by (inl (rests, knows)) =
          (of_kind st.0.hash s.world.memory st.0.chart (seen_by st.0.blocks (st.0.sights (slot_of i))) x.keys x.pair x.change x.call x.call.stands knows.pair).2.takes_is
      by (inr (row, is_row, knows)) = absurd (not_in_row x.call.stands x.call (reply_to_machine r) taken is_row)

  pub replies_are_taken : IsTaken one r
  replies_are_taken = by_kind one on.asked x.call r (takes_so ∙ ap (λ (g : Given K V). (kind_of g).takes) on.given) taken

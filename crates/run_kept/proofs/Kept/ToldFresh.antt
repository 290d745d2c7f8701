-- Told what it asked, no call begins a copying by that.
use Rattle.std.specs.Prelude.{◌==◌, Bool, true, false, if◌then◌else◌}
use Rattle.std.proofs.Common.{◌≡◌, ℕ, sym, subst}
use Rattle.run_blocks.specs.Given.WaitsOthers.{copier_in, copier_in_sweep}
use Rattle.run_blocks.proofs.Given.WaitersBeginsSweeps.{quiet_none}
use Rattle.run_blocks.proofs.Given.WaitersLikes.{IsFreshCopier}
use Rattle.run_schedules.specs.Given.SeizeWordsDeclared.fault.Fault.TheVariants.{RemoveNothing}
use Rattle.papaya_raw.specs.Given.TablesDeclared.marks.TheConstants.{TOMBSTONE}
use Rattle.papaya_raw.specs.CallAsks.{absent_replied, present_replied, replied_at, with_absent, with_present}
use Rattle.papaya_raw.specs.CallPoints.{at_gap, burying, ending, going, over, storing}
use Rattle.papaya_raw.specs.Machine.{sweep_with_reply}
use Rattle.papaya_raw.specs.declared.machines.answer.End.{End}
use Rattle.papaya_raw.specs.declared.machines.answer.End.TheVariants as ends
use Rattle.papaya_raw.specs.declared.machines.answer.KeyAnswer.TheVariants as answers
use Rattle.papaya_raw.specs.declared.machines.asking.Asking.{Asking}
use Rattle.papaya_raw.specs.declared.machines.asking.Asking.TheVariants as asking
use Rattle.papaya_raw.specs.declared.machines.asking.Gap.{Gap}
use Rattle.papaya_raw.specs.declared.machines.asking.Gap.TheVariants as gaps
use Rattle.papaya_raw.specs.declared.machines.asking.MachineReply.{MachineReply}
use Rattle.papaya_raw.specs.declared.machines.asking.MachineReply.TheVariants as replies
use Rattle.papaya_raw.specs.declared.machines.asking.Takes.{Takes}
use Rattle.papaya_raw.specs.declared.machines.asking.Takes.TheVariants as takes
use Rattle.papaya_raw.specs.declared.machines.asking.Told.{Told}
use Rattle.papaya_raw.specs.declared.machines.asking.Told.TheVariants as tells
use Rattle.papaya_raw.specs.declared.machines.call.KeyCall.{KeyCall}
use Rattle.papaya_raw.specs.declared.machines.call.Calling.{Calling}
use Rattle.papaya_raw.specs.declared.machines.call.Calling.TheVariants as at
use Rattle.papaya_raw.specs.Given.SweepsSweepPoints.{further, reply_at}
use Rattle.papaya_raw.specs.Given.ReservesDeclared.sweep.Sweep.{Sweep}
use Rattle.papaya_raw.specs.Given.ReservesDeclared.sweep.Sweeping.{Sweeping}
use Rattle.papaya_raw.specs.Given.ReservesDeclared.sweep.Sweeping.TheVariants as sweeping
use Rattle.run_executor.proofs.Given.LateSwept.Sweeps.Stands.{quiet_further}

module _ {K V : Type 0} where
  -- a call on one key that is told what to do copies nothing then
  ending_fresh : (c : KeyCall K V K) (end : End) → IsFreshCopier (copier_in (ending c end).0.stands)
  ending_fresh c end = by (c.own == 0)
    where
      by : (b : Bool) → IsFreshCopier (copier_in (if b then over c end else going {V = V} c (at.Drops end)).0.stands)
      by true = tt
      by false = tt

  still_fresh : (c : KeyCall K V K) (about : Asking) → c.stands ≡ at.Asks about → IsFreshCopier (copier_in c.stands)
  still_fresh c about here = subst (λ (p : Calling). IsFreshCopier (copier_in p)) (sym here) tt

  burying_fresh : (c : KeyCall K V K) (word : ℕ) → IsFreshCopier (copier_in (burying {V = V} c word).0.stands)
  burying_fresh c word = by (c.own == 0)
    where
      by : (b : Bool) → IsFreshCopier (copier_in (if b then going {V = V} c (at.Tries word TOMBSTONE) else going c (at.Asks (asking.GivesUp word))).0.stands)
      by true = tt
      by false = tt

  storing_fresh : (told : Told V) (c : KeyCall K V K) (word : ℕ) → IsFreshCopier (copier_in (storing {V = V} told c word).0.stands)
  storing_fresh tells.Own c word = tt
  storing_fresh _ c word = tt

  gap_fresh : (gap : Gap) (c : KeyCall K V K) → IsFreshCopier (copier_in (at_gap {V = V} gap c).0.stands)
  gap_fresh gaps.NoTable c = tt
  gap_fresh gaps.Free c = storing_fresh c.replies.absent c 0
  gap_fresh gaps.Past c = tt
  gap_fresh gaps.Last c = tt

  absent_fresh : (takes : Takes) (c : KeyCall K V K) (gap : Gap) → c.stands ≡ at.Asks (asking.Absent gap) → (reply : MachineReply V) → IsFreshCopier (copier_in (absent_replied takes c gap reply).0.stands)
  absent_fresh takes.Values c gap here (replies.Insert value) = gap_fresh gap (with_absent c value)
  absent_fresh takes.Changes c gap here (replies.Insert value) = gap_fresh gap (with_absent c value)
  absent_fresh takes.Changes c gap here replies.Remove = ending_fresh c (ends.Refused RemoveNothing)
  absent_fresh takes.Changes c gap here replies.Abort = ending_fresh c (ends.Answered answers.Absent)
  absent_fresh _ c gap here _ = still_fresh c (asking.Absent gap) here

  present_fresh : (takes : Takes) (c : KeyCall K V K) (word : ℕ) → c.stands ≡ at.Asks (asking.Present word) → (reply : MachineReply V) → IsFreshCopier (copier_in (present_replied takes c word reply).0.stands)
  present_fresh takes.Values c word here (replies.Insert value) = tt
  present_fresh takes.Changes c word here (replies.Insert value) = tt
  present_fresh takes.Changes c word here replies.Remove = burying_fresh (with_present c word tells.Removes) word
  present_fresh takes.Changes c word here replies.Abort = ending_fresh c (ends.Answered (answers.Found word))
  present_fresh takes.Choices c word here replies.Yes = burying_fresh c word
  present_fresh takes.Choices c word here replies.No = ending_fresh c (ends.Answered (answers.Found word))
  present_fresh _ c word here _ = still_fresh c (asking.Present word) here

  pub reply_fresh : (c : KeyCall K V K) (about : Asking) → c.stands ≡ at.Asks about → (reply : MachineReply V) → IsFreshCopier (copier_in (replied_at (at.Asks about) c reply).0.stands)
  reply_fresh c (asking.Absent gap) here reply = absent_fresh c.replies.takes c gap here reply
  reply_fresh c (asking.Present word) here reply = present_fresh c.replies.takes c word here reply
  reply_fresh c (asking.Fills word) here reply = still_fresh c (asking.Fills word) here
  reply_fresh c (asking.GivesUp word) here reply = still_fresh c (asking.GivesUp word) here

-- a sweep that is told whether to keep a pair copies nothing
further_fresh : (c : Sweep) → IsFreshCopier (copier_in_sweep (further c).stands)
further_fresh c = subst IsFreshCopier (sym (quiet_none (further c).stands (quiet_further c))) tt

pub told_fresh : {V : Type 0} (c : Sweep) (word : ℕ) → c.stands ≡ sweeping.Asks word → (reply : MachineReply V) → IsFreshCopier (copier_in_sweep (sweep_with_reply (sweeping.Asks word) c reply).0.stands)
told_fresh c word here replies.Yes = subst (λ (p : Sweeping). IsFreshCopier (copier_in_sweep (reply_at p c true).stands)) (sym here) (further_fresh c)
told_fresh c word here replies.No = subst (λ (p : Sweeping). IsFreshCopier (copier_in_sweep (reply_at p c false).stands)) (sym here) tt
told_fresh c word here _ = subst (λ (p : Sweeping). IsFreshCopier (copier_in_sweep p)) (sym here) tt

-- A call on one key that asks is told something that fits: it takes that, and goes on.
use Rattle.std.specs.Prelude.{◌==◌, if◌then◌else◌, Option, Some, None, Result, Ok}
use Rattle.std.proofs.Common.{◌≡◌, ◌⊎◌, ℕ, Bool, true, false, inl, inr, refl, sym, subst}
use Rattle.seize_words.specs.OneMemory.Word.{block_in}
use Rattle.seize_words.specs.declared.fault.Fault.TheVariants.{RemoveNothing}
use Rattle.map_tables.specs.declared.marks.TheConstants.{TOMBSTONE}
use Rattle.map_tables.specs.declared.node.Node.{Node}
use Rattle.papaya_raw.specs.CallAsks.{with_absent, with_present, absent_replied, present_replied, replied_at, replied}
use Rattle.papaya_raw.specs.CallPoints.{standing, going, over, ending, burying, at_gap}
use Rattle.papaya_raw.specs.declared.machines.answer.End.{End}
use Rattle.papaya_raw.specs.declared.machines.answer.End.TheVariants as ends
use Rattle.papaya_raw.specs.declared.machines.answer.KeyAnswer.TheVariants as answers
use Rattle.papaya_raw.specs.declared.machines.asking.Asking.TheVariants as asking
use Rattle.papaya_raw.specs.declared.machines.asking.Gap.{Gap}
use Rattle.papaya_raw.specs.declared.machines.asking.Gap.TheVariants as gaps
use Rattle.papaya_raw.specs.declared.machines.asking.Replies.{Replies}
use Rattle.papaya_raw.specs.declared.machines.asking.MachineReply.{MachineReply}
use Rattle.papaya_raw.specs.declared.machines.asking.MachineReply.TheVariants as reply
use Rattle.papaya_raw.specs.declared.machines.asking.Takes.{Takes}
use Rattle.papaya_raw.specs.declared.machines.asking.Takes.TheVariants as takes
use Rattle.papaya_raw.specs.declared.machines.asking.Told.{Told}
use Rattle.papaya_raw.specs.declared.machines.asking.Told.TheVariants as tells
use Rattle.papaya_raw.specs.declared.machines.call.Calling.{Calling}
use Rattle.papaya_raw.specs.declared.machines.call.Calling.TheVariants as at
use Rattle.papaya_raw.specs.declared.machines.call.KeyCall.{KeyCall}
use Rattle.threads_kinds.specs.CallKinds.Kinds.{Kind, Stage, IsUntold, IsNoValue, IsOfGap, IsOneValue, IsFresh, HoldsBy, AsksSo, IsFit, IsSo, Continues, stage_after}
use Rattle.threads_kinds.proofs.CallKinds.Asked.{at_gap_says, none_left}
use Rattle.threads_kinds.proofs.CallKinds.Filled.{one_of_first}

module _ {K V Q : Type 0} (k : Kind) (s : Stage) (c : KeyCall K V Q) (is : IsSo k s c) where
  pub ending_goes : (end : End) → Continues k s (ending c end).0
  ending_goes end = by (c.own == 0)
    where
      by : (b : Bool) → Continues k s (if b then over c end else going c (at.Drops end)).0
      by true = record { so = record { kind = is.kind; holds = is.holds; gap = is.gap }; here = tt }
      by false = record { so = record { kind = is.kind; holds = is.holds; gap = is.gap }; here = tt }

  pub burying_goes : (word : ℕ) → Continues k s (burying c word).0
  burying_goes word = by (c.own == 0) refl
    where
      by : (b : Bool) → (c.own == 0) ≡ b → Continues k s (if b then going c (at.Tries word TOMBSTONE) else going c (at.Asks (asking.GivesUp word))).0
      by true e = record { so = record { kind = is.kind; holds = is.holds; gap = is.gap }; here = tt }
      by false e = record { so = record { kind = is.kind; holds = is.holds; gap = is.gap }; here = none_left c.replies c.own s.told is.holds e }

module _ {K V : Type 0} (r : Replies K V) (own : ℕ) where
  -- a first value was told for a missing key,
  absent_value : (told : Bool) → told ≡ false → HoldsBy told r own → (value : V) → HoldsBy true (record r { absent = tells.Value value }) own
  absent_value false e h value = (tt, inl (h.0, one_of_first (tells.Value value) r.present h.2))
  absent_value true e h value = absurd (cc e)

  -- or for the pair of a word
  untold_gap : (t : Told V) (value : V) → IsUntold t → IsOneValue t (tells.Value value)
  untold_gap tells.Nothing value is = tt
  untold_gap (tells.Value x) value is = absurd is
  untold_gap tells.Own value is = absurd is
  untold_gap tells.Removes value is = absurd is

  present_value : (told : Bool) → told ≡ false → HoldsBy told r own → (word : ℕ) (value : V) → HoldsBy true (record r { pair = word; present = tells.Value value }) own
  present_value false e h word value = (of_untold r.absent h.1, inl (h.0, untold_gap r.absent value h.1))
    where
      of_untold : (t : Told V) → IsUntold t → IsOfGap t
      of_untold tells.Nothing is = tt
      of_untold (tells.Value x) is = absurd is
      of_untold tells.Own is = absurd is
      of_untold tells.Removes is = absurd is
  present_value true e h word value = absurd (cc e)

  -- the pair of a word is to be removed
  one_removed : (t : Told V) → IsOneValue t tells.Removes
  one_removed tells.Nothing = tt
  one_removed (tells.Value x) = tt
  one_removed tells.Own = tt
  one_removed tells.Removes = tt

  present_removed : (told : Bool) → HoldsBy told r own → (word : ℕ) → HoldsBy told (record r { pair = word; present = tells.Removes }) own
  present_removed false h word = (h.0, h.1, tt)
  present_removed true h word = (
    h.0,
    elim h.1 as (λ _. (IsFresh r.key own × IsOneValue r.absent tells.Removes) ⊎ (IsNoValue r.absent × Unit {0})) [
      | inl fresh ↦ inl (fresh.0, one_removed r.absent)
      | inr none ↦ inr (none.0, tt)
    ],
  )

module _ {K V Q : Type 0} (k : Kind) (s : Stage) (c : KeyCall K V Q) (is : IsSo k s c) where
  -- it takes the reply, and goes on
  abbrev pub IsTaken : Stage → KeyCall K V Q × Result Unit (MachineReply V) → Type 0
  IsTaken next end = Continues k next end.0 × (end.1 ≡ Ok tt)

  gap_value : (gap : Gap) (value : V) → s.told ≡ false → Continues k record { told = true; gap = true } (at_gap gap (with_absent c value)).0
  gap_value gap value e = by gap
    where
      so : IsSo k record { told = true; gap = true } (with_absent c value)
      so = record { kind = is.kind; holds = absent_value c.replies c.own s.told e is.holds value; gap = tt }

      by : (gap : Gap) → Continues k record { told = true; gap = true } (at_gap gap (with_absent c value)).0
      by gaps.NoTable = at_gap_says k record { told = true; gap = true } (λ b. None) (with_absent c value) so tt gaps.NoTable
      by gaps.Free = at_gap_says k record { told = true; gap = true } (λ b. None) (with_absent c value) so tt gaps.Free
      by gaps.Past = at_gap_says k record { told = true; gap = true } (λ b. None) (with_absent c value) so tt gaps.Past
      by gaps.Last = at_gap_says k record { told = true; gap = true } (λ b. None) (with_absent c value) so tt gaps.Last

  absent_taken : (gap : Gap) (t : Takes) (told : MachineReply V) → IsFit t s.told None told → IsTaken (stage_after s None told) (absent_replied t c gap told)
  absent_taken gap takes.Values (reply.Insert value) fit = (gap_value gap value fit.1, refl)
  absent_taken gap takes.Changes (reply.Insert value) fit = (gap_value gap value fit.1, refl)
  absent_taken gap takes.Nothing (reply.Insert value) fit = absurd fit.0
  absent_taken gap takes.Choices (reply.Insert value) fit = absurd fit.0
  absent_taken gap takes.Changes reply.Remove fit = (ending_goes k s c is (ends.Refused RemoveNothing), refl)
  absent_taken gap takes.Nothing reply.Remove fit = absurd fit
  absent_taken gap takes.Values reply.Remove fit = absurd fit
  absent_taken gap takes.Choices reply.Remove fit = absurd fit
  absent_taken gap takes.Changes reply.Abort fit = (ending_goes k s c is (ends.Answered answers.Absent), refl)
  absent_taken gap takes.Nothing reply.Abort fit = absurd fit
  absent_taken gap takes.Values reply.Abort fit = absurd fit
  absent_taken gap takes.Choices reply.Abort fit = absurd fit
  absent_taken gap t reply.Yes fit = absurd fit
  absent_taken gap t reply.No fit = absurd fit

  present_filled : (word : ℕ) (value : V) → s.told ≡ false → Continues k record { told = true; gap = s.gap } (standing (with_present c word (tells.Value value)) (at.Asks (asking.Fills word)))
  present_filled word value e = record {
    so = record { kind = is.kind; holds = present_value c.replies c.own s.told e is.holds (block_in word) value; gap = is.gap };
    here = fresh s.told e is.holds;
  }
    where
      fresh : (told : Bool) → told ≡ false → HoldsBy told c.replies c.own → IsFresh c.replies.key c.own
      fresh false e h = h.0
      fresh true e h = absurd (cc e)

  removed : (word : ℕ) → Continues k s (burying (with_present c word tells.Removes) word).0
  removed word = burying_goes k s (with_present c word tells.Removes) (record { kind = is.kind; holds = present_removed c.replies c.own s.told is.holds (block_in word); gap = is.gap }) word

  present_taken : (word : ℕ) (t : Takes) (told : MachineReply V) → IsFit t s.told (Some word) told → IsTaken (stage_after s (Some word) told) (present_replied t c word told)
  present_taken word takes.Values (reply.Insert value) fit = (present_filled word value fit.1, refl)
  present_taken word takes.Changes (reply.Insert value) fit = (present_filled word value fit.1, refl)
  present_taken word takes.Nothing (reply.Insert value) fit = absurd fit.0
  present_taken word takes.Choices (reply.Insert value) fit = absurd fit.0
  present_taken word takes.Changes reply.Remove fit = (removed word, refl)
  present_taken word takes.Nothing reply.Remove fit = absurd fit
  present_taken word takes.Values reply.Remove fit = absurd fit
  present_taken word takes.Choices reply.Remove fit = absurd fit
  present_taken word takes.Changes reply.Abort fit = (ending_goes k s c is (ends.Answered (answers.Found word)), refl)
  present_taken word takes.Nothing reply.Abort fit = absurd fit
  present_taken word takes.Values reply.Abort fit = absurd fit
  present_taken word takes.Choices reply.Abort fit = absurd fit
  present_taken word takes.Choices reply.Yes fit = (burying_goes k s c is word, refl)
  present_taken word takes.Nothing reply.Yes fit = absurd fit
  present_taken word takes.Values reply.Yes fit = absurd fit
  present_taken word takes.Changes reply.Yes fit = absurd fit
  present_taken word takes.Choices reply.No fit = (ending_goes k s c is (ends.Answered (answers.Found word)), refl)
  present_taken word takes.Nothing reply.No fit = absurd fit
  present_taken word takes.Values reply.No fit = absurd fit
  present_taken word takes.Changes reply.No fit = absurd fit

module _ {K V Q : Type 0} (k : Kind) (s : Stage) (shown : ℕ → Option (Node K V)) (c : KeyCall K V Q) (told : MachineReply V) where
  its_takes : IsSo k s c → (pair : Option ℕ) → IsFit k.takes s.told pair told → IsFit c.replies.takes s.told pair told
  its_takes is pair fit = subst (λ (x : Kind). IsFit x.takes s.told pair told) (sym is.kind) fit

  pub taken : (pair : Option ℕ) → AsksSo k s shown pair c → IsFit k.takes s.told pair told → Continues k (stage_after s pair told) (replied c told).0 × ((replied c told).1 ≡ Ok tt)
  taken None asks fit =
      subst (λ (p : Calling). IsTaken k s c asks.0 (stage_after s None told) (replied_at p c told)) (sym asks.1.here)
      (absent_taken k s c asks.0 asks.1.gap c.replies.takes told (its_takes asks.0 None fit))
  taken (Some word) asks fit =
      subst (λ (p : Calling). IsTaken k s c asks.0 (stage_after s (Some word) told) (replied_at p c told)) (sym asks.1.here)
      (present_taken k s c asks.0 word c.replies.takes told (its_takes asks.0 (Some word) fit))

-- A machine that is told something, or asked for its next pair, has in hand what it had; and what begins, or is ready, has nothing.
use Rattle.std.specs.Prelude.{◌≡◌, ℕ, ◌==◌, Bool, true, false, [], if◌then◌else◌}
use Rattle.std.proofs.Common.{refl, sym, subst, ◌∙◌}
use Rattle.run_places.specs.Given.SweepsSweepPoints as points
use Rattle.run_places.specs.Given.SweepsSweepPoints.{next_at, reply_at, after_reply, further}
use Rattle.run_places.specs.Given.ReservesDeclared.sweep.Sweep.{Sweep}
use Rattle.run_places.specs.Given.ReservesDeclared.sweep.Sweeping.{Sweeping}
use Rattle.run_places.specs.Given.ReservesDeclared.sweep.Sweeping.TheVariants as sweeping
use Rattle.run_places.specs.Given.RawCallAsks.{with_absent, with_present, absent_replied, present_replied, replied_at}
use Rattle.run_places.specs.Given.RawCallPoints.{going, over, ending, storing, burying, at_gap}
use Rattle.run_places.specs.Given.RawMachine.{is_ready, sweep_with_reply, machine_replied, machine_asked}
use Rattle.run_places.specs.Given.RawDeclared.machines.answer.Called.{Called}
use Rattle.run_places.specs.Given.RawDeclared.machines.answer.End.{End}
use Rattle.run_places.specs.Given.RawDeclared.machines.answer.End.TheVariants as ends
use Rattle.run_places.specs.Given.RawDeclared.machines.answer.KeyAnswer.TheVariants as answers
use Rattle.run_places.specs.Given.RawDeclared.machines.asking.Asking.TheVariants as asking
use Rattle.run_places.specs.Given.RawDeclared.machines.asking.Gap.{Gap}
use Rattle.run_places.specs.Given.RawDeclared.machines.asking.Gap.TheVariants as gaps
use Rattle.run_places.specs.Given.RawDeclared.machines.asking.MachineReply.{MachineReply}
use Rattle.run_places.specs.Given.RawDeclared.machines.asking.MachineReply.TheVariants as reply
use Rattle.run_places.specs.Given.RawDeclared.machines.asking.Takes.{Takes}
use Rattle.run_places.specs.Given.RawDeclared.machines.asking.Takes.TheVariants as takes
use Rattle.run_places.specs.Given.RawDeclared.machines.asking.Told.{Told}
use Rattle.run_places.specs.Given.RawDeclared.machines.asking.Told.TheVariants as tells
use Rattle.run_places.specs.Given.RawDeclared.machines.call.Calling.{Calling}
use Rattle.run_places.specs.Given.RawDeclared.machines.call.Calling.TheVariants as at
use Rattle.run_places.specs.Given.RawDeclared.machines.call.KeyCall.{KeyCall}
use Rattle.run_places.specs.Given.RawDeclared.machines.machine.Machine.{Machine}
use Rattle.run_places.specs.Given.RawDeclared.machines.machine.Machine.TheVariants as kinds
use Rattle.run_places.specs.Given.TablesDeclared.marks.TheConstants.{TOMBSTONE}
use Rattle.run_places.specs.Given.TablesDeclared.node.Node.{Node}
use Rattle.run_places.specs.Given.EffectsKnown.{Known}
use Rattle.run_debts.specs.Hand.{in_hand_of_call, in_hand_of_sweep, in_hand, NotesOfCall, NotesOfSweep, NotesPending}
use Rattle.run_debts.specs.Owed.{WalksHaveNothing}

module _ (known : Known) where
  -- where it stands a call on one key, and a sweep, has nothing in hand
  abbrev pub NoneOfCall : Calling → Type 0
  NoneOfCall p = (in_hand_of_call known p ≡ []) × NotesOfCall known p

  abbrev pub NoneOfSweep : Sweeping → Type 0
  NoneOfSweep p = (in_hand_of_sweep known p ≡ []) × NotesOfSweep known p

  pub sweeps_apart : (b : Bool) (p q : Sweeping) → NoneOfSweep p → NoneOfSweep q → NoneOfSweep (if b then p else q)
  sweeps_apart true p q f g = f
  sweeps_apart false p q f g = g

  pub either_sweep : (b : Bool) (x y : Sweep) → NoneOfSweep x.stands → NoneOfSweep y.stands → NoneOfSweep (if b then x else y).stands
  either_sweep true x y f g = f
  either_sweep false x y f g = g

  pub further_none : (p : Sweep) → NoneOfSweep (further p).stands
  further_none p = sweeps_apart _ sweeping.Words (points.at_end p) (refl, tt) (sweeps_apart _ sweeping.Follows sweeping.Over (refl, tt) (refl, tt))

  replied_none : (p : Sweep) (keeps : Bool) (word : ℕ) → p.stands ≡ sweeping.Asks word → NoneOfSweep (after_reply p keeps).stands
  replied_none p keeps word is =
      subst (λ (q : Sweeping). NoneOfSweep (reply_at q p keeps).stands) (sym is) (either_sweep keeps (further p) (record p { stands = sweeping.Tries word }) (further_none p) (refl, tt))

  -- it has what it had
  abbrev pub StaysInHand : {K V : Type 0} → Machine K V K → Machine K V K → Type 0
  StaysInHand machine machine2 = (in_hand known machine2 ≡ in_hand known machine) × (NotesPending known machine → NotesPending known machine2)

  abbrev StaysSwept : Sweep → Sweep → Type 0
  StaysSwept p q = (in_hand_of_sweep known q.stands ≡ in_hand_of_sweep known p.stands) × (NotesOfSweep known p.stands → NotesOfSweep known q.stands)

  none_swept : (p q : Sweep) → NoneOfSweep p.stands → NoneOfSweep q.stands → StaysSwept p q
  none_swept p q before after = (after.0 ∙ sym before.0, λ notes. after.1)

  asks_none : (p : Sweep) (word : ℕ) → p.stands ≡ sweeping.Asks word → NoneOfSweep p.stands
  asks_none p word is = subst NoneOfSweep (sym is) (refl, tt)

  sweep_told_so : {V : Type 0} (p : Sweep) (stands : Sweeping) (told : MachineReply V) → p.stands ≡ stands → StaysSwept p (sweep_with_reply stands p told).0
  sweep_told_so p (sweeping.Asks word) reply.Yes is = none_swept p (after_reply p true) (asks_none p word is) (replied_none p true word is)
  sweep_told_so p (sweeping.Asks word) reply.No is = none_swept p (after_reply p false) (asks_none p word is) (replied_none p false word is)
  sweep_told_so p _ told is = (refl, λ notes. notes)

  next_so : (p : Sweep) (stands : Sweeping) → p.stands ≡ stands → StaysSwept p (next_at stands p)
  next_so p sweeping.Ready is = none_swept p (next_at sweeping.Ready p) (subst NoneOfSweep (sym is) (refl, tt)) (sweeps_apart _ sweeping.Words sweeping.Over (refl, tt) (refl, tt))
  next_so p _ is = (refl, λ notes. notes)

  module _ {K V : Type 0} where
    abbrev NoneInHand : KeyCall K V K → Type 0
    NoneInHand p = NoneOfCall p.stands

    either : (b : Bool) (x y : KeyCall K V K × Called (Node K V)) → NoneInHand x.0 → NoneInHand y.0 → NoneInHand (if b then x else y).0
    either true x y f g = f
    either false x y f g = g

    pub ending_none : (p : KeyCall K V K) (end : End) → NoneInHand (ending p end).0
    ending_none p end = either (p.own == 0) (over p end) (going p (at.Drops end)) (refl, tt) (refl, tt)

    burying_none : (p : KeyCall K V K) (word : ℕ) → NoneInHand (burying p word).0
    burying_none p word = either (p.own == 0) (going p (at.Tries word TOMBSTONE)) (going p (at.Asks (asking.GivesUp word))) (refl, tt) (refl, tt)

    storing_none : (p : KeyCall K V K) (t : Told V) (word : ℕ) → NoneInHand (storing t p word).0
    storing_none p tells.Own word = (refl, tt)
    storing_none p tells.Nothing word = (refl, tt)
    storing_none p (tells.Value value) word = (refl, tt)
    storing_none p tells.Removes word = (refl, tt)

    gap_none : (p : KeyCall K V K) (gap : Gap) → NoneInHand (at_gap gap p).0
    gap_none p gaps.NoTable = (refl, tt)
    gap_none p gaps.Free = storing_none p p.replies.absent 0
    gap_none p gaps.Past = (refl, tt)
    gap_none p gaps.Last = (refl, tt)

    absent_none : (t : Takes) (p : KeyCall K V K) (gap : Gap) (told : MachineReply V) → NoneInHand p → NoneInHand (absent_replied t p gap told).0
    absent_none takes.Values p gap (reply.Insert value) none = gap_none (with_absent p value) gap
    absent_none takes.Changes p gap (reply.Insert value) none = gap_none (with_absent p value) gap
    absent_none takes.Changes p gap reply.Remove none = ending_none p _
    absent_none takes.Changes p gap reply.Abort none = ending_none p (ends.Answered answers.Absent)
    absent_none _ p gap told none = none

    present_none : (t : Takes) (p : KeyCall K V K) (word : ℕ) (told : MachineReply V) → NoneInHand p → NoneInHand (present_replied t p word told).0
    present_none takes.Values p word (reply.Insert value) none = (refl, tt)
    present_none takes.Changes p word (reply.Insert value) none = (refl, tt)
    present_none takes.Changes p word reply.Remove none = burying_none (with_present p word tells.Removes) word
    present_none takes.Changes p word reply.Abort none = ending_none p (ends.Answered (answers.Found word))
    present_none takes.Choices p word reply.Yes none = burying_none p word
    present_none takes.Choices p word reply.No none = ending_none p (ends.Answered (answers.Found word))
    present_none _ p word told none = none

    abbrev StaysCalled : KeyCall K V K → KeyCall K V K → Type 0
    StaysCalled p q = (in_hand_of_call known q.stands ≡ in_hand_of_call known p.stands) × (NotesOfCall known p.stands → NotesOfCall known q.stands)

    none_called : (p q : KeyCall K V K) → NoneInHand p → NoneInHand q → StaysCalled p q
    none_called p q before after = (after.0 ∙ sym before.0, λ notes. after.1)

    key_told : (p : KeyCall K V K) (stands : Calling) (told : MachineReply V) → p.stands ≡ stands → StaysCalled p (replied_at stands p told).0
    key_told p (at.Asks (asking.Absent gap)) told is =
        let none : NoneInHand p = subst NoneOfCall (sym is) (refl, tt) in
        none_called p (absent_replied p.replies.takes p gap told).0 none (absent_none p.replies.takes p gap told none)
    key_told p (at.Asks (asking.Present word)) told is =
        let none : NoneInHand p = subst NoneOfCall (sym is) (refl, tt) in
        none_called p (present_replied p.replies.takes p word told).0 none (present_none p.replies.takes p word told none)
    key_told p _ told is = (refl, λ notes. notes)

    pub told_stays : (machine : Machine K V K) (told : MachineReply V) → StaysInHand machine (machine_replied machine told).0
    told_stays (kinds.Key p) told = key_told p p.stands told refl
    told_stays (kinds.Sweep c) told = sweep_told_so c c.stands told refl
    told_stays (kinds.Reserve r) told = (refl, λ notes. notes)
    told_stays (kinds.Count sum) told = (refl, λ notes. notes)

    pub asked_stays : (machine : Machine K V K) → StaysInHand machine (machine_asked machine).0
    asked_stays (kinds.Key p) = (refl, λ notes. notes)
    asked_stays (kinds.Sweep c) = next_so c c.stands refl
    asked_stays (kinds.Reserve r) = (refl, λ notes. notes)
    asked_stays (kinds.Count sum) = (refl, λ notes. notes)

  ready_none : (p : Sweeping) → is_ready p ≡ true → NoneOfSweep p
  ready_none sweeping.Ready e = (refl, tt)
  ready_none _ e = absurd (cc e)

pub walks_have_nothing : (K V : Type 0) → WalksHaveNothing K V
walks_have_nothing K V (kinds.Sweep c) ready known = ready_none known c.stands ready
walks_have_nothing K V (kinds.Key p) ready known = absurd (cc ready)
walks_have_nothing K V (kinds.Reserve r) ready known = absurd (cc ready)
walks_have_nothing K V (kinds.Count sum) ready known = absurd (cc ready)

-- What the caller of a call keeps as its value: as its call begins, after each step, once it has a reply, and where `try_insert` answers that its key is there.
use Rattle.std.specs.Prelude.{◌≡◌, ℕ, ◌==◌, Bool, true, false, List, ◌∷◌, Option, Some, Ok, Err, if◌then◌else◌}
use Rattle.std.proofs.Common.{refl, ap, sym, subst, ◌∙◌, inl, inr}
use Rattle.run_schedules.specs.Given.SeizeWordsMem.{Took, value_at}
use Rattle.run_schedules.specs.Given.SeizeWordsPlan.{Steps}
use Rattle.papaya_raw.specs.Given.TablesDeclared.node.Node.{Node}
use Rattle.papaya_raw.specs.Given.TablesDeclared.node.Node.TheVariants as node
use Rattle.papaya_raw.specs.Call.{call_plan}
use Rattle.papaya_raw.specs.CallAsks.{absent_replied, present_replied, replied_at}
use Rattle.papaya_raw.specs.CallPoints.{ending, going, over}
use Rattle.papaya_raw.specs.Machine.{called, machine_replied}
use Rattle.papaya_raw.specs.Progress.{of_called}
use Rattle.papaya_raw.specs.declared.machines.answer.Called.{Called}
use Rattle.papaya_raw.specs.declared.machines.answer.Called.TheVariants as calls
use Rattle.papaya_raw.specs.declared.machines.answer.End.{End}
use Rattle.papaya_raw.specs.declared.machines.answer.End.TheVariants as ends
use Rattle.papaya_raw.specs.declared.machines.answer.KeyAnswer.TheVariants as answers
use Rattle.papaya_raw.specs.declared.machines.asking.Asking.{Asking as AskingAt}
use Rattle.papaya_raw.specs.declared.machines.asking.Asking.TheVariants as asking
use Rattle.papaya_raw.specs.declared.machines.asking.Gap.{Gap}
use Rattle.papaya_raw.specs.declared.machines.asking.MachineReply.{MachineReply}
use Rattle.papaya_raw.specs.declared.machines.asking.MachineReply.TheVariants as reply
use Rattle.papaya_raw.specs.declared.machines.asking.Takes.{Takes}
use Rattle.papaya_raw.specs.declared.machines.asking.Takes.TheVariants as takes
use Rattle.papaya_raw.specs.declared.machines.call.Calling.{Calling}
use Rattle.papaya_raw.specs.declared.machines.call.Calling.TheVariants as at
use Rattle.papaya_raw.specs.declared.machines.call.KeyCall.{KeyCall}
use Rattle.papaya_raw.specs.declared.machines.machine.Machine.{Machine}
use Rattle.papaya_raw.specs.declared.machines.machine.Machine.TheVariants as kinds
use Rattle.papaya_raw.specs.declared.machines.progress.Answer.TheVariants as said_of
use Rattle.papaya_raw.specs.declared.machines.progress.Progress.{Progress}
use Rattle.papaya_raw.specs.declared.machines.progress.Progress.TheVariants as progress
use Rattle.run_schedules.specs.declared.call.Call.{Call}
use Rattle.run_schedules.specs.declared.call.Call.TheVariants.{On}
use Rattle.run_schedules.specs.declared.call.OneKey.{OneKey}
use Rattle.run_schedules.specs.declared.call.OneKey.TheVariants.{Compute, TryInsert}
use Rattle.run_schedules.specs.declared.call.Reply.{Reply}
use Rattle.run_schedules.specs.declared.call.Reply.TheVariants.{Aborts}
use Rattle.run_schedules.specs.Schedules.Moment.{Asking, UnderWay as CallThere, Moment}
use Rattle.run_schedules.specs.Schedules.Things.{same_question}
use Rattle.run_schedules.specs.Schedules.Views.{call_of, reply_to}
use Rattle.run_executor.specs.Given.CallersKind.{Kind, tries_to_insert}
use Rattle.run_executor.specs.Given.CallersPairs.{Begun, Given, HandsBack}
use Rattle.run_executor.specs.Given.CallersTogether.{CallOnKey, UnderWay, OnKey, ForRoom, Counting, OverAll}
use Rattle.run_executor.specs.Given.EffectsKnown.{Known}
use Rattle.run_executor.specs.Given.FinishesMachines.{DidOfKind, ContinuesAs, machine_of}
use Rattle.run_executor.specs.Given.FinishesMaps.{Standing}
use Rattle.run_executor.specs.Given.FollowsCalls.{IsCalled}
use Rattle.run_executor.specs.Given.HandsAsked.{AsksThere, reply_to_machine}
use Rattle.run_executor.specs.Given.MomentsWhole.{RefinesWhole}
use Rattle.run_executor.proofs.Given.OthersOutcomes.{told_in}
use Rattle.run_executor.specs.Given.EffectsDeclared.changed.Changed.TheVariants as changed
use Rattle.run_executor.specs.Named.Machines.{aborted_by}
use Rattle.run_executor.specs.Named.Seen.{kind_of}
use Rattle.run_executor.specs.Named.Telling.{value_of}
use Rattle.run_executor.specs.declared.kind.CallKind.TheVariants as kind
use Rattle.run_kept.specs.Values.Values.{InsertsTellTheirs, IsEnding, KeepsValue, ValuesBegin, ValuesContinue, ValuesTaken, kept_after}
use Rattle.run_kept.proofs.Values.KeyEnds.{Comes, IsNotOver, MayFind, ending_stays, key_comes_so}
use Rattle.run_kept.proofs.Values.Inserts.{FoundOver, asked_on, called_so, its_pair, may_find, takes_nothing}
use Rattle.run_executor.proofs.Given.ScenesTold.{as_step}
use Rattle.run_executor.specs.Given.ScenesHeld.{Held, IsAt}
use Rattle.run_executor.specs.Given.ScenesScene.{Scene, slot_of}
use Rattle.run_executor.specs.Given.ScenesStepping.{StepLeads, has_ended}
use Rattle.run_executor.proofs.Given.General.{same_some as same_call}

pub values_begin : (K V : Type 0) → ValuesBegin K V
values_begin K V setting hash (On (TryInsert k v)) value = λ word e. absurd (cc e)
values_begin K V setting hash (On (Compute k)) value = λ about v e. absurd (cc e)
values_begin K V setting hash _ value = tt

-- A reply.

module _ {K V Q : Type 0} where
  -- a call that is told to abort, and takes that, comes to its end
  ends_now : (p : KeyCall K V Q) (end : End) → IsEnding (ending p end).0.stands
  ends_now p end = by (p.own == 0)
    where
      by : (q : Bool) → IsEnding (if q then over p end else going p (at.Drops end)).0.stands
      by true = tt
      by false = tt

  absent_aborts : (t : Takes) (p : KeyCall K V Q) (gap : Gap) → (absent_replied t p gap reply.Abort).1 ≡ Ok tt → IsEnding (absent_replied t p gap reply.Abort).0.stands
  absent_aborts takes.Changes p gap taken = ends_now p (ends.Answered answers.Absent)
  absent_aborts takes.Values p gap taken = absurd (cc taken)
  absent_aborts takes.Nothing p gap taken = absurd (cc taken)
  absent_aborts takes.Choices p gap taken = absurd (cc taken)

  present_aborts : (t : Takes) (p : KeyCall K V Q) (word : ℕ) → (present_replied t p word reply.Abort).1 ≡ Ok tt → IsEnding (present_replied t p word reply.Abort).0.stands
  present_aborts takes.Changes p word taken = ends_now p (ends.Answered (answers.Found word))
  present_aborts takes.Values p word taken = absurd (cc taken)
  present_aborts takes.Nothing p word taken = absurd (cc taken)
  present_aborts takes.Choices p word taken = absurd (cc taken)

  aborts : (it : AskingAt) (p : KeyCall K V Q) → (replied_at (at.Asks it) p reply.Abort).1 ≡ Ok tt → IsEnding (replied_at (at.Asks it) p reply.Abort).0.stands
  aborts (asking.Absent gap) p taken = absent_aborts p.replies.takes p gap taken
  aborts (asking.Present word) p taken = present_aborts p.replies.takes p word taken
  aborts (asking.Fills word) p taken = absurd (cc taken)
  aborts (asking.GivesUp word) p taken = absurd (cc taken)

  -- one that takes nothing takes no reply
  absent_nothing : (t : Takes) → t ≡ takes.Nothing → (p : KeyCall K V Q) (gap : Gap) (r : MachineReply V) → (absent_replied t p gap r).1 ≡ Ok tt → ⊥
  absent_nothing t is p gap r taken = (let none : Err r ≡ Ok tt = subst (λ (x : Takes). (absent_replied x p gap r).1 ≡ Ok tt) is taken in cc none)

  present_nothing : (t : Takes) → t ≡ takes.Nothing → (p : KeyCall K V Q) (word : ℕ) (r : MachineReply V) → (present_replied t p word r).1 ≡ Ok tt → ⊥
  present_nothing t is p word r taken = (let none : Err r ≡ Ok tt = subst (λ (x : Takes). (present_replied x p word r).1 ≡ Ok tt) is taken in cc none)

  takes_none : (it : AskingAt) (p : KeyCall K V Q) → p.replies.takes ≡ takes.Nothing → (r : MachineReply V) → (replied_at (at.Asks it) p r).1 ≡ Ok tt → ⊥
  takes_none (asking.Absent gap) p is r taken = absent_nothing p.replies.takes is p gap r taken
  takes_none (asking.Present word) p is r taken = present_nothing p.replies.takes is p word r taken
  takes_none (asking.Fills word) p is r taken = cc taken
  takes_none (asking.GivesUp word) p is r taken = cc taken

-- A step.

module _ {K V : Type 0} (same : K → K → Bool) (hash : ℕ → K → ℕ) (name : ℕ → List ℕ) (m : Moment K V) (known : Known) (s : Scene K V) (old new : Held K V) (at_old : IsAt same hash old s)
    (whole : RefinesWhole same name m known s) (map i : ℕ) (x : CallOnKey K V K) (here : s.calls map i ≡ Some (OnKey x)) (said : Progress (Node K V)) (leads : StepLeads same hash i said s old new)
    (c : CallThere K V) (c_is : call_of (name i) m ≡ Some c) where
  abbrev Stepped : Type 0
  Stepped = (r : KeyCall K V K × Called (Node K V)) × (((leads map (OnKey x) here).1, said) ≡ called r) × Steps Took value_at old.memory (call_plan same same (leads map (OnKey x) here).0.hash x.call) new.memory r

  -- what its machine did
  stepped : Stepped
  stepped =
      let inner = told_in old.memory new.memory new.changed called (call_plan same same (leads map (OnKey x) here).0.hash x.call) ((leads map (OnKey x) here).1, said) (leads map (OnKey x) here).3 in
      (inner.0, inner.1, as_step old.memory changed.Nothing (call_plan same same (leads map (OnKey x) here).0.hash x.call) new.memory new.changed inner.0 inner.2)

  machine_is : (leads map (OnKey x) here).1 ≡ kinds.Key stepped.0.0
  machine_is = ap (λ (z : Machine K V K × Progress (Node K V)). z.0) stepped.1

  said_is : said ≡ of_called stepped.0.1
  said_is = ap (λ (z : Machine K V K × Progress (Node K V)). z.1) stepped.1

  -- its own pair comes back
  comes_back : (pair : Option (Node K V)) (kinds_of : Kind) → x.pair ≡ Begun kinds_of pair → (value : Node K V) → said ≡ progress.Unstored value → pair ≡ Some value
  comes_back pair kinds_of is value unstored = subst (λ (g : Given K V). HandsBack g value) is (by (leads map (OnKey x) here).4.did)
    where
      ended_so : (end : Called (Node K V)) → said ≡ of_called end → end ≡ calls.Unstored value
      ended_so end told = unstored_is end (sym told ∙ unstored)
        where
          unstored_is : (end : Called (Node K V)) → of_called end ≡ progress.Unstored value → end ≡ calls.Unstored value
          unstored_is (calls.Unstored node) e = ap calls.Unstored (let f : node ≡ value = cc e in f)
          unstored_is calls.Goes e = absurd (cc e)
          unstored_is calls.Waits e = absurd (cc e)
          unstored_is (calls.Gave node) e = absurd (cc e)
          unstored_is (calls.Asks about) e = absurd (cc e)
          unstored_is (calls.Done answer) e = absurd (cc e)
          unstored_is (calls.Refused fault) e = absurd (cc e)

      by : DidOfKind V same same old.batch_size old.roots slot_of s.world s.maps s.calls s.makers s.enders map (leads map (OnKey x) here).0 i new.memory (leads map (OnKey x) here).4.w2
          (leads map (OnKey x) here).4.maps2 (leads map (OnKey x) here).4.next (OnKey x) (leads map (OnKey x) here).1 said → HandsBack x.pair value
      by (p2, end, is_machine, told, inl (step, moved)) = step.step.hands value (ended_so end told)
      by (p2, end, is_machine, told, inr (row, stayed)) = row.step.hands value (ended_so end told)

  -- where it goes on
  module _ (next : UnderWay K V K) (next_is : (leads map (OnKey x) here).4.next ≡ Some next) where
    next_machine : machine_of next ≡ kinds.Key stepped.0.0
    next_machine = by said (leads map (OnKey x) here).4.goes_on ∙ machine_is
      where
        by : (p : Progress (Node K V)) → ContinuesAs (leads map (OnKey x) here).1 p (leads map (OnKey x) here).4.next → machine_of next ≡ (leads map (OnKey x) here).1
        by (progress.Done answer) none = absurd (let two = sym none ∙ next_is in cc two)
        by (progress.Refused fault) none = absurd (let two = sym none ∙ next_is in cc two)
        by _ (u, is, machine) = ap machine_of (same_call next u (sym next_is ∙ is)) ∙ machine

    not_ended : (p : Progress (Node K V)) → said ≡ p → has_ended p ≡ true → ⊥
    not_ended p is ended = by p ended (subst (λ (q : Progress (Node K V)). ContinuesAs (leads map (OnKey x) here).1 q (leads map (OnKey x) here).4.next) is (leads map (OnKey x) here).4.goes_on)
      where
        by : (p : Progress (Node K V)) → has_ended p ≡ true → ContinuesAs (leads map (OnKey x) here).1 p (leads map (OnKey x) here).4.next → ⊥
        by (progress.Done answer) ended none = (let two = sym none ∙ next_is in cc two)
        by (progress.Refused fault) ended none = (let two = sym none ∙ next_is in cc two)
        by _ ended goes = cc ended

    abbrev Any : ℕ → Type 0
    Any word = Unit {0}

    free : (p : Calling) → MayFind Any x.call p
    free at.Probes = λ none word. tt
    free (at.Tries before after) = λ none word. tt
    free (at.Looks lookup) = λ word. tt
    free (at.Disposes dispose answer) = λ word found. tt
    free (at.Over end) = λ word found. tt
    free _ = tt

    -- where `try_insert` is over its caller has its own value
    inserts_keep : (k : K) (v : V) → c.call ≡ On (TryInsert k v) → (value : Option V) (word : ℕ) → stepped.0.0.stands ≡ at.Over (ends.Answered (answers.Found word)) → kept_after kind.TriesToInsert said value ≡ Some v
    inserts_keep k v is value word over =
        by stepped.0.1 refl (key_comes_so Any same same (leads map (OnKey x) here).0.hash x.call (free x.call.stands) old.memory new.memory stepped.0 stepped.2)
      where
        Goal : Type 0
        Goal = kept_after kind.TriesToInsert said value ≡ Some v

        on : IsNotOver stepped.0.0.stands → Goal
        on not_over = absurd (subst IsNotOver over not_over)

        by : (end : Called (Node K V)) → stepped.0.1 ≡ end → Comes Any (stepped.0.0, end) → Goal
        by calls.Goes end_is comes = on comes
        by calls.Waits end_is comes = on comes
        by (calls.Gave value) end_is comes = on comes
        by (calls.Asks about) end_is comes = on comes
        by (calls.Done answer) end_is comes = absurd (not_ended (progress.Done (said_of.Key answer)) (said_is ∙ ap of_called end_is) refl)
        by (calls.Refused fault) end_is comes = absurd (not_ended (progress.Refused fault) (said_is ∙ ap of_called end_is) refl)
        by (calls.Unstored back) end_is comes =
            let unstored : said ≡ progress.Unstored back = said_is ∙ ap of_called end_is in
            let pair = its_pair same hash name m known s old at_old whole map i (leads map (OnKey x) here).0 (leads map (OnKey x) here).2 c c_is x here k v is in
            let its : node.Pair k v ≡ back = same_call (node.Pair k v) back (comes_back (Some (node.Pair k v)) tries_to_insert pair back unstored) in
            ap (λ (p : Progress (Node K V)). kept_after kind.TriesToInsert p value) unstored ∙ ap value_of (sym its)

    -- and that of `compute` keeps what it has
    computes_keep : (value : Option V) → ((about : Option ℕ) (v : V) → reply_to about c.replies ≡ Some (Aborts v) → IsEnding x.call.stands × (value ≡ Some v))
        → (about : Option ℕ) (v : V) → reply_to about c.replies ≡ Some (Aborts v) → IsEnding stepped.0.0.stands × (kept_after kind.Computes said value ≡ Some v)
    computes_keep value keeps about v is =
        let was = keeps about v is in
        (ending_stays same same (leads map (OnKey x) here).0.hash x.call was.0 old.memory new.memory stepped.0 stepped.2, as_it_was said ∙ was.1)
      where
        as_it_was : (p : Progress (Node K V)) → kept_after kind.Computes p value ≡ value
        as_it_was (progress.Unstored back) = refl
        as_it_was _ = refl

    keeps_on : (value : Option V) (call : Call K V) → c.call ≡ call → KeepsValue call c.replies (kinds.Key x.call) value → KeepsValue call c.replies (machine_of next) (kept_after (kind_of call) said value)
    keeps_on value (On (TryInsert k v)) is keeps =
        subst (λ (z : Machine K V K). KeepsValue (On (TryInsert k v)) c.replies z (kept_after kind.TriesToInsert said value)) (sym next_machine) (λ word over. inserts_keep k v is value word over)
    keeps_on value (On (Compute k)) is keeps =
        subst (λ (z : Machine K V K). KeepsValue (On (Compute k)) c.replies z (kept_after kind.Computes said value)) (sym next_machine) (computes_keep value keeps)
    keeps_on value _ is keeps = tt

  -- where it has answered that its key is there
  inserts_tell : (k : K) (v : V) (is : c.call ≡ On (TryInsert k v)) (word : ℕ) → said ≡ progress.Done (said_of.Key (answers.Found word)) → (value : Option V) → KeepsValue c.call c.replies (kinds.Key x.call) value → value ≡ Some v
  inserts_tell k v is word tells value keeps =
      subst (λ (call : Call K V). KeepsValue call c.replies (kinds.Key x.call) value) is keeps word
      (by stepped.0.1 (sym said_is ∙ tells)
      (key_comes_so Founds same same (leads map (OnKey x) here).0.hash x.call (may_find same hash name m known s old at_old whole map i (leads map (OnKey x) here).0 (leads map (OnKey x) here).2 c c_is x here k v is) old.memory
      new.memory stepped.0 stepped.2))
    where
      Founds : ℕ → Type 0
      Founds = FoundOver same hash name m known s old at_old whole map i (leads map (OnKey x) here).0 (leads map (OnKey x) here).2 c c_is x here k v is

      by : (end : Called (Node K V)) → of_called end ≡ progress.Done (said_of.Key (answers.Found word)) → Comes Founds (stepped.0.0, end) → Founds word
      by (calls.Done (answers.Found w)) told comes = subst Founds (let one : w ≡ word = cc told in one) comes
      by (calls.Done answers.Absent) told comes = absurd (cc told)
      by (calls.Done (answers.Stored w)) told comes = absurd (cc told)
      by (calls.Done (answers.Replaced before after)) told comes = absurd (cc told)
      by (calls.Done (answers.Removed w)) told comes = absurd (cc told)
      by calls.Goes told comes = absurd (cc told)
      by calls.Waits told comes = absurd (cc told)
      by (calls.Gave back) told comes = absurd (cc told)
      by (calls.Unstored back) told comes = absurd (cc told)
      by (calls.Asks about) told comes = absurd (cc told)
      by (calls.Refused fault) told comes = absurd (cc told)

-- a call on no key keeps nothing
keeps_none : {K V : Type 0} (call : Call K V) → ((one : OneKey K V) → call ≡ On one → ⊥) → (replies : List (Option ℕ × Reply V)) (machine : Machine K V K) (value : Option V) → KeepsValue call replies machine value
keeps_none (On one) never replies machine value = absurd (never one refl)
keeps_none _ never replies machine value = tt

-- what is called on one key is under way so
on_no_key : {K V : Type 0} (same : K → K → Bool) (u : UnderWay K V K) (call : Call K V) → IsCalled same u call → ((x : CallOnKey K V K) → u ≡ OnKey x → ⊥) → (one : OneKey K V) → call ≡ On one → ⊥
on_no_key same u call is other one e = by u refl (subst (IsCalled same u) e is)
  where
    by : (v : UnderWay _ _ _) → u ≡ v → IsCalled same v (On one) → ⊥
    by (OnKey x) v_is called_it = other x v_is
    by (ForRoom r) v_is called_it = called_it
    by (Counting sum) v_is called_it = called_it
    by (OverAll o) v_is called_it = called_it

module _ (K V : Type 0) (same : K → K → Bool) (hash : ℕ → K → ℕ) where
  pub values_go_on : ValuesContinue K V same hash
  values_go_on name m known s old new at_old whole map i (OnKey x) here said leads c c_is value keeps next next_is =
      keeps_on same hash name m known s old new at_old whole map i x here said leads c c_is next next_is value c.call refl keeps
  values_go_on name m known s old new at_old whole map i (ForRoom r) here said leads c c_is value keeps next next_is =
      keeps_none c.call
      (on_no_key same (ForRoom r) c.call
      (called_so same hash name m known s old at_old whole map i (leads map (ForRoom r) here).0 (leads map (ForRoom r) here).2 c c_is (ForRoom r) here) (λ x e. absurd (cc e))) c.replies (machine_of next)
      (kept_after (kind_of c.call) said value)
  values_go_on name m known s old new at_old whole map i (Counting sum) here said leads c c_is value keeps next next_is =
      keeps_none c.call
      (on_no_key same (Counting sum) c.call
      (called_so same hash name m known s old at_old whole map i (leads map (Counting sum) here).0 (leads map (Counting sum) here).2 c c_is (Counting sum) here) (λ x e. absurd (cc e))) c.replies (machine_of next)
      (kept_after (kind_of c.call) said value)
  values_go_on name m known s old new at_old whole map i (OverAll o) here said leads c c_is value keeps next next_is =
      keeps_none c.call
      (on_no_key same (OverAll o) c.call
      (called_so same hash name m known s old at_old whole map i (leads map (OverAll o) here).0 (leads map (OverAll o) here).2 c c_is (OverAll o) here) (λ x e. absurd (cc e))) c.replies (machine_of next)
      (kept_after (kind_of c.call) said value)

  pub inserts_tell_theirs : InsertsTellTheirs K V same hash
  inserts_tell_theirs name m known s old new at_old whole map i (OnKey x) here word leads c c_is k v is value keeps =
      inserts_tell same hash name m known s old new at_old whole map i x here (progress.Done (said_of.Key (answers.Found word))) leads c c_is k v is word refl value keeps
  inserts_tell_theirs name m known s old new at_old whole map i (ForRoom r) here word leads c c_is k v is value keeps =
      absurd (subst (IsCalled same (ForRoom r)) is (called_so same hash name m known s old at_old whole map i (leads map (ForRoom r) here).0 (leads map (ForRoom r) here).2 c c_is (ForRoom r) here))
  inserts_tell_theirs name m known s old new at_old whole map i (Counting sum) here word leads c c_is k v is value keeps =
      absurd (subst (IsCalled same (Counting sum)) is (called_so same hash name m known s old at_old whole map i (leads map (Counting sum) here).0 (leads map (Counting sum) here).2 c c_is (Counting sum) here))
  inserts_tell_theirs name m known s old new at_old whole map i (OverAll o) here word leads c c_is k v is value keeps =
      absurd (subst (IsCalled same (OverAll o)) is (called_so same hash name m known s old at_old whole map i (leads map (OverAll o) here).0 (leads map (OverAll o) here).2 c c_is (OverAll o) here))

  -- of a call on one key that takes a reply
  module _ (name : ℕ → List ℕ) (m : Moment K V) (known : Known) (s : Scene K V) (e : Held K V) (at_e : IsAt same hash e s) (whole : RefinesWhole same name m known s) (map i : ℕ) (x : CallOnKey K V K)
      (here : s.calls map i ≡ Some (OnKey x)) (st : Standing K) (stands_there : s.maps map ≡ Some st) (c : CallThere K V) (c_is : call_of (name i) m ≡ Some c) (question : Option ℕ)
      (asks_it : c.stands ≡ Asking question) (told_it : Reply V) (taken : (replied_at x.call.stands x.call (reply_to_machine told_it)).1 ≡ Ok tt) (value : Option V) where
    its_asking : (one : OneKey K V) → c.call ≡ On one → AsksThere known x.call.stands question
    its_asking one is = (asked_on same hash name m known s e at_e whole map i st stands_there c c_is x here one is).asks question asks_it

    -- where it is told to abort
    aborts_now : (it : AskingAt) → x.call.stands ≡ at.Asks it → (v : V) → told_it ≡ Aborts v → IsEnding (replied_at x.call.stands x.call (reply_to_machine told_it)).0.stands × (aborted_by told_it ≡ Some v)
    aborts_now it stands v is = (
      subst (λ (p : Calling). IsEnding (replied_at p x.call (reply_to_machine told_it)).0.stands) (sym stands)
          (subst (λ (r : Reply V). IsEnding (replied_at (at.Asks it) x.call (reply_to_machine r)).0.stands) (sym is)
          (aborts it x.call (subst (λ (r : Reply V). (replied_at (at.Asks it) x.call (reply_to_machine r)).1 ≡ Ok tt) is (subst (λ (p : Calling). (replied_at p x.call (reply_to_machine told_it)).1 ≡ Ok tt) stands taken)))),
      ap aborted_by is,
    )

    takes_so : (call : Call K V) → c.call ≡ call → KeepsValue call c.replies (kinds.Key x.call) value
        → KeepsValue call ((question, told_it) ∷ c.replies) (kinds.Key (replied_at x.call.stands x.call (reply_to_machine told_it)).0) (aborted_by told_it)
    takes_so (On (TryInsert k v)) is keeps =
        let asking = its_asking (TryInsert k v) is in
        λ word over.
        absurd (takes_none asking.0 x.call (takes_nothing same hash name m known s e at_e whole map i st stands_there c c_is x here k v is) (reply_to_machine told_it)
        (subst (λ (p : Calling). (replied_at p x.call (reply_to_machine told_it)).1 ≡ Ok tt) asking.1 taken))
    takes_so (On (Compute k)) is keeps = λ about v told. by about v (same_question about question) told
      where
        by : (about : Option ℕ) (v : V) (q : Bool) → (if q then Some told_it else reply_to about c.replies) ≡ Some (Aborts v)
            → IsEnding (replied_at x.call.stands x.call (reply_to_machine told_it)).0.stands × (aborted_by told_it ≡ Some v)
        by about v true told = (let asking = its_asking (Compute k) is in aborts_now asking.0 asking.1 v (same_call told_it (Aborts v) told))
        by about v false told = (let asking = its_asking (Compute k) is in absurd (subst IsEnding asking.1 (keeps about v told).0))
    takes_so _ is keeps = tt

  pub values_taken : ValuesTaken K V same hash
  values_taken name m known s e at_e whole map i (OnKey x) here st stands_there c c_is question asks_it told_it taken value keeps =
      takes_so name m known s e at_e whole map i x here st stands_there c c_is question asks_it told_it taken value c.call refl keeps
  values_taken name m known s e at_e whole map i (ForRoom r) here st stands_there c c_is question asks_it told_it taken value keeps =
      keeps_none c.call (on_no_key same (ForRoom r) c.call (called_so same hash name m known s e at_e whole map i st stands_there c c_is (ForRoom r) here) (λ x e. absurd (cc e))) ((question, told_it) ∷ c.replies)
      (machine_replied (machine_of (ForRoom r)) (reply_to_machine told_it)).0 (aborted_by told_it)
  values_taken name m known s e at_e whole map i (Counting sum) here st stands_there c c_is question asks_it told_it taken value keeps =
      keeps_none c.call (on_no_key same (Counting sum) c.call (called_so same hash name m known s e at_e whole map i st stands_there c c_is (Counting sum) here) (λ x e. absurd (cc e)))
      ((question, told_it) ∷ c.replies) (machine_replied (machine_of (Counting sum)) (reply_to_machine told_it)).0 (aborted_by told_it)
  values_taken name m known s e at_e whole map i (OverAll o) here st stands_there c c_is question asks_it told_it taken value keeps =
      keeps_none c.call (on_no_key same (OverAll o) c.call (called_so same hash name m known s e at_e whole map i st stands_there c c_is (OverAll o) here) (λ x e. absurd (cc e)))
      ((question, told_it) ∷ c.replies) (machine_replied (machine_of (OverAll o)) (reply_to_machine told_it)).0 (aborted_by told_it)

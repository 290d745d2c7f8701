-- For what a call that asks, for one owner, is refused once it was told what to do.
use Rattle.std.specs.Prelude.{◌≡◌, ℕ, ◌==◌, Bool, true, List, false, Option, Some, None, Result, Ok, Err, IfErr, if◌then◌else◌, ◌⊎◌}
use Rattle.std.proofs.Common.{sym, ◌∙◌, ap, subst, inl, inr}
use Rattle.seize_words.specs.OneMemory.Mem.{Mem, Took, value_at}
use Rattle.seize_words.specs.OneMemory.Op.{Found, Stored, Exchanged, Made, Taken, Roomed}
use Rattle.seize_words.specs.OneMemory.Plan.{Plan, Steps}
use Rattle.seize_words.specs.declared.fault.Fault.{Fault}
use Rattle.seize_words.specs.declared.fault.Fault.TheVariants.{RemoveNothing}
use Rattle.seize.specs.declared.advance.Advance.{Advance}
use Rattle.seize.specs.declared.advance.Advance.TheVariants as progress
use Rattle.seize.specs.declared.rows.settle.Settled.{Settled}
use Rattle.seize.specs.declared.rows.settle.Settled.TheVariants as settled
use Rattle.owner_calls.proofs.Given.SeizeRuleRows.Leaving.{steps_back}
use Rattle.map_tables.specs.declared.marks.TheConstants.{TOMBSTONE}
use Rattle.map_tables.specs.declared.node.Node.{Node}
use Rattle.map_tables.specs.declared.setting.Setting.{Setting}
use Rattle.owner_calls.specs.Given.ResizeDispose.{disposing, dispose_plan}
use Rattle.owner_calls.specs.Given.ResizeDeclared.dispose.Dispose.{Dispose}
use Rattle.papaya_raw.specs.Call.{call_plan, counts, disposed, plan_at, tries}
use Rattle.papaya_raw.specs.CallAsks.{with_present, absent_replied, present_replied, replied_at, replied}
use Rattle.papaya_raw.specs.CallPoints.{going, over, ending, burying, changed, counted}
use Rattle.papaya_raw.specs.declared.machines.answer.Called.{Called}
use Rattle.papaya_raw.specs.declared.machines.answer.Called.TheVariants as called
use Rattle.papaya_raw.specs.declared.machines.answer.End.{End}
use Rattle.papaya_raw.specs.declared.machines.answer.End.TheVariants as ends
use Rattle.papaya_raw.specs.declared.machines.answer.KeyAnswer.{KeyAnswer}
use Rattle.papaya_raw.specs.declared.machines.answer.KeyAnswer.TheVariants as answers
use Rattle.papaya_raw.specs.declared.machines.asking.Asking.{Asking}
use Rattle.papaya_raw.specs.declared.machines.asking.Asking.TheVariants as asking
use Rattle.papaya_raw.specs.declared.machines.asking.Gap.{Gap}
use Rattle.papaya_raw.specs.declared.machines.asking.MachineReply.{MachineReply}
use Rattle.papaya_raw.specs.declared.machines.asking.MachineReply.TheVariants as reply
use Rattle.papaya_raw.specs.declared.machines.asking.Takes.{Takes}
use Rattle.papaya_raw.specs.declared.machines.asking.Takes.TheVariants as takes
use Rattle.papaya_raw.specs.declared.machines.asking.Told.TheVariants as tells
use Rattle.papaya_raw.specs.declared.machines.call.KeyCall.{KeyCall}
use Rattle.papaya_raw.specs.declared.machines.call.Calling.{Calling}
use Rattle.papaya_raw.specs.declared.machines.call.Calling.TheVariants as at
use Rattle.owner_calls.proofs.Given.RuleKeys.Always.{always_plan_as, always_steps}
use Rattle.owner_calls.specs.Given.CallersKind.{Kind}
use Rattle.owner_calls.specs.Given.LateFaults.{IsRoom}
use Rattle.owner_asks.specs.Asks.Asking.{IsTaken, MayRefuse, Pauses, RepliedThis, RepliedCallsRefuse}
use Rattle.owner_calls.specs.Given.StridesEnding.{Continues, EndsWith, RunsTo, stops, goes}
use Rattle.owner_calls.specs.Owned.Machines.{on_key_after, on_key_plan}
use Rattle.owner_calls.specs.Owned.Owned.{found_by}
use Rattle.owner_calls.specs.declared.machines.OnKey.{OnKey}
use Rattle.owner_calls.specs.declared.machines.Stop.{Stop}
use Rattle.owner_calls.proofs.Given.StridesRuns.Comes.{NextOf, run_comes}
use Rattle.owner_asks.proofs.Asks.Asks.Finishes.{c, for as asked_for, s, call_is, stands_is, takes_is, told_so, undisturbed2}
use Rattle.owner_asks.proofs.Asks.Asks.Replied.{known_by, value_by, seeks_by}
use Rattle.owner_asks.proofs.Asks.Asks.Steps.{stays_undisturbed}
use Rattle.owner_asks.proofs.Asks.Asks.Undisturbed.{AsksFor, WordIs, StaysSo, Undisturbed, UndisturbedAt}

-- it has only to change the word that it knows, to count and to dispose of what it has removed, and to answer
abbrev pub IsToAnswer : Calling → Type 0
IsToAnswer (at.Tries word new) = Unit {0}
IsToAnswer (at.Counts removed) = Unit {0}
IsToAnswer (at.Disposes dispose answer) = Unit {0}
IsToAnswer (at.Over (ends.Answered answer)) = Unit {0}
IsToAnswer _ = ⊥

module _ {K V Q : Type 0} where
  -- after a step it is still, or has answered
  abbrev AnswersOn : KeyCall K V Q × Called (Node K V) → Type 0
  AnswersOn (p, called.Goes) = IsToAnswer p.stands
  AnswersOn (p, called.Waits) = IsToAnswer p.stands
  AnswersOn (p, called.Gave value) = IsToAnswer p.stands
  AnswersOn (p, called.Done answer) = Unit {0}
  AnswersOn _ = ⊥

  either : (b : Bool) (x y : KeyCall K V Q × Called (Node K V)) → AnswersOn x → AnswersOn y → AnswersOn (if b then x else y)
  either true x y f g = f
  either false x y f g = g

  module _ (p : KeyCall K V Q) where
    on_changed : (word new : ℕ) → AnswersOn (changed p word new)
    on_changed word new =
        either (new == TOMBSTONE) (going p (at.Counts word)) _ tt
        (either (word == 0) (going p (at.Counts 0)) (going p (at.Disposes (disposing p.setting word p.trial.table) (answers.Replaced word p.own))) tt tt)

    on_counted : (removed : ℕ) → AnswersOn (counted p removed)
    on_counted removed = either (removed == 0) (over p (ends.Answered (answers.Stored p.own))) (going p (at.Disposes (disposing p.setting removed p.trial.table) (answers.Removed removed))) tt tt

    on_disposed : (answer : KeyAnswer) (end : Dispose × Settled (Node K V)) → AnswersOn (disposed p answer end)
    on_disposed answer (d, settled.Goes) = tt
    on_disposed answer (d, settled.Waits) = tt
    on_disposed answer (d, settled.Gave value) = tt
    on_disposed answer (d, settled.Done) = tt

    module _ (m m2 : Mem (Node K V)) (end : KeyCall K V Q × Called (Node K V)) (asks : Q → K → Bool) (same : K → K → Bool) (hash : K → ℕ) where
      -- nobody has changed the word
      on_tried : (word new : ℕ) → WordIs m p word → Steps Took value_at m (tries asks same p word new) m2 end → AnswersOn end
      on_tried word new is (Exchanged (Ok found), took, e) = subst AnswersOn (sym e) (on_changed word new)
      on_tried word new is (Exchanged (Err found), took, e) = absurd (took.0.1 (let there = took.0.0 in cc (there, is)))
      on_tried word new is (Found w, took, e) = absurd took.0
      on_tried word new is (Stored, took, e) = absurd took.0
      on_tried word new is (Made r, took, e) = absurd took.0
      on_tried word new is (Taken value_out, took, e) = absurd took.0
      on_tried word new is (Roomed r, took, e) = absurd took.0

      on_point : (its : Option K) (stands : Calling) → UndisturbedAt its None None false m p stands → IsToAnswer stands → Steps Took value_at m (plan_at asks same hash p stands) m2 end → AnswersOn end
      on_point its (at.Tries word new) point yet s = on_tried word new point s
      on_point its (at.Counts removed) point yet s = always_steps AnswersOn m m2 (counts p removed) end (λ out. on_counted removed) s
      on_point its (at.Disposes dispose answer) point yet s =
          always_steps AnswersOn m m2 (plan_at asks same hash p (at.Disposes dispose answer)) end (always_plan_as AnswersOn (disposed p answer) (on_disposed answer) (dispose_plan dispose)) s
      on_point its (at.Over (ends.Answered answer)) point yet s = subst AnswersOn (sym s.1) tt
      on_point its _ point yet s = absurd yet

-- a fault that is told at once
tells_it : (fault : Fault) (told : Advance Stop) (result : Result Stop Fault) → told ≡ progress.Refused fault → EndsWith told result → IfErr result (λ f. f ≡ fault)
tells_it fault told result is tells = by result (subst (λ (t : Advance Stop). EndsWith t result) is tells)
  where
    by : (result : Result Stop Fault) → EndsWith (progress.Refused fault) result → IfErr result (λ f. f ≡ fault)
    by (Ok end) tells = tt
    by (Err f) tells = tells

module _ {K V Q S : Type 0} (asks : Q → K → Bool) (same : K → K → Bool) (hashes : S → K → ℕ) where
  abbrev the_plan : OnKey K V Q S → Plan (Node K V) (OnKey K V Q S × Advance Stop)
  the_plan = on_key_plan asks same hashes

  step_of : (x : OnKey K V Q S) (m m2 : Mem (Node K V)) (end : OnKey K V Q S × Advance Stop) → Steps Took value_at m (the_plan x) m2 end
      → (e : KeyCall K V Q × Called (Node K V)) × Steps Took value_at m (call_plan asks same (hashes x.hasher.now) x.call) m2 e × (end ≡ on_key_after x e)
  step_of x m m2 end s = steps_back (on_key_after x) m m2 (call_plan asks same (hashes x.hasher.now) x.call) end s

  -- A call that is to answer is not refused.
  module _ (its : Option K) where
    abbrev IsStill : Mem (Node K V) → OnKey K V Q S → Type 0
    IsStill m x = Undisturbed its None None false m x.call × IsToAnswer x.call.stands

    abbrev IsNext : Mem (Node K V) → OnKey K V Q S → Advance Stop → Type 0
    IsNext m x = NextOf (λ y n. IsStill n y) (λ y n result. IfErr result (λ fault. ⊥)) x m

    next_by : (x : OnKey K V Q S) (p2 : KeyCall K V Q) (m2 : Mem (Node K V)) (told : Called (Node K V)) → StaysSo its None None false m2 (p2, told) → AnswersOn (p2, told)
        → IsNext m2 (on_key_after x (p2, told)).0 (on_key_after x (p2, told)).1
    next_by x p2 m2 called.Goes h yet = (h, yet)
    next_by x p2 m2 called.Waits h yet = (h, yet)
    next_by x p2 m2 (called.Gave value) h yet = (h, yet)
    next_by x p2 m2 (called.Unstored value) h yet = absurd yet
    next_by x p2 m2 (called.Asks asked) h yet = absurd yet
    next_by x p2 m2 (called.Done answer) h yet = tt
    next_by x p2 m2 (called.Refused fault) h yet = absurd yet

    on_step : (x : OnKey K V Q S) (m : Mem (Node K V)) → IsStill m x → (m2 : Mem (Node K V)) (end : OnKey K V Q S × Advance Stop) → Steps Took value_at m (the_plan x) m2 end → IsNext m2 end.0 end.1
    on_step x m h m2 end s =
        let k = step_of x m m2 end s in
        subst (λ (y : OnKey K V Q S × Advance Stop). IsNext m2 y.0 y.1) (sym k.2)
        (next_by x k.0.0 m2 k.0.1 (stays_undisturbed its None None false (λ v e. absurd (cc e)) asks same (hashes x.hasher.now) x.call m m2 h.0 k.0 k.1)
        (on_point x.call m m2 k.0 asks same (hashes x.hasher.now) its x.call.stands h.0.point h.1 k.1))

    never_refused : (x : OnKey K V Q S) (m : Mem (Node K V)) (x2 : OnKey K V Q S) (m2 : Mem (Node K V)) (result : Result Stop Fault) → RunsTo the_plan x m x2 m2 result → IsStill m x → IfErr result (λ fault. ⊥)
    never_refused x m x2 m2 result runs h = run_comes (λ y n. IsStill n y) (λ y n r. IfErr r (λ fault. ⊥)) the_plan on_step x m h x2 m2 result runs

  -- One that is over tells its fault at once.
  module _ (fault : Fault) where
    told_is : (x : OnKey K V Q S) (m m2 : Mem (Node K V)) (end : OnKey K V Q S × Advance Stop) → x.call.stands ≡ at.Over (ends.Refused fault) → Steps Took value_at m (the_plan x) m2 end → end.1 ≡ progress.Refused fault
    told_is x m m2 end over_now s =
        let k = step_of x m m2 end s in
        let e = subst (λ (stands : Calling). Steps Took value_at m (plan_at asks same (hashes x.hasher.now) x.call stands) m2 k.0) over_now k.1 in
        ap (λ (y : OnKey K V Q S × Advance Stop). y.1) (k.2 ∙ ap (on_key_after x) e.1)

    tells_fault : (x : OnKey K V Q S) (m : Mem (Node K V)) (x2 : OnKey K V Q S) (m2 : Mem (Node K V)) (result : Result Stop Fault) → RunsTo the_plan x m x2 m2 result → x.call.stands ≡ at.Over (ends.Refused fault)
        → IfErr result (λ f. f ≡ fault)
    tells_fault x m x2 m2 result (stops _ _ _ _ told _ s tells) over_now = tells_it fault told result (told_is x m m2 (x2, told) over_now s) tells
    tells_fault x m x2 m2 result (goes _ _ x1 m1 told on s _ _ _ runs) over_now = absurd (subst (Continues {A = Stop}) (told_is x m m1 (x1, told) over_now s) on)

-- where it stands once it was told
abbrev pub StandsTold : {V : Type 0} → Option ℕ → MachineReply V → Calling → Type 0
StandsTold asked (reply.Insert value) stands = Unit {0}
StandsTold None reply.Remove stands = stands ≡ at.Over (ends.Refused RemoveNothing)
StandsTold asked told stands = IsToAnswer stands

module _ {K V Q : Type 0} (p : KeyCall K V Q) (none : p.own ≡ 0) where
  no_own : (p.own == 0) ≡ true
  no_own = ap (λ (n : ℕ). n == 0) none

  ends_at : (end : End) → (ending p end).0.stands ≡ at.Over end
  ends_at end = ap (λ (b : Bool). (if b then over p end else going p (at.Drops end)).0.stands) no_own

  buries_at : (q : KeyCall K V Q) → q.own ≡ 0 → (word : ℕ) → IsToAnswer (burying q word).0.stands
  buries_at q own word =
      subst (λ (b : Bool). IsToAnswer (if b then going q (at.Tries word TOMBSTONE) else going q (at.Asks (asking.GivesUp word))).0.stands) (sym (ap (λ (n : ℕ). n == 0) own)) tt

  answers_at : (answer : KeyAnswer) → IsToAnswer (ending p (ends.Answered answer)).0.stands
  answers_at answer = subst IsToAnswer (sym (ends_at (ends.Answered answer))) tt

  absent_at : (kinds : Takes) (told : MachineReply V) (gap : Gap) → IsTaken kinds None told → StandsTold None told (absent_replied kinds p gap told).0.stands
  absent_at kinds (reply.Insert value) gap taken = tt
  absent_at takes.Changes reply.Remove gap taken = ends_at (ends.Refused RemoveNothing)
  absent_at takes.Changes reply.Abort gap taken = answers_at answers.Absent
  absent_at takes.Changes _ gap taken = absurd taken
  absent_at takes.Values _ gap taken = absurd taken
  absent_at takes.Choices _ gap taken = absurd taken
  absent_at takes.Nothing _ gap taken = absurd taken

  present_at : (kinds : Takes) (told : MachineReply V) (w word : ℕ) → IsTaken kinds (Some w) told → StandsTold (Some w) told (present_replied kinds p word told).0.stands
  present_at kinds (reply.Insert value) w word taken = tt
  present_at takes.Changes reply.Remove w word taken = buries_at (with_present p word tells.Removes) none word
  present_at takes.Changes reply.Abort w word taken = answers_at (answers.Found word)
  present_at takes.Choices reply.Yes w word taken = buries_at p none word
  present_at takes.Choices reply.No w word taken = answers_at (answers.Found word)
  present_at takes.Changes _ w word taken = absurd taken
  present_at takes.Choices _ w word taken = absurd taken
  present_at takes.Values _ w word taken = absurd taken
  present_at takes.Nothing _ w word taken = absurd taken

  asked_at : (asked : Option ℕ) (told : MachineReply V) (kinds : Takes) → p.replies.takes ≡ kinds → IsTaken kinds asked told → (a : Asking) → AsksFor asked (at.Asks a) → StandsTold asked told (replied_at (at.Asks a) p told).0.stands
  asked_at None told kinds is taken (asking.Absent gap) for = subst (λ (t : Takes). StandsTold None told (absent_replied t p gap told).0.stands) (sym is) (absent_at kinds told gap taken)
  asked_at (Some w) told kinds is taken (asking.Present word) for = subst (λ (t : Takes). StandsTold (Some w) told (present_replied t p word told).0.stands) (sym is) (present_at kinds told w word taken)
  asked_at None told kinds is taken (asking.Present word) for = absurd for
  asked_at (Some w) told kinds is taken (asking.Absent gap) for = absurd for
  asked_at None told kinds is taken (asking.Fills word) for = absurd for
  asked_at (Some w) told kinds is taken (asking.Fills word) for = absurd for
  asked_at None told kinds is taken (asking.GivesUp word) for = absurd for
  asked_at (Some w) told kinds is taken (asking.GivesUp word) for = absurd for

-- it has no block of its own where it asks
bare_own : {K V Q : Type 0} (its : Option K) (m : Mem (Node K V)) (p : KeyCall K V Q) (asked : Option ℕ) (a : Asking) → AsksFor asked (at.Asks a) → UndisturbedAt its None None true m p (at.Asks a) → p.own ≡ 0
bare_own its m p None (asking.Absent gap) for point = point.1.0
bare_own its m p (Some w) (asking.Present word) for point = point.1.0
bare_own its m p None (asking.Present word) for point = absurd for
bare_own its m p (Some w) (asking.Absent gap) for point = absurd for
bare_own its m p None (asking.Fills word) for point = absurd for
bare_own its m p (Some w) (asking.Fills word) for point = absurd for
bare_own its m p None (asking.GivesUp word) for point = absurd for
bare_own its m p (Some w) (asking.GivesUp word) for point = absurd for

module _ {K V Q S : Type 0} (asks : Q → K → Bool) (same : K → K → Bool) (hashes : S → K → ℕ) (setting : Setting) (kind : Kind) (its : Option K) (keys : K → Bool) (xs : List (K × V))
    (x : OnKey K V Q S) (m : Mem (Node K V)) (asked : Option ℕ) (p : Pauses asks same hashes setting kind its keys xs x m asked) where
  module _ (z : OnKey K V Q S) (m2 : Mem (Node K V)) (fault : Fault) where
    abbrev Refused : MachineReply V → Type 0
    Refused said = IsRoom fault ⊎ ((fault ≡ RemoveNothing) × RepliedThis keys xs said None reply.Remove × (found_by keys xs ≡ None))

    for_room : (v : V) → Refused (reply.Insert v) → IsRoom fault
    for_room v (inl room) = room
    for_room v (inr removes) = absurd (let e = removes.1.1 in cc e)

    refuses : (asked : Option ℕ) (said : MachineReply V) (q : KeyCall K V Q) → Undisturbed its (known_by asked said) (value_by said) (seeks_by asked said) m q → StandsTold asked said q.stands → Refused said
        → RunsTo (on_key_plan asks same hashes) (record x { call = q }) m z m2 (Err fault) → MayRefuse asked said fault
    refuses None (reply.Insert v) q h stands refused runs = for_room v refused
    refuses (Some w) (reply.Insert v) q h stands refused runs = for_room v refused
    refuses None reply.Remove q h stands refused runs = tells_fault asks same hashes RemoveNothing (record x { call = q }) m z m2 (Err fault) runs stands
    refuses None reply.Abort q h stands refused runs = never_refused asks same hashes its (record x { call = q }) m z m2 (Err fault) runs (h, stands)
    refuses None reply.Yes q h stands refused runs = never_refused asks same hashes its (record x { call = q }) m z m2 (Err fault) runs (h, stands)
    refuses None reply.No q h stands refused runs = never_refused asks same hashes its (record x { call = q }) m z m2 (Err fault) runs (h, stands)
    refuses (Some w) reply.Remove q h stands refused runs = never_refused asks same hashes its (record x { call = q }) m z m2 (Err fault) runs (h, stands)
    refuses (Some w) reply.Abort q h stands refused runs = never_refused asks same hashes its (record x { call = q }) m z m2 (Err fault) runs (h, stands)
    refuses (Some w) reply.Yes q h stands refused runs = never_refused asks same hashes its (record x { call = q }) m z m2 (Err fault) runs (h, stands)
    refuses (Some w) reply.No q h stands refused runs = never_refused asks same hashes its (record x { call = q }) m z m2 (Err fault) runs (h, stands)

  module _ (said : MachineReply V) (taken : IsTaken kind.takes asked said) where
    here : x.call.stands ≡ at.Asks (s asks same hashes setting kind its keys xs x m asked p said taken).asks_at
    here = stands_is asks same hashes setting kind its keys xs x m asked p said taken

    asks_it : AsksFor asked (at.Asks (s asks same hashes setting kind its keys xs x m asked p said taken).asks_at)
    asks_it = asked_for asks same hashes setting kind its keys xs x m asked p said taken

    own_none : x.call.own ≡ 0
    own_none =
        bare_own its m x.call asked _ asks_it
        (subst (UndisturbedAt its None None true m x.call) here (c asks same hashes setting kind its keys xs x m asked p said taken).1.point)

    stands_told : StandsTold asked said (replied x.call said).0.stands
    stands_told =
        subst (λ (stands : Calling). StandsTold asked said (replied_at stands x.call said).0.stands) (sym here)
        (asked_at x.call own_none asked said kind.takes
        (ap (λ (z : KeyCall K V Q). z.replies.takes) (call_is asks same hashes setting kind its keys xs x m asked p said taken) ∙ takes_is asks same hashes setting kind its keys xs x m asked p said taken)
        taken _ asks_it)

    pub told_refuses : (z : OnKey K V Q S) (m2 : Mem (Node K V)) (fault : Fault) → RunsTo (on_key_plan asks same hashes) (record x { call = (replied x.call said).0 }) m z m2 (Err fault) → MayRefuse asked said fault
    told_refuses z m2 fault runs =
        refuses z m2 fault asked said (replied x.call said).0 (undisturbed2 asks same hashes setting kind its keys xs x m asked p said taken) stands_told
        (told_so asks same hashes setting kind its keys xs x m asked p said taken z m2 (Err fault) runs).0 runs

pub told_calls_refuse : (K V Q S : Type 0) → RepliedCallsRefuse K V Q S
told_calls_refuse K V Q S asks same hashes setting kind its keys xs x m asked p said taken z m2 fault runs =
    told_refuses asks same hashes setting kind its keys xs x m asked p said taken z m2 fault runs

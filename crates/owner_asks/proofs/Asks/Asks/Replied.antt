-- A call that has asked, for one owner, is told what to do: it is undisturbed still, and from then on it asks no more.
use Rattle.std.specs.Prelude.{◌==◌, Option, Some, None, Ok, if◌then◌else◌}
use Rattle.std.proofs.Common.{◌≡◌, ◌≢◌, ℕ, Bool, true, false, refl, sym, ◌∙◌, ap, subst}
use Rattle.std.proofs.lemmas.Bool.{ne_eqb}
use Rattle.seize_words.specs.OneMemory.Mem.{Mem}
use Rattle.seize_words.specs.declared.fault.Fault.TheVariants.{RemoveNothing}
use Rattle.map_tables.specs.declared.marks.TheConstants.{TOMBSTONE}
use Rattle.map_tables.specs.declared.node.Node.{Node}
use Rattle.papaya_raw.specs.CallAsks.{with_absent, with_present, absent_replied, present_replied, replied_at, replied}
use Rattle.papaya_raw.specs.CallPoints.{over, going, ending, burying, at_gap}
use Rattle.papaya_raw.specs.Replies.{value_replied}
use Rattle.papaya_raw.specs.declared.machines.answer.End.{End}
use Rattle.papaya_raw.specs.declared.machines.answer.End.TheVariants as ends
use Rattle.papaya_raw.specs.declared.machines.answer.KeyAnswer.TheVariants as answers
use Rattle.papaya_raw.specs.declared.machines.asking.Asking.{Asking}
use Rattle.papaya_raw.specs.declared.machines.asking.Asking.TheVariants as asking
use Rattle.papaya_raw.specs.declared.machines.asking.Gap.{Gap}
use Rattle.papaya_raw.specs.declared.machines.asking.Gap.TheVariants as gaps
use Rattle.papaya_raw.specs.declared.machines.asking.MachineReply.{MachineReply}
use Rattle.papaya_raw.specs.declared.machines.asking.MachineReply.TheVariants as reply
use Rattle.papaya_raw.specs.declared.machines.asking.Takes.{Takes}
use Rattle.papaya_raw.specs.declared.machines.asking.Takes.TheVariants as takes
use Rattle.papaya_raw.specs.declared.machines.asking.Told.TheVariants as tells
use Rattle.papaya_raw.specs.declared.machines.call.KeyCall.{KeyCall}
use Rattle.papaya_raw.specs.declared.machines.call.Calling.TheVariants as at
use Rattle.owner_asks.specs.Asks.Asking.{IsTaken}
use Rattle.owner_asks.proofs.Asks.Asks.Undisturbed.{AsksThere, AsksMissing, AsksFor, IsBare, WordIs, GapIs, Undisturbed, UndisturbedAt, StaysSo, stays_gap}

-- what it knows to store where its key is missing, what it is to store, and whether it seeks on
module _ {V : Type 0} where
  abbrev pub known_by : Option ℕ → MachineReply V → Option V
  known_by None (reply.Insert value) = Some value
  known_by _ told = None

  abbrev pub value_by : MachineReply V → Option V
  value_by (reply.Insert value) = Some value
  value_by _ = None

  abbrev pub seeks_by : Option ℕ → MachineReply V → Bool
  seeks_by None (reply.Insert value) = true
  seeks_by _ told = false

-- the reply is taken
module _ {K V Q : Type 0} (p : KeyCall K V Q) (told : MachineReply V) where
  taken_at : (asked : Option ℕ) (kinds : Takes) → p.replies.takes ≡ kinds → IsTaken kinds asked told → (a : Asking) → AsksFor asked (at.Asks a) → (replied_at (at.Asks a) p told).1 ≡ Ok tt
  taken_at asked kinds is taken (asking.Absent gap) for = subst (λ (t : Takes). (absent_replied t p gap told).1 ≡ Ok tt) (sym is) (by asked kinds told taken for)
    where
      by : (asked : Option ℕ) (kinds : Takes) (told : MachineReply V) → IsTaken kinds asked told → AsksFor asked (at.Asks (asking.Absent gap)) → (absent_replied kinds p gap told).1 ≡ Ok tt
      by None takes.Values (reply.Insert value) taken for = refl
      by None takes.Changes (reply.Insert value) taken for = refl
      by None takes.Changes reply.Remove taken for = refl
      by None takes.Changes reply.Abort taken for = refl
      by None takes.Values reply.Remove taken for = absurd taken
      by None takes.Values reply.Abort taken for = absurd taken
      by None takes.Values reply.Yes taken for = absurd taken
      by None takes.Values reply.No taken for = absurd taken
      by None takes.Changes reply.Yes taken for = absurd taken
      by None takes.Changes reply.No taken for = absurd taken
      by None takes.Choices told taken for = absurd (none_chosen told taken)
        where
          none_chosen : (told : MachineReply V) → IsTaken takes.Choices None told → ⊥
          none_chosen (reply.Insert value) taken = taken
          none_chosen reply.Remove taken = taken
          none_chosen reply.Abort taken = taken
          none_chosen reply.Yes taken = taken
          none_chosen reply.No taken = taken
      by None takes.Nothing told taken for = absurd taken
      by (Some word) kinds told taken for = absurd for
  taken_at asked kinds is taken (asking.Present word) for = subst (λ (t : Takes). (present_replied t p word told).1 ≡ Ok tt) (sym is) (by asked kinds told taken for)
    where
      by : (asked : Option ℕ) (kinds : Takes) (told : MachineReply V) → IsTaken kinds asked told → AsksFor asked (at.Asks (asking.Present word)) → (present_replied kinds p word told).1 ≡ Ok tt
      by (Some w) takes.Values (reply.Insert value) taken for = refl
      by (Some w) takes.Changes (reply.Insert value) taken for = refl
      by (Some w) takes.Changes reply.Remove taken for = refl
      by (Some w) takes.Changes reply.Abort taken for = refl
      by (Some w) takes.Choices reply.Yes taken for = refl
      by (Some w) takes.Choices reply.No taken for = refl
      by (Some w) takes.Values reply.Remove taken for = absurd taken
      by (Some w) takes.Values reply.Abort taken for = absurd taken
      by (Some w) takes.Values reply.Yes taken for = absurd taken
      by (Some w) takes.Values reply.No taken for = absurd taken
      by (Some w) takes.Changes reply.Yes taken for = absurd taken
      by (Some w) takes.Changes reply.No taken for = absurd taken
      by (Some w) takes.Choices (reply.Insert value) taken for = absurd taken
      by (Some w) takes.Choices reply.Remove taken for = absurd taken
      by (Some w) takes.Choices reply.Abort taken for = absurd taken
      by (Some w) takes.Nothing told taken for = absurd taken
      by None kinds told taken for = absurd for
  taken_at (Some word) kinds is taken (asking.Fills other) for = absurd for
  taken_at None kinds is taken (asking.Fills other) for = absurd for
  taken_at (Some word) kinds is taken (asking.GivesUp other) for = absurd for
  taken_at None kinds is taken (asking.GivesUp other) for = absurd for

  pub reply_taken : (asked : Option ℕ) (kinds : Takes) → p.replies.takes ≡ kinds → IsTaken kinds asked told → (a : Asking) → p.stands ≡ at.Asks a → AsksFor asked (at.Asks a) → (replied p told).1 ≡ Ok tt
  reply_taken asked kinds is taken a stands for = subst (λ x. (replied_at x p told).1 ≡ Ok tt) (sym stands) (taken_at asked kinds is taken a for)

-- it is undisturbed then
module _ {K V Q : Type 0} (its : Option K) (m : Mem (Node K V)) (p : KeyCall K V Q) (h : Undisturbed its None None true m p) (kinds : Takes) (takes_is : p.replies.takes ≡ kinds)
    (has_key : kinds ≢ takes.Choices → (k : K) × (its ≡ Some k)) where
  own_none : IsBare its None p → (p.own == 0) ≡ true
  own_none bare = ap (λ (n : ℕ). n == 0) bare.0

  -- it ends
  ends_so : IsBare its None p → (end : End) → UndisturbedAt its None None false m p (at.Over end) → Undisturbed its None None false m (ending p end).0
  ends_so bare end point = subst (λ (b : Bool). Undisturbed its None None false m (if b then over p end else going p (at.Drops end)).0) (sym (own_none bare)) (by end point)
    where
      by : (end : End) → UndisturbedAt its None None false m p (at.Over end) → Undisturbed its None None false m (over p end).0
      by (ends.Answered answer) point = record { present = h.present; absent = h.absent; point = tt }
      by (ends.Refused fault) point = record { present = h.present; absent = h.absent; point = point }

  -- it removes the pair
  buries_so : (q : KeyCall K V Q) → q.own ≡ 0 → q.there ≡ p.there → q.missing ≡ p.missing → (word : ℕ) → WordIs m q word → Undisturbed its None None false m (burying q word).0
  buries_so q none same_there same_missing word is =
      subst (λ (b : Bool). Undisturbed its None None false m (if b then going q (at.Tries word TOMBSTONE) else going q (at.Asks (asking.GivesUp word))).0) (sym (ap (λ (n : ℕ). n == 0) none))
      (record { present = subst AsksThere (sym same_there) h.present; absent = subst AsksMissing (sym same_missing) h.absent; point = is })

  -- it stores a value where there is none
  fills_so : IsBare its None p → (k : K) → its ≡ Some k → (v : V) (gap : Gap) → GapIs m p gap → Undisturbed its (Some v) (Some v) true m (at_gap gap (with_absent p v)).0
  fills_so bare k key v gap empty = by gap empty
    where
      q : KeyCall K V Q
      q = with_absent p v

      so : (gap : Gap) → GapIs m q gap → StaysSo its (Some v) (Some v) true m (at_gap gap q)
      so gap empty = stays_gap its (Some v) (Some v) true m q h.present h.absent refl (bare.0, bare.1, refl, bare.3) (λ w e. (e, k, key)) v refl refl gap empty

      by : (gap : Gap) → GapIs m p gap → Undisturbed its (Some v) (Some v) true m (at_gap gap q).0
      by gaps.NoTable empty = so gaps.NoTable tt
      by gaps.Free empty = so gaps.Free empty
      by gaps.Past empty = so gaps.Past tt
      by gaps.Last empty = so gaps.Last tt

  -- it stores one in the place of a pair
  replaces_so : IsBare its None p → (k : K) → its ≡ Some k → (v : V) (word : ℕ) → word ≢ 0 → WordIs m p word
      → Undisturbed its None (Some v) false m (record (with_present p word (tells.Value v)) { stands = at.Asks (asking.Fills word) })
  replaces_so bare k key v word some is = record {
    present = h.present;
    absent = h.absent;
    point = ((bare.0, k, key, bare.1 ∙ key, v, refl, ap (λ (b : Bool). value_replied (if b then p.replies.absent else tells.Value v)) (ne_eqb word 0 some)), is);
  }

  absent_so : (told : MachineReply V) (gap : Gap) → IsTaken kinds None told → IsBare its None p → GapIs m p gap
      → Undisturbed its (known_by None told) (value_by told) (seeks_by None told) m (absent_replied kinds p gap told).0
  absent_so told gap taken bare empty = by kinds told has_key taken
    where
      by : (kinds : Takes) (told : MachineReply V) → (kinds ≢ takes.Choices → (k : K) × (its ≡ Some k)) → IsTaken kinds None told → Undisturbed its (known_by None told) (value_by told) (seeks_by None told) m (absent_replied kinds p gap told).0
      by takes.Values (reply.Insert v) key taken = let k = key (λ e. cc e) in fills_so bare k.0 k.1 v gap empty
      by takes.Changes (reply.Insert v) key taken = let k = key (λ e. cc e) in fills_so bare k.0 k.1 v gap empty
      by takes.Changes reply.Remove key taken = ends_so bare (ends.Refused RemoveNothing) bare
      by takes.Changes reply.Abort key taken = ends_so bare (ends.Answered answers.Absent) tt
      by takes.Values reply.Remove key taken = absurd taken
      by takes.Values reply.Abort key taken = absurd taken
      by takes.Values reply.Yes key taken = absurd taken
      by takes.Values reply.No key taken = absurd taken
      by takes.Changes reply.Yes key taken = absurd taken
      by takes.Changes reply.No key taken = absurd taken
      by takes.Choices (reply.Insert v) key taken = absurd taken
      by takes.Choices reply.Remove key taken = absurd taken
      by takes.Choices reply.Abort key taken = absurd taken
      by takes.Choices reply.Yes key taken = absurd taken
      by takes.Choices reply.No key taken = absurd taken
      by takes.Nothing told key taken = absurd taken

  present_so : (told : MachineReply V) (w word : ℕ) → IsTaken kinds (Some w) told → IsBare its None p → word ≢ 0 → WordIs m p word
      → Undisturbed its (known_by (Some w) told) (value_by told) (seeks_by (Some w) told) m (present_replied kinds p word told).0
  present_so told w word taken bare some is = by kinds told has_key taken
    where
      by : (kinds : Takes) (told : MachineReply V) → (kinds ≢ takes.Choices → (k : K) × (its ≡ Some k)) → IsTaken kinds (Some w) told → Undisturbed its (known_by (Some w) told) (value_by told) (seeks_by (Some w) told) m (present_replied kinds p word told).0
      by takes.Values (reply.Insert v) key taken = let k = key (λ e. cc e) in replaces_so bare k.0 k.1 v word some is
      by takes.Changes (reply.Insert v) key taken = let k = key (λ e. cc e) in replaces_so bare k.0 k.1 v word some is
      by takes.Changes reply.Remove key taken = buries_so (with_present p word tells.Removes) bare.0 refl refl word is
      by takes.Changes reply.Abort key taken = ends_so bare (ends.Answered (answers.Found word)) tt
      by takes.Choices reply.Yes key taken = buries_so p bare.0 refl refl word is
      by takes.Choices reply.No key taken = ends_so bare (ends.Answered (answers.Found word)) tt
      by takes.Values reply.Remove key taken = absurd taken
      by takes.Values reply.Abort key taken = absurd taken
      by takes.Values reply.Yes key taken = absurd taken
      by takes.Values reply.No key taken = absurd taken
      by takes.Changes reply.Yes key taken = absurd taken
      by takes.Changes reply.No key taken = absurd taken
      by takes.Choices (reply.Insert v) key taken = absurd taken
      by takes.Choices reply.Remove key taken = absurd taken
      by takes.Choices reply.Abort key taken = absurd taken
      by takes.Nothing told key taken = absurd taken

  asked_so : (told : MachineReply V) (asked : Option ℕ) → IsTaken kinds asked told → (a : Asking) → AsksFor asked (at.Asks a) → ((word : ℕ) → asked ≡ Some word → word ≢ 0) → UndisturbedAt its None None true m p (at.Asks a)
      → Undisturbed its (known_by asked told) (value_by told) (seeks_by asked told) m (replied_at (at.Asks a) p told).0
  asked_so told None taken (asking.Absent gap) for some point =
      subst (λ (t : Takes). Undisturbed its (known_by None told) (value_by told) (seeks_by None told) m (absent_replied t p gap told).0) (sym takes_is) (absent_so told gap taken point.1 point.3)
  asked_so told (Some w) taken (asking.Present word) for some point =
      subst (λ (t : Takes). Undisturbed its (known_by (Some w) told) (value_by told) (seeks_by (Some w) told) m (present_replied t p word told).0) (sym takes_is)
      (present_so told w word taken point.1 (λ zero. some w refl (sym for ∙ zero)) point.2)
  asked_so told None taken (asking.Present word) for some point = absurd for
  asked_so told (Some w) taken (asking.Absent gap) for some point = absurd for
  asked_so told None taken (asking.Fills word) for some point = absurd for
  asked_so told (Some w) taken (asking.Fills word) for some point = absurd for
  asked_so told None taken (asking.GivesUp word) for some point = absurd for
  asked_so told (Some w) taken (asking.GivesUp word) for some point = absurd for

  pub replied_undisturbed : (told : MachineReply V) (asked : Option ℕ) → IsTaken kinds asked told → (a : Asking) → p.stands ≡ at.Asks a → AsksFor asked (at.Asks a) → ((word : ℕ) → asked ≡ Some word → word ≢ 0)
      → Undisturbed its (known_by asked told) (value_by told) (seeks_by asked told) m (replied p told).0
  replied_undisturbed told asked taken a stands for some =
      subst (λ x. Undisturbed its (known_by asked told) (value_by told) (seeks_by asked told) m (replied_at x p told).0) (sym stands)
      (asked_so told asked taken a for some (subst (UndisturbedAt its None None true m p) stands h.point))

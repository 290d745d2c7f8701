-- A call that asks is told what to do, or is told something that it does not take: what it recalls then is what it was told.
use Rattle.std.specs.Prelude.{◌≡◌, ℕ, ◌<◌, ◌^◌, ◌==◌, Bool, true, false, List, ◌∷◌, Option, Some, None, Result, Ok, Err, if◌then◌else◌, ◌⊎◌}
use Rattle.std.proofs.Common.{refl, ap, sym, subst, inl, inr}
use Rattle.std.proofs.lemmas.Bool.{eq-eqb}
use Rattle.seize_model.specs.Given.SeizeWordsWord.{block_in}
use Rattle.seize_model.specs.Given.SeizeWordsDeclared.fault.Fault.TheVariants.{RemoveNothing}
use Rattle.seize_model.specs.Given.SeizeWordsMem.{Mem}
use Rattle.map_facts_late.specs.Given.TablesDeclared.marks.TheConstants.{TOMBSTONE}
use Rattle.map_facts_late.specs.Given.TablesDeclared.node.Node.{Node}
use Rattle.map_facts_late.specs.Given.RawCallAsks.{with_absent, with_present, absent_replied, present_replied, replied_at, replied}
use Rattle.map_facts_late.specs.Given.RawCallPoints.{going, over, ending, burying, at_gap}
use Rattle.map_facts_late.specs.Given.RawDeclared.machines.answer.End.{End}
use Rattle.map_facts_late.specs.Given.RawDeclared.machines.answer.End.TheVariants as ends
use Rattle.map_facts_late.specs.Given.RawDeclared.machines.answer.KeyAnswer.TheVariants as answers
use Rattle.map_facts_late.specs.Given.RawDeclared.machines.asking.Asking.{Asking}
use Rattle.map_facts_late.specs.Given.RawDeclared.machines.asking.Asking.TheVariants as asking
use Rattle.map_facts_late.specs.Given.RawDeclared.machines.asking.Gap.{Gap}
use Rattle.map_facts_late.specs.Given.RawDeclared.machines.asking.Gap.TheVariants as gaps
use Rattle.map_facts_late.specs.Given.RawDeclared.machines.asking.MachineReply.{MachineReply}
use Rattle.map_facts_late.specs.Given.RawDeclared.machines.asking.MachineReply.TheVariants as reply
use Rattle.map_facts_late.specs.Given.RawDeclared.machines.asking.Takes.{Takes}
use Rattle.map_facts_late.specs.Given.RawDeclared.machines.asking.Takes.TheVariants as takes
use Rattle.map_facts_late.specs.Given.RawDeclared.machines.asking.Told.TheVariants as tells
use Rattle.map_facts_late.specs.Given.RawDeclared.machines.call.KeyCall.{KeyCall}
use Rattle.map_facts_late.specs.Given.RawDeclared.machines.call.Calling.{Calling}
use Rattle.map_facts_late.specs.Given.RawDeclared.machines.call.Calling.TheVariants as at
use Rattle.map_facts_late.specs.Given.RuleChart.{Still, Chart}
use Rattle.map_facts_late.specs.Given.RuleWords.{Blocks, Represents}
use Rattle.map_facts_late.specs.Given.PointsFactsCalls.{Change, Unchanged, RepliesFit}
use Rattle.many_calls.specs.Asked.{Asked, last_reply, IsToLeave, ChangesAsReplied, IsWordOf, IsAsReplied, EndsAsReplied, RemembersReplies}
use Rattle.many_calls.proofs.Asked.By.{block_of_word}
use Rattle.many_calls.proofs.Asked.Begins.{one_value}

-- the last reply to the last question
last_is : {V : Type 0} (n : ℕ) (told : MachineReply V) (asked : List (Asked V)) → last_reply (Some n) (record { about = Some n; told = told } ∷ asked) ≡ Some told
last_is n told asked = ap (λ (b : Bool). if b then Some told else last_reply (Some n) asked) (eq-eqb n n refl)

-- the questions and replies, with this one, if it was taken
abbrev pub and_asked : {V : Type 0} → List (Asked V) → Option ℕ → MachineReply V → Result Unit (MachineReply V) → List (Asked V)
and_asked asked about told (Ok taken) = record { about = about; told = told } ∷ asked
and_asked asked about told (Err back) = asked

module _ {K V : Type 0} (hash : K → ℕ) (m : Mem (Node K V)) (c : Chart K) (blocks : Blocks) (its : Option K) (asked : List (Asked V)) where
  -- what a call asks about
  abbrev pub About : Asking → Option ℕ → Type 0
  About (asking.Present word) (Some n) = IsWordOf hash m c blocks its asked word (Some n)
  About (asking.Present word) None = ⊥
  About _ about = about ≡ None

module _ {K V Q : Type 0} (hash : K → ℕ) (fits : (k : K) → hash k < 2 ^ 64) (m : Mem (Node K V)) (c : Chart K) (blocks : Blocks) (its : Option K) (root : ℕ) (shows : Represents hash m c blocks root)
    (asked : List (Asked V)) (change : Change) (none : change ≡ Unchanged) (p : KeyCall K V Q) (fit : RepliesFit p.replies) (keeps : RemembersReplies hash m c blocks its asked change p p.stands)
    (h : IsAsReplied hash m c blocks its asked p.replies p.own) where
  -- what it keeps then, with the question and the reply, if that was taken
  abbrev Then : Option ℕ → MachineReply V → KeyCall K V Q × Result Unit (MachineReply V) → Type 0
  Then about r x = RemembersReplies hash m c blocks its (and_asked asked about r x.1) change x.0 x.0.stands

  abbrev After : Option ℕ → MachineReply V → KeyCall K V Q → Type 0
  After about r q = RemembersReplies hash m c blocks its (record { about = about; told = r } ∷ asked) change q q.stands

  -- what it was told where it is to end
  abbrev Ends : Option ℕ → MachineReply V → End → Type 0
  Ends about r = EndsAsReplied hash m c blocks its (record { about = about; told = r } ∷ asked) p.there p.missing p.replies.takes

  -- it ends, and has changed nothing
  ends_so : (about : Option ℕ) (r : MachineReply V) (end : End) → Ends about r end → After about r (ending p end).0
  ends_so about r end as_told = by (p.own == 0)
    where
      by : (b : Bool) → After about r (if b then over p end else going p (at.Drops end)).0
      by true = (subst (ChangesAsReplied hash m c blocks its (record { about = about; told = r } ∷ asked)) (sym none) tt, λ is. as_told)
      by false = as_told

  -- it was told to leave it so, as it takes replies
  leaves_as : (x : Takes) → p.replies.takes ≡ x → (about : Option ℕ) (r : MachineReply V) → IsToLeave (record { about = about; told = r } ∷ asked) x about
      → IsToLeave (record { about = about; told = r } ∷ asked) p.replies.takes about
  leaves_as x e about r leave = subst (λ (y : Takes). IsToLeave (record { about = about; told = r } ∷ asked) y about) (sym e) leave

  -- where its key is missing, it is told what to store
  module _ (v : V) where
    as_absent : IsAsReplied hash m c blocks its (record { about = None; told = reply.Insert v } ∷ asked) (with_absent p v).replies p.own
    as_absent = record {
      asks = h.asks;
      key = h.key;
      key_own = h.key_own;
      absent_first = λ e. absurd (cc e);
      absent = λ value e. ap (λ (x : V). Some (reply.Insert x)) (one_value v value e);
      absent_own = λ e. absurd (cc e);
      present = h.present;
      present_own = h.present_own;
      present_removes = h.present_removes;
    }

    stores_so : (gap : Gap) → After None (reply.Insert v) (at_gap gap (with_absent p v)).0
    stores_so gaps.NoTable = (as_absent, tt)
    stores_so gaps.Free = (as_absent, λ some. absurd (some refl))
    stores_so gaps.Past = (as_absent, tt)
    stores_so gaps.Last = (as_absent, tt)

  absent_so : (x : Takes) → p.replies.takes ≡ x → (gap : Gap) (r : MachineReply V) → Then None r (absent_replied x p gap r)
  absent_so takes.Values e gap (reply.Insert v) = stores_so v gap
  absent_so takes.Values e gap reply.Remove = keeps
  absent_so takes.Values e gap reply.Abort = keeps
  absent_so takes.Values e gap reply.Yes = keeps
  absent_so takes.Values e gap reply.No = keeps
  absent_so takes.Changes e gap (reply.Insert v) = stores_so v gap
  absent_so takes.Changes e gap reply.Remove = ends_so None reply.Remove (ends.Refused RemoveNothing) (λ is. refl)
  absent_so takes.Changes e gap reply.Abort = ends_so None reply.Abort (ends.Answered answers.Absent) (λ asks. leaves_as takes.Changes e None reply.Abort refl)
  absent_so takes.Changes e gap reply.Yes = keeps
  absent_so takes.Changes e gap reply.No = keeps
  absent_so takes.Nothing e gap r = keeps
  absent_so takes.Choices e gap r = keeps

  -- where it is there, it is told what to do with this pair
  module _ (word n : ℕ) (names : IsWordOf hash m c blocks its asked word (Some n)) where
    block : blocks.pair n ≡ block_in word
    block = sym (block_of_word hash fits m c blocks its asked root shows word n Still names.1 names.2)

    as_value : (v : V) → IsAsReplied hash m c blocks its (record { about = Some n; told = reply.Insert v } ∷ asked) (with_present p word (tells.Value v)).replies p.own
    as_value v = record {
      asks = h.asks;
      key = h.key;
      key_own = h.key_own;
      absent_first = h.absent_first;
      absent = h.absent;
      absent_own = h.absent_own;
      present = λ value e. (n, names.0, block, subst (λ (x : V). last_reply (Some n) (record { about = Some n; told = reply.Insert v } ∷ asked) ≡ Some (reply.Insert x)) (one_value v value e) (last_is n (reply.Insert v) asked));
      present_own = λ e. absurd (cc e);
      present_removes = λ e. absurd (cc e);
    }

    as_removes : IsAsReplied hash m c blocks its (record { about = Some n; told = reply.Remove } ∷ asked) (with_present p word tells.Removes).replies p.own
    as_removes = record {
      asks = h.asks;
      key = h.key;
      key_own = h.key_own;
      absent_first = h.absent_first;
      absent = h.absent;
      absent_own = h.absent_own;
      present = λ value e. absurd (cc e);
      present_own = λ e. absurd (cc e);
      present_removes = λ e. (n, names.0, block, last_is n reply.Remove asked);
    }

    -- a choice is not remembered
    as_choice : p.replies.takes ≡ takes.Choices → (r : MachineReply V) → IsAsReplied hash m c blocks its (record { about = Some n; told = r } ∷ asked) p.replies p.own
    as_choice choices r =
        let nothing = fit.choices_stay choices in
        record {
          asks = h.asks;
          key = h.key;
          key_own = h.key_own;
          absent_first = h.absent_first;
          absent = h.absent;
          absent_own = h.absent_own;
          present = λ value e. absurd (cc (nothing, e));
          present_own = λ e. absurd (cc (nothing, e));
          present_removes = λ e. absurd (cc (nothing, e));
        }

    abbrev Buries : MachineReply V → KeyCall K V Q → Type 0
    Buries r q = IsAsReplied hash m c blocks its (record { about = Some n; told = r } ∷ asked) q.replies q.own
        → (last_reply (Some n) (record { about = Some n; told = r } ∷ asked) ≡ Some reply.Remove) ⊎ (last_reply (Some n) (record { about = Some n; told = r } ∷ asked) ≡ Some reply.Yes)
        → After (Some n) r (burying q word).0

    buries_so : (r : MachineReply V) (q : KeyCall K V Q) → Buries r q
    buries_so r q recalls removes = by (q.own == 0)
      where
        by : (b : Bool) → After (Some n) r (if b then going q (at.Tries word TOMBSTONE) else going q (at.Asks (asking.GivesUp word))).0
        by true = (recalls, inr (refl, n, names, removes))
        by false = (recalls, (n, names, removes))

    present_so : (x : Takes) → p.replies.takes ≡ x → (r : MachineReply V) → Then (Some n) r (present_replied x p word r)
    present_so takes.Values e (reply.Insert v) = (as_value v, λ some. refl)
    present_so takes.Values e reply.Remove = keeps
    present_so takes.Values e reply.Abort = keeps
    present_so takes.Values e reply.Yes = keeps
    present_so takes.Values e reply.No = keeps
    present_so takes.Changes e (reply.Insert v) = (as_value v, λ some. refl)
    present_so takes.Changes e reply.Remove = buries_so reply.Remove (with_present p word tells.Removes) as_removes (inl (last_is n reply.Remove asked))
    present_so takes.Changes e reply.Abort =
        ends_so (Some n) reply.Abort (ends.Answered (answers.Found word)) (λ asks. (n, names, leaves_as takes.Changes e (Some n) reply.Abort (last_is n reply.Abort asked)))
    present_so takes.Changes e reply.Yes = keeps
    present_so takes.Changes e reply.No = keeps
    present_so takes.Choices e reply.Yes = buries_so reply.Yes p (as_choice e reply.Yes) (inr (last_is n reply.Yes asked))
    present_so takes.Choices e reply.No =
        ends_so (Some n) reply.No (ends.Answered (answers.Found word)) (λ asks. (n, names, leaves_as takes.Choices e (Some n) reply.No (last_is n reply.No asked)))
    present_so takes.Choices e (reply.Insert v) = keeps
    present_so takes.Choices e reply.Remove = keeps
    present_so takes.Choices e reply.Abort = keeps
    present_so takes.Nothing e r = keeps

  pub replied_told : (x : Asking) → p.stands ≡ at.Asks x → (about : Option ℕ) → About hash m c blocks its asked x about → (r : MachineReply V) → Then about r (replied p r)
  replied_told x here about is r = subst (λ (y : Calling). Then about r (replied_at y p r)) (sym here) (by x about is)
    where
      by : (x : Asking) (about : Option ℕ) → About hash m c blocks its asked x about → Then about r (replied_at (at.Asks x) p r)
      by (asking.Absent gap) about is = subst (λ (a : Option ℕ). Then a r (absent_replied p.replies.takes p gap r)) (sym is) (absent_so p.replies.takes refl gap r)
      by (asking.Present word) (Some n) is = present_so word n is p.replies.takes refl r
      by (asking.Present word) None is = absurd is
      by (asking.Fills word) about is = keeps
      by (asking.GivesUp word) about is = keeps

-- A call that asks is told something: the pair that it was asked about is the one that it remembers then.
use Rattle.std.specs.Prelude.{◌≡◌, ◌≢◌, ℕ, ◌/◌, ◌<◌, ◌^◌, ◌==◌, ◌⊎◌, Bool, true, false, List, ◌∷◌, Option, Some, None, Result, if◌then◌else◌}
use Rattle.std.proofs.Common.{refl, ap, sym, subst, ◌∙◌, inl, inr, eqb-true}
use Rattle.seize_model.specs.Given.SeizeWordsDeclared.fault.Fault.TheVariants.{RemoveNothing}
use Rattle.seize_model.specs.Given.SeizeWordsMem.{Mem}
use Rattle.map_facts_late.specs.Given.TablesDeclared.marks.TheConstants.{TOMBSTONE}
use Rattle.map_facts_late.specs.Given.TablesDeclared.node.Node.{Node}
use Rattle.map_facts_late.specs.Given.RawCallAsks.{with_absent, with_present, absent_replied, present_replied, replied_at, replied}
use Rattle.map_facts_late.specs.Given.RawCallPoints.{going, over, ending, burying, at_gap}
use Rattle.map_facts_late.specs.Given.RawDeclared.machines.answer.End.{End}
use Rattle.map_facts_late.specs.Given.RawDeclared.machines.answer.End.TheVariants as ends
use Rattle.map_facts_late.specs.Given.RawDeclared.machines.answer.KeyAnswer.TheVariants as answers
use Rattle.map_facts_late.specs.Given.RawDeclared.machines.asking.Asking.{Asking}
use Rattle.map_facts_late.specs.Given.RawDeclared.machines.asking.Asking.TheVariants as asking
use Rattle.map_facts_late.specs.Given.RawDeclared.machines.asking.Gap.{Gap}
use Rattle.map_facts_late.specs.Given.RawDeclared.machines.asking.Gap.TheVariants as gaps
use Rattle.map_facts_late.specs.Given.RawDeclared.machines.asking.Replies.{Replies}
use Rattle.map_facts_late.specs.Given.RawDeclared.machines.asking.MachineReply.{MachineReply}
use Rattle.map_facts_late.specs.Given.RawDeclared.machines.asking.MachineReply.TheVariants as reply
use Rattle.map_facts_late.specs.Given.RawDeclared.machines.asking.Takes.{Takes}
use Rattle.map_facts_late.specs.Given.RawDeclared.machines.asking.Takes.TheVariants as takes
use Rattle.map_facts_late.specs.Given.RawDeclared.machines.asking.Told.{Told}
use Rattle.map_facts_late.specs.Given.RawDeclared.machines.asking.Told.TheVariants as tells
use Rattle.map_facts_late.specs.Given.RawDeclared.machines.call.KeyCall.{KeyCall}
use Rattle.map_facts_late.specs.Given.RawDeclared.machines.call.Calling.{Calling}
use Rattle.map_facts_late.specs.Given.RawDeclared.machines.call.Calling.TheVariants as at
use Rattle.map_facts_late.specs.Given.RuleChart.{Still, Chart}
use Rattle.map_facts_late.specs.Given.RuleWords.{Blocks, Represents}
use Rattle.many_calls.specs.Asked.{Asked, last_reply, IsWordOf}
use Rattle.many_calls.specs.AskedOnce.{WasAsked, HasGone, IsOfKeys, IsRecalled, AskedAt}
use Rattle.many_calls.proofs.Asked.By.{block_of_word, one_pair}
use Rattle.many_calls.proofs.Asked.Replies.{and_asked, About}

module _ {K V Q : Type 0} (hash : K → ℕ) (fits : (k : K) → hash k < 2 ^ 64) (m : Mem (Node K V)) (c : Chart K) (blocks : Blocks) (keys : K → Bool) (root : ℕ) (shows : Represents hash m c blocks root)
    (asked : List (Asked V)) (p : KeyCall K V Q) (before : AskedAt hash c blocks keys asked p.replies p.stands) where
  -- what it knows of the pairs that it was asked about, with the question and the reply, if that was taken
  abbrev Then : Option ℕ → MachineReply V → KeyCall K V Q × Result Unit (MachineReply V) → Type 0
  Then about r x = AskedAt hash c blocks keys (and_asked asked about r x.1) x.0.replies x.0.stands

  abbrev After : Option ℕ → MachineReply V → KeyCall K V Q → Type 0
  After about r q = AskedAt hash c blocks keys (record { about = about; told = r } ∷ asked) q.replies q.stands

  abbrev At : Calling → Type 0
  At = AskedAt hash c blocks keys asked p.replies

  -- it ends
  ends_so : (about : Option ℕ) (r : MachineReply V) (end : End) → After about r (ending p end).0
  ends_so about r end = by (p.own == 0)
    where
      by : (b : Bool) → After about r (if b then over p end else going p (at.Drops end)).0
      by true = tt
      by false = tt

  -- where its key is missing
  module _ (gap : Gap) (h : At (at.Asks (asking.Absent gap))) where
    stores_so : (v : V) (x : Gap) → After None (reply.Insert v) (at_gap x (with_absent p v)).0
    stores_so v gaps.NoTable = h
    stores_so v gaps.Free = h
    stores_so v gaps.Past = h
    stores_so v gaps.Last = h

    absent_so : (x : Takes) (r : MachineReply V) → Then None r (absent_replied x p gap r)
    absent_so takes.Values (reply.Insert v) = stores_so v gap
    absent_so takes.Values reply.Remove = before
    absent_so takes.Values reply.Abort = before
    absent_so takes.Values reply.Yes = before
    absent_so takes.Values reply.No = before
    absent_so takes.Changes (reply.Insert v) = stores_so v gap
    absent_so takes.Changes reply.Remove = ends_so None reply.Remove (ends.Refused RemoveNothing)
    absent_so takes.Changes reply.Abort = ends_so None reply.Abort (ends.Answered answers.Absent)
    absent_so takes.Changes reply.Yes = before
    absent_so takes.Changes reply.No = before
    absent_so takes.Nothing r = before
    absent_so takes.Choices r = before

  -- where it is there
  module _ (word n : ℕ) (names : IsWordOf hash m c blocks None asked word (Some n)) (h : At (at.Asks (asking.Present word))) where
    block : word / 2048 ≡ blocks.pair n
    block = block_of_word hash fits m c blocks None asked root shows word n Still names.1 names.2

    of_keys : IsOfKeys hash c blocks keys asked n
    of_keys =
        let its = h.1 in
        let is = one_pair hash fits m c blocks None asked root shows word its.0 n (its.1.0, its.1.1) names.0 (block_of_word hash fits m c blocks None asked root shows word its.0 Still its.2 its.3) block in
        subst (IsOfKeys hash c blocks keys asked) is its.1

    abbrev AllOr : MachineReply V → Replies K V → Type 0
    AllOr r replies =
        (o : ℕ) → WasAsked hash c blocks keys (record { about = Some n; told = r } ∷ asked) o
        → HasGone hash c blocks keys asked o ⊎ IsRecalled hash c blocks keys asked replies o

    -- it remembers this one, and the others have left
    recalls_so : (r : MachineReply V) (told : Told V) → told ≢ tells.Nothing → AllOr r (with_present p word told).replies
    recalls_so r told some o = by (n == o) (eqb-true n o)
      where
        by : (b : Bool) → (b ≡ true → n ≡ o) → ((if b then Some r else last_reply (Some o) asked) ≢ None) → HasGone hash c blocks keys asked o ⊎ IsRecalled hash c blocks keys asked (with_present p word told).replies o
        by true one was = inr (subst (IsOfKeys hash c blocks keys asked) (one refl) of_keys, sym (block ∙ ap blocks.pair (one refl)), some)
        by false one was = inl (h.2 o was)

    buries_so : (r : MachineReply V) (q : KeyCall K V Q) → q.replies.takes ≢ takes.Choices → AllOr r q.replies → After (Some n) r (burying q word).0
    buries_so r q more all = by (q.own == 0)
      where
        by : (b : Bool) → After (Some n) r (if b then going q (at.Tries word TOMBSTONE) else going q (at.Asks (asking.GivesUp word))).0
        by true = (more, all)
        by false = (more, all)

    present_so : (x : Takes) → p.replies.takes ≡ x → (r : MachineReply V) → Then (Some n) r (present_replied x p word r)
    present_so takes.Values e (reply.Insert v) = (h.0, recalls_so (reply.Insert v) (tells.Value v) (λ z. cc z))
    present_so takes.Values e reply.Remove = before
    present_so takes.Values e reply.Abort = before
    present_so takes.Values e reply.Yes = before
    present_so takes.Values e reply.No = before
    present_so takes.Changes e (reply.Insert v) = (h.0, recalls_so (reply.Insert v) (tells.Value v) (λ z. cc z))
    present_so takes.Changes e reply.Remove = buries_so reply.Remove (with_present p word tells.Removes) h.0 (recalls_so reply.Remove tells.Removes (λ z. cc z))
    present_so takes.Changes e reply.Abort = ends_so (Some n) reply.Abort (ends.Answered (answers.Found word))
    present_so takes.Changes e reply.Yes = before
    present_so takes.Changes e reply.No = before
    present_so takes.Choices e r = absurd (h.0 e)
    present_so takes.Nothing e r = before

  pub replied_once : (x : Asking) → p.stands ≡ at.Asks x → (about : Option ℕ) → About hash m c blocks None asked x about → (r : MachineReply V) → Then about r (replied p r)
  replied_once x here about is r = subst (λ (y : Calling). Then about r (replied_at y p r)) (sym here) (by x about is (subst At here before))
    where
      by : (x : Asking) (about : Option ℕ) → About hash m c blocks None asked x about → At (at.Asks x) → Then about r (replied_at (at.Asks x) p r)
      by (asking.Absent gap) about is h = subst (λ (a : Option ℕ). Then a r (absent_replied p.replies.takes p gap r)) (sym is) (absent_so gap h p.replies.takes r)
      by (asking.Present word) (Some n) is h = present_so word n is h p.replies.takes refl r
      by (asking.Present word) None is h = absurd is
      by (asking.Fills word) about is h = before
      by (asking.GivesUp word) about is h = before

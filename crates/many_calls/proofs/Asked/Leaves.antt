-- What a call that asks leaves as it is it was told to leave so: as its kind asks, and of the very pair that it has found.
use Rattle.std.specs.Prelude.{◌≡◌, ℕ, ◌<◌, ◌^◌, Bool, List, Option, Some, None, Result, Ok, Err}
use Rattle.std.proofs.Common.{refl, sym, subst}
use Rattle.seize_model.specs.Given.SeizeWordsMem.{Mem}
use Rattle.map_facts_late.specs.Given.TablesDeclared.node.Node.{Node}
use Rattle.map_facts_late.specs.Given.RawCallAsks.{replied_at}
use Rattle.map_facts_late.specs.Given.RawDeclared.machines.answer.End.TheVariants as ends
use Rattle.map_facts_late.specs.Given.RawDeclared.machines.answer.KeyAnswer.{KeyAnswer}
use Rattle.map_facts_late.specs.Given.RawDeclared.machines.answer.KeyAnswer.TheVariants as answers
use Rattle.map_facts_late.specs.Given.RawDeclared.machines.answer.Missing.{Missing}
use Rattle.map_facts_late.specs.Given.RawDeclared.machines.answer.Missing.TheVariants as missing
use Rattle.map_facts_late.specs.Given.RawDeclared.machines.answer.There.{There}
use Rattle.map_facts_late.specs.Given.RawDeclared.machines.answer.There.TheVariants as there
use Rattle.map_facts_late.specs.Given.RawDeclared.machines.asking.Asking.{Asking}
use Rattle.map_facts_late.specs.Given.RawDeclared.machines.asking.Asking.TheVariants as asking
use Rattle.map_facts_late.specs.Given.RawDeclared.machines.asking.Gap.{Gap}
use Rattle.map_facts_late.specs.Given.RawDeclared.machines.asking.MachineReply.{MachineReply}
use Rattle.map_facts_late.specs.Given.RawDeclared.machines.asking.MachineReply.TheVariants as reply
use Rattle.map_facts_late.specs.Given.RawDeclared.machines.call.KeyCall.{KeyCall}
use Rattle.map_facts_late.specs.Given.RawDeclared.machines.call.Calling.TheVariants as at
use Rattle.map_facts_late.specs.Given.RuleChart.{Phase, Still, Holds, Chart}
use Rattle.map_facts_late.specs.Given.RuleWords.{Blocks, Represents, place_word}
use Rattle.map_facts_late.proofs.Given.PointsValues.Sought.{IsLook}
use Rattle.map_facts_late.specs.Kinds.{FitsAsking}
use Rattle.many_calls.specs.Asked.{Asked, last_reply, IsToLeave, LeavesPair, LeavesNone, RepliesWithin, IsThere, AnswersAsReplied, IsWordOf, EndsAsReplied}
use Rattle.many_calls.specs.Kind.{Kind}
use Rattle.many_calls.proofs.Asked.By.{block_of_word, one_pair}
use Rattle.many_calls.proofs.Asked.Replies.{and_asked, About}

-- an answer without a change
module _ {K V : Type 0} (hash : K → ℕ) (fits : (k : K) → hash k < 2 ^ 64) (m : Mem (Node K V)) (c : Chart K) (blocks : Blocks) (its : Option K)
    (root : ℕ) (shows : Represents hash m c blocks root)
    (asked : List (Asked V)) (kind : Kind) (within : RepliesWithin asked kind) where
  -- the pair that it was told to leave is the one that it has found
  found_told : (word : ℕ) → (kind.present ≡ there.Asks → (o : ℕ) × IsWordOf hash m c blocks its asked word (Some o) × IsToLeave asked kind.takes (Some o))
      → (n : ℕ) → IsThere hash m c blocks its asked n → (phase : Phase) (borrowed : Bool) → word ≡ place_word hash c blocks (Holds n phase borrowed)
      → (x : There) → (kind.present ≡ x) → LeavesPair asked x kind.takes n
  found_told word told n known phase borrowed is there.Asks e =
      let d = told e in
      let block = block_of_word hash fits m c blocks its asked root shows word d.0 Still d.1.1 d.1.2 in
      let block2 = block_of_word hash fits m c blocks its asked root shows word n phase borrowed is in
      subst (λ (y : ℕ). IsToLeave asked kind.takes (Some y)) (one_pair hash fits m c blocks its asked root shows word d.0 n d.1.0 known block block2) d.2
  found_told word told n known phase borrowed is there.Answers e = within.0 (λ asks. cc (asks, e)) n
  found_told word told n known phase borrowed is there.Puts e = within.0 (λ asks. cc (asks, e)) n
  found_told word told n known phase borrowed is there.Removes e = within.0 (λ asks. cc (asks, e)) n

  missed_told : (kind.absent ≡ missing.Asks → IsToLeave asked kind.takes None) → (x : Missing) → (kind.absent ≡ x) → LeavesNone asked x kind.takes
  missed_told told missing.Asks e = told e
  missed_told told missing.Answers e = within.1 (λ asks. cc (asks, e))
  missed_told told missing.Puts e = within.1 (λ asks. cc (asks, e))

  pub answers_as_told : (answer : KeyAnswer) → IsLook answer → EndsAsReplied hash m c blocks its asked kind.present kind.absent kind.takes (ends.Answered answer)
      → AnswersAsReplied hash m c blocks its asked kind answer
  answers_as_told (answers.Found word) look told = λ n known phase borrowed is. found_told word told n known phase borrowed is kind.present refl
  answers_as_told answers.Absent look told = missed_told told kind.absent refl
  answers_as_told (answers.Stored word) look told = absurd look
  answers_as_told (answers.Replaced old new) look told = absurd look
  answers_as_told (answers.Removed word) look told = absurd look

-- a question and its reply, if that is taken
module _ {V : Type 0} (asked : List (Asked V)) (r : MachineReply V) where
  -- of a pair
  module _ (n : ℕ) where
    none_still : (taken : Result Unit (MachineReply V)) (X : Option (MachineReply V) → Type 0) → X (last_reply None asked)
        → X (last_reply None (and_asked asked (Some n) r taken))
    none_still (Ok u) X h = h
    none_still (Err back) X h = h

    none_back : (taken : Result Unit (MachineReply V)) (X : Option (MachineReply V) → Type 0) → X (last_reply None (and_asked asked (Some n) r taken))
        → X (last_reply None asked)
    none_back (Ok u) X h = h
    none_back (Err back) X h = h

  -- of none
  pairs_still : (taken : Result Unit (MachineReply V)) (n : ℕ) → last_reply (Some n) asked ≡ None → last_reply (Some n) (and_asked asked None r taken) ≡ None
  pairs_still (Ok u) n h = h
  pairs_still (Err back) n h = h

  module _ {K Q : Type 0} (hash : K → ℕ) (m : Mem (Node K V)) (c : Chart K) (blocks : Blocks) (p : KeyCall K V Q) where
    -- it is about what a call of this kind asks about
    pub within_then : (kind : Kind) → RepliesWithin asked kind → (x : Asking) → FitsAsking kind.present kind.absent kind.takes x → (about : Option ℕ)
        → About hash m c blocks None asked x about
        → RepliesWithin (and_asked asked about r (replied_at (at.Asks x) p r).1) kind
    within_then kind h (asking.Absent gap) fits about is =
        subst (λ (a : Option ℕ). RepliesWithin (and_asked asked a r (replied_at (at.Asks (asking.Absent gap)) p r).1) kind) (sym is)
        ((λ other n. pairs_still (replied_at (at.Asks (asking.Absent gap)) p r).1 n (h.0 other n)), (λ other. absurd (other fits)))
    within_then kind h (asking.Present word) fits (Some n) is =
        ((λ other o. absurd (other fits.0)), (λ other. none_still n (replied_at (at.Asks (asking.Present word)) p r).1 (λ x. x ≡ None) (h.1 other)))
    within_then kind h (asking.Present word) fits None is = absurd is
    within_then kind h (asking.Fills word) fits about is = h
    within_then kind h (asking.GivesUp word) fits about is = h

    -- where it was told last to remove what is not there, it was so before, or it asked about none
    pub removes_then : (So : Type 0) → (last_reply None asked ≡ Some reply.Remove → So) → (x : Asking) → ((gap : Gap) → x ≡ asking.Absent gap → So)
        → (about : Option ℕ) → About hash m c blocks None asked x about
        → last_reply None (and_asked asked about r (replied_at (at.Asks x) p r).1) ≡ Some reply.Remove → So
    removes_then So before (asking.Absent gap) missed about is told = missed gap refl
    removes_then So before (asking.Present word) missed (Some n) is told =
        before (none_back n (replied_at (at.Asks (asking.Present word)) p r).1 (λ x. x ≡ Some reply.Remove) told)
    removes_then So before (asking.Present word) missed None is told = absurd is
    removes_then So before (asking.Fills word) missed about is told = before told
    removes_then So before (asking.GivesUp word) missed about is told = before told

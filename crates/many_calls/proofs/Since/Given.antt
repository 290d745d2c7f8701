-- What has become of the pair that a call was begun with, if with one, or of what it was told: from state to state, as in the files beside.
use Rattle.std.proofs.Common.{◌≡◌, ℕ, ◌<◌, ◌^◌, subst, inl, inr}
use Rattle.seize_model.specs.Given.SeizeWordsDeclared.fault.Fault.{Fault}
use Rattle.seize_model.specs.Given.SeizeWordsDeclared.fault.Fault.TheVariants.{RemoveNothing}
use Rattle.seize_model.specs.Given.SeizeWordsMem.{Mem}
use Rattle.map_facts_late.specs.Given.TablesDeclared.node.Node.{Node}
use Rattle.map_facts_late.specs.Given.ResizeDeclared.dispose.Dispose.{Dispose}
use Rattle.map_facts_late.specs.Given.RawDeclared.machines.answer.KeyAnswer.{KeyAnswer}
use Rattle.map_facts_late.specs.Given.RawDeclared.machines.answer.End.{End}
use Rattle.map_facts_late.specs.Given.RawDeclared.machines.answer.End.TheVariants as ends
use Rattle.map_facts_late.specs.Given.RawDeclared.machines.answer.Missing.{Missing}
use Rattle.map_facts_late.specs.Given.RawDeclared.machines.answer.There.{There}
use Rattle.map_facts_late.specs.Given.RawDeclared.machines.answer.Called.{Called}
use Rattle.map_facts_late.specs.Given.RawDeclared.machines.answer.Called.TheVariants as called
use Rattle.map_facts_late.specs.Given.RawDeclared.machines.asking.Takes.{Takes}
use Rattle.map_facts_late.specs.Given.RawDeclared.machines.asking.Takes.TheVariants as takes
use Rattle.map_facts_late.specs.Given.RawDeclared.machines.call.KeyCall.{KeyCall}
use Rattle.map_facts_late.specs.Given.RawDeclared.machines.call.Calling.{Calling}
use Rattle.map_facts_late.specs.Given.RawDeclared.machines.call.Calling.TheVariants as at
use Rattle.map_facts_late.specs.Given.RuleChart.{Chart}
use Rattle.map_facts_late.specs.Given.RuleWords.{Blocks, Represents}
use Rattle.map_facts_late.specs.Given.PointsFactsCalls.{Change, Unchanged}
use Rattle.map_facts_late.proofs.Given.PointsValues.Sought.{IsLook}
use Rattle.map_facts_late.specs.Kinds.{Fits, FaultFits, IsFit, StepFits}
use Rattle.many_calls.specs.Asked.{Asked, RepliesWithin, OverAsReplied, RemembersReplies}
use Rattle.many_calls.specs.AskedOnce.{AsksOnce}
use Rattle.many_calls.specs.Kind.{Kind}
use Rattle.many_calls.specs.Pairs.{Given, Begun, IsTold, kind_of, HandsBack, RemovesNone, IsOfKind, StoresIt, KeepsIt, StoresGiven, LeavesGiven, KeepsGiven}
use Rattle.many_calls.proofs.Asked.Leaves.{answers_as_told}
use Rattle.many_calls.proofs.Asked.On.{none_to_remove}
use Rattle.many_calls.proofs.Asked.Stays.{ToldTo}
use Rattle.many_calls.proofs.Once.Stays.{OnceTo}
use Rattle.many_calls.proofs.Since.Pairs.{KeepsTo}
use Rattle.std.specs.Prelude.{Bool, Option, List}

-- a call that never asks is not refused to remove what is not there
never_removes : {K V Q : Type 0} (kind : Kind) (q : KeyCall K V Q) (fault : Fault) → q.replies.takes ≡ takes.Nothing → IsFit kind.present kind.absent kind.takes q
    → FaultFits kind.present kind.absent kind.takes fault → fault ≡ RemoveNothing → ⊥
never_removes kind q fault never fit (inl room) removes = none_to_remove fault room.1 removes
never_removes kind q fault never fit (inr changes) removes = let is = fit.2.takes_is in let more = changes.0 in cc (is, more, never)

module _ {K V : Type 0} (hash : K → ℕ) where
  -- what it answers by
  abbrev pub AnswersGiven : Mem (Node K V) → Chart K → Blocks → Given K V → Change → KeyAnswer → Type 0
  AnswersGiven m c blocks (Begun kind pair) change answer = StoresIt m c blocks pair change
  AnswersGiven m c blocks (IsTold kind its asked) change answer = OverAsReplied hash m c blocks its asked change kind.present kind.absent kind.takes (ends.Answered answer) × RepliesWithin asked kind

  pub answers_stored : (m : Mem (Node K V)) (c : Chart K) (blocks : Blocks) (given : Given K V) (change : Change) (answer : KeyAnswer) → AnswersGiven m c blocks given change answer → StoresGiven hash m c blocks given change
  answers_stored m c blocks (Begun kind pair) change answer h = h
  answers_stored m c blocks (IsTold kind its asked) change answer h = h.0.0

  pub answers_left : (fits : (k : K) → hash k < 2 ^ 64) (m : Mem (Node K V)) (c : Chart K) (blocks : Blocks) (root : ℕ) (shows : Represents hash m c blocks root) (given : Given K V) (change : Change) → change ≡ Unchanged
      → (answer : KeyAnswer) → IsLook answer → AnswersGiven m c blocks given change answer → LeavesGiven hash m c blocks given answer
  answers_left fits m c blocks root shows (Begun kind pair) change none answer look h = tt
  answers_left fits m c blocks root shows (IsTold kind its asked) change none answer look h =
      answers_as_told hash fits m c blocks its root shows asked kind h.1 answer look (h.0.1 none)

module _ {K V Q : Type 0} (hash : K → ℕ) (keys : K → Bool) where
  -- it is of its kind
  pub fit_of : (m : Mem (Node K V)) (c : Chart K) (blocks : Blocks) (given : Given K V) (change : Change) (p : KeyCall K V Q) (stands : Calling)
      → KeepsGiven hash m c blocks keys given change p stands → IsOfKind (kind_of given) p stands
  fit_of m c blocks (Begun kind pair) change p stands h = h.2
  fit_of m c blocks (IsTold kind its asked) change p stands h = h.2

  -- where a call with the same replies keeps what the other one kept
  pub given_as : (m m2 : Mem (Node K V)) (c c2 : Chart K) (blocks blocks2 : Blocks) (given : Given K V) (change change2 : Change) (p q : KeyCall K V Q) (stands stands2 : Calling)
      → (p.replies.takes ≡ takes.Nothing → q.replies.takes ≡ takes.Nothing)
      → ((pair : Option (Node K V)) → p.replies.takes ≡ takes.Nothing → KeepsIt m c blocks pair change p stands → KeepsIt m2 c2 blocks2 pair change2 q stands2)
      → ((its : Option K) (asked : List (Asked V)) → RemembersReplies hash m c blocks its asked change p stands × AsksOnce hash c blocks keys asked its p.replies stands
      → RemembersReplies hash m2 c2 blocks2 its asked change2 q stands2 × AsksOnce hash c2 blocks2 keys asked its q.replies stands2)
      → ((kind : Kind) → IsOfKind kind p stands → IsOfKind kind q stands2)
      → KeepsGiven hash m c blocks keys given change p stands → KeepsGiven hash m2 c2 blocks2 keys given change2 q stands2
  given_as m m2 c c2 blocks blocks2 (Begun kind pair) change change2 p q stands stands2 never keeps tells fits h = (never h.0, keeps pair h.0 h.1, fits kind h.2)
  given_as m m2 c c2 blocks blocks2 (IsTold kind its asked) change change2 p q stands stands2 never keeps tells fits h = let t = tells its asked (h.0, h.1) in (t.0, t.1, fits kind h.2, h.3)

  -- once it has made its change, it has stored it, or was told to make it
  pub given_stored : (m : Mem (Node K V)) (c : Chart K) (blocks : Blocks) (given : Given K V) (change : Change) (p : KeyCall K V Q) (d : Dispose) (answer : KeyAnswer)
      → KeepsGiven hash m c blocks keys given change p (at.Disposes d answer) → StoresGiven hash m c blocks given change
  given_stored m c blocks (Begun kind pair) change p d answer h = h.1
  given_stored m c blocks (IsTold kind its asked) change p d answer h = h.0

  -- where a step leads
  abbrev pub GivenTo : Mem (Node K V) → Chart K → Blocks → Given K V → Change → KeyCall K V Q → Called (Node K V) → Type 0
  GivenTo m c blocks given change p (called.Done answer) = Fits (kind_of given).present (kind_of given).absent (kind_of given).takes answer × AnswersGiven hash m c blocks given change answer
  GivenTo m c blocks given change p (called.Refused fault) =
      FaultFits (kind_of given).present (kind_of given).absent (kind_of given).takes fault × (fault ≡ RemoveNothing → RemovesNone given)
  GivenTo m c blocks given change p (called.Gave value) = Unit {0}
  GivenTo m c blocks given change p (called.Unstored value) = KeepsGiven hash m c blocks keys given change p p.stands × HandsBack given value
  GivenTo m c blocks given change p _ = KeepsGiven hash m c blocks keys given change p p.stands

  -- by its kind
  over_of : (m : Mem (Node K V)) (c : Chart K) (blocks : Blocks) (its : Option K) (asked : List (Asked V)) (change : Change) (kind : Kind) (q : KeyCall K V Q) (end : End)
      → IsFit kind.present kind.absent kind.takes q → OverAsReplied hash m c blocks its asked change q.there q.missing q.replies.takes end
      → OverAsReplied hash m c blocks its asked change kind.present kind.absent kind.takes end
  over_of m c blocks its asked change kind q end fit h =
      subst (λ (x : There). OverAsReplied hash m c blocks its asked change x kind.absent kind.takes end) fit.0
      (subst (λ (x : Missing). OverAsReplied hash m c blocks its asked change q.there x kind.takes end) fit.1
      (subst (λ (x : Takes). OverAsReplied hash m c blocks its asked change q.there q.missing x end) fit.2.takes_is h))

  pub given_to : (m m2 : Mem (Node K V)) (c c2 : Chart K) (blocks blocks2 : Blocks) (given : Given K V) (change change2 : Change) (p q : KeyCall K V Q) (progress : Called (Node K V))
      → (p.replies.takes ≡ takes.Nothing → q.replies.takes ≡ takes.Nothing)
      → ((pair : Option (Node K V)) → p.replies.takes ≡ takes.Nothing → KeepsIt m c blocks pair change p p.stands → KeepsTo m2 c2 blocks2 pair change2 q progress)
      → ((its : Option K) (asked : List (Asked V)) → RemembersReplies hash m c blocks its asked change p p.stands × AsksOnce hash c blocks keys asked its p.replies p.stands
      → ToldTo hash m2 c2 blocks2 its asked change2 q progress × OnceTo hash c2 blocks2 keys asked its q progress)
      → ((kind : Kind) → IsOfKind kind p p.stands → StepFits kind.present kind.absent kind.takes (q, progress))
      → KeepsGiven hash m c blocks keys given change p p.stands → GivenTo m2 c2 blocks2 given change2 q progress
  given_to m m2 c c2 blocks blocks2 (Begun kind pair) change change2 p q progress never keeps tells fits h = by progress (keeps pair h.0 h.1) (fits kind h.2)
    where
      by : (x : Called (Node K V)) → KeepsTo m2 c2 blocks2 pair change2 q x → StepFits kind.present kind.absent kind.takes (q, x) → GivenTo m2 c2 blocks2 (Begun kind pair) change2 q x
      by called.Goes k fit = (never h.0, k, fit.0)
      by called.Waits k fit = (never h.0, k, fit.0)
      by (called.Gave value) k fit = tt
      by (called.Unstored value) k fit = ((never h.0, k.0, fit.0), k.1)
      by (called.Asks asked) k fit = (never h.0, k, fit.0)
      by (called.Done answer) k fit = (fit.1, k)
      by (called.Refused fault) k fit = (fit.1, never_removes kind q fault (never h.0) fit.0 fit.1)
  given_to m m2 c c2 blocks blocks2 (IsTold kind its asked) change change2 p q progress never keeps tells fits h = by progress (tells its asked (h.0, h.1)) (fits kind h.2)
    where
      by : (x : Called (Node K V)) → ToldTo hash m2 c2 blocks2 its asked change2 q x × OnceTo hash c2 blocks2 keys asked its q x → StepFits kind.present kind.absent kind.takes (q, x)
          → GivenTo m2 c2 blocks2 (IsTold kind its asked) change2 q x
      by called.Goes k fit = (k.0, k.1, fit.0, h.3)
      by called.Waits k fit = (k.0, k.1, fit.0, h.3)
      by (called.Gave value) k fit = tt
      by (called.Unstored value) k fit = ((k.0, k.1, fit.0, h.3), tt)
      by (called.Asks pair) k fit = (k.0, k.1, fit.0, h.3)
      by (called.Done answer) k fit = (fit.1, (over_of m2 c2 blocks2 its asked change2 kind q (ends.Answered answer) fit.0 k.0, h.3))
      by (called.Refused fault) k fit = (fit.1, k.0)

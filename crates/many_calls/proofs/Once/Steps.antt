-- A step of a call that asks, in its own table: it asks about no pair twice.
use Rattle.std.specs.Prelude.{◌≡◌, ◌≢◌, ℕ, ◌/◌, ◌<◌, ◌^◌, ◌==◌, Bool, true, false, List, Option, Some, None, if◌then◌else◌}
use Rattle.std.proofs.Common.{refl, sym, subst, ◌∙◌, inl, inr}
use Rattle.seize_model.specs.Given.SeizeWordsMem.{Can, Took, value_at}
use Rattle.seize_model.specs.Given.SeizeWordsPlan.{May, Steps}
use Rattle.seize_model.proofs.Given.SeizeWordsOneOwner.Operations.{taken}
use Rattle.seize_model.specs.Given.SeizeWorld.{World}
use Rattle.map_facts_late.specs.Given.TablesDeclared.marks.TheConstants.{TOMBSTONE}
use Rattle.map_facts_late.specs.Given.TablesDeclared.node.Node.{Node}
use Rattle.map_facts_late.specs.Given.TablesDeclared.setting.Setting.{Setting}
use Rattle.map_facts_late.specs.Given.ResizeDispose.{disposing}
use Rattle.map_facts_late.specs.Given.RawAnswers.{ended}
use Rattle.map_facts_late.specs.Given.RawCall.{dropped, call_plan, plan_at}
use Rattle.map_facts_late.specs.Given.RawCallPoints.{standing, going, changed}
use Rattle.map_facts_late.specs.Given.RawDeclared.machines.answer.Called.{Called}
use Rattle.map_facts_late.specs.Given.RawDeclared.machines.answer.Called.TheVariants as called
use Rattle.map_facts_late.specs.Given.RawDeclared.machines.answer.End.{End}
use Rattle.map_facts_late.specs.Given.RawDeclared.machines.answer.End.TheVariants as ends
use Rattle.map_facts_late.specs.Given.RawDeclared.machines.answer.KeyAnswer.TheVariants as answers
use Rattle.map_facts_late.specs.Given.RawDeclared.machines.asking.Asking.TheVariants as asking
use Rattle.map_facts_late.specs.Given.RawDeclared.machines.asking.Replies.{Replies}
use Rattle.map_facts_late.specs.Given.RawDeclared.machines.asking.Takes.TheVariants as takes
use Rattle.map_facts_late.specs.Given.RawDeclared.machines.call.KeyCall.{KeyCall}
use Rattle.map_facts_late.specs.Given.RawDeclared.machines.call.Calling.{Calling}
use Rattle.map_facts_late.specs.Given.RawDeclared.machines.call.Calling.TheVariants as at
use Rattle.map_facts_late.specs.Given.RuleChart.{Chart}
use Rattle.map_facts_late.specs.Given.RuleRule.{IsLawful}
use Rattle.map_facts_late.specs.Given.RuleWords.{Blocks}
use Rattle.map_facts_late.specs.Given.RuleMaps.{spot_of}
use Rattle.map_facts_late.specs.Given.RuleInWorld.{IsMapIn}
use Rattle.map_facts_late.specs.Given.PointsFactsCalls.{Change, Unchanged, Stored, Replaced, Removed, Seeks, AnswersChange, CallingFacts, CallFacts}
use Rattle.map_facts_late.specs.Given.PointsTold.{HasAnswered, IsRowOfCall, CallFactsAfter, CallOutcome}
use Rattle.many_calls.specs.Asked.{Asked, IsAsReplied, DoesAsReplied, RemembersReplies}
use Rattle.many_calls.specs.AskedOnce.{AskedAt}
use Rattle.many_calls.proofs.Asked.Stays.{Stays}
use Rattle.many_calls.proofs.Asked.Goes.{GoesBy, DoesBy}
use Rattle.many_calls.proofs.Asked.Walks.{RoomsAt, IsSeeking, Read, Walked, walked}
use Rattle.many_calls.proofs.Asked.By.{named_or}
use Rattle.many_calls.proofs.Asked.Fills.{fills_told, gives_up_told}
use Rattle.many_calls.proofs.Asked.Steps.{looks_alone}
use Rattle.many_calls.proofs.Once.Stays.{OnceTo, AllGoneOr, same_recall, all_on, asked_as, asked_on}
use Rattle.many_calls.proofs.Once.News.{asks_new}

-- it has changed the map then
module _ {K V Q : Type 0} (hash : K → ℕ) (c : Chart K) (blocks : Blocks) (keys : K → Bool) (asked : List (Asked V)) (key : K) (p : KeyCall K V Q) (word new : ℕ) where
  pub changed_once : OnceTo hash c blocks keys asked (Some key) (changed p word new).0 (changed p word new).1
  changed_once = by (new == TOMBSTONE) (word == 0)
    where
      Then : KeyCall K V Q × Called (Node K V) → Type 0
      Then e = OnceTo hash c blocks keys asked (Some key) e.0 e.1

      by : (a b : Bool) → Then (if a then going p (at.Counts word) else (if b then going p (at.Counts 0) else going p (at.Disposes (disposing p.setting word p.trial.table) (answers.Replaced word p.own))))
      by true b = tt
      by false true = tt
      by false false = tt

module _ {K V Q : Type 0} (same : K → K → Bool) (hash : K → ℕ) (setting : Setting) (caller : ℕ) (asks : Q → K → Bool) (w w2 : World (Node K V)) (c c2 : Chart K) (blocks blocks2 : Blocks)
    (map : IsMapIn same hash setting w c blocks) (map2 : IsMapIn same hash setting w2 c2 blocks2) (stays : Stays w.memory w2.memory c c2 blocks blocks2)
    (gone : (n : ℕ) → n < c.stored → c.current n ≡ false → c2.current n ≡ false) (lawful : IsLawful same (spot_of hash))
    (fits : (k : K) → hash k < 2 ^ 64) (keys : K → Bool) (its : Option K) (asked : List (Asked V)) (key : K) (change : Change) (p p2 : KeyCall K V Q) (progress : Called (Node K V))
    (told : CallOutcome same hash asks caller setting keys c change p w2 c2 blocks2 p2 progress) (facts : CallFacts same hash asks w caller setting c blocks keys change p) (row : IsRowOfCall p.stands → ⊥)
    (may : May Can Took value_at w.memory (call_plan asks same hash p)) (steps : Steps Took value_at w.memory (call_plan asks same hash p) w2.memory (p2, progress)) (rooms : RoomsAt p.stands) where
  abbrev To : KeyCall K V Q → Called (Node K V) → Type 0
  To = OnceTo hash c2 blocks2 keys asked (Some key)

  abbrev After : KeyCall K V Q → Called (Node K V) → Type 0
  After = CallFactsAfter same hash asks caller setting keys w2 c2 blocks2 told.change2

  abbrev Keeps : Calling → Type 0
  Keeps = RemembersReplies hash w.memory c blocks its asked change p

  abbrev At : Calling → Type 0
  At = AskedAt hash c blocks keys asked p.replies

  -- once it has changed the map, it asks no more
  module _ (other : change ≢ Unchanged) where
    changed2 : told.change2 ≢ Unchanged
    changed2 e = elim told.changes [
      | inl kept ↦ other (sym kept.0 ∙ e)
      | inr made ↦ other made.0
    ]

    past : (r : Replies K V) (stands : Calling) → (Seeks same hash asks w2 caller setting c2 blocks2 keys told.change2 stands → ⊥) → AskedAt hash c2 blocks2 keys asked r stands
    past r (at.Counts removed) none = tt
    past r (at.Disposes d answer) none = tt
    past r (at.Over end) none = tt
    past r (at.Asks asks_at) none = absurd (none tt)
    past r _ none = absurd (none tt)

    past_on : (q : KeyCall K V Q) (x : Called (Node K V)) → After q x → To q x
    past_on q called.Goes f = past q.replies q.stands (λ seeks. changed2 (f.unchanged seeks))
    past_on q called.Waits f = past q.replies q.stands (λ seeks. changed2 (f.unchanged seeks))
    past_on q (called.Gave value) f = tt
    past_on q (called.Unstored value) f = past q.replies q.stands (λ seeks. changed2 (f.unchanged seeks))
    past_on q (called.Asks pair) f = past q.replies q.stands (λ seeks. changed2 (f.unchanged seeks))
    past_on q (called.Done answer) f = tt
    past_on q (called.Refused fault) f = tt

  abbrev Ending : KeyCall K V Q × Called (Node K V) → Type 0
  Ending e = To e.0 e.1

  abbrev AsTold : Calling → Type 0
  AsTold stands = IsAsReplied hash w.memory c blocks its asked p.replies p.own × DoesAsReplied hash w.memory c blocks its asked p.replies p.own stands

  by_progress : (q : KeyCall K V Q) (x : Called (Node K V)) → AskedAt hash c2 blocks2 keys asked q.replies q.stands → To q x
  by_progress q called.Goes h = h
  by_progress q called.Waits h = h
  by_progress q (called.Gave value) h = tt
  by_progress q (called.Unstored value) h = h
  by_progress q (called.Asks pair) h = h
  by_progress q (called.Done answer) h = tt
  by_progress q (called.Refused fault) h = tt

  -- it asks again
  again_so : At p.stands → (pair : Option ℕ) → ◌≡◌ {A = KeyCall K V Q × Called (Node K V)} (p2, progress) (p, called.Asks pair) → To p2 progress
  again_so before pair end = subst Ending (sym end) (asked_on hash w.memory w2.memory c c2 blocks blocks2 keys asked stays gone p.replies p.stands before)

  refused_so : (q : KeyCall K V Q) (end : End) (back : Node K V) → ◌≡◌ {A = KeyCall K V Q × Called (Node K V)} (p2, progress) (standing q (at.Over end), called.Unstored back) → told.change2 ≡ Unchanged
  refused_so q end back is = (subst (λ (x : KeyCall K V Q × Called (Node K V)). After x.0 x.1) is told.facts).point

  -- it goes on seeking
  module _ (all : AllGoneOr hash w.memory w2.memory c c2 blocks blocks2 keys asked stays gone p.replies) where
    on : (Words : ℕ → Type 0) → ((word : ℕ) → Words word → HasAnswered (answers.Found word) p.stands → ⊥) → (stands : Calling) → p2.stands ≡ stands → DoesBy Words p.replies p.own stands
        → CallFacts same hash asks w2 caller setting c2 blocks2 keys told.change2 p2 → AskedAt hash c2 blocks2 keys asked p.replies stands
    on Words quiet (at.Asks (asking.Present word)) here does f =
        let k = subst (CallingFacts same hash asks w2 caller setting c2 blocks2 keys told.change2 p2) here f.point in
        let found = told.answers (answers.Found word) (subst (HasAnswered (answers.Found word)) (sym here) refl) (quiet word does.0)
        (f.unchanged (subst (Seeks same hash asks w2 caller setting c2 blocks2 keys told.change2) (sym here) tt)) in
        let all2 = all_on hash w.memory w2.memory c c2 blocks blocks2 keys asked stays gone p.replies p.replies (same_recall p.replies) all in
        asks_new same hash lawful fits asks w2 caller setting c2 blocks2 map2 keys p2.hash f.class asked told.change2 word k.2 found p.replies all2.0 does.1 all2.1
    on Words quiet stands here does f = asked_as hash w.memory w2.memory c c2 blocks blocks2 keys asked stays gone p.replies p.replies (same_recall p.replies) all stands tt

    seeks_so : (Words : ℕ → Type 0) → ((word : ℕ) → Words word → HasAnswered (answers.Found word) p.stands → ⊥) → GoesBy Words p (p2, progress) → To p2 progress
    seeks_so Words quiet does = by progress told.facts
      where
        then_on : CallFacts same hash asks w2 caller setting c2 blocks2 keys told.change2 p2 → AskedAt hash c2 blocks2 keys asked p2.replies p2.stands
        then_on f = subst (λ (x : ℕ × Replies K V). AskedAt hash c2 blocks2 keys asked x.1 p2.stands) (sym does.0) (on Words quiet p2.stands refl does.1 f)

        by : (x : Called (Node K V)) → After p2 x → To p2 x
        by called.Goes f = then_on f
        by called.Waits f = then_on f
        by (called.Gave value) f = tt
        by (called.Unstored value) f = then_on f
        by (called.Asks pair) f = then_on f
        by (called.Done answer) f = tt
        by (called.Refused fault) f = tt

  -- where a word is read, nothing was asked
  quiet_at : (more : p.replies.takes ≢ takes.Nothing) (stands : Calling) → p.stands ≡ stands → (word : ℕ) → Read same hash asks p facts.may.0 more w.memory w2.memory (p2, progress) stands word
      → HasAnswered (answers.Found word) p.stands → ⊥
  quiet_at more stands here word read answered = by stands read (subst (HasAnswered (answers.Found word)) here answered)
    where
      by : (stands : Calling) → Read same hash asks p facts.may.0 more w.memory w2.memory (p2, progress) stands word → HasAnswered (answers.Found word) stands → ⊥
      by at.Probes read h = h
      by (at.Tries old new) read h = h
      by _ read h = absurd read

  seeking_so : (stands : Calling) → p.stands ≡ stands → IsSeeking stands → AsTold stands → AllGoneOr hash w.memory w2.memory c c2 blocks blocks2 keys asked stays gone p.replies
      → AskedAt hash c blocks keys asked p.replies p.stands → Steps Took value_at w.memory (plan_at asks same hash p stands) w2.memory (p2, progress) → To p2 progress
  seeking_so stands here seeking both all before s = by (walked same hash asks p facts.may.0 both.0.asks w.memory w2.memory (p2, progress) stands seeking (subst RoomsAt here rooms) s)
    where
      by : Walked same hash asks p facts.may.0 both.0.asks w.memory w2.memory (p2, progress) stands → To p2 progress
      by (inl does) = seeks_so all (Read same hash asks p facts.may.0 both.0.asks w.memory w2.memory (p2, progress) stands) (quiet_at both.0.asks stands here) does
      by (inr (inl (pair, end))) = again_so before pair end
      by (inr (inr (word, new, is, end))) = subst Ending (sym end) (changed_once hash c2 blocks2 keys asked key p word new)

  fills_so : (word : ℕ) → AsTold (at.Asks (asking.Fills word)) → AllGoneOr hash w.memory w2.memory c c2 blocks blocks2 keys asked stays gone p.replies
      → CallingFacts same hash asks w caller setting c blocks keys change p (at.Asks (asking.Fills word))
      → Steps Took value_at w.memory (plan_at asks same hash p (at.Asks (asking.Fills word))) w2.memory (p2, progress) → To p2 progress
  fills_so word both all k s =
      let d = fills_told same hash fits asks caller setting keys its asked w w2.memory c c2 blocks blocks2 stays setting.root map.map.shows change told.change2 p facts.code facts.may.1 word k.1 both.0 (p2, progress) refused_so
      both.1 (named_or hash fits w.memory c blocks its asked setting.root map.map.shows same asks keys w caller setting change p word k.3) k.2.0 k.2.1 s k.0 in
      by_progress p2 progress (asked_as hash w.memory w2.memory c c2 blocks blocks2 keys asked stays gone p.replies p2.replies d.1 all p2.stands d.2)

  gives_up_so : (word : ℕ) → AsTold (at.Asks (asking.GivesUp word)) → AllGoneOr hash w.memory w2.memory c c2 blocks blocks2 keys asked stays gone p.replies
      → CallingFacts same hash asks w caller setting c blocks keys change p (at.Asks (asking.GivesUp word))
      → Steps Took value_at w.memory (plan_at asks same hash p (at.Asks (asking.GivesUp word))) w2.memory (p2, progress) → To p2 progress
  gives_up_so word both all k s =
      let d = gives_up_told same hash fits asks caller setting keys its asked w w2.memory c c2 blocks blocks2 stays setting.root map.map.shows change told.change2 p facts.code facts.may.1 word k.1 both.0 (p2, progress) refused_so
      k.0 k.2 both.1.0 both.1.1 both.1.2 s in
      by_progress p2 progress (asked_as hash w.memory w2.memory c c2 blocks blocks2 keys asked stays gone p.replies p2.replies d.1 all p2.stands d.2)

  by_point : change ≡ Unchanged → (stands : Calling) → p.stands ≡ stands → Keeps stands → At stands → CallingFacts same hash asks w caller setting c blocks keys change p stands
      → Steps Took value_at w.memory (plan_at asks same hash p stands) w2.memory (p2, progress) → To p2 progress
  by_point none at.Makes here both all k s = absurd (both.0.asks k.8)
  by_point none (at.Looks l) here both all k s = absurd (both.0.asks (looks_alone p.replies.takes p.there p.missing k.2 k.1 facts.may.0))
  by_point none at.Roots here both all k s = seeking_so at.Roots here tt both all (subst At (sym here) all) s
  by_point none at.Probes here both all k s = seeking_so at.Probes here tt both all (subst At (sym here) all) s
  by_point none (at.Tries word new) here both all k s = seeking_so (at.Tries word new) here tt both all (subst At (sym here) all) s
  by_point none (at.Counts removed) here h all (inl k) s = absurd (let e = sym k.2 ∙ none in cc e)
  by_point none (at.Counts removed) here h all (inr k) s = absurd (let e = sym k.3 ∙ none in cc e)
  by_point none at.Nexts here both all k s = seeking_so at.Nexts here tt both all (subst At (sym here) all) s
  by_point none (at.Firsts making) here both all k s = seeking_so (at.Firsts making) here tt both all (subst At (sym here) all) s
  by_point none (at.Allocs making) here both all k s = seeking_so (at.Allocs making) here tt both all (subst At (sym here) all) s
  by_point none (at.Helps copier goal) here both all k s = seeking_so (at.Helps copier goal) here tt both all (subst At (sym here) all) s
  by_point none (at.Copies copier) here both all k s = seeking_so (at.Copies copier) here tt both all (subst At (sym here) all) s
  by_point none (at.Disposes d answer) here h all k s = absurd (subst (λ (x : Change). AnswersChange same hash asks w caller setting c blocks keys change x answer) none k.1)
  by_point none (at.Asks (asking.Absent gap)) here both all k s = again_so (subst At (sym here) all) None s.1
  by_point none (at.Asks (asking.Present word)) here both all k s = again_so (subst At (sym here) all) (Some word) s.1
  by_point none (at.Asks (asking.Fills word)) here both all k s = fills_so word both all k s
  by_point none (at.Asks (asking.GivesUp word)) here both all k s = gives_up_so word both all k s
  by_point none (at.Drops end) here h all k s = let d = taken w.memory (dropped p end) (p.own / 2048) w2.memory (p2, progress) s in subst Ending (sym d.3) tt
  by_point none (at.Over end) here h all k s = subst Ending (sym s.1) (over_so end)
    where
      over_so : (end : End) → To p (ended end)
      over_so (ends.Answered answer) = tt
      over_so (ends.Refused fault) = tt

  pub once_after : Keeps p.stands → At p.stands → To p2 progress
  once_after keeps all = by change refl
    where
      by : (x : Change) → change ≡ x → To p2 progress
      by Unchanged e = by_point e p.stands refl keeps all facts.point steps
      by (Stored n) e = past_on (λ z. let y = sym e ∙ z in cc y) p2 progress told.facts
      by (Replaced o n) e = past_on (λ z. let y = sym e ∙ z in cc y) p2 progress told.facts
      by (Removed o) e = past_on (λ z. let y = sym e ∙ z in cc y) p2 progress told.facts

-- A step of a call that asks, in its own table: it goes on by what it was told, and what it changes is what it was told to change.
use Rattle.std.specs.Prelude.{◌≡◌, ◌≢◌, ℕ, ◌/◌, ◌<◌, ◌^◌, ◌==◌, Bool, true, false, List, Option, if◌then◌else◌}
use Rattle.std.proofs.Common.{refl, sym, subst, ◌∙◌, inl, inr}
use Rattle.seize_model.specs.Given.SeizeWordsMem.{Can, Took, value_at}
use Rattle.seize_model.specs.Given.SeizeWordsPlan.{May, Steps}
use Rattle.seize_model.proofs.Given.SeizeWordsOneOwner.Operations.{taken}
use Rattle.seize_model.specs.Given.SeizeWorld.{World}
use Rattle.map_facts_late.specs.Given.TablesDeclared.marks.TheConstants.{TOMBSTONE}
use Rattle.map_facts_late.specs.Given.TablesDeclared.node.Node.{Node}
use Rattle.map_facts_late.specs.Given.TablesDeclared.setting.Setting.{Setting}
use Rattle.map_facts_late.specs.Given.ResizeDispose.{disposing}
use Rattle.map_facts_late.specs.Given.RawAnswers.{ended}
use Rattle.map_facts_late.specs.Given.RawCall.{dropped, call_plan, plan_at}
use Rattle.map_facts_late.specs.Given.RawCallPoints.{standing, going, changed}
use Rattle.map_facts_late.specs.Given.RawDeclared.machines.answer.Called.{Called}
use Rattle.map_facts_late.specs.Given.RawDeclared.machines.answer.Called.TheVariants as called
use Rattle.map_facts_late.specs.Given.RawDeclared.machines.answer.End.{End}
use Rattle.map_facts_late.specs.Given.RawDeclared.machines.answer.End.TheVariants as ends
use Rattle.map_facts_late.specs.Given.RawDeclared.machines.answer.KeyAnswer.{KeyAnswer}
use Rattle.map_facts_late.specs.Given.RawDeclared.machines.answer.KeyAnswer.TheVariants as answers
use Rattle.map_facts_late.specs.Given.RawDeclared.machines.answer.There.{There}
use Rattle.map_facts_late.specs.Given.RawDeclared.machines.answer.There.TheVariants as there
use Rattle.map_facts_late.specs.Given.RawDeclared.machines.answer.Missing.{Missing}
use Rattle.map_facts_late.specs.Given.RawDeclared.machines.answer.Missing.TheVariants as missing
use Rattle.map_facts_late.specs.Given.RawDeclared.machines.asking.Asking.TheVariants as asking
use Rattle.map_facts_late.specs.Given.RawDeclared.machines.asking.Takes.{Takes}
use Rattle.map_facts_late.specs.Given.RawDeclared.machines.asking.Takes.TheVariants as takes
use Rattle.map_facts_late.specs.Given.RawDeclared.machines.call.KeyCall.{KeyCall}
use Rattle.map_facts_late.specs.Given.RawDeclared.machines.call.Calling.{Calling}
use Rattle.map_facts_late.specs.Given.RawDeclared.machines.call.Calling.TheVariants as at
use Rattle.map_facts_late.specs.Given.RuleChart.{Chart}
use Rattle.map_facts_late.specs.Given.RuleWords.{Blocks}
use Rattle.map_facts_late.specs.Given.RuleInWorld.{IsMapIn}
use Rattle.map_facts_late.specs.Given.PointsFactsCalls.{Change, Unchanged, Stored, Replaced, Removed, MayStore, Seeks, AnswersChange, CallingFacts, CallFacts}
use Rattle.map_facts_late.specs.Given.PointsTold.{HasAnswered, IsRowOfCall, CallFactsAfter, CallOutcome}
use Rattle.map_facts_late.proofs.Given.PointsValues.Kept.{SameValues}
use Rattle.map_facts_late.proofs.Given.PointsValues.Own.{IsDropping, NoneMoved, SeeksOn, seeks_on}
use Rattle.map_facts_late.proofs.Values.Seeks.{look_unchanged}
use Rattle.map_facts_late.proofs.Given.PointsValues.Sought.{IsSought, IsAhead, IsLook, GoesSeeking}
use Rattle.many_calls.specs.Asked.{Asked, ChangesAsReplied, IsAsReplied, DoesAsReplied, EndsAsReplied, OverAsReplied, RemembersReplies}
use Rattle.many_calls.proofs.Asked.Stays.{Stays, HasYet, ToldTo, as_told_on, changes_on, ends_on, does_on}
use Rattle.many_calls.proofs.Asked.Own.{IsMine, mine_at}
use Rattle.many_calls.proofs.Asked.Goes.{EndsUntold, DropsUntold, ComesUntold, GoesBy}
use Rattle.many_calls.proofs.Asked.Walks.{RoomsAt, IsSeeking, Read, Walked, walked}
use Rattle.many_calls.proofs.Asked.By.{named_at, named_or}
use Rattle.many_calls.proofs.Asked.On.{untold_ends, own_stays, goes_told, kept_at}
use Rattle.many_calls.proofs.Asked.Changed.{changed_told}
use Rattle.many_calls.proofs.Asked.Fills.{fills_told, gives_up_told}

-- a call that is to look alone never asks
pub looks_alone : (x : Takes) (t : There) (m : Missing) → t ≡ there.Answers → m ≡ missing.Answers → MayStore x t m → x ≡ takes.Nothing
looks_alone x t m is is2 may = by x (subst (λ (t : There). MayStore x t missing.Answers) is (subst (MayStore x t) is2 may))
  where
    by : (x : Takes) → MayStore x there.Answers missing.Answers → x ≡ takes.Nothing
    by takes.Nothing may = refl
    by takes.Values may = absurd may
    by takes.Changes may = absurd may
    by takes.Choices may = absurd may

-- what changes the map does not go on seeking
module _ {K V Q : Type 0} (p : KeyCall K V Q) (word new : ℕ) where
  pub changes_no_more : GoesSeeking p (changed p word new) → ⊥
  changes_no_more = by (new == TOMBSTONE) (word == 0)
    where
      by : (a b : Bool)
          → GoesSeeking p (if a then going p (at.Counts word) else (if b then going p (at.Counts 0) else going p (at.Disposes (disposing p.setting word p.trial.table) (answers.Replaced word p.own)))) → ⊥
      by true b g = g.1
      by false true g = g.1
      by false false g = g.1

module _ {K V Q : Type 0} (same : K → K → Bool) (hash : K → ℕ) (setting : Setting) (caller : ℕ) (asks : Q → K → Bool) (w w2 : World (Node K V)) (c c2 : Chart K) (blocks blocks2 : Blocks)
    (map : IsMapIn same hash setting w c blocks) (map2 : IsMapIn same hash setting w2 c2 blocks2) (stays : Stays w.memory w2.memory c c2 blocks blocks2)
    (fits : (k : K) → hash k < 2 ^ 64) (keys : K → Bool) (its : Option K) (asked : List (Asked V)) (change : Change) (p p2 : KeyCall K V Q) (progress : Called (Node K V))
    (told : CallOutcome same hash asks caller setting keys c change p w2 c2 blocks2 p2 progress) (facts : CallFacts same hash asks w caller setting c blocks keys change p) (row : IsRowOfCall p.stands → ⊥)
    (may : May Can Took value_at w.memory (call_plan asks same hash p)) (steps : Steps Took value_at w.memory (call_plan asks same hash p) w2.memory (p2, progress)) (rooms : RoomsAt p.stands) where
  abbrev To : KeyCall K V Q → Called (Node K V) → Type 0
  To = ToldTo hash w2.memory c2 blocks2 its asked told.change2

  abbrev After : KeyCall K V Q → Called (Node K V) → Type 0
  After = CallFactsAfter same hash asks caller setting keys w2 c2 blocks2 told.change2

  abbrev Told : Change → Type 0
  Told = ChangesAsReplied hash w2.memory c2 blocks2 its asked

  abbrev Keeps : Calling → Type 0
  Keeps = RemembersReplies hash w.memory c blocks its asked change p

  abbrev Ends : KeyCall K V Q → End → Type 0
  Ends q = EndsAsReplied hash w2.memory c2 blocks2 its asked q.there q.missing q.replies.takes

  abbrev Over : KeyCall K V Q → End → Type 0
  Over q = OverAsReplied hash w2.memory c2 blocks2 its asked told.change2 q.there q.missing q.replies.takes

  -- it had changed the map before
  module _ (other : change ≢ Unchanged) where
    same_change : told.change2 ≡ change
    same_change = elim told.changes [
      | inl kept ↦ kept.0
      | inr made ↦ absurd (other made.0)
    ]

    changed2 : told.change2 ≢ Unchanged
    changed2 e = other (sym same_change ∙ e)

    has_changed : (stands : Calling) → (Seeks same hash asks w caller setting c blocks keys change stands → ⊥) → Keeps stands → ChangesAsReplied hash w.memory c blocks its asked change
    has_changed (at.Counts removed) none h = h
    has_changed (at.Disposes d answer) none h = h
    has_changed (at.Over end) none h = h.0
    has_changed _ none h = absurd (none tt)

    past : (q : KeyCall K V Q) (stands : Calling) → (Seeks same hash asks w2 caller setting c2 blocks2 keys told.change2 stands → ⊥) → Told told.change2
        → RemembersReplies hash w2.memory c2 blocks2 its asked told.change2 q stands
    past q (at.Counts removed) none h = h
    past q (at.Disposes d answer) none h = h
    past q (at.Over end) none h = (h, λ e. absurd (changed2 e))
    past q _ none h = absurd (none tt)

    past_on : Keeps p.stands → (q : KeyCall K V Q) (x : Called (Node K V)) → After q x → To q x
    past_on keeps = by
      where
        then_told : Told told.change2
        then_told = subst Told (sym same_change) (changes_on hash w.memory w2.memory c c2 blocks blocks2 its asked stays change (has_changed p.stands (λ seeks. other (facts.unchanged seeks)) keeps))

        on : (q : KeyCall K V Q) → CallFacts same hash asks w2 caller setting c2 blocks2 keys told.change2 q → RemembersReplies hash w2.memory c2 blocks2 its asked told.change2 q q.stands
        on q f = past q q.stands (λ seeks. changed2 (f.unchanged seeks)) then_told

        by : (q : KeyCall K V Q) (x : Called (Node K V)) → After q x → To q x
        by q called.Goes f = on q f
        by q called.Waits f = on q f
        by q (called.Gave value) f = tt
        by q (called.Unstored value) f = on q f
        by q (called.Asks pair) f = on q f
        by q (called.Done answer) f = (then_told, λ e. absurd (changed2 e))
        by q (called.Refused fault) f = absurd (changed2 f.1)

  -- it changes nothing now
  nothing : told.change2 ≡ Unchanged → Told told.change2
  nothing e = subst Told (sym e) tt

  answered : (q : KeyCall K V Q) (answer : KeyAnswer) → IsLook answer → Ends q (ends.Answered answer) → After q (called.Done answer) → Over q (ends.Answered answer)
  answered q answer look end f = (nothing (look_unchanged same hash asks w2 caller setting c2 blocks2 keys told.change2 answer look f.2), λ none. end)

  untold : (q : KeyCall K V Q) (end : End) → EndsUntold q.there q.missing end → Ends q end
  untold q = untold_ends hash w2.memory c2 blocks2 its asked q.there q.missing q.replies.takes

  -- it goes on seeking
  module _ (h : IsAsReplied hash w.memory c blocks its asked p.replies p.own) (mine : IsMine w caller p.own) (unmoved : NoneMoved same hash asks w caller setting c blocks keys change p w2.memory (p2, progress)) where
    seeks_so : (Read : ℕ → Type 0) (q : KeyCall K V Q) (x : Called (Node K V)) → GoesSeeking p (q, x) → GoesBy Read p (q, x) → After q x → To q x
    seeks_so Read q x g does f = by x g does.2 f
      where
        on : IsAhead q.stands → DropsUntold q.there q.missing q.stands → CallFacts same hash asks w2 caller setting c2 blocks2 keys told.change2 q
            → RemembersReplies hash w2.memory c2 blocks2 its asked told.change2 q q.stands
        on ahead drops f =
            kept_at hash fits w w2 caller c c2 blocks blocks2 its asked stays setting.root map2.map.shows told.change2 q q.stands ahead (λ yet.
            goes_told hash fits w w2 caller c c2 blocks blocks2 its asked stays setting.root map2.map.shows p h mine unmoved Read q does.0 does.1
            (named_at hash fits w2.memory c2 blocks2 its asked setting.root map2.map.shows same asks keys w2 caller setting told.change2 q q.stands f.point)
            (mine_at same hash asks w2 caller setting c2 blocks2 keys told.change2 q f.code q.stands yet f.point))
            (λ end is. untold q end (subst (DropsUntold q.there q.missing) is drops))

        by : (x : Called (Node K V)) → GoesSeeking p (q, x) → ComesUntold q.there q.missing x q.stands → After q x → To q x
        by called.Goes g drops f = on g.1 drops f
        by called.Waits g drops f = on g.1 drops f
        by (called.Gave value) g drops f = tt
        by (called.Unstored value) g drops f = absurd g.1
        by (called.Asks pair) g drops f = on g.1 drops f
        by (called.Done answer) g ends_so f = answered q answer g.1.1 (untold q (ends.Answered answer) ends_so) f
        by (called.Refused fault) g ends_so f = untold q (ends.Refused fault) ends_so

    -- or asks again
    again_so : IsSeeking p.stands → DoesAsReplied hash w.memory c blocks its asked p.replies p.own p.stands → (asked_of : Option ℕ) → IsAhead p.stands → ◌≡◌ {A = KeyCall K V Q × Called (Node K V)} (p2, progress) (p, called.Asks asked_of) → To p2 progress
    again_so seeking does asked_of ahead end =
        subst (λ (x : KeyCall K V Q × Called (Node K V)). After x.0 x.1 → To x.0 x.1) (sym end) (λ f.
        kept_at hash fits w w2 caller c c2 blocks blocks2 its asked stays setting.root map2.map.shows told.change2 p p.stands ahead (λ yet.
        let own = own_stays hash fits w w2 caller c c2 blocks blocks2 its asked stays setting.root map2.map.shows p h mine unmoved (mine_at same hash asks w2 caller setting c2 blocks2 keys told.change2 p f.code p.stands yet f.point) in
        (as_told_on hash w.memory w2.memory c c2 blocks blocks2 its asked stays p.own own p.replies h, does_on hash w.memory w2.memory c c2 blocks blocks2 its asked stays p.own own p.replies p.stands does))
        (λ drops is. absurd (subst IsSeeking is seeking))) told.facts

  -- or changes the map
  changes_so : (word new : ℕ) → DoesAsReplied hash w.memory c blocks its asked p.replies p.own (at.Tries word new) → SameValues w.memory w2.memory → (p2, progress) ≡ changed p word new → To p2 progress
  changes_so word new does kept end =
      subst (λ (x : KeyCall K V Q × Called (Node K V)). After x.0 x.1 → To x.0 x.1) (sym end)
      (changed_told same hash fits asks w2 caller setting c2 blocks2 keys its asked setting.root map2.map.shows told.change2 p word new
      (does_on hash w.memory w2.memory c c2 blocks blocks2 its asked stays p.own (λ some. kept (p.own / 2048)) p.replies (at.Tries word new) does)) told.facts

  seeking_so : (stands : Calling) → p.stands ≡ stands → IsSought stands → (IsDropping stands → ⊥) → HasYet stands → IsSeeking stands
      → IsAsReplied hash w.memory c blocks its asked p.replies p.own × DoesAsReplied hash w.memory c blocks its asked p.replies p.own stands
      → CallingFacts same hash asks w caller setting c blocks keys change p stands → (IsRowOfCall stands → ⊥)
      → May Can Took value_at w.memory (plan_at asks same hash p stands) → Steps Took value_at w.memory (plan_at asks same hash p stands) w2.memory (p2, progress) → To p2 progress
  seeking_so stands here sought drops yet seeking both k no_row m s =
      by (seeks_on same hash asks w caller setting c blocks keys change p w2.memory (p2, progress) stands here sought drops k no_row m s)
      (walked same hash asks p facts.may.0 both.0.asks w.memory w2.memory (p2, progress) stands seeking (subst RoomsAt here rooms) s)
    where
      by : SeeksOn same hash asks w caller setting c blocks keys change p w2.memory (p2, progress) stands
          → Walked same hash asks p facts.may.0 both.0.asks w.memory w2.memory (p2, progress) stands → To p2 progress
      by (inl (g, unmoved)) (inl does) = seeks_so both.0 (mine_at same hash asks w caller setting c blocks keys change p facts.code stands yet k) unmoved
          (Read same hash asks p facts.may.0 both.0.asks w.memory w2.memory (p2, progress) stands) p2 progress g does told.facts
      by (inl (g, unmoved)) (inr (inl (pair, end))) =
          again_so both.0 (mine_at same hash asks w caller setting c blocks keys change p facts.code stands yet k) unmoved (subst IsSeeking (sym here) seeking)
          (subst (DoesAsReplied hash w.memory c blocks its asked p.replies p.own) (sym here) both.1) pair (subst (λ (x : KeyCall K V Q × Called (Node K V)). GoesSeeking p x) end g).1 end
      by (inl (g, unmoved)) (inr (inr (word, new, is, end))) = absurd (changes_no_more p word new (subst (GoesSeeking p) end g))
      by (inr (word, new, is, kept, end)) walked = changes_so word new (subst (DoesAsReplied hash w.memory c blocks its asked p.replies p.own) is both.1) kept end

  -- it fills its own block, or gives it up
  refused_so : (q : KeyCall K V Q) (end : End) (back : Node K V) → ◌≡◌ {A = KeyCall K V Q × Called (Node K V)} (p2, progress) (standing q (at.Over end), called.Unstored back) → told.change2 ≡ Unchanged
  refused_so q end back is = (subst (λ (x : KeyCall K V Q × Called (Node K V)). After x.0 x.1) is told.facts).point

  fills_so : (word : ℕ) → IsAsReplied hash w.memory c blocks its asked p.replies p.own × DoesAsReplied hash w.memory c blocks its asked p.replies p.own (at.Asks (asking.Fills word))
      → CallingFacts same hash asks w caller setting c blocks keys change p (at.Asks (asking.Fills word))
      → Steps Took value_at w.memory (plan_at asks same hash p (at.Asks (asking.Fills word))) w2.memory (p2, progress) → To p2 progress
  fills_so word both k s =
      (fills_told same hash fits asks caller setting keys its asked w w2.memory c c2 blocks blocks2 stays setting.root map.map.shows change told.change2 p facts.code facts.may.1 word k.1 both.0 (p2, progress) refused_so
      both.1 (named_or hash fits w.memory c blocks its asked setting.root map.map.shows same asks keys w caller setting change p word k.3) k.2.0 k.2.1 s k.0).0

  gives_up_so : (word : ℕ) → IsAsReplied hash w.memory c blocks its asked p.replies p.own × DoesAsReplied hash w.memory c blocks its asked p.replies p.own (at.Asks (asking.GivesUp word))
      → CallingFacts same hash asks w caller setting c blocks keys change p (at.Asks (asking.GivesUp word))
      → Steps Took value_at w.memory (plan_at asks same hash p (at.Asks (asking.GivesUp word))) w2.memory (p2, progress) → To p2 progress
  gives_up_so word both k s =
      (gives_up_told same hash fits asks caller setting keys its asked w w2.memory c c2 blocks blocks2 stays setting.root map.map.shows change told.change2 p facts.code facts.may.1 word k.1 both.0 (p2, progress) refused_so
      k.0 k.2 both.1.0 both.1.1 both.1.2 s).0

  module _ (looks : (answer : KeyAnswer) → HasAnswered answer p.stands → IsLook answer) where
    over_so : (end : End) → p.stands ≡ at.Over end → Ends p end → After p (ended end) → To p (ended end)
    over_so (ends.Answered answer) here as_told f = answered p answer (looks answer (subst (HasAnswered answer) (sym here) refl)) as_told f
    over_so (ends.Refused fault) here as_told f = as_told

    still : (end : End) → EndsAsReplied hash w.memory c blocks its asked p.there p.missing p.replies.takes end → Ends p end
    still = ends_on hash w.memory w2.memory c c2 blocks blocks2 its asked stays p.there p.missing p.replies.takes

    abbrev Ending : KeyCall K V Q × Called (Node K V) → Type 0
    Ending e = After e.0 e.1 → To e.0 e.1

    by_point : change ≡ Unchanged → (stands : Calling) → p.stands ≡ stands → Keeps stands → CallingFacts same hash asks w caller setting c blocks keys change p stands → (IsRowOfCall stands → ⊥)
        → May Can Took value_at w.memory (plan_at asks same hash p stands) → Steps Took value_at w.memory (plan_at asks same hash p stands) w2.memory (p2, progress) → To p2 progress
    by_point none at.Makes here both k no_row m s = absurd (both.0.asks k.8)
    by_point none (at.Looks l) here both k no_row m s = absurd (both.0.asks (looks_alone p.replies.takes p.there p.missing k.2 k.1 facts.may.0))
    by_point none at.Roots here both k no_row m s = seeking_so at.Roots here tt (λ z. z) tt tt both k no_row m s
    by_point none at.Probes here both k no_row m s = seeking_so at.Probes here tt (λ z. z) tt tt both k no_row m s
    by_point none (at.Tries word new) here both k no_row m s = seeking_so (at.Tries word new) here tt (λ z. z) tt tt both k no_row m s
    by_point none (at.Counts removed) here h (inl k) no_row m s = absurd (let e = sym k.2 ∙ none in cc e)
    by_point none (at.Counts removed) here h (inr k) no_row m s = absurd (let e = sym k.3 ∙ none in cc e)
    by_point none at.Nexts here both k no_row m s = seeking_so at.Nexts here tt (λ z. z) tt tt both k no_row m s
    by_point none (at.Firsts making) here both k no_row m s = seeking_so (at.Firsts making) here tt (λ z. z) tt tt both k no_row m s
    by_point none (at.Allocs making) here both k no_row m s = seeking_so (at.Allocs making) here tt (λ z. z) tt tt both k no_row m s
    by_point none (at.Helps copier goal) here both k no_row m s = seeking_so (at.Helps copier goal) here tt (λ z. z) tt tt both k no_row m s
    by_point none (at.Copies copier) here both k no_row m s = seeking_so (at.Copies copier) here tt (λ z. z) tt tt both k no_row m s
    by_point none (at.Disposes d answer) here h k no_row m s = absurd (subst (λ (x : Change). AnswersChange same hash asks w caller setting c blocks keys change x answer) none k.1)
    by_point none (at.Asks (asking.Absent gap)) here both k no_row m s = seeking_so (at.Asks (asking.Absent gap)) here tt (λ z. z) tt tt both k no_row m s
    by_point none (at.Asks (asking.Present word)) here both k no_row m s = seeking_so (at.Asks (asking.Present word)) here tt (λ z. z) tt tt both k no_row m s
    by_point none (at.Asks (asking.Fills word)) here both k no_row m s = fills_so word both k s
    by_point none (at.Asks (asking.GivesUp word)) here both k no_row m s = gives_up_so word both k s
    by_point none (at.Drops end) here h k no_row m s =
        let d = taken w.memory (dropped p end) (p.own / 2048) w2.memory (p2, progress) s in subst Ending (sym d.3) (λ f. (nothing f.point, λ is. still end h)) told.facts
    by_point none (at.Over end) here h k no_row m s = subst Ending (sym s.1) (over_so end here (still end (h.1 none))) told.facts

  pub told_after : Keeps p.stands → (change ≡ Unchanged → (answer : KeyAnswer) → HasAnswered answer p.stands → IsLook answer) → To p2 progress
  told_after keeps looks = by change refl
    where
      by : (x : Change) → change ≡ x → To p2 progress
      by Unchanged e = by_point (looks e) e p.stands refl keeps facts.point row may steps
      by (Stored n) e = past_on (λ z. let y = sym e ∙ z in cc y) keeps p2 progress told.facts
      by (Replaced o n) e = past_on (λ z. let y = sym e ∙ z in cc y) keeps p2 progress told.facts
      by (Removed o) e = past_on (λ z. let y = sym e ∙ z in cc y) keeps p2 progress told.facts

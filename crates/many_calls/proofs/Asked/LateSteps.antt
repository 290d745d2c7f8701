-- A step of a call that asks, in a table that the root has left: it changes nothing there, and goes on by what it was told.
use Rattle.std.specs.Prelude.{◌≡◌, ℕ, ◌<◌, ◌^◌, ◌==◌, Bool, true, false, List, Option, if◌then◌else◌, ◌⊎◌}
use Rattle.std.proofs.Common.{refl, sym, subst, inl, inr}
use Rattle.seize_model.specs.Given.SeizeWordsMem.{Can, Took, value_at}
use Rattle.seize_model.specs.Given.SeizeWordsPlan.{May, Steps}
use Rattle.seize_model.specs.Given.SeizeWorld.{World}
use Rattle.map_facts_late.specs.Given.TablesDeclared.marks.TheConstants.{TOMBSTONE}
use Rattle.map_facts_late.specs.Given.TablesDeclared.node.Node.{Node}
use Rattle.map_facts_late.specs.Given.TablesDeclared.setting.Setting.{Setting}
use Rattle.map_facts_late.specs.Given.ResizeDispose.{disposing}
use Rattle.map_facts_late.specs.Given.RawCall.{call_plan, plan_at}
use Rattle.map_facts_late.specs.Given.RawCallPoints.{standing, going, changed}
use Rattle.map_facts_late.specs.Given.RawDeclared.machines.answer.Called.{Called}
use Rattle.map_facts_late.specs.Given.RawDeclared.machines.answer.Called.TheVariants as called
use Rattle.map_facts_late.specs.Given.RawDeclared.machines.answer.End.{End}
use Rattle.map_facts_late.specs.Given.RawDeclared.machines.answer.End.TheVariants as ends
use Rattle.map_facts_late.specs.Given.RawDeclared.machines.answer.KeyAnswer.TheVariants as answers
use Rattle.map_facts_late.specs.Given.RawDeclared.machines.asking.Asking.TheVariants as asking
use Rattle.map_facts_late.specs.Given.RawDeclared.machines.call.KeyCall.{KeyCall}
use Rattle.map_facts_late.specs.Given.RawDeclared.machines.call.Calling.{Calling}
use Rattle.map_facts_late.specs.Given.RawDeclared.machines.call.Calling.TheVariants as at
use Rattle.map_facts_late.specs.Given.RuleChart.{Chart}
use Rattle.map_facts_late.specs.Given.RuleWords.{Blocks}
use Rattle.map_facts_late.specs.Given.RuleInWorld.{IsMapIn}
use Rattle.map_facts_late.specs.Given.PointsFactsCalls.{Unchanged, CallFacts}
use Rattle.map_facts_late.specs.Given.PointsTold.{IsRowOfCall}
use Rattle.map_facts_late.proofs.Given.PointsValues.Own.{IsDropping, NoneMoved, SeeksOn}
use Rattle.map_facts_late.proofs.Given.PointsValues.Sought.{IsSought, IsAhead, GoesSeeking}
use Rattle.map_facts_late.specs.LateCalls.{SupersededCalling, SupersededCallFacts}
use Rattle.map_facts_late.specs.LateTold.{SupersededCallAfter}
use Rattle.map_facts_late.proofs.Values.Own.{late_seeks_on}
use Rattle.many_calls.specs.Asked.{Asked, IsAsReplied, DoesAsReplied, EndsAsReplied, RemembersReplies}
use Rattle.many_calls.proofs.Asked.Stays.{Stays, HasYet, ToldTo, as_told_on, does_on}
use Rattle.many_calls.proofs.Asked.Own.{IsMine, mine_at, late_mine_at}
use Rattle.many_calls.proofs.Asked.Goes.{EndsUntold, DropsUntold, ComesUntold, GoesBy}
use Rattle.many_calls.proofs.Asked.Walks.{RoomsAt, IsSeeking, Read, Walked, walked}
use Rattle.many_calls.proofs.Asked.By.{NamedAt, named_or, named_at, late_named_at}
use Rattle.many_calls.proofs.Asked.On.{untold_ends, own_stays, goes_told, kept_at}
use Rattle.many_calls.proofs.Asked.Fills.{fills_told, gives_up_told}
use Rattle.many_calls.proofs.Asked.Steps.{looks_alone, changes_no_more}

module _ {K V Q : Type 0} (same : K → K → Bool) (hash : K → ℕ) (setting : Setting) (caller : ℕ) (asks : Q → K → Bool) (w w2 : World (Node K V)) (c c2 : Chart K) (blocks blocks2 : Blocks)
    (map : IsMapIn same hash setting w c blocks) (map2 : IsMapIn same hash setting w2 c2 blocks2) (stays : Stays w.memory w2.memory c c2 blocks blocks2)
    (fits : (k : K) → hash k < 2 ^ 64) (keys : K → Bool) (began : ℕ) (its : Option K) (asked : List (Asked V)) (p p2 : KeyCall K V Q) (progress : Called (Node K V))
    (facts : SupersededCallFacts same hash asks w caller setting c blocks keys began p) (after : SupersededCallAfter same hash asks caller setting keys began w2 c2 blocks2 p2 progress) (row : IsRowOfCall p.stands → ⊥)
    (may : May Can Took value_at w.memory (call_plan asks same hash p)) (steps : Steps Took value_at w.memory (call_plan asks same hash p) w2.memory (p2, progress)) (rooms : RoomsAt p.stands) where
  abbrev To : KeyCall K V Q → Called (Node K V) → Type 0
  To = ToldTo hash w2.memory c2 blocks2 its asked Unchanged

  abbrev After : KeyCall K V Q → Called (Node K V) → Type 0
  After = SupersededCallAfter same hash asks caller setting keys began w2 c2 blocks2

  abbrev Both : Calling → Type 0
  Both stands = IsAsReplied hash w.memory c blocks its asked p.replies p.own × DoesAsReplied hash w.memory c blocks its asked p.replies p.own stands

  abbrev Facts2 : KeyCall K V Q → Type 0
  Facts2 q = CallFacts same hash asks w2 caller setting c2 blocks2 keys Unchanged q ⊎ SupersededCallFacts same hash asks w2 caller setting c2 blocks2 keys began q

  untold : (q : KeyCall K V Q) (end : End) → EndsUntold q.there q.missing end → EndsAsReplied hash w2.memory c2 blocks2 its asked q.there q.missing q.replies.takes end
  untold q = untold_ends hash w2.memory c2 blocks2 its asked q.there q.missing q.replies.takes

  -- in the root's table, or there
  named_in : (q : KeyCall K V Q) → Facts2 q → NamedAt hash fits w2.memory c2 blocks2 its asked setting.root map2.map.shows q.stands
  named_in q (inl f) = named_at hash fits w2.memory c2 blocks2 its asked setting.root map2.map.shows same asks keys w2 caller setting Unchanged q q.stands f.point
  named_in q (inr f) = late_named_at hash fits w2.memory c2 blocks2 its asked setting.root map2.map.shows same asks keys w2 caller setting began q q.stands f.point

  mine_in : (q : KeyCall K V Q) → HasYet q.stands → Facts2 q → IsMine w2 caller q.own
  mine_in q yet (inl f) = mine_at same hash asks w2 caller setting c2 blocks2 keys Unchanged q f.code q.stands yet f.point
  mine_in q yet (inr f) = late_mine_at same hash asks w2 caller setting c2 blocks2 keys began q f.code q.stands f.point

  -- it goes on seeking
  module _ (h : IsAsReplied hash w.memory c blocks its asked p.replies p.own) (mine : IsMine w caller p.own) (unmoved : NoneMoved same hash asks w caller setting c blocks keys Unchanged p w2.memory (p2, progress)) where
    seeks_so : (Read : ℕ → Type 0) (q : KeyCall K V Q) (x : Called (Node K V)) → GoesSeeking p (q, x) → GoesBy Read p (q, x) → After q x → To q x
    seeks_so Read q x g does f = by x g does.2 f
      where
        on : IsAhead q.stands → DropsUntold q.there q.missing q.stands → Facts2 q → RemembersReplies hash w2.memory c2 blocks2 its asked Unchanged q q.stands
        on ahead drops f =
            kept_at hash fits w w2 caller c c2 blocks blocks2 its asked stays setting.root map2.map.shows Unchanged q q.stands ahead (λ yet.
            goes_told hash fits w w2 caller c c2 blocks blocks2 its asked stays setting.root map2.map.shows p h mine unmoved Read q does.0 does.1 (named_in q f) (mine_in q yet f))
            (λ end is. untold q end (subst (DropsUntold q.there q.missing) is drops))

        by : (x : Called (Node K V)) → GoesSeeking p (q, x) → ComesUntold q.there q.missing x q.stands → After q x → To q x
        by called.Goes g drops f = on g.1 drops f
        by called.Waits g drops f = on g.1 drops f
        by (called.Gave value) g drops f = tt
        by (called.Unstored value) g drops f = absurd g.1
        by (called.Asks pair) g drops f = on g.1 drops f
        by (called.Done answer) g ends_so f = (tt, λ none. untold q (ends.Answered answer) ends_so)
        by (called.Refused fault) g ends_so f = untold q (ends.Refused fault) ends_so

    -- or asks again
    again_so : IsSeeking p.stands → DoesAsReplied hash w.memory c blocks its asked p.replies p.own p.stands → (asked_of : Option ℕ) → IsAhead p.stands → ◌≡◌ {A = KeyCall K V Q × Called (Node K V)} (p2, progress) (p, called.Asks asked_of) → To p2 progress
    again_so seeking does asked_of ahead end =
        subst (λ (x : KeyCall K V Q × Called (Node K V)). After x.0 x.1 → To x.0 x.1) (sym end) (λ f.
        kept_at hash fits w w2 caller c c2 blocks blocks2 its asked stays setting.root map2.map.shows Unchanged p p.stands ahead (λ yet.
        let own = own_stays hash fits w w2 caller c c2 blocks blocks2 its asked stays setting.root map2.map.shows p h mine unmoved (mine_in p yet f) in
        (as_told_on hash w.memory w2.memory c c2 blocks blocks2 its asked stays p.own own p.replies h, does_on hash w.memory w2.memory c c2 blocks blocks2 its asked stays p.own own p.replies p.stands does))
        (λ drops is. absurd (subst IsSeeking is seeking))) after

  abbrev Ending : KeyCall K V Q × Called (Node K V) → Type 0
  Ending e = After e.0 e.1 → To e.0 e.1

  -- it changes nothing there
  not_changed : (word new : ℕ) → Ending (changed p word new)
  not_changed word new = by (new == TOMBSTONE) (word == 0)
    where
      counts : (removed : ℕ) → Ending (going p (at.Counts removed))
      counts removed (inl f) = absurd (elim f.point as (λ _. ⊥) [
        | inl h ↦ (let e = h.2 in cc e)
        | inr h ↦ (let e = h.3 in cc e)
      ])
      counts removed (inr f) = absurd f.point

      by : (a b : Bool) → Ending (if a then going p (at.Counts word) else (if b then going p (at.Counts 0) else going p (at.Disposes (disposing p.setting word p.trial.table) (answers.Replaced word p.own))))
      by true b f = counts word f
      by false true f = counts 0 f
      by false false (inl f) = absurd f.point.1
      by false false (inr f) = absurd f.point

  seeking_so : (stands : Calling) → p.stands ≡ stands → IsSought stands → (IsDropping stands → ⊥) → HasYet stands → IsSeeking stands → Both stands → SupersededCalling same hash asks w caller setting c blocks keys began p stands
      → (IsRowOfCall stands → ⊥) → May Can Took value_at w.memory (plan_at asks same hash p stands) → Steps Took value_at w.memory (plan_at asks same hash p stands) w2.memory (p2, progress) → To p2 progress
  seeking_so stands here sought drops yet seeking both k no_row m s =
      by (late_seeks_on same hash asks w caller setting c blocks keys began p w2.memory (p2, progress) stands here sought drops k no_row m s)
      (walked same hash asks p facts.may.0 both.0.asks w.memory w2.memory (p2, progress) stands seeking (subst RoomsAt here rooms) s)
    where
      by : SeeksOn same hash asks w caller setting c blocks keys Unchanged p w2.memory (p2, progress) stands
          → Walked same hash asks p facts.may.0 both.0.asks w.memory w2.memory (p2, progress) stands → To p2 progress
      by (inl (g, unmoved)) (inl does) = seeks_so both.0 (late_mine_at same hash asks w caller setting c blocks keys began p facts.code stands k) unmoved
          (Read same hash asks p facts.may.0 both.0.asks w.memory w2.memory (p2, progress) stands) p2 progress g does after
      by (inl (g, unmoved)) (inr (inl (pair, end))) =
          again_so both.0 (late_mine_at same hash asks w caller setting c blocks keys began p facts.code stands k) unmoved (subst IsSeeking (sym here) seeking)
          (subst (DoesAsReplied hash w.memory c blocks its asked p.replies p.own) (sym here) both.1) pair (subst (λ (x : KeyCall K V Q × Called (Node K V)). GoesSeeking p x) end g).1 end
      by (inl (g, unmoved)) (inr (inr (word, new, is, end))) = absurd (changes_no_more p word new (subst (GoesSeeking p) end g))
      by (inr (word, new, is, kept, end)) walked = subst Ending (sym end) (not_changed word new) after

  refused_so : (q : KeyCall K V Q) (end : End) (back : Node K V) → ◌≡◌ {A = KeyCall K V Q × Called (Node K V)} (p2, progress) (standing q (at.Over end), called.Unstored back) → Unchanged ≡ Unchanged
  refused_so q end back is = refl

  by_point : (stands : Calling) → p.stands ≡ stands → RemembersReplies hash w.memory c blocks its asked Unchanged p stands → SupersededCalling same hash asks w caller setting c blocks keys began p stands
      → (IsRowOfCall stands → ⊥) → May Can Took value_at w.memory (plan_at asks same hash p stands) → Steps Took value_at w.memory (plan_at asks same hash p stands) w2.memory (p2, progress) → To p2 progress
  by_point (at.Looks l) here both k no_row m s = absurd (both.0.asks (looks_alone p.replies.takes p.there p.missing k.2 k.1 facts.may.0))
  by_point at.Probes here both k no_row m s = seeking_so at.Probes here tt (λ z. z) tt tt both k no_row m s
  by_point (at.Tries word new) here both k no_row m s = seeking_so (at.Tries word new) here tt (λ z. z) tt tt both k no_row m s
  by_point at.Nexts here both k no_row m s = seeking_so at.Nexts here tt (λ z. z) tt tt both k no_row m s
  by_point (at.Firsts making) here both k no_row m s = seeking_so (at.Firsts making) here tt (λ z. z) tt tt both k no_row m s
  by_point (at.Allocs making) here both k no_row m s = seeking_so (at.Allocs making) here tt (λ z. z) tt tt both k no_row m s
  by_point (at.Copies copier) here both k no_row m s = seeking_so (at.Copies copier) here tt (λ z. z) tt tt both k no_row m s
  by_point (at.Asks (asking.Absent gap)) here both k no_row m s = seeking_so (at.Asks (asking.Absent gap)) here tt (λ z. z) tt tt both k no_row m s
  by_point (at.Asks (asking.Present word)) here both k no_row m s = seeking_so (at.Asks (asking.Present word)) here tt (λ z. z) tt tt both k no_row m s
  by_point (at.Asks (asking.Fills word)) here both k no_row m s =
      (fills_told same hash fits asks caller setting keys its asked w w2.memory c c2 blocks blocks2 stays setting.root map.map.shows Unchanged Unchanged p facts.code facts.may.1 word k.1 both.0 (p2, progress) refused_so
      both.1 (named_or hash fits w.memory c blocks its asked setting.root map.map.shows same asks keys w caller setting Unchanged p word k.3) k.2.0 k.2.1 s k.0).0
  by_point (at.Asks (asking.GivesUp word)) here both k no_row m s =
      (gives_up_told same hash fits asks caller setting keys its asked w w2.memory c c2 blocks blocks2 stays setting.root map.map.shows Unchanged Unchanged p facts.code facts.may.1 word k.1 both.0 (p2, progress) refused_so
      k.0 k.2 both.1.0 both.1.1 both.1.2 s).0
  by_point at.Makes here both k no_row m s = absurd k
  by_point at.Roots here both k no_row m s = absurd k
  by_point (at.Helps copier goal) here both k no_row m s = absurd k
  by_point (at.Counts removed) here h k no_row m s = absurd k
  by_point (at.Disposes d answer) here h k no_row m s = absurd k
  by_point (at.Drops end) here h k no_row m s = absurd k
  by_point (at.Over end) here h k no_row m s = absurd k

  pub late_told_after : RemembersReplies hash w.memory c blocks its asked Unchanged p p.stands → To p2 progress
  late_told_after keeps = by_point p.stands refl keeps facts.point row may steps

-- A step of a call that asks, in a table that the root has left: it comes to ask about no pair there.
use Rattle.std.specs.Prelude.{◌≡◌, ◌≢◌, ℕ, ◌<◌, ◌^◌, ◌⊎◌, Bool, false, List, Option, Some, None}
use Rattle.std.proofs.Common.{refl, sym, subst, inl, inr}
use Rattle.seize_model.specs.Given.SeizeWordsMem.{Took, value_at}
use Rattle.seize_model.specs.Given.SeizeWordsPlan.{Steps}
use Rattle.seize_model.specs.Given.SeizeWorld.{World}
use Rattle.map_facts_late.specs.Given.TablesDeclared.node.Node.{Node}
use Rattle.map_facts_late.specs.Given.TablesDeclared.setting.Setting.{Setting}
use Rattle.map_facts_late.specs.Given.RawCall.{call_plan, plan_at}
use Rattle.map_facts_late.specs.Given.RawCallPoints.{standing}
use Rattle.map_facts_late.specs.Given.RawDeclared.machines.answer.Called.{Called}
use Rattle.map_facts_late.specs.Given.RawDeclared.machines.answer.Called.TheVariants as called
use Rattle.map_facts_late.specs.Given.RawDeclared.machines.answer.End.{End}
use Rattle.map_facts_late.specs.Given.RawDeclared.machines.asking.Asking.TheVariants as asking
use Rattle.map_facts_late.specs.Given.RawDeclared.machines.asking.Replies.{Replies}
use Rattle.map_facts_late.specs.Given.RawDeclared.machines.asking.Takes.TheVariants as takes
use Rattle.map_facts_late.specs.Given.RawDeclared.machines.call.KeyCall.{KeyCall}
use Rattle.map_facts_late.specs.Given.RawDeclared.machines.call.Calling.{Calling}
use Rattle.map_facts_late.specs.Given.RawDeclared.machines.call.Calling.TheVariants as at
use Rattle.map_facts_late.specs.Given.RuleChart.{Chart}
use Rattle.map_facts_late.specs.Given.RuleWords.{Blocks}
use Rattle.map_facts_late.specs.Given.RuleInWorld.{IsMapIn}
use Rattle.map_facts_late.specs.Given.PointsFactsCalls.{Unchanged, NamesPair, CallingFacts, CallFacts}
use Rattle.map_facts_late.specs.LateCalls.{SupersededCalling, SupersededCallFacts}
use Rattle.map_facts_late.specs.LateTold.{SupersededCallAfter}
use Rattle.many_calls.specs.Asked.{Asked, IsAsReplied, DoesAsReplied, RemembersReplies}
use Rattle.many_calls.specs.AskedOnce.{AskedAt}
use Rattle.many_calls.proofs.Asked.Stays.{Stays}
use Rattle.many_calls.proofs.Asked.Goes.{GoesBy, DoesBy}
use Rattle.many_calls.proofs.Asked.Walks.{RoomsAt, IsSeeking, Read, Walked, walked}
use Rattle.many_calls.proofs.Asked.By.{named_or}
use Rattle.many_calls.proofs.Asked.Fills.{fills_told, gives_up_told}
use Rattle.many_calls.proofs.Asked.Steps.{looks_alone}
use Rattle.many_calls.proofs.Once.Stays.{OnceTo, AllGoneOr, same_recall, asked_as, asked_on}
use Rattle.many_calls.proofs.Once.News.{late_names_none}
use Rattle.many_calls.proofs.Once.Steps.{changed_once}

module _ {K V Q : Type 0} (same : K → K → Bool) (hash : K → ℕ) (setting : Setting) (caller : ℕ) (asks : Q → K → Bool) (w w2 : World (Node K V)) (c c2 : Chart K) (blocks blocks2 : Blocks)
    (map : IsMapIn same hash setting w c blocks) (stays : Stays w.memory w2.memory c c2 blocks blocks2)
    (gone : (n : ℕ) → n < c.stored → c.current n ≡ false → c2.current n ≡ false)
    (fits : (k : K) → hash k < 2 ^ 64) (keys : K → Bool) (began : ℕ) (its : Option K) (asked : List (Asked V)) (key : K) (p p2 : KeyCall K V Q) (progress : Called (Node K V))
    (facts : SupersededCallFacts same hash asks w caller setting c blocks keys began p) (after : SupersededCallAfter same hash asks caller setting keys began w2 c2 blocks2 p2 progress)
    (steps : Steps Took value_at w.memory (call_plan asks same hash p) w2.memory (p2, progress)) (rooms : RoomsAt p.stands) where
  abbrev To : KeyCall K V Q → Called (Node K V) → Type 0
  To = OnceTo hash c2 blocks2 keys asked (Some key)

  abbrev After : KeyCall K V Q → Called (Node K V) → Type 0
  After = SupersededCallAfter same hash asks caller setting keys began w2 c2 blocks2

  abbrev Keeps : Calling → Type 0
  Keeps = RemembersReplies hash w.memory c blocks its asked Unchanged p

  abbrev At : Calling → Type 0
  At = AskedAt hash c blocks keys asked p.replies

  abbrev Facts2 : Type 0
  Facts2 = CallFacts same hash asks w2 caller setting c2 blocks2 keys Unchanged p2 ⊎ SupersededCallFacts same hash asks w2 caller setting c2 blocks2 keys began p2

  abbrev Ending : KeyCall K V Q × Called (Node K V) → Type 0
  Ending e = To e.0 e.1

  abbrev AsTold : Calling → Type 0
  AsTold stands = IsAsReplied hash w.memory c blocks its asked p.replies p.own × DoesAsReplied hash w.memory c blocks its asked p.replies p.own stands

  by_progress : (q : KeyCall K V Q) (x : Called (Node K V)) → AskedAt hash c2 blocks2 keys asked q.replies q.stands → To q x
  by_progress q called.Goes h = h
  by_progress q called.Waits h = h
  by_progress q (called.Gave value) h = tt
  by_progress q (called.Unstored value) h = h
  by_progress q (called.Asks pair) h = h
  by_progress q (called.Done answer) h = tt
  by_progress q (called.Refused fault) h = tt

  -- it asks again
  again_so : At p.stands → (pair : Option ℕ) → ◌≡◌ {A = KeyCall K V Q × Called (Node K V)} (p2, progress) (p, called.Asks pair) → To p2 progress
  again_so before pair end = subst Ending (sym end) (asked_on hash w.memory w2.memory c c2 blocks blocks2 keys asked stays gone p.replies p.stands before)

  refused_so : (q : KeyCall K V Q) (end : End) (back : Node K V) → ◌≡◌ {A = KeyCall K V Q × Called (Node K V)} (p2, progress) (standing q (at.Over end), called.Unstored back) → Unchanged ≡ Unchanged
  refused_so q end back is = refl

  -- the word names a pair that is not marked
  names_in : (word : ℕ) → p2.stands ≡ at.Asks (asking.Present word) → Facts2 → NamesPair same hash asks w2 caller setting c2 blocks2 keys Unchanged word
  names_in word here (inl f) = (subst (CallingFacts same hash asks w2 caller setting c2 blocks2 keys Unchanged p2) here f.point).2
  names_in word here (inr f) = (subst (SupersededCalling same hash asks w2 caller setting c2 blocks2 keys began p2) here f.point).2

  -- it goes on seeking, and has not read such a word
  module _ (all : AllGoneOr hash w.memory w2.memory c c2 blocks blocks2 keys asked stays gone p.replies) (Words : ℕ → Type 0)
      (none : (word : ℕ) → Words word → NamesPair same hash asks w2 caller setting c2 blocks2 keys Unchanged word → ⊥) where
    on : (stands : Calling) → p2.stands ≡ stands → DoesBy Words p.replies p.own stands → Facts2 → AskedAt hash c2 blocks2 keys asked p.replies stands
    on (at.Asks (asking.Present word)) here does f = absurd (none word does.0 (names_in word here f))
    on stands here does f = asked_as hash w.memory w2.memory c c2 blocks blocks2 keys asked stays gone p.replies p.replies (same_recall p.replies) all stands tt

    seeks_so : GoesBy Words p (p2, progress) → To p2 progress
    seeks_so does = by progress after
      where
        then_on : Facts2 → AskedAt hash c2 blocks2 keys asked p2.replies p2.stands
        then_on f = subst (λ (x : ℕ × Replies K V). AskedAt hash c2 blocks2 keys asked x.1 p2.stands) (sym does.0) (on p2.stands refl does.1 f)

        by : (x : Called (Node K V)) → After p2 x → To p2 x
        by called.Goes f = then_on f
        by called.Waits f = then_on f
        by (called.Gave value) f = tt
        by (called.Unstored value) f = then_on f
        by (called.Asks pair) f = then_on f
        by (called.Done answer) f = tt
        by (called.Refused fault) f = tt

  none_read : (more : p.replies.takes ≢ takes.Nothing) (stands : Calling) → SupersededCalling same hash asks w caller setting c blocks keys began p stands → (word : ℕ)
      → Read same hash asks p facts.may.0 more w.memory w2.memory (p2, progress) stands word → NamesPair same hash asks w2 caller setting c2 blocks2 keys Unchanged word → ⊥
  none_read more at.Probes k word read names = late_names_none same hash setting facts.blocking w c c2 blocks blocks2 map keys p.hash began p.trial k.1 word names.0 names.2 read names.7
  none_read more (at.Tries old new) k word read names = late_names_none same hash setting facts.blocking w c c2 blocks blocks2 map keys p.hash began p.trial k.1 word names.0 names.2 read names.7
  none_read more _ k word read names = absurd read

  seeking_so : (stands : Calling) → p.stands ≡ stands → IsSeeking stands → AsTold stands → AllGoneOr hash w.memory w2.memory c c2 blocks blocks2 keys asked stays gone p.replies
      → SupersededCalling same hash asks w caller setting c blocks keys began p stands → At p.stands → Steps Took value_at w.memory (plan_at asks same hash p stands) w2.memory (p2, progress) → To p2 progress
  seeking_so stands here seeking both all k before s = by (walked same hash asks p facts.may.0 both.0.asks w.memory w2.memory (p2, progress) stands seeking (subst RoomsAt here rooms) s)
    where
      by : Walked same hash asks p facts.may.0 both.0.asks w.memory w2.memory (p2, progress) stands → To p2 progress
      by (inl does) = seeks_so all (Read same hash asks p facts.may.0 both.0.asks w.memory w2.memory (p2, progress) stands) (none_read both.0.asks stands k) does
      by (inr (inl (pair, end))) = again_so before pair end
      by (inr (inr (word, new, is, end))) = subst Ending (sym end) (changed_once hash c2 blocks2 keys asked key p word new)

  by_point : (stands : Calling) → p.stands ≡ stands → Keeps stands → At stands → SupersededCalling same hash asks w caller setting c blocks keys began p stands
      → Steps Took value_at w.memory (plan_at asks same hash p stands) w2.memory (p2, progress) → To p2 progress
  by_point (at.Looks l) here both all k s = absurd (both.0.asks (looks_alone p.replies.takes p.there p.missing k.2 k.1 facts.may.0))
  by_point at.Probes here both all k s = seeking_so at.Probes here tt both all k (subst At (sym here) all) s
  by_point (at.Tries word new) here both all k s = seeking_so (at.Tries word new) here tt both all k (subst At (sym here) all) s
  by_point at.Nexts here both all k s = seeking_so at.Nexts here tt both all k (subst At (sym here) all) s
  by_point (at.Firsts making) here both all k s = seeking_so (at.Firsts making) here tt both all k (subst At (sym here) all) s
  by_point (at.Allocs making) here both all k s = seeking_so (at.Allocs making) here tt both all k (subst At (sym here) all) s
  by_point (at.Copies copier) here both all k s = seeking_so (at.Copies copier) here tt both all k (subst At (sym here) all) s
  by_point (at.Asks (asking.Absent gap)) here both all k s = again_so (subst At (sym here) all) None s.1
  by_point (at.Asks (asking.Present word)) here both all k s = again_so (subst At (sym here) all) (Some word) s.1
  by_point (at.Asks (asking.Fills word)) here both all k s =
      let d = fills_told same hash fits asks caller setting keys its asked w w2.memory c c2 blocks blocks2 stays setting.root map.map.shows Unchanged Unchanged p facts.code facts.may.1 word k.1 both.0 (p2, progress) refused_so
      both.1 (named_or hash fits w.memory c blocks its asked setting.root map.map.shows same asks keys w caller setting Unchanged p word k.3) k.2.0 k.2.1 s k.0 in
      by_progress p2 progress (asked_as hash w.memory w2.memory c c2 blocks blocks2 keys asked stays gone p.replies p2.replies d.1 all p2.stands d.2)
  by_point (at.Asks (asking.GivesUp word)) here both all k s =
      let d = gives_up_told same hash fits asks caller setting keys its asked w w2.memory c c2 blocks blocks2 stays setting.root map.map.shows Unchanged Unchanged p facts.code facts.may.1 word k.1 both.0 (p2, progress) refused_so
      k.0 k.2 both.1.0 both.1.1 both.1.2 s in
      by_progress p2 progress (asked_as hash w.memory w2.memory c c2 blocks blocks2 keys asked stays gone p.replies p2.replies d.1 all p2.stands d.2)
  by_point at.Makes here both all k s = absurd k
  by_point at.Roots here both all k s = absurd k
  by_point (at.Helps copier goal) here both all k s = absurd k
  by_point (at.Counts removed) here h all k s = absurd k
  by_point (at.Disposes d answer) here h all k s = absurd k
  by_point (at.Drops end) here h all k s = absurd k
  by_point (at.Over end) here h all k s = absurd k

  pub late_once_after : Keeps p.stands → At p.stands → To p2 progress
  late_once_after keeps all = by_point p.stands refl keeps all facts.point steps

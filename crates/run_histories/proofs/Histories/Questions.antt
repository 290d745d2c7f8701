-- What calls have asked is what they got replies to, and what they ask now, as a run goes on.
use Rattle.std.specs.Prelude.{◌≡◌, ℕ, ◌+◌, Bool, true, false, cond, not, List, [], ◌∷◌, ◌++◌, filter, find, map, Option, Some, None, if◌then◌else◌}
use Rattle.std.proofs.Common.{refl, ap, sym, subst, ◌∙◌}
use Rattle.run_places.specs.Given.RunsSame.{is_same}
use Rattle.run_places.specs.Given.RunsDeclared.call.Call.{Call}
use Rattle.run_places.specs.Given.RunsDeclared.call.Call.TheVariants as call
use Rattle.run_places.specs.Given.RunsDeclared.call.Reply.{Reply}
use Rattle.run_places.specs.Given.RunsDeclared.effect.Effect.{Effect}
use Rattle.run_places.specs.Given.RunsDeclared.effect.Effect.TheVariants as effect
use Rattle.run_places.specs.Given.RunsDeclared.event.Event.{Event}
use Rattle.run_places.specs.Given.RunsDeclared.event.Event.TheVariants as event
use Rattle.run_places.specs.Given.RunsDeclared.outcome.Outcome.{Outcome}
use Rattle.run_places.specs.Given.RunsDeclared.outcome.Outcome.TheVariants as outcome
use Rattle.run_places.specs.Given.SchedulesAfter.{asks_on, with_outcome, without_call, stepped, replied, calls_on, moment}
use Rattle.run_places.specs.Given.SchedulesBeginning.{fresh_call, with_call, begun, at_work}
use Rattle.run_places.specs.Given.SchedulesEffects.{due_for, call_by, calls_by, with_effect, with_effects, worked}
use Rattle.run_places.specs.Given.SchedulesEntry.{Entry, is_busy, ends_call, nameless, caller_of, acting, acted_on, IfCall}
use Rattle.run_places.specs.Given.SchedulesMoment.{CallState, Going, Asking, Told, IsReady, UnderWay as CallThere, Moment}
use Rattle.run_places.specs.Given.SchedulesViews.{number_of}
use Rattle.run_places.proofs.Given.FollowsCalling.{is_same_is, found_passes, replied_same, come, come_of_same}
use Rattle.run_places.proofs.Given.FollowsCalls.{IsOfSame, changed_same, changed, of_same}
use Rattle.run_histories.specs.Histories.Questions.{unanswered, replied_to, GoesItself, AsksStill, HasAskedJust, EventAsksStill, QuestionsBegin, EffectsPreserveQuestions, CallsBeginQuestions, CallsTakeQuestions, CallsComeToQuestions, EventsPreserveQuestions}
use Rattle.run_places.specs.Given.SchedulesTransition.{further}
use Rattle.run_places.proofs.Given.General.{same_some as one_of}

-- one that goes on does not ask
quiet : (V : Type 0) (stands : CallState) (o : Outcome V) → GoesItself o → AsksStill stands o → unanswered stands ≡ []
quiet V Going o goes still = refl
quiet V (Asking q) o goes still = absurd (still goes)
quiet V Told o goes still = refl
quiet V IsReady o goes still = refl

module _ {X : Type 0} (test keep : X → Bool) where
  -- what is looked for is kept, or none of it is
  found_still : ((x : X) → test x ≡ true → keep x ≡ true) → (xs : List X) → find test (filter keep xs) ≡ find test xs
  found_still all [] = refl
  found_still all (x ∷ xs) = by (keep x) refl (found_still all xs)
    where
      Goal : Bool → Type 0
      Goal z = find test (if z then x ∷ filter keep xs else filter keep xs) ≡ cond (test x) (Some x) (find test xs)

      by : (z : Bool) → keep x ≡ z → find test (filter keep xs) ≡ find test xs → Goal (keep x)
      by true e further = subst Goal (sym e) (ap (λ (o : Option X). cond (test x) (Some x) o) further)
      by false e further = subst Goal (sym e) (at (test x) refl)
        where
          at : (y : Bool) → test x ≡ y → find test (filter keep xs) ≡ cond (test x) (Some x) (find test xs)
          at true f = absurd (let kept = all x f in cc (kept, e))
          at false f = further ∙ sym (ap (λ y. cond y (Some x) (find test xs)) f)

  none_left : ((x : X) → test x ≡ true → keep x ≡ false) → (xs : List X) → find test (filter keep xs) ≡ None
  none_left all [] = refl
  none_left all (x ∷ xs) = by (keep x) refl (none_left all xs)
    where
      Goal : Bool → Type 0
      Goal z = find test (if z then x ∷ filter keep xs else filter keep xs) ≡ None

      by : (z : Bool) → keep x ≡ z → find test (filter keep xs) ≡ None → Goal (keep x)
      by false e further = subst Goal (sym e) further
      by true e further = subst Goal (sym e) (at (test x) refl)
        where
          at : (y : Bool) → test x ≡ y → cond (test x) (Some x) (find test (filter keep xs)) ≡ None
          at true f = absurd (let gone = all x f in cc (gone, e))
          at false f = ap (λ y. cond y (Some x) (find test (filter keep xs))) f ∙ further

module _ {K V : Type 0} where
  -- a call that is found in one of these ways has asked just that
  abbrev AllJust : List (CallThere K V) → Type 0
  AllJust calls = (own : List ℕ) (c : CallThere K V) → find (λ x. is_same x.caller own) calls ≡ Some c → HasAskedJust c

  -- one that has asked the same, and got the same replies, has it as well
  abbrev AsksAlike : CallThere K V → CallThere K V → Type 0
  AsksAlike c d = (d.asked ≡ c.asked) × (d.stands ≡ c.stands) × (d.replies ≡ c.replies)

  alike_just : (c d : CallThere K V) → AsksAlike c d → HasAskedJust c → HasAskedJust d
  alike_just c d alike h =
      alike.0 ∙ h ∙ ap (λ (z : CallState). unanswered z ++ replied_to c.replies) (sym alike.1) ∙ ap (λ (r : List (Option ℕ × Reply V)). unanswered d.stands ++ replied_to r) (sym alike.2)

  due_alike : (its : Call K V) (c : CallThere K V) (old : Option ℕ) (new : ℕ) → AsksAlike c (due_for its c old new)
  due_alike (call.On one) c old new = (refl, refl, refl)
  due_alike (call.Reserve n) c old new = (refl, refl, refl)
  due_alike call.Clear c old new = (refl, refl, refl)
  due_alike call.Retain c old new = (refl, refl, refl)
  due_alike call.Len c old new = (refl, refl, refl)
  due_alike call.Walk c old new = (refl, refl, refl)

  effect_alike : (m : Moment K V) (f : Effect) (c : CallThere K V) → AsksAlike c (call_by m f c)
  effect_alike m (effect.Asked growth) c = (refl, refl, refl)
  effect_alike m effect.PairMade c = (refl, refl, refl)
  effect_alike m effect.PairGivenUp c = (refl, refl, refl)
  effect_alike m (effect.TableMade t) c = (refl, refl, refl)
  effect_alike m (effect.TableGivenUp t) c = (refl, refl, refl)
  effect_alike m (effect.Linked t shape) c = (refl, refl, refl)
  effect_alike m (effect.Promoted t) c = (refl, refl, refl)
  effect_alike m (effect.Copied n s) c = (refl, refl, refl)
  effect_alike m (effect.Stored n s) c = let it = due_alike c.call c c.replacing n in (it.0, it.1, it.2)
  effect_alike m (effect.Replaced n) c = (refl, refl, refl)
  effect_alike m (effect.Removed n) c = let it = due_alike c.call c (Some n) _ in (it.0, it.1, it.2)
  effect_alike m (effect.Counted s) c = (refl, refl, refl)
  effect_alike m (effect.Deferred n t) c = (refl, refl, refl)
  effect_alike m (effect.Retired x) c = (refl, refl, refl)
  effect_alike m (effect.Reclaimed x) c = (refl, refl, refl)
  effect_alike m (effect.Ended n) c = (refl, refl, refl)
  effect_alike m (effect.Taken t) c = (refl, refl, refl)

  -- calls of one name have changed
  module _ (change : CallThere K V → CallThere K V) (same : (c : CallThere K V) → IsOfSame c (change c)) (own name : List ℕ) where
    -- each that is found was found before
    found_back : (cs : List (CallThere K V)) (d : CallThere K V) → find (λ x. is_same x.caller name) (map (changed change same own) cs) ≡ Some d
        → (c : CallThere K V) × (find (λ x. is_same x.caller name) cs ≡ Some c) × (changed change same own c ≡ d)
    found_back [] d is = absurd (cc is)
    found_back (x ∷ cs) d is = by (is_same x.caller name) refl (λ later. found_back cs d later)
      where
        rest : Option (CallThere K V)
        rest = find (λ y. is_same y.caller name) (map (changed change same own) cs)

        tested : (q : Bool) → is_same x.caller name ≡ q → cond q (Some (changed change same own x)) rest ≡ Some d
        tested q e = sym (ap (λ z. cond z (Some (changed change same own x)) rest) (ap (λ (l : List ℕ). is_same l name) (of_same change same own x).0 ∙ e)) ∙ is

        by : (q : Bool) → is_same x.caller name ≡ q → (rest ≡ Some d → (c : CallThere K V) × (find (λ y. is_same y.caller name) cs ≡ Some c) × (changed change same own c ≡ d))
            → (c : CallThere K V) × (find (λ y. is_same y.caller name) (x ∷ cs) ≡ Some c) × (changed change same own c ≡ d)
        by true e further = (x, ap (λ z. cond z (Some x) (find (λ y. is_same y.caller name) cs)) e, one_of (changed change same own x) d (tested true e))
        by false e further = let later = further (tested false e) in (later.0, ap (λ z. cond z (Some x) (find (λ y. is_same y.caller name) cs)) e ∙ later.1, later.2)

  -- so all have it that had it, if that leaves the one of this name so
  changed_just : (change : CallThere K V → CallThere K V) (same : (c : CallThere K V) → IsOfSame c (change c)) (own : List ℕ) (cs : List (CallThere K V))
      → ((c : CallThere K V) → find (λ x. is_same x.caller own) cs ≡ Some c → HasAskedJust c → HasAskedJust (change c)) → AllJust cs → AllJust (map (changed change same own) cs)
  changed_just change same own cs keeps all name d is = subst HasAskedJust was.2 (by (is_same was.0.caller own) refl)
    where
      was : (c : CallThere K V) × (find (λ x. is_same x.caller name) cs ≡ Some c) × (changed change same own c ≡ d)
      was = found_back change same own name cs d is

      by : (q : Bool) → is_same was.0.caller own ≡ q → HasAskedJust (if q then change was.0 else was.0)
      by true e =
          let its_name = is_same_is was.0.caller name (found_passes (λ x. is_same x.caller name) (λ x. true) cs was.0 was.1) in
          let names : name ≡ own = sym its_name ∙ is_same_is was.0.caller own e in
          keeps was.0 (ap (λ (l : List ℕ). find (λ x. is_same x.caller l) cs) (sym names) ∙ was.1) (all name was.0 was.1)
      by false e = all name was.0 was.1

  -- and so it is where a call has ended
  ended_just : (own : List ℕ) (cs : List (CallThere K V)) → AllJust cs → AllJust (without_call own cs)
  ended_just own cs all name d is = by (is_same name own) refl
    where
      by : (q : Bool) → is_same name own ≡ q → HasAskedJust d
      by true e =
          absurd (let names = is_same_is name own e in
          let none = none_left (λ (x : CallThere K V). is_same x.caller name) (λ x. not (is_same x.caller own))
          (λ x f. ap not (ap (λ (l : List ℕ). is_same x.caller l) (sym names) ∙ f)) cs in cc (none, is))
      by false e =
          all name d (sym (found_still (λ (x : CallThere K V). is_same x.caller name) (λ x. not (is_same x.caller own))
          (λ x f. ap not (ap (λ (l : List ℕ). is_same l own) (is_same_is x.caller name f) ∙ e)) cs) ∙ is)

  -- a call that was told something
  replied_just : (reply : Reply V) (c : CallThere K V) (stands : CallState) → c.stands ≡ stands → HasAskedJust c → HasAskedJust (replied reply c stands)
  replied_just reply c Going e h = h
  replied_just reply c (Asking q) e h = h ∙ ap (λ (z : CallState). unanswered z ++ replied_to c.replies) e
  replied_just reply c Told e h = h
  replied_just reply c IsReady e h = h

  -- one that asks
  asks_just : (question : Option ℕ) (c : CallThere K V) (stands : CallState) → c.stands ≡ stands → HasAskedJust c → HasAskedJust (asks_on question c stands)
  asks_just question c (Asking q) e h = h
  asks_just question c Going e h = ap (λ l. question ∷ l) (h ∙ ap (λ (z : CallState). unanswered z ++ replied_to c.replies) e)
  asks_just question c Told e h = ap (λ l. question ∷ l) (h ∙ ap (λ (z : CallState). unanswered z ++ replied_to c.replies) e)
  asks_just question c IsReady e h = ap (λ l. question ∷ l) (h ∙ ap (λ (z : CallState). unanswered z ++ replied_to c.replies) e)

  -- and one that has come to an outcome
  come_just : (o : Outcome V) (c : CallThere K V) → AsksStill c.stands o → HasAskedJust c → HasAskedJust (with_outcome o c)
  come_just outcome.Done c still h = h
  come_just (outcome.Slot n) c still h = h
  come_just outcome.Goes c still h = h ∙ ap (λ (l : List (Option ℕ)). l ++ replied_to c.replies) (quiet V c.stands outcome.Goes tt still)
  come_just (outcome.Asks question) c still h = asks_just question c c.stands refl h
  come_just outcome.Waits c still h = h ∙ ap (λ (l : List (Option ℕ)). l ++ replied_to c.replies) (quiet V c.stands outcome.Waits tt still)
  come_just outcome.Ready c still h = h ∙ ap (λ (l : List (Option ℕ)). l ++ replied_to c.replies) (quiet V c.stands outcome.Ready tt still)
  come_just (outcome.Shows n) c still h = h
  come_just (outcome.Answered a) c still h = h
  come_just (outcome.Shape tables) c still h = h
  come_just (outcome.Refused fault) c still h = h

  told_just : (own : List ℕ) (reply : Reply V) (cs : List (CallThere K V)) → AllJust cs → AllJust (map (λ (c : CallThere K V). if is_same c.caller own then replied reply c c.stands else c) cs)
  told_just own reply cs all = changed_just (λ c. replied reply c c.stands) (λ c. replied_same reply c c.stands) own cs (λ c is h. replied_just reply c c.stands refl h) all

  abbrev StillAt : List ℕ → List (CallThere K V) → Outcome V → Type 0
  StillAt own cs o = (c : CallThere K V) → find (λ x. is_same x.caller own) cs ≡ Some c → AsksStill c.stands o

  stepped_just : (own : List ℕ) (o : Outcome V) (steps : ℕ) (cs : List (CallThere K V)) → StillAt own cs o → AllJust cs → AllJust (stepped (Some own) o steps cs)
  stepped_just own o steps cs still all = by (ends_call o)
    where
      by : (q : Bool) → AllJust (if q then without_call own cs else map (λ (c : CallThere K V). if is_same c.caller own then come o steps c else c) cs)
      by true = ended_just own cs all
      by false = changed_just (come o steps) (come_of_same o steps) own cs (λ c is h. come_just o (record c { steps = c.steps + steps }) (still c is) h) all

  fresh_just : (own guard : List ℕ) (its : Call K V) (of : ℕ) (m : Moment K V) → AllJust m.calls → AllJust (fresh_call own guard its of m.events ∷ m.calls)
  fresh_just own guard its of m all name d is = by (is_same own name) refl
    where
      fresh : CallThere K V
      fresh = fresh_call own guard its of m.events

      tested : (q : Bool) → is_same own name ≡ q → cond q (Some fresh) (find (λ x. is_same x.caller name) m.calls) ≡ Some d
      tested q e = sym (ap (λ z. cond z (Some fresh) (find (λ x. is_same x.caller name) m.calls)) e) ∙ is

      by : (q : Bool) → is_same own name ≡ q → HasAskedJust d
      by true e = subst HasAskedJust (one_of fresh d (tested true e)) refl
      by false e = all name d (tested false e)

  with_just : (own guard : List ℕ) (its : Call K V) (of : Option ℕ) (m : Moment K V) → AllJust m.calls → AllJust (with_call own guard its of m).calls
  with_just own guard its None m all = all
  with_just own guard its (Some of) m all = fresh_just own guard its of m all

  effects_just : (own : Option (List ℕ)) (of : Option ℕ) (effects : List Effect) (m : Moment K V) → AllJust m.calls → AllJust (with_effects own of effects m).calls
  effects_just own of [] m all = all
  effects_just own of (f ∷ effects) m all = effects_just own of effects (with_effect own of f m) (one own)
    where
      one : (o : Option (List ℕ)) → AllJust (calls_by o (call_by m f) m.calls)
      one None = all
      one (Some name) = changed_just (call_by m f) (changed_same m f) name m.calls (λ c is h. alike_just c (call_by m f c) (effect_alike m f c) h) all

  -- what an event begins
  begun_just : (e : Event K V) (o : Outcome V) (m : Moment K V) → AllJust m.calls → AllJust (begun e o m).calls
  begun_just (event.Begin caller guard of its) outcome.Goes m all = with_just caller guard its (number_of of m) m all
  begun_just (event.Begin caller guard of its) _ m all = all
  begun_just (event.OneCall guard of its) o m all = by (is_busy o)
    where
      by : (q : Bool) → AllJust (if q then m else with_call nameless guard its (number_of of m) m).calls
      by true = all
      by false = with_just nameless guard its (number_of of m) m all
  begun_just (event.MakeMap of mode capacity) outcome.Done m all = all
  begun_just (event.MakeMap of mode capacity) _ m all = all
  begun_just _ o m all = all

  -- and what it comes to
  event_just : (e : Event K V) (o : Outcome V) (steps : ℕ) (cs : List (CallThere K V)) → ((own : List ℕ) → caller_of e ≡ Some own → StillAt own cs o) → AllJust cs → AllJust (calls_on e o steps cs)
  event_just (event.Replied caller reply) outcome.Goes steps cs still all = told_just caller reply cs all
  event_just (event.Replied caller reply) _ steps cs still all = all
  event_just (event.Stop caller) outcome.Done steps cs still all = ended_just caller cs all
  event_just (event.Stop caller) _ steps cs still all = all
  event_just (event.OneCall guard of its) o steps cs still all = stepped_just nameless o steps cs (still nameless refl) all
  event_just (event.Step caller refuse) o steps cs still all = stepped_just caller o steps cs (still caller refl) all
  event_just (event.Go caller refuse) o steps cs still all = stepped_just caller o steps cs (still caller refl) all
  event_just (event.Next caller) o steps cs still all = stepped_just caller o steps cs (still caller refl) all
  event_just _ o steps cs still all = all

  after_just : (log : List (Entry K V)) (e : Entry K V) → EventAsksStill log e → AllJust (moment log).calls → AllJust (moment (e ∷ log)).calls
  after_just log e still all =
      event_just e.event e.outcome e.steps (worked e (moment log)).calls
      (λ own is c c_is. subst (IfCall (λ (x : CallThere K V). AsksStill x.stands e.outcome)) c_is (subst (λ (o : Option (List ℕ)). IfCall (λ (x : CallThere K V). AsksStill x.stands e.outcome) (acting o (worked e (moment log)))) is still))
      (effects_just (caller_of e.event) (acted_on e.event (at_work e (moment log))) e.effects (at_work e (moment log)) (begun_just e.event e.outcome (moment log) all))

module _ (K V : Type 0) where
  pub questions_begin : QuestionsBegin K V
  questions_begin own c is = absurd (cc is)

  pub effects_keep_questions : EffectsPreserveQuestions K V
  effects_keep_questions own of effects m all = effects_just own of effects m all

  pub calls_begin_questions : CallsBeginQuestions K V
  calls_begin_questions own guard its of m all = with_just own guard its of m all

  pub calls_take_questions : CallsTakeQuestions K V
  calls_take_questions own reply m all = told_just own reply m.calls all

  pub calls_come_to_questions : CallsComeToQuestions K V
  calls_come_to_questions own o steps m all still = stepped_just own o steps m.calls still all

  pub events_keep_questions : EventsPreserveQuestions K V
  events_keep_questions log e all still = after_just log e still all

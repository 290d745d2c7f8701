-- Where a call begins, or has come to an outcome, each call under way was asked and told as the moment says.
use Rattle.std.specs.Prelude.{◌≡◌, ℕ, ◌+◌, Bool, true, false, cond, not, List, [], find, map, Option, Some, if◌then◌else◌, ◌⊎◌}
use Rattle.std.proofs.Common.{refl, ap, sym, subst, ◌∙◌, inl, inr}
use Rattle.run_shows.specs.Given.RunsSame.{is_same}
use Rattle.run_shows.specs.Given.RunsDeclared.call.Call.{Call}
use Rattle.run_shows.specs.Given.RunsDeclared.call.Call.TheVariants as call
use Rattle.run_shows.specs.Given.RunsDeclared.call.OneKey.{OneKey}
use Rattle.run_shows.specs.Given.RunsDeclared.outcome.Outcome.{Outcome}
use Rattle.run_shows.specs.Given.RunsDeclared.outcome.Outcome.TheVariants as outcome
use Rattle.run_shows.specs.Given.SchedulesAfter.{asks_on, without_call}
use Rattle.run_shows.specs.Given.SchedulesBeginning.{fresh_call, with_call}
use Rattle.run_shows.specs.Given.SchedulesEntry.{ends_call}
use Rattle.run_shows.specs.Given.SchedulesMoment.{CallState, Going, Asking, Told, IsReady, UnderWay as CallThere, Moment}
use Rattle.run_shows.specs.Given.SchedulesViews.{call_of}
use Rattle.run_shows.specs.Given.CallersTogether.{CallOnKey, UnderWay, OnKey, ForRoom, Counting, OverAll}
use Rattle.run_shows.specs.Given.EffectsKnown.{Known}
use Rattle.run_shows.specs.Given.FinishesMaps.{Standing, with_call as with_in}
use Rattle.run_shows.specs.Follows.Calling.{NoneNamed, come_to}
use Rattle.run_shows.specs.Follows.Shows.{Refines}
use Rattle.run_shows.proofs.Follows.Calling.{is_same_refl, is_same_is, apart_back, found_passes, found_kept, begins_with, come, come_of_same, come_with}
use Rattle.run_shows.proofs.Follows.Calls.{changed, found}
use Rattle.run_places.specs.Hands.Asked.{AreReplies, AsksThere, IsAskedOn, IsAskedAs, IsAsked, RefinesAsked}
use Rattle.run_places.specs.Hands.Calling.{IsBegunFor, AsksJust, CallsBeginFor, CallsComeToSo}
use Rattle.run_places.proofs.Hands.Asking.{which}
use Rattle.run_places.proofs.Hands.RowsOn.{rows_with}
use Rattle.run_places.specs.Hands.Rows.{ReclaimsNone, HoldsOne, KeepsOne}
use Rattle.run_places.proofs.Hands.HandsOn.{hands_with}
use Rattle.run_shows.specs.Scenes.Scene.{Scene, slot_of}
use Rattle.run_shows.proofs.Given.General.{same_some as one_of}

module _ {K V : Type 0} (number : ℕ → ℕ) (stored : ℕ) (known : Known) where
  -- a call that begins was told nothing
  fresh_asked : (u : UnderWay K V K) (its : Call K V) (caller guard : List ℕ) (map events : ℕ) → IsBegunFor u its → IsAsked number stored known u (fresh_call caller guard its map events)
  fresh_asked (OnKey u) (call.On one) caller guard map events begun =
      record { asked = []; given = begun; replies = tt; first = λ k. refl; replacing = refl; asks = λ q stands. absurd (let no : Going ≡ Asking q = stands in cc no) }
  fresh_asked (OnKey u) (call.Reserve n) caller guard map events begun = tt
  fresh_asked (OnKey u) call.Clear caller guard map events begun = tt
  fresh_asked (OnKey u) call.Retain caller guard map events begun = tt
  fresh_asked (OnKey u) call.Len caller guard map events begun = tt
  fresh_asked (OnKey u) call.Walk caller guard map events begun = tt
  fresh_asked (ForRoom r) its caller guard map events begun = tt
  fresh_asked (Counting sum) its caller guard map events begun = tt
  fresh_asked (OverAll o) its caller guard map events begun = tt

  -- a call that stands elsewhere, and asks just what it is said to ask, if anything
  module _ (u : CallOnKey K V K) (c d : CallThere K V) (its : d.call ≡ c.call) (replies : d.replies ≡ c.replies) (replacing : d.replacing ≡ c.replacing)
      (asks : (q : Option ℕ) → d.stands ≡ Asking q → (c.stands ≡ Asking q) ⊎ AsksThere known u.call.stands q) where
    one_stands : (one : OneKey K V) → IsAskedOn number stored known u one c → IsAskedOn number stored known u one d
    one_stands one h = record {
      asked = h.asked;
      given = h.given;
      replies = subst (AreReplies number stored h.asked) (sym replies) h.replies;
      first = h.first;
      replacing = replacing ∙ h.replacing;
      asks = λ q stands. elim (asks q stands) as (λ _. AsksThere known u.call.stands q) [ inl was ↦ h.asks q was | inr now ↦ now ];
    }

    as_stands : (x : Call K V) → IsAskedAs number stored known u x c → IsAskedAs number stored known u x d
    as_stands (call.On one) h = one_stands one h
    as_stands (call.Reserve n) h = tt
    as_stands call.Clear h = tt
    as_stands call.Retain h = tt
    as_stands call.Len h = tt
    as_stands call.Walk h = tt

    pub stands_asked : IsAsked number stored known (OnKey u) c → IsAsked number stored known (OnKey u) d
    stands_asked h = subst (λ (x : Call K V). IsAskedAs number stored known u x d) (sym its) (as_stands c.call h)

  asking_asked : (u : CallOnKey K V K) (question : Option ℕ) (c : CallThere K V) (stands : CallState) → c.stands ≡ stands → AsksThere known u.call.stands question → IsAsked number stored known (OnKey u) c
      → IsAsked number stored known (OnKey u) (asks_on question c stands)
  asking_asked u question c (Asking q) is just h = h
  asking_asked u question c Going is just h =
      stands_asked u c (asks_on question c Going) refl refl refl (λ q e. inr (let same : question ≡ q = cc e in subst (AsksThere known u.call.stands) same just)) h
  asking_asked u question c Told is just h =
      stands_asked u c (asks_on question c Told) refl refl refl (λ q e. inr (let same : question ≡ q = cc e in subst (AsksThere known u.call.stands) same just)) h
  asking_asked u question c IsReady is just h =
      stands_asked u c (asks_on question c IsReady) refl refl refl (λ q e. inr (let same : question ≡ q = cc e in subst (AsksThere known u.call.stands) same just)) h

  -- what it has come to
  key_comes : (u : CallOnKey K V K) (o : Outcome V) (steps : ℕ) (c : CallThere K V) → AsksJust known (OnKey u) o → IsAsked number stored known (OnKey u) c → IsAsked number stored known (OnKey u) (come o steps c)
  key_comes u outcome.Done steps c just h = stands_asked u c (come outcome.Done steps c) refl refl refl (λ q e. inl e) h
  key_comes u (outcome.Slot n) steps c just h = stands_asked u c (come (outcome.Slot n) steps c) refl refl refl (λ q e. inl e) h
  key_comes u outcome.Goes steps c just h = stands_asked u c (come outcome.Goes steps c) refl refl refl (λ q e. absurd (let no : Going ≡ Asking q = e in cc no)) h
  key_comes u (outcome.Asks question) steps c just h =
      asking_asked u question (record c { steps = c.steps + steps }) c.stands refl just (stands_asked u c (record c { steps = c.steps + steps }) refl refl refl (λ q e. inl e) h)
  key_comes u outcome.Waits steps c just h = stands_asked u c (come outcome.Waits steps c) refl refl refl (λ q e. absurd (let no : Going ≡ Asking q = e in cc no)) h
  key_comes u outcome.Ready steps c just h = stands_asked u c (come outcome.Ready steps c) refl refl refl (λ q e. absurd (let no : IsReady ≡ Asking q = e in cc no)) h
  key_comes u (outcome.Shows n) steps c just h = stands_asked u c (come (outcome.Shows n) steps c) refl refl refl (λ q e. inl e) h
  key_comes u (outcome.Answered a) steps c just h = stands_asked u c (come (outcome.Answered a) steps c) refl refl refl (λ q e. inl e) h
  key_comes u (outcome.Shape tables) steps c just h = stands_asked u c (come (outcome.Shape tables) steps c) refl refl refl (λ q e. inl e) h
  key_comes u (outcome.Refused fault) steps c just h = stands_asked u c (come (outcome.Refused fault) steps c) refl refl refl (λ q e. inl e) h

  comes_asked : (x : UnderWay K V K) (o : Outcome V) (steps : ℕ) (c : CallThere K V) → AsksJust known x o → IsAsked number stored known x c → IsAsked number stored known x (come o steps c)
  comes_asked (OnKey u) o steps c just h = key_comes u o steps c just h
  comes_asked (ForRoom r) o steps c just h = tt
  comes_asked (Counting sum) o steps c just h = tt
  comes_asked (OverAll v) o steps c just h = tt

  pub asked_as : (x : UnderWay K V K) (c d : CallThere K V) → c ≡ d → IsAsked number stored known x c → IsAsked number stored known x d
  asked_as x c d e h = subst (IsAsked number stored known x) e h

-- it was called by this name
pub caller_is : {K V : Type 0} (name : List ℕ) (m : Moment K V) (c : CallThere K V) → call_of name m ≡ Some c → c.caller ≡ name
caller_is name m c is = is_same_is c.caller name (found_passes (λ x. is_same x.caller name) (λ x. true) m.calls c is)

module _ {K V : Type 0} (same : K → K → Bool) (name : ℕ → List ℕ) (m : Moment K V) (known : Known) (s : Scene K V) (shown : Refines same name m known s) (asked : RefinesAsked name shown.number m known s) where
  pub begins_asked : (of i : ℕ) (u : UnderWay K V K) (its : Call K V) (guard : List ℕ) → NoneNamed name (name i) s → IsBegunFor u its
      → RefinesAsked name shown.number (with_call (name i) guard its (Some of) m) known (record s { calls = with_in s.calls of i (Some u) })
  begins_asked of i u its guard apart begun = record {
    apart = λ n j k l x y is is2 names. two n j k l x y (which s.calls of i (Some u) n j x is) (which s.calls of i (Some u) k l y is2) names;
    each = λ n j x is st there c found. one n j x st there c found (which s.calls of i (Some u) n j x is);
  }
    where
      fresh : CallThere K V
      fresh = fresh_call (name i) guard its of m.events

      Which : ℕ → ℕ → UnderWay K V K → Type 0
      Which n j x = ((n ≡ of) × (j ≡ i) × (◌≡◌ {A = Option (UnderWay K V K)} (Some u) (Some x))) ⊎ ((n ≡ of → j ≡ i → ⊥) × (s.calls n j ≡ Some x))

      two : (n j k l : ℕ) (x y : UnderWay K V K) → Which n j x → Which k l y → is_same (name j) (name l) ≡ true → (n ≡ k) × (j ≡ l)
      two n j k l x y (inl a) (inl b) names = (a.0 ∙ sym b.0, a.1 ∙ sym b.1)
      two n j k l x y (inl a) (inr b) names = absurd (let no = apart k l y b.1 in let yes = ap (λ (z : ℕ). is_same (name z) (name l)) (sym a.1) ∙ names in cc (no, yes))
      two n j k l x y (inr a) (inl b) names =
          absurd (let no = apart_back (name i) (name j) (apart n j x a.1) in let yes = ap (λ (z : ℕ). is_same (name j) (name z)) (sym b.1) ∙ names in cc (no, yes))
      two n j k l x y (inr a) (inr b) names = asked.apart n j k l x y a.1 b.1 names

      one : (n j : ℕ) (x : UnderWay K V K) (st : Standing K) → s.maps n ≡ Some st → (c : CallThere K V) → call_of (name j) (with_call (name i) guard its (Some of) m) ≡ Some c → Which n j x
          → IsAsked (shown.number n) st.chart.stored known x c
      one n j x st there c is (inl a) =
          let first : ◌≡◌ {A = Option (CallThere K V)} (Some fresh) (Some c) =
          sym (ap (λ z. cond z (Some fresh) (find (λ y. is_same y.caller (name j)) m.calls)) (ap (λ (k : ℕ). is_same (name i) (name k)) a.1 ∙ is_same_refl (name i))) ∙ is in
          subst (λ (y : UnderWay K V K). IsAsked (shown.number n) st.chart.stored known y c) (one_of u x a.2)
          (asked_as (shown.number n) st.chart.stored known u fresh c (one_of fresh c first) (fresh_asked (shown.number n) st.chart.stored known u its (name i) guard of m.events begun))
      one n j x st there c is (inr a) =
          asked.each n j x a.1 st there c (sym (ap (λ z. cond z (Some fresh) (find (λ y. is_same y.caller (name j)) m.calls)) (apart n j x a.1)) ∙ is)

  pub come_asked : (own : List ℕ) (o : Outcome V) (steps : ℕ) → (ends_call o ≡ true → NoneNamed name own s)
      → ((n j : ℕ) (x : UnderWay K V K) → s.calls n j ≡ Some x → is_same (name j) own ≡ true → AsksJust known x o) → RefinesAsked name shown.number (come_to own o steps m) known s
  come_asked own o steps ended just = record { apart = asked.apart; each = λ n j x is st there c found. one n j x is st there c (ends_call o) refl found }
    where
      -- its call was one before, and is kept where that has not ended
      one : (n j : ℕ) (x : UnderWay K V K) → s.calls n j ≡ Some x → (st : Standing K) → s.maps n ≡ Some st → (c : CallThere K V) → (q : Bool) → ends_call o ≡ q
          → call_of (name j) (come_to own o steps m) ≡ Some c → IsAsked (shown.number n) st.chart.stored known x c
      one n j x is st there c true e is_found =
          let was = shown.calls n j x is in
          let kept : not (is_same was.0.caller own) ≡ true = ap (λ (l : List ℕ). not (is_same l own)) (caller_is (name j) m was.0 was.1) ∙ ap not (apart_back own (name j) (ended e n j x is)) in
          let here = found_kept (λ y. is_same y.caller (name j)) (λ y. not (is_same y.caller own)) m.calls was.0 was.1 kept in
          let now : find (λ y. is_same y.caller (name j)) (without_call own m.calls) ≡ Some c =
          sym (ap (λ z. find (λ y. is_same y.caller (name j)) (if z then without_call own m.calls else map (λ y. if is_same y.caller own then come o steps y else y) m.calls)) e) ∙ is_found in
          asked_as (shown.number n) st.chart.stored known x was.0 c (one_of was.0 c (sym here ∙ now)) (asked.each n j x is st there was.0 was.1)
      one n j x is st there c false e is_found =
          let was = shown.calls n j x is in
          let here = found (come o steps) (come_of_same o steps) own (name j) m.calls was.0 was.1 in
          let now : find (λ y. is_same y.caller (name j)) (map (λ y. if is_same y.caller own then come o steps y else y) m.calls) ≡ Some c =
          sym (ap (λ z. find (λ y. is_same y.caller (name j)) (if z then without_call own m.calls else map (λ y. if is_same y.caller own then come o steps y else y) m.calls)) e) ∙ is_found in
          asked_as (shown.number n) st.chart.stored known x (changed (come o steps) (come_of_same o steps) own was.0) c (one_of (changed (come o steps) (come_of_same o steps) own was.0) c (sym here ∙ now))
          (by_name was.0 (is_same was.0.caller own) refl was.1)
        where
          by_name : (y : CallThere K V) (q : Bool) → is_same y.caller own ≡ q → call_of (name j) m ≡ Some y → IsAsked (shown.number n) st.chart.stored known x (if q then come o steps y else y)
          by_name y true same there_is =
              comes_asked (shown.number n) st.chart.stored known x o steps y (just n j x is (ap (λ (l : List ℕ). is_same l own) (sym (caller_is (name j) m y there_is)) ∙ same)) (asked.each n j x is st there y there_is)
          by_name y false same there_is = asked.each n j x is st there y there_is

module _ (K V : Type 0) (same : K → K → Bool) where
  pub calls_begin_for : CallsBeginFor K V same
  calls_begin_for name m known s all of i u its guard apart called begun rests =
      let b = begins_with same name m known s all.shown of i u its guard apart called in
      record {
        shown = b.0;
        asked = subst (λ (f : ℕ → ℕ → ℕ). RefinesAsked name f (with_call (name i) guard its (Some of) m) known (record s { calls = with_in s.calls of i (Some u) })) (sym b.1)
            (begins_asked same name m known s all.shown all.asked of i u its guard apart begun);
        hands = hands_with m known s (with_call (name i) guard its (Some of) m).calls (with_in s.calls of i (Some u)) all.hands;
        rows = rows_with s of i u all.rows (subst ReclaimsNone (sym rests) tt, subst (KeepsOne (HoldsOne s.world (slot_of i))) (sym rests) tt);
      }

  pub calls_come_to_so : CallsComeToSo K V same
  calls_come_to_so name m known s all own o steps ended just =
      let b = come_with same name m known s all.shown own o steps ended in
      record {
        shown = b.0;
        asked = subst (λ (f : ℕ → ℕ → ℕ). RefinesAsked name f (come_to own o steps m) known s) (sym b.1) (come_asked same name m known s all.shown all.asked own o steps ended just);
        hands = hands_with m known s (come_to own o steps m).calls s.calls all.hands;
        rows = all.rows;
      }

-- What is of no call leaves histories within the moments of the run, and what calls owe: no pair of a map comes or goes.
use Rattle.std.specs.Prelude.{◌≡◌, ℕ, Bool, List, find, Option, Some, ◌⊎◌}
use Rattle.std.proofs.Common.{ap, sym, subst, ◌∙◌, arith, inl, inr}
use Rattle.run_places.specs.Given.RunsSame.{is_same}
use Rattle.run_places.specs.Given.RunsDeclared.call.Call.TheVariants.{On}
use Rattle.run_places.specs.Given.RunsDeclared.call.OneKey.{OneKey}
use Rattle.run_places.specs.Given.SchedulesMoment.{UnderWay as CallThere, Moment}
use Rattle.run_places.specs.Given.SchedulesViews.{call_of, finite_map}
use Rattle.run_places.specs.Given.RuleChart.{Chart}
use Rattle.run_places.specs.Given.CallersTogether.{CallOnKey, UnderWay, OnKey}
use Rattle.run_places.specs.Given.FinishesMaps.{Standing}
use Rattle.run_places.specs.Given.EffectsKnown.{Known}
use Rattle.run_places.specs.Given.OthersAfter.{RefinesAfter}
use Rattle.run_places.proofs.Moments.Beside.{IsBeside, StoodSo, StandsNew, asked_beside}
use Rattle.run_places.specs.Hands.Asked.{RefinesAsked}
use Rattle.run_histories.specs.Histories.Due.{HasPendingAnswer, RefinesPendingAnswers}
use Rattle.run_places.specs.Changes.Had.{HadThen}
use Rattle.run_places.specs.Changes.Histories.{began_of, since, IsWithin, RefinesHistory}
use Rattle.run_places.proofs.Changes.Had.{had_on, had_one}
use Rattle.run_places.proofs.Changes.Later.{IsLater, same_later}
use Rattle.run_places.proofs.Changes.Now.{now_had}
use Rattle.run_places.proofs.Changes.Within.{within_on}
use Rattle.run_places.specs.Given.ScenesHeld.{Held, IsAt}
use Rattle.run_places.specs.Given.ScenesScene.{Scene}
use Rattle.run_places.specs.Given.SchedulesTransition.{Past}

module _ {K V : Type 0} (same : K → K → Bool) (hash : ℕ → K → ℕ) (name : ℕ → List ℕ) (log : Past K V) (m m2 : Moment K V) (known known2 : Known) (s s2 : Scene K V) (old new : Held K V)
    (at : IsAt same hash old s) (at2 : IsAt same hash new s2) (history : RefinesHistory same name log m known s) (after : RefinesAfter same name m known s history.shown m2 known2 s2)
    (calls : m2.calls ≡ m.calls) (was_here : (n j : ℕ) (x : UnderWay K V K) → s2.calls n j ≡ Some x → s.calls n j ≡ Some x)
    (stand : (n : ℕ) (st : Standing K) → s2.maps n ≡ Some st → StoodSo known known2 s s2 n st ⊎ StandsNew known known2 s s2 n) where
  was_called : (j : ℕ) (c : CallThere K V) → call_of (name j) m2 ≡ Some c → call_of (name j) m ≡ Some c
  was_called j c found = ap (λ (cs : List (CallThere K V)). find (λ x. is_same x.caller (name j)) cs) (sym calls) ∙ found

  -- of a map that stood so
  module _ (n : ℕ) (st : Standing K) (there : s2.maps n ≡ Some st) (stood : StoodSo known known2 s s2 n st) where
    later : IsLater stood.0.chart st.chart
    later = subst (IsLater stood.0.chart) (sym stood.2) (same_later stood.0.chart)

    numbers : (o : ℕ) → after.shows.number n o ≡ history.shown.number n o
    numbers o = ap (λ (f : ℕ → ℕ). f o) (after.numbers n stood.0 stood.1)

    now_then : (k : K) → HadThen same st (after.shows.number n) st.chart.now k (finite_map same n m2 k)
    now_then k = now_had same n (after.shows.number n) st m2 known2 s2.world (s2.calls n) (at2.together.makings.standing.fit n st there).0 (at2.together.makings.standing.each n st there)
        (after.shows.maps n st there).pairs after.shows.blocks k

    -- its finite map is the same
    same_then : (k : K) → finite_map same n m2 k ≡ finite_map same n m k
    same_then k = had_one same st (after.shows.number n) st.chart.now k (finite_map same n m2 k) (finite_map same n m k) (now_then k)
        (subst (λ (t : ℕ). HadThen same st (after.shows.number n) t k (finite_map same n m k)) (sym (ap (λ (c : Chart K). c.now) stood.2))
        (had_on same stood.0 st (history.shown.number n) (after.shows.number n) later (λ o l. numbers o) stood.0.chart.now (omega arith) k (finite_map same n m k)
        (now_had same n (history.shown.number n) stood.0 m known s.world (s.calls n) (at.together.makings.standing.fit n stood.0 stood.1).0 (at.together.makings.standing.each n stood.0 stood.1)
        (history.shown.maps n stood.0 stood.1).pairs history.shown.blocks k)))

    within_then : (j : ℕ) (x : UnderWay K V K) → s2.calls n j ≡ Some x → (c : CallThere K V) → call_of (name j) m2 ≡ Some c → (began : ℕ) → began_of x ≡ Some began
        → IsWithin same n st (after.shows.number n) (since log m2 c) began
    within_then j x is c found began began_is =
        within_on same n stood.0 st (history.shown.number n) (after.shows.number n) later (λ o l. numbers o) log history.past m m2 c.begun (history.begun n j x (was_here n j x is) c (was_called j c found))
        (λ k. inl (same_then k)) now_then began (history.within n j x (was_here n j x is) stood.0 stood.1 c (was_called j c found) began began_is)

  pub aside_history : RefinesAsked name after.shows.number m2 known2 s2 → RefinesHistory same name log m2 known2 s2
  aside_history asked = record {
    past = history.past;
    shown = after.shows;
    asked = asked;
    begun = λ n j x is c found. history.begun n j x (was_here n j x is) c (was_called j c found);
    within = λ n j x is st there c found began began_is. within_so n st there j x is c found began began_is (stand n st there);
  }
    where
      -- on a new one no call is under way
      within_so : (n : ℕ) (st : Standing K) (there : s2.maps n ≡ Some st) (j : ℕ) (x : UnderWay K V K) → s2.calls n j ≡ Some x → (c : CallThere K V) → call_of (name j) m2 ≡ Some c
          → (began : ℕ) → began_of x ≡ Some began → StoodSo known known2 s s2 n st ⊎ StandsNew known known2 s s2 n → IsWithin same n st (after.shows.number n) (since log m2 c) began
      within_so n st there j x is c found began began_is (inl stood) = within_then n st there stood j x is c found began began_is
      within_so n st there j x is c found began began_is (inr new_map) = absurd (let none = new_map.0 j in cc (none, is))

-- and calls owe what they owed
module _ {K V : Type 0} (same : K → K → Bool) (hash : ℕ → K → ℕ) (name : ℕ → List ℕ) (log : Past K V) (m m2 : Moment K V) (known known2 : Known) (s s2 : Scene K V) (old new : Held K V)
    (at : IsAt same hash old s) (at2 : IsAt same hash new s2) (dues : RefinesPendingAnswers same name log m known s) (after : RefinesAfter same name m known s dues.history.shown m2 known2 s2)
    (calls : m2.calls ≡ m.calls) (was_here : (n j : ℕ) (x : UnderWay K V K) → s2.calls n j ≡ Some x → s.calls n j ≡ Some x)
    (stand : (n : ℕ) (st : Standing K) → s2.maps n ≡ Some st → StoodSo known known2 s s2 n st ⊎ StandsNew known known2 s s2 n) where
  abbrev called : (j : ℕ) (c : CallThere K V) → call_of (name j) m2 ≡ Some c → call_of (name j) m ≡ Some c
  called = was_called same hash name log m m2 known known2 s s2 old new at at2 dues.history after calls was_here stand

  owes_so : (n j : ℕ) (u : CallOnKey K V K) → s2.calls n j ≡ Some (OnKey u) → (st : Standing K) → (c : CallThere K V) → call_of (name j) m2 ≡ Some c → (one : OneKey K V) → c.call ≡ On one
      → StoodSo known known2 s s2 n st ⊎ StandsNew known known2 s s2 n → HasPendingAnswer (after.shows.number n) st.chart.stored one c u.change
  owes_so n j u is st c found one one_is (inl stood) =
      subst (λ (f : ℕ → ℕ). HasPendingAnswer f st.chart.stored one c u.change) (sym (after.numbers n stood.0 stood.1))
      (subst (λ (x : Chart K). HasPendingAnswer (dues.history.shown.number n) x.stored one c u.change) (sym stood.2)
      (dues.owes n j u (was_here n j (OnKey u) is) stood.0 stood.1 c (called j c found) one one_is))
  owes_so n j u is st c found one one_is (inr new_map) = absurd (let none = new_map.0 j in cc (none, is))

  pub aside_due : RefinesAsked name after.shows.number m2 known2 s2 → RefinesPendingAnswers same name log m2 known2 s2
  unfolding aside_history
  aside_due asked = record {
    history = aside_history same hash name log m m2 known known2 s s2 old new at at2 dues.history after calls was_here stand asked;
    owes = λ n j u is st there c found one one_is. owes_so n j u is st c found one one_is (stand n st there);
    taken = λ n j x is c found one one_is. dues.taken n j x (was_here n j x is) c (called j c found) one one_is;
  }

-- where what is of no call leaves all as it was
module _ {K V : Type 0} (same : K → K → Bool) (hash : ℕ → K → ℕ) (name : ℕ → List ℕ) (log : Past K V) (m m2 : Moment K V) (known known2 : Known) (s s2 : Scene K V) (old new : Held K V)
    (at : IsAt same hash old s) (at2 : IsAt same hash new s2) (beside : IsBeside m m2 known known2 s s2) where
  before : (n j : ℕ) (x : UnderWay K V K) → s2.calls n j ≡ Some x → s.calls n j ≡ Some x
  before n j x is = subst (λ (f : ℕ → ℕ → Option (UnderWay K V K)). f n j ≡ Some x) beside.same_calls is

  pub beside_due : (dues : RefinesPendingAnswers same name log m known s) → RefinesAfter same name m known s dues.history.shown m2 known2 s2 → RefinesPendingAnswers same name log m2 known2 s2
  beside_due dues after =
      aside_due same hash name log m m2 known known2 s s2 old new at at2 dues after beside.calls before beside.stood
      (asked_beside same name m m2 known known2 s s2 dues.history.shown after beside hash new at2 dues.history.asked)

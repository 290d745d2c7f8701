-- Histories, what calls owe, and what those on no key are called for, told and ask, stay so where anything else happens than a step of a call.
use Rattle.std.specs.Prelude.{◌≡◌, ℕ, ◌<◌, Bool, true, List, find, Option, Some, None, ◌⊎◌, IsSome}
use Rattle.std.proofs.Common.{refl, ap, sym, subst, ◌∙◌, arith, inl, inr}
use Rattle.run_places.specs.Given.SeizeWordsMem.{value_at}
use Rattle.run_places.specs.Given.SeizeWordsWord.{block_in}
use Rattle.run_places.specs.Given.SeizeWordsDeclared.fault.Fault.TheVariants.{Memory}
use Rattle.run_places.specs.Given.TablesDeclared.node.Node.{Node}
use Rattle.run_places.specs.Given.RunsSame.{is_same}
use Rattle.run_places.specs.Given.ReservesDeclared.sweep.Sweeping.{Sweeping}
use Rattle.run_places.specs.Given.ReservesDeclared.sweep.Sweeping.TheVariants as at
use Rattle.run_places.specs.Given.RunsDeclared.outcome.Outcome.TheVariants.{Refused}
use Rattle.run_places.specs.Given.SchedulesMoment.{UnderWay as CallThere, Moment}
use Rattle.run_places.specs.Given.SchedulesViews.{call_of}
use Rattle.run_places.specs.Given.RuleChart.{Chart, Holds, Still}
use Rattle.run_places.specs.Given.RuleWords.{Blocks, place_word}
use Rattle.run_places.specs.Given.PointsSteps.{AreLawful}
use Rattle.run_places.specs.Given.LateFactsSweeps.{SweepingFacts}
use Rattle.run_places.specs.Given.LateToldSweeps.{IsRowOfSweep}
use Rattle.run_places.specs.Given.CallersOverAll.{CallOverAll}
use Rattle.run_places.specs.Given.CallersSights.{seen_by}
use Rattle.run_places.specs.Given.CallersTogether.{UnderWay, OnKey, ForRoom, Counting, OverAll, Together, in_slot}
use Rattle.run_places.specs.Given.EffectsKnown.{Known}
use Rattle.run_places.specs.Given.FinishesMaps.{Standing}
use Rattle.run_places.proofs.Given.FollowsOnward.{IsOfMap}
use Rattle.run_places.specs.Hands.Asked.{IsAsked, RefinesAsked}
use Rattle.run_places.proofs.Hands.Replacing.{same_on}
use Rattle.run_places.specs.Given.OthersAfter.{RefinesAfter}
use Rattle.run_places.proofs.Moments.Walks.{asks_nothing}
use Rattle.run_places.proofs.Moments.Beside.{IsBeside, StoodSo, StandsNew}
use Rattle.run_histories.specs.Histories.AsCalled.{SweepAsks, IsAsCalled, RefinesAsCalled, AsksAsCalled}
use Rattle.run_histories.specs.Histories.Due.{HasPendingAnswer, RefinesPendingAnswers}
use Rattle.run_histories.specs.Histories.Elsewhere.{PendingAnswersStay, AsCalledStays}
use Rattle.run_places.specs.Changes.Histories.{since, IsWithin, RefinesHistory}
use Rattle.run_histories.proofs.Histories.NoKey.AsCalled.{as_called_kept}
use Rattle.run_histories.proofs.Histories.NoKey.AsCalledOn.{calls_come_to_as_called}
use Rattle.run_histories.proofs.Histories.DueOn.{calls_come_to_due}
use Rattle.run_histories.proofs.Histories.Aside.Elsewhere.{stays_elsewhere}
use Rattle.run_places.proofs.Changes.Found.{map_alike}
use Rattle.run_histories.proofs.Histories.Others.{beside_due}
use Rattle.run_histories.proofs.Histories.Roles.{named_by}
use Rattle.run_histories.proofs.Histories.Aside.WalksOn.{walk_due, walk_as_called}
use Rattle.run_places.proofs.Changes.Within.{within_alike}
use Rattle.run_places.specs.Given.ScenesHeld.{Held, IsAt}
use Rattle.run_places.specs.Given.ScenesScene.{Scene, slot_of}
use Rattle.run_places.specs.Given.SchedulesTransition.{Past}

-- the same pairs were stored and lie where they lay, and no call comes
module _ {K V : Type 0} (same : K → K → Bool) (name : ℕ → List ℕ) (m m2 : Moment K V) (known : Known) (s s2 : Scene K V) (calls : m2.calls ≡ m.calls)
    (fewer : (n j : ℕ) (x : UnderWay K V K) → s2.calls n j ≡ Some x → s.calls n j ≡ Some x) (maps : s2.maps ≡ s.maps) where
  was_called : (j : ℕ) (c : CallThere K V) → call_of (name j) m2 ≡ Some c → call_of (name j) m ≡ Some c
  was_called j c found = ap (λ (cs : List (CallThere K V)). find (λ x. is_same x.caller (name j)) cs) (sym calls) ∙ found

  stood : (n : ℕ) (st : Standing K) → s2.maps n ≡ Some st → s.maps n ≡ Some st
  stood n st is = subst (λ (f : ℕ → Option (Standing K)). f n ≡ Some st) maps is

  module _ (place : m2.place ≡ m.place) (stored : m2.stored ≡ m.stored) (log : Past K V) where
    module _ (history : RefinesHistory same name log m known s) (after : RefinesAfter same name m known s history.shown m2 known s2) where
      between_asked : RefinesAsked name after.shows.number m2 known s2
      between_asked = record {
        apart = λ n j k l x y is is2 names. history.asked.apart n j k l x y (fewer n j x is) (fewer k l y is2) names;
        each = λ n j x is st there c found. subst (λ (f : ℕ → ℕ). IsAsked f st.chart.stored known x c) (sym (after.numbers n st (stood n st there)))
            (history.asked.each n j x (fewer n j x is) st (stood n st there) c (was_called j c found));
      }

      pub between_history : RefinesHistory same name log m2 known s2
      between_history = record {
        past = history.past;
        shown = after.shows;
        asked = between_asked;
        begun = λ n j x is c found. history.begun n j x (fewer n j x is) c (was_called j c found);
        within = λ n j x is st there c found began began_is. subst (λ (f : ℕ → ℕ). IsWithin same n st f (since log m2 c) began) (sym (after.numbers n st (stood n st there)))
            (within_alike same n st (history.shown.number n) (log.since c.begun) m m2 began (λ k. map_alike same n k m m2 place stored)
            (history.within n j x (fewer n j x is) st (stood n st there) c (was_called j c found) began began_is));
      }

    module _ (dues : RefinesPendingAnswers same name log m known s) (after : RefinesAfter same name m known s dues.history.shown m2 known s2) where
      pub between_due : RefinesPendingAnswers same name log m2 known s2
      unfolding between_history
      between_due = record {
        history = between_history dues.history after;
        owes = λ n j u is st there c found one one_is. subst (λ (f : ℕ → ℕ). HasPendingAnswer f st.chart.stored one c u.change) (sym (after.numbers n st (stood n st there)))
            (dues.owes n j u (fewer n j (OnKey u) is) st (stood n st there) c (was_called j c found) one one_is);
        taken = λ n j x is c found one one_is. dues.taken n j x (fewer n j x is) c (was_called j c found) one one_is;
      }

  pub between_as_called : (all : RefinesAsCalled same name m known s) → RefinesAfter same name m known s all.shown m2 known s2 → RefinesAsCalled same name m2 known s2
  between_as_called all after = record {
    shown = after.shows;
    each = λ n j x is st there c found. subst (λ (f : ℕ → ℕ). IsAsCalled f st.chart.stored known x c) (sym (after.numbers n st (stood n st there)))
        (all.each n j x (fewer n j x is) st (stood n st there) c (was_called j c found));
  }

-- beside what is of no call
module _ {K V : Type 0} (same : K → K → Bool) (hash : ℕ → K → ℕ) (name : ℕ → List ℕ) (m m2 : Moment K V) (known known2 : Known) (s s2 : Scene K V) (new : Held K V)
    (at_new : IsAt same hash new s2) (beside : IsBeside m m2 known known2 s s2) where
  was_here : (n j : ℕ) (x : UnderWay K V K) → s2.calls n j ≡ Some x → s.calls n j ≡ Some x
  was_here n j x is = subst (λ (f : ℕ → ℕ → Option (UnderWay K V K)). f n j ≡ Some x) beside.same_calls is

  -- the pair that a sweep asks about is there
  module _ (n j : ℕ) (o : CallOverAll) (here : s2.calls n j ≡ Some (OverAll o)) (st : Standing K) (there : s2.maps n ≡ Some st) where
    each : Together V same st.hash same st.setting slot_of s2.world st.chart st.blocks st.sights (s2.calls n)
    each = at_new.together.makings.standing.each n st there

    abbrev seen : Blocks
    seen = seen_by st.blocks (st.sights (slot_of j))

    point : (word : ℕ) → o.sweep.stands ≡ at.Asks word → SweepingFacts same st.hash s2.world j (in_slot st.setting (slot_of j)) st.chart seen o.began o.sweep (at.Asks word)
    point word stands = elim (each.stand j (OverAll o) here) as (λ _. SweepingFacts same st.hash s2.world j (in_slot st.setting (slot_of j)) st.chart seen o.began o.sweep (at.Asks word)) [
      | inl k ↦ subst (λ (z : Sweeping). SweepingFacts same st.hash s2.world j (in_slot st.setting (slot_of j)) st.chart seen o.began o.sweep z) stands k.1.facts.point
      | inr k ↦ absurd (subst IsRowOfSweep stands k.1)
    ]

    is_there : (word : ℕ) → o.sweep.stands ≡ at.Asks word → IsSome (value_at s2.world.memory (block_in word))
    is_there word stands = by (point word stands).1
      where
        lawful : AreLawful same st.hash
        lawful = (at_new.together.makings.standing.fit n st there).0

        by : (k : ℕ) × (borrowed : Bool) × (k < st.chart.stored) × (seen.pair_known k ≡ true) × (word ≡ place_word st.hash st.chart seen (Holds k Still borrowed)) → IsSome (value_at s2.world.memory (block_in word))
        by (k, borrowed, l, known_too, word_is) =
            let names = named_by same st.hash lawful st.chart seen word k Still borrowed word_is in
            let in_sight = (each.ground.sight (slot_of j) (each.inside j (OverAll o) here)).0.pairs k l known_too in
            let value = (each.ground.map.map.shows.pairs k l in_sight).2 in
            subst (λ (v : Option (Node K V)). IsSome v) (sym (ap (value_at s2.world.memory) names ∙ value)) refl

    asks_so : (question : Option ℕ) → SweepAsks known o.sweep.stands question → SweepAsks known2 o.sweep.stands question
    asks_so None asks = absurd asks.2
    asks_so (Some q) asks = (asks.0, asks.1, beside.roles (block_in asks.0) (is_there asks.0 asks.1) (subst IsOfMap (sym asks.2) tt) ∙ asks.2)

  pub beside_as_called : (all : RefinesAsCalled same name m known s) → RefinesAfter same name m known s all.shown m2 known2 s2 → RefinesAsCalled same name m2 known2 s2
  beside_as_called all after = record { shown = after.shows; each = λ n j x is st there c found. by n j x is st there c found (beside.stood n st there) }
    where
      by : (n j : ℕ) (x : UnderWay K V K) → s2.calls n j ≡ Some x → (st : Standing K) → s2.maps n ≡ Some st → (c : CallThere K V) → call_of (name j) m2 ≡ Some c
          → StoodSo known known2 s s2 n st ⊎ StandsNew known known2 s s2 n → IsAsCalled (after.shows.number n) st.chart.stored known2 x c
      by n j x is st there c found (inr new_map) = absurd (let none = new_map.0 j in cc (none, is))
      by n j x is st there c found (inl so) =
          as_called_kept (all.shown.number n) (after.shows.number n) so.0.chart.stored st.chart.stored (let same_stored = ap (λ (z : Chart K). z.stored) so.2 in omega (arith, same_stored))
          (λ k l. ap (λ (f : ℕ → ℕ). f k) (after.numbers n so.0 so.1)) known known2 x (λ o e. asks_so n j o (is ∙ ap Some e) st there) c c (same_on c)
          (all.each n j x (was_here n j x is) so.0 so.1 c (ap (λ (cs : List (CallThere K V)). find (λ y. is_same y.caller (name j)) cs) (sym beside.calls) ∙ found))

-- a call that is refused asks nothing
refused_as_called : {K V : Type 0} (known : Known) (u : UnderWay K V K) → AsksAsCalled known u (Refused Memory)
refused_as_called known (OnKey u) = tt
refused_as_called known (ForRoom r) = tt
refused_as_called known (Counting sum) = tt
refused_as_called known (OverAll o) = tt

module _ (K V : Type 0) (same : K → K → Bool) (hash : ℕ → K → ℕ) where
  pub dues_stay : PendingAnswersStay K V same hash
  dues_stay name log = stays_elsewhere same hash name (RefinesPendingAnswers same name log)
      (λ m m2 known known2 s s2 old new at_old at_new dues after beside. beside_due same hash name log m m2 known known2 s s2 old new at_old at_new beside dues (after dues.history.shown))
      (λ m m2 known s s2 dues place stored calls after fewer maps. between_due same name m m2 known s s2 calls fewer maps place stored log dues (after dues.history.shown))
      (λ m known s dues map i o here ready. walk_due same name m known s map i o here log dues)
      (λ m known s dues own none. calls_come_to_due K V same name log m known s dues own (Refused Memory) 0 (λ ends. none) (λ n j u is named. asks_nothing known u))

  pub as_called_stays : AsCalledStays K V same hash
  as_called_stays name = stays_elsewhere same hash name (RefinesAsCalled same name)
      (λ m m2 known known2 s s2 old new at_old at_new all after beside. beside_as_called same hash name m m2 known known2 s s2 new at_new beside all (after all.shown))
      (λ m m2 known s s2 all place stored calls after fewer maps. between_as_called same name m m2 known s s2 calls fewer maps all (after all.shown))
      (λ m known s all map i o here ready. walk_as_called same name m known s map i o here ready all)
      (λ m known s all own none. calls_come_to_as_called K V same name m known s all own (Refused Memory) 0 (λ ends. none) (λ n j u is named. refused_as_called known u))

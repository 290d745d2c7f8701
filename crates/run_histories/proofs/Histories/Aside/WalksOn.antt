-- Where a walk that is ready goes on, histories stay within the moments of the run, and so does what calls owe, and what those on no key are called for, told and ask.
use Rattle.std.specs.Prelude.{◌≡◌, ℕ, Bool, List, Option, Some, ◌⊎◌}
use Rattle.std.proofs.Common.{refl, ap, sym, subst, ◌∙◌, inl, inr}
use Rattle.run_places.specs.Given.SweepsSweepPoints.{next_at, after_next}
use Rattle.run_places.specs.Given.ReservesDeclared.sweep.Sweeping.{Sweeping}
use Rattle.run_places.specs.Given.ReservesDeclared.sweep.Sweeping.TheVariants as at
use Rattle.run_places.specs.Given.RunsDeclared.call.Call.{Call}
use Rattle.run_places.specs.Given.RunsDeclared.call.Call.TheVariants.{On}
use Rattle.run_places.specs.Given.RunsDeclared.call.OneKey.{OneKey}
use Rattle.run_places.specs.Given.SchedulesMoment.{UnderWay as CallThere, Moment}
use Rattle.run_places.specs.Given.SchedulesViews.{call_of}
use Rattle.run_places.specs.Given.CallersOverAll.{CallOverAll, gone_on}
use Rattle.run_places.specs.Given.CallersTogether.{CallOnKey, UnderWay, OnKey, OverAll}
use Rattle.run_places.specs.Given.EffectsKnown.{Known}
use Rattle.run_places.specs.Given.FinishesMaps.{Standing, with_call}
use Rattle.run_places.specs.Given.FollowsCalls.{IsCalled}
use Rattle.run_places.specs.Given.FollowsShows.{Refines}
use Rattle.run_places.specs.Hands.Asked.{IsAsked, RefinesAsked}
use Rattle.run_places.proofs.Hands.Asking.{which}
use Rattle.run_places.proofs.Given.OthersWalks.{fewer_calls}
use Rattle.run_histories.specs.Histories.AsCalled.{IsSweptAs, IsAsCalled, RefinesAsCalled}
use Rattle.run_histories.specs.Histories.Due.{HasPendingAnswer, RefinesPendingAnswers}
use Rattle.run_places.specs.Changes.Histories.{began_of, RefinesHistory, StaysWithin}
use Rattle.run_histories.proofs.Histories.Calling.{calls_changed}
use Rattle.run_places.specs.Given.ScenesReplying.{scene_with}
use Rattle.run_places.specs.Given.ScenesScene.{Scene}
use Rattle.run_places.specs.Given.SchedulesTransition.{Past}
use Rattle.run_places.proofs.Given.General.{same_some as one_of}

module _ {K V : Type 0} (same : K → K → Bool) (name : ℕ → List ℕ) (m : Moment K V) (known : Known) (s : Scene K V) (map i : ℕ) (o : CallOverAll) (here : s.calls map i ≡ Some (OverAll o)) where
  abbrev walk : UnderWay K V K
  walk = OverAll (gone_on o (after_next o.sweep))

  abbrev s2 : Scene K V
  s2 = scene_with map i walk s

  abbrev Which : ℕ → ℕ → UnderWay K V K → Type 0
  Which n j x = ((n ≡ map) × (j ≡ i) × (◌≡◌ {A = Option (UnderWay K V K)} (Some walk) (Some x))) ⊎ ((n ≡ map → j ≡ i → ⊥) × (s.calls n j ≡ Some x))

  which_is : (n j : ℕ) (x : UnderWay K V K) → s2.calls n j ≡ Some x → Which n j x
  which_is n j x is = which s.calls map i (Some walk) n j x is

  -- a walk is called as it was
  called_on : (x : UnderWay K V K) → ◌≡◌ {A = Option (UnderWay K V K)} (Some walk) (Some x) → (its : Call K V) → IsCalled same (OverAll o) its → IsCalled same x its
  called_on x e its is = subst (λ (y : UnderWay K V K). IsCalled same y its) (one_of walk x e) is

  then_shown : Refines same name m known s → Refines same name m known s2
  then_shown shown = record { blocks = shown.blocks; number = shown.number; maps = shown.maps; calls = fewer_calls same name m s.calls map i (OverAll o) here (Some walk) called_on shown.calls }

  -- a call that is under way then was under way
  was_there : (n j : ℕ) (x : UnderWay K V K) → Which n j x → (y : UnderWay K V K) × (s.calls n j ≡ Some y) × (began_of x ≡ began_of y)
  was_there n j x (inl a) = (OverAll o, ap (λ (k : ℕ). s.calls k j) a.0 ∙ ap (s.calls map) a.1 ∙ here, ap (λ (y : UnderWay K V K). began_of y) (sym (one_of walk x a.2)))
  was_there n j x (inr a) = (x, a.1, refl)

  module _ (log : Past K V) where
    module _ (history : RefinesHistory same name log m known s) where
      asked_then : RefinesAsked name history.shown.number m known s2
      asked_then = record {
        apart = λ n j k l x y is is2 names.
            let a = was_there n j x (which_is n j x is) in let z = was_there k l y (which_is k l y is2) in history.asked.apart n j k l a.0 z.0 a.1 z.1 names;
        each = λ n j x is st there c found. by n j x st there c found (which_is n j x is);
      }
        where
          by : (n j : ℕ) (x : UnderWay K V K) (st : Standing K) → s.maps n ≡ Some st → (c : CallThere K V) → call_of (name j) m ≡ Some c → Which n j x → IsAsked (history.shown.number n) st.chart.stored known x c
          by n j x st there c found (inl a) = subst (λ (y : UnderWay K V K). IsAsked (history.shown.number n) st.chart.stored known y c) (one_of walk x a.2) tt
          by n j x st there c found (inr a) = history.asked.each n j x a.1 st there c found

      walk_stays : StaysWithin same name log m known s history log m s2
      unfolding then_shown
      walk_stays = calls_changed same name log m m known s history refl refl (with_call s.calls map i (Some walk)) (then_shown history.shown) refl asked_then
          (λ n j x is d found. inl (let was = was_there n j x (which_is n j x is) in (was.0, was.1, was.2, d, found, refl)))

    pub walk_due : RefinesPendingAnswers same name log m known s → RefinesPendingAnswers same name log m known s2
    walk_due dues = record {
      history = (walk_stays dues.history).0;
      owes = λ n j u is st there c found one one_is. subst (λ (f : ℕ → ℕ → ℕ). HasPendingAnswer (f n) st.chart.stored one c u.change) (sym (walk_stays dues.history).1) (owes n j u st there c found one one_is (which_is n j (OnKey u) is));
      taken = λ n j x is c found one one_is. (let was = was_there n j x (which_is n j x is) in dues.taken n j was.0 was.1 c found one one_is);
    }
      where
        owes : (n j : ℕ) (u : CallOnKey K V K) (st : Standing K) → s.maps n ≡ Some st → (c : CallThere K V) → call_of (name j) m ≡ Some c → (one : OneKey K V) → c.call ≡ On one → Which n j (OnKey u)
            → HasPendingAnswer (dues.history.shown.number n) st.chart.stored one c u.change
        owes n j u st there c found one one_is (inl a) = absurd (let no = a.2 in cc no)
        owes n j u st there c found one one_is (inr a) = dues.owes n j u a.1 st there c found one one_is

  module _ (ready : o.sweep.stands ≡ at.Ready) (all : RefinesAsCalled same name m known s) where
    kept_purpose : (after_next o.sweep).purpose ≡ o.sweep.purpose
    kept_purpose = subst (λ (z : Sweeping). (next_at z o.sweep).purpose ≡ o.sweep.purpose) (sym ready) refl

    walk_as : (number : ℕ → ℕ) (stored : ℕ) (c : CallThere K V) → IsSweptAs number stored known o c → IsSweptAs number stored known (gone_on o (after_next o.sweep)) c
    walk_as number stored c h = record {
      purpose = h.purpose ∙ ap Some (sym kept_purpose);
      last = h.last;
      asks = λ question stands. absurd (let asks = h.asks question stands in let no : at.Ready ≡ at.Asks asks.0 = sym ready ∙ asks.1 in cc no);
    }

    pub walk_as_called : RefinesAsCalled same name m known s2
    unfolding then_shown
    walk_as_called = record { shown = then_shown all.shown; each = λ n j x is st there c found. by n j x st there c found (which_is n j x is) }
      where
        by : (n j : ℕ) (x : UnderWay K V K) (st : Standing K) → s.maps n ≡ Some st → (c : CallThere K V) → call_of (name j) m ≡ Some c → Which n j x → IsAsCalled (all.shown.number n) st.chart.stored known x c
        by n j x st there c found (inl a) = subst (λ (y : UnderWay K V K). IsAsCalled (all.shown.number n) st.chart.stored known y c) (one_of walk x a.2)
            (walk_as (all.shown.number n) st.chart.stored c (all.each n j (OverAll o) (ap (λ (k : ℕ). s.calls k j) a.0 ∙ ap (s.calls map) a.1 ∙ here) st there c found))
        by n j x st there c found (inr a) = all.each n j x a.1 st there c found

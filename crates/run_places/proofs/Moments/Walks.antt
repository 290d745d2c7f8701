-- Walks that go on, or are given up, keep all that a moment shows.
use Rattle.std.specs.Prelude.{◌≡◌, ℕ, Bool, true, false, List, Option, Some, None, ◌⊎◌}
use Rattle.std.proofs.Common.{refl, ap, sym, subst, ◌∙◌, inl, inr}
use Rattle.run_shows.specs.Given.SeizeWordsDeclared.fault.Fault.TheVariants.{Memory}
use Rattle.run_shows.specs.Given.RawMachine.{machine_asked}
use Rattle.run_shows.specs.Given.RunsDeclared.outcome.Outcome.TheVariants.{Refused}
use Rattle.run_shows.specs.Given.SchedulesMoment.{UnderWay as CallThere, Moment}
use Rattle.run_shows.specs.Given.SchedulesViews.{call_of}
use Rattle.run_shows.specs.Given.CallersTogether.{UnderWay, OnKey, ForRoom, Counting, OverAll}
use Rattle.run_shows.specs.Given.EffectsKnown.{Known}
use Rattle.run_shows.specs.Given.FinishesMachines.{machine_of}
use Rattle.run_shows.specs.Given.FinishesMaps.{Standing, with_call}
use Rattle.run_shows.specs.Follows.Calling.{NoneNamed}
use Rattle.run_places.specs.Hands.Asked.{IsAsked, RefinesAsked}
use Rattle.run_places.specs.Hands.Calling.{AsksJust}
use Rattle.run_places.proofs.Hands.Asking.{which}
use Rattle.run_places.proofs.Hands.HandsOn.{hands_with}
use Rattle.run_places.proofs.Hands.Others.{calls_go_aside}
use Rattle.run_shows.specs.Others.After.{RefinesAfter}
use Rattle.run_shows.specs.Others.Walks.{given_up}
use Rattle.run_shows.proofs.Others.Walks.{fewer_calls, with_calls, walks_go_on, walks_are_given_up}
use Rattle.run_places.specs.Moments.Walks.{WalksPreserveWhole, WalksStopWhole}
use Rattle.run_places.specs.Moments.Whole.{RefinesWhole}
use Rattle.run_places.proofs.Moments.Calls.{calls_come_to_whole}
use Rattle.run_shows.specs.Scenes.Replying.{unless_stopped}
use Rattle.run_shows.specs.Scenes.Scene.{Scene}
use Rattle.run_shows.proofs.Given.General.{same_some as one_of}

-- a call goes on as another one, or is under way no more, and nothing else has changed
module _ {K V : Type 0} (same : K → K → Bool) (name : ℕ → List ℕ) (m : Moment K V) (known : Known) (s : Scene K V) (whole : RefinesWhole same name m known s)
    (map i : ℕ) (u : UnderWay K V K) (here : s.calls map i ≡ Some u) (next : Option (UnderWay K V K)) where
  abbrev then_at : Scene K V
  then_at = record s { calls = with_call s.calls map i next }

  abbrev Which : ℕ → ℕ → UnderWay K V K → Type 0
  Which n j x = ((n ≡ map) × (j ≡ i) × (next ≡ Some x)) ⊎ ((n ≡ map → j ≡ i → ⊥) × (s.calls n j ≡ Some x))

  -- one was under way there before
  was : (n j : ℕ) (x : UnderWay K V K) → Which n j x → (y : UnderWay K V K) × (s.calls n j ≡ Some y)
  was n j x (inl its) = (u, ap (λ (k : ℕ). s.calls k j) its.0 ∙ ap (s.calls map) its.1 ∙ here)
  was n j x (inr other) = (x, other.1)

  module _ (after : RefinesAfter same name m known s whole.all.shown m known then_at)
      (asks : (x : UnderWay K V K) → next ≡ Some x → (st : Standing K) → s.maps map ≡ Some st → (c : CallThere K V) → call_of (name i) m ≡ Some c
      → IsAsked (whole.all.shown.number map) st.chart.stored known x c) where
    one_asked : (n j : ℕ) (x : UnderWay K V K) (st : Standing K) → s.maps n ≡ Some st → (c : CallThere K V) → call_of (name j) m ≡ Some c → Which n j x
        → IsAsked (whole.all.shown.number n) st.chart.stored known x c
    one_asked n j x st there c found (inl its) =
        subst (λ (k : ℕ). IsAsked (whole.all.shown.number k) st.chart.stored known x c) (sym its.0)
        (asks x its.2 st (ap s.maps (sym its.0) ∙ there) c (ap (λ (k : ℕ). call_of (name k) m) (sym its.1) ∙ found))
    one_asked n j x st there c found (inr other) = whole.all.asked.each n j x other.1 st there c found

    then_asked : RefinesAsked name after.shows.number m known then_at
    then_asked = record {
      apart = λ n j k l x y is is2 names.
          let a = was n j x (which s.calls map i next n j x is) in
          let z = was k l y (which s.calls map i next k l y is2) in
          whole.all.asked.apart n j k l a.0 z.0 a.1 z.1 names;
      each = λ n j x is st there c found.
          subst (λ (f : ℕ → ℕ). IsAsked f st.chart.stored known x c) (sym (after.numbers n st there)) (one_asked n j x st there c found (which s.calls map i next n j x is));
    }

    pub then_whole : RefinesWhole same name m known then_at
    then_whole = record {
      all = record {
        shown = after.shows;
        asked = then_asked;
        hands = hands_with m known s m.calls then_at.calls whole.all.hands;
        rows = calls_go_aside K V s whole.all.rows map i u here next;
      };
      places = whole.places;
      blocks = whole.blocks;
      outside = whole.outside;
      counters = whole.counters;
    }

module _ {K V : Type 0} where
  -- a walk was asked and told nothing
  walk_untold : (u next : UnderWay K V K) → (machine_asked (machine_of u)).1 ≡ true → machine_of next ≡ (machine_asked (machine_of u)).0
      → (number : ℕ → ℕ) (stored : ℕ) (known : Known) (c : CallThere K V) → IsAsked number stored known next c
  walk_untold u (ForRoom y) ready is number stored known c = tt
  walk_untold u (Counting y) ready is number stored known c = tt
  walk_untold u (OverAll y) ready is number stored known c = tt
  walk_untold (OnKey x) (OnKey y) ready is number stored known c = absurd (cc ready)
  walk_untold (ForRoom x) (OnKey y) ready is number stored known c = absurd (cc ready)
  walk_untold (Counting x) (OnKey y) ready is number stored known c = absurd (cc ready)
  walk_untold (OverAll o) (OnKey y) ready is number stored known c = absurd (cc is)

  -- who is refused asks nothing
  pub asks_nothing : (known : Known) (u : UnderWay K V K) → AsksJust known u (Refused Memory)
  asks_nothing known (OnKey u) = tt
  asks_nothing known (ForRoom r) = tt
  asks_nothing known (Counting sum) = tt
  asks_nothing known (OverAll o) = tt

module _ (K V : Type 0) (same : K → K → Bool) (hash : ℕ → K → ℕ) where
  pub walks_go_on_whole : WalksPreserveWhole K V same hash
  walks_go_on_whole name m known s old new whole i leads map u here =
      let to = leads map u here in
      then_whole same name m known s whole map i u here (Some to.0) (walks_go_on K V same hash name m known s old new whole.all.shown i leads map u here)
      (λ x e st there c found. subst (λ (y : UnderWay K V K). IsAsked (whole.all.shown.number map) st.chart.stored known y c) (one_of to.0 x e)
      (walk_untold u to.0 (sym to.2) to.1 (whole.all.shown.number map) st.chart.stored known c))

  pub walks_stop_whole : WalksStopWhole K V same hash
  walks_stop_whole name m known s old new whole i stopped leads map u here =
      by stopped (walks_are_given_up K V same hash name m known s old new whole.all.shown i stopped leads map u here)
    where
      at_end : Bool → Scene K V
      at_end q = record s { calls = with_call s.calls map i (unless_stopped q u) }

      by : (q : Bool) → ((q ≡ true → NoneNamed name (name i) (at_end q)) → RefinesAfter same name m known s whole.all.shown (given_up (name i) q m) known (at_end q))
          → (q ≡ true → NoneNamed name (name i) (at_end q)) → RefinesWhole same name (given_up (name i) q m) known (at_end q)
      by true after none =
          let without = record s { calls = with_call s.calls map i None } in
          let before = with_calls same name m known s (with_call s.calls map i None) (fewer_calls same name m s.calls map i u here None (λ x e. absurd (cc e)) whole.all.shown.calls) whole.all.shown in
          calls_come_to_whole K V same name m known without (then_whole same name m known s whole map i u here None before (λ x e. absurd (cc e)))
          (name i) (Refused Memory) 0 (λ ends. none refl) (λ n j x is names. asks_nothing known x)
      by false after none =
          then_whole same name m known s whole map i u here (Some u) (after (λ e. absurd (cc e)))
          (λ x e st there c found. subst (λ (y : UnderWay K V K). IsAsked (whole.all.shown.number map) st.chart.stored known y c) (one_of u x e) (whole.all.asked.each map i u here st there c found))

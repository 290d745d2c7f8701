-- The names of callers matter only where they have a call under way.
use Rattle.std.specs.Prelude.{◌≡◌, ℕ, Bool, true, List}
use Rattle.std.proofs.Common.{sym, subst, ◌∙◌, ap}
use Rattle.run_schedules.specs.Runs.Same.{is_same}
use Rattle.run_schedules.specs.Schedules.Moment.{Moment}
use Rattle.run_schedules.specs.Schedules.Views.{call_of}
use Rattle.run_executor.specs.Given.EffectsKnown.{Known}
use Rattle.run_executor.specs.Given.FollowsCalls.{RefinesCalls}
use Rattle.run_executor.specs.Given.FollowsShows.{Refines}
use Rattle.run_executor.specs.Given.HandsAsked.{RefinesAsked}
use Rattle.run_executor.specs.Given.MomentsWhole.{RefinesWhole}
use Rattle.run_executor.specs.Given.ScenesScene.{HasCall, Scene}

module _ {K V : Type 0} (same : K → K → Bool) (name name2 : ℕ → List ℕ) (m : Moment K V) (known : Known) (s : Scene K V) (agree : (i : ℕ) → HasCall s i → name2 i ≡ name i) where
  pub calls : RefinesCalls same name m s.calls → RefinesCalls same name2 m s.calls
  calls shown map i u here = let c = shown map i u here in (c.0, ap (λ x. call_of x m) (agree i (map, u, here)) ∙ c.1, c.2, c.3)

  abbrev pub shows : Refines same name m known s → Refines same name2 m known s
  shows shown = record { blocks = shown.blocks; number = shown.number; maps = shown.maps; calls = calls shown.calls }

  pub asked : (number : ℕ → ℕ → ℕ) → RefinesAsked name number m known s → RefinesAsked name2 number m known s
  asked number shown = record {
    apart = λ n j k l x y is other one. shown.apart n j k l x y is other (subst (λ a. is_same a (name l) ≡ true) (agree j (n, x, is)) (subst (λ a. is_same (name2 j) a ≡ true) (agree l (k, y, other)) one));
    each = λ map i u here standing stands c there. shown.each map i u here standing stands c (ap (λ x. call_of x m) (sym (agree i (map, u, here))) ∙ there);
  }

  pub renamed : RefinesWhole same name m known s → RefinesWhole same name2 m known s
  renamed whole = record {
    all = record { shown = shows whole.all.shown; asked = asked whole.all.shown.number whole.all.asked; hands = whole.all.hands; rows = whole.all.rows };
    places = whole.places;
    blocks = whole.blocks;
    outside = whole.outside;
    counters = whole.counters;
  }

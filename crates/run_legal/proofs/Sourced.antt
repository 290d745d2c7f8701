-- Where pairs were copied from is so still as anything happens but steps of calls, which may copy and store.
use Rattle.std.specs.Prelude.{◌≡◌, ◌≢◌, ℕ, ◌<◌, ◌≤◌, Bool, List, [], ◌∷◌, length, map, Option, Some, None}
use Rattle.std.proofs.Common.{refl, ap, sym, subst, ◌∙◌, inl, inr, arith}
use Rattle.std.proofs.lemmas.Bool.{cases_eq}
use Rattle.run_grows.specs.Given.SeizeDeclared.advance.Advance.{Advance as Making}
use Rattle.run_grows.specs.Given.SeizeDeclared.advance.Advance.TheVariants as progress
use Rattle.run_grows.specs.Given.TablesChunks.{is_incremental}
use Rattle.run_grows.specs.Given.TablesDeclared.setting.Setting.{Setting}
use Rattle.run_grows.specs.Given.RunsDeclared.effect.Effect.{Effect}
use Rattle.run_grows.specs.Given.RunsDeclared.effect.Effect.TheVariants.{Reclaimed}
use Rattle.run_grows.specs.Given.RunsDeclared.effect.Spot.{Spot}
use Rattle.run_grows.specs.Given.RunsDeclared.effect.TableId.{TableId}
use Rattle.run_grows.specs.Given.RunsDeclared.effect.Thing.{Thing}
use Rattle.run_grows.specs.Given.SchedulesEffects.{with_effects}
use Rattle.run_grows.specs.Given.SchedulesMoment.{MapThere, Moment}
use Rattle.run_grows.specs.Given.RuleChart.{Tombstone, Chart}
use Rattle.run_grows.proofs.Given.CallersTogether.At.{at_same, at_other}
use Rattle.run_grows.specs.Given.EffectsKnown.{Known}
use Rattle.run_grows.specs.Given.FinishesMakings.{Beginning, IsNewChart}
use Rattle.run_grows.specs.Given.FinishesMaps.{Standing, IsSameMap}
use Rattle.run_grows.specs.Given.FollowsShows.{Refines}
use Rattle.run_grows.specs.Given.OthersMakings.{making_after}
use Rattle.run_grows.specs.Given.MomentsNumbers.{NumbersMaps}
use Rattle.run_grows.proofs.Given.MomentsNumbers.{maps_come_by_number}
use Rattle.run_grows.proofs.Given.SpotsEffects.{AllAside, aside_all}
use Rattle.run_grows.specs.Given.FindsWithin.{many_of, AllIsInOrder}
use Rattle.run_grows.specs.Sources.Sources.{RefinesSources}
use Rattle.run_grows.specs.Sources.Stays.{MapIsAsBefore, NoneBorn}
use Rattle.run_grows.proofs.Sources.New.{aside_stores_none}
use Rattle.run_grows.proofs.Sources.Stays.{sources_stay}
use Rattle.run_grows.proofs.Sources.Steps.{same_standing}
use Rattle.run_grows.specs.Given.ScenesEnding.{ending_begun}
use Rattle.run_grows.specs.Given.ScenesHeld.{Held}
use Rattle.run_grows.specs.Given.ScenesMaking.{MakingLeads}
use Rattle.run_grows.specs.Given.ScenesScene.{Scene}
use Rattle.run_grows.proofs.Given.General.{same_some as one_of}

-- where the end of a map begins, each other one stands as it did
pub ends_leave : {K V : Type 0} (s : Scene K V) (map i : ℕ) (standing : Standing K) (n : ℕ) (st : Standing K) → (ending_begun map i standing s).maps n ≡ Some st → s.maps n ≡ Some st
ends_leave s map i standing n st stands = elim (cases_eq n map) as (λ _. s.maps n ≡ Some st) [
  | inl e ↦ absurd (let gone = at_same s.maps map None n e in cc (gone, stands))
  | inr ne ↦ sym (at_other s.maps map None n ne) ∙ stands
]

-- what is reclaimed moves no pair
pub reclaimed_aside : (xs : List Thing) → AllAside (map Reclaimed xs)
reclaimed_aside [] = tt
reclaimed_aside (x ∷ xs) = (refl, reclaimed_aside xs)

module _ (K V : Type 0) (same : K → K → Bool) (name : ℕ → List ℕ) (m v : Moment K V) (known known2 : Known) (s t : Scene K V) (sources : RefinesSources same name m known s) (shown2 : Refines same name v known2 t)
    (stored : v.stored ≡ m.stored) (born : v.born ≡ m.born) (spot : v.spot ≡ m.spot) where
  abbrev Goal : Type 0
  Goal = RefinesSources same name v known2 t

  -- where each map stands as before, or as a new one
  pub sources_where : ((n : ℕ) (st2 : Standing K) → t.maps n ≡ Some st2 → MapIsAsBefore m v s n st2) → Goal
  sources_where stands = sources_stay K V same name m v known known2 s t sources shown2 (record {
    stored = ap length stored;
    born = λ k l. ap (λ (f : ℕ → TableId). f k) born;
    spot = λ k l. ap (λ (f : ℕ → Spot). f k) spot;
  }) stands

  -- where each stood so
  pub sources_so : ((n : ℕ) (st2 : Standing K) → t.maps n ≡ Some st2 → s.maps n ≡ Some st2) → Goal
  sources_so was = sources_where (λ n st2 is. inl (st2, was n st2 is, refl, refl))

  -- where fewer of its blocks may be looked at
  pub sources_same : ((n : ℕ) → IsSameMap (s.maps n) (t.maps n)) → Goal
  sources_same maps = sources_where (λ n st2 is. inl (let it = same_standing (s.maps n) (t.maps n) (maps n) st2 is in (it.0, it.1, it.2, ap (λ (x : Setting). is_incremental x.mode) it.3)))

-- as effects come that move no pair
module _ (K V : Type 0) (same : K → K → Bool) (name : ℕ → List ℕ) (m : Moment K V) (known known2 : Known) (s t : Scene K V) (who : Option (List ℕ)) (acted : Option ℕ) (effects : List Effect) (all : AllAside effects)
    (sources : RefinesSources same name m known s) (shown2 : Refines same name (with_effects who acted effects m) known2 t) where
  abbrev v : Moment K V
  v = with_effects who acted effects m

  pub sources_aside : ((n : ℕ) (st2 : Standing K) → t.maps n ≡ Some st2 → MapIsAsBefore m (with_effects who acted effects m) s n st2) → RefinesSources same name (with_effects who acted effects m) known2 t
  sources_aside stands =
      let aside = aside_all who acted effects m all in
      sources_where K V same name m v known known2 s t sources shown2 (aside_stores_none who acted effects m all) aside.born aside.spot stands

  pub same_maps_aside : ((n : ℕ) → IsSameMap (s.maps n) (t.maps n)) → RefinesSources same name (with_effects who acted effects m) known2 t
  same_maps_aside maps =
      let aside = aside_all who acted effects m all in
      sources_same K V same name m v known known2 s t sources shown2 (aside_stores_none who acted effects m all) aside.born aside.spot maps

  pub so_aside : ((n : ℕ) (st2 : Standing K) → t.maps n ≡ Some st2 → s.maps n ≡ Some st2) → RefinesSources same name (with_effects who acted effects m) known2 t
  so_aside was = sources_aside (λ n st2 is. inl (st2, was n st2 is, refl, refl))

-- no pair was stored in a map of a number that none has had
pub none_born : (K V : Type 0) (m : Moment K V) → AllIsInOrder m → NumbersMaps m → (there : MapThere) → there.number ≡ m.made → NoneBorn there.number m
none_born K V m order numbers there number k some most is =
    let none = ap length (maps_come_by_number K V m numbers there number).1 in
    let lies : (m.spot k).turn < many_of there.number m = subst (λ (of : ℕ). (m.spot k).turn < many_of of m) is (order.within.spots k some most) in
    omega (arith, none, lies)

pub still_none_born : {K V : Type 0} (m v : Moment K V) (of : ℕ) → v.stored ≡ m.stored → v.born ≡ m.born → NoneBorn of m → NoneBorn of v
still_none_born {K} {V} m v of stored born none k some most is =
    none k some (subst (λ (xs : List (K × V)). k ≤ length xs) stored most) (ap (λ (f : ℕ → TableId). (f k).map) (sym born) ∙ is)

-- a map that was just made has no pair
new_stored : {K : Type 0} (hash : K → ℕ) (setting : Setting) (places : ℕ) (c : Chart K) → IsNewChart hash setting places c → c.stored ≡ 0
new_stored {K} hash setting places c (inl new) = ap (λ (x : Chart K). x.stored) new.1
new_stored {K} hash setting places c (inr new) = ap (λ (x : Chart K). x.stored) new.2

-- nor was one removed there
abbrev HasNoTombstone : {K : Type 0} → Chart K → Type 0
HasNoTombstone c = (t i : ℕ) (mark : Bool) → c.place t i ≢ Tombstone mark

new_bare : {K : Type 0} (hash : K → ℕ) (setting : Setting) (places : ℕ) (c : Chart K) → IsNewChart hash setting places c → HasNoTombstone c
new_bare {K} hash setting places c (inl new) t i mark is = let none = ap (λ (x : Chart K). x.place t i) new.1 in cc (is, none)
new_bare {K} hash setting places c (inr new) t i mark is = let none = ap (λ (x : Chart K). x.place t i) new.2 in cc (is, none)

-- as a map is made
module _ (K V : Type 0) (same : K → K → Bool) (hash : ℕ → K → ℕ) (name : ℕ → List ℕ) (m : Moment K V) (known known2 : Known) (s : Scene K V) (old new : Held K V) (i : ℕ) (b : Beginning K) (here : s.makers i ≡ Some b)
    (acted : Option ℕ) (effects : List Effect) (all : AllAside effects) (sources : RefinesSources same name m known s) (none : NoneBorn b.map m) where
  abbrev then_at : Moment K V
  then_at = with_effects None acted effects m

  pub making_none : NoneBorn b.map (with_effects None acted effects m)
  making_none = still_none_born m then_at b.map (aside_stores_none None acted effects m all) (aside_all None acted effects m all).born none

  abbrev led : (said : Making Setting) → MakingLeads same hash i said s old new → Scene K V
  led said leads = making_after same hash s old new i b (leads b here).0 (leads b here).2.step.w2 said (leads b here).3

  pub making_sources : (said : Making Setting) (leads : MakingLeads same hash i said s old new)
      → (let t = making_after same hash s old new i b (leads b here).0 (leads b here).2.step.w2 said (leads b here).3 in
      Refines same name (with_effects None acted effects m) known2 t → RefinesSources same name (with_effects None acted effects m) known2 t)
  making_sources progress.Goes leads shown2 = so_aside K V same name m known known2 s (led progress.Goes leads) None acted effects all sources shown2 (λ n st2 is. is)
  making_sources progress.Waits leads shown2 = absurd (leads b here).3
  making_sources (progress.Refused fault) leads shown2 = so_aside K V same name m known known2 s (led (progress.Refused fault) leads) None acted effects all sources shown2 (λ n st2 is. is)
  making_sources (progress.Done setting) leads shown2 =
      sources_aside K V same name m known known2 s (led (progress.Done setting) leads) None acted effects all sources shown2 stands
    where
      made : Standing K
      made = (leads b here).3.0

      stands : (n : ℕ) (st2 : Standing K) → (led (progress.Done setting) leads).maps n ≡ Some st2 → MapIsAsBefore m then_at s n st2
      stands n st2 is = elim (cases_eq n b.map) as (λ _. MapIsAsBefore m then_at s n st2) [
        | inl e ↦
            let one = one_of st2 made (sym is ∙ at_same s.maps b.map (Some made) n e) in
            inr (
              ap (λ (x : Standing K). x.chart.stored) one ∙ new_stored b.hash setting b.places made.chart (leads b here).3.1.chart_is,
              subst (λ (x : ℕ). NoneBorn x then_at) (sym e) making_none,
              subst (λ (x : Standing K). HasNoTombstone x.chart) (sym one) (new_bare b.hash setting b.places made.chart (leads b here).3.1.chart_is),
            )
        | inr ne ↦ inl (st2, sym (at_other s.maps b.map (Some made) n ne) ∙ is, refl, refl)
      ]

-- After a step of a call, each call under way was asked and told as the moment says then.
use Rattle.std.specs.Prelude.{◌≡◌, ℕ, Bool, List, Option, Some, None}
use Rattle.std.proofs.Common.{refl, ap, sym, subst, ◌∙◌, inl, inr}
use Rattle.run_shows.specs.Given.TablesDeclared.node.Node.{Node}
use Rattle.run_shows.specs.Given.RawDeclared.machines.progress.Progress.{Progress}
use Rattle.run_shows.specs.Given.RunsDeclared.effect.Effect.{Effect}
use Rattle.run_shows.specs.Given.SchedulesEffects.{with_effects}
use Rattle.run_shows.specs.Given.SchedulesMoment.{UnderWay as CallThere, Moment}
use Rattle.run_shows.specs.Given.SchedulesViews.{call_of}
use Rattle.run_shows.specs.Given.CallersTogether.{UnderWay}
use Rattle.run_shows.specs.Given.EffectsEffects.{effects_of, known_after}
use Rattle.run_shows.specs.Given.EffectsKnown.{Known}
use Rattle.run_shows.specs.Given.EffectsDeclared.acting.Acting.TheVariants as acts
use Rattle.run_shows.specs.Given.FinishesMaps.{Standing}
use Rattle.run_shows.specs.Follows.Shows.{Refines}
use Rattle.run_shows.proofs.Follows.Steps.{WentTo, went_to, LeadsThere}
use Rattle.run_places.specs.Hands.Asked.{IsAsked, RefinesAsked}
use Rattle.run_places.proofs.Hands.Asking.{asked_kept, own_asked, which}
use Rattle.run_places.proofs.Hands.Replacing.{all_settle, calls_after, replaces_none}
use Rattle.run_shows.specs.Scenes.Held.{Held, IsAt}
use Rattle.run_shows.specs.Scenes.Scene.{Scene}
use Rattle.run_shows.specs.Scenes.Stepping.{StepLeads, scene_after}
use Rattle.run_shows.proofs.Given.General.{same_some as one_of}

module _ {K V : Type 0} (same : K → K → Bool) (hash : ℕ → K → ℕ) (name : ℕ → List ℕ) (m : Moment K V) (known : Known) (s : Scene K V) (old new : Held K V) (at : IsAt same hash old s)
    (shown : Refines same name m known s) (map i : ℕ) (u : UnderWay K V K) (here : s.calls map i ≡ Some u) (told : Progress (Node K V)) (leads : StepLeads same hash i told s old new)
    (asked : RefinesAsked name shown.number m known s) (on : LeadsThere same hash name m known s old new at shown map i u here told leads) where
  abbrev effects : List Effect
  effects = effects_of (acts.Call i map) known new.changed

  abbrev after : Known
  after = known_after (acts.Call i map) new.changed known

  abbrev v : Moment K V
  v = with_effects (Some (name i)) (Some map) effects m

  abbrev to : WentTo same hash name m known s old new at shown map i u here told leads
  to = went_to same hash name m known s old new at shown map i u here told leads

  abbrev s2 : Scene K V
  s2 = scene_after same s old new map i to.0 u to.1 told to.4

  before : (n j : ℕ) (x : UnderWay K V K) → s2.calls n j ≡ Some x → (b : UnderWay K V K) × (s.calls n j ≡ Some b)
  before n j x is = elim (which s.calls map i to.4.next n j x is) as (λ _. (b : UnderWay K V K) × (s.calls n j ≡ Some b)) [
    | inl its ↦ (u, ap (λ (k : ℕ). s.calls k j) its.0 ∙ ap (s.calls map) its.1 ∙ here)
    | inr was ↦ (x, was.1)
  ]

  -- the call that has taken the step
  own : (x : UnderWay K V K) → to.4.next ≡ Some x → (st : Standing K) → s2.maps map ≡ Some st → (d : CallThere K V) → call_of (name i) v ≡ Some d
      → IsAsked (on.shows.number map) st.chart.stored after x d
  own x goes st there d found =
      let was = shown.calls map i u here in
      let now = calls_after (name i) map (name i) effects m was.0 was.1 in
      let stood = on.stood map to.0 to.2 in
      let is_st : stood.0 ≡ st = one_of stood.0 st (sym stood.1 ∙ there) in
      let is_d : now.0 ≡ d = one_of now.0 d (sym now.1 ∙ found) in
      subst (λ (y : CallThere K V). IsAsked (on.shows.number map) st.chart.stored after x y) is_d
      (subst (λ (y : Standing K). IsAsked (on.shows.number map) y.chart.stored after x now.0) is_st
      (own_asked same old.batch_size old.roots s.world s.maps s.calls s.makers s.enders map to.0 i to.4.w2 to.4.maps2 to.4.next old new to.1 told known after on.keeps (shown.number map) (on.shows.number map)
      to.0.chart.stored stood.0.chart.stored stood.2.stored (on.numbers map to.0 to.2) was.0 now.0 now.2.0
      (replaces_none (name i) map (name i) effects was.0 now.0 (all_settle i map known new.changed) now.2) x goes u to.3 to.4.did (asked.each map i u here to.0 to.2 was.0 was.1)))

  -- and any other one
  other : (n j : ℕ) (x : UnderWay K V K) → s.calls n j ≡ Some x → (st : Standing K) → s2.maps n ≡ Some st → (d : CallThere K V) → call_of (name j) v ≡ Some d
      → IsAsked (on.shows.number n) st.chart.stored after x d
  other n j x is st there d found = by (s.maps n) refl
    where
      by : (o : Option (Standing K)) → s.maps n ≡ o → IsAsked (on.shows.number n) st.chart.stored after x d
      by None gone = absurd (let none = (on.none n gone).0 in cc (none, there))
      by (Some before) stands =
          let was = shown.calls n j x is in
          let now = calls_after (name i) map (name j) effects m was.0 was.1 in
          let stood = on.stood n before stands in
          let is_st : stood.0 ≡ st = one_of stood.0 st (sym stood.1 ∙ there) in
          let is_d : now.0 ≡ d = one_of now.0 d (sym now.1 ∙ found) in
          subst (λ (y : CallThere K V). IsAsked (on.shows.number n) st.chart.stored after x y) is_d
          (subst (λ (y : Standing K). IsAsked (on.shows.number n) y.chart.stored after x now.0) is_st
          (asked_kept known after on.keeps (shown.number n) (on.shows.number n) before.chart.stored stood.0.chart.stored stood.2.stored (on.numbers n before stands) x was.0 now.0 now.2.0
          (replaces_none (name i) map (name j) effects was.0 now.0 (all_settle i map known new.changed) now.2) (asked.each n j x is before stands was.0 was.1)))

  pub asked_on : RefinesAsked name on.shows.number v after s2
  asked_on = record {
    apart = λ n j k l x y is is2 names. asked.apart n j k l (before n j x is).0 (before k l y is2).0 (before n j x is).1 (before k l y is2).1 names;
    each = λ n j x is st there c found. elim (which s.calls map i to.4.next n j x is) as (λ _. IsAsked (on.shows.number n) st.chart.stored after x c) [
      | inl its ↦
          subst (λ (k : ℕ). IsAsked (on.shows.number k) st.chart.stored after x c) (sym its.0)
          (own x its.2 st (ap s2.maps (sym its.0) ∙ there) c (ap (λ (k : ℕ). call_of (name k) v) (sym its.1) ∙ found))
      | inr was ↦ other n j x was.1 st there c found
    ];
  }

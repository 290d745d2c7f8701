-- A step of a call that is none of a row, of whichever kind the call is: it stores what the call has to store, and the moment after its effects shows the scene.
use Rattle.std.specs.Prelude.{◌≡◌, ℕ, ◌<◌, Bool, List, Some}
use Rattle.std.proofs.Common.{arith, inl, inr}
use Rattle.std.proofs.lemmas.Bool.{cases_eq, cases_lt}
use Rattle.run_shows.specs.Given.TablesDeclared.node.Node.{Node}
use Rattle.run_shows.specs.Given.RawDeclared.machines.progress.Progress.{Progress}
use Rattle.run_shows.specs.Given.SchedulesMoment.{Moment}
use Rattle.run_shows.specs.Given.CallersTogether.{UnderWay, OnKey, ForRoom, Counting, OverAll}
use Rattle.run_shows.specs.Given.EffectsEffects.{effects_of}
use Rattle.run_shows.specs.Given.EffectsKnown.{Known}
use Rattle.run_shows.specs.Given.EffectsDeclared.acting.Acting.TheVariants as acts
use Rattle.run_shows.specs.Given.FinishesMaps.{Standing}
use Rattle.run_shows.specs.Given.RuleInWorld.{IsMapIn}
use Rattle.run_shows.specs.Follows.Maps.{RefinesPairs}
use Rattle.run_shows.specs.Follows.Shows.{Refines}
use Rattle.run_shows.specs.Follows.Steps.{StoreTheirs}
use Rattle.run_shows.proofs.Follows.Steps.{WentTo, went_to, made_so, DidSo, OfNoRow, step_shown, stores_its, stayed_stores}
use Rattle.run_places.specs.Hands.Asked.{RefinesAsked}
use Rattle.run_places.specs.Hands.Steps.{CallsStoreTheirs}
use Rattle.run_places.proofs.Hands.AskedOn.{asked_on}
use Rattle.run_places.proofs.Hands.HandsOn.{hands_on}
use Rattle.run_places.proofs.Hands.RowsOn.{rows_on, keeps_theirs, own_row}
use Rattle.run_places.proofs.Hands.Spares.{pairs_spared, tables_spared}
use Rattle.run_places.proofs.Hands.Stores.{key_gives, room_gives, sweep_gives}
use Rattle.run_shows.specs.Scenes.Held.{Held, IsAt}
use Rattle.run_shows.specs.Scenes.Scene.{Scene}
use Rattle.run_shows.specs.Scenes.Stepping.{StepLeads}

-- no two pairs of a map have one number
pub numbers_apart : {K V : Type 0} (map : ℕ) (number : ℕ → ℕ) (s : Standing K) (m : Moment K V) (known : Known) → RefinesPairs map number s m known
    → (n o : ℕ) → n < s.chart.stored → o < s.chart.stored → number n ≡ number o → n ≡ o
numbers_apart map number s m known shown n o l l2 e = elim (cases_eq n o) as (λ _. n ≡ o) [
  | inl same ↦ same
  | inr ne ↦ elim (cases_lt n o) as (λ _. n ≡ o) [
    | inl less ↦ absurd (let r = shown.rising n o less l2 in omega (arith, r, e))
    | inr more ↦ absurd (let r = shown.rising o n (omega (arith, more, ne)) l in omega (arith, r, e))
  ]
]

module _ {K V : Type 0} (same : K → K → Bool) (hash : ℕ → K → ℕ) (name : ℕ → List ℕ) (m : Moment K V) (known : Known) (s : Scene K V) (old new : Held K V) (at : IsAt same hash old s)
    (shown : Refines same name m known s) (map i : ℕ) (u : UnderWay K V K) (here : s.calls map i ≡ Some u) (told : Progress (Node K V)) (leads : StepLeads same hash i told s old new)
    (asked : RefinesAsked name shown.number m known s) where
  abbrev to : WentTo same hash name m known s old new at shown map i u here told leads
  to = went_to same hash name m known s old new at shown map i u here told leads

  abbrev Theirs : Type 0
  Theirs = StoreTheirs s.world.memory new.changed (name i) map (effects_of (acts.Call i map) known new.changed) m

  is_map : IsMapIn same to.0.hash to.0.setting s.world to.0.chart to.0.blocks
  is_map = (at.together.makings.standing.each map to.0 to.2).ground.map

  -- it stores what the call has to store
  pub stores_theirs : OfNoRow same hash name m known s old new at shown map i u here told leads u to.4.did → Theirs
  stores_theirs own = by u here to.4.did own
    where
      by : (x : UnderWay K V K) → s.calls map i ≡ Some x → (did : DidSo same hash name m known s old new at shown map i u here told leads x)
          → OfNoRow same hash name m known s old new at shown map i u here told leads x did → Theirs
      by (OnKey x) has (p2, end, machine_is, told_is, inl (step, moved)) own =
          let there = shown.calls map i (OnKey x) has in
          stores_its same hash m known s old new at name shown map i to.0 to.2 (name i) (made_so same hash name m known s old new at shown map i u here told leads)
          step.step.inside _ step.step.went step.step.blocks2 step.step.grown step.step.sights2
          (key_gives same to.0 s.world is_map map (name i) (shown.number map) (numbers_apart map (shown.number map) to.0 m known (shown.maps map to.0 to.2).pairs) m known (s.calls map) i x there.0 there.1 there.3
          (asked.each map i (OnKey x) has to.0 to.2 there.0 there.1) new.memory p2 end step.step)
      by (OnKey x) has (p2, end, machine_is, told_is, inr row) own = absurd own
      by (ForRoom x) has (p2, end, machine_is, told_is, inl (step, moved)) own =
          stores_its same hash m known s old new at name shown map i to.0 to.2 (name i) (made_so same hash name m known s old new at shown map i u here told leads)
          step.step.inside _ step.step.went step.step.blocks2 step.step.grown step.step.sights2
          (room_gives same to.0 s.world is_map map (Some (name i)) (shown.number map) (step.step.went.blocks2.pair to.0.chart.stored) m new.memory step.step.went.c2 step.step.same_pairs)
      by (ForRoom x) has (p2, end, machine_is, told_is, inr row) own = absurd own
      by (Counting x) has (p2, end, machine_is, told_is, still, stayed) own =
          stayed_stores same hash m known s old new at name shown map i to.0 to.2 (name i) (made_so same hash name m known s old new at shown map i u here told leads) still
      by (OverAll x) has (p2, end, machine_is, told_is, inl (step, moved)) own =
          stores_its same hash m known s old new at name shown map i to.0 to.2 (name i) (made_so same hash name m known s old new at shown map i u here told leads)
          step.step.inside _ step.step.went step.step.blocks2 step.step.grown step.step.sights2
          (sweep_gives same to.0 s.world is_map map (Some (name i)) (shown.number map) (step.step.went.blocks2.pair to.0.chart.stored) m new.memory step.step.went.c2 x step.step.removes)
      by (OverAll x) has (p2, end, machine_is, told_is, inr row) own = absurd own

pub calls_store_theirs : (K V : Type 0) (same : K → K → Bool) (hash : ℕ → K → ℕ) → CallsStoreTheirs K V same hash
calls_store_theirs K V same hash name m known s old new at all map i u here told leads own =
    let stores = stores_theirs same hash name m known s old new at all.shown map i u here told leads all.asked own in
    let step = step_shown same hash name m known s old new at all.shown map i u here told leads own stores in
    let to = went_to same hash name m known s old new at all.shown map i u here told leads in (
      stores,
      step.0,
      record {
        shown = step.1.shows;
        asked = asked_on same hash name m known s old new at all.shown map i u here told leads all.asked step.1;
        hands = hands_on same hash name m known s all.shown all.hands _ _ _ step.1 new to.5 (pairs_spared same hash name m known s old new at all.shown map i u here told leads all.hands own)
            (tables_spared same hash name m known s old new at all.shown map i u here told leads all.hands own);
        rows = rows_on same hash name m known s old new at all.shown map i u here told leads all.rows
            (keeps_theirs same hash name m known s old new at all.shown map i u here told leads all.rows own) (own_row same hash name m known s old new at all.shown map i u here told leads all.rows own);
      },
    )

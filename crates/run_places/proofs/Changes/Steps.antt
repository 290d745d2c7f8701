-- A step of a call, whoever's: the history of each map stays within the moments of the run.
use Rattle.std.specs.Prelude.{◌≡◌, ◌≢◌, ℕ, ◌≤◌, Bool, List, Option, Some, ◌⊎◌}
use Rattle.std.proofs.Common.{refl, ap, sym, subst, ◌∙◌, arith, inl, inr}
use Rattle.std.proofs.lemmas.Bool.{cases_eq}
use Rattle.run_shows.specs.Given.SeizeWorld.{World, IsInside, with_at}
use Rattle.run_shows.specs.Given.TablesChunks.{is_incremental}
use Rattle.run_shows.specs.Given.TablesDeclared.node.Node.{Node}
use Rattle.run_shows.specs.Given.RawDeclared.machines.progress.Progress.{Progress}
use Rattle.run_shows.specs.Given.RunsDeclared.effect.Effect.{Effect}
use Rattle.run_shows.specs.Given.SchedulesEffects.{with_effects}
use Rattle.run_shows.specs.Given.SchedulesMoment.{UnderWay as CallThere, Moment}
use Rattle.run_shows.specs.Given.SchedulesViews.{call_of, finite_map}
use Rattle.run_shows.specs.Given.RuleChart.{Chart}
use Rattle.run_shows.specs.Given.RuleInWorld.{IsMapIn, StepSpec}
use Rattle.run_shows.specs.Given.RuleMoments.{Remembers}
use Rattle.run_shows.specs.Given.RuleWords.{Blocks}
use Rattle.run_shows.proofs.Given.PointsMovedLasts.{moved_lasts}
use Rattle.run_shows.specs.Given.CallersSights.{Visible, seen_by}
use Rattle.run_shows.specs.Given.CallersTogether.{UnderWay, OnKey, ForRoom, Counting, OverAll, in_slot}
use Rattle.run_shows.proofs.Given.CallersSights.Seen.{map_seen}
use Rattle.run_shows.proofs.Given.CallersTogether.At.{at_same}
use Rattle.run_shows.proofs.Given.CallersTogether.Fits.{map_in_slot}
use Rattle.run_shows.specs.Given.FinishesMaps.{Standing, IsSameMap}
use Rattle.run_shows.specs.Given.EffectsEffects.{effects_of, known_after}
use Rattle.run_shows.specs.Given.EffectsKnown.{Known}
use Rattle.run_shows.specs.Given.EffectsDeclared.acting.Acting.TheVariants as acts
use Rattle.run_shows.specs.Follows.Shows.{Refines}
use Rattle.run_shows.proofs.Follows.Called.{key_goes_on, room_goes_on, sweep_goes_on, counting_goes_on}
use Rattle.run_shows.proofs.Follows.RowSteps.{row_step_shown}
use Rattle.run_shows.proofs.Follows.Steps.{WentTo, went_to, made_so, is_sight, DidSo, LeadsThere, step_shown}
use Rattle.run_places.proofs.Hands.AskedOn.{asked_on}
use Rattle.run_places.proofs.Hands.Asking.{which}
use Rattle.run_places.proofs.Hands.RowSteps.{rows_hand_theirs}
use Rattle.run_places.proofs.Hands.Steps.{calls_store_theirs}
use Rattle.run_places.specs.Moments.Whole.{RefinesWhole}
use Rattle.run_places.proofs.Moments.Calls.{of_row}
use Rattle.run_places.proofs.Moments.OnSlots.{stood_same}
use Rattle.run_places.specs.Changes.Had.{HadThen}
use Rattle.run_places.specs.Changes.Histories.{began_of, since, IsWithin, RefinesHistory}
use Rattle.run_places.specs.Changes.Kept.{ChangesFirst}
use Rattle.run_places.proofs.Changes.Begun.{effects_begun}
use Rattle.run_places.proofs.Changes.Had.{had_on, had_at, had_one}
use Rattle.run_places.proofs.Changes.Later.{IsLater, same_later, moved_later}
use Rattle.run_places.proofs.Changes.Now.{now_had}
use Rattle.run_places.proofs.Changes.Within.{within_on}
use Rattle.run_shows.specs.Scenes.Held.{Held, IsAt}
use Rattle.run_shows.specs.Scenes.Scene.{Scene, slot_of}
use Rattle.run_shows.specs.Scenes.Stepping.{StepLeads, scene_after}
use Rattle.run_shows.specs.Given.SchedulesTransition.{Past}
use Rattle.run_shows.proofs.Given.General.{same_some as one_of}

module _ {K V : Type 0} (same : K → K → Bool) (hash : ℕ → K → ℕ) (name : ℕ → List ℕ) (m : Moment K V) (known : Known) (s : Scene K V) (old new : Held K V) (at : IsAt same hash old s)
    (whole : RefinesWhole same name m known s) (shown : Refines same name m known s) (map i : ℕ) (u : UnderWay K V K) (here : s.calls map i ≡ Some u) (said : Progress (Node K V))
    (leads : StepLeads same hash i said s old new) where
  abbrev pub to : WentTo same hash name m known s old new at shown map i u here said leads
  to = went_to same hash name m known s old new at shown map i u here said leads

  abbrev pub Led : Type 0
  Led = LeadsThere same hash name m known s old new at shown map i u here said leads

  abbrev Did : UnderWay K V K → Type 0
  Did x = DidSo same hash name m known s old new at shown map i u here said leads x

  -- the moment after its effects shows the scene then, and pairs have the numbers that they had
  pub led_on : Led
  led_on = elim (of_row same hash name m known s old new at whole map i u here said leads u to.4.did) as (λ _. Led) [
    | inl own ↦
        (step_shown same hash name m known s old new at shown map i u here said leads own (calls_store_theirs K V same hash name m known s old new at whole.all map i u here said leads own).0).1
    | inr other ↦
        let it = rows_hand_theirs K V same hash name m known s old new at whole.all map i u here said leads other in
        row_step_shown same hash name m known s old new at shown map i u here said leads other it.1 it.0
  ]

  -- the tables of its map have come to these
  pub moved_chart : (c2 : Chart K) (blocks2 : Blocks) (sights2 : ℕ → Visible) → to.4.maps2 ≡ with_at s.maps map (Some (record to.0 { chart = c2; blocks = blocks2; sights = sights2 }))
      → (st : Standing K) → to.4.maps2 map ≡ Some st → st.chart ≡ c2
  moved_chart c2 blocks2 sights2 e st is =
      ap (λ (x : Standing K). x.chart)
      (one_of st (record to.0 { chart = c2; blocks = blocks2; sights = sights2 })
      (sym is ∙ ap (λ (f : ℕ → Option (Standing K)). f map) e ∙ at_same s.maps map (Some (record to.0 { chart = c2; blocks = blocks2; sights = sights2 })) map refl))

  its_map : IsInside (s.world.uses (slot_of i)) → IsMapIn same to.0.hash (in_slot to.0.setting (slot_of i)) s.world to.0.chart (seen_by to.0.blocks (to.0.sights (slot_of i)))
  its_map inside =
      map_seen same to.0.hash (in_slot to.0.setting (slot_of i)) s.world to.0.chart to.0.blocks (to.0.sights (slot_of i))
      (map_in_slot same to.0.hash to.0.setting s.world to.0.chart to.0.blocks (slot_of i) (at.together.makings.standing.each map to.0 to.2).ground.map)
      (is_sight same hash m known s old new at name shown map i to.0 to.2 (name i) (made_so same hash name m known s old new at shown map i u here said leads) inside)

  went_later : IsInside (s.world.uses (slot_of i)) → (Told : World (Node K V) → Chart K → Blocks → Type 0)
      (went : StepSpec same to.0.hash (in_slot to.0.setting (slot_of i)) i s.world to.0.chart (seen_by to.0.blocks (to.0.sights (slot_of i))) new.memory Told)
      → Remembers (is_incremental to.0.setting.mode) to.0.chart went.c2 → IsLater to.0.chart went.c2
  went_later inside Told went remembers =
      moved_later same to.0.hash to.0.setting.mode to.0.chart went.c2 i went.moved
      (moved_lasts same to.0.hash (in_slot to.0.setting (slot_of i)) (at.together.makings.standing.fit map to.0 to.2).0.lawful s.world to.0.chart went.c2 (seen_by to.0.blocks (to.0.sights (slot_of i)))
      (its_map inside) went.moved) remembers

  same_map_later : (n : ℕ) → IsSameMap (s.maps n) (to.4.maps2 n) → (st : Standing K) → to.4.maps2 n ≡ Some st → (before : Standing K) × (s.maps n ≡ Some before) × IsLater before.chart st.chart
  same_map_later n kept st is =
      let it = stood_same (s.maps n) (to.4.maps2 n) kept st is in (it.0, it.1, subst (IsLater it.0.chart) (sym it.2) (same_later it.0.chart))

  -- each map that stands then stood so, and a moment of it has passed, or none
  pub maps_later : (n : ℕ) (st : Standing K) → to.4.maps2 n ≡ Some st → (before : Standing K) × (s.maps n ≡ Some before) × IsLater before.chart st.chart
  maps_later n st is = elim (cases_eq n map) as (λ _. Was) [
    | inl e ↦ its e u to.4.did
    | inr ne ↦ same_map_later n (to.4.others n ne) st is
  ]
    where
      Was : Type 0
      Was = (before : Standing K) × (s.maps n ≡ Some before) × IsLater before.chart st.chart

      moved_on : n ≡ map → (c2 : Chart K) (blocks2 : Blocks) (sights2 : ℕ → Visible) → to.4.maps2 ≡ with_at s.maps map (Some (record to.0 { chart = c2; blocks = blocks2; sights = sights2 }))
          → IsLater to.0.chart c2 → Was
      moved_on e c2 blocks2 sights2 maps_are later =
          (to.0, ap s.maps e ∙ to.2, subst (IsLater to.0.chart) (sym (moved_chart c2 blocks2 sights2 maps_are st (ap to.4.maps2 (sym e) ∙ is))) later)

      its : n ≡ map → (x : UnderWay K V K) → Did x → Was
      its e (OnKey x) (p2, end, machine_is, told_is, inl (step, moved)) = moved_on e step.step.went.c2 step.step.blocks2 step.step.sights2 moved.1 (went_later step.step.inside _ step.step.went step.step.remembers)
      its e (OnKey x) (p2, end, machine_is, told_is, inr (row, stayed)) = same_map_later n (stayed.1 n) st is
      its e (ForRoom x) (p2, end, machine_is, told_is, inl (step, moved)) = moved_on e step.step.went.c2 step.step.blocks2 step.step.sights2 moved.1 (went_later step.step.inside _ step.step.went step.step.remembers)
      its e (ForRoom x) (p2, end, machine_is, told_is, inr (row, stayed)) = same_map_later n (stayed.1 n) st is
      its e (Counting x) (sum2, end, machine_is, told_is, still, stayed) = same_map_later n (stayed.1 n) st is
      its e (OverAll x) (p2, end, machine_is, told_is, inl (step, moved)) = moved_on e step.step.went.c2 step.step.blocks2 step.step.sights2 moved.1 (went_later step.step.inside _ step.step.went step.step.remembers)
      its e (OverAll x) (p2, end, machine_is, told_is, inr (row, stayed)) = same_map_later n (stayed.1 n) st is

  -- a call that goes on began when it began
  began_so : (y : UnderWay K V K) → Did y → (x : UnderWay K V K) → to.4.next ≡ Some x → began_of x ≡ began_of y
  began_so (OnKey y) (p2, end, machine_is, told_is, inl (step, moved)) x e = ap (λ (z : UnderWay K V K). began_of z) (key_goes_on _ end x (sym moved.2 ∙ e))
  began_so (OnKey y) (p2, end, machine_is, told_is, inr (row, stayed)) x e = ap (λ (z : UnderWay K V K). began_of z) (key_goes_on _ end x (sym stayed.2 ∙ e))
  began_so (ForRoom y) (p2, end, machine_is, told_is, inl (step, moved)) x e = ap (λ (z : UnderWay K V K). began_of z) (room_goes_on _ end x (sym moved.2 ∙ e))
  began_so (ForRoom y) (p2, end, machine_is, told_is, inr (row, stayed)) x e = ap (λ (z : UnderWay K V K). began_of z) (room_goes_on _ end x (sym stayed.2 ∙ e))
  began_so (Counting y) (sum2, end, machine_is, told_is, still, stayed) x e = ap (λ (z : UnderWay K V K). began_of z) (counting_goes_on sum2 end x (sym stayed.2 ∙ e))
  began_so (OverAll y) (p2, end, machine_is, told_is, inl (step, moved)) x e = ap (λ (z : UnderWay K V K). began_of z) (sweep_goes_on _ end x (sym moved.2 ∙ e))
  began_so (OverAll y) (p2, end, machine_is, told_is, inr (row, stayed)) x e = ap (λ (z : UnderWay K V K). began_of z) (sweep_goes_on _ end x (sym stayed.2 ∙ e))

  abbrev pub s2 : Scene K V
  s2 = scene_after same s old new map i to.0 u to.1 said to.4

  pub was_under_way : (n j : ℕ) (x : UnderWay K V K) → s2.calls n j ≡ Some x → (y : UnderWay K V K) × (s.calls n j ≡ Some y) × (began_of x ≡ began_of y)
  was_under_way n j x is = elim (which s.calls map i to.4.next n j x is) as (λ _. (y : UnderWay K V K) × (s.calls n j ≡ Some y) × (began_of x ≡ began_of y)) [
    | inl its ↦ (u, ap (λ (k : ℕ). s.calls k j) its.0 ∙ ap (s.calls map) its.1 ∙ here, began_so u to.4.did x its.2)
    | inr was ↦ (x, was.1, refl)
  ]

  abbrev effects : List Effect
  effects = effects_of (acts.Call i map) known new.changed

  abbrev pub after : Known
  after = known_after (acts.Call i map) new.changed known

  abbrev pub v : Moment K V
  v = with_effects (Some (name i)) (Some map) effects m

  -- what each map has then, the finite map has
  pub now_then : (n : ℕ) (st : Standing K) → s2.maps n ≡ Some st → (k : K) → HadThen same st (led_on.shows.number n) st.chart.now k (finite_map same n v k)
  now_then n st is k =
      now_had same n (led_on.shows.number n) st v after s2.world (s2.calls n) (to.5.together.makings.standing.fit n st is).0 (to.5.together.makings.standing.each n st is)
      (led_on.shows.maps n st is).pairs led_on.shows.blocks k

  -- where a map has the pairs that it had, its finite map is the same
  pub same_pairs : (n : ℕ) (st : Standing K) (there : s2.maps n ≡ Some st) (before : Standing K) (was : s.maps n ≡ Some before) → st.chart.current ≡ before.chart.current → (k : K)
      → finite_map same n v k ≡ finite_map same n m k
  same_pairs n st there before was kept k =
      had_one same st (led_on.shows.number n) st.chart.now k (finite_map same n v k) (finite_map same n m k) (now_then n st there k)
      (had_at same st (led_on.shows.number n) before.chart.now k st.chart.now alike (finite_map same n m k)
      (had_on same before st (shown.number n) (led_on.shows.number n) later (led_on.numbers n before was) before.chart.now (omega arith) k (finite_map same n m k)
      (now_had same n (shown.number n) before m known s.world (s.calls n) (at.together.makings.standing.fit n before was).0 (at.together.makings.standing.each n before was)
      (shown.maps n before was).pairs shown.blocks k)))
    where
      later : IsLater before.chart st.chart
      later = let it = maps_later n st there in subst (λ (z : Standing K). IsLater z.chart st.chart) (one_of it.0 before (sym it.1 ∙ was)) it.2

      alike : (o : ℕ) → st.chart.was st.chart.now o ≡ st.chart.was before.chart.now o
      alike o =
          (to.5.together.makings.standing.each n st there).ground.moments.now_is o ∙ ap (λ (f : ℕ → Bool). f o) kept
          ∙ sym ((at.together.makings.standing.each n before was).ground.moments.now_is o) ∙ sym (ap (λ (f : ℕ → Bool). f o) (later.was before.chart.now (omega arith)))

  -- and so it is on each other map
  pub same_elsewhere : (n : ℕ) → n ≢ map → (st : Standing K) → s2.maps n ≡ Some st → (k : K) → finite_map same n v k ≡ finite_map same n m k
  same_elsewhere n ne st there k =
      let it = stood_same (s.maps n) (to.4.maps2 n) (to.4.others n ne) st there in same_pairs n st there it.0 it.1 (ap (λ (c : Chart K). c.current) it.2) k

module _ {K V : Type 0} (same : K → K → Bool) (hash : ℕ → K → ℕ) (name : ℕ → List ℕ) (log : Past K V) (m : Moment K V) (known : Known) (s : Scene K V) (old new : Held K V)
    (at : IsAt same hash old s) (whole : RefinesWhole same name m known s) (history : RefinesHistory same name log m known s) (map i : ℕ) (u : UnderWay K V K) (here : s.calls map i ≡ Some u)
    (said : Progress (Node K V)) (leads : StepLeads same hash i said s old new) where
  abbrev pub then_shown : LeadsThere same hash name m known s old new at history.shown map i u here said leads
  then_shown = led_on same hash name m known s old new at whole history.shown map i u here said leads

  abbrev pub v2 : Moment K V
  v2 = v same hash name m known s old new at whole history.shown map i u here said leads

  abbrev pub scene2 : Scene K V
  scene2 = s2 same hash name m known s old new at whole history.shown map i u here said leads

  -- a call that is there then was there, and one event began both
  was_there : (n j : ℕ) (x : UnderWay K V K) → scene2.calls n j ≡ Some x → (d : CallThere K V) → call_of (name j) v2 ≡ Some d
      → (y : UnderWay K V K) × (s.calls n j ≡ Some y) × (began_of x ≡ began_of y) × (c : CallThere K V) × (call_of (name j) m ≡ Some c) × (d.begun ≡ c.begun)
  was_there n j x is d found =
      let was = was_under_way same hash name m known s old new at whole history.shown map i u here said leads n j x is in
      let call = history.shown.calls n j was.0 was.1 in
      let now = effects_begun (name i) map (name j) (effects_of (acts.Call i map) known new.changed) m call.0 call.1 in
      (was.0, was.1, was.2, call.0, call.1, ap (λ (z : CallThere K V). z.begun) (one_of d now.0 (sym found ∙ now.1)) ∙ now.2)

  pub begun_then : (n j : ℕ) (x : UnderWay K V K) → scene2.calls n j ≡ Some x → (d : CallThere K V) → call_of (name j) v2 ≡ Some d → d.begun ≤ log.entries
  begun_then n j x is d found = let was = was_there n j x is d found in subst (λ (b : ℕ). b ≤ log.entries) (sym was.5) (history.begun n j was.0 was.1 was.3 was.4)

  module _ (changes : ChangesFirst log m same map v2) where
    changes_then : (n : ℕ) (st : Standing K) → scene2.maps n ≡ Some st → (k : K) → (finite_map same n v2 k ≡ finite_map same n m k) ⊎ (finite_map same n m k ≡ finite_map same n log.now k)
    changes_then n st there k = elim (cases_eq n map) as (λ _. (finite_map same n v2 k ≡ finite_map same n m k) ⊎ (finite_map same n m k ≡ finite_map same n log.now k)) [
      | inl e ↦ subst (λ (z : ℕ). (finite_map same z v2 k ≡ finite_map same z m k) ⊎ (finite_map same z m k ≡ finite_map same z log.now k)) (sym e) (changes k)
      | inr ne ↦ inl (same_elsewhere same hash name m known s old new at whole history.shown map i u here said leads n ne st there k)
    ]

    pub within_then : (n j : ℕ) (x : UnderWay K V K) → scene2.calls n j ≡ Some x → (st : Standing K) → scene2.maps n ≡ Some st → (d : CallThere K V) → call_of (name j) v2 ≡ Some d
        → (began : ℕ) → began_of x ≡ Some began → IsWithin same n st (then_shown.shows.number n) (since log v2 d) began
    within_then n j x is st there d found began began_is =
        let was = was_there n j x is d found in
        let before = maps_later same hash name m known s old new at whole history.shown map i u here said leads n st there in
        subst (λ (b : ℕ). IsWithin same n st (then_shown.shows.number n) (since log v2 (record d { begun = b })) began) (sym was.5)
        (within_on same n before.0 st (history.shown.number n) (then_shown.shows.number n) before.2 (then_shown.numbers n before.0 before.1) log history.past m v2 was.3.begun
        (history.begun n j was.0 was.1 was.3 was.4) (changes_then n st there) (now_then same hash name m known s old new at whole history.shown map i u here said leads n st there) began
        (history.within n j was.0 was.1 before.0 before.1 was.3 was.4 began (sym was.2 ∙ began_is)))

    abbrev pub step_history : RefinesHistory same name log v2 (after same hash name m known s old new at whole history.shown map i u here said leads) scene2
    step_history = record {
      past = history.past;
      shown = then_shown.shows;
      asked = asked_on same hash name m known s old new at history.shown map i u here said leads history.asked then_shown;
      begun = begun_then;
      within = within_then;
    }

-- A step of a call, whichever it is: where pairs were copied from is so after it.
use Rattle.std.specs.Prelude.{◌≡◌, ◌≢◌, ℕ, ◌+◌, ◌<◌, ◌≤◌, Bool, true, List, length, Option, Some, None}
use Rattle.std.proofs.Common.{refl, ap, sym, subst, ◌∙◌, arith, inl, inr}
use Rattle.std.proofs.lemmas.Bool.{cases_eq}
use Rattle.run_finds.specs.Given.SeizeWordsDeclared.at.At.{At}
use Rattle.run_finds.specs.Given.SeizeWordsMem.{Mem}
use Rattle.run_finds.specs.Given.SeizeWorld.{World, IsInside, with_at}
use Rattle.run_finds.specs.Given.TablesChunks.{is_incremental}
use Rattle.run_finds.specs.Given.TablesDeclared.node.Node.{Node}
use Rattle.run_finds.specs.Given.TablesDeclared.setting.Setting.{Setting}
use Rattle.run_finds.specs.Given.RawDeclared.machines.progress.Progress.{Progress}
use Rattle.run_finds.specs.Given.RunsDeclared.effect.Effect.{Effect}
use Rattle.run_finds.specs.Given.RunsDeclared.effect.Spot.{Spot}
use Rattle.run_finds.specs.Given.RunsDeclared.effect.TableId.{TableId}
use Rattle.run_finds.specs.Given.SchedulesEffects.{with_effects}
use Rattle.run_finds.specs.Given.SchedulesMoment.{Moment}
use Rattle.run_finds.specs.Given.EffectsDeclared.changed.Changed.{Changed}
use Rattle.run_finds.specs.Given.EffectsDeclared.changed.Changed.TheVariants as changed
use Rattle.run_finds.specs.Given.TellsSeen.{Seen, Unseen, Wrote, seen_of}
use Rattle.run_finds.specs.Given.TellsTells.{IsObserved}
use Rattle.run_finds.proofs.Given.TellsPromised.{operations_tell, still_steps_tell}
use Rattle.run_finds.specs.Given.RuleChart.{Chart}
use Rattle.run_finds.specs.Given.RuleInWorld.{IsMapIn, StepSpec}
use Rattle.run_finds.specs.Given.RuleWords.{Blocks}
use Rattle.run_finds.proofs.Given.RuleLaws.{current_is_known}
use Rattle.run_finds.proofs.Given.RuleWorld.WentTold.{went_as}
use Rattle.run_finds.specs.Given.PointsSteps.{AreLawful}
use Rattle.run_finds.specs.Given.CallersSights.{Visible, seen_by, IsGrown, IsVisibility}
use Rattle.run_finds.specs.Given.CallersTogether.{UnderWay, OnKey, ForRoom, Counting, OverAll, in_slot, IsOneStep, Together}
use Rattle.run_finds.proofs.Given.CallersSights.Seen.{map_seen}
use Rattle.run_finds.proofs.Given.CallersTogether.At.{at_same}
use Rattle.run_finds.proofs.Given.CallersTogether.Fits.{map_in_slot}
use Rattle.run_finds.specs.Given.EffectsEffects.{effects_of, known_after}
use Rattle.run_finds.specs.Given.EffectsKnown.{Known}
use Rattle.run_finds.specs.Given.EffectsDeclared.acting.Acting.TheVariants.{Call}
use Rattle.run_finds.specs.Given.FinishesMaps.{Standing, IsSameMap}
use Rattle.run_finds.specs.Given.FollowsShows.{Refines}
use Rattle.run_finds.proofs.Given.FollowsOperations.{LeavesBy, Operated, operated_leaves, seen_write, told_write}
use Rattle.run_finds.proofs.Given.FollowsRows.{one_step_leaves}
use Rattle.run_finds.proofs.Given.FollowsSteps.{WentTo, went_to, made_so, DidSo, LeadsThere}
use Rattle.run_finds.specs.Given.SpotsSpots.{LiesAt}
use Rattle.run_finds.proofs.Given.SpotsDone.{DidMoved, did_moved}
use Rattle.run_finds.proofs.Given.SpotsEffects.{AllAside, aside_all, calm_aside}
use Rattle.run_finds.proofs.Given.SpotsElsewhere.{IsElsewhere, moved_leaves, stored_grows}
use Rattle.run_finds.proofs.Given.SpotsRows.{row_aside}
use Rattle.run_finds.proofs.Given.SpotsSteps.{stayed_calm}
use Rattle.run_finds.specs.Given.MomentsWhole.{RefinesWhole}
use Rattle.run_finds.proofs.Given.ChangesSteps.{led_on}
use Rattle.run_grows.specs.Sources.Sources.{AreNumbered, CameFromPlaces, HasSource, RefinesSources, WereLeft}
use Rattle.run_grows.specs.Sources.Steps.{CallsPreserveSources}
use Rattle.run_grows.proofs.Sources.Frame.{numbered_then, came_then}
use Rattle.run_grows.proofs.Sources.New.{new_are_there, aside_stores_none}
use Rattle.run_grows.proofs.Sources.Left.{own_left}
use Rattle.run_grows.proofs.Sources.Own.{own_came}
use Rattle.run_grows.proofs.Sources.Stays.{sources_stay}
use Rattle.run_finds.specs.Given.ScenesHeld.{Held, IsAt}
use Rattle.run_finds.specs.Given.ScenesScene.{Scene, slot_of}
use Rattle.run_finds.specs.Given.ScenesStepping.{StepLeads, scene_after}
use Rattle.run_finds.proofs.Given.General.{same_some as one_of}
use Rattle.run_finds.proofs.Given.MomentsWholeEnds.{out_of as not_in_it}

-- of a map of which fewer blocks may be looked at
pub same_standing : {K : Type 0} (o o2 : Option (Standing K)) → IsSameMap o o2 → (st : Standing K) → o2 ≡ Some st → (before : Standing K) × (o ≡ Some before) × (st.chart ≡ before.chart) × (before.setting ≡ st.setting)
same_standing None o2 none st is = absurd (cc (none, is))
same_standing {K} (Some before) o2 (blocks, sights, same_map, part) st is =
    let one = one_of st (record before { blocks = blocks; sights = sights }) (sym is ∙ same_map) in
    (before, refl, ap (λ (x : Standing K). x.chart) one, sym (ap (λ (x : Standing K). x.setting) one))

module _ {K V : Type 0} (same : K → K → Bool) (hash : ℕ → K → ℕ) (name : ℕ → List ℕ) (m : Moment K V) (known : Known) (s : Scene K V) (old new : Held K V) (at : IsAt same hash old s)
    (whole : RefinesWhole same name m known s) (sources : RefinesSources same name m known s) (map i : ℕ) (u : UnderWay K V K) (here : s.calls map i ≡ Some u) (said : Progress (Node K V))
    (leads : StepLeads same hash i said s old new) where
  abbrev shown : Refines same name m known s
  shown = sources.shown

  abbrev to : WentTo same hash name m known s old new at shown map i u here said leads
  to = went_to same hash name m known s old new at shown map i u here said leads

  on : LeadsThere same hash name m known s old new at shown map i u here said leads
  on = led_on same hash name m known s old new at whole shown map i u here said leads

  abbrev standing : Standing K
  standing = to.0

  abbrev m2 : Mem (Node K V)
  m2 = new.memory

  abbrev told : Changed
  told = new.changed

  abbrev w : World (Node K V)
  w = s.world

  abbrev effects : List Effect
  effects = effects_of (Call i map) known told

  abbrev known2 : Known
  known2 = known_after (Call i map) told known

  abbrev v : Moment K V
  v = with_effects (Some (name i)) (Some map) effects m

  abbrev s2 : Scene K V
  s2 = scene_after same s old new map i to.0 u to.1 said to.4

  abbrev Goal : Type 0
  Goal = RefinesSources same name v known2 s2

  -- no pair has moved, and maps are as they were
  stays_aside : AllAside effects → ((n : ℕ) → IsSameMap (s.maps n) (to.4.maps2 n)) → Goal
  stays_aside all kept =
      let aside = aside_all (Some (name i)) (Some map) effects m all in
      sources_stay K V same name m v known known2 s s2 sources on.shows (record {
        stored = ap length (aside_stores_none (Some (name i)) (Some map) effects m all);
        born = λ k l. ap (λ (f : ℕ → TableId). f k) aside.born;
        spot = λ k l. ap (λ (f : ℕ → Spot). f k) aside.spot;
      })
      (λ n st2 is. inl (let it = same_standing (s.maps n) (to.4.maps2 n) (kept n) st2 is in (it.0, it.1, it.2, ap (λ (x : Setting). is_incremental x.mode) it.3)))

  made : Operated w.memory m2 told
  made = made_so same hash name m known s old new at shown map i u here said leads

  left : LeavesBy w.memory m2 told
  left = operated_leaves w.memory m2 told made

  -- a step of a row
  row_stays : (w2 : World (Node K V)) → w2.memory ≡ m2 → IsOneStep standing.setting i w w2 → ((n : ℕ) → IsSameMap (s.maps n) (to.4.maps2 n)) → Goal
  row_stays w2 memory happened kept =
      stays_aside
      (row_aside i map m known w w2 shown.blocks (one_step_leaves standing.setting i w w2 (at.together.makings.standing.each map standing to.2).ground.came happened) told
      (subst (λ (x : Mem (Node K V)). LeavesBy w.memory x told) (sym memory) left)).0 kept

  abbrev sight : Visible
  sight = standing.sights (slot_of i)

  abbrev ground : Together V same standing.hash same standing.setting slot_of w standing.chart standing.blocks standing.sights (s.calls map)
  ground = at.together.makings.standing.each map standing to.2

  lawful : AreLawful same standing.hash
  lawful = (at.together.makings.standing.fit map standing to.2).0

  -- where a pair of the map lies
  lies : (n : ℕ) → standing.chart.current n ≡ true → LiesAt standing.chart (is_incremental standing.setting.mode) n (m.spot (shown.number map n)) (m.born (shown.number map n)).turn
  lies n current =
      let it = current_is_known same standing.hash standing.setting w.memory standing.chart standing.blocks ground.ground.map.map.rule ground.ground.map.map.shows n current in
      (whole.places.each map standing to.2).lies n (shown.number map n) (it.0, it.1, (shown.maps map standing to.2).pairs.roles n it.0 it.1) current

  -- the tables of the map have moved
  module _ (inside : IsInside (w.uses (slot_of i))) (Told : World (Node K V) → Chart K → Blocks → Type 0)
      (had : StepSpec same standing.hash (in_slot standing.setting (slot_of i)) i w standing.chart (seen_by standing.blocks sight) m2 Told)
      (blocks2 : Blocks) (grown : IsGrown standing.chart standing.blocks had.blocks2 blocks2) (sights2 : ℕ → Visible)
      (maps_are : to.4.maps2 ≡ with_at s.maps map (Some (record standing { chart = had.c2; blocks = blocks2; sights = sights2 }))) where
    is_sight : IsVisibility standing.chart standing.blocks sight
    is_sight = (ground.ground.sight (slot_of i) inside).0

    is_map : IsMapIn same standing.hash (in_slot standing.setting (slot_of i)) w standing.chart (seen_by standing.blocks sight)
    is_map = map_seen same standing.hash (in_slot standing.setting (slot_of i)) w standing.chart standing.blocks sight
        (map_in_slot same standing.hash standing.setting w standing.chart standing.blocks (slot_of i) ground.ground.map) is_sight

    abbrev went : StepSpec same standing.hash (in_slot standing.setting (slot_of i)) i w standing.chart (seen_by standing.blocks sight) m2 (λ w2 c2 blocks2. Unit {0})
    went = went_as same standing.hash (in_slot standing.setting (slot_of i)) i w standing.chart (seen_by standing.blocks sight) m2 Told (λ w2 c2 blocks2. Unit {0}) (λ w2 c2 blocks2 map moved alike told. tt) had

    abbrev DidIt : Type 0
    DidIt = DidMoved same (slot_of i) i map (Some (name i)) (shown.number map) standing lawful w sight is_sight is_map m2 (λ w2 c2 blocks2. Unit {0}) went blocks2 grown sights2 m known (shown.maps map standing to.2)
        shown.blocks told left went.moved

    did : DidIt
    did = by made
      where
        did_by : (seen : Seen (Node K V)) → ((at : At) (x y : ℕ) → seen ≡ Wrote at x y → told ≡ changed.Wrote at x y) → ((at : At) (x y : ℕ) → told ≡ changed.Wrote at x y → seen ≡ Wrote at x y)
            → IsObserved standing.hash (in_slot standing.setting (slot_of i)) standing.chart (seen_by standing.blocks sight) went.c2 went.blocks2 same i went.moved seen → DidIt
        did_by = did_moved same (slot_of i) i map (Some (name i)) (shown.number map) standing lawful w sight is_sight is_map m2 (λ w2 c2 blocks2. Unit {0}) went blocks2 grown sights2 m known (shown.maps map standing to.2)
            shown.blocks told left

        by : Operated w.memory m2 told → DidIt
        by (inl (still, nothing)) =
            did_by Unseen (λ at x y e. absurd (cc e)) (λ at x y e. absurd (cc (nothing, e)))
            (still_steps_tell V same standing.hash lawful.lawful lawful.fits (in_slot standing.setting (slot_of i)) i w standing.chart (seen_by standing.blocks sight) m2 is_map went still)
        by (inr op) =
            did_by (seen_of w.memory op.op op.out) (λ at x y e. op.is ∙ told_write at x y op.op op.out (seen_of w.memory op.op op.out) e)
            (λ at x y e. seen_write at x y op.op op.out (seen_of w.memory op.op op.out) (sym op.is ∙ e))
            (operations_tell V same standing.hash lawful.lawful lawful.fits (in_slot standing.setting (slot_of i)) i w standing.chart (seen_by standing.blocks sight) m2 is_map went op.op op.out op.can op.took)

    elsewhere : IsElsewhere map m v
    elsewhere = (moved_leaves same (slot_of i) i map (Some (name i)) (shown.number map) standing lawful w sight is_sight is_map m2 (λ w2 c2 blocks2. Unit {0}) went blocks2 grown sights2 m known
        (shown.maps map standing to.2) shown.blocks told left did).elsewhere

    news : (k : ℕ) → length m.stored < k → k ≤ length v.stored → ((v.born k).map ≡ map) × ((v.born k).turn ≡ (v.spot k).turn) × (standing.chart.stored < went.c2.stored) × (k ≡ length m.stored + 1)
    news = new_are_there same (slot_of i) i map (Some (name i)) (shown.number map) standing lawful w sight is_sight is_map m2 (λ w2 c2 blocks2. Unit {0}) went blocks2 grown sights2 m known
        (shown.maps map standing to.2) shown.blocks told left on.shows.blocks.stored did

    many_more : length m.stored ≤ length v.stored
    many_more = stored_grows (Some (name i)) (Some map) effects m

    -- of the map of the call
    module _ (st2 : Standing K) (there : s2.maps map ≡ Some st2) where
      is_then : st2 ≡ record standing { chart = had.c2; blocks = blocks2; sights = sights2 }
      is_then = one_of st2 (record standing { chart = had.c2; blocks = blocks2; sights = sights2 })
          (sym there ∙ ap (λ (f : ℕ → Option (Standing K)). f map) maps_are ∙ at_same s.maps map (Some (record standing { chart = had.c2; blocks = blocks2; sights = sights2 })) map refl)

      chart_is : st2.chart ≡ had.c2
      chart_is = ap (λ (x : Standing K). x.chart) is_then

      more : standing.chart.stored ≤ st2.chart.stored
      more = let stood = on.stood map standing to.2 in subst (λ (x : Standing K). standing.chart.stored ≤ x.chart.stored) (one_of stood.0 st2 (sym stood.1 ∙ there)) stood.2.stored

      its_news : (k : ℕ) → length m.stored < k → k ≤ length v.stored → (v.born k).map ≡ map → ((v.born k).turn ≡ (v.spot k).turn) × (standing.chart.stored < st2.chart.stored) × (k ≡ length m.stored + 1)
      its_news k new most is = let it = news k new most in (it.1, subst (λ (x : Chart K). standing.chart.stored < x.stored) (sym chart_is) it.2, it.3)

      own_numbered : AreNumbered map (on.shows.number map) st2 v
      own_numbered = numbered_then map (shown.number map) (on.shows.number map) standing st2 m v known known2 (shown.maps map standing to.2) (on.shows.maps map st2 there) (sources.numbered map standing to.2)
          (on.numbers map standing to.2) elsewhere.born more its_news

      came_from : is_incremental st2.setting.mode ≡ true → CameFromPlaces st2.chart (on.shows.number map) v
      came_from chunks =
          let chunked : is_incremental standing.setting.mode ≡ true = sym (ap (λ (x : Standing K). is_incremental x.setting.mode) is_then) ∙ chunks in
          came_then map (shown.number map) (on.shows.number map) standing st2 m v known known2 (shown.maps map standing to.2) (on.shows.maps map st2 there) (sources.numbered map standing to.2)
          (on.numbers map standing to.2) elsewhere.born more its_news
          (λ n l ahead. subst (λ (x : Chart K). HasSource x n (v.spot (shown.number map n)).turn) (sym chart_is)
          (own_came same (slot_of i) i map (Some (name i)) (shown.number map) standing lawful w sight is_sight is_map m2 (λ w2 c2 blocks2. Unit {0}) went blocks2 grown sights2 m known (shown.maps map standing to.2)
          shown.blocks told left lies chunked (sources.came map standing to.2 chunked) did n l ahead))

      were_left : WereLeft st2.chart map v
      were_left =
          subst (λ (c : Chart K). WereLeft c map v) (sym chart_is)
          (own_left same (slot_of i) i map (Some (name i)) (shown.number map) standing lawful w sight is_sight is_map m2 (λ w2 c2 blocks2. Unit {0}) went blocks2 grown sights2 m known (shown.maps map standing to.2)
          shown.blocks told left lies (sources.numbered map standing to.2) (sources.left map standing to.2) many_more did)

    -- of another map
    module _ (of : ℕ) (ne : of ≢ map) (st2 : Standing K) (there : s2.maps of ≡ Some st2) where
      was : (before : Standing K) × (s.maps of ≡ Some before) × (st2.chart ≡ before.chart) × (before.setting ≡ st2.setting)
      was = same_standing (s.maps of) (to.4.maps2 of) (to.4.others of ne) st2 there

      none_new : (k : ℕ) → length m.stored < k → k ≤ length v.stored → (v.born k).map ≡ of → ((v.born k).turn ≡ (v.spot k).turn) × (was.0.chart.stored < st2.chart.stored) × (k ≡ length m.stored + 1)
      none_new k new most is = absurd (ne (sym is ∙ (news k new most).0))

      as_many : was.0.chart.stored ≤ st2.chart.stored
      as_many = (let e = ap (λ (c : Chart K). c.stored) was.2 in omega (arith, e))

      other_numbered : AreNumbered of (on.shows.number of) st2 v
      other_numbered = numbered_then of (shown.number of) (on.shows.number of) was.0 st2 m v known known2 (shown.maps of was.0 was.1) (on.shows.maps of st2 there) (sources.numbered of was.0 was.1)
          (on.numbers of was.0 was.1) elsewhere.born as_many none_new

      -- its pairs lie where they lay
      same_spot : (n : ℕ) → n < was.0.chart.stored → v.spot (shown.number of n) ≡ m.spot (shown.number of n)
      same_spot n l =
          let pairs = (shown.maps of was.0 was.1).pairs in
          let born : (m.born (shown.number of n)).map ≢ map = (λ e. ne (sym (pairs.born n l) ∙ e)) in
          elsewhere.spot (shown.number of n) (pairs.numbered n l).1 born
          (not_in_it map (m.place (shown.number of n)) (λ is. born (whole.all.hands.born (shown.number of n) map is).1))

      other_came : is_incremental st2.setting.mode ≡ true → CameFromPlaces st2.chart (on.shows.number of) v
      other_came chunks =
          came_then of (shown.number of) (on.shows.number of) was.0 st2 m v known known2 (shown.maps of was.0 was.1) (on.shows.maps of st2 there) (sources.numbered of was.0 was.1)
          (on.numbers of was.0 was.1) elsewhere.born as_many none_new
          (λ n l ahead.
          let born : v.born (shown.number of n) ≡ m.born (shown.number of n) = elsewhere.born (shown.number of n) ((shown.maps of was.0 was.1).pairs.numbered n l).1 in
          let spot : v.spot (shown.number of n) ≡ m.spot (shown.number of n) = same_spot n l in
          subst (λ (c : Chart K). HasSource c n (v.spot (shown.number of n)).turn) (sym was.2)
          (subst (λ (x : Spot). HasSource was.0.chart n x.turn) (sym spot)
          (sources.came of was.0 was.1 (ap (λ (x : Setting). is_incremental x.mode) was.3 ∙ chunks) n l
          (subst (λ (x : TableId). x.turn < (m.spot (shown.number of n)).turn) born (subst (λ (x : Spot). (v.born (shown.number of n)).turn < x.turn) spot ahead)))))

      -- and so do those that were removed
      other_left : WereLeft st2.chart of v
      other_left t i mark is =
          let it = sources.left of was.0 was.1 t i mark (ap (λ (c : Chart K). c.place t i) (sym was.2) ∙ is) in
          let born : (m.born it.0).map ≢ map = (λ e. ne (sym it.3 ∙ e)) in (
            it.0,
            it.1,
            (let most = it.2 in let more = many_more in omega (arith, most, more)),
            ap (λ (x : TableId). x.map) (elsewhere.born it.0 it.2) ∙ it.3,
            elsewhere.spot it.0 it.2 born (not_in_it map (m.place it.0) (λ is. born (whole.all.hands.born it.0 map is).1)) ∙ it.4,
          )

    moved_sources : Goal
    moved_sources = record {
      shown = on.shows;
      numbered = λ of st2 there. elim (cases_eq of map) as (λ _. AreNumbered of (on.shows.number of) st2 v) [
        | inl e ↦ subst (λ (x : ℕ). AreNumbered x (on.shows.number x) st2 v) (sym e) (own_numbered st2 (ap s2.maps (sym e) ∙ there))
        | inr ne ↦ other_numbered of ne st2 there
      ];
      came = λ of st2 there chunks. elim (cases_eq of map) as (λ _. CameFromPlaces st2.chart (on.shows.number of) v) [
        | inl e ↦ subst (λ (x : ℕ). CameFromPlaces st2.chart (on.shows.number x) v) (sym e) (came_from st2 (ap s2.maps (sym e) ∙ there) chunks)
        | inr ne ↦ other_came of ne st2 there chunks
      ];
      left = λ of st2 there. elim (cases_eq of map) as (λ _. WereLeft st2.chart of v) [
        | inl e ↦ subst (λ (x : ℕ). WereLeft st2.chart x v) (sym e) (were_left st2 (ap s2.maps (sym e) ∙ there))
        | inr ne ↦ other_left of ne st2 there
      ];
    }

  then_sources : (x : UnderWay K V K) → DidSo same hash name m known s old new at shown map i u here said leads x → Goal
  then_sources (OnKey x) (p2, end, machine_is, told_is, inl (step, moved)) = moved_sources step.step.inside _ step.step.went step.step.blocks2 step.step.grown step.step.sights2 moved.1
  then_sources (OnKey x) (p2, end, machine_is, told_is, inr (row, stayed)) = row_stays row.step.w2 row.step.memory row.step.happened stayed.1
  then_sources (ForRoom x) (p2, end, machine_is, told_is, inl (step, moved)) = moved_sources step.step.inside _ step.step.went step.step.blocks2 step.step.grown step.step.sights2 moved.1
  then_sources (ForRoom x) (p2, end, machine_is, told_is, inr (row, stayed)) = row_stays row.step.w2 row.step.memory row.step.happened stayed.1
  then_sources (Counting x) (p2, end, machine_is, told_is, still, stayed) =
      stays_aside (calm_aside effects (stayed_calm same hash m known s old new at name shown map i to.0 to.2 (name i) made still).calm) stayed.1
  then_sources (OverAll x) (p2, end, machine_is, told_is, inl (step, moved)) = moved_sources step.step.inside _ step.step.went step.step.blocks2 step.step.grown step.step.sights2 moved.1
  then_sources (OverAll x) (p2, end, machine_is, told_is, inr (row, stayed)) = row_stays row.step.w2 row.step.memory row.step.happened stayed.1

pub calls_keep_sources : (K V : Type 0) (same : K → K → Bool) (hash : ℕ → K → ℕ) → CallsPreserveSources K V same hash
calls_keep_sources K V same hash name m known s old new at whole sources map i u here said leads =
    then_sources same hash name m known s old new at whole sources map i u here said leads u (went_to same hash name m known s old new at sources.shown map i u here said leads).4.did

-- The effects of a step of a call find pairs and tables of its map as they must, whether it is one of a row or none.
use Rattle.std.specs.Prelude.{◌≡◌, ℕ, ◌+◌, Bool, true, List, [], ◌∷◌, length, Option, Some, None}
use Rattle.std.specs.List.{list_all}
use Rattle.std.proofs.Common.{refl, ap, sym, subst, ◌∙◌, inl, inr, length-append}
use Rattle.run_executor.specs.Given.SeizeWordsMem.{Mem}
use Rattle.run_executor.specs.Given.SeizeWorld.{World}
use Rattle.run_blocks.specs.Given.TablesDeclared.node.Node.{Node}
use Rattle.run_executor.specs.Given.RawDeclared.machines.progress.Progress.{Progress}
use Rattle.run_executor.specs.Given.RunsDeclared.effect.Effect.{Effect}
use Rattle.run_executor.specs.Given.RunsDeclared.effect.Effect.TheVariants as effect
use Rattle.run_executor.specs.Given.RunsDeclared.effect.Spot.{Spot}
use Rattle.run_executor.specs.Given.RunsDeclared.effect.TableId.{TableId}
use Rattle.run_executor.specs.Given.SchedulesEffects.{new_pair, stored_by, with_effect, with_effects, AtEachEffect}
use Rattle.run_executor.specs.Given.SchedulesEntry.{acting}
use Rattle.run_executor.specs.Given.SchedulesGrowing.{none_before}
use Rattle.run_executor.specs.Given.SchedulesHanding.{is_call_effect}
use Rattle.run_executor.specs.Given.SchedulesMoment.{UnderWay as CallThere, Moment}
use Rattle.run_executor.specs.Given.SchedulesViews.{call_of}
use Rattle.run_executor.specs.Given.CallersTogether.{UnderWay, OnKey, ForRoom, Counting, OverAll, IsOneStep, Together}
use Rattle.run_executor.specs.Given.EffectsDeclared.changed.Changed.{Changed}
use Rattle.run_executor.specs.Given.EffectsDeclared.changed.Changed.TheVariants as changed
use Rattle.run_executor.specs.Given.EffectsEffects.{effects_of, known_after}
use Rattle.run_executor.specs.Given.EffectsKnown.{Known}
use Rattle.run_executor.specs.Given.EffectsDeclared.acting.Acting.TheVariants as acts
use Rattle.run_executor.specs.Given.EffectsDeclared.role.Role.TheVariants as role
use Rattle.run_executor.specs.Given.FinishesMachines.{machine_of}
use Rattle.run_executor.specs.Given.FinishesMaps.{Standing}
use Rattle.run_executor.specs.Given.FollowsCalls.{IsCalled}
use Rattle.run_executor.specs.Given.FollowsFinds.{FindsMap}
use Rattle.run_executor.specs.Given.FollowsShows.{Refines}
use Rattle.run_executor.specs.Given.FollowsSteps.{HasPair, HasToStore, StoreTheirs, TakesNone, named_now}
use Rattle.run_executor.proofs.Given.FollowsAlike.{is_calm, AllCalm, calm_still, put_here}
use Rattle.run_executor.proofs.Given.FollowsFinds.{still_find}
use Rattle.run_executor.proofs.Given.FollowsOnward.{IsOfMap}
use Rattle.run_executor.proofs.Given.FollowsOperations.{LeavesBy, operated_leaves}
use Rattle.run_executor.proofs.Given.FollowsRows.{HandsOn, IsStill, Puts, Retires, one_step_leaves}
use Rattle.run_executor.proofs.Given.FollowsRowSteps.{row_done}
use Rattle.run_executor.proofs.Given.FollowsSteps.{WentTo, went_to, made_so, step_shown, DidSo, OfNoRow}
use Rattle.run_executor.proofs.Given.HandsRowSteps.{rows_hand_theirs}
use Rattle.run_executor.proofs.Given.HandsSteps.{calls_store_theirs}
use Rattle.run_executor.specs.Given.MomentsWhole.{RefinesWhole}
use Rattle.run_executor.proofs.Given.MomentsCalls.{of_row, calls_keep_whole}
use Rattle.run_blocks.proofs.Owes.Tables.Held.{call_unmade}
use Rattle.run_blocks.proofs.Owes.Tables.Kinds.{no_room}
use Rattle.run_executor.specs.Given.SpotsSpots.{RefinesPlaces}
use Rattle.run_executor.proofs.Given.SpotsSteps.{calls_find_places}
use Rattle.run_finds.specs.Parts.{FindPlacesOf, FindAhead}
use Rattle.run_finds.specs.Steps.{StepsDoTheirs, StepsFindPlaces, StepsStoreOne}
use Rattle.run_finds.specs.Life.{StoresOne}
use Rattle.run_finds.proofs.Life.{each_so}
use Rattle.run_finds.proofs.Ahead.{none_behind}
use Rattle.run_finds.proofs.Replaces.{replaces_none}
use Rattle.run_finds.proofs.Shaped.{placed_all, ahead_all, rows_store_none, rows_promote_none}
use Rattle.run_blocks.proofs.Owes.Shapes.{Shaped, all_shaped, all_of_calls}
use Rattle.run_executor.specs.Given.ScenesHeld.{Held, IsAt}
use Rattle.run_executor.specs.Given.ScenesScene.{Scene, slot_of}
use Rattle.run_executor.specs.Given.ScenesStepping.{StepLeads, scene_after}
use Rattle.run_executor.proofs.Given.SpotsUnreclaimed.{of_map_lasts as lasting_of_map}

-- a call that has a pair to store stores one
has_one : {K V : Type 0} (memory : Mem (Node K V)) (b : ℕ) (own : List ℕ) (m : Moment K V) (f : Effect) → HasPair memory b (acting (Some own) m) f → StoresOne (Some own) m f
has_one {K} {V} memory b own m (effect.Stored n s) has = by (acting (Some own) m) has
  where
    by : (o : Option (CallThere K V)) → HasToStore memory b o n → length (stored_by o (effect.Stored n s) m.stored) ≡ length m.stored + 1
    by None none = absurd none
    by (Some c) its = length-append m.stored (new_pair c.call c n) ∙ ap (λ (l : List (K × V)). length m.stored + length l) its.2
has_one memory b own m _ has = tt

calms_store : {K V : Type 0} (own : List ℕ) (map : ℕ) (effects : List Effect) (m : Moment K V) → AllCalm effects → AtEachEffect (StoresOne (Some own)) (Some own) (Some map) effects m
calms_store own map [] m calm = tt
calms_store {K} {V} own map (f ∷ effects) m calm = (one f calm.0, calms_store own map effects (with_effect (Some own) (Some map) f m) calm.1)
  where
    one : (g : Effect) → is_calm g ≡ true → StoresOne (Some own) m g
    one (effect.Stored n s) e = absurd (cc e)
    one _ e = tt

-- a row stores none
rows_store : {K V : Type 0} (own : List ℕ) (map : ℕ) (effects : List Effect) (m : Moment K V) → HandsOn effects → AtEachEffect (StoresOne (Some own)) (Some own) (Some map) effects m
rows_store own map _ m (IsStill effects calm) = calms_store own map effects m calm
rows_store own map _ m (Puts n t) = (tt, tt)
rows_store own map _ m (Retires x) = (tt, tt)

-- what a row tells of finds nothing of the map
rows_find_map : {K V : Type 0} (own : List ℕ) (map : ℕ) (effects : List Effect) (m : Moment K V) → HandsOn effects → AtEachEffect (FindsMap map) (Some own) (Some map) effects m
rows_find_map own map _ m (IsStill effects calm) = still_find map (Some own) effects m (calm_still effects calm)
rows_find_map own map _ m (Puts n t) = (tt, tt)
rows_find_map own map _ m (Retires x) = (tt, tt)

module _ {K V : Type 0} (same : K → K → Bool) (hash : ℕ → K → ℕ) (name : ℕ → List ℕ) (m : Moment K V) (known : Known) (s : Scene K V) (old new : Held K V) (at : IsAt same hash old s)
    (whole : RefinesWhole same name m known s) (map i : ℕ) (u : UnderWay K V K) (here : s.calls map i ≡ Some u) (said : Progress (Node K V)) (leads : StepLeads same hash i said s old new) where
  abbrev to : WentTo same hash name m known s old new at whole.all.shown map i u here said leads
  to = went_to same hash name m known s old new at whole.all.shown map i u here said leads

  abbrev NoRow : (x : UnderWay K V K) → DidSo same hash name m known s old new at whole.all.shown map i u here said leads x → Type 0
  NoRow = OfNoRow same hash name m known s old new at whole.all.shown map i u here said leads

  abbrev effects : List Effect
  effects = effects_of (acts.Call i map) known new.changed

  abbrev known2 : Known
  known2 = known_after (acts.Call i map) new.changed known

  abbrev then_at : Scene K V
  then_at = scene_after same s old new map i to.0 u to.1 said to.4

  after : RefinesWhole same name (with_effects (Some (name i)) (Some map) effects m) known2 then_at
  after = calls_keep_whole K V same hash name m known s old new at whole map i u here said leads

  -- the call, by the moment
  its_call : (c : CallThere K V) × (call_of (name i) m ≡ Some c) × (c.map ≡ map) × IsCalled same u c.call
  its_call = whole.all.shown.calls map i u here

  abbrev c : CallThere K V
  c = its_call.0

  -- what is to be known of a single effect that stores a pair, or brings the root on
  record Single : Type 0 where
    pub on_map : AtEachEffect (FindsMap map) (Some (name i)) (Some map) effects m
    pub stores : (n : ℕ) (sp : Spot) → effects ≡ effect.Stored n sp ∷ [] → c.replacing ≡ None
    pub promotes : (t : TableId) → effects ≡ effect.Promoted t ∷ [] → none_before map t.turn m ≡ true
    pub takes : (b : ℕ) → new.changed ≡ changed.Took b → IsOfMap (known.roles b) → ⊥
    pub one : AtEachEffect (StoresOne (Some (name i))) (Some (name i)) (Some map) effects m

  -- a step that is none of a row
  module _ (own : NoRow u to.4.did) where
    theirs : StoreTheirs s.world.memory new.changed (name i) map effects m
    theirs = (calls_store_theirs K V same hash name m known s old new at whole.all map i u here said leads own).0

    finds_map : AtEachEffect (FindsMap map) (Some (name i)) (Some map) effects m
    finds_map = (calls_store_theirs K V same hash name m known s old new at whole.all map i u here said leads own).1

    stood : (after_it : Standing K) × (then_at.maps map ≡ Some after_it)
    stood = let it = (step_shown same hash name m known s old new at whole.all.shown map i u here said leads own theirs).1.stood map to.0 to.2 in (it.0, it.1)

    abbrev Has : Option (CallThere K V) → Effect → Type 0
    Has o f = HasPair s.world.memory (named_now new.changed) o f

    own_stores : (n : ℕ) (sp : Spot) → effects ≡ effect.Stored n sp ∷ [] → c.replacing ≡ None
    own_stores n sp is =
        let first = (subst (λ (l : List Effect). AtEachEffect (λ v f. Has (acting (Some (name i)) v) f) (Some (name i)) (Some map) l m) is theirs).0 in
        let has : HasToStore s.world.memory (named_now new.changed) (Some c) n =
        subst (λ (o : Option (CallThere K V)). HasToStore s.world.memory (named_now new.changed) o n) its_call.1 first in
        replaces_none same (whole.all.shown.number map) to.0.chart.stored known u c.call c refl its_call.3 (whole.all.asked.each map i u here to.0 to.2 c its_call.1) has.0 has.1 n has.2

    own_promotes : (t : TableId) → effects ≡ effect.Promoted t ∷ [] → none_before map t.turn m ≡ true
    own_promotes t is =
        let on = (subst (λ (l : List Effect). AtEachEffect (FindsMap map) (Some (name i)) (Some map) l m) is finds_map).0.0 in
        let shown_then = subst (λ (l : List Effect). Refines same name (with_effects (Some (name i)) (Some map) l m) known2 then_at) is after.all.shown in
        let lying_then = subst (λ (l : List Effect). RefinesPlaces (with_effects (Some (name i)) (Some map) l m) known2 then_at.maps) is after.places in
        let before = (whole.all.shown.maps map to.0 to.2).there in
        none_behind same hash name (name i) map t on m before.there before.is known2 then_at new to.5 shown_then lying_then stood.0 stood.1

    -- what is taken away is noted no more, and such a block stays what it was
    own_takes : (b : ℕ) → new.changed ≡ changed.Took b → IsOfMap (known.roles b) → ⊥
    own_takes b is of_map =
        let gone : known2.roles b ≡ role.Free =
        ap (λ (x : Changed). (known_after (acts.Call i map) x known).roles b) is ∙ put_here b role.Free known.roles b refl in
        let kept = (step_shown same hash name m known s old new at whole.all.shown map i u here said leads own theirs).1.keeps b (lasting_of_map (known.roles b) of_map) in
        subst IsOfMap (sym kept ∙ gone) of_map

    own_single : Single
    own_single = record {
      on_map = finds_map;
      stores = own_stores;
      promotes = own_promotes;
      takes = own_takes;
      one = each_so (λ v f. Has (acting (Some (name i)) v) f) (StoresOne (Some (name i))) (λ v f has. has_one s.world.memory (named_now new.changed) (name i) v f has) (Some (name i)) (Some map)
          effects m theirs;
    }

  -- a step of a row
  module _ (other : NoRow u to.4.did → ⊥) where
    takes_none : TakesNone new.changed
    takes_none = (rows_hand_theirs K V same hash name m known s old new at whole.all map i u here said leads other).1

    each : Together V same to.0.hash same to.0.setting slot_of s.world to.0.chart to.0.blocks to.0.sights (s.calls map)
    each = at.together.makings.standing.each map to.0 to.2

    by_step : (w2 : World (Node K V)) → w2.memory ≡ new.memory → IsOneStep to.0.setting i s.world w2 → HandsOn effects
    by_step w2 memory happened =
        (row_done i map m known s.world w2 whole.all.shown.blocks (one_step_leaves to.0.setting i s.world w2 each.ground.came happened) new.changed
        (subst (λ (n : Mem (Node K V)). LeavesBy s.world.memory n new.changed) (sym memory)
        (operated_leaves s.world.memory new.memory new.changed (made_so same hash name m known s old new at whole.all.shown map i u here said leads))) takes_none).hands

    by_kind : (x : UnderWay K V K) (did : DidSo same hash name m known s old new at whole.all.shown map i u here said leads x) → (NoRow x did → ⊥) → HandsOn effects
    by_kind (OnKey x) (p2, end, machine_is, told_is, inl step) not_row = absurd (not_row tt)
    by_kind (OnKey x) (p2, end, machine_is, told_is, inr (row, stayed)) not_row = by_step row.step.w2 row.step.memory row.step.happened
    by_kind (ForRoom r) (p2, end, machine_is, told_is, inl step) not_row = absurd (not_row tt)
    by_kind (ForRoom r) (p2, end, machine_is, told_is, inr (row, stayed)) not_row = by_step row.step.w2 row.step.memory row.step.happened
    by_kind (Counting sum) did not_row = absurd (not_row tt)
    by_kind (OverAll o) (p2, end, machine_is, told_is, inl step) not_row = absurd (not_row tt)
    by_kind (OverAll o) (p2, end, machine_is, told_is, inr (row, stayed)) not_row = by_step row.step.w2 row.step.memory row.step.happened

    hands : HandsOn effects
    hands = by_kind u to.4.did other

    row_single : Single
    row_single = record {
      on_map = rows_find_map (name i) map effects m hands;
      stores = λ n sp is. absurd (rows_store_none effects hands n sp is);
      promotes = λ t is. absurd (rows_promote_none effects hands t is);
      takes = λ b is of_map. subst TakesNone is takes_none;
      one = rows_store (name i) map effects m hands;
    }

  single : Single
  single = elim (of_row same hash name m known s old new at whole map i u here said leads u to.4.did) as (λ _. Single) [
    | inl own ↦ own_single own
    | inr other ↦ row_single other
  ]

  no_bucket : (bucket : ℕ) (had : Bool) → new.changed ≡ changed.Roomed bucket had → ⊥
  no_bucket bucket had is =
      no_room same same to.0.hash old.memory new.memory new.changed to.1 said (machine_of u) (call_unmade same hash name m known s old at whole.all.shown map i u here) to.3
      bucket had is

  shaped : Shaped effects
  shaped = all_shaped i map known new.changed no_bucket single.takes

  pub do_theirs : list_all is_call_effect effects ≡ true
  do_theirs = all_of_calls effects shaped

  pub store_one : AtEachEffect (StoresOne (Some (name i))) (Some (name i)) (Some map) effects m
  store_one = single.one

  pub find_places : AtEachEffect (FindsMap map) (Some (name i)) (Some map) effects m × FindPlacesOf (name i) map effects m × FindAhead (name i) map effects m
  find_places = (
    single.on_map,
    placed_all (name i) map m c its_call.1 effects shaped single.stores
        (calls_find_places K V same hash name m known s old new at whole.all.shown whole.places whole.blocks map i u here said leads),
    ahead_all (name i) map m c its_call.1 effects shaped single.promotes,
  )

pub steps_do_theirs : (K V : Type 0) (same : K → K → Bool) (hash : ℕ → K → ℕ) → StepsDoTheirs K V same hash
steps_do_theirs K V same hash name m known s old new at whole map i u here said leads = do_theirs same hash name m known s old new at whole map i u here said leads

pub steps_find_places : (K V : Type 0) (same : K → K → Bool) (hash : ℕ → K → ℕ) → StepsFindPlaces K V same hash
steps_find_places K V same hash name m known s old new at whole map i u here said leads = find_places same hash name m known s old new at whole map i u here said leads

pub steps_store_one : (K V : Type 0) (same : K → K → Bool) (hash : ℕ → K → ℕ) → StepsStoreOne K V same hash
steps_store_one K V same hash name m known s old new at whole map i u here said leads = store_one same hash name m known s old new at whole map i u here said leads

-- A step of a call shelters what it takes out of its map.
use Rattle.std.specs.Prelude.{◌&&◌, ◌≡◌, ℕ, ◌≤◌, nat_lt, Bool, true, List, [], ◌∷◌, flat_map, Some, ◌⊎◌}
use Rattle.std.specs.List.{AllByRecursion}
use Rattle.std.proofs.Common.{refl, sym, subst, ap, ◌∙◌, arith, inl, inr}
use Rattle.std.proofs.lemmas.Bool.{eq-eqb}
use Rattle.run_places.specs.Given.SeizeWordsMem.{Mem}
use Rattle.run_places.specs.Given.SeizeLaw.{holds, is_somewhere}
use Rattle.run_places.specs.Given.SeizeWorld.{World, InUse}
use Rattle.run_places.proofs.Given.SeizeMovesState.Logs.{reached_held}
use Rattle.run_places.proofs.Given.SeizeAloneHistories.Reached.{Reached}
use Rattle.run_places.specs.Given.TablesNodes.{deferred_word}
use Rattle.run_places.specs.Given.TablesDeclared.node.Node.{Node}
use Rattle.run_places.specs.Given.RawDeclared.machines.progress.Progress.{Progress}
use Rattle.run_places.specs.Given.RuleInWorld.{IsMapIn}
use Rattle.run_places.proofs.Given.RuleLaws.{current_is_known}
use Rattle.run_places.specs.Given.RunsDeclared.holders.NamedGuard.{NamedGuard}
use Rattle.run_places.specs.Given.RunsDeclared.effect.Effect.{Effect}
use Rattle.run_places.specs.Given.RunsDeclared.effect.Effect.TheVariants.{Promoted, Replaced, Removed}
use Rattle.run_places.specs.Given.RunsDeclared.effect.Thing.{Thing}
use Rattle.run_places.specs.Given.RunsDeclared.effect.Thing.TheVariants.{APair, ATable}
use Rattle.run_places.specs.Given.SchedulesEffects.{out_by, shelter, with_effect, with_effects, AtEachEffect}
use Rattle.run_places.specs.Given.SchedulesModel.{thing_back}
use Rattle.run_places.specs.Given.SchedulesMoment.{InMap, Moment}
use Rattle.run_places.specs.Given.SchedulesViews.{is_in_map, first_or, first_of}
use Rattle.run_places.specs.Given.EffectsDeclared.changed.Changed.{Changed}
use Rattle.run_places.specs.Given.EffectsDeclared.changed.Changed.TheVariants as changed
use Rattle.run_places.specs.Given.CallersTogether.{UnderWay, OnKey, ForRoom, Counting, OverAll, CameAbout, IsOneStep}
use Rattle.run_places.proofs.Given.CallersRows.Defers.{used_stands}
use Rattle.run_places.proofs.Given.CallersTogether.Came.{came_reached}
use Rattle.run_places.specs.Given.EffectsEffects.{taken_by, effects_of, known_after}
use Rattle.run_places.specs.Given.EffectsKnown.{Known}
use Rattle.run_places.specs.Given.EffectsDeclared.acting.Acting.TheVariants as acts
use Rattle.run_places.specs.Given.EffectsDeclared.role.Role.{Role}
use Rattle.run_places.specs.Given.EffectsDeclared.role.Role.TheVariants as role
use Rattle.run_places.specs.Given.FinishesMaps.{Standing}
use Rattle.run_places.specs.Given.FollowsBlocks.{HasRole}
use Rattle.run_places.specs.Given.FollowsFinds.{FindsMap}
use Rattle.run_places.specs.Given.FollowsMaps.{RefinesPairs}
use Rattle.run_places.specs.Given.FollowsSteps.{TakesNone}
use Rattle.run_places.proofs.Given.FollowsAlike.{put_here}
use Rattle.run_places.proofs.Given.FollowsGoing.{ComesToBe}
use Rattle.run_places.proofs.Given.FollowsOnward.{IsLasting, KeepsRoles}
use Rattle.run_places.proofs.Given.FollowsOperations.{LeavesBy, operated_leaves}
use Rattle.run_places.proofs.Given.FollowsRows.{HandsOn, IsStill, Puts, Retires, RowLeaves, one_step_leaves, row_written}
use Rattle.run_places.proofs.Given.FollowsRowSteps.{row_step_shown}
use Rattle.run_places.proofs.Given.FollowsSteps.{WentTo, went_to, made_so, DidSo, OfNoRow, LeadsThere, step_shown}
use Rattle.run_places.proofs.Hands.RowSteps.{rows_hand_theirs}
use Rattle.run_places.proofs.Hands.Steps.{calls_store_theirs}
use Rattle.run_places.proofs.Spots.Elsewhere.{stored_grows}
use Rattle.run_places.specs.Moments.Whole.{RefinesWhole}
use Rattle.run_places.proofs.Moments.Calls.{of_row}
use Rattle.run_histories.specs.Promises.Shelters.{CallsShelter}
use Rattle.run_histories.specs.Promises.Sheltered.{AreShelteredOn, GuardsAreOn, HasCome, IsOfThing, IsShelteredOn}
use Rattle.run_histories.proofs.Promises.Shelters.Lasting.{Lasts, of_map, all_last, guards_last}
use Rattle.run_histories.proofs.Promises.Lists.{all_of, passed_all, IsFound, all_found, all_shelter}
use Rattle.run_histories.proofs.Promises.Shelters.Outs.{KeepsIn, OutFirst, AreFew, TakesOwn, calm_keep, room_keeps, effects_few, keep_all}
use Rattle.run_histories.proofs.Promises.Shelters.Within.{GoOn, GoOnByRows, Sections, Within, call_goes_on, over_row, within_sections}
use Rattle.run_places.specs.Given.ScenesHeld.{Held, IsAt}
use Rattle.run_places.specs.Given.ScenesScene.{Scene}
use Rattle.run_places.specs.Given.ScenesStepping.{StepLeads, scene_after}
use Rattle.run_places.proofs.Given.General.{all_append}

-- what a row within a call does takes nothing out of a map

hands_keep : (effects : List Effect) → HandsOn effects → AllByRecursion KeepsIn effects
hands_keep effects (IsStill still all) = calm_keep still all
hands_keep effects (Puts n t) = (tt, tt)
hands_keep effects (Retires x) = (tt, tt)

module _ {K V : Type 0} (caller map : ℕ) (m : Moment K V) (known : Known) (w w2 : World (Node K V)) (roles : (b : ℕ) → HasRole w m.stored b (known.roles b)) (leaves : RowLeaves w w2) where
  row_keeps : (told : Changed) → TakesNone told → LeavesBy w.memory w2.memory told → AllByRecursion KeepsIn (effects_of (acts.Call caller map) known told)
  row_keeps changed.Nothing none left = tt
  row_keeps (changed.Wrote at old new) none left =
      hands_keep (effects_of (acts.Call caller map) known (changed.Wrote at old new)) (row_written caller map m.stored known w w2 roles leaves left.2 at old new left.0 left.1).0
  row_keeps (changed.Made k b) none left = absurd (let gone = leaves.none b left.0 in let there = left.3 in cc (gone, there))
  row_keeps (changed.Unmade k) none left = (tt, tt)
  row_keeps (changed.Took b) none left = absurd none
  row_keeps (changed.Roomed bucket had) none left = room_keeps (had && nat_lt bucket known.buckets)

-- a block that a call takes away was none of a map
taken_few : (caller map : ℕ) (r : Role) → (IsLasting r → ⊥) → AreFew (taken_by (acts.Call caller map) r)
taken_few caller map role.Free none = (tt, refl)
taken_few caller map (role.OwnPair j) none = (tt, refl)
taken_few caller map (role.OwnTable turn shape) none = (tt, refl)
taken_few caller map (role.Pair n) none = absurd (none tt)
taken_few caller map (role.Table t len) none = absurd (none tt)
taken_few caller map (role.Counter of) none = absurd (none tt)

takes_own : (caller map : ℕ) (known : Known) (told : Changed) → KeepsRoles known (known_after (acts.Call caller map) told known) → TakesOwn caller map known told
takes_own caller map known changed.Nothing keeps = tt
takes_own caller map known (changed.Wrote at old new) keeps = tt
takes_own caller map known (changed.Made k b) keeps = tt
takes_own caller map known (changed.Unmade k) keeps = tt
takes_own caller map known (changed.Took b) keeps =
    taken_few caller map (known.roles b) (λ last. (let one : role.Free ≡ known.roles b = sym (put_here b role.Free known.roles b refl) ∙ keeps b last in subst IsLasting (sym one) last))
takes_own caller map known (changed.Roomed bucket had) keeps = tt

module _ {K V : Type 0} (same : K → K → Bool) (hash : ℕ → K → ℕ) (name : ℕ → List ℕ) (m : Moment K V) (known : Known) (s : Scene K V) (old new : Held K V) (at : IsAt same hash old s)
    (whole : RefinesWhole same name m known s) (map i : ℕ) (u : UnderWay K V K) (here : s.calls map i ≡ Some u) (told : Progress (Node K V)) (leads : StepLeads same hash i told s old new)
    (On On2 : World (Node K V) → ℕ → Type 0) (sections : Sections On On2) (rows : GoOnByRows On On2 i) where
  abbrev to : WentTo same hash name m known s old new at whole.all.shown map i u here told leads
  to = went_to same hash name m known s old new at whole.all.shown map i u here told leads

  abbrev w : World (Node K V)
  w = s.world

  abbrev effects : List Effect
  effects = effects_of (acts.Call i map) known new.changed

  abbrev known2 : Known
  known2 = known_after (acts.Call i map) new.changed known

  abbrev v : Moment K V
  v = with_effects (Some (name i)) (Some map) effects m

  abbrev led : Scene K V
  led = scene_after same s old new map i to.0 u to.1 told to.4

  abbrev st : Standing K
  st = to.0

  reached : Reached deferred_word old.batch_size w
  reached = came_reached old.batch_size w at.together.makings.standing.came

  is_map : IsMapIn same st.hash st.setting w st.chart st.blocks
  is_map = (at.together.makings.standing.each map st to.2).ground.map

  -- each section that is open holds what is in use
  used_held : (b o t : ℕ) → w.hand b ≡ InUse o → On w t → holds t b w.log ≡ true
  used_held b o t used inside = reached_held t b w.log (ap is_somewhere (used_stands deferred_word old.batch_size w reached b used)) (sections.opens old.batch_size w reached t inside)

  -- it has come, and each section that is open holds its block
  abbrev IsOut : Thing → Type 0
  IsOut x = HasCome known x × ((t b : ℕ) → On w t → IsOfThing x (known.roles b) → holds t b w.log ≡ true)

  abbrev pairs : RefinesPairs map (whole.all.shown.number map) st m known
  pairs = (whole.all.shown.maps map st to.2).pairs

  pair_out : (n : ℕ) → m.place n ≡ InMap map → IsOut (APair n)
  pair_out n at_map = (
    (let few = (whole.all.hands.born n map at_map).0 in let many = whole.all.shown.blocks.stored in omega (arith, few, many)),
    λ t b inside is.
        let it = pairs.all n at_map in
        let current : st.chart.current it.0 ≡ true = sym (pairs.here it.0 it.1) ∙ ap (λ (x : ℕ). is_in_map map (m.place x)) (sym it.2) ∙ ap (is_in_map map) at_map ∙ eq-eqb map map refl in
        let seen = current_is_known same st.hash st.setting w.memory st.chart st.blocks is_map.map.rule is_map.map.shows it.0 current in
        let its_role : known.roles (st.blocks.pair it.0) ≡ role.Pair n = pairs.roles it.0 seen.0 seen.1 ∙ ap role.Pair (sym it.2) in
        used_held b st.setting.counter t (ap w.hand (whole.all.shown.blocks.once b (st.blocks.pair it.0) n is its_role) ∙ is_map.pairs it.0 current) inside,
  )

  table_out : (k : ℕ) → first_of map m ≤ k → IsOut (ATable (record { map = map; turn = k }))
  table_out k from = (
    tt,
    λ t b inside is.
        let there = (whole.all.shown.maps map st to.2).there in
        let first : first_of map m ≡ st.chart.first = ap first_or there.is ∙ there.first in
        let home : st.chart.first ≤ k = omega (arith, from, first) in
        let stands = whole.all.hands.stand b is.0 (record { map = map; turn = k }) st is.1 to.2 in
        used_held b st.setting.counter t (ap w.hand (stands.1 home) ∙ is_map.tables k home stands.0) inside,
  )

  outs : (f : Effect) → FindsMap map m f → AllByRecursion IsOut (out_by m f)
  outs (Replaced n) finds = (pair_out n finds, tt)
  outs (Removed n) finds = (pair_out n finds, tt)
  outs (Promoted t) finds =
      passed_all IsOut t.map (first_of t.map m) t.turn
      (λ k from less. subst (λ (o : ℕ). IsOut (ATable (record { map = o; turn = k }))) (sym finds.0) (table_out k (subst (λ (o : ℕ). first_of o m ≤ k) finds.0 from)))
  outs _ finds = tt

  module _ (inside : GuardsAreOn (On w) m.there) (sheltered : AreShelteredOn (On w) m.there w known m.sheltered) where
    guards_shelter : AllByRecursion (λ (g : NamedGuard). (x : Thing) → IsOut x → IsShelteredOn (On w) m.there w known (record { guard = g.name; thing = x })) m.there.guards
    guards_shelter = all_of (IsFound m.there.guards) (λ (g : NamedGuard). (x : Thing) → IsOut x → IsShelteredOn (On w) m.there w known (record { guard = g.name; thing = x })) m.there.guards
        (λ g found x out. (
          out.0,
          found.0,
          found.1,
          inside g.name found.0 found.1,
          λ b of. out.1 found.0.slot b (inside g.name found.0 found.1) of,
        )) (all_found m.there.guards)

    first_shelters : (f : Effect) → FindsMap map m f → AreShelteredOn (On w) m.there w known (with_effect (Some (name i)) (Some map) f m).sheltered
    first_shelters f finds =
        all_append (IsShelteredOn (On w) m.there w known) (shelter (out_by m f) m) m.sheltered
        (all_shelter (IsShelteredOn (On w) m.there w known) IsOut (out_by m f) (outs f finds) m.there.guards guards_shelter) sheltered

    all_shelter_so : (fs : List Effect) → OutFirst fs → AtEachEffect (FindsMap map) (Some (name i)) (Some map) fs m
        → AreShelteredOn (On w) m.there w known (with_effects (Some (name i)) (Some map) fs m).sheltered
    all_shelter_so [] few finds = sheltered
    all_shelter_so (f ∷ fs) few finds =
        subst (AreShelteredOn (On w) m.there w known) (sym (keep_all (Some (name i)) (Some map) fs (with_effect (Some (name i)) (Some map) f m) few)) (first_shelters f finds.0)

  -- what is so after it
  module _ (on : LeadsThere same hash name m known s old new at whole.all.shown map i u here told leads) where
    goes : GoOn (On w) (On2 to.4.w2) w to.4.w2
    goes = call_goes_on same hash name m known s old new at whole.all.shown map i u here told leads On On2 sections rows

    more : known.stored ≤ known2.stored
    more =
        let before = whole.all.shown.blocks.stored in let after = on.shows.blocks.stored in let grown = stored_grows (Some (name i)) (Some map) effects m in omega (arith, before, after, grown)

    then_map : (of : ℕ) (after : Standing K) → led.maps of ≡ Some after → IsMapIn same after.hash after.setting to.4.w2 after.chart after.blocks
    then_map of after there = (to.5.together.makings.standing.each of after there).ground.map

    reached2 : Reached deferred_word new.batch_size to.4.w2
    reached2 = came_reached new.batch_size to.4.w2 to.5.together.makings.standing.came

    becomes : (x : Thing) (b : ℕ) → HasCome known x → IsOfThing x (known2.roles b) → ComesToBe known s led b (known2.roles b) → (t : ℕ) → On w t → holds t b to.4.w2.log ≡ true
    becomes (APair n) b come is new_one t inside = absurd (let next = subst (ComesToBe known s led b) is new_one in omega (arith, next, come))
    becomes (ATable table) b come is new_one t inside =
        let k = subst (ComesToBe known s led b) is.1 new_one in
        let map2 = then_map table.map k.1 k.3 in
        let past = k.5 in
        let rooted = map2.map.rule.common.rooted (omega (arith, past)) in
        let used : to.4.w2.hand b ≡ InUse k.1.setting.counter = ap to.4.w2.hand k.6 ∙ map2.tables k.0.chart.past (omega (arith, past, rooted)) (omega (arith, past)) in
        reached_held t b to.4.w2.log (ap is_somewhere (used_stands deferred_word new.batch_size to.4.w2 reached2 b used)) (sections.opens_then new.batch_size to.4.w2 reached2 t (goes.inside t inside))

    lasts : Lasts (On w) (On2 to.4.w2) known known2 w to.4.w2
    lasts = record {
      inside = goes.inside;
      held = λ t b inside of h. goes.held t b inside h;
      more = more;
      back = λ x b come of. elim (on.back b (of_map x (known2.roles b) of)) as (λ _. (known.roles b ≡ known2.roles b) ⊎ ((t : ℕ) → On w t → holds t b to.4.w2.log ≡ true)) [
        | inl was ↦ inl was
        | inr new_one ↦ inr (becomes x b come of new_one)
      ];
    }

    few : AreFew effects
    few = effects_few i map known new.changed (takes_own i map known new.changed on.keeps)

    abbrev pub Shelters : Type 0
    Shelters = GuardsAreOn (On2 to.4.w2) m.there × AreShelteredOn (On2 to.4.w2) m.there to.4.w2 known2 v.sheltered × (flat_map thing_back effects ≡ [])

    pub shelters : GuardsAreOn (On w) m.there → AreShelteredOn (On w) m.there w known v.sheltered → Shelters
    shelters inside so = (guards_last (On w) (On2 to.4.w2) m.there known known2 w to.4.w2 lasts inside, all_last (On w) (On2 to.4.w2) m.there known known2 w to.4.w2 lasts v.sheltered so, few.1)

  -- whether it was a step of a row, or none
  abbrev NoRow : Type 0
  NoRow = OfNoRow same hash name m known s old new at whole.all.shown map i u here told leads u to.4.did

  abbrev Then : Type 0
  Then = GuardsAreOn (On2 to.4.w2) m.there × AreShelteredOn (On2 to.4.w2) m.there to.4.w2 known2 v.sheltered × (flat_map thing_back effects ≡ [])

  own_shelters : NoRow → GuardsAreOn (On w) m.there → AreShelteredOn (On w) m.there w known m.sheltered → Then
  own_shelters own inside so =
      let stores = (calls_store_theirs K V same hash name m known s old new at whole.all map i u here told leads own).0 in
      let step = step_shown same hash name m known s old new at whole.all.shown map i u here told leads own stores in
      shelters step.1 inside (all_shelter_so inside so effects (few step.1).0 step.0)

  row_left : (NoRow → ⊥) → AllByRecursion KeepsIn effects
  row_left other = by u to.4.did other
    where
      none : TakesNone new.changed
      none = (rows_hand_theirs K V same hash name m known s old new at whole.all map i u here told leads other).1

      came : CameAbout to.0.setting.batch_size w
      came = (at.together.makings.standing.each map st to.2).ground.came

      left : LeavesBy w.memory new.memory new.changed
      left = operated_leaves w.memory new.memory new.changed (made_so same hash name m known s old new at whole.all.shown map i u here told leads)

      so : (w2 : World (Node K V)) → w2.memory ≡ new.memory → IsOneStep to.0.setting i w w2 → AllByRecursion KeepsIn effects
      so w2 memory happened =
          row_keeps i map m known w w2 whole.all.shown.blocks.roles (one_step_leaves to.0.setting i w w2 came happened) new.changed none
          (subst (λ (n : Mem (Node K V)). LeavesBy w.memory n new.changed) (sym memory) left)

      by : (x : UnderWay K V K) → (did : DidSo same hash name m known s old new at whole.all.shown map i u here told leads x)
          → (OfNoRow same hash name m known s old new at whole.all.shown map i u here told leads x did → ⊥) → AllByRecursion KeepsIn effects
      by (OnKey x) (p2, end, machine_is, told_is, inl step) not_own = absurd (not_own tt)
      by (OnKey x) (p2, end, machine_is, told_is, inr (row, stayed)) not_own = so row.step.w2 row.step.memory row.step.happened
      by (ForRoom x) (p2, end, machine_is, told_is, inl step) not_own = absurd (not_own tt)
      by (ForRoom x) (p2, end, machine_is, told_is, inr (row, stayed)) not_own = so row.step.w2 row.step.memory row.step.happened
      by (Counting x) did not_own = absurd (not_own tt)
      by (OverAll x) (p2, end, machine_is, told_is, inl step) not_own = absurd (not_own tt)
      by (OverAll x) (p2, end, machine_is, told_is, inr (row, stayed)) not_own = so row.step.w2 row.step.memory row.step.happened

  row_shelters : (NoRow → ⊥) → GuardsAreOn (On w) m.there → AreShelteredOn (On w) m.there w known m.sheltered → Then
  row_shelters other inside so =
      let theirs = rows_hand_theirs K V same hash name m known s old new at whole.all map i u here told leads other in
      let on = row_step_shown same hash name m known s old new at whole.all.shown map i u here told leads other theirs.1 theirs.0 in
      shelters on inside (subst (AreShelteredOn (On w) m.there w known) (sym (keep_all (Some (name i)) (Some map) effects m (row_left other))) so)

  pub call_shelters : GuardsAreOn (On w) m.there → AreShelteredOn (On w) m.there w known m.sheltered → Then
  call_shelters inside so = elim (of_row same hash name m known s old new at whole map i u here told leads u to.4.did) as (λ _. Then) [
    | inl own ↦ own_shelters own inside so
    | inr other ↦ row_shelters other inside so
  ]

module _ (K V : Type 0) (same : K → K → Bool) (hash : ℕ → K → ℕ) where
  pub calls_shelter : CallsShelter K V same hash
  calls_shelter name m known s old new at whole map i u here told leads inside so = call_shelters same hash name m known s old new at whole map i u here told leads Within Within within_sections (over_row i) inside so

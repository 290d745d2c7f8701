-- On a map that has had no table nothing was counted, and no call is about to count: so it stays by each kind of step.
use Rattle.std.specs.Prelude.{◌≡◌, ◌⊎◌, ◌<◌, ◌≤◌, ◌==◌, ◌&&◌, ◌||◌, nat_lt, cond, ℕ, Bool, true, false, List, [], ◌∷◌, filter, length, Option, Some, None}
use Rattle.std.specs.List.{list_any}
use Rattle.std.proofs.Common.{refl, ap, sym, subst, ◌∙◌, arith, inl, inr}
use Rattle.std.proofs.lemmas.Bool.{cases_eq, cases_lt, eq-eqb}
use Rattle.play_lists.specs.Given.TablesDeclared.node.Node.{Node}
use Rattle.run_logged.specs.Given.RawDeclared.machines.progress.Progress.{Progress}
use Rattle.run_logged.specs.Given.CallersTogether.{UnderWay, OnKey, ForRoom, Counting, OverAll}
use Rattle.play_lists.specs.Given.FinishesMachines.{machine_of}
use Rattle.play_lists.specs.Given.FinishesMaps.{Standing}
use Rattle.run_schedules.specs.declared.effect.Effect.{Effect}
use Rattle.run_schedules.specs.declared.effect.Spot.{Spot}
use Rattle.run_schedules.specs.Schedules.Effects.{AtEachEffect, with_effects}
use Rattle.run_schedules.specs.Schedules.Moment.{InMap, Moment, TableThere}
use Rattle.run_schedules.specs.Schedules.Things.{same_table}
use Rattle.run_schedules.specs.Schedules.Views.{is_in_map, is_linked}
use Rattle.play_lists.specs.Given.EffectsEffects.{effects_of}
use Rattle.play_lists.specs.Given.EffectsKnown.{Known}
use Rattle.play_lists.specs.Given.EffectsDeclared.acting.Acting.TheVariants as acts
use Rattle.play_lists.specs.Given.ScenesHeld.{Held, IsAt}
use Rattle.play_lists.specs.Given.ScenesScene.{Scene}
use Rattle.play_lists.specs.Given.ScenesStepping.{StepLeads, scene_after}
use Rattle.play_lists.specs.Given.FollowsFinds.{FindsMap}
use Rattle.run_logged.specs.Given.MomentsWhole.{RefinesWhole}
use Rattle.play_lists.proofs.Given.FollowsFinds.{tables_many}
use Rattle.run_logged.proofs.Given.HandsAsking.{which}
use Rattle.play_lists.specs.Given.SettlesCounts.{RefinesCounts, is_to_count}
use Rattle.play_lists.proofs.Given.SettlesCalls.{goes_as_one}
use Rattle.play_lists.proofs.Given.SettlesUncounted.{none_counts}
use Rattle.play_lists.specs.Given.ShardsAdds.{adds_of}
use Rattle.play_lists.specs.Given.ShardsShardWords.{RefinesCounters}
use Rattle.play_lists.proofs.Given.ShardsAdds.{AddsIts, AddsNone, Brings, StepAdds, machine_adds, machine_not_adds}
use Rattle.play_lists.proofs.Given.ShardsKeyAdds.{key_adds}
use Rattle.play_lists.proofs.Given.ShardsRestAdds.{room_adds, sum_adds, sweep_adds}
use Rattle.play_lists.proofs.Given.ShardsShardKept.{uncounted_shards}
use Rattle.play_lists.proofs.Given.ShardsShardNumbers.{calls_spare_others}
use Rattle.play_lists.specs.Given.FindsWithin.{many_of}
use Rattle.play_lists.proofs.Given.FindsGrows.Steps.{tables_have_been}
use Rattle.play_lists.proofs.Given.FindsSteps.{steps_find_places}
use Rattle.run_schedules.specs.Deeds.Deeds.{named}
use Rattle.play_linear.specs.Swept.Shown.{IsTabled}

-- A table at which a pair may stand is one of its map.
module _ (map : ℕ) (spot : Spot) where
  abbrev Has : TableThere → Bool
  Has u = same_table u.table (record { map = map; turn = spot.turn }) && is_linked u.stage && nat_lt spot.place u.shape.len

  some_table : (tables : List TableThere) → list_any Has tables ≡ true → 0 < length (filter (λ (u : TableThere). u.table.map == map) tables)
  some_table [] any = absurd (cc any)
  some_table (u ∷ tables) any = by (u.table.map == map) (u.table.turn == spot.turn) (is_linked u.stage) (nat_lt spot.place u.shape.len) any (some_table tables)
    where
      by : (q r w z : Bool) → (((q && r) && w && z) || list_any Has tables) ≡ true → (list_any Has tables ≡ true → 0 < length (filter (λ (v : TableThere). v.table.map == map) tables))
          → 0 < length (cond q (u ∷ filter (λ (v : TableThere). v.table.map == map) tables) (filter (λ (v : TableThere). v.table.map == map) tables))
      by true r w z some rest = omega arith
      by false r w z some rest = rest some

module _ {K V : Type 0} (same : K → K → Bool) (hash : ℕ → K → ℕ) (m : Moment K V) (known : Known) (s : Scene K V) (old new : Held K V) (at : IsAt same hash old s) (whole : RefinesWhole same named m known s)
    (kept : RefinesCounts named m s) (counters : RefinesCounters named m s) (tabled : IsTabled m s) (map i : ℕ) (u : UnderWay K V K) (here : s.calls map i ≡ Some u) (said : Progress (Node K V))
    (leads : StepLeads same hash i said s old new) where
  abbrev effects : List Effect
  effects = effects_of (acts.Call i map) known new.changed

  abbrev v : Moment K V
  v = with_effects (Some (named i)) (Some map) effects m

  abbrev s2 : Scene K V
  s2 = let to = leads map u here in scene_after same s old new map i to.0 u to.1 said to.4

  abbrev st : Standing K
  st = (leads map u here).0

  there : s.maps map ≡ Some st
  there = (leads map u here).2

  grown : (of : ℕ) → many_of of m ≤ many_of of v
  grown of = tables_have_been K V (Some (named i)) (Some map) effects m of

  -- a map that has a pair has a table
  has_pair : (n : ℕ) → m.place n ≡ InMap map → 0 < many_of map m
  has_pair n in_map =
      let shown = whole.all.shown.maps map st there in
      let it = shown.pairs.all n in_map in
      let current : st.chart.current it.0 ≡ true =
      sym (shown.pairs.here it.0 it.1) ∙ ap (λ (k : ℕ). is_in_map map (m.place k)) (sym it.2) ∙ ap (is_in_map map) in_map ∙ is_itself map in
      let rule = (at.together.makings.standing.each map st there).ground.map.map.rule in
      let stands = rule.common.stands it.0 current in
      let many = tables_many map (whole.all.shown.number map) st m known shown in
      elim (cases_lt stands.0 st.chart.past) as (λ _. 0 < many_of map m) [
        | inl l ↦ omega (arith, l, many)
        | inr l ↦ absurd (let none = rule.common.unmade stands.0 stands.1 l in let held = stands.4 in cc (none, held))
      ]
    where
      is_itself : (k : ℕ) → is_in_map k (InMap k) ≡ true
      is_itself k = eq-eqb k k refl

  -- so does one in which a pair may stand
  finds : AtEachEffect (FindsMap map) (Some (named i)) (Some map) effects m
  finds = (steps_find_places K V same hash named m known s old new at whole map i u here said leads).0

  brings_table : (Stores : Type 0) (removed : ℕ) → Brings Stores removed effects → 0 < many_of map m
  brings_table Stores removed (inl (may, none, n, spot, are)) =
      let found = subst (λ (l : List Effect). AtEachEffect (FindsMap map) (Some (named i)) (Some map) l m) are finds in
      some_table map spot m.tables found.0.1.0
  brings_table Stores removed (inr (some, n, are)) =
      let found = subst (λ (l : List Effect). AtEachEffect (FindsMap map) (Some (named i)) (Some map) l m) are finds in has_pair n found.0

  -- What a step does of these: it counts nothing, or has something to count.
  pub record CountsSo : Type 0 where
    pub counts : (v.shards ≡ m.shards) ⊎ (is_to_count (machine_of u) ≡ true)
    pub brings : is_to_count (leads map u here).1 ≡ true → 0 < many_of map m

  counts_so : (Stores : Type 0) (counter shard : ℕ) (before : Option ℕ) → before ≡ adds_of (machine_of u) → StepAdds Stores known new.changed counter shard effects before (adds_of (leads map u here).1) → CountsSo
  counts_so Stores counter shard before is (AddsNone nowhere none brings) = record {
    counts = inl (uncounted_shards (Some (named i)) (Some map) effects m (none_counts i map known new.changed nowhere));
    brings = λ counts. some_added (adds_of (leads map u here).1) refl counts;
  }
    where
      some_added : (o : Option ℕ) → adds_of (leads map u here).1 ≡ o → is_to_count (leads map u here).1 ≡ true → 0 < many_of map m
      some_added (Some removed) adds counts = brings_table Stores removed (brings removed adds)
      some_added None adds counts = absurd (let never = machine_not_adds (leads map u here).1 adds in cc (never, counts))
  counts_so Stores counter shard before is (AddsIts removed o wrote are adds over) = record {
    counts = inr (machine_adds (machine_of u) removed (sym is ∙ adds));
    brings = λ counts. absurd (let never = machine_not_adds (leads map u here).1 over in cc (never, counts));
  }

  module _ (does : CountsSo) where
    maps_then : (of : ℕ) → many_of of v ≡ 0 → (shard : ℕ) → v.shards of shard ≡ 0
    maps_then of none shard = elim (cases_eq of map) as (λ _. v.shards of shard ≡ 0) [
      | inl e ↦ by e does.counts
      | inr ne ↦ ap (λ (f : ℕ → ℕ). f shard) (calls_spare_others same hash named m known s old new at whole kept counters map i u here said leads of ne) ∙ tabled.maps of before shard
    ]
      where
        before : many_of of m ≡ 0
        before = (let more = grown of in omega (arith, none, more))

        by : of ≡ map → (v.shards ≡ m.shards) ⊎ (is_to_count (machine_of u) ≡ true) → v.shards of shard ≡ 0
        by e (inl same_shards) = ap (λ (f : ℕ → ℕ → ℕ). f of shard) same_shards ∙ tabled.maps of before shard
        by e (inr counts) = let some = subst (λ (k : ℕ). 0 < many_of k m) (sym e) (tabled.counts map i u here counts) in absurd (omega (arith, some, before))

    counts_then : (of j : ℕ) (x : UnderWay K V K) → s2.calls of j ≡ Some x → is_to_count (machine_of x) ≡ true → 0 < many_of of v
    counts_then of j x x_is counts = elim (which s.calls map i (leads map u here).4.next of j x x_is) as (λ _. 0 < many_of of v) [
      | inl it ↦
          let some = does.brings (ap is_to_count (sym (goes_as_one (leads map u here).1 said (leads map u here).4.next (leads map u here).4.goes_on x it.2)) ∙ counts) in
          let more = grown map in
          subst (λ (k : ℕ). 0 < many_of k v) (sym it.0) (omega (arith, some, more))
      | inr was ↦ (let some = tabled.counts of j x was.1 counts in let more = grown of in omega (arith, some, more))
    ]

    pub tabled_then : IsTabled v s2
    tabled_then = record { maps = maps_then; counts = counts_then }

-- So it is after the step of a call, whoever's.
pub calls_keep_tabled : {K V : Type 0} (same : K → K → Bool) (hash : ℕ → K → ℕ) (m : Moment K V) (known : Known) (s : Scene K V) (old new : Held K V) → IsAt same hash old s → RefinesWhole same named m known s
    → RefinesCounts named m s → RefinesCounters named m s → IsTabled m s
    → (map i : ℕ) (u : UnderWay K V K) (here : s.calls map i ≡ Some u) (said : Progress (Node K V)) (leads : StepLeads same hash i said s old new)
    → (let to = leads map u here in IsTabled (with_effects (Some (named i)) (Some map) (effects_of (acts.Call i map) known new.changed) m) (scene_after same s old new map i to.0 u to.1 said to.4))
calls_keep_tabled same hash m known s old new at whole kept counters tabled map i (OnKey x) here said leads =
    tabled_then same hash m known s old new at whole kept counters tabled map i (OnKey x) here said leads
    (counts_so same hash m known s old new at whole kept counters tabled map i (OnKey x) here said leads _ _ _ _ refl
    (key_adds same hash named m known s old new at whole.all.shown map i x here said leads (leads map (OnKey x) here).4.did))
calls_keep_tabled same hash m known s old new at whole kept counters tabled map i (ForRoom x) here said leads =
    tabled_then same hash m known s old new at whole kept counters tabled map i (ForRoom x) here said leads
    (counts_so same hash m known s old new at whole kept counters tabled map i (ForRoom x) here said leads _ _ _ _ refl
    (room_adds same hash named m known s old new at whole.all.shown map i (ForRoom x) here said leads x refl (leads map (ForRoom x) here).4.did))
calls_keep_tabled same hash m known s old new at whole kept counters tabled map i (Counting x) here said leads =
    tabled_then same hash m known s old new at whole kept counters tabled map i (Counting x) here said leads
    (counts_so same hash m known s old new at whole kept counters tabled map i (Counting x) here said leads _ _ _ _ refl
    (sum_adds same hash named m known s old new at whole.all.shown map i (Counting x) here said leads x refl (leads map (Counting x) here).4.did))
calls_keep_tabled same hash m known s old new at whole kept counters tabled map i (OverAll x) here said leads =
    tabled_then same hash m known s old new at whole kept counters tabled map i (OverAll x) here said leads
    (counts_so same hash m known s old new at whole kept counters tabled map i (OverAll x) here said leads _ _ _ _ refl
    (sweep_adds same hash named m known s old new at whole.all.shown map i (OverAll x) here said leads x refl (leads map (OverAll x) here).4.did))

-- It stays so where shards are what they were, no map has fewer tables, and who is about to count was so.
pub tabled_stays : {K V : Type 0} (m v : Moment K V) (s t : Scene K V) → IsTabled m s → ((of : ℕ) → many_of of m ≤ many_of of v) → v.shards ≡ m.shards
    → ((of i : ℕ) (u : UnderWay K V K) → t.calls of i ≡ Some u → is_to_count (machine_of u) ≡ true → (before : UnderWay K V K) × (s.calls of i ≡ Some before) × (is_to_count (machine_of before) ≡ true))
    → IsTabled v t
tabled_stays m v s t tabled grown shards fewer = record {
  maps = λ of none shard. ap (λ (f : ℕ → ℕ → ℕ). f of shard) shards ∙ tabled.maps of (let more = grown of in omega (arith, none, more)) shard;
  counts = λ of i u is counts. (let was = fewer of i u is counts in let some = tabled.counts of i was.0 was.1 was.2 in let more = grown of in omega (arith, some, more));
}

-- What a step of a call puts behind a table finds room there.
use Rattle.std.specs.Prelude.{◌≡◌, ℕ, suc, ◌<◌, ◌≤◌, ◌==◌, ◌-◌, nat_le, Bool, true, false, List, [], ◌∷◌, length, filter, sum_by, Some}
use Rattle.std.specs.List.{AllByRecursion, list_any}
use Rattle.std.proofs.Common.{refl, ap, sym, subst, ◌∙◌, arith, inl, inr}
use Rattle.std.proofs.lemmas.Bool.{cases_eq, eq-eqb, ne_eqb}
use Rattle.run_finds.specs.Given.SeizeWordsDeclared.at.At.{At}
use Rattle.run_finds.specs.Given.SeizeWordsWord.{block_in}
use Rattle.run_finds.specs.Given.TablesChunks.{is_incremental}
use Rattle.run_finds.specs.Given.TablesDeclared.node.Node.{Node}
use Rattle.run_finds.specs.Given.RawDeclared.machines.progress.Progress.{Progress}
use Rattle.run_finds.specs.Given.RunsLifeCycle.{times}
use Rattle.run_finds.specs.Given.RunsSame.{is_same}
use Rattle.run_finds.specs.Given.RunsDeclared.effect.Effect.{Effect}
use Rattle.run_finds.specs.Given.RunsDeclared.effect.Effect.TheVariants as effect
use Rattle.run_finds.specs.Given.RunsDeclared.effect.TableId.{TableId}
use Rattle.run_finds.specs.Given.RunsDeclared.effect.Thing.{Thing}
use Rattle.run_finds.specs.Given.RunsDeclared.effect.Thing.TheVariants.{APair, ATable}
use Rattle.run_finds.specs.Given.SchedulesEffects.{call_by, with_effect}
use Rattle.run_finds.specs.Given.SchedulesEntry.{ByCall}
use Rattle.run_finds.specs.Given.SchedulesMoment.{UnderWay as CallThere, TableThere, Moment}
use Rattle.run_finds.specs.Given.SchedulesViews.{call_of, grows_in_chunks, map_at, behind, tables_of}
use Rattle.run_finds.specs.Given.CallersTogether.{UnderWay}
use Rattle.run_finds.specs.Given.EffectsEffects.{carried, effects_of}
use Rattle.run_finds.specs.Given.EffectsKnown.{Known}
use Rattle.run_finds.specs.Given.EffectsDeclared.acting.Acting.TheVariants as acts
use Rattle.run_finds.specs.Given.EffectsDeclared.role.Role.{Role}
use Rattle.run_finds.specs.Given.EffectsDeclared.role.Role.TheVariants as role
use Rattle.run_finds.specs.Given.FinishesMachines.{machine_of}
use Rattle.run_finds.specs.Given.FinishesMaps.{Standing}
use Rattle.run_finds.specs.Given.FollowsCalls.{IsCalled}
use Rattle.run_finds.specs.Given.FollowsMaps.{tables_to, RefinesMap}
use Rattle.run_finds.proofs.Given.FollowsFinds.{chunks_are}
use Rattle.run_finds.proofs.Given.FollowsSteps.{WentTo, went_to}
use Rattle.run_finds.proofs.Given.OthersLeads.{same_parts}
use Rattle.run_finds.specs.Given.MomentsWhole.{RefinesWhole}
use Rattle.run_finds.proofs.Given.OwesFields.{its_effect}
use Rattle.run_finds.specs.Given.SettlesDue.{ToPut, due_in_row, retired_effects, RowTells, TellsNone, TellsRetired, TellsDeferred, OwnAreMade}
use Rattle.run_finds.specs.Given.SettlesEntries.{EntriesAreBlank}
use Rattle.run_finds.specs.Given.SettlesHand.{thing_as, RefinesObligations}
use Rattle.run_finds.specs.Given.SettlesOwing.{hands_over}
use Rattle.run_finds.proofs.Given.SettlesDueCalls.{rows_tell_due}
use Rattle.run_finds.proofs.Given.SettlesHand.All.{own_or_row}
use Rattle.run_finds.proofs.Given.SettlesTakings.{steps_take_out}
use Rattle.run_finds.specs.Waiting.{once_if, owed_in, put_in, is_behind_one}
use Rattle.run_finds.specs.Waits.{FindsPast, FindPast, FindsDeferral, FindDeferrals, FindsSpace, FindSpace}
use Rattle.run_finds.specs.Within.{many_of, HasItsMap, LiesNext, AllIsInOrder}
use Rattle.run_finds.proofs.Behind.{each_is_put, put_has_left}
use Rattle.run_finds.proofs.Grown.{found_of}
use Rattle.run_finds.proofs.Lists.{all_both}
use Rattle.run_finds.proofs.Waits.Due.{row_due}
use Rattle.run_grows.specs.Sources.Sources.{HasSource, RefinesSources}
use Rattle.run_grows.specs.Sources.Steps.{CallsFindSpace}
use Rattle.run_grows.proofs.Sources.Listed.{many_tables, no_more_behind, listed_waits, owed_not_behind}
use Rattle.run_grows.proofs.Sources.Room.{CameFrom, has_room}
use Rattle.run_finds.specs.Given.ScenesHeld.{Held, IsAt}
use Rattle.run_finds.specs.Given.ScenesScene.{Scene}
use Rattle.run_finds.specs.Given.ScenesStepping.{StepLeads}
use Rattle.run_finds.proofs.Given.General.{both_false as neither}

at_most_one : (q : Bool) → once_if q ≤ 1
at_most_one true = omega arith
at_most_one false = omega arith

module _ {K V : Type 0} (same : K → K → Bool) (hash : ℕ → K → ℕ) (name : ℕ → List ℕ) (m : Moment K V) (known : Known) (s : Scene K V) (old new : Held K V) (at_old : IsAt same hash old s)
    (whole : RefinesWhole same name m known s) (entries : EntriesAreBlank s) (owning : OwnAreMade known s.world) (owes : RefinesObligations name m known s) (sources : RefinesSources same name m known s) (order : AllIsInOrder m)
    (map i : ℕ) (u : UnderWay K V K) (here : s.calls map i ≡ Some u) (said : Progress (Node K V)) (leads : StepLeads same hash i said s old new) where
  abbrev to : WentTo same hash name m known s old new at_old sources.shown map i u here said leads
  to = went_to same hash name m known s old new at_old sources.shown map i u here said leads

  abbrev st : Standing K
  st = to.0

  abbrev number : ℕ → ℕ
  number = sources.shown.number map

  abbrev shown : RefinesMap map (sources.shown.number map) st m known
  shown = sources.shown.maps map to.0 to.2

  its : (c : CallThere K V) × (call_of (name i) m ≡ Some c) × (c.map ≡ map) × IsCalled same u c.call
  its = whole.all.shown.calls map i u here

  abbrev c : CallThere K V
  c = its.0

  -- a pair of the map that lies in a later table than the one in which it was stored has its number, and its source
  came : is_incremental st.setting.mode ≡ true → (j turn : ℕ) → 1 ≤ j → j ≤ length m.stored → (m.born j).map ≡ map → (m.born j).turn < (m.spot j).turn → (m.spot j).turn ≡ turn → CameFrom map st.chart number turn j
  came chunks j turn some most born ahead lies =
      let it = sources.numbered map to.0 to.2 j some most born in
      let source = sources.came map to.0 to.2 chunks it.0 it.1 (subst (λ (k : ℕ). (m.born k).turn < (m.spot k).turn) (sym it.2) ahead) in
      (it.0, it.2, subst (HasSource st.chart it.0) (ap (λ (k : ℕ). (m.spot k).turn) it.2 ∙ lies) source)

  module _ (n : ℕ) (t : TableId) (owed : 1 ≤ owed_in n c.owes) (past : FindsPast m (effect.Deferred n t) c) (behind_it : FindsDeferral m (effect.Deferred n t) c) where
    chunks : is_incremental st.setting.mode ≡ true
    chunks = sym (chunks_are map number st m known shown) ∙ ap (λ (k : ℕ). grows_in_chunks (map_at k m)) (sym its.2) ∙ past.2

    has_its : HasItsMap m c
    has_its = (found_of (λ (d : CallThere K V). is_same d.caller (name i)) (HasItsMap m) m.calls c order.within.calls its.1).1

    stored : (1 ≤ n) × (n ≤ length m.stored) × ((m.born n).map ≡ c.map)
    stored = has_its.owes n (owed_in n c.owes - 1) (omega (arith, owed))

    of_map : t.map ≡ map
    of_map = behind_it.0 ∙ its.2

    not_there : put_in n m.deferred ≡ 0
    not_there = owed_not_behind (name i) m order.waits.placed c its.1 n owed

    last_made : t.turn < st.chart.past
    last_made =
        let lies : (m.spot n).turn < many_of map m = subst (λ (k : ℕ). (m.spot n).turn < many_of k m) (stored.2 ∙ its.2) (order.within.spots n stored.0 stored.1) in
        let many : many_of map m ≡ st.chart.past = ap length shown.tables.listed ∙ many_tables map st.chart shown.tables.stage st.chart.past in
        let turn = behind_it.1 in
        omega (arith, lies, many, turn)

    once : (j : ℕ) → times j (n ∷ behind t m.deferred) ≤ 1
    once j = elim (cases_eq j n) as (λ _. times j (n ∷ behind t m.deferred) ≤ 1) [
      | inl e ↦
          let few = no_more_behind t j m.deferred in
          let none : put_in j m.deferred ≡ 0 = ap (λ (k : ℕ). put_in k m.deferred) e ∙ not_there in
          let one = at_most_one (j == n) in
          omega (arith, few, none, one)
      | inr ne ↦
          let few = no_more_behind t j m.deferred in
          let most = order.waits.placed.put j in
          let one = at_most_one (is_behind_one (m.place j)) in
          let none : once_if (j == n) ≡ 0 = ap once_if (ne_eqb j n ne) in
          omega (arith, few, most, one, none)
    ]

    all_came : (j : ℕ) → 1 ≤ times j (n ∷ behind t m.deferred) → CameFrom map st.chart number (suc t.turn) j
    all_came j some = elim (cases_eq j n) as (λ _. CameFrom map st.chart number (suc t.turn) j) [
      | inl e ↦ subst (CameFrom map st.chart number (suc t.turn)) (sym e)
          (came chunks n (suc t.turn) stored.0 stored.1 (stored.2 ∙ its.2) past.0 (let turn = behind_it.1 in omega (arith, turn)))
      | inr ne ↦
          let none : once_if (j == n) ≡ 0 = ap once_if (ne_eqb j n ne) in
          let it = listed_waits t j (λ d. LiesNext m d × (1 ≤ put_in d.pair m.deferred)) m.deferred waits (omega (arith, some, none)) in
          let parts = same_parts it.0.behind t it.3 in
          let lies = it.1.0 in
          let turn : (m.spot it.0.pair).turn ≡ suc t.turn = (let l = lies.3 in let same_turn = parts.1 in omega (arith, l, same_turn)) in
          subst (CameFrom map st.chart number (suc t.turn)) it.2
          (came chunks it.0.pair (suc t.turn) lies.0 (put_has_left m order.waits.placed it.0.pair it.1.1).0 (lies.1 ∙ parts.0 ∙ of_map) lies.2 turn)
    ]
      where
        waits : AllByRecursion (λ d. LiesNext m d × (1 ≤ put_in d.pair m.deferred)) m.deferred
        waits = all_both (LiesNext m) (λ d. 1 ≤ put_in d.pair m.deferred) m.deferred order.within.behind (each_is_put m.deferred)

    room : FindsSpace m (effect.Deferred n t) c
    room =
        let fits = has_room map st.chart number shown.tables.stage t.turn n (behind t m.deferred) last_made once all_came in
        let listed : tables_of c.map m ≡ tables_to map st.chart shown.tables.stage st.chart.past = ap (λ (k : ℕ). tables_of k m) its.2 ∙ shown.tables.listed in
        subst (λ (xs : List TableThere). length (behind t m.deferred) < sum_by (λ x. x.shape.len) (filter (λ x. nat_le x.table.turn t.turn) xs)) (sym listed) fits

  abbrev effects : List Effect
  effects = effects_of (acts.Call i map) known new.changed

  abbrev Finds : List Effect → Type 0
  Finds l = FindPast (name i) map l m → FindDeferrals (name i) map l m → FindSpace (name i) map l m

  -- what is put behind a table is owed
  due_owed : (word : ℕ) (place : At) (n : ℕ) → due_in_row (machine_of u) ≡ Some (ToPut word place) → known.roles (block_in word) ≡ role.Pair n → 1 ≤ owed_in n c.owes
  due_owed word place n due is =
      let has = row_due known (ToPut word place) n is (machine_of u) (owes.noted map i u here) due in
      let owed : c.owes ≡ APair n ∷ [] = owes.owed map i u here c its.1 ∙ has.0 ∙ ap thing_as is in
      let one : once_if (n == n) ≡ 1 = ap once_if (eq-eqb n n refl) in
      let e = ap (owed_in n) owed in
      omega (arith, e, one)

  deferred : (word : ℕ) (place : At) (t : TableId) → due_in_row (machine_of u) ≡ Some (ToPut word place) → (r : Role) → known.roles (block_in word) ≡ r → Finds (carried t r)
  deferred word place t due (role.Pair n) is past behind_it = (
    subst (ByCall (FindsSpace m (effect.Deferred n t))) (sym its.1)
        (room n t (due_owed word place n due is) (subst (ByCall (FindsPast m (effect.Deferred n t))) its.1 past.0) (subst (ByCall (FindsDeferral m (effect.Deferred n t))) its.1 behind_it.0)),
    tt,
  )
  deferred word place t due (role.Table u2 len) is past behind_it = tt
  deferred word place t due role.Free is past behind_it = tt
  deferred word place t due (role.OwnPair j) is past behind_it = tt
  deferred word place t due (role.OwnTable turn shape) is past behind_it = tt
  deferred word place t due (role.Counter of) is past behind_it = tt

  one_retired : (x : Thing) → FindSpace (name i) map (effect.Retired x ∷ []) m
  one_retired x = (subst (ByCall (FindsSpace m (effect.Retired x))) (sym its.1) tt, tt)

  retired : (r : Role) → FindSpace (name i) map (retired_effects r) m
  retired (role.Pair n) = one_retired (APair n)
  retired (role.Table t len) = one_retired (ATable t)
  retired role.Free = tt
  retired (role.OwnPair j) = tt
  retired (role.OwnTable turn shape) = tt
  retired (role.Counter of) = tt

  row_finds : RowTells i map known effects (due_in_row (machine_of u)) (due_in_row to.1) → Finds effects
  row_finds (TellsNone none same) = subst Finds (sym none) (λ past behind_it. tt)
  row_finds (TellsRetired word was gone are) = subst Finds (sym are) (λ past behind_it. retired (known.roles (block_in word)))
  row_finds (TellsDeferred word block place t len was its_word gone table are) = subst Finds (sym are) (deferred word place t was (known.roles (block_in word)) refl)

  -- what hands nothing over puts nothing behind a table
  none_put : (x : Moment K V) (f : Effect) (d : CallThere K V) → hands_over f ≡ false → FindsSpace x f d
  none_put x (effect.Deferred n t) d e = absurd (cc e)
  none_put x _ d e = tt

  all_none : (fs : List Effect) (x : Moment K V) (d : CallThere K V) → call_of (name i) x ≡ Some d → list_any hands_over fs ≡ false → FindSpace (name i) map fs x
  all_none [] x d d_is e = tt
  all_none (f ∷ fs) x d d_is e =
      let both = neither (hands_over f) (list_any hands_over fs) e in (
        subst (ByCall (FindsSpace x f)) (sym d_is) (none_put x f d both.0),
        all_none fs (with_effect (Some (name i)) (Some map) f x) (call_by x f d) (its_effect (name i) map f x d d_is) both.1,
      )

  pub step_finds : Finds effects
  step_finds = elim (own_or_row same hash name m known s old new at_old sources.shown map i u here said leads u to.4.did) as (λ _. Finds effects) [
    | inl own ↦ λ past behind_it. all_none effects m c its.1 (steps_take_out K V same hash name m known s old new at_old sources.shown map i u here said leads own []).2
    | inr other ↦ row_finds (rows_tell_due K V same hash name m known s old new at_old sources.shown whole.all.rows entries owning map i u here said leads other)
  ]

pub calls_find_space : (K V : Type 0) (same : K → K → Bool) (hash : ℕ → K → ℕ) → CallsFindSpace K V same hash
calls_find_space K V same hash name m known s old new at whole entries owning owes sources order map i u here said leads =
    step_finds same hash name m known s old new at whole entries owning owes sources order map i u here said leads

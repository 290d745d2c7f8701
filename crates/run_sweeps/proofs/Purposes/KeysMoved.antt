-- By a step of a call each map stands on by one move at most; and where a walk takes a step of its own, what it has come to by key.
use Rattle.std.specs.Prelude.{◌≡◌, ℕ, ◌<◌, ◌≤◌, Bool, true, List, [], ◌∷◌, Option, Some}
use Rattle.std.specs.List.{AllByRecursion}
use Rattle.std.proofs.Common.{refl, ap, sym, subst, ◌∙◌, inl, inr}
use Rattle.std.proofs.lemmas.Bool.{cases_eq}
use Rattle.run_finds.specs.Given.SeizeWordsMem.{Mem, Took, value_at}
use Rattle.run_finds.specs.Given.SeizeWordsPlan.{Steps}
use Rattle.run_finds.proofs.Given.SeizeRuleRows.Leaving.{steps_back}
use Rattle.run_finds.specs.Given.SeizeWorld.{with_at}
use Rattle.run_finds.specs.Given.TablesChunks.{is_incremental}
use Rattle.run_finds.specs.Given.TablesDeclared.node.Node.{Node}
use Rattle.run_finds.specs.Given.SweepsSweep.{sweep_plan}
use Rattle.run_finds.specs.Given.ReservesDeclared.sweep.Purpose.TheVariants.{Walks}
use Rattle.run_finds.specs.Given.ReservesDeclared.sweep.Sweep.{Sweep}
use Rattle.run_finds.specs.Given.ReservesDeclared.sweep.Swept.{Swept}
use Rattle.run_finds.specs.Given.RawMachine.{machine_plan, swept}
use Rattle.run_finds.specs.Given.RawProgress.{of_swept}
use Rattle.run_finds.specs.Given.RawDeclared.machines.machine.Machine.TheVariants as kinds
use Rattle.run_finds.specs.Given.RawDeclared.machines.progress.Progress.{Progress}
use Rattle.run_finds.specs.Given.RawDeclared.machines.progress.Progress.TheVariants as progress
use Rattle.run_finds.specs.Given.SchedulesMoment.{Moment}
use Rattle.run_finds.specs.Given.RuleChart.{Chart}
use Rattle.run_finds.specs.Given.RuleInWorld.{Moved}
use Rattle.run_finds.specs.Given.RuleMaps.{spot_of}
use Rattle.run_finds.specs.Given.RuleWords.{Blocks}
use Rattle.run_finds.specs.Given.PointsSteps.{AreLawful}
use Rattle.run_finds.specs.Given.LateCovers.{NamesPair}
use Rattle.run_finds.specs.Given.CallersOverAll.{CallOverAll}
use Rattle.run_finds.specs.Given.CallersSights.{Visible, seen_by}
use Rattle.run_finds.specs.Given.CallersTogether.{UnderWay, OnKey, ForRoom, Counting, OverAll, Together}
use Rattle.run_finds.proofs.Given.CallersTogether.At.{at_same}
use Rattle.run_finds.specs.Given.EffectsKnown.{Known}
use Rattle.run_finds.specs.Given.FinishesMaps.{Standing}
use Rattle.run_finds.specs.Given.FollowsShows.{Refines}
use Rattle.run_finds.proofs.Given.FollowsSteps.{WentTo, DidSo}
use Rattle.run_finds.specs.Given.MomentsWhole.{RefinesWhole}
use Rattle.run_finds.specs.Given.EffectsDeclared.changed.Changed.TheVariants.{Nothing}
use Rattle.run_finds.proofs.Given.ChangesSteps.{to}
use Rattle.run_finds.specs.Purposes.Keys.{KeysAt, AreKeyed}
use Rattle.run_sweeps.specs.Purposes.Kept.{ShowsNone}
use Rattle.run_finds.specs.Purposes.Purposes.{KeysOf}
use Rattle.run_finds.specs.Given.NamedMachines.{IsBefore}
use Rattle.run_sweeps.proofs.Purposes.KeysCarried.{StandsMoved, stood_moved, keys_carried, keyed_carried, its_map, since, LeadsOn, leads_on}
use Rattle.run_sweeps.proofs.Purposes.KeysOn.{StandsLow}
use Rattle.run_sweeps.proofs.Purposes.Pairs.{pair_swept}
use Rattle.run_finds.proofs.Given.ScenesTold.{as_step}
use Rattle.run_finds.specs.Given.ScenesHeld.{Held, IsAt}
use Rattle.run_finds.specs.Given.ScenesScene.{Scene, slot_of}
use Rattle.run_finds.specs.Given.ScenesStepping.{StepLeads, StepsFrom}
use Rattle.run_finds.proofs.Given.General.{same_some as one_of}

module _ {K V : Type 0} (same : K → K → Bool) (hash : ℕ → K → ℕ) (name : ℕ → List ℕ) (m : Moment K V) (known : Known) (s : Scene K V) (old new : Held K V) (at : IsAt same hash old s)
    (whole : RefinesWhole same name m known s) (shown : Refines same name m known s) (of i : ℕ) (u : UnderWay K V K) (here : s.calls of i ≡ Some u) (said : Progress (Node K V))
    (leads : StepLeads same hash i said s old new) where
  abbrev pub went : WentTo same hash name m known s old new at shown of i u here said leads
  went = to same hash name m known s old new at whole shown of i u here said leads

  abbrev Did : UnderWay K V K → Type 0
  Did x = DidSo same hash name m known s old new at shown of i u here said leads x

  pub stands_moved : (n : ℕ) (st before : Standing K) → went.4.maps2 n ≡ Some st → s.maps n ≡ Some before → StandsMoved same i before st
  stands_moved n st before is was = elim (cases_eq n of) as (λ _. StandsMoved same i before st) [
    | inl e ↦ its e u went.4.did
    | inr ne ↦ stood_moved same i (s.maps n) (went.4.maps2 n) (went.4.others n ne) before st was is
  ]
    where
      moved_on : n ≡ of → (c2 : Chart K) (blocks2 : Blocks) (sights2 : ℕ → Visible) → went.4.maps2 ≡ with_at s.maps of (Some (record went.0 { chart = c2; blocks = blocks2; sights = sights2 }))
          → Moved same went.0.hash went.0.setting.mode i went.0.chart c2 → StandsMoved same i before st
      moved_on e c2 blocks2 sights2 maps_are moved =
          let st_is : st ≡ record went.0 { chart = c2; blocks = blocks2; sights = sights2 } =
          one_of st (record went.0 { chart = c2; blocks = blocks2; sights = sights2 })
          (sym is ∙ ap went.4.maps2 e ∙ ap (λ (f : ℕ → Option (Standing K)). f of) maps_are
          ∙ at_same s.maps of (Some (record went.0 { chart = c2; blocks = blocks2; sights = sights2 })) of refl) in
          let before_is : went.0 ≡ before = one_of went.0 before (sym went.2 ∙ ap s.maps (sym e) ∙ was) in
          subst (λ (x : Standing K). StandsMoved same i x st) before_is
          (record {
            hash = ap (λ (x : Standing K). x.hash) st_is;
            mode = ap (λ (x : Standing K). is_incremental x.setting.mode) st_is;
            moved = subst (Moved same went.0.hash went.0.setting.mode i went.0.chart) (sym (ap (λ (x : Standing K). x.chart) st_is)) moved;
          })

      its : n ≡ of → (x : UnderWay K V K) → Did x → StandsMoved same i before st
      its e (OnKey x) (p2, end, machine_is, told_is, inl (step, moved)) = moved_on e step.step.went.c2 step.step.blocks2 step.step.sights2 moved.1 step.step.went.moved
      its e (OnKey x) (p2, end, machine_is, told_is, inr (row, stayed)) = stood_moved same i (s.maps n) (went.4.maps2 n) (stayed.1 n) before st was is
      its e (ForRoom x) (p2, end, machine_is, told_is, inl (step, moved)) = moved_on e step.step.went.c2 step.step.blocks2 step.step.sights2 moved.1 step.step.went.moved
      its e (ForRoom x) (p2, end, machine_is, told_is, inr (row, stayed)) = stood_moved same i (s.maps n) (went.4.maps2 n) (stayed.1 n) before st was is
      its e (Counting x) (sum2, end, machine_is, told_is, still, stayed) = stood_moved same i (s.maps n) (went.4.maps2 n) (stayed.1 n) before st was is
      its e (OverAll x) (p2, end, machine_is, told_is, inl (step, moved)) = moved_on e step.step.went.c2 step.step.blocks2 step.step.sights2 moved.1 step.step.went.moved
      its e (OverAll x) (p2, end, machine_is, told_is, inr (row, stayed)) = stood_moved same i (s.maps n) (went.4.maps2 n) (stayed.1 n) before st was is

  -- a step of a walk, of its own
  module _ (o : CallOverAll) (o_is : s.calls of i ≡ Some (OverAll o)) (walks : o.sweep.purpose ≡ Walks) (steps : StepsFrom same went.0.hash (kinds.Sweep o.sweep) old new went.1 said)
      (h : KeysOf same went.0 o) (at_first : IsBefore o.sweep.stands → o.done ≡ []) where
    abbrev pub seen : Blocks
    seen = seen_by went.0.blocks (went.0.sights (slot_of i))

    pub are : AreLawful same went.0.hash
    are = (at.together.makings.standing.fit of went.0 went.2).0

    pub each : Together V same went.0.hash same went.0.setting slot_of s.world went.0.chart went.0.blocks went.0.sights (s.calls of)
    each = at.together.makings.standing.each of went.0 went.2

    pub took : (d : Sweep × Swept (Node K V)) × Steps Took value_at s.world.memory (sweep_plan went.0.hash o.sweep) new.memory d × ((went.1, said) ≡ swept d)
    took =
        let d = steps_back swept old.memory new.memory (sweep_plan went.0.hash o.sweep) (went.1, said)
        (as_step old.memory Nothing (machine_plan same same went.0.hash (kinds.Sweep o.sweep)) new.memory new.changed (went.1, said) steps) in (
          d.0,
          subst (λ (x : Mem (Node K V)). Steps Took value_at x (sweep_plan went.0.hash o.sweep) new.memory d.0) (sym at.memory) d.1,
          d.2,
        )

    led : LeadsOn same went.0.hash are went.0.setting (at.together.makings.standing.fit of went.0 went.2).1 slot_of s.world went.0.chart went.0.blocks went.0.sights (s.calls of) each i o o_is walks h.0 at_first
        new.memory took.0 took.1
    led =
        leads_on same went.0.hash are went.0.setting (at.together.makings.standing.fit of went.0 went.2).1 slot_of s.world went.0.chart went.0.blocks went.0.sights (s.calls of) each i o o_is walks h.0 at_first
        new.memory took.0 took.1

    pub said_is : of_swept took.0.1 ≡ said
    said_is = sym (ap (λ z. z.1) took.2)

    pub sweep_is : (x : Sweep) → went.1 ≡ kinds.Sweep x → took.0.0 ≡ x
    sweep_is x is = (let one : kinds.Sweep took.0.0 ≡ kinds.Sweep x = sym (ap (λ z. z.0) took.2) ∙ is in cc one)

    abbrev StaysAt : Sweep → List ℕ → Type 0
    StaysAt x done = KeysAt same (spot_of went.0.hash) (is_incremental went.0.setting.mode) went.0.chart o.began x done x.stands × StandsLow went.0.chart x x.stands

    -- one that shows no pair
    pub none_shown : ShowsNone said → (x : Sweep) → went.1 ≡ kinds.Sweep x → StaysAt x o.done
    none_shown none x is = subst (λ (y : Sweep). StaysAt y o.done) (sweep_is x is) (led.0 (subst ShowsNone (sym said_is) none))

    -- or one
    pub one_shown : (word : ℕ) → said ≡ progress.Pair word → (x : Sweep) → went.1 ≡ kinds.Sweep x → (n : ℕ) × NamesPair went.0.hash went.0.chart seen word n × StaysAt x (n ∷ o.done)
    one_shown word is_pair x is =
        let it = led.1 word (pair_swept word took.0.1 (said_is ∙ is_pair)) in (it.0, it.1, subst (λ (y : Sweep). StaysAt y (it.0 ∷ o.done)) (sweep_is x is) it.2)

    -- in its map as it is then
    pub carried : ((time n : ℕ) → o.began ≤ time → time ≤ went.0.chart.now → went.0.chart.was time n ≡ true → n < went.0.chart.stored) → (st : Standing K) → went.4.maps2 of ≡ Some st
        → (x : Sweep) (done : List ℕ) → AllByRecursion (λ n. n < went.0.chart.stored) done → StaysAt x done
        → KeysAt same (spot_of st.hash) (is_incremental st.setting.mode) st.chart o.began x done x.stands
    carried stored st there x done below stays =
        keys_carried same i went.0 st (stands_moved of st went.0 there went.2) are.lawful each.ground.map.map.rule each.ground.moments o.began
        (since same went.0.hash are went.0.setting (at.together.makings.standing.fit of went.0 went.2).1 slot_of s.world went.0.chart went.0.blocks went.0.sights (s.calls of) each i o o_is) stored done below x
        x.stands stays.1 stays.0

    -- the pairs that it has done have keys
    pub keyed_then : (st : Standing K) → went.4.maps2 of ≡ Some st → (done : List ℕ) → AllByRecursion (λ n. n < went.0.chart.stored) done → AreKeyed went.0.chart done → AreKeyed st.chart done
    keyed_then st there done below keyed =
        keyed_carried same i went.0 st (stands_moved of st went.0 there went.2) are.lawful each.ground.map.map.rule done below keyed

    pub names_keyed : (word n : ℕ) → NamesPair went.0.hash went.0.chart seen word n → (k : K) × (went.0.chart.key n ≡ Some k)
    names_keyed word n (l, known_too, phase, borrowed, is) =
        let shows =
        (its_map same went.0.hash are went.0.setting (at.together.makings.standing.fit of went.0 went.2).1 slot_of s.world went.0.chart went.0.blocks went.0.sights (s.calls of) each i o o_is).map.shows.pairs
        n l known_too in (shows.0, shows.3)

-- A step of a call: where it can have no further table after it, one of its map's is at the limit, or was; and what it is refused for.
use Rattle.std.specs.Prelude.{◌≡◌, ◌⊎◌, ◌≤◌, ◌^◌, ℕ, Bool, false, List, Option, Some, Result, Ok, Err, IfOk}
use Rattle.std.proofs.Common.{refl, sym, subst, ◌∙◌, inl, inr, arith}
use Rattle.run_finds.specs.Given.SeizeWordsMem.{Mem, Took, value_at}
use Rattle.run_finds.specs.Given.SeizeWordsPlan.{Steps}
use Rattle.run_finds.specs.Given.SeizeWordsDeclared.fault.Fault.{Fault}
use Rattle.run_finds.specs.Given.SeizeWordsDeclared.fault.Fault.TheVariants.{Capacity}
use Rattle.papaya_raw.specs.Given.TablesLengths.{entries_of, places_for}
use Rattle.papaya_raw.specs.Given.TablesPowers.{next_power}
use Rattle.papaya_raw.specs.Given.TablesDeclared.node.Node.{Node}
use Rattle.papaya_raw.specs.Machine.{machine_plan}
use Rattle.papaya_raw.specs.declared.machines.machine.Machine.{Machine}
use Rattle.papaya_raw.specs.declared.machines.machine.Machine.TheVariants as kinds
use Rattle.papaya_raw.specs.declared.machines.progress.Progress.{Progress}
use Rattle.papaya_raw.specs.declared.machines.progress.Progress.TheVariants as progress
use Rattle.run_schedules.specs.Schedules.Effects.{with_effects}
use Rattle.run_schedules.specs.Schedules.Growing.{Has}
use Rattle.run_schedules.specs.Schedules.Moment.{Moment, UnderWay as CallThere}
use Rattle.run_schedules.specs.Schedules.Views.{call_of, capacity_or, map_at}
use Rattle.run_finds.specs.Given.EffectsDeclared.changed.Changed.{Changed}
use Rattle.run_finds.specs.Given.EffectsDeclared.changed.Changed.TheVariants as changed
use Rattle.run_finds.specs.Given.CallersTogether.{Together, UnderWay}
use Rattle.run_finds.specs.Given.EffectsEffects.{effects_of}
use Rattle.run_finds.specs.Given.EffectsKnown.{Known}
use Rattle.run_finds.specs.Given.EffectsDeclared.acting.Acting.TheVariants as acts
use Rattle.papaya_raw.proofs.Given.TablesTableLens.{if_few-holds, next-power-most}
use Rattle.run_finds.specs.Given.FinishesMachines.{ContinuesAs, machine_of}
use Rattle.run_finds.specs.Given.FinishesMaps.{Standing}
use Rattle.run_finds.proofs.Given.FollowsSteps.{WentTo, went_to}
use Rattle.run_finds.specs.Given.MomentsWhole.{RefinesWhole}
use Rattle.run_finds.specs.Capacities.{RefinesCapacities}
use Rattle.run_grows.specs.Grows.Limits.{HasLimit, MachineEnds, OthersHadLimit, SaysFor, RefinesLimits}
use Rattle.run_grows.proofs.Grows.Finding.Making.Unpromoted.{OffRoot, off_promotes_none}
use Rattle.run_grows.proofs.Grows.Limits.Chain.{effects_keep_limit}
use Rattle.run_grows.proofs.Grows.Limits.Last.{LastIsFor, limit_there}
use Rattle.run_grows.proofs.Grows.Limits.Mays.{under_may}
use Rattle.run_grows.proofs.Grows.Limits.Off.{machine_off}
use Rattle.run_grows.proofs.Grows.Limits.Shows.{AnyPairs, Of, So, asked, more, replies, so_where}
use Rattle.run_grows.proofs.Grows.Limits.Walk.{EndsThen, MachineMayEnd, SummedIn, WhyOf, machine_ends, machine_for, machine_on}
use Rattle.run_grows.proofs.Grows.Since as since
use Rattle.run_finds.proofs.Given.ScenesTold.{as_step}
use Rattle.run_finds.specs.Given.ScenesHeld.{Held, IsAt}
use Rattle.run_finds.specs.Given.ScenesScene.{Scene, slot_of}
use Rattle.run_finds.specs.Given.ScenesStepping.{StepLeads, has_ended, scene_after}
use Rattle.run_schedules.specs.Schedules.Transition.{Past}

-- a map is made with no more places than a table can have
entries_few : (pairs initial : ℕ) → Has (entries_of pairs) initial → initial ≤ 2 ^ 48
entries_few pairs initial has = by (entries_of pairs) (if_few-holds (places_for pairs) (next_power (places_for pairs)) (λ len. len ≤ 2 ^ 48) (λ few. next-power-most (places_for pairs) few)) has
  where
    by : (r : Result ℕ Fault) → IfOk r (λ len. len ≤ 2 ^ 48) → Has r initial → initial ≤ 2 ^ 48
    by (Ok len) few is = omega (arith, few, is)
    by (Err fault) few is = absurd is

-- one that goes on has not ended
goes_yet : {K V : Type 0} (machine : Machine K V K) (said : Progress (Node K V)) (next : Option (UnderWay K V K)) → ContinuesAs machine said next → (x : UnderWay K V K) → next ≡ Some x → has_ended said ≡ false
goes_yet machine (progress.Done answer) next goes x is = absurd (let none = sym goes ∙ is in cc none)
goes_yet machine (progress.Refused fault) next goes x is = absurd (let none = sym goes ∙ is in cc none)
goes_yet machine _ next goes x is = refl

module _ {K V : Type 0} (same : K → K → Bool) (hash : ℕ → K → ℕ) (name : ℕ → List ℕ) (log : Past K V) (m : Moment K V) (known : Known) (s : Scene K V) (old new : Held K V) (at : IsAt same hash old s)
    (whole : RefinesWhole same name m known s) (map i : ℕ) (u : UnderWay K V K) (here : s.calls map i ≡ Some u) (said : Progress (Node K V)) (leads : StepLeads same hash i said s old new) where
  abbrev to : WentTo same hash name m known s old new at whole.all.shown map i u here said leads
  to = went_to same hash name m known s old new at whole.all.shown map i u here said leads

  abbrev st : Standing K
  st = to.0

  abbrev step_told : Changed
  step_told = new.changed

  abbrev v : Moment K V
  v = with_effects (Some (name i)) (Some map) (effects_of (acts.Call i map) known step_told) m

  abbrev led : Scene K V
  led = scene_after same s old new map i st u to.1 said to.4

  -- others are as they were
  pub limits_others : OthersHadLimit name log i m s → OthersHadLimit name log i v led
  limits_others others = since.others_go_on (Of K V) (more K V) (replies K V) (asked K V) (So K V) (AnyPairs K V) (λ m v pairs. tt) (so_where K V) same hash name log m known s old new at whole map i u here said leads others

  module _ (limits : RefinesLimits name log m s) (capacities : RefinesCapacities m s) (c : CallThere K V) (c_is : call_of (name i) m ≡ Some c) where
    abbrev Before : Type 0
    Before = HasLimit map c.begun log m

    abbrev After : Type 0
    After = HasLimit map c.begun log v

    -- or it has come to a count by which it needs too many places
    abbrev pub Summed : Type 0
    Summed = SummedIn old.memory new.memory (machine_of u)

    abbrev end : Machine K V K × Progress (Node K V)
    end = (to.1, said)

    follow : OffRoot step_told → Before → After
    follow off (inl had) = inl had
    follow off (inr now) = inr (effects_keep_limit (Some (name i)) (Some map) (effects_of (acts.Call i map) known step_told) m map (off_promotes_none i map known step_told off) now)

    follow_all : OffRoot step_told → Before ⊎ Summed → After ⊎ Summed
    follow_all off (inl before) = inl (follow off before)
    follow_all off (inr summed) = inr summed

    step : Steps Took value_at old.memory (machine_plan same same to.0.hash (machine_of u)) new.memory end
    step = as_step old.memory changed.Nothing (machine_plan same same to.0.hash (machine_of u)) new.memory step_told end to.3

    abbrev each : Together V same st.hash same st.setting slot_of s.world st.chart st.blocks st.sights (s.calls map)
    each = at.together.makings.standing.each map st to.2

    last : LastIsFor same st.hash st.setting s.world st.chart st.blocks each.ground.map Before
    last t from made sized none = inr (limit_there map (whole.all.shown.number map) st m known (whole.all.shown.maps map st to.2) t from made sized none)

    may : MachineMayEnd (Before ⊎ Summed) K V K old.memory new.memory (machine_of u)
    may =
        subst (λ (q : Mem (Node K V)). MachineMayEnd (Before ⊎ SummedIn q new.memory (machine_of u)) K V K q new.memory (machine_of u)) at.memory
        (under_may Before same hash s old at map i st to.2 (entries_few (capacity_or (map_at map m)) st.setting.initial (capacities map st to.2)) last new.memory u here)

    -- by the moment before the step
    comes : EndsThen (Before ⊎ Summed) K V K old.memory new.memory (machine_of u) end
    comes =
        machine_ends (Before ⊎ Summed) K V K old.memory new.memory same same to.0.hash (machine_of u) (machine_for Before (Before ⊎ Summed) (λ before. inl before) (machine_of u) (limits map i u here c c_is)) may end step

    -- and by that after it
    own_ends : (x : UnderWay K V K) → to.4.next ≡ Some x → MachineEnds After to.1
    own_ends x is = elim (machine_off old.memory new.memory step_told to.0.hash After same same (machine_of u) end to.3) as (λ _. MachineEnds After to.1) [
      | inl free ↦ free.0
      | inr off ↦
          machine_for Before After (follow off) to.1
          (machine_on Before K V K old.memory new.memory same same to.0.hash (machine_of u) end step comes.0 (goes_yet to.1 said to.4.next to.4.goes_on x is))
    ]

    pub limits_go_on : OthersHadLimit name log i m s → RefinesLimits name log v led
    limits_go_on others =
        since.so_go_on (Of K V) (more K V) (replies K V) (asked K V) (So K V) (AnyPairs K V) (λ m v pairs. tt) (so_where K V) same hash name log m known s old new at whole map i u here said leads others c c_is own_ends

    why_more : OffRoot step_told → (machine : Machine K V K) → WhyOf (Before ⊎ Summed) K V K old.memory new.memory machine → WhyOf (After ⊎ Summed) K V K old.memory new.memory machine
    why_more off (kinds.Key p) why = follow_all off why
    why_more off (kinds.Sweep p) why = follow_all off why
    why_more off (kinds.Count sum) why = follow_all off why
    why_more off (kinds.Reserve r) (inl why) = inl (follow_all off why)
    why_more off (kinds.Reserve r) (inr needs) = inr needs

    said_as : (W : Type 0) → said ≡ progress.Refused Capacity → SaysFor W said → W
    said_as W is says = (subst (λ (p : Progress (Node K V)). SaysFor W p) is says) refl

    -- The promise: it is refused for the length of a table for this alone.
    pub refused_for : said ≡ progress.Refused Capacity → WhyOf (After ⊎ Summed) K V K old.memory new.memory (machine_of u)
    refused_for is = elim (machine_off old.memory new.memory step_told to.0.hash (After ⊎ Summed) same same (machine_of u) end to.3) as
        (λ _. WhyOf (After ⊎ Summed) K V K old.memory new.memory (machine_of u)) [
          | inl free ↦ said_as (WhyOf (After ⊎ Summed) K V K old.memory new.memory (machine_of u)) is free.1
          | inr off ↦ why_more off (machine_of u) (said_as (WhyOf (Before ⊎ Summed) K V K old.memory new.memory (machine_of u)) is comes.1)
        ]

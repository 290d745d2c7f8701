-- A step of a call, whichever it is: each call on one key that makes a table after it has what it stores; and one that makes a block in it may ask for that.
use Rattle.std.specs.Prelude.{◌≡◌, ℕ, ◌≤◌, Bool, true, List, [], ◌∷◌, Some}
use Rattle.std.proofs.Common.{ap, sym, subst, ◌∙◌, inl, inr, arith}
use Rattle.run_executor.specs.Given.SeizeWordsMem.{Mem}
use Rattle.run_blocks.specs.Given.TablesDeclared.node.Node.{Node}
use Rattle.run_executor.specs.Given.RawCall.{call_plan}
use Rattle.run_executor.specs.Given.RawMachine.{machine_plan, called as of_key, reserved as of_room, swept as of_sweep, counted as of_sum}
use Rattle.run_executor.specs.Given.RawDeclared.machines.answer.Called.{Called}
use Rattle.run_executor.specs.Given.RawDeclared.machines.call.KeyCall.{KeyCall}
use Rattle.run_executor.specs.Given.RawDeclared.machines.machine.Machine.{Machine}
use Rattle.run_executor.specs.Given.RawDeclared.machines.machine.Machine.TheVariants as kinds
use Rattle.run_executor.specs.Given.RawDeclared.machines.progress.Progress.{Progress}
use Rattle.run_executor.specs.Given.ReservesReserve.{reserve_plan}
use Rattle.run_blocks.specs.Given.ResizeSum.{sum_plan}
use Rattle.run_blocks.specs.Given.ResizeDeclared.new_table.NewTable.{NewTable}
use Rattle.run_executor.specs.Given.SweepsSweep.{sweep_plan}
use Rattle.run_executor.specs.Given.RunsDeclared.effect.Effect.{Effect}
use Rattle.run_executor.specs.Given.SchedulesEffects.{with_effect, with_effects}
use Rattle.run_executor.specs.Given.SchedulesGrowing.{has_value_for}
use Rattle.run_executor.specs.Given.SchedulesMoment.{UnderWay as CallThere, Moment}
use Rattle.run_executor.specs.Given.SchedulesTerms.{Terms}
use Rattle.run_executor.specs.Given.SchedulesViews.{call_of}
use Rattle.run_executor.specs.Given.TellerTells.{StepsObserved}
use Rattle.run_executor.specs.Given.EffectsDeclared.changed.Changed.{Changed}
use Rattle.run_executor.specs.Given.EffectsDeclared.changed.Changed.TheVariants as changed
use Rattle.run_executor.specs.Given.PointsFactsCalls.{IsCopying}
use Rattle.run_executor.specs.Given.CallersSights.{seen_by}
use Rattle.run_executor.specs.Given.CallersTogether.{CallOnKey, UnderWay, OnKey, ForRoom, Counting, OverAll, Together}
use Rattle.run_executor.specs.Given.EffectsEffects.{effects_of}
use Rattle.run_executor.specs.Given.EffectsKnown.{Known}
use Rattle.run_executor.specs.Given.EffectsDeclared.acting.Acting.{Acting}
use Rattle.run_executor.specs.Given.EffectsDeclared.acting.Acting.TheVariants as acts
use Rattle.run_executor.specs.Given.FinishesMachines.{machine_of}
use Rattle.run_executor.specs.Given.FinishesMaps.{Standing}
use Rattle.run_executor.specs.Given.FollowsCalls.{IsCalled}
use Rattle.run_executor.specs.Given.HandsAsked.{IsAskedAs}
use Rattle.run_executor.proofs.Given.FollowsFinds.{tables_many}
use Rattle.run_executor.proofs.Given.FollowsSteps.{WentTo, went_to}
use Rattle.run_executor.proofs.Given.HandsAsking.{which}
use Rattle.run_executor.specs.Given.MomentsWhole.{RefinesWhole}
use Rattle.run_executor.proofs.Given.OthersOutcomes.{told_in}
use Rattle.run_blocks.proofs.Owes.Machines.{call_none}
use Rattle.run_blocks.proofs.Owes.Valued.{call_valued, row_no_own, knows_given}
use Rattle.run_blocks.proofs.Owes.Walks.{IsToOwn, call_makes}
use Rattle.run_blocks.specs.Owes.Making.{making_in_calling}
use Rattle.run_finds.specs.Growing.{GrowsAt, RefinesGrowing, FindAsked, CallsPreserveGrowing, KeyCallsMayAsk, TablesHaveBeen}
use Rattle.run_finds.specs.Within.{many_of}
use Rattle.run_finds.proofs.Grown.{many_grow}
use Rattle.run_finds.proofs.Grows.Asked.{Asks, asks_some, made_of, may_ask}
use Rattle.run_finds.proofs.Grows.Given.{called_valued, knows_for_none}
use Rattle.run_finds.proofs.Grows.On.{TableTells, grows_later, step_grows}
use Rattle.run_finds.proofs.Grows.There.{table_tells, row_tells}
use Rattle.run_finds.proofs.Joined.{valued_grows}
use Rattle.run_executor.specs.Given.ScenesHeld.{Held, IsAt}
use Rattle.run_executor.specs.Given.ScenesScene.{Scene, slot_of}
use Rattle.run_executor.specs.Given.ScenesStepping.{StepLeads, StepsFrom, scene_after}
use Rattle.run_blocks.proofs.Given.SettlesCalls.{goes_as_one}

-- A map has had no fewer tables after any effects.
pub tables_have_been : (K V : Type 0) → TablesHaveBeen K V
tables_have_been K V caller acted [] m map = omega arith
tables_have_been K V caller acted (f ∷ effects) m map =
    let one = many_grow caller acted m f map in let rest = tables_have_been K V caller acted effects (with_effect caller acted f m) map in omega (arith, one, rest)

module _ {K V : Type 0} (same : K → K → Bool) (hash : ℕ → K → ℕ) (name : ℕ → List ℕ) (m : Moment K V) (known : Known) (s : Scene K V) (old new : Held K V) (at : IsAt same hash old s)
    (whole : RefinesWhole same name m known s) (growing : RefinesGrowing m s) (map i : ℕ) (u : UnderWay K V K) (here : s.calls map i ≡ Some u) (said : Progress (Node K V))
    (leads : StepLeads same hash i said s old new) where
  abbrev to : WentTo same hash name m known s old new at whole.all.shown map i u here said leads
  to = went_to same hash name m known s old new at whole.all.shown map i u here said leads

  abbrev st : Standing K
  st = to.0

  abbrev told : Changed
  told = new.changed

  abbrev its : Acting
  its = acts.Call i map

  abbrev effects : List Effect
  effects = effects_of its known told

  abbrev v : Moment K V
  v = with_effects (Some (name i)) (Some map) effects m

  abbrev led : Scene K V
  led = scene_after same s old new map i st u to.1 said to.4

  each : Together V same st.hash same st.setting slot_of s.world st.chart st.blocks st.sights (s.calls map)
  each = at.together.makings.standing.each map st to.2

  many_now : st.chart.past ≡ many_of map m
  many_now = tables_many map (whole.all.shown.number map) st m known (whole.all.shown.maps map st to.2)

  later : (of : ℕ) → many_of of m ≤ many_of of v
  later of = tables_have_been K V (Some (name i)) (Some map) effects m of

  -- of a call on one key
  module _ (x : CallOnKey K V K) (is : s.calls map i ≡ Some (OnKey x)) where
    abbrev Stepped : Type 0
    Stepped = StepsObserved K V (Machine K V K × Progress (Node K V)) old.memory changed.Nothing (machine_plan same same to.0.hash (kinds.Key x.call)) new.memory told (to.1, said)

    its_table : TableTells (many_of map m) x.call old.memory x.call.stands
    its_table = subst (λ (n : ℕ). TableTells n x.call old.memory x.call.stands) many_now
        (subst (λ (n : Mem (Node K V)). TableTells st.chart.past x.call n x.call.stands) at.memory
        (elim (each.stand i (OnKey x) is) as (λ _. TableTells st.chart.past x.call s.world.memory x.call.stands) [
          | inl k ↦ table_tells same st.hash st.setting slot_of s.world st.chart st.blocks (st.sights (slot_of i)) each.ground.map (each.ground.sight (slot_of i) (each.inside i (OnKey x) is)).0 i x x.call k.1
          | inr k ↦ row_tells st.chart.past x.call s.world.memory x.call.stands k.1
        ]))

    abbrev Came : KeyCall K V K → Type 0
    Came q = GrowsAt (many_of map v) q q.stands

    -- as another machine
    key_grows : Stepped → (y : CallOnKey K V K) → ◌≡◌ {A = Machine K V K} (kinds.Key y.call) to.1 → Came y.call
    key_grows steps y machine_is =
        let it = told_in old.memory new.memory told of_key (call_plan same same to.0.hash x.call) (to.1, said) steps in
        let machine : ◌≡◌ {A = Machine K V K} (kinds.Key y.call) (kinds.Key it.0.0) = machine_is ∙ ap (λ (q : Machine K V K × Progress (Node K V)). q.0) it.1 in
        let one : it.0.0 ≡ y.call = cc machine in
        subst Came one
        (step_grows (many_of map v) (many_of map m) (later map) same same to.0.hash x.call old.memory new.memory told it.0 (growing map i x is) its_table it.2)

    -- what it makes it has a value for
    module _ (steps : Stepped) (asks : Asks told) (copies_none : IsCopying x.call.stands → ⊥) (c : CallThere K V) (c_is : call_of (name i) m ≡ Some c) (its_call : IsCalled same (OnKey x) c.call) where
      abbrev Valued : Type 0
      Valued = has_value_for c.call c ≡ true

      it : (r : KeyCall K V K × Called (Node K V)) × (◌≡◌ {A = Machine K V K × Progress (Node K V)} (to.1, said) (of_key r))
          × StepsObserved K V (KeyCall K V K × Called (Node K V)) old.memory changed.Nothing (call_plan same same to.0.hash x.call) new.memory told r
      it = told_in old.memory new.memory told of_key (call_plan same same to.0.hash x.call) (to.1, said) steps

      asked_as : IsAskedAs (whole.all.shown.number map) st.chart.stored known x c.call c
      asked_as = whole.all.asked.each map i (OnKey x) is st to.2 c c_is

      own_valued : IsToOwn x.call.stands → Valued
      own_valued own = elim (each.stand i (OnKey x) is) as (λ _. Valued) [
        | inl k ↦
            call_valued same (whole.all.shown.number map) st.chart.stored known x c c.call its_call asked_as
            (knows_given same st.hash st.setting slot_of s.world st.chart (seen_by st.blocks (st.sights (slot_of i))) i x x.call k.1 own to.0.hash old.memory new.memory told it.0
            (asks_some told asks) it.2)
        | inr k ↦ absurd (row_no_own x.call.stands k.1 own)
      ]

      table_valued : (n : NewTable) → making_in_calling x.call.stands ≡ Some n → Valued
      table_valued n making_is = elim (each.stand i (OnKey x) is) as (λ _. Valued) [
        | inl k ↦
            called_valued same (whole.all.shown.number map) st.chart.stored known x c c.call its_call asked_as
            (knows_for_none same st.hash st.setting slot_of s.world st.chart (seen_by st.blocks (st.sights (slot_of i))) i x x.call k.1 (many_of map m) (growing map i x is) n making_is copies_none)
        | inr k ↦ absurd (let none = call_none x.call.stands k.1 in cc (none, making_is))
      ]

      key_valued : Valued
      key_valued = elim (call_makes same same to.0.hash x.call) as (λ _. Valued) [
        | inl own ↦ own_valued own
        | inr so ↦
            let n = made_of (making_in_calling x.call.stands) old.memory new.memory told (call_plan same same to.0.hash x.call) it.0 it.2 so asks in table_valued n.0 n.1
      ]

    -- so each of its effects that asks for a block may
    pub key_may_ask : Stepped → (IsCopying x.call.stands → ⊥) → (terms : Terms) (moments : List (Moment K V)) → FindAsked terms moments (name i) map effects m
    key_may_ask steps copies_none terms moments =
        let c = whole.all.shown.calls map i (OnKey x) is in
        may_ask same hash name m known s old new at whole map i u here said leads terms moments c.0 c.1
        (λ asks. valued_grows terms (m ∷ moments) c.0.call c.0 (key_valued steps asks copies_none c.0 c.1 c.3))

  -- each call on one key after it: a call of another kind is none

  came : (x : UnderWay K V K) → s.calls map i ≡ Some x → StepsFrom same to.0.hash (machine_of x) old new to.1 said → (y : CallOnKey K V K) → ◌≡◌ {A = Machine K V K} (kinds.Key y.call) to.1
      → GrowsAt (many_of map v) y.call y.call.stands
  came (OnKey x) is steps y machine_is = key_grows x is steps y machine_is
  came (ForRoom r) is steps y machine_is = absurd (
      let it = told_in old.memory new.memory told of_room (reserve_plan to.0.hash r.reserve) (to.1, said) steps in
      let no : ◌≡◌ {A = Machine K V K} (kinds.Key y.call) (kinds.Reserve it.0.0) = machine_is ∙ ap (λ (q : Machine K V K × Progress (Node K V)). q.0) it.1 in
      cc no
      )
  came (Counting sum) is steps y machine_is = absurd (
      let it = told_in old.memory new.memory told of_sum (sum_plan sum) (to.1, said) steps in
      let no : ◌≡◌ {A = Machine K V K} (kinds.Key y.call) (kinds.Count it.0.0) = machine_is ∙ ap (λ (q : Machine K V K × Progress (Node K V)). q.0) it.1 in
      cc no
      )
  came (OverAll o) is steps y machine_is = absurd (
      let it = told_in old.memory new.memory told of_sweep (sweep_plan to.0.hash o.sweep) (to.1, said) steps in
      let no : ◌≡◌ {A = Machine K V K} (kinds.Key y.call) (kinds.Sweep it.0.0) = machine_is ∙ ap (λ (q : Machine K V K × Progress (Node K V)). q.0) it.1 in
      cc no
      )

  pub growing_then : RefinesGrowing v led
  growing_then n j y is = elim (which s.calls map i to.4.next n j (OnKey y) is) as (λ _. GrowsAt (many_of n v) y.call y.call.stands) [
    | inl it ↦
        subst (λ (k : ℕ). GrowsAt (many_of k v) y.call y.call.stands) (sym it.0) (came u here to.3 y (goes_as_one to.1 said to.4.next to.4.goes_on (OnKey y) it.2))
    | inr was ↦ grows_later (many_of n v) (many_of n m) (later n) y.call y.call.stands (growing n j y was.1)
  ]

pub calls_keep_growing : (K V : Type 0) (same : K → K → Bool) (hash : ℕ → K → ℕ) → CallsPreserveGrowing K V same hash
calls_keep_growing K V same hash name m known s old new at whole growing map i u here said leads = growing_then same hash name m known s old new at whole growing map i u here said leads

pub key_calls_may_ask : (K V : Type 0) (same : K → K → Bool) (hash : ℕ → K → ℕ) → KeyCallsMayAsk K V same hash
key_calls_may_ask K V same hash name m known s old new at whole growing map i u here said leads copies_none terms moments =
    key_may_ask same hash name m known s old new at whole growing map i (OnKey u) here said leads u here (leads map (OnKey u) here).3 copies_none terms moments

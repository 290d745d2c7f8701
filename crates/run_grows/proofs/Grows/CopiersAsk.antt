-- A call that copies pairs may ask for each block that it makes, as its map has a second table.
use Rattle.std.specs.Prelude.{◌≡◌, ℕ, Bool, List, ◌∷◌, Some}
use Rattle.std.proofs.Common.{refl, sym, subst, ◌∙◌, inl, inr}
use Rattle.papaya_raw.specs.Given.TablesDeclared.node.Node.{Node}
use Rattle.papaya_raw.specs.Call.{call_plan}
use Rattle.papaya_raw.specs.Machine.{called as of_key, swept as of_sweep}
use Rattle.papaya_raw.specs.declared.machines.call.Calling.{Calling}
use Rattle.papaya_raw.specs.declared.machines.call.Calling.TheVariants as calling
use Rattle.papaya_raw.specs.declared.machines.progress.Progress.{Progress}
use Rattle.run_finds.specs.Given.ResizeDeclared.new_table.NewTable.{NewTable}
use Rattle.papaya_raw.specs.Given.SweepsSweep.{sweep_plan}
use Rattle.run_schedules.specs.declared.call.Call.{Call}
use Rattle.run_schedules.specs.declared.call.Call.TheVariants as call
use Rattle.run_schedules.specs.Schedules.Growing.{HasNext, MayGrow}
use Rattle.run_schedules.specs.Schedules.Lists.{OneOf}
use Rattle.run_schedules.specs.Schedules.Moment.{UnderWay as CallThere, Moment}
use Rattle.run_schedules.specs.Schedules.Terms.{Terms}
use Rattle.run_schedules.specs.Schedules.Views.{call_of}
use Rattle.run_finds.specs.Given.EffectsDeclared.changed.Changed.{Changed}
use Rattle.run_finds.specs.Given.PointsFactsCalls.{IsCopying}
use Rattle.run_finds.specs.Given.CallersOverAll.{CallOverAll}
use Rattle.run_finds.specs.Given.CallersTogether.{CallOnKey, UnderWay, OnKey, ForRoom, Counting, OverAll}
use Rattle.run_finds.specs.Given.EffectsKnown.{Known}
use Rattle.run_finds.specs.Given.FinishesMachines.{machine_of}
use Rattle.run_finds.specs.Given.FollowsCalls.{IsCalled}
use Rattle.run_finds.proofs.Given.FollowsSteps.{WentTo, went_to}
use Rattle.run_finds.specs.Given.MomentsWhole.{RefinesWhole}
use Rattle.run_finds.proofs.Given.OthersOutcomes.{told_in}
use Rattle.run_kept.specs.Given.OwesMaking.{making_in_calling, making_in_sweeping}
use Rattle.run_kept.proofs.Given.OwesWalks.{IsToOwn, call_makes, sweep_makes}
use Rattle.run_grows.specs.Grows.Copiers.{copier_in_calling, making_of_copier, MakesByCopier, CopiersMayAsk}
use Rattle.run_finds.proofs.Grows.Asked.{Asks, made_of, may_ask}
use Rattle.run_finds.specs.Given.ScenesHeld.{Held, IsAt}
use Rattle.run_finds.specs.Given.ScenesScene.{Scene}
use Rattle.run_finds.specs.Given.ScenesStepping.{StepLeads, StepsFrom}

-- a call that copies makes no block for a pair, and no table but its copier's

copies_no_own : (q : Calling) → IsCopying q → IsToOwn q → ⊥
copies_no_own (calling.Helps copier goal) copies own = own
copies_no_own (calling.Copies copier) copies own = own
copies_no_own _ copies own = copies

call_of_copier : (q : Calling) → IsCopying q → copier_in_calling q ≡ making_in_calling q
call_of_copier (calling.Helps copier goal) copies = refl
call_of_copier (calling.Copies copier) copies = refl
call_of_copier _ copies = absurd copies

-- such a call makes no room
abbrev IsNoReservation : {K V : Type 0} → Call K V → Type 0
IsNoReservation (call.Reserve more) = ⊥
IsNoReservation _ = Unit {0}

module _ {K V : Type 0} (same : K → K → Bool) where
  no_reservation : (u : UnderWay K V K) → MakesByCopier u → (its : Call K V) → IsCalled same u its → IsNoReservation its
  no_reservation (OnKey x) copies (call.Reserve more) is = absurd is
  no_reservation (OnKey x) copies _ is = tt
  no_reservation (OverAll o) copies (call.Reserve more) is = absurd is
  no_reservation (OverAll o) copies _ is = tt
  no_reservation (ForRoom r) copies its is = absurd copies
  no_reservation (Counting sum) copies its is = absurd copies

next_grows : {K V : Type 0} (terms : Terms) (m : Moment K V) (moments : List (Moment K V)) (its : Call K V) (c : CallThere K V) → IsNoReservation its → OneOf (HasNext c.map) (m ∷ moments) → MayGrow terms its c (m ∷ moments)
next_grows terms m moments (call.Reserve more) c none next = absurd none
next_grows terms m moments _ c none next = inr next

module _ {K V : Type 0} (same : K → K → Bool) (hash : ℕ → K → ℕ) (name : ℕ → List ℕ) (m : Moment K V) (known : Known) (s : Scene K V) (old new : Held K V) (at : IsAt same hash old s)
    (whole : RefinesWhole same name m known s) (map i : ℕ) (u : UnderWay K V K) (here : s.calls map i ≡ Some u) (said : Progress (Node K V)) (leads : StepLeads same hash i said s old new) where
  abbrev to : WentTo same hash name m known s old new at whole.all.shown map i u here said leads
  to = went_to same hash name m known s old new at whole.all.shown map i u here said leads

  abbrev told : Changed
  told = new.changed

  -- its copier has a table to make
  abbrev HasMaking : UnderWay K V K → Type 0
  HasMaking x = (n : NewTable) × (making_of_copier (machine_of x) ≡ Some n)

  abbrev Stepped : UnderWay K V K → Type 0
  Stepped x = StepsFrom same to.0.hash (machine_of x) old new to.1 said

  key_making : (x : CallOnKey K V K) → IsCopying x.call.stands → Stepped (OnKey x) → Asks told → HasMaking (OnKey x)
  key_making x copies steps asks =
      let it = told_in old.memory new.memory told of_key (call_plan same same to.0.hash x.call) (to.1, said) steps in
      elim (call_makes same same to.0.hash x.call) as (λ _. HasMaking (OnKey x)) [
        | inl own ↦ absurd (copies_no_own x.call.stands copies own)
        | inr so ↦
            let n = made_of (making_in_calling x.call.stands) old.memory new.memory told (call_plan same same to.0.hash x.call) it.0 it.2 so asks in
            (n.0, call_of_copier x.call.stands copies ∙ n.1)
      ]

  sweep_making : (o : CallOverAll) → Stepped (OverAll o) → Asks told → HasMaking (OverAll o)
  sweep_making o steps asks =
      let it = told_in old.memory new.memory told of_sweep (sweep_plan to.0.hash o.sweep) (to.1, said) steps in
      made_of (making_in_sweeping o.sweep.stands) old.memory new.memory told (sweep_plan to.0.hash o.sweep) it.0 it.2 (sweep_makes K V to.0.hash o.sweep) asks

  making_by : (x : UnderWay K V K) → MakesByCopier x → Stepped x → Asks told → HasMaking x
  making_by (OnKey x) copies steps asks = key_making x copies steps asks
  making_by (OverAll o) copies steps asks = sweep_making o steps asks
  making_by (ForRoom r) copies steps asks = absurd copies
  making_by (Counting sum) copies steps asks = absurd copies

  module _ (copies : MakesByCopier u) (terms : Terms) (moments : List (Moment K V)) (nexts : (n : NewTable) → making_of_copier (machine_of u) ≡ Some n → OneOf (HasNext map) (m ∷ moments)) where
    abbrev its_call : (c : CallThere K V) × (call_of (name i) m ≡ Some c) × (c.map ≡ map) × IsCalled same u c.call
    its_call = whole.all.shown.calls map i u here

    has_next : Asks told → OneOf (HasNext map) (m ∷ moments)
    has_next asks = let n = making_by u copies to.3 asks in nexts n.0 n.1

    may_grow : Asks told → MayGrow terms its_call.0.call its_call.0 (m ∷ moments)
    may_grow asks =
        next_grows terms m moments its_call.0.call its_call.0 (no_reservation same u copies its_call.0.call its_call.3) (subst (λ (k : ℕ). OneOf (HasNext k) (m ∷ moments)) (sym its_call.2) (has_next asks))

pub copiers_may_ask : (K V : Type 0) (same : K → K → Bool) (hash : ℕ → K → ℕ) → CopiersMayAsk K V same hash
copiers_may_ask K V same hash name m known s old new at whole map i u here said leads copies terms moments nexts =
    let c = whole.all.shown.calls map i u here in
    may_ask same hash name m known s old new at whole map i u here said leads terms moments c.0 c.1
    (may_grow same hash name m known s old new at whole map i u here said leads copies terms moments nexts)

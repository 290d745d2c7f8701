-- The copier within a call is there still once that is told something, or asked for a pair, and such a call is not given up.
use Rattle.std.specs.Prelude.{Option, Some, None}
use Rattle.std.proofs.Common.{◌≡◌, Bool, true, false, refl, ap, sym, ◌∙◌}
use Rattle.run_shows.specs.Given.ReservesDeclared.sweep.Sweep.{Sweep}
use Rattle.run_shows.specs.Given.ReservesDeclared.sweep.Sweeping.{Sweeping}
use Rattle.run_shows.specs.Given.ReservesDeclared.sweep.Sweeping.TheVariants as sweeping
use Rattle.run_shows.specs.Given.SweepsSweepPoints.{next_at}
use Rattle.run_shows.specs.Given.ResizeDeclared.copier.Copier.{Copier}
use Rattle.run_shows.specs.Given.RawCallAsks.{replied_at}
use Rattle.run_shows.specs.Given.RawMachine.{is_ready, machine_asked, machine_replied, sweep_with_reply}
use Rattle.run_shows.specs.Given.RawDeclared.machines.asking.MachineReply.{MachineReply}
use Rattle.run_shows.specs.Given.RawDeclared.machines.call.Calling.{Calling}
use Rattle.run_shows.specs.Given.RawDeclared.machines.call.Calling.TheVariants as calling
use Rattle.run_shows.specs.Given.RawDeclared.machines.call.KeyCall.{KeyCall}
use Rattle.run_shows.specs.Given.RawDeclared.machines.machine.Machine.{Machine}
use Rattle.run_shows.specs.Given.RawDeclared.machines.machine.Machine.TheVariants as kinds
use Rattle.owner_facts.specs.Given.CallersTogether.{UnderWay, OnKey, ForRoom, Counting, OverAll}
use Rattle.owner_facts.specs.Given.FinishesMachines.{machine_of}
use Rattle.many_acts.specs.Carries.Theirs.{copier_of_call, copier_of_room, copier_of_sweep, copier_of}
use Rattle.run_shows.specs.Scenes.Replying.{unless_stopped}

-- a sweep that copies asks nothing, and is not ready
module _ (p : Copier) where
  of_sweep_told : {V : Type 0} (stands : Sweeping) (c : Sweep) (reply : MachineReply V) → c.stands ≡ stands → copier_of_sweep stands ≡ Some p → copier_of_sweep (sweep_with_reply stands c reply).0.stands ≡ Some p
  of_sweep_told (sweeping.Copies copier) c reply is has = ap (λ (x : Sweeping). copier_of_sweep x) is ∙ has
  of_sweep_told _ c reply is has = absurd (cc has)

  sweep_asked : (stands : Sweeping) (c : Sweep) → c.stands ≡ stands → copier_of_sweep stands ≡ Some p → copier_of_sweep (next_at stands c).stands ≡ Some p
  sweep_asked (sweeping.Copies copier) c is has = ap (λ (x : Sweeping). copier_of_sweep x) is ∙ has
  sweep_asked _ c is has = absurd (cc has)

  not_ready : (stands : Sweeping) → is_ready stands ≡ true → copier_of_sweep stands ≡ Some p → ⊥
  not_ready (sweeping.Copies copier) ready has = cc ready
  not_ready _ ready has = cc has

module _ {K V Q : Type 0} where
  -- it is the machine in which the copier is
  abbrev copier_in : Machine K V Q → Option Copier
  copier_in (kinds.Key c) = copier_of_call c.stands
  copier_in (kinds.Reserve c) = copier_of_room c.stands
  copier_in (kinds.Count c) = None
  copier_in (kinds.Sweep c) = copier_of_sweep c.stands

  of_machine : (u : UnderWay K V Q) → copier_of u ≡ copier_in (machine_of u)
  of_machine (OnKey u) = refl
  of_machine (ForRoom r) = refl
  of_machine (Counting sum) = refl
  of_machine (OverAll o) = refl

  module _ (p : Copier) where
    -- nor does a call
    call_told : (stands : Calling) (c : KeyCall K V Q) (reply : MachineReply V) → c.stands ≡ stands → copier_of_call stands ≡ Some p → copier_of_call (replied_at stands c reply).0.stands ≡ Some p
    call_told (calling.Helps copier goal) c reply is has = ap (λ (x : Calling). copier_of_call x) is ∙ has
    call_told (calling.Copies copier) c reply is has = ap (λ (x : Calling). copier_of_call x) is ∙ has
    call_told _ c reply is has = absurd (cc has)

    replied_on : (x : Machine K V Q) (reply : MachineReply V) → copier_in x ≡ Some p → copier_in (machine_replied x reply).0 ≡ Some p
    replied_on (kinds.Key c) reply has = call_told c.stands c reply refl has
    replied_on (kinds.Reserve c) reply has = has
    replied_on (kinds.Count c) reply has = has
    replied_on (kinds.Sweep c) reply has = of_sweep_told p c.stands c reply refl has

    asked_on : (x : Machine K V Q) → copier_in x ≡ Some p → copier_in (machine_asked x).0 ≡ Some p
    asked_on (kinds.Key c) has = has
    asked_on (kinds.Reserve c) has = has
    asked_on (kinds.Count c) has = has
    asked_on (kinds.Sweep c) has = sweep_asked p c.stands c refl has

    pub told_on : (u next : UnderWay K V Q) (reply : MachineReply V) → machine_of next ≡ (machine_replied (machine_of u) reply).0 → copier_of u ≡ Some p → copier_of next ≡ Some p
    told_on u next reply is has = of_machine next ∙ ap (λ (x : Machine K V Q). copier_in x) is ∙ replied_on (machine_of u) reply (sym (of_machine u) ∙ has)

    pub next_on : (u next : UnderWay K V Q) → machine_of next ≡ (machine_asked (machine_of u)).0 → copier_of u ≡ Some p → copier_of next ≡ Some p
    next_on u next is has = of_machine next ∙ ap (λ (x : Machine K V Q). copier_in x) is ∙ asked_on (machine_of u) (sym (of_machine u) ∙ has)

    -- it is not given up
    pub not_stopped : (u : UnderWay K V Q) (ready : Bool) → (machine_asked (machine_of u)).1 ≡ ready → copier_of u ≡ Some p → unless_stopped ready u ≡ Some u
    not_stopped u false asked has = refl
    not_stopped (OnKey k) true asked has = absurd (cc asked)
    not_stopped (ForRoom r) true asked has = absurd (cc asked)
    not_stopped (Counting sum) true asked has = absurd (cc has)
    not_stopped (OverAll o) true asked has = absurd (not_ready p o.sweep.stands asked has)

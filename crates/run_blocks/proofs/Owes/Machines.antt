-- What a step of whichever machine does to the word of its own block for a pair, and what it owns then.
use Rattle.std.specs.Prelude.{◌≡◌, ℕ, Bool, Some, None}
use Rattle.std.proofs.Common.{refl, ap, sym, subst, inl}
use Rattle.run_debts.specs.Given.SeizeWordsMem.{Mem, Can, Took, value_at}
use Rattle.run_debts.specs.Given.SeizeWordsPlan.{May}
use Rattle.owner_calls.proofs.Given.SeizeWordsPlans.{may_as}
use Rattle.run_debts.specs.Given.TablesDeclared.node.Node.{Node}
use Rattle.owner_calls.specs.Given.ResizeDeclared.copier.Copying.{Copying}
use Rattle.owner_calls.specs.Given.ResizeDeclared.copier.Copying.TheVariants as copying
use Rattle.owner_calls.specs.Given.ResizeDeclared.new_table.NewTable.{NewTable}
use Rattle.owner_calls.specs.Given.ReservesReserve.{reserve_plan}
use Rattle.run_debts.specs.Given.ReservesDeclared.reserve.Reserve.{Reserve}
use Rattle.run_debts.specs.Given.ReservesDeclared.reserve.Reserving.{Reserving}
use Rattle.run_debts.specs.Given.ReservesDeclared.reserve.Reserving.TheVariants as reserving
use Rattle.owner_calls.specs.Given.SweepsSweep.{sweep_plan}
use Rattle.run_debts.specs.Given.ReservesDeclared.sweep.Sweep.{Sweep}
use Rattle.run_debts.specs.Given.ReservesDeclared.sweep.Sweeping.{Sweeping}
use Rattle.run_debts.specs.Given.ReservesDeclared.sweep.Sweeping.TheVariants as sweeping
use Rattle.owner_calls.specs.Given.RawCall.{call_plan}
use Rattle.run_debts.specs.Given.RawMachine.{machine_plan, called as of_key, reserved as of_room, swept as of_sweep}
use Rattle.owner_calls.specs.Given.RawProgress.{of_called}
use Rattle.run_debts.specs.Given.RawDeclared.machines.answer.Called.{Called}
use Rattle.run_debts.specs.Given.RawDeclared.machines.call.Calling.{Calling}
use Rattle.run_debts.specs.Given.RawDeclared.machines.call.Calling.TheVariants as calling
use Rattle.run_debts.specs.Given.RawDeclared.machines.call.KeyCall.{KeyCall}
use Rattle.run_debts.specs.Given.RawDeclared.machines.machine.Machine.{Machine}
use Rattle.run_debts.specs.Given.RawDeclared.machines.machine.Machine.TheVariants as kinds
use Rattle.run_debts.specs.Given.RawDeclared.machines.progress.Progress.{Progress}
use Rattle.owner_calls.specs.Given.PointsTold.{IsRowOfCopier, IsRowOfCall}
use Rattle.owner_calls.specs.Given.LateToldReserves.{IsRowOfReserve}
use Rattle.owner_calls.specs.Given.LateToldSweeps.{IsRowOfSweep}
use Rattle.run_debts.specs.Given.TellerTells.{StepsObserved}
use Rattle.run_debts.specs.Given.EffectsDeclared.changed.Changed.{Changed}
use Rattle.run_debts.specs.Given.EffectsDeclared.changed.Changed.TheVariants as changed
use Rattle.run_debts.specs.Given.EffectsDeclared.changed.Kind.TheVariants as kind
use Rattle.run_debts.proofs.Given.OthersOutcomes.{told_in}
use Rattle.owner_calls.specs.Holds.Came.{Owns}
use Rattle.owner_calls.proofs.Holds.Calls.Goes.{TellsSo}
use Rattle.owner_calls.proofs.Holds.Calls.Steps.{step_comes}
use Rattle.run_blocks.specs.Owes.Made.{own_word, OwnsSo}
use Rattle.run_blocks.specs.Owes.Making.{making_in_copying, making_in_calling, making_in_reserving, making_in_sweeping}
use Rattle.run_blocks.proofs.Owes.Planned.{HasPlaces}
use Rattle.run_blocks.proofs.Owes.Walks.{reserve_makes, sweep_makes, plan_made}
use Rattle.run_blocks.proofs.Owes.Words.{WordGoes, KeepsWord, none_for_pair, call_word}
use Rattle.run_debts.proofs.Given.ScenesTold.{as_step}

-- within a row no table is made

copier_none : (p : Copying) → IsRowOfCopier p → making_in_copying p ≡ None
copier_none (copying.Retires settle rest) row = refl
copier_none (copying.Grows word code n) row = absurd row
copier_none (copying.Remakes n) row = absurd row
copier_none _ row = refl

pub call_none : (p : Calling) → IsRowOfCall p → making_in_calling p ≡ None
call_none (calling.Firsts n) row = absurd row
call_none (calling.Allocs n) row = absurd row
call_none (calling.Helps copier goal) row = copier_none copier.stands row
call_none (calling.Copies copier) row = copier_none copier.stands row
call_none _ row = refl

pub room_none : (p : Reserving) → IsRowOfReserve p → making_in_reserving p ≡ None
room_none (reserving.Makes n) row = absurd row
room_none (reserving.Grows table n) row = absurd row
room_none (reserving.Copies copier) row = copier_none copier.stands row
room_none _ row = refl

pub sweep_none : (p : Sweeping) → IsRowOfSweep p → making_in_sweeping p ≡ None
sweep_none (sweeping.Copies copier) row = copier_none copier.stands row
sweep_none _ row = refl

-- of a step of a machine that has come to this
module _ {K V : Type 0} (asks : K → K → Bool) (same : K → K → Bool) (hash : K → ℕ) (m m2 : Mem (Node K V)) (told : Changed) (machine : Machine K V K) (said : Progress (Node K V)) where
  abbrev pub SteppedFrom : Machine K V K → Type 0
  SteppedFrom before = StepsObserved K V (Machine K V K × Progress (Node K V)) m changed.Nothing (machine_plan asks same hash before) m2 told (machine, said)

  -- a call on one key
  module _ (p : KeyCall K V K) (o : Owns p) (has : (n : NewTable) → making_in_calling p.stands ≡ Some n → HasPlaces n.stands)
      (may : May Can Took value_at m (machine_plan asks same hash (kinds.Key p))) (steps : SteppedFrom (kinds.Key p)) where
    abbrev CameTo : Type 0
    CameTo =
        (r : KeyCall K V K × Called (Node K V)) × (◌≡◌ {A = Machine K V K × Progress (Node K V)} (machine, said) (of_key r))
        × StepsObserved K V (KeyCall K V K × Called (Node K V)) m changed.Nothing (call_plan asks same hash p) m2 told r

    pub came_to : CameTo
    came_to = told_in m m2 told of_key (call_plan asks same hash p) (machine, said) steps

    pub key_machine : machine ≡ kinds.Key came_to.0.0
    key_machine = ap (λ (z : Machine K V K × Progress (Node K V)). z.0) came_to.1

    pub key_said : said ≡ of_called came_to.0.1
    key_said = ap (λ (z : Machine K V K × Progress (Node K V)). z.1) came_to.1

    comes : Owns came_to.0.0 × TellsSo came_to.0
    comes =
        let it = step_comes p o m m m2 (λ b x there. inl there) asks same hash came_to.0 (may_as of_key Can Took value_at m (call_plan asks same hash p) may)
        (as_step m changed.Nothing (call_plan asks same hash p) m2 told came_to.0 came_to.2) in (it.0, it.1)

    pub key_tells : TellsSo came_to.0
    key_tells = comes.1

    pub key_code : Owns came_to.0.0
    key_code = comes.0

    pub key_owns : OwnsSo machine
    key_owns = subst OwnsSo (sym key_machine) comes.0

    pub key_word : WordGoes told p.own (own_word machine)
    key_word = subst (WordGoes told p.own) (ap own_word (sym key_machine)) (call_word asks same hash p o m m2 told came_to.0 has came_to.2)

  -- a machine of another kind makes no such block,

  pub room_no_pair : (c : Reserve) → ((n : NewTable) → making_in_reserving c.stands ≡ Some n → HasPlaces n.stands) → SteppedFrom (kinds.Reserve c) → (b : ℕ) → told ≡ changed.Made kind.Pair b → ⊥
  room_no_pair c has steps b made =
      let inner = told_in m m2 told of_room (reserve_plan hash c) (machine, said) steps in
      let it = plan_made (making_in_reserving c.stands) m m2 told (reserve_plan hash c) inner.0 inner.2 (reserve_makes K V hash c) kind.Pair b made in
      none_for_pair (making_in_reserving c.stands) it.0 it.1 has it.2

  pub over_no_pair : (c : Sweep) → ((n : NewTable) → making_in_sweeping c.stands ≡ Some n → HasPlaces n.stands) → SteppedFrom (kinds.Sweep c) → (b : ℕ) → told ≡ changed.Made kind.Pair b → ⊥
  over_no_pair c has steps b made =
      let inner = told_in m m2 told of_sweep (sweep_plan hash c) (machine, said) steps in
      let it = plan_made (making_in_sweeping c.stands) m m2 told (sweep_plan hash c) inner.0 inner.2 (sweep_makes K V hash c) kind.Pair b made in
      none_for_pair (making_in_sweeping c.stands) it.0 it.1 has it.2

  -- and has none
  module _ (other : own_word machine ≡ 0) where
    pub room_word : (c : Reserve) → ((n : NewTable) → making_in_reserving c.stands ≡ Some n → HasPlaces n.stands) → SteppedFrom (kinds.Reserve c) → WordGoes told 0 (own_word machine)
    room_word c has steps = KeepsWord other (room_no_pair c has steps)

    pub over_word : (c : Sweep) → ((n : NewTable) → making_in_sweeping c.stands ≡ Some n → HasPlaces n.stands) → SteppedFrom (kinds.Sweep c) → WordGoes told 0 (own_word machine)
    over_word c has steps = KeepsWord other (over_no_pair c has steps)

-- A step of a call to which a block is refused: it is to be refused for want of memory.
use Rattle.std.specs.Prelude.{◌≡◌, ℕ, ◌==◌, Bool, true, false, Option, Some, None, Ok, Err}
use Rattle.std.proofs.Common.{refl, ap, sym, ◌∙◌, inl, inr}
use Rattle.run_debts.specs.Given.SeizeWordsMem.{Mem, value_at}
use Rattle.run_debts.specs.Given.SeizeWordsOp.{Out, Make, Found, Stored, Exchanged, Made, Taken, Roomed}
use Rattle.run_debts.specs.Given.SeizeWordsPlan.{Ends}
use Rattle.run_debts.specs.Given.SeizeWordsDeclared.fault.Fault.TheVariants.{Memory}
use Rattle.run_debts.specs.Given.TablesDeclared.node.Node.{Node}
use Rattle.run_debts.specs.Given.TablesDeclared.node.Node.TheVariants as node
use Rattle.owner_calls.specs.Given.ResizeSum.{sum_plan}
use Rattle.owner_calls.specs.Given.ReservesReserve.{reserve_plan}
use Rattle.owner_calls.specs.Given.SweepsSweep.{sweep_plan}
use Rattle.owner_calls.specs.Given.RawCall.{call_plan, makes_of, made}
use Rattle.owner_calls.specs.Given.RawCall as calls
use Rattle.owner_calls.specs.Given.RawCallFills.{filled, putting_by, fill_by, fills_with}
use Rattle.run_debts.specs.Given.RawMachine.{machine_plan, called as of_key, reserved as of_room, swept as of_sweep, counted as of_sum}
use Rattle.owner_calls.specs.Given.RawProgress.{of_called}
use Rattle.owner_calls.specs.Given.RawReplies.{value_for, as_own}
use Rattle.run_debts.specs.Given.RawDeclared.machines.answer.Called.{Called}
use Rattle.run_debts.specs.Given.RawDeclared.machines.asking.Asking.TheVariants as asking
use Rattle.run_debts.specs.Given.RawDeclared.machines.call.Calling.{Calling}
use Rattle.run_debts.specs.Given.RawDeclared.machines.call.Calling.TheVariants as calling
use Rattle.run_debts.specs.Given.RawDeclared.machines.call.KeyCall.{KeyCall}
use Rattle.run_debts.specs.Given.RawDeclared.machines.machine.Machine.{Machine}
use Rattle.run_debts.specs.Given.RawDeclared.machines.machine.Machine.TheVariants as kinds
use Rattle.run_debts.specs.Given.RawDeclared.machines.progress.Progress.{Progress}
use Rattle.run_debts.specs.Given.TellsSeen.{seen_of}
use Rattle.run_debts.specs.Given.TellerTells.{observed_of}
use Rattle.run_debts.specs.Given.EffectsDeclared.changed.Changed.{Changed}
use Rattle.run_debts.specs.Given.EffectsDeclared.changed.Changed.TheVariants as changed
use Rattle.run_debts.specs.Given.EffectsDeclared.changed.Kind.{Kind}
use Rattle.run_debts.proofs.Given.OthersOutcomes.{told_in}
use Rattle.run_blocks.specs.Owes.Making.{making_of, making_in_calling, making_in_reserving, making_in_sweeping}
use Rattle.run_blocks.specs.Owes.Short.{fault_in_calling, fault_of}
use Rattle.run_blocks.proofs.Owes.Short.Denied.{EndsSo}
use Rattle.run_blocks.proofs.Owes.Tables.Hosts.{Step, step_within}
use Rattle.run_blocks.proofs.Owes.Tables.Makes.{refused_with}
use Rattle.run_blocks.proofs.Owes.Walks.{IsToMake, IsToOwn, so_as, plan_unmade_so, call_makes, reserve_makes, sweep_makes, sum_at}
use Rattle.run_debts.specs.Given.ScenesStepping.{has_ended}

module _ {K V : Type 0} (m m2 : Mem (Node K V)) (told : Changed) (k : Kind) (unmade : told ≡ changed.Unmade k) where
  other : (x : Changed) → told ≡ x → x ≡ changed.Unmade k
  other x is = sym is ∙ unmade

  -- of a call on one key that was to make its own block
  module _ (asks : K → K → Bool) (same : K → K → Bool) (hash : K → ℕ) (p : KeyCall K V K) (end : KeyCall K V K × Called (Node K V)) where
    -- it is to be refused, and has not ended yet
    abbrev Refusal : Type 0
    Refusal = (fault_in_calling end.0.stands ≡ Some Memory) × (has_ended (of_called end.1) ≡ false)

    as_over : (d : KeyCall K V K × Called (Node K V)) → end ≡ d → fault_in_calling d.0.stands ≡ Some Memory → has_ended (of_called d.1) ≡ false → Refusal
    as_over d is fault goes =
        (ap (λ (y : KeyCall K V K × Called (Node K V)). fault_in_calling y.0.stands) is ∙ fault, ap (λ (y : KeyCall K V K × Called (Node K V)). has_ended (of_called y.1)) is ∙ goes)

    made_out : (value : Node K V) (out : Out (Node K V)) → told ≡ observed_of (Make value 0) out (seen_of m (Make value 0) out) → Ends (value_at m2) (made p out) end → Refusal
    made_out value (Made (Err back)) is ends = as_over _ ends refl refl
    made_out value (Made (Ok b)) is ends = absurd (let no = other _ is in cc no)
    made_out value (Found found) is ends = absurd (let no = other _ is in cc no)
    made_out value Stored is ends = absurd (let no = other _ is in cc no)
    made_out value (Exchanged r) is ends = absurd (let no = other _ is in cc no)
    made_out value (Taken back) is ends = absurd (let no = other _ is in cc no)
    made_out value (Roomed r) is ends = absurd (let no = other _ is in cc no)

    makes_so : (o : Option (Node K V)) → Step m m2 told (makes_of p o) end → Refusal
    makes_so (Some value) s = made_out value s.0 s.1.1 s.2
    makes_so None s = absurd (let no = other _ s.2 in cc no)

    filled_out : (q : KeyCall K V K) (word : ℕ) (value : Node K V) (out : Out (Node K V)) → told ≡ observed_of (Make value 0) out (seen_of m (Make value 0) out) → Ends (value_at m2) (filled q word out) end → Refusal
    filled_out q word value (Made (Err back)) is ends = as_over _ ends refl refl
    filled_out q word value (Made (Ok b)) is ends = absurd (let no = other _ is in cc no)
    filled_out q word value (Found found) is ends = absurd (let no = other _ is in cc no)
    filled_out q word value Stored is ends = absurd (let no = other _ is in cc no)
    filled_out q word value (Exchanged r) is ends = absurd (let no = other _ is in cc no)
    filled_out q word value (Taken back) is ends = absurd (let no = other _ is in cc no)
    filled_out q word value (Roomed r) is ends = absurd (let no = other _ is in cc no)

    puts_so : (b : Bool) (q : KeyCall K V K) (word : ℕ) (key : K) (value : V) → Step m m2 told (putting_by b q word key value) end → Refusal
    puts_so true q word key value s = filled_out q word (node.Pair key value) s.0 s.1.1 s.2
    puts_so false q word key value s = absurd (let no = other _ s.1.1 in cc no)

    fill_so : (value : Option V) (q : KeyCall K V K) (word : ℕ) (key : K) → Step m m2 told (fill_by value q word key) end → Refusal
    fill_so (Some value) q word key s = puts_so (q.own == 0) (record q { replies = record q.replies { key = None } }) word key value s
    fill_so None q word key s = absurd (let no = other _ s.2 in cc no)

    fills_so : (key : Option K) (word : ℕ) → Step m m2 told (fills_with key p word) end → Refusal
    fills_so (Some key) word s = fill_so (value_for p.replies word) (record p { replies = as_own p.replies word }) word key s
    fills_so None word s = absurd (let no = other _ s.1.1 in cc no)

    own_at : (q : Calling) → IsToOwn q → Step m m2 told (calls.plan_at asks same hash p q) end → Refusal
    own_at calling.Makes own s = makes_so p.unmade s
    own_at (calling.Asks (asking.Fills word)) own s = fills_so p.replies.key word s
    own_at (calling.Asks (asking.Absent gap)) own s = absurd own
    own_at (calling.Asks (asking.Present word)) own s = absurd own
    own_at (calling.Asks (asking.GivesUp word)) own s = absurd own
    own_at (calling.Looks lookup) own s = absurd own
    own_at calling.Roots own s = absurd own
    own_at calling.Probes own s = absurd own
    own_at (calling.Tries word new) own s = absurd own
    own_at (calling.Counts removed) own s = absurd own
    own_at calling.Nexts own s = absurd own
    own_at (calling.Firsts n) own s = absurd own
    own_at (calling.Allocs n) own s = absurd own
    own_at (calling.Helps copier goal) own s = absurd own
    own_at (calling.Copies copier) own s = absurd own
    own_at (calling.Disposes dispose answer) own s = absurd own
    own_at (calling.Drops end) own s = absurd own
    own_at (calling.Over end) own s = absurd own

  -- of a call, whichever it is
  module _ (asks : K → K → Bool) (same : K → K → Bool) (hash : K → ℕ) (machine : Machine K V K) (said : Progress (Node K V)) where
    abbrev pub IsRefused : Type 0
    IsRefused = (fault_of machine ≡ Some Memory) × EndsSo Memory said

    -- the table of its making was refused
    table_refused : (before : Machine K V K) → Step m m2 told (machine_plan asks same hash before) (machine, said) → (value : Node K V) × IsToMake (making_of before) value → IsRefused
    table_refused before s (value, (n, table, making_is, stands, value_is)) =
        let inner = step_within m m2 told asks same hash machine said before n making_is s in
        let so = inner.2.1 Memory (refused_with m m2 told n table stands inner.0 inner.1 k unmade) in (
          so.0,
          elim so.1 as (λ _. EndsSo Memory said) [
            | inl e ↦ inl e
            | inr e ↦ inr (ap (λ (x : Progress (Node K V)). has_ended x) e)
          ],
        )

    pub unmade_so : (before : Machine K V K) → Step m m2 told (machine_plan asks same hash before) (machine, said) → IsRefused
    unmade_so (kinds.Key p) s = elim (call_makes asks same hash p) as (λ _. IsRefused) [
      | inl own ↦
          let it = told_in m m2 told of_key (call_plan asks same hash p) (machine, said) s in
          let so = own_at asks same hash p it.0 p.stands own it.2 in (
            ap (λ (q : Machine K V K × Progress (Node K V)). fault_of q.0) it.1 ∙ so.0,
            inr (ap (λ (q : Machine K V K × Progress (Node K V)). has_ended q.1) it.1 ∙ so.1),
          )
      | inr so ↦
          table_refused (kinds.Key p) s
          (plan_unmade_so (IsToMake (making_in_calling p.stands)) m m2 told (machine_plan asks same hash (kinds.Key p)) (machine, said) s
          (so_as (IsToMake (making_in_calling p.stands)) of_key (call_plan asks same hash p) so) k unmade)
    ]
    unmade_so (kinds.Reserve r) s =
        table_refused (kinds.Reserve r) s
        (plan_unmade_so (IsToMake (making_in_reserving r.stands)) m m2 told (machine_plan asks same hash (kinds.Reserve r)) (machine, said) s
        (so_as (IsToMake (making_in_reserving r.stands)) of_room (reserve_plan hash r) (reserve_makes K V hash r)) k unmade)
    unmade_so (kinds.Sweep c) s =
        table_refused (kinds.Sweep c) s
        (plan_unmade_so (IsToMake (making_in_sweeping c.stands)) m m2 told (machine_plan asks same hash (kinds.Sweep c)) (machine, said) s
        (so_as (IsToMake (making_in_sweeping c.stands)) of_sweep (sweep_plan hash c) (sweep_makes K V hash c)) k unmade)
    unmade_so (kinds.Count sum) s =
        table_refused (kinds.Count sum) s
        (plan_unmade_so (IsToMake None) m m2 told (machine_plan asks same hash (kinds.Count sum)) (machine, said) s (so_as (IsToMake None) of_sum (sum_plan sum) (sum_at K V None sum sum.stands)) k unmade)

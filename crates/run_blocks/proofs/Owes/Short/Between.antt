-- Between the steps of calls: where a call begins, is told a reply, or has come to an outcome, each is as short of a growth as it was.
use Rattle.std.specs.Prelude.{◌≡◌, ℕ, Bool, Some}
use Rattle.std.proofs.Common.{refl, ap, ◌∙◌}
use Rattle.run_debts.specs.Given.SeizeWordsDeclared.fault.Fault.{Fault}
use Rattle.run_debts.specs.Given.SeizeWordsDeclared.fault.Fault.TheVariants.{Memory}
use Rattle.owner_calls.specs.Given.SweepsSweepPoints.{next_at}
use Rattle.run_debts.specs.Given.ReservesDeclared.sweep.Sweep.{Sweep}
use Rattle.run_debts.specs.Given.ReservesDeclared.sweep.Sweeping.{Sweeping}
use Rattle.run_debts.specs.Given.ReservesDeclared.sweep.Sweeping.TheVariants as sweeping
use Rattle.owner_calls.specs.Given.RawCallAsks.{replied_at}
use Rattle.run_debts.specs.Given.RawMachine.{machine_replied, machine_asked, sweep_with_reply}
use Rattle.run_debts.specs.Given.RawDeclared.machines.asking.MachineReply.{MachineReply}
use Rattle.run_debts.specs.Given.RawDeclared.machines.call.Calling.{Calling}
use Rattle.run_debts.specs.Given.RawDeclared.machines.call.Calling.TheVariants as calling
use Rattle.run_debts.specs.Given.RawDeclared.machines.call.KeyCall.{KeyCall}
use Rattle.run_debts.specs.Given.RawDeclared.machines.machine.Machine.{Machine}
use Rattle.run_debts.specs.Given.RawDeclared.machines.machine.Machine.TheVariants as kinds
use Rattle.run_debts.specs.Given.SchedulesMoment.{UnderWay as CallThere}
use Rattle.run_debts.specs.Given.FinishesMachines.{machine_of}
use Rattle.run_blocks.specs.Owes.Short.{fault_in_calling, fault_in_sweeping, fault_of, ShortBegins, StaysShort, CallsBeginShort, CallsTakeShort, CallsComeToShort, WalksPreserveShort, WalksStopShort}
use Rattle.run_blocks.proofs.Owes.Kept.{HasAsMuch}
use Rattle.run_blocks.proofs.Owes.Marked.{stays_marked, begin_marked, go_on_marked, take_marked, come_marked, stop_marked}

-- A machine that is to be refused takes no reply, and is no walk that is ready.

sweep_same : {V : Type 0} (q : Sweeping) (c : Sweep) (reply : MachineReply V) (fault : Fault) → fault_in_sweeping q ≡ Some fault → (sweep_with_reply q c reply).0 ≡ c
sweep_same (sweeping.Asks word) c reply fault is = absurd (cc is)
sweep_same _ c reply fault is = refl

asked_same : (q : Sweeping) (c : Sweep) (fault : Fault) → fault_in_sweeping q ≡ Some fault → next_at q c ≡ c
asked_same sweeping.Ready c fault is = absurd (cc is)
asked_same _ c fault is = refl

module _ {K V : Type 0} where
  key_same : (q : Calling) (p : KeyCall K V K) (reply : MachineReply V) (fault : Fault) → fault_in_calling q ≡ Some fault → (replied_at q p reply).0 ≡ p
  key_same (calling.Asks a) p reply fault is = absurd (cc is)
  key_same _ p reply fault is = refl

  replied_fault : (y : Machine K V K) (reply : MachineReply V) (fault : Fault) → fault_of y ≡ Some fault → fault_of (machine_replied y reply).0 ≡ Some fault
  replied_fault (kinds.Key p) reply fault is = ap (λ (x : KeyCall K V K). fault_in_calling x.stands) (key_same p.stands p reply fault is) ∙ is
  replied_fault (kinds.Sweep c) reply fault is = ap (λ (x : Sweep). fault_in_sweeping x.stands) (sweep_same c.stands c reply fault is) ∙ is
  replied_fault (kinds.Reserve r) reply fault is = is
  replied_fault (kinds.Count sum) reply fault is = is

  asked_fault : (y : Machine K V K) (fault : Fault) → fault_of y ≡ Some fault → fault_of (machine_asked y).0 ≡ Some fault
  asked_fault (kinds.Sweep c) fault is = ap (λ (x : Sweep). fault_in_sweeping x.stands) (asked_same c.stands c fault is) ∙ is
  asked_fault (kinds.Key p) fault is = is
  asked_fault (kinds.Reserve r) fault is = is
  asked_fault (kinds.Count sum) fault is = is

module _ {K V : Type 0} where
  abbrev short_mark : CallThere K V → Bool
  short_mark c = c.is_short

  abbrev Denied : Machine K V K → Type 0
  Denied y = fault_of y ≡ Some Memory

  as_short : (c d : CallThere K V) → HasAsMuch c d → short_mark d ≡ short_mark c
  as_short c d has = has.2

module _ (K V : Type 0) where
  pub short_begins : ShortBegins K V
  short_begins roots name map i u is c c_is e = absurd (cc is)

  pub stays_short : StaysShort K V
  stays_short name m v s t short calls under_way = stays_marked short_mark Denied as_short name m v s t short calls under_way

  pub calls_begin_short : CallsBeginShort K V
  calls_begin_short name m s short of i u call guard apart = begin_marked short_mark Denied as_short name m s short of i u call guard apart (λ d grown called e. absurd (cc (grown, e)))

  pub calls_take_short : CallsTakeShort K V
  calls_take_short same name m known s whole short of i u here reply next goes is_told =
      take_marked short_mark Denied as_short name m s short same whole.all.shown.calls of i u here next
      (λ fault. ap (λ (y : Machine K V K). fault_of y) goes ∙ replied_fault (machine_of u) reply Memory fault) is_told

  pub calls_come_to_short : CallsComeToShort K V
  calls_come_to_short same name m known s whole short own o steps ended = come_marked short_mark Denied as_short name m s short same whole.all.shown.calls own o steps ended

module _ (K V : Type 0) (same : K → K → Bool) (hash : ℕ → K → ℕ) where
  pub walks_go_on_short : WalksPreserveShort K V same hash
  walks_go_on_short name m s old new short i leads map u here =
      let to = leads map u here in
      go_on_marked short_mark Denied as_short name m s short map i u here to.0 (λ fault. ap (λ (y : Machine K V K). fault_of y) to.1 ∙ asked_fault (machine_of u) Memory fault)

  pub walks_stop_short : WalksStopShort K V same hash
  walks_stop_short name m known s old new whole short i stopped leads map u here none =
      stop_marked short_mark Denied as_short name m s short same whole.all.shown.calls map i u here stopped none

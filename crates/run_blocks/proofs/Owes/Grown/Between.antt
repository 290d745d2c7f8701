-- Between the steps of calls: where a call begins, is told a reply, or has come to an outcome, those that are short of no growth have nothing to tell of memory.
use Rattle.std.specs.Prelude.{◌≡◌, ℕ, Bool, not}
use Rattle.std.proofs.Common.{ap, sym, subst}
use Rattle.run_debts.specs.Given.SeizeWordsDeclared.fault.Fault.TheVariants.{Capacity, RemoveNothing}
use Rattle.run_debts.specs.Given.RawDeclared.machines.machine.Machine.{Machine}
use Rattle.run_debts.specs.Given.SchedulesMoment.{UnderWay as CallThere}
use Rattle.run_debts.specs.Given.FinishesMachines.{machine_of}
use Rattle.run_blocks.specs.Owes.Grown.{SoInMachine, IsOther, GrownBegins, StaysGrown, CallsBeginGrown, MachinesBeginGrown, CallsTakeGrown, CallsComeToGrown, WalksPreserveGrown, WalksStopGrown}
use Rattle.run_blocks.proofs.Owes.Grown.Machines.{asked_so, begins_so, replied_so}
use Rattle.run_blocks.proofs.Owes.Kept.{HasAsMuch}
use Rattle.run_blocks.proofs.Owes.Marked.{stays_marked, begin_marked, go_on_marked, take_marked, come_marked, stop_marked}

pub long_other : IsOther Capacity
long_other e = cc e

nothing_other : IsOther RemoveNothing
nothing_other e = cc e

module _ {K V : Type 0} where
  abbrev grown_mark : CallThere K V → Bool
  grown_mark c = not c.is_short

  abbrev Other : Machine K V K → Type 0
  Other y = SoInMachine IsOther y

  as_grown : (c d : CallThere K V) → HasAsMuch c d → grown_mark d ≡ grown_mark c
  as_grown c d has = ap not has.2

module _ (K V : Type 0) where
  pub grown_begins : GrownBegins K V
  grown_begins roots name map i u is c c_is e = absurd (cc is)

  pub stays_grown : StaysGrown K V
  stays_grown name m v s t grown calls under_way = stays_marked grown_mark Other as_grown name m v s t grown calls under_way

  pub calls_begin_grown : CallsBeginGrown K V
  calls_begin_grown name m s grown of i u call guard apart begins = begin_marked grown_mark Other as_grown name m s grown of i u call guard apart (λ d fresh called e. begins)

  pub machines_begin_grown : MachinesBeginGrown K V
  machines_begin_grown same standing i u begins = begins_so IsOther same standing i u begins

  pub calls_take_grown : CallsTakeGrown K V
  calls_take_grown same name m known s whole grown of i u here reply next goes is_told =
      take_marked grown_mark Other as_grown name m s grown same whole.all.shown.calls of i u here next
      (λ so. subst Other (sym goes) (replied_so IsOther nothing_other (machine_of u) reply so)) is_told

  pub calls_come_to_grown : CallsComeToGrown K V
  calls_come_to_grown same name m known s whole grown own o steps ended = come_marked grown_mark Other as_grown name m s grown same whole.all.shown.calls own o steps ended

module _ (K V : Type 0) (same : K → K → Bool) (hash : ℕ → K → ℕ) where
  pub walks_go_on_grown : WalksPreserveGrown K V same hash
  walks_go_on_grown name m s old new grown i leads map u here =
      let to = leads map u here in go_on_marked grown_mark Other as_grown name m s grown map i u here to.0 (λ so. subst Other (sym to.1) (asked_so IsOther (machine_of u) so))

  pub walks_stop_grown : WalksStopGrown K V same hash
  walks_stop_grown name m known s old new whole grown i stopped leads map u here none =
      stop_marked grown_mark Other as_grown name m s grown same whole.all.shown.calls map i u here stopped none

-- Between the steps of calls: where a call begins, is told a reply, or has come to an outcome, those that only look are as they must be.
use Rattle.std.specs.Prelude.{◌≡◌, ℕ, Bool, true, List, None}
use Rattle.std.proofs.Common.{refl, ap, sym, subst, ◌∙◌}
use Rattle.run_debts.specs.Given.TablesDeclared.setting.Setting.{Setting}
use Rattle.owner_calls.specs.Given.RawCallAsks.{replied_at}
use Rattle.run_debts.specs.Given.RawMachine.{machine_replied, machine_asked}
use Rattle.run_debts.specs.Given.RawDeclared.machines.asking.MachineReply.{MachineReply}
use Rattle.run_debts.specs.Given.RawDeclared.machines.call.Calling.{Calling}
use Rattle.run_debts.specs.Given.RawDeclared.machines.call.Calling.TheVariants as at
use Rattle.run_debts.specs.Given.RawDeclared.machines.call.KeyCall.{KeyCall}
use Rattle.run_debts.specs.Given.RawDeclared.machines.machine.Machine.{Machine}
use Rattle.run_debts.specs.Given.RawDeclared.machines.machine.Machine.TheVariants as kinds
use Rattle.run_debts.specs.Given.RawDeclared.machines.answer.There.TheVariants as there
use Rattle.run_debts.specs.Given.SchedulesGrowing.{only_looks}
use Rattle.run_debts.specs.Given.SchedulesMoment.{UnderWay as CallThere}
use Rattle.run_debts.specs.Given.SchedulesSequential.{is_lookup}
use Rattle.run_debts.specs.Given.RunsDeclared.call.OneKey.{OneKey}
use Rattle.run_debts.specs.Given.RunsDeclared.call.OneKey.TheVariants as one_key
use Rattle.owner_calls.specs.Given.CallersAsked.{Asked}
use Rattle.owner_calls.specs.Given.CallersKind.{gets}
use Rattle.owner_calls.specs.Given.CallersPairs.{Given, Begun, kind_of}
use Rattle.owner_calls.specs.Given.CallersTogether.{IsBegun, Gets, Removes, Inserts, TriesToInsert, Computes, Updates, UpdatesOrInserts, TriesToInsertWith, RemovesIf}
use Rattle.run_debts.specs.Given.FinishesMachines.{machine_of}
use Rattle.run_debts.specs.Given.HandsAsked.{given_by}
use Rattle.owner_calls.specs.Given.LateKinds.{IsLookup, LooksAt}
use Rattle.run_blocks.specs.Owes.Looking.{IsLooking, LookingBegins, StaysLooking, CallsBeginLooking, LookupsBegin, CallsTakeLooking, CallsComeToLooking, WalksPreserveLooking, WalksStopLooking}
use Rattle.run_blocks.proofs.Owes.Kept.{HasAsMuch}
use Rattle.run_blocks.proofs.Owes.Marked.{stays_marked, begin_marked, go_on_marked, take_marked, come_marked, stop_marked}

module _ {K V : Type 0} where
  -- A machine that looks takes no reply, and is no walk that is ready.

  key_same : (q : Calling) (p : KeyCall K V K) (reply : MachineReply V) → LooksAt q → (replied_at q p reply).0 ≡ p
  key_same (at.Asks a) p reply is = absurd is
  key_same _ p reply is = refl

  replied_looks : (y : Machine K V K) (reply : MachineReply V) → IsLooking y → IsLooking (machine_replied y reply).0
  replied_looks (kinds.Key p) reply is = subst (λ (x : KeyCall K V K). IsLookup x) (sym (key_same p.stands p reply is.1)) is
  replied_looks (kinds.Count sum) reply is = tt
  replied_looks (kinds.Reserve r) reply is = absurd is
  replied_looks (kinds.Sweep c) reply is = absurd is

  asked_looks : (y : Machine K V K) → IsLooking y → IsLooking (machine_asked y).0
  asked_looks (kinds.Key p) is = is
  asked_looks (kinds.Count sum) is = tt
  asked_looks (kinds.Reserve r) is = absurd is
  asked_looks (kinds.Sweep c) is = absurd is

  abbrev looks_mark : CallThere K V → Bool
  looks_mark c = only_looks c.call

  as_called : (c d : CallThere K V) → HasAsMuch c d → looks_mark d ≡ looks_mark c
  as_called c d has = ap only_looks has.3

  -- A lookup is given no pair, and is to get; so it begins to look.

  gets_given : (one : OneKey K V) (asked : List (Asked V)) → is_lookup one ≡ true → ◌≡◌ {A = Given K V} (given_by one asked) (Begun gets None)
  gets_given (one_key.Get k) asked is = refl
  gets_given (one_key.GetKeyValue k) asked is = refl
  gets_given (one_key.ContainsKey k) asked is = refl
  gets_given _ asked is = absurd (cc is)

  begins_so : (same : K → K → Bool) (hash : K → ℕ) (setting : Setting) (slot : ℕ → ℕ) (i : ℕ) (keys : K → Bool) (given : Given K V) (call : KeyCall K V K)
      → IsBegun V same hash same setting slot i keys given call → ◌≡◌ {A = Given K V} given (Begun gets None) → IsLookup call
  begins_so same hash setting slot i keys given call (Gets q code few class) e = (refl, tt)
  begins_so same hash setting slot i keys given call (Removes q code few class) e = absurd (let apart : there.Removes ≡ there.Answers = ap (λ (g : Given K V). (kind_of g).present) e in cc apart)
  begins_so same hash setting slot i keys given call (Inserts key value) e = absurd (cc e)
  begins_so same hash setting slot i keys given call (TriesToInsert key value) e = absurd (cc e)
  begins_so same hash setting slot i keys given call (Computes key) e = absurd (cc e)
  begins_so same hash setting slot i keys given call (Updates key) e = absurd (cc e)
  begins_so same hash setting slot i keys given call (UpdatesOrInserts key absent) e = absurd (cc e)
  begins_so same hash setting slot i keys given call (TriesToInsertWith key) e = absurd (cc e)
  begins_so same hash setting slot i keys given call (RemovesIf q code few class) e = absurd (cc e)

module _ (K V : Type 0) where
  pub looking_begins : LookingBegins K V
  looking_begins roots name map i u is c c_is e = absurd (cc is)

  pub stays_looking : StaysLooking K V
  stays_looking name m v s t looking calls under_way = stays_marked looks_mark IsLooking as_called name m v s t looking calls under_way

  pub calls_begin_looking : CallsBeginLooking K V
  calls_begin_looking name m s looking of i u call guard apart begins =
      begin_marked looks_mark IsLooking as_called name m s looking of i u call guard apart (λ d grown called e. begins (sym (ap only_looks called) ∙ e))

  pub lookups_begin : LookupsBegin K V
  lookups_begin same hash setting slot i keys one asked call begun is = begins_so same hash setting slot i keys (given_by one asked) call begun (gets_given one asked is)

  pub calls_take_looking : CallsTakeLooking K V
  calls_take_looking same name m known s whole looking of i u here reply next goes is_told =
      take_marked looks_mark IsLooking as_called name m s looking same whole.all.shown.calls of i u here next (λ so. subst IsLooking (sym goes) (replied_looks (machine_of u) reply so)) is_told

  pub calls_come_to_looking : CallsComeToLooking K V
  calls_come_to_looking same name m known s whole looking own o steps ended = come_marked looks_mark IsLooking as_called name m s looking same whole.all.shown.calls own o steps ended

module _ (K V : Type 0) (same : K → K → Bool) (hash : ℕ → K → ℕ) where
  pub walks_go_on_looking : WalksPreserveLooking K V same hash
  walks_go_on_looking name m s old new looking i leads map u here =
      let to = leads map u here in go_on_marked looks_mark IsLooking as_called name m s looking map i u here to.0 (λ so. subst IsLooking (sym to.1) (asked_looks (machine_of u) so))

  pub walks_stop_looking : WalksStopLooking K V same hash
  walks_stop_looking name m known s old new whole looking i stopped leads map u here none =
      stop_marked looks_mark IsLooking as_called name m s looking same whole.all.shown.calls map i u here stopped none

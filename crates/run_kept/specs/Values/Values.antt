-- The value that the caller of a call keeps, to tell it back: of `try_insert` its own, and of `compute` the one with which it was told to abort.
use Rattle.std.specs.Prelude.{◌≡◌, ℕ, Bool, List, [], ◌∷◌, Option, Some, Ok}
use Rattle.papaya_raw.specs.Given.TablesDeclared.node.Node.{Node}
use Rattle.papaya_raw.specs.Given.TablesDeclared.setting.Setting.{Setting}
use Rattle.papaya_raw.specs.Machine.{machine_replied}
use Rattle.papaya_raw.specs.declared.machines.answer.End.TheVariants as ends
use Rattle.papaya_raw.specs.declared.machines.answer.KeyAnswer.TheVariants as answers
use Rattle.papaya_raw.specs.declared.machines.progress.Answer.TheVariants as said
use Rattle.papaya_raw.specs.declared.machines.call.Calling.{Calling}
use Rattle.papaya_raw.specs.declared.machines.call.Calling.TheVariants as at
use Rattle.papaya_raw.specs.declared.machines.machine.Machine.{Machine}
use Rattle.papaya_raw.specs.declared.machines.machine.Machine.TheVariants as kinds
use Rattle.papaya_raw.specs.declared.machines.progress.Progress.{Progress}
use Rattle.papaya_raw.specs.declared.machines.progress.Progress.TheVariants as progress
use Rattle.run_schedules.specs.declared.call.Call.{Call}
use Rattle.run_schedules.specs.declared.call.Call.TheVariants.{On}
use Rattle.run_schedules.specs.declared.call.OneKey.TheVariants.{Compute, TryInsert}
use Rattle.run_schedules.specs.declared.call.Reply.{Reply}
use Rattle.run_schedules.specs.declared.call.Reply.TheVariants.{Aborts}
use Rattle.run_schedules.specs.Schedules.Moment.{Asking, UnderWay as CallThere, Moment}
use Rattle.run_schedules.specs.Schedules.Views.{call_of, reply_to}
use Rattle.run_executor.specs.Given.CallersTogether.{UnderWay}
use Rattle.run_executor.specs.Given.EffectsKnown.{Known}
use Rattle.run_executor.specs.Given.FinishesMachines.{machine_of}
use Rattle.run_executor.specs.Given.FinishesMaps.{Standing}
use Rattle.run_executor.specs.Given.HandsAsked.{reply_to_machine}
use Rattle.run_executor.specs.Given.MomentsWhole.{RefinesWhole}
use Rattle.run_executor.specs.Named.Machines.{aborted_by, machine_for}
use Rattle.run_executor.specs.Named.Seen.{kind_of}
use Rattle.run_executor.specs.Named.Telling.{kept}
use Rattle.run_executor.specs.declared.kind.CallKind.{CallKind}
use Rattle.run_executor.specs.Given.ScenesHeld.{Held, IsAt}
use Rattle.run_executor.specs.Given.ScenesScene.{Scene}
use Rattle.run_executor.specs.Given.ScenesStepping.{StepLeads}

-- a call on one key has come to its end, or gives up its own block before
abbrev pub IsEnding : Calling → Type 0
IsEnding (at.Drops end) = Unit {0}
IsEnding (at.Over end) = Unit {0}
IsEnding _ = ⊥

-- What the caller of a call keeps, by the call, its replies and its machine: of `try_insert` its own value, once it is about to answer that the key is there;
-- and of `compute` the one with which it was told to abort, and then it terminates.
abbrev pub KeepsValue : {K V : Type 0} → Call K V → List (Option ℕ × Reply V) → Machine K V K → Option V → Type 0
KeepsValue (On (TryInsert k v)) replies (kinds.Key p) value = (word : ℕ) → p.stands ≡ at.Over (ends.Answered (answers.Found word)) → value ≡ Some v
KeepsValue {K} {V} (On (Compute k)) replies (kinds.Key p) value = (about : Option ℕ) (v : V) → reply_to about replies ≡ Some (Aborts v) → IsEnding p.stands × (value ≡ Some v)
KeepsValue call replies machine value = Unit {0}

-- what it keeps after a step that says this
abbrev pub kept_after : {K V : Type 0} → CallKind → Progress (Node K V) → Option V → Option V
kept_after its (progress.Unstored node) value = kept its node value
kept_after its said value = value

module _ (K V : Type 0) where
  -- The promises: there is nothing to keep as a call begins,
  abbrev pub ValuesBegin : Type 0
  ValuesBegin = (setting : Setting) (hash : K → ℕ) (call : Call K V) (value : Option V) → KeepsValue call [] (machine_for setting hash call) value

module _ (K V : Type 0) (same : K → K → Bool) (hash : ℕ → K → ℕ) where
  -- after each step by which its call goes on it keeps what it must,
  abbrev pub ValuesContinue : Type 0
  ValuesContinue =
      (name : ℕ → List ℕ) (m : Moment K V) (known : Known) (s : Scene K V) (old new : Held K V) → IsAt same hash old s → RefinesWhole same name m known s
      → (map i : ℕ) (u : UnderWay K V K) (here : s.calls map i ≡ Some u) (said : Progress (Node K V)) (leads : StepLeads same hash i said s old new)
      → (c : CallThere K V) → call_of (name i) m ≡ Some c → (value : Option V) → KeepsValue c.call c.replies (machine_of u) value
      → (next : UnderWay K V K) → (leads map u here).4.next ≡ Some next → KeepsValue c.call c.replies (machine_of next) (kept_after (kind_of c.call) said value)

  -- and where the call takes a reply;
  abbrev pub ValuesTaken : Type 0
  ValuesTaken =
      (name : ℕ → List ℕ) (m : Moment K V) (known : Known) (s : Scene K V) (e : Held K V) → IsAt same hash e s → RefinesWhole same name m known s
      → (map i : ℕ) (u : UnderWay K V K) → s.calls map i ≡ Some u → (standing : Standing K) → s.maps map ≡ Some standing
      → (c : CallThere K V) → call_of (name i) m ≡ Some c → (question : Option ℕ) → c.stands ≡ Asking question
      → (reply : Reply V) → (machine_replied (machine_of u) (reply_to_machine reply)).1 ≡ Ok tt
      → (value : Option V) → KeepsValue c.call c.replies (machine_of u) value
      → KeepsValue c.call ((question, reply) ∷ c.replies) (machine_replied (machine_of u) (reply_to_machine reply)).0 (aborted_by reply)

  -- and where `try_insert` answers that its key is there, its caller keeps its value.
  abbrev pub InsertsTellTheirs : Type 0
  InsertsTellTheirs =
      (name : ℕ → List ℕ) (m : Moment K V) (known : Known) (s : Scene K V) (old new : Held K V) → IsAt same hash old s → RefinesWhole same name m known s
      → (map i : ℕ) (u : UnderWay K V K) (here : s.calls map i ≡ Some u) (word : ℕ) → StepLeads same hash i (progress.Done (said.Key (answers.Found word))) s old new
      → (c : CallThere K V) → call_of (name i) m ≡ Some c → (k : K) (v : V) → c.call ≡ On (TryInsert k v) → (value : Option V) → KeepsValue c.call c.replies (machine_of u) value → value ≡ Some v

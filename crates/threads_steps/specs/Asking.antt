-- The course of a call that asks: its own steps, and what it was told, of pairs that were shown to who has told it.
use Rattle.std.specs.Prelude.{◌≡◌, ◌⊎◌, ℕ, zero, suc, Bool, true, false, Option, Some, None, Result}
use Rattle.std.specs.Fn.{Shared, FnReturns}
use denote.Ref.{Bor}
use Rattle.seize_words.specs.declared.fault.Fault.{Fault}
use Rattle.seize_words.specs.OneMemory.Word.{block_in}
use Rattle.map_tables.specs.declared.node.Node.{Node}
use Rattle.map_tables.specs.declared.node.Node.TheVariants.{Pair}
use Rattle.threads_rule.specs.Given.ActsActs.{Wanted}
use Rattle.map_tables.specs.declared.resize_mode.ResizeMode.TheVariants.{Blocking}
use Rattle.map_machines.specs.declared.sum.Summing.TheVariants.{Over}
use Rattle.papaya_raw.specs.declared.machines.answer.There.TheVariants as there
use Rattle.papaya_raw.specs.declared.machines.answer.Missing.TheVariants as missing
use Rattle.papaya_raw.specs.declared.machines.asking.Takes.TheVariants as takes
use Rattle.papaya_raw.specs.declared.machines.asking.Asking.TheVariants as asking
use Rattle.papaya_raw.specs.declared.machines.asking.Gap.{Gap}
use Rattle.papaya_raw.specs.declared.machines.asking.MachineReply.{MachineReply}
use Rattle.papaya_raw.specs.declared.machines.asking.MachineReply.TheVariants as reply
use Rattle.papaya_raw.specs.declared.machines.call.Calling.TheVariants.{Asks}
use Rattle.papaya_raw.specs.declared.machines.machine.Machine.{Machine}
use Rattle.papaya_raw.specs.declared.machines.machine.Machine.TheVariants.{Key, Count}
use Rattle.papaya_raw.specs.declared.machines.progress.Answer.{Answer}
use Rattle.papaya_raw.specs.declared.machines.progress.Progress.{Progress}
use Rattle.papaya_raw.specs.declared.machines.progress.Progress.TheVariants as progress
use Rattle.threads_rule.specs.Views.Begun.{replied}
use Rattle.threads_rule.specs.Views.Looks.{shown_in}
use Rattle.threads_rule.specs.declared.view.View.{View}
use Rattle.threads_rule.specs.declared.view.SeatWork.TheVariants.{Nothing, Calls}
use Rattle.threads_rule.specs.Errands.Calling.{HasEnded, IsAsking, outcome_of}
use Rattle.threads_kinds.specs.CallKinds.Kinds.{Kind, Stage}
use Rattle.threads_kinds.specs.CallKinds.Shows.{AnsweredAreVisible}
use Rattle.threads_rule.specs.Errands.Looking.{Begins, HasRun, StaysThere}
use Rattle.threads_steps.specs.Steps.{HasStepped}
use Rattle.threads_steps.specs.declared.within.asking.Halt.{Halt}
use Rattle.threads_steps.specs.declared.within.asking.Halt.TheVariants as pause

-- it asks with this pair, which is shown, or where the key is missing
abbrev pub AsksWith : {K V Q : Type 0} → (ℕ → Option (Node K V)) → Option (K × V) → Machine K V Q → Type 0
AsksWith shown None (Key c) = (gap : Gap) × (c.stands ≡ Asks (asking.Absent gap))
AsksWith shown (Some pair) (Key c) = (word : ℕ) × (c.stands ≡ Asks (asking.Present word)) × (shown (block_in word) ≡ Some (Pair pair.0 pair.1))
AsksWith shown pair _ = ⊥

-- a counting that has ended
abbrev pub counts_none : {K V Q : Type 0} → Machine K V Q
counts_none = Count record { setting = record { slot = 0; batch_size = 0; root = 0; mode = Blocking; counter = 0; mask = 0; initial = 0 }; stands = Over 0 }

-- a call that stores what is made where its key is missing,
abbrev pub makes_pair : Kind
makes_pair = record { present = there.Answers; absent = missing.Asks; takes = takes.Values }

-- and one that removes a pair of which a test says yes
abbrev pub removes_if : Kind
removes_if = record { present = there.Asks; absent = missing.Answers; takes = takes.Choices }

-- what a step of a call on one key tells
abbrev pub IsOfCall : {T : Type 0} → Progress T → Type 0
IsOfCall progress.Ready = ⊥
IsOfCall (progress.Pair pair) = ⊥
IsOfCall told = Unit {0}

-- what it tells where it pauses
abbrev pub progress_at : {T : Type 0} → Halt → Progress T
progress_at (pause.Asks pair) = progress.Asks pair
progress_at (pause.Ended answer) = outcome_of answer

module _ {K V S : Type 0} where
  -- its call has asked, and was told something that is said of the pair with which it has asked
  abbrev pub WasReplied : (Option (K × V) → MachineReply V → Type 0) → View K V S → View K V S → Type 0
  WasReplied says v w =
      (machine : Machine K V K) × (pair : Option (K × V)) × (told : MachineReply V) × (v.work ≡ Calls machine) × AsksWith (shown_in v.held) pair machine × says pair told
      × (w ≡ replied v machine told)

  -- it has asked, or has ended
  abbrev pub PausedSo : Kind → Stage → S → Machine K V K → Halt → View K V S → View K V S → Type 0
  PausedSo k s hasher machine (pause.Asks pair) v w = IsAsking k s hasher pair machine w
  PausedSo k s hasher machine (pause.Ended answer) v w = HasEnded answer v w

  module _ (same : K → K → Bool) (hash : S → K → ℕ) where
    -- so many steps of its call, or answers to what that has asked
    abbrev pub HasGone : (Option (K × V) → MachineReply V → Type 0) → ℕ → View K V S → View K V S → Type 0
    HasGone says zero v w = w ≡ v
    HasGone says (suc n) v w = (u : View K V S) × HasGone says n v u × (HasStepped same hash u w ⊎ WasReplied says u w)

    -- It has begun to do this, and its call was told what is said of the pairs with which it has asked.
    abbrev pub HasAsked : (Option (K × V) → MachineReply V → Type 0) → Wanted K V → View K V S → View K V S → Type 0
    HasAsked says wanted v w = (u : View K V S) × (n : ℕ) × Begins same hash wanted v u × HasGone says n u w

    -- what such a call has come to that has ended
    pub record HasAnswered (says : Option (K × V) → MachineReply V → Type 0) (wanted : Wanted K V) (answer : Result Answer Fault) (v w : View K V S) : Type 0 where
      pub free : w.work ≡ Nothing
      pub stays : StaysThere v w
      pub ran : HasRun same hash wanted (outcome_of answer) v w
      pub asked : HasAsked says wanted v w
      pub shows : AnsweredAreVisible (outcome_of answer) (shown_in w.held)

-- nothing was told
abbrev pub NoneSaid : {K V : Type 0} → Option (K × V) → MachineReply V → Type 0
NoneSaid pair told = ⊥

-- a test may answer so of a pair
abbrev pub MayTest : {F K V : Type 0} → Shared F (Bor K × (Bor V × Unit {0})) Bool → F → K → V → Bool → Type 0
MayTest {F} {K} {V} g f key value answer = (p : Bor K) × (q : Bor V) × FnReturns g f (p, (q, tt)) answer × (p.now ≡ key) × (q.now ≡ value)

-- a yes removes the pair
abbrev pub reply_of : {V : Type 0} → Bool → MachineReply V
reply_of true = reply.Yes
reply_of false = reply.No

-- what a test says of a pair: yes removes it
abbrev pub TestSays : {K V : Type 0} → (K → V → Bool → Type 0) → Option (K × V) → MachineReply V → Type 0
TestSays test (Some pair) reply.Yes = test pair.0 pair.1 true
TestSays test (Some pair) reply.No = test pair.0 pair.1 false
TestSays test pair told = ⊥

-- what is stored where the key is missing is what was made
abbrev pub MakingSays : {K V : Type 0} → (V → Type 0) → Option (K × V) → MachineReply V → Type 0
MakingSays makes None (reply.Insert value) = makes value
MakingSays makes pair told = ⊥

-- What a seat knows while it goes over the pairs of a map, and once it has: a walk shows them, and a retaining asks which are to be kept.
use Rattle.std.specs.Prelude.{◌≡◌, ℕ, Bool, Some, None, Result, Ok, Err}
use Rattle.seize_words.specs.declared.fault.Fault.{Fault}
use Rattle.map_tables.specs.declared.node.Node.{Node}
use Rattle.map_tables.specs.declared.setting.Setting.{Setting}
use Rattle.papaya_raw.specs.Given.ReservesDeclared.sweep.Purpose.{Purpose}
use Rattle.papaya_raw.specs.Given.ReservesDeclared.sweep.Purpose.TheVariants.{Walks, Retains}
use Rattle.papaya_raw.specs.Given.ReservesDeclared.sweep.Sweeping.{Sweeping}
use Rattle.papaya_raw.specs.Given.ReservesDeclared.sweep.Sweeping.TheVariants as at
use Rattle.papaya_raw.specs.Given.SweepsSweepPoints.{sweeping}
use Rattle.papaya_raw.specs.declared.machines.machine.Machine.{Machine}
use Rattle.papaya_raw.specs.declared.machines.machine.Machine.TheVariants.{Sweep as OverAll}
use Rattle.papaya_raw.specs.declared.machines.progress.Answer.{Answer}
use Rattle.papaya_raw.specs.declared.machines.progress.Answer.TheVariants as said
use Rattle.papaya_raw.specs.declared.machines.progress.Progress.{Progress}
use Rattle.papaya_raw.specs.declared.machines.progress.Progress.TheVariants as progress
use Rattle.many_acts.specs.Acts.Acts.{GoOver}
use Rattle.threads_kinds.specs.CallKinds.Kinds.{PairIsVisible}
use Rattle.threads_kinds.specs.CallKinds.Sweeps.{IsFor}
use Rattle.threads_rule.specs.Views.Looks.{shown_in}
use Rattle.threads_rule.specs.declared.view.View.{View}
use Rattle.threads_rule.specs.declared.view.SeatWork.TheVariants.{Nothing}
use Rattle.threads_rule.specs.Errands.Calling.{MayDo, Works, outcome_of}
use Rattle.threads_rule.specs.Errands.Looking.{HasRun, StaysThere}

-- it does not ask
abbrev pub AsksNot : Sweeping → Type 0
AsksNot (at.Asks word) = ⊥
AsksNot stands = Unit {0}

module _ {K V Q : Type 0} where
  -- a sweep of this purpose, which does not ask,
  abbrev pub GoesOver : Purpose → Machine K V Q → Type 0
  GoesOver purpose (OverAll c) = IsFor purpose c × AsksNot c.stands
  GoesOver purpose machine = ⊥

  -- one that is ready for its next pair,
  abbrev pub IsReadyOne : Machine K V Q → Type 0
  IsReadyOne (OverAll c) = IsFor Walks c × (c.stands ≡ at.Ready)
  IsReadyOne machine = ⊥

  -- or one that asks about the pair of this word
  abbrev pub AsksOf : ℕ → Machine K V Q → Type 0
  AsksOf word (OverAll c) = IsFor Retains c × (c.stands ≡ at.Asks word)
  AsksOf word machine = ⊥

-- how it has ended
abbrev pub swept_by : Result Unit Fault → Result Answer Fault
swept_by (Ok done) = Ok said.Swept
swept_by (Err fault) = Err fault

module _ {K V S : Type 0} where
  -- a sweep of this purpose is under way, and does not ask
  pub record IsSweeping (purpose : Purpose) (hasher : S) (machine : Machine K V K) (v : View K V S) : Type 0 where
    pub at : Works hasher machine v
    pub goes : GoesOver purpose machine

  -- a walk is ready for its next pair
  pub record IsReady (hasher : S) (machine : Machine K V K) (v : View K V S) : Type 0 where
    pub at : Works hasher machine v
    pub ready : IsReadyOne machine

  -- a retaining asks about the pair of this word
  pub record IsAskingOf (hasher : S) (word : ℕ) (machine : Machine K V K) (v : View K V S) : Type 0 where
    pub at : Works hasher machine v
    pub asks : AsksOf word machine

  -- What a step of a walk tells: it goes on, is ready, or shows a pair, which its seat can look at, or has ended.
  abbrev pub WalkedSo : S → Machine K V K → Progress (Node K V) → View K V S → Type 0
  WalkedSo hasher machine progress.Ready v = IsReady hasher machine v
  WalkedSo hasher machine (progress.Pair word) v = IsReady hasher machine v × PairIsVisible (shown_in v.held) word
  WalkedSo hasher machine (progress.Asks pair) v = ⊥
  WalkedSo hasher machine (progress.Done said.Swept) v = v.work ≡ Nothing
  WalkedSo hasher machine (progress.Done answer) v = ⊥
  WalkedSo hasher machine (progress.Refused fault) v = v.work ≡ Nothing
  WalkedSo hasher machine told v = IsSweeping Walks hasher machine v

  -- What a step of a retaining tells: it goes on, asks about a pair, which its seat can look at, or has ended.
  abbrev pub RetainedSo : S → Machine K V K → Progress (Node K V) → View K V S → Type 0
  RetainedSo hasher machine (progress.Asks (Some word)) v = IsAskingOf hasher word machine v × PairIsVisible (shown_in v.held) word
  RetainedSo hasher machine (progress.Asks None) v = ⊥
  RetainedSo hasher machine progress.Ready v = ⊥
  RetainedSo hasher machine (progress.Pair word) v = ⊥
  RetainedSo hasher machine (progress.Done said.Swept) v = v.work ≡ Nothing
  RetainedSo hasher machine (progress.Done answer) v = ⊥
  RetainedSo hasher machine (progress.Refused fault) v = v.work ≡ Nothing
  RetainedSo hasher machine told v = IsSweeping Retains hasher machine v

  module _ (same : K → K → Bool) (hash : S → K → ℕ) where
    -- within a section, with nothing else under way, it may go over the pairs of the map that it knows, for this purpose, by this machine
    pub record MayGoOver (purpose : Purpose) (hasher : S) (machine : Machine K V K) (v : View K V S) : Type 0 where
      pub may : MayDo same hash hasher machine v
      pub setting : Setting
      pub is : machine ≡ OverAll (sweeping setting purpose)

    -- what a call has come to that has gone over all pairs for this, or was refused
    pub record HasGoneOver (purpose : Purpose) (end : Result Unit Fault) (v w : View K V S) : Type 0 where
      pub free : w.work ≡ Nothing
      pub stays : StaysThere v w
      pub ran : HasRun same hash (GoOver purpose) (outcome_of (swept_by end)) v w

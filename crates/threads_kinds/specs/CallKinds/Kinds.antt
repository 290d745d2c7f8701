-- Which calls on one key there are, and how far one has come that asks: what it was told, and what it has of its own.
use Rattle.std.specs.Prelude.{◌≡◌, ◌⊎◌, ℕ, Bool, true, false, Option, Some, None}
use Rattle.seize_words.specs.OneMemory.Word.{block_in}
use Rattle.map_tables.specs.declared.node.Node.{Node}
use Rattle.map_tables.specs.declared.node.Node.TheVariants.{Pair}
use Rattle.papaya_raw.specs.declared.machines.answer.Called.{Called}
use Rattle.papaya_raw.specs.declared.machines.answer.Called.TheVariants.{Asks}
use Rattle.papaya_raw.specs.declared.machines.answer.There.{There}
use Rattle.papaya_raw.specs.declared.machines.answer.There.TheVariants as there
use Rattle.papaya_raw.specs.declared.machines.answer.Missing.{Missing}
use Rattle.papaya_raw.specs.declared.machines.answer.Missing.TheVariants as missing
use Rattle.papaya_raw.specs.declared.machines.asking.Asking.TheVariants as asking
use Rattle.papaya_raw.specs.declared.machines.asking.Gap.{Gap}
use Rattle.papaya_raw.specs.declared.machines.asking.Replies.{Replies}
use Rattle.papaya_raw.specs.declared.machines.asking.MachineReply.{MachineReply}
use Rattle.papaya_raw.specs.declared.machines.asking.MachineReply.TheVariants as reply
use Rattle.papaya_raw.specs.declared.machines.asking.Takes.{Takes}
use Rattle.papaya_raw.specs.declared.machines.asking.Takes.TheVariants as takes
use Rattle.papaya_raw.specs.declared.machines.asking.Told.{Told}
use Rattle.papaya_raw.specs.declared.machines.asking.Told.TheVariants as tells
use Rattle.papaya_raw.specs.declared.machines.call.Calling.{Calling}
use Rattle.papaya_raw.specs.declared.machines.call.Calling.TheVariants as at
use Rattle.papaya_raw.specs.declared.machines.call.KeyCall.{KeyCall}

-- what a call does where the key is there, and where it is missing, and which replies it takes
pub record Kind : Type 0 where
  pub present : There
  pub absent : Missing
  pub takes : Takes

abbrev pub kind_of : {K V Q : Type 0} → KeyCall K V Q → Kind
kind_of c = record { present = c.there; absent = c.missing; takes = c.replies.takes }

-- whether it was told a value, and whether it was told what to do where the key is missing
pub record Stage : Type 0 where
  pub told : Bool
  pub gap : Bool

module _ {V : Type 0} where
  -- it was told nothing,
  abbrev pub IsUntold : Told V → Type 0
  IsUntold tells.Nothing = Unit {0}
  IsUntold _ = ⊥

  -- or something,
  abbrev pub IsReplied : Told V → Type 0
  IsReplied tells.Nothing = ⊥
  IsReplied _ = Unit {0}

  -- or what is no value that it has still to put into its own block
  abbrev pub IsNoValue : Told V → Type 0
  IsNoValue (tells.Value value) = ⊥
  IsNoValue _ = Unit {0}

  -- there is at most one such value
  abbrev pub IsOneValue : Told V → Told V → Type 0
  IsOneValue (tells.Value one) (tells.Value other) = ⊥
  IsOneValue _ _ = Unit {0}

  -- where the key is missing there is nothing to remove
  abbrev pub IsOfGap : Told V → Type 0
  IsOfGap tells.Removes = ⊥
  IsOfGap _ = Unit {0}

  abbrev pub IsGapReplied : Bool → Told V → Type 0
  IsGapReplied true told = IsReplied told
  IsGapReplied false told = Unit {0}

-- it has its key, and no block of its own
abbrev pub IsFresh : {K : Type 0} → Option K → ℕ → Type 0
IsFresh {K} key own = (k : K) × (key ≡ Some k) × (own ≡ 0)

module _ {K V : Type 0} where
  -- What it was told: no value yet, or one; and as long as that is not in its own block, it has none.
  abbrev pub HoldsBy : Bool → Replies K V → ℕ → Type 0
  HoldsBy false r own = IsFresh r.key own × IsUntold r.absent × IsNoValue r.present
  HoldsBy true r own = IsOfGap r.absent × ((IsFresh r.key own × IsOneValue r.absent r.present) ⊎ (IsNoValue r.absent × IsNoValue r.present))

  -- It stands where it does not ask: its own block is made, or given up, where no value is left; and a value is put into one where it has none.
  abbrev pub IsAtPointSo : Bool → Replies K V → ℕ → Calling → Type 0
  IsAtPointSo told r own at.Makes = (told ≡ true) × IsNoValue r.absent × IsNoValue r.present
  IsAtPointSo told r own (at.Asks (asking.Absent gap)) = ⊥
  IsAtPointSo told r own (at.Asks (asking.Present word)) = ⊥
  IsAtPointSo told r own (at.Asks (asking.Fills word)) = IsFresh r.key own
  IsAtPointSo told r own (at.Asks (asking.GivesUp word)) = (told ≡ true) × IsNoValue r.absent × IsNoValue r.present
  IsAtPointSo told r own _ = Unit {0}

  -- the pair of a word is shown
  abbrev pub PairIsVisible : (ℕ → Option (Node K V)) → ℕ → Type 0
  PairIsVisible shown word = (key : K) × (value : V) × (shown (block_in word) ≡ Some (Pair key value))

module _ {K V Q : Type 0} where
  -- it asks what to do where the key is missing,
  pub record AsksAbsent (k : Kind) (c : KeyCall K V Q) : Type 0 where
    pub gap : Gap
    pub asks : k.absent ≡ missing.Asks
    pub here : c.stands ≡ at.Asks (asking.Absent gap)
    pub untold : IsUntold c.replies.absent

  -- or with the pair of a word, which is shown
  pub record AsksPresent (k : Kind) (shown : ℕ → Option (Node K V)) (word : ℕ) (c : KeyCall K V Q) : Type 0 where
    pub asks : k.present ≡ there.Asks
    pub here : c.stands ≡ at.Asks (asking.Present word)
    pub shows : PairIsVisible shown word

  -- wherever it stands, it is a call of this kind, and has come so far
  pub record IsSo (k : Kind) (s : Stage) (c : KeyCall K V Q) : Type 0 where
    pub kind : kind_of c ≡ k
    pub holds : HoldsBy s.told c.replies c.own
    pub gap : IsGapReplied s.gap c.replies.absent

  -- and its next step goes on
  pub record Continues (k : Kind) (s : Stage) (c : KeyCall K V Q) : Type 0 where
    pub so : IsSo k s c
    pub here : IsAtPointSo s.told c.replies c.own c.stands

  -- or it asks
  abbrev pub AsksSo : Kind → Stage → (ℕ → Option (Node K V)) → Option ℕ → KeyCall K V Q → Type 0
  AsksSo k s shown None c = IsSo k s c × AsksAbsent k c
  AsksSo k s shown (Some word) c = IsSo k s c × AsksPresent k shown word c

  -- what a step of it tells
  abbrev pub SaysSo : Kind → Stage → (ℕ → Option (Node K V)) → KeyCall K V Q × Called (Node K V) → Type 0
  SaysSo k s shown (c, Asks pair) = AsksSo k s shown pair c
  SaysSo k s shown (c, told) = Continues k s c

-- it takes a value,
abbrev pub TakesValues : Takes → Type 0
TakesValues takes.Values = Unit {0}
TakesValues takes.Changes = Unit {0}
TakesValues _ = ⊥

-- or that the pair is to be removed, or that nothing is to change,
abbrev pub TakesChanges : Takes → Type 0
TakesChanges takes.Changes = Unit {0}
TakesChanges _ = ⊥

-- or yes and no
abbrev pub TakesChoices : Takes → Type 0
TakesChoices takes.Choices = Unit {0}
TakesChoices _ = ⊥

module _ {V : Type 0} where
  -- What may be told where it asks, by which replies it takes: a value only once.
  abbrev pub IsFit : Takes → Bool → Option ℕ → MachineReply V → Type 0
  IsFit kind told pair (reply.Insert value) = TakesValues kind × (told ≡ false)
  IsFit kind told pair reply.Remove = TakesChanges kind
  IsFit kind told pair reply.Abort = TakesChanges kind
  IsFit kind told (Some word) reply.Yes = TakesChoices kind
  IsFit kind told (Some word) reply.No = TakesChoices kind
  IsFit kind told None reply.Yes = ⊥
  IsFit kind told None reply.No = ⊥

  -- how far it has come then
  abbrev pub stage_after : Stage → Option ℕ → MachineReply V → Stage
  stage_after s None (reply.Insert value) = record { told = true; gap = true }
  stage_after s (Some word) (reply.Insert value) = record { told = true; gap = s.gap }
  stage_after s pair told = s

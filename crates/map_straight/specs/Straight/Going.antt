-- Which outcomes of each machine go on, and so what may be run of it, and where that leads.
use Rattle.std.specs.Prelude.{ℕ, Bool, Option}
use Rattle.seize_words.specs.OneMemory.Op.{Op, Out}
use Rattle.seize.specs.declared.advance.Advance.{Advance}
use Rattle.seize.specs.declared.advance.Advance.TheVariants as progress
use Rattle.seize.specs.declared.rows.settle.Settled.{Settled}
use Rattle.map_tables.specs.declared.node.Node.{Node}
use Rattle.map_machines.specs.Copier.{copier_plan}
use Rattle.map_machines.specs.declared.copier.Copier.{Copier}
use Rattle.map_machines.specs.Dispose.{dispose_plan}
use Rattle.map_machines.specs.declared.dispose.Dispose.{Dispose}
use Rattle.map_machines.specs.declared.yielding.Yielding.{Yielding}
use Rattle.map_machines.specs.declared.yielding.Yielding.TheVariants as outcome
use Rattle.map_machines.specs.Lookup.{lookup_plan}
use Rattle.map_machines.specs.declared.lookup.Lookup.{Lookup}
use Rattle.papaya_raw.specs.Call.{call_plan}
use Rattle.papaya_raw.specs.declared.machines.answer.Called.{Called}
use Rattle.papaya_raw.specs.declared.machines.answer.Called.TheVariants as called
use Rattle.papaya_raw.specs.declared.machines.call.KeyCall.{KeyCall}
use Rattle.seize_straight.specs.Going.{SettleGoes}
use Rattle.seize_straight.specs.Reaches.{Reached, Reaches}
use Rattle.seize_straight.specs.Runs.{Leads, MayRun}

-- a call on a key that tells this takes a further step
abbrev pub CallGoes : {T : Type 0} → Called T → Type 0
CallGoes called.Goes = Unit {0}
CallGoes called.Waits = Unit {0}
CallGoes _ = ⊥

-- and a copying
abbrev pub CopyGoes : {T A : Type 0} → Yielding T A → Type 0
CopyGoes outcome.Goes = Unit {0}
CopyGoes outcome.Waits = Unit {0}
CopyGoes _ = ⊥

module _ {K V Q M : Type 0} (asks : Q → K → Bool) (eq : K → K → Bool) (hash : K → ℕ)
    (took : M → Op (Node K V) → Out (Node K V) → M → Type 0) (shown : M → ℕ → Option (Node K V)) where
  -- a call on a key may be run from this point on
  abbrev pub MayCall : (M → Op (Node K V) → Type 0) → KeyCall K V Q → M → Type 0
  MayCall = MayRun (CallGoes {T = Node K V}) took shown (call_plan asks eq hash)

  -- steps of it lead from the one point to the other
  abbrev pub CallLeads : KeyCall K V Q → M → KeyCall K V Q → M → Type 0
  CallLeads = Leads (CallGoes {T = Node K V}) took shown (call_plan asks eq hash)

  -- it has come to a point, or to what it told
  abbrev pub CallReaches : KeyCall K V Q → M → M → Reached (KeyCall K V Q) (Called (Node K V)) → Type 0
  CallReaches = Reaches (CallGoes {T = Node K V}) took shown (call_plan asks eq hash)

module _ {K V M : Type 0} (took : M → Op (Node K V) → Out (Node K V) → M → Type 0) (shown : M → ℕ → Option (Node K V)) where
  -- a disposal may be run from this point on
  abbrev pub MayDispose : (M → Op (Node K V) → Type 0) → Dispose → M → Type 0
  MayDispose = MayRun (SettleGoes {T = Node K V}) took shown dispose_plan

  -- steps of it lead from the one point to the other
  abbrev pub DisposeLeads : Dispose → M → Dispose → M → Type 0
  DisposeLeads = Leads (SettleGoes {T = Node K V}) took shown dispose_plan

  -- it has come to a point, or to what it told
  abbrev pub DisposeReaches : Dispose → M → M → Reached Dispose (Settled (Node K V)) → Type 0
  DisposeReaches = Reaches (SettleGoes {T = Node K V}) took shown dispose_plan

module _ {K V M : Type 0} (hash : K → ℕ) (took : M → Op (Node K V) → Out (Node K V) → M → Type 0) (shown : M → ℕ → Option (Node K V)) where
  -- a copying may be run from this point on
  abbrev pub MayCopy : (M → Op (Node K V) → Type 0) → Copier → M → Type 0
  MayCopy = MayRun (CopyGoes {T = Node K V}) took shown (copier_plan hash)

  -- steps of it lead from the one point to the other
  abbrev pub CopyLeads : Copier → M → Copier → M → Type 0
  CopyLeads = Leads (CopyGoes {T = Node K V}) took shown (copier_plan hash)

-- a lookup goes on
abbrev pub LookGoes : {A : Type 0} → Advance A → Type 0
LookGoes progress.Goes = Unit {0}
LookGoes progress.Waits = Unit {0}
LookGoes _ = ⊥

module _ {K V M : Type 0} (keys : K → Bool) (took : M → Op (Node K V) → Out (Node K V) → M → Type 0) (shown : M → ℕ → Option (Node K V)) where
  -- a lookup may be run from this point on
  abbrev pub MayLook : (M → Op (Node K V) → Type 0) → Lookup → M → Type 0
  MayLook = MayRun (LookGoes {A = Option ℕ}) took shown (lookup_plan keys)

  -- steps of it lead from the one point to the other
  abbrev pub LookLeads : Lookup → M → Lookup → M → Type 0
  LookLeads = Leads (LookGoes {A = Option ℕ}) took shown (lookup_plan keys)

  -- it has come to a point, or to what it told
  abbrev pub LookReaches : Lookup → M → M → Reached Lookup (Advance (Option ℕ)) → Type 0
  LookReaches = Reaches (LookGoes {A = Option ℕ}) took shown (lookup_plan keys)

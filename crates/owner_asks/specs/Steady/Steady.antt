-- Changes of one owner's map that are never refused: those that store nothing, while the map has one table at most.
use Rattle.std.specs.Prelude.{◌≡◌, ℕ, ◌≤◌, ◌⊎◌, Bool, true, false, List, Result, IsOk}
use denote.Ref.{Bor}
use Rattle.seize_words.specs.OneMemory.Mem.{Mem}
use Rattle.seize_words.specs.declared.fault.Fault.{Fault}
use Rattle.seize.specs.Leave.{leaving}
use Rattle.seize.specs.declared.states.TheConstants.{ACTIVE}
use Rattle.map_tables.specs.Nodes.{deferred_word}
use Rattle.map_tables.specs.declared.node.Node.{Node}
use Rattle.map_tables.specs.declared.setting.Setting.{Setting}
use Rattle.papaya_raw.specs.Given.SweepsSweepPoints.{removes}
use Rattle.papaya_raw.specs.Given.ReservesDeclared.sweep.Purpose.{Purpose}
use Rattle.owner_calls.specs.Given.CallersKind.{Kind, removes_if}
use Rattle.owner_calls.specs.Given.CallersKind as kinds
use Rattle.owner_calls.specs.Given.CallersPairs.{Given, kind_of}
use Rattle.owner_calls.specs.Given.ShownChain.{CountsTables, root_link}
use Rattle.owner_calls.specs.Owned.Calling.{HasStopped}
use Rattle.owner_calls.specs.Given.StridesEnding.{RunsTo}
use Rattle.owner_calls.specs.Owned.Machines.{refreshes_plan}
use Rattle.owner_calls.specs.Owned.Owned.{Holds}
use Rattle.owner_calls.specs.declared.machines.OwnerRefresh.{OwnerRefresh}
use Rattle.owner_calls.specs.declared.machines.Stop.{Stop}
use Rattle.owner_calls.specs.Sifts.Sweeping.{HasSwept}

-- The words of a map show one table, or none: behind its first one there is none.
abbrev pub HasOneTable : {K V : Type 0} → Setting → Mem (Node K V) → Type 0
HasOneTable setting m = (tables : CountsTables m (root_link m setting)) × (tables.0 ≤ 1)

-- a call of this kind stores nothing: it removes a pair, or one that a test chooses
abbrev pub OnlyRemoves : Kind → Type 0
OnlyRemoves kind = (kind ≡ kinds.removes) ⊎ (kind ≡ removes_if)

-- Such a call is done, where the map had one table at most as it began, and wherever it stops, that is so.
abbrev pub RemovalsAreSteady : (K V Q S : Type 0) → Type 0
RemovalsAreSteady K V Q S =
    (asks : Q → K → Bool) (same : K → K → Bool) (hashes : S → K → ℕ) (b : Bor S) (setting : Setting) (m0 : Mem (Node K V)) (xs : List (K × V)) → Holds same (hashes b.now) setting m0 xs → HasOneTable setting m0
    → (keys : K → Bool) (given : Given K V) → OnlyRemoves (kind_of given)
    → (m : Mem (Node K V)) (result : Result Stop Fault) → HasStopped asks same hashes b setting m0 keys given m result → IsOk result × HasOneTable setting m

-- So is a sweep that removes pairs,
abbrev pub SweepsAreSteady : (K V S : Type 0) → Type 0
SweepsAreSteady K V S =
    (same : K → K → Bool) (hashes : S → K → ℕ) (b : Bor S) (setting : Setting) (m0 : Mem (Node K V)) (xs : List (K × V)) → Holds same (hashes b.now) setting m0 xs → HasOneTable setting m0
    → (purpose : Purpose) → removes purpose ≡ true → (m : Mem (Node K V)) (result : Result Unit Fault) → HasSwept hashes b setting purpose m0 m result → IsOk result × HasOneTable setting m

-- and a refresh leaves the map with one table at most.
abbrev pub RefreshesPreserveOneTable : (K V : Type 0) → Type 0
RefreshesPreserveOneTable K V =
    (same : K → K → Bool) (hash : K → ℕ) (setting : Setting) (m0 : Mem (Node K V)) (xs : List (K × V)) → Holds same hash setting m0 xs → HasOneTable setting m0
    → (y : OwnerRefresh) (m : Mem (Node K V)) (result : Result Unit Fault)
    → RunsTo (refreshes_plan deferred_word) (record { leave = leaving setting.slot setting.batch_size ACTIVE false }) m0 y m result → HasOneTable setting m

-- A call that stores a pair of its own, asked with that pair's key, as it stands while it is made without what it keeps.
use Rattle.std.specs.Prelude.{◌≡◌, ℕ, Bool, Option, Some, None, Result}
use denote.Ref.{Bor}
use Rattle.seize_words.specs.OneMemory.Mem.{Mem}
use Rattle.seize_words.specs.declared.fault.Fault.{Fault}
use Rattle.map_tables.specs.declared.node.Node.{Node}
use Rattle.map_tables.specs.declared.node.Node.TheVariants as nodes
use Rattle.map_tables.specs.declared.setting.Setting.{Setting}
use Rattle.map_tables.specs.declared.trial.Trial.{Trial}
use Rattle.papaya_raw.specs.CallPoints.{calling}
use Rattle.papaya_raw.specs.Replies.{silent}
use Rattle.papaya_raw.specs.declared.machines.answer.There.{There}
use Rattle.papaya_raw.specs.declared.machines.answer.Missing.TheVariants as missing
use Rattle.papaya_raw.specs.declared.machines.call.Calling.{Calling}
use Rattle.papaya_raw.specs.declared.machines.call.Calling.TheVariants as at
use Rattle.owner_calls.specs.Given.StridesEnding.{RunsTo}
use Rattle.owner_calls.specs.Owned.Machines.{on_key_plan}
use Rattle.owner_calls.specs.declared.machines.OnKey.{OnKey}
use Rattle.owner_calls.specs.declared.machines.Stop.{Stop}

module _ {K V S : Type 0} (setting : Setting) (hasher : Bor S) (hash : ℕ) (there : There) where
  -- it begins
  abbrev pub storing : K → V → OnKey K V K S
  storing key value = record { call = calling setting hash there missing.Puts None (Some (nodes.Pair key value)) silent at.Makes; hasher = hasher; unstored = None }

  -- its own block is made, to which this word links, and it stands there, at this try
  abbrev pub with_own : ℕ → Trial → Calling → OnKey K V K S
  with_own own trial stands = record { call = record (calling setting hash there missing.Puts None None silent stands) { own = own; trial = trial }; hasher = hasher; unstored = None }

module _ {K V S : Type 0} (same : K → K → Bool) (hashes : S → K → ℕ) where
  -- a run from there has ended here, with this result; its own pair came back, or none did
  abbrev pub StoresTo : OnKey K V K S → Mem (Node K V) → Mem (Node K V) → Result Stop Fault × Option (Node K V) → Type 0
  StoresTo u m n end = (x : OnKey K V K S) × RunsTo (on_key_plan {Q = K} same same hashes) u m x n end.0 × (x.unstored ≡ end.1)

-- A call by another form of a key, and the call by the key for which that stands.
use Rattle.std.specs.Prelude.{◌≡◌, ℕ, Bool, option_map}
use Rattle.seize_words.specs.OneMemory.Plan.{plan_as}
use Rattle.map_tables.specs.declared.node.Node.{Node}
use Rattle.many_calls.specs.Given.RawMachine.{machine_plan, machine_replied, machine_asked}
use Rattle.many_calls.specs.Given.RawDeclared.machines.asking.MachineReply.{MachineReply}
use Rattle.many_calls.specs.Given.RawDeclared.machines.call.KeyCall.{KeyCall}
use Rattle.many_calls.specs.Given.RawDeclared.machines.machine.Machine.{Machine}
use Rattle.many_calls.specs.Given.RawDeclared.machines.machine.Machine.TheVariants as kinds
use Rattle.many_calls.specs.Given.RawDeclared.machines.progress.Progress.{Progress}

module _ {K V Q : Type 0} (stands_for : Q → K) where
  -- the same call, asked with the key
  abbrev pub key_call : KeyCall K V Q → KeyCall K V K
  key_call c = record {
    setting = c.setting;
    hash = c.hash;
    there = c.there;
    missing = c.missing;
    asked = option_map stands_for c.asked;
    unmade = c.unmade;
    replies = c.replies;
    own = c.own;
    trial = c.trial;
    helped = c.helped;
    stands = c.stands;
  }

  -- and the same machine
  abbrev pub by_key : Machine K V Q → Machine K V K
  by_key (kinds.Key c) = kinds.Key (key_call c)
  by_key (kinds.Reserve c) = kinds.Reserve c
  by_key (kinds.Sweep c) = kinds.Sweep c
  by_key (kinds.Count c) = kinds.Count c

  -- with what it tells
  abbrev pub end_by_key : Machine K V Q × Progress (Node K V) → Machine K V K × Progress (Node K V)
  end_by_key end = (by_key end.0, end.1)

-- The promise of steps: point by point the plan of the one is that of the other.
abbrev pub StepsByKey : {K Q : Type 0} (V : Type 0) (same : K → K → Bool) (asks : Q → K → Bool) (stands_for : Q → K) → Type 0
StepsByKey {K} {Q} V same asks stands_for =
    ((asked : Q) (key : K) → asks asked key ≡ same (stands_for asked) key) → (hash : K → ℕ) (machine : Machine K V Q)
    → machine_plan same same hash (by_key stands_for machine) ≡ plan_as (end_by_key stands_for) (machine_plan asks same hash machine)

-- The promise of what it is told, and asked for.
abbrev pub RepliesByKey : {K Q : Type 0} (V : Type 0) (stands_for : Q → K) → Type 0
RepliesByKey {K} {Q} V stands_for =
    (machine : Machine K V Q) → ((told : MachineReply V) → machine_replied (by_key stands_for machine) told ≡ (by_key stands_for (machine_replied machine told).0, (machine_replied machine told).1))
    × (machine_asked (by_key stands_for machine) ≡ (by_key stands_for (machine_asked machine).0, (machine_asked machine).1))

-- A call that is to store a pair, as it begins, and how far it has come since.
use Rattle.std.specs.Prelude.{◌≡◌, ℕ, Bool, Option, Some, None}
use Rattle.seize_words.specs.declared.fault.Fault.TheVariants.{Memory}
use Rattle.map_tables.specs.declared.node.Node.{Node}
use Rattle.map_tables.specs.declared.setting.Setting.{Setting}
use Rattle.papaya_raw.specs.CallPoints.{calling}
use Rattle.papaya_raw.specs.Machine.{machine_plan}
use Rattle.papaya_raw.specs.Replies.{silent}
use Rattle.papaya_raw.specs.declared.machines.answer.End.TheVariants as ends
use Rattle.papaya_raw.specs.declared.machines.answer.Missing.TheVariants as missing
use Rattle.papaya_raw.specs.declared.machines.answer.There.{There}
use Rattle.papaya_raw.specs.declared.machines.call.Calling.TheVariants as at
use Rattle.papaya_raw.specs.declared.machines.call.KeyCall.{KeyCall}
use Rattle.papaya_raw.specs.declared.machines.machine.Machine.{Machine}
use Rattle.papaya_raw.specs.declared.machines.progress.Progress.{Progress}
use Rattle.papaya_raw.specs.declared.machines.progress.Progress.TheVariants as progress
use Rattle.threads_rule.specs.Views.Told.{MayCome}
use Rattle.threads_rule.specs.Errands.Calling.{IsGoing, MachineStores, handed_by}

module _ {K V Q : Type 0} where
  -- a call that is to store this pair, and makes its block next
  abbrev pub making : Setting → ℕ → There → Node K V → KeyCall K V Q
  making setting hash there pair = calling setting hash there missing.Puts None (Some pair) silent at.Makes

  -- memory for that was refused, and the pair has come back
  abbrev pub refused : Setting → ℕ → There → KeyCall K V Q
  refused setting hash there = calling setting hash there missing.Puts None None silent (at.Over (ends.Refused Memory))

module _ {K V : Type 0} where
  -- what is handed back is this pair
  abbrev pub HandsIt : Node K V → Progress (Node K V) → Type 0
  HandsIt pair (progress.Unstored value) = value ≡ pair
  HandsIt pair told = Unit {0}

module _ {K V : Type 0} (same : K → K → Bool) (hashes : K → ℕ) (pair : Node K V) where
  -- a call that was to store this pair has come so far, and this was handed back by then
  pub data Since : Machine K V K → Option (Node K V) → Type 0 where
    first : (m : Machine K V K) (back : Option (Node K V)) → MachineStores pair m → Since m back
    further : (m n : Machine K V K) (back : Option (Node K V)) (told : Progress (Node K V)) → Since m back → MayCome (machine_plan same same hashes m) (n, told) → HandsIt pair told → IsGoing told
        → Since n (handed_by told back)

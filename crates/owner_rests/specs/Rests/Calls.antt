-- How calls on one key begin, and what they answer.
use Rattle.std.specs.Prelude.{◌≡◌, ℕ, Bool, true, false, ◌⊎◌}
use Rattle.map_tables.specs.declared.setting.Setting.{Setting}
use Rattle.papaya_raw.specs.CallPoints.{inserting, trying_to_insert}
use Rattle.papaya_raw.specs.declared.machines.call.KeyCall.{KeyCall}
use Rattle.owner_calls.specs.Given.CallersKind.{Kind, inserts, tries_to_insert}
use Rattle.papaya_raw.specs.declared.machines.answer.KeyAnswer.TheVariants as answers
use Rattle.owner_calls.specs.declared.machines.Stop.{Stop}
use Rattle.owner_calls.specs.declared.machines.Stop.TheVariants as stop

-- a call on one key has removed a pair
abbrev pub has_removed : Stop → Bool
has_removed (stop.Answered (answers.Removed word)) = true
has_removed _ = false

-- a call on one key has replaced a pair
abbrev pub has_replaced : Stop → Bool
has_replaced (stop.Answered (answers.Replaced old new)) = true
has_replaced _ = false

-- a call on one key has found a pair, and left it
abbrev pub has_found : Stop → Bool
has_found (stop.Answered (answers.Found word)) = true
has_found _ = false

-- A call of this kind was begun that may store this pair, also in the place of another one, or only where there is none.
abbrev pub StoresPair : {K V Q : Type 0} → (K → ℕ) → Setting → K → V → Kind → KeyCall K V Q → Type 0
StoresPair hash setting key value kind call =
    ((kind ≡ inserts) × (call ≡ inserting setting (hash key) key value)) ⊎ ((kind ≡ tries_to_insert) × (call ≡ trying_to_insert setting (hash key) key value))

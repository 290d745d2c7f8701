-- What is in range, what is written as which value, and what is read of it.
use Rattle.std.specs.Prelude.{◌≡◌, ◌≢◌, ◌⊎◌, ℕ, Bool, true, false, IsTrue, List, codes, ◌-◌, ◌^◌, ◌≤◌, ℤ, pos, neg_ℤ, ◌≤ℤ◌, Result, Ok, Err}
use Rattle.serde_json.specs.Data.{Data, number, unsigned}
use Rattle.serde_json.specs.Find.{of_integer}
use Rattle.map_forms.specs.declared.fault.JsonFault.{JsonFault}
use Rattle.map_forms.specs.declared.fault.JsonFault.TheVariants.{Refused}
use Rattle.seize_words.specs.declared.fault.Fault.TheVariants.{Memory}

-- a number without a sign of so many bits
abbrev pub IsUnsigned : ℕ → ℕ → Type 0
IsUnsigned bits value = value ≤ 2 ^ bits - 1

-- a number with a sign of so many bits, the sign among them
abbrev pub IsSigned : ℕ → ℤ → Type 0
IsSigned bits value = (neg_ℤ (pos (2 ^ (bits - 1))) ≤ℤ value) × (value ≤ℤ pos (2 ^ (bits - 1) - 1))

-- the number, as a JSON value
abbrev pub unsigned_value : ℕ → Data
unsigned_value value = number (unsigned value)

abbrev pub signed_value : ℤ → Data
signed_value value = number (of_integer value)

-- the text of a truth value
abbrev pub bool_text : Bool → List ℕ
bool_text true = codes "true"
bool_text false = codes "false"

-- nothing that is in range is written so
abbrev pub IsNone : {T F : Type 0} → (T → Type 0) → (T → F) → F → Type 0
IsNone {T} in_range form written = (value : T) → in_range value → form value ≢ written

-- what is answered for something written: the value in range that is written so, or the fault where there is none;
-- memory may be refused where it takes any
abbrev pub Reads : {T F : Type 0} → Bool → (T → Type 0) → (T → F) → JsonFault → F → Result T JsonFault → Type 0
Reads takes_memory in_range form fault written (Ok value) = in_range value × (form value ≡ written)
Reads takes_memory in_range form fault written (Err why) =
    ((why ≡ fault) × IsNone in_range form written) ⊎ ((why ≡ Refused Memory) × IsTrue takes_memory)

-- The turn of the table that a making is to link: none is planned behind the last one.
use Rattle.std.specs.Prelude.{nat_le, nat_lt, if◌then◌else◌, max, Result, Ok, Err}
use Rattle.std.proofs.Common.{◌≡◌, ℕ, ◌+◌, ◌-◌, ◌^◌, ◌<◌, ◌≤◌, Bool, true, false, refl, sym, subst, arith}
use Rattle.std.proofs.lemmas.Bool.{ltb-true}
use Rattle.seize_words.specs.declared.fault.Fault.{Fault}
use Rattle.seize_words.specs.declared.fault.Fault.TheVariants.{Capacity}
use Rattle.map_tables.specs.Lengths.{next_limit, next_turn, next_len}
use Rattle.map_tables.specs.declared.lengths.Reason.{Reason}
use Rattle.map_tables.specs.declared.lengths.Reason.TheVariants.{NoPlace}
use Rattle.map_tables.specs.declared.setting.Setting.{Setting}
use Rattle.map_tables.specs.declared.table.Table.{Table}
use Rattle.map_machines.specs.NewTable.{planned as with_turn, following, making_of, begun_for, first_table, table_after}
use Rattle.map_machines.specs.declared.new_table.Making.{Making}
use Rattle.map_machines.specs.declared.new_table.Making.TheVariants as at
use Rattle.map_tables.specs.Probes.{limit_of}
use Rattle.map_measures.specs.Falls.Room.{last_turn, planned}
use Rattle.map_measures.specs.Falls.Copies.{tables_from_before}

-- it is behind the table before, and not behind the last turn
abbrev pub IsWithin : ℕ → Table → Making → Type 0
IsWithin past before stands = (planned stands ≤ last_turn) × (tables_from_before past stands ≤ past - before.turn)

module _ (past : ℕ) (reason : Reason) (before : Table) where
  followed : (len : ℕ) → IsWithin past before (following reason before len (next_turn before.turn))
  followed len = by (nat_lt before.turn (2 ^ 63)) refl (nat_le len (2 ^ 48))
    where
      by : (room : Bool) → nat_lt before.turn (2 ^ 63) ≡ room → (few : Bool) → IsWithin past before (following reason before len (if room then Ok (before.turn + 1) else Err Capacity))
      by true e few = both few
        where
          l : before.turn < 2 ^ 63
          l = ltb-true before.turn (2 ^ 63) e

          both : (few : Bool) → IsWithin past before (if nat_le len (2 ^ 48) then at.Makes (with_turn len (next_limit reason before.len before.limit len) (before.turn + 1)) else at.Refused Capacity)
          both few = on (nat_le len (2 ^ 48))
            where
              on : (few : Bool) → IsWithin past before (if few then at.Makes (with_turn len (next_limit reason before.len before.limit len) (before.turn + 1)) else at.Refused Capacity)
              on true = (omega (arith, l), omega arith)
              on false = (omega arith, omega arith)
      by false e few = (omega arith, omega arith)

  pub making_within : (len : Result ℕ Fault) → IsWithin past before (making_of reason before len)
  making_within (Ok len) = followed (max len 8)
  making_within (Err fault) = (omega arith, omega arith)

  -- that is where the making of a table behind another one begins
  pub begun_within : (setting : Setting) → reason ≡ NoPlace → IsWithin past before (table_after setting before reason).stands
  begun_within setting is = subst (λ r. IsWithin past before (begun_for setting before r)) (sym is)
      (subst (λ r. IsWithin past before (making_of r before (next_len NoPlace before.len 0 setting.initial))) is (making_within (next_len NoPlace before.len 0 setting.initial)))

-- and that of the first table
pub first_within : (setting : Setting) (len : ℕ) → planned (first_table setting len).stands ≤ last_turn
first_within setting len = by (max len 8) (nat_le (max len 8) (2 ^ 48))
  where
    by : (len : ℕ) (few : Bool) → planned (if few then at.Makes (with_turn len (limit_of len) 0) else at.Refused Capacity) ≤ last_turn
    by len true = omega arith
    by len false = omega arith

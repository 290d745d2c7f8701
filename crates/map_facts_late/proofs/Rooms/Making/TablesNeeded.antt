-- What a making of a table knows as it begins, where the length may be one that no table has.
use Rattle.std.specs.Prelude.{◌≡◌, ℕ, suc, ◌+◌, ◌^◌, ◌<◌, ◌≤◌, Bool, false, nat_le, cond, max, Result, Ok, Err, IfOk, if◌then◌else◌}
use Rattle.std.proofs.Common.{sym, subst, inl, inr, arith}
use Rattle.std.proofs.lemmas.Bool.Decides.{leb_tells}
use Rattle.map_facts.specs.Given.SeizeWordsDeclared.at.At.TheVariants.{Word}
use Rattle.map_facts.specs.Given.SeizeWordsDeclared.fault.Fault.{Fault}
use Rattle.map_facts.specs.Given.SeizeWordsDeclared.fault.Fault.TheVariants.{Capacity}
use Rattle.map_facts.specs.Given.SeizeWorld.{World}
use Rattle.map_facts.specs.Given.TablesChunks.{is_incremental}
use Rattle.map_facts.specs.Given.TablesLengths.{len_of, next_limit, next_turn, IsTableLen}
use Rattle.map_facts.specs.Given.ResizeNewTable.{planned, following, making_of, table_reserved}
use Rattle.map_facts.specs.Given.ReservesReserve.{or_too_long, needed}
use Rattle.map_facts.specs.Given.TablesDeclared.lengths.Reason.TheVariants.{Reserved}
use Rattle.map_facts.specs.Given.TablesDeclared.node.Node.{Node}
use Rattle.map_facts.specs.Given.TablesDeclared.setting.Setting.{Setting}
use Rattle.map_facts.specs.Given.TablesDeclared.status.TheConstants.Status.{ABORTED}
use Rattle.map_facts.specs.Given.TablesDeclared.table.Table.{Table}
use Rattle.map_facts.specs.Given.TablesDeclared.table_words.TheConstants.{NEXT}
use Rattle.map_facts.specs.Given.ResizeDeclared.new_table.Making.TheVariants as at
use Rattle.map_facts.proofs.Given.TablesTableLens.{have_table_lens}
use Rattle.map_facts.specs.Given.RuleChart.{Chart}
use Rattle.map_facts.specs.Given.RuleWords.{Blocks}
use Rattle.map_facts.specs.Given.RuleMaps.{IsTable}
use Rattle.map_facts.specs.FactsTables.{MakingFacts, NewTableFacts}
use Rattle.map_facts.proofs.Making.Planned.{at_least_eight}
use Rattle.map_facts.proofs.Making.TablesBegin.{behind_facts, table_reserved_facts}

-- a length that pairs need is a table's, unless it is too long
pub needed_len : (additional count : ℕ) → needed additional count ≤ 2 ^ 48 → IsTableLen (needed additional count)
needed_len additional count = by (len_of (count + additional)) (have_table_lens.made_for (count + additional))
  where
    by : (r : Result ℕ Fault) → IfOk r IsTableLen → or_too_long r ≤ 2 ^ 48 → IsTableLen (or_too_long r)
    by (Ok len) is few = is
    by (Err fault) is few = absurd (omega (arith, few))

module _ {K V : Type 0} (w : World (Node K V)) (caller : ℕ) (setting : Setting) (c : Chart K) (blocks : Blocks) where
  module _ (before : Table) (t : ℕ) (entered : IsTable c blocks before t) (free : cond (is_incremental setting.mode) (Unit {0}) (c.first < t → c.status t ≡ ABORTED)) where
    too_long : (len : ℕ) → nat_le (max len 8) (2 ^ 48) ≡ false → (r : Result ℕ Fault)
        → MakingFacts w caller setting c blocks (Word (blocks.table t) NEXT) (suc t) (following (Reserved 0) before (max len 8) r)
    too_long len many (Ok turn) =
        subst (λ (b : Bool). MakingFacts w caller setting c blocks (Word (blocks.table t) NEXT) (suc t)
        (if b then at.Makes (planned (max len 8) (next_limit (Reserved 0) before.len before.limit (max len 8)) turn) else at.Refused Capacity)) (sym many) tt
    too_long len many (Err fault) = tt

    pub table_reserved_begins : (len : ℕ) → (len ≤ 2 ^ 48 → IsTableLen len)
        → NewTableFacts w caller setting c blocks (Word (blocks.table t) NEXT) (suc t) (table_reserved setting before len)
    table_reserved_begins len is =
        elim (leb_tells (max len 8) (2 ^ 48)) as (λ _. NewTableFacts w caller setting c blocks (Word (blocks.table t) NEXT) (suc t) (table_reserved setting before len)) [
          | inl few ↦ table_reserved_facts w caller setting c blocks before t entered free len (at_least_eight len (is (let most = few.1 in omega (arith, most))))
          | inr many ↦ behind_facts w caller setting c blocks before t entered free (making_of (Reserved 0) before (Ok len)) (too_long len many.0 (next_turn before.turn))
        ]

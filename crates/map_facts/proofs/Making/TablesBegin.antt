-- What a making of a table knows as it begins.
use Rattle.std.specs.Prelude.{◌≡◌, ℕ, suc, ◌^◌, ◌<◌, nat_le, cond, max, Ok}
use Rattle.std.specs.Int.{IsPowerOfTwo}
use Rattle.std.proofs.Common.{refl, ap, sym, subst, inl, inr, arith}
use Rattle.map_rule.specs.Given.SeizeWordsDeclared.at.At.TheVariants.{Root, Word}
use Rattle.papaya_raw.specs.Given.SeizeWorld.{World}
use Rattle.papaya_raw.specs.Given.TablesChunks.{is_incremental}
use Rattle.papaya_raw.specs.Given.TablesLengths.{next_turn, IsTableLen}
use Rattle.papaya_raw.specs.Given.TablesProbes.{limit_of}
use Rattle.map_rule.specs.Given.ResizeNewTable.{planned, making_of, first_table, behind, begun_for, table_after, table_reserved}
use Rattle.papaya_raw.specs.Given.TablesDeclared.lengths.Reason.{Reason}
use Rattle.papaya_raw.specs.Given.TablesDeclared.lengths.Reason.TheVariants.{Full, Reserved, NoPlace}
use Rattle.papaya_raw.specs.Given.TablesDeclared.node.Node.{Node}
use Rattle.papaya_raw.specs.Given.TablesDeclared.setting.Setting.{Setting}
use Rattle.papaya_raw.specs.Given.TablesDeclared.status.TheConstants.Status.{ABORTED}
use Rattle.papaya_raw.specs.Given.TablesDeclared.table.Table.{Table}
use Rattle.papaya_raw.specs.Given.TablesDeclared.table_words.TheConstants.{NEXT}
use Rattle.map_rule.specs.Given.ResizeDeclared.new_table.Making.{Making as Point}
use Rattle.map_rule.specs.Given.ResizeDeclared.new_table.Making.TheVariants as at
use Rattle.map_rule.specs.Chart.{Chart}
use Rattle.map_rule.specs.Words.{Blocks}
use Rattle.map_rule.specs.Maps.{IsTable}
use Rattle.map_facts.specs.FactsTables.{IsLinkOf, MakingFacts, NewTableFacts}
use Rattle.map_facts.proofs.Making.Planned.{limit_below, facts_if, following_facts, counted_facts}

module _ {K V : Type 0} (w : World (Node K V)) (caller : ℕ) (setting : Setting) (c : Chart K) (blocks : Blocks) where
  -- the first table of a length
  pub first_table_facts : (len : ℕ) → IsTableLen (max len 8) → NewTableFacts w caller setting c blocks (Root setting.root) 0 (first_table setting len)
  first_table_facts len is = record {
    setting_is = refl;
    link_is = refl;
    link_of = inl (refl, refl);
    point = facts_if w caller setting c blocks (Root setting.root) 0 (nat_le (max len 8) (2 ^ 48)) (at.Makes (planned (max len 8) (limit_of (max len 8)) 0)) _
        (refl, record { len = is; limit = limit_below _ (max len 8) is.least; turn_is = refl }) tt;
  }

  module _ (before : Table) (t : ℕ) (entered : IsTable c blocks before t) (free : cond (is_incremental setting.mode) (Unit {0}) (c.first < t → c.status t ≡ ABORTED)) where
    link_of : IsLinkOf setting c blocks (Word (blocks.table t) NEXT) (suc t)
    link_of = inr (t, refl, refl, entered.made, entered.known, free)

    turn_is : suc t ≡ suc before.turn
    turn_is = sym (ap (λ (x : Table). suc x.turn) entered.is)

    pub behind_facts : (stands : Point) → MakingFacts w caller setting c blocks (Word (blocks.table t) NEXT) (suc t) stands
        → NewTableFacts w caller setting c blocks (Word (blocks.table t) NEXT) (suc t) (behind setting before stands)
    behind_facts stands facts = record {
      setting_is = refl;
      link_is = ap (λ b. Word b NEXT) (let e = ap (λ (x : Table). x.link) entered.is in omega (arith, e));
      link_of = link_of;
      point = facts;
    }

    -- the table after another one
    pub table_after_facts : IsTableLen (c.len t) → IsPowerOfTwo setting.initial → (reason : Reason)
        → NewTableFacts w caller setting c blocks (Word (blocks.table t) NEXT) (suc t) (table_after setting before reason)
    table_after_facts is power reason = behind_facts (begun_for setting before reason) (begun reason)
      where
        begun : (reason : Reason) → MakingFacts w caller setting c blocks (Word (blocks.table t) NEXT) (suc t) (begun_for setting before reason)
        begun (Full met most) = ((t, entered, refl), (refl, omega arith))
        begun (Reserved additional) = ((t, entered, refl), (refl, omega arith))
        begun NoPlace = counted_facts w caller setting c blocks (Word (blocks.table t) NEXT) (suc t) NoPlace before turn_is power
            (subst IsTableLen (sym (ap (λ (x : Table). x.len) entered.is)) is) 0 setting.initial refl

    -- and that of a given length
    pub table_reserved_facts : (len : ℕ) → IsTableLen (max len 8) → NewTableFacts w caller setting c blocks (Word (blocks.table t) NEXT) (suc t) (table_reserved setting before len)
    table_reserved_facts len is = behind_facts (making_of (Reserved 0) before (Ok len))
        (following_facts w caller setting c blocks (Word (blocks.table t) NEXT) (suc t) (Reserved 0) before turn_is (max len 8) is (next_turn before.turn) refl)

-- A table that is to be made has a length and a last try.
use Rattle.std.specs.Prelude.{◌≡◌, ℕ, suc, ◌-◌, ◌^◌, ◌<◌, ◌≤◌, ◌==◌, ◌&&◌, Bool, true, false, nat_le, if◌then◌else◌, max, min, Result, Ok, Err, IfOk}
use Rattle.std.specs.Int.{IsPowerOfTwo}
use Rattle.std.proofs.Common.{refl, sym, subst, ◌∙◌, arith}
use Rattle.map_rule.specs.Given.SeizeWordsDeclared.at.At.{At}
use Rattle.map_rule.specs.Given.SeizeWordsDeclared.fault.Fault.{Fault}
use Rattle.papaya_raw.specs.Given.SeizeWorld.{World}
use Rattle.papaya_raw.specs.Given.TablesLengths.{next_len, is_crowded, next_limit, next_turn, IsTableLen}
use Rattle.papaya_raw.specs.Given.TablesProbes.{limit_of}
use Rattle.map_rule.specs.Given.ResizeNewTable.{planned, following, making_of}
use Rattle.papaya_raw.specs.Given.TablesDeclared.lengths.Reason.{Reason}
use Rattle.papaya_raw.specs.Given.TablesDeclared.lengths.Reason.TheVariants.{Full, Reserved, NoPlace}
use Rattle.papaya_raw.specs.Given.TablesDeclared.node.Node.{Node}
use Rattle.papaya_raw.specs.Given.TablesDeclared.setting.Setting.{Setting}
use Rattle.papaya_raw.specs.Given.TablesDeclared.table.Table.{Table}
use Rattle.map_rule.specs.Given.ResizeDeclared.new_table.Making.{Making as Point}
use Rattle.map_rule.specs.Given.ResizeDeclared.new_table.Making.TheVariants as at
use Rattle.papaya_raw.proofs.Given.TablesTableLens.{have_table_lens}
use Rattle.map_rule.specs.Chart.{Chart}
use Rattle.map_rule.specs.Words.{Blocks}
use Rattle.map_facts.specs.FactsTables.{MakingFacts}

pub limit_below : (bits len : ℕ) → 8 ≤ len → min bits (len - 1) < len
limit_below bits len some = omega arith

limit_by : (b : Bool) (len : ℕ) → 8 ≤ len → (if b then len - 1 else limit_of len) < len
limit_by true len some = omega arith
limit_by false len some = limit_below _ len some

next_limit_below : (reason : Reason) (before tried len : ℕ) → 8 ≤ len → next_limit reason before tried len < len
next_limit_below (Full met most) before tried len some = limit_by ((len == before) && is_crowded met tried) len some
next_limit_below (Reserved additional) before tried len some = limit_below _ len some
next_limit_below NoPlace before tried len some = omega arith

pub at_least_eight : (len : ℕ) → IsTableLen len → IsTableLen (max len 8)
at_least_eight len is = let least = is.least in let same : max len 8 ≡ len = omega arith in subst IsTableLen (sym same) is

module _ {K V : Type 0} (w : World (Node K V)) (caller : ℕ) (setting : Setting) (c : Chart K) (blocks : Blocks) (link : At) (turn : ℕ) where
  pub facts_if : (b : Bool) (x y : Point) → MakingFacts w caller setting c blocks link turn x → MakingFacts w caller setting c blocks link turn y
      → MakingFacts w caller setting c blocks link turn (if b then x else y)
  facts_if true x y f g = f
  facts_if false x y f g = g

  -- the table after one with the turn before
  module _ (reason : Reason) (before : Table) (turn_is : turn ≡ suc before.turn) where
    pub following_facts : (len : ℕ) → IsTableLen len → (r : Result ℕ Fault) → next_turn before.turn ≡ r → MakingFacts w caller setting c blocks link turn (following reason before len r)
    following_facts len is (Ok t) e =
        facts_if (nat_le len (2 ^ 48)) (at.Makes (planned len (next_limit reason before.len before.limit len) t)) _
        (refl, record { len = is; limit = next_limit_below reason before.len before.limit len is.least; turn_is = after e ∙ sym turn_is }) tt
      where
        after : next_turn before.turn ≡ Ok t → t ≡ suc before.turn
        after e = grind arith
    following_facts len is (Err fault) e = tt

    pub making_facts : (r : Result ℕ Fault) → IfOk r IsTableLen → MakingFacts w caller setting c blocks link turn (making_of reason before r)
    making_facts (Ok len) ok = following_facts (max len 8) (at_least_eight len ok) (next_turn before.turn) refl
    making_facts (Err fault) ok = tt

    -- its length goes by a count
    pub counted_facts : IsPowerOfTwo setting.initial → IsTableLen before.len → (count initial : ℕ) → initial ≡ setting.initial
        → MakingFacts w caller setting c blocks link turn (making_of reason before (next_len reason before.len count initial))
    counted_facts power is count initial same =
        making_facts (next_len reason before.len count initial) (have_table_lens.made_after reason before.len count initial is (subst IsPowerOfTwo (sym same) power))

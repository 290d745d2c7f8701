-- A making of a table comes to an end: each step that goes on leads to a later point, or to fewer shards.
use Rattle.std.specs.Prelude.{◌≡◌, ℕ, ◌+◌, ◌/◌, ◌%◌, ◌^◌, Bool, true, false, max, nat_le, if◌then◌else◌, [], ◌∷◌, length, Result, Ok, Err}
use Rattle.std.proofs.Common.{refl, sym, subst, inl, inr, arith}
use Rattle.map_rule.specs.Given.SeizeWordsMem.{Mem, Took, value_at}
use Rattle.map_rule.specs.Given.SeizeWordsPlan.{Now, Steps}
use Rattle.map_rule.specs.Given.SeizeWordsDeclared.at.At.{At}
use Rattle.map_rule.specs.Given.SeizeWordsDeclared.at.At.TheVariants.{Root, Used, Slot, Entry, Word}
use Rattle.map_rule.specs.Given.SeizeWordsDeclared.fault.Fault.{Fault}
use Rattle.map_rule.specs.Given.SeizeWordsDeclared.fault.Fault.TheVariants.{Capacity}
use Rattle.map_rule.proofs.Given.SeizeWordsOneOwner.Operations.{stored, exchanged, made as make_made, taken}
use Rattle.map_rule.proofs.Given.SeizeRuleRows.Leaving.{steps_back}
use Rattle.papaya_raw.specs.Given.SeizeDeclared.advance.Advance.{Advance}
use Rattle.papaya_raw.specs.Given.SeizeDeclared.advance.Advance.TheVariants as progress
use Rattle.papaya_raw.specs.Given.TablesLengths.{next_len, next_limit, next_turn}
use Rattle.map_rule.specs.Given.ResizeNewTable.{planned, goes, counted, following, making_of, after_making, with_block, made, linked, other, plan_at, new_table_plan}
use Rattle.map_rule.specs.Given.ResizeSum.{sum_plan}
use Rattle.papaya_raw.specs.Given.TablesDeclared.lengths.Reason.{Reason}
use Rattle.papaya_raw.specs.Given.TablesDeclared.node.Node.{Node}
use Rattle.papaya_raw.specs.Given.TablesDeclared.node.Node.TheVariants as node
use Rattle.papaya_raw.specs.Given.TablesDeclared.status.TheConstants.Status.{PROMOTED}
use Rattle.papaya_raw.specs.Given.TablesDeclared.table.Table.{Table}
use Rattle.papaya_raw.specs.Given.TablesDeclared.table_words.TheConstants.{STATUS, PLACES}
use Rattle.map_rule.specs.Given.ResizeDeclared.sum.Sum.{Sum}
use Rattle.map_rule.specs.Given.ResizeDeclared.new_table.NewTable.{NewTable}
use Rattle.map_rule.specs.Given.ResizeDeclared.new_table.Making.{Making}
use Rattle.map_rule.specs.Given.ResizeDeclared.new_table.Making.TheVariants as at
use Rattle.map_facts.specs.Measures.{IsBelow}
use Rattle.map_facts.specs.MeasuresTables.{number_of_sum, number_at_making, number_of_new_table}
use Rattle.map_facts.proofs.Making.EndsSum.{sum_lowers}

-- what follows a counting is a later point
following_below : (reason : Reason) (before : Table) (len : ℕ) (turn : Result ℕ Fault) (sum : Sum) → IsBelow (number_at_making (following reason before len turn)) (5 ∷ number_of_sum sum)
following_below reason before len (Ok turn) sum = either (nat_le len (2 ^ 48)) (planned len (next_limit reason before.len before.limit len) turn)
  where
    either : (few : Bool) (table : Table) → IsBelow (number_at_making (if few then at.Makes table else at.Refused Capacity)) (5 ∷ number_of_sum sum)
    either true table = inl (omega arith)
    either false table = inl (omega arith)
following_below reason before len (Err fault) sum = inl (omega arith)

making_below : (reason : Reason) (before : Table) (len : Result ℕ Fault) (sum : Sum) → IsBelow (number_at_making (making_of reason before len)) (5 ∷ number_of_sum sum)
making_below reason before (Ok len) sum = following_below reason before (max len 8) (next_turn before.turn) sum
making_below reason before (Err fault) sum = inl (omega arith)

-- and what follows the making itself
made_below : (link : At) (table : Table) → IsBelow (number_at_making (after_making link table)) (4 ∷ 0 ∷ [])
made_below (Root root) table = inl (omega arith)
made_below (Used root) table = inl (omega arith)
made_below (Slot slot field) table = inl (omega arith)
made_below (Entry block field) table = inl (omega arith)
made_below (Word block field) table = inl (omega arith)

module _ {K V : Type 0} (m : Mem (Node K V)) (n : NewTable) where
  -- if the step goes on, its number is lower than where it stood
  abbrev Lowers : Making → NewTable × Advance Table → Type 0
  Lowers stands end = end.1 ≡ progress.Goes → IsBelow (number_of_new_table end.0) (number_at_making stands)

  lowers_counted : (before : Table) (reason : Reason) (sum sum2 : Sum) (p : Advance ℕ) → (p ≡ progress.Goes → IsBelow (number_of_sum sum2) (number_of_sum sum))
      → Lowers (at.Sums before reason sum) (counted n before reason (sum2, p))
  lowers_counted before reason sum sum2 progress.Goes below goes = inr (refl, below refl)
  lowers_counted before reason sum sum2 progress.Waits below goes = absurd (cc goes)
  lowers_counted before reason sum sum2 (progress.Done count) below goes = making_below reason before (next_len reason before.len count n.setting.initial) sum
  lowers_counted before reason sum sum2 (progress.Refused fault) below goes = absurd (cc goes)

  lowers_at : (stands : Making) (m2 : Mem (Node K V)) (end : NewTable × Advance Table) → Steps Took value_at m (plan_at n stands) m2 end → Lowers stands end
  lowers_at (at.Sums before reason sum) m2 end s =
      let b = steps_back (counted n before reason) m m2 (sum_plan sum) end s in
      subst (λ e. Lowers (at.Sums before reason sum) e) (sym b.2) (lowers_counted before reason sum b.0.0 b.0.1 (sum_lowers m sum m2 b.0 b.1))
  lowers_at (at.Makes table) m2 end s =
      elim (make_made m (made n table) (node.Table table.len table.limit table.turn) ((table.len + PLACES) % 2 ^ 64) m2 end s) as (λ _. Lowers (at.Makes table) end) [
        | inl d ↦ subst (λ e. Lowers (at.Makes table) e) (sym d.3) (λ goes. made_below n.link (with_block table d.0))
        | inr d ↦ subst (λ e. Lowers (at.Makes table) e) (sym d.3) (λ goes. absurd (cc goes))
      ]
  lowers_at (at.Promotes table) m2 end s =
      let d = stored m (λ out. Now (goes n (at.Links table))) (Word (table.link / 2048) STATUS) PROMOTED m2 end s in
      subst (λ e. Lowers (at.Promotes table) e) (sym d.1) (λ goes. inl (omega arith))
  lowers_at (at.Links table) m2 end s =
      elim (exchanged m (linked n table) n.link 0 table.link m2 end s) as (λ _. Lowers (at.Links table) end) [
        | inl d ↦ subst (λ e. Lowers (at.Links table) e) (sym d.3) (λ goes. absurd (cc goes))
        | inr d ↦ subst (λ e. Lowers (at.Links table) e) (sym d.3) (λ goes. inl (omega arith))
      ]
  lowers_at (at.Drops table found) m2 end s =
      let d = taken m (λ out. other n found) (table.link / 2048) m2 end s in
      subst (λ e. Lowers (at.Drops table found) e) (sym d.3.2) (λ goes. absurd (cc goes))
  lowers_at (at.Over table) m2 end s = subst (λ e. Lowers (at.Over table) e) (sym s.1) (λ goes. absurd (cc goes))
  lowers_at (at.Refused fault) m2 end s = subst (λ e. Lowers (at.Refused fault) e) (sym s.1) (λ goes. absurd (cc goes))

pub new_table_lowers : {K V : Type 0} (m : Mem (Node K V)) (n : NewTable) (m2 : Mem (Node K V)) (end : NewTable × Advance Table) → Steps Took value_at m (new_table_plan n) m2 end
    → end.1 ≡ progress.Goes → IsBelow (number_of_new_table end.0) (number_of_new_table n)
new_table_lowers m n m2 end s goes = lowers_at m n n.stands m2 end s goes

-- it has two numbers
two_at : (stands : Making) → length (number_at_making stands) ≡ 2
two_at (at.Sums before reason sum) = refl
two_at (at.Makes table) = refl
two_at (at.Promotes table) = refl
two_at (at.Links table) = refl
two_at (at.Drops table found) = refl
two_at (at.Over table) = refl
two_at (at.Refused fault) = refl

pub new_table_numbers : (n : NewTable) → length (number_of_new_table n) ≡ 2
new_table_numbers n = two_at n.stands

-- The length of a first table, from where it is planned to where it is linked.
use Rattle.std.specs.Prelude.{◌≡◌, ℕ, ◌+◌, ◌^◌, ◌%◌, ◌/◌, Bool, true, false, max, nat_le, if◌then◌else◌}
use Rattle.std.proofs.Common.{refl, sym, subst, inl, inr, arith}
use Rattle.many_calls.specs.Given.SeizeWordsDeclared.at.At.{At}
use Rattle.many_calls.specs.Given.SeizeWordsDeclared.at.At.TheVariants.{Root, Used, Slot, Entry, Word}
use Rattle.many_calls.specs.Given.SeizeWordsDeclared.fault.Fault.TheVariants.{Capacity}
use Rattle.many_calls.specs.Given.SeizeWordsMem.{Mem, value_at, Took}
use Rattle.many_calls.specs.Given.SeizeWordsPlan.{Now, Steps}
use Rattle.many_calls.proofs.Given.SeizeWordsOneOwner.Operations.{exchanged, stored, made as make_made}
use Rattle.many_calls.specs.Given.SeizeWorld.{World}
use Rattle.many_calls.specs.Given.SeizeDeclared.advance.Advance.{Advance}
use Rattle.many_calls.specs.Given.SeizeDeclared.advance.Advance.TheVariants as progress
use Rattle.many_calls.specs.Given.ResizeNewTable.{planned, first_table, with_block, after_making, goes, made, linked, plan_at, new_table_plan}
use Rattle.many_calls.specs.Given.TablesProbes.{limit_of}
use Rattle.many_calls.specs.Given.TablesDeclared.node.Node.{Node}
use Rattle.many_calls.specs.Given.TablesDeclared.node.Node.TheVariants as node
use Rattle.many_calls.specs.Given.TablesDeclared.setting.Setting.{Setting}
use Rattle.many_calls.specs.Given.TablesDeclared.status.TheConstants.Status.{PROMOTED}
use Rattle.many_calls.specs.Given.TablesDeclared.table.Table.{Table}
use Rattle.many_calls.specs.Given.TablesDeclared.table_words.TheConstants.{STATUS, PLACES}
use Rattle.many_calls.specs.Given.ResizeDeclared.new_table.NewTable.{NewTable}
use Rattle.many_calls.specs.Given.ResizeDeclared.new_table.Making.{Making}
use Rattle.many_calls.specs.Given.ResizeDeclared.new_table.Making.TheVariants as at
use Rattle.many_calls.specs.Given.RuleRule.{no_table}
use Rattle.many_calls.specs.Given.RuleWords.{Blocks}
use Rattle.many_calls.specs.Given.PointsFactsTables.{MakingFacts, NewTableFacts}
use Rattle.many_maps.specs.Makings.{HasLen}

pub first_len : (setting : Setting) (len : ℕ) → HasLen (max len 8) (first_table setting len).stands
first_len setting len = by (nat_le (max len 8) (2 ^ 48))
  where
    by : (b : Bool) → HasLen (max len 8) (if b then at.Makes (planned (max len 8) (limit_of (max len 8)) 0) else at.Refused Capacity)
    by true = refl
    by false = tt

-- where a step of its making leads
abbrev pub LensTo : ℕ → NewTable × Advance Table → Type 0
LensTo len (n, progress.Goes) = HasLen len n.stands
LensTo len (n, progress.Waits) = Unit {0}
LensTo len (n, progress.Done table) = table.len ≡ len
LensTo len (n, progress.Refused fault) = Unit {0}

len_after : (len : ℕ) (link : At) (table : Table) → table.len ≡ len → HasLen len (after_making link table)
len_after len (Root r) table is = is
len_after len (Used r) table is = is
len_after len (Slot s i) table is = is
len_after len (Entry b i) table is = is
len_after len (Word b i) table is = is

module _ {K V : Type 0} (w : World (Node K V)) (caller : ℕ) (setting : Setting) (blocks : Blocks) (m : Mem (Node K V)) (n : NewTable) (len : ℕ) where
  lens_at : (stands : Making) → MakingFacts w caller setting (no_table {K = K}) blocks (Root setting.root) 0 stands → HasLen len stands → (m2 : Mem (Node K V)) (end : NewTable × Advance Table)
      → Steps Took value_at m (plan_at n stands) m2 end → LensTo len end
  lens_at (at.Sums before reason sum) facts is m2 end s = absurd (let made = facts.0.1.made in omega (arith, made))
  lens_at (at.Makes table) facts is m2 end s =
      elim (make_made m (made n table) (node.Table table.len table.limit table.turn) ((table.len + PLACES) % 2 ^ 64) m2 end s) as (λ _. LensTo len end) [
        | inl d ↦ subst (LensTo len) (sym d.3) (len_after len n.link (with_block table d.0) is)
        | inr d ↦ subst (LensTo len) (sym d.3) tt
      ]
  lens_at (at.Promotes table) facts is m2 end s =
      let d = stored m (λ out. Now (goes n (at.Links table))) (Word (table.link / 2048) STATUS) PROMOTED m2 end s in subst (LensTo len) (sym d.1) is
  lens_at (at.Links table) facts is m2 end s =
      elim (exchanged m (linked n table) n.link 0 table.link m2 end s) as (λ _. LensTo len end) [
        | inl d ↦ subst (LensTo len) (sym d.3) is
        | inr d ↦ subst (LensTo len) (sym d.3) tt
      ]
  lens_at (at.Drops table found) facts is m2 end s = absurd (let made = facts.3 in omega (arith, made))
  lens_at (at.Over table) facts is m2 end s = absurd (let made = facts.2.made in omega (arith, made))
  lens_at (at.Refused fault) facts is m2 end s = subst (LensTo len) (sym s.1) tt

  pub lens_told : NewTableFacts w caller setting (no_table {K = K}) blocks (Root setting.root) 0 n → HasLen len n.stands → (m2 : Mem (Node K V)) (end : NewTable × Advance Table)
      → Steps Took value_at m (new_table_plan n) m2 end → LensTo len end
  lens_told f is m2 end s = lens_at n.stands f.point is m2 end s

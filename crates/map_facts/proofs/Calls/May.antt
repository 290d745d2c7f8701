-- A call may take its step, where the machine inside it may.
use Rattle.std.specs.Prelude.{◌≡◌, ℕ, Bool, Option, Some}
use Rattle.std.proofs.Common.{sym, subst}
use Rattle.map_rule.specs.Given.SeizeWordsMem.{Mem, value_at, Can, Took}
use Rattle.map_rule.specs.Given.SeizeWordsPlan.{May}
use Rattle.map_rule.proofs.Given.SeizeWordsPlans.{as_may}
use Rattle.papaya_raw.specs.Call.{looked, looks, looks_for, first_made, firsts, next_made, allocs, disposed, disposes, helped, helps, copied, copies}
use Rattle.map_rule.specs.Given.ResizeCopier.{copier_plan}
use Rattle.map_rule.specs.Given.ResizeDispose.{dispose_plan}
use Rattle.map_rule.specs.Given.ResizeLookup.{lookup_plan}
use Rattle.map_rule.specs.Given.ResizeNewTable.{new_table_plan}
use Rattle.papaya_raw.specs.Given.TablesDeclared.node.Node.{Node}
use Rattle.papaya_raw.specs.Given.TablesDeclared.table.Table.{Table}
use Rattle.papaya_raw.specs.declared.machines.answer.KeyAnswer.{KeyAnswer}
use Rattle.papaya_raw.specs.declared.machines.call.KeyCall.{KeyCall}
use Rattle.map_rule.specs.Given.ResizeDeclared.copier.Copier.{Copier}
use Rattle.map_rule.specs.Given.ResizeDeclared.dispose.Dispose.{Dispose}
use Rattle.map_rule.specs.Given.ResizeDeclared.lookup.Lookup.{Lookup}
use Rattle.map_rule.specs.Given.ResizeDeclared.new_table.NewTable.{NewTable}

module _ {K V Q : Type 0} (m : Mem (Node K V)) (p : KeyCall K V Q) where
  pub may_looks : (asks : Q → K → Bool) (l : Lookup) (q : Q) → p.asked ≡ Some q → May Can Took value_at m (lookup_plan (asks q) l) → May Can Took value_at m (looks asks p l)
  may_looks asks l q is may =
      subst (λ (a : Option Q). May Can Took value_at m (looks_for asks p l a)) (sym is) (as_may (looked p) Can Took value_at m (lookup_plan (asks q) l) may)

  pub may_firsts : (making : NewTable) → May Can Took value_at m (new_table_plan making) → May Can Took value_at m (firsts p making)
  may_firsts making may = as_may (first_made p) Can Took value_at m (new_table_plan making) may

  pub may_allocs : (making : NewTable) → May Can Took value_at m (new_table_plan making) → May Can Took value_at m (allocs p making)
  may_allocs making may = as_may (next_made p) Can Took value_at m (new_table_plan making) may

  pub may_disposes : (dispose : Dispose) (answer : KeyAnswer) → May Can Took value_at m (dispose_plan dispose) → May Can Took value_at m (disposes p dispose answer)
  may_disposes dispose answer may = as_may (disposed p answer) Can Took value_at m (dispose_plan dispose) may

  pub may_helps : (hashes : K → ℕ) (copier : Copier) (goal : Table) → May Can Took value_at m (copier_plan hashes copier) → May Can Took value_at m (helps hashes p copier goal)
  may_helps hashes copier goal may = as_may (helped p goal) Can Took value_at m (copier_plan hashes copier) may

  pub may_copies : (hashes : K → ℕ) (copier : Copier) → May Can Took value_at m (copier_plan hashes copier) → May Can Took value_at m (copies hashes p copier)
  may_copies hashes copier may = as_may (copied p) Can Took value_at m (copier_plan hashes copier) may

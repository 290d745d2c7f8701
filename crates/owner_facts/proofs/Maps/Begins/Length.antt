-- A map that begins goes on with the length that its first table is to have.
use Rattle.std.specs.Prelude.{◌==◌, ◌-◌, nat_lt, if◌then◌else◌}
use Rattle.std.proofs.Common.{◌≡◌, ◌+◌, Bool, true, false, Ok, Err, refl}
use Rattle.many_maps.specs.Given.SeizeWordsDeclared.fault.Fault.TheVariants.{RootsUsedUp}
use Rattle.many_maps.specs.Given.SeizeWordsOp.{Out, Found, Stored, Exchanged, Made, Taken, Roomed}
use Rattle.many_maps.specs.Given.SeizeDeclared.advance.Advance.{Advance}
use Rattle.many_maps.specs.Given.SeizeDeclared.advance.Advance.TheVariants as progress
use Rattle.many_maps.specs.Given.ResizeNewMap.{at_root, with_counter, next_root, taken as root_taken, with_shards, made, opened, refused, done, goes, plan_at}
use Rattle.many_maps.specs.Given.ResizeNewTable.{first_table, new_table_plan}
use Rattle.many_maps.specs.Given.TablesDeclared.node.Node.{Node}
use Rattle.many_maps.specs.Given.TablesDeclared.setting.Setting.{Setting}
use Rattle.many_maps.specs.Given.TablesDeclared.table.Table.{Table}
use Rattle.many_maps.specs.Given.ResizeDeclared.new_map.NewMap.{NewMap}
use Rattle.many_maps.specs.Given.ResizeDeclared.new_map.Opening.{Opening}
use Rattle.many_maps.specs.Given.ResizeDeclared.new_map.Opening.TheVariants as at
use Rattle.many_maps.specs.Given.ResizeDeclared.new_table.NewTable.{NewTable}
use Rattle.many_maps.proofs.Given.RuleKeys.Always.{Always, AlwaysOf, always_plan_as}

module _ (K V : Type 0) (n : NewMap) where
  abbrev KeepsLen : NewMap × Advance Setting → Type 0
  KeepsLen e = e.0.len ≡ n.len

  next_len : KeepsLen (next_root n)
  next_len = by (nat_lt n.setting.root (n.roots - 1))
    where
      by : (b : Bool) → KeepsLen (if b then (record n { setting = at_root n.setting (n.setting.root + 1) }, progress.Goes) else refused n RootsUsedUp)
      by true = refl
      by false = refl

  shards_len : (s : Setting) → KeepsLen (with_shards (record n { setting = s }))
  shards_len s = by (n.len == 0)
    where
      by : (b : Bool) → KeepsLen (if b then done (record n { setting = s }) else goes (record n { setting = s }) (at.Tables (first_table s n.len)))
      by true = refl
      by false = refl

  opened_len : (b : NewTable × Advance Table) → KeepsLen (opened n b)
  opened_len (making, progress.Goes) = refl
  opened_len (making, progress.Waits) = refl
  opened_len (making, progress.Done table) = refl
  opened_len (making, progress.Refused fault) = refl

  pub keeps_len : (stage : Opening) → AlwaysOf KeepsLen (plan_at {K = K} {V = V} n stage)
  keeps_len at.Takes = on_taken
    where
      on_taken : (out : Out (Node K V)) → Always KeepsLen (root_taken n out)
      on_taken (Exchanged (Ok free)) = refl
      on_taken (Exchanged (Err used)) = next_len
      on_taken (Found word) = refl
      on_taken Stored = refl
      on_taken (Made r) = refl
      on_taken (Taken value) = refl
      on_taken (Roomed r) = refl
  keeps_len at.Shards = on_made
    where
      on_made : (out : Out (Node K V)) → Always KeepsLen (made n out)
      on_made (Made (Ok block)) = shards_len (with_counter n.setting block)
      on_made (Made (Err value)) = refl
      on_made (Found word) = refl
      on_made Stored = refl
      on_made (Exchanged r) = refl
      on_made (Taken value) = refl
      on_made (Roomed r) = refl
  keeps_len (at.Tables making) = always_plan_as KeepsLen (opened n) opened_len (new_table_plan making)
  keeps_len (at.Unmakes fault) = λ out. refl
  keeps_len (at.Frees fault) = λ out. refl
  keeps_len at.Over = refl
  keeps_len (at.Refused fault) = refl

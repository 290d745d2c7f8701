-- How a step of the making of a map leaves its root: one that has it gives it up where it frees it alone; one that is refused has none then; and one that is done has it.
use Rattle.std.specs.Prelude.{◌==◌, ◌-◌, nat_lt, Ok, Err, if◌then◌else◌}
use Rattle.std.proofs.Common.{◌≡◌, ◌+◌, Bool, true, false, refl, ap, sym, subst}
use Rattle.run_schedules.specs.Given.SeizeWordsMem.{Mem, value_at}
use Rattle.run_schedules.specs.Given.SeizeWordsOp.{Out, Exchanged, Made}
use Rattle.run_schedules.specs.Given.SeizeWordsPlan.{Ends as EndsSo}
use Rattle.run_schedules.specs.Given.SeizeWordsDeclared.fault.Fault.{Fault}
use Rattle.run_schedules.specs.Given.SeizeWordsDeclared.fault.Fault.TheVariants.{Memory, RootsUsedUp}
use Rattle.seize_acts.specs.Given.SeizeDeclared.advance.Advance.{Advance}
use Rattle.seize_acts.specs.Given.SeizeDeclared.advance.Advance.TheVariants as progress
use Rattle.run_legal.specs.Given.TablesDeclared.node.Node.{Node}
use Rattle.run_legal.specs.Given.TablesDeclared.setting.Setting.{Setting}
use Rattle.run_legal.specs.Given.TablesDeclared.table.Table.{Table}
use Rattle.threads_rule.specs.Given.ResizeNewMap.{at_root, done, goes, made, opened, plan_at, refused, taken}
use Rattle.run_legal.specs.Given.ResizeNewTable.{first_table, new_table_plan}
use Rattle.threads_rule.specs.Given.ResizeDeclared.new_map.NewMap.{NewMap}
use Rattle.threads_rule.specs.Given.ResizeDeclared.new_map.Opening.{Opening}
use Rattle.threads_rule.specs.Given.ResizeDeclared.new_map.Opening.TheVariants as openings
use Rattle.threads_rule.specs.Given.ResizeDeclared.new_table.NewTable.{NewTable}
use Rattle.run_legal.specs.Given.TellerTells.{StepsObserved}
use Rattle.run_legal.specs.Given.EffectsDeclared.changed.Changed.{Changed}
use Rattle.run_legal.specs.Given.EffectsDeclared.changed.Changed.TheVariants as changed
use Rattle.run_legal.proofs.Given.OthersOutcomes.{told_in}
use Rattle.play_linear.specs.Given.PlayedPlay.{has_root}

-- it gives its root up next
abbrev pub IsFreeing : Opening → Type 0
IsFreeing (openings.Frees fault) = Unit {0}
IsFreeing _ = ⊥

abbrev pub Rooted : Opening → NewMap × Advance Setting → Type 0
Rooted before e =
    (has_root before ≡ true → has_root e.0.stands ≡ false → IsFreeing before) × ((fault : Fault) → e.1 ≡ progress.Refused fault → has_root e.0.stands ≡ false)
    × ((setting : Setting) → e.1 ≡ progress.Done setting → has_root e.0.stands ≡ true)

-- one that has its root, and is not refused
at_root_still : (before : Opening) (e : NewMap × Advance Setting) → has_root e.0.stands ≡ true → ((fault : Fault) → e.1 ≡ progress.Refused fault → ⊥) → Rooted before e
at_root_still before e has never = (λ had none. absurd (cc (has, none)), λ fault is. absurd (never fault is), λ setting is. has)

-- one that had none goes on
rootless_goes : (before : Opening) (c : NewMap) → has_root before ≡ false → Rooted before (c, progress.Goes)
rootless_goes before c none = (λ had gone. absurd (cc (had, none)), λ fault is. absurd (cc is), λ setting is. absurd (cc is))

module _ (c : NewMap) where
  next_rooted : Rooted openings.Takes (if nat_lt c.setting.root (c.roots - 1) then (record c { setting = at_root c.setting (c.setting.root + 1) }, progress.Goes) else refused c RootsUsedUp)
  next_rooted = by (nat_lt c.setting.root (c.roots - 1))
    where
      by : (q : Bool) → Rooted openings.Takes (if q then (record c { setting = at_root c.setting (c.setting.root + 1) }, progress.Goes) else refused c RootsUsedUp)
      by true = rootless_goes openings.Takes (record c { setting = at_root c.setting (c.setting.root + 1) }) refl
      by false = (λ had gone. absurd (cc had), λ fault is. refl, λ setting is. absurd (cc is))

  opened_rooted : (before : Opening) (x : NewTable × Advance Table) → Rooted before (opened c x)
  opened_rooted before (making, progress.Goes) = at_root_still before (opened c (making, progress.Goes)) refl (λ fault is. cc is)
  opened_rooted before (making, progress.Waits) = at_root_still before (opened c (making, progress.Waits)) refl (λ fault is. cc is)
  opened_rooted before (making, progress.Done table) = at_root_still before (opened c (making, progress.Done table)) refl (λ fault is. cc is)
  opened_rooted before (making, progress.Refused fault) = at_root_still before (opened c (making, progress.Refused fault)) refl (λ fault2 is. cc is)

  sharded : (before : Opening) (d : NewMap) (q : Bool) → Rooted before (if q then done d else goes d (openings.Tables (first_table d.setting d.len)))
  sharded before d true = at_root_still before (done d) refl (λ fault is. cc is)
  sharded before d false = at_root_still before (goes d (openings.Tables (first_table d.setting d.len))) refl (λ fault is. cc is)

module _ {K V : Type 0} (c : NewMap) (m n : Mem (Node K V)) (told : Changed) (end : NewMap × Advance Setting) where
  by_end : (before : Opening) (e : NewMap × Advance Setting) → end ≡ e → Rooted before e → Rooted before end
  by_end before e is so = subst (Rooted before) (sym is) so

  taken_rooted : (out : Out (Node K V)) → EndsSo (value_at n) (taken c out) end → Rooted openings.Takes end
  taken_rooted (Exchanged (Ok free)) ends = by_end openings.Takes (goes c openings.Shards) ends (at_root_still openings.Takes (goes c openings.Shards) refl (λ fault is. cc is))
  taken_rooted (Exchanged (Err used)) ends = by_end openings.Takes _ ends (next_rooted c)
  taken_rooted _ ends = by_end openings.Takes (c, progress.Goes) ends (rootless_goes openings.Takes c refl)

  made_rooted : c.stands ≡ openings.Shards → (out : Out (Node K V)) → EndsSo (value_at n) (made c out) end → Rooted openings.Shards end
  made_rooted is (Made (Ok block)) ends = by_end openings.Shards _ ends (sharded c openings.Shards (record c { setting = record c.setting { counter = block } }) (c.len == 0))
  made_rooted is (Made (Err value)) ends = by_end openings.Shards (goes c (openings.Frees Memory)) ends (at_root_still openings.Shards (goes c (openings.Frees Memory)) refl (λ fault no. cc no))
  made_rooted is _ ends = by_end openings.Shards (c, progress.Goes) ends (at_root_still openings.Shards (c, progress.Goes) (ap has_root is) (λ fault no. cc no))

  pub step_rooted : (stands : Opening) → c.stands ≡ stands → StepsObserved K V (NewMap × Advance Setting) m changed.Nothing (plan_at c stands) n told end → Rooted stands end
  step_rooted openings.Takes is s = taken_rooted s.0 s.2
  step_rooted openings.Shards is s = made_rooted is s.0 s.2
  step_rooted (openings.Tables making) is s =
      let x = told_in m n told (opened c) (new_table_plan making) end s in by_end (openings.Tables making) (opened c x.0) x.1 (opened_rooted c (openings.Tables making) x.0)
  step_rooted (openings.Unmakes fault) is s = by_end (openings.Unmakes fault) (goes c (openings.Frees fault)) s.2 (at_root_still (openings.Unmakes fault) (goes c (openings.Frees fault)) refl (λ fault2 no. cc no))
  step_rooted (openings.Frees fault) is s = by_end (openings.Frees fault) (refused c fault) s.2 (λ had gone. tt, λ fault2 no. refl, λ setting no. absurd (cc no))
  step_rooted openings.Over is s = by_end openings.Over (c, progress.Done c.setting) s.1 (at_root_still openings.Over (c, progress.Done c.setting) (ap has_root is) (λ fault no. cc no))
  step_rooted (openings.Refused fault) is s =
      by_end (openings.Refused fault) (c, progress.Refused fault) s.1 (λ had gone. absurd (cc had), λ fault2 no. ap has_root is, λ setting no. absurd (cc no))

-- The step of the making of a map by which it gets its root leaves it going on.
use Rattle.std.specs.Prelude.{◌-◌, ◌+◌, nat_lt, Ok, Err, if◌then◌else◌}
use Rattle.std.proofs.Common.{◌≡◌, Bool, true, false, refl, ap, sym, subst}
use Rattle.run_schedules.specs.Given.SeizeWordsMem.{Mem, value_at}
use Rattle.run_schedules.specs.Given.SeizeWordsOp.{Out, Exchanged}
use Rattle.run_schedules.specs.Given.SeizeWordsPlan.{Ends as EndsSo}
use Rattle.run_schedules.specs.Given.SeizeWordsDeclared.fault.Fault.TheVariants.{RootsUsedUp}
use Rattle.seize_acts.specs.Given.SeizeDeclared.advance.Advance.{Advance}
use Rattle.seize_acts.specs.Given.SeizeDeclared.advance.Advance.TheVariants as progress
use Rattle.play_lists.specs.Given.TablesDeclared.node.Node.{Node}
use Rattle.play_lists.specs.Given.TablesDeclared.setting.Setting.{Setting}
use Rattle.run_logged.specs.Given.ResizeNewMap.{at_root, goes, plan_at, refused, taken}
use Rattle.run_logged.specs.Given.ResizeDeclared.new_map.NewMap.{NewMap}
use Rattle.run_logged.specs.Given.ResizeDeclared.new_map.Opening.{Opening}
use Rattle.run_logged.specs.Given.ResizeDeclared.new_map.Opening.TheVariants as openings
use Rattle.play_lists.specs.Given.TellerTells.{StepsObserved}
use Rattle.play_lists.specs.Given.EffectsDeclared.changed.Changed.{Changed}
use Rattle.play_lists.specs.Given.EffectsDeclared.changed.Changed.TheVariants as changed
use Rattle.play_lists.specs.Played.Play.{has_root}

module _ {K V : Type 0} (c : NewMap) (m n : Mem (Node K V)) (told : Changed) (end : NewMap × Advance Setting) where
  -- if it has a root then it goes on
  abbrev Goes : NewMap × Advance Setting → Type 0
  Goes e = has_root e.0.stands ≡ true → e.1 ≡ progress.Goes

  as_goes : (e : NewMap × Advance Setting) → end ≡ e → Goes e → Goes end
  as_goes e is so = subst Goes (sym is) so

  next_goes : Goes (if nat_lt c.setting.root (c.roots - 1) then (record c { setting = at_root c.setting (c.setting.root + 1) }, progress.Goes) else refused c RootsUsedUp)
  next_goes = by (nat_lt c.setting.root (c.roots - 1))
    where
      by : (q : Bool) → Goes (if q then (record c { setting = at_root c.setting (c.setting.root + 1) }, progress.Goes) else refused c RootsUsedUp)
      by true = λ rooted. refl
      by false = λ rooted. absurd (cc rooted)

  taken_goes : (out : Out (Node K V)) → EndsSo (value_at n) (taken c out) end → Goes end
  taken_goes (Exchanged (Ok free)) ends = as_goes (goes c openings.Shards) ends (λ rooted. refl)
  taken_goes (Exchanged (Err used)) ends = as_goes _ ends next_goes
  taken_goes _ ends = as_goes (c, progress.Goes) ends (λ rooted. refl)

  pub comes_going : (stands : Opening) → c.stands ≡ stands → StepsObserved K V (NewMap × Advance Setting) m changed.Nothing (plan_at c stands) n told end → has_root stands ≡ false → has_root end.0.stands ≡ true
      → end.1 ≡ progress.Goes
  comes_going openings.Takes is s none = taken_goes s.0 s.2
  comes_going openings.Shards is s none = absurd (cc none)
  comes_going (openings.Tables making) is s none = absurd (cc none)
  comes_going (openings.Unmakes fault) is s none = absurd (cc none)
  comes_going (openings.Frees fault) is s none = absurd (cc none)
  comes_going openings.Over is s none = absurd (cc none)
  comes_going (openings.Refused fault) is s none =
      as_goes (c, progress.Refused fault) s.1 (λ rooted. absurd (let never : has_root c.stands ≡ false = ap has_root is in cc (rooted, never)))

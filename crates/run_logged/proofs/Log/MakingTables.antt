-- The making of a first table: which machine it may be, and that it is refused for want of memory alone.
use Rattle.std.specs.Prelude.{◌≡◌, ◌+◌, ◌/◌, ◌%◌, ◌^◌, ◌≤◌, nat_le, ℕ, Bool, true, false, max, Ok, Err, if◌then◌else◌}
use Rattle.std.proofs.Common.{refl, subst, sym, arith}
use Rattle.run_schedules.specs.Given.SeizeWordsDeclared.at.At.{At}
use Rattle.run_schedules.specs.Given.SeizeWordsDeclared.at.At.TheVariants.{Root, Used, Slot, Entry, Word}
use Rattle.run_schedules.specs.Given.SeizeWordsDeclared.fault.Fault.TheVariants.{Capacity, Memory}
use Rattle.run_schedules.specs.Given.SeizeWordsMem.{Mem, value_at}
use Rattle.run_schedules.specs.Given.SeizeWordsOp.{Out, Found, Stored, Exchanged, Made, Taken, Roomed, Make}
use Rattle.run_schedules.specs.Given.SeizeWordsPlan.{Ends}
use Rattle.run_schedules.proofs.Given.SeizeWordsOneOwner.Operations.{taken}
use Rattle.seize.specs.declared.advance.Advance.{Advance}
use Rattle.seize.specs.declared.advance.Advance.TheVariants as progress
use Rattle.papaya_raw.specs.Given.TablesDeclared.node.Node.{Node}
use Rattle.papaya_raw.specs.Given.TablesDeclared.node.Node.TheVariants as node
use Rattle.papaya_raw.specs.Given.TablesDeclared.setting.Setting.{Setting}
use Rattle.papaya_raw.specs.Given.TablesDeclared.table.Table.{Table}
use Rattle.papaya_raw.specs.Given.TablesDeclared.table_words.TheConstants.{PLACES}
use Rattle.papaya_raw.specs.Given.TablesProbes.{limit_of}
use Rattle.run_effects.specs.Given.ResizeNewTable as new_table
use Rattle.run_effects.specs.Given.ResizeDeclared.new_table.NewTable.{NewTable}
use Rattle.run_effects.specs.Given.ResizeDeclared.new_table.Making.{Making}
use Rattle.run_effects.specs.Given.ResizeDeclared.new_table.Making.TheVariants as makes
use Rattle.run_schedules.specs.Schedules.InTurn.{has_grown}
use Rattle.run_effects.specs.ReportingMemory.Tells.{StepsObserved}
use Rattle.run_effects.specs.declared.changed.Changed.{Changed}
use Rattle.run_effects.specs.declared.changed.Changed.TheVariants as changed
use Rattle.run_effects.specs.Effects.Effects.{effects_of}
use Rattle.run_effects.specs.Effects.Known.{Known}
use Rattle.run_effects.specs.declared.acting.Acting.TheVariants as acts
use Rattle.run_kept.proofs.Told.{told_as}
use Rattle.run_shows.proofs.Scenes.Told.{as_step}

-- a first table is none that counts, or that has answered
abbrev pub IsFirstMaking : Making → Type 0
IsFirstMaking (makes.Makes table) = Unit {0}
IsFirstMaking (makes.Promotes table) = Unit {0}
IsFirstMaking (makes.Links table) = Unit {0}
IsFirstMaking (makes.Drops table found) = Unit {0}
IsFirstMaking _ = ⊥

-- so it begins, if it is not too long
pub begins_first : (setting : Setting) (len : ℕ) → max len 8 ≤ 2 ^ 48 → IsFirstMaking (new_table.first_table setting len).stands
begins_first setting len small = by (nat_le (max len 8) (2 ^ 48)) (grind (arith, small))
  where
    by : (q : Bool) → q ≡ true → IsFirstMaking (if q then makes.Makes (new_table.planned (max len 8) (limit_of (max len 8)) 0) else makes.Refused Capacity)
    by true e = tt
    by false e = absurd (cc e)

after_first : (link : At) (table : Table) → IsFirstMaking (new_table.after_making link table)
after_first (Root root) table = tt
after_first (Used root) table = tt
after_first (Slot slot field) table = tt
after_first (Entry block field) table = tt
after_first (Word block field) table = tt

module _ (map : ℕ) (known : Known) where
  -- a growth was asked for
  abbrev pub HasAsked : Changed → Type 0
  HasAsked told = has_grown (effects_of (acts.Making map) known told) ≡ true

  -- what a step of it leads to
  abbrev pub TableThen : Changed → NewTable × Advance Table → Type 0
  TableThen told (n, progress.Goes) = IsFirstMaking n.stands
  TableThen told (n, progress.Waits) = ⊥
  TableThen told (n, progress.Done table) = Unit {0}
  TableThen told (n, progress.Refused fault) = (fault ≡ Memory) × HasAsked told

module _ {K V : Type 0} (map : ℕ) (known : Known) (m m2 : Mem (Node K V)) (told : Changed) (n : NewTable) where
  abbrev Then : NewTable × Advance Table → Type 0
  Then = TableThen map known told

  made_then : (table : Table) (words : ℕ) (end : NewTable × Advance Table) → IsFirstMaking n.stands → (out : Out (Node K V))
      → told ≡ told_as m (Make (node.Table table.len table.limit table.turn) words) out → Ends (value_at m2) (new_table.made n table out) end → Then end
  made_then table words end first (Found word) is ends = subst Then (sym ends) first
  made_then table words end first Stored is ends = subst Then (sym ends) first
  made_then table words end first (Exchanged found) is ends = subst Then (sym ends) first
  made_then table words end first (Made (Ok b)) is ends = subst Then (sym ends) (after_first n.link (new_table.with_block table b))
  made_then table words end first (Made (Err back)) is ends = subst Then (sym ends) (refl, subst (HasAsked map known) (sym is) refl)
  made_then table words end first (Taken value) is ends = subst Then (sym ends) first
  made_then table words end first (Roomed roomed) is ends = subst Then (sym ends) first

  linked_then : (table : Table) (end : NewTable × Advance Table) → IsFirstMaking n.stands → (out : Out (Node K V)) → Ends (value_at m2) (new_table.linked n table out) end → Then end
  linked_then table end first (Found word) ends = subst Then (sym ends) first
  linked_then table end first Stored ends = subst Then (sym ends) first
  linked_then table end first (Exchanged (Ok empty)) ends = subst Then (sym ends) tt
  linked_then table end first (Exchanged (Err found)) ends = subst Then (sym ends) tt
  linked_then table end first (Made made) ends = subst Then (sym ends) first
  linked_then table end first (Taken value) ends = subst Then (sym ends) first
  linked_then table end first (Roomed roomed) ends = subst Then (sym ends) first

  table_then : (stands : Making) → n.stands ≡ stands → IsFirstMaking stands → (end : NewTable × Advance Table)
      → StepsObserved K V (NewTable × Advance Table) m changed.Nothing (new_table.plan_at n stands) m2 told end → Then end
  table_then (makes.Sums before reason sum) is first end s = absurd first
  table_then (makes.Makes table) is first end s = made_then table ((table.len + PLACES) % 2 ^ 64) end (subst IsFirstMaking (sym is) first) s.0 s.1.1 s.2
  table_then (makes.Promotes table) is first end s = subst Then (sym s.2) tt
  table_then (makes.Links table) is first end s = linked_then table end (subst IsFirstMaking (sym is) first) s.0 s.2
  table_then (makes.Drops table found) is first end s =
      let d = taken m (λ out. new_table.other n found) (table.link / 2048) m2 end (as_step m changed.Nothing (new_table.plan_at n (makes.Drops table found)) m2 told end s) in
      subst Then (sym d.3.2) tt
  table_then (makes.Over table) is first end s = absurd first
  table_then (makes.Refused fault) is first end s = absurd first

  pub first_tables_then : IsFirstMaking n.stands → (end : NewTable × Advance Table) → StepsObserved K V (NewTable × Advance Table) m changed.Nothing (new_table.new_table_plan n) m2 told end → Then end
  first_tables_then first end s = table_then n.stands refl first end s

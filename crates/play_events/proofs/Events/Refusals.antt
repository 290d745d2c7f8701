-- A making of a map that is refused for want of something else than memory has done nothing: it was looking for a root.
use Rattle.std.specs.Prelude.{◌≡◌, ◌≤◌, ◌⊎◌, ◌+◌, ◌-◌, ◌^◌, ◌==◌, nat_lt, max, ℕ, Bool, true, false, List, [], ◌++◌, Ok, Err, if◌then◌else◌}
use Rattle.std.proofs.Common.{refl, ap, sym, subst, ◌∙◌, inl, inr}
use Rattle.run_schedules.specs.Given.SeizeWordsDeclared.at.At.TheVariants.{Used}
use Rattle.run_schedules.specs.Given.SeizeWordsDeclared.fault.Fault.TheVariants.{Memory, RootsUsedUp}
use Rattle.run_schedules.specs.Given.SeizeWordsMem.{Mem, value_at}
use Rattle.run_schedules.specs.Given.SeizeWordsOp.{Out, Found, Stored, Exchanged, Made, Taken, Roomed, Exchange}
use Rattle.run_schedules.specs.Given.SeizeWordsPlan.{Ends}
use Rattle.play_stepping.specs.Given.SeizeDeclared.advance.Advance.{Advance}
use Rattle.play_stepping.specs.Given.SeizeDeclared.advance.Advance.TheVariants as progress
use Rattle.play_lists.specs.Given.TablesDeclared.node.Node.{Node}
use Rattle.play_lists.specs.Given.TablesDeclared.setting.Setting.{Setting}
use Rattle.play_lists.specs.Given.TablesDeclared.table.Table.{Table}
use Rattle.play_stepping.specs.Given.ResizeNewMap as new_map
use Rattle.run_legal.specs.Given.ResizeNewTable as new_table
use Rattle.play_stepping.specs.Given.ResizeDeclared.new_map.NewMap.{NewMap}
use Rattle.play_stepping.specs.Given.ResizeDeclared.new_map.Opening.{Opening}
use Rattle.play_stepping.specs.Given.ResizeDeclared.new_map.Opening.TheVariants as opens
use Rattle.play_stepping.specs.Given.ResizeDeclared.new_table.NewTable.{NewTable}
use Rattle.run_schedules.specs.declared.effect.Effect.{Effect}
use Rattle.play_lists.specs.Given.TellerTells.{StepsObserved}
use Rattle.play_lists.specs.Given.EffectsDeclared.changed.Changed.{Changed}
use Rattle.play_lists.specs.Given.EffectsDeclared.changed.Changed.TheVariants as changed
use Rattle.play_lists.specs.Given.EffectsEffects.{effects_of}
use Rattle.play_lists.specs.Given.EffectsKnown.{Known}
use Rattle.play_lists.specs.Given.EffectsDeclared.acting.Acting.TheVariants as acts
use Rattle.play_lists.proofs.Given.Told.{told_as, told_back}
use Rattle.run_legal.proofs.Given.LogMakingTables.{IsFirstMaking, TableThen, begins_first, first_tables_then}

-- While it looks for a root it has done nothing, and after that it may be refused for want of memory alone.
abbrev pub MayBeRefused : List Effect → Opening → Type 0
MayBeRefused did opens.Takes = did ≡ []
MayBeRefused did opens.Shards = Unit {0}
MayBeRefused did (opens.Tables making) = IsFirstMaking making.stands
MayBeRefused did (opens.Unmakes fault) = fault ≡ Memory
MayBeRefused did (opens.Frees fault) = fault ≡ Memory
MayBeRefused did _ = ⊥

-- So it goes on, or is refused.
abbrev pub IsRefusedSo : List Effect → NewMap × Advance Setting → Type 0
IsRefusedSo did (n, progress.Goes) = MayBeRefused did n.stands
IsRefusedSo did (n, progress.Refused fault) = (fault ≡ Memory) ⊎ (did ≡ [])
IsRefusedSo did (n, _) = Unit {0}

module _ {K V : Type 0} (map : ℕ) (known : Known) where
  -- a root that is tried says nothing
  takes_nothing : (m : Mem (Node K V)) (r : ℕ) (out : Out (Node K V)) → effects_of (acts.Making map) known (told_as m (Exchange (Used r) 0 1) out) ≡ []
  takes_nothing m r (Exchanged (Ok word)) = refl
  takes_nothing m r (Exchanged (Err word)) = refl
  takes_nothing m r (Found word) = refl
  takes_nothing m r Stored = refl
  takes_nothing m r (Made made) = refl
  takes_nothing m r (Taken value) = refl
  takes_nothing m r (Roomed roomed) = refl

  module _ (did : List Effect) (m m2 : Mem (Node K V)) (told : Changed) (n : NewMap) (small : max n.len 8 ≤ 2 ^ 48) where
    abbrev did2 : List Effect
    did2 = did ++ effects_of (acts.Making map) known told

    abbrev Then : NewMap × Advance Setting → Type 0
    Then = IsRefusedSo did2

    takes_then : n.stands ≡ opens.Takes → did2 ≡ [] → (end : NewMap × Advance Setting) (out : Out (Node K V)) → Ends (value_at m2) (new_map.taken n out) end → Then end
    takes_then is none end out ends = by out ends
      where
        still : MayBeRefused did2 n.stands
        still = subst (MayBeRefused did2) (sym is) none

        next : (q : Bool) → Then (if q then (record n { setting = new_map.at_root n.setting (n.setting.root + 1) }, progress.Goes) else new_map.refused n RootsUsedUp)
        next true = still
        next false = inr none

        by : (o : Out (Node K V)) → Ends (value_at m2) (new_map.taken n o) end → Then end
        by (Exchanged (Ok free)) e = subst Then (sym e) tt
        by (Exchanged (Err used)) e = subst Then (sym e) (next (nat_lt n.setting.root (n.roots - 1)))
        by (Found word) e = subst Then (sym e) still
        by Stored e = subst Then (sym e) still
        by (Made made) e = subst Then (sym e) still
        by (Taken value) e = subst Then (sym e) still
        by (Roomed roomed) e = subst Then (sym e) still

    -- with its counter
    abbrev counted : ℕ → NewMap
    counted b = record n { setting = new_map.with_counter n.setting b }

    shards_then : n.stands ≡ opens.Shards → (end : NewMap × Advance Setting) (out : Out (Node K V)) → Ends (value_at m2) (new_map.made n out) end → Then end
    shards_then is end out ends = by out ends
      where
        still : MayBeRefused did2 n.stands
        still = subst (MayBeRefused did2) (sym is) tt

        with_block : (b : ℕ) (q : Bool) → Then (if q then new_map.done (counted b) else new_map.goes (counted b) (opens.Tables (new_table.first_table (counted b).setting n.len)))
        with_block b true = tt
        with_block b false = begins_first (counted b).setting n.len small

        by : (o : Out (Node K V)) → Ends (value_at m2) (new_map.made n o) end → Then end
        by (Made (Ok b)) e = subst Then (sym e) (with_block b (n.len == 0))
        by (Made (Err back)) e = subst Then (sym e) refl
        by (Found word) e = subst Then (sym e) still
        by Stored e = subst Then (sym e) still
        by (Exchanged found) e = subst Then (sym e) still
        by (Taken value) e = subst Then (sym e) still
        by (Roomed roomed) e = subst Then (sym e) still

    opened_then : (inner : NewTable × Advance Table) → TableThen map known told inner → (end : NewMap × Advance Setting) → end ≡ new_map.opened n inner → Then end
    opened_then (t, progress.Goes) so end e = subst Then (sym e) so
    opened_then (t, progress.Waits) so end e = absurd so
    opened_then (t, progress.Done table) so end e = subst Then (sym e) tt
    opened_then (t, progress.Refused fault) so end e = subst Then (sym e) so.0

    point_then : (stands : Opening) → n.stands ≡ stands → MayBeRefused did stands → (end : NewMap × Advance Setting)
        → StepsObserved K V (NewMap × Advance Setting) m changed.Nothing (new_map.plan_at n stands) m2 told end → Then end
    point_then opens.Takes is so end s =
        let none = ap (effects_of (acts.Making map) known) s.1.1 ∙ takes_nothing m n.setting.root s.0 in takes_then is (ap (λ (l : List Effect). l ++ effects_of (acts.Making map) known told) so ∙ none) end s.0 s.2
    point_then opens.Shards is so end s = shards_then is end s.0 s.2
    point_then (opens.Tables making) is so end s =
        let b = told_back (new_map.opened n) m m2 changed.Nothing told (new_table.new_table_plan making) end s in opened_then b.0 (first_tables_then map known m m2 told making so b.0 b.1) end b.2
    point_then (opens.Unmakes fault) is so end s = subst Then (sym s.2) so
    point_then (opens.Frees fault) is so end s = subst Then (sym s.2) (inl so)
    point_then opens.Over is so end s = absurd so
    point_then (opens.Refused fault) is so end s = absurd so

    -- so it is by each step
    pub refused_so : MayBeRefused did n.stands → (end : NewMap × Advance Setting) → StepsObserved K V (NewMap × Advance Setting) m changed.Nothing (new_map.new_map_plan n) m2 told end → Then end
    refused_so so end s = point_then n.stands refl so end s

-- In blocking mode, how a copier comes to another table, where its target was given up.
use Rattle.std.proofs.Common.{◌≡◌, ℕ, suc, ◌-◌, Bool, inl, inr, refl, ap, arith}
use Rattle.seize_words.specs.declared.at.At.TheVariants.{Word}
use Rattle.seize_words.specs.OneMemory.Mem.{Mem, Took, value_at}
use Rattle.seize_words.specs.OneMemory.Plan.{Steps}
use Rattle.seize_words.proofs.OneMemory.OneOwner.Operations.{loaded}
use Rattle.seize_acts.proofs.Given.SeizeRuleRows.Leaving.{steps_back}
use Rattle.seize.specs.declared.advance.Advance.{Advance}
use Rattle.seize.specs.declared.advance.Advance.TheVariants as progress
use Rattle.map_tables.specs.TablePlaces.{at_word}
use Rattle.map_tables.specs.declared.lengths.Reason.TheVariants.{NoPlace}
use Rattle.map_tables.specs.declared.node.Node.{Node}
use Rattle.map_tables.specs.declared.setting.Setting.{Setting}
use Rattle.map_tables.specs.declared.table.Table.{Table}
use Rattle.map_tables.specs.declared.table_words.TheConstants.{NEXT}
use Rattle.map_machines.specs.CopierStates.{standing}
use Rattle.map_machines.specs.CopierFurther.{replaces, remakes, remade, replacement_read, anew}
use Rattle.map_machines.specs.NewTable.{table_after, new_table_plan}
use Rattle.map_machines.specs.declared.yielding.Yielding.{Yielding}
use Rattle.map_machines.specs.declared.yielding.Yielding.TheVariants.{Goes}
use Rattle.map_machines.specs.declared.copier.Copier.{Copier}
use Rattle.map_machines.specs.declared.copier.Copying.{Copying as Point}
use Rattle.map_machines.specs.declared.copier.Copying.TheVariants as at
use Rattle.map_machines.specs.declared.new_table.NewTable.{NewTable}
use Rattle.many_calls.specs.Given.RuleChart.{Chart}
use Rattle.many_calls.specs.Given.RuleMaps.{IsTable}
use Rattle.many_calls.specs.Given.RuleWords.{Blocks}
use Rattle.many_calls.proofs.Given.RuleWords.LinksRead.{link_ends}
use Rattle.many_calls.proofs.Given.RuleWords.LinksSeen.{next_leads}
use Rattle.many_calls.proofs.Given.PointsMaking.EndsNewTable.{new_table_lowers}
use Rattle.many_calls.specs.Given.PointsMeasures.{IsBelow}
use Rattle.many_calls.specs.Given.PointsMeasuresTables.{number_of_new_table}
use Rattle.map_measures.specs.Falls.CopiesBlocking.{number_at, number_of_copier_blocking, targets}
use Rattle.map_measures.proofs.Falls.Onward.{Onward}
use Rattle.map_measures.proofs.Falls.Stands.{NewTableStands}
use Rattle.map_measures.proofs.Falls.Making.MakingBounds.{begun_within}
use Rattle.map_measures.proofs.Falls.Making.MakingOn.{MadeOn, made_on}
use Rattle.map_measures.proofs.Falls.Copiers.CopierOn.{CopierOn, by_end, past_still}

module _ {K V : Type 0} (same : K → K → Bool) (hash : K → ℕ) (setting : Setting) (m : Mem (Node K V)) (c : Chart K) (blocks : Blocks) (m2 : Mem (Node K V)) (c2 : Chart K) (blocks2 : Blocks)
    (on : Onward same hash setting m c blocks m2 c2 blocks2) (p : Copier) where
  -- what is to be shown of a step from there
  abbrev On : Point → Copier × Yielding (Node K V) Table → Type 0
  On stands end = CopierOn c.past c2.past (number_at c blocks p) (number_of_copier_blocking c2 blocks2) p stands end

  ends_as : (stands : Point) (end e : Copier × Yielding (Node K V) Table) → end ≡ e → On stands e → On stands end
  ends_as = by_end c.past c2.past (number_at c blocks p) (number_of_copier_blocking c2 blocks2) p

  abbrev tables : ℕ
  tables = targets c blocks p

  same_tables : c2.past ≡ c.past → targets c2 blocks2 p ≡ tables
  same_tables past = ap (λ x. x - p.target.turn) past

  module _ (end : Copier × Yielding (Node K V) Table) (t : ℕ) (target : IsTable c blocks p.target t) where
    -- another table comes after its target
    turn : p.target.turn ≡ t
    turn = ap (λ (x : Table). x.turn) target.is

    pub on_replaces : Steps Took value_at m (replaces p) m2 end → On at.Replaces end
    on_replaces s =
        let l = loaded m (replacement_read p) (at_word p.target NEXT) m2 end s in
        let leads_on = next_leads same hash setting.mode setting.root m c blocks on.map p.target t l.0 target l.1 in
        let past = past_still same hash setting m c blocks m2 c2 blocks2 on l.2 in
        link_ends hash m c blocks setting.root on.map.shows l.0 (suc t) leads_on (standing p (at.Remakes making), Goes) (λ next. (anew p next, Goes)) (On at.Replaces)
        (λ last. inr (past, (let h = (begun_within c2.past NoPlace p.target p.setting refl).0 in omega (arith, h)), inr (same_tables past, inl (omega arith))))
        (λ next there. inr (past, omega arith, inl (let turn2 = ap (λ (x : Table). x.turn) there.is in let made = target.made in let is = turn in omega (arith, past, is, turn2, made)))) end l.3
      where
        making : NewTable
        making = table_after p.setting p.target NoPlace

    module _ (making : NewTable) (stands : NewTableStands setting m c blocks (Word (blocks.table t) NEXT) (suc t) making) where
      on_remade : (inner : NewTable × Advance Table) → MadeOn same hash setting m c blocks m2 c2 blocks2 on (Word (blocks.table t) NEXT) (suc t) making making.stands inner
          → (inner.1 ≡ progress.Goes → IsBelow (number_of_new_table inner.0) (number_of_new_table making)) → On (at.Remakes making) (remade p inner)
      on_remade (next, progress.Goes) made lower = inr (made.0, made.1, inr (same_tables made.0, inr (refl, inr (refl, inr (refl, inr (refl, inr (refl, lower refl)))))))
      on_remade (next, progress.Waits) made lower = tt
      on_remade (next, progress.Refused fault) made lower = inr (made, omega arith, inr (same_tables made, inl (omega arith)))
      on_remade (next, progress.Done table) (inl linked) lower = inl (linked.0, linked.1, omega arith)
      on_remade (next, progress.Done table) (inr found) lower =
          let turn2 = (found.2 tt).0 in let past = found.0 in let made = found.1 in let is = turn in inr (past, omega arith, inl (omega (arith, turn2, past, made, is)))

      pub on_remakes : Steps Took value_at m (remakes p making) m2 end → On (at.Remakes making) end
      on_remakes s =
          let b = steps_back (remade p) m m2 (new_table_plan making) end s in
          ends_as (at.Remakes making) end (remade p b.0) b.2
          (on_remade b.0 (made_on same hash setting m c blocks m2 c2 blocks2 on (Word (blocks.table t) NEXT) (suc t) making stands b.0 b.1) (new_table_lowers m making m2 b.0 b.1))

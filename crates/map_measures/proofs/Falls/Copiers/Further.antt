-- In incremental mode, how a copier comes to a further table, where a pair has no place in one.
use Rattle.std.proofs.Common.{◌≡◌, ℕ, suc, ◌-◌, ◌≤◌, Bool, inl, inr, refl, ap, sym, subst, arith}
use Rattle.seize_words.specs.declared.at.At.TheVariants.{Word}
use Rattle.seize_words.specs.OneMemory.Mem.{Mem, Took, value_at}
use Rattle.seize_words.specs.OneMemory.Plan.{Steps}
use Rattle.seize_words.proofs.OneMemory.OneOwner.Operations.{loaded}
use Rattle.seize_acts.proofs.Given.SeizeRuleRows.Leaving.{steps_back}
use Rattle.seize.specs.declared.advance.Advance.{Advance}
use Rattle.seize.specs.declared.advance.Advance.TheVariants as progress
use Rattle.map_tables.specs.TablePlaces.{at_word}
use Rattle.map_tables.specs.declared.lengths.Reason.TheVariants.{NoPlace}
use Rattle.map_tables.specs.declared.node.Node.{Node}
use Rattle.map_tables.specs.declared.setting.Setting.{Setting}
use Rattle.map_tables.specs.declared.table.Table.{Table}
use Rattle.map_tables.specs.declared.table_words.TheConstants.{NEXT}
use Rattle.map_machines.specs.CopierStates.{standing}
use Rattle.map_machines.specs.CopierMarks.{probing}
use Rattle.map_machines.specs.CopierFurther.{passes, grows, grown, further_read}
use Rattle.map_machines.specs.NewTable.{table_after, new_table_plan}
use Rattle.map_machines.specs.declared.yielding.Yielding.{Yielding}
use Rattle.map_machines.specs.declared.yielding.Yielding.TheVariants.{Goes}
use Rattle.map_machines.specs.declared.copier.Copier.{Copier}
use Rattle.map_machines.specs.declared.copier.Copying.{Copying as Point}
use Rattle.map_machines.specs.declared.copier.Copying.TheVariants as at
use Rattle.map_machines.specs.declared.new_table.NewTable.{NewTable}
use Rattle.many_calls.specs.Given.RuleChart.{Chart}
use Rattle.many_calls.specs.Given.RuleMaps.{IsTable}
use Rattle.many_calls.specs.Given.RuleWords.{Blocks}
use Rattle.many_calls.proofs.Given.RuleWords.LinksRead.{link_ends}
use Rattle.many_calls.proofs.Given.RuleWords.LinksSeen.{next_leads}
use Rattle.many_calls.proofs.Given.PointsMaking.EndsNewTable.{new_table_lowers}
use Rattle.many_calls.specs.Given.PointsMeasures.{IsBelow}
use Rattle.many_calls.specs.Given.PointsMeasuresTables.{number_of_new_table}
use Rattle.map_measures.specs.Falls.Copies.{number_at, number_of_copier, tables_from_before}
use Rattle.map_measures.proofs.Falls.Below.{at_most}
use Rattle.map_measures.proofs.Falls.Onward.{Onward}
use Rattle.map_measures.proofs.Falls.Stands.{NewTableStands}
use Rattle.map_measures.proofs.Falls.Making.MakingBounds.{begun_within}
use Rattle.map_measures.proofs.Falls.Making.MakingOn.{MadeOn, made_on}
use Rattle.map_measures.proofs.Falls.Copiers.CopierOn.{CopierOn, by_end, past_still}
use Rattle.map_measures.proofs.Falls.Copiers.Stages.{refusing_below}

module _ {K V : Type 0} (same : K → K → Bool) (hash : K → ℕ) (setting : Setting) (m : Mem (Node K V)) (c : Chart K) (blocks : Blocks) (m2 : Mem (Node K V)) (c2 : Chart K) (blocks2 : Blocks)
    (on : Onward same hash setting m c blocks m2 c2 blocks2) (p : Copier) where
  -- what is to be shown of a step from there
  abbrev On : Point → Copier × Yielding (Node K V) Table → Type 0
  On stands end = CopierOn c.past c2.past (number_at c blocks p) (number_of_copier c2 blocks2) p stands end

  ends_as : (stands : Point) (end e : Copier × Yielding (Node K V) Table) → end ≡ e → On stands e → On stands end
  ends_as = by_end c.past c2.past (number_at c blocks p) (number_of_copier c2 blocks2) p

  still : m2 ≡ m → c2.past ≡ c.past
  still = past_still same hash setting m c blocks m2 c2 blocks2 on

  module _ (end : Copier × Yielding (Node K V) Table) where
    -- a table is left
    pub on_passes : (word code : ℕ) (table : Table) (t : ℕ) → IsTable c blocks table t → Steps Took value_at m (passes p word code table) m2 end → On (at.Passes word code table) end
    on_passes word code table t entered s =
        let l = loaded m (further_read p word code table) (at_word table NEXT) m2 end s in
        let leads_on = next_leads same hash setting.mode setting.root m c blocks on.map table t l.0 entered l.1 in
        link_ends hash m c blocks setting.root on.map.shows l.0 (suc t) leads_on (standing p (at.Grows word code making), Goes) (λ next. (probing p word code next, Goes)) (On (at.Passes word code table))
        (λ last. making_below (still l.2)) (λ next there. next_below_it (still l.2) next there) end l.3
      where
        making : NewTable
        making = table_after p.setting table NoPlace

        turn : table.turn ≡ t
        turn = ap (λ (x : Table). x.turn) entered.is

        making_below : c2.past ≡ c.past → On (at.Passes word code table) (standing p (at.Grows word code making), Goes)
        making_below past =
            let h = begun_within c2.past NoPlace table p.setting refl in
            let l = h.0 in
            inr (
              past,
              omega (arith, l),
              inr (refl, inr (refl, inr (refl, at_most (tables_from_before c2.past making.stands) (c.past - table.turn) (let fewer = h.1 in omega (arith, fewer, past)) (inr (refl, inl (omega arith)))))),
            )

        next_below_it : c2.past ≡ c.past → (next : Table) → IsTable c blocks next (suc t) → On (at.Passes word code table) (probing p word code next, Goes)
        next_below_it past next there =
            let turn2 = ap (λ (x : Table). x.turn) there.is in
            let made = entered.made in
            inr (past, omega arith, inr (refl, inr (refl, inr (refl, inl (omega (arith, past, turn, turn2, made))))))

    -- a table is made
    module _ (word code : ℕ) (making : NewTable) (t : ℕ) (stands : NewTableStands setting m c blocks (Word (blocks.table t) NEXT) (suc t) making) where
      abbrev Made : NewTable × Advance Table → Type 0
      Made inner = MadeOn same hash setting m c blocks m2 c2 blocks2 on (Word (blocks.table t) NEXT) (suc t) making making.stands inner

      on_grown : (inner : NewTable × Advance Table) → Made inner → (inner.1 ≡ progress.Goes → IsBelow (number_of_new_table inner.0) (number_of_new_table making))
          → On (at.Grows word code making) (grown p word code inner)
      on_grown (next, progress.Goes) made lower =
          inr (
            made.0,
            made.1,
            inr (
              refl,
              inr (
                refl,
                inr (
                  refl,
                  at_most (tables_from_before c2.past next.stands) (tables_from_before c.past making.stands)
                      (subst (λ x. tables_from_before x next.stands ≤ tables_from_before c.past making.stands) (sym made.0) made.2) (inr (refl, inr (refl, lower refl))),
                ),
              ),
            ),
          )
      on_grown (next, progress.Waits) made lower = tt
      on_grown (next, progress.Refused fault) made lower = let h = refusing_below c2 blocks2 p word (p.end - p.place) _ fault in inr (made, (let none = h.0 in omega (arith, none)), h.1)
      on_grown (next, progress.Done table) (inl linked) lower = inl (linked.0, linked.1, omega arith)
      on_grown (next, progress.Done table) (inr found) lower =
          let h = found.2 tt in
          let turn = h.0 in let tables = h.1 in let past = found.0 in let made = found.1 in
          inr (past, omega arith, inr (refl, inr (refl, inr (refl, inl (omega (arith, turn, tables, past, made))))))

      pub on_grows : Steps Took value_at m (grows p word code making) m2 end → On (at.Grows word code making) end
      on_grows s =
          let b = steps_back (grown p word code) m m2 (new_table_plan making) end s in
          ends_as (at.Grows word code making) end (grown p word code b.0) b.2
          (on_grown b.0 (made_on same hash setting m c blocks m2 c2 blocks2 on (Word (blocks.table t) NEXT) (suc t) making stands b.0 b.1) (new_table_lowers m making m2 b.0 b.1))

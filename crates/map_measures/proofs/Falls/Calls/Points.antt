-- Each step of a call that goes on, and is none of a row of the collector, leads to lower numbers.
use Rattle.std.specs.Prelude.{◌/◌, ◌==◌, bit_and, if◌then◌else◌, ◌∷◌, Option, None, Some}
use Rattle.std.proofs.Common.{◌≡◌, ℕ, suc, ◌-◌, ◌^◌, ◌<◌, Bool, true, false, inl, inr, refl, ap, sym, subst, arith}
use Rattle.seize_words.specs.declared.at.At.TheVariants.{Root, Word}
use Rattle.seize_words.specs.OneMemory.Mem.{Mem, Took, value_at}
use Rattle.seize_words.specs.OneMemory.Plan.{Now, Seeing, Steps, Turn}
use Rattle.seize_words.proofs.OneMemory.OneOwner.Operations.{loaded, added, made as made_by_step, taken}
use Rattle.seize_words.proofs.OneMemory.Plans.{ends_if}
use Rattle.seize_acts.proofs.Given.SeizeRuleRows.Leaving.{steps_back}
use Rattle.map_tables.specs.Counts.{count_change}
use Rattle.map_tables.specs.Chunks.{is_incremental}
use Rattle.map_tables.specs.Nodes.{table_seen}
use Rattle.map_tables.specs.TablePlaces.{at_word}
use Rattle.map_tables.specs.declared.lengths.TheConstants.{FIRST_LEN}
use Rattle.map_tables.specs.declared.node.Node.{Node}
use Rattle.map_tables.specs.declared.setting.Setting.{Setting}
use Rattle.map_tables.specs.declared.table.Table.{Table}
use Rattle.map_tables.specs.declared.table_words.TheConstants.{NEXT}
use Rattle.many_calls.specs.Given.RawAnswers.{ended}
use Rattle.many_calls.specs.Given.RawCall.{makes_of, makes, made, root_found, roots, next_found, nexts, dropped, drops, counts, looked, looks_for, looks, first_made, next_made, disposed, helped, copied, plan_at, call_plan}
use Rattle.many_calls.specs.Given.RawCallPoints.{going, asking_at, tableless, at_last, following_made, entering, continued_in, counted, answering}
use Rattle.many_calls.specs.Given.RawDeclared.machines.answer.KeyAnswer.TheVariants as answers
use Rattle.many_calls.specs.Given.RawDeclared.machines.answer.Missing.{Missing}
use Rattle.many_calls.specs.Given.RawDeclared.machines.answer.Missing.TheVariants as missing
use Rattle.many_calls.specs.Given.RawDeclared.machines.answer.End.{End}
use Rattle.many_calls.specs.Given.RawDeclared.machines.answer.End.TheVariants as ends
use Rattle.many_calls.specs.Given.RawDeclared.machines.answer.Called.{Called}
use Rattle.many_calls.specs.Given.RawDeclared.machines.asking.Gap.TheVariants as gaps
use Rattle.many_calls.specs.Given.RawDeclared.machines.call.KeyCall.{KeyCall}
use Rattle.many_calls.specs.Given.RawDeclared.machines.call.Calling.{Calling}
use Rattle.many_calls.specs.Given.RawDeclared.machines.call.Calling.TheVariants as at
use Rattle.map_machines.specs.Copier.{copier_plan}
use Rattle.map_machines.specs.Dispose.{disposing, dispose_plan}
use Rattle.map_machines.specs.Lookup.{lookup_plan}
use Rattle.map_machines.specs.NewTable.{first_table, new_table_plan}
use Rattle.map_machines.specs.declared.lookup.Lookup.{Lookup}
use Rattle.many_calls.specs.Given.RuleChart.{Chart}
use Rattle.many_calls.specs.Given.RuleMaps.{IsTable}
use Rattle.many_calls.specs.Given.RuleWords.{Blocks}
use Rattle.many_calls.proofs.Given.RuleWords.LinksRead.{link_ends}
use Rattle.many_calls.proofs.Given.RuleWords.LinksSeen.{next_leads}
use Rattle.many_calls.proofs.Given.PointsMaking.EndsNewTable.{new_table_lowers}
use Rattle.many_calls.specs.Given.PointsMeasures.{IsBelow}
use Rattle.many_calls.specs.Given.PointsTold.{IsRowOfCall}
use Rattle.map_measures.specs.Falls.Room.{planned, tables_to_come}
use Rattle.map_measures.specs.Falls.Calls.{nothing_within, number_at, number_of_call}
use Rattle.map_measures.specs.Falls.Falls.{GoesFurther}
use Rattle.map_measures.proofs.Falls.Below.{at_most, no_more}
use Rattle.map_measures.proofs.Falls.Onward.{Onward, past_kept}
use Rattle.map_measures.proofs.Falls.Kept.{keeps_still}
use Rattle.map_measures.proofs.Falls.Stands.{CallingStands, CallStands}
use Rattle.map_measures.proofs.Falls.Making.MakingBounds.{first_within}
use Rattle.map_measures.proofs.Falls.Making.MakingOn.{made_on}
use Rattle.map_measures.proofs.Falls.Within.Lookups.{looked_on}
use Rattle.map_measures.proofs.Falls.Within.Disposals.{disposed_on}
use Rattle.map_measures.proofs.Falls.Copiers.Incremental.{copied_on}
use Rattle.map_measures.proofs.Falls.Copiers.Blocking.{copied_on_blocking}
use Rattle.map_measures.proofs.Falls.Calls.Tries.{ending_below, asking_below}
use Rattle.map_measures.proofs.Falls.Calls.Inner.{on_below, looked_below, disposed_below, helped_below, copied_below, first_below, next_below}
use Rattle.map_measures.proofs.Falls.Calls.TryPoints.{on_probes, on_tries}
use Rattle.map_measures.proofs.Falls.Calls.FillPoints.{on_asking}

module _ {K V Q : Type 0} (same : K → K → Bool) (hash : K → ℕ) (asks : Q → K → Bool) (fits : (k : K) → hash k < 2 ^ 64) (setting : Setting)
    (m : Mem (Node K V)) (c : Chart K) (blocks : Blocks) (m2 : Mem (Node K V)) (c2 : Chart K) (blocks2 : Blocks) (on : Onward same hash setting m c blocks m2 c2 blocks2) (p : KeyCall K V Q) where
  -- what is to be shown of a step from there
  abbrev Goal : Calling → KeyCall K V Q × Called (Node K V) → Type 0
  Goal stands end = GoesFurther end.1 → IsBelow (number_of_call hash c2 blocks2 end.0) (number_at hash c blocks p stands)

  ends_as : (stands : Calling) (end e : KeyCall K V Q × Called (Node K V)) → end ≡ e → Goal stands e → Goal stands end
  ends_as stands end e is = subst (λ (x : KeyCall K V Q × Called (Node K V)). Goal stands x) (sym is)

  still : m2 ≡ m → c2.past ≡ c.past
  still is = past_kept same hash setting m c blocks m2 c2 blocks2 on (keeps_still setting.root c blocks m m2 is)

  to_come : c2.past ≡ c.past → tables_to_come c2.past 0 ≡ tables_to_come c.past 0
  to_come past = ap (λ x. tables_to_come x 0) past

  module _ (end : KeyCall K V Q × Called (Node K V)) where
    -- its own block is made
    on_makes : Steps Took value_at m (makes p) m2 end → Goal at.Makes end
    on_makes s = by p.unmade s
      where
        by : (unmade : Option (Node K V)) → Steps Took value_at m (makes_of p unmade) m2 end → Goal at.Makes end
        by None s = ends_as at.Makes end _ s.1 (λ goes. inl (omega arith))
        by (Some node) s =
            elim (made_by_step m (made p) node 0 m2 end s) as (λ _. Goal at.Makes end) [
              | inl d ↦ ends_as at.Makes end _ d.3 (λ goes. inl (omega arith))
              | inr d ↦ ends_as at.Makes end _ d.3 (λ goes. inl (omega arith))
            ]

    -- the root is read
    on_roots : Steps Took value_at m (roots p) m2 end → Goal at.Roots end
    on_roots s =
        let d = loaded m (root_found p) (Root p.setting.root) m2 end s in
        elim (ends_if (value_at m) (d.0 == 0) (Now (tableless p.missing p)) (Seeing (d.0 / 2048) (λ value. Now (entering p (table_seen d.0 value)))) end d.3) as (λ _. Goal at.Roots end) [
          | inl h ↦ ends_as at.Roots end _ h.1 (none (still d.2) p.missing refl)
          | inr h ↦ ends_as at.Roots end _ h.1.2 (λ goes. inr (refl, inr (to_come (still d.2), inl (let past = still d.2 in omega (arith, past)))))
        ]
      where
        makes_first : c2.past ≡ c.past → Goal at.Roots (going {V = V} p (at.Firsts (first_table p.setting FIRST_LEN)))
        makes_first past goes =
            inr (
              refl,
              at_most _ _
                  (no_more c.past c2.past 0 (planned (first_table p.setting FIRST_LEN).stands) (omega (arith, past)) (let few = first_within p.setting FIRST_LEN in omega (arith, few)))
                  (inr (ap suc past, inr (refl, inr (refl, inl (omega arith))))),
            )

        none : c2.past ≡ c.past → (x : Missing) → p.missing ≡ x → Goal at.Roots (tableless {V = V} x p)
        none past missing.Asks e = asking_below hash c2 blocks2 p gaps.NoTable _ (makes_first past)
        none past missing.Answers e = ending_below hash c2 blocks2 p (ends.Answered answers.Absent) 5 _ (omega arith)
        none past missing.Puts e = makes_first past

    -- its change is counted
    on_counts : (removed : ℕ) → Steps Took value_at m (counts p removed) m2 end → Goal (at.Counts removed) end
    on_counts removed s =
        let d = added m (λ out. Now (counted p removed)) (Word p.setting.counter (bit_and p.setting.slot p.setting.mask)) (count_change removed) m2 end s in
        ends_as (at.Counts removed) end (counted p removed) d.3 (by (removed == 0))
      where
        by : (b : Bool) → Goal (at.Counts removed)
            (if b then (record p { stands = at.Over (ends.Answered (answers.Stored p.own)) }, ended {T = Node K V} (ends.Answered (answers.Stored p.own)))
            else going p (at.Disposes (disposing p.setting removed p.trial.table) (answers.Removed removed)))
        by true goes = absurd goes
        by false goes = inl (omega arith)

    -- its own block is taken away
    on_drops : (over : End) → Steps Took value_at m (drops p over) m2 end → Goal (at.Drops over) end
    on_drops over s = let d = taken m (dropped p over) (p.own / 2048) m2 end s in ends_as (at.Drops over) end _ d.3 (λ goes. inl (omega arith))

    -- it has ended
    on_over : (over : End) → Steps {R = KeyCall K V Q × Called (Node K V)} Took value_at m (Turn (Now (p, ended over))) m2 end → Goal (at.Over over) end
    on_over over s = ends_as (at.Over over) end (p, ended over) s.1 (λ goes. absurd (not_on over goes))
      where
        not_on : (over : End) → GoesFurther (ended {T = Node K V} over) → ⊥
        not_on (ends.Answered answer) goes = goes
        not_on (ends.Refused fault) goes = goes

    -- the link to the next table is read
    module _ (t : ℕ) (entered : IsTable c blocks p.trial.table t) where
      turn : p.trial.table.turn ≡ t
      turn = ap (λ (x : Table). x.turn) entered.is

      last_below : c2.past ≡ c.past → Goal at.Nexts (at_last {V = V} p.missing p)
      last_below past = by p.missing refl
        where
          makes_next : Goal at.Nexts (following_made {V = V} p)
          makes_next goes = inr (refl, inr (to_come past, inr (ap (λ x. x - p.trial.table.turn) past, inr (refl, inr (refl, inl (omega arith))))))

          by_mode : (ends_so : KeyCall K V Q × Called (Node K V)) → Goal at.Nexts ends_so → (b : Bool) → Goal at.Nexts (if b then ends_so else following_made p)
          by_mode ends_so below true = below
          by_mode ends_so below false = makes_next

          by : (x : Missing) → p.missing ≡ x → Goal at.Nexts (at_last {V = V} x p)
          by missing.Answers e =
              by_mode (answering p answers.Absent) (ending_below hash c2 blocks2 p (ends.Answered answers.Absent) 5 _ (omega arith)) (is_incremental p.setting.mode)
          by missing.Puts e = makes_next
          by missing.Asks e = by_mode (asking_at gaps.Last p) (asking_below hash c2 blocks2 p gaps.Last _ makes_next) (is_incremental p.setting.mode)

      on_nexts : Steps Took value_at m (nexts p) m2 end → Goal at.Nexts end
      on_nexts s =
          let d = loaded m (next_found p) (at_word p.trial.table NEXT) m2 end s in
          let past = still d.2 in
          let leads = next_leads same hash setting.mode setting.root m c blocks on.map p.trial.table t d.0 entered d.1 in
          link_ends hash m c blocks setting.root on.map.shows d.0 (suc t) leads (at_last p.missing p) (continued_in p) (Goal at.Nexts)
          (λ last. last_below past)
          (λ table next. on_below hash c c2 blocks blocks2 p table (tables_to_come c.past 0) (c.past - p.trial.table.turn) (0 ∷ 0 ∷ 1 ∷ nothing_within)
          (inr (
            (let same_room = to_come past in omega (arith, same_room)),
            (let turn2 = ap (λ (x : Table). x.turn) next.is in let made = entered.made in let is = turn in omega (arith, past, is, turn2, made)),
          ))) end d.3

    on_looks : (l : Lookup) → CallingStands setting m c blocks p (at.Looks l) → Steps Took value_at m (looks asks p l) m2 end → Goal (at.Looks l) end
    on_looks l stands s = by p.asked s
      where
        by : (asked : Option Q) → Steps Took value_at m (looks_for asks p l asked) m2 end → Goal (at.Looks l) end
        by (Some q) s =
            let d = steps_back (looked p) m m2 (lookup_plan (asks q) l) end s in
            ends_as (at.Looks l) end (looked p d.0) d.2
            (looked_below hash c c2 blocks blocks2 p l d.0 (looked_on same hash setting m c blocks m2 c2 blocks2 on l (asks q) stands d.0 d.1).1)
        by None s = ends_as (at.Looks l) end _ s.1 (λ goes. absurd goes)

    on_at : (stands : Calling) → CallingStands setting m c blocks p stands → (IsRowOfCall stands → ⊥) → Steps Took value_at m (plan_at asks same hash p stands) m2 end → Goal stands end
    on_at at.Makes f none s = on_makes s
    on_at (at.Looks l) f none s = on_looks l f s
    on_at at.Roots f none s = on_roots s
    on_at at.Probes f none s = on_probes same hash asks fits setting m c blocks m2 c2 blocks2 on p end f.0 f.1 f.2 s
    on_at (at.Tries word new) f none s = on_tries same hash asks fits setting m c blocks m2 c2 blocks2 on p end f.0 f.1 f.2 word new s
    on_at at.Nexts f none s = on_nexts f.0 f.1 s
    on_at (at.Firsts making) f none s =
        let d = steps_back (first_made p) m m2 (new_table_plan making) end s in
        ends_as (at.Firsts making) end (first_made p d.0) d.2
        (first_below same hash setting m c blocks m2 c2 blocks2 on p (Root setting.root) 0 making d.0
        (made_on same hash setting m c blocks m2 c2 blocks2 on (Root setting.root) 0 making f d.0 d.1) (new_table_lowers m making m2 d.0 d.1))
    on_at (at.Allocs making) f none s =
        let d = steps_back (next_made p) m m2 (new_table_plan making) end s in
        ends_as (at.Allocs making) end (next_made p d.0) d.2
        (next_below same hash setting m c blocks m2 c2 blocks2 on p (Word (blocks.table f.0) NEXT) (suc f.0) making f.0 (ap (λ (x : Table). x.turn) f.1.is) f.1.made tt refl d.0
        (made_on same hash setting m c blocks m2 c2 blocks2 on (Word (blocks.table f.0) NEXT) (suc f.0) making f.2 d.0 d.1) (new_table_lowers m making m2 d.0 d.1))
    on_at (at.Helps copier goal) f none s =
        let d = steps_back (helped p goal) m m2 (copier_plan hash copier) end s in
        ends_as (at.Helps copier goal) end (helped p goal d.0) d.2
        (helped_below hash c c2 blocks blocks2 p copier goal d.0 (copied_on same hash setting m c blocks m2 c2 blocks2 on copier f.0 f.1 none d.0 d.1))
    on_at (at.Copies copier) f none s =
        let d = steps_back (copied p) m m2 (copier_plan hash copier) end s in
        ends_as (at.Copies copier) end (copied p d.0) d.2
        (copied_below hash c c2 blocks blocks2 p copier d.0 (copied_on_blocking same hash setting m c blocks m2 c2 blocks2 on copier f.0 f.1 none d.0 d.1))
    on_at (at.Counts removed) f none s = on_counts removed s
    on_at (at.Disposes dispose answer) f none s =
        let d = steps_back (disposed p answer) m m2 (dispose_plan dispose) end s in
        ends_as (at.Disposes dispose answer) end (disposed p answer d.0) d.2
        (disposed_below hash c c2 blocks blocks2 p dispose answer d.0 (disposed_on same hash setting m c blocks m2 c2 blocks2 on dispose f.0 f.1 f.2 none d.0 d.1))
    on_at (at.Asks asks_at) f none s = on_asking same hash setting m c blocks m2 c2 blocks2 on p end asks_at f s
    on_at (at.Drops over) f none s = on_drops over s
    on_at (at.Over over) f none s = on_over over s

module _ {K V Q : Type 0} (same : K → K → Bool) (hash : K → ℕ) (asks : Q → K → Bool) (fits : (k : K) → hash k < 2 ^ 64) (setting : Setting)
    (m : Mem (Node K V)) (c : Chart K) (blocks : Blocks) (m2 : Mem (Node K V)) (c2 : Chart K) (blocks2 : Blocks) (on : Onward same hash setting m c blocks m2 c2 blocks2) (p : KeyCall K V Q) where
  pub called_on : CallStands setting m c blocks p → (IsRowOfCall p.stands → ⊥) → (end : KeyCall K V Q × Called (Node K V)) → Steps Took value_at m (call_plan asks same hash p) m2 end
      → GoesFurther end.1 → IsBelow (number_of_call hash c2 blocks2 end.0) (number_of_call hash c blocks p)
  called_on stands none end s = on_at same hash asks fits setting m c blocks m2 c2 blocks2 on p end p.stands stands.point none s

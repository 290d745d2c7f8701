-- A step of a machine within a call that goes on leads the call to lower numbers.
use Rattle.std.specs.Prelude.{List, ◌∷◌, if◌then◌else◌, Option, Some, None}
use Rattle.std.proofs.Common.{◌≡◌, ℕ, suc, ◌-◌, ◌<◌, ◌≤◌, Bool, true, false, ◌⊎◌, inl, inr, refl, ap, sym, subst, ◌∙◌, arith}
use Rattle.seize_words.specs.declared.at.At.{At}
use Rattle.seize_words.specs.OneMemory.Mem.{Mem}
use Rattle.seize.specs.declared.advance.Advance.{Advance}
use Rattle.seize.specs.declared.advance.Advance.TheVariants as progress
use Rattle.seize.specs.declared.rows.settle.Settled.{Settled}
use Rattle.seize.specs.declared.rows.settle.Settled.TheVariants as settled
use Rattle.map_tables.specs.Chunks.{is_incremental}
use Rattle.map_tables.specs.declared.node.Node.{Node}
use Rattle.map_tables.specs.declared.resize_mode.ResizeMode.{ResizeMode}
use Rattle.map_tables.specs.declared.resize_mode.ResizeMode.TheVariants.{Incremental, Blocking}
use Rattle.map_tables.specs.declared.setting.Setting.{Setting}
use Rattle.map_tables.specs.declared.table.Table.{Table}
use Rattle.many_calls.specs.Given.RawCall.{looked, first_made, next_made, disposed, helped, copied}
use Rattle.many_calls.specs.Given.RawCallPoints.{going, entering, continued_in}
use Rattle.many_calls.specs.Given.RawDeclared.machines.answer.End.TheVariants as ends
use Rattle.many_calls.specs.Given.RawDeclared.machines.answer.KeyAnswer.{KeyAnswer}
use Rattle.many_calls.specs.Given.RawDeclared.machines.answer.Called.{Called}
use Rattle.many_calls.specs.Given.RawDeclared.machines.call.KeyCall.{KeyCall}
use Rattle.many_calls.specs.Given.RawDeclared.machines.call.Calling.TheVariants as at
use Rattle.map_machines.specs.CopierStates.{helping, copying_all}
use Rattle.map_machines.specs.declared.yielding.Yielding.{Yielding}
use Rattle.map_machines.specs.declared.yielding.Yielding.TheVariants as outcome
use Rattle.map_machines.specs.declared.copier.Copier.{Copier}
use Rattle.map_machines.specs.declared.copier.Copying.{Copying as Point}
use Rattle.map_machines.specs.declared.copier.Copying.TheVariants as copies
use Rattle.map_machines.specs.declared.dispose.Dispose.{Dispose}
use Rattle.map_machines.specs.declared.lookup.Lookup.{Lookup}
use Rattle.map_machines.specs.declared.new_table.NewTable.{NewTable}
use Rattle.many_calls.specs.Given.RuleChart.{Chart}
use Rattle.many_calls.specs.Given.RuleWords.{Blocks}
use Rattle.many_calls.specs.Given.PointsMeasures.{IsBelow}
use Rattle.many_calls.specs.Given.PointsMeasuresDisposes.{number_of_dispose}
use Rattle.many_calls.specs.Given.PointsMeasuresLooks.{number_of_lookup}
use Rattle.many_calls.specs.Given.PointsMeasuresTables.{number_of_new_table}
use Rattle.map_measures.specs.Falls.Room.{planned, planned_in_copying, tables_to_come}
use Rattle.map_measures.specs.Falls.Copies.{number_of_copier, number_at as incremental_at, tables_from_before}
use Rattle.map_measures.specs.Falls.CopiesBlocking.{number_of_copier_blocking, number_at as blocking_at, targets}
use Rattle.map_measures.specs.Falls.Calls.{two_of_eight, number_at, number_of_call}
use Rattle.map_measures.specs.Falls.Falls.{GoesFurther}
use Rattle.map_measures.proofs.Falls.Below.{at_most, below_followed, no_more, fewer}
use Rattle.map_measures.proofs.Falls.Onward.{Onward}
use Rattle.map_measures.proofs.Falls.Stands.{IsBehind}
use Rattle.map_measures.proofs.Falls.Making.MakingOn.{MadeOn}
use Rattle.map_measures.proofs.Falls.Copiers.CopierOn.{FallsTo, CopierOn}
use Rattle.map_measures.proofs.Falls.Within.DisposalRows.{RowGoesFurther}
use Rattle.map_measures.proofs.Falls.Calls.Tries.{ending_below}

-- the numbers of a copier in blocking mode begin with the tables from its target on
pub targets_first : {K : Type 0} (c : Chart K) (blocks : Blocks) (p : Copier) (stands : Point) → (xs : List ℕ) × (blocking_at c blocks p stands ≡ targets c blocks p ∷ xs)
targets_first c blocks p copies.Begins = (_, refl)
targets_first c blocks p copies.Follows = (_, refl)
targets_first c blocks p copies.Asks = (_, refl)
targets_first c blocks p copies.Sees = (_, refl)
targets_first c blocks p copies.Claims = (_, refl)
targets_first c blocks p copies.Marks = (_, refl)
targets_first c blocks p (copies.Probes word code table probe) = (_, refl)
targets_first c blocks p (copies.Puts word code table probe) = (_, refl)
targets_first c blocks p (copies.Covers word) = (_, refl)
targets_first c blocks p (copies.Passes word code table) = (_, refl)
targets_first c blocks p (copies.Grows word code making) = (_, refl)
targets_first c blocks p copies.Aborts = (_, refl)
targets_first c blocks p copies.Replaces = (_, refl)
targets_first c blocks p (copies.Remakes making) = (_, refl)
targets_first c blocks p copies.Counts = (_, refl)
targets_first c blocks p (copies.Tallies word fault) = (_, refl)
targets_first c blocks p (copies.Unmarks word fault) = (_, refl)
targets_first c blocks p (copies.Unclaims fault) = (_, refl)
targets_first c blocks p copies.Promotes = (_, refl)
targets_first c blocks p copies.Announces = (_, refl)
targets_first c blocks p (copies.Succeeds link) = (_, refl)
targets_first c blocks p (copies.Retires settle rest) = (_, refl)
targets_first c blocks p copies.Over = (_, refl)
targets_first c blocks p (copies.Refused fault) = (_, refl)

-- so a call that copies has fewer tables left, or as many, and then its copier is lower
behind_targets : (a b : ℕ) (us vs xs ys : List ℕ) → us ≡ a ∷ xs → vs ≡ b ∷ ys → IsBelow us vs → IsBelow (a ∷ 1 ∷ 0 ∷ 0 ∷ us) (b ∷ 1 ∷ 0 ∷ 0 ∷ vs)
behind_targets a b us vs xs ys us_is vs_is below =
    by (subst (λ (x : List ℕ). IsBelow (a ∷ xs) x) vs_is (subst (λ (x : List ℕ). IsBelow x vs) us_is below))
  where
    by : IsBelow (a ∷ xs) (b ∷ ys) → IsBelow (a ∷ 1 ∷ 0 ∷ 0 ∷ us) (b ∷ 1 ∷ 0 ∷ 0 ∷ vs)
    by (inl l) = inl l
    by (inr h) = inr (h.0, inr (refl, inr (refl, inr (refl, below))))

-- a copier of a whole table begins with no making within it
copies_target : (setting : Setting) (source target : Table) → ((copying_all setting source target).target ≡ target) × (planned_in_copying (copying_all setting source target).stands ≡ 0)
copies_target setting source target = by setting.mode refl
  where
    by : (mode : ResizeMode) → setting.mode ≡ mode → ((copying_all setting source target).target ≡ target) × (planned_in_copying (copying_all setting source target).stands ≡ 0)
    by (Incremental chunk) e = rw e (refl, refl)
    by Blocking e = rw e (refl, refl)

module _ {K V Q : Type 0} (hash : K → ℕ) (c c2 : Chart K) (blocks blocks2 : Blocks) (p : KeyCall K V Q) where
  abbrev pub Goal : List ℕ → KeyCall K V Q × Called (Node K V) → Type 0
  Goal before end = GoesFurther end.1 → IsBelow (number_of_call hash c2 blocks2 end.0) before

  -- it goes on in a table behind all those that were left, or a table was linked
  pub entering_below : (table : Table) (turn tables : ℕ) (xs : List ℕ)
      → (tables_to_come c2.past 0 < turn) ⊎ ((tables_to_come c2.past 0 ≤ turn) × (c2.past - table.turn < tables)) → Goal (5 ∷ turn ∷ tables ∷ xs) (entering {V = V} p table)
  entering_below table turn tables xs (inl l) goes = inr (refl, inl l)
  entering_below table turn tables xs (inr h) goes = inr (refl, at_most (tables_to_come c2.past 0) turn h.0 (inl h.1))

  pub on_below : (table : Table) (turn tables : ℕ) (xs : List ℕ)
      → (tables_to_come c2.past 0 < turn) ⊎ ((tables_to_come c2.past 0 ≤ turn) × (c2.past - table.turn < tables)) → Goal (5 ∷ turn ∷ tables ∷ xs) (continued_in {V = V} p table)
  on_below table turn tables xs less = by_mode (is_incremental p.setting.mode)
    where
      helps : (tables_to_come c2.past 0 < turn) ⊎ ((tables_to_come c2.past 0 ≤ turn) × (c2.past - table.turn < tables))
          → Goal (5 ∷ turn ∷ tables ∷ xs) (going (record p { helped = true }) (at.Helps (helping p.setting) table))
      helps (inl l) goes = inr (refl, inl l)
      helps (inr h) goes = inr (refl, at_most (tables_to_come c2.past 0) turn h.0 (inl h.1))

      copying : (planned_turn target : ℕ) (ys : List ℕ) → planned_turn ≡ 0 → target ≡ table.turn → IsBelow (5 ∷ tables_to_come c2.past planned_turn ∷ (c2.past - target) ∷ ys) (5 ∷ turn ∷ tables ∷ xs)
      copying planned_turn target ys none is = by less
        where
          here : tables_to_come c2.past planned_turn ≡ tables_to_come c2.past 0
          here = ap (tables_to_come c2.past) none

          by : (tables_to_come c2.past 0 < turn) ⊎ ((tables_to_come c2.past 0 ≤ turn) × (c2.past - table.turn < tables)) → IsBelow (5 ∷ tables_to_come c2.past planned_turn ∷ (c2.past - target) ∷ ys) (5 ∷ turn ∷ tables ∷ xs)
          by (inl l) = inr (refl, inl (subst (λ x. x < turn) (sym here) l))
          by (inr h) = inr (refl, at_most (tables_to_come c2.past planned_turn) turn (subst (λ x. x ≤ turn) (sym here) h.0) (inl (let l = h.1 in omega (arith, is, l))))

      by_help : (h : Bool) → Goal (5 ∷ turn ∷ tables ∷ xs) (if h then entering p table else going (record p { helped = true }) (at.Helps (helping p.setting) table))
      by_help true = entering_below table turn tables xs less
      by_help false = helps less

      by_mode : (b : Bool) → Goal (5 ∷ turn ∷ tables ∷ xs)
          (if b then (if p.helped then entering p table else going (record p { helped = true }) (at.Helps (helping p.setting) table))
          else going p (at.Copies (copying_all p.setting p.trial.table table)))
      by_mode true goes = by_help p.helped goes
      by_mode false goes =
          let h = copies_target p.setting p.trial.table table in
          copying (planned_in_copying (copying_all p.setting p.trial.table table).stands) (copying_all p.setting p.trial.table table).target.turn
          (1 ∷ 0 ∷ 0 ∷ number_of_copier_blocking c2 blocks2 (copying_all p.setting p.trial.table table)) h.1 (ap (λ (x : Table). x.turn) h.0)

  -- a lookup
  pub looked_below : (l : Lookup) (end : Lookup × Advance (Option ℕ)) → (end.1 ≡ progress.Goes → IsBelow (number_of_lookup c2 end.0) (number_of_lookup c l))
      → Goal (number_at hash c blocks p (at.Looks l)) (looked p end)
  looked_below l (next, progress.Goes) below goes =
      inr (refl, inr (refl, inr (refl, inr (refl, inr (refl, inr (refl, below_followed (number_of_lookup c2 next) (number_of_lookup c l) _ _ (below refl)))))))
  looked_below l (next, progress.Waits) below goes = absurd goes
  looked_below l (next, progress.Done (Some found)) below goes = absurd goes
  looked_below l (next, progress.Done None) below goes = absurd goes
  looked_below l (next, progress.Refused fault) below goes = absurd goes

  -- a disposal
  pub disposed_below : (d : Dispose) (answer : KeyAnswer) (end : Dispose × Settled (Node K V)) → (RowGoesFurther end.1 → IsBelow (number_of_dispose c2 blocks2 end.0) (number_of_dispose c blocks d))
      → Goal (number_at hash c blocks p (at.Disposes d answer)) (disposed p answer end)
  disposed_below d answer (next, settled.Goes) below goes =
      inr (refl, inr (refl, inr (refl, inr (refl, inr (refl, inr (refl, below_followed (number_of_dispose c2 blocks2 next) (number_of_dispose c blocks d) _ _ (below tt)))))))
  disposed_below d answer (next, settled.Waits) below goes = absurd goes
  disposed_below d answer (next, settled.Gave value) below goes =
      inr (refl, inr (refl, inr (refl, inr (refl, inr (refl, inr (refl, below_followed (number_of_dispose c2 blocks2 next) (number_of_dispose c blocks d) _ _ (below tt)))))))
  disposed_below d answer (next, settled.Done) below goes = absurd goes

  -- a help
  helps_further : (copier next : Copier) (goal : Table) → FallsTo c.past c2.past (incremental_at c blocks copier) (number_of_copier c2 blocks2) copier.stands next
      → IsBelow (number_of_call hash c2 blocks2 (going {V = V} p (at.Helps next goal)).0) (number_at hash c blocks p (at.Helps copier goal))
  helps_further copier next goal (inl h) =
      inr (refl, inl (fewer c.past c2.past (planned_in_copying copier.stands) (planned_in_copying next.stands) h.1 h.0 h.2))
  helps_further copier next goal (inr h) =
      inr (
        refl,
        at_most _ _ (no_more c.past c2.past (planned_in_copying copier.stands) (planned_in_copying next.stands) (let past = h.0 in omega (arith, past)) h.1)
            (inr (ap (λ x. x - goal.turn) h.0, inr (refl, inr (refl, inr (refl, h.2))))),
      )

  pub helped_below : (copier : Copier) (goal : Table) (end : Copier × Yielding (Node K V) Table)
      → CopierOn c.past c2.past (incremental_at c blocks copier) (number_of_copier c2 blocks2) copier copier.stands end
      → Goal (number_at hash c blocks p (at.Helps copier goal)) (helped p goal end)
  helped_below copier goal (next, outcome.Goes) told goes = helps_further copier next goal told
  helped_below copier goal (next, outcome.Waits) told goes = absurd goes
  helped_below copier goal (next, outcome.Gave value) told goes = helps_further copier next goal told
  helped_below copier goal (next, outcome.Done table) told goes =
      inr (
        refl,
        at_most _ _ (no_more c.past c2.past (planned_in_copying copier.stands) 0 (let past = told.0 in omega (arith, past)) (omega arith))
            (inr (ap (λ x. x - goal.turn) told.0, inl (omega arith))),
      )
  helped_below copier goal (next, outcome.Refused fault) told goes = ending_below hash c2 blocks2 p (ends.Refused fault) 5 _ (omega arith) goes

  -- a copying of a whole table
  copies_further : (copier next : Copier) → FallsTo c.past c2.past (blocking_at c blocks copier) (number_of_copier_blocking c2 blocks2) copier.stands next
      → IsBelow (number_of_call hash c2 blocks2 (going {V = V} p (at.Copies next)).0) (number_at hash c blocks p (at.Copies copier))
  copies_further copier next (inl h) =
      inr (refl, inl (fewer c.past c2.past (planned_in_copying copier.stands) (planned_in_copying next.stands) h.1 h.0 h.2))
  copies_further copier next (inr h) =
      let f = targets_first c blocks copier copier.stands in
      let f2 = targets_first c2 blocks2 next next.stands in
      inr (
        refl,
        at_most _ _ (no_more c.past c2.past (planned_in_copying copier.stands) (planned_in_copying next.stands) (let past = h.0 in omega (arith, past)) h.1)
            (behind_targets (targets c2 blocks2 next) (targets c blocks copier) (number_of_copier_blocking c2 blocks2 next) (number_of_copier_blocking c blocks copier) f2.0 f.0 f2.1 f.1 h.2),
      )

  pub copied_below : (copier : Copier) (end : Copier × Yielding (Node K V) Table)
      → CopierOn c.past c2.past (blocking_at c blocks copier) (number_of_copier_blocking c2 blocks2) copier copier.stands end
      → Goal (number_at hash c blocks p (at.Copies copier)) (copied p end)
  copied_below copier (next, outcome.Goes) told goes = copies_further copier next told
  copied_below copier (next, outcome.Waits) told goes = absurd goes
  copied_below copier (next, outcome.Gave value) told goes = copies_further copier next told
  copied_below copier (next, outcome.Done table) told goes =
      inr (
        refl,
        at_most _ _ (no_more c.past c2.past (planned_in_copying copier.stands) 0 (let past = told.0 in omega (arith, past)) (omega arith))
            (inr (ap (λ x. x - table.turn) told.0 ∙ ap (λ (x : Table). c.past - x.turn) told.1, inl (omega arith))),
      )
  copied_below copier (next, outcome.Refused fault) told goes = ending_below hash c2 blocks2 p (ends.Refused fault) 5 _ (omega arith) goes

-- the making of a table
module _ {K V Q : Type 0} (same : K → K → Bool) (hash : K → ℕ) (setting : Setting) (m : Mem (Node K V)) (c : Chart K) (blocks : Blocks) (m2 : Mem (Node K V)) (c2 : Chart K) (blocks2 : Blocks)
    (on : Onward same hash setting m c blocks m2 c2 blocks2) (p : KeyCall K V Q) (link : At) (turn : ℕ) (making : NewTable) where
  abbrev Made : NewTable × Advance Table → Type 0
  Made end = MadeOn same hash setting m c blocks m2 c2 blocks2 on link turn making making.stands end

  -- while it goes on
  made_further : (tables tables2 point : ℕ) (next : NewTable) → tables2 ≡ tables → Made (next, progress.Goes) → IsBelow (number_of_new_table next) (number_of_new_table making)
      → IsBelow (5 ∷ tables_to_come c2.past (planned next.stands) ∷ tables2 ∷ 0 ∷ 0 ∷ point ∷ two_of_eight (number_of_new_table next))
      (5 ∷ tables_to_come c.past (planned making.stands) ∷ tables ∷ 0 ∷ 0 ∷ point ∷ two_of_eight (number_of_new_table making))
  made_further tables tables2 point next same_tables made below =
      inr (
        refl,
        at_most _ _ (no_more c.past c2.past (planned making.stands) (planned next.stands) (let past = made.0 in omega (arith, past)) made.1)
            (inr (same_tables, inr (refl, inr (refl, inr (refl, below_followed (number_of_new_table next) (number_of_new_table making) _ _ below))))),
      )

  -- at its end there is less to come
  less_to_come : (table : Table) → Made (making, progress.Done table) → (tables : ℕ)
      → ((c2.past ≡ c.past) × (table.turn < c.past) × (IsBehind link → (table.turn ≡ turn) × (tables_from_before c.past making.stands ≡ suc c.past - turn)) → c2.past - table.turn < tables)
      → (tables_to_come c2.past 0 < tables_to_come c.past (planned making.stands)) ⊎ ((tables_to_come c2.past 0 ≤ tables_to_come c.past (planned making.stands)) × (c2.past - table.turn < tables))
  less_to_come table (inl linked) tables less = inl (fewer c.past c2.past (planned making.stands) 0 linked.1 linked.0 (omega arith))
  less_to_come table (inr found) tables less =
      inr (no_more c.past c2.past (planned making.stands) 0 (let past = found.0 in omega (arith, past)) (omega arith), less found)

  -- that of the first table
  pub first_below : (end : NewTable × Advance Table) → Made end → (end.1 ≡ progress.Goes → IsBelow (number_of_new_table end.0) (number_of_new_table making))
      → Goal hash c c2 blocks blocks2 p (number_at hash c blocks p (at.Firsts making)) (first_made p end)
  first_below (next, progress.Goes) made below goes = made_further (suc c.past) (suc c2.past) 0 next (ap suc made.0) made (below refl)
  first_below (next, progress.Waits) made below goes = absurd goes
  first_below (next, progress.Done table) made below goes =
      entering_below hash c c2 blocks blocks2 p table _ (suc c.past) (0 ∷ 0 ∷ 0 ∷ two_of_eight (number_of_new_table making)) (less_to_come table made (suc c.past) (λ h. let past = h.0 in omega (arith, past))) goes
  first_below (next, progress.Refused fault) made below goes = ending_below hash c2 blocks2 p (ends.Refused fault) 5 _ (omega arith) goes

  -- that of the next table
  pub next_below : (t : ℕ) → p.trial.table.turn ≡ t → t < c.past → IsBehind link → turn ≡ suc t
      → (end : NewTable × Advance Table) → Made end → (end.1 ≡ progress.Goes → IsBelow (number_of_new_table end.0) (number_of_new_table making))
      → Goal hash c c2 blocks blocks2 p (number_at hash c blocks p (at.Allocs making)) (next_made p end)
  next_below t turn_is made_t behind next_turn (next, progress.Goes) made below goes =
      made_further (c.past - p.trial.table.turn) (c2.past - p.trial.table.turn) 0 next (ap (λ x. x - p.trial.table.turn) made.0) made (below refl)
  next_below t turn_is made_t behind next_turn (next, progress.Waits) made below goes = absurd goes
  next_below t turn_is made_t behind next_turn (next, progress.Done table) made below goes =
      on_below hash c c2 blocks blocks2 p table _ (c.past - p.trial.table.turn) (0 ∷ 0 ∷ 0 ∷ two_of_eight (number_of_new_table making))
      (less_to_come table made (c.past - p.trial.table.turn)
      (λ h. let past = h.0 in let is = (h.2 behind).0 in omega (arith, past, is, next_turn, turn_is, made_t))) goes
  next_below t turn_is made_t behind next_turn (next, progress.Refused fault) made below goes = ending_below hash c2 blocks2 p (ends.Refused fault) 5 _ (omega arith) goes

-- What is no call keeps all that is kept: a row on a slot, the making of a map, and the end of one.
use Rattle.std.specs.Prelude.{◌≡◌, ℕ, Bool, List, Some, None}
use Rattle.std.proofs.Common.{refl, sym, subst, inl}
use Rattle.seize.specs.declared.advance.Advance.{Advance}
use Rattle.seize.specs.declared.advance.Advance.TheVariants as progress
use Rattle.seize.specs.declared.rows.settle.Settled.{Settled}
use Rattle.seize.specs.declared.rows.settle.Settled.TheVariants as settled
use Rattle.seize.specs.World.{World, Begin, Step}
use Rattle.papaya_raw.specs.Given.TablesDeclared.node.Node.{Node}
use Rattle.papaya_raw.specs.Given.TablesDeclared.setting.Setting.{Setting}
use Rattle.papaya_raw.specs.declared.machines.end_map.EndMap.{EndMap}
use Rattle.run_blocks.specs.Given.ResizeDeclared.new_map.NewMap.{NewMap}
use Rattle.run_schedules.specs.Schedules.Effects.{with_effects}
use Rattle.run_schedules.specs.declared.effect.Effect.{Effect}
use Rattle.run_schedules.specs.Schedules.Moment.{Moment}
use Rattle.run_executor.specs.Given.EffectsEffects.{effects_of, known_after}
use Rattle.run_executor.specs.Given.EffectsKnown.{Known}
use Rattle.run_executor.specs.Given.EffectsDeclared.acting.Acting.TheVariants as acts
use Rattle.run_executor.specs.Given.FinishesEndings.{Finishing}
use Rattle.run_executor.specs.Given.FinishesFactsEnds.{Deed}
use Rattle.run_executor.specs.Given.FinishesMakings.{Beginning}
use Rattle.run_executor.specs.Given.OthersEndings.{ending_after}
use Rattle.run_executor.specs.Given.OthersMakings.{making_after}
use Rattle.run_executor.specs.Given.OthersRows.{scene_then}
use Rattle.run_blocks.proofs.Given.OthersQuiet.{calls_none}
use Rattle.run_executor.proofs.Given.OthersRowPlans.{row_tells}
use Rattle.run_blocks.proofs.Owes.Aside.{stays_made}
use Rattle.run_blocks.proofs.Owes.EndsOfMaps.{endings_keep_made}
use Rattle.run_blocks.proofs.Owes.Looking.Between.{stays_looking}
use Rattle.run_blocks.proofs.Owes.MakingsOfMaps.{makings_keep_made}
use Rattle.run_blocks.proofs.Owes.RowsOnSlots.{rows_keep_made}
use Rattle.run_blocks.proofs.Owes.Short.Between.{stays_short}
use Rattle.run_blocks.proofs.Owes.Grown.Between.{stays_grown}
use Rattle.run_blocks.proofs.Owes.Tables.Aside.{stays_tables}
use Rattle.run_blocks.proofs.Owes.Tables.EndsOfMaps.{endings_keep_tables}
use Rattle.run_blocks.proofs.Owes.Tables.MakingsOfMaps.{makings_keep_tables}
use Rattle.run_blocks.proofs.Owes.Tables.RowsOnSlots.{rows_keep_tables}
use Rattle.run_blocks.proofs.Given.SettlesBetween.{stays_counts, effects_leave_counts}
use Rattle.run_blocks.proofs.Given.SettlesEntryScenes.{rows_begin_entries, rows_keep_entries, makings_keep_entries, endings_begin_entries, endings_keep_entries}
use Rattle.run_blocks.proofs.Given.SettlesHand.Between.{stays_owed, effects_leave_owed}
use Rattle.run_blocks.proofs.Given.SettlesHanding.{others_leave_handing}
use Rattle.run_waiting.specs.Lives.Behind.{RefinesWaiting, WaitsOnce}
use Rattle.run_waiting.specs.Lives.Lying.{RefinesLying}
use Rattle.run_waiting.specs.Lives.Order.{RefinesOrder}
use Rattle.run_waiting.proofs.Lives.HandedEnds.{endings_keep_handed}
use Rattle.run_waiting.proofs.Lives.HandedMakings.{makings_keep_handed}
use Rattle.run_waiting.proofs.Lives.HandedRows.{endings_begin_handed, others_leave_handed, rows_begin_handed, rows_keep_handed}
use Rattle.run_waiting.proofs.Lives.Ends.{endings_find_waiting}
use Rattle.run_waiting.proofs.Lives.LeftEnds.{endings_keep_left}
use Rattle.run_waiting.proofs.Lives.LeftTables.{others_keep_left, endings_begin_left, rows_begin_left, rows_keep_left, makings_keep_left}
use Rattle.run_waiting.proofs.Lives.Lying.{endings_begin_lying, rows_begin_lying, rows_keep_lying, makings_keep_lying}
use Rattle.run_waiting.proofs.Lives.LyingEnds.{endings_keep_lying}
use Rattle.run_waiting.proofs.Lives.Order.{endings_begin_order, rows_begin_order, rows_keep_order, makings_keep_order}
use Rattle.run_waiting.proofs.Lives.OrderEnds.{endings_keep_order}
use Rattle.run_waiting.proofs.Lives.Makings.{makings_keep_waiting, world_then, apart}
use Rattle.run_waiting.proofs.Lives.Once.{once_fewer, row_fewer}
use Rattle.run_waiting.proofs.Lives.Reclaimed.{others_leave_retired, endings_begin_retired, rows_begin_retired, rows_keep_retired, rows_find_retired}
use Rattle.run_waiting.proofs.Lives.RetiredCalls.{makings_keep_retired}
use Rattle.run_waiting.proofs.Lives.RetiredEnds.{endings_keep_retired}
use Rattle.run_waiting.proofs.Lives.Waiting.{endings_begin_waiting, rows_begin_waiting, rows_keep_waiting, rows_find_waiting}
use Rattle.run_waiting.proofs.Lives.WaitingEnds.{endings_keep_waiting, once_then}
use Rattle.run_kept.specs.Kept.Steps.{RowsBeginKept, RowsPreserveKept, RowsFindKept, MakingsPreserveKept, EndingsBeginKept, EndingsPreserveKept, EndingsFindKept}
use Rattle.run_kept.proofs.Kept.Calls.{own_made}
use Rattle.run_kept.proofs.Kept.Ends.{endings_begin_ends, endings_keep_ends, makings_keep_ends, rows_leave_ends}
use Rattle.run_kept.proofs.Kept.InHand.{rows_leave_in_hand, makings_leave_in_hand, endings_leave_in_hand}
use Rattle.run_kept.proofs.Kept.Stays.{calls_same, entries_stay, same_in_hand}
use Rattle.run_executor.specs.Given.ScenesEnding.{EndingHasOutcome, ending_begun}
use Rattle.run_executor.specs.Given.ScenesHeld.{Held}
use Rattle.run_executor.specs.Given.ScenesMaking.{MakingHasOutcome}
use Rattle.run_executor.specs.Given.ScenesRows.{request_of}
use Rattle.run_executor.specs.Given.ScenesScene.{Scene, slot_of}

-- the calls and ends that are under way after a step of a making, and the calls after one of an end
module _ {K V : Type 0} (same : K → K → Bool) (hash : ℕ → K → ℕ) (s : Scene K V) (old new : Held K V) (i : ℕ) where
  making_calls : (b : Beginning K) (opening : NewMap) (w2 : World (Node K V)) (said : Advance Setting) (comes : MakingHasOutcome same hash s old new i b opening w2 said)
      → (making_after same hash s old new i b opening w2 said comes).calls ≡ s.calls
  making_calls b opening w2 progress.Goes comes = refl
  making_calls b opening w2 progress.Waits comes = refl
  making_calls b opening w2 (progress.Done setting) comes = refl
  making_calls b opening w2 (progress.Refused fault) comes = refl

  making_enders : (b : Beginning K) (opening : NewMap) (w2 : World (Node K V)) (said : Advance Setting) (comes : MakingHasOutcome same hash s old new i b opening w2 said)
      → (making_after same hash s old new i b opening w2 said comes).enders ≡ s.enders
  making_enders b opening w2 progress.Goes comes = refl
  making_enders b opening w2 progress.Waits comes = refl
  making_enders b opening w2 (progress.Done setting) comes = refl
  making_enders b opening w2 (progress.Refused fault) comes = refl

  ending_calls : (f : Finishing K V) (ending : EndMap) (w2 : World (Node K V)) (deed : Deed) (said : Settled (Node K V)) (comes : EndingHasOutcome same hash s new i f ending w2 deed said)
      → (ending_after same hash s new i f ending w2 deed said comes).calls ≡ s.calls
  ending_calls f ending w2 deed settled.Goes comes = refl
  ending_calls f ending w2 deed settled.Waits comes = refl
  ending_calls f ending w2 deed (settled.Gave value) comes = refl
  ending_calls f ending w2 deed settled.Done comes = refl

  ending_world : (f : Finishing K V) (ending : EndMap) (w2 : World (Node K V)) (deed : Deed) (said : Settled (Node K V)) (comes : EndingHasOutcome same hash s new i f ending w2 deed said)
      → (ending_after same hash s new i f ending w2 deed said comes).world ≡ w2
  ending_world f ending w2 deed settled.Goes comes = refl
  ending_world f ending w2 deed settled.Waits comes = absurd comes
  ending_world f ending w2 deed (settled.Gave value) comes = refl
  ending_world f ending w2 deed settled.Done comes = refl

module _ (K V : Type 0) (same : K → K → Bool) (hash : ℕ → K → ℕ) where
  pub rows_begin_kept : RowsBeginKept K V same hash
  rows_begin_kept name m known s old new at kept called i leads = record {
    entries = rows_begin_entries K V same hash s old new at kept.entries called i leads;
    made = stays_made K V name m m known s t kept.made refl refl;
    tables = stays_tables K V name m m known s t kept.tables refl refl refl;
    looking = stays_looking K V name m m s t kept.looking refl refl;
    short = stays_short K V name m m s t kept.short refl refl;
    grown = stays_grown K V name m m s t kept.grown refl refl;
    counts = stays_counts K V name m m s t kept.counts refl refl;
    owed = stays_owed K V name m m known known s t kept.owed refl refl (same_in_hand name m known s kept.owed);
    handing = others_leave_handing K V same hash name m m known s t old new at leads.2.4 kept.owed kept.handing refl refl;
    waiting = rows_begin_waiting K V same hash m known s old new kept.waiting called i leads;
    once = kept.once;
    lying = rows_begin_lying K V same hash m known s old new kept.lying called i leads;
    order = rows_begin_order K V same hash m known s old new kept.order called i leads;
    retired = rows_begin_retired K V same hash m known s old new at kept.retired called i leads;
    left = rows_begin_left K V same hash known s old new kept.left called i leads;
    handed = rows_begin_handed K V same hash m known s old new at kept.handed called i leads;
    ends = rows_leave_ends same hash s kept.ends old new (Begin i (request_of (slot_of i) called)) leads.2;
  }
    where
      t : Scene K V
      t = scene_then same hash (Begin i (request_of (slot_of i) called)) s old new leads.2

  pub rows_keep_kept : RowsPreserveKept K V same hash
  rows_keep_kept name m known s old new at whole kept i said leads row here = record {
    entries = rows_keep_entries K V same hash s old new at kept.entries i said leads row here;
    made = (rows_keep_made K V same hash name m known s old new at whole.all.shown kept.made i said leads row here).1;
    tables = rows_keep_tables K V same hash name m known s old new at whole.all.shown kept.tables i said leads row here;
    looking = stays_looking K V name m v s t kept.looking (calls_none None effects m) refl;
    short = stays_short K V name m v s t kept.short (calls_none None effects m) refl;
    grown = stays_grown K V name m v s t kept.grown (calls_none None effects m) refl;
    counts = effects_leave_counts K V name m s t kept.counts refl None effects;
    owed = effects_leave_owed K V name m known (known_after acts.Row new.changed known) s t kept.owed refl
        (λ map j u is. rows_leave_in_hand same hash name m known s old new at whole kept.retired i said leads row here map j u is (kept.owed.noted map j u is)) None effects;
    handing = others_leave_handing K V same hash name m v known s t old new at (leads row here).2.4 kept.owed kept.handing (calls_none None effects m) refl;
    waiting = rows_keep_waiting K V same hash name m known s old new at whole kept.waiting i said leads row here;
    once = once_fewer m.deferred v.deferred
        (row_fewer known m new.changed (row_tells old.memory new.memory new.changed ((leads row here).0, said) row (leads row here).1)) kept.once;
    lying = rows_keep_lying K V same hash name m known s old new at whole kept.lying i said leads row here;
    order = rows_keep_order K V same hash name m known s old new at whole kept.order i said leads row here;
    retired = rows_keep_retired K V same hash name m known s old new at whole kept.retired i said leads row here;
    left = rows_keep_left K V same hash name m known s old new at whole kept.left i said leads row here;
    handed = rows_keep_handed K V same hash name m known s old new at whole kept.waiting kept.handed i said leads row here;
    ends = rows_leave_ends same hash s kept.ends old new (Step i) (leads row here).2;
  }
    where
      effects : List Effect
      effects = effects_of acts.Row known new.changed

      v : Moment K V
      v = with_effects None None effects m

      t : Scene K V
      t = scene_then same hash (Step i) s old new (leads row here).2

  pub rows_find_kept : RowsFindKept K V same hash
  rows_find_kept name m known s old new at whole kept i said leads row here = (
    rows_find_retired K V same hash name m known s old new at whole kept.retired i said leads row here,
    rows_find_waiting K V same hash m known s old new kept.waiting i said leads row here,
  )

  pub makings_keep_kept : MakingsPreserveKept K V same hash
  makings_keep_kept name m known s old new at whole kept i said leads b here of was_new at2 shows2 = record {
    entries = entries_stay stepped led (makings_keep_entries K V same hash s old new at kept.entries i said leads b here) world calls;
    made = (makings_keep_made K V same hash name m known s old new at whole.all.shown kept.made i said leads b here of).1;
    tables = (makings_keep_tables K V same hash name m known s old new at whole.all.shown kept.tables i said leads b here of shows2).1;
    looking = stays_looking K V name m v s led kept.looking (calls_none of effects m) calls;
    short = stays_short K V name m v s led kept.short (calls_none of effects m) calls;
    grown = stays_grown K V name m v s led kept.grown (calls_none of effects m) calls;
    counts = effects_leave_counts K V name m s led kept.counts calls of effects;
    owed = effects_leave_owed K V name m known known2 s led kept.owed calls
        (λ map j u is. makings_leave_in_hand same hash name m known s old new at whole kept.retired i said leads b here of was_new map j u is (kept.owed.noted map j u is)) of effects;
    handing = others_leave_handing K V same hash name m v known s led old new at at2 kept.owed kept.handing (calls_none of effects m) calls;
    waiting = subst (RefinesWaiting v known2) (sym world) (makings_keep_waiting K V same hash name m known s old new at whole kept.waiting i said leads b here of was_new);
    once = subst WaitsOnce (sym (apart same hash name m known s old new at whole i said leads b here of was_new).0) kept.once;
    lying = subst (RefinesLying v known2) (sym world)
        (makings_keep_lying K V same hash name m known s old new at whole (own_made K V same hash name m known s old at whole kept) kept.lying i said leads b here of was_new);
    order = subst (RefinesOrder v known2) (sym world)
        (makings_keep_order K V same hash name m known s old new at whole (own_made K V same hash name m known s old at whole kept) kept.waiting kept.order i said leads b here of was_new);
    retired = others_leave_retired K V v v known2 stepped led
        (makings_keep_retired K V same hash name m known s old new at whole (own_made K V same hash name m known s old at whole kept) kept.retired i said leads b here of was_new) refl world
        (λ j has. inl (calls_same stepped led calls j has));
    handed = others_leave_handed K V v v known2 stepped led (makings_keep_handed K V same hash name m known s old new at whole kept.handed i said leads b here of was_new) refl refl refl world
        (λ j has. inl (calls_same stepped led calls j has));
    left = others_keep_left K V known2 stepped led
        (makings_keep_left K V same hash known s old new (own_made K V same hash name m known s old at whole kept) kept.left i said leads b here) world
        (making_enders same hash s old new i b (leads b here).0 (leads b here).2.step.w2 said (leads b here).3);
    ends = makings_keep_ends same hash s kept.ends old new i b (λ k. at.together.makings.standing.only b.map k (at.together.makings.coming i b here)) (leads b here).0 (leads b here).2.step.w2 said (leads b here).3;
  }
    where
      effects : List Effect
      effects = effects_of (acts.Making b.map) known new.changed

      v : Moment K V
      v = with_effects None of effects m

      known2 : Known
      known2 = known_after (acts.Making b.map) new.changed known

      led : Scene K V
      led = making_after same hash s old new i b (leads b here).0 (leads b here).2.step.w2 said (leads b here).3

      stepped : Scene K V
      stepped = record s { world = (leads b here).2.step.w2 }

      world : led.world ≡ (leads b here).2.step.w2
      world = world_then same hash s old new i b (leads b here).0 (leads b here).2.step.w2 said (leads b here).3

      calls : led.calls ≡ s.calls
      calls = making_calls same hash s old new i b (leads b here).0 (leads b here).2.step.w2 said (leads b here).3

  pub endings_begin_kept : EndingsBeginKept K V same hash
  endings_begin_kept name m known s old new at kept map i standing nobody at2 = record {
    entries = endings_begin_entries K V s kept.entries map i standing;
    made = stays_made K V name m m known s t kept.made refl refl;
    tables = stays_tables K V name m m known s t kept.tables refl refl refl;
    looking = stays_looking K V name m m s t kept.looking refl refl;
    short = stays_short K V name m m s t kept.short refl refl;
    grown = stays_grown K V name m m s t kept.grown refl refl;
    counts = stays_counts K V name m m s t kept.counts refl refl;
    owed = stays_owed K V name m m known known s t kept.owed refl refl (same_in_hand name m known s kept.owed);
    handing = others_leave_handing K V same hash name m m known s t old new at at2 kept.owed kept.handing refl refl;
    waiting = endings_begin_waiting K V m known s kept.waiting map i standing;
    once = kept.once;
    lying = endings_begin_lying K V m known s kept.lying map i standing;
    order = endings_begin_order K V m known s kept.order map i standing;
    retired = endings_begin_retired K V m known s kept.retired map i standing;
    left = endings_begin_left K V known s kept.left map i standing nobody;
    handed = endings_begin_handed K V m known s kept.handed map i standing;
    ends = endings_begin_ends s kept.ends map i standing;
  }
    where
      t : Scene K V
      t = ending_begun map i standing s

  pub endings_keep_kept : EndingsPreserveKept K V same hash
  endings_keep_kept name m known s old new at whole kept i said leads f here map not_there at2 = record {
    entries = entries_stay stepped led (endings_keep_entries K V same hash s old new at kept.entries i said leads f here) world calls;
    made = (endings_keep_made K V same hash name m known s old new at whole.all.shown kept.made i said leads f here map not_there).1;
    tables = endings_keep_tables K V same hash name m known s old new at whole.all.shown kept.tables i said leads f here map not_there;
    looking = stays_looking K V name m v s led kept.looking (calls_none (Some map) effects m) calls;
    short = stays_short K V name m v s led kept.short (calls_none (Some map) effects m) calls;
    grown = stays_grown K V name m v s led kept.grown (calls_none (Some map) effects m) calls;
    counts = effects_leave_counts K V name m s led kept.counts calls (Some map) effects;
    owed = effects_leave_owed K V name m known known2 s led kept.owed calls
        (λ n j u is. endings_leave_in_hand same hash name m known s old new at whole kept.retired i said leads f here map not_there n j u is (kept.owed.noted n j u is)) (Some map) effects;
    handing = others_leave_handing K V same hash name m v known s led old new at at2 kept.owed kept.handing (calls_none (Some map) effects m) calls;
    waiting = endings_keep_waiting K V same hash name m known s old new at whole kept.once kept.waiting i said leads f here map not_there;
    once = once_then same hash name m known s old new at whole kept.once kept.waiting i f here (leads f here).0 said (leads f here).1 (leads f here).2 map not_there (leads f here).3;
    lying = endings_keep_lying K V same hash name m known s old new at whole kept.lying i said leads f here map not_there;
    order = endings_keep_order K V same hash name m known s old new at whole kept.order i said leads f here map not_there;
    retired = endings_keep_retired K V same hash name m known s old new at whole kept.retired i said leads f here map not_there;
    left = endings_keep_left K V same hash name m known s old new at whole kept.left i said leads f here map not_there;
    handed = endings_keep_handed K V same hash name m known s old new at whole kept.waiting kept.retired kept.handed i said leads f here map not_there;
    ends = endings_keep_ends same hash s kept.ends old new i f (leads f here).0 (leads f here).2.w2 (leads f here).2.deed said (leads f here).3;
  }
    where
      effects : List Effect
      effects = effects_of (acts.Ending map) known new.changed

      v : Moment K V
      v = with_effects None (Some map) effects m

      known2 : Known
      known2 = known_after (acts.Ending map) new.changed known

      led : Scene K V
      led = ending_after same hash s new i f (leads f here).0 (leads f here).2.w2 (leads f here).2.deed said (leads f here).3

      stepped : Scene K V
      stepped = record s { world = (leads f here).2.w2 }

      world : led.world ≡ (leads f here).2.w2
      world = ending_world same hash s old new i f (leads f here).0 (leads f here).2.w2 (leads f here).2.deed said (leads f here).3

      calls : led.calls ≡ s.calls
      calls = ending_calls same hash s old new i f (leads f here).0 (leads f here).2.w2 (leads f here).2.deed said (leads f here).3

  pub endings_find_kept : EndingsFindKept K V same hash
  endings_find_kept name m known s old new at whole kept i said leads f here map not_there =
      endings_find_waiting K V same hash name m known s old new at whole kept.waiting i said leads f here map not_there

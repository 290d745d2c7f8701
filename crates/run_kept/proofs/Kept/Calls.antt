-- Each step of a call keeps all that is kept, whoever takes it, and whether it is one of a row or not.
use Rattle.std.specs.Prelude.{ℕ, Bool, List, Some}
use Rattle.std.proofs.Common.{sym, subst, inl, inr}
use Rattle.run_schedules.specs.Schedules.Effects.{with_effects}
use Rattle.run_schedules.specs.Schedules.Moment.{Moment}
use Rattle.run_executor.specs.Given.EffectsEffects.{effects_of, known_after}
use Rattle.run_executor.specs.Given.EffectsKnown.{Known}
use Rattle.run_executor.specs.Given.EffectsDeclared.acting.Acting.TheVariants.{Call}
use Rattle.run_executor.proofs.Given.FollowsSteps.{went_to}
use Rattle.run_executor.specs.Given.MomentsWhole.{RefinesWhole}
use Rattle.run_blocks.proofs.Owes.Calls.{calls_keep_made}
use Rattle.run_blocks.proofs.Owes.Looking.Calls.{calls_keep_looking}
use Rattle.run_blocks.proofs.Owes.Short.Calls.{calls_keep_short}
use Rattle.run_blocks.proofs.Owes.Grown.Calls.{calls_keep_grown}
use Rattle.run_blocks.proofs.Owes.Tables.Calls.{calls_keep_tables}
use Rattle.run_blocks.proofs.Owes.Tables.Held.{tables_are_made}
use Rattle.run_blocks.specs.Given.SettlesDue.{OwnAreMade}
use Rattle.run_blocks.proofs.Given.SettlesCalls.{calls_keep_counts}
use Rattle.run_blocks.proofs.Given.SettlesEntryScenes.{calls_keep_entries}
use Rattle.run_blocks.proofs.Given.SettlesHand.All.{own_or_row}
use Rattle.run_blocks.proofs.Given.SettlesHand.Calls.{calls_keep_owed}
use Rattle.run_blocks.proofs.Given.SettlesHanding.{calls_keep_handing}
use Rattle.run_waiting.specs.Lives.Behind.{RefinesWaiting, WaitsOnce}
use Rattle.run_waiting.proofs.Lives.CallRows.{row_waits_on}
use Rattle.run_waiting.proofs.Lives.Calls.{calls_keep_waiting, calls_keep_list}
use Rattle.run_waiting.proofs.Lives.HandedCalls.{calls_keep_handed}
use Rattle.run_waiting.proofs.Lives.LeftTables.{calls_keep_left}
use Rattle.run_waiting.proofs.Lives.LyingCalls.{calls_keep_lying}
use Rattle.run_waiting.proofs.Lives.OrderCalls.{calls_keep_order}
use Rattle.run_waiting.proofs.Lives.RetiredCalls.{calls_keep_retired}
use Rattle.run_kept.specs.Kept.Kept.{RefinesKept}
use Rattle.run_kept.proofs.Kept.EndCalls.{calls_keep_all_ends}
use Rattle.run_kept.specs.Kept.Steps.{CallsPreserveKept}
use Rattle.run_executor.specs.Given.ScenesHeld.{Held, IsAt}
use Rattle.run_executor.specs.Given.ScenesScene.{Scene}

module _ (K V : Type 0) (same : K → K → Bool) (hash : ℕ → K → ℕ) where
  -- each table that somebody has made is in the hands of who makes it
  pub own_made : (name : ℕ → List ℕ) (m : Moment K V) (known : Known) (s : Scene K V) (e : Held K V) → IsAt same hash e s → RefinesWhole same name m known s → RefinesKept name m known s → OwnAreMade known s.world
  own_made name m known s e at whole kept b turn shape is = tables_are_made K V same hash name m known s e at whole.all.shown kept.tables b turn shape is

  pub calls_keep_kept : CallsPreserveKept K V same hash
  calls_keep_kept name m known s old new at whole kept map i u here said leads =
      let owned = own_made name m known s old at whole kept in
      record {
        entries = calls_keep_entries K V same hash name m known s old new at whole.all.shown whole.all.rows kept.entries map i u here said leads;
        made = (calls_keep_made K V same hash name m known s old new at whole kept.made map i u here said leads).1;
        tables = (calls_keep_tables K V same hash name m known s old new at whole kept.tables map i u here said leads).1;
        looking = (calls_keep_looking K V same hash name m known s old new at whole kept.looking map i u here said leads).1;
        short = (calls_keep_short K V same hash name m known s old new at whole kept.short map i u here said leads).1;
        grown = (calls_keep_grown K V same hash name m known s old new at whole kept.short kept.grown map i u here said leads).0;
        counts = (calls_keep_counts K V same hash name m known s old new at whole kept.counts map i u here said leads).1;
        owed = (calls_keep_owed K V same hash name m known s old new at whole kept.entries owned kept.owed map i u here said leads).1;
        handing = calls_keep_handing K V same hash name m known s old new at whole kept.owed kept.handing map i u here said leads;
        waiting = (waits owned).0;
        once = (waits owned).1;
        lying = calls_keep_lying K V same hash name m known s old new at whole kept.entries owned kept.owed kept.lying map i u here said leads;
        order = calls_keep_order K V same hash name m known s old new at whole kept.entries owned kept.owed kept.waiting kept.lying kept.order map i u here said leads;
        retired = calls_keep_retired K V same hash name m known s old new at whole kept.entries owned kept.retired map i u here said leads;
        left = calls_keep_left K V same hash name m known s old new at whole owned kept.left map i u here said leads;
        handed = calls_keep_handed K V same hash name m known s old new at whole kept.entries owned kept.waiting kept.retired kept.handed map i u here said leads;
        ends = calls_keep_all_ends same hash name m known s old new at whole.all.shown kept.ends map i said leads u here;
      }
    where
      v : Moment K V
      v = with_effects (Some (name i)) (Some map) (effects_of (Call i map) known new.changed) m

      Waits : Type 0
      Waits = RefinesWaiting v (known_after (Call i map) new.changed known) (leads map u here).4.w2 × WaitsOnce v.deferred

      waits : OwnAreMade known s.world → Waits
      waits owned =
          elim (own_or_row same hash name m known s old new at whole.all.shown map i u here said leads u (went_to same hash name m known s old new at whole.all.shown map i u here said leads).4.did)
          as (λ _. Waits) [
            | inl own ↦ (
              calls_keep_waiting K V same hash name m known s old new at whole kept.waiting map i u here said leads own,
              subst WaitsOnce (sym (calls_keep_list same hash name m known s old new at whole map i u here said leads own)) kept.once,
            )
            | inr other ↦
                let on = row_waits_on same hash name m known s old new at whole kept.entries owned kept.waiting map i u here said leads other in
                (on.0, on.1 kept.once)
          ]

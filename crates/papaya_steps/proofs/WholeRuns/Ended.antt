-- What a run tells at its end is what its events say.
use Rattle.std.specs.Prelude.{◌≡◌, ◌≤◌, ◌||◌, ℕ, Bool, List, map, IsSorted, None}
use Rattle.std.specs.List.{AllByRecursion}
use Rattle.std.specs.Ordering.{nat_cmp}
use Rattle.std.proofs.Common.{refl, sym, ap, subst, ◌∙◌}
use Rattle.seize_words.specs.OneMemory.Mem.{Mem, value_at}
use Rattle.map_tables.specs.declared.node.Node.{Node}
use Rattle.run_schedules.specs.declared.ended.Pair.{Pair}
use Rattle.run_schedules.specs.Runs.Pairs.{numbers}
use Rattle.run_schedules.specs.Runs.Runs.{IsStored}
use Rattle.run_schedules.specs.declared.event.Event.{Event}
use Rattle.run_schedules.specs.declared.record.Run.{Run}
use Rattle.run_schedules.specs.Schedules.After.{AtEachEvent, moment}
use Rattle.run_schedules.specs.Schedules.Moment.{Moment}
use Rattle.run_schedules.specs.Schedules.Runs.{Lists}
use Rattle.run_schedules.specs.Schedules.Terms.{Terms}
use Rattle.run_schedules.specs.Schedules.Views.{is_in_a_map, is_waiting}
use Rattle.run_effects.specs.Effects.Known.{Known, known}
use Rattle.run_effects.specs.declared.role.Role.TheVariants.{Free}
use Rattle.play_events.specs.Given.SchedulerDeclared.scheduler.Scheduler.{Scheduler}
use Rattle.papaya_steps.specs.WholeRuns.Back.{BackSoFar, ReclaimsRight, ReportsBack}
use Rattle.papaya_steps.specs.WholeRuns.Ending.{shown_of, map_reported}
use Rattle.run_effects.specs.Tallies.Left.{HoldPairs, noted_below}
use Rattle.papaya_steps.specs.WholeRuns.Run.{SoFar, ReportsMost, log_so}
use Rattle.run_effects.specs.Tallies.Tally.{counted, numbers_at, passes}
use Rattle.papaya_steps.specs.declared.record.Record.{Record}
use Rattle.run_effects.specs.declared.tally.Tally.{Tally}
use Rattle.papaya_steps.proofs.WholeRuns.Left.{hold_pairs, lists_left, stored_left}
use Rattle.run_effects.proofs.Tallies.Numbers.{ascending, lists_waiting}
use Rattle.run_effects.proofs.Tallies.Found.{back_told, pairs_found}
use Rattle.run_effects.specs.Tallies.Told.{AreBack}
use Rattle.papaya_steps.proofs.WholeRuns.Turns.{maps_shown, tables_told}

module _ {K V S : Type 0} (same : K → K → Bool) (hash : K → ℕ) (terms : Terms) (events : List (Event K V)) (rec : Record V) (tally : Tally) (p : Scheduler K V S)
    (so : SoFar same hash terms events rec tally p) where
  abbrev m : Moment K V
  m = moment (log_so events rec)

  abbrev noted : Known
  noted = known p.logged.notes

  abbrev memory : Mem (Node K V)
  memory = p.logged.executor.memory.memory

  -- each block that is noted as a pair holds one
  pub kept_so : HoldPairs noted.roles (value_at memory)
  kept_so =
      let st = so.holds.stands in
      subst (λ (x : Mem (Node K V)). HoldPairs noted.roles (value_at x)) st.shown.is_at.held.memory (hold_pairs m noted st.scene.world st.shown.shows.all.shown.blocks)

  module _ (run : Run K V) (living : map shown_of run.maps.items ≡ map (map_reported tally) p.maps) (waits : run.waiting.items ≡ numbers_at (passes None) 0 tally.pairs.items)
      (tables : run.tables ≡ counted tally.tables.items) (stored : run.stored ≡ noted.stored)
      (left : (blocks : ℕ) × ((b : ℕ) → blocks ≤ b → noted.roles b ≡ Free) × (run.kept ≡ noted_below noted.roles (value_at memory) blocks)) where
    kept_is : run.kept ≡ noted_below noted.roles (value_at so.holds.stands.scene.world.memory) left.0
    kept_is = left.2 ∙ ap (λ (x : Mem (Node K V)). noted_below noted.roles (value_at x) left.0) (sym so.holds.stands.shown.is_at.held.memory)

    lists_kept : Lists (numbers run.kept) (λ place. is_in_a_map place || is_waiting place) m
    lists_kept =
        let st = so.holds.stands in
        subst (λ (l : List (Pair K V)). Lists (numbers l) (λ place. is_in_a_map place || is_waiting place) m) (sym kept_is)
        (lists_left m noted st.scene.world st.shown.shows.all.shown.blocks st.shown.shows.blocks left.0 left.1)

    as_stored : AllByRecursion (IsStored m.stored) run.kept
    as_stored =
        let st = so.holds.stands in
        subst (AllByRecursion (IsStored m.stored)) (sym kept_is) (stored_left m noted st.scene.world st.shown.shows.all.shown.blocks st.shown.shows.blocks left.0 left.1)

    pub tells_most : ReportsMost m run
    tells_most =
        let st = so.holds.stands in
        record {
          stored = stored ∙ st.shown.shows.all.shown.blocks.stored;
          maps = maps_shown m tally so.told run.maps.items p.maps m.maps living st.maps.listed;
          waiting = subst (λ (l : List ℕ). Lists l is_waiting m) (sym waits) (lists_waiting tally m so.told);
          ascending = subst (IsSorted nat_cmp) (sym waits) (ascending (passes None) refl tally.pairs.items);
          tables = tables ∙ tables_told m tally so.told;
          kept = lists_kept;
          as_stored = as_stored;
        }

    -- and what was reclaimed came back, as it was stored
    pub tells_back : (given : List (Pair K V)) → run.given_back ≡ given → BackSoFar (log_so events rec) given → AtEachEvent ReclaimsRight (log_so events rec) → ReportsBack m run
    tells_back given is so_far right =
        let back : AreBack m run.given_back = subst (AreBack m) (sym is) (so_far right) in
        record {
          given_back = back.told;
          contents = back.contents;
          pairs = λ placed. pairs_found m run (back_told (log_so events rec)) placed back lists_kept as_stored;
        }

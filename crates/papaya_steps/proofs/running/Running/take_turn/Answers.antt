-- One event of a schedule happens, and is written down.
use Rattle.std.specs.Prelude.{◌==◌, length, if◌then◌else◌}
use Rattle.std.proofs.Common.{◌≡◌, ℕ, List, [], ◌∷◌, ◌++◌, sym, ap, subst, ◌∙◌}
use Rattle.run_schedules.specs.declared.shapes.Single.TheVariants as single
use Rattle.run_schedules.specs.declared.effect.Effect.{Effect}
use Rattle.run_schedules.specs.Schedules.After.{moment}
use Rattle.run_schedules.specs.Schedules.Entry.{Entry, is_busy}
use Rattle.papaya_steps.specs.Pieced.SoFar.{ActsSoFar}
use Rattle.papaya_steps.specs.WholeRuns.Acting.{acting_of, map_acted, singles_as}
use Rattle.papaya_steps.specs.WholeRuns.Run.{SoFar, log_so}
use Rattle.run_effects.specs.Tallies.Tally.{RecordsAll}
use Rattle.papaya_steps.proofs.WholeRuns.Joined.{legal_on}
use Rattle.papaya_steps.proofs.WholeRuns.Logs.{events_are}
use Rattle.run_effects.proofs.Tallies.Tallies.{ok_four}
use Rattle.papaya_steps.proofs.WholeRuns.Turns.{back_so, long, more, next_so}
use Rattle.papaya_steps.proofs.running.Running.take_turn.Goals as goal

pub happen-requires : goal.happen-requires
happen-requires g c = let r = c.requires in (r.0, log_so r.1 c.args.self.now.written, r.2.so_far.holds)

pub returns-clause-hasher : goal.returns-clause-hasher
returns-clause-hasher g c = ok_four c.add.result _ _ _ _ _ c.add.ensures.outcomes c.add.ensures.steps c.add.ensures.effects c.add.ensures.trace (λ outcomes steps effects trace. c.happen.ensures.given.0)

pub returns-clause-come : goal.returns-clause-come
returns-clause-come g c =
    let eq = g.K.PartialEq.eq in
    let p = c.args.self.now.scheduler in
    let hash = g.S.Hashes.hash p.logged.executor.hasher in
    let rec = c.args.self.now.written in
    let played = c.in_ok-played.played in
    let tally = c.args.self.now.tally in
    let tally2 = c.note_all.new.self in
    let acting = acting_of c.args.event p in
    let told : RecordsAll (map_acted acting played.outcome) played.effects.items tally tally2 =
    subst (λ (l : List Effect). RecordsAll (map_acted acting played.outcome) l tally tally2) c.as_slice.ensures.value
    (subst (λ a. RecordsAll a c.as_slice.result.now tally tally2) (c.map.ensures ∙ ap (λ a. map_acted a played.outcome) c.in_ok-acting.ensures) c.in_ok-note_all.ensures) in
    ok_four c.add.result _ _ _ _ _ c.add.ensures.outcomes c.add.ensures.steps c.add.ensures.effects c.add.ensures.trace
    (λ outcomes steps effects trace. λ terms events come.
    let so = come.so_far in
    let log = log_so events rec in
    let first : c.is_empty-is_first.result ≡ ((moment log).events == 0) =
    c.is_empty-is_first.ensures ∙ ap (λ (n : ℕ). n == 0) (rec.outcomes.ok.0 ∙ so.outcomes ∙ sym (long eq hash terms events rec tally p so) ∙ sym (events_are log)) in
    let singles : c.add.new.self.trace.items ≡ rec.trace.items ++ (if is_busy played.outcome then single.Whole (length rec.outcomes.items) ∷ [] else singles_as (length rec.outcomes.items) (c.traced_as-traced.result) played.steps) = trace in
    let traced_so =
    subst (λ t. c.add.new.self.trace.items ≡ rec.trace.items ++ (if is_busy played.outcome then single.Whole (length rec.outcomes.items) ∷ [] else singles_as (length rec.outcomes.items) t played.steps))
    c.traced_as-traced.ensures singles in
    record {
      so_far =
          subst (λ h. SoFar eq (g.S.Hashes.hash h) terms (events ++ c.args.event ∷ []) c.add.new.self tally2 c.happen.new.scheduler) (sym c.happen.ensures.given.0)
          (next_so eq hash terms events rec tally p so c.args.event played tally2 told c.add.new.self outcomes steps effects traced_so
          (c.in_ok-played.ensures.happens terms log first so.holds)
          (c.in_ok-played.ensures.holds terms log first so.holds)
          (λ runs. legal_on eq hash c.is_empty-is_first.result c.args.event played p c.happen.new.scheduler c.in_ok-played.ensures.happens terms log first so.holds runs
          c.in_ok-played.ensures.keeps c.in_ok-played.ensures.rows c.in_ok-played.ensures.setups c.in_ok-played.ensures.all));
      back =
          back_so eq hash terms events rec tally p so c.args.event played tally2 told c.add.new.self outcomes steps effects traced_so come.back
          (c.in_ok-played.ensures.back terms log so.holds);
      lawful = come.lawful;
      acts =
          subst (λ (l : List (Entry g.row.K.Denot g.row.V.Denot)). ActsSoFar eq g.S.Hashes.hash terms l c.happen.new.scheduler.logged c.happen.new.scheduler.calls)
          (sym (more eq hash terms events rec tally p so c.args.event played tally2 told c.add.new.self outcomes steps effects traced_so))
          (c.in_ok-played.ensures.acts come.lawful so.holds.counts.processors terms log so.holds.stands so.holds.counts.next (c.in_ok-played.ensures.holds terms log first so.holds).counts.next come.acts);
    })

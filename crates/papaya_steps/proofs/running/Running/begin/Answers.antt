-- A run begins.
use Rattle.std.specs.Prelude.{◌%◌, ◌^◌, ℕ, List, fold}
use Rattle.std.proofs.Common.{ap, subst, sym, ◌∙◌}
use Rattle.run_schedules.specs.declared.setup.Setup.{Setup}
use Rattle.play_events.specs.Given.PointsSteps.{AreLawful}
use Rattle.play_events.proofs.Given.PointsLawful.{are_lawful}
use Rattle.play_events.specs.Given.LoggedDeclared.logged.Logged.{Logged}
use Rattle.run_schedules.specs.Schedules.Entry.{Entry}
use Rattle.play_events.specs.Given.SchedulerPlayed.{terms_given}
use Rattle.papaya_steps.specs.Pieced.SoFar.{ActsSoFar}
use Rattle.papaya_steps.specs.WholeRuns.Run.{bounded}
use Rattle.papaya_steps.proofs.WholeRuns.Beginning.{Begins, are_few, begins_first, first_holds, first_runs, still_begins}
use Rattle.papaya_steps.proofs.WholeRuns.Turns.{back_first, none_so, start_so}
use Rattle.papaya_steps.proofs.running.Running.begin.Goals as goal

pub loop-choice-init : goal.loop-choice-init
loop-choice-init g c =
    let made = c.in_ok-scheduler.ensures in
    (subst (λ (setup : Setup). Begins setup c.in_ok-scheduler.scheduler) c.bounded.ensures (begins_first c.bounded.result c.in_ok-scheduler.scheduler made.played made.begun made.shown), made.hasher)

pub loop-choice-preserved : goal.loop-choice-preserved
loop-choice-preserved g c = (
  still_begins (bounded c.args.setup) c.loop-choice.scheduler c.loop-choice.invariant.0 _ c.choose.new.self c.in_ok-choose.ensures.chosen,
  ap (λ (l : Logged g.row.K.Denot g.row.V.Denot g.row.S.Denot). l.executor.hasher) c.in_ok-choose.ensures.chosen ∙ c.loop-choice.invariant.1,
)

pub returns-clause-hasher : goal.returns-clause-hasher
returns-clause-hasher g c = c.loop-choice.invariant.1

pub returns-clause-come : goal.returns-clause-come
returns-clause-come g c =
    let hash : g.row.K.Denot → ℕ = λ key. g.S.Hasher.Hasher.finish (fold g.S.Hasher.Hasher.write (g.S.BuildHasher.build_hasher c.loop-choice.scheduler.logged.executor.hasher) (g.K.Hash.hash_input key)) % 2 ^ 64 in
    let hashes : g.row.S.Denot → g.row.K.Denot → ℕ = λ hasher key. g.S.Hasher.Hasher.finish (fold g.S.Hasher.Hasher.write (g.S.BuildHasher.build_hasher hasher) (g.K.Hash.hash_input key)) % 2 ^ 64 in
    let lawful : (hasher : g.row.S.Denot) → AreLawful g.K.PartialEq.eq (hashes hasher) =
    λ hasher. are_lawful g.K.PartialEq.eq g.K.Hash.hash_input g.met.K.Eq.laws g.met.K.Hash.respects_eq (λ writes. g.S.Hasher.Hasher.finish (fold g.S.Hasher.Hasher.write (g.S.BuildHasher.build_hasher hasher) writes)) in
    record {
      so_far =
          start_so g.K.PartialEq.eq hash (terms_given (bounded c.args.setup)) c.nothing-written.result c.nothing-tally.result c.loop-choice.scheduler c.nothing-written.ensures.outcomes c.nothing-written.ensures.steps
          c.nothing-written.ensures.effects c.nothing-written.ensures.trace c.nothing-tally.ensures.pairs c.nothing-tally.ensures.behind c.nothing-tally.ensures.tables
          (first_holds g.K.PartialEq.eq hash (bounded c.args.setup) c.loop-choice.scheduler c.loop-choice.invariant.0
          (are_lawful g.K.PartialEq.eq g.K.Hash.hash_input g.met.K.Eq.laws g.met.K.Hash.respects_eq
          (λ writes. g.S.Hasher.Hasher.finish (fold g.S.Hasher.Hasher.write (g.S.BuildHasher.build_hasher c.loop-choice.scheduler.logged.executor.hasher) writes)))
          (are_few c.args.setup))
          (first_runs g.K.PartialEq.eq hash (bounded c.args.setup) c.loop-choice.scheduler c.loop-choice.invariant.0);
      lawful = lawful;
      acts =
          subst (λ (l : List (Entry g.row.K.Denot g.row.V.Denot)). ActsSoFar g.K.PartialEq.eq hashes (terms_given (bounded c.args.setup)) l c.loop-choice.scheduler.logged c.loop-choice.scheduler.calls)
          (sym (none_so c.nothing-written.result c.nothing-written.ensures.outcomes c.nothing-written.ensures.steps c.nothing-written.ensures.effects)) (c.loop-choice.invariant.0.acts g.K.PartialEq.eq hashes lawful);
      back = back_first c.nothing-written.result c.new-back.result.items c.nothing-written.ensures.outcomes c.nothing-written.ensures.steps c.nothing-written.ensures.effects c.new-back.ensures.items;
    }

-- The run that has come to its end.
use Rattle.std.specs.Prelude.{◌%◌, ◌^◌, ℕ, fold}
use Rattle.play_events.specs.Given.SchedulerPlayed.{terms_given}
use Rattle.papaya_steps.specs.WholeRuns.Run.{bounded}
use Rattle.papaya_steps.proofs.scheduled.ScheduledRunnerEvent.end.Goals as goal

pub returns : goal.returns
returns g c = λ setup events come.
    let hashes : g.row.S.Denot → g.row.K.Denot → ℕ = λ hasher key. g.S.Hasher.Hasher.finish (fold g.S.Hasher.Hasher.write (g.S.BuildHasher.build_hasher hasher) (g.K.Hash.hash_input key)) % 2 ^ 64 in
    let terms = terms_given (bounded setup) in
    let run = c.in_ok-end.ensures in record {
      right = run.right g.K.PartialEq.eq hashes terms events come;
      whole = run.whole g.K.PartialEq.eq hashes terms events come;
      hands = run.hands g.K.PartialEq.eq hashes terms events come;
      live = run.live g.K.PartialEq.eq hashes terms events come;
    }

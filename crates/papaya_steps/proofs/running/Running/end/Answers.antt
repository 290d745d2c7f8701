-- What a run tells at its end.
use Rattle.std.proofs.Common.{refl, ◌∙◌}
use Rattle.papaya_steps.proofs.Pieced.Last.{any_course, by_acts}
use Rattle.papaya_steps.specs.WholeRuns.Run.{log_so}
use Rattle.papaya_steps.proofs.WholeRuns.Ended.{kept_so, tells_back, tells_most}
use Rattle.papaya_steps.proofs.WholeRuns.Turns.{hands_so, run_so, whole_so}
use Rattle.papaya_steps.proofs.running.Running.end.Goals as goal

pub pairs_left-requires : goal.pairs_left-requires
pairs_left-requires g c =
    let r = c.requires in kept_so r.0 (r.1 c.args.self.scheduler.logged.executor.hasher) r.2 r.3 c.args.self.written c.args.self.tally c.args.self.scheduler r.4.so_far

pub returns-clause-right : goal.returns-clause-right
returns-clause-right g c = λ same hashes terms events come.
    let r = c.args.self in
    let hash = hashes r.scheduler.logged.executor.hasher in
    let left = c.in_ok-kept.ensures in
    run_so same hash terms events r.written r.tally r.scheduler come.so_far _ refl refl refl refl
    (tells_most same hash terms events r.written r.tally r.scheduler come.so_far _ c.in_ok-living.ensures c.in_ok-waiting.ensures c.waiting_tables.ensures c.stored.ensures
    (left.0, left.1, c.in_ok-of-2.ensures ∙ left.2))
    (tells_back same hash terms events r.written r.tally r.scheduler come.so_far _ c.in_ok-living.ensures c.in_ok-waiting.ensures c.waiting_tables.ensures c.stored.ensures
    (left.0, left.1, c.in_ok-of-2.ensures ∙ left.2) r.back.items c.in_ok-of.ensures come.back)

pub returns-clause-whole : goal.returns-clause-whole
returns-clause-whole g c = λ same hashes terms events come.
    let r = c.args.self in
    let hash = hashes r.scheduler.logged.executor.hasher in
    let left = c.in_ok-kept.ensures in
    whole_so same hash terms events r.written r.tally r.scheduler come.so_far _ refl refl refl refl
    (tells_most same hash terms events r.written r.tally r.scheduler come.so_far _ c.in_ok-living.ensures c.in_ok-waiting.ensures c.waiting_tables.ensures c.stored.ensures
    (left.0, left.1, c.in_ok-of-2.ensures ∙ left.2))
    (tells_back same hash terms events r.written r.tally r.scheduler come.so_far _ c.in_ok-living.ensures c.in_ok-waiting.ensures c.waiting_tables.ensures c.stored.ensures
    (left.0, left.1, c.in_ok-of-2.ensures ∙ left.2) r.back.items c.in_ok-of.ensures come.back)

pub returns-clause-hands : goal.returns-clause-hands
returns-clause-hands g c = λ same hashes terms events come.
    let r = c.args.self in
    hands_so same (hashes r.scheduler.logged.executor.hasher) terms events r.written r.tally r.scheduler come.so_far

pub returns-clause-live : goal.returns-clause-live
returns-clause-live g c = λ same hashes terms events come. record { last = c.args.self; come = come; same_log = refl; live = c.live-live.ensures }

pub returns-clause-acts : goal.returns-clause-acts
returns-clause-acts g c = λ same hashes terms events come.
    let r = c.args.self in
    by_acts same hashes (any_course g.row.V.Denot same hashes come.lawful) terms (log_so events r.written) r.scheduler.logged r.scheduler.calls come.acts

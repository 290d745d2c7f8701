-- A walk is given up.
use Rattle.std.specs.Prelude.{is_some}
use Rattle.std.proofs.Common.{[], ℕ, refl, sym, ap, subst, ◌∙◌}
use Rattle.run_executor.proofs.Named.Roll.Seats.{reads_at, ready_placed}
use Rattle.run_names.proofs.Presence.Crowds.Homes.{none_told}
use Rattle.seize_words.specs.declared.fault.Fault.TheVariants.{Busy}
use Rattle.run_schedules.specs.declared.event.Event.TheVariants.{Stop}
use Rattle.run_schedules.specs.declared.outcome.Outcome.TheVariants.{Done, Refused}
use Rattle.run_logged.specs.Log.Calling.{WalkStops}
use Rattle.run_schedules.specs.Schedules.After.{moment}
use Rattle.play_scheduler.proofs.Busy.{none_quiet}
use Rattle.play_scheduler.proofs.Here.{here_at, read_here}
use Rattle.play_scheduler.proofs.Stopped.{not_ready, ready_parts, has_call, done}
use Rattle.play_scheduler.proofs.Rights.{so_played}
use Rattle.play_scheduler.proofs.scheduler.Scheduler.stop.Goals as goal
use Rattle.run_executor.specs.Executing.Replying.{StopsThere}
use Rattle.run_shows.specs.Scenes.Scene.{HasCall}

pub returns-in_default-clause-plays : goal.returns-in_default-clause-plays
returns-in_default-clause-plays g c =
    λ same hash terms log due.
    so_played same hash terms log c.args.self.now (Stop c.args.caller.now) c.busy.result (Refused Busy) 0 [] c.busy.ensures.outcome c.busy.ensures.steps c.busy.ensures.effects
    (not_ready same hash terms log c.args.self.now c.args.caller.now due (sym (none_told _ c.ready_number.result (ap is_some c.in_default.is) c.ready_number.ensures)))

pub stop-requires : goal.stop-requires
stop-requires g c =
    let r = c.requires in
    let ready = sym c.in-Some.ensures.2 in
    let own = c.args.caller.now in
    let numbered = c.in-Some.ensures.4 ∙ ap (λ x. x.number) (read_here r.0 r.1 r.2.0 (moment r.2.1) c.args.self.now r.2.2.played own c.in-Some.ensures.0
    (here_at r.0 r.1 r.2.0 (moment r.2.1) c.args.self.now r.2.2.played own c.in-Some.ensures.0 (ready_parts r.0 r.1 r.2.0 r.2.1 c.args.self.now own r.2.2.played c.in-Some.ensures.0 ready).0)
    c.in-Some.ensures.1 (reads_at c.args.self.now.calls c.in-Some.ensures.0 c.in-Some.ensures.1 c.in-Some.ensures.3)) in
    (r.0, r.1, r.2.2.played.scene, r.2.2.played.shown.is_at, subst (λ (n : ℕ). HasCall r.2.2.played.scene n) (sym numbered) (has_call r.0 r.1 r.2.0 r.2.1 c.args.self.now own r.2.2 c.in-Some.ensures.0 ready))

pub returns-clause-plays : goal.returns-clause-plays
returns-clause-plays g c =
    λ same hash terms log due.
    let ready = sym c.in-Some.ensures.2 in
    let own = c.args.caller.now in
    let numbered = c.in-Some.ensures.4 ∙ ap (λ x. x.number) (read_here same hash terms (moment log) c.args.self.now due.played own c.in-Some.ensures.0
    (here_at same hash terms (moment log) c.args.self.now due.played own c.in-Some.ensures.0 (ready_parts same hash terms log c.args.self.now own due.played c.in-Some.ensures.0 ready).0)
    c.in-Some.ensures.1 (reads_at c.args.self.now.calls c.in-Some.ensures.0 c.in-Some.ensures.1 c.in-Some.ensures.3)) in
    so_played same hash terms log _ (Stop own) c.quietly.result Done 0 [] c.quietly.ensures.outcome c.quietly.ensures.steps c.quietly.ensures.effects
    (done same hash terms log c.args.self.now own due c.in-Some.ensures.0 ready c.stop.result c.stop.new.self
    (subst (λ (n : ℕ). WalkStops same hash due.played.name (moment log) due.played.scene n c.stop.result c.args.self.now.logged c.stop.new.self) numbered
    (c.stop.ensures.leads same hash due.played.name (moment log) due.played.scene due.played.shown))
    c.remove.new.self (c.remove.ensures.left c.in-Some.ensures.0 (ready_placed own c.args.self.now.calls c.in-Some.ensures.0 c.in-Some.ensures.2)))

pub returns-in_default-clause-quiet : goal.returns-in_default-clause-quiet
returns-in_default-clause-quiet g c = none_quiet c.busy.result.outcome c.busy.result.effects.items c.busy.ensures.effects

pub returns-clause-quiet : goal.returns-clause-quiet
returns-clause-quiet g c = none_quiet c.quietly.result.outcome c.quietly.result.effects.items c.quietly.ensures.effects

pub returns-in_default-clause-stopped : goal.returns-in_default-clause-stopped
returns-in_default-clause-stopped g c = λ same hash is. absurd (let busy = sym is ∙ c.busy.ensures.outcome in cc busy)

pub returns-clause-stopped : goal.returns-clause-stopped
returns-clause-stopped g c = λ same hash is. (
  record {
    place = c.in-Some.ensures.0;
    ready = sym c.in-Some.ensures.2;
    whose = c.in-Some.ensures.1;
    reads = (reads_at c.args.self.now.calls c.in-Some.ensures.0 c.in-Some.ensures.1 c.in-Some.ensures.3);
    stopped = c.stop.result;
    leads = λ s at. subst (λ (n : ℕ). StopsThere same hash n c.stop.result s c.args.self.now.logged.executor c.stop.new.self.executor) c.in-Some.ensures.4 (c.stop.ensures.stopped same hash s at);
    calls = c.remove.ensures.left c.in-Some.ensures.0 (ready_placed c.args.caller.now c.args.self.now.calls c.in-Some.ensures.0 c.in-Some.ensures.2);
    notes = c.stop.ensures.notes;
  },
  c.quietly.ensures.effects,
)

pub returns-in_default-clause-stays : goal.returns-in_default-clause-stays
returns-in_default-clause-stays g c = λ same hash terms log due busy. (refl, c.busy.ensures.effects)

pub returns-clause-stays : goal.returns-clause-stays
returns-clause-stays g c = λ same hash terms log due busy. absurd (let done = sym busy ∙ c.quietly.ensures.outcome in cc done)

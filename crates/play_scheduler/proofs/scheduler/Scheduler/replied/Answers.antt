-- A call gets its reply.
use Rattle.std.specs.Prelude.{option_copied}
use Rattle.std.proofs.Common.{[], Some, refl, sym, ap, ◌∙◌}
use Rattle.run_executor.proofs.Named.Roll.Seats.{called_at, called_out, reads_at}
use Rattle.seize_words.specs.declared.fault.Fault.TheVariants.{Busy}
use Rattle.run_schedules.specs.Schedules.After.{moment}
use Rattle.run_schedules.specs.declared.event.Event.TheVariants.{Replied}
use Rattle.run_schedules.specs.declared.outcome.Outcome.TheVariants.{Goes, Refused}
use Rattle.play_scheduler.proofs.Busy.{none_quiet}
use Rattle.play_scheduler.proofs.Here.{here_at, read_here}
use Rattle.play_scheduler.proofs.Replied.{nobody, takes_none}
use Rattle.play_scheduler.proofs.RepliedSo.{call_there, is_taken, goes_on}
use Rattle.play_scheduler.proofs.Rights.{so_played}
use Rattle.play_scheduler.proofs.scheduler.Scheduler.replied.Goals as goal

pub returns-in_default-clause-plays : goal.returns-in_default-clause-plays
returns-in_default-clause-plays g c =
    λ same hash terms log due.
    so_played same hash terms log c.args.self.now (Replied c.args.caller.now c.args.reply) c.busy.result (Refused Busy) 0 [] c.busy.ensures.outcome c.busy.ensures.steps c.busy.ensures.effects
    (nobody same hash terms log c.args.self.now c.args.caller.now c.args.reply due (called_out c.args.caller.now c.args.self.now.calls (sym c.get.ensures ∙ ap option_copied c.in_default.is)))

pub returns-then-not-takes-clause-plays : goal.returns-then-not-takes-clause-plays
returns-then-not-takes-clause-plays g c =
    λ same hash terms log due.
    let it = called_at c.args.caller.now c.args.self.now.calls c.in-Some.called.now (sym c.in-Some.ensures) in
    let placed = sym it.1 in
    let here = here_at same hash terms (moment log) c.args.self.now due.played c.args.caller.now (called_at c.args.caller.now c.args.self.now.calls c.in-Some.called.now (sym c.in-Some.ensures)).0 placed in
    so_played same hash terms log c.args.self.now (Replied c.args.caller.now c.args.reply) c.busy-then-not-takes.result (Refused Busy) 0 [] c.busy-then-not-takes.ensures.outcome
    c.busy-then-not-takes.ensures.steps c.busy-then-not-takes.ensures.effects
    (takes_none same hash terms log c.args.self.now c.args.caller.now c.args.reply due (called_at c.args.caller.now c.args.self.now.calls c.in-Some.called.now (sym c.in-Some.ensures)).0 placed c.in-Some.called.now
    (here.at ∙ ap Some (sym (read_here same hash terms (moment log) c.args.self.now due.played c.args.caller.now (called_at c.args.caller.now c.args.self.now.calls c.in-Some.called.now (sym c.in-Some.ensures)).0 here c.in-Some.called.now (reads_at c.args.self.now.calls (called_at c.args.caller.now c.args.self.now.calls c.in-Some.called.now (sym c.in-Some.ensures)).0 c.in-Some.called.now (called_at c.args.caller.now c.args.self.now.calls c.in-Some.called.now (sym c.in-Some.ensures)).2))))
    (sym c.takes.ensures ∙ c.if-not-takes.true))

pub reply-requires : goal.reply-requires
reply-requires g c =
    let r = c.requires in (
      r.0,
      r.1,
      r.2.2.played.scene,
      r.2.2.played.shown.is_at,
      call_there r.0 r.1 r.2.0 r.2.1 c.args.self.now c.args.caller.now c.args.reply r.2.2 (called_at c.args.caller.now c.args.self.now.calls c.in-Some.called.now (sym c.in-Some.ensures)).0 (sym (called_at c.args.caller.now c.args.self.now.calls c.in-Some.called.now (sym c.in-Some.ensures)).1) c.in-Some.called.now (reads_at c.args.self.now.calls (called_at c.args.caller.now c.args.self.now.calls c.in-Some.called.now (sym c.in-Some.ensures)).0 c.in-Some.called.now (called_at c.args.caller.now c.args.self.now.calls c.in-Some.called.now (sym c.in-Some.ensures)).2)
          (sym c.takes.ensures ∙ c.if-not-takes.false) c.in-Some.called.now (reads_at c.args.self.now.calls (called_at c.args.caller.now c.args.self.now.calls c.in-Some.called.now (sym c.in-Some.ensures)).0 c.in-Some.called.now (called_at c.args.caller.now c.args.self.now.calls c.in-Some.called.now (sym c.in-Some.ensures)).2),
    )

pub returns-then-is_err-clause-plays : goal.returns-then-is_err-clause-plays
returns-then-is_err-clause-plays g c =
    λ same hash terms log due. absurd (
    let plain = is_taken same hash terms log c.args.self.now c.args.caller.now c.args.reply due (called_at c.args.caller.now c.args.self.now.calls c.in-Some.called.now (sym c.in-Some.ensures)).0 (sym (called_at c.args.caller.now c.args.self.now.calls c.in-Some.called.now (sym c.in-Some.ensures)).1) c.in-Some.called.now (reads_at c.args.self.now.calls (called_at c.args.caller.now c.args.self.now.calls c.in-Some.called.now (sym c.in-Some.ensures)).0 c.in-Some.called.now (called_at c.args.caller.now c.args.self.now.calls c.in-Some.called.now (sym c.in-Some.ensures)).2)
    (sym c.takes.ensures ∙ c.if-not-takes.false) c.in-Some.called.now (reads_at c.args.self.now.calls (called_at c.args.caller.now c.args.self.now.calls c.in-Some.called.now (sym c.in-Some.ensures)).0 c.in-Some.called.now (called_at c.args.caller.now c.args.self.now.calls c.in-Some.called.now (sym c.in-Some.ensures)).2) c.told_by-told.result.0 (ap (λ t. t.0) c.told_by-told.ensures) c.reply.result c.reply.new.self
    (c.reply.ensures.taken same hash due.played.scene due.played.shown.is_at) (c.reply.ensures.leads same hash due.played.name (moment log) due.played.scene due.played.shown) in
    let yes = sym c.is_err.ensures.value ∙ c.if-is_err.true in
    cc (plain, yes)
    )

pub returns-clause-plays : goal.returns-clause-plays
returns-clause-plays g c =
    λ same hash terms log due.
    so_played same hash terms log _ (Replied c.args.caller.now c.args.reply) c.quietly.result Goes 0 [] c.quietly.ensures.outcome c.quietly.ensures.steps c.quietly.ensures.effects
    (goes_on same hash terms log c.args.self.now c.args.caller.now c.args.reply due (called_at c.args.caller.now c.args.self.now.calls c.in-Some.called.now (sym c.in-Some.ensures)).0 (sym (called_at c.args.caller.now c.args.self.now.calls c.in-Some.called.now (sym c.in-Some.ensures)).1) c.in-Some.called.now (reads_at c.args.self.now.calls (called_at c.args.caller.now c.args.self.now.calls c.in-Some.called.now (sym c.in-Some.ensures)).0 c.in-Some.called.now (called_at c.args.caller.now c.args.self.now.calls c.in-Some.called.now (sym c.in-Some.ensures)).2)
    (sym c.takes.ensures ∙ c.if-not-takes.false) c.in-Some.called.now (reads_at c.args.self.now.calls (called_at c.args.caller.now c.args.self.now.calls c.in-Some.called.now (sym c.in-Some.ensures)).0 c.in-Some.called.now (called_at c.args.caller.now c.args.self.now.calls c.in-Some.called.now (sym c.in-Some.ensures)).2) c.told_by-told.result.0 (ap (λ t. t.0) c.told_by-told.ensures) c.reply.result c.reply.new.self
    (c.reply.ensures.taken same hash due.played.scene due.played.shown.is_at) (c.reply.ensures.leads same hash due.played.name (moment log) due.played.scene due.played.shown)
    c.told_by-told.result.1 c.resume.new.self (λ d at. c.resume.ensures (called_at c.args.caller.now c.args.self.now.calls c.in-Some.called.now (sym c.in-Some.ensures)).0 d (called_at c.args.caller.now c.args.self.now.calls c.in-Some.called.now (sym c.in-Some.ensures)).1 at))

pub returns-in_default-clause-quiet : goal.returns-in_default-clause-quiet
returns-in_default-clause-quiet g c = none_quiet c.busy.result.outcome c.busy.result.effects.items c.busy.ensures.effects

pub returns-then-not-takes-clause-quiet : goal.returns-then-not-takes-clause-quiet
returns-then-not-takes-clause-quiet g c = none_quiet c.busy-then-not-takes.result.outcome c.busy-then-not-takes.result.effects.items c.busy-then-not-takes.ensures.effects

pub returns-then-is_err-clause-quiet : goal.returns-then-is_err-clause-quiet
returns-then-is_err-clause-quiet g c = none_quiet c.busy-then-is_err.result.outcome c.busy-then-is_err.result.effects.items c.busy-then-is_err.ensures.effects

pub returns-clause-quiet : goal.returns-clause-quiet
returns-clause-quiet g c = none_quiet c.quietly.result.outcome c.quietly.result.effects.items c.quietly.ensures.effects

pub returns-in_default-clause-told : goal.returns-in_default-clause-told
returns-in_default-clause-told g c = λ same hash is. absurd (let busy = sym is ∙ c.busy.ensures.outcome in cc busy)

pub returns-then-not-takes-clause-told : goal.returns-then-not-takes-clause-told
returns-then-not-takes-clause-told g c = λ same hash is. absurd (let busy = sym is ∙ c.busy-then-not-takes.ensures.outcome in cc busy)

pub returns-then-is_err-clause-told : goal.returns-then-is_err-clause-told
returns-then-is_err-clause-told g c = λ same hash is. absurd (let busy = sym is ∙ c.busy-then-is_err.ensures.outcome in cc busy)

pub returns-clause-told : goal.returns-clause-told
returns-clause-told g c = λ same hash is. (
  record {
    place = (called_at c.args.caller.now c.args.self.now.calls c.in-Some.called.now (sym c.in-Some.ensures)).0;
    placed = sym (called_at c.args.caller.now c.args.self.now.calls c.in-Some.called.now (sym c.in-Some.ensures)).1;
    asked = c.in-Some.called.now;
    reads = (reads_at c.args.self.now.calls (called_at c.args.caller.now c.args.self.now.calls c.in-Some.called.now (sym c.in-Some.ensures)).0 c.in-Some.called.now (called_at c.args.caller.now c.args.self.now.calls c.in-Some.called.now (sym c.in-Some.ensures)).2);
    taken = sym c.takes.ensures ∙ c.if-not-takes.false;
    whose = c.in-Some.called.now;
    reads_whose = (reads_at c.args.self.now.calls (called_at c.args.caller.now c.args.self.now.calls c.in-Some.called.now (sym c.in-Some.ensures)).0 c.in-Some.called.now (called_at c.args.caller.now c.args.self.now.calls c.in-Some.called.now (sym c.in-Some.ensures)).2);
    as_it = c.told_by-told.result.0;
    is_told = ap (λ t. t.0) c.told_by-told.ensures;
    result = c.reply.result;
    plain = sym c.is_err.ensures.value ∙ c.if-is_err.false;
    leads = λ s at. c.reply.ensures.taken same hash s at;
    value = c.told_by-told.result.1;
    value_is = ap (λ t. t.1) c.told_by-told.ensures;
    calls = λ d at. c.resume.ensures (called_at c.args.caller.now c.args.self.now.calls c.in-Some.called.now (sym c.in-Some.ensures)).0 d (called_at c.args.caller.now c.args.self.now.calls c.in-Some.called.now (sym c.in-Some.ensures)).1 at;
    notes = c.reply.ensures.notes;
  },
  c.quietly.ensures.effects,
)

pub returns-in_default-clause-stays : goal.returns-in_default-clause-stays
returns-in_default-clause-stays g c = λ same hash terms log due busy. (refl, c.busy.ensures.effects)

pub returns-then-not-takes-clause-stays : goal.returns-then-not-takes-clause-stays
returns-then-not-takes-clause-stays g c = λ same hash terms log due busy. (refl, c.busy-then-not-takes.ensures.effects)

pub returns-then-is_err-clause-stays : goal.returns-then-is_err-clause-stays
returns-then-is_err-clause-stays g c =
    λ same hash terms log due busy. absurd (
    let plain = is_taken same hash terms log c.args.self.now c.args.caller.now c.args.reply due (called_at c.args.caller.now c.args.self.now.calls c.in-Some.called.now (sym c.in-Some.ensures)).0 (sym (called_at c.args.caller.now c.args.self.now.calls c.in-Some.called.now (sym c.in-Some.ensures)).1) c.in-Some.called.now (reads_at c.args.self.now.calls (called_at c.args.caller.now c.args.self.now.calls c.in-Some.called.now (sym c.in-Some.ensures)).0 c.in-Some.called.now (called_at c.args.caller.now c.args.self.now.calls c.in-Some.called.now (sym c.in-Some.ensures)).2)
    (sym c.takes.ensures ∙ c.if-not-takes.false) c.in-Some.called.now (reads_at c.args.self.now.calls (called_at c.args.caller.now c.args.self.now.calls c.in-Some.called.now (sym c.in-Some.ensures)).0 c.in-Some.called.now (called_at c.args.caller.now c.args.self.now.calls c.in-Some.called.now (sym c.in-Some.ensures)).2) c.told_by-told.result.0 (ap (λ t. t.0) c.told_by-told.ensures) c.reply.result c.reply.new.self
    (c.reply.ensures.taken same hash due.played.scene due.played.shown.is_at) (c.reply.ensures.leads same hash due.played.name (moment log) due.played.scene due.played.shown) in
    let yes = sym c.is_err.ensures.value ∙ c.if-is_err.true in
    cc (plain, yes)
    )

pub returns-clause-stays : goal.returns-clause-stays
returns-clause-stays g c = λ same hash terms log due busy. absurd (let goes = sym busy ∙ c.quietly.ensures.outcome in cc goes)

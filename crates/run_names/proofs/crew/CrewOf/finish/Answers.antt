-- A crew that has ended.
use Rattle.std.proofs.Common.{sym, ◌∙◌}
use Rattle.std.proofs.lemmas.List.{length-map}
use Rattle.run_names.specs.Crews.Crew.{events_of}
use Rattle.run_names.specs.declared.kept.KeptEvent.{KeptEvent}
use Rattle.run_names.proofs.Crews.Lists.{all_hold}
use Rattle.run_names.proofs.crew.CrewOf.finish.Goals as goal

pub returns-then-agrees-clause-counted : goal.returns-then-agrees-clause-counted
returns-then-agrees-clause-counted g c =
    let f = c.in_ok-finished.finished in
    g.met.R.Runner.tells g.N.CrewName.setup (events_of f.schedule.items) f.run c.in_ok-finished.ensures.run
    ∙ length-map f.schedule.items (λ (k : KeptEvent g.row.E.Denot). k.event)
    ∙ c.in_ok-finished.ensures.counted
    ∙ sym (c.audit.ensures.whole (c.gathered-all.ensures.parts ∙ c.requires.all))
    ∙ c.gathered-all.ensures.amount

pub returns-then-agrees-clause-lists : goal.returns-then-agrees-clause-lists
returns-then-agrees-clause-lists g c =
    all_hold g.R.Runner.same_event g.R.Runner.same_outcome c.as_slice.ensures.value c.outcomes_of.ensures c.as_slice-2.ensures.value (c.agree-agrees.ensures.0 c.if-agrees.true)

pub returns-else-agrees-clause-none : goal.returns-else-agrees-clause-none
returns-else-agrees-clause-none g c =
    let f = c.in_ok-finished.finished in record {
      schedule = f.schedule.items;
      run = f.run;
      whole = c.in_ok-finished.ensures.run;
      counted = c.in_ok-finished.ensures.counted ∙ sym (c.audit.ensures.whole (c.gathered-all.ensures.parts ∙ c.requires.all)) ∙ c.gathered-all.ensures.amount;
      unlike = λ all.
          let agrees =
          c.agree-agrees.ensures.1
          (all_hold g.R.Runner.same_event g.R.Runner.same_outcome (sym c.as_slice.ensures.value) (sym c.outcomes_of.ensures) (sym c.as_slice-2.ensures.value) all) in
          let not = c.if-agrees.false in cc (agrees, not);
    }

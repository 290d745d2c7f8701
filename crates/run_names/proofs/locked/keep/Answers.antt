-- An event happens, and is kept.
use Rattle.std.specs.Prelude.{◌∷◌, [], ◌++◌, List}
use Rattle.std.proofs.Common.{◌≡◌, refl, subst, sym, ◌∙◌}
use Rattle.run_names.specs.Crews.Crew.{events_of}
use Rattle.run_names.proofs.Crews.Events.{one_more}
use Rattle.run_names.proofs.locked.keep.Goals as goal

pub happens-requires : goal.happens-requires
happens-requires g c = record { copies = c.requires.copies; come = (c.requires.come.0, events_of c.args.schedule.now.items, c.requires.come.1) }

pub returns-clause-kept : goal.returns-clause-kept
returns-clause-kept g c = c.push_reserved.ensures.items ∙ (λ i. c.reserve.ensures.items i ++ (record { driver = c.args.number; event = c.in_ok-kept.ensures i }) ∷ [])

pub returns-clause-come : goal.returns-clause-come
returns-clause-come g c = λ setup come.
    let old = c.args.schedule.now.items in
    let new = c.push_reserved.new.self.items in
    let is : new ≡ old ++ (record { driver = c.args.number; event = c.args.event }) ∷ [] =
    c.push_reserved.ensures.items ∙ (λ i. c.reserve.ensures.items i ++ (record { driver = c.args.number; event = c.in_ok-kept.ensures i }) ∷ []) in
    subst (λ (l : List g.row.E.Denot). g.R.Runner.has_come setup l c.happens.new.runner)
    (sym (one_more old new (record { driver = c.args.number; event = c.args.event }) c.args.event is refl)) (c.in_ok-outcome.ensures.come setup (events_of old) come)

pub returns-clause-told : goal.returns-clause-told
returns-clause-told g c = c.in_ok-outcome.ensures.told

pub returns-clause-twice : goal.returns-clause-twice
returns-clause-twice g c = c.in_ok-outcome.ensures.twice

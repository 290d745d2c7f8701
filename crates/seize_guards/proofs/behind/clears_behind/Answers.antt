use Rattle.std.specs.Prelude.{ℕ, Bool, Some, None}
use Rattle.std.proofs.Common.{refl, ap, ◌∙◌}
use Rattle.seize_guards.proofs.Deferrals.{stands_seen, took, took_or_none}
use Rattle.seize_guards.proofs.behind.clears_behind.Goals as goal

pub takes-taken-requires-clause-seen : goal.takes-taken-requires-clause-seen
takes-taken-requires-clause-seen g c =
    let s = c.args.stay.now in
    (None, stands_seen s.slot s.seen s.caller.seat.view.knows (s.stands ∙ ap (λ (y : Bool). Some (s.slot, y, s.seen)) c.requires.may.0) c.requires.may.1, refl)

pub returns-clause-taken : goal.returns-clause-taken
returns-clause-taken g c = λ waits.
    let s = c.args.stay.now in let t = c.takes-taken in
    took t.new.caller.seat.view.did c.args.root t.result.old
    (t.ensures.did None (stands_seen s.slot s.seen s.caller.seat.view.knows (s.stands ∙ ap (λ (y : Bool). Some (s.slot, y, s.seen)) c.requires.may.0) c.requires.may.1)) (t.ensures.one waits)

pub returns-clause-other : goal.returns-clause-other
returns-clause-other g c = λ not.
    let s = c.args.stay.now in let t = c.takes-taken in
    took_or_none t.new.caller.seat.view.did c.args.root t.result.old
    (t.ensures.did None (stands_seen s.slot s.seen s.caller.seat.view.knows (s.stands ∙ ap (λ (y : Bool). Some (s.slot, y, s.seen)) c.requires.may.0) c.requires.may.1))

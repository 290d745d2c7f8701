use Rattle.std.proofs.Common.{true, false, sym, subst, ◌∙◌}
use Rattle.map_measures.specs.ByKey.ByKey.{by_key}
use Rattle.threads_rule.specs.declared.view.View.{View}
use Rattle.seize_callers.proofs.Keeping.{still_kept}
use Rattle.threads_rule.specs.Errands.Calling.{MayStep, StepsTo}
use Rattle.threads_steps.specs.Made.{CanMake, HasMade, shown_of}
use Rattle.threads_steps.specs.Steps.{HasStepped}
use Rattle.threads_rule.proofs.Errands.Beginnings.{turned_leans}
use Rattle.threads_steps.proofs.Calling.{may_step, has_made, has_turned, may_turn, still, turned_by_it}
use Rattle.threads_steps.proofs.Forms.{may_step_by, stepped_by}
use Rattle.threads_steps.proofs.within.Within.steps_by.Goals as goal

pub step-told-requires : goal.step-told-requires
step-told-requires g c =
    let is = subst (MayStep c.args.hasher.now (by_key g.Q.Equivalent.stands_for c.args.machine.now)) (sym c.begins_step.ensures.view) c.requires.may in
    may_step_by (CanMake g.K.PartialEq.eq g.S.Hashes.hash) (HasMade g.K.PartialEq.eq g.S.Hashes.hash) shown_of g.K.PartialEq.eq g.Q.Equivalent.equivalent g.Q.Equivalent.stands_for g.met.Q.Equivalent.stands
    (g.S.Hashes.hash c.args.hasher.now) c.begins_step.new.self c.args.machine.now (may_step g.K.PartialEq.eq g.S.Hashes.hash c.args.hasher.now c.begins_step.new.self (by_key g.Q.Equivalent.stands_for c.args.machine.now) is)

-- an operation was made
pub returns-then-self-clause-stepped : goal.returns-then-self-clause-stepped
returns-then-self-clause-stepped g c =
    let is = subst (MayStep c.args.hasher.now (by_key g.Q.Equivalent.stands_for c.args.machine.now)) (sym c.begins_step.ensures.view) c.requires.may in
    let st = stepped_by (CanMake g.K.PartialEq.eq g.S.Hashes.hash) (HasMade g.K.PartialEq.eq g.S.Hashes.hash) shown_of g.K.PartialEq.eq g.Q.Equivalent.equivalent g.Q.Equivalent.stands_for g.met.Q.Equivalent.stands
    (g.S.Hashes.hash c.args.hasher.now) c.begins_step.new.self c.step-told.new.memory c.args.machine.now c.step-told.new.self c.step-told.result c.step-told.ensures in
    subst
    (λ (v : View g.row.K.Denot g.row.V.Denot g.row.S.Denot). StepsTo g.K.PartialEq.eq g.S.Hashes.hash c.args.hasher.now (by_key g.Q.Equivalent.stands_for c.args.machine.now) (by_key g.Q.Equivalent.stands_for c.step-told.new.self) c.step-told.result v c.step-told.new.memory.seat.now.view)
    c.begins_step.ensures.view
    (has_made g.K.PartialEq.eq g.S.Hashes.hash c.args.hasher.now c.begins_step.new.self (by_key g.Q.Equivalent.stands_for c.args.machine.now) is c.step-told.new.memory (by_key g.Q.Equivalent.stands_for c.step-told.new.self) c.step-told.result c.begins_step.ensures.none st c.if-self.true).stepped

pub returns-then-self-clause-same : goal.returns-then-self-clause-same
returns-then-self-clause-same g c =
    let is = subst (MayStep c.args.hasher.now (by_key g.Q.Equivalent.stands_for c.args.machine.now)) (sym c.begins_step.ensures.view) c.requires.may in
    let st = stepped_by (CanMake g.K.PartialEq.eq g.S.Hashes.hash) (HasMade g.K.PartialEq.eq g.S.Hashes.hash) shown_of g.K.PartialEq.eq g.Q.Equivalent.equivalent g.Q.Equivalent.stands_for g.met.Q.Equivalent.stands
    (g.S.Hashes.hash c.args.hasher.now) c.begins_step.new.self c.step-told.new.memory c.args.machine.now c.step-told.new.self c.step-told.result c.step-told.ensures in
    (has_made g.K.PartialEq.eq g.S.Hashes.hash c.args.hasher.now c.begins_step.new.self (by_key g.Q.Equivalent.stands_for c.args.machine.now) is c.step-told.new.memory (by_key g.Q.Equivalent.stands_for c.step-told.new.self) c.step-told.result c.begins_step.ensures.none st c.if-self.true).seat
    ∙ c.begins_step.ensures.same

-- none was made
pub turn-requires-clause-may : goal.turn-requires-clause-may
turn-requires-clause-may g c =
    let is = subst (MayStep c.args.hasher.now (by_key g.Q.Equivalent.stands_for c.args.machine.now)) (sym c.begins_step.ensures.view) c.requires.may in
    let st = stepped_by (CanMake g.K.PartialEq.eq g.S.Hashes.hash) (HasMade g.K.PartialEq.eq g.S.Hashes.hash) shown_of g.K.PartialEq.eq g.Q.Equivalent.equivalent g.Q.Equivalent.stands_for g.met.Q.Equivalent.stands
    (g.S.Hashes.hash c.args.hasher.now) c.begins_step.new.self c.step-told.new.memory c.args.machine.now c.step-told.new.self c.step-told.result c.step-told.ensures in
    may_turn g.K.PartialEq.eq g.S.Hashes.hash c.args.hasher.now c.begins_step.new.self (by_key g.Q.Equivalent.stands_for c.args.machine.now) is c.step-told.new.memory (by_key g.Q.Equivalent.stands_for c.step-told.new.self) c.step-told.result c.begins_step.ensures.none st c.if-self.false

pub turn-requires-clause-errand : goal.turn-requires-clause-errand
turn-requires-clause-errand g c = λ home rests w so. absurd (c.step-told.new.memory.away home)

pub turn-requires-clause-leans : goal.turn-requires-clause-leans
turn-requires-clause-leans g c = λ w told n leans. turned_leans g.K.PartialEq.eq g.S.Hashes.hash c.step-told.new.memory.seat.now.view w n told leans

pub returns-clause-stepped : goal.returns-clause-stepped
returns-clause-stepped g c =
    let is = subst (MayStep c.args.hasher.now (by_key g.Q.Equivalent.stands_for c.args.machine.now)) (sym c.begins_step.ensures.view) c.requires.may in
    let st = stepped_by (CanMake g.K.PartialEq.eq g.S.Hashes.hash) (HasMade g.K.PartialEq.eq g.S.Hashes.hash) shown_of g.K.PartialEq.eq g.Q.Equivalent.equivalent g.Q.Equivalent.stands_for g.met.Q.Equivalent.stands
    (g.S.Hashes.hash c.args.hasher.now) c.begins_step.new.self c.step-told.new.memory c.args.machine.now c.step-told.new.self c.step-told.result c.step-told.ensures in
    subst (λ (v : View g.row.K.Denot g.row.V.Denot g.row.S.Denot). StepsTo g.K.PartialEq.eq g.S.Hashes.hash c.args.hasher.now (by_key g.Q.Equivalent.stands_for c.args.machine.now) (by_key g.Q.Equivalent.stands_for c.step-told.new.self) c.step-told.result v c.turn.new.seat.view)
    c.begins_step.ensures.view
    (has_turned g.K.PartialEq.eq g.S.Hashes.hash c.args.hasher.now c.begins_step.new.self (by_key g.Q.Equivalent.stands_for c.args.machine.now) is c.step-told.new.memory (by_key g.Q.Equivalent.stands_for c.step-told.new.self) c.step-told.result c.begins_step.ensures.none st c.if-self.false c.turn.new.seat.view c.turn.ensures.goes)

pub returns-clause-same : goal.returns-clause-same
returns-clause-same g c =
    let is = subst (MayStep c.args.hasher.now (by_key g.Q.Equivalent.stands_for c.args.machine.now)) (sym c.begins_step.ensures.view) c.requires.may in
    let st = stepped_by (CanMake g.K.PartialEq.eq g.S.Hashes.hash) (HasMade g.K.PartialEq.eq g.S.Hashes.hash) shown_of g.K.PartialEq.eq g.Q.Equivalent.equivalent g.Q.Equivalent.stands_for g.met.Q.Equivalent.stands
    (g.S.Hashes.hash c.args.hasher.now) c.begins_step.new.self c.step-told.new.memory c.args.machine.now c.step-told.new.self c.step-told.result c.step-told.ensures in
    still_kept _ _ c.turn.ensures.same.1 c.turn.ensures.errand
    ∙ still g.K.PartialEq.eq g.S.Hashes.hash c.args.hasher.now c.begins_step.new.self (by_key g.Q.Equivalent.stands_for c.args.machine.now) is c.step-told.new.memory (by_key g.Q.Equivalent.stands_for c.step-told.new.self) c.step-told.result c.begins_step.ensures.none st c.if-self.false
    ∙ c.begins_step.ensures.same

pub returns-then-self-clause-by : goal.returns-then-self-clause-by
returns-then-self-clause-by g c =
    let is = subst (MayStep c.args.hasher.now (by_key g.Q.Equivalent.stands_for c.args.machine.now)) (sym c.begins_step.ensures.view) c.requires.may in
    let st = stepped_by (CanMake g.K.PartialEq.eq g.S.Hashes.hash) (HasMade g.K.PartialEq.eq g.S.Hashes.hash) shown_of g.K.PartialEq.eq g.Q.Equivalent.equivalent g.Q.Equivalent.stands_for g.met.Q.Equivalent.stands
    (g.S.Hashes.hash c.args.hasher.now) c.begins_step.new.self c.step-told.new.memory c.args.machine.now c.step-told.new.self c.step-told.result c.step-told.ensures in
    subst (λ (v : View g.row.K.Denot g.row.V.Denot g.row.S.Denot). HasStepped g.K.PartialEq.eq g.S.Hashes.hash v c.step-told.new.memory.seat.now.view) c.begins_step.ensures.view
    (has_made g.K.PartialEq.eq g.S.Hashes.hash c.args.hasher.now c.begins_step.new.self (by_key g.Q.Equivalent.stands_for c.args.machine.now) is c.step-told.new.memory (by_key g.Q.Equivalent.stands_for c.step-told.new.self) c.step-told.result c.begins_step.ensures.none st c.if-self.true).by

pub returns-clause-by : goal.returns-clause-by
returns-clause-by g c =
    let is = subst (MayStep c.args.hasher.now (by_key g.Q.Equivalent.stands_for c.args.machine.now)) (sym c.begins_step.ensures.view) c.requires.may in
    let st = stepped_by (CanMake g.K.PartialEq.eq g.S.Hashes.hash) (HasMade g.K.PartialEq.eq g.S.Hashes.hash) shown_of g.K.PartialEq.eq g.Q.Equivalent.equivalent g.Q.Equivalent.stands_for g.met.Q.Equivalent.stands
    (g.S.Hashes.hash c.args.hasher.now) c.begins_step.new.self c.step-told.new.memory c.args.machine.now c.step-told.new.self c.step-told.result c.step-told.ensures in
    subst (λ (v : View g.row.K.Denot g.row.V.Denot g.row.S.Denot). HasStepped g.K.PartialEq.eq g.S.Hashes.hash v c.turn.new.seat.view) c.begins_step.ensures.view
    (turned_by_it g.K.PartialEq.eq g.S.Hashes.hash c.args.hasher.now c.begins_step.new.self (by_key g.Q.Equivalent.stands_for c.args.machine.now) is c.step-told.new.memory (by_key g.Q.Equivalent.stands_for c.step-told.new.self) c.step-told.result c.begins_step.ensures.none st c.if-self.false c.turn.new.seat.view c.turn.ensures.goes)

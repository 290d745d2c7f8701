use Rattle.std.proofs.Common.{subst, sym, ◌∙◌}
use Rattle.seize.specs.declared.advance.Advance.{Advance}
use Rattle.map_tables.specs.declared.setting.Setting.{Setting}
use Rattle.threads_rule.specs.Errands.Making.{MadeSo, KnowsStill}
use Rattle.threads_kinds.specs.Makings.{StaysChosen}
use Rattle.threads_steps.proofs.Makings.{is_done, is_refused}
use Rattle.threads_steps.proofs.within.Within.goes_on.Goals as goal

pub returns-in-Done-clause-made : goal.returns-in-Done-clause-made
returns-in-Done-clause-made g c =
    let old = c.loop-setting.self.seat.now.view in let new = c.makes.new.self.seat.now.view in
    is_done c.args._hasher.now c.args.opening c.args.self.now.seat.now.view old new c.loop-setting.invariant.2 (c.makes.ensures.slot ∙ c.loop-setting.invariant.3)
    (c.makes.ensures.calls ∙ c.loop-setting.invariant.5) c.args.own _
    (subst (λ (r : Advance Setting). MadeSo c.args.own c.args._hasher.now c.makes.new.opening r new) c.in-Done.is (c.makes.ensures.told c.args._hasher.now c.loop-setting.invariant.0))
    (subst (λ (r : Advance Setting). StaysChosen c.loop-setting.opening c.makes.new.opening r) c.in-Done.is c.makes.ensures.chosen ∙ c.loop-setting.invariant.1)
    (subst (λ (r : Advance Setting). KnowsStill c.args.own r old new) c.in-Done.is c.makes.ensures.knows)

pub returns-in-Refused-clause-made : goal.returns-in-Refused-clause-made
returns-in-Refused-clause-made g c =
    let old = c.loop-setting.self.seat.now.view in let new = c.makes.new.self.seat.now.view in
    is_refused c.args._hasher.now c.args.opening c.args.self.now.seat.now.view old new c.loop-setting.invariant.2 (c.makes.ensures.slot ∙ c.loop-setting.invariant.3)
    (c.makes.ensures.calls ∙ c.loop-setting.invariant.5) c.args.own _ (λ own. sym c.loop-setting.invariant.2.2 ∙ c.loop-setting.invariant.0.yet own)
    (subst (λ (r : Advance Setting). MadeSo c.args.own c.args._hasher.now c.makes.new.opening r new) c.in-Refused.is (c.makes.ensures.told c.args._hasher.now c.loop-setting.invariant.0))
    (subst (λ (r : Advance Setting). KnowsStill c.args.own r old new) c.in-Refused.is c.makes.ensures.knows)

pub unreachable-requires : goal.unreachable-requires
unreachable-requires g c =
    subst (λ (r : Advance Setting). MadeSo c.args.own c.args._hasher.now c.makes.new.opening r c.makes.new.self.seat.now.view) c.in-Waits.is
    (c.makes.ensures.told c.args._hasher.now c.loop-setting.invariant.0)

use Rattle.seize_callers.specs.Made.{IsAllowed}
use Rattle.seize_callers.specs.Kept.{kept}
use Rattle.seize_callers.proofs.Drives.{may_step, has_stepped}
use Rattle.seize_callers.proofs.within.Within.steps.Goals as goal

pub step-requires : goal.step-requires
step-requires g c =
    may_step g.T.Defers.defers (λ m. g.C.Content.notes m.seat.now.view) (λ m. g.C.Content.beside m.seat.now.view) (λ m. kept m.blocks m.seat.ghost_name m.seat.now.id m.seat.now.away) (λ m. IsAllowed g.C.Rule.holds g.C.Rule.keeps g.C.Content.notes g.C.Content.beside g.T.Defers.defers g.C.Rule.then m.blocks.now.words.fixed m.seat.now.id m.seat.now.view) c.args.self.now c.args.row.now
    c.requires.settling.0 c.requires.settling.1 c.requires.not

pub returns-in_default : goal.returns-in_default
returns-in_default g c =
    let x = c.args.self.now in let row = c.args.row.now in let stepped =
    has_stepped g.T.Defers.defers (λ m. g.C.Content.notes m.seat.now.view) (λ m. g.C.Content.beside m.seat.now.view) (λ m. kept m.blocks m.seat.ghost_name m.seat.now.id m.seat.now.away) (λ m. IsAllowed g.C.Rule.holds g.C.Rule.keeps g.C.Content.notes g.C.Content.beside g.T.Defers.defers g.C.Rule.then m.blocks.now.words.fixed m.seat.now.id m.seat.now.view) x row in
    let k = stepped c.requires.settling.0 c.requires.settling.1 c.requires.not c.step.new.memory (c.step.new.self, c.step.result) c.step.ensures in
    record {
      settling = λ task is. (stepped task is c.requires.not c.step.new.memory (c.step.new.self, c.step.result) c.step.ensures).0;
      falls = k.3;
      slot = k.1;
      same = k.2;
      beside = k.5;
    }

pub returns-in-Gave-clause-settling : goal.returns-in-Gave-clause-settling
returns-in-Gave-clause-settling g c = λ task is.
    (has_stepped g.T.Defers.defers (λ m. g.C.Content.notes m.seat.now.view) (λ m. g.C.Content.beside m.seat.now.view) (λ m. kept m.blocks m.seat.ghost_name m.seat.now.id m.seat.now.away) (λ m. IsAllowed g.C.Rule.holds g.C.Rule.keeps g.C.Content.notes g.C.Content.beside g.T.Defers.defers g.C.Rule.then m.blocks.now.words.fixed m.seat.now.id m.seat.now.view) c.args.self.now c.args.row.now task is
    c.requires.not c.step.new.memory (c.step.new.self, c.step.result) c.step.ensures).0

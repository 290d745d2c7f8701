-- It comes to its end, and what that is.
use Rattle.std.proofs.Common.{refl}
use Rattle.owner_asks.proofs.Asks.Asks.Finished.{finish_ends, finish_answered, finish_asks, finish_refused, finish_key, finish_pair}
use Rattle.owner_asks.proofs.Asks.Asks.Ran.{told_answered, told_refused}
use Rattle.owner_asks.proofs.asking.finish.Goals as goal

pub run_skimming-requires : goal.run_skimming-requires
run_skimming-requires g c = let r = c.requires in finish_ends _ _ _ _ r.1 r.2 r.3 r.0 _ _ r.4 r.5 _ r.6 _ _ c.reply-taken.ensures

pub returns-in-Ok-Answered-clause-ends : goal.returns-in-Ok-Answered-clause-ends
returns-in-Ok-Answered-clause-ends g c = λ xs kind its keys asked p taken.
    finish_answered _ _ _ _ kind its keys xs _ _ asked p _ taken _ _ c.reply-taken.ensures _ _ _ _ _ c.in-Ok-Answered.is c.in-Ok-Answered.field-0-is c.run_skimming.ensures

pub unreachable-requires : goal.unreachable-requires
unreachable-requires g c =
    let r = c.requires in finish_asks _ _ _ _ r.1 r.2 r.3 r.0 _ _ r.4 r.5 _ r.6 _ _ c.reply-taken.ensures _ _ _ _ _ c.in-Ok-Asks.is c.in-Ok-Asks.field-0-is c.run_skimming.ensures

pub returns-clause-ends : goal.returns-clause-ends
returns-clause-ends g c = λ xs kind its keys asked p taken. finish_refused _ _ _ _ kind its keys xs _ _ asked p _ taken _ _ c.reply-taken.ensures _ _ _ _ c.in-Err.is c.run_skimming.ensures

pub returns-clause-key : goal.returns-clause-key
returns-clause-key g c = λ xs kind key keys asked p taken. finish_key _ _ _ _ kind _ keys xs _ _ asked p _ taken _ _ c.reply-taken.ensures _ _ _ _ c.in-Err.is c.run_skimming.ensures key refl

pub returns-clause-value : goal.returns-clause-value
returns-clause-value g c = λ xs kind key value keys p taken insert.
    finish_pair _ _ _ _ kind _ keys xs _ _ _ p _ taken _ _ c.reply-taken.ensures _ _ refl value insert _ _ c.in-Err.is c.run_skimming.ensures key refl

pub returns-in-Ok-Answered-clause-ran : goal.returns-in-Ok-Answered-clause-ran
returns-in-Ok-Answered-clause-ran g c = told_answered _ _ _ c.args.machine.now c.args.memory.now c.args.reply _ _ c.reply-taken.ensures _ _ _ c.run_skimming.ensures _ _ c.in-Ok-Answered.is c.in-Ok-Answered.field-0-is

pub returns-clause-ran : goal.returns-clause-ran
returns-clause-ran g c = told_refused _ _ _ c.args.machine.now c.args.memory.now c.args.reply _ _ c.reply-taken.ensures _ _ _ c.run_skimming.ensures _ c.in-Err.is

use Rattle.std.proofs.Common.{rules, ◌≡◌}
use Rattle.seize_words.specs.OneMemory.Mem.{next_number}
use Rattle.seize_words.proofs.OneMemory.OneOwner.AfterWrites.{free_number}
use Rattle.seize_words.proofs.plain.PlainMemory.make.Goals as goal

pub returns-clause-took : goal.returns-clause-took
returns-clause-took g c =
    let next : c.in_ok-number.number ≡ next_number c.args.self.now = search rules in
    ((free_number c.args.self.now c.in_ok-number.number next, search rules), search rules)

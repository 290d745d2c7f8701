-- Past the list there is no block.
use Rattle.std.proofs.Common.{arith}
use Rattle.std.proofs.Math.ListN.{get_or-eq_default}
use Rattle.run_effects.specs.declared.role.Role.TheVariants.{Free}
use Rattle.run_effects.proofs.notes.Notes.blocks.Goals as goal

pub returns : goal.returns
returns c = λ b past. get_or-eq_default c.args.self.now.roles.items Free (let n = c.len.ensures in let ok = c.args.self.now.roles.ok in omega (arith, n, ok.0, past))

use Rattle.std.proofs.Common.{subst}
use Rattle.seize_words.specs.declared.at.At.{At}
use Rattle.seize_seats.specs.Seats.State.{Allows}
use Rattle.seize_atoms.specs.Placed.{HasWord}
use Rattle.seize_blocks.proofs.blocks.Blocks.access_by.Goals as goal

pub access_own-requires-clause-may : goal.access_own-requires-clause-may
access_own-requires-clause-may g c = let s = c.args.seat.now in let op = g.A.Access.op c.args.access in
    subst (λ (at : At). Allows (g.R.Rule.holds c.args.self.now.words.fixed) g.R.Rule.keeps s.id s.view (op at) (g.R.Rule.then s.view (op at))) c.in-Word.is c.requires.may

pub access_own-requires-clause-there : goal.access_own-requires-clause-there
access_own-requires-clause-there g c = let s = c.args.seat.now in
    subst (λ (at : At). HasWord (g.R.Rule.holds c.args.self.now.words.fixed) s.id s.view at) c.in-Word.is
    (λ t so is. g.A.Access.there c.args.access c.args.at t.memory (c.requires.may t so is).0)

-- An event happens under the lock.
use Rattle.std.specs.Prelude.{[], ◌∷◌, length}
use Rattle.std.proofs.Common.{ap, ◌∙◌, arith}
use Rattle.std.proofs.lemmas.List.{length-append}
use Rattle.run_names.proofs.locked.Locked.apply.Goals as goal

pub keep-requires-clause-come : goal.keep-requires-clause-come
keep-requires-clause-come g c = (g.N.CrewName.setup, c.self.invariant.2 c.if-self.false)

pub invariant_of-self : goal.invariant_of-self
invariant_of-self g c =
    let longer = ap length c.in-Ok.ensures.kept ∙ length-append c.self.inside.schedule.items ((record { driver = c.args.number; event = c.args.event }) ∷ []) in (
      c.self.invariant.0,
      omega (arith, longer, c.add.ensures.total, c.self.invariant.1),
      λ whole. c.in-Ok.ensures.come g.N.CrewName.setup (c.self.invariant.2 whole),
    )

use Rattle.std.proofs.Common.{sym, subst, ◌∙◌}
use Rattle.seize_guards.specs.Behind.{IsCome}
use Rattle.seize_guards.proofs.Deferrals.{parted_none, parted_one}
use Rattle.seize_guards.proofs.deferring.TakesErrandOfRows.run.Goals as goal

pub puts_behind-came-requires-clause-away : goal.puts_behind-came-requires-clause-away
puts_behind-came-requires-clause-away g c = λ e. c.requires.1 (sym c.takes_out-old.ensures.same.2 ∙ e)

pub puts_behind-came-requires-clause-parts : goal.puts_behind-came-requires-clause-parts
puts_behind-came-requires-clause-parts g c =
    let p = c.takes_out-old.ensures.parted in let block = c.in-Some.ensures.some in
    (p.0, p.1, p.2 ∙ parted_one c.args.self.slot c.args.self.seen p.0 p.1 c.takes_out-old.result c.in-Some.block block.0 block.2)

pub returns-in-None : goal.returns-in-None
returns-in-None g c =
    let p = c.takes_out-old.ensures.parted in let t = c.takes_out-old.ensures in (
      t.same.0,
      t.same.1,
      t.same.2,
      ((p.2 ∙ parted_none c.args.self.slot c.args.self.seen p.0 p.1 c.takes_out-old.result c.in-None.ensures.none, c.in-None.ensures.none), t.did, t.guards),
    )

pub returns-in-Some : goal.returns-in-Some
returns-in-Some g c =
    let t = c.takes_out-old.ensures in let p = c.puts_behind-came.ensures in (
      p.same.0 ∙ t.same.0,
      p.same.1 ∙ t.same.1,
      p.same.2 ∙ t.same.2,
      (
        subst (λ b. IsCome c.args.self.slot c.args.self.seen b c.puts_behind-came.new.seat.view c.puts_behind-came.result) c.in-Some.ensures.some.0 p.came,
        (λ made is. p.did ∙ t.did made is),
        p.guards ∙ t.guards,
      ),
    )

use Rattle.std.specs.Prelude.{nat_lt}
use Rattle.std.specs.List.{list_any}
use Rattle.std.proofs.Common.{◌≡◌, ap, arith, sym, ◌∙◌}
use Rattle.run_schedules.specs.Runs.Same.{is_same}
use Rattle.run_executor.proofs.Named.Roll.Kept.{any_counted, nobody_there}
use Rattle.run_executor.proofs.callers.Callers.uses.Goals as goal

pub returns-then-self-gt0 : goal.returns-then-self-gt0
returns-then-self-gt0 g c =
    ap (λ n. nat_lt 0 n) (c.of.ensures ∙ c.self.invariant.under_so c.args.guard.now) ∙ any_counted (λ d. is_same d.guard c.args.guard.now) c.self.inside.comers.items
    ∙ ap (λ l. list_any (λ d. is_same d.guard c.args.guard.now) l) c.self.view_is

pub returns-else-self-gt0 : goal.returns-else-self-gt0
returns-else-self-gt0 g c =
    let none = c.if-self-gt0.false in let zero : c.self.inside.count ≡ 0 = omega (arith, none) in
    ap (λ n. nat_lt 0 n) zero ∙ ap (λ l. list_any (λ d. is_same d.guard c.args.guard.now) l) (sym (nobody_there c.self.inside.comers.items c.args.self.now c.self.view_is (sym c.self.invariant.count_so ∙ zero)))

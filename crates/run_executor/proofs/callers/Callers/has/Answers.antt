use Rattle.std.specs.Prelude.{is_some, nat_lt, position}
use Rattle.std.proofs.Common.{◌≡◌, ap, arith, sym, ◌∙◌}
use Rattle.run_executor.specs.Named.Seen.{is_named}
use Rattle.run_executor.proofs.Named.Roll.Found.{has_so}
use Rattle.run_executor.proofs.Named.Roll.Kept.{nobody_there}
use Rattle.run_executor.proofs.callers.Callers.has.Goals as goal

pub returns-then-self-gt0 : goal.returns-then-self-gt0
returns-then-self-gt0 g c =
    c.is_some.ensures ∙ has_so c.args.name.now c.deref.result.now c.self.inside.comers.items c.self.inside.places c.deref.ensures.value c.self.invariant.leads c.place_of.result c.place_of.ensures
    ∙ ap (λ l. is_some (position (is_named c.args.name.now) l)) c.self.view_is

pub returns-else-self-gt0 : goal.returns-else-self-gt0
returns-else-self-gt0 g c =
    let none = c.if-self-gt0.false in let zero : c.self.inside.count ≡ 0 = omega (arith, none) in
    ap (λ n. nat_lt 0 n) zero ∙ ap (λ l. is_some (position (is_named c.args.name.now) l)) (sym (nobody_there c.self.inside.comers.items c.args.self.now c.self.view_is (sym c.self.invariant.count_so ∙ zero)))

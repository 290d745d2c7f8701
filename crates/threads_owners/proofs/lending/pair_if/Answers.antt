use Rattle.std.specs.Prelude.{ℕ, Option, Some, IfSome}
use Rattle.std.proofs.Common.{subst, sym}
use Rattle.threads_errands.specs.Given.CallKindsKinds.{PairIsVisible}
use Rattle.threads_errands.specs.Given.ViewsLooks.{shown_in}
use Rattle.threads_owners.specs.Loans.{IsLentIf}
use Rattle.threads_owners.proofs.lending.pair_if.Goals as goal

pub pair_on-requires : goal.pair_on-requires
pair_on-requires g c = record {
  own = c.requires.own;
  one = c.requires.one;
  under = c.requires.under;
  map = c.requires.map;
  free = c.requires.free;
  shown = subst (λ (o : Option ℕ). IfSome o (PairIsVisible (shown_in c.args.seat.now.view.held))) c.in_ok-word.was c.requires.shown;
}

pub returns : goal.returns
returns g c =
    let pair = c.pair_on.result in
    subst (λ (o : Option ℕ). IsLentIf g.K.PartialEq.eq g.S.Hashes.hash c.args.guard.now c.args.owner.now c.args.seat.now.view o (Some (pair.0.now, pair.1.now))) (sym c.in_ok-word.was)
    (c.args.seat.now.id, c.pair_on.ensures)

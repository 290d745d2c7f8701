-- The closure answers by the moment alone.
use Rattle.std.proofs.Common.{rules, ◌<◌, nat_lt, ltb-true}
use Rattle.std.proofs.lemmas.Fn.{always_returns_same}
use Rattle.seq_examples.proofs.Kept.{kept_pass, on_ok, where_ok}
use Rattle.seq_examples.proofs.session_registry.expire.Goals as goal

pub returns : goal.returns
returns c = record {
  last = on_ok _ c.retain.result _ c.in_ok-retain.was
      (where_ok c.retain.result (kept_pass (λ token s. nat_lt c.args.now s.until) (λ s. c.args.now < s.until) (λ token s. ltb-true c.args.now s.until) _ _)
      (c.retain.ensures.by_test (λ token s. nat_lt c.args.now s.until) (always_returns_same _ _ _ (λ about answer next called. search rules))));
}

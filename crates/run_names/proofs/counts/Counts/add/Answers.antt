use Rattle.std.specs.Prelude.{nat_eq, IsSome}
use Rattle.std.specs.HashMap.{get_by}
use Rattle.std.specs.Cmp.Lexicographic.{pointwise}
use Rattle.std.proofs.Common.{◌≡◌, ◌+◌, ap, refl, sym, subst, arith, ◌∙◌}
use Rattle.run_names.specs.Presence.Counts.{count_in, or_none}
use Rattle.run_names.proofs.Presence.Crowds.Led.{others_lead}
use Rattle.run_names.proofs.counts.Counts.add.Goals as goal

pub overflow_add-count : goal.overflow_add-count
overflow_add-count c =
    let is : count_in c.args.name.now c.args.self.now ≡ c.in-Some.count.now =
    ap (λ n. or_none (get_by (λ k. pointwise nat_eq n k.items) c.args.self.now.by_name)) (sym c.as_bytes.ensures) ∙ ap or_none (sym c.in-Some.ensures.value) in
    omega (arith, is, c.requires)

pub returns-in-Some-clause-others : goal.returns-in-Some-clause-others
returns-in-Some-clause-others c = λ other n.
    let there = subst (λ o. IsSome o) c.in-Some.ensures.value refl in
    ap or_none (others_lead c.as_bytes.result.now other (λ e. n (sym c.as_bytes.ensures ∙ e)) _ _ ((c.get_mut.follows.holds (c.in-Some.count.now + 1)).3 there).3)

pub returns-clause-others : goal.returns-clause-others
returns-clause-others c = λ other n.
    ap or_none (others_lead c.in_ok-name.name.items other (λ e. n (sym c.as_bytes-2.ensures ∙ sym c.in_ok-name.ensures.items ∙ e)) _ _ c.in_ok-insert.ensures.updates.3)
    ∙ ap (λ m. or_none (get_by (λ k. pointwise nat_eq other k.items) m)) c.get_mut.follows.holds-at-none

use Rattle.std.proofs.Common.{rules, ◌≡◌, not, length, nat_eq, ap, ◌∙◌}
use Rattle.seize_words.proofs.OneMemory.Places.Words.{is_next}
use Rattle.seize_words.proofs.slots.Slots.has.Goals as goal

pub returns : goal.returns
returns c =
    let count : c.len.result ≡ length c.self.inside.buckets.items = search (rules, c.len.ensures) in
    rw (← c.self.view_is) (ap (λ n. not (nat_eq c.args.bucket n)) count ∙ ap not (is_next c.self.inside.buckets.items c.self.invariant c.args.bucket))

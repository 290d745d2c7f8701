use Rattle.std.proofs.Common.{rules, ◌≡◌, ◌+◌, ◌-◌, ◌∙◌, length, replicate}
use Rattle.seize_words.proofs.free_numbers.raised.Goals as goal

pub copy-requires-clause-empty : goal.copy-requires-clause-empty
copy-requires-clause-empty c =
    let zeros : c.in_ok-more.more.items ≡ replicate (length c.args.nodes.now + (length c.args.nodes.now - c.args.first) + 1) 0 =
    search (rules, c.in_ok-more.ensures) in
    c.deref_mut.ensures.value ∙ zeros

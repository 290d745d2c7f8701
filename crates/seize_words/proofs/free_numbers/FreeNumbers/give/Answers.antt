use Rattle.std.proofs.Common.{rules, ◌≡◌, ◌<◌, ◌≤◌, ◌+◌, ◌-◌, ◌*◌, ◌/◌, ◌%◌, ◌^◌, ◌∙◌, ap, sym, arith, length}
use Rattle.std.proofs.lemmas.List.{with_items_is}
use Rattle.seize_words.specs.OneMemory.FreeNumbers.{IsTurned}
use Rattle.seize_words.proofs.OneMemory.FreeSteps.{given-count, given-numbers, given-there, places-same}
use Rattle.seize_words.proofs.OneMemory.FreeWords.{few_in}
use Rattle.seize_words.proofs.free_numbers.FreeNumbers.give.Goals as goal

pub overflow_add-self : goal.overflow_add-self
overflow_add-self c =
    let within : c.args.number ≤ c.self.inside.room = rw (← c.self.view_is) at c.requires.room in
    let turned : IsTurned c.self.inside.first (64 * (c.self.inside.first + (c.args.number - 1) / 64) + (c.args.number - 1) % 64)
    c.self.inside.nodes.items c.turn.new.nodes =
    rw c.deref_mut.ensures.value at c.turn.ensures.turned in
    let long : length c.turn.new.nodes ≡ length c.self.inside.nodes.items = c.turn.ensures.length ∙ ap length c.deref_mut.ensures.value in
    let count = given-count c.self.inside.first c.self.inside.nodes.items c.self.inside.room c.args.number
    c.requires.some within c.self.invariant.1 c.index.result.now c.index.ensures c.if-index-bit-eq0.true c.turn.new.nodes turned in
    let small : c.self.inside.room < 2 ^ 64 = search rules in
    record {
      fits = omega (
        arith,
        count,
        few_in c.self.inside.first c.turn.new.nodes,
        places-same c.self.inside.first c.self.inside.nodes.items c.turn.new.nodes long,
        c.self.invariant.1,
        c.self.invariant.2,
        small,
      );
    }

pub invariant_of-self : goal.invariant_of-self
invariant_of-self c =
    let within : c.args.number ≤ c.self.inside.room = rw (← c.self.view_is) at c.requires.room in
    let turned : IsTurned c.self.inside.first (64 * (c.self.inside.first + (c.args.number - 1) / 64) + (c.args.number - 1) % 64)
    c.self.inside.nodes.items c.turn.new.nodes =
    rw c.deref_mut.ensures.value at c.turn.ensures.turned in
    let long : length c.turn.new.nodes ≡ length c.self.inside.nodes.items = c.turn.ensures.length ∙ ap length c.deref_mut.ensures.value in
    let count = given-count c.self.inside.first c.self.inside.nodes.items c.self.inside.room c.args.number
    c.requires.some within c.self.invariant.1 c.index.result.now c.index.ensures c.if-index-bit-eq0.true c.turn.new.nodes turned in
    rw (with_items_is c.self.inside.nodes c.turn.new.nodes (long ∙ sym c.self.inside.nodes.ok.0)) (
      c.turn.ensures.tree,
      c.self.invariant.1 ∙ places-same c.self.inside.first c.self.inside.nodes.items c.turn.new.nodes long,
      omega (arith, count, c.self.invariant.2),
    )

pub returns-then-index-bit-eq0 : goal.returns-then-index-bit-eq0
returns-then-index-bit-eq0 c =
    let within : c.args.number ≤ c.self.inside.room = rw (← c.self.view_is) at c.requires.room in
    let turned : IsTurned c.self.inside.first (64 * (c.self.inside.first + (c.args.number - 1) / 64) + (c.args.number - 1) % 64)
    c.self.inside.nodes.items c.turn.new.nodes =
    rw c.deref_mut.ensures.value at c.turn.ensures.turned in
    let long : length c.turn.new.nodes ≡ length c.self.inside.nodes.items = c.turn.ensures.length ∙ ap length c.deref_mut.ensures.value in
    rw (← c.self.view_is)
    (ap (λ ns. record { numbers = ns; room = c.self.inside.room })
    (rw (with_items_is c.self.inside.nodes c.turn.new.nodes (long ∙ sym c.self.inside.nodes.ok.0))
    (given-numbers c.self.inside.first c.self.inside.nodes.items c.self.inside.room c.args.number
    c.requires.some within c.self.invariant.1 c.index.result.now c.index.ensures c.if-index-bit-eq0.true c.turn.new.nodes turned)))

pub returns-else-index-bit-eq0 : goal.returns-else-index-bit-eq0
returns-else-index-bit-eq0 c =
    let within : c.args.number ≤ c.self.inside.room = rw (← c.self.view_is) at c.requires.room in
    rw (← c.self.view_is)
    (ap (λ ns. record { numbers = ns; room = c.self.inside.room })
    (given-there c.self.inside.first c.self.inside.nodes.items c.self.inside.room c.args.number
    c.requires.some within c.self.invariant.1 c.index.result.now c.index.ensures c.if-index-bit-eq0.false))

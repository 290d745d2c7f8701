use Rattle.std.proofs.Common.{◌≡◌, ◌<◌, ◌+◌, ◌-◌, ◌*◌, ◌∙◌, ap, sym, arith, length}
use Rattle.std.proofs.lemmas.List.{with_items_is}
use Rattle.seize_words.specs.OneMemory.FreeNumbers.{IsBehind, IsTurned, numbers_in}
use Rattle.seize_words.proofs.OneMemory.FreeSteps.{places-same, taken-at, taken-count, taken-numbers}
use Rattle.seize_words.proofs.OneMemory.FreeWords.{how_many}
use Rattle.seize_words.proofs.free_numbers.FreeNumbers.take.Goals as goal

pub flag_behind-node-requires-clause-few : goal.flag_behind-node-requires-clause-few
flag_behind-node-requires-clause-few c =
    let few : c.args.before < length (numbers_in c.self.inside.first c.self.inside.nodes.items) = rw (← c.self.view_is) at c.requires in
    rw c.deref.ensures.value (omega (arith, few, how_many c.self.inside.first c.self.inside.nodes.items))

pub invariant_of-self : goal.invariant_of-self
invariant_of-self c =
    let few : c.args.before < length (numbers_in c.self.inside.first c.self.inside.nodes.items) = rw (← c.self.view_is) at c.requires in
    let behind : IsBehind c.self.inside.first c.self.inside.nodes.items c.args.before c.flag_behind-node.result.0 c.flag_behind-node.result.1 =
    rw c.deref.ensures.value at c.flag_behind-node.ensures in
    let turned : IsTurned c.self.inside.first (64 * c.flag_behind-node.result.0 + c.flag_behind-node.result.1) c.self.inside.nodes.items c.turn.new.nodes =
    rw c.deref_mut.ensures.value at c.turn.ensures.turned in
    let long : length c.turn.new.nodes ≡ length c.self.inside.nodes.items = c.turn.ensures.length ∙ ap length c.deref_mut.ensures.value in
    let count = taken-count c.self.inside.first c.self.inside.nodes.items c.args.before c.flag_behind-node.result.0 c.flag_behind-node.result.1 behind
    c.turn.new.nodes turned few in
    rw (with_items_is c.self.inside.nodes c.turn.new.nodes (long ∙ sym c.self.inside.nodes.ok.0)) (
      c.turn.ensures.tree,
      c.self.invariant.1 ∙ places-same c.self.inside.first c.self.inside.nodes.items c.turn.new.nodes long,
      omega (arith, count, c.self.invariant.2),
    )

pub returns-clause-number : goal.returns-clause-number
returns-clause-number c =
    let behind : IsBehind c.self.inside.first c.self.inside.nodes.items c.args.before c.flag_behind-node.result.0 c.flag_behind-node.result.1 =
    rw c.deref.ensures.value at c.flag_behind-node.ensures in
    let same : (c.flag_behind-node.result.0 - c.self.inside.first) * 64 + c.flag_behind-node.result.1 + 1
    ≡ 1 + (64 * (c.flag_behind-node.result.0 - c.self.inside.first) + c.flag_behind-node.result.1) = omega arith in
    rw (← c.self.view_is)
    (same ∙ sym (taken-at c.self.inside.first c.self.inside.nodes.items c.args.before c.flag_behind-node.result.0 c.flag_behind-node.result.1 behind
    ((c.flag_behind-node.result.0 - c.self.inside.first) * 64 + c.flag_behind-node.result.1 + 1)))

pub returns-clause-after : goal.returns-clause-after
returns-clause-after c =
    let behind : IsBehind c.self.inside.first c.self.inside.nodes.items c.args.before c.flag_behind-node.result.0 c.flag_behind-node.result.1 =
    rw c.deref.ensures.value at c.flag_behind-node.ensures in
    let turned : IsTurned c.self.inside.first (64 * c.flag_behind-node.result.0 + c.flag_behind-node.result.1) c.self.inside.nodes.items c.turn.new.nodes =
    rw c.deref_mut.ensures.value at c.turn.ensures.turned in
    let long : length c.turn.new.nodes ≡ length c.self.inside.nodes.items = c.turn.ensures.length ∙ ap length c.deref_mut.ensures.value in
    rw (← c.self.view_is)
    (ap (λ ns. record { numbers = ns; room = c.self.inside.room })
    (rw (with_items_is c.self.inside.nodes c.turn.new.nodes (long ∙ sym c.self.inside.nodes.ok.0))
    (taken-numbers c.self.inside.first c.self.inside.nodes.items c.args.before c.flag_behind-node.result.0 c.flag_behind-node.result.1 behind
    c.turn.new.nodes turned)))

-- It is a step of the lookup at this try.
use Rattle.std.specs.Prelude.{◌≡◌, Some, IsSome, is_some}
use Rattle.std.proofs.Common.{sym, ◌∙◌, ap, subst}
use Rattle.seize_words.specs.OneMemory.Mem.{value_at}
use Rattle.owner_calls.proofs.Owned.Lookups.Tries.{found_at, try_sees, try_names, try_passes}
use Rattle.owner_calls.proofs.tries.try_at.Goals as goal
use Rattle.owner_calls.proofs.tries.try_at.Goals.{then-may_be, else-may_be}

pub value-requires : goal.value-requires
value-requires g c =
    subst (λ b. IsSome (value_at c.args.memory.now b)) (sym c.block_of.ensures)
    (try_sees (g.Q.Equivalent.equivalent c.args.asked.now) c.args.memory.now c.args.lookup.now c.args.trial c.load-word.result
    (found_at _ _ c.look.ensures _ _ c.at.ensures _ c.load-word.ensures.0) c.requires (sym c.may_be.ensures ∙ c.if-may_be.true))

pub returns-clause-step : goal.returns-clause-step
returns-clause-step g c =
    let keys = g.Q.Equivalent.equivalent c.args.asked.now in
    let found = found_at _ _ c.look.ensures _ _ c.at.ensures _ c.load-word.ensures.0 in
    elim c.if-may_be.branch [
      | then-may_be w ↦
          try_names keys c.args.memory.now c.args.lookup.now c.args.trial c.load-word.result found c.seen-finding.result c.is_some.result w.value.result.now (sym c.may_be.ensures ∙ w.if-may_be.true)
          (subst (λ b. value_at c.args.memory.now b ≡ Some w.value.result.now) w.block_of.ensures w.value.ensures) (c.is_some.ensures ∙ ap is_some w.met-is ∙ w.pair_asked-met.ensures.asks)
          c.seen-finding.ensures
      | else-may_be w ↦
          try_passes keys c.args.memory.now c.args.lookup.now c.args.trial c.load-word.result found c.seen-finding.result c.is_some.result (sym c.may_be.ensures ∙ w.if-may_be.false)
          (c.is_some.ensures ∙ ap is_some w.met-is) c.seen-finding.ensures
    ]

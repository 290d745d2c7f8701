-- The pairs that are left are listed.
use Rattle.std.specs.Prelude.{◌≡◌, ◌≤◌, ◌+◌, ◌++◌, ◌∷◌, [], ℕ}
use Rattle.std.proofs.Common.{refl, sym, ap, ◌∙◌, arith}
use Rattle.run_schedules.specs.Given.SeizeWordsMem.{value_at}
use Rattle.run_effects.specs.Effects.Known.{known}
use Rattle.run_effects.specs.Tallies.Left.{noted_below}
use Rattle.run_effects.proofs.Tallies.Taken.{none_listed, one_listed}
use Rattle.run_effects.proofs.left.pairs_left.Goals as goal
use Rattle.run_effects.proofs.left.pairs_left.Goals.{in-Pair+in_ok-push, in_default}

pub loop-block-init : goal.loop-block-init
loop-block-init g c = (c.new-pairs.ensures.items, λ b past. refl)

pub take_pair-pair-requires : goal.take_pair-pair-requires
take_pair-pair-requires g c =
    let h = c.requires c.loop-block.block c.in-Pair.number (sym c.role_of.ensures ∙ c.in-Pair.is) in
    (h.0, h.1, c.loop-block.invariant.1 c.loop-block.block (omega arith) ∙ h.2)

pub loop-block-preserved : goal.loop-block-preserved
loop-block-preserved g c =
    let roles = (known c.args.notes.now).roles in
    let value = value_at c.args.memory in
    let block = c.loop-block.block in
    let i = c.loop-block.invariant in
    elim c.match-role_of.branch as (λ _. (c.match-role_of.pairs.items ≡ noted_below roles value (block + 1)) × ((b : ℕ) → block + 1 ≤ b → value_at c.match-role_of.memory b ≡ value b)) [
      | in-Pair+in_ok-push w ↦
          (let n = w.in-Pair.number in
          let is = sym c.role_of.ensures ∙ w.in-Pair.is in
          let h = c.requires block n is in
          let here = i.1 block (omega arith) ∙ h.2 in (
            one_listed roles value block c.loop-block.pairs.items i.0 n is h.0 h.1 h.2 c.match-role_of.pairs.items
                (ap (λ v. v.items) w.pairs-is ∙ w.in_ok-push.ensures.items ∙ ap (λ p. c.loop-block.pairs.items ++ p ∷ []) (w.take_pair-pair.ensures.pair h.0 h.1 here)),
            λ b past. ap (λ x. value_at x b) w.memory-is ∙ w.take_pair-pair.ensures.others b (λ e. omega (arith, past, e)) ∙ i.1 b (omega (arith, past)),
          ))
      | in_default w ↦ (
        ap (λ v. v.items) w.pairs-is ∙ none_listed roles value block c.loop-block.pairs.items i.0 (λ n is. w.in_default.not-Pair n (c.role_of.ensures ∙ is)),
        λ b past. ap (λ x. value_at x b) w.memory-is ∙ i.1 b (omega (arith, past)),
      )
    ]

pub returns : goal.returns
returns g c = (c.blocks-block-end.result, λ b past. c.blocks-block-end.ensures b past, c.loop-block.invariant.0 ∙ (let e : c.loop-block.block ≡ c.blocks-block-end.result = omega (arith, c.loop-block-test.false, c.loop-block.auto.block-end) in ap (noted_below (known c.args.notes.now).roles (value_at c.args.memory)) e))

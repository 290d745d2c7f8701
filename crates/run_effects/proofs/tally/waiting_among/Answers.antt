-- The numbers of those that wait are listed.
use Rattle.std.specs.Prelude.{◌++◌, drop, slice_index_or, None}
use Rattle.std.proofs.Common.{◌≡◌, ◌+◌, sym, ap, ◌∙◌}
use Rattle.std.proofs.lemmas.List.{get_or_default}
use Rattle.run_effects.specs.Tallies.Tally.{numbers_at, passes}
use Rattle.run_effects.specs.declared.tally.Whereabouts.TheVariants.{Unborn}
use Rattle.run_effects.proofs.Tallies.Numbers.{number_added, number_passed, numbers_end}
use Rattle.run_effects.proofs.tally.waiting_among.Goals as goal
use Rattle.run_effects.proofs.tally.waiting_among.Goals.{then-waits+in_ok-push, else-waits}

pub loop-place-init : goal.loop-place-init
loop-place-init c = ap (λ l. l ++ numbers_at (passes None) 0 c.args.pairs.now) c.new-numbers.ensures.items

pub loop-place-preserved : goal.loop-place-preserved
loop-place-preserved c =
    let all = numbers_at (passes None) 0 c.args.pairs.now in
    let i = c.loop-place.place in
    let x = slice_index_or c.args.pairs.now i Unborn in
    let is = get_or_default c.args.pairs.now i Unborn x c.loop-place-test.true in
    elim c.if-waits.branch as (λ _. c.if-waits.numbers.items ++ numbers_at (passes None) (i + 1) (drop (i + 1) c.args.pairs.now) ≡ all) [
      | then-waits+in_ok-push w ↦
          number_added (passes None) all c.loop-place.numbers.items c.args.pairs.now i x c.loop-place-test.true is c.loop-place.invariant (sym c.waits.ensures ∙ w.if-waits.true) c.if-waits.numbers.items
          (ap (λ v. v.items) w.numbers-is ∙ w.in_ok-push.ensures.items)
      | else-waits w ↦
          ap (λ v. v.items ++ numbers_at (passes None) (i + 1) (drop (i + 1) c.args.pairs.now)) w.numbers-is
          ∙ number_passed (passes None) all c.loop-place.numbers.items c.args.pairs.now i x c.loop-place-test.true is c.loop-place.invariant (sym c.waits.ensures ∙ w.if-waits.false)
    ]

pub returns : goal.returns
returns c = numbers_end (passes None) _ c.loop-place.numbers.items c.args.pairs.now c.loop-place.place c.loop-place-test.false c.loop-place.invariant

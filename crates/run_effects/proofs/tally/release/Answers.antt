-- What waits behind a table waits by itself.
use Rattle.std.specs.Prelude.{drop, slice_index_or}
use Rattle.std.proofs.Common.{◌+◌, refl, sym, ap, ◌∙◌}
use Rattle.std.proofs.lemmas.List.{get_or_default}
use Rattle.run_effects.specs.declared.tally.Behind.{Behind}
use Rattle.run_effects.specs.declared.tally.Whereabouts.TheVariants.{Unborn}
use Rattle.run_effects.proofs.Tallies.Tallies.{Releases, releases_all, releases_next}
use Rattle.run_effects.proofs.tally.release.Goals as goal
use Rattle.run_effects.proofs.tally.release.Goals.{then-same+in_ok-put, else-same}

pub loop-waiting-init : goal.loop-waiting-init
loop-waiting-init c = λ n. refl

pub loop-waiting-preserved : goal.loop-waiting-preserved
loop-waiting-preserved c =
    let none : Behind = record { pair = 0; table = record { map = 0; turn = 0 } } in
    let x = slice_index_or c.args.behind.now c.loop-waiting.waiting-index none in
    let is = get_or_default c.args.behind.now c.loop-waiting.waiting-index none x c.loop-waiting-test.true in
    elim c.if-same.branch as (λ _. Releases c.args.table (λ n. slice_index_or c.args.pairs.now.items n Unborn) c.args.behind.now (drop (c.loop-waiting.waiting-index + 1) c.args.behind.now) (λ n. slice_index_or c.if-same.pairs.items n Unborn)) [
      | then-same+in_ok-put w ↦
          releases_next c.args.table (λ n. slice_index_or c.args.pairs.now.items n Unborn) c.args.behind.now c.loop-waiting.waiting-index x c.loop-waiting-test.true is
          (λ n. slice_index_or c.loop-waiting.pairs.items n Unborn) (λ n. slice_index_or c.if-same.pairs.items n Unborn) c.loop-waiting.invariant _ (sym c.same.ensures ∙ w.if-same.true)
          (λ n. ap (λ v. slice_index_or v.items n Unborn) w.pairs-is ∙ w.in_ok-put.ensures n)
      | else-same w ↦
          releases_next c.args.table (λ n. slice_index_or c.args.pairs.now.items n Unborn) c.args.behind.now c.loop-waiting.waiting-index x c.loop-waiting-test.true is
          (λ n. slice_index_or c.loop-waiting.pairs.items n Unborn) (λ n. slice_index_or c.if-same.pairs.items n Unborn) c.loop-waiting.invariant _ (sym c.same.ensures ∙ w.if-same.false)
          (λ n. ap (λ v. slice_index_or v.items n Unborn) w.pairs-is)
    ]

pub returns : goal.returns
returns c =
    releases_all c.args.table (λ n. slice_index_or c.args.pairs.now.items n Unborn) c.args.behind.now c.loop-waiting.waiting-index c.loop-waiting-test.false
    (λ n. slice_index_or c.loop-waiting.pairs.items n Unborn) c.loop-waiting.invariant
